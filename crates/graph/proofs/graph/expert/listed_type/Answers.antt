use Rattle.std.proofs.Common.{◌≡◌, List, [], ◌∷◌, length, get_or, sym, ap, subst, arith}
use Rattle.inc_value.specs.declared.ty.Ty.{Ty}
use Rattle.inc_value.specs.declared.ty.Ty.TheVariants as ty
use Rattle.inc_terms.specs.Code.{def_of}
use Rattle.node_arena.specs.Arena.{row_of}
use Rattle.graph.proofs.Asking.{expert_takes}
use Rattle.graph.proofs.graph.expert.listed_type.Goals as goal

pub bounds-takes-1 : goal.bounds-takes-1
bounds-takes-1 c =
    let takes = expert_takes c.args.arena.now c.args.expert (row_of c.in-Some.row.now) c.in-Expert.function c.in-Expert.initial [] c.requires.sound
    (sym c.in-Some.ensures) (ap def_of c.in-Expert.is) in
    let count = ap length takes in let same = ap length c.takes.ensures.value in omega (arith, count, same)

pub returns-in-Expert-clause-ty : goal.returns-in-Expert-clause-ty
returns-in-Expert-clause-ty c =
    let f = c.in-Expert.function in
    let takes = expert_takes c.args.arena.now c.args.expert (row_of c.in-Some.row.now) f c.in-Expert.initial [] c.requires.sound
    (sym c.in-Some.ensures) (ap def_of c.in-Expert.is) in (
      row_of c.in-Some.row.now,
      f,
      c.in-Expert.initial,
      [],
      sym c.in-Some.ensures,
      ap def_of c.in-Expert.is,
      subst (λ (tys : List Ty). f.sig.takes ≡ f.sig.gives ∷ get_or tys 1 ty.Int ∷ []) (sym c.takes.ensures.value) takes,
    )
