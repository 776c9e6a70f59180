use Rattle.std.proofs.Common.{inl, List, Err, refl, sym, ap, subst, ◌∙◌, arith}
use Rattle.node_arena.specs.declared.arena.variable.SetFault.TheVariants as set
use Rattle.node_arena.specs.Arena.{IsSet, IsVariable}
use Rattle.inc_value.specs.declared.node.NodeId.{NodeId}
use Rattle.point_map.specs.Rows.{Rows, at}
use Rattle.inc_terms.specs.Depend.{main, change}
use Rattle.node_outcomes.specs.Progress.{Progress}
use Rattle.graph.specs.declared.fault.GraphFault.TheVariants as fault
use Rattle.graph.proofs.Stabilizing.{on_ok}
use Rattle.graph.proofs.Faulting.{Passes, passed, ok_passes, set_variable, set_unknown, set_not_var, set_wrong_type}
use Rattle.inc_terms.specs.Within.{Given}
use Rattle.node_outcomes.specs.Row.{cutoff_in}
use Rattle.graph.proofs.Seeing.{beside_as, built_set}
use Rattle.graph.proofs.Fitting.{set_answer_fit}
use Rattle.graph.proofs.Freezes.{freezes_answered}
use Rattle.expert_nodes.specs.Experts.{ExpertPlace, expert_at}
use Rattle.graph.proofs.Sound.{sound_but_heap}
use Rattle.graph.proofs.graph.Graph.set_var.Goals as goal
use Rattle.graph.proofs.graph.Graph.set_var.Goals.{in-Ok-set_var, in-Err-set_var}

pub returns-clause-unknown : goal.returns-clause-unknown
returns-clause-unknown g c = rw (← c.self.view_is) (passed c.set_var.result c.match-set_var.result set.Unknown fault.Unknown
    (elim c.match-set_var.branch [
      | in-Ok-set_var w ↦ subst (λ r. Passes r c.match-set_var.result) (sym w.in-Ok-set_var.is) w.result-is
      | in-Err-set_var w ↦ subst (λ r. Passes r c.match-set_var.result) (sym w.in-Err-set_var.is) (w.result-is ∙ ap Err w.set_fault.ensures)
    ]) set_unknown refl c.set_var.ensures.unknown (rw (← c.self.view_is) at c.in-Ok.ensures.unbroken))

pub returns-clause-not_var : goal.returns-clause-not_var
returns-clause-not_var g c = rw (← c.self.view_is) (passed c.set_var.result c.match-set_var.result set.NotVar fault.NotVar
    (elim c.match-set_var.branch [
      | in-Ok-set_var w ↦ subst (λ r. Passes r c.match-set_var.result) (sym w.in-Ok-set_var.is) w.result-is
      | in-Err-set_var w ↦ subst (λ r. Passes r c.match-set_var.result) (sym w.in-Err-set_var.is) (w.result-is ∙ ap Err w.set_fault.ensures)
    ]) set_not_var refl c.set_var.ensures.not_var (rw (← c.self.view_is) at c.in-Ok.ensures.unbroken))

pub returns-clause-wrong_type : goal.returns-clause-wrong_type
returns-clause-wrong_type g c = rw (← c.self.view_is) (passed c.set_var.result c.match-set_var.result set.WrongType fault.WrongType
    (elim c.match-set_var.branch [
      | in-Ok-set_var w ↦ subst (λ r. Passes r c.match-set_var.result) (sym w.in-Ok-set_var.is) w.result-is
      | in-Err-set_var w ↦ subst (λ r. Passes r c.match-set_var.result) (sym w.in-Err-set_var.is) (w.result-is ∙ ap Err w.set_fault.ensures)
    ]) set_wrong_type refl c.set_var.ensures.wrong_type (rw (← c.self.view_is) at c.in-Ok.ensures.unbroken))

pub invariant_of-self : goal.invariant_of-self
invariant_of-self g c = (
  sound_but_heap _ c.self.inside.parts c.set_var.new.self c.self.inside.observers.made c.self.inside.rooted c.self.inside.since c.self.inside.refused c.self.invariant.0
      (rw (← c.self.view_is) at c.in-Ok.ensures.unbroken) c.set_var.ensures.stays
      (let a = c.set_var.ensures in
      freezes_answered c.self.inside.parts c.set_var.new.self c.args.node c.args.value a.stays.rows c.set_var.result
      (set_variable _ c.set_var.result a.unknown a.not_var a.set) a.err c.self.inside.since),
  c.self.invariant.1,
  (let a = c.set_var.ensures in
      set_answer_fit (g.F.Functions.known c.self.inside.functions) (g.F.Functions.right c.self.inside.functions) c.self.inside.parts c.set_var.new.self
      c.args.node c.args.value c.set_var.result a.set a.err (omega (arith, a.stays.given)) c.self.invariant.2),
)

pub returns-clause-set : goal.returns-clause-set
returns-clause-set g c =
    let a = c.set_var.ensures in
    let beside = λ (set : IsSet c.self.inside.parts.arena c.set_var.new.self.arena c.args.node c.args.value)
    (variable : (IsVariable c.self.inside.parts.arena c.args.node → ⊥) → ⊥). beside_as c.self.inside.functions
    c.self.inside.parts c.set_var.new.self c.self.inside.observers c.self.inside.rooted c.self.inside.since c.self.inside.refused (Given c.self.inside.parts.arena.given)
    (ap (λ v. v.items) a.stays.ran) a.stays.links a.stays.roots (λ p given. ap (λ (m : Rows Progress). at m p) a.stays.rows)
    (λ n given. built_set c.self.inside.parts c.set_var.new.self c.args.node c.args.value set variable a.stays.rows
    (λ m. ap (λ (roots : Rows NodeId). at roots (change m)) a.stays.right_sides) n)
    (λ n given. ap (λ (e : List ExpertPlace). expert_at e n) a.stays.experts)
    (λ n. inl (ap (λ (m : Rows Progress). cutoff_in (at m (main n))) a.stays.rows)) in
    let passes : Passes c.set_var.result c.match-set_var.result = elim c.match-set_var.branch [
      | in-Ok-set_var w ↦ subst (λ r. Passes r c.match-set_var.result) (sym w.in-Ok-set_var.is) w.result-is
      | in-Err-set_var w ↦ subst (λ r. Passes r c.match-set_var.result) (sym w.in-Err-set_var.is) (w.result-is ∙ ap Err w.set_fault.ensures)
    ] in
    rw (← c.self.view_is) (ok_passes _ c.set_var.result c.match-set_var.result passes
    (on_ok c.set_var.result (λ set. record { beside = beside set.0 set.1; given = a.stays.given; set = set.0 })
    (set_variable _ c.set_var.result a.unknown a.not_var a.set)))
