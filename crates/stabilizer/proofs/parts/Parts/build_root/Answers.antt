use Rattle.std.proofs.Common.{◌≡◌, None, Some, refl, sym, ap, subst, ◌∙◌}
use Rattle.inc_value.specs.declared.node.NodeId.{NodeId}
use Rattle.inc_value.specs.declared.node.Point.{Point}
use Rattle.inc_terms.specs.Depend.{change}
use Rattle.point_map.specs.Rows.{Rows, at, Changes}
use Rattle.wiring.specs.declared.refused.Refused.TheVariants.{Memory}
use Rattle.wiring.proofs.Raising.{if_refusal}
use Rattle.stabilizer.specs.Rooted.{GetsNoRoot, no_room, stopped, with_roots}
use Rattle.stabilizer.proofs.Building.Kept.{roots_roomy}
use Rattle.stabilizer.proofs.parts.Parts.build_root.Goals as goal

pub returns-in_err-reserve-clause-refused : goal.returns-in_err-reserve-clause-refused
returns-in_err-reserve-clause-refused g c =
    let K = g.F.Functions in
    let fs = c.args.functions.now in
    let old = c.args.self.now in
    if_refusal (GetsNoRoot K fs fs old (with_roots old c.reserve.new.self) c.args.bind c.args.recipe.now.function) Memory c.from_residual.result
    c.from_residual.ensures.1 (no_room c.reserve.ensures.rows refl refl refl)

pub build-requires : goal.build-requires
build-requires g c =
    let kept = roots_roomy c.args.self.now c.reserve.new.self c.reserve.ensures.rows c.requires.may.kept in
    assumption (kept, c.requires.may)

pub insert-requires-clause-absent : goal.insert-requires-clause-absent
insert-requires-clause-absent g c =
    let n = change c.args.bind in
    let roots = c.build.new.self.work.roots in
    subst (λ (p : Point). at roots p ≡ None) (sym c.change.ensures)
    (ap (λ (m : Rows NodeId). at m n) c.build.ensures.built.grew.round.roots ∙ (c.reserve.ensures.rows n ∙ c.requires.rootless))

pub returns-in_err-root-clause-refused : goal.returns-in_err-root-clause-refused
returns-in_err-root-clause-refused g c =
    let K = g.F.Functions in
    let fs = c.args.functions.now in
    let old = c.args.self.now in
    let e = c.in_err-root.field-0.0 in
    if_refusal (GetsNoRoot K fs c.build.new.functions old c.build.new.self c.args.bind c.args.recipe.now.function) e
    c.from_residual-in_err-root.result c.from_residual-in_err-root.ensures.1
    (stopped c.reserve.ensures.rows c.build.ensures.built c.in_err-root.ensures.none c.in_err-root.ensures.stops c.build.ensures.spends)

pub returns-clause-root : goal.returns-clause-root
returns-clause-root g c =
    record {
      roomy = c.reserve.new.self;
      room = c.reserve.ensures.rows;
      grown = c.build.new.self;
      built = c.build.ensures.built;
      root = c.in_ok-root.root;
      is_root = c.in_ok-root.ensures.root;
      gives = c.in_ok-root.ensures.gives;
      roots = c.insert.new.self;
      put = subst (λ (p : _). Changes c.build.new.self.work.roots c.insert.new.self p (Some c.in_ok-root.root)) c.change.ensures
          c.insert.ensures.changes;
      rest = refl;
    }
