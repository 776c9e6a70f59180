use Rattle.std.proofs.Common.{false, Err, refl, sym, ap, subst, ◌∙◌}
use Rattle.std.specs.Prelude.{IsTrue}
use Rattle.stabilizer.specs.Weights.{SidesFit}
use Rattle.stabilizer.specs.declared.parts.Parts.{Parts}
use Rattle.graph.specs.Effects.{MayBeListed, TakesBeside}
use Rattle.graph.specs.Standing.{IsUnbroken}
use Rattle.graph.proofs.Asking.{LinkPasses, is_expert, link_answer, link_mistyped, link_refused, not_listable}
use Rattle.graph.proofs.Linking.{arena_linked, gains_link, gains_nothing, on_err, sound_linked}
use Rattle.graph.proofs.Seeing.{seen_as}
use Rattle.graph.proofs.Stabilizing.{on_ok}
use Rattle.graph.proofs.graph.Graph.link.Goals as goal
use Rattle.graph.proofs.graph.Graph.link.Goals.{in-Ok-link, in-Err-link}

no_truth : IsTrue false → ⊥
no_truth e = cc

pub invariant_of-self : goal.invariant_of-self
invariant_of-self g c = (
  sound_linked _ c.self.inside.parts c.link.new.self c.self.inside.observers.made c.self.inside.rooted c.self.inside.since c.self.inside.refused
      c.self.invariant.0 (rw (← c.self.view_is) at c.in_ok-check.ensures.unbroken) c.args.expert c.args.node c.link.result c.link.ensures.linked
      c.link.ensures.err,
  c.self.invariant.1,
  subst (SidesFit (g.F.Functions.known c.self.inside.functions) (g.F.Functions.right c.self.inside.functions))
      (sym (arena_linked c.self.inside.parts c.link.new.self c.args.expert c.args.node c.link.result c.link.ensures.linked c.link.ensures.err))
      c.self.invariant.2,
)

pub returns-in-Err : goal.returns-in-Err
returns-in-Err g c =
    let inside = c.self.inside in
    let s = seen_as inside.functions inside.parts inside.observers inside.rooted inside.since inside.refused in
    let whole : IsUnbroken s = rw (← c.self.view_is) at c.in_ok-check.ensures.unbroken in
    let a = c.in-Err.ensures in
    rw (← c.self.view_is) (link_refused s c.args.expert c.args.node whole c.in-Err.fault
    (λ is. (rw (c.arena.ensures) at a.unknown).0 (ap Err is))
    (λ is. (let k = (rw (c.arena.ensures) at a.not_expert).0 (ap Err is) in ((k.0, k.1), k.2))) a.fault)

pub returns-then-not-is_of_type : goal.returns-then-not-is_of_type
returns-then-not-is_of_type g c =
    let inside = c.self.inside in
    let s = seen_as inside.functions inside.parts inside.observers inside.rooted inside.since inside.refused in
    let whole : IsUnbroken s = rw (← c.self.view_is) at c.in_ok-check.ensures.unbroken in
    let takes : TakesBeside s.nodes c.args.expert c.in-Ok.takes = rw (c.arena.ensures) at c.in-Ok.ensures.ty in
    rw (← c.self.view_is) (link_mistyped s c.args.expert c.args.node whole (rw (c.arena.ensures) at c.in-Ok.ensures.given)
    (is_expert s c.args.expert c.args.node c.in-Ok.takes takes)
    (not_listable s c.args.expert c.args.node c.in-Ok.takes takes
    (λ fits. no_truth ((rw (c.arena-2.ensures) at c.if-not-is_of_type.ensures.1) fits))))

pub returns : goal.returns
returns g c =
    let inside = c.self.inside in
    let s = seen_as inside.functions inside.parts inside.observers inside.rooted inside.since inside.refused in
    let whole : IsUnbroken s = rw (← c.self.view_is) at c.in_ok-check.ensures.unbroken in
    let t = seen_as inside.functions c.link.new.self inside.observers inside.rooted inside.since inside.refused in
    let a = c.link.ensures in
    let may : MayBeListed s c.args.expert c.args.node = record {
      element = c.in-Ok.takes;
      takes = rw (c.arena.ensures) at c.in-Ok.ensures.ty;
      fits = (rw (c.arena-2.ensures) at c.if-not-is_of_type.ensures.0) refl;
    } in
    let passes : LinkPasses c.link.result c.match-link.result = elim c.match-link.branch [
      | in-Ok-link w ↦ subst (λ r. LinkPasses r c.match-link.result) (sym w.in-Ok-link.is) w.result-is
      | in-Err-link w ↦ subst (λ r. LinkPasses r c.match-link.result) (sym w.in-Err-link.is) (w.result-is ∙ ap Err w.link_fault.ensures)
    ] in
    rw (← c.self.view_is) (link_answer s t c.args.expert c.args.node whole (rw (c.arena.ensures) at c.in-Ok.ensures.given) may c.link.result
    c.match-link.result passes (on_ok c.link.result (gains_link inside.functions inside.parts c.link.new.self inside.observers inside.rooted
    inside.since inside.refused c.args.expert c.args.node) a.linked) a.full
    (λ e. ap (λ (p : Parts). seen_as inside.functions p inside.observers inside.rooted inside.since inside.refused) (a.barred e))
    (on_err c.link.result (gains_nothing inside.functions inside.parts c.link.new.self inside.observers inside.rooted inside.since inside.refused
    c.args.expert c.args.node) a.err))
