use Rattle.std.proofs.Common.{Err, sym, ap, subst, ◌∙◌}
use Rattle.stabilizer.specs.Weights.{SidesFit}
use Rattle.stabilizer.specs.declared.parts.Parts.{Parts}
use Rattle.graph.specs.Effects.{TakesBeside}
use Rattle.graph.specs.Standing.{IsUnbroken}
use Rattle.graph.proofs.Asking.{UnlinkPasses, is_expert, unlink_answer, unlink_refused}
use Rattle.graph.proofs.Linking.{arena_unlinked, loses_link, on_err, sound_unlinked}
use Rattle.graph.proofs.Seeing.{seen_as}
use Rattle.graph.proofs.Stabilizing.{on_ok}
use Rattle.graph.proofs.graph.Graph.unlink.Goals as goal
use Rattle.graph.proofs.graph.Graph.unlink.Goals.{in-Ok-unlink, in-Err-unlink}

pub invariant_of-self : goal.invariant_of-self
invariant_of-self g c = (
  sound_unlinked _ c.self.inside.parts c.unlink.new.self c.self.inside.observers.made c.self.inside.rooted c.self.inside.since c.self.inside.refused
      c.self.invariant.0 (rw (← c.self.view_is) at c.in_ok-check.ensures.unbroken) c.args.expert c.args.node c.unlink.result c.unlink.ensures.unlinked
      c.unlink.ensures.err,
  c.self.invariant.1,
  subst (SidesFit (g.F.Functions.known c.self.inside.functions) (g.F.Functions.right c.self.inside.functions))
      (sym (arena_unlinked c.self.inside.parts c.unlink.new.self c.args.expert c.args.node c.unlink.result c.unlink.ensures.unlinked
      c.unlink.ensures.err)) c.self.invariant.2,
)

pub returns-in-Err : goal.returns-in-Err
returns-in-Err g c =
    let inside = c.self.inside in
    let s = seen_as inside.functions inside.parts inside.observers inside.rooted inside.since inside.refused in
    let whole : IsUnbroken s = rw (← c.self.view_is) at c.in_ok-check.ensures.unbroken in
    let a = c.in-Err.ensures in
    rw (← c.self.view_is) (unlink_refused s c.args.expert c.args.node whole c.in-Err.fault
    (λ is. (rw (c.arena.ensures) at a.unknown).0 (ap Err is))
    (λ is. (let k = (rw (c.arena.ensures) at a.not_expert).0 (ap Err is) in ((k.0, k.1), k.2))) a.fault)

pub returns : goal.returns
returns g c =
    let inside = c.self.inside in
    let s = seen_as inside.functions inside.parts inside.observers inside.rooted inside.since inside.refused in
    let whole : IsUnbroken s = rw (← c.self.view_is) at c.in_ok-check.ensures.unbroken in
    let t = seen_as inside.functions c.unlink.new.self inside.observers inside.rooted inside.since inside.refused in
    let a = c.unlink.ensures in
    let takes : TakesBeside s.nodes c.args.expert c.in-Ok.field-0 = rw (c.arena.ensures) at c.in-Ok.ensures.ty in
    let passes : UnlinkPasses c.unlink.result c.match-unlink.result = elim c.match-unlink.branch [
      | in-Ok-unlink w ↦ subst (λ r. UnlinkPasses r c.match-unlink.result) (sym w.in-Ok-unlink.is) w.result-is
      | in-Err-unlink w ↦ subst (λ r. UnlinkPasses r c.match-unlink.result) (sym w.in-Err-unlink.is) (w.result-is ∙ ap Err w.unlink_fault.ensures)
    ] in
    rw (← c.self.view_is) (unlink_answer s t c.args.expert c.args.node whole (rw (c.arena.ensures) at c.in-Ok.ensures.given)
    (is_expert s c.args.expert c.args.node c.in-Ok.field-0 takes) c.unlink.result c.match-unlink.result passes
    (on_ok c.unlink.result (λ l. (
      l.there,
      loses_link inside.functions inside.parts c.unlink.new.self inside.observers inside.rooted
          inside.since inside.refused c.args.expert c.args.node l,
    )) a.unlinked) a.absent
    (on_err c.unlink.result (λ e. ap (λ (p : Parts). seen_as inside.functions p inside.observers inside.rooted inside.since inside.refused) e) a.err))
