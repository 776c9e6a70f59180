use Rattle.std.proofs.Common.{◌++◌, ◌∷◌, [], List, Vec, Global, sym, ap, ◌∙◌}
use Rattle.std.proofs.lemmas.List.{append_assoc}
use Rattle.inc_value.specs.declared.node.NodeId.{NodeId}
use Rattle.stabilizer.proofs.Between.Listing.{list_adds, list_skips}
use Rattle.stabilizer.proofs.parts.Parts.freezes_since.Goals.{then-is_unfrozen+in-Ok, else-is_unfrozen}
use Rattle.stabilizer.proofs.parts.Parts.freezes_since.Goals as goal

pub loop-id-preserved : goal.loop-id-preserved
loop-id-preserved c =
    let parts = c.args.self.now in
    let done = c.loop-id.invariant.0 in
    let so = c.loop-id.invariant.2 in
    let sound = c.requires.kept.work.sound in
    let first = c.in-Some.ensures.some in
    elim c.if-is_unfrozen.branch [
      | then-is_unfrozen+in-Ok w ↦ (
        done ++ c.in-Some.id ∷ [],
        ap (λ (v : Vec NodeId Global). v.items) w.nodes-is ∙ (w.in-Ok.ensures.items
            ∙ (ap (λ (ns : List NodeId). ns ++ c.in-Some.id ∷ []) c.loop-id.invariant.1
            ∙ append_assoc c.args.nodes.now.items done (c.in-Some.id ∷ []))),
        list_adds parts.arena parts.work c.args.count c.loop-id.next done so sound c.in-Some.id first (sym w.if-is_unfrozen.ensures),
      )
      | else-is_unfrozen w ↦ (
        done,
        ap (λ (v : Vec NodeId Global). v.items) w.nodes-is ∙ c.loop-id.invariant.1,
        list_skips parts.arena parts.work c.args.count c.loop-id.next done so sound c.in-Some.id first (sym w.if-is_unfrozen.ensures),
      )
    ]
