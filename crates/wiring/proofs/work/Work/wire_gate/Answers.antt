use Rattle.std.proofs.Common.{◌≡◌, ◌∙◌, inl, inr, true, None, Some}
use Rattle.inc_terms.specs.Graph.{Row}
use Rattle.point_map.specs.Rows.{at}
use Rattle.node_arena.specs.Arena.{row_at}
use Rattle.node_outcomes.specs.Row.{stage_in}
use Rattle.wiring.proofs.Answering.{same_places, grows_here, gate_done, gate_asked}
use Rattle.wiring.proofs.Gating.{more_wires, lacks_bare, ran_free}
use Rattle.wiring.proofs.Lifting.{stays_here}
use Rattle.wiring.proofs.Owing.{full_or_not, owes_partly}
use Rattle.wiring.proofs.Deciding.{not_both}
use Rattle.wiring.proofs.Linking.{is_none}
use Rattle.wiring.proofs.work.Work.wire_gate.Goals as goal

-- ---- it stands in no scope

pub returns-in_default : goal.returns-in_default
returns-in_default c =
    let arena = c.args.arena.now in
    let old = c.args.self.now in
    let p = c.args.p in
    let r = c.requires.row in
    let free : (x : Row) × (row_at arena p.node ≡ Some x) × (x.scope ≡ None) = (r.0, r.1, r.2 ∙ is_none c.args.scope c.in_default.not-Some) in
    gate_done c.lacks_links.result arena old p c.requires.kept
    (λ t. record {
      in_hand = stays_here arena old p;
      lacking = lacks_bare arena old p free (c.lacks_links.ensures.0 t);
      ran = ran_free arena old p free;
      needed = c.requires.needed;
    })
    (λ f. more_wires arena old p c.requires.there c.requires.needed
    (λ bare. not_both c.lacks_links.result f (c.lacks_links.ensures.1 (inl bare)))
    (λ gated. not_both c.lacks_links.result f (c.lacks_links.ensures.1 (inr gated)))
    (owes_partly old true p (full_or_not (stage_in (at old.rows p)) c.requires.partly)))

-- ---- it has no links yet

pub link_gate-requires-clause-row : goal.link_gate-requires-clause-row
link_gate-requires-clause-row c = let r = c.requires.row in (r.0, r.1, r.2 ∙ c.in-Some.is)

-- ---- it has more

pub returns-then-not-is_gated : goal.returns-then-not-is_gated
returns-then-not-is_gated c =
    gate_done _ c.args.arena.now c.args.self.now c.args.p c.requires.kept (λ t. absurd (let e = t in cc))
    (λ f. more_wires c.args.arena.now c.args.self.now c.args.p c.requires.there c.requires.needed
    (λ bare. not_both c.is_bare.result c.if-is_bare.false (c.is_bare.ensures.1 bare))
    (λ gated. not_both c.is_gated.result c.if-not-is_gated.true (c.is_gated.ensures.1 gated))
    (owes_partly c.args.self.now true c.args.p (full_or_not (stage_in (at c.args.self.now.rows c.args.p)) c.requires.partly)))

-- ---- it has its gate's link alone

pub passes_gate-requires-clause-row : goal.passes_gate-requires-clause-row
passes_gate-requires-clause-row c = let r = c.requires.row in (r.0, r.1, r.2 ∙ c.in-Some.is)

pub returns : goal.returns
returns c =
    let old = c.args.self.now in
    let r = c.requires.row in
    gate_asked c.passes_gate.result c.args.arena.now old old c.passes_gate.new.self c.args.p c.in-Some.bind
    (owes_partly old true c.args.p (full_or_not (stage_in (at old.rows c.args.p)) c.requires.partly))
    (stays_here c.args.arena.now old c.args.p) (same_places old) (grows_here old) c.requires.needed (c.is_gated.ensures.0 c.if-not-is_gated.false)
    (r.0, r.1, r.2 ∙ c.in-Some.is) c.passes_gate.ensures
