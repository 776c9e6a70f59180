use Rattle.std.proofs.Common.{◌≡◌, ◌∙◌, ◌∷◌, inl, true, List, None, Some, [], map, Err, refl, sym, ap, subst}
use Rattle.std.specs.Prelude.{is_some}
use Rattle.inc_value.specs.declared.node.Point.{Point}
use Rattle.inc_terms.specs.Depend.{kids_of, main, subject_of}
use Rattle.inc_terms.specs.Code.{def_of}
use Rattle.inc_terms.specs.Graph.{Def, Graph, Row}
use Rattle.necessary_graph.specs.Part.{Needed}
use Rattle.node_arena.specs.Arena.{NamesGiven}
use Rattle.node_outcomes.specs.Row.{stage_in}
use Rattle.node_outcomes.specs.declared.row.Stage.TheVariants as code
use Rattle.wiring.specs.Answers.{WireAnswers}
use Rattle.expert_nodes.specs.Experts.{ExpertPlace, fresh_at}
use Rattle.wiring.specs.Graph.{graph_at}
use Rattle.wiring.specs.Kept.{IsKept}
use Rattle.wiring.specs.Stands.{hand}
use Rattle.wiring.specs.Wiring.{LacksLinks, GateRan, IsTarget}
use Rattle.wiring.specs.declared.work.Work.{Work}
use Rattle.wiring.proofs.Answering.{IsOwed, staged_owed, owed_answers, refusal_answers, link_answers}
use Rattle.wiring.proofs.Gating.{main_is_target}
use Rattle.wiring.proofs.Handing.{Reads, main_reads, main_of, never_alone, subject_is_given, change_reads_subject, full_lifts, full_due}
use Rattle.wiring.proofs.Holding.{graph_staged}
use Rattle.wiring.proofs.Owing.{owes_none, two_fresh}
use Rattle.wiring.proofs.Raising.{staged_kept, staged_now, staged_ran, staged_there}
use Rattle.wiring.proofs.Lifting.{DueAfter, full_wires}
use Rattle.wiring.proofs.Deciding.{not_main}
use Rattle.wiring.proofs.work.Work.wire_rest.Goals as goal
use Rattle.wiring.proofs.work.Work.wire_rest.Goals.{After-set_stage, After-set_stage-in-Change-Some}

-- ---- a change that has no subject isn't there

pub returns-in-Change-None : goal.returns-in-Change-None
returns-in-Change-None c =
    let r = c.requires.row in
    absurd (never_alone c.args.arena.now c.args.self.now c.args.p r.0 c.requires.kept c.requires.there r.1 c.in-Change-None.is-0
    (ap subject_of r.2 ∙ sym c.in-Change-None.ensures))

-- ---- a main of one point

module _ (c : After-set_stage) where
  abbrev one_row : Row
  one_row = c.requires.row.0

  abbrev one_mid : Work
  one_mid = record c.args.self.now { rows = c.set_stage.new.rows }

  abbrev kid_links : List Point
  kid_links = map main (kids_of (graph_at c.args.arena.now c.args.self.now) c.args.p.node one_row.def)

  one : subject_of one_row.def ≡ None
  one = ap subject_of c.requires.row.2 ∙ sym c.in-Main-None.ensures

  -- another stage leaves the graph
  same_graph : graph_at c.args.arena.now one_mid ≡ graph_at c.args.arena.now c.args.self.now
  same_graph = graph_staged c.args.arena.now c.args.self.now one_mid c.args.p code.Full c.set_stage.ensures refl (λ n. refl)

  -- so its children are those of before
  kids_mid : map main (kids_of (graph_at c.args.arena.now one_mid) c.args.p.node (def_of c.args.def.now)) ≡ kid_links
  kids_mid = ap (λ (G : Graph). map main (kids_of G c.args.p.node (def_of c.args.def.now))) same_graph
      ∙ ap (λ (d : Def). map main (kids_of (graph_at c.args.arena.now c.args.self.now) c.args.p.node d)) (sym c.requires.row.2)

  kids_owed : IsOwed c.args.arena.now c.args.self.now one_mid c.args.p kid_links
  kids_owed = staged_owed c.args.arena.now c.args.self.now c.set_stage.new.rows c.args.p code.Full kid_links c.set_stage.ensures
      (full_lifts c.args.arena.now c.args.p one_row c.requires.row.1 kid_links c.args.self.now c.requires.needed c.requires.lacking c.requires.ran
      c.set_stage.new.rows c.set_stage.ensures
      (main_reads (graph_at c.args.arena.now c.args.self.now) c.args.p one_row c.in-Main-None.is-0 one))

pub connect_present-requires : goal.connect_present-requires
connect_present-requires c =
    let p = c.args.p in
    let old = c.args.self.now in
    let rows = c.set_stage.new.rows in
    let w = c.set_stage.ensures in
    let r = c.requires.row in
    let q = c.requires in record {
      main = c.in-Main-None.is-0;
      row = (r.0, r.1, r.2, one (goal.at.connect_present-requires c).After-set_stage);
      needed = q.needed;
      full = staged_now old rows p code.Full w q.there;
      ran = staged_ran old rows p code.Full w c.args.arena.now q.ran;
      kept = staged_kept old rows p code.Full w c.args.arena.now q.kept;
    }

pub returns-in-Main-None : goal.returns-in-Main-None
returns-in-Main-None c =
    let a = (goal.at.returns-in-Main-None c).After-set_stage in
    let new = c.connect_present.new.self in
    owed_answers c.connect_present.result c.args.arena.now c.args.self.now (one_mid a) new c.args.p (kid_links a) (kids_owed a)
    (subst (λ (xs : List Point). WireAnswers c.args.arena.now (one_mid a) new (Some (hand c.args.p xs)) c.connect_present.result) (kids_mid a)
    c.connect_present.ensures)

-- ---- a main of a node of two points

pub wire_pair-requires : goal.wire_pair-requires
wire_pair-requires c =
    let r = c.requires.row in
    let is = sym (main_of c.args.p c.in-Main-Some.is-0) in record {
      row = (r.0, r.1, ap (λ d. is_some (subject_of d)) r.2 ∙ ap is_some (sym c.in-Main-Some.ensures));
      needed = subst (λ (x : Point). Needed c.args.self.now.graph x) is c.requires.needed;
      lacking = subst (λ (x : Point). LacksLinks c.args.arena.now c.args.self.now x) is c.requires.lacking;
      ran = subst (λ (x : Point). GateRan c.args.arena.now c.args.self.now x) is c.requires.ran;
      kept = c.requires.kept;
    }

pub returns-in-Main-Some : goal.returns-in-Main-Some
returns-in-Main-Some c =
    subst (λ (x : Point). WireAnswers c.args.arena.now c.args.self.now c.wire_pair.new.self (Some (hand x [])) c.wire_pair.result)
    (main_of c.args.p c.in-Main-Some.is-0) c.wire_pair.ensures

-- ---- a change

module _ (c : After-set_stage-in-Change-Some) where
  abbrev r : Row
  r = c.requires.row.0

  abbrev mid : Work
  mid = record c.args.self.now { rows = c.set_stage-in-Change-Some.new.rows }

  abbrev link : Point
  link = main c.in-Change-Some.subject

  reads : (G : Graph) → Reads G c.args.p r (link ∷ [])
  reads = change_reads_subject c.args.p r c.in-Change-Some.subject c.in-Change-Some.is-0 (ap subject_of c.requires.row.2 ∙ sym c.in-Change-Some.ensures)

  kept : IsKept c.args.arena.now mid
  kept = staged_kept c.args.self.now c.set_stage-in-Change-Some.new.rows c.args.p code.Full c.set_stage-in-Change-Some.ensures c.args.arena.now c.requires.kept

  owed : IsOwed c.args.arena.now c.args.self.now mid c.args.p (link ∷ [])
  owed = staged_owed c.args.arena.now c.args.self.now c.set_stage-in-Change-Some.new.rows c.args.p code.Full (link ∷ [])
      c.set_stage-in-Change-Some.ensures
      (full_lifts c.args.arena.now c.args.p r c.requires.row.1 (link ∷ []) c.args.self.now c.requires.needed c.requires.lacking c.requires.ran
      c.set_stage-in-Change-Some.new.rows c.set_stage-in-Change-Some.ensures (reads (graph_at c.args.arena.now c.args.self.now)))

  due : DueAfter c.args.arena.now c.args.self.now mid c.args.p link
  due = full_due c.args.arena.now c.args.p r c.requires.row.1 (link ∷ []) c.args.self.now c.requires.needed c.requires.lacking c.requires.ran
      c.set_stage-in-Change-Some.new.rows c.set_stage-in-Change-Some.ensures reads link refl

  -- a node of two points has no list
  none_fresh : fresh_at c.args.self.now.experts c.args.p.node ≡ []
  none_fresh = two_fresh c.args.arena.now c.args.self.now.experts c.requires.kept.experts c.args.p.node r
      c.requires.row.1 (ap (λ d. is_some (subject_of d)) c.requires.row.2 ∙ ap is_some (sym c.in-Change-Some.ensures))

pub connect-requires : goal.connect-requires
connect-requires c =
    let arena = c.args.arena.now in
    let p = c.args.p in
    let q = c.requires in record {
      needed = q.needed;
      reader = inl (staged_there c.args.self.now c.set_stage-in-Change-Some.new.rows p code.Full c.set_stage-in-Change-Some.ensures p ∙ q.there);
      spared = λ part. absurd (not_main c.args.p.part c.in-Change-Some.is-0 part);
      target = subst (λ (x : Point). IsTarget arena (mid (goal.at.connect-requires c).After-set_stage-in-Change-Some) x) (sym c.main.ensures)
          (main_is_target arena (mid (goal.at.connect-requires c).After-set_stage-in-Change-Some) (link (goal.at.connect-requires c).After-set_stage-in-Change-Some) (kept (goal.at.connect-requires c).After-set_stage-in-Change-Some)
          (subject_is_given arena.given c.args.def.now (subst (NamesGiven arena.given) q.row.2 (q.kept.sound.names p.node (r (goal.at.connect-requires c).After-set_stage-in-Change-Some) q.row.1))
          c.in-Change-Some.subject (sym c.in-Change-Some.ensures)) refl);
      kept = kept (goal.at.connect-requires c).After-set_stage-in-Change-Some;
    }

pub returns-in-Err : goal.returns-in-Err
returns-in-Err c =
    refusal_answers c.args.arena.now c.args.self.now (mid (goal.at.returns-in-Err c).After-set_stage-in-Change-Some) c.args.p (link (goal.at.returns-in-Err c).After-set_stage-in-Change-Some) (owed (goal.at.returns-in-Err c).After-set_stage-in-Change-Some) (due (goal.at.returns-in-Err c).After-set_stage-in-Change-Some) c.connect.new.self (Err c.in-Err.refused)
    c.in-Err.refused refl (rw c.main.ensures at c.in-Err.ensures)

pub returns-in-Ok : goal.returns-in-Ok
returns-in-Ok c =
    let q = c.requires in
    let on = c.in-Ok.ensures in
    link_answers c.args.arena.now c.args.self.now (mid (goal.at.returns-in-Ok c).After-set_stage-in-Change-Some) c.args.p (link (goal.at.returns-in-Ok c).After-set_stage-in-Change-Some) (owed (goal.at.returns-in-Ok c).After-set_stage-in-Change-Some) (due (goal.at.returns-in-Ok c).After-set_stage-in-Change-Some) c.connect.new.self _ c.in-Ok.field-0
    (rw c.main.ensures at on)
    (λ t. full_wires c.args.arena.now c.connect.new.self c.args.p
    (owes_none c.connect.new.self true c.args.p (ap (λ (x : List ExpertPlace). fresh_at x c.args.p.node) on.experts ∙ none_fresh (goal.at.returns-in-Ok c).After-set_stage-in-Change-Some))
    (ap stage_in (on.row t)
    ∙ staged_now c.args.self.now c.set_stage-in-Change-Some.new.rows c.args.p code.Full c.set_stage-in-Change-Some.ensures q.there))
