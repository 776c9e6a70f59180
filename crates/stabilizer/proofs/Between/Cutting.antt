-- A node's cutoff is set.
use Rattle.std.proofs.Common.{◌≡◌, ◌⊎◌, inl, inr, ◌&&◌, ℕ, Bool, true, cond, [], map, Option, None, Some, refl, sym, ap, subst, ◌∙◌}
use Rattle.std.specs.Prelude.{option_map}
use Rattle.std.proofs.lemmas.Option.{none-some}
use Rattle.inc_value.specs.declared.node.NodeId.{NodeId}
use Rattle.inc_value.specs.declared.node.Part.TheVariants.{Main}
use Rattle.inc_value.specs.declared.node.Point.{Point}
use Rattle.inc_terms.specs.Depend.{main}
use Rattle.inc_terms.specs.Graph.{Def}
use Rattle.node_outcomes.specs.Meaning.{Meaning}
use Rattle.map_nodes.specs.declared.cutoff.Cutoff.{Cutoff}
use Rattle.expert_nodes.specs.Experts.{fresh_at}
use Rattle.point_map.specs.Rows.{Rows, at, Holds}
use Rattle.necessary_graph.specs.Part.{Needed}
use Rattle.node_arena.specs.Arena.{Arena}
use Rattle.stabilize_round.specs.Invariant.{ScopesRooted}
use Rattle.stabilize_round.specs.Machine.{Entry}
use Rattle.stabilize_round.specs.State.{State, Start}
use Rattle.stabilize_round.proofs.Points.{same_or_other, node_or_other}
use Rattle.wiring.specs.Kept.{IsKept}
use Rattle.wiring.specs.Places.{ChangesNode, for_parts}
use Rattle.stabilizer.specs.Kept.{PartsKept, graph_in}
use Rattle.stabilizer.specs.Look.{cutoff_at}
use Rattle.stabilizer.specs.Round.{IsReady}
use Rattle.stabilizer.specs.declared.parts.Parts.{Parts}
use Rattle.node_outcomes.specs.Row.{IsRewritten, is_full, with_cutoff, settled_in, stage_in, stage_of, cutoff_in}
use Rattle.node_outcomes.specs.declared.row.Stage.{Stage}
use Rattle.wiring.specs.Stands.{MatchesState, counts_of, owes}
use Rattle.node_outcomes.specs.Progress.{Progress}
use Rattle.wiring.specs.declared.work.Work.{Work}
use Rattle.stabilizer.proofs.Between.Keeping.{kept_rewritten}
use Rattle.node_outcomes.specs.Progress.{new_row}
use Rattle.wiring.proofs.Holding.{graph_rewritten}

-- but for its cutoff a row is what it was
record WasCut (old : Rows Progress) (p : Point) (k : Progress) : Type 0 where
  row : Progress
  was : at old p ≡ Some row
  stage : k.stage ≡ row.stage
  outcome : k.outcome ≡ row.outcome
  last : k.last ≡ row.last

mapped : (x : Option Progress) (c : Cutoff) (k : Progress) → option_map (with_cutoff c) x ≡ Some k → (row : Progress) × (x ≡ Some row) × (k ≡ with_cutoff c row)
mapped None c k e = absurd (none-some k e)
mapped (Some row) c k e = (row, refl, sym (some_eq e))
  where
    some_eq : {a b : Progress} → ◌≡◌ {A = Option Progress} (Some a) (Some b) → a ≡ b
    some_eq h = cc

settled_still : (round : ℕ) (c : Cutoff) (x : Option Progress) → settled_in round (option_map (with_cutoff c) x) ≡ settled_in round x
settled_still round c None = refl
settled_still round c (Some k) = refl

module _ (arena : Arena) (old : Work) (rows : Rows Progress) (id : NodeId) (c : Cutoff) (kept : IsKept arena old)
    (w : IsRewritten old.rows rows (main id) (with_cutoff c)) where
  abbrev new : Work
  new = record old { rows = rows }

  cut_kept : IsKept arena new
  cut_kept = kept_rewritten arena old new (main id) (with_cutoff c) kept w (λ k. refl) (λ k. refl) refl
      (λ k is fit. record {
        outcome = fit.outcome;
        right = fit.right;
        call = fit.call;
        settled = fit.settled;
        fired = λ part on. let h = fit.fired part on in
            record { row = h.row; is_row = h.is_row; is_freeze = h.is_freeze; value = h.value; last = h.last };
        room = fit.room;
      })

  stage_same : (x : Option Progress) → stage_in (option_map (with_cutoff c) x) ≡ stage_in x
  stage_same None = refl
  stage_same (Some k) = refl

  stage_was : (p : Point) → stage_in (at rows p) ≡ stage_in (at old.rows p)
  stage_was p = elim (same_or_other (main id) p) [
    | inl same ↦ subst (λ (x : Point). stage_in (at rows x) ≡ stage_in (at old.rows x)) same (ap stage_in w.changed ∙ stage_same (at old.rows (main id)))
    | inr ne ↦ ap stage_in (w.others p (λ h. ne (sym h)))
  ]

  -- as much is owed
  owes_was : (needed : Bool) (p : Point) → owes new needed p ≡ owes old needed p
  owes_was needed p = ap (λ (x : Option Stage). cond (needed && is_full x) (map main (fresh_at old.experts p.node)) []) (stage_was p)

  row_was : (p : Point) (k : Progress) → at rows p ≡ Some k → WasCut old.rows p k
  row_was p k e = elim (same_or_other (main id) p) [
    | inl same ↦
        let m = mapped (at old.rows (main id)) c k (sym w.changed ∙ subst (λ (x : Point). at rows x ≡ Some k) (sym same) e) in
        record {
          row = m.0;
          was = subst (λ (x : Point). at old.rows x ≡ Some m.0) same m.1;
          stage = ap (λ (x : Progress). x.stage) m.2;
          outcome = ap (λ (x : Progress). x.outcome) m.2;
          last = ap (λ (x : Progress). x.last) m.2;
        }
    | inr ne ↦ record { row = k; was = sym (w.others p (λ h. ne (sym h))) ∙ e; stage = refl; outcome = refl; last = refl }
  ]

  settled_as : (p : Point) → settled_in old.round (at rows p) ≡ settled_in old.round (at old.rows p)
  settled_as p = elim (same_or_other (main id) p) [
    | inl same ↦ subst (λ (x : Point). settled_in old.round (at rows x) ≡ settled_in old.round (at old.rows x)) same
        (ap (settled_in old.round) w.changed ∙ settled_still old.round c (at old.rows (main id)))
    | inr ne ↦ ap (settled_in old.round) (w.others p (λ h. ne (sym h)))
  ]

-- so parts are kept, and a round may begin with them
module _ (old new : Parts) (id : NodeId) (c : Cutoff) (kept : PartsKept old) (w : IsRewritten old.work.rows new.work.rows (main id) (with_cutoff c))
    (rest : new ≡ record old { work = record old.work { rows = new.work.rows } }) where
  abbrev arena : Arena
  arena = old.arena

  abbrev work : Work
  work = record old.work { rows = new.work.rows }

  abbrev parts : Parts
  parts = record old { work = work }

  parts_kept : PartsKept parts
  parts_kept = record {
    work = cut_kept arena old.work new.work.rows id c kept.work w;
    scopes = kept.scopes;
    dying = kept.dying;
    clock = kept.clock;
    listing = kept.listing;
  }

  pub cut_parts : PartsKept new
  cut_parts = subst PartsKept (sym rest) parts_kept

  module _ (M : Meaning) (ready : IsReady M old) where
    abbrev state : State
    state = record ready.state { cutoff = cutoff_at work }

    abbrev start : Start
    start = record ready.start { cutoff = cutoff_at work }

    stands : MatchesState arena work (counts_of state) None state
    stands = record {
      graph = ready.stands.graph ∙ sym (graph_rewritten arena old.work work (main id) (with_cutoff c) w (λ k is. refl) (λ k. refl) refl (λ n. refl));
      out = λ p k e. let b = was p k e in ready.stands.out p b.row b.was ∙ sym b.outcome;
      last = λ n k e. let b = was (main n) k e in ready.stands.last n b.row b.was ∙ sym b.last;
      cutoff = λ n k e. ap cutoff_in e;
      stale = ready.stands.stale;
      links = ready.stands.links;
      root = ready.stands.root;
      needed = ready.stands.needed;
      height = ready.stands.height;
      heap = ready.stands.heap;
      settled = λ p. ready.stands.settled p ∙ sym (settled_as arena old.work new.work.rows id c kept.work w p);
      stage = λ p k e. let b = was p k e in ready.stands.stage p b.row b.was ∙ ap stage_of (sym b.stage);
      owed = λ p. ready.stands.owed p ∙ sym (owes_was arena old.work new.work.rows id c kept.work w (ready.state.needed p) p);
      todo = ready.stands.todo;
      retries = ready.stands.retries;
      died = ready.stands.died;
      ran = ready.stands.ran;
      counts = refl;
      given = ready.stands.given;
    }
      where
        was : (p : Point) (k : Progress) → at new.work.rows p ≡ Some k → WasCut old.work.rows p k
        was p k e = row_was arena old.work new.work.rows id c kept.work w p k e

    entry : Entry M.functions start state
    entry = assumption (ready.entry)

    parts_ready : IsReady M parts
    parts_ready =
        let inside : ScopesRooted (graph_in parts) =
        subst ScopesRooted (sym (graph_rewritten arena old.work work (main id) (with_cutoff c) w (λ k is. refl) (λ k. refl) refl (λ n. refl)))
        ready.inside in
        let linked : (p : Point) → Needed work.graph p → Holds work.graph.heap p ⊎ (owes work true p ≡ []) = (λ p need. elim (ready.linked p need) [
          | inl h ↦ inl h
          | inr none ↦ inr (owes_was arena old.work new.work.rows id c kept.work w true p ∙ none)
        ]) in
        search (parts_kept, stands, entry, linked, inside, ready)

    pub cut_ready : IsReady M new
    cut_ready = subst (IsReady M) (sym rest) parts_ready

-- ---- cutoffs stay

-- a new node's is Equal, as that of a node that isn't there
pub added_cutoffs : (old new : Work) (id : NodeId) (def : Def) → at old.rows (main id) ≡ None
    → ChangesNode old.rows new.rows id (for_parts def (λ part. new_row def)) → (n : NodeId) → cutoff_at new n ≡ cutoff_at old n
added_cutoffs old new id def none rows n = elim (node_or_other id n) [
  | inl e ↦ subst (λ (x : NodeId). cutoff_at new x ≡ cutoff_at old x) e (ap cutoff_in (rows.now Main) ∙ sym (ap cutoff_in none))
  | inr ne ↦ ap cutoff_in (rows.others (main n) (λ h. ne (sym h)))
]
