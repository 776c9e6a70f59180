-- A point in a scope is linked to its gate, and waits for it.
use Rattle.std.proofs.Common.{◌≡◌, ◌⊎◌, inl, inr, ◌<◌, true, false, List, [], ◌∷◌, Option, None, Some, refl, sym, ap, subst, ◌∙◌, arith}
use Rattle.std.specs.Prelude.{is_some, IsSome}
use Rattle.std.proofs.lemmas.Option.{same_Some}
use Rattle.inc_value.specs.declared.node.NodeId.{NodeId}
use Rattle.inc_value.specs.declared.node.Part.{Part}
use Rattle.inc_value.specs.declared.node.Part.TheVariants.{Main, Change}
use Rattle.inc_value.specs.declared.node.Point.{Point}
use Rattle.inc_value.specs.Choice.{here, step}
use Rattle.inc_terms.specs.Depend.{gate, main, change, subject_of}
use Rattle.inc_terms.specs.Graph.{Row}
use Rattle.inc_terms.specs.Plan.{gate_of}
use Rattle.inc_terms.specs.Term.{Functions}
use Rattle.stabilize_round.specs.Invariant.{Invariant}
use Rattle.inc_terms.specs.Within.{Given}
use Rattle.point_map.specs.Rows.{Rows, at, Holds}
use Rattle.necessary_graph.specs.Part.{Needed}
use Rattle.node_arena.specs.Arena.{Arena, row_at}
use Rattle.stabilize_round.specs.Machine as move
use Rattle.stabilize_round.specs.State as machine
use Rattle.stabilize_round.specs.State.{State, Start, count, planned, plan_at}
use Rattle.stabilize_round.specs.Steps.{plainly}
use Rattle.stabilize_round.specs.Wire.{Raise, Finish}
use Rattle.stabilize_round.proofs.Low.{among_gate}
use Rattle.stabilize_round.proofs.Points.{at_same, among_count}
use Rattle.node_outcomes.specs.Computing.{has_part}
use Rattle.node_outcomes.specs.Row.{IsRewritten, with_stage, settled_in, stage_in}
use Rattle.node_outcomes.specs.Progress.{Progress}
use Rattle.node_outcomes.specs.declared.row.Stage.{Stage}
use Rattle.node_outcomes.specs.declared.row.Stage.TheVariants as code
use Rattle.wiring.specs.Kept.{IsKept}
use Rattle.wiring.specs.Stands.{MatchesState, hand, debts, owes, Counts}
use Rattle.wiring.specs.Wiring.{IsMarked, IsTarget, LacksLinks, GateRan, Wires, WiresTaken}
use Rattle.wiring.specs.declared.work.Work.{Work}
use Rattle.wiring.proofs.Lifting.{Lifts, DueAfter, staged_lifts}
use Rattle.wiring.proofs.Raising.{staged_now, leaves_hand, hand_empty, no_change, one_row}
use Rattle.wiring.proofs.Owing.{owes_staged, owes_whoever}
use Rattle.wiring.proofs.Unlinked.{none_owed}
use Rattle.wiring.proofs.Staying.{row_of_state, stage_is, stage_was, staged_row}
use Rattle.wiring.proofs.Scheduling.{put_in, put_stands, scheduled}

-- ---- points that may be linked to

-- one that has a row
pub rowed_target : (arena : Arena) (work : Work) (q : Point) → IsKept arena work → Holds work.rows q → IsTarget arena work q
rowed_target arena work q kept rowed = record { given = kept.given q (kept.there q rowed); there = inl rowed }

-- the main of a node that was given
pub main_is_target : (arena : Arena) (work : Work) (p : Point) → IsKept arena work → Given arena.given p.node → p.part ≡ Main → IsTarget arena work p
main_is_target arena work p kept given part = record { given = given; there = by (row_at arena p.node) refl }
  where
    by : (x : Option Row) → row_at arena p.node ≡ x → Holds work.rows p ⊎ (row_at arena p.node ≡ None)
    by None e = inr e
    by (Some r) e = inl (kept.rows p ∙ (ap (λ (x : Option Row). has_part x p.part) e ∙ ap (λ (x : Part). has_part (Some r) x) part))

-- the change of a node of two points has a row
pub change_rowed : (arena : Arena) (work : Work) (n : NodeId) (r : Row) → IsKept arena work → row_at arena n ≡ Some r → IsSome (subject_of r.def)
    → Holds work.rows (change n)
change_rowed arena work n r kept row two = kept.rows (change n) ∙ (ap (λ (x : Option Row). has_part x Change) row ∙ two)

-- the bind in whose scope a live node stands lives, and has a change
pub gate_row : (arena : Arena) (work : Work) (n b : NodeId) (r : Row) → IsKept arena work → row_at arena n ≡ Some r → r.scope ≡ Some b
    → (x : Row) × (row_at arena b ≡ Some x) × IsSome (subject_of x.def)
gate_row arena work n b r kept row scope =
    let k = kept.scopes n r b row scope in
    (k.0, k.4, ap (λ d. is_some (subject_of d)) k.5)

pub gate_rowed : (arena : Arena) (work : Work) (n b : NodeId) (r : Row) → IsKept arena work → row_at arena n ≡ Some r → r.scope ≡ Some b
    → Holds work.rows (change b)
gate_rowed arena work n b r kept row scope =
    let k = gate_row arena work n b r kept row scope in change_rowed arena work b k.0 kept k.1 k.2

-- what has a stage has a row
pub stage_rowed : (rows : Rows Progress) (p : Point) (st : Stage) → stage_in (at rows p) ≡ Some st → Holds rows p
stage_rowed rows p st e = let k = staged_row (at rows p) st e in ap is_some k.1

-- ---- what a point lacks, by its stage

-- one that has no links yet, and stands in no scope
pub lacks_bare : (arena : Arena) (work : Work) (p : Point) → ((r : Row) × (row_at arena p.node ≡ Some r) × (r.scope ≡ None))
    → (stage_in (at work.rows p) ≡ Some code.Bare) ⊎ (stage_in (at work.rows p) ≡ Some code.Gated) → LacksLinks arena work p
lacks_bare arena work p row (inl bare) r' e = inr (bare, ap (λ (x : Row). x.scope) (one_row arena p.node row.0 r' row.1 e) ∙ row.2)
lacks_bare arena work p row (inr gated) r' e = inl gated

-- one that has its gate's link alone
pub lacks_gated : (arena : Arena) (work : Work) (p : Point) → stage_in (at work.rows p) ≡ Some code.Gated → LacksLinks arena work p
lacks_gated arena work p gated r e = inl gated

-- where there is no gate each that there is ran
pub ran_free : (arena : Arena) (work : Work) (p : Point) → ((r : Row) × (row_at arena p.node ≡ Some r) × (r.scope ≡ None)) → GateRan arena work p
ran_free arena work p row r' b e scope =
    absurd (let none = row.2 in let same = ap (λ (x : Row). x.scope) (one_row arena p.node row.0 r' row.1 e) in cc)

-- the gate is the one of the scope
pub ran_gate : (arena : Arena) (work : Work) (p : Point) (bind : NodeId) → ((r : Row) × (row_at arena p.node ≡ Some r) × (r.scope ≡ Some bind))
    → settled_in work.round (at work.rows (change bind)) ≡ true → GateRan arena work p
ran_gate arena work p bind row settled r' b e scope =
    let same = ap (λ (x : Row). x.scope) (one_row arena p.node row.0 r' row.1 e) in
    let is : b ≡ bind = same_Some b bind (sym scope ∙ (same ∙ row.2)) in
    ap (λ (x : NodeId). settled_in work.round (at work.rows (change x))) is ∙ settled

-- ---- a point that was taken from the worklist, has more and is owed nothing leaves it

pub more_wires : (arena : Arena) (work : Work) (p : Point) → Holds work.rows p → Needed work.graph p
    → (stage_in (at work.rows p) ≡ Some code.Bare → ⊥) → (stage_in (at work.rows p) ≡ Some code.Gated → ⊥) → owes work true p ≡ []
    → WiresTaken arena work work p
more_wires arena work p rowed need not_bare not_gated none F z s counts inv on unlinked = (s, plainly here, hand_empty s arena work counts p in_hand (owes_whoever work (s.needed p) p none) out, unlinked)
  where
    in_hand : MatchesState arena work counts (Some (hand p [])) s
    in_hand = subst (λ (xs : List Point). MatchesState arena work counts (Some (hand p xs)) s) none on

    out : s.todo p ≡ true → ⊥
    out = none_owed s p unlinked ((on.needed p).1 need) (λ b. not_bare (stage_was on p code.Bare rowed b))
        (λ g. not_gated (stage_was on p code.Gated rowed g)) (in_hand.owed p ∙ at_same p [] (debts work s.needed))

-- ---- it is linked to its gate

module _ (arena : Arena) (p : Point) (bind : NodeId) (r : Row) (row : row_at arena p.node ≡ Some r) (scope : r.scope ≡ Some bind)
    (old : Work) (need : Needed old.graph p) (bare : stage_in (at old.rows p) ≡ Some code.Bare) (rows : Rows Progress)
    (w : IsRewritten old.rows rows p (with_stage code.Gated)) (rowed : Holds old.rows p) where
  abbrev gated_work : Work
  gated_work = record old { rows = rows }

  pub is_gated_now : stage_in (at rows p) ≡ Some code.Gated
  is_gated_now = staged_now old rows p code.Gated w rowed

  pub gate_lifts : Lifts arena old gated_work p (change bind ∷ [])
  gate_lifts = staged_lifts arena old rows p code.Gated (change bind ∷ []) w raises
    where
      raises : (F : Functions) (z : Start) (s : State) (counts : Counts) → Invariant F z s → MatchesState arena old counts (Some (hand p [])) s
          → Raise s p machine.Gated (change bind ∷ [])
      raises F z s counts inv on =
          let row_is : s.graph.row p.node ≡ Some r = row_of_state on p.node ∙ row in
          let is_bare : s.stage p ≡ machine.Bare = stage_is on p code.Bare bare in
          record {
            todo = inv.rows.bare p ((on.needed p).1 need) is_bare;
            owed = on.owed p ∙ at_same p [] (debts old s.needed);
            plan = λ b.
                let all : count b (plan_at s.graph s.out s.died p (s.graph.row p.node) machine.Gated) ≡ count b (change bind ∷ []) =
                ap (λ (x : Option Row). count b (plan_at s.graph s.out s.died p x machine.Gated)) row_is
                ∙ ap (λ (x : Option NodeId). count b (gate_of x)) scope in
                let before : count b (planned s p) ≡ 0 =
                ap (λ (x : machine.Stage). count b (plan_at s.graph s.out s.died p (s.graph.row p.node) x)) is_bare
                ∙ ap (λ (x : Option Row). count b (plan_at s.graph s.out s.died p x machine.Bare)) row_is in
                omega (arith, all, before);
            lower = λ e. cc;
            gates = λ more. absurd (elim more [ inl e ↦ cc | inr e ↦ cc ]);
            rights = λ full. absurd (let e = full in cc);
          }

  pub gate_due : DueAfter arena old gated_work p (change bind)
  gate_due F z s t counts before same inv on unlinked = record {
    holds = inv;
    stands = on;
    depends = gate {r = r} {b = bind} (row_of_state on p.node ∙ row) scope refl;
    confirmed = record {
      gate = λ r' b e scope'. inl (ap change (is_bind r' b (sym (row_of_state on p.node) ∙ e) scope'));
      right = λ r' e main among. absurd (no_change t.graph p.node r'.def (t.out (change p.node)) bind among);
    };
    gate = λ r' b e scope' among more. absurd (let g = is_gated_now in elim more [ inl x ↦ cc | inr x ↦ cc ]);
    unlinked = unlinked;
  }
    where
      is_bind : (r' : Row) (b : NodeId) → row_at arena p.node ≡ Some r' → r'.scope ≡ Some b → bind ≡ b
      is_bind r' b e scope' =
          same_Some bind b (sym scope ∙ (sym (ap (λ (x : Row). x.scope) (one_row arena p.node r r' row e)) ∙ scope'))

-- ---- and waits for it

module _ (arena : Arena) (p : Point) (bind : NodeId) (r : Row) (row : row_at arena p.node ≡ Some r) (scope : r.scope ≡ Some bind)
    (old new : Work) (kept : IsKept arena old) (need : Needed old.graph p) (gated : stage_in (at old.rows p) ≡ Some code.Gated)
    (unsettled : settled_in old.round (at old.rows (change bind)) ≡ false) (marked : IsMarked old.graph new.graph (change bind))
    (rest : new ≡ record old { graph = new.graph }) where
  pub gate_waits : Wires arena old new (Some (hand p []))
  gate_waits F z s counts inv on unlinked =
      let out = leaves_hand F z (put_in (change bind) old new marked rest s arena counts (Some (hand p [])) on) arena new counts p
      (put_stands (change bind) old new marked rest s arena counts (Some (hand p [])) on) unlinked (owes_staged new (s.needed p) p code.Gated gated_now (λ e. cc))
      finishes in
      (out.0, plainly (step (move.schedule (scheduled (change bind) old new marked rest s arena counts (Some (hand p [])) on gate_need may) refl, tt) out.1), out.2, out.3)
    where
      gated_now : stage_in (at new.rows p) ≡ Some code.Gated
      gated_now = ap (λ (w : Work). stage_in (at w.rows p)) rest ∙ gated

      row_is : s.graph.row p.node ≡ Some r
      row_is = row_of_state on p.node ∙ row

      is_gated : s.stage p ≡ machine.Gated
      is_gated = stage_is on p code.Gated gated

      -- it has the link
      linked : 0 < s.links p (change bind)
      linked =
          let is = inv.rows.links p (change bind) ((on.needed p).1 need) in
          let plan : count (change bind) (planned s p) ≡ count (change bind) (gate_of r.scope) =
          ap (λ (x : machine.Stage). count (change bind) (plan_at s.graph s.out s.died p (s.graph.row p.node) x)) is_gated
          ∙ ap (λ (x : Option Row). count (change bind) (plan_at s.graph s.out s.died p x machine.Gated)) row_is in
          let there = among_count (change bind) (gate_of r.scope) (among_gate r.scope bind scope) in
          let owes_none : count (change bind) (s.owed p) ≡ 0 = ap (count (change bind)) (on.owed p ∙ at_same p [] (debts old s.needed)) in
          omega (arith, is, plan, there, owes_none)

      gate_need : Needed old.graph (change bind)
      gate_need = (on.needed (change bind)).0 (inv.web.onto p (change bind) linked)

      is_unsettled : s.settled (change bind) ≡ false
      is_unsettled = on.settled (change bind) ∙ unsettled

      may : (s.heap (change bind) ≡ true) ⊎ ((x : Row) × (s.graph.row bind ≡ Some x) × (s.needed (change bind) ≡ true)
          × ((s.settled (change bind) ≡ false) ⊎ ((◌≡◌ {A = Part} Change Change) × (s.todo (main bind) ≡ true)
          × (s.stage (main bind) ≡ machine.Static))))
      may =
          let k = gate_row arena old p.node bind r kept row scope in
          inr (k.0, row_of_state on bind ∙ k.1, inv.web.onto p (change bind) linked, inl is_unsettled)

      finishes : Finish (put_in (change bind) old new marked rest s arena counts (Some (hand p [])) on) p
      finishes = record {
        owed = on.owed p ∙ at_same p [] (debts old s.needed);
        bare = λ n e. let g = is_gated in cc;
        gated = λ r' e n g. (
          bind,
          ap (λ (x : Row). x.scope) (one_row arena p.node r r' row (sym (row_of_state on p.node) ∙ e)) ∙ scope,
          is_unsettled,
          marked.told gate_need,
        );
        static = λ r' e n st. absurd (let g = is_gated in cc);
      }
