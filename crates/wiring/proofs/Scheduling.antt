-- A point that has a row is put into the heap, also one that was settled: what is kept, and how the state follows.
use Rattle.std.proofs.Common.{◌≡◌, ◌⊎◌, inl, inr, ℕ, Bool, true, false, length, Option, Some, refl, sym, ap, subst, ◌∙◌, arith}
use Rattle.std.specs.Prelude.{is_some}
use Rattle.inc_value.specs.declared.node.Part.TheVariants.{Change}
use Rattle.inc_value.specs.declared.node.Point.{Point}
use Rattle.inc_terms.specs.Depend.{main}
use Rattle.inc_terms.specs.Graph.{Row}
use Rattle.point_map.specs.Rows.{Rows, at, Holds, KeepsRows}
use Rattle.link_table.specs.Links.{times, Reads}
use Rattle.necessity.specs.Need.{root_times}
use Rattle.height_order.specs.Levels.{level}
use Rattle.necessary_graph.specs.Part.{Needed, IsInStep}
use Rattle.node_arena.specs.Arena.{Arena}
use Rattle.stabilize_round.specs.State as machine
use Rattle.stabilize_round.specs.State.{State}
use Rattle.stabilize_round.specs.Wire.{heaped, Schedule}
use Rattle.stabilize_round.proofs.Points.{same_or_other}
use Rattle.node_outcomes.specs.Progress.{Progress}
use Rattle.wiring.specs.Growing.{Grows}
use Rattle.wiring.specs.Kept.{IsKept}
use Rattle.wiring.specs.Stands.{MatchesState, PointInHand, Counts}
use Rattle.wiring.specs.Wiring.{IsMarked, KeepsPlaces}
use Rattle.wiring.specs.declared.work.Work.{Work}
use Rattle.wiring.proofs.Growing.{no_more_unneeded}
use Rattle.wiring.proofs.Deciding.{same_need}
use Rattle.wiring.proofs.Staying.{KeepsMost, most_still, most_kept_there, shown_stands, rest_lists, rest_round}

module _ (q : Point) (old new : Work) (marked : IsMarked old.graph new.graph q) (rest : new ≡ record old { graph = new.graph }) where
  rows_too : new ≡ record old { graph = new.graph; rows = new.rows }
  rows_too = rest ∙ ap (λ (m : Rows Progress). record old { graph = new.graph; rows = m }) (sym (ap (λ (w : Work). w.rows) rest))

  row_as : KeepsRows old.rows new.rows
  row_as a = ap (λ (w : Work). at w.rows a) rest

  marked_most : KeepsMost old new
  marked_most = most_still old new row_as (rest_lists old new rows_too) (rest_round old new rows_too)

  pub marked_need : (a : Point) → (Needed new.graph a → Needed old.graph a) × (Needed old.graph a → Needed new.graph a)
  marked_need a = same_need old.graph new.graph (λ b. ap (λ x. root_times x b) marked.graph.roots) (λ b d. ap (λ x. times x b d) marked.graph.links) a

  pub marked_places : KeepsPlaces old new
  marked_places = record {
    rows = λ a. ap is_some (row_as a);
    roots = λ a. ap (λ x. root_times x a) marked.graph.roots;
    deaths = marked_most.deaths;
    round = ap (λ (w : Work). w.round) rest;
    experts = marked_most.experts;
  }

  pub marked_grows : IsInStep old.graph → IsInStep new.graph → Grows old new
  marked_grows before after points covers =
      let fewer = no_more_unneeded old.graph new.graph before after (λ a. (marked_need a).1) points in
      let retries = ap (λ (x : Work). x.retries) rest in
      let todo = ap (λ (x : Work). length x.todo.items) rest in
      rw retries (omega (arith, fewer, todo))

  module _ (arena : Arena) (rowed : Holds old.rows q) (step_new : IsInStep new.graph) where
    pub marked_kept : IsKept arena old → IsKept arena new
    marked_kept k = most_kept_there old new marked_most arena k step_new (λ a. ap (λ (m : Rows ℕ). is_some (at m a)) marked.graph.heights)
        (λ a. (marked_need a).1) (λ a b l. subst (λ x. Reads x a b) marked.graph.links l) (λ a h. elim (same_or_other q a) [
          | inl e ↦ subst (λ (x : Point). Holds old.rows x) e rowed
          | inr ne ↦ k.heap a (sym (ap is_some (marked.others a (λ e. ne (sym e)))) ∙ h)
        ])

  module _ (s : State) (arena : Arena) (counts : Counts) (held : Option PointInHand) (on : MatchesState arena old counts held s) where
    abbrev heap' : Point → Bool
    heap' a = is_some (at new.graph.heap a)

    -- the state with what is in the heap now
    abbrev pub put_in : State
    put_in = heaped s heap'

    pub put_stands : MatchesState arena new counts held put_in
    put_stands = shown_stands s arena old new counts held s.height heap' row_as marked_most.lists (rest_round old new rows_too)
        (λ a b. ap (λ x. times x a b) marked.graph.links) (λ a. ap (λ x. root_times x a) marked.graph.roots) (ap (λ (w : Work). w.todo.items) rest)
        (λ a n. on.height a ((marked_need a).0 n) ∙ ap (λ (m : Rows ℕ). level m a) (sym marked.graph.heights)) (λ a. refl) on

    -- a move, where the point may be put in
    pub scheduled : Needed old.graph q
        → (s.heap q ≡ true) ⊎ ((r : Row) × (s.graph.row q.node ≡ Some r) × (s.needed q ≡ true)
        × ((s.settled q ≡ false) ⊎ ((q.part ≡ Change) × (s.todo (main q.node) ≡ true) × (s.stage (main q.node) ≡ machine.Static))))
        → Schedule s heap'
    scheduled need may = record {
      kept = λ a h. elim (same_or_other q a) [
        | inl e ↦ subst (λ (x : Point). heap' x ≡ true) e (marked.told need)
        | inr ne ↦ ap is_some (marked.others a (λ e. ne (sym e))) ∙ (sym (on.heap a) ∙ h)
      ];
      new = λ a h. elim (same_or_other q a) [
        | inr ne ↦ inl (on.heap a ∙ (sym (ap is_some (marked.others a (λ e. ne (sym e)))) ∙ h))
        | inl e ↦ subst
            (λ (x : Point). (s.heap x ≡ true) ⊎ ((r' : Row) × (s.graph.row x.node ≡ Some r') × (s.needed x ≡ true)
            × ((s.settled x ≡ false) ⊎ ((x.part ≡ Change) × (s.todo (main x.node) ≡ true) × (s.stage (main x.node) ≡ machine.Static)))))
            e
            may
      ];
    }
