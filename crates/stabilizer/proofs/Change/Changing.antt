-- The state stands for the parts whose heap holds the change still, and what holds of results.
use Rattle.std.proofs.Common.{◌≡◌, inl, inr, ℕ, None, sym, ap, subst, ◌∙◌, true}
use Rattle.std.specs.Prelude.{◌↔◌, Result, Ok, Err, OnOk, IfErr, is_some}
use Rattle.inc_value.specs.declared.node.NodeId.{NodeId}
use Rattle.inc_value.specs.declared.node.Point.{Point}
use Rattle.inc_terms.specs.Depend.{change}
use Rattle.point_map.specs.Rows.{Rows, at}
use Rattle.necessary_graph.specs.Part.{NecessaryPart, Needed}
use Rattle.node_arena.specs.Arena.{Arena}
use Rattle.stabilize_round.specs.State.{State}
use Rattle.stabilize_round.proofs.Points.{same_or_other}
use Rattle.wiring.specs.Stands.{MatchesState, Counts}
use Rattle.wiring.specs.declared.work.Work.{Work}
use Rattle.stabilizer.specs.Dying.{TakesLeast}
use Rattle.stabilizer.proofs.Change.Waiting.{put_back, with_change}
use Rattle.link_table.specs.Links.{Links, times}
use Rattle.height_order.specs.Levels.{level}
use Rattle.necessity.specs.Need.{Roots, root_times}
use Rattle.wiring.specs.Wiring.{KeepsGraph}
use Rattle.wiring.proofs.Deciding.{need_same}

-- ---- another heap

-- the state can't tell where the same is in the heap, and links, roots and heights stay
module _ (arena : Arena) (old new : Work) (rest : new ≡ record old { graph = new.graph }) (graph : KeepsGraph old.graph new.graph)
    (heap : (p : Point) → is_some (at new.graph.heap p) ≡ is_some (at old.graph.heap p)) where
  need_then : (p : Point) → Needed old.graph p → Needed new.graph p
  need_then p n = need_same old.graph new.graph graph.links graph.roots p n

  need_before : (p : Point) → Needed new.graph p → Needed old.graph p
  need_before p n = need_same new.graph old.graph (sym graph.links) (sym graph.roots) p n

  pub heap_stands : (s : State) (counts : Counts) → MatchesState arena old counts None s → MatchesState arena new counts None s
  heap_stands s counts st = subst (λ (w : Work). MatchesState arena w counts None s) (sym rest)
      (let links : (p q : Point) → s.links p q ≡ times new.graph.links p q = (λ p q. st.links p q ∙ ap (λ (l : Links). times l p q) (sym graph.links)) in
      let root : (p : Point) → s.root p ≡ root_times new.graph.roots p = (λ p. st.root p ∙ ap (λ (r : Roots). root_times r p) (sym graph.roots)) in
      let needed : (p : Point) → (s.needed p ≡ true) ↔ Needed new.graph p =
      (λ p. (λ t. need_then p ((st.needed p).0 t), λ n. (st.needed p).1 (need_before p n))) in
      let height : (p : Point) → Needed new.graph p → s.height p ≡ level new.graph.heights p =
      (λ p n. st.height p (need_before p n) ∙ ap (λ (x : Rows ℕ). level x p) (sym graph.heights)) in
      let heap' : (p : Point) → s.heap p ≡ is_some (at new.graph.heap p) = (λ p. st.heap p ∙ sym (heap p)) in
      assumption (links, root, needed, height, heap', st))

-- ---- with the change in the heap

module _ (arena : Arena) (work taken : Work) (n : NodeId) (counts : Counts) (s : State) (takes : TakesLeast work taken (change n))
    (st : MatchesState arena work counts None s) where
  same_graph : KeepsGraph work.graph (with_change taken n).graph
  same_graph = record {
    links = ap (λ (g : NecessaryPart). g.links) takes.graph;
    roots = ap (λ (g : NecessaryPart). g.roots) takes.graph;
    heights = ap (λ (g : NecessaryPart). g.heights) takes.graph;
  }

  same_heap : (a : Point) → is_some (at (with_change taken n).graph.heap a) ≡ is_some (at work.graph.heap a)
  same_heap a = elim (same_or_other a (change n)) [
    | inl e ↦ subst (λ (x : Point). is_some (at (with_change taken n).graph.heap x) ≡ is_some (at work.graph.heap x)) (sym e)
        (ap is_some (put_back taken n).changed ∙ sym takes.held)
    | inr ne ↦ ap is_some ((put_back taken n).others a ne ∙ takes.heap.others a ne)
  ]

  -- the state stands for the parts whose heap holds the change
  pub before_stands : MatchesState arena (with_change taken n) counts None s
  before_stands = heap_stands arena work (with_change taken n)
      (ap (λ (w : Work). record w { graph = (with_change taken n).graph }) takes.rest) same_graph same_heap s counts st

-- ---- results

-- what holds on success is what follows from it
pub on_ok : {A E P Q : Type 0} (r : Result A E) → (P → Q) → OnOk r P → OnOk r Q
on_ok (Ok x) f h = f h
on_ok (Err e) f h = tt

-- of two facts
pub both_ok : {A E P Q R : Type 0} (r : Result A E) → (P → Q → R) → OnOk r P → OnOk r Q → OnOk r R
both_ok (Ok x) f g h = f g h
both_ok (Err e) f g h = tt

-- and what holds of an error
pub if_err : {A E : Type 0} {P Q : E → Type 0} (r : Result A E) → ((e : E) → P e → Q e) → IfErr r P → IfErr r Q
if_err (Ok x) f h = tt
if_err (Err e) f h = f e h
