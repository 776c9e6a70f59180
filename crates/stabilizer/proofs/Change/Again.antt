-- A change that wasn't turned: it is in the heap again, or its bind couldn't be built.
use Rattle.std.proofs.Common.{◌≡◌, ◌⊎◌, inl, inr, true, List, [], Option, None, Some, refl, sym, ap, subst, ◌∙◌, Vec, Global}
use Rattle.std.specs.Prelude.{Result, Ok, Err, OnOk, IfErr, IfSome, is_some, IsSome}
use Rattle.std.proofs.lemmas.Option.{none-some, same_Some}
use Rattle.inc_value.specs.declared.function.FnRef.{FnRef}
use Rattle.inc_value.specs.declared.node.NodeId.{NodeId}
use Rattle.inc_value.specs.declared.node.Point.{Point}
use Rattle.inc_value.specs.Choice.{Among}
use Rattle.inc_value.specs.declared.node.Part.TheVariants.{Change}
use Rattle.inc_terms.specs.Depend.{change, subject_of}
use Rattle.inc_terms.specs.Graph.{Row}
use Rattle.point_map.specs.Rows.{at, Holds}
use Rattle.necessity.specs.Need.{root_times, KeepsRoots}
use Rattle.necessary_graph.specs.Part.{NecessaryPart, Needed, IsInStep}
use Rattle.node_arena.specs.Arena.{Arena, row_at}
use Rattle.node_arena.specs.RightSide.{RightSide}
use Rattle.node_outcomes.specs.Computing.{has_part}
use Rattle.node_outcomes.specs.Meaning.{Meaning}
use Rattle.stabilize_round.proofs.Points.{same_or_other}
use Rattle.stabilize_round.specs.State.{State}
use Rattle.wiring.specs.Kept.{IsKept}
use Rattle.wiring.specs.Stands.{MatchesState, Counts}
use Rattle.wiring.specs.Wiring.{IsMarked}
use Rattle.wiring.specs.declared.refused.Refused.{Refused}
use Rattle.wiring.specs.declared.refused.Refused.TheVariants.{Memory}
use Rattle.wiring.specs.declared.work.Work.{Work}
use Rattle.wiring.proofs.Deciding.{need_same}
use Rattle.wiring.proofs.GoingBack.{heap_needed}
use Rattle.wiring.proofs.Leaving.{todo_kept}
use Rattle.wiring.proofs.Scheduling.{marked_kept}
use Rattle.stabilizer.specs.Dying.{StandsBefore}
use Rattle.stabilizer.specs.Kept.{PartsKept}
use Rattle.stabilizer.specs.Rebuilding as rebuilding
use Rattle.stabilizer.specs.Rebuilding.{BuildRefused}
use Rattle.stabilizer.specs.Stepping as stepping
use Rattle.stabilizer.specs.Stepping.{ChangeIsLeft}
use Rattle.stabilizer.specs.declared.parts.Parts.{Parts}
use Rattle.stabilizer.proofs.Change.Changing.{heap_stands, before_stands}
use Rattle.stabilizer.proofs.Change.Waiting.{with_change, put_back}

-- ---- the change is in the heap again

module _ (M : Meaning) (old mid : Parts) (n : NodeId) (before after : Counts) (work : Work) (kept : PartsKept mid)
    (need : Needed old.work.graph (change n)) (marked : IsMarked mid.work.graph work.graph (change n))
    (rest : work ≡ record mid.work { graph = work.graph }) where
  abbrev now : Parts
  now = record mid { work = work }

  need_mid : (s : State) → StandsBefore old before s n → StandsBefore mid after s n → Needed mid.work.graph (change n)
  need_mid s b m =
      let first : Needed b.work.graph (change n) = need_same old.work.graph b.work.graph
      (sym (ap (λ (g : NecessaryPart). g.links) b.taken.graph)) (sym (ap (λ (g : NecessaryPart). g.roots) b.taken.graph)) (change n) need in
      let then : Needed m.work.graph (change n) = (m.stands.needed (change n)).0 ((b.stands.needed (change n)).1 first) in
      need_same m.work.graph mid.work.graph (ap (λ (g : NecessaryPart). g.links) m.taken.graph) (ap (λ (g : NecessaryPart). g.roots) m.taken.graph)
      (change n) then

  again_stands : (s : State) → StandsBefore old before s n → StandsBefore mid after s n → MatchesState mid.arena work after None s
  again_stands s b m = heap_stands mid.arena (with_change mid.work n) work rest
      (record { links = marked.graph.links; roots = marked.graph.roots; heights = marked.graph.heights }) same s after
      (before_stands mid.arena m.work mid.work n after s m.taken m.stands)
    where
      same : (p : Point) → is_some (at work.graph.heap p) ≡ is_some (at (with_change mid.work n).graph.heap p)
      same p = elim (same_or_other p (change n)) [
        | inl e ↦ subst (λ (x : Point). is_some (at work.graph.heap x) ≡ is_some (at (with_change mid.work n).graph.heap x)) (sym e)
            (marked.told (need_mid s b m) ∙ sym (ap is_some (put_back mid.work n).changed))
        | inr ne ↦ ap is_some (marked.others p ne ∙ sym ((put_back mid.work n).others p ne))
      ]

  -- where it was in the heap already nothing is new there
  in_heap_stands : (s : State) → s.heap (change n) ≡ true → MatchesState mid.arena mid.work after None s → MatchesState mid.arena work after None s
  in_heap_stands s held st = heap_stands mid.arena mid.work work rest marked.graph same s after st
    where
      there : Holds mid.work.graph.heap (change n)
      there = sym (st.heap (change n)) ∙ held

      same : (p : Point) → is_some (at work.graph.heap p) ≡ is_some (at mid.work.graph.heap p)
      same p = elim (same_or_other p (change n)) [
        | inl e ↦ subst (λ (x : Point). is_some (at work.graph.heap x) ≡ is_some (at mid.work.graph.heap x)) (sym e)
            (marked.told (heap_needed mid.work.graph kept.work.step (change n) there) ∙ sym there)
        | inr ne ↦ ap is_some (marked.others p ne)
      ]

  pub left_again : (right : FnRef → RightSide) (e : Refused) → BuildRefused M right old mid n before after e → ChangeIsLeft M right old now n before after e
  left_again right e (rebuilding.as_it_was stands arena counts memory) =
      stepping.as_it_was (λ s b. again_stands s b (stands s b)) arena counts memory
  left_again right e (rebuilding.unbuilt {count} stops calls later told few full) = stepping.unbuilt {count = count}
      (λ z s begun quiet b.
      let k = stops z s begun quiet b in
      (k.0, k.1, k.2, k.3, in_heap_stands k.1 k.5 k.4)) calls later told few full

  pub again_kept : Holds mid.work.rows (change n) → IsInStep work.graph → PartsKept now
  again_kept row step = record {
    work = marked_kept (change n) mid.work work marked rest mid.arena row step kept.work;
    scopes = kept.scopes;
    dying = kept.dying;
    clock = kept.clock;
    listing = kept.listing;
  }

-- ---- want of memory before anything changed

module _ (old : Parts) (todo : Vec Point Global) (idle : old.work.todo.items ≡ []) (none : todo.items ≡ []) where
  abbrev with_todo : Parts
  with_todo = record old { work = record old.work { todo = todo } }

  waits : {counts : Counts} {s : State} {n : NodeId} (b : StandsBefore old counts s n) (p : Point) → s.todo p ≡ true → Among p todo.items ⊎ ⊥
  waits b p t = subst (λ (xs : List Point). Among p xs ⊎ ⊥) (sym (ap (λ (w : Work). w.todo.items) b.taken.rest) ∙ (idle ∙ sym none)) (b.stands.todo p t)

  before_still : (n : NodeId) (counts : Counts) (s : State) → StandsBefore old counts s n → StandsBefore with_todo counts s n
  before_still n counts s b = record {
    work = record b.work { todo = todo };
    taken = record {
      held = b.taken.held;
      least = b.taken.least;
      heap = b.taken.heap;
      graph = b.taken.graph;
      rest = ap (λ (w : Work). record w { todo = todo }) b.taken.rest;
    };
    stands = assumption (waits b, b.stands);
  }

  pub todo_refused : (M : Meaning) (right : FnRef → RightSide) (n : NodeId) (counts : Counts) (e : Refused) → e ≡ Memory
      → BuildRefused M right old with_todo n counts counts e
  todo_refused M right n counts e memory = rebuilding.as_it_was (λ s b. before_still n counts s b) refl refl memory

-- the worklist was looked at alone
module _ (old : Parts) (work : Work) (rest : work ≡ record old.work { todo = work.todo }) where
  pub woken_refused : old.work.todo.items ≡ [] → work.todo.items ≡ [] → (M : Meaning) (right : FnRef → RightSide) (n : NodeId) (counts : Counts)
      (e : Refused) → e ≡ Memory → BuildRefused M right old (record old { work = work }) n counts counts e
  woken_refused idle none M right n counts e memory =
      subst (λ (w : Work). BuildRefused M right old (record old { work = w }) n counts counts e) (sym rest)
      (todo_refused old work.todo idle none M right n counts e memory)

  pub woken_own : (p : Point) → Holds old.work.rows p → Holds work.rows p
  woken_own p row = subst (λ (w : Work). Holds w.rows p) (sym rest) row

  pub woken_roots : KeepsRoots old.work.graph.roots work.graph.roots
  woken_roots p = ap (λ (w : Work). root_times w.graph.roots p) rest

  pub woken_round : work.round ≡ old.work.round
  woken_round = ap (λ (w : Work). w.round) rest

  pub woken_kept : PartsKept old → PartsKept (record old { work = work })
  woken_kept kept = record {
    work = subst (IsKept old.arena) (sym rest) (todo_kept old.arena old.work work.todo kept.work);
    scopes = kept.scopes;
    dying = kept.dying;
    clock = kept.clock;
    listing = kept.listing;
  }

-- where the graph alone is another, the round is the same
pub graph_round : (old new : Work) → new ≡ record old { graph = new.graph } → new.round ≡ old.round
graph_round old new rest = ap (λ (w : Work). w.round) rest

-- ---- another worklist, other links

-- of the parts the work is another that is kept
pub parts_with : (parts : Parts) (work : Work) → PartsKept parts → IsKept parts.arena work → PartsKept (record parts { work = work })
parts_with parts work kept is = record { work = is; scopes = kept.scopes; dying = kept.dying; clock = kept.clock; listing = kept.listing }

two_in : (x : Option Row) → has_part x Change ≡ true → (r : Row) × (x ≡ Some r) × IsSome (subject_of r.def)
two_in None e = absurd (cc)
two_in (Some r) e = (r, refl, e)

-- a change that has a row is a live node's that has a subject
pub two_points : (arena : Arena) (work : Work) (n : NodeId) → IsKept arena work → Holds work.rows (change n)
    → (r : Row) × (row_at arena n ≡ Some r) × IsSome (subject_of r.def)
two_points arena work n kept row = two_in (row_at arena n) (sym (kept.rows (change n)) ∙ row)

-- so its definition can't lack one
pub has_subject : {P : Type 0} (arena : Arena) (work : Work) (n : NodeId) → IsKept arena work → Holds work.rows (change n)
    → (r : Row) → row_at arena n ≡ Some r → subject_of r.def ≡ None → P
has_subject arena work n kept row r live none =
    let two = two_points arena work n kept row in
    let same : two.0 ≡ r = same_Some two.0 r (sym two.1 ∙ live) in
    let some : IsSome (subject_of r.def) = subst (λ (x : Row). IsSome (subject_of x.def)) same two.2 in
    absurd (let e = sym some ∙ ap is_some none in cc)

-- ---- results

-- on success and where it is refused
pub by_result : {T E P R : Type 0} {Q : E → Type 0} (r : Result T E) → OnOk r P → IfErr r Q → (P → R) → ((e : E) → Q e → R) → R
by_result (Ok x) ok err f g = f ok
by_result (Err e) ok err f g = g e err

-- what holds of something holds of this, if it is this
pub some_of : {A : Type 0} (P : A → Type 0) (x : Option A) (a : A) → x ≡ Some a → IfSome x P → P a
some_of P None a e h = absurd (none-some a e)
some_of P (Some b) a e h = subst P (same_Some b a e) h
