-- Moves on links, stages and need.
use Rattle.std.specs.Prelude.{◌≡◌, ◌⊎◌, ◌<◌, ◌≤◌, ◌+◌, ℕ, suc, true, false, Bool, List, [], ◌∷◌, Some}
use Rattle.inc_value.specs.declared.node.NodeId.{NodeId}
use Rattle.inc_value.specs.declared.node.Part.TheVariants.{Change, Main}
use Rattle.inc_value.specs.declared.node.Point.{Point}
use Rattle.inc_value.specs.Choice.{Among, Reaches}
use Rattle.inc_terms.specs.Term.{Functions}
use Rattle.inc_terms.specs.Graph.{Row}
use Rattle.inc_terms.specs.Depend.{Depends, main, change, subject_of}
use Rattle.inc_terms.specs.Plan.{targets}
use Rattle.stabilize_round.specs.State.{State, Stage, Bare, Gated, Static, Full, Linked, count, live_plan, plan_at, planned, at_point}

-- ---- one link more

-- the link, one more, is no longer owed
abbrev pub linked : State → Point → Point → List Point → (Point → ℕ) → State
linked s p q rest height' = record s {
  links = at_point p (at_point q (suc (s.links p q)) (s.links p)) s.links;
  owed = at_point p rest s.owed;
  height = height';
}

-- a point is needed that wasn't
abbrev pub newly : State → Point → (Point → Bool) → State
newly s q heap' = record s {
  needed = at_point q true s.needed;
  stage = at_point q Bare s.stage;
  owed = at_point q [] s.owed;
  todo = at_point q true s.todo;
  heap = heap';
}

-- a root more
abbrev pub rooted : State → Point → State
rooted s p = record s { root = at_point p (suc (s.root p)) s.root }

-- the live point
abbrev pub IsIt : State → Point → Point → Type 0
IsIt s q x = (q ≡ x) × (r : Row) × (s.graph.row q.node ≡ Some r)

-- a right link, put on in a step of its own change
abbrev pub IsChosenNow : State → Point → Point → Type 0
IsChosenNow s p q =
    (r : Row) × (s.graph.row p.node ≡ Some r) × (p.part ≡ Main) × Among q (targets s.graph p.node r.def (s.out (change p.node)))
    × (s.taken ≡ Some (change p.node))

-- a link that is put on once its point's gate ran, or in a step of its own change, where it has its other links already; and a right link in such a
-- step alone
pub record IsConfirmed (s : State) (p q : Point) : Type 0 where
  pub gate : (r : Row) (b : NodeId) → s.graph.row p.node ≡ Some r → r.scope ≡ Some b
      → (q ≡ change b) ⊎ (s.settled (change b) ≡ true) ⊎ IsChosenNow s p q
  pub right : (r : Row) → s.graph.row p.node ≡ Some r → p.part ≡ Main → Among q (targets s.graph p.node r.def (s.out (change p.node)))
      → s.taken ≡ Some (change p.node)

-- the first link that is owed is put on; heights rise along all links, and are at most 128
pub record Link (F : Functions) (s : State) (p q : Point) (rest : List Point) (height' : Point → ℕ) : Type 0 where
  pub need : s.needed p ≡ true
  pub owed : s.owed p ≡ q ∷ rest
  pub depends : Depends F s.graph s.died p q
  pub confirmed : IsConfirmed s p q
  pub rises : (a b : Point) → Linked (linked s p q rest height') a b → height' b < height' a
  pub low : (a : Point) → height' a ≤ 128

-- other heights
abbrev pub levelled : State → (Point → ℕ) → State
levelled s height' = record s { height = height' }

-- they rise along all links too, and are at most 128
pub record Level (s : State) (height' : Point → ℕ) : Type 0 where
  pub rises : (a b : Point) → Linked s a b → height' b < height' a
  pub low : (a : Point) → height' a ≤ 128

-- ---- stages

-- the stage, and the links that are owed by it
abbrev pub raised : State → Point → Stage → List Point → State
raised s p st extra = record s { stage = at_point p st s.stage; owed = at_point p extra s.owed }

-- a point of the worklist is to have more links: beyond its gate's once the gate ran, where it hasn't any yet, and a right link in a step of its own
-- change alone
pub record Raise (s : State) (p : Point) (st : Stage) (extra : List Point) : Type 0 where
  pub todo : s.todo p ≡ true
  pub owed : s.owed p ≡ []
  pub plan : (b : Point) → count b (plan_at s.graph s.out s.died p (s.graph.row p.node) st) ≡ count b (planned s p) + count b extra
  pub lower : s.stage p ≡ Full → ⊥
  pub gates : (st ≡ Static) ⊎ (st ≡ Full) → (r : Row) (b : NodeId) → s.graph.row p.node ≡ Some r → r.scope ≡ Some b
      → (s.settled (change b) ≡ true) ⊎ (s.stage p ≡ Static)
  pub rights : st ≡ Full → p.part ≡ Main → (r : Row) (q : Point) → s.graph.row p.node ≡ Some r
      → Among q (targets s.graph p.node r.def (s.out (change p.node))) → s.taken ≡ Some (change p.node)

-- the point isn't in the worklist any more
abbrev pub finished : State → Point → State
finished s p = record s { todo = at_point p false s.todo }

-- the point leaves the worklist: with all its links, or waiting
pub record Finish (s : State) (p : Point) : Type 0 where
  pub owed : s.owed p ≡ []
  pub bare : s.needed p ≡ true → s.stage p ≡ Bare → ⊥
  pub gated : (r : Row) → s.graph.row p.node ≡ Some r → s.needed p ≡ true → s.stage p ≡ Gated → (b : NodeId) × (r.scope ≡ Some b)
      × (s.settled (change b) ≡ false) × (s.heap (change b) ≡ true)
  pub static : (r : Row) → s.graph.row p.node ≡ Some r → s.needed p ≡ true → s.stage p ≡ Static
      → (p.part ≡ Main) × (m : NodeId) × (subject_of r.def ≡ Some m) × (s.heap (change p.node) ≡ true)

-- another heap
abbrev pub heaped : State → (Point → Bool) → State
heaped s heap' = record s { heap = heap' }

-- more is in the heap: points that aren't settled, and changes that were settled for which their mains of the worklist are to wait
pub record Schedule (s : State) (heap' : Point → Bool) : Type 0 where
  pub kept : (q : Point) → s.heap q ≡ true → heap' q ≡ true
  pub new : (q : Point) → heap' q ≡ true → (s.heap q ≡ true) ⊎ ((r : Row) × (s.graph.row q.node ≡ Some r) × (s.needed q ≡ true)
      × ((s.settled q ≡ false) ⊎ ((q.part ≡ Change) × (s.todo (main q.node) ≡ true) × (s.stage (main q.node) ≡ Static))))

-- links may be tried again so often from now on
abbrev pub spent : State → ℕ → State
spent s left = record s { retries = left }

-- ---- links fewer

-- a live point goes back to a lower stage
abbrev pub dropped : State → Point → Stage → (Point → ℕ) → State
dropped s p st row = record s { links = at_point p row s.links; stage = at_point p st s.stage; owed = at_point p [] s.owed }

-- its links are among those that it has, and it is in the heap or settled; where it waits then, what it waits for is in the heap
pub record Drop (s : State) (p : Point) (r : Row) (st : Stage) (row' : Point → ℕ) : Type 0 where
  pub row : s.graph.row p.node ≡ Some r
  pub links : (b : Point) → row' b ≡ count b (live_plan s.graph s.out p r st)
  pub fewer : (b : Point) → 0 < row' b → Linked s p b
  pub bare : st ≡ Bare → ⊥
  pub full : st ≡ Full → ⊥
  pub lower : st ≡ Static → (s.stage p ≡ Static) ⊎ (s.stage p ≡ Full)
  pub fresh : (s.heap p ≡ true) ⊎ (s.settled p ≡ true)
  pub gated : st ≡ Gated → (b : NodeId) × (r.scope ≡ Some b) × (s.settled (change b) ≡ false) × (s.heap (change b) ≡ true)
  pub static : st ≡ Static → (p.part ≡ Main) × (m : NodeId) × (subject_of r.def ≡ Some m) × (s.heap (change p.node) ≡ true)

-- what is no longer reached loses all
abbrev pub swept : State → (Point → Bool) → (Point → Point → ℕ) → (Point → Bool) → (Point → List Point) → State
swept s needed' links' heap' owed' = record s { needed = needed'; links = links'; heap = heap'; owed = owed' }

-- what is reached from the roots keeps all
pub record Sweep (s : State) (needed' : Point → Bool) (links' : Point → Point → ℕ) (heap' : Point → Bool) (owed' : Point → List Point) : Type 0 where
  pub was : (a : Point) → needed' a ≡ true → s.needed a ≡ true
  pub rooted : (a : Point) → 0 < s.root a → needed' a ≡ true
  pub closed : (a b : Point) → needed' a ≡ true → Linked s a b → needed' b ≡ true
  pub reached : (a : Point) → needed' a ≡ true → (r : Point) × (0 < s.root r) × Reaches (Linked s) r a
  pub kept : (a b : Point) → needed' a ≡ true → links' a b ≡ s.links a b
  pub gone : (a b : Point) → needed' a ≡ false → links' a b ≡ 0
  pub heap : (a : Point) → heap' a ≡ true → (s.heap a ≡ true) × (needed' a ≡ true)
  pub heap_kept : (a : Point) → needed' a ≡ true → s.heap a ≡ true → heap' a ≡ true
  pub owed : (a : Point) → (needed' a ≡ true → owed' a ≡ s.owed a) × (needed' a ≡ false → owed' a ≡ [])
