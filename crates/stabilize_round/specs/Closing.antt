-- A round ends: freezes that fired keep their values and read nothing more, what died lets go, and all is as a round begins.
use Rattle.std.specs.Prelude.{◌≡◌, ◌<◌, ◌≤◌, ℕ, true, false, Bool, List, [], None, Some}
use Rattle.inc_value.specs.declared.node.NodeId.{NodeId}
use Rattle.inc_value.specs.declared.node.Part.TheVariants.{Main}
use Rattle.inc_value.specs.declared.node.Point.{Point}
use Rattle.inc_value.specs.declared.value.Value.{Value}
use Rattle.inc_value.specs.Choice.{Among}
use Rattle.inc_terms.specs.Graph.{Row}
use Rattle.inc_terms.specs.Depend.{main, none_died}
use Rattle.inc_terms.specs.Need.{IsRoot}
use Rattle.inc_terms.specs.Plan.{gate_of}
use Rattle.stabilize_round.specs.Freezing.{fires_at, graph_after}
use Rattle.stabilize_round.specs.State.{State, Start, all_retries, Reached, count}

-- the state after it
abbrev pub closed : State → (Point → ℕ) → (Point → Point → ℕ) → (Point → Bool) → State
closed t root' links' needed' = record t {
  graph = graph_after t;
  root = root';
  links = links';
  needed = needed';
  taken = None;
  died = none_died;
  settled = λ (p : Point). false;
  retries = all_retries;
  ran = [];
}

-- the point is the main of no freeze that fires
abbrev pub IsStill : State → Point → Type 0
IsStill t a = a.part ≡ Main → fires_at t a.node ≡ None

-- freezes that fire lose their roots, and their mains all links but the gate's; points of dead nodes lose their links, and what is no longer reached
-- loses all
pub record Close (t : State) (observed : List NodeId) (root' : Point → ℕ) (links' : Point → Point → ℕ) (needed' : Point → Bool) : Type 0 where
  pub on : (n : NodeId) → IsRoot (graph_after t) observed n → 0 < root' (main n)
  pub fewer : (a : Point) → root' a ≤ t.root a
  pub off : (n : NodeId) (v : Value) → fires_at t n ≡ Some v → 0 < root' (main n) → Among n observed
  pub live : (a b : Point) (r : Row) → t.graph.row a.node ≡ Some r → needed' a ≡ true → IsStill t a → links' a b ≡ t.links a b
  pub fired : (n : NodeId) (r : Row) (v : Value) (b : Point) → t.graph.row n ≡ Some r → needed' (main n) ≡ true → fires_at t n ≡ Some v
      → links' (main n) b ≡ count b (gate_of r.scope)
  pub dead : (a b : Point) → t.graph.row a.node ≡ None → links' a b ≡ 0
  pub gone : (a b : Point) → needed' a ≡ false → links' a b ≡ 0
  pub was : (a : Point) → needed' a ≡ true → t.needed a ≡ true
  pub onto : (a b : Point) → 0 < links' a b → needed' b ≡ true
  pub rooted : (a : Point) → 0 < root' a → needed' a ≡ true
  pub reached : (a : Point) → needed' a ≡ true → Reached (closed t root' links' needed') a

-- what the next round begins with
abbrev pub next_start : Start → State → (Point → Bool) → Start
next_start z t needed' = record {
  held = needed';
  last = t.last;
  calls = t.calls;
  known = z.known;
  ids = z.ids;
  cutoff = t.cutoff;
  stale = t.stale;
}
