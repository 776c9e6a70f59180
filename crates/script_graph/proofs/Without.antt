-- What is so of a graph is so of it without its functions.
use Rattle.inc_terms.specs.Term.{Functions}
use Rattle.node_outcomes.specs.Meaning.{Meaning}
use Rattle.graph.specs.Sound.{IsWhole, IsSoundGraph}
use Rattle.graph.specs.Stabilizes.{Stabilizes}
use Rattle.graph.specs.Standing.{GraphView}
use Rattle.script_graph.specs.Kept.{without_functions}

module _ {A : Type 0} where
  -- ---- what it keeps

  whole_without : (W : Meaning) (s : GraphView A) → IsWhole W s → IsWhole W (without_functions s)
  whole_without W s h = record { roots = h.roots; fit = h.fit; given = h.given; shown = h.shown; seen = h.seen }

  pub sound_without : (W : Meaning) (s : GraphView A) → IsSoundGraph W s → IsSoundGraph W (without_functions s)
  sound_without W s h = record {
    few = h.few;
    earlier = h.earlier;
    showing = h.showing;
    later = h.later;
    past = h.past;
    listed = h.listed;
    nodes = h.nodes;
    tops = h.tops;
    scopes = h.scopes;
    built = h.built;
    inside = h.inside;
    typed = h.typed;
    whole = λ unbroken. whole_without W s (h.whole unbroken);
  }

  -- ---- an accepted stabilize

  pub stabilizes_without : (M : Functions) (old new : GraphView A) → Stabilizes M old new → Stabilizes M (without_functions old) (without_functions new)
  stabilizes_without M old new done = record {
    was = done.was;
    unbroken = done.unbroken;
    stays = done.stays;
    builds = done.builds;
    observers = done.observers;
    notices = done.notices;
    rooted = done.rooted;
    since = done.since;
    shows = done.shows;
    right = done.right;
  }
