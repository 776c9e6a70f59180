-- A small round, worked out: one constant is observed.
use Rattle.std.specs.Prelude.{◌≡◌, pos, true, false, [], ◌∷◌, None, Some}
use Rattle.inc_value.specs.declared.node.NodeId.{NodeId}
use Rattle.inc_value.specs.declared.outcome.Outcome.TheVariants.{Val}
use Rattle.inc_value.specs.declared.ty.Ty.TheVariants as ty
use Rattle.inc_value.specs.declared.value.Value.TheVariants.{Int}
use Rattle.map_nodes.specs.declared.cutoff.Cutoff.TheVariants.{Equal}
use Rattle.inc_terms.specs.Term.{Functions}
use Rattle.inc_terms.specs.Graph.{Row, Const}
use Rattle.inc_terms.specs.Depend.{main, none_died}
use Rattle.stabilize_round.specs.State.{State, Start, all_retries, Full, at_node}
use Rattle.stabilize_round.specs.Ended.{Ended}
use Rattle.stabilize_round.specs.Machine.{Moves, Entry}

-- the one node
abbrev pub node : NodeId
node = record { slot = 0; gen_ = 0 }

-- a constant
abbrev pub row : Row
row = record { def = Const (Int (pos 3)); ty = ty.Int; scope = None }

-- nothing is needed yet
abbrev pub empty_state : State
empty_state = record {
  graph = record { row = at_node node (Some row) (λ (n : NodeId). None); built = λ n. None; now = pos 0; frozen = λ n. None; lists = λ n. [] };
  out = λ p. None;
  last = λ n. None;
  links = λ p q. 0;
  root = λ p. 0;
  needed = λ p. false;
  height = λ p. 0;
  heap = λ p. false;
  settled = λ p. false;
  stage = λ p. Full;
  owed = λ p. [];
  todo = λ p. false;
  retries = all_retries;
  died = none_died;
  taken = None;
  ran = [];
  calls = 0;
  builds = 0;
  adds = 0;
  given = 1;
  cutoff = λ n. Equal;
  stale = λ n. false;
}

-- what the round begins with
abbrev pub empty_start : Start
empty_start = record { held = λ p. false; last = λ n. None; calls = 0; known = λ f. false; ids = λ f. []; cutoff = λ n. Equal; stale = λ n. false }

-- a round begins there, and some moves lead to a state in which the node is needed and shows 3
abbrev pub ConstantWorks : Type 0
ConstantWorks = (F : Functions) → Entry F empty_start empty_state
    × (t : State) × Moves F empty_start empty_state t × Ended F empty_start t (node ∷ []) × (t.needed (main node) ≡ true)
    × (t.out (main node) ≡ Some (Val (Int (pos 3))))
