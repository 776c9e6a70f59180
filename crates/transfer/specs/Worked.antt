-- A script and a graph that fit: a bind whose body is built.
use Rattle.std.specs.Prelude.{ℕ, zero, suc, pos, [], ◌∷◌, Option, None, Some}
use Rattle.inc_value.specs.declared.function.FnRef.{FnRef}
use Rattle.inc_value.specs.declared.function.FnKind.TheVariants as kind
use Rattle.inc_value.specs.declared.node.NodeId.{NodeId}
use Rattle.inc_value.specs.declared.outcome.Outcome.TheVariants as outcome
use Rattle.inc_value.specs.declared.ty.Ty.TheVariants as ty
use Rattle.inc_value.specs.declared.value.Value.TheVariants as held
use Rattle.inc_terms.specs.Graph as graph
use Rattle.inc_terms.specs.Graph.{Row, Def}
use Rattle.inc_terms.specs.Term as term
use Rattle.script_model.specs.Formula as script
use Rattle.script_model.specs.Formula.{State, Entry, Body, Name, Bound, Apply, Bind, End, More, Variable, Computed, nothing_kept}
use Rattle.script_model.specs.Values.{Int}
use Rattle.transfer.specs.Both.{Both}

-- the k-th node
abbrev pub node : ℕ → NodeId
node k = record { slot = k; gen_ = k }

-- the k-th function
abbrev pub function : ℕ → FnRef
function k = record { id = record { kind = kind.Map; number = k }; sig = record { takes = []; gives = ty.Int } }

-- an entry with nothing but its body
abbrev pub entry : Body → Entry
entry body = record { name = []; ty = ty.Int; target = 0; body = body }

-- the script: var x = 1; let b = bind v = x in g(v, x)
abbrev pub script_state : State
script_state =
    record {
      entries = entry (Variable (Int (pos 1)))
          ∷ entry (Computed (Bind (Name 0) (Apply (function 0) (More (Bound 0) (More (Name 0) End)))) nothing_kept) ∷
          [];
      observers = record { name = []; target = 1; shown = None; watch = script.Unwatched } ∷ [];
      now = 0;
      accepted = 0;
    }

-- a row at a scope
abbrev pub row : Option NodeId → Def → Option Row
row scope def = Some (record { def = def; ty = ty.Int; scope = scope })

-- the rows, by slot and number
abbrev pub rows : ℕ → ℕ → Option Row
rows zero zero = row None (graph.Var (held.Int (pos 1)))
rows (suc zero) (suc zero) = row None (graph.Bind (node 0) (function 1) [])
rows (suc (suc zero)) (suc (suc zero)) = row (Some (node 1)) (graph.Const (held.Int (pos 1)))
rows (suc (suc (suc zero))) (suc (suc (suc zero))) =
    row (Some (node 1)) (graph.Map (function 0) (node 2 ∷ node 0 ∷ []))
rows s g = None

-- what the bind is built for, by slot and number
abbrev pub builts : ℕ → ℕ → Option graph.Built
builts (suc zero) (suc zero) = Some (record { outcome = outcome.Val (held.Int (pos 1)); root = Some (node 3) })
builts s g = None

-- the node of each name
abbrev pub nodes : ℕ → NodeId
nodes zero = node 0
nodes (suc zero) = node 1
nodes k = node 9

-- the pair
abbrev pub both : Both
both =
    record {
      meanings = record { named = λ w. None; value = λ f vs. Int (pos 0) };
      state = script_state;
      functions = record {
        value = λ f vs. held.Int (pos 0);
        term = λ f v. term.Map (function 0) (term.More (term.Const v) (term.More (term.Ref (node 0)) term.End));
      };
      graph = record {
        row = λ n. rows n.slot n.gen_;
        built = λ n. builts n.slot n.gen_;
        now = pos 0;
        frozen = λ n. None;
        lists = λ n. [];
      };
      nodes = nodes;
      died = λ n. None;
    }
