-- What a command leaves as it was, between two rounds.
use Rattle.std.specs.Prelude.{◌≡◌, ℕ, true, Some}
use Rattle.inc_value.specs.declared.function.FnKind.{FnKind}
use Rattle.inc_value.specs.declared.function.FnKind.TheVariants as kind
use Rattle.inc_value.specs.declared.function.FnRef.{FnRef}
use Rattle.inc_value.specs.declared.node.NodeId.{NodeId}
use Rattle.inc_value.specs.declared.value.Value.{Value as GraphValue}
use Rattle.inc_terms.specs.Graph.{Graph, Row, present}
use Rattle.inc_terms.specs.Term.{Term, Functions}
use Rattle.inc_terms.specs.Within.{TermWithin}
use Rattle.script_model.specs.Formula as script
use Rattle.script_model.specs.Formula.{Formula, Entry, State, entry_at, body_at, Name, Computed, Bind, Grab}
use Rattle.script_model.specs.Values.{Value}
use Rattle.transfer.specs.Both.{Both}
use Rattle.transfer.specs.Shows.{plain}

-- the pair after a command, between two rounds
abbrev pub left_by : Both → Functions → Graph → State → (ℕ → NodeId) → Both
left_by x H G s nodes =
    record { meanings = x.meanings; state = s; functions = H; graph = G; nodes = nodes; died = x.died }

-- whatever the node
abbrev pub AnyNode : NodeId → Type 0
AnyNode n = Unit {0}

-- functions that may stand in the graph's nodes, and in terms of such functions, have the same terms
pub record TermsStay (x : Both) (H : Functions) (Q : FnKind → FnRef → Type 0) : Type 0 where
  pub same : (f : FnRef) (v : GraphValue) → Q kind.Rhs f → H.term f v ≡ x.functions.term f v
  pub within : (f : FnRef) (v : GraphValue) → Q kind.Rhs f → TermWithin AnyNode Q (x.functions.term f v)
  pub rows : (n : NodeId) (r : Row) → x.graph.row n ≡ Some r → TermWithin AnyNode Q (present x.graph n r)

-- rows that a formula may have stay
abbrev pub RowsStay : Graph → Graph → Type 0
RowsStay G G' = (n : NodeId) (r : Row) (u : Term) → G.row n ≡ Some r → plain r.def ≡ Some u → G'.row n ≡ Some r

-- two declarations that are their own targets have two nodes
abbrev pub NodesApart : State → (ℕ → NodeId) → Type 0
NodesApart s nodes =
    (j k : ℕ) (d e : Entry) → entry_at s j ≡ Some d → entry_at s k ≡ Some e → d.target ≡ j → e.target ≡ k
    → nodes j ≡ nodes k → j ≡ k

-- a live grab is of a bind whose body is no name
abbrev pub GrabsForms : State → Type 0
GrabsForms s =
    (k b : ℕ) (v : Value) (left : Formula) (t : ℕ) (kept : script.Kept) → body_at s k ≡ Some (Grab b v true)
    → body_at s b ≡ Some (Computed (Bind left (Name t)) kept) → ⊥
