-- What a node gives: evaluation from scratch, by depth.
use Rattle.std.specs.Prelude as std
use Rattle.std.specs.Prelude.{◌≡◌, ℕ, zero, suc, ℤ, List, [], ◌∷◌, Option, None, Some, true, false}
use Rattle.std.specs.Int.Signed.{le_z}
use Rattle.inc_value.specs.declared.node.NodeId.{NodeId}
use Rattle.inc_value.specs.declared.outcome.Outcome.{Outcome}
use Rattle.inc_value.specs.declared.outcome.Outcome.TheVariants.{Val, Invalid}
use Rattle.inc_value.specs.declared.value.Value.{Value}
use Rattle.inc_value.specs.declared.value.Value.TheVariants.{Int, Bool, Node}
use Rattle.inc_value.specs.Choice.{and_then}
use Rattle.inc_terms.specs.Term.{Term, Terms, Step, Const, Ref, Cap, Map, Fold, If, Join, Bind, At, Steps, Now, End, More, Functions, put}
use Rattle.inc_terms.specs.Graph as graph
use Rattle.inc_terms.specs.Graph.{Graph, Row, Built, Def, present}
use Rattle.inc_terms.specs.Same.{same_outcome}

-- what is asked: what a term gives, or whether the binds round a scope give what they were built for
pub data Query : Type 0 where
  Of : (term : Term) → Query
  Around : (scope : Option NodeId) → Query

-- the outcomes of arguments, put together
pub data Gathered : Type 0 where
  Unknown : Gathered
  SomeInvalid : Gathered
  Values : (values : List Value) → Gathered

-- one outcome more; where one is missing the arguments are unknown, else one that is Invalid makes all of them so
abbrev pub joined : Option Outcome → Gathered → Gathered
joined None rest = Unknown
joined (Some Invalid) Unknown = Unknown
joined (Some Invalid) rest = SomeInvalid
joined (Some (Val v)) (Values values) = Values (v ∷ values)
joined (Some (Val v)) rest = rest

-- the outcomes that the terms give, put together
abbrev pub gathered : (Query → Option Outcome) → Terms → Gathered
gathered part End = Values []
gathered part (More t ts) = joined (part (Of t)) (gathered part ts)

-- a function of arguments; where one is Invalid it isn't called
abbrev pub given : (List Value → Value) → Gathered → Option Outcome
given f Unknown = None
given f SomeInvalid = Some Invalid
given f (Values values) = Some (Val (f values))

-- from the initial value, left to right
abbrev pub folded : (List Value → Value) → Value → List Value → Value
folded f v [] = v
folded f v (x ∷ xs) = folded f (f (v ∷ x ∷ [])) xs

-- what follows a value; Invalid stays
abbrev pub with_value : Option Outcome → (Value → Option Outcome) → Option Outcome
with_value None next = None
with_value (Some Invalid) next = Some Invalid
with_value (Some (Val v)) next = next v

-- the term that a value chooses; without one, Invalid
abbrev pub chosen : (Query → Option Outcome) → Option Term → Option Outcome
chosen part None = Some Invalid
chosen part (Some t) = part (Of t)

-- what a subject's value chooses
abbrev pub branch : Term → Term → Value → Option Term
branch a b (Bool true) = Some a
branch a b (Bool false) = Some b
branch a b v = None

-- what a join's value chooses: the node that it names
abbrev pub named : Value → Option Term
named (Node n base) = Some (Ref n)
named v = None

-- the last value whose time has come
abbrev pub latest : ℤ → Value → List Step → Value
latest now v [] = v
latest now v (s ∷ steps) = std.cond (le_z s.time now) (latest now s.value steps) v

-- ---- nodes

-- whether a bind's left outcome is what the bind was built for
abbrev pub as_built : Option Built → Outcome → Option Outcome
as_built None o = Some Invalid
as_built (Some b) o = std.cond (same_outcome o b.outcome) (Some (Val (Bool true))) (Some Invalid)

-- the bind's left still gives what the bind was built for; a node that is no bind holds nothing
abbrev pub left_holds : (Query → Option Outcome) → Option Built → Def → Option Outcome
left_holds part built (graph.Bind l f caps) = and_then (part (Of (Ref l))) (as_built built)
left_holds part built def = Some Invalid

-- whether a bind holds, and those round it; the outermost is asked first
abbrev pub bind_holds : (Query → Option Outcome) → Option Built → Option Row → Option Outcome
bind_holds part built None = Some Invalid
bind_holds part built (Some r) = with_value (part (Around r.scope)) (λ (t : Value). left_holds part built r.def)

-- no scope holds always, another where its bind does
abbrev pub scope_level : (Query → Option Outcome) → Graph → Option NodeId → Option Outcome
scope_level part G None = Some (Val (Bool true))
scope_level part G (Some b) = bind_holds part (G.built b) (G.row b)

-- a dead node gives Invalid, and so does one that doesn't stand
abbrev pub node_level : (Query → Option Outcome) → Graph → NodeId → Option Row → Option Outcome
node_level part G n None = Some Invalid
node_level part G n (Some r) = with_value (part (Around r.scope)) (λ (t : Value). part (Of (present G n r)))

-- one level of evaluation, over what is answered for the parts
abbrev pub level : Functions → Graph → (Query → Option Outcome) → Query → Option Outcome
level F G part (Around scope) = scope_level part G scope
level F G part (Of (Const v)) = Some (Val v)
level F G part (Of (Ref n)) = node_level part G n (G.row n)
level F G part (Of (Cap i)) = None
level F G part (Of (Map f ts)) = given (F.value f) (gathered part ts)
level F G part (Of (Fold f v ts)) = given (folded (F.value f) v) (gathered part ts)
level F G part (Of (If t a b)) = with_value (part (Of t)) (λ (v : Value). chosen part (branch a b v))
level F G part (Of (Join t)) = with_value (part (Of t)) (λ (v : Value). chosen part (named v))
level F G part (Of (Bind l f caps)) = with_value (part (Of l)) (λ (v : Value). chosen part (Some (put caps (F.term f v))))
level F G part (Of (At t)) = Some (Val (Bool (le_z t G.now)))
level F G part (Of (Steps v steps)) = Some (Val (latest G.now v steps))
level F G part (Of Now) = Some (Val (Int G.now))

-- what is asked, answered within a depth
unfoldable pub answer : Functions → Graph → ℕ → Query → Option Outcome
answer F G zero q = None
answer F G (suc d) q = level F G (answer F G d) q

-- some depth answers
abbrev pub Gives : Functions → Graph → Query → Outcome → Type 0
Gives F G q o = (d : ℕ) × (answer F G d q ≡ Some o)

-- what a node gives
abbrev pub NodeGives : Functions → Graph → NodeId → Outcome → Type 0
NodeGives F G n o = Gives F G (Of (Ref n)) o

-- the binds round a scope hold
abbrev pub Stands : Functions → Graph → Option NodeId → Type 0
Stands F G scope = Gives F G (Around scope) (Val (Bool true))

-- the nodes give the values, one for one
abbrev pub GiveAll : Functions → Graph → List NodeId → List Value → Type 0
GiveAll F G [] [] = Unit {0}
GiveAll F G [] (v ∷ vs) = ⊥
GiveAll F G (n ∷ ns) [] = ⊥
GiveAll F G (n ∷ ns) (v ∷ vs) = NodeGives F G n (Val v) × GiveAll F G ns vs
