-- What is answered stays at every greater depth.
use Rattle.std.proofs.Common.{◌≡◌, inl, inr, ℕ, zero, suc, ◌≤◌, List, Option, None, Some, refl, ◌∙◌, arith}
use Rattle.std.proofs.lemmas.Bool.{cases_lt}
use Rattle.inc_value.specs.declared.node.NodeId.{NodeId}
use Rattle.inc_value.specs.declared.outcome.Outcome.{Outcome}
use Rattle.inc_value.specs.declared.outcome.Outcome.TheVariants.{Val, Invalid}
use Rattle.inc_value.specs.declared.value.Value.{Value}
use Rattle.inc_value.specs.Choice.{and_then}
use Rattle.inc_terms.specs.Term.{Term, Terms, Const, Ref, Cap, Map, Fold, If, Join, Bind, At, Steps, Now, End, More, Functions, put}
use Rattle.inc_terms.specs.Graph as graph
use Rattle.inc_terms.specs.Graph.{Graph, Row, Built, Def, present}
use Rattle.inc_terms.specs.Evaluate.{Query, Of, Around, Gathered, Unknown, SomeInvalid, Values, joined, gathered, given}
use Rattle.inc_terms.specs.Evaluate.{folded, with_value, chosen, branch, named, as_built, left_holds, bind_holds}
use Rattle.inc_terms.specs.Evaluate.{scope_level, node_level, level, answer, Gives}

-- where there is an answer, it stays
abbrev pub Under : {A : Type 0} → Option A → Option A → Type 0
Under None b = Unit {0}
Under (Some x) b = b ≡ Some x

abbrev pub GathersUnder : Gathered → Gathered → Type 0
GathersUnder Unknown b = Unit {0}
GathersUnder SomeInvalid b = b ≡ SomeInvalid
GathersUnder (Values values) b = b ≡ Values values

pub under_refl : {A : Type 0} (a : Option A) → Under a a
under_refl None = tt
under_refl (Some x) = refl

pub under_trans : {A : Type 0} (a b c : Option A) → Under a b → Under b c → Under a c
under_trans None b c p q = tt
under_trans (Some x) None c p q = absurd (cc)
under_trans (Some x) (Some y) c p q = q ∙ p

joined_under : (a b : Option Outcome) (g h : Gathered) → Under a b → GathersUnder g h → GathersUnder (joined a g) (joined b h)
joined_under None b g h p q = tt
joined_under (Some Invalid) b Unknown h p q = tt
joined_under (Some Invalid) b SomeInvalid h p q = rw (p, q) refl
joined_under (Some Invalid) b (Values vs) h p q = rw (p, q) refl
joined_under (Some (Val v)) b Unknown h p q = tt
joined_under (Some (Val v)) b SomeInvalid h p q = rw (p, q) refl
joined_under (Some (Val v)) b (Values vs) h p q = rw (p, q) refl

given_under : (f : List Value → Value) (g h : Gathered) → GathersUnder g h → Under (given f g) (given f h)
given_under f Unknown h q = tt
given_under f SomeInvalid h q = rw q refl
given_under f (Values vs) h q = rw q refl

with_under : (a b : Option Outcome) (next next' : Value → Option Outcome) → Under a b
    → ((v : Value) → Under (next v) (next' v)) → Under (with_value a next) (with_value b next')
with_under None b next next' p q = tt
with_under (Some Invalid) b next next' p q = rw p refl
with_under (Some (Val v)) b next next' p q = rw p (q v)

then_under : (a b : Option Outcome) (next : Outcome → Option Outcome) → Under a b → Under (and_then a next) (and_then b next)
then_under None b next p = tt
then_under (Some o) b next p = rw p (under_refl (next o))

module _ (F : Functions) (G : Graph) (r r' : Query → Option Outcome) (part : (q : Query) → Under (r q) (r' q)) where
  gathered_under : (ts : Terms) → GathersUnder (gathered r ts) (gathered r' ts)
  gathered_under End = refl
  gathered_under (More t rest) = joined_under (r (Of t)) (r' (Of t)) _ _ (part (Of t)) (gathered_under rest)

  chosen_under : (t : Option Term) → Under (chosen r t) (chosen r' t)
  chosen_under None = refl
  chosen_under (Some t) = part (Of t)

  left_under : (built : Option Built) (def : Def) → Under (left_holds r built def) (left_holds r' built def)
  left_under built (graph.Bind l f caps) = then_under (r (Of (Ref l))) (r' (Of (Ref l))) (as_built built) (part (Of (Ref l)))
  left_under built _ = refl

  bind_under : (built : Option Built) (row : Option Row) → Under (bind_holds r built row) (bind_holds r' built row)
  bind_under built None = refl
  bind_under built (Some row) =
      with_under (r (Around row.scope)) (r' (Around row.scope)) _ _ (part (Around row.scope)) (λ v. left_under built row.def)

  scope_under : (s : Option NodeId) → Under (scope_level r G s) (scope_level r' G s)
  scope_under None = refl
  scope_under (Some b) = bind_under (G.built b) (G.row b)

  node_under : (n : NodeId) (row : Option Row) → Under (node_level r G n row) (node_level r' G n row)
  node_under n None = refl
  node_under n (Some row) = with_under (r (Around row.scope)) (r' (Around row.scope)) _ _ (part (Around row.scope)) (λ v. part (Of (present G n row)))

  level_under : (q : Query) → Under (level F G r q) (level F G r' q)
  level_under (Around s) = scope_under s
  level_under (Of (Const v)) = refl
  level_under (Of (Ref n)) = node_under n (G.row n)
  level_under (Of (Cap i)) = tt
  level_under (Of (Map f ts)) = given_under (F.value f) _ _ (gathered_under ts)
  level_under (Of (Fold f v ts)) = given_under (folded (F.value f) v) _ _ (gathered_under ts)
  level_under (Of (If t a b)) = with_under (r (Of t)) (r' (Of t)) _ _ (part (Of t)) (λ v. chosen_under (branch a b v))
  level_under (Of (Join t)) = with_under (r (Of t)) (r' (Of t)) _ _ (part (Of t)) (λ v. chosen_under (named v))
  level_under (Of (Bind l f caps)) = with_under (r (Of l)) (r' (Of l)) _ _ (part (Of l)) (λ v. chosen_under (Some (put caps (F.term f v))))
  level_under (Of (At t)) = refl
  level_under (Of (Steps v steps)) = refl
  level_under (Of Now) = refl

deeper : (F : Functions) (G : Graph) (d : ℕ) (q : Query) → Under (answer F G d q) (answer F G (suc d) q)
unfolding answer
deeper F G zero q = tt
deeper F G (suc d) q = level_under F G (answer F G d) (answer F G (suc d)) (λ q. deeper F G d q) q

-- every greater depth gives the same
pub at_more : (F : Functions) (G : Graph) (d e : ℕ) (q : Query) → d ≤ e → Under (answer F G d q) (answer F G e q)
at_more F G zero zero q le = under_refl (answer F G zero q)
at_more F G (suc d) zero q le = absurd (omega arith)
at_more F G d (suc e) q le = elim (cases_lt e d) [
  | inl past ↦ let same : suc e ≡ d = omega arith in rw same (under_refl (answer F G d q))
  | inr within ↦ under_trans (answer F G d q) (answer F G e q) (answer F G (suc e) q) (at_more F G d e q within) (deeper F G e q)
]

pub at_depth : (F : Functions) (G : Graph) (d e : ℕ) (q : Query) (o : Outcome) → d ≤ e → answer F G d q ≡ Some o → answer F G e q ≡ Some o
at_depth F G d e q o le gives = rw gives at (at_more F G d e q le)

pub gathered_at : (F : Functions) (G : Graph) (d e : ℕ) (ts : Terms) → d ≤ e → GathersUnder (gathered (answer F G d) ts) (gathered (answer F G e) ts)
gathered_at F G d e ts le = gathered_under F G (answer F G d) (answer F G e) (λ q. at_more F G d e q le) ts

-- one outcome
pub one_outcome : (F : Functions) (G : Graph) (q : Query) (o p : Outcome) → Gives F G q o → Gives F G q p → o ≡ p
one_outcome F G q o p (d, first) (e, second) = elim (cases_lt d e) [
  | inl below ↦ let le : d ≤ e = omega arith in let more = at_depth F G d e q o le first in cc
  | inr above ↦ let more = at_depth F G e d q p above second in cc
]
