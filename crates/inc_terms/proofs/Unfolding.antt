-- A node gives what the term gives that it reads back as.
use Rattle.std.proofs.Common.{◌≡◌, ◌⊎◌, inl, inr, ℕ, zero, suc, ◌+◌, List, [], ◌∷◌, Option, None, Some, true, refl, arith, slice_get}
use Rattle.inc_value.specs.declared.function.FnKind.{FnKind}
use Rattle.inc_value.specs.declared.function.FnRef.{FnRef}
use Rattle.inc_value.specs.declared.node.NodeId.{NodeId}
use Rattle.inc_value.specs.declared.outcome.Outcome.{Outcome}
use Rattle.inc_value.specs.declared.outcome.Outcome.TheVariants.{Val, Invalid}
use Rattle.inc_value.specs.declared.value.Value.{Value}
use Rattle.inc_value.specs.declared.value.Value.TheVariants as value
use Rattle.inc_value.specs.Choice.{Every}
use Rattle.inc_terms.specs.Same.{same_outcome}
use Rattle.inc_terms.specs.Term.{Term, Terms, Step, Const, Ref, Cap, Map, Fold, If, Join, Bind, At, Steps, Now, End}
use Rattle.inc_terms.specs.Term.{More, Functions, refs, capture, put, put_all}
use Rattle.inc_terms.specs.Graph as graph
use Rattle.inc_terms.specs.Graph.{Graph, Row, Built, present}
use Rattle.inc_terms.specs.Within.{ValueWithin, TermWithin, TermsWithin, FunctionsWithin}
use Rattle.inc_terms.specs.Evaluate.{Query, Of, Around, with_value, level, answer, Gives, NodeGives, Stands}
use Rattle.inc_terms.specs.Unfold.{Unfolds, UnfoldsAll}
use Rattle.inc_terms.proofs.Evaluation.{at_depth, one_outcome}
use Rattle.inc_terms.proofs.Same.{outcome_decides}
use Rattle.inc_terms.proofs.Follows.{Follows}
use Rattle.inc_terms.proofs.Simulation.{Like, LikeAll, like_back, base, const, map, fold, if_, join, bind, at, steps, now, end, more, level_after}

-- ---- everything is fine where all names are

abbrev pub Any : {A : Type 0} → A → Type 0
Any x = Unit {0}

abbrev pub AnyFunction : FnKind → FnRef → Type 0
AnyFunction k f = Unit {0}

pub any_value : (v : Value) → ValueWithin Any v
any_value (value.Int z) = tt
any_value (value.Bool z) = tt
any_value (value.Text z) = tt
any_value (value.Node n z) = tt

any_steps : (ss : List Step) → Every (λ (s : Step). ValueWithin Any s.value) ss
any_steps [] = tt
any_steps (s ∷ ss) = (any_value s.value, any_steps ss)

mutual
  any_term : (t : Term) → TermWithin Any AnyFunction t
  any_term (Const v) = any_value v
  any_term (Ref n) = tt
  any_term (Cap i) = tt
  any_term (Map f ts) = (tt, any_terms ts)
  any_term (Fold f v ts) = (tt, any_value v, any_terms ts)
  any_term (If t a b) = (any_term t, any_term a, any_term b)
  any_term (Join t) = any_term t
  any_term (Bind l f ts) = (tt, any_term l, any_terms ts)
  any_term (At t) = tt
  any_term (Steps v ss) = (any_value v, any_steps ss)
  any_term Now = tt

  any_terms : (ts : Terms) → TermsWithin Any AnyFunction ts
  any_terms End = tt
  any_terms (More t ts) = (any_term t, any_terms ts)

pub any_functions : (F : Functions) → FunctionsWithin F Any AnyFunction
any_functions F = record { values = λ f vs q h. any_value (F.value f vs); terms = λ f v q h. any_term (F.term f v) }

capture_is : (ns : List NodeId) (k i : ℕ) (n : NodeId) → slice_get ns k ≡ Some n → capture (refs ns) k i ≡ Ref n
capture_is [] k i n e = absurd (cc)
capture_is (m ∷ ms) zero i n e = let same : m ≡ n = cc in rw same refl
capture_is (m ∷ ms) (suc k) i n e = capture_is ms k i n e

module _ (F : Functions) (G : Graph) (S : Option NodeId) (caps : List NodeId) (stands : Stands F G S) where
  -- a node and a term that it reads back as
  abbrev Pair : NodeId → Term → Type 0
  Pair n u = (s : Term) × Unfolds G S caps n s × (u ≡ put (refs caps) s)

  abbrev Opens : Term → Term → Type 0
  Opens t u = (n : NodeId) × (t ≡ Ref n) × ((u ≡ Ref n) ⊎ Pair n u)

  abbrev Closes : Term → Term → Type 0
  Closes t u = Opens u t

  -- a node of the scope, with how it reads in the relation R
  abbrev Opened : (Term → Type 0) → NodeId → Type 0
  Opened R n = (r : Row) × (G.row n ≡ Some r) × (r.scope ≡ S) × R (present G n r) × ((m : NodeId) → present G n r ≡ Ref m → ⊥)

  itself : (n : NodeId) → Unit {0} → Opens (Ref n) (Ref n)
  itself n h = (n, refl, inl refl)

  kids_like : (ns : List NodeId) (ts : Terms) → UnfoldsAll G S caps ns ts → LikeAll Any AnyFunction Opens (refs ns) (put_all (refs caps) ts)
  kids_like [] End h = end
  kids_like (n ∷ ns) End h = absurd h
  kids_like [] (More t ts) h = absurd h
  kids_like (n ∷ ns) (More t ts) h = more (base (n, refl, inr (t, h.0, refl))) (kids_like ns ts h.1)

  kid_like : (n : NodeId) (t : Term) → Unfolds G S caps n t → Like Any AnyFunction Opens (Ref n) (put (refs caps) t)
  kid_like n t h = base (n, refl, inr (t, h, refl))

  opens : (n : NodeId) (s : Term) → Unfolds G S caps n s
      → (put (refs caps) s ≡ Ref n) ⊎ Opened (λ t. Like Any AnyFunction Opens t (put (refs caps) s)) n
  opens n (Ref m) h = inl (let e = h.0 in cc)
  opens n (Cap i) h = inl (capture_is caps i i n h.0)
  opens n (Const v) h = inr (h.0, h.1, h.2, rw h.3 (const (any_value v)), λ m e. absurd (let e' = rw h.3 at e in cc))
  opens n (Map f ts) h = inr (h.1.0, h.1.1, h.1.2, rw h.1.3 (map tt (kids_like h.0 ts h.2)), λ m e. absurd (let e' = rw h.1.3 at e in cc))
  opens n (Fold f v ts) h =
      inr (h.1.0, h.1.1, h.1.2, rw h.1.3 (fold tt (any_value v) (kids_like h.0 ts h.2)), λ m e. absurd (let e' = rw h.1.3 at e in cc))
  opens n (If t a b) h =
      inr (
        h.3.0,
        h.3.1,
        h.3.2,
        rw h.3.3 (if_ (kid_like h.0 t h.4) (kid_like h.1 a h.5) (kid_like h.2 b h.6)),
        λ m e. absurd (let e' = rw h.3.3 at e in cc),
      )
  opens n (Join t) h = inr (h.1.0, h.1.1, h.1.2, rw h.1.3 (join (kid_like h.0 t h.2)), λ m e. absurd (let e' = rw h.1.3 at e in cc))
  opens n (Bind l f ts) h =
      inr (h.2.0, h.2.1, h.2.2, rw h.2.3 (bind tt (kid_like h.0 l h.3) (kids_like h.1 ts h.4)), λ m e. absurd (let e' = rw h.2.3 at e in cc))
  opens n (At t) h = inr (h.0, h.1, h.2, rw h.3 at, λ m e. absurd (let e' = rw h.3 at e in cc))
  opens n (Steps v ss) h = inr (h.0, h.1, h.2, rw h.3 (steps (any_value v) (any_steps ss)), λ m e. absurd (let e' = rw h.3 at e in cc))
  opens n Now h = inr (h.0, h.1, h.2, rw h.3 now, λ m e. absurd (let e' = rw h.3 at e in cc))

  -- what is answered later follows what is answered now
  abbrev Then : Query → Option Outcome → Type 0
  Then q a = Follows Any (λ d. answer F G d q) a

  stays_same : (q : Query) (d : ℕ) (a : Option Outcome) → answer F G d q ≡ a → Then q a
  stays_same q d None e = tt
  stays_same q d (Some (Val v)) e = ((d, e), any_value v)
  stays_same q d (Some Invalid) e = ((d, e), tt)

  same_level : (d : ℕ) (t : Term) → Then (Of t) (level F G (answer F G d) (Of t))
  unfolding answer
  same_level d t = stays_same (Of t) (suc d) (answer F G (suc d) (Of t)) refl

  -- ---- from a node to the term
  opened_gives : (d : ℕ) (n : NodeId) (u : Term) (r : Row) (a : Option Outcome) → answer F G d (Around S) ≡ a
      → Then (Of u) (answer F G d (Of (present G n r)))
      → Then (Of u) (with_value a (λ v. answer F G d (Of (present G n r))))
  opened_gives d n u r None e h = tt
  opened_gives d n u r (Some Invalid) e h = absurd (let same = one_outcome F G (Around S) Invalid (Val (value.Bool true)) (d, e) stands in cc)
  opened_gives d n u r (Some (Val v)) e h = h

  abbrev OpensAt : ℕ → Type 0
  OpensAt d = (t u : Term) → Like Any AnyFunction Opens t u → Then (Of u) (answer F G d (Of t))

  at_open : (d : ℕ) → OpensAt d → (t u : Term) → Opens t u → Then (Of u) (level F G (answer F G d) (Of t))
  at_open d ih t u (n, et, inl eu) = rw (et, eu) (same_level d (Ref n))
  at_open d ih t u (n, et, inr (s, unf, eu)) = rw (et, eu) (elim (opens n s unf) [
    | inl e ↦ rw e (same_level d (Ref n))
    | inr (r, row, sc, like, no_ref) ↦ rw (row, sc)
        (opened_gives d n (put (refs caps) s) r (answer F G d (Around S)) refl (ih (present G n r) (put (refs caps) s) like))
  ])

  all_open : (d : ℕ) → OpensAt d
  unfolding answer
  all_open zero t u l = tt
  all_open (suc d) t u l =
      level_after F G G Any AnyFunction Opens (any_functions F) refl itself (answer F G d) (all_open d) t u l (at_open d (all_open d) t u)

  -- what a node of the scope gives, the term gives that it reads back as
  pub unfolds_gives : (n : NodeId) (s : Term) → Unfolds G S caps n s → (o : Outcome) → NodeGives F G n o → Gives F G (Of (put (refs caps) s)) o
  unfolds_gives n s unf o g = (rw g.1 at (all_open g.0 (Ref n) (put (refs caps) s) (kid_like n s unf))).0

  -- ---- from the term to a node
  up : (n : NodeId) (r : Row) → G.row n ≡ Some r → r.scope ≡ S → (a : Option Outcome) → Then (Of (present G n r)) a → Then (Of (Ref n)) a
  unfolding answer
  up n r row sc None h = tt
  up n r row sc (Some o) h =
      let d : ℕ = stands.0 + h.0.0 in
      let first = at_depth F G stands.0 d (Around S) (Val (value.Bool true)) (omega arith) stands.1 in
      let second = at_depth F G h.0.0 d (Of (present G n r)) o (omega arith) h.0.1 in
      ((suc d, rw (row, sc, first, second) refl), h.1)

  abbrev ClosesAt : ℕ → Type 0
  ClosesAt d = (t u : Term) → Like Any AnyFunction Closes t u → Then (Of u) (answer F G d (Of t))

  at_close : (d : ℕ) → ClosesAt d → (t u : Term) → Closes t u → Then (Of u) (level F G (answer F G d) (Of t))
  at_close d ih t u (n, eu, inl et) = rw (et, eu) (same_level d (Ref n))
  at_close d ih t u (n, eu, inr (s, unf, et)) = rw (et, eu) (elim (opens n s unf) [
    | inl e ↦ rw e (same_level d (Ref n))
    | inr (r, row, sc, like, no_ref) ↦ up n r row sc (level F G (answer F G d) (Of (put (refs caps) s)))
        (level_after F G G Any AnyFunction Closes (any_functions F) refl itself (answer F G d) ih (put (refs caps) s)
        (present G n r) (like_back Any AnyFunction Opens _ _ like) (λ (c : Closes (put (refs caps) s) (present G n r)). absurd (no_ref c.0 c.1)))
  ])

  all_close : (d : ℕ) → ClosesAt d
  unfolding answer
  all_close zero t u l = tt
  all_close (suc d) t u l =
      level_after F G G Any AnyFunction Closes (any_functions F) refl itself (answer F G d) (all_close d) t u l (at_close d (all_close d) t u)

  -- what the term gives, the node gives that reads back as it
  pub gives_unfolds : (n : NodeId) (s : Term) → Unfolds G S caps n s → (o : Outcome) → Gives F G (Of (put (refs caps) s)) o → NodeGives F G n o
  gives_unfolds n s unf o g = (rw g.1 at (all_close g.0 (put (refs caps) s) (Ref n) (like_back Any AnyFunction Opens _ _ (kid_like n s unf)))).0

-- ---- a bind and its root

-- a bind that holds, and whose left gives what it was built for: its scope stands
pub scope_stands : (F : Functions) (G : Graph) (b : NodeId) (r : Row) (l : NodeId) (f : FnRef) (caps : List NodeId) (w : Built)
    → G.row b ≡ Some r → r.def ≡ graph.Bind l f caps → Stands F G r.scope → G.built b ≡ Some w → NodeGives F G l w.outcome → Stands F G (Some b)
unfolding answer
scope_stands F G b r l f caps w row def st built left =
    let d : ℕ = st.0 + left.0 in
    let first = at_depth F G st.0 d (Around r.scope) (Val (value.Bool true)) (omega arith) st.1 in
    let second = at_depth F G left.0 d (Of (Ref l)) w.outcome (omega arith) left.1 in
    let same : same_outcome w.outcome w.outcome ≡ true = (outcome_decides w.outcome w.outcome).1 refl in
    (suc d, rw (row, first, def, second, built, same) refl)
