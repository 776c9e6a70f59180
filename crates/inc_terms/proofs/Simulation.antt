-- Terms that read alike give alike, in two graphs.
use Rattle.std.proofs.Common.{◌≡◌, ℕ, ℤ, zero, suc, List, [], ◌∷◌, Option, None, Some, Bool, true, false, cond, refl}
use Rattle.std.specs.Int.Signed.{le_z}
use Rattle.inc_value.specs.declared.function.FnKind.{FnKind}
use Rattle.inc_value.specs.declared.function.FnKind.TheVariants as kind
use Rattle.inc_value.specs.declared.function.FnRef.{FnRef}
use Rattle.inc_value.specs.declared.node.NodeId.{NodeId}
use Rattle.inc_value.specs.declared.outcome.Outcome.{Outcome}
use Rattle.inc_value.specs.declared.outcome.Outcome.TheVariants.{Val}
use Rattle.inc_value.specs.declared.value.Value.{Value}
use Rattle.inc_value.specs.declared.value.Value.TheVariants as value
use Rattle.inc_value.specs.Choice.{Every}
use Rattle.inc_terms.specs.Term.{Term, Terms, Step, Const, Ref, Cap, Map, Fold, If, Join, Bind, At, Steps, Now, End}
use Rattle.inc_terms.specs.Term.{More, Functions, put, put_all, capture}
use Rattle.inc_terms.specs.Graph.{Graph}
use Rattle.inc_terms.specs.Within.{ValueWithin, TermWithin, TermsWithin, FunctionsWithin}
use Rattle.inc_terms.specs.Evaluate.{Query, Of, gathered, folded, with_value, chosen, branch, named, latest, level, answer}
use Rattle.inc_terms.proofs.Evaluation.{at_depth}
use Rattle.inc_terms.proofs.Follows.{Follows, with_follows, After, GathersAfter, joined_after, lifted, given_after, chosen_stays}

-- alike but at the places where Base holds; all other names are fine
mutual
  pub data Like (P : NodeId → Type 0) (Q : FnKind → FnRef → Type 0) (Base : Term → Term → Type 0) : Term → Term → Type 0 where
    base : {t u : Term} → Base t u → Like P Q Base t u
    const : {v : Value} → ValueWithin P v → Like P Q Base (Const v) (Const v)
    cap : {i : ℕ} → Like P Q Base (Cap i) (Cap i)
    map : {f : FnRef} {ts us : Terms} → Q kind.Map f → LikeAll P Q Base ts us → Like P Q Base (Map f ts) (Map f us)
    fold : {f : FnRef} {v : Value} {ts us : Terms} → Q kind.Map f → ValueWithin P v → LikeAll P Q Base ts us
        → Like P Q Base (Fold f v ts) (Fold f v us)
    if_ : {t a b u c d : Term} → Like P Q Base t u → Like P Q Base a c → Like P Q Base b d → Like P Q Base (If t a b) (If u c d)
    join : {t u : Term} → Like P Q Base t u → Like P Q Base (Join t) (Join u)
    bind : {l m : Term} {f : FnRef} {ts us : Terms} → Q kind.Rhs f → Like P Q Base l m → LikeAll P Q Base ts us
        → Like P Q Base (Bind l f ts) (Bind m f us)
    at : {t : ℤ} → Like P Q Base (At t) (At t)
    steps : {v : Value} {ss : List Step} → ValueWithin P v → Every (λ (s : Step). ValueWithin P s.value) ss → Like P Q Base (Steps v ss) (Steps v ss)
    now : Like P Q Base Now Now

  pub data LikeAll (P : NodeId → Type 0) (Q : FnKind → FnRef → Type 0) (Base : Term → Term → Type 0) : Terms → Terms → Type 0 where
    end : LikeAll P Q Base End End
    more : {t u : Term} {ts us : Terms} → Like P Q Base t u → LikeAll P Q Base ts us → LikeAll P Q Base (More t ts) (More u us)

mutual
  pub like_back : (P : NodeId → Type 0) (Q : FnKind → FnRef → Type 0) (Base : Term → Term → Type 0) (t u : Term)
      → Like P Q Base t u → Like P Q (λ a b. Base b a) u t
  like_back P Q Base t u (base b) = base b
  like_back P Q Base t u (const h) = const h
  like_back P Q Base t u cap = cap
  like_back P Q Base t u (map q ls) = map q (likes_back P Q Base _ _ ls)
  like_back P Q Base t u (fold q h ls) = fold q h (likes_back P Q Base _ _ ls)
  like_back P Q Base t u (if_ l a b) = if_ (like_back P Q Base _ _ l) (like_back P Q Base _ _ a) (like_back P Q Base _ _ b)
  like_back P Q Base t u (join l) = join (like_back P Q Base _ _ l)
  like_back P Q Base t u (bind q l ls) = bind q (like_back P Q Base _ _ l) (likes_back P Q Base _ _ ls)
  like_back P Q Base t u at = at
  like_back P Q Base t u (steps h hs) = steps h hs
  like_back P Q Base t u now = now

  pub likes_back : (P : NodeId → Type 0) (Q : FnKind → FnRef → Type 0) (Base : Term → Term → Type 0) (ts us : Terms)
      → LikeAll P Q Base ts us → LikeAll P Q (λ a b. Base b a) us ts
  likes_back P Q Base ts us end = end
  likes_back P Q Base ts us (more l ls) = more (like_back P Q Base _ _ l) (likes_back P Q Base _ _ ls)

-- ---- what fine terms give

module _ (F : Functions) (P : NodeId → Type 0) (Q : FnKind → FnRef → Type 0) (Base : Term → Term → Type 0)
    (named_base : (n : NodeId) → P n → Base (Ref n) (Ref n)) where
  capture_like : (ts us : Terms) (k i : ℕ) → LikeAll P Q Base ts us → Like P Q Base (capture ts k i) (capture us k i)
  capture_like ts us k i end = cap
  capture_like ts us zero i (more l ls) = l
  capture_like ts us (suc k) i (more l ls) = capture_like _ _ k i ls

  mutual
    -- a fine term with captures put in that are alike
    pub put_like : (ts us : Terms) → LikeAll P Q Base ts us → (t : Term) → TermWithin P Q t → Like P Q Base (put ts t) (put us t)
    put_like ts us c (Const v) h = const h
    put_like ts us c (Ref n) h = base (named_base n h)
    put_like ts us c (Cap i) h = capture_like ts us i i c
    put_like ts us c (Map f xs) h = map h.0 (put_all_like ts us c xs h.1)
    put_like ts us c (Fold f v xs) h = fold h.0 h.1 (put_all_like ts us c xs h.2)
    put_like ts us c (If t a b) h = if_ (put_like ts us c t h.0) (put_like ts us c a h.1) (put_like ts us c b h.2)
    put_like ts us c (Join t) h = join (put_like ts us c t h)
    put_like ts us c (Bind l f xs) h = bind h.0 (put_like ts us c l h.1) (put_all_like ts us c xs h.2)
    put_like ts us c (At t) h = at
    put_like ts us c (Steps v ss) h = steps h.0 h.1
    put_like ts us c Now h = now

    pub put_all_like : (ts us : Terms) → LikeAll P Q Base ts us → (xs : Terms) → TermsWithin P Q xs → LikeAll P Q Base (put_all ts xs) (put_all us xs)
    put_all_like ts us c End h = end
    put_all_like ts us c (More t xs) h = more (put_like ts us c t h.0) (put_all_like ts us c xs h.1)

  mutual
    -- a fine term is like itself
    pub self_like : (t : Term) → TermWithin P Q t → Like P Q Base t t
    self_like (Const v) h = const h
    self_like (Ref n) h = base (named_base n h)
    self_like (Cap i) h = cap
    self_like (Map f xs) h = map h.0 (self_all_like xs h.1)
    self_like (Fold f v xs) h = fold h.0 h.1 (self_all_like xs h.2)
    self_like (If t a b) h = if_ (self_like t h.0) (self_like a h.1) (self_like b h.2)
    self_like (Join t) h = join (self_like t h)
    self_like (Bind l f xs) h = bind h.0 (self_like l h.1) (self_all_like xs h.2)
    self_like (At t) h = at
    self_like (Steps v ss) h = steps h.0 h.1
    self_like Now h = now

    pub self_all_like : (xs : Terms) → TermsWithin P Q xs → LikeAll P Q Base xs xs
    self_all_like End h = end
    self_all_like (More t xs) h = more (self_like t h.0) (self_all_like xs h.1)

-- ---- one level

module _ (F : Functions) (P : NodeId → Type 0) (Q : FnKind → FnRef → Type 0) (fine : FunctionsWithin F P Q) where
  pub folded_within : (f : FnRef) → Q kind.Map f → (v : Value) (vs : List Value) → ValueWithin P v
      → Every (ValueWithin P) vs → ValueWithin P (folded (F.value f) v vs)
  folded_within f q v [] hv hs = hv
  folded_within f q v (x ∷ xs) hv hs = folded_within f q (F.value f (v ∷ x ∷ [])) xs (fine.values f (v ∷ x ∷ []) q (hv, (hs.0, tt))) hs.1

  pub latest_within : (moment : ℤ) (v : Value) (ss : List Step) → ValueWithin P v
      → Every (λ (s : Step). ValueWithin P s.value) ss → ValueWithin P (latest moment v ss)
  latest_within moment v [] hv hs = hv
  latest_within moment v (s ∷ ss) hv hs = pick (le_z s.time moment) (latest moment s.value ss) (latest_within moment s.value ss hs.0 hs.1)
    where
      pick : (b : Bool) (x : Value) → ValueWithin P x → ValueWithin P (cond b x v)
      pick true x h = h
      pick false x h = hv

-- what a subject's value chooses, alike in both
abbrev Choices : (NodeId → Type 0) → (FnKind → FnRef → Type 0) → (Term → Term → Type 0) → Option Term → Option Term → Type 0
Choices P Q Base None None = Unit {0}
Choices P Q Base (Some t) (Some u) = Like P Q Base t u
Choices P Q Base a b = ⊥

module _ (F : Functions) (G' : Graph) (P : NodeId → Type 0) (Q : FnKind → FnRef → Type 0) (Base : Term → Term → Type 0)
    (r : Query → Option Outcome) (part : (t u : Term) → Like P Q Base t u → After F G' P (Of u) (r (Of t))) where
  pub gathered_after : (ts us : Terms) → LikeAll P Q Base ts us → GathersAfter F G' P us (gathered r ts)
  gathered_after ts us end = ((0, refl), tt)
  gathered_after ts us (more l ls) = joined_after F G' P _ _ _ _ (part _ _ l) (gathered_after _ _ ls)

  chosen_after : (c c' : Option Term) → Choices P Q Base c c' → Follows P (λ d. chosen (answer F G' d) c') (chosen r c)
  chosen_after None None h = ((0, refl), tt)
  chosen_after None (Some u) h = absurd h
  chosen_after (Some t) None h = absurd h
  chosen_after (Some t) (Some u) h = part t u h

  switched_after : (t u : Term) (c c' : Value → Option Term) → Like P Q Base t u → ((v : Value) → ValueWithin P v → Choices P Q Base (c v) (c' v))
      → Follows P (λ d. with_value (answer F G' d (Of u)) (λ v. chosen (answer F G' d) (c' v))) (with_value (r (Of t)) (λ v. chosen r (c v)))
  switched_after t u c c' l h =
      with_follows P (λ d. answer F G' d (Of u)) (λ d v. chosen (answer F G' d) (c' v)) (r (Of t)) (λ v. chosen r (c v))
      (λ d e o le h. at_depth F G' d e (Of u) o le h) (λ v. chosen_stays F G' (c' v)) (part t u l) (λ v hv e. chosen_after (c v) (c' v) (h v hv))

  branches : (a b c d : Term) → Like P Q Base a c → Like P Q Base b d → (v : Value) → ValueWithin P v → Choices P Q Base (branch a b v) (branch c d v)
  branches a b c d l l' (value.Bool true) hv = l
  branches a b c d l l' (value.Bool false) hv = l'
  branches a b c d l l' (value.Int z) hv = tt
  branches a b c d l l' (value.Text z) hv = tt
  branches a b c d l l' (value.Node n z) hv = tt

module _ (F : Functions) (G G' : Graph) (P : NodeId → Type 0) (Q : FnKind → FnRef → Type 0) (Base : Term → Term → Type 0)
    (fine : FunctionsWithin F P Q) (same_now : G'.now ≡ G.now) (named_base : (n : NodeId) → P n → Base (Ref n) (Ref n))
    (r : Query → Option Outcome) (part : (t u : Term) → Like P Q Base t u → After F G' P (Of u) (r (Of t))) where
  names : (v : Value) → ValueWithin P v → Choices P Q Base (named v) (named v)
  names (value.Bool b) hv = tt
  names (value.Int z) hv = tt
  names (value.Text z) hv = tt
  names (value.Node n z) hv = base (named_base n hv)

  -- one level over like terms, but at Base
  pub level_after : (t u : Term) → Like P Q Base t u → (Base t u → After F G' P (Of u) (level F G r (Of t)))
      → After F G' P (Of u) (level F G r (Of t))
  level_after t u (base b) at_base = at_base b
  level_after t u (const {v} h) at_base = lifted F G' P (Of (Const v)) (Some (Val v)) ((0, refl), h)
  level_after t u (cap {i}) at_base = tt
  level_after t u (map {f} {ts} {us} q ls) at_base =
      lifted F G' P (Of (Map f us)) _
      (given_after F G' P (F.value f) (λ vs hv. fine.values f vs q hv) us _ (gathered_after F G' P Q Base r part ts us ls))
  level_after t u (fold {f} {v} {ts} {us} q hv ls) at_base =
      lifted F G' P (Of (Fold f v us)) _
      (given_after F G' P (folded (F.value f) v) (λ vs hs. folded_within F P Q fine f q v vs hv hs) us _
      (gathered_after F G' P Q Base r part ts us ls))
  level_after t u (if_ {t = x} {a} {b} {u = y} {c} {d} l la lb) at_base = lifted F G' P (Of (If y c d)) _
      (switched_after F G' P Q Base r part x y (branch a b) (branch c d) l (branches F G' P Q Base r part a b c d la lb))
  level_after t u (join {t = x} {u = y} l) at_base = lifted F G' P (Of (Join y)) _ (switched_after F G' P Q Base r part x y named named l names)
  level_after t u (bind {l = x} {m = y} {f} {ts} {us} q l ls) at_base =
      lifted F G' P (Of (Bind y f us)) _
      (switched_after F G' P Q Base r part x y (λ v. Some (put ts (F.term f v))) (λ v. Some (put us (F.term f v))) l
      (λ v hv. put_like F P Q Base named_base ts us ls (F.term f v) (fine.terms f v q hv)))
  level_after t u (at {t = z}) at_base = lifted F G' P (Of (At z)) (Some (Val (value.Bool (le_z z G.now)))) ((0, rw same_now refl), tt)
  level_after t u (steps {v} {ss} hv hs) at_base =
      lifted F G' P (Of (Steps v ss)) (Some (Val (latest G.now v ss))) ((0, rw same_now refl), latest_within F P Q fine G.now v ss hv hs)
  level_after t u now at_base = lifted F G' P (Of Now) (Some (Val (value.Int G.now))) ((0, rw same_now refl), tt)
