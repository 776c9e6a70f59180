-- Pushing onto a chain and popping its head.
use Rattle.std.proofs.Common.{◌≡◌, ◌≢◌, ◌∙◌, ◌⊎◌, ℕ, zero, suc, ◌+◌, ◌<◌, ◌≤◌, true, false, List, [], ◌∷◌, ◌++◌, length, refl, ap, sym, subst, inl, inr, arith, nat_eq, cond, eqb, replicate, take_all}
use Rattle.std.specs.Prelude.{Result, Ok, Err, is_ok, take, ◌-◌, if◌then◌else◌, Option, Some, None, slice_index_or, slice_set}
use Rattle.std.proofs.lemmas.Bool.{cases_eq, ne_eqb, eq-eqb, cases_lt}
use Rattle.std.proofs.lemmas.Bool.Decides.{eqb_tells}
use Rattle.std.proofs.lemmas.Map.Steps.{length-le_from_distinct_below}
use Rattle.std.specs.List.{IsDistinct, AllByRecursion, list_any}
use Rattle.std.proofs.lemmas.List.{length-set, length-append, get_or_past, get_or-set_same, get_or-set_other}
use Rattle.point_map.specs.Chains.{Among, NoRepeats, Chain, IsLinked, NoneOnChain}

-- a chain is the same where the links of its places are
pub chain_kept : (old new : ℕ → Option ℕ) (from : Option ℕ) (ks : List ℕ) → ((k : ℕ) → Among ks k → new k ≡ old k)
    → Chain old from ks → Chain new from ks
chain_kept old new from [] same h = h
chain_kept old new from (k ∷ ks) same h =
    (h.0, subst (λ at. Chain new at ks) (sym (same k (inl refl))) (chain_kept old new (old k) ks (λ j a. same j (inr a)) h.1))

-- a place in a bucket
pub some_bucket : (a b : ℕ) → ◌≡◌ {A = Option ℕ} (Some a) (Some b) → a ≡ b
some_bucket a b h = cc

pub none_bucket : (a : ℕ) → ◌≡◌ {A = Option ℕ} None (Some a) → ⊥
none_bucket a h = cc

-- chains with one in place of that of a bucket
abbrev pub chains_with : (ℕ → List ℕ) → ℕ → List ℕ → ℕ → List ℕ
chains_with chains b ks x = cond (nat_eq x b) ks (chains x)

with_same : (chains : ℕ → List ℕ) (b : ℕ) (ks : List ℕ) → chains_with chains b ks b ≡ ks
with_same chains b ks = ap (λ t. cond t ks (chains b)) (eq-eqb b b refl)

with_other : (chains : ℕ → List ℕ) (b x : ℕ) (ks : List ℕ) → x ≢ b → chains_with chains b ks x ≡ chains x
with_other chains b x ks differs = ap (λ t. cond t ks (chains x)) (ne_eqb x b differs)

-- a cell is put before the others of its bucket
module _ (heads : List (Option ℕ)) (next new_next bucket new_bucket : ℕ → Option ℕ) (b k : ℕ) (links : IsLinked heads next bucket)
    (wide : b < length heads) (vacant : bucket k ≡ None) (leads : new_next k ≡ slice_index_or heads b None) (put : new_bucket k ≡ Some b)
    (same_next : (j : ℕ) → j ≢ k → new_next j ≡ next j) (same_bucket : (j : ℕ) → j ≢ k → new_bucket j ≡ bucket j) where
  abbrev pushed_chains : ℕ → List ℕ
  pushed_chains = chains_with links.chains b (k ∷ links.chains b)

  not_pushed : (x j : ℕ) → Among (links.chains x) j → j ≢ k
  not_pushed x j a same = none_bucket x (sym vacant ∙ ap bucket (sym same) ∙ links.own x j a)

  pushed_here : Chain new_next (slice_index_or (slice_set heads b (Some k)) b None) (pushed_chains b)
  pushed_here = subst (λ ks. Chain new_next (slice_index_or (slice_set heads b (Some k)) b None) ks) (sym (with_same links.chains b
      (k ∷ links.chains b))) (
        get_or-set_same heads b (Some k) None wide,
        subst (λ at. Chain new_next at (links.chains b)) (sym leads)
            (chain_kept next new_next (slice_index_or heads b None) (links.chains b) (λ j a. same_next j (not_pushed b j a)) (links.linked b wide)),
      )

  pushed_linked : (x : ℕ) → x < length heads → Chain new_next (slice_index_or (slice_set heads b (Some k)) x None) (pushed_chains x)
  pushed_linked x lt =
      elim (cases_eq x b) [
        | inl same ↦ subst (λ y. Chain new_next (slice_index_or (slice_set heads b (Some k)) y None) (pushed_chains y)) (sym same) pushed_here
        | inr differs ↦ subst (λ ks. Chain new_next (slice_index_or (slice_set heads b (Some k)) x None) ks) (sym
            (with_other links.chains b x (k ∷ links.chains b) differs))
            (subst (λ at. Chain new_next at (links.chains x)) (sym (get_or-set_other heads b x (Some k) None differs))
            (chain_kept next new_next (slice_index_or heads x None) (links.chains x) (λ j a. same_next j (not_pushed x j a)) (links.linked x lt)))
      ]

  pushed_among : (x j : ℕ) → Among (links.chains x) j → Among (pushed_chains x) j
  pushed_among x j a =
      elim (cases_eq x b) [
        | inl same ↦ subst (λ ks. Among ks j) (ap pushed_chains (sym same)) (subst (λ ks. Among ks j) (sym (with_same links.chains b
            (k ∷ links.chains b)))
            (inr (subst (λ y. Among (links.chains y) j) same a)))
        | inr differs ↦ subst (λ ks. Among ks j) (sym (with_other links.chains b x (k ∷ links.chains b) differs)) a
      ]

  pushed_every : (j x : ℕ) → new_bucket j ≡ Some x → (x < length heads) × Among (pushed_chains x) j
  pushed_every j x h =
      elim (cases_eq j k) [
        | inl same ↦
            let at_b = some_bucket b x (sym put ∙ ap new_bucket (sym same) ∙ h) in (
              subst (λ y. y < length heads) at_b wide,
              subst (λ y. Among (pushed_chains y) j) at_b
                  (subst (λ ks. Among ks j) (sym (with_same links.chains b (k ∷ links.chains b))) (inl (sym same))),
            )
        | inr differs ↦
            let was = links.every j x (sym (same_bucket j differs) ∙ h) in
            (was.0, pushed_among x j was.1)
      ]

  pushed_own_here : (j : ℕ) → Among (k ∷ links.chains b) j → new_bucket j ≡ Some b
  pushed_own_here j (inl same) = ap new_bucket (sym same) ∙ put
  pushed_own_here j (inr a) = same_bucket j (not_pushed b j a) ∙ links.own b j a

  pushed_own : (x j : ℕ) → Among (pushed_chains x) j → new_bucket j ≡ Some x
  pushed_own x j a =
      elim (cases_eq x b) [
        | inl same ↦ pushed_own_here j (subst (λ ks. Among ks j) (ap pushed_chains same ∙ with_same links.chains b
            (k ∷ links.chains b)) a) ∙ ap Some (sym same)
        | inr differs ↦
            let was = subst (λ ks. Among ks j) (with_other links.chains b x (k ∷ links.chains b) differs) a in
            same_bucket j (not_pushed x j was) ∙ links.own x j was
      ]

  pushed_once : (x : ℕ) → NoRepeats (pushed_chains x)
  pushed_once x =
      elim (cases_eq x b) [
        | inl same ↦ subst NoRepeats (sym (ap pushed_chains same ∙ with_same links.chains b (k ∷ links.chains b)))
            ((λ a. none_bucket b (sym vacant ∙ links.own b k a)), links.once b)
        | inr differs ↦ subst NoRepeats (sym (with_other links.chains b x (k ∷ links.chains b) differs)) (links.once x)
      ]

  pub links_pushed : IsLinked (slice_set heads b (Some k)) new_next new_bucket
  links_pushed = record {
    chains = pushed_chains;
    linked = λ x lt. pushed_linked x (subst (λ n. x < n) (length-set heads b (Some k)) lt);
    every = λ j x h. let e = pushed_every j x h in (subst (λ n. x < n) (sym (length-set heads b (Some k))) e.0, e.1);
    own = pushed_own;
    once = pushed_once;
  }

-- the head of a bucket is taken off
module _ (heads : List (Option ℕ)) (next new_next bucket new_bucket : ℕ → Option ℕ) (b k : ℕ) (links : IsLinked heads next bucket)
    (wide : b < length heads) (head : slice_index_or heads b None ≡ Some k) (off : new_bucket k ≡ None)
    (same_next : (j : ℕ) → j ≢ k → new_next j ≡ next j) (same_bucket : (j : ℕ) → j ≢ k → new_bucket j ≡ bucket j) where
  tail_of : (ks : List ℕ) → Chain next (Some k) ks → (rest : List ℕ) × (ks ≡ k ∷ rest)
  tail_of [] h = absurd (let e = h in cc)
  tail_of (j ∷ rest) h = (rest, ap (λ x. x ∷ rest) (sym (some_bucket k j h.0)))

  front : (rest : List ℕ) × (links.chains b ≡ k ∷ rest)
  front = tail_of (links.chains b) (subst (λ at. Chain next at (links.chains b)) head (links.linked b wide))

  abbrev popped_chains : ℕ → List ℕ
  popped_chains = chains_with links.chains b front.0

  k_bucket : bucket k ≡ Some b
  k_bucket = links.own b k (subst (λ ks. Among ks k) (sym front.1) (inl refl))

  not_twice : NoRepeats (k ∷ front.0)
  not_twice = subst NoRepeats front.1 (links.once b)

  rest_not_k : (j : ℕ) → Among front.0 j → j ≢ k
  rest_not_k j a same = not_twice.0 (subst (λ x. Among front.0 x) same a)

  other_not_k : (x j : ℕ) → x ≢ b → Among (links.chains x) j → j ≢ k
  other_not_k x j differs a same = differs (some_bucket x b (sym (links.own x j a) ∙ ap bucket same ∙ k_bucket))

  popped_here : Chain new_next (slice_index_or (slice_set heads b (next k)) b None) (popped_chains b)
  popped_here = subst (λ ks. Chain new_next (slice_index_or (slice_set heads b (next k)) b None) ks) (sym (with_same links.chains b front.0))
      (subst (λ at. Chain new_next at front.0) (sym (get_or-set_same heads b (next k) None wide))
      (chain_kept next new_next (next k) front.0 (λ j a. same_next j (rest_not_k j a))
      (subst (λ ks. Chain next (slice_index_or heads b None) ks) front.1 (links.linked b wide)).1))

  popped_linked : (x : ℕ) → x < length heads → Chain new_next (slice_index_or (slice_set heads b (next k)) x None) (popped_chains x)
  popped_linked x lt =
      elim (cases_eq x b) [
        | inl same ↦ subst (λ y. Chain new_next (slice_index_or (slice_set heads b (next k)) y None) (popped_chains y)) (sym same) popped_here
        | inr differs ↦ subst (λ ks. Chain new_next (slice_index_or (slice_set heads b (next k)) x None) ks) (sym
            (with_other links.chains b x front.0 differs))
            (subst (λ at. Chain new_next at (links.chains x)) (sym (get_or-set_other heads b x (next k) None differs))
            (chain_kept next new_next (slice_index_or heads x None) (links.chains x) (λ j a. same_next j (other_not_k x j differs a))
            (links.linked x lt)))
      ]

  popped_among_here : (j : ℕ) → j ≢ k → Among (k ∷ front.0) j → Among front.0 j
  popped_among_here j differs (inl same) = absurd (differs (sym same))
  popped_among_here j differs (inr a) = a

  popped_among : (x j : ℕ) → j ≢ k → Among (links.chains x) j → Among (popped_chains x) j
  popped_among x j differs a =
      elim (cases_eq x b) [
        | inl same ↦ subst (λ ks. Among ks j) (sym (ap popped_chains same ∙ with_same links.chains b front.0))
            (popped_among_here j differs (subst (λ ks. Among ks j) (ap links.chains same ∙ front.1) a))
        | inr other ↦ subst (λ ks. Among ks j) (sym (with_other links.chains b x front.0 other)) a
      ]

  popped_every : (j x : ℕ) → new_bucket j ≡ Some x → (x < length heads) × Among (popped_chains x) j
  popped_every j x h =
      elim (cases_eq j k) [
        | inl same ↦ absurd (none_bucket x (sym off ∙ ap new_bucket (sym same) ∙ h))
        | inr differs ↦
            let was = links.every j x (sym (same_bucket j differs) ∙ h) in
            (was.0, popped_among x j differs was.1)
      ]

  popped_own : (x j : ℕ) → Among (popped_chains x) j → new_bucket j ≡ Some x
  popped_own x j a =
      elim (cases_eq x b) [
        | inl same ↦
            let was = subst (λ ks. Among ks j) (ap popped_chains same ∙ with_same links.chains b front.0) a in
            same_bucket j (rest_not_k j was) ∙ links.own b j (subst (λ ks. Among ks j) (sym front.1) (inr was)) ∙ ap Some (sym same)
        | inr differs ↦
            let was = subst (λ ks. Among ks j) (with_other links.chains b x front.0 differs) a in
            same_bucket j (other_not_k x j differs was) ∙ links.own x j was
      ]

  popped_once : (x : ℕ) → NoRepeats (popped_chains x)
  popped_once x =
      elim (cases_eq x b) [
        | inl same ↦ subst NoRepeats (sym (ap popped_chains same ∙ with_same links.chains b front.0)) not_twice.1
        | inr differs ↦ subst NoRepeats (sym (with_other links.chains b x front.0 differs)) (links.once x)
      ]

  pub links_popped : IsLinked (slice_set heads b (next k)) new_next new_bucket
  links_popped = record {
    chains = popped_chains;
    linked = λ x lt. popped_linked x (subst (λ n. x < n) (length-set heads b (next k)) lt);
    every = λ j x h. let e = popped_every j x h in (subst (λ n. x < n) (sym (length-set heads b (next k))) e.0, e.1);
    own = popped_own;
    once = popped_once;
  }

-- cells with the same links and buckets
pub links_kept : (heads : List (Option ℕ)) (next new_next bucket new_bucket : ℕ → Option ℕ) → IsLinked heads next bucket
    → ((j : ℕ) → new_next j ≡ next j) → ((j : ℕ) → new_bucket j ≡ bucket j) → IsLinked heads new_next new_bucket
links_kept heads next new_next bucket new_bucket links same_next same_bucket = record {
  chains = links.chains;
  linked = λ b lt. chain_kept next new_next (slice_index_or heads b None) (links.chains b) (λ j a. same_next j) (links.linked b lt);
  every = λ k b h. links.every k b (sym (same_bucket k) ∙ h);
  own = λ b k a. same_bucket k ∙ links.own b k a;
  once = links.once;
}

head_among : (next : ℕ → Option ℕ) (from : Option ℕ) (k : ℕ) (ks : List ℕ) → from ≡ Some k → Chain next from ks → Among ks k
head_among next from k [] is h = absurd (none_bucket k (sym h ∙ is))
head_among next from k (j ∷ ks) is h = inl (some_bucket j k (sym h.0 ∙ is))

-- the head of a bucket is in the bucket
pub head_own : (heads : List (Option ℕ)) (next bucket : ℕ → Option ℕ) (b k : ℕ) → IsLinked heads next bucket → b < length heads
    → slice_index_or heads b None ≡ Some k → bucket k ≡ Some b
head_own heads next bucket b k links lt is = links.own b k (head_among next (slice_index_or heads b None) k (links.chains b) is (links.linked b lt))

headless : (next : ℕ → Option ℕ) (from : Option ℕ) (k : ℕ) (ks : List ℕ) → from ≡ None → Chain next from ks → Among ks k → ⊥
headless next from k [] is h a = a
headless next from k (j ∷ ks) is h a = none_bucket j (sym is ∙ h.0)

-- a bucket without a head is empty
pub head_none : (heads : List (Option ℕ)) (next bucket : ℕ → Option ℕ) (b k : ℕ) → IsLinked heads next bucket → b < length heads
    → slice_index_or heads b None ≡ None → bucket k ≡ Some b → ⊥
head_none heads next bucket b k links lt is h =
    headless next (slice_index_or heads b None) k (links.chains b) is (links.linked b lt) (links.every k b h).1

-- buckets without heads, and no cells
pub links_empty : (heads : List (Option ℕ)) (next bucket : ℕ → Option ℕ) → ((b : ℕ) → slice_index_or heads b None ≡ None)
    → ((k : ℕ) → bucket k ≡ None) → IsLinked heads next bucket
links_empty heads next bucket no_heads no_cells = record {
  chains = λ b. [];
  linked = λ b lt. no_heads b;
  every = λ k b h. absurd (none_bucket b (sym (no_cells k) ∙ h));
  own = λ b k a. absurd a;
  once = λ b. tt;
}

-- after so many steps along a chain, those of its places of which this is so are still ahead
abbrev pub Ahead : (ℕ → Option ℕ) → Option ℕ → ℕ → (ℕ → Type 0) → Option ℕ → ℕ → Type 0
Ahead next first bound P at steps = (ks : List ℕ) → Chain next first ks → length ks ≤ bound
    → (rest : List ℕ) × Chain next at rest × (length rest + steps ≤ bound) × ((k : ℕ) → Among ks k → P k → Among rest k)

step_of : (next : ℕ → Option ℕ) (place bound steps : ℕ) (P : ℕ → Type 0) (ks rest : List ℕ) → (P place → ⊥) → Chain next (Some place) rest
    → length rest + steps ≤ bound → ((k : ℕ) → Among ks k → P k → Among rest k)
    → (left : List ℕ) × Chain next (next place) left × (length left + (steps + 1) ≤ bound) × ((k : ℕ) → Among ks k → P k → Among left k)
step_of next place bound steps P ks [] never chain short ahead = absurd (none_bucket place (sym chain))
step_of next place bound steps P ks (j ∷ left) never chain short ahead = (
  left,
  subst (λ x. Chain next (next x) left) (sym (some_bucket place j chain.0)) chain.1,
  omega (arith, short),
  λ k a p. later k p (ahead k a p),
)
  where
    later : (k : ℕ) → P k → (j ≡ k) ⊎ Among left k → Among left k
    later k p (inl same) = absurd (never (subst P (sym (some_bucket place j chain.0 ∙ same)) p))
    later k p (inr a) = a

pub ahead_step : (next : ℕ → Option ℕ) (first : Option ℕ) (bound : ℕ) (P : ℕ → Type 0) (place steps : ℕ)
    → Ahead next first bound P (Some place) steps → (P place → ⊥) → Ahead next first bound P (next place) (steps + 1)
ahead_step next first bound P place steps ahead never ks chain short =
    let a = ahead ks chain short in step_of next place bound steps P ks a.0 never a.1 a.2 a.3

none_ahead : (next : ℕ → Option ℕ) (k : ℕ) (rest : List ℕ) → Chain next None rest → Among rest k → ⊥
none_ahead next k [] chain a = a
none_ahead next k (j ∷ rest) chain a = none_bucket j chain.0

-- at the chain's end there is none
pub ahead_none : (next : ℕ → Option ℕ) (first : Option ℕ) (bound : ℕ) (P : ℕ → Type 0) (steps : ℕ)
    → Ahead next first bound P None steps → NoneOnChain next first bound P
ahead_none next first bound P steps ahead ks chain short k a p =
    let h = ahead ks chain short in none_ahead next k h.0 h.1 (h.3 k a p)

among_any : (ks : List ℕ) (k : ℕ) → list_any (eqb k) ks ≡ true → Among ks k
among_any [] k h = absurd (let e = h in cc)
among_any (j ∷ ks) k h =
    elim (eqb_tells k j) [
      | inl same ↦ inl (sym same.1)
      | inr differs ↦ inr (among_any ks k (let d = differs.0 in grind (arith, h, d)))
    ]

apart : (k : ℕ) (ks : List ℕ) → (Among ks k → ⊥) → AllByRecursion (λ y. eqb k y ≡ false) ks
apart k [] never = tt
apart k (j ∷ ks) never = (ne_eqb k j (λ same. never (inl (sym same))), apart k ks (λ a. never (inr a)))

distinct_from : (ks : List ℕ) → NoRepeats ks → IsDistinct eqb ks
unfolding IsDistinct
distinct_from [] h = tt
distinct_from (k ∷ ks) h = (apart k ks h.0, distinct_from ks h.1)

-- places below a bound, none twice, are no more than the bound
pub few_places : (ks : List ℕ) (bound : ℕ) → NoRepeats ks → ((k : ℕ) → Among ks k → k < bound) → length ks ≤ bound
few_places ks bound once below = length-le_from_distinct_below ks bound (distinct_from ks once) (λ q h. below q (among_any ks q h))

-- where a chain has no place, it leads nowhere
chain_past : (next : ℕ → Option ℕ) (from : Option ℕ) (ks : List ℕ) → from ≡ None → ((k : ℕ) → Among ks k → ⊥) → Chain next from ks
chain_past next from [] none never = none
chain_past next from (k ∷ ks) none never = absurd (never k (inl refl))

wide_at : (heads : List (Option ℕ)) (n b : ℕ) → slice_index_or (heads ++ replicate n None) b None ≡ slice_index_or heads b None
wide_at [] zero b = refl
wide_at [] (suc n) zero = refl
wide_at [] (suc n) (suc b) = wide_at [] n b
wide_at (h ∷ heads) n zero = refl
wide_at (h ∷ heads) n (suc b) = wide_at heads n b

-- more buckets, all empty
pub links_wide : (heads : List (Option ℕ)) (n : ℕ) (next bucket : ℕ → Option ℕ) → IsLinked heads next bucket
    → IsLinked (heads ++ replicate n None) next bucket
links_wide heads n next bucket links = record {
  chains = links.chains;
  linked = λ b lt. subst (λ from. Chain next from (links.chains b)) (sym (wide_at heads n b)) (elim (cases_lt b (length heads)) [
    | inl in_old ↦ links.linked b in_old
    | inr past ↦ chain_past next (slice_index_or heads b None) (links.chains b) (get_or_past heads b None past)
        (λ k a. let e = (links.every k b (links.own b k a)).0 in omega (arith, e, past))
  ]);
  every = λ k b is. let e = links.every k b is in let longer = length-append heads (replicate n None) in (omega (arith, e.0, longer), e.1);
  own = links.own;
  once = links.once;
}

module _ {T E : Type 0} (r : Result T E) (heads items : List (Option ℕ)) (width len : ℕ) (short : len < width) (len_is : len ≡ length heads)
    (is : items ≡ (if is_ok r then take width heads ++ replicate (width - len) None else heads)) where
  either_width : (items ≡ heads) ⊎ (items ≡ heads ++ replicate (width - len) None)
  either_width = go r is
    where
      go : (q : Result T E) → items ≡ (if is_ok q then take width heads ++ replicate (width - len) None else heads)
          → (items ≡ heads) ⊎ (items ≡ heads ++ replicate (width - len) None)
      go (Ok x) h = inr (h ∙ ap (λ l. l ++ replicate (width - len) None) (take_all width heads (omega (arith, short, len_is))))
      go (Err e) h = inl h

  -- so many buckets, or as many as before
  pub wide_linked : (next bucket : ℕ → Option ℕ) → IsLinked heads next bucket → IsLinked items next bucket
  wide_linked next bucket links = elim either_width [
    | inl same ↦ rw same links
    | inr more ↦ rw more (links_wide heads (width - len) next bucket links)
  ]
