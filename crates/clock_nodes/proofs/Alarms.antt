-- Which alarms stand in lists that are ordered and sifted, and that each key has one at most.
use Rattle.std.proofs.Common.{arith, length, ◌≤◌, ◌≡◌, ◌∙◌, ℕ, Bool, true, false, List, [], ◌∷◌, ◌++◌, ◌⊎◌, inl, inr, refl, sym, ap, subst, cond}
use Rattle.std.specs.Prelude.{filter, not, ◌==◌}
use Rattle.std.specs.Bool.{Decides}
use Rattle.std.proofs.lemmas.Bool.Decides.{Decides-eqb}
use Rattle.inc_value.specs.Choice.{Among, NoRepeats}
use Rattle.inc_terms.proofs.Plan.{among_left, among_parts, among_right}
use Rattle.timing_wheel.specs.Queue.{placed}
use Rattle.timing_wheel.specs.Alarms.{Alarm, by_deadline, no_later, but, keys_of, IsPending}

pub either : (t : Bool) → (t ≡ true) ⊎ (t ≡ false)
either true = inl refl
either false = inr refl

-- ---- keys

pub pending_among : (xs : List Alarm) (key : ℕ) → IsPending xs key → Among key (keys_of xs)
pending_among [] key h = h
pending_among (a ∷ xs) key (inl e) = inl (sym e)
pending_among (a ∷ xs) key (inr h) = inr (pending_among xs key h)

pub has_key : (xs : List Alarm) (a : Alarm) (key : ℕ) → Among a xs → a.key ≡ key → Among key (keys_of xs)
has_key [] a key h e = h
has_key (b ∷ xs) a key (inl same) e = inl (sym e ∙ ap (λ (x : Alarm). x.key) same)
has_key (b ∷ xs) a key (inr h) e = inr (has_key xs a key h e)

pub key_has : (xs : List Alarm) (key : ℕ) → Among key (keys_of xs) → (a : Alarm) × Among a xs × (a.key ≡ key)
key_has [] key h = absurd h
key_has (b ∷ xs) key (inl e) = (b, inl refl, sym e)
key_has (b ∷ xs) key (inr h) = let r = key_has xs key h in (r.0, inr r.1, r.2)

-- where keys stand once, so does each alarm by its key
pub same_alarm : (xs : List Alarm) (a b : Alarm) → NoRepeats (keys_of xs) → Among a xs → Among b xs → a.key ≡ b.key → a ≡ b
same_alarm [] a b once h g e = absurd h
same_alarm (x ∷ xs) a b once (inl p) (inl q) e = p ∙ sym q
same_alarm (x ∷ xs) a b once (inl p) (inr g) e = absurd (once.0 (has_key xs b x.key g (sym e ∙ ap (λ (y : Alarm). y.key) p)))
same_alarm (x ∷ xs) a b once (inr h) (inl q) e = absurd (once.0 (has_key xs a x.key h (e ∙ ap (λ (y : Alarm). y.key) q)))
same_alarm (x ∷ xs) a b once (inr h) (inr g) e = same_alarm xs a b once.1 h g e

-- ---- the order

among_placed : (x a : Alarm) (xs : List Alarm) → Among x (placed no_later a xs) → (x ≡ a) ⊎ Among x xs
among_placed x a [] h = h
among_placed x a (b ∷ bs) h = elim (either (no_later a b)) [
  | inl yes_le ↦ subst (Among x) (ap (λ t. cond t (a ∷ b ∷ bs) (b ∷ placed no_later a bs)) yes_le) h
  | inr no_le ↦ elim (subst (Among x) (ap (λ t. cond t (a ∷ b ∷ bs) (b ∷ placed no_later a bs)) no_le) h) [
    | inl e ↦ inr (inl e)
    | inr more ↦ elim (among_placed x a bs more) [ inl e ↦ inl e | inr g ↦ inr (inr g) ]
  ]
]

placed_among : (x a : Alarm) (xs : List Alarm) → (x ≡ a) ⊎ Among x xs → Among x (placed no_later a xs)
placed_among x a [] h = h
placed_among x a (b ∷ bs) h = elim (either (no_later a b)) [
  | inl yes_le ↦ subst (Among x) (sym (ap (λ t. cond t (a ∷ b ∷ bs) (b ∷ placed no_later a bs)) yes_le)) h
  | inr no_le ↦ subst (Among x) (sym (ap (λ t. cond t (a ∷ b ∷ bs) (b ∷ placed no_later a bs)) no_le)) (elim h [
    | inl e ↦ inr (placed_among x a bs (inl e))
    | inr more ↦ elim more [ inl e ↦ inl e | inr g ↦ inr (placed_among x a bs (inr g)) ]
  ])
]

once_placed : (a : Alarm) (xs : List Alarm) → (Among a.key (keys_of xs) → ⊥) → NoRepeats (keys_of xs) → NoRepeats (keys_of (placed no_later a xs))
once_placed a [] off once = ((λ h. h), tt)
once_placed a (b ∷ bs) off once = elim (either (no_later a b)) [
  | inl yes_le ↦ subst (λ l. NoRepeats (keys_of l)) (sym (ap (λ t. cond t (a ∷ b ∷ bs) (b ∷ placed no_later a bs)) yes_le)) (off, once)
  | inr no_le ↦ subst (λ l. NoRepeats (keys_of l)) (sym (ap (λ t. cond t (a ∷ b ∷ bs) (b ∷ placed no_later a bs)) no_le)) (
    (λ h. let y = key_has (placed no_later a bs) b.key h in elim (among_placed y.0 a bs y.1) [
      | inl e ↦ off (inl (ap (λ (z : Alarm). z.key) (sym e) ∙ y.2))
      | inr g ↦ once.0 (has_key bs y.0 b.key g y.2)
    ]),
    once_placed a bs (λ h. off (inr h)) once.1,
  )
]

pub among_ordered : (x : Alarm) (xs : List Alarm) → Among x (by_deadline xs) → Among x xs
among_ordered x [] h = h
among_ordered x (a ∷ xs) h = elim (among_placed x a (by_deadline xs) h) [ inl e ↦ inl e | inr g ↦ inr (among_ordered x xs g) ]

pub ordered_among : (x : Alarm) (xs : List Alarm) → Among x xs → Among x (by_deadline xs)
ordered_among x [] h = h
ordered_among x (a ∷ xs) (inl e) = placed_among x a (by_deadline xs) (inl e)
ordered_among x (a ∷ xs) (inr h) = placed_among x a (by_deadline xs) (inr (ordered_among x xs h))

once_ordered : (xs : List Alarm) → NoRepeats (keys_of xs) → NoRepeats (keys_of (by_deadline xs))
once_ordered [] once = tt
once_ordered (a ∷ xs) once = once_placed a (by_deadline xs)
    (λ h. let y = key_has (by_deadline xs) a.key h in once.0 (has_key xs y.0 a.key (among_ordered y.0 xs y.1) y.2))
    (once_ordered xs once.1)

-- ---- one behind others

module _ {A : Type 0} where
  pub among_last : (x : A) (xs : List A) → Among x (xs ++ x ∷ [])
  among_last x xs = among_right x xs (x ∷ []) (inl refl)

  pub among_cases : (x a : A) (xs : List A) → Among x (xs ++ a ∷ []) → Among x xs ⊎ (x ≡ a)
  among_cases x a xs h = elim (among_parts x xs (a ∷ []) h) [ inl g ↦ inl g | inr l ↦ elim l [ inl e ↦ inr e | inr none ↦ absurd none ] ]

  pub once_front : (a : A) (xs : List A) → NoRepeats (xs ++ a ∷ []) → NoRepeats xs
  once_front a [] once = tt
  once_front a (b ∷ xs) once = ((λ h. once.0 (among_left b xs (a ∷ []) h)), once_front a xs once.1)

  pub once_last : (a : A) (xs : List A) → NoRepeats (xs ++ a ∷ []) → Among a xs → ⊥
  once_last a [] once h = h
  once_last a (b ∷ xs) once (inl e) = once.0 (subst (λ y. Among y (xs ++ a ∷ [])) e (among_last a xs))
  once_last a (b ∷ xs) once (inr h) = once_last a xs once.1 h

  pub once_pushed : (a : A) (xs : List A) → NoRepeats xs → (Among a xs → ⊥) → NoRepeats (xs ++ a ∷ [])
  once_pushed a [] once off = ((λ h. h), tt)
  once_pushed a (b ∷ xs) once off =
      ((λ h. elim (among_cases b a xs h) [ inl g ↦ once.0 g | inr e ↦ off (inl (sym e)) ]), once_pushed a xs once.1 (λ h. off (inr h)))

once_added : (xs : List Alarm) (a : Alarm) → NoRepeats (keys_of xs) → (Among a.key (keys_of xs) → ⊥) → NoRepeats (keys_of (xs ++ a ∷ []))
once_added [] a once off = ((λ h. h), tt)
once_added (b ∷ xs) a once off = (
  (λ h. let y = key_has (xs ++ a ∷ []) b.key h in elim (among_cases y.0 a xs y.1) [
    | inl g ↦ once.0 (has_key xs y.0 b.key g y.2)
    | inr e ↦ off (inl (ap (λ (z : Alarm). z.key) (sym e) ∙ y.2))
  ]),
  once_added xs a once.1 (λ h. off (inr h)),
)

-- an alarm more for a key that had none
pub once_more : (xs : List Alarm) (a : Alarm) → NoRepeats (keys_of xs) → (Among a.key (keys_of xs) → ⊥)
    → NoRepeats (keys_of (by_deadline (xs ++ a ∷ [])))
once_more xs a once off = once_ordered (xs ++ a ∷ []) (once_added xs a once off)

-- ---- those that are sifted

module _ (p : Alarm → Bool) where
  sifted : (a : Alarm) (xs : List Alarm) → p a ≡ true → filter p (a ∷ xs) ≡ a ∷ filter p xs
  sifted a xs yes_p = ap (λ t. cond t (a ∷ filter p xs) (filter p xs)) yes_p

  dropped : (a : Alarm) (xs : List Alarm) → p a ≡ false → filter p (a ∷ xs) ≡ filter p xs
  dropped a xs no_p = ap (λ t. cond t (a ∷ filter p xs) (filter p xs)) no_p

  pub among_sifted : (x : Alarm) (xs : List Alarm) → Among x (filter p xs) → Among x xs × (p x ≡ true)
  among_sifted x [] h = absurd h
  among_sifted x (a ∷ xs) h = elim (either (p a)) [
    | inl yes_p ↦ elim (subst (Among x) (sifted a xs yes_p) h) [
      | inl e ↦ (inl e, ap p e ∙ yes_p)
      | inr g ↦ (let r = among_sifted x xs g in (inr r.0, r.1))
    ]
    | inr no_p ↦ (let r = among_sifted x xs (subst (Among x) (dropped a xs no_p) h) in (inr r.0, r.1))
  ]

  pub sifted_among : (x : Alarm) (xs : List Alarm) → Among x xs → p x ≡ true → Among x (filter p xs)
  sifted_among x [] h yes_p = h
  sifted_among x (a ∷ xs) (inl e) yes_p = subst (Among x) (sym (sifted a xs (ap p (sym e) ∙ yes_p))) (inl e)
  sifted_among x (a ∷ xs) (inr h) yes_p = elim (either (p a)) [
    | inl yes_a ↦ subst (Among x) (sym (sifted a xs yes_a)) (inr (sifted_among x xs h yes_p))
    | inr no_a ↦ subst (Among x) (sym (dropped a xs no_a)) (sifted_among x xs h yes_p)
  ]

  pub once_sifted : (xs : List Alarm) → NoRepeats (keys_of xs) → NoRepeats (keys_of (filter p xs))
  once_sifted [] once = tt
  once_sifted (a ∷ xs) once = elim (either (p a)) [
    | inl yes_p ↦ subst (λ l. NoRepeats (keys_of l)) (sym (sifted a xs yes_p)) (
      (λ h. let y = key_has (filter p xs) a.key h in once.0 (has_key xs y.0 a.key (among_sifted y.0 xs y.1).0 y.2)),
      once_sifted xs once.1,
    )
    | inr no_p ↦ subst (λ l. NoRepeats (keys_of l)) (sym (dropped a xs no_p)) (once_sifted xs once.1)
  ]

-- a key is there or not
pub among_or_not : (key : ℕ) (keys : List ℕ) → Among key keys ⊎ (Among key keys → ⊥)
among_or_not key [] = inr (λ h. h)
among_or_not key (k ∷ keys) = elim (same_keys (key == k) (Decides-eqb key k)) [
  | inl e ↦ inl (inl e)
  | inr other ↦ elim (among_or_not key keys) [ inl h ↦ inl (inr h) | inr off ↦ inr (λ h. elim h [ inl e ↦ other e | inr g ↦ off g ]) ]
]
  where
    same_keys : (b : Bool) → Decides b (key ≡ k) → (key ≡ k) ⊎ (key ≡ k → ⊥)
    same_keys true d = inl (d.0 refl)
    same_keys false d = inr (λ p. absurd (let e = d.1 p in cc))

-- without an alarm of the key none is sifted out
pub but_none : (key : ℕ) (xs : List Alarm) → (IsPending xs key → ⊥) → xs ≡ but key xs
but_none key [] off = refl
but_none key (a ∷ xs) off =
    ap (λ l. a ∷ l) (but_none key xs (λ h. off (inr h))) ∙ sym (sifted (λ (b : Alarm). not (b.key == key)) a xs (differ (a.key == key) (Decides-eqb a.key key)))
  where
    differ : (b : Bool) → Decides b (a.key ≡ key) → not b ≡ true
    differ true d = absurd (off (inl (d.0 refl)))
    differ false d = refl

-- no more are sifted than there are
pub few_sifted : (p : Alarm → Bool) (xs : List Alarm) → length (keys_of (filter p xs)) ≤ length xs
few_sifted p [] = omega arith
few_sifted p (a ∷ xs) = elim (either (p a)) [
  | inl yes_p ↦ subst (λ l. length (keys_of l) ≤ length (a ∷ xs)) (sym (sifted p a xs yes_p)) (let h = few_sifted p xs in omega (arith, h))
  | inr no_p ↦ subst (λ l. length (keys_of l) ≤ length (a ∷ xs)) (sym (dropped p a xs no_p)) (let h = few_sifted p xs in omega (arith, h))
]
