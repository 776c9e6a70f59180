-- Room in the heap, as points come and go.
use Rattle.std.proofs.Common.{◌≡◌, ◌≢◌, inl, inr, ℕ, zero, suc, ◌+◌, ◌-◌, ◌<◌, ◌≤◌, Some, false, List, [], ◌∷◌, length, refl, sym, ap, ◌∙◌, arith}
use Rattle.std.specs.Prelude.{Option, None, is_some, IsSome, Contains}
use Rattle.std.specs.Option.{SomeIff}
use Rattle.std.proofs.lemmas.Option.{none-some}
use Rattle.inc_value.specs.declared.node.Point.{Point}
use Rattle.point_map.specs.Rows.{Rows, at, Holds, Changes, KeepsRows, count}
use Rattle.point_map.proofs.Places.{point_cases}
use Rattle.height_order.specs.Levels.{or_zero, KeepsPoints}
use Rattle.height_order.specs.Chains.{NoRepeats}
use Rattle.necessary_graph.specs.Room.{HasRoom}

-- what is at the head of a list is in it, and so is what is in its rest
pub at_head : (p : Point) (xs : List Point) → Contains (p ∷ xs) p
at_head p xs = (0, omega arith, refl)

pub in_rest : (p a : Point) (xs : List Point) → Contains xs a → Contains (p ∷ xs) a
in_rest p a xs h = (suc h.0, omega (arith, h.1), h.2)

-- what is in a list is at its head or in its rest
later : {Q : Type 0} (a x : Point) (xs : List Point) → Contains (x ∷ xs) a → a ≢ x → (Contains xs a → Q) → Q
later a x xs (zero, below, e) other f = absurd (other (sym e))
later a x xs (suc k, below, e) other f = f (k, omega (arith, below), e)

-- what is in the rest of a list can be in another rest
kept : (a x : Point) (xs ys : List Point) → Contains (x ∷ xs) a → (Contains xs a → Contains ys a) → Contains (x ∷ ys) a
kept a x xs ys (zero, below, e) f = (0, omega arith, e)
kept a x xs ys (suc k, below, e) f = in_rest x a ys (f (k, omega (arith, below), e))

-- the list without a point has all else, and is one shorter
pub record IsWithout (p : Point) (all less : List Point) : Type 0 where
  pub others : (a : Point) → a ≢ p → Contains all a → Contains less a
  pub among : (a : Point) → Contains less a → Contains all a
  pub off : Contains less p → ⊥
  pub once : NoRepeats all → NoRepeats less
  pub whole : (Contains all p → ⊥) → length less ≡ length all
  pub shorter : NoRepeats all → Contains all p → length less + 1 ≡ length all

-- the first is the point
without_first : (p x : Point) (xs less : List Point) → x ≡ p → IsWithout p xs less → IsWithout p (x ∷ xs) less
without_first p x xs less same rest = record {
  others = λ a other h. later a x xs h (λ e. other (e ∙ same)) (rest.others a other);
  among = λ a h. in_rest x a xs (rest.among a h);
  off = rest.off;
  once = λ o. rest.once o.1;
  whole = λ none. absurd (none (rw same (at_head p xs)));
  shorter = λ o h. let e = rest.whole (rw same at o.0) in omega (arith, e);
}

-- or isn't
without_later : (p x : Point) (xs less : List Point) → x ≢ p → IsWithout p xs less → IsWithout p (x ∷ xs) (x ∷ less)
without_later p x xs less differs rest = record {
  others = λ a other h. kept a x xs less h (rest.others a other);
  among = λ a h. kept a x less xs h (rest.among a);
  off = λ h. later p x less h (λ e. differs (sym e)) rest.off;
  once = λ o. (λ h. o.0 (rest.among x h), rest.once o.1);
  whole = λ none. let e = rest.whole (λ h. none (in_rest x p xs h)) in omega (arith, e);
  shorter = λ o h. let e = rest.shorter o.1 (later p x xs h (λ e. differs (sym e)) (λ c. c)) in omega (arith, e);
}

pub without : (p : Point) (all : List Point) → (less : List Point) × IsWithout p all less
without p [] = (
  [],
  record { others = λ a other h. h; among = λ a h. h; off = λ h. omega (arith, h.1); once = λ o. o; whole = λ none. refl; shorter = λ o h. absurd (omega (arith, h.1)) },
)
without p (x ∷ xs) =
    let rest = without p xs in
    elim (point_cases x p) [
      | inl same ↦ (rest.0, without_first p x xs rest.0 same rest.1)
      | inr differs ↦ (x ∷ rest.0, without_later p x xs rest.0 differs rest.1)
    ]

-- what is there in one map is there in another with the same row
pub held_as : (m n : Rows ℕ) (a : Point) → at n a ≡ at m a → Holds m a → Holds n a
held_as m n a same h = ap is_some same ∙ h

-- what has a row isn't without one
pub none_held : (m : Rows ℕ) (a : Point) → at m a ≡ None → Holds m a → ⊥
none_held m a none held = let e = sym (ap is_some none) ∙ held in cc

-- a point that isn't held has no row
pub none_out : (heap : Rows ℕ) (p : Point) → false ≡ is_some (at heap p) → at heap p ≡ None
none_out heap p e = go (at heap p) e where
  go : (x : Option ℕ) → false ≡ is_some x → x ≡ None
  go None e = refl
  go (Some h) e = let c = e in cc

-- what isn't there has no row
pub not_held : (m : Rows ℕ) (p : Point) → (Holds m p → ⊥) → at m p ≡ None
not_held m p never = go (at m p) never where
  go : (x : Option ℕ) → (IsSome x → ⊥) → x ≡ None
  go None none = refl
  go (Some h) none = absurd (none refl)

-- an empty heap has no point
pub empty_out : (heap : Rows ℕ) → heap.places ≡ [] → (p : Point) → at heap p ≡ None
empty_out heap empty p = rw empty refl

-- what is in no rest isn't the head
apart_head : (p a : Point) (xs : List Point) {Q : Type 0} → Contains (p ∷ xs) a → (a ≡ p → Q) → (a ≢ p → Contains xs a → Q) → Q
apart_head p a xs h first rest = elim (point_cases a p) [ inl same ↦ first same | inr other ↦ later a p xs h other (rest other) ]

-- a point leaves the heap
pub room_taken : (heights old new : Rows ℕ) (points : ℕ) (p : Point) → HasRoom heights old points → Holds old p → Changes old new p None
    → count new + 1 ≡ count old → new.spare ≡ old.spare + 1 → HasRoom heights new points
room_taken heights old new points p r inside c counted spare = record {
  outside = p ∷ r.outside;
  once = (λ h. none_held old p (r.apart p h).1 inside, r.once);
  apart = λ a h. apart_head p a r.outside h (λ same. rw same (r.within p inside, c.changed))
      (λ other rest. ((r.apart a rest).0, c.others a other ∙ (r.apart a rest).1));
  every = λ a h. elim (point_cases a p) [
    | inl same ↦ inr (rw same (at_head p r.outside))
    | inr other ↦ elim (r.every a h) [ inl there ↦ inl (held_as old new a (c.others a other) there) | inr out ↦ inr (in_rest p a r.outside out) ]
  ];
  within = λ a h. elim (point_cases a p) [
    | inl same ↦ absurd (none_held new a (ap (at new) same ∙ c.changed) h)
    | inr other ↦ r.within a (held_as new old a (sym (c.others a other)) h)
  ];
  counted = omega (arith, r.counted, counted);
  room = omega (arith, r.room, counted, spare);
}

-- a point that is there comes into the heap
pub room_put : (heights old new : Rows ℕ) (points : ℕ) (p : Point) (h : ℕ) → HasRoom heights old points → Holds heights p → at old p ≡ None
    → Changes old new p (Some h) → count new ≡ count old + 1 → new.spare + 1 ≡ old.spare → HasRoom heights new points
room_put heights old new points p h r there out c counted spare =
    let w = without p r.outside in
    let stood : Contains r.outside p = elim (r.every p there) [ inl inn ↦ absurd (none_held old p out inn) | inr k ↦ k ] in record {
      outside = w.0;
      once = w.1.once r.once;
      apart = λ a k. elim (point_cases a p) [
        | inl same ↦ absurd (w.1.off (rw same at k))
        | inr other ↦ let e = r.apart a (w.1.among a k) in (e.0, c.others a other ∙ e.1)
      ];
      every = λ a held. elim (point_cases a p) [
        | inl same ↦ inl (rw same (ap is_some c.changed))
        | inr other ↦ elim (r.every a held) [ inl inn ↦ inl (held_as old new a (c.others a other) inn) | inr k ↦ inr (w.1.others a other k) ]
      ];
      within = λ a k. elim (point_cases a p) [
        | inl same ↦ rw same there
        | inr other ↦ r.within a (held_as new old a (sym (c.others a other)) k)
      ];
      counted = omega (arith, r.counted, w.1.shorter r.once stood, counted);
      room = omega (arith, r.room, counted, spare);
    }

-- a point that wasn't there is added
pub room_added : (heights new_heights old new : Rows ℕ) (points : ℕ) (p : Point) (h : ℕ) → HasRoom heights old points → at heights p ≡ None
    → Changes heights new_heights p (Some h) → KeepsRows old new → count new ≡ count old → points + 1 ≤ count new + new.spare
    → HasRoom new_heights new (points + 1)
room_added heights new_heights old new points p h r absent c kept counted room = record {
  outside = p ∷ r.outside;
  once = (λ k. none_held heights p absent (r.apart p k).0, r.once);
  apart = λ a k. apart_head p a r.outside k (λ same. rw same (ap is_some c.changed, kept p ∙ out)) (λ other rest. let e = r.apart a rest in
      (held_as heights new_heights a (c.others a other) e.0, kept a ∙ e.1));
  every = λ a held. elim (point_cases a p) [
    | inl same ↦ inr (rw same (at_head p r.outside))
    | inr other ↦ elim (r.every a (held_as new_heights heights a (sym (c.others a other)) held)) [
      | inl inn ↦ inl (held_as old new a (kept a) inn)
      | inr k ↦ inr (in_rest p a r.outside k)
    ]
  ];
  within = λ a k. let before = r.within a (held_as new old a (sym (kept a)) k) in elim (point_cases a p) [
    | inl same ↦ rw same (ap is_some c.changed)
    | inr other ↦ held_as heights new_heights a (c.others a other) before
  ];
  counted = omega (arith, r.counted, counted);
  room = room;
}
  where
    out : at old p ≡ None
    out = not_held old p (λ inn. none_held heights p absent (r.within p inn))

-- a point that isn't in the heap is dropped
pub room_dropped : (heights new_heights heap : Rows ℕ) (points : ℕ) (p : Point) → HasRoom heights heap points → Holds heights p → at heap p ≡ None
    → Changes heights new_heights p None → (1 ≤ points) × HasRoom new_heights heap (points - 1)
room_dropped heights new_heights heap points p r there out c =
    let w = without p r.outside in
    let stood : Contains r.outside p = elim (r.every p there) [ inl inn ↦ absurd (none_held heap p out inn) | inr k ↦ k ] in
    let shorter = w.1.shorter r.once stood in (
      omega (arith, r.counted, stood.1),
      record {
        outside = w.0;
        once = w.1.once r.once;
        apart = λ a k. elim (point_cases a p) [
          | inl same ↦ absurd (w.1.off (rw same at k))
          | inr other ↦ let e = r.apart a (w.1.among a k) in (held_as heights new_heights a (c.others a other) e.0, e.1)
        ];
        every = λ a held. elim (point_cases a p) [
          | inl same ↦ absurd (none_held new_heights a (ap (at new_heights) same ∙ c.changed) held)
          | inr other ↦ elim (r.every a (held_as new_heights heights a (sym (c.others a other)) held)) [ inl inn ↦ inl inn | inr k ↦ inr (w.1.others a other k) ]
        ];
        within = λ a k. elim (point_cases a p) [
          | inl same ↦ absurd (none_held heap a (ap (at heap) same ∙ out) k)
          | inr other ↦ held_as heights new_heights a (c.others a other) (r.within a k)
        ];
        counted = omega (arith, r.counted, shorter);
        room = omega (arith, r.room);
      },
    )

-- what isn't in the heap is counted
pub room_counts : (heights heap : Rows ℕ) (points : ℕ) (p : Point) → HasRoom heights heap points → Holds heights p → at heap p ≡ None → 0 < points
room_counts heights heap points p r there out = elim (r.every p there) [
  | inl inn ↦ absurd (let e = sym (ap is_some out) ∙ inn in cc)
  | inr k ↦ omega (arith, r.counted, k.1)
]

-- the same points are there, and in the heap
pub room_kept : (heights new_heights old new : Rows ℕ) (points : ℕ) → HasRoom heights old points → KeepsPoints heights new_heights → KeepsPoints old new
    → count new ≡ count old → old.spare ≤ new.spare → HasRoom new_heights new points
room_kept heights new_heights old new points r there inside counted spare = record {
  outside = r.outside;
  once = r.once;
  apart = λ a k. let e = r.apart a k in (there a ∙ e.0, none_out new a (sym (inside a ∙ ap is_some e.1)));
  every = λ a held. elim (r.every a (sym (there a) ∙ held)) [ inl h ↦ inl (inside a ∙ h) | inr k ↦ inr k ];
  within = λ a h. there a ∙ r.within a (sym (inside a) ∙ h);
  counted = omega (arith, r.counted, counted);
  room = omega (arith, r.room, counted, spare);
}

-- a sum that fits is that sum
pub one_more : (x : Option ℕ) (P : Type 0) (v y : ℕ) → SomeIff x P v → x ≡ Some y → y ≡ v
one_more None P v y s e = absurd (none-some y e)
one_more (Some z) P v y s e = let same : ◌≡◌ {A = Option ℕ} (Some z) (Some y) = e in sym (ap or_zero same) ∙ s.1

-- without points there is room enough
pub room_new : (heights heap : Rows ℕ) → ((p : Point) → at heights p ≡ None) → heap.places ≡ [] → HasRoom heights heap 0
room_new heights heap none empty = record {
  outside = [];
  once = tt;
  apart = λ p k. absurd (omega (arith, k.1));
  every = λ p h. absurd (none_held heights p (none p) h);
  within = λ p h. absurd (none_held heap p (empty_out heap empty p) h);
  counted = rw empty (omega arith);
  room = omega arith;
}
