-- Counts over lists of points and links.
use Rattle.std.proofs.Common.{◌≡◌, ◌≢◌, ◌⊎◌, inl, inr, ℕ, zero, suc, ◌+◌, ◌<◌, Bool, true, false, List, [], ◌∷◌, length, refl, sym, ap, ◌∙◌, arith}
use Rattle.std.specs.Prelude.{count_by, sum_by, Contains, cond, remove, ◌&&◌}
use Rattle.std.proofs.lemmas.List.Sums.{sum_by-cons, sum_by-remove}
use Rattle.std.proofs.lemmas.Grind.{common_steps}
use Rattle.inc_value.specs.declared.node.Point.{Point}
use Rattle.point_map.specs.Rows.{same_point}
use Rattle.point_map.proofs.Places.{same_point_eq, same_point_self}
use Rattle.link_table.specs.declared.link.Link.{Link}
use Rattle.link_table.specs.Links.{Links, link, same_link, times, occurrences, OneLinkMore, AreKids}

-- a test passes or fails
pub split : (b : Bool) → (b ≡ true) ⊎ (b ≡ false)
split true = inl refl
split false = inr refl

-- both tests pass
pub both : (a b : Bool) → a && b ≡ true → (a ≡ true) × (b ≡ true)
both true b h = (refl, h)
both false b h = absurd (let e = h in cc)

-- the test of links is exact
pub same_link_eq : (p q : Point) (l : Link) → same_link p q l ≡ true → l ≡ link p q
same_link_eq p q l h = grind (arith, common_steps, same_point_eq)

pub same_link_self : (p q : Point) → same_link p q (link p q) ≡ true
same_link_self p q = rw (same_point_self p, same_point_self q) refl

pub other_link : (a b p q : Point) → link a b ≢ link p q → same_link a b (link p q) ≡ false
other_link a b p q other = elim (split (same_link a b (link p q))) [ inl same ↦ absurd (other (sym (same_link_eq a b (link p q) same))) | inr differs ↦ differs ]

-- the test of points is exact
pub other_point : (a p : Point) → a ≢ p → same_point a p ≡ false
other_point a p other = elim (split (same_point a p)) [ inl same ↦ absurd (other (same_point_eq a p same)) | inr differs ↦ differs ]

module _ {X : Type 0} where
  -- a sum of sums
  pub sum_by_parts : (u v w : X → ℕ) → ((x : X) → u x ≡ v x + w x) → (xs : List X) → sum_by u xs ≡ sum_by v xs + sum_by w xs
  sum_by_parts u v w h [] = refl
  sum_by_parts u v w h (x ∷ xs) = rw (sum_by-cons u x xs, sum_by-cons v x xs, sum_by-cons w x xs) (omega (arith, h x, sum_by_parts u v w h xs))

  -- equal terms have equal sums
  pub sum_by_same : (u v : X → ℕ) → ((x : X) → u x ≡ v x) → (xs : List X) → sum_by u xs ≡ sum_by v xs
  sum_by_same u v h [] = refl
  sum_by_same u v h (x ∷ xs) = rw (sum_by-cons u x xs, sum_by-cons v x xs) (omega (arith, h x, sum_by_same u v h xs))

  -- each element counts once in the length
  pub length_sum : (xs : List X) → sum_by (λ x. 1) xs ≡ length xs
  length_sum [] = refl
  length_sum (x ∷ xs) = rw (sum_by-cons (λ y. 1) x xs, length_sum xs) (omega arith)

  module _ (f : X → Bool) where
    pub count_cons : (x : X) (xs : List X) → count_by f (x ∷ xs) ≡ cond (f x) 1 0 + count_by f xs
    count_cons x xs = sum_by-cons (λ y. cond (f y) 1 0) x xs

    -- what is among the list is counted
    pub counted : (xs : List X) (x : X) → Contains xs x → f x ≡ true → 0 < count_by f xs
    counted [] x h t = absurd (omega (arith, h.1))
    counted (y ∷ ys) x (zero, below, e) t = let passes : f y ≡ true = rw e t in rw (count_cons y ys, passes) (omega arith)
    counted (y ∷ ys) x (suc k, below, e) t =
        let rest = counted ys x (k, omega (arith, below), e) t in rw (count_cons y ys) (omega (arith, rest))

    -- what is counted is among the list
    pub found : (xs : List X) → 0 < count_by f xs → (x : X) × Contains xs x × (f x ≡ true)
    found [] h = absurd (omega (arith, h))
    found (y ∷ ys) h = elim (split (f y)) [
      | inl passes ↦ (y, (0, omega arith, refl), passes)
      | inr fails ↦ let less = rw (count_cons y ys, fails) at h in let rest = found ys (omega (arith, less)) in
          (rest.0, (suc rest.1.0, omega (arith, rest.1.1), rest.1.2), rest.2)
    ]

  module _ (same : X → X → Bool) (exact : (a b : X) → same a b ≡ true → b ≡ a) (self : (a : X) → same a a ≡ true) (w : X → ℕ) where
    -- lists that have each element as often have the same sums
    pub same_sums : (xs ys : List X) → ((a : X) → count_by (same a) xs ≡ count_by (same a) ys) → sum_by w xs ≡ sum_by w ys
    same_sums [] [] h = refl
    same_sums [] (y ∷ ys) h = absurd (let e = h y in let one = rw (count_cons (same y) y ys, self y) at e in omega (arith, one))
    same_sums (x ∷ xs) ys h =
        let here = rw (count_cons (same x) x xs, self x) at (h x) in
        let f = found (same x) ys (omega (arith, here)) in
        let is = exact x f.0 f.2 in
        let i = f.1.0 in
        let left = same_sums xs (remove ys i) (λ a.
        let r = sum_by-remove (λ y. cond (same a y) 1 0) ys i f.0 f.1.1 in
        let all = rw (count_cons (same a) x xs) at (h a) in
        let r' = rw (f.1.2, is) at r in omega (arith, r', all)) in
        let r = rw (f.1.2, is) at (sum_by-remove w ys i f.0 f.1.1) in
        rw (sum_by-cons w x xs) (omega (arith, left, r))

-- two links are the same or not
pub link_cases : (a b : Link) → (a ≡ b) ⊎ (a ≢ b)
link_cases a b = elim (split (same_link b.reader b.kid a)) [
  | inl same ↦ inl (same_link_eq b.reader b.kid a same)
  | inr differs ↦ inr (λ e. let t : true ≡ false = sym (same_link_self b.reader b.kid) ∙ ap (same_link b.reader b.kid) (sym e) ∙ differs in cc)
]

-- one link more adds its term to every sum
pub link_more : (w : Link → ℕ) (fewer more : Links) (p q : Point) → OneLinkMore fewer more p q → sum_by w more.all ≡ sum_by w fewer.all + w (link p q)
link_more w fewer more p q h =
    let s = same_sums (λ a. same_link a.reader a.kid) (λ a b e. same_link_eq a.reader a.kid b e) (λ a. same_link_self a.reader a.kid) w
    more.all (link p q ∷ fewer.all) (λ a. rw (count_cons (same_link a.reader a.kid) (link p q) fewer.all)
    (elim (link_cases a (link p q)) [
      | inl same ↦ rw (same, same_link_self p q, h.raised) (omega arith)
      | inr differs ↦ rw (other_link a.reader a.kid p q differs, h.others a.reader a.kid differs) (omega arith)
    ])) in
    rw (sum_by-cons w (link p q) fewer.all) at s ∙ omega arith

-- as many kids as links
abbrev kids_of : Point → List Link → List Point
kids_of p [] = []
kids_of p (e ∷ rest) = cond (same_point e.reader p) (e.kid ∷ kids_of p rest) (kids_of p rest)

kids_counted : (all : List Link) (p k : Point) → occurrences (kids_of p all) k ≡ times (record { all = all }) p k
kids_counted [] p k = refl
kids_counted (e ∷ rest) p k = let h = kids_counted rest p k in grind (arith, common_steps)

kids_length : (all : List Link) (p : Point) → length (kids_of p all) ≡ count_by (λ e. same_point e.reader p) all
kids_length [] p = refl
kids_length (e ∷ rest) p = let h = kids_length rest p in grind (arith, common_steps)

pub as_many_kids : (l : Links) (p : Point) (kids : List Point) → AreKids l p kids → length kids ≡ count_by (λ e. same_point e.reader p) l.all
as_many_kids l p kids are =
    let s = same_sums (λ a b. same_point b a) (λ a b e. same_point_eq b a e) same_point_self (λ x. 1) kids (kids_of p l.all)
    (λ k. rw (are k) (sym (kids_counted l.all p k))) in
    omega (arith, s, length_sum kids, length_sum (kids_of p l.all), kids_length l.all p)
