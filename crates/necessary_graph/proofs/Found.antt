-- Where a link stands in a list of links.
use Rattle.std.proofs.Common.{◌≡◌, inl, inr, ℕ, suc, ◌<◌, Bool, true, List, [], ◌∷◌, length, refl, arith}
use Rattle.std.specs.Prelude.{slice_index_or, count_by, Contains, cond, remove}
use Rattle.std.proofs.lemmas.List.Sums.{sum_by-remove}
use Rattle.inc_value.specs.declared.node.Point.{Point}
use Rattle.link_table.specs.declared.link.Link.{Link}
use Rattle.link_table.specs.Links.{link, same_link, Reads, OneLinkMore}
use Rattle.necessity.proofs.Counts.{split, count_cons, same_link_eq, same_link_self, other_link}

-- what is counted is among the list
found : {X : Type 0} (f : X → Bool) (xs : List X) → 0 < count_by f xs → (x : X) × Contains xs x × (f x ≡ true)
found f [] h = absurd (omega (arith, h))
found f (y ∷ ys) h = elim (split (f y)) [
  | inl passes ↦ (y, (0, omega arith, refl), passes)
  | inr fails ↦ let less = rw (count_cons f y ys, fails) at h in let rest = found f ys (omega (arith, less)) in
      (rest.0, (suc rest.1.0, omega (arith, rest.1.1), rest.1.2), rest.2)
]

-- a link that is counted is in the list
pub link_found : (all : List Link) (p q : Point) → Reads (record { all = all }) p q → Contains all (link p q)
link_found all p q h = let f = found (same_link p q) all h in rw (same_link_eq p q f.0 f.2) at f.1

-- one link less, where it stood
pub link_removed : (all : List Link) (i : ℕ) (d : Link) (p q : Point) → i < length all → slice_index_or all i d ≡ link p q
    → OneLinkMore (record { all = remove all i }) (record { all = all }) p q
link_removed all i d p q below is = record {
  raised = let s = sum_by-remove (λ x. cond (same_link p q x) 1 0) all i d below in
      let one : ◌≡◌ {A = ℕ} (cond (same_link p q (slice_index_or all i d)) 1 0) 1 = rw (is, same_link_self p q) refl in omega (arith, s, one);
  others = λ a b other. let s = sum_by-remove (λ x. cond (same_link a b x) 1 0) all i d below in
      let none : ◌≡◌ {A = ℕ} (cond (same_link a b (slice_index_or all i d)) 1 0) 0 = rw (is, other_link a b p q other) refl in omega (arith, s, none);
}
