-- How long bags of links are.
use Rattle.std.proofs.Common.{◌≡◌, inl, inr, ◌<◌, ◌≤◌, List, [], ◌∷◌, length, arith}
use Rattle.std.specs.Prelude.{cond, remove}
use Rattle.std.proofs.lemmas.List.Sums.{sum_by-cons}
use Rattle.std.proofs.lemmas.List.Edits.{length-remove}
use Rattle.inc_value.specs.declared.node.Point.{Point}
use Rattle.point_map.proofs.Places.{same_point_self}
use Rattle.link_table.specs.declared.link.Link.{Link}
use Rattle.link_table.specs.Links.{Links, link, same_link, times, Reads, OneLinkMore, is_point, occurrences, AreKids}
use Rattle.necessity.proofs.Counts.{same_link_self, other_link}
use Rattle.necessary_graph.proofs.Found.{link_found, link_removed}
use Rattle.necessary_graph.proofs.Sweeping.{link_cases}

-- the links of a list
abbrev pub of : List Link → Links
of all = record { all = all }

-- one link at the head is one more
pub link_headed : (p q : Point) (rest : List Link) → OneLinkMore (of rest) (of (link p q ∷ rest)) p q
link_headed p q rest = record {
  raised = let self = same_link_self p q in rw (sum_by-cons (λ y. cond (same_link p q y) 1 0) (link p q) rest, self) (omega arith);
  others = λ a b other. let no = other_link a b p q other in rw (sum_by-cons (λ y. cond (same_link a b y) 1 0) (link p q) rest, no) (omega arith);
}

-- a bag with no link more often than another isn't longer
pub not_longer : (xs ys : List Link) → ((a b : Point) → times (of xs) a b ≤ times (of ys) a b) → length xs ≤ length ys
not_longer [] ys fewer = omega arith
not_longer (e ∷ rest) ys fewer =
    let p = e.reader in let q = e.kid in
    let head = link_headed p q rest in
    let f = link_found ys p q (omega (arith, fewer p q, head.raised)) in
    let off = link_removed ys f.0 (link p q) p q f.1 f.2 in
    let left = not_longer rest (remove ys f.0) (λ a b. elim (link_cases a b p q) [
      | inl same ↦ rw (same.0, same.1) (omega (arith, fewer p q, head.raised, off.raised))
      | inr other ↦ omega (arith, fewer a b, head.others a b other, off.others a b other)
    ]) in
    omega (arith, left, length-remove ys f.0 f.1)

-- one link more makes a bag longer
pub one_longer : (fewer more : Links) (p q : Point) → OneLinkMore fewer more p q → length fewer.all < length more.all
one_longer fewer more p q o =
    let head = link_headed p q fewer.all in
    let h = not_longer (link p q ∷ fewer.all) more.all (λ a b. elim (link_cases a b p q) [
      | inl same ↦ rw (same.0, same.1) (omega (arith, head.raised, o.raised))
      | inr other ↦ omega (arith, head.others a b other, o.others a b other)
    ]) in
    omega (arith, h)

-- the first of a walk is there
pub first_counted : (k : Point) (rest : List Point) → 0 < occurrences (k ∷ rest) k
first_counted k rest = rw (sum_by-cons (λ y. cond (is_point k y) 1 0) k rest, same_point_self k) (omega arith)

-- the first of a walk over kids is read
pub first_read : (l : Links) (p k : Point) (left rest : List Point) → left ≡ k ∷ rest → AreKids l p left → Reads l p k
first_read l p k left rest e kids = let c = first_counted k rest in let at_k : occurrences (k ∷ rest) k ≡ times l p k = rw e at kids k in omega (arith, c, at_k)

-- fewer links in a bag that isn't longer
pub off_shorter : (old mid new : Links) (p q : Point) → OneLinkMore mid old p q → ((a b : Point) → times new a b ≤ times mid a b)
    → length new.all < length old.all
off_shorter old mid new p q off fewer =
    let one = one_longer mid old p q off in let more = not_longer new.all mid.all fewer in omega (arith, one, more)

-- what is read over fewer links is read over more
pub less_times : (fewer more : Links) (p q : Point) → OneLinkMore fewer more p q → (a b : Point) → Reads fewer a b → Reads more a b
less_times fewer more p q o a b r = elim (link_cases a b p q) [
  | inl is ↦ rw (is.0, is.1) (omega (arith, o.raised))
  | inr other ↦ omega (arith, o.others a b other, r)
]
