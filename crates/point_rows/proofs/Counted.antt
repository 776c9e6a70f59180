-- Links of rows, counted by their ends.
use Rattle.std.proofs.Common.{◌≡◌, ◌≢◌, ◌∙◌, inl, inr, ℕ, ◌<◌, Bool, true, false, not, List, [], length, refl, ap, sym, arith}
use Rattle.std.specs.Prelude.{Option, Some, None, IfSome, IfNone, IsSome, is_some, IsTrue, ◌↔◌, ◌==◌, option_map, slice_get}
use Rattle.inc_value.specs.declared.node.Point.{Point}
use Rattle.point_map.specs.Rows.{Rows, StandsOnce}
use Rattle.point_map.proofs.Places.{point_cases}
use Rattle.link_table.specs.declared.ends.End.{End}
use Rattle.link_table.specs.Links.{times, Reads, IsRead, OneLinkMore, KeepsLinks}
use Rattle.link_table.specs.Ends.{end, ends_at, ends_with, KeepsEnds, OneEndMoreWith}
use Rattle.link_table.proofs.Counts.{leads_counted, leads_somewhere}
use Rattle.link_table.proofs.Lists.{empty_when, some_when}
use Rattle.point_rows.specs.declared.row.Row.{Row}
use Rattle.point_rows.specs.declared.row.Side.TheVariants.{Kids, Readers}
use Rattle.point_rows.specs.Cells.{links_of, side_of}
use Rattle.point_rows.specs.Written.{AreSound}
use Rattle.point_rows.proofs.Cells.{times_is}

module _ (fewer more : Rows Row) (once : StandsOnce fewer.places) (once_more : StandsOnce more.places) where
  pub link_more : (p q : Point) → OneEndMoreWith (side_of Kids fewer) (side_of Kids more) p q → OneLinkMore (links_of fewer) (links_of more) p q
  link_more p q h = record {
    raised = let a = times_is fewer once p q in let b = times_is more once_more p q in let r = h.raised in omega (arith, a, b, r);
    others = λ a b other. times_is more once_more a b ∙ h.others a b other ∙ sym (times_is fewer once a b);
  }

  pub links_kept : KeepsEnds (side_of Kids fewer) (side_of Kids more) → KeepsLinks (links_of fewer) (links_of more)
  links_kept h a b = times_is more once_more a b ∙ ap (λ l. ends_with l b) (h a) ∙ sym (times_is fewer once a b)

-- places that are told tell whether the link is there
pub told_place : (m : Rows Row) → StandsOnce m.places → (p q : Point) (x : Option (ℕ × ℕ))
    → IfSome x (λ r. slice_get (ends_at (side_of Kids m) p) r.0 ≡ Some (end q r.1)) → IfNone x (ends_with (ends_at (side_of Kids m) p) q ≡ 0)
    → IsTrue (is_some x) ↔ Reads (links_of m) p q
told_place m once p q None some none =
    (λ t. absurd (let e = t in cc), λ r. absurd (let t = times_is m once p q in omega (arith, t, none, r)))
told_place m once p q (Some r) some none = (
  λ t.
      let leads = ap (λ (o : Option End). option_map (λ (e : End). e.point) o) some in
      let c = leads_counted (ends_at (side_of Kids m) p) q r.0 leads in let t = times_is m once p q in omega (arith, c, t),
  λ r. refl,
)

-- a link that is there has its places
pub place_there : (m : Rows Row) → StandsOnce m.places → (p q : Point) (x : Option (ℕ × ℕ))
    → IfSome x (λ r. slice_get (ends_at (side_of Kids m) p) r.0 ≡ Some (end q r.1)) → IfNone x (ends_with (ends_at (side_of Kids m) p) q ≡ 0)
    → Reads (links_of m) p q → IsSome x
place_there m once p q x some none r = (told_place m once p q x some none).1 r

-- a point whose ends lead to no other point reads no other
pub reads_one : (m : Rows Row) → StandsOnce m.places → (p kept : Point) (ends : List End) → ends ≡ ends_at (side_of Kids m) p
    → ((q : Point) → q ≢ kept → ends_with ends q ≡ 0) → (q : Point) → Reads (links_of m) p q → q ≡ kept
reads_one m once p kept ends same none q reads = elim (point_cases q kept) [
  | inl is ↦ is
  | inr other ↦
      let t = times_is m once p q in
      let zero_here : ends_with (ends_at (side_of Kids m) p) q ≡ 0 = ap (λ l. ends_with l q) (sym same) ∙ none q other in
      absurd (omega (arith, t, zero_here, reads))
]

-- links are counted as the ends of their kid
pub times_of_readers : (m : Rows Row) → AreSound m → (p q : Point) → times (links_of m) p q ≡ ends_with (ends_at (side_of Readers m) q) p
times_of_readers m s p q = times_is m s.once p q ∙ sym (s.two_way.counted p q)

pub read_some : (m : Rows Row) → AreSound m → (q : Point) → ends_at (side_of Readers m) q ≢ [] → IsRead (links_of m) q
read_some m s q some =
    let reader = leads_somewhere (ends_at (side_of Readers m) q) some in
    (reader.0, let t = times_of_readers m s reader.0 q in omega (arith, t, reader.1))

pub read_none : (m : Rows Row) → AreSound m → (q : Point) → ends_at (side_of Readers m) q ≡ [] → IsRead (links_of m) q → ⊥
read_none m s q none read =
    let zero_here : ends_with (ends_at (side_of Readers m) q) read.0 ≡ 0 = ap (λ l. ends_with l read.0) none in
    let t = times_of_readers m s read.0 q in omega (arith, t, zero_here, read.1)

not_nothing : (ends : List End) → 0 < length ends → ends ≢ []
not_nothing ends some none = let l = ap length none in omega (arith, l, some)

-- the test for readers
pub read_when : (m : Rows Row) → AreSound m → (q : Point) (ends : List End) (b : Bool) → ends ≡ ends_at (side_of Readers m) q → b ≡ (length ends == 0)
    → IsTrue (not b) ↔ IsRead (links_of m) q
read_when m s q ends true same b = (
  λ t. absurd (let e = t in cc),
  λ read. absurd (read_none m s q (sym same ∙ empty_when ends true b refl) read),
)
read_when m s q ends false same b = (
  λ t. read_some m s q (λ none. not_nothing ends (some_when (length ends) false b refl) (same ∙ none)),
  λ read. refl,
)
