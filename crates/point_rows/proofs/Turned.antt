-- What a row that comes, goes or is written leaves to be seen.
use Rattle.std.proofs.Common.{◌≡◌, ◌≢◌, ◌∙◌, inl, inr, ℕ, zero, suc, ◌+◌, ◌<◌, List, [], ◌∷◌, length, refl, ap, sym, arith}
use Rattle.std.specs.Prelude.{Option, Some, None, option_and_then, unwrap_or, is_some, IsSome, IsTrue, nat_lt, IfSome, IfNone, Result, Ok, Err, OnOk, OnErr}
use Rattle.std.proofs.lemmas.Bool.Decides.{nat_tests}
use Rattle.inc_value.specs.declared.node.Point.{Point}
use Rattle.point_map.specs.Rows.{Rows, Place, at, standing, Changes, Holds, StandsOnce}
use Rattle.point_map.specs.Buckets.{Buckets}
use Rattle.point_map.proofs.Places.{point_cases, pair_of, row_once, row_inserted, row_removed}
use Rattle.row_map.specs.Turns.{PlaceTurns, IsAdded, IsRemoved}
use Rattle.link_table.specs.declared.ends.End.{End}
use Rattle.link_table.specs.Links.{times, IsRead}
use Rattle.link_table.specs.Ends.{row_ends, ends_at, ends_with, KeepsEnds}
use Rattle.link_table.proofs.Counts.{leads_somewhere}
use Rattle.link_table.proofs.Put.{two_way_kept}
use Rattle.necessity.specs.Need.{root_times, KeepsRoots, OneRootMore}
use Rattle.point_rows.specs.declared.row.Row.{Row}
use Rattle.point_rows.specs.declared.row.Side.{Side}
use Rattle.point_rows.specs.declared.row.Side.TheVariants.{Kids, Readers}
use Rattle.point_rows.specs.Cells.{cell, height_in, roots_in, read_in, side_ends, side_in, link_cell, heights_of, roots_of, links_of, read_of, side_of, place_of}
use Rattle.point_rows.specs.Written.{KeepsViews, AreSound, IsKept, standing_of}
use Rattle.point_rows.proofs.Cells.{height_at, ends_is, roots_is, above_back, times_is, held_same}
use Rattle.point_rows.specs.Heap.{seen}
use Rattle.point_rows.specs.Standing.{IsHeld}
use Rattle.point_rows.proofs.Counted.{read_some}
use Rattle.point_rows.proofs.Ending.{ends_here}
use Rattle.point_rows.proofs.Heaped.{heap_same, none_when, in_is}
use Rattle.point_rows.proofs.Rewriting.{IsWritten, turned_cells}

pub views_then : (a b c : Rows Row) → KeepsViews a b → KeepsViews b c → KeepsViews a c
views_then a b c f s = record {
  heights = s.heights ∙ f.heights;
  roots = s.roots ∙ f.roots;
  links = s.links ∙ f.links;
  read = s.read ∙ f.read;
  sides = λ side. s.sides side ∙ f.sides side;
}

pub views_refl : (a : Rows Row) → KeepsViews a a
views_refl a = record { heights = refl; roots = refl; links = refl; read = refl; sides = λ side. refl }

some_place : (o : Option Row) (i : ℕ) → option_and_then (λ r. r.place) o ≡ Some i → IsSome o
some_place None i h = absurd (let e = h in cc)
some_place (Some row) i h = refl

-- a point with a place in the heap has a row
pub place_holds : (m : Rows Row) (p : Point) (i : ℕ) → place_of m p ≡ Some i → Holds m p
place_holds m p i h = some_place (at m p) i h

-- rows that are sound stay so, where all that is seen of them but the heap stays
pub sound_kept : (old new : Rows Row) → AreSound old → StandsOnce new.places → KeepsViews old new → AreSound new
sound_kept old new s once v = record {
  once = once;
  two_way =
      two_way_kept (side_of Kids old) (side_of Readers old) (side_of Kids new) (side_of Readers new) (λ x. ap (λ l. ends_at l x) (v.sides Kids))
      (λ x. ap (λ l. ends_at l x) (v.sides Readers)) s.two_way;
}

module _ (old new : Rows Row) (p : Point) (o : Option Row) (changes : Changes old new p o) where
  pub same_at : {B : Type 0} (f : Option Row → B) → f o ≡ f (at old p) → (x : Point) → f (at new x) ≡ f (at old x)
  same_at f same x = elim (point_cases x p) [
    | inl is ↦ rw is (ap f changes.changed ∙ same)
    | inr other ↦ ap f (changes.others x other)
  ]

  module _ (once : StandsOnce old.places) (once_new : StandsOnce new.places) where
    pub ends_same : (s : Side) → row_ends (option_and_then (side_in s) o) ≡ row_ends (option_and_then (side_in s) (at old p))
        → KeepsEnds (side_of s old) (side_of s new)
    ends_same s same x =
        ends_is new once_new x s ∙ same_at (λ r. row_ends (option_and_then (side_in s) r)) same x ∙ sym (ends_is old once x s)

    pub heights_change : Changes (heights_of old) (heights_of new) p (option_and_then height_in o)
    heights_change = record {
      changed = height_at new once_new p ∙ ap (option_and_then height_in) changes.changed;
      others = λ q other. height_at new once_new q ∙ ap (option_and_then height_in) (changes.others q other) ∙ sym (height_at old once q);
    }

    pub roots_others : (a : Point) → a ≢ p → root_times (roots_of new) a ≡ root_times (roots_of old) a
    roots_others a other =
        roots_is new once_new a ∙ ap (λ r. unwrap_or (option_and_then roots_in r) 0) (changes.others a other) ∙ sym (roots_is old once a)

  -- all is kept, where the ends and the place in the heap are those that were
  pub kept_by : {R : Type 0} (b : Buckets R) (least : ℕ) → IsKept old b least → StandsOnce new.places
      → ((s : Side) → row_ends (option_and_then (side_in s) o) ≡ row_ends (option_and_then (side_in s) (at old p)))
      → option_and_then (λ r. r.place) o ≡ place_of old p → IsKept new b least
  kept_by b least kept once_new ends place = record {
    sound = record {
      once = once_new;
      two_way =
          two_way_kept (side_of Kids old) (side_of Readers old) (side_of Kids new) (side_of Readers new)
          (ends_same kept.sound.once once_new Kids (ends Kids)) (ends_same kept.sound.once once_new Readers (ends Readers)) kept.sound.two_way;
    };
    heap = heap_same (place_of old) (place_of new) b b least kept.heap (same_at (option_and_then (λ (r : Row). r.place)) place);
  }

-- how often the point of a row is a root
pub roots_here : (m : Rows Row) → StandsOnce m.places → (p : Point) (row : Row) → Some row ≡ at m p → root_times (roots_of m) p ≡ row.roots
roots_here m once p row value =
    roots_is m once p ∙ ap (λ r. unwrap_or (option_and_then roots_in r) 0) (sym value) ∙ above_back row.roots

no_count : (o : Option Row) → 0 < unwrap_or (option_and_then roots_in o) 0 → IsSome o
no_count None h = absurd (omega (arith, h))
no_count (Some row) h = refl

-- a root has a row
pub root_holds : (m : Rows Row) → StandsOnce m.places → (p : Point) → 0 < root_times (roots_of m) p → Holds m p
root_holds m once p h = no_count (at m p) (rw (roots_is m once p) at h)

-- a row that nothing is read off but its height
pub record IsBareRow (row : Row) : Type 0 where
  pub roots : row.roots ≡ 0
  pub place : row.place ≡ None
  pub kids : row.kids.items ≡ []
  pub readers : row.readers.items ≡ []

module _ (row : Row) (bare : IsBareRow row) (p : Point) where
  pub bare_ends : (s : Side) → (side_ends s row).items ≡ []
  bare_ends Kids = bare.kids
  bare_ends Readers = bare.readers

  pub bare_roots : cell roots_in (Some (p, row)) ≡ []
  bare_roots = rw bare.roots refl

  pub bare_read : cell read_in (Some (p, row)) ≡ []
  bare_read = rw bare.readers refl

  pub bare_links : link_cell (Some (p, row)) ≡ []
  bare_links = rw bare.kids refl

-- a bare row comes or goes
module _ (old new : Rows Row) (i : ℕ) (e : Place Row) (turns : PlaceTurns old new i e) where
  pub turned_roots : cell roots_in e ≡ cell roots_in (standing old i) → roots_of new ≡ roots_of old
  turned_roots same = ap (λ places. record { counts = places }) (turned_cells (cell roots_in) refl old new i e turns same)

  pub turned_read : cell read_in e ≡ cell read_in (standing old i) → read_of new ≡ read_of old
  turned_read same = ap (λ places. record { places = places; spare = 0 }) (turned_cells (cell read_in) refl old new i e turns same)

  pub turned_links : link_cell e ≡ link_cell (standing old i) → links_of new ≡ links_of old
  turned_links same = ap (λ all. record { all = all }) (turned_cells link_cell refl old new i e turns same)

no_kids_from : (ends : _) → ((q : Point) → ends_with ends q ≡ 0) → ends ≡ []
no_kids_from [] none = refl
no_kids_from (x ∷ xs) none =
    let some = leads_somewhere (x ∷ xs) (λ h. let l = ap length h in omega (arith, l)) in
    absurd (let n = none some.0 in omega (arith, n, some.1))

-- a point that reads none has no ends
pub no_kids : (m : Rows Row) → StandsOnce m.places → (p : Point) → ((q : Point) → times (links_of m) p q ≡ 0) → ends_at (side_of Kids m) p ≡ []
no_kids m once p none = no_kids_from (ends_at (side_of Kids m) p) (λ q. sym (times_is m once p q) ∙ none q)

module _ {R : Type 0} (b : Buckets R) (old new : Rows Row) where
  pub standing_same : KeepsViews old new → standing_of new b ≡ standing_of old b
  standing_same v = rw (v.heights, v.roots, v.links, v.read) refl

  -- all but the heights is as it was
  pub heights_rest : roots_of new ≡ roots_of old → links_of new ≡ links_of old → read_of new ≡ read_of old
      → standing_of new b ≡ record (standing_of old b) { heights = heights_of new }
  heights_rest roots links read = rw (roots, links, read) refl

  -- all but the roots is as it was
  pub roots_rest : heights_of new ≡ heights_of old → links_of new ≡ links_of old → read_of new ≡ read_of old
      → standing_of new b ≡ record (standing_of old b) { roots = roots_of new }
  roots_rest heights links read = rw (heights, links, read) refl

-- all is kept, where a row is written with the same ends and place
pub kept_written : {R : Type 0} (b : Buckets R) (least : ℕ) (old new : Rows Row) (p : Point) (was row : Row) → IsWritten old new p was row
    → IsKept old b least → row.place ≡ was.place → row.kids ≡ was.kids → row.readers ≡ was.readers → IsKept new b least
kept_written b least old new p was row w kept place kids readers =
    kept_by old new p (Some row) w.changes b least kept w.once_new
    (λ s. ends s ∙ sym (ap (λ o. row_ends (option_and_then (side_in s) o)) w.was_at))
    (place ∙ sym (ap (option_and_then (λ (r : Row). r.place)) w.was_at))
  where
    ends : (s : Side) → (side_ends s row).items ≡ (side_ends s was).items
    ends Kids = ap (λ l. l.items) kids
    ends Readers = ap (λ l. l.items) readers

module _ {A : Type 0} where
  pub if_some : (o : Option A) (P Q : A → Type 0) → ((a : A) → P a → Q a) → IfSome o P → IfSome o Q
  if_some None P Q f h = tt
  if_some (Some a) P Q f h = f a h

  pub if_none : {P Q : Type 0} (o : Option A) → (P → Q) → IfNone o P → IfNone o Q
  if_none None f h = f h
  if_none (Some a) f h = tt

-- a bare row is added, or nothing is
module _ {R : Type 0} (old new : Rows Row) (p : Point) (row : Row) (bare : IsBareRow row) (absent : at old p ≡ None) (b : Buckets R) (least : ℕ)
    (kept : IsKept old b least) where
  pub added_once : IsAdded old new p row → StandsOnce new.places
  added_once a =
      (row_inserted old.places new.places a.place p row kept.sound.once absent a.vacant
      (record { changed = a.turns.changed; others = a.turns.others })).once

  pub added_kept : {T E : Type 0} (r : Result T E) → OnOk r (IsAdded old new p row) → OnErr r (new ≡ old) → IsKept new b least
  added_kept (Ok x) a same =
      kept_by old new p (Some row) a.changes b least kept (added_once a)
      (λ s. bare_ends row bare p s ∙ sym (ap (λ o. row_ends (option_and_then (side_in s) o)) absent))
      (bare.place ∙ sym (ap (option_and_then (λ (r : Row). r.place)) absent))
  added_kept (Err e) a same = rw same kept

  pub added_rest : {T E : Type 0} (r : Result T E) → OnOk r (IsAdded old new p row) → OnErr r (new ≡ old)
      → standing_of new b ≡ record (standing_of old b) { heights = heights_of new }
  added_rest (Ok x) a same =
      heights_rest b old new
      (turned_roots old new a.place (Some (p, row)) a.turns (bare_roots row bare p ∙ sym (ap (cell roots_in) a.vacant)))
      (turned_links old new a.place (Some (p, row)) a.turns (bare_links row bare p ∙ sym (ap link_cell a.vacant)))
      (turned_read old new a.place (Some (p, row)) a.turns (bare_read row bare p ∙ sym (ap (cell read_in) a.vacant)))
  added_rest (Err e) a same = rw same refl

  pub added_height : IsAdded old new p row → Changes (heights_of old) (heights_of new) p (Some row.height)
  added_height a = heights_change old new p (Some row) a.changes kept.sound.once (added_once a)

-- a bare row is taken off
module _ {R : Type 0} (old new : Rows Row) (p : Point) (row : Row) (bare : IsBareRow row) (value : at old p ≡ Some row) (a : IsRemoved old new p)
    (b : Buckets R) (least : ℕ) (kept : IsKept old b least) where
  stood : standing old a.place ≡ Some (p, row)
  stood = let found = row_once old.places a.place p a.was kept.sound.once a.there in
      a.there ∙ pair_of p p a.was row refl (sym found ∙ value)

  once_removed : StandsOnce new.places
  once_removed =
      (row_removed old.places new.places a.place p a.was kept.sound.once a.there
      (record { changed = a.turns.changed; others = a.turns.others })).once

  pub removed_kept : IsKept new b least
  removed_kept =
      kept_by old new p None a.changes b least kept once_removed
      (λ s. sym (ap (λ o. row_ends (option_and_then (side_in s) o)) value ∙ bare_ends row bare p s))
      (sym (ap (option_and_then (λ (r : Row). r.place)) value ∙ bare.place))

  pub removed_rest : standing_of new b ≡ record (standing_of old b) { heights = heights_of new }
  removed_rest =
      heights_rest b old new
      (turned_roots old new a.place None a.turns (sym (ap (cell roots_in) stood ∙ bare_roots row bare p)))
      (turned_links old new a.place None a.turns (sym (ap link_cell stood ∙ bare_links row bare p)))
      (turned_read old new a.place None a.turns (sym (ap (cell read_in) stood ∙ bare_read row bare p)))

  pub removed_height : Changes (heights_of old) (heights_of new) p None
  removed_height = heights_change old new p None a.changes kept.sound.once once_removed

-- a point without a height has no row
pub row_absent : (m : Rows Row) → StandsOnce m.places → (p : Point) → at (heights_of m) p ≡ None → at m p ≡ None
row_absent m once p h = none_when (at m p) (sym (held_same m once p) ∙ ap is_some h)

pub lt_true : (n : ℕ) → 0 < n → IsTrue (nat_lt 0 n)
lt_true n h = grind (arith, nat_tests)

-- one root more, one less, or as many
module _ (old new : Rows Row) (p : Point) (was row : Row) (w : IsWritten old new p was row) where
  root_was : root_times (roots_of old) p ≡ was.roots
  root_was = roots_here old w.once p was (sym w.was_at)

  root_is : root_times (roots_of new) p ≡ row.roots
  root_is = roots_here new w.once_new p row (sym w.changes.changed)

  pub root_more : row.roots ≡ was.roots + 1 → OneRootMore (roots_of old) (roots_of new) p
  root_more more = record {
    raised = let a = root_was in let b = root_is in omega (arith, a, b, more);
    others = roots_others old new p (Some row) w.changes w.once w.once_new;
  }

  pub root_less : row.roots + 1 ≡ was.roots → OneRootMore (roots_of new) (roots_of old) p
  root_less less = record {
    raised = let a = root_was in let b = root_is in omega (arith, a, b, less);
    others = λ a other. sym (roots_others old new p (Some row) w.changes w.once w.once_new a other);
  }

  pub roots_kept : row.roots ≡ was.roots → KeepsRoots (roots_of old) (roots_of new)
  roots_kept same a = elim (point_cases a p) [
    | inl is ↦ rw is (root_is ∙ same ∙ sym root_was)
    | inr other ↦ roots_others old new p (Some row) w.changes w.once w.once_new a other
  ]

zero_unless : (n : ℕ) → (0 < n → ⊥) → n ≡ 0
zero_unless zero h = refl
zero_unless (suc n) h = absurd (h (omega arith))

no_readers : (m : Rows Row) → AreSound m → (p : Point) → (IsRead (links_of m) p → ⊥) → (ends : List End) → ends_at (side_of Readers m) p ≡ ends → ends ≡ []
no_readers m s p unread [] is = refl
no_readers m s p unread (x ∷ xs) is =
    absurd (unread (read_some m s p (λ none. let l = ap length (sym is ∙ none) in omega (arith, l))))

-- a point that reads none, isn't held and isn't in the heap has a bare row
pub dropped_bare : {R : Type 0} (b : Buckets R) (least : ℕ) (m : Rows Row) (p : Point) (row : Row) → IsKept m b least → at m p ≡ Some row
    → ((q : Point) → times (links_of m) p q ≡ 0) → (IsHeld (links_of m) (roots_of m) p → ⊥) → at (seen b) p ≡ None → IsBareRow row
dropped_bare b least m p row kept value reads_none unheld out =
    let once = kept.sound.once in
    let root = roots_here m once p row (sym value) in
    record {
      roots = zero_unless row.roots (λ some. unheld (inl (omega (arith, some, root))));
      place = none_when row.place (
          ap (λ o. is_some (option_and_then (λ (r : Row). r.place) o)) (sym value) ∙ sym (in_is (place_of m) (place_of m) b b least kept.heap p)
          ∙ ap is_some out);
      kids = sym (ends_here m p row Kids once (sym value)) ∙ no_kids m once p reads_none;
      readers = no_readers m kept.sound p (λ read. unheld (inr read)) row.readers.items (ends_here m p row Readers once (sym value));
    }
