-- A link or a root comes on.
use Rattle.std.proofs.Common.{◌≡◌, ◌⊎◌, inl, inr, ℕ, Some, List, [], ◌∷◌, arith, sym, refl, ap, ◌∙◌}
use Rattle.std.specs.Prelude.{Option, None, is_some, Result, Ok, Err, IfErr, Bool, true, false, not, IsTrue, IsFalse, ◌↔◌}
use Rattle.std.specs.Result.{IsErrAnd}
use Rattle.inc_value.specs.declared.node.Point.{Point}
use Rattle.point_map.specs.Rows.{at, Holds}
use Rattle.point_map.proofs.Places.{point_cases}
use Rattle.link_table.specs.Links.{Links, Reads, KeepsLinks, OneLinkMore}
use Rattle.necessity.specs.Need.{KeepsRoots, OneRootMore}
use Rattle.height_order.specs.Chains.{Reading, ReadsWith, IsChain}
use Rattle.height_order.specs.Levels.{level, or_zero, Rises, AllLow, KeepsPoints}
use Rattle.height_order.specs.Faults.{IfPath, UnlessOver}
use Rattle.height_order.specs.declared.heights.LinkFault.{LinkFault}
use Rattle.height_order.specs.declared.heights.LinkFault.TheVariants.{Path, Over, Memory}
use Rattle.necessary_graph.specs.Part.{NecessaryPart, Needed, AlsoNeeded, IsInStep}
use Rattle.necessary_graph.proofs.Reaching.{root_needed, read_needed, needed_has, needed_more}
use Rattle.necessary_graph.proofs.Sweeping.{link_cases}

-- a chain over some links is one over more
pub chain_as : (R S : Reading) → ((a b : Point) → R a b → S a b) → (list : List Point) → IsChain R list → IsChain S list
chain_as R S more [] c = tt
chain_as R S more (p ∷ []) c = (tt, tt)
chain_as R S more (p ∷ q ∷ rest) c = (more p q c.0, chain_as R S more (q ∷ rest) c.1)

-- what is read over the new links is read over the old ones, or is the new link
pub read_with : (old new : Links) (p q : Point) → OneLinkMore old new p q → (a b : Point) → Reads new a b → ReadsWith old p q a b
read_with old new p q more a b r = elim (link_cases a b p q) [ inl same ↦ inr same | inr other ↦ inl (omega (arith, more.others a b other, r)) ]

pub more_reads : (old new : Links) (p q : Point) → OneLinkMore old new p q → (a b : Point) → Reads old a b → Reads new a b
more_reads old new p q more a b r = elim (link_cases a b p q) [
  | inl same ↦ rw (same.0, same.1) (omega (arith, more.raised))
  | inr other ↦ omega (arith, more.others a b other, r)
]

-- one point more is needed where a needed point reads it
pub link_needs : (old new : NecessaryPart) (p q : Point) → IsInStep old → Needed old p → KeepsRoots old.roots new.roots → OneLinkMore old.links new.links p q
    → AlsoNeeded old new q
link_needs old new p q inv needed roots more a =
    let up : (x : Point) → Needed old x → Needed new x =
    λ x n. needed_more old new (λ y r. omega (arith, roots y, r)) (λ y z r. more_reads old.links new.links p q more y z r) x n in (
      λ n. needed_has new (λ x. Needed old x ⊎ (x ≡ q)) (λ x r. inl (root_needed old x (omega (arith, roots x, r))))
          (λ x y r d. elim (read_with old.links new.links p q more x y r) [
            | inl before ↦ inl (read_needed old x y (inv.readers x y before) before)
            | inr same ↦ inr same.1
          ]) a n,
      λ d. elim d [
        | inl n ↦ up a n
        | inr same ↦ rw same (read_needed new p q (up p needed) (omega (arith, more.raised)))
      ],
    )

-- one point more is needed where it becomes a root
pub root_needs : (old new : NecessaryPart) (p : Point) → IsInStep old → OneRootMore old.roots new.roots p → KeepsLinks old.links new.links → AlsoNeeded old new p
root_needs old new p inv more links a = (
  λ n. needed_has new (λ x. Needed old x ⊎ (x ≡ p))
      (λ x r. elim (point_cases x p) [ inl same ↦ inr same | inr other ↦ inl (root_needed old x (omega (arith, more.others x other, r))) ])
      (λ x y r d. let before : Reads old.links x y = omega (arith, links x y, r) in inl (read_needed old x y (inv.readers x y before) before)) a n,
  λ d. elim d [
    | inl n ↦ needed_more old new (λ y r. elim (point_cases y p) [
      | inl same ↦ rw same (omega (arith, more.raised))
      | inr other ↦ omega (arith, more.others y other, r)
    ]) (λ y z r. omega (arith, links y z, r)) a n
    | inr same ↦ rw same (root_needed new p (omega (arith, more.raised)))
  ],
)

-- the same points are there, and in the heap at their heights; heights rise along links
pub record IsFollowed (old new : NecessaryPart) : Type 0 where
  pub points : KeepsPoints old.heights new.heights
  pub rises : Rises (Reads new.links) (level new.heights)
  pub low : AllLow (level new.heights)
  pub heap : KeepsPoints old.heap new.heap
  pub heights : (a : Point) (h : ℕ) → at new.heap a ≡ Some h → h ≡ level new.heights a

-- what has a row has its height
pub height_there : (x : Option ℕ) (h : ℕ) → is_some x ≡ is_some (Some h) → h ≡ or_zero x → x ≡ Some h
height_there None h there e = let c = there in cc
height_there (Some k) h there e = ap Some (sym e)

-- what is there has some row
pub row_of : (x y : Option ℕ) (h : ℕ) → is_some y ≡ is_some x → y ≡ Some h → (k : ℕ) × (x ≡ Some k)
row_of None y h same e = absurd (let c = sym same ∙ ap is_some e in cc)
row_of (Some k) y h same e = (k, refl)

module _ (old new : NecessaryPart) (inv : IsInStep old) (f : IsFollowed old new) where
  there_still : (a : Point) → Holds old.heights a → Holds new.heights a
  there_still a h = f.points a ∙ h

  was_needed : (a : Point) (h : ℕ) → at new.heap a ≡ Some h → (k : ℕ) × (at old.heap a ≡ Some k)
  was_needed a h e = row_of (at old.heap a) (at new.heap a) h (f.heap a) e

  heap_stands : ((a : Point) → Needed old a → Needed new a) → (a : Point) (h : ℕ) → at new.heap a ≡ Some h → (at new.heights a ≡ Some h) × Needed new a
  heap_stands up a h e =
      let was = was_needed a h e in
      let before = inv.heap a was.0 was.1 in
      (height_there (at new.heights a) h (there_still a (ap is_some before.0)) (f.heights a h e), up a before.1)

  -- a link more from a needed point keeps all in step
  pub linked_in_step : (p q : Point) → Needed old p → Holds old.heights q → KeepsRoots old.roots new.roots → OneLinkMore old.links new.links p q → IsInStep new
  linked_in_step p q needed there roots more =
      let also = link_needs old new p q inv needed roots more in
      let up : (a : Point) → Needed old a → Needed new a = λ a n. (also a).1 (inl n) in record {
        ends = λ a b r. elim (read_with old.links new.links p q more a b r) [
          | inl before ↦ let e = inv.ends a b before in (there_still a e.0, there_still b e.1)
          | inr same ↦ rw (same.0, same.1) (there_still p (inv.there p needed), there_still q there)
        ];
        rises = f.rises;
        low = f.low;
        readers = λ a b r. elim (read_with old.links new.links p q more a b r) [
          | inl before ↦ up a (inv.readers a b before)
          | inr same ↦ rw same.0 (up p needed)
        ];
        there = λ a n. elim ((also a).0 n) [ inl before ↦ there_still a (inv.there a before) | inr same ↦ rw same (there_still q there) ];
        heap = heap_stands up;
      }

  -- and so do the same links and roots
  pub kept_in_step : KeepsRoots old.roots new.roots → KeepsLinks old.links new.links → IsInStep new
  kept_in_step roots links =
      let up : (a : Point) → Needed old a → Needed new a =
      λ a n. needed_more old new (λ y r. omega (arith, roots y, r)) (λ y z r. omega (arith, links y z, r)) a n in
      let down : (a : Point) → Needed new a → Needed old a =
      λ a n. needed_more new old (λ y r. omega (arith, roots y, r)) (λ y z r. omega (arith, links y z, r)) a n in record {
        ends = λ a b r. let e = inv.ends a b (omega (arith, links a b, r)) in (there_still a e.0, there_still b e.1);
        rises = f.rises;
        low = f.low;
        readers = λ a b r. up a (inv.readers a b (omega (arith, links a b, r)));
        there = λ a n. there_still a (inv.there a (down a n));
        heap = heap_stands up;
      }

-- heights and heap as they were
pub stays : (old new : NecessaryPart) → IsInStep old → KeepsLinks old.links new.links → new.heights ≡ old.heights → new.heap ≡ old.heap → IsFollowed old new
stays old new inv links heights heap = record {
  points = λ a. rw heights refl;
  rises = λ a b r. rw heights (inv.rises a b (omega (arith, links a b, r)));
  low = λ a. rw heights (inv.low a);
  heap = λ a. rw heap refl;
  heights = λ a h e. let was = (inv.heap a h (ap (λ m. at m a) (sym heap) ∙ e)).0 in sym (ap (λ m. level m a) heights ∙ ap or_zero was);
}

-- a root more keeps all in step
pub rooted_in_step : (old new : NecessaryPart) (p : Point) → IsInStep old → OneRootMore old.roots new.roots p → KeepsLinks old.links new.links
    → new.heights ≡ old.heights → new.heap ≡ old.heap → Holds old.heights p → IsInStep new
rooted_in_step old new p inv more links heights heap there =
    let also = root_needs old new p inv more links in
    let f = stays old new inv links heights heap in
    let up : (a : Point) → Needed old a → Needed new a = λ a n. (also a).1 (inl n) in record {
      ends = λ a b r. let e = inv.ends a b (omega (arith, links a b, r)) in rw heights e;
      rises = f.rises;
      low = f.low;
      readers = λ a b r. up a (inv.readers a b (omega (arith, links a b, r)));
      there = λ a n. elim ((also a).0 n) [ inl before ↦ rw heights (inv.there a before) | inr same ↦ rw (heights, same) there ];
      heap = heap_stands old new inv f up;
    }

-- a point is newly needed, unless it was needed
pub newly_unless : (b : Bool) (P Q : Type 0) → IsTrue b ↔ P → P ↔ Q → IsFalse (not b) ↔ Q
newly_unless true P Q is same = (λ _. same.0 (is.0 refl), λ _. refl)
newly_unless false P Q is same = (λ e. absurd (let f = e in cc), λ needed. absurd (let f = is.1 (same.1 needed) in cc))

-- what an error is that goes on as it is
pub exit_is : {T E : Type 0} (r : Result T E) (e : E) (P : E → Type 0) → IsErrAnd r (λ x. x ≡ e) → P e → IfErr r P
exit_is (Ok x) e P is p = absurd is
exit_is (Err x) e P is p = rw is p

pub path_unless_over : (P : Type 0) (e : LinkFault) → UnlessOver P e → IfPath (λ _. P) e
path_unless_over P (Path list) h = h
path_unless_over P (Over list) h = tt
path_unless_over P Memory h = tt
