-- The two lists of an expert's links: a link put on and taken off, and all links taken up.
use Rattle.std.proofs.Common.{◌≡◌, ◌∙◌, ◌⊎◌, ℕ, ◌<◌, ◌+◌, Bool, true, false, not, cond, List, [], ◌∷◌, ◌++◌, length, map, refl, ap, sym, subst, inl, inr, arith, slice_set, replicate, ◌-◌}
use Rattle.std.specs.Prelude.{slice_index_or}
use Rattle.std.proofs.lemmas.Bool.{cases_eq, eq-eqb, ne_eqb}
use Rattle.std.proofs.lemmas.List.{append_assoc, length-map, length-set}
use Rattle.inc_value.specs.Choice.{Among}
use Rattle.inc_value.specs.declared.node.NodeId.{NodeId}
use Rattle.index_lists.specs.Lists.{Lists, Among as AmongPlaces, Has, IsThere, list_at, places, without}
use Rattle.expert_nodes.specs.declared.links.Link.{Link}
use Rattle.expert_nodes.specs.Links.{AreFresh, AreMarked, IsOff, all_of, bare, fresh_of, kids_of, taken_of}
use Rattle.expert_nodes.proofs.Places.{IsOffBefore, IsOffBehind, among_either, has_kid, has_place, kids_push, length_push, without_both}

-- ---- lists of lists

module _ {A : Type 0} where
  first_set_second : (lists : List (List A)) (es : List A) → slice_index_or (slice_set lists 1 es) 0 [] ≡ slice_index_or lists 0 []
  first_set_second [] es = refl
  first_set_second (l ∷ ls) es = refl

  second_set_second : (lists : List (List A)) (es : List A) → 1 < length lists → slice_index_or (slice_set lists 1 es) 1 [] ≡ es
  second_set_second [] es h = absurd (omega (arith, h))
  second_set_second (l ∷ []) es h = absurd (omega (arith, h))
  second_set_second (l ∷ m ∷ ls) es h = refl

  -- lists that are widened to two
  pub pair_wide : (lists : List (List A)) → (length lists ≡ 0) ⊎ (length lists ≡ 2) → length (lists ++ replicate (2 - length lists) []) ≡ 2
  pair_wide [] h = refl
  pair_wide (l ∷ []) (inl h) = absurd (omega (arith, h))
  pair_wide (l ∷ []) (inr h) = absurd (omega (arith, h))
  pair_wide (l ∷ m ∷ []) h = refl
  pair_wide (l ∷ m ∷ n ∷ ls) (inl h) = absurd (omega (arith, h))
  pair_wide (l ∷ m ∷ n ∷ ls) (inr h) = absurd (omega (arith, h))

  pub first_wide : (lists : List (List A)) → slice_index_or (lists ++ replicate (2 - length lists) []) 0 [] ≡ slice_index_or lists 0 []
  first_wide [] = refl
  first_wide (l ∷ ls) = refl

  pub second_wide : (lists : List (List A)) → slice_index_or (lists ++ replicate (2 - length lists) []) 1 [] ≡ slice_index_or lists 1 []
  second_wide [] = refl
  second_wide (l ∷ []) = refl
  second_wide (l ∷ m ∷ ls) = refl

first_mapped : (p : ℕ) (lists : List (List (ℕ × Link))) → slice_index_or (map (without p) lists) 0 [] ≡ without p (slice_index_or lists 0 [])
first_mapped p [] = refl
first_mapped p (l ∷ ls) = refl

second_mapped : (p : ℕ) (lists : List (List (ℕ × Link))) → slice_index_or (map (without p) lists) 1 [] ≡ without p (slice_index_or lists 1 [])
second_mapped p [] = refl
second_mapped p (l ∷ []) = refl
second_mapped p (l ∷ m ∷ ls) = refl

-- ---- links and their nodes

bare_without : (p : ℕ) (es : List (ℕ × Link)) → bare (without p es) ≡ without p (bare es)
bare_without p [] = refl
bare_without p (e ∷ es) = elim (cases_eq e.0 p) [
  | inl same ↦ ap (λ t. bare (cond (not t) (e ∷ without p es) (without p es))) (eq-eqb e.0 p same) ∙ bare_without p es
      ∙ sym (ap (λ t. cond (not t) ((e.0, e.1.node) ∷ without p (bare es)) (without p (bare es))) (eq-eqb e.0 p same))
  | inr d ↦ ap (λ t. bare (cond (not t) (e ∷ without p es) (without p es))) (ne_eqb e.0 p d) ∙ ap (λ l. (e.0, e.1.node) ∷ l) (bare_without p es)
      ∙ sym (ap (λ t. cond (not t) ((e.0, e.1.node) ∷ without p (bare es)) (without p (bare es))) (ne_eqb e.0 p d))
]

pub bare_push : (es : List (ℕ × Link)) (p : ℕ) (l : Link) → bare (es ++ (p, l) ∷ []) ≡ bare es ++ (p, l.node) ∷ []
bare_push [] p l = refl
bare_push (e ∷ es) p l = ap (λ x. (e.0, e.1.node) ∷ x) (bare_push es p l)

-- the nodes of links, in order
pub nodes_laid : (es : List (ℕ × Link)) → map (λ (x : Link). x.node) (map (λ (e : ℕ × Link). e.1) es) ≡ kids_of (bare es)
nodes_laid [] = refl
nodes_laid (e ∷ es) = ap (λ l. e.1.node ∷ l) (nodes_laid es)

row_at : (es : List (ℕ × Link)) (p : ℕ) → AmongPlaces (places (bare es)) p → (l : Link) × Has es p l
row_at [] p a = absurd a
row_at (e ∷ es) p (inl here) = (e.1, inl (here, refl))
row_at (e ∷ es) p (inr later) = let h = row_at es p later in (h.0, inr h.1)

fresh_row : (b : Bool) (es : List (ℕ × Link)) (p : ℕ) (l : Link) → AreFresh b es → Has es p l → l.fresh ≡ b
fresh_row b [] p l all h = absurd h
fresh_row b (e ∷ es) p l all (inl h) = ap (λ (x : Link). x.fresh) (sym h.1) ∙ all.0
fresh_row b (e ∷ es) p l all (inr h) = fresh_row b es p l all.1 h

pub fresh_push : (b : Bool) (es : List (ℕ × Link)) (p : ℕ) (l : Link) → AreFresh b es → l.fresh ≡ b → AreFresh b (es ++ (p, l) ∷ [])
fresh_push b [] p l all is = (is, tt)
fresh_push b (e ∷ es) p l all is = (all.0, fresh_push b es p l all.1 is)

fresh_without : (b : Bool) (p : ℕ) (es : List (ℕ × Link)) → AreFresh b es → AreFresh b (without p es)
fresh_without b p [] all = all
fresh_without b p (e ∷ es) all = elim (cases_eq e.0 p) [
  | inl same ↦ subst (AreFresh b) (sym (ap (λ t. cond (not t) (e ∷ without p es) (without p es)) (eq-eqb e.0 p same))) (fresh_without b p es all.1)
  | inr d ↦ subst (AreFresh b) (sym (ap (λ t. cond (not t) (e ∷ without p es) (without p es)) (ne_eqb e.0 p d))) (all.0, fresh_without b p es all.1)
]

-- a place among the links is one of a row
pub there_among : (links : Lists Link) (p : ℕ) → AmongPlaces (places (all_of links)) p → IsThere links p
there_among links p a = elim (among_either (taken_of links) (fresh_of links) p a) [
  | inl before ↦ let h = row_at (list_at links 0) p before in record { list = 0; row = h.0; has = h.1 }
  | inr behind ↦ let h = row_at (list_at links 1) p behind in record { list = 1; row = h.0; has = h.1 }
]

-- ---- a link is put on

module _ (links new : Lists Link) (p : ℕ) (n : NodeId) (marked : AreMarked links) (wide : 1 < length links.lists)
    (lists : new.lists ≡ slice_set links.lists 1 (list_at links 1 ++ (p, record { node = n; fresh = true }) ∷ [])) where
  abbrev row : Link
  row = record { node = n; fresh = true }

  first_put : list_at new 0 ≡ list_at links 0
  first_put = ap (λ ls. slice_index_or ls 0 []) lists ∙ first_set_second links.lists (list_at links 1 ++ (p, row) ∷ [])

  second_put : list_at new 1 ≡ list_at links 1 ++ (p, row) ∷ []
  second_put = ap (λ ls. slice_index_or ls 1 []) lists ∙ second_set_second links.lists (list_at links 1 ++ (p, row) ∷ []) wide

  pub taken_put : taken_of new ≡ taken_of links
  taken_put = ap bare first_put

  pub fresh_put : fresh_of new ≡ fresh_of links ++ (p, n) ∷ []
  fresh_put = ap bare second_put ∙ bare_push (list_at links 1) p row

  pub all_put : all_of new ≡ all_of links ++ (p, n) ∷ []
  all_put = ap (λ l. l ++ fresh_of new) taken_put ∙ ap (λ l. taken_of links ++ l) fresh_put ∙ sym (append_assoc (taken_of links) (fresh_of links) ((p, n) ∷ []))

  pub marked_put : AreMarked new
  marked_put = record {
    two = elim marked.two [
      | inl none ↦ absurd (omega (arith, none, wide))
      | inr two ↦ inr (ap length lists ∙ length-set links.lists 1 (list_at links 1 ++ (p, row) ∷ []) ∙ two)
    ];
    taken = subst (AreFresh false) (sym first_put) marked.taken;
    fresh = subst (AreFresh true) (sym second_put) (fresh_push true (list_at links 1) p row marked.fresh refl);
  }

  pub kids_put : kids_of (fresh_of new) ≡ kids_of (fresh_of links) ++ n ∷ []
  kids_put = ap kids_of fresh_put ∙ kids_push p n (fresh_of links)

  pub count_put : length (fresh_of new) ≡ length (fresh_of links) + 1
  count_put = ap length fresh_put ∙ length_push p n (fresh_of links)

-- ---- a link is taken off

module _ (links new : Lists Link) (p : ℕ) (marked : AreMarked links) (lists : new.lists ≡ map (without p) links.lists) where
  first_off : list_at new 0 ≡ without p (list_at links 0)
  first_off = ap (λ ls. slice_index_or ls 0 []) lists ∙ first_mapped p links.lists

  second_off : list_at new 1 ≡ without p (list_at links 1)
  second_off = ap (λ ls. slice_index_or ls 1 []) lists ∙ second_mapped p links.lists

  taken_without : taken_of new ≡ without p (taken_of links)
  taken_without = ap bare first_off ∙ bare_without p (list_at links 0)

  fresh_without_place : fresh_of new ≡ without p (fresh_of links)
  fresh_without_place = ap bare second_off ∙ bare_without p (list_at links 1)

  pub all_off : all_of new ≡ without p (all_of links)
  all_off = ap (λ l. l ++ fresh_of new) taken_without ∙ ap (λ l. without p (taken_of links) ++ l) fresh_without_place
      ∙ sym (without_both p (taken_of links) (fresh_of links))

  pub marked_off : AreMarked new
  marked_off = record {
    two = elim marked.two [
      | inl none ↦ inl (ap length lists ∙ length-map links.lists (without p) ∙ none)
      | inr two ↦ inr (ap length lists ∙ length-map links.lists (without p) ∙ two)
    ];
    taken = subst (AreFresh false) (sym first_off) (fresh_without false p (list_at links 0) marked.taken);
    fresh = subst (AreFresh true) (sym second_off) (fresh_without true p (list_at links 1) marked.fresh);
  }

  -- which list it stood in, as its row tells
  pub is_off : (n : NodeId) (l : Link) → ((list : ℕ) (row : Link) → Has (list_at links list) p row → l ≡ row)
      → IsOffBefore n p (taken_of links) (fresh_of links) ⊎ IsOffBehind n p (taken_of links) (fresh_of links) → IsOff links new n (not l.fresh)
  is_off n l is (inl before) =
      let h = row_at (list_at links 0) p (has_place (taken_of links) p n before.off.there) in
      let old = ap (λ (x : Link). x.fresh) (is 0 h.0 h.1) ∙ fresh_row false (list_at links 0) p h.0 marked.taken h.1 in
      subst (λ b. IsOff links new n (not b)) (sym old) (record {
        there = has_kid n p (taken_of links) before.off.there;
        taken = ap kids_of taken_without ∙ before.off.kids;
        fresh = fresh_without_place ∙ before.stays;
        fewer = let less = before.off.fewer in let same = ap length taken_without in omega (arith, less, same);
      })
  is_off n l is (inr behind) =
      let h = row_at (list_at links 1) p (has_place (fresh_of links) p n behind.off.there) in
      let new_one = ap (λ (x : Link). x.fresh) (is 1 h.0 h.1) ∙ fresh_row true (list_at links 1) p h.0 marked.fresh h.1 in
      subst (λ b. IsOff links new n (not b)) (sym new_one) (record {
        untaken = behind.none;
        there = has_kid n p (fresh_of links) behind.off.there;
        taken = taken_without ∙ behind.stays;
        fresh = ap kids_of fresh_without_place ∙ behind.off.kids;
        fewer = let less = behind.off.fewer in let same = ap length fresh_without_place in omega (arith, less, same);
      })

-- a node of one of two lists is one of both together
among_before : (n : NodeId) (xs ys : List NodeId) → Among n xs → Among n (xs ++ ys)
among_before n [] ys a = absurd a
among_before n (x ∷ xs) ys (inl here) = inl here
among_before n (x ∷ xs) ys (inr later) = inr (among_before n xs ys later)

among_behind : (n : NodeId) (xs ys : List NodeId) → Among n ys → Among n (xs ++ ys)
among_behind n [] ys a = a
among_behind n (x ∷ xs) ys a = inr (among_behind n xs ys a)

-- a node whose link is off was linked
pub there_off : (links new : Lists Link) (n : NodeId) (b : Bool) → IsOff links new n b → Among n (kids_of (taken_of links) ++ kids_of (fresh_of links))
there_off links new n true off = among_before n (kids_of (taken_of links)) (kids_of (fresh_of links)) off.there
there_off links new n false off = among_behind n (kids_of (taken_of links)) (kids_of (fresh_of links)) off.there

-- ---- a fresh link is taken up

-- some fresh links were moved behind the others, where they stand at the same places
pub record AreMoving (old now : Lists Link) : Type 0 where
  pub marked : AreMarked now
  pub wide : 1 < length now.lists
  pub all : all_of now ≡ all_of old
