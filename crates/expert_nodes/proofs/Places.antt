-- A link in a list of places put on and taken off: the linked nodes, and the places of each node's links.
use Rattle.std.proofs.Common.{◌≡◌, ◌≢◌, ◌∙◌, ◌⊎◌, ℕ, ◌+◌, true, false, not, cond, List, [], ◌∷◌, ◌++◌, length, refl, ap, sym, subst, inl, inr, arith}
use Rattle.std.proofs.lemmas.Bool.{cases_eq, cond-true, cond-false, eq-eqb, ne_eqb, false_from_ne_true}
use Rattle.inc_value.specs.Choice.{Among}
use Rattle.inc_value.specs.declared.node.NodeId.{NodeId}
use Rattle.index_lists.specs.Lists.{Among as AmongPlaces, Has, NoRepeats, places, without}
use Rattle.point_map.proofs.Places.{point_cases, same_point_eq, same_point_self}
use Rattle.point_map.specs.Rows.{same_point}
use Rattle.expert_nodes.specs.Experts.{point_of, without_first}
use Rattle.expert_nodes.specs.Links.{kids_of, places_of}

-- ---- the same node, or another

same_as : (a b : NodeId) → same_point (point_of a) (point_of b) ≡ true → a ≡ b
same_as a b h = ap (λ p. p.node) (same_point_eq (point_of a) (point_of b) h)

differs_from : (a b : NodeId) → a ≢ b → same_point (point_of a) (point_of b) ≡ false
differs_from a b d = false_from_ne_true (same_point (point_of a) (point_of b)) (λ t. d (same_as a b t))

equals : (a b : NodeId) → a ≡ b → same_point (point_of a) (point_of b) ≡ true
equals a b same = subst (λ m. same_point (point_of m) (point_of b) ≡ true) (sym same) (same_point_self (point_of b))

pub node_cases : (a b : NodeId) → (a ≡ b) ⊎ (a ≢ b)
node_cases a b = elim (point_cases (point_of a) (point_of b)) [
  | inl same ↦ inl (ap (λ p. p.node) same)
  | inr d ↦ inr (λ e. d (ap point_of e))
]

-- ---- a list without the first place of a node

first_here : (n kid : NodeId) (kids : List NodeId) → kid ≡ n → without_first n (kid ∷ kids) ≡ kids
first_here n kid kids same = cond-true (same_point (point_of kid) (point_of n)) kids (kid ∷ without_first n kids) (equals kid n same)

first_later : (n kid : NodeId) (kids : List NodeId) → kid ≢ n → without_first n (kid ∷ kids) ≡ kid ∷ without_first n kids
first_later n kid kids d = cond-false (same_point (point_of kid) (point_of n)) kids (kid ∷ without_first n kids) (differs_from kid n d)

-- ---- the places of a node's links

own_place : (n : NodeId) (e : ℕ × NodeId) (es : List (ℕ × NodeId)) → e.1 ≡ n → places_of n (e ∷ es) ≡ e.0 ∷ places_of n es
own_place n e es same = cond-true (same_point (point_of e.1) (point_of n)) (e.0 ∷ places_of n es) (places_of n es) (equals e.1 n same)

other_place : (n : NodeId) (e : ℕ × NodeId) (es : List (ℕ × NodeId)) → e.1 ≢ n → places_of n (e ∷ es) ≡ places_of n es
other_place n e es d = cond-false (same_point (point_of e.1) (point_of n)) (e.0 ∷ places_of n es) (places_of n es) (differs_from e.1 n d)

more_places : (n : NodeId) (e : ℕ × NodeId) (now was : List (ℕ × NodeId)) → places_of n now ≡ places_of n was → places_of n (e ∷ now) ≡ places_of n (e ∷ was)
more_places n e now was h = ap (λ l. cond (same_point (point_of e.1) (point_of n)) (e.0 ∷ l) l) h

pub places_among : (n : NodeId) (es : List (ℕ × NodeId)) (p : ℕ) → AmongPlaces (places_of n es) p → AmongPlaces (places es) p
places_among n [] p a = a
places_among n (e ∷ es) p a = elim (node_cases e.1 n) [
  | inl same ↦ elim (subst (λ l. AmongPlaces l p) (own_place n e es same) a) [
    | inl here ↦ inl here
    | inr later ↦ inr (places_among n es p later)
  ]
  | inr d ↦ inr (places_among n es p (subst (λ l. AmongPlaces l p) (other_place n e es d) a))
]

pub has_kid : (n : NodeId) (p : ℕ) (es : List (ℕ × NodeId)) → Has es p n → Among n (kids_of es)
has_kid n p [] h = h
has_kid n p (e ∷ es) (inl h) = inl (sym h.1)
has_kid n p (e ∷ es) (inr h) = inr (has_kid n p es h)

nothing_first : (x : ℕ) (xs : List ℕ) → x ∷ xs ≡ [] → ⊥
nothing_first x xs h = cc

-- a node without places isn't linked
pub not_linked : (n : NodeId) (es : List (ℕ × NodeId)) → places_of n es ≡ [] → Among n (kids_of es) → ⊥
not_linked n [] is a = a
not_linked n (e ∷ es) is a = elim (node_cases e.1 n) [
  | inl same ↦ nothing_first e.0 (places_of n es) (sym (own_place n e es same) ∙ is)
  | inr d ↦ elim a [
    | inl here ↦ d (sym here)
    | inr later ↦ not_linked n es (sym (other_place n e es d) ∙ is) later
  ]
]

-- a node that has places is linked
pub linked : (n : NodeId) (es : List (ℕ × NodeId)) → places_of n es ≢ [] → Among n (kids_of es)
linked n [] d = absurd (d refl)
linked n (e ∷ es) d = elim (node_cases e.1 n) [
  | inl same ↦ inl (sym same)
  | inr other ↦ inr (linked n es (λ none. d (other_place n e es other ∙ none)))
]

-- ---- a link is taken off

without_here : (p : ℕ) (e : ℕ × NodeId) (es : List (ℕ × NodeId)) → e.0 ≡ p → without p (e ∷ es) ≡ without p es
without_here p e es same = ap (λ t. cond (not t) (e ∷ without p es) (without p es)) (eq-eqb e.0 p same)

without_there : (p : ℕ) (e : ℕ × NodeId) (es : List (ℕ × NodeId)) → e.0 ≢ p → without p (e ∷ es) ≡ e ∷ without p es
without_there p e es d = ap (λ t. cond (not t) (e ∷ without p es) (without p es)) (ne_eqb e.0 p d)

without_absent : (p : ℕ) (es : List (ℕ × NodeId)) → (AmongPlaces (places es) p → ⊥) → without p es ≡ es
without_absent p [] h = refl
without_absent p (e ∷ es) h = without_there p e es (λ s. h (inl s)) ∙ ap (λ l. e ∷ l) (without_absent p es (λ a. h (inr a)))

among_without : (p x : ℕ) (es : List (ℕ × NodeId)) → AmongPlaces (places (without p es)) x → AmongPlaces (places es) x
among_without p x [] a = a
among_without p x (e ∷ es) a = elim (cases_eq e.0 p) [
  | inl same ↦ inr (among_without p x es (subst (λ l. AmongPlaces (places l) x) (without_here p e es same) a))
  | inr d ↦ elim (subst (λ l. AmongPlaces (places l) x) (without_there p e es d) a) [
    | inl here ↦ inl here
    | inr later ↦ inr (among_without p x es later)
  ]
]

pub once_without : (p : ℕ) (es : List (ℕ × NodeId)) → NoRepeats (places es) → NoRepeats (places (without p es))
once_without p [] h = h
once_without p (e ∷ es) h = elim (cases_eq e.0 p) [
  | inl same ↦ subst (λ l. NoRepeats (places l)) (sym (without_here p e es same)) (once_without p es h.1)
  | inr d ↦ subst (λ l. NoRepeats (places l)) (sym (without_there p e es d)) ((λ a. h.0 (among_without p e.0 es a)), once_without p es h.1)
]

length_off : (p : ℕ) (es : List (ℕ × NodeId)) → NoRepeats (places es) → AmongPlaces (places es) p → length (without p es) + 1 ≡ length es
length_off p [] once a = absurd a
length_off p (e ∷ es) once (inl here) =
    let gone = without_here p e es here ∙ without_absent p es (λ a. once.0 (subst (λ x. AmongPlaces (places es) x) (sym here) a)) in
    rw gone (omega arith)
length_off p (e ∷ es) once (inr later) =
    let stays = without_there p e es (λ s. once.0 (subst (λ x. AmongPlaces (places es) x) (sym s) later)) in
    let less = length_off p es once.1 later in
    rw stays (omega (arith, less))

-- the first link of a node is off, which stood at this place; the others of the node stand at the rest
pub record IsWithout (n : NodeId) (p : ℕ) (rest : List ℕ) (es : List (ℕ × NodeId)) : Type 0 where
  pub there : Has es p n
  pub fewer : length (without p es) + 1 ≡ length es
  pub kids : kids_of (without p es) ≡ without_first n (kids_of es)
  pub own : places_of n (without p es) ≡ rest
  pub others : (m : NodeId) → m ≢ n → places_of m (without p es) ≡ places_of m es

head_is : (x y : ℕ) (xs ys : List ℕ) → x ∷ xs ≡ y ∷ ys → x ≡ y
head_is x y xs ys h = cc

tail_is : (x y : ℕ) (xs ys : List ℕ) → x ∷ xs ≡ y ∷ ys → xs ≡ ys
tail_is x y xs ys h = cc

pub taken_off : (n : NodeId) (p : ℕ) (rest : List ℕ) (es : List (ℕ × NodeId)) → NoRepeats (places es) → places_of n es ≡ p ∷ rest → IsWithout n p rest es
taken_off n p rest [] once is = absurd (nothing_first p rest (sym is))
taken_off n p rest (e ∷ es) once is = elim (node_cases e.1 n) [
  | inl same ↦
      let both = sym (own_place n e es same) ∙ is in
      let here = head_is e.0 p (places_of n es) rest both in
      let gone = without_here p e es here ∙ without_absent p es (λ a. once.0 (subst (λ x. AmongPlaces (places es) x) (sym here) a)) in
      record {
        there = inl (here, same);
        fewer = rw gone (omega arith);
        kids = ap kids_of gone ∙ sym (first_here n e.1 (kids_of es) same);
        own = ap (places_of n) gone ∙ tail_is e.0 p (places_of n es) rest both;
        others = λ m d. ap (places_of m) gone ∙ sym (other_place m e es (λ s. d (sym s ∙ same)));
      }
  | inr differs ↦
      let later = sym (other_place n e es differs) ∙ is in
      let off = taken_off n p rest es once.1 later in
      let among = places_among n es p (subst (λ l. AmongPlaces l p) (sym later) (inl refl)) in
      let stays = without_there p e es (λ s. once.0 (subst (λ x. AmongPlaces (places es) x) (sym s) among)) in
      record {
        there = inr off.there;
        fewer = length_off p (e ∷ es) once (inr among);
        kids = ap kids_of stays ∙ ap (λ l. e.1 ∷ l) off.kids ∙ sym (first_later n e.1 (kids_of es) differs);
        own = ap (places_of n) stays ∙ other_place n e (without p es) differs ∙ off.own;
        others = λ m d. ap (places_of m) stays ∙ more_places m e (without p es) es (off.others m d);
      }
]

-- ---- a link is put on

among_push : (x p : ℕ) (n : NodeId) (es : List (ℕ × NodeId)) → AmongPlaces (places (es ++ (p, n) ∷ [])) x → AmongPlaces (places es) x ⊎ (p ≡ x)
among_push x p n [] (inl same) = inr same
among_push x p n [] (inr a) = absurd a
among_push x p n (e ∷ es) (inl here) = inl (inl here)
among_push x p n (e ∷ es) (inr a) = elim (among_push x p n es a) [ inl before ↦ inl (inr before) | inr same ↦ inr same ]

pub once_push : (p : ℕ) (n : NodeId) (es : List (ℕ × NodeId)) → NoRepeats (places es) → (AmongPlaces (places es) p → ⊥)
    → NoRepeats (places (es ++ (p, n) ∷ []))
once_push p n [] once apart = ((λ a. a), once)
once_push p n (e ∷ es) once apart = (
  (λ a. elim (among_push e.0 p n es a) [ inl before ↦ once.0 before | inr same ↦ apart (inl (sym same)) ]),
  once_push p n es once.1 (λ a. apart (inr a)),
)

pub own_push : (p : ℕ) (n : NodeId) (es : List (ℕ × NodeId)) → places_of n (es ++ (p, n) ∷ []) ≡ places_of n es ++ p ∷ []
own_push p n [] = own_place n (p, n) [] refl
own_push p n (e ∷ es) = elim (node_cases e.1 n) [
  | inl same ↦ own_place n e (es ++ (p, n) ∷ []) same ∙ ap (λ l. e.0 ∷ l) (own_push p n es) ∙ sym (ap (λ l. l ++ p ∷ []) (own_place n e es same))
  | inr d ↦ other_place n e (es ++ (p, n) ∷ []) d ∙ own_push p n es ∙ sym (ap (λ l. l ++ p ∷ []) (other_place n e es d))
]

pub other_push : (p : ℕ) (n m : NodeId) (es : List (ℕ × NodeId)) → m ≢ n → places_of m (es ++ (p, n) ∷ []) ≡ places_of m es
other_push p n m [] d = other_place m (p, n) [] (λ s. d (sym s))
other_push p n m (e ∷ es) d = more_places m e (es ++ (p, n) ∷ []) es (other_push p n m es d)

pub kids_push : (p : ℕ) (n : NodeId) (es : List (ℕ × NodeId)) → kids_of (es ++ (p, n) ∷ []) ≡ kids_of es ++ n ∷ []
kids_push p n [] = refl
kids_push p n (e ∷ es) = ap (λ l. e.1 ∷ l) (kids_push p n es)

pub length_push : (p : ℕ) (n : NodeId) (es : List (ℕ × NodeId)) → length (es ++ (p, n) ∷ []) ≡ length es + 1
length_push p n [] = omega arith
length_push p n (e ∷ es) = let l = length_push p n es in omega (arith, l)

-- ---- one list behind another

pub among_left : (xs ys : List (ℕ × NodeId)) (p : ℕ) → AmongPlaces (places xs) p → AmongPlaces (places (xs ++ ys)) p
among_left [] ys p a = absurd a
among_left (e ∷ es) ys p (inl here) = inl here
among_left (e ∷ es) ys p (inr later) = inr (among_left es ys p later)

pub among_right : (xs ys : List (ℕ × NodeId)) (p : ℕ) → AmongPlaces (places ys) p → AmongPlaces (places (xs ++ ys)) p
among_right [] ys p a = a
among_right (e ∷ es) ys p a = inr (among_right es ys p a)

pub among_either : (xs ys : List (ℕ × NodeId)) (p : ℕ) → AmongPlaces (places (xs ++ ys)) p → AmongPlaces (places xs) p ⊎ AmongPlaces (places ys) p
among_either [] ys p a = inr a
among_either (e ∷ es) ys p (inl here) = inl (inl here)
among_either (e ∷ es) ys p (inr a) = elim (among_either es ys p a) [ inl before ↦ inl (inr before) | inr behind ↦ inr behind ]

once_left : (xs ys : List (ℕ × NodeId)) → NoRepeats (places (xs ++ ys)) → NoRepeats (places xs)
once_left [] ys once = tt
once_left (e ∷ es) ys once = ((λ a. once.0 (among_left es ys e.0 a)), once_left es ys once.1)

once_right : (xs ys : List (ℕ × NodeId)) → NoRepeats (places (xs ++ ys)) → NoRepeats (places ys)
once_right [] ys once = once
once_right (e ∷ es) ys once = once_right es ys once.1

apart : (xs ys : List (ℕ × NodeId)) (p : ℕ) → NoRepeats (places (xs ++ ys)) → AmongPlaces (places xs) p → AmongPlaces (places ys) p → ⊥
apart [] ys p once a b = absurd a
apart (e ∷ es) ys p once (inl here) b = once.0 (subst (λ x. AmongPlaces (places (es ++ ys)) x) (sym here) (among_right es ys p b))
apart (e ∷ es) ys p once (inr later) b = apart es ys p once.1 later b

places_both : (n : NodeId) (xs ys : List (ℕ × NodeId)) → places_of n (xs ++ ys) ≡ places_of n xs ++ places_of n ys
places_both n [] ys = refl
places_both n (e ∷ es) ys = elim (node_cases e.1 n) [
  | inl same ↦ own_place n e (es ++ ys) same ∙ ap (λ l. e.0 ∷ l) (places_both n es ys) ∙ sym (ap (λ l. l ++ places_of n ys) (own_place n e es same))
  | inr d ↦ other_place n e (es ++ ys) d ∙ places_both n es ys ∙ sym (ap (λ l. l ++ places_of n ys) (other_place n e es d))
]

pub without_both : (p : ℕ) (xs ys : List (ℕ × NodeId)) → without p (xs ++ ys) ≡ without p xs ++ without p ys
without_both p [] ys = refl
without_both p (e ∷ es) ys = elim (cases_eq e.0 p) [
  | inl same ↦ without_here p e (es ++ ys) same ∙ without_both p es ys ∙ sym (ap (λ l. l ++ without p ys) (without_here p e es same))
  | inr d ↦ without_there p e (es ++ ys) d ∙ ap (λ l. e ∷ l) (without_both p es ys) ∙ sym (ap (λ l. l ++ without p ys) (without_there p e es d))
]

pub has_place : (es : List (ℕ × NodeId)) (p : ℕ) (n : NodeId) → Has es p n → AmongPlaces (places es) p
has_place [] p n h = h
has_place (e ∷ es) p n (inl h) = inl h.0
has_place (e ∷ es) p n (inr h) = inr (has_place es p n h)

-- the first link of a node stands in the list before, and is off there
pub record IsOffBefore (n : NodeId) (p : ℕ) (before behind : List (ℕ × NodeId)) : Type 0 where
  pub rest : List ℕ
  pub off : IsWithout n p rest before
  pub stays : without p behind ≡ behind

-- it stands in the list behind, and is off there
pub record IsOffBehind (n : NodeId) (p : ℕ) (before behind : List (ℕ × NodeId)) : Type 0 where
  pub none : Among n (kids_of before) → ⊥
  pub rest : List ℕ
  pub off : IsWithout n p rest behind
  pub stays : without p before ≡ before

pub halves : (n : NodeId) (p : ℕ) (rest : List ℕ) (before behind : List (ℕ × NodeId)) → NoRepeats (places (before ++ behind))
    → places_of n (before ++ behind) ≡ p ∷ rest → IsOffBefore n p before behind ⊎ IsOffBehind n p before behind
halves n p rest before behind once is = go (places_of n before) refl
  where
    go : (ps : List ℕ) → places_of n before ≡ ps → IsOffBefore n p before behind ⊎ IsOffBehind n p before behind
    go [] none =
        let here : places_of n behind ≡ p ∷ rest = sym (ap (λ l. l ++ places_of n behind) none) ∙ sym (places_both n before behind) ∙ is in
        let off = taken_off n p rest behind (once_right before behind once) here in
        inr (record {
          none = not_linked n before none;
          rest = rest;
          off = off;
          stays = without_absent p before (λ a. apart before behind p once a (has_place behind p n off.there));
        })
    go (q ∷ qs) some =
        let both : q ∷ (qs ++ places_of n behind) ≡ p ∷ rest = sym (ap (λ l. l ++ places_of n behind) some) ∙ sym (places_both n before behind) ∙ is in
        let first = head_is q p (qs ++ places_of n behind) rest both in
        let off = taken_off n p qs before (once_left before behind once) (some ∙ ap (λ x. x ∷ qs) first) in
        inl (record {
          rest = qs;
          off = off;
          stays = without_absent p behind (λ b. apart before behind p once (has_place before p n off.there) b);
        })
