-- The nodes that died are told: each once, and a scope at the main of each.
use Rattle.std.proofs.Common.{◌≡◌, ◌⊎◌, inl, inr, List, [], ◌∷◌, ◌++◌, map, None, Some, IsSome, refl, sym, ap, subst}
use Rattle.inc_value.specs.Choice.{Among, NoRepeats}
use Rattle.inc_value.specs.declared.node.NodeId.{NodeId}
use Rattle.inc_value.specs.declared.node.Point.{Point}
use Rattle.inc_terms.specs.Depend.{main}
use Rattle.inc_terms.proofs.Plan.{among_left, among_right, among_parts, among_map}
use Rattle.point_map.specs.Rows.{Rows, at, Holds, Changes}
use Rattle.point_map.proofs.Places.{point_cases}
use Rattle.node_lists.specs.Deaths.{AreDeaths}

-- where none is twice and one more comes, none is twice
one_more : {A : Type 0} (xs : List A) (x : A) → NoRepeats xs → (Among x xs → ⊥) → NoRepeats (xs ++ x ∷ [])
one_more [] x h out = (λ a. a, tt)
one_more (y ∷ ys) x h out = (
  λ a. elim (among_parts y ys (x ∷ []) a) [
    | inl i ↦ h.0 i
    | inr l ↦ elim l [ inl e ↦ out (inl (sym e)) | inr i ↦ i ]
  ],
  one_more ys x h.1 (λ a. out (inr a)),
)

-- where none is twice, the last isn't among the others, and none of these is twice
one_less : {A : Type 0} (xs : List A) (x : A) → NoRepeats (xs ++ x ∷ []) → NoRepeats xs × (Among x xs → ⊥)
one_less [] x h = (tt, λ a. a)
one_less (y ∷ ys) x h =
    let rest = one_less ys x h.1 in (
      (λ a. h.0 (among_left y ys (x ∷ []) a), rest.0),
      λ a. elim a [
        | inl e ↦ h.0 (among_right y ys (x ∷ []) (inl (sym e)))
        | inr i ↦ rest.1 i
      ],
    )

-- a node's main is among the mains where the node is among the nodes
node_of : (n : NodeId) (ns : List NodeId) → Among (main n) (map main ns) → Among n ns
node_of n [] h = absurd h
node_of n (x ∷ xs) (inl e) = inl (ap (λ (p : Point). p.node) e)
node_of n (x ∷ xs) (inr h) = inr (node_of n xs h)

main_more : (p : Point) (ns : List NodeId) (n : NodeId) → Among p (map main ns) ⊎ (p ≡ main n) → Among p (map main (ns ++ n ∷ []))
main_more p [] n (inl h) = absurd h
main_more p [] n (inr e) = inl e
main_more p (x ∷ xs) n (inl h) = elim h [ inl e ↦ inl e | inr i ↦ inr (main_more p xs n (inl i)) ]
main_more p (x ∷ xs) n (inr e) = inr (main_more p xs n (inr e))

main_less : (p : Point) (ns : List NodeId) (n : NodeId) → Among p (map main (ns ++ n ∷ [])) → Among p (map main ns) ⊎ (p ≡ main n)
main_less p [] n h = elim h [ inl e ↦ inr e | inr i ↦ absurd i ]
main_less p (x ∷ xs) n (inl e) = inl (inl e)
main_less p (x ∷ xs) n (inr h) = elim (main_less p xs n h) [ inl i ↦ inl (inr i) | inr e ↦ inr e ]

-- a node has a scope exactly where it died
pub told_node : (ns : List NodeId) (s : Rows NodeId) → AreDeaths ns s → (n : NodeId)
    → (Holds s (main n) → Among n ns) × (Among n ns → Holds s (main n))
told_node ns s told n =
    (λ h. node_of n ns ((told.rows (main n)).0 h), λ a. (told.rows (main n)).1 (among_map main n ns a))

-- the last one that died has a scope
pub last_told : (ns : List NodeId) (n : NodeId) (s : Rows NodeId) → AreDeaths (ns ++ n ∷ []) s → Holds s (main n)
last_told ns n s told = (told.rows (main n)).1 (main_more (main n) ns n (inr refl))

-- one more dies
pub told_added : (ns : List NodeId) (n b : NodeId) (s s' : Rows NodeId) → AreDeaths ns s → at s (main n) ≡ None
    → Changes s s' (main n) (Some b) → AreDeaths (ns ++ n ∷ []) s'
told_added ns n b s s' told absent changes = record {
  once = one_more ns n told.once (λ a. let e = subst IsSome absent ((told_node ns s told n).1 a) in absurd (cc));
  rows = λ p. (
    λ h. elim (point_cases p (main n)) [
      | inl e ↦ main_more p ns n (inr e)
      | inr d ↦ main_more p ns n (inl ((told.rows p).0 (subst IsSome (changes.others p d) h)))
    ],
    λ a. elim (point_cases p (main n)) [
      | inl e ↦ subst (Holds s') (sym e) (subst IsSome (sym changes.changed) refl)
      | inr d ↦ elim (main_less p ns n a) [
        | inl i ↦ subst IsSome (sym (changes.others p d)) ((told.rows p).1 i)
        | inr e ↦ absurd (d e)
      ]
    ],
  );
}

-- the last one is taken off
pub told_popped : (ns : List NodeId) (n : NodeId) (s s' : Rows NodeId) → AreDeaths (ns ++ n ∷ []) s
    → Changes s s' (main n) None → AreDeaths ns s'
told_popped ns n s s' told changes =
    let less = one_less ns n told.once in
    record {
      once = less.0;
      rows = λ p. (
        λ h. elim (point_cases p (main n)) [
          | inl e ↦ let x = subst IsSome changes.changed (subst (Holds s') e h) in absurd (cc)
          | inr d ↦ elim (main_less p ns n ((told.rows p).0 (subst IsSome (changes.others p d) h))) [
            | inl i ↦ i
            | inr e ↦ absurd (d e)
          ]
        ],
        λ a. elim (point_cases p (main n)) [
          | inl e ↦ absurd (less.1 (node_of n ns (subst (λ q. Among q (map main ns)) e a)))
          | inr d ↦ subst IsSome (sym (changes.others p d)) ((told.rows p).1 (main_more p ns n (inl a)))
        ],
      );
    }
