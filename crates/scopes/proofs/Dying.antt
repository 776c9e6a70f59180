-- Who stands in scopes and who dies, as the lists tell.
use Rattle.std.proofs.Common.{◌≡◌, ◌≢◌, ◌∙◌, ◌⊎◌, ◌↔◌, ◌+◌, ℕ, suc, zero, List, [], ◌∷◌, ◌++◌, length, refl, ap, sym, subst, inl, inr, arith, slice_index_or}
use Rattle.std.specs.Prelude.{flat_map, sum_by}
use Rattle.std.proofs.lemmas.List.{length-append, length-map}
use Rattle.std.proofs.lemmas.List.Sums.{sum_by-cons}
use Rattle.inc_value.specs.Choice.{Among}
use Rattle.inc_value.specs.declared.node.NodeId.{NodeId}
use Rattle.index_lists.specs.Lists.{Lists, list_at, count, Has}
use Rattle.scopes.specs.declared.member.Member.{Member}
use Rattle.scopes.specs.Scopes.{Scopes, node_count, member, StandsIn, Inside, direct, nested, IsDying, Empties, Gives, Releases, rows, standing_of, killed_of}
use Rattle.scopes.proofs.Sound.{cases_node}

-- the lists as they are seen
abbrev pub view_of : Lists Member → Scopes
view_of v = record { standing = standing_of v.lists; killed = killed_of (list_at v 0) }

length-rows : (lists : List (List (ℕ × Member))) → length (flat_map rows lists) ≡ sum_by length lists
length-rows [] = refl
length-rows (l ∷ lists) =
    length-append (rows l) (flat_map rows lists) ∙ ap (λ n. n + length (flat_map rows lists)) (length-map l (λ e. e.1))
    ∙ ap (λ n. length l + n) (length-rows lists) ∙ sym (sum_by-cons length l lists)

rows_counted : (lists : List (List (ℕ × Member)))
    → length (standing_of lists) + length (killed_of (slice_index_or lists 0 [])) ≡ sum_by length lists
rows_counted [] = refl
rows_counted (l ∷ lists) =
    let n = length-rows lists in
    let m = length-map l (λ e. e.1.node) in
    let k = sum_by-cons (length {A = ℕ × Member}) l lists in omega (arith, n, m, k)

-- there are as many nodes as rows
pub nodes_counted : (v : Lists Member) → node_count (view_of v) ≡ count v
nodes_counted v = rows_counted v.lists

among_first : {A : Type 0} (xs ys : List A) (a : A) → Among a xs → Among a (xs ++ ys)
among_first [] ys a h = absurd h
among_first (x ∷ xs) ys a (inl h) = inl h
among_first (x ∷ xs) ys a (inr h) = inr (among_first xs ys a h)

among_second : {A : Type 0} (xs ys : List A) (a : A) → Among a ys → Among a (xs ++ ys)
among_second [] ys a h = h
among_second (x ∷ xs) ys a h = inr (among_second xs ys a h)

among_either : {A : Type 0} (xs ys : List A) (a : A) → Among a (xs ++ ys) → Among a xs ⊎ Among a ys
among_either [] ys a h = inr h
among_either (x ∷ xs) ys a (inl h) = inl (inl h)
among_either (x ∷ xs) ys a (inr h) = elim (among_either xs ys a h) [ inl b ↦ inl (inr b) | inr c ↦ inr c ]

rows_has : (es : List (ℕ × Member)) (r : Member) → Among r (rows es) → (p : ℕ) × Has es p r
rows_has [] r h = absurd h
rows_has (e ∷ es) r (inl h) = (e.0, inl (refl, sym h))
rows_has (e ∷ es) r (inr h) = let x = rows_has es r h in (x.0, inr x.1)

has_rows : (es : List (ℕ × Member)) (p : ℕ) (r : Member) → Has es p r → Among r (rows es)
has_rows [] p r h = h
has_rows (e ∷ es) p r (inl h) = inl (sym h.1)
has_rows (e ∷ es) p r (inr h) = inr (has_rows es p r h)

flat_has : (lists : List (List (ℕ × Member))) (r : Member) → Among r (flat_map rows lists)
    → (k : ℕ) × (p : ℕ) × Has (slice_index_or lists k []) p r
flat_has [] r h = absurd h
flat_has (l ∷ lists) r h =
    elim (among_either (rows l) (flat_map rows lists) r h) [
      | inl a ↦ (let x = rows_has l r a in (0, x.0, x.1))
      | inr b ↦ (let x = flat_has lists r b in (suc x.0, x.1, x.2))
    ]

has_flat : (lists : List (List (ℕ × Member))) (k p : ℕ) (r : Member) → Has (slice_index_or lists k []) p r
    → Among r (flat_map rows lists)
has_flat [] k p r h = absurd h
has_flat (l ∷ lists) zero p r h = among_first (rows l) (flat_map rows lists) r (has_rows l p r h)
has_flat (l ∷ lists) (suc k) p r h = among_second (rows l) (flat_map rows lists) r (has_flat lists k p r h)

-- who stands in a scope has a row
pub stands_has : (lists : List (List (ℕ × Member))) (r : Member) → Among r (standing_of lists)
    → (k : ℕ) × (p : ℕ) × Has (slice_index_or lists (suc k) []) p r
stands_has [] r h = absurd h
stands_has (d ∷ lists) r h = flat_has lists r h

pub has_stands : (lists : List (List (ℕ × Member))) (k p : ℕ) (r : Member) → Has (slice_index_or lists (suc k) []) p r
    → Among r (standing_of lists)
has_stands [] k p r h = absurd h
has_stands (d ∷ lists) k p r h = has_flat lists k p r h

-- who was killed has a row
pub killed_has : (es : List (ℕ × Member)) (n : NodeId) → Among n (killed_of es)
    → (p : ℕ) × (r : Member) × Has es p r × (r.node ≡ n)
killed_has [] n h = absurd h
killed_has (e ∷ es) n (inl h) = (e.0, e.1, inl (refl, refl), sym h)
killed_has (e ∷ es) n (inr h) = let x = killed_has es n h in (x.0, x.1, inr x.2, x.3)

pub has_killed : (es : List (ℕ × Member)) (n : NodeId) (p : ℕ) (r : Member) → Has es p r → r.node ≡ n
    → Among n (killed_of es)
has_killed [] n p r h e = h
has_killed (x ∷ es) n p r (inl h) e = inl (sym (ap (λ s. s.node) h.1 ∙ e))
has_killed (x ∷ es) n p r (inr h) e = inr (has_killed es n p r h e)

-- the nodes that stood in a scope were killed
pub record Lets (old new : Scopes) (scope : NodeId) : Type 0 where
  pub out : Empties old new scope
  pub killed : (n : NodeId) → Among n new.killed ↔ (Among n old.killed ⊎ StandsIn old n scope)

pub lets_from : (v w : Lists Member) (scope : NodeId) → Releases v w scope → Lets (view_of v) (view_of w) scope
lets_from v w scope r = record {
  out = λ n s. (
    λ h.
        let x = stands_has w.lists (member n s) h in
        let o = (r.out x.0 x.1 (member n s)).0 x.2 in (has_stands v.lists x.0 x.1 (member n s) o.0, o.1),
    λ h.
        let x = stands_has v.lists (member n s) h.0 in
        has_stands w.lists x.0 x.1 (member n s) ((r.out x.0 x.1 (member n s)).1 (x.2, h.1)),
  );
  killed = λ n. (
    λ h.
        let x = killed_has (list_at w 0) n h in
        elim ((r.killed x.0 x.1).0 x.2) [
          | inl a ↦ inl (has_killed (list_at v 0) n x.0 x.1 a x.3)
          | inr b ↦ inr (subst (λ m. Among m (standing_of v.lists))
              (ap (λ m. member m x.1.scope) x.3 ∙ ap (member n) b.2) (has_stands v.lists b.0 x.0 x.1 b.1))
        ],
    λ h. elim h [
      | inl a ↦
          let x = killed_has (list_at v 0) n a in
          has_killed (list_at w 0) n x.0 x.1 ((r.killed x.0 x.1).1 (inl x.2)) x.3
      | inr b ↦
          let x = stands_has v.lists (member n scope) b in
          has_killed (list_at w 0) n x.1 (member n scope)
          ((r.killed x.1 (member n scope)).1 (inr (x.0, x.2, refl))) refl
    ],
  );
}

-- who is inside of one that is inside is inside
inside_more : (s : Scopes) (r q n : NodeId) → Inside s q n → StandsIn s q r → Inside s r n
inside_more s r q n (direct h) is = nested h (direct is)
inside_more s r q n (nested {mid} h i) is = nested h (inside_more s r q mid i is)

-- who is inside stands somewhere
inside_stands : (s : Scopes) (r n : NodeId) → Inside s r n → (scope : NodeId) × StandsIn s n scope
inside_stands s r n (direct h) = (r, h)
inside_stands s r n (nested {mid} h i) = (mid, h)

-- the same nodes stand in the same scopes
inside_same : (s t : Scopes) → s.standing ≡ t.standing → (r n : NodeId) → Inside s r n → Inside t r n
inside_same s t is r n (direct h) = direct (subst (λ l. Among (member n r) l) is h)
inside_same s t is r n (nested {mid} h i) =
    nested (subst (λ l. Among (member n mid) l) is h) (inside_same s t is r mid i)

-- who stands in the scope of one that dies does too
dying_step : (s : Scopes) (n mid : NodeId) → IsDying s mid → StandsIn s n mid → IsDying s n
dying_step s n mid (inl h) is = inr (mid, h, direct is)
dying_step s n mid (inr h) is = inr (h.0, h.1, nested is h.2)

module _ (old new : Scopes) (scope : NodeId) (lets : Lets old new scope) where
  inside_old : (r n : NodeId) → Inside new r n → Inside old r n
  inside_old r n (direct h) = direct ((lets.out n r).0 h).0
  inside_old r n (nested {mid} h i) = nested ((lets.out n mid).0 h).0 (inside_old r mid i)

  -- nobody was killed before
  module _ (none : (n : NodeId) → Among n old.killed → ⊥) where
    kill_to : (n : NodeId) → IsDying new n → Inside old scope n
    kill_to n (inl h) = elim ((lets.killed n).0 h) [ inl a ↦ absurd (none n a) | inr b ↦ direct b ]
    kill_to n (inr h) =
        elim ((lets.killed h.0).0 h.1) [
          | inl a ↦ absurd (none h.0 a)
          | inr b ↦ inside_more old scope h.0 n (inside_old h.0 n h.2) b
        ]

    kill_from : (n : NodeId) → Inside old scope n → IsDying new n
    kill_from n (direct h) = inl ((lets.killed n).1 (inr h))
    kill_from n (nested {mid} h i) =
        elim (cases_node mid scope) [
          | inl same ↦ inl ((lets.killed n).1 (inr (subst (λ m. StandsIn old n m) same h)))
          | inr other ↦ dying_step new n mid (kill_from mid i) ((lets.out n mid).1 (h, other))
        ]

    pub kill_dying : (n : NodeId) → IsDying new n ↔ Inside old scope n
    kill_dying n = (kill_to n, kill_from n)

  -- one that was killed is given, and stands nowhere
  module _ (before : Scopes) (stand : before.standing ≡ old.standing)
      (killed : (n : NodeId) → Among n before.killed ↔ ((n ≡ scope) ⊎ Among n old.killed))
      (apart : Among scope old.killed → ⊥) (nowhere : (s : NodeId) → StandsIn old scope s → ⊥) where
    inside_before : (r n : NodeId) → Inside old r n → Inside before r n
    inside_before = inside_same old before (sym stand)

    other_inside : (r n : NodeId) → Inside old r n → n ≢ scope
    other_inside r n i e =
        let s = inside_stands old r n i in
        nowhere s.0 (subst (λ m. StandsIn old m s.0) e s.1)

    given_to : (n : NodeId) → IsDying new n → IsDying before n × (n ≢ scope)
    given_to n (inl h) =
        elim ((lets.killed n).0 h) [
          | inl a ↦ (inl ((killed n).1 (inr a)), λ e. apart (subst (λ m. Among m old.killed) e a))
          | inr b ↦ (
            inr (scope, (killed scope).1 (inl refl), inside_before scope n (direct b)),
            other_inside scope n (direct b),
          )
        ]
    given_to n (inr h) =
        let inside = inside_old h.0 n h.2 in
        elim ((lets.killed h.0).0 h.1) [
          | inl a ↦ (inr (h.0, (killed h.0).1 (inr a), inside_before h.0 n inside), other_inside h.0 n inside)
          | inr b ↦ (
            inr (scope, (killed scope).1 (inl refl), inside_before scope n (inside_more old scope h.0 n inside b)),
            other_inside h.0 n inside,
          )
        ]

    given_in : (q n : NodeId) → (q ≡ scope) ⊎ Among q old.killed → Inside old q n → IsDying new n
    given_in q n root (direct h) =
        elim (cases_node q scope) [
          | inl same ↦ inl ((lets.killed n).1 (inr (subst (λ m. StandsIn old n m) same h)))
          | inr other ↦ elim root [
            | inl mine ↦ absurd (other mine)
            | inr a ↦ inr (q, (lets.killed q).1 (inl a), direct ((lets.out n q).1 (h, other)))
          ]
        ]
    given_in q n root (nested {mid} h i) =
        dying_step new n mid (given_in q mid root i) ((lets.out n mid).1 (h, other_inside q mid i))

    given_from : (n : NodeId) → IsDying before n → n ≢ scope → IsDying new n
    given_from n (inl h) other =
        elim ((killed n).0 h) [
          | inl mine ↦ absurd (other mine)
          | inr a ↦ inl ((lets.killed n).1 (inl a))
        ]
    given_from n (inr h) other =
        given_in h.0 n ((killed h.0).0 h.1) (inside_same before old stand h.0 n h.2)

    pub given_dying : Gives before new scope
    given_dying n = (given_to n, λ h. given_from n h.0 h.1)
