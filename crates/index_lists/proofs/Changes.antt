-- What a contract sees after a push and a removal.
use Rattle.std.proofs.Common.{◌≡◌, ◌≢◌, ◌∙◌, ◌⊎◌, ℕ, zero, suc, ◌+◌, ◌<◌, ◌≤◌, List, [], ◌∷◌, ◌++◌, length, map, refl, ap, sym, subst, inl, inr, arith, cond, not, nat_eq, replicate, take_all}
use Rattle.std.specs.Prelude.{Result, Ok, Err, is_ok, OnOk, take, ◌-◌, if◌then◌else◌, Option, Some, None, slice_index_or, slice_set, option_map, slice_get, sum_by}
use Rattle.std.proofs.Math.ListN.{get_or-map}
use Rattle.std.proofs.lemmas.Bool.{cases_eq, ne_eqb, eq-eqb, cases_lt}
use Rattle.std.proofs.lemmas.List.{get_or_past, length-map, length-set, get_or-set_same, get_or-set_other, ext_get_or, map-append}
use Rattle.std.proofs.lemmas.List.Sums.{sum_by-set, sum_by-append}
use Rattle.std.proofs.lemmas.List.Folds.{sum_by-replicate}
use Rattle.index_lists.specs.declared.link.Link.{Link}
use Rattle.index_lists.specs.declared.link.Ends.{Ends}
use Rattle.index_lists.specs.Links.{Leads, rows_from, after_set, before_set, first_set, last_set}
use Rattle.index_lists.specs.Lists.{Among, NoRepeats, places, Has, without, links_at, no_ends, ends_at, IsLinked, rows_of}
use Rattle.index_lists.proofs.Leading.{link, some_is, not_some, skip, skip_same, skip_other, start, leads_same, leads_on, leads_off, has_link, has_among, among_link, last_among, before_is, after_is, after_other, before_other, same_link, same_some, without_none, without_head, without_other}
use Rattle.index_lists.proofs.Seen.{seen_at, rows_none}

-- an index within a list, whatever stands in for a missing one
pub index_is : {A : Type 0} (xs : List A) (i : ℕ) (x d : A) → i < length xs → x ≡ slice_index_or xs i x
    → slice_index_or xs i d ≡ x
index_is [] i x d lt h = absurd (omega (arith, lt))
index_is (y ∷ ys) zero x d lt h = sym h
index_is (y ∷ ys) (suc i) x d lt h = index_is ys i x d (omega (arith, lt)) h

module _ {R : Type 0} where
  -- the rows of each list, with others in one
  abbrev pub rows_with : (ℕ → List (ℕ × R)) → ℕ → List (ℕ × R) → ℕ → List (ℕ × R)
  rows_with rows list es other = cond (nat_eq other list) es (rows other)

  pub with_same : (rows : ℕ → List (ℕ × R)) (list : ℕ) (es : List (ℕ × R)) → rows_with rows list es list ≡ es
  with_same rows list es = ap (λ t. cond t es (rows list)) (eq-eqb list list refl)

  pub with_other : (rows : ℕ → List (ℕ × R)) (list : ℕ) (es : List (ℕ × R)) (other : ℕ) → other ≢ list
      → rows_with rows list es other ≡ rows other
  with_other rows list es other differs = ap (λ t. cond t es (rows other)) (ne_eqb other list differs)

  -- the places round a list's rows are of that list
  other_list : (look : ℕ → Option (Link R)) (list other k : ℕ) (before from last to before' from' last' to' : Option ℕ)
      (es fs : List (ℕ × R)) → other ≢ list
      → Leads look list before from es last to → Among (places es) k → Leads look other before' from' fs last' to'
      → Among (places fs) k → ⊥
  other_list look list other k before from last to before' from' last' to' es fs differs h a h' a' =
      let l = among_link look list before from last to es k h a in
      let m = among_link look other before' from' last' to' fs k h' a' in
      differs (same_link (look k) other list m.2 l.2 m.3 l.3 m.0 l.0 m.4 l.4).0

  among_on : (es : List (ℕ × R)) (place k : ℕ) (row : R) → Among (places (es ++ (place, row) ∷ [])) k
      → Among (places es) k ⊎ (place ≡ k)
  among_on [] place k row (inl same) = inr same
  among_on [] place k row (inr a) = absurd a
  among_on (e ∷ es) place k row (inl same) = inl (inl same)
  among_on (e ∷ es) place k row (inr a) =
      elim (among_on es place k row a) [
        | inl b ↦ inl (inr b)
        | inr same ↦ inr same
      ]

  no_repeats_on : (es : List (ℕ × R)) (place : ℕ) (row : R) → NoRepeats (places es) → (Among (places es) place → ⊥)
      → NoRepeats (places (es ++ (place, row) ∷ []))
  no_repeats_on [] place row once never = (λ a. a, tt)
  no_repeats_on (e ∷ es) place row once never = (
    λ a. elim (among_on es place e.0 row a) [
      | inl b ↦ once.0 b
      | inr same ↦ never (inl (sym same))
    ],
    no_repeats_on es place row once.1 (λ a. never (inr a)),
  )

  among_without : (es : List (ℕ × R)) (place k : ℕ) → Among (places (without place es)) k → Among (places es) k
  among_without [] place k a = a
  among_without (e ∷ es) place k a =
      elim (cases_eq e.0 place) [
        | inl same ↦ inr (among_without es place k
            (subst (λ t. Among (places (cond (not t) (e ∷ without place es) (without place es))) k)
            (eq-eqb e.0 place same) a))
        | inr differs ↦ elim (subst (λ xs. Among (places xs) k) (without_other place e es differs) a) [
          | inl here ↦ inl here
          | inr later ↦ inr (among_without es place k later)
        ]
      ]

  -- a place that is off
  gone : (es : List (ℕ × R)) (place : ℕ) → Among (places (without place es)) place → ⊥
  gone [] place a = a
  gone (e ∷ es) place a =
      elim (cases_eq e.0 place) [
        | inl same ↦ gone es place (subst (λ t. Among (places (cond (not t) (e ∷ without place es) (without place es))) place)
            (eq-eqb e.0 place same) a)
        | inr differs ↦ elim (subst (λ xs. Among (places xs) place) (without_other place e es differs) a) [
          | inl here ↦ differs here
          | inr later ↦ gone es place later
        ]
      ]

  no_repeats_off : (es : List (ℕ × R)) (place : ℕ) → NoRepeats (places es) → NoRepeats (places (without place es))
  no_repeats_off [] place once = tt
  no_repeats_off (e ∷ es) place once =
      elim (cases_eq e.0 place) [
        | inl same ↦ subst (λ t. NoRepeats (places (cond (not t) (e ∷ without place es) (without place es))))
            (sym (eq-eqb e.0 place same)) (no_repeats_off es place once.1)
        | inr differs ↦ subst (λ xs. NoRepeats (places xs)) (sym (without_other place e es differs))
            ((λ a. once.0 (among_without es place e.0 a)), no_repeats_off es place once.1)
      ]

  -- one row fewer
  pub length_off : (es : List (ℕ × R)) (place : ℕ) → NoRepeats (places es) → Among (places es) place
      → length (without place es) + 1 ≡ length es
  length_off [] place once a = absurd a
  length_off (e ∷ es) place once (inl same) =
      rw (without_head place e es same (λ a. once.0 (subst (λ k. Among (places es) k) (sym same) a))) (omega arith)
  length_off (e ∷ es) place once (inr a) =
      let shorter = length_off es place once.1 a in
      rw (without_other place e es (λ same. once.0 (subst (λ k. Among (places es) k) (sym same) a))) (omega (arith, shorter))

  pub length_on : (es : List (ℕ × R)) (e : ℕ × R) → length (es ++ e ∷ []) ≡ length es + 1
  length_on [] e = omega arith
  length_on (f ∷ es) e = let l = length_on es e in omega (arith, l)

  -- a row is put behind the others of a list
  module _ (ends : List Ends) (look inserted new : ℕ → Option (Link R)) (list place : ℕ) (row : R) (end : Ends)
      (links : IsLinked ends look)
      (wide : list < length ends) (vacant : look place ≡ None)
      (put : inserted place ≡ Some (link list (ends_at ends list).last None row))
      (kept : (k : ℕ) → k ≢ place → inserted k ≡ look k)
      (changed : (k : ℕ) → new k ≡ after_set (ends_at ends list).last (Some place) k (inserted k))
      (end_is : end ≡ last_set None (Some place) (first_set (ends_at ends list).last (Some place) (ends_at ends list))) where
    abbrev was : Ends
    was = ends_at ends list

    abbrev pub rows_on : ℕ → List (ℕ × R)
    rows_on = rows_with links.rows list (links.rows list ++ (place, row) ∷ [])

    never_on : (other : ℕ) → Among (places (links.rows other)) place → ⊥
    never_on other a =
        let at = ends_at ends other in
        let l = among_link look other None at.first at.last None (links.rows other) place (links.leads other) a in
        let e : ◌≡◌ {A = Option (Link R)} None (Some (link other l.2 l.3 l.0)) = sym vacant ∙ l.4 in cc

    last_on : (es : List (ℕ × R)) → Leads look list None was.first es was.last None
        → ((was.last ≡ None) × (was.first ≡ None) × (es ≡ []))
        ⊎ ((k : ℕ) × (was.last ≡ Some k) × (Among (places es) k) × ((x y : Option ℕ) → start es x y ≡ y))
    last_on [] h = inl (sym h.1, h.0, refl)
    last_on (e ∷ es) h = let m = last_among look list None was.first was.last None e es h in inr (m.0, m.1, m.2, λ x y. refl)

    first_on : end.first ≡ start (links.rows list) (Some place) was.first
    first_on =
        ap (λ e. e.first) end_is
        ∙ elim (last_on (links.rows list) (links.leads list)) [
          | inl none ↦ ap (λ l. (first_set l (Some place) was).first) none.0 ∙ ap (λ es. start es (Some place) was.first) (sym none.2)
          | inr some ↦ ap (λ l. (first_set l (Some place) was).first) some.1 ∙ sym (some.3 (Some place) was.first)
        ]

    last_not : was.last ≢ Some place
    last_not is =
        elim (last_on (links.rows list) (links.leads list)) [
          | inl none ↦ not_some place (sym none.0 ∙ is)
          | inr some ↦ never_on list (subst (λ k. Among (places (links.rows list)) k) (some_is some.0 place (sym some.1 ∙ is)) some.2)
        ]

    here_on : Leads new list None end.first (rows_on list) end.last None
    here_on =
        rw (with_same links.rows list (links.rows list ++ (place, row) ∷ []), first_on, end_is)
        (leads_on look new list place row None was.first was.last (links.rows list)
        (changed place ∙ after_other was.last (Some place) place (inserted place) last_not ∙ put)
        (λ k differs. changed k ∙ ap (after_set was.last (Some place) k) (kept k differs))
        (links.leads list) (links.once list) (never_on list))

    other_on : (other : ℕ) → other ≢ list → Leads new other None (ends_at ends other).first (links.rows other)
        (ends_at ends other).last None
    other_on other differs =
        leads_same look new other None (ends_at ends other).first (ends_at ends other).last None (links.rows other)
        (λ k a. changed k ∙ after_other was.last (Some place) k (inserted k)
        (λ is. elim (last_on (links.rows list) (links.leads list)) [
          | inl none ↦ not_some k (sym none.0 ∙ is)
          | inr some ↦ other_list look list other k None was.first was.last None None (ends_at ends other).first (ends_at ends other).last None
              (links.rows list) (links.rows other) differs (links.leads list)
              (subst (λ x. Among (places (links.rows list)) x) (some_is some.0 k (sym some.1 ∙ is)) some.2)
              (links.leads other) a
        ])
        ∙ kept k (λ same. never_on other (subst (λ x. Among (places (links.rows other)) x) same a)))
        (links.leads other)

    pub linked_on : IsLinked (slice_set ends list end) new
    linked_on = record {
      rows = rows_on;
      leads = λ other. elim (cases_eq other list) [
        | inl same ↦ rw (same, get_or-set_same ends list end no_ends wide) here_on
        | inr differs ↦
            let rows = with_other links.rows list (links.rows list ++ (place, row) ∷ []) other differs in
            rw (rows, get_or-set_other ends list other end no_ends differs) (other_on other differs)
      ];
      once = λ other. elim (cases_eq other list) [
        | inl same ↦ rw (same, with_same links.rows list (links.rows list ++ (place, row) ∷ []))
            (no_repeats_on (links.rows list) place row (links.once list) (never_on list))
        | inr differs ↦ rw (with_other links.rows list (links.rows list ++ (place, row) ∷ []) other differs) (links.once other)
      ];
    }

  -- a row is taken off its list
  module _ (ends : List Ends) (look removed new : ℕ → Option (Link R)) (list place : ℕ) (b a : Option ℕ) (row : R)
      (end : Ends) (links : IsLinked ends look)
      (there : Among (places (links.rows list)) place) (at : look place ≡ Some (link list b a row))
      (off : removed place ≡ None)
      (kept : (k : ℕ) → k ≢ place → removed k ≡ look k)
      (changed : (k : ℕ) → new k ≡ before_set a b k (after_set b a k (removed k)))
      (end_is : end ≡ last_set a b (first_set b a (ends_at ends list))) where
    abbrev had : Ends
    had = ends_at ends list

    abbrev pub rows_off : ℕ → List (ℕ × R)
    rows_off = rows_with links.rows list (without place (links.rows list))

    lead_off : Leads look list None had.first (links.rows list) had.last None
    lead_off = links.leads list

    bef : ((b ≡ None) × (had.first ≡ Some place))
        ⊎ ((k : ℕ) × (b ≡ Some k) × (Among (places (links.rows list)) k) × (had.first ≢ Some place))
    bef = before_is look list None had.first had.last None (links.rows list) place b a row lead_off (links.once list) there at

    aft : ((a ≡ None) × (had.last ≡ Some place))
        ⊎ ((k : ℕ) × (a ≡ Some k) × (Among (places (links.rows list)) k) × (had.last ≢ Some place))
    aft = after_is look list None had.first had.last None (links.rows list) place b a row lead_off (links.once list) there at

    first_off : (first_set b a had).first ≡ skip place a had.first
    first_off =
        elim bef [
          | inl begins ↦ ap (λ x. (first_set x a had).first) begins.0 ∙ sym (ap (skip place a) begins.1 ∙ skip_same place a)
          | inr other ↦ ap (λ x. (first_set x a had).first) other.1 ∙ sym (skip_other place a had.first other.3)
        ]

    last_first : (first_set b a had).last ≡ had.last
    last_first =
        elim bef [
          | inl begins ↦ ap (λ x. (first_set x a had).last) begins.0
          | inr other ↦ ap (λ x. (first_set x a had).last) other.1
        ]

    first_end : end.first ≡ skip place a had.first
    first_end =
        ap (λ e. e.first) end_is
        ∙ elim aft [
          | inl ends ↦ ap (λ x. (last_set x b (first_set b a had)).first) ends.0
          | inr other ↦ ap (λ x. (last_set x b (first_set b a had)).first) other.1
        ]
        ∙ first_off

    last_end : end.last ≡ skip place b had.last
    last_end =
        ap (λ e. e.last) end_is
        ∙ elim aft [
          | inl ends ↦ ap (λ x. (last_set x b (first_set b a had)).last) ends.0 ∙ sym (ap (skip place b) ends.1 ∙ skip_same place b)
          | inr other ↦ ap (λ x. (last_set x b (first_set b a had)).last) other.1 ∙ last_first ∙ sym (skip_other place b had.last other.3)
        ]

    here_off : Leads new list None end.first (rows_off list) end.last None
    here_off =
        rw (with_same links.rows list (without place (links.rows list)), first_end, last_end)
        (leads_off look new list place b a row at
        (λ k differs. changed k ∙ ap (λ l. before_set a b k (after_set b a k l)) (kept k differs))
        None had.first had.last (links.rows list) lead_off (links.once list) there (λ k is. absurd (not_some k is)))

    other_off : (other : ℕ) → other ≢ list → Leads new other None (ends_at ends other).first (links.rows other)
        (ends_at ends other).last None
    other_off other differs =
        leads_same look new other None (ends_at ends other).first (ends_at ends other).last None (links.rows other)
        (λ k among.
        let apart = λ (j : ℕ) (x : Among (places (links.rows list)) j) (same : j ≡ k).
        other_list look list other k None had.first had.last None None (ends_at ends other).first (ends_at ends other).last None
        (links.rows list) (links.rows other) differs lead_off (subst (λ y. Among (places (links.rows list)) y) same x)
        (links.leads other) among in
        changed k
        ∙ before_other a b k (after_set b a k (removed k))
        (λ is. elim aft [ inl ends ↦ not_some k (sym ends.0 ∙ is) | inr o ↦ apart o.0 o.2 (some_is o.0 k (sym o.1 ∙ is)) ])
        ∙ after_other b a k (removed k)
        (λ is. elim bef [ inl begins ↦ not_some k (sym begins.0 ∙ is) | inr o ↦ apart o.0 o.2 (some_is o.0 k (sym o.1 ∙ is)) ])
        ∙ kept k (λ same. apart place there (sym same)))
        (links.leads other)

    empty_past : (es : List (ℕ × R)) → length ends ≤ list → Leads look list None had.first es had.last None
        → Among (places es) place → ⊥
    empty_past [] past h among = among
    empty_past (e ∷ es) past h among = not_some e.0 (sym (ap (λ x. x.first) (get_or_past ends list no_ends past)) ∙ h.0)

    pub wide_off : list < length ends
    wide_off =
        elim (cases_lt list (length ends)) [
          | inl lt ↦ lt
          | inr past ↦ absurd (empty_past (links.rows list) past lead_off there)
        ]

    pub linked_off : IsLinked (slice_set ends list end) new
    linked_off = record {
      rows = rows_off;
      leads = λ other. elim (cases_eq other list) [
        | inl same ↦ rw (same, get_or-set_same ends list end no_ends wide_off) here_off
        | inr differs ↦
            let rows = with_other links.rows list (without place (links.rows list)) other differs in
            rw (rows, get_or-set_other ends list other end no_ends differs) (other_off other differs)
      ];
      once = λ other. elim (cases_eq other list) [
        | inl same ↦ rw (same, with_same links.rows list (without place (links.rows list)))
            (no_repeats_off (links.rows list) place (links.once list))
        | inr differs ↦ rw (with_other links.rows list (without place (links.rows list)) other differs) (links.once other)
      ];
    }

  -- each list is seen
  pub length-rows_of : (ends : List Ends) (slots : List (Option (Link R))) → length (rows_of ends slots) ≡ length ends
  length-rows_of ends slots = length-map ends (λ e. rows_from (links_at slots) (length slots) e.first)

  -- one list is seen with other rows
  pub rows_set : (ends end' : List Ends) (slots slots' : List (Option (Link R)))
      (links : IsLinked ends (links_at slots)) (links' : IsLinked end' (links_at slots'))
      (list : ℕ) (es : List (ℕ × R)) → length end' ≡ length ends → list < length ends
      → ((other : ℕ) → links'.rows other ≡ rows_with links.rows list es other)
      → rows_of end' slots' ≡ slice_set (rows_of ends slots) list es
  rows_set ends end' slots slots' links links' list es wide lt rows =
      ext_get_or [] (rows_of end' slots') (slice_set (rows_of ends slots) list es)
      (length-rows_of end' slots' ∙ wide ∙ sym (length-rows_of ends slots) ∙ sym (length-set (rows_of ends slots) list es))
      (λ i h. elim (cases_eq i list) [
        | inl same ↦ rw same (seen_at end' slots' links' list ∙ rows list ∙ with_same links.rows list es
            ∙ sym (get_or-set_same (rows_of ends slots) list es [] (subst (λ n. list < n) (sym (length-rows_of ends slots)) lt)))
        | inr differs ↦ seen_at end' slots' links' i ∙ rows i ∙ with_other links.rows list es i differs ∙ sym (seen_at ends slots links i)
            ∙ sym (get_or-set_other (rows_of ends slots) list i es [] differs)
      ])

  -- the lists are seen without the row
  pub rows_without : (ends end' : List Ends) (slots slots' : List (Option (Link R)))
      (links : IsLinked ends (links_at slots)) (links' : IsLinked end' (links_at slots'))
      (list place : ℕ) → length end' ≡ length ends → Among (places (links.rows list)) place
      → ((other : ℕ) → links'.rows other ≡ rows_with links.rows list (without place (links.rows list)) other)
      → rows_of end' slots' ≡ map (without place) (rows_of ends slots)
  rows_without ends end' slots slots' links links' list place wide there rows =
      ext_get_or [] (rows_of end' slots') (map (without place) (rows_of ends slots))
      (length-rows_of end' slots' ∙ wide ∙ sym (length-rows_of ends slots) ∙ sym (length-map (rows_of ends slots) (without place)))
      (λ i h.
      seen_at end' slots' links' i ∙ rows i
      ∙ elim (cases_eq i list) [
        | inl same ↦ rw same (with_same links.rows list (without place (links.rows list)))
        | inr differs ↦ with_other links.rows list (without place (links.rows list)) i differs
            ∙ sym (without_none place (links.rows i) (λ a.
            other_list (links_at slots) list i place None (ends_at ends list).first (ends_at ends list).last None
            None (ends_at ends i).first (ends_at ends i).last None (links.rows list) (links.rows i) differs
            (links.leads list) there (links.leads i) a))
      ]
      ∙ ap (without place) (sym (seen_at ends slots links i))
      ∙ sym (get_or-map (without place) (rows_of ends slots) i []))

  -- a list that is seen has ends
  pub wide_ends : (ends : List Ends) (slots : List (Option (Link R))) (lists : List (List (ℕ × R))) (list : ℕ)
      → rows_of ends slots ≡ lists → list < length lists → list < length ends
  wide_ends ends slots lists list is lt =
      subst (λ n. list < n) (length-rows_of ends slots)
      (subst (λ ls. list < length ls) (sym is) lt)

  -- how many rows there are
  pub count_set : (lists : List (List (ℕ × R))) (list : ℕ) (es : List (ℕ × R)) → list < length lists
      → sum_by length (slice_set lists list es) + length (slice_index_or lists list [])
      ≡ sum_by length lists + length es
  count_set lists list es lt = sum_by-set length lists list es [] lt

  -- no lists have rows
  pub links_empty : (ends : List Ends) (look : ℕ → Option (Link R)) → ((list : ℕ) → ends_at ends list ≡ no_ends)
      → IsLinked ends look
  links_empty ends look none = record {
    rows = λ list. [];
    leads = λ list. (ap (λ e. e.first) (none list), sym (ap (λ e. e.last) (none list)));
    once = λ list. tt;
  }

  -- what stands after a push
  pub record Pushed (ends end' : List Ends) (slots slots' : List (Option (Link R))) (list : ℕ) (place : ℕ)
      (row : R) : Type 0 where
    pub linked : IsLinked end' (links_at slots')
    pub lists : rows_of end' slots' ≡ slice_set (rows_of ends slots) list
        (slice_index_or (rows_of ends slots) list [] ++ (place, row) ∷ [])
    pub counted : sum_by length (rows_of end' slots') ≡ sum_by length (rows_of ends slots) + 1

  pub pushed : (ends : List Ends) (slots slots' : List (Option (Link R))) (inserted : ℕ → Option (Link R))
      (list place : ℕ) (row : R) (was end : Ends)
      → IsLinked ends (links_at slots) → list < length ends → was ≡ slice_index_or ends list was
      → links_at slots place ≡ None
      → inserted place ≡ Some (link list was.last None row)
      → ((k : ℕ) → k ≢ place → inserted k ≡ links_at slots k)
      → ((k : ℕ) → links_at slots' k ≡ after_set was.last (Some place) k (inserted k))
      → end ≡ last_set None (Some place) (first_set was.last (Some place) was)
      → Pushed ends (slice_set ends list end) slots slots' list place row
  unfolding linked_on
  pushed ends slots slots' inserted list place row was end links wide was_is vacant put kept changed end_is =
      let at : ends_at ends list ≡ was = index_is ends list was no_ends wide was_is in
      let new = linked_on ends (links_at slots) inserted (links_at slots') list place row end links wide vacant
      (subst (λ w. inserted place ≡ Some (link list w.last None row)) (sym at) put) kept
      (λ k. subst (λ w. links_at slots' k ≡ after_set w.last (Some place) k (inserted k)) (sym at) (changed k))
      (subst (λ w. end ≡ last_set None (Some place) (first_set w.last (Some place) w)) (sym at) end_is) in
      let old = slice_index_or (rows_of ends slots) list [] in
      let lists : rows_of (slice_set ends list end) slots' ≡ slice_set (rows_of ends slots) list (old ++ (place, row) ∷ []) =
      rows_set ends (slice_set ends list end) slots slots' links new list (old ++ (place, row) ∷ []) (length-set ends list end) wide
      (λ other. ap (λ es. rows_with links.rows list (es ++ (place, row) ∷ []) other) (sym (seen_at ends slots links list))) in
      let counts = count_set (rows_of ends slots) list (old ++ (place, row) ∷ [])
      (subst (λ n. list < n) (sym (length-rows_of ends slots)) wide) in
      let longer = length_on old (place, row) in
      record {
        linked = new;
        lists = lists;
        counted = rw lists (omega (arith, counts, longer));
      }

  -- what stands after a removal
  pub record Taken (ends end' : List Ends) (slots slots' : List (Option (Link R))) (place : ℕ) : Type 0 where
    pub linked : IsLinked end' (links_at slots')
    pub lists : rows_of end' slots' ≡ map (without place) (rows_of ends slots)
    pub counted : sum_by length (rows_of end' slots') + 1 ≡ sum_by length (rows_of ends slots)

  -- the list of a row that is seen
  pub own_list : (ends : List Ends) (slots : List (Option (Link R))) (list place : ℕ) (row : R) (l : Link R)
      → IsLinked ends (links_at slots)
      → Has (slice_index_or (rows_of ends slots) list []) place row → links_at slots place ≡ Some l
      → (l.list ≡ list) × (l.row ≡ row)
  own_list ends slots list place row l links has is =
      let h = subst (λ es. Has es place row) (seen_at ends slots links list) has in
      let at = ends_at ends list in
      let k = has_link (links_at slots) list None at.first at.last None (links.rows list) place row (links.leads list) h in
      let e = same_some l (link list k.0 k.1 row) (sym is ∙ k.2) in
      (ap (λ x. x.list) e, ap (λ x. x.row) e)

  pub has_slot : (ends : List Ends) (slots : List (Option (Link R))) (list place : ℕ) (row : R)
      → IsLinked ends (links_at slots)
      → Has (slice_index_or (rows_of ends slots) list []) place row → (l : Link R) × (links_at slots place ≡ Some l)
  has_slot ends slots list place row links has =
      let h = subst (λ es. Has es place row) (seen_at ends slots links list) has in
      let at = ends_at ends list in
      let k = has_link (links_at slots) list None at.first at.last None (links.rows list) place row (links.leads list) h in
      (link list k.0 k.1 row, k.2)

  pub wide_has : (ends : List Ends) (slots : List (Option (Link R))) (list place : ℕ) (row : R)
      → Has (slice_index_or (rows_of ends slots) list []) place row → list < length ends
  wide_has ends slots list place row has =
      elim (cases_lt list (length ends)) [
        | inl lt ↦ lt
        | inr past ↦ absurd (subst (λ es. Has es place row)
            (get_or_past (rows_of ends slots) list [] (subst (λ n. n ≤ list) (sym (length-rows_of ends slots)) past)) has)
      ]

  pub taken : (ends : List Ends) (slots slots' : List (Option (Link R))) (removed : ℕ → Option (Link R))
      (list place : ℕ) (row : R) (l : Link R) (was end : Ends)
      → IsLinked ends (links_at slots) → Has (slice_index_or (rows_of ends slots) list []) place row
      → links_at slots place ≡ Some l
      → was ≡ slice_index_or ends l.list was
      → removed place ≡ None
      → ((k : ℕ) → k ≢ place → removed k ≡ links_at slots k)
      → ((k : ℕ) → links_at slots' k ≡ before_set l.after l.before k (after_set l.before l.after k (removed k)))
      → end ≡ last_set l.after l.before (first_set l.before l.after was)
      → Taken ends (slice_set ends l.list end) slots slots' place
  unfolding linked_off
  taken ends slots slots' removed list place row l was end links has at was_is off kept changed end_is =
      let own = own_list ends slots list place row l links has at in
      let wide : l.list < length ends = subst (λ n. n < length ends) (sym own.0) (wide_has ends slots list place row has) in
      let was_at : ends_at ends l.list ≡ was = index_is ends l.list was no_ends wide was_is in
      let seen = subst (λ es. Has es place row) (seen_at ends slots links list) has in
      let there : Among (places (links.rows l.list)) place = subst (λ n. Among (places (links.rows n)) place) (sym own.0)
      (has_among (links.rows list) place row seen) in
      let new = linked_off ends (links_at slots) removed (links_at slots') l.list place l.before l.after l.row end links
      there at off kept changed
      (subst (λ w. end ≡ last_set l.after l.before (first_set l.before l.after w)) (sym was_at) end_is) in
      let es = without place (links.rows l.list) in
      let end' = slice_set ends l.list end in
      let same_length = length-set ends l.list end in
      let lists = rows_without ends end' slots slots' links new l.list place same_length there (λ other. refl) in
      let set = rows_set ends end' slots slots' links new l.list es same_length wide (λ other. refl) in
      let counts = count_set (rows_of ends slots) l.list es
      (subst (λ n. l.list < n) (sym (length-rows_of ends slots)) wide) in
      let shorter = length_off (links.rows l.list) place (links.once l.list) there in
      let same = ap length (seen_at ends slots links l.list) in
      record {
        linked = new;
        lists = lists;
        counted = rw set (omega (arith, counts, shorter, same));
      }

module _ {R : Type 0} where
  first_from : (look : ℕ → Option (Link R)) (list : ℕ) (before from last : Option ℕ) (es : List (ℕ × R))
      → Leads look list before from es last None → from ≡ option_map (λ e. e.0) (slice_get es 0)
  first_from look list before from last [] h = h.0
  first_from look list before from last (e ∷ es) h = h.0

  -- the first place of a list
  pub first_seen : (ends : List Ends) (slots : List (Option (Link R))) (list : ℕ) → IsLinked ends (links_at slots)
      → (ends_at ends list).first ≡ option_map (λ e. e.0) (slice_get (slice_index_or (rows_of ends slots) list []) 0)
  first_seen ends slots list links =
      first_from (links_at slots) list None (ends_at ends list).first (ends_at ends list).last (links.rows list) (links.leads list)
      ∙ ap (λ es. option_map (λ e. e.0) (slice_get es 0)) (sym (seen_at ends slots links list))

module _ {R : Type 0} where
  -- a list that begins at a place
  begins : (place : ℕ) (es : List (ℕ × R)) → option_map (λ e. e.0) (slice_get es 0) ≡ Some place
      → (row : R) × (rest : List (ℕ × R)) × (es ≡ (place, row) ∷ rest)
  begins place [] h = absurd (not_some place h)
  begins place (e ∷ es) h = (e.1, es, ap (λ k. (k, e.1) ∷ es) (some_is e.0 place h))

  empty_from : (es : List (ℕ × R)) → option_map (λ e. e.0) (slice_get es 0) ≡ None → es ≡ []
  empty_from [] h = refl
  empty_from (e ∷ es) h = absurd (not_some e.0 (sym h))

  -- what stands once the first row of a list is taken off
  pub record Front (lists : List (List (ℕ × R))) (list place : ℕ) : Type 0 where
    pub row : R
    pub rest : List (ℕ × R)
    pub was : slice_index_or lists list [] ≡ (place, row) ∷ rest
    pub has : Has (slice_index_or lists list []) place row
    pub popped : map (without place) lists ≡ slice_set lists list rest
    pub vacant : (other : ℕ) (there : R) → Has (slice_index_or (map (without place) lists) other []) place there → ⊥

  pub front : (ends : List Ends) (slots : List (Option (Link R))) (list place : ℕ) → IsLinked ends (links_at slots)
      → list < length ends
      → (ends_at ends list).first ≡ Some place → Front (rows_of ends slots) list place
  front ends slots list place links wide first =
      let lists = rows_of ends slots in
      let b = begins place (slice_index_or lists list []) (sym (first_seen ends slots list links) ∙ first) in
      let own = sym (seen_at ends slots links list) ∙ b.2 in
      let once : NoRepeats (places ((place, b.0) ∷ b.1)) = subst (λ es. NoRepeats (places es)) own (links.once list) in
      let there : Among (places (links.rows list)) place = subst (λ es. Among (places es) place) (sym own) (inl refl) in
      let popped : (other : ℕ) → without place (slice_index_or lists other []) ≡ slice_index_or (slice_set lists list b.1) other [] =
      λ other. elim (cases_eq other list) [
        | inl same ↦ rw same (ap (without place) b.2 ∙ without_head place (place, b.0) b.1 refl once.0
            ∙ sym (get_or-set_same lists list b.1 [] (subst (λ n. list < n) (sym (length-rows_of ends slots)) wide)))
        | inr differs ↦ without_none place (slice_index_or lists other []) (λ a.
            other_list (links_at slots) list other place None (ends_at ends list).first (ends_at ends list).last None
            None (ends_at ends other).first (ends_at ends other).last None (links.rows list) (links.rows other)
            differs (links.leads list) there (links.leads other)
            (subst (λ es. Among (places es) place) (seen_at ends slots links other) a))
            ∙ sym (get_or-set_other lists list other b.1 [] differs)
      ] in
      record {
        row = b.0;
        rest = b.1;
        was = b.2;
        has = subst (λ es. Has es place b.0) (sym b.2) (inl (refl, refl));
        popped = ext_get_or [] (map (without place) lists) (slice_set lists list b.1)
            (length-map lists (without place) ∙ sym (length-set lists list b.1))
            (λ i h. get_or-map (without place) lists i [] ∙ popped i);
        vacant = λ other row has. not_among (slice_index_or lists other [])
            (has_among (without place (slice_index_or lists other [])) place row
            (subst (λ es. Has es place row) (get_or-map (without place) lists other []) has));
      }
    where
      not_among : (es : List (ℕ × R)) → Among (places (without place es)) place → ⊥
      not_among es a = gone es place a

  pub front_none : (ends : List Ends) (slots : List (Option (Link R))) (list : ℕ) → IsLinked ends (links_at slots)
      → (ends_at ends list).first ≡ None → slice_index_or (rows_of ends slots) list [] ≡ []
  front_none ends slots list links first =
      empty_from (slice_index_or (rows_of ends slots) list []) (sym (first_seen ends slots list links) ∙ first)

-- empty ends
pub nothing_there : {A : Type 0} (n i : ℕ) (x : A) → slice_index_or (replicate n x) i x ≡ x
nothing_there zero i x = refl
nothing_there (suc n) zero x = refl
nothing_there (suc n) (suc i) x = nothing_there n i x

pub map_replicate : {A B : Type 0} (n : ℕ) (f : A → B) (x : A) → map f (replicate n x) ≡ replicate n (f x)
map_replicate zero f x = refl
map_replicate (suc n) f x = ap (λ xs. f x ∷ xs) (map_replicate n f x)

-- more lists, all empty
wide_at : (ends : List Ends) (n list : ℕ) → ends_at (ends ++ replicate n no_ends) list ≡ ends_at ends list
wide_at [] n list = nothing_there n list no_ends
wide_at (e ∷ ends) n zero = refl
wide_at (e ∷ ends) n (suc list) = wide_at ends n list

module _ {R : Type 0} where
  pub links_wide : (ends : List Ends) (n : ℕ) (look : ℕ → Option (Link R)) → IsLinked ends look
      → IsLinked (ends ++ replicate n no_ends) look
  links_wide ends n look links = record {
    rows = links.rows;
    leads = λ list. subst (λ e. Leads look list None e.first (links.rows list) e.last None) (sym (wide_at ends n list))
        (links.leads list);
    once = links.once;
  }

  pub rows_wide : (ends : List Ends) (n : ℕ) (slots : List (Option (Link R)))
      → rows_of (ends ++ replicate n no_ends) slots ≡ rows_of ends slots ++ replicate n []
  rows_wide ends n slots =
      let f = λ (e : Ends). rows_from (links_at slots) (length slots) e.first in
      map-append f ends (replicate n no_ends)
      ∙ ap (λ l. rows_of ends slots ++ l) (map_replicate n f no_ends ∙ ap (replicate n) (rows_none (links_at slots) (length slots)))

  pub count_wide : (lists : List (List (ℕ × R))) (n : ℕ) → sum_by length (lists ++ replicate n []) ≡ sum_by length lists
  count_wide lists n =
      let a = sum_by-append length lists (replicate n []) in
      let b = sum_by-replicate (length {A = ℕ × R}) n [] in
      omega (arith, a, b)

module _ {T E R : Type 0} (r : Result T E) (ends items : List Ends) (slots : List (Option (Link R))) (width len : ℕ)
    (short : len < width)
    (len_is : len ≡ length ends)
    (is : items ≡ (if is_ok r then take width ends ++ replicate (width - len) no_ends else ends)) where
  pub widened : OnOk r (items ≡ ends ++ replicate (width - len) no_ends)
  widened = go r is
    where
      go : (q : Result T E) → items ≡ (if is_ok q then take width ends ++ replicate (width - len) no_ends else ends)
          → OnOk q (items ≡ ends ++ replicate (width - len) no_ends)
      go (Ok x) h = h ∙ ap (λ l. l ++ replicate (width - len) no_ends) (take_all width ends (omega (arith, short, len_is)))
      go (Err e) h = tt

  pub either_width : (items ≡ ends) ⊎ (items ≡ ends ++ replicate (width - len) no_ends)
  either_width = go r is
    where
      go : (q : Result T E) → items ≡ (if is_ok q then take width ends ++ replicate (width - len) no_ends else ends)
          → (items ≡ ends) ⊎ (items ≡ ends ++ replicate (width - len) no_ends)
      go (Ok x) h = inr (h ∙ ap (λ l. l ++ replicate (width - len) no_ends) (take_all width ends (omega (arith, short, len_is))))
      go (Err e) h = inl h

  pub wide_linked : IsLinked ends (links_at slots) → IsLinked items (links_at slots)
  wide_linked links = elim either_width [
    | inl same ↦ rw same links
    | inr more ↦ rw more (links_wide ends (width - len) (links_at slots) links)
  ]

  pub wide_count : sum_by length (rows_of items slots) ≡ sum_by length (rows_of ends slots)
  wide_count = elim either_width [
    | inl same ↦ ap (λ es. sum_by length (rows_of es slots)) same
    | inr more ↦ ap (λ es. sum_by length (rows_of es slots)) more
        ∙ ap (sum_by length) (rows_wide ends (width - len) slots) ∙ count_wide (rows_of ends slots) (width - len)
  ]
