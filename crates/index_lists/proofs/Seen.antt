-- What a contract sees of links that lead through their lists.
use Rattle.std.proofs.Common.{◌≡◌, ◌∙◌, ℕ, zero, suc, ◌<◌, ◌≤◌, true, false, List, [], ◌∷◌, length, refl, ap, sym, subst, inl, inr, arith, eqb}
use Rattle.std.specs.Prelude.{Option, Some, None, slice_index_or}
use Rattle.std.specs.List.{IsDistinct, AllByRecursion, list_any}
use Rattle.std.proofs.Math.ListN.{get_or-map}
use Rattle.std.proofs.lemmas.Bool.{ne_eqb, cases_lt}
use Rattle.std.proofs.lemmas.Bool.Decides.{eqb_tells}
use Rattle.std.proofs.lemmas.Map.Steps.{length-le_from_distinct_below}
use Rattle.std.proofs.lemmas.List.{get_or_past, length-map}
use Rattle.index_lists.specs.declared.link.Link.{Link}
use Rattle.index_lists.specs.declared.link.Ends.{Ends}
use Rattle.index_lists.specs.Links.{Leads, rows_from}
use Rattle.index_lists.specs.Lists.{Among, NoRepeats, places, links_at, no_ends, ends_at, IsLinked, rows_of}
use Rattle.index_lists.proofs.Leading.{among_link}

among_any : (ks : List ℕ) (k : ℕ) → list_any (eqb k) ks ≡ true → Among ks k
among_any [] k h = absurd (let e = h in cc)
among_any (j ∷ ks) k h =
    elim (eqb_tells k j) [
      | inl same ↦ inl (sym same.1)
      | inr differs ↦ inr (among_any ks k (let d = differs.0 in grind (arith, h, d)))
    ]

apart : (k : ℕ) (ks : List ℕ) → (Among ks k → ⊥) → AllByRecursion (λ y. eqb k y ≡ false) ks
apart k [] never = tt
apart k (j ∷ ks) never = (ne_eqb k j (λ same. never (inl (sym same))), apart k ks (λ a. never (inr a)))

distinct_from : (ks : List ℕ) → NoRepeats ks → IsDistinct eqb ks
unfolding IsDistinct
distinct_from [] h = tt
distinct_from (k ∷ ks) h = (apart k ks h.0, distinct_from ks h.1)

-- places below a bound, none twice, are no more than the bound
few_places : (ks : List ℕ) (bound : ℕ) → NoRepeats ks → ((k : ℕ) → Among ks k → k < bound) → length ks ≤ bound
few_places ks bound once below =
    length-le_from_distinct_below ks bound (distinct_from ks once) (λ q h. below q (among_any ks q h))

module _ {R : Type 0} where
  pub rows_none : (look : ℕ → Option (Link R)) (n : ℕ) → rows_from look n None ≡ []
  rows_none look zero = refl
  rows_none look (suc n) = refl

  -- the rows that the links lead through
  rows_are : (look : ℕ → Option (Link R)) (list n : ℕ) (before from last : Option ℕ) (es : List (ℕ × R))
      → Leads look list before from es last None → length es ≤ n → rows_from look n from ≡ es
  rows_are look list n before from last [] h short = ap (rows_from look n) h.0 ∙ rows_none look n
  rows_are look list zero before from last (e ∷ es) h short = absurd (omega (arith, short))
  rows_are look list (suc n) before from last (e ∷ es) h short =
      ap (rows_from look (suc n)) h.0
      ∙ ap (λ l. elim l as (λ x. List (ℕ × R)) [ None ↦ [] | Some l ↦ (e.0, l.row) ∷ rows_from look n l.after ]) h.2
      ∙ ap (λ xs. e ∷ xs) (rows_are look list n (Some e.0) h.1 last es h.3 (omega (arith, short)))

  -- a place with a link is one of the slots
  within : (slots : List (Option (Link R))) (k : ℕ) (l : Link R) → links_at slots k ≡ Some l → k < length slots
  within slots k l h =
      elim (cases_lt k (length slots)) [
        | inl lt ↦ lt
        | inr ge ↦ absurd (let e : ◌≡◌ {A = Option (Link R)} None (Some l) = sym (get_or_past slots k None ge) ∙ h in cc)
      ]

  few_rows : (look : ℕ → Option (Link R)) (slots : List (Option (Link R))) (list : ℕ) (before from last to : Option ℕ)
      (es : List (ℕ × R))
      → ((k : ℕ) → look k ≡ links_at slots k) → Leads look list before from es last to → NoRepeats (places es)
      → length es ≤ length slots
  few_rows look slots list before from last to es is h once =
      subst (λ n. n ≤ length slots) (length-map es (λ e. e.0))
      (few_places (places es) (length slots) once (λ k among.
      let l = among_link look list before from last to es k h among in
      within slots k _ (sym (is k) ∙ l.4)))

  -- each list is seen as the rows that its links lead through
  pub seen : (ends : List Ends) (slots : List (Option (Link R))) (links : IsLinked ends (links_at slots)) (list n : ℕ)
      → length slots ≤ n
      → rows_from (links_at slots) n (ends_at ends list).first ≡ links.rows list
  seen ends slots links list n most =
      rows_are (links_at slots) list n None (ends_at ends list).first (ends_at ends list).last (links.rows list) (links.leads list)
      (omega (
        arith,
        most,
        few_rows (links_at slots) slots list None (ends_at ends list).first (ends_at ends list).last None (links.rows list) (λ k. refl)
            (links.leads list) (links.once list),
      ))

  pub seen_at : (ends : List Ends) (slots : List (Option (Link R))) (links : IsLinked ends (links_at slots)) (list : ℕ)
      → slice_index_or (rows_of ends slots) list [] ≡ links.rows list
  seen_at ends slots links list =
      ap (λ d. slice_index_or (rows_of ends slots) list d) (sym (rows_none (links_at slots) (length slots)))
      ∙ get_or-map (λ e. rows_from (links_at slots) (length slots) e.first) ends list no_ends
      ∙ seen ends slots links list (length slots) (omega arith)
