-- How a list's links lead through its rows, before and after a push and a removal.
use Rattle.std.proofs.Common.{◌≡◌, ◌≢◌, ◌∙◌, ◌⊎◌, ℕ, List, [], ◌∷◌, ◌++◌, refl, ap, sym, subst, inl, inr, cond, not}
use Rattle.std.specs.Prelude.{Option, Some, None, option_map, ◌==◌, if◌then◌else◌}
use Rattle.std.proofs.lemmas.Bool.{ne_eqb, eq-eqb}
use Rattle.index_lists.specs.declared.link.Link.{Link}
use Rattle.index_lists.specs.Links.{Leads, after_set, before_set, with_after, with_before}
use Rattle.index_lists.specs.Lists.{Among, NoRepeats, places, Has, without}

pub some_is : (a b : ℕ) → ◌≡◌ {A = Option ℕ} (Some a) (Some b) → a ≡ b
some_is a b h = cc

pub same_some : {A : Type 0} (a b : A) → ◌≡◌ {A = Option A} (Some a) (Some b) → a ≡ b
same_some a b h = ap (λ o. elim o [ None ↦ a | Some x ↦ x ]) h

pub not_some : (a : ℕ) → ◌≡◌ {A = Option ℕ} None (Some a) → ⊥
not_some a h = cc

-- a place in place of one that is taken off
abbrev pub skip : ℕ → Option ℕ → Option ℕ → Option ℕ
skip place next None = None
skip place next (Some k) = if k == place then next else Some k

pub skip_same : (place : ℕ) (next : Option ℕ) → skip place next (Some place) ≡ next
skip_same place next = ap (λ t. cond t next (Some place)) (eq-eqb place place refl)

pub skip_other : (place : ℕ) (next from : Option ℕ) → from ≢ Some place → skip place next from ≡ from
skip_other place next None differs = refl
skip_other place next (Some k) differs = ap (λ t. cond t next (Some k)) (ne_eqb k place (λ e. differs (ap Some e)))

module _ {R : Type 0} where
  -- a link
  abbrev pub link : ℕ → Option ℕ → Option ℕ → R → Link R
  link list before after row = record { list = list; before = before; after = after; row = row }

  -- rows whose links stay
  pub leads_same : (look new : ℕ → Option (Link R)) (list : ℕ) (before from last to : Option ℕ) (es : List (ℕ × R))
      → ((k : ℕ) → Among (places es) k → new k ≡ look k) → Leads look list before from es last to
      → Leads new list before from es last to
  leads_same look new list before from last to [] same h = h
  leads_same look new list before from last to (e ∷ es) same h =
      (h.0, h.1, same e.0 (inl refl) ∙ h.2, leads_same look new list (Some e.0) h.1 last to es (λ k a. same k (inr a)) h.3)

  pub has_among : (es : List (ℕ × R)) (place : ℕ) (row : R) → Has es place row → Among (places es) place
  has_among [] place row h = h
  has_among (e ∷ es) place row (inl h) = inl h.0
  has_among (e ∷ es) place row (inr h) = inr (has_among es place row h)

  -- the link of a row
  pub has_link : (look : ℕ → Option (Link R)) (list : ℕ) (before from last to : Option ℕ) (es : List (ℕ × R))
      (place : ℕ) (row : R)
      → Leads look list before from es last to → Has es place row
      → (b : Option ℕ) × (a : Option ℕ) × (look place ≡ Some (link list b a row))
  has_link look list before from last to [] place row h has = absurd has
  has_link look list before from last to (e ∷ es) place row h (inl has) =
      (before, h.1, ap look (sym has.0) ∙ h.2 ∙ ap (λ r. Some (link list before h.1 r)) has.1)
  has_link look list before from last to (e ∷ es) place row h (inr has) =
      has_link look list (Some e.0) h.1 last to es place row h.3 has

  -- the link of a place
  pub among_link : (look : ℕ → Option (Link R)) (list : ℕ) (before from last to : Option ℕ) (es : List (ℕ × R))
      (place : ℕ)
      → Leads look list before from es last to → Among (places es) place
      → (row : R) × (Has es place row) × (b : Option ℕ) × (a : Option ℕ) × (look place ≡ Some (link list b a row))
  among_link look list before from last to [] place h among = absurd among
  among_link look list before from last to (e ∷ es) place h (inl same) =
      (e.1, inl (same, refl), before, h.1, ap look (sym same) ∙ h.2)
  among_link look list before from last to (e ∷ es) place h (inr among) =
      let l = among_link look list (Some e.0) h.1 last to es place h.3 among in
      (l.0, inr l.1, l.2, l.3, l.4)

  -- the last of some rows
  pub last_among : (look : ℕ → Option (Link R)) (list : ℕ) (before from last to : Option ℕ) (e : ℕ × R)
      (es : List (ℕ × R))
      → Leads look list before from (e ∷ es) last to → (k : ℕ) × (last ≡ Some k) × Among (places (e ∷ es)) k
  last_among look list before from last to e [] h = (e.0, sym h.3.1, inl refl)
  last_among look list before from last to e (f ∷ es) h =
      let l = last_among look list (Some e.0) h.1 last to f es h.3 in
      (l.0, l.1, inr l.2)

  pub same_link : (l : Option (Link R)) (list list' : ℕ) (b b' a a' : Option ℕ) (r r' : R) → l ≡ Some (link list b a r)
      → l ≡ Some (link list' b' a' r')
      → (list ≡ list') × (b ≡ b') × (a ≡ a') × (r ≡ r')
  same_link l list list' b b' a a' r r' h k =
      let e = same_some (link list b a r) (link list' b' a' r') (sym h ∙ k) in
      (ap (λ x. x.list) e, ap (λ x. x.before) e, ap (λ x. x.after) e, ap (λ x. x.row) e)

  -- what is before a row: nothing, or another row of the list
  pub before_is : (look : ℕ → Option (Link R)) (list : ℕ) (before from last to : Option ℕ) (es : List (ℕ × R))
      (place : ℕ) (b a : Option ℕ) (row : R)
      → Leads look list before from es last to → NoRepeats (places es) → Among (places es) place
      → look place ≡ Some (link list b a row)
      → ((b ≡ before) × (from ≡ Some place)) ⊎ ((k : ℕ) × (b ≡ Some k) × (Among (places es) k) × (from ≢ Some place))
  before_is look list before from last to [] place b a row h once among at = absurd among
  before_is look list before from last to (e ∷ es) place b a row h once (inl same) at =
      let l = same_link (look place) list list b before a h.1 row e.1 at (ap look (sym same) ∙ h.2) in
      inl (l.1, h.0 ∙ ap Some same)
  before_is look list before from last to (e ∷ es) place b a row h once (inr among) at =
      let never : from ≢ Some place = λ is.
      once.0 (subst (λ k. Among (places es) k) (sym (some_is e.0 place (sym h.0 ∙ is))) among) in
      elim (before_is look list (Some e.0) h.1 last to es place b a row h.3 once.1 among at) [
        | inl first ↦ inr (e.0, first.0, inl refl, never)
        | inr other ↦ inr (other.0, other.1, inr other.2, never)
      ]

  -- what is after a row: nothing, or another row of the list
  pub after_is : (look : ℕ → Option (Link R)) (list : ℕ) (before from last to : Option ℕ) (es : List (ℕ × R))
      (place : ℕ) (b a : Option ℕ) (row : R)
      → Leads look list before from es last to → NoRepeats (places es) → Among (places es) place
      → look place ≡ Some (link list b a row)
      → ((a ≡ to) × (last ≡ Some place)) ⊎ ((k : ℕ) × (a ≡ Some k) × (Among (places es) k) × (last ≢ Some place))
  after_is look list before from last to [] place b a row h once among at = absurd among
  after_is look list before from last to (e ∷ []) place b a row h once (inr among) at = absurd among
  after_is look list before from last to (e ∷ []) place b a row h once (inl same) at =
      let l = same_link (look place) list list b before a h.1 row e.1 at (ap look (sym same) ∙ h.2) in
      inl (l.2 ∙ h.3.0, sym h.3.1 ∙ ap Some same)
  after_is look list before from last to (e ∷ f ∷ es) place b a row h once (inl same) at =
      let l = same_link (look place) list list b before a h.1 row e.1 at (ap look (sym same) ∙ h.2) in
      let m = last_among look list (Some e.0) h.1 last to f es h.3 in
      let never : last ≢ Some place = λ is.
      once.0 (subst (λ k. Among (places (f ∷ es)) k) (some_is m.0 place (sym m.1 ∙ is) ∙ sym same) m.2) in
      inr (f.0, l.2 ∙ h.3.0, inr (inl refl), never)
  after_is look list before from last to (e ∷ f ∷ es) place b a row h once (inr among) at =
      elim (after_is look list (Some e.0) h.1 last to (f ∷ es) place b a row h.3 once.1 among at) [
        | inl end ↦ inl end
        | inr other ↦ inr (other.0, other.1, inr other.2, other.3)
      ]

  -- a list without a place that it doesn't have
  pub without_none : (place : ℕ) (es : List (ℕ × R)) → (Among (places es) place → ⊥) → without place es ≡ es
  without_none place [] never = refl
  without_none place (e ∷ es) never =
      ap (λ t. cond (not t) (e ∷ without place es) (without place es)) (ne_eqb e.0 place (λ same. never (inl same)))
      ∙ ap (λ xs. e ∷ xs) (without_none place es (λ a. never (inr a)))

  pub without_head : (place : ℕ) (e : ℕ × R) (es : List (ℕ × R)) → e.0 ≡ place → (Among (places es) place → ⊥)
      → without place (e ∷ es) ≡ es
  without_head place e es same never =
      ap (λ t. cond (not t) (e ∷ without place es) (without place es)) (eq-eqb e.0 place same) ∙ without_none place es never

  pub without_other : (place : ℕ) (e : ℕ × R) (es : List (ℕ × R)) → e.0 ≢ place
      → without place (e ∷ es) ≡ e ∷ without place es
  without_other place e es differs =
      ap (λ t. cond (not t) (e ∷ without place es) (without place es)) (ne_eqb e.0 place differs)

  pub after_other : (before after : Option ℕ) (j : ℕ) (l : Option (Link R)) → before ≢ Some j
      → after_set before after j l ≡ l
  after_other None after j l differs = refl
  after_other (Some k) after j l differs =
      ap (λ t. cond t (option_map (with_after after) l) l) (ne_eqb j k (λ e. differs (ap Some (sym e))))

  pub before_other : (after before : Option ℕ) (j : ℕ) (l : Option (Link R)) → after ≢ Some j
      → before_set after before j l ≡ l
  before_other None before j l differs = refl
  before_other (Some k) before j l differs =
      ap (λ t. cond t (option_map (with_before before) l) l) (ne_eqb j k (λ e. differs (ap Some (sym e))))

  pub after_same : (before after : Option ℕ) (j : ℕ) (l : Option (Link R)) → before ≡ Some j
      → after_set before after j l ≡ option_map (with_after after) l
  after_same before after j l is =
      ap (λ b. after_set b after j l) is ∙ ap (λ t. cond t (option_map (with_after after) l) l) (eq-eqb j j refl)

  pub before_same : (after before : Option ℕ) (j : ℕ) (l : Option (Link R)) → after ≡ Some j
      → before_set after before j l ≡ option_map (with_before before) l
  before_same after before j l is =
      ap (λ a. before_set a before j l) is ∙ ap (λ t. cond t (option_map (with_before before) l) l) (eq-eqb j j refl)

  -- a row is taken off: what was before it and what was after it are neighbours
  module _ (look new : ℕ → Option (Link R)) (list place : ℕ) (b a : Option ℕ) (row : R)
      (at : look place ≡ Some (link list b a row))
      (changed : (k : ℕ) → k ≢ place → new k ≡ before_set a b k (after_set b a k (look k))) where
    -- the rows behind the one taken off
    rest_off : (last : Option ℕ) (es : List (ℕ × R)) → Leads look list (Some place) a es last None
        → NoRepeats (places es)
        → (Among (places es) place → ⊥) → ((k : ℕ) → b ≡ Some k → Among (places es) k → ⊥)
        → Leads new list b a es (skip place b last) None
    rest_off last [] h once never apart = (h.0, sym (ap (skip place b) (sym h.1) ∙ skip_same place b))
    rest_off last (e ∷ es) h once never apart =
        let m = last_among look list (Some place) a last None e es h in
        let stays : skip place b last ≡ last = skip_other place b last
        (λ is. never (subst (λ k. Among (places (e ∷ es)) k) (some_is m.0 place (sym m.1 ∙ is)) m.2)) in
        let here : new e.0 ≡ Some (link list b h.1 e.1) =
        changed e.0 (λ same. never (inl same))
        ∙ ap (before_set a b e.0) (after_other b a e.0 (look e.0) (λ is. apart e.0 is (inl refl)))
        ∙ before_same a b e.0 (look e.0) h.0 ∙ ap (option_map (with_before b)) h.2 in
        rw stays (
          h.0,
          h.1,
          here,
          leads_same look new list (Some e.0) h.1 last None es
              (λ k among.
              changed k (λ same. never (inr (subst (λ x. Among (places es) x) same among)))
              ∙ before_other a b k (after_set b a k (look k))
              (λ is. once.0 (subst (λ x. Among (places es) x) (some_is k e.0 (sym is ∙ h.0)) among))
              ∙ after_other b a k (look k) (λ is. apart k is (inr among)))
              h.3,
        )

    pub leads_off : (before from last : Option ℕ) (es : List (ℕ × R)) → Leads look list before from es last None
        → NoRepeats (places es)
        → Among (places es) place → ((k : ℕ) → before ≡ Some k → Among (places es) k → ⊥)
        → Leads new list before (skip place a from) (without place es) (skip place b last) None
    leads_off before from last [] h once among apart = absurd among
    leads_off before from last (e ∷ es) h once (inl same) apart =
        let l = same_link (look place) list list b before a h.1 row e.1 at (ap look (sym same) ∙ h.2) in
        let gone : Among (places es) place → ⊥ = λ x. once.0 (subst (λ k. Among (places es) k) (sym same) x) in
        let rest = rest_off last es (rw (l.2, ← same) h.3) once.1 gone (λ k is x. apart k (sym l.1 ∙ is) (inr x)) in
        rw (without_head place e es same gone, h.0, same, skip_same place a, ← l.1) rest
    leads_off before from last (e ∷ es) h once (inr among) apart =
        let differs : e.0 ≢ place = λ same. once.0 (subst (λ k. Among (places es) k) (sym same) among) in
        let rest = leads_off (Some e.0) h.1 last es h.3 once.1 among
        (λ k is x. once.0 (subst (λ j. Among (places es) j) (sym (some_is e.0 k is)) x)) in
        let ahead : a ≢ Some e.0 =
        elim (after_is look list (Some e.0) h.1 last None es place b a row h.3 once.1 among at) [
          | inl end ↦ λ is. not_some e.0 (sym end.0 ∙ is)
          | inr other ↦ λ is. once.0 (subst (λ k. Among (places es) k) (some_is other.0 e.0 (sym other.1 ∙ is)) other.2)
        ] in
        let here : new e.0 ≡ Some (link list before (skip place a h.1) e.1) =
        changed e.0 differs ∙ before_other a b e.0 (after_set b a e.0 (look e.0)) ahead
        ∙ elim (before_is look list (Some e.0) h.1 last None es place b a row h.3 once.1 among at) [
          | inl next ↦ after_same b a e.0 (look e.0) next.0 ∙ ap (option_map (with_after a)) h.2
              ∙ ap (λ x. Some (link list before x e.1)) (sym (ap (skip place a) next.1 ∙ skip_same place a))
          | inr other ↦
              after_other b a e.0 (look e.0)
              (λ is. once.0 (subst (λ k. Among (places es) k) (some_is other.0 e.0 (sym other.1 ∙ is)) other.2))
              ∙ h.2 ∙ ap (λ x. Some (link list before x e.1)) (sym (skip_other place a h.1 other.3))
        ] in
        rw (without_other place e es differs) (
          ap (skip place a) h.0 ∙ skip_other place a (Some e.0) (λ is. differs (some_is e.0 place is)),
          skip place a h.1,
          here,
          rest,
        )

  -- where rows begin, once others may be behind them
  abbrev pub start : List (ℕ × R) → Option ℕ → Option ℕ → Option ℕ
  start [] behind from = behind
  start (e ∷ es) behind from = from

  -- a row is put behind the others
  pub leads_on : (look new : ℕ → Option (Link R)) (list place : ℕ) (row : R) (before from last : Option ℕ)
      (es : List (ℕ × R))
      → new place ≡ Some (link list last None row)
      → ((k : ℕ) → k ≢ place → new k ≡ after_set last (Some place) k (look k))
      → Leads look list before from es last None → NoRepeats (places es) → (Among (places es) place → ⊥)
      → Leads new list before (start es (Some place) from) (es ++ (place, row) ∷ []) (Some place) None
  leads_on look new list place row before from last [] put changed h once never =
      (refl, None, put ∙ ap (λ b. Some (link list b None row)) (sym h.1), (refl, refl))
  leads_on look new list place row before from last (e ∷ []) put changed h once never = (
    h.0,
    Some place,
    changed e.0 (λ same. never (inl same)) ∙ after_same last (Some place) e.0 (look e.0) (sym h.3.1)
        ∙ ap (option_map (with_after (Some place))) h.2,
    (refl, None, put ∙ ap (λ b. Some (link list b None row)) (sym h.3.1), (refl, refl)),
  )
  leads_on look new list place row before from last (e ∷ f ∷ es) put changed h once never =
      let m = last_among look list (Some e.0) h.1 last None f es h.3 in (
        h.0,
        h.1,
        changed e.0 (λ same. never (inl same))
            ∙ after_other last (Some place) e.0 (look e.0)
            (λ is. once.0 (subst (λ k. Among (places (f ∷ es)) k) (some_is m.0 e.0 (sym m.1 ∙ is)) m.2))
            ∙ h.2,
        leads_on look new list place row (Some e.0) h.1 last (f ∷ es) put changed h.3 once.1 (λ a. never (inr a)),
      )
