-- Heights that the points of a map are given, place after place, while those that change are told.
use Rattle.std.proofs.Common.{◌≡◌, ◌≢◌, ◌∙◌, ℕ, ◌+◌, ◌≤◌, List, [], ◌∷◌, ◌++◌, refl, ap, sym, subst, inl, inr, arith, option_map}
use Rattle.std.proofs.lemmas.List.{append_assoc}
use Rattle.std.proofs.lemmas.List.Elements.{Contains-push, Contains-push_cases, Contains-append_left}
use Rattle.std.specs.Prelude.{◌⊎◌, Some, None, Contains}
use Rattle.inc_value.specs.declared.node.Point.{Point}
use Rattle.point_map.specs.Rows.{Rows, at, Holds, Changes, IsWalk, standing}
use Rattle.point_map.proofs.Places.{point_cases}
use Rattle.height_order.specs.Levels.{level, IsMoved, Tells}
use Rattle.height_order.proofs.Points.{level_there, level_other}
use Rattle.height_order.proofs.Walking.{PointAt, EachBelow, each_point, each_vacant, each_whole, once_push}
use Rattle.height_order.proofs.Lifting.{Written, written_more, written_still, written_here, written_whole}
use Rattle.height_order.proofs.Sounding.{tells_none}

module _ (old now next : Rows ℕ) (p : Point) (h : ℕ) (changes : Changes now next p (Some h)) (still : level now p ≡ level old p) (differs : h ≢ level old p) where
  changed_by : (list : List Point) (q : Point) → IsMoved (level old) (level now) list → (q ≡ p) ⊎ (q ≢ p) → Contains list q ⊎ (p ≡ q) → level next q ≢ level old q
  changed_by list q so (inl same) either e = differs (sym (level_there now next p h changes) ∙ (sym (ap (level next) same) ∙ (e ∙ ap (level old) same)))
  changed_by list q so (inr other) (inl has) e = so.changed q has (sym (level_other now next p q (Some h) changes other) ∙ e)
  changed_by list q so (inr other) (inr same) e = other (sym same)

  every_by : (list : List Point) (q : Point) → IsMoved (level old) (level now) list → (q ≡ p) ⊎ (q ≢ p) → level next q ≢ level old q → Contains (list ++ p ∷ []) q
  every_by list q so (inl same) d = subst (Contains (list ++ p ∷ [])) (sym same) (Contains-push list p)
  every_by list q so (inr other) d = Contains-append_left list (p ∷ []) q (so.every q (λ e. d (level_other now next p q (Some h) changes other ∙ e)))

  -- one more point has another height
  tells_more : (before after : List Point) → Tells (level old) (level now) before after → Tells (level old) (level next) before (after ++ p ∷ [])
  tells_more before after told = record {
    list = told.list ++ p ∷ [];
    appended = ap (λ xs. xs ++ p ∷ []) told.appended ∙ append_assoc before told.list (p ∷ []);
    moved = record {
      once = once_push told.list p told.moved.once (λ has. told.moved.changed p has still);
      changed = λ q has. changed_by told.list q told.moved (point_cases q p) (Contains-push_cases told.list p q has);
      every = λ q d. every_by told.list q told.moved (point_cases q p) d;
    };
  }

module _ {R : Type 0} (m : Rows R) (given : Point → ℕ) (old : Rows ℕ) (before : List Point) where
  -- the points at the places below i have their heights, others keep theirs, and what changed is told
  pub record Writes (now : Rows ℕ) (after : List Point) (i : ℕ) : Type 0 where
    pub told : Tells (level old) (level now) before after
    pub written : Written old now given
    pub each : EachBelow m (λ p. level now p ≡ given p) i

  pub writes_none : (after : List Point) → after ≡ before → Writes old after 0
  writes_none after same = record {
    told = subst (Tells (level old) (level old) before) (sym same) (tells_none (level old) (level old) before (λ p. refl));
    written = record { points = λ p. refl; each = λ p. inl refl };
    each = λ k p less. absurd (omega (arith, less));
  }

  module _ (now : Rows ℕ) (after : List Point) (i : ℕ) (so : Writes now after i) where
    -- nothing stands at the next place
    pub writes_vacant : option_map (λ e. e.0) (standing m i) ≡ None → Writes now after (i + 1)
    writes_vacant vacant = record { told = so.told; written = so.written; each = each_vacant m (λ p. level now p ≡ given p) i so.each vacant }

    -- the next point has its height
    pub writes_same : (p : Point) → PointAt m i p → level now p ≡ given p → Writes now after (i + 1)
    writes_same p here same = record { told = so.told; written = so.written; each = each_point m (λ q. level now q ≡ given q) i p so.each here same }

    still_by : (p : Point) → level now p ≢ given p → (level now p ≡ level old p) ⊎ (level now p ≡ given p) → level now p ≡ level old p
    still_by p off (inl same) = same
    still_by p off (inr is) = absurd (off is)

    -- the next point gets its height
    pub writes_more : (next : Rows ℕ) (p : Point) (h : ℕ) → PointAt m i p → level now p ≢ given p → h ≡ given p → Holds now p → Changes now next p (Some h)
        → Writes next (after ++ p ∷ []) (i + 1)
    writes_more next p h here off is there changes =
        let still = still_by p off (so.written.each p) in
        record {
          told = tells_more old now next p h changes still (λ e. off (still ∙ (sym e ∙ is))) before after so.told;
          written = written_more old now given so.written next p h is there changes;
          each = each_point m (λ q. level next q ≡ given q) i p
              (λ k q less at_k. written_still old now given so.written next p h is changes q (so.each k q less at_k)) here
              (written_here old now given so.written next p h is there changes);
        }

    pub writes_whole : (n : ℕ) → IsWalk m n → n ≤ i → ((p : Point) → at m p ≡ None → given p ≡ level old p) → (p : Point) → level now p ≡ given p
    writes_whole n walk end other =
        written_whole old now given so.written m (each_whole m (λ p. level now p ≡ given p) n i walk end so.each) other
