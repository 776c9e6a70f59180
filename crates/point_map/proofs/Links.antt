-- Links of a slab, and what a contract sees of them.
use Rattle.std.proofs.Common.{◌≡◌, ◌≢◌, ◌∙◌, ℕ, zero, suc, ◌<◌, ◌≤◌, List, [], ◌∷◌, length, refl, ap, sym, inl, inr, arith, map, is_some, count_by, option_map, replicate}
use Rattle.std.specs.Prelude.{Option, Some, None, slice_index_or, slice_set, option_and_then, IfSome, IfNone}
use Rattle.std.proofs.Math.ListN.{get_or-map}
use Rattle.std.proofs.lemmas.Bool.{cases_eq}
use Rattle.std.proofs.lemmas.List.{get_or_past, map-set}
use Rattle.std.proofs.lemmas.Grind.{common_steps}
use Rattle.inc_value.specs.declared.node.Point.{Point}
use Rattle.point_map.specs.Buckets.{Kept, Buckets, kept_at, kept_with, KeptChanges, IsKeptIn, IsEmptyBucket}
use Rattle.point_map.specs.Chains.{IsLinked, NoneOnChain}
use Rattle.point_map.proofs.Chains.{few_places, links_kept, some_bucket, none_bucket, head_own, head_none}
use Rattle.point_map.specs.declared.buckets.Link.{Link}

module _ {R : Type 0} where
  -- a link as a contract sees it
  abbrev pub kept_of : Link R → Kept R
  kept_of l = record { bucket = l.bucket; point = l.point; row = l.row }

  abbrev pub kept_in : List (Option (Link R)) → List (Option (Kept R))
  kept_in slots = map (option_map kept_of) slots

  abbrev pub next_at : List (Option (Link R)) → ℕ → Option ℕ
  next_at slots k = option_and_then (λ l. l.next) (slice_index_or slots k None)

  abbrev pub bucket_at : List (Option (Link R)) → ℕ → Option ℕ
  bucket_at slots k = option_map (λ l. l.bucket) (slice_index_or slots k None)

  -- what is kept at a place
  pub seen_at : (slots : List (Option (Link R))) (i : ℕ) → slice_index_or (kept_in slots) i None ≡ option_map kept_of (slice_index_or slots i None)
  seen_at slots i = get_or-map (option_map kept_of) slots i None

  link_from : (o : Option (Link R)) (b : ℕ) → option_map (λ l. l.bucket) o ≡ Some b → (l : Link R) × (o ≡ Some l) × (l.bucket ≡ b)
  link_from None b h = absurd (none_bucket b h)
  link_from (Some l) b h = (l, refl, some_bucket l.bucket b h)

  -- a place in a bucket has a link
  pub link_at : (slots : List (Option (Link R))) (k b : ℕ) → bucket_at slots k ≡ Some b → (l : Link R) ×
      (slice_index_or slots k None ≡ Some l) × (l.bucket ≡ b)
  link_at slots k b h = link_from (slice_index_or slots k None) b h

  kept_bucket : (o : Option (Link R)) (k : Kept R) → option_map kept_of o ≡ Some k → option_map (λ l. l.bucket) o ≡ Some k.bucket
  kept_bucket None k h = absurd (let e = h in cc)
  kept_bucket (Some l) k h = ap (option_map (λ x. x.bucket)) h

  head_from : (view : Buckets R) (heads : List (Option ℕ)) (slots : List (Option (Link R))) (b : ℕ) (o : Option ℕ) → slice_index_or heads b None ≡ o
      → kept_in slots ≡ view.kept → IsLinked heads (next_at slots) (bucket_at slots) → b < length heads
      → IfSome o (IsKeptIn view b) × IfNone o (IsEmptyBucket view b)
  head_from view heads slots b None is seen links lt = (
    tt,
    λ i k there same. head_none heads (next_at slots) (bucket_at slots) b i links lt is
        (kept_bucket (slice_index_or slots i None) k (sym (seen_at slots i) ∙ ap (λ ks. slice_index_or ks i None) seen ∙ there) ∙ ap Some same),
  )
  head_from view heads slots b (Some k) is seen links lt =
      let l = link_at slots k b (head_own heads (next_at slots) (bucket_at slots) b k links lt is) in (
        record {
          kept = kept_of l.0;
          there = ap (λ ks. slice_index_or ks k None) (sym seen) ∙ seen_at slots k ∙ ap (option_map kept_of) l.1;
          within = l.2;
        },
        tt,
      )

  -- a bucket's head is kept in it, and without a head the bucket is empty
  pub head_is : (view : Buckets R) (heads : List (Option ℕ)) (slots : List (Option (Link R))) (b : ℕ) → kept_in slots ≡ view.kept
      → IsLinked heads (next_at slots) (bucket_at slots) → b < length heads
      → IfSome (slice_index_or heads b None) (IsKeptIn view b) × IfNone (slice_index_or heads b None) (IsEmptyBucket view b)
  head_is view heads slots b seen links lt = head_from view heads slots b (slice_index_or heads b None) refl seen links lt

  -- one link changes, and so does what is kept at one place
  pub kept_changes : (old new : Buckets R) (slots new_slots : List (Option (Link R))) (i : ℕ) (l : Option (Link R)) → kept_in slots ≡ old.kept
      → kept_in new_slots ≡ new.kept → slice_index_or new_slots i None ≡ l
      → ((j : ℕ) → j ≢ i → slice_index_or new_slots j None ≡ slice_index_or slots j None) → KeptChanges old new i (option_map kept_of l)
  kept_changes old new slots new_slots i l is new_is changed others = record {
    changed = ap (λ ks. slice_index_or ks i None) (sym new_is) ∙ seen_at new_slots i ∙ ap (option_map kept_of) changed;
    others = λ j differs. ap (λ ks. slice_index_or ks j None) (sym new_is) ∙ seen_at new_slots j ∙ ap (option_map kept_of) (others j differs)
        ∙ sym (seen_at slots j) ∙ ap (λ ks. slice_index_or ks j None) is;
  }

  -- as many places keep a point as have a link
  pub count_kept : (slots : List (Option (Link R))) → count_by is_some (kept_in slots) ≡ count_by is_some slots
  count_kept [] = refl
  count_kept (None ∷ rest) = grind (arith, common_steps, count_kept rest)
  count_kept (Some l ∷ rest) = grind (arith, common_steps, count_kept rest)

  -- a link in place of another keeps the count
  pub count_link_set : (slots : List (Option (Link R))) (i : ℕ) (l m : Link R) → slice_index_or slots i None ≡ Some l
      → count_by is_some (slice_set slots i (Some m)) ≡ count_by is_some slots
  count_link_set [] i l m there = refl
  count_link_set (e ∷ rest) zero l m there = grind (arith, common_steps)
  count_link_set (e ∷ rest) (suc i) l m there = grind (arith, common_steps, count_link_set rest i l m there)

  -- a link with another point and row in place of one
  pub put_links : (heads : List (Option ℕ)) (slots new : List (Option (Link R))) (i : ℕ) (l m : Link R) → slice_index_or slots i None ≡ Some l
      → slice_index_or new i None ≡ Some m → m.bucket ≡ l.bucket → m.next ≡ l.next
      → ((j : ℕ) → j ≢ i → slice_index_or new j None ≡ slice_index_or slots j None)
      → IsLinked heads (next_at slots) (bucket_at slots) → IsLinked heads (next_at new) (bucket_at new)
  put_links heads slots new i l m there changed same_bucket same_next others links =
      links_kept heads (next_at slots) (next_at new) (bucket_at slots) (bucket_at new) links
      (λ j. elim (cases_eq j i) [
        | inl same ↦ ap (next_at new) same ∙ ap (option_and_then (λ x. x.next)) changed ∙ same_next
            ∙ sym (ap (option_and_then (λ x. x.next)) there) ∙ sym (ap (next_at slots) same)
        | inr differs ↦ ap (option_and_then (λ x. x.next)) (others j differs)
      ])
      (λ j. elim (cases_eq j i) [
        | inl same ↦ ap (bucket_at new) same ∙ ap (option_map (λ x. x.bucket)) changed ∙ ap Some same_bucket
            ∙ sym (ap (option_map (λ x. x.bucket)) there) ∙ sym (ap (bucket_at slots) same)
        | inr differs ↦ ap (option_map (λ x. x.bucket)) (others j differs)
      ])

  -- a link with another row is seen as a point with that row
  pub written_seen : (slots : List (Option (Link R))) (i : ℕ) (l : Link R) (row : R) → slice_index_or slots i None ≡ Some l
      → kept_in (slice_set slots i (Some (record { bucket = l.bucket; point = l.point; next = l.next; row = row })))
      ≡ slice_set (kept_in slots) i (option_map (kept_with row) (slice_index_or (kept_in slots) i None))
  written_seen slots i l row there =
      map-set (option_map kept_of) slots i (Some (record { bucket = l.bucket; point = l.point; next = l.next; row = row }))
      ∙ ap (λ e. slice_set (kept_in slots) i (option_map (kept_with row) e)) (sym (seen_at slots i ∙ ap (option_map kept_of) there))

  abbrev pub point_at : List (Option (Link R)) → ℕ → Option Point
  point_at slots k = option_map (λ l. l.point) (slice_index_or slots k None)

  point_kept : (o : Option (Link R)) → option_map (λ k. k.point) (option_map kept_of o) ≡ option_map (λ l. l.point) o
  point_kept None = refl
  point_kept (Some l) = refl

  point_seen : (view : Buckets R) (slots : List (Option (Link R))) (i : ℕ) → kept_in slots ≡ view.kept
      → option_map (λ k. k.point) (kept_at view i) ≡ point_at slots i
  point_seen view slots i seen =
      ap (λ ks. option_map (λ k. k.point) (slice_index_or ks i None)) (sym seen) ∙ ap (option_map (λ k. k.point)) (seen_at slots i)
      ∙ point_kept (slice_index_or slots i None)

  -- a place that is found keeps the point
  pub find_found : (view : Buckets R) (slots : List (Option (Link R))) (p : Point) (o : Option ℕ) → kept_in slots ≡ view.kept
      → IfSome o (λ i. point_at slots i ≡ Some p) → IfSome o (λ i. option_map (λ k. k.point) (kept_at view i) ≡ Some p)
  find_found view slots p None seen h = tt
  find_found view slots p (Some i) seen h = point_seen view slots i seen ∙ h

  within_slots : (slots : List (Option (Link R))) (k : ℕ) (l : Link R) → slice_index_or slots k None ≡ Some l → k < length slots
  within_slots slots k l there = grind (arith, get_or_past)

  -- where none is found on its chain, the bucket doesn't have the point
  pub find_absent : (view : Buckets R) (heads : List (Option ℕ)) (slots : List (Option (Link R))) (room b : ℕ) (p : Point) (o : Option ℕ)
      → kept_in slots ≡ view.kept → IsLinked heads (next_at slots) (bucket_at slots) → b < length heads → length slots ≤ room
      → IfNone o (NoneOnChain (next_at slots) (slice_index_or heads b None) room (λ k. point_at slots k ≡ Some p))
      → IfNone o ((i : ℕ) (k : Kept R) → kept_at view i ≡ Some k → k.bucket ≡ b → k.point ≢ p)
  find_absent view heads slots room b p (Some i) seen links lt long h = tt
  find_absent view heads slots room b p None seen links lt long h = λ i k there in_b same.
      let in_chain = links.every i b
      (kept_bucket (slice_index_or slots i None) k (sym (seen_at slots i) ∙ ap (λ ks. slice_index_or ks i None) seen ∙ there) ∙ ap Some in_b) in
      h (links.chains b) (links.linked b lt)
      (few_places (links.chains b) room (links.once b) (λ j a.
      let l = link_at slots j b (links.own b j a) in
      let inside = within_slots slots j l.0 l.1 in omega (arith, inside, long)))
      i in_chain.1 (sym (point_seen view slots i seen) ∙ ap (option_map (λ x. x.point)) there ∙ ap Some same)

-- an index within a list, whatever stands in for a missing one
pub index_is : {A : Type 0} (xs : List A) (i : ℕ) (x d : A) → i < length xs → x ≡ slice_index_or xs i x → slice_index_or xs i d ≡ x
index_is [] i x d lt h = absurd (omega (arith, lt))
index_is (y ∷ ys) zero x d lt h = sym h
index_is (y ∷ ys) (suc i) x d lt h = index_is ys i x d (omega (arith, lt)) h

pub nothing_there : (n i : ℕ) (x : Option ℕ) → slice_index_or (replicate n x) i x ≡ x
nothing_there zero i x = refl
nothing_there (suc n) zero x = refl
nothing_there (suc n) (suc i) x = nothing_there n i x
