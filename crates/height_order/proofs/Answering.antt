-- What is left where a link is asked for, by what is told.
use Rattle.std.proofs.Common.{◌≡◌, ◌≢◌, ◌<◌, ◌≤◌, ℕ, List, [], length, refl, ap, sym, subst, inl, inr, arith}
use Rattle.std.specs.Global.{Vec}
use Rattle.std.specs.Prelude.{◌⊎◌, is_some, Some, None, Result, Ok, Err, OnOk, OnErr}
use Rattle.inc_value.specs.declared.node.Point.{Point}
use Rattle.point_map.specs.Rows.{Rows, at, Holds, KeepsRows}
use Rattle.link_table.specs.Links.{Links, Reads, KeepsLinks, OneLinkMore}
use Rattle.height_order.specs.declared.lifts.Lift.{Lift}
use Rattle.height_order.specs.declared.heights.LinkFault.TheVariants.{Path, Over, Memory}
use Rattle.height_order.specs.Chains.{ReadsWith, IsChain, IsPath, Leads}
use Rattle.height_order.specs.Levels.{Web, level, AllLow, Ends, AreSoundHeights, levelled, KeepsPoints, IsBelow, IsExactBelow, Tells, bound, AreLevels, AddsBelow}
use Rattle.height_order.specs.Climbs.{IsClimbed, IsRanked}
use Rattle.height_order.specs.Answers.{IsNear, IsLinkAnswer, IsFitted, AreEndsLevelled}
use Rattle.height_order.proofs.Points.{not_both, some_there, there_cases}
use Rattle.height_order.proofs.Chaining.{chain_once, leads_more, leads_self, leads_split, along}
use Rattle.height_order.proofs.Levelling.{none_at, height_under}
use Rattle.height_order.proofs.Sounding.{tells_none, linked_no_path, linked_no_over, leads_reader, reads_from}
use Rattle.height_order.proofs.Ranking.{leads_there, sound_levels, sound_again, now_longest, changed_there}

module _ (old : Web) (p q : Point) where
  near_top : (links : Links) → KeepsLinks old.links links → (top x : Point) → (top ≡ q) ⊎ Leads (Reads old.links) top p → Leads (Reads links) top x
      → IsNear old.links p q x
  near_top links same top x above leads = record {
    top = top;
    above = above;
    leads = leads_more (Reads links) (Reads old.links) top x (λ a b r. let k = same a b in omega (arith, k, r)) leads;
  }

  ends_near : (links : Links) → KeepsLinks old.links links → (x : Point) → IsBelow links p q x → IsNear old.links p q x
  ends_near links same x (inl leads) = near_top links same p x (inr (leads_self (Reads old.links) p)) leads
  ends_near links same x (inr leads) = near_top links same q x (inl refl) leads

module _ {A : Type 0} (old : Web) (p q : Point) (before : List Point) where
  -- there is no memory
  pub memory_told : (new : Web) (after : List Point) → KeepsLinks old.links new.links → new.heights ≡ old.heights → after ≡ before
      → AreSoundHeights new.heights new.links → IsLinkAnswer {A = A} old new p q before after (Err Memory)
  memory_told new after links heights untold sound = record {
    linked = tt;
    err = links;
    path = tt;
    path_once = tt;
    no_path = tt;
    over = tt;
    over_length = tt;
    over_no_path = tt;
    over_levelled = tt;
    over_rest = tt;
    no_over = tt;
    kept = λ x. ap (λ m. at m x) heights;
    still = λ _ x. ap (λ m. at m x) heights;
    near = λ x differs. absurd (differs (ap (λ m. level m x) heights));
    rises = sound.rises;
    low = sound.low;
    points = λ x. ap (λ m. is_some (at m x)) heights;
    moved = subst (Tells (level old.heights) (level new.heights) before) (sym untold)
        (tells_none (level old.heights) (level new.heights) before (λ x. ap (λ m. level m x) heights));
  }

  -- the kid leads to the reader
  pub path_told : (list : Vec Point) → AreSoundHeights old.heights old.links → IsPath (Reads old.links) list.items q p
      → IsLinkAnswer {A = A} old old p q before before (Err (Path list))
  path_told list sound path = record {
    linked = tt;
    err = λ a b. refl;
    path = path;
    path_once = chain_once (Reads old.links) (level old.heights) sound.rises list.items path.chain;
    no_path = tt;
    over = tt;
    over_length = tt;
    over_no_path = tt;
    over_levelled = tt;
    over_rest = tt;
    no_over = tt;
    kept = λ x. refl;
    still = λ _ x. refl;
    near = λ x differs. absurd (differs refl);
    rises = sound.rises;
    low = sound.low;
    points = λ x. refl;
    moved = tells_none (level old.heights) (level old.heights) before (λ x. refl);
  }

  -- with the link a chain would be too long, and what stands below its ends is levelled
  pub over_told : (new : Web) (after : List Point) (list : Vec Point) → level old.heights p ≤ level old.heights q → KeepsLinks old.links new.links
      → AreSoundHeights new.heights new.links → KeepsPoints old.heights new.heights → IsExactBelow new.heights new.links p q
      → ((x : Point) → level new.heights x ≢ level old.heights x → IsBelow new.links p q x)
      → Tells (level old.heights) (level new.heights) before after
      → IsChain (ReadsWith old.links p q) list.items → length list.items ≡ 130 → (Leads (Reads old.links) q p → ⊥)
      → IsLinkAnswer {A = A} old new p q before after (Err (Over list))
  over_told new after list not_higher links sound points exact near moved chain long no_path = record {
    linked = tt;
    err = links;
    path = tt;
    path_once = tt;
    no_path = tt;
    over = chain;
    over_length = long;
    over_no_path = no_path;
    over_levelled = exact;
    over_rest = near;
    no_over = tt;
    kept = tt;
    still = λ higher. absurd (omega (arith, higher, not_higher));
    near = λ x differs. ends_near old p q new.links links x (near x differs);
    rises = sound.rises;
    low = sound.low;
    points = points;
    moved = moved;
  }

  -- the link is made
  pub made_told : (new : Web) (after : List Point) (x : A) → OneLinkMore old.links new.links p q → AreSoundHeights new.heights new.links
      → (level old.heights q < level old.heights p → KeepsRows old.heights new.heights)
      → ((y : Point) → level new.heights y ≢ level old.heights y → IsNear old.links p q y) → KeepsPoints old.heights new.heights
      → Tells (level old.heights) (level new.heights) before after
      → IsLinkAnswer {A = A} old new p q before after (Ok x)
  made_told new after x linked sound still near points moved = record {
    linked = linked;
    err = tt;
    path = tt;
    path_once = tt;
    no_path = linked_no_path old.links new.links p q linked new.heights sound;
    over = tt;
    over_length = tt;
    over_no_path = tt;
    over_levelled = tt;
    over_rest = tt;
    no_over = linked_no_over old.links new.links p q linked new.heights sound;
    kept = tt;
    still = still;
    near = near;
    rises = sound.rises;
    low = sound.low;
    points = points;
    moved = moved;
  }

  -- the link is made, and heights stay
  pub made_still : (new : Web) (x : A) → OneLinkMore old.links new.links p q → AreSoundHeights new.heights new.links → new.heights ≡ old.heights
      → IsLinkAnswer {A = A} old new p q before before (Ok x)
  made_still new x linked sound same = made_told new before x linked sound (λ _ y. ap (λ m. at m y) same)
      (λ y differs. absurd (differs (ap (λ m. level m y) same))) (λ y. ap (λ m. is_some (at m y)) same)
      (tells_none (level old.heights) (level new.heights) before (λ y. ap (λ m. level m y) same))

-- what is led to over the links with the new one, by a point that is to be lifted, is near
pub fitted_near : (heights : Rows ℕ) (links more : Links) (p q : Point) (lifts : Rows Lift) → AreSoundHeights heights links → IsClimbed heights links p q lifts
    → OneLinkMore links more p q → (top x : Point) → Holds lifts top → Leads (Reads more) top x → IsNear links p q x
fitted_near heights links more p q lifts sound climbed one top x there leads =
    by (leads_split links p q top x (leads_more (Reads more) (ReadsWith links p q) top x (reads_from links more p q one) leads))
  where
    by : Leads (Reads links) top x ⊎ Leads (Reads links) q x → IsNear links p q x
    by (inl l) = record { top = top; above = inr (leads_reader heights links p q lifts sound climbed.asked top there); leads = l }
    by (inr l) = record { top = q; above = inl refl; leads = l }

module _ {A E : Type 0} (old : Rows ℕ) (links : Links) (p q : Point) (before : List Point) (sound : AreSoundHeights old links) where
  -- the ends are levelled
  pub ends_adopted : (r : Result A E) (levels new : Rows ℕ) (after : List Point) → AreLevels links (bound {R = Lift} old None) levels
      → ((x : Point) → IsBelow links p q x → Holds levels x)
      → ((x : Point) → Holds levels x → IsBelow links p q x)
      → OnOk r ((x : Point) → level new x ≡ levelled old levels x) → OnErr r (new ≡ old) → OnErr r (after ≡ before)
      → KeepsPoints old new → Tells (level old) (level new) before after → AreEndsLevelled old new links p q before after r
  ends_adopted (Ok u) levels new after so all below written err untold kept moved = record {
    sound = sound_again old levels new links (bound {R = Lift} old None) so written (λ x. let l = sound.low x in omega (arith, l)) sound kept;
    exact = λ x leads. now_longest old levels new links (bound {R = Lift} old None) so written x (all x leads);
    err = tt;
    points = kept;
    below = λ x differs. below x (changed_there old levels new links (bound {R = Lift} old None) so written x differs);
    moved = moved;
  }
  ends_adopted (Err e) levels new after so all below written err untold kept moved = record {
    sound = subst (λ m. AreSoundHeights m links) (sym err) sound;
    exact = tt;
    err = (err, untold);
    points = kept;
    below = λ x differs. absurd (differs (ap (λ m. level m x) err));
    moved = moved;
  }

-- what is levelled below two points, one after the other
module _ (links : Links) (none first both : Rows ℕ) (p q : Point) (n m : ℕ) (empty : none.places ≡ [])
    (closed : (a b : Point) → Holds both a → Reads links a b → Holds both b)
    (at_p : at first p ≡ Some n) (at_q : at both q ≡ Some m) (adds_p : AddsBelow links none first p) (adds_q : AddsBelow links first both q) where
  first_by : (x : Point) → Holds none x ⊎ Leads (Reads links) p x → Leads (Reads links) p x
  first_by x (inl there) = absurd (not_both (at none x) (none_at none x empty) there)
  first_by x (inr leads) = leads

  both_by : (x : Point) → Holds first x ⊎ Leads (Reads links) q x → IsBelow links p q x
  both_by x (inl there) = inl (first_by x (adds_p.below x there))
  both_by x (inr leads) = inr leads

  -- one of the two leads to each
  pub both_below : (x : Point) → Holds both x → IsBelow links p q x
  both_below x there = both_by x (adds_q.below x there)

  -- and all that they lead to is there
  pub both_all : (x : Point) → IsBelow links p q x → Holds both x
  both_all x (inl leads) = along (Reads links) (Holds both) closed p x (some_there (at both p) n (adds_q.kept p n at_p)) leads
  both_all x (inr leads) = along (Reads links) (Holds both) closed q x (some_there (at both q) m at_q) leads

  pub both_there : (heights : Rows ℕ) → Ends heights links → Holds heights p → Holds heights q → (x : Point) → Holds both x → Holds heights x
  both_there heights ends hp hq x there = by (both_below x there)
    where
      by : IsBelow links p q x → Holds heights x
      by (inl leads) = leads_there heights links p x ends hp leads
      by (inr leads) = leads_there heights links q x ends hq leads

module _ {E : Type 0} (old : Rows ℕ) (links : Links) (lifts : Rows Lift) (before : List Point) where
  -- there is no memory, so heights stay
  pub fitted_memory : (new : Rows ℕ) (after : List Point) (e : E) → new ≡ old → after ≡ before → KeepsPoints old new
      → Tells (level old) (level new) before after → IsFitted {E = E} old new links lifts before after (Err e)
  fitted_memory new after e same untold kept moved = record {
    sound = tt;
    chain = tt;
    chain_length = tt;
    kept = tt;
    err = (same, untold);
    points = kept;
    near = λ x differs. absurd (differs (ap (λ m. level m x) same));
    moved = moved;
  }

  -- a chain is too long, so heights stay
  pub fitted_chain : (list : Vec Point) → IsChain (Reads links) list.items → length list.items ≡ 130
      → IsFitted {E = E} old old links lifts before before (Ok (Some list))
  fitted_chain list chain long = record {
    sound = tt;
    chain = chain;
    chain_length = long;
    kept = (refl, refl);
    err = tt;
    points = λ x. refl;
    near = λ x differs. absurd (differs refl);
    moved = tells_none (level old) (level old) before (λ x. refl);
  }

-- lifted points are levelled, and fit
pub fitted_told : {E : Type 0} (old levels new : Rows ℕ) (links : Links) (lifts : Rows Lift) (before after : List Point)
    → AreLevels links (bound old (Some lifts)) levels → ((x : Point) → level new x ≡ levelled old levels x) → IsRanked (Reads links) old lifts → ((x : Point) → Holds lifts x → Holds levels x)
    → ((x : Point) → Holds levels x → (top : Point) × Holds lifts top × Leads (Reads links) top x)
    → Ends old links → AllLow (level old) → ((x : Point) → level levels x ≤ 128) → KeepsPoints old new → Tells (level old) (level new) before after
    → IsFitted {E = E} old new links lifts before after (Ok None)
fitted_told old levels new links lifts before after so written ranked each below ends low fits kept moved = record {
  sound = sound_levels old levels new links (bound old (Some lifts)) so written (height_under old lifts low) ranked.rank ranked.rises
      (λ x none. ranked.same x (no_lift x none (there_cases lifts x))) ends kept low (λ x there. fits x);
  chain = tt;
  chain_length = tt;
  kept = tt;
  err = tt;
  points = kept;
  near = λ x differs. below x (changed_there old levels new links (bound old (Some lifts)) so written x differs);
  moved = moved;
}
  where
    no_lift : (x : Point) → at levels x ≡ None → (at lifts x ≡ None) ⊎ Holds lifts x → at lifts x ≡ None
    no_lift x none (inl out) = out
    no_lift x none (inr there) = absurd (not_both (at levels x) none (each x there))
