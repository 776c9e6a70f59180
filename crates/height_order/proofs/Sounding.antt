-- What stands between two calls, kept by each.
use Rattle.std.proofs.Common.{◌≡◌, ◌≢◌, ◌∙◌, ℕ, zero, suc, ◌+◌, ◌<◌, ◌≤◌, List, [], ◌∷◌, ◌++◌, refl, ap, sym, subst, inl, inr, arith}
use Rattle.std.specs.Prelude.{◌⊎◌, Some, None, Result, Ok, Err, OnOk, OnErr, IsSome}
use Rattle.inc_value.specs.declared.node.Point.{Point}
use Rattle.point_map.specs.Rows.{Rows, at, Holds, Changes, KeepsRows}
use Rattle.point_map.proofs.Places.{point_cases}
use Rattle.link_table.specs.Links.{Links, times, link, Reads, KeepsLinks, OneLinkMore}
use Rattle.height_order.specs.declared.lifts.Lift.{Lift}
use Rattle.height_order.specs.Answers.{IsNear}
use Rattle.height_order.specs.Chains.{ReadsWith, Leads, HasChain}
use Rattle.height_order.specs.Levels.{level, or_zero, Rises, AllLow, Ends, AreSoundHeights, KeepsPoints, Tells}
use Rattle.height_order.specs.Climbs.{lifted, IsAsked, AllAsked, IsClimbed}
use Rattle.height_order.proofs.Points.{level_other, level_kept, still_there, row_there, there_cases}
use Rattle.height_order.proofs.Chaining.{path_falls, no_long_chain, leads_more, leads_self, leads_before}
use Rattle.height_order.proofs.Lifting.{lifted_none}

sound_kept : (old new : Rows ℕ) (links : Links) → ((p : Point) → level new p ≡ level old p) → ((p : Point) → Holds old p → Holds new p)
    → AreSoundHeights old links → AreSoundHeights new links
sound_kept old new links same there s = record {
  ends = λ p q r. let e = s.ends p q r in (there p e.0, there q e.1);
  rises = λ p q r. let h = s.rises p q r in let a = same p in let b = same q in omega (arith, h, a, b);
  low = λ p. let h = s.low p in let a = same p in omega (arith, h, a);
}

-- an end of a link is there, so it isn't the point that is added
end_differs : (old : Rows ℕ) (p a : Point) → at old p ≡ None → Holds old a → a ≢ p
end_differs old p a none there e = absurd (let h = subst IsSome none (subst (λ x. IsSome (at old x)) e there) in cc)

added_low : (old new : Rows ℕ) (p q : Point) (h : ℕ) → Changes old new p (Some h) → h ≤ 128 → level old q ≤ 128 → (q ≡ p) ⊎ (q ≢ p) → level new q ≤ 128
added_low old new p q h c most low (inl e) = let z = ap or_zero c.changed in let a = ap (level new) e in omega (arith, z, a, most)
added_low old new p q h c most low (inr differs) = let s = level_other old new p q (Some h) c differs in omega (arith, s, low)

there_at : (old new : Rows ℕ) (p a : Point) (h : ℕ) → Changes old new p (Some h) → at old p ≡ None → Holds old a → Holds new a
there_at old new p a h c none there = subst IsSome (sym (c.others a (end_differs old p a none there))) there

-- an add at a height keeps it
pub sound_added_at : {A E : Type 0} → (r : Result A E) (old new : Rows ℕ) (p : Point) (h : ℕ) (links : Links) → OnOk r (Changes old new p (Some h)) → OnErr r (KeepsRows old new)
    → h ≤ 128 → at old p ≡ None → AreSoundHeights old links → AreSoundHeights new links
sound_added_at (Ok x) old new p h links c err most none s = record {
  ends = λ a b r. let e = s.ends a b r in (there_at old new p a h c none e.0, there_at old new p b h c none e.1);
  rises = λ a b r.
      let e = s.ends a b r in
      let up = s.rises a b r in
      let x = level_other old new p a (Some h) c (end_differs old p a none e.0) in
      let y = level_other old new p b (Some h) c (end_differs old p b none e.1) in omega (arith, up, x, y);
  low = λ q. added_low old new p q h c most (s.low q) (point_cases q p);
}
sound_added_at (Err x) old new p h links ok err most none s =
    sound_kept old new links (λ q. level_kept old new q err) (λ q there. subst IsSome (sym (err q)) there) s

-- no end of a link is a point without links
not_reader : (links : Links) (p a b : Point) → ((q : Point) → times links p q ≡ 0) → Reads links a b → a ≢ p
not_reader links p a b none r e = let z = none b in let f = ap (λ x. times links x b) e in omega (arith, r, z, f)

not_kid : (links : Links) (p a b : Point) → ((q : Point) → times links q p ≡ 0) → Reads links a b → b ≢ p
not_kid links p a b none r e = let z = none a in let f = ap (λ x. times links a x) e in omega (arith, r, z, f)

dropped_low : (old new : Rows ℕ) (p q : Point) → Changes old new p None → level old q ≤ 128 → (q ≡ p) ⊎ (q ≢ p) → level new q ≤ 128
dropped_low old new p q c low (inl e) = let z = ap or_zero c.changed in let a = ap (level new) e in omega (arith, z, a)
dropped_low old new p q c low (inr differs) = let s = level_other old new p q None c differs in omega (arith, s, low)

-- a drop of a point without links keeps it
pub sound_dropped : (old new : Rows ℕ) (p : Point) (links : Links) → Changes old new p None
    → ((q : Point) → times links p q ≡ 0) → ((q : Point) → times links q p ≡ 0) → AreSoundHeights old links → AreSoundHeights new links
sound_dropped old new p links c reads_none unread s = record {
  ends = λ a b r.
      let e = s.ends a b r in
      (subst IsSome (sym (c.others a (not_reader links p a b reads_none r))) e.0, subst IsSome (sym (c.others b (not_kid links p a b unread r))) e.1);
  rises = λ a b r.
      let h = s.rises a b r in
      let x = level_other old new p a None c (not_reader links p a b reads_none r) in
      let y = level_other old new p b None c (not_kid links p a b unread r) in omega (arith, h, x, y);
  low = λ q. dropped_low old new p q c (s.low q) (point_cases q p);
}

module _ (fewer more : Links) (p q : Point) (one : OneLinkMore fewer more p q) where
  from_by : (a b : Point) → Reads more a b → (a ≡ p) ⊎ (a ≢ p) → (b ≡ q) ⊎ (b ≢ q) → ReadsWith fewer p q a b
  from_by a b r (inl e) (inl f) = inr (e, f)
  from_by a b r (inr differs) either = inl (let o = one.others a b (λ e. differs (ap (λ l. l.reader) e)) in omega (arith, o, r))
  from_by a b r (inl e) (inr differs) = inl (let o = one.others a b (λ f. differs (ap (λ l. l.kid) f)) in omega (arith, o, r))

  -- what reads with one link more, read before or by that link
  pub reads_from : (a b : Point) → Reads more a b → ReadsWith fewer p q a b
  reads_from a b r = from_by a b r (point_cases a p) (point_cases b q)

  new_reads : Reads more p q
  new_reads = let e = one.raised in omega (arith, e)

  into_by : (a b : Point) → ReadsWith fewer p q a b → (a ≡ p) ⊎ (a ≢ p) → (b ≡ q) ⊎ (b ≢ q) → Reads more a b
  into_by a b r (inl e) (inl f) = subst (λ x. Reads more x b) (sym e) (subst (Reads more p) (sym f) new_reads)
  into_by a b (inl r) (inr differs) either = let o = one.others a b (λ e. differs (ap (λ l. l.reader) e)) in omega (arith, o, r)
  into_by a b (inl r) (inl e) (inr differs) = let o = one.others a b (λ f. differs (ap (λ l. l.kid) f)) in omega (arith, o, r)
  into_by a b (inr new) (inr differs) either = absurd (differs new.0)
  into_by a b (inr new) (inl e) (inr differs) = absurd (differs new.1)

  pub reads_into : (a b : Point) → ReadsWith fewer p q a b → Reads more a b
  reads_into a b r = into_by a b r (point_cases a p) (point_cases b q)

  -- one link less
  pub sound_less : (h : Rows ℕ) → AreSoundHeights h more → AreSoundHeights h fewer
  sound_less h s = record {
    ends = λ a b r. s.ends a b (reads_into a b (inl r));
    rises = λ a b r. s.rises a b (reads_into a b (inl r));
    low = s.low;
  }

  ends_by : (h : Rows ℕ) (a b : Point) → Ends h fewer → Holds h p → Holds h q → ReadsWith fewer p q a b → Holds h a × Holds h b
  ends_by h a b ends hp hq (inl r) = ends a b r
  ends_by h a b ends hp hq (inr new) = (subst (Holds h) (sym new.0) hp, subst (Holds h) (sym new.1) hq)

  -- the ends of all links are there where those of the new one are
  pub ends_more : (h : Rows ℕ) → Ends h fewer → Holds h p → Holds h q → Ends h more
  ends_more h ends hp hq a b r = ends_by h a b ends hp hq (reads_from a b r)

  -- one link more, along which new heights of the same points rise
  pub sound_more : (old new : Rows ℕ) → KeepsPoints old new → Ends old fewer → Holds old p → Holds old q → Rises (ReadsWith fewer p q) (level new)
      → AllLow (level new) → AreSoundHeights new more
  sound_more old new kept ends hp hq rises low = record {
    ends = λ a b r. let e = ends_by old a b ends hp hq (reads_from a b r) in (still_there old new a kept e.0, still_there old new b kept e.1);
    rises = λ a b r. rises a b (reads_from a b r);
    low = low;
  }

  rises_with : (h : Rows ℕ) → AreSoundHeights h more → Rises (ReadsWith fewer p q) (level h)
  rises_with h s a b r = s.rises a b (reads_into a b r)

  -- where the link was made, the kid didn't lead to the reader
  pub linked_no_path : (h : Rows ℕ) → AreSoundHeights h more → Leads (Reads fewer) q p → ⊥
  linked_no_path h s leads =
      let r = rises_with h s in
      let f = path_falls (ReadsWith fewer p q) (level h) r q p (leads_more (Reads fewer) (ReadsWith fewer p q) q p (λ a b c. inl c) leads) in
      let u = r p q (inr (refl, refl)) in omega (arith, f, u)

  -- where the link was made, no chain is too long
  pub linked_no_over : (h : Rows ℕ) → AreSoundHeights h more → HasChain (ReadsWith fewer p q) 130 → ⊥
  linked_no_over h s has = no_long_chain (ReadsWith fewer p q) (level h) (rises_with h s) s.low has

-- the same links
pub sound_same : (old new : Links) (h : Rows ℕ) → KeepsLinks old new → AreSoundHeights h old → AreSoundHeights h new
sound_same old new h kept s = record {
  ends = λ a b r. s.ends a b (let k = kept a b in omega (arith, k, r));
  rises = λ a b r. s.rises a b (let k = kept a b in omega (arith, k, r));
  low = s.low;
}

rises_higher_by : (h : Rows ℕ) (links : Links) (p q a b : Point) → AreSoundHeights h links → level h q < level h p → ReadsWith links p q a b → level h b < level h a
rises_higher_by h links p q a b s up (inl r) = s.rises a b r
rises_higher_by h links p q a b s up (inr new) = let e = ap (level h) new.0 in let f = ap (level h) new.1 in omega (arith, e, f, up)

-- one link more, from a point to a lower one
pub sound_higher : (h : Rows ℕ) (links more : Links) (p q : Point) → OneLinkMore links more p q → AreSoundHeights h links → Holds h p → Holds h q → level h q < level h p
    → AreSoundHeights h more
sound_higher h links more p q one s hp hq up =
    sound_more links more p q one h h (λ x. refl) s.ends hp hq (λ a b r. rises_higher_by h links p q a b s up r) s.low

-- where a link is put on and taken off again, all are there as before
pub on_and_off : (old mid new : Links) (p q : Point) → OneLinkMore old mid p q → OneLinkMore new mid p q → KeepsLinks old new
on_and_off old mid new p q on off a b = by (point_cases a p) (point_cases b q)
  where
    others : link a b ≢ link p q → times new a b ≡ times old a b
    others differs = let e = on.others a b differs in let f = off.others a b differs in omega (arith, e, f)

    by : (a ≡ p) ⊎ (a ≢ p) → (b ≡ q) ⊎ (b ≢ q) → times new a b ≡ times old a b
    by (inl e) (inl f) =
        let x = on.raised in let y = off.raised in
        let g : times new p q ≡ times old p q = omega (arith, x, y) in
        subst (λ z. times new z b ≡ times old z b) (sym e) (subst (λ z. times new p z ≡ times old p z) (sym f) g)
    by (inr differs) either = others (λ e. differs (ap (λ l. l.reader) e))
    by (inl e) (inr differs) = others (λ e. differs (ap (λ l. l.kid) e))

module _ (heights : Rows ℕ) (links : Links) (p q : Point) (lifts : Rows Lift) (sound : AreSoundHeights heights links) (asked : AllAsked links p q lifts) where
  up_from : (k : ℕ) (x kid : Point) → ((y : Point) → level heights y < k → Holds lifts y → Leads (Reads links) y p) → level heights x < suc k
      → IsAsked links p q lifts x kid → Leads (Reads links) x p
  up_from k x kid next low (inl new) = subst (λ z. Leads (Reads links) z p) (sym new.0) (leads_self (Reads links) p)
  up_from k x kid next low (inr w) =
      leads_before (Reads links) x kid p w.0 (next kid (let u = sound.rises x kid w.0 in omega (arith, u, low)) w.1)

  up_by : (k : ℕ) (x : Point) → level heights x < k → Holds lifts x → Leads (Reads links) x p
  up_by zero x low there = absurd (omega (arith, low))
  up_by (suc k) x low there = let r = row_there lifts x there in up_from k x r.0.kid (λ y l t. up_by k y l t) low (asked x r.0 r.1)

  -- each lifted point leads to the new link's reader
  pub leads_reader : (x : Point) → Holds lifts x → Leads (Reads links) x p
  leads_reader x there = up_by (level heights x + 1) x (omega arith) there

module _ (old new : Rows ℕ) (links : Links) (p q : Point) (lifts : Rows Lift) (sound : AreSoundHeights old links) (climbed : IsClimbed old links p q lifts)
    (fits : (x : Point) → Holds lifts x → lifted old lifts x ≤ 128) (written : (x : Point) → level new x ≡ lifted old lifts x) where
  low_by : (x : Point) → (at lifts x ≡ None) ⊎ Holds lifts x → lifted old lifts x ≤ 128
  low_by x (inl none) = let e = lifted_none old lifts x none in let s = sound.low x in omega (arith, e, s)
  low_by x (inr there) = fits x there

  all_low : (x : Point) → lifted old lifts x ≤ 128
  all_low x = low_by x (there_cases lifts x)

  lifted_low : AllLow (level new)
  lifted_low x = let a = all_low x in let w = written x in omega (arith, a, w)

  lifted_rises : Rises (ReadsWith links p q) (level new)
  lifted_rises a b r =
      let u = climbed.rises a b r (all_low a) in let v = written a in let w = written b in omega (arith, u, v, w)

  -- the link over lifted heights that fit
  pub sound_lifted : (more : Links) → OneLinkMore links more p q → KeepsPoints old new → Holds old p → Holds old q → AreSoundHeights new more
  sound_lifted more one kept hp hq = sound_more links more p q one old new kept sound.ends hp hq lifted_rises lifted_low

  differs_by : (x : Point) → (at lifts x ≡ None) ⊎ Holds lifts x → level new x ≢ level old x → Holds lifts x
  differs_by x (inl none) differs = absurd (differs (written x ∙ lifted_none old lifts x none))
  differs_by x (inr there) differs = there

  -- they lead to the new link's reader
  pub lifted_near : (x : Point) → level new x ≢ level old x → IsNear links p q x
  lifted_near x differs = record {
    top = x;
    above = inr (leads_reader old links p q lifts sound climbed.asked x (differs_by x (there_cases lifts x) differs));
    leads = leads_self (Reads links) x;
  }

append_none : (list : List Point) → list ≡ list ++ []
append_none [] = refl
append_none (x ∷ list) = ap (λ xs. x ∷ xs) (append_none list)

-- nothing changed, and nothing is told
pub tells_none : (old new : Point → ℕ) (list : List Point) → ((p : Point) → new p ≡ old p) → Tells old new list list
tells_none old new list same = record {
  list = [];
  appended = append_none list;
  moved = record {
    once = tt;
    changed = λ p has. absurd (let lt = has.1 in omega (arith, lt));
    every = λ p differs. absurd (differs (same p));
  };
}
