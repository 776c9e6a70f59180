-- The test of need is exact.
use Rattle.std.proofs.Common.{◌≡◌, ◌⊎◌, inl, inr, ℕ, zero, suc, ◌+◌, ◌<◌, ◌≤◌, ◌&&◌, Bool, true, false, cond, List, [], ◌∷◌, refl, sym, subst, ◌∙◌, arith, not, Option, Some}
use Rattle.inc_value.specs.declared.node.Part.{Part}
use Rattle.inc_value.specs.declared.node.Part.TheVariants.{Main, Change}
use Rattle.node_outcomes.specs.declared.row.Stage.{Stage}
use Rattle.node_outcomes.specs.declared.row.Stage.TheVariants as code
use Rattle.std.specs.Prelude.{◌==◌, ◌↔◌, Contains}
use Rattle.std.specs.List.{list_any}
use Rattle.std.proofs.lemmas.Bool.Decides.{nat_tests}
use Rattle.inc_value.specs.declared.node.Point.{Point}
use Rattle.point_map.specs.Rows.{same_point}
use Rattle.point_map.proofs.Places.{same_point_eq, same_point_self}
use Rattle.link_table.specs.declared.link.Link.{Link}
use Rattle.link_table.specs.Links.{link, same_link, Reads, KeepsLinks}
use Rattle.height_order.specs.Levels.{level}
use Rattle.necessity.specs.Need.{root_times, KeepsRoots}
use Rattle.necessity.proofs.Counts.{split, both, counted, same_link_self}
use Rattle.necessary_graph.specs.Part.{NecessaryPart, Needed, IsInStep}
use Rattle.necessary_graph.proofs.Found.{link_found}
use Rattle.necessary_graph.proofs.Reaching.{root_needed, read_needed, needed_has, needed_more}
use Rattle.wiring.specs.Deciding.{needed_within, is_needed}

module _ {X : Type 0} (f : X → Bool) where
  -- one of the list passes a test that some do
  any_found : (xs : List X) → list_any f xs ≡ true → (x : X) × Contains xs x × (f x ≡ true)
  any_found [] h = absurd (let e = h in cc)
  any_found (y ∷ ys) h = elim (split (f y)) [
    | inl passes ↦ (y, (0, omega arith, refl), passes)
    | inr fails ↦ let less : list_any f ys ≡ true = rw fails at h in let rest = any_found ys less in
        (rest.0, (suc rest.1.0, omega (arith, rest.1.1), rest.1.2), rest.2)
  ]

  found_any : (xs : List X) (x : X) → Contains xs x → f x ≡ true → list_any f xs ≡ true
  found_any [] x h t = absurd (omega (arith, h.1))
  found_any (y ∷ ys) x (zero, below, e) t = let passes : f y ≡ true = rw e t in rw passes refl
  found_any (y ∷ ys) x (suc k, below, e) t =
      let rest = found_any ys x (k, omega (arith, below), e) t in elim (split (f y)) [ inl passes ↦ rw passes refl | inr fails ↦ rw fails rest ]

-- a root, or the other test passes
by_root : (n : ℕ) (b : Bool) → cond (n == 0) b true ≡ true → (0 < n) ⊎ (b ≡ true)
by_root zero b h = inr h
by_root (suc n) b h = inl (omega arith)

of_root : (n : ℕ) (b : Bool) → 0 < n → cond (n == 0) b true ≡ true
of_root n b h = grind (arith, nat_tests)

of_other : (n : ℕ) (b : Bool) → b ≡ true → cond (n == 0) b true ≡ true
of_other n b h = grind (arith, nat_tests)

module _ (g : NecessaryPart) where
  -- the point is linked to by one that passes
  abbrev linked_by : ℕ → Point → Link → Bool
  linked_by d p l = same_point l.kid p && needed_within g d l.reader

  -- who passes the test at some depth is needed
  within_needed : (d : ℕ) (p : Point) → needed_within g d p ≡ true → Needed g p
  within_needed zero p h = absurd (let e = h in cc)
  within_needed (suc d) p h = elim (by_root (root_times g.roots p) (list_any (linked_by d p) g.links.all) h) [
    | inl root ↦ root_needed g p root
    | inr some ↦
        let f = any_found (linked_by d p) g.links.all some in
        let l = f.0 in
        let tests = both (same_point l.kid p) (needed_within g d l.reader) f.2 in
        let reads : Reads g.links l.reader l.kid = counted (same_link l.reader l.kid) g.links.all l f.1 (same_link_self l.reader l.kid) in
        subst (λ (x : Point). Needed g x) (same_point_eq l.kid p tests.0) (read_needed g l.reader l.kid (within_needed d l.reader tests.1) reads)
  ]

  -- a point passes at each depth that is as far from 129 as its height
  abbrev PassesBelow : Point → Type 0
  PassesBelow p = (d : ℕ) → 129 ≤ level g.heights p + d → needed_within g d p ≡ true

  module _ (step_is : IsInStep g) where
    root_passes : (p : Point) → 0 < root_times g.roots p → PassesBelow p
    root_passes p root zero far = absurd (let low = step_is.low p in omega (arith, low, far))
    root_passes p root (suc d) far = of_root (root_times g.roots p) (list_any (linked_by d p) g.links.all) root

    read_passes : (a b : Point) → Reads g.links a b → PassesBelow a → PassesBelow b
    read_passes a b reads passes zero far = absurd (let low = step_is.low b in omega (arith, low, far))
    read_passes a b reads passes (suc d) far =
        let rises = step_is.rises a b reads in
        let above : needed_within g d a ≡ true = passes d (omega (arith, rises, far)) in
        let both_pass : linked_by d b (link a b) ≡ true = rw (same_point_self b, above) refl in
        of_other (root_times g.roots b) (list_any (linked_by d b) g.links.all)
        (found_any (linked_by d b) g.links.all (link a b) (link_found g.links.all a b reads) both_pass)

    -- who is needed passes within 129
    needed_passes : (p : Point) → Needed g p → PassesBelow p
    needed_passes p n = needed_has g PassesBelow root_passes read_passes p n

    passes_at : (n : ℕ) → 129 ≤ n → (p : Point) → Needed g p → needed_within g n p ≡ true
    passes_at n enough p need = needed_passes p need n (omega (arith, enough))

    -- the test is exact
    pub decides_needed : (p : Point) → (is_needed g p ≡ true) ↔ Needed g p
    unfolding is_needed
    decides_needed p = (within_needed 129 p, passes_at 129 (omega arith) p)

-- ---- the same need

-- the same roots and links need the same
pub need_same : (g h : NecessaryPart) → h.links ≡ g.links → h.roots ≡ g.roots → (p : Point) → Needed g p → Needed h p
need_same g h links roots p n = needed_more g h (λ a r. rw roots r) (λ a b l. rw links l) p n

pub same_need : (g h : NecessaryPart) → KeepsRoots g.roots h.roots → KeepsLinks g.links h.links → (p : Point) → Needed h p ↔ Needed g p
same_need g h roots links p = (
  λ n. needed_more h g (λ a r. let e = roots a in omega (arith, e, r)) (λ a b r. let e = links a b in omega (arith, e, r)) p n,
  λ n. needed_more g h (λ a r. let e = roots a in omega (arith, e, r)) (λ a b r. let e = links a b in omega (arith, e, r)) p n,
)

pub not_both : (b : Bool) → b ≡ false → b ≡ true → ⊥
not_both b f t = absurd (let e = sym f ∙ t in cc)

-- two tests of a point that is needed still
pub still_tests : (gated b : Bool) (N G : Type 0) → gated ≡ false → N → (b ≡ true) ↔ G → (not b ≡ true) ↔ (N × (G → gated ≡ true))
still_tests gated true N G f n both = ((λ t. absurd (let e = t in cc)), (λ k. absurd (let t = k.1 (both.0 refl) in let g = f in cc)))
still_tests gated false N G f n both = ((λ t. (n, λ g. absurd (let e = both.1 g in cc))), (λ k. refl))

-- either of two tests
pub by_first : (a : Bool) (A B : Type 0) → (a ≡ true) ↔ A → a ≡ true → (a ≡ true) ↔ (A ⊎ B)
by_first a A B both t = ((λ h. inl (both.0 h)), (λ k. t))

pub by_second : (a b : Bool) (A B : Type 0) → (a ≡ true) ↔ A → (b ≡ true) ↔ B → a ≡ false → (b ≡ true) ↔ (A ⊎ B)
by_second a b A B first second f = (
  (λ h. inr (second.0 h)),
  (λ k. elim k [ inl h ↦ absurd (let t = first.1 h in let g = f in cc) | inr h ↦ second.1 h ]),
)

-- ---- what isn't two things at once

pub not_main : (x : Part) → x ≡ Change → x ≡ Main → ⊥
not_main x e m = absurd (let h = sym e ∙ m in cc)

pub gated_not_full : (x : Option Stage) → x ≡ Some code.Gated → x ≡ Some code.Full → ⊥
gated_not_full x g f = absurd (let h = sym g ∙ f in cc)

pub static_not_full : (x : Option Stage) → x ≡ Some code.Static → x ≡ Some code.Full → ⊥
static_not_full x s f = absurd (let h = sym s ∙ f in cc)
