-- Lists that a refused link tells have no point twice.
use Rattle.std.proofs.Common.{◌⊎◌, inl, inr, ℕ, zero, suc, ◌<◌, List, [], ◌∷◌, refl, sym, subst, ◌∙◌, arith}
use Rattle.std.specs.Prelude.{Contains}
use Rattle.inc_value.specs.declared.node.Point.{Point}
use Rattle.inc_value.specs.Choice as choice
use Rattle.inc_value.specs.Choice.{Among}
use Rattle.link_table.specs.Links.{Links, Reads}
use Rattle.height_order.specs.Chains.{ReadsWith, IsChain, IsPath, NoRepeats, Leads}
use Rattle.height_order.specs.Levels.{Rises}

-- ---- the two ways to say that no point stands twice

contained : (x : Point) (xs : List Point) → Among x xs → Contains xs x
contained x [] among = absurd among
contained x (y ∷ ys) (inl e) = (0, omega arith, sym e)
contained x (y ∷ ys) (inr among) = let c = contained x ys among in (suc c.0, omega (arith, c.1), c.2)

among : (x : Point) (xs : List Point) → Contains xs x → Among x xs
among x [] c = absurd (omega (arith, c.1))
among x (y ∷ ys) (zero, within, e) = inl (sym e)
among x (y ∷ ys) (suc k, within, e) = inr (among x ys (k, omega (arith, within), e))

pub once_as : (xs : List Point) → NoRepeats xs → choice.NoRepeats xs
once_as [] once = tt
once_as (x ∷ xs) once = (λ a. once.0 (contained x xs a), once_as xs once.1)

-- ---- chains

module _ (links : Links) (height : Point → ℕ) (rises : Rises (Reads links) height) (p q : Point) (apart : Leads (Reads links) q p → ⊥) where
  leads_on : (a b c : Point) → Reads links a b → Leads (Reads links) b c → Leads (Reads links) a c
  leads_on a b c reads ([], path) = absurd path.starts
  leads_on a b c reads (x ∷ rest, path) = (
    a ∷ x ∷ rest,
    record {
      chain = (subst (λ (y : Point). Reads links a y) (sym path.starts) reads, path.chain);
      starts = refl;
      ends = path.ends;
    },
  )

  leads_here : (a : Point) → Leads (Reads links) a a
  leads_here a = (a ∷ [], record { chain = (tt, tt); starts = refl; ends = refl })

  -- the one leads down to the other, or the new link stands between them
  abbrev Comes : Point → Point → Type 0
  Comes a b = (Leads (Reads links) a b × (height b < height a)) ⊎ (Leads (Reads links) a p × Leads (Reads links) q b)

  comes_first : (a b : Point) → ReadsWith links p q a b → Comes a b
  comes_first a b (inl reads) = inl (leads_on a b b reads (leads_here b), rises a b reads)
  comes_first a b (inr new) = inr (
    subst (λ (x : Point). Leads (Reads links) x p) (sym new.0) (leads_here p),
    subst (λ (x : Point). Leads (Reads links) q x) (sym new.1) (leads_here q),
  )

  comes_then : (a b c : Point) → ReadsWith links p q a b → Comes b c → Comes a c
  comes_then a b c (inl reads) (inl down) = inl (leads_on a b c reads down.0, let r = rises a b reads in let d = down.1 in omega (arith, r, d))
  comes_then a b c (inl reads) (inr between) = inr (leads_on a b p reads between.0, between.1)
  comes_then a b c (inr new) (inl down) = inr (
    subst (λ (x : Point). Leads (Reads links) x p) (sym new.0) (leads_here p),
    subst (λ (x : Point). Leads (Reads links) x c) new.1 down.0,
  )
  comes_then a b c (inr new) (inr between) = absurd (apart (subst (λ (x : Point). Leads (Reads links) x p) new.1 between.0))

  comes : (a : Point) (rest : List Point) → IsChain (ReadsWith links p q) (a ∷ rest) → (c : Point) → Among c rest → Comes a c
  comes a [] chain c at = absurd at
  comes a (b ∷ rest) chain c (inl e) = subst (Comes a) (sym e) (comes_first a b chain.0)
  comes a (b ∷ rest) chain c (inr at) = comes_then a b c chain.0 (comes b rest chain.1 c at)

  leads_then : (list : List Point) (a b c : Point) → IsPath (Reads links) list a b → Leads (Reads links) b c → Leads (Reads links) a c
  leads_then [] a b c path on = absurd path.starts
  leads_then (x ∷ []) a b c path on = subst (λ (y : Point). Leads (Reads links) y c) (sym path.ends ∙ path.starts) on
  leads_then (x ∷ y ∷ rest) a b c path on =
      subst (λ (z : Point). Leads (Reads links) z c) path.starts
      (leads_on x y c path.chain.0 (leads_then (y ∷ rest) y b c (record { chain = path.chain.1; starts = refl; ends = path.ends }) on))

  none_again : (a : Point) → Comes a a → ⊥
  none_again a (inl down) = let d = down.1 in omega (arith, d)
  none_again a (inr between) = apart (leads_then between.1.0 q a p between.1.1 between.0)

  -- where heights rise along the links, and q doesn't lead to p, no chain over them and a link from p to q has a point twice
  pub chain_once : (list : List Point) → IsChain (ReadsWith links p q) list → NoRepeats list
  chain_once [] chain = tt
  chain_once (a ∷ rest) chain = (λ c. none_again a (comes a rest chain a (among a rest c)), chain_once rest chain.1)
