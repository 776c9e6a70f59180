-- Chains, and heights along them.
use Rattle.std.proofs.Common.{◌≡◌, ◌∙◌, ℕ, zero, suc, ◌+◌, ◌-◌, ◌<◌, ◌≤◌, List, [], ◌∷◌, ◌++◌, length, refl, ap, sym, subst, inl, inr, arith}
use Rattle.std.specs.Prelude.{◌⊎◌, slice_index_or}
use Rattle.inc_value.specs.declared.node.Point.{Point}
use Rattle.link_table.specs.Links.{Links, Reads}
use Rattle.height_order.specs.Chains.{Reading, ReadsWith, IsChain, StartsAt, EndsAt, IsPath, Leads, HasChain, NoRepeats, NoneLonger, IsLongest}
use Rattle.height_order.specs.Levels.{Rises, AllLow}

module _ (R : Reading) where
  -- a chain with one more point
  pub chain_push : (xs : List Point) (x y : Point) → IsChain R xs → EndsAt xs x → R x y → IsChain R (xs ++ y ∷ [])
  chain_push [] x y chain ends reads = absurd ends
  chain_push (a ∷ []) x y chain ends reads = (subst (λ z. R z y) (sym ends) reads, (tt, tt))
  chain_push (a ∷ b ∷ rest) x y chain ends reads = (chain.0, chain_push (b ∷ rest) x y chain.1 ends reads)

  pub ends_push : (xs : List Point) (y : Point) → EndsAt (xs ++ y ∷ []) y
  ends_push [] y = refl
  ends_push (a ∷ []) y = refl
  ends_push (a ∷ b ∷ rest) y = ends_push (b ∷ rest) y

  starts_push : (xs : List Point) (a y : Point) → StartsAt xs a → StartsAt (xs ++ y ∷ []) a
  starts_push [] a y starts = absurd starts
  starts_push (x ∷ rest) a y starts = starts

  -- a path with one more point
  pub path_push : (xs : List Point) (a x y : Point) → IsPath R xs a x → R x y → IsPath R (xs ++ y ∷ []) a y
  path_push xs a x y path reads = record {
    chain = chain_push xs x y path.chain path.ends reads;
    starts = starts_push xs a y path.starts;
    ends = ends_push xs y;
  }

  module _ (height : Point → ℕ) (rises : Rises R height) where
    -- a chain of n points starts n - 1 high
    pub chain_high : (p : Point) (rest : List Point) → IsChain R (p ∷ rest) → length rest ≤ height p
    chain_high p [] chain = omega arith
    chain_high p (q ∷ rest) chain = let h = chain_high q rest chain.1 in let r = rises p q chain.0 in omega (arith, h, r)

    no_long : (list : List Point) → AllLow height → IsChain R list → length list ≡ 130 → ⊥
    no_long [] low chain long = omega (arith, long)
    no_long (p ∷ rest) low chain long = let h = chain_high p rest chain in let l = low p in omega (arith, h, l, long)

    -- where heights are low, no chain has 130 points
    pub no_long_chain : AllLow height → HasChain R 130 → ⊥
    no_long_chain low has = no_long has.0 low has.1 has.2

    walk_down : (x : Point) (rest : List Point) (p q : Point) → IsChain R (x ∷ rest) → x ≡ p → EndsAt (x ∷ rest) q → height q ≤ height p
    walk_down x [] p q chain starts ends = let a = ap height starts in let b = ap height ends in omega (arith, a, b)
    walk_down x (y ∷ rest) p q chain starts ends =
        let h = walk_down y rest y q chain.1 refl ends in
        let r = rises x y chain.0 in
        let a = ap height starts in omega (arith, h, r, a)

    falls : (list : List Point) (p q : Point) → IsPath R list p q → height q ≤ height p
    falls [] p q path = absurd path.starts
    falls (x ∷ rest) p q path = walk_down x rest p q path.chain path.starts path.ends

    -- the end of a path is no higher than its start
    pub path_falls : (p q : Point) → Leads R p q → height q ≤ height p
    path_falls p q leads = falls leads.0 p q leads.1

    -- each point of a chain after the first is lower than it
    later_lower : (p : Point) (rest : List Point) (k : ℕ) (x : Point) → IsChain R (p ∷ rest) → k < length rest → slice_index_or rest k x ≡ x → height x < height p
    later_lower p [] k x chain less at_k = absurd (omega (arith, less))
    later_lower p (q ∷ rest) zero x chain less at_k = let r = rises p q chain.0 in let e = ap height at_k in omega (arith, r, e)
    later_lower p (q ∷ rest) (suc k) x chain less at_k =
        let r = rises p q chain.0 in
        let h = later_lower q rest k x chain.1 (omega (arith, less)) at_k in omega (arith, r, h)

    -- no chain has a point twice
    pub chain_once : (list : List Point) → IsChain R list → NoRepeats list
    chain_once [] chain = tt
    chain_once (p ∷ rest) chain = ((λ c. let h = later_lower p rest c.0 p chain c.1 c.2 in omega (arith, h)), chain_once rest chain.1)

    -- no chain goes over more links than its start is high
    pub none_longer_by : (p : Point) → NoneLonger R p (height p)
    none_longer_by p [] chain starts = absurd starts
    none_longer_by p (x ∷ rest) chain starts = let h = chain_high x rest chain in let e = ap height starts in omega (arith, h, e)

  -- a chain behind a point that reads its first
  pub chain_before : (p k : Point) (list : List Point) → R p k → StartsAt list k → IsChain R list → IsChain R (p ∷ list)
  chain_before p k [] reads starts chain = absurd starts
  chain_before p k (x ∷ rest) reads starts chain = (subst (R p) (sym starts) reads, chain)

  -- no chain of what a point reads goes over more than one link less
  pub shorter : (p k : Point) (n : ℕ) → NoneLonger R p n → R p k → NoneLonger R k (n - 1)
  shorter p k n short reads list chain starts =
      let h = short (p ∷ list) (chain_before p k list reads starts chain) refl in omega (arith, h)

  -- a point that reads another has a chain over a link
  pub some_link : (p k : Point) (n : ℕ) → NoneLonger R p n → R p k → 0 < n
  some_link p k n short reads = let h = short (p ∷ k ∷ []) (reads, (tt, tt)) refl in omega (arith, h)

  pub longest_under : (p : Point) (m n : ℕ) → IsLongest R p m → NoneLonger R p n → m ≤ n
  longest_under p m n so short = let h = short so.list so.chain so.starts in let e = so.long in omega (arith, h, e)

  -- the longest chain of what a point reads is shorter
  pub longest_falls : (p k : Point) (m n : ℕ) → IsLongest R p m → IsLongest R k n → R p k → n < m
  longest_falls p k m n so of_k reads =
      let h = so.none_longer (p ∷ of_k.list) (chain_before p k of_k.list reads of_k.starts of_k.chain) refl in
      let e = of_k.long in omega (arith, h, e)

  -- no chain of what p reads goes over m links
  abbrev pub AllShorter : Point → ℕ → Type 0
  AllShorter p m = (k : Point) → R p k → (n : ℕ) × NoneLonger R k n × (n < m)

  -- a point that p reads has a longest chain over at most one link less than m
  pub record IsNearest (p : Point) (m : ℕ) : Type 0 where
    pub kid : Point
    pub reads : R p kid
    pub level : ℕ
    pub longest : IsLongest R kid level
    pub near : m ≤ level + 1

  over_none_longer : (p : Point) (m : ℕ) → AllShorter p m → NoneLonger R p m
  over_none_longer p m all [] chain starts = absurd starts
  over_none_longer p m all (x ∷ []) chain starts = omega arith
  over_none_longer p m all (x ∷ y ∷ rest) chain starts =
      let w = all y (subst (λ z. R z y) starts chain.0) in
      let h = w.1 (y ∷ rest) chain.1 refl in
      let lt = w.2 in omega (arith, h, lt)

  zero_or_more : (m : ℕ) → (m ≡ 0) ⊎ (0 < m)
  zero_or_more m = grind arith

  over_by : (p : Point) (m : ℕ) → AllShorter p m → (0 < m → IsNearest p m) → (m ≡ 0) ⊎ (0 < m) → IsLongest R p m
  over_by p m all near (inl none) = record {
    list = p ∷ [];
    chain = (tt, tt);
    starts = refl;
    long = omega (arith, none);
    none_longer = over_none_longer p m all;
  }
  over_by p m all near (inr some) =
      let s = near some in
      let w = all s.kid s.reads in
      record {
        list = p ∷ s.longest.list;
        chain = chain_before p s.kid s.longest.list s.reads s.longest.starts s.longest.chain;
        starts = refl;
        long = (
            let a = s.longest.long in
            let b = s.near in
            let c = w.2 in
            let d = longest_under s.kid s.level w.0 s.longest w.1 in omega (arith, a, b, c, d)
            );
        none_longer = over_none_longer p m all;
      }

  -- one link more than the longest chain of all that p reads
  pub longest_over : (p : Point) (m : ℕ) → AllShorter p m → (0 < m → IsNearest p m) → IsLongest R p m
  longest_over p m all near = over_by p m all near (zero_or_more m)

  pub leads_self : (p : Point) → Leads R p p
  leads_self p = (p ∷ [], record { chain = (tt, tt); starts = refl; ends = refl })

  ends_before : (p : Point) (list : List Point) (x : Point) → EndsAt list x → EndsAt (p ∷ list) x
  ends_before p [] x ends = absurd ends
  ends_before p (a ∷ rest) x ends = ends

  pub leads_before : (p k x : Point) → R p k → Leads R k x → Leads R p x
  leads_before p k x reads leads = (
    p ∷ leads.0,
    record {
      chain = chain_before p k leads.0 reads leads.1.starts leads.1.chain;
      starts = refl;
      ends = ends_before p leads.0 x leads.1.ends;
    },
  )

  module _ (P : Point → Type 0) (closed : (a b : Point) → P a → R a b → P b) where
    along_by : (list : List Point) (p x : Point) → IsChain R list → StartsAt list p → EndsAt list x → P p → P x
    along_by [] p x chain starts ends here = absurd starts
    along_by (a ∷ []) p x chain starts ends here = subst P (sym starts ∙ ends) here
    along_by (a ∷ b ∷ rest) p x chain starts ends here = along_by (b ∷ rest) b x chain.1 refl ends (closed a b (subst P (sym starts) here) chain.0)

    -- what holds of a point holds of all that it leads to
    pub along : (p x : Point) → P p → Leads R p x → P x
    along p x here leads = along_by leads.0 p x leads.1.chain leads.1.starts leads.1.ends here

  -- the longest chain of what a point leads to is no longer
  pub longest_along : (k x : Point) (n m : ℕ) → IsLongest R k n → IsLongest R x m → Leads R k x → m ≤ n
  longest_along k x n m of_k of_x leads = along_longest leads.0 k leads.1.chain leads.1.starts leads.1.ends n of_k.none_longer
    where
      along_longest : (list : List Point) (y : Point) → IsChain R list → StartsAt list y → EndsAt list x → (l : ℕ) → NoneLonger R y l → m ≤ l
      along_longest [] y chain starts ends l short = absurd starts
      along_longest (a ∷ []) y chain starts ends l short = longest_under x m l of_x (subst (λ z. NoneLonger R z l) (sym starts ∙ ends) short)
      along_longest (a ∷ b ∷ rest) y chain starts ends l short =
          let h = along_longest (b ∷ rest) b chain.1 refl ends (l - 1) (shorter y b l short (subst (λ z. R z b) starts chain.0)) in omega (arith, h)

-- a chain over some links is one over more
pub chain_more : (R S : Reading) (list : List Point) → ((a b : Point) → R a b → S a b) → IsChain R list → IsChain S list
chain_more R S [] more chain = tt
chain_more R S (x ∷ []) more chain = (tt, tt)
chain_more R S (x ∷ y ∷ rest) more chain = (more x y chain.0, chain_more R S (y ∷ rest) more chain.1)

pub leads_more : (R S : Reading) (p q : Point) → ((a b : Point) → R a b → S a b) → Leads R p q → Leads S p q
leads_more R S p q more leads =
    (leads.0, record { chain = chain_more R S leads.0 more leads.1.chain; starts = leads.1.starts; ends = leads.1.ends })

module _ (links : Links) (p q : Point) where
  split_by : (a b x : Point) → ReadsWith links p q a b → Leads (Reads links) b x ⊎ Leads (Reads links) q x → Leads (Reads links) a x ⊎ Leads (Reads links) q x
  split_by a b x reads (inr leads) = inr leads
  split_by a b x (inl reads) (inl leads) = inl (leads_before (Reads links) a b x reads leads)
  split_by a b x (inr new) (inl leads) = inr (subst (λ z. Leads (Reads links) z x) new.1 leads)

  split : (list : List Point) (a x : Point) → IsChain (ReadsWith links p q) list → StartsAt list a → EndsAt list x → Leads (Reads links) a x ⊎ Leads (Reads links) q x
  split [] a x chain starts ends = absurd starts
  split (c ∷ []) a x chain starts ends = inl (subst (Leads (Reads links) a) (sym starts ∙ ends) (leads_self (Reads links) a))
  split (c ∷ d ∷ rest) a x chain starts ends =
      split_by a d x (subst (λ z. ReadsWith links p q z d) starts chain.0) (split (d ∷ rest) d x chain.1 refl ends)

  -- what is led to over one link more is led to without it, from the same point or from that link's kid
  pub leads_split : (a x : Point) → Leads (ReadsWith links p q) a x → Leads (Reads links) a x ⊎ Leads (Reads links) q x
  leads_split a x leads = split leads.0 a x leads.1.chain leads.1.starts leads.1.ends
