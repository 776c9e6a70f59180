-- What a refused link says.
use Rattle.std.proofs.Common.{◌≡◌, ◌≢◌, ◌⊎◌, inl, inr, ℕ, ◌≤◌, ◌++◌, List, [], ◌∷◌, length, refl, sym, ap, subst, ◌∙◌, arith, length-append}
use Rattle.inc_value.specs.declared.node.Point.{Point}
use Rattle.link_table.specs.Links.{Links, Reads, KeepsLinks}
use Rattle.height_order.specs.Chains.{Reading, ReadsWith, IsChain, IsPath, Leads, NoRepeats, StartsAt, EndsAt}
use Rattle.height_order.specs.Faults.{IfPath, IfOver}
use Rattle.height_order.specs.Levels.{Rises}
use Rattle.height_order.specs.declared.heights.LinkFault.{LinkFault}
use Rattle.height_order.specs.declared.heights.LinkFault.TheVariants as fault
use Rattle.necessary_graph.proofs.Linking.{chain_as}
use Rattle.wiring.specs.Refusing.{IsHeightOf, IsCycleOf, IsWhy, TellsFault, IsBarred, by_chain, by_path, RefusedBy}
use Rattle.wiring.specs.declared.refused.Refused.{Refused}
use Rattle.wiring.specs.declared.refused.Refused.TheVariants.{Height, Cycle, Memory}
use Rattle.wiring.specs.declared.work.Work.{Work}
use Rattle.wiring.proofs.Once.{chain_once}

chain_back : (R S : Reading) → ((a b : Point) → R a b → S a b) → (p q : Point) → S p q → (list : List Point) → IsChain R list → EndsAt list p
    → IsChain S (list ++ q ∷ [])
chain_back R S more p q link [] chain ends = absurd ends
chain_back R S more p q link (a ∷ []) chain ends = (subst (λ (x : Point). S x q) (sym ends) link, (tt, tt))
chain_back R S more p q link (a ∷ b ∷ rest) chain ends = (more a b chain.0, chain_back R S more p q link (b ∷ rest) chain.1 ends)

starts_back : (list : List Point) (q : Point) → StartsAt list q → StartsAt (list ++ q ∷ []) q
starts_back [] q h = absurd h
starts_back (a ∷ rest) q h = h

ends_back : (list : List Point) (q : Point) → EndsAt (list ++ q ∷ []) q
ends_back [] q = refl
ends_back (a ∷ []) q = refl
ends_back (a ∷ b ∷ rest) q = ends_back (b ∷ rest) q

long_back : (list : List Point) (q : Point) → StartsAt list q → 2 ≤ length (list ++ q ∷ [])
long_back [] q h = absurd h
long_back (a ∷ rest) q h = let l = length-append rest (q ∷ []) in omega arith

module _ (work : Work) (p q : Point) (strict : work.retries ≡ 0) where
  told_height : (e : Refused) (list : List Point) → IsHeightOf list e → IsChain (ReadsWith work.graph.links p q) list → length list ≡ 130 → NoRepeats list
      → RefusedBy work p q e
  told_height (Height points) list items chain long once = record {
    chain = subst (λ (xs : List Point). IsChain (ReadsWith work.graph.links p q) xs) (sym items) chain;
    long = ap length items ∙ long;
    once = subst (λ (xs : List Point). NoRepeats xs) (sym items) once;
    strict = strict;
  }
  told_height _ list items chain long once = absurd items

  told_cycle : (e : Refused) (list : List Point) → IsCycleOf list q e → IsPath (Reads work.graph.links) list q p → NoRepeats list → RefusedBy work p q e
  told_cycle (Cycle points) list items path once = record {
    path = subst (λ (xs : List Point). IsPath (ReadsWith work.graph.links p q) xs q q) (sym items) (record {
      chain = chain_back (Reads work.graph.links) (ReadsWith work.graph.links p q) (λ a b r. inl r) p q (inr (refl, refl)) list path.chain path.ends;
      starts = starts_back list q path.starts;
      ends = ends_back list q;
    });
    front = list;
    comes_back = items;
    once = once;
    long = subst (λ (xs : List Point). 2 ≤ length xs) (sym items) (long_back list q path.starts);
    strict = strict;
  }
  told_cycle Memory list items path once = tt
  told_cycle _ list items path once = absurd items

-- where refusals are final, or there was no memory, a refusal says what the fault says
pub told : (work : Work) (p q : Point) (f : LinkFault) (e : Refused) → (work.retries ≡ 0) ⊎ (f ≡ fault.Memory) → TellsFault work p q f → IsWhy q f e
    → RefusedBy work p q e
told work p q fault.Memory e final tells why = subst (RefusedBy work p q) (sym why) tt
told work p q (fault.Over list) e (inl strict) tells why = told_height work p q strict e list.items why tells.0 tells.1 tells.2
told work p q (fault.Over list) e (inr none) tells why = absurd (let n = none in cc)
told work p q (fault.Path list) e (inl strict) tells why = told_cycle work p q strict e list.items why tells.0 tells.1
told work p q (fault.Path list) e (inr none) tells why = absurd (let n = none in cc)

-- a fault says the same of the same links
module _ (work : Work) (links : Links) (p q : Point) (same : KeepsLinks links work.graph.links) where
  read_still : (a b : Point) → Reads links a b → Reads work.graph.links a b
  read_still a b r = let e = same a b in omega (arith, e, r)

  with_still : (a b : Point) → ReadsWith links p q a b → ReadsWith work.graph.links p q a b
  with_still a b (inl r) = inl (read_still a b r)
  with_still a b (inr e) = inr e

module _ (work : Work) (links : Links) (height : Point → ℕ) (rises : Rises (Reads links) height) (p q : Point)
    (same : KeepsLinks links work.graph.links) where
  pub tells : (f : LinkFault) → IfPath (λ list. IsPath (Reads links) list q p) f → IfPath NoRepeats f → IfOver (λ list. IsChain (ReadsWith links p q) list) f
      → IfOver (λ list. length list ≡ 130) f → IfOver (λ list. Leads (Reads links) q p → ⊥) f → TellsFault work p q f
  tells fault.Memory path once over long apart = tt
  tells (fault.Over list) path once over long apart = (
    chain_as (ReadsWith links p q) (ReadsWith work.graph.links p q) (with_still work links p q same) list.items over,
    long,
    chain_once links height rises p q apart list.items over,
  )
  tells (fault.Path list) path once over long apart = (
    record { chain = chain_as (Reads links) (Reads work.graph.links) (read_still work links p q same) list.items path.chain; starts = path.starts; ends = path.ends },
    once,
  )

-- what a fault bars, if it isn't want of memory
pub barred : (work : Work) (p q : Point) (f : LinkFault) → f ≢ fault.Memory → TellsFault work p q f → IsBarred work p q
barred work p q fault.Memory walked tells = absurd (walked refl)
barred work p q (fault.Over list) walked tells = by_chain list.items tells.0 tells.1 tells.2
barred work p q (fault.Path list) walked tells = by_path list.items tells.0 tells.1

-- the same links bar the same
pub barred_before : (old new : Work) → KeepsLinks old.graph.links new.graph.links → (p q : Point) → IsBarred new p q → IsBarred old p q
barred_before old new same p q (by_chain points chain long once) = by_chain points
    (chain_as (ReadsWith new.graph.links p q) (ReadsWith old.graph.links p q) (with_still old new.graph.links p q (λ c d. sym (same c d)))
    points chain) long once
barred_before old new same p q (by_path points path once) = by_path points (record {
  chain = chain_as (Reads new.graph.links) (Reads old.graph.links) (read_still old new.graph.links p q (λ c d. sym (same c d))) points
      path.chain;
  starts = path.starts;
  ends = path.ends;
}) once
