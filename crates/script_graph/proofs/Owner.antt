-- The item that computes what the node of one that is too deep gives.
use Rattle.std.proofs.Common.{◌≡◌, inl, inr, ℕ, Bool, true, false, List, [], ◌∷◌, length, Option, None, Some, refl, ap, sym, subst}
use Rattle.inc_value.specs.Choice.{Among, and_then}
use Rattle.inc_value.specs.declared.node.NodeId.{NodeId}
use Rattle.script_model.specs.Depth as depth
use Rattle.script_model.specs.Depth.{Point, node_of_body, node_of_formula, points_of, body_points, scoped_points, main_points, change_points, stands_at, Depends, IsWalk, TooDeep}
use Rattle.script_model.specs.Evaluate.{chosen, value_at}
use Rattle.script_model.specs.Formula.{State, Body, Formula, Meanings, body_at, formula_of_body, Name, Computed}
use Rattle.script_model.specs.Need.{Edge, Item, Named, Place, Met, environment, rounds, part_of, formula_at, place_reads, Reads}
use Rattle.script_graph.specs.Today.{AllPlain}
use Rattle.transfer.specs.Both.{Both}
use Rattle.transfer.specs.Cycles.{IsForm}
use Rattle.transfer.specs.Items.{node_of, Closed}
use Rattle.transfer.specs.Shows.{Fits, IsOwn}
use Rattle.transfer.proofs.Enclosed.{met_reads}
use Rattle.transfer.proofs.Places.{place_shows}

-- ---- walks that begin

-- nothing is chosen of nothing
chosen_none : (b : Bool) (q : Point) → Among q (chosen b [] []) → ⊥
chosen_none true q among = among
chosen_none false q among = among

-- what isn't declared depends on nothing
name_alone : (F : Meanings) (s : State) (n : ℕ) → body_at s n ≡ None → (q : Point) → Depends F s (depth.Main (Named n)) q → ⊥
name_alone F s n is q (d, among) = subst (λ (c : Option Body). Among q (body_points s n c)) is among

-- nor does the place of a formula that is another name alone
alias_alone : (F : Meanings) (s : State) (n t : ℕ) → formula_at s n [] ≡ Some (Name t) → (q : Point) → Depends F s (depth.Main (Place n [])) q → ⊥
alias_alone F s n t is q (d, among) =
    chosen_none (stands_at F s d n (rounds [])) q (subst (λ (o : Option Formula). Among q (elim o [
      | None ↦ []
      | Some f ↦ scoped_points F s d n [] (main_points s (value_at F s d (environment [])) n [] f) f
    ])) is among)

-- where the formula is another name, the first of its item's points is its main
alias_points : (s : State) (owner t : ℕ) (path : List Edge) → formula_at s owner path ≡ Some (Name t) → (p : Point)
    → Among p (points_of s (Place owner path)) → p ≡ depth.Main (Place owner path)
alias_points s owner t path is p among =
    go (and_then (formula_at s owner path) (change_points s owner path))
    (ap (λ (o : Option Formula). and_then o (change_points s owner path)) is) among
  where
    go : (c : Option (List Point)) → c ≡ None → Among p (elim c [
      | None ↦ depth.Main (Place owner path) ∷ []
      | Some points ↦ depth.Main (Place owner path) ∷ depth.Change (Place owner path) ∷ []
    ]) → p ≡ depth.Main (Place owner path)
    go None none (inl e) = e
    go None none (inr e) = absurd e
    go (Some points) none among = absurd (cc)

-- a long walk takes a first step
begins_walk : (F : Meanings) (s : State) (p : Point) (rest : List Point) → IsWalk F s p rest → length rest ≡ 129 → (q : Point) × Depends F s p q
begins_walk F s p [] walk long = absurd (cc)
begins_walk F s p (q ∷ rest) walk long = (q, walk.0)

-- ---- the item that computes what an item's node gives

-- a name that is no other one, or a place that is no bare name
abbrev pub IsResolved : State → Item → Type 0
IsResolved s (Named m) = (b : Body) × (body_at s m ≡ Some b) × IsOwn (Some b)
IsResolved s (Place owner path) = (f : Formula) × (formula_at s owner path ≡ Some f) × IsForm f

-- a met item that is too deep has the node, and computes what it gives
pub record IsTooDeepAt (x : Both) (before : State) (n : NodeId) : Type 0 where
  pub item : Item
  pub is_node : node_of x item ≡ Some n
  pub met : Met x.meanings before x.state item
  pub computes : IsResolved x.state item
  pub deep : TooDeep x.meanings x.state item

module _ (x : Both) (fits : Fits x) (plain : AllPlain x.state) (before : State) (closed : Closed x (Met x.meanings before x.state)) where
  abbrev s : State
  s = x.state

  abbrev F : Meanings
  F = x.meanings

  abbrev IsMet : Item → Type 0
  IsMet i = Met F before s i

  -- what isn't declared isn't too deep
  none_deep : (t : ℕ) → body_at s t ≡ None → TooDeep F s (Named t) → ⊥
  none_deep t is deep = go (subst (λ (b : Option Body). Among deep.first (points_of s (node_of_body t b))) is deep.begins)
    where
      go : Among deep.first (depth.Main (Named t) ∷ []) → ⊥
      go (inr none) = none
      go (inl e) =
          let q = begins_walk F s deep.first deep.rest deep.walk deep.long in
          name_alone F s t is q.0 (subst (λ (p : Point). Depends F s p q.0) e q.1)

  -- nor is another name
  alias_deep : (t u : ℕ) (kept : _) → body_at s t ≡ Some (Computed (Name u) kept) → TooDeep F s (Named t) → ⊥
  alias_deep t u kept is deep =
      let formula : formula_at s t [] ≡ Some (Name u) =
      ap (λ (b : Option Body). and_then b (λ c. and_then (formula_of_body c) (λ g. part_of g []))) is in
      let begins = subst (λ (b : Option Body). Among deep.first (points_of s (node_of_body t b))) is deep.begins in
      let p = alias_points s t u [] formula deep.first begins in
      let q = begins_walk F s deep.first deep.rest deep.walk deep.long in
      alias_alone F s t u formula q.0 (subst (λ (r : Point). Depends F s r q.0) p q.1)

  own_of : (t : ℕ) (b : Body) → body_at s t ≡ Some b → TooDeep F s (Named t) → IsOwn (Some b)
  own_of t (Computed (Name u) kept) is deep = absurd (alias_deep t u kept is deep)
  own_of t b is deep = tt

  deep_name : (t : ℕ) (n : NodeId) (b : Option Body) → body_at s t ≡ b → node_of x (Named t) ≡ Some n → IsMet (Named t) → TooDeep F s (Named t)
      → IsTooDeepAt x before n
  deep_name t n None is at met deep = absurd (none_deep t is deep)
  deep_name t n (Some b) is at met deep = record { item = Named t; is_node = at; met = met; computes = (b, is, own_of t b is deep); deep = deep }

  -- an item that is met and too deep has one that computes what its node gives
  pub deep_owner : (i : Item) (n : NodeId) → IsMet i → node_of x i ≡ Some n → TooDeep F s i → IsTooDeepAt x before n
  deep_owner (Named t) n met at deep = deep_name t n (body_at s t) refl at met deep
  deep_owner (Place owner path) n met at deep = let f = closed.there owner path met in by_formula f.0 f.1
    where
      by_formula : (f : Formula) → formula_at s owner path ≡ Some f → IsTooDeepAt x before n
      by_formula (Name t) is =
          let shows = place_shows x fits owner path n (Name t) is at in
          let node : x.nodes t ≡ n = cc in
          let read : Reads F s (Place owner path) (Named t) =
          (0, subst (λ (o : Option Formula). Among (Named t) (place_reads F s 0 owner path o)) (sym is) (inl refl)) in
          deep_name t n (body_at s t) refl (ap (λ (m : NodeId). Some m) node) (met_reads F before s (Place owner path) (Named t) met read)
          (record {
            first = deep.first;
            rest = deep.rest;
            begins = subst (λ (i : Item). Among deep.first (points_of s i)) (ap (node_of_formula s (Place owner path)) is) deep.begins;
            walk = deep.walk;
            distinct = deep.distinct;
            long = deep.long;
          })
      by_formula f is = record { item = Place owner path; is_node = at; met = met; computes = (f, is, tt); deep = deep }
