-- What stands in scopes counts as no more than their binds' functions take, whatever is added, dropped and built.
use Rattle.std.proofs.Common.{◌≡◌, ◌≢◌, ◌⊎◌, inl, inr, ℕ, ◌≤◌, ◌+◌, Bool, List, [], ◌∷◌, Option, None, Some, refl, sym, ap, subst, ◌∙◌, arith}
use Rattle.std.specs.Prelude.{IsTrue, is_some, sum_by}
use Rattle.std.proofs.lemmas.Option.{none-some, same_Some}
use Rattle.inc_value.specs.Choice.{Among}
use Rattle.inc_value.specs.declared.function.FnKind.TheVariants.{Rhs}
use Rattle.inc_value.specs.declared.function.FnRef.{FnRef}
use Rattle.inc_value.specs.declared.node.NodeId.{NodeId}
use Rattle.inc_terms.specs.Graph.{Row, Def, Bind, Expert, Freeze}
use Rattle.inc_terms.specs.Within.{DefWithin, KnownAs}
use Rattle.node_arena.specs.Arena.{Arena, row_at, IsLive}
use Rattle.node_arena.specs.Building.{building_in, Grows, Weighed, Weighs}
use Rattle.node_arena.specs.RightSide.{RightSide, IsEmpty, SidesHold}
use Rattle.node_arena.specs.RightSideLaws.{AllFit, IsFitIn}
use Rattle.node_arena.specs.Sound.{IsSoundArena}
use Rattle.stabilize_round.proofs.Points.{node_or_other}
use Rattle.stabilizer.specs.Weights.{weight_of, weight_in, weight_at, IsInScope, ScopesFit, SidesFit}
use Rattle.stabilizer.proofs.Building.Sums.{sum_most, StandsFor, stood_for}

-- a node of a known function counts as it did
pub weight_same : (known : FnRef → Bool) (right right' : FnRef → RightSide) (a : Arena) → ((f : FnRef) → IsTrue (known f) → right' f ≡ right f)
    → (def : Def) → DefWithin (λ n. Unit {0}) (IsFitIn known right a) def → weight_of right' def ≡ weight_of right def
weight_same known right right' a same (Bind left f captures) fit = ap (λ (s : RightSide). s.size + 1) (same f fit.0.0.0)
weight_same known right right' a same _ fit = refl

-- who stands in a scope stood there, and counts as no more than it did; a bind is what it was, or its scope is empty
pub record ScopesStay (right right' : FnRef → RightSide) (old new : Arena) : Type 0 where
  pub nodes : (n b : NodeId) → IsInScope new b n → IsInScope old b n × (weight_at right' new n ≤ weight_at right old n)
  pub binds : (b : NodeId) (r : Row) (left : NodeId) (f : FnRef) (captures : List NodeId) → row_at new b ≡ Some r → r.def ≡ Bind left f captures
      → ((n : NodeId) → IsInScope new b n → ⊥) ⊎ ((row_at old b ≡ Some r) × (right' f ≡ right f))

-- no node is listed
none_listed : (u : NodeId → ℕ) (nodes : List NodeId) → ((n : NodeId) → Among n nodes → ⊥) → sum_by u nodes ≡ 0
none_listed u [] none = refl
none_listed u (n ∷ ns) none = absurd (none n (inl refl))

pub scopes_stay : (right right' : FnRef → RightSide) (old new : Arena) → ScopesStay right right' old new → ScopesFit right old → ScopesFit right' new
scopes_stay right right' old new stay fit b r left f captures row def nodes once stand = elim (stay.binds b r left f captures row def) [
  | inl empty ↦ let none = none_listed (weight_at right' new) nodes (λ n among. empty n (stand n among)) in omega (arith, none)
  | inr was ↦
      let most = fit b r left f captures was.0 def nodes once (λ n among. (stay.nodes n b (stand n among)).0) in
      let sum = sum_most (weight_at right' new) (weight_at right old) nodes (λ n among. (stay.nodes n b (stand n among)).1) in
      let size : (right' f).size ≡ (right f).size = ap (λ (s : RightSide). s.size) was.1 in
      omega (arith, most, sum, size)
]

-- nodes keep their rows or die, and known functions make what they made
pub sides_last : (known known' : FnRef → Bool) (right right' : FnRef → RightSide) (old new : Arena) → ((f : FnRef) → IsTrue (known f) → right' f ≡ right f)
    → ((n : NodeId) → (row_at new n ≡ row_at old n) ⊎ (row_at new n ≡ None)) → AllFit known' right' new → SidesFit known right old → SidesFit known' right' new
sides_last known known' right right' old new same rows all fit = record {
  all = all;
  scopes = scopes_stay right right' old new (record {
    nodes = λ n b is. let e = was n is.row is.is_row in
        let weight : weight_at right' new n ≡ weight_at right old n = ap (weight_in right') is.is_row
        ∙ weight_same known right right' old same is.row.def (fit.all n is.row e) ∙ ap (weight_in right) (sym e) in
        (record { row = is.row; is_row = e; scope = is.scope }, omega (arith, weight));
    binds = λ b r left f captures row def. let e = was b r row in inr (
      e,
      same f
          (subst (λ (d : Def). DefWithin (λ n. Unit {0}) (IsFitIn known right old) d) def (fit.all b r e)).0.0.0,
    );
  }) fit.scopes;
}
  where
    was : (n : NodeId) (r : Row) → row_at new n ≡ Some r → row_at old n ≡ Some r
    was n r e = elim (rows n) [ inl same ↦ sym same ∙ e | inr none ↦ absurd (none-some r (sym none ∙ e)) ]

-- ---- a right side is built

module _ (known : FnRef → Bool) (right : FnRef → RightSide) (hold : SidesHold known right) (f : FnRef) (is : KnownAs known Rhs f) where
  -- what a built node counts as is counted
  weighs : (def : Def) (w : ℕ) → Weighs (right f).uses def w → weight_of right def ≤ w
  weighs (Bind left g captures) w h =
      let size = (hold.usable f is h.0 h.1).size in
      let same : (right h.0.function).size ≡ (right g).size = ap (λ (k : FnRef). (right k).size) h.2 in
      let most = h.3 in
      omega (arith, size, same, most)
  weighs (Freeze kid g) w h = absurd h
  weighs (Expert g v ns) w h = absurd h
  weighs _ w h = h

  module _ (b : NodeId) (a built : Arena) (sound : IsSoundArena a) (live : IsLive a b) (empty : IsEmpty a b)
      (scopes : (n c : NodeId) (r : Row) → row_at a n ≡ Some r → r.scope ≡ Some c → IsLive a c)
      (own : (r : Row) (left g : _) (captures : List NodeId) → row_at a b ≡ Some r → r.def ≡ Bind left g captures → g ≡ f)
      (grows : Grows (right f).uses (building_in b a) (building_in b built) (right f).size) where
    -- who stood nowhere stands in the bind's scope
    from : (n c : NodeId) → IsInScope built c n → c ≢ b → IsInScope a c n
    from n c s other = elim (grows.built n s.row s.is_row) [
      | inl e ↦ record { row = s.row; is_row = e; scope = s.scope }
      | inr h ↦ absurd (other (same_Some c b (sym s.scope ∙ h.scope)))
    ]

    counted : (n : NodeId) → IsInScope built b n → StandsFor (λ (x : Weighed). x.node) (weight_at right built) (λ (x : Weighed). x.weight) grows.nodes n
    counted n s = elim (grows.built n s.row s.is_row) [
      | inl e ↦ absurd (empty n s.row e s.scope)
      | inr h ↦
          let most = weighs s.row.def h.weighed.weight h.weight in
          let is_weight : weight_at right built n ≡ weight_of right s.row.def = ap (weight_in right) s.is_row in
          record { other = h.weighed; among = h.among; same = h.node; most = omega (arith, most, is_weight) }
    ]

    same_row : (c : NodeId) → IsLive a c → row_at built c ≡ row_at a c
    same_row c l = grows.keeps c (sound.given c l)

    pub scopes_built : ScopesFit right a → ScopesFit right built
    scopes_built fit c r left g captures row def nodes once stand = elim (node_or_other c b) [
      | inl e ↦
          let total = grows.total in
          let sum = stood_for (λ (x : Weighed). x.node) (weight_at right built) (λ (x : Weighed). x.weight) nodes grows.nodes once
          (λ n among. counted n (subst (λ (k : NodeId). IsInScope built k n) e (stand n among))) in
          let same = own r left g captures (sym (same_row b live) ∙ (ap (λ (k : NodeId). row_at built k) (sym e) ∙ row)) def in
          let size : (right g).size ≡ (right f).size = ap (λ (k : FnRef). (right k).size) same in
          omega (arith, total, sum, size)
      | inr other ↦ by_row other (row_at a c) refl
    ]
      where
        by_row : c ≢ b → (o : Option Row) → row_at a c ≡ o → sum_by (weight_at right built) nodes ≤ (right g).size
        by_row other None none =
            let zero = none_listed (weight_at right built) nodes (λ n among.
            (let s = from n c (stand n among) other in
            let l = scopes n c s.row s.is_row s.scope in let differs = sym (ap is_some none) ∙ l in cc)) in
            omega (arith, zero)
        by_row other (Some s) e =
            let l : IsLive a c = ap is_some e in
            let was : row_at a c ≡ Some r = sym (same_row c l) ∙ row in
            let most = fit c r left g captures was def nodes once (λ n among. from n c (stand n among) other) in
            let sum = sum_most (weight_at right built) (weight_at right a) nodes (λ n among.
            (let s = from n c (stand n among) other in
            let same = ap (weight_in right) (same_row n (ap is_some s.is_row)) in omega (arith, same))) in
            omega (arith, most, sum)
