-- Terms of binds with their captures put in, and the nodes that are built for them.
use Rattle.std.proofs.Common.{◌≡◌, ℕ, zero, suc, List, [], ◌∷◌, map, Option, None, Some, refl, slice_get}
use Rattle.inc_value.specs.declared.function.FnRef.{FnRef}
use Rattle.inc_value.specs.declared.node.NodeId.{NodeId}
use Rattle.inc_terms.specs.Graph.{Graph}
use Rattle.inc_terms.specs.Term as term
use Rattle.inc_terms.specs.Term.{Term, Terms, refs, put, put_all, capture}
use Rattle.inc_terms.specs.Unfold.{Unfolds, UnfoldsAll}
use Rattle.script_model.specs.Values.{Value}
use Rattle.script_model.specs.Formula.{Formula, Formulas, Literal, Name, Bound, Apply, Fold, If, Join, Bind, At, Steps, Now, End, More}
use Rattle.transfer.specs.Both.{Both, graph_value}
use Rattle.transfer.specs.Shows.{Spelled, Built, Binding, Opens, Spot, Own, written, taken, term_at, Takes, Fills, Writes, WritesAll, Shows, ShowsAll}

pub capture_at : (ts : Terms) (k i : ℕ) (u : Term) → term_at ts k ≡ Some u → capture ts k i ≡ u
capture_at term.End k i u e = absurd (cc)
capture_at (term.More t ts) zero i u e = cc
capture_at (term.More t ts) (suc k) i u e = capture_at ts k i u e

put_at : (caps ts : Terms) (k : ℕ) (u : Term) → term_at ts k ≡ Some u
    → term_at (put_all caps ts) k ≡ Some (put caps u)
put_at caps term.End k u e = absurd (cc)
put_at caps (term.More t ts) zero u e = let same : t ≡ u = cc in rw same refl
put_at caps (term.More t ts) (suc k) u e = put_at caps ts k u e

-- each variable, as it is written and with the captures put in, is what stands for it
abbrev pub Stand : Both → List Binding → List Spot → Terms → Type 0
Stand x [] [] caps = Unit {0}
Stand x [] (s ∷ spots) caps = ⊥
Stand x (b ∷ E) [] caps = ⊥
Stand x (b ∷ E) (s ∷ spots) caps = ((u : Term) → written s ≡ Some u
    → Opens x.graph b.mode (put caps u) (term.Const (graph_value x.nodes b.value))) × Stand x E spots caps

pub fills_stand : (x : Both) (E : List Binding) (inner : List (Option ℕ)) (caps : Terms) → Fills x E inner caps
    → Stand x E (map taken inner) caps
fills_stand x [] [] caps h = tt
fills_stand x [] (j ∷ inner) caps h = absurd h
fills_stand x (b ∷ E) [] caps h = absurd h
fills_stand x (b ∷ E) (None ∷ inner) caps h = ((λ u e. absurd (cc)), fills_stand x E inner caps h)
fills_stand x (b ∷ E) (Some j ∷ inner) caps h = (
  (λ u e. let same : term.Cap j ≡ u = cc in rw (← same, capture_at caps j j h.0.0 h.0.1) h.0.2),
  fills_stand x E inner caps h.1,
)

stand_fills : (x : Both) (E : List Binding) (spots : List Spot) (inner : List (Option ℕ)) (caps ts : Terms)
    → Stand x E spots caps → Takes spots inner ts → Fills x E inner (put_all caps ts)
stand_fills x [] [] [] caps ts s t = tt
stand_fills x [] [] (j ∷ inner) caps ts s t = absurd t
stand_fills x [] (p ∷ spots) inner caps ts s t = absurd s
stand_fills x (b ∷ E) [] inner caps ts s t = absurd s
stand_fills x (b ∷ E) (p ∷ spots) [] caps ts s t = absurd t
stand_fills x (b ∷ E) (p ∷ spots) (None ∷ inner) caps ts s t = stand_fills x E spots inner caps ts s.1 t
stand_fills x (b ∷ E) (p ∷ spots) (Some j ∷ inner) caps ts s t =
    ((put caps t.0.0, put_at caps ts j t.0.0 t.0.2, s.0 t.0.0 t.0.1), stand_fills x E spots inner caps ts s.1 t.1)

module _ (x : Both) (E : List Binding) (spots : List Spot) (caps : Terms) (stand : Stand x E spots caps) where
  variable_shows : (E : List Binding) (spots : List Spot) (k : ℕ) (s : Spot) (u : Term) → Stand x E spots caps
      → slice_get spots k ≡ Some s → written s ≡ Some u
      → (b : Binding) × (slice_get E k ≡ Some b) × Opens x.graph b.mode (put caps u)
      (term.Const (graph_value x.nodes b.value))
  variable_shows [] [] k s u st e w = absurd (cc)
  variable_shows [] (p ∷ spots) k s u st e w = absurd st
  variable_shows (b ∷ E) [] k s u st e w = absurd st
  variable_shows (b ∷ E) (p ∷ spots) zero s u st e w = let same : p ≡ s = cc in (b, refl, st.0 u (rw same w))
  variable_shows (b ∷ E) (p ∷ spots) (suc k) s u st e w = variable_shows E spots k s u st.1 e w

  mutual
    -- with the captures put in the term shows the formula
    pub put_shows : (t : Term) (f : Formula) → Writes x spots t f → Shows x Spelled E (put caps t) f
    put_shows t (Literal v) w = rw w refl
    put_shows t (Name k) w = rw w refl
    put_shows t (Bound k) w = variable_shows E spots k w.0 t stand w.1 w.2
    put_shows t (Apply f fs) w = (put_all caps w.0, rw w.1 refl, put_all_show w.0 fs w.2)
    put_shows t (Fold f v fs) w = (put_all caps w.0, rw w.1 refl, put_all_show w.0 fs w.2)
    put_shows t (If test a b) w = (
      put caps w.0,
      put caps w.1,
      put caps w.2,
      rw w.3 refl,
      put_shows w.0 test w.4,
      put_shows w.1 a w.5,
      put_shows w.2 b w.6,
    )
    put_shows t (Join child) w = (put caps w.0, rw w.1 refl, put_shows w.0 child w.2)
    put_shows t (Bind left body) w = (
      put caps w.0,
      w.1,
      put_all caps w.2,
      rw w.3 refl,
      put_shows w.0 left w.4,
      w.5,
      stand_fills x E spots w.5 caps w.2 stand w.6,
      w.7,
    )
    put_shows t (At time) w = rw w refl
    put_shows t (Steps v steps) w = rw w refl
    put_shows t Now w = rw w refl

    put_all_show : (ts : Terms) (fs : Formulas) → WritesAll x spots ts fs → ShowsAll x Spelled E (put_all caps ts) fs
    put_all_show term.End End w = tt
    put_all_show term.End (More f fs) w = absurd w
    put_all_show (term.More t ts) End w = absurd w
    put_all_show (term.More t ts) (More f fs) w = (put_shows t f w.0, put_all_show ts fs w.1)

refs_at : (ns : List NodeId) (j : ℕ) (u : Term) → term_at (refs ns) j ≡ Some u
    → (c : NodeId) × (slice_get ns j ≡ Some c) × (u ≡ term.Ref c)
refs_at [] j u e = absurd (cc)
refs_at (n ∷ ns) zero u e = (n, refl, (cc))
refs_at (n ∷ ns) (suc j) u e = refs_at ns j u e

kid_unfolds : (G : Graph) (S : Option NodeId) (caps kids : List NodeId) (ts : Terms) (j : ℕ) (u : Term)
    → UnfoldsAll G S caps kids ts → term_at ts j ≡ Some u
    → (c : NodeId) × (term_at (refs kids) j ≡ Some (term.Ref c)) × Unfolds G S caps c u
kid_unfolds G S caps [] term.End j u h e = absurd (cc)
kid_unfolds G S caps (n ∷ ns) term.End j u h e = absurd h
kid_unfolds G S caps [] (term.More t ts) j u h e = absurd h
kid_unfolds G S caps (n ∷ ns) (term.More t ts) zero u h e = let same : t ≡ u = cc in (n, refl, rw same at h.0)
kid_unfolds G S caps (n ∷ ns) (term.More t ts) (suc j) u h e = kid_unfolds G S caps ns ts j u h.1 e

-- the nodes that stand for the variables, as they are written
abbrev pub Roots : Both → Option NodeId → List NodeId → List Binding → List Spot → Type 0
Roots x S caps [] [] = Unit {0}
Roots x S caps [] (s ∷ spots) = ⊥
Roots x S caps (b ∷ E) [] = ⊥
Roots x S caps (b ∷ E) (s ∷ spots) =
    ((u : Term) (n : NodeId) → written s ≡ Some u → Unfolds x.graph S caps n u
    → Opens x.graph b.mode (term.Ref n) (term.Const (graph_value x.nodes b.value))) × Roots x S caps E spots

pub fills_root : (x : Both) (S : Option NodeId) (caps : List NodeId) (E : List Binding) (inner : List (Option ℕ))
    → Fills x E inner (refs caps) → Roots x S caps E (map taken inner)
fills_root x S caps [] [] h = tt
fills_root x S caps [] (j ∷ inner) h = absurd h
fills_root x S caps (b ∷ E) [] h = absurd h
fills_root x S caps (b ∷ E) (None ∷ inner) h = ((λ u n e unf. absurd (cc)), fills_root x S caps E inner h)
fills_root x S caps (b ∷ E) (Some j ∷ inner) h = (is, fills_root x S caps E inner h.1)
  where
    is : (u : Term) (n : NodeId) → Some (term.Cap j) ≡ Some u → Unfolds x.graph S caps n u
        → Opens x.graph b.mode (term.Ref n) (term.Const (graph_value x.nodes b.value))
    is u n e unf =
        let same : u ≡ term.Cap j = cc in
        let at = (rw same at unf).0 in
        let c = refs_at caps j h.0.0 h.0.1 in
        let nodes : c.0 ≡ n = (let e' = c.1 in cc) in
        rw (c.2, nodes) at h.0.2

root_fills : (x : Both) (S : Option NodeId) (caps kids : List NodeId) (E : List Binding) (spots : List Spot)
    (inner : List (Option ℕ)) (ts : Terms)
    → Roots x S caps E spots → Takes spots inner ts → UnfoldsAll x.graph S caps kids ts
    → Fills x E inner (refs kids)
root_fills x S caps kids [] [] [] ts r t unf = tt
root_fills x S caps kids [] [] (j ∷ inner) ts r t unf = absurd t
root_fills x S caps kids [] (s ∷ spots) inner ts r t unf = absurd r
root_fills x S caps kids (b ∷ E) [] inner ts r t unf = absurd r
root_fills x S caps kids (b ∷ E) (s ∷ spots) [] ts r t unf = absurd t
root_fills x S caps kids (b ∷ E) (s ∷ spots) (None ∷ inner) ts r t unf =
    root_fills x S caps kids E spots inner ts r.1 t unf
root_fills x S caps kids (b ∷ E) (s ∷ spots) (Some j ∷ inner) ts r t unf =
    let c = kid_unfolds x.graph S caps kids ts j t.0.0 unf t.0.2 in
    ((term.Ref c.0, c.1, r.0 t.0.0 c.0 t.0.1 c.2), root_fills x S caps kids E spots inner ts r.1 t.1 unf)

module _ (x : Both) (S : Option NodeId) (caps : List NodeId) (E : List Binding) (spots : List Spot)
    (roots : Roots x S caps E spots) where
  variable_is : (E : List Binding) (spots : List Spot) (k : ℕ) (s : Spot) (u : Term) (n : NodeId)
      → Roots x S caps E spots → slice_get spots k ≡ Some s → written s ≡ Some u
      → Unfolds x.graph S caps n u → (b : Binding) × (slice_get E k ≡ Some b) × Opens x.graph b.mode (term.Ref n)
      (term.Const (graph_value x.nodes b.value))
  variable_is [] [] k s u n r e w unf = absurd (cc)
  variable_is [] (p ∷ spots) k s u n r e w unf = absurd r
  variable_is (b ∷ E) [] k s u n r e w unf = absurd r
  variable_is (b ∷ E) (p ∷ spots) zero s u n r e w unf = let same : p ≡ s = cc in (b, refl, r.0 u n (rw same w) unf)
  variable_is (b ∷ E) (p ∷ spots) (suc k) s u n r e w unf = variable_is E spots k s u n r.1 e w unf

  mutual
    -- a node that reads back as the term shows the formula
    pub built_shows : (n : NodeId) (t : Term) (f : Formula) → Writes x spots t f → Unfolds x.graph S caps n t
        → Shows x (Built S) E (term.Ref n) f
    built_shows n t (Literal v) w unf = let u = rw w at unf in (n, u.0, refl, u.1, u.2, rw u.3 refl)
    built_shows n t (Name k) w unf = let u = rw w at unf in rw u.0 refl
    built_shows n t (Bound k) w unf = variable_is E spots k w.0 t n roots w.1 w.2 unf
    built_shows n t (Apply f fs) w unf =
        let u = rw w.1 at unf in (
          refs u.0,
          (n, u.1.0, refl, u.1.1, u.1.2, rw u.1.3 refl),
          all_built_show u.0 w.0 fs w.2 u.2,
        )
    built_shows n t (Fold f v fs) w unf =
        let u = rw w.1 at unf in (
          refs u.0,
          (n, u.1.0, refl, u.1.1, u.1.2, rw u.1.3 refl),
          all_built_show u.0 w.0 fs w.2 u.2,
        )
    built_shows n t (If test a b) w unf =
        let u = rw w.3 at unf in (
          term.Ref u.0,
          term.Ref u.1,
          term.Ref u.2,
          (n, u.3.0, refl, u.3.1, u.3.2, rw u.3.3 refl),
          built_shows u.0 w.0 test w.4 u.4,
          built_shows u.1 w.1 a w.5 u.5,
          built_shows u.2 w.2 b w.6 u.6,
        )
    built_shows n t (Join child) w unf =
        let u = rw w.1 at unf in (
          term.Ref u.0,
          (n, u.1.0, refl, u.1.1, u.1.2, rw u.1.3 refl),
          built_shows u.0 w.0 child w.2 u.2,
        )
    built_shows n t (Bind left body) w unf =
        let u = rw w.3 at unf in (
          term.Ref u.0,
          w.1,
          refs u.1,
          (n, u.2.0, refl, u.2.1, u.2.2, rw u.2.3 refl),
          built_shows u.0 w.0 left w.4 u.3,
          w.5,
          root_fills x S caps u.1 E spots w.5 w.2 roots w.6 u.4,
          w.7,
        )
    built_shows n t (At time) w unf = let u = rw w at unf in (n, u.0, refl, u.1, u.2, rw u.3 refl)
    built_shows n t (Steps v steps) w unf = let u = rw w at unf in (n, u.0, refl, u.1, u.2, rw u.3 refl)
    built_shows n t Now w unf = let u = rw w at unf in (n, u.0, refl, u.1, u.2, rw u.3 refl)

    all_built_show : (ns : List NodeId) (ts : Terms) (fs : Formulas) → WritesAll x spots ts fs
        → UnfoldsAll x.graph S caps ns ts → ShowsAll x (Built S) E (refs ns) fs
    all_built_show [] term.End End w unf = tt
    all_built_show (n ∷ ns) term.End fs w unf = absurd unf
    all_built_show [] (term.More t ts) fs w unf = absurd unf
    all_built_show ns term.End (More f fs) w unf = absurd w
    all_built_show ns (term.More t ts) End w unf = absurd w
    all_built_show (n ∷ ns) (term.More t ts) (More f fs) w unf =
        (built_shows n t f w.0 unf.0, all_built_show ns ts fs w.1 unf.1)

-- the root of a bind that is built for v shows the body, with the variable in the bind's scope
pub root_shows : (x : Both) (E : List Binding) (b : NodeId) (caps : List NodeId) (inner : List (Option ℕ)) (g : FnRef)
    (v : Value) (body : Formula) (root : NodeId) → Fills x E inner (refs caps)
    → Writes x (Own (graph_value x.nodes v) ∷ map taken inner) (x.functions.term g (graph_value x.nodes v)) body
    → Unfolds x.graph (Some b) caps root (x.functions.term g (graph_value x.nodes v))
    → Shows x (Built (Some b)) (record { value = v; mode = Built (Some b) } ∷ E) (term.Ref root) body
root_shows x E b caps inner g v body root fills w unf =
    built_shows x (Some b) caps (record { value = v; mode = Built (Some b) } ∷ E)
    (Own (graph_value x.nodes v) ∷ map taken inner)
    (own, fills_root x (Some b) caps E inner fills) root (x.functions.term g (graph_value x.nodes v)) body w unf
  where
    own : (u : Term) (n : NodeId) → Some (term.Const (graph_value x.nodes v)) ≡ Some u
        → Unfolds x.graph (Some b) caps n u → Opens x.graph (Built (Some b)) (term.Ref n)
        (term.Const (graph_value x.nodes v))
    own u n e unf =
        let same : u ≡ term.Const (graph_value x.nodes v) = cc in
        let is = rw same at unf in
        (n, is.0, refl, is.1, is.2, rw is.3 refl)
