-- What is built adds up.
use Rattle.std.proofs.Common.{arith, ◌≡◌, ◌≤◌, ◌+◌, ◌⊎◌, inl, inr, ℕ, List, [], ◌∷◌, Option, Some, IfSome, refl, sym, subst, ap, ◌∙◌, sum_by}
use Rattle.std.proofs.lemmas.List.Sums.{sum_by-append}
use Rattle.inc_value.specs.declared.node.NodeId.{NodeId}
use Rattle.inc_value.specs.declared.ty.Ty.{Ty}
use Rattle.inc_terms.specs.Graph as graph
use Rattle.inc_terms.specs.Graph.{Row, Def}
use Rattle.inc_value.specs.Value.{type_of}
use Rattle.inc_value.specs.declared.value.Value.{Value}
use Rattle.inc_value.specs.declared.value.Value.TheVariants as value
use Rattle.inc_terms.specs.Unfold.{IsIn, Outside}
use Rattle.inc_terms.specs.Within.{Given, ValueWithin}
use Rattle.node_arena.specs.Arena.{row_at}
use Rattle.node_arena.specs.Building.{Building, Adds, Use, CallsListed, Weighs, Weighed, IsBuilt, Grows}
use Rattle.node_arena.specs.Graph.{graph_of, nothing_held}
use Rattle.node_arena.specs.Listing.{Listed, IsNamed}
use Rattle.node_arena.specs.RightSide.{IsEmpty, SideHas, ValueHas}
use Rattle.node_arena.specs.Typing.{Fits}
use Rattle.node_arena.proofs.Graph.{id_or_other}

-- nothing was added
pub grown_none : (uses : List Use) (b : Building) → Grows uses b b 0
grown_none uses b = record {
  keeps = λ n h. refl;
  later = omega arith;
  scope = refl;
  nodes = [];
  built = λ n r is. inl is;
  total = omega arith;
  live = refl;
  few = omega arith;
  time = refl;
}

-- a node counts as one at least
weighs_one : (uses : List Use) (def : Def) (w : ℕ) → Weighs uses def w → 1 ≤ w
weighs_one uses (graph.Bind l f captures) w h = let le = h.3 in omega (arith, le)
weighs_one uses (graph.Const v) w h = h
weighs_one uses (graph.Var v) w h = h
weighs_one uses (graph.Map f ns) w h = h
weighs_one uses (graph.Fold f v ns) w h = h
weighs_one uses (graph.If t a b) w h = h
weighs_one uses (graph.Join n) w h = h
weighs_one uses (graph.At t) w h = h
weighs_one uses (graph.Steps v steps) w h = h
weighs_one uses graph.Now w h = h
weighs_one uses (graph.Every base span) w h = h
weighs_one uses (graph.Freeze n f) w h = absurd h
weighs_one uses (graph.Expert f v ns) w h = absurd h

abbrev weight_of : Weighed → ℕ
weight_of x = x.weight

module _ (uses : List Use) (old mid new : Building) (k : ℕ) (grows : Grows uses old mid k) where
  given_mid : (n : NodeId) → Given old.arena.given n → Given mid.arena.given n
  given_mid n h = let le = grows.later in omega (arith, h, le)

  module _ (id : NodeId) (def : Def) (t : Ty) (adds : Adds mid new id def t) (calls : CallsListed uses def) (w : ℕ) (weighs : Weighs uses def w) where
    abbrev row : Row
    row = record { def = def; ty = t; scope = Some mid.scope }

    abbrev nodes : List Weighed
    nodes = record { node = id; weight = w } ∷ grows.nodes

    built_new : (r : Row) → row ≡ r → IsBuilt uses old.scope nodes id r
    built_new r e = subst (IsBuilt uses old.scope nodes id) e (record {
      scope = ap Some grows.scope;
      calls = calls;
      weighed = record { node = id; weight = w };
      among = inl refl;
      node = refl;
      weight = weighs;
    })

    built_old : (n : NodeId) (r : Row) → IsBuilt uses old.scope grows.nodes n r → IsBuilt uses old.scope nodes n r
    built_old n r h = record { scope = h.scope; calls = h.calls; weighed = h.weighed; among = inr h.among; node = h.node; weight = h.weight }

    built : (n : NodeId) (r : Row) → row_at new.arena n ≡ Some r → (row_at old.arena n ≡ Some r) ⊎ IsBuilt uses old.scope nodes n r
    built n r is = elim (id_or_other n id) [
      | inl same ↦
          let at_id : row_at new.arena id ≡ Some r = ap (λ (m : NodeId). row_at new.arena m) (sym same) ∙ is in
          let e : row ≡ r = (let e' = sym adds.changes.changed ∙ at_id in cc) in
          inr (subst (λ (m : NodeId). IsBuilt uses old.scope nodes m r) (sym same) (built_new r e))
      | inr other ↦ elim (grows.built n r (sym (adds.changes.others n other) ∙ is)) [
        | inl was ↦ inl was
        | inr b ↦ inr (built_old n r b)
      ]
    ]

    -- one node more
    pub grown_more : Grows uses old new (k + w)
    grown_more = record {
      keeps = λ n h. adds.keeps n (given_mid n h) ∙ grows.keeps n h;
      later = (let le = grows.later in let e = adds.given in omega (arith, le, e));
      scope = adds.scope ∙ grows.scope;
      nodes = nodes;
      built = built;
      total = (let t' = grows.total in let e : sum_by weight_of nodes ≡ (0 + w) + sum_by weight_of grows.nodes = sum_by-append weight_of (record { node = id; weight = w } ∷ []) grows.nodes in omega (arith, t', e));
      live = (let e = grows.live in let l = adds.live in let g = adds.given in omega (arith, e, l, g));
      few = (let le = grows.few in let g = adds.given in let one = weighs_one uses def w weighs in omega (arith, le, g, one));
      time = adds.changes.time ∙ grows.time;
    }

-- a greater number
pub grown_most : (uses : List Use) (old new : Building) (k l : ℕ) → Grows uses old new k → k ≤ l → Grows uses old new l
grown_most uses old new k l g le = record {
  keeps = g.keeps;
  later = g.later;
  scope = g.scope;
  nodes = g.nodes;
  built = g.built;
  total = (let t = g.total in omega (arith, t, le));
  live = g.live;
  few = (let f = g.few in omega (arith, f, le));
  time = g.time;
}

-- ---- what was added stands there, and stays

module _ (old new : Building) (id : NodeId) (def : Def) (t : Ty) (adds : Adds old new id def t) where
  pub given_added : Given new.arena.given id
  given_added = let e = adds.number in let e' = adds.given in omega (arith, e, e')

  pub given_still : (n : NodeId) → Given old.arena.given n → Given new.arena.given n
  given_still n h = let e' = adds.given in omega (arith, h, e')

  pub in_added : IsIn (graph_of new.arena nothing_held) (Some new.scope) id def
  in_added = (record { def = def; ty = t; scope = Some old.scope }, adds.changes.changed, ap Some (sym adds.scope), refl)

  pub in_still : (n : NodeId) (d : Def) → Given old.arena.given n → IsIn (graph_of old.arena nothing_held) (Some old.scope) n d
      → IsIn (graph_of new.arena nothing_held) (Some new.scope) n d
  in_still n d given h = (h.0, adds.keeps n given ∙ h.1, h.2 ∙ ap Some (sym adds.scope), h.3)

  pub fits_added : Fits new.arena id t
  fits_added = subst (λ (o : Option Row). IfSome o (λ (r : Row). r.ty ≡ t)) (sym adds.changes.changed) refl

-- a node that was given before, when its scope was empty, is outside of it
pub outside_grown : (uses : List Use) (old new : Building) (k : ℕ) → Grows uses old new k → IsEmpty old.arena old.scope
    → (n : NodeId) → Given old.arena.given n → Outside (graph_of new.arena nothing_held) (Some new.scope) n
outside_grown uses old new k g empty n given r is s = empty n r (sym (g.keeps n given) ∙ is) (s ∙ ap Some g.scope)

-- ---- what a value names

pub value_any : (v : Value) → ValueWithin (λ (n : NodeId). Unit {0}) v
value_any (value.Node n b) = tt
value_any (value.Int z) = tt
value_any (value.Bool z) = tt
value_any (value.Text z) = tt

-- the left value names what its term may name
pub left_named : (ids : List Listed) (v : Value) → ValueWithin (IsNamed ids v) v
left_named ids (value.Node n b) = inl refl
left_named ids (value.Int z) = tt
left_named ids (value.Bool z) = tt
left_named ids (value.Text z) = tt

-- and is of its type
pub left_has : (ids : List Listed) (v : Value) (t : Ty) → type_of v ≡ t → ValueHas (SideHas ids v) v t
left_has ids (value.Node n b) t e = record { type = e; reference = inl (refl, refl) }
left_has ids (value.Int z) t e = record { type = e; reference = tt }
left_has ids (value.Bool z) t e = record { type = e; reference = tt }
left_has ids (value.Text z) t e = record { type = e; reference = tt }
