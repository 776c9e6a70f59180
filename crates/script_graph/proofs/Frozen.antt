-- Freezes that keep no value, at which need begins.
use Rattle.std.proofs.Common.{◌≡◌, ◌&&◌, ◌<◌, ℕ, Bool, true, false, cond, nat_lt, Option, None, Some, refl, ap, ◌∙◌, arith}
use Rattle.std.proofs.lemmas.Bool.{ltb-true, ltb-false}
use Rattle.inc_value.specs.declared.function.FnRef.{FnRef}
use Rattle.inc_value.specs.declared.node.NodeId.{NodeId}
use Rattle.inc_value.specs.declared.node.Part.{Part}
use Rattle.inc_value.specs.declared.node.Part.TheVariants.{Change, Main}
use Rattle.inc_value.specs.declared.node.Point.{Point}
use Rattle.inc_value.specs.declared.value.Value.{Value}
use Rattle.inc_terms.specs.Depend.{main}
use Rattle.inc_terms.specs.Graph.{Graph, Row, Def, Freeze}
use Rattle.inc_terms.specs.Need.{IsUnfrozen}
use Rattle.graph.specs.Standing.{GraphView, frozen_at, graph}
use Rattle.node_arena.specs.Arena.{row_at}
use Rattle.stabilizer.specs.Look.{freeze_roots, is_freeze, is_main, is_unfrozen}
use Rattle.script_graph.specs.Settled.{frozen_root}

both_true : (a b : Bool) → a && b ≡ true → (a ≡ true) × (b ≡ true)
both_true true true e = (refl, refl)
both_true true false e = absurd (cc)
both_true false b e = absurd (cc)

below : (a b : ℕ) → nat_lt a b ≡ true → a < b
below a b e = ltb-true a b e

is_below : (a b : ℕ) → a < b → nat_lt a b ≡ true
is_below a b less = go (nat_lt a b) refl
  where
    go : (t : Bool) → nat_lt a b ≡ t → nat_lt a b ≡ true
    go true is = is
    go false is = let high = ltb-false a b is in absurd (omega (arith, less, high))

-- ---- by the row

is_freeze_of : (d : Def) → is_freeze d ≡ true → (kid : NodeId) × (f : FnRef) × (d ≡ Freeze kid f)
is_freeze_of (Freeze kid f) e = (kid, f, refl)
is_freeze_of d e = absurd (cc)

unfrozen_of : (x : Option Row) (v : Option Value) → is_unfrozen x v ≡ true
    → (r : Row) × (kid : NodeId) × (f : FnRef) × (x ≡ Some r) × (r.def ≡ Freeze kid f) × (v ≡ None)
unfrozen_of None v e = absurd (cc)
unfrozen_of (Some r) (Some v) e = absurd (cc)
unfrozen_of (Some r) None e = let d = is_freeze_of r.def e in (r, d.0, d.1, refl, d.2, refl)

is_unfrozen_in : (G : Graph) (n : NodeId) → IsUnfrozen G n → is_unfrozen (G.row n) (G.frozen n) ≡ true
is_unfrozen_in G n h =
    ap (λ (x : Option Row). is_unfrozen x (G.frozen n)) h.is_row
    ∙ (ap (λ (v : Option Value). is_unfrozen (Some h.row) v) h.keeps_none ∙ ap is_freeze h.is_freeze)

unfrozen_in : (G : Graph) (n : NodeId) → is_unfrozen (G.row n) (G.frozen n) ≡ true → IsUnfrozen G n
unfrozen_in G n e =
    let h = unfrozen_of (G.row n) (G.frozen n) e in
    record { row = h.0; kid = h.1; predicate = h.2; is_row = h.3; is_freeze = h.4; keeps_none = h.5 }

-- ---- where need begins

some_of : {A : Type 0} (b : Bool) (n m : A) → cond b (Some n) None ≡ Some m → (b ≡ true) × (n ≡ m)
some_of true n m e = (refl, (cc))
some_of false n m e = absurd (cc)

one_of : (b : Bool) → 0 < cond b 1 0 → b ≡ true
one_of true less = refl
one_of false less = absurd (omega (arith, less))

module _ {A : Type 0} (g : GraphView A) where
  -- need begins at a freeze that keeps no value and was there when a stabilize was accepted last
  pub root_is_unfrozen : (n m : NodeId) → frozen_root g n ≡ Some m → IsUnfrozen (graph g) n × (n.gen_ < g.since) × (n ≡ m)
  root_is_unfrozen n m e =
      let is = some_of (is_unfrozen (row_at g.nodes n) (frozen_at g n) && nat_lt n.gen_ g.since) n m e in
      let both = both_true (is_unfrozen (row_at g.nodes n) (frozen_at g n)) (nat_lt n.gen_ g.since) is.0 in
      (unfrozen_in (graph g) n both.0, below n.gen_ g.since both.1, is.1)

  pub unfrozen_is_root : (n : NodeId) → IsUnfrozen (graph g) n → n.gen_ < g.since → frozen_root g n ≡ Some n
  unfrozen_is_root n h less =
      ap (λ (b : Bool). cond (b && nat_lt n.gen_ g.since) (Some n) None) (is_unfrozen_in (graph g) n h)
      ∙ ap (λ (b : Bool). cond b (Some n) None) (is_below n.gen_ g.since less)

  -- it is counted among roots, and nothing else is
  pub counted_root : (n : NodeId) → frozen_root g n ≡ Some n → freeze_roots (graph g) g.since (main n) ≡ 1
  counted_root n e =
      let h = root_is_unfrozen n n e in
      ap (λ (b : Bool). cond (b && is_unfrozen ((graph g).row n) ((graph g).frozen n)) 1 0) (is_below n.gen_ g.since h.1)
      ∙ ap (λ (b : Bool). cond b 1 0) (is_unfrozen_in (graph g) n h.0)

  pub root_counted : (p : Point) → 0 < freeze_roots (graph g) g.since p → (frozen_root g p.node ≡ Some p.node) × (p ≡ main p.node)
  root_counted p less = by_part p.part refl (one_of _ less)
    where
      by_part : (part : Part) → p.part ≡ part
          → is_main p.part && nat_lt p.node.gen_ g.since && is_unfrozen ((graph g).row p.node) ((graph g).frozen p.node) ≡ true
          → (frozen_root g p.node ≡ Some p.node) × (p ≡ main p.node)
      by_part Change is e = absurd (let none = rw is at e in cc)
      by_part Main is e =
          let rest : nat_lt p.node.gen_ g.since && is_unfrozen ((graph g).row p.node) ((graph g).frozen p.node) ≡ true = rw is at e in
          let both = both_true (nat_lt p.node.gen_ g.since) (is_unfrozen ((graph g).row p.node) ((graph g).frozen p.node)) rest in (
            unfrozen_is_root p.node (unfrozen_in (graph g) p.node both.1) (below p.node.gen_ g.since both.0),
            λ i. record { node = p.node; part = is i },
          )
