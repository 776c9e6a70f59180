-- Freezes at which need begins: those that keep no value and were given before a count.
use Rattle.std.proofs.Common.{◌≡◌, inl, inr, ℕ, ◌<◌, Bool, true, false, ◌&&◌, cond, Option, None, Some, nat_lt, refl, sym, ap, ◌∙◌, arith}
use Rattle.std.proofs.lemmas.Bool.{ltb-true}
use Rattle.std.proofs.lemmas.Option.{same_Some}
use Rattle.std.specs.Prelude.{Result, Ok, Err, OnOk, OnErr}
use Rattle.inc_value.specs.declared.node.NodeId.{NodeId}
use Rattle.inc_value.specs.declared.node.Point.{Point}
use Rattle.inc_value.specs.declared.value.Value.{Value}
use Rattle.inc_terms.specs.Depend.{main}
use Rattle.inc_terms.specs.Graph as graph
use Rattle.inc_terms.specs.Graph.{Graph, Row, Def}
use Rattle.node_arena.specs.Arena.{Arena, row_at, IsSet, IsVariable, with_value}
use Rattle.node_outcomes.specs.Row.{kept_in}
use Rattle.node_outcomes.specs.Progress.{Progress}
use Rattle.point_map.specs.Rows.{Rows, at}
use Rattle.stabilize_round.proofs.Points.{node_or_other}
use Rattle.stabilizer.specs.Kept.{graph_in}
use Rattle.stabilizer.specs.Look.{freeze_roots, is_freeze, is_main, is_unfrozen}
use Rattle.stabilizer.specs.declared.parts.Parts.{Parts}

-- ---- of three tests

same_count : (a b c d : Bool) → (b ≡ true → d ≡ c) → ◌≡◌ {A = ℕ} (cond (a && b && d) 1 0) (cond (a && b && c) 1 0)
same_count false b c d h = refl
same_count true false c d h = refl
same_count true true c d h = ap (λ (x : Bool). cond x 1 0) (h refl)

no_count : (a b c : Bool) → c ≡ false → ◌≡◌ {A = ℕ} (cond (a && b && c) 1 0) 0
no_count false b c h = refl
no_count true false c h = refl
no_count true true c h = ap (λ (x : Bool). cond x 1 0) h

tests_of : (a b c : Bool) → 0 < cond (a && b && c) 1 0 → (b ≡ true) × (c ≡ true)
tests_of true true true h = (refl, refl)
tests_of true true false h = absurd (omega (arith, h))
tests_of true false c h = absurd (omega (arith, h))
tests_of false b c h = absurd (omega (arith, h))

-- ---- of one node

pub dead_unfrozen : (v : Option Value) → is_unfrozen None v ≡ false
dead_unfrozen None = refl
dead_unfrozen (Some v) = refl

not_freeze : (r : Row) (v : Option Value) → is_freeze r.def ≡ false → is_unfrozen (Some r) v ≡ false
not_freeze r None h = h
not_freeze r (Some v) h = refl

pub same_test : (x x' : Option Row) (v v' : Option Value) → x' ≡ x → v' ≡ v → is_unfrozen x' v' ≡ is_unfrozen x v
same_test x x' v v' row kept = ap (λ (r : Option Row). is_unfrozen r v') row ∙ ap (λ (k : Option Value). is_unfrozen x k) kept

-- ---- of all nodes

-- where early nodes are what they were, and keep what they kept, need begins as often as before
pub freezes_by : (G G' : Graph) (since : ℕ) (p : Point)
    → (p.node.gen_ < since → is_unfrozen (G'.row p.node) (G'.frozen p.node) ≡ is_unfrozen (G.row p.node) (G.frozen p.node))
    → freeze_roots G' since p ≡ freeze_roots G since p
freezes_by G G' since p same = same_count (is_main p.part) (nat_lt p.node.gen_ since) (is_unfrozen (G.row p.node) (G.frozen p.node))
    (is_unfrozen (G'.row p.node) (G'.frozen p.node)) (λ early. same (ltb-true p.node.gen_ since early))

pub freezes_as : (G G' : Graph) (since : ℕ) → ((n : NodeId) → n.gen_ < since → G'.row n ≡ G.row n)
    → ((n : NodeId) → n.gen_ < since → G'.frozen n ≡ G.frozen n) → (p : Point) → freeze_roots G' since p ≡ freeze_roots G since p
freezes_as G G' since rows kept p = freezes_by G G' since p (λ early.
    same_test (G.row p.node) (G'.row p.node) (G.frozen p.node) (G'.frozen p.node) (rows p.node early) (kept p.node early))

-- at a dead one it begins not at all
pub no_freeze_root : (G : Graph) (since : ℕ) (p : Point) → G.row p.node ≡ None → freeze_roots G since p ≡ 0
no_freeze_root G since p dead = no_count (is_main p.part) (nat_lt p.node.gen_ since) (is_unfrozen (G.row p.node) (G.frozen p.node))
    (ap (λ (r : Option Row). is_unfrozen r (G.frozen p.node)) dead ∙ dead_unfrozen (G.frozen p.node))

-- where it begins, the node was given before the count
pub freeze_root_given : (G : Graph) (since : ℕ) (p : Point) → 0 < freeze_roots G since p → p.node.gen_ < since
freeze_root_given G since p h = ltb-true p.node.gen_ since
    (tests_of (is_main p.part) (nat_lt p.node.gen_ since) (is_unfrozen (G.row p.node) (G.frozen p.node)) h).0

-- ---- over parts

pub kept_as : (old new : Parts) → new.work.rows ≡ old.work.rows → (n : NodeId) → (graph_in new).frozen n ≡ (graph_in old).frozen n
kept_as old new rows n = ap (λ (m : Rows Progress). kept_in (at m (main n))) rows

-- a variable is set, and is no freeze before or after
variable_test : (a : Arena) (id : NodeId) (row : Row) → row_at a id ≡ Some row → ((IsVariable a id → ⊥) → ⊥) → (def : Def) → row.def ≡ def
    → is_freeze def ≡ false
variable_test a id row there not (graph.Freeze kid f) is = absurd (not (λ x.
    let same : x.row ≡ row = same_Some x.row row (sym x.there ∙ there) in
    let e = sym x.variable ∙ (ap (λ (y : Row). y.def) same ∙ is) in cc))
variable_test a id row there not _ is = refl

module _ (old new : Parts) (id : NodeId) (v : Value) (rows : new.work.rows ≡ old.work.rows) where
  pub freezes_set : IsSet old.arena new.arena id v → ((IsVariable old.arena id → ⊥) → ⊥) → (since : ℕ) (p : Point)
      → freeze_roots (graph_in new) since p ≡ freeze_roots (graph_in old) since p
  freezes_set set variable since p = freezes_by (graph_in old) (graph_in new) since p (λ early. elim (node_or_other p.node id) [
    | inl e ↦
        ap (λ (r : Option Row). is_unfrozen r ((graph_in new).frozen p.node)) (ap (row_at new.arena) e ∙ set.changes.changed)
        ∙ (not_freeze (with_value set.row v) ((graph_in new).frozen p.node) refl
        ∙ sym (ap (λ (r : Option Row). is_unfrozen r ((graph_in old).frozen p.node)) (ap (row_at old.arena) e ∙ set.there)
        ∙ not_freeze set.row ((graph_in old).frozen p.node) (variable_test old.arena id set.row set.there variable set.row.def refl)))
    | inr other ↦ same_test (row_at old.arena p.node) (row_at new.arena p.node) ((graph_in old).frozen p.node) ((graph_in new).frozen p.node)
        (set.changes.others p.node other) (kept_as old new rows p.node)
  ])

  -- or it isn't set
  pub freezes_answered : {T E : Type 0} (r : Result T E)
      → OnOk r (IsSet old.arena new.arena id v × ((IsVariable old.arena id → ⊥) → ⊥)) → OnErr r (new ≡ old) → (since : ℕ) (p : Point)
      → freeze_roots (graph_in new) since p ≡ freeze_roots (graph_in old) since p
  freezes_answered (Ok u) set err since p = freezes_set set.0 set.1 since p
  freezes_answered (Err e) set err since p = ap (λ (q : Parts). freeze_roots (graph_in q) since p) err
