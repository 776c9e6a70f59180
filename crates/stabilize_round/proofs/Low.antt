-- What is lower than all of the heap is exact.
use Rattle.std.proofs.Common.{◌≡◌, inl, inr, ℕ, zero, suc, ◌<◌, ◌≤◌, true, false, Option, None, Some, refl, arith}
use Rattle.inc_value.specs.declared.node.NodeId.{NodeId}
use Rattle.inc_value.specs.declared.node.Point.{Point}
use Rattle.inc_value.specs.Choice.{Among}
use Rattle.inc_terms.specs.Term.{Functions}
use Rattle.inc_terms.specs.Graph.{Row}
use Rattle.inc_terms.specs.Depend.{change, fixed_reads}
use Rattle.inc_terms.specs.Local.{Agrees, Exact}
use Rattle.inc_terms.specs.Plan.{gate_of}
use Rattle.inc_terms.proofs.Full.{full_exact}
use Rattle.inc_terms.proofs.Plan.{among_right}
use Rattle.stabilize_round.specs.State.{State, Start, Stage, Bare, Gated, Static, Full, Linked, count, planned, live_plan}
use Rattle.stabilize_round.specs.Invariant.{Invariant, Rows}
use Rattle.stabilize_round.specs.Moves.{Quiet}
use Rattle.stabilize_round.proofs.Points.{among_count, count_among}

pub among_gate : (scope : Option NodeId) (b : NodeId) → scope ≡ Some b → Among (change b) (gate_of scope)
among_gate scope b e = rw e (inl refl)

pub gate_among : (scope : Option NodeId) (q : Point) → Among q (gate_of scope) → (b : NodeId) × (scope ≡ Some b) × (q ≡ change b)
gate_among None q h = absurd h
gate_among (Some b) q (inl e) = (b, refl, e)
gate_among (Some b) q (inr h) = absurd h

pub links_of : (s : State) → Rows s → (p q : Point) → s.needed p ≡ true → s.todo p ≡ false → s.links p q ≡ count q (planned s p)
links_of s rows p q need idle =
    let e = rows.links p q need in
    let o = rows.owed p idle in
    let e' = rw o at e in omega arith

module _ (F : Functions) (z : Start) (s : State) (inv : Invariant F z s) (quiet : Quiet s) where
  pub links_are : (p q : Point) → s.needed p ≡ true → s.links p q ≡ count q (planned s p)
  links_are p q need = links_of s inv.rows p q need (quiet p)

  pub plan_links : (p q : Point) (r : Row) (st : Stage) → s.graph.row p.node ≡ Some r → s.stage p ≡ st → s.needed p ≡ true
      → Among q (live_plan s.graph s.out p r st) → Linked s p q
  plan_links p q r st row is need among =
      let e = rw (row, is) at (links_are p q need) in
      let c = among_count q (live_plan s.graph s.out p r st) among in omega arith

  pub links_plan : (p q : Point) (r : Row) (st : Stage) → s.graph.row p.node ≡ Some r → s.stage p ≡ st → Linked s p q
      → Among q (live_plan s.graph s.out p r st)
  links_plan p q r st row is l =
      let e = rw (row, is) at (links_are p q (inv.web.from p q l)) in
      count_among q (live_plan s.graph s.out p r st) (omega arith)

  pub record Low (p : Point) : Type 0 where
    pub full : (r : Row) → s.graph.row p.node ≡ Some r → s.stage p ≡ Full
    pub exact : Exact F s.graph s.out p
    pub absent : s.heap p ≡ true → ⊥

  -- a point whose links are low doesn't wait
  module _ (p : Point) (need : s.needed p ≡ true) (below : (q : Point) → Linked s p q → Low q) where
    by_stage : (r : Row) → s.graph.row p.node ≡ Some r → (st : Stage) → s.stage p ≡ st → s.stage p ≡ Full
    by_stage r row Bare e = let t = inv.rows.bare p need e in let f = quiet p in absurd (cc)
    by_stage r row Gated e =
        let w = inv.waits.gated p r row need (quiet p) e in
        absurd ((below (change w.0) (plan_links p (change w.0) r Gated row e need (among_gate r.scope w.0 w.1))).absent w.3)
    by_stage r row Static e =
        let w = inv.waits.static p r row need (quiet p) e in
        let own : Among (change p.node) (fixed_reads s.graph p.node r.def p.part) = rw (w.0, w.2) (inl refl) in
        absurd ((below (change p.node)
        (plan_links p (change p.node) r Static row e need (among_right (change p.node) (gate_of r.scope) _ own))).absent w.3)
    by_stage r row Full e = e

    pub is_full : (r : Row) → s.graph.row p.node ≡ Some r → s.stage p ≡ Full
    is_full r row = by_stage r row (s.stage p) refl

    pub agreeing_exact : Agrees F s.graph s.out p → Exact F s.graph s.out p
    agreeing_exact agrees = full_exact F s.graph s.out inv.scoped p agrees
        (λ r row q among. (below q (plan_links p q r Full row (is_full r row) need among)).exact)

  module _ (h : ℕ) (least : (q : Point) → s.heap q ≡ true → h ≤ s.height q) where
    -- what is lower than all of the heap has its links, and is exact
    low : (n : ℕ) (p : Point) → s.height p < n → s.height p < h → s.needed p ≡ true → Low p
    low zero p lt lh need = absurd (omega arith)
    low (suc n) p lt lh need =
        let below = λ (q : Point) (l : Linked s p q). let k = inv.web.rises p q l in low n q (omega arith) (omega arith) (inv.web.onto p q l) in
        let absent : s.heap p ≡ true → ⊥ = λ e. let l = least p e in absurd (omega arith) in
        record {
          full = is_full p need below;
          exact = λ r row. elim (inv.fresh p r row need) [
            | inl e ↦ absurd (absent e)
            | inr (inl e) ↦ (inv.settled.done p e).exact r row
            | inr (inr e) ↦ agreeing_exact p need below e.1 r row
          ];
          absent = absent;
        }

    pub low_points : (p : Point) → s.height p < h → s.needed p ≡ true → Low p
    low_points p lh need = low (suc (s.height p)) p (omega arith) lh need
