-- How rows of points are seen.
use Rattle.std.proofs.Common.{◌≡◌, ◌⊎◌, inl, inr, ℕ, Option, None, Some, refl, ap, ◌∙◌, sym, subst}
use Rattle.inc_value.specs.declared.node.NodeId.{NodeId}
use Rattle.inc_value.specs.declared.node.Point.{Point}
use Rattle.inc_terms.specs.Depend.{main, change}
use Rattle.inc_terms.specs.Graph.{Row, Def, Bind}
use Rattle.inc_value.specs.declared.outcome.Outcome.{Outcome}
use Rattle.inc_value.specs.declared.value.Value.{Value}
use Rattle.map_nodes.specs.declared.cutoff.Cutoff.{Cutoff}
use Rattle.map_nodes.specs.declared.cutoff.Cutoff.TheVariants.{Equal}
use Rattle.link_table.specs.Links.{Links, times}
use Rattle.necessary_graph.specs.Part as part
use Rattle.necessity.specs.Need.{Roots, root_times}
use Rattle.node_outcomes.specs.Computing.{seen_of}
use Rattle.node_outcomes.specs.Row.{outcome_in, cutoff_in, kept_in}
use Rattle.expert_nodes.specs.Experts.{Expert, expert_at, expert_in, kids_of_expert}
use Rattle.node_outcomes.specs.Progress.{Progress}
use Rattle.point_map.specs.Rows.{Rows, at}
use Rattle.node_arena.specs.Arena.{Arena, row_at, IsSet, IsVariable, with_value}
use Rattle.node_outcomes.specs.Choosing.{built_by, built_in}
use Rattle.node_outcomes.proofs.Held.{built_live}
use Rattle.stabilize_round.proofs.Points.{node_or_other}
use Rattle.stabilizer.specs.Kept.{graph_in}
use Rattle.stabilizer.specs.Look.{last_of, cutoff_at}
use Rattle.stabilizer.specs.declared.parts.Parts.{Parts}
use Rattle.wiring.proofs.Agreeing.{same_some}
use Rattle.wiring.specs.declared.refused.Refused.{Refused}
use Rattle.graph.specs.Effects.{KeepsBeside}
use Rattle.graph.specs.Standing.{GraphView, IsNeeded}
use Rattle.observers.specs.Observers.{ObserversView}

-- ---- cutoffs

-- a cutoff that stays or is Equal now is Equal where it was
pub equal_still : (now was : Cutoff) → (now ≡ was) ⊎ (now ≡ Equal) → was ≡ Equal → now ≡ Equal
equal_still now was (inl same) e = same ∙ e
equal_still now was (inr equal) e = equal

-- ---- a graph over its parts and its observers

abbrev pub seen_as : {F : Type 0} → F → Parts → ObserversView → ℕ → ℕ → Option Refused → GraphView F
seen_as functions parts observers rooted since refused = record {
  functions = functions;
  nodes = parts.arena;
  observers = observers.made;
  rooted = rooted;
  since = since;
  notices = observers.notices;
  ran = parts.ran.items;
  refused = refused;
  work = parts.work;
}

module _ {F : Type 0} (functions : F) (parts : Parts) (observers : ObserversView) (rooted since : ℕ) (refused : Option Refused) where
  -- by the parts
  pub needed_in : (p : Point) → IsNeeded (seen_as functions parts observers rooted since refused) p → part.Needed parts.work.graph p
  needed_in p need = record { root = need.root; is_root = need.is_root; leads = need.leads }

  -- and back
  pub needed_out : (p : Point) → part.Needed parts.work.graph p → IsNeeded (seen_as functions parts observers rooted since refused) p
  needed_out p need = record { root = need.root; is_root = need.is_root; leads = need.leads }

-- ---- what nodes are built for

-- a node is built as it was, by its row, by the outcome that its change keeps, and by its root
pub built_still : (old new : Parts) (n : NodeId) → row_at new.arena n ≡ row_at old.arena n
    → outcome_in (at new.work.rows (change n)) ≡ outcome_in (at old.work.rows (change n))
    → at new.work.roots (change n) ≡ at old.work.roots (change n) → (graph_in new).built n ≡ (graph_in old).built n
built_still old new n row outcome root =
    ap (λ (r : Option Row). built_in r (outcome_in (at new.work.rows (change n))) (at new.work.roots (change n))) row
    ∙ (ap (λ (o : Option Outcome). built_in (row_at old.arena n) o (at new.work.roots (change n))) outcome
    ∙ ap (built_in (row_at old.arena n) (outcome_in (at old.work.rows (change n)))) root)

-- what can't be told not to be a variable is built for nothing
unbuilt : (a : Arena) (id : NodeId) (row : Row) → row_at a id ≡ Some row → ((IsVariable a id → ⊥) → ⊥) → (def : Def) → row.def ≡ def
    → (o : Option Outcome) (root : Option NodeId) → built_by def o root ≡ None
unbuilt a id row there not (Bind left f captures) is o root = absurd (not (λ x.
    let same : x.row ≡ row = same_some (sym x.there ∙ there) in
    let e = sym x.variable ∙ (ap (λ (y : Row). y.def) same ∙ is) in cc))
unbuilt a id row there not _ is o root = refl

-- so a variable stays unbuilt that is set, and every other node is built as it was
module _ (old new : Parts) (id : NodeId) (v : Value) (set : IsSet old.arena new.arena id v) (not_other : (IsVariable old.arena id → ⊥) → ⊥) where
  pub built_set : new.work.rows ≡ old.work.rows → ((n : NodeId) → at new.work.roots (change n) ≡ at old.work.roots (change n))
      → (n : NodeId) → (graph_in new).built n ≡ (graph_in old).built n
  built_set rows roots n = elim (node_or_other n id) [
    | inl is ↦ subst (λ (x : NodeId). (graph_in new).built x ≡ (graph_in old).built x) (sym is)
        (built_live new.work.rows new.work.roots id new.arena new.work.experts (with_value set.row v) set.changes.changed
        ∙ sym (built_live old.work.rows old.work.roots id old.arena old.work.experts set.row set.there
        ∙ unbuilt old.arena id set.row set.there not_other set.row.def refl (outcome_in (at old.work.rows (change id))) (at old.work.roots (change id))))
    | inr other ↦ built_still old new n (set.changes.others n other) (ap (λ (m : Rows Progress). outcome_in (at m (change n))) rows) (roots n)
  ]

-- ---- what stays beside nodes

module _ {F : Type 0} (functions : F) (old new : Parts) (observers : ObserversView) (rooted since : ℕ) (refused : Option Refused) where
  pub beside_as : (Of : NodeId → Type 0) → new.ran.items ≡ old.ran.items → new.work.graph.links ≡ old.work.graph.links
      → new.work.graph.roots ≡ old.work.graph.roots → ((p : Point) → Of p.node → at new.work.rows p ≡ at old.work.rows p)
      → ((n : NodeId) → Of n → (graph_in new).built n ≡ (graph_in old).built n)
      → ((n : NodeId) → Of n → expert_at new.work.experts n ≡ expert_at old.work.experts n)
      → ((n : NodeId) → (cutoff_at new.work n ≡ cutoff_at old.work n) ⊎ (cutoff_at new.work n ≡ Equal))
      → KeepsBeside Of (seen_as functions old observers rooted since refused) (seen_as functions new observers rooted since refused)
  beside_as Of ran links roots rows built experts fewer = record {
    top = record { functions = refl; rooted = refl; since = refl; refused = refl; ran = ran; notices = refl };
    observers = refl;
    need = record { links = λ p q. ap (λ (l : Links). times l p q) links; roots = λ p. ap (λ (r : Roots). root_times r p) roots };
    of_nodes = record {
      shown = λ n of. ap seen_of (rows (main n) of);
      chosen = λ n of. ap outcome_in (rows (change n) of);
      built = built;
      last = λ n of. ap last_of (rows (main n) of);
      frozen = λ n of. ap kept_in (rows (main n) of);
      lists = λ n of. ap (λ (e : Option Expert). kids_of_expert (expert_in e)) (experts n of);
      marks = λ n of. ap (λ (e : Option Expert). (expert_in e).stale) (experts n of);
    };
    cutoff = λ n of. ap cutoff_in (rows (main n) of);
    no_more_cutoffs = λ n. equal_still (cutoff_at new.work n) (cutoff_at old.work n) (fewer n);
  }
