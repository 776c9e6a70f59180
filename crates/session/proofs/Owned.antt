-- The declaration of a node: that in whose formula it stands, or the grab whose node it was; and whether a cycle passes it.
use Rattle.std.proofs.Common.{◌≡◌, ℕ, List, [], ◌∷◌, Option, None, Some, IsSome, refl, ap, sym, subst, ◌∙◌, slice_get}
use Rattle.std.specs.Prelude.{IfNone, IfSome}
use Rattle.graph.specs.Standing.{GraphView, IsOwner, graph}
use Rattle.height_order.specs.Chains.{StartsAt}
use Rattle.inc_terms.specs.Depend.{main}
use Rattle.inc_terms.specs.Graph.{Row}
use Rattle.inc_value.specs.declared.node.NodeId.{NodeId}
use Rattle.inc_value.specs.declared.node.Part.{Part}
use Rattle.inc_value.specs.declared.node.Part.TheVariants.{Main}
use Rattle.inc_value.specs.declared.node.Point.{Point}
use Rattle.node_arena.specs.Arena.{IsLive, row_at}
use Rattle.script_graph.proofs.OneOwner.{one_owner, owned_is_live}
use Rattle.script_graph.specs.Stabilizing.{AllOlder, ChainBegins, IsFirstNotOlder, IsOwnRoot, IsPassed, IsTold, NoneTold, of_owner, of_grab}
use Rattle.script_model.specs.Check.{Names}
use Rattle.session.specs.Replies.{IsOwnNode}
use Rattle.wiring.specs.declared.refused.Refused.{Refused}
use Rattle.wiring.specs.declared.refused.Refused.TheVariants.{Height}

-- what isn't live has no row
no_row : {R : Type 0} (o : Option R) → (IsSome o → ⊥) → o ≡ None
no_row None dead = refl
no_row (Some r) dead = absurd (dead refl)

module _ {A : Type 0} (names : Names) (nodes : List NodeId) (g : GraphView A) (n : NodeId) where
  -- ---- a node with an owner

  module _ (top : NodeId) (is : IsOwner (graph g) n top) where
    -- the first declaration that isn't older is told
    pub first_told : (found : Option ℕ) → IfSome found (λ i. IsFirstNotOlder nodes top i) → IfSome found (IsTold names.declared nodes g n)
    first_told None first = tt
    first_told (Some i) first = of_owner top is first

    -- where all are older none is
    pub none_told_older : {T : Type 0} (found : Option T) → IfNone found (AllOlder nodes top) → IfNone found (NoneTold names.declared nodes g n)
    none_told_older None older = record {
      owner = λ other is'. subst (AllOlder nodes) (one_owner (graph g) n top other is is') older;
      grab = λ dead target own. absurd (let live = owned_is_live (graph g) n top is in let none : IsSome {T = Row} None = subst (λ (r : Option Row). IsSome r) dead live in cc);
    }
    none_told_older (Some t) older = tt

  -- ---- a dead one

  module _ (dead : IsLive g.nodes n → ⊥) where
    -- the grab whose node it was is told
    pub grab_told : (found : Option ℕ) → IfSome found (IsOwnNode names nodes n) → IfSome found (IsTold names.declared nodes g n)
    grab_told None own = tt
    grab_told (Some i) own = of_grab (no_row (row_at g.nodes n) dead) (own.declared, own.is_declared, own.own, own.is_node)

    -- where it is that of none, none is
    pub none_told_dead : (found : Option ℕ) → IfNone found ((i : ℕ) → IsOwnNode names nodes n i → ⊥) → IfNone found (NoneTold names.declared nodes g n)
    none_told_dead None none = record {
      owner = λ top is. absurd (dead (owned_is_live (graph g) n top is));
      grab = λ dead target own. none target (record { declared = own.0; is_declared = own.1; own = own.2; is_node = own.3 });
    }
    none_told_dead (Some i) none = tt

-- ---- where a chain begins

-- the chain begins at the first of its points alone
begins_first : (items : List Point) (q p : Point) → slice_get items 0 ≡ Some q → StartsAt items p → q ≡ p
begins_first [] q p first begins = absurd begins
begins_first (r ∷ items) q p first begins = let same : r ≡ q = cc in sym same ∙ begins

-- what is so of its first point's node is so of the node where the chain begins
pub at_beginning : {A : Type 0} (P : NodeId → Type 0) (g : GraphView A) (points : _) (q : Point) → g.refused ≡ Some (Height points)
    → slice_get points.items 0 ≡ Some q → P q.node → (p : Point) → ChainBegins g.refused p → P p.node
at_beginning P g points q met first is p begins =
    let starts : StartsAt points.items p = subst (λ (r : Option Refused). ChainBegins r p) met begins in
    subst (λ (r : Point). P r.node) (begins_first points.items q p first starts) is

pub told_begins : {A : Type 0} (names : Names) (nodes : List NodeId) (g : GraphView A) (points : _) (q : Point) → g.refused ≡ Some (Height points)
    → slice_get points.items 0 ≡ Some q → (found : Option ℕ) → IfSome found (IsTold names.declared nodes g q.node)
    → IfSome found (λ i. (p : Point) → ChainBegins g.refused p → IsTold names.declared nodes g p.node i)
told_begins names nodes g points q met first None told = tt
told_begins names nodes g points q met first (Some i) told = at_beginning (λ n. IsTold names.declared nodes g n i) g points q met first told

pub none_begins : {A T : Type 0} (names : Names) (nodes : List NodeId) (g : GraphView A) (points : _) (q : Point) → g.refused ≡ Some (Height points)
    → slice_get points.items 0 ≡ Some q → (found : Option T) → IfNone found (NoneTold names.declared nodes g q.node)
    → IfNone found ((p : Point) → ChainBegins g.refused p → NoneTold names.declared nodes g p.node)
none_begins names nodes g points q met first (Some t) none = tt
none_begins names nodes g points q met first None none = at_beginning (NoneTold names.declared nodes g) g points q met first none

-- ---- what a cycle passes

-- a point is the main of its node, if it is a main
is_main : (p : Point) (n : NodeId) → p.part ≡ Main → n ≡ p.node → p ≡ main n
is_main p n part node = ap (λ (x : Part). record { node = p.node; part = x }) part ∙ ap main (sym node)

module _ {A : Type 0} (names : Names) (nodes : List NodeId) (g : GraphView A) (before point : Point) where
  -- the declaration is passed whose main the point is, which its bind's main doesn't read
  pub passed_own : point.part ≡ Main → (IsOwnRoot g before point.node → ⊥) → (found : Option ℕ) → IfSome found (IsOwnNode names nodes point.node)
      → IfSome found (IsPassed g names.declared nodes before point)
  passed_own part apart None own = tt
  passed_own part apart (Some i) own = (own.declared, own.is_declared, own.own, is_main point _ part own.is_node, apart)

  pub passed_none : (found : Option ℕ) → IfNone found ((i : ℕ) → IsOwnNode names nodes point.node i → ⊥)
      → IfNone found ((i : ℕ) → IsPassed g names.declared nodes before point i → ⊥)
  passed_none None none = λ i passed. none i (record {
    declared = passed.0;
    is_declared = passed.1;
    own = passed.2;
    is_node = sym (ap (λ (p : Point). p.node) passed.3);
  })
  passed_none (Some i) none = tt

-- ---- a right side that its own bind's main reads

-- a root that its bind's main reads has that owner
pub own_root : {A : Type 0} (g : GraphView A) (p : Point) (n top : NodeId) → IsOwner (graph g) n top → IsOwnRoot g p n
    → (top ≡ n → ⊥) × (p ≡ main top)
own_root g p n top is own =
    let same : own.0 ≡ top = one_owner (graph g) n own.0 top own.1 is in (
      λ e. own.2 (same ∙ e),
      own.3 ∙ ap main same,
    )

-- what isn't live has no owner whose main could read it
pub no_root : {A : Type 0} (g : GraphView A) (p : Point) (n : NodeId) → (IsLive g.nodes n → ⊥) → IsOwnRoot g p n → ⊥
no_root g p n dead own = dead (owned_is_live (graph g) n own.0 own.1)
