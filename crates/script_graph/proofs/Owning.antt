-- The nodes of what is declared, and those of items.
use Rattle.std.proofs.Common.{◌≡◌, ◌⊎◌, inl, inr, Bool, ℕ, zero, suc, List, [], ◌∷◌, Option, None, Some, refl, ap, sym, subst, ◌∙◌, arith, slice_get}
use Rattle.inc_value.specs.Choice.{and_then}
use Rattle.inc_value.specs.declared.function.FnRef.{FnRef}
use Rattle.inc_value.specs.declared.node.NodeId.{NodeId}
use Rattle.inc_value.specs.declared.value.Value.{Value as GraphValue}
use Rattle.inc_terms.specs.Graph as graph
use Rattle.inc_terms.specs.Graph.{Graph, Row, Def}
use Rattle.script_model.specs.Check.{target_of_body}
use Rattle.script_model.specs.Formula as script
use Rattle.script_model.specs.Formula.{State, Body, Formula, Formulas, Meanings, body_at, formula_of_body, Literal, Name, Apply, Fold, If, Join, Bind, At, Steps, Now, End, More, Variable, Computed, Freeze, After, Every, Expert, Grab}
use Rattle.script_model.specs.Need.{Edge, Argument, Test, Then, Else, Child, Left, Inside, argument_at, part_at, part_of, formula_at}
use Rattle.script_graph.specs.Kept.{Kept, node_in}
use Rattle.script_model.specs.Values.{Value}
use Rattle.script_graph.specs.Represents.{beside, Represents}
use Rattle.script_graph.specs.Settled.{BodiesStay, FreezesStay}
use Rattle.script_graph.specs.Today.{AllPlain, IsDeclaredFreeze, OwnNodes, OwnNodesOfAll, WholeNodes, OwnNodesOf, IsPartWithin, IsWithin}
use Rattle.transfer.specs.Both.{Both}
use Rattle.transfer.specs.Cycles.{IsForm}
use Rattle.transfer.specs.Items.{freeze_kid, part_node, root_at, node_at}
use Rattle.transfer.specs.Keeping.{RowsStay}
use Rattle.transfer.specs.Shows.{plain, IsOwn}
use Rattle.transfer.proofs.Places.{then_some, map_parts, fold_parts}

-- ---- freezes

-- a freeze that is declared is so still
pub freeze_on : (s s' : State) (nodes : List NodeId) (n : NodeId) → BodiesStay s s' → IsDeclaredFreeze s nodes n → IsDeclaredFreeze s' nodes n
freeze_on s s' nodes n stay d = record {
  position = d.position;
  child = d.child;
  predicate = d.predicate;
  frozen = d.frozen;
  is_body = stay d.position (Freeze d.child d.predicate d.frozen) refl d.is_body;
  node = d.node;
}

-- ---- in another graph

module _ (G G' : Graph) (P Q : NodeId → Type 0) (more : (n : NodeId) → P n → Q n)
    (kept : RowsStay G G') where
  mutual
    pub own_nodes_on : (n : NodeId) (f : Formula) → OwnNodes G P n f → OwnNodes G' Q n f
    own_nodes_on n (Literal v) own = more n own
    own_nodes_on n (Name k) own = tt
    own_nodes_on n (Apply f arguments) own =
        (more n own.0, own.1, own.2, kept n own.1 _ own.3 (ap plain own.4), own.4, own_nodes_of_all_on own.2 arguments own.5)
    own_nodes_on n (Fold f first elements) own =
        (more n own.0, own.1, own.2, own.3, kept n own.1 _ own.4 (ap plain own.5), own.5, own_nodes_of_all_on own.3 elements own.6)
    own_nodes_on n (If test a b) own = (
      more n own.0,
      own.1,
      own.2,
      own.3,
      own.4,
      kept n own.1 _ own.5 (ap plain own.6),
      own.6,
      own_nodes_on own.2 test own.7,
      own_nodes_on own.3 a own.8,
      own_nodes_on own.4 b own.9,
    )
    own_nodes_on n (Join child) own =
        (more n own.0, own.1, own.2, kept n own.1 _ own.3 (ap plain own.4), own.4, own_nodes_on own.2 child own.5)
    own_nodes_on n (Bind left body) own =
        (more n own.0, own.1, own.2, own.3, own.4, kept n own.1 _ own.5 (ap plain own.6), own.6, own_nodes_on own.2 left own.7)
    own_nodes_on n (At time) own = more n own
    own_nodes_on n (Steps v steps) own = more n own
    own_nodes_on n Now own = more n own
    own_nodes_on n f own = absurd own

    pub own_nodes_of_all_on : (ns : List NodeId) (fs : Formulas) → OwnNodesOfAll G P ns fs → OwnNodesOfAll G' Q ns fs
    own_nodes_of_all_on [] End own = tt
    own_nodes_of_all_on [] (More f rest) own = absurd own
    own_nodes_of_all_on (n ∷ ns) End own = absurd own
    own_nodes_of_all_on (n ∷ ns) (More f rest) own = (own_nodes_on n f own.0, own_nodes_of_all_on ns rest own.1)

module _ (G G' : Graph) (P P' Q Q' : NodeId → Type 0) (more : (n : NodeId) → P n → P' n) (parts : (n : NodeId) → Q n → Q' n)
    (kept : RowsStay G G') (freezes : FreezesStay G G') where
  whole_nodes_on : (n : NodeId) (f : Formula) → WholeNodes G P Q n f → WholeNodes G' P' Q' n f
  whole_nodes_on n (Literal v) own = more n own
  whole_nodes_on n (Name k) own = tt
  whole_nodes_on n (Apply f arguments) own = (
    more n own.0,
    own.1,
    own.2,
    kept n own.1 _ own.3 (ap plain own.4),
    own.4,
    own_nodes_of_all_on G G' Q Q' parts kept own.2 arguments own.5,
  )
  whole_nodes_on n (Fold f first elements) own = (
    more n own.0,
    own.1,
    own.2,
    own.3,
    kept n own.1 _ own.4 (ap plain own.5),
    own.5,
    own_nodes_of_all_on G G' Q Q' parts kept own.3 elements own.6,
  )
  whole_nodes_on n (If test a b) own = (
    more n own.0,
    own.1,
    own.2,
    own.3,
    own.4,
    kept n own.1 _ own.5 (ap plain own.6),
    own.6,
    own_nodes_on G G' Q Q' parts kept own.2 test own.7,
    own_nodes_on G G' Q Q' parts kept own.3 a own.8,
    own_nodes_on G G' Q Q' parts kept own.4 b own.9,
  )
  whole_nodes_on n (Join child) own =
      (more n own.0, own.1, own.2, kept n own.1 _ own.3 (ap plain own.4), own.4, own_nodes_on G G' Q Q' parts kept own.2 child own.5)
  whole_nodes_on n (Bind left body) own = (
    more n own.0,
    own.1,
    own.2,
    own.3,
    own.4,
    kept n own.1 _ own.5 (ap plain own.6),
    own.6,
    own_nodes_on G G' Q Q' parts kept own.2 left own.7,
  )
  whole_nodes_on n (At time) own = more n own
  whole_nodes_on n (Steps v steps) own = more n own
  whole_nodes_on n Now own = more n own
  whole_nodes_on n f own = absurd own

  -- where nodes that call functions stay, and what they have implies more, what is declared has more
  pub own_nodes_of_on : (n : NodeId) (b : Body) → OwnNodesOf G P Q n b → OwnNodesOf G' P' Q' n b
  own_nodes_of_on n (Variable v) own = more n own
  own_nodes_of_on n (Computed f kept) own = whole_nodes_on n f own
  own_nodes_of_on n (Grab bind v is_live) own = tt
  own_nodes_of_on n (After time) own = more n own
  own_nodes_of_on n (Every base span) own = more n own
  own_nodes_of_on n (Freeze child predicate frozen) own = (
    more n own.0,
    own.1,
    own.2,
    freezes n own.1 own.2 predicate own.3 own.4,
    own.4,
    own_nodes_on G G' Q Q' parts kept own.2 child own.5,
  )
  own_nodes_of_on n (Expert f first links stale) own = more n own

-- ---- by items

-- the nodes of a formula's parts have the property, but for those of bare names
abbrev PartNodes : Graph → (NodeId → Type 0) → NodeId → Formula → Type 0
PartNodes G P n (Apply f arguments) =
    (r : Row) × (kids : List NodeId) × (G.row n ≡ Some r) × (r.def ≡ graph.Map f kids) × OwnNodesOfAll G P kids arguments
PartNodes G P n (Fold f first elements) =
    (r : Row) × (value : GraphValue) × (kids : List NodeId) × (G.row n ≡ Some r) × (r.def ≡ graph.Fold f value kids)
    × OwnNodesOfAll G P kids elements
PartNodes G P n (If test a b) =
    (r : Row) × (t x y : NodeId) × (G.row n ≡ Some r) × (r.def ≡ graph.If t x y)
    × OwnNodes G P t test × OwnNodes G P x a × OwnNodes G P y b
PartNodes G P n (Join child) = (r : Row) × (c : NodeId) × (G.row n ≡ Some r) × (r.def ≡ graph.Join c) × OwnNodes G P c child
PartNodes G P n (Bind left body) =
    (r : Row) × (l : NodeId) × (f : FnRef) × (captures : List NodeId) × (G.row n ≡ Some r) × (r.def ≡ graph.Bind l f captures) × OwnNodes G P l left
PartNodes G P n (Literal v) = Unit {0}
PartNodes G P n (Name k) = Unit {0}
PartNodes G P n (At time) = Unit {0}
PartNodes G P n (Steps v steps) = Unit {0}
PartNodes G P n Now = Unit {0}
PartNodes G P n f = ⊥

own_parts : (G : Graph) (P : NodeId → Type 0) (n : NodeId) (f : Formula) → OwnNodes G P n f → PartNodes G P n f
own_parts G P n (Literal v) own = tt
own_parts G P n (Name k) own = tt
own_parts G P n (Apply f arguments) own = (own.1, own.2, own.3, own.4, own.5)
own_parts G P n (Fold f first elements) own = (own.1, own.2, own.3, own.4, own.5, own.6)
own_parts G P n (If test a b) own = (own.1, own.2, own.3, own.4, own.5, own.6, own.7, own.8, own.9)
own_parts G P n (Join child) own = (own.1, own.2, own.3, own.4, own.5)
own_parts G P n (Bind left body) own = (own.1, own.2, own.3, own.4, own.5, own.6, own.7)
own_parts G P n (At time) own = tt
own_parts G P n (Steps v steps) own = tt
own_parts G P n Now own = tt
own_parts G P n f own = absurd own

whole_parts : (G : Graph) (P Q : NodeId → Type 0) (n : NodeId) (f : Formula) → WholeNodes G P Q n f → PartNodes G Q n f
whole_parts G P Q n (Literal v) own = tt
whole_parts G P Q n (Name k) own = tt
whole_parts G P Q n (Apply f arguments) own = (own.1, own.2, own.3, own.4, own.5)
whole_parts G P Q n (Fold f first elements) own = (own.1, own.2, own.3, own.4, own.5, own.6)
whole_parts G P Q n (If test a b) own = (own.1, own.2, own.3, own.4, own.5, own.6, own.7, own.8, own.9)
whole_parts G P Q n (Join child) own = (own.1, own.2, own.3, own.4, own.5)
whole_parts G P Q n (Bind left body) own = (own.1, own.2, own.3, own.4, own.5, own.6, own.7)
whole_parts G P Q n (At time) own = tt
whole_parts G P Q n (Steps v steps) own = tt
whole_parts G P Q n Now own = tt
whole_parts G P Q n f own = absurd own

argument_own : (G : Graph) (P : NodeId → Type 0) (ns : List NodeId) (fs : Formulas) → OwnNodesOfAll G P ns fs → (k : ℕ) (m : NodeId) (g : Formula)
    → slice_get ns k ≡ Some m → argument_at fs k ≡ Some g → OwnNodes G P m g
argument_own G P [] fs own k m g at part = absurd (cc)
argument_own G P (n ∷ ns) End own k m g at part = absurd own
argument_own G P (n ∷ ns) (More f rest) own zero m g at part =
    let node : n ≡ m = cc in
    let formula : f ≡ g = cc in
    subst (λ (h : Formula). OwnNodes G P m h) formula (subst (λ (q : NodeId). OwnNodes G P q f) node own.0)
argument_own G P (n ∷ ns) (More f rest) own (suc k) m g at part = argument_own G P ns rest own.1 k m g at part

-- a path that leads into no bind's body
abbrev pub IsOutside : List Edge → Type 0
IsOutside [] = Unit {0}
IsOutside (Inside v ∷ path) = ⊥
IsOutside (edge ∷ path) = IsOutside path

pub outside_above : (edge : Edge) (path : List Edge) → IsOutside (edge ∷ path) → IsOutside path
outside_above (Inside v) path out = absurd out
outside_above (Argument j) path out = out
outside_above Test path out = out
outside_above Then path out = out
outside_above Else path out = out
outside_above Child path out = out
outside_above Left path out = out

module _ (x : Both) (P : NodeId → Type 0) (owner : ℕ) where
  pub node_above : (edge : Edge) (path : List Edge) (n : NodeId) → node_at x owner (edge ∷ path) ≡ Some n → (m : NodeId) × (node_at x owner path ≡ Some m)
  node_above (Argument j) path n at =
      let m = then_some (node_at x owner path) (λ m. and_then (x.graph.row m) (λ (r : Row). part_node r.def (Argument j))) n at in (m.0, m.1)
  node_above Test path n at =
      let m = then_some (node_at x owner path) (λ m. and_then (x.graph.row m) (λ (r : Row). part_node r.def Test)) n at in (m.0, m.1)
  node_above Then path n at =
      let m = then_some (node_at x owner path) (λ m. and_then (x.graph.row m) (λ (r : Row). part_node r.def Then)) n at in (m.0, m.1)
  node_above Else path n at =
      let m = then_some (node_at x owner path) (λ m. and_then (x.graph.row m) (λ (r : Row). part_node r.def Else)) n at in (m.0, m.1)
  node_above Child path n at =
      let m = then_some (node_at x owner path) (λ m. and_then (x.graph.row m) (λ (r : Row). part_node r.def Child)) n at in (m.0, m.1)
  node_above Left path n at =
      let m = then_some (node_at x owner path) (λ m. and_then (x.graph.row m) (λ (r : Row). part_node r.def Left)) n at in (m.0, m.1)
  node_above (Inside v) path n at =
      let m = then_some (node_at x owner path) (λ m. and_then (x.graph.built m) (root_at x.nodes v)) n at in (m.0, m.1)

  same_row : (n : NodeId) (q r : Row) → x.graph.row n ≡ Some q → x.graph.row n ≡ Some r → q ≡ r
  same_row n q r first second = let e : Some q ≡ Some r = sym first ∙ second in cc

  -- a part's node is that of the formula there
  same_own : (p n : NodeId) (f g : Formula) → Some p ≡ Some n → Some f ≡ Some g → OwnNodes x.graph P p f → OwnNodes x.graph P n g
  same_own p n f g node formula own =
      let there : p ≡ n = cc in
      let here : f ≡ g = cc in
      subst (λ (h : Formula). OwnNodes x.graph P n h) here (subst (λ (q : NodeId). OwnNodes x.graph P q f) there own)

  part_own : (edge : Edge) (path : List Edge) (h g : Formula) (n : NodeId) → IsOutside (edge ∷ path) → part_at h edge ≡ Some g
      → ((m : NodeId) → node_at x owner path ≡ Some m → PartNodes x.graph P m h) → node_at x owner (edge ∷ path) ≡ Some n → OwnNodes x.graph P n g
  part_own (Argument j) path (Apply f arguments) g n out part above at =
      let m = then_some (node_at x owner path) (λ m. and_then (x.graph.row m) (λ (r : Row). part_node r.def (Argument j))) n at in
      let r = then_some (x.graph.row m.0) (λ (r : Row). part_node r.def (Argument j)) n m.2 in
      let own = above m.0 m.1 in
      let row = same_row m.0 own.0 r.0 own.2 r.1 in
      let def : r.0.def ≡ graph.Map f own.1 = sym (ap (λ (q : Row). q.def) row) ∙ own.3 in
      argument_own x.graph P own.1 arguments own.4 j n g (sym (map_parts r.0.def f own.1 def j) ∙ r.2) part
  part_own edge path (Apply f arguments) g n out part above at = absurd (cc)
  part_own (Argument j) path (Fold f first elements) g n out part above at =
      let m = then_some (node_at x owner path) (λ m. and_then (x.graph.row m) (λ (r : Row). part_node r.def (Argument j))) n at in
      let r = then_some (x.graph.row m.0) (λ (r : Row). part_node r.def (Argument j)) n m.2 in
      let own = above m.0 m.1 in
      let row = same_row m.0 own.0 r.0 own.3 r.1 in
      let def : r.0.def ≡ graph.Fold f own.1 own.2 = sym (ap (λ (q : Row). q.def) row) ∙ own.4 in
      argument_own x.graph P own.2 elements own.5 j n g (sym (fold_parts r.0.def f own.1 own.2 def j) ∙ r.2) part
  part_own edge path (Fold f first elements) g n out part above at = absurd (cc)
  part_own Test path (If test a b) g n out part above at =
      let m = then_some (node_at x owner path) (λ m. and_then (x.graph.row m) (λ (r : Row). part_node r.def Test)) n at in
      let r = then_some (x.graph.row m.0) (λ (r : Row). part_node r.def Test) n m.2 in
      let own = above m.0 m.1 in
      let row = same_row m.0 own.0 r.0 own.4 r.1 in
      let def : r.0.def ≡ graph.If own.1 own.2 own.3 = sym (ap (λ (q : Row). q.def) row) ∙ own.5 in
      let node : Some own.1 ≡ Some n = sym (ap (λ (d : Def). part_node d Test) def) ∙ r.2 in
      same_own own.1 n test g node part own.6
  part_own Then path (If test a b) g n out part above at =
      let m = then_some (node_at x owner path) (λ m. and_then (x.graph.row m) (λ (r : Row). part_node r.def Then)) n at in
      let r = then_some (x.graph.row m.0) (λ (r : Row). part_node r.def Then) n m.2 in
      let own = above m.0 m.1 in
      let row = same_row m.0 own.0 r.0 own.4 r.1 in
      let def : r.0.def ≡ graph.If own.1 own.2 own.3 = sym (ap (λ (q : Row). q.def) row) ∙ own.5 in
      let node : Some own.2 ≡ Some n = sym (ap (λ (d : Def). part_node d Then) def) ∙ r.2 in
      same_own own.2 n a g node part own.7
  part_own Else path (If test a b) g n out part above at =
      let m = then_some (node_at x owner path) (λ m. and_then (x.graph.row m) (λ (r : Row). part_node r.def Else)) n at in
      let r = then_some (x.graph.row m.0) (λ (r : Row). part_node r.def Else) n m.2 in
      let own = above m.0 m.1 in
      let row = same_row m.0 own.0 r.0 own.4 r.1 in
      let def : r.0.def ≡ graph.If own.1 own.2 own.3 = sym (ap (λ (q : Row). q.def) row) ∙ own.5 in
      let node : Some own.3 ≡ Some n = sym (ap (λ (d : Def). part_node d Else) def) ∙ r.2 in
      same_own own.3 n b g node part own.8
  part_own edge path (If test a b) g n out part above at = absurd (cc)
  part_own Child path (Join child) g n out part above at =
      let m = then_some (node_at x owner path) (λ m. and_then (x.graph.row m) (λ (r : Row). part_node r.def Child)) n at in
      let r = then_some (x.graph.row m.0) (λ (r : Row). part_node r.def Child) n m.2 in
      let own = above m.0 m.1 in
      let row = same_row m.0 own.0 r.0 own.2 r.1 in
      let def : r.0.def ≡ graph.Join own.1 = sym (ap (λ (q : Row). q.def) row) ∙ own.3 in
      let node : Some own.1 ≡ Some n = sym (ap (λ (d : Def). part_node d Child) def) ∙ r.2 in
      same_own own.1 n child g node part own.4
  part_own edge path (Join child) g n out part above at = absurd (cc)
  part_own Left path (Bind left body) g n out part above at =
      let m = then_some (node_at x owner path) (λ m. and_then (x.graph.row m) (λ (r : Row). part_node r.def Left)) n at in
      let r = then_some (x.graph.row m.0) (λ (r : Row). part_node r.def Left) n m.2 in
      let own = above m.0 m.1 in
      let row = same_row m.0 own.0 r.0 own.4 r.1 in
      let def : r.0.def ≡ graph.Bind own.1 own.2 own.3 = sym (ap (λ (q : Row). q.def) row) ∙ own.5 in
      let node : Some own.1 ≡ Some n = sym (ap (λ (d : Def). part_node d Left) def) ∙ r.2 in
      same_own own.1 n left g node part own.6
  part_own (Inside v) path (Bind left body) g n out part above at = absurd out
  part_own edge path (Bind left body) g n out part above at = absurd (cc)
  part_own edge path (Literal v) g n out part above at = absurd (cc)
  part_own edge path (Name k) g n out part above at = absurd (cc)
  part_own edge path (At time) g n out part above at = absurd (cc)
  part_own edge path (Steps v steps) g n out part above at = absurd (cc)
  part_own edge path Now g n out part above at = absurd (cc)
  part_own edge path h g n out part above at = let m = node_above edge path n at in absurd (above m.0 m.1)

module _ (x : Both) (Q : NodeId → Type 0) (owner : ℕ) (f : Formula)
    (root : (m : NodeId) → node_at x owner [] ≡ Some m → PartNodes x.graph Q m f) where
  -- the node of a part has the parts' property
  part_of_whole : (edge : Edge) (path : List Edge) (g : Formula) (n : NodeId) → IsOutside (edge ∷ path)
      → part_of f (edge ∷ path) ≡ Some g → node_at x owner (edge ∷ path) ≡ Some n
      → OwnNodes x.graph Q n g
  part_of_whole edge [] g n out part at =
      part_own x Q owner edge [] f g n out part root at
  part_of_whole edge (outer ∷ path) g n out part at =
      let h = then_some (part_of f (outer ∷ path)) (λ h. part_at h edge) g part in
      part_own x Q owner edge (outer ∷ path) h.0 g n out h.2
      (λ m is. own_parts x.graph Q m h.0 (part_of_whole outer path h.0 m (outside_above edge (outer ∷ path) out) h.1 is)) at

own_has : (G : Graph) (P : NodeId → Type 0) (n : NodeId) (f : Formula) → IsForm f → OwnNodes G P n f → P n
own_has G P n (Literal v) is own = own
own_has G P n (Name k) is own = absurd is
own_has G P n (Apply f arguments) is own = own.0
own_has G P n (Fold f first elements) is own = own.0
own_has G P n (If test a b) is own = own.0
own_has G P n (Join child) is own = own.0
own_has G P n (Bind left body) is own = own.0
own_has G P n (At time) is own = own
own_has G P n (Steps v steps) is own = own
own_has G P n Now is own = own
own_has G P n f is own = absurd own

whole_has : (G : Graph) (P Q : NodeId → Type 0) (n : NodeId) (f : Formula) → IsForm f → WholeNodes G P Q n f → P n
whole_has G P Q n (Literal v) is own = own
whole_has G P Q n (Name k) is own = absurd is
whole_has G P Q n (Apply f arguments) is own = own.0
whole_has G P Q n (Fold f first elements) is own = own.0
whole_has G P Q n (If test a b) is own = own.0
whole_has G P Q n (Join child) is own = own.0
whole_has G P Q n (Bind left body) is own = own.0
whole_has G P Q n (At time) is own = own
whole_has G P Q n (Steps v steps) is own = own
whole_has G P Q n Now is own = own
whole_has G P Q n f is own = absurd own

-- what is declared has nodes of its own: it is no other name, and no grab
abbrev pub HasOwnNode : Body → Type 0
HasOwnNode (Computed f kept) = IsForm f
HasOwnNode (Grab bind v is_live) = ⊥
HasOwnNode body = Unit {0}

-- its node is one of its own
pub own_node : (G : Graph) (P Q : NodeId → Type 0) (n : NodeId) (b : Body) → HasOwnNode b → OwnNodesOf G P Q n b → P n
own_node G P Q n (Variable v) is own = own
own_node G P Q n (Computed f kept) is own = whole_has G P Q n f is own
own_node G P Q n (Grab bind v is_live) is own = absurd is
own_node G P Q n (After time) is own = own
own_node G P Q n (Every base span) is own = own
own_node G P Q n (Freeze child predicate frozen) is own = own.0
own_node G P Q n (Expert f first links stale) is own = own

-- what is no other name has a node of its own, or is a grab
pub own_or_grab : (b : Body) → IsOwn (Some b) → HasOwnNode b ⊎ ((bind : ℕ) × (v : Value) × (is_live : Bool) × (b ≡ Grab bind v is_live))
own_or_grab (Computed (Name t) kept) own = absurd own
own_or_grab (Computed f kept) own = inl tt
own_or_grab (Grab bind v is_live) own = inr (bind, v, is_live, refl)
own_or_grab b own = inl tt

-- a declaration that is its own target is no other name
pub own_body : (s : State) → AllPlain s → (n : ℕ) (b : Body) → body_at s n ≡ Some b → target_of_body n b ≡ n → IsOwn (Some b)
own_body s plain n (Computed (Name t) kept) is e =
    let low = (plain n (Computed (Name t) kept) is).1.0 in
    let same : t ≡ n = e in absurd (omega (arith, low, same))
own_body s plain n b is e = tt

-- where the nodes of what is declared have the one property, and those of its parts the other
module _ (x : Both) (P Q : ℕ → NodeId → Type 0)
    (aged : (n : ℕ) (b : Body) → body_at x.state n ≡ Some b → OwnNodesOf x.graph (P n) (Q n) (x.nodes n) b) where
  -- the node of a declaration that has one of its own has the one
  pub own_name : (n : ℕ) (b : Body) → body_at x.state n ≡ Some b → HasOwnNode b → P n (x.nodes n)
  own_name n b is own = own_node x.graph (P n) (Q n) (x.nodes n) b own (aged n b is)

  whole_own : (owner : ℕ) (f : Formula) (kept : script.Kept) → body_at x.state owner ≡ Some (Computed f kept) → (m : NodeId)
      → node_at x owner [] ≡ Some m → WholeNodes x.graph (P owner) (Q owner) m f
  whole_own owner f kept is m at =
      let own = aged owner (Computed f kept) is in
      let node : Some (x.nodes owner) ≡ Some m = rw is at at in
      let same : x.nodes owner ≡ m = cc in
      subst (λ (n : NodeId). WholeNodes x.graph (P owner) (Q owner) n f) same own

  -- the kid of a freeze, if it isn't that of a bare name, and its parts have the other
  kid_own : (owner : ℕ) (child : Formula) (predicate : FnRef) (frozen : Option Value) → body_at x.state owner ≡ Some (Freeze child predicate frozen)
      → (m : NodeId) → node_at x owner [] ≡ Some m → OwnNodes x.graph (Q owner) m child
  kid_own owner child predicate frozen is m at =
      let own = aged owner (Freeze child predicate frozen) is in
      let row : and_then (x.graph.row (x.nodes owner)) (λ (r : Row). freeze_kid r.def) ≡ Some m = rw is at at in
      let kid : freeze_kid own.1.def ≡ Some m = rw own.3 at row in
      let node : Some own.2 ≡ Some m = sym (ap freeze_kid own.4) ∙ kid in
      let same : own.2 ≡ m = cc in
      subst (λ (n : NodeId). OwnNodes x.graph (Q owner) n child) same own.5

  pub own_kid : (owner : ℕ) (child : Formula) (predicate : FnRef) (frozen : Option Value) → body_at x.state owner ≡ Some (Freeze child predicate frozen)
      → IsForm child → (m : NodeId) → node_at x owner [] ≡ Some m → Q owner m
  own_kid owner child predicate frozen is form m at =
      own_has x.graph (Q owner) m child form (kid_own owner child predicate frozen is m at)

  -- outside all bodies of binds the node of a part that is no bare name has the other
  pub own_part : (owner : ℕ) (edge : Edge) (path : List Edge) (g : Formula) (n : NodeId) → IsOutside (edge ∷ path)
      → formula_at x.state owner (edge ∷ path) ≡ Some g → IsForm g → node_at x owner (edge ∷ path) ≡ Some n → Q owner n
  own_part owner edge path g n out is own at = go (body_at x.state owner) refl is
    where
      go : (b : Option Body) → body_at x.state owner ≡ b → and_then b (λ c. and_then (formula_of_body c) (λ f. part_of f (edge ∷ path))) ≡ Some g → Q owner n
      go None body is = absurd (cc)
      go (Some (Computed f kept)) body is =
          own_has x.graph (Q owner) n g own
          (part_of_whole x (Q owner) owner f
          (λ m at_m. whole_parts x.graph (P owner) (Q owner) m f (whole_own owner f kept body m at_m)) edge path g n out is at)
      go (Some (Variable v)) body is = absurd (cc)
      go (Some (Grab bind v is_live)) body is = absurd (cc)
      go (Some (After time)) body is = absurd (cc)
      go (Some (Every base span)) body is = absurd (cc)
      go (Some (Freeze child predicate frozen)) body is =
          own_has x.graph (Q owner) n g own
          (part_of_whole x (Q owner) owner child
          (λ m at_m. own_parts x.graph (Q owner) m child (kid_own owner child predicate frozen body m at_m)) edge path g n out is at)
      go (Some (Expert f first links stale)) body is = absurd (cc)

module _ (F : Meanings) (s : State) (k : Kept) (held : Represents F s k) where
  -- the node of a declaration that has one of its own was given after those of earlier declarations
  pub aged_name : (n : ℕ) (b : Body) → body_at s n ≡ Some b → HasOwnNode b → IsWithin k.nodes n (node_in k.nodes n)
  aged_name n b is own = own_name (beside F s k) (IsWithin k.nodes) (IsPartWithin k.nodes) held.today.aged n b is own
