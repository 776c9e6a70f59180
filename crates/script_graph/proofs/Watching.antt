-- What the observers of a script need of its graph.
use Rattle.std.proofs.Common.{◌≡◌, inl, inr, ℕ, map, Option, None, Some, option_map, refl, ap, sym, subst, ◌∙◌}
use Rattle.inc_value.specs.Choice.{Among}
use Rattle.inc_value.specs.declared.node.NodeId.{NodeId}
use Rattle.inc_terms.specs.Need.{IsRoot}
use Rattle.observers.specs.Observers.{in_use, looked_at}
use Rattle.script_model.specs.Formula.{State, Observer, Freeze, body_at}
use Rattle.script_model.specs.Need.{Named}
use Rattle.script_model.specs.Values.{Value}
use Rattle.script_graph.specs.Kept.{Kept, node_in}
use Rattle.script_graph.specs.Today.{FreezesAreDeclared}
use Rattle.script_graph.specs.Represents.{Watches}
use Rattle.script_graph.proofs.Looking.{IsRootName, of_observer, of_freeze, freeze_root, looked_all, observed_of_root, root_name, root_of_observed}
use Rattle.transfer.specs.Both.{Both, graph_value}
use Rattle.transfer.specs.Items.{RootsAre, RootsHave}
use Rattle.transfer.specs.Shows.{Declares}

pub none_kept : {A B : Type 0} (f : A → B) (o : Option A) → option_map f o ≡ None → o ≡ None
none_kept f None e = refl
none_kept f (Some a) e = absurd (cc)

-- the nodes that are observed are those of the targets, in order
pub observed_are : (s : State) (k : Kept) → Watches s k → in_use k.graph.observers ≡ map (λ (x : Observer). node_in k.nodes x.target) s.observers
observed_are s k w =
    looked_all (node_in k.nodes) w.made k.graph.observers w.one_each (λ j e. w.ended (record { 0 = j }) e) (λ j x e. ap looked_at (w.observing (record { 0 = j }) x e).is)
    ∙ sym (ap (map (λ (x : Observer). node_in k.nodes x.target)) w.in_order)

-- the roots of a graph of these observers are those of the script, where each live freeze is one that is declared
pub roots_are_in : (x : Both) (k : Kept) → ((t : ℕ) → x.nodes t ≡ node_in k.nodes t) → ((t : ℕ) → Declares x (x.nodes t) (body_at x.state t))
    → FreezesAreDeclared x.graph x.state k.nodes → Watches x.state k → RootsAre x (in_use k.graph.observers)
roots_are_in x k same declared freezes w n (inl among) =
    let r = root_of_observed x.state (node_in k.nodes) (in_use k.graph.observers) (observed_are x.state k w) n among in
    (Named r.0, r.1, ap (λ (m : NodeId). Some m) (same r.0 ∙ r.2))
roots_are_in x k same declared freezes w n (inr loose) =
    let d = freezes n loose.row loose.kid loose.predicate loose.is_row loose.is_freeze in
    let node : x.nodes d.position ≡ n = same d.position ∙ d.node in
    let shows : Declares x (x.nodes d.position) (Some (Freeze d.child d.predicate d.frozen)) = rw d.is_body at (declared d.position) in
    let none : option_map (graph_value x.nodes) d.frozen ≡ None = sym shows.3 ∙ (ap x.graph.frozen node ∙ loose.keeps_none) in
    let body : body_at x.state d.position ≡ Some (Freeze d.child d.predicate None) =
    d.is_body ∙ ap (λ (v : Option Value). Some (Freeze d.child d.predicate v)) (none_kept (graph_value x.nodes) d.frozen none) in
    (Named d.position, freeze_root x.state d.position d.child d.predicate body, ap (λ (m : NodeId). Some m) node)

pub roots_have_in : (x : Both) (k : Kept) → ((t : ℕ) → x.nodes t ≡ node_in k.nodes t) → ((t : ℕ) → Declares x (x.nodes t) (body_at x.state t))
    → Watches x.state k → RootsHave x (in_use k.graph.observers)
roots_have_in x k same declared w t among = by_name (root_name x.state t among)
  where
    by_name : IsRootName x.state t → IsRoot x.graph (in_use k.graph.observers) (x.nodes t)
    by_name (of_observer z looks e) =
        let node : node_in k.nodes z.target ≡ x.nodes t = ap (node_in k.nodes) (sym e) ∙ sym (same t) in
        inl (subst (λ (n : NodeId). Among n (in_use k.graph.observers)) node
        (observed_of_root x.state (node_in k.nodes) (in_use k.graph.observers) (observed_are x.state k w) z looks))
    by_name (of_freeze child predicate is) =
        let shows : Declares x (x.nodes t) (Some (Freeze child predicate None)) = rw is at (declared t) in
        inr (record { row = shows.1.0; kid = shows.0; predicate = predicate; is_row = shows.1.1; is_freeze = shows.1.3; keeps_none = shows.3 })
