-- A main's own function in two graphs that are alike at its node.
use Rattle.std.proofs.Common.{◌≡◌, true, false, Option, None, Some, refl}
use Rattle.inc_value.specs.declared.node.NodeId.{NodeId}
use Rattle.inc_value.specs.declared.node.Point.{Point}
use Rattle.inc_value.specs.declared.outcome.Outcome.{Outcome}
use Rattle.inc_value.specs.declared.outcome.Outcome.TheVariants.{Val, Invalid}
use Rattle.inc_value.specs.declared.value.Value.{Value}
use Rattle.inc_value.specs.declared.value.Value.TheVariants as value
use Rattle.inc_terms.specs.Term.{Functions}
use Rattle.inc_terms.specs.Graph as graph
use Rattle.inc_terms.specs.Graph.{Graph, Def}
use Rattle.inc_terms.specs.Evaluate.{with_value}
use Rattle.inc_terms.specs.Depend.{change, right_of}
use Rattle.inc_terms.specs.Local.{see_right, own}
use Rattle.inc_terms.specs.Plan.{targets}

module _ (G G' : Graph) (n : NodeId) where
  pub same_choice : (def : Def) (o : Outcome) → G'.built n ≡ G.built n → right_of G' n def o ≡ right_of G n def o
  same_choice (graph.Bind l f caps) o e = rw e refl
  same_choice (graph.If t a b) (Val (value.Bool true)) e = refl
  same_choice (graph.If t a b) (Val (value.Bool false)) e = refl
  same_choice (graph.Join k) (Val (value.Node m base)) e = refl
  same_choice _ _ e = refl

  pub same_targets : (def : Def) (x : Option Outcome) → G'.built n ≡ G.built n → targets G' n def x ≡ targets G n def x
  same_targets def None e = refl
  same_targets def (Some o) e = rw (same_choice def o e) refl

  module _ (F : Functions) (see : Point → Option Outcome) (clock : G'.now ≡ G.now)
      (frozen : G'.frozen n ≡ G.frozen n) (lists : G'.lists n ≡ G.lists n) (built : G'.built n ≡ G.built n) where
    by_value : (def : Def) (x : Option Outcome)
        → with_value x (λ (v : Value). see_right see (right_of G' n def (Val v))) ≡ with_value x
        (λ (v : Value). see_right see (right_of G n def (Val v)))
    by_value def None = refl
    by_value def (Some Invalid) = refl
    by_value def (Some (Val v)) = rw (same_choice def (Val v) built) refl

    pub own_crosses : (def : Def) → own F G' see n def ≡ own F G see n def
    own_crosses (graph.If t a b) = by_value (graph.If t a b) (see (change n))
    own_crosses (graph.Join k) = by_value (graph.Join k) (see (change n))
    own_crosses (graph.Bind l f caps) = by_value (graph.Bind l f caps) (see (change n))
    own_crosses (graph.Freeze kid f) = rw frozen refl
    own_crosses (graph.Expert f v kids) = rw lists refl
    own_crosses (graph.At t) = rw clock refl
    own_crosses (graph.Steps v steps) = rw clock refl
    own_crosses graph.Now = rw clock refl
    own_crosses (graph.Every base span) = rw clock refl
    own_crosses _ = refl
