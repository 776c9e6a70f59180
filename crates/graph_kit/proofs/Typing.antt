-- The type of a node that is made of those of others.
use Rattle.std.proofs.Common.{◌≡◌, Result, Some, refl}
use Rattle.inc_value.specs.Ty.{base_of, type_of_base}
use Rattle.inc_value.specs.declared.node.NodeId.{NodeId}
use Rattle.inc_value.specs.declared.ty.Base.{Base}
use Rattle.inc_value.specs.declared.ty.Base.TheVariants as base
use Rattle.inc_value.specs.declared.ty.Ty.{Ty}
use Rattle.inc_terms.specs.Graph.{If, Join}
use Rattle.graph.specs.Effects.{AnswersAdd}
use Rattle.graph.specs.Standing.{GraphView}
use Rattle.graph.specs.declared.fault.GraphFault.{GraphFault}
use Rattle.graph_kit.specs.Typed.{AnswersTyped, AreOf, IsReference}

base_back : (b : Base) → base_of (type_of_base b) ≡ Some b
base_back base.Int = refl
base_back base.Bool = refl
base_back base.Text = refl

module _ {F : Type 0} (old new : GraphView F) (answer : Result NodeId GraphFault) where
  pub if_typed : (test left right : NodeId) (type : Ty) → ((t : Ty) → AreOf old.nodes left right t → AreOf old.nodes left right type)
      → AnswersAdd old new (If test left right) type answer → AnswersTyped old new (If test left right) answer
  if_typed test left right type common answers = record {
    type = type;
    answers = answers;
    untyped = λ is t makes. (let met = answers.wrong_type.0 is in
        let named = met.1.0 in
        let both = common t (record { left_given = named.1; right_given = named.2; left_fits = makes.1; right_fits = makes.2 }) in
        met.1.1 (makes.0, both.left_fits, both.right_fits));
  }

  pub join_typed : (kid : NodeId) (b : Base) → ((t : Base) → IsReference old.nodes kid t → IsReference old.nodes kid b)
      → AnswersAdd old new (Join kid) (type_of_base b) answer → AnswersTyped old new (Join kid) answer
  join_typed kid b refers answers = record {
    type = type_of_base b;
    answers = answers;
    untyped = λ is t makes. (let met = answers.wrong_type.0 is in
        met.1.1 (b, base_back b, (refers makes.0 (met.1.0, makes.2)).1));
  }
