-- What functions mean stays where nothing is called, and over two calls behind one another.
use Rattle.std.proofs.Common.{ℕ, Bool, List, Option, refl, ◌∙◌}
use Rattle.inc_value.specs.declared.function.FnRef.{FnRef}
use Rattle.inc_value.specs.declared.value.Value.{Value}
use Rattle.node_arena.specs.RightSide.{RightSide, SameMeaning}

-- where nothing is called all means what it meant
pub same_itself : (named : List ℕ → Option FnRef) (knows : FnRef → Bool) (value : FnRef → List Value → Value) (right : FnRef → RightSide)
    → SameMeaning named named knows knows value value right right
same_itself named knows value right = record { names = λ name. refl; known = λ f. refl; values = λ f args. refl; sides = λ f. refl }

-- what stayed the same, and stays so, is the same
pub same_on : {named named' named'' : List ℕ → Option FnRef} {knows knows' knows'' : FnRef → Bool} {value value' value'' : FnRef → List Value → Value}
    {right right' right'' : FnRef → RightSide} → SameMeaning named named' knows knows' value value' right right'
    → SameMeaning named' named'' knows' knows'' value' value'' right' right'' → SameMeaning named named'' knows knows'' value value'' right right''
same_on first next = record {
  names = λ name. next.names name ∙ first.names name;
  known = λ f. next.known f ∙ first.known f;
  values = λ f args. next.values f args ∙ first.values f args;
  sides = λ f. next.sides f ∙ first.sides f;
}
