-- What a line comes to depends on the declared names and the clock, and on which observers' names are in use, not on their order.
use Rattle.std.proofs.Common.{◌≡◌, ℕ, ◌+◌, Bool, List, [], ◌∷◌, not, Option, None, Some, refl, sym, ap}
use Rattle.std.specs.List.{list_any}
use Rattle.inc_value.specs.declared.ty.Ty.{Ty}
use Rattle.inc_value.specs.Choice.{and_then}
use Rattle.script_model.specs.Check.{Names, Reason, Bound, is_among, is_against, command_of, typed, typed_each, typed_top, typed_name, steps_of_type, body_as, new_observers, observers_of, NameTaken, ObserverTaken, NameUnknown, ObserverUnknown, FunctionUnknown, NotWhole, NotVariable, NotBind, NotExpert, IllTyped, TimeTooLarge, TimesNotRising, SpanIsZero, BackInTime}
use Rattle.script_model.specs.Formula as model
use Rattle.script_model.specs.Formula.{Meanings, nothing_kept}
use Rattle.script_model.specs.Grammar as line
use Rattle.script_model.specs.Grammar.{Tree, Trees, TimedLiteral, Line, Call, If, Join, Fold, At, Now, Steps, Freeze, After, Every, End, More}

and_then_same : {A B : Type 0} (o p : Option A) (f g : A → Option B) → o ≡ p → ((a : A) → f a ≡ g a) → and_then o f ≡ and_then p g
and_then_same None p f g is same = rw (sym is) refl
and_then_same (Some a) p f g is same = rw (sym is) (same a)

any_same : (p q : List ℕ → Bool) (xs : List (List ℕ)) → ((x : List ℕ) → p x ≡ q x) → list_any p xs ≡ list_any q xs
any_same p q [] same = refl
any_same p q (x ∷ xs) same = rw (same x, any_same p q xs same) refl

-- the names with other observers
abbrev pub with_observers : Names → List (List ℕ) → Names
with_observers names os = record names { observers = os }

module _ (F : Meanings) (names : Names) (os : List (List ℕ)) where
  abbrev others : Names
  others = with_observers names os

  steps_same : (t : Ty) (steps : List TimedLiteral) → steps_of_type others t steps ≡ steps_of_type names t steps
  steps_same t [] = refl
  steps_same t (step ∷ steps) = and_then_same _ _ _ _ refl (λ v. and_then_same _ _ _ _ (steps_same t steps) (λ rest. refl))

  name_same : (name : List ℕ) (k : ℕ) (bounds : List Bound) → typed_name others name k bounds ≡ typed_name names name k bounds
  name_same name k [] = refl
  name_same name k (b ∷ bounds) = rw (name_same name (k + 1) bounds) refl

  mutual
    typed_same : (bounds : List Bound) (tree : Tree) → typed F others bounds tree ≡ typed F names bounds tree
    typed_same bounds (line.Literal literal) = refl
    typed_same bounds (line.Name name) = name_same name 0 bounds
    typed_same bounds (Call function arguments) =
        and_then_same _ _ _ _ refl (λ f. and_then_same _ _ _ _ (each_same bounds arguments) (λ ts. refl))
    typed_same bounds (Fold function first elements) =
        and_then_same _ _ _ _ refl (λ f. and_then_same _ _ _ _ (each_same bounds elements) (λ ts. refl))
    typed_same bounds (If test a b) =
        and_then_same _ _ _ _ (typed_same bounds test) (λ t. and_then_same _ _ _ _ (typed_same bounds a) (λ x.
        and_then_same _ _ _ _ (typed_same bounds b) (λ y. refl)))
    typed_same bounds (line.Bind variable left body) =
        and_then_same _ _ _ _ (typed_same bounds left) (λ l.
        and_then_same _ _ _ _ (typed_same (record { name = variable; ty = l.ty } ∷ bounds) body) (λ b. refl))
    typed_same bounds (Join child) = and_then_same _ _ _ _ (typed_same bounds child) (λ c. refl)
    typed_same bounds (At time) = refl
    typed_same bounds Now = refl
    typed_same bounds (Steps first steps) =
        and_then_same _ _ _ _ refl (λ v. and_then_same _ _ _ _ (steps_same v.ty steps) (λ rest. refl))
    typed_same bounds (Freeze child predicate) = refl
    typed_same bounds (After span) = refl
    typed_same bounds (Every span) = refl

    each_same : (bounds : List Bound) (trees : Trees) → typed_each F others bounds trees ≡ typed_each F names bounds trees
    each_same bounds End = refl
    each_same bounds (More first rest) =
        and_then_same _ _ _ _ (typed_same bounds first) (λ t. and_then_same _ _ _ _ (each_same bounds rest) (λ ts. refl))

  top_as : (tree : Tree) → and_then (typed F others [] tree) (λ t. body_as (model.Computed t.formula nothing_kept) t.ty)
      ≡ and_then (typed F names [] tree) (λ t. body_as (model.Computed t.formula nothing_kept) t.ty)
  top_as tree = and_then_same _ _ _ _ (typed_same [] tree) (λ t. refl)

  top_same : (tree : Tree) → typed_top F others tree ≡ typed_top F names tree
  top_same (line.Literal literal) = top_as (line.Literal literal)
  top_same (line.Name name) = top_as (line.Name name)
  top_same (Call function arguments) = top_as (Call function arguments)
  top_same (Fold function first elements) = top_as (Fold function first elements)
  top_same (If test a b) = top_as (If test a b)
  top_same (line.Bind variable left body) = top_as (line.Bind variable left body)
  top_same (Join child) = top_as (Join child)
  top_same (At time) = top_as (At time)
  top_same Now = top_as Now
  top_same (Steps first steps) = top_as (Steps first steps)
  top_same (Freeze child predicate) = and_then_same _ _ _ _ (typed_same [] child) (λ c. refl)
  top_same (After span) = refl
  top_same (Every span) = refl

  -- so is the command that a line comes to
  pub command_same : (l : Line) → command_of F others l ≡ command_of F names l
  command_same (line.Var name t first) = refl
  command_same (line.Set name literal) = refl
  command_same (line.Let name tree) = and_then_same _ _ _ _ (top_same tree) (λ t. refl)
  command_same (line.Expert name function first) = refl
  command_same (line.Link expert name) = refl
  command_same (line.Unlink expert name) = refl
  command_same (line.Stale expert) = refl
  command_same (line.Grab name bind) = refl
  command_same (line.Observe observer name) = refl
  command_same (line.Unobserve observer) = refl
  command_same (line.Watch observer) = refl
  command_same (line.Show observer) = refl
  command_same (line.Advance span) = refl
  command_same (line.AdvanceTo time) = refl
  command_same line.Stabilize = refl

  -- and so are the reasons against it, where the same observers' names are in use
  pub against_same : ((name : List ℕ) → is_among os name ≡ is_among names.observers name) → (l : Line) (r : Reason)
      → is_against F others l r ≡ is_against F names l r
  against_same among l NameTaken = refl
  against_same among l ObserverTaken = any_same _ _ (new_observers l) among
  against_same among l NameUnknown = refl
  against_same among l ObserverUnknown = any_same _ _ (observers_of l) (λ name. ap not (among name))
  against_same among l FunctionUnknown = refl
  against_same among l NotWhole = refl
  against_same among l NotVariable = refl
  against_same among l NotBind = refl
  against_same among l NotExpert = refl
  against_same among l IllTyped = rw (command_same l) refl
  against_same among l TimeTooLarge = refl
  against_same among l TimesNotRising = refl
  against_same among l SpanIsZero = refl
  against_same among l BackInTime = refl
  against_same among l _ = refl
