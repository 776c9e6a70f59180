-- Freezes round one another: what is so of each freeze is so of all.
use Rattle.std.proofs.Common.{◌≡◌, ℕ, true, List, [], ◌∷◌, sym, refl}
use Rattle.script_model.specs.Check.{is_top_form}
use Rattle.script_model.specs.Grammar.{Tree, Freeze}
use Rattle.line_parser.specs.TreeView.{frozen}

pub of_frozen : {A : Type 0} (what : Tree → A) (x : A) → ((child : Tree) (name : List ℕ) → what (Freeze child name) ≡ x)
    → (child : Tree) (name : List ℕ) (names : List (List ℕ)) → what (frozen child (name ∷ names)) ≡ x
of_frozen what x h child name [] = h child name
of_frozen what x h child name (next ∷ names) = of_frozen what x h (Freeze child name) next names

pub top_frozen : (child : Tree) (name : List ℕ) (names : List (List ℕ)) → true ≡ is_top_form (frozen child (name ∷ names))
top_frozen child name names = sym (of_frozen is_top_form true (λ child name. refl) child name names)
