-- What lines call can be called, where that is so line by line.
use Rattle.std.proofs.Common.{◌++◌, Bool, List, [], ◌∷◌, inl, inr, sym, subst}
use Rattle.inc_value.specs.Choice.{Among, Every}
use Rattle.inc_value.specs.declared.function.FnRef.{FnRef}
use Rattle.node_arena.specs.Building.{Use}
use Rattle.node_arena.specs.Listing.{Listed}
use Rattle.node_arena.specs.RightSide.{RightSide, AreUsable}
use Rattle.script_functions.specs.Bodies.{Body, side_of}
use Rattle.script_functions.specs.Lines.{line_uses, uses_of}
use Rattle.script_functions.specs.declared.line.TypedLine.{TypedLine}
use Rattle.incr_bench.specs.Sides.{CanCall}

-- what is so of each item of a list, and of those of another, is so of all of both
either : {A : Type 0} (P : A → Type 0) (xs ys : List A) (x : A) → Every P xs → (Among x ys → P x) → Among x (xs ++ ys) → P x
either P [] ys x every rest among = rest among
either P (y ∷ xs) ys x every rest (inl is) = subst P (sym is) every.0
either P (y ∷ xs) ys x every rest (inr among) = either P xs ys x every.1 rest among

-- of each line's, so of all
of_lines : (P : Use → Type 0) (xs : List TypedLine) → Every (λ (x : TypedLine). Every P (line_uses x.line)) xs
    → (u : Use) → Among u (uses_of xs) → P u
of_lines P [] every u among = absurd among
of_lines P (x ∷ xs) every u among = either P (line_uses x.line) (uses_of xs) u every.0 (of_lines P xs every.1 u) among

-- right sides can be kept whose lines can call what they call
pub are_usable : (known : FnRef → Bool) (right : FnRef → RightSide) (b : Body)
    → Every (λ (x : TypedLine). Every (CanCall known right) (line_uses x.line)) b.draft.lines → AreUsable known right (side_of b)
are_usable known right b every u among =
    let call = of_lines (CanCall known right) b.draft.lines every u among in
    record {
      is_known = call.is_known;
      within = λ x listed. absurd (subst (λ (xs : List Listed). Among x xs) call.lists_none listed);
      size = call.size;
    }
