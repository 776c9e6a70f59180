-- What bodies call is usable, where each of their lines calls functions of the library, or the small one within.
use Rattle.std.proofs.Common.{◌≡◌, ◌≤◌, inl, inr, arith, ℕ, Bool, List, [], ◌∷◌, ◌++◌, Option, Some, refl, sym, subst}
use Rattle.std.specs.Prelude.{IsTrue, slice_get}
use Rattle.inc_value.specs.Choice.{Among, Every}
use Rattle.inc_value.specs.declared.function.FnKind.{FnKind}
use Rattle.inc_value.specs.declared.function.FnRef.{FnRef}
use Rattle.node_arena.specs.Arena.{Arena}
use Rattle.node_arena.specs.Building.{Use}
use Rattle.node_arena.specs.Listing.{Listed}
use Rattle.node_arena.specs.RightSide.{RightSide, no_side, HasNone, IsUsable, AreFit}
use Rattle.script_functions.specs.Keeping.{Maker, by_kind, has_types, is_known, side_made, side_in}
use Rattle.script_functions.specs.Lines.{line_uses, uses_of}
use Rattle.script_functions.specs.declared.line.Line as lines
use Rattle.script_functions.specs.declared.line.Line.TheVariants.{Const, Map, Fold, If, Join, Bind, At, Steps, Now}
use Rattle.script_functions.specs.declared.line.TypedLine.{TypedLine}
use Rattle.std_library.specs.Functions as library
use Rattle.std_library.specs.FunctionLaws.{known_of_map}
use Rattle.graph_tests.specs.Usable.{IsFit, CallsKept, IsSmall}

-- listed nodes that fit one by one
pub are_fit : (a : Arena) (ids : List Listed) → Every (IsFit a) ids → AreFit a ids
are_fit a [] all x among = absurd among
are_fit a (y ∷ ys) all x (inl e) = subst (IsFit a) (sym e) all.0
are_fit a (y ∷ ys) all x (inr among) = are_fit a ys all.1 x among

-- so it is of what right sides list that are kept as they came
pub fit_after : (old new : Arena) (side kept : RightSide) → new ≡ old → kept ≡ side → Every (IsFit old) side.ids → AreFit new kept.ids
fit_after old new side kept same is fit = subst (λ (a : Arena). AreFit a kept.ids) (sym same)
    (subst (λ (s : RightSide). AreFit old s.ids) (sym is) (are_fit old side.ids fit))

-- nothing is listed where none is
pub none_among : (ids : List Listed) → ids ≡ [] → (x : Listed) → Among x ids → ⊥
none_among ids none x among = absurd (subst (λ (xs : List Listed). Among x xs) none among)

-- functions of the library are known, and make no right sides
pub library_known : (sides : List Maker) (f : FnRef) → IsTrue (library.known f) → IsTrue (is_known library.known sides f)
library_known sides f is = subst (λ (k : FnKind). IsTrue (by_kind k (library.known f) (has_types (slice_get sides f.id.number) f.sig)))
    (sym (known_of_map f is)) is

pub library_makes_none : (sides : List Maker) (f : FnRef) → IsTrue (library.known f) → HasNone (side_in sides f)
library_makes_none sides f is = subst (λ (k : FnKind). HasNone (by_kind k no_side (side_made (slice_get sides f.id.number))))
    (sym (known_of_map f is)) (record { uses = refl; ids = refl; size = refl })

module _ (known : FnRef → Bool) (right : FnRef → RightSide) (listed : List Listed) (within : Option FnRef)
    (maps : (f : FnRef) → IsTrue (library.known f) → IsTrue (known f))
    (nothing : (f : FnRef) → IsTrue (library.known f) → HasNone (right f))
    (small : (f : FnRef) → within ≡ Some f → IsSmall known right f) where
  usable : (f : FnRef) (most : ℕ) → IsTrue (known f) → (right f).ids ≡ [] → (right f).size ≤ most
      → IsUsable known right listed (record { function = f; most = most })
  usable f most is none few = record {
    is_known = is;
    within = λ x among. absurd (subst (λ (ids : List Listed). Among x ids) none among);
    size = few;
  }

  usable_map : (f : FnRef) → IsTrue (library.known f) → IsUsable known right listed (record { function = f; most = 0 })
  usable_map f is = let n = nothing f is in let s = n.size in usable f 0 (maps f is) n.ids (omega (arith, s))

  first_or_rest : (v : Use) (vs : List Use) → IsUsable known right listed v → ((u : Use) → Among u vs → IsUsable known right listed u)
      → (u : Use) → Among u (v ∷ vs) → IsUsable known right listed u
  first_or_rest v vs is rest u (inl e) = subst (IsUsable known right listed) (sym e) is
  first_or_rest v vs is rest u (inr among) = rest u among

  usable_line : (line : lines.Line) (vs : List Use) → CallsKept within line → ((u : Use) → Among u vs → IsUsable known right listed u)
      → (u : Use) → Among u (line_uses line ++ vs) → IsUsable known right listed u
  usable_line (Map f ps) vs calls rest u among = first_or_rest (record { function = f; most = 0 }) vs (usable_map f calls) rest u among
  usable_line (Fold f v ps) vs calls rest u among = first_or_rest (record { function = f; most = 0 }) vs (usable_map f calls) rest u among
  usable_line (Bind l f most ps) vs calls rest u among =
      let s = small f calls.0 in let few = s.size in let much = calls.1 in
      first_or_rest (record { function = f; most = most }) vs (usable f most s.is_known s.ids (omega (arith, few, much))) rest u among
  usable_line (Const v) vs calls rest u among = rest u among
  usable_line (If c a b) vs calls rest u among = rest u among
  usable_line (Join p) vs calls rest u among = rest u among
  usable_line (At time) vs calls rest u among = rest u among
  usable_line (Steps v steps) vs calls rest u among = rest u among
  usable_line Now vs calls rest u among = rest u among

  pub usable_lines : (xs : List TypedLine) → Every (λ (x : TypedLine). CallsKept within x.line) xs
      → (u : Use) → Among u (uses_of xs) → IsUsable known right listed u
  usable_lines [] calls u among = absurd among
  usable_lines (x ∷ xs) calls u among = usable_line x.line (uses_of xs) calls.0 (usable_lines xs calls.1) u among
