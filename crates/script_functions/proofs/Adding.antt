-- A line that is of a type reads what is there, and lines keep their types when one more is added.
use Rattle.std.proofs.Common.{◌≡◌, ◌+◌, ◌++◌, List, [], ◌∷◌, Option, Some, IsSome, ℕ, map, refl, append_assoc, arith, take}
use Rattle.std.proofs.lemmas.List.{append-nil}
use Rattle.std.proofs.lemmas.List.Sums.{sum_by_push}
use Rattle.inc_value.specs.Choice.{Every}
use Rattle.inc_value.specs.declared.ty.Ty.{Ty}
use Rattle.node_arena.specs.Listing.{Listed}
use Rattle.script_functions.specs.Bodies as spec
use Rattle.script_functions.specs.Bodies.{captured, IsTyped, NextHas, with_line, size_of}
use Rattle.script_functions.specs.Lines.{AreTyped, LineHas, PartsHave, FoldTakes, BindTakes, line_size, parts_of, type_in}
use Rattle.script_functions.specs.declared.line.Line as lines
use Rattle.script_functions.specs.declared.line.Line.TheVariants.{Const, Map, Fold, If, Join, Bind, At, Steps, Now}
use Rattle.script_functions.specs.declared.line.Part as parts
use Rattle.script_functions.specs.declared.line.TypedLine.{TypedLine}

-- ---- parts that are of a type are there

some_there : {A : Type 0} (o : Option A) (x : A) → o ≡ Some x → IsSome o
some_there o x e = rw e refl

module _ (T : parts.Part → Option Ty) where
  abbrev There : parts.Part → Type 0
  There p = IsSome (T p)

  all_there : (ps : List parts.Part) (tys : List Ty) → PartsHave T ps tys → Every There ps
  all_there [] [] h = tt
  all_there [] (t ∷ tys) h = absurd h
  all_there (p ∷ ps) [] h = absurd h
  all_there (p ∷ ps) (t ∷ tys) h = (some_there (T p) t h.0, all_there ps tys h.1)

  each_there : (ps : List parts.Part) (t : Ty) → Every (λ p. T p ≡ Some t) ps → Every There ps
  each_there [] t h = tt
  each_there (p ∷ ps) t h = (some_there (T p) t h.0, each_there ps t h.1)

  folded_there : (t : Ty) (ps : List parts.Part) (takes : List Ty) → FoldTakes T t ps takes → Every There ps
  folded_there t ps [] h = absurd h
  folded_there t ps (first ∷ []) h = absurd h
  folded_there t ps (first ∷ element ∷ []) h = each_there ps element h.1
  folded_there t ps (first ∷ element ∷ more ∷ rest) h = absurd h

  bound_there : (l : parts.Part) (ps : List parts.Part) (takes : List Ty) → BindTakes T l ps takes → Every There (l ∷ ps)
  bound_there l ps [] h = absurd h
  bound_there l ps (first ∷ rest) h = (some_there (T l) first h.0, all_there ps rest h.1)

  pub line_there : (listed : List Listed) (line : lines.Line) (t : Ty) → LineHas listed T line t
      → Every There (parts_of line)
  line_there listed (Const v) t h = tt
  line_there listed (Map f ps) t h = all_there ps f.sig.takes h.takes
  line_there listed (Fold f v ps) t h = folded_there t ps f.sig.takes h.takes
  line_there listed (If c a b) t h = (some_there _ _ h.0, (some_there _ _ h.1, (some_there _ _ h.2, tt)))
  line_there listed (Join p) t h = (some_there _ _ h.2, tt)
  line_there listed (Bind l f most ps) t h = bound_there l ps f.sig.takes h.takes
  line_there listed (At time) t h = tt
  line_there listed (Steps first steps) t h = tt
  line_there listed Now t h = tt

-- ---- one line more

abbrev ty_of_line : TypedLine → Ty
ty_of_line x = x.ty

abbrev size_of_line : TypedLine → ℕ
size_of_line x = line_size x.line

typed_more : (listed : List Listed) (captures types : List Ty) (xs : List TypedLine) (x : TypedLine)
    → AreTyped listed captures types xs → LineHas listed (type_in listed captures (types ++ map ty_of_line xs)) x.line x.ty
    → AreTyped listed captures types (xs ++ x ∷ [])
typed_more listed captures types [] x h has = (simp append-nil at has, tt)
typed_more listed captures types (y ∷ xs) x h has =
    (h.0, typed_more listed captures (types ++ y.ty ∷ []) xs x h.1 (rw append_assoc has))

pub draft_more : (d : spec.Draft) (line : lines.Line) (t : Ty) → IsTyped d → NextHas d line t → IsTyped (with_line d line t)
draft_more d line t h has =
    typed_more d.listed (captured d.sig.takes) (take 1 d.sig.takes) d.lines (record { line = line; ty = t }) h has

pub size_more : (d : spec.Draft) (line : lines.Line) (t : Ty) → size_of (with_line d line t) ≡ size_of d + line_size line
size_more d line t =
    let e = sum_by_push size_of_line d.lines (record { line = line; ty = t }) in omega (arith, e)
