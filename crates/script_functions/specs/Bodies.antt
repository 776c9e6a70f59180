-- Bodies, and what they make of a left value.
use Rattle.std.specs.Prelude.{◌≡◌, ◌+◌, ◌++◌, ℕ, List, [], ◌∷◌, Option, Some, IsSome, map, take, drop}
use Rattle.inc_value.specs.Sig.{Signature}
use Rattle.inc_value.specs.declared.ty.Ty.{Ty}
use Rattle.inc_value.specs.declared.value.Value.{Value}
use Rattle.inc_terms.specs.Term.{Term, Const}
use Rattle.node_arena.specs.Listing.{Listed}
use Rattle.node_arena.specs.RightSide.{RightSide}
use Rattle.script_functions.specs.declared.line.Part as parts
use Rattle.script_functions.specs.declared.line.Line as code
use Rattle.script_functions.specs.declared.line.TypedLine.{TypedLine}
use Rattle.script_functions.specs.Lines.{term_of, terms_after, uses_of, sizes, type_in, AreTyped, LineHas}

-- the types of the left value and the captures, and the one that is given; the nodes that lines may read; and the lines
-- after line 0
pub record Draft : Type 0 where
  pub sig : Signature
  pub listed : List Listed
  pub lines : List TypedLine

-- the lines, and the part that is given
pub record Body : Type 0 where
  pub draft : Draft
  pub root : parts.Part

-- the types of captures, which are taken after the left value's
abbrev pub captured : List Ty → List Ty
captured takes = drop 1 takes

-- the types of all lines: the left value's, and then those of the lines
abbrev pub line_types : List Ty → List TypedLine → List Ty
line_types takes lines = take 1 takes ++ map (λ (x : TypedLine). x.ty) lines

-- the type of a part, if it is there
abbrev pub type_at : Draft → parts.Part → Option Ty
type_at d p = type_in d.listed (captured d.sig.takes) (line_types d.sig.takes d.lines) p

-- every line of the draft is of its type
abbrev pub IsTyped : Draft → Type 0
IsTyped d = AreTyped d.listed (captured d.sig.takes) (take 1 d.sig.takes) d.lines

-- the part is there
abbrev pub IsThere : Draft → parts.Part → Type 0
IsThere d p = IsSome (type_at d p)

-- so many nodes are taken at most, with those of the scopes within
abbrev pub size_of : Draft → ℕ
size_of d = 1 + sizes d.lines

-- a line that could stand next is of the type
abbrev pub NextHas : Draft → code.Line → Ty → Type 0
NextHas d line t = LineHas d.listed (type_at d) line t

-- the line could stand next
abbrev pub IsTypable : Draft → code.Line → Type 0
IsTypable d line = (t : Ty) × NextHas d line t

-- the draft with one line more
abbrev pub with_line : Draft → code.Line → Ty → Draft
with_line d line t = record d { lines = d.lines ++ record { line = line; ty = t } ∷ [] }

-- the line was added, of its type
abbrev pub IsAdded : Draft → Draft → code.Line → Type 0
IsAdded old new line = (t : Ty) × NextHas old line t × (new ≡ with_line old line t)

-- every line of the body is of its type, and what it gives is of the type that is given
pub record IsWhole (b : Body) : Type 0 where
  pub lines : IsTyped b.draft
  pub root : type_at b.draft b.root ≡ Some b.draft.sig.gives

-- the terms of all lines, where line 0 is a constant of the left value
abbrev pub all_terms : Draft → Value → List Term
all_terms d left = terms_after d.listed (Const left ∷ []) d.lines

-- what the body makes of a left value
abbrev pub term_at : Body → Value → Term
term_at b left = term_of b.draft.listed (all_terms b.draft left) b.root

-- the right sides that a body makes
abbrev pub side_of : Body → RightSide
side_of b = record { term = term_at b; uses = uses_of b.draft.lines; ids = b.draft.listed; size = size_of b.draft }
