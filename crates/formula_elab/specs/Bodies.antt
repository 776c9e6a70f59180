-- Bodies of binds to be made, over functions that may not be made yet.
use Rattle.std.specs.Prelude.{◌≡◌, ◌+◌, ℕ, List, [], map, Some, slice_get, sum_by}
use Rattle.inc_value.specs.Choice.{Every}
use Rattle.inc_value.specs.Sig.{Signature}
use Rattle.inc_value.specs.declared.function.FnKind.TheVariants as kind
use Rattle.inc_value.specs.declared.value.Value.{Value}
use Rattle.inc_terms.specs.Term.{Functions}
use Rattle.node_arena.specs.Listing.{Listed}
use Rattle.script_functions.specs.Bodies as functions
use Rattle.script_functions.specs.Bodies.{captured, line_types, term_at}
use Rattle.script_functions.specs.Lines.{line_size, AreTyped}
use Rattle.script_functions.specs.declared.line.Line.{Line}
use Rattle.script_functions.specs.declared.line.Line.TheVariants as lines
use Rattle.script_functions.specs.declared.line.Part.{Part}
use Rattle.script_functions.specs.declared.line.TypedLine.{TypedLine}
use Rattle.formula_elab.specs.Make.{function_made, made_at, IsFunction}
use Rattle.formula_elab.specs.declared.body.OpenLine.{OpenLine}
use Rattle.formula_elab.specs.declared.body.OpenLine.TheVariants.{Ready, Bind}
use Rattle.formula_elab.specs.declared.make.Made.{Made}

-- the lines of a body while they are written: the nodes that they read, and the lines after line 0
pub record Page : Type 0 where
  pub listed : List Listed
  pub lines : List OpenLine

-- no lines but line 0
abbrev pub empty_page : Page
empty_page = record { listed = []; lines = [] }

-- the types of the left value and the captures, and the one that is given; and the page, with the part that is given
pub record OpenBody : Type 0 where
  pub sig : Signature
  pub page : Page
  pub root : Part

-- ---- sizes

-- how many nodes a line takes at most, with those of the scopes within
abbrev pub open_size : OpenLine → ℕ
open_size (Ready line) = line_size line
open_size (Bind left body most captures) = most + 1

-- how many nodes a right side takes at most: that of line 0 is one
abbrev pub size_of : Page → ℕ
size_of p = 1 + sum_by open_size p.lines

-- ---- with what was made

-- the line
abbrev pub line_filled : List Made → OpenLine → Line
line_filled made (Ready line) = line
line_filled made (Bind left body most captures) = lines.Bind left (function_made (made_at made body)) most captures

-- a line needs a function that was made
abbrev pub LineNeedsMade : List Made → OpenLine → Type 0
LineNeedsMade made (Ready line) = Unit {0}
LineNeedsMade made (Bind left body most captures) = (m : Made) × (slice_get made body ≡ Some m) × IsFunction m

-- all functions that the lines need were made
abbrev pub BodyNeedsMade : List Made → OpenBody → Type 0
BodyNeedsMade made b = Every (LineNeedsMade made) b.page.lines

-- the body has the types, the nodes and the lines, and gives the part
pub record IsFilled (made : List Made) (o : OpenBody) (b : functions.Body) : Type 0 where
  pub sig : b.draft.sig ≡ o.sig
  pub listed : b.draft.listed ≡ o.page.listed
  pub lines : map (λ (x : TypedLine). x.line) b.draft.lines ≡ map (line_filled made) o.page.lines
  pub root : b.root ≡ o.root

-- behind the lines of a draft these are the lines, with what was made, and each is of its type
pub record AreAddable (made : List Made) (lines : List OpenLine) (d : functions.Draft) (typed : List TypedLine) : Type 0 where
  pub same : map (λ (x : TypedLine). x.line) typed ≡ map (line_filled made) lines
  pub fit : AreTyped d.listed (captured d.sig.takes) (line_types d.sig.takes d.lines) typed

-- the function of right sides was made of the body: its terms are those of the body's lines
pub record IsMadeOf (H : Functions) (made : List Made) (o : OpenBody) (m : Made) : Type 0 where
  pub body : functions.Body
  pub filled : IsFilled made o body
  pub is_function : IsFunction m
  pub kind : (function_made m).id.kind ≡ kind.Rhs
  pub sig : (function_made m).sig ≡ o.sig
  pub terms : (v : Value) → H.term (function_made m) v ≡ term_at body v
