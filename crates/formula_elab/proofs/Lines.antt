-- One line is written for each place, and for a bind its function takes the rest.
use Rattle.std.proofs.Common.{◌≡◌, ℕ, ◌+◌, List, [], ◌∷◌, length, map, pos, arith, refl, ◌∙◌}
use Rattle.std.proofs.lemmas.List.Sums.{sum_by-append}
use Rattle.inc_value.specs.declared.node.NodeId.{NodeId}
use Rattle.inc_value.specs.declared.ty.Ty.{Ty}
use Rattle.script_functions.specs.declared.line.Line.TheVariants as lines
use Rattle.script_model.specs.Formula as script
use Rattle.script_model.specs.Formula.{Formula, Formulas, TimedValue, Literal, Name, Bound, Apply, End, More}
use Rattle.script_model.specs.Formula.{places_in, places_in_all}
use Rattle.script_model.specs.Values.{Value, Int, Bool, Text, Reference}
use Rattle.transfer.specs.Both.{graph_value}
use Rattle.transfer.specs.Shows.{graph_step}
use Rattle.formula_elab.specs.Bodies.{Page, empty_page, open_size, size_of}
use Rattle.formula_elab.specs.Made.{OneLineEach}
use Rattle.formula_elab.specs.Today.{IsLaidOut, AreLaidOut}
use Rattle.formula_elab.specs.Types.{formula_ty}
use Rattle.formula_elab.specs.Writing.{with_each_named, with_line, with_named, variables, written, written_each}
use Rattle.formula_elab.specs.declared.body.OpenLine.{OpenLine}
use Rattle.formula_elab.specs.declared.body.OpenLine.TheVariants.{Ready, Bind}

-- one line more
size_more : (p : Page) (line : OpenLine) → size_of (with_line p line) ≡ size_of p + open_size line
size_more p line =
    let size = sum_by-append open_size p.lines (line ∷ []) in
    omega (arith, size)

-- a node that is listed is no line
size_named : (nodes : ℕ → NodeId) (p : Page) (v : Value) → size_of (with_named nodes p v) ≡ size_of p
size_named nodes p (Int z) = refl
size_named nodes p (Bool b) = refl
size_named nodes p (Text bytes) = refl
size_named nodes p (Reference target base) = refl

size_each_named : (nodes : ℕ → NodeId) (p : Page) (steps : List TimedValue) → size_of (with_each_named nodes p steps) ≡ size_of p
size_each_named nodes p [] = refl
size_each_named nodes p (s ∷ steps) = size_each_named nodes (with_named nodes p s.value) steps ∙ size_named nodes p s.value

module _ (nodes : ℕ → NodeId) (tys : ℕ → Ty) where
  mutual
    pub line_each : (bounds : List Ty) (start : ℕ) (p : Page) (f : Formula) → IsLaidOut (length bounds) f
        → size_of (written nodes tys bounds start p f).page ≡ size_of p + places_in f
    line_each bounds start p (Literal v) is_laid =
        let more = size_more (with_named nodes p v) (Ready (lines.Const (graph_value nodes v))) in
        omega (arith, more, size_named nodes p v)
    line_each bounds start p (Name n) is_laid = omega arith
    line_each bounds start p (Bound k) is_laid = omega arith
    line_each bounds start p (Apply f arguments) is_laid =
        let ws = written_each nodes tys bounds start p arguments in
        let more = size_more ws.page (Ready (lines.Map f ws.roots)) in
        omega (arith, more, line_each_of_all bounds start p arguments is_laid)
    line_each bounds start p (script.Fold f first elements) is_laid =
        let q = with_named nodes p first in
        let ws = written_each nodes tys bounds start q elements in
        let more = size_more ws.page (Ready (lines.Fold f (graph_value nodes first) ws.roots)) in
        omega (arith, more, size_named nodes p first, line_each_of_all bounds start q elements is_laid)
    line_each bounds start p (script.If test a b) is_laid =
        let t = written nodes tys bounds start p test in
        let x = written nodes tys bounds (start + length t.makes) t.page a in
        let y = written nodes tys bounds (start + (length t.makes + length x.makes)) x.page b in
        let more = size_more y.page (Ready (lines.If t.root x.root y.root)) in
        let first = line_each bounds start p test is_laid.0 in
        let second = line_each bounds (start + length t.makes) t.page a is_laid.1 in
        let third = line_each bounds (start + (length t.makes + length x.makes)) x.page b is_laid.2 in
        omega (arith, more, first, second, third)
    line_each bounds start p (script.Join child) is_laid =
        let c = written nodes tys bounds start p child in
        let more = size_more c.page (Ready (lines.Join c.root)) in
        omega (arith, more, line_each bounds start p child is_laid)
    line_each bounds start p (script.Bind left body) is_laid =
        let u = formula_ty tys bounds left in
        let l = written nodes tys bounds start p left in
        let i = written nodes tys (u ∷ bounds) (start + length l.makes) empty_page body in
        let more = size_more l.page (Bind l.root (start + (length l.makes + length i.makes)) (size_of i.page) (variables (length bounds))) in
        let first = line_each bounds start p left is_laid.0 in
        let inner = line_each (u ∷ bounds) (start + length l.makes) empty_page body is_laid.1 in
        omega (arith, more, first, inner)
    line_each bounds start p (script.At time) is_laid = let more = size_more p (Ready (lines.At (pos time))) in omega (arith, more)
    line_each bounds start p (script.Steps first steps) is_laid =
        let q = with_named nodes p first in
        let r = with_each_named nodes q steps in
        let more = size_more r (Ready (lines.Steps (graph_value nodes first) (map (graph_step nodes) steps))) in
        omega (arith, more, size_each_named nodes q steps, size_named nodes p first)
    line_each bounds start p script.Now is_laid = let more = size_more p (Ready lines.Now) in omega (arith, more)

    line_each_of_all : (bounds : List Ty) (start : ℕ) (p : Page) (fs : Formulas) → AreLaidOut (length bounds) fs
        → size_of (written_each nodes tys bounds start p fs).page ≡ size_of p + places_in_all fs
    line_each_of_all bounds start p End is_laid = omega arith
    line_each_of_all bounds start p (More f rest) is_laid =
        let w = written nodes tys bounds start p f in
        let first = line_each bounds start p f is_laid.0 in
        let others = line_each_of_all bounds (start + length w.makes) w.page rest is_laid.1 in
        omega (arith, first, others)

pub one_line_each : OneLineEach
one_line_each nodes tys bounds start p f is_laid = line_each nodes tys bounds start p f is_laid
