-- A page that is written on keeps the lines and the nodes that it had.
use Rattle.std.proofs.Common.{◌≡◌, ℕ, ◌+◌, List, [], ◌∷◌, length, map, pos, refl, ◌∙◌}
use Rattle.inc_value.specs.declared.node.NodeId.{NodeId}
use Rattle.inc_value.specs.declared.ty.Ty.{Ty}
use Rattle.script_functions.specs.declared.line.Line.TheVariants as lines
use Rattle.script_model.specs.Formula as script
use Rattle.script_model.specs.Formula.{Formula, Formulas, TimedValue, Literal, Name, Apply, End, More}
use Rattle.script_model.specs.Values.{Value, Int, Bool, Text, Reference}
use Rattle.transfer.specs.Both.{graph_value}
use Rattle.transfer.specs.Shows.{graph_step}
use Rattle.formula_elab.specs.Bodies.{Page, empty_page, size_of}
use Rattle.formula_elab.specs.Types.{formula_ty}
use Rattle.formula_elab.specs.Writing.{variables, with_each_named, with_line, with_named, with_nodes_of, written, written_each}
use Rattle.formula_elab.specs.declared.body.OpenLine.{OpenLine}
use Rattle.formula_elab.specs.declared.body.OpenLine.TheVariants.{Ready, Bind}
use Rattle.formula_elab.proofs.Lists.{Begins, begins_all, begins_more, begins_then}

-- a node that is listed is no line
pub named_lines : (nodes : ℕ → NodeId) (p : Page) (v : Value) → (with_named nodes p v).lines ≡ p.lines
named_lines nodes p (Int z) = refl
named_lines nodes p (Bool b) = refl
named_lines nodes p (Text bytes) = refl
named_lines nodes p (Reference target base) = refl

pub named_each_lines : (nodes : ℕ → NodeId) (p : Page) (steps : List TimedValue) → (with_each_named nodes p steps).lines ≡ p.lines
named_each_lines nodes p [] = refl
named_each_lines nodes p (s ∷ steps) = named_each_lines nodes (with_named nodes p s.value) steps ∙ named_lines nodes p s.value

-- the page begins with the other
pub record Grows (q p : Page) : Type 0 where
  pub listed : Begins q.listed p.listed
  pub lines : Begins q.lines p.lines

pub grows_then : (r q p : Page) → Grows r q → Grows q p → Grows r p
grows_then r q p h k = record {
  listed = begins_then r.listed q.listed p.listed h.listed k.listed;
  lines = begins_then r.lines q.lines p.lines h.lines k.lines;
}

pub grows_not : (p : Page) → Grows p p
grows_not p = record { listed = begins_all p.listed; lines = begins_all p.lines }

pub grows_line : (p : Page) (line : OpenLine) → Grows (with_line p line) p
grows_line p line = record { listed = begins_all p.listed; lines = begins_more p.lines (line ∷ []) }

pub grows_nodes : (p q : Page) → Grows (with_nodes_of p q) p
grows_nodes p q = record { listed = begins_more p.listed q.listed; lines = begins_all p.lines }

pub grows_named : (nodes : ℕ → NodeId) (p : Page) (v : Value) → Grows (with_named nodes p v) p
grows_named nodes p (Int z) = grows_not p
grows_named nodes p (Bool b) = grows_not p
grows_named nodes p (Text bytes) = grows_not p
grows_named nodes p (Reference target base) = record {
  listed = begins_more p.listed ((with_named nodes empty_page (Reference target base)).listed);
  lines = begins_all p.lines;
}

pub grows_each_named : (nodes : ℕ → NodeId) (p : Page) (steps : List TimedValue) → Grows (with_each_named nodes p steps) p
grows_each_named nodes p [] = grows_not p
grows_each_named nodes p (s ∷ steps) =
    let q = with_named nodes p s.value in
    grows_then (with_each_named nodes q steps) q p (grows_each_named nodes q steps) (grows_named nodes p s.value)

module _ (nodes : ℕ → NodeId) (tys : ℕ → Ty) where
  mutual
    pub grows : (bounds : List Ty) (start : ℕ) (p : Page) (f : Formula) → Grows (written nodes tys bounds start p f).page p
    grows bounds start p (Literal v) =
        let q = with_named nodes p v in
        let line = Ready (lines.Const (graph_value nodes v)) in
        grows_then (with_line q line) q p (grows_line q line) (grows_named nodes p v)
    grows bounds start p (Name n) = record {
      listed = begins_more p.listed (record { node = nodes n; ty = tys n } ∷ []);
      lines = begins_all p.lines;
    }
    grows bounds start p (Apply f arguments) =
        let ws = written_each nodes tys bounds start p arguments in
        let line = Ready (lines.Map f ws.roots) in
        grows_then (with_line ws.page line) ws.page p (grows_line ws.page line) (grows_all bounds start p arguments)
    grows bounds start p (script.Fold f first elements) =
        let q = with_named nodes p first in
        let ws = written_each nodes tys bounds start q elements in
        let line = Ready (lines.Fold f (graph_value nodes first) ws.roots) in
        grows_then (with_line ws.page line) ws.page p (grows_line ws.page line)
        (grows_then ws.page q p (grows_all bounds start q elements) (grows_named nodes p first))
    grows bounds start p (script.If test a b) =
        let t = written nodes tys bounds start p test in
        let x = written nodes tys bounds (start + length t.makes) t.page a in
        let y = written nodes tys bounds (start + (length t.makes + length x.makes)) x.page b in
        let line = Ready (lines.If t.root x.root y.root) in
        let first = grows bounds start p test in
        let second = grows bounds (start + length t.makes) t.page a in
        let third = grows bounds (start + (length t.makes + length x.makes)) x.page b in
        grows_then (with_line y.page line) y.page p (grows_line y.page line)
        (grows_then y.page x.page p third (grows_then x.page t.page p second first))
    grows bounds start p (script.Join child) =
        let c = written nodes tys bounds start p child in
        let line = Ready (lines.Join c.root) in
        grows_then (with_line c.page line) c.page p (grows_line c.page line) (grows bounds start p child)
    grows bounds start p (script.Bind left body) =
        let u = formula_ty tys bounds left in
        let l = written nodes tys bounds start p left in
        let i = written nodes tys (u ∷ bounds) (start + length l.makes) empty_page body in
        let q = with_nodes_of l.page i.page in
        let line = Bind l.root (start + (length l.makes + length i.makes)) (size_of i.page) (variables (length bounds)) in
        grows_then (with_line q line) q p (grows_line q line) (grows_then q l.page p (grows_nodes l.page i.page) (grows bounds start p left))
    grows bounds start p (script.At time) = grows_line p (Ready (lines.At (pos time)))
    grows bounds start p (script.Steps first steps) =
        let q = with_named nodes p first in
        let r = with_each_named nodes q steps in
        let line = Ready (lines.Steps (graph_value nodes first) (map (graph_step nodes) steps)) in
        grows_then (with_line r line) r p (grows_line r line) (grows_then r q p (grows_each_named nodes q steps) (grows_named nodes p first))
    grows bounds start p script.Now = grows_line p (Ready lines.Now)
    grows bounds start p f = grows_not p

    pub grows_all : (bounds : List Ty) (start : ℕ) (p : Page) (fs : Formulas) → Grows (written_each nodes tys bounds start p fs).page p
    grows_all bounds start p End = grows_not p
    grows_all bounds start p (More f rest) =
        let w = written nodes tys bounds start p f in
        let ws = written_each nodes tys bounds (start + length w.makes) w.page rest in
        grows_then ws.page w.page p (grows_all bounds (start + length w.makes) w.page rest) (grows bounds start p f)
