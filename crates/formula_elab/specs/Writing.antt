-- What the body of a bind is written as: for each place a line behind those of its parts, none for a name or a variable. The
-- functions of the binds in it are to be made before its own.
use Rattle.std.specs.Prelude.{◌≡◌, ◌+◌, ℕ, zero, suc, pos, List, [], ◌∷◌, ◌++◌, length, map}
use Rattle.inc_value.specs.Ty.{type_of_base}
use Rattle.inc_value.specs.declared.node.NodeId.{NodeId}
use Rattle.inc_value.specs.declared.ty.Ty.{Ty}
use Rattle.script_functions.specs.declared.line.Line.{Line}
use Rattle.script_functions.specs.declared.line.Line.TheVariants.{Const, Map, Fold, If, Join, At, Steps, Now}
use Rattle.script_functions.specs.declared.line.Part.{Part}
use Rattle.script_functions.specs.declared.line.Part.TheVariants as part
use Rattle.script_model.specs.Formula as script
use Rattle.script_model.specs.Formula.{Formula, Formulas, TimedValue, Literal, Name, Bound, Apply, End, More, places_in, places_in_all}
use Rattle.script_model.specs.Values.{Value, Reference}
use Rattle.transfer.specs.Both.{graph_value}
use Rattle.transfer.specs.Shows.{graph_step}
use Rattle.formula_elab.specs.Bodies.{OpenBody, Page, empty_page, size_of}
use Rattle.formula_elab.specs.Opened.{Planned}
use Rattle.formula_elab.specs.Types.{formula_ty}
use Rattle.formula_elab.specs.declared.body.OpenLine.{OpenLine}
use Rattle.formula_elab.specs.declared.body.OpenLine.TheVariants as open_line
use Rattle.formula_elab.specs.declared.plan.Planned.TheVariants.{Body}

-- ---- parts

-- the part that reads the variable of a bind, so many binds out: the left value, or a capture
abbrev pub variable : ℕ → Part
variable zero = part.Line 0
variable (suc k) = part.Captured k

-- the parts that read the variables from the k-th on, of which there are so many
abbrev pub variables_from : ℕ → ℕ → List Part
variables_from k zero = []
variables_from k (suc count) = variable k ∷ variables_from (suc k) count

-- those that read all of them
abbrev pub variables : ℕ → List Part
variables count = variables_from 0 count

-- ---- pages

-- the page with one node more
abbrev pub with_node : Page → NodeId → Ty → Page
with_node p n ty = record p { listed = p.listed ++ record { node = n; ty = ty } ∷ [] }

-- the page with the node that a value names
abbrev pub with_named : (ℕ → NodeId) → Page → Value → Page
with_named nodes p (Reference target base) = with_node p (nodes target) (type_of_base base)
with_named nodes p v = p

-- the page with the nodes that the values of steps name
abbrev pub with_each_named : (ℕ → NodeId) → Page → List TimedValue → Page
with_each_named nodes p [] = p
with_each_named nodes p (step ∷ steps) = with_each_named nodes (with_named nodes p step.value) steps

-- the page with one line more
abbrev pub with_line : Page → OpenLine → Page
with_line p line = record p { lines = p.lines ++ line ∷ [] }

-- the page with the nodes of another
abbrev pub with_nodes_of : Page → Page → Page
with_nodes_of p q = record p { listed = p.listed ++ q.listed }

-- ---- writing

-- what is to be made for a formula, the page behind its lines, and the part that reads it
pub record Written : Type 0 where
  pub makes : List Planned
  pub page : Page
  pub root : Part

-- for formulas, with the parts that read them
pub record WrittenEach : Type 0 where
  pub makes : List Planned
  pub page : Page
  pub roots : List Part

-- a line behind the page
abbrev pub written_line : List Planned → Page → OpenLine → Written
written_line makes p line = record { makes = makes; page = with_line p line; root = part.Line (length p.lines + 1) }

-- one that is ready
abbrev pub written_ready : List Planned → Page → Line → Written
written_ready makes p line = written_line makes p (open_line.Ready line)

-- the body of what was written, where the variables round it have these types and it has that one
abbrev pub body_of : List Ty → Ty → Written → OpenBody
body_of bounds ty w = record { sig = record { takes = bounds; gives = ty }; page = w.page; root = w.root }

-- a bind behind its left, where its body was written on a page of its own, and so many are to be made before
abbrev pub written_bind : List Ty → ℕ → Ty → Ty → Written → Written → Written
written_bind bounds start variable_ty ty left inner =
    let body = body_of (variable_ty ∷ bounds) ty inner in
    written_line (left.makes ++ (inner.makes ++ Body body ∷ [])) (with_nodes_of left.page inner.page)
    (open_line.Bind left.root (start + (length left.makes + length inner.makes)) (size_of inner.page) (variables (length bounds)))

-- one formula before others
abbrev pub written_before : Written → WrittenEach → WrittenEach
written_before first rest =
    record { makes = first.makes ++ rest.makes; page = rest.page; roots = first.root ∷ rest.roots }

abbrev mutual
  -- what a formula is written as behind a page, where so many are to be made before, over the nodes and types of names and
  -- the types of the variables of the binds round it
  pub written : (ℕ → NodeId) → (ℕ → Ty) → List Ty → ℕ → Page → Formula → Written
  written nodes tys bounds start p (Literal v) = written_ready [] (with_named nodes p v) (Const (graph_value nodes v))
  written nodes tys bounds start p (Name n) =
      record { makes = []; page = with_node p (nodes n) (tys n); root = part.Listed (length p.listed) }
  written nodes tys bounds start p (Bound k) = record { makes = []; page = p; root = variable k }
  written nodes tys bounds start p (Apply f arguments) =
      let ws = written_each nodes tys bounds start p arguments in written_ready ws.makes ws.page (Map f ws.roots)
  written nodes tys bounds start p (script.Fold f first elements) =
      let ws = written_each nodes tys bounds start (with_named nodes p first) elements in
      written_ready ws.makes ws.page (Fold f (graph_value nodes first) ws.roots)
  written nodes tys bounds start p (script.If test a b) =
      let t = written nodes tys bounds start p test in
      let x = written nodes tys bounds (start + length t.makes) t.page a in
      let y = written nodes tys bounds (start + (length t.makes + length x.makes)) x.page b in
      written_ready (t.makes ++ (x.makes ++ y.makes)) y.page (If t.root x.root y.root)
  written nodes tys bounds start p (script.Join child) =
      let c = written nodes tys bounds start p child in written_ready c.makes c.page (Join c.root)
  written nodes tys bounds start p (script.Bind left body) =
      let u = formula_ty tys bounds left in
      let l = written nodes tys bounds start p left in
      written_bind bounds start u (formula_ty tys (u ∷ bounds) body) l
      (written nodes tys (u ∷ bounds) (start + length l.makes) empty_page body)
  written nodes tys bounds start p (script.At time) = written_ready [] p (At (pos time))
  written nodes tys bounds start p (script.Steps first steps) =
      written_ready [] (with_each_named nodes (with_named nodes p first) steps) (Steps (graph_value nodes first) (map (graph_step nodes) steps))
  written nodes tys bounds start p script.Now = written_ready [] p Now

  -- what formulas are written as, one after the other
  pub written_each : (ℕ → NodeId) → (ℕ → Ty) → List Ty → ℕ → Page → Formulas → WrittenEach
  written_each nodes tys bounds start p End = record { makes = []; page = p; roots = [] }
  written_each nodes tys bounds start p (More f rest) =
      let first = written nodes tys bounds start p f in
      written_before first (written_each nodes tys bounds (start + length first.makes) first.page rest)

-- the body of a bind whose left is of the first of the types, and what is to be made before its function
abbrev pub written_body : (ℕ → NodeId) → (ℕ → Ty) → List Ty → ℕ → Formula → Written
written_body nodes tys bounds start f = written nodes tys bounds start empty_page f

-- ---- what was written

-- behind what was to be made and a page, the formula was written: this is to be made now, this is the page, and the part
-- reads it; the page has a line more for each place, or what takes as many nodes
pub record IsWritten (nodes : ℕ → NodeId) (tys : ℕ → Ty) (bounds : List Ty) (f : Formula) (old new : List Planned) (p p' : Page)
    (part : Part) : Type 0 where
  pub makes : new ≡ old ++ (written nodes tys bounds (length old) p f).makes
  pub page : p' ≡ (written nodes tys bounds (length old) p f).page
  pub root : part ≡ (written nodes tys bounds (length old) p f).root
  pub size : size_of p' ≡ size_of p + places_in f

-- so were the formulas
pub record AreWritten (nodes : ℕ → NodeId) (tys : ℕ → Ty) (bounds : List Ty) (fs : Formulas) (old new : List Planned) (p p' : Page)
    (parts : List Part) : Type 0 where
  pub makes : new ≡ old ++ (written_each nodes tys bounds (length old) p fs).makes
  pub page : p' ≡ (written_each nodes tys bounds (length old) p fs).page
  pub roots : parts ≡ (written_each nodes tys bounds (length old) p fs).roots
  pub size : size_of p' ≡ size_of p + places_in_all fs

-- the body of a bind was written
pub record IsWrittenBody (nodes : ℕ → NodeId) (tys : ℕ → Ty) (bounds : List Ty) (f : Formula) (old new : List Planned) (o : OpenBody)
    : Type 0 where
  pub makes : new ≡ old ++ (written_body nodes tys bounds (length old) f).makes
  pub body : o ≡ body_of bounds (formula_ty tys bounds f) (written_body nodes tys bounds (length old) f)
  pub size : size_of o.page ≡ 1 + places_in f

-- behind a page, the line of a bind of the part was added, which captures so many variables: its function is to be made next, of
-- the body, whose nodes the page lists
pub record IsBindAdded (left : Part) (o : OpenBody) (count : ℕ) (old new : List Planned) (p p' : Page) (part' : Part) : Type 0 where
  pub makes : new ≡ old ++ Body o ∷ []
  pub page : p' ≡ with_line (with_nodes_of p o.page) (open_line.Bind left (length old) (size_of o.page) (variables count))
  pub root : part' ≡ part.Line (length p.lines + 1)
  pub size : size_of p' ≡ size_of p + (size_of o.page + 1)
