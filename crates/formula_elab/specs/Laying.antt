-- The nodes and functions to be made for a formula: those of its parts before its own, and none for a bare name; the function of a bind before
-- its node, and those of the binds in its body before that.
use Rattle.std.specs.Prelude.{◌≡◌, ◌+◌, ℕ, pos, List, [], ◌∷◌, ◌++◌, length, map}
use Rattle.inc_value.specs.declared.function.FnRef.{FnRef}
use Rattle.inc_value.specs.declared.node.NodeId.{NodeId}
use Rattle.inc_value.specs.declared.ty.Ty.{Ty}
use Rattle.inc_value.specs.declared.value.Value.{Value}
use Rattle.script_model.specs.Formula as script
use Rattle.script_model.specs.Formula.{Formula, Formulas, Body, Literal, Name, Apply, End, More, Variable, Computed, After}
use Rattle.transfer.specs.Both.{graph_value}
use Rattle.transfer.specs.Shows.{graph_step}
use Rattle.formula_elab.specs.Make.{no_node}
use Rattle.formula_elab.specs.Opened.{Planned}
use Rattle.formula_elab.specs.Types.{formula_ty, joined_ty}
use Rattle.formula_elab.specs.Writing.{Written, body_of, written_body}
use Rattle.formula_elab.specs.declared.opened.Open.{Open}
use Rattle.formula_elab.specs.declared.opened.Open.TheVariants.{Const, Var, Map, Fold, If, Join, Bind, At, Steps, Now, Every, Freeze, Expert}
use Rattle.formula_elab.specs.declared.opened.Part.{Part}
use Rattle.formula_elab.specs.declared.opened.Part.TheVariants.{Given, Made}
use Rattle.formula_elab.specs.declared.plan.Planned.TheVariants.{Body as Function, Node}

-- ---- what is made

-- what is to be made, and the node of what it is made for
pub record Laid : Type 0 where
  pub makes : List Planned
  pub root : Part

-- what is to be made, and for each of the formulas that it is made for its node
pub record LaidEach : Type 0 where
  pub makes : List Planned
  pub roots : List Part

-- one node as the start-th
abbrev pub laid_one : ℕ → Open → Laid
laid_one start x = record { makes = Node x ∷ []; root = Made start }

-- a node that was given, and nothing to make
abbrev pub laid_given : NodeId → Laid
laid_given n = record { makes = []; root = Given n }

-- a function behind its arguments
abbrev pub laid_behind : ℕ → FnRef → LaidEach → Laid
laid_behind start function arguments = record {
  makes = arguments.makes ++ Node (Map function arguments.roots) ∷ [];
  root = Made (start + length arguments.makes);
}

-- a fold from a value behind its elements
abbrev pub laid_fold : ℕ → FnRef → Value → LaidEach → Laid
laid_fold start function first elements = record {
  makes = elements.makes ++ Node (Fold function first elements.roots) ∷ [];
  root = Made (start + length elements.makes);
}

-- an if of a type behind its test and its branches
abbrev pub laid_if : ℕ → Ty → Laid → Laid → Laid → Laid
laid_if start ty test a b = record {
  makes = test.makes ++ (a.makes ++ (b.makes ++ Node (If ty test.root a.root b.root) ∷ []));
  root = Made (start + (length test.makes + (length a.makes + length b.makes)));
}

-- a join of a type behind its child
abbrev pub laid_join : ℕ → Ty → Laid → Laid
laid_join start ty child = record {
  makes = child.makes ++ Node (Join ty child.root) ∷ [];
  root = Made (start + length child.makes);
}

-- a freeze of a type behind its child
abbrev pub laid_freeze : ℕ → Ty → FnRef → Laid → Laid
laid_freeze start ty predicate child = record {
  makes = child.makes ++ Node (Freeze ty child.root predicate) ∷ [];
  root = Made (start + length child.makes);
}

-- a bind of a type behind its left, whose body was written for a variable of a type: its function, and then its node
abbrev pub laid_bind : ℕ → Ty → Ty → Laid → Written → Laid
laid_bind start variable_ty ty left body =
    let number = start + (length left.makes + length body.makes) in record {
      makes = left.makes ++ (body.makes ++ Function (body_of (variable_ty ∷ []) ty body) ∷ Node (Bind ty left.root number) ∷ []);
      root = Made (number + 1);
    }

-- what is to be made for one formula before that for others
abbrev pub laid_before : Laid → LaidEach → LaidEach
laid_before first rest = record { makes = first.makes ++ rest.makes; roots = first.root ∷ rest.roots }

abbrev mutual
  -- what is to be made for a formula, the first as the start-th, over the nodes and types of names; a variable isn't laid out
  pub laid : (ℕ → NodeId) → (ℕ → Ty) → ℕ → Formula → Laid
  laid nodes tys start (Literal v) = laid_one start (Const (graph_value nodes v))
  laid nodes tys start (Name n) = laid_given (nodes n)
  laid nodes tys start (Apply function arguments) = laid_behind start function (laid_each nodes tys start arguments)
  laid nodes tys start (script.Fold function first elements) =
      laid_fold start function (graph_value nodes first) (laid_each nodes tys start elements)
  laid nodes tys start (script.If test a b) =
      let first = laid nodes tys start test in
      let second = laid nodes tys (start + length first.makes) a in
      laid_if start (formula_ty tys [] a) first second
      (laid nodes tys (start + (length first.makes + length second.makes)) b)
  laid nodes tys start (script.Join child) =
      laid_join start (joined_ty (formula_ty tys [] child)) (laid nodes tys start child)
  laid nodes tys start (script.Bind left body) =
      let u = formula_ty tys [] left in
      let l = laid nodes tys start left in
      laid_bind start u (formula_ty tys (u ∷ []) body) l (written_body nodes tys (u ∷ []) (start + length l.makes) body)
  laid nodes tys start (script.At time) = laid_one start (At (pos time))
  laid nodes tys start (script.Steps first steps) = laid_one start (Steps (graph_value nodes first) (map (graph_step nodes) steps))
  laid nodes tys start script.Now = laid_one start Now
  laid nodes tys start (script.Bound k) = laid_given no_node

  -- what is to be made for formulas, one after the other
  pub laid_each : (ℕ → NodeId) → (ℕ → Ty) → ℕ → Formulas → LaidEach
  laid_each nodes tys start End = record { makes = []; roots = [] }
  laid_each nodes tys start (More f rest) =
      laid_before (laid nodes tys start f)
      (laid_each nodes tys (start + length (laid nodes tys start f).makes) rest)

-- what is to be made for what is declared: a variable is one node, and so are an expert and what reads the clock
abbrev pub laid_body : (ℕ → NodeId) → (ℕ → Ty) → ℕ → Body → Laid
laid_body nodes tys start (Variable v) = laid_one start (Var (graph_value nodes v))
laid_body nodes tys start (Computed f kept) = laid nodes tys start f
laid_body nodes tys start (After time) = laid_one start (At (pos time))
laid_body nodes tys start (script.Every base span) = laid_one start (Every (pos base) span)
laid_body nodes tys start (script.Freeze child predicate frozen) = laid_freeze start (formula_ty tys [] child) predicate (laid nodes tys start child)
laid_body nodes tys start (script.Expert f first links stale) = laid_one start (Expert f (graph_value nodes first))
laid_body nodes tys start (script.Grab bind v is_live) = laid_given no_node

-- ---- what was laid out

-- behind what was to be made, the formula was laid out: this is to be made now, and the part is its node
pub record IsLaid (nodes : ℕ → NodeId) (tys : ℕ → Ty) (f : Formula) (old new : List Planned) (part : Part) : Type 0 where
  pub makes : new ≡ old ++ (laid nodes tys (length old) f).makes
  pub root : part ≡ (laid nodes tys (length old) f).root

-- so were the formulas
pub record AreLaid (nodes : ℕ → NodeId) (tys : ℕ → Ty) (fs : Formulas) (old new : List Planned) (parts : List Part) : Type 0 where
  pub makes : new ≡ old ++ (laid_each nodes tys (length old) fs).makes
  pub roots : parts ≡ (laid_each nodes tys (length old) fs).roots

-- so was what is declared
pub record IsLaidBody (nodes : ℕ → NodeId) (tys : ℕ → Ty) (body : Body) (old new : List Planned) (part : Part) : Type 0 where
  pub makes : new ≡ old ++ (laid_body nodes tys (length old) body).makes
  pub root : part ≡ (laid_body nodes tys (length old) body).root
