-- No more functions of right sides are made for a declaration than it has binds.
use Rattle.std.proofs.Common.{◌≡◌, ℕ, ◌+◌, ◌≤◌, List, [], ◌∷◌, ◌++◌, length, arith}
use Rattle.inc_value.specs.declared.node.NodeId.{NodeId}
use Rattle.inc_value.specs.declared.ty.Ty.{Ty}
use Rattle.script_model.specs.Formula as script
use Rattle.script_model.specs.Formula.{Formula, Formulas, Body, Literal, Name, Apply, End, More, Variable, Computed, After}
use Rattle.script_model.specs.Formula.{binds_in, binds_in_all, binds_of_body}
use Rattle.transfer.specs.Both.{graph_value}
use Rattle.formula_elab.specs.Bodies.{Page, empty_page}
use Rattle.formula_elab.specs.Functions.{bodies_in}
use Rattle.formula_elab.specs.Laying.{laid, laid_each, laid_body}
use Rattle.formula_elab.specs.Opened.{Planned}
use Rattle.formula_elab.specs.Today.{IsLaidOut, AreLaidOut, IsLaidOutBody}
use Rattle.formula_elab.specs.Types.{formula_ty, joined_ty}
use Rattle.formula_elab.specs.Writing.{body_of, with_named, written, written_body, written_each}
use Rattle.formula_elab.specs.declared.opened.Open.TheVariants as opened
use Rattle.formula_elab.specs.declared.opened.Open.TheVariants.{Map, Fold, If, Join, Bind}
use Rattle.formula_elab.specs.declared.plan.Planned.TheVariants.{Body as Function, Node}

pub bodies_behind : (xs ys : List Planned) → bodies_in (xs ++ ys) ≡ bodies_in xs + bodies_in ys
bodies_behind [] ys = omega arith
bodies_behind (x ∷ xs) ys = let rest = bodies_behind xs ys in omega (arith, rest)

module _ (nodes : ℕ → NodeId) (tys : ℕ → Ty) where
  mutual
    few_written : (bounds : List Ty) (start : ℕ) (p : Page) (f : Formula) → bodies_in (written nodes tys bounds start p f).makes ≤ binds_in f
    few_written bounds start p (Apply f arguments) = all_few_written bounds start p arguments
    few_written bounds start p (script.Fold f first elements) = all_few_written bounds start (with_named nodes p first) elements
    few_written bounds start p (script.If test a b) =
        let t = written nodes tys bounds start p test in
        let x = written nodes tys bounds (start + length t.makes) t.page a in
        let y = written nodes tys bounds (start + (length t.makes + length x.makes)) x.page b in
        let size = bodies_behind t.makes (x.makes ++ y.makes) in
        let rest = bodies_behind x.makes y.makes in
        let first = few_written bounds start p test in
        let second = few_written bounds (start + length t.makes) t.page a in
        let third = few_written bounds (start + (length t.makes + length x.makes)) x.page b in
        omega (arith, size, rest, first, second, third)
    few_written bounds start p (script.Join child) = few_written bounds start p child
    few_written bounds start p (script.Bind left body) =
        let u = formula_ty tys bounds left in
        let l = written nodes tys bounds start p left in
        let i = written nodes tys (u ∷ bounds) (start + length l.makes) empty_page body in
        let last = Function (body_of (u ∷ bounds) (formula_ty tys (u ∷ bounds) body) i) in
        let size = bodies_behind l.makes (i.makes ++ last ∷ []) in
        let rest = bodies_behind i.makes (last ∷ []) in
        let first = few_written bounds start p left in
        let inner = few_written (u ∷ bounds) (start + length l.makes) empty_page body in
        omega (arith, size, rest, first, inner)
    few_written bounds start p f = omega arith

    all_few_written : (bounds : List Ty) (start : ℕ) (p : Page) (fs : Formulas)
        → bodies_in (written_each nodes tys bounds start p fs).makes ≤ binds_in_all fs
    all_few_written bounds start p End = omega arith
    all_few_written bounds start p (More f rest) =
        let w = written nodes tys bounds start p f in
        let ws = written_each nodes tys bounds (start + length w.makes) w.page rest in
        let size = bodies_behind w.makes ws.makes in
        let first = few_written bounds start p f in
        let others = all_few_written bounds (start + length w.makes) w.page rest in
        omega (arith, size, first, others)

  mutual
    few : (start : ℕ) (f : Formula) → IsLaidOut 0 f → bodies_in (laid nodes tys start f).makes ≤ binds_in f
    few start (Literal v) is_laid = omega arith
    few start (Name n) is_laid = omega arith
    few start (Apply function arguments) is_laid =
        let each = laid_each nodes tys start arguments in
        let size = bodies_behind each.makes (Node (Map function each.roots) ∷ []) in
        omega (arith, size, all_few start arguments is_laid)
    few start (script.Fold function first elements) is_laid =
        let each = laid_each nodes tys start elements in
        let size = bodies_behind each.makes (Node (Fold function (graph_value nodes first) each.roots) ∷ []) in
        omega (arith, size, all_few start elements is_laid)
    few start (script.If test a b) is_laid =
        let first = laid nodes tys start test in
        let second = laid nodes tys (start + length first.makes) a in
        let third = laid nodes tys (start + (length first.makes + length second.makes)) b in
        let whole = Node (If (formula_ty tys [] a) first.root second.root third.root) in
        let size = bodies_behind first.makes (second.makes ++ (third.makes ++ whole ∷ [])) in
        let size_then = bodies_behind second.makes (third.makes ++ whole ∷ []) in
        let size_else = bodies_behind third.makes (whole ∷ []) in
        let here = few start test is_laid.0 in
        let there = few (start + length first.makes) a is_laid.1 in
        let behind = few (start + (length first.makes + length second.makes)) b is_laid.2 in
        omega (arith, size, size_then, size_else, here, there, behind)
    few start (script.Join child) is_laid =
        let under = laid nodes tys start child in
        let size = bodies_behind under.makes (Node (Join (joined_ty (formula_ty tys [] child)) under.root) ∷ []) in
        omega (arith, size, few start child is_laid)
    few start (script.Bind left body) is_laid =
        let u = formula_ty tys [] left in
        let ty = formula_ty tys (u ∷ []) body in
        let l = laid nodes tys start left in
        let w = written_body nodes tys (u ∷ []) (start + length l.makes) body in
        let number = start + (length l.makes + length w.makes) in
        let last = Function (body_of (u ∷ []) ty w) ∷ Node (Bind ty l.root number) ∷ [] in
        let size = bodies_behind l.makes (w.makes ++ last) in
        let rest = bodies_behind w.makes last in
        let here = few start left is_laid.0 in
        let inner = few_written (u ∷ []) (start + length l.makes) empty_page body in
        omega (arith, size, rest, here, inner)
    few start (script.Bound k) is_laid = absurd (omega (arith, is_laid))
    few start (script.At time) is_laid = omega arith
    few start (script.Steps first steps) is_laid = omega arith
    few start script.Now is_laid = omega arith

    all_few : (start : ℕ) (fs : Formulas) → AreLaidOut 0 fs → bodies_in (laid_each nodes tys start fs).makes ≤ binds_in_all fs
    all_few start End is_laid = omega arith
    all_few start (More f rest) is_laid =
        let first = laid nodes tys start f in
        let next = start + length first.makes in
        let size = bodies_behind first.makes (laid_each nodes tys next rest).makes in
        omega (arith, size, few start f is_laid.0, all_few next rest is_laid.1)

  pub few_bodies : (body : Body) → IsLaidOutBody body → bodies_in (laid_body nodes tys 0 body).makes ≤ binds_of_body body
  few_bodies (Variable v) is_laid = omega arith
  few_bodies (Computed f kept) is_laid = few 0 f is_laid
  few_bodies (After time) is_laid = omega arith
  few_bodies (script.Every base span) is_laid = omega arith
  few_bodies (script.Freeze child predicate frozen) is_laid =
      let under = laid nodes tys 0 child in
      let size = bodies_behind under.makes (Node (opened.Freeze (formula_ty tys [] child) under.root predicate) ∷ []) in
      omega (arith, size, few 0 child is_laid)
  few_bodies (script.Expert f first links stale) is_laid = omega arith
  few_bodies (script.Grab bind v is_live) is_laid = absurd is_laid
