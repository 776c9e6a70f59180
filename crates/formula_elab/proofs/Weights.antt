-- Each place may come to have one live node: of a bind itself and its variable, and those of its body.
use Rattle.std.proofs.Common.{◌≡◌, ℕ, ◌+◌, List, [], ◌∷◌, ◌++◌, length, Some, arith, refl, subst}
use Rattle.std.proofs.lemmas.List.Sums.{sum_by-append, sum_by-cons}
use Rattle.std.specs.List.{slice_get, sum_by}
use Rattle.inc_value.specs.declared.node.NodeId.{NodeId}
use Rattle.inc_value.specs.declared.ty.Ty.{Ty}
use Rattle.script_model.specs.Formula as script
use Rattle.script_model.specs.Formula.{Formula, Formulas, Literal, Name, Apply, End, More}
use Rattle.script_model.specs.Formula.{Variable, Computed, After, Body as Declaration}
use Rattle.script_model.specs.Formula.{places_in, places_in_all, places_of_body}
use Rattle.transfer.specs.Both.{graph_value}
use Rattle.formula_elab.specs.Bodies.{OpenBody, Page, empty_page, size_of}
use Rattle.formula_elab.specs.Laying.{laid, laid_each, laid_body}
use Rattle.formula_elab.specs.Made.{OneNodeEach}
use Rattle.formula_elab.specs.Opened.{size_at, weight_of}
use Rattle.formula_elab.specs.Today.{IsLaidOut, AreLaidOut, IsLaidOutBody}
use Rattle.formula_elab.specs.Types.{formula_ty, joined_ty}
use Rattle.formula_elab.specs.Writing.{body_of, with_named, written, written_body, written_each}
use Rattle.formula_elab.specs.declared.opened.Open.TheVariants as opened
use Rattle.formula_elab.specs.declared.opened.Open.TheVariants.{Map, Fold, If, Join, Bind}
use Rattle.formula_elab.specs.declared.plan.Planned.{Planned}
use Rattle.formula_elab.specs.declared.plan.Planned.TheVariants.{Body, Node}
use Rattle.formula_elab.proofs.Lines.{one_line_each}
use Rattle.formula_elab.proofs.Lists.{StandsAt, at_split, at_all}

-- the function that is to be made there takes so many
size_there : (makes : List Planned) (i : ℕ) (o : OpenBody) → slice_get makes i ≡ Some (Body o) → size_at makes i ≡ size_of o.page
size_there makes i o at = rw (at, size_at) refl

module _ (nodes : ℕ → NodeId) (tys : ℕ → Ty) (all : List Planned) where
  abbrev weigh : List Planned → ℕ
  weigh xs = sum_by (weight_of all) xs

  -- functions alone, of which no node lives by itself
  mutual
    no_weight : (bounds : List Ty) (start : ℕ) (p : Page) (f : Formula) → weigh (written nodes tys bounds start p f).makes ≡ 0
    no_weight bounds start p (Apply f arguments) = no_weight_of_all bounds start p arguments
    no_weight bounds start p (script.Fold f first elements) =
        no_weight_of_all bounds start (with_named nodes p first) elements
    no_weight bounds start p (script.If test a b) =
        let t = written nodes tys bounds start p test in
        let x = written nodes tys bounds (start + length t.makes) t.page a in
        let y = written nodes tys bounds (start + (length t.makes + length x.makes)) x.page b in
        let both = sum_by-append (weight_of all) t.makes (x.makes ++ y.makes) in
        let rest = sum_by-append (weight_of all) x.makes y.makes in
        let first = no_weight bounds start p test in
        let second = no_weight bounds (start + length t.makes) t.page a in
        let third = no_weight bounds (start + (length t.makes + length x.makes)) x.page b in
        omega (arith, both, rest, first, second, third)
    no_weight bounds start p (script.Join child) = no_weight bounds start p child
    no_weight bounds start p (script.Bind left body) =
        let u = formula_ty tys bounds left in
        let l = written nodes tys bounds start p left in
        let i = written nodes tys (u ∷ bounds) (start + length l.makes) empty_page body in
        let last = Body (body_of (u ∷ bounds) (formula_ty tys (u ∷ bounds) body) i) in
        let both = sum_by-append (weight_of all) l.makes (i.makes ++ last ∷ []) in
        let rest = sum_by-append (weight_of all) i.makes (last ∷ []) in
        let first = no_weight bounds start p left in
        let inner = no_weight (u ∷ bounds) (start + length l.makes) empty_page body in
        omega (arith, both, rest, first, inner)
    no_weight bounds start p f = refl

    no_weight_of_all : (bounds : List Ty) (start : ℕ) (p : Page) (fs : Formulas)
        → weigh (written_each nodes tys bounds start p fs).makes ≡ 0
    no_weight_of_all bounds start p End = refl
    no_weight_of_all bounds start p (More f rest) =
        let w = written nodes tys bounds start p f in
        let ws = written_each nodes tys bounds (start + length w.makes) w.page rest in
        let both = sum_by-append (weight_of all) w.makes ws.makes in
        let first = no_weight bounds start p f in
        let others = no_weight_of_all bounds (start + length w.makes) w.page rest in
        omega (arith, both, first, others)

  mutual
    node_each : (start : ℕ) (f : Formula) → IsLaidOut 0 f → StandsAt all start (laid nodes tys start f).makes
        → weigh (laid nodes tys start f).makes ≡ places_in f
    node_each start (Literal v) is_laid at = refl
    node_each start (Name n) is_laid at = refl
    node_each start (Apply function arguments) is_laid at =
        let each = laid_each nodes tys start arguments in
        let last = Node (Map function each.roots) in
        let both = sum_by-append (weight_of all) each.makes (last ∷ []) in
        let parts = at_split all start each.makes (last ∷ []) at in
        omega (arith, both, node_each_of_all start arguments is_laid parts.0)
    node_each start (script.Fold function first elements) is_laid at =
        let each = laid_each nodes tys start elements in
        let last = Node (Fold function (graph_value nodes first) each.roots) in
        let both = sum_by-append (weight_of all) each.makes (last ∷ []) in
        let parts = at_split all start each.makes (last ∷ []) at in
        omega (arith, both, node_each_of_all start elements is_laid parts.0)
    node_each start (script.If test a b) is_laid at =
        let x = laid nodes tys start test in
        let y = laid nodes tys (start + length x.makes) a in
        let z = laid nodes tys (start + (length x.makes + length y.makes)) b in
        let last = Node (If (formula_ty tys [] a) x.root y.root z.root) in
        let sum = sum_by-append (weight_of all) x.makes (y.makes ++ (z.makes ++ last ∷ [])) in
        let sum_then = sum_by-append (weight_of all) y.makes (z.makes ++ last ∷ []) in
        let sum_else = sum_by-append (weight_of all) z.makes (last ∷ []) in
        let first = at_split all start x.makes (y.makes ++ (z.makes ++ last ∷ [])) at in
        let second = at_split all (start + length x.makes) y.makes (z.makes ++ last ∷ []) first.1 in
        let third = at_split all (start + length x.makes + length y.makes) z.makes (last ∷ []) second.1 in
        let there : start + length x.makes + length y.makes ≡ start + (length x.makes + length y.makes) = omega arith in
        let here = node_each start test is_laid.0 first.0 in
        let then = node_each (start + length x.makes) a is_laid.1 second.0 in
        let behind = node_each (start + (length x.makes + length y.makes)) b is_laid.2 (subst (λ i. StandsAt all i z.makes) there third.0) in
        omega (arith, sum, sum_then, sum_else, here, then, behind)
    node_each start (script.Join child) is_laid at =
        let under = laid nodes tys start child in
        let last = Node (Join (joined_ty (formula_ty tys [] child)) under.root) in
        let both = sum_by-append (weight_of all) under.makes (last ∷ []) in
        let parts = at_split all start under.makes (last ∷ []) at in
        omega (arith, both, node_each start child is_laid parts.0)
    node_each start (script.Bind left body) is_laid at =
        let u = formula_ty tys [] left in
        let ty = formula_ty tys (u ∷ []) body in
        let l = laid nodes tys start left in
        let w = written_body nodes tys (u ∷ []) (start + length l.makes) body in
        let o = body_of (u ∷ []) ty w in
        let number = start + (length l.makes + length w.makes) in
        let last = Node (Bind ty l.root number) in
        let sum = sum_by-append (weight_of all) l.makes (w.makes ++ Body o ∷ last ∷ []) in
        let sum_body = sum_by-append (weight_of all) w.makes (Body o ∷ last ∷ []) in
        let sum_last = sum_by-cons (weight_of all) (Body o) (last ∷ []) in
        let first = at_split all start l.makes (w.makes ++ Body o ∷ last ∷ []) at in
        let second = at_split all (start + length l.makes) w.makes (Body o ∷ last ∷ []) first.1 in
        let there : start + length l.makes + length w.makes ≡ number = omega arith in
        let size = size_there all number o (subst (λ i. slice_get all i ≡ Some (Body o)) there second.1.0) in
        let here = node_each start left is_laid.0 first.0 in
        let none = no_weight (u ∷ []) (start + length l.makes) empty_page body in
        let inner = one_line_each nodes tys (u ∷ []) (start + length l.makes) empty_page body is_laid.1 in
        omega (arith, sum, sum_body, sum_last, size, here, none, inner)
    node_each start (script.Bound k) is_laid at = absurd (omega (arith, is_laid))
    node_each start (script.At time) is_laid at = refl
    node_each start (script.Steps first steps) is_laid at = refl
    node_each start script.Now is_laid at = refl

    node_each_of_all : (start : ℕ) (fs : Formulas) → AreLaidOut 0 fs → StandsAt all start (laid_each nodes tys start fs).makes
        → weigh (laid_each nodes tys start fs).makes ≡ places_in_all fs
    node_each_of_all start End is_laid at = refl
    node_each_of_all start (More f rest) is_laid at =
        let x = laid nodes tys start f in
        let xs = laid_each nodes tys (start + length x.makes) rest in
        let both = sum_by-append (weight_of all) x.makes xs.makes in
        let parts = at_split all start x.makes xs.makes at in
        let first = node_each start f is_laid.0 parts.0 in
        let others = node_each_of_all (start + length x.makes) rest is_laid.1 parts.1 in
        omega (arith, both, first, others)

  node_each_of_body : (body : Declaration) → IsLaidOutBody body → StandsAt all 0 (laid_body nodes tys 0 body).makes
      → weigh (laid_body nodes tys 0 body).makes ≡ places_of_body body
  node_each_of_body (Variable v) is_laid at = refl
  node_each_of_body (Computed f kept) is_laid at = node_each 0 f is_laid at
  node_each_of_body (After time) is_laid at = refl
  node_each_of_body (script.Every base span) is_laid at = refl
  node_each_of_body (script.Freeze child predicate frozen) is_laid at =
      let under = laid nodes tys 0 child in
      let last = Node (opened.Freeze (formula_ty tys [] child) under.root predicate) in
      let both = sum_by-append (weight_of all) under.makes (last ∷ []) in
      let parts = at_split all 0 under.makes (last ∷ []) at in
      omega (arith, both, node_each 0 child is_laid parts.0)
  node_each_of_body (script.Expert f first links stale) is_laid at = refl
  node_each_of_body (script.Grab bind v is_live) is_laid at = absurd is_laid

pub one_node_each : OneNodeEach
one_node_each nodes tys body is_laid =
    let makes = (laid_body nodes tys 0 body).makes in
    node_each_of_body nodes tys makes body is_laid (at_all makes)
