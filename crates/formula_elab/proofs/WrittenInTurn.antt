-- Formulas of a body written one after the other.
use Rattle.std.proofs.Common.{◌≡◌, ℕ, zero, suc, ◌+◌, ◌<◌, ◌≤◌, ◌^◌, List, [], ◌∷◌, ◌++◌, length, drop, Result, Ok, Err, IfOk, OnOk, arith, ap, sym, subst, ◌∙◌}
use Rattle.std.proofs.lemmas.List.{length-append, append_assoc}
use Rattle.std.proofs.lemmas.List.Sums.{sum_by_push}
use Rattle.formula_lang.specs.declared.command.Formula.{Formula}
use Rattle.inc_value.specs.declared.function.FnRef.{FnRef}
use Rattle.inc_value.specs.declared.node.NodeId.{NodeId}
use Rattle.inc_value.specs.declared.ty.Ty.{Ty}
use Rattle.inc_value.specs.declared.value.Value.{Value as GraphValue}
use Rattle.script_functions.specs.declared.line.Line.TheVariants as line
use Rattle.script_functions.specs.declared.line.Part.{Part}
use Rattle.script_functions.specs.declared.line.Part.TheVariants as part
use Rattle.script_model.specs.Formula as model
use Rattle.script_model.specs.Formula.{binds_in_all, places_in_all}
use Rattle.script_model.specs.Values.{Value}
use Rattle.transfer.specs.Both.{graph_value}
use Rattle.formula_elab.specs.Bodies.{OpenBody, Page, open_size, size_of}
use Rattle.formula_elab.specs.Names.{EveryNameOfAll}
use Rattle.formula_elab.specs.Types.{formula_ty}
use Rattle.formula_elab.specs.Writing.{Written, WrittenEach, body_of, variable, variables, variables_from, with_line, with_named, with_nodes_of, written}
use Rattle.formula_elab.specs.Writing.{written_body, written_each, AreWritten, IsBindAdded, IsWritten, IsWrittenBody}
use Rattle.formula_elab.specs.declared.body.OpenLine.{OpenLine}
use Rattle.formula_elab.specs.declared.body.OpenLine.TheVariants.{Bind, Ready}
use Rattle.formula_elab.specs.declared.plan.Planned.{Planned}
use Rattle.formula_elab.specs.declared.plan.Planned.TheVariants.{Body}
use Rattle.formula_elab.proofs.LaidInTurn.{in_view}

-- ---- sizes

pub line_size : (p : Page) (x : OpenLine) → size_of (with_line p x) ≡ size_of p + open_size x
line_size p x = let e = sum_by_push open_size p.lines x in omega (arith, e)

-- ---- variables

from_push : (k count : ℕ) → variables_from k (suc count) ≡ variables_from k count ++ variable (k + count) ∷ []
from_push k zero = let none : k ≡ k + 0 = omega arith in ap (λ j. variable j ∷ []) none
from_push k (suc count) =
    let there : suc k + count ≡ k + suc count = omega arith in
    ap (λ ps. variable k ∷ ps) (from_push (suc k) count ∙ ap (λ j. variables_from (suc k) count ++ variable j ∷ []) there)

variables_push : (count : ℕ) → variables (count + 1) ≡ variables count ++ variable count ∷ []
variables_push count =
    let one : count + 1 ≡ suc count = omega arith in
    let none : 0 + count ≡ count = omega arith in
    ap variables one ∙ (from_push 0 count ∙ ap (λ j. variables count ++ variable j ∷ []) none)

-- where the next part is pushed, there is one more
pub variables_more : (count : ℕ) (parts parts' : List Part) (p : Part) → parts ≡ variables count → p ≡ variable count
    → parts' ≡ parts ++ p ∷ [] → parts' ≡ variables (count + 1)
variables_more count parts parts' p so_far is pushed = pushed ∙ (ap (λ (ps : List Part). ps ++ p ∷ []) so_far
    ∙ (ap (λ (q : Part). variables count ++ q ∷ []) is ∙ sym (variables_push count)))

-- ---- formulas

-- what is written behind makes and parts that are there
abbrev pub behind : List Planned → List Part → WrittenEach → WrittenEach
behind makes roots rest = record { makes = makes ++ rest.makes; page = rest.page; roots = roots ++ rest.roots }

-- the formulas before the i-th are written behind the old page, and the others can be
pub record AreBeingWritten (nodes : ℕ → NodeId) (tys : ℕ → Ty) (bounds : List Ty) (count : ℕ) (old : List Planned) (p0 : Page)
    (fs : List Formula) (i : ℕ) (makes : List Planned) (p : Page) (roots : List Part) : Type 0 where
  pub more : List Planned
  pub added : makes ≡ old ++ more
  pub whole : written_each nodes tys bounds (length old) p0 (in_view fs)
      ≡ behind more roots (written_each nodes tys bounds (length makes) p (in_view (drop i fs)))
  pub named : EveryNameOfAll (λ n. n < count) (length bounds) (in_view (drop i fs))
  pub few_binds : length bounds + binds_in_all (in_view (drop i fs)) ≤ 64
  pub size : size_of p + places_in_all (in_view (drop i fs)) ≡ size_of p0 + places_in_all (in_view fs)
  pub few : size_of p0 + places_in_all (in_view fs) < 2 ^ 64

module _ (nodes : ℕ → NodeId) (tys : ℕ → Ty) (bounds : List Ty) where
  -- what was written behind so many and a page
  written_at : (f : model.Formula) (old new : List Planned) (p p' : Page) (root : Part) (start : ℕ) (q : Page)
      → IsWritten nodes tys bounds f old new p p' root → length old ≡ start → p ≡ q
      → (new ≡ old ++ (written nodes tys bounds start q f).makes) × (p' ≡ (written nodes tys bounds start q f).page)
      × (root ≡ (written nodes tys bounds start q f).root)
  written_at f old new p p' root start q h e same =
      subst (λ k. (new ≡ old ++ (written nodes tys bounds k q f).makes) × (p' ≡ (written nodes tys bounds k q f).page)
      × (root ≡ (written nodes tys bounds k q f).root)) e
      (subst (λ (y : Page). (new ≡ old ++ (written nodes tys bounds (length old) y f).makes)
      × (p' ≡ (written nodes tys bounds (length old) y f).page) × (root ≡ (written nodes tys bounds (length old) y f).root)) same
      (h.makes, h.page, h.root))

  -- a line behind what was written
  line_root : (p q : Page) → p ≡ q → part.Line (length p.lines + 1) ≡ part.Line (length q.lines + 1)
  line_root p q e = ap (λ (y : Page). part.Line (length y.lines + 1)) e

  module _ (test a b : model.Formula) (m0 m1 m2 m3 : List Planned) (p0 p1 p2 p3 : Page) (r1 r2 r3 : Part)
      (first_written : IsWritten nodes tys bounds test m0 m1 p0 p1 r1) (second_written : IsWritten nodes tys bounds a m1 m2 p1 p2 r2)
      (third_written : IsWritten nodes tys bounds b m2 m3 p2 p3 r3) where
    abbrev first : Written
    first = written nodes tys bounds (length m0) p0 test

    abbrev second : Written
    second = written nodes tys bounds (length m0 + length first.makes) first.page a

    abbrev third : Written
    third = written nodes tys bounds (length m0 + (length first.makes + length second.makes)) second.page b

    size_first : length m1 ≡ length m0 + length first.makes
    size_first = ap length first_written.makes ∙ length-append m0 first.makes

    second_is : (m2 ≡ m1 ++ second.makes) × (p2 ≡ second.page) × (r2 ≡ second.root)
    second_is = written_at a m1 m2 p1 p2 r2 (length m0 + length first.makes) first.page second_written size_first first_written.page

    size_second : length m2 ≡ length m0 + (length first.makes + length second.makes)
    size_second = let size = ap length second_is.0 ∙ length-append m1 second.makes in omega (arith, size, size_first)

    third_is : (m3 ≡ m2 ++ third.makes) × (p3 ≡ third.page) × (r3 ≡ third.root)
    third_is = written_at b m2 m3 p2 p3 r3 (length m0 + (length first.makes + length second.makes)) second.page third_written size_second
        second_is.1

    before_if : m3 ≡ ((m0 ++ first.makes) ++ second.makes) ++ third.makes
    before_if = third_is.0
        ∙ ap (λ (m : List Planned). m ++ third.makes) (second_is.0 ∙ ap (λ (m : List Planned). m ++ second.makes) first_written.makes)

    if_turned : ((m0 ++ first.makes) ++ second.makes) ++ third.makes ≡ m0 ++ (first.makes ++ (second.makes ++ third.makes))
    if_turned = append_assoc (m0 ++ first.makes) second.makes third.makes ∙ append_assoc m0 first.makes (second.makes ++ third.makes)

    if_line : with_line p3 (Ready (line.If r1 r2 r3)) ≡ with_line third.page (Ready (line.If first.root second.root third.root))
    if_line = ap (λ (y : Page). with_line y (Ready (line.If r1 r2 r3))) third_is.1
        ∙ (ap (λ (r : Part). with_line third.page (Ready (line.If r r2 r3))) first_written.root
        ∙ (ap (λ (r : Part). with_line third.page (Ready (line.If first.root r r3))) second_is.2
        ∙ ap (λ (r : Part). with_line third.page (Ready (line.If first.root second.root r))) third_is.2))

    pub if_written : (p4 : Page) (root : Part) → p4 ≡ with_line p3 (Ready (line.If r1 r2 r3)) → root ≡ part.Line (length p3.lines + 1)
        → IsWritten nodes tys bounds (model.If test a b) m0 m3 p0 p4 root
    if_written p4 root page is = record {
      makes = before_if ∙ if_turned;
      page = page ∙ if_line;
      root = is ∙ line_root p3 third.page third_is.1;
      size = omega (arith, ap size_of page, line_size p3 (Ready (line.If r1 r2 r3)), first_written.size, second_written.size, third_written.size);
    }

    -- where the line of the if is added, if there is memory
    pub if_answer : {E : Type 0} (p4 : Page) (r' : Result Part E) → OnOk r' (p4 ≡ with_line p3 (Ready (line.If r1 r2 r3)))
        → IfOk r' (λ x. x ≡ part.Line (length p3.lines + 1)) → IfOk r' (λ x. IsWritten nodes tys bounds (model.If test a b) m0 m3 p0 p4 x)
    if_answer p4 (Ok x) page is = if_written p4 x page is
    if_answer p4 (Err fault) page is = tt

  -- a fold behind its elements
  module _ (f : FnRef) (v : Value) (fs : model.Formulas) (m0 m1 : List Planned) (p0 p1 p2 : Page) (first : GraphValue) (roots : List Part)
      (named : p1 ≡ with_named nodes p0 v) (named_size : size_of p1 ≡ size_of p0) (first_is : first ≡ graph_value nodes v)
      (elements_written : AreWritten nodes tys bounds fs m0 m1 p1 p2 roots) where
    abbrev each : WrittenEach
    each = written_each nodes tys bounds (length m0) (with_named nodes p0 v) fs

    each_is : (m1 ≡ m0 ++ each.makes) × (p2 ≡ each.page) × (roots ≡ each.roots)
    each_is =
        subst (λ (y : Page). (m1 ≡ m0 ++ (written_each nodes tys bounds (length m0) y fs).makes)
        × (p2 ≡ (written_each nodes tys bounds (length m0) y fs).page) × (roots ≡ (written_each nodes tys bounds (length m0) y fs).roots)) named
        (elements_written.makes, elements_written.page, elements_written.roots)

    fold_line : with_line p2 (Ready (line.Fold f first roots)) ≡ with_line each.page (Ready (line.Fold f (graph_value nodes v) each.roots))
    fold_line = ap (λ (y : Page). with_line y (Ready (line.Fold f first roots))) each_is.1
        ∙ (ap (λ (x : GraphValue). with_line each.page (Ready (line.Fold f x roots))) first_is
        ∙ ap (λ (ps : List Part). with_line each.page (Ready (line.Fold f (graph_value nodes v) ps))) each_is.2)

    pub fold_written : (p3 : Page) (root : Part) → p3 ≡ with_line p2 (Ready (line.Fold f first roots)) → root ≡ part.Line (length p2.lines + 1)
        → IsWritten nodes tys bounds (model.Fold f v fs) m0 m1 p0 p3 root
    fold_written p3 root page is = record {
      makes = each_is.0;
      page = page ∙ fold_line;
      root = is ∙ line_root p2 each.page each_is.1;
      size = omega (arith, ap size_of page, line_size p2 (Ready (line.Fold f first roots)), elements_written.size, named_size);
    }

    -- where the line of the fold is added, if there is memory
    pub fold_answer : {E : Type 0} (p3 : Page) (r' : Result Part E) → OnOk r' (p3 ≡ with_line p2 (Ready (line.Fold f first roots)))
        → IfOk r' (λ x. x ≡ part.Line (length p2.lines + 1)) → IfOk r' (λ x. IsWritten nodes tys bounds (model.Fold f v fs) m0 m1 p0 p3 x)
    fold_answer p3 (Ok x) page is = fold_written p3 x page is
    fold_answer p3 (Err fault) page is = tt

  -- a bind behind its left and its function
  module _ (left body : model.Formula) (m0 m1 m2 : List Planned) (p0 p1 : Page) (r : Part) (o : OpenBody)
      (left_written : IsWritten nodes tys bounds left m0 m1 p0 p1 r)
      (body_written : IsWrittenBody nodes tys (formula_ty tys bounds left ∷ bounds) body m1 m2 o) where
    abbrev takes : List Ty
    takes = formula_ty tys bounds left ∷ bounds

    abbrev body_ty : Ty
    body_ty = formula_ty tys takes body

    abbrev under : Written
    under = written nodes tys bounds (length m0) p0 left

    abbrev inner : Written
    inner = written_body nodes tys takes (length m0 + length under.makes) body

    abbrev number : ℕ
    number = length m0 + (length under.makes + length inner.makes)

    size_left : length m1 ≡ length m0 + length under.makes
    size_left = ap length left_written.makes ∙ length-append m0 under.makes

    inner_is : (m2 ≡ m1 ++ inner.makes) × (o ≡ body_of takes body_ty inner)
    inner_is = subst (λ k. (m2 ≡ m1 ++ (written_body nodes tys takes k body).makes) × (o ≡ body_of takes body_ty (written_body nodes tys takes k body)))
        size_left (body_written.makes, body_written.body)

    size_inner : length m2 ≡ number
    size_inner = let size = ap length inner_is.0 ∙ length-append m1 inner.makes in omega (arith, size, size_left)

    page_is : o.page ≡ inner.page
    page_is = ap (λ (x : OpenBody). x.page) inner_is.1

    -- the page with the nodes of the body, and the line of the bind
    abbrev line_of : Part → ℕ → Page → OpenLine
    line_of l k q = Bind l k (size_of q) (variables (length bounds))

    bind_line : with_line (with_nodes_of p1 o.page) (line_of r (length m2) o.page)
        ≡ with_line (with_nodes_of under.page inner.page) (line_of under.root number inner.page)
    bind_line = ap (λ (q : Page). with_line (with_nodes_of p1 q) (line_of r (length m2) q)) page_is
        ∙ (ap (λ (y : Page). with_line (with_nodes_of y inner.page) (line_of r (length m2) inner.page)) left_written.page
        ∙ (ap (λ (l : Part). with_line (with_nodes_of under.page inner.page) (line_of l (length m2) inner.page)) left_written.root
        ∙ ap (λ k. with_line (with_nodes_of under.page inner.page) (line_of under.root k inner.page)) size_inner))

    bind_makes : (m3 : List Planned) → m3 ≡ m2 ++ Body o ∷ [] → m3 ≡ m0 ++ (under.makes ++ (inner.makes ++ Body (body_of takes body_ty inner) ∷ []))
    bind_makes m3 e = e ∙ (ap (λ (x : OpenBody). m2 ++ Body x ∷ []) inner_is.1
        ∙ (ap (λ (m : List Planned). m ++ last) (inner_is.0 ∙ ap (λ (m : List Planned). m ++ inner.makes) left_written.makes)
        ∙ (append_assoc (m0 ++ under.makes) inner.makes last ∙ append_assoc m0 under.makes (inner.makes ++ last))))
      where
        last : List Planned
        last = Body (body_of takes body_ty inner) ∷ []

    bind_written : (m3 : List Planned) (p3 : Page) (root : Part) → IsBindAdded r o (length bounds) m2 m3 p1 p3 root
        → IsWritten nodes tys bounds (model.Bind left body) m0 m3 p0 p3 root
    bind_written m3 p3 root h = record {
      makes = bind_makes m3 h.makes;
      page = h.page ∙ bind_line;
      root = h.root ∙ line_root p1 under.page left_written.page;
      size = omega (arith, h.size, left_written.size, body_written.size);
    }

    -- where the line of the bind is added, if there is memory
    pub bind_answer : {E : Type 0} (m3 : List Planned) (p3 : Page) (r' : Result Part E)
        → IfOk r' (λ x. IsBindAdded r o (length bounds) m2 m3 p1 p3 x)
        → IfOk r' (λ x. IsWritten nodes tys bounds (model.Bind left body) m0 m3 p0 p3 x)
    bind_answer m3 p3 (Ok x) h = bind_written m3 p3 x h
    bind_answer m3 p3 (Err fault) h = tt
