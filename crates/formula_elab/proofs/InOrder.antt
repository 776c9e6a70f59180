-- What is laid out needs only nodes and functions that are made before it.
use Rattle.std.proofs.Common.{◌≡◌, ℕ, suc, ◌+◌, List, [], ◌∷◌, ◌++◌, length, map, pos, All, Some, arith, refl, subst, sym, ◌∙◌}
use Rattle.std.proofs.lemmas.List.{append_assoc, length-append}
use Rattle.std.proofs.lemmas.List.Elements.{All-nil, All-cons}
use Rattle.std.specs.List.{slice_get}
use Rattle.inc_value.specs.Choice.{Every}
use Rattle.inc_value.specs.declared.node.NodeId.{NodeId}
use Rattle.inc_value.specs.declared.ty.Ty.{Ty}
use Rattle.script_functions.specs.declared.line.Line.{Line}
use Rattle.script_functions.specs.declared.line.Line.TheVariants as lines
use Rattle.script_model.specs.Formula as script
use Rattle.script_model.specs.Formula.{Formula, Formulas, Literal, Apply, End, More, Variable, Computed, After}
use Rattle.transfer.specs.Both.{graph_value}
use Rattle.transfer.specs.Shows.{graph_step}
use Rattle.formula_elab.specs.Bodies.{Page, empty_page, size_of}
use Rattle.formula_elab.specs.Laying.{laid, laid_each, laid_body}
use Rattle.formula_elab.specs.Made.{LaidInOrder}
use Rattle.formula_elab.specs.Opened.{IsEarlier, LineNeedsEarlier, NodeNeedsEarlier, AreInOrder}
use Rattle.formula_elab.specs.Types.{formula_ty, joined_ty}
use Rattle.formula_elab.specs.Writing.{body_of, variables, with_each_named, with_named, written, written_body, written_each}
use Rattle.formula_elab.specs.declared.body.OpenLine.TheVariants as open_line
use Rattle.formula_elab.specs.declared.opened.Open.{Open}
use Rattle.formula_elab.specs.declared.opened.Open.TheVariants as opened
use Rattle.formula_elab.specs.declared.opened.Open.TheVariants.{Const, Var, Map, Fold, If, Join, Bind}
use Rattle.formula_elab.specs.declared.opened.Part.TheVariants.{Made}
use Rattle.formula_elab.specs.declared.plan.Planned.{Planned}
use Rattle.formula_elab.specs.declared.plan.Planned.TheVariants.{Body, Node}
use Rattle.formula_elab.proofs.Grows.{named_lines, named_each_lines}
use Rattle.formula_elab.proofs.Lists.{every_more, get_there, get_next, get_behind}
use Rattle.formula_elab.proofs.Order.{order_append, earlier_more, lines_more}

-- behind more of what is made
pub size_behind : (earlier xs : List Planned) (start : ℕ) → length earlier ≡ start → length (earlier ++ xs) ≡ start + length xs
size_behind earlier xs start size = let e = length-append earlier xs in omega (arith, e, size)

-- ---- bodies

-- the functions that are made are in order, and the page's lines need no others
abbrev AreWritten : List Planned → List Planned → Page → Type 0
AreWritten earlier makes page = AreInOrder earlier makes × Every (LineNeedsEarlier (earlier ++ makes)) page.lines

-- one more line that is ready
ready_more : (earlier : List Planned) (p : Page) (line : Line) → Every (LineNeedsEarlier earlier) p.lines
    → Every (LineNeedsEarlier earlier) (p.lines ++ open_line.Ready line ∷ [])
ready_more earlier p line h = every_more (LineNeedsEarlier earlier) p.lines (open_line.Ready line) h tt

module _ (nodes : ℕ → NodeId) (tys : ℕ → Ty) where
  mutual
    written_in_order : (earlier : List Planned) (bounds : List Ty) (start : ℕ) (p : Page) (f : Formula) → length earlier ≡ start
        → Every (LineNeedsEarlier earlier) p.lines
        → AreWritten earlier (written nodes tys bounds start p f).makes (written nodes tys bounds start p f).page
    written_in_order earlier bounds start p (Literal v) size h =
        let named = subst (λ xs. Every (LineNeedsEarlier earlier) xs) (sym (named_lines nodes p v)) h in
        let all = lines_more earlier [] (with_named nodes p v).lines named in
        (tt, ready_more (earlier ++ []) (with_named nodes p v) (lines.Const (graph_value nodes v)) all)
    written_in_order earlier bounds start p (Apply f arguments) size h =
        let ws = written_each nodes tys bounds start p arguments in
        let each = all_written_in_order earlier bounds start p arguments size h in
        (each.0, ready_more (earlier ++ ws.makes) ws.page (lines.Map f ws.roots) each.1)
    written_in_order earlier bounds start p (script.Fold f first elements) size h =
        let q = with_named nodes p first in
        let ws = written_each nodes tys bounds start q elements in
        let named = subst (λ xs. Every (LineNeedsEarlier earlier) xs) (sym (named_lines nodes p first)) h in
        let each = all_written_in_order earlier bounds start q elements size named in
        (each.0, ready_more (earlier ++ ws.makes) ws.page (lines.Fold f (graph_value nodes first) ws.roots) each.1)
    written_in_order earlier bounds start p (script.If test a b) size h =
        let t = written nodes tys bounds start p test in
        let x = written nodes tys bounds (start + length t.makes) t.page a in
        let y = written nodes tys bounds (start + (length t.makes + length x.makes)) x.page b in
        let before = earlier ++ t.makes in
        let first = written_in_order earlier bounds start p test size h in
        let size_t = size_behind earlier t.makes start size in
        let second = written_in_order before bounds (start + length t.makes) t.page a size_t first.1 in
        let size_x : length (before ++ x.makes) ≡ start + (length t.makes + length x.makes) =
        (let e = size_behind before x.makes (start + length t.makes) size_t in omega (arith, e)) in
        let third = written_in_order (before ++ x.makes) bounds (start + (length t.makes + length x.makes)) x.page b size_x second.1 in
        let there : (before ++ x.makes) ++ y.makes ≡ earlier ++ (t.makes ++ (x.makes ++ y.makes)) =
        append_assoc before x.makes y.makes ∙ append_assoc earlier t.makes (x.makes ++ y.makes) in
        let all = subst (λ e. Every (LineNeedsEarlier e) y.page.lines) there third.1 in (
          order_append earlier t.makes (x.makes ++ y.makes) first.0 (order_append before x.makes y.makes second.0 third.0),
          ready_more (earlier ++ (t.makes ++ (x.makes ++ y.makes))) y.page (lines.If t.root x.root y.root) all,
        )
    written_in_order earlier bounds start p (script.Join child) size h =
        let c = written nodes tys bounds start p child in
        let under = written_in_order earlier bounds start p child size h in
        (under.0, ready_more (earlier ++ c.makes) c.page (lines.Join c.root) under.1)
    written_in_order earlier bounds start p (script.Bind left body) size h =
        let u = formula_ty tys bounds left in
        let l = written nodes tys bounds start p left in
        let i = written nodes tys (u ∷ bounds) (start + length l.makes) empty_page body in
        let o = body_of (u ∷ bounds) (formula_ty tys (u ∷ bounds) body) i in
        let number = start + (length l.makes + length i.makes) in
        let line = open_line.Bind l.root number (size_of i.page) (variables (length bounds)) in
        let before = earlier ++ l.makes in
        let makes = l.makes ++ (i.makes ++ Body o ∷ []) in
        let first = written_in_order earlier bounds start p left size h in
        let size_l = size_behind earlier l.makes start size in
        let inner = written_in_order before (u ∷ bounds) (start + length l.makes) empty_page body size_l tt in
        let there : before ++ (i.makes ++ Body o ∷ []) ≡ earlier ++ makes = append_assoc earlier l.makes (i.makes ++ Body o ∷ []) in
        let old = subst (λ e. Every (LineNeedsEarlier e) l.page.lines) there (lines_more before (i.makes ++ Body o ∷ []) l.page.lines first.1) in
        let at : slice_get (i.makes ++ Body o ∷ []) (length i.makes) ≡ Some (Body o) = get_there i.makes [] (Body o) in
        let behind = get_behind l.makes (i.makes ++ Body o ∷ []) (length i.makes) (length l.makes) (Body o) refl at in
        let last = get_behind earlier makes (length l.makes + length i.makes) start (Body o) size behind in (
          order_append earlier l.makes (i.makes ++ Body o ∷ []) first.0 (order_append before i.makes (Body o ∷ []) inner.0 (inner.1, tt)),
          every_more (LineNeedsEarlier (earlier ++ makes)) l.page.lines line old (o, last),
        )
    written_in_order earlier bounds start p (script.At time) size h =
        (tt, ready_more (earlier ++ []) p (lines.At (pos time)) (lines_more earlier [] p.lines h))
    written_in_order earlier bounds start p (script.Steps first steps) size h =
        let q = with_named nodes p first in
        let r = with_each_named nodes q steps in
        let named = subst (λ xs. Every (LineNeedsEarlier earlier) xs) (sym (named_each_lines nodes q steps ∙ named_lines nodes p first)) h in
        let line = lines.Steps (graph_value nodes first) (map (graph_step nodes) steps) in
        (tt, ready_more (earlier ++ []) r line (lines_more earlier [] r.lines named))
    written_in_order earlier bounds start p script.Now size h =
        (tt, ready_more (earlier ++ []) p lines.Now (lines_more earlier [] p.lines h))
    written_in_order earlier bounds start p f size h = (tt, lines_more earlier [] p.lines h)

    all_written_in_order : (earlier : List Planned) (bounds : List Ty) (start : ℕ) (p : Page) (fs : Formulas) → length earlier ≡ start
        → Every (LineNeedsEarlier earlier) p.lines
        → AreWritten earlier (written_each nodes tys bounds start p fs).makes (written_each nodes tys bounds start p fs).page
    all_written_in_order earlier bounds start p End size h = (tt, lines_more earlier [] p.lines h)
    all_written_in_order earlier bounds start p (More f rest) size h =
        let w = written nodes tys bounds start p f in
        let ws = written_each nodes tys bounds (start + length w.makes) w.page rest in
        let first = written_in_order earlier bounds start p f size h in
        let size_w = size_behind earlier w.makes start size in
        let others = all_written_in_order (earlier ++ w.makes) bounds (start + length w.makes) w.page rest size_w first.1 in (
          order_append earlier w.makes ws.makes first.0 others.0,
          subst (λ e. Every (LineNeedsEarlier e) ws.page.lines) (append_assoc earlier w.makes ws.makes) others.1,
        )

-- ---- formulas

-- the last of what is made
root_is : (earlier xs : List Planned) (x : Open) (start : ℕ) → length earlier ≡ start
    → IsEarlier (earlier ++ (xs ++ Node x ∷ [])) (Made (start + length xs))
root_is earlier xs x start size = (x, get_behind earlier (xs ++ Node x ∷ []) (length xs) start (Node x) size (get_there xs [] (Node x)))

-- one that needs none before it
alone : (earlier : List Planned) (start : ℕ) (x : Open) → NodeNeedsEarlier earlier x → length earlier ≡ start
    → AreInOrder earlier (Node x ∷ []) × IsEarlier (earlier ++ Node x ∷ []) (Made start)
alone earlier start x needs size =
    ((needs, tt), (x, subst (λ i. slice_get (earlier ++ Node x ∷ []) i ≡ Some (Node x)) size (get_there earlier [] (Node x))))

module _ (nodes : ℕ → NodeId) (tys : ℕ → Ty) where
  mutual
    formula_in_order : (earlier : List Planned) (start : ℕ) (f : Formula) → length earlier ≡ start
        → AreInOrder earlier (laid nodes tys start f).makes
        × IsEarlier (earlier ++ (laid nodes tys start f).makes) (laid nodes tys start f).root
    formula_in_order earlier start (Literal v) size = alone earlier start (Const (graph_value nodes v)) tt size
    formula_in_order earlier start (Apply function arguments) size =
        let each = laid_each nodes tys start arguments in
        let parts = formulas_in_order earlier start arguments size in
        let last = Map function each.roots in
        (order_append earlier each.makes (Node last ∷ []) parts.0 (parts.1, tt), root_is earlier each.makes last start size)
    formula_in_order earlier start (script.Fold function first elements) size =
        let each = laid_each nodes tys start elements in
        let parts = formulas_in_order earlier start elements size in
        let last = Fold function (graph_value nodes first) each.roots in
        (order_append earlier each.makes (Node last ∷ []) parts.0 (parts.1, tt), root_is earlier each.makes last start size)
    formula_in_order earlier start (script.If test a b) size =
        let x = laid nodes tys start test in
        let y = laid nodes tys (start + length x.makes) a in
        let z = laid nodes tys (start + (length x.makes + length y.makes)) b in
        let whole = If (formula_ty tys [] a) x.root y.root z.root in
        let behind_x = earlier ++ x.makes in
        let behind_y = behind_x ++ y.makes in
        let first = formula_in_order earlier start test size in
        let size_x = size_behind earlier x.makes start size in
        let second = formula_in_order behind_x (start + length x.makes) a size_x in
        let size_y : length behind_y ≡ start + (length x.makes + length y.makes) =
        (let e = size_behind behind_x y.makes (start + length x.makes) size_x in omega (arith, e)) in
        let third = formula_in_order behind_y (start + (length x.makes + length y.makes)) b size_y in
        let test_there = earlier_more behind_y z.makes x.root (earlier_more behind_x y.makes x.root first.1) in
        let a_there = earlier_more behind_y z.makes y.root second.1 in
        let at = get_behind y.makes (z.makes ++ Node whole ∷ []) (length z.makes) (length y.makes) (Node whole) refl (get_there z.makes [] (Node whole)) in
        let at_x = get_behind x.makes (y.makes ++ (z.makes ++ Node whole ∷ [])) (length y.makes + length z.makes) (length x.makes) (Node whole) refl at in
        let last = get_behind earlier (x.makes ++ (y.makes ++ (z.makes ++ Node whole ∷ []))) (length x.makes + (length y.makes + length z.makes)) start
        (Node whole) size at_x in (
          order_append earlier x.makes (y.makes ++ (z.makes ++ Node whole ∷ [])) first.0
              (order_append behind_x y.makes (z.makes ++ Node whole ∷ []) second.0
              (order_append behind_y z.makes (Node whole ∷ []) third.0 ((test_there, a_there, third.1), tt))),
          (whole, last),
        )
    formula_in_order earlier start (script.Join child) size =
        let under = laid nodes tys start child in
        let here = formula_in_order earlier start child size in
        let last = Join (joined_ty (formula_ty tys [] child)) under.root in
        (order_append earlier under.makes (Node last ∷ []) here.0 (here.1, tt), root_is earlier under.makes last start size)
    formula_in_order earlier start (script.Bind left body) size =
        let u = formula_ty tys [] left in
        let ty = formula_ty tys (u ∷ []) body in
        let l = laid nodes tys start left in
        let w = written_body nodes tys (u ∷ []) (start + length l.makes) body in
        let o = body_of (u ∷ []) ty w in
        let number = start + (length l.makes + length w.makes) in
        let whole = Bind ty l.root number in
        let behind_l = earlier ++ l.makes in
        let behind_w = behind_l ++ w.makes in
        let first = formula_in_order earlier start left size in
        let size_l = size_behind earlier l.makes start size in
        let second = written_in_order nodes tys behind_l (u ∷ []) (start + length l.makes) empty_page body size_l tt in
        let size_w : length behind_w ≡ number =
        (let e = size_behind behind_l w.makes (start + length l.makes) size_l in omega (arith, e)) in
        let left_there = earlier_more behind_w (Body o ∷ []) l.root (earlier_more behind_l w.makes l.root first.1) in
        let body_there = subst (λ i. slice_get (behind_w ++ Body o ∷ []) i ≡ Some (Body o)) size_w (get_there behind_w [] (Body o)) in
        let tail = w.makes ++ Body o ∷ Node whole ∷ [] in
        let at = get_behind l.makes tail (suc (length w.makes)) (length l.makes) (Node whole) refl (get_next w.makes [] (Body o) (Node whole)) in
        let last = get_behind earlier (l.makes ++ tail) (length l.makes + suc (length w.makes)) start (Node whole) size at in
        let there : start + (length l.makes + suc (length w.makes)) ≡ number + 1 = omega arith in (
          order_append earlier l.makes tail first.0
              (order_append behind_l w.makes (Body o ∷ Node whole ∷ []) second.0 (second.1, ((left_there, (o, body_there)), tt))),
          (whole, subst (λ i. slice_get (earlier ++ (l.makes ++ tail)) i ≡ Some (Node whole)) there last),
        )
    formula_in_order earlier start (script.At time) size = alone earlier start (opened.At (pos time)) tt size
    formula_in_order earlier start (script.Steps first steps) size =
        alone earlier start (opened.Steps (graph_value nodes first) (map (graph_step nodes) steps)) tt size
    formula_in_order earlier start script.Now size = alone earlier start opened.Now tt size
    formula_in_order earlier start f size = (tt, tt)

    formulas_in_order : (earlier : List Planned) (start : ℕ) (fs : Formulas) → length earlier ≡ start
        → AreInOrder earlier (laid_each nodes tys start fs).makes
        × All (IsEarlier (earlier ++ (laid_each nodes tys start fs).makes)) (laid_each nodes tys start fs).roots
    formulas_in_order earlier start End size = (tt, All-nil (IsEarlier (earlier ++ [])))
    formulas_in_order earlier start (More f rest) size =
        let first = laid nodes tys start f in
        let next = start + length first.makes in
        let others = laid_each nodes tys next rest in
        let here = formula_in_order earlier start f size in
        let later = formulas_in_order (earlier ++ first.makes) next rest (size_behind earlier first.makes start size) in
        let same = append_assoc earlier first.makes others.makes in
        let root = subst (λ e. IsEarlier e first.root) same (earlier_more (earlier ++ first.makes) others.makes first.root here.1) in
        let roots = subst (λ e. All (IsEarlier e) others.roots) same later.1 in (
          order_append earlier first.makes others.makes here.0 later.0,
          All-cons (IsEarlier (earlier ++ (first.makes ++ others.makes))) first.root others.roots root roots,
        )

  pub body_in_order : (body : script.Body)
      → AreInOrder [] (laid_body nodes tys 0 body).makes × IsEarlier (laid_body nodes tys 0 body).makes (laid_body nodes tys 0 body).root
  body_in_order (Variable v) = ((tt, tt), (Var (graph_value nodes v), refl))
  body_in_order (Computed f kept) = formula_in_order [] 0 f refl
  body_in_order (After time) = ((tt, tt), (opened.At (pos time), refl))
  body_in_order (script.Every base span) = ((tt, tt), (opened.Every (pos base) span, refl))
  body_in_order (script.Freeze child predicate frozen) =
      let under = laid nodes tys 0 child in
      let here = formula_in_order [] 0 child refl in
      let last = opened.Freeze (formula_ty tys [] child) under.root predicate in
      (order_append [] under.makes (Node last ∷ []) here.0 (here.1, tt), root_is [] under.makes last 0 refl)
  body_in_order (script.Expert f first links stale) = ((tt, tt), (opened.Expert f (graph_value nodes first), refl))
  body_in_order (script.Grab bind v is_live) = (tt, tt)

pub laid_in_order : LaidInOrder
laid_in_order nodes tys body is_laid = (body_in_order nodes tys body).0
