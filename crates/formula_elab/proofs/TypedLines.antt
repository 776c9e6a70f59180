-- The lines of a page are of their types, with what was made.
use Rattle.std.proofs.Common.{◌≡◌, ℕ, zero, suc, ◌+◌, Bool, List, [], ◌∷◌, ◌++◌, length, map, pos, Option, Some, arith, refl, sym, ◌∙◌, ap, subst}
use Rattle.std.proofs.lemmas.List.{append-nil, append_assoc, length-map, map-append}
use Rattle.std.proofs.lemmas.Option.{slice_get_within, get_or_from_slice_get}
use Rattle.std.specs.List.{slice_get}
use Rattle.std.specs.Option.{option_map}
use Rattle.inc_value.specs.Choice.{Every}
use Rattle.inc_value.specs.Sig.{Signature}
use Rattle.inc_value.specs.Ty.{base_of}
use Rattle.inc_terms.specs.Term.{Step}
use Rattle.inc_value.specs.declared.function.FnRef.{FnRef}
use Rattle.inc_value.specs.declared.node.NodeId.{NodeId}
use Rattle.inc_value.specs.declared.ty.Ty.{Ty}
use Rattle.inc_value.specs.declared.ty.Ty.TheVariants as types
use Rattle.node_arena.specs.Listing.{Listed}
use Rattle.node_arena.specs.RightSide.{ValueHas}
use Rattle.script_functions.specs.Lines.{type_in, AreTyped, BindTakes, FoldTakes, IsListedAs, LineHas, PartsHave}
use Rattle.script_functions.specs.declared.line.Line.{Line}
use Rattle.script_functions.specs.declared.line.Line.TheVariants as lines
use Rattle.script_functions.specs.declared.line.Part.{Part}
use Rattle.script_functions.specs.declared.line.Part.TheVariants as part
use Rattle.script_functions.specs.declared.line.TypedLine.{TypedLine}
use Rattle.formula_lang.specs.Fits.{ArgumentsFit, ElementsFit, FormulaFits, StepsFit}
use Rattle.script_model.specs.Check.{Names}
use Rattle.script_model.specs.Formula as script
use Rattle.script_model.specs.Formula.{Formula, Formulas, TimedValue, Literal, Name, Bound, Apply, End, More}
use Rattle.script_model.specs.Values.{Value}
use Rattle.transfer.specs.Both.{graph_value}
use Rattle.transfer.specs.Shows.{graph_step}
use Rattle.formula_elab.specs.Bodies.{empty_page, line_filled, size_of, OpenBody, Page}
use Rattle.formula_elab.specs.Make.{function_made, made_at, no_node}
use Rattle.formula_elab.specs.Opened.{AreMadeAs}
use Rattle.formula_elab.specs.Types.{formula_ty, type_at, AreTypedAsTargets}
use Rattle.formula_elab.specs.Writing.{body_of, variable, variables_from, variables, with_each_named, with_line, with_named, with_nodes_of, written, written_each}
use Rattle.formula_elab.specs.declared.body.OpenLine.{OpenLine}
use Rattle.formula_elab.specs.declared.body.OpenLine.TheVariants.{Ready, Bind}
use Rattle.formula_elab.specs.declared.make.Made.{Made}
use Rattle.formula_elab.specs.declared.make.Made.TheVariants as was
use Rattle.formula_elab.specs.declared.plan.Planned.{Planned}
use Rattle.formula_elab.specs.declared.plan.Planned.TheVariants as planned
use Rattle.formula_elab.proofs.Fitting.{base_is, formula_type, name_type, value_has}
use Rattle.formula_elab.proofs.Grows.{grows, grows_all, grows_each_named, named_each_lines, named_lines}
use Rattle.formula_elab.proofs.Lists.{StandsAt, at_split, Begins, begins_all, begins_more, begins_then, begins_get, get_there}
use Rattle.formula_elab.proofs.MadeAs.{kinds_at}

-- ---- lists of types

abbrev ty_of : TypedLine → Ty
ty_of x = x.ty

abbrev line_of : TypedLine → Line
line_of x = x.line

-- behind the type of the variable those of lines
abbrev pub tys_of : Ty → List TypedLine → List Ty
tys_of first xs = first ∷ map ty_of xs

tys_begin : (first : Ty) (ys xs : List TypedLine) → Begins ys xs → Begins (tys_of first ys) (tys_of first xs)
tys_begin first ys xs h =
    let same : map ty_of ys ≡ map ty_of xs ++ map ty_of h.0 =
    ap (map ty_of) h.1 ∙ map-append ty_of xs h.0 in
    (map ty_of h.0, ap (λ ts. first ∷ ts) same)

-- what is of a type still is where there are more lines
part_more : (listed : List Listed) (captures longer shorter : List Ty) (p : Part) (t : Ty) → Begins longer shorter
    → type_in listed captures shorter p ≡ Some t → type_in listed captures longer p ≡ Some t
part_more listed captures longer shorter (part.Listed i) t h is = is
part_more listed captures longer shorter (part.Captured i) t h is = is
part_more listed captures longer shorter (part.Line i) t h is = begins_get longer shorter i t h is

-- one line more
fit_more : (listed : List Listed) (captures types : List Ty) (xs : List TypedLine) (x : TypedLine) → AreTyped listed captures types xs
    → LineHas listed (type_in listed captures (types ++ map ty_of xs)) x.line x.ty
    → AreTyped listed captures types (xs ++ x ∷ [])
fit_more listed captures types [] x h last =
    (subst (λ ts. LineHas listed (type_in listed captures ts) x.line x.ty) (append-nil types) last, tt)
fit_more listed captures types (y ∷ xs) x h last = (
  h.0,
  fit_more listed captures (types ++ y.ty ∷ []) xs x h.1
      (subst (λ ts. LineHas listed (type_in listed captures ts) x.line x.ty)
      (sym (append_assoc types (y.ty ∷ []) (map ty_of xs))) last),
)

-- ---- pages

-- within binds of these types, the lines are those of the page, and each is of its type
pub record AreLines (made : List Made) (first : Ty) (outer : List Ty) (listed : List Listed) (p : Page) (xs : List TypedLine) : Type 0 where
  pub same : map line_of xs ≡ map (line_filled made) p.lines
  pub fit : AreTyped listed outer (first ∷ []) xs

-- the type of a part behind these lines
abbrev pub type_behind : Ty → List Ty → List Listed → List TypedLine → Part → Option Ty
type_behind first outer listed xs p = type_in listed outer (tys_of first xs) p

-- the page that was written on behind typed lines has typed lines too, and the part is of the type
pub record HasLines (made : List Made) (first : Ty) (outer : List Ty) (listed : List Listed) (before : List TypedLine) (p : Page)
    (root : Part) (ty : Ty) : Type 0 where
  pub all : List TypedLine
  pub begins : Begins all before
  pub are : AreLines made first outer listed p all
  pub typed : type_behind first outer listed all root ≡ Some ty

-- so are the parts
pub record HasLinesEach (made : List Made) (first : Ty) (outer : List Ty) (listed : List Listed) (before : List TypedLine) (p : Page)
    (roots : List Part) (tys : List Ty) : Type 0 where
  pub all : List TypedLine
  pub begins : Begins all before
  pub are : AreLines made first outer listed p all
  pub typed : PartsHave (type_behind first outer listed all) roots tys

-- all of one type
pub record HasLinesOf (made : List Made) (first : Ty) (outer : List Ty) (listed : List Listed) (before : List TypedLine) (p : Page)
    (roots : List Part) (ty : Ty) : Type 0 where
  pub all : List TypedLine
  pub begins : Begins all before
  pub are : AreLines made first outer listed p all
  pub typed : Every (λ r. type_behind first outer listed all r ≡ Some ty) roots

-- the line of the type, with what was made
abbrev typed_as : List Made → OpenLine → Ty → TypedLine
typed_as made line ty = record { line = line_filled made line; ty = ty }

-- where the line is of the type behind those of the page, so is the part that reads it
line_added : (made : List Made) (first : Ty) (outer : List Ty) (listed : List Listed) (before : List TypedLine) (p : Page)
    (xs : List TypedLine) → Begins xs before → AreLines made first outer listed p xs → (line : OpenLine) (ty : Ty)
    → LineHas listed (type_behind first outer listed xs) (line_filled made line) ty
    → HasLines made first outer listed before (with_line p line) (part.Line (length p.lines + 1)) ty
line_added made first outer listed before p xs begins are line ty has = record {
  all = xs ++ typed_as made line ty ∷ [];
  begins = begins_then (xs ++ typed_as made line ty ∷ []) xs before
      (begins_more xs (typed_as made line ty ∷ [])) begins;
  are = record { same = same; fit = fit_more listed outer (first ∷ []) xs (typed_as made line ty) are.fit has };
  typed = root;
}
  where
    same : map line_of (xs ++ typed_as made line ty ∷ []) ≡ map (line_filled made) (p.lines ++ line ∷ [])
    same = map-append line_of xs (typed_as made line ty ∷ [])
        ∙ (ap (λ ls. ls ++ line_filled made line ∷ []) are.same ∙ sym (map-append (line_filled made) p.lines (line ∷ [])))

    size : length p.lines + 1 ≡ suc (length (map ty_of xs))
    size =
        let tys = length-map xs ty_of in
        let all = length-map xs line_of in
        let those = length-map p.lines (line_filled made) in
        let equal = ap length are.same in
        omega (arith, tys, all, those, equal)

    at : slice_get (map ty_of (xs ++ typed_as made line ty ∷ [])) (length (map ty_of xs)) ≡ Some ty
    at = subst (λ ts. slice_get ts (length (map ty_of xs)) ≡ Some ty)
        (sym (map-append ty_of xs (typed_as made line ty ∷ [])))
        (get_there (map ty_of xs) [] ty)

    root : slice_get (first ∷ map ty_of (xs ++ typed_as made line ty ∷ [])) (length p.lines + 1) ≡ Some ty
    root = subst (λ i. slice_get (first ∷ map ty_of (xs ++ typed_as made line ty ∷ [])) i ≡ Some ty) (sym size) at

-- ---- variables

module _ (first : Ty) (outer : List Ty) (listed : List Listed) (xs : List TypedLine) where
  variable_has : (k : ℕ) (t : Ty) → slice_get (first ∷ outer) k ≡ Some t → type_behind first outer listed xs (variable k) ≡ Some t
  variable_has zero t is = is
  variable_has (suc k) t is = is

  variables_have_from : (k : ℕ) (tys : List Ty) → ((j : ℕ) (t : Ty) → slice_get tys j ≡ Some t
      → type_behind first outer listed xs (variable (k + j)) ≡ Some t)
      → PartsHave (type_behind first outer listed xs) (variables_from k (length tys)) tys
  variables_have_from k [] h = tt
  variables_have_from k (t ∷ tys) h =
      let same : k + 0 ≡ k = omega arith in (
        subst (λ i. type_behind first outer listed xs (variable i) ≡ Some t) same (h 0 t refl),
        variables_have_from (suc k) tys (λ j u is. let there : k + suc j ≡ suc k + j = omega arith in
            subst (λ i. type_behind first outer listed xs (variable i) ≡ Some u) there (h (suc j) u is)),
      )

  variables_have : PartsHave (type_behind first outer listed xs) (variables (length (first ∷ outer))) (first ∷ outer)
  variables_have = variables_have_from 0 (first ∷ outer) (λ j t is. let same : j ≡ 0 + j = omega arith in
      subst (λ i. type_behind first outer listed xs (variable i) ≡ Some t) same (variable_has j t is))

-- ---- formulas

module _ (known : FnRef → Bool) (names : Names) (targets : AreTypedAsTargets names) (nodes : ℕ → NodeId) (earlier : List Planned)
    (made : List Made) (kinds : AreMadeAs earlier made) (all_made : length earlier ≡ length made) where
  abbrev tys : ℕ → Ty
  tys n = type_at names n

  -- the function that was made of a body
  bind_has : (first : Ty) (outer : List Ty) (listed : List Listed) (xs : List TypedLine) (o : OpenBody) (number : ℕ)
      → slice_get earlier number ≡ Some (planned.Body o) → (u : Ty) → o.sig.takes ≡ u ∷ first ∷ outer → (root : Part)
      → type_behind first outer listed xs root ≡ Some u → (most : ℕ) (ty : Ty) → o.sig.gives ≡ ty
      → LineHas listed (type_behind first outer listed xs) (line_filled made (Bind root number most (variables (length (first ∷ outer))))) ty
  bind_has first outer listed xs o number at u takes root root_is most ty gives =
      let less = slice_get_within earlier number (planned.Body o) at in
      let there = kinds_at earlier made number (planned.Body o) kinds at (omega (arith, less, all_made)) in
      let is : made_at made number ≡ there.0 = get_or_from_slice_get made number there.0 (was.Node no_node) there.1 in
      let kind = there.2.1 in
      let sig = there.2.2 in
      let captures = variables (length (first ∷ outer)) in
      subst (λ m. LineHas listed (type_behind first outer listed xs) (lines.Bind root (function_made m) most captures) ty) (sym is) record {
        kind = kind;
        takes = subst (λ ts. BindTakes (type_behind first outer listed xs) root (variables (length (first ∷ outer))) ts)
            (sym (ap (λ (s : Signature). s.takes) sig ∙ takes)) (root_is, variables_have first outer listed xs);
        gives = ap (λ (s : Signature). s.gives) sig ∙ gives;
      }

  -- a node that is listed is no line
  named_typed : (first : Ty) (outer : List Ty) (listed : List Listed) (p : Page) (v : Value) (xs : List TypedLine)
      → AreLines made first outer listed p xs → AreLines made first outer listed (with_named nodes p v) xs
  named_typed first outer listed p v xs are = record {
    same = are.same ∙ ap (map (line_filled made)) (sym (named_lines nodes p v));
    fit = are.fit;
  }

  each_named_typed : (first : Ty) (outer : List Ty) (listed : List Listed) (p : Page) (steps : List TimedValue) (xs : List TypedLine)
      → AreLines made first outer listed p xs → AreLines made first outer listed (with_each_named nodes p steps) xs
  each_named_typed first outer listed p steps xs are = record {
    same = are.same ∙ ap (map (line_filled made)) (sym (named_each_lines nodes p steps));
    fit = are.fit;
  }

  -- the values of steps, whose nodes are listed
  steps_have : (p : Page) (steps : List TimedValue) (ty : Ty) (listed : List Listed) → StepsFit names steps ty
      → Begins listed (with_each_named nodes p steps).listed
      → Every (λ (s : Step). ValueHas (IsListedAs listed) s.value ty) (map (graph_step nodes) steps)
  steps_have p [] ty listed fits ids = tt
  steps_have p (s ∷ steps) ty listed fits ids =
      let q = with_named nodes p s.value in
      let ids_q = begins_then listed (with_each_named nodes q steps).listed q.listed ids (grows_each_named nodes q steps).listed in
      (value_has nodes p s.value ty listed fits.0.0 ids_q, steps_have q steps ty listed fits.1 ids)

  mutual
    pub lines_typed : (first : Ty) (outer : List Ty) (start : ℕ) (p : Page) (f : Formula) (ty : Ty)
        → FormulaFits known names (first ∷ outer) f ty
        → StandsAt earlier start (written nodes tys (first ∷ outer) start p f).makes
        → (listed : List Listed) → Begins listed (written nodes tys (first ∷ outer) start p f).page.listed
        → (before : List TypedLine) → AreLines made first outer listed p before
        → HasLines made first outer listed before (written nodes tys (first ∷ outer) start p f).page
        (written nodes tys (first ∷ outer) start p f).root ty
    lines_typed first outer start p (Literal v) ty fits at listed ids before are =
        let q = with_named nodes p v in
        let named = named_typed first outer listed p v before are in
        line_added made first outer listed before q before (begins_all before) named
        (Ready (lines.Const (graph_value nodes v))) ty (value_has nodes p v ty listed fits.0 ids)
    lines_typed first outer start p (Name n) ty fits at listed ids before are =
        let item : Listed = record { node = nodes n; ty = tys n } in
        let stands = begins_get listed (p.listed ++ item ∷ []) (length p.listed) item ids (get_there p.listed [] item) in
        record {
          all = before;
          begins = begins_all before;
          are = record { same = are.same; fit = are.fit };
          typed = ap (option_map (λ (y : Listed). y.ty)) stands ∙ ap (λ t. Some t) (name_type names n ty targets fits);
        }
    lines_typed first outer start p (Bound k) ty fits at listed ids before are = record {
      all = before;
      begins = begins_all before;
      are = are;
      typed = variable_has first outer listed before k ty fits;
    }
    lines_typed first outer start p (Apply f arguments) ty fits at listed ids before are =
        let ws = written_each nodes tys (first ∷ outer) start p arguments in
        let each = arguments_typed first outer start p arguments f.sig.takes fits.1 at listed ids before are in
        line_added made first outer listed before ws.page each.all each.begins each.are (Ready (lines.Map f ws.roots)) ty
        record { kind = fits.0.kind; takes = each.typed; gives = fits.2 }
    lines_typed first outer start p (script.Fold f v elements) ty fits at listed ids before are =
        let q = with_named nodes p v in
        let ws = written_each nodes tys (first ∷ outer) start q elements in
        let named = named_typed first outer listed p v before are in
        let each = elements_typed first outer start q elements fits.0 fits.5 at listed ids before named in
        let ids_q = begins_then listed ws.page.listed q.listed ids (grows_all nodes tys (first ∷ outer) start q elements).listed in
        line_added made first outer listed before ws.page each.all each.begins each.are (Ready (lines.Fold f (graph_value nodes v) ws.roots)) ty
        record {
          kind = fits.1.kind;
          takes = subst (λ ts. FoldTakes (type_behind first outer listed each.all) ty ws.roots ts) (sym fits.2.0) (refl, each.typed);
          gives = fits.2.1;
          initial = value_has nodes p v ty listed fits.3 ids_q;
        }
    lines_typed first outer start p (script.If test a b) ty fits at listed ids before are =
        let t = written nodes tys (first ∷ outer) start p test in
        let y = written nodes tys (first ∷ outer) (start + length t.makes) t.page a in
        let z = written nodes tys (first ∷ outer) (start + (length t.makes + length y.makes)) y.page b in
        let one = at_split earlier start t.makes (y.makes ++ z.makes) at in
        let two = at_split earlier (start + length t.makes) y.makes z.makes one.1 in
        let there : start + length t.makes + length y.makes ≡ start + (length t.makes + length y.makes) = omega arith in
        let grows_z = grows nodes tys (first ∷ outer) (start + (length t.makes + length y.makes)) y.page b in
        let grows_y = grows nodes tys (first ∷ outer) (start + length t.makes) t.page a in
        let ids_y = begins_then listed z.page.listed y.page.listed ids grows_z.listed in
        let ids_t = begins_then listed y.page.listed t.page.listed ids_y grows_y.listed in
        let tests = lines_typed first outer start p test types.Bool fits.0 one.0 listed ids_t before are in
        let lefts = lines_typed first outer (start + length t.makes) t.page a ty fits.1 two.0 listed ids_y tests.all tests.are in
        let rights = lines_typed first outer (start + (length t.makes + length y.makes)) y.page b ty fits.2
        (subst (λ i. StandsAt earlier i z.makes) there two.1) listed ids lefts.all lefts.are in
        let right_left = tys_begin first rights.all lefts.all rights.begins in
        let left_test = tys_begin first lefts.all tests.all lefts.begins in
        let right_test = begins_then (tys_of first rights.all) (tys_of first lefts.all) (tys_of first tests.all) right_left left_test in
        line_added made first outer listed before z.page rights.all
        (begins_then rights.all lefts.all before rights.begins (begins_then lefts.all tests.all before lefts.begins tests.begins)) rights.are
        (Ready (lines.If t.root y.root z.root)) ty (
          part_more listed outer (tys_of first rights.all) (tys_of first tests.all) t.root types.Bool right_test tests.typed,
          part_more listed outer (tys_of first rights.all) (tys_of first lefts.all) y.root ty right_left lefts.typed,
          rights.typed,
        )
    lines_typed first outer start p (script.Join child) ty fits at listed ids before are =
        let c = written nodes tys (first ∷ outer) start p child in
        let under = lines_typed first outer start p child (types.Node fits.0) fits.1 at listed ids before are in
        line_added made first outer listed before c.page under.all under.begins under.are (Ready (lines.Join c.root)) ty
        (fits.0, subst (λ t. base_of t ≡ Some fits.0) fits.2 (base_is fits.0), under.typed)
    lines_typed first outer start p (script.Bind left body) ty fits at listed ids before are =
        let bounds = first ∷ outer in
        let u = formula_ty tys bounds left in
        let l = written nodes tys bounds start p left in
        let i = written nodes tys (u ∷ bounds) (start + length l.makes) empty_page body in
        let o = body_of (u ∷ bounds) (formula_ty tys (u ∷ bounds) body) i in
        let number = start + (length l.makes + length i.makes) in
        let one = at_split earlier start l.makes (i.makes ++ planned.Body o ∷ []) at in
        let two = at_split earlier (start + length l.makes) i.makes (planned.Body o ∷ []) one.1 in
        let there : start + length l.makes + length i.makes ≡ number = omega arith in
        let ids_l = begins_then listed (l.page.listed ++ i.page.listed) l.page.listed ids (begins_more l.page.listed i.page.listed) in
        let lefts = lines_typed first outer start p left fits.0 fits.1 one.0 listed ids_l before are in
        let left_is : type_behind first outer listed lefts.all l.root ≡ Some u =
        lefts.typed ∙ ap (λ t. Some t) (sym (formula_type known names targets bounds left fits.0 fits.1)) in
        line_added made first outer listed before (with_nodes_of l.page i.page) lefts.all lefts.begins
        (record { same = lefts.are.same; fit = lefts.are.fit })
        (Bind l.root number (size_of i.page) (variables (length bounds))) ty
        (bind_has first outer listed lefts.all o number (subst (λ j. slice_get earlier j ≡ Some (planned.Body o)) there two.1.0) u refl l.root left_is
        (size_of i.page) ty (formula_type known names targets bounds (script.Bind left body) ty fits))
    lines_typed first outer start p (script.At time) ty fits at listed ids before are =
        line_added made first outer listed before p before (begins_all before) are (Ready (lines.At (pos time))) ty (sym fits)
    lines_typed first outer start p (script.Steps v steps) ty fits at listed ids before are =
        let q = with_named nodes p v in
        let r = with_each_named nodes q steps in
        let ids_q = begins_then listed r.listed q.listed ids (grows_each_named nodes q steps).listed in
        let named = each_named_typed first outer listed q steps before (named_typed first outer listed p v before are) in
        line_added made first outer listed before r before (begins_all before) named
        (Ready (lines.Steps (graph_value nodes v) (map (graph_step nodes) steps))) ty
        (value_has nodes p v ty listed fits.0.0 ids_q, steps_have q steps ty listed fits.1 ids)
    lines_typed first outer start p script.Now ty fits at listed ids before are =
        line_added made first outer listed before p before (begins_all before) are (Ready lines.Now) ty (sym fits)

    arguments_typed : (first : Ty) (outer : List Ty) (start : ℕ) (p : Page) (fs : Formulas) (takes : List Ty)
        → ArgumentsFit known names (first ∷ outer) fs takes
        → StandsAt earlier start (written_each nodes tys (first ∷ outer) start p fs).makes
        → (listed : List Listed) → Begins listed (written_each nodes tys (first ∷ outer) start p fs).page.listed
        → (before : List TypedLine) → AreLines made first outer listed p before
        → HasLinesEach made first outer listed before (written_each nodes tys (first ∷ outer) start p fs).page
        (written_each nodes tys (first ∷ outer) start p fs).roots takes
    arguments_typed first outer start p End [] fits at listed ids before are =
        record { all = before; begins = begins_all before; are = are; typed = tt }
    arguments_typed first outer start p End (t ∷ ts) fits at listed ids before are = absurd fits
    arguments_typed first outer start p (More f rest) [] fits at listed ids before are = absurd fits
    arguments_typed first outer start p (More f rest) (t ∷ ts) fits at listed ids before are =
        let w = written nodes tys (first ∷ outer) start p f in
        let ws = written_each nodes tys (first ∷ outer) (start + length w.makes) w.page rest in
        let parts = at_split earlier start w.makes ws.makes at in
        let ids_w = begins_then listed ws.page.listed w.page.listed ids (grows_all nodes tys (first ∷ outer) (start + length w.makes) w.page rest).listed in
        let one = lines_typed first outer start p f t fits.0 parts.0 listed ids_w before are in
        let others = arguments_typed first outer (start + length w.makes) w.page rest ts fits.1 parts.1 listed ids one.all one.are in
        let longer = tys_begin first others.all one.all others.begins in
        record {
          all = others.all;
          begins = begins_then others.all one.all before others.begins one.begins;
          are = others.are;
          typed = (part_more listed outer (tys_of first others.all) (tys_of first one.all) w.root t longer one.typed, others.typed);
        }

    elements_typed : (first : Ty) (outer : List Ty) (start : ℕ) (p : Page) (fs : Formulas) (t : Ty)
        → ElementsFit known names (first ∷ outer) fs t
        → StandsAt earlier start (written_each nodes tys (first ∷ outer) start p fs).makes
        → (listed : List Listed) → Begins listed (written_each nodes tys (first ∷ outer) start p fs).page.listed
        → (before : List TypedLine) → AreLines made first outer listed p before
        → HasLinesOf made first outer listed before (written_each nodes tys (first ∷ outer) start p fs).page
        (written_each nodes tys (first ∷ outer) start p fs).roots t
    elements_typed first outer start p End t fits at listed ids before are =
        record { all = before; begins = begins_all before; are = are; typed = tt }
    elements_typed first outer start p (More f rest) t fits at listed ids before are =
        let w = written nodes tys (first ∷ outer) start p f in
        let ws = written_each nodes tys (first ∷ outer) (start + length w.makes) w.page rest in
        let parts = at_split earlier start w.makes ws.makes at in
        let ids_w = begins_then listed ws.page.listed w.page.listed ids (grows_all nodes tys (first ∷ outer) (start + length w.makes) w.page rest).listed in
        let one = lines_typed first outer start p f t fits.0 parts.0 listed ids_w before are in
        let others = elements_typed first outer (start + length w.makes) w.page rest t fits.1 parts.1 listed ids one.all one.are in
        let longer = tys_begin first others.all one.all others.begins in
        record {
          all = others.all;
          begins = begins_then others.all one.all before others.begins one.begins;
          are = others.are;
          typed = (part_more listed outer (tys_of first others.all) (tys_of first one.all) w.root t longer one.typed, others.typed);
        }
