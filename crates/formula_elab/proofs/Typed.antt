-- Bodies that are laid out have lines and roots of their types.
use Rattle.std.proofs.Common.{◌≡◌, ℕ, zero, suc, ◌+◌, Bool, List, [], ◌∷◌, ◌++◌, length, pos, take, Some, arith, refl, sym, ◌∙◌, ap, subst}
use Rattle.std.proofs.lemmas.List.{append-nil, append_assoc}
use Rattle.std.specs.List.{slice_get}
use Rattle.inc_value.specs.declared.function.FnRef.{FnRef}
use Rattle.inc_value.specs.declared.node.NodeId.{NodeId}
use Rattle.inc_value.specs.declared.ty.Ty.{Ty}
use Rattle.inc_value.specs.declared.ty.Ty.TheVariants as types
use Rattle.formula_lang.specs.Fits.{ArgumentsFit, BodyFits, ElementsFit, FormulaFits}
use Rattle.script_model.specs.Check.{Names}
use Rattle.script_model.specs.Formula as script
use Rattle.script_model.specs.Formula.{Formula, Formulas, Literal, Apply, End, More, Variable, Computed, After}
use Rattle.transfer.specs.Both.{graph_value}
use Rattle.formula_elab.specs.Bodies.{empty_page, Page}
use Rattle.formula_elab.specs.Laying.{laid, laid_each, laid_body}
use Rattle.formula_elab.specs.Made.{LaidTyped}
use Rattle.formula_elab.specs.Opened.{AreTyped, IsTyped, IsTypedIn}
use Rattle.formula_elab.specs.Types.{formula_ty, joined_ty, type_at, AreTypedAsTargets}
use Rattle.formula_elab.specs.Writing.{body_of, with_named, written, written_body, written_each}
use Rattle.formula_elab.specs.declared.opened.Open.TheVariants as opened
use Rattle.formula_elab.specs.declared.opened.Open.TheVariants.{Var, Map, Fold, If, Join, Bind}
use Rattle.formula_elab.specs.declared.plan.Planned.{Planned}
use Rattle.formula_elab.specs.declared.plan.Planned.TheVariants.{Body, Node}
use Rattle.formula_elab.proofs.Fitting.{formula_type}
use Rattle.formula_elab.proofs.InOrder.{size_behind}
use Rattle.formula_elab.proofs.Lists.{StandsAt, at_end, begins_all}
use Rattle.formula_elab.proofs.MadeAs.{kinds_within}
use Rattle.formula_elab.proofs.TypedLines.{lines_typed, AreLines}

-- ---- what is made, one behind the other

-- behind these, each has lines of its types, if it is a body
abbrev AreTypedBehind : List Planned → List Planned → Type 0
AreTypedBehind earlier [] = Unit {0}
AreTypedBehind earlier (x ∷ xs) = IsTypedIn earlier x × AreTypedBehind (earlier ++ x ∷ []) xs

typed_append : (earlier xs ys : List Planned) → AreTypedBehind earlier xs → AreTypedBehind (earlier ++ xs) ys
    → AreTypedBehind earlier (xs ++ ys)
typed_append earlier [] ys first rest = subst (λ e. AreTypedBehind e ys) (append-nil earlier) rest
typed_append earlier (x ∷ xs) ys first rest = (
  first.0,
  typed_append (earlier ++ x ∷ []) xs ys first.1
      (subst (λ e. AreTypedBehind e ys) (sym (append_assoc earlier (x ∷ []) xs)) rest),
)

typed_at : (earlier xs : List Planned) (i : ℕ) (x : Planned) → AreTypedBehind earlier xs → slice_get xs i ≡ Some x
    → IsTypedIn (earlier ++ take i xs) x
typed_at earlier [] i x typed at = absurd cc
typed_at earlier (y ∷ xs) zero x typed at =
    let same : y ≡ x = cc in
    subst (λ e. IsTypedIn e x) (sym (append-nil earlier)) (subst (λ z. IsTypedIn earlier z) same typed.0)
typed_at earlier (y ∷ xs) (suc i) x typed at =
    subst (λ e. IsTypedIn e x) (append_assoc earlier (y ∷ []) (take i xs)) (typed_at (earlier ++ y ∷ []) xs i x typed.1 at)

all_typed : (xs : List Planned) → AreTypedBehind [] xs → AreTyped xs
all_typed xs typed = λ i o at. typed_at [] xs i (Body o) typed at

-- ---- formulas

module _ (known : FnRef → Bool) (names : Names) (targets : AreTypedAsTargets names) (nodes : ℕ → NodeId) where
  abbrev tys : ℕ → Ty
  tys n = type_at names n

  -- whatever functions were made of those before it, a body that was written has lines and a root of their types
  body_typed : (earlier : List Planned) (first : Ty) (outer : List Ty) (start : ℕ) (f : Formula) (ty : Ty)
      → FormulaFits known names (first ∷ outer) f ty
      → StandsAt earlier start (written nodes tys (first ∷ outer) start empty_page f).makes
      → IsTyped earlier (body_of (first ∷ outer) (formula_ty tys (first ∷ outer) f) (written nodes tys (first ∷ outer) start empty_page f))
  body_typed earlier first outer start f ty fits at made kinds long =
      let w = written nodes tys (first ∷ outer) start empty_page f in
      let same : length earlier ≡ length made = (let few = kinds_within earlier made kinds in omega (arith, few, long)) in
      let none : AreLines made first outer w.page.listed empty_page [] = record { same = refl; fit = tt } in
      let r = lines_typed known names targets nodes earlier made kinds same first outer start empty_page f ty fits at
      w.page.listed (begins_all w.page.listed) [] none in
      let is = formula_type known names targets (first ∷ outer) f ty fits in (
        record {
          draft = record { sig = record { takes = first ∷ outer; gives = formula_ty tys (first ∷ outer) f }; listed = w.page.listed; lines = r.all };
          root = w.root;
        },
        record { sig = refl; listed = refl; lines = r.are.same; root = refl },
        record { lines = r.are.fit; root = r.typed ∙ ap (λ t. Some t) (sym is) },
      )

  mutual
    written_typed : (earlier : List Planned) (bounds : List Ty) (start : ℕ) (p : Page) (f : Formula) (ty : Ty)
        → FormulaFits known names bounds f ty → length earlier ≡ start
        → AreTypedBehind earlier (written nodes tys bounds start p f).makes
    written_typed earlier bounds start p (Apply f arguments) ty fits size =
        arguments_written earlier bounds start p arguments f.sig.takes fits.1 size
    written_typed earlier bounds start p (script.Fold f v elements) ty fits size =
        elements_written earlier bounds start (with_named nodes p v) elements fits.0 fits.5 size
    written_typed earlier bounds start p (script.If test a b) ty fits size =
        let t = written nodes tys bounds start p test in
        let x = written nodes tys bounds (start + length t.makes) t.page a in
        let y = written nodes tys bounds (start + (length t.makes + length x.makes)) x.page b in
        let before = earlier ++ t.makes in
        let size_t = size_behind earlier t.makes start size in
        let size_x : length (before ++ x.makes) ≡ start + (length t.makes + length x.makes) =
        (let e = size_behind before x.makes (start + length t.makes) size_t in omega (arith, e)) in
        typed_append earlier t.makes (x.makes ++ y.makes) (written_typed earlier bounds start p test types.Bool fits.0 size)
        (typed_append before x.makes y.makes (written_typed before bounds (start + length t.makes) t.page a ty fits.1 size_t)
        (written_typed (before ++ x.makes) bounds (start + (length t.makes + length x.makes)) x.page b ty fits.2 size_x))
    written_typed earlier bounds start p (script.Join child) ty fits size =
        written_typed earlier bounds start p child (types.Node fits.0) fits.1 size
    written_typed earlier bounds start p (script.Bind left body) ty fits size =
        let u = formula_ty tys bounds left in
        let l = written nodes tys bounds start p left in
        let i = written nodes tys (u ∷ bounds) (start + length l.makes) empty_page body in
        let o = body_of (u ∷ bounds) (formula_ty tys (u ∷ bounds) body) i in
        let before = earlier ++ l.makes in
        let size_l = size_behind earlier l.makes start size in
        let inner = subst (λ t. FormulaFits known names (t ∷ bounds) body ty) (sym (formula_type known names targets bounds left fits.0 fits.1)) fits.2 in
        let is_typed = body_typed (before ++ i.makes) u bounds (start + length l.makes) body ty inner
        (at_end before i.makes (start + length l.makes) size_l) in
        typed_append earlier l.makes (i.makes ++ Body o ∷ []) (written_typed earlier bounds start p left fits.0 fits.1 size)
        (typed_append before i.makes (Body o ∷ []) (written_typed before (u ∷ bounds) (start + length l.makes) empty_page body ty inner size_l)
        (is_typed, tt))
    written_typed earlier bounds start p f ty fits size = tt

    arguments_written : (earlier : List Planned) (bounds : List Ty) (start : ℕ) (p : Page) (fs : Formulas) (takes : List Ty)
        → ArgumentsFit known names bounds fs takes → length earlier ≡ start
        → AreTypedBehind earlier (written_each nodes tys bounds start p fs).makes
    arguments_written earlier bounds start p End takes fits size = tt
    arguments_written earlier bounds start p (More f rest) [] fits size = absurd fits
    arguments_written earlier bounds start p (More f rest) (t ∷ ts) fits size =
        let w = written nodes tys bounds start p f in
        let ws = written_each nodes tys bounds (start + length w.makes) w.page rest in
        typed_append earlier w.makes ws.makes (written_typed earlier bounds start p f t fits.0 size)
        (arguments_written (earlier ++ w.makes) bounds (start + length w.makes) w.page rest ts fits.1 (size_behind earlier w.makes start size))

    elements_written : (earlier : List Planned) (bounds : List Ty) (start : ℕ) (p : Page) (fs : Formulas) (t : Ty)
        → ElementsFit known names bounds fs t → length earlier ≡ start
        → AreTypedBehind earlier (written_each nodes tys bounds start p fs).makes
    elements_written earlier bounds start p End t fits size = tt
    elements_written earlier bounds start p (More f rest) t fits size =
        let w = written nodes tys bounds start p f in
        let ws = written_each nodes tys bounds (start + length w.makes) w.page rest in
        typed_append earlier w.makes ws.makes (written_typed earlier bounds start p f t fits.0 size)
        (elements_written (earlier ++ w.makes) bounds (start + length w.makes) w.page rest t fits.1 (size_behind earlier w.makes start size))

  mutual
    formula_typed : (earlier : List Planned) (start : ℕ) (f : Formula) (ty : Ty) → FormulaFits known names [] f ty → length earlier ≡ start
        → AreTypedBehind earlier (laid nodes tys start f).makes
    formula_typed earlier start (Literal v) ty fits size = (tt, tt)
    formula_typed earlier start (Apply function arguments) ty fits size =
        let each = laid_each nodes tys start arguments in
        typed_append earlier each.makes (Node (Map function each.roots) ∷ [])
        (arguments_laid earlier start arguments function.sig.takes fits.1 size) (tt, tt)
    formula_typed earlier start (script.Fold function v elements) ty fits size =
        let each = laid_each nodes tys start elements in
        typed_append earlier each.makes (Node (Fold function (graph_value nodes v) each.roots) ∷ [])
        (elements_laid earlier start elements fits.0 fits.5 size) (tt, tt)
    formula_typed earlier start (script.If test a b) ty fits size =
        let x = laid nodes tys start test in
        let y = laid nodes tys (start + length x.makes) a in
        let z = laid nodes tys (start + (length x.makes + length y.makes)) b in
        let last = Node (If (formula_ty tys [] a) x.root y.root z.root) ∷ [] in
        let before = earlier ++ x.makes in
        let size_x = size_behind earlier x.makes start size in
        let size_y : length (before ++ y.makes) ≡ start + (length x.makes + length y.makes) =
        (let e = size_behind before y.makes (start + length x.makes) size_x in omega (arith, e)) in
        typed_append earlier x.makes (y.makes ++ (z.makes ++ last)) (formula_typed earlier start test types.Bool fits.0 size)
        (typed_append before y.makes (z.makes ++ last) (formula_typed before (start + length x.makes) a ty fits.1 size_x)
        (typed_append (before ++ y.makes) z.makes last
        (formula_typed (before ++ y.makes) (start + (length x.makes + length y.makes)) b ty fits.2 size_y) (tt, tt)))
    formula_typed earlier start (script.Join child) ty fits size =
        let under = laid nodes tys start child in
        typed_append earlier under.makes (Node (Join (joined_ty (formula_ty tys [] child)) under.root) ∷ [])
        (formula_typed earlier start child (types.Node fits.0) fits.1 size) (tt, tt)
    formula_typed earlier start (script.Bind left body) ty fits size =
        let u = formula_ty tys [] left in
        let given = formula_ty tys (u ∷ []) body in
        let l = laid nodes tys start left in
        let w = written_body nodes tys (u ∷ []) (start + length l.makes) body in
        let o = body_of (u ∷ []) given w in
        let last = Node (Bind given l.root (start + (length l.makes + length w.makes))) in
        let before = earlier ++ l.makes in
        let size_l = size_behind earlier l.makes start size in
        let inner = subst (λ t. FormulaFits known names (t ∷ []) body ty) (sym (formula_type known names targets [] left fits.0 fits.1)) fits.2 in
        let is_typed = body_typed (before ++ w.makes) u [] (start + length l.makes) body ty inner
        (at_end before w.makes (start + length l.makes) size_l) in
        typed_append earlier l.makes (w.makes ++ Body o ∷ last ∷ []) (formula_typed earlier start left fits.0 fits.1 size)
        (typed_append before w.makes (Body o ∷ last ∷ []) (written_typed before (u ∷ []) (start + length l.makes) empty_page body ty inner size_l)
        (is_typed, (tt, tt)))
    formula_typed earlier start (script.At time) ty fits size = (tt, tt)
    formula_typed earlier start (script.Steps first steps) ty fits size = (tt, tt)
    formula_typed earlier start script.Now ty fits size = (tt, tt)
    formula_typed earlier start f ty fits size = tt

    arguments_laid : (earlier : List Planned) (start : ℕ) (fs : Formulas) (takes : List Ty) → ArgumentsFit known names [] fs takes
        → length earlier ≡ start → AreTypedBehind earlier (laid_each nodes tys start fs).makes
    arguments_laid earlier start End takes fits size = tt
    arguments_laid earlier start (More f rest) [] fits size = absurd fits
    arguments_laid earlier start (More f rest) (t ∷ ts) fits size =
        let x = laid nodes tys start f in
        let xs = laid_each nodes tys (start + length x.makes) rest in
        typed_append earlier x.makes xs.makes (formula_typed earlier start f t fits.0 size)
        (arguments_laid (earlier ++ x.makes) (start + length x.makes) rest ts fits.1 (size_behind earlier x.makes start size))

    elements_laid : (earlier : List Planned) (start : ℕ) (fs : Formulas) (t : Ty) → ElementsFit known names [] fs t
        → length earlier ≡ start → AreTypedBehind earlier (laid_each nodes tys start fs).makes
    elements_laid earlier start End t fits size = tt
    elements_laid earlier start (More f rest) t fits size =
        let x = laid nodes tys start f in
        let xs = laid_each nodes tys (start + length x.makes) rest in
        typed_append earlier x.makes xs.makes (formula_typed earlier start f t fits.0 size)
        (elements_laid (earlier ++ x.makes) (start + length x.makes) rest t fits.1 (size_behind earlier x.makes start size))

  pub body_of_types : (body : script.Body) (ty : Ty) → BodyFits known names body ty → AreTyped (laid_body nodes tys 0 body).makes
  body_of_types (Variable v) ty fits = all_typed (Node (Var (graph_value nodes v)) ∷ []) (tt, tt)
  body_of_types (Computed f kept) ty fits = all_typed (laid nodes tys 0 f).makes (formula_typed [] 0 f ty fits.0 refl)
  body_of_types (After time) ty fits = all_typed (Node (opened.At (pos time)) ∷ []) (tt, tt)
  body_of_types (script.Every base span) ty fits = all_typed (Node (opened.Every (pos base) span) ∷ []) (tt, tt)
  body_of_types (script.Freeze child predicate frozen) ty fits =
      let under = laid nodes tys 0 child in
      let last = Node (opened.Freeze (formula_ty tys [] child) under.root predicate) in
      all_typed (under.makes ++ last ∷ [])
      (typed_append [] under.makes (last ∷ []) (formula_typed [] 0 child ty fits.0.child_fits refl) (tt, tt))
  body_of_types (script.Expert f first links stale) ty fits = all_typed (Node (opened.Expert f (graph_value nodes first)) ∷ []) (tt, tt)
  body_of_types (script.Grab bind v is_live) ty fits = absurd fits

pub laid_typed : LaidTyped
laid_typed known names nodes body ty targets fits is_laid = body_of_types known names targets nodes body ty fits
