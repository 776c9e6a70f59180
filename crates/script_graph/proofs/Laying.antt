-- What is laid out for a body that fits: each of it fits.
use Rattle.std.proofs.Common.{◌≡◌, ◌⊎◌, inl, inr, ℕ, pos, zero, suc, ◌+◌, Bool, List, [], ◌∷◌, ◌++◌, length, map, take, Option, None, Some, IfSome, refl, ap, sym, subst, ◌∙◌, arith, slice_get, slice_index_or}
use Rattle.std.specs.List.{AllZip}
use Rattle.std.proofs.lemmas.Int.{ints}
use Rattle.std.proofs.lemmas.Option.{slice_get_within}
use Rattle.formula_lang.specs.Fits.{ArgumentsFit, BodyFits, ElementsFit, FormulaFits, NameFits, ReferenceFits, StepsFit}
use Rattle.formula_elab.specs.Bodies.{OpenBody, Page, empty_page, size_of}
use Rattle.formula_elab.specs.Laying.{laid, laid_each, laid_body}
use Rattle.formula_elab.specs.Types.{formula_ty, joined_ty}
use Rattle.formula_elab.specs.Writing.{body_of, variables, with_each_named, with_named, with_nodes_of, written, written_each}
use Rattle.formula_elab.specs.Names.{EveryNameOf}
use Rattle.formula_elab.specs.Opened.{LineNeedsEarlier, NeedsEarlier}
use Rattle.formula_elab.specs.Today.{IsLaidOut, IsLaidOutBody, AreLaidOut}
use Rattle.formula_elab.specs.declared.body.OpenLine.{OpenLine}
use Rattle.formula_elab.specs.declared.body.OpenLine.TheVariants as open_line
use Rattle.formula_elab.specs.declared.opened.Open.TheVariants.{Const, Var, Map, Fold as OpenFold, If as OpenIf, Join as OpenJoin, Bind as OpenBind, At as OpenAt, Steps as OpenSteps, Now as OpenNow, Every as OpenEvery, Freeze as OpenFreeze, Expert as OpenExpert}
use Rattle.formula_elab.specs.declared.opened.Part.{Part}
use Rattle.formula_elab.specs.declared.plan.Planned.{Planned}
use Rattle.formula_elab.specs.declared.plan.Planned.TheVariants as planned
use Rattle.formula_elab.proofs.InOrder.{laid_in_order}
use Rattle.formula_elab.proofs.Order.{order_of}
use Rattle.inc_value.specs.Choice.{Among, Every}
use Rattle.inc_value.specs.Ty.{IsBase, type_of_base}
use Rattle.inc_value.specs.Value as engine
use Rattle.inc_value.specs.declared.function.FnRef.{FnRef}
use Rattle.inc_value.specs.declared.node.NodeId.{NodeId}
use Rattle.inc_value.specs.declared.ty.Ty.{Ty}
use Rattle.inc_value.specs.declared.ty.Ty.TheVariants as types
use Rattle.inc_terms.specs.Clock.{IsTimed}
use Rattle.inc_terms.specs.Graph as graph_def
use Rattle.inc_terms.specs.Term.{Step}
use Rattle.inc_terms.specs.Within.{Given}
use Rattle.node_arena.specs.Arena.{Arena}
use Rattle.node_arena.specs.Listing.{Listed}
use Rattle.node_arena.specs.RightSide.{AreFit}
use Rattle.node_arena.specs.Typing.{Fits}
use Rattle.script_functions.specs.declared.line.Line.TheVariants as line
use Rattle.script_model.specs.Check.{Names}
use Rattle.script_model.specs.Formula.{Formula, Formulas, TimedValue, Body, Literal, Name, Bound, Apply, Fold, If, Join, Bind, At, Steps, Now, End, More, Variable, Computed, Freeze, After, Every as Counts, Expert, Grab}
use Rattle.script_model.specs.Leaves.{EveryReference, EveryLeaf, EveryLeafOfAll}
use Rattle.script_model.specs.Values.{Value, Int, Bool as Truth, Text, Reference, type_of}
use Rattle.script_graph.specs.Growing.{AllPlannedFit, LineFits, OpenFits, PartFits, PlannedFits, RefersToFit}
use Rattle.script_graph.specs.Today.{IsPlainBody}
use Rattle.transfer.specs.Both.{graph_value}
use Rattle.transfer.specs.Shows.{graph_step}

-- ---- values

pub graph_type : (nodes : ℕ → NodeId) (v : Value) → engine.type_of (graph_value nodes v) ≡ type_of v
graph_type nodes (Int z) = refl
graph_type nodes (Truth b) = refl
graph_type nodes (Text bytes) = refl
graph_type nodes (Reference target b) = refl

graph_base : (nodes : ℕ → NodeId) (v : Value) (ty : Ty) → type_of v ≡ ty → IsBase ty → IsBase (engine.type_of (graph_value nodes v))
graph_base nodes v ty is base = subst (λ (t : Ty). IsBase t) (sym (graph_type nodes v ∙ is)) base

-- what a value refers to has what names that fit have
refers_fitting : (names : Names) (P : ℕ → Type 0) → ((position : ℕ) (t : Ty) → NameFits names position t → P position)
    → (v : Value) → ReferenceFits names v → EveryReference P v
refers_fitting names P named (Int z) fits = tt
refers_fitting names P named (Truth b) fits = tt
refers_fitting names P named (Text bytes) fits = tt
refers_fitting names P named (Reference target b) fits = named target (type_of_base b) fits

-- a value of a base type refers to nothing
refers_nowhere : (P : ℕ → Type 0) (v : Value) (ty : Ty) → type_of v ≡ ty → IsBase ty → EveryReference P v
refers_nowhere P (Int z) ty is base = tt
refers_nowhere P (Truth b) ty is base = tt
refers_nowhere P (Text bytes) ty is base = tt
refers_nowhere P (Reference target b) ty is base = absurd (subst (λ (t : Ty). IsBase t) (sym is) base)

-- ---- lists in a list

-- from the start on they stand in the list
abbrev pub SitsAt : List Planned → ℕ → List Planned → Type 0
SitsAt all start [] = Unit {0}
SitsAt all start (x ∷ xs) = (slice_get all start ≡ Some x) × SitsAt all (suc start) xs

module _ (all : List Planned) where
  sits_each : (start : ℕ) (xs : List Planned) → ((j : ℕ) (x : Planned) → slice_get xs j ≡ Some x → slice_get all (start + j) ≡ Some x) → SitsAt all start xs
  sits_each start [] h = tt
  sits_each start (x ∷ xs) h =
      let here : start + 0 ≡ start = omega arith in (
        subst (λ j. slice_get all j ≡ Some x) here (h 0 x refl),
        sits_each (suc start) xs (λ j y at.
            let there : start + suc j ≡ suc start + j = omega arith in subst (λ i. slice_get all i ≡ Some y) there (h (suc j) y at)),
      )

  pub sits_split : (start : ℕ) (xs ys : List Planned) → SitsAt all start (xs ++ ys) → SitsAt all start xs × SitsAt all (start + length xs) ys
  sits_split start [] ys h = let same : start ≡ start + 0 = omega arith in (tt, subst (λ i. SitsAt all i ys) same h)
  sits_split start (x ∷ xs) ys h =
      let rest = sits_split (suc start) xs ys h.1 in
      let same : suc start + length xs ≡ start + suc (length xs) = omega arith in
      ((h.0, rest.0), subst (λ i. SitsAt all i ys) same rest.1)

-- an if behind its test and its branches
pub if_sits : (all : List Planned) (start : ℕ) (ty : Ty) (xs ys zs : List Planned) (test a b : Part)
    → SitsAt all start (xs ++ (ys ++ (zs ++ planned.Node (OpenIf ty test a b) ∷ [])))
    → SitsAt all start xs × SitsAt all (start + length xs) ys × SitsAt all (start + (length xs + length ys)) zs
    × (slice_get all (start + (length xs + (length ys + length zs))) ≡ Some (planned.Node (OpenIf ty test a b)))
if_sits all start ty xs ys zs test a b sits =
    let whole = planned.Node (OpenIf ty test a b) in
    let first = sits_split all start xs (ys ++ (zs ++ whole ∷ [])) sits in
    let second = sits_split all (start + length xs) ys (zs ++ whole ∷ []) first.1 in
    let third = sits_split all (start + length xs + length ys) zs (whole ∷ []) second.1 in
    let there : start + length xs + length ys ≡ start + (length xs + length ys) = omega arith in
    let last : start + length xs + length ys + length zs ≡ start + (length xs + (length ys + length zs)) = omega arith in (
      first.0,
      second.0,
      subst (λ i. SitsAt all i zs) there third.0,
      subst (λ i. slice_get all i ≡ Some whole) last third.1.0,
    )

pub sits_itself : (all : List Planned) → SitsAt all 0 all
sits_itself all = sits_each all 0 all (λ j x at. let same : j ≡ 0 + j = omega arith in subst (λ i. slice_get all i ≡ Some x) same at)

pub every_append : (P : Planned → Type 0) (xs ys : List Planned) → Every P xs → Every P ys → Every P (xs ++ ys)
every_append P [] ys h g = g
every_append P (x ∷ xs) ys h g = (h.0, every_append P xs ys h.1 g)

pub every_at : (P : Planned → Type 0) (xs : List Planned) → Every P xs → (i : ℕ) (x : Planned) → slice_get xs i ≡ Some x → P x
every_at P [] h i x at = absurd (cc)
every_at P (y ∷ xs) h zero x at = let same : y ≡ x = cc in subst P same h.0
every_at P (y ∷ xs) h (suc i) x at = every_at P xs h.1 i x at

-- ---- what fits is plain

-- what fits is of forms that are laid out
module _ (known : FnRef → Bool) (names : Names) where
  mutual
    fitting_laid_out : (bounds : List Ty) (f : Formula) (ty : Ty) → FormulaFits known names bounds f ty → IsLaidOut (length bounds) f
    fitting_laid_out bounds (Literal v) ty fits = tt
    fitting_laid_out bounds (Name n) ty fits = tt
    fitting_laid_out bounds (Bound k) ty fits = slice_get_within bounds k ty fits
    fitting_laid_out bounds (Apply f arguments) ty fits = all_laid_out bounds arguments f.sig.takes fits.1
    fitting_laid_out bounds (Fold f first elements) ty fits = each_laid_out bounds elements fits.0 fits.5
    fitting_laid_out bounds (If test a b) ty fits =
        (fitting_laid_out bounds test types.Bool fits.0, fitting_laid_out bounds a ty fits.1, fitting_laid_out bounds b ty fits.2)
    fitting_laid_out bounds (Join child) ty fits = fitting_laid_out bounds child (types.Node fits.0) fits.1
    fitting_laid_out bounds (Bind left body) ty fits = (fitting_laid_out bounds left fits.0 fits.1, fitting_laid_out (fits.0 ∷ bounds) body ty fits.2)
    fitting_laid_out bounds (At time) ty fits = tt
    fitting_laid_out bounds (Steps first steps) ty fits = tt
    fitting_laid_out bounds Now ty fits = tt

    all_laid_out : (bounds : List Ty) (fs : Formulas) (tys : List Ty) → ArgumentsFit known names bounds fs tys → AreLaidOut (length bounds) fs
    all_laid_out bounds End [] fits = tt
    all_laid_out bounds End (ty ∷ tys) fits = absurd fits
    all_laid_out bounds (More f rest) [] fits = absurd fits
    all_laid_out bounds (More f rest) (ty ∷ tys) fits = (fitting_laid_out bounds f ty fits.0, all_laid_out bounds rest tys fits.1)

    each_laid_out : (bounds : List Ty) (fs : Formulas) (ty : Ty) → ElementsFit known names bounds fs ty → AreLaidOut (length bounds) fs
    each_laid_out bounds End ty fits = tt
    each_laid_out bounds (More f rest) ty fits = (fitting_laid_out bounds f ty fits.0, each_laid_out bounds rest ty fits.1)

  pub body_laid_out : (b : Body) (ty : Ty) → BodyFits known names b ty → IsLaidOutBody b
  body_laid_out (Variable v) ty fits = tt
  body_laid_out (Computed f kept) ty fits = fitting_laid_out [] f ty fits.0
  body_laid_out (After time) ty fits = tt
  body_laid_out (Counts base span) ty fits = tt
  body_laid_out (Freeze child predicate frozen) ty fits = fitting_laid_out [] child ty fits.0.child_fits
  body_laid_out (Expert f first links stale) ty fits = tt
  body_laid_out (Grab bind v is_live) ty fits = fits

-- its names have what names that fit have, and so has what its values refer to
module _ (known : FnRef → Bool) (names : Names) (P R : ℕ → Type 0) (named : (position : ℕ) (ty : Ty) → NameFits names position ty → P position)
    (refers : (v : Value) → ReferenceFits names v → EveryReference R v) where
  steps_leaves : (ty : Ty) (steps : List TimedValue) → StepsFit names steps ty → Every (λ (s : TimedValue). EveryReference R s.value) steps
  steps_leaves ty [] fits = tt
  steps_leaves ty (s ∷ steps) fits = (refers s.value fits.0.1, steps_leaves ty steps fits.1)

  mutual
    fitting_leaves : (bounds : List Ty) (f : Formula) (ty : Ty) → FormulaFits known names bounds f ty → EveryLeaf P R f
    fitting_leaves bounds (Literal v) ty fits = refers v fits.1
    fitting_leaves bounds (Name n) ty fits = named n ty fits
    fitting_leaves bounds (Bound k) ty fits = tt
    fitting_leaves bounds (Apply f arguments) ty fits = all_leaves bounds arguments f.sig.takes fits.1
    fitting_leaves bounds (Fold f first elements) ty fits = (refers_nowhere R first ty fits.3 fits.4, each_leaves bounds elements fits.0 fits.5)
    fitting_leaves bounds (If test a b) ty fits =
        (fitting_leaves bounds test types.Bool fits.0, fitting_leaves bounds a ty fits.1, fitting_leaves bounds b ty fits.2)
    fitting_leaves bounds (Join child) ty fits = fitting_leaves bounds child (types.Node fits.0) fits.1
    fitting_leaves bounds (Bind left body) ty fits = (fitting_leaves bounds left fits.0 fits.1, fitting_leaves (fits.0 ∷ bounds) body ty fits.2)
    fitting_leaves bounds (At time) ty fits = tt
    fitting_leaves bounds (Steps first steps) ty fits = (refers first fits.0.1, steps_leaves ty steps fits.1)
    fitting_leaves bounds Now ty fits = tt

    all_leaves : (bounds : List Ty) (fs : Formulas) (tys : List Ty) → ArgumentsFit known names bounds fs tys → EveryLeafOfAll P R fs
    all_leaves bounds End [] fits = tt
    all_leaves bounds End (ty ∷ tys) fits = absurd fits
    all_leaves bounds (More f rest) [] fits = absurd fits
    all_leaves bounds (More f rest) (ty ∷ tys) fits = (fitting_leaves bounds f ty fits.0, all_leaves bounds rest tys fits.1)

    each_leaves : (bounds : List Ty) (fs : Formulas) (ty : Ty) → ElementsFit known names bounds fs ty → EveryLeafOfAll P R fs
    each_leaves bounds End ty fits = tt
    each_leaves bounds (More f rest) ty fits = (fitting_leaves bounds f ty fits.0, each_leaves bounds rest ty fits.1)

  -- what fits the names is plain
  pub body_plain : (b : Body) (ty : Ty) → BodyFits known names b ty → IsPlainBody P R b
  body_plain (Variable v) ty fits = (tt, refers v fits.1)
  body_plain (Computed f kept) ty fits = (fitting_laid_out known names [] f ty fits.0, fitting_leaves [] f ty fits.0)
  body_plain (After time) ty fits = (tt, tt)
  body_plain (Counts base span) ty fits = (tt, tt)
  body_plain (Freeze child predicate frozen) ty fits = (
    fitting_laid_out known names [] child ty fits.0.child_fits,
    (
      fitting_leaves [] child ty fits.0.child_fits,
      subst (λ (x : Option Value). IfSome x (EveryReference R)) (sym fits.1) tt,
    ),
  )
  body_plain (Expert f first links stale) ty fits =
      (tt, (refers first fits.0.first_fits.1, subst (λ (ls : List ℕ). Every R ls) (sym fits.1) tt))
  body_plain (Grab bind v is_live) ty fits = absurd fits

-- the names of what fits have what names that fit have
pub every_name_of : (known : FnRef → Bool) (names : Names) (P : ℕ → Type 0) → ((position : ℕ) (t : Ty) → NameFits names position t → P position)
    → (body : Body) (ty : Ty) → BodyFits known names body ty → EveryNameOf P body
every_name_of known names P named (Variable v) ty fits = (tt, refers_fitting names P named v fits.1)
every_name_of known names P named (Computed f kept) ty fits =
    (fitting_laid_out known names [] f ty fits.0, fitting_leaves known names P P named (refers_fitting names P named) [] f ty fits.0)
every_name_of known names P named (After time) ty fits = (tt, tt)
every_name_of known names P named (Counts base span) ty fits = (tt, tt)
every_name_of known names P named (Freeze child predicate frozen) ty fits = (
  fitting_laid_out known names [] child ty fits.0.child_fits,
  (
    fitting_leaves known names P P named (refers_fitting names P named) [] child ty fits.0.child_fits,
    subst (λ (x : Option Value). IfSome x (EveryReference P)) (sym fits.1) tt,
  ),
)
every_name_of known names P named (Expert f first links stale) ty fits =
    (tt, (refers_fitting names P named first fits.0.first_fits.1, subst (λ (ls : List ℕ). Every P ls) (sym fits.1) tt))
every_name_of known names P named (Grab bind v is_live) ty fits = absurd fits

-- ---- what is laid out fits

-- the type of what fits
module _ (known : FnRef → Bool) (tys : ℕ → Ty) (names : Names)
    (typed : (position : ℕ) (t : Ty) → NameFits names position t → tys position ≡ t) where
  bound_type : (bounds : List Ty) (k : ℕ) (ty : Ty) → slice_get bounds k ≡ Some ty → slice_index_or bounds k types.Int ≡ ty
  bound_type [] k ty is = absurd (cc)
  bound_type (t ∷ bounds) zero ty is = cc
  bound_type (t ∷ bounds) (suc k) ty is = bound_type bounds k ty is

  formula_type : (bounds : List Ty) (f : Formula) (ty : Ty) → FormulaFits known names bounds f ty → formula_ty tys bounds f ≡ ty
  formula_type bounds (Literal v) ty fits = fits.0
  formula_type bounds (Name n) ty fits = typed n ty fits
  formula_type bounds (Bound k) ty fits = bound_type bounds k ty fits
  formula_type bounds (Apply f arguments) ty fits = fits.2
  formula_type bounds (Fold f first elements) ty fits = fits.2.1
  formula_type bounds (If test a b) ty fits = formula_type bounds a ty fits.1
  formula_type bounds (Join child) ty fits = ap joined_ty (formula_type bounds child (types.Node fits.0) fits.1) ∙ fits.2
  formula_type bounds (Bind left body) ty fits =
      ap (λ (t : Ty). formula_ty tys (t ∷ bounds) body) (formula_type bounds left fits.0 fits.1) ∙ formula_type (fits.0 ∷ bounds) body ty fits.2
  formula_type bounds (At time) ty fits = fits
  formula_type bounds (Steps first steps) ty fits = fits.0.0
  formula_type bounds Now ty fits = fits

among_left : (x : Listed) (xs ys : List Listed) → Among x xs → Among x (xs ++ ys)
among_left x (y ∷ xs) ys (inl is) = inl is
among_left x (y ∷ xs) ys (inr among) = inr (among_left x xs ys among)
among_left x [] ys among = absurd among

among_right : (x : Listed) (xs ys : List Listed) → Among x ys → Among x (xs ++ ys)
among_right x [] ys among = among
among_right x (y ∷ xs) ys among = inr (among_right x xs ys among)

among_either : (x : Listed) (xs ys : List Listed) → Among x (xs ++ ys) → Among x xs ⊎ Among x ys
among_either x [] ys among = inr among
among_either x (y ∷ xs) ys (inl is) = inl (inl is)
among_either x (y ∷ xs) ys (inr among) = elim (among_either x xs ys among) [ inl first ↦ inl (inr first) | inr second ↦ inr second ]

fit_both : (a : Arena) (xs ys : List Listed) → AreFit a xs → AreFit a ys → AreFit a (xs ++ ys)
fit_both a xs ys h g x among = elim (among_either x xs ys among) [ inl first ↦ h x first | inr second ↦ g x second ]

-- a value of a base type refers to nothing
base_refers : (names : Names) (v : Value) (ty : Ty) → type_of v ≡ ty → IsBase ty → ReferenceFits names v
base_refers names (Int z) ty is base = tt
base_refers names (Truth b) ty is base = tt
base_refers names (Text bytes) ty is base = tt
base_refers names (Reference target b) ty is base = absurd (subst (λ (t : Ty). IsBase t) (sym is) base)

module _ (known : FnRef → Bool) (a : Arena) (all : List Planned) (nodes : ℕ → NodeId) (tys : ℕ → Ty) (names : Names)
    (there : (position : ℕ) (t : Ty) → NameFits names position t → Given a.given (nodes position) × Fits a (nodes position) t)
    (typed : (position : ℕ) (t : Ty) → NameFits names position t → tys position ≡ t) where
  -- ---- pages

  -- the lines of a page fit, and so do the nodes that it lists
  record PageFits (p : Page) : Type 0 where
    pub lines : Every (LineFits known all p.listed) p.lines
    pub listed : AreFit a p.listed

  -- what is to be made fits, if what is to be made before it is among all
  abbrev PlannedIn : Planned → Type 0
  PlannedIn (planned.Node x) = OpenFits known a all x
  PlannedIn (planned.Body o) = PageFits o.page

  line_wider : (xs ys : List Listed) → ((x : Listed) → Among x xs → Among x ys) → (l : OpenLine) → LineFits known all xs l → LineFits known all ys l
  line_wider xs ys more (open_line.Ready l) fits = fits
  line_wider xs ys more (open_line.Bind left body most captures) (o, at, is, within) = (o, at, is, λ x among. more x (within x among))

  lines_wider : (xs ys : List Listed) → ((x : Listed) → Among x xs → Among x ys) → (ls : List OpenLine) → Every (LineFits known all xs) ls
      → Every (LineFits known all ys) ls
  lines_wider xs ys more [] fits = tt
  lines_wider xs ys more (l ∷ ls) fits = (line_wider xs ys more l fits.0, lines_wider xs ys more ls fits.1)

  lines_both : (listed : List Listed) (xs ys : List OpenLine) → Every (LineFits known all listed) xs → Every (LineFits known all listed) ys
      → Every (LineFits known all listed) (xs ++ ys)
  lines_both listed [] ys h g = g
  lines_both listed (x ∷ xs) ys h g = (h.0, lines_both listed xs ys h.1 g)

  -- with more nodes
  more_listed : (p : Page) (ids : List Listed) → PageFits p → AreFit a ids → PageFits (record p { listed = p.listed ++ ids })
  more_listed p ids h fit = record {
    lines = lines_wider p.listed (p.listed ++ ids) (λ x among. among_left x p.listed ids among) p.lines h.lines;
    listed = fit_both a p.listed ids h.listed fit;
  }

  one_listed : (n : NodeId) (ty : Ty) → Given a.given n × Fits a n ty → AreFit a (record { node = n; ty = ty } ∷ [])
  one_listed n ty fits x (inl is) = subst (λ (y : Listed). Given a.given y.node × Fits a y.node y.ty) (sym is) fits
  one_listed n ty fits x (inr none) = absurd none

  named_page : (p : Page) (v : Value) → ReferenceFits names v → PageFits p → PageFits (with_named nodes p v)
  named_page p (Int z) fits h = h
  named_page p (Truth b) fits h = h
  named_page p (Text bytes) fits h = h
  named_page p (Reference target b) fits h =
      more_listed p (record { node = nodes target; ty = type_of_base b } ∷ []) h (one_listed (nodes target) (type_of_base b) (there target (type_of_base b) fits))

  -- so with the nodes that the values of steps name
  named_each : (ty : Ty) (p : Page) (steps : List TimedValue) → StepsFit names steps ty → PageFits p → PageFits (with_each_named nodes p steps)
  named_each ty p [] fits h = h
  named_each ty p (s ∷ steps) fits h = named_each ty (with_named nodes p s.value) steps fits.1 (named_page p s.value fits.0.1 h)

  -- with one line more
  more_line : (p : Page) (l : OpenLine) → PageFits p → LineFits known all p.listed l → PageFits (record p { lines = p.lines ++ l ∷ [] })
  more_line p l h fits = record { lines = lines_both p.listed p.lines (l ∷ []) h.lines (fits, tt); listed = h.listed }

  mutual
    formula_written : (bounds : List Ty) (start : ℕ) (p : Page) (f : Formula) (ty : Ty) → FormulaFits known names bounds f ty → PageFits p
        → SitsAt all start (written nodes tys bounds start p f).makes
        → Every PlannedIn (written nodes tys bounds start p f).makes × PageFits (written nodes tys bounds start p f).page
    formula_written bounds start p (Literal v) ty fits h sits =
        (tt, more_line (with_named nodes p v) (open_line.Ready (line.Const (graph_value nodes v))) (named_page p v fits.1 h) tt)
    formula_written bounds start p (Name n) ty fits h sits =
        let same = typed n ty fits in (
          tt,
          more_listed p (record { node = nodes n; ty = tys n } ∷ []) h
              (one_listed (nodes n) (tys n) (subst (λ (t : Ty). Given a.given (nodes n) × Fits a (nodes n) t) (sym same) (there n ty fits))),
        )
    formula_written bounds start p (Bound k) ty fits h sits = (tt, h)
    formula_written bounds start p (Apply f arguments) ty fits h sits =
        let ws = arguments_written bounds start p arguments f.sig.takes fits.1 h sits in
        let each = written_each nodes tys bounds start p arguments in
        (ws.0, more_line each.page (open_line.Ready (line.Map f each.roots)) ws.1 ((fits.0.is_known, fits.0.kind), tt))
    formula_written bounds start p (Fold f first elements) ty fits h sits =
        let ws = elements_written bounds start (with_named nodes p first) elements fits.0 fits.5 (named_page p first (base_refers names first ty fits.3 fits.4) h) sits in
        let each = written_each nodes tys bounds start (with_named nodes p first) elements in
        (ws.0, more_line each.page (open_line.Ready (line.Fold f (graph_value nodes first) each.roots)) ws.1 ((fits.1.is_known, fits.1.kind), tt))
    formula_written bounds start p (If test x y) ty fits h sits =
        let one = written nodes tys bounds start p test in
        let two = written nodes tys bounds (start + length one.makes) one.page x in
        let three = written nodes tys bounds (start + (length one.makes + length two.makes)) two.page y in
        let first = sits_split all start one.makes (two.makes ++ three.makes) sits in
        let second = sits_split all (start + length one.makes) two.makes three.makes first.1 in
        let there : start + length one.makes + length two.makes ≡ start + (length one.makes + length two.makes) = omega arith in
        let t = formula_written bounds start p test types.Bool fits.0 h first.0 in
        let b = formula_written bounds (start + length one.makes) one.page x ty fits.1 t.1 second.0 in
        let c = formula_written bounds (start + (length one.makes + length two.makes)) two.page y ty fits.2 b.1
        (subst (λ (i : ℕ). SitsAt all i three.makes) there second.1) in (
          every_append PlannedIn one.makes (two.makes ++ three.makes) t.0 (every_append PlannedIn two.makes three.makes b.0 c.0),
          more_line three.page (open_line.Ready (line.If one.root two.root three.root)) c.1 tt,
        )
    formula_written bounds start p (Join child) ty fits h sits =
        let one = written nodes tys bounds start p child in
        let c = formula_written bounds start p child (types.Node fits.0) fits.1 h sits in
        (c.0, more_line one.page (open_line.Ready (line.Join one.root)) c.1 tt)
    formula_written bounds start p (Bind left body) ty fits h sits =
        let u = formula_ty tys bounds left in
        let same : fits.0 ≡ u = sym (formula_type known tys names typed bounds left fits.0 fits.1) in
        let one = written nodes tys bounds start p left in
        let inner = written nodes tys (u ∷ bounds) (start + length one.makes) empty_page body in
        let o = body_of (u ∷ bounds) (formula_ty tys (u ∷ bounds) body) inner in
        let number = start + (length one.makes + length inner.makes) in
        let first = sits_split all start one.makes (inner.makes ++ planned.Body o ∷ []) sits in
        let second = sits_split all (start + length one.makes) inner.makes (planned.Body o ∷ []) first.1 in
        let last : start + length one.makes + length inner.makes ≡ number = omega arith in
        let at : slice_get all number ≡ Some (planned.Body o) = subst (λ (i : ℕ). slice_get all i ≡ Some (planned.Body o)) last second.1.0 in
        let l = formula_written bounds start p left fits.0 fits.1 h first.0 in
        let i = formula_written (u ∷ bounds) (start + length one.makes) empty_page body ty
        (subst (λ (t : Ty). FormulaFits known names (t ∷ bounds) body ty) same fits.2) (record { lines = tt; listed = λ x none. absurd none }) second.0 in
        let wide = more_listed one.page inner.page.listed l.1 i.1.listed in (
          every_append PlannedIn one.makes (inner.makes ++ planned.Body o ∷ []) l.0 (every_append PlannedIn inner.makes (planned.Body o ∷ []) i.0 (i.1, tt)),
          more_line (with_nodes_of one.page inner.page) (open_line.Bind one.root number (size_of inner.page) (variables (length bounds))) wide
              (o, at, refl, λ x among. among_right x one.page.listed inner.page.listed among),
        )
    formula_written bounds start p (At time) ty fits h sits = (tt, more_line p (open_line.Ready (line.At (pos time))) h tt)
    formula_written bounds start p (Steps first steps) ty fits h sits = (
      tt,
      more_line (with_each_named nodes (with_named nodes p first) steps)
          (open_line.Ready (line.Steps (graph_value nodes first) (map (graph_step nodes) steps)))
          (named_each ty (with_named nodes p first) steps fits.1 (named_page p first fits.0.1 h)) tt,
    )
    formula_written bounds start p Now ty fits h sits = (tt, more_line p (open_line.Ready line.Now) h tt)

    arguments_written : (bounds : List Ty) (start : ℕ) (p : Page) (fs : Formulas) (takes : List Ty) → ArgumentsFit known names bounds fs takes → PageFits p
        → SitsAt all start (written_each nodes tys bounds start p fs).makes
        → Every PlannedIn (written_each nodes tys bounds start p fs).makes × PageFits (written_each nodes tys bounds start p fs).page
    arguments_written bounds start p End [] fits h sits = (tt, h)
    arguments_written bounds start p End (ty ∷ takes) fits h sits = absurd fits
    arguments_written bounds start p (More f rest) [] fits h sits = absurd fits
    arguments_written bounds start p (More f rest) (ty ∷ takes) fits h sits =
        let one = written nodes tys bounds start p f in
        let others = written_each nodes tys bounds (start + length one.makes) one.page rest in
        let parts = sits_split all start one.makes others.makes sits in
        let here = formula_written bounds start p f ty fits.0 h parts.0 in
        let more = arguments_written bounds (start + length one.makes) one.page rest takes fits.1 here.1 parts.1 in
        (every_append PlannedIn one.makes others.makes here.0 more.0, more.1)

    elements_written : (bounds : List Ty) (start : ℕ) (p : Page) (fs : Formulas) (ty : Ty) → ElementsFit known names bounds fs ty → PageFits p
        → SitsAt all start (written_each nodes tys bounds start p fs).makes
        → Every PlannedIn (written_each nodes tys bounds start p fs).makes × PageFits (written_each nodes tys bounds start p fs).page
    elements_written bounds start p End ty fits h sits = (tt, h)
    elements_written bounds start p (More f rest) ty fits h sits =
        let one = written nodes tys bounds start p f in
        let others = written_each nodes tys bounds (start + length one.makes) one.page rest in
        let parts = sits_split all start one.makes others.makes sits in
        let here = formula_written bounds start p f ty fits.0 h parts.0 in
        let more = elements_written bounds (start + length one.makes) one.page rest ty fits.1 here.1 parts.1 in
        (every_append PlannedIn one.makes others.makes here.0 more.0, more.1)

  -- ---- nodes

  value_fits : (v : Value) → ReferenceFits names v → RefersToFit a (graph_value nodes v)
  value_fits (Int z) fits = tt
  value_fits (Truth b) fits = tt
  value_fits (Text bytes) fits = tt
  value_fits (Reference target b) fits = there target (type_of_base b) fits

  -- the values of steps are of the first one's type
  steps_fit : (first : Value) (ty : Ty) → type_of first ≡ ty → (steps : List TimedValue) → StepsFit names steps ty
      → Every (λ (s : Step). (engine.type_of s.value ≡ engine.type_of (graph_value nodes first)) × RefersToFit a s.value) (map (graph_step nodes) steps)
  steps_fit first ty is [] fits = tt
  steps_fit first ty is (s ∷ steps) fits = (
    (graph_type nodes s.value ∙ (fits.0.0 ∙ sym (graph_type nodes first ∙ is)), value_fits s.value fits.0.1),
    steps_fit first ty is steps fits.1,
  )

  mutual
    formula_fits : (start : ℕ) (f : Formula) (ty : Ty) → FormulaFits known names [] f ty → SitsAt all start (laid nodes tys start f).makes
        → Every PlannedIn (laid nodes tys start f).makes × PartFits a all ty (laid nodes tys start f).root
    formula_fits start (Literal v) ty fits sits =
        ((value_fits v fits.1, tt), (Const (graph_value nodes v), sits.0, graph_type nodes v ∙ fits.0))
    formula_fits start (Name n) ty fits sits = (tt, there n ty fits)
    formula_fits start (Apply f arguments) ty fits sits =
        let each = laid_each nodes tys start arguments in
        let parts = sits_split all start each.makes (planned.Node (Map f each.roots) ∷ []) sits in
        let rest = arguments_fit start arguments f.sig.takes fits.1 parts.0 in (
          every_append PlannedIn each.makes (planned.Node (Map f each.roots) ∷ []) rest.0 ((fits.0.is_known, fits.0.kind, rest.1), tt),
          (Map f each.roots, parts.1.0, fits.2),
        )
    formula_fits start (Fold f first elements) ty fits sits =
        let each = laid_each nodes tys start elements in
        let parts = sits_split all start each.makes (planned.Node (OpenFold f (graph_value nodes first) each.roots) ∷ []) sits in
        let rest = elements_fit start elements fits.0 fits.5 parts.0 in
        let made : OpenFits known a all (OpenFold f (graph_value nodes first) each.roots) = record {
          element = fits.0;
          is_known = fits.1.is_known;
          kind = fits.1.kind;
          takes = fits.2.0 ∙ ap (λ (t : Ty). t ∷ fits.0 ∷ []) (sym fits.2.1);
          initial = graph_type nodes first ∙ (fits.3 ∙ sym fits.2.1);
          base = graph_base nodes first ty fits.3 fits.4;
          parts_fit = rest.1;
        } in (
          every_append PlannedIn each.makes (planned.Node (OpenFold f (graph_value nodes first) each.roots) ∷ []) rest.0 (made, tt),
          (OpenFold f (graph_value nodes first) each.roots, parts.1.0, fits.2.1),
        )
    formula_fits start (If test x y) ty fits sits =
        let first = laid nodes tys start test in
        let second = laid nodes tys (start + length first.makes) x in
        let third = laid nodes tys (start + (length first.makes + length second.makes)) y in
        let of = formula_ty tys [] x in
        let same = formula_type known tys names typed [] x ty fits.1 in
        let whole = OpenIf of first.root second.root third.root in
        let parts = if_sits all start of first.makes second.makes third.makes first.root second.root third.root sits in
        let one = formula_fits start test types.Bool fits.0 parts.0 in
        let two = formula_fits (start + length first.makes) x ty fits.1 parts.1 in
        let three = formula_fits (start + (length first.makes + length second.makes)) y ty fits.2 parts.2 in
        let made : OpenFits known a all whole = (
          one.1,
          subst (λ (t : Ty). PartFits a all t second.root) (sym same) two.1,
          subst (λ (t : Ty). PartFits a all t third.root) (sym same) three.1,
        ) in (
          every_append PlannedIn first.makes (second.makes ++ (third.makes ++ planned.Node whole ∷ [])) one.0
              (every_append PlannedIn second.makes (third.makes ++ planned.Node whole ∷ []) two.0
              (every_append PlannedIn third.makes (planned.Node whole ∷ []) three.0 (made, tt))),
          (whole, parts.3, same),
        )
    formula_fits start (Join child) ty fits sits =
        let under = laid nodes tys start child in
        let of = joined_ty (formula_ty tys [] child) in
        let whole = OpenJoin of under.root in
        let parts = sits_split all start under.makes (planned.Node whole ∷ []) sits in
        let one = formula_fits start child (types.Node fits.0) fits.1 parts.0 in
        let leads : type_of_base fits.0 ≡ of = sym (ap joined_ty (formula_type known tys names typed [] child (types.Node fits.0) fits.1)) in (
          every_append PlannedIn under.makes (planned.Node whole ∷ []) one.0 ((fits.0, one.1, leads), tt),
          (whole, parts.1.0, sym leads ∙ fits.2),
        )
    formula_fits start (Bind left body) ty fits sits =
        let u = formula_ty tys [] left in
        let same : fits.0 ≡ u = sym (formula_type known tys names typed [] left fits.0 fits.1) in
        let one = laid nodes tys start left in
        let inner = written nodes tys (u ∷ []) (start + length one.makes) empty_page body in
        let of = formula_ty tys (u ∷ []) body in
        let o = body_of (u ∷ []) of inner in
        let number = start + (length one.makes + length inner.makes) in
        let bind = planned.Node (OpenBind of one.root number) in
        let first = sits_split all start one.makes (inner.makes ++ planned.Body o ∷ bind ∷ []) sits in
        let second = sits_split all (start + length one.makes) inner.makes (planned.Body o ∷ bind ∷ []) first.1 in
        let last : start + length one.makes + length inner.makes ≡ number = omega arith in
        let after : suc (start + length one.makes + length inner.makes) ≡ number + 1 = omega arith in
        let at : slice_get all number ≡ Some (planned.Body o) = subst (λ (i : ℕ). slice_get all i ≡ Some (planned.Body o)) last second.1.0 in
        let at_bind : slice_get all (number + 1) ≡ Some bind = subst (λ (i : ℕ). slice_get all i ≡ Some bind) after second.1.1.0 in
        let body_fits = subst (λ (t : Ty). FormulaFits known names (t ∷ []) body ty) same fits.2 in
        let l = formula_fits start left fits.0 fits.1 first.0 in
        let i = formula_written (u ∷ []) (start + length one.makes) empty_page body ty body_fits (record { lines = tt; listed = λ x none. absurd none }) second.0 in
        let made : OpenFits known a all (OpenBind of one.root number) = (u, subst (λ (t : Ty). PartFits a all t one.root) same l.1, (o, at, refl)) in (
          every_append PlannedIn one.makes (inner.makes ++ planned.Body o ∷ bind ∷ []) l.0
              (every_append PlannedIn inner.makes (planned.Body o ∷ bind ∷ []) i.0 (i.1, (made, tt))),
          (OpenBind of one.root number, at_bind, formula_type known tys names typed (u ∷ []) body ty body_fits),
        )
    formula_fits start (Bound k) ty fits sits = absurd (let none : None ≡ Some ty = fits in cc)
    formula_fits start (At time) ty fits sits = ((tt, tt), (OpenAt (pos time), sits.0, fits))
    formula_fits start (Steps first steps) ty fits sits = (
      ((value_fits first fits.0.1, steps_fit first ty fits.0.0 steps fits.1), tt),
      (OpenSteps (graph_value nodes first) (map (graph_step nodes) steps), sits.0, graph_type nodes first ∙ fits.0.0),
    )
    formula_fits start Now ty fits sits = ((tt, tt), (OpenNow, sits.0, fits))

    arguments_fit : (start : ℕ) (fs : Formulas) (takes : List Ty) → ArgumentsFit known names [] fs takes → SitsAt all start (laid_each nodes tys start fs).makes
        → Every PlannedIn (laid_each nodes tys start fs).makes × AllZip (λ (p : Part) (t : Ty). PartFits a all t p) (laid_each nodes tys start fs).roots takes
    arguments_fit start End [] fits sits = (tt, tt)
    arguments_fit start End (ty ∷ takes) fits sits = absurd fits
    arguments_fit start (More f rest) [] fits sits = absurd fits
    arguments_fit start (More f rest) (ty ∷ takes) fits sits =
        let here = laid nodes tys start f in
        let next = start + length here.makes in
        let parts = sits_split all start here.makes (laid_each nodes tys next rest).makes sits in
        let one = formula_fits start f ty fits.0 parts.0 in
        let others = arguments_fit next rest takes fits.1 parts.1 in
        (every_append PlannedIn here.makes (laid_each nodes tys next rest).makes one.0 others.0, (one.1, others.1))

    elements_fit : (start : ℕ) (fs : Formulas) (ty : Ty) → ElementsFit known names [] fs ty → SitsAt all start (laid_each nodes tys start fs).makes
        → Every PlannedIn (laid_each nodes tys start fs).makes × Every (PartFits a all ty) (laid_each nodes tys start fs).roots
    elements_fit start End ty fits sits = (tt, tt)
    elements_fit start (More f rest) ty fits sits =
        let here = laid nodes tys start f in
        let next = start + length here.makes in
        let parts = sits_split all start here.makes (laid_each nodes tys next rest).makes sits in
        let one = formula_fits start f ty fits.0 parts.0 in
        let others = elements_fit next rest ty fits.1 parts.1 in
        (every_append PlannedIn here.makes (laid_each nodes tys next rest).makes one.0 others.0, (one.1, others.1))

  body_fits : a.time ≡ pos names.now → (body : Body) (ty : Ty) → BodyFits known names body ty → SitsAt all 0 (laid_body nodes tys 0 body).makes
      → Every PlannedIn (laid_body nodes tys 0 body).makes × PartFits a all ty (laid_body nodes tys 0 body).root
  body_fits clock (Variable v) ty fits sits = ((value_fits v fits.1, tt), (Var (graph_value nodes v), sits.0, graph_type nodes v ∙ fits.0))
  body_fits clock (Computed f kept) ty fits sits = formula_fits 0 f ty fits.0 sits
  body_fits clock (After time) ty fits sits = ((tt, tt), (OpenAt (pos time), sits.0, fits.0))
  body_fits clock (Counts base span) ty fits sits =
      let is = fits.1 in
      let more = fits.2 in
      let timed : IsTimed a.time (graph_def.Every (pos base) (pos span)) =
      (omega (arith, ints), omega (arith, ints, clock, is), omega (arith, ints, more)) in
      ((timed, tt), (OpenEvery (pos base) span, sits.0, fits.0))
  body_fits clock (Freeze child predicate frozen) ty fits sits =
      let under = laid nodes tys 0 child in
      let of = formula_ty tys [] child in
      let same : of ≡ ty = formula_type known tys names typed [] child ty fits.0.child_fits in
      let whole = OpenFreeze of under.root predicate in
      let parts = sits_split all 0 under.makes (planned.Node whole ∷ []) sits in
      let one = formula_fits 0 child ty fits.0.child_fits parts.0 in
      let made : OpenFits known a all whole = record {
        is_known = fits.0.predicate_fits.is_known;
        kind = fits.0.predicate_fits.kind;
        takes = fits.0.takes ∙ ap (λ (t : Ty). t ∷ []) (sym same);
        gives = fits.0.gives;
        child_fits = subst (λ (t : Ty). PartFits a all t under.root) (sym same) one.1;
      } in
      (every_append PlannedIn under.makes (planned.Node whole ∷ []) one.0 (made, tt), (whole, parts.1.0, same))
  body_fits clock (Expert f first links stale) ty fits sits =
      let made : OpenFits known a all (OpenExpert f (graph_value nodes first)) = record {
        element = fits.0.element;
        is_known = fits.0.function_fits.is_known;
        kind = fits.0.function_fits.kind;
        takes = fits.0.folds.0 ∙ ap (λ (t : Ty). t ∷ fits.0.element ∷ []) (sym fits.0.folds.1);
        initial = graph_type nodes first ∙ (fits.0.first_fits.0 ∙ sym fits.0.folds.1);
        refers = value_fits first fits.0.first_fits.1;
      } in
      ((made, tt), (OpenExpert f (graph_value nodes first), sits.0, fits.0.folds.1))
  body_fits clock (Grab bind v is_live) ty fits sits = absurd fits

-- with what is to be made before it, a body fits as it does with all
earlier_line : (known : FnRef → Bool) (all : List Planned) (i : ℕ) (listed : List Listed) (l : OpenLine) → LineNeedsEarlier (take i all) l
    → LineFits known all listed l → LineFits known (take i all) listed l
earlier_line known all i listed (open_line.Ready l) needs fits = fits
earlier_line known all i listed (open_line.Bind left body most captures) (p, early) (o, at, is, within) =
    let there = front_in all i body (planned.Body p) early in
    let same : p ≡ o = (let e : Some (planned.Body p) ≡ Some (planned.Body o) = sym there ∙ at in cc) in
    (o, subst (λ (q : OpenBody). slice_get (take i all) body ≡ Some (planned.Body q)) same early, is, within)
  where
    front_in : {A : Type 0} (xs : List A) (n i : ℕ) (x : A) → slice_get (take n xs) i ≡ Some x → slice_get xs i ≡ Some x
    front_in xs zero i x is = absurd (cc)
    front_in [] (suc n) i x is = absurd (cc)
    front_in (y ∷ xs) (suc n) zero x is = is
    front_in (y ∷ xs) (suc n) (suc i) x is = front_in xs n i x is

earlier_lines : (known : FnRef → Bool) (all : List Planned) (i : ℕ) (listed : List Listed) (ls : List OpenLine) → Every (LineNeedsEarlier (take i all)) ls
    → Every (LineFits known all listed) ls → Every (LineFits known (take i all) listed) ls
earlier_lines known all i listed [] needs fits = tt
earlier_lines known all i listed (l ∷ ls) needs fits =
    (earlier_line known all i listed l needs.0 fits.0, earlier_lines known all i listed ls needs.1 fits.1)

-- what is laid out for a body that fits the names fits the arena, where the names have their nodes, and one time
pub laid_fits : (known : FnRef → Bool) (a : Arena) (nodes : ℕ → NodeId) (tys : ℕ → Ty) (names : Names)
    → ((position : ℕ) (t : Ty) → NameFits names position t → Given a.given (nodes position) × Fits a (nodes position) t)
    → ((position : ℕ) (t : Ty) → NameFits names position t → tys position ≡ t)
    → a.time ≡ pos names.now → (body : Body) (ty : Ty) → BodyFits known names body ty
    → AllPlannedFit known a (laid_body nodes tys 0 body).makes × PartFits a (laid_body nodes tys 0 body).makes ty (laid_body nodes tys 0 body).root
laid_fits known a nodes tys names there typed clock body ty fits =
    let all = (laid_body nodes tys 0 body).makes in
    let h = body_fits known a all nodes tys names there typed clock body ty fits (sits_itself all) in
    let order = laid_in_order nodes tys body (body_laid_out known names body ty fits) in
    (λ i x at. by_planned all i x (order_of all i x order at) (every_at (PlannedIn known a all nodes tys names there typed) all h.0 i x at), h.1)
  where
    by_planned : (all : List Planned) (i : ℕ) (x : Planned) → NeedsEarlier (take i all) x → PlannedIn known a all nodes tys names there typed x
        → PlannedFits known a all i x
    by_planned all i (planned.Node x) needs h = h
    by_planned all i (planned.Body o) needs h =
        record { lines = earlier_lines known all i o.page.listed o.page.lines needs h.lines; listed = h.listed }
