-- The nodes that were made for a body: they were made one after the other, and the root is the last.
use Rattle.std.proofs.Common.{◌≡◌, ◌⊎◌, inl, inr, ℕ, pos, suc, ◌+◌, ◌-◌, ◌<◌, ◌≤◌, Bool, List, [], ◌∷◌, ◌++◌, map, length, None, Some, refl, ap, sym, subst, ◌∙◌, arith, slice_get}
use Rattle.std.proofs.lemmas.List.{length-append}
use Rattle.std.proofs.lemmas.Option.{slice_get_within}
use Rattle.formula_lang.specs.Fits.{ArgumentsFit, BodyFits, ElementsFit, FormulaFits, NameFits}
use Rattle.formula_elab.specs.Bodies.{empty_page}
use Rattle.formula_elab.specs.Laying.{laid, laid_each, laid_body}
use Rattle.formula_elab.specs.Made.{StandsAlike, StandsIn}
use Rattle.formula_elab.specs.Make.{function_made, made_at}
use Rattle.formula_elab.specs.Opened.{filled, made_node, node_of, open_ty}
use Rattle.formula_elab.specs.Types.{formula_ty, joined_ty}
use Rattle.formula_elab.specs.Writing.{body_of, written}
use Rattle.formula_elab.specs.declared.make.Made.{Made}
use Rattle.formula_elab.specs.declared.opened.Open.{Open}
use Rattle.formula_elab.specs.declared.opened.Open.TheVariants.{Const, Var, Map, Fold as OpenFold, If as OpenIf, Join as OpenJoin, Bind as OpenBind, At as OpenAt, Steps as OpenSteps, Now as OpenNow, Every as OpenEvery, Freeze as OpenFreeze, Expert as OpenExpert}
use Rattle.formula_elab.specs.declared.opened.Part.{Part}
use Rattle.formula_elab.specs.declared.opened.Part.TheVariants.{Made as Numbered}
use Rattle.formula_elab.specs.declared.plan.Planned.{Planned}
use Rattle.formula_elab.specs.declared.plan.Planned.TheVariants as planned
use Rattle.formula_elab.proofs.Showing.{root_declares}
use Rattle.graph.specs.Standing.{GraphView, graph}
use Rattle.inc_value.specs.declared.function.FnRef.{FnRef}
use Rattle.inc_value.specs.declared.node.NodeId.{NodeId}
use Rattle.inc_value.specs.declared.ty.Ty.{Ty}
use Rattle.inc_value.specs.declared.ty.Ty.TheVariants as types
use Rattle.inc_terms.specs.Graph.{Graph, Row}
use Rattle.inc_terms.specs.Term.{Functions}
use Rattle.node_arena.specs.Arena.{row_at}
use Rattle.script_model.specs.Check.{Names}
use Rattle.script_model.specs.Formula.{Formula, Formulas, Body, Literal, Name, Bound, Apply, Fold, If, Join, Bind, At, Steps, Now, End, More, Variable, Computed, Freeze, After, Every, Expert, Grab}
use Rattle.script_graph.specs.Growing.{IsMaking, PartFits}
use Rattle.script_graph.specs.Today.{OwnNodes, OwnNodesOfAll, WholeNodes, OwnNodesOf}
use Rattle.script_graph.proofs.Declaring.{IsPartSince, IsSince}
use Rattle.script_graph.proofs.Laying.{SitsAt, every_name_of, if_sits, sits_itself, sits_split}
use Rattle.script_graph.proofs.Owning.{HasOwnNode, own_nodes_of_on}
use Rattle.transfer.specs.Both.{Both, graph_value}
use Rattle.transfer.specs.Shows.{Declares, graph_step}

-- the node was made, as one of the first so many
abbrev IsMade : List Planned → List Made → ℕ → NodeId → Type 0
IsMade all made bound n = (i : ℕ) × (x : Open) × (slice_get all i ≡ Some (planned.Node x)) × (i < bound) × (n ≡ made_node made i)

if_size : (xs ys zs : List Planned) (whole : Planned)
    → length (xs ++ (ys ++ (zs ++ whole ∷ []))) ≡ length xs + (length ys + length zs) + 1
if_size xs ys zs whole =
    let first = length-append xs (ys ++ (zs ++ whole ∷ [])) in
    let second = length-append ys (zs ++ whole ∷ []) in
    let third = length-append zs (whole ∷ []) in
    omega (arith, first, second, third)

-- a bind behind its left, and the functions of its body
bind_size : (xs ys : List Planned) (o bind : Planned) → length (xs ++ (ys ++ o ∷ bind ∷ [])) ≡ length xs + length ys + 2
bind_size xs ys o bind =
    let first = length-append xs (ys ++ o ∷ bind ∷ []) in
    let second = length-append ys (o ∷ bind ∷ []) in
    omega (arith, first, second)

module _ (known : FnRef → Bool) (H : Functions) (G : Graph) (all : List Planned) (made : List Made) (stands : StandsIn H G all made) (whole : length made ≡ length all)
    (nodes : ℕ → NodeId) (tys : ℕ → Ty) (names : Names) where
  top_at : (i : ℕ) (x : Open) → slice_get all i ≡ Some (planned.Node x) → i < length made
  top_at i x at = let low = slice_get_within all i (planned.Node x) at in omega (arith, low, whole)

  -- the nodes of a formula and its parts were made before the bound that its places stand below
  mutual
    formula_owns : (start bound : ℕ) (f : Formula) (ty : Ty) → FormulaFits known names [] f ty → SitsAt all start (laid nodes tys start f).makes
        → start + length (laid nodes tys start f).makes ≤ bound → OwnNodes G (IsMade all made bound) (node_of made (laid nodes tys start f).root) f
    formula_owns start bound (Literal v) ty fits sits low = (start, Const (graph_value nodes v), sits.0, omega (arith, low), refl)
    formula_owns start bound (Name n) ty fits sits low = tt
    formula_owns start bound (Apply f arguments) ty fits sits low =
        let each = laid_each nodes tys start arguments in
        let parts = sits_split all start each.makes (planned.Node (Map f each.roots) ∷ []) sits in
        let last = start + length each.makes in
        let size = length-append each.makes (planned.Node (Map f each.roots) ∷ []) in
        let top = stands.top last (Map f each.roots) parts.1.0 (top_at last (Map f each.roots) parts.1.0) in (
          (last, Map f each.roots, parts.1.0, omega (arith, low, size), refl),
          top.0,
          map (node_of made) each.roots,
          top.1,
          top.3,
          arguments_own start bound arguments f.sig.takes fits.1 parts.0 (omega (arith, low, size)),
        )
    formula_owns start bound (Fold f first elements) ty fits sits low =
        let each = laid_each nodes tys start elements in
        let made_fold = OpenFold f (graph_value nodes first) each.roots in
        let parts = sits_split all start each.makes (planned.Node made_fold ∷ []) sits in
        let last = start + length each.makes in
        let size = length-append each.makes (planned.Node made_fold ∷ []) in
        let top = stands.top last made_fold parts.1.0 (top_at last made_fold parts.1.0) in (
          (last, made_fold, parts.1.0, omega (arith, low, size), refl),
          top.0,
          graph_value nodes first,
          map (node_of made) each.roots,
          top.1,
          top.3,
          elements_own start bound elements fits.0 fits.5 parts.0 (omega (arith, low, size)),
        )
    formula_owns start bound (If test x y) ty fits sits low =
        let first = laid nodes tys start test in
        let second = laid nodes tys (start + length first.makes) x in
        let third = laid nodes tys (start + (length first.makes + length second.makes)) y in
        let whole = OpenIf (formula_ty tys [] x) first.root second.root third.root in
        let parts = if_sits all start (formula_ty tys [] x) first.makes second.makes third.makes first.root second.root third.root sits in
        let last = start + (length first.makes + (length second.makes + length third.makes)) in
        let size = if_size first.makes second.makes third.makes (planned.Node whole) in
        let top = stands.top last whole parts.3 (top_at last whole parts.3) in (
          (last, whole, parts.3, omega (arith, low, size), refl),
          top.0,
          node_of made first.root,
          node_of made second.root,
          node_of made third.root,
          top.1,
          top.3,
          formula_owns start bound test types.Bool fits.0 parts.0 (omega (arith, low, size)),
          formula_owns (start + length first.makes) bound x ty fits.1 parts.1 (omega (arith, low, size)),
          formula_owns (start + (length first.makes + length second.makes)) bound y ty fits.2 parts.2 (omega (arith, low, size)),
        )
    formula_owns start bound (Join child) ty fits sits low =
        let under = laid nodes tys start child in
        let whole = OpenJoin (joined_ty (formula_ty tys [] child)) under.root in
        let parts = sits_split all start under.makes (planned.Node whole ∷ []) sits in
        let last = start + length under.makes in
        let size = length-append under.makes (planned.Node whole ∷ []) in
        let top = stands.top last whole parts.1.0 (top_at last whole parts.1.0) in (
          (last, whole, parts.1.0, omega (arith, low, size), refl),
          top.0,
          node_of made under.root,
          top.1,
          top.3,
          formula_owns start bound child (types.Node fits.0) fits.1 parts.0 (omega (arith, low, size)),
        )
    formula_owns start bound (Bind left body) ty fits sits low =
        let u = formula_ty tys [] left in
        let one = laid nodes tys start left in
        let inner = written nodes tys (u ∷ []) (start + length one.makes) empty_page body in
        let of = formula_ty tys (u ∷ []) body in
        let o = planned.Body (body_of (u ∷ []) of inner) in
        let number = start + (length one.makes + length inner.makes) in
        let node_open = OpenBind of one.root number in
        let first = sits_split all start one.makes (inner.makes ++ o ∷ planned.Node node_open ∷ []) sits in
        let second = sits_split all (start + length one.makes) inner.makes (o ∷ planned.Node node_open ∷ []) first.1 in
        let after : suc (start + length one.makes + length inner.makes) ≡ number + 1 = omega arith in
        let at : slice_get all (number + 1) ≡ Some (planned.Node node_open) = subst (λ (i : ℕ). slice_get all i ≡ Some (planned.Node node_open)) after second.1.1.0 in
        let size = bind_size one.makes inner.makes o (planned.Node node_open) in
        let top = stands.top (number + 1) node_open at (top_at (number + 1) node_open at) in (
          (number + 1, node_open, at, omega (arith, low, size), refl),
          top.0,
          node_of made one.root,
          function_made (made_at made number),
          [],
          top.1,
          top.3,
          formula_owns start bound left fits.0 fits.1 first.0 (omega (arith, low, size)),
        )
    formula_owns start bound (Bound k) ty fits sits low = absurd (let none : None ≡ Some ty = fits in cc)
    formula_owns start bound (At time) ty fits sits low = (start, OpenAt (pos time), sits.0, omega (arith, low), refl)
    formula_owns start bound (Steps first steps) ty fits sits low =
        (start, OpenSteps (graph_value nodes first) (map (graph_step nodes) steps), sits.0, omega (arith, low), refl)
    formula_owns start bound Now ty fits sits low = (start, OpenNow, sits.0, omega (arith, low), refl)

    arguments_own : (start bound : ℕ) (fs : Formulas) (takes : List Ty) → ArgumentsFit known names [] fs takes
        → SitsAt all start (laid_each nodes tys start fs).makes → start + length (laid_each nodes tys start fs).makes ≤ bound
        → OwnNodesOfAll G (IsMade all made bound) (map (node_of made) (laid_each nodes tys start fs).roots) fs
    arguments_own start bound End [] fits sits low = tt
    arguments_own start bound End (ty ∷ takes) fits sits low = absurd fits
    arguments_own start bound (More f rest) [] fits sits low = absurd fits
    arguments_own start bound (More f rest) (ty ∷ takes) fits sits low =
        let here = laid nodes tys start f in
        let next = start + length here.makes in
        let parts = sits_split all start here.makes (laid_each nodes tys next rest).makes sits in
        let size = length-append here.makes (laid_each nodes tys next rest).makes in
        (formula_owns start bound f ty fits.0 parts.0 (omega (arith, low, size)), arguments_own next bound rest takes fits.1 parts.1 (omega (arith, low, size)))

    elements_own : (start bound : ℕ) (fs : Formulas) (ty : Ty) → ElementsFit known names [] fs ty → SitsAt all start (laid_each nodes tys start fs).makes
        → start + length (laid_each nodes tys start fs).makes ≤ bound
        → OwnNodesOfAll G (IsMade all made bound) (map (node_of made) (laid_each nodes tys start fs).roots) fs
    elements_own start bound End ty fits sits low = tt
    elements_own start bound (More f rest) ty fits sits low =
        let here = laid nodes tys start f in
        let next = start + length here.makes in
        let parts = sits_split all start here.makes (laid_each nodes tys next rest).makes sits in
        let size = length-append here.makes (laid_each nodes tys next rest).makes in
        (formula_owns start bound f ty fits.0 parts.0 (omega (arith, low, size)), elements_own next bound rest ty fits.1 parts.1 (omega (arith, low, size)))

  -- the root is the last, and its parts were made before it
  whole_owns : (f : Formula) (ty : Ty) → FormulaFits known names [] f ty → SitsAt all 0 (laid nodes tys 0 f).makes
      → WholeNodes G (IsMade all made (length (laid nodes tys 0 f).makes)) (IsMade all made (length (laid nodes tys 0 f).makes - 1)) (node_of made (laid nodes tys 0 f).root) f
  whole_owns (Literal v) ty fits sits = (0, Const (graph_value nodes v), sits.0, omega arith, refl)
  whole_owns (Name n) ty fits sits = tt
  whole_owns (Apply f arguments) ty fits sits =
      let each = laid_each nodes tys 0 arguments in
      let parts = sits_split all 0 each.makes (planned.Node (Map f each.roots) ∷ []) sits in
      let last = 0 + length each.makes in
      let size = length-append each.makes (planned.Node (Map f each.roots) ∷ []) in
      let top = stands.top last (Map f each.roots) parts.1.0 (top_at last (Map f each.roots) parts.1.0) in (
        (last, Map f each.roots, parts.1.0, omega (arith, size), refl),
        top.0,
        map (node_of made) each.roots,
        top.1,
        top.3,
        arguments_own 0 (length (laid nodes tys 0 (Apply f arguments)).makes - 1) arguments f.sig.takes fits.1 parts.0 (omega (arith, size)),
      )
  whole_owns (Fold f first elements) ty fits sits =
      let each = laid_each nodes tys 0 elements in
      let made_fold = OpenFold f (graph_value nodes first) each.roots in
      let parts = sits_split all 0 each.makes (planned.Node made_fold ∷ []) sits in
      let last = 0 + length each.makes in
      let size = length-append each.makes (planned.Node made_fold ∷ []) in
      let top = stands.top last made_fold parts.1.0 (top_at last made_fold parts.1.0) in (
        (last, made_fold, parts.1.0, omega (arith, size), refl),
        top.0,
        graph_value nodes first,
        map (node_of made) each.roots,
        top.1,
        top.3,
        elements_own 0 (length (laid nodes tys 0 (Fold f first elements)).makes - 1) elements fits.0 fits.5 parts.0 (omega (arith, size)),
      )
  whole_owns (If test x y) ty fits sits =
      let first = laid nodes tys 0 test in
      let second = laid nodes tys (0 + length first.makes) x in
      let third = laid nodes tys (0 + (length first.makes + length second.makes)) y in
      let whole = OpenIf (formula_ty tys [] x) first.root second.root third.root in
      let parts = if_sits all 0 (formula_ty tys [] x) first.makes second.makes third.makes first.root second.root third.root sits in
      let last = 0 + (length first.makes + (length second.makes + length third.makes)) in
      let size = if_size first.makes second.makes third.makes (planned.Node whole) in
      let bound = length (laid nodes tys 0 (If test x y)).makes - 1 in
      let top = stands.top last whole parts.3 (top_at last whole parts.3) in (
        (last, whole, parts.3, omega (arith, size), refl),
        top.0,
        node_of made first.root,
        node_of made second.root,
        node_of made third.root,
        top.1,
        top.3,
        formula_owns 0 bound test types.Bool fits.0 parts.0 (omega (arith, size)),
        formula_owns (0 + length first.makes) bound x ty fits.1 parts.1 (omega (arith, size)),
        formula_owns (0 + (length first.makes + length second.makes)) bound y ty fits.2 parts.2 (omega (arith, size)),
      )
  whole_owns (Join child) ty fits sits =
      let under = laid nodes tys 0 child in
      let whole = OpenJoin (joined_ty (formula_ty tys [] child)) under.root in
      let parts = sits_split all 0 under.makes (planned.Node whole ∷ []) sits in
      let last = 0 + length under.makes in
      let size = length-append under.makes (planned.Node whole ∷ []) in
      let top = stands.top last whole parts.1.0 (top_at last whole parts.1.0) in (
        (last, whole, parts.1.0, omega (arith, size), refl),
        top.0,
        node_of made under.root,
        top.1,
        top.3,
        formula_owns 0 (length (laid nodes tys 0 (Join child)).makes - 1) child (types.Node fits.0) fits.1 parts.0 (omega (arith, size)),
      )
  whole_owns (Bind left body) ty fits sits =
      let u = formula_ty tys [] left in
      let one = laid nodes tys 0 left in
      let inner = written nodes tys (u ∷ []) (0 + length one.makes) empty_page body in
      let of = formula_ty tys (u ∷ []) body in
      let o = planned.Body (body_of (u ∷ []) of inner) in
      let number = 0 + (length one.makes + length inner.makes) in
      let node_open = OpenBind of one.root number in
      let first = sits_split all 0 one.makes (inner.makes ++ o ∷ planned.Node node_open ∷ []) sits in
      let second = sits_split all (0 + length one.makes) inner.makes (o ∷ planned.Node node_open ∷ []) first.1 in
      let after : suc (0 + length one.makes + length inner.makes) ≡ number + 1 = omega arith in
      let at : slice_get all (number + 1) ≡ Some (planned.Node node_open) = subst (λ (i : ℕ). slice_get all i ≡ Some (planned.Node node_open)) after second.1.1.0 in
      let size = bind_size one.makes inner.makes o (planned.Node node_open) in
      let top = stands.top (number + 1) node_open at (top_at (number + 1) node_open at) in (
        (number + 1, node_open, at, omega (arith, size), refl),
        top.0,
        node_of made one.root,
        function_made (made_at made number),
        [],
        top.1,
        top.3,
        formula_owns 0 (length (laid nodes tys 0 (Bind left body)).makes - 1) left fits.0 fits.1 first.0 (omega (arith, size)),
      )
  whole_owns (Bound k) ty fits sits = absurd (let none : None ≡ Some ty = fits in cc)
  whole_owns (At time) ty fits sits = (0, OpenAt (pos time), sits.0, omega arith, refl)
  whole_owns (Steps first steps) ty fits sits = (0, OpenSteps (graph_value nodes first) (map (graph_step nodes) steps), sits.0, omega arith, refl)
  whole_owns Now ty fits sits = (0, OpenNow, sits.0, omega arith, refl)

  body_owns : (body : Body) (ty : Ty) → BodyFits known names body ty → SitsAt all 0 (laid_body nodes tys 0 body).makes
      → OwnNodesOf G (IsMade all made (length (laid_body nodes tys 0 body).makes)) (IsMade all made (length (laid_body nodes tys 0 body).makes - 1))
      (node_of made (laid_body nodes tys 0 body).root) body
  body_owns (Variable v) ty fits sits = (0, Var (graph_value nodes v), sits.0, omega arith, refl)
  body_owns (Computed f kept) ty fits sits = whole_owns f ty fits.0 sits
  body_owns (After time) ty fits sits = (0, OpenAt (pos time), sits.0, omega arith, refl)
  body_owns (Every base span) ty fits sits = (0, OpenEvery (pos base) span, sits.0, omega arith, refl)
  body_owns (Freeze child predicate frozen) ty fits sits =
      let under = laid nodes tys 0 child in
      let whole_open = OpenFreeze (formula_ty tys [] child) under.root predicate in
      let parts = sits_split all 0 under.makes (planned.Node whole_open ∷ []) sits in
      let last = 0 + length under.makes in
      let size = length-append under.makes (planned.Node whole_open ∷ []) in
      let top = stands.top last whole_open parts.1.0 (top_at last whole_open parts.1.0) in (
        (last, whole_open, parts.1.0, omega (arith, size), refl),
        top.0,
        node_of made under.root,
        top.1,
        top.3,
        formula_owns 0 (length (laid_body nodes tys 0 (Freeze child predicate frozen)).makes - 1) child ty fits.0.child_fits parts.0 (omega (arith, size)),
      )
  body_owns (Expert f first links stale) ty fits sits = (0, OpenExpert f (graph_value nodes first), sits.0, omega arith, refl)
  body_owns (Grab bind v is_live) ty fits sits = absurd fits

-- the nodes of a body were made from the first on, and none after the root
module _ (known : FnRef → Bool) (names : Names) {F : Type 0} (H : Functions) (first now : GraphView F) (nodes : ℕ → NodeId) (tys : ℕ → Ty) (made : List Made) where
  abbrev makes_for : Body → List Planned
  makes_for body = (laid_body nodes tys 0 body).makes

  abbrev root_for : Body → NodeId
  root_for body = node_of made (laid_body nodes tys 0 body).root

  module _ (body : Body) (h : IsMaking H first now (makes_for body) made) (whole : length made ≡ length (makes_for body)) (r : ℕ) (z : Open)
      (at_r : slice_get (makes_for body) r ≡ Some (planned.Node z)) (high : length (makes_for body) ≤ r + 1) (root : root_for body ≡ made_node made r) where
    low_r : r < length (makes_for body)
    low_r = slice_get_within (makes_for body) r (planned.Node z) at_r

    since : (i : ℕ) (x : Open) (n : NodeId) → slice_get (makes_for body) i ≡ Some (planned.Node x) → i < length (makes_for body) → n ≡ made_node made i
        → first.nodes.given ≤ n.gen_
    since i x n at low is = subst (λ (m : NodeId). first.nodes.given ≤ m.gen_) (sym is) (h.later i x at (omega (arith, low, whole)))

    before : (i : ℕ) (x : Open) (n : NodeId) → slice_get (makes_for body) i ≡ Some (planned.Node x) → i < r → n ≡ made_node made i
        → n.gen_ < (root_for body).gen_
    before i x n at low is =
        subst (λ (m : NodeId). m.gen_ < (root_for body).gen_) (sym is)
        (subst (λ (m : NodeId). (made_node made i).gen_ < m.gen_) (sym root) (h.ids i r x z at at_r low (let all_low = low_r in omega (arith, all_low, whole))))

    up_to : (i j : ℕ) → i < j + 1 → (i < j) ⊎ (i ≡ j)
    up_to i j low = grind (arith, low)

    between : (n : NodeId) → IsMade (makes_for body) made (length (makes_for body)) n → IsSince first.nodes.given (root_for body) n
    between n (i, x, at, less, is) = (
      since i x n at less is,
      elim (up_to i r (omega (arith, less, high))) [
        | inl low ↦ (let b = before i x n at low is in omega (arith, b))
        | inr same ↦
            let node : n ≡ root_for body = is ∙ (ap (made_node made) same ∙ sym root) in
            let gens = ap (λ (m : NodeId). m.gen_) node in omega (arith, gens)
      ],
    )

    before_root : (n : NodeId) → IsMade (makes_for body) made (length (makes_for body) - 1) n → IsPartSince first.nodes.given (root_for body) n
    before_root n (i, x, at, less, is) = (
      since i x n at (omega (arith, less)) is,
      before i x n at (let all_low = low_r in omega (arith, less, high, all_low)) is,
    )

    own_between : (ty : Ty) → BodyFits known names body ty
        → OwnNodesOf (graph now) (IsSince first.nodes.given (root_for body)) (IsPartSince first.nodes.given (root_for body)) (root_for body) body
    own_between ty fits =
        own_nodes_of_on (graph now) (graph now) (IsMade (makes_for body) made (length (makes_for body))) (IsSince first.nodes.given (root_for body))
        (IsMade (makes_for body) made (length (makes_for body) - 1)) (IsPartSince first.nodes.given (root_for body)) between before_root
        (λ n q u row def. row) (λ n q kid f row def. row) (root_for body) body
        (body_owns known H (graph now) (makes_for body) made h.stands whole nodes tys names body ty fits (sits_itself (makes_for body)))

  at_length : (xs : List Planned) (x : Planned) → slice_get (xs ++ x ∷ []) (length xs) ≡ Some x
  at_length [] x = refl
  at_length (y ∷ xs) x = at_length xs x

  at_end : (xs : List Planned) (x : Planned) → slice_get (xs ++ x ∷ []) (0 + length xs) ≡ Some x
  at_end xs x = let sum : length xs ≡ 0 + length xs = omega arith in subst (λ (i : ℕ). slice_get (xs ++ x ∷ []) i ≡ Some x) sum (at_length xs x)

  one_more : (xs : List Planned) (x : Planned) → length (xs ++ x ∷ []) ≤ 0 + length xs + 1
  one_more xs x = let size = length-append xs (x ∷ []) in omega (arith, size)

  -- of a variable it is one, of a bind, and of an expert
  abbrev pub IsOfKind : Body → Open → Type 0
  IsOfKind (Variable v) z = (w : _) × (z ≡ Var w)
  IsOfKind (Computed (Bind left body) kept) z = (ty : Ty) × (p : Part) × (i : ℕ) × (z ≡ OpenBind ty p i)
  IsOfKind (Expert f first links stale) z = z ≡ OpenExpert f (graph_value nodes first)
  IsOfKind body z = Unit {0}

  -- the last of what is to be made for what has a node of its own is that node
  pub last_made : (body : Body) (ty : Ty) → BodyFits known names body ty → HasOwnNode body → (r : ℕ) × (z : Open)
      × (slice_get (makes_for body) r ≡ Some (planned.Node z)) × (length (makes_for body) ≤ r + 1) × ((laid_body nodes tys 0 body).root ≡ Numbered r) × IsOfKind body z
  last_made (Variable v) ty fits own = (0, Var (graph_value nodes v), refl, omega arith, refl, (graph_value nodes v, refl))
  last_made (Computed (Literal v) kept) ty fits own = (0, Const (graph_value nodes v), refl, omega arith, refl, tt)
  last_made (Computed (Name n) kept) ty fits own = absurd own
  last_made (Computed (Apply f arguments) kept) ty fits own =
      let each = laid_each nodes tys 0 arguments in
      (0 + length each.makes, Map f each.roots, at_end each.makes (planned.Node (Map f each.roots)), one_more each.makes (planned.Node (Map f each.roots)), refl, tt)
  last_made (Computed (Fold f first_value elements) kept) ty fits own =
      let each = laid_each nodes tys 0 elements in
      let node_open = OpenFold f (graph_value nodes first_value) each.roots in
      (0 + length each.makes, node_open, at_end each.makes (planned.Node node_open), one_more each.makes (planned.Node node_open), refl, tt)
  last_made (Computed (If test x y) kept) ty fits own =
      let one = laid nodes tys 0 test in
      let two = laid nodes tys (0 + length one.makes) x in
      let three = laid nodes tys (0 + (length one.makes + length two.makes)) y in
      let node_open = OpenIf (formula_ty tys [] x) one.root two.root three.root in
      let all = one.makes ++ (two.makes ++ (three.makes ++ planned.Node node_open ∷ [])) in
      let size = if_size one.makes two.makes three.makes (planned.Node node_open) in
      let sits = if_sits all 0 (formula_ty tys [] x) one.makes two.makes three.makes one.root two.root three.root (sits_itself all) in
      (0 + (length one.makes + (length two.makes + length three.makes)), node_open, sits.3, omega (arith, size), refl, tt)
  last_made (Computed (Join child) kept) ty fits own =
      let one = laid nodes tys 0 child in
      let node_open = OpenJoin (joined_ty (formula_ty tys [] child)) one.root in
      (0 + length one.makes, node_open, at_end one.makes (planned.Node node_open), one_more one.makes (planned.Node node_open), refl, tt)
  last_made (Computed (Bind left body) kept) ty fits own =
      let u = formula_ty tys [] left in
      let one = laid nodes tys 0 left in
      let inner = written nodes tys (u ∷ []) (0 + length one.makes) empty_page body in
      let of = formula_ty tys (u ∷ []) body in
      let o = planned.Body (body_of (u ∷ []) of inner) in
      let number = 0 + (length one.makes + length inner.makes) in
      let node_open = OpenBind of one.root number in
      let all = one.makes ++ (inner.makes ++ o ∷ planned.Node node_open ∷ []) in
      let sits = sits_split all 0 one.makes (inner.makes ++ o ∷ planned.Node node_open ∷ []) (sits_itself all) in
      let second = sits_split all (0 + length one.makes) inner.makes (o ∷ planned.Node node_open ∷ []) sits.1 in
      let after : suc (0 + length one.makes + length inner.makes) ≡ number + 1 = omega arith in
      let size = bind_size one.makes inner.makes o (planned.Node node_open) in
      (number + 1, node_open, subst (λ (i : ℕ). slice_get all i ≡ Some (planned.Node node_open)) after second.1.1.0, omega (arith, size), refl, (of, one.root, number, refl))
  last_made (Computed (Bound k) kept) ty fits own = absurd (let none : None ≡ Some ty = fits.0 in cc)
  last_made (Computed (At time) kept) ty fits own = (0, OpenAt (pos time), refl, omega arith, refl, tt)
  last_made (Computed (Steps v steps) kept) ty fits own =
      (0, OpenSteps (graph_value nodes v) (map (graph_step nodes) steps), refl, omega arith, refl, tt)
  last_made (Computed Now kept) ty fits own = (0, OpenNow, refl, omega arith, refl, tt)
  last_made (After time) ty fits own = (0, OpenAt (pos time), refl, omega arith, refl, tt)
  last_made (Every base span) ty fits own = (0, OpenEvery (pos base) span, refl, omega arith, refl, tt)
  last_made (Freeze child predicate frozen) ty fits own =
      let under = laid nodes tys 0 child in
      let whole_open = OpenFreeze (formula_ty tys [] child) under.root predicate in
      (0 + length under.makes, whole_open, at_end under.makes (planned.Node whole_open), one_more under.makes (planned.Node whole_open), refl, tt)
  last_made (Expert f first_value links stale) ty fits own =
      (0, OpenExpert f (graph_value nodes first_value), refl, omega arith, refl, refl)
  last_made (Grab bind v is_live) ty fits own = absurd fits

  owned_own : (body : Body) (ty : Ty) → BodyFits known names body ty → IsMaking H first now (makes_for body) made → length made ≡ length (makes_for body)
      → HasOwnNode body
      → OwnNodesOf (graph now) (IsSince first.nodes.given (root_for body)) (IsPartSince first.nodes.given (root_for body)) (root_for body) body
  owned_own body ty fits h whole own =
      let r = last_made body ty fits own in own_between body h whole r.0 r.1 r.2 r.3 (ap (node_of made) r.4) ty fits

  pub made_owned : (body : Body) (ty : Ty) → BodyFits known names body ty → IsMaking H first now (makes_for body) made → length made ≡ length (makes_for body)
      → OwnNodesOf (graph now) (IsSince first.nodes.given (root_for body)) (IsPartSince first.nodes.given (root_for body)) (root_for body) body
  made_owned (Computed (Name n) kept) ty fits h whole = tt
  made_owned (Variable v) ty fits h whole = owned_own (Variable v) ty fits h whole tt
  made_owned (Computed f kept) ty fits h whole = owned_own (Computed f kept) ty fits h whole tt
  made_owned (After time) ty fits h whole = owned_own (After time) ty fits h whole tt
  made_owned (Every base span) ty fits h whole = owned_own (Every base span) ty fits h whole tt
  made_owned (Freeze child predicate frozen) ty fits h whole = owned_own (Freeze child predicate frozen) ty fits h whole tt
  made_owned (Expert f first_value links stale) ty fits h whole = owned_own (Expert f first_value links stale) ty fits h whole tt
  made_owned (Grab bind v is_live) ty fits h whole = absurd fits

  -- a root of its own is built for nothing yet
  pub made_unbuilt : (body : Body) (ty : Ty) → BodyFits known names body ty → IsMaking H first now (makes_for body) made → length made ≡ length (makes_for body)
      → HasOwnNode body → (graph now).built (root_for body) ≡ None
  made_unbuilt body ty fits h whole own =
      let r = last_made body ty fits own in
      let low = slice_get_within (makes_for body) r.0 (planned.Node r.1) r.2 in
      ap (λ (p : Part). (graph now).built (node_of made p)) r.4 ∙ h.unbuilt r.0 r.1 r.2 (omega (arith, low, whole))

  -- it keeps and lists nothing
  pub made_unfrozen : (body : Body) (ty : Ty) → BodyFits known names body ty → IsMaking H first now (makes_for body) made
      → length made ≡ length (makes_for body)
      → HasOwnNode body → ((graph now).frozen (root_for body) ≡ None) × ((graph now).lists (root_for body) ≡ [])
  made_unfrozen body ty fits h whole own =
      let r = last_made body ty fits own in
      let low = slice_get_within (makes_for body) r.0 (planned.Node r.1) r.2 in (
        ap (λ (p : Part). (graph now).frozen (node_of made p)) r.4 ∙ h.unfrozen r.0 r.1 r.2 (omega (arith, low, whole)),
        ap (λ (p : Part). (graph now).lists (node_of made p)) r.4 ∙ h.unlisted r.0 r.1 r.2 (omega (arith, low, whole)),
      )

  -- a root of its own is a live node of the type outside all scopes, defined as the last of what is to be made
  pub made_root : (body : Body) (ty : Ty) → BodyFits known names body ty → IsMaking H first now (makes_for body) made → length made ≡ length (makes_for body)
      → PartFits first.nodes (makes_for body) ty (laid_body nodes tys 0 body).root → HasOwnNode body
      → (row : Row) × (z : Open) × (row_at now.nodes (root_for body) ≡ Some row) × (row.ty ≡ ty) × (row.scope ≡ None) × (row.def ≡ filled made z)
      × IsOfKind body z
  made_root body ty fits h whole root_fits own =
      let r = last_made body ty fits own in
      let low = slice_get_within (makes_for body) r.0 (planned.Node r.1) r.2 in
      let made_low : r.0 < length made = omega (arith, low, whole) in
      let top = h.stands.top r.0 r.1 r.2 made_low in
      let t = h.types r.0 r.1 r.2 made_low in
      let rows : top.0 ≡ t.0 = (let e : Some top.0 ≡ Some t.0 = sym top.1 ∙ t.1 in cc) in
      let ty_is = root_ty r.0 r.1 r.2 (subst (PartFits first.nodes (makes_for body) ty) r.4 root_fits) in
      (top.0, r.1, ap (λ (p : Part). row_at now.nodes (node_of made p)) r.4 ∙ top.1, ap (λ (q : Row). q.ty) rows ∙ (t.2 ∙ ty_is), top.2, top.3, r.5)
    where
      root_ty : (r : ℕ) (z : Open) → slice_get (makes_for body) r ≡ Some (planned.Node z) → PartFits first.nodes (makes_for body) ty (Numbered r) → open_ty z ≡ ty
      root_ty r z at (y, at_y, typed) =
          let same : z ≡ y = (let e : Some (planned.Node z) ≡ Some (planned.Node y) = sym at ∙ at_y in cc) in ap open_ty same ∙ typed

-- and shows what is declared
pub made_declares : (known : FnRef → Bool) (names : Names) (x : Both) (nodes : ℕ → NodeId) (tys : ℕ → Ty) (made : List Made) (body : Body) (ty : Ty)
    → BodyFits known names body ty → ((position : ℕ) (t : Ty) → NameFits names position t → nodes position ≡ x.nodes position)
    → StandsAlike x (node_of made (laid_body nodes tys 0 body).root) body
    → StandsIn x.functions x.graph (laid_body nodes tys 0 body).makes made → length made ≡ length (laid_body nodes tys 0 body).makes
    → Declares x (node_of made (laid_body nodes tys 0 body).root) (Some body)
made_declares known names x nodes tys made body ty fits same alike stands whole =
    root_declares nodes tys body x made
    (every_name_of known names (λ n. nodes n ≡ x.nodes n) same body ty fits) alike stands (omega (arith, whole))
