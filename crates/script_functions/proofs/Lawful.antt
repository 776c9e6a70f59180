-- What a body makes names listed nodes alone, calls listed functions, and is of its type.
use Rattle.std.proofs.Common.{arith, ◌≡◌, ◌≤◌, ◌++◌, ℕ, List, [], ◌∷◌, length, map, take, option_map, slice_get, Option, Some, None}
use Rattle.std.proofs.Common.{inl, inr, refl, sym, subst, ap, append_assoc, unwrap_or}
use Rattle.std.proofs.lemmas.List.{append-nil}
use Rattle.std.specs.List.{AllZip}
use Rattle.inc_value.specs.Choice.{Among, Every}
use Rattle.inc_value.specs.Ty.{base_of, type_of_base}
use Rattle.inc_value.specs.declared.function.FnKind.TheVariants as kind
use Rattle.inc_value.specs.declared.function.FnRef.{FnRef}
use Rattle.inc_value.specs.declared.node.NodeId.{NodeId}
use Rattle.inc_value.specs.declared.ty.Base.{Base}
use Rattle.inc_value.specs.declared.ty.Base.TheVariants as base
use Rattle.inc_value.specs.declared.ty.Ty.{Ty}
use Rattle.inc_value.specs.declared.ty.Ty.TheVariants as ty
use Rattle.inc_value.specs.declared.value.Value.{Value}
use Rattle.inc_value.specs.declared.value.Value.TheVariants as value
use Rattle.inc_terms.specs.Term.{Term, Step, Const, Ref, Cap}
use Rattle.inc_terms.specs.Within.{TermWithin, TermsWithin, ValueWithin}
use Rattle.node_arena.specs.Building.{Use, IsListed}
use Rattle.node_arena.specs.Listing.{Listed, nodes_of, IsNamed}
use Rattle.node_arena.specs.RightSide.{AreOfType, IsLawful, ReferenceHas, SideHas, TermHas, TermsHave, TermsAre, ValueHas}
use Rattle.node_arena.proofs.Growing.{left_has, left_named}
use Rattle.script_functions.specs.Bodies as spec
use Rattle.script_functions.specs.Bodies.{all_terms, captured, side_of, IsWhole}
use Rattle.script_functions.specs.Lines.{FoldHas, FoldTakes, BindHas, BindTakes}
use Rattle.script_functions.specs.Lines.{term_of, terms_of, line_term, terms_after, line_uses, uses_of}
use Rattle.script_functions.specs.Lines.{type_in, AreTyped, IsListedAs, LineHas, PartsHave}
use Rattle.script_functions.specs.declared.line.Line as lines
use Rattle.script_functions.specs.declared.line.Line.TheVariants as line
use Rattle.script_functions.specs.declared.line.Part as parts
use Rattle.script_functions.specs.declared.line.Part.TheVariants as part
use Rattle.script_functions.specs.declared.line.TypedLine.{TypedLine}
use Rattle.script_functions.proofs.Calling.{AllIn, called, first_in, later_in}
use Rattle.script_functions.proofs.Lists.{among_at, every_at, held, zip_more, zip_right}

-- ---- what terms name and call

-- the node that is listed, as a term
abbrev ref_of : Listed → Term
ref_of x = Ref x.node

module _ (listed : List Listed) (uses : List Use) (left : Value) where
  abbrev Within : Term → Type 0
  Within t = TermWithin (IsNamed listed left) (IsListed uses) t

  listed_node : (xs : List Listed) (x : Listed) → Among x xs → Among x.node (nodes_of xs)
  listed_node [] x h = absurd h
  listed_node (y ∷ xs) x (inl e) = inl (ap (λ (z : Listed). z.node) e)
  listed_node (y ∷ xs) x (inr h) = inr (listed_node xs x h)

  or_within : (o : Option Term) → ((t : Term) → o ≡ Some t → Within t) → Within (unwrap_or o (Cap 0))
  or_within None h = tt
  or_within (Some t) h = h t refl

  module _ (terms : List Term) (all : Every Within terms) where
    part_within : (p : parts.Part) → Within (term_of listed terms p)
    part_within (part.Listed i) = or_within (option_map ref_of (slice_get listed i)) (λ t e.
        (let x = held ref_of (slice_get listed i) t e in
        subst Within x.2 (inr (listed_node listed x.0 (among_at listed i x.0 x.1)))))
    part_within (part.Captured i) = tt
    part_within (part.Line i) = or_within (slice_get terms i) (λ t e. every_at Within terms i t all e)

    parts_within : (ps : List parts.Part) → TermsWithin (IsNamed listed left) (IsListed uses) (terms_of listed terms ps)
    parts_within [] = tt
    parts_within (p ∷ ps) = (part_within p, parts_within ps)

    value_within : (v : Value) → ReferenceHas (IsListedAs listed) v → ValueWithin (IsNamed listed left) v
    value_within (value.Node n b) h = inr (listed_node listed (record { node = n; ty = type_of_base b }) h)
    value_within (value.Int z) h = tt
    value_within (value.Bool z) h = tt
    value_within (value.Text z) h = tt

    steps_within : (steps : List Step) (t : Ty) → Every (λ (s : Step). ValueHas (IsListedAs listed) s.value t) steps
        → Every (λ (s : Step). ValueWithin (IsNamed listed left) s.value) steps
    steps_within [] t h = tt
    steps_within (s ∷ steps) t h = (value_within s.value h.0.reference, steps_within steps t h.1)

    module _ (T : parts.Part → Option Ty) where
      new_within : (x : lines.Line) (t : Ty) → LineHas listed T x t → AllIn (line_uses x) uses
          → Within (line_term listed terms x)
      new_within (line.Const v) t h mine = value_within v h.reference
      new_within (line.Map f ps) t h mine = (called uses kind.Map (record { function = f; most = 0 }) mine h.kind, parts_within ps)
      new_within (line.Fold f v ps) t h mine = (
        called uses kind.Map (record { function = f; most = 0 }) mine h.kind,
        value_within v h.initial.reference,
        parts_within ps,
      )
      new_within (line.If c x y) t h mine = (part_within c, part_within x, part_within y)
      new_within (line.Join p) t h mine = part_within p
      new_within (line.Bind l f most ps) t h mine = (
        called uses kind.Rhs (record { function = f; most = most }) mine h.kind,
        part_within l,
        parts_within ps,
      )
      new_within (line.At time) t h mine = tt
      new_within (line.Steps first steps) t h mine = (value_within first h.0.reference, steps_within steps t h.1)
      new_within line.Now t h mine = tt

  every_more : (terms : List Term) (t : Term) → Every Within terms → Within t → Every Within (terms ++ t ∷ [])
  every_more [] t h w = (w, tt)
  every_more (u ∷ terms) t h w = (h.0, every_more terms t h.1 w)

  all_within : (captures types : List Ty) (terms : List Term) (xs : List TypedLine) → AreTyped listed captures types xs
      → AllIn (uses_of xs) uses → Every Within terms → Every Within (terms_after listed terms xs)
  all_within captures types terms [] typed mine all = all
  all_within captures types terms (x ∷ xs) typed mine all =
      all_within captures (types ++ x.ty ∷ []) (terms ++ line_term listed terms x.line ∷ []) xs typed.1
      (later_in (line_uses x.line) (uses_of xs) uses mine)
      (every_more terms (line_term listed terms x.line) all (
      new_within terms all (type_in listed captures types) x.line x.ty typed.0
      (first_in (line_uses x.line) (uses_of xs) uses mine)
      ))

-- ---- types of terms

module _ (listed : List Listed) (captures : List Ty) (left : Value) where
  abbrev N : NodeId → Ty → Type 0
  N = SideHas listed left

  abbrev Has : Term → Ty → Type 0
  Has t type = TermHas N captures t type

  module _ (terms : List Term) (types : List Ty) (all : AllZip Has terms types) where
    abbrev T : parts.Part → Option Ty
    T p = type_in listed captures types p

    part_has : (p : parts.Part) (t : Ty) → T p ≡ Some t → Has (term_of listed terms p) t
    part_has (part.Listed i) t e =
        let x = held (λ (x : Listed). x.ty) (slice_get listed i) t e in
        let is : Has (Ref x.0.node) t =
        inr (subst (λ (u : Ty). IsListedAs listed x.0.node u) x.2 (among_at listed i x.0 x.1)) in
        subst (λ (o : Option Listed). Has (unwrap_or (option_map ref_of o) (Cap 0)) t) (sym x.1) is
    part_has (part.Captured i) t e = e
    part_has (part.Line i) t e =
        let x = zip_right Has terms types i t all e in
        subst (λ (o : Option Term). Has (unwrap_or o (Cap 0)) t) (sym x.1) x.2

    parts_have : (ps : List parts.Part) (tys : List Ty) → PartsHave T ps tys
        → TermsHave N captures (terms_of listed terms ps) tys
    parts_have [] [] h = tt
    parts_have [] (t ∷ tys) h = absurd h
    parts_have (p ∷ ps) [] h = absurd h
    parts_have (p ∷ ps) (t ∷ tys) h = (part_has p t h.0, parts_have ps tys h.1)

    each_has : (ps : List parts.Part) (t : Ty) → Every (λ p. T p ≡ Some t) ps
        → TermsAre N captures (terms_of listed terms ps) t
    each_has [] t h = tt
    each_has (p ∷ ps) t h = (part_has p t h.0, each_has ps t h.1)

    value_has : (v : Value) (t : Ty) → ValueHas (IsListedAs listed) v t → ValueHas N v t
    value_has (value.Node n b) t h = record { type = h.type; reference = inr h.reference }
    value_has (value.Int z) t h = record { type = h.type; reference = tt }
    value_has (value.Bool z) t h = record { type = h.type; reference = tt }
    value_has (value.Text z) t h = record { type = h.type; reference = tt }

    base_back : (t : Ty) (b : Base) → base_of t ≡ Some b → type_of_base b ≡ t
    base_back ty.Int b e = let same : base.Int ≡ b = cc in rw (← same)
    base_back ty.Bool b e = let same : base.Bool ≡ b = cc in rw (← same)
    base_back ty.Text b e = let same : base.Text ≡ b = cc in rw (← same)
    base_back (ty.Node c) b e = absurd cc

    fold_has : (f : FnRef) (v : Value) (ps : List parts.Part) (t : Ty) → FoldHas listed T f v ps t
        → (takes : List Ty) → f.sig.takes ≡ takes → FoldTakes T t ps takes → Has (line_term listed terms (line.Fold f v ps)) t
    fold_has f v ps t h [] e takes = absurd takes
    fold_has f v ps t h (first ∷ []) e takes = absurd takes
    fold_has f v ps t h (first ∷ element ∷ []) e takes =
        (element, h.gives, rw (← takes.0) e, value_has v t h.initial, each_has ps element takes.1)
    fold_has f v ps t h (first ∷ element ∷ more ∷ rest) e takes = absurd takes

    bind_has : (l : parts.Part) (f : FnRef) (most : ℕ) (ps : List parts.Part) (t : Ty) → BindHas T l f ps t
        → (takes : List Ty) → f.sig.takes ≡ takes → BindTakes T l ps takes → Has (line_term listed terms (line.Bind l f most ps)) t
    bind_has l f most ps t h [] e takes = absurd takes
    bind_has l f most ps t h (first ∷ rest) e takes =
        (first, rest, h.gives, e, part_has l first takes.0, parts_have ps rest takes.1)

    steps_have : (steps : List Step) (t : Ty) → Every (λ (s : Step). ValueHas (IsListedAs listed) s.value t) steps
        → Every (λ (s : Step). ValueHas N s.value t) steps
    steps_have [] t h = tt
    steps_have (s ∷ steps) t h = (value_has s.value t h.0, steps_have steps t h.1)

    new_has : (x : lines.Line) (t : Ty) → LineHas listed T x t → Has (line_term listed terms x) t
    new_has (line.Const v) t h = value_has v t h
    new_has (line.Map f ps) t h = (h.gives, parts_have ps f.sig.takes h.takes)
    new_has (line.Fold f v ps) t h = fold_has f v ps t h f.sig.takes refl h.takes
    new_has (line.If c x y) t h = (part_has c ty.Bool h.0, part_has x t h.1, part_has y t h.2)
    new_has (line.Join p) t h = (h.0, base_back t h.0 h.1, part_has p (ty.Node h.0) h.2)
    new_has (line.Bind l f most ps) t h = bind_has l f most ps t h f.sig.takes refl h.takes
    new_has (line.At time) t h = sym h
    new_has (line.Steps first steps) t h = (value_has first t h.0, steps_have steps t h.1)
    new_has line.Now t h = sym h

  all_have : (terms : List Term) (types : List Ty) (xs : List TypedLine) → AreTyped listed captures types xs
      → AllZip Has terms types → AllZip Has (terms_after listed terms xs) (types ++ map (λ (x : TypedLine). x.ty) xs)
  all_have terms types [] typed all = rw append-nil all
  all_have terms types (x ∷ xs) typed all =
      rw append_assoc at (
      all_have (terms ++ line_term listed terms x.line ∷ []) (types ++ x.ty ∷ []) xs typed.1
      (zip_more Has terms types (line_term listed terms x.line) x.ty all (new_has terms types all x.line x.ty typed.0))
      )

-- ---- bodies

of_type : (takes : List Ty) (b : spec.Body) → b.draft.sig.takes ≡ takes → 1 ≤ length takes → IsWhole b
    → AreOfType takes b.draft.sig.gives (side_of b)
of_type [] b e some whole = absurd (omega (arith, some))
of_type (first ∷ rest) b e some whole = λ v proper type.
    (let listed = b.draft.listed in
    let typed : AreTyped listed rest (first ∷ []) b.draft.lines = rw e at whole.lines in
    let all = all_have listed rest v (Const v ∷ []) (first ∷ []) b.draft.lines typed (left_has listed v first type, tt) in
    let types = first ∷ map (λ (x : TypedLine). x.ty) b.draft.lines in
    part_has listed rest v (all_terms b.draft v) types all b.root b.draft.sig.gives (rw e at whole.root))

pub body_lawful : (b : spec.Body) → 1 ≤ length b.draft.sig.takes → IsWhole b → IsLawful b.draft.sig (side_of b)
body_lawful b some whole = record {
  names = λ v.
      (let d = b.draft in
      let all = all_within d.listed (uses_of d.lines) v (captured d.sig.takes) (take 1 d.sig.takes) (Const v ∷ []) d.lines
      whole.lines (λ u among. among) (left_named d.listed v, tt) in
      part_within d.listed (uses_of d.lines) v (all_terms d v) all b.root);
  types = of_type b.draft.sig.takes b refl some whole;
}
