-- What parts stand for while a body is built, and what its lines make of it.
use Rattle.std.proofs.Common.{arith, ◌≡◌, ℕ, List, [], ◌∷◌, map, option_map, slice_get, Option, None, Some, IfSome, IsSome}
use Rattle.std.proofs.Common.{refl, sym, subst, unwrap_or}
use Rattle.std.specs.List.{AllZip}
use Rattle.inc_value.specs.Choice.{Among, Every}
use Rattle.inc_value.specs.Ty.{type_of_base}
use Rattle.inc_value.specs.declared.node.NodeId.{NodeId}
use Rattle.inc_value.specs.declared.ty.Ty.{Ty}
use Rattle.inc_value.specs.declared.ty.Ty.TheVariants as ty
use Rattle.inc_value.specs.declared.value.Value.{Value}
use Rattle.inc_value.specs.declared.value.Value.TheVariants as value
use Rattle.inc_terms.specs.Graph.{Row}
use Rattle.inc_terms.specs.Term.{Term, Step, Ref, Cap}
use Rattle.inc_terms.specs.Unfold.{IsIn, Outside, Unfolds, UnfoldsAll}
use Rattle.inc_terms.specs.Within.{Given, ValueWithin}
use Rattle.node_arena.specs.Arena.{Arena, row_at, NamesGiven}
use Rattle.node_arena.specs.Building.{Building, Use, Grows}
use Rattle.node_arena.specs.Graph.{graph_of, nothing_held}
use Rattle.node_arena.specs.Listing.{Listed}
use Rattle.node_arena.specs.RightSide.{AreTaken, IsRoot, MayBuild, ReferenceHas, ValueHas}
use Rattle.node_arena.specs.Typing as typing
use Rattle.node_arena.specs.Typing.{Fits, HasType, Makes, ReferenceFits}
use Rattle.node_arena.proofs.Growing.{outside_grown}
use Rattle.script_functions.specs.Bodies as spec
use Rattle.script_functions.specs.Bodies.{captured, side_of}
use Rattle.script_functions.specs.Filling.{nowhere, node_of, filled, IsReady}
use Rattle.script_functions.specs.Lines.{term_of, terms_of, line_term, parts_of, type_in, IsListedAs}
use Rattle.script_functions.specs.Lines.{PartsHave, FoldTakes, BindTakes, LineHas}
use Rattle.script_functions.specs.Underway.{Reads, AreMade}
use Rattle.script_functions.specs.declared.line.Line as lines
use Rattle.script_functions.specs.declared.line.Line.TheVariants.{Const, Map, Fold, If, Join, Bind, At, Steps, Now}
use Rattle.script_functions.specs.declared.line.Part as parts
use Rattle.script_functions.specs.declared.line.Part.TheVariants as part
use Rattle.script_functions.proofs.Adding.{line_there}
use Rattle.script_functions.proofs.Lists.{among_at, every_at, held, zip_left, zip_right}

-- ---- nodes

-- a listed node's id, and the node as a term
abbrev id_of : Listed → NodeId
id_of x = x.node

abbrev ref_of : Listed → Term
ref_of x = Ref x.node

captures_fit : (a : Arena) (left : Value) (captures : List NodeId) (takes : List Ty) → AreTaken a left captures takes
    → AllZip (Fits a) captures (captured takes)
captures_fit a left captures [] h = absurd h
captures_fit a left captures (first ∷ rest) h = h.1

pub left_fits : (a : Arena) (left : Value) (captures : List NodeId) (takes : List Ty) → AreTaken a left captures takes
    → (first : Ty) × (rest : List Ty) × (takes ≡ first ∷ rest) × HasType a left first
left_fits a left captures [] h = absurd h
left_fits a left captures (first ∷ rest) h = (first, rest, refl, h.0)

pub fits_kept : (old new : Arena) (n : NodeId) (t : Ty) → row_at new n ≡ row_at old n → Fits old n t → Fits new n t
fits_kept old new n t e h = subst (λ (o : Option Row). IfSome o (λ (r : Row). r.ty ≡ t)) (sym e) h

module _ (body : spec.Body) (start : Building) (left : Value) (captures : List NodeId)
    (ready : MayBuild start body.draft.sig (side_of body) left captures)
    (uses : List Use) (b : Building) (taken : ℕ) (grows : Grows uses start b taken)
    (made : List NodeId) (terms : List Term) (types : List Ty) (so_far : AreMade b captures made terms types) where
  abbrev listed : List Listed
  listed = body.draft.listed

  abbrev takes : List Ty
  takes = body.draft.sig.takes

  abbrev T : parts.Part → Option Ty
  T p = type_in listed (captured takes) types p

  abbrev node : parts.Part → NodeId
  node p = node_of listed captures made p

  -- a node that was given before is given, outside of the scope, and of its type
  given_before : (n : NodeId) → Given start.arena.given n → Given b.arena.given n
  given_before n h = let le = grows.later in omega (arith, h, le)

  outside : (n : NodeId) → Given start.arena.given n → Outside (graph_of b.arena nothing_held) (Some b.scope) n
  outside n h = outside_grown uses start b taken grows ready.empty n h

  fits_before : (n : NodeId) (t : Ty) → Given start.arena.given n → Fits start.arena n t → Fits b.arena n t
  fits_before n t h fits = fits_kept start.arena b.arena n t (grows.keeps n h) fits

  listed_is : (x : Listed) → Among x listed → IsRoot b captures x.node (Ref x.node) x.ty
  listed_is x among = let f = ready.fit x among in record {
    unfolds = (refl, outside x.node f.0);
    given = given_before x.node f.0;
    fits = fits_before x.node x.ty f.0 f.1;
  }

  -- a part that is of a type stands for a node of the type that reads back as its term
  pub part_is : (p : parts.Part) (t : Ty) → T p ≡ Some t → IsRoot b captures (node p) (term_of listed terms p) t
  part_is (part.Listed i) t e =
      let x = held (λ (x : Listed). x.ty) (slice_get listed i) t e in
      let is : IsRoot b captures x.0.node (Ref x.0.node) t =
      subst (IsRoot b captures x.0.node (Ref x.0.node)) x.2 (listed_is x.0 (among_at listed i x.0 x.1)) in
      subst (λ (o : Option Listed). IsRoot b captures (unwrap_or (option_map id_of o) nowhere) (unwrap_or (option_map ref_of o) (Cap 0)) t)
      (sym x.1) is
  part_is (part.Captured i) t e =
      let all = captures_fit start.arena left captures takes ready.taken in
      let x = zip_right (Fits start.arena) captures (captured takes) i t all e in
      let given = every_at (Given start.arena.given) captures i x.0 ready.captures_given x.1 in
      let is : IsRoot b captures x.0 (Cap i) t = record {
        unfolds = (x.1, outside x.0 given);
        given = given_before x.0 given;
        fits = fits_before x.0 t given x.2;
      } in
      subst (λ (o : Option NodeId). IsRoot b captures (unwrap_or o nowhere) (Cap i) t) (sym x.1) is
  part_is (part.Line i) t e =
      let x = zip_right (Fits b.arena) made types i t so_far.fit e in
      let y = zip_left (Reads b captures) made terms i x.0 so_far.read x.1 in
      let is : IsRoot b captures x.0 y.0 t = record { unfolds = y.2.unfolds; given = y.2.given; fits = x.2 } in
      let at_node : IsRoot b captures (node (part.Line i)) y.0 t =
      subst (λ (o : Option NodeId). IsRoot b captures (unwrap_or o nowhere) y.0 t) (sym x.1) is in
      subst (λ (o : Option Term). IsRoot b captures (node (part.Line i)) (unwrap_or o (Cap 0)) t) (sym y.1) at_node

  -- ---- lines over such parts

  a_type : (o : Option Ty) → IsSome o → (t : Ty) × (o ≡ Some t)
  a_type None h = absurd cc
  a_type (Some t) h = (t, refl)

  there_reads : (p : parts.Part) → IsSome (T p)
      → Unfolds (graph_of b.arena nothing_held) (Some b.scope) captures (node p) (term_of listed terms p)
  there_reads p h = let t = a_type (T p) h in (part_is p t.0 t.1).unfolds

  there_given : (p : parts.Part) → IsSome (T p) → Given b.arena.given (node p)
  there_given p h = let t = a_type (T p) h in (part_is p t.0 t.1).given

  all_read : (ps : List parts.Part) → Every (λ p. IsSome (T p)) ps
      → UnfoldsAll (graph_of b.arena nothing_held) (Some b.scope) captures (map node ps) (terms_of listed terms ps)
  all_read [] h = tt
  all_read (p ∷ ps) h = (there_reads p h.0, all_read ps h.1)

  all_given : (ps : List parts.Part) → Every (λ p. IsSome (T p)) ps → Every (Given b.arena.given) (map node ps)
  all_given [] h = tt
  all_given (p ∷ ps) h = (there_given p h.0, all_given ps h.1)

  all_fit : (ps : List parts.Part) (tys : List Ty) → PartsHave T ps tys → AllZip (Fits b.arena) (map node ps) tys
  all_fit [] [] h = tt
  all_fit [] (t ∷ tys) h = absurd h
  all_fit (p ∷ ps) [] h = absurd h
  all_fit (p ∷ ps) (t ∷ tys) h = ((part_is p t h.0).fits, all_fit ps tys h.1)

  each_fits : (ps : List parts.Part) (t : Ty) → Every (λ p. T p ≡ Some t) ps → Every (λ n. Fits b.arena n t) (map node ps)
  each_fits [] t h = tt
  each_fits (p ∷ ps) t h = ((part_is p t h.0).fits, each_fits ps t h.1)

  -- a node that is the line's reads back as its term
  pub line_reads : (id : NodeId) (x : lines.Line) → Every (λ p. IsSome (T p)) (parts_of x)
      → IsIn (graph_of b.arena nothing_held) (Some b.scope) id (filled listed captures made x)
      → Unfolds (graph_of b.arena nothing_held) (Some b.scope) captures id (line_term listed terms x)
  line_reads id (Const v) h is = is
  line_reads id (Map f ps) h is = (map node ps, is, all_read ps h)
  line_reads id (Fold f v ps) h is = (map node ps, is, all_read ps h)
  line_reads id (If c x y) h is = (node c, node x, node y, is, there_reads c h.0, there_reads x h.1.0, there_reads y h.1.1.0)
  line_reads id (Join p) h is = (node p, is, there_reads p h.0)
  line_reads id (Bind l f most ps) h is = (node l, map node ps, is, there_reads l h.0, all_read ps h.1)
  line_reads id (At time) h is = is
  line_reads id (Steps first steps) h is = is
  line_reads id Now h is = is

  -- ---- it can be added

  value_given : (v : Value) → ReferenceHas (IsListedAs listed) v → ValueWithin (Given b.arena.given) v
  value_given (value.Node n base) h = given_before n ((ready.fit (record { node = n; ty = type_of_base base }) h).0)
  value_given (value.Int z) h = tt
  value_given (value.Bool z) h = tt
  value_given (value.Text z) h = tt

  value_fits : (v : Value) → ReferenceHas (IsListedAs listed) v → ReferenceFits b.arena v
  value_fits (value.Node n base) h =
      let f = ready.fit (record { node = n; ty = type_of_base base }) h in fits_before n (type_of_base base) f.0 f.1
  value_fits (value.Int z) h = tt
  value_fits (value.Bool z) h = tt
  value_fits (value.Text z) h = tt

  value_is : (v : Value) (t : Ty) → ValueHas (IsListedAs listed) v t → HasType b.arena v t
  value_is v t h = record { type = h.type; reference = value_fits v h.reference }

  steps_given : (steps : List Step) (t : Ty) → Every (λ (s : Step). ValueHas (IsListedAs listed) s.value t) steps
      → Every (λ (s : Step). ValueWithin (Given b.arena.given) s.value) steps
  steps_given [] t h = tt
  steps_given (s ∷ steps) t h = (value_given s.value h.0.reference, steps_given steps t h.1)

  steps_are : (steps : List Step) (t : Ty) → Every (λ (s : Step). ValueHas (IsListedAs listed) s.value t) steps
      → Every (λ (s : Step). HasType b.arena s.value t) steps
  steps_are [] t h = tt
  steps_are (s ∷ steps) t h = (value_is s.value t h.0, steps_are steps t h.1)

  names : (x : lines.Line) (t : Ty) → LineHas listed T x t → NamesGiven b.arena.given (filled listed captures made x)
  names (Const v) t h = value_given v h.reference
  names (Map f ps) t h = (tt, all_given ps (line_there T listed (Map f ps) t h))
  names (Fold f v ps) t h = (tt, value_given v h.initial.reference, all_given ps (line_there T listed (Fold f v ps) t h))
  names (If c x y) t h =
      let there = line_there T listed (If c x y) t h in (there_given c there.0, there_given x there.1.0, there_given y there.1.1.0)
  names (Join p) t h = let there = line_there T listed (Join p) t h in there_given p there.0
  names (Bind l f most ps) t h =
      let there = line_there T listed (Bind l f most ps) t h in (tt, there_given l there.0, all_given ps there.1)
  names (At time) t h = tt
  names (Steps first steps) t h = (value_given first h.0.reference, steps_given steps t h.1)
  names Now t h = tt

  fold_takes : (t : Ty) (ps : List parts.Part) (tys : List Ty) → FoldTakes T t ps tys
      → typing.FoldTakes b.arena t (map node ps) tys
  fold_takes t ps [] h = absurd h
  fold_takes t ps (first ∷ []) h = absurd h
  fold_takes t ps (first ∷ element ∷ []) h = (h.0, each_fits ps element h.1)
  fold_takes t ps (first ∷ element ∷ more ∷ rest) h = absurd h

  bind_takes : (l : parts.Part) (ps : List parts.Part) (tys : List Ty) → BindTakes T l ps tys
      → typing.BindTakes b.arena (node l) (map node ps) tys
  bind_takes l ps [] h = absurd h
  bind_takes l ps (first ∷ rest) h = ((part_is l first h.0).fits, all_fit ps rest h.1)

  makes : (x : lines.Line) (t : Ty) → LineHas listed T x t → Makes b.arena (filled listed captures made x) t
  makes (Const v) t h = value_is v t h
  makes (Map f ps) t h = record { kind = h.kind; children = all_fit ps f.sig.takes h.takes; gives = h.gives }
  makes (Fold f v ps) t h = record {
    kind = h.kind;
    takes = fold_takes t ps f.sig.takes h.takes;
    gives = h.gives;
    initial = value_is v t h.initial;
  }
  makes (If c x y) t h = ((part_is c ty.Bool h.0).fits, (part_is x t h.1).fits, (part_is y t h.2).fits)
  makes (Join p) t h = (h.0, h.1, (part_is p (ty.Node h.0) h.2).fits)
  makes (Bind l f most ps) t h = record { kind = h.kind; takes = bind_takes l ps f.sig.takes h.takes; gives = h.gives }
  makes (At time) t h = h
  makes (Steps first steps) t h = (value_is first t h.0, steps_are steps t h.1)
  makes Now t h = h

  -- the node of a line that is of a type can be added
  pub line_ready : (x : lines.Line) (t : Ty) → LineHas listed T x t → IsReady b (filled listed captures made x) t
  line_ready x t h = record { names = names x t h; types = makes x t h }
