-- What is made for a plan, one after the other.
use Rattle.std.proofs.Common.{◌≡◌, ◌⊎◌, inl, inr, ℕ, ℤ, pos, zero, suc, ◌+◌, ◌<◌, ◌≤◌, Bool, List, [], ◌∷◌, ◌++◌, map, length, take, Option, None, Some, IfSome, IsTrue, refl, ap, sym, subst, ◌∙◌, arith, slice_get}
use Rattle.std.specs.List.{All, AllZip, sum_by}
use Rattle.std.proofs.lemmas.List.Sums.{sum_by-cons}
use Rattle.std.proofs.lemmas.List.{length-append, get_or_append_left, get_or_at}
use Rattle.std.proofs.lemmas.List.Elements.{All-head, All-tail}
use Rattle.std.proofs.lemmas.Option.{slice_get_within}
use Rattle.formula_elab.specs.Bodies.{IsFilled, OpenBody, open_size, line_filled, size_of}
use Rattle.formula_elab.specs.Made as elab
use Rattle.formula_elab.specs.Make as make
use Rattle.formula_elab.specs.Make.{Make, IsNode, function_made, made_at, node_made}
use Rattle.formula_elab.specs.declared.plan.Planned.{Planned}
use Rattle.formula_elab.specs.Opened.{filled, made_node, node_of, open_ty, IsEarlier, NodeNeedsEarlier, AreInOrder, AreMadeAs, Makes}
use Rattle.formula_elab.specs.Plan.{IsNext}
use Rattle.formula_elab.specs.declared.body.OpenLine.{OpenLine}
use Rattle.formula_elab.specs.declared.body.OpenLine.TheVariants as open_line
use Rattle.formula_elab.specs.declared.make.Made.{Made}
use Rattle.formula_elab.specs.declared.make.Made.TheVariants as was
use Rattle.formula_elab.specs.declared.opened.Open.{Open}
use Rattle.formula_elab.specs.declared.opened.Open.TheVariants.{Const, Var, Map, Fold, If, Join, Bind, At, Steps, Now, Every as Counts, Freeze, Expert}
use Rattle.formula_elab.specs.declared.opened.Part.{Part}
use Rattle.formula_elab.specs.declared.opened.Part.TheVariants.{Given as Named, Made as Numbered}
use Rattle.formula_elab.specs.declared.plan.Planned.TheVariants as planned
use Rattle.formula_elab.proofs.Order.{order_of}
use Rattle.formula_elab.proofs.Standing.{none_stands, one_more_stands}
use Rattle.graph.specs.Effects.{top, Adds}
use Rattle.graph.specs.Standing.{GraphView, graph}
use Rattle.inc_value.specs.Choice.{Among, Every}
use Rattle.stabilize_round.proofs.Points.{node_or_other}
use Rattle.inc_terms.proofs.Plan.{among_left, among_right}
use Rattle.inc_value.specs.Sig.{Signature}
use Rattle.inc_value.specs.Ty.{IsBase, base_of, type_of_base}
use Rattle.inc_value.specs.Value.{type_of}
use Rattle.inc_value.specs.declared.function.FnKind.TheVariants as kind
use Rattle.inc_value.specs.declared.function.FnRef.{FnRef}
use Rattle.inc_value.specs.declared.node.NodeId.{NodeId}
use Rattle.inc_value.specs.declared.ty.Base.{Base}
use Rattle.inc_value.specs.declared.ty.Base.TheVariants as base
use Rattle.inc_value.specs.declared.ty.Ty.{Ty}
use Rattle.inc_value.specs.declared.ty.Ty.TheVariants as types
use Rattle.inc_value.specs.declared.value.Value.{Value}
use Rattle.inc_value.specs.declared.value.Value.TheVariants as value
use Rattle.inc_terms.specs.Clock.{IsTimed}
use Rattle.inc_terms.specs.Graph as graph_def
use Rattle.inc_terms.specs.Graph.{Row}
use Rattle.inc_terms.specs.Term.{Functions, Step}
use Rattle.inc_terms.specs.Within.{Given, ValueWithin}
use Rattle.node_arena.specs.Arena.{Arena, live, row_at}
use Rattle.node_arena.specs.Building.{Use}
use Rattle.node_arena.specs.Listing.{Listed}
use Rattle.node_arena.specs.RightSide.{AreFit, AreUsable, IsUsable, RightSide, SidesHold}
use Rattle.node_arena.specs.Sound as arena
use Rattle.node_arena.specs.RightSideLaws.{meaning}
use Rattle.node_arena.specs.Typing.{BindTakes, Fits, FoldTakes, HasType, ReferenceFits}
use Rattle.script_functions.specs.Bodies as Bodies
use Rattle.script_functions.specs.Bodies.{side_of}
use Rattle.script_functions.specs.Lines.{line_size, line_uses, sizes, uses_of}
use Rattle.script_functions.specs.declared.line.Line.{Line}
use Rattle.script_functions.specs.declared.line.TypedLine.{TypedLine}
use Rattle.script_graph.specs.Growing.{AllPlannedFit, AreServed, BodyFits, Extends, IsBodyKept, IsMadeIn, IsMaking, IsNodeAdded, IsWelcome, IsWelcomeMake, LineFits, PartFits, OpenFits, RefersToFit}
use Rattle.script_graph.proofs.Counting.{live_more}
use Rattle.script_graph.proofs.Extending.{extends_itself, extends_on, adds_extends, live_stays, rest_extends}

-- ---- values

-- a value of a base type refers to nothing
value_given : (P : NodeId → Type 0) (v : Value) → IsBase (type_of v) → ValueWithin P v
value_given P (value.Int z) base = tt
value_given P (value.Bool b) base = tt
value_given P (value.Text bytes) base = tt
value_given P (value.Node n b) base = absurd base

reference_fits : (a : Arena) (v : Value) → IsBase (type_of v) → ReferenceFits a v
reference_fits a (value.Int z) base = tt
reference_fits a (value.Bool b) base = tt
reference_fits a (value.Text bytes) base = tt
reference_fits a (value.Node n b) base = absurd base

base_back : (b : Base) → base_of (type_of_base b) ≡ Some b
base_back base.Int = refl
base_back base.Bool = refl
base_back base.Text = refl

pub row_fits : (a : Arena) (n : NodeId) (t : Ty) (r : Row) → row_at a n ≡ Some r → r.ty ≡ t → Fits a n t
row_fits a n t r row ty = subst (λ (o : Option Row). IfSome o (λ (q : Row). q.ty ≡ t)) (sym row) ty

-- what a value refers to fits, and was given
refers_fits : (a : Arena) (v : Value) → RefersToFit a v → ReferenceFits a v
refers_fits a (value.Int z) fits = tt
refers_fits a (value.Bool b) fits = tt
refers_fits a (value.Text bytes) fits = tt
refers_fits a (value.Node n b) fits = fits.1

refers_given : (a : Arena) (v : Value) → RefersToFit a v → ValueWithin (Given a.given) v
refers_given a (value.Int z) fits = tt
refers_given a (value.Bool b) fits = tt
refers_given a (value.Text bytes) fits = tt
refers_given a (value.Node n b) fits = fits.0

-- ---- given nodes that fit

module _ {F : Type 0} (first now : GraphView F) (more : Extends first now) where
  -- a given node that fits a type does so still
  pub fits_still : (n : NodeId) (t : Ty) → Given first.nodes.given n → Fits first.nodes n t → Fits now.nodes n t
  fits_still n t given fits = subst (λ (o : Option Row). IfSome o (λ (q : Row). q.ty ≡ t)) (sym (more.rows n given)) fits

  given_still : (n : NodeId) → Given first.nodes.given n → Given now.nodes.given n
  given_still n low = omega (arith, low, more.given)

  refers_still : (v : Value) → RefersToFit first.nodes v → RefersToFit now.nodes v
  refers_still (value.Int z) fits = tt
  refers_still (value.Bool b) fits = tt
  refers_still (value.Text bytes) fits = tt
  refers_still (value.Node n b) fits = (given_still n fits.0, fits_still n (type_of_base b) fits.0 fits.1)

  all_fit_still : (ids : List Listed) → AreFit first.nodes ids → AreFit now.nodes ids
  all_fit_still ids fit x among = let f = fit x among in (given_still x.node f.0, fits_still x.node x.ty f.0 f.1)

-- ---- lines

-- what lines call
abbrev uses_in : List Line → List Use
uses_in [] = []
uses_in (l ∷ ls) = line_uses l ++ uses_in ls

uses_are : (xs : List TypedLine) → uses_of xs ≡ uses_in (map (λ (x : TypedLine). x.line) xs)
uses_are [] = refl
uses_are (x ∷ xs) = ap (λ (us : List Use). line_uses x.line ++ us) (uses_are xs)

among_or : (u : Use) (xs ys : List Use) → Among u (xs ++ ys) → Among u xs ⊎ Among u ys
among_or u [] ys among = inr among
among_or u (x ∷ xs) ys (inl is) = inl (inl is)
among_or u (x ∷ xs) ys (inr among) = elim (among_or u xs ys among) [ inl first ↦ inl (inr first) | inr second ↦ inr second ]

-- ---- nodes

module _ {F : Type 0} (H : Functions) (first now : GraphView F) (makes : List Planned) (made : List Made) (h : IsMaking H first now makes made)
    (sound : arena.IsSoundArena now.nodes) where
  abbrev Done : List Planned
  Done = take (length made) makes

  front_is : {A : Type 0} (xs : List A) (n i : ℕ) (x : A) → slice_get (take n xs) i ≡ Some x → (i < n) × (slice_get xs i ≡ Some x)
  front_is xs zero i x is = absurd (cc)
  front_is [] (suc n) i x is = absurd (cc)
  front_is (y ∷ xs) (suc n) zero x is = (omega arith, is)
  front_is (y ∷ xs) (suc n) (suc i) x is = let rest = front_is xs n i x is in (omega (arith, rest.0), rest.1)

  -- a part's node was given, and fits its type
  pub part_fits : (p : Part) (t : Ty) → PartFits first.nodes makes t p → IsEarlier Done p
      → Given now.nodes.given (node_of made p) × Fits now.nodes (node_of made p) t
  part_fits (Named n) t fits early = (given_still first now h.extends n fits.0, fits_still first now h.extends n t fits.0 fits.1)
  part_fits (Numbered i) t (x, at, ty) early =
      let low = front_is makes (length made) i (planned.Node early.0) early.1 in
      let r = h.types i x at low.0 in
      (sound.given (made_node made i) (rw r.1 refl), row_fits now.nodes (made_node made i) t r.0 r.1 (r.2 ∙ ty))

  parts_fit : (ps : List Part) (tys : List Ty) → AllZip (λ (p : Part) (t : Ty). PartFits first.nodes makes t p) ps tys
      → All (IsEarlier Done) ps → AllZip (Fits now.nodes) (map (node_of made) ps) tys
  parts_fit [] [] fits early = tt
  parts_fit [] (t ∷ tys) fits early = absurd fits
  parts_fit (p ∷ ps) [] fits early = absurd fits
  parts_fit (p ∷ ps) (t ∷ tys) fits early =
      ((part_fits p t fits.0 (All-head (IsEarlier Done) p ps early)).1, parts_fit ps tys fits.1 (All-tail (IsEarlier Done) p ps early))

  parts_given : (ps : List Part) (tys : List Ty) → AllZip (λ (p : Part) (t : Ty). PartFits first.nodes makes t p) ps tys
      → All (IsEarlier Done) ps → Every (Given now.nodes.given) (map (node_of made) ps)
  parts_given [] [] fits early = tt
  parts_given [] (t ∷ tys) fits early = absurd fits
  parts_given (p ∷ ps) [] fits early = absurd fits
  parts_given (p ∷ ps) (t ∷ tys) fits early =
      ((part_fits p t fits.0 (All-head (IsEarlier Done) p ps early)).0, parts_given ps tys fits.1 (All-tail (IsEarlier Done) p ps early))

  each_fits : (ps : List Part) (t : Ty) → Every (PartFits first.nodes makes t) ps → All (IsEarlier Done) ps
      → Every (λ n. Fits now.nodes n t) (map (node_of made) ps)
  each_fits [] t fits early = tt
  each_fits (p ∷ ps) t fits early =
      ((part_fits p t fits.0 (All-head (IsEarlier Done) p ps early)).1, each_fits ps t fits.1 (All-tail (IsEarlier Done) p ps early))

  each_given : (ps : List Part) (t : Ty) → Every (PartFits first.nodes makes t) ps → All (IsEarlier Done) ps
      → Every (Given now.nodes.given) (map (node_of made) ps)
  each_given [] t fits early = tt
  each_given (p ∷ ps) t fits early =
      ((part_fits p t fits.0 (All-head (IsEarlier Done) p ps early)).0, each_given ps t fits.1 (All-tail (IsEarlier Done) p ps early))

  -- the values of steps refer to what was given, and are of the first one's type
  steps_given : (v : Value) (steps : List Step) → Every (λ (s : Step). (type_of s.value ≡ type_of v) × RefersToFit first.nodes s.value) steps
      → Every (λ (s : Step). ValueWithin (Given now.nodes.given) s.value) steps
  steps_given v [] fits = tt
  steps_given v (s ∷ steps) fits = (refers_given now.nodes s.value (refers_still first now h.extends s.value fits.0.1), steps_given v steps fits.1)

  steps_make : (v : Value) (steps : List Step) → Every (λ (s : Step). (type_of s.value ≡ type_of v) × RefersToFit first.nodes s.value) steps
      → Every (λ (s : Step). HasType now.nodes s.value (type_of v)) steps
  steps_make v [] fits = tt
  steps_make v (s ∷ steps) fits = (
    record { type = fits.0.0; reference = refers_fits now.nodes s.value (refers_still first now h.extends s.value fits.0.1) },
    steps_make v steps fits.1,
  )

  -- ---- what the graph takes

  module _ (maps known : FnRef → Bool) (right : FnRef → RightSide) (more_known : (f : FnRef) → IsTrue (maps f) → f.id.kind ≡ kind.Map → IsTrue (known f))
      (served : AreServed known right makes made) (holds : SidesHold known right) (fit : AllPlannedFit maps first.nodes makes) where
    open_welcome : (x : Open) → OpenFits maps first.nodes makes x → NodeNeedsEarlier Done x
        → IsWelcome known right now.nodes (filled made x) (open_ty x)
    open_welcome (Const v) fits early =
        let still = refers_still first now h.extends v fits in record {
          named = refers_given now.nodes v still;
          makes = record { type = refl; reference = refers_fits now.nodes v still };
          timed = tt;
          calls = tt;
        }
    open_welcome (Var v) fits early =
        let still = refers_still first now h.extends v fits in record {
          named = refers_given now.nodes v still;
          makes = record { type = refl; reference = refers_fits now.nodes v still };
          timed = tt;
          calls = tt;
        }
    open_welcome (Map f parts) fits early = record {
      named = (tt, parts_given parts f.sig.takes fits.2 early);
      makes = record { kind = fits.1; children = parts_fit parts f.sig.takes fits.2 early; gives = refl };
      timed = tt;
      calls = more_known f fits.0 fits.1;
    }
    open_welcome (Fold f v parts) fits early = record {
      named = (tt, value_given (Given now.nodes.given) v fits.base, each_given parts fits.element fits.parts_fit early);
      makes = record {
        kind = fits.kind;
        takes = subst (λ (tys : List Ty). FoldTakes now.nodes f.sig.gives (map (node_of made) parts) tys) (sym fits.takes)
            (refl, each_fits parts fits.element fits.parts_fit early);
        gives = refl;
        initial = record { type = fits.initial; reference = reference_fits now.nodes v fits.base };
      };
      timed = tt;
      calls = more_known f fits.is_known fits.kind;
    }
    open_welcome (If ty test left other) fits early =
        let t = part_fits test types.Bool fits.0 early.0 in
        let a = part_fits left ty fits.1 early.1 in
        let b = part_fits other ty fits.2 early.2 in
        record { named = (t.0, a.0, b.0); makes = (t.1, a.1, b.1); timed = tt; calls = tt }
    open_welcome (Join ty child) fits early =
        let c = part_fits child (types.Node fits.0) fits.1 early in
        record { named = c.0; makes = (fits.0, ap base_of (sym fits.2) ∙ base_back fits.0, c.1); timed = tt; calls = tt }
    open_welcome (Bind ty left body) (u, left_fits, (o, at, sig)) early =
        let l = part_fits left u left_fits early.0 in
        let low = front_is makes (length made) body (planned.Body early.1.0) early.1.1 in
        let m = h.stands.functions body o at low.0 in
        let is_sig = m.sig ∙ sig in
        record {
          named = (tt, l.0, tt);
          makes = record {
            kind = m.kind;
            takes = subst (λ (s : Signature). BindTakes now.nodes (node_of made left) [] s.takes) (sym is_sig) (l.1, tt);
            gives = ap (λ (s : Signature). s.gives) is_sig;
          };
          timed = tt;
          calls = (
            served.known_each body o at low.0,
            subst (AreFit now.nodes) (sym (served.ids body o at low.0))
                (all_fit_still first now h.extends o.page.listed (fit body (planned.Body o) at).listed),
          );
        }
    open_welcome (At time) fits early = record { named = tt; makes = refl; timed = tt; calls = tt }
    open_welcome (Steps v steps) fits early =
        let still = refers_still first now h.extends v fits.0 in record {
          named = (refers_given now.nodes v still, steps_given v steps fits.1);
          makes = (record { type = refl; reference = refers_fits now.nodes v still }, steps_make v steps fits.1);
          timed = tt;
          calls = tt;
        }
    open_welcome Now fits early = record { named = tt; makes = refl; timed = tt; calls = tt }
    open_welcome (Counts base span) fits early = record {
      named = tt;
      makes = refl;
      timed = subst (λ (t : ℤ). IsTimed t (graph_def.Every base (pos span))) (sym h.extends.time) fits;
      calls = tt;
    }
    open_welcome (Freeze ty child predicate) fits early =
        let c = part_fits child ty fits.child_fits early in record {
          named = (tt, c.0);
          makes = record { kind = fits.kind; takes = fits.takes; gives = fits.gives; child = c.1 };
          timed = tt;
          calls = more_known predicate fits.is_known fits.kind;
        }
    open_welcome (Expert f v) fits early =
        let still = refers_still first now h.extends v fits.refers in record {
          named = (tt, refers_given now.nodes v still, tt);
          makes = record {
            kind = fits.kind;
            takes = subst (λ (tys : List Ty). FoldTakes now.nodes f.sig.gives [] tys) (sym fits.takes) (refl, tt);
            gives = refl;
            initial = record { type = fits.initial; reference = refers_fits now.nodes v still };
          };
          timed = tt;
          calls = more_known f fits.is_known fits.kind;
        }

    -- ---- bodies

    map_usable : (listed : List Listed) (u : Use) → IsTrue (maps u.function) × (u.function.id.kind ≡ kind.Map) → IsUsable known right listed u
    map_usable listed u (is, of_kind) =
        let none = holds.maps u.function (more_known u.function is of_kind, of_kind) in
        record {
          is_known = more_known u.function is of_kind;
          within = λ x among. absurd (subst (Among x) none.ids among);
          size = let zero_size = none.size in omega (arith, zero_size);
        }

    each_map_usable : (listed : List Listed) (us : List Use) → Every (λ (u : Use). IsTrue (maps u.function) × (u.function.id.kind ≡ kind.Map)) us
        → (u : Use) → Among u us → IsUsable known right listed u
    each_map_usable listed [] each u among = absurd among
    each_map_usable listed (x ∷ us) each u (inl is) = subst (IsUsable known right listed) (sym is) (map_usable listed x each.0)
    each_map_usable listed (x ∷ us) each u (inr among) = each_map_usable listed us each.1 u among

    line_usable : (listed : List Listed) (l : OpenLine) → LineFits maps Done listed l → (u : Use) → Among u (line_uses (line_filled made l))
        → IsUsable known right listed u
    line_usable listed (open_line.Ready l) fits u among = each_map_usable listed (line_uses l) fits u among
    line_usable listed (open_line.Bind left body most captures) (o, at, is_most, within) u (inl is) =
        let low = front_is makes (length made) body (planned.Body o) at in
        subst (IsUsable known right listed) (sym is) (record {
          is_known = served.known_each body o low.1 low.0;
          within = λ x among. within x (subst (Among x) (served.ids body o low.1 low.0) among);
          size = let size = served.size body o low.1 low.0 in omega (arith, size, is_most);
        })
    line_usable listed (open_line.Bind left body most captures) fits u (inr none) = absurd none

    lines_usable : (listed : List Listed) (ls : List OpenLine) → Every (LineFits maps Done listed) ls
        → (u : Use) → Among u (uses_in (map (line_filled made) ls)) → IsUsable known right listed u
    lines_usable listed [] each u among = absurd among
    lines_usable listed (l ∷ ls) each u among = elim (among_or u (line_uses (line_filled made l)) (uses_in (map (line_filled made) ls)) among) [
      | inl here ↦ line_usable listed l each.0 u here
      | inr rest ↦ lines_usable listed ls each.1 u rest
    ]

    body_welcome : (o : OpenBody) → BodyFits maps first.nodes Done o → (b : Bodies.Body) → IsFilled made o b → AreUsable known right (side_of b)
    body_welcome o fits b filled_b u among =
        let ls = uses_are b.draft.lines ∙ ap uses_in filled_b.lines in
        subst (λ (ids : List Listed). IsUsable known right ids u) (sym filled_b.listed)
        (lines_usable o.page.listed o.page.lines fits.lines u (subst (Among u) ls among))

    -- the graph takes what is to be made next
    pub next_welcome : (m : Make) → IsNext makes made (Some m) → IsWelcomeMake known right now.nodes m
    next_welcome m (planned.Node x, at, is) =
        subst (IsWelcomeMake known right now.nodes) (sym is)
        (open_welcome x (fit (length made) (planned.Node x) at) (order_of makes (length made) (planned.Node x) h.stands.order at))
    next_welcome m (planned.Body o, at, (b, is, filled_b)) =
        subst (IsWelcomeMake known right now.nodes) (sym is) (body_welcome o (fit (length made) (planned.Body o) at) b filled_b)

-- ---- steps

pub next_within : (makes : List Planned) (made : List Made) (m : Make) → IsNext makes made (Some m) → length made < length makes
next_within makes made m (x, at, is) = slice_get_within makes (length made) x at

below : (i count : ℕ) → i < count + 1 → (i < count) ⊎ (i ≡ count)
below i count less = grind (arith, less)

module _ (made : List Made) (one : Made) where
  at_old : (i : ℕ) → i < length made → made_at (made ++ one ∷ []) i ≡ made_at made i
  at_old i low = get_or_append_left made (one ∷ []) (was.Node make.no_node) i low

  at_last : (i : ℕ) → i ≡ length made → made_at (made ++ one ∷ []) i ≡ one
  at_last i is = get_or_at made one [] (was.Node make.no_node) i (sym is)

  size_more : length (made ++ one ∷ []) ≡ length made + 1
  size_more = length-append made (one ∷ [])

same_planned : (makes : List Planned) (i j : ℕ) (x y : Planned) → slice_get makes i ≡ Some x → slice_get makes j ≡ Some y → i ≡ j → x ≡ y
same_planned makes i j x y at_i at_j same = let e : Some x ≡ Some y = sym at_i ∙ (ap (slice_get makes) same ∙ at_j) in cc

not_both : (x : Open) (o : OpenBody) → planned.Node x ≡ planned.Body o → ⊥
not_both x o e = cc

same_open : (x y : Open) → planned.Node x ≡ planned.Node y → x ≡ y
same_open x y e = cc

same_body : (o p : OpenBody) → planned.Body o ≡ planned.Body p → o ≡ p
same_body o p e = cc

module _ {F : Type 0} where
  -- nothing was made yet
  pub none_made : (H : Functions) (s : GraphView F) (makes : List Planned) → AreInOrder [] makes → IsMaking H s s makes []
  none_made H s makes order = record {
    extends = extends_itself s;
    stands = none_stands H (graph s) makes order;
    types = λ i x at less. absurd (omega (arith, less));
    unbuilt = λ i x at less. absurd (omega (arith, less));
    unfrozen = λ i x at less. absurd (omega (arith, less));
    unlisted = λ i x at less. absurd (omega (arith, less));
    ids = λ i j x y at_i at_j less low. absurd (omega (arith, low));
    later = λ i x at less. absurd (omega (arith, less));
    given = omega arith;
    new_rows = λ n r is. inl is;
    few = omega arith;
  }

  module _ (H H' : Functions) (first now new : GraphView F) (makes : List Planned) (made : List Made) (h : IsMaking H first now makes made)
      (sound : arena.IsSoundArena now.nodes) (terms : elab.TermsStay H H' made) where
    -- a node was made
    module _ (y : Open) (next : slice_get makes (length made) ≡ Some (planned.Node y)) (id : NodeId) (adds : Adds now new id (top (filled made y) (open_ty y))) where
      abbrev last_one : Made
      last_one = was.Node id

      more : Extends now new
      more = adds_extends now new id (top (filled made y) (open_ty y)) adds refl

      old_node : (i : ℕ) → i < length made → made_node (made ++ last_one ∷ []) i ≡ made_node made i
      old_node i low = ap node_made (at_old made last_one i low)

      last_node : (i : ℕ) → i ≡ length made → made_node (made ++ last_one ∷ []) i ≡ id
      last_node i is = ap node_made (at_last made last_one i is)

      is_last : (i : ℕ) (x : Open) → slice_get makes i ≡ Some (planned.Node x) → i ≡ length made → y ≡ x
      is_last i x at is = same_open y x (same_planned makes (length made) i (planned.Node y) (planned.Node x) next at (sym is))

      -- the node of one that was made before was given before
      old_given : (i : ℕ) (x : Open) → slice_get makes i ≡ Some (planned.Node x) → i < length made → Given now.nodes.given (made_node made i)
      old_given i x at low = let r = h.types i x at low in sound.given (made_node made i) (rw r.1 refl)

      type_at : (i : ℕ) (x : Open) → slice_get makes i ≡ Some (planned.Node x) → (i < length made) ⊎ (i ≡ length made)
          → (r : Row) × (row_at new.nodes (made_node (made ++ last_one ∷ []) i) ≡ Some r) × (r.ty ≡ open_ty x)
      type_at i x at (inl less) =
          let r = h.types i x at less in
          (r.0, ap (row_at new.nodes) (old_node i less) ∙ live_stays now new sound more (made_node made i) r.0 r.1, r.2)
      type_at i x at (inr is) =
          (top (filled made y) (open_ty y), ap (row_at new.nodes) (last_node i is) ∙ adds.changes.changed, ap open_ty (is_last i x at is))

      unbuilt_at : (i : ℕ) (x : Open) → slice_get makes i ≡ Some (planned.Node x) → (i < length made) ⊎ (i ≡ length made)
          → (graph new).built (made_node (made ++ last_one ∷ []) i) ≡ None
      unbuilt_at i x at (inl less) =
          ap (λ (n : NodeId). (graph new).built n) (old_node i less) ∙ (adds.beside.of_nodes.built (made_node made i) (old_given i x at less) ∙ h.unbuilt i x at less)
      unbuilt_at i x at (inr is) = ap (λ (n : NodeId). (graph new).built n) (last_node i is) ∙ adds.unbuilt

      unfrozen_at : (i : ℕ) (x : Open) → slice_get makes i ≡ Some (planned.Node x) → (i < length made) ⊎ (i ≡ length made)
          → (graph new).frozen (made_node (made ++ last_one ∷ []) i) ≡ None
      unfrozen_at i x at (inl less) =
          ap (λ (n : NodeId). (graph new).frozen n) (old_node i less)
          ∙ (adds.beside.of_nodes.frozen (made_node made i) (old_given i x at less) ∙ h.unfrozen i x at less)
      unfrozen_at i x at (inr is) = ap (λ (n : NodeId). (graph new).frozen n) (last_node i is) ∙ adds.unfrozen

      unlisted_at : (i : ℕ) (x : Open) → slice_get makes i ≡ Some (planned.Node x) → (i < length made) ⊎ (i ≡ length made)
          → (graph new).lists (made_node (made ++ last_one ∷ []) i) ≡ []
      unlisted_at i x at (inl less) =
          ap (λ (n : NodeId). (graph new).lists n) (old_node i less)
          ∙ (adds.beside.of_nodes.lists (made_node made i) (old_given i x at less) ∙ h.unlisted i x at less)
      unlisted_at i x at (inr is) = ap (λ (n : NodeId). (graph new).lists n) (last_node i is) ∙ adds.unlisted

      later_at : (i : ℕ) (x : Open) → slice_get makes i ≡ Some (planned.Node x) → (i < length made) ⊎ (i ≡ length made)
          → first.nodes.given ≤ (made_node (made ++ last_one ∷ []) i).gen_
      later_at i x at (inl less) = subst (λ (n : NodeId). first.nodes.given ≤ n.gen_) (sym (old_node i less)) (h.later i x at less)
      later_at i x at (inr is) =
          subst (λ (n : NodeId). first.nodes.given ≤ n.gen_) (sym (last_node i is)) (let fresh = adds.fresh in let given = h.extends.given in omega (arith, fresh, given))

      ids_at : (i j : ℕ) (x z : Open) → slice_get makes i ≡ Some (planned.Node x) → slice_get makes j ≡ Some (planned.Node z) → i < j
          → (j < length made) ⊎ (j ≡ length made) → (made_node (made ++ last_one ∷ []) i).gen_ < (made_node (made ++ last_one ∷ []) j).gen_
      ids_at i j x z at_i at_j less (inl low) =
          let before = h.ids i j x z at_i at_j less low in
          subst (λ (n : NodeId). n.gen_ < (made_node (made ++ last_one ∷ []) j).gen_) (sym (old_node i (omega (arith, less, low))))
          (subst (λ (n : NodeId). (made_node made i).gen_ < n.gen_) (sym (old_node j low)) before)
      ids_at i j x z at_i at_j less (inr is) =
          let low : i < length made = omega (arith, less, is) in
          let given = old_given i x at_i low in
          let fresh = adds.fresh in
          subst (λ (n : NodeId). n.gen_ < (made_node (made ++ last_one ∷ []) j).gen_) (sym (old_node i low))
          (subst (λ (n : NodeId). (made_node made i).gen_ < n.gen_) (sym (last_node j is)) (omega (arith, given, fresh)))

      node_more : IsMaking H' first new makes (made ++ last_one ∷ [])
      node_more =
          let size = size_more made last_one in
          record {
            extends = extends_on first now new h.extends more;
            stands = one_more_stands H H' (graph now) (graph new) makes made (planned.Node y) last_one h.stands (live_stays now new sound more) terms next
                (tt, (top (filled made y) (open_ty y), adds.changes.changed, refl, refl));
            types = λ i x at less. type_at i x at (below i (length made) (omega (arith, less, size)));
            unbuilt = λ i x at less. unbuilt_at i x at (below i (length made) (omega (arith, less, size)));
            unfrozen = λ i x at less. unfrozen_at i x at (below i (length made) (omega (arith, less, size)));
            unlisted = λ i x at less. unlisted_at i x at (below i (length made) (omega (arith, less, size)));
            ids = λ i j x z at_i at_j less low. ids_at i j x z at_i at_j less (below j (length made) (omega (arith, low, size)));
            later = λ i x at less. later_at i x at (below i (length made) (omega (arith, less, size)));
            given = let given = adds.given in let before = h.given in omega (arith, given, before, size);
            new_rows = λ n r is. elim (node_or_other n id) [
              | inl same ↦ inr (among_right (was.Node n) made (last_one ∷ []) (inl (ap (λ (q : NodeId). was.Node q) same)))
              | inr other ↦ elim (h.new_rows n r (sym (adds.changes.others n other) ∙ is)) [
                | inl before ↦ inl before
                | inr new_one ↦ inr (among_left (was.Node n) made (last_one ∷ []) new_one)
              ]
            ];
            few = let more_live = live_more now.nodes new.nodes id (Some (top (filled made y) (open_ty y))) adds.changes in
                let before = h.few in omega (arith, before, more_live, size);
          }

    -- a body was kept
    module _ (o : OpenBody) (next : slice_get makes (length made) ≡ Some (planned.Body o)) (b : Bodies.Body) (filled_b : IsFilled made o b) (one : Made)
        (kept : IsBodyKept H' now new b one) where
      nodes_same : new.nodes ≡ now.nodes
      nodes_same = ap (λ (s : GraphView (Unit {0})). s.nodes) kept.rest

      -- a node that was made is no function
      before_last : (i : ℕ) (x : Open) → slice_get makes i ≡ Some (planned.Node x) → i < length (made ++ one ∷ []) → i < length made
      before_last i x at less = elim (below i (length made) (let size = size_more made one in omega (arith, less, size))) [
        | inl low ↦ low
        | inr is ↦ absurd (not_both x o (same_planned makes i (length made) (planned.Node x) (planned.Body o) at next is))
      ]

      same_node : (i : ℕ) → i < length made → made_node (made ++ one ∷ []) i ≡ made_node made i
      same_node i low = ap node_made (at_old made one i low)

      body_more : IsMaking H' first new makes (made ++ one ∷ [])
      body_more =
          let size = size_more made one in
          record {
            extends = extends_on first now new h.extends (rest_extends now new kept.rest);
            stands = one_more_stands H H' (graph now) (graph new) makes made (planned.Body o) one h.stands
                (λ n r is. ap (λ (a : Arena). row_at a n) nodes_same ∙ is) terms next
                (record {
                  body = b;
                  filled = filled_b;
                  is_function = kept.is_function;
                  kind = kept.kind;
                  sig = kept.sig ∙ filled_b.sig;
                  terms = kept.terms;
                });
            types = λ i x at less. let low = before_last i x at less in let r = h.types i x at low in
                (r.0, ap (row_at new.nodes) (same_node i low) ∙ (ap (λ (a : Arena). row_at a (made_node made i)) nodes_same ∙ r.1), r.2);
            unbuilt = λ i x at less. let low = before_last i x at less in
                ap (λ (n : NodeId). (graph new).built n) (same_node i low)
                ∙ (ap (λ (s : GraphView (Unit {0})). (graph s).built (made_node made i)) kept.rest ∙ h.unbuilt i x at low);
            unfrozen = λ i x at less. let low = before_last i x at less in
                ap (λ (n : NodeId). (graph new).frozen n) (same_node i low)
                ∙ (ap (λ (s : GraphView (Unit {0})). (graph s).frozen (made_node made i)) kept.rest ∙ h.unfrozen i x at low);
            unlisted = λ i x at less. let low = before_last i x at less in
                ap (λ (n : NodeId). (graph new).lists n) (same_node i low)
                ∙ (ap (λ (s : GraphView (Unit {0})). (graph s).lists (made_node made i)) kept.rest ∙ h.unlisted i x at low);
            ids = λ i j x z at_i at_j less low.
                let low_j = before_last j z at_j low in
                let low_i : i < length made = omega (arith, less, low_j) in
                subst (λ (n : NodeId). n.gen_ < (made_node (made ++ one ∷ []) j).gen_) (sym (same_node i low_i))
                (subst (λ (n : NodeId). (made_node made i).gen_ < n.gen_) (sym (same_node j low_j)) (h.ids i j x z at_i at_j less low_j));
            later = λ i x at less. let low = before_last i x at less in
                subst (λ (n : NodeId). first.nodes.given ≤ n.gen_) (sym (same_node i low)) (h.later i x at low);
            given = let same = ap (λ (a : Arena). a.given) nodes_same in let before = h.given in omega (arith, same, before, size);
            new_rows = λ n r is. elim (h.new_rows n r (ap (λ (a : Arena). row_at a n) (sym nodes_same) ∙ is)) [
              | inl before ↦ inl before
              | inr new_one ↦ inr (among_left (was.Node n) made (one ∷ []) new_one)
            ];
            few = let same = ap live nodes_same in let before = h.few in omega (arith, before, same, size);
          }

    by_node : (y : Open) → slice_get makes (length made) ≡ Some (planned.Node y) → (one : Made) → IsNodeAdded now new (filled made y) (open_ty y) one
        → IsMaking H' first new makes (made ++ one ∷ [])
    by_node y next (was.Node id) adds = node_more y next id adds
    by_node y next (was.Fn f) adds = absurd adds

    -- one more was made
    pub one_more_made : (m : Make) → IsNext makes made (Some m) → (one : Made) → IsMadeIn H' now new m one → IsMaking H' first new makes (made ++ one ∷ [])
    one_more_made m (planned.Node y, at, is) it done = by_node y at it (subst (λ (n : Make). IsMadeIn H' now new n it) is done)
    one_more_made m (planned.Body o, at, (b, is, filled_b)) it done =
        body_more o at b filled_b it (subst (λ (n : Make). IsMadeIn H' now new n it) is done)

-- ---- functions that were made

-- of nothing that was made no function is wanted
pub none_served : (known : FnRef → Bool) (right : FnRef → RightSide) (makes : List Planned) → AreServed known right makes []
none_served known right makes = record {
  known_each = λ i o at less. absurd (omega (arith, less));
  ids = λ i o at less. absurd (omega (arith, less));
  size = λ i o at less. absurd (omega (arith, less));
}

-- what a function that was made serves by
abbrev pub ServesAs : (FnRef → Bool) → (FnRef → RightSide) → Make → Made → Type 0
ServesAs known right (make.Node d ty) it = Unit {0}
ServesAs known right (make.Right b) it = IsTrue (known (function_made it)) × (right (function_made it) ≡ side_of b)

-- what is so of a function that was made of the body
abbrev ServesBody : (FnRef → Bool) → (FnRef → RightSide) → Made → OpenBody → Type 0
ServesBody known right it o = IsTrue (known (function_made it)) × ((right (function_made it)).ids ≡ o.page.listed)
    × ((right (function_made it)).size ≡ size_of o.page)

-- how large the lines are
abbrev sizes_in : List Line → ℕ
sizes_in [] = 0
sizes_in (l ∷ ls) = line_size l + sizes_in ls

filled_size : (made : List Made) (ls : List OpenLine) (xs : List TypedLine) → map (λ (x : TypedLine). x.line) xs ≡ map (line_filled made) ls
    → sizes xs ≡ sum_by open_size ls
filled_size made ls xs same = sizes_are xs ∙ (ap sizes_in same ∙ sizes_filled ls)
  where
    sizes_are : (xs : List TypedLine) → sizes xs ≡ sizes_in (map (λ (x : TypedLine). x.line) xs)
    sizes_are [] = refl
    sizes_are (x ∷ xs) = sum_by-cons (λ (y : TypedLine). line_size y.line) x xs ∙ ap (λ (n : ℕ). line_size x.line + n) (sizes_are xs)

    line_same : (l : OpenLine) → line_size (line_filled made l) ≡ open_size l
    line_same (open_line.Ready l) = refl
    line_same (open_line.Bind left body most captures) = refl

    sizes_filled : (ls : List OpenLine) → sizes_in (map (line_filled made) ls) ≡ sum_by open_size ls
    sizes_filled [] = refl
    sizes_filled (l ∷ ls) =
        ap (λ (n : ℕ). n + sizes_in (map (line_filled made) ls)) (line_same l)
        ∙ (ap (λ (n : ℕ). open_size l + n) (sizes_filled ls) ∙ sym (sum_by-cons open_size l ls))

module _ (known known' : FnRef → Bool) (right right' : FnRef → RightSide) (keeps : (f : FnRef) → IsTrue (known f) → IsTrue (known' f))
    (same : (f : FnRef) → IsTrue (known f) → right' f ≡ right f) (makes : List Planned) (made : List Made) (served : AreServed known right makes made) where
  -- functions that were made have the terms that they had, where what was known makes what it made
  pub terms_on : (value value' : FnRef → List Value → Value) → AreMadeAs makes made → elab.TermsStay (meaning value right) (meaning value' right') made
  terms_on value value' kinds i f is v =
      let x = body_of_function makes made i f kinds is in
      let at : made_at made i ≡ was.Fn f = made_is made i (was.Fn f) is in
      let known_f : IsTrue (known f) =
      subst (λ (m : Made). IsTrue (known (function_made m))) at (served.known_each i x.0 x.1 (slice_get_within made i (was.Fn f) is)) in
      ap (λ (r : RightSide). r.term v) (same f known_f)
    where
      made_is : (ms : List Made) (i : ℕ) (m : Made) → slice_get ms i ≡ Some m → made_at ms i ≡ m
      made_is [] i m is = absurd (cc)
      made_is (x ∷ ms) zero m is = cc
      made_is (x ∷ ms) (suc i) m is = made_is ms i m is

      body_of_function : (makes : List Planned) (made : List Made) (i : ℕ) (f : FnRef) → AreMadeAs makes made → slice_get made i ≡ Some (was.Fn f)
          → (o : OpenBody) × (slice_get makes i ≡ Some (planned.Body o))
      body_of_function makes [] i f kinds is = absurd (cc)
      body_of_function [] (m ∷ made) i f kinds is = absurd kinds
      body_of_function (planned.Body o ∷ makes) (m ∷ made) zero f kinds is = (o, refl)
      body_of_function (planned.Node x ∷ makes) (m ∷ made) zero f kinds is =
          absurd (let same : m ≡ was.Fn f = cc in subst IsNode same kinds.0)
      body_of_function (x ∷ makes) (m ∷ made) (suc i) f kinds is = body_of_function makes made i f kinds.1 is

  -- one more was made
  pub one_more_served : (m : Make) → IsNext makes made (Some m) → (one : Made) → ServesAs known' right' m one → AreServed known' right' makes (made ++ one ∷ [])
  one_more_served m (x, at, is) one serves = record {
    known_each = λ i o at_i less. (each i o at_i (below i (length made) (let size = size_more made one in omega (arith, less, size)))).0;
    ids = λ i o at_i less. (each i o at_i (below i (length made) (let size = size_more made one in omega (arith, less, size)))).1;
    size = λ i o at_i less. (each i o at_i (below i (length made) (let size = size_more made one in omega (arith, less, size)))).2;
  }
    where
      by_planned : (x : Planned) (o : OpenBody) → x ≡ planned.Body o → Makes made x m → ServesBody known' right' one o
      by_planned (planned.Node y) o e is = absurd (not_both y o e)
      by_planned (planned.Body p) o e (b, m_is, filled_b) =
          let s = subst (λ (n : Make). ServesAs known' right' n one) m_is serves in
          let size = filled_size made p.page.lines b.draft.lines filled_b.lines in
          subst (ServesBody known' right' one) (same_body p o e) (
            s.0,
            ap (λ (r : RightSide). r.ids) s.1 ∙ filled_b.listed,
            ap (λ (r : RightSide). r.size) s.1 ∙ ap (λ (n : ℕ). 1 + n) size,
          )

      each : (i : ℕ) (o : OpenBody) → slice_get makes i ≡ Some (planned.Body o) → (i < length made) ⊎ (i ≡ length made)
          → ServesBody known' right' (made_at (made ++ one ∷ []) i) o
      each i o at_i (inl low) =
          let is_known = served.known_each i o at_i low in
          let side = same (function_made (made_at made i)) is_known in
          subst (λ (n : Made). ServesBody known' right' n o) (sym (at_old made one i low)) (
            keeps (function_made (made_at made i)) is_known,
            ap (λ (r : RightSide). r.ids) side ∙ served.ids i o at_i low,
            ap (λ (r : RightSide). r.size) side ∙ served.size i o at_i low,
          )
      each i o at_i (inr last) =
          subst (λ (n : Made). ServesBody known' right' n o) (sym (at_last made one i last))
          (by_planned x o (same_planned makes (length made) i x (planned.Body o) at at_i (sym last)) is)
