-- Lines of a body are added to a draft, each of its type.
use Rattle.std.proofs.Common.{◌≡◌, ℕ, ◌+◌, ◌<◌, ◌≤◌, ◌^◌, List, [], ◌∷◌, ◌++◌, length, map, drop, take, get_or, sum_by, Option, Some, arith, refl, sym, ◌∙◌, ap, subst}
use Rattle.std.proofs.lemmas.List.{append-nil, append_assoc, drop_more, drop_all}
use Rattle.std.proofs.lemmas.List.Sums.{sum_by-drop_more}
use Rattle.inc_value.specs.Choice.{Every}
use Rattle.inc_value.specs.Ty.{base_of}
use Rattle.inc_value.specs.declared.ty.Base.{Base}
use Rattle.inc_value.specs.declared.ty.Base.TheVariants as base
use Rattle.inc_value.specs.declared.ty.Ty.{Ty}
use Rattle.inc_value.specs.declared.ty.Ty.TheVariants as ty
use Rattle.node_arena.specs.Listing.{Listed}
use Rattle.script_functions.specs.Bodies as functions
use Rattle.script_functions.specs.Bodies.{captured, line_types, type_at, size_of, IsAdded, IsThere, NextHas}
use Rattle.script_functions.specs.Lines.{line_size, parts_of, AreTyped, LineHas}
use Rattle.script_functions.specs.declared.line.Line.{Line}
use Rattle.script_functions.specs.declared.line.Line.TheVariants as lines
use Rattle.script_functions.specs.declared.line.Part.{Part}
use Rattle.script_functions.specs.declared.line.TypedLine.{TypedLine}
use Rattle.script_functions.proofs.Adding.{line_there, size_more}
use Rattle.formula_elab.specs.Bodies.{line_filled, open_size, AreAddable, LineNeedsMade}
use Rattle.formula_elab.specs.declared.body.OpenLine.{OpenLine}
use Rattle.formula_elab.specs.declared.body.OpenLine.TheVariants as open_line
use Rattle.formula_elab.specs.declared.make.Made.{Made}

-- ---- types

one_base : (t t' : Ty) (b : Base) → base_of t ≡ Some b → base_of t' ≡ Some b → t ≡ t'
one_base ty.Int ty.Int b e e' = refl
one_base ty.Int ty.Bool b e e' = absurd (let same : Some base.Int ≡ Some base.Bool = e ∙ sym e' in cc)
one_base ty.Int ty.Text b e e' = absurd (let same : Some base.Int ≡ Some base.Text = e ∙ sym e' in cc)
one_base ty.Bool ty.Int b e e' = absurd (let same : Some base.Bool ≡ Some base.Int = e ∙ sym e' in cc)
one_base ty.Bool ty.Bool b e e' = refl
one_base ty.Bool ty.Text b e e' = absurd (let same : Some base.Bool ≡ Some base.Text = e ∙ sym e' in cc)
one_base ty.Text ty.Int b e e' = absurd (let same : Some base.Text ≡ Some base.Int = e ∙ sym e' in cc)
one_base ty.Text ty.Bool b e e' = absurd (let same : Some base.Text ≡ Some base.Bool = e ∙ sym e' in cc)
one_base ty.Text ty.Text b e e' = refl
one_base (ty.Node c) t' b e e' = absurd cc
one_base t (ty.Node c) b e e' = absurd cc

-- a line is of one type alone
one_type : (listed : List Listed) (T : Part → Option Ty) (line : Line) (t t' : Ty) → LineHas listed T line t → LineHas listed T line t' → t ≡ t'
one_type listed T (lines.Const v) t t' h h' = sym h.type ∙ h'.type
one_type listed T (lines.Map f ps) t t' h h' = sym h.gives ∙ h'.gives
one_type listed T (lines.Fold f v ps) t t' h h' = sym h.gives ∙ h'.gives
one_type listed T (lines.If c a b) t t' h h' = let same : Some t ≡ Some t' = sym h.1 ∙ h'.1 in cc
one_type listed T (lines.Join p) t t' h h' =
    let both : Some (ty.Node h.0) ≡ Some (ty.Node h'.0) = sym h.2 ∙ h'.2 in
    let same : h.0 ≡ h'.0 = cc in
    one_base t t' h'.0 (subst (λ b. base_of t ≡ Some b) same h.1) h'.1
one_type listed T (lines.Bind l f most ps) t t' h h' = sym h.gives ∙ h'.gives
one_type listed T (lines.At time) t t' h h' = h ∙ sym h'
one_type listed T (lines.Steps first steps) t t' h h' = sym h.0.type ∙ h'.0.type
one_type listed T lines.Now t t' h h' = h ∙ sym h'

-- ---- sizes

filled_size : (made : List Made) (x : OpenLine) → line_size (line_filled made x) ≡ open_size x
filled_size made (open_line.Ready line) = refl
filled_size made (open_line.Bind left body most captures) = refl

-- ---- one line more

abbrev row_of : Line → Ty → TypedLine
row_of line t = record { line = line; ty = t }

abbrev ty_of_line : TypedLine → Ty
ty_of_line x = x.ty

map_push : (xs : List TypedLine) (x : TypedLine) → map ty_of_line (xs ++ x ∷ []) ≡ map ty_of_line xs ++ x.ty ∷ []
map_push [] x = refl
map_push (y ∷ xs) x = ap (λ ts. y.ty ∷ ts) (map_push xs x)

types_push : (takes : List Ty) (xs : List TypedLine) (x : TypedLine) → line_types takes (xs ++ x ∷ []) ≡ line_types takes xs ++ x.ty ∷ []
types_push takes xs x =
    ap (λ ts. take 1 takes ++ ts) (map_push xs x) ∙ sym (append_assoc (take 1 takes) (map ty_of_line xs) (x.ty ∷ []))

-- where the first of lines that can be added was, the rest can be
pub addable_more : (made : List Made) (x : OpenLine) (xs : List OpenLine) (d d' : functions.Draft) (typed : List TypedLine)
    → AreAddable made (x ∷ xs) d typed → IsAdded d d' (line_filled made x)
    → (rest : List TypedLine) × AreAddable made xs d' rest × (d.lines ++ typed ≡ d'.lines ++ rest)
addable_more made x xs d d' [] h added = absurd (let e = h.same in cc)
addable_more made x xs d d' (y ∷ ys) h added = (ys, record { same = rest_is; fit = fit }, sym joined)
  where
    line_is : y.line ≡ line_filled made x
    line_is = let e = h.same in cc

    rest_is : map (λ (z : TypedLine). z.line) ys ≡ map (line_filled made) xs
    rest_is = let e = h.same in cc

    once : added.0 ≡ y.ty
    once = one_type d.listed (type_at d) (line_filled made x) added.0 y.ty added.1
        (subst (λ z. LineHas d.listed (type_at d) z y.ty) line_is h.fit.0)

    is_y : row_of (line_filled made x) added.0 ≡ y
    is_y = ap (λ (z : Line). row_of z added.0) (sym line_is) ∙ ap (λ (u : Ty). row_of y.line u) once

    is_d : d' ≡ record d { lines = d.lines ++ y ∷ [] }
    is_d = added.2 ∙ ap (λ (z : TypedLine). record d { lines = d.lines ++ z ∷ [] }) is_y

    fit : AreTyped d'.listed (captured d'.sig.takes) (line_types d'.sig.takes d'.lines) ys
    fit = subst (λ (z : functions.Draft). AreTyped z.listed (captured z.sig.takes) (line_types z.sig.takes z.lines) ys) (sym is_d)
        (subst (λ ts. AreTyped d.listed (captured d.sig.takes) ts ys) (sym (types_push d.sig.takes d.lines y)) h.fit.1)

    joined : d'.lines ++ ys ≡ d.lines ++ (y ∷ ys)
    joined = ap (λ (z : functions.Draft). z.lines ++ ys) is_d ∙ append_assoc d.lines (y ∷ []) ys

-- the lines from the i-th on can be added behind those that were
pub record AreBeingAdded (made : List Made) (lines : List OpenLine) (i : ℕ) (old d : functions.Draft) : Type 0 where
  pub sig : d.sig ≡ old.sig
  pub listed : d.listed ≡ old.listed
  pub needs : Every (LineNeedsMade made) (drop i lines)
  pub few : size_of d + sum_by open_size (drop i lines) < 2 ^ 64
  pub there : (typed : List TypedLine) × AreAddable made (drop i lines) d typed
  pub rest : (typed : List TypedLine) → AreAddable made lines old typed
      → (rest : List TypedLine) × AreAddable made (drop i lines) d rest × (old.lines ++ typed ≡ d.lines ++ rest)

module _ (made : List Made) (xs : List OpenLine) (i : ℕ) (old d : functions.Draft) (x : OpenLine) (within : i < length xs)
    (is : x ≡ get_or xs i x) (h : AreBeingAdded made xs i old d) where
  next : drop i xs ≡ x ∷ drop (i + 1) xs
  next = drop_more xs i x within ∙ ap (λ z. z ∷ drop (i + 1) xs) (sym is)

  sum_next : sum_by open_size (drop i xs) ≡ open_size x + sum_by open_size (drop (i + 1) xs)
  sum_next = sum_by-drop_more open_size xs i x within ∙ ap (λ z. open_size z + sum_by open_size (drop (i + 1) xs)) (sym is)

  pub next_fits : (t : Ty) × NextHas d (line_filled made x) t
  next_fits = go h.there.0 (subst (λ zs. AreAddable made zs d h.there.0) next h.there.1)
    where
      go : (typed : List TypedLine) → AreAddable made (x ∷ drop (i + 1) xs) d typed → (t : Ty) × NextHas d (line_filled made x) t
      go [] a = absurd (let e = a.same in cc)
      go (y ∷ ys) a =
          let e = a.same in
          let line_is : y.line ≡ line_filled made x = cc in
          (y.ty, subst (λ z. LineHas d.listed (type_at d) z y.ty) line_is a.fit.0)

  pub next_there : Every (IsThere d) (parts_of (line_filled made x))
  next_there = line_there (type_at d) d.listed (line_filled made x) next_fits.0 next_fits.1

  pub next_small : size_of d + line_size (line_filled made x) < 2 ^ 64
  next_small = omega (arith, h.few, sum_next, filled_size made x)

  pub added_more : (d' : functions.Draft) → IsAdded d d' (line_filled made x) → AreBeingAdded made xs (i + 1) old d'
  added_more d' added = record {
    sig = ap (λ (z : functions.Draft). z.sig) added.2 ∙ h.sig;
    listed = ap (λ (z : functions.Draft). z.listed) added.2 ∙ h.listed;
    needs = (subst (λ zs. Every (LineNeedsMade made) zs) next h.needs).1;
    few = omega (arith, h.few, sum_next, filled_size made x, ap (λ (z : functions.Draft). size_of z) added.2, size_more d (line_filled made x) added.0);
    there = let m = addable_more made x (drop (i + 1) xs) d d' h.there.0 (subst (λ zs. AreAddable made zs d h.there.0) next h.there.1) added in
        (m.0, m.1);
    rest = λ typed a.
        let r = h.rest typed a in
        let m = addable_more made x (drop (i + 1) xs) d d' r.0 (subst (λ zs. AreAddable made zs d r.0) next r.1) added in
        (m.0, m.1, r.2 ∙ m.2);
  }

-- at the end all were added
pub all_added : (made : List Made) (xs : List OpenLine) (i : ℕ) (old d : functions.Draft) → length xs ≤ i → AreBeingAdded made xs i old d
    → (typed : List TypedLine) → AreAddable made xs old typed → d.lines ≡ old.lines ++ typed
all_added made xs i old d past h typed a = go (h.rest typed a).0 (h.rest typed a).1 (h.rest typed a).2
  where
    none : drop i xs ≡ []
    none = drop_all i xs past

    go : (rest : List TypedLine) → AreAddable made (drop i xs) d rest → old.lines ++ typed ≡ d.lines ++ rest → d.lines ≡ old.lines ++ typed
    go [] r e = sym (e ∙ append-nil d.lines)
    go (y ∷ ys) r e = absurd (let s = r.same ∙ ap (map (line_filled made)) none in cc)
