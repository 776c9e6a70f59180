-- Lists of what entries mean.
use Rattle.std.proofs.Common.{◌≡◌, ◌<◌, ℕ, zero, suc, List, [], ◌∷◌, ◌++◌, map, length, slice_set, slice_get}
use Rattle.std.proofs.Common.{Option, Some, refl, ap, subst, sym, ◌∙◌}
use Rattle.std.specs.Prelude.{get_or, option_map, Result, IfOk}
use Rattle.inc_value.specs.Counts.{raised}
use Rattle.inc_value.specs.Sig.{Signature}
use Rattle.inc_value.specs.declared.function.FnKind.TheVariants as kind
use Rattle.inc_value.specs.declared.function.FnRef.{FnRef}
use Rattle.inc_value.specs.declared.node.NodeId.{NodeId}
use Rattle.inc_value.specs.declared.value.Value.{Value}
use Rattle.node_arena.specs.Building.{Building}
use Rattle.node_arena.specs.RightSide.{RightSide, IsRoot}
use Rattle.closures.specs.Counting.{raised_at, IsCalledOnce}
use Rattle.closures.specs.Tables.{by_kind}
use Rattle.std.proofs.lemmas.List.{map-append, length-map}
use Rattle.std.proofs.lemmas.Option.{slice_get_read, slice_get-map}

-- another element that means the same
map_kept : {A B : Type 0} (g : A → B) (xs : List A) (i : ℕ) (x y : A) → slice_get xs i ≡ Some y → g x ≡ g y
    → map g (slice_set xs i x) ≡ map g xs
map_kept g [] i x y there same = refl
map_kept g (z ∷ zs) zero x y there same =
    let yz : z ≡ y = cc in
    let e : g x ≡ g z = rw yz same in
    ap (λ b. b ∷ map g zs) e
map_kept g (z ∷ zs) (suc i) x y there same = ap (λ bs. g z ∷ bs) (map_kept g zs i x y there same)

-- another element whose count is one more
raised_in : {A : Type 0} (g : A → ℕ) (xs : List A) (i : ℕ) (x y : A) → slice_get xs i ≡ Some y → g x ≡ raised (g y)
    → map g (slice_set xs i x) ≡ raised_at i (map g xs)
raised_in g [] i x y there more = refl
raised_in g (z ∷ zs) zero x y there more =
    let yz : z ≡ y = cc in
    let e : g x ≡ raised (g z) = rw yz more in
    ap (λ b. b ∷ map g zs) e
raised_in g (z ∷ zs) (suc i) x y there more = ap (λ bs. g z ∷ bs) (raised_in g zs i x y there more)

-- so it is with what is read by index
pub map_raised : {A : Type 0} (g : A → ℕ) (xs : List A) (i : ℕ) (y : A) → i < length xs → y ≡ get_or xs i y
    → (x : A) → g x ≡ raised (g y) → map g (slice_set xs i x) ≡ raised_at i (map g xs)
map_raised g xs i y within is x more =
    raised_in g xs i x y (slice_get_read xs (length xs) i y refl within is) more

-- a map was called once more, and nothing else
pub map_called : (f : FnRef) (maps sides new : List ℕ) → f.id.kind ≡ kind.Map → new ≡ raised_at f.id.number maps
    → IsCalledOnce f maps sides new sides
map_called f maps sides new is called = record {
  maps = called ∙ sym (ap (λ k. by_kind k (raised_at f.id.number maps) maps) is);
  sides = sym (ap (λ k. by_kind k sides (raised_at f.id.number sides)) is);
}

-- so was a function of right sides
pub side_called : (f : FnRef) (maps sides new : List ℕ) → f.id.kind ≡ kind.Rhs → new ≡ raised_at f.id.number sides
    → IsCalledOnce f maps sides maps new
side_called f maps sides new is called = record {
  maps = sym (ap (λ k. by_kind k (raised_at f.id.number maps) maps) is);
  sides = called ∙ sym (ap (λ k. by_kind k sides (raised_at f.id.number sides)) is);
}

module _ {A B : Type 0} (g : A → B) (xs : List A) (i : ℕ) (y : A)
    (within : i < length xs) (is : y ≡ get_or xs i y) where
  -- what is read by index stands there
  read : slice_get xs i ≡ Some y
  read = slice_get_read xs (length xs) i y refl within is

  -- and another that means the same may stand there
  pub map_same : (x : A) → g x ≡ g y → map g (slice_set xs i x) ≡ map g xs
  map_same x same = map_kept g xs i x y read same

  -- it means what stands there
  pub means_read : slice_get (map g xs) i ≡ Some (g y)
  means_read = slice_get-map g xs i ∙ ap (option_map g) read

  -- and that is all that stands there
  pub read_is : (m : B) → slice_get (map g xs) i ≡ Some m → g y ≡ m
  read_is m there = let e : Some (g y) ≡ Some m = sym means_read ∙ there in cc

-- one more that means what it does
pub map_push : {A B : Type 0} (g : A → B) (xs ys zs : List A) (x : A) → ys ≡ xs → zs ≡ ys ++ x ∷ []
    → map g zs ≡ map g xs ++ g x ∷ []
map_push g xs ys zs x e e' = ap (map g) (e' ∙ ap (λ l. l ++ x ∷ []) e) ∙ map-append g xs (x ∷ [])

pub length_of : {A B : Type 0} (g : A → B) (xs : List A) (n : ℕ) → n ≡ length xs → n ≡ length (map g xs)
length_of g xs n e = e ∙ sym (length-map xs g)

-- one thing stands in one place
pub one_there : {A : Type 0} (o : Option A) (a b : A) → o ≡ Some a → o ≡ Some b → a ≡ b
one_there o a b e e' = let h : Some a ≡ Some b = sym e ∙ e' in cc

-- a root, of the same term and type
pub same_root : {E : Type 0} (answer : Result NodeId E) (b : Building) (captures : List NodeId) (left : Value)
    {side other : RightSide} {sig sig' : Signature} → side ≡ other → sig ≡ sig'
    → IfOk answer (λ n. IsRoot b captures n (side.term left) sig.gives)
    → IfOk answer (λ n. IsRoot b captures n (other.term left) sig'.gives)
same_root answer b captures left {side} {other} {sig} {sig'} e e' h =
    subst (λ (s : Signature). IfOk answer (λ n. IsRoot b captures n (other.term left) s.gives)) e'
    (subst (λ (r : RightSide). IfOk answer (λ n. IsRoot b captures n (r.term left) sig.gives)) e h)
