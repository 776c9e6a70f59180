-- Lists of what elements mean.
use Rattle.std.proofs.Common.{◌≡◌, ◌<◌, ℕ, zero, suc, List, [], ◌∷◌, ◌++◌, Option, Some, map, length, slice_set}
use Rattle.std.proofs.Common.{slice_get, ◌∙◌, refl, sym, subst, ap}
use Rattle.std.specs.Prelude.{get_or, option_map, Result, IfOk}
use Rattle.std.proofs.lemmas.List.{map-append, length-map}
use Rattle.std.proofs.lemmas.Option.{slice_get_read, slice_get-map}
use Rattle.inc_value.specs.Sig.{Signature}
use Rattle.inc_value.specs.declared.node.NodeId.{NodeId}
use Rattle.inc_value.specs.declared.value.Value.{Value}
use Rattle.node_arena.specs.Building.{Building}
use Rattle.node_arena.specs.RightSide.{RightSide, IsRoot}

-- one more element that means the same
pub means_pushed : {A B : Type 0} (g : A → B) (xs ys zs : List A) (x : A) → ys ≡ xs → zs ≡ ys ++ x ∷ []
    → map g zs ≡ map g xs ++ g x ∷ []
means_pushed g xs ys zs x e e' = ap (map g) (e' ∙ ap (λ l. l ++ x ∷ []) e) ∙ map-append g xs (x ∷ [])

pub means_length : {A B : Type 0} (g : A → B) (xs : List A) (n : ℕ) → n ≡ length xs → n ≡ length (map g xs)
means_length g xs n e = e ∙ sym (length-map xs g)

-- what is read by index means what stands there
pub means_read : {A B : Type 0} (g : A → B) (xs : List A) (i : ℕ) (y : A) → i < length xs → y ≡ get_or xs i y
    → slice_get (map g xs) i ≡ Some (g y)
means_read g xs i y within is =
    slice_get-map g xs i ∙ ap (option_map g) (slice_get_read xs (length xs) i y refl within is)

-- and nothing else stands there
pub read_means : {A B : Type 0} (g : A → B) (xs : List A) (i : ℕ) (y : A) (m : B) → i < length xs → y ≡ get_or xs i y
    → slice_get (map g xs) i ≡ Some m → g y ≡ m
read_means g xs i y m within is there =
    let same : Some (g y) ≡ Some m = sym (means_read g xs i y within is) ∙ there in cc

-- another element that means the same
same_at : {A B : Type 0} (g : A → B) (xs : List A) (i : ℕ) (x y : A) → slice_get xs i ≡ Some y → g x ≡ g y
    → map g (slice_set xs i x) ≡ map g xs
same_at g [] i x y there same = refl
same_at g (z ∷ zs) zero x y there same =
    let here : g x ≡ g z = (let yz : z ≡ y = cc in rw yz same) in ap (λ b. b ∷ map g zs) here
same_at g (z ∷ zs) (suc i) x y there same = ap (λ bs. g z ∷ bs) (same_at g zs i x y there same)

pub means_set : {A B : Type 0} (g : A → B) (xs : List A) (i : ℕ) (x y : A) → i < length xs → y ≡ get_or xs i y
    → g x ≡ g y → map g (slice_set xs i x) ≡ map g xs
means_set g xs i x y within is same = same_at g xs i x y (slice_get_read xs (length xs) i y refl within is) same

-- one thing stands in one place
pub one_there : {A : Type 0} (o : Option A) (a b : A) → o ≡ Some a → o ≡ Some b → a ≡ b
one_there o a b e e' = let same : Some a ≡ Some b = sym e ∙ e' in cc

-- a root, of an equal term and type
pub same_root : {E : Type 0} (answer : Result NodeId E) (b : Building) (captures : List NodeId) (left : Value)
    (side side' : RightSide) (sig sig' : Signature) → side ≡ side' → sig ≡ sig'
    → IfOk answer (λ n. IsRoot b captures n (side.term left) sig.gives)
    → IfOk answer (λ n. IsRoot b captures n (side'.term left) sig'.gives)
same_root answer b captures left side side' sig sig' e e' h =
    subst (λ (s : Signature). IfOk answer (λ n. IsRoot b captures n (side'.term left) s.gives)) e'
    (subst (λ (r : RightSide). IfOk answer (λ n. IsRoot b captures n (r.term left) sig.gives)) e h)
