-- Right sides of binds that were just added.
use Rattle.std.proofs.Common.{arith, ◌≡◌, ◌+◌, List, [], ◌∷◌, Option, Some, None, IfSome, sym, subst, ap, ◌∙◌}
use Rattle.std.proofs.Common.{◌≢◌, ◌⊎◌, inl, inr}
use Rattle.std.proofs.lemmas.Bool.Decides.{eqb_tells}
use Rattle.std.specs.List.{AllZip}
use Rattle.inc_value.specs.Choice.{Every}
use Rattle.inc_value.specs.Ty.{IsBase}
use Rattle.inc_value.specs.Value.{type_of}
use Rattle.inc_value.specs.declared.function.FnRef.{FnRef}
use Rattle.inc_value.specs.declared.node.NodeId.{NodeId}
use Rattle.inc_value.specs.declared.ty.Ty.{Ty}
use Rattle.inc_value.specs.declared.value.Value.{Value}
use Rattle.inc_value.specs.declared.value.Value.TheVariants as value
use Rattle.inc_terms.specs.Graph.{Row, Bind}
use Rattle.inc_terms.specs.Within.{Given, ValueWithin}
use Rattle.node_arena.specs.Arena.{Arena, row_at, Changes}
use Rattle.node_arena.specs.RightSide.{RightSide, AreFit, AreTaken, IsEmpty, MayBuild}
use Rattle.node_arena.specs.Sound.{IsSoundArena}
use Rattle.node_arena.specs.Typing.{Fits, ReferenceFits, BindTakes, IsAddable}
use Rattle.closure_examples.specs.Sides.{TakesFirst}

-- ---- a value of a base type names no node

base_within : (P : NodeId → Type 0) (v : Value) → IsBase (type_of v) → ValueWithin P v
base_within P (value.Node n b) h = absurd h
base_within P (value.Int z) h = tt
base_within P (value.Bool z) h = tt
base_within P (value.Text z) h = tt

base_fits : (a : Arena) (v : Value) → IsBase (type_of v) → ReferenceFits a v
base_fits a (value.Node n b) h = absurd h
base_fits a (value.Int z) h = tt
base_fits a (value.Bool z) h = tt
base_fits a (value.Text z) h = tt

-- ---- what was given before the bind

id_or_other : (n m : NodeId) → (n ≡ m) ⊎ (n ≢ m)
id_or_other n m = elim (eqb_tells n.slot m.slot) [
  | inl slot ↦ elim (eqb_tells n.gen_ m.gen_) [
    | inl gen ↦ inl (λ i. record { slot = slot.1 i; gen_ = gen.1 i })
    | inr other ↦ inr (λ e. other.1 (ap (λ (x : NodeId). x.gen_) e))
  ]
  | inr other ↦ inr (λ e. other.1 (ap (λ (x : NodeId). x.slot) e))
]

module _ (old new : Arena) (id : NodeId) (row : Row) (number : id.gen_ ≡ old.given)
    (changes : Changes old new id (Some row)) (keeps : (n : NodeId) → Given old.given n → row_at new n ≡ row_at old n)
    (given : new.given ≡ old.given + 1) where
  given_still : (n : NodeId) → Given old.given n → Given new.given n
  given_still n h = omega (arith, h, given)

  all_given : (ns : List NodeId) → Every (Given old.given) ns → Every (Given new.given) ns
  all_given [] h = tt
  all_given (n ∷ ns) h = (given_still n h.0, all_given ns h.1)

  fits_still : (n : NodeId) (t : Ty) → Given old.given n → Fits old n t → Fits new n t
  fits_still n t g h = subst (λ (o : Option Row). IfSome o (λ (r : Row). r.ty ≡ t)) (sym (keeps n g)) h

  all_fit : (ns : List NodeId) (ts : List Ty) → Every (Given old.given) ns → AllZip (Fits old) ns ts
      → AllZip (Fits new) ns ts
  all_fit [] [] g h = tt
  all_fit [] (t ∷ ts) g h = absurd h
  all_fit (n ∷ ns) [] g h = absurd h
  all_fit (n ∷ ns) (t ∷ ts) g h = (fits_still n t g.0 h.0, all_fit ns ts g.1 h.1)

  -- no node stands in the scope of the bind, which stands in none itself
  no_node : row.scope ≡ None → IsSoundArena old → IsEmpty new id
  no_node none sound n r is in_scope = elim (id_or_other n id) [
    | inl same ↦ (let there = sym changes.changed ∙ (ap (λ (m : NodeId). row_at new m) (sym same) ∙ is) in
        let e : row ≡ r = cc in
        let scope = sym none ∙ (ap (λ (x : Row). x.scope) e ∙ in_scope) in absurd cc)
    | inr other ↦ (let g = sound.scopes n r id (sym (changes.others n other) ∙ is) in_scope in omega (arith, g, number))
  ]

  taken : (left : NodeId) (captures : List NodeId) (v : Value) (types : List Ty) → TakesFirst types (type_of v)
      → IsBase (type_of v) → Every (Given old.given) captures → BindTakes old left captures types
      → AreTaken new v captures types
  taken left captures v [] first base g takes = absurd first
  taken left captures v (t ∷ ts) first base g takes =
      (record { type = sym first; reference = base_fits new v base }, all_fit captures ts g takes.1)

  -- its right side can be built, for a value of a base type, by a function that lists no nodes
  pub may_build : row.scope ≡ None → IsSoundArena old → (f : FnRef) (left : NodeId) (captures : List NodeId) (t : Ty)
      → IsAddable old (Bind left f captures) t → (side : RightSide) → side.ids ≡ [] → (v : Value) → IsBase (type_of v)
      → TakesFirst f.sig.takes (type_of v) → MayBuild (record { arena = new; scope = id }) f.sig side v captures
  may_build none sound f left captures t addable side lists v base first = record {
    empty = no_node none sound;
    fit = subst (AreFit new) (sym lists) (λ x h. absurd h);
    left_given = base_within _ v base;
    captures_given = all_given captures addable.names.2;
    taken = taken left captures v f.sig.takes first base addable.names.2 addable.types.takes;
  }
