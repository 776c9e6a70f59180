-- The functions of a library keep to their types.
use Rattle.std.proofs.Common.{◌≡◌, List, [], ◌∷◌, length, Bool, Option, Some, IsTrue, refl, arith}
use Rattle.inc_value.specs.Sig.{IsMapSig}
use Rattle.inc_value.specs.declared.function.FnKind.TheVariants.{Map}
use Rattle.inc_value.specs.declared.function.FnRef.{FnRef}
use Rattle.inc_value.specs.declared.value.Value.{Value}
use Rattle.node_arena.specs.Meanings.{GiveTypes, GiveProper}
use Rattle.script_model.specs.Formula.{meanings_of}
use Rattle.script_model.specs.Valid.{KeepToTypes}
use Rattle.script_model.proofs.Libraries.{libraries_keep_to_types}
use Rattle.std.specs.Prelude.{ℕ}

-- where each name stands for a known map, and known maps give proper values of their types, functions keep to their types as the model has them
pub library_keeps : (named : List ℕ → Option FnRef) (known : FnRef → Bool) (value : FnRef → List Value → Value)
    → ((name : List ℕ) (f : FnRef) → named name ≡ Some f → IsTrue (known f) × (f.id.kind ≡ Map) × IsMapSig f.sig) → GiveTypes known value
    → GiveProper known value → KeepToTypes (meanings_of named value)
library_keeps named known value maps typed proper = libraries_keep_to_types named value (λ name f is.
    let m = maps name f is in (
      m.2.2,
      m.2.1,
      λ values fine fit. (typed f values m.0 m.1 fine fit, proper f values m.0 m.1 fine fit),
    ))

-- a list of no length has nothing
pub none_there : {A : Type 0} (xs : List A) → length xs ≡ 0 → xs ≡ []
none_there [] none = refl
none_there (x ∷ xs) none = absurd (omega (arith, none))
