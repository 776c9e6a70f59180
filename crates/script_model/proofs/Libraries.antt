-- The functions of a library keep to their types, as the model has them.
use Rattle.std.proofs.Common.{◌≡◌, List, [], ◌∷◌, map, All, refl, sym, subst, ◌∙◌}
use Rattle.std.proofs.lemmas.List.Elements.{All-nil, All-cons, All-head, All-tail}
use Rattle.inc_value.specs.Value as engine
use Rattle.inc_value.specs.Ty.{IsBase}
use Rattle.inc_value.specs.declared.ty.Ty.{Ty}
use Rattle.inc_value.specs.declared.value.Value as declared
use Rattle.inc_value.specs.declared.value.Value.TheVariants as held
use Rattle.inc_value.specs.Choice.{Every}
use Rattle.script_model.specs.Laws.{LibrariesKeepToTypes}
use Rattle.script_model.specs.Valid.{HaveTypes}
use Rattle.script_model.specs.Values.{Value, Int, Bool, Text, Reference, type_of, IsProper, to_engine, from_engine, unnamed, unreferred, seen_value}

to_engine_type : (v : Value) → engine.type_of (to_engine v) ≡ type_of v
to_engine_type (Int z) = refl
to_engine_type (Bool b) = refl
to_engine_type (Text bytes) = refl
to_engine_type (Reference target base) = refl

to_engine_proper : (v : Value) → IsProper v → engine.IsProper (to_engine v)
to_engine_proper (Int z) h = h
to_engine_proper (Bool b) h = tt
to_engine_proper (Text bytes) h = h
to_engine_proper (Reference target base) h = tt

from_engine_type : (v : declared.Value) → type_of (from_engine v) ≡ engine.type_of v
from_engine_type (held.Int z) = refl
from_engine_type (held.Bool b) = refl
from_engine_type (held.Text bytes) = refl
from_engine_type (held.Node id base) = refl

from_engine_proper : (v : declared.Value) → engine.IsProper v → IsProper (from_engine v)
from_engine_proper (held.Int z) h = h
from_engine_proper (held.Bool b) h = tt
from_engine_proper (held.Text bytes) h = h
from_engine_proper (held.Node id base) h = tt

each : {A : Type 0} (P : A → Type 0) (xs : List A) → All P xs → Every P xs
each P [] h = tt
each P (x ∷ xs) h = (All-head P x xs h, each P xs (All-tail P x xs h))

all_proper : (vs : List Value) (tys : List Ty) → HaveTypes vs tys → All engine.IsProper (map to_engine vs)
all_proper [] tys h = All-nil engine.IsProper
all_proper (v ∷ vs) [] h = absurd h
all_proper (v ∷ vs) (t ∷ tys) h = All-cons engine.IsProper (to_engine v) (map to_engine vs) (to_engine_proper v h.1) (all_proper vs tys h.2)

all_typed : (vs : List Value) (tys : List Ty) → HaveTypes vs tys → engine.HaveTypes (map to_engine vs) tys
all_typed [] [] h = refl
all_typed [] (t ∷ tys) h = absurd h
all_typed (v ∷ vs) [] h = absurd h
all_typed (v ∷ vs) (t ∷ tys) h = let first = to_engine_type v ∙ h.0 in let rest = all_typed vs tys h.2 in rw (first, rest) refl

-- ---- functions don't see nodes

unnamed_type : (v : declared.Value) → engine.type_of (unnamed v) ≡ engine.type_of v
unnamed_type (held.Int z) = refl
unnamed_type (held.Bool b) = refl
unnamed_type (held.Text bytes) = refl
unnamed_type (held.Node id base) = refl

unnamed_proper : (v : declared.Value) → engine.IsProper v → engine.IsProper (unnamed v)
unnamed_proper (held.Int z) h = h
unnamed_proper (held.Bool b) h = h
unnamed_proper (held.Text bytes) h = h
unnamed_proper (held.Node id base) h = h

pub unnamed_types : (vs : List declared.Value) → map engine.type_of (map unnamed vs) ≡ map engine.type_of vs
unnamed_types [] = refl
unnamed_types (v ∷ vs) = rw (unnamed_type v, unnamed_types vs) refl

pub unnamed_propers : (vs : List declared.Value) → All engine.IsProper vs → All engine.IsProper (map unnamed vs)
unnamed_propers [] h = All-nil engine.IsProper
unnamed_propers (v ∷ vs) h = All-cons engine.IsProper (unnamed v) (map unnamed vs) (unnamed_proper v (All-head engine.IsProper v vs h))
    (unnamed_propers vs (All-tail engine.IsProper v vs h))

-- what is no reference stays
pub unreferred_base : (v : declared.Value) → IsBase (engine.type_of v) → unreferred v ≡ v
unreferred_base (held.Int z) h = refl
unreferred_base (held.Bool b) h = refl
unreferred_base (held.Text bytes) h = refl
unreferred_base (held.Node id base) h = absurd h

keeps_type : (v w : declared.Value) (t : Ty) → v ≡ w → engine.type_of w ≡ t → engine.IsProper w → (type_of (from_engine v) ≡ t) × IsProper (from_engine v)
keeps_type v w t is typed proper =
    rw is (from_engine_type w ∙ typed, from_engine_proper w proper)

pub libraries_keep_to_types : LibrariesKeepToTypes
libraries_keep_to_types named value keep name f is =
    let kept = keep name f is in (
      kept.0,
      each _ f.sig.takes kept.1,
      λ values have.
          let args = map to_engine values in
          let given = kept.2 (map unnamed args) (unnamed_propers args (all_proper values f.sig.takes have))
          (unnamed_types args ∙ all_typed values f.sig.takes have) in
          let base : IsBase (engine.type_of (value f (map unnamed args))) = subst IsBase (sym given.0) kept.0 in
          keeps_type (seen_value value f args) (value f (map unnamed args)) f.sig.gives (unreferred_base (value f (map unnamed args)) base) given.0 given.1,
    )
