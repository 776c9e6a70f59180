-- Declared names as the model of scripts sees them.
use Rattle.std.specs.Prelude.{◌≡◌, ◌≤◌, ℕ, List, map, Some, slice_get}
use Rattle.script_model.specs.Check as model
use Rattle.inc_value.specs.Choice.{Every}
use Rattle.formula_lang.specs.declared.names.Declared.{Declared}
use Rattle.formula_lang.specs.declared.names.Kind.TheVariants as kind
use Rattle.formula_lang.specs.declared.names.Kind.{Kind}

abbrev pub kind_view : Kind → model.Kind
kind_view kind.Var = model.Variable
kind_view kind.Let = model.Computed
kind_view kind.Bind = model.Bind
kind_view (kind.Expert takes) = model.Expert takes
kind_view kind.Grab = model.Grab

abbrev pub declared_view : Declared → model.Declared
declared_view d = record { name = d.name; ty = d.ty; kind = kind_view d.kind; target = d.target }

-- the names of a map's entries
abbrev pub declared_in : {K : Type 0} → List (K × Declared) → List model.Declared
declared_in entries = map (λ e. declared_view e.1) entries

-- no target comes later than the name
abbrev pub AreEarlier : List model.Declared → Type 0
AreEarlier ds = (i : ℕ) (d : model.Declared) → slice_get ds i ≡ Some d → d.target ≤ i

-- each entry stands at its name, and its target comes no later
pub record AreKept {K : Type 0} (bytes_of : K → List ℕ) (entries : List (K × Declared)) : Type 0 where
  pub keys : Every (λ e. bytes_of e.0 ≡ e.1.name) entries
  pub earlier : AreEarlier (declared_in entries)
