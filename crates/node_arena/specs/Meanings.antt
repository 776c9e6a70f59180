-- What every keeper of functions promises of the maps that it knows, and of what a call leaves alone.
use Rattle.std.specs.Prelude.{◌≡◌, ◌-◌, ◌^◌, ℕ, Bool, List, Option, All, IsTrue}
use Rattle.inc_value.specs.Sig.{Signature, IsMapSig}
use Rattle.inc_value.specs.Ty.{IsBase}
use Rattle.inc_value.specs.Value.{type_of, HaveTypes, IsProper}
use Rattle.inc_value.specs.declared.function.FnRef.{FnRef}
use Rattle.inc_value.specs.declared.function.FnKind.TheVariants.{Map}
use Rattle.inc_value.specs.declared.node.NodeId.{NodeId}
use Rattle.inc_value.specs.declared.value.Value.{Value}
use Rattle.inc_terms.specs.Within.{KnownAs, ValueWithin}

-- a known function stays known
abbrev pub KeepsKnown : (FnRef → Bool) → (FnRef → Bool) → Type 0
KeepsKnown old new = (f : FnRef) → IsTrue (old f) → IsTrue (new f)

-- just the functions are known that were
abbrev pub SameKnown : (FnRef → Bool) → (FnRef → Bool) → Type 0
SameKnown old new = (f : FnRef) → new f ≡ old f

-- a name stands for the function that it stood for before
abbrev pub SameNames : (List ℕ → Option FnRef) → (List ℕ → Option FnRef) → Type 0
SameNames old new = (name : List ℕ) → new name ≡ old name

-- a function gives for its arguments what it gave before
abbrev pub SameValues : (FnRef → List Value → Value) → (FnRef → List Value → Value) → Type 0
SameValues old new = (f : FnRef) (args : List Value) → new f args ≡ old f args

-- a known map has the types of a map
abbrev pub HaveMapSigs : (FnRef → Bool) → Type 0
HaveMapSigs known = (f : FnRef) → IsTrue (known f) → f.id.kind ≡ Map → IsMapSig f.sig

-- of proper values of the types that it takes, a known map gives a value of the type that it says
abbrev pub GiveTypes : (FnRef → Bool) → (FnRef → List Value → Value) → Type 0
GiveTypes known value = (f : FnRef) (args : List Value) → IsTrue (known f) → f.id.kind ≡ Map → All IsProper args → HaveTypes args f.sig.takes
    → type_of (value f args) ≡ f.sig.gives

-- of proper values of the types that it takes, a known map gives a value that a program can hold
abbrev pub GiveProper : (FnRef → Bool) → (FnRef → List Value → Value) → Type 0
GiveProper known value = (f : FnRef) (args : List Value) → IsTrue (known f) → f.id.kind ≡ Map → All IsProper args → HaveTypes args f.sig.takes
    → IsProper (value f args)

-- whatever its arguments, a known map gives no reference to a node
abbrev pub GiveNoReference : (FnRef → Bool) → (FnRef → List Value → Value) → Type 0
GiveNoReference known value = (f : FnRef) (args : List Value) → IsTrue (known f) → f.id.kind ≡ Map → IsBase (type_of (value f args))

-- maps that give no reference name no node
abbrev pub MapsNameNoNode : Type 0
MapsNameNoNode =
    (known : FnRef → Bool) (value : FnRef → List Value → Value) → GiveNoReference known value
    → (f : FnRef) (args : List Value) → KnownAs known Map f → ValueWithin (λ (n : NodeId). ⊥) (value f args)

-- what a map promises by itself: of proper values of the types that it takes it gives a proper value of the type that it
-- says, and whatever its arguments no reference to a node
pub record IsLawfulMap (sig : Signature) (value : List Value → Value) : Type 0 where
  pub types : (args : List Value) → All IsProper args → HaveTypes args sig.takes → type_of (value args) ≡ sig.gives
  pub proper : (args : List Value) → All IsProper args → HaveTypes args sig.takes → IsProper (value args)
  pub no_reference : (args : List Value) → IsBase (type_of (value args))

-- the count of a function that doesn't count its calls: the last one, which stays
abbrev pub uncounted : ℕ
uncounted = 2 ^ 64 - 1
