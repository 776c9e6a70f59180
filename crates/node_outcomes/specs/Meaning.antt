-- What a keeper's functions mean, as the engine's definitions take it.
use Rattle.std.specs.Prelude.{◌≡◌, ◌⊎◌, ℕ, Bool, List, Result, Ok, Err}
use Rattle.inc_value.specs.Counts.{raised}
use Rattle.inc_value.specs.declared.function.FnRef.{FnRef}
use Rattle.inc_value.specs.declared.node.NodeId.{NodeId}
use Rattle.inc_terms.specs.Term.{Functions}
use Rattle.node_arena.specs.RightSide.{SameMeaning}
use Rattle.node_arena.specs.RightSideLaws.{meaning, ids_of}
use Rattle.node_arena.specs.declared.functions.Functions.{Ghosts}

-- functions, which of them are known, and the nodes that each of them lists
pub record Meaning : Type 0 where
  pub functions : Functions
  pub known : FnRef → Bool
  pub ids : FnRef → List NodeId

-- the count of calls that found no memory: it stays where a call was answered, and a refused one raises it by one, or this lacked room
abbrev pub WantsFollow : {T E : Type 0} → Type 0 → Result T E → ℕ → ℕ → Type 0
WantsFollow Lacks (Ok v) old new = new ≡ old
WantsFollow Lacks (Err e) old new = ((new ≡ old) × Lacks) ⊎ (new ≡ raised old)

module _ {F More : Type 0} (keeper : Ghosts F More) where
  -- what a keeper's functions give
  abbrev pub functions_of : F → Functions
  functions_of s = meaning (keeper.value s) (keeper.right s)

  -- what they mean
  abbrev pub meaning_of : F → Meaning
  meaning_of s = record { functions = functions_of s; known = keeper.known s; ids = ids_of (keeper.right s) }

  -- the keeper is still sound and means what it meant, and nothing more was built or taken
  pub record KeepsFunctions (old new : F) : Type 0 where
    pub sound : keeper.is_sound new
    pub same : SameMeaning (keeper.named old) (keeper.named new) (keeper.known old) (keeper.known new) (keeper.value old) (keeper.value new)
        (keeper.right old) (keeper.right new)
    pub tally : keeper.tally new ≡ keeper.tally old
