-- What calls leave of a keeper's functions.
use Rattle.std.proofs.Common.{◌∙◌}
use Rattle.node_arena.proofs.SameMeanings.{same_on}
use Rattle.node_arena.specs.declared.functions.Functions.{Ghosts}
use Rattle.node_outcomes.specs.Meaning.{KeepsFunctions}

module _ {F More : Type 0} (keeper : Ghosts F More) where
  -- what was kept of functions, and is kept on, is kept
  pub functions_on : (first mid last : F) → KeepsFunctions keeper first mid → KeepsFunctions keeper mid last → KeepsFunctions keeper first last
  functions_on first mid last h k = record {
    sound = k.sound;
    same = same_on h.same k.same;
    tally = k.tally ∙ h.tally;
  }
