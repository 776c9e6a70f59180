-- The statuses of generated scripts.
use Rattle.std.proofs.Common.{if◌then◌else◌, ◌≡◌, ℕ, Bool, true, false, List, Option}
use Rattle.script_io.specs.Endings.{IsStatus}
use Rattle.script_io.specs.declared.ending.Ending.TheVariants as ending
use Rattle.script_model.specs.Formula.{Meanings}
use Rattle.script_run.specs.Summing.{EndsGenerated, all_written, cut_off, not_summed}

whole : (refused : Bool) (n : ℕ) → n ≡ (if refused then 1 else 0) → IsStatus n
whole true n is = (ending.Refused, is)
whole false n is = (ending.Accepted, is)

pub generated_status : (F : Meanings) (text : List ℕ) (called calls : ℕ) (before after : Option (List ℕ)) (n : ℕ)
    → EndsGenerated F text called calls before after n → IsStatus n
generated_status F text called calls before after n (all_written line refused summed is written) = whole refused n is
generated_status F text called calls before after n (cut_off line refused size summed is short written) = (ending.WriteFault, is)
generated_status F text called calls before after n (not_summed none is unwritten) = (ending.Memory, is)
