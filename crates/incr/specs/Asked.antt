-- What the program does with the words of its command line.
use Rattle.std.specs.Prelude.{◌≡◌, ℕ, Bool, List}
use Rattle.command_words.specs.Words.{AsksFor}
use Rattle.command_words.specs.declared.asked.Asked.{Asked}
use Rattle.command_words.specs.declared.asked.Asked.TheVariants.{Run, Generate, Nothing}
use Rattle.inc_value.specs.declared.function.FnRef.{FnRef}
use Rattle.script_model.specs.Formula.{Meanings}
use Rattle.script_run.specs.Plain.{plain}
use Rattle.script_run.specs.Programs.{Around, IsTold, Runs, longest_script}
use Rattle.script_run.specs.Summing.{TellsGenerated}
use Rattle.incr.specs.Usage.{usage_line}

module _ {L : Type 0} (meanings : L → Meanings) (known : L → FnRef → Bool) (calls : L → ℕ) where
  -- a generated script was summed up, and nothing was read
  pub record Generates (steps seed : ℕ) (old new : Around L) (status : ℕ) : Type 0 where
    pub told : TellsGenerated meanings known calls steps seed old.library new.library old.written new.written old.write_faults new.write_faults status
    pub left : new.left ≡ old.left
    pub source : new.read_faults ≡ old.read_faults

  -- what is asked for was done
  abbrev pub IsDone : Asked → Around L → Around L → ℕ → Type 0
  IsDone Run old new status = Runs meanings known calls plain longest_script old new status
  IsDone (Generate steps seed) old new status = Generates steps seed old new status
  IsDone Nothing old new status = IsTold meanings known calls plain usage_line old new status

  -- what the words ask for was done, or no memory was found to read them, and nothing was done
  pub data DoesWords (words : List (List ℕ)) (old new : Around L) (status : ℕ) : Type 0 where
    did : (asked : Asked) → AsksFor words asked → IsDone asked old new status → DoesWords words old new status
    no_memory : status ≡ 5 → new ≡ old → DoesWords words old new status
