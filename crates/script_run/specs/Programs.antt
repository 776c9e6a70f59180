-- What a program makes of what is around it.
use Rattle.std.specs.Prelude.{◌≡◌, ◌⊎◌, ◌<◌, ◌≤◌, ℕ, Bool, List, length, Option, IfSome, IsTrue}
use Rattle.inc_value.specs.declared.function.FnRef.{FnRef}
use Rattle.script_io.specs.Causes.{Tells}
use Rattle.script_io.specs.CommandLine.{AsksFor, TellsUsage}
use Rattle.script_io.specs.declared.command_line.Asked.{Asked}
use Rattle.script_io.specs.declared.command_line.Asked.TheVariants.{Run, Nothing}
use Rattle.script_model.specs.Formula.{Meanings}
use Rattle.script_run.specs.Running.{Outside, RanTo}
use Rattle.script_run.specs.Telling.{Behind}

-- what is around a run: the library; what the source has left, where it tells it, and how often it failed; what the sink was given, where it
-- tells it, and how often it failed
pub record Around (L : Type 0) : Type 0 where
  pub library : L
  pub left : Option (List ℕ)
  pub read_faults : ℕ
  pub written : Option (List ℕ)
  pub write_faults : ℕ

-- what is around a run, by what there is
abbrev pub around : {L : Type 0} → L → Option (List ℕ) → ℕ → Option (List ℕ) → ℕ → Around L
around library left read_faults written write_faults = record {
  library = library;
  left = left;
  read_faults = read_faults;
  written = written;
  write_faults = write_faults;
}

-- the same without faults, with the library's count of calls
abbrev pub outside_of : {L : Type 0} → (L → ℕ) → Around L → Outside
outside_of calls a = record { left = a.left; written = a.written; calls = calls a.library }

-- over the libraries' meanings, the functions that they know and their counts of calls: functions mean what they meant, those that were
-- known are known, and the count did not fall
pub record KeepsLibrary {L : Type 0} (meanings : L → Meanings) (known : L → FnRef → Bool) (calls : L → ℕ) (old new : L) : Type 0 where
  pub functions : meanings new ≡ meanings old
  pub known_still : (f : FnRef) → IsTrue (known old f) → IsTrue (known new f)
  pub calls_grow : calls old ≤ calls new

-- the most bytes that a script may have
abbrev pub longest_script : ℕ
longest_script = 1073741824

module _ {L : Type 0} (meanings : L → Meanings) (known : L → FnRef → Bool) (calls : L → ℕ) (behind : Behind) where
  -- a run of at most `limit` bytes ended with this status
  pub record Runs (limit : ℕ) (old new : Around L) (status : ℕ) : Type 0 where
    pub ran : RanTo (meanings old.library) behind status limit (outside_of calls old) (outside_of calls new)
    -- 0 and 1 tell that the source had no more bytes than the limit, 6 that it had more
    pub limit_kept : (status ≡ 0) ⊎ (status ≡ 1) → IfSome old.left (λ bytes. length bytes ≤ limit)
    pub limit_passed : status ≡ 6 → IfSome old.left (λ bytes. limit < length bytes)
    pub library : KeepsLibrary meanings known calls old.library new.library
    -- 3 and 4 tell that a read, or a write, failed
    pub source : Tells (status ≡ 3) old.read_faults new.read_faults
    pub sink : Tells (status ≡ 4) old.write_faults new.write_faults

  -- the usage line was told, and nothing else happened
  pub record IsTold (usage : List ℕ) (old new : Around L) (status : ℕ) : Type 0 where
    pub told : TellsUsage usage status old.written new.written
    pub library : new.library ≡ old.library
    pub left : new.left ≡ old.left
    pub source : new.read_faults ≡ old.read_faults
    pub sink : Tells (status ≡ 4) old.write_faults new.write_faults

  -- what is asked for was done
  abbrev pub IsDone : List ℕ → Asked → Around L → Around L → ℕ → Type 0
  IsDone usage Run old new status = Runs longest_script old new status
  IsDone usage Nothing old new status = IsTold usage old new status

  -- what the words ask for was done
  pub record DoesAsked (words : List (List ℕ)) (usage : List ℕ) (old new : Around L) (status : ℕ) : Type 0 where
    pub asked : Asked
    pub is_asked : AsksFor words asked
    pub done : IsDone usage asked old new status
