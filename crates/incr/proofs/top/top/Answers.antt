use Rattle.std.proofs.Common.{ℕ, List, inl, refl, subst}
use Rattle.command_words.specs.Words.{AsksFor}
use Rattle.command_words.specs.declared.asked.Asked.TheVariants as asked
use Rattle.incr.proofs.Statuses.{generated_status}
use Rattle.incr.specs.Asked.{did}
use Rattle.incr.proofs.top.top.Goals as goal

pub returns-in-Ok-Run-clause-done : goal.returns-in-Ok-Run-clause-done
returns-in-Ok-Run-clause-done g c =
    did asked.Run (subst (λ (words : List (List ℕ)). AsksFor words asked.Run) c.deref.ensures.value (rw c.in-Ok-Run.field-0-is at c.in-Ok-Run.ensures)) c.drive.ensures.ran

pub returns-in-Ok-Generate-clause-done : goal.returns-in-Ok-Generate-clause-done
returns-in-Ok-Generate-clause-done g c =
    let steps = c.in-Ok-Generate.steps in
    let seed = c.in-Ok-Generate.seed in
    did (asked.Generate steps seed)
    (subst (λ (words : List (List ℕ)). AsksFor words (asked.Generate steps seed)) c.deref.ensures.value (rw c.in-Ok-Generate.field-0-is at c.in-Ok-Generate.ensures))
    (record { told = c.generate.ensures; left = refl; source = refl })

pub returns-in-Ok-Generate-clause-statuses : goal.returns-in-Ok-Generate-clause-statuses
returns-in-Ok-Generate-clause-statuses g c = inl (generated_status _ _ _ _ _ _ _ c.generate.ensures.ends)

pub returns-in-Ok-Nothing-clause-done : goal.returns-in-Ok-Nothing-clause-done
returns-in-Ok-Nothing-clause-done g c =
    did asked.Nothing (subst (λ (words : List (List ℕ)). AsksFor words asked.Nothing) c.deref.ensures.value (rw c.in-Ok-Nothing.field-0-is at c.in-Ok-Nothing.ensures))
    (record { told = c.tell_usage.ensures.told; library = refl; left = refl; source = refl; sink = c.tell_usage.ensures.sink })
