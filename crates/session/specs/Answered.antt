-- What a session does on the way through a line.
use Rattle.std.specs.Prelude.{◌≡◌, ◌≤◌, ◌+◌, ℕ, List, [], ◌∷◌, ◌++◌, Some}
use Rattle.std.specs.List.{flat_map}
use Rattle.script_model.specs.Check.{Command, Reason, NotStabilized, NotBuilt, NotLinked, TooManyLinks, TooManyPlaces, first_that}
use Rattle.script_model.specs.Formula.{Meanings}
use Rattle.script_model.specs.Run.{MayCall}
use Rattle.script_model.specs.Step.{Moment, Reply, Verdict, is_barred, printed, verdict_for}
use Rattle.session.specs.declared.answer.Did.{Did}
use Rattle.script_graph.specs.Kept.{Kept}
use Rattle.script_graph.specs.State.{MatchesMoment}
use Rattle.session.specs.Taken.{Says}

-- the reasons that the state has against a command, in the order in which they are looked at
abbrev pub state_order : List Reason
state_order = NotStabilized ∷ NotBuilt ∷ NotLinked ∷ TooManyLinks ∷ TooManyPlaces ∷ []

-- what a command comes to whose names, functions and types fit
abbrev pub verdict_on : Moment → Command → Verdict
verdict_on m command = verdict_for m (Some command) (first_that (is_barred m.present command) state_order)

-- a line or a part of it was carried out: it leads to a moment that is matched, the replies were written, no more functions were
-- called than are due, and the answer says how
pub record IsAnswered (F : Meanings) (m : Moment) (Leads : Moment → List Reply → Type 0) (new : Kept) (written appended : List ℕ) (called calls : ℕ)
    (how : Did) : Type 0 where
  pub after : Moment
  pub replies : List Reply
  pub leads : Leads after replies
  pub work : ℕ
  pub due : MayCall F m replies work
  pub matches : MatchesMoment F new after
  pub printed_are : appended ≡ written ++ flat_map (printed after.present) replies
  pub within : calls ≤ called + work
  pub says : Says how replies

-- bytes were added at the end
abbrev pub Extends : List ℕ → List ℕ → Type 0
Extends old new = (more : List ℕ) × (new ≡ old ++ more)
