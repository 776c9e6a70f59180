-- What a line, or a part of one, does to a script and to what is written.
use Rattle.std.specs.Prelude.{◌≡◌, ◌≤◌, ◌<◌, ◌+◌, ◌-◌, ◌^◌, ◌++◌, ℕ, Bool, List, length, None, Some, IfOk, OnOk, OnErr, IsTrue, Result}
use Rattle.inc_value.specs.declared.function.FnRef.{FnRef}
use Rattle.script_graph.specs.Kept.{Kept, Script, arena_of}
use Rattle.script_graph.specs.Stabilizing.{CyclePasses, IsAccepted, IsCircular, IsCutShort, IsCycleMet, IsTooDeep, closed}
use Rattle.script_graph.specs.State.{Stands}
use Rattle.script_model.specs.Check as check
use Rattle.script_model.specs.Check.{Command}
use Rattle.script_model.specs.Formula.{Meanings}
use Rattle.script_model.specs.Grammar as grammar
use Rattle.script_model.specs.Request.{Asks, IsRequest, Request}
use Rattle.script_model.specs.Step.{Answers, Follows, Moment, Reply}
use Rattle.session.specs.Answered.{Extends, IsAnswered, verdict_on}
use Rattle.session.specs.Replies.{IsAcceptedWritten}
use Rattle.session.specs.Taken.{AsksStabilize, KeepsUnlessAccepted, Stops}
use Rattle.session.specs.declared.answer.Did.{Did}
use Rattle.session.specs.declared.answer.Did.TheVariants as did
use Rattle.session.specs.declared.script.stabilizing.Stabilized.{Stabilized}
use Rattle.session.specs.declared.script.stabilizing.Stabilized.TheVariants.{Accepted, Circular, TooDeep}
use Rattle.wiring.specs.declared.refused.Refused.TheVariants.{Memory}

-- what is kept is within the bounds of one line more: the count of stabilizes, ids of nodes, bodies and observers are not at their last
pub record HasRoom (k : Kept) : Type 0 where
  pub count : k.accepted + 1 < 2 ^ 64
  pub ids : (arena_of k).given + 2 ^ 20 < 2 ^ 64 - 1
  pub bodies : length k.bodies + 64 < 1099511627776
  pub observers : length k.graph.observers < 2 ^ 32 - 1

-- what every command but a stabilize leaves: the library, the count of stabilizes and what broke the session are as they were, and no more
-- ids of nodes and observers were given than these, and no more than 64 bodies kept
pub record IsBeside {L : Type 0} (ids observers : ℕ) (old new : Script L) : Type 0 where
  pub library : new.library ≡ old.library
  pub builds : new.builds ≡ old.builds
  pub accepted : new.kept.accepted ≡ old.kept.accepted
  pub broken : new.kept.broken ≡ old.kept.broken
  pub given : (arena_of new.kept).given ≤ (arena_of old.kept).given + ids
  pub bodies : length new.kept.bodies ≤ length old.kept.bodies + 64
  pub watching : length new.kept.graph.observers ≤ length old.kept.graph.observers + observers

-- a line was refused with a number, and its reply was appended; without memory nothing was
pub record Refuses {E : Type 0} (number : ℕ) (reply written appended : List ℕ) (result : Result Did E) : Type 0 where
  pub how : IfOk result (λ how. how ≡ did.Refused number)
  pub ok : OnOk result (appended ≡ written ++ reply)
  pub unwritten : OnErr result (appended ≡ written)

-- over the libraries' meanings, the functions that they know and their counts of calls
module _ {L E : Type 0} (meanings : L → Meanings) (known : L → FnRef → Bool) (calls : L → ℕ) where
  -- a line that is of some form, and asks for a stabilize or not, leads from one moment to another and to replies
  pub record CarriesOut (Leads : Meanings → Moment → Moment → List Reply → Type 0) (IsOfForm : List ℕ → Type 0) (AsksIt : Type 0)
      (old new : Script L) (written appended : List ℕ) (result : Result Did E) : Type 0 where
    -- from each moment that was stood for it leads on, the new moment is matched, and the replies were appended
    pub answered : IfOk result (λ how. (m : Moment) → Stands (meanings old.library) old.kept m
        → IsAnswered (meanings old.library) m (Leads (meanings old.library) m) new.kept written appended (calls old.library) (calls new.library) how)
    -- without memory a moment is stood for at which such a line may leave things
    pub stopped : OnErr result ((m : Moment) (line : List ℕ) → Stands (meanings old.library) old.kept m → IsOfForm line
        → Stops (meanings old.library) m line new.kept (calls old.library) (calls new.library))
    -- without memory bytes may have been added
    pub extended : OnErr result (Extends written appended)
    -- at most one stabilize was accepted
    pub accepted : new.kept.accepted ≤ old.kept.accepted + 1
    -- few ids of nodes were given
    pub given : (arena_of new.kept).given ≤ (arena_of old.kept).given + 2 ^ 20
    -- at most 64 bodies were kept
    pub bodies : length new.kept.bodies ≤ length old.kept.bodies + 64
    -- at most one observer was added
    pub observers : length new.kept.graph.observers ≤ length old.kept.graph.observers + 1
    -- the library knows what it knew
    pub known_still : (f : FnRef) → IsTrue (known old.library f) → IsTrue (known new.library f)
    -- its count of calls didn't fall
    pub calls_grow : calls old.library ≤ calls new.library
    -- its count of builds didn't fall
    pub builds_grow : old.builds ≤ new.builds
    -- only a stabilize calls functions, and builds right sides
    pub library : (AsksIt → ⊥) → new.library ≡ old.library
    pub builds : (AsksIt → ⊥) → new.builds ≡ old.builds
    -- a line that was refused, or asks for nothing, leaves what is kept
    pub kept : IfOk result (λ how. KeepsUnlessAccepted how old.kept new.kept)
    -- where a stabilize was accepted its number was appended, and the lines of what it told
    pub tells : IfOk result (λ how. how ≡ did.Accepted → old.kept.accepted < new.kept.accepted → IsAcceptedWritten new.kept written appended)
    -- a broken session stays as it is
    pub broken : (old.kept.broken ≡ None → ⊥) → new ≡ old
    -- functions mean what they meant
    pub functions : meanings new.library ≡ meanings old.library

  -- a command was carried out
  abbrev pub Performs : Command → Script L → Script L → List ℕ → List ℕ → Result Did E → Type 0
  Performs command old new written appended result = CarriesOut (λ F m. Follows F m (verdict_on m command))
      (λ line. command ≡ check.Stabilize → AsksStabilize line) (command ≡ check.Stabilize) old new written appended result

  -- a line was carried out, or refused
  abbrev pub Treats : grammar.Line → Script L → Script L → List ℕ → List ℕ → Result Did E → Type 0
  Treats line old new written appended result = CarriesOut (λ F m. Answers F m (Asks line)) (λ bytes. IsRequest bytes (Asks line))
      (line ≡ grammar.Stabilize) old new written appended result

  -- bytes were taken as what they ask for
  abbrev pub TakesBytes : List ℕ → Script L → Script L → List ℕ → List ℕ → Result Did E → Type 0
  TakesBytes bytes old new written appended result = CarriesOut
      (λ F m after replies. (r : Request) × IsRequest bytes r × Answers F m r after replies) (λ line. line ≡ bytes) (AsksStabilize bytes)
      old new written appended result

  -- a stabilize ended
  pub record EndsStabilize (old new : Script L) (result : Result Stabilized E) : Type 0 where
    -- from each moment that was stood for it was accepted
    pub accepted : IfOk result (λ how. how ≡ Accepted → (m : Moment) → Stands (meanings old.library) old.kept m
        → IsAccepted (meanings old.library) m new.kept (calls old.library) (calls new.library))
    -- or it was refused for the depth of a declaration
    pub too_deep : IfOk result (λ how. (target : ℕ) → how ≡ TooDeep target → (m : Moment) → Stands (meanings old.library) old.kept m
        → IsTooDeep (meanings old.library) m new.kept target (calls old.library) (calls new.library))
    -- or it was refused for a cycle: the graph tells one, and the declarations whose mains it passes are one of the script, the first once more at its end
    pub circular : IfOk result (λ how. how ≡ Circular → IsCycleMet new.kept.graph.refused
        × ((m : Moment) (targets : List ℕ) → Stands (meanings old.library) old.kept m → CyclePasses new.kept.graph new.kept.names.declared new.kept.nodes targets
        → IsCircular (meanings old.library) m new.kept (closed targets) (calls old.library) (calls new.library)))
    -- where no memory is found for the names of a cycle it is cut short
    pub unwritten : IfOk result (λ how. how ≡ Circular → (m : Moment) → Stands (meanings old.library) old.kept m
        → IsCutShort (meanings old.library) m (record new.kept { broken = Some 0 }) (calls old.library) (calls new.library))
    -- too deep is one of the declarations
    pub target : IfOk result (λ how. (target : ℕ) → how ≡ TooDeep target → target < length new.kept.names.declared)
    -- or cut short
    pub cut_short : OnErr result ((m : Moment) → Stands (meanings old.library) old.kept m
        → IsCutShort (meanings old.library) m new.kept (calls old.library) (calls new.library))
    -- for want of memory alone
    pub for_memory : OnErr result ((m : Moment) → Stands (meanings old.library) old.kept m → new.kept.graph.refused ≡ Some Memory)
    -- at most one stabilize was accepted
    pub count : new.kept.accepted ≤ old.kept.accepted + 1
    pub names : new.kept.names ≡ old.kept.names
    -- each observer's name in use has its observer
    pub one_observer_each : length new.kept.observers ≡ length new.kept.names.observers
    -- few ids of nodes were given
    pub given : (arena_of new.kept).given ≤ (arena_of old.kept).given + 2 ^ 20
    pub observers : length new.kept.graph.observers ≡ length old.kept.graph.observers
    pub bodies : length new.kept.bodies ≡ length old.kept.bodies
    -- the library knows what it knew
    pub known_still : (f : FnRef) → IsTrue (known old.library f) → IsTrue (known new.library f)
    -- its count of calls didn't fall, nor did that of builds
    pub calls_grow : calls old.library ≤ calls new.library
    pub builds_grow : old.builds ≤ new.builds
    -- functions mean what they meant
    pub functions : meanings new.library ≡ meanings old.library
