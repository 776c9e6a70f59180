-- What a turn's replies tell: whether it was an accepted stabilize, and whether it was refused.
use Rattle.std.proofs.Common.{◌≡◌, ℕ, Bool, true, false, ◌||◌, List, [], ◌∷◌, Option, None, Some, map, refl, ◌∙◌, ap}
use Rattle.std.specs.List.{list_any}
use Rattle.script_model.specs.Check.{Command, Declare, Assign, Link, Unlink, Stale, Take, Observe, Unobserve, Watch, Show, Advance, Stabilize}
use Rattle.script_model.specs.Formula.{Meanings, State}
use Rattle.script_model.specs.Request.{Request, TooLong, Blank, Malformed, TooDeep, Asks}
use Rattle.script_model.specs.Run.{Turn, IsTurn}
use Rattle.script_model.specs.Settle.{Notice}
use Rattle.script_model.specs.Step.{Moment, Reply, Tells, Refused, Refusal, Verdict, Refuse, Settle, Act, Stabilizes, settles, by_cycle, by_height, Follows, Answers, effect, is_refusal, reply_to, shows, shown_by, verdict_of}
use Rattle.script_model.specs.Values.{Outcome}
use Rattle.script_run.specs.Telling.{TellsRound, tells_stable}

-- ---- one reply

-- a reply to a command is none to a stabilize and no refusal
record IsPlain (reply : Reply) : Type 0 where
  stable : tells_stable reply ≡ false
  refusal : is_refusal reply ≡ false

shows_plain : (observer : List ℕ) (o : Option Outcome) → IsPlain (shows observer o)
shows_plain observer None = record { stable = refl; refusal = refl }
shows_plain observer (Some o) = record { stable = refl; refusal = refl }

reply_plain : (s : State) (c : Command) → IsPlain (reply_to s c)
reply_plain s (Show observer) = shows_plain observer (shown_by s observer)
reply_plain s c = record { stable = refl; refusal = refl }

-- a command accepts no stabilize
accepted_stays : (s : State) (c : Command) → (effect s c).accepted ≡ s.accepted
accepted_stays s (Declare name t body) = refl
accepted_stays s (Assign target v) = refl
accepted_stays s (Link expert target) = refl
accepted_stays s (Unlink expert target) = refl
accepted_stays s (Stale expert) = refl
accepted_stays s (Take name t bind) = refl
accepted_stays s (Observe observer target) = refl
accepted_stays s (Unobserve observer) = refl
accepted_stays s (Watch observer) = refl
accepted_stays s (Show observer) = refl
accepted_stays s (Advance time) = refl
accepted_stays s Stabilize = refl

or_false : (b : Bool) → (b || false) ≡ b
or_false true = refl
or_false false = refl

-- notices are no refusals
notices_plain : (notices : List Notice) → list_any is_refusal (map (λ n. Tells n) notices) ≡ false
notices_plain [] = refl
notices_plain (n ∷ notices) = notices_plain notices

-- ---- all replies

-- where the first reply is no refusal, none is
abbrev AreAlike : List Reply → Type 0
AreAlike replies = (first : Reply) (more : List Reply) → replies ≡ first ∷ more → is_refusal first ≡ false → list_any is_refusal replies ≡ false

-- what replies tell of the moments round them
record AreTold (m after : Moment) (replies : List Reply) : Type 0 where
  round : TellsRound m.present.accepted after.present.accepted replies
  alike : AreAlike replies

refusal_told : (m after : Moment) (why : Refusal) (replies : List Reply) → after.present ≡ m.present → replies ≡ Refused why ∷ [] → AreTold m after replies
refusal_told m after why replies same is = record {
  round = record { rose = λ told. absurd (let none = ap (list_any tells_stable) is in cc); stayed = λ none. ap (λ (s : State). s.accepted) same };
  alike = λ first more are plain. absurd (let e : first ≡ Refused why = cc in let refused = ap is_refusal e in cc);
}

nothing_told : (m after : Moment) (replies : List Reply) → after ≡ m → replies ≡ [] → AreTold m after replies
nothing_told m after replies same is = record {
  round = record { rose = λ told. absurd (let none = ap (list_any tells_stable) is in cc); stayed = λ none. ap (λ (n : Moment). n.present.accepted) same };
  alike = λ first more are plain. absurd (cc);
}

stabilize_told : (F : Meanings) (m after : Moment) (replies : List Reply) → Stabilizes F m after replies → AreTold m after replies
stabilize_told F m after replies (settles notices free s settled unbroken is) = record {
  round = record { rose = λ told. s.accepted; stayed = λ none. absurd (let told = ap (list_any tells_stable) is in cc) };
  alike = λ first more are plain. ap (list_any is_refusal) is ∙ notices_plain notices;
}
stabilize_told F m after replies (by_cycle targets n cycle among met leads is) = refusal_told m after _ replies (ap (λ (x : Moment). x.present) leads) is
stabilize_told F m after replies (by_height target i met deep printed leads is) = refusal_told m after _ replies (ap (λ (x : Moment). x.present) leads) is

command_told : (m after : Moment) (c : Command) (replies : List Reply) → after.present ≡ effect m.present c → replies ≡ reply_to m.present c ∷ [] → AreTold m after replies
command_told m after c replies leads is =
    let plain = reply_plain m.present c in
    record {
      round = record {
        rose = λ told. absurd (let none = ap (list_any tells_stable) is ∙ or_false (tells_stable (reply_to m.present c)) ∙ plain.stable in cc);
        stayed = λ none. ap (λ (s : State). s.accepted) leads ∙ accepted_stays m.present c;
      };
      alike = λ first more are first_plain. ap (list_any is_refusal) is ∙ or_false (is_refusal (reply_to m.present c)) ∙ plain.refusal;
    }

verdict_told : (F : Meanings) (m after : Moment) (v : Verdict) (replies : List Reply) → Follows F m v after replies → AreTold m after replies
verdict_told F m after (Refuse why) replies h = refusal_told m after why replies (ap (λ (x : Moment). x.present) h.0) h.1
verdict_told F m after Settle replies h = stabilize_told F m after replies h
verdict_told F m after (Act c) replies h = command_told m after c replies (ap (λ (x : Moment). x.present) h.0) h.1

answers_told : (F : Meanings) (m after : Moment) (request : Request) (replies : List Reply) → Answers F m request after replies → AreTold m after replies
answers_told F m after TooLong replies h = refusal_told m after _ replies (ap (λ (x : Moment). x.present) h.0) h.1
answers_told F m after Blank replies h = nothing_told m after replies h.0 h.1
answers_told F m after Malformed replies h = refusal_told m after _ replies (ap (λ (x : Moment). x.present) h.0) h.1
answers_told F m after TooDeep replies h = refusal_told m after _ replies (ap (λ (x : Moment). x.present) h.0) h.1
answers_told F m after (Asks line) replies h = verdict_told F m after (verdict_of F m line) replies h

-- ---- a turn

-- the count of accepted stabilizes rises by a turn that is one
pub turn_tells : (F : Meanings) (t : Turn) → IsTurn F t → TellsRound t.before.present.accepted t.after.present.accepted t.replies
turn_tells F t is = (answers_told F t.before t.after t.request t.replies is.answers).round

-- where a turn's first reply is no refusal, none is
pub turn_is_alike : (F : Meanings) (t : Turn) (first : Reply) (more : List Reply) → IsTurn F t → t.replies ≡ first ∷ more → is_refusal first ≡ false → list_any is_refusal t.replies ≡ false
turn_is_alike F t first more is are plain = (answers_told F t.before t.after t.request t.replies is.answers).alike first more are plain
