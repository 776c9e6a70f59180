-- Turns of lines that ask for no stabilize: they end alike, and make no call.
use Rattle.std.proofs.Common.{◌≡◌, ℕ, false, List, [], ◌∷◌, Option, None, Some, refl, ap}
use Rattle.script_model.specs.Check as check
use Rattle.script_model.specs.Check.{Command, command_of, names_of, first_that}
use Rattle.script_model.specs.Formula.{Meanings}
use Rattle.script_model.specs.Grammar as grammar
use Rattle.script_model.specs.Laws.{OnlyStabilizesCall}
use Rattle.script_model.specs.Request.{Request, TooLong, Blank, Malformed, TooDeep, Asks, IsRequest}
use Rattle.script_model.specs.Run.{Turn, IsTurn, MayCall}
use Rattle.script_model.specs.Step.{Refusal, LineTooLong, NoCommand, LineTooDeep, Cycle, Height, breaks, Verdict, Refuse, Settle, Act, Reply, Refused, Moment, Follows, Answers, verdict_of, holds, order, shows, reply_to, shown_by}
use Rattle.script_model.specs.Values.{Outcome}
use Rattle.script_model.proofs.Requests.{every_plain_line_has_one_effect}
use Rattle.script_model.proofs.Steps.{IsPlain, plain_verdict, only_stabilize, verdict_is_plain}

-- ---- no call

-- a refusal that breaks nothing makes no call
refusal_calls : (F : Meanings) (m : Moment) (why : Refusal) (calls : ℕ) → breaks why ≡ false → MayCall F m (Refused why ∷ []) calls → calls ≡ 0
refusal_calls F m (Cycle targets) calls plain due = absurd (cc)
refusal_calls F m (Height target) calls plain due = absurd (cc)
refusal_calls F m why calls plain due = due

shown_calls : (F : Meanings) (m : Moment) (observer : List ℕ) (o : Option Outcome) (calls : ℕ) → MayCall F m (shows observer o ∷ []) calls → calls ≡ 0
shown_calls F m observer None calls due = due
shown_calls F m observer (Some o) calls due = due

act_calls : (F : Meanings) (m : Moment) (c : Command) (calls : ℕ) → MayCall F m (reply_to m.present c ∷ []) calls → calls ≡ 0
act_calls F m (check.Show observer) calls due = shown_calls F m observer (shown_by m.present observer) calls due
act_calls F m c calls due = due

follow_calls : (F : Meanings) (m after : Moment) (v : Verdict) (replies : List Reply) (calls : ℕ) → IsPlain v
    → ((r : Refusal) → v ≡ Refuse r → breaks r ≡ false) → Follows F m v after replies
    → MayCall F m replies calls → calls ≡ 0
follow_calls F m after (Refuse why) replies calls plain unbroken h due = refusal_calls F m why calls (unbroken why refl) (rw h.1 at due)
follow_calls F m after Settle replies calls plain unbroken h due = absurd plain
follow_calls F m after (Act c) replies calls plain unbroken h due = act_calls F m c calls (rw h.1 at due)

answer_calls : (F : Meanings) (m after : Moment) (r : Request) (replies : List Reply) (calls : ℕ) → (r ≡ Asks grammar.Stabilize → ⊥)
    → Answers F m r after replies → MayCall F m replies calls → calls ≡ 0
answer_calls F m after TooLong replies calls other h due = refusal_calls F m LineTooLong calls refl (rw h.1 at due)
answer_calls F m after Blank replies calls other h due = rw h.1 at due
answer_calls F m after Malformed replies calls other h due = refusal_calls F m NoCommand calls refl (rw h.1 at due)
answer_calls F m after TooDeep replies calls other h due = refusal_calls F m LineTooDeep calls refl (rw h.1 at due)
answer_calls F m after (Asks l) replies calls other h due =
    follow_calls F m after (verdict_of F m l) replies calls
    (plain_verdict m (command_of F (names_of m.present) l) (first_that (holds F m l) order)
    (only_stabilize F (names_of m.present) l (λ is. other (ap (λ x. Asks x) is))))
    (verdict_is_plain m (command_of F (names_of m.present) l) (first_that (holds F m l) order)) h due

pub only_stabilizes_call : OnlyStabilizesCall
only_stabilizes_call F t other h = answer_calls F t.before t.after t.request t.replies t.work (λ is. other (rw is at h.asks)) h.answers h.due

-- ---- one end

-- turns of one line, from one moment, that asks for no stabilize
pub plain_turns_alike : (F : Meanings) (t u : Turn) → t.before ≡ u.before → t.line ≡ u.line
    → (IsRequest u.line (Asks grammar.Stabilize) → ⊥) → IsTurn F t → IsTurn F u
    → (t.after ≡ u.after) × (t.replies ≡ u.replies)
plain_turns_alike F t u before line other h k =
    let asks : IsRequest u.line t.request = rw line at h.asks in
    let answers : Answers F u.before t.request t.after t.replies = rw before at h.answers in
    every_plain_line_has_one_effect F u.before t.after u.after u.line t.replies u.replies other (t.request, asks, answers)
    (u.request, k.asks, k.answers)
