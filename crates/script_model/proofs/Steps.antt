-- Refusals change nothing, and a line has one effect.
use Rattle.std.proofs.Common.{◌≡◌, ℕ, Bool, true, false, List, [], ◌∷◌, Option, None, Some, refl, sym, ◌∙◌, ap, cond}
use Rattle.inc_value.specs.declared.ty.Ty.{Ty}
use Rattle.inc_value.specs.Ty.{same_ty}
use Rattle.inc_value.specs.Choice.{and_then}
use Rattle.script_model.specs.Values.{Outcome}
use Rattle.script_model.specs.Formula.{State, Meanings}
use Rattle.script_model.specs.Grammar as grammar
use Rattle.script_model.specs.Grammar.{Line}
use Rattle.script_model.specs.Check as check
use Rattle.script_model.specs.Check.{Names, Command, Kind, Declared, Reason, SessionBroken, command_of, names_of, kind_of, find_declared, literal_of_type, typed_top, expert_of, link_of, where_same, first_that}
use Rattle.script_model.specs.Laws.{OneRequest, RefusalsChangeNothing, RefusedStabilizesBreak, OneEffect}
use Rattle.script_model.specs.Request.{Request, TooLong, Blank, Malformed, TooDeep, Asks}
use Rattle.script_model.specs.Step.{Refusal, LineTooLong, NoCommand, LineTooDeep, Cycle, Height, breaks, number_of, Verdict, Refuse, Settle, Act, Reply, Refused, Moment, Stabilizes, settles, by_cycle, by_height, Acts, Follows, Answers, allowed, verdict_for, verdict_of, refusal_for, holds, order, reply_to, shows, shown_by}

-- ---- refusals

shown_is_no_refusal : (observer : List ℕ) (o : Option Outcome) (why : Refusal) → shows observer o ≡ Refused why → ⊥
shown_is_no_refusal observer None why is = cc
shown_is_no_refusal observer (Some o) why is = cc

no_refusal : (s : State) (c : Command) (why : Refusal) → reply_to s c ≡ Refused why → ⊥
no_refusal s (check.Show observer) why is = shown_is_no_refusal observer (shown_by s observer) why is
no_refusal s c why is = cc

-- what a refusal does: nothing, or it breaks a session that wasn't broken
record Refused-leads (F : Meanings) (m after : Moment) (why : Refusal) : Type 0 where
  nothing : breaks why ≡ false → after ≡ m
  broken : breaks why ≡ true → after ≡ record m { broken = Some (number_of why) }

plainly : (F : Meanings) (m after : Moment) (why : Refusal) (r : Refusal) (rest : List Reply) → breaks r ≡ false → after ≡ m → Refused why ∷ rest ≡ Refused r ∷ [] → Refused-leads F m after why
plainly F m after why r rest plain same is = record { nothing = λ h. same; broken = λ h. let e : why ≡ r = cc in absurd (let f : breaks why ≡ false = rw e plain in cc) }

reason_is_plain : (m : Moment) (r : Reason) → breaks (refusal_for m r) ≡ false
reason_is_plain m SessionBroken = refl
reason_is_plain m r = refl

stabilize_leads : (F : Meanings) (m after : Moment) (why : Refusal) (rest : List Reply) → Stabilizes F m after (Refused why ∷ rest) → Refused-leads F m after why
stabilize_leads F m after why rest (settles notices free s settled unbroken is) = absurd (cc)
stabilize_leads F m after why rest (by_cycle targets n cycle among met leads is) =
    let e : why ≡ Cycle targets = cc in
    record { nothing = λ h. absurd (let f : breaks why ≡ true = rw e refl in cc); broken = λ h. rw e leads }
stabilize_leads F m after why rest (by_height target i met deep printed leads is) =
    let e : why ≡ Height target = cc in
    record { nothing = λ h. absurd (let f : breaks why ≡ true = rw e refl in cc); broken = λ h. rw e leads }

act_leads : (F : Meanings) (m after : Moment) (why : Refusal) (rest : List Reply) (c : Command) → Acts m c after (Refused why ∷ rest) → Refused-leads F m after why
act_leads F m after why rest c h = let is = h.1 in absurd (no_refusal m.present c why (cc))

-- a verdict that is reached
follow_leads : (F : Meanings) (m after : Moment) (why : Refusal) (rest : List Reply) (v : Verdict) → ((r : Refusal) → v ≡ Refuse r → breaks r ≡ false) → Follows F m v after (Refused why ∷ rest) → Refused-leads F m after why
follow_leads F m after why rest (Refuse r) plain h = plainly F m after why r rest (plain r refl) h.0 h.1
follow_leads F m after why rest Settle plain h = stabilize_leads F m after why rest h
follow_leads F m after why rest (Act c) plain h = act_leads F m after why rest c h

allowed_is_plain : (c : Option Command) (r : Refusal) → allowed c ≡ Refuse r → breaks r ≡ false
allowed_is_plain None r is = let e : r ≡ NoCommand = cc in rw e refl
allowed_is_plain (Some check.Stabilize) r is = absurd (cc)
allowed_is_plain (Some c) r is = absurd (cc)

pub verdict_is_plain : (m : Moment) (c : Option Command) (why : Option Reason) (r : Refusal) → verdict_for m c why ≡ Refuse r → breaks r ≡ false
verdict_is_plain m c None r is = allowed_is_plain c r is
verdict_is_plain m c (Some why) r is = let e : r ≡ refusal_for m why = cc in rw e (reason_is_plain m why)

answer_leads : (F : Meanings) (m after : Moment) (why : Refusal) (rest : List Reply) (request : Request) → Answers F m request after (Refused why ∷ rest) → Refused-leads F m after why
answer_leads F m after why rest TooLong h = plainly F m after why LineTooLong rest refl h.0 h.1
answer_leads F m after why rest Blank h = let is = h.1 in absurd (cc)
answer_leads F m after why rest Malformed h = plainly F m after why NoCommand rest refl h.0 h.1
answer_leads F m after why rest TooDeep h = plainly F m after why LineTooDeep rest refl h.0 h.1
answer_leads F m after why rest (Asks l) h = follow_leads F m after why rest (verdict_of F m l) (verdict_is_plain m (command_of F (names_of m.present) l) (first_that (holds F m l) order)) h

pub refusals_change_nothing : RefusalsChangeNothing
refusals_change_nothing F m after line why rest step plain = (answer_leads F m after why rest step.0 step.2).nothing plain

-- ---- one effect

-- no command of the kind
abbrev pub Never : Option Command → Type 0
Never (Some check.Stabilize) = ⊥
Never c = Unit {0}

never_then : {A : Type 0} (o : Option A) (next : A → Option Command) → ((x : A) → Never (next x)) → Never (and_then o next)
never_then None next h = tt
never_then (Some x) next h = h x

never_same : (a b : Ty) (c : Command) → Never (Some c) → Never (where_same a b (Some c))
never_same a b c h = go (same_ty a b)
  where
    go : (same : Bool) → Never (cond same (Some c) None)
    go true = h
    go false = tt

never_link : (k : Option Kind) (e : ℕ) (d : Declared) → Never (link_of k e d)
never_link None e d = tt
never_link (Some (check.Expert t)) e d = never_same d.ty t (check.Link e d.target) tt
never_link (Some k) e d = tt

pub only_stabilize : (F : Meanings) (names : Names) (l : Line) → (l ≡ grammar.Stabilize → ⊥) → Never (command_of F names l)
only_stabilize F names (grammar.Var name t first) other = never_then (literal_of_type names t first) _ (λ v. tt)
only_stabilize F names (grammar.Set name literal) other = never_then (find_declared names name) _ (λ d. never_then (literal_of_type names d.ty literal) (λ v. Some (check.Assign d.target v)) (λ v. tt))
only_stabilize F names (grammar.Let name tree) other = never_then (typed_top F names tree) _ (λ t. tt)
only_stabilize F names (grammar.Expert name function first) other = never_then (F.named function) _ (λ f. never_then (expert_of names first f) (λ t. Some (check.Declare name t.ty t.body)) (λ t. tt))
only_stabilize F names (grammar.Link expert name) other =
    never_then (find_declared names expert) _ (λ e. never_then (find_declared names name) (λ d. link_of (kind_of names expert) e.target d) (λ d. never_link (kind_of names expert) e.target d))
only_stabilize F names (grammar.Unlink expert name) other = never_then (find_declared names expert) _ (λ e. never_then (find_declared names name) (λ d. Some (check.Unlink e.target d.target)) (λ d. tt))
only_stabilize F names (grammar.Stale expert) other = never_then (find_declared names expert) _ (λ e. tt)
only_stabilize F names (grammar.Grab name bind) other = never_then (find_declared names bind) _ (λ e. tt)
only_stabilize F names (grammar.Observe observer name) other = never_then (find_declared names name) _ (λ e. tt)
only_stabilize F names (grammar.Unobserve observer) other = tt
only_stabilize F names (grammar.Watch observer) other = tt
only_stabilize F names (grammar.Show observer) other = tt
only_stabilize F names (grammar.Advance span) other = tt
only_stabilize F names (grammar.AdvanceTo time) other = tt
only_stabilize F names grammar.Stabilize other = absurd (other refl)

abbrev Same : Moment → Moment → List Reply → List Reply → Type 0
Same a b rs qs = (a ≡ b) × (rs ≡ qs)

-- not the verdict of a stabilize
abbrev pub IsPlain : Verdict → Type 0
IsPlain Settle = ⊥
IsPlain v = Unit {0}

plain_allowed : (c : Option Command) → Never c → IsPlain (allowed c)
plain_allowed None h = tt
plain_allowed (Some check.Stabilize) h = absurd h
plain_allowed (Some c) h = tt

pub plain_verdict : (m : Moment) (c : Option Command) (why : Option Reason) → Never c → IsPlain (verdict_for m c why)
plain_verdict m c None h = plain_allowed c h
plain_verdict m c (Some why) h = tt

one_follows : (F : Meanings) (m a b : Moment) (v : Verdict) (rs qs : List Reply) → IsPlain v → Follows F m v a rs → Follows F m v b qs → Same a b rs qs
one_follows F m a b (Refuse why) rs qs plain h k = (h.0 ∙ sym k.0, h.1 ∙ sym k.1)
one_follows F m a b Settle rs qs plain h k = absurd plain
one_follows F m a b (Act c) rs qs plain h k = (h.0 ∙ sym k.0, h.1 ∙ sym k.1)

one_answers : (F : Meanings) (m a b : Moment) (r : Request) (rs qs : List Reply) → (r ≡ Asks grammar.Stabilize → ⊥) → Answers F m r a rs → Answers F m r b qs → Same a b rs qs
one_answers F m a b TooLong rs qs other h k = (h.0 ∙ sym k.0, h.1 ∙ sym k.1)
one_answers F m a b Blank rs qs other h k = (h.0 ∙ sym k.0, h.1 ∙ sym k.1)
one_answers F m a b Malformed rs qs other h k = (h.0 ∙ sym k.0, h.1 ∙ sym k.1)
one_answers F m a b TooDeep rs qs other h k = (h.0 ∙ sym k.0, h.1 ∙ sym k.1)
one_answers F m a b (Asks l) rs qs other h k =
    one_follows F m a b (verdict_of F m l) rs qs
    (plain_verdict m (command_of F (names_of m.present) l) (first_that (holds F m l) order) (only_stabilize F (names_of m.present) l (λ is. other (ap (λ x. Asks x) is)))) h k

pub one_effect : OneRequest → OneEffect
one_effect one_request F m a b line rs qs other h k =
    let same = one_request line k.0 h.0 k.1 h.1 in
    one_answers F m a b h.0 rs qs (λ is. other (rw is at h.1)) h.2 (rw same at k.2)

-- ---- a refused stabilize breaks

pub broken_first : (F : Meanings) (m : Moment) (l : Line) (b : Option ℕ) → m.broken ≡ b → verdict_of F m l ≡ Settle → m.broken ≡ None
broken_first F m l None none is = none
broken_first F m l (Some k) some is = absurd (let e = rw some at is in cc)

pub breaking_follows : (F : Meanings) (m after : Moment) (why : Refusal) (rest : List Reply) (v : Verdict) → ((r : Refusal) → v ≡ Refuse r → breaks r ≡ false) → breaks why ≡ true
    → Follows F m v after (Refused why ∷ rest) → v ≡ Settle
breaking_follows F m after why rest (Refuse r) plain breaking h = let is = h.1 in let e : why ≡ r = cc in let f = plain r refl in absurd (let g : breaks why ≡ false = rw e f in cc)
breaking_follows F m after why rest Settle plain breaking h = refl
breaking_follows F m after why rest (Act c) plain breaking h = let is = h.1 in absurd (no_refusal m.present c why (cc))

breaking_answers : (F : Meanings) (m after : Moment) (why : Refusal) (rest : List Reply) (request : Request) → breaks why ≡ true → Answers F m request after (Refused why ∷ rest) → m.broken ≡ None
breaking_answers F m after why rest TooLong breaking h = let is = h.1 in let e : why ≡ LineTooLong = cc in absurd (let g : breaks why ≡ false = rw e refl in cc)
breaking_answers F m after why rest Blank breaking h = let is = h.1 in absurd (cc)
breaking_answers F m after why rest Malformed breaking h = let is = h.1 in let e : why ≡ NoCommand = cc in absurd (let g : breaks why ≡ false = rw e refl in cc)
breaking_answers F m after why rest TooDeep breaking h = let is = h.1 in let e : why ≡ LineTooDeep = cc in absurd (let g : breaks why ≡ false = rw e refl in cc)
breaking_answers F m after why rest (Asks l) breaking h =
    broken_first F m l m.broken refl
    (breaking_follows F m after why rest (verdict_of F m l) (verdict_is_plain m (command_of F (names_of m.present) l) (first_that (holds F m l) order)) breaking h)

pub refused_stabilizes_break : RefusedStabilizesBreak
refused_stabilizes_break F m after line why rest step breaking =
    (breaking_answers F m after why rest step.0 breaking step.2, (answer_leads F m after why rest step.0 step.2).broken breaking)
