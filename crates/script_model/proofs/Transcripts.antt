-- The same lines print the same bytes.
use Rattle.std.proofs.Common.{◌≡◌, ℕ, zero, suc, ◌+◌, Bool, true, false, cond, List, [], ◌∷◌, ◌++◌, map, Option, None, Some, refl, ap, sym, subst, arith, ◌∙◌}
use Rattle.std.proofs.lemmas.List.{take-map}
use Rattle.std.specs.Prelude.{take}
use Rattle.std.specs.List.{flat_map}
use Rattle.inc_value.specs.Ty.{same_ty, same_types}
use Rattle.inc_value.specs.declared.function.FnRef.{FnRef}
use Rattle.inc_value.specs.declared.ty.Ty.TheVariants as ty
use Rattle.inc_value.specs.declared.ty.Ty.{Ty}
use Rattle.script_model.specs.Check as check
use Rattle.script_model.specs.Check.{Command, Names, Kind, Declared, command_of, names_of, kind_of, find_declared, literal_of_type, typed_top, expert_of, link_of, where_same}
use Rattle.inc_value.specs.Choice.{and_then, Every}
use Rattle.script_model.specs.Evaluate.{Gives}
use Rattle.script_model.specs.Formula as model
use Rattle.script_model.specs.Formula.{Body, Entry, Observer, State, Meanings, Name, Variable, Computed, Freeze, After, Expert, Grab, nothing_kept}
use Rattle.script_model.specs.Grammar as grammar
use Rattle.script_model.specs.Grammar.{Line, Tree}
use Rattle.script_model.specs.Laws.{IsUnbroken, GrabsNothing, PrintAlike, broken_after, OneTranscript, OneBeginning, OneTranscriptPastRefusals, OneEnd, forget_body, forget_entry, forget_all, forget, forget_moment}
use Rattle.script_model.specs.Request.{Request, TooLong, Blank, Malformed, TooDeep, Asks, IsRequest}
use Rattle.script_model.specs.Run.{Turn, IsTurn, IsRun, Chain, bytes_of, lines_read, transcript}
use Rattle.script_model.specs.Settle.{Notice, ShowAll, showing, notices_of, recorded, Becomes, BecomeAll, Settles}
use Rattle.script_model.specs.Step as steps
use Rattle.script_model.specs.Step.{Moment, Verdict, Refuse, Settle, Act, Reply, Tells, Stable, Stabilizes, settles, by_cycle, by_height, effect, moved, with_body, Follows, Answers, verdict_of, reply_to, printed, printed_reply, name_of, first_moment}
use Rattle.script_model.specs.Values.{Outcome}
use Rattle.script_model.proofs.Forgetting.{same_outcomes, name_of_forgotten, extensional, NoGrab, GrabsNone, verdict_forgotten, effect_forgotten}
use Rattle.script_model.proofs.Requests.{one_request}
use Rattle.script_model.proofs.Steps.{broken_first}

-- ---- lines without grabs

none_then : {A : Type 0} (o : Option A) (next : A → Option Command) → ((x : A) → GrabsNone (next x)) → GrabsNone (and_then o next)
none_then None next h = tt
none_then (Some x) next h = h x

none_same : (a b : Ty) (c : Command) → GrabsNone (Some c) → GrabsNone (where_same a b (Some c))
none_same a b c h = go (same_ty a b)
  where
    go : (same : Bool) → GrabsNone (cond same (Some c) None)
    go true = h
    go false = tt

none_link : (k : Option Kind) (e : ℕ) (d : Declared) → GrabsNone (link_of k e d)
none_link None e d = tt
none_link (Some (check.Expert t)) e d = none_same d.ty t (check.Link e d.target) tt
none_link (Some k) e d = tt

-- the body of what is declared is no grab
abbrev BodyIsNone : Option check.TypedBody → Type 0
BodyIsNone None = Unit {0}
BodyIsNone (Some t) = NoGrab t.body

body_then : {A : Type 0} (o : Option A) (next : A → Option check.TypedBody) → ((x : A) → BodyIsNone (next x)) → BodyIsNone (and_then o next)
body_then None next h = tt
body_then (Some x) next h = h x

body_where : (b : Bool) (o : Option check.TypedBody) → BodyIsNone o → BodyIsNone (cond b o None)
body_where true o h = h
body_where false o h = tt

frozen_is_none : (c : check.TypedFormula) (f : FnRef) → BodyIsNone (check.frozen_when c f)
frozen_is_none c f =
    body_where (same_types f.sig.takes (c.ty ∷ [])) (where_same f.sig.gives ty.Bool (check.body_as (Freeze c.formula f None) c.ty))
    (body_where (same_ty f.sig.gives ty.Bool) (check.body_as (Freeze c.formula f None) c.ty) tt)

top_is_none : (F : Meanings) (names : Names) (tree : Tree) → BodyIsNone (typed_top F names tree)
top_is_none F names (grammar.Freeze child predicate) =
    body_then (check.typed F names [] child) _ (λ c. body_then (F.named predicate) _ (λ f. frozen_is_none c f))
top_is_none F names (grammar.After span) = tt
top_is_none F names (grammar.Every span) = tt
top_is_none F names tree = body_then (check.typed F names [] tree) (λ t. check.body_as (Computed t.formula nothing_kept) t.ty) (λ t. tt)

declares_none : (name : List ℕ) (o : Option check.TypedBody) → BodyIsNone o → GrabsNone (and_then o (λ t. Some (check.Declare name t.ty t.body)))
declares_none name None h = tt
declares_none name (Some t) h = h

grabs_none : (F : Meanings) (names : Names) (l : Line) → ((name bind : List ℕ) → l ≡ grammar.Grab name bind → ⊥) → GrabsNone (command_of F names l)
grabs_none F names (grammar.Var name t first) other = none_then (literal_of_type names t first) _ (λ v. tt)
grabs_none F names (grammar.Set name literal) other =
    none_then (find_declared names name) _ (λ d. none_then (literal_of_type names d.ty literal) (λ v. Some (check.Assign d.target v)) (λ v. tt))
grabs_none F names (grammar.Let name tree) other = declares_none name (typed_top F names tree) (top_is_none F names tree)
grabs_none F names (grammar.Expert name function first) other =
    none_then (F.named function) _
    (λ f. declares_none name (expert_of names first f) (body_then _ _ (λ t. body_then (literal_of_type names f.sig.gives first) _ (λ v. tt))))
grabs_none F names (grammar.Link expert name) other =
    none_then (find_declared names expert) _
    (λ e. none_then (find_declared names name) (λ d. link_of (kind_of names expert) e.target d) (λ d. none_link (kind_of names expert) e.target d))
grabs_none F names (grammar.Unlink expert name) other =
    none_then (find_declared names expert) _ (λ e. none_then (find_declared names name) (λ d. Some (check.Unlink e.target d.target)) (λ d. tt))
grabs_none F names (grammar.Stale expert) other = none_then (find_declared names expert) _ (λ e. tt)
grabs_none F names (grammar.Grab name bind) other = absurd (other name bind refl)
grabs_none F names (grammar.Observe observer name) other = none_then (find_declared names name) _ (λ e. tt)
grabs_none F names (grammar.Unobserve observer) other = tt
grabs_none F names (grammar.Watch observer) other = tt
grabs_none F names (grammar.Show observer) other = tt
grabs_none F names (grammar.Advance span) other = tt
grabs_none F names (grammar.AdvanceTo time) other = tt
grabs_none F names grammar.Stabilize other = tt

-- ---- states without grabs

abbrev pub NoGrabs : List Entry → Type 0
NoGrabs entries = Every (λ (e : Entry). NoGrab e.body) entries

one_more : (es : List Entry) (e : Entry) → NoGrabs es → NoGrab e.body → NoGrabs (es ++ e ∷ [])
one_more [] e h last = (last, tt)
one_more (x ∷ es) e h last = (h.0, one_more es e h.1 last)

changed_none : (change : Body → Body) → ((b : Body) → NoGrab b → NoGrab (change b)) → (es : List Entry) (n : ℕ) → NoGrabs es
    → NoGrabs (with_body change es n)
changed_none change keeps [] n h = tt
changed_none change keeps (e ∷ es) zero h = (keeps e.body h.0, h.1)
changed_none change keeps (e ∷ es) (suc n) h = (h.0, changed_none change keeps es n h.1)

effect_none : (s : State) (c : Command) → GrabsNone (Some c) → NoGrabs s.entries → NoGrabs (effect s c).entries
effect_none s (check.Take name t bind) none h = absurd none
effect_none s (check.Declare name t body) none h = one_more s.entries _ h none
effect_none s (check.Assign target v) none h = changed_none (λ body. Variable v) (λ b x. tt) s.entries target h
effect_none s (check.Link expert target) none h = changed_none (steps.linked target) (λ b x. linked_none b x) s.entries expert h
  where
    linked_none : (b : Body) → NoGrab b → NoGrab (steps.linked target b)
    linked_none (Grab bind v is_live) x = absurd x
    linked_none b x = tt
effect_none s (check.Unlink expert target) none h = changed_none (steps.unlinked target) (λ b x. unlinked_none b x) s.entries expert h
  where
    unlinked_none : (b : Body) → NoGrab b → NoGrab (steps.unlinked target b)
    unlinked_none (Grab bind v is_live) x = absurd x
    unlinked_none b x = tt
effect_none s (check.Stale expert) none h = changed_none steps.staled (λ b x. staled_none b x) s.entries expert h
  where
    staled_none : (b : Body) → NoGrab b → NoGrab (steps.staled b)
    staled_none (Grab bind v is_live) x = absurd x
    staled_none b x = tt
effect_none s c none h = h

-- ---- a stabilize

-- what a declaration becomes, without what was built
abbrev Turns : Meanings → State → Body → Body → Type 0
Turns F s (Freeze child predicate None) body = (o : Outcome) × Gives F s [] child o × (body ≡ Freeze child predicate (recorded F predicate o))
Turns F s b body = body ≡ b

becomes_turns : (F : Meanings) (before s after : State) (n : ℕ) (b body : Body) → NoGrab b → Becomes F before s after n b body
    → Turns F s (forget_body b) (forget_body body)
becomes_turns F before s after n (Variable v) body none h = rw h refl
becomes_turns F before s after n (Computed f was) body none h = rw h.1 refl
becomes_turns F before s after n (Freeze child predicate (Some v)) body none h = rw h refl
becomes_turns F before s after n (Freeze child predicate None) body none h = (h.0, h.1, rw h.2 refl)
becomes_turns F before s after n (After t) body none h = rw h refl
becomes_turns F before s after n (model.Every base span) body none h = rw h refl
becomes_turns F before s after n (Expert f first links stale) body none h = rw h refl
becomes_turns F before s after n (Grab bind v is_live) body none h = absurd none

one_turn : (F : Meanings) (s t : State) → forget s ≡ forget t → (b x y : Body) → Turns F s b x → Turns F t b y → x ≡ y
one_turn F s t same (Freeze child predicate None) x y h k =
    let o = same_outcomes F s t [] child h.0 k.0 same h.1 k.1 in h.2 ∙ (ap (λ o. Freeze child predicate (recorded F predicate o)) o ∙ sym k.2)
one_turn F s t same b x y h k = h ∙ sym k

-- an entry keeps all but its body
becomes_none : (F : Meanings) (before s after : State) (n : ℕ) (b body : Body) → NoGrab b → Becomes F before s after n b body → NoGrab body
becomes_none F before s after n (Variable v) body none h = rw h tt
becomes_none F before s after n (Computed f was) body none h = rw h.1 tt
becomes_none F before s after n (Freeze child predicate (Some v)) body none h = rw h tt
becomes_none F before s after n (Freeze child predicate None) body none h = rw h.2 tt
becomes_none F before s after n (After t) body none h = rw h tt
becomes_none F before s after n (model.Every base span) body none h = rw h tt
becomes_none F before s after n (Expert f first links stale) body none h = rw h tt
becomes_none F before s after n (Grab bind v is_live) body none h = absurd none

all_become_none : (F : Meanings) (before s after : State) (n : ℕ) (xs ys : List Entry) → NoGrabs xs → BecomeAll F before s after n xs ys → NoGrabs ys
all_become_none F before s after n [] [] none h = tt
all_become_none F before s after n [] (y ∷ ys) none h = absurd h
all_become_none F before s after n (x ∷ xs) [] none h = absurd h
all_become_none F before s after n (x ∷ xs) (y ∷ ys) none h =
    (rw h.0.1 (becomes_none F before s after n x.body h.0.0 none.0 h.0.2), all_become_none F before s after (suc n) xs ys none.1 h.1)

entry_bodies : (x y : Entry) (b c : Body) → forget_entry x ≡ forget_entry y → forget_body b ≡ forget_body c → forget_entry
    (record x { body = b }) ≡ forget_entry (record y { body = c })
entry_bodies x y b c same bodies =
    let names : x.name ≡ y.name = ap (λ (e : Entry). e.name) same in
    let tys : x.ty ≡ y.ty = ap (λ (e : Entry). e.ty) same in
    let targets : x.target ≡ y.target = ap (λ (e : Entry). e.target) same in
    rw (names, tys, targets, bodies) refl

all_become_alike : (F : Meanings) (before s after before' t after' : State) → forget s ≡ forget t → (n : ℕ) (xs ys xs' ys' : List Entry)
    → NoGrabs xs → NoGrabs xs' → forget_all xs ≡ forget_all xs'
    → BecomeAll F before s after n xs ys → BecomeAll F before' t after' n xs' ys' → forget_all ys ≡ forget_all ys'
all_become_alike F before s after before' t after' same n [] ys [] ys' none none' alike h k = both_end ys ys' h k
  where
    both_end : (ys ys' : List Entry) → BecomeAll F before s after n [] ys → BecomeAll F before' t after' n [] ys' → forget_all ys ≡ forget_all ys'
    both_end [] [] h k = refl
    both_end (y ∷ ys) ys' h k = absurd h
    both_end ys (y ∷ ys') h k = absurd k
all_become_alike F before s after before' t after' same n [] ys (x ∷ xs') ys' none none' alike h k = absurd (cc)
all_become_alike F before s after before' t after' same n (x ∷ xs) ys [] ys' none none' alike h k = absurd (cc)
all_become_alike F before s after before' t after' same n (x ∷ xs) [] (x' ∷ xs') ys' none none' alike h k = absurd h
all_become_alike F before s after before' t after' same n (x ∷ xs) ys (x' ∷ xs') [] none none' alike h k = absurd k
all_become_alike F before s after before' t after' same n (x ∷ xs) (y ∷ ys) (x' ∷ xs') (y' ∷ ys') none none' alike h k =
    let firsts : forget_entry x ≡ forget_entry x' = cc in
    let rests : forget_all xs ≡ forget_all xs' = cc in
    let bodies : forget_body x.body ≡ forget_body x'.body = ap (λ (e : Entry). e.body) firsts in
    let one = becomes_turns F before s after n x.body h.0.0 none.0 h.0.2 in
    let other = becomes_turns F before' t after' n x'.body k.0.0 none'.0 k.0.2 in
    let turned = one_turn F s t same (forget_body x'.body) (forget_body h.0.0) (forget_body k.0.0) (rw bodies at one) other in
    let later = all_become_alike F before s after before' t after' same (suc n) xs ys xs' ys' none.1 none'.1 rests h.1 k.1 in
    rw (h.0.1, k.0.1, entry_bodies x x' h.0.0 k.0.0 firsts turned, later) refl

pub all_show_alike : (F : Meanings) (s t : State) → forget s ≡ forget t → (xs ys ys' : List Observer) (notices notices' : List Notice)
    → ShowAll F s xs ys notices → ShowAll F t xs ys' notices' → (ys ≡ ys') × (notices ≡ notices')
all_show_alike F s t same [] [] [] notices notices' h k = (refl, h ∙ sym k)
all_show_alike F s t same [] (y ∷ ys) ys' notices notices' h k = absurd h
all_show_alike F s t same [] ys (y ∷ ys') notices notices' h k = absurd k
all_show_alike F s t same (x ∷ xs) [] ys' notices notices' h k = absurd h
all_show_alike F s t same (x ∷ xs) ys [] notices notices' h k = absurd k
all_show_alike F s t same (x ∷ xs) (y ∷ ys) (y' ∷ ys') notices notices' h k =
    let o = same_outcomes F s t [] (Name x.target) h.0 k.0 same h.2 k.2 in
    let later = all_show_alike F s t same xs ys ys' h.1 k.1 h.5 k.5 in
    let shows : showing x h.0 ≡ showing x k.0 = ap (λ o. showing x o) o in
    let firsts : y ≡ y' = h.3 ∙ (shows ∙ sym k.3) in
    let tells : notices_of x.name x.watch h.0 ++ h.1 ≡ notices_of x.name x.watch k.0 ++ k.1 = rw (o, later.1) refl in
    (rw (firsts, later.0) refl, h.4 ∙ (tells ∙ sym k.4))

-- states that differ by what was built settle alike
pub settle_alike : (F : Meanings) (before s after before' t after' : State) (notices notices' : List Notice) → forget s ≡ forget t
    → NoGrabs s.entries → NoGrabs t.entries
    → Settles F before s after notices → Settles F before' t after' notices' → (forget after ≡ forget after') × (notices ≡ notices')
settle_alike F before s after before' t after' notices notices' same none none' h k =
    let observers : s.observers ≡ t.observers = ap (λ (s : State). s.observers) same in
    let entries : forget_all s.entries ≡ forget_all t.entries = ap (λ (s : State). s.entries) same in
    let clocks : s.now ≡ t.now = ap (λ (s : State). s.now) same in
    let counts : s.accepted ≡ t.accepted = ap (λ (s : State). s.accepted) same in
    let shown =
    all_show_alike F s t same t.observers after.observers after'.observers notices notices'
    (subst (λ os. ShowAll F s os after.observers notices) observers h.observers) k.observers in
    let become =
    all_become_alike F before s after before' t after' same 0 s.entries after.entries t.entries after'.entries none none' entries h.entries k.entries in
    let now : after.now ≡ after'.now = h.now ∙ (clocks ∙ sym k.now) in
    let accepted : after.accepted ≡ after'.accepted = h.accepted ∙ (ap (λ n. n + 1) counts ∙ sym k.accepted) in
    (rw (become, shown.0, now, accepted) refl, shown.1)

-- ---- a line

-- the moments differ by what was built alone, and hold no grab
record Alike (m n : Moment) : Type 0 where
  same : forget_moment m ≡ forget_moment n
  none : NoGrabs m.present.entries
  none' : NoGrabs n.present.entries

-- they are alike afterwards, and the replies are the same unless a stabilize was refused
record Ends (m after after' : Moment) (replies replies' : List Reply) : Type 0 where
  alike : Alike after after'
  said : after.broken ≡ m.broken → replies ≡ replies'

unchanged : (m n after after' : Moment) (replies replies' said : List Reply) → Alike m n → (after ≡ m) × (replies ≡ said)
    → (after' ≡ n) × (replies' ≡ said) → Ends m after after' replies replies'
unchanged m n after after' replies replies' said alike h k = record { alike = rw (h.0, k.0) alike; said = λ stays. h.1 ∙ sym k.1 }

-- both are refused, with one number
both_break : (m n after after' : Moment) (replies replies' : List Reply) (k : ℕ) → Alike m n → m.broken ≡ None
    → after ≡ record m { broken = Some k } → after' ≡ record n { broken = Some k } → Ends m after after' replies replies'
both_break m n after after' replies replies' k alike whole leads leads' =
    let settled : forget m.settled ≡ forget n.settled = ap (λ (x : Moment). x.settled) alike.same in
    let presents : forget m.present ≡ forget n.present = ap (λ (x : Moment). x.present) alike.same in
    record {
      alike = rw (leads, leads') (record { same = rw (settled, presents) refl; none = alike.none; none' = alike.none' });
      said = λ stays. absurd (let e : after.broken ≡ Some k = rw leads refl in cc);
    }

number_apart : (a b : ℕ) → (a ≡ b → ⊥) → Some a ≡ Some b → ⊥
number_apart a b apart e = apart (cc)

stabilizes_alike : (F : Meanings) (m n after after' : Moment) (replies replies' : List Reply) → Alike m n → m.broken ≡ None
    → after.broken ≡ after'.broken → Stabilizes F m after replies → Stabilizes F n after' replies' → Ends m after after' replies replies'
stabilizes_alike F m n after after' replies replies' alike whole same (by_cycle targets k cycle among met leads is)
    (by_cycle targets' k' cycle' among' met' leads' is') = both_break m n after after' replies replies' 20 alike whole leads leads'
stabilizes_alike F m n after after' replies replies' alike whole same (by_cycle targets k cycle among met leads is)
    (by_height target i met' deep named leads' is') =
    absurd (number_apart 20 21 (λ e. omega (arith, e)) (sym (ap (λ (x : Moment). x.broken) leads) ∙ (same ∙ ap (λ (x : Moment). x.broken) leads')))
stabilizes_alike F m n after after' replies replies' alike whole same (by_cycle targets k cycle among met leads is)
    (settles notices free s settled broken is') = absurd (let e : after.broken ≡ Some 20 = rw leads refl in cc)
stabilizes_alike F m n after after' replies replies' alike whole same (by_height target i met deep named leads is)
    (by_cycle targets k cycle among met' leads' is') =
    absurd (number_apart 21 20 (λ e. omega (arith, e)) (sym (ap (λ (x : Moment). x.broken) leads) ∙ (same ∙ ap (λ (x : Moment). x.broken) leads')))
stabilizes_alike F m n after after' replies replies' alike whole same (by_height target i met deep named leads is)
    (by_height target' i' met' deep' named' leads' is') = both_break m n after after' replies replies' 21 alike whole leads leads'
stabilizes_alike F m n after after' replies replies' alike whole same (by_height target i met deep named leads is)
    (settles notices free s settled broken is') = absurd (let e : after.broken ≡ Some 21 = rw leads refl in cc)
stabilizes_alike F m n after after' replies replies' alike whole same (settles notices free s settled broken is)
    (by_cycle targets k cycle among met leads is') = absurd (let e : after'.broken ≡ Some 20 = rw leads refl in cc)
stabilizes_alike F m n after after' replies replies' alike whole same (settles notices free s settled broken is)
    (by_height target i met deep named leads is') = absurd (let e : after'.broken ≡ Some 21 = rw leads refl in cc)
stabilizes_alike F m n after after' replies replies' alike whole same (settles notices free s settled broken is)
    (settles notices' free' s' settled' broken' is') =
    let presents : forget m.present ≡ forget n.present = ap (λ (x : Moment). x.present) alike.same in
    let ends =
    settle_alike F m.settled m.present after.present n.settled n.present after'.present notices notices' presents alike.none alike.none' s s' in
    let counts : m.present.accepted ≡ n.present.accepted = ap (λ (x : State). x.accepted) presents in
    let said : Stable (m.present.accepted + 1) ∷ map (λ n. Tells n) notices ≡ Stable (n.present.accepted + 1) ∷ map (λ n. Tells n) notices' =
    rw (counts, ends.1) refl in
    record {
      alike = record {
        same = rw (settled, settled', broken, broken', ends.0) refl;
        none = all_become_none F m.settled m.present after.present 0 m.present.entries after.present.entries alike.none s.entries;
        none' = all_become_none F n.settled n.present after'.present 0 n.present.entries after'.present.entries alike.none' s'.entries;
      };
      said = λ stays. is ∙ (said ∙ sym is');
    }

moved_alike : (m n : Moment) (c : Command) → GrabsNone (Some c) → Alike m n → Alike (moved m c) (moved n c)
moved_alike m n c none alike =
    let presents : forget m.present ≡ forget n.present = ap (λ (x : Moment). x.present) alike.same in
    let moves : forget (effect m.present c) ≡ forget (effect n.present c) =
    sym (effect_forgotten m.present c none) ∙ (ap (λ s. forget (effect s c)) presents ∙ effect_forgotten n.present c none) in
    let settled : forget m.settled ≡ forget n.settled = ap (λ (x : Moment). x.settled) alike.same in
    let broken : m.broken ≡ n.broken = ap (λ (x : Moment). x.broken) alike.same in
    record {
      same = rw (settled, moves, broken) refl;
      none = effect_none m.present c none alike.none;
      none' = effect_none n.present c none alike.none';
    }

shown_alike : (m n : Moment) (c : Command) → Alike m n → reply_to m.present c ≡ reply_to n.present c
shown_alike m n (check.Show observer) alike =
    let observers : m.present.observers ≡ n.present.observers = ap (λ (x : Moment). x.present.observers) alike.same in rw observers refl
shown_alike m n c alike = refl

-- a verdict whose command is no grab
abbrev ActsPlainly : Verdict → Type 0
ActsPlainly (Act c) = GrabsNone (Some c)
ActsPlainly v = Unit {0}

allowed_plainly : (c : Option Command) → GrabsNone c → ActsPlainly (steps.allowed c)
allowed_plainly None h = tt
allowed_plainly (Some check.Stabilize) h = tt
allowed_plainly (Some c) h = h

verdict_plainly : (m : Moment) (c : Option Command) (why : Option check.Reason) → GrabsNone c → ActsPlainly (steps.verdict_for m c why)
verdict_plainly m c None h = allowed_plainly c h
verdict_plainly m c (Some why) h = tt

follow_alike : (F : Meanings) (m n after after' : Moment) (v : Verdict) (replies replies' : List Reply) → Alike m n → ActsPlainly v
    → (v ≡ Settle → m.broken ≡ None) → after.broken ≡ after'.broken
    → Follows F m v after replies → Follows F n v after' replies' → Ends m after after' replies replies'
follow_alike F m n after after' (Refuse why) replies replies' alike plain whole same h k = unchanged m n after after' replies replies' _ alike h k
follow_alike F m n after after' Settle replies replies' alike plain whole same h k =
    stabilizes_alike F m n after after' replies replies' alike (whole refl) same h k
follow_alike F m n after after' (Act c) replies replies' alike plain whole same h k =
    let said : reply_to m.present c ∷ [] ≡ reply_to n.present c ∷ [] = rw (shown_alike m n c alike) refl in
    record { alike = rw (h.0, k.0) (moved_alike m n c plain alike); said = λ stays. h.1 ∙ (said ∙ sym k.1) }

answer_alike : (F : Meanings) (m n after after' : Moment) (r : Request) (replies replies' : List Reply) → Alike m n
    → ((name bind : List ℕ) → r ≡ Asks (grammar.Grab name bind) → ⊥) → after.broken ≡ after'.broken
    → Answers F m r after replies → Answers F n r after' replies' → Ends m after after' replies replies'
answer_alike F m n after after' TooLong replies replies' alike other same h k = unchanged m n after after' replies replies' _ alike h k
answer_alike F m n after after' Blank replies replies' alike other same h k = unchanged m n after after' replies replies' _ alike h k
answer_alike F m n after after' Malformed replies replies' alike other same h k = unchanged m n after after' replies replies' _ alike h k
answer_alike F m n after after' TooDeep replies replies' alike other same h k = unchanged m n after after' replies replies' _ alike h k
answer_alike F m n after after' (Asks l) replies replies' alike other same h k =
    let none = grabs_none F (names_of m.present) l (λ name bind is. other name bind (ap (λ x. Asks x) is)) in
    let none' = grabs_none F (names_of n.present) l (λ name bind is. other name bind (ap (λ x. Asks x) is)) in
    let verdicts : verdict_of F m l ≡ verdict_of F n l =
    sym (verdict_forgotten F m l none) ∙ (ap (λ x. verdict_of F x l) alike.same ∙ verdict_forgotten F n l none') in
    let plain : ActsPlainly (verdict_of F n l) =
    verdict_plainly n (command_of F (names_of n.present) l) (check.first_that (steps.holds F n l) steps.order) none' in
    follow_alike F m n after after' (verdict_of F n l) replies replies' alike plain (λ is. broken_first F m l m.broken refl (verdicts ∙ is)) same
    (subst (λ v. Follows F m v after replies) verdicts h) k

-- ---- what is printed

names_alike : (s t : State) → forget s ≡ forget t → name_of s ≡ name_of t
names_alike s t same = extensional (name_of s) (name_of t) (λ n. sym (name_of_forgotten s n) ∙ (ap (λ x. name_of x n) same ∙ name_of_forgotten t n))

bytes_alike : (t u : Turn) → Alike t.after u.after → t.replies ≡ u.replies → bytes_of t ≡ bytes_of u
bytes_alike t u alike said =
    let presents : forget t.after.present ≡ forget u.after.present = ap (λ (x : Moment). x.present) alike.same in
    ap (λ names. flat_map (λ reply. printed_reply names reply ++ 10 ∷ []) t.replies) (names_alike t.after.present u.after.present presents)
    ∙ ap (λ replies. flat_map (printed u.after.present) replies) said

-- ---- runs

turns_alike : (F : Meanings) (m n : Moment) (t u : Turn) → Alike m n → t.before ≡ m → u.before ≡ n → t.line ≡ u.line
    → t.after.broken ≡ u.after.broken → GrabsNothing t → IsTurn F t → IsTurn F u → Ends m t.after u.after t.replies u.replies
turns_alike F m n t u alike begins begins' line same nothing h k =
    let asks : IsRequest u.line t.request = rw line at h.asks in
    let request = one_request u.line t.request u.request asks k.asks in
    let answers : Answers F m t.request t.after t.replies = rw begins at h.answers in
    let answers' : Answers F n t.request u.after u.replies = subst (λ r. Answers F n r u.after u.replies) (sym request) (rw begins' at k.answers) in
    answer_alike F m n t.after u.after t.request t.replies u.replies alike nothing same answers answers'

-- they print alike, and end alike
chains_alike : (F : Meanings) (m n : Moment) (ts us : List Turn) (end end' : Moment) → Alike m n → broken_after ts ≡ broken_after us
    → Every GrabsNothing ts → Chain F m ts end → Chain F n us end' → lines_read ts ≡ lines_read us
    → PrintAlike ts us × (forget_moment end ≡ forget_moment end')
chains_alike F m n [] [] end end' alike same nothing h k lines = (tt, rw (← h, ← k) alike.same)
chains_alike F m n [] (u ∷ us) end end' alike same nothing h k lines = absurd (cc)
chains_alike F m n (t ∷ ts) [] end end' alike same nothing h k lines = absurd (cc)
chains_alike F m n (t ∷ ts) (u ∷ us) end end' alike same nothing h k lines =
    let line : t.line ≡ u.line = cc in
    let later : lines_read ts ≡ lines_read us = cc in
    let broken : t.after.broken ≡ u.after.broken = cc in
    let later_broken : broken_after ts ≡ broken_after us = cc in
    let ends = turns_alike F m n t u alike h.0 k.0 line broken nothing.0 h.1 k.1 in
    let rest = chains_alike F t.after u.after ts us end end' ends.alike later_broken nothing.1 h.2 k.2 later in
    ((λ stays. bytes_alike t u ends.alike (ends.said (stays ∙ ap (λ (x : Moment). x.broken) h.0)), rest.0), rest.1)

start_alike : Alike first_moment first_moment
start_alike = record { same = refl; none = tt; none' = tt }

runs_alike : (F : Meanings) (lines : List (List ℕ)) (ts us : List Turn) (h : IsRun F lines ts) (k : IsRun F lines us) → broken_after ts ≡ broken_after us
    → Every GrabsNothing ts → PrintAlike ts us × (forget_moment h.end ≡ forget_moment k.end)
runs_alike F lines ts us h k same nothing =
    chains_alike F first_moment first_moment ts us h.end k.end start_alike same nothing h.chain k.chain (h.reads ∙ sym k.reads)

pub one_transcript_past_refusals : OneTranscriptPastRefusals
one_transcript_past_refusals F lines ts us h k same nothing = (runs_alike F lines ts us h k same nothing).0

pub one_end : OneEnd
one_end F lines ts us h k same nothing = (runs_alike F lines ts us h k same nothing).1

-- ---- no stabilize is refused

both_unbroken : (ts us : List Turn) → Every IsUnbroken ts → Every IsUnbroken us → lines_read ts ≡ lines_read us → broken_after ts ≡ broken_after us
both_unbroken [] [] whole whole' lines = refl
both_unbroken [] (u ∷ us) whole whole' lines = absurd (cc)
both_unbroken (t ∷ ts) [] whole whole' lines = absurd (cc)
both_unbroken (t ∷ ts) (u ∷ us) whole whole' lines =
    let later : lines_read ts ≡ lines_read us = cc in rw (whole.0, whole'.0, both_unbroken ts us whole.1 whole'.1 later) refl

pub all_printed : (F : Meanings) (m end : Moment) (ts us : List Turn) → m.broken ≡ None → Every IsUnbroken ts → Chain F m ts end → PrintAlike ts us
    → transcript ts ≡ transcript us
all_printed F m end [] [] unbroken whole h alike = refl
all_printed F m end [] (u ∷ us) unbroken whole h alike = absurd alike
all_printed F m end (t ∷ ts) [] unbroken whole h alike = absurd alike
all_printed F m end (t ∷ ts) (u ∷ us) unbroken whole h alike =
    let before : t.before.broken ≡ None = ap (λ (x : Moment). x.broken) h.0 ∙ unbroken in
    rw (alike.0 (whole.0 ∙ sym before), all_printed F t.after end ts us whole.0 whole.1 h.2 alike.1) refl

pub one_transcript : OneTranscript
one_transcript F lines ts us h k whole whole' nothing =
    all_printed F first_moment h.end ts us refl whole h.chain
    (one_transcript_past_refusals F lines ts us h k (both_unbroken ts us whole whole' (h.reads ∙ sym k.reads)) nothing)

chain_begins : (F : Meanings) (m end : Moment) (n : ℕ) (ts : List Turn) → Chain F m ts end → (mid : Moment) × Chain F m (take n ts) mid
chain_begins F m end zero ts h = (m, refl)
chain_begins F m end (suc n) [] h = (m, refl)
chain_begins F m end (suc n) (t ∷ ts) h = let rest = chain_begins F t.after end n ts h.2 in (rest.0, (h.0, h.1, rest.1))

-- the first turns of a run are one over the first lines
run_begins : (F : Meanings) (lines : List (List ℕ)) (n : ℕ) (ts : List Turn) → IsRun F lines ts → IsRun F (take n lines) (take n ts)
run_begins F lines n ts h =
    let begins = chain_begins F first_moment h.end n ts h.chain in
    record { end = begins.0; chain = begins.1; reads = sym (take-map (λ (t : Turn). t.line) n ts) ∙ ap (take n) h.reads }

pub one_beginning : OneBeginning
one_beginning F lines ts us n h k whole whole' nothing =
    one_transcript F (take n lines) (take n ts) (take n us) (run_begins F lines n ts h) (run_begins F lines n us k) whole whole' nothing
