-- What a line, or a part of one, does, from what the calls do that it makes.
use Rattle.std.proofs.Common.{◌≡◌, ℕ, ◌≤◌, ◌<◌, ◌^◌, Bool, List, [], ◌∷◌, ◌++◌, None, Some, Result, Ok, Err, refl, sym, ◌∙◌, ap, subst, append-nil, arith, IsTrue}
use Rattle.std.specs.Result.{IfOk, OnErr, OnOk}
use Rattle.inc_value.specs.declared.function.FnRef.{FnRef}
use Rattle.script_graph.specs.Kept.{Kept, Script}
use Rattle.script_graph.specs.Stabilizing.{CyclePasses, IsCycleMet, closed}
use Rattle.script_graph.specs.State.{MatchesMoment, Stands}
use Rattle.script_model.specs.Check.{Command}
use Rattle.script_model.specs.Check as check
use Rattle.script_model.specs.Formula.{Meanings}
use Rattle.script_model.specs.Grammar as grammar
use Rattle.script_model.specs.Request.{Asks, Blank, IsRequest, Request}
use Rattle.script_model.specs.Run as run
use Rattle.script_model.specs.Step as model
use Rattle.script_model.specs.Step.{Answers, Follows, Moment, Reply, Refused, number_of, printed}
use Rattle.session.specs.Answered.{Extends, IsAnswered, verdict_on}
use Rattle.session.specs.Carried.{CarriesOut, IsBeside, Performs, Refuses, EndsStabilize, TakesBytes, Treats}
use Rattle.session.specs.Replies.{IsAcceptedWritten, cycle_line, refused_line, too_deep_line, name_in}
use Rattle.session.specs.Taken.{AsksStabilize, KeepsUnlessAccepted, Stops}
use Rattle.session.specs.declared.answer.Did.{Did}
use Rattle.session.specs.declared.answer.Did.TheVariants as did
use Rattle.session.specs.declared.script.stabilizing.Stabilized.{Stabilized}
use Rattle.session.specs.declared.script.stabilizing.Stabilized.TheVariants.{Accepted, Circular, TooDeep}
use Rattle.session.proofs.Answering.{refused_with}
use Rattle.session.proofs.Failing.{on_ok_from}
use Rattle.session.proofs.Following.{followed_stabilize, nothing_more, refused_circular, refused_too_deep, stops_accepted, stops_cut_short, stops_standing, stops_too_deep}

-- a script is beside itself
pub beside_itself : {L : Type 0} (s : Script L) → IsBeside 0 0 s s
beside_itself s = record {
  library = refl;
  builds = refl;
  accepted = refl;
  broken = refl;
  given = omega arith;
  bodies = omega arith;
  watching = omega arith;
}

-- it is as it was where what is kept of it is
pub same_script : {L : Type 0} (old new : Script L) → IsBeside 0 0 old new → new.kept ≡ old.kept → new ≡ old
same_script old new beside kept =
    let library : new ≡ record new { library = old.library } = ap (λ l. record new { library = l }) beside.library in
    let builds : record new { library = old.library } ≡ record new { library = old.library; builds = old.builds } =
    ap (λ (n : ℕ). record new { library = old.library; builds = n }) beside.builds in
    library ∙ (builds ∙ ap (λ (k : Kept). record old { kept = k }) kept)

-- where a stabilize was refused for a cycle the graph has met one
pub met_circular : {L E : Type 0} (meanings : L → Meanings) (known : L → FnRef → Bool) (calls : L → ℕ) (old there : Script L) (how : Result Stabilized E)
    → how ≡ Ok Circular → EndsStabilize meanings known calls old there how → IsCycleMet there.kept.graph.refused
met_circular meanings known calls old there how is done = let s = subst (EndsStabilize meanings known calls old there) is done in (s.circular refl).0

module _ {L E : Type 0} (meanings : L → Meanings) (known : L → FnRef → Bool) (calls : L → ℕ) where
  -- ---- in any form

  module _ (Leads : Meanings → Moment → Moment → List Reply → Type 0) (IsOfForm : List ℕ → Type 0) (AsksIt : Type 0)
      (ids observers : ℕ) (few : ids ≤ 2 ^ 20) (one : observers ≤ 1) (old new : Script L) (written appended : List ℕ) where
    abbrev Carries : Result Did E → Type 0
    Carries result = CarriesOut meanings known calls Leads IsOfForm AsksIt old new written appended result

    -- what no stabilize does
    by_beside : IsBeside ids observers old new → ((old.kept.broken ≡ None → ⊥) → new ≡ old) → (result : Result Did E)
        → IfOk result (λ how. (m : Moment) → Stands (meanings old.library) old.kept m
        → IsAnswered (meanings old.library) m (Leads (meanings old.library) m) new.kept written appended (calls old.library) (calls old.library) how)
        → OnErr result ((m : Moment) → MatchesMoment (meanings old.library) old.kept m → MatchesMoment (meanings old.library) new.kept m)
        → OnErr result (Extends written appended) → IfOk result (λ how. KeepsUnlessAccepted how old.kept new.kept) → Carries result
    by_beside beside broken (Ok how) answered matches extended kept =
        let same : calls new.library ≡ calls old.library = ap calls beside.library in
        let accepted = beside.accepted in
        let given = beside.given in
        let watching = beside.watching in
        let built = beside.builds in
        record {
          answered = λ m st. subst (λ n. IsAnswered (meanings old.library) m (Leads (meanings old.library) m) new.kept written appended
              (calls old.library) n how) (sym same) (answered m st);
          stopped = tt;
          extended = tt;
          accepted = omega (arith, accepted);
          given = omega (arith, given, few);
          bodies = beside.bodies;
          observers = omega (arith, watching, one);
          known_still = λ f h. subst (λ l. IsTrue (known l f)) (sym beside.library) h;
          calls_grow = omega (arith, same);
          builds_grow = omega (arith, built);
          library = λ other. beside.library;
          builds = λ other. beside.builds;
          kept = kept;
          tells = λ is more. absurd (omega (arith, accepted, more));
          broken = broken;
          functions = ap meanings beside.library;
        }
    by_beside beside broken (Err e) answered matches extended kept =
        let same : calls new.library ≡ calls old.library = ap calls beside.library in
        let accepted = beside.accepted in
        let given = beside.given in
        let watching = beside.watching in
        let built = beside.builds in
        record {
          answered = tt;
          stopped = λ m line st is. subst (λ n. Stops (meanings old.library) m line new.kept (calls old.library) n) (sym same)
              (stops_standing (meanings old.library) new.kept m line (calls old.library)
              (record { keep = st.keep; valid = st.valid; matches = matches m st.matches }));
          extended = extended;
          accepted = omega (arith, accepted);
          given = omega (arith, given, few);
          bodies = beside.bodies;
          observers = omega (arith, watching, one);
          known_still = λ f h. subst (λ l. IsTrue (known l f)) (sym beside.library) h;
          calls_grow = omega (arith, same);
          builds_grow = omega (arith, built);
          library = λ other. beside.library;
          builds = λ other. beside.builds;
          kept = tt;
          tells = tt;
          broken = broken;
          functions = ap meanings beside.library;
        }

    -- a command that was accepted
    pub carried_done : IsBeside ids observers old new → old.kept.broken ≡ None → ((m : Moment) → Stands (meanings old.library) old.kept m
        → IsAnswered (meanings old.library) m (Leads (meanings old.library) m) new.kept written appended (calls old.library) (calls old.library) did.Accepted)
        → Carries (Ok did.Accepted)
    carried_done beside unbroken answered = by_beside beside (λ broken. absurd (broken unbroken)) (Ok did.Accepted) answered tt tt tt

    -- a command for which no memory was found
    pub carried_unmade : (e : E) → IsBeside ids observers old new → old.kept.broken ≡ None
        → ((m : Moment) → MatchesMoment (meanings old.library) old.kept m → MatchesMoment (meanings old.library) new.kept m) → Extends written appended
        → Carries (Err e)
    carried_unmade e beside unbroken matches extended = by_beside beside (λ broken. absurd (broken unbroken)) (Err e) tt matches extended tt

  -- ---- where nothing changed

  module _ (Leads : Meanings → Moment → Moment → List Reply → Type 0) (IsOfForm : List ℕ → Type 0) (AsksIt : Type 0)
      (s : Script L) (written appended : List ℕ) where
    -- no memory was found
    pub carried_nothing : (e : E) → appended ≡ written → CarriesOut meanings known calls Leads IsOfForm AsksIt s s written appended (Err e)
    carried_nothing e same = by_beside Leads IsOfForm AsksIt 0 0 (omega arith) (omega arith) s s written appended (beside_itself s) (λ broken. refl) (Err e) tt (λ m st. st)
        (nothing_more written appended same) tt

    -- a line was refused, or no memory was found for its reply
    pub carried_refused : (number : ℕ) (reply : List ℕ) (result : Result Did E) → Refuses number reply written appended result
        → ((m : Moment) → Stands (meanings s.library) s.kept m → appended ≡ written ++ reply
        → IsAnswered (meanings s.library) m (Leads (meanings s.library) m) s.kept written appended (calls s.library) (calls s.library) (did.Refused number))
        → CarriesOut meanings known calls Leads IsOfForm AsksIt s s written appended result
    carried_refused number reply (Ok how) refuses answered =
        by_beside Leads IsOfForm AsksIt 0 0 (omega arith) (omega arith) s s written appended (beside_itself s) (λ broken. refl) (Ok how)
        (λ m st. subst (λ (h : Did). IsAnswered (meanings s.library) m (Leads (meanings s.library) m) s.kept written appended (calls s.library)
        (calls s.library) h) (sym refuses.how) (answered m st refuses.ok))
        tt tt (subst (λ (h : Did). KeepsUnlessAccepted h s.kept s.kept) (sym refuses.how) (λ cycle height. refl))
    carried_refused number reply (Err e) refuses answered = carried_nothing e refuses.unwritten

  -- without memory, where what was appended is taken back
  pub carried_back : (Leads : Meanings → Moment → Moment → List Reply → Type 0) (IsOfForm : List ℕ → Type 0) (AsksIt : Type 0)
      (old new : Script L) (written appended back : List ℕ) (e : E)
      → CarriesOut meanings known calls Leads IsOfForm AsksIt old new written appended (Err e) → back ≡ written
      → CarriesOut meanings known calls Leads IsOfForm AsksIt old new written back (Err e)
  carried_back Leads IsOfForm AsksIt old new written appended back e c same = record {
    answered = tt;
    stopped = c.stopped;
    extended = nothing_more written back same;
    accepted = c.accepted;
    given = c.given;
    bodies = c.bodies;
    observers = c.observers;
    known_still = c.known_still;
    calls_grow = c.calls_grow;
    builds_grow = c.builds_grow;
    library = c.library;
    builds = c.builds;
    kept = tt;
    tells = tt;
    broken = c.broken;
    functions = c.functions;
  }

  -- ---- from one form to another

  pub carried_on : (Leads Leads' : Meanings → Moment → Moment → List Reply → Type 0) (IsOfForm IsOfForm' : List ℕ → Type 0) (AsksIt AsksIt' : Type 0)
      (old new : Script L) (written appended : List ℕ) (result : Result Did E)
      → CarriesOut meanings known calls Leads IsOfForm AsksIt old new written appended result
      → ((m after : Moment) (replies : List Reply) → Stands (meanings old.library) old.kept m → Leads (meanings old.library) m after replies
      → Leads' (meanings old.library) m after replies)
      → ((line : List ℕ) → IsOfForm' line → IsOfForm line) → (AsksIt → AsksIt')
      → CarriesOut meanings known calls Leads' IsOfForm' AsksIt' old new written appended result
  carried_on Leads Leads' IsOfForm IsOfForm' AsksIt AsksIt' old new written appended (Ok how) c leads form asks = record {
    answered = λ m st. let a = c.answered m st in record {
      after = a.after;
      replies = a.replies;
      leads = leads m a.after a.replies st a.leads;
      work = a.work;
      due = a.due;
      matches = a.matches;
      printed_are = a.printed_are;
      within = a.within;
      says = a.says;
    };
    stopped = tt;
    extended = tt;
    accepted = c.accepted;
    given = c.given;
    bodies = c.bodies;
    observers = c.observers;
    known_still = c.known_still;
    calls_grow = c.calls_grow;
    builds_grow = c.builds_grow;
    library = λ other. c.library (λ is. other (asks is));
    builds = λ other. c.builds (λ is. other (asks is));
    kept = c.kept;
    tells = c.tells;
    broken = c.broken;
    functions = c.functions;
  }
  carried_on Leads Leads' IsOfForm IsOfForm' AsksIt AsksIt' old new written appended (Err e) c leads form asks = record {
    answered = tt;
    stopped = λ m line st is. c.stopped m line st (form line is);
    extended = c.extended;
    accepted = c.accepted;
    given = c.given;
    bodies = c.bodies;
    observers = c.observers;
    known_still = c.known_still;
    calls_grow = c.calls_grow;
    builds_grow = c.builds_grow;
    library = λ other. c.library (λ is. other (asks is));
    builds = λ other. c.builds (λ is. other (asks is));
    kept = tt;
    tells = tt;
    broken = c.broken;
    functions = c.functions;
  }

  -- a command that is another's is performed as that one
  pub performed_as : (command other : Command) → command ≡ other → (old new : Script L) (written appended : List ℕ) (result : Result Did E)
      → Performs meanings known calls command old new written appended result → Performs meanings known calls other old new written appended result
  performed_as command other is old new written appended result performs =
      subst (λ (x : Command). Performs meanings known calls x old new written appended result) is performs

  -- ---- a stabilize

  -- what a stabilize does to a script, whatever is written of it
  carried_stabilize : (old new : Script L) (written appended : List ℕ) {E' : Type 0} (how : Result Stabilized E') → EndsStabilize meanings known calls old new how
      → old.kept.broken ≡ None → (result : Result Did E)
      → IfOk result (λ h. (m : Moment) → Stands (meanings old.library) old.kept m
      → IsAnswered (meanings old.library) m (Follows (meanings old.library) m (verdict_on m check.Stabilize)) new.kept written appended (calls old.library) (calls new.library) h)
      → OnErr result ((m : Moment) (line : List ℕ) → Stands (meanings old.library) old.kept m → AsksStabilize line
      → Stops (meanings old.library) m line new.kept (calls old.library) (calls new.library))
      → OnErr result (Extends written appended) → IfOk result (λ h. KeepsUnlessAccepted h old.kept new.kept)
      → IfOk result (λ h. h ≡ did.Accepted → old.kept.accepted < new.kept.accepted → IsAcceptedWritten new.kept written appended)
      → Performs meanings known calls check.Stabilize old new written appended result
  carried_stabilize old new written appended how s unbroken (Ok h) answered stopped extended kept tells =
      let observers = s.observers in
      let given = s.given in
      let bodies = s.bodies in
      record {
        answered = answered;
        stopped = tt;
        extended = tt;
        accepted = s.count;
        given = omega (arith, given);
        bodies = omega (arith, bodies);
        observers = omega (arith, observers);
        known_still = s.known_still;
        calls_grow = s.calls_grow;
        builds_grow = s.builds_grow;
        library = λ other. absurd (other refl);
        builds = λ other. absurd (other refl);
        kept = kept;
        tells = tells;
        broken = λ broken. absurd (broken unbroken);
        functions = s.functions;
      }
  carried_stabilize old new written appended how s unbroken (Err e) answered stopped extended kept tells =
      let observers = s.observers in
      let given = s.given in
      let bodies = s.bodies in
      record {
        answered = tt;
        stopped = λ m line st is. stopped m line st (is refl);
        extended = extended;
        accepted = s.count;
        given = omega (arith, given);
        bodies = omega (arith, bodies);
        observers = omega (arith, observers);
        known_still = s.known_still;
        calls_grow = s.calls_grow;
        builds_grow = s.builds_grow;
        library = λ other. absurd (other refl);
        builds = λ other. absurd (other refl);
        kept = tt;
        tells = tt;
        broken = λ broken. absurd (broken unbroken);
        functions = s.functions;
      }

  -- ---- bytes

  -- bytes that are refused before their command is looked at
  pub taken_refused : (s : Script L) (bytes written appended : List ℕ) (r : Request) (why : model.Refusal) → IsRequest bytes r
      → ((m : Moment) → Answers (meanings s.library) m r m (Refused why ∷ []))
      → ((m : Moment) → run.MayCall (meanings s.library) m (Refused why ∷ []) 0)
      → ((m : Moment) → refused_line (number_of why) ≡ printed m.present (Refused why))
      → (result : Result Did E) → Refuses (number_of why) (refused_line (number_of why)) written appended result
      → TakesBytes meanings known calls bytes s s written appended result
  taken_refused s bytes written appended r why asks answers due prints result refuses =
      carried_refused (λ F m after replies. (q : Request) × IsRequest bytes q × Answers F m q after replies) (λ line. line ≡ bytes) (AsksStabilize bytes)
      s written appended (number_of why) (refused_line (number_of why)) result refuses
      (λ m st print. refused_with (meanings s.library) s.kept m
      (λ after replies. (q : Request) × IsRequest bytes q × Answers (meanings s.library) m q after replies) why
      written appended (calls s.library) st (r, asks, answers m) (due m) (print ∙ ap (λ l. written ++ l) (prints m)))

  -- bytes that ask for nothing
  pub taken_blank : (s : Script L) (bytes written : List ℕ) → IsRequest bytes Blank → TakesBytes {E = E} meanings known calls bytes s s written written (Ok did.Blank)
  taken_blank s bytes written asks =
      by_beside (λ F m after replies. (q : Request) × IsRequest bytes q × Answers F m q after replies) (λ line. line ≡ bytes) (AsksStabilize bytes)
      0 0 (omega arith) (omega arith) s s written written (beside_itself s) (λ broken. refl) (Ok did.Blank)
      (λ m st. record {
        after = m;
        replies = [];
        leads = (Blank, asks, (refl, refl));
        work = 0;
        due = refl;
        matches = st.matches;
        printed_are = sym (append-nil written);
        within = omega arith;
        says = refl;
      })
      tt tt refl

  -- bytes that ask for a line are taken as the line is treated
  pub taken_line : (old new : Script L) (bytes written appended : List ℕ) (line : grammar.Line) → IsRequest bytes (Asks line) → (result : Result Did E)
      → Treats meanings known calls line old new written appended result → TakesBytes meanings known calls bytes old new written appended result
  taken_line old new bytes written appended line asks result treats =
      carried_on (λ F m. Answers F m (Asks line)) (λ F m after replies. (q : Request) × IsRequest bytes q × Answers F m q after replies)
      (λ other. IsRequest other (Asks line)) (λ other. other ≡ bytes) (line ≡ grammar.Stabilize) (AsksStabilize bytes) old new written appended result treats
      (λ m after replies st leads. (Asks line, asks, leads))
      (λ other same. subst (λ (bs : List ℕ). IsRequest bs (Asks line)) (sym same) asks)
      (λ is. subst (λ (l : grammar.Line). IsRequest bytes (Asks l)) is asks)

  -- ---- how a stabilize is answered

  module _ {E' : Type 0} (old there : Script L) (written appended : List ℕ) (unbroken : old.kept.broken ≡ None) (how : Result Stabilized E')
      (done : EndsStabilize meanings known calls old there how) where
    -- it was accepted, and its line was appended, and those of what it told
    pub performed_accepted : how ≡ Ok Accepted → IsAcceptedWritten there.kept written appended
        → Performs {E = E} meanings known calls check.Stabilize old there written appended (Ok did.Accepted)
    performed_accepted is print =
        let s = subst (EndsStabilize meanings known calls old there) is done in
        carried_stabilize old there written appended how done unbroken (Ok did.Accepted)
        (λ m st. followed_stabilize (meanings old.library) there.kept m (calls old.library) (calls there.library) (s.accepted refl m st)
        s.one_observer_each written appended print.0 print.1 print.2)
        tt tt tt (λ is more. print)

    -- there was no memory for its lines
    pub performed_unwritten : (e : E) → how ≡ Ok Accepted → Extends written appended
        → Performs {E = E} meanings known calls check.Stabilize old there written appended (Err e)
    performed_unwritten e is extended =
        let s = subst (EndsStabilize meanings known calls old there) is done in
        carried_stabilize old there written appended how done unbroken (Err e) tt
        (λ m line st asks. stops_accepted (meanings old.library) there.kept m (calls old.library) (calls there.library) (s.accepted refl m st) line
        st.keep st.valid asks (st.matches.broken ∙ unbroken))
        extended tt tt

    -- it was cut short
    pub performed_cut_short : (e : E) (e' : E') → how ≡ Err e' → appended ≡ written
        → Performs {E = E} meanings known calls check.Stabilize old there written appended (Err e)
    performed_cut_short e e' is same =
        let s = subst (EndsStabilize meanings known calls old there) is done in
        carried_stabilize old there written appended how done unbroken (Err e) tt
        (λ m line st asks. stops_cut_short (meanings old.library) there.kept m line (calls old.library) (calls there.library) (s.cut_short m st)
        st.keep st.valid asks (st.matches.broken ∙ unbroken))
        (nothing_more written appended same) tt tt

    -- it was refused for what it met, or there was no memory to say so, and the session is broken for want of it
    refused_so : (number : ℕ) → ((n : ℕ) → n ≡ number → (n ≡ 20 → ⊥) → (n ≡ 21 → ⊥) → ⊥) → (new : Script L) (result : Result Did E)
        → IfOk result (λ h. h ≡ did.Refused number)
        → OnOk result ((m : Moment) → Stands (meanings old.library) old.kept m
        → IsAnswered (meanings old.library) m (Follows (meanings old.library) m (verdict_on m check.Stabilize)) there.kept written appended (calls old.library)
        (calls there.library) (did.Refused number))
        → ((m : Moment) (line : List ℕ) → Stands (meanings old.library) old.kept m → AsksStabilize line
        → Stops (meanings old.library) m line (record there.kept { broken = Some 0 }) (calls old.library) (calls there.library))
        → OnErr result (Extends written appended) → OnOk result (new ≡ there)
        → OnErr result (new ≡ record there { kept = record there.kept { broken = Some 0 } })
        → Performs {E = E} meanings known calls check.Stabilize old new written appended result
    refused_so number breaks new (Ok h) is answered stops extended same broken =
        subst (λ (x : Script L). Performs {E = E} meanings known calls check.Stabilize old x written appended (Ok h)) (sym same)
        (subst (λ (d : Did). Performs {E = E} meanings known calls check.Stabilize old there written appended (Ok d)) (sym is)
        (carried_stabilize old there written appended how done unbroken (Ok (did.Refused number)) answered tt tt
        (λ cycle height. absurd (breaks number refl cycle height)) (λ is more. absurd (cc))))
    refused_so number breaks new (Err e) is answered stops extended same broken =
        let observers = done.observers in
        let given = done.given in
        let bodies = done.bodies in
        subst (λ (x : Script L). Performs {E = E} meanings known calls check.Stabilize old x written appended (Err e)) (sym broken) (record {
          answered = tt;
          stopped = λ m line st asks. stops m line st (asks refl);
          extended = extended;
          accepted = done.count;
          given = omega (arith, given);
          bodies = omega (arith, bodies);
          observers = omega (arith, observers);
          known_still = done.known_still;
          calls_grow = done.calls_grow;
          builds_grow = done.builds_grow;
          library = λ other. absurd (other refl);
          builds = λ other. absurd (other refl);
          kept = tt;
          tells = tt;
          broken = λ broken. absurd (broken unbroken);
          functions = done.functions;
        })

    -- it was refused for the depth of a declaration
    pub performed_too_deep : (target : ℕ) → how ≡ Ok (TooDeep target) → (new : Script L) (result : Result Did E)
        → IfOk result (λ h. h ≡ did.Refused 21) → OnOk result (appended ≡ written ++ too_deep_line (name_in there.kept.names target))
        → OnErr result (Extends written appended) → OnOk result (new ≡ there)
        → OnErr result (new ≡ record there { kept = record there.kept { broken = Some 0 } })
        → Performs {E = E} meanings known calls check.Stabilize old new written appended result
    performed_too_deep target is new result number print extended same broken =
        let s = subst (EndsStabilize meanings known calls old there) is done in
        refused_so 21 (λ n here cycle height. height here) new result number
        (on_ok_from result print (λ print m st. refused_too_deep (meanings old.library) there.kept m target (calls old.library) (calls there.library)
        (s.too_deep target refl m st) written appended print))
        (λ m line st asks. stops_too_deep (meanings old.library) there.kept m target (calls old.library) (calls there.library)
        (s.too_deep target refl m st) line st.keep st.valid asks (st.matches.broken ∙ unbroken))
        extended same broken

    -- it was refused for a cycle
    pub performed_circular : how ≡ Ok Circular → (new : Script L) (result : Result Did E)
        → IfOk result (λ h. h ≡ did.Refused 20)
        → OnOk result ((targets : List ℕ) × CyclePasses there.kept.graph there.kept.names.declared there.kept.nodes targets
        × (appended ≡ written ++ cycle_line (name_in there.kept.names) (closed targets)))
        → OnErr result (Extends written appended) → OnOk result (new ≡ there)
        → OnErr result (new ≡ record there { kept = record there.kept { broken = Some 0 } })
        → Performs {E = E} meanings known calls check.Stabilize old new written appended result
    performed_circular is new result number print extended same broken =
        let s = subst (EndsStabilize meanings known calls old there) is done in
        refused_so 20 (λ n here cycle height. cycle here) new result number
        (on_ok_from result print (λ told m st. refused_circular (meanings old.library) there.kept m (closed told.0) (calls old.library) (calls there.library)
        ((s.circular refl).1 m told.0 st told.1) written appended told.2))
        (λ m line st asks. stops_cut_short (meanings old.library) (record there.kept { broken = Some 0 }) m line (calls old.library) (calls there.library)
        (s.unwritten refl m st) st.keep st.valid asks (st.matches.broken ∙ unbroken))
        extended same broken
