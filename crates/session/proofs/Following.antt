-- What commands that are carried out or refused lead to.
use Rattle.std.proofs.Common.{◌≡◌, ℕ, ◌+◌, ◌<◌, ◌≤◌, true, false, List, [], ◌∷◌, ◌++◌, map, length, None, Some, IsTrue, IsFalse, refl, sym, ◌∙◌, ap, subst, append-nil, arith}
use Rattle.std.proofs.lemmas.Bool.{le-ltb, lt-ltb}
use Rattle.std.proofs.Math.Dec.{ltb}
use Rattle.std.specs.List.{flat_map}
use Rattle.std.specs.Prelude.{codes}
use Rattle.inc_value.specs.Outcome as engine
use Rattle.inc_value.specs.declared.outcome.Outcome as declared
use Rattle.inc_value.specs.declared.ty.Ty.{Ty}
use Rattle.script_model.specs.Check as check
use Rattle.script_model.specs.Check.{Command, Declare, Link, Show, Stabilize, Take, Unlink, NotBuilt, NotLinked, NotStabilized, TooManyLinks, TooManyPlaces}
use Rattle.script_model.specs.Formula.{Body, Meanings, State, built_at, places_of, places_of_body}
use Rattle.script_model.specs.Grammar as grammar
use Rattle.script_model.specs.Laws.{ValidMoment}
use Rattle.script_model.specs.Run as run
use Rattle.script_model.specs.Run.{Halts, most_calls}
use Rattle.script_model.specs.Step.{Moment, Reply, is_barred, is_built, name_of, moved, reply_to, Done, Stable, Shown, Tells, Refused, Height, Because, Cycle, Settle, Act, Refuse, printed, Follows, Stabilizes, settles, by_cycle, by_height, verdict_of}
use Rattle.script_model.specs.Valid.{KeepToTypes}
use Rattle.script_model.proofs.Validity.{halts_keep_validity}
use Rattle.script_graph.specs.Kept.{Kept, node_in}
use Rattle.script_graph.specs.Shown.{ShowsIt, ShowsNothing}
use Rattle.script_graph.specs.Stabilizing.{IsAccepted, IsCircular, IsTooDeep, IsCutShort}
use Rattle.script_graph.specs.State.{MatchesMoment, Stands}
use Rattle.script_graph.proofs.CuttingShort.{broken_matches}
use Rattle.session.specs.Answered.{Extends, IsAnswered, verdict_on}
use Rattle.session.proofs.Referred.{name_there, printed_same}
use Rattle.session.proofs.Telling.{notices_are}
use Rattle.session.specs.Replies.{AreNoticeLines, IsReferredName, line_of, cycle_line, done_line, named_of, referred_node, shown_line, refused_line, stable_line, too_deep_line, name_in}
use Rattle.session.specs.Taken.{AsksStabilize, Stops}
use Rattle.session.specs.declared.answer.Did.TheVariants as did

-- ---- replies

-- one reply's bytes
pub appended_one : (s : State) (written appended : List ℕ) (r : Reply) → appended ≡ written ++ printed s r
    → appended ≡ written ++ flat_map (printed s) (r ∷ [])
appended_one s written appended r h = h ∙ ap (λ l. written ++ l) (sym (append-nil (printed s r)))

pub nothing_more : (old new : List ℕ) → new ≡ old → Extends old new
nothing_more old new same = ([], same ∙ sym (append-nil old))

-- ---- want of memory

-- a line that changed nothing that counts
pub stops_standing : (F : Meanings) (new : Kept) (m : Moment) (line : List ℕ) (calls : ℕ) → Stands F new m → Stops F m line new calls calls
stops_standing F new m line calls st = record { after = m; due = 0; halts = run.unchanged refl refl; stands = st; within = omega arith }

-- a stabilize that breaks the session
stops_broken : (F : Meanings) (new : Kept) (m : Moment) (line : List ℕ) (called calls : ℕ) → KeepToTypes F → ValidMoment F m → AsksStabilize line
    → m.broken ≡ None → MatchesMoment F new (record m { broken = Some 0 }) → calls ≤ called + most_calls m.present → Stops F m line new called calls
stops_broken F new m line called calls keep valid asks unbroken matches bound = record {
  after = record m { broken = Some 0 };
  due = most_calls m.present;
  halts = run.broken asks unbroken refl (omega arith);
  stands = record { keep = keep; valid = valid; matches = matches };
  within = bound;
}

-- ---- commands that are accepted

-- a command against which nothing stands, and that is answered so
pub followed_done : (F : Meanings) (new : Kept) (m : Moment) (command : Command) (calls : ℕ) (written appended : List ℕ)
    → verdict_on m command ≡ Act command → reply_to m.present command ≡ Done → MatchesMoment F new (moved m command) → appended ≡ written ++ done_line
    → IsAnswered F m (Follows F m (verdict_on m command)) new written appended calls calls did.Accepted
followed_done F new m command calls written appended acts reply matches print = record {
  after = moved m command;
  replies = Done ∷ [];
  leads = subst (λ v. Follows F m v (moved m command) (Done ∷ [])) (sym acts) (refl, ap (λ r. r ∷ []) (sym reply));
  work = 0;
  due = refl;
  matches = matches;
  printed_are = appended_one (moved m command).present written appended Done print;
  within = omega arith;
  says = (Done, [], refl, refl);
}

-- a refusal that changes nothing
refused_because : (F : Meanings) (k : Kept) (m : Moment) (command : Command) (why : check.Reason) (calls : ℕ) (written appended : List ℕ)
    → verdict_on m command ≡ Refuse (Because why) → Stands F k m → appended ≡ written ++ printed m.present (Refused (Because why))
    → IsAnswered F m (Follows F m (verdict_on m command)) k written appended calls calls (did.Refused (check.reason_number why))
refused_because F k m command why calls written appended refuses st print = record {
  after = m;
  replies = Refused (Because why) ∷ [];
  leads = subst (λ v. Follows F m v m (Refused (Because why) ∷ [])) (sym refuses) (refl, refl);
  work = 0;
  due = refl;
  matches = st.matches;
  printed_are = appended_one m.present written appended (Refused (Because why)) print;
  within = omega arith;
  says = (Because why, refl, refl);
}

-- ---- declarations

module _ (F : Meanings) (k : Kept) (m : Moment) (st : Stands F k m) (unbroken : k.broken ≡ None) (name : List ℕ) (ty : Ty) (body : Body) where
  room_is : k.room + places_of m.present ≡ 1048575
  room_is = (st.matches.represents (st.matches.broken ∙ unbroken)).room

  pub followed_declare : (new : Kept) (calls : ℕ) (written appended : List ℕ) → places_of_body body ≤ k.room
      → MatchesMoment F new (moved m (Declare name ty body)) → appended ≡ written ++ done_line
      → IsAnswered F m (Follows F m (verdict_on m (Declare name ty body))) new written appended calls calls did.Accepted
  followed_declare new calls written appended enough now print =
      let few : ltb 1048575 (places_of m.present + places_of_body body) ≡ false =
      le-ltb 1048575 (places_of m.present + places_of_body body) (omega (arith, room_is, enough)) in
      followed_done F new m (Declare name ty body) calls written appended (rw few refl) refl now print

  pub refused_declare : (calls : ℕ) (written appended : List ℕ) → k.room < places_of_body body → appended ≡ written ++ refused_line 19
      → IsAnswered F m (Follows F m (verdict_on m (Declare name ty body))) k written appended calls calls (did.Refused 19)
  refused_declare calls written appended short print =
      let many : ltb 1048575 (places_of m.present + places_of_body body) ≡ true =
      lt-ltb 1048575 (places_of m.present + places_of_body body) (omega (arith, room_is, short)) in
      refused_because F k m (Declare name ty body) TooManyPlaces calls written appended (rw many refl) st print

-- ---- grabs

module _ (F : Meanings) (k : Kept) (m : Moment) (st : Stands F k m) (name : List ℕ) (ty : Ty) (bind : ℕ) where
  pub followed_grab : (new : Kept) (calls : ℕ) (written appended : List ℕ) → IsTrue (is_built (built_at m.present bind))
      → MatchesMoment F new (moved m (Take name ty bind)) → appended ≡ written ++ done_line
      → IsAnswered F m (Follows F m (verdict_on m (Take name ty bind))) new written appended calls calls did.Accepted
  followed_grab new calls written appended built now print =
      followed_done F new m (Take name ty bind) calls written appended (rw built refl) refl now print

  pub refused_grab : IsFalse (is_built (built_at m.present bind)) → (calls : ℕ) (written appended : List ℕ) → appended ≡ written ++ refused_line 9
      → IsAnswered F m (Follows F m (verdict_on m (Take name ty bind))) k written appended calls calls (did.Refused 9)
  refused_grab none calls written appended print =
      refused_because F k m (Take name ty bind) NotBuilt calls written appended (rw none refl) st print

-- ---- lists of experts

module _ (F : Meanings) (m : Moment) (expert target : ℕ) where
  pub followed_link : (new : Kept) (calls : ℕ) (written appended : List ℕ) → IsFalse (is_barred m.present (Link expert target) TooManyLinks)
      → MatchesMoment F new (moved m (Link expert target)) → appended ≡ written ++ done_line
      → IsAnswered F m (Follows F m (verdict_on m (Link expert target))) new written appended calls calls did.Accepted
  followed_link new calls written appended room now print =
      followed_done F new m (Link expert target) calls written appended (rw room refl) refl now print

  pub refused_link : (k : Kept) → Stands F k m → IsTrue (is_barred m.present (Link expert target) TooManyLinks) → (calls : ℕ) (written appended : List ℕ)
      → appended ≡ written ++ refused_line 24
      → IsAnswered F m (Follows F m (verdict_on m (Link expert target))) k written appended calls calls (did.Refused 24)
  refused_link k st full calls written appended print =
      refused_because F k m (Link expert target) TooManyLinks calls written appended (rw full refl) st print

  pub followed_unlink : (new : Kept) (calls : ℕ) (written appended : List ℕ) → IsFalse (is_barred m.present (Unlink expert target) NotLinked)
      → MatchesMoment F new (moved m (Unlink expert target)) → appended ≡ written ++ done_line
      → IsAnswered F m (Follows F m (verdict_on m (Unlink expert target))) new written appended calls calls did.Accepted
  followed_unlink new calls written appended there now print =
      followed_done F new m (Unlink expert target) calls written appended (rw there refl) refl now print

  pub refused_unlink : (k : Kept) → Stands F k m → IsTrue (is_barred m.present (Unlink expert target) NotLinked) → (calls : ℕ) (written appended : List ℕ)
      → appended ≡ written ++ refused_line 23
      → IsAnswered F m (Follows F m (verdict_on m (Unlink expert target))) k written appended calls calls (did.Refused 23)
  refused_unlink k st absent calls written appended print =
      refused_because F k m (Unlink expert target) NotLinked calls written appended (rw absent refl) st print

-- ---- showing

pub followed_show : (F : Meanings) (k : Kept) (m : Moment) (name referred : List ℕ) (o : declared.Outcome) (calls : ℕ) (written appended : List ℕ)
    → Stands F k m → k.broken ≡ None → ShowsIt (node_in k.nodes) m.present name o → IsReferredName k.names k.nodes (referred_node o) referred
    → appended ≡ written ++ shown_line name referred o
    → IsAnswered F m (Follows F m (verdict_on m (Show name))) k written appended calls calls did.Accepted
followed_show F k m name referred o calls written appended st unbroken h told print =
    let reply = Shown name h.outcome in
    let acts : verdict_on m (Show name) ≡ Act (Show name) = rw h.is_shown refl in
    let same : shown_line name referred o ≡ printed m.present reply =
    ap (λ l. line_of (name ++ codes " = " ++ l)) (ap (engine.printed_outcome referred) (sym h.same)
    ∙ sym (printed_same F k m st.matches (st.matches.broken ∙ unbroken) referred h.outcome h.refers
    (subst (λ (x : declared.Outcome). IsReferredName k.names k.nodes (referred_node x) referred) (sym h.same) told))) in
    record {
      after = m;
      replies = reply ∷ [];
      leads = subst (λ v. Follows F m v m (reply ∷ [])) (sym acts) (refl, rw h.is_shown refl);
      work = 0;
      due = refl;
      matches = st.matches;
      printed_are = appended_one m.present written appended reply (print ∙ ap (λ l. written ++ l) same);
      within = omega arith;
      says = (reply, [], refl, refl);
    }

pub refused_show : (F : Meanings) (k : Kept) (m : Moment) (name : List ℕ) (calls : ℕ) (written appended : List ℕ) → Stands F k m
    → ShowsNothing m.present name → appended ≡ written ++ refused_line 13
    → IsAnswered F m (Follows F m (verdict_on m (Show name))) k written appended calls calls (did.Refused 13)
refused_show F k m name calls written appended st none print =
    refused_because F k m (Show name) NotStabilized calls written appended (rw none refl) st print

-- ---- stabilizing

-- a session that isn't broken settles
asks_to_settle : (F : Meanings) (m : Moment) → m.broken ≡ None → verdict_of F m grammar.Stabilize ≡ Settle
asks_to_settle F m unbroken = rw unbroken refl

-- an accepted one raises the count
count_of : (F : Meanings) (m after : Moment) (round : ℕ) (replies : List Reply) → Stabilizes F m after (Stable round ∷ replies)
    → after.present.accepted ≡ m.present.accepted + 1
count_of F m after round replies (settles notices free settled same unbroken is) = settled.accepted
count_of F m after round replies (by_cycle targets n cycle among met is replied) = absurd (cc)
count_of F m after round replies (by_height target i met deep printed is replied) = absurd (cc)

-- and leaves a moment that isn't broken
whole_of : (F : Meanings) (m after : Moment) (round : ℕ) (replies : List Reply) → Stabilizes F m after (Stable round ∷ replies) → after.broken ≡ None
whole_of F m after round replies (settles notices free settled same unbroken is) = unbroken
whole_of F m after round replies (by_cycle targets n cycle among met is replied) = absurd (cc)
whole_of F m after round replies (by_height target i met deep printed is replied) = absurd (cc)

module _ (F : Meanings) (new : Kept) (m : Moment) (called calls : ℕ) (h : IsAccepted F m new called calls) where
  abbrev reply : Reply
  reply = Stable (m.present.accepted + 1)

  abbrev replies : List Reply
  replies = reply ∷ map (λ n. Tells n) h.notices

  count_is : new.accepted ≡ m.present.accepted + 1
  count_is = sym h.matches.accepted ∙ count_of F m h.after (m.present.accepted + 1) (map (λ n. Tells n) h.notices) h.stabilizes

  -- the moment after it isn't broken
  unbroken_then : h.after.broken ≡ None
  unbroken_then = whole_of F m h.after (m.present.accepted + 1) (map (λ n. Tells n) h.notices) h.stabilizes

  pub followed_stabilize : length new.observers ≡ length new.names.observers → (written appended bytes : List ℕ)
      → AreNoticeLines new new.graph.notices bytes → appended ≡ written ++ (stable_line new.accepted ++ bytes)
      → IsAnswered F m (Follows F m (verdict_on m Stabilize)) new written appended called calls did.Accepted
  followed_stabilize each written appended bytes lines print = record {
    after = h.after;
    replies = replies;
    leads = h.stabilizes;
    work = h.work;
    due = h.due;
    matches = h.matches;
    printed_are = print ∙ (ap (λ n. written ++ (stable_line n ++ bytes)) count_is
        ∙ ap (λ (l : List ℕ). written ++ (stable_line (m.present.accepted + 1) ++ l))
        (notices_are F new h.after h.matches unbroken_then each h.notices bytes h.told lines));
    within = h.within;
    says = (reply, map (λ n. Tells n) h.notices, refl, refl);
  }

  -- where its line finds no memory
  pub stops_accepted : (line : List ℕ) → KeepToTypes F → ValidMoment F m → AsksStabilize line → m.broken ≡ None → Stops F m line new called calls
  stops_accepted line keep valid asks unbroken =
      let halts : Halts F m line h.after h.work = run.accepted (m.present.accepted + 1) (map (λ n. Tells n) h.notices) asks
      (subst (λ v. Follows F m v h.after replies) (sym (asks_to_settle F m unbroken)) h.stabilizes) h.due in
      record {
        after = h.after;
        due = h.work;
        halts = halts;
        stands = record { keep = keep; valid = halts_keep_validity F m h.after line h.work keep valid halts; matches = h.matches };
        within = h.within;
      }

-- a refusal for depth changes the number alone
broken_by_height : (F : Meanings) (m after : Moment) (target : ℕ) → Stabilizes F m after (Refused (Height target) ∷ [])
    → after ≡ record m { broken = Some 21 }
broken_by_height F m after target (settles notices free settled same unbroken is) = absurd (cc)
broken_by_height F m after target (by_cycle targets n cycle among met is replied) = absurd (cc)
broken_by_height F m after target (by_height other i met deep printed is replied) = is

module _ (F : Meanings) (new : Kept) (m : Moment) (target called calls : ℕ) (h : IsTooDeep F m new target called calls) where
  abbrev height : Reply
  height = Refused (Height target)

  pub refused_too_deep : (written appended : List ℕ) → appended ≡ written ++ too_deep_line (name_in new.names target)
      → IsAnswered F m (Follows F m (verdict_on m Stabilize)) new written appended called calls (did.Refused 21)
  refused_too_deep written appended print =
      let same : name_in new.names target ≡ name_of h.after.present target = name_there new.names h.after.present target h.matches.names in
      record {
        after = h.after;
        replies = height ∷ [];
        leads = h.stabilizes;
        work = most_calls m.present;
        due = omega arith;
        matches = h.matches;
        printed_are = appended_one h.after.present written appended height (print ∙ ap (λ n. written ++ too_deep_line n) same);
        within = h.within;
        says = (Height target, refl, refl);
      }

  -- where its line finds no memory, the session is broken for want of it
  pub stops_too_deep : (line : List ℕ) → KeepToTypes F → ValidMoment F m → AsksStabilize line → m.broken ≡ None
      → Stops F m line (record new { broken = Some 0 }) called calls
  stops_too_deep line keep valid asks unbroken =
      let is = broken_by_height F m h.after target h.stabilizes in
      let there : MatchesMoment F (record new { broken = Some 0 }) (record h.after { broken = Some 0 }) =
      broken_matches F h.after new new.graph 0 (record { observers = refl; rooted = refl }) h.matches in
      stops_broken F (record new { broken = Some 0 }) m line called calls keep valid asks unbroken
      (subst (λ (x : Moment). MatchesMoment F (record new { broken = Some 0 }) (record x { broken = Some 0 })) is there) h.within

-- names of declarations that are the same give the same line
cycle_names : (names names' : ℕ → List ℕ) → ((n : ℕ) → names n ≡ names' n) → (targets : List ℕ)
    → flat_map (named_of names) targets ≡ flat_map (named_of names') targets
cycle_names names names' same [] = refl
cycle_names names names' same (n ∷ targets) =
    ap (λ (l : List ℕ). (codes " " ++ l) ++ flat_map (named_of names) targets) (same n)
    ∙ ap (λ (l : List ℕ). named_of names' n ++ l) (cycle_names names names' same targets)

module _ (F : Meanings) (new : Kept) (m : Moment) (targets : List ℕ) (called calls : ℕ) (h : IsCircular F m new targets called calls) where
  abbrev cycle : Reply
  cycle = Refused (Cycle targets)

  pub refused_circular : (written appended : List ℕ) → appended ≡ written ++ cycle_line (name_in new.names) targets
      → IsAnswered F m (Follows F m (verdict_on m Stabilize)) new written appended called calls (did.Refused 20)
  refused_circular written appended print =
      let same = cycle_names (name_in new.names) (name_of h.after.present) (λ n. name_there new.names h.after.present n h.matches.names) targets in
      record {
        after = h.after;
        replies = cycle ∷ [];
        leads = h.stabilizes;
        work = most_calls m.present;
        due = omega arith;
        matches = h.matches;
        printed_are = appended_one h.after.present written appended cycle
            (print ∙ ap (λ (l : List ℕ). written ++ line_of (codes "refused 20 cycle" ++ l)) same);
        within = h.within;
        says = (Cycle targets, refl, refl);
      }

-- where the stabilize itself finds none
pub stops_cut_short : (F : Meanings) (new : Kept) (m : Moment) (line : List ℕ) (called calls : ℕ) → IsCutShort F m new called calls
    → KeepToTypes F → ValidMoment F m → AsksStabilize line → m.broken ≡ None → Stops F m line new called calls
stops_cut_short F new m line called calls h keep valid asks unbroken =
    stops_broken F new m line called calls keep valid asks unbroken h.matches h.within
