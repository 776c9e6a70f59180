-- Ids that are given in a round, and in its steps, are those of nodes that live at its end.
use Rattle.std.proofs.Common.{◌≡◌, ◌⊎◌, inl, inr, ℕ, ◌<◌, ◌≤◌, ◌+◌, ◌++◌, List, [], ◌∷◌, length, Option, None, Some, is_some, refl, sym, ap, ◌∙◌, arith, subst}
use Rattle.std.specs.Prelude.{sum_by, IsSome, is_some}
use Rattle.std.proofs.lemmas.Bool.{cases_lt}
use Rattle.std.proofs.lemmas.List.Sums.{sum_by-cons}
use Rattle.inc_value.specs.Choice.{Among, NoRepeats}
use Rattle.inc_value.specs.declared.function.FnRef.{FnRef}
use Rattle.inc_value.specs.declared.node.NodeId.{NodeId}
use Rattle.inc_terms.specs.Graph.{Row, Graph}
use Rattle.inc_terms.specs.Within.{Given}
use Rattle.inc_terms.proofs.Plan.{among_parts}
use Rattle.node_arena.specs.Arena.{Arena, row_at, live, IsLive}
use Rattle.node_arena.specs.Sound.{IsSoundArena}
use Rattle.node_arena.specs.RightSide.{RightSide}
use Rattle.stabilizer.specs.Giving.{GivesLive, GivesFew, HasBuilt, StopsFull}
use Rattle.stabilizer.proofs.Building.Sums.{those, those_were, those_once, those_sum, share, stood_for, sum_both}
use Rattle.stabilizer.proofs.Round.Alive.{alive, alive_count, alive_once, alive_row, among_alive}
use Rattle.inc_terms.specs.Term.{Functions}
use Rattle.stabilize_round.specs.Machine.{Moves}
use Rattle.stabilize_round.specs.Moves.{Quiet}
use Rattle.stabilize_round.specs.State.{State, Start}
use Rattle.stabilize_round.proofs.Runs.{run_builds, run_grows}
use Rattle.stabilize_round.proofs.Steps.{step_moves}
use Rattle.node_outcomes.specs.Meaning.{Meaning}
use Rattle.wiring.specs.Began.{IsRoundOf}
use Rattle.wiring.specs.Stands.{MatchesState, Counts, PointInHand}
use Rattle.wiring.specs.declared.refused.Refused.{Refused}
use Rattle.wiring.specs.declared.refused.Refused.TheVariants.{Height, Cycle, Full, Memory}
use Rattle.wiring.specs.declared.work.Work.{Work}
use Rattle.stabilizer.specs.Round.{IsInRound}
use Rattle.stabilizer.specs.Stepping as stepping
use Rattle.stabilizer.specs.Stepping.{IsTurned, ChangeIsLeft, SettlesLeast, Steps, StepStops, StepRefused, StepStopsFull}
use Rattle.stabilizer.specs.declared.parts.Parts.{Parts}
use Rattle.stabilizer.proofs.Round.Began.{round_on}
use Rattle.stabilizer.proofs.Round.NewDeaths.{Lasts, lasts_run, born_run, there_still}
use Rattle.stabilizer.proofs.Step.Making.{AreSettled, quiet_of}

-- ---- lengths

as_sum : (ns : List NodeId) → sum_by (λ (n : NodeId). 1) ns ≡ length ns
as_sum [] = refl
as_sum (n ∷ ns) = let rest = as_sum ns in let c = sum_by-cons (λ (n : NodeId). 1) n ns in omega (arith, rest, c)

-- different ones that are all among others are no more
pub no_more : (ns ms : List NodeId) → NoRepeats ns → ((n : NodeId) → Among n ns → Among n ms) → length ns ≤ length ms
no_more ns ms once h =
    let most = stood_for (λ (n : NodeId). n) (λ n. 1) (λ n. 1) ns ms once (λ n a. record { other = n; among = h n a; same = refl; most = omega arith }) in
    let one = as_sum ns in
    let other = as_sum ms in
    omega (arith, most, one, other)

joined_once : (ns ms : List NodeId) → NoRepeats ns → NoRepeats ms → ((n : NodeId) → Among n ns → Among n ms → ⊥) → NoRepeats (ns ++ ms)
joined_once [] ms once other apart = other
joined_once (n ∷ ns) ms once other apart = (
  (λ a. elim (among_parts n ns ms a) [ inl h ↦ once.0 h | inr h ↦ apart n (inl refl) h ]),
  joined_once ns ms once.1 other (λ m a b. apart m (inr a) b),
)

joined_length : (ns ms : List NodeId) → length (ns ++ ms) ≡ length ns + length ms
joined_length [] ms = omega arith
joined_length (n ∷ ns) ms = let rest = joined_length ns ms in omega (arith, rest)

-- ---- no id

-- where none was given
pub none_gives : (count : ℕ) (a : Arena) → a.given ≤ count → GivesLive count 0 a
none_gives count a given = record { born = []; once = tt; live = λ n h. absurd h; since = λ n h. absurd h; given = omega (arith, given) }

pub live_few : (right : FnRef → RightSide) (count : ℕ) (a : Arena) → GivesLive count 0 a → GivesFew right count a
live_few right count a gives = record { spent = 0; gives = gives; room = inl refl }

pub none_few : (right : FnRef → RightSide) (count : ℕ) (a : Arena) → a.given ≤ count → GivesFew right count a
none_few right count a given = live_few right count a (none_gives count a given)

-- ---- of one build

module _ (a built : Arena) (sound : IsSoundArena a) (keeps : (n : NodeId) → Given a.given n → row_at built n ≡ row_at a n)
    (counts : live built + a.given ≡ live a + built.given) where
  older_or_not : (n : NodeId) → (n.gen_ < a.given) ⊎ (n.gen_ < a.given → ⊥)
  older_or_not n = elim (cases_lt n.gen_ a.given) [ inl h ↦ inl h | inr le ↦ inr (λ h. omega (arith, h, le)) ]

  newer_or_not : (n : NodeId) → (a.given ≤ n.gen_) ⊎ (a.given ≤ n.gen_ → ⊥)
  newer_or_not n = elim (cases_lt n.gen_ a.given) [ inl h ↦ inr (λ le. omega (arith, h, le)) | inr le ↦ inl le ]

  -- each node is older or newer
  one_each : (n : NodeId) → 1 ≡ share (older_or_not n) 1 + share (newer_or_not n) 1
  one_each n = by (older_or_not n) (newer_or_not n)
    where
      by : (d : (n.gen_ < a.given) ⊎ (n.gen_ < a.given → ⊥)) → (e : (a.given ≤ n.gen_) ⊎ (a.given ≤ n.gen_ → ⊥)) → 1 ≡ share d 1 + share e 1
      by (inl h) (inl g) = absurd (omega (arith, h, g))
      by (inl h) (inr g) = omega arith
      by (inr h) (inl g) = omega arith
      by (inr h) (inr g) = elim (cases_lt n.gen_ a.given) [ inl l ↦ absurd (h l) | inr l ↦ absurd (g l) ]

  still : (n : NodeId) → Among n (those older_or_not (alive built)) → Among n (alive a)
  still n h =
      let w = those_were older_or_not n (alive built) h in
      let r = alive_row built n w.0 in
      among_alive a n r.0 (sym (keeps n w.1) ∙ r.1)

  pub built_gives : GivesLive a.given 0 built
  built_gives =
      let all = alive built in
      let split = sum_both (λ n. share (older_or_not n) 1) (λ n. share (newer_or_not n) 1) (λ n. 1) all one_each in
      let older = those_sum older_or_not (λ n. 1) all in
      let newer = those_sum newer_or_not (λ n. 1) all in
      let older_length = as_sum (those older_or_not all) in
      let newer_length = as_sum (those newer_or_not all) in
      let all_length = as_sum all in
      let few = no_more (those older_or_not all) (alive a) (those_once older_or_not all (alive_once built)) still in
      let live_a = alive_count a in
      let live_built = alive_count built in
      let c = counts in
      record {
        born = those newer_or_not all;
        once = those_once newer_or_not all (alive_once built);
        live = λ n h. ap is_some (alive_row built n (those_were newer_or_not n all h).0).1;
        since = λ n h. (those_were newer_or_not n all h).1;
        given = omega (arith, split, older, newer, older_length, newer_length, all_length, few, live_a, live_built, c);
      }

-- ---- of what follows

-- where those live on that were born before
pub gives_more : (count spent : ℕ) (mid new : Arena) → IsSoundArena mid → count ≤ mid.given → (before : GivesLive count 0 mid) → GivesLive mid.given spent new
    → ((n : NodeId) → Among n before.born → IsLive new n) → GivesLive count spent new
gives_more count spent mid new sound le before after lives =
    let size = joined_length before.born after.born in
    let first = before.given in
    let then = after.given in
    record {
      born = before.born ++ after.born;
      once = joined_once before.born after.born before.once after.once
          (λ n h g. (let was = sound.given n (before.live n h) in let since = after.since n g in omega (arith, was, since)));
      live = λ n h. elim (among_parts n before.born after.born h) [ inl g ↦ lives n g | inr g ↦ after.live n g ];
      since = λ n h. elim (among_parts n before.born after.born h) [
        | inl g ↦ before.since n g
        | inr g ↦ let s = after.since n g in omega (arith, s, le)
      ];
      given = omega (arith, size, first, then);
    }

-- so many more were given as live at most
pub gives_few : (count spent : ℕ) (a : Arena) → GivesLive count spent a → a.given ≤ count + live a + spent
gives_few count spent a g =
    let few = no_more g.born (alive a) g.once (λ n h. by_row n (row_at a n) refl (g.live n h)) in
    let size = alive_count a in
    let given = g.given in
    omega (arith, few, size, given)
  where
    by_row : (n : NodeId) (o : Option Row) → row_at a n ≡ o → IsSome o → Among n (alive a)
    by_row n None e l = absurd (cc)
    by_row n (Some r) e l = among_alive a n r e

-- ---- of one step

same_given : (old new : Arena) → new ≡ old → new.given ≤ old.given
same_given old new same = let e = ap (λ (a : Arena). a.given) same in omega (arith, e)

-- of a change that turned
turned_gives : (M : Meaning) (old new : Parts) (n : NodeId) (before after : Counts) → IsTurned M old new n before after
    → GivesLive old.arena.given 0 new.arena
turned_gives M old new n before after (stepping.turned m only same) =
    none_gives old.arena.given new.arena (same_given old.arena new.arena (ap (λ (y : Parts). y.arena) only))
turned_gives M old new n before after (stepping.built due anew calls gives) = gives

-- it was turned, and then points got links
wired_gives : (M : Meaning) (old turned new : Parts) (n : NodeId) (before after : Counts) → IsTurned M old turned n before after
    → new ≡ record turned { work = new.work } → GivesLive old.arena.given 0 new.arena
wired_gives M old turned new n before after turns only =
    subst (λ (a : Arena). GivesLive old.arena.given 0 a) (sym (ap (λ (y : Parts). y.arena) only)) (turned_gives M old turned n before after turns)

-- of a change that was refused
pub left_few : (M : Meaning) (right : FnRef → RightSide) (old new : Parts) (n : NodeId) (before after : Counts) (e : Refused)
    → ChangeIsLeft M right old new n before after e → GivesFew right old.arena.given new.arena
left_few M right old new n before after e (stepping.as_it_was stands same counts memory) =
    none_few right old.arena.given new.arena (same_given old.arena new.arena same)
left_few M right old new n before after e (stepping.unbuilt stops calls later told few full) = few
left_few M right old new n before after e (stepping.unattached {turned} turns refused only) =
    live_few right old.arena.given new.arena (wired_gives M old turned new n before after turns only)
left_few M right old new n before after e (stepping.unwired {turned} turns attaches refused only) =
    live_few right old.arena.given new.arena (wired_gives M old turned new n before after turns only)

-- of a main that was refused
pub main_few : (right : FnRef → RightSide) (old new : Arena) → new ≡ old → GivesFew right old.given new
main_few right old new same = none_few right old.given new (same_given old new same)

-- without memory nothing is full
pub memory_full : (right : FnRef → RightSide) (a : Arena) (before after : Counts) (e : Refused) → e ≡ Memory → StopsFull right a before after e
memory_full right a before after e is = subst (StopsFull right a before after) (sym is) tt

-- of a step that was made
step_gives : (M : Meaning) (old new : Parts) (before after : Counts) → SettlesLeast M old new before after → GivesLive old.arena.given 0 new.arena
step_gives M old new before after (stepping.of_main taken settled only) =
    none_gives old.arena.given new.arena (same_given old.arena new.arena (ap (λ (y : Parts). y.arena) only))
step_gives M old new before after (stepping.of_change {n} {taken} least k) =
    wired_gives M (record old { work = taken }) k.turned new n before after k.turns k.rest

-- ---- after the steps before

module _ (M N : Meaning) (same : N ≡ M) (old mid new : Parts) (before between after : Counts) (so : AreSettled M old mid before between)
    (begins : IsInRound M old before) (gave : GivesLive old.arena.given 0 mid.arena) where
  abbrev F : Functions
  F = M.functions

  abbrev z : Start
  z = begins.start

  abbrev s : State
  s = begins.state

  abbrev ran : (t : State) × Moves F z s t × MatchesState mid.arena mid.work between None t
  ran = so.settled z s begins.round begins.stands

  abbrev t : State
  t = ran.0

  row_in : (arena : Arena) (work : Work) (counts : Counts) (hand : Option PointInHand) (u : State) → MatchesState arena work counts hand u → (n : NodeId)
      → u.graph.row n ≡ row_at arena n
  row_in arena work counts hand u st n = ap (λ (G : Graph). G.row n) st.graph

  -- none of those that are new was there
  none_before : (n : NodeId) → old.arena.given ≤ n.gen_ → (o : Option Row) → s.graph.row n ≡ o → o ≡ None
  none_before n le None e = refl
  none_before n le (Some r) e =
      let given = begins.round.given.names.live n r e in
      let same_given = begins.stands.given in
      absurd (omega (arith, le, given, same_given))

  was_born : (n : NodeId) → Among n gave.born → Lasts F t.graph t.given n
  was_born n h = by (row_at mid.arena n) refl (gave.live n h)
    where
      by : (o : Option Row) → row_at mid.arena n ≡ o → IsSome o → Lasts F t.graph t.given n
      by None e l = absurd (cc)
      by (Some r) e l = born_run F z s t ran.1 n r (none_before n (gave.since n h) (s.graph.row n) refl)
          (row_in mid.arena mid.work between None t ran.2 n ∙ e)

  live_in : (u : State) (hand : Option PointInHand) (counts : Counts) → MatchesState new.arena new.work counts hand u → (n : NodeId) (r : Row)
      → u.graph.row n ≡ Some r → IsLive new.arena n
  live_in u hand counts st n r e = ap is_some (sym (row_in new.arena new.work counts hand u st n) ∙ e)

  no_fewer : old.arena.given ≤ mid.arena.given
  no_fewer =
      let grows = run_grows F z s t ran.1 in
      let first = begins.stands.given in
      let last = ran.2.given in
      omega (arith, grows, first, last)

  quiet : Quiet t
  quiet = quiet_of mid.arena mid.work between t ran.2 so.quiet

  round : IsRoundOf M z t
  round = round_on M z s t ran.1 begins.round

  -- a step more was made
  pub gives_next : Steps N mid new between after → SettlesLeast N mid new between after → GivesLive old.arena.given 0 new.arena
  gives_next steps settles =
      let made = subst (λ (L : Meaning). Steps L mid new between after) same steps in
      let k = made z t round quiet ran.2 in
      gives_more old.arena.given 0 mid.arena new.arena so.kept.work.sound no_fewer gave (step_gives N mid new between after settles)
      (λ n h. let last = lasts_run F z t k.0 (step_moves F z t k.0 k.1) n (was_born n h) in
      live_in k.0 None after k.2 n last.row last.is_row)

  -- it was refused
  stopped_there : (e : Refused) → StepStops F z t new between after e → (n : NodeId) → Lasts F t.graph t.given n → IsLive new.arena n
  stopped_there e (stepping.as_it_was stands count is) n k = live_in t None between stands n k.row k.is_row
  stopped_there e (stepping.unbuilt {r} {t = u} moves stops stands calls later told) n k =
      let last = lasts_run F z t r moves n k in live_in u None after stands n last.row (there_still F z r u stops n last)
  stopped_there e (stepping.wiring {t = u} {left} moves stands calls told) n k =
      let last = lasts_run F z t u moves n k in live_in u left after stands n last.row last.is_row

  -- no fewer builds are counted then
  builds_more : before.builds ≤ between.builds
  builds_more =
      let grow = (run_builds F z s t ran.1).count.kept in
      let first = ap (λ (c : Counts). c.builds) begins.stands.counts in
      let last = ap (λ (c : Counts). c.builds) ran.2.counts in
      omega (arith, grow, first, last)

  built_since : HasBuilt between after → HasBuilt before after
  built_since (inl more) = let first = builds_more in inl (omega (arith, first, more))
  built_since (inr last) = inr last

  full_since : (right : FnRef → RightSide) (e : Refused) → StopsFull right new.arena between after e → StopsFull right new.arena before after e
  full_since right Full full = (built_since full.0, full.1)
  full_since right Memory full = tt
  full_since right (Height points) full = tt
  full_since right (Cycle points) full = tt

  pub full_next : (right : FnRef → RightSide) (e : Refused) → StepStopsFull N right mid new between after e → StopsFull right new.arena before after e
  full_next right e full = full_since right e (subst (λ (L : Meaning). StepStopsFull L right mid new between after e) same full z t round quiet ran.2)

  pub few_next : (right : FnRef → RightSide) (e : Refused) → StepRefused N mid new between after e → GivesFew right mid.arena.given new.arena
      → GivesFew right old.arena.given new.arena
  few_next right e refused few =
      let stops = subst (λ (L : Meaning). StepRefused L mid new between after e) same refused z t round quiet ran.2 in record {
        spent = few.spent;
        gives = gives_more old.arena.given few.spent mid.arena new.arena so.kept.work.sound no_fewer gave few.gives
            (λ n h. stopped_there e stops n (was_born n h));
        room = few.room;
      }
