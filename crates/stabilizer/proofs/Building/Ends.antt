-- How building a bind anew ends: what the calls left, put together.
use Rattle.std.proofs.Common.{◌≡◌, inl, inr, ℕ, ◌+◌, ◌-◌, ◌<◌, ◌≤◌, Bool, true, List, [], Option, None, Some, refl, sym, ap, subst, ◌∙◌, arith, Vec, Global}
use Rattle.std.specs.Prelude.{is_some, option_map, Result, Ok, Err, IfErr, OnErr}
use Rattle.std.proofs.lemmas.Bool.{cases_lt}
use Rattle.std.proofs.lemmas.Option.{none-some, same_Some}
use Rattle.inc_value.specs.Choice.{Reaches}
use Rattle.inc_value.specs.declared.function.FnRef.{FnRef}
use Rattle.inc_value.specs.declared.node.NodeId.{NodeId}
use Rattle.inc_value.specs.declared.outcome.Outcome.{Outcome}
use Rattle.inc_value.specs.declared.outcome.Outcome.TheVariants.{Val, Invalid}
use Rattle.inc_value.specs.declared.ty.Ty.{Ty}
use Rattle.inc_value.specs.declared.value.Value.{Value}
use Rattle.inc_terms.specs.Depend.{change}
use Rattle.inc_terms.specs.Graph.{Row}
use Rattle.inc_terms.specs.Within.{Given}
use Rattle.point_map.specs.Rows.{Rows, at, Holds, Changes, KeepsRows}
use Rattle.necessity.specs.Need.{Roots, root_times, KeepsRoots}
use Rattle.node_arena.specs.Arena.{Arena, row_at}
use Rattle.node_arena.specs.Building.{building_in}
use Rattle.node_arena.specs.Graph.{AllCallFit}
use Rattle.node_arena.specs.RightSide.{RightSide, IsRoot, IsEmpty}
use Rattle.node_arena.specs.RightSideLaws.{ids_of}
use Rattle.node_arena.specs.Typing.{Fits}
use Rattle.node_arena.specs.declared.functions.Functions.{Ghosts}
use Rattle.node_lists.specs.Deaths.{Deaths}
use Rattle.stabilize_round.specs.Counts.{RoseBy}
use Rattle.stabilize_round.specs.Machine.{Stops}
use Rattle.stabilize_round.specs.Moves.{Quiet}
use Rattle.stabilize_round.specs.Rebuilding.{builds_of}
use Rattle.stabilize_round.specs.State.{State, Start}
use Rattle.stabilize_round.specs.Steps.{Preparing}
use Rattle.stabilize_round.proofs.Counts.{none_yet, at_most}
use Rattle.node_outcomes.specs.Meaning.{Meaning, meaning_of}
use Rattle.node_outcomes.specs.Row.{IsRewritten, with_outcome, without_outcome, settled_in}
use Rattle.node_outcomes.specs.Progress.{Progress}
use Rattle.wiring.specs.Began.{IsRoundOf}
use Rattle.wiring.specs.Stands.{MatchesState, Counts}
use Rattle.wiring.specs.Wiring.{KeepsGraph}
use Rattle.wiring.specs.declared.refused.Refused.{Refused}
use Rattle.wiring.specs.declared.refused.Refused.TheVariants.{Height, Cycle, Full, Memory}
use Rattle.wiring.specs.declared.work.Work.{Work}
use Rattle.stabilizer.specs.Building.{HasGrown, StopsBuilding}
use Rattle.stabilizer.specs.Dying.{IsCutOff, HasDied, StandsBefore}
use Rattle.stabilizer.specs.Giving.{GivesLive, GivesFew, LeavesRoom, HasBuilt, StopsFull}
use Rattle.stabilizer.specs.Kept.{PartsKept, counts_by, KeepsMeaning}
use Rattle.stabilizer.specs.Rebuilding.{IsToBuild, BuildsAnew, BuildRefused, as_it_was, unbuilt, IsSettledOn, IsToSettle, RebuildStays}
use Rattle.stabilizer.specs.Staying.{MayStep}
use Rattle.stabilizer.specs.Rooted.{MayBuildFor, WasBuilt, GetsRoot, GetsNoRoot, no_room, stopped, with_roots}
use Rattle.stabilizer.specs.Weights.{IsInScope, SidesFit}
use Rattle.stabilizer.specs.declared.parts.Parts.{Parts}
use Rattle.stabilizer.proofs.Building.Anew.{IsRebuilt, HasRoot}
use Rattle.stabilizer.proofs.Change.Turned.{run_settled}
use Rattle.stabilizer.proofs.Step.Giving.{none_gives, none_few}
use Rattle.stabilizer.proofs.Step.MeaningKept.{nothing_meant}
use Rattle.stabilizer.proofs.Building.Asks.{dead_fit, dead_given, bind_stays, is_bind_of, is_known, may_build, gives_type, fit_then, built_root, no_root_built}
use Rattle.stabilizer.proofs.Building.Asks.{scope_empty}
use Rattle.stabilizer.proofs.Building.Counts.{tally_adds, tally_builds, tally_rises}
use Rattle.stabilizer.proofs.Building.Moves.{builds_anew, stops_unbuilt}
use Rattle.stabilizer.proofs.Building.Kept.{rebuilt_kept, roomy, roomy_kept, roomy_to, roomy_before, died_roomy, roots_roomy, none_grown, no_adds}
use Rattle.stabilizer.proofs.Building.Kept.{no_builds}

-- ---- the change's row

mapped_there : (f : Progress → Progress) (x : Option Progress) → is_some x ≡ true → is_some (option_map f x) ≡ true
mapped_there f None e = absurd (cc)
mapped_there f (Some k) e = refl

-- it is there after the deaths
pub own_after : (cut dead : Parts) (b : NodeId) → HasDied cut dead b → Holds cut.work.rows (change b) → Holds dead.work.rows (change b)
own_after cut dead b d own = ap is_some d.own ∙ mapped_there without_outcome (at cut.work.rows (change b)) own

-- and after the build
pub own_grown : (dead last : Parts) (b : NodeId) → HasGrown dead last b → Given dead.arena.given b → Holds dead.work.rows (change b)
    → Holds last.work.rows (change b)
own_grown dead last b g given own = ap is_some (g.rows (change b) given) ∙ own

-- ---- what settling it does

-- a root was put there, if one was built, and the change was settled
pub settled_rebuilt : (old new : Work) (roots : Rows NodeId) (n : NodeId) (given : Outcome) (root : Option NodeId)
    → Changes old.roots roots (change n) root → IsRewritten old.rows new.rows (change n) (with_outcome given old.round)
    → KeepsGraph old.graph new.graph → Changes old.graph.heap new.graph.heap (change n) None
    → new ≡ record old { graph = new.graph; rows = new.rows; roots = roots } → IsRebuilt old new n given root
settled_rebuilt old new roots n given root put rows graph heap rest = record {
  rows = rows;
  graph = graph;
  heap = heap;
  roots = subst (λ (m : Rows NodeId). Changes old.roots m (change n) root) (sym (ap (λ (w : Work). w.roots) rest)) put;
  todo = ap (λ (w : Work). w.todo.items) rest;
  deaths = ap (λ (w : Work). w.deaths) rest;
  ran = ap (λ (w : Work). w.ran) rest;
  retries = ap (λ (w : Work). w.retries) rest;
  round = ap (λ (w : Work). w.round) rest;
  experts = ap (λ (w : Work). w.experts) rest;
}

-- a bind that has no root keeps none
pub no_root_put : (old : Work) (n : NodeId) → at old.roots (change n) ≡ None → Changes old.roots old.roots (change n) None
no_root_put old n none = record { changed = none; others = λ p ne. refl }

-- ---- the ends

-- so it is of a refusal of which it follows
pub if_on_err : {T E P : Type 0} {Q : E → Type 0} (r : Result T E) → ((e : E) → Q e → P) → IfErr r Q → OnErr r P
if_on_err (Ok x) f h = tt
if_on_err (Err e) f h = f e h

-- parts in which the deaths have room were built as they were
pub left_roomy : (M : Meaning) (right : FnRef → RightSide) (old : Parts) (deaths : Deaths) (roots : Rows NodeId) (same_deaths : KeepsRows old.work.deaths.scopes deaths.scopes)
    (same_roots : KeepsRows old.work.roots roots) (dying : Vec NodeId Global) (same_dying : dying.items ≡ old.dying.items) (b : NodeId)
    (counts : Counts)
    → BuildRefused M right old (roomy old deaths roots same_deaths same_roots dying same_dying) b counts counts Memory
left_roomy M right old deaths roots same_deaths same_roots dying same_dying b counts =
    as_it_was (λ s before. roomy_before old deaths roots same_deaths same_roots dying same_dying counts s b before) refl refl refl

-- what moves lead to where a bind couldn't be built
abbrev pub StopsThere : Meaning → NodeId → Parts → Counts → Start → State → Type 0
StopsThere M b last after z s =
    (ready stopped : State) × Reaches (Preparing M.functions z (change b)) s ready × Stops M.functions z ready stopped
    × MatchesState last.arena last.work after None stopped × (stopped.heap (change b) ≡ true)

-- then it is settled
pub settled_on : (mid new : Work) (b : NodeId) (given : Outcome) → IsSettledOn mid new b given → Holds mid.rows (change b)
    → settled_in new.round (at new.rows (change b)) ≡ true
settled_on mid new b given on there = ap (settled_in new.round) on.rows.changed
    ∙ (ap (λ (i : ℕ). settled_in i (option_map (with_outcome given mid.round) (at mid.rows (change b)))) (ap (λ (w : Work). w.round) on.rest)
    ∙ run_settled given mid.round (at mid.rows (change b)) there)

-- and what stayed stays
pub settled_stays : {K More : Type 0} (keeper : Ghosts K More) (fs fs' : K) (old mid : Parts) (new : Work) (b : NodeId) (given : Outcome)
    → IsSettledOn mid.work new b given → RebuildStays keeper fs fs' old mid b → RebuildStays keeper fs fs' old (record mid { work = new }) b
settled_stays keeper fs fs' old mid new b given on s =
    let there = ap is_some on.rows.changed ∙ mapped_there (with_outcome given mid.work.round) (at mid.work.rows (change b)) s.there in
    let roots : KeepsRoots old.work.graph.roots new.graph.roots = (λ p. ap (λ (r : Roots). root_times r p) on.graph.roots ∙ s.roots p) in
    let round = ap (λ (w : Work). w.round) on.rest ∙ s.round in
    let quiet = ap (λ (w : Work). w.todo.items) on.rest ∙ s.quiet in
    assumption (there, roots, round, quiet, s)

module _ {K More : Type 0} (keeper : Ghosts K More) (fs : K) where
  abbrev M : Meaning
  M = meaning_of keeper fs

  abbrev known : FnRef → Bool
  known = keeper.known fs

  abbrev right : FnRef → RightSide
  right = keeper.right fs

  abbrev before : Counts
  before = counts_by keeper fs

  -- a bind is to be built, there is room for the deaths, and what stood in its scope was cut off and died
  pub record AreCut (first old cut dead : Parts) (b : NodeId) (f : FnRef) (captures : List NodeId) (given : Outcome) : Type 0 where
    pub kept : PartsKept old
    pub to : IsToBuild old b f captures given
    pub own : Holds old.work.rows (change b)
    pub fit : SidesFit (keeper.known fs) (keeper.right fs) old.arena
    pub cuts : IsCutOff old cut b
    pub died : HasDied cut dead b
    pub lasts : PartsKept dead
    pub arena : old.arena ≡ first.arena
    pub ran : old.ran ≡ first.ran
    pub roots : old.work.graph.roots ≡ first.work.graph.roots
    pub round : old.work.round ≡ first.work.round
    pub quiet : old.work.todo.items ≡ []
    pub sound : keeper.is_sound fs
    pub from : (counts : Counts) (s : State) → StandsBefore first counts s b → StandsBefore old counts s b

  -- so it is with the parts in which room was made
  pub are_cut : (old : Parts) (deaths : Deaths) (same : KeepsRows old.work.deaths.scopes deaths.scopes) (dying : Vec NodeId Global)
      (items : dying.items ≡ old.dying.items) {cut dead : Parts} {b : NodeId} {f : FnRef} {captures : List NodeId} {given : Outcome}
      → MayStep keeper fs old → IsToBuild old b f captures given → Holds old.work.rows (change b)
      → IsCutOff (roomy old deaths old.work.roots same (λ p. refl) dying items) cut b → HasDied cut dead b → PartsKept dead
      → AreCut old (roomy old deaths old.work.roots same (λ p. refl) dying items) cut dead b f captures given
  are_cut old deaths same dying items {b = b} {f = f} {captures = captures} {given = given} may to own cuts died lasts =
      let kept : PartsKept (roomy old deaths old.work.roots same (λ p. refl) dying items) =
      roomy_kept old deaths old.work.roots same (λ p. refl) dying items may.kept in
      let to' : IsToBuild (roomy old deaths old.work.roots same (λ p. refl) dying items) b f captures given =
      roomy_to old deaths old.work.roots same (λ p. refl) dying items b f captures given to in
      let from : (counts : Counts) (s : State) → StandsBefore old counts s b
      → StandsBefore (roomy old deaths old.work.roots same (λ p. refl) dying items) counts s b =
      (λ counts s stands. roomy_before old deaths old.work.roots same (λ p. refl) dying items counts s b stands) in
      assumption (kept, to', own, from, cuts, died, lasts, may)

  -- where there was no room for the deaths all stays
  pub roomy_stays : (old : Parts) (deaths : Deaths) (same : KeepsRows old.work.deaths.scopes deaths.scopes) (dying : Vec NodeId Global)
      (items : dying.items ≡ old.dying.items) (b : NodeId) → Holds old.work.rows (change b) → MayStep keeper fs old
      → RebuildStays keeper fs fs old (roomy old deaths old.work.roots same (λ p. refl) dying items) b
  roomy_stays old deaths same dying items b own may =
      let meaning : KeepsMeaning keeper fs fs = nothing_meant keeper fs may.sound in
      assumption (own, meaning, may)

  module _ {first old cut dead : Parts} {b : NodeId} {f : FnRef} {captures : List NodeId} {given : Outcome}
      (h : AreCut first old cut dead b f captures given) where
    own_cut : Holds cut.work.rows (change b)
    own_cut = ap is_some h.cuts.own ∙ h.own

    -- functions fit after the deaths
    pub fits_dead : SidesFit known right dead.arena
    fits_dead = dead_fit old cut dead b h.cuts.arena h.died own_cut known right h.fit

    as_given : dead.arena.given ≡ old.arena.given
    as_given = dead_given old cut dead b h.cuts.arena h.died own_cut

    -- no fewer ids were given then
    pub given_first : first.arena.given ≤ dead.arena.given
    given_first = let e = as_given in let first_as = ap (λ (a : Arena). a.given) h.arena in omega (arith, e, first_as)

    -- and no more
    given_same : dead.arena.given ≡ first.arena.given
    given_same = as_given ∙ ap (λ (a : Arena). a.given) h.arena

    -- so none was spent
    pub dead_few : (sides : FnRef → RightSide) → GivesFew sides first.arena.given dead.arena
    dead_few sides = let same = given_same in none_few sides first.arena.given dead.arena (omega (arith, same))

    same_row : row_at dead.arena b ≡ row_at old.arena b
    same_row = bind_stays old cut dead b h.cuts.arena h.died own_cut

    was_given : Given dead.arena.given b
    was_given = subst (λ (k : ℕ). b.gen_ < k) (sym as_given) (h.kept.work.sound.given b (ap is_some h.to.is_row))

    own_dead : Holds dead.work.rows (change b)
    own_dead = own_after cut dead b h.died own_cut

    -- nobody stands in the bind's scope
    asks_empty : IsEmpty dead.arena b
    asks_empty = scope_empty old cut dead b h.cuts.arena h.died own_cut h.kept.work f captures given h.to

    -- the bind's function is known, and a right side can be built for a value
    pub asks_build : (left : Value) → given ≡ Val left → MayBuildFor keeper fs dead b f captures left
    asks_build left is = record {
      kept = h.lasts;
      live = ap is_some (same_row ∙ h.to.is_row);
      bind = (h.to.row, h.to.left, f, captures, same_row ∙ h.to.is_row, h.to.is_bind);
      own = is_bind_of old cut dead b h.cuts.arena h.died own_cut h.kept.work f captures given h.to;
      sound = h.sound;
      known = is_known old cut dead b h.cuts.arena h.died own_cut h.kept.work f captures given h.to known right h.fit;
      ready = may_build old cut dead b h.cuts.arena h.died own_cut h.kept.work f captures given h.to left is known right h.fit;
      fit = fits_dead;
    }

    calls_fit : AllCallFit known (ids_of right) dead.arena
    calls_fit = fit_then known known right right dead.arena (λ g. refl) (λ g. refl) fits_dead

    same_roots : KeepsRoots first.work.graph.roots dead.work.graph.roots
    same_roots = subst (λ (r : Roots). KeepsRoots first.work.graph.roots r) (sym h.died.graph_roots)
        (subst (λ (r : Roots). KeepsRoots r cut.work.graph.roots) h.roots h.cuts.places.roots)

    -- what stays in the deaths
    pub dead_stays : RebuildStays keeper fs fs first dead b
    dead_stays = record {
      calls = refl;
      wants = refl;
      own = λ r e. same_row ∙ (ap (λ (a : Arena). row_at a b) h.arena ∙ e);
      there = own_dead;
      ran = ap (λ (l : Vec NodeId Global). l.items) (h.died.ran ∙ (h.cuts.ran ∙ h.ran));
      roots = same_roots;
      round = h.died.round ∙ (h.cuts.places.round ∙ h.round);
      quiet = h.died.todo ∙ (ap (λ (w : Work). w.todo.items) h.cuts.rest ∙ h.quiet);
      fit = fits_dead;
      meaning = nothing_meant keeper fs h.sound;
    }

    -- there was room for a root
    module _ (roots : Rows NodeId) (same : KeepsRows dead.work.roots roots) where
      abbrev pub ready : Parts
      ready = record dead { work = record dead.work { roots = roots } }

      ready_kept : PartsKept ready
      ready_kept = roots_roomy dead roots same h.lasts

      ready_died : HasDied cut ready b
      ready_died = died_roomy cut dead b roots same h.died

      pub ready_stays : RebuildStays keeper fs fs first ready b
      ready_stays = assumption (dead_stays)

      -- or there wasn't
      pub stops_roomless : (z : Start) (s : State) → IsRoundOf M z s → Quiet s → StandsBefore first before s b → StopsThere M b ready before z s
      stops_roomless z s begun quiet stands =
          stops_unbuilt M old cut ready ready b f captures given before h.kept.work h.to h.own h.cuts ready_died (none_grown ready b ready_kept.work)
          ready_kept.work calls_fit asks_empty before refl (no_adds dead.arena.given before.adds) (no_builds given before.builds) z s begun quiet
          (h.from before s stands)

      module _ (left : Value) (is : given ≡ Val left) {grown : Parts} {fs' : K} (w : WasBuilt keeper fs fs' ready grown b) where
        abbrev after : Counts
        after = counts_by keeper fs'

        abbrev number : ℕ
        number = grown.arena.given - ready.arena.given

        adds : RoseBy before.adds number after.adds
        adds = tally_adds number (keeper.tally fs) (keeper.tally fs') w.tally

        builds : RoseBy before.builds (builds_of given) after.builds
        builds = subst (λ (o : Outcome). RoseBy before.builds (builds_of o) after.builds) (sym is)
            (tally_builds number (keeper.tally fs) (keeper.tally fs') w.tally left)

        -- the build is counted
        has_built : HasBuilt before after
        has_built = tally_rises number (keeper.tally fs) (keeper.tally fs') w.tally

        calls_fit_then : AllCallFit known (ids_of right) grown.arena
        calls_fit_then = fit_then known (keeper.known fs') right (keeper.right fs') grown.arena w.meaning.same.known w.meaning.same.sides w.fit

        -- where no new node lives, nobody stands in the bind's scope
        none_stand : ((n : NodeId) → ready.arena.given ≤ n.gen_ → row_at grown.arena n ≡ None) → (n : NodeId) (r : Row) → row_at grown.arena n ≡ Some r
            → r.scope ≡ Some b → ⊥
        none_stand none n r row scope = elim (cases_lt n.gen_ ready.arena.given) [
          | inl lt ↦ asks_empty n r (sym (w.grew.nodes n lt) ∙ row) scope
          | inr le ↦ none-some r (sym (none n le) ∙ row)
        ]

        -- a right side couldn't be built
        pub stops_building : ((n : NodeId) → ready.arena.given ≤ n.gen_ → row_at grown.arena n ≡ None) → (z : Start) (s : State) → IsRoundOf M z s
            → Quiet s → StandsBefore first before s b → StopsThere M b grown after z s
        stops_building none z s begun quiet stands =
            stops_unbuilt M old cut ready grown b f captures given before h.kept.work h.to h.own h.cuts ready_died w.grew w.kept.work calls_fit_then
            (none_stand none) after w.calls adds (at_most builds) z s begun quiet (h.from before s stands)

        -- the change's row is there
        pub there_grown : Holds grown.work.rows (change b)
        there_grown = own_grown ready grown b w.grew was_given own_dead

        row_grown : (r : Row) → row_at old.arena b ≡ Some r → row_at grown.arena b ≡ Some r
        row_grown r e = w.grew.nodes b was_given ∙ (same_row ∙ e)

        module _ (none : (n : NodeId) → ready.arena.given ≤ n.gen_ → row_at grown.arena n ≡ None)
            (most : grown.arena.given ≤ ready.arena.given + (right f).size) where
          nobody : (n : NodeId) → IsInScope grown.arena b n → ⊥
          nobody n s = none_stand none n s.row s.is_row s.scope

          leaves_room : (k : ℕ) → k ≤ (right f).size → LeavesRoom (keeper.right fs') k grown.arena
          leaves_room k few = record {
            bind = b;
            row = h.to.row;
            left = h.to.left;
            function = f;
            captures = captures;
            is_row = row_grown h.to.row h.to.is_row;
            is_bind = h.to.is_bind;
            empty = nobody;
            most = let size : (keeper.right fs' f).size ≡ (right f).size = ap (λ (s : RightSide). s.size) (w.meaning.same.sides f) in omega (arith, size, few);
          }

          spent_few : grown.arena.given - ready.arena.given ≤ (right f).size
          spent_few = let k = most in omega (arith, k)

          -- the ids that were spent are no more than its function takes
          pub spends_few : GivesFew (keeper.right fs') first.arena.given grown.arena
          spends_few =
              let same = given_same in record {
                spent = (right f).size;
                gives = record { born = []; once = tt; live = λ n i. absurd i; since = λ n i. absurd i; given = omega (arith, most, same) };
                room = inr (leaves_room (right f).size (omega arith));
              }

          -- where it stops as full they leave no room with those that live
          pub spends_full : (e : Refused) → StopsBuilding ready.arena.given grown.arena e → StopsFull (keeper.right fs') grown.arena before after e
          spends_full Full (inl full) = (has_built, inl (record { spent = number; room = leaves_room number spent_few; full = full }))
          spends_full Full (inr given) = (has_built, inr given)
          spends_full Memory stops = tt
          spends_full (Height points) stops = absurd stops
          spends_full (Cycle points) stops = absurd stops

        -- the bind keeps its row
        pub own_row : (r : Row) → row_at first.arena b ≡ Some r → row_at grown.arena b ≡ Some r
        own_row r e = row_grown r (ap (λ (a : Arena). row_at a b) h.arena ∙ e)

        pub grown_stays : RebuildStays keeper fs fs' first grown b
        grown_stays = record {
          calls = w.calls;
          wants = w.wants;
          own = own_row;
          there = there_grown;
          ran = w.grew.ran ∙ dead_stays.ran;
          roots = subst (λ (r : Roots). KeepsRoots first.work.graph.roots r) (sym w.grew.roots) dead_stays.roots;
          round = w.grew.round.round ∙ dead_stays.round;
          quiet = w.grew.todo ∙ dead_stays.quiet;
          fit = w.fit;
          meaning = w.meaning;
        }

        -- one was, and the change is to be settled
        module _ (root : NodeId) (is_root : IsRoot (building_in b grown.arena) captures root ((right f).term left) f.sig.gives)
            (roots' : Rows NodeId) (put : Changes grown.work.roots roots' (change b) (Some root)) where
          abbrev rooted : Parts
          rooted = record grown { work = record grown.work { roots = roots' } }

          has_root : HasRoot M.functions grown.arena b f captures given (Some root)
          has_root = subst (λ (o : Outcome). HasRoot M.functions grown.arena b f captures o (Some root)) (sym is)
              (built_root known (keeper.value fs) right grown.arena b f captures left root f.sig.gives is_root)

          run_of : (new : Work) → IsSettledOn rooted.work new b given → IsRebuilt grown.work new b given (Some root)
          run_of new on = settled_rebuilt grown.work new roots' b given (Some root) put on.rows on.graph on.heap on.rest

          builds_of_root : (new : Work) → IsSettledOn rooted.work new b given → BuildsAnew M first (record rooted { work = new }) b before after
          builds_of_root new on z s begun quiet stands =
              builds_anew M old cut ready grown b f captures given before h.kept.work h.to h.own h.cuts ready_died w.grew w.kept.work calls_fit_then
              after w.calls adds builds (record rooted { work = new }) refl (Some root) (run_of new on) there_grown has_root z s begun quiet
              (h.from before s stands)

          root_fits : (m : NodeId) → Some root ≡ Some m → Given grown.arena.given m × Fits grown.arena m h.to.row.ty
          root_fits m e =
              let same_type = gives_type old cut dead b h.cuts.arena h.died own_cut h.kept.work f captures given h.to in
              let at_m : root ≡ m = same_Some root m e in (
                subst (λ (x : NodeId). Given grown.arena.given x) at_m is_root.given,
                subst (λ (x : NodeId). Fits grown.arena x h.to.row.ty) at_m (subst (λ (t : Ty). Fits grown.arena root t) same_type is_root.fits),
              )

          kept_of_root : (new : Work) → IsSettledOn rooted.work new b given → PartsKept (record rooted { work = new })
          kept_of_root new on = record {
            work = rebuilt_kept grown.arena grown.work new b given (Some root) w.kept.work (run_of new on) there_grown on.step
                (ap (λ (x : Work). x.pairs) on.rest) (ap (λ (x : Work). x.scoped) on.rest) h.to.row (row_grown h.to.row h.to.is_row) h.to.left
                f captures h.to.is_bind root_fits (λ some. (left, is));
            scopes = w.kept.scopes;
            dying = w.kept.dying;
            clock = w.kept.clock;
            listing = w.kept.listing;
          }

          pub settles_root : GivesLive ready.arena.given 0 grown.arena → IsToSettle keeper fs fs' first rooted b given
          settles_root gives = record {
            builds = builds_of_root;
            kept = kept_of_root;
            step = w.kept.work.step;
            gives = subst (λ (k : ℕ). GivesLive k 0 grown.arena) given_same gives;
          }

          pub root_stays : RebuildStays keeper fs fs' first rooted b
          root_stays = assumption (own_row, there_grown, grown_stays, w)

    -- by how a root was got, or wasn't
    module _ (left : Value) (is : given ≡ Val left) {fs' : K} {new : Parts} where
      pub root_settles : GetsRoot keeper fs fs' dead new b f captures left → IsToSettle keeper fs fs' first new b given
      root_settles r = subst (λ (x : Parts). IsToSettle keeper fs fs' first x b given) (sym r.rest)
          (settles_root r.roomy r.room left is r.built r.root r.is_root r.roots r.put r.gives)

      pub stays_rooted : GetsRoot keeper fs fs' dead new b f captures left → RebuildStays keeper fs fs' first new b
      stays_rooted r = subst (λ (x : Parts). RebuildStays keeper fs fs' first x b) (sym r.rest)
          (root_stays r.roomy r.room left is r.built r.root r.is_root r.roots r.put)

      pub kept_rootless : (e : Refused) → GetsNoRoot keeper fs fs' dead new b f e → PartsKept new
      kept_rootless e (no_room {roomy} room rest same memory) = subst PartsKept (sym rest) (roots_roomy dead roomy room h.lasts)
      kept_rootless e (stopped room built none stops few) = built.kept

      pub stays_rootless : (e : Refused) → GetsNoRoot keeper fs fs' dead new b f e → RebuildStays keeper fs fs' first new b
      stays_rootless e (no_room {roomy} room rest same memory) = subst (λ (x : Parts). RebuildStays keeper fs fs' first x b) (sym rest)
          (subst (λ (k : K). RebuildStays keeper fs k first (with_roots dead roomy) b) (sym same) (ready_stays roomy room))
      stays_rootless e (stopped {roomy} room built none stops few) = grown_stays roomy room left is built

      pub rootless_refused : (e : Refused) → GetsNoRoot keeper fs fs' dead new b f e
          → BuildRefused M (keeper.right fs') first new b before (counts_by keeper fs') e
      rootless_refused e (no_room {roomy} room rest same memory) =
          subst (λ (x : Parts). BuildRefused M (keeper.right fs') first x b before (counts_by keeper fs') e) (sym rest)
          (subst (λ (k : K). BuildRefused M (keeper.right k) first (with_roots dead roomy) b before (counts_by keeper k) e) (sym same)
          (subst (λ (x : Refused). BuildRefused M right first (with_roots dead roomy) b before before x) (sym memory)
          (unbuilt {count = dead.arena.given} (stops_roomless roomy room) refl given_first tt (dead_few right) tt)))
      rootless_refused e (stopped {roomy} room built none stops few) =
          unbuilt {count = dead.arena.given} (stops_building roomy room left is built none) built.calls given_first stops
          (spends_few roomy room left is built none few) (spends_full roomy room left is built none few e stops)

    -- there is no right side of Invalid
    module _ (is : given ≡ Invalid) where
      no_more : RoseBy before.builds (builds_of given) before.builds
      no_more = subst (λ (o : Outcome). RoseBy before.builds (builds_of o) before.builds) (sym is) none_yet

      has_none : HasRoot M.functions dead.arena b f captures given None
      has_none = subst (λ (o : Outcome). HasRoot M.functions dead.arena b f captures o None) (sym is)
          (no_root_built M.functions dead.arena b f captures asks_empty)

      run_none : (new : Work) → IsSettledOn dead.work new b given → IsRebuilt dead.work new b given None
      run_none new on =
          settled_rebuilt dead.work new dead.work.roots b given None (no_root_put dead.work b h.died.own_root) on.rows on.graph on.heap on.rest

      builds_none : (new : Work) → IsSettledOn dead.work new b given → BuildsAnew M first (record dead { work = new }) b before before
      builds_none new on z s begun quiet stands =
          builds_anew M old cut dead dead b f captures given before h.kept.work h.to h.own h.cuts h.died (none_grown dead b h.lasts.work) h.lasts.work
          calls_fit before refl (no_adds dead.arena.given before.adds) no_more (record dead { work = new }) refl None (run_none new on) own_dead
          has_none z s begun quiet (h.from before s stands)

      kept_none : (new : Work) → IsSettledOn dead.work new b given → PartsKept (record dead { work = new })
      kept_none new on = record {
        work = rebuilt_kept dead.arena dead.work new b given None h.lasts.work (run_none new on) own_dead on.step
            (ap (λ (x : Work). x.pairs) on.rest) (ap (λ (x : Work). x.scoped) on.rest) h.to.row (same_row ∙ h.to.is_row) h.to.left f captures
            h.to.is_bind (λ m e. absurd (none-some m e)) (λ some. absurd (cc));
        scopes = h.lasts.scopes;
        dying = h.lasts.dying;
        clock = h.lasts.clock;
        listing = h.lasts.listing;
      }

      pub settles_none : IsToSettle keeper fs fs first dead b given
      settles_none = record {
        builds = builds_none;
        kept = kept_none;
        step = h.lasts.work.step;
        gives = let same = given_same in none_gives first.arena.given dead.arena (omega (arith, same));
      }
