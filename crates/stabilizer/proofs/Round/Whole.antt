-- A whole round: from where it begins over links that were owed and its roots to where its steps end.
use Rattle.std.proofs.Common.{List, None, ◌∙◌, arith}
use Rattle.inc_terms.specs.Term.{Functions}
use Rattle.node_outcomes.specs.Meaning.{Meaning}
use Rattle.observers.specs.declared.observer.Observer.{Observer}
use Rattle.stabilize_round.specs.Machine.{Move, Moves}
use Rattle.stabilize_round.specs.State.{State}
use Rattle.stabilize_round.proofs.Machine.{moves_keep}
use Rattle.stabilize_round.proofs.Steps.{joined, wired_moves}
use Rattle.wiring.specs.Stands.{MatchesState, Counts}
use Rattle.wiring.specs.Wiring.{PutsRoots, SettlesNone, Wires}
use Rattle.wiring.proofs.Sight.{sees}
use Rattle.wiring.proofs.Unsettling.{wired_none}
use Rattle.wiring.specs.declared.work.Work.{Work}
use Rattle.stabilizer.specs.Round.{IsReady, IsInRound, Settles}
use Rattle.stabilizer.specs.Telling.{HasOpened, LookAtGiven, ShowAsSeen}
use Rattle.stabilizer.specs.declared.parts.Parts.{Parts}
use Rattle.stabilizer.proofs.Round.Began.{round_on}
use Rattle.stabilizer.proofs.Round.Beginning.{Begun, BegunOf, begun_of}
use Rattle.stabilizer.proofs.Round.Telling.{among_used}

module _ (M : Meaning) (old : Parts) (wired rooted : Work) (before : Counts) (ready : IsReady M old) (wires : Wires old.arena old.work wired None)
    (put : PutsRoots old.arena wired rooted) where
  abbrev pub F : Functions
  F = M.functions

  abbrev pub begins : BegunOf M old before
  begins = begun_of M old ready before

  abbrev pub first : Begun F old before
  first = begins.begun

  -- what was owed was linked, and roots were put on
  abbrev pub middle : Parts
  middle = record old { work = rooted }

  after_roots : (w : State) × Moves F first.start first.state w × MatchesState old.arena rooted before None w × SettlesNone first.state w
  after_roots =
      let l = wires F first.start first.state before begins.round.holds first.stands first.unlinked in
      let linked = wired_moves F first.start first.state l.0 l.1 in
      let w = put F first.start l.0 before (moves_keep F first.start first.state l.0 linked begins.round.holds) l.2 in (
        w.0,
        joined (Move F first.start) first.state l.0 w.0 linked w.1,
        w.2,
        λ q. w.3 q ∙ wired_none F first.start first.state l.0 l.1 q,
      )

  pub in_round : IsInRound M middle before
  in_round =
      let w = after_roots in
      record { start = first.start; state = w.0; round = round_on M first.start first.state w.0 w.1 begins.round; stands = w.2 }

  -- nothing was settled yet, and observers show what is seen
  pub opened : (made : List Observer) → LookAtGiven old made → ShowAsSeen old made → HasOpened M middle before made
  opened made looks shows =
      let w = after_roots in
      record {
        start = first.start;
        first = first.state;
        state = w.0;
        entry = first.entry;
        moves = w.1;
        round = round_on M first.start first.state w.0 w.1 begins.round;
        stands = w.2;
        unsettled = λ p. w.3 p ∙ first.entry.settled p;
        showed = λ o x among used shown. (
          (let g = looks o.node (among_used made o among used) in let e = first.stands.given in omega (arith, g, e)),
          sees first.state old.arena old.work before ready.kept.work first.stands o.node ∙ shows o x among used shown,
        );
      }

  -- steps were made
  pub after_steps : (settled : Parts) (after : Counts) → Settles M middle settled before after
      → (t : State) × Moves F first.start first.state t × MatchesState settled.arena settled.work after None t
  after_steps settled after steps =
      let w = after_roots in
      let k = steps first.start w.0 (round_on M first.start first.state w.0 w.1 begins.round) w.2 in
      (k.0, joined (Move F first.start) first.state w.0 k.0 w.1 k.1, k.2)
