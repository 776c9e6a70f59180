-- A round that is refused stops as the machine says, whatever was refused, and who died in it is told by the nodes before and then.
use Rattle.std.proofs.Common.{◌≡◌, inl, inr, ℕ, None, refl, ap, arith}
use Rattle.inc_value.specs.Choice.{here}
use Rattle.inc_value.specs.declared.function.FnRef.{FnRef}
use Rattle.node_arena.specs.RightSide.{RightSide}
use Rattle.node_outcomes.specs.Meaning.{Meaning}
use Rattle.stabilize_round.specs.Invariant.{Invariant}
use Rattle.stabilize_round.specs.Machine.{Move, Moves, as_it_is, called_more}
use Rattle.stabilize_round.specs.State.{State}
use Rattle.stabilize_round.proofs.Machine.{moves_keep}
use Rattle.stabilize_round.proofs.Runs.{run_grows}
use Rattle.stabilize_round.proofs.Steps.{joined, wired_moves}
use Rattle.wiring.specs.Kept.{IsKept}
use Rattle.wiring.specs.Refusing.{no_memory}
use Rattle.wiring.specs.Stands.{Counts, MatchesState}
use Rattle.wiring.specs.Wiring.{PutsRoots, RootRefused, WireRefused, Wires}
use Rattle.wiring.specs.declared.refused.Refused.{Refused}
use Rattle.wiring.specs.declared.refused.Refused.TheVariants.{Memory}
use Rattle.wiring.specs.declared.work.Work.{Work}
use Rattle.stabilizer.specs.Giving.{StopsFull}
use Rattle.stabilizer.specs.Kept.{PartsKept}
use Rattle.stabilizer.specs.Round.{IsReady, Pauses, SettleRefused, died_by}
use Rattle.stabilizer.specs.declared.parts.Parts.{Parts}
use Rattle.stabilizer.proofs.Round.Began.{round_on}
use Rattle.stabilizer.proofs.Round.Beginning.{Begun, BegunOf, begun_of}
use Rattle.stabilizer.proofs.Change.Steps.{why_full}
use Rattle.stabilizer.proofs.Round.Ending.{died_same}

-- a round that was refused, from what it begins with
pub record IsPaused (M : Meaning) (old new : Parts) (before after : Counts) (e : Refused) : Type 0 where
  pub first : PartsKept old
  pub begins : BegunOf M old before
  pub kept : PartsKept new
  pub pauses : Pauses M.functions begins.begun.start begins.begun.state new after e

module _ (M : Meaning) (old : Parts) (before : Counts) (ready : IsReady M old) where
  abbrev begins : BegunOf M old before
  begins = begun_of M old ready before

  abbrev b : Begun M.functions old before
  b = begins.begun

  -- before anything was done
  pub none_paused : IsPaused M old old before before Memory
  none_paused = record {
    first = ready.kept;
    begins = begins;
    kept = ready.kept;
    pauses = record {
      before = b.state;
      state = b.state;
      left = None;
      moves = here;
      stops = as_it_is refl;
      stands = b.stands;
      told = inl (ap (λ (k : ℕ). called_more b.state k) (ap (λ (c : Counts). c.calls) b.stands.counts), no_memory);
    };
  }

  -- links that were owed were refused
  pub wires_paused : (wired : Work) (e : Refused) → WireRefused old.arena old.work wired None e → IsKept old.arena wired
      → IsPaused M old (record old { work = wired }) before before e
  wires_paused wired e refused kept =
      let k = refused M.functions b.start b.state before begins.round.holds b.stands b.unlinked in
      record {
        first = ready.kept;
        begins = begins;
        kept = record { work = kept; scopes = ready.kept.scopes; dying = ready.kept.dying; clock = ready.kept.clock; listing = ready.kept.listing };
        pauses = record {
          before = k.0;
          state = k.0;
          left = k.1;
          moves = wired_moves M.functions b.start b.state k.0 k.2;
          stops = as_it_is refl;
          stands = k.3;
          told = inl (ap (λ (c : ℕ). called_more k.0 c) (ap (λ (c : Counts). c.calls) k.3.counts), k.4);
        };
      }

  -- and not as full
  pub wires_full : (wired : Work) (e : Refused) → WireRefused old.arena old.work wired None e → (right : FnRef → RightSide)
      → StopsFull right old.arena before before e
  wires_full wired e refused right =
      let k = refused M.functions b.start b.state before begins.round.holds b.stands b.unlinked in
      why_full M.functions k.0 wired k.1 e k.4 right old.arena before before

  -- they were put on
  module _ (wired : Work) (wires : Wires old.arena old.work wired None) where
    linked : (l : State) × Moves M.functions b.start b.state l × Invariant M.functions b.start l × MatchesState old.arena wired before None l
    linked =
        let l = wires M.functions b.start b.state before begins.round.holds b.stands b.unlinked in
        let run = wired_moves M.functions b.start b.state l.0 l.1 in
        (l.0, run, moves_keep M.functions b.start b.state l.0 run begins.round.holds, l.2)

    -- a root or its links were refused
    pub roots_paused : (rooted : Work) (e : Refused) → RootRefused old.arena wired rooted e → IsKept old.arena rooted
        → IsPaused M old (record old { work = rooted }) before before e
    roots_paused rooted e refused kept =
        let l = linked in
        let k = refused M.functions b.start l.0 before l.2 l.3 in
        record {
          first = ready.kept;
          begins = begins;
          kept = record { work = kept; scopes = ready.kept.scopes; dying = ready.kept.dying; clock = ready.kept.clock; listing = ready.kept.listing };
          pauses = record {
            before = k.0;
            state = k.0;
            left = k.1;
            moves = joined (Move M.functions b.start) b.state l.0 k.0 l.1 k.2;
            stops = as_it_is refl;
            stands = k.3;
            told = inl (ap (λ (c : ℕ). called_more k.0 c) (ap (λ (c : Counts). c.calls) k.3.counts), k.4);
          };
        }

    -- and not as full
    pub roots_full : (rooted : Work) (e : Refused) → RootRefused old.arena wired rooted e → (right : FnRef → RightSide)
        → StopsFull right old.arena before before e
    roots_full rooted e refused right =
        let l = linked in
        let k = refused M.functions b.start l.0 before l.2 l.3 in
        why_full M.functions k.0 rooted k.1 e k.4 right old.arena before before

    -- a step was refused
    pub steps_paused : (rooted : Work) (new : Parts) (after : Counts) (e : Refused) → PutsRoots old.arena wired rooted
        → SettleRefused M (record old { work = rooted }) new before after e → PartsKept new → IsPaused M old new before after e
    steps_paused rooted new after e put refused kept =
        let l = linked in
        let m = put M.functions b.start l.0 before l.2 l.3 in
        let run = joined (Move M.functions b.start) b.state l.0 m.0 l.1 m.1 in
        let k = refused b.start m.0 (round_on M b.start b.state m.0 run begins.round) m.2 in
        record {
          first = ready.kept;
          begins = begins;
          kept = kept;
          pauses = record {
            before = k.before;
            state = k.state;
            left = k.left;
            moves = joined (Move M.functions b.start) b.state m.0 k.before run k.moves;
            stops = k.stops;
            stands = k.stands;
            told = elim k.told [
              | inl why ↦ inl why
              | inr full ↦ inr (full.0, omega (arith, run_grows M.functions b.start b.state m.0 run, full.1), full.2)
            ];
          };
        }

-- who died where it stops
pub paused_died : (M : Meaning) (old new : Parts) (before after : Counts) (e : Refused) (p : IsPaused M old new before after e)
    → p.pauses.state.died ≡ died_by old new
paused_died M old new before after e p =
    let b = p.begins.begun in
    let k = p.pauses in
    died_same M.functions b.start old new before after k.left b.state k.before k.state p.kept.work b.stands b.entry p.begins.round.given k.moves
    k.stops k.stands
