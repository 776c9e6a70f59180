-- The laws.
use Rattle.stabilize_round.specs.Laws.{RoundKeeps, RoundIsRight, StrictIsMet, SettledStays, GivesStay, TakenIsReady, RoundAgain, DeadWereUnsettled}
use Rattle.stabilize_round.specs.Laws.{SettlingFalls, MainsOnce, RestStays, AttachedStays, AgainWakesMain, BuildsOnce}
use Rattle.stabilize_round.proofs.Entry.{entry_holds}
use Rattle.stabilize_round.proofs.Machine.{moves_keep, moves_settled}
use Rattle.stabilize_round.proofs.Confirmed.{strict_depends, strict_met}
use Rattle.std.proofs.Common.{◌≡◌, inl, inr}
use Rattle.inc_value.specs.declared.node.Part.TheVariants.{Change, Main}
use Rattle.inc_terms.specs.Depend.{main}
use Rattle.stabilize_round.proofs.Parts.{bool_cases}
use Rattle.stabilize_round.proofs.Rebuilding.{settled_kept}
use Rattle.stabilize_round.proofs.End.{ended, falls}
use Rattle.stabilize_round.proofs.Staying.{moves_give, moves_rest, attached_stays as attached}
use Rattle.stabilize_round.proofs.Changing.{again_wakes}
use Rattle.stabilize_round.proofs.Builds.{builds_once as once}
use Rattle.stabilize_round.proofs.Ready.{ready}
use Rattle.stabilize_round.proofs.Closing.{begins, ends}

pub round_keeps : RoundKeeps
round_keeps F z s t entry moves = moves_keep F z s t moves (entry_holds F z s entry)

pub round_is_right : RoundIsRight
round_is_right F z s t observed entry moves are quiet empty = ended F z t (round_keeps F z s t entry moves) quiet observed are empty

pub strict_is_met : StrictIsMet
strict_is_met F z s t entry moves strict =
    let inv = round_keeps F z s t entry moves in
    ((λ p q l. strict_depends F z t inv strict p q l), (λ p need. strict_met F z t inv strict p need))

pub settled_stays : SettledStays
settled_stays F z s t moves p h = moves_settled F z s t moves p h

pub gives_stay : GivesStay
gives_stay F z s t moves = moves_give F z s t moves

pub taken_is_ready : TakenIsReady
taken_is_ready F z s t entry moves quiet p taken = ready F z t (round_keeps F z s t entry moves) quiet p taken

pub round_again : RoundAgain
round_again F z s t observed entry moves are quiet empty root' links' needed' move =
    let inv = round_keeps F z s t entry moves in
    (begins F z t inv quiet observed are empty root' links' needed' move, ends F z t inv quiet observed are empty root' links' needed' move)

pub dead_were_unsettled : DeadWereUnsettled
dead_were_unsettled F z s t entry moves b now m move p st i =
    settled_kept F z t (round_keeps F z s t entry moves) b now m move p st i

pub settling_falls : SettlingFalls
settling_falls F z s t moves points p among was now = falls s.settled t.settled p points (λ q h. moves_settled F z s t moves q h) was now among

pub mains_once : MainsOnce
mains_once F z s t entry moves n h = elim (bool_cases (t.settled (main n))) [
  | inr e ↦ e
  | inl e ↦ absurd (let x : Main ≡ Change = (round_keeps F z s t entry moves).settled.twice (main n) e h in cc)
]

pub rest_stays : RestStays
rest_stays F z s t moves = moves_rest F z s t moves

pub attached_stays : AttachedStays
attached_stays F z s t m not n h = attached F z s t m not n h

pub again_wakes_main : AgainWakesMain
again_wakes_main F z s t entry moves quiet n o todo' move st a woken =
    again_wakes F z t (round_keeps F z s t entry moves) quiet n o todo' move st a (move.woken a woken)

pub builds_once : BuildsOnce
builds_once F z s t u b o todo' r l f caps entry moves quiet move row def given later now due =
    once F z t u (round_keeps F z s t entry moves) b o todo' r l f caps quiet move row def given later now due
