use Rattle.std.proofs.Common.{◌≡◌, ◌+◌, drop}
use Rattle.script_model.specs.Formula.{places_in_all}
use Rattle.formula_elab.proofs.LaidInTurn.{in_view}
use Rattle.session.proofs.places.+room.Given as goal

abbrev pub invariant-room_behind_each-loop-formula : goal.invariant-room_behind_each-loop-formula
invariant-room_behind_each-loop-formula l = l.left + places_in_all (in_view l.formulas) ≡ l.room + places_in_all
    (in_view (drop l.formula-index l.formulas))
