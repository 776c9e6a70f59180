use Rattle.generated_script.proofs.Appending.{four_numbers}
use Rattle.generated_script.proofs.tally.Tally.append_counts.Goals as goal

pub returns : goal.returns
returns c =
    rw (← c.self.view_is) (four_numbers _ _ _ _ _ _ _ _ _ _ _ _ _ _ _
    c.in_ok-add_number.ensures c.in_ok-add_number-2.ensures c.in_ok-add_number-3.ensures c.in_ok-add_number-4.ensures
    c.in_ok-extend_from_slice.ensures.items)
