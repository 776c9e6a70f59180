use Rattle.std.proofs.Common.{[], ◌∷◌, codes}
use Rattle.generated_script.proofs.Appending.{two_lines}
use Rattle.generated_script.proofs.text.declare_node.Goals as goal

pub returns-clause-lines : goal.returns-clause-lines
returns-clause-lines c =
    two_lines _ _ _ _ _ _ (codes "let g") _ (codes " add(m, v") _ (codes ")") (codes "observe p") _ (codes " g") _ (10 ∷ [])
    c.in_ok-add_number.ensures (rw (c.below.ensures.number, c.below.ensures.state) at c.in_ok-add_number-2.ensures) c.in_ok-add_number-3.ensures c.in_ok-add_number-4.ensures
    c.in_ok-extend_from_slice.ensures.items
