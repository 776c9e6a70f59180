use Rattle.std.proofs.Common.{refl}
use Rattle.graph_tests.proofs.Usable.{usable_lines, library_known, library_makes_none}
use Rattle.graph_tests.proofs.binding.kept.Goals as goal

pub more-requires : goal.more-requires
more-requires c =
    let lines = rw (c.lines.ensures.value, c.draft.ensures.value) at c.if-not-are_usable.ensures in
    record {
      keepable = usable_lines _ _ _ _ (library_known _) (library_makes_none _) c.requires.small _ (lines.0 refl);
    }
