use Rattle.std.proofs.Common.{subst, IfOk}
use Rattle.node_arena.specs.Building.{Grows}
use Rattle.node_arena.specs.RightSide.{IsRoot}
use Rattle.closures.specs.Tables.{SideMeaning}
use Rattle.closures.proofs.Tables.{map_raised, map_same, means_read, read_is}
use Rattle.closures.proofs.table.build_at.Goals as goal

pub build_box-requires : goal.build_box-requires
build_box-requires g c =
    record { ready = c.requires.ready _ (means_read _ _ _ _ c.requires.within c.index_mut.ensures.value) }

pub returns-clause-grows : goal.returns-clause-grows
returns-clause-grows g c m there =
    subst (λ (x : SideMeaning). Grows x.side.uses c.args.builder.now c.build_box.new.builder x.side.size)
    (read_is _ _ _ _ c.requires.within c.index_mut.ensures.value m there) c.build_box.ensures.grows

pub returns-clause-root : goal.returns-clause-root
returns-clause-root g c m there =
    subst (λ (x : SideMeaning). IfOk c.build_box.result
    (λ n. IsRoot c.build_box.new.builder c.args.captures.now n (x.side.term c.args.left.now) x.sig.gives))
    (read_is _ _ _ _ c.requires.within c.index_mut.ensures.value m there) c.build_box.ensures.root

pub returns-clause-same : goal.returns-clause-same
returns-clause-same g c = map_same _ _ _ _ c.requires.within c.index_mut.ensures.value _ c.build_box.ensures.same

pub returns-clause-called : goal.returns-clause-called
returns-clause-called g c = map_raised _ _ _ _ c.requires.within c.index_mut.ensures.value _ c.build_box.ensures.called
