use Rattle.std.proofs.Common.{◌≡◌, subst, IfOk}
use Rattle.inc_value.specs.Value.{type_of}
use Rattle.closures.specs.Tables.{MapMeaning}
use Rattle.closures.proofs.Tables.{map_raised, map_same, means_read, read_is}
use Rattle.closures.proofs.table.apply_at.Goals as goal

pub apply_box-requires : goal.apply_box-requires
apply_box-requires g c =
    record { fit = c.requires.fit _ (means_read _ _ _ _ c.requires.within c.index_mut.ensures.value) }

pub returns-clause-value : goal.returns-clause-value
returns-clause-value g c m there =
    subst (λ (x : MapMeaning). IfOk c.apply_box.result (λ v. v ≡ x.value c.args.args.now))
    (read_is _ _ _ _ c.requires.within c.index_mut.ensures.value m there) c.apply_box.ensures.value

pub returns-clause-typed : goal.returns-clause-typed
returns-clause-typed g c m there =
    subst (λ (x : MapMeaning). IfOk c.apply_box.result (λ v. type_of v ≡ x.sig.gives))
    (read_is _ _ _ _ c.requires.within c.index_mut.ensures.value m there) c.apply_box.ensures.typed

pub returns-clause-same : goal.returns-clause-same
returns-clause-same g c = map_same _ _ _ _ c.requires.within c.index_mut.ensures.value _ c.apply_box.ensures.same

pub returns-clause-called : goal.returns-clause-called
returns-clause-called g c = map_raised _ _ _ _ c.requires.within c.index_mut.ensures.value _ c.apply_box.ensures.called
