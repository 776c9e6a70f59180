use Rattle.std.proofs.Common.{refl}
use Rattle.stabilizer.specs.declared.parts.Parts.{Parts}
use Rattle.stabilizer.proofs.Building.Disowning.{may_leave, has_disowned}
use Rattle.stabilizer.proofs.parts.Parts.disown_since.Goals as goal

pub drop_entered-requires : goal.drop_entered-requires
drop_entered-requires c = record { ready = may_leave c.args.self.now c.args.bind c.args.count c.requires.ready }

pub returns : goal.returns
returns c =
    let left = c.drop_entered.new.self in
    let f = c.forget_since.ensures in
    let new : Parts = record left { work = c.forget_since.new.self; arena = c.drop_since.new.arena } in record {
      disowned = has_disowned c.args.self.now c.args.bind c.args.count c.requires.ready left c.drop_entered.ensures.left new f.rest (λ n h _ x. f.kept n h x) (λ n h _ x. f.kept_scoped n h x)
          f.forgotten f.forgotten_scoped c.drop_since.ensures.drops refl refl refl refl;
    }
