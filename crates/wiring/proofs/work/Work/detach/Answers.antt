use Rattle.std.proofs.Common.{inl, inr, refl}
use Rattle.wiring.proofs.Deciding.{not_both}
use Rattle.wiring.proofs.Detaching.{entered_change, attached_as, attached_still, detached_rest}
use Rattle.wiring.proofs.work.Work.detach.Goals as goal

pub returns-then-is_attached-clause-detached : goal.returns-then-is_attached-clause-detached
returns-then-is_attached-clause-detached c =
    let marked = entered_change c.args.self.now.graph c.insert.new.self c.args.node c.change.result c.change.ensures c.requires.step
    c.requires.needed c.insert.ensures.inserted c.insert.ensures.rest in
    record {
      mid = record c.args.self.now { graph = c.insert.new.self };
      marked = marked;
      rest = refl;
      detached = inr (
        c.drop_right.ensures.detached,
        attached_as c.args.self.now (record c.args.self.now { graph = c.insert.new.self }) c.args.node refl marked.graph
            (c.is_attached.ensures.0 c.if-is_attached.true),
      );
    }

pub returns-then-is_attached-clause-rest : goal.returns-then-is_attached-clause-rest
returns-then-is_attached-clause-rest c =
    detached_rest c.args.self.now (record c.args.self.now { graph = c.insert.new.self }) c.drop_right.new.self c.args.node _ refl c.drop_right.ensures.detached

pub returns-else-is_attached-clause-detached : goal.returns-else-is_attached-clause-detached
returns-else-is_attached-clause-detached c =
    let marked = entered_change c.args.self.now.graph c.insert.new.self c.args.node c.change.result c.change.ensures c.requires.step
    c.requires.needed c.insert.ensures.inserted c.insert.ensures.rest in
    record {
      mid = record c.args.self.now { graph = c.insert.new.self };
      marked = marked;
      rest = refl;
      detached = inl (
        refl,
        λ a. not_both c.is_attached.result c.if-is_attached.false (c.is_attached.ensures.1
            (attached_still c.args.self.now (record c.args.self.now { graph = c.insert.new.self }) c.args.node refl marked.graph a)),
      );
    }

pub drop_right-requires-clause-attached : goal.drop_right-requires-clause-attached
drop_right-requires-clause-attached c = c.is_attached.ensures.0 c.if-is_attached.true
