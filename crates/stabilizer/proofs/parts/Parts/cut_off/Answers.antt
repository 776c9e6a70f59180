use Rattle.std.proofs.Common.{sym, subst}
use Rattle.stabilizer.specs.Dying.{IsInvalidated}
use Rattle.stabilizer.specs.Kept.{PartsKept}
use Rattle.stabilizer.specs.declared.parts.Parts.{Parts}
use Rattle.stabilizer.proofs.Killing.CuttingOff.{begun_kept, cut_off, cut_standing}
use Rattle.stabilizer.proofs.parts.Parts.cut_off.Goals as goal

pub invalidate-requires-clause-kept : goal.invalidate-requires-clause-kept
invalidate-requires-clause-kept c =
    subst PartsKept (sym c.detach.ensures.rest)
    (begun_kept c.args.self.now c.args.bind c.requires.kept c.requires.taken.row c.requires.taken.needed c.detach.new.self.work c.detach.ensures.detached)

module _ (c : goal.After-invalidate) where
  invalidated : IsInvalidated (record c.args.self.now { work = c.detach.new.self.work }) c.invalidate.new.self c.args.bind
  invalidated = subst (λ (x : Parts). IsInvalidated x c.invalidate.new.self c.args.bind) c.detach.ensures.rest c.invalidate.ensures

pub returns-clause-cut : goal.returns-clause-cut
returns-clause-cut c = cut_off c.args.self.now c.args.bind c.requires.kept c.requires.taken.row c.requires.taken.needed c.detach.new.self.work
    c.detach.ensures.detached c.invalidate.new.self (invalidated c)

pub returns-clause-dying : goal.returns-clause-dying
returns-clause-dying c = (invalidated c).dying

pub returns-clause-few : goal.returns-clause-few
returns-clause-few c = (invalidated c).few

pub returns-clause-scopes : goal.returns-clause-scopes
returns-clause-scopes c = cut_standing c.args.self.now c.args.bind c.requires.kept c.requires.taken.row c.requires.taken.needed c.detach.new.self.work
    c.detach.ensures.detached c.invalidate.new.self (invalidated c)
