use Rattle.script_model.specs.Formula.{meanings_of}
use Rattle.formula_lang.proofs.checking.command_of.Goals as goal

pub returns-in-Var : goal.returns-in-Var
returns-in-Var g c = rw c.in-Var.is (c.variable.ensures (meanings_of (g.L.Library.named c.args.library.now) (g.L.Library.value c.args.library.now)))

pub returns-in-Set : goal.returns-in-Set
returns-in-Set g c = rw c.in-Set.is (c.assignment.ensures (meanings_of (g.L.Library.named c.args.library.now) (g.L.Library.value c.args.library.now)))

pub returns-in-Grab : goal.returns-in-Grab
returns-in-Grab g c = rw c.in-Grab.is (c.grab.ensures (meanings_of (g.L.Library.named c.args.library.now) (g.L.Library.value c.args.library.now)))

pub returns-in-Observe : goal.returns-in-Observe
returns-in-Observe g c = rw c.in-Observe.is
    (c.observation.ensures (meanings_of (g.L.Library.named c.args.library.now) (g.L.Library.value c.args.library.now)))

pub returns-in-Show : goal.returns-in-Show
returns-in-Show g c = rw c.in-Show.is (c.showing.ensures
    (meanings_of (g.L.Library.named c.args.library.now) (g.L.Library.value c.args.library.now)) c.args.names.now)

pub returns-in-Unobserve : goal.returns-in-Unobserve
returns-in-Unobserve g c = rw c.in-Unobserve.is (c.ending.ensures
    (meanings_of (g.L.Library.named c.args.library.now) (g.L.Library.value c.args.library.now)) c.args.names.now)

pub returns-in-Watch : goal.returns-in-Watch
returns-in-Watch g c = rw c.in-Watch.is (c.watching.ensures
    (meanings_of (g.L.Library.named c.args.library.now) (g.L.Library.value c.args.library.now)) c.args.names.now)

pub returns-in-Link : goal.returns-in-Link
returns-in-Link g c = rw c.in-Link.is (c.linking.ensures (meanings_of (g.L.Library.named c.args.library.now) (g.L.Library.value c.args.library.now)))

pub returns-in-Unlink : goal.returns-in-Unlink
returns-in-Unlink g c = rw c.in-Unlink.is (c.unlinking.ensures (meanings_of (g.L.Library.named c.args.library.now) (g.L.Library.value c.args.library.now)))

pub returns-in-Stale : goal.returns-in-Stale
returns-in-Stale g c = rw c.in-Stale.is (c.renewal.ensures (meanings_of (g.L.Library.named c.args.library.now) (g.L.Library.value c.args.library.now)))
