use Rattle.std.proofs.Common.{rules, ◌≡◌, length}
use Rattle.std.proofs.lemmas.Grind.{common_steps}
use Rattle.std.proofs.lemmas.Slice.Zip.{AllZip-long}
use Rattle.closure_examples.proofs.table.TableRhsFn.build.Goals as goal

pub unreachable-requires : goal.unreachable-requires
unreachable-requires c =
    let three : 3 ≡ length c.args.captures.now = AllZip-long _ c.args.captures.now _ c.requires.ready.taken.1 in
    search (rules, common_steps)
