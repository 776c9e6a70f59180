use Rattle.stabilizer.proofs.Building.Disowning.{dropping_begins, dropping_more, drops_since}
use Rattle.stabilizer.proofs.build.drop_since.Goals as goal

pub loop-node-init : goal.loop-node-init
loop-node-init c = record { so = dropping_begins c.args.arena.now c.args.count c.requires.sound c.requires.later }

pub loop-node-preserved : goal.loop-node-preserved
loop-node-preserved c =
    let d = c.drop_node.ensures in record {
      so = dropping_more c.args.arena.now c.loop-node.arena c.args.count c.loop-node.next c.loop-node.invariant.so c.in-Some.node c.in-Some.ensures.some
          c.drop_node.new.self d.dropped d.live d.given d.sound;
    }

pub returns : goal.returns
returns c = record {
  drops = drops_since c.args.arena.now c.loop-node.arena c.args.count c.loop-node.next c.loop-node.invariant.so c.in_default.ensures.none;
}
