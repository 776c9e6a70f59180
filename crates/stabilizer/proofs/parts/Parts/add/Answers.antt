use Rattle.inc_terms.specs.Code.{def_of}
use Rattle.node_arena.specs.declared.arena.AddFault.TheVariants.{Memory}
use Rattle.stabilizer.proofs.Between.Added.{says_added, says_nothing, nothing_tried}
use Rattle.stabilizer.proofs.parts.Parts.add.Goals as goal

pub returns-in-Err-clause-adds : goal.returns-in-Err-clause-adds
returns-in-Err-clause-adds c =
    let old = c.args.self.now in
    says_nothing old old _ (def_of c.args.def) c.args.ty (nothing_tried old c.requires.kept)

pub returns-in-Ok-clause-adds : goal.returns-in-Ok-clause-adds
returns-in-Ok-clause-adds c = says_added c.args.self.now c.place.new.self _ (def_of c.args.def) c.args.ty c.next_id-id.ensures.generation c.in-Ok.ensures.placed

pub returns-in-Err-place-clause-adds : goal.returns-in-Err-place-clause-adds
returns-in-Err-place-clause-adds c =
    says_nothing c.args.self.now c.place.new.self Memory (def_of c.args.def) c.args.ty c.in-Err-place.ensures.left
