use Rattle.std.proofs.Common.{ap, inl, None, refl, sym, ◌∙◌}
use Rattle.inc_terms.specs.Depend.{main}
use Rattle.node_outcomes.specs.Meaning.{meaning_of}
use Rattle.stabilize_round.specs.Machine.{as_it_is, called_more}
use Rattle.wiring.specs.Refusing.{no_memory}
use Rattle.wiring.specs.Stands.{Counts}
use Rattle.stabilizer.specs.Kept.{counts_by}
use Rattle.stabilizer.specs.Lacking.{in_telling}
use Rattle.stabilizer.proofs.Round.Telling.{are_current}
use Rattle.stabilizer.proofs.stabilizer.settle_and_tell.Goals as goal

pub settle_all-requires-clause-fresh : goal.settle_all-requires-clause-fresh
settle_all-requires-clause-fresh g c n =
    let opened = c.requires.opened in sym (opened.stands.settled (main n)) ∙ opened.unsettled (main n)

-- observers of nodes that aren't news show what these show
pub tell-requires : goal.tell-requires
tell-requires g c = record {
  current = rw c.news_room.ensures.stay (are_current (meaning_of g.F.Functions c.args.functions.now) c.args.parts.now c.settle_all.new.parts
      (counts_by g.F.Functions c.args.functions.now) (counts_by g.F.Functions c.settle_all.new.functions) c.args.observers.now.made
      c.settle_all.new.news c.add_dead.new.self c.requires.opened c.in-Ok.ensures.settled c.settle_all.ensures.stays.kept.work c.in-Ok.ensures.news
      c.add_dead.ensures.stay c.add_dead.ensures.added);
}

-- where nobody could be told, the round stops behind its last step, as where a next one finds no memory
pub returns-in-Err-tell-clause-refused : goal.returns-in-Err-tell-clause-refused
returns-in-Err-tell-clause-refused g c z s round at =
    let k = c.in-Ok.ensures.settled z s round at in
    record {
      before = k.0;
      state = k.0;
      left = None;
      moves = k.1;
      stops = as_it_is refl;
      stands = k.2;
      told = inl (ap (λ calls. called_more k.0 calls) (ap (λ (x : Counts). x.calls) k.2.counts), no_memory);
    }

pub returns-in-Err-tell-clause-lacks : goal.returns-in-Err-tell-clause-lacks
returns-in-Err-tell-clause-lacks g c = in_telling (record {
  left = c.settle_all.new.parts;
  counts = _;
  settles = c.in-Ok.ensures.settled;
  steps = c.in-Ok.ensures.steps;
  kept = c.settle_all.ensures.stays.kept;
  unwanted = c.in-Ok.ensures.wants;
  heavy = rw (← c.news_room.ensures.stay) c.in-Err-tell.ensures.heavy;
})
