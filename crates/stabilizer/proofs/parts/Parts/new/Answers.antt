use Rattle.std.proofs.Common.{sym, ◌∙◌, arith}
use Rattle.std.proofs.lemmas.Option.{none-some}
use Rattle.stabilizer.specs.Kept.{PartsKept}
use Rattle.stabilizer.specs.declared.parts.Parts.{Parts}
use Rattle.stabilizer.proofs.Between.Alone.{empty_kept, empty_between, empty_scopes, empty_ready}
use Rattle.stabilizer.proofs.parts.Parts.new.Goals as goal

abbrev parts : (c : goal.After-new-6) → Parts
parts c = record {
  alloc = c.args.alloc;
  arena = c.new.result;
  timed = c.new-2.result;
  scopes = c.new-3.result;
  work = c.new-4.result;
  dying = c.new-5.result;
  ran = c.new-6.result;
}

kept : (c : goal.After-new-6) → PartsKept (parts c)
kept c = let w = c.new-4.ensures in let t = c.new-2.ensures in record {
  work = empty_kept c.new.result c.new-4.result c.new.ensures.sound w.step c.new.ensures.empty w.rows w.heights w.links w.heap w.right_sides w.experts w.died
      c.new.ensures.live;
  scopes = empty_scopes c.new.result c.new-3.result c.new.ensures.empty c.new-3.ensures.standing c.new-3.ensures.killed;
  dying = c.new-5.ensures.items;
  clock = record {
    time = t.time ∙ sym c.new.ensures.time;
    few = (let none = t.taken in omega (arith, none));
    watches = λ n r row before reads. absurd (none-some r (sym (c.new.ensures.empty n) ∙ row));
    alone = λ n def is. absurd (none-some def (sym (t.none n) ∙ is));
    stale = t.stale;
  };
  listing = let none = c.new.ensures.live in omega (arith, none);
}

pub returns-clause-ready : goal.returns-clause-ready
returns-clause-ready c M laws = let w = c.new-4.ensures in empty_ready M (parts c) (kept c) laws c.new.ensures.empty
    (empty_between c.new.result c.new-4.result c.new.ensures.sound w.step c.new.ensures.empty w.rows w.heights w.links w.heap w.right_sides w.experts w.died
    c.new.ensures.live w.ran w.retries w.round M.functions)
