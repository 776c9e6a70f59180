use Rattle.std.proofs.Common.{refl, subst}
use Rattle.inc_value.specs.declared.node.Point.{Point}
use Rattle.inc_terms.specs.Depend.{main}
use Rattle.node_outcomes.specs.Row.{IsRewritten, with_cutoff}
use Rattle.stabilizer.specs.declared.parts.Parts.{Parts}
use Rattle.stabilizer.proofs.Between.Cutting.{cut_parts, cut_ready}
use Rattle.stabilizer.proofs.parts.Parts.set_cutoff.Goals as goal

module _ (c : goal.After-set_cutoff) where
  abbrev old : Parts
  old = c.args.self.now

  abbrev new : Parts
  new = record old { work = record old.work { rows = c.set_cutoff.new.rows } }

  cut : IsRewritten old.work.rows c.set_cutoff.new.rows (main c.args.id) (with_cutoff c.args.cutoff)
  cut = subst (λ (p : Point). IsRewritten old.work.rows c.set_cutoff.new.rows p (with_cutoff c.args.cutoff)) c.main-p.ensures
      c.set_cutoff.ensures

pub returns-then-holds-clause-kept : goal.returns-then-holds-clause-kept
returns-then-holds-clause-kept c = cut_parts (old c) (new c) c.args.id c.args.cutoff c.requires.kept (cut c) refl

pub returns-then-holds-clause-ready : goal.returns-then-holds-clause-ready
returns-then-holds-clause-ready c M ready = cut_ready (old c) (new c) c.args.id c.args.cutoff c.requires.kept (cut c) refl M ready
