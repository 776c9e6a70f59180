use Rattle.std.proofs.Common.{◌≡◌, ◌++◌, refl, sym, ap, subst}
use Rattle.stabilizer.specs.Round.{AreRooted}
use Rattle.inc_value.specs.declared.node.Point.{Point}
use Rattle.inc_terms.specs.Depend.{main}
use Rattle.necessary_graph.specs.Sweep.{IsUnrooted}
use Rattle.stabilizer.specs.declared.parts.Parts.{Parts}
use Rattle.wiring.specs.Graph.{rowless}
use Rattle.wiring.specs.declared.work.Work.{Work}
use Rattle.stabilizer.proofs.Between.Unrooting.{root_less, still_rooted, unrooted_parts, unrooted_ready}
use Rattle.stabilizer.proofs.parts.Parts.unroot.Goals as goal

module _ (c : goal.After-root_off) where
  abbrev old : Parts
  old = c.args.self.now

  abbrev new : Parts
  new = record old { work = c.root_off.new.self }

  rest : new ≡ record old { work = record old.work { graph = c.root_off.new.self.graph } }
  rest = ap (λ (w : Work). record old { work = w }) c.root_off.ensures.rest

  off : IsUnrooted (rowless old.work) old.work.graph c.root_off.new.self.graph (main c.args.id)
  off = subst (λ (p : Point). IsUnrooted (rowless old.work) old.work.graph c.root_off.new.self.graph p) c.main.ensures
      c.root_off.ensures.unrooted

pub returns : goal.returns
returns c =
    record {
      unrooted = off c;
      roots = root_less (old c).work c.root_off.new.self.graph c.args.id (off c);
      rooted = λ since before after all. subst (λ (w : Work). AreRooted (old c).arena w since (before ++ after)) (sym c.root_off.ensures.rest)
          (still_rooted (old c).work c.root_off.new.self.graph c.args.id (off c) (old c).arena since before after all);
      arena = refl;
      rows = ap (λ (x : Work). x.rows) c.root_off.ensures.rest;
      right_sides = ap (λ (x : Work). x.roots) c.root_off.ensures.rest;
      experts = ap (λ (x : Work). x.experts) c.root_off.ensures.rest;
      ran = refl;
      kept = unrooted_parts (old c) (new c) c.args.id (off c) c.requires.kept c.root_off.ensures.step (rest c);
      ready = unrooted_ready (old c) (new c) c.args.id (off c) c.requires.kept c.root_off.ensures.step (rest c);
    }
