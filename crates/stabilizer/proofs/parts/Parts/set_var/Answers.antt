use Rattle.std.proofs.Common.{◌≡◌, sym, ap, subst}
use Rattle.inc_value.specs.declared.node.Point.{Point}
use Rattle.inc_terms.specs.Depend.{main}
use Rattle.inc_terms.specs.Within.{Given, ValueWithin}
use Rattle.node_arena.specs.Arena.{Arena, IsVariable}
use Rattle.wiring.specs.Wiring.{IsMarked}
use Rattle.wiring.specs.declared.work.Work.{Work}
use Rattle.stabilizer.specs.Between.{StaysButHeap}
use Rattle.stabilizer.specs.declared.parts.Parts.{Parts}
use Rattle.stabilizer.proofs.Between.Setting.{set_parts, set_ready}
use Rattle.stabilizer.proofs.parts.Parts.set_var.Goals.{In-Err}
use Rattle.stabilizer.proofs.parts.Parts.set_var.Goals as goal

-- ---- it was set

module _ (c : goal.After-schedule) where
  abbrev old : Parts
  old = c.args.self.now

  abbrev new : Parts
  new = record old { arena = c.set_var.new.self; work = c.schedule.new.self }

  rest : new ≡ record old { arena = c.set_var.new.self; work = record old.work { graph = c.schedule.new.self.graph } }
  rest = ap (λ (w : Work). record old { arena = c.set_var.new.self; work = w }) c.schedule.ensures.rest

  marked : IsMarked old.work.graph c.schedule.new.self.graph (main c.args.id)
  marked = subst (λ (p : Point). IsMarked old.work.graph c.schedule.new.self.graph p) c.main.ensures c.schedule.ensures.scheduled

  not_other : (IsVariable old.arena c.args.id → ⊥) → ⊥
  not_other isnt = absurd (
      let named : (Given old.arena.given c.args.id × ValueWithin (Given old.arena.given) c.args.value) → ⊥ =
      λ given. absurd (let e = c.in-Ok.ensures.not_var.1 (given.0, given.1, isnt) in cc) in
      let e = c.in-Ok.ensures.unknown.1 named in cc)

pub returns-in-Ok-clause-stays : goal.returns-in-Ok-clause-stays
returns-in-Ok-clause-stays c =
    let s = c.schedule.ensures in
    let m = c.in-Ok.ensures in
    let rows = ap (λ (x : Work). x.rows) s.rest in
    let right_sides = ap (λ (x : Work). x.roots) s.rest in
    let experts = ap (λ (x : Work). x.experts) s.rest in
    let kept = set_parts (old c) (new c) c.args.id c.args.value c.requires.kept m.set (not_other c) m.given (marked c) s.step m.sound (rest c) in
    let ready = set_ready (old c) (new c) c.args.id c.args.value c.requires.kept m.set (not_other c) m.given (marked c) s.step m.sound (rest c) in
    assumption (rows, right_sides, experts, kept, ready, m, s)

-- ---- it was refused

same : (c : In-Err) → record c.args.self.now { arena = c.set_var.new.self } ≡ c.args.self.now
same c = ap (λ (a : Arena). record c.args.self.now { arena = a }) c.in-Err.ensures.err

pub returns-in-Err-clause-err : goal.returns-in-Err-clause-err
returns-in-Err-clause-err c = same (goal.at.returns-in-Err-clause-err c).In-Err

pub returns-in-Err-clause-stays : goal.returns-in-Err-clause-stays
returns-in-Err-clause-stays c =
    let old = c.args.self.now in
    subst (StaysButHeap old) (sym (same (goal.at.returns-in-Err-clause-stays c).In-Err)) (assumption (c.requires.kept))
