use Rattle.std.proofs.Common.{◌∙◌, ap, arith, drop, length-append, map, sym, true}
use Rattle.expert_nodes.specs.Experts.{IsCreated, fresh_at, kids_at, taken_at}
use Rattle.inc_terms.specs.Depend.{main}
use Rattle.node_outcomes.specs.declared.row.Stage.TheVariants as code
use Rattle.wiring.proofs.Answering.{ends_ok, grows_here, same_places, taken_answers}
use Rattle.wiring.proofs.Gating.{more_wires, stage_rowed}
use Rattle.wiring.proofs.Handing.{expert_main, fresh_behind}
use Rattle.wiring.proofs.Owing.{owes_fresh, owes_none}
use Rattle.wiring.proofs.Reading.{absent_fresh}
use Rattle.wiring.proofs.work.Work.wire_fresh.Goals as goal

-- ---- its node is no expert

pub returns-then-not-holds : goal.returns-then-not-holds
returns-then-not-holds c =
    let old = c.args.self.now in
    let p = c.args.p in
    let full = c.requires.full in
    ends_ok _ c.args.arena.now old old
    (more_wires c.args.arena.now old p (stage_rowed old.rows p code.Full full) c.requires.needed (λ bare. let e = full in cc) (λ gated. let e = full in cc)
    (owes_none old true p (absent_fresh old.experts p.node (sym c.holds.ensures ∙ c.if-not-holds.true))))
    (same_places old) c.requires.kept (grows_here old)

-- ---- it is one

pub connect_listed-requires : goal.connect_listed-requires
connect_listed-requires c =
    let old = c.args.self.now in
    let p = c.args.p in
    let created : IsCreated old.experts p.node = sym c.holds.ensures ∙ c.if-not-holds.false in record {
      main = expert_main c.args.arena.now old p c.requires.kept created (stage_rowed old.rows p code.Full c.requires.full);
      created = created;
      within =
          let all = length-append (taken_at old.experts p.node) (fresh_at old.experts p.node) in
          let taken = c.taken-taken.ensures in
          omega (arith, all, taken);
      needed = c.requires.needed;
      full = c.requires.full;
      kept = c.requires.kept;
    }

pub returns : goal.returns
returns c =
    let old = c.args.self.now in
    let p = c.args.p in
    taken_answers c.connect_listed.result c.args.arena.now old c.connect_listed.new.self p (map main (drop c.taken-taken.result (kids_at old.experts p.node)))
    (owes_fresh old p c.requires.full ∙ ap (map main) (sym (fresh_behind old.experts p.node c.taken-taken.result c.taken-taken.ensures)))
    c.connect_listed.ensures
