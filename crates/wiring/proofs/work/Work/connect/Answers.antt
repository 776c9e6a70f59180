use Rattle.std.proofs.Common.{arith}
use Rattle.wiring.specs.Refusing.{IsBarred}
use Rattle.wiring.proofs.Retrying.{first_trying, more_trying, lost_answers, on_answers, final_answers}
use Rattle.wiring.proofs.Deciding.{not_both}
use Rattle.wiring.proofs.Retrying.{may_read, is_target, is_off_now, IsOffNow}
use Rattle.wiring.proofs.Telling.{told, barred}
use Rattle.wiring.proofs.work.Work.connect.Goals as goal
use Rattle.wiring.proofs.work.Work.connect.Goals.{After-make_way}

pub loop-fault-init : goal.loop-fault-init
loop-fault-init c = first_trying c.args.arena.now c.args.self.now c.args.p c.args.q c.requires.kept c.requires.needed c.requires.spared

pub try_link-requires-clause-reader : goal.try_link-requires-clause-reader
try_link-requires-clause-reader c =
    may_read c.args.self.now c.loop-fault.self c.loop-fault.invariant.places c.args.p c.args.q c.requires.reader

pub try_link-requires-clause-target : goal.try_link-requires-clause-target
try_link-requires-clause-target c =
    is_target c.args.arena.now c.args.self.now c.loop-fault.self c.loop-fault.invariant.places c.args.q c.requires.target

-- ---- the refusal is final

pub returns-then-is_final : goal.returns-then-is_final
returns-then-is_final c =
    let t = c.try_link.ensures in
    final_answers c.args.arena.now c.args.self.now c.loop-fault.self c.args.p c.args.q c.loop-fault.invariant c.try_link.new.self
    c.in-Err.ensures.levelled c.refusal.result
    (told c.try_link.new.self c.args.p c.args.q c.in-Err.fault c.refusal.result (c.is_final.ensures.strict c.if-is_final.true) c.in-Err.ensures.why
    c.refusal.ensures) t.retries t.places t.kept

-- ---- some of what wasn't confirmed is off, or all

module _ (c : After-make_way) where
  off : IsOffNow c.args.arena.now c.loop-fault.self c.try_link.new.self c.make_way.new.self c.args.p
  off =
      let so = c.loop-fault.invariant in
      let t = c.try_link.ensures in
      let m = c.make_way.ensures in
      is_off_now c.args.arena.now c.loop-fault.self c.try_link.new.self c.make_way.new.self c.args.p c.in-Err.ensures.levelled t.retries so.needed
      so.spared t.places m.taken m.fewer

  bars : IsBarred c.try_link.new.self c.args.p c.args.q
  bars = barred c.try_link.new.self c.args.p c.args.q c.in-Err.fault (c.is_final.ensures.walked c.if-is_final.false) c.in-Err.ensures.why

pub returns-then-not-is_still : goal.returns-then-not-is_still
returns-then-not-is_still c =
    lost_answers c.args.arena.now c.args.self.now c.loop-fault.self c.args.p c.args.q c.loop-fault.invariant c.try_link.new.self c.make_way.new.self
    (off (goal.at.returns-then-not-is_still c).After-make_way)
    (λ still. not_both c.is_still.result c.if-not-is_still.true (c.is_still.ensures.1 (still.0, λ g. c.is_gated-gated.ensures.1 (still.1 g))))
    (bars (goal.at.returns-then-not-is_still c).After-make_way)

pub loop-fault-preserved : goal.loop-fault-preserved
loop-fault-preserved c =
    let s = c.is_still.ensures.0 c.if-not-is_still.false in
    more_trying c.args.arena.now c.args.self.now c.loop-fault.self c.args.p c.args.q c.loop-fault.invariant c.try_link.new.self c.make_way.new.self
    (off (goal.at.loop-fault-preserved c).After-make_way) (bars (goal.at.loop-fault-preserved c).After-make_way) (s.0, λ g. c.is_gated-gated.ensures.0 (s.1 g))

pub loop-fault-smaller : goal.loop-fault-smaller
loop-fault-smaller c = let a = c.try_link.ensures.retries in let b = c.make_way.ensures.fewer in omega (arith, a, b)

-- ---- the link is on

pub returns : goal.returns
returns c =
    let t = c.try_link.ensures in
    let on = c.in_default.ensures in
    on_answers c.args.arena.now c.args.self.now c.loop-fault.self c.args.p c.args.q c.loop-fault.invariant c.try_link.new.self on.linked on.needed
    on.reads (t.rows c.args.p c.loop-fault.invariant.needed) t.retries t.experts t.places t.kept on.pushed
