use Rattle.std.proofs.Common.{◌∙◌, ℕ, refl, subst, arith}
use Rattle.node_outcomes.specs.Meaning.{meaning_of}
use Rattle.stabilizer.specs.Kept.{counts_by}
use Rattle.stabilizer.specs.Giving.{StopsFull}
use Rattle.stabilizer.specs.Lacking.{SettleLacks, StepLacks}
use Rattle.stabilizer.specs.Round.{SettleRefused}
use Rattle.stabilizer.specs.Stepping.{StepIsMade, NoneIsLeft}
use Rattle.stabilizer.proofs.Step.Giving.{none_gives, gives_next, few_next, full_next}
use Rattle.stabilizer.proofs.Step.MeaningKept.{means_still, wants_handed, wants_from}
use Rattle.stabilizer.proofs.Step.Making.{no_step, next_step, less_left, step_stops}
use Rattle.stabilizer.proofs.Step.Falling.{steps_at}
use Rattle.stabilizer.proofs.Step.Noting.{settles_at, noted_next}
use Rattle.stabilizer.proofs.Step.Staying.{nothing_done, stays_on}
use Rattle.stabilizer.proofs.stabilizer.settle_all.Goals as goal
use Rattle.necessary_graph.proofs.Linking.{exit_is}
use Rattle.necessity.proofs.Sound.{on_err}

pub loop-p-init : goal.loop-p-init
loop-p-init g c =
    let old = c.args.parts.now in
    let may = c.requires.may in record {
      so = no_step (meaning_of g.F.Functions c.args.functions.now) old (counts_by g.F.Functions c.args.functions.now) may.kept may.quiet;
      stays = nothing_done g.F.Functions c.args.functions.now old may;
      gives = none_gives old.arena.given old.arena (omega arith);
      wants = refl;
      noted = λ n is. absurd (let e = c.requires.fresh n in cc);
    }

pub step-requires : goal.step-requires
step-requires g c =
    let i = c.loop-p.invariant in
    record { kept = i.so.kept; quiet = i.so.quiet; sound = i.stays.functions.sound; fit = i.stays.fit }

pub loop-p-preserved : goal.loop-p-preserved
loop-p-preserved g c =
    let K = g.F.Functions in
    let M = meaning_of K c.args.functions.now in
    let N = meaning_of K c.loop-p.functions in
    let i = c.loop-p.invariant in
    let same = means_still K _ _ i.stays.functions in
    let before = counts_by K c.args.functions.now in
    let between = counts_by K c.loop-p.functions in
    let after = counts_by K c.step.new.functions in
    let made : StepIsMade N c.loop-p.parts c.step.new.parts between after c.in-Some.p = rw c.in-Some.is at c.in_ok-p.ensures.made in
    let stepped = steps_at N c.loop-p.parts c.step.new.parts between after c.in-Some.p made.stepped in
    record {
      so = next_step M N same c.args.parts.now c.loop-p.parts c.step.new.parts before between after i.so c.step.ensures.stays.kept
          c.in_ok-p.ensures.quiet stepped made.settled;
      stays = stays_on K _ _ _ c.args.parts.now c.loop-p.parts c.step.new.parts i.stays c.step.ensures.stays;
      gives = gives_next M N same c.args.parts.now c.loop-p.parts c.step.new.parts before between after i.so c.requires.in_round i.gives stepped made.settled;
      wants = c.in_ok-p.ensures.wants ∙ i.wants;
      noted = noted_next c.loop-p.parts.work c.step.new.parts.work c.loop-p.news c.add.new.self c.in-Some.p
          (settles_at M N same c.args.parts.now c.loop-p.parts c.step.new.parts before between after i.so c.requires.in_round c.in-Some.p made.stepped)
          i.noted c.add.ensures.added c.add.ensures.stay;
    }

pub loop-p-smaller : goal.loop-p-smaller
loop-p-smaller g c =
    let K = g.F.Functions in
    let N = meaning_of K c.loop-p.functions in
    let between = counts_by K c.loop-p.functions in
    let after = counts_by K c.step.new.functions in
    let made : StepIsMade N c.loop-p.parts c.step.new.parts between after c.in-Some.p = rw c.in-Some.is at c.in_ok-p.ensures.made in
    less_left (meaning_of K c.args.functions.now) N (means_still K _ _ c.loop-p.invariant.stays.functions) c.args.parts.now c.loop-p.parts
    c.step.new.parts (counts_by K c.args.functions.now) between after c.loop-p.invariant.so c.requires.in_round made.falls

-- ---- a step was refused

pub returns-in_err-p-clause-refused : goal.returns-in_err-p-clause-refused
returns-in_err-p-clause-refused g c =
    let K = g.F.Functions in
    let before = counts_by K c.args.functions.now in
    let after = counts_by K c.step.new.functions in
    let M = meaning_of K c.args.functions.now in
    let e = c.in_err-p.field-0.0 in
    exit_is c.from_residual.result e (SettleRefused M c.args.parts.now c.step.new.parts before after) c.from_residual.ensures.1
    (step_stops M (meaning_of K c.loop-p.functions) (means_still K _ _ c.loop-p.invariant.stays.functions) c.args.parts.now c.loop-p.parts c.step.new.parts
    before (counts_by K c.loop-p.functions) after c.loop-p.invariant.so e c.in_err-p.ensures.refused.refused)

pub returns-in_err-p-clause-spends : goal.returns-in_err-p-clause-spends
returns-in_err-p-clause-spends g c =
    let K = g.F.Functions in
    on_err c.from_residual.result (few_next (meaning_of K c.args.functions.now) (meaning_of K c.loop-p.functions)
    (means_still K _ _ c.loop-p.invariant.stays.functions) c.args.parts.now c.loop-p.parts c.step.new.parts (counts_by K c.args.functions.now)
    (counts_by K c.loop-p.functions) (counts_by K c.step.new.functions) c.loop-p.invariant.so c.requires.in_round c.loop-p.invariant.gives
    (K.right c.step.new.functions) c.in_err-p.field-0.0 c.in_err-p.ensures.refused.refused c.in_err-p.ensures.refused.spends)

pub returns-in_err-p-clause-full : goal.returns-in_err-p-clause-full
returns-in_err-p-clause-full g c =
    let K = g.F.Functions in
    let before = counts_by K c.args.functions.now in
    let after = counts_by K c.step.new.functions in
    let e = c.in_err-p.field-0.0 in
    let right = K.right c.step.new.functions in
    exit_is c.from_residual.result e (StopsFull right c.step.new.parts.arena before after) c.from_residual.ensures.1
    (full_next (meaning_of K c.args.functions.now) (meaning_of K c.loop-p.functions) (means_still K _ _ c.loop-p.invariant.stays.functions)
    c.args.parts.now c.loop-p.parts c.step.new.parts before (counts_by K c.loop-p.functions) after c.loop-p.invariant.so c.requires.in_round
    c.loop-p.invariant.gives right e c.in_err-p.ensures.refused.full)

pub returns-in_err-p-clause-wants : goal.returns-in_err-p-clause-wants
returns-in_err-p-clause-wants g c =
    wants_handed c.from_residual.result c.in_err-p.field-0.0 _ _ c.from_residual.ensures.1
    (wants_from c.in_err-p.field-0.0 _ _ _ c.loop-p.invariant.wants c.in_err-p.ensures.wants)

pub returns-in_err-p-clause-lacks : goal.returns-in_err-p-clause-lacks
returns-in_err-p-clause-lacks g c =
    let K = g.F.Functions in
    let left = c.loop-p.parts in
    let lacks : SettleLacks (meaning_of K c.args.functions.now) c.args.parts.now (counts_by K c.args.functions.now) (K.wants c.args.functions.now)
    (K.wants c.step.new.functions) = record {
      left = left;
      counts = counts_by K c.loop-p.functions;
      settles = c.loop-p.invariant.so.settled;
      steps = c.loop-p.invariant.so.steps;
      kept = c.loop-p.invariant.so.kept;
      lacks = subst (λ (wants : ℕ). StepLacks left wants (K.wants c.step.new.functions)) c.loop-p.invariant.wants
          c.in_err-p.ensures.lacks;
    } in
    on_err c.from_residual.result lacks

pub returns-in_err-p-clause-stays : goal.returns-in_err-p-clause-stays
returns-in_err-p-clause-stays g c =
    stays_on g.F.Functions _ _ _ c.args.parts.now c.loop-p.parts c.step.new.parts c.loop-p.invariant.stays c.step.ensures.stays

-- ---- the heap is empty

pub returns : goal.returns
returns g c =
    let i = c.loop-p.invariant in
    let step = c.in_ok-p.ensures in
    let none : NoneIsLeft c.loop-p.parts c.step.new.parts (counts_by g.F.Functions c.loop-p.functions) (counts_by g.F.Functions c.step.new.functions) =
    rw c.in_default.is at step.ended in
    record {
      settled = rw (none.unchanged, none.uncalled) i.so.settled;
      steps = rw (none.unchanged, none.uncalled) i.so.steps;
      empty = rw none.unchanged none.empty;
      refused = tt;
      gives = rw none.unchanged i.gives;
      spends = tt;
      full = tt;
      quiet = step.quiet;
      stays = stays_on g.F.Functions _ _ _ c.args.parts.now c.loop-p.parts c.step.new.parts i.stays c.step.ensures.stays;
      wants = step.wants ∙ i.wants;
      lacks = tt;
      news = rw none.unchanged i.noted;
    }
