use Rattle.std.proofs.Common.{◌+◌, ap, sym, subst, arith}
use Rattle.std.specs.Prelude.{option_copied}
use Rattle.link_table.specs.Links.{Reads}
use Rattle.link_table.specs.Walks.{kids_left}
use Rattle.height_order.specs.Levels.{bound}
use Rattle.height_order.proofs.Covering.{kids_cover, occurs_first}
use Rattle.height_order.proofs.Points.{none_found}
use Rattle.height_order.proofs.Chaining.{shorter, some_link}
use Rattle.height_order.proofs.Levelling.{IsUnder, LevelsKids, is_greater, first_greater, kids_none, kids_start, kids_pass, kids_more, kid_low, level_more, level_adds, adds_none}
use Rattle.height_order.proofs.levels.+level_below.Goals as goal

-- a level that is kept
pub returns-in-Some-clause-adds : goal.returns-in-Some-clause-adds
returns-in-Some-clause-adds g t c =
    let web = g.T.HeightTable.web c.args.table.now in
    adds_none web.links c.args.levels.now c.args.p

-- no kid
pub add_at-requires : goal.add_at-requires
add_at-requires g t c = record { absent = none_found c.args.levels.now c.args.p _ c.copied.result c.get.ensures c.copied.ensures c.in_default.is }

pub returns-in_default-highest_kid-clause-levels : goal.returns-in_default-highest_kid-clause-levels
returns-in_default-highest_kid-clause-levels g t c =
    let web = g.T.HeightTable.web c.args.table.now in
    let links = web.links in
    let bounds = bound web.heights (option_copied c.args.free) in
    let absent = none_found c.args.levels.now c.args.p _ c.copied.result c.get.ensures c.copied.ensures c.in_default.is in
    level_more links bounds c.args.levels.now c.args.levels.now c.args.p c.args.most 0 c.requires.bounds
    (kids_none links bounds c.args.levels.now c.args.p c.args.most c.requires.levels absent c.in_default-highest_kid.ensures.none) c.add_at.new.heights
    c.in_ok-add_at.ensures.added

pub returns-in_default-highest_kid-clause-adds : goal.returns-in_default-highest_kid-clause-adds
returns-in_default-highest_kid-clause-adds g t c =
    let web = g.T.HeightTable.web c.args.table.now in
    let links = web.links in
    let bounds = bound web.heights (option_copied c.args.free) in
    let absent = none_found c.args.levels.now c.args.p _ c.copied.result c.get.ensures c.copied.ensures c.in_default.is in
    level_adds links bounds c.args.levels.now c.args.levels.now c.args.p c.args.most 0 c.requires.bounds
    (kids_none links bounds c.args.levels.now c.args.p c.args.most c.requires.levels absent c.in_default-highest_kid.ensures.none) c.add_at.new.heights
    c.in_ok-add_at.ensures.added

pub returns-in_default-highest_kid-clause-level : goal.returns-in_default-highest_kid-clause-level
returns-in_default-highest_kid-clause-level g t c = c.in_ok-add_at.ensures.added.changed

-- the kid of greatest bound
pub overflow_sub-most : goal.overflow_sub-most
overflow_sub-most g t c =
    let web = g.T.HeightTable.web c.args.table.now in
    let some = some_link (Reads web.links) c.args.p c.in-Some-highest_kid.highest c.args.most c.requires.short c.in-Some-highest_kid.ensures.kid in omega (arith, some)

pub level_below-requires : goal.level_below-requires
level_below-requires g t c lifetimes alive =
    let web = g.T.HeightTable.web c.args.table.now in
    let reads = c.in-Some-highest_kid.ensures.kid in
    let some = some_link (Reads web.links) c.args.p c.in-Some-highest_kid.highest c.args.most c.requires.short reads in
    let is = c.decreases in
    (omega (arith, some, is), (alive.0, (alive.1, (c.requires.levels, (c.requires.bounds, shorter (Reads web.links) c.args.p c.in-Some-highest_kid.highest c.args.most c.requires.short reads)))))

pub overflow_add-level : goal.overflow_add-level
overflow_add-level g t c =
    let web = g.T.HeightTable.web c.args.table.now in
    let highest = c.in-Some-highest_kid.highest in
    let n = c.in_ok-level.field-0 in
    let done = c.in_ok-level.ensures in
    let low = kid_low web.links c.args.p highest c.args.most n c.requires.short c.in-Some-highest_kid.ensures.kid (done.levels.longest highest n done.level) in
    let fits = c.ranges.most.fits in omega (arith, low, fits)

pub loop-kid-init : goal.loop-kid-init
loop-kid-init g t c =
    let web = g.T.HeightTable.web c.args.table.now in
    let links = web.links in
    let bounds = bound web.heights (option_copied c.args.free) in
    let levels = c.args.levels.now in
    let p = c.args.p in
    let most = c.args.most in
    let highest = c.in-Some-highest_kid.highest in
    let n = c.in_ok-level.field-0 in
    let done = c.in_ok-level.ensures in
    let absent = none_found c.args.levels.now c.args.p _ c.copied.result c.get.ensures c.copied.ensures c.in_default.is in
    let left = kids_left c.kids-kid-items.result in
    let start = kids_start links bounds levels p most c.requires.levels absent highest left c.in-Some-highest_kid.ensures.kid
    (kids_cover (IsUnder links bounds levels 0) links p left c.kids-kid-items.ensures) in
    subst (LevelsKids links bounds levels c.level_below.new.levels p most (n + 1)) (ap kids_left (sym c.into_iter-kid-iterator.ensures.into_iter_gives))
    (kids_more links bounds levels levels c.level_below.new.levels p highest left most 0 n start c.requires.short done.level done.levels done.adds (n + 1)
    (first_greater n))

-- the others
pub loop-kid-preserved-then-bound_of-level : goal.loop-kid-preserved-then-bound_of-level
loop-kid-preserved-then-bound_of-level g t c =
    let web = g.T.HeightTable.web c.args.table.now in
    let links = web.links in
    let bounds = bound web.heights (option_copied c.args.free) in
    let so = subst (LevelsKids links bounds c.args.levels.now c.loop-kid.levels c.args.p c.args.most c.loop-kid.level) c.in-Some-kid.ensures.steps c.loop-kid.invariant in
    kids_pass links bounds c.args.levels.now c.loop-kid.levels c.args.p c.in-Some-kid.kid (kids_left c.next.new.self) c.args.most c.loop-kid.level
    (let e = c.bound_of.ensures in let t = c.if-bound_of-level.true in omega (arith, e, t)) so

pub overflow_sub-most-in-loop-kid : goal.overflow_sub-most-in-loop-kid
overflow_sub-most-in-loop-kid g t c =
    let web = g.T.HeightTable.web c.args.table.now in
    let links = web.links in
    let bounds = bound web.heights (option_copied c.args.free) in
    let kid = c.in-Some-kid.kid in
    let so = subst (LevelsKids links bounds c.args.levels.now c.loop-kid.levels c.args.p c.args.most c.loop-kid.level) c.in-Some-kid.ensures.steps c.loop-kid.invariant in
    let some = some_link (Reads links) c.args.p kid c.args.most c.requires.short (so.covers.among kid (occurs_first kid (kids_left c.next.new.self))) in
    omega (arith, some)

pub level_below-requires-in-loop-kid : goal.level_below-requires-in-loop-kid
level_below-requires-in-loop-kid g t c lifetimes alive =
    let web = g.T.HeightTable.web c.args.table.now in
    let links = web.links in
    let bounds = bound web.heights (option_copied c.args.free) in
    let kid = c.in-Some-kid.kid in
    let so = subst (LevelsKids links bounds c.args.levels.now c.loop-kid.levels c.args.p c.args.most c.loop-kid.level) c.in-Some-kid.ensures.steps c.loop-kid.invariant in
    let reads = so.covers.among kid (occurs_first kid (kids_left c.next.new.self)) in
    let some = some_link (Reads links) c.args.p kid c.args.most c.requires.short reads in
    let is = c.decreases in
    (omega (arith, some, is), (alive.0, (alive.1, (c.loop-kid.invariant.levels_so, (c.requires.bounds, shorter (Reads links) c.args.p kid c.args.most c.requires.short reads)))))

pub overflow_add-branch : goal.overflow_add-branch
overflow_add-branch g t c =
    let web = g.T.HeightTable.web c.args.table.now in
    let links = web.links in
    let bounds = bound web.heights (option_copied c.args.free) in
    let kid = c.in-Some-kid.kid in
    let n = c.in_ok-level_below.field-0 in
    let done = c.in_ok-level_below.ensures in
    let so = subst (LevelsKids links bounds c.args.levels.now c.loop-kid.levels c.args.p c.args.most c.loop-kid.level) c.in-Some-kid.ensures.steps c.loop-kid.invariant in
    let low = kid_low links c.args.p kid c.args.most n c.requires.short (so.covers.among kid (occurs_first kid (kids_left c.next.new.self)))
    (done.levels.longest kid n done.level) in
    let fits = c.ranges.most.fits in omega (arith, low, fits)

pub loop-kid-preserved : goal.loop-kid-preserved
loop-kid-preserved g t c =
    let web = g.T.HeightTable.web c.args.table.now in
    let links = web.links in
    let bounds = bound web.heights (option_copied c.args.free) in
    let n = c.in_ok-level_below.field-0 in
    let done = c.in_ok-level_below.ensures in
    let so = subst (LevelsKids links bounds c.args.levels.now c.loop-kid.levels c.args.p c.args.most c.loop-kid.level) c.in-Some-kid.ensures.steps c.loop-kid.invariant in
    kids_more links bounds c.args.levels.now c.loop-kid.levels c.level_below-in-loop-kid.new.levels c.args.p c.in-Some-kid.kid (kids_left c.next.new.self) c.args.most c.loop-kid.level n so
    c.requires.short done.level done.levels done.adds c.max-level.result (is_greater c.loop-kid.level (n + 1) c.max-level.result c.max-level.ensures)

pub returns-clause-levels : goal.returns-clause-levels
returns-clause-levels g t c =
    let web = g.T.HeightTable.web c.args.table.now in
    let links = web.links in
    let bounds = bound web.heights (option_copied c.args.free) in
    let so = subst (LevelsKids links bounds c.args.levels.now c.loop-kid.levels c.args.p c.args.most c.loop-kid.level) c.in-None.ensures.steps.0 c.loop-kid.invariant in
    level_more links bounds c.args.levels.now c.loop-kid.levels c.args.p c.args.most c.loop-kid.level c.requires.bounds so c.add_at-2.new.heights
    c.in_ok-add_at-2.ensures.added

pub returns-clause-adds : goal.returns-clause-adds
returns-clause-adds g t c =
    let web = g.T.HeightTable.web c.args.table.now in
    let links = web.links in
    let bounds = bound web.heights (option_copied c.args.free) in
    let so = subst (LevelsKids links bounds c.args.levels.now c.loop-kid.levels c.args.p c.args.most c.loop-kid.level) c.in-None.ensures.steps.0 c.loop-kid.invariant in
    level_adds links bounds c.args.levels.now c.loop-kid.levels c.args.p c.args.most c.loop-kid.level c.requires.bounds so c.add_at-2.new.heights
    c.in_ok-add_at-2.ensures.added

pub returns-clause-level : goal.returns-clause-level
returns-clause-level g t c = c.in_ok-add_at-2.ensures.added.changed
