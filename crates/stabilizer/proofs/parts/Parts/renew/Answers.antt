use Rattle.std.proofs.Common.{refl, sym, ap, subst, arith, Vec, Global}
use Rattle.std.specs.Prelude.{vec_capacity}
use Rattle.std.proofs.lemmas.Result.{on_ok_weaker, IfErr-weaker}
use Rattle.inc_value.specs.declared.node.NodeId.{NodeId}
use Rattle.node_arena.specs.Arena.{Arena, live}
use Rattle.node_outcomes.specs.Meaning.{meaning_of}
use Rattle.wiring.specs.declared.refused.Refused.TheVariants.{Memory}
use Rattle.wiring.proofs.Raising.{if_refusal}
use Rattle.timed_nodes.specs.Timed.{KeepsClock}
use Rattle.timed_nodes.specs.Timed.{Timed}
use Rattle.stabilizer.specs.Kept.{counts_by}
use Rattle.stabilizer.specs.Rebuilding.{BuildRefused}
use Rattle.stabilizer.specs.Rooted.{GetsNoRoot}
use Rattle.stabilizer.proofs.Change.Again.{by_result}
use Rattle.stabilizer.proofs.Building.Asks.{stands_but}
use Rattle.stabilizer.proofs.Building.Ends.{if_on_err, left_roomy, roomy_stays, AreCut, are_cut, asks_build}
use Rattle.stabilizer.proofs.Building.Ends.{dead_stays, settles_none, root_settles, stays_rooted, kept_rootless, stays_rootless, rootless_refused}
use Rattle.stabilizer.proofs.Building.Kept.{roomy, roomy_kept}
use Rattle.stabilizer.proofs.parts.Parts.renew.Given.{Over}
use Rattle.stabilizer.proofs.parts.Parts.renew.Goals.{After-let_die}
use Rattle.stabilizer.proofs.parts.Parts.renew.Goals as goal
use Rattle.necessity.proofs.Sound.{on_err}
use Rattle.wiring.specs.declared.refused.Refused.{Refused}

-- ---- there was no memory for the deaths

pub returns-in_err-make_room-clause-refused : goal.returns-in_err-make_room-clause-refused
returns-in_err-make_room-clause-refused g c =
    let old = c.args.self.now in
    let counts = counts_by g.F.Functions c.args.functions.now in
    let M = meaning_of g.F.Functions c.args.functions.now in
    let right = g.F.Functions.right c.args.functions.now in
    if_refusal (BuildRefused M right old _ c.args.node counts counts) Memory c.from_residual.result c.from_residual.ensures.1
    (left_roomy M right old c.make_room.new.deaths old.work.roots c.make_room.ensures.deaths (λ p. refl) c.make_room.new.dying
    c.make_room.ensures.dying c.args.node counts)

pub returns-in_err-make_room-clause-kept : goal.returns-in_err-make_room-clause-kept
returns-in_err-make_room-clause-kept g c =
    let old = c.args.self.now in
    on_err c.from_residual.result (roomy_kept old c.make_room.new.deaths old.work.roots c.make_room.ensures.deaths (λ p. refl)
    c.make_room.new.dying c.make_room.ensures.dying c.requires.may.kept)

pub returns-in_err-make_room-clause-stays : goal.returns-in_err-make_room-clause-stays
returns-in_err-make_room-clause-stays g c =
    roomy_stays g.F.Functions c.args.functions.now c.args.self.now c.make_room.new.deaths c.make_room.ensures.deaths c.make_room.new.dying
    c.make_room.ensures.dying c.args.node c.requires.taken.row c.requires.may

-- ---- all in the scope dies

pub cut_off-requires-clause-kept : goal.cut_off-requires-clause-kept
cut_off-requires-clause-kept g c =
    let old = c.args.self.now in
    roomy_kept old c.make_room.new.deaths old.work.roots c.make_room.ensures.deaths (λ p. refl) c.make_room.new.dying c.make_room.ensures.dying
    c.requires.may.kept

pub let_die-requires-clause-scopes : goal.let_die-requires-clause-scopes
let_die-requires-clause-scopes g c =
    stands_but _ c.cut_off.new.self c.args.node c.requires.may.kept.scopes c.cut_off.ensures.scopes c.cut_off.ensures.cut.arena

pub let_die-requires-clause-clock : goal.let_die-requires-clause-clock
let_die-requires-clause-clock g c =
    let cut = c.cut_off.ensures.cut in
    subst (λ (t : Timed). KeepsClock c.cut_off.new.self.arena t) (sym cut.timed)
    (subst (λ (a : Arena). KeepsClock a c.args.self.now.timed) (sym cut.arena) c.requires.may.kept.clock)

pub let_die-requires-clause-listing : goal.let_die-requires-clause-listing
let_die-requires-clause-listing g c =
    let cut = c.cut_off.ensures.cut in
    let room = c.requires.may.kept.listing in
    let few = ap (λ (a : Arena). live a) cut.arena in
    let same = ap (λ (l : Vec NodeId Global). vec_capacity l) cut.ran in
    omega (arith, room, few, same)

died : (g : Over) (c : After-let_die g) → AreCut g.F.Functions c.args.functions.now c.args.self.now
    (roomy c.args.self.now c.make_room.new.deaths c.args.self.now.work.roots c.make_room.ensures.deaths (λ p. refl) c.make_room.new.dying
    c.make_room.ensures.dying)
    c.cut_off.new.self c.let_die.new.self c.args.node c.args.recipe.now.function c.args.recipe.now.captures c.args.given.now
died g c =
    are_cut g.F.Functions c.args.functions.now c.args.self.now c.make_room.new.deaths c.make_room.ensures.deaths c.make_room.new.dying
    c.make_room.ensures.dying c.requires.may c.requires.to_build c.requires.taken.row
    c.cut_off.ensures.cut c.let_die.ensures.died c.let_die.ensures.kept

-- ---- there is no right side

pub returns-in_default : goal.returns-in_default
returns-in_default g c =
    let h = died g (goal.at.returns-in_default g c).After-let_die in
    record {
      ready = settles_none g.F.Functions c.args.functions.now h c.in_default.is;
      refused = tt;
      kept = tt;
      stays = dead_stays g.F.Functions c.args.functions.now h;
    }

-- ---- one is built

pub build_root-requires-clause-may : goal.build_root-requires-clause-may
build_root-requires-clause-may g c =
    asks_build g.F.Functions c.args.functions.now (died g (goal.at.build_root-requires-clause-may g c).After-let_die) c.in-Val.left c.in-Val.is

pub returns : goal.returns
returns g c =
    let K = g.F.Functions in
    let fs = c.args.functions.now in
    let fs' = c.build_root.new.functions in
    let last = c.build_root.new.self in
    let h = died g (goal.at.returns g c).After-let_die in
    let left = c.in-Val.left in
    let is = c.in-Val.is in
    let b = c.build_root.ensures in
    let Rootless : Refused → Type 0 = GetsNoRoot K fs fs' c.let_die.new.self last c.args.node c.args.recipe.now.function in
    record {
      ready = on_ok_weaker c.build_root.result (root_settles K fs h left is) b.root;
      refused = IfErr-weaker c.build_root.result Rootless
          (BuildRefused (meaning_of K fs) (K.right fs') c.args.self.now last c.args.node (counts_by K fs) (counts_by K fs'))
          (rootless_refused K fs h left is) b.refused;
      kept = if_on_err {Q = Rootless} c.build_root.result (kept_rootless K fs h left is) b.refused;
      stays = by_result {Q = Rootless} c.build_root.result b.root b.refused (stays_rooted K fs h left is) (stays_rootless K fs h left is);
    }
