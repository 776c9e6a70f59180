use Rattle.std.proofs.Common.{refl, ◌∙◌}
use Rattle.std.proofs.lemmas.Result.{on_ok_weaker, IfErr-weaker}
use Rattle.std.specs.Prelude.{None}
use Rattle.wiring.specs.Rooting.{HasRootOn}
use Rattle.wiring.specs.Wiring.{WireRefused, RootRefused}
use Rattle.wiring.proofs.Trying.{levelled_kept}
use Rattle.wiring.proofs.Gating.{main_is_target}
use Rattle.wiring.proofs.Rooting.{on_ok, more_then, wires_then, refused_then, left_refuses}
use Rattle.wiring.proofs.work.Work.put_root.Goals.{In-Ok}
use Rattle.wiring.proofs.work.Work.put_root.Goals as goal

-- ---- the root came on

rooted : (c : In-Ok) → HasRootOn c.args.arena.now c.args.self.now c.root_on.new.self c.args.p
rooted c = c.in-Ok.ensures.rooted c.args.arena.now c.requires.kept
    (main_is_target c.args.arena.now c.args.self.now c.args.p c.requires.kept c.requires.given c.requires.main)

pub wire-requires : goal.wire-requires
wire-requires c = record { kept = (rooted (goal.at.wire-requires c).In-Ok).kept }

pub returns-in-Ok-clause-rooted : goal.returns-in-Ok-clause-rooted
returns-in-Ok-clause-rooted c =
    on_ok c.wire.result (more_then c.args.self.now.graph.roots c.root_on.new.self.graph.roots c.wire.new.self.graph.roots c.args.p (rooted (goal.at.returns-in-Ok-clause-rooted c).In-Ok).more
    c.wire.ensures.places.roots)

pub returns-in-Ok-clause-others : goal.returns-in-Ok-clause-others
returns-in-Ok-clause-others c a other = c.wire.ensures.places.roots a ∙ (rooted (goal.at.returns-in-Ok-clause-others c).In-Ok).more.others a other

pub returns-in-Ok-clause-round : goal.returns-in-Ok-clause-round
returns-in-Ok-clause-round c = c.wire.ensures.places.round ∙ (rooted (goal.at.returns-in-Ok-clause-round c).In-Ok).round

pub returns-in-Ok-clause-wired : goal.returns-in-Ok-clause-wired
returns-in-Ok-clause-wired c =
    on_ok_weaker c.wire.result
    (λ w. wires_then c.args.arena.now c.args.self.now c.root_on.new.self c.wire.new.self c.requires.quiet (rooted (goal.at.returns-in-Ok-clause-wired c).In-Ok).follows w) c.wire.ensures.wired

pub returns-in-Ok-clause-refused : goal.returns-in-Ok-clause-refused
returns-in-Ok-clause-refused c =
    IfErr-weaker c.wire.result (WireRefused c.args.arena.now c.root_on.new.self c.wire.new.self None)
    (RootRefused c.args.arena.now c.args.self.now c.wire.new.self)
    (λ e w. refused_then c.args.arena.now c.args.self.now c.root_on.new.self c.wire.new.self e c.requires.quiet (rooted (goal.at.returns-in-Ok-clause-refused c).In-Ok).follows w)
    c.wire.ensures.refused

-- ---- there was no memory for it

pub returns-in-Err-clause-refused : goal.returns-in-Err-clause-refused
returns-in-Err-clause-refused c = left_refuses c.args.arena.now c.args.self.now c.root_on.new.self _ c.in-Err.ensures.levelled refl

pub returns-in-Err-clause-kept : goal.returns-in-Err-clause-kept
returns-in-Err-clause-kept c = levelled_kept c.args.arena.now c.args.self.now c.root_on.new.self c.in-Err.ensures.levelled c.requires.kept
