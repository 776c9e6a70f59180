use Rattle.std.proofs.Common.{◌≡◌, inr, Option, None, Some, true, false, refl, sym, ap, subst, ◌∙◌}
use Rattle.std.specs.Prelude.{is_some}
use Rattle.inc_value.specs.declared.node.NodeId.{NodeId}
use Rattle.inc_value.specs.declared.node.Point.{Point}
use Rattle.inc_value.specs.declared.node.Part.TheVariants.{Change, Main}
use Rattle.inc_terms.specs.Depend.{main, change, subject_of}
use Rattle.inc_terms.specs.Graph.{Row}
use Rattle.link_table.specs.Links.{Links}
use Rattle.node_arena.specs.Arena.{row_at, row_of}
use Rattle.point_map.specs.Rows.{at, Holds}
use Rattle.node_outcomes.specs.Computing.{has_part}
use Rattle.node_outcomes.specs.Row.{settled_in}
use Rattle.node_outcomes.specs.Choosing.{right_in}
use Rattle.node_outcomes.specs.declared.row.Stage.TheVariants as code
use Rattle.wiring.specs.Turning.{IsAttached}
use Rattle.wiring.specs.Wiring.{IsMarked}
use Rattle.wiring.specs.declared.work.Work.{Work}
use Rattle.wiring.proofs.Detaching.{attached_still}
use Rattle.wiring.proofs.GoingBack.{IsLowered, lowered_stays, lowered_confirmed, lowered_behind}
use Rattle.wiring.proofs.TakingAll.{loses_nothing}
use Rattle.wiring.proofs.TakingOne.{nothing_taken, one_taken, loose_lowered, right_has_subject, spared_rows}
use Rattle.wiring.proofs.work.Work.take_off.Goals as goal

some_of : (x : Option NodeId) → is_some x ≡ true → (m : NodeId) × (x ≡ Some m)
some_of None e = absurd (cc)
some_of (Some m) e = (m, refl)

-- ---- nothing is taken off

pub returns-in_default-clause-stays : goal.returns-in_default-clause-stays
returns-in_default-clause-stays c = loses_nothing c.args.arena.now c.args.self.now c.requires.kept

pub returns-in_default-clause-taken : goal.returns-in_default-clause-taken
returns-in_default-clause-taken c = nothing_taken c.args.arena.now c.args.self.now c.requires.kept.step

pub returns-else-is_attached-clause-stays : goal.returns-else-is_attached-clause-stays
returns-else-is_attached-clause-stays c = loses_nothing c.args.arena.now c.args.self.now c.requires.kept

pub returns-else-is_attached-clause-taken : goal.returns-else-is_attached-clause-taken
returns-else-is_attached-clause-taken c = nothing_taken c.args.arena.now c.args.self.now c.requires.kept.step

-- ---- the right side is

module _ (c : goal.After-drop_right) where
  abbrev r : Row
  r = row_of c.in-Some.row.now

  live : row_at c.args.arena.now c.args.node ≡ Some r
  live = sym c.in-Some.ensures

  target : (m : NodeId) × (right_in c.args.self.now.rows c.args.self.now.roots c.args.node r.def ≡ Some m)
  target = let m = some_of c.right_side.result (sym c.is_some.ensures ∙ c.if-is_some.true) in (m.0, sym c.right_side.ensures ∙ m.1)

  subject : (k : NodeId) × (subject_of r.def ≡ Some k)
  subject = right_has_subject c.in-Some.row.now.def c.args.self.now.rows c.args.self.now.roots c.args.node target.0 target.1

  own : Holds c.args.self.now.rows (change c.args.node)
  own = c.requires.kept.rows (change c.args.node) ∙ (ap (λ (x : Option Row). has_part x Change) live ∙ ap is_some subject.1)

  mine : Holds c.args.self.now.rows (main c.args.node)
  mine = c.requires.kept.rows (main c.args.node) ∙ ap (λ (x : Option Row). has_part x Main) live

  unsettled : settled_in c.args.self.now.round (at c.args.self.now.rows (change c.args.node)) ≡ false
  unsettled = subst (λ (x : Point). settled_in c.args.self.now.round (at c.args.self.now.rows x) ≡ false) c.change-own.ensures
      (sym c.was_settled.ensures ∙ c.if-not-was_settled.true)

  attached : IsAttached c.args.self.now c.args.node
  attached = c.is_attached.ensures.0 c.if-is_attached.true

  marked : IsMarked c.args.self.now.graph c.schedule.new.self.graph (change c.args.node)
  marked = subst (λ (x : Point). IsMarked c.args.self.now.graph c.schedule.new.self.graph x) c.change-own.ensures c.schedule.ensures.scheduled

  back : (links : Links) × IsLowered c.args.self.now c.drop_right.new.self (main c.args.node) (change c.args.node) code.Static links
  back = loose_lowered c.args.self.now c.schedule.new.self c.drop_right.new.self c.args.node c.requires.kept.step marked c.schedule.ensures.rest
      c.drop_right.ensures.step _ c.drop_right.ensures.detached

pub returns-then-is_some-clause-taken : goal.returns-then-is_some-clause-taken
returns-then-is_some-clause-taken c =
    let s = subject c in
    let t = target c in
    one_taken c.args.arena.now c.args.self.now c.schedule.new.self c.drop_right.new.self c.args.node (r c) s.0 t.0 (live c) s.1 (own c) (attached c)
    (unsettled c) t.1 (marked c) c.schedule.ensures.rest c.drop_right.ensures.detached c.requires.kept.step c.drop_right.ensures.step c.requires.kept.experts

pub returns-then-is_some-clause-spared : goal.returns-then-is_some-clause-spared
returns-then-is_some-clause-spared c =
    spared_rows c.args.arena.now c.args.self.now c.schedule.new.self c.drop_right.new.self c.args.node (r c) _ (live c) (ap is_some (subject c).1)
    (attached c) (unsettled c) c.schedule.ensures.rest c.drop_right.ensures.detached

pub returns-then-is_some-clause-stays : goal.returns-then-is_some-clause-stays
returns-then-is_some-clause-stays c =
    lowered_stays c.args.arena.now c.args.self.now c.drop_right.new.self (main c.args.node) (change c.args.node) code.Static (back c).0 (back c).1
    c.requires.kept (mine c) (λ need. own c)

pub returns-then-is_some-clause-fewer : goal.returns-then-is_some-clause-fewer
returns-then-is_some-clause-fewer c =
    lowered_confirmed c.args.arena.now c.args.self.now c.drop_right.new.self (main c.args.node) (change c.args.node) code.Static (back c).0 (back c).1
    (λ e. cc)

pub returns-then-is_some-clause-behind : goal.returns-then-is_some-clause-behind
returns-then-is_some-clause-behind c =
    lowered_behind c.args.arena.now c.args.self.now c.drop_right.new.self (main c.args.node) (change c.args.node) code.Static (back c).0 (back c).1
    (inr (attached c).stage)

pub drop_right-requires-clause-attached : goal.drop_right-requires-clause-attached
drop_right-requires-clause-attached c =
    attached_still c.args.self.now c.schedule.new.self c.args.node (ap (λ (w : Work). w.rows) c.schedule.ensures.rest)
    c.schedule.ensures.scheduled.graph (c.is_attached.ensures.0 c.if-is_attached.true)
