use Rattle.std.proofs.Common.{◌≡◌, inl, inr, Option, Some, true, false, sym, ap, subst, ◌∙◌, refl}
use Rattle.std.specs.Prelude.{IsTrue, IsFalse, Bool}
use Rattle.inc_value.specs.declared.node.Point.{Point}
use Rattle.inc_value.specs.declared.node.Part.TheVariants.{Main}
use Rattle.inc_terms.specs.Depend.{main}
use Rattle.inc_terms.specs.Graph.{Row}
use Rattle.point_map.specs.Rows.{at}
use Rattle.node_arena.specs.Arena.{row_of}
use Rattle.node_outcomes.specs.Computing.{has_part}
use Rattle.node_outcomes.specs.Choosing.{right_in}
use Rattle.node_outcomes.specs.Row.{stage_in}
use Rattle.node_outcomes.specs.declared.row.Stage.TheVariants as code
use Rattle.wiring.specs.Kept.{IsKept}
use Rattle.necessary_graph.specs.Part.{Needed}
use Rattle.wiring.specs.Wiring.{IsTarget, KeepsPlaces, MayRead}
use Rattle.wiring.specs.declared.work.Work.{Work}
use Rattle.wiring.proofs.Gating.{main_is_target, stage_rowed}
use Rattle.std.proofs.lemmas.Option.{none-some}
use Rattle.wiring.proofs.Raising.{staged_kept, staged_places}
use Rattle.wiring.proofs.TakingAll.{places_then}
use Rattle.wiring.proofs.Deciding.{not_both}
use Rattle.wiring.proofs.Linking.{is_none}
use Rattle.wiring.proofs.Owing.{owes_none, two_fresh}
use Rattle.wiring.proofs.Attaching.{WasRaised, was_raised, stays_off, right_given, none_attached, right_refused, right_gone, right_on, full_in, right_is}
use Rattle.wiring.proofs.work.Work.attach_right.Goals as goal
use Rattle.wiring.proofs.work.Work.attach_right.Goals.{After-right_side}

by_answer : {P : Type 0} (b : Bool) → (IsTrue b → P) → (IsFalse b → P) → P
by_answer true on off = on refl
by_answer false on off = off refl

-- ---- a main that doesn't wait

pub returns-then-not-is_waiting-clause-attached : goal.returns-then-not-is_waiting-clause-attached
returns-then-not-is_waiting-clause-attached c =
    let n = c.args.node in
    let r = c.requires.row in
    stays_off c.args.arena.now c.args.self.now n
    (owes_none c.args.self.now true (main n) (two_fresh c.args.arena.now c.args.self.now.experts c.requires.kept.experts n r.0 r.1 r.2))
    (λ need k at_row static. not_both c.is_waiting.result c.if-not-is_waiting.true
    (c.is_waiting.ensures.1 (record { needed = need; stage = ap stage_in at_row ∙ ap (λ x. Some x) static })))
    (c.requires.kept.rows (main n) ∙ ap (λ (x : Option Row). has_part x Main) r.1)

pub returns-then-not-is_waiting-clause-stays : goal.returns-then-not-is_waiting-clause-stays
returns-then-not-is_waiting-clause-stays c = inr refl

-- ---- one that waits is to have all links

module _ (c : After-right_side) where
  abbrev r : Row
  r = row_of c.in-Some.row.now

  abbrev mid : Work
  mid = record c.args.self.now { rows = c.set_stage.new.rows }

  was : WasRaised c.args.arena.now c.args.node r c.args.self.now c.set_stage.new.rows
  was = was_raised c.args.arena.now c.args.node c.args.self.now c.set_stage.new.rows c.main-p.result r c.main-p.ensures c.requires.row
      c.in-Some.ensures c.requires.kept c.requires.settled (c.is_waiting.ensures.0 c.if-not-is_waiting.false) c.set_stage.ensures

  kept : IsKept c.args.arena.now mid
  kept = staged_kept c.args.self.now c.set_stage.new.rows (main c.args.node) code.Full was.rewritten c.args.arena.now c.requires.kept

  full : stage_in (at c.set_stage.new.rows (main c.args.node)) ≡ Some code.Full
  full = full_in c.args.arena.now c.args.node r c.args.self.now c.set_stage.new.rows was

  -- the right side, as it was told
  told : right_in c.args.self.now.rows c.args.self.now.roots c.args.node r.def ≡ c.right_side.result
  told = sym (right_is c.args.arena.now c.args.node r c.args.self.now c.set_stage.new.rows was) ∙ sym c.right_side.ensures

pub connect-requires-clause-kept : goal.connect-requires-clause-kept
connect-requires-clause-kept c = kept (goal.at.connect-requires-clause-kept c).After-right_side

pub connect-requires-clause-reader : goal.connect-requires-clause-reader
connect-requires-clause-reader c =
    let a = (goal.at.connect-requires-clause-reader c).After-right_side in
    subst (λ (x : Point). MayRead (mid a) x c.main.result) (sym c.main-p.ensures)
    (inl (stage_rowed c.set_stage.new.rows (main c.args.node) code.Full (full a)))

pub connect-requires-clause-target : goal.connect-requires-clause-target
connect-requires-clause-target c =
    let a = (goal.at.connect-requires-clause-target c).After-right_side in
    let m = c.in-Some-right_side.target in
    subst (λ (x : Point). IsTarget c.args.arena.now (mid a) x) (sym c.main.ensures)
    (main_is_target c.args.arena.now (mid a) (main m) (kept a)
    (right_given c.args.arena.now c.args.node (r a) c.args.self.now c.set_stage.new.rows (was a) m (told a ∙ c.in-Some-right_side.is)) refl)

pub returns-in-Err-clause-refused : goal.returns-in-Err-clause-refused
returns-in-Err-clause-refused c =
    let a = (goal.at.returns-in-Err-clause-refused c).After-right_side in
    let con = c.connect.new.self in
    right_refused c.args.arena.now c.args.node (r a) c.args.self.now c.set_stage.new.rows (was a) c.in-Some-right_side.target
    (told a ∙ c.in-Some-right_side.is) con c.in-Err.refused (rw (c.main-p.ensures, c.main.ensures) at c.in-Err.ensures.refused)

-- ---- its right side was asked for

pub returns-in-Ok-clause-attached : goal.returns-in-Ok-clause-attached
returns-in-Ok-clause-attached c =
    let a = (goal.at.returns-in-Ok-clause-attached c).After-right_side in
    let arena = c.args.arena.now in
    let n = c.args.node in
    let old = c.args.self.now in
    let rows = c.set_stage.new.rows in
    let m = c.in-Some-right_side.target in
    let right = told a ∙ c.in-Some-right_side.is in
    let con = c.connect.new.self in
    let so = c.in-Ok.ensures in
    by_answer c.in-Ok.field-0
    (λ t. right_on arena n (r a) old rows (was a) m right con (rw (c.main-p.ensures, c.main.ensures) at (so.linked t))
    (rw c.main-p.ensures at (so.row t)) so.experts)
    (λ f. right_gone arena n (r a) old rows (was a) m right con (rw (c.main-p.ensures, c.main.ensures) at (so.gone f).0))

pub returns-in-Ok-clause-full : goal.returns-in-Ok-clause-full
returns-in-Ok-clause-full c waiting =
    let con = c.connect.new.self in
    let rows = c.set_stage.new.rows in
    let on = c.in-Ok.ensures in
    by_answer c.in-Ok.field-0
    (λ t. inl (ap stage_in (subst (λ (x : Point). at con.rows x ≡ at rows x) c.main-p.ensures (on.row t)) ∙ full (goal.at.returns-in-Ok-clause-full c).After-right_side))
    (λ f. inr (on.gone f).1)

-- ---- it has none

pub returns-in_default-right_side-clause-kept : goal.returns-in_default-right_side-clause-kept
returns-in_default-right_side-clause-kept c = kept (goal.at.returns-in_default-right_side-clause-kept c).After-right_side

pub returns-in_default-right_side-clause-attached : goal.returns-in_default-right_side-clause-attached
returns-in_default-right_side-clause-attached c =
    let a = (goal.at.returns-in_default-right_side-clause-attached c).After-right_side in
    none_attached c.args.arena.now c.args.node (r a) c.args.self.now c.set_stage.new.rows
    (was a)
    (told a ∙ is_none c.right_side.result c.in_default-right_side.not-Some)

pub returns-in_default-right_side-clause-full : goal.returns-in_default-right_side-clause-full
returns-in_default-right_side-clause-full c waiting = inl (full (goal.at.returns-in_default-right_side-clause-full c).After-right_side)

-- ---- a node that isn't live

pub returns-in_default-clause-kept : goal.returns-in_default-clause-kept
returns-in_default-clause-kept c = absurd (none-some c.requires.row.0 (c.in_default.ensures ∙ c.requires.row.1))

pub returns-in_default-clause-attached : goal.returns-in_default-clause-attached
returns-in_default-clause-attached c = absurd (none-some c.requires.row.0 (c.in_default.ensures ∙ c.requires.row.1))

pub returns-in_default-clause-full : goal.returns-in_default-clause-full
returns-in_default-clause-full c = absurd (none-some c.requires.row.0 (c.in_default.ensures ∙ c.requires.row.1))

pub returns-in_default-clause-stays : goal.returns-in_default-clause-stays
returns-in_default-clause-stays c = absurd (none-some c.requires.row.0 (c.in_default.ensures ∙ c.requires.row.1))

-- ---- places

module _ (c : After-right_side) where
  places : KeepsPlaces c.args.self.now (mid c)
  places = staged_places c.args.self.now c.set_stage.new.rows (main c.args.node) code.Full (was c).rewritten

pub returns-in_default-right_side-clause-places : goal.returns-in_default-right_side-clause-places
returns-in_default-right_side-clause-places c = places (goal.at.returns-in_default-right_side-clause-places c).After-right_side

pub returns-in-Ok-clause-places : goal.returns-in-Ok-clause-places
returns-in-Ok-clause-places c =
    let a = (goal.at.returns-in-Ok-clause-places c).After-right_side in
    places_then c.args.self.now (mid a) c.connect.new.self (places a) c.connect.ensures.places

pub returns-in-Err-clause-places : goal.returns-in-Err-clause-places
returns-in-Err-clause-places c =
    let a = (goal.at.returns-in-Err-clause-places c).After-right_side in
    places_then c.args.self.now (mid a) c.connect.new.self (places a) c.connect.ensures.places

-- ---- it waited

pub returns-in-Ok-clause-stays : goal.returns-in-Ok-clause-stays
returns-in-Ok-clause-stays c = inl (c.is_waiting.ensures.0 c.if-not-is_waiting.false)

pub returns-in-Err-clause-stays : goal.returns-in-Err-clause-stays
returns-in-Err-clause-stays c = inl (c.is_waiting.ensures.0 c.if-not-is_waiting.false)

pub returns-in_default-right_side-clause-stays : goal.returns-in_default-right_side-clause-stays
returns-in_default-right_side-clause-stays c = inl (c.is_waiting.ensures.0 c.if-not-is_waiting.false)

pub returns-in-Err-clause-waits : goal.returns-in-Err-clause-waits
returns-in-Err-clause-waits c = c.is_waiting.ensures.0 c.if-not-is_waiting.false

pub connect-requires-clause-needed : goal.connect-requires-clause-needed
connect-requires-clause-needed c =
    subst (λ (x : Point). Needed c.args.self.now.graph x) (sym c.main-p.ensures) (c.is_waiting.ensures.0 c.if-not-is_waiting.false).needed
