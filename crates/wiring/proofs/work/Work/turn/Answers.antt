use Rattle.std.proofs.Common.{inl, inr, sym, subst}
use Rattle.inc_value.specs.declared.node.Point.{Point}
use Rattle.inc_terms.specs.Code.{def_of}
use Rattle.inc_terms.specs.Depend.{change}
use Rattle.node_outcomes.specs.Choosing.{right_in}
use Rattle.node_outcomes.specs.Row.{IsRewritten, with_outcome}
use Rattle.wiring.specs.Turning.{IsDetached}
use Rattle.wiring.specs.declared.work.Work.{Work}
use Rattle.wiring.proofs.Deciding.{not_both}
use Rattle.wiring.proofs.Detaching.{BeforeIt, turned}
use Rattle.wiring.proofs.work.Work.turn.Goals as goal
use Rattle.wiring.proofs.work.Work.turn.Goals.{then-not-ran_with+then-is_attached, else-not-ran_with, else-not-ran_with-via-then-not-ran_with+else-is_attached, else-not-ran_with-via-else-not-ran_with}

pub returns : goal.returns
returns c =
    let n = c.args.node in
    let old = c.args.self.now in
    let mid = c.if-not-ran_with.self in
    let right = right_in old.rows old.roots n (def_of c.args.def.now) in
    let written : IsRewritten mid.rows c.set_outcome.new.rows (change n) (with_outcome c.args.given mid.round) =
    subst (λ (x : Point). IsRewritten mid.rows c.set_outcome.new.rows x (with_outcome c.args.given mid.round)) c.change.ensures
    c.set_outcome.ensures.rewritten in
    let before : BeforeIt old mid n right c.args.given =
    elim c.if-not-ran_with.branch [
      | then-not-ran_with+then-is_attached w ↦ inr (
        subst (λ (x : Work). IsDetached old x n right) (sym w.self-is) w.drop_right.ensures.detached,
        w.is_attached.ensures.0 w.if-is_attached.true,
        λ e. not_both c.ran_with.result w.if-not-ran_with.true (c.ran_with.ensures.1 e),
      )
      | else-not-ran_with w ↦ elim w.else-not-ran_with.branch [
        | else-not-ran_with-via-then-not-ran_with+else-is_attached v ↦
            inl (w.self-is, inr (λ a. not_both v.is_attached.result v.if-is_attached.false (v.is_attached.ensures.1 a)))
        | else-not-ran_with-via-else-not-ran_with v ↦ inl (w.self-is, inl (c.ran_with.ensures.0 v.if-not-ran_with.false))
      ]
    ] in
    turned old mid c.set_outcome.new.rows n right c.args.given before written
