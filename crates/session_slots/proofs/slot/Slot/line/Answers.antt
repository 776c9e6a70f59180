use Rattle.std.proofs.Common.{w32, ◌∙◌, rules, subst}
use Rattle.std.proofs.Math.Facts.{to_z-of_z}
use Rattle.session_slots.specs.Holding.{TakesLine}
use Rattle.session_slots.specs.declared.holder.Holder.{Holder}
use Rattle.session_slots.proofs.slot.Slot.line.Goals as goal

-- the session between the two calls is the one that took the line
pub returns : goal.returns
returns c = (
  search rules,
  λ live. (
    c.put.ensures.0,
    λ was is e f. (
      c.line-how.result,
      to_z-of_z {w = w32} (record { sfits = c.code-2.type_inv }) ∙ c.code-2.ensures,
      c.line-how.new.self,
      let held = c.in-Some.ensures.taken.1 in
          let lent = c.deref_mut.ensures.value in
          subst (λ (h : Holder). TakesLine h c.args.text.now c.line-how.new.self c.line-how.result) (cc) c.line-how.ensures,
      search rules,
      search rules,
      search rules,
    ),
  ),
)
