use Rattle.std.proofs.Common.{Ok, refl, ap, ◌∙◌}
use Rattle.session.specs.declared.script.stabilizing.Stabilized.{Stabilized}
use Rattle.session.proofs.Carried.{met_circular, performed_accepted, performed_circular, performed_cut_short, performed_too_deep, performed_unwritten}
use Rattle.session.proofs.answer.stabilize.Goals as goal

pub returns-in-Ok : goal.returns-in-Ok
returns-in-Ok g c =
    let h = c.in-Ok-Accepted in
    performed_accepted _ _ _ _ _ _ _ c.requires.unbroken _ c.stabilize.ensures (h.is ∙ ap (λ (s : Stabilized). Ok s) h.field-0-is) c.in-Ok.ensures.ok

pub returns-in-Err-write_accepted : goal.returns-in-Err-write_accepted
returns-in-Err-write_accepted g c =
    let h = c.in-Ok-Accepted in
    performed_unwritten _ _ _ _ _ _ _ c.requires.unbroken _ c.stabilize.ensures _ (h.is ∙ ap (λ (s : Stabilized). Ok s) h.field-0-is)
    c.in-Err-write_accepted.ensures.err

pub returns-in-Ok-TooDeep : goal.returns-in-Ok-TooDeep
returns-in-Ok-TooDeep g c =
    let h = c.in-Ok-TooDeep in
    let r = c.refuse_too_deep.ensures in
    performed_too_deep _ _ _ _ _ _ _ c.requires.unbroken _ c.stabilize.ensures h.target (h.is ∙ ap (λ (s : Stabilized). Ok s) h.field-0-is) _ _
    r.how r.written r.unwritten r.ok r.broken

pub refuse_circular-requires : goal.refuse_circular-requires
refuse_circular-requires g c =
    let h = c.in-Ok-Circular in
    record { met = met_circular _ _ _ _ _ _ (h.is ∙ ap (λ (s : Stabilized). Ok s) h.field-0-is) c.stabilize.ensures }

pub returns-in-Ok-Circular : goal.returns-in-Ok-Circular
returns-in-Ok-Circular g c =
    let h = c.in-Ok-Circular in
    let r = c.refuse_circular.ensures in
    performed_circular _ _ _ _ _ _ _ c.requires.unbroken _ c.stabilize.ensures (h.is ∙ ap (λ (s : Stabilized). Ok s) h.field-0-is) _ _
    r.how r.written r.unwritten r.ok r.broken

pub returns-in-Err : goal.returns-in-Err
returns-in-Err g c = performed_cut_short _ _ _ _ _ _ _ c.requires.unbroken _ c.stabilize.ensures _ _ c.in-Err.is refl
