use Rattle.std.proofs.Common.{inl, inr}
use Rattle.wiring.proofs.TakingAll.{takes_both}
use Rattle.wiring.proofs.work.Work.take_off_at.Goals as goal

pub returns : goal.returns
returns c =
    let t = c.put_back_unconfirmed.ensures in
    let u = c.take_off.ensures in
    takes_both c.args.arena.now c.args.self.now c.put_back_unconfirmed.new.self c.take_off.new.self
    (record { stays = t.stays; taken = t.taken; rows = λ a s. elim (t.rows a) [ inl e ↦ inl e | inr b ↦ inr b.1 ] })
    (record { stays = u.stays; taken = u.taken; rows = λ a s. inl (u.spared a s) })
