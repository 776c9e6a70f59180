use Rattle.std.proofs.Common.{rules}
use Rattle.session.proofs.Noticing.{parts_read}
use Rattle.session.proofs.session.notices.write_parts.Goals as goal

pub returns-clause-ok : goal.returns-clause-ok
returns-clause-ok g c =
    let before = c.in_ok-write_before.ensures in
    let now = c.in_ok-write_now.ensures in
    parts_read c.args.script.now.kept c.args.notice.now c.kind_of.result c.observer_name.result.now before.0 now.0 c.args.out.now.items
    c.extend_from_slice.new.self.items c.write_before.new.text.items c.write_now.new.text.items c.extend_from_slice-2.new.self.items
    c.len-behind_name.result c.len-behind_before.result c.len.result
    c.kind_of.ensures c.observer_name.ensures before.1 now.1 (search rules) before.2 now.2
    (search rules) (search rules) (search rules) (search rules)
