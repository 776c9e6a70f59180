use Rattle.std.proofs.Common.{◌≢◌, sym, rules}
use Rattle.link_table.specs.Walks.{kids_left}
use Rattle.necessity.proofs.Reaching.{leads_to_itself}
use Rattle.necessity.proofs.Starts.{none_left, none_read}
use Rattle.base_tests.proofs.worked.attach.Goals as goal

pub attach-requires : goal.attach-requires
attach-requires c = record {
  acyclic = λ leads.
      let other : c.args.p ≢ c.args.q = search rules in
      let none = none_left kids_left c.kids.result c.next.new.self c.next.result c.next.ensures.steps (sym c.if-is_some.ensures) in
      let unread = none_read c.args.needs.now.links c.args.q (kids_left c.kids.result) c.kids.ensures none in
      other (sym (leads_to_itself c.args.needs.now.links c.args.q c.args.p unread leads));
}
