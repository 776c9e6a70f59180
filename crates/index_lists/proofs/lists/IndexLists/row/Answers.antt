use Rattle.std.proofs.Common.{◌≡◌, ◌∙◌, Some, ap, sym, subst, arith}
use Rattle.std.specs.Prelude.{option_copied}
use Rattle.std.proofs.lemmas.Grind.{common_steps}
use Rattle.index_lists.specs.Lists.{Has, links_at, list_at}
use Rattle.index_lists.proofs.Changes.{own_list, has_slot}
use Rattle.index_lists.proofs.lists.IndexLists.row.Goals as goal

pub unwrap-requires : goal.unwrap-requires
unwrap-requires g c =
    let place = c.args.place in
    let there = c.requires in
    let has = subst (λ v. Has (list_at v there.list) place there.row) (sym c.self.view_is) there.has in
    let s = c.self.inside in
    let l = has_slot s.ends.items s.links.slots there.list place there.row c.self.invariant.0 has in
    let e : option_copied c.get.result ≡ Some l.0 = c.get.ensures ∙ l.1 in grind (arith, common_steps, e)

pub returns : goal.returns
returns g c = λ list row has.
    let seen = subst (λ v. Has (list_at v list) c.args.place row) (sym c.self.view_is) has in
    let s = c.self.inside in
    let l = c.unwrap.result.now in
    let at : links_at s.links.slots c.args.place ≡ Some l = sym c.get.ensures ∙ ap option_copied c.unwrap.ensures in
    (own_list s.ends.items s.links.slots list c.args.place row l c.self.invariant.0 seen at).1
