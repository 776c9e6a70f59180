use Rattle.std.proofs.Common.{◌∙◌, ap, sym, option_map, slice_get}
use Rattle.index_lists.specs.Lists.{no_ends, list_at}
use Rattle.index_lists.proofs.Changes.{wide_ends, index_is, first_seen}
use Rattle.index_lists.proofs.lists.IndexLists.first.Goals as goal

pub returns : goal.returns
returns g c =
    let ends = c.self.inside.ends.items in
    let slots = c.self.inside.links.slots in
    let lt = wide_ends ends slots c.args.self.now.lists c.args.list (ap (λ v. v.lists) c.self.view_is) c.requires in
    let at = index_is ends c.args.list c.index.result.now no_ends lt c.index.ensures in
    ap (λ e. e.first) (sym at) ∙ first_seen ends slots c.args.list c.self.invariant.0
    ∙ ap (λ v. option_map (λ e. e.0) (slice_get (list_at v c.args.list) 0)) c.self.view_is
