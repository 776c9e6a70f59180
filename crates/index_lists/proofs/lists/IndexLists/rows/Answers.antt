use Rattle.std.proofs.Common.{◌∙◌, map, ap, sym, arith}
use Rattle.index_lists.specs.Links.{rows_from}
use Rattle.index_lists.specs.Lists.{links_at, no_ends, list_at}
use Rattle.index_lists.proofs.Seen.{seen_at, seen}
use Rattle.index_lists.proofs.Changes.{wide_ends, index_is}
use Rattle.index_lists.proofs.lists.IndexLists.rows.Goals as goal

pub returns : goal.returns
returns g c =
    let ends = c.self.inside.ends.items in
    let slots = c.self.inside.links.slots in
    let lt = wide_ends ends slots c.args.self.now.lists c.args.list (ap (λ v. v.lists) c.self.view_is) c.requires in
    let at = index_is ends c.args.list c.index.result.now no_ends lt c.index.ensures in
    ap (λ e. map (λ r. r.1) (rows_from (links_at slots) c.capacity.result e.first)) (sym at)
    ∙ ap (map (λ r. r.1)) (seen ends slots c.self.invariant.0 c.args.list c.capacity.result
    (omega (arith, c.capacity.ensures.value, c.capacity.ensures.slots))
    ∙ sym (seen_at ends slots c.self.invariant.0 c.args.list)
    ∙ ap (λ v. list_at v c.args.list) c.self.view_is)
