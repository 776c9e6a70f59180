use Rattle.std.proofs.Common.{◌≡◌, ◌+◌, ◌++◌, length, map, vec_len, vec_capacity}
use Rattle.index_lists.specs.Lists.{list_at}
use Rattle.index_lists.specs.Walks.{rows_left}
use Rattle.expert_nodes.specs.declared.links.Link.{Link}
use Rattle.expert_nodes.specs.Links.{bare, kids_of}
use Rattle.expert_nodes.proofs.links.lay_list.Given as goal

abbrev pub invariant-loop-link : goal.invariant-loop-link
invariant-loop-link l = record {
  seen : l.kids.items ++ map (λ (x : Link). x.node) (rows_left l.link-iterator) ≡ l.fn.kids.items ++ kids_of (bare (list_at l.links l.list));
  count : vec_len l.kids + length (rows_left l.link-iterator) ≡ vec_len l.fn.kids + length (list_at l.links l.list);
  capacity : vec_capacity l.kids ≡ vec_capacity l.fn.kids;
}
