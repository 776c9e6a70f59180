use Rattle.std.proofs.Common.{◌+◌, ◌++◌, ◌∙◌, ap, length, map, refl, vec_len}
use Rattle.std.proofs.lemmas.List.{length-map}
use Rattle.index_lists.specs.Lists.{list_at}
use Rattle.expert_nodes.specs.declared.links.Link.{Link}
use Rattle.expert_nodes.proofs.Halves.{nodes_laid}
use Rattle.expert_nodes.proofs.links.lay_list.Goals as goal

pub loop-link-init : goal.loop-link-init
loop-link-init c =
    let es = list_at c.args.links.now c.args.list in
    rw c.into_iter-link-iterator.ensures.into_iter_gives (record {
      seen = ap (λ xs. c.args.kids.now.items ++ map (λ (x : Link). x.node) xs) c.rows-link-items.ensures ∙ ap (λ l. c.args.kids.now.items ++ l) (nodes_laid es);
      count = ap (λ k. vec_len c.args.kids.now + k) (ap length c.rows-link-items.ensures ∙ length-map es (λ e. e.1));
      capacity = refl;
    })
