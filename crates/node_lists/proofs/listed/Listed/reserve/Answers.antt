use Rattle.std.proofs.Common.{◌≡◌, ◌∙◌, List, length, ap, sym, subst, arith}
use Rattle.inc_value.specs.Choice.{Among}
use Rattle.inc_value.specs.declared.node.NodeId.{NodeId}
use Rattle.node_lists.specs.Listed.{Listed, live_count}
use Rattle.node_lists.proofs.Counting.{tidied_kept, tidied_fewer, tidied_counts, tidied_live}
use Rattle.node_lists.proofs.listed.Listed.reserve.Goals as goal

pub returns-clause-kept : goal.returns-clause-kept
returns-clause-kept c n lives i =
    let nodes : c.reserve.new.self.items ≡ c.tidy.new.self.nodes = c.reserve.ensures.items ∙ ap (λ (l : Listed). l.nodes) c.self.view_is in
    subst (λ ns. Among n ns) (sym nodes) (tidied_kept c.args.arena.now c.args.self.now c.tidy.new.self c.tidy.ensures.tidied n lives i)

pub returns-clause-fewer : goal.returns-clause-fewer
returns-clause-fewer c n i =
    let nodes : c.reserve.new.self.items ≡ c.tidy.new.self.nodes = c.reserve.ensures.items ∙ ap (λ (l : Listed). l.nodes) c.self.view_is in
    tidied_fewer c.args.arena.now c.args.self.now c.tidy.new.self c.tidy.ensures.tidied n (subst (λ ns. Among n ns) nodes i)

pub returns-clause-counts : goal.returns-clause-counts
returns-clause-counts c b counts =
    let nodes : c.reserve.new.self.items ≡ c.tidy.new.self.nodes = c.reserve.ensures.items ∙ ap (λ (l : Listed). l.nodes) c.self.view_is in
    let dead : c.self.inside.dead ≡ c.tidy.new.self.dead = ap (λ (l : Listed). l.dead) c.self.view_is in
    let n_items = ap (λ (ns : List NodeId). length ns) nodes in
    let n_live = ap (λ (ns : List NodeId). live_count b ns) nodes in
    let after = tidied_counts c.args.arena.now c.args.self.now c.tidy.new.self c.tidy.ensures.tidied b counts in
    omega (arith, n_items, n_live, dead, after)

pub returns-clause-live : goal.returns-clause-live
returns-clause-live c counts =
    let nodes : c.reserve.new.self.items ≡ c.tidy.new.self.nodes = c.reserve.ensures.items ∙ ap (λ (l : Listed). l.nodes) c.self.view_is in
    let dead : c.self.inside.dead ≡ c.tidy.new.self.dead = ap (λ (l : Listed). l.dead) c.self.view_is in
    let n_items = ap (λ (ns : List NodeId). length ns) nodes in
    let after = tidied_live c.args.arena.now c.args.self.now c.tidy.new.self c.tidy.ensures.tidied counts in
    omega (arith, n_items, dead, after)
