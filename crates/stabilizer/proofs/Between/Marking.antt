-- An expert is made stale.
use Rattle.std.proofs.Common.{◌≡◌, inl, true, Some, sym, ap, subst, arith}
use Rattle.inc_value.specs.Choice.{Among}
use Rattle.inc_value.specs.declared.node.NodeId.{NodeId}
use Rattle.inc_value.specs.declared.node.Point.{Point}
use Rattle.inc_terms.specs.Depend.{main}
use Rattle.expert_nodes.specs.Experts.{Expert, ExpertChanges, IsCreated, expert_of, marked as marked_so}
use Rattle.link_table.specs.Links.{Links, times}
use Rattle.necessary_graph.specs.Part.{Needed, IsInStep}
use Rattle.node_outcomes.specs.Meaning.{Meaning}
use Rattle.wiring.specs.Kept.{IsKept}
use Rattle.wiring.specs.Wiring.{IsMarked}
use Rattle.wiring.proofs.Deciding.{need_same}
use Rattle.stabilizer.specs.Between.{IsMadeStale, Stays}
use Rattle.stabilizer.specs.Kept.{PartsKept}
use Rattle.stabilizer.specs.Round.{IsReady}
use Rattle.stabilizer.specs.declared.parts.Parts.{Parts}
use Rattle.stabilizer.proofs.Between.Relisting.{created_row, heap_marked, main_full, marked_kept, relisted_kept, relisted_parts, relisted_ready, relisted_stays, with_todo}
use Rattle.wiring.specs.declared.work.Work.{Work}

module _ (old new : Parts) (e : NodeId) (kept : PartsKept old) (created : IsCreated old.work.experts e)
    (change : ExpertChanges old.work.experts new.work.experts e (Some (marked_so true (expert_of old.work.experts e))))
    (marked : IsMarked old.work.graph new.work.graph (main e)) (step : IsInStep new.work.graph)
    (rest : new ≡ record old { work = record old.work { experts = new.work.experts; graph = new.work.graph } }) where
  abbrev stale : Expert
  stale = marked_so true (expert_of old.work.experts e)

  abbrev listed : Work
  listed = record old.work { experts = new.work.experts; todo = new.work.todo }

  listed_kept : IsKept old.arena listed
  listed_kept = relisted_kept old.arena old.work new.work e stale kept.work created change (kept.work.listed e) (λ r f v ns row is. kept.work.lists e r f v ns row is)

  work_kept : IsKept old.arena (record listed { graph = new.work.graph })
  work_kept = marked_kept old.arena listed new.work.graph e listed_kept (created_row old.arena old.work e kept.work created) marked step

  stays : (M : Meaning) → IsReady M old
      → Stays old.arena old.arena old.work (record old.work { experts = new.work.experts; graph = new.work.graph; todo = new.work.todo })
  stays M ready = relisted_stays old.arena old.work new.work e stale kept.work created change (main_full old new e created M ready)
      need
      (λ p n h. heap_marked old.arena old.work new.work.graph e kept.work (created_row old.arena old.work e kept.work created) marked step p (need p n) h)
      (λ n. marked.told (need (main e) n))
      (λ p q n ne. ap (λ (l : Links). times l p q) marked.graph.links)
      (λ n q. let l = ap (λ (x : Links). times x (main e) q) marked.graph.links in omega (arith, l))
      (λ p a. subst (Among p) (sym (ap (λ (x : Parts). x.work.todo.items) rest)) a)
      (λ n some. inl some)
    where
      need : (p : Point) → Needed new.work.graph p → Needed old.work.graph p
      need p n = need_same new.work.graph old.work.graph (sym marked.graph.links) (sym marked.graph.roots) p n

  pub made_stale : IsMadeStale old new e
  made_stale = record {
    experts = change;
    marked = marked;
    rest = rest;
    kept = relisted_parts old new e created kept work_kept stays (with_todo old new rest);
    ready = relisted_ready old new e created kept work_kept stays (with_todo old new rest);
  }
