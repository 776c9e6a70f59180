-- A node is linked behind the others of an expert.
use Rattle.std.proofs.Common.{◌≡◌, ◌⊎◌, inl, inr, ℕ, zero, suc, slice_get, List, [], ◌∷◌, ◌++◌, Some, refl, sym, ap, subst, ◌∙◌, arith, append_assoc}
use Rattle.std.proofs.lemmas.Option.{none-some}
use Rattle.inc_value.specs.Choice.{Among, Every}
use Rattle.inc_value.specs.declared.function.FnRef.{FnRef}
use Rattle.inc_value.specs.declared.node.NodeId.{NodeId}
use Rattle.inc_value.specs.declared.node.Point.{Point}
use Rattle.inc_value.specs.declared.ty.Ty.{Ty}
use Rattle.inc_value.specs.declared.value.Value.{Value}
use Rattle.inc_terms.specs.Depend.{main}
use Rattle.inc_terms.specs.Graph as graph
use Rattle.inc_terms.specs.Graph.{Row}
use Rattle.inc_terms.specs.Within.{Given}
use Rattle.expert_nodes.specs.Experts.{Expert, ExpertChanges, IsCreated, KeepsExperts, expert_of, kids_of_expert, with_link}
use Rattle.link_table.specs.Links.{Links, times}
use Rattle.necessary_graph.specs.Part.{Needed, IsInStep}
use Rattle.node_arena.specs.Arena.{Arena, row_at}
use Rattle.node_arena.specs.Typing.{Fits, FoldTakes}
use Rattle.node_outcomes.specs.Meaning.{Meaning}
use Rattle.wiring.specs.Kept.{IsKept}
use Rattle.wiring.specs.Wiring.{IsMarked}
use Rattle.wiring.specs.declared.work.Work.{Work}
use Rattle.wiring.proofs.Agreeing.{same_some}
use Rattle.wiring.proofs.Deciding.{need_same}
use Rattle.stabilizer.specs.Between.{GainsLink, GainsNothing, KeepsWork, Stays}
use Rattle.stabilizer.specs.Freezing.{MayList}
use Rattle.stabilizer.specs.Kept.{PartsKept}
use Rattle.stabilizer.specs.Round.{IsReady}
use Rattle.stabilizer.specs.declared.parts.Parts.{Parts}
use Rattle.stabilizer.proofs.Between.Adding.{back_parts, back_ready}
use Rattle.stabilizer.proofs.Between.Relisting.{created_row, heap_marked, live_created, main_full, marked_kept, relisted_kept, relisted_parts, relisted_ready, relisted_stays}

-- what stands at a place is among the points
pub among_get : (ps : List Point) (k : ℕ) (p : Point) → slice_get ps k ≡ Some p → Among p ps
among_get [] k p e = absurd (none-some p e)
among_get (q ∷ qs) zero p e = inl (sym (same_some e))
among_get (q ∷ qs) (suc k) p e = inr (among_get qs k p e)

every_more : (P : NodeId → Type 0) (ns : List NodeId) (n : NodeId) → Every P ns → P n → Every P (ns ++ n ∷ [])
every_more P [] n all one = (one, tt)
every_more P (m ∷ ns) n all one = (all.0, every_more P ns n all.1 one)

takes_more : (a : Arena) (t : Ty) (ns : List NodeId) (n : NodeId) (first element : Ty) → FoldTakes a t ns (first ∷ element ∷ []) → Fits a n element
    → FoldTakes a t (ns ++ n ∷ []) (first ∷ element ∷ [])
takes_more a t ns n first element h fits = (h.0, every_more (λ (m : NodeId). Fits a m element) ns n h.1 fits)

linked_kids : (kid : NodeId) (x : Expert) → kids_of_expert (with_link kid x) ≡ kids_of_expert x ++ kid ∷ []
linked_kids kid x = sym (append_assoc x.taken x.fresh (kid ∷ []))

same_function : (f g : FnRef) (v w : Value) (ns ms : List NodeId) → graph.Expert f v ns ≡ graph.Expert g w ms → f ≡ g
same_function f g v w ns ms e = cc

-- who may be listed may be so by a live expert
pub list_created : (parts : Parts) (e kid : NodeId) → PartsKept parts → MayList parts.arena e kid → IsCreated parts.work.experts e
list_created parts e kid kept may =
    live_created parts.arena parts.work e may.row may.function may.first may.kids kept.work may.is_row may.is_expert

module _ (old new : Parts) (e kid : NodeId) (kept : PartsKept old) (may : MayList old.arena e kid) (given : Given old.arena.given kid)
    (change : ExpertChanges old.work.experts new.work.experts e (Some (with_link kid (expert_of old.work.experts e))))
    (marked : IsMarked old.work.graph new.work.graph (main e)) (step : IsInStep new.work.graph)
    (among : Needed old.work.graph (main e) → Among (main e) new.work.todo.items)
    (still : (p : Point) → Among p old.work.todo.items → Among p new.work.todo.items)
    (rest : new ≡ record old { work = record old.work { experts = new.work.experts; graph = new.work.graph; todo = new.work.todo } }) where
  created : IsCreated old.work.experts e
  created = list_created old e kid kept may

  abbrev linked : Expert
  linked = with_link kid (expert_of old.work.experts e)

  abbrev listed : Work
  listed = record old.work { experts = new.work.experts; todo = new.work.todo }

  all_given : Every (Given old.arena.given) (kids_of_expert linked)
  all_given = subst (Every (Given old.arena.given)) (sym (linked_kids kid (expert_of old.work.experts e)))
      (every_more (Given old.arena.given) (kids_of_expert (expert_of old.work.experts e)) kid (kept.work.listed e) given)

  takes : (r : Row) (f : FnRef) (v : Value) (ns : List NodeId) → row_at old.arena e ≡ Some r → r.def ≡ graph.Expert f v ns
      → FoldTakes old.arena r.ty (kids_of_expert linked) f.sig.takes
  takes r f v ns row is =
      let same = same_some (sym row ∙ may.is_row) in
      let one = same_function f may.function v may.first ns may.kids (sym is ∙ (ap (λ (x : Row). x.def) same ∙ may.is_expert)) in
      let tys = ap (λ (g : FnRef). g.sig.takes) one ∙ may.takes in
      subst (FoldTakes old.arena r.ty (kids_of_expert linked)) (sym tys)
      (subst (λ (kids : List NodeId). FoldTakes old.arena r.ty kids (may.function.sig.gives ∷ may.element ∷ []))
      (sym (linked_kids kid (expert_of old.work.experts e)))
      (takes_more old.arena r.ty (kids_of_expert (expert_of old.work.experts e)) kid may.function.sig.gives may.element
      (subst (FoldTakes old.arena r.ty (kids_of_expert (expert_of old.work.experts e))) tys (kept.work.lists e r f v ns row is)) may.fits))

  listed_kept : IsKept old.arena listed
  listed_kept = relisted_kept old.arena old.work new.work e linked kept.work created change all_given takes

  work_kept : IsKept old.arena (record listed { graph = new.work.graph })
  work_kept = marked_kept old.arena listed new.work.graph e listed_kept (created_row old.arena old.work e kept.work created) marked step

  stays : (M : Meaning) → IsReady M old
      → Stays old.arena old.arena old.work (record old.work { experts = new.work.experts; graph = new.work.graph; todo = new.work.todo })
  stays M ready = relisted_stays old.arena old.work new.work e linked kept.work created change (main_full old new e created M ready)
      need
      (λ p n h. heap_marked old.arena old.work new.work.graph e kept.work (created_row old.arena old.work e kept.work created) marked step p (need p n) h)
      (λ n. marked.told (need (main e) n))
      (λ p q n ne. ap (λ (l : Links). times l p q) marked.graph.links)
      (λ n q. let l = ap (λ (x : Links). times x (main e) q) marked.graph.links in omega (arith, l))
      still
      (λ n some. inr (among (need (main e) n)))
    where
      need : (p : Point) → Needed new.work.graph p → Needed old.work.graph p
      need p n = need_same new.work.graph old.work.graph (sym marked.graph.links) (sym marked.graph.roots) p n

  pub gains_link : ((p : Point) → Among p new.work.todo.items → Among p old.work.todo.items ⊎ (p ≡ main e)) → GainsLink old new e kid
  gains_link only = record {
    experts = change;
    marked = marked;
    listed = among;
    still = still;
    only = only;
    rest = rest;
    kept = relisted_parts old new e created kept work_kept stays rest;
    ready = relisted_ready old new e created kept work_kept stays rest;
  }

-- ---- nothing was linked

module _ (old new : Parts) (kept : PartsKept old) (experts : KeepsExperts old.work.experts new.work.experts)
    (todo : new.work.todo.items ≡ old.work.todo.items)
    (rest : new ≡ record old { work = record old.work { experts = new.work.experts; todo = new.work.todo } }) where
  abbrev unlinked : Parts
  unlinked = record old { work = record old.work { experts = new.work.experts; todo = new.work.todo } }

  same : KeepsWork old.work unlinked.work
  same = record {
    rows = λ p. refl;
    points = λ p. refl;
    links = refl;
    roots = refl;
    heap = λ p. refl;
    todo = todo;
    round = record { roots = refl; deaths = refl; ran = refl; retries = refl; round = refl; experts = refl };
    ran = refl;
    room = omega arith;
    experts = experts;
  }

  pub gains_nothing : GainsNothing old new
  gains_nothing = record {
    experts = experts;
    todo = todo;
    rest = rest;
    kept = subst PartsKept (sym rest) (back_parts old unlinked kept same kept.work.step (λ n live a. a) (λ n live a. a) (omega arith) refl);
    ready = λ M ready. subst (IsReady M) (sym rest)
        (back_ready old unlinked kept same kept.work.step (λ n live a. a) (λ n live a. a) (omega arith) refl M ready);
  }
