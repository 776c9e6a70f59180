-- An expert has another list, or is stale: what is kept, and what stays between rounds.
use Rattle.std.proofs.Common.{◌≡◌, ◌≢◌, ◌⊎◌, inl, inr, ◌+◌, true, List, [], ◌∷◌, ◌++◌, map, Option, None, Some, refl, sym, ap, subst, ◌∙◌, arith}
use Rattle.std.specs.Prelude.{is_some, IsSome}
use Rattle.std.proofs.lemmas.List.{map-append}
use Rattle.inc_value.specs.Choice.{Among, Every}
use Rattle.inc_value.specs.declared.function.FnRef.{FnRef}
use Rattle.inc_value.specs.declared.node.NodeId.{NodeId}
use Rattle.inc_value.specs.declared.node.Part.{Part}
use Rattle.inc_value.specs.declared.node.Part.TheVariants.{Main, Change}
use Rattle.inc_value.specs.declared.node.Point.{Point}
use Rattle.inc_value.specs.declared.outcome.Outcome.{Outcome}
use Rattle.inc_value.specs.declared.value.Value.{Value}
use Rattle.inc_terms.specs.Depend.{main, change, fixed_reads, subject_of}
use Rattle.inc_terms.specs.Graph as graph
use Rattle.inc_terms.specs.Graph.{Graph, Row, Def}
use Rattle.inc_terms.specs.Plan.{gate_of, plan, targets}
use Rattle.inc_terms.specs.Within.{Given}
use Rattle.point_map.specs.Rows.{at, Holds}
use Rattle.point_map.proofs.Places.{point_cases}
use Rattle.expert_nodes.specs.Experts.{Expert, ExpertChanges, IsCreated, expert_at, expert_in, expert_of, kids_of_expert, taken_at}
use Rattle.link_table.specs.Links.{times}
use Rattle.necessary_graph.specs.Part.{NecessaryPart, Needed, IsInStep}
use Rattle.node_arena.specs.Arena.{Arena, row_at}
use Rattle.node_arena.specs.Typing.{FoldTakes}
use Rattle.node_outcomes.specs.Computing.{has_part, is_expert, is_expert_def}
use Rattle.node_outcomes.specs.Row.{stage_in}
use Rattle.node_outcomes.specs.declared.row.Stage.TheVariants.{Full}
use Rattle.stabilize_round.specs.State.{count}
use Rattle.stabilize_round.proofs.Points.{count_append, node_or_other}
use Rattle.wiring.specs.Graph.{graph_at}
use Rattle.wiring.specs.Kept.{IsKept}
use Rattle.wiring.specs.Stands.{owes}
use Rattle.wiring.specs.Wiring.{IsMarked}
use Rattle.wiring.specs.declared.work.Work.{Work}
use Rattle.wiring.proofs.Agreeing.{no_target}
use Rattle.wiring.proofs.Holding.{links_same, right_as}
use Rattle.wiring.proofs.Owing.{owes_fresh}
use Rattle.wiring.proofs.Reading.{read_still}
use Rattle.node_outcomes.specs.Meaning.{Meaning}
use Rattle.stabilizer.specs.Between.{HasAnotherList, HasItsLinks, Stays, out_of}
use Rattle.stabilizer.specs.Kept.{PartsKept}
use Rattle.stabilizer.specs.Round.{IsReady}
use Rattle.stabilizer.specs.declared.parts.Parts.{Parts}
use Rattle.stabilizer.proofs.Between.Alone.{main_is, needed_row, ready_is_between, row_of}
use Rattle.stabilizer.proofs.Between.Keeping.{fit_still, kept_in_graph}
use Rattle.stabilizer.proofs.Between.Staying.{ready_stays}

-- ---- experts

expert_def : (def : Def) → is_expert_def def ≡ true → (f : FnRef) × (v : Value) × (ns : List NodeId) × (def ≡ graph.Expert f v ns)
expert_def (graph.Expert f v ns) e = (f, v, ns, refl)
expert_def _ e = absurd (cc)

no_subject : (def : Def) → is_expert_def def ≡ true → IsSome (subject_of def) → ⊥
no_subject def e some = let d = expert_def def e in absurd (let f = sym (ap (λ (x : Def). is_some (subject_of x)) d.3) ∙ some in cc)

expert_in_row : (x : Option Row) → is_expert x ≡ true → (r : Row) × (x ≡ Some r) × (is_expert_def r.def ≡ true)
expert_in_row None e = absurd (cc)
expert_in_row (Some r) e = (r, refl, e)

-- an expert that was created is live
pub expert_row : (arena : Arena) (work : Work) (e : NodeId) → IsKept arena work → IsCreated work.experts e
    → (r : Row) × (row_at arena e ≡ Some r) × (is_expert_def r.def ≡ true)
expert_row arena work e kept created = expert_in_row (row_at arena e) (sym (kept.experts e) ∙ created)

pub created_row : (arena : Arena) (work : Work) (e : NodeId) → IsKept arena work → IsCreated work.experts e → Holds work.rows (main e)
created_row arena work e kept created =
    let r = expert_row arena work e kept created in let k = row_of arena work kept e r.0 r.1 in ap is_some k.1

-- a live expert was created
pub live_created : (arena : Arena) (work : Work) (e : NodeId) (r : Row) (f : FnRef) (v : Value) (ns : List NodeId) → IsKept arena work
    → row_at arena e ≡ Some r → r.def ≡ graph.Expert f v ns → IsCreated work.experts e
live_created arena work e r f v ns kept row is = kept.experts e ∙ (ap is_expert row ∙ ap is_expert_def is)

-- a needed point of an expert is its main
pub main_needed : (arena : Arena) (work : Work) (e : NodeId) → IsKept arena work → IsCreated work.experts e → (p : Point) → Needed work.graph p
    → p.node ≡ e → p ≡ main e
main_needed arena work e kept created p need is = by_part p.part refl
  where
    by_part : (part : Part) → p.part ≡ part → p ≡ main e
    by_part Main part = main_is p part ∙ ap main is
    by_part Change part =
        let r = expert_row arena work e kept created in
        let row : row_at arena p.node ≡ Some r.0 = ap (row_at arena) is ∙ r.1 in
        let k = needed_row arena work kept p r.0 need row in
        absurd (no_subject r.0.def r.2 (sym (ap (λ (x : Option Row). has_part x Change) row)
        ∙ (sym (ap (has_part (row_at arena p.node)) part) ∙ (sym (kept.rows p) ∙ ap is_some k.1))))

-- ---- what is kept

module _ (arena : Arena) (old new : Work) (e : NodeId) (x : Expert) (kept : IsKept arena old) (created : IsCreated old.experts e)
    (change : ExpertChanges old.experts new.experts e (Some x)) (given : Every (Given arena.given) (kids_of_expert x))
    (fits : (r : Row) (f : FnRef) (v : Value) (ns : List NodeId) → row_at arena e ≡ Some r → r.def ≡ graph.Expert f v ns
    → FoldTakes arena r.ty (kids_of_expert x) f.sig.takes) where
  abbrev relisted : Work
  relisted = record old { experts = new.experts; todo = new.todo }

  pub relisted_kept : IsKept arena relisted
  relisted_kept = record {
    step = kept.step;
    rows = kept.rows;
    leaves = kept.leaves;
    there = kept.there;
    given = kept.given;
    links = λ p q l. links_same old relisted (λ a. refl) refl p q (kept.links p q l);
    heap = kept.heap;
    dead = kept.dead;
    sound = kept.sound;
    scopes = kept.scopes;
    older = kept.older;
    outcomes = kept.outcomes;
    rights = λ n m r k o row is out right. kept.rights n m r k o row is out (right_as arena arena old relisted n m r.def o refl right);
    roots = kept.roots;
    binds = kept.binds;
    calls = kept.calls;
    rounds = kept.rounds;
    pairs = kept.pairs;
    scoped = kept.scoped;
    experts = λ n. elim (node_or_other n e) [
      | inl is ↦ subst (λ (m : NodeId). is_some (expert_at new.experts m) ≡ is_expert (row_at arena m)) (sym is)
          (ap is_some change.changed ∙ (sym created ∙ kept.experts e))
      | inr ne ↦ ap is_some (change.others n ne) ∙ kept.experts n
    ];
    listed = λ n. elim (node_or_other n e) [
      | inl is ↦ subst (λ (y : Option Expert). Every (Given arena.given) (kids_of_expert (expert_in y)))
          (sym (ap (expert_at new.experts) is ∙ change.changed)) given
      | inr ne ↦ subst (λ (y : Option Expert). Every (Given arena.given) (kids_of_expert (expert_in y))) (sym (change.others n ne)) (kept.listed n)
    ];
    lists = λ n r f v ns row is. elim (node_or_other n e) [
      | inl same ↦ subst (λ (y : Option Expert). FoldTakes arena r.ty (kids_of_expert (expert_in y)) f.sig.takes)
          (sym (ap (expert_at new.experts) same ∙ change.changed)) (fits r f v ns (ap (row_at arena) (sym same) ∙ row) is)
      | inr ne ↦ subst (λ (y : Option Expert). FoldTakes arena r.ty (kids_of_expert (expert_in y)) f.sig.takes) (sym (change.others n ne))
          (kept.lists n r f v ns row is)
    ];
    tops = kept.tops;
    frozen = kept.frozen;
    rooms = record { calls = kept.rooms.calls; ran = kept.rooms.ran };
  }

-- a point with a row is in the heap
module _ (arena : Arena) (old : Work) (g : NecessaryPart) (e : NodeId) (kept : IsKept arena old) (row : Holds old.rows (main e))
    (marked : IsMarked old.graph g (main e)) (step : IsInStep g) where
  pub marked_kept : IsKept arena (record old { graph = g })
  marked_kept = kept_in_graph arena old (record old { graph = g }) kept marked.graph step in_heap (λ p. refl) (fit_still arena old (record old { graph = g }) kept
      (λ p. refl) refl) refl (λ n h. refl) refl refl (record { pairs = refl; scoped = refl }) (read_still old.experts) refl
    where
      in_heap : (p : Point) → Holds g.heap p → Holds old.rows p
      in_heap p h = elim (point_cases p (main e)) [
        | inl is ↦ subst (Holds old.rows) (sym is) row
        | inr ne ↦ kept.heap p (sym (ap is_some (marked.others p ne)) ∙ h)
      ]

  -- what is needed and was in the heap is
  pub heap_marked : (p : Point) → Needed old.graph p → Holds old.graph.heap p → Holds g.heap p
  heap_marked p need h = elim (point_cases p (main e)) [
    | inl is ↦ subst (Holds g.heap) (sym is) (marked.told (subst (Needed old.graph) is need))
    | inr ne ↦ ap is_some (marked.others p ne) ∙ h
  ]

-- ---- an expert's links

-- those that an expert has and is owed
plan_counts : (G : Graph) (out : Point → Option Outcome) (e : NodeId) (r : Row) (q : Point) → is_expert_def r.def ≡ true
    → count q (plan G out (main e) r) ≡ count q (gate_of r.scope) + count q (map main (G.lists e))
plan_counts G out e r q is =
    let d = expert_def r.def is in
    let reads = ap (λ (def : Def). gate_of r.scope ++ (fixed_reads G e def Main ++ targets G e def (out (change e)))) d.3 in
    let none = ap (λ (xs : List Point). gate_of r.scope ++ (map main (G.lists e) ++ xs))
    (no_target G e (graph.Expert d.0 d.1 d.2) refl (out (change e))) in
    let all = ap (count q) (reads ∙ none) in
    let one = count_append q (gate_of r.scope) (map main (G.lists e) ++ []) in
    let two = count_append q (map main (G.lists e)) [] in
    omega (arith, all, one, two)

list_counts : (x : Expert) (q : Point) → count q (map main (kids_of_expert x)) ≡ count q (map main x.taken) + count q (map main x.fresh)
list_counts x q = ap (count q) (map-append main x.taken x.fresh) ∙ count_append q (map main x.taken) (map main x.fresh)

-- with all its links an expert is linked to its gate and to those that were taken up
pub has_taken : (arena : Arena) (work : Work) (e : NodeId) → IsKept arena work → IsCreated work.experts e → stage_in (at work.rows (main e)) ≡ Some Full
    → (r : Row) → row_at arena e ≡ Some r → HasItsLinks arena work (main e) r
    → (q : Point) → times work.graph.links (main e) q ≡ count q (gate_of r.scope) + count q (map main (taken_at work.experts e))
has_taken arena work e kept created full r row had q =
    let is : is_expert_def r.def ≡ true = sym (ap is_expert row) ∙ (sym (kept.experts e) ∙ created) in
    let before = had q in
    let o = ap (count q) (owes_fresh work (main e) full) in
    let p = plan_counts (graph_at arena work) (out_of work) e r q is in
    let l = list_counts (expert_of work.experts e) q in
    omega (arith, before, o, p, l)

map_none : (ns : List NodeId) → map main ns ≡ [] → ns ≡ []
map_none [] e = refl
map_none (n ∷ ns) e = absurd (cc)

-- ---- what stays

module _ (arena : Arena) (old new : Work) (e : NodeId) (x : Expert) (kept : IsKept arena old) (created : IsCreated old.experts e)
    (change : ExpertChanges old.experts new.experts e (Some x))
    (full : Needed old.graph (main e) → stage_in (at old.rows (main e)) ≡ Some Full)
    (need : (p : Point) → Needed new.graph p → Needed old.graph p)
    (heap : (p : Point) → Needed new.graph p → Holds old.graph.heap p → Holds new.graph.heap p)
    (in_heap : Needed new.graph (main e) → Holds new.graph.heap (main e))
    (links : (p q : Point) → Needed new.graph p → p ≢ main e → times new.graph.links p q ≡ times old.graph.links p q)
    (own : Needed new.graph (main e) → (q : Point) → times new.graph.links (main e) q + count q (map main (expert_of old.experts e).taken)
    ≡ times old.graph.links (main e) q + count q (map main x.taken))
    (todo : (p : Point) → Among p old.todo.items → Among p new.todo.items)
    (grows : Needed new.graph (main e) → (x.fresh ≡ [] → ⊥) → ((expert_of old.experts e).fresh ≡ [] → ⊥) ⊎ Among (main e) new.todo.items) where
  abbrev work : Work
  work = record old { experts = new.experts; graph = new.graph; todo = new.todo }

  expert_now : expert_of new.experts e ≡ x
  expert_now = ap expert_in change.changed

  owes_old : Needed new.graph (main e) → owes old true (main e) ≡ map main (expert_of old.experts e).fresh
  owes_old n = owes_fresh old (main e) (full (need (main e) n))

  owes_now : Needed new.graph (main e) → owes work true (main e) ≡ map main x.fresh
  owes_now n = owes_fresh work (main e) (full (need (main e) n)) ∙ ap (λ (y : Expert). map main y.fresh) expert_now

  has_links : Needed new.graph (main e) → (r : Row) → row_at arena e ≡ Some r → HasItsLinks arena old (main e) r → HasItsLinks arena work (main e) r
  has_links n r row had q =
      let is : is_expert_def r.def ≡ true = sym (ap is_expert row) ∙ (sym (kept.experts e) ∙ created) in
      let before = had q in
      let o = ap (count q) (owes_old n) in
      let o' = ap (count q) (owes_now n) in
      let p = plan_counts (graph_at arena old) (out_of old) e r q is in
      let p' = plan_counts (graph_at arena work) (out_of work) e r q is in
      let l = list_counts (expert_of old.experts e) q in
      let l' = ap (λ (y : Expert). count q (map main (kids_of_expert y))) expert_now ∙ list_counts x q in
      let t = own n q in
      omega (arith, before, o, o', p, p', l, l', t)

  another : Needed new.graph (main e) → HasAnotherList arena arena old work (main e)
  another n = record {
    heap = in_heap n;
    row = refl;
    links = λ r row had. has_links n r row had;
    owing = λ had some. elim (grows n (λ none. some (owes_now n ∙ ap (map main) none))) [
      | inl was ↦ todo (main e) (had (λ none. was (map_none (expert_of old.experts e).fresh (sym (owes_old n) ∙ none))))
      | inr now ↦ now
    ];
  }

  pub relisted_stays : Stays arena arena old work
  relisted_stays = record {
    needed = need;
    clock = λ p r n row. inr refl;
    lists = λ p n. elim (node_or_other p.node e) [
      | inl is ↦
          let at_main = main_needed arena old e kept created p (need p n) is in
          inr (subst (HasAnotherList arena arena old work) (sym at_main) (another (subst (Needed new.graph) at_main n)))
      | inr ne ↦ inl (record {
        links = λ q. links p q n (λ is. ne (ap (λ (y : Point). y.node) is));
        expert = change.others p.node ne;
        listed = todo p;
      })
    ];
    heap = heap;
    rows = λ p n. refl;
    nodes = λ p r n row. inl row;
    calls = λ n r ns k c row def is last. (row, is);
    runs = λ n s r o row def is. (row, is);
    unsettled = λ p k is. inl is;
    roots = λ n r row. refl;
    outcomes = λ n was r there row. refl;
    scoped = λ n b r row scope. record { row = r; is_row = row; scope = scope; same = inl refl };
    entered = λ n b r row scope. (r, row, scope);
    deaths = refl;
    ran = refl;
    retries = refl;
    round = refl;
  }

-- ---- the parts

module _ (old new : Parts) (e : NodeId) (created : IsCreated old.work.experts e) where
  -- where a round may begin a needed expert has its links
  pub main_full : (M : Meaning) → IsReady M old → Needed old.work.graph (main e) → stage_in (at old.work.rows (main e)) ≡ Some Full
  main_full M ready need =
      let b = ready_is_between M old ready in
      let r = expert_row old.arena old.work e b.kept created in
      let k = row_of old.arena old.work b.kept e r.0 r.1 in
      ap stage_in k.1 ∙ ap Some (b.full (main e) k.0 need k.1)

  module _ (kept : PartsKept old) (work : IsKept old.arena (record old.work { experts = new.work.experts; graph = new.work.graph; todo = new.work.todo }))
      (stays : (M : Meaning) → IsReady M old
      → Stays old.arena old.arena old.work (record old.work { experts = new.work.experts; graph = new.work.graph; todo = new.work.todo }))
      (rest : new ≡ record old { work = record old.work { experts = new.work.experts; graph = new.work.graph; todo = new.work.todo } }) where
    abbrev parts : Parts
    parts = record old { work = record old.work { experts = new.work.experts; graph = new.work.graph; todo = new.work.todo } }

    parts_kept : PartsKept parts
    parts_kept = record { work = work; scopes = kept.scopes; dying = kept.dying; clock = kept.clock; listing = kept.listing }

    pub relisted_parts : PartsKept new
    relisted_parts = subst PartsKept (sym rest) parts_kept

    pub relisted_ready : (M : Meaning) → IsReady M old → IsReady M new
    relisted_ready M ready = subst (IsReady M) (sym rest) (ready_stays M old parts ready ready.fit parts_kept (stays M ready))

-- where the worklist stays, it may be named
pub with_todo : (old new : Parts) → new ≡ record old { work = record old.work { experts = new.work.experts; graph = new.work.graph } }
    → new ≡ record old { work = record old.work { experts = new.work.experts; graph = new.work.graph; todo = new.work.todo } }
with_todo old new rest = rest ∙ sym (ap (λ (p : Parts). record old {
  work = record old.work {
    experts = new.work.experts;
    graph = new.work.graph;
    todo = p.work.todo;
  };
}) rest)
