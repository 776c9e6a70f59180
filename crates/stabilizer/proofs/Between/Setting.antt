-- A variable is set to another value.
use Rattle.std.proofs.Common.{ℤ, ◌≡◌, ◌⊎◌, inl, inr, ◌≤◌, false, List, Option, Some, refl, sym, ap, subst, ◌∙◌, arith, None, Vec, Global}
use Rattle.std.specs.Prelude.{is_some, IsSome, vec_capacity}
use Rattle.std.proofs.lemmas.Option.{none-some}
use Rattle.inc_value.specs.Choice.{Among, Every}
use Rattle.expert_nodes.specs.Experts.{ExpertPlace, expert_at, kids_at}
use Rattle.inc_value.specs.declared.function.FnRef.{FnRef}
use Rattle.inc_value.specs.declared.node.NodeId.{NodeId}
use Rattle.inc_value.specs.declared.node.Part.{Part}
use Rattle.inc_value.specs.declared.node.Part.TheVariants.{Main, Change}
use Rattle.inc_value.specs.declared.node.Point.{Point}
use Rattle.inc_value.specs.declared.outcome.Outcome.{Outcome}
use Rattle.inc_value.specs.declared.ty.Ty.{Ty}
use Rattle.inc_value.specs.declared.value.Value.{Value}
use Rattle.inc_terms.specs.declared.def.Def as declared
use Rattle.inc_terms.specs.declared.def.Def.TheVariants as form
use Rattle.inc_terms.specs.Code.{def_of}
use Rattle.inc_terms.specs.Clock.{clock_value}
use Rattle.inc_terms.specs.Depend.{main, change, subject_of, right_of}
use Rattle.inc_terms.specs.Graph as graph
use Rattle.inc_terms.specs.Graph.{Row, Def, Var}
use Rattle.inc_terms.specs.Within.{Given}
use Rattle.point_map.specs.Rows.{Rows, at, Holds}
use Rattle.point_map.proofs.Places.{point_cases}
use Rattle.link_table.specs.Links.{Links, times, Reads}
use Rattle.necessary_graph.specs.Part.{Needed, IsInStep}
use Rattle.node_arena.specs.Arena.{Arena, live, row_at, IsSet, IsVariable, with_value}
use Rattle.node_arena.specs.Sound.{IsSoundArena}
use Rattle.node_arena.specs.Typing.{Fits, FoldTakes}
use Rattle.node_outcomes.specs.Computing.{CallFits, has_part, is_expert, is_expert_def, IsOfType}
use Rattle.stabilize_round.specs.State.{Call}
use Rattle.stabilize_round.proofs.Points.{node_or_other}
use Rattle.stabilizer.specs.Between.{Stays, StandsAs}
use Rattle.wiring.specs.Wiring.{IsMarked, KeepsLists, KeepsRound}
use Rattle.wiring.specs.Kept.{IsKept, IsDead, IsBind, IsFreeze, IsTop, FitsRoom}
use Rattle.inc_terms.specs.Work.{taken_by}
use Rattle.node_outcomes.specs.Row.{outcome_in}
use Rattle.node_outcomes.specs.Progress.{Progress}
use Rattle.wiring.specs.declared.work.Work.{Work}
use Rattle.wiring.proofs.Agreeing.{code_row}
use Rattle.stabilizer.specs.Kept.{PartsKept}
use Rattle.stabilizer.specs.Round.{IsReady}
use Rattle.stabilizer.specs.declared.parts.Parts.{Parts}
use Rattle.stabilizer.proofs.Between.Alone.{needed_row}
use Rattle.stabilizer.proofs.Between.Staying.{ready_stays}
use Rattle.wiring.proofs.Agreeing.{same_some}
use Rattle.stabilizer.proofs.Between.Fitting.{set_fit}
use Rattle.stabilizer.proofs.Between.Keeping.{parts_stay}
use Rattle.timed_nodes.proofs.Watching.{clock_set}
use Rattle.node_outcomes.specs.Meaning.{Meaning}
use Rattle.wiring.proofs.Deciding.{need_same}
use Rattle.stabilizer.proofs.Round.Alive.{fewer_live}
use Rattle.stabilizer.proofs.Between.Typing.{KeepsTypes, call_still, folds_still, listed_still, typed_still, right_still}
use Rattle.wiring.proofs.Holding.{built_same, right_as, died_same, links_same, root_same, pairs_same, scoped_same}
use Rattle.wiring.specs.Graph.{held_at, graph_at}
use Rattle.node_outcomes.specs.Choosing.{built_by}
use Rattle.node_outcomes.proofs.Held.{built_live}

-- a live node that can't be told not to be a variable is one
by_form : (a : Arena) (id : NodeId) (row : Row) → row_at a id ≡ Some row → ((IsVariable a id → ⊥) → ⊥) → (d : declared.Def) → row.def ≡ def_of d
    → (w : Value) × (row.def ≡ Var w)
by_form a id row there not (form.Var w) e = (w, e)
by_form a id row there not _ e = absurd (not (λ x. let same : x.row ≡ row = same_some (sym x.there ∙ there) in
    let h = sym x.variable ∙ (ap (λ (y : Row). y.def) same ∙ e) in cc))

is_variable : (a : Arena) (id : NodeId) (row : Row) → row_at a id ≡ Some row → ((IsVariable a id → ⊥) → ⊥) → (w : Value) × (row.def ≡ Var w)
is_variable a id row there not = let d = code_row a id row there in by_form a id row there not d.0 d.1

-- a variable's row with another value
record IsAnother (id n : NodeId) (v : Value) (was r : Row) : Type 0 where
  pub is_id : n ≡ id
  pub is_now : r ≡ with_value was v
  pub value : Value
  pub is_was : was.def ≡ Var value

-- what the row of a node was: one of the same type, in the same scope; and the same one, but for the variable
record Before (before : Arena) (id n : NodeId) (v : Value) (r : Row) : Type 0 where
  pub was : Row
  pub is_was : row_at before n ≡ Some was
  pub type : was.ty ≡ r.ty
  pub scope : was.scope ≡ r.scope
  pub same : (was ≡ r) ⊎ IsAnother id n v was r

module _ (before arena : Arena) (old work : Work) (id : NodeId) (v : Value) (kept : IsKept before old) (set : IsSet before arena id v)
    (not_other : (IsVariable before id → ⊥) → ⊥) (given : arena.given ≡ before.given) (rows : work.rows ≡ old.rows)
    (marked : IsMarked old.graph work.graph (main id)) (step : IsInStep work.graph) (round : KeepsRound old work)
    (todo : work.todo.items ≡ old.todo.items) (lists : KeepsLists old work) (sound : IsSoundArena arena) where
  row_was : (n : NodeId) (r : Row) → row_at arena n ≡ Some r → Before before id n v r
  row_was n r e = elim (node_or_other n id) [
    | inl is ↦
        let now : with_value set.row v ≡ r = same_some (sym set.changes.changed ∙ (ap (row_at arena) (sym is) ∙ e)) in
        let variable = is_variable before id set.row set.there not_other in record {
          was = set.row;
          is_was = ap (row_at before) is ∙ set.there;
          type = ap (λ (x : Row). x.ty) now;
          scope = ap (λ (x : Row). x.scope) now;
          same = inr (record { is_id = is; is_now = sym now; value = variable.0; is_was = variable.1 });
        }
    | inr ne ↦ record { was = r; is_was = sym (set.changes.others n ne) ∙ e; type = refl; scope = refl; same = inl refl }
  ]

  -- a variable has one point, whatever its value
  var_part : (r : Row) (w : Value) (part : Part) → r.def ≡ Var w → has_part (Some (with_value r v)) part ≡ has_part (Some r) part
  var_part r w Main e = refl
  var_part r w Change e = sym (ap (λ (d : Def). is_some (subject_of d)) e)

  parts_as : (n : NodeId) (part : Part) → has_part (row_at arena n) part ≡ has_part (row_at before n) part
  parts_as n part = elim (node_or_other n id) [
    | inl is ↦ subst (λ (x : NodeId). has_part (row_at arena x) part ≡ has_part (row_at before x) part) (sym is)
        (let variable = is_variable before id set.row set.there not_other in
        ap (λ (x : Option Row). has_part x part) set.changes.changed
        ∙ (var_part set.row variable.0 part variable.1 ∙ sym (ap (λ (x : Option Row). has_part x part) set.there)))
    | inr ne ↦ ap (λ (x : Option Row). has_part x part) (set.changes.others n ne)
  ]

  types : KeepsTypes before arena
  types n r had e = let w = row_was n r e in (w.was, w.is_was, w.type)

  more : before.given ≤ arena.given
  more = omega (arith, given)

  same_rows : (p : Point) → at work.rows p ≡ at old.rows p
  same_rows p = ap (λ (m : Rows Progress). at m p) rows

  -- a variable isn't built, whatever its value, and other nodes are built as they were
  var_unbuilt : (a : Arena) (x : Work) (r : Row) (w : Value) → row_at a id ≡ Some r → r.def ≡ Var w → (held_at a x).built id ≡ None
  var_unbuilt a x r w row is = built_live x.rows x.roots id a x.experts r row
      ∙ ap (λ (d : Def). built_by d (outcome_in (at x.rows (change id))) (at x.roots (change id))) is

  built_as : (n : NodeId) → (held_at arena work).built n ≡ (held_at before old).built n
  built_as n = elim (node_or_other n id) [
    | inl is ↦ subst (λ (x : NodeId). (held_at arena work).built x ≡ (held_at before old).built x) (sym is)
        (let variable = is_variable before id set.row set.there not_other in
        var_unbuilt arena work (with_value set.row v) v set.changes.changed refl ∙ sym (var_unbuilt before old set.row variable.0 set.there variable.1))
    | inr ne ↦ built_same before arena old work n (set.changes.others n ne) (same_rows (change n)) round.roots
  ]

  -- a right side that is chosen now was chosen before
  right_was : (n m : NodeId) (r : Row) (o : Outcome) (w : Before before id n v r) → right_of (graph_at arena work) n r.def o ≡ Some m
      → right_of (graph_at before old) n w.was.def o ≡ Some m
  right_was n m r o w right = elim w.same [
    | inl same ↦ ap (λ (x : Row). right_of (graph_at before old) n x.def o) same ∙ right_as before arena old work n m r.def o (built_as n) right
    | inr h ↦ absurd (none-some m (sym (ap (λ (x : Row). right_of (graph_at arena work) n x.def o) h.is_now) ∙ right))
  ]

  subject_was : (n : NodeId) (r : Row) (w : Before before id n v r) → IsSome (subject_of r.def) → IsSome (subject_of w.was.def)
  subject_was n r w some = elim w.same [
    | inl same ↦ ap (λ (x : Row). is_some (subject_of x.def)) same ∙ some
    | inr h ↦ absurd (let e = sym (ap (λ (x : Row). is_some (subject_of x.def)) h.is_now) ∙ some in cc)
  ]

  -- a dead node was dead
  dead_still : (n : NodeId) → row_at before n ≡ None → row_at arena n ≡ None
  dead_still n dead = set.changes.others n (λ is. absurd (none-some set.row (sym dead ∙ (ap (row_at before) is ∙ set.there)))) ∙ dead

  still_dead : (n b : NodeId) → IsDead before n b → IsDead arena n b
  still_dead n b d = record {
    gone = dead_still n d.gone;
    given = rw given d.given;
    scope_given = rw given d.scope_given;
    scope_two = λ r row. let w = row_was b r row in elim w.same [
      | inl same ↦ subst (λ (x : Row). IsSome (subject_of x.def)) same (d.scope_two w.was w.is_was)
      | inr h ↦ absurd (let e = sym (ap (λ (x : Def). is_some (subject_of x)) h.is_was) ∙ d.scope_two w.was w.is_was in cc)
    ];
  }

  -- a bind is no variable, and keeps its row
  bind_stays : (b l : NodeId) (f : FnRef) (caps : List NodeId) (r : Row) → row_at before b ≡ Some r → r.def ≡ graph.Bind l f caps
      → row_at arena b ≡ Some r
  bind_stays b l f caps r row is = elim (node_or_other b id) [
    | inr ne ↦ set.changes.others b ne ∙ row
    | inl same ↦ absurd (
        let variable = is_variable before id set.row set.there not_other in
        let one : set.row ≡ r = same_some (sym set.there ∙ (ap (row_at before) (sym same) ∙ row)) in
        let e : graph.Var variable.0 ≡ graph.Bind l f caps = sym variable.1 ∙ (ap (λ (x : Row). x.def) one ∙ is) in cc)
  ]

  -- nor is a freeze
  freeze_stays : (n : NodeId) (r : Row) → row_at before n ≡ Some r → IsFreeze r.def → row_at arena n ≡ Some r
  freeze_stays n r row is = elim (node_or_other n id) [
    | inr ne ↦ set.changes.others n ne ∙ row
    | inl same ↦ absurd (
        let variable = is_variable before id set.row set.there not_other in
        let one : set.row ≡ r = same_some (sym set.there ∙ (ap (row_at before) (sym same) ∙ row)) in
        subst IsFreeze (sym (ap (λ (x : Row). x.def) one) ∙ variable.1) is)
  ]

  -- nor an expert
  expert_as : (n : NodeId) → is_expert (row_at arena n) ≡ is_expert (row_at before n)
  expert_as n = elim (node_or_other n id) [
    | inr ne ↦ ap is_expert (set.changes.others n ne)
    | inl is ↦ subst (λ (x : NodeId). is_expert (row_at arena x) ≡ is_expert (row_at before x)) (sym is)
        (let variable = is_variable before id set.row set.there not_other in
        ap is_expert set.changes.changed ∙ sym (ap is_expert set.there ∙ ap is_expert_def variable.1))
  ]

  -- last calls fit
  call_now : (n : NodeId) (r : Row) (l : Call) (w : Before before id n v r) → CallFits arena w.was.def w.was.ty l → CallFits arena r.def r.ty l
  call_now n r l w fits = elim w.same [
    | inl same ↦ subst (λ (x : Row). CallFits arena x.def x.ty l) same fits
    | inr h ↦ subst (λ (x : Row). CallFits arena x.def x.ty l) (sym h.is_now) (subst (λ (d : Def). CallFits arena d w.was.ty l) h.is_was fits)
  ]

  takes_was : (n : NodeId) (r : Row) (f : FnRef) (first : Value) (ns : List NodeId) (w : Before before id n v r) → r.def ≡ graph.Expert f first ns
      → FoldTakes before r.ty (kids_at old.experts n) f.sig.takes
  takes_was n r f first ns w is = elim w.same [
    | inl same ↦ subst (λ (t : Ty). FoldTakes before t (kids_at old.experts n) f.sig.takes) w.type
        (kept.lists n w.was f first ns w.is_was (ap (λ (x : Row). x.def) same ∙ is))
    | inr h ↦ absurd (let e : graph.Var v ≡ graph.Expert f first ns = sym (ap (λ (x : Row). x.def) h.is_now) ∙ is in cc)
  ]

  same_heights : (p : Point) → at work.graph.heights p ≡ at old.graph.heights p
  same_heights p = ap (λ (m : Rows _). at m p) marked.graph.heights

  -- no more nodes live
  pub no_more_live : live arena ≤ live before
  no_more_live = fewer_live before arena (λ n r e. ap is_some (row_was n r e).is_was)

  pub set_kept : IsKept arena work
  set_kept = record {
    step = step;
    rows = λ p. ap is_some (same_rows p) ∙ (kept.rows p ∙ sym (parts_as p.node p.part));
    leaves = λ p h. elim (kept.leaves p (ap is_some (sym (same_heights p)) ∙ h)) [
      | inl r ↦ inl (ap is_some (same_rows p) ∙ r)
      | inr d ↦ inr (dead_still p.node d.0, need_same old.graph work.graph marked.graph.links marked.graph.roots p d.1)
    ];
    there = λ p h. ap is_some (same_heights p) ∙ kept.there p (ap is_some (sym (same_rows p)) ∙ h);
    given = λ p h. rw given (kept.given p (ap is_some (sym (same_heights p)) ∙ h));
    links = λ p q l. links_same old work (λ x. ap is_some (same_rows x)) round.deaths p q
        (kept.links p q (subst (λ (x : Links). Reads x p q) marked.graph.links l));
    heap = λ p h. ap is_some (same_rows p) ∙ elim (point_cases p (main id)) [
      | inl is ↦ rw is (kept.rows (main id) ∙ ap (λ (x : Option Row). has_part x Main) set.there)
      | inr ne ↦ kept.heap p (sym (ap is_some (marked.others p ne)) ∙ h)
    ];
    sound = sound;
    dead = λ n b d. still_dead n b (kept.dead n b (sym (died_same old work round.deaths n) ∙ d));
    scopes = λ n r b row scope.
        let w = row_was n r row in
        let s = kept.scopes n w.was b w.is_was (w.scope ∙ scope) in
        (s.0, s.1, s.2, s.3, bind_stays b s.1 s.2 s.3 s.0 s.4 s.5, s.5);
    older = λ n b r row scope. let w = row_was n r row in kept.older n b w.was w.is_was (w.scope ∙ scope);
    outcomes = λ n r k o e is shows. let w = row_was n r e in
        subst (IsOfType arena o) w.type
        (typed_still before arena more types o w.was.ty (kept.outcomes n w.was k o w.is_was (sym (same_rows (main n)) ∙ is) shows));
    rights = λ n m r k o e is shows right. let w = row_was n r e in
        subst (λ (t : Ty). Given arena.given m × Fits arena m t) w.type
        (right_still before arena more types m w.was.ty
        (kept.rights n m w.was k o w.is_was (sym (same_rows (change n)) ∙ is) shows (right_was n m r o w right)));
    roots = λ n h. let v = kept.roots n (root_same old work round.roots (change n) h) in (v.0, ap outcome_in (same_rows (change n)) ∙ v.1);
    binds = λ n r row h.
        let w = row_was n r row in
        let b = kept.binds n w.was w.is_was (root_same old work round.roots (change n) h) in
        elim w.same [
          | inl same ↦ subst (λ (x : Row). IsBind x.def) same b
          | inr x ↦ absurd (let e = sym x.is_was ∙ b.3 in cc)
        ];
    calls = λ n r k l e is last. call_now n r l (row_was n r e) (let w = row_was n r e in
        call_still before arena more types w.was.def w.was.ty l (kept.calls n w.was k l w.is_was (sym (same_rows (main n)) ∙ is) last));
    rounds = λ p k e. rw round.round (kept.rounds p k (sym (same_rows p) ∙ e));
    pairs = λ n r e some. let w = row_was n r e in pairs_same old work lists n (kept.pairs n w.was w.is_was (subject_was n r w some));
    scoped = λ n r e some. let w = row_was n r e in scoped_same old work lists n (kept.scoped n w.was w.is_was (ap is_some w.scope ∙ some));
    experts = λ n. ap (λ (x : List ExpertPlace). is_some (expert_at x n)) round.experts ∙ (kept.experts n ∙ sym (expert_as n));
    listed = λ n. subst (λ (x : List ExpertPlace). Every (Given arena.given) (kids_at x n)) (sym round.experts)
        (listed_still before arena more types (kids_at old.experts n) (kept.listed n));
    lists = λ n r f w ns e is. subst (λ (x : List ExpertPlace). FoldTakes arena r.ty (kids_at x n) f.sig.takes) (sym round.experts)
        (folds_still before arena more types r.ty (kids_at old.experts n) f.sig.takes (kept.listed n) (takes_was n r f w ns (row_was n r e) is));
    tops = λ n r e top. let w = row_was n r e in elim w.same [
      | inl same ↦ sym w.scope ∙ kept.tops n w.was w.is_was (subst (λ (x : Row). IsTop x.def) (sym same) top)
      | inr h ↦ absurd (subst (λ (x : Row). IsTop x.def) h.is_now top)
    ];
    frozen = λ n k e on. let h = kept.frozen n k (sym (same_rows (main n)) ∙ e) on in
        record { row = h.row; is_row = freeze_stays n h.row h.is_row h.is_freeze; is_freeze = h.is_freeze; value = h.value; last = h.last };
    rooms = record {
      calls = λ n r k e is. let w = row_was n r e in elim w.same [
        | inl same ↦ subst (λ (x : Row). FitsRoom x k) same (kept.rooms.calls n w.was k w.is_was (sym (same_rows (main n)) ∙ is))
        | inr h ↦ subst (λ (x : Row). FitsRoom x k) (sym h.is_now) (omega arith)
      ];
      ran = subst (λ (l : Vec NodeId Global). live arena ≤ vec_capacity l) (sym round.ran) (let room = kept.rooms.ran in let few = no_more_live in omega (arith, room, few));
    };
  }

  need_before : (p : Point) → Needed work.graph p → Needed old.graph p
  need_before p n = need_same work.graph old.graph (sym marked.graph.links) (sym marked.graph.roots) p n

  -- a needed point of the variable is its main, which was put into the heap
  in_heap : (p : Point) (was : Row) {r : Row} (h : IsAnother id p.node v was r) → Needed work.graph p → row_at before p.node ≡ Some was
      → Holds work.graph.heap p
  in_heap p was h need there = by_part p.part refl
    where
      its : (part : Part) → p.part ≡ part → p ≡ record { node = id; part = part }
      its part is = ap (λ (x : Part). record { node = p.node; part = x }) is ∙ ap (λ (x : NodeId). record { node = x; part = part }) h.is_id

      by_part : (part : Part) → p.part ≡ part → Holds work.graph.heap p
      by_part Main is = let e = its Main is in
          subst (λ (x : Point). Holds work.graph.heap x) (sym e) (marked.told (need_before (main id) (subst (λ (x : Point). Needed work.graph x) e need)))
      by_part Change is =
          let k = needed_row before old kept p was (need_before p need) there in
          let none : has_part (row_at before p.node) p.part ≡ false =
          ap (has_part (row_at before p.node)) is ∙ (ap (λ (x : Option Row). has_part x Change) there ∙ ap (λ (d : Def). is_some (subject_of d)) h.is_was) in
          absurd (let has = sym (kept.rows p) ∙ ap is_some k.1 in cc)

  stands_still : (n b : NodeId) (r : Row) → row_at before n ≡ Some r → r.scope ≡ Some b → StandsAs arena n b r
  stands_still n b r row scope = elim (node_or_other n id) [
    | inr ne ↦ record { row = r; is_row = set.changes.others n ne ∙ row; scope = scope; same = inl refl }
    | inl is ↦
        let one : set.row ≡ r = same_some (sym set.there ∙ (ap (row_at before) (sym is) ∙ row)) in
        let variable = is_variable before id set.row set.there not_other in record {
          row = with_value set.row v;
          is_row = ap (row_at arena) is ∙ set.changes.changed;
          scope = ap (λ (x : Row). x.scope) one ∙ scope;
          same = inr (variable.0, ap (λ (x : Row). x.def) (sym one) ∙ variable.1);
        }
  ]

  pub set_stays : Stays before arena old work
  set_stays = record {
    needed = need_before;
    clock = λ p r need row. inr (ap (λ (t : ℤ). clock_value t r.def) set.changes.time);
    lists = λ p n. inl (record {
      links = λ q. ap (λ (x : Links). times x p q) marked.graph.links;
      expert = ap (λ (x : List ExpertPlace). expert_at x p.node) round.experts;
      listed = λ a. subst (Among p) (sym todo) a;
    });
    heap = λ p n h. elim (point_cases p (main id)) [
      | inl is ↦ subst (λ (x : Point). Holds work.graph.heap x) (sym is) (marked.told (need_before (main id) (subst (λ (x : Point). Needed work.graph x) is n)))
      | inr ne ↦ ap is_some (marked.others p ne) ∙ h
    ];
    rows = λ p n. same_rows p;
    nodes = λ p r need e. let w = row_was p.node r e in elim w.same [
      | inl same ↦ inl (w.is_was ∙ ap Some same)
      | inr h ↦ inr (in_heap p w.was h need w.is_was, w.was, v, h.value, w.is_was, h.is_was, h.is_now)
    ];
    calls = λ n r nodes k l e def is last. let w = row_was n r e in elim w.same [
      | inl same ↦ (w.is_was ∙ ap Some same, sym (same_rows (main n)) ∙ is)
      | inr h ↦ absurd (none-some nodes (sym (ap (λ (x : Row). taken_by (graph_at arena work) n x.def) h.is_now) ∙ def))
    ];
    runs = λ n s r o e def is. let w = row_was n r e in elim w.same [
      | inl same ↦ (w.is_was ∙ ap Some same, ap outcome_in (sym (same_rows (change n))) ∙ is)
      | inr h ↦ absurd (none-some s (sym (ap (λ (x : Row). subject_of x.def) h.is_now) ∙ def))
    ];
    unsettled = λ p k e. inl (sym (same_rows p) ∙ e);
    roots = λ n r row. ap (λ (m : Rows NodeId). at m (change n)) round.roots;
    outcomes = λ n was r there row. ap outcome_in (same_rows (change n));
    scoped = stands_still;
    entered = λ n b r row scope. let w = row_was n r row in (w.was, w.is_was, w.scope ∙ scope);
    deaths = round.deaths;
    ran = ap (λ (l : Vec NodeId Global). l.items) round.ran;
    retries = round.retries;
    round = round.round;
  }

-- parts are kept, and a round may begin with them
module _ (old new : Parts) (id : NodeId) (v : Value) (kept : PartsKept old) (set : IsSet old.arena new.arena id v)
    (not_other : (IsVariable old.arena id → ⊥) → ⊥) (given : new.arena.given ≡ old.arena.given)
    (marked : IsMarked old.work.graph new.work.graph (main id)) (step : IsInStep new.work.graph) (sound : IsSoundArena new.arena)
    (rest : new ≡ record old { arena = new.arena; work = record old.work { graph = new.work.graph } }) where
  abbrev work : Work
  work = record old.work { graph = new.work.graph }

  abbrev parts : Parts
  parts = record old { arena = new.arena; work = work }

  round_stays : KeepsRound old.work work
  round_stays = record { roots = refl; deaths = refl; ran = refl; retries = refl; round = refl; experts = refl }

  lists_stay : KeepsLists old.work work
  lists_stay = record { pairs = refl; scoped = refl }

  stays : Stays old.arena new.arena old.work work
  stays = set_stays old.arena new.arena old.work work id v kept.work set not_other given refl marked step round_stays refl lists_stay sound

  parts_kept : PartsKept parts
  parts_kept = parts_stay old parts kept
      (set_kept old.arena new.arena old.work work id v kept.work set not_other given refl marked step round_stays refl lists_stay sound)
      stays refl refl
      (clock_set old.arena new.arena old.timed id v kept.clock set (is_variable old.arena id set.row set.there not_other) given)
      (let room = kept.listing in
      let few = no_more_live old.arena new.arena old.work work id v kept.work set not_other given refl marked step round_stays refl lists_stay sound in
      omega (arith, room, few))

  pub set_parts : PartsKept new
  set_parts = subst PartsKept (sym rest) parts_kept

  pub set_ready : (M : Meaning) → IsReady M old → IsReady M new
  set_ready M ready = subst (IsReady M) (sym rest)
      (ready_stays M old parts ready (set_fit M old.arena new.arena id ready.fit v set given) parts_kept stays)
