-- The main of a bind that is to be built anew loses its right side.
use Rattle.std.proofs.Common.{◌≡◌, ◌⊎◌, inl, inr, ℕ, ◌<◌, ◌++◌, true, false, List, [], map, Option, None, Some, refl, sym, ap, subst, ◌∙◌, arith}
use Rattle.std.specs.Prelude.{is_some, option_map}
use Rattle.std.proofs.lemmas.Option.{none-some}
use Rattle.inc_value.specs.declared.node.NodeId.{NodeId}
use Rattle.inc_value.specs.declared.node.Part.TheVariants.{Main, Change}
use Rattle.inc_value.specs.declared.node.Point.{Point}
use Rattle.inc_value.specs.declared.outcome.Outcome.{Outcome}
use Rattle.inc_value.specs.Choice.{Among, Reaches, here}
use Rattle.inc_terms.specs.Depend.{main, change, subject_of, fixed_reads, at_most_one}
use Rattle.inc_terms.specs.Graph.{Graph, Row}
use Rattle.inc_terms.specs.Plan.{targets, gate_of}
use Rattle.inc_terms.specs.Term.{Functions}
use Rattle.expert_nodes.specs.Experts.{fresh_at}
use Rattle.point_map.specs.Rows.{Rows, at, Holds}
use Rattle.link_table.specs.Links.{Links, times, Reads}
use Rattle.height_order.specs.Levels.{level, Ends, Rises, AllLow}
use Rattle.necessary_graph.specs.Part.{Needed, IsInStep}
use Rattle.node_arena.specs.Arena.{Arena, row_at}
use Rattle.stabilize_round.specs.Invariant.{Invariant}
use Rattle.stabilize_round.specs.State as machine
use Rattle.stabilize_round.specs.State.{State, Start, count, planned, live_plan, plan_at}
use Rattle.stabilize_round.specs.Steps.{TakingOff}
use Rattle.stabilize_round.specs.Wire.{Drop}
use Rattle.stabilize_round.proofs.Points.{same_or_other, count_append, among_count}
use Rattle.node_outcomes.specs.Choosing.{right_in}
use Rattle.node_outcomes.specs.Computing.{AreExperts, has_part}
use Rattle.node_outcomes.specs.Row.{stage_in, stage_of, outcome_in, with_stage}
use Rattle.node_outcomes.specs.Progress.{Progress}
use Rattle.node_outcomes.specs.declared.row.Stage.TheVariants as code
use Rattle.wiring.specs.Kept.{IsKept}
use Rattle.wiring.specs.Stands.{MatchesState, Counts}
use Rattle.wiring.specs.Turning.{IsAttached, IsDetached}
use Rattle.wiring.specs.Wiring.{IsMarked, KeepsPlaces}
use Rattle.wiring.specs.declared.work.Work.{Work}
use Rattle.wiring.proofs.Deciding.{need_same}
use Rattle.wiring.proofs.GoingBack.{IsLowered, lowered_alone, lowered_kept, lowered_places, lowered_heap, need_before}
use Rattle.wiring.proofs.Holding.{targets_at}
use Rattle.wiring.proofs.Detaching.{change_is_other, attached_still}
use Rattle.wiring.proofs.Scheduling.{marked_kept, marked_places, marked_need}
use Rattle.wiring.proofs.TakingOff.{MayLower, scheduled, row_at_stage, takes, stands_off}
use Rattle.wiring.proofs.TakingOne.{loose_lowered, one_taken}
use Rattle.wiring.proofs.Owing.{owes_none}
use Rattle.stabilizer.specs.Dying.{LosesRight}
use Rattle.stabilizer.proofs.Step.Experts.{pair_plain, plain_fresh}

some_of : (x : Option NodeId) → is_some x ≡ true → (m : NodeId) × (x ≡ Some m)
some_of None e = absurd (cc)
some_of (Some m) e = (m, refl)

-- ---- a main that has no right side waits again: no link comes off

module _ (arena : Arena) (old new : Work) (n k : NodeId) (r : Row) (row : row_at arena n ≡ Some r) (sub : subject_of r.def ≡ Some k)
    (own_row : Holds old.rows (change n)) (attached : IsAttached old n) (right : right_in old.rows old.roots n r.def ≡ None)
    (marked : IsMarked old.graph old.graph (change n)) (chosen : Option NodeId) (loose : IsDetached old new n chosen)
    (same : new.graph ≡ loose.mid.graph) (step_old : IsInStep old.graph) (step_new : IsInStep new.graph) (F : Functions) (z : Start) (s : State)
    (counts : Counts) (inv : Invariant F z s) (st : MatchesState arena old counts None s) (unsettled : s.settled (change n) ≡ false)
    (unlisted : fresh_at old.experts n ≡ []) where
  alone_back : IsLowered old new (main n) (change n) code.Static loose.mid.graph.links
  alone_back = lowered_alone old old loose.mid new (main n) (change n) code.Static step_old marked refl loose.enqueued loose.rest loose.rows
      loose.last same step_new

  alone_row : s.graph.row n ≡ Some r
  alone_row = ap (λ (G : Graph). G.row n) st.graph ∙ row

  alone_need : s.needed (main n) ≡ true
  alone_need = (st.needed (main n)).1 attached.needed

  by_stage : (x : Option Progress) → at old.rows (main n) ≡ x → stage_in x ≡ Some code.Full → s.stage (main n) ≡ machine.Full
  by_stage None e f = absurd (none-some code.Full f)
  by_stage (Some p) e f = st.stage (main n) p e ∙ ap stage_of (is f)
    where
      is : ◌≡◌ {A = Option _} (Some p.stage) (Some code.Full) → p.stage ≡ code.Full
      is h = cc

  alone_full : s.stage (main n) ≡ machine.Full
  alone_full = by_stage (at old.rows (main n)) refl attached.stage

  out_own : (x : Option Progress) → at old.rows (change n) ≡ x → is_some x ≡ true → s.out (change n) ≡ outcome_in x
  out_own None e h = absurd (cc)
  out_own (Some p) e h = st.out (change n) p e

  no_right : targets s.graph n r.def (s.out (change n)) ≡ []
  no_right = ap (λ (x : Option Outcome). targets s.graph n r.def x) (out_own (at old.rows (change n)) refl own_row)
      ∙ (ap (λ (G : Graph). targets G n r.def (outcome_in (at old.rows (change n)))) st.graph
      ∙ (targets_at arena old n r row ∙ ap (λ (x : Option NodeId). map main (at_most_one x)) right))

  abbrev static_plan : List Point
  static_plan = live_plan s.graph s.out (main n) r machine.Static

  linked_all : (b : Point) → times old.graph.links (main n) b ≡ count b static_plan
  linked_all b =
      let l = inv.rows.links (main n) b alone_need in
      let o : count b (s.owed (main n)) ≡ 0 = ap (count b) (st.owed (main n) ∙ owes_none old (s.needed (main n)) (main n) unlisted) in
      let p : planned s (main n) ≡ gate_of r.scope ++ (fixed_reads s.graph n r.def Main ++ targets s.graph n r.def (s.out (change n))) =
      ap (λ (x : Option Row). plan_at s.graph s.out s.died (main n) x (s.stage (main n))) alone_row
      ∙ ap (λ (x : machine.Stage). live_plan s.graph s.out (main n) r x) alone_full in
      let all = ap (count b) p in
      let one_part = count_append b (gate_of r.scope) (fixed_reads s.graph n r.def Main ++ targets s.graph n r.def (s.out (change n))) in
      let two = count_append b (fixed_reads s.graph n r.def Main) (targets s.graph n r.def (s.out (change n))) in
      let t : count b (targets s.graph n r.def (s.out (change n))) ≡ 0 = ap (count b) no_right in
      let mine = count_append b (gate_of r.scope) (fixed_reads s.graph n r.def Main) in
      let w = st.links (main n) b in
      omega (arith, l, o, all, one_part, two, t, mine, w)

  own_linked : 0 < s.links (main n) (change n)
  own_linked =
      let c = linked_all (change n) in let w = st.links (main n) (change n) in
      let a : Among (change n) (fixed_reads s.graph n r.def Main) = rw sub (inl refl) in
      let k = among_count (change n) (fixed_reads s.graph n r.def Main) a in
      let mine = count_append (change n) (gate_of r.scope) (fixed_reads s.graph n r.def Main) in
      omega (arith, c, w, k, mine)

  own_needed : s.needed (change n) ≡ true
  own_needed = inv.web.onto (main n) (change n) own_linked

  alone_drops : Drop (scheduled s alone_back.mid) (main n) r machine.Static (row_at_stage s (main n) r code.Static)
  alone_drops = record {
    row = alone_row;
    links = λ b. refl;
    fewer = λ b l. let was = linked_all b in let w = st.links (main n) b in omega (arith, l, was, w);
    bare = λ e. cc;
    full = λ e. cc;
    lower = λ e. inr alone_full;
    fresh = elim alone_back.told [ inl h ↦ inl h | inr h ↦ inr (st.settled (main n) ∙ h) ];
    gated = λ e. absurd (cc);
    static = λ e. (refl, k, sub, alone_back.waits ((st.needed (change n)).0 own_needed));
  }

  alone_may : MayLower s old new None (main n) (change n) code.Static loose.mid.graph.links r alone_back
  alone_may = record {
    need = alone_need;
    row = alone_row;
    waited_row = (r, alone_row);
    waited_need = own_needed;
    unsettled = unsettled;
    linked = λ b. ap (λ (l : Links). times l (main n) b) loose.enqueued.graph.links ∙ linked_all b;
    drops = alone_drops;
    back = λ h e is. absurd (none-some h e);
  }

  alone_taken : (t : State) × Reaches (TakingOff F z) s t × MatchesState arena new counts None t
  alone_taken = (
    _,
    takes F z s arena old new counts None st (main n) (change n) code.Static loose.mid.graph.links r alone_back alone_may,
    stands_off F z s arena old new counts None st (main n) (change n) code.Static loose.mid.graph.links r alone_back alone_may,
  )

-- ---- the main of the bind

static_full : (x : Option Progress) → stage_in (option_map (with_stage code.Static) x) ≡ Some code.Full → ⊥
static_full None e = none-some code.Full e
static_full (Some k) e = cc

module _ (arena : Arena) (old new : Work) (b : NodeId) (lost : LosesRight arena old new b) (kept : IsKept arena old)
    (need : Needed old.graph (change b)) (there : Holds old.rows (change b)) where
  abbrev pub mid : Work
  mid = lost.detached.mid

  abbrev chosen_right : Option NodeId
  chosen_right = right_in old.rows old.roots b lost.row.def

  pub marked : IsMarked old.graph mid.graph (change b)
  marked = lost.detached.marked

  pub mid_rest : mid ≡ record old { graph = mid.graph }
  mid_rest = lost.detached.rest

  mine : Holds old.rows (main b)
  mine = kept.rows (main b) ∙ ap (λ (x : Option Row). has_part x Main) lost.is_row

  low : IsDetached mid new b chosen_right → (links : Links) × IsLowered old new (main b) (change b) code.Static links
  low x = loose_lowered old mid new b kept.step marked mid_rest lost.step chosen_right x

  pub loose_kept : IsKept arena new
  loose_kept = elim lost.detached.detached [
    | inl x ↦ subst (λ (w : Work). IsKept arena w) (sym x.0)
        (marked_kept (change b) old mid marked mid_rest arena there (subst (λ (w : Work). IsInStep w.graph) x.0 lost.step) kept)
    | inr x ↦ let l = low x.0 in lowered_kept arena old new (main b) (change b) code.Static l.0 l.1 kept mine (λ n. there)
  ]

  pub loose_places : KeepsPlaces old new
  loose_places = elim lost.detached.detached [
    | inl x ↦ subst (λ (w : Work). KeepsPlaces old w) (sym x.0) (marked_places (change b) old mid marked mid_rest)
    | inr x ↦ let l = low x.0 in lowered_places arena old new (main b) (change b) code.Static l.0 l.1
  ]

  pub loose_need : (p : Point) → Needed new.graph p → Needed old.graph p
  loose_need p n = elim lost.detached.detached [
    | inl x ↦ (marked_need (change b) old mid marked mid_rest p).0 (subst (λ (w : Work). Needed w.graph p) x.0 n)
    | inr x ↦ let l = low x.0 in need_before arena old new (main b) (change b) code.Static l.0 l.1 p n
  ]

  -- what is in the heap, and wasn't
  pub loose_heap : (p : Point) → Holds new.graph.heap p → Holds old.graph.heap p ⊎ (p ≡ change b) ⊎ ((p ≡ main b) × IsAttached old b)
  loose_heap p h = elim lost.detached.detached [
    | inl x ↦ elim (same_or_other p (change b)) [
      | inl e ↦ inr (inl e)
      | inr ne ↦ inl (sym (ap is_some (marked.others p ne)) ∙ subst (λ (w : Work). Holds w.graph.heap p) x.0 h)
    ]
    | inr x ↦ let l = low x.0 in elim (lowered_heap old new (main b) (change b) code.Static l.0 l.1 p h) [
      | inl was ↦ inl was
      | inr y ↦ elim y [ inl e ↦ inr (inr (e, x.1)) | inr e ↦ inr (inl e) ]
    ]
  ]

  -- the change is, while it is needed
  pub loose_change : Needed new.graph (change b) → Holds new.graph.heap (change b)
  loose_change n = elim lost.detached.detached [
    | inl x ↦ subst (λ (w : Work). Holds w.graph.heap (change b)) (sym x.0) (marked.told need)
    | inr x ↦ let l = low x.0 in ap is_some (l.1.sweep.heap_kept (change b) ((l.1.sweep.reached (change b)).0 n)) ∙ l.1.waits need
  ]

  -- rows stay but for the main's stage
  pub loose_rows : (p : Point) → (at new.rows p ≡ at old.rows p)
      ⊎ ((p ≡ main b) × (at new.rows p ≡ option_map (with_stage code.Static) (at old.rows p)))
  loose_rows p = elim lost.detached.detached [
    | inl x ↦ inl (ap (λ (w : Work). at w.rows p) x.0 ∙ ap (λ (w : Work). at w.rows p) mid_rest)
    | inr x ↦ let l = low x.0 in elim (same_or_other p (main b)) [
      | inl e ↦ inr (e, subst (λ (y : Point). at new.rows y ≡ option_map (with_stage code.Static) (at old.rows y)) (sym e) l.1.rows.changed)
      | inr ne ↦ inl (l.1.rows.others p ne)
    ]
  ]

  -- that of a main which had its right side is Static
  pub loose_main : IsAttached old b → at new.rows (main b) ≡ option_map (with_stage code.Static) (at old.rows (main b))
  loose_main a = elim lost.detached.detached [
    | inl x ↦ absurd (x.1 a)
    | inr x ↦ let l = low x.0 in l.1.rows.changed
  ]

  -- it isn't attached any more
  pub loose_right : (work : Work) → at work.rows (main b) ≡ at new.rows (main b) → (Needed work.graph (main b) → Needed new.graph (main b))
      → IsAttached work b → ⊥
  loose_right work row less a = elim lost.detached.detached [
    | inl x ↦ x.1 (record {
      needed = loose_need (main b) (less a.needed);
      stage = ap stage_in (sym (ap (λ (w : Work). at w.rows (main b)) mid_rest))
          ∙ (ap stage_in (sym (ap (λ (w : Work). at w.rows (main b)) x.0)) ∙ (ap stage_in (sym row) ∙ a.stage));
    })
    | inr x ↦ static_full (at old.rows (main b)) (ap stage_in (sym (low x.0).1.rows.changed) ∙ (ap stage_in (sym row) ∙ a.stage))
  ]

  -- ---- as moves, from where the change is in the heap

  marked_self : IsMarked mid.graph mid.graph (change b)
  marked_self = record {
    graph = record { links = refl; roots = refl; heights = refl };
    others = λ q ne. refl;
    told = λ n. marked.told need;
    only = λ h. inl h;
  }

  pub need_mid : (p : Point) → Needed old.graph p → Needed mid.graph p
  need_mid p n = need_same old.graph mid.graph marked.graph.links marked.graph.roots p n

  pub need_old : (p : Point) → Needed mid.graph p → Needed old.graph p
  need_old p n = need_same mid.graph old.graph (sym marked.graph.links) (sym marked.graph.roots) p n

  pub into_mid : (p : Point) → Holds old.graph.heap p → Holds mid.graph.heap p
  into_mid p h = elim (same_or_other p (change b)) [
    | inl e ↦ subst (λ (y : Point). Holds mid.graph.heap y) (sym e) (marked.told need)
    | inr ne ↦ ap is_some (marked.others p ne) ∙ h
  ]

  module _ (x : IsDetached mid new b chosen_right) where
    heap_mid : (p : Point) (h : ℕ) → at mid.graph.heap p ≡ Some h → (at mid.graph.heights p ≡ Some h) × Needed mid.graph p
    heap_mid p h e = elim (same_or_other p (change b)) [
      | inl is ↦
          let f = x.enqueued.step.heap p h (x.enqueued.others p (λ m. change_is_other b (sym is ∙ m)) ∙ e) in (
            ap (λ (m : Rows ℕ). at m p) (sym x.enqueued.graph.heights) ∙ f.0,
            need_same x.mid.graph mid.graph (sym x.enqueued.graph.links) (sym x.enqueued.graph.roots) p f.1,
          )
      | inr ne ↦
          let f = kept.step.heap p h (sym (marked.others p ne) ∙ e) in
          (ap (λ (m : Rows ℕ). at m p) marked.graph.heights ∙ f.0, need_mid p f.1)
    ]

    step_mid : IsInStep mid.graph
    step_mid = record {
      ends = subst (λ (m : Rows ℕ). Ends m mid.graph.links) (sym marked.graph.heights)
          (subst (λ (l : Links). Ends old.graph.heights l) (sym marked.graph.links) kept.step.ends);
      rises = subst (λ (m : Rows ℕ). Rises (Reads mid.graph.links) (level m)) (sym marked.graph.heights)
          (subst (λ (l : Links). Rises (Reads l) (level old.graph.heights)) (sym marked.graph.links) kept.step.rises);
      low = subst (λ (m : Rows ℕ). AllLow (level m)) (sym marked.graph.heights) kept.step.low;
      readers = λ p q r. need_mid p (kept.step.readers p q (subst (λ (l : Links). Reads l p q) marked.graph.links r));
      there = λ p n. subst (λ (m : Rows ℕ). Holds m p) (sym marked.graph.heights) (kept.step.there p (need_old p n));
      heap = heap_mid;
    }

  pub subject : (k : NodeId) × (subject_of lost.row.def ≡ Some k)
  subject = some_of (subject_of lost.row.def)
      (sym (ap (λ (y : Option Row). has_part y Change) lost.is_row) ∙ (sym (kept.rows (change b)) ∙ there))

  there_mid : Holds mid.rows (change b)
  there_mid = subst (λ (w : Work). Holds w.rows (change b)) (sym mid_rest) there

  right_mid : right_in mid.rows mid.roots b lost.row.def ≡ chosen_right
  right_mid = ap (λ (w : Work). right_in w.rows w.roots b lost.row.def) mid_rest

  module _ (F : Functions) (z : Start) (s : State) (counts : Counts) (inv : Invariant F z s) (st : MatchesState arena mid counts None s)
      (unsettled : s.settled (change b) ≡ false) where
    abbrev Detaches : Type 0
    Detaches = (t : State) × Reaches (TakingOff F z) s t × MatchesState arena new counts None t

    attached_mid : IsAttached old b → IsAttached mid b
    attached_mid a = attached_still old mid b (ap (λ (w : Work). w.rows) mid_rest) marked.graph a

    with_right : (x : IsDetached mid new b chosen_right) → IsAttached old b → (m : NodeId) → chosen_right ≡ Some m → Detaches
    with_right x a m e = one_taken arena mid mid new b lost.row subject.0 m lost.is_row subject.1 there_mid (attached_mid a)
        (sym (st.settled (change b)) ∙ unsettled) (right_mid ∙ e) marked_self refl
        (subst (λ (o : Option NodeId). IsDetached mid new b o) (sym right_mid) x) (step_mid x) lost.step
        (subst (λ (w : Work). AreExperts arena w.experts) (sym mid_rest) kept.experts) F z s counts None inv tt st

    without_right : (x : IsDetached mid new b None) → (step : IsInStep mid.graph) → IsAttached old b → chosen_right ≡ None → Detaches
    without_right x step a e = alone_taken arena mid new b subject.0 lost.row lost.is_row subject.1 there_mid (attached_mid a) (right_mid ∙ e)
        marked_self None x x.off step lost.step F z s counts inv st unsettled
        (ap (λ (w : Work). fresh_at w.experts b) mid_rest ∙ plain_fresh arena old kept b lost.row lost.is_row (pair_plain lost.row.def subject.0 subject.1))

    by_right : (x : IsDetached mid new b chosen_right) → IsAttached old b → (o : Option NodeId) → chosen_right ≡ o → Detaches
    by_right x a None e = without_right (subst (λ (y : Option NodeId). IsDetached mid new b y) e x) (step_mid x) a e
    by_right x a (Some m) e = with_right x a m e

    pub detaches : Detaches
    detaches = elim lost.detached.detached [
      | inl x ↦ (s, here, subst (λ (w : Work). MatchesState arena w counts None s) (sym x.0) st)
      | inr x ↦ by_right x.0 x.1 chosen_right refl
    ]
