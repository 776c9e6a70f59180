-- A main waits again before its node's change is settled. In the machine the change is in the heap still while that is done.
use Rattle.std.proofs.Common.{◌≡◌, ◌≢◌, ◌⊎◌, inl, inr, ℕ, ◌+◌, ◌<◌, ◌≤◌, ◌++◌, true, false, List, [], map, Option, None, Some, refl, sym, ap, subst}
use Rattle.std.proofs.Common.{◌∙◌, arith}
use Rattle.std.specs.Prelude.{is_some, IsSome, option_map}
use Rattle.std.proofs.lemmas.Option.{none-some}
use Rattle.inc_value.specs.declared.node.NodeId.{NodeId}
use Rattle.inc_value.specs.declared.node.Part.TheVariants.{Main}
use Rattle.inc_value.specs.declared.node.Point.{Point}
use Rattle.inc_value.specs.declared.outcome.Outcome.{Outcome}
use Rattle.inc_value.specs.Choice.{Among, Reaches, here}
use Rattle.inc_terms.specs.Depend.{main, change, subject_of, fixed_reads, at_most_one}
use Rattle.inc_terms.specs.Graph.{Graph, Row}
use Rattle.inc_terms.specs.Local.{shown}
use Rattle.inc_terms.specs.Plan.{targets, gate_of}
use Rattle.inc_terms.specs.Term.{Functions}
use Rattle.point_map.specs.Rows.{at, Holds, Changes}
use Rattle.link_table.specs.Links.{Links, times, Reads}
use Rattle.link_table.specs.declared.link.Link.{Link}
use Rattle.necessity.specs.Need.{Roots, root_times}
use Rattle.height_order.specs.Levels.{level, or_zero}
use Rattle.necessary_graph.specs.Part.{NecessaryPart, Needed, IsInStep}
use Rattle.necessary_graph.specs.Sweep.{Sweep, DropsLeaves, IsUnlinked}
use Rattle.necessary_graph.proofs.Reaching.{root_needed, read_needed, needed_has}
use Rattle.necessary_graph.proofs.Standing.{put_in_step}
use Rattle.node_arena.specs.Arena.{Arena, row_at}
use Rattle.stabilize_round.specs.Invariant.{Invariant}
use Rattle.stabilize_round.specs.Moves.{IsLeast}
use Rattle.stabilize_round.specs.State as machine
use Rattle.stabilize_round.specs.State.{State, Start, count, one, planned, live_plan, plan_at}
use Rattle.stabilize_round.specs.Steps.{TakingOff}
use Rattle.stabilize_round.specs.Wire.{Drop}
use Rattle.stabilize_round.proofs.Parts.{bool_cases}
use Rattle.stabilize_round.proofs.Points.{same_or_other, count_append, one_same, one_other, among_count}
use Rattle.node_outcomes.specs.Choosing.{right_in}
use Rattle.node_outcomes.specs.Computing.{has_part}
use Rattle.node_outcomes.specs.Row.{IsRewritten, with_stage, with_outcome, stage_in, stage_of, settled_in, outcome_in}
use Rattle.node_outcomes.specs.Progress.{Progress}
use Rattle.node_outcomes.specs.declared.row.Stage.{Stage}
use Rattle.node_outcomes.specs.declared.row.Stage.TheVariants as code
use Rattle.wiring.specs.Graph.{rowless}
use Rattle.wiring.specs.Kept.{IsKept}
use Rattle.wiring.specs.Stands.{MatchesState, Counts}
use Rattle.wiring.specs.Turning.{IsAttached, IsDetached, IsOff}
use Rattle.wiring.specs.Wiring.{KeepsGraph, KeepsRound}
use Rattle.wiring.specs.declared.work.Work.{Work}
use Rattle.wiring.proofs.GoingBack.{IsLowered, heap_needed, height_same, need_before as lowered_need}
use Rattle.wiring.proofs.GoingBack as back
use Rattle.wiring.proofs.Holding.{targets_at}
use Rattle.wiring.proofs.Detaching.{change_is_other}
use Rattle.wiring.proofs.Raising.{Keeps, off_keeps}
use Rattle.wiring.proofs.Sight.{change_is}
use Rattle.wiring.proofs.TakingOff.{MayLower, scheduled, row_at_stage, takes, stands_off}
use Rattle.wiring.proofs.Staying.{rewritten_there}
use Rattle.stabilizer.proofs.Step.Carrying.{heap_graph, needed_now, needed_before}
use Rattle.stabilizer.proofs.Step.Experts.{pair_plain, plain_owes}
use Rattle.stabilizer.proofs.Change.Waiting.{put, put_changes, same_swept, swept_in_step, fewer_links}

-- of the parts just a change's row, its place in the heap and the worklist are others: it was settled on this outcome, and left the heap
pub record IsRunOn (old new : Work) (n : NodeId) (given : Outcome) : Type 0 where
  pub rows : IsRewritten old.rows new.rows (change n) (with_outcome given old.round)
  pub graph : KeepsGraph old.graph new.graph
  pub gone : at new.graph.heap (change n) ≡ None
  pub heap : (a : Point) → a ≢ change n → is_some (at new.graph.heap a) ≡ is_some (at old.graph.heap a)
  pub round : KeepsRound old new

-- the state in which the change is settled, and the parts that stand for it: a main with a right side waits again where the outcome is another. Of what
-- stood before only links came off, and no point waits for its gate that didn't
pub record IsMadeReady (F : Functions) (z : Start) (s : State) (arena : Arena) (before turned : Work) (counts : Counts) (n : NodeId)
    (given : Outcome) : Type 0 where
  pub work : Work
  pub state : State
  pub prepared : Reaches (TakingOff F z) s state
  pub keeps : Keeps s state
  pub stands : MatchesState arena work counts None state
  pub rowed : (a : Point) → is_some (at work.rows a) ≡ is_some (at before.rows a)
  pub own : at work.rows (change n) ≡ at before.rows (change n)
  pub idle : work.todo.items ≡ []
  pub least : IsLeast state (change n)
  pub right : (state.out (change n) ≡ Some given) ⊎ (state.needed (main n) ≡ true → state.stage (main n) ≡ machine.Full → ⊥)
  pub run : IsRunOn work turned n given
  pub again : s.settled (change n) ≡ true → state ≡ s
  pub needed : (a : Point) → Needed work.graph a → Needed before.graph a
  pub fewer : (a b : Point) → times work.graph.links a b ≤ times before.graph.links a b
  pub gated : (a : Point) → stage_in (at work.rows a) ≡ Some code.Gated → stage_in (at before.rows a) ≡ Some code.Gated

-- ---- a main's links, but for its right side

module _ (arena : Arena) (old mid : Work) (g : NecessaryPart) (n : NodeId) (r : Row) (m : NodeId) (kept : IsKept arena old)
    (live : row_at arena n ≡ Some r) (sub : subject_of r.def ≡ Some m) (was : Holds old.graph.heap (change n))
    (rest : g ≡ record old.graph { heap = g.heap }) (c : Changes old.graph.heap g.heap (change n) None)
    (attached : IsAttached (record old { graph = g }) n) (loose : IsDetached (record old { graph = g }) mid n (right_in old.rows old.roots n r.def)) where
  abbrev g0 : NecessaryPart
  g0 = loose.mid.graph

  same_first : KeepsGraph old.graph g
  same_first = heap_graph arena old g rest

  links_mid : g0.links ≡ old.graph.links
  links_mid = loose.enqueued.graph.links ∙ same_first.links

  roots_mid : g0.roots ≡ old.graph.roots
  roots_mid = loose.enqueued.graph.roots ∙ same_first.roots

  heights_mid : g0.heights ≡ old.graph.heights
  heights_mid = loose.enqueued.graph.heights ∙ same_first.heights

  -- the graph without the link, and what is left where points are no longer needed
  record Drops (rest_of : List Point) : Type 0 where
    links : Links
    others : (a b : Point) → (main n ≡ a → ⊥) → times links a b ≡ times old.graph.links a b
    mine : (b : Point) → times links (main n) b ≡ count b rest_of
    fewer : (a b : Point) → times links a b ≤ times g0.links a b
    sweep : Sweep (record g0 { links = links }) mid.graph
    drops : DropsLeaves (rowless mid) g0 mid.graph

  module _ (F : Functions) (z : Start) (s : State) (counts : Counts) (inv : Invariant F z s) (st : MatchesState arena old counts None s) where
    s_row : s.graph.row n ≡ Some r
    s_row = ap (λ (G : Graph). G.row n) st.graph ∙ live

    need : s.needed (main n) ≡ true
    need = (st.needed (main n)).1 (needed_before old.graph g same_first (main n) attached.needed)

    by_stage : (x : Option Progress) → at old.rows (main n) ≡ x → stage_in x ≡ Some code.Full → s.stage (main n) ≡ machine.Full
    by_stage None e f = absurd (none-some code.Full f)
    by_stage (Some k) e f = st.stage (main n) k e ∙ ap stage_of (same f)
      where
        same : ◌≡◌ {A = Option _} (Some k.stage) (Some code.Full) → k.stage ≡ code.Full
        same h = cc

    full : s.stage (main n) ≡ machine.Full
    full = by_stage (at old.rows (main n)) refl attached.stage

    two : IsSome (subject_of r.def)
    two = ap is_some sub

    rights : targets s.graph n r.def (s.out (change n)) ≡ map main (at_most_one (right_in old.rows old.roots n r.def))
    rights =
        ap (targets s.graph n r.def) (change_is s arena old counts kept st n r live two)
        ∙ (ap (λ (G : Graph). targets G n r.def (outcome_in (at old.rows (change n)))) st.graph ∙ targets_at arena old n r live)

    abbrev static_plan : List Point
    static_plan = live_plan s.graph s.out (main n) r machine.Static

    linked_all : (b : Point) → times old.graph.links (main n) b ≡ count b static_plan + count b (map main (at_most_one (right_in old.rows old.roots n r.def)))
    linked_all b =
        let l = inv.rows.links (main n) b need in
        let o : count b (s.owed (main n)) ≡ 0 = ap (count b)
        (st.owed (main n) ∙ plain_owes arena old kept (main n) r live (pair_plain r.def m sub) (s.needed (main n))) in
        let p : planned s (main n) ≡ gate_of r.scope ++ (fixed_reads s.graph n r.def Main ++ targets s.graph n r.def (s.out (change n))) =
        ap (λ (x : Option Row). plan_at s.graph s.out s.died (main n) x (s.stage (main n))) s_row
        ∙ ap (λ (x : machine.Stage). live_plan s.graph s.out (main n) r x) full in
        let all = ap (count b) p in
        let one_part = count_append b (gate_of r.scope) (fixed_reads s.graph n r.def Main ++ targets s.graph n r.def (s.out (change n))) in
        let two_part = count_append b (fixed_reads s.graph n r.def Main) (targets s.graph n r.def (s.out (change n))) in
        let t = ap (count b) rights in
        let mine = count_append b (gate_of r.scope) (fixed_reads s.graph n r.def Main) in
        let w = st.links (main n) b in
        omega (arith, l, o, all, one_part, two_part, t, mine, w)

    links_as : (a b : Point) → times g0.links a b ≡ times old.graph.links a b
    links_as a b = ap (λ (x : Links). times x a b) links_mid

    -- there was no right side
    drops_none : right_in old.rows old.roots n r.def ≡ None → mid.graph ≡ g0 → Drops static_plan
    drops_none none same = record {
      links = g0.links;
      others = λ a b ne. links_as a b;
      mine = λ b. let l = linked_all b in let w = links_as (main n) b in
          let t : count b (map main (at_most_one (right_in old.rows old.roots n r.def))) ≡ 0 = ap (λ (x : Option NodeId). count b (map main (at_most_one x))) none in
          omega (arith, l, w, t);
      fewer = λ a b. omega arith;
      sweep = subst (λ (x : NecessaryPart). Sweep g0 x) (sym same) (same_swept g0 loose.enqueued.step);
      drops = subst (λ (x : NecessaryPart). DropsLeaves (rowless mid) g0 x) (sym same)
          (record { heights = λ a. inl refl; leaves = λ a leaf n. inl n });
    }

    -- there was one
    module _ (k : NodeId) (is : right_in old.rows old.roots n r.def ≡ Some k) where
      linked_one : (b : Point) → times old.graph.links (main n) b ≡ count b static_plan + one b (main k)
      linked_one b =
          let l = linked_all b in
          let t : count b (map main (at_most_one (right_in old.rows old.roots n r.def))) ≡ one b (main k) + 0 =
          ap (λ (x : Option NodeId). count b (map main (at_most_one x))) is in
          omega (arith, l, t)

      drops_one : IsUnlinked (rowless mid) g0 mid.graph (main n) (main k) → Drops static_plan
      drops_one u = record {
        links = u.links;
        others = λ a b ne. sym (u.off.others a b (λ e. ne (sym (ap (λ (l : Link). l.reader) e)))) ∙ links_as a b;
        mine = λ b. elim (same_or_other b (main k)) [
          | inl e ↦
              let raised = u.off.raised in let all = linked_one (main k) in let o = one_same (main k) in let l = links_as (main n) (main k) in
              subst (λ (x : Point). times u.links (main n) x ≡ count x static_plan) (sym e) (omega (arith, raised, all, o, l))
          | inr ne ↦
              let same = u.off.others (main n) b (λ e. ne (ap (λ (l : Link). l.kid) e)) in let all = linked_one b in let o = one_other b (main k) ne in
              let l = links_as (main n) b in
              omega (arith, same, all, o, l)
        ];
        fewer = λ a b. fewer_links u.links g0.links (main n) (main k) u.off a b;
        sweep = u.sweep;
        drops = u.drops;
      }

      -- the link was there
      never_absent : (Reads g0.links (main n) (main k) → ⊥) → ⊥
      never_absent not = not (let w = linked_one (main k) in let o = one_same (main k) in let l = links_as (main n) (main k) in omega (arith, w, o, l))

    by_right : (x : Option NodeId) → right_in old.rows old.roots n r.def ≡ x → IsOff (rowless mid) g0 mid.graph n x → Drops static_plan
    by_right None e off = drops_none e off
    by_right (Some k) e (inl u) = drops_one k e u
    by_right (Some k) e (inr absent) = absurd (never_absent k e absent.1)

    d : Drops static_plan
    d = by_right (right_in old.rows old.roots n r.def) refl loose.off

    -- ---- with the change in the heap

    abbrev top : ℕ
    top = level mid.graph.heights (change n)

    abbrev G1 : NecessaryPart
    G1 = record g0 { links = d.links }

    abbrev H : NecessaryPart
    H = record g0 { heap = put g0.heap (change n) top }

    abbrev G1' : NecessaryPart
    G1' = record g0 { links = d.links; heap = put g0.heap (change n) top }

    -- the work as if the change hadn't left the heap
    abbrev pub last : Work
    last = record mid { graph = record mid.graph { heap = put mid.graph.heap (change n) top } }

    own_in_plan : 0 < count (change n) static_plan
    own_in_plan =
        let a : Among (change n) (fixed_reads s.graph n r.def Main) = rw sub (inl refl) in
        let k = among_count (change n) (fixed_reads s.graph n r.def Main) a in
        let mine = count_append (change n) (gate_of r.scope) (fixed_reads s.graph n r.def Main) in
        omega (arith, k, mine)

    -- no point that stands as high as the main is needed over the main alone
    main_needed : Needed G1 (main n)
    main_needed = needed_has old.graph StillNeeded roots_too links_too (main n) needed_then (omega arith)
      where
        StillNeeded : Point → Type 0
        StillNeeded p = level old.graph.heights (main n) ≤ level old.graph.heights p → Needed G1 p

        needed_then : Needed old.graph (main n)
        needed_then = (st.needed (main n)).0 need

        roots_too : (a : Point) → 0 < root_times old.graph.roots a → StillNeeded a
        roots_too a root high = root_needed G1 a (subst (λ (x : Roots). 0 < root_times x a) (sym roots_mid) root)

        links_too : (a b : Point) → Reads old.graph.links a b → StillNeeded a → StillNeeded b
        links_too a b reads above high =
            let rises = kept.step.rises a b reads in
            read_needed G1 a b (above (omega (arith, rises, high))) (let e = d.others a b (λ same.
            let h = ap (level old.graph.heights) same in absurd (omega (arith, rises, high, h))) in omega (arith, e, reads))

    own_needed : Needed G1 (change n)
    own_needed = read_needed G1 (main n) (change n) main_needed (let e = d.mine (change n) in let o = own_in_plan in omega (arith, e, o))

    in_step : IsInStep mid.graph
    in_step = swept_in_step g0 d.links mid.graph (rowless mid) loose.enqueued.step d.fewer d.sweep d.drops

    put_mid : Changes mid.graph.heap last.graph.heap (change n) (Some top)
    put_mid = put_changes mid.graph.heap (change n) top

    put_first : Changes g0.heap G1'.heap (change n) (Some top)
    put_first = put_changes g0.heap (change n) top

    last_swept : Sweep G1' last.graph
    last_swept = record {
      roots = d.sweep.roots;
      reached = d.sweep.reached;
      kept = d.sweep.kept;
      gone = d.sweep.gone;
      fewer = d.sweep.fewer;
      heap_kept = λ p need. elim (same_or_other p (change n)) [
        | inl e ↦ subst (λ (x : Point). at last.graph.heap x ≡ at G1'.heap x) (sym e) (put_mid.changed ∙ sym put_first.changed)
        | inr ne ↦ put_mid.others p ne ∙ (d.sweep.heap_kept p need ∙ sym (put_first.others p ne))
      ];
      heap = λ p h e. elim (same_or_other p (change n)) [
        | inl same ↦ (
          subst (λ (x : Point). at G1'.heap x ≡ Some h) (sym same)
              (put_first.changed ∙ (sym put_mid.changed ∙ subst (λ (x : Point). at last.graph.heap x ≡ Some h) same e)),
          subst (λ (x : Point). Needed G1 x) (sym same) own_needed,
        )
        | inr ne ↦ let b = d.sweep.heap p h (sym (put_mid.others p ne) ∙ e) in (put_first.others p ne ∙ b.0, b.1)
      ];
    }

    last_in_step : IsInStep last.graph
    last_in_step = put_in_step mid.graph in_step last.graph.heap (change n) top ((d.sweep.reached (change n)).1 own_needed) refl put_mid

    in_first : (a : Point) → a ≢ change n → Holds old.graph.heap a → Holds g0.heap a
    in_first a ne h = elim (same_or_other a (main n)) [
      | inl e ↦ subst (λ (x : Point). Holds g0.heap x) (sym e) (loose.enqueued.kept (subst (λ (x : Point). Holds g.heap x) e (ap is_some (c.others a ne) ∙ h)))
      | inr other ↦ ap is_some (loose.enqueued.others a other) ∙ (ap is_some (c.others a ne) ∙ h)
    ]

    in_before : (a : Point) → a ≢ change n → Holds g.heap a → Holds old.graph.heap a
    in_before a ne h = sym (ap is_some (c.others a ne)) ∙ h

    -- what came into the heap
    new_in_heap : (a : Point) → a ≢ change n → Holds g0.heap a → Holds old.graph.heap a ⊎ ((a ≡ main n) × (settled_in old.round (at old.rows a) ≡ false))
    new_in_heap a ne h = elim (same_or_other a (main n)) [
      | inr other ↦ inl (in_before a ne (sym (ap is_some (loose.enqueued.others a other)) ∙ h))
      | inl e ↦ elim (loose.enqueued.only (subst (λ (x : Point). Holds g0.heap x) e h)) [
        | inl k ↦ inl (in_before a ne (subst (λ (x : Point). Holds g.heap x) (sym e) k))
        | inr f ↦ inr (e, subst (λ (x : Point). settled_in old.round (at old.rows x) ≡ false) (sym e) f)
      ]
    ]

    lowered : IsLowered old last (main n) (change n) code.Static d.links
    lowered = record {
      rows = loose.rows;
      mid = H;
      graph = record { links = links_mid; roots = roots_mid; heights = heights_mid };
      heap_kept = λ a h. elim (same_or_other a (change n)) [
        | inl e ↦ subst (λ (x : Point). Holds H.heap x) (sym e) (ap is_some put_first.changed)
        | inr ne ↦ ap is_some (put_first.others a ne) ∙ in_first a ne h
      ];
      heap_new = λ a h. elim (same_or_other a (change n)) [
        | inl e ↦ inl (subst (λ (x : Point). Holds old.graph.heap x) (sym e) was)
        | inr ne ↦ elim (new_in_heap a ne (sym (ap is_some (put_first.others a ne)) ∙ h)) [
          | inl k ↦ inl k
          | inr k ↦ inr (inr (k.0, subst (λ (x : Point). settled_in old.round (at old.rows x) ≡ false) k.0 k.1))
        ]
      ];
      waits = λ need. ap is_some put_first.changed;
      told = elim loose.enqueued.told [
        | inl h ↦ inl (ap is_some (put_first.others (main n) (λ e. change_is_other n (sym e))) ∙ h)
        | inr f ↦ inr f
      ];
      fewer = λ b. let f = d.fewer (main n) b in let l = links_as (main n) b in omega (arith, f, l);
      others = d.others;
      sweep = last_swept;
      drops = record {
        heights = λ a. elim (d.drops.heights a) [
          | inl e ↦ inl e
          | inr x ↦ inr (record { is_leaf = x.is_leaf; was = x.was; unneeded = x.unneeded; gone = x.gone })
        ];
        leaves = d.drops.leaves;
      };
      step = last_in_step;
      rest = ap (λ (w : Work). record w { graph = last.graph; rows = last.rows }) loose.last
          ∙ ap (λ (w : Work). record w { graph = last.graph; rows = last.rows }) loose.rest;
    }

    -- ---- the state in which the change is settled

    -- a change that was settled ran with what its subject shows
    ran_so : (given : Outcome) → shown s.graph s.out (main m) ≡ Some given → s.settled (change n) ≡ true → outcome_in (at old.rows (change n)) ≡ Some given
    ran_so given seen settled =
        let a = (inv.settled.done (change n) settled).agrees r s_row m sub in
        let same : Some a.0 ≡ Some given = sym a.2 ∙ seen in
        sym (change_is s arena old counts kept st n r live two) ∙ (a.1 ∙ same)

    own_need : Needed old.graph (change n)
    own_need = heap_needed old.graph kept.step (change n) was

    module _ (given : Outcome) (seen : shown s.graph s.out (main m) ≡ Some given) (other : outcome_in (at old.rows (change n)) ≢ Some given) where
      unsettled : s.settled (change n) ≡ false
      unsettled = elim (bool_cases (s.settled (change n))) [
        | inr e ↦ e
        | inl settled ↦ absurd (other (ran_so given seen settled))
      ]

      drop : Drop (scheduled s lowered.mid) (main n) r machine.Static (row_at_stage s (main n) r code.Static)
      drop = record {
        row = s_row;
        links = λ b. refl;
        fewer = λ b l. let was' = linked_all b in let w = st.links (main n) b in omega (arith, l, was', w);
        bare = λ e. cc;
        full = λ e. cc;
        lower = λ e. inr full;
        fresh = elim lowered.told [ inl h ↦ inl h | inr h ↦ inr (st.settled (main n) ∙ h) ];
        gated = λ e. absurd (cc);
        static = λ e. (refl, m, sub, lowered.waits own_need);
      }

      may : MayLower s old last None (main n) (change n) code.Static d.links r lowered
      may = record {
        need = need;
        row = s_row;
        waited_row = (r, s_row);
        waited_need = (st.needed (change n)).1 own_need;
        unsettled = unsettled;
        linked = d.mine;
        drops = drop;
        back = λ h e is. absurd (none-some h e);
      }

      taken_off : (t : State) × Reaches (TakingOff F z) s t × MatchesState arena last counts None t
      taken_off = (
        _,
        takes F z s arena old last counts None st (main n) (change n) code.Static d.links r lowered may,
        stands_off F z s arena old last counts None st (main n) (change n) code.Static d.links r lowered may,
      )

      same_height : (t : State) → MatchesState arena last counts None t → (a : Point) → Needed last.graph a → t.height a ≡ s.height a
      same_height t on a n' = on.height a n' ∙ (ap or_zero (height_same arena old last (main n) (change n) code.Static d.links lowered a n')
          ∙ sym (st.height a (lowered_need arena old last (main n) (change n) code.Static d.links lowered a n')))

      in_mid : (a : Point) (x : Option ℕ) → at mid.graph.heap a ≡ x → is_some x ≡ true → Holds g0.heap a
      in_mid a None e h = absurd (cc)
      in_mid a (Some k) e h = ap is_some (d.sweep.heap a k e).0

      own_below : s.height (change n) < s.height (main n)
      own_below = inv.web.rises (main n) (change n) (
          let l = linked_all (change n) in let o = own_in_plan in let w = st.links (main n) (change n) in omega (arith, l, o, w))

      still_least : (t : State) → MatchesState arena last counts None t → IsLeast s (change n) → IsLeast t (change n)
      still_least t on least = record {
        heap = on.heap (change n) ∙ ap is_some put_mid.changed;
        least = λ q h.
            let in_last : Holds last.graph.heap q = sym (on.heap q) ∙ h in
            let one = same_height t on (change n) ((d.sweep.reached (change n)).1 own_needed) in
            let two_ = same_height t on q (heap_needed last.graph last_in_step q in_last) in
            elim (same_or_other q (change n)) [
              | inl e ↦ subst (λ (x : Point). t.height (change n) ≤ t.height x) (sym e) (omega arith)
              | inr ne ↦ elim (new_in_heap q ne (in_mid q (at mid.graph.heap q) refl (sym (ap is_some (put_mid.others q ne)) ∙ in_last))) [
                | inl k ↦ let l = least.least q (st.heap q ∙ k) in omega (arith, one, two_, l)
                | inr k ↦ let l = own_below in let e = ap s.height k.0 in omega (arith, one, two_, l, e)
              ]
            ];
      }

      static_now : (t : State) → MatchesState arena last counts None t → t.stage (main n) ≡ machine.Full → ⊥
      static_now t on f = by_row (at old.rows (main n)) refl attached.stage
        where
          by_row : (x : Option Progress) → at old.rows (main n) ≡ x → stage_in x ≡ Some code.Full → ⊥
          by_row None e a = none-some code.Full a
          by_row (Some k) e a =
              let static : t.stage (main n) ≡ machine.Static =
              on.stage (main n) (with_stage code.Static k) (loose.rows.changed ∙ ap (option_map (with_stage code.Static)) e) in
              let x : machine.Static ≡ machine.Full = sym static ∙ f in
              cc

      out_of_heap : at mid.graph.heap (change n) ≡ None
      out_of_heap = by_place (at mid.graph.heap (change n)) refl
        where
          by_place : (x : Option ℕ) → at mid.graph.heap (change n) ≡ x → x ≡ None
          by_place None e = refl
          by_place (Some k) e =
              let b = (d.sweep.heap (change n) k e).0 in
              let a = loose.enqueued.others (change n) (change_is_other n) ∙ c.changed in
              absurd (none-some k (sym a ∙ b))

      run_last : (turned : Work) → IsRewritten mid.rows turned.rows (change n) (with_outcome given old.round) → turned.graph ≡ mid.graph
          → KeepsRound mid turned → IsRunOn last turned n given
      run_last turned rows graph round = record {
        rows = subst (λ (i : ℕ). IsRewritten mid.rows turned.rows (change n) (with_outcome given i))
            (sym (ap (λ (w : Work). w.round) loose.last ∙ ap (λ (w : Work). w.round) loose.rest)) rows;
        graph = record {
          links = ap (λ (x : NecessaryPart). x.links) graph;
          roots = ap (λ (x : NecessaryPart). x.roots) graph;
          heights = ap (λ (x : NecessaryPart). x.heights) graph;
        };
        gone = ap (λ (x : NecessaryPart). at x.heap (change n)) graph ∙ out_of_heap;
        heap = λ a ne. ap (λ (x : NecessaryPart). is_some (at x.heap a)) graph ∙ sym (ap is_some (put_mid.others a ne));
        round = record {
          roots = round.roots;
          deaths = round.deaths;
          ran = round.ran;
          retries = round.retries;
          round = round.round;
          experts = round.experts;
        };
      }

      still_gated : (a : Point) → stage_in (at mid.rows a) ≡ Some code.Gated → stage_in (at old.rows a) ≡ Some code.Gated
      still_gated a e = elim (same_or_other a (main n)) [
        | inr ne ↦ ap stage_in (sym (loose.rows.others a ne)) ∙ e
        | inl is ↦ absurd (by_row (at old.rows (main n))
            (ap stage_in (sym loose.rows.changed) ∙ subst (λ (x : Point). stage_in (at mid.rows x) ≡ Some code.Gated) is e))
      ]
        where
          by_row : (x : Option Progress) → stage_in (option_map (with_stage code.Static) x) ≡ Some code.Gated → ⊥
          by_row None f = none-some code.Gated f
          by_row (Some k) f = absurd (let e : ◌≡◌ {A = Option Stage} (Some code.Static) (Some code.Gated) = f in cc)

      pub ready_loose : (turned : Work) → IsRewritten mid.rows turned.rows (change n) (with_outcome given old.round) → turned.graph ≡ mid.graph
          → KeepsRound mid turned → old.todo.items ≡ [] → IsLeast s (change n) → IsMadeReady F z s arena old turned counts n given
      ready_loose turned rows graph round idle least =
          let t = taken_off in record {
            work = last;
            state = t.0;
            prepared = t.1;
            keeps = off_keeps F z s t.0 t.1;
            stands = t.2;
            rowed = rewritten_there old.rows mid.rows (main n) (with_stage code.Static) loose.rows;
            own = loose.rows.others (change n) (change_is_other n);
            idle = ap (λ (w : Work). w.todo.items) loose.last ∙ (ap (λ (w : Work). w.todo.items) loose.rest ∙ idle);
            least = still_least t.0 t.2 least;
            right = inr (λ need' f. static_now t.0 t.2 f);
            run = run_last turned rows graph round;
            again = λ settled. absurd (let e = unsettled in cc);
            needed = lowered_need arena old last (main n) (change n) code.Static d.links lowered;
            fewer = back.fewer_links arena old last (main n) (change n) code.Static d.links lowered;
            gated = still_gated;
          }

-- ---- the main has no right side, or has it by this outcome

module _ (arena : Arena) (old turned : Work) (g : NecessaryPart) (n : NodeId) (r : Row) (given : Outcome) (kept : IsKept arena old)
    (live : row_at arena n ≡ Some r) (two : IsSome (subject_of r.def))
    (rest : g ≡ record old.graph { heap = g.heap }) (c : Changes old.graph.heap g.heap (change n) None)
    (rows : IsRewritten old.rows turned.rows (change n) (with_outcome given old.round)) (graph : turned.graph ≡ g) (round : KeepsRound old turned)
    (F : Functions) (z : Start) (s : State) (counts : Counts) (st : MatchesState arena old counts None s) where
  run_old : IsRunOn old turned n given
  run_old = let k = heap_graph arena old g rest in record {
    rows = rows;
    graph = record {
      links = ap (λ (x : NecessaryPart). x.links) graph ∙ k.links;
      roots = ap (λ (x : NecessaryPart). x.roots) graph ∙ k.roots;
      heights = ap (λ (x : NecessaryPart). x.heights) graph ∙ k.heights;
    };
    gone = ap (λ (x : NecessaryPart). at x.heap (change n)) graph ∙ c.changed;
    heap = λ a ne. ap (λ (x : NecessaryPart). is_some (at x.heap a)) graph ∙ ap is_some (c.others a ne);
    round = round;
  }

  full_in : (x : Option Progress) → at old.rows (main n) ≡ x → s.stage (main n) ≡ machine.Full → is_some x ≡ true → stage_in x ≡ Some code.Full
  full_in None e f h = absurd (cc)
  full_in (Some k) e f h = ap (λ (y : Stage). Some y) (full_of k.stage (sym (st.stage (main n) k e) ∙ f))
    where
      full_of : (y : Stage) → stage_of y ≡ machine.Full → y ≡ code.Full
      full_of code.Bare q = absurd (cc)
      full_of code.Gated q = absurd (cc)
      full_of code.Static q = absurd (cc)
      full_of code.Full q = refl

  right_stays : (outcome_in (at old.rows (change n)) ≡ Some given) ⊎ (IsAttached (record old { graph = g }) n → ⊥)
      → (s.out (change n) ≡ Some given) ⊎ (s.needed (main n) ≡ true → s.stage (main n) ≡ machine.Full → ⊥)
  right_stays (inl e) = inl (change_is s arena old counts kept st n r live two ∙ e)
  right_stays (inr not) = inr (λ need f. not (record {
    needed = needed_now old.graph g (heap_graph arena old g rest) (main n) ((st.needed (main n)).0 need);
    stage = full_in (at old.rows (main n)) refl f (kept.rows (main n) ∙ ap (λ (x : Option Row). has_part x Main) live);
  }))

  pub ready_same : (outcome_in (at old.rows (change n)) ≡ Some given) ⊎ (IsAttached (record old { graph = g }) n → ⊥) → old.todo.items ≡ []
      → IsLeast s (change n) → IsMadeReady F z s arena old turned counts n given
  ready_same right idle least = record {
    work = old;
    state = s;
    prepared = here;
    keeps = record { graph = refl; died = refl; settled = refl; out = refl; taken = refl };
    stands = st;
    rowed = λ a. refl;
    own = refl;
    idle = idle;
    least = least;
    right = right_stays right;
    run = run_old;
    again = λ settled. refl;
    needed = λ a n'. n';
    fewer = λ a b. omega arith;
    gated = λ a e. e;
  }
