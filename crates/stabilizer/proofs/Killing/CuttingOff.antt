-- What is to die with a bind that is built anew is cut off, by moves that prepare the bind's change.
use Rattle.std.proofs.Common.{◌≡◌, ◌≢◌, ◌⊎◌, inl, inr, ℕ, ◌<◌, ◌≤◌, Bool, true, false, Option, None, Some, refl, sym, ap, subst, ◌∙◌, arith}
use Rattle.std.specs.Prelude.{is_some, option_map}
use Rattle.std.proofs.lemmas.Option.{none-some}
use Rattle.inc_value.specs.declared.node.NodeId.{NodeId}
use Rattle.inc_value.specs.declared.node.Part.TheVariants.{Main}
use Rattle.inc_value.specs.declared.node.Point.{Point}
use Rattle.inc_value.specs.Choice.{Reaches}
use Rattle.inc_terms.specs.Depend.{main, change}
use Rattle.inc_terms.specs.Graph.{Graph, Row}
use Rattle.inc_terms.specs.Rebuild.{Inside, direct, nested}
use Rattle.inc_terms.specs.Term.{Functions}
use Rattle.point_map.specs.Rows.{Rows, at, Holds}
use Rattle.link_table.specs.Links.{Links, times}
use Rattle.necessity.specs.Need.{Roots, root_times}
use Rattle.height_order.specs.Levels.{level, or_zero}
use Rattle.necessary_graph.specs.Part.{NecessaryPart, Needed}
use Rattle.node_arena.specs.Arena.{Arena, row_at}
use Rattle.stabilize_round.specs.Invariant.{Invariant}
use Rattle.stabilize_round.specs.Moves.{Quiet, IsLeast}
use Rattle.stabilize_round.specs.State as machine
use Rattle.stabilize_round.specs.State.{State, Start}
use Rattle.stabilize_round.specs.Steps.{TakingOff}
use Rattle.stabilize_round.proofs.Machine.{moves_keep}
use Rattle.stabilize_round.proofs.Points.{same_or_other}
use Rattle.stabilize_round.proofs.Steps.{off_moves, joined}
use Rattle.node_outcomes.specs.Computing.{has_part}
use Rattle.node_outcomes.specs.Row.{with_stage, stage_in}
use Rattle.node_outcomes.specs.Progress.{Progress}
use Rattle.node_outcomes.specs.declared.row.Stage.TheVariants as code
use Rattle.wiring.specs.Stands.{MatchesState, Counts}
use Rattle.wiring.specs.Turning.{IsAttached}
use Rattle.wiring.specs.Wiring.{ShowsSame}
use Rattle.wiring.specs.declared.work.Work.{Work}
use Rattle.wiring.proofs.InHand.{gated_none}
use Rattle.wiring.proofs.Detaching.{change_is_other}
use Rattle.wiring.proofs.Raising.{Keeps, off_keeps}
use Rattle.wiring.proofs.TakingAll.{places_then}
use Rattle.wiring.proofs.Deciding.{same_need}
use Rattle.wiring.proofs.Staying.{looks_stands}
use Rattle.stabilizer.specs.Dying.{StandsBefore, GatesWait, CutsTo, IsCutOff, IsGateOf, LosesRight, IsInvalidated, LeavesStanding}
use Rattle.stabilizer.specs.Kept.{PartsKept, graph_in}
use Rattle.stabilizer.specs.declared.parts.Parts.{Parts}
use Rattle.stabilizer.proofs.Killing.Invalidating.{inside_as, never_inside, one_scope}
use Rattle.stabilizer.proofs.Killing.Detached.{mid, marked, mid_rest, need_mid, need_old, into_mid, subject, loose_kept, loose_places, loose_heap, loose_change, loose_rows, loose_main, loose_right, detaches}
use Rattle.stabilizer.proofs.Killing.LinksOff.{Leaves, off_leaves, off_prepares, stays_needed, inside_above, main_above}

-- the gate of a node inside the bind's scope is the bind's, or of a node that is inside too
gate_inside : (parts : Parts) (b n c : NodeId) (r : Row) → Inside (graph_in parts) b n → row_at parts.arena n ≡ Some r → r.scope ≡ Some c
    → (c ≡ b) ⊎ Inside (graph_in parts) b c
gate_inside parts b n c r (direct {r = own} e s) row scope = inl (one_scope parts.arena n c b r own row scope e s)
gate_inside parts b n c r (nested {r = own} {c = d} e s i) row scope =
    inr (subst (λ (x : NodeId). Inside (graph_in parts) b x) (sym (one_scope parts.arena n c d r own row scope e s)) i)

-- a row that was written is at its stage
stage_is : (x : Option Progress) → is_some x ≡ true → (k : Progress) × (x ≡ Some k)
stage_is None h = absurd (cc)
stage_is (Some k) h = (k, refl)

module _ (old : Parts) (b : NodeId) (kept : PartsKept old) (there : Holds old.work.rows (change b)) (need : Needed old.work.graph (change b))
    (loose : Work) (lost : LosesRight old.arena old.work loose b) where
  -- the parts once the bind's main has no right side
  abbrev pub begun : Parts
  begun = record old { work = loose }

  abbrev first : Work
  first = mid old.arena old.work loose b lost kept.work need there

  pub begun_kept : PartsKept begun
  begun_kept = record {
    work = loose_kept old.arena old.work loose b lost kept.work need there;
    scopes = kept.scopes;
    dying = kept.dying;
    clock = kept.clock;
    listing = kept.listing;
  }

  -- ---- the state that the parts stand for once the change is in the heap again

  module _ (s : State) (counts : Counts) (sb : StandsBefore old counts s b) where
    graph_first : first.graph ≡ record old.work.graph { heap = first.graph.heap }
    graph_first = let g = (marked old.arena old.work loose b lost kept.work need there).graph in
        ap (λ (l : Links). record first.graph { links = l }) g.links
        ∙ (ap (λ (r : Roots). record first.graph { links = old.work.graph.links; roots = r }) g.roots
        ∙ ap (λ (h : Rows ℕ). record first.graph { links = old.work.graph.links; roots = old.work.graph.roots; heights = h }) g.heights)

    graph_before : first.graph ≡ record sb.work.graph { heap = first.graph.heap }
    graph_before = graph_first ∙ ap (λ (g : NecessaryPart). record g { heap = first.graph.heap }) sb.taken.graph

    work_before : first ≡ record sb.work { graph = first.graph }
    work_before = mid_rest old.arena old.work loose b lost kept.work need there
        ∙ ap (λ (w : Work). record w { graph = first.graph }) sb.taken.rest

    heap_before : (p : Point) → is_some (at first.graph.heap p) ≡ is_some (at sb.work.graph.heap p)
    heap_before p = elim (same_or_other p (change b)) [
      | inl e ↦ subst (λ (x : Point). is_some (at first.graph.heap x) ≡ is_some (at sb.work.graph.heap x)) (sym e)
          ((marked old.arena old.work loose b lost kept.work need there).told need ∙ sym sb.taken.held)
      | inr ne ↦ ap is_some ((marked old.arena old.work loose b lost kept.work need there).others p ne ∙ sb.taken.heap.others p ne)
    ]

    looks_before : ShowsSame sb.work first
    looks_before = record {
      rows = λ a. ap (λ (w : Work). at w.rows a) work_before;
      links = λ a d. ap (λ (g : NecessaryPart). times g.links a d) graph_before;
      roots = λ a. ap (λ (g : NecessaryPart). root_times g.roots a) graph_before;
      needed = same_need sb.work.graph first.graph (λ a. ap (λ (g : NecessaryPart). root_times g.roots a) graph_before)
          (λ a d. ap (λ (g : NecessaryPart). times g.links a d) graph_before);
      levels = λ a. ap (λ (g : NecessaryPart). level g.heights a) graph_before;
      heap = heap_before;
      todo = ap (λ (w : Work). w.todo.items) work_before;
      lists = record { pairs = ap (λ (w : Work). w.pairs) work_before; scoped = ap (λ (w : Work). w.scoped) work_before };
      round = record {
        roots = ap (λ (w : Work). w.roots) work_before;
        deaths = ap (λ (w : Work). w.deaths) work_before;
        ran = ap (λ (w : Work). w.ran) work_before;
        retries = ap (λ (w : Work). w.retries) work_before;
        round = ap (λ (w : Work). w.round) work_before;
        experts = ap (λ (w : Work). w.experts) work_before;
      };
    }

    first_stands : MatchesState old.arena first counts None s
    first_stands = looks_stands s old.arena sb.work first counts None looks_before sb.stands

    first_least : IsLeast s (change b)
    first_least = record {
      heap = first_stands.heap (change b) ∙ (marked old.arena old.work loose b lost kept.work need there).told need;
      least = λ q h. elim (same_or_other q (change b)) [
        | inl e ↦ subst (λ (x : Point). s.height (change b) ≤ s.height x) (sym e) (omega arith)
        | inr ne ↦ higher q ne (at old.work.graph.heap q) refl
            (sym (ap is_some ((marked old.arena old.work loose b lost kept.work need there).others q ne)) ∙ (sym (first_stands.heap q) ∙ h))
      ];
    }
      where
        higher : (q : Point) → q ≢ change b → (x : Option ℕ) → at old.work.graph.heap q ≡ x → is_some x ≡ true → s.height (change b) ≤ s.height q
        higher q ne None e h = absurd (cc)
        higher q ne (Some k) e h =
            let own = kept.work.step.heap q k e in
            let low = sb.taken.least q k (sym (sb.taken.heap.others q ne) ∙ e) in
            let a = first_stands.height (change b) (need_mid old.arena old.work loose b lost kept.work need there (change b) need) in
            let d = first_stands.height q (need_mid old.arena old.work loose b lost kept.work need there q own.1) in
            let x : level first.graph.heights (change b) ≡ level sb.work.graph.heights (change b) =
            ap (λ (g : NecessaryPart). level g.heights (change b)) graph_before in
            let y : level first.graph.heights q ≡ k =
            ap (λ (g : NecessaryPart). level g.heights q) graph_first ∙ ap (λ (o : Option ℕ). or_zero o) own.0 in
            omega (arith, low, a, d, x, y)

  -- ---- and what is to die was put back

  module _ (new : Parts) (invalidate : IsInvalidated begun new b) where
    inside_old : (n : NodeId) → Inside (graph_in begun) b n → Inside (graph_in old) b n
    inside_old n i = inside_as (graph_in begun) (graph_in old) (λ m. refl) b n i

    inside_begun : (n : NodeId) → Inside (graph_in old) b n → Inside (graph_in begun) b n
    inside_begun n i = inside_as (graph_in old) (graph_in begun) (λ m. refl) b n i

    main_row : Holds old.work.rows (main b)
    main_row = kept.work.rows (main b) ∙ ap (λ (x : Option Row). has_part x Main) lost.is_row

    module _ (F : Functions) (z : Start) (s : State) (counts : Counts) (inv : Invariant F z s) (quiet : Quiet s) (waits : GatesWait s b)
        (unsettled : s.settled (change b) ≡ false) (sb : StandsBefore old counts s b) where
      st : MatchesState old.arena first counts None s
      st = first_stands s counts sb

      least : IsLeast s (change b)
      least = first_least s counts sb

      loosed : (t : State) × Reaches (TakingOff F z) s t × MatchesState old.arena loose counts None t
      loosed = detaches old.arena old.work loose b lost kept.work need there F z s counts inv st unsettled

      waits_still : GatesWait loosed.0 b
      waits_still n c r i row scope =
          let k = off_keeps F z s loosed.0 loosed.1 in
          ap (λ (f : Point → Bool). f (change c)) k.settled
          ∙ waits n c r (subst (λ (G : Graph). Inside G b n) k.graph i) (sym (ap (λ (G : Graph). G.row n) k.graph) ∙ row) scope

      cut : (t : State) × Reaches (TakingOff F z) loosed.0 t × MatchesState new.arena new.work counts None t
      cut = invalidate.done.invalidates F z loosed.0 counts (moves_keep F z s loosed.0 (off_moves F z s loosed.0 loosed.1) inv) waits_still loosed.2

      abbrev last : State
      last = cut.0

      off : Reaches (TakingOff F z) s last
      off = joined (TakingOff F z) s loosed.0 last loosed.1 cut.1

      keeps : Keeps s last
      keeps = off_keeps F z s last off

      leaves : Leaves s last
      leaves = off_leaves F z s last off

      last_inv : Invariant F z last
      last_inv = moves_keep F z s last (off_moves F z s last off) inv

      idle : Quiet last
      idle p = ap (λ (f : Point → Bool). f p) leaves.todo ∙ quiet p

      stands : MatchesState new.arena new.work counts None last
      stands = cut.2

      row_now : (m : NodeId) → last.graph.row m ≡ row_at old.arena m
      row_now m = ap (λ (G : Graph). G.row m) stands.graph ∙ ap (λ (a : Arena). row_at a m) invalidate.done.arena

      inside_now : (n : NodeId) → Inside (graph_in begun) b n → Inside last.graph b n
      inside_now n i = inside_as (graph_in begun) last.graph row_now b n i

      -- what stands above the change: what is inside, and the main without a right side
      abbrev Above : Point → Type 0
      Above p = Inside last.graph b p.node ⊎ ((p ≡ main b) × (last.stage (main b) ≡ machine.Static))

      above : (p : Point) → Above p → last.needed p ≡ true → (last.needed (change b) ≡ true) × (last.height (change b) < last.height p)
      above p (inl i) wanted = inside_above F z last last_inv idle b p.node i p refl wanted
      above p (inr x) wanted =
          let sub = subject old.arena old.work loose b lost kept.work need there in
          subst (λ (y : Point). (last.needed (change b) ≡ true) × (last.height (change b) < last.height y)) (sym x.0)
          (main_above F z last last_inv idle b lost.row sub.0 (row_now b ∙ lost.is_row) sub.1
          (subst (λ (y : Point). last.needed y ≡ true) x.0 wanted) x.1)

      static_now : at new.work.rows (main b) ≡ option_map (with_stage code.Static) (at old.work.rows (main b)) → last.stage (main b) ≡ machine.Static
      static_now e =
          let k = stage_is (at old.work.rows (main b)) main_row in
          stands.stage (main b) (with_stage code.Static k.0) (e ∙ ap (λ (x : Option Progress). option_map (with_stage code.Static) x) k.1)

      static_at : (p : Point) → p ≡ main b → at new.work.rows p ≡ option_map (with_stage code.Static) (at old.work.rows p)
          → last.stage (main b) ≡ machine.Static
      static_at p is e =
          static_now (subst (λ (y : Point). at new.work.rows y ≡ option_map (with_stage code.Static) (at old.work.rows y)) is e)

      live_row : (p : Point) (r : Row) → s.graph.row p.node ≡ Some r → s.needed p ≡ true → Holds old.work.rows p
      live_row p r row wanted =
          let n = need_old old.arena old.work loose b lost kept.work need there p ((st.needed p).0 wanted) in
          elim (kept.work.leaves p (kept.work.step.there p n)) [
            | inl h ↦ h
            | inr dead ↦ absurd (none-some r (sym dead.0 ∙ (sym (ap (λ (G : Graph). G.row p.node) st.graph) ∙ row)))
          ]

      same_stage : (p : Point) → at new.work.rows p ≡ at old.work.rows p → Holds old.work.rows p → last.stage p ≡ s.stage p
      same_stage p e h =
          let k = stage_is (at old.work.rows p) h in
          let f = ap (λ (w : Work). at w.rows p) (mid_rest old.arena old.work loose b lost kept.work need there) in
          stands.stage p k.0 (e ∙ k.1) ∙ sym (st.stage p k.0 (f ∙ k.1))

      same : (p : Point) → s.needed p ≡ true → last.needed p ≡ true → Above p ⊎ (last.stage p ≡ s.stage p)
      same p was wanted = by (s.graph.row p.node) refl
        where
          by : (x : Option Row) → s.graph.row p.node ≡ x → Above p ⊎ (last.stage p ≡ s.stage p)
          by None e = inr (leaves.dead p e)
          by (Some r) e = elim (invalidate.done.rows p) [
            | inr x ↦ inl (inl (inside_now p.node x.0))
            | inl f ↦ elim (loose_rows old.arena old.work loose b lost kept.work need there p) [
              | inl g ↦ inr (same_stage p (f ∙ g) (live_row p r e was))
              | inr x ↦ inl (inr (x.0, static_at p x.0 (f ∙ x.1)))
            ]
          ]

      wanted_now : last.needed (change b) ≡ true
      wanted_now = stays_needed F z s last inv last_inv quiet idle keeps leaves (change b) Above (λ p h n. (above p h n).0) same
          (inv.web.heap (change b) least.heap)

      not_lower : (p : Point) → Above p → last.needed p ≡ true → last.height (change b) ≤ last.height p
      not_lower p h n = let low = (above p h n).1 in omega (arith, low)

      change_itself : (p : Point) → p ≡ change b → last.height (change b) ≤ last.height p
      change_itself p e = subst (λ (x : Point). last.height (change b) ≤ last.height x) (sym e) (omega arith)

      attached_above : IsAttached old.work b → Above (main b)
      attached_above a = elim (invalidate.done.rows (main b)) [
        | inr x ↦ inl (inside_now b x.0)
        | inl f ↦ inr (refl, static_now (f ∙ loose_main old.arena old.work loose b lost kept.work need there a))
      ]

      from_begun : (q : Point) → Holds loose.graph.heap q → last.needed q ≡ true → last.height (change b) ≤ last.height q
      from_begun q h n = elim (loose_heap old.arena old.work loose b lost kept.work need there q h) [
        | inl was ↦
            let low = least.least q (st.heap q ∙ into_mid old.arena old.work loose b lost kept.work need there q was) in
            let a : last.height (change b) ≡ s.height (change b) = ap (λ (f : Point → ℕ). f (change b)) leaves.height in
            let d : last.height q ≡ s.height q = ap (λ (f : Point → ℕ). f q) leaves.height in
            omega (arith, low, a, d)
        | inr x ↦ elim x [
          | inl e ↦ change_itself q e
          | inr y ↦ not_lower q (subst Above (sym y.0) (attached_above y.1)) n
        ]
      ]

      from_gate : (q : Point) → ((n : NodeId) × Inside (graph_in begun) b n × IsGateOf old.arena n q) → last.needed q ≡ true
          → last.height (change b) ≤ last.height q
      from_gate q (n, i, gate) wanted = elim (gate_inside begun b n gate.1 gate.0 i gate.2 gate.3) [
        | inl e ↦ change_itself q (gate.4 ∙ ap change e)
        | inr j ↦ not_lower q (inl (subst (λ (y : Point). Inside last.graph b y.node) (sym gate.4) (inside_now gate.1 j))) wanted
      ]

      least_now : IsLeast last (change b)
      least_now = record {
        heap = (let n : Needed new.work.graph (change b) = (stands.needed (change b)).0 wanted_now in
            stands.heap (change b) ∙ invalidate.done.loses.heap (change b)
            (loose_change old.arena old.work loose b lost kept.work need there (invalidate.done.loses.less (change b) n)) n);
        least = λ q h. let n = last_inv.web.heap q h in elim (invalidate.done.heap q (sym (stands.heap q) ∙ h)) [
          | inl in_begun ↦ from_begun q in_begun n
          | inr x ↦ elim x [
            | inl i ↦ not_lower q (inl (inside_now q.node i)) n
            | inr g ↦ from_gate q g n
          ]
        ];
      }

      cuts_to : (t : State) × CutsTo F z s b new counts t
      cuts_to = (
        last,
        (let prepared = off_prepares F z (change b) s last off in assumption (prepared, stands, least_now, idle, keeps)),
      )

    own_row : at new.work.rows (change b) ≡ at old.work.rows (change b)
    own_row = elim (invalidate.done.rows (change b)) [
      | inr x ↦ absurd (never_inside old.arena old.work kept.work.older b (inside_old b x.0))
      | inl e ↦ elim (loose_rows old.arena old.work loose b lost kept.work need there (change b)) [
        | inl f ↦ e ∙ f
        | inr x ↦ absurd (change_is_other b x.0)
      ]
    ]

    detached : IsAttached new.work b → ⊥
    detached a = elim (invalidate.done.rows (main b)) [
      | inl e ↦ loose_right old.arena old.work loose b lost kept.work need there new.work e (invalidate.done.loses.less (main b)) a
      | inr x ↦ gated_none (at loose.rows (main b)) (inr (ap stage_in (sym x.1) ∙ a.stage))
    ]

    pub cut_off : IsCutOff old new b
    cut_off = record {
      cuts = λ F z s counts inv quiet waits unsettled sb. cuts_to F z s counts inv quiet waits unsettled sb;
      kept = invalidate.done.kept;
      gated = invalidate.gated;
      gates = invalidate.gates;
      right = detached;
      own = own_row;
      places = places_then old.work loose new.work (loose_places old.arena old.work loose b lost kept.work need there) invalidate.done.places;
      rest = invalidate.done.rest ∙ ap (λ (w : Work). record w { graph = new.work.graph; rows = new.work.rows }) lost.rest;
      arena = invalidate.done.arena;
      timed = invalidate.done.timed;
      ran = invalidate.done.ran;
    }

    pub cut_standing : LeavesStanding old new b
    cut_standing = record {
      stands = λ n c. (
        λ h. let y = (invalidate.scopes.stands n c).0 h in (y.0, λ i. y.1 (inside_begun n i)),
        λ h. (invalidate.scopes.stands n c).1 (h.0, λ i. h.1 (inside_old n i)),
      );
      none = invalidate.scopes.none;
    }
