-- A point in a scope goes back to wait for its gate.
use Rattle.std.proofs.Common.{◌≡◌, ◌≢◌, ◌⊎◌, inl, inr, ℕ, zero, suc, ◌<◌, ◌≤◌, ◌++◌, true, false, not, List, [], ◌∷◌, map, Option, None, Some, refl, sym, ap, subst, ◌∙◌, arith}
use Rattle.std.specs.Prelude.{is_some, option_map}
use Rattle.std.proofs.lemmas.Option.{none-some}
use Rattle.inc_value.specs.declared.node.NodeId.{NodeId}
use Rattle.inc_value.specs.declared.node.Part.{Part}
use Rattle.inc_value.specs.declared.node.Part.TheVariants.{Main, Change}
use Rattle.inc_value.specs.declared.node.Point.{Point}
use Rattle.inc_value.specs.declared.outcome.Outcome.{Outcome}
use Rattle.inc_value.specs.Choice.{Among}
use Rattle.inc_terms.specs.Depend.{main, change, subject_of, change_reads, main_reads, fixed_reads, kids_of, rights_of}
use Rattle.inc_terms.specs.Graph.{Graph, Row, Def}
use Rattle.inc_terms.specs.Plan.{targets, gate_of, right_links}
use Rattle.inc_terms.specs.Term.{Functions}
use Rattle.point_map.specs.Rows.{Rows, at, Holds}
use Rattle.link_table.specs.Links.{Links, times, Reads}
use Rattle.necessary_graph.specs.Part.{Needed, IsInStep}
use Rattle.necessary_graph.specs.Sweep.{IsReduced, DropsLeaves}
use Rattle.necessary_graph.proofs.Reaching.{read_needed}
use Rattle.node_arena.specs.Arena.{Arena, row_at}
use Rattle.stabilize_round.specs.Invariant.{Invariant}
use Rattle.stabilize_round.specs.State as machine
use Rattle.stabilize_round.specs.State.{State, Start, Linked, count, one, planned, live_plan, plan_at}
use Rattle.stabilize_round.specs.Wire.{Drop}
use Rattle.stabilize_round.proofs.Points.{same_or_other, at_same, at_other, count_append, count_among, one_same, one_other}
use Rattle.expert_nodes.specs.Experts.{fresh_at}
use Rattle.node_outcomes.specs.Computing.{has_part}
use Rattle.node_outcomes.specs.Row.{IsRewritten, with_stage, settled_in, stage_in}
use Rattle.node_outcomes.specs.Progress.{Progress}
use Rattle.node_outcomes.specs.declared.row.Stage.{Stage}
use Rattle.node_outcomes.specs.declared.row.Stage.TheVariants as code
use Rattle.wiring.specs.Graph.{rowless}
use Rattle.wiring.specs.Kept.{IsKept}
use Rattle.wiring.specs.Stands.{MatchesState, PointInHand, debts, owed_in, Counts}
use Rattle.wiring.specs.Wiring.{IsMarked, IsEnqueued, HasMore, IsAtGate, GoesBack, HandIsSpared, IsSparedHand, TakesOne, is_gated}
use Rattle.wiring.specs.declared.work.Work.{Work}
use Rattle.wiring.proofs.GoingBack.{IsLowered, lowered, fewer_links}
use Rattle.wiring.proofs.InHand.{still_not}
use Rattle.wiring.proofs.Owing.{owes_no_change}
use Rattle.wiring.proofs.Staying.{stage_is}
use Rattle.wiring.proofs.TakingOff.{MayLower, scheduled, row_at_stage, takes, stands_off}

-- ---- as the code does it

module _ (old first mid new : Work) (rows : Rows Progress) (p waited : Point) (step_old : IsInStep old.graph)
    (marked : IsMarked old.graph first.graph waited) (first_rest : first ≡ record old { graph = first.graph }) (enqueued : IsEnqueued first mid p)
    (mid_rest : mid ≡ record first { graph = mid.graph }) (written : IsRewritten mid.rows rows p (with_stage code.Gated))
    (reduced : IsReduced (rowless (record mid { rows = rows })) mid.graph new.graph p waited)
    (rest : new ≡ record mid { graph = new.graph; rows = rows }) (step_new : IsInStep new.graph) where
  rows_are : new.rows ≡ rows
  rows_are = ap (λ (w : Work). w.rows) rest

  written_now : IsRewritten first.rows new.rows p (with_stage code.Gated)
  written_now = subst (λ (x : Rows Progress). IsRewritten x new.rows p (with_stage code.Gated)) (ap (λ (w : Work). w.rows) mid_rest)
      (subst (λ (x : Rows Progress). IsRewritten mid.rows x p (with_stage code.Gated)) (sym rows_are) written)

  fewer : (b : Point) → times reduced.links p b ≤ times mid.graph.links p b
  fewer b = elim (same_or_other b waited) [
    | inl e ↦ subst (λ (y : Point). times reduced.links p y ≤ times mid.graph.links p y) (sym e) (let h = reduced.off.here in omega (arith, h))
    | inr ne ↦ let g = reduced.off.gone b ne in omega (arith, g)
  ]

  pub put_lowered : IsLowered old new p waited code.Gated reduced.links
  put_lowered = lowered old first mid new p waited code.Gated step_old marked first_rest enqueued mid_rest written_now
      (rest ∙ ap (λ (x : Rows Progress). record mid { graph = new.graph; rows = x }) (sym rows_are))
      reduced.links fewer (λ a b ne. reduced.off.others a b (λ e. ne (sym e))) reduced.sweep
      (subst (λ (x : Rows Progress). DropsLeaves (λ (a : Point). not (is_some (at x a))) mid.graph new.graph) (sym rows_are) reduced.drops)
      step_new

-- ---- how often a point is linked to its gate

mains_alone : (b : NodeId) (ns : List NodeId) → count (change b) (map main ns) ≡ 0
mains_alone b [] = refl
mains_alone b (n ∷ ns) =
    let first = one_other (change b) (main n) (λ e. let x = ap (λ (y : Point). y.part) e in absurd (cc)) in
    let rest = mains_alone b ns in
    omega (arith, first, rest)

subject_alone : (b : NodeId) (x : Option NodeId) → count (change b) (change_reads x) ≡ 0
subject_alone b None = refl
subject_alone b (Some m) = let first = one_other (change b) (main m) (λ e. let x = ap (λ (y : Point). y.part) e in absurd (cc)) in omega (arith, first)

own_alone : (b n : NodeId) (x : Option NodeId) (kids : List NodeId) → b ≢ n → count (change b) (main_reads n x kids) ≡ 0
own_alone b n None kids ne = mains_alone b kids
own_alone b n (Some m) kids ne = let first = one_other (change b) (change n) (λ e. ne (ap (λ (y : Point). y.node) e)) in omega (arith, first)

-- who was given before another is another
before_apart : (b n : NodeId) → b.gen_ < n.gen_ → b ≢ n
before_apart b n before e = let same = ap (λ (x : NodeId). x.gen_) e in absurd (omega (arith, before, same))

fixed_alone : (G : Graph) (b n : NodeId) (def : Def) (part : Part) → b ≢ n → count (change b) (fixed_reads G n def part) ≡ 0
fixed_alone G b n def Change ne = subject_alone b (subject_of def)
fixed_alone G b n def Main ne = own_alone b n (subject_of def) (kids_of G n def) ne

targets_alone : (G : Graph) (b n : NodeId) (def : Def) (x : Option Outcome) → count (change b) (targets G n def x) ≡ 0
targets_alone G b n def None = refl
targets_alone G b n def (Some o) = mains_alone b (rights_of G n def o)

rights_alone : (G : Graph) (out : Point → Option Outcome) (b n : NodeId) (def : Def) (part : Part) → count (change b) (right_links G out n def part) ≡ 0
rights_alone G out b n def Change = refl
rights_alone G out b n def Main = targets_alone G b n def (out (change n))

pub gate_once : (b : NodeId) (scope : Option NodeId) → scope ≡ Some b → count (change b) (gate_of scope) ≡ 1
gate_once b scope e = ap (λ (x : Option NodeId). count (change b) (gate_of x)) e ∙ (let same = one_same (change b) in omega (arith, same))

none : (x : ℕ) → (0 < x → ⊥) → x ≡ 0
none zero h = refl
none (suc x) h = absurd (h (omega arith))

pub gated_now : (x : Option Progress) → HasMore (stage_in x) → is_gated (stage_in (option_map (with_stage code.Gated) x)) ≡ true
gated_now None (inl e) = absurd (none-some code.Static e)
gated_now None (inr e) = absurd (none-some code.Full e)
gated_now (Some k) h = refl

pub more_isnt_gated : (x : Option Stage) → HasMore x → is_gated x ≡ false
more_isnt_gated x (inl e) = ap is_gated e
more_isnt_gated x (inr e) = ap is_gated e

-- what has more than its gate's link has a row
pub more_there : (x : Option Progress) → HasMore (stage_in x) → is_some x ≡ true
more_there None (inl e) = absurd (none-some code.Static e)
more_there None (inr e) = absurd (none-some code.Full e)
more_there (Some k) h = refl

module _ (arena : Arena) (old new : Work) (p : Point) (bind : NodeId) (r : Row) (row : row_at arena p.node ≡ Some r) (scope : r.scope ≡ Some bind)
    (kept : IsKept arena old) (links : Links) (l : IsLowered old new p (change bind) code.Gated links)
    (more : HasMore (stage_in (at old.rows p))) (need_p : Needed old.graph p) where
  abbrev gate : Point
  gate = change bind

  bind_row : (b : Row) × (row_at arena bind ≡ Some b) × (is_some (subject_of b.def) ≡ true)
  bind_row = let k = kept.scopes p.node r bind row scope in (k.0, k.4, ap (λ (d : Def). is_some (subject_of d)) k.5)

  pub gate_there : Holds old.rows gate
  gate_there = kept.rows gate ∙ (ap (λ (x : Option Row). has_part x Change) bind_row.1 ∙ bind_row.2)

  -- it waits, and so does its gate
  pub goes_back : GoesBack arena old new p bind
  goes_back = record {
    row = r;
    is_row = row;
    is_scope = scope;
    more = more;
    now = l.rows.changed;
    waits = λ n reads.
        let before : Reads old.graph.links p gate = let f = fewer_links arena old new p gate code.Gated links l p gate in omega (arith, reads, f) in
        let in_mid = l.waits (read_needed old.graph p gate need_p before) in
        let still = read_needed new.graph p gate n reads in
        ap is_some (l.sweep.heap_kept gate ((l.sweep.reached gate).0 still)) ∙ in_mid;
  }

  pub at_gate : IsAtGate new p
  at_gate n m = by (at old.rows p) (subst (λ (x : Option Progress). HasMore (stage_in x)) l.rows.changed m)
    where
      by : (x : Option Progress) → HasMore (stage_in (option_map (with_stage code.Gated) x)) → ⊥
      by None (inl e) = none-some code.Static e
      by None (inr e) = none-some code.Full e
      by (Some k) (inl e) = cc
      by (Some k) (inr e) = cc

  module _ (gone : (b : Point) → (b ≡ change bind → ⊥) → times links p b ≡ 0)
      (stays : times links p (change bind) ≡ times old.graph.links p (change bind))
      (unsettled : settled_in old.round (at old.rows (change bind)) ≡ false)
      (F : Functions) (z : Start) (s : State) (counts : Counts) (held : Option PointInHand) (inv : Invariant F z s)
      (spared : HandIsSpared arena old held) (st : MatchesState arena old counts held s) where
    s_row : s.graph.row p.node ≡ Some r
    s_row = ap (λ (G : Graph). G.row p.node) st.graph ∙ row

    need : s.needed p ≡ true
    need = (st.needed p).1 need_p

    at_stage : (s.stage p ≡ machine.Static) ⊎ (s.stage p ≡ machine.Full)
    at_stage = elim more [ inl e ↦ inl (stage_is st p code.Static e) | inr e ↦ inr (stage_is st p code.Full e) ]

    plan_is : (x : machine.Stage) → s.stage p ≡ x → planned s p ≡ live_plan s.graph s.out p r x
    plan_is x e = ap (λ (y : Option Row). plan_at s.graph s.out s.died p y (s.stage p)) s_row
        ∙ ap (λ (y : machine.Stage). live_plan s.graph s.out p r y) e

    planned_once : count gate (planned s p) ≡ 1
    planned_once =
        let g = gate_once bind r.scope scope in
        let f = fixed_alone s.graph bind p.node r.def p.part (before_apart bind p.node (kept.older p.node bind r row scope)) in
        elim at_stage [
          | inl e ↦
              let plan = ap (count gate) (plan_is machine.Static e) in
              let parts = count_append gate (gate_of r.scope) (fixed_reads s.graph p.node r.def p.part) in
              omega (arith, g, f, plan, parts)
          | inr e ↦
              let plan = ap (count gate) (plan_is machine.Full e) in
              let parts = count_append gate (gate_of r.scope) (fixed_reads s.graph p.node r.def p.part ++ right_links s.graph s.out p.node r.def p.part) in
              let other = count_append gate (fixed_reads s.graph p.node r.def p.part) (right_links s.graph s.out p.node r.def p.part) in
              let right = rights_alone s.graph s.out bind p.node r.def p.part in
              omega (arith, g, f, plan, parts, other, right)
        ]

    -- the gate's link isn't owed
    owes_no_gate : count gate (s.owed p) ≡ 0
    owes_no_gate = ap (count gate) (st.owed p) ∙ by_hand held refl
      where
        alone : count gate (debts old s.needed p) ≡ 0
        alone = owes_no_change old (s.needed p) p bind (mains_alone bind (fresh_at old.experts p.node))

        by_hand : (x : Option PointInHand) → held ≡ x → count gate (owed_in (debts old s.needed) x p) ≡ 0
        by_hand None e = alone
        by_hand (Some h) e = elim (same_or_other h.point p) [
          | inl same ↦ ap (count gate) (subst (λ (y : Point). owed_in (debts old s.needed) (Some h) y ≡ h.owed) same (at_same h.point h.owed (debts old s.needed)))
              ∙ none (count gate h.owed) (λ some. not_owed same (count_among gate h.owed some))
          | inr ne ↦ ap (count gate) (at_other h.point h.owed (debts old s.needed) p ne) ∙ alone
        ]
          where
            not_owed : h.point ≡ p → Among gate h.owed → ⊥
            not_owed same among =
                let sp : IsSparedHand arena old h = subst (λ (y : Option PointInHand). HandIsSpared arena old y) e spared in
                let settled = sp.gate r bind (subst (λ (y : Point). row_at arena y.node ≡ Some r) (sym same) row) scope among
                (subst (λ (y : Point). HasMore (stage_in (at old.rows y))) (sym same) more) in
                cc

    linked_once : s.links p gate ≡ 1
    linked_once = let all = inv.rows.links p gate need in let plan = planned_once in let owed = owes_no_gate in omega (arith, all, plan, owed)

    gate_need : s.needed gate ≡ true
    gate_need = inv.web.onto p gate (let once = linked_once in omega (arith, once))

    gate_links : (b : Point) → row_at_stage s p r code.Gated b ≡ one b gate
    gate_links b = ap (λ (x : Option NodeId). count b (gate_of x)) scope ∙ omega arith

    links_now : (b : Point) → times links p b ≡ row_at_stage s p r code.Gated b
    links_now b = elim (same_or_other b gate) [
      | inl e ↦ subst (λ (y : Point). times links p y ≡ row_at_stage s p r code.Gated y) (sym e)
          (let here_is = stays in let was = st.links p gate in let once = linked_once in let same = one_same gate in let g = gate_links gate in
          omega (arith, here_is, was, once, same, g))
      | inr ne ↦ let out = gone b ne in let other = one_other b gate ne in let g = gate_links b in omega (arith, out, other, g)
    ]

    drops : Drop (scheduled s l.mid) p r machine.Gated (row_at_stage s p r code.Gated)
    drops = record {
      row = s_row;
      links = λ b. refl;
      fewer = λ b some. elim (same_or_other b gate) [
        | inl e ↦ subst (λ (y : Point). Linked s p y) (sym e) (let once = linked_once in omega (arith, once))
        | inr ne ↦ absurd (let other = one_other b gate ne in let g = gate_links b in omega (arith, some, other, g))
      ];
      bare = λ e. cc;
      full = λ e. cc;
      lower = λ e. absurd (cc);
      fresh = elim l.told [ inl h ↦ inl h | inr h ↦ inr (st.settled p ∙ h) ];
      gated = λ e. (bind, scope, st.settled gate ∙ unsettled, l.waits ((st.needed gate).0 gate_need));
      static = λ e. absurd (cc);
    }

    may : MayLower s old new held p gate code.Gated links r l
    may = record {
      need = need;
      row = s_row;
      waited_row = (bind_row.0, ap (λ (G : Graph). G.row bind) st.graph ∙ bind_row.1);
      waited_need = gate_need;
      unsettled = st.settled gate ∙ unsettled;
      linked = links_now;
      drops = drops;
      back = λ h e is. still_not old new p
          (ap (λ (x : Option Progress). is_gated (stage_in x)) l.rows.changed ∙ gated_now (at old.rows p) more)
          (more_isnt_gated (stage_in (at old.rows p)) more);
    }

  pub put_taken : ((b : Point) → (b ≡ change bind → ⊥) → times links p b ≡ 0)
      → times links p (change bind) ≡ times old.graph.links p (change bind)
      → settled_in old.round (at old.rows (change bind)) ≡ false → TakesOne arena old new
  put_taken gone stays unsettled F z s counts held inv spared st =
      let m = may gone stays unsettled F z s counts held inv spared st in (
        _,
        takes F z s arena old new counts held st p gate code.Gated links r l m,
        stands_off F z s arena old new counts held st p gate code.Gated links r l m,
      )
