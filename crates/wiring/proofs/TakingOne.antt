-- A node's right side is taken off.
use Rattle.std.proofs.Common.{◌≡◌, inl, inr, ◌+◌, ◌<◌, ◌≤◌, ◌++◌, true, false, Bool, cond, List, [], ◌∷◌, map, Option, None, Some, refl, sym, ap, subst, ◌∙◌, arith}
use Rattle.std.specs.Prelude.{is_some}
use Rattle.std.proofs.lemmas.Option.{none-some}
use Rattle.inc_value.specs.declared.node.NodeId.{NodeId}
use Rattle.inc_value.specs.declared.node.Part.TheVariants.{Main}
use Rattle.inc_value.specs.declared.node.Point.{Point}
use Rattle.inc_value.specs.declared.outcome.Outcome.{Outcome}
use Rattle.inc_value.specs.Choice.{here, Among, and_then}
use Rattle.inc_terms.specs.declared.def.Def as declared
use Rattle.inc_terms.specs.declared.def.Def.TheVariants as form
use Rattle.inc_terms.specs.Code.{def_of}
use Rattle.inc_terms.specs.Depend.{main, change, subject_of, fixed_reads, at_most_one}
use Rattle.inc_terms.specs.Graph.{Graph, Row}
use Rattle.inc_terms.specs.Plan.{targets, gate_of}
use Rattle.inc_terms.specs.Term.{Functions}
use Rattle.point_map.specs.Rows.{Rows, at, Holds}
use Rattle.link_table.specs.Links.{Links, times, Reads}
use Rattle.link_table.specs.declared.link.Link.{Link}
use Rattle.necessary_graph.specs.Part.{Needed, IsInStep}
use Rattle.necessary_graph.specs.Sweep.{IsUnlinked}
use Rattle.node_arena.specs.Arena.{Arena, row_at}
use Rattle.stabilize_round.specs.Invariant.{Invariant}
use Rattle.stabilize_round.specs.State as machine
use Rattle.stabilize_round.specs.State.{State, Start, count, one, planned, live_plan, plan_at}
use Rattle.stabilize_round.specs.Wire.{Drop}
use Rattle.stabilize_round.proofs.Points.{same_or_other, at_other, count_append, one_same, one_other, among_count}
use Rattle.node_outcomes.specs.Computing.{AreExperts}
use Rattle.node_outcomes.specs.Row.{settled_in, stage_in, outcome_in}
use Rattle.node_outcomes.specs.Choosing.{right_in}
use Rattle.node_outcomes.specs.Progress.{Progress}
use Rattle.node_outcomes.specs.declared.row.Stage.TheVariants as code
use Rattle.wiring.specs.Graph.{rowless}
use Rattle.wiring.specs.Stands.{MatchesState, PointInHand, hand, debts, owed_in, Counts}
use Rattle.wiring.specs.Turning.{IsDetached, IsAttached, IsOff}
use Rattle.wiring.specs.Wiring.{IsMarked, IsSpared, TakesOne, HandIsSpared, is_still, hand_now}
use Rattle.wiring.specs.declared.work.Work.{Work}
use Rattle.wiring.proofs.Deciding.{decides_needed}
use Rattle.wiring.proofs.GoingBack.{IsLowered, lowered, lowered_alone}
use Rattle.wiring.proofs.Holding.{targets_at}
use Rattle.wiring.proofs.InHand.{still_same}
use Rattle.wiring.proofs.Owing.{owes_none, two_fresh}
use Rattle.wiring.proofs.Staying.{stage_is, out_is}
use Rattle.wiring.proofs.TakingOff.{MayLower, scheduled, row_at_stage, takes, stands_off}

-- nothing is taken off
pub nothing_taken : (arena : Arena) (work : Work) → IsInStep work.graph → TakesOne arena work work
nothing_taken arena work in_step F z s counts held inv spared st = (s, here, by_hand held refl)
  where
    by_hand : (x : Option PointInHand) → held ≡ x → MatchesState arena work counts (hand_now work work x) s
    by_hand None e = subst (λ (y : Option PointInHand). MatchesState arena work counts y s) e st
    by_hand (Some h) e = by (is_still work work h.point) refl
      where
        stands : MatchesState arena work counts (Some h) s
        stands = subst (λ (y : Option PointInHand). MatchesState arena work counts y s) e st

        unneeded : is_still work work h.point ≡ false → Needed work.graph h.point → ⊥
        unneeded f n =
            let t = (decides_needed work.graph in_step h.point).1 n in
            let g = sym (still_same work work h.point refl) ∙ f in
            cc

        owes_none : is_still work work h.point ≡ false → h.owed ≡ []
        owes_none f = let sp = subst (λ (y : Option PointInHand). HandIsSpared arena work y) e spared in
            elim sp.needed [ inl none ↦ none | inr n ↦ absurd (unneeded f n) ]

        by : (b : Bool) → is_still work work h.point ≡ b → MatchesState arena work counts (cond b (Some h) (Some (hand h.point []))) s
        by true t = stands
        by false f = subst (λ (xs : List Point). MatchesState arena work counts (Some (hand h.point xs)) s) (owes_none f) stands

-- ---- the main goes back to wait for its change

module _ (old first new : Work) (n : NodeId) (step_old : IsInStep old.graph) (marked : IsMarked old.graph first.graph (change n))
    (only : first ≡ record old { graph = first.graph }) (step_new : IsInStep new.graph) where
  loose_alone : (right : Option NodeId) (loose : IsDetached first new n right) → new.graph ≡ loose.mid.graph
      → IsLowered old new (main n) (change n) code.Static loose.mid.graph.links
  loose_alone right loose same = lowered_alone old first loose.mid new (main n) (change n) code.Static step_old marked only loose.enqueued loose.rest
      loose.rows loose.last same step_new

  loose_link : (right : Option NodeId) (loose : IsDetached first new n right) (m : NodeId)
      → (u : IsUnlinked (rowless new) loose.mid.graph new.graph (main n) (main m)) → IsLowered old new (main n) (change n) code.Static u.links
  loose_link right loose m u = lowered old first loose.mid new (main n) (change n) code.Static step_old marked only loose.enqueued loose.rest
      loose.rows loose.last u.links fewer others u.sweep u.drops step_new
    where
      fewer : (b : Point) → times u.links (main n) b ≤ times loose.mid.graph.links (main n) b
      fewer b = elim (same_or_other b (main m)) [
        | inl e ↦ subst (λ (y : Point). times u.links (main n) y ≤ times loose.mid.graph.links (main n) y) (sym e)
            (let r = u.off.raised in omega (arith, r))
        | inr ne ↦ let o = u.off.others (main n) b (λ h. ne (ap (λ (x : Link). x.kid) h)) in omega (arith, o)
      ]

      others : (a b : Point) → (main n ≡ a → ⊥) → times u.links a b ≡ times loose.mid.graph.links a b
      others a b ne = sym (u.off.others a b (λ h. ne (sym (ap (λ (x : Link). x.reader) h))))

  pub loose_lowered : (right : Option NodeId) → IsDetached first new n right → (links : Links) × IsLowered old new (main n) (change n) code.Static links
  loose_lowered right loose = by right loose.off
    where
      by : (x : Option NodeId) → IsOff (rowless new) loose.mid.graph new.graph n x
          → (links : Links) × IsLowered old new (main n) (change n) code.Static links
      by None same = (loose.mid.graph.links, loose_alone right loose same)
      by (Some m) (inl u) = (u.links, loose_link right loose m u)
      by (Some m) (inr x) = (loose.mid.graph.links, loose_alone right loose x.0)

-- ---- as moves

module _ (arena : Arena) (old first new : Work) (n : NodeId) (r : Row) (s_id m : NodeId) (row : row_at arena n ≡ Some r)
    (sub : subject_of r.def ≡ Some s_id) (own_row : Holds old.rows (change n))
    (attached : IsAttached old n) (unsettled : settled_in old.round (at old.rows (change n)) ≡ false) (right : right_in old.rows old.roots n r.def ≡ Some m)
    (marked : IsMarked old.graph first.graph (change n)) (only : first ≡ record old { graph = first.graph })
    (loose : IsDetached first new n (right_in first.rows first.roots n r.def)) (step_old : IsInStep old.graph) (step_new : IsInStep new.graph)
    (experts : AreExperts arena old.experts) where
  right_now : right_in first.rows first.roots n r.def ≡ Some m
  right_now = ap (λ (w : Work). right_in w.rows w.roots n r.def) only ∙ right

  off : IsOff (rowless new) loose.mid.graph new.graph n (Some m)
  off = subst (λ (x : Option NodeId). IsOff (rowless new) loose.mid.graph new.graph n x) right_now loose.off

  links_mid : loose.mid.graph.links ≡ old.graph.links
  links_mid = loose.enqueued.graph.links ∙ marked.graph.links

  module _ (F : Functions) (z : Start) (s : State) (counts : Counts) (held : Option PointInHand) (inv : Invariant F z s)
      (spared : HandIsSpared arena old held) (st : MatchesState arena old counts held s) where
    s_row : s.graph.row n ≡ Some r
    s_row = ap (λ (G : Graph). G.row n) st.graph ∙ row

    need : s.needed (main n) ≡ true
    need = (st.needed (main n)).1 attached.needed

    full : s.stage (main n) ≡ machine.Full
    full = stage_is st (main n) code.Full attached.stage

    other : (h : PointInHand) → held ≡ Some h → h.point ≡ main n → ⊥
    other h e is =
        let sp = subst (λ (y : Option PointInHand). HandIsSpared arena old y) e spared in
        let settled : settled_in old.round (at old.rows (change n)) ≡ true =
        subst (λ (x : Point). settled_in old.round (at old.rows (change x.node)) ≡ true) is
        (sp.spared (ap (λ (x : Point). x.part) is) (subst (λ (x : Point). stage_in (at old.rows x) ≡ Some code.Full) (sym is) attached.stage) r
        (subst (λ (x : Point). row_at arena x.node ≡ Some r) (sym is) row) (ap is_some sub)) in
        cc

    right_side : targets s.graph n r.def (s.out (change n)) ≡ main m ∷ []
    right_side = ap (λ (x : Option Outcome). targets s.graph n r.def x) (out_is st (change n) own_row)
        ∙ (ap (λ (G : Graph). targets G n r.def (outcome_in (at old.rows (change n)))) st.graph
        ∙ (targets_at arena old n r row ∙ ap (λ (x : Option NodeId). map main (at_most_one x)) right))

    abbrev static_plan : List Point
    static_plan = live_plan s.graph s.out (main n) r machine.Static

    owes_nothing : s.owed (main n) ≡ []
    owes_nothing = st.owed (main n) ∙ by_hand held refl
      where
        alone : debts old s.needed (main n) ≡ []
        alone = owes_none old (s.needed (main n)) (main n) (two_fresh arena old.experts experts n r row (ap is_some sub))

        by_hand : (x : Option PointInHand) → held ≡ x → owed_in (debts old s.needed) x (main n) ≡ []
        by_hand None e = alone
        by_hand (Some h) e = at_other h.point h.owed (debts old s.needed) (main n) (other h e) ∙ alone

    -- its links before: those of a wait, and its right side's
    linked_all : (b : Point) → times old.graph.links (main n) b ≡ count b static_plan + one b (main m)
    linked_all b =
        let l = inv.rows.links (main n) b need in
        let o : count b (s.owed (main n)) ≡ 0 = ap (count b) owes_nothing in
        let p : planned s (main n) ≡ gate_of r.scope ++ (fixed_reads s.graph n r.def Main ++ targets s.graph n r.def (s.out (change n))) =
        ap (λ (x : Option Row). plan_at s.graph s.out s.died (main n) x (s.stage (main n))) s_row
        ∙ ap (λ (x : machine.Stage). live_plan s.graph s.out (main n) r x) full in
        let all = ap (count b) p in
        let one_part = count_append b (gate_of r.scope) (fixed_reads s.graph n r.def Main ++ targets s.graph n r.def (s.out (change n))) in
        let two = count_append b (fixed_reads s.graph n r.def Main) (targets s.graph n r.def (s.out (change n))) in
        let t = ap (count b) right_side in
        let mine = count_append b (gate_of r.scope) (fixed_reads s.graph n r.def Main) in
        let w = st.links (main n) b in
        omega (arith, l, o, all, one_part, two, t, mine, w)

    own_linked : 0 < s.links (main n) (change n)
    own_linked =
        let c = linked_all (change n) in let w = st.links (main n) (change n) in
        let a : Among (change n) (fixed_reads s.graph n r.def Main) = rw sub (inl refl) in
        let k = among_count (change n) (fixed_reads s.graph n r.def Main) a in
        let mine = count_append (change n) (gate_of r.scope) (fixed_reads s.graph n r.def Main) in
        omega (arith, c, w, k, mine)

    own_needed : s.needed (change n) ≡ true
    own_needed = inv.web.onto (main n) (change n) own_linked

    -- the link was there
    never_absent : (Reads loose.mid.graph.links (main n) (main m) → ⊥) → ⊥
    never_absent not = not (
        let w = linked_all (main m) in let o = one_same (main m) in
        let l = ap (λ (x : Links). times x (main n) (main m)) links_mid in omega (arith, w, o, l))

    module _ (u : IsUnlinked (rowless new) loose.mid.graph new.graph (main n) (main m)) where
      back : IsLowered old new (main n) (change n) code.Static u.links
      back = loose_link old first new n step_old marked only step_new (right_in first.rows first.roots n r.def) loose m u

      main_links : (b : Point) → times u.links (main n) b ≡ count b static_plan
      main_links b = elim (same_or_other b (main m)) [
        | inl e ↦
            let raised = u.off.raised in let was = linked_all (main m) in let o = one_same (main m) in
            let l = ap (λ (x : Links). times x (main n) (main m)) links_mid in
            subst (λ (x : Point). times u.links (main n) x ≡ count x static_plan) (sym e) (omega (arith, raised, was, o, l))
        | inr ne ↦
            let same = u.off.others (main n) b (λ e. ne (ap (λ (l : Link). l.kid) e)) in let was = linked_all b in let o = one_other b (main m) ne in
            let l = ap (λ (x : Links). times x (main n) b) links_mid in
            omega (arith, same, was, o, l)
      ]

      drops : Drop (scheduled s back.mid) (main n) r machine.Static (row_at_stage s (main n) r code.Static)
      drops = record {
        row = s_row;
        links = λ b. refl;
        fewer = λ b l. let was = linked_all b in let w = st.links (main n) b in omega (arith, l, was, w);
        bare = λ e. cc;
        full = λ e. cc;
        lower = λ e. inr full;
        fresh = elim back.told [ inl h ↦ inl h | inr h ↦ inr (st.settled (main n) ∙ h) ];
        gated = λ e. absurd (cc);
        static = λ e. (refl, s_id, sub, back.waits ((st.needed (change n)).0 own_needed));
      }

      may : MayLower s old new held (main n) (change n) code.Static u.links r back
      may = record {
        need = need;
        row = s_row;
        waited_row = (r, s_row);
        waited_need = own_needed;
        unsettled = st.settled (change n) ∙ unsettled;
        linked = main_links;
        drops = drops;
        back = λ h e is. absurd (other h e is);
      }

  -- so it is as moves
  pub one_taken : TakesOne arena old new
  one_taken F z s counts held inv spared st = elim off [
    | inl u ↦
        let l = back F z s counts held inv spared st u in
        let m = may F z s counts held inv spared st u in (
          _,
          takes F z s arena old new counts held st (main n) (change n) code.Static u.links r l m,
          stands_off F z s arena old new counts held st (main n) (change n) code.Static u.links r l m,
        )
    | inr x ↦ absurd (never_absent F z s counts held inv spared st x.1)
  ]

none_of : (x : Option Outcome) (m : NodeId) → and_then x (λ (o : Outcome). None) ≡ Some m → ⊥
none_of None m e = none-some m e
none_of (Some o) m e = none-some m e

-- what has a right side has a subject
pub right_has_subject : (d : declared.Def) (rows : Rows Progress) (roots : Rows NodeId) (n m : NodeId) → right_in rows roots n (def_of d) ≡ Some m
    → (k : NodeId) × (subject_of (def_of d) ≡ Some k)
right_has_subject (form.If t a b) rows roots n m e = (t, refl)
right_has_subject (form.Join k) rows roots n m e = (k, refl)
right_has_subject (form.Bind l f caps) rows roots n m e = (l, refl)
right_has_subject _ rows roots n m e = absurd (none_of (outcome_in (at rows (change n))) m e)

-- rows of what is spared stay
pub spared_rows : (arena : Arena) (old first new : Work) (n : NodeId) (r : Row) (right : Option NodeId) → row_at arena n ≡ Some r
    → is_some (subject_of r.def) ≡ true → IsAttached old n → settled_in old.round (at old.rows (change n)) ≡ false → first ≡ record old { graph = first.graph }
    → IsDetached first new n right → (p : Point) → IsSpared arena old p → at new.rows p ≡ at old.rows p
spared_rows arena old first new n r right row sub attached unsettled only loose p spared = elim (same_or_other p (main n)) [
  | inl e ↦ absurd (
      let settled : settled_in old.round (at old.rows (change n)) ≡ true =
      subst (λ (x : Point). settled_in old.round (at old.rows (change x.node)) ≡ true) e
      (spared (ap (λ (x : Point). x.part) e) (subst (λ (x : Point). stage_in (at old.rows x) ≡ Some code.Full) (sym e) attached.stage) r
      (subst (λ (x : Point). row_at arena x.node ≡ Some r) (sym e) row) sub) in
      cc)
  | inr ne ↦ loose.rows.others p ne ∙ ap (λ (w : Work). at w.rows p) only
]
