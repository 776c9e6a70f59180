-- With the heap and the worklist empty all that is needed is exact, and the links are what is depended on.
use Rattle.std.proofs.Common.{◌≡◌, inl, inr, suc, ◌<◌, ◌≤◌, Bool, true, false, cond, List, [], ◌∷◌, map, Option, None, Some, refl, sym, ap, subst, ◌∙◌, arith}
use Rattle.inc_value.specs.declared.node.NodeId.{NodeId}
use Rattle.inc_value.specs.declared.node.Part.TheVariants.{Main}
use Rattle.inc_value.specs.declared.node.Point.{Point}
use Rattle.inc_value.specs.Choice.{Among, Reaches, here, step}
use Rattle.inc_value.specs.Walk.{IsWalk, IsDeep, IsOnCycle}
use Rattle.inc_terms.specs.Term.{Functions}
use Rattle.inc_value.specs.declared.function.FnRef.{FnRef}
use Rattle.inc_value.specs.declared.value.Value.{Value}
use Rattle.inc_value.specs.declared.value.Value.TheVariants as value
use Rattle.inc_terms.specs.Graph as graph
use Rattle.inc_terms.specs.Graph.{Row, Def}
use Rattle.inc_terms.specs.Evaluate.{GiveAll}
use Rattle.inc_terms.specs.Work.{taken_by}
use Rattle.inc_terms.specs.Depend.{Depends, gate, ghost, fixed, right, main, change, fixed_reads, subject_of}
use Rattle.inc_terms.specs.Local.{shown, Agrees, HasRun}
use Rattle.inc_terms.specs.Need.{IsUnfrozen, Needed}
use Rattle.inc_terms.specs.Plan.{gate_of}
use Rattle.inc_terms.proofs.Local.{main_sees}
use Rattle.inc_terms.proofs.Plan.{among_left, among_right, plan_depends, depends_plan}
use Rattle.inc_terms.proofs.Walk.{low_is_not_deep}
use Rattle.stabilize_round.specs.State.{State, Start, Call, Stage, Bare, Gated, Static, Full, Linked, count}
use Rattle.stabilize_round.specs.Invariant.{Invariant, Recalls, HasCalled}
use Rattle.stabilize_round.specs.Moves.{Quiet}
use Rattle.stabilize_round.specs.Calling.{IsAnswer, cost_at}
use Rattle.stabilize_round.specs.Freezing.{fires, row_fires, fires_at}
use Rattle.stabilize_round.specs.Ended.{RootsAre, Fires, Ended, unsettled}
use Rattle.stabilize_round.proofs.Freezing.{Firing, firing, firing_fires}
use Rattle.stabilize_round.proofs.Parts.{bool_cases}
use Rattle.stabilize_round.proofs.Planned.{reads_taken}
use Rattle.stabilize_round.proofs.Main.{gives_gathered}
use Rattle.stabilize_round.proofs.Counts.{fewer_than}
use Rattle.stabilize_round.proofs.Points.{among_or_not, count_among, among_count}
use Rattle.stabilize_round.proofs.Low.{Low, among_gate, gate_among, links_are, plan_links, links_plan, low_points}

-- what a freeze's predicate answers
predicate_answers : (F : Functions) (def : Def) (kid : NodeId) (f : FnRef) (given values : List Value) (w : Value) → def ≡ graph.Freeze kid f
    → given ≡ values → IsAnswer F def given w → w ≡ F.value f values
predicate_answers F def kid f given values w is e h = rw (is, e) at h

module _ (F : Functions) (z : Start) (s : State) (inv : Invariant F z s) (quiet : Quiet s) (observed : List NodeId) (are : RootsAre s observed)
    (empty : (q : Point) → s.heap q ≡ true → ⊥) where
  abbrev Dep : Point → Point → Type 0
  Dep p q = Depends F s.graph s.died p q

  low : (p : Point) → s.needed p ≡ true → Low F z s inv quiet p
  low p need = low_points F z s inv quiet (suc (s.height p)) (λ q h. absurd (empty q h)) p (omega arith) need

  module _ (p : Point) (need : s.needed p ≡ true) where
    module _ (r : Row) (row : s.graph.row p.node ≡ Some r) where
      run : p.part ≡ Main → (k : NodeId) → subject_of r.def ≡ Some k → HasRun F s.graph s.out p.node r.def k
      run part k sub =
          let own : Among (change p.node) (fixed_reads s.graph p.node r.def p.part) = rw (part, sub) (inl refl) in
          let l = plan_links F z s inv quiet p (change p.node) r Full row ((low p need).full r row) need
          (among_right (change p.node) (gate_of r.scope) _ (among_left (change p.node) (fixed_reads s.graph p.node r.def p.part) _ own)) in
          ((low (change p.node) (inv.web.onto p (change p.node) l)).exact r row).1 k sub

      live_to : (q : Point) → Linked s p q → Dep p q
      live_to q l = plan_depends F s.graph s.out s.died p q r row ((low p need).exact r row).0 run
          (links_plan F z s inv quiet p q r Full row ((low p need).full r row) l)

      live_from : (q : Point) → Dep p q → Linked s p q
      live_from q d = plan_links F z s inv quiet p q r Full row ((low p need).full r row) need
          (depends_plan F s.graph s.out s.died p q r row ((low p need).exact r row).0 run d)

    module _ (row : s.graph.row p.node ≡ None) where
      ghosts : (q : Point) (st : Stage) → s.stage p ≡ st → s.links p q ≡ count q (gate_of (s.died p.node))
      ghosts q Bare e = absurd (let a = inv.rows.bare p need e in let b = quiet p in cc)
      ghosts q Gated e = let a = rw (row, e) at (links_are F z s inv quiet p q need) in a
      ghosts q Static e = let a = rw (row, e) at (links_are F z s inv quiet p q need) in a
      ghosts q Full e = let a = rw (row, e) at (links_are F z s inv quiet p q need) in a

      dead_to : (q : Point) → Linked s p q → Dep p q
      dead_to q l =
          let e = ghosts q (s.stage p) refl in
          let g = gate_among (s.died p.node) q (count_among q (gate_of (s.died p.node)) (omega arith)) in
          ghost row g.1 g.2

      by_gate : (q : Point) (b : NodeId) → s.died p.node ≡ Some b → q ≡ change b → Linked s p q
      by_gate q b d is =
          let e = ghosts q (s.stage p) refl in
          let c = among_count q (gate_of (s.died p.node))
          (subst (λ (y : Point). Among y (gate_of (s.died p.node))) (sym is) (among_gate (s.died p.node) b d)) in
          omega arith

      dead_from : (q : Point) → Dep p q → Linked s p q
      dead_from q (gate e sc is) = absurd (cc)
      dead_from q (ghost {b} e d is) = by_gate q b d is
      dead_from q (fixed e st a) = absurd (cc)
      dead_from q (right e st part sub gives at is) = absurd (cc)

    to : (q : Point) (x : Option Row) → s.graph.row p.node ≡ x → Linked s p q → Dep p q
    to q None row l = dead_to row q l
    to q (Some r) row l = live_to r row q l

    from : (q : Point) (x : Option Row) → s.graph.row p.node ≡ x → Dep p q → Linked s p q
    from q None row d = dead_from row q d
    from q (Some r) row d = live_from r row q d

  reach_to : (a b : Point) → Reaches (Linked s) a b → Reaches Dep a b
  reach_to a b here = here
  reach_to a b (step l rest) = step (to a (inv.web.from a _ l) _ (s.graph.row a.node) refl l) (reach_to _ b rest)

  reach_needed : (a b : Point) → Reaches Dep a b → s.needed a ≡ true → s.needed b ≡ true
  reach_needed a b here need = need
  reach_needed a b (step d rest) need = reach_needed _ b rest (inv.web.onto a _ (from a need _ (s.graph.row a.node) refl d))

  over : (p : Point) → s.needed p ≡ true → Needed F s.graph s.died observed p
  over p need =
      let w = inv.web.reached p need in
      let l = are.listed w.0 w.1 in
      (l.0, l.1, subst (λ (y : Point). Reaches Dep y p) l.2 (reach_to w.0 p w.2))

  under : (p : Point) → Needed F s.graph s.died observed p → s.needed p ≡ true
  under p (n, root, way) = reach_needed (main n) p way (inv.web.rooted (main n) (are.on n root))

  -- ---- walks

  walk_linked : (p : Point) (rest : List Point) → s.needed p ≡ true → IsWalk Dep (p ∷ rest) → IsWalk (Linked s) (p ∷ rest)
  walk_linked p [] need w = tt
  walk_linked p (q ∷ rest) need w = let l = from p need q (s.graph.row p.node) refl w.0 in (l, walk_linked q rest (inv.web.onto p q l) w.1)

  falls_along : (a b : Point) → s.needed a ≡ true → Reaches Dep a b → s.height b ≤ s.height a
  falls_along a b need here = omega arith
  falls_along a b need (step {b = c} d rest) =
      let l = from a need c (s.graph.row a.node) refl d in
      let k = inv.web.rises a c l in
      let h = falls_along c b (inv.web.onto a c l) rest in
      omega arith

  acyclic : (p : Point) → s.needed p ≡ true → IsOnCycle Dep p → ⊥
  acyclic p need (q, d, back) =
      let l = from p need q (s.graph.row p.node) refl d in
      let k = inv.web.rises p q l in
      let h = falls_along q p (inv.web.onto p q l) back in
      omega arith

  shallow : (p : Point) → s.needed p ≡ true → IsDeep Dep p → ⊥
  shallow p need (rest, long, walk) =
      low_is_not_deep s.links s.height (λ a b l. inv.web.rises a b l) inv.web.low p (rest, long, walk_linked p rest need walk)

  agrees : (p : Point) → s.needed p ≡ true → Agrees F s.graph s.out p
  agrees p need r row = elim (inv.fresh p r row need) [
    | inl h ↦ absurd (empty p h)
    | inr (inl h) ↦ (inv.settled.done p h).agrees r row
    | inr (inr h) ↦ h.1 r row
  ]

  recalls : (p : Point) → s.needed p ≡ true → Recalls s.graph (shown s.graph s.out) s.last p
  recalls p need r kids values row = elim (inv.fresh p r row need) [
    | inl h ↦ absurd (empty p h)
    | inr (inl h) ↦ (inv.settled.done p h).recalls r kids values row
    | inr (inr h) ↦ h.2 r kids values row
  ]

  unmarked : (n : NodeId) (r : Row) → s.graph.row n ≡ Some r → s.needed (main n) ≡ true → s.stale n ≡ false
  unmarked n r row need = elim (inv.fresh (main n) r row need) [
    | inl h ↦ absurd (empty (main n) h)
    | inr (inl h) ↦ inv.accounts.unmarked n h
    | inr (inr h) ↦ h.3 refl
  ]

  renewed : (n : NodeId) (r : Row) (kids : List NodeId) (values : List Value) → z.stale n ≡ true → s.needed (main n) ≡ true
      → s.graph.row n ≡ Some r → taken_by s.graph n r.def ≡ Some kids → GiveAll F s.graph kids values → 0 < cost_at s.graph n
      → Among n s.ran
  renewed n r kids values st need row takes gives some = elim (bool_cases (s.settled (main n))) [
    | inl h ↦ inv.accounts.renewed n r kids values st h row takes gives some
    | inr h ↦ absurd (let a = unmarked n r row need in let b = inv.accounts.marked n h in cc)
  ]

  -- ---- freezes

  kept_single : (kid : NodeId) (f : FnRef) (r : Row) (n : NodeId) → r.def ≡ graph.Freeze kid f → s.graph.frozen n ≡ None
      → taken_by s.graph n r.def ≡ Some (kid ∷ [])
  kept_single kid f r n is none = rw (is, none) refl

  fired_by_call : (n : NodeId) (v : Value) (h : Firing (s.graph.row n) (s.graph.frozen n) (s.last n) v)
      → HasCalled F z s.graph s.died s.root s.settled s.last n → Fires F s.graph n v
  fired_by_call n v h c =
      let mine = h.is_row in let its = c.is_row in
      let rows : c.row ≡ h.row = cc in
      let takes = kept_single h.kid h.predicate h.row n h.is_freeze h.keeps_none in
      let takes' : taken_by s.graph n h.row.def ≡ Some c.kids = subst (λ (y : Row). taken_by s.graph n y.def ≡ Some c.kids) rows c.takes in
      let kids : c.kids ≡ h.kid ∷ [] = cc in
      let last = c.is_last in let last' = h.is_last in
      let calls : h.call ≡ record { arguments = c.values; result = c.result } = cc in
      let values : c.values ≡ v ∷ [] = sym (ap (λ (x : Call). x.arguments) calls) ∙ h.arguments in
      let result : c.result ≡ value.Bool true = sym (ap (λ (x : Call). x.result) calls) ∙ h.result in
      let gives : GiveAll F s.graph (h.kid ∷ []) (v ∷ []) = rw (kids, values) at c.gives in
      let def : c.row.def ≡ graph.Freeze h.kid h.predicate = ap (λ (x : Row). x.def) rows ∙ h.is_freeze in
      let answer : c.result ≡ F.value h.predicate (v ∷ []) = rw (def, values) at c.answers in
      record {
        row = h.row;
        kid = h.kid;
        predicate = h.predicate;
        is_row = h.is_row;
        is_freeze = h.is_freeze;
        keeps_none = h.keeps_none;
        gives = gives.0;
        holds = sym answer ∙ result;
      }

  fired : (n : NodeId) (v : Value) → fires_at s n ≡ Some v → Fires F s.graph n v
  fired n v e =
      let h = firing (s.graph.row n) (s.graph.frozen n) (s.last n) v e in
      elim (among_or_not n s.ran) [
        | inl a ↦ fired_by_call n v h (inv.accounts.called n a)
        | inr no_ ↦ elim (inv.accounts.kept n h.row h.is_row no_) [
          | inr c ↦ fired_by_call n v h c.0
          | inl kept ↦ absurd (
              let none : fires h.row.def (s.graph.frozen n) (s.last n) ≡ None =
              ap (λ (x : Option Call). fires h.row.def (s.graph.frozen n) x) kept ∙ inv.accounts.unfired n h.row h.is_row in
              let some : fires h.row.def (s.graph.frozen n) (s.last n) ≡ Some v =
              sym (ap (λ (x : Option Row). row_fires x (s.graph.frozen n) (s.last n)) h.is_row) ∙ e in
              cc
              )
        ]
      ]

  fires_now : (n : NodeId) (v : Value) → Fires F s.graph n v → fires_at s n ≡ Some v
  fires_now n v h =
      let unfrozen : IsUnfrozen s.graph n = record {
        row = h.row;
        kid = h.kid;
        predicate = h.predicate;
        is_row = h.is_row;
        is_freeze = h.is_freeze;
        keeps_none = h.keeps_none;
      } in
      let need = inv.web.rooted (main n) (are.on n (inr unfrozen)) in
      let takes = kept_single h.kid h.predicate h.row n h.is_freeze h.keeps_none in
      let sees = λ (k : NodeId) (a : Among (main k) (map main (h.kid ∷ []))).
      let l = plan_links F z s inv quiet (main n) (main k) h.row Full h.is_row ((low (main n) need).full h.row h.is_row) need
      (among_right (main k) (gate_of h.row.scope) _ (among_left (main k) (fixed_reads s.graph n h.row.def Main) _
      (reads_taken s.graph n h.row.def (h.kid ∷ []) (main k) takes a))) in
      main_sees F s.graph s.out k (low (main k) (inv.web.onto (main n) (main k) l)).exact in
      let seen = gives_gathered F s.graph s.out (h.kid ∷ []) (v ∷ []) sees (h.gives, tt) in
      let c = recalls (main n) need h.row (h.kid ∷ []) (v ∷ []) h.is_row refl takes seen in
      let answer = predicate_answers F h.row.def h.kid h.predicate c.0.arguments (v ∷ []) c.0.result h.is_freeze c.2
      (inv.accounts.answers n h.row (h.kid ∷ []) c.0 h.is_row takes c.1) in
      firing_fires (s.graph.row n) (s.graph.frozen n) (s.last n) v (record {
        row = h.row;
        kid = h.kid;
        predicate = h.predicate;
        call = c.0;
        is_row = h.is_row;
        is_freeze = h.is_freeze;
        keeps_none = h.keeps_none;
        is_last = c.1;
        arguments = c.2;
        result = answer ∙ h.holds;
      })

  pub ended : Ended F z s observed
  ended = record {
    full = λ p r row need. (low p need).full r row;
    exact = λ p need. (low p need).exact;
    links = λ p q need. ((λ l. to p need q (s.graph.row p.node) refl l), (λ d. from p need q (s.graph.row p.node) refl d));
    needs = λ p. ((λ need. over p need), (λ o. under p o));
    acyclic = λ p o. acyclic p (under p o);
    shallow = λ p o. shallow p (under p o);
    local = λ p o. agrees p (under p o);
    sees = λ n o. main_sees F s.graph s.out n (low (main n) (under (main n) o)).exact;
    recalls = recalls;
    costs = inv.accounts.costs;
    kept = inv.accounts.kept;
    once = inv.accounts.once;
    ran = inv.accounts.called;
    calls = inv.accounts.count;
    unmarked = unmarked;
    renewed = renewed;
    fires = λ n v. ((λ e. fired n v e), (λ h. fires_now n v h));
  }

-- where some stay so, of the others no more are there
pub turned : {A : Type 0} (f g : A → Bool) → ((x : A) → f x ≡ true → g x ≡ true) → (x : A) → cond (g x) false true ≡ true
    → cond (f x) false true ≡ true
turned f g more x h = by_two (f x) refl (g x) refl
  where
    by_two : (a : Bool) → f x ≡ a → (b : Bool) → g x ≡ b → cond (f x) false true ≡ true
    by_two false e b e' = rw e refl
    by_two true e true e' = absurd (let k = rw e' at h in cc)
    by_two true e false e' = absurd (let k = more x e in cc)

-- settling one more of the points leaves fewer
pub falls : (settled settled' : Point → Bool) (p : Point) (points : List Point) → ((q : Point) → settled q ≡ true → settled' q ≡ true)
    → settled p ≡ false → settled' p ≡ true → Among p points → unsettled settled' points < unsettled settled points
falls settled settled' p points more was now among =
    fewer_than (λ (q : Point). cond (settled q) false true) (λ (q : Point). cond (settled' q) false true) (turned settled settled' more) p points
    (rw was refl) (rw now refl) among
