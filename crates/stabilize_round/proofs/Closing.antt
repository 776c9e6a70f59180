-- A round that ended is one that begins.
use Rattle.std.proofs.Common.{◌≡◌, ◌⊎◌, inl, inr, ℕ, ◌<◌, Bool, true, List, [], ◌∷◌, ◌++◌, Option, None, Some, refl, sym, ap, subst, ◌∙◌, arith}
use Rattle.inc_value.specs.declared.function.FnRef.{FnRef}
use Rattle.inc_value.specs.declared.node.NodeId.{NodeId}
use Rattle.inc_value.specs.declared.node.Part.{Part}
use Rattle.inc_value.specs.declared.node.Part.TheVariants.{Change, Main}
use Rattle.inc_value.specs.declared.node.Point.{Point}
use Rattle.inc_value.specs.declared.outcome.Outcome.{Outcome}
use Rattle.inc_value.specs.declared.outcome.Outcome.TheVariants.{Val}
use Rattle.inc_value.specs.declared.value.Value.{Value}
use Rattle.inc_value.specs.Choice.{Among}
use Rattle.inc_terms.specs.Term.{Functions}
use Rattle.inc_terms.specs.Graph as graph
use Rattle.inc_terms.specs.Graph.{Graph, Row, Def, Built, present_def}
use Rattle.inc_terms.specs.Within.{Given, Fit, TermWithin, ValueWithin}
use Rattle.inc_terms.specs.Need.{IsRoot}
use Rattle.inc_terms.specs.Depend.{Depends, fixed, main, change, fixed_reads}
use Rattle.inc_terms.specs.Local.{shown, own, IsRooted, IsBuilt, PartAgrees, Agrees}
use Rattle.inc_terms.specs.Plan.{gate_of, targets, plan}
use Rattle.inc_terms.proofs.Plan.{among_left}
use Rattle.stabilize_round.proofs.Points.{count_among, among_count}
use Rattle.inc_terms.specs.Work.{taken_by}
use Rattle.inc_terms.proofs.Evaluation.{one_outcome}
use Rattle.inc_terms.proofs.Within.{functions_within}
use Rattle.inc_terms.proofs.Rebuild.{same_present}
use Rattle.inc_terms.proofs.Depending.{same_fixed}
use Rattle.inc_terms.proofs.Meeting.{outcome_fine}
use Rattle.inc_terms.proofs.Staying.{unfolds_rows}
use Rattle.inc_terms.proofs.Crossing.{own_crosses}
use Rattle.inc_terms.proofs.Local.{main_sees}
use Rattle.stabilize_round.specs.State.{State, Start, Call, Stage, Bare, Gated, Static, Full, Linked, count, planned, ghost_plan}
use Rattle.stabilize_round.specs.Calling.{IsAnswer}
use Rattle.stabilize_round.specs.Freezing.{row_fires, fires_at, frozen_after, graph_after}
use Rattle.stabilize_round.specs.Ids.{AllGiven}
use Rattle.stabilize_round.specs.Invariant.{Invariant, Recalls}
use Rattle.stabilize_round.specs.Moves.{Quiet}
use Rattle.stabilize_round.specs.Ended.{RootsAre, Ended}
use Rattle.stabilize_round.specs.Machine.{Entry}
use Rattle.stabilize_round.specs.Closing.{closed, IsStill, Close, next_start}
use Rattle.stabilize_round.specs.Stopped.{GivenAgain}
use Rattle.stabilize_round.proofs.Parts.{bool_cases}
use Rattle.stabilize_round.proofs.Low.{links_are}
use Rattle.stabilize_round.proofs.Calling.{taken_same}
use Rattle.stabilize_round.proofs.Freezing.{frozen_rests, Firing, firing, rests, kept_now}
use Rattle.stabilize_round.proofs.Planned.{recalls_same}
use Rattle.stabilize_round.proofs.Entry.{entry_holds}
use Rattle.stabilize_round.proofs.End.{ended}

leaf_plan : (q : Point) (st : Stage) → count q (ghost_plan None st) ≡ 0
leaf_plan q Bare = refl
leaf_plan q Gated = refl
leaf_plan q Static = refl
leaf_plan q Full = refl

-- one that fires, or none
fires_or_not : (x : Option Value) → (x ≡ None) ⊎ ((v : Value) × (x ≡ Some v))
fires_or_not None = inl refl
fires_or_not (Some v) = inr (v, refl)

-- a freeze chooses nothing
gate_alone : (G : Graph) (n kid : NodeId) (f : FnRef) (ps : List Point) (x : Option Outcome) → (ps ++ ([] ++ targets G n (graph.Freeze kid f) x)) ≡ ps
gate_alone G n kid f [] None = refl
gate_alone G n kid f [] (Some o) = refl
gate_alone G n kid f (p ∷ ps) x = ap (λ (qs : List Point). p ∷ qs) (gate_alone G n kid f ps x)

-- ---- what freezes that fire don't touch

module _ (F : Functions) (t : State) where
  abbrev G : Graph
  G = t.graph

  abbrev G' : Graph
  G' = graph_after t

  frozen_still : (n : NodeId) → fires_at t n ≡ None → G'.frozen n ≡ G.frozen n
  frozen_still n e = rests (fires_at t n) (G.frozen n) e

  frozen_now : (n : NodeId) (v : Value) → fires_at t n ≡ Some v → G'.frozen n ≡ Some v
  frozen_now n v e = kept_now (fires_at t n) (G.frozen n) v e

  firing_at : (n : NodeId) (v : Value) → fires_at t n ≡ Some v → Firing (G.row n) (G.frozen n) (t.last n) v
  firing_at n v e = firing (G.row n) (G.frozen n) (t.last n) v e

  rooted_after : (n : NodeId) (f : FnRef) (captures : List NodeId) (w : Built) → IsRooted F G n f captures w → IsRooted F G' n f captures w
  rooted_after n f captures w h = record {
    unfolds = λ v is. let x = h.unfolds v is in
        (x.0, x.1, unfolds_rows G G' (λ m. refl) (Some n) captures (F.term f v) x.0 x.2);
    rootless = h.rootless;
  }

  built_after : (n : NodeId) (o : Outcome) (def : Def) → IsBuilt F G n def o → IsBuilt F G' n def o
  built_after n o (graph.Bind l f captures) h = (h.0, h.1, h.2, rooted_after n f captures h.0 h.3)
  built_after n o _ h = h

  takes_after : (n : NodeId) → fires_at t n ≡ None → (def : Def) → taken_by G' n def ≡ taken_by G n def
  takes_after n e def = taken_same G G' n (frozen_still n e) refl def

  -- a freeze that fires has no function to call any more
  none_taken : (n : NodeId) (v : Value) (r : Row) (kids : List NodeId) → fires_at t n ≡ Some v → G.row n ≡ Some r → taken_by G' n r.def ≡ Some kids
      → {X : Type 0} → X
  none_taken n v r kids e row takes =
      let h = firing_at n v e in
      let is = h.is_row in
      let same : h.row ≡ r = cc in
      let def : r.def ≡ graph.Freeze h.kid h.predicate = sym (ap (λ (y : Row). y.def) same) ∙ h.is_freeze in
      let now = frozen_now n v e in
      absurd (let x : None ≡ Some kids = rw (def, now) at takes in cc)

  part_still : (out : Point → Option Outcome) (n : NodeId) (def : Def) (part : Part) → (part ≡ Main → fires_at t n ≡ None)
      → PartAgrees F G out n def part → PartAgrees F G' out n def part
  part_still out n def Main still h =
      let cross = own_crosses G G' n F (shown G out) refl (frozen_still n (still refl)) refl refl def in (h.0, h.1, cross ∙ h.2)
  part_still out n def Change still h = λ m sub. let x = h m sub in (x.0, x.1, x.2, built_after n x.0 def x.3)

module _ (F : Functions) (z : Start) (t : State) (inv : Invariant F z t) (quiet : Quiet t) (observed : List NodeId) (are : RootsAre t observed)
    (empty : (q : Point) → t.heap q ≡ true → ⊥)
    (root' : Point → ℕ) (links' : Point → Point → ℕ) (needed' : Point → Bool) (move : Close t observed root' links' needed') where
  abbrev next : State
  next = closed t root' links' needed'

  done : Ended F z t observed
  done = ended F z t inv quiet observed are empty

  from : (a b : Point) → 0 < links' a b → needed' a ≡ true
  from a b l = elim (bool_cases (needed' a)) [ inl e ↦ e | inr e ↦ absurd (let x = move.gone a b e in omega arith) ]

  -- a point is the main of a freeze that fires, or not
  still_or_not : (a : Point) → IsStill t a ⊎ ((v : Value) × (a ≡ main a.node) × (fires_at t a.node ≡ Some v))
  still_or_not a = by_part a.part refl
    where
      by_part : (part : Part) → a.part ≡ part → IsStill t a ⊎ ((v : Value) × (a ≡ main a.node) × (fires_at t a.node ≡ Some v))
      by_part Change is = inl (λ m. absurd (let x : Change ≡ Main = sym is ∙ m in cc))
      by_part Main is = elim (fires_or_not (fires_at t a.node)) [
        | inl e ↦ inl (λ m. e)
        | inr e ↦ inr (e.0, (λ i. record { node = a.node; part = is i }), e.1)
      ]

  gate_planned : (a q : Point) (r : Row) → t.graph.row a.node ≡ Some r → t.stage a ≡ Full → Among q (gate_of r.scope) → t.needed a ≡ true → Linked t a q
  gate_planned a q r row full among need =
      let e = rw (row, full) at (links_are F z t inv quiet a q need) in
      let c = among_count q (plan t.graph t.out a r)
      (among_left q (gate_of r.scope) _ among) in omega arith

  was_linked : (a b : Point) → 0 < links' a b → Linked t a b
  was_linked a b l = by_row (t.graph.row a.node) refl
    where
      by_row : (x : Option Row) → t.graph.row a.node ≡ x → Linked t a b
      by_row None e = absurd (let x = move.dead a b e in omega arith)
      by_row (Some r) e = elim (still_or_not a) [
        | inl still ↦ let x = move.live a b r e (from a b l) still in omega arith
        | inr k ↦
            let l' : 0 < links' (main a.node) b = subst (λ (y : Point). 0 < links' y b) k.1 l in
            let x = move.fired a.node r k.0 b e (from (main a.node) b l') k.2 in
            let need = move.was a (from a b l) in
            gate_planned a b r e (done.full a r e need)
            (count_among b (gate_of r.scope) (omega arith)) need
      ]

  -- a main of a freeze that fired reads nothing more
  fired_plan : (n : NodeId) (r : Row) (v : Value) (q : Point) → t.graph.row n ≡ Some r → fires_at t n ≡ Some v
      → count q (gate_of r.scope) ≡ count q (plan next.graph t.out (main n) r)
  fired_plan n r v q row e =
      let h = firing_at F t n v e in
      let is = h.is_row in
      let same : h.row ≡ r = cc in
      let def : r.def ≡ graph.Freeze h.kid h.predicate = sym (ap (λ (y : Row). y.def) same) ∙ h.is_freeze in
      let now = frozen_now F t n v e in
      by_out r.scope (t.out (change n)) def now
    where
      by_out : (scope : Option NodeId) (x : Option Outcome) {kid : NodeId} {f : FnRef} → r.def ≡ graph.Freeze kid f → frozen_after t n ≡ Some v
          → count q (gate_of r.scope) ≡ count q (plan next.graph t.out (main n) r)
      by_out scope x {kid} {f} def now = rw (def, now) (ap (λ (ps : List Point). count q ps) (sym (gate_alone next.graph n kid f (gate_of r.scope) (t.out (change n)))))

  links : (p q : Point) → needed' p ≡ true → links' p q ≡ count q (planned next p)
  links p q need = by_row (t.graph.row p.node) refl
    where
      by_row : (x : Option Row) → t.graph.row p.node ≡ x → links' p q ≡ count q (planned next p)
      by_row None e = let x = move.dead p q e in rw e (x ∙ sym (leaf_plan q (t.stage p)))
      by_row (Some r) e =
          let full = done.full p r e (move.was p need) in
          elim (still_or_not p) [
            | inl still ↦
                let x = move.live p q r e need still in
                let y = rw (e, full) at (links_are F z t inv quiet p q (move.was p need)) in
                let same = reads_still p.part still in
                rw (e, full) (rw same (x ∙ y))
            | inr k ↦
                let x = move.fired p.node r k.0 q e (subst (λ (y : Point). needed' y ≡ true) k.1 need) k.2 in
                let y = x ∙ fired_plan p.node r k.0 q e k.2 in
                let full' : t.stage (main p.node) ≡ Full = subst (λ (y : Point). t.stage y ≡ Full) k.1 full in
                subst (λ (y : Point). links' y q ≡ count q (planned next y)) (sym k.1) (rw (e, full') y)
          ]
        where
          reads_still : (part : Part) → (part ≡ Main → fires_at t p.node ≡ None) → fixed_reads next.graph p.node r.def part ≡ fixed_reads t.graph p.node r.def part
          reads_still Change still = refl
          reads_still Main still = same_fixed t.graph next.graph p.node (frozen_still F t p.node (still refl)) refl r.def Main

  -- what fires shows the value that it keeps
  fired_shows : (n : NodeId) (r : Row) (v : Value) → t.graph.row n ≡ Some r → t.needed (main n) ≡ true → fires_at t n ≡ Some v
      → t.out (main n) ≡ Some (Val v)
  fired_shows n r v row need e =
      let h = (done.fires n v).0 e in
      let is = h.is_row in
      let same : h.row ≡ r = cc in
      let a = done.local (main n) ((done.needs (main n)).0 need) h.row h.is_row in
      let own_is : own F t.graph (shown t.graph t.out) n h.row.def ≡ shown t.graph t.out (main h.kid) = rw (h.is_freeze, h.keeps_none) refl in
      let reads : Among (main h.kid) (fixed_reads t.graph n h.row.def Main) = rw (h.is_freeze, h.keeps_none) (inl refl) in
      let stands = (done.exact (main n) need h.row h.is_row).0 in
      let dep : Depends F t.graph t.died (main n) (main h.kid) = fixed h.is_row stands reads in
      let kid_need = inv.web.onto (main n) (main h.kid) ((done.links (main n) (main h.kid) need).1 dep) in
      let sees = main_sees F t.graph t.out h.kid (done.exact (main h.kid) kid_need) in
      let o : sees.0 ≡ Val v = one_outcome F t.graph _ sees.0 (Val v) sees.2 h.gives in
      let x = a.1 in let y = a.2 in let k = sees.1 in
      let eq : Some a.0 ≡ Some sees.0 = sym y ∙ own_is ∙ k in
      let eq' : a.0 ≡ sees.0 = cc in
      x ∙ ap (λ (w : Outcome). Some w) (eq' ∙ o)

  agrees_next : (p : Point) (r : Row) → t.graph.row p.node ≡ Some r → needed' p ≡ true → Agrees F next.graph t.out p
  agrees_next p r row need r' row' =
      let same : r ≡ r' = cc in
      let was = move.was p need in
      let a = done.local p ((done.needs p).0 was) r' row' in
      elim (still_or_not p) [
        | inl still ↦ part_still F t t.out p.node r'.def p.part still a
        | inr k ↦
            let e = k.2 in
            let need' : t.needed (main p.node) ≡ true = subst (λ (y : Point). t.needed y ≡ true) k.1 was in
            let h = firing_at F t p.node k.0 e in
            let is = h.is_row in
            let rows : h.row ≡ r' = cc in
            let def : r'.def ≡ graph.Freeze h.kid h.predicate = sym (ap (λ (y : Row). y.def) rows) ∙ h.is_freeze in
            let now = frozen_now F t p.node k.0 e in
            let shows = fired_shows p.node r' k.0 row' need' e in
            let here : PartAgrees F next.graph t.out p.node r'.def Main = (Val k.0, shows, rw (def, now) refl) in
            subst (λ (y : Point). PartAgrees F next.graph t.out p.node r'.def y.part) (sym k.1) here
      ]

  recalls_next : (p : Point) (r : Row) → t.graph.row p.node ≡ Some r → needed' p ≡ true → Recalls next.graph (shown next.graph t.out) t.last p
  recalls_next p r row need = elim (fires_or_not (fires_at t p.node)) [
    | inl e ↦ recalls_same F t.graph next.graph (shown t.graph t.out) (shown next.graph t.out) t.last t.last p r row row (takes_after F t p.node e r.def)
        (λ q a. refl) (λ part. refl) (done.recalls p (move.was p need))
    | inr e ↦ λ r' kids values row' part takes shows. none_taken F t p.node e.0 r' kids e.1 row' takes
  ]

  answers_next : (n : NodeId) (r : Row) (kids : List NodeId) (c : Call) → t.graph.row n ≡ Some r → taken_by next.graph n r.def ≡ Some kids
      → t.last n ≡ Some c
      → IsAnswer F r.def c.arguments c.result
  answers_next n r kids c row takes last = elim (fires_or_not (fires_at t n)) [
    | inl e ↦ inv.accounts.answers n r kids c row (sym (takes_after F t n e r.def) ∙ takes) last
    | inr e ↦ none_taken F t n e.0 r kids e.1 row takes
  ]

  unfired_next : (n : NodeId) → fires_at next n ≡ None
  unfired_next n = elim (fires_or_not (fires_at t n)) [
    | inl e ↦ ap (λ (x : Option Value). row_fires (t.graph.row n) x (t.last n)) (frozen_still F t n e) ∙ e
    | inr e ↦ ap (λ (x : Option Value). row_fires (t.graph.row n) x (t.last n)) (frozen_now F t n e.0 e.1)
        ∙ frozen_rests (t.graph.row n) e.0 (t.last n)
  ]

  pub begins : Entry F (next_start z t needed') next
  begins = record {
    web = record {
      from = from;
      onto = move.onto;
      rooted = move.rooted;
      reached = move.reached;
      rises = λ a b l. inv.web.rises a b (was_linked a b l);
      low = inv.web.low;
      heap = λ p h. absurd (empty p h);
    };
    alive = inv.alive;
    links = λ p q need. let o = inv.rows.owed p (quiet p) in let e = links p q need in rw o (omega arith);
    full = λ p r row need. done.full p r row (move.was p need);
    bare = λ p need e. let a = inv.rows.bare p (move.was p need) e in let b = quiet p in cc;
    scoped = inv.scoped;
    rooted = λ n r l f captures w row def at. rooted_after F t n f captures w (inv.rooted n r l f captures w row def at);
    built = λ n r o row e. built_after F t n o r.def (inv.built n r o row e);
    fresh = λ p r row need. inr (
      agrees_next p r row need,
      recalls_next p r row need,
      λ part.
          let me : p ≡ main p.node = λ i. record { node = p.node; part = part i } in
          done.unmarked p.node r row (subst (λ (y : Point). t.needed y ≡ true) me (move.was p need)),
    );
    settled = λ p. refl;
    owed = λ p h. inv.rows.owed p (quiet p);
    todo = λ p need h. absurd (let x = quiet p in cc);
    retries = refl;
    ran = refl;
    taken = refl;
    died = λ n. refl;
    held = λ p. refl;
    last = λ n. refl;
    calls = refl;
    answers = answers_next;
    cutoff = λ n. refl;
    stale = λ n. refl;
    unfired = unfired_next;
  }

  roots_next : RootsAre next observed
  roots_next = record {
    on = move.on;
    listed = λ p h.
        let le = move.fewer p in
        let l = are.listed p (omega arith) in
        (l.0, by_root l.0 l.1 (subst (λ (y : Point). 0 < root' y) l.2 h), l.2);
  }
    where
      by_root : (n : NodeId) → IsRoot t.graph observed n → 0 < root' (main n) → IsRoot next.graph observed n
      by_root n (inl a) h = inl a
      by_root n (inr u) h = elim (fires_or_not (fires_at t n)) [
        | inr e ↦ inl (move.off n e.0 e.1 h)
        | inl e ↦ inr (record {
          row = u.row;
          kid = u.kid;
          predicate = u.predicate;
          is_row = u.is_row;
          is_freeze = u.is_freeze;
          keeps_none = frozen_still F t n e ∙ u.keeps_none;
        })
      ]

  pub ends : Ended F (next_start z t needed') next observed
  ends = ended F (next_start z t needed') next (entry_holds F (next_start z t needed') next begins) quiet observed roots_next empty

-- ---- what the next round speaks of

module _ (F : Functions) (z : Start) (t : State) (observed : List NodeId) (done : Ended F z t observed) (g : AllGiven F z t) where
  abbrev P : NodeId → Type 0
  P n = Given t.given n

  reads_next : (n : NodeId) (r : Row) → t.graph.row n ≡ Some r
      → TermWithin P (Fit t.given z.known z.ids) (present_def (graph_after t) n r.def)
  reads_next n r row = elim (fires_or_not (fires_at t n)) [
    | inl e ↦ rw (same_present t.graph (graph_after t) n refl (frozen_still F t n e) refl r.def) (g.names.reads n r row)
    | inr e ↦
        let h = (done.fires n e.0).0 e.1 in
        let is = h.is_row in
        let same : h.row ≡ r = cc in
        let def : r.def ≡ graph.Freeze h.kid h.predicate = sym (ap (λ (y : Row). y.def) same) ∙ h.is_freeze in
        let kid : P h.kid = rw (h.is_freeze, h.keeps_none) at (g.names.reads n h.row h.is_row) in
        let fine = functions_within F z.known z.ids P g.laws in
        let value : ValueWithin P e.0 =
        outcome_fine F P (Fit t.given z.known z.ids) fine t.graph g.names t.died g.keeps h.kid (Val e.0) kid h.gives in
        let now = frozen_now F t n e.0 e.1 in
        rw (def, now) value
  ]

-- after a round all that the next one speaks of is given
pub given_again : GivenAgain
given_again F z t observed root' links' needed' done g close = record {
  laws = g.laws;
  names = record { live = g.names.live; reads = reads_next F z t observed done g; scope = g.names.scope };
  keeps = record { roots = g.keeps.roots; scopes = λ n b p e. absurd (cc); freezes = g.keeps.freezes };
  needed = λ p h. g.needed p (close.was p h);
  rooted = λ p h. g.rooted p (let x = close.fewer p in omega arith);
  last = g.last;
  cutoff = g.cutoff;
  stale = g.stale;
  start = record {
    knows = refl;
    names = refl;
    held = λ p h. g.needed p (close.was p h);
    last = g.last;
    cutoff = g.cutoff;
    stale = g.stale;
  };
}
