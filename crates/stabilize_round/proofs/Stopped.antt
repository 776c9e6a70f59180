-- What a round leaves of the graph, wherever it stops.
use Rattle.std.proofs.Common.{◌≡◌, ◌+◌, ◌⊎◌, inl, inr, ℕ, zero, suc, ◌<◌, ◌≤◌, List, [], ◌∷◌, ◌++◌, Option, None, Some, refl, sym, subst, ap, ◌∙◌, arith}
use Rattle.std.proofs.lemmas.Bool.{cases_lt}
use Rattle.std.proofs.lemmas.Option.{none-some}
use Rattle.std.specs.Prelude.{IsSome}
use Rattle.inc_value.specs.declared.function.FnRef.{FnRef}
use Rattle.inc_value.specs.declared.node.NodeId.{NodeId}
use Rattle.inc_value.specs.declared.outcome.Outcome.{Outcome}
use Rattle.inc_value.specs.Choice.{Among, here, step}
use Rattle.inc_terms.specs.Term.{Functions}
use Rattle.inc_terms.specs.Graph as graph
use Rattle.inc_terms.specs.Graph.{Graph, Row, Built, present_def}
use Rattle.inc_terms.specs.Evaluate.{NodeGives}
use Rattle.inc_terms.specs.Within.{Given, Fit, TermWithin}
use Rattle.inc_terms.specs.Rebuild.{Inside, direct, nested}
use Rattle.inc_terms.specs.Rebuilding.{outcome_of}
use Rattle.inc_terms.specs.Depend.{change, died_in}
use Rattle.inc_terms.proofs.Evaluation.{one_outcome}
use Rattle.inc_terms.proofs.Plan.{among_left, among_right, among_parts}
use Rattle.inc_terms.proofs.Rebuilding.{inside_through, scope_given, apart, inside_before, inside_after}
use Rattle.stabilize_round.specs.State.{State, Start}
use Rattle.stabilize_round.specs.Ids.{AllGiven}
use Rattle.stabilize_round.specs.Invariant.{Invariant, MetNow, ScopesRooted}
use Rattle.stabilize_round.specs.Rebuilding.{Remade, remade, builds_of, Rebuild, rebuilds}
use Rattle.stabilize_round.specs.Machine.{Moves, Stops, as_it_is, unbuilt, unkept}
use Rattle.stabilize_round.specs.Runs.{built_by, built_in, LeftDiffers, IsBuiltRight, BuildsFew}
use Rattle.stabilize_round.specs.Counts.{RoseBy, RoseAtMost}
use Rattle.stabilize_round.proofs.Counts.{rose_on}
use Rattle.stabilize_round.specs.Stopped.{NewBindsBuilt, StandsAnew, IsBuiltOther, NewNodesInside, StopsLeave}
use Rattle.stabilize_round.proofs.Points.{node_or_other, among_or_not}
use Rattle.stabilize_round.proofs.Entry.{entry_holds}
use Rattle.stabilize_round.proofs.Machine.{move_keeps, moves_keep}
use Rattle.stabilize_round.proofs.Staying.{moves_give, moves_rest, stop_rest, rest_then}
use Rattle.stabilize_round.proofs.Ids.{moves_given}
use Rattle.stabilize_round.proofs.Runs.{Kind, kind_of, Makes, lived, bind_given, made_right, due_differs, differed, later, grows, row_before, run_grows}
use Rattle.stabilize_round.proofs.Runs.{run_adds, Known, known_on, right_at_end, built_on, run_builds}
use Rattle.stabilize_round.proofs.Runs.{outlives, gives_after, left_given, few_builds, Few, run_few, lasts_on, not_due, with_root, run_builds_few}

-- ---- what was built in a run

-- a bind that was built anew is built for what its left gives at the end, where it lives
built_right : (F : Functions) (z : Start) (s t : State) (run : Moves F z s t) (b : NodeId) (r : Row) → Among b (built_in run)
    → t.graph.row b ≡ Some r → IsBuiltRight F t.graph b
built_right F z s t here b r a row = absurd a
built_right F z s t (step {b = u} m rest) b r a row = elim (among_parts b (built_by m) (built_in rest) a) [
  | inr k ↦ built_right F z u t rest b r k row
  | inl k ↦ by_kind (kind_of F z s u m) k
]
  where
    by_kind : Kind F z s u (built_by m) → Among b (built_by m) → IsBuiltRight F t.graph b
    by_kind (inl k) a = absurd (let x = rw k.1 at a in x)
    by_kind (inr k) a = by_one (rw k.1 at a)
      where
        by_one : Among b (k.0.bind ∷ []) → IsBuiltRight F t.graph b
        by_one (inr x) = absurd x
        by_one (inl is) =
            let mine = bind_given F z s k.0.bind k.0.outcome k.0.made k.0.rebuild in
            let p : Given u.given b = subst (λ (n : NodeId). Given u.given n) (sym is)
            (later s.given u.given k.0.bind (grows F z s u (built_by m) (inr k)) mine) in
            let row_u = row_before F z u t rest b r p row in
            let there : k.0.made.graph.row k.0.bind ≡ Some r = subst (λ (n : NodeId). k.0.made.graph.row n ≡ Some r) is
            (sym (ap (λ (x : State). x.graph.row b) k.0.is) ∙ row_u) in
            let right = made_right F z s k.0.bind k.0.outcome k.0.made k.0.rebuild k.0.built r there in
            right_at_end F z u t rest b r p row (subst (λ (x : State). IsBuiltRight F x.graph b) (sym k.0.is)
            (subst (λ (n : NodeId). IsBuiltRight F k.0.made.graph n) (sym is) right))

-- what a live bind's left names was given
left_is_given : (F : Functions) (z : Start) (s : State) → AllGiven F z s → (b : NodeId) (r : Row) (l : NodeId) (f : FnRef)
    (captures : List NodeId) → s.graph.row b ≡ Some r → r.def ≡ graph.Bind l f captures → Given s.given l
left_is_given F z s g b r l f captures row def =
    let w : TermWithin (Given s.given) (Fit s.given z.known z.ids) (present_def s.graph b (graph.Bind l f captures)) = rw def at (g.names.reads b r row)
    in w.1

module _ (F : Functions) (z : Start) (s : State) (given : AllGiven F z s) (t : State) (run : Moves F z s t) where
  -- a bind that was given before, and was built anew, is built for another outcome than before, where it lives
  built_other : (b : NodeId) (r : Row) → Given s.given b → Among b (built_in run) → t.graph.row b ≡ Some r → IsBuiltOther s t b
  built_other b r p a row same =
      let d = (run_builds F z s t run).due b a p in
      let right = built_right F z s t run b r a row in
      let was = row_before F z s t run b r p row in
      let one = d.is_row in let other = right.is_row in
      let rows : d.row ≡ right.row = cc in
      let defs : graph.Bind d.left d.function d.captures ≡ graph.Bind right.left right.function right.captures =
      sym d.is_bind ∙ ap (λ (x : Row). x.def) rows ∙ right.is_bind in
      let lefts : d.left ≡ right.left = cc in
      let left = left_is_given F z s given b d.row d.left d.function d.captures d.is_row d.is_bind in
      let there = ((moves_give F z s t run).1 d.left left d.outcome).0 d.gives in
      let outcomes : d.outcome ≡ right.built.outcome = one_outcome F t.graph _ d.outcome right.built.outcome there
      (subst (λ (n : NodeId). NodeGives F t.graph n right.built.outcome) (sym lefts) right.gives) in
      by_built d outcomes (s.graph.built b) refl (sym same ∙ ap outcome_of right.is_built)
    where
      by_built : (d : LeftDiffers F s.graph b) {o : Outcome} → d.outcome ≡ o → (x : Option Built) → s.graph.built b ≡ x → outcome_of x ≡ Some o → ⊥
      by_built d is None e h = cc
      by_built d is (Some w) e h = d.changed w e (let k : w.outcome ≡ _ = cc in k ∙ sym is)

  -- a bind is built as before, or for another outcome
  built_either : (b : NodeId) (r : Row) → Given s.given b → t.graph.row b ≡ Some r → (t.graph.built b ≡ s.graph.built b) ⊎ IsBuiltOther s t b
  built_either b r p row = elim (among_or_not b (built_in run)) [
    | inl a ↦ inr (built_other b r p a row)
    | inr no_ ↦ inl ((run_builds F z s t run).others b r p row no_)
  ]

-- ---- new nodes

-- where a new node stands: in the scope of a bind that was given before it, and was built anew
record IsBorn (s t : State) (binds : List NodeId) (n : NodeId) (r : Row) : Type 0 where
  bind : NodeId
  scope : r.scope ≡ Some bind
  older : bind.gen_ < n.gen_
  built : Among bind binds
  given : Given t.given n

born : (F : Functions) (z : Start) (s t : State) (run : Moves F z s t) → ((n : NodeId) (r : Row) → s.graph.row n ≡ Some r → Given s.given n)
    → (n : NodeId) (r : Row) → t.graph.row n ≡ Some r → s.given ≤ n.gen_ → IsBorn s t (built_in run) n r
born F z s t here live n r row le = absurd (let g = live n r row in omega arith)
born F z s t (step {b = u} m rest) live n r row le =
    elim (cases_lt n.gen_ u.given) [
      | inr after ↦ let k = born F z u t rest live' n r row after in
          record { bind = k.bind; scope = k.scope; older = k.older; built = among_right k.bind (built_by m) (built_in rest) k.built; given = k.given }
      | inl lt ↦ by_kind lt kind
    ]
  where
    kind : Kind F z s u (built_by m)
    kind = kind_of F z s u m

    new_row : (k : Makes F z s u) → (x : Row) → k.made.graph.row n ≡ Some x → s.given ≤ n.gen_ → x.scope ≡ Some k.bind
    new_row k x row le = (k.rebuild.nodes.scope n x row le).0

    live_made : (k : Makes F z s u) (x : NodeId) (r : Row) → k.made.graph.row x ≡ Some r → Given k.made.given x
    live_made k x r row = k.rebuild.nodes.names.live x r row

    live' : (x : NodeId) (r : Row) → u.graph.row x ≡ Some r → Given u.given x
    live' x r row = by_one kind
      where
        by_one : Kind F z s u (built_by m) → Given u.given x
        by_one (inl k) = rw k.0.given (live x r (sym (ap (λ (G : Graph). G.row x) k.0.graph) ∙ row))
        by_one (inr k) = rw k.0.is (live_made k.0 x r (sym (ap (λ (y : State). y.graph.row x) k.0.is) ∙ row))

    by_kind : Given u.given n → Kind F z s u (built_by m) → IsBorn s t (built_by m ++ built_in rest) n r
    by_kind lt (inl k) = absurd (let g = live n r (sym (ap (λ (G : Graph). G.row n) k.0.graph) ∙ row_before F z u t rest n r lt row) in omega arith)
    by_kind lt (inr k) =
        let row' = sym (ap (λ (x : State). x.graph.row n) k.0.is) ∙ row_before F z u t rest n r lt row in
        let mine = bind_given F z s k.0.bind k.0.outcome k.0.made k.0.rebuild in
        record {
          bind = k.0.bind;
          scope = new_row k.0 r row' le;
          older = omega arith;
          built = among_left k.0.bind (built_by m) (built_in rest) (rw k.1 (inl refl));
          given = later u.given t.given n (run_grows F z u t rest) lt;
        }

module _ (F : Functions) (z : Start) (s : State) (given : AllGiven F z s) (t : State) (inv : Invariant F z t) (run : Moves F z s t) where
  new_inside : (k : ℕ) (n : NodeId) (r : Row) → n.gen_ < k → t.graph.row n ≡ Some r → s.given ≤ n.gen_
      → (a : StandsAnew s t n) × IsBuiltOther s t a.bind
  new_inside zero n r lt row le = absurd (omega arith)
  new_inside (suc k) n r lt row le =
      let w = born F z s t run given.names.live n r row le in
      let o = inv.scoped n r w.bind row w.scope in
      let old = w.older in
      elim (cases_lt w.bind.gen_ s.given) [
        | inl p ↦ (
          record { bind = w.bind; row = o.0; given = p; is_row = o.4; inside = direct row w.scope; new = w.given },
          built_other F z s given t run w.bind o.0 p w.built o.4,
        )
        | inr new ↦ let a = new_inside k w.bind o.0 (omega arith) o.4 new in (
          record { bind = a.0.bind; row = a.0.row; given = a.0.given; is_row = a.0.is_row; inside = nested row w.scope a.0.inside; new = w.given },
          a.1,
        )
      ]

pub new_nodes_inside : NewNodesInside
new_nodes_inside F z s t entry given run n r le row =
    new_inside F z s given t (moves_keep F z s t run (entry_holds F z s entry)) run (suc n.gen_) n r (omega arith) row le

-- ---- what a new bind is built for

new_built : (F : Functions) (z : Start) (s t : State) → Invariant F z s → AllGiven F z s → Moves F z s t → (b : NodeId) (r : Row) → s.given ≤ b.gen_
    → t.graph.row b ≡ Some r
    → (t.graph.built b ≡ None) ⊎ (IsBuiltRight F t.graph b × MetNow F z t.graph t.died t.root (change b))
new_built F z s t inv g here b r le row = absurd (let p = g.names.live b r row in omega arith)
new_built F z s t inv g (step {b = u} m rest) b r le row =
    elim (cases_lt b.gen_ u.given) [
      | inr after ↦ new_built F z u t (move_keeps F z s u m inv) (moves_given F z s u g (step m here)) rest b r after row
      | inl lt ↦ by_kind lt (kind_of F z s u m)
    ]
  where
    by_kind : Given u.given b → Kind F z s u (built_by m)
        → (t.graph.built b ≡ None) ⊎ (IsBuiltRight F t.graph b × MetNow F z t.graph t.died t.root (change b))
    by_kind lt (inl k) = absurd (let x = k.0.given in omega arith)
    by_kind lt (inr k) = elim (built_on F z u t (move_keeps F z s u m inv) rest b r lt row) [
      | inr h ↦ inr h
      | inl same ↦ inl (same ∙ ap (λ (x : State). x.graph.built b) k.0.is ∙ k.0.rebuild.nodes.unbuilt b le)
    ]

pub new_binds_built : NewBindsBuilt
new_binds_built F z s t entry given run b r le row = new_built F z s t (entry_holds F z s entry) given run b r le row

-- ---- what dies

abbrev HasCause : Functions → State → NodeId → Type 0
HasCause F s n = (b : NodeId) × Given s.given b × Inside s.graph b n × LeftDiffers F s.graph b

-- in one bind built anew
made_cause : (F : Functions) (z : Start) (s : State) (b : NodeId) (now : Outcome) (made : Remade) → Rebuild F z s b now made → (n : NodeId) (r : Row)
    → Given s.given n → s.graph.row n ≡ Some r → made.graph.row n ≡ None → HasCause F s n
made_cause F z s b now made move n r p row dead = elim (move.rebuilt.rows n p) [
  | inl h ↦ (b, bind_given F z s b now made move, h.0, due_differs F z s b now made move)
  | inr h ↦ absurd (let x = h.1 in cc)
]

stop_cause : (F : Functions) (z : Start) (s u : State) → Stops F z s u → (n : NodeId) (r : Row) → Given s.given n → s.graph.row n ≡ Some r
    → u.graph.row n ≡ None → HasCause F s n
stop_cause F z s u (as_it_is e) n r p row dead = absurd (let x = sym (ap (λ (y : State). y.graph.row n) e) ∙ dead in cc)
stop_cause F z s u (unbuilt {b} {now} {m} move none empty count e) n r p row dead =
    made_cause F z s b now m move n r p row (sym (ap (λ (y : State). y.graph.row n) e) ∙ dead)
stop_cause F z s u (unkept quiet taken at due count e) n r p row dead = absurd (let x = sym (ap (λ (y : State). y.graph.row n) e) ∙ dead in cc)

cause : (F : Functions) (z : Start) (s t u : State) → Moves F z s t → Stops F z t u → (n : NodeId) (r : Row) → Given s.given n
    → s.graph.row n ≡ Some r → u.graph.row n ≡ None → HasCause F s n
cause F z s t u here stop n r p row dead = stop_cause F z s u stop n r p row dead
cause F z s t u (step {b = v} m rest) stop n r p row dead =
    by_kind (kind_of F z s v m) (λ p' row'. cause F z v t u rest stop n r p' row' dead)
  where
    by_kind : Kind F z s v (built_by m) → (Given v.given n → v.graph.row n ≡ Some r → HasCause F v n) → HasCause F s n
    by_kind (inl k) after =
        let g = k.0.given in
        let c = after (omega arith) (ap (λ (G : Graph). G.row n) k.0.graph ∙ row) in
        let b = c.1 in
        (c.0, omega arith, subst (λ (G : Graph). Inside G c.0 n) k.0.graph c.2, subst (λ (G : Graph). LeftDiffers F G c.0) k.0.graph c.3)
    by_kind (inr k) after = elim (k.0.rebuild.rebuilt.rows n p) [
      | inl h ↦ (
        k.0.bind,
        bind_given F z s k.0.bind k.0.outcome k.0.made k.0.rebuild,
        h.0,
        due_differs F z s k.0.bind k.0.outcome k.0.made k.0.rebuild,
      )
      | inr h ↦
          let p' = later s.given v.given n (grows F z s v (built_by m) (inr k)) p in
          let row' : v.graph.row n ≡ Some r = ap (λ (x : State). x.graph.row n) k.0.is ∙ h.1 ∙ row in
          let c = after p' row' in
          let re = rebuilds k.0.rebuild in
          let i = subst (λ (x : State). Inside x.graph c.0 n) k.0.is c.2 in
          let before = inside_before F z.known z.ids s.given s.graph k.0.made.graph k.0.bind k.0.outcome re c.0 n p i in
          let b = scope_given F z.known z.ids s.given s.graph k.0.made.graph k.0.bind k.0.outcome re c.0 n before in
          (c.0, b, before, differed F z s v k.0 c.0 b c.3)
    ]

-- a left that differs after a run did so before it
pub differed_run : (F : Functions) (z : Start) (s t : State) → Moves F z s t → (b : NodeId) → Given s.given b → LeftDiffers F t.graph b
    → LeftDiffers F s.graph b
differed_run F z s t here b p d = d
differed_run F z s t (step {b = v} m rest) b p d = by_kind (kind_of F z s v m)
    (differed_run F z v t rest b (later s.given v.given b (grows F z s v (built_by m) (kind_of F z s v m)) p) d)
  where
    by_kind : Kind F z s v (built_by m) → LeftDiffers F v.graph b → LeftDiffers F s.graph b
    by_kind (inl k) h = subst (λ (G : Graph). LeftDiffers F G b) k.0.graph h
    by_kind (inr k) h = differed F z s v k.0 b p h

-- ---- which scopes the dead stood in

stop_known : (F : Functions) (z : Start) (s u : State) → Stops F z s u → (n : NodeId) → Given s.given n → u.graph.row n ≡ None → Known s u n
stop_known F z s u (as_it_is e) n p dead = record {
  now = λ r row. absurd (let x = sym (ap (λ (y : State). y.graph.row n) e) ∙ dead in cc);
  earlier = λ row. ap (λ (y : State). y.died n) e;
}
stop_known F z s u (unbuilt {b} {now} {m} move none empty count e) n p dead = record {
  now = λ r row. ap (λ (y : State). y.died n) e ∙ move.deaths.now n r row (sym (ap (λ (y : State). y.graph.row n) e) ∙ dead);
  earlier = λ row. ap (λ (y : State). y.died n) e ∙ move.deaths.earlier n row;
}
stop_known F z s u (unkept quiet taken at due count e) n p dead = record {
  now = λ r row. absurd (let x = sym (ap (λ (y : State). y.graph.row n) e) ∙ dead in cc);
  earlier = λ row. ap (λ (y : State). y.died n) e;
}

known_to : (F : Functions) (z : Start) (s t u : State) → Moves F z s t → Stops F z t u → (n : NodeId) → Given s.given n → u.graph.row n ≡ None
    → Known s u n
known_to F z s t u here stop n p dead = stop_known F z s u stop n p dead
known_to F z s t u (step {b = v} m rest) stop n p dead =
    known_on F z s v u n p dead (λ p'. known_to F z v t u rest stop n p' dead) (built_by m) (kind_of F z s v m)

-- ---- all of it

module _ (F : Functions) (z : Start) (s : State) (given : AllGiven F z s) (t : State) (inv : Invariant F z t) (run : Moves F z s t) where
  abbrev RootsStay : State → Type 0
  RootsStay u = (b : NodeId) (r : Row) → Given s.given b → u.graph.row b ≡ Some r → outcome_of (u.graph.built b) ≡ outcome_of (s.graph.built b)
      → u.graph.built b ≡ s.graph.built b

  roots_run : RootsStay t
  roots_run b r p row same = elim (built_either F z s given t run b r p row) [ inl e ↦ e | inr other ↦ absurd (other same) ]

  abbrev NewStand : State → Type 0
  NewStand u = (n : NodeId) (r : Row) → s.given ≤ n.gen_ → u.graph.row n ≡ Some r
      → (a : StandsAnew s u n) × ((u.graph.built a.bind ≡ None) ⊎ IsBuiltOther s u a.bind)

  new_run : NewStand t
  new_run n r le row = let a = new_inside F z s given t inv run (suc n.gen_) n r (omega arith) row le in (a.0, inr a.1)

  module _ (c : NodeId) (now : Outcome) (m : Remade) (move : Rebuild F z t c now m) (none : m.graph.built c ≡ None) where
    abbrev u : State
    u = remade t m

    more : s.given ≤ t.given
    more = run_grows F z s t run

    -- of a bind that was given before and lives
    built_still : (b : NodeId) (r : Row) → Given s.given b → m.graph.row b ≡ Some r → (c ≡ b → ⊥) → m.graph.built b ≡ t.graph.built b
    built_still b r p row ne =
        let p' = later s.given t.given b more p in
        move.rebuilt.built b p' (λ e. ne (sym e)) (lived F z t c now m move b r p' row).0

    roots_stopped : RootsStay u
    roots_stopped b r p row same = elim (node_or_other c b) [
      | inl e ↦ by_none (s.graph.built b) refl (subst (λ (n : NodeId). m.graph.built n ≡ None) e none)
      | inr ne ↦
          let p' = later s.given t.given b more p in
          let k = built_still b r p row ne in
          k ∙ roots_run b r p (lived F z t c now m move b r p' row).1 (sym (ap outcome_of k) ∙ same)
    ]
      where
        by_none : (x : Option Built) → s.graph.built b ≡ x → m.graph.built b ≡ None → m.graph.built b ≡ s.graph.built b
        by_none None e at = at ∙ sym e
        by_none (Some w) e at = absurd (let x : None ≡ Some w.outcome = ap outcome_of (sym at) ∙ same ∙ ap outcome_of e in cc)

    row_still : (b : NodeId) (r : Row) → Given t.given b → t.graph.row b ≡ Some r → (Inside t.graph c b → ⊥) → m.graph.row b ≡ Some r
    row_still b r p row out = elim (move.rebuilt.rows b p) [ inl h ↦ absurd (out h.0) | inr h ↦ h.1 ∙ row ]

    inside_still : (a n : NodeId) → Given t.given n → (Inside t.graph c n → ⊥) → Inside t.graph a n → Inside m.graph a n
    inside_still a n p out i = inside_after F z.known z.ids t.given t.graph m.graph c now (rebuilds move) a n p out i

    not_itself : Inside t.graph c c → ⊥
    not_itself i = apart F z.known z.ids t.given t.graph m.graph c now (rebuilds move) i

    stands : (n : NodeId) → Given t.given n → (Inside t.graph c n → ⊥) → (a : StandsAnew s t n) × IsBuiltOther s t a.bind
        → (a : StandsAnew s u n) × ((m.graph.built a.bind ≡ None) ⊎ IsBuiltOther s u a.bind)
    stands n p out (a, other) =
        let le = move.nodes.given in
        let pa = later s.given t.given a.bind more a.given in
        let outer : Inside t.graph c a.bind → ⊥ = λ i. out (inside_through t.graph c a.bind n i a.inside) in (
          record {
            bind = a.bind;
            row = a.row;
            given = a.given;
            is_row = row_still a.bind a.row pa a.is_row outer;
            inside = inside_still a.bind n p out a.inside;
            new = let g = a.new in omega arith;
          },
          elim (node_or_other c a.bind) [
            | inl e ↦ inl (subst (λ (x : NodeId). m.graph.built x ≡ None) e none)
            | inr ne ↦ inr (λ same. other (sym (ap outcome_of (move.rebuilt.built a.bind pa (λ e. ne (sym e)) outer)) ∙ same))
          ],
        )

    new_stopped : NewStand u
    new_stopped n r le row = elim (cases_lt n.gen_ t.given) [
      | inl lt ↦
          let k = lived F z t c now m move n r lt row in
          stands n lt k.0 (new_inside F z s given t inv run (suc n.gen_) n r (omega arith) k.1 le)
      | inr after ↦
          let sc = move.nodes.scope n r row after in
          let due = move.due in
          let pc = move.given.names.live c due.row due.is_row in
          let row_c = row_still c due.row pc due.is_row not_itself in
          elim (cases_lt c.gen_ s.given) [
            | inl p ↦ (
              record { bind = c; row = due.row; given = p; is_row = row_c; inside = direct row sc.0; new = sc.1 },
              inl none,
            )
            | inr new ↦
                let a = stands c pc not_itself (new_inside F z s given t inv run (suc c.gen_) c due.row (omega arith) due.is_row new) in (
                  record {
                    bind = a.0.bind;
                    row = a.0.row;
                    given = a.0.given;
                    is_row = a.0.is_row;
                    inside = nested row sc.0 a.0.inside;
                    new = sc.1;
                  },
                  a.1,
                )
          ]
    ]

  roots_left : (u : State) → Stops F z t u → RootsStay u
  roots_left u (as_it_is e) = subst (λ (x : State). RootsStay x) (sym e) roots_run
  roots_left u (unbuilt {b} {now} {m} move none empty count e) = subst (λ (x : State). RootsStay x) (sym e) (roots_stopped b now m move none)
  roots_left u (unkept quiet taken at due count e) = subst (λ (x : State). RootsStay x) (sym e) roots_run

  new_left : (u : State) → Stops F z t u → NewStand u
  new_left u (as_it_is e) = subst (λ (x : State). NewStand x) (sym e) new_run
  new_left u (unbuilt {b} {now} {m} move none empty count e) = subst (λ (x : State). NewStand x) (sym e) (new_stopped b now m move none)
  new_left u (unkept {calls'} quiet taken at due count e) = subst (λ (x : State). NewStand x) (sym e) (λ n r le row. let a = new_run n r le row in (
    record { bind = a.0.bind; row = a.0.row; given = a.0.given; is_row = a.0.is_row; inside = a.0.inside; new = a.0.new },
    a.1,
  ))

-- ---- what is counted

-- but for one at most that couldn't be built
abbrev AllFew : Functions → State → State → Type 0
AllFew F s u = (unbuilt : Option NodeId) × BuildsFew F s.given s.graph u.graph unbuilt s.builds u.builds

module _ (F : Functions) (z : Start) (s t : State) (run : Moves F z s t) (c : NodeId) (now : Outcome) (m : Remade) (move : Rebuild F z t c now m)
    (none : m.graph.built c ≡ None) (count : RoseAtMost t.builds (builds_of now) m.builds) where
  few : Few F s t
  few = run_few F z s t run

  -- the bind that couldn't be built is due still
  own_differs : LeftDiffers F m.graph c
  own_differs =
      let due = move.due in
      let p = bind_given F z t c now m move in
      let on = outlives F z t c now m move c due.row p due.is_row due.stands in
      record {
        row = due.row;
        left = due.left;
        function = due.function;
        captures = due.captures;
        is_row = on.1;
        is_bind = due.is_bind;
        outcome = now;
        gives = gives_after F z t c now m move due.left now
            (left_given F z t c now m move c due.row due.left due.function due.captures due.is_row due.is_bind) due.gives;
        changed = λ w e o. none-some w (sym none ∙ e);
      }

  was_due : (b : NodeId) → Among b (c ∷ few.binds) → Given s.given b → LeftDiffers F s.graph b
  was_due b (inr a) p = few.due b a p
  was_due b (inl is) p = differed_run F z s t run b p (subst (λ (n : NodeId). LeftDiffers F t.graph n) (sym is) (due_differs F z t c now m move))

  is_now : (b : NodeId) → Among b (c ∷ few.binds)
      → ((right : IsBuiltRight F m.graph b) × IsSome right.built.root) ⊎ ((Some c ≡ Some b) × (m.graph.built b ≡ None) × LeftDiffers F m.graph b)
  is_now b (inr a) =
      let l = few.last b a in
      inl (with_root F m.graph b l.0 l.1 (lasts_on F z t b l.0 l.1 c now m move l.2) l.3)
  is_now b (inl is) = inr (
    ap (λ (n : NodeId). Some n) (sym is),
    subst (λ (n : NodeId). m.graph.built n ≡ None) (sym is) none,
    subst (λ (n : NodeId). LeftDiffers F m.graph n) (sym is) own_differs,
  )

  few_stopped : BuildsFew F s.given s.graph m.graph (Some c) s.builds m.builds
  few_stopped = record {
    binds = c ∷ few.binds;
    once = ((λ a. let l = few.last c a in not_due F z t c l.0 l.1 c now m move l.2 refl), few.once);
    built = λ b a. record { due = was_due b a; now = is_now b a };
    count =
        let x = few.count.kept in let y = few.count.within in let k = count.kept in let w = count.within in let o = few_builds now in
        record { kept = omega (arith, x, k); within = omega (arith, y, w, o) };
  }

builds_left : (F : Functions) (z : Start) (s t u : State) → Moves F z s t → Stops F z t u → AllFew F s u
builds_left F z s t u run (as_it_is e) = subst (λ (x : State). AllFew F s x) (sym e) (None, run_builds_few F z s t run)
builds_left F z s t u run (unbuilt {b} {now} {m} move none empty count e) =
    subst (λ (x : State). AllFew F s x) (sym e) (Some b, few_stopped F z s t run b now m move none count)
builds_left F z s t u run (unkept quiet taken at due count e) = subst (λ (x : State). AllFew F s x) (sym e) (None, run_builds_few F z s t run)

abbrev AddsMany : State → State → Type 0
AddsMany s u = (number : ℕ) × (u.given ≡ s.given + number) × RoseBy s.adds number u.adds

adds_left : (F : Functions) (z : Start) (s t u : State) → Moves F z s t → Stops F z t u → AddsMany s u
adds_left F z s t u run stop = by_stop stop
  where
    by_stop : Stops F z t u → AddsMany s u
    by_stop (as_it_is e) = subst (λ (x : State). AddsMany s x) (sym e) (run_adds F z s t run)
    by_stop (unbuilt {b} {now} {m} move none empty count e) = subst (λ (x : State). AddsMany s x) (sym e)
        (let first = run_adds F z s t run in let n = move.nodes in let a = first.1 in let c = n.given in
        (first.0 + n.number, omega arith, rose_on first.2 n.adds))
    by_stop (unkept quiet taken at due count e) = subst (λ (x : State). AddsMany s x) (sym e) (run_adds F z s t run)

-- ---- scopes

-- where a bind is built anew, scopes are those of binds with roots still, if its own is
scopes_made : (F : Functions) (z : Start) (s : State) (b : NodeId) (now : Outcome) (made : Remade) → Rebuild F z s b now made → ScopesRooted s.graph
    → ((n : NodeId) (r : Row) → made.graph.row n ≡ Some r → r.scope ≡ Some b → (w : Built) × (made.graph.built b ≡ Some w) × IsSome w.root)
    → ScopesRooted made.graph
scopes_made F z s b now made move rooted own n r c row scope = elim (node_or_other c b) [
  | inl is ↦ subst (λ (x : NodeId). (w : Built) × (made.graph.built x ≡ Some w) × IsSome w.root) (sym is)
      (own n r row (scope ∙ ap (λ (x : NodeId). Some x) is))
  | inr ne ↦ elim (cases_lt n.gen_ s.given) [
    | inr le ↦ absurd (ne (let e : Some c ≡ Some b = sym scope ∙ (move.nodes.scope n r row le).0 in cc))
    | inl lt ↦
        let was = lived F z s b now made move n r lt row in
        let w = rooted n r c was.1 scope in
        let p = move.given.names.scope n r c was.1 scope in
        (w.0, move.rebuilt.built c p ne (λ i. was.0 (nested was.1 scope i)) ∙ w.1, w.2)
  ]
]

scopes_run : (F : Functions) (z : Start) (s t : State) → Moves F z s t → ScopesRooted s.graph → ScopesRooted t.graph
scopes_run F z s t here h = h
scopes_run F z s t (step {b = u} m rest) h = scopes_run F z u t rest (on (kind_of F z s u m))
  where
    on : Kind F z s u (built_by m) → ScopesRooted u.graph
    on (inl k) = subst ScopesRooted (sym k.0.graph) h
    on (inr k) = subst (λ (x : State). ScopesRooted x.graph) (sym k.0.is)
        (scopes_made F z s k.0.bind k.0.outcome k.0.made k.0.rebuild h
        (λ n r row scope. (k.0.built.built, k.0.built.is_built, k.0.built.inside n r row scope)))

scopes_left : (F : Functions) (z : Start) (s t u : State) → Moves F z s t → Stops F z t u → ScopesRooted s.graph → ScopesRooted u.graph
scopes_left F z s t u run (as_it_is e) h = subst (λ (x : State). ScopesRooted x.graph) (sym e) (scopes_run F z s t run h)
scopes_left F z s t u run (unbuilt {b} {now} {m} move none empty count e) h = subst (λ (x : State). ScopesRooted x.graph) (sym e)
    (scopes_made F z t b now m move (scopes_run F z s t run h) (λ n r row scope. absurd (empty n r row scope)))
scopes_left F z s t u run (unkept quiet taken at due count e) h = subst (λ (x : State). ScopesRooted x.graph) (sym e) (scopes_run F z s t run h)

pub stops_leave : StopsLeave
stops_leave F z s t u entry given run stop = record {
  rest = rest_then (moves_rest F z s t run) (stop_rest F z t u stop);
  dead = λ n r p row dead. let c = cause F z s t u run stop n r p row dead in (c.0, c.2, c.3);
  scopes = λ n p dead. by_row n p dead (s.graph.row n) refl;
  roots = λ b r p row same. roots_left F z s given t inv run u stop b r p row same;
  new = λ n r le row. new_left F z s given t inv run u stop n r le row;
  builds = builds_left F z s t u run stop;
  adds = adds_left F z s t u run stop;
  inside = scopes_left F z s t u run stop;
}
  where
    inv : Invariant F z t
    inv = moves_keep F z s t run (entry_holds F z s entry)

    by_row : (n : NodeId) → Given s.given n → u.graph.row n ≡ None → (x : Option Row) → s.graph.row n ≡ x → u.died n ≡ died_in s.graph u.graph n
    by_row n p dead None e = rw e ((known_to F z s t u run stop n p dead).earlier e ∙ entry.died n)
    by_row n p dead (Some r) e = rw (e, dead) ((known_to F z s t u run stop n p dead).now r e)
