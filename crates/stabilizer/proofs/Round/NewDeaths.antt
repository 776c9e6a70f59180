-- Who is born in a round lives on in it, and who died stood inside a bind that is built for another outcome, or for nothing.
use Rattle.std.proofs.Common.{◌≡◌, inl, inr, ℕ, Option, None, Some, refl, sym, ap, subst, ◌∙◌, arith, ◌⊎◌, ◌≤◌}
use Rattle.std.proofs.lemmas.Bool.{cases_lt}
use Rattle.inc_value.specs.declared.function.FnKind.{FnKind}
use Rattle.inc_value.specs.declared.function.FnRef.{FnRef}
use Rattle.inc_value.specs.declared.node.NodeId.{NodeId}
use Rattle.inc_value.specs.declared.outcome.Outcome.{Outcome}
use Rattle.inc_value.specs.Choice.{here, step}
use Rattle.inc_terms.specs.Term.{Functions}
use Rattle.inc_terms.specs.Graph.{Graph, Row, Built}
use Rattle.inc_terms.specs.Evaluate.{Stands}
use Rattle.inc_terms.specs.Within.{Given, Fit, FunctionsWithin}
use Rattle.inc_terms.specs.Depend.{died_in}
use Rattle.inc_terms.specs.Rebuild.{Inside, direct, nested}
use Rattle.inc_terms.proofs.Depending.{stands_after, no_stand}
use Rattle.inc_terms.proofs.Within.{functions_within}
use Rattle.stabilize_round.specs.Ids.{AllGiven}
use Rattle.stabilize_round.specs.Machine.{Entry, Move, Moves, Stops, as_it_is, unbuilt, unkept}
use Rattle.stabilize_round.specs.Rebuilding.{Remade, Rebuild, remade}
use Rattle.stabilize_round.specs.Runs.{built_by, IsBuiltRight}
use Rattle.stabilize_round.specs.State.{State, Start}
use Rattle.stabilize_round.proofs.Runs.{Kind, kind_of, Makes, bind_given, made_right, due_differs, later, grows, not_differing, right_at_end, lived, row_before, run_grows, run_kills}
use Rattle.stabilize_round.proofs.Stopped.{stops_leave}
use Rattle.inc_terms.specs.Local.{Scoped}
use Rattle.inc_terms.specs.Rebuilding.{outcome_of}
use Rattle.inc_terms.proofs.Rebuilding.{inside_through}
use Rattle.stabilize_round.specs.Stopped.{IsBuiltOther}
use Rattle.stabilize_round.proofs.Points.{node_or_other}

-- a node stands in the scope of a live bind that stands, and is built for what its left gives
pub record Lasts (F : Functions) (G : Graph) (count : ℕ) (n : NodeId) : Type 0 where
  pub bind : NodeId
  pub row : Row
  pub outer : Row
  pub given : Given count n
  pub bind_given : Given count bind
  pub is_row : G.row n ≡ Some row
  pub scope : row.scope ≡ Some bind
  pub is_outer : G.row bind ≡ Some outer
  pub stands : Stands F G outer.scope
  pub right : IsBuiltRight F G bind

module _ (F : Functions) (z : Start) (s : State) (b : NodeId) (now : Outcome) (made : Remade) (move : Rebuild F z s b now made) where
  abbrev P : NodeId → Type 0
  P n = Given s.given n

  abbrev Q : FnKind → FnRef → Type 0
  Q = Fit s.given z.known z.ids

  fine : FunctionsWithin F P Q
  fine = functions_within F z.known z.ids P move.given.laws

  -- what stood wasn't inside, and stands still
  stood_outside : (n : NodeId) (r : Row) → Inside s.graph b n → s.graph.row n ≡ Some r → Stands F s.graph r.scope → ⊥
  stood_outside n r i e st = no_stand F P Q fine s.graph made.graph move.given.names b now move.due move.rebuilt n r i e st

  stood : (n : NodeId) (r : Row) → P n → s.graph.row n ≡ Some r → Stands F s.graph r.scope
      → (made.graph.row n ≡ Some r) × Stands F made.graph r.scope
  stood n r p e st = elim (move.rebuilt.rows n p) [
    | inl h ↦ absurd (stood_outside n r h.0 e st)
    | inr h ↦ (h.1 ∙ e, stands_after F P Q fine s.graph made.graph move.given.names b now move.due move.rebuilt n r (p, h.0) e st)
  ]

  same_row : (n : NodeId) (r r' : Row) → s.graph.row n ≡ Some r → s.graph.row n ≡ Some r' → r ≡ r'
  same_row n r r' e e' = cc

  same_scope : (r r' : Row) (c d : NodeId) → r ≡ r' → r.scope ≡ Some c → r'.scope ≡ Some d → c ≡ d
  same_scope r r' c d same e e' =
      let k : Some c ≡ Some d = sym e ∙ (ap (λ (x : Row). x.scope) same ∙ e') in cc

  not_inside : (n : NodeId) → Lasts F s.graph s.given n → Inside s.graph b n → ⊥
  not_inside n k (direct {r} row scope) =
      let binds : k.bind ≡ b = same_scope k.row r k.bind b (same_row n k.row r k.is_row row) k.scope scope in
      not_differing F s.graph b (subst (λ (m : NodeId). IsBuiltRight F s.graph m) binds k.right) (due_differs F z s b now made move)
  not_inside n k (nested {r} {c} row scope i) =
      let binds : c ≡ k.bind = same_scope r k.row c k.bind (same_row n r k.row row k.is_row) scope k.scope in
      stood_outside k.bind k.outer (subst (λ (m : NodeId). Inside s.graph b m) binds i) k.is_outer k.stands

  row_lasts : (n : NodeId) (k : Lasts F s.graph s.given n) → made.graph.row n ≡ Some k.row
  row_lasts n k = elim (move.rebuilt.rows n k.given) [
    | inl h ↦ absurd (not_inside n k h.0)
    | inr h ↦ h.1 ∙ k.is_row
  ]

-- so it is after one more move
lasts_move : (F : Functions) (z : Start) (s u : State) → Move F z s u → (n : NodeId) → Lasts F s.graph s.given n → Lasts F u.graph u.given n
lasts_move F z s u m n k = by_kind (kind_of F z s u m)
  where
    by_kind : Kind F z s u (built_by m) → Lasts F u.graph u.given n
    by_kind (inl h) = subst (λ (G : Graph). Lasts F G u.given n) (sym h.0.graph) (subst (λ (c : ℕ). Lasts F s.graph c n) (sym h.0.given) k)
    by_kind (inr h) =
        let move = h.0.rebuild in
        let outer = stood F z s h.0.bind h.0.outcome h.0.made move k.bind k.outer k.bind_given k.is_outer k.stands in
        let graph : u.graph ≡ h.0.made.graph = ap (λ (x : State). x.graph) h.0.is in
        let more = grows F z s u (built_by m) (inr h) in
        let there : u.graph.row k.bind ≡ Some k.outer = ap (λ (G : Graph). G.row k.bind) graph ∙ outer.0 in
        record {
          bind = k.bind;
          row = k.row;
          outer = k.outer;
          given = later s.given u.given n more k.given;
          bind_given = later s.given u.given k.bind more k.bind_given;
          is_row = ap (λ (G : Graph). G.row n) graph ∙ row_lasts F z s h.0.bind h.0.outcome h.0.made move n k;
          scope = k.scope;
          is_outer = there;
          stands = subst (λ (G : Graph). Stands F G k.outer.scope) (sym graph) outer.1;
          right = right_at_end F z s u (step m here) k.bind k.outer k.bind_given there k.right;
        }

-- a node that is new after a build lasts
born : (F : Functions) (z : Start) (s u : State) (k : Makes F z s u) (n : NodeId) (r : Row) → s.graph.row n ≡ None → k.made.graph.row n ≡ Some r
    → Lasts F u.graph u.given n
born F z s u k n r none row = elim (cases_lt n.gen_ s.given) [
  | inl lt ↦ elim (k.rebuild.rebuilt.rows n lt) [
    | inl h ↦ absurd (let x = h.1 in cc)
    | inr h ↦ absurd (let x = h.1 in cc)
  ]
  | inr le ↦
      let new = k.rebuild.nodes.scope n r row le in
      let due = k.rebuild.due in
      let p = bind_given F z s k.bind k.outcome k.made k.rebuild in
      let stays = stood F z s k.bind k.outcome k.made k.rebuild k.bind due.row p due.is_row due.stands in
      let more = k.rebuild.nodes.given in
      subst (λ (x : State). Lasts F x.graph x.given n) (sym k.is) (record {
        bind = k.bind;
        row = r;
        outer = due.row;
        given = new.1;
        bind_given = later s.given k.made.given k.bind (omega (arith, more)) p;
        is_row = row;
        scope = new.0;
        is_outer = stays.0;
        stands = stays.1;
        right = made_right F z s k.bind k.outcome k.made k.rebuild k.built due.row stays.0;
      })
]

-- a node that a round didn't find: there is none, and none is known to have died, or it lasts
data NewAt (F : Functions) (t : State) (n : NodeId) : Type 0 where
  none_yet : t.died n ≡ None → t.graph.row n ≡ None → NewAt F t n
  lives : Lasts F t.graph t.given n → NewAt F t n

new_move : (F : Functions) (z : Start) (s u : State) → Move F z s u → (n : NodeId) → NewAt F s n → NewAt F u n
new_move F z s u m n (lives k) = lives (lasts_move F z s u m n k)
new_move F z s u m n (none_yet died row) = by_kind (kind_of F z s u m)
  where
    by_kind : Kind F z s u (built_by m) → NewAt F u n
    by_kind (inl h) = none_yet (ap (λ (f : NodeId → Option NodeId). f n) h.0.died ∙ died) (ap (λ (G : Graph). G.row n) h.0.graph ∙ row)
    by_kind (inr h) = by_row (h.0.made.graph.row n) refl
      where
        by_row : (x : Option Row) → h.0.made.graph.row n ≡ x → NewAt F u n
        by_row None e = none_yet (ap (λ (x : State). x.died n) h.0.is ∙ (h.0.rebuild.deaths.earlier n row ∙ died))
            (ap (λ (x : State). x.graph.row n) h.0.is ∙ e)
        by_row (Some r) e = lives (born F z s u h.0 n r row e)

new_run : (F : Functions) (z : Start) (s t : State) → Moves F z s t → (n : NodeId) → NewAt F s n → NewAt F t n
new_run F z s t here n k = k
new_run F z s t (step {b = u} m rest) n k = new_run F z u t rest n (new_move F z s u m n k)

undied : (F : Functions) (t : State) (n : NodeId) → NewAt F t n → t.graph.row n ≡ None → t.died n ≡ None
undied F t n (none_yet died row) dead = died
undied F t n (lives k) dead = absurd (let x = k.is_row in cc)

new_stop : (F : Functions) (z : Start) (t u : State) → Stops F z t u → (n : NodeId) → NewAt F t n → u.graph.row n ≡ None → u.died n ≡ None
new_stop F z t u (as_it_is e) n k dead = undied F u n (subst (λ (x : State). NewAt F x n) (sym e) k) dead
new_stop F z t u (unbuilt {b} {now} {m} move none empty count e) n k dead = by_new k
  where
    dead_then : m.graph.row n ≡ None
    dead_then = sym (ap (λ (x : State). x.graph.row n) e) ∙ dead

    by_new : NewAt F t n → u.died n ≡ None
    by_new (none_yet died row) = ap (λ (x : State). x.died n) e ∙ (move.deaths.earlier n row ∙ died)
    by_new (lives h) = absurd (let x = row_lasts F z t b now m move n h in let y = dead_then in cc)
new_stop F z t u (unkept quiet taken at due count e) n k dead =
    ap (λ (x : State). x.died n) e ∙ undied F t n k (sym (ap (λ (x : State). x.graph.row n) e) ∙ dead)

-- ---- nodes that are new

pub lasts_run : (F : Functions) (z : Start) (s t : State) → Moves F z s t → (n : NodeId) → Lasts F s.graph s.given n → Lasts F t.graph t.given n
lasts_run F z s t here n k = k
lasts_run F z s t (step {b = u} m rest) n k = lasts_run F z u t rest n (lasts_move F z s u m n k)

-- a node of which there was none before lasts
born_then : (F : Functions) (z : Start) (s u t : State) → Move F z s u → Moves F z u t → (n : NodeId) → s.graph.row n ≡ None
    → (u.graph.row n ≡ None → Lasts F t.graph t.given n) → Lasts F t.graph t.given n
born_then F z s u t m rest n none again = by_kind (kind_of F z s u m)
  where
    by_kind : Kind F z s u (built_by m) → Lasts F t.graph t.given n
    by_kind (inl h) = again (ap (λ (G : Graph). G.row n) h.0.graph ∙ none)
    by_kind (inr h) = by_row (h.0.made.graph.row n) refl
      where
        by_row : (x : Option Row) → h.0.made.graph.row n ≡ x → Lasts F t.graph t.given n
        by_row None e = again (ap (λ (x : State). x.graph.row n) h.0.is ∙ e)
        by_row (Some r) e = lasts_run F z u t rest n (born F z s u h.0 n r none e)

pub born_run : (F : Functions) (z : Start) (s t : State) → Moves F z s t → (n : NodeId) (r : Row) → s.graph.row n ≡ None → t.graph.row n ≡ Some r
    → Lasts F t.graph t.given n
born_run F z s t here n r none row = absurd (cc)
born_run F z s t (step {b = u} m rest) n r none row = born_then F z s u t m rest n none (λ e. born_run F z u t rest n r e row)

-- and is there where the round stops
pub there_still : (F : Functions) (z : Start) (t u : State) → Stops F z t u → (n : NodeId) → (k : Lasts F t.graph t.given n) → u.graph.row n ≡ Some k.row
there_still F z t u (as_it_is e) n k = ap (λ (x : State). x.graph.row n) e ∙ k.is_row
there_still F z t u (unbuilt {b} {now} {m} move none empty count e) n k =
    ap (λ (x : State). x.graph.row n) e ∙ row_lasts F z t b now m move n k
there_still F z t u (unkept quiet taken at due count e) n k = ap (λ (x : State). x.graph.row n) e ∙ k.is_row

-- ---- those who died

-- who is dead where a round stops is known by the graphs before and then
pub deaths_told : (F : Functions) (z : Start) (s t u : State) → Entry F z s → AllGiven F z s → Moves F z s t → Stops F z t u
    → (n : NodeId) → u.graph.row n ≡ None → u.died n ≡ died_in s.graph u.graph n
deaths_told F z s t u entry given run stop n dead = by_row (s.graph.row n) refl
  where
    by_row : (x : Option Row) → s.graph.row n ≡ x → u.died n ≡ died_in s.graph u.graph n
    by_row None e = rw e (new_stop F z t u stop n (new_run F z s t run n (none_yet (entry.died n) e)) dead)
    by_row (Some r) e = (stops_leave F z s t u entry given run stop).scopes n (given.names.live n r e) dead

-- ---- who died

abbrev pub Falls : State → State → Type 0
Falls s u = (n : NodeId) (r : Row) → s.graph.row n ≡ Some r → u.graph.row n ≡ None
    → (c : NodeId) × Inside s.graph c n × ((u.graph.built c ≡ None) ⊎ IsBuiltOther s u c)

module _ (F : Functions) (z : Start) (s : State) (given : AllGiven F z s) (t : State) (run : Moves F z s t) where
  around_given : (c n : NodeId) → Inside s.graph c n → Given s.given c
  around_given c n (direct {r} e sc) = given.names.scope n r c e sc
  around_given c n (nested {r} {c = d} e sc i) = around_given c d i

  -- who stands inside a bind stood there before
  inside_was : (b c : NodeId) → Given s.given c → Inside t.graph b c → Inside s.graph b c
  inside_was b c p (direct {r} e sc) = direct (row_before F z s t run c r p e) sc
  inside_was b c p (nested {r} {c = d} e sc i) =
      let was = row_before F z s t run c r p e in
      nested was sc (inside_was b d (given.names.scope c r d was sc) i)

  dies_run : (n : NodeId) (r : Row) → s.graph.row n ≡ Some r → t.graph.row n ≡ None → (c : NodeId) × Inside s.graph c n × IsBuiltOther s t c
  dies_run n r row dead =
      let d = (run_kills F z s t run n r (given.names.live n r row) row).0 dead in
      (d.0, d.2, λ same. d.1 (sym same))

  falls_run : Falls s t
  falls_run n r row dead = let d = dies_run n r row dead in (d.0, d.1, inr d.2)

  falls_stopped : (b : NodeId) (now : Outcome) (m : Remade) → Rebuild F z t b now m → m.graph.built b ≡ None → Falls s (remade t m)
  falls_stopped b now m move none n r row dead = by_row (t.graph.row n) refl
    where
      p : Given s.given n
      p = given.names.live n r row

      by_cause : (c : NodeId) → Inside s.graph c n → IsBuiltOther s t c
          → (c : NodeId) × Inside s.graph c n × ((m.graph.built c ≡ None) ⊎ IsBuiltOther s (remade t m) c)
      by_cause c i other =
          let gc = around_given c n i in
          let pc = later s.given t.given c (run_grows F z s t run) gc in
          elim (move.rebuilt.rows c pc) [
            | inl h ↦ (b, inside_through s.graph b c n (inside_was b c gc h.0) i, inl none)
            | inr h ↦ elim (node_or_other c b) [
              | inl is ↦ (c, i, inl (subst (λ (x : NodeId). m.graph.built x ≡ None) (sym is) none))
              | inr ne ↦ (c, i, inr (λ same. other (sym (ap outcome_of (move.rebuilt.built c pc ne h.0)) ∙ same)))
            ]
          ]

      by_row : (x : Option Row) → t.graph.row n ≡ x
          → (c : NodeId) × Inside s.graph c n × ((m.graph.built c ≡ None) ⊎ IsBuiltOther s (remade t m) c)
      by_row None e = let d = dies_run n r row e in by_cause d.0 d.1 d.2
      by_row (Some x) e = elim (move.rebuilt.rows n (later s.given t.given n (run_grows F z s t run) p)) [
        | inl h ↦ (b, inside_was b n p h.0, inl none)
        | inr h ↦ absurd (let clash : None ≡ Some x = sym dead ∙ (h.1 ∙ e) in cc)
      ]

  -- wherever it stops
  pub falls_left : (u : State) → Stops F z t u → Falls s u
  falls_left u (as_it_is e) = subst (λ (x : State). Falls s x) (sym e) falls_run
  falls_left u (unbuilt {b} {now} {m} move none empty count e) = subst (λ (x : State). Falls s x) (sym e) (falls_stopped b now m move none)
  falls_left u (unkept quiet taken at due count e) = subst (λ (x : State). Falls s x) (sym e) falls_run

-- ---- new nodes

-- a new node's scope is that of a bind that is built
pub scoped_run : (F : Functions) (z : Start) (s t : State) (run : Moves F z s t) → ((n : NodeId) (r : Row) → s.graph.row n ≡ Some r → Given s.given n)
    → Scoped t.graph → (n : NodeId) (r : Row) (b : NodeId) → s.given ≤ n.gen_ → t.graph.row n ≡ Some r → r.scope ≡ Some b
    → (w : Built) × (t.graph.built b ≡ Some w)
scoped_run F z s t here live scoped n r b le row scope = absurd (let g = live n r row in omega (arith, g, le))
scoped_run F z s t (step {b = u} m rest) live scoped n r b le row scope =
    elim (cases_lt n.gen_ u.given) [
      | inr after ↦ scoped_run F z u t rest live' scoped n r b after row scope
      | inl lt ↦ by_kind lt kind
    ]
  where
    kind : Kind F z s u (built_by m)
    kind = kind_of F z s u m

    live_made : (k : Makes F z s u) (x : NodeId) (r : Row) → k.made.graph.row x ≡ Some r → Given k.made.given x
    live_made k x r row = k.rebuild.nodes.names.live x r row

    live' : (x : NodeId) (r : Row) → u.graph.row x ≡ Some r → Given u.given x
    live' x r row = by_one kind
      where
        by_one : Kind F z s u (built_by m) → Given u.given x
        by_one (inl k) = rw k.0.given (live x r (sym (ap (λ (G : Graph). G.row x) k.0.graph) ∙ row))
        by_one (inr k) = rw k.0.is (live_made k.0 x r (sym (ap (λ (y : State). y.graph.row x) k.0.is) ∙ row))

    by_made : (k : Makes F z s u) → k.bind ≡ b → (w : Built) × (t.graph.built b ≡ Some w)
    by_made k is =
        let there = scoped n r b row scope in
        let mine = bind_given F z s k.bind k.outcome k.made k.rebuild in
        let more : s.given ≤ u.given = grows F z s u (built_by m) kind in
        let p : Given u.given b = subst (λ (x : NodeId). Given u.given x) is (later s.given u.given k.bind more mine) in
        let row_u = row_before F z u t rest b there.0 p there.4 in
        let at : k.made.graph.row k.bind ≡ Some there.0 = subst (λ (x : NodeId). k.made.graph.row x ≡ Some there.0) (sym is)
        (sym (ap (λ (x : State). x.graph.row b) k.is) ∙ row_u) in
        let right = made_right F z s k.bind k.outcome k.made k.rebuild k.built there.0 at in
        let on : IsBuiltRight F u.graph b = subst (λ (x : State). IsBuiltRight F x.graph b) (sym k.is)
        (subst (λ (x : NodeId). IsBuiltRight F k.made.graph x) is right) in
        let end = right_at_end F z u t rest b there.0 p there.4 on in
        (end.built, end.is_built)

    by_kind : Given u.given n → Kind F z s u (built_by m) → (w : Built) × (t.graph.built b ≡ Some w)
    by_kind lt (inl k) =
        absurd (let g = live n r (sym (ap (λ (G : Graph). G.row n) k.0.graph) ∙ row_before F z u t rest n r lt row) in omega (arith, g, le))
    by_kind lt (inr k) =
        let row' = sym (ap (λ (x : State). x.graph.row n) k.0.is) ∙ row_before F z u t rest n r lt row in
        let own = (k.0.rebuild.nodes.scope n r row' le).0 in
        by_made k.0 (let e : Some k.0.bind ≡ Some b = sym own ∙ scope in cc)

-- or that couldn't be built
pub scoped_stopped : (F : Functions) (z : Start) (s t : State) (run : Moves F z s t) → ((n : NodeId) (r : Row) → s.graph.row n ≡ Some r → Given s.given n)
    → Scoped t.graph → (c : NodeId) (now : Outcome) (m : Remade) → Rebuild F z t c now m → (n : NodeId) (r : Row) (b : NodeId) → s.given ≤ n.gen_
    → m.graph.row n ≡ Some r → r.scope ≡ Some b → m.graph.built b ≡ None → Some c ≡ Some b
scoped_stopped F z s t run live scoped c now m move n r b le row scope none =
    elim (cases_lt n.gen_ t.given) [
      | inr after ↦ sym ((move.nodes.scope n r row after).0) ∙ scope
      | inl lt ↦
          let was = lived F z t c now m move n r lt row in
          let w = scoped_run F z s t run live scoped n r b le was.1 scope in
          elim (node_or_other b c) [
            | inl is ↦ ap (λ (x : NodeId). Some x) (sym is)
            | inr ne ↦
                let there = scoped n r b was.1 scope in
                let p = move.given.names.live b there.0 there.4 in
                let same = move.rebuilt.built b p ne (λ i. was.0 (nested was.1 scope i)) in
                absurd (let clash : None ≡ Some w.0 = sym none ∙ (same ∙ w.1) in cc)
          ]
    ]
