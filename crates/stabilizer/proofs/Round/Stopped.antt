-- More of what a round leaves of the graph, wherever it stops: who is dead, roots that read back, and what binds are built for.
use Rattle.std.proofs.Common.{◌≡◌, ◌⊎◌, inl, inr, ℕ, ◌≤◌, Option, None, Some, refl, sym, subst, ap, ◌∙◌}
use Rattle.std.proofs.lemmas.Bool.{cases_lt}
use Rattle.std.proofs.lemmas.Option.{none-some}
use Rattle.inc_value.specs.declared.node.NodeId.{NodeId}
use Rattle.inc_value.specs.declared.outcome.Outcome.{Outcome}
use Rattle.inc_value.specs.Choice.{here}
use Rattle.inc_terms.specs.Depend.{change}
use Rattle.inc_terms.specs.Evaluate.{NodeGives}
use Rattle.inc_terms.specs.Graph.{Row}
use Rattle.inc_terms.specs.Rebuild.{Inside, direct, nested}
use Rattle.inc_terms.specs.Rebuilding.{outcome_of}
use Rattle.inc_terms.specs.Term.{Functions}
use Rattle.inc_terms.specs.Within.{Given}
use Rattle.inc_terms.proofs.Meanings.{rebuild_keeps}
use Rattle.inc_terms.proofs.Rebuilding.{apart, built_before}
use Rattle.stabilize_round.specs.Ids.{AllGiven}
use Rattle.stabilize_round.specs.Invariant.{Invariant, Rooted, MetNow, from_held}
use Rattle.stabilize_round.specs.Machine.{Entry, Moves, Stops, as_it_is, unbuilt, unkept, called_more}
use Rattle.stabilize_round.specs.Rebuilding.{Remade, remade, Rebuild, rebuilds}
use Rattle.stabilize_round.specs.Runs.{LeftDiffers, IsBuiltRight}
use Rattle.stabilize_round.specs.State.{State, Start}
use Rattle.stabilize_round.specs.Stopped.{IsLeft, IsBuiltOther}
use Rattle.stabilize_round.proofs.Entry.{entry_holds}
use Rattle.stabilize_round.proofs.Machine.{moves_keep}
use Rattle.stabilize_round.proofs.Points.{node_or_other}
use Rattle.stabilize_round.proofs.Ready.{ready}
use Rattle.stabilize_round.proofs.Rebuilding.{met_after}
use Rattle.stabilize_round.proofs.Runs.{lived, left_given, bind_given, due_differs, later, row_before, run_grows, run_kills}
use Rattle.stabilize_round.proofs.Runs.{built_stays, refused_keeps}
use Rattle.stabilize_round.proofs.Stopped.{new_binds_built, stops_leave, differed_run}
use Rattle.stabilizer.proofs.Round.NewDeaths.{Falls, falls_left, scoped_run, scoped_stopped}
use Rattle.stabilizer.proofs.Building.Remade.{inside_lives}

-- ---- who is dead

abbrev pub Kills : State → State → Type 0
Kills s u = (n c : NodeId) → Inside s.graph c n → IsBuiltOther s u c → u.graph.row n ≡ None

module _ (F : Functions) (z : Start) (s : State) (given : AllGiven F z s) (t : State) (inv : Invariant F z t) (run : Moves F z s t) where
  -- who lives on stands on where it stood
  inside_on : (c n : NodeId) (x : Row) → Given s.given n → t.graph.row n ≡ Some x → Inside s.graph c n → Inside t.graph c n
  inside_on c n x p row (direct {r} e sc) =
      let was = row_before F z s t run n x p row in
      let same : x ≡ r = cc in
      direct row (ap (λ (y : Row). y.scope) same ∙ sc)
  inside_on c n x p row (nested {r} {c = d} e sc i) =
      let was = row_before F z s t run n x p row in
      let same : x ≡ r = cc in
      let scope : x.scope ≡ Some d = ap (λ (y : Row). y.scope) same ∙ sc in
      let outer = inv.scoped n x d row scope in
      nested row scope (inside_on c d outer.0 (given.names.scope n r d e sc) outer.4 i)

  given_inside : (c n : NodeId) → Inside s.graph c n → Given s.given n
  given_inside c n i = let k = inside_lives s.graph c n i in given.names.live n k.0 k.1

  kills_run : Kills s t
  kills_run n c i other =
      let k = inside_lives s.graph c n i in
      (run_kills F z s t run n k.0 (given_inside c n i) k.1).1 (c, (λ same. other (sym same)), i)

  kills_stopped : (b : NodeId) (now : Outcome) (m : Remade) → Rebuild F z t b now m → Kills s (remade t m)
  kills_stopped b now m move n c i other =
      let p = given_inside c n i in
      let p' = later s.given t.given n (run_grows F z s t run) p in
      elim (move.rebuilt.rows n p') [
        | inl h ↦ h.1
        | inr h ↦ h.1 ∙ dead h.0 (t.graph.row n) refl
      ]
    where
      dead : (Inside t.graph b n → ⊥) → (x : Option Row) → t.graph.row n ≡ x → x ≡ None
      dead out None e = refl
      dead out (Some x) e = absurd (
          let on = inside_on c n x (given_inside c n i) e i in
          let same = built_before F z.known z.ids t.given t.graph m.graph b now (rebuilds move) c n out on in
          none-some x (sym (kills_run n c i (λ k. other (ap outcome_of same ∙ k))) ∙ e))

  kills_left : (u : State) → Stops F z t u → Kills s u
  kills_left u (as_it_is e) = subst (λ (x : State). Kills s x) (sym e) kills_run
  kills_left u (unbuilt {b} {now} {m} move none empty count e) = subst (λ (x : State). Kills s x) (sym e) (kills_stopped b now m move)
  kills_left u (unkept quiet taken at due count e) = subst (λ (x : State). Kills s x) (sym e) kills_run

-- ---- all that is left of the nodes

pub record IsLeftOver (F : Functions) (s u : State) : Type 0 where
  pub left : IsLeft F s u
  pub killed : Kills s u
  pub fallen : Falls s u
  pub rooted : Rooted F u.graph

pub stops_leave_over : (F : Functions) (z : Start) (s t u : State) → Entry F z s → AllGiven F z s → Moves F z s t → Stops F z t u → IsLeftOver F s u
stops_leave_over F z s t u entry given run stop = record {
  left = stops_leave F z s t u entry given run stop;
  killed = kills_left F z s given t (moves_keep F z s t run (entry_holds F z s entry)) run u stop;
  fallen = falls_left F z s given t run u stop;
  rooted = let k = refused_keeps F z s t u entry run stop in subst (λ (x : State). Rooted F x.graph) (sym k.2) k.1.rooted;
}

-- ---- what binds are built for

-- for what its left gives; and its change is met
abbrev pub IsBuiltMet : Functions → Start → State → NodeId → Type 0
IsBuiltMet F z u b = IsBuiltRight F u.graph b × MetNow F z u.graph u.died u.root (change b)

-- what binds are built for where a round stops, of which this one couldn't be built, or none
pub record BuildsLeft (F : Functions) (z : Start) (s u : State) (refused : Option NodeId) : Type 0 where
  pub stays : (b : NodeId) (r : Row) → Given s.given b → u.graph.row b ≡ Some r
      → (u.graph.built b ≡ s.graph.built b) ⊎ IsBuiltMet F z u b ⊎ (refused ≡ Some b)
  pub made : (b : NodeId) (r : Row) → s.given ≤ b.gen_ → u.graph.row b ≡ Some r → (u.graph.built b ≡ None) ⊎ IsBuiltMet F z u b
  pub none : (b : NodeId) → refused ≡ Some b → u.graph.built b ≡ None
  pub differs : (b : NodeId) → refused ≡ Some b → LeftDiffers F u.graph b
  pub met : (b : NodeId) → refused ≡ Some b → MetNow F z u.graph u.died u.root (change b)
  pub was : (b : NodeId) → refused ≡ Some b → Given s.given b → LeftDiffers F s.graph b
  pub scoped : (n : NodeId) (r : Row) (b : NodeId) → s.given ≤ n.gen_ → u.graph.row n ≡ Some r → r.scope ≡ Some b → u.graph.built b ≡ None
      → refused ≡ Some b

no_bind : {X : Type 0} (b : NodeId) → None ≡ Some b → X
no_bind b e = absurd (none-some b e)

-- where moves lead each bind could be built
pub moves_build : (F : Functions) (z : Start) (s t : State) → Entry F z s → AllGiven F z s → Moves F z s t → BuildsLeft F z s t None
moves_build F z s t entry given run = record {
  stays = λ b r p row. elim (built_stays F z s t entry run b r p row) [ inl same ↦ inl same | inr right ↦ inr (inl right) ];
  made = λ b r le row. new_binds_built F z s t entry given run b r le row;
  none = λ b e. no_bind b e;
  differs = λ b e. no_bind b e;
  met = λ b e. no_bind b e;
  was = λ b e. no_bind b e;
  scoped = λ n r b le row scope none.
      let inv = moves_keep F z s t run (entry_holds F z s entry) in
      let w = scoped_run F z s t run given.names.live inv.scoped n r b le row scope in
      absurd (none-some w.0 (sym none ∙ w.1));
}

module _ (F : Functions) (z : Start) (s : State) (entry : Entry F z s) (given : AllGiven F z s) (t : State) (inv : Invariant F z t) (run : Moves F z s t)
    (c : NodeId) (now : Outcome) (m : Remade) (move : Rebuild F z t c now m) (none : m.graph.built c ≡ None) where
  abbrev u : State
  u = remade t m

  more : s.given ≤ t.given
  more = run_grows F z s t run

  -- what a given node gives it gives still
  gives_on : (n : NodeId) (o : Outcome) → Given t.given n → NodeGives F t.graph n o → NodeGives F m.graph n o
  gives_on n o p g = (rebuild_keeps F z.known z.ids t.given t.graph m.graph c now (rebuilds move) n p o).0 g

  right_on : (b : NodeId) (r : Row) → Given t.given b → m.graph.row b ≡ Some r → (b ≡ c → ⊥) → IsBuiltRight F t.graph b → IsBuiltRight F m.graph b
  right_on b r p row ne right =
      let was = lived F z t c now m move b r p row in
      let before = was.1 in let mine = right.is_row in
      let same : r ≡ right.row = cc in
      let left = left_given F z t c now m move b right.row right.left right.function right.captures right.is_row right.is_bind in
      record {
        row = right.row;
        left = right.left;
        function = right.function;
        captures = right.captures;
        built = right.built;
        is_row = row ∙ ap (λ (x : Row). Some x) same;
        is_bind = right.is_bind;
        is_built = move.rebuilt.built b p ne was.0 ∙ right.is_built;
        gives = gives_on right.left right.built.outcome left right.gives;
      }

  met_on : (b : NodeId) → MetNow F z t.graph t.died t.root (change b) → MetNow F z m.graph m.died t.root (change b)
  met_on b h = met_after F z t inv c now m move (change b) h

  -- of one that isn't the bind that couldn't be built
  other_on : (b : NodeId) (r : Row) → Given t.given b → m.graph.row b ≡ Some r → (b ≡ c → ⊥) → IsBuiltMet F z t b → IsBuiltMet F z u b
  other_on b r p row ne h = (right_on b r p row ne h.0, met_on b h.1)

  stays_stopped : (b : NodeId) (r : Row) → Given s.given b → m.graph.row b ≡ Some r
      → (m.graph.built b ≡ s.graph.built b) ⊎ IsBuiltMet F z u b ⊎ (Some c ≡ Some b)
  stays_stopped b r p row = elim (node_or_other b c) [
    | inl is ↦ inr (inr (ap (λ (n : NodeId). Some n) (sym is)))
    | inr ne ↦
        let p' = later s.given t.given b more p in
        let was = lived F z t c now m move b r p' row in
        elim (built_stays F z s t entry run b r p was.1) [
          | inl same ↦ inl (move.rebuilt.built b p' ne was.0 ∙ same)
          | inr right ↦ inr (inl (other_on b r p' row ne right))
        ]
  ]

  made_stopped : (b : NodeId) (r : Row) → s.given ≤ b.gen_ → m.graph.row b ≡ Some r → (m.graph.built b ≡ None) ⊎ IsBuiltMet F z u b
  made_stopped b r le row = elim (cases_lt b.gen_ t.given) [
    | inr after ↦ inl (move.nodes.unbuilt b after)
    | inl p ↦ elim (node_or_other b c) [
      | inl is ↦ inl (subst (λ (n : NodeId). m.graph.built n ≡ None) (sym is) none)
      | inr ne ↦
          let was = lived F z t c now m move b r p row in
          elim (new_binds_built F z s t entry given run b r le was.1) [
            | inl not ↦ inl (move.rebuilt.built b p ne was.0 ∙ not)
            | inr right ↦ inr (other_on b r p row ne right)
          ]
    ]
  ]

  own_given : Given t.given c
  own_given = bind_given F z t c now m move

  own_row : m.graph.row c ≡ Some move.due.row
  own_row = elim (move.rebuilt.rows c own_given) [
    | inl h ↦ absurd (apart F z.known z.ids t.given t.graph m.graph c now (rebuilds move) h.0)
    | inr h ↦ h.1 ∙ move.due.is_row
  ]

  own_differs : LeftDiffers F m.graph c
  own_differs =
      let due = move.due in
      let left = left_given F z t c now m move c due.row due.left due.function due.captures due.is_row due.is_bind in
      record {
        row = due.row;
        left = due.left;
        function = due.function;
        captures = due.captures;
        is_row = own_row;
        is_bind = due.is_bind;
        outcome = now;
        gives = gives_on due.left now left due.gives;
        changed = λ w e o. none-some w (sym none ∙ e);
      }

  -- what is taken is met
  own_met : MetNow F z t.graph t.died t.root (change c)
  own_met = elim (inv.met.needed (change c) (inv.web.heap (change c) move.taken.heap)) [
    | inl h ↦ h
    | inr held ↦ let k = ready F z t inv move.quiet (change c) move.taken in from_held held k.is_row k.stands here
  ]

  at_bind : (P : NodeId → Type 0) → P c → (b : NodeId) → Some c ≡ Some b → P b
  at_bind P h b e = let is : c ≡ b = cc in subst P is h

  builds_stopped : BuildsLeft F z s u (Some c)
  builds_stopped = record {
    stays = stays_stopped;
    made = made_stopped;
    none = at_bind (λ (b : NodeId). m.graph.built b ≡ None) none;
    differs = at_bind (λ (b : NodeId). LeftDiffers F m.graph b) own_differs;
    met = at_bind (λ (b : NodeId). MetNow F z m.graph m.died t.root (change b)) (met_on c own_met);
    was = at_bind (λ (b : NodeId). Given s.given b → LeftDiffers F s.graph b)
        (λ p. differed_run F z s t run c p (due_differs F z t c now m move));
    scoped = λ n r b le row scope not.
        scoped_stopped F z s t run given.names.live inv.scoped c now m move n r b le row scope not;
  }

-- the count of calls doesn't matter
pub called_on : (F : Functions) (z : Start) (s t : State) (calls : ℕ) → BuildsLeft F z s t None → BuildsLeft F z s (called_more t calls) None
called_on F z s t calls h = assumption (h)

-- wherever a round stops at most one bind couldn't be built
pub stops_build : (F : Functions) (z : Start) (s t u : State) → Entry F z s → AllGiven F z s → Moves F z s t → Stops F z t u
    → (refused : Option NodeId) × BuildsLeft F z s u refused
stops_build F z s t u entry given run (as_it_is e) =
    (None, subst (λ (x : State). BuildsLeft F z s x None) (sym e) (moves_build F z s t entry given run))
stops_build F z s t u entry given run (unbuilt {b} {now} {m} move none empty count e) = (
  Some b,
  subst (λ (x : State). BuildsLeft F z s x (Some b)) (sym e)
      (builds_stopped F z s entry given t (moves_keep F z s t run (entry_holds F z s entry)) run b now m move none),
)
stops_build F z s t u entry given run (unkept {calls'} quiet taken at due count e) =
    (None, subst (λ (x : State). BuildsLeft F z s x None) (sym e) (called_on F z s t calls' (moves_build F z s t entry given run)))
