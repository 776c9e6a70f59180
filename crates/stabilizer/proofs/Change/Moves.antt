-- A change that turns without a build, as moves.
use Rattle.height_order.specs.Levels.{level}
use Rattle.inc_terms.specs.Depend.{main, change, subject_of, change_reads}
use Rattle.inc_terms.specs.Evaluate.{Stands as ScopeStands}
use Rattle.inc_terms.specs.Graph as graph
use Rattle.inc_terms.specs.Graph.{Graph, Row, Def}
use Rattle.inc_terms.specs.Local.{shown, IsBuilt}
use Rattle.inc_terms.specs.Plan.{gate_of}
use Rattle.inc_terms.specs.Term.{Functions}
use Rattle.inc_value.specs.Choice.{Among, Reaches, here, step}
use Rattle.inc_value.specs.declared.node.NodeId.{NodeId}
use Rattle.inc_value.specs.declared.node.Part.TheVariants.{Change}
use Rattle.inc_value.specs.declared.node.Point.{Point}
use Rattle.inc_value.specs.declared.outcome.Outcome.{Outcome}
use Rattle.link_table.specs.Links.{Reads}
use Rattle.necessary_graph.proofs.Standing.{has_level}
use Rattle.necessary_graph.specs.Part.{NecessaryPart, Needed}
use Rattle.node_arena.specs.Arena.{Arena, row_at}
use Rattle.node_outcomes.specs.Choosing.{right_in}
use Rattle.node_outcomes.specs.Computing.{has_part}
use Rattle.node_outcomes.specs.Meaning.{Meaning}
use Rattle.node_outcomes.specs.Row.{with_outcome, stage_in, stage_of, outcome_in, IsRewritten}
use Rattle.node_outcomes.specs.Progress.{Progress}
use Rattle.node_outcomes.specs.declared.row.Stage.TheVariants as code
use Rattle.node_outcomes.specs.declared.row.Stage.{Stage as CodeStage}
use Rattle.point_map.specs.Rows.{at, Holds, Changes}
use Rattle.recompute_heap.specs.Agree.{IsLeast as IsLowest}
use Rattle.stabilize_round.proofs.Machine.{moves_keep}
use Rattle.stabilize_round.proofs.Points.{same_or_other, at_same, at_other, node_or_other, node_same, node_other, one_same}
use Rattle.stabilize_round.proofs.Ready.{ready}
use Rattle.stabilize_round.proofs.Steps.{off_moves}
use Rattle.stabilize_round.specs.Invariant.{Invariant}
use Rattle.stabilize_round.specs.Machine as move
use Rattle.stabilize_round.specs.Machine.{Move}
use Rattle.stabilize_round.specs.Moves.{Quiet, IsLeast, Awaits, changed, StepChange}
use Rattle.stabilize_round.specs.State as machine
use Rattle.stabilize_round.specs.State.{State, Start, Stage, at_point, at_node, count, one, planned, plan_at}
use Rattle.stabilize_round.specs.Steps.{Settles, Preparing}
use Rattle.stabilizer.proofs.Step.Carrying.{back_kept, heap_graph, needed_now}
use Rattle.stabilizer.proofs.Killing.Moves.{IsRunOn, IsMadeReady, ready_loose, ready_same}
use Rattle.stabilizer.proofs.Step.Stepping.{is_least}
use Rattle.stabilizer.specs.Dying.{TakesLeast, StandsBefore}
use Rattle.stabilizer.specs.Kept.{PartsKept}
use Rattle.stabilizer.specs.Stepping.{ChangeIsTurned}
use Rattle.stabilizer.specs.declared.parts.Parts.{Parts}
use Rattle.std.proofs.Common.{◌≡◌, ◌⊎◌, inl, inr, ℕ, ◌+◌, Bool, true, false, cond, ◌&&◌, List, [], Option, None, Some, refl, sym, ap, subst, ◌∙◌, arith, ◌∷◌}
use Rattle.std.proofs.lemmas.Bool.{and_from, and_parts}
use Rattle.std.proofs.lemmas.Option.{none-some, same_Some}
use Rattle.std.specs.Prelude.{is_some, IsSome}
use Rattle.wiring.proofs.Ghosts.{live_rowed}
use Rattle.wiring.proofs.Sight.{change_is, sees, reads_known, row_is}
use Rattle.wiring.specs.Began.{IsRoundOf}
use Rattle.wiring.specs.Graph.{graph_at}
use Rattle.wiring.specs.Kept.{IsKept}
use Rattle.wiring.specs.Stands.{MatchesState, hand, Counts}
use Rattle.wiring.specs.Turning.{IsDetached, HasTurned}
use Rattle.wiring.specs.Wiring.{KeepsRound, IsTurnedIn, WaitsFor}
use Rattle.wiring.specs.declared.work.Work.{Work}
use Rattle.stabilizer.proofs.Change.Changing.{before_stands}
use Rattle.stabilizer.proofs.Killing.LinksOff.{off_prepares}
use Rattle.stabilizer.proofs.Change.Turned.{graph_run, LeavesSettled, settled_stands}
use Rattle.stabilizer.proofs.Change.Waiting.{put_changes, with_change}
use Rattle.stabilizer.proofs.Building.Anew.{nowhere}
use Rattle.stabilizer.proofs.Step.Making.{quiet_of}

-- ---- what waits for a change, as a test

abbrev is_static : Stage → Bool
is_static machine.Static = true
is_static st = false

abbrev is_gated : Stage → Bool
is_gated machine.Gated = true
is_gated st = false

static_is : (st : Stage) → is_static st ≡ true → st ≡ machine.Static
static_is machine.Static e = refl
static_is machine.Bare e = absurd (cc)
static_is machine.Gated e = absurd (cc)
static_is machine.Full e = absurd (cc)

gated_is : (st : Stage) → is_gated st ≡ true → st ≡ machine.Gated
gated_is machine.Gated e = refl
gated_is machine.Bare e = absurd (cc)
gated_is machine.Static e = absurd (cc)
gated_is machine.Full e = absurd (cc)

-- the bind is this one
abbrev bind_is : Option NodeId → NodeId → Bool
bind_is None n = false
bind_is (Some b) n = at_node b true (λ (m : NodeId). false) n

bind_found : (x : Option NodeId) (n : NodeId) → bind_is x n ≡ true → x ≡ Some n
bind_found None n h = absurd (cc)
bind_found (Some b) n h = elim (node_or_other b n) [
  | inl e ↦ ap (λ (m : NodeId). Some m) e
  | inr ne ↦ absurd (let f = node_other b true (λ (m : NodeId). false) n ne in let x : true ≡ false = sym h ∙ f in cc)
]

bind_told : (x : Option NodeId) (n : NodeId) → x ≡ Some n → bind_is x n ≡ true
bind_told x n e = ap (λ (y : Option NodeId). bind_is y n) e ∙ node_same n true (λ (m : NodeId). false)

-- the row is one in its scope
abbrev scope_is : Option Row → NodeId → Bool
scope_is None n = false
scope_is (Some r) n = bind_is r.scope n

scope_found : (x : Option Row) (n : NodeId) → scope_is x n ≡ true → (r : Row) × (x ≡ Some r) × (r.scope ≡ Some n)
scope_found None n h = absurd (cc)
scope_found (Some r) n h = (r, refl, bind_found r.scope n h)

either : (b c : Bool) → cond b true c ≡ true → (b ≡ true) ⊎ (c ≡ true)
either true c h = inl refl
either false c h = inr h

left_true : (b c : Bool) → b ≡ true → cond b true c ≡ true
left_true b c e = rw e refl

right_true : (b c : Bool) → c ≡ true → cond b true c ≡ true
right_true true c e = refl
right_true false c e = e

module _ (s : State) (n : NodeId) where
  -- it is its node's main, without its right side
  abbrev is_own : Point → Bool
  is_own a = at_point (main n) (is_static (s.stage (main n))) nowhere a

  -- it is in its scope, with its gate's link alone
  abbrev is_scoped : Point → Bool
  is_scoped a = scope_is (s.graph.row a.node) n && is_gated (s.stage a)

  abbrev waits : Point → Bool
  waits a = s.needed a && cond (is_own a) true (is_scoped a)

  own_awaits : (a : Point) → is_own a ≡ true → (a ≡ main n) × (s.stage a ≡ machine.Static)
  own_awaits a t = elim (same_or_other (main n) a) [
    | inl h ↦
        let b : is_static (s.stage (main n)) ≡ true = sym (at_same (main n) (is_static (s.stage (main n))) nowhere)
        ∙ subst (λ (x : Point). is_own x ≡ true) (sym h) t in
        (sym h, subst (λ (x : Point). s.stage x ≡ machine.Static) h (static_is (s.stage (main n)) b))
    | inr ne ↦ absurd (let f = at_other (main n) (is_static (s.stage (main n))) nowhere a ne in let x : true ≡ false = sym t ∙ f in cc)
  ]

  pub woken_awaits : (a : Point) → waits a ≡ true → Awaits s n a
  woken_awaits a h =
      let k = and_parts (s.needed a) (cond (is_own a) true (is_scoped a)) h in (
        k.0,
        elim (either (is_own a) (is_scoped a) k.1) [
          | inl o ↦ inl (own_awaits a o)
          | inr c ↦
              let both = and_parts (scope_is (s.graph.row a.node) n) (is_gated (s.stage a)) c in
              let f = scope_found (s.graph.row a.node) n both.0 in
              inr (f.0, f.1, f.2, gated_is (s.stage a) both.1)
        ],
      )

  pub awaits_woken : (a : Point) → Awaits s n a → waits a ≡ true
  awaits_woken a w = and_from (s.needed a) (cond (is_own a) true (is_scoped a)) w.0 (elim w.1 [
    | inl k ↦ left_true (is_own a) (is_scoped a) (subst (λ (x : Point). is_own x ≡ true) (sym k.0)
        (at_same (main n) (is_static (s.stage (main n))) nowhere ∙ ap is_static (subst (λ (x : Point). s.stage x ≡ machine.Static) k.0 k.1)))
    | inr k ↦ right_true (is_own a) (is_scoped a) (and_from (scope_is (s.graph.row a.node) n) (is_gated (s.stage a))
        (ap (λ (x : Option Row). scope_is x n) k.1 ∙ bind_told k.0.scope n k.2) (ap is_gated k.3))
  ])

-- ---- the parts stand for the state in which the change is settled

module _ (s : State) (arena : Arena) (old new : Work) (counts : Counts) (st : MatchesState arena old counts None s) (n : NodeId) (given : Outcome)
    (idle : s.owed (main n) ≡ []) (there : Holds old.rows (change n)) (run : IsRunOn old new n given) (same : graph_at arena new ≡ graph_at arena old)
    (listed : (a : Point) → waits s n a ≡ true → Among a new.todo.items ⊎ (a ≡ main n)) where
  pub run_stands : MatchesState arena new counts (Some (hand (main n) [])) (changed s n given (waits s n))
  run_stands =
      let settles : LeavesSettled old new n given = assumption (run, run.round) in
      settled_stands s arena old new counts st n given idle there settles s.graph (st.graph ∙ sym same) (waits s n) listed

-- ---- a main that was detached, whatever the worklist

detached_frame : (old : Work) (g : NecessaryPart) (todo : Work) (mid : Work) (n : NodeId) (right : Option NodeId)
    → IsDetached (record old { graph = g; todo = todo.todo }) mid n right → IsDetached (record old { graph = g }) (record mid { todo = old.todo }) n right
detached_frame old g todo mid n right l = record {
  rows = l.rows;
  mid = record l.mid { todo = old.todo };
  enqueued = assumption (l.enqueued);
  rest = ap (λ (w : Work). record w { todo = old.todo }) l.rest;
  off = l.off;
  last = ap (λ (w : Work). record w { todo = old.todo }) l.last;
}

-- ---- the change turns

module _ (M : Meaning) (old turned : Parts) (n : NodeId) (counts : Counts) (all : PartsKept old) (idle : old.work.todo.items ≡ [])
    (only : turned ≡ record old { work = turned.work }) (m : ChangeIsTurned old.arena old.work turned.work n) (z : Start) (s : State)
    (begun : IsRoundOf M z s) (quiet : Quiet s) (before : StandsBefore old counts s n) where
  abbrev F : Functions
  F = M.functions

  abbrev arena : Arena
  arena = old.arena

  abbrev g : NecessaryPart
  g = old.work.graph

  inv : Invariant F z s
  inv = begun.holds

  kept : IsKept arena old.work
  kept = all.work

  b : TakesLeast before.work old.work (change n)
  b = before.taken

  two : IsSome (subject_of m.row.def)
  two = ap is_some m.is_subject

  own_row : Holds old.work.rows (change n)
  own_row = kept.rows (change n) ∙ (ap (λ (x : Option Row). has_part x Change) m.is_row ∙ two)

  own_in : s.heap (change n) ≡ true
  own_in = before.stands.heap (change n) ∙ b.held

  own_need : Needed g (change n)
  own_need = needed_now before.work.graph g (heap_graph arena before.work g b.graph) (change n)
      ((before.stands.needed (change n)).0 (inv.web.heap (change n) own_in))

  -- ---- with the change in the heap

  abbrev top : ℕ
  top = level g.heights (change n)

  abbrev whole : Work
  whole = with_change old.work n

  put_in : Changes g.heap whole.graph.heap (change n) (Some top)
  put_in = put_changes g.heap (change n) top

  whole_kept : IsKept arena whole
  whole_kept = back_kept arena old.work whole.graph refl (change n) kept own_need own_row
      (record { changed = put_in.changed ∙ sym (has_level (at g.heights (change n)) (kept.step.there (change n) own_need)); others = put_in.others })

  st : MatchesState arena whole counts None s
  st = before_stands arena before.work old.work n counts s b before.stands

  whole_in : Holds whole.graph.heap (change n)
  whole_in = ap is_some put_in.changed

  taken_out : Changes whole.graph.heap g.heap (change n) None
  taken_out = record { changed = b.heap.changed; others = λ a ne. sym (put_in.others a ne) }

  lowest : IsLowest whole.graph.heap (level whole.graph.heights (change n))
  lowest a k e = elim (same_or_other a (change n)) [
    | inl is ↦
        let same : ◌≡◌ {A = Option ℕ} (Some top) (Some k) = sym put_in.changed ∙ subst (λ (x : Point). at whole.graph.heap x ≡ Some k) is e in
        let h = same_Some top k same in omega (arith, h)
    | inr ne ↦
        let l = b.least a k (sym (b.heap.others a ne) ∙ (sym (put_in.others a ne) ∙ e)) in
        let h = ap (λ (x : NecessaryPart). level x.heights (change n)) b.graph in omega (arith, l, h)
  ]

  least : IsLeast s (change n)
  least = is_least s arena whole counts whole_kept st (change n) whole_in lowest

  -- ---- what its subject shows

  subject_known : (o : Outcome) × (shown s.graph s.out (main m.subject) ≡ Some o)
  subject_known = reads_known s arena whole counts whole_kept st F z inv quiet (change n) least m.row m.is_row m.subject
      (subst (λ (x : Option NodeId). Among (main m.subject) (change_reads x)) (sym m.is_subject) (inl refl))

  seen_now : shown s.graph s.out (main m.subject) ≡ Some m.given
  seen_now = elim m.sees [
    | inl e ↦ sees s arena whole counts whole_kept st m.subject ∙ e
    | inr none ↦ absurd (none-some subject_known.0 (sym none.0 ∙ (sym (sees s arena whole counts whole_kept st m.subject) ∙ subject_known.1)))
  ]

  -- ---- the state in which it is settled

  t : HasTurned (record old.work { todo = m.woken.todo }) turned.work n (right_in old.work.rows old.work.roots n m.row.def) m.given
  t = subst (λ (w : Work). HasTurned w turned.work n (right_in old.work.rows old.work.roots n m.row.def) m.given) m.wakes.rest m.turned

  graph_last : turned.work.graph ≡ t.mid.graph
  graph_last = ap (λ (w : Work). w.graph) t.rest

  round_last : KeepsRound t.mid turned.work
  round_last = record {
    roots = ap (λ (w : Work). w.roots) t.rest;
    deaths = ap (λ (w : Work). w.deaths) t.rest;
    ran = ap (λ (w : Work). w.ran) t.rest;
    retries = ap (λ (w : Work). w.retries) t.rest;
    round = ap (λ (w : Work). w.round) t.rest;
    experts = ap (λ (w : Work). w.experts) t.rest;
  }

  todo_last : turned.work.todo.items ≡ m.woken.todo.items
  todo_last = ap (λ (w : Work). w.todo.items) t.rest ∙ elim t.turned [
    | inl k ↦ ap (λ (w : Work). w.todo.items) k.0
    | inr k ↦ ap (λ (w : Work). w.todo.items) k.0.last ∙ ap (λ (w : Work). w.todo.items) k.0.rest
  ]

  made_ready : IsMadeReady F z s arena whole turned.work counts n m.given
  made_ready = elim t.turned [
    | inl k ↦ ready_same arena whole turned.work g n m.row m.given whole_kept m.is_row two refl taken_out
        (subst (λ (w : Work). IsRewritten w.rows turned.work.rows (change n) (with_outcome m.given old.work.round)) k.0 t.rows)
        (graph_last ∙ ap (λ (w : Work). w.graph) k.0)
        (record {
          roots = round_last.roots ∙ ap (λ (w : Work). w.roots) k.0;
          deaths = round_last.deaths ∙ ap (λ (w : Work). w.deaths) k.0;
          ran = round_last.ran ∙ ap (λ (w : Work). w.ran) k.0;
          retries = round_last.retries ∙ ap (λ (w : Work). w.retries) k.0;
          round = round_last.round ∙ ap (λ (w : Work). w.round) k.0;
          experts = round_last.experts ∙ ap (λ (w : Work). w.experts) k.0;
        })
        F z s counts st (elim k.1 [ inl e ↦ inl e | inr not ↦ inr (λ a. not (record { needed = a.needed; stage = a.stage })) ]) idle least
    | inr k ↦ ready_loose arena whole (record t.mid { todo = old.work.todo }) g n m.row m.subject whole_kept m.is_row m.is_subject whole_in refl taken_out
        (record { needed = k.1.needed; stage = k.1.stage })
        (detached_frame whole g m.woken t.mid n (right_in old.work.rows old.work.roots n m.row.def) k.0)
        F z s counts inv st m.given seen_now k.2 turned.work t.rows graph_last
        (record {
          roots = round_last.roots;
          deaths = round_last.deaths;
          ran = round_last.ran;
          retries = round_last.retries;
          round = round_last.round;
          experts = round_last.experts;
        })
        idle least
  ]

  abbrev k : IsMadeReady F z s arena whole turned.work counts n m.given
  k = made_ready

  abbrev r : State
  r = k.state

  there : Holds k.work.rows (change n)
  there = ap is_some k.own ∙ own_row

  r_inv : Invariant F z r
  r_inv = moves_keep F z s r (off_moves F z s r k.prepared) inv

  r_quiet : Quiet r
  r_quiet = quiet_of arena k.work counts r k.stands k.idle

  r_row : r.graph.row n ≡ Some m.row
  r_row = ap (λ (G : Graph). G.row n) k.keeps.graph ∙ (row_is s arena whole counts whole_kept st n ∙ m.is_row)

  r_seen : shown r.graph r.out (main m.subject) ≡ Some m.given
  r_seen = subst (λ (o : Point → Option Outcome). shown r.graph o (main m.subject) ≡ Some m.given) (sym k.keeps.out)
      (subst (λ (G : Graph). shown G s.out (main m.subject) ≡ Some m.given) (sym k.keeps.graph) seen_now)

  -- a bind is built for what its change ran with, and ran with this
  r_built : IsBuilt F r.graph n m.row.def m.given
  r_built = by_def m.row.def refl
    where
      by_def : (d : Def) → m.row.def ≡ d → IsBuilt F r.graph n d m.given
      by_def (graph.Bind l f caps) e = subst (λ (d : Def). IsBuilt F r.graph n d m.given) e (r_inv.built n m.row m.given r_row
          (ap (λ (o : Point → Option Outcome). o (change n)) k.keeps.out
          ∙ (change_is s arena whole counts whole_kept st n m.row m.is_row two ∙ m.built l f caps e)))
      by_def d e = tt

  graph_same : graph_at arena turned.work ≡ graph_at arena k.work
  graph_same = graph_run arena k.work turned.work n m.given k.work.round k.run.rows k.run.round.roots k.run.round.experts (λ x l f caps row is.
      let same : m.row ≡ x = same_Some m.row x (sym m.is_row ∙ row) in
      ap outcome_in k.own ∙ m.built l f caps (ap (λ (y : Row). y.def) same ∙ is))

  -- ---- what waits for it is in the worklist

  code_gated : (x : Option Progress) (a : Point) → at k.work.rows a ≡ x → is_some x ≡ true → r.stage a ≡ machine.Gated → stage_in x ≡ Some code.Gated
  code_gated None a e there' f = absurd (cc)
  code_gated (Some p) a e there' f = ap (λ (y : CodeStage). Some y) (gated_of p.stage (sym (k.stands.stage a p e) ∙ f))
    where
      gated_of : (y : CodeStage) → stage_of y ≡ machine.Gated → y ≡ code.Gated
      gated_of code.Bare q = absurd (cc)
      gated_of code.Gated q = refl
      gated_of code.Static q = absurd (cc)
      gated_of code.Full q = absurd (cc)

  module _ (a : Point) (need : r.needed a ≡ true) (x : Row) (row : r.graph.row a.node ≡ Some x) (scope : x.scope ≡ Some n) (stage : r.stage a ≡ machine.Gated) where
    row_a : row_at arena a.node ≡ Some x
    row_a = sym (ap (λ (G : Graph). G.row a.node) k.stands.graph) ∙ row

    planned_is : planned r a ≡ change n ∷ []
    planned_is = ap (λ (y : Option Row). plan_at r.graph r.out r.died a y (r.stage a)) row
        ∙ (ap (λ (y : Stage). plan_at r.graph r.out r.died a (Some x) y) stage ∙ ap gate_of scope)

    reads : Reads old.work.graph.links a (change n)
    reads =
        let l = r_inv.rows.links a (change n) need in
        let o : count (change n) (r.owed a) ≡ 0 = ap (count (change n)) (r_inv.rows.owed a (r_quiet a)) in
        let p : count (change n) (planned r a) ≡ one (change n) (change n) + 0 = ap (count (change n)) planned_is in
        let w = one_same (change n) in
        let h = k.stands.links a (change n) in
        let f = k.fewer a (change n) in
        omega (arith, l, o, p, w, h, f)

    rowed : is_some (at k.work.rows a) ≡ true
    rowed = k.rowed a ∙ live_rowed arena whole a x whole_kept (k.needed a ((k.stands.needed a).0 need)) row_a

    waiting : WaitsFor old.work a (change n)
    waiting = record { reads = reads; stage = k.gated a (code_gated (at k.work.rows a) a refl rowed stage) }

  listed : (a : Point) → waits r n a ≡ true → Among a turned.work.todo.items ⊎ (a ≡ main n)
  listed a h =
      let w = woken_awaits r n a h in
      elim w.1 [
        | inl own ↦ inr own.0
        | inr c ↦ inl (subst (λ (xs : List Point). Among a xs) (sym todo_last) ((m.wakes.listed a).1 (waiting a w.0 c.0 c.1 c.2 c.3)))
      ]

  abbrev after : State
  after = changed r n m.given (waits r n)

  made : StepChange F r n m.given (waits r n)
  made = record {
    row = m.row;
    subject = m.subject;
    is_row = r_row;
    is_subject = m.is_subject;
    taken = k.least;
    seen = r_seen;
    built = r_built;
    right = k.right;
    woken = woken_awaits r n;
    wakes = awaits_woken r n;
  }

  abbrev it : Move F z r after
  it = move.step_change r_quiet made refl

  -- its own main doesn't stand in its scope
  only_static : Awaits r n (main n) → r.stage (main n) ≡ machine.Static
  only_static w = elim w.1 [
    | inl own ↦ own.1
    | inr c ↦ absurd (let low = whole_kept.older n n c.0 (sym (ap (λ (G : Graph). G.row n) k.stands.graph) ∙ c.1) c.2 in omega (arith, low))
  ]

  scope_stands : (x : Row) → row_at arena n ≡ Some x → ScopeStands F r.graph x.scope
  scope_stands x row =
      let ok = ready F z r r_inv r_quiet (change n) k.least in
      let same : ok.row ≡ x = same_Some ok.row x (sym ok.is_row ∙ (ap (λ (G : Graph). G.row n) k.stands.graph ∙ row)) in
      subst (λ (y : Row). ScopeStands F r.graph y.scope) same ok.stands

  in_turn : IsTurnedIn F z after arena turned.work counts n
  in_turn = record {
    holds = moves_keep F z r after (step it here) r_inv;
    taken = refl;
    scope = scope_stands;
    stands = run_stands r arena k.work turned.work counts k.stands n m.given (r_inv.rows.owed (main n) (r_quiet (main n))) there k.run graph_same listed;
    only = λ h. let w = woken_awaits r n (main n) h in (w.0, only_static w);
    wakes = λ need stage. awaits_woken r n (main n) (need, inl (refl, stage));
    unlinked = λ a h need. let w = woken_awaits r n a h in elim w.1 [ inl own ↦ inr (inr (inl own.0)) | inr c ↦ inr (inl c.3) ];
  }

  turns_so : (r' t' : State) × Reaches (Preparing F z (change n)) s r' × (x : Move F z r' t') × Settles (change n) x
      × IsTurnedIn F z t' turned.arena turned.work counts n × (s.settled (change n) ≡ true → r' ≡ s)
  turns_so = (
    r,
    after,
    off_prepares F z (change n) s r k.prepared,
    it,
    refl,
    subst (λ (x : Arena). IsTurnedIn F z after x turned.work counts n) (sym (ap (λ (x : Parts). x.arena) only)) in_turn,
    k.again,
  )

-- so it is from each state of a round in which the change was taken: moves prepare it, one settles it, and where it was settled before none prepares it
pub turned_moves : (M : Meaning) (old turned : Parts) (n : NodeId) (counts : Counts) → PartsKept old → old.work.todo.items ≡ []
    → turned ≡ record old { work = turned.work } → ChangeIsTurned old.arena old.work turned.work n
    → (z : Start) (s : State) → IsRoundOf M z s → Quiet s → StandsBefore old counts s n
    → (first next : State) × Reaches (Preparing M.functions z (change n)) s first × (m : Move M.functions z first next) × Settles (change n) m
    × IsTurnedIn M.functions z next turned.arena turned.work counts n × (s.settled (change n) ≡ true → first ≡ s)
turned_moves M old turned n counts all idle only m z s begun quiet before = turns_so M old turned n counts all idle only m z s begun quiet before
