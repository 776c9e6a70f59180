-- Rows that keep all but their stages, and experts that read what they read: what the work keeps then, and what a state shows of it.
use Rattle.std.proofs.Common.{◌≡◌, ◌⊎◌, inl, inr, ℕ, Bool, true, List, Option, None, Some, refl, sym, ap, subst, ◌∙◌, arith, Vec, Global}
use Rattle.std.specs.Prelude.{◌≤◌, is_some, option_map, reverse, vec_capacity, ◌↔◌, ◌==◌}
use Rattle.std.proofs.lemmas.Option.{none-some, same_Some}
use Rattle.inc_value.specs.declared.node.NodeId.{NodeId}
use Rattle.inc_value.specs.declared.node.Point.{Point}
use Rattle.inc_value.specs.Choice.{Among, Every}
use Rattle.inc_terms.specs.Depend.{main, change, right_of}
use Rattle.inc_terms.specs.Graph.{Graph}
use Rattle.inc_terms.specs.Within.{Given}
use Rattle.point_map.specs.Rows.{Rows, at, Holds, KeepsRows}
use Rattle.link_table.specs.Links.{times, Reads, KeepsLinks}
use Rattle.necessity.specs.Need.{root_times, KeepsRoots}
use Rattle.height_order.specs.Levels.{level, KeepsPoints}
use Rattle.necessary_graph.specs.Part.{NecessaryPart, Needed, IsInStep}
use Rattle.node_arena.specs.Arena.{Arena, live, row_at}
use Rattle.node_arena.specs.Graph.{graph_of}
use Rattle.node_arena.specs.Typing.{FoldTakes}
use Rattle.expert_nodes.specs.Experts.{ExpertPlace, fresh_at}
use Rattle.stabilize_round.specs.Freezing.{found}
use Rattle.stabilize_round.specs.State as machine
use Rattle.stabilize_round.specs.State.{Call, State, at_point}
use Rattle.stabilize_round.proofs.Points.{same_or_other, at_same, at_other}
use Rattle.node_outcomes.specs.Row.{IsRewritten, kept_by, kept_in, with_stage, settled_in, outcome_in, stage_in, stage_of}
use Rattle.node_outcomes.specs.Progress.{Progress}
use Rattle.node_outcomes.specs.declared.row.Stage.{Stage}
use Rattle.node_outcomes.specs.declared.row.Stage.TheVariants as code
use Rattle.wiring.specs.Graph.{graph_at}
use Rattle.wiring.specs.Experts.{ReadSame}
use Rattle.wiring.specs.Kept.{HasFired, IsKept}
use Rattle.wiring.specs.Stands.{MatchesState, StandsWith, PointInHand, hand, IsInHand, Counts, counts_of, debts, owed_in, owes}
use Rattle.wiring.specs.Wiring.{KeepsRound, KeepsLists, MayRead, ShowsSame}
use Rattle.wiring.specs.declared.work.Work.{Work}
use Rattle.wiring.proofs.Deciding.{same_need}
use Rattle.wiring.proofs.Owing.{owed_same, owed_taken, owes_same}
use Rattle.wiring.proofs.Reading.{read_as, read_still, read_then}
use Rattle.wiring.proofs.Holding.{held_same, died_same, links_same, root_same, pairs_same, scoped_same}

-- ---- rows

-- what a rewritten row keeps
pub record IsBefore (old : Rows Progress) (a : Point) (k : Progress) : Type 0 where
  pub row : Progress
  pub was : at old a ≡ Some row
  pub outcome : k.outcome ≡ row.outcome
  pub last : k.last ≡ row.last
  pub cutoff : k.cutoff ≡ row.cutoff
  pub settled : k.settled ≡ row.settled
  pub frozen : k.frozen ≡ row.frozen
  pub room : k.room ≡ row.room

-- a row that stays keeps it
pub same_before : (old : Rows Progress) (a : Point) (k : Progress) → at old a ≡ Some k → IsBefore old a k
same_before old a k e = record { row = k; was = e; outcome = refl; last = refl; cutoff = refl; settled = refl; frozen = refl; room = refl }

mapped : (x : Option Progress) (st : Stage) (k : Progress) → option_map (with_stage st) x ≡ Some k
    → (row : Progress) × (x ≡ Some row) × (k ≡ with_stage st row)
mapped None st k e = absurd (none-some k e)
mapped (Some row) st k e = (row, refl, sym (same_Some (with_stage st row) k e))

-- what the machine's stage tells
pub stage_same : (x y : Stage) → stage_of x ≡ stage_of y → x ≡ y
stage_same code.Bare code.Bare e = refl
stage_same code.Gated code.Gated e = refl
stage_same code.Static code.Static e = refl
stage_same code.Full code.Full e = refl
stage_same _ _ e = absurd (cc)

is_some_mapped : (f : Progress → Progress) (x : Option Progress) → is_some (option_map f x) ≡ is_some x
is_some_mapped f None = refl
is_some_mapped f (Some k) = refl

-- rows stay where they are
pub rewritten_there : (old new : Rows Progress) (q : Point) (f : Progress → Progress) → IsRewritten old new q f
    → (a : Point) → is_some (at new a) ≡ is_some (at old a)
rewritten_there old new q f w a = elim (same_or_other q a) [
  | inl e ↦ subst (λ (x : Point). is_some (at new x) ≡ is_some (at old x)) e (ap is_some w.changed ∙ is_some_mapped f (at old q))
  | inr ne ↦ ap is_some (w.others a (λ h. ne (sym h)))
]

module _ (old new : Rows Progress) (q : Point) (st : Stage) (w : IsRewritten old new q (with_stage st)) where
  pub row_before : (a : Point) (k : Progress) → at new a ≡ Some k → IsBefore old a k
  row_before a k e = elim (same_or_other q a) [
    | inl same ↦
        let here : at new q ≡ Some k = subst (λ (x : Point). at new x ≡ Some k) (sym same) e in
        let m = mapped (at old q) st k (sym w.changed ∙ here) in
        record {
          row = m.0;
          was = subst (λ (x : Point). at old x ≡ Some m.0) same m.1;
          outcome = ap (λ (x : Progress). x.outcome) m.2;
          last = ap (λ (x : Progress). x.last) m.2;
          cutoff = ap (λ (x : Progress). x.cutoff) m.2;
          settled = ap (λ (x : Progress). x.settled) m.2;
          frozen = ap (λ (x : Progress). x.frozen) m.2;
          room = ap (λ (x : Progress). x.room) m.2;
        }
    | inr ne ↦ same_before old a k (sym (w.others a (λ h. ne (sym h))) ∙ e)
  ]

  pub stage_now : (stage : Point → machine.Stage) → ((a : Point) (k : Progress) → at old a ≡ Some k → stage a ≡ stage_of k.stage)
      → (a : Point) (k : Progress) → at new a ≡ Some k → at_point q (stage_of st) stage a ≡ stage_of k.stage
  stage_now stage so a k e = elim (same_or_other q a) [
    | inl same ↦
        let here : at new q ≡ Some k = subst (λ (x : Point). at new x ≡ Some k) (sym same) e in
        let m = mapped (at old q) st k (sym w.changed ∙ here) in
        subst (λ (x : Point). at_point q (stage_of st) stage x ≡ stage_of k.stage) same
        (at_same q (stage_of st) stage ∙ sym (ap (λ (x : Progress). stage_of x.stage) m.2))
    | inr ne ↦ at_other q (stage_of st) stage a ne ∙ so a k (sym (w.others a (λ h. ne (sym h))) ∙ e)
  ]

-- ---- what is beside the graph

-- rows keep all but their stages, and experts read what they read; what binds are built for, who died in the round, its number, and who is listed stay
pub record KeepsMost (old new : Work) : Type 0 where
  pub rows : (a : Point) (k : Progress) → at new.rows a ≡ Some k → IsBefore old.rows a k
  pub held : (a : Point) → is_some (at new.rows a) ≡ is_some (at old.rows a)
  pub roots : new.roots ≡ old.roots
  pub deaths : new.deaths ≡ old.deaths
  pub ran : new.ran ≡ old.ran
  pub round : new.round ≡ old.round
  pub lists : KeepsLists old new
  pub experts : ReadSame old.experts new.experts

-- where all rows stay
pub most_still : (old new : Work) → KeepsRows old.rows new.rows → KeepsLists old new → KeepsRound old new → KeepsMost old new
most_still old new rows lists round = record {
  rows = λ a k e. same_before old.rows a k (sym (rows a) ∙ e);
  held = λ a. ap is_some (rows a);
  roots = round.roots;
  deaths = round.deaths;
  ran = round.ran;
  round = round.round;
  lists = lists;
  experts = read_as old.experts new.experts round.experts;
}

-- where one has another stage
pub most_staged : (old new : Work) (q : Point) (st : Stage) → IsRewritten old.rows new.rows q (with_stage st) → KeepsLists old new → KeepsRound old new
    → KeepsMost old new
most_staged old new q st w lists round = record {
  rows = row_before old.rows new.rows q st w;
  held = rewritten_there old.rows new.rows q (with_stage st) w;
  roots = round.roots;
  deaths = round.deaths;
  ran = round.ran;
  round = round.round;
  lists = lists;
  experts = read_as old.experts new.experts round.experts;
}

-- just the graph, rows, the worklist and how many links may be tried again are others
pub round_same : (work : Work) (graph : NecessaryPart) (rows : Rows Progress) (todo : Vec Point Global)
    → KeepsRound work (record work { graph = graph; rows = rows; todo = todo })
round_same work graph rows todo = record { roots = refl; deaths = refl; ran = refl; retries = refl; round = refl; experts = refl }

pub most_same : (work : Work) (graph : NecessaryPart) (todo : Vec Point Global) (left : ℕ)
    → KeepsMost work (record work { graph = graph; todo = todo; retries = left })
most_same work graph todo left = record {
  rows = λ a k e. same_before work.rows a k e;
  held = λ a. refl;
  roots = refl;
  deaths = refl;
  ran = refl;
  round = refl;
  lists = record { pairs = refl; scoped = refl };
  experts = read_still work.experts;
}

pub most_then : (old mid new : Work) → KeepsMost old mid → KeepsMost mid new → KeepsMost old new
most_then old mid new first next = record {
  rows = λ a k e.
      let b = next.rows a k e in
      let c = first.rows a b.row b.was in
      record {
        row = c.row;
        was = c.was;
        outcome = b.outcome ∙ c.outcome;
        last = b.last ∙ c.last;
        cutoff = b.cutoff ∙ c.cutoff;
        settled = b.settled ∙ c.settled;
        frozen = b.frozen ∙ c.frozen;
        room = b.room ∙ c.room;
      };
  held = λ a. next.held a ∙ first.held a;
  roots = next.roots ∙ first.roots;
  deaths = next.deaths ∙ first.deaths;
  ran = next.ran ∙ first.ran;
  round = next.round ∙ first.round;
  lists = record { pairs = next.lists.pairs ∙ first.lists.pairs; scoped = next.lists.scoped ∙ first.lists.scoped };
  experts = read_then old.experts mid.experts new.experts first.experts next.experts;
}

module _ (old new : Work) (rest : new ≡ record old { graph = new.graph; rows = new.rows }) where
  pub rest_lists : KeepsLists old new
  rest_lists = record { pairs = ap (λ (w : Work). w.pairs) rest; scoped = ap (λ (w : Work). w.scoped) rest }

  pub rest_round : KeepsRound old new
  rest_round = record {
    roots = ap (λ (w : Work). w.roots) rest;
    deaths = ap (λ (w : Work). w.deaths) rest;
    ran = ap (λ (w : Work). w.ran) rest;
    retries = ap (λ (w : Work). w.retries) rest;
    round = ap (λ (w : Work). w.round) rest;
    experts = ap (λ (w : Work). w.experts) rest;
  }

-- ---- a graph that fits rows which are where they were

pub record FitsRows (arena : Arena) (old new : Work) : Type 0 where
  pub step : IsInStep new.graph
  pub leaves : (a : Point) → Holds new.graph.heights a → Holds old.rows a ⊎ ((row_at arena a.node ≡ None) × Needed new.graph a)
  pub there : (a : Point) → Holds old.rows a → Holds new.graph.heights a
  pub given : (a : Point) → Holds new.graph.heights a → Given arena.given a.node
  pub links : (a b : Point) → Reads new.graph.links a b → MayRead old a b
  pub heap : (a : Point) → Holds new.graph.heap a → Holds old.rows a

-- ---- states

-- another state in links, roots, need, heights, the heap, stages, what is owed, the worklist and how many links may be tried again
abbrev pub IsBeside : State → State → Type 0
IsBeside s t = t ≡ record s {
  links = t.links;
  root = t.root;
  needed = t.needed;
  height = t.height;
  heap = t.heap;
  stage = t.stage;
  owed = t.owed;
  todo = t.todo;
  retries = t.retries;
}

-- these are the work's
pub record ShowsLinks (IsNeeded : Point → Type 0) (work : Work) (held : Option PointInHand) (s : State) : Type 0 where
  pub links : (p q : Point) → s.links p q ≡ times work.graph.links p q
  pub root : (p : Point) → s.root p ≡ root_times work.graph.roots p
  pub needed : (p : Point) → (s.needed p ≡ true) ↔ IsNeeded p
  pub height : (p : Point) → IsNeeded p → s.height p ≡ level work.graph.heights p
  pub heap : (p : Point) → s.heap p ≡ is_some (at work.graph.heap p)
  pub stage : (p : Point) (k : Progress) → at work.rows p ≡ Some k → s.stage p ≡ stage_of k.stage
  pub owed : (p : Point) → s.owed p ≡ owed_in (debts work s.needed) held p
  pub todo : (p : Point) → s.todo p ≡ true → Among p work.todo.items ⊎ IsInHand held p
  pub retries : s.retries ≡ work.retries

-- ---- what stays

-- a freeze that keeps a value keeps it while its last call stays
pub fired_still : (arena : Arena) (n : NodeId) (before now : Progress) → HasFired arena n before → now.last ≡ before.last → HasFired arena n now
fired_still arena n before now fired last =
    record { row = fired.row; is_row = fired.is_row; is_freeze = fired.is_freeze; value = fired.value; last = ap found last ∙ fired.last }

module _ (old new : Work) (most : KeepsMost old new) where
  by_row : {A : Type 0} (f : Option Progress → A) (a : Point) → ((k : Progress) (b : IsBefore old.rows a k) → f (Some k) ≡ f (Some b.row))
      → f (at new.rows a) ≡ f (at old.rows a)
  by_row f a each = by (at new.rows a) (at old.rows a) refl refl (most.held a)
    where
      by : (x y : Option Progress) → at new.rows a ≡ x → at old.rows a ≡ y → is_some x ≡ is_some y → f x ≡ f y
      by None None e e' h = refl
      by None (Some k) e e' h = absurd (cc)
      by (Some k) y e e' h = let b = most.rows a k e in each k b ∙ ap f (sym b.was ∙ e')

  pub most_outcome : (a : Point) → outcome_in (at new.rows a) ≡ outcome_in (at old.rows a)
  most_outcome a = by_row outcome_in a (λ k b. b.outcome)

  pub most_settled : (a : Point) → settled_in new.round (at new.rows a) ≡ settled_in old.round (at old.rows a)
  most_settled a = ap (λ (n : ℕ). settled_in n (at new.rows a)) most.round
      ∙ by_row (settled_in old.round) a (λ k b. ap (λ (n : ℕ). n == old.round) b.settled)

  -- so is the value that a freeze keeps
  pub most_frozen : (a : Point) → kept_in (at new.rows a) ≡ kept_in (at old.rows a)
  most_frozen a = by_row kept_in a (λ k b. ap (λ (c : Option Call). kept_by k.frozen c) b.last ∙ ap (λ (f : Bool). kept_by f b.row.last) b.frozen)

  pub most_graph : (arena : Arena) → graph_at arena new ≡ graph_at arena old
  most_graph arena = ap (graph_of arena) (held_same arena old new (λ n. most_outcome (change n)) most.roots (λ n. most_frozen (main n)) most.experts.kids)

  module _ (arena : Arena) (k : IsKept arena old) where
    -- where the graph fits the rows all is kept that was
    pub most_kept : FitsRows arena old new → IsKept arena new
    most_kept f = record {
      step = f.step;
      rows = λ a. most.held a ∙ k.rows a;
      leaves = λ a h. elim (f.leaves a h) [ inl row ↦ inl (most.held a ∙ row) | inr dead ↦ inr dead ];
      there = λ a h. f.there a (sym (most.held a) ∙ h);
      given = f.given;
      links = λ a b l. links_same old new most.held most.deaths a b (f.links a b l);
      heap = λ a h. most.held a ∙ f.heap a h;
      dead = λ n b e. k.dead n b (sym (died_same old new most.deaths n) ∙ e);
      sound = k.sound;
      scopes = k.scopes;
      older = k.older;
      outcomes = λ n r w v row e o. let b = most.rows (main n) w e in k.outcomes n r b.row v row b.was (sym b.outcome ∙ o);
      rights = λ n m r w o row e out right. let b = most.rows (change n) w e in
          k.rights n m r b.row o row b.was (sym b.outcome ∙ out) (subst (λ (G : Graph). right_of G n r.def o ≡ Some m) (most_graph arena) right);
      roots = λ n h. let v = k.roots n (root_same old new most.roots (change n) h) in (v.0, most_outcome (change n) ∙ v.1);
      binds = λ n r row h. k.binds n r row (root_same old new most.roots (change n) h);
      calls = λ n r w c row e l. let b = most.rows (main n) w e in k.calls n r b.row c row b.was (sym b.last ∙ l);
      rounds = λ a w e. let b = most.rows a w e in let r = k.rounds a b.row b.was in let s = b.settled in let q = most.round in omega (arith, r, s, q);
      pairs = λ n r row some. pairs_same old new most.lists n (k.pairs n r row some);
      scoped = λ n r row some. scoped_same old new most.lists n (k.scoped n r row some);
      experts = λ n. most.experts.there n ∙ k.experts n;
      listed = λ n. subst (λ (ns : List NodeId). Every (Given arena.given) ns) (sym (most.experts.kids n)) (k.listed n);
      lists = λ n r f v ns row is. subst (λ (xs : List NodeId). FoldTakes arena r.ty xs f.sig.takes) (sym (most.experts.kids n)) (k.lists n r f v ns row is);
      tops = k.tops;
      frozen = λ n w e on. let b = most.rows (main n) w e in fired_still arena n b.row w (k.frozen n b.row b.was (sym b.frozen ∙ on)) b.last;
      rooms = record {
        calls = λ n r w row e. let b = most.rows (main n) w e in let x = k.rooms.calls n r b.row row b.was in let y = b.room in omega (arith, x, y);
        ran = subst (λ (v : Vec NodeId Global). live arena ≤ vec_capacity v) (sym most.ran) k.rooms.ran;
      };
    }

    -- so it is where the same points are there, who reads another did, and who was needed is
    pub most_kept_there : IsInStep new.graph → KeepsPoints old.graph.heights new.graph.heights
        → ((a : Point) → Needed old.graph a → Needed new.graph a) → ((a b : Point) → Reads new.graph.links a b → Reads old.graph.links a b)
        → ((a : Point) → Holds new.graph.heap a → Holds old.rows a) → IsKept arena new
    most_kept_there step heights needs reads heap = most_kept (record {
      step = step;
      leaves = λ a h. elim (k.leaves a (sym (heights a) ∙ h)) [ inl row ↦ inl row | inr d ↦ inr (d.0, needs a d.1) ];
      there = λ a h. heights a ∙ k.there a h;
      given = λ a h. k.given a (sym (heights a) ∙ h);
      links = λ a b l. k.links a b (reads a b l);
      heap = heap;
    })

  -- a state stands that is another in no more than what the work shows of links
  pub most_stands : {N N' : Point → Type 0} {counts : Counts} {held held' : Option PointInHand} (arena : Arena) (s t : State)
      → StandsWith N arena old counts held s → IsBeside s t → ShowsLinks N' new held' t
      → StandsWith N' arena new counts held' t
  most_stands arena s t st same shows = record {
    graph = ap (λ (x : State). x.graph) same ∙ (st.graph ∙ sym (most_graph arena));
    out = λ a k e. let b = most.rows a k e in ap (λ (x : State). x.out a) same ∙ (st.out a b.row b.was ∙ sym b.outcome);
    last = λ n k e. let b = most.rows (main n) k e in ap (λ (x : State). x.last n) same ∙ (st.last n b.row b.was ∙ sym b.last);
    cutoff = λ n k e. let b = most.rows (main n) k e in ap (λ (x : State). x.cutoff n) same ∙ (st.cutoff n b.row b.was ∙ sym b.cutoff);
    stale = λ n. ap (λ (x : State). x.stale n) same ∙ (st.stale n ∙ sym (most.experts.stale n));
    links = shows.links;
    root = shows.root;
    needed = shows.needed;
    height = shows.height;
    heap = shows.heap;
    settled = λ a. ap (λ (x : State). x.settled a) same ∙ (st.settled a ∙ sym (most_settled a));
    stage = shows.stage;
    owed = shows.owed;
    todo = shows.todo;
    retries = shows.retries;
    died = λ n. ap (λ (x : State). x.died n) same ∙ (st.died n ∙ sym (died_same old new most.deaths n));
    ran = ap (λ (x : State). x.ran) same ∙ (st.ran ∙ ap (λ (v : Vec NodeId Global). reverse v.items) (sym most.ran));
    counts = ap counts_of same ∙ st.counts;
    given = ap (λ (x : State). x.given) same ∙ st.given;
  }

-- what is kept doesn't speak of the worklist, nor of how many links may be tried again
pub beside_kept : (arena : Arena) (work : Work) (todo : Vec Point Global) (left : ℕ) → IsKept arena work
    → IsKept arena (record work { todo = todo; retries = left })
beside_kept arena work todo left k = most_kept_there work (record work { todo = todo; retries = left }) (most_same work work.graph todo left) arena k k.step
    (λ a. refl) (λ a n. n) (λ a b l. l) k.heap

-- where rows and lists stay, who is owed something stays
pub owed_still : (old new : Work) (s : State) (held : Option PointInHand) → KeepsRows old.rows new.rows
    → ((n : NodeId) → fresh_at new.experts n ≡ fresh_at old.experts n)
    → (a : Point) → owed_in (debts new s.needed) held a ≡ owed_in (debts old s.needed) held a
owed_still old new s held rows fresh = owed_same (debts new s.needed) (debts old s.needed) held
    (λ b. owes_same old new (s.needed b) b (rows b) (fresh b.node))

-- heights, and what is in the heap, are others, where nothing else is that a state can tell
pub shown_stands : (s : State) (arena : Arena) (old new : Work) (counts : Counts) (held : Option PointInHand) (height' : Point → ℕ) (heap' : Point → Bool)
    → KeepsRows old.rows new.rows → KeepsLists old new → KeepsRound old new → KeepsLinks old.graph.links new.graph.links
    → KeepsRoots old.graph.roots new.graph.roots → new.todo.items ≡ old.todo.items
    → ((a : Point) → Needed new.graph a → height' a ≡ level new.graph.heights a) → ((a : Point) → heap' a ≡ is_some (at new.graph.heap a))
    → MatchesState arena old counts held s → MatchesState arena new counts held (record s { height = height'; heap = heap' })
shown_stands s arena old new counts held height' heap' rows lists round links roots todo height heap st =
    most_stands old new (most_still old new rows lists round) arena s (record s { height = height'; heap = heap' }) st refl (record {
      links = λ a b. st.links a b ∙ sym (links a b);
      root = λ a. st.root a ∙ sym (roots a);
      needed = λ a. (
        λ t. (same_need old.graph new.graph roots links a).1 ((st.needed a).0 t),
        λ n. (st.needed a).1 ((same_need old.graph new.graph roots links a).0 n),
      );
      height = height;
      heap = heap;
      stage = λ a k e. st.stage a k (sym (rows a) ∙ e);
      owed = λ a. st.owed a ∙ sym (owed_still old new s held rows (λ n. ap (λ (x : List ExpertPlace). fresh_at x n) round.experts) a);
      todo = λ a t. subst (λ (xs : List Point). Among a xs ⊎ IsInHand held a) (sym todo) (st.todo a t);
      retries = st.retries ∙ sym round.retries;
    })

-- the worklist, and what is in hand, are others
pub hand_stands : (s : State) (arena : Arena) (work : Work) (counts : Counts) (held held' : Option PointInHand) (todo : Vec Point Global)
    (owed' : Point → List Point) (todo' : Point → Bool) → MatchesState arena work counts held s
    → ((a : Point) → owed' a ≡ owed_in (debts work s.needed) held' a)
    → ((a : Point) → todo' a ≡ true → Among a todo.items ⊎ IsInHand held' a)
    → MatchesState arena (record work { todo = todo }) counts held' (record s { owed = owed'; todo = todo' })
hand_stands s arena work counts held held' todo owed' todo' st owed listed =
    most_stands work (record work { todo = todo }) (most_same work work.graph todo work.retries) arena s (record s { owed = owed'; todo = todo' }) st refl
    (record {
      links = st.links;
      root = st.root;
      needed = st.needed;
      height = st.height;
      heap = st.heap;
      stage = st.stage;
      owed = owed;
      todo = listed;
      retries = st.retries;
    })

-- a point of the worklist is taken in hand, with what it is owed
pub taken_stands : (s : State) (arena : Arena) (work : Work) (todo : Vec Point Global) (counts : Counts) (p : Point) → MatchesState arena work counts None s
    → (owed : List Point) → owes work (s.needed p) p ≡ owed → ((a : Point) → Among a work.todo.items → Among a todo.items ⊎ (a ≡ p))
    → MatchesState arena (record work { todo = todo }) counts (Some (hand p owed)) s
taken_stands s arena work todo counts p st owed is listed = hand_stands s arena work counts None (Some (hand p owed)) todo s.owed s.todo st
    (λ a. st.owed a ∙ sym (owed_taken (debts work s.needed) p owed is a))
    (λ a t. elim (st.todo a t) [ inl k ↦ listed a k | inr k ↦ absurd k ])

-- what a state can't tell is other
pub looks_stands : (s : State) (arena : Arena) (old new : Work) (counts : Counts) (held : Option PointInHand) → ShowsSame old new → MatchesState arena old counts held s
    → MatchesState arena new counts held s
looks_stands s arena old new counts held same st =
    shown_stands s arena old new counts held s.height s.heap same.rows same.lists same.round same.links same.roots same.todo
    (λ a n. st.height a ((same.needed a).0 n) ∙ sym (same.levels a)) (λ a. st.heap a ∙ sym (same.heap a)) st

-- ---- what a state that stands tells

-- what has a stage has a row
pub staged_row : (x : Option Progress) (st : Stage) → stage_in x ≡ Some st → (k : Progress) × (x ≡ Some k) × (k.stage ≡ st)
staged_row None st e = absurd (none-some st e)
staged_row (Some k) st e = (k, refl, same_Some k.stage st e)

module _ {s : State} {arena : Arena} {work : Work} {counts : Counts} {held : Option PointInHand} (on : MatchesState arena work counts held s) where
  -- its rows of nodes are the arena's
  pub row_of_state : (n : NodeId) → s.graph.row n ≡ row_at arena n
  row_of_state n = ap (λ (G : Graph). G.row n) on.graph

  -- stages are those of rows
  pub stage_is : (p : Point) (st : Stage) → stage_in (at work.rows p) ≡ Some st → s.stage p ≡ stage_of st
  stage_is p st e = let k = staged_row (at work.rows p) st e in on.stage p k.0 k.1 ∙ ap stage_of k.2

  pub stage_was : (p : Point) (st : Stage) → Holds work.rows p → s.stage p ≡ stage_of st → stage_in (at work.rows p) ≡ Some st
  stage_was p st rowed e = by (at work.rows p) refl rowed
    where
      by : (x : Option Progress) → at work.rows p ≡ x → is_some x ≡ true → stage_in x ≡ Some st
      by None is some = absurd (cc)
      by (Some k) is some = ap Some (stage_same k.stage st (sym (on.stage p k is) ∙ e))

  -- so are outcomes
  pub out_is : (p : Point) → Holds work.rows p → s.out p ≡ outcome_in (at work.rows p)
  out_is p rowed = by (at work.rows p) refl rowed
    where
      by : (x : Option Progress) → at work.rows p ≡ x → is_some x ≡ true → s.out p ≡ outcome_in x
      by None is some = absurd (cc)
      by (Some k) is some = on.out p k is
