-- What the parts keep between calls, carried over calls that leave the nodes.
use Rattle.std.proofs.Common.{◌≡◌, ◌⊎◌, inl, inr, ℕ, ◌≤◌, true, List, Option, None, Some, refl, sym, ap, subst, ◌∙◌, arith, Vec, Global}
use Rattle.std.specs.Prelude.{is_some, option_map, vec_capacity}
use Rattle.std.proofs.lemmas.Option.{none-some}
use Rattle.inc_value.specs.Choice.{Among, Every}
use Rattle.inc_value.specs.declared.node.NodeId.{NodeId}
use Rattle.inc_value.specs.declared.node.Part.{Part}
use Rattle.inc_value.specs.declared.node.Part.TheVariants.{Main, Change}
use Rattle.inc_value.specs.declared.node.Point.{Point}
use Rattle.inc_value.specs.declared.outcome.Outcome.{Outcome}
use Rattle.inc_value.specs.declared.outcome.Outcome.TheVariants.{Val}
use Rattle.inc_value.specs.declared.value.Value.{Value}
use Rattle.inc_terms.specs.Depend.{main, change, right_of}
use Rattle.inc_terms.specs.Graph.{Row}
use Rattle.inc_terms.specs.Within.{Given}
use Rattle.expert_nodes.specs.Experts.{kids_at}
use Rattle.point_map.specs.Rows.{Rows, at, Holds}
use Rattle.link_table.specs.Links.{Links, Reads}
use Rattle.necessary_graph.specs.Part.{NecessaryPart, Needed, IsInStep}
use Rattle.node_arena.specs.Arena.{Arena, live, row_at}
use Rattle.node_arena.specs.Graph.{Holdings, graph_of}
use Rattle.node_arena.specs.Typing.{Fits, FoldTakes}
use Rattle.node_outcomes.specs.Computing.{CallFits, IsOfType}
use Rattle.node_outcomes.specs.Row.{IsRewritten, kept_in, outcome_in}
use Rattle.node_outcomes.specs.Progress.{Progress}
use Rattle.scopes.specs.Scopes.{Scopes}
use Rattle.stabilize_round.specs.State.{Call}
use Rattle.stabilize_round.proofs.Points.{same_or_other}
use Rattle.wiring.specs.Graph.{held_at}
use Rattle.wiring.specs.Experts.{ReadSame}
use Rattle.wiring.specs.Kept.{HasFired, IsKept, FitsRoom}
use Rattle.wiring.specs.Wiring.{KeepsGraph, KeepsLists}
use Rattle.wiring.specs.declared.work.Work.{Work}
use Rattle.wiring.proofs.Deciding.{need_same}
use Rattle.wiring.proofs.Holding.{held_rewritten, died_same, links_same, root_same, pairs_same, scoped_same}
use Rattle.stabilizer.specs.Between.{Stays}
use Rattle.timed_nodes.specs.Timed.{KeepsClock}
use Rattle.stabilizer.specs.Kept.{KeepsScopes, PartsKept}
use Rattle.stabilizer.specs.declared.parts.Parts.{Parts}
use Rattle.wiring.proofs.Reading.{read_as}
use Rattle.wiring.proofs.Staying.{rewritten_there}

-- ---- rows

-- a row of a point has its node's types, what a change chose by what is held fits, it was settled in no later round, and it keeps the value of a freeze
-- only where its node is one
pub record FitsPoint (arena : Arena) (held : Holdings) (round : ℕ) (p : Point) (k : Progress) : Type 0 where
  pub outcome : (r : Row) (v : Value) → p.part ≡ Main → row_at arena p.node ≡ Some r → k.outcome ≡ Some (Val v) → IsOfType arena v r.ty
  pub right : (r : Row) (m : NodeId) (o : Outcome) → p.part ≡ Change → row_at arena p.node ≡ Some r → k.outcome ≡ Some o
      → right_of (graph_of arena held) p.node r.def o ≡ Some m → Given arena.given m × Fits arena m r.ty
  pub call : (r : Row) (c : Call) → p.part ≡ Main → row_at arena p.node ≡ Some r → k.last ≡ Some c → CallFits arena r.def r.ty c
  pub settled : k.settled ≤ round
  pub fired : p.part ≡ Main → k.frozen ≡ true → HasFired arena p.node k
  pub room : (r : Row) → p.part ≡ Main → row_at arena p.node ≡ Some r → FitsRoom r k

-- so does each row
abbrev pub AllFit : Arena → Holdings → Work → Type 0
AllFit arena held work = (p : Point) (k : Progress) → at work.rows p ≡ Some k → FitsPoint arena held work.round p k

-- a point is its node's, of its part
point_is : (p : Point) (part : Part) → p.part ≡ part → p ≡ record { node = p.node; part = part }
point_is p part e = ap (λ (x : Part). record { node = p.node; part = x }) e

pub all_fit : (arena : Arena) (work : Work) → IsKept arena work → AllFit arena (held_at arena work) work
all_fit arena work kept p k e = record {
  outcome = λ r v part row o. kept.outcomes p.node r k v row (subst (λ (x : Point). at work.rows x ≡ Some k) (point_is p Main part) e) o;
  right = λ r m o part row out right. kept.rights p.node m r k o row (subst (λ (x : Point). at work.rows x ≡ Some k) (point_is p Change part) e) out right;
  call = λ r c part row l. kept.calls p.node r k c row (subst (λ (x : Point). at work.rows x ≡ Some k) (point_is p Main part) e) l;
  settled = kept.rounds p k e;
  fired = λ part on. kept.frozen p.node k (subst (λ (x : Point). at work.rows x ≡ Some k) (point_is p Main part) e) on;
  room = λ r part row. kept.rooms.calls p.node r k row (subst (λ (x : Point). at work.rows x ≡ Some k) (point_is p Main part) e);
}

-- rows and round stay
pub fit_still : (arena : Arena) (old new : Work) → IsKept arena old → ((p : Point) → at new.rows p ≡ at old.rows p) → new.round ≡ old.round
    → AllFit arena (held_at arena old) new
fit_still arena old new kept rows round p k e = subst (λ (r : ℕ). FitsPoint arena (held_at arena old) r p k) (sym round)
    (all_fit arena old kept p k (sym (rows p) ∙ e))

mapped : (f : Progress → Progress) (x : Option Progress) (k : Progress) → option_map f x ≡ Some k → (row : Progress) × (x ≡ Some row) × (f row ≡ k)
mapped f None k e = absurd (none-some k e)
mapped f (Some row) k e = (row, refl, some_eq e)
  where
    some_eq : {a b : Progress} → ◌≡◌ {A = Option Progress} (Some a) (Some b) → a ≡ b
    some_eq h = cc

-- where the changed row fits, all do
pub rewritten_fit : (arena : Arena) (held : Holdings) (old new : Work) (p : Point) (f : Progress → Progress) → IsRewritten old.rows new.rows p f
    → new.round ≡ old.round → AllFit arena held old
    → ((k : Progress) → at old.rows p ≡ Some k → FitsPoint arena held old.round p k → FitsPoint arena held old.round p (f k)) → AllFit arena held new
rewritten_fit arena held old new p f w round fit changed q k e = subst (λ (r : ℕ). FitsPoint arena held r q k) (sym round) (elim (same_or_other p q) [
  | inl same ↦
      let m = mapped f (at old.rows p) k (sym w.changed ∙ subst (λ (x : Point). at new.rows x ≡ Some k) (sym same) e) in
      subst (λ (x : Point). FitsPoint arena held old.round x k) same (subst (FitsPoint arena held old.round p) m.2 (changed m.0 m.1 (fit p m.0 m.1)))
  | inr ne ↦ fit q k (sym (w.others q (λ s. ne (sym s))) ∙ e)
])

-- where the changed row keeps its outcome, all do
pub rewritten_out : (old new : Rows Progress) (p : Point) (f : Progress → Progress) → IsRewritten old new p f
    → ((k : Progress) → (f k).outcome ≡ k.outcome) → (q : Point) → outcome_in (at new q) ≡ outcome_in (at old q)
rewritten_out old new p f w keeps q = elim (same_or_other p q) [
  | inl same ↦ subst (λ (x : Point). outcome_in (at new x) ≡ outcome_in (at old x)) same (ap outcome_in w.changed ∙ mapped_out (at old p))
  | inr ne ↦ ap outcome_in (w.others q (λ s. ne (sym s)))
]
  where
    mapped_out : (x : Option Progress) → outcome_in (option_map f x) ≡ outcome_in x
    mapped_out None = refl
    mapped_out (Some k) = keeps k

-- ---- all of it

-- what is to be shown of a call that leaves the nodes: rows stay where they are, and their points; no other point is there that wasn't, and
-- each without a row that is there is needed; links come off alone; what is in the heap had a row; rows fit, as much is held, and what has a root keeps its
-- outcome; no root, death or node of a list of live ones goes; experts read what they read; and for those that ran there is as much room as there was at
-- least
pub record Carries (arena : Arena) (old new : Work) : Type 0 where
  pub step : IsInStep new.graph
  pub same : (p : Point) → is_some (at new.rows p) ≡ is_some (at old.rows p)
  pub there : (p : Point) → Holds old.rows p → Holds old.graph.heights p → Holds new.graph.heights p
  pub opened : (p : Point) → Holds new.graph.heights p → Holds old.graph.heights p
  pub leaves : (p : Point) → Holds new.graph.heights p → at old.rows p ≡ None → Needed old.graph p → Needed new.graph p
  pub links : (p q : Point) → Reads new.graph.links p q → Reads old.graph.links p q
  pub heap : (p : Point) → Holds new.graph.heap p → Holds old.rows p
  pub fit : AllFit arena (held_at arena old) new
  pub held : held_at arena new ≡ held_at arena old
  pub chosen : (n : NodeId) → Holds old.roots (change n) → outcome_in (at new.rows (change n)) ≡ outcome_in (at old.rows (change n))
  pub roots : new.roots ≡ old.roots
  pub deaths : new.deaths ≡ old.deaths
  pub pairs : (n : NodeId) (r : Row) → row_at arena n ≡ Some r → Among n old.pairs.nodes → Among n new.pairs.nodes
  pub scoped : (n : NodeId) (r : Row) → row_at arena n ≡ Some r → Among n old.scoped.nodes → Among n new.scoped.nodes
  pub experts : ReadSame old.experts new.experts
  pub ran : vec_capacity old.ran ≤ vec_capacity new.ran

holds_or_none : {A : Type 0} (x : Option A) → (is_some x ≡ true) ⊎ (x ≡ None)
holds_or_none None = inr refl
holds_or_none (Some a) = inl refl

module _ (arena : Arena) (old new : Work) (kept : IsKept arena old) (c : Carries arena old new) where
  before : (p : Point) → Holds new.rows p → Holds old.rows p
  before p h = sym (c.same p) ∙ h

  now : (p : Point) → Holds old.rows p → Holds new.rows p
  now p h = c.same p ∙ h

  left : (p : Point) → Holds new.graph.heights p → Holds new.rows p ⊎ ((row_at arena p.node ≡ None) × Needed new.graph p)
  left p h = elim (holds_or_none (at old.rows p)) [
    | inl row ↦ inl (now p row)
    | inr none ↦ elim (kept.leaves p (c.opened p h)) [ inl row ↦ inl (now p row) | inr dead ↦ inr (dead.0, c.leaves p h none dead.1) ]
  ]

  pub carried : IsKept arena new
  carried = record {
    step = c.step;
    rows = λ p. c.same p ∙ kept.rows p;
    leaves = left;
    there = λ p h. c.there p (before p h) (kept.there p (before p h));
    given = λ p h. kept.given p (c.opened p h);
    links = λ p q r. links_same old new c.same c.deaths p q (kept.links p q (c.links p q r));
    heap = λ p h. now p (c.heap p h);
    dead = λ n b d. kept.dead n b (sym (died_same old new c.deaths n) ∙ d);
    sound = kept.sound;
    scopes = kept.scopes;
    older = kept.older;
    outcomes = λ n r k v row e o. (c.fit (main n) k e).outcome r v refl row o;
    rights = λ n m r k o row e out right. (c.fit (change n) k e).right r m o refl row out
        (subst (λ (h : Holdings). right_of (graph_of arena h) n r.def o ≡ Some m) c.held right);
    roots = λ n h. let had = root_same old new c.roots (change n) h in let v = kept.roots n had in (v.0, c.chosen n had ∙ v.1);
    binds = λ n r row h. kept.binds n r row (root_same old new c.roots (change n) h);
    calls = λ n r k l row e h. (c.fit (main n) k e).call r l refl row h;
    rounds = λ p k e. (c.fit p k e).settled;
    pairs = λ n r row some. c.pairs n r row (kept.pairs n r row some);
    scoped = λ n r row some. c.scoped n r row (kept.scoped n r row some);
    experts = λ n. c.experts.there n ∙ kept.experts n;
    listed = λ n. subst (Every (Given arena.given)) (sym (c.experts.kids n)) (kept.listed n);
    lists = λ n r f v ns row is. subst (λ (kids : List NodeId). FoldTakes arena r.ty kids f.sig.takes) (sym (c.experts.kids n))
        (kept.lists n r f v ns row is);
    tops = kept.tops;
    frozen = λ n k e on. (c.fit (main n) k e).fired refl on;
    rooms = record {
      calls = λ n r k row e. (c.fit (main n) k e).room r refl row;
      ran = let room = kept.rooms.ran in let more = c.ran in omega (arith, room, more);
    };
  }

-- ---- links, roots and heights stay

module _ (arena : Arena) (old new : Work) (kept : IsKept arena old) (graph : KeepsGraph old.graph new.graph) (step : IsInStep new.graph)
    (heap : (p : Point) → Holds new.graph.heap p → Holds old.rows p) (same : (p : Point) → is_some (at new.rows p) ≡ is_some (at old.rows p))
    (fit : AllFit arena (held_at arena old) new) (held : held_at arena new ≡ held_at arena old)
    (chosen : (n : NodeId) → Holds old.roots (change n) → outcome_in (at new.rows (change n)) ≡ outcome_in (at old.rows (change n)))
    (roots : new.roots ≡ old.roots) (deaths : new.deaths ≡ old.deaths) (lists : KeepsLists old new) (experts : ReadSame old.experts new.experts)
    (ran : new.ran ≡ old.ran) where
  pub kept_in_graph : IsKept arena new
  kept_in_graph = carried arena old new kept (record {
    step = step;
    same = same;
    there = λ p row h. subst (λ (m : Rows ℕ). Holds m p) (sym graph.heights) h;
    opened = λ p h. subst (λ (m : Rows ℕ). Holds m p) graph.heights h;
    leaves = λ p h none need. need_same old.graph new.graph graph.links graph.roots p need;
    links = λ p q r. subst (λ (l : Links). Reads l p q) graph.links r;
    heap = heap;
    fit = fit;
    held = held;
    chosen = chosen;
    roots = roots;
    deaths = deaths;
    pairs = λ n r row a. pairs_same old new lists n a;
    scoped = λ n r row a. scoped_same old new lists n a;
    experts = experts;
    ran = subst (λ (v : Vec NodeId Global). vec_capacity old.ran ≤ vec_capacity v) (sym ran) (omega arith);
  })

-- a row is rewritten, which keeps its outcome and what a freeze keeps, and all else stays
pub kept_rewritten : (arena : Arena) (old new : Work) (p : Point) (f : Progress → Progress) → IsKept arena old → IsRewritten old.rows new.rows p f
    → ((k : Progress) → (f k).outcome ≡ k.outcome) → ((k : Progress) → kept_in (Some (f k)) ≡ kept_in (Some k)) → new ≡ record old { rows = new.rows }
    → ((k : Progress) → at old.rows p ≡ Some k → FitsPoint arena (held_at arena old) old.round p k → FitsPoint arena (held_at arena old) old.round p (f k))
    → IsKept arena new
kept_rewritten arena old new p f kept w keeps still rest changed = kept_in_graph arena old new kept
    (record {
      links = ap (λ (x : Work). x.graph.links) rest;
      roots = ap (λ (x : Work). x.graph.roots) rest;
      heights = ap (λ (x : Work). x.graph.heights) rest;
    })
    (subst IsInStep (sym (ap (λ (x : Work). x.graph) rest)) kept.step)
    (λ q h. kept.heap q (subst (λ (g : NecessaryPart). Holds g.heap q) (ap (λ (x : Work). x.graph) rest) h))
    (rewritten_there old.rows new.rows p f w)
    (rewritten_fit arena (held_at arena old) old new p f w (ap (λ (x : Work). x.round) rest) (all_fit arena old kept) changed)
    (held_rewritten arena old new p f w (λ k is. keeps k) still (ap (λ (x : Work). x.roots) rest)
    (λ n. ap (λ (x : Work). kids_at x.experts n) rest))
    (λ n h. rewritten_out old.rows new.rows p f w keeps (change n))
    (ap (λ (x : Work). x.roots) rest)
    (ap (λ (x : Work). x.deaths) rest)
    (record { pairs = ap (λ (x : Work). x.pairs) rest; scoped = ap (λ (x : Work). x.scoped) rest })
    (read_as old.experts new.experts (ap (λ (x : Work). x.experts) rest))
    (ap (λ (x : Work). x.ran) rest)

-- ---- scopes

-- who stood in scopes stands there
pub scopes_stay : (before arena : Arena) (old work : Work) (scopes : Scopes) → Stays before arena old work → KeepsScopes before scopes
    → KeepsScopes arena scopes
scopes_stay before arena old work scopes stays kept = record {
  stands = λ n b. (
    λ in_scope. let r = (kept.stands n b).0 in_scope in let s = stays.scoped n b r.0 r.1 r.2 in (s.row, s.is_row, s.scope),
    λ r. (kept.stands n b).1 (stays.entered n b r.0 r.1 r.2),
  );
  none = kept.none;
}

-- so parts are kept whose nodes and work are
pub parts_stay : (old new : Parts) → PartsKept old → IsKept new.arena new.work → Stays old.arena new.arena old.work new.work → new.scopes ≡ old.scopes
    → new.dying.items ≡ old.dying.items → KeepsClock new.arena new.timed → live new.arena ≤ vec_capacity new.ran → PartsKept new
parts_stay old new kept work stays scopes dying clock listing = record {
  work = work;
  scopes = subst (KeepsScopes new.arena) (sym scopes) (scopes_stay old.arena new.arena old.work new.work old.scopes stays kept.scopes);
  dying = dying ∙ kept.dying;
  clock = clock;
  listing = listing;
}
