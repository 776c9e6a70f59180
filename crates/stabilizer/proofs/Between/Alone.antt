-- Between rounds the parts alone tell whether a round may begin, also without nodes.
use Rattle.std.proofs.Common.{◌≡◌, ◌⊎◌, inl, inr, ℕ, zero, suc, ◌<◌, ◌+◌, Bool, true, false, [], ◌∷◌, Option, None, Some, refl, sym, ap, subst, List, ◌∙◌, arith}
use Rattle.std.specs.Prelude.{is_some, IsSome, reverse, ◌↔◌}
use Rattle.stabilize_round.proofs.Parts.{bool_cases}
use Rattle.std.proofs.lemmas.Option.{none-some, same_Some}
use Rattle.inc_value.specs.declared.node.NodeId.{NodeId}
use Rattle.inc_value.specs.declared.node.Part.{Part}
use Rattle.inc_value.specs.declared.node.Part.TheVariants.{Main, Change}
use Rattle.inc_value.specs.declared.node.Point.{Point}
use Rattle.inc_value.specs.declared.outcome.Outcome.{Outcome}
use Rattle.inc_value.specs.Choice.{Among, Every}
use Rattle.inc_value.specs.declared.value.Value.{Value}
use Rattle.inc_terms.specs.Depend.{main, change, subject_of, fixed_reads}
use Rattle.inc_terms.specs.Graph as graph
use Rattle.inc_terms.specs.Graph.{Graph, Row, Def, Bind, Freeze}
use Rattle.inc_terms.specs.Local.{shown, shown_of, Agrees, IsBuilt, IsRooted}
use Rattle.inc_terms.specs.Plan.{gate_of, plan}
use Rattle.inc_terms.specs.Term.{Functions}
use Rattle.inc_terms.specs.Within.{FunctionLaws, Given}
use Rattle.inc_terms.specs.Work.{taken_by}
use Rattle.inc_terms.proofs.Plan.{among_left, among_right}
use Rattle.inc_terms.proofs.Seeing.{looks}
use Rattle.point_map.specs.Rows.{at, Holds, Rows}
use Rattle.link_table.specs.Links.{times, Reads}
use Rattle.necessity.specs.Need.{root_times}
use Rattle.height_order.specs.Levels.{level}
use Rattle.necessary_graph.specs.Part.{Needed, IsInStep}
use Rattle.necessary_graph.proofs.Reaching.{root_needed, read_needed}
use Rattle.node_arena.specs.Arena.{Arena, live, row_at}
use Rattle.node_arena.specs.Graph.{AllCallFit}
use Rattle.node_outcomes.specs.Meaning.{Meaning}
use Rattle.node_outcomes.specs.Computing.{has_part, is_expert, is_expert_def}
use Rattle.node_outcomes.proofs.Held.{built_live, built_parts}
use Rattle.node_outcomes.specs.Row as seen
use Rattle.node_outcomes.specs.Row.{outcome_in, settled_in, stage_in, stage_of, cutoff_in, kept_by, kept_in}
use Rattle.stabilize_round.specs.State as machine
use Rattle.stabilize_round.specs.State.{State, Start, count, planned, plan_at, live_plan, all_retries}
use Rattle.stabilize_round.specs.Freezing.{fires, row_fires}
use Rattle.stabilize_round.specs.Invariant.{Recalls, Rooted}
use Rattle.stabilize_round.specs.Machine.{Entry as Begins}
use Rattle.stabilize_round.proofs.Points.{among_count}
use Rattle.stabilizer.specs.Between.{IsBetween, out_of}
use Rattle.expert_nodes.specs.Experts.{ExpertPlace, expert_at, is_stale_at, kids_at}
use Rattle.wiring.specs.Deciding.{is_needed}
use Rattle.wiring.specs.Kept.{IsFreeze, IsKept, IsTop}
use Rattle.stabilizer.specs.Kept.{PartsKept, KeepsScopes}
use Rattle.stabilizer.specs.Look.{last_of, last_call}
use Rattle.stabilizer.specs.Round.{IsReady}
use Rattle.stabilizer.specs.declared.parts.Parts.{Parts}
use Rattle.wiring.specs.Stands.{MatchesState, owes}
use Rattle.node_outcomes.specs.Progress.{Progress}
use Rattle.node_outcomes.specs.declared.row.Stage.{Stage}
use Rattle.node_outcomes.specs.declared.row.Stage.TheVariants as code
use Rattle.wiring.specs.declared.work.Work.{Work}
use Rattle.wiring.proofs.Agreeing.{plan_same, same_some, reads_change, agrees_still, recalls_still}
use Rattle.wiring.proofs.Owing.{owes_none, owes_partly, plain_fresh}
use Rattle.wiring.proofs.Deciding.{decides_needed}
use Rattle.wiring.proofs.Linking.{some_or_none}
use Rattle.wiring.specs.Graph.{held_at, graph_at, died_at}
use Rattle.node_arena.specs.Sound.{IsSoundArena}
use Rattle.scopes.specs.Scopes.{Scopes, member}

-- a main is its node's, and so is a change
pub main_is : (p : Point) → p.part ≡ Main → p ≡ main p.node
main_is p e = ap (λ (x : Part). record { node = p.node; part = x }) e

pub change_is : (p : Point) → p.part ≡ Change → p ≡ change p.node
change_is p e = ap (λ (x : Part). record { node = p.node; part = x }) e

none_of : (n : ℕ) → (0 < n → ⊥) → n ≡ 0
none_of zero h = refl
none_of (suc n) h = absurd (h (omega arith))

-- ---- rows and nodes

-- a point that a node has is one of a live node
has_row : (row : Option Row) (part : Part) → has_part row part ≡ true → (r : Row) × (row ≡ Some r)
has_row None part e = absurd (cc)
has_row (Some r) part e = (r, refl)

has_main : (row : Option Row) (r : Row) (part : Part) → row ≡ Some r → part ≡ Main → has_part row part ≡ true
has_main row r part e is = rw (e, is) refl

has_change : (row : Option Row) (r : Row) → row ≡ Some r → IsSome (subject_of r.def) → has_part row Change ≡ true
has_change row r e some = rw e some

module _ (arena : Arena) (work : Work) (kept : IsKept arena work) where
  holds_row : (p : Point) → Holds work.rows p → (k : Progress) × (at work.rows p ≡ Some k)
  holds_row p h = elim (some_or_none (at work.rows p)) [
    | inl k ↦ k
    | inr none ↦ absurd (let e = sym h ∙ ap is_some none in cc)
  ]

  -- a point that has a row is of a live node
  pub node_of : (p : Point) → Holds work.rows p → (r : Row) × (row_at arena p.node ≡ Some r)
  node_of p h = has_row (row_at arena p.node) p.part (sym (kept.rows p) ∙ h)

  pub row_of : (n : NodeId) (r : Row) → row_at arena n ≡ Some r → (k : Progress) × (at work.rows (main n) ≡ Some k)
  row_of n r e = holds_row (main n) (kept.rows (main n) ∙ has_main (row_at arena n) r Main e refl)

  own_row : (n : NodeId) (r : Row) → row_at arena n ≡ Some r → IsSome (subject_of r.def) → (k : Progress) × (at work.rows (change n) ≡ Some k)
  own_row n r e some = holds_row (change n) (kept.rows (change n) ∙ has_change (row_at arena n) r e some)

  -- a needed point of a live node has a row, and so has a change that is needed
  pub needed_row : (p : Point) (r : Row) → Needed work.graph p → row_at arena p.node ≡ Some r → (k : Progress) × (at work.rows p ≡ Some k)
  needed_row p r need e = elim (kept.leaves p (kept.step.there p need)) [
    | inl h ↦ holds_row p h
    | inr dead ↦ absurd (none-some r (sym dead.0 ∙ e))
  ]

  -- one of a dead node has none
  pub no_row_of_dead : (p : Point) → row_at arena p.node ≡ None → Holds work.rows p → ⊥
  no_row_of_dead p dead h = let r = node_of p h in none-some r.0 (sym dead ∙ r.1)

  -- only an expert is owed links
  pub owes_or_expert : (needed : Bool) (p : Point) → (owes work needed p ≡ []) ⊎ (is_expert (row_at arena p.node) ≡ true)
  owes_or_expert needed p = elim (bool_cases (is_expert (row_at arena p.node))) [
    | inl expert ↦ inr expert
    | inr plain ↦ inl (owes_none work needed p (plain_fresh arena work.experts kept.experts p.node plain))
  ]

  plain_def : (def : Def) → IsSome (subject_of def) → is_expert_def def ≡ true → ⊥
  plain_def (graph.Expert f v ns) some e = absurd (cc)
  plain_def (graph.If t a b) some e = absurd (cc)
  plain_def (graph.Join k) some e = absurd (cc)
  plain_def (graph.Bind l f caps) some e = absurd (cc)
  plain_def _ some e = absurd (cc)

  -- a point of a node of two points is owed none
  pub two_unowed : (needed : Bool) (p : Point) (r : Row) → row_at arena p.node ≡ Some r → IsSome (subject_of r.def) → owes work needed p ≡ []
  two_unowed needed p r row some = elim (owes_or_expert needed p) [
    | inl none ↦ none
    | inr expert ↦ absurd (plain_def r.def some (sym (ap is_expert row) ∙ expert))
  ]

  pub var_unowed : (needed : Bool) (p : Point) (r : Row) (v : Value) → row_at arena p.node ≡ Some r → r.def ≡ graph.Var v → owes work needed p ≡ []
  var_unowed needed p r v row is = elim (owes_or_expert needed p) [
    | inl none ↦ none
    | inr expert ↦ absurd (let e = sym (ap is_expert_def is) ∙ (sym (ap is_expert row) ∙ expert) in cc)
  ]

  is_top : (def : Def) → is_expert_def def ≡ true → IsTop def
  is_top (graph.Expert f v ns) e = tt
  is_top (graph.Freeze kid f) e = absurd (cc)
  is_top _ e = absurd (cc)

  of_row : (n : NodeId) (x : Option Row) → row_at arena n ≡ x → is_expert x ≡ true → (r : Row) × (row_at arena n ≡ Some r) × (r.scope ≡ None)
  of_row n None row e = absurd (cc)
  of_row n (Some r) row e = (r, row, kept.tops n r row (is_top r.def e))

  expert_subject : (def : Def) → is_expert_def def ≡ true → subject_of def ≡ None
  expert_subject (graph.Expert f v ns) e = refl
  expert_subject _ e = absurd (cc)

  -- who is owed some stands in no scope, and is of one point
  pub owing_alone : (needed : Bool) (p : Point) → (owes work needed p ≡ [] → ⊥) → (r : Row) → row_at arena p.node ≡ Some r
      → (r.scope ≡ None) × (subject_of r.def ≡ None)
  owing_alone needed p some r row = elim (owes_or_expert needed p) [
    | inl none ↦ absurd (some none)
    | inr expert ↦
        let is = sym (ap is_expert row) ∙ expert in
        (kept.tops p.node r row (is_top r.def is), expert_subject r.def is)
  ]

  -- and is live
  pub owing_top : (needed : Bool) (p : Point) → (owes work needed p ≡ [] → ⊥) → (r : Row) × (row_at arena p.node ≡ Some r) × (r.scope ≡ None)
  owing_top needed p some = elim (owes_or_expert needed p) [
    | inl none ↦ absurd (some none)
    | inr expert ↦ of_row p.node (row_at arena p.node) refl expert
  ]

  no_change_of_freeze : (def : Def) → IsFreeze def → IsSome (subject_of def) → ⊥
  no_change_of_freeze (graph.Freeze kid f) is some = absurd (cc)
  no_change_of_freeze _ is some = is

  -- a node of two points keeps no value of a freeze
  pub two_unfrozen : (n : NodeId) (r : Row) → row_at arena n ≡ Some r → IsSome (subject_of r.def) → kept_in (at work.rows (main n)) ≡ None
  two_unfrozen n r row some = by_kept (at work.rows (main n)) refl
    where
      by_flag : (k : Progress) → at work.rows (main n) ≡ Some k → (b : Bool) → k.frozen ≡ b → kept_by b k.last ≡ None
      by_flag k is false off = refl
      by_flag k is true on =
          let h = kept.frozen n k is on in
          absurd (no_change_of_freeze h.row.def h.is_freeze (ap (λ (x : Row). is_some (subject_of x.def)) (same_some (sym h.is_row ∙ row)) ∙ some))

      by_kept : (x : Option Progress) → at work.rows (main n) ≡ x → kept_in x ≡ None
      by_kept None is = refl
      by_kept (Some k) is = by_flag k is k.frozen refl

-- what is linked from a needed point is needed, and what it looks at is so
module _ (work : Work) (p : Point) (need : Needed work.graph p) (G : Graph) (out : Point → Option Outcome) (r : Row)
    (links : (q : Point) → times work.graph.links p q ≡ count q (plan G out p r)) where
  planned_needed : (q : Point) → Among q (plan G out p r) → Needed work.graph q
  planned_needed q a = read_needed work.graph p q need (let l = links q in let c = among_count q (plan G out p r) a in omega (arith, l, c))

  pub looked_needed : (q : Point) → Among q (looks G out p r) → Needed work.graph q
  looked_needed q a = planned_needed q (among_right q (gate_of r.scope) _ a)

  pub change_needed : p.part ≡ Main → IsSome (subject_of r.def) → Needed work.graph (change p.node)
  change_needed is some = looked_needed (change p.node) (among_left (change p.node) (fixed_reads G p.node r.def p.part) _
      (subst (λ (x : Part). Among (change p.node) (fixed_reads G p.node r.def x)) (sym is) (reads_change G p.node r.def some)))

-- ---- from a round that may begin

is_full : (c : Stage) → stage_of c ≡ machine.Full → c ≡ code.Full
is_full code.Bare e = absurd (cc)
is_full code.Gated e = absurd (cc)
is_full code.Static e = absurd (cc)
is_full code.Full e = refl

module _ (M : Meaning) (parts : Parts) (ready : IsReady M parts) where
  abbrev F : Functions
  F = M.functions

  abbrev arena : Arena
  arena = parts.arena

  abbrev work : Work
  work = parts.work

  abbrev kept : IsKept arena work
  kept = ready.kept.work

  abbrev s : State
  s = ready.state

  row_now : (n : NodeId) (r : Row) → row_at arena n ≡ Some r → s.graph.row n ≡ Some r
  row_now n r e = ap (λ (G : Graph). G.row n) ready.stands.graph ∙ e

  -- what has a row shows its outcome
  out_now : (p : Point) (k : Progress) → at work.rows p ≡ Some k → out_of work p ≡ s.out p
  out_now p k e = ap outcome_in e ∙ sym (ready.stands.out p k e)

  ran_now : (p : Point) (o : Outcome) → out_of work p ≡ Some o → s.out p ≡ Some o
  ran_now p o e = elim (some_or_none (at work.rows p)) [
    | inl k ↦ sym (out_now p k.0 k.1) ∙ e
    | inr none ↦ absurd (none-some o (sym (ap outcome_in none) ∙ e))
  ]

  own_now : (p : Point) (r : Row) → row_at arena p.node ≡ Some r → p.part ≡ Main → IsSome (subject_of r.def)
      → out_of work (change p.node) ≡ s.out (change p.node)
  own_now p r row is some = let k = own_row arena work kept p.node r row some in out_now (change p.node) k.0 k.1

  plan_now : (p : Point) (r : Row) → row_at arena p.node ≡ Some r → plan (graph_at arena work) (out_of work) p r ≡ plan (graph_at arena work) s.out p r
  plan_now p r row = plan_same arena arena (held_at arena work) (held_at arena work) s.out (out_of work) p r refl refl refl (own_now p r row)

  planned_now : (p : Point) (r : Row) → Needed work.graph p → row_at arena p.node ≡ Some r → planned s p ≡ plan (graph_at arena work) s.out p r
  planned_now p r need row =
      ap (λ (x : Option Row). plan_at s.graph s.out s.died p x (s.stage p)) (row_now p.node r row)
      ∙ (ap (λ (x : machine.Stage). live_plan s.graph s.out p r x) (ready.entry.full p r (row_now p.node r row) ((ready.stands.needed p).1 need))
      ∙ ap (λ (G : Graph). plan G s.out p r) ready.stands.graph)

  owed_now : (p : Point) → Needed work.graph p → s.owed p ≡ owes work true p
  owed_now p need = ready.stands.owed p ∙ ap (λ (b : Bool). owes work b p) ((ready.stands.needed p).1 need)

  all_now : (p : Point) (r : Row) → Needed work.graph p → row_at arena p.node ≡ Some r
      → (q : Point) → times work.graph.links p q + count q (owes work true p) ≡ count q (plan (graph_at arena work) s.out p r)
  all_now p r need row q =
      let e = ready.entry.links p q ((ready.stands.needed p).1 need) in
      let l = ready.stands.links p q in
      let o = ap (count q) (owed_now p need) in
      let g = ap (count q) (planned_now p r need row) in
      omega (arith, e, l, o, g)

  -- where it is owed none
  links_now : (p : Point) (r : Row) → Needed work.graph p → row_at arena p.node ≡ Some r → owes work true p ≡ []
      → (q : Point) → times work.graph.links p q ≡ count q (plan (graph_at arena work) s.out p r)
  links_now p r need row none q = let e = all_now p r need row q in let z = ap (count q) none in omega (arith, e, z)

  seen_now : (q : Point) → Needed work.graph q → shown (graph_at arena work) (out_of work) q ≡ shown (graph_at arena work) s.out q
  seen_now q need = elim (some_or_none (row_at arena q.node)) [
    | inl r ↦ let k = needed_row arena work kept q r.0 need r.1 in
        ap (shown_of (row_at arena q.node)) (out_now q k.0 k.1)
    | inr none ↦ ap (λ (x : Option Row). shown_of x (out_of work q)) none ∙ sym (ap (λ (x : Option Row). shown_of x (s.out q)) none)
  ]

  module _ (p : Point) (r : Row) (need : Needed work.graph p) (row : row_at arena p.node ≡ Some r) (none : owes work true p ≡ []) where
    looked_now : (q : Point) → Among q (looks (graph_at arena work) s.out p r) → shown (graph_at arena work) (out_of work) q ≡ shown (graph_at arena work) s.out q
    looked_now q a = seen_now q (looked_needed work p need (graph_at arena work) s.out r (links_now p r need row none) q a)

    here_now : out_of work p ≡ s.out p
    here_now = let k = needed_row arena work kept p r need row in out_now p k.0 k.1

    last_now : p.part ≡ Main → last_call work p.node ≡ s.last p.node
    last_now is = let k = row_of arena work kept p.node r row in ap last_of k.1 ∙ sym (ready.stands.last p.node k.0 k.1)

    agrees_now : Agrees F s.graph s.out p → Agrees F (graph_at arena work) (out_of work) p
    agrees_now a = agrees_still F arena arena (held_at arena work) (held_at arena work) s.out (out_of work) p r row row here_now refl refl refl refl
        (λ o h. h) looked_now
        (subst (λ (G : Graph). Agrees F G s.out p) ready.stands.graph a)

    recalls_now : Recalls s.graph (shown s.graph s.out) s.last p → Recalls (graph_at arena work) (shown (graph_at arena work) (out_of work)) (last_call work) p
    recalls_now a = recalls_still F arena arena (held_at arena work) (held_at arena work) s.out (out_of work) p r row row here_now refl refl refl refl
        (λ o h. h) looked_now s.last (last_call work) last_now
        (subst (λ (G : Graph). Recalls G (shown G s.out) s.last p) ready.stands.graph a)

  owing_now : (p : Point) → Needed work.graph p → (owes work true p ≡ [] → ⊥) → Among p work.todo.items
  owing_now p need some = elim (bool_cases (s.todo p)) [
    | inl t ↦ elim (ready.stands.todo p t) [ inl among ↦ among | inr h ↦ absurd h ]
    | inr f ↦ absurd (some (sym (owed_now p need) ∙ ready.entry.owed p f))
  ]

  unfired_now : (n : NodeId) (r : Row) → row_at arena n ≡ Some r → fires r.def (kept_in (at work.rows (main n))) (last_call work n) ≡ None
  unfired_now n r row =
      let k = row_of arena work kept n r row in
      let last : last_call work n ≡ s.last n = ap last_of k.1 ∙ sym (ready.stands.last n k.0 k.1) in
      ap (fires r.def (kept_in (at work.rows (main n)))) last
      ∙ (sym (ap (λ (x : Option Row). row_fires x (kept_in (at work.rows (main n))) (s.last n)) row)
      ∙ (sym (ap (λ (G : Graph). row_fires (G.row n) (G.frozen n) (s.last n)) ready.stands.graph) ∙ ready.entry.unfired n))

  pub ready_is_between : IsBetween F arena work
  ready_is_between = record {
    kept = kept;
    full = λ p k need e. let r = node_of arena work kept p (ap is_some e) in
        is_full k.stage (sym (ready.stands.stage p k e) ∙ ready.entry.full p r.0 (row_now p.node r.0 r.1) ((ready.stands.needed p).1 need));
    links = λ p r need row q. all_now p r need row q ∙ sym (ap (count q) (plan_now p r row));
    owing = owing_now;
    fresh = λ p r need row. elim (ready.linked p need) [
      | inl h ↦ inl h
      | inr none ↦ elim (ready.entry.fresh p r (row_now p.node r row) ((ready.stands.needed p).1 need)) [
        | inl h ↦ inl (sym (ready.stands.heap p) ∙ h)
        | inr a ↦ inr (record {
          agrees = agrees_now p r need row none a.0;
          recalls = recalls_now p r need row none a.1;
          unmarked = λ part. sym (ready.stands.stale p.node) ∙ a.2 part;
          unowed = none;
        })
      ]
    ];
    answers = λ n r nodes k c row def e last. ready.entry.answers n r nodes c (row_now n r row)
        (subst (λ (G : Graph). taken_by G n r.def ≡ Some nodes) (sym ready.stands.graph) def) (ready.stands.last n k e ∙ last);
    inside = ready.inside;
    built = λ n r o row e. subst (λ (G : Graph). IsBuilt F G n r.def o) ready.stands.graph
        (ready.entry.built n r o (row_now n r row) (ran_now (change n) o e));
    unsettled = λ p. sym (ready.stands.settled p) ∙ ready.entry.settled p;
    deaths = λ n. sym (ready.stands.died n) ∙ ready.entry.died n;
    numbered = ready.numbered;
    retries = sym ready.stands.retries ∙ ready.entry.retries;
    unfired = unfired_now;
    ran = ready.ran;
  }

-- ---- to a round that may begin

abbrev stage_or_full : Option Progress → machine.Stage
stage_or_full None = machine.Full
stage_or_full (Some k) = stage_of k.stage

-- whether points are listed
abbrev pub are_some : List Point → Bool
are_some [] = false
are_some (p ∷ ps) = true

pub none_listed : (ps : List Point) → are_some ps ≡ false → ps ≡ []
none_listed [] e = refl
none_listed (p ∷ ps) e = absurd (cc)

abbrev state_of : (Point → Bool) → Arena → Work → State
state_of need arena work = record {
  graph = graph_at arena work;
  out = out_of work;
  last = last_call work;
  links = times work.graph.links;
  root = root_times work.graph.roots;
  needed = need;
  height = level work.graph.heights;
  heap = λ p. is_some (at work.graph.heap p);
  settled = λ p. settled_in work.round (at work.rows p);
  stage = λ p. stage_or_full (at work.rows p);
  owed = λ p. owes work (need p) p;
  todo = λ p. are_some (owes work (need p) p);
  taken = None;
  retries = all_retries;
  died = λ n. None;
  ran = [];
  calls = 0;
  builds = 0;
  adds = 0;
  given = arena.given;
  cutoff = λ n. cutoff_in (at work.rows (main n));
  stale = is_stale_at work.experts;
}

abbrev start_of : Meaning → (Point → Bool) → Work → Start
start_of M need work = record {
  held = need;
  last = last_call work;
  calls = 0;
  known = M.known;
  ids = M.ids;
  cutoff = λ n. cutoff_in (at work.rows (main n));
  stale = is_stale_at work.experts;
}

-- a bind that is built has a root that reads back, or none, where it is built for the outcome of its change
pub between_rooted : (F : Functions) (arena : Arena) (work : Work) → IsBetween F arena work → Rooted F (graph_at arena work)
between_rooted F arena work b n r l f captures w row def built =
    let parts = built_parts r.def (out_of work (change n)) (at work.roots (change n)) w
    (sym (built_live work.rows work.roots n arena work.experts r row) ∙ built) in
    let now : IsBuilt F (graph_at arena work) n (Bind l f captures) w.outcome =
    subst (λ (d : Def). IsBuilt F (graph_at arena work) n d w.outcome) def (b.built n r w.outcome row parts.0) in
    subst (IsRooted F (graph_at arena work) n f captures) (same_Some now.0 w (sym now.1 ∙ built)) now.3

module _ (M : Meaning) (arena : Arena) (work : Work) (b : IsBetween M.functions arena work) (need : Point → Bool)
    (exact : (p : Point) → (need p ≡ true) ↔ Needed work.graph p) where
  abbrev now : State
  now = state_of need arena work

  -- without deaths a point of a dead node is linked to nothing
  unlinked : (p q : Point) → row_at arena p.node ≡ None → times work.graph.links p q ≡ 0
  unlinked p q none = none_of (times work.graph.links p q) (λ l. elim (b.kept.links p q l) [
    | inl row ↦ no_row_of_dead arena work b.kept p none row
    | inr ghost ↦ none-some ghost.scope (sym (b.deaths p.node) ∙ ghost.died)
  ])

  stage_then : (p : Point) → Needed work.graph p → now.stage p ≡ machine.Full
  stage_then p n = elim (some_or_none (at work.rows p)) [
    | inl k ↦ ap stage_or_full k.1 ∙ ap stage_of (b.full p k.0 n k.1)
    | inr none ↦ ap stage_or_full none
  ]

  -- one of a dead node is owed none
  unowed : (needed : Bool) (p : Point) → row_at arena p.node ≡ None → owes work needed p ≡ []
  unowed needed p none = elim (owes_or_expert arena work b.kept needed p) [
    | inl owed ↦ owed
    | inr expert ↦ absurd (let e = sym (ap is_expert none) ∙ expert in cc)
  ]

  links_then : (p q : Point) → Needed work.graph p → times work.graph.links p q + count q (owes work (need p) p) ≡ count q (planned now p)
  links_then p q is = elim (some_or_none (row_at arena p.node)) [
    | inl r ↦ ap (λ (x : Bool). times work.graph.links p q + count q (owes work x p)) ((exact p).1 is) ∙ (b.links p r.0 is r.1 q ∙ sym (ap (count q)
        (ap (λ (x : Option Row). plan_at now.graph now.out now.died p x (now.stage p)) r.1
        ∙ ap (λ (x : machine.Stage). live_plan now.graph now.out p r.0 x) (stage_then p is))))
    | inr none ↦
        let planned : count q (planned now p) ≡ 0 =
        ap (count q) (ap (λ (x : Option Row). plan_at now.graph now.out now.died p x (now.stage p)) none
        ∙ ap (λ (x : machine.Stage). plan_at now.graph now.out now.died p None x) (stage_then p is)) in
        let links = unlinked p q none in
        let owed = ap (count q) (unowed (need p) p none) in
        omega (arith, planned, links, owed)
  ]

  -- who is owed some is needed, and in the worklist
  owing_then : (p : Point) → are_some (owes work (need p) p) ≡ true → (need p ≡ true) × (owes work true p ≡ [] → ⊥)
  owing_then p t = elim (bool_cases (need p)) [
    | inl yes_needed ↦ (yes_needed, λ none. let e = sym (ap (λ (x : Bool). are_some (owes work x p)) yes_needed ∙ ap are_some none) ∙ t in cc)
    | inr not ↦ absurd (let e = sym (ap (λ (x : Bool). are_some (owes work x p)) not) ∙ t in cc)
  ]

  stands_then : MatchesState arena work (record { calls = 0; builds = 0; adds = 0 }) None now
  stands_then = record {
    graph = refl;
    out = λ p k e. ap outcome_in e;
    last = λ n k e. ap last_of e;
    cutoff = λ n k e. ap cutoff_in e;
    stale = λ n. refl;
    links = λ p q. refl;
    root = λ p. refl;
    needed = exact;
    height = λ p n. refl;
    heap = λ p. refl;
    settled = λ p. refl;
    stage = λ p k e. ap stage_or_full e;
    owed = λ p. refl;
    todo = λ p t. let o = owing_then p t in inl (b.owing p ((exact p).0 o.0) o.1);
    retries = sym b.retries;
    died = λ n. sym (b.deaths n);
    ran = sym (ap reverse b.ran);
    counts = refl;
    given = refl;
  }

  unfired_then : (n : NodeId) (x : Option Row) → row_at arena n ≡ x → row_fires x (kept_in (at work.rows (main n))) (last_call work n) ≡ None
  unfired_then n None row = refl
  unfired_then n (Some r) row = b.unfired n r row

  entry_then : Begins M.functions (start_of M need work) now
  entry_then = record {
    web = record {
      from = λ p q l. (exact p).1 (b.kept.step.readers p q l);
      onto = λ p q l. (exact q).1 (read_needed work.graph p q (b.kept.step.readers p q l) l);
      rooted = λ p h. (exact p).1 (root_needed work.graph p h);
      reached = λ p t. let n = (exact p).0 t in (n.root, n.is_root, n.leads);
      rises = b.kept.step.rises;
      low = b.kept.step.low;
      heap = λ p t. elim (some_or_none (at work.graph.heap p)) [
        | inl h ↦ (exact p).1 (b.kept.step.heap p h.0 h.1).1
        | inr none ↦ absurd (let e = sym t ∙ ap is_some none in cc)
      ];
    };
    alive = λ p t. node_of arena work b.kept p (b.kept.heap p t);
    links = λ p q t. links_then p q ((exact p).0 t);
    full = λ p r row t. stage_then p ((exact p).0 t);
    bare = λ p t e. absurd (let f : now.stage p ≡ machine.Full = stage_then p ((exact p).0 t) in let h = sym f ∙ e in cc);
    scoped = b.kept.scopes;
    rooted = between_rooted M.functions arena work b;
    built = b.built;
    fresh = λ p r row t. elim (b.fresh p r ((exact p).0 t) row) [ inl h ↦ inl h | inr f ↦ inr (f.agrees, f.recalls, f.unmarked) ];
    settled = b.unsettled;
    owed = λ p h. none_listed (owes work (need p) p) h;
    todo = λ p needed h. owing_top arena work b.kept true p (owing_then p h).1;
    retries = refl;
    ran = refl;
    taken = refl;
    died = λ n. refl;
    held = λ p. refl;
    last = λ n. refl;
    cutoff = λ n. refl;
    stale = λ n. refl;
    unfired = λ n. unfired_then n (row_at arena n) refl;
    calls = refl;
    answers = λ n r nodes c row def last.
        let k = row_of arena work b.kept n r row in
        b.answers n r nodes k.0 c row def k.1 (sym (ap last_of k.1) ∙ last);
  }

pub between_is_ready : (M : Meaning) (parts : Parts) → PartsKept parts → FunctionLaws M.functions M.known M.ids → AllCallFit M.known M.ids parts.arena
    → IsBetween M.functions parts.arena parts.work → IsReady M parts
between_is_ready M parts kept laws fit b = record {
  kept = kept;
  laws = laws;
  fit = fit;
  start = start_of M (is_needed parts.work.graph) parts.work;
  state = state_of (is_needed parts.work.graph) parts.arena parts.work;
  stands = stands_then M parts.arena parts.work b (is_needed parts.work.graph) exact;
  entry = entry_then M parts.arena parts.work b (is_needed parts.work.graph) exact;
  linked = λ p need. elim (some_or_none (row_at parts.arena p.node)) [
    | inl r ↦ elim (b.fresh p r.0 need r.1) [ inl h ↦ inl h | inr f ↦ inr f.unowed ]
    | inr none ↦ inr (unowed M parts.arena parts.work b (is_needed parts.work.graph) exact true p none)
  ];
  inside = b.inside;
  numbered = b.numbered;
  ran = b.ran;
}
  where
    exact : (p : Point) → (is_needed parts.work.graph p ≡ true) ↔ Needed parts.work.graph p
    exact = decides_needed parts.work.graph b.kept.step

-- the same worklist has the same points
pub same_todo : (old new : Work) → new.todo ≡ old.todo → new.todo.items ≡ old.todo.items
same_todo old new e = rw e refl

-- ---- no nodes

module _ (arena : Arena) (work : Work) (sound : IsSoundArena arena) (step : IsInStep work.graph) (nodes : (n : NodeId) → row_at arena n ≡ None)
    (rows : (p : Point) → at work.rows p ≡ None) (points : (p : Point) → at work.graph.heights p ≡ None)
    (links : (p q : Point) → times work.graph.links p q ≡ 0) (heap : (p : Point) → at work.graph.heap p ≡ None)
    (rights : (p : Point) → at work.roots p ≡ None) (unlisted : work.experts ≡ []) (undied : (n : NodeId) → died_at work n ≡ None)
    (bare : live arena ≡ 0) where
  holds_none : {R : Type 0} {P : Type 0} (m : Rows R) (p : Point) → at m p ≡ None → Holds m p → P
  holds_none m p none h = absurd (let e = sym h ∙ ap is_some none in cc)

  links_none : {P : Type 0} (p q : Point) → Reads work.graph.links p q → P
  links_none p q l = absurd (let z = links p q in omega (arith, z, l))

  pub empty_kept : IsKept arena work
  empty_kept = record {
    step = step;
    rows = λ p. ap is_some (rows p) ∙ sym (ap (λ (x : Option Row). has_part x p.part) (nodes p.node));
    leaves = λ p h. holds_none work.graph.heights p (points p) h;
    there = λ p h. holds_none work.rows p (rows p) h;
    given = λ p h. holds_none work.graph.heights p (points p) h;
    links = λ p q l. links_none p q l;
    heap = λ p h. holds_none work.graph.heap p (heap p) h;
    dead = λ n b d. absurd (none-some b (sym (undied n) ∙ d));
    sound = sound;
    scopes = λ n r b e scope. absurd (none-some r (sym (nodes n) ∙ e));
    older = λ n b r e scope. absurd (none-some r (sym (nodes n) ∙ e));
    outcomes = λ n r k v e is shows. absurd (none-some r (sym (nodes n) ∙ e));
    rights = λ n m r k o e is shows right. absurd (none-some r (sym (nodes n) ∙ e));
    roots = λ n h. holds_none work.roots (change n) (rights (change n)) h;
    binds = λ n r e h. absurd (none-some r (sym (nodes n) ∙ e));
    calls = λ n r k c e is last. absurd (none-some r (sym (nodes n) ∙ e));
    rounds = λ p k e. absurd (none-some k (sym (rows p) ∙ e));
    pairs = λ n r e some. absurd (none-some r (sym (nodes n) ∙ e));
    scoped = λ n r e some. absurd (none-some r (sym (nodes n) ∙ e));
    experts = λ n. ap (λ (x : List ExpertPlace). is_some (expert_at x n)) unlisted ∙ sym (ap is_expert (nodes n));
    listed = λ n. subst (λ (x : List ExpertPlace). Every (Given arena.given) (kids_at x n)) (sym unlisted) tt;
    lists = λ n r f v ns e is. absurd (none-some r (sym (nodes n) ∙ e));
    tops = λ n r e top. absurd (none-some r (sym (nodes n) ∙ e));
    frozen = λ n k e on. absurd (none-some k (sym (rows (main n)) ∙ e));
    rooms = record { calls = λ n r k e is. absurd (none-some r (sym (nodes n) ∙ e)); ran = omega (arith, bare) };
  }

  module _ (ran : work.ran.items ≡ []) (retries : work.retries ≡ all_retries) (round : work.round ≡ 1) where
    pub empty_between : (F : Functions) → IsBetween F arena work
    empty_between F = record {
      kept = empty_kept;
      full = λ p k need e. absurd (none-some k (sym (rows p) ∙ e));
      links = λ p r need e q. absurd (none-some r (sym (nodes p.node) ∙ e));
      owing = λ p need some. absurd (some (owes_partly work true p (ap (λ (x : Option Progress). seen.is_full (stage_in x)) (rows p))));
      fresh = λ p r need e. absurd (none-some r (sym (nodes p.node) ∙ e));
      built = λ n r o e is. absurd (none-some r (sym (nodes n) ∙ e));
      inside = λ n r b e scope. absurd (none-some r (sym (nodes n) ∙ e));
      answers = λ n r ns k c e def is last. absurd (none-some r (sym (nodes n) ∙ e));
      unsettled = λ p. ap (settled_in work.round) (rows p);
      deaths = undied;
      numbered = omega (arith, round);
      retries = retries;
      unfired = λ n r e. absurd (none-some r (sym (nodes n) ∙ e));
      ran = ran;
    }

-- without nodes none stands in a scope
pub empty_scopes : (arena : Arena) (scopes : Scopes) → ((n : NodeId) → row_at arena n ≡ None) → scopes.standing ≡ [] → scopes.killed ≡ []
    → KeepsScopes arena scopes
empty_scopes a scopes nodes standing killed = record {
  stands = λ n b. (
    λ in_scope. absurd (subst (Among (member n b)) standing in_scope),
    λ r. absurd (none-some r.0 (sym (nodes n) ∙ r.1)),
  );
  none = killed;
}

pub empty_ready : (M : Meaning) (parts : Parts) → PartsKept parts → FunctionLaws M.functions M.known M.ids
    → ((n : NodeId) → row_at parts.arena n ≡ None) → IsBetween M.functions parts.arena parts.work → IsReady M parts
empty_ready M parts kept laws nodes between =
    between_is_ready M parts kept laws (λ n r e. absurd (none-some r (sym (nodes n) ∙ e))) between
