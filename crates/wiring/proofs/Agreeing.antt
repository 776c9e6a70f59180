-- What a live node's points are linked to, look at and agree with, in two arenas in which its row is the same, it shows the same by the clock, it is built
-- alike, and keeps the same value and the same list.
use Rattle.std.proofs.Common.{◌≡◌, inl, ℕ, ℤ, ◌==◌, Bool, true, false, if◌then◌else◌, slice_index_or, List, [], ◌++◌, map, Option, None, Some, refl, sym, ap, subst, ◌∙◌}
use Rattle.std.specs.Prelude.{is_some, IsSome}
use Rattle.std.proofs.lemmas.Option.{none-some}
use Rattle.inc_value.specs.declared.node.NodeId.{NodeId}
use Rattle.inc_value.specs.declared.node.Part.{Part}
use Rattle.inc_value.specs.declared.node.Part.TheVariants.{Main, Change}
use Rattle.inc_value.specs.declared.node.Point.{Point}
use Rattle.inc_value.specs.declared.outcome.Outcome.{Outcome}
use Rattle.inc_value.specs.declared.outcome.Outcome.TheVariants.{Val}
use Rattle.inc_value.specs.declared.value.Value.{Value}
use Rattle.inc_value.specs.Choice.{Among, and_then}
use Rattle.inc_terms.specs.declared.def.Def as declared
use Rattle.inc_terms.specs.declared.def.Def.TheVariants as form
use Rattle.inc_terms.specs.Clock.{clock_value}
use Rattle.inc_terms.specs.Code.{def_of}
use Rattle.inc_terms.specs.Depend.{main, change, subject_of, kids_of, unfrozen, main_reads, fixed_reads, right_of, at_most_one}
use Rattle.inc_terms.specs.Graph as graph
use Rattle.inc_terms.specs.Graph.{Graph, Row, Def}
use Rattle.inc_terms.specs.Local.{own, shown, shown_of, IsBuilt, PartAgrees, Agrees}
use Rattle.inc_terms.specs.Plan.{gate_of, targets, right_links, plan}
use Rattle.inc_terms.specs.Term.{Functions}
use Rattle.inc_terms.specs.Work.{predicate_kids, taken_by}
use Rattle.inc_terms.proofs.Crossing.{same_targets, own_crosses}
use Rattle.inc_terms.proofs.Plan.{among_left, among_right}
use Rattle.inc_terms.proofs.Seeing.{gathered_same, own_same, looks}
use Rattle.node_arena.specs.declared.arena.Entry.{Entry}
use Rattle.node_arena.specs.Arena as nodes
use Rattle.node_arena.specs.Arena.{Arena, row_at}
use Rattle.node_arena.specs.Graph.{Holdings, graph_of}
use Rattle.stabilize_round.specs.Invariant.{Recalls}
use Rattle.stabilize_round.specs.State.{Call}

pub same_some : {A : Type 0} {x y : A} → ◌≡◌ {A = Option A} (Some x) (Some y) → x ≡ y
same_some e = cc

-- ---- right sides

-- a definition without a subject has no right side
right_none : (G : Graph) (n : NodeId) (def : Def) → subject_of def ≡ None → (o : Outcome) → right_of G n def o ≡ None
right_none G n (graph.If t a b) e o = absurd (cc)
right_none G n (graph.Join k) e o = absurd (cc)
right_none G n (graph.Bind l f caps) e o = absurd (cc)
right_none G n _ e o = refl

pub no_target : (G : Graph) (n : NodeId) (def : Def) → subject_of def ≡ None → (x : Option Outcome) → targets G n def x ≡ []
no_target G n def e None = refl
no_target G n def e (Some o) = ap (λ (m : Option NodeId). map main (at_most_one m)) (right_none G n def e o)

-- a main with a subject reads its own change
pub reads_change : (G : Graph) (n : NodeId) (def : Def) → IsSome (subject_of def) → Among (change n) (fixed_reads G n def Main)
reads_change G n def some = by_subject (subject_of def) some
  where
    by_subject : (x : Option NodeId) → IsSome x → Among (change n) (main_reads n x (kids_of G n def))
    by_subject None h = absurd (cc)
    by_subject (Some m) h = inl refl

-- ---- links

-- a node that keeps the same value and the same list has the same children
pub kids_same : (G G' : Graph) (n : NodeId) (def : Def) → G'.frozen n ≡ G.frozen n → G'.lists n ≡ G.lists n → kids_of G' n def ≡ kids_of G n def
kids_same G G' n (graph.Freeze kid f) frozen lists = ap (unfrozen kid) frozen
kids_same G G' n (graph.Expert f v ns) frozen lists = lists
kids_same G G' n _ frozen lists = refl

-- its function takes the same
pub taken_same : (G G' : Graph) (n : NodeId) (def : Def) → G'.frozen n ≡ G.frozen n → G'.lists n ≡ G.lists n → taken_by G' n def ≡ taken_by G n def
taken_same G G' n (graph.Freeze kid f) frozen lists = ap (predicate_kids kid) frozen
taken_same G G' n (graph.Expert f v ns) frozen lists = ap Some lists
taken_same G G' n _ frozen lists = refl

module _ (before arena : Arena) (held held' : Holdings) (out out' : Point → Option Outcome) (p : Point) (r : Row)
    (same : held'.built p.node ≡ held.built p.node) (frozen : held'.frozen p.node ≡ held.frozen p.node) (lists : held'.lists p.node ≡ held.lists p.node)
    (own : p.part ≡ Main → IsSome (subject_of r.def) → out' (change p.node) ≡ out (change p.node)) where
  targets_by : p.part ≡ Main → (x : Option NodeId) → subject_of r.def ≡ x
      → targets (graph_of arena held') p.node r.def (out' (change p.node)) ≡ targets (graph_of before held) p.node r.def (out (change p.node))
  targets_by is None e =
      no_target (graph_of arena held') p.node r.def e (out' (change p.node)) ∙ sym (no_target (graph_of before held) p.node r.def e (out (change p.node)))
  targets_by is (Some m) e =
      ap (λ (x : Option Outcome). targets (graph_of arena held') p.node r.def x) (own is (ap is_some e))
      ∙ same_targets (graph_of before held) (graph_of arena held') p.node r.def (out (change p.node)) same

  fixed_by : (part : Part) → fixed_reads (graph_of arena held') p.node r.def part ≡ fixed_reads (graph_of before held) p.node r.def part
  fixed_by Change = refl
  fixed_by Main = ap (main_reads p.node (subject_of r.def)) (kids_same (graph_of before held) (graph_of arena held') p.node r.def frozen lists)

  looks_by : (part : Part) → p.part ≡ part
      → fixed_reads (graph_of arena held') p.node r.def part ++ right_links (graph_of arena held') out' p.node r.def part
      ≡ fixed_reads (graph_of before held) p.node r.def part ++ right_links (graph_of before held) out p.node r.def part
  looks_by Change is = refl
  looks_by Main is = ap (λ (xs : List Point). xs ++ targets (graph_of arena held') p.node r.def (out' (change p.node))) (fixed_by Main)
      ∙ ap (λ (xs : List Point). fixed_reads (graph_of before held) p.node r.def Main ++ xs) (targets_by is (subject_of r.def) refl)

  pub plan_same : plan (graph_of arena held') out' p r ≡ plan (graph_of before held) out p r
  plan_same = ap (λ (xs : List Point). gate_of r.scope ++ xs) (looks_by p.part refl)

-- a point of a node without children and without a subject has no links but its gate's
module _ (G : Graph) (out : Point → Option Outcome) (n : NodeId) where
  var_looks : (part : Part) (def : Def) (v : Value) → def ≡ graph.Var v → fixed_reads G n def part ++ right_links G out n def part ≡ []
  var_looks Change def v e = rw e refl
  var_looks Main def v e = rw (e, no_target G n (graph.Var v) refl (out (change n))) refl

pub var_plan : (G : Graph) (out : Point → Option Outcome) (p : Point) (r : Row) (v : Value) → r.def ≡ graph.Var v → plan G out p r ≡ gate_of r.scope ++ []
var_plan G out p r v e = ap (λ (xs : List Point). gate_of r.scope ++ xs) (var_looks G out p.node p.part r.def v e)

-- ---- the code's definitions

by_test : (x : Entry) (r : Row) (b : Bool) → (if b then Some (nodes.row_of x.row) else None) ≡ Some r → (d : declared.Def) × (r.def ≡ def_of d)
by_test x r true e = (x.row.def, sym (ap (λ (y : Row). y.def) (same_some e)))
by_test x r false e = absurd (none-some r e)

by_entry : (g : ℕ) (r : Row) (o : Option Entry) → and_then o (λ (e : Entry). if e.gen_ == g then Some (nodes.row_of e.row) else None) ≡ Some r
    → (d : declared.Def) × (r.def ≡ def_of d)
by_entry g r None h = absurd (none-some r h)
by_entry g r (Some x) h = by_test x r (x.gen_ == g) h

-- an arena's rows are of the code's definitions
pub code_row : (a : Arena) (n : NodeId) (r : Row) → row_at a n ≡ Some r → (d : declared.Def) × (r.def ≡ def_of d)
code_row a n r e = by_entry n.gen_ r (slice_index_or a.slots n.slot None) e

-- a freeze that keeps no value yet reads its child
predicate_reads : (kid : NodeId) (ns : List NodeId) (x : Option Value) → predicate_kids kid x ≡ Some ns → map main (unfrozen kid x) ≡ map main ns
predicate_reads kid ns None e = ap (map main) (same_some e)
predicate_reads kid ns (Some v) e = absurd (none-some ns e)

-- what a node's function is called on its main reads
taken_read : (G : Graph) (n : NodeId) (ns : List NodeId) (d : declared.Def) → taken_by G n (def_of d) ≡ Some ns
    → fixed_reads G n (def_of d) Main ≡ map main ns
taken_read G n ns (form.Map g ks) e = ap (map main) (same_some e)
taken_read G n ns (form.Fold g v ks) e = ap (map main) (same_some e)
taken_read G n ns (form.Freeze kid g) e = predicate_reads kid ns (G.frozen n) e
taken_read G n ns (form.Expert g v) e = ap (map main) (same_some e)
taken_read G n ns _ e = absurd (cc)

-- what has no subject isn't built
pub one_point_built : (F : Functions) (G : Graph) (n : NodeId) (def : Def) (o : Outcome) → subject_of def ≡ None → IsBuilt F G n def o
one_point_built F G n (graph.Bind l f caps) o one = absurd (none-some l (sym one))
one_point_built F G n _ o one = tt

-- ---- agreement

abbrev outcome_by : Option Value → Option Outcome
outcome_by None = None
outcome_by (Some v) = Some (Val v)

-- at a time at which a node shows the same by the clock its own function sees the same
own_at : (F : Functions) (G : Graph) (time : ℤ) (see : Point → Option Outcome) (n : NodeId) (def : Def) → clock_value G.now def ≡ clock_value time def
    → own F G see n def ≡ own F (record G { now = time }) see n def
own_at F G time see n (graph.At t) same = ap outcome_by same
own_at F G time see n (graph.Steps v steps) same = ap outcome_by same
own_at F G time see n graph.Now same = ap outcome_by same
own_at F G time see n (graph.Every base span) same = ap outcome_by same
own_at F G time see n _ same = refl

module _ (F : Functions) (before arena : Arena) (held held' : Holdings) (out out' : Point → Option Outcome) (p : Point) (r : Row)
    (row : row_at before p.node ≡ Some r) (row' : row_at arena p.node ≡ Some r) (here : out' p ≡ out p)
    (clock : clock_value arena.time r.def ≡ clock_value before.time r.def)
    (same_built : held'.built p.node ≡ held.built p.node)
    (same_frozen : held'.frozen p.node ≡ held.frozen p.node) (same_lists : held'.lists p.node ≡ held.lists p.node)
    (still_built : (o : Outcome) → IsBuilt F (graph_of before held) p.node r.def o → IsBuilt F (graph_of arena held') p.node r.def o)
    (looked : (q : Point) → Among q (looks (graph_of before held) out p r) → shown (graph_of arena held') out' q ≡ shown (graph_of before held) out q) where
  abbrev G : Graph
  G = graph_of before held

  abbrev G' : Graph
  G' = graph_of arena held'

  read : (q : Point) → Among q (fixed_reads G p.node r.def p.part) → shown G' out' q ≡ shown G out q
  read q a = looked q (among_left q (fixed_reads G p.node r.def p.part) _ a)

  -- its own function sees the same in both
  own_alike : own F G' (shown G' out') p.node r.def ≡ own F G (shown G' out') p.node r.def
  own_alike = own_at F G' before.time (shown G' out') p.node r.def clock
      ∙ own_crosses G (record G' { now = before.time }) p.node F (shown G' out') refl same_frozen same_lists same_built r.def

  part_agrees : (part : Part) → p.part ≡ part → PartAgrees F G out p.node r.def part → PartAgrees F G' out' p.node r.def part
  part_agrees Main is o =
      let at_change : shown G out (change p.node) ≡ out (change p.node) = ap (λ (x : Option Row). shown_of x (out (change p.node))) row in
      let same = own_same F G (shown G out) (shown G' out') p.node r.def (λ q a. read q (rw is a))
      (λ q a. looked q (among_right q (fixed_reads G p.node r.def p.part) _ (rw is (rw at_change at a)))) in
      let mine : main p.node ≡ p = λ i. record { node = p.node; part = is' i } in
      (o.0, rw (mine, here, ← mine) o.1, own_alike ∙ (same ∙ o.2))
    where
      is' : Main ≡ p.part
      is' = sym is
  part_agrees Change is o = λ s sub.
      let x = o s sub in
      let mine : change p.node ≡ p = λ i. record { node = p.node; part = is' i } in
      let seen = read (main s) (rw (is, sub) (inl refl)) in
      (x.0, rw (mine, here, ← mine) x.1, seen ∙ x.2, still_built x.0 x.3)
    where
      is' : Change ≡ p.part
      is' = sym is

  pub agrees_still : Agrees F G out p → Agrees F G' out' p
  agrees_still agrees r'' e =
      let same : r ≡ r'' = same_some (sym row' ∙ e) in
      subst (λ (x : Row). PartAgrees F G' out' p.node x.def p.part) same (part_agrees p.part refl (agrees r row))

  pub recalls_still : (last last' : NodeId → Option Call) → (p.part ≡ Main → last' p.node ≡ last p.node) → Recalls G (shown G out) last p
      → Recalls G' (shown G' out') last' p
  recalls_still last last' lasts recalls r'' kids values e part takes values_are =
      let same : r'' ≡ r = same_some (sym e ∙ row') in
      let takes' : taken_by G p.node r.def ≡ Some kids =
      sym (taken_same G G' p.node r.def same_frozen same_lists) ∙ (ap (λ (x : Row). taken_by G' p.node x.def) (sym same) ∙ takes) in
      let d = code_row before p.node r row in
      let reads : fixed_reads G p.node r.def p.part ≡ map main kids =
      ap (λ (x : Part). fixed_reads G p.node r.def x) part
      ∙ (ap (λ (x : Def). fixed_reads G p.node x Main) d.1
      ∙ taken_read G p.node kids d.0 (sym (ap (taken_by G p.node) d.1) ∙ takes')) in
      let c = recalls r kids values row part takes'
      (sym (gathered_same F G (shown G out) (shown G' out') kids (λ q a. read q (subst (Among q) (sym reads) a))) ∙ values_are) in
      (c.0, lasts part ∙ c.1, c.2)
