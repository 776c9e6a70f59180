-- Whatever is needed of the script has a node that is needed over the graph, once the graph is right.
use Rattle.std.proofs.Common.{◌≡◌, ◌⊎◌, inl, inr, ℕ, zero, suc, ◌+◌, true, false, List, [], ◌∷◌, ◌++◌, map, Option, None, Some, refl, sym, ap, ◌∙◌, subst, arith, slice_get}
use Rattle.std.specs.Prelude as std
use Rattle.inc_value.specs.declared.function.FnRef.{FnRef}
use Rattle.inc_value.specs.declared.node.NodeId.{NodeId}
use Rattle.inc_value.specs.declared.node.Part.TheVariants.{Main}
use Rattle.inc_value.specs.declared.node.Point.{Point}
use Rattle.inc_value.specs.declared.outcome.Outcome.{Outcome as GraphOutcome}
use Rattle.inc_value.specs.declared.outcome.Outcome.TheVariants as outcome
use Rattle.inc_value.specs.declared.value.Value.TheVariants as held
use Rattle.inc_value.specs.Choice.{Among, Reaches, here, step, and_then}
use Rattle.inc_terms.specs.Depend as depend
use Rattle.inc_terms.specs.Depend.{main, change, Depends, subject_of, fixed_reads, right_of}
use Rattle.inc_terms.specs.Evaluate.{NodeGives, Of}
use Rattle.inc_terms.specs.Graph as graph
use Rattle.inc_terms.specs.Graph.{Row, Def}
use Rattle.inc_terms.specs.Local.{Exact, IsBuilt}
use Rattle.inc_terms.specs.Need.{Needed as GraphNeeded}
use Rattle.inc_terms.specs.Same.{same_outcome}
use Rattle.inc_terms.specs.Term as term
use Rattle.inc_terms.specs.Term.{refs}
use Rattle.inc_terms.proofs.Evaluation.{one_outcome as engine_one}
use Rattle.inc_terms.proofs.Local.{needed_more}
use Rattle.inc_terms.proofs.Same.{outcome_decides}
use Rattle.script_model.specs.Values as script_value
use Rattle.script_model.specs.Values.{Value, Outcome, Val, Invalid, same_value}
use Rattle.script_model.specs.Formula as script
use Rattle.script_model.specs.Formula.{Formula, Formulas, Body, body_at, Literal, Name, Bound, Apply, Fold, If, Join, Bind, At, Steps, Now, End, More, Variable, Computed, Freeze, After, Every, Expert, Grab}
use Rattle.script_model.specs.Evaluate.{value_at}
use Rattle.script_model.specs.Need.{Edge, Argument, Test, Then, Else, Child, Left, Inside, Item, Named, Place, environment, bind_around, argument_at, part_at, formula_at, outcome_at, ItemGives, argument_places, chosen_place, named_place, inside_place, part_reads, left_of, scope_reads, place_reads, grab_reads, name_reads, Reads, Needed, roots}
use Rattle.script_model.proofs.Evaluation.{one_outcome}
use Rattle.script_model.proofs.Places.{same_values}
use Rattle.script_model.proofs.TypedCalls.{part_is}
use Rattle.transfer.specs.Both.{Both, graph_value, graph_outcome}
use Rattle.transfer.specs.Shows.{Mode, Built, Binding, Opens, graph_step, Shows, ShowsAll, Declares, Lost, Fits}
use Rattle.transfer.specs.Items.{part_node, root_at, node_at, around, scope_at, GrabsBind, RootsHave}
use Rattle.transfer.proofs.Places.{binding, map_parts, fold_parts, part_above, then_some, plain_map, plain_fold, plain_if, plain_join, plain_bind, opened, place_shows}
use Rattle.transfer.proofs.Carriers.{name_or, place_agrees}
use Rattle.transfer.specs.Cycles.{IsForm}
use Rattle.transfer.proofs.Agreement.{live_facts}
use Rattle.transfer.proofs.Stepping.{row_scope, bound_or}
use Rattle.transfer.proofs.Enclosed.{needed_enclosed, needed_reads, root_named}

-- where the binds round a place are
pub scope_is : (x : Both) (owner : ℕ) (path bind : List Edge) → bind_around 0 path ≡ Some bind
    → scope_at x owner path ≡ node_at x owner bind
scope_is x owner [] bind e = absurd (cc)
scope_is x owner (Inside v ∷ path) bind e = let same : path ≡ bind = cc in rw same refl
scope_is x owner (Argument j ∷ path) bind e = scope_is x owner path bind e
scope_is x owner (Test ∷ path) bind e = scope_is x owner path bind e
scope_is x owner (Then ∷ path) bind e = scope_is x owner path bind e
scope_is x owner (Else ∷ path) bind e = scope_is x owner path bind e
scope_is x owner (Child ∷ path) bind e = scope_is x owner path bind e
scope_is x owner (Left ∷ path) bind e = scope_is x owner path bind e

variable_is : (x : Both) (owner : ℕ) (path bind : List Edge) → bind_around 0 path ≡ Some bind → (b : Binding)
    → slice_get (around x owner path) 0 ≡ Some b → b.mode ≡ Built (node_at x owner bind)
variable_is x owner [] bind e b g = absurd (cc)
variable_is x owner (Inside v ∷ path) bind e b g =
    let same : path ≡ bind = cc in
    let e' : binding v (Built (node_at x owner path)) ≡ b = cc in
    rw same at (sym (ap (λ (c : Binding). c.mode) e'))
variable_is x owner (Argument j ∷ path) bind e b g = variable_is x owner path bind e b g
variable_is x owner (Test ∷ path) bind e b g = variable_is x owner path bind e b g
variable_is x owner (Then ∷ path) bind e b g = variable_is x owner path bind e b g
variable_is x owner (Else ∷ path) bind e b g = variable_is x owner path bind e b g
variable_is x owner (Child ∷ path) bind e b g = variable_is x owner path bind e b g
variable_is x owner (Left ∷ path) bind e b g = variable_is x owner path bind e b g

pub kid_there : (x : Both) (m : Mode) (E : List Binding) (kids : List NodeId) (fs : Formulas) (j : ℕ) (f : Formula)
    → ShowsAll x m E (refs kids) fs → argument_at fs j ≡ Some f
    → (n : NodeId) × (slice_get kids j ≡ Some n)
kid_there x m E kids End j f h e = absurd (cc)
kid_there x m E [] (More g fs) j f h e = absurd h
kid_there x m E (k ∷ kids) (More g fs) zero f h e = (k, refl)
kid_there x m E (k ∷ kids) (More g fs) (suc j) f h e = kid_there x m E kids fs j f h.1 e

kid_main : (ns : List NodeId) (j : ℕ) (n : NodeId) → slice_get ns j ≡ Some n → Among (main n) (map main ns)
kid_main [] j n e = absurd (cc)
kid_main (m ∷ ns) zero n e = let same : n ≡ m = cc in inl (ap main same)
kid_main (m ∷ ns) (suc j) n e = inr (kid_main ns j n e)

-- an argument's place
argument_is : (owner : ℕ) (path : List Edge) (k : ℕ) (fs : Formulas) (i : Item)
    → Among i (argument_places owner path k fs) → (j : ℕ) × (f : Formula)
    × (i ≡ Place owner (Argument (k + j) ∷ path)) × (argument_at fs j ≡ Some f)
argument_is owner path k End i none = absurd none
argument_is owner path k (More f fs) i (inl e) =
    let same : k ≡ k + 0 = omega arith in (0, f, e ∙ ap (λ j. Place owner (Argument j ∷ path)) same, refl)
argument_is owner path k (More f fs) i (inr later) =
    let r = argument_is owner path (suc k) fs i later in
    let same : suc k + r.0 ≡ k + suc r.0 = omega arith in
    (suc r.0, r.1, r.2 ∙ ap (λ j. Place owner (Argument j ∷ path)) same, r.3)

pub either_list : {A : Type 0} (a : A) (xs ys : List A) → Among a (xs ++ ys) → Among a xs ⊎ Among a ys
either_list a [] ys h = inr h
either_list a (x ∷ xs) ys (inl e) = inl (inl e)
either_list a (x ∷ xs) ys (inr h) = elim (either_list a xs ys h) [ inl l ↦ inl (inr l) | inr r ↦ inr r ]

row_of : (x : Both) (S : Option NodeId) (E : List Binding) (n : NodeId) (f : Formula) → IsForm f
    → ((k : ℕ) → f ≡ Bound k → ⊥) → Shows x (Built S) E (term.Ref n) f → (r : Row) × (x.graph.row n ≡ Some r)
row_of x S E n (Name t) form free shows = absurd form
row_of x S E n (Bound k) form free shows = absurd (free k refl)
row_of x S E n (Literal v) form free shows =
    let o = opened x.graph S n (term.Const (graph_value x.nodes v)) shows in (o.0, o.1)
row_of x S E n (Apply g fs) form free shows = let o = opened x.graph S n (term.Map g shows.0) shows.1 in (o.0, o.1)
row_of x S E n (Fold g v fs) form free shows =
    let o = opened x.graph S n (term.Fold g (graph_value x.nodes v) shows.0) shows.1 in (o.0, o.1)
row_of x S E n (If t a b) form free shows =
    let o = opened x.graph S n (term.If shows.0 shows.1 shows.2) shows.3 in (o.0, o.1)
row_of x S E n (Join c) form free shows = let o = opened x.graph S n (term.Join shows.0) shows.1 in (o.0, o.1)
row_of x S E n (Bind l b) form free shows =
    let o = opened x.graph S n (term.Bind shows.0 shows.1 shows.2) shows.3 in (o.0, o.1)
row_of x S E n (At t) form free shows = let o = opened x.graph S n (term.At (std.pos t)) shows in (o.0, o.1)
row_of x S E n (Steps v ss) form free shows =
    let o = opened x.graph S n (term.Steps (graph_value x.nodes v) (map (graph_step x.nodes) ss)) shows in (o.0, o.1)
row_of x S E n Now form free shows = let o = opened x.graph S n term.Now shows in (o.0, o.1)

-- the innermost bind round a place that has a node has one too, and is a bind
pub bind_round : (x : Both) (owner : ℕ) (path bind : List Edge) (f : Formula) (n : NodeId) → node_at x owner path ≡ Some n
    → formula_at x.state owner path ≡ Some f → bind_around 0 path ≡ Some bind
    → (b : NodeId) × (l : Formula) × (body : Formula) × (node_at x owner bind ≡ Some b)
    × (formula_at x.state owner bind ≡ Some (Bind l body))
bind_round x owner [] bind f n at f_is e = absurd (cc)
bind_round x owner (Inside v ∷ path) bind f n at f_is e =
    let above = part_above x.state owner path (Inside v) f f_is in
    let node = then_some (node_at x owner path) (λ b. and_then (x.graph.built b) (root_at x.nodes v)) n at in
    let same : path ≡ bind = cc in
    go above.0 node.0 same above.2 above.1 node.1
  where
    go : (g : Formula) (b : NodeId) → path ≡ bind → part_at g (Inside v) ≡ Some f
        → formula_at x.state owner path ≡ Some g → node_at x owner path ≡ Some b
        → (b : NodeId) × (l : Formula) × (body : Formula) × (node_at x owner bind ≡ Some b)
        × (formula_at x.state owner bind ≡ Some (Bind l body))
    go (Bind l body) b same part g_is at = (b, l, body, rw same at at, rw same at g_is)
    go g b same part g_is at = absurd (cc)
bind_round x owner (Argument j ∷ path) bind f n at f_is e =
    let above = part_above x.state owner path (Argument j) f f_is in
    let node = then_some (node_at x owner path)
    (λ b. and_then (x.graph.row b) (λ r. part_node r.def (Argument j))) n at in
    bind_round x owner path bind above.0 node.0 node.1 above.1 e
bind_round x owner (Test ∷ path) bind f n at f_is e =
    let above = part_above x.state owner path Test f f_is in
    let node = then_some (node_at x owner path) (λ b. and_then (x.graph.row b) (λ r. part_node r.def Test)) n at in
    bind_round x owner path bind above.0 node.0 node.1 above.1 e
bind_round x owner (Then ∷ path) bind f n at f_is e =
    let above = part_above x.state owner path Then f f_is in
    let node = then_some (node_at x owner path) (λ b. and_then (x.graph.row b) (λ r. part_node r.def Then)) n at in
    bind_round x owner path bind above.0 node.0 node.1 above.1 e
bind_round x owner (Else ∷ path) bind f n at f_is e =
    let above = part_above x.state owner path Else f f_is in
    let node = then_some (node_at x owner path) (λ b. and_then (x.graph.row b) (λ r. part_node r.def Else)) n at in
    bind_round x owner path bind above.0 node.0 node.1 above.1 e
bind_round x owner (Child ∷ path) bind f n at f_is e =
    let above = part_above x.state owner path Child f f_is in
    let node = then_some (node_at x owner path) (λ b. and_then (x.graph.row b) (λ r. part_node r.def Child)) n at in
    bind_round x owner path bind above.0 node.0 node.1 above.1 e
bind_round x owner (Left ∷ path) bind f n at f_is e =
    let above = part_above x.state owner path Left f f_is in
    let node = then_some (node_at x owner path) (λ b. and_then (x.graph.row b) (λ r. part_node r.def Left)) n at in
    bind_round x owner path bind above.0 node.0 node.1 above.1 e

given_at : (x : Both) (owner : ℕ) (path : List Edge) (f g : Formula) (edge : Edge) (p : Outcome)
    → formula_at x.state owner path ≡ Some f → part_at f edge ≡ Some g → environment (edge ∷ path) ≡ environment path
    → ItemGives x.meanings x.state (Place owner (edge ∷ path)) p
    → (d : ℕ) × (value_at x.meanings x.state d (environment path) g ≡ Some p)
given_at x owner path f g edge p f_is part same (d, gives) =
    (d, rw (part_is x.state owner path f edge f_is, part, same) at gives)

pub right_then : (x : Both) (n t y z : NodeId) (def : Def) (o : GraphOutcome) → def ≡ graph.If t y z
    → o ≡ outcome.Val (held.Bool true) → right_of x.graph n def o ≡ Some y
right_then x n t y z def o e e' = rw (e, e') refl

pub right_else : (x : Both) (n t y z : NodeId) (def : Def) (o : GraphOutcome) → def ≡ graph.If t y z
    → o ≡ outcome.Val (held.Bool false) → right_of x.graph n def o ≡ Some z
right_else x n t y z def o e e' = rw (e, e') refl

pub right_named : (x : Both) (n k : NodeId) (def : Def) (o : GraphOutcome) (t : ℕ) (b : _) → def ≡ graph.Join k
    → o ≡ graph_outcome x.nodes (Val (script_value.Reference t b)) → right_of x.graph n def o ≡ Some (x.nodes t)
right_named x n k def o t b e e' = rw (e, e') refl

pub bind_built : (x : Both) (n l : NodeId) (h : FnRef) (caps : List NodeId) (def : Def) (o : GraphOutcome)
    → def ≡ graph.Bind l h caps → IsBuilt x.functions x.graph n def o
    → IsBuilt x.functions x.graph n (graph.Bind l h caps) o
bind_built x n l h caps def o e b = rw e at b

module _ (x : Both) (fits : Fits x) (grabs : GrabsBind x.state) (died : NodeId → Option NodeId)
    (out : Point → Option GraphOutcome) (Y : Point → Type 0)
    (on : (p q : Point) → Y p → Depends x.functions x.graph died p q → Y q)
    (exact : (p : Point) → Y p → Exact x.functions x.graph out p)
    (deaths : (n b : NodeId) → x.died n ≡ Some b → died n ≡ Some b) where
  -- the item has a node, whose points are of the set; the left of a bind has the bind's change there
  abbrev pub HasPlace : ℕ → List Edge → Type 0
  HasPlace owner path = (n : NodeId) × (node_at x owner path ≡ Some n) × Y (main n)

  abbrev pub HasLeft : ℕ → List Edge → Type 0
  HasLeft owner (Left ∷ path) = (b : NodeId) × (node_at x owner path ≡ Some b) × Y (change b)
  HasLeft owner path = Unit {0}

  abbrev pub Has : Item → Type 0
  Has (Named k) = Y (main (x.nodes k))
  Has (Place owner path) = HasPlace owner path × HasLeft owner path

  abbrev AllHave : List Item → Type 0
  AllHave items = (i : Item) → Among i items → Has i

  none_have : AllHave []
  none_have i none = absurd none

  more_have : (i : Item) (items : List Item) → Has i → AllHave items → AllHave (i ∷ items)
  more_have i items h rest j (inl e) = rw e h
  more_have i items h rest j (inr later) = rest j later

  -- a step to a fixed read
  to_fixed : (n : NodeId) (r : Row) (q : Point) → x.graph.row n ≡ Some r → Y (main n)
      → Among q (fixed_reads x.graph n r.def Main) → Y q
  to_fixed n r q row y among = on (main n) q y (depend.fixed row ((exact (main n) y r row).0) among)

  to_subject : (n s : NodeId) (r : Row) → x.graph.row n ≡ Some r → Y (change n) → subject_of r.def ≡ Some s
      → Y (main s)
  to_subject n s r row y sub =
      on (change n) (main s) y (depend.fixed row ((exact (change n) y r row).0) (rw sub (inl refl)))

  to_change : (n s : NodeId) (r : Row) → x.graph.row n ≡ Some r → Y (main n) → subject_of r.def ≡ Some s
      → Y (change n)
  to_change n s r row y sub = to_fixed n r (change n) row y (rw sub (inl refl))

  to_right : (n s m : NodeId) (r : Row) (o : GraphOutcome) → x.graph.row n ≡ Some r → Y (main n)
      → subject_of r.def ≡ Some s → NodeGives x.functions x.graph s o → right_of x.graph n r.def o ≡ Some m
      → Y (main m)
  to_right n s m r o row y sub gives right =
      on (main n) (main m) y (depend.right row ((exact (main n) y r row).0) refl sub gives (rw right (inl refl)) refl)

  to_gate : (p : Point) (r : Row) (b : NodeId) → x.graph.row p.node ≡ Some r → r.scope ≡ Some b → Y p → Y (change b)
  to_gate p r b row scope y = on p (change b) y (depend.gate row scope refl)

  -- the subject's outcome, as the item gives it
  pub subject_has : (owner : ℕ) (path : List Edge) (f g : Formula) (edge : Edge) (n s : NodeId) (r : Row) (d : ℕ)
      (p : Outcome) → formula_at x.state owner path ≡ Some f → part_at f edge ≡ Some g
      → node_at x owner (edge ∷ path) ≡ Some s → scope_at x owner (edge ∷ path) ≡ r.scope
      → environment (edge ∷ path) ≡ environment path → x.graph.row n ≡ Some r → subject_of r.def ≡ Some s
      → Y (change n)
      → value_at x.meanings x.state d (environment path) g ≡ Some p
      → (o : GraphOutcome) × NodeGives x.functions x.graph s o × (o ≡ graph_outcome x.nodes p)
  subject_has owner path f g edge n s r d p f_is part at scope same row sub y gives =
      let e = exact (change n) y r row in
      let run = e.1 s sub in
      let w = place_agrees x fits owner (edge ∷ path) g s run.0 (part_is x.state owner path f edge f_is ∙ part) at
      (rw scope e.0) run.2 in
      let same' : w.0 ≡ p =
      one_outcome x.meanings x.state (environment path) g w.0 p
      (given_at x owner path f g edge w.0 f_is part same w.2) (d, gives) in
      (run.0, run.2, rw same' at w.1)

  -- ---- what a place reads

  arguments_have : (owner : ℕ) (path : List Edge) (fs : Formulas) (n : NodeId) (r : Row) (kids : List NodeId)
      → node_at x owner path ≡ Some n → x.graph.row n ≡ Some r
      → ((j : ℕ) → part_node r.def (Argument j) ≡ slice_get kids j)
      → ShowsAll x (Built (scope_at x owner path)) (around x owner path) (refs kids) fs
      → ((q : Point) → Among q (map main kids) → Y q) → AllHave (argument_places owner path 0 fs)
  arguments_have owner path fs n r kids at row parts all reads i among =
      let a = argument_is owner path 0 fs i among in
      let kid = kid_there x (Built (scope_at x owner path)) (around x owner path) kids fs a.0 a.1 all a.3 in
      let zero_more : 0 + a.0 ≡ a.0 = omega arith in
      let same : i ≡ Place owner (Argument a.0 ∷ path) = a.2 ∙ ap (λ j. Place owner (Argument j ∷ path)) zero_more in
      subst (λ (i : Item). Has i) (sym same) (argument_has a.0 kid.0 kid.1)
    where
      argument_has : (j : ℕ) (m : NodeId) → slice_get kids j ≡ Some m → Has (Place owner (Argument j ∷ path))
      argument_has j m e = ((m, rw (at, row) (parts j ∙ e), reads (main m) (kid_main kids j m e)), tt)

  side_has : (owner : ℕ) (path : List Edge) (test a b : Formula) (n : NodeId) (r : Row) (t y z : NodeId) (d : ℕ)
      (o : Option Outcome) → node_at x owner path ≡ Some n
      → formula_at x.state owner path ≡ Some (If test a b) → x.graph.row n ≡ Some r → r.scope ≡ scope_at x owner path
      → r.def ≡ graph.If t y z → Y (main n) → Y (change n)
      → value_at x.meanings x.state d (environment path) test ≡ o → AllHave (chosen_place owner path o)
  side_has owner path test a b n r t y z d (Some (Val (script_value.Bool true))) at f_is row scope def m c gives =
      let g = subject_has owner path (If test a b) test Test n t r d (Val (script_value.Bool true)) f_is refl
      (rw (at, row, def) refl) (sym scope) refl row (rw def refl) c gives in
      more_have (Place owner (Then ∷ path)) [] (
        (
          y,
          rw (at, row, def) refl,
          to_right n t y r g.0 row m (rw def refl) g.1
              (right_then x n t y z r.def g.0 def g.2),
        ),
        tt,
      ) none_have
  side_has owner path test a b n r t y z d (Some (Val (script_value.Bool false))) at f_is row scope def m c gives =
      let g = subject_has owner path (If test a b) test Test n t r d (Val (script_value.Bool false)) f_is refl
      (rw (at, row, def) refl) (sym scope) refl row (rw def refl) c gives in
      more_have (Place owner (Else ∷ path)) [] (
        (
          z,
          rw (at, row, def) refl,
          to_right n t z r g.0 row m (rw def refl) g.1
              (right_else x n t y z r.def g.0 def g.2),
        ),
        tt,
      ) none_have
  side_has owner path test a b n r t y z d o at f_is row scope def m c gives = none_have

  named_has : (owner : ℕ) (path : List Edge) (child : Formula) (n : NodeId) (r : Row) (k : NodeId) (d : ℕ)
      (o : Option Outcome) → node_at x owner path ≡ Some n
      → formula_at x.state owner path ≡ Some (Join child) → x.graph.row n ≡ Some r → r.scope ≡ scope_at x owner path
      → r.def ≡ graph.Join k → Y (main n) → Y (change n)
      → value_at x.meanings x.state d (environment path) child ≡ o → AllHave (named_place o)
  named_has owner path child n r k d (Some (Val (script_value.Reference t b))) at f_is row scope def m c gives =
      let g = subject_has owner path (Join child) child Child n k r d (Val (script_value.Reference t b)) f_is refl
      (rw (at, row, def) refl) (sym scope) refl row (rw def refl) c gives in
      more_have (Named t) [] (to_right n k (x.nodes t) r g.0 row m (rw def refl) g.1
      (right_named x n k r.def g.0 t b def g.2)) none_have
  named_has owner path child n r k d o at f_is row scope def m c gives = none_have

  inside_has : (owner : ℕ) (path : List Edge) (left body : Formula) (n : NodeId) (r : Row) (l : NodeId) (h : FnRef)
      (caps : List NodeId) (d : ℕ) (o : Option Outcome) → node_at x owner path ≡ Some n
      → formula_at x.state owner path ≡ Some (Bind left body) → x.graph.row n ≡ Some r
      → r.scope ≡ scope_at x owner path → r.def ≡ graph.Bind l h caps → Y (main n) → Y (change n)
      → value_at x.meanings x.state d (environment path) left ≡ o → AllHave (inside_place owner path o)
  inside_has owner path left body n r l h caps d None at f_is row scope def m c gives = none_have
  inside_has owner path left body n r l h caps d (Some Invalid) at f_is row scope def m c gives = none_have
  inside_has owner path left body n r l h caps d (Some (Val v)) at f_is row scope def m c gives =
      let g = subject_has owner path (Bind left body) left Left n l r d (Val v) f_is refl (rw (at, row, def) refl)
      (sym scope) refl row (rw def refl) c gives in
      let run = (exact (change n) c r row).1 l (rw def refl) in
      let built = bind_built x n l h caps r.def run.0 def run.3 in
      let same : run.0 ≡ g.0 = engine_one x.functions x.graph (Of (term.Ref l)) run.0 g.0 run.2 g.1 in
      let for_v : built.0.outcome ≡ outcome.Val (graph_value x.nodes v) = built.2 ∙ same ∙ g.2 in
      let root = built.3.unfolds (graph_value x.nodes v) for_v in
      root_has g.0 g.1 g.2 built.0 built.1 for_v root.0 root.1
    where
      same_v : same_outcome (outcome.Val (graph_value x.nodes v)) (outcome.Val (graph_value x.nodes v)) ≡ true
      same_v = (outcome_decides (outcome.Val (graph_value x.nodes v)) (outcome.Val (graph_value x.nodes v))).1 refl

      root_has : (o : GraphOutcome) → NodeGives x.functions x.graph l o → o ≡ outcome.Val (graph_value x.nodes v)
          → (w : graph.Built) → x.graph.built n ≡ Some w → w.outcome ≡ outcome.Val (graph_value x.nodes v)
          → (root : NodeId)
          → w.root ≡ Some root → AllHave (Place owner (Inside v ∷ path) ∷ [])
      root_has o gives o_is w built for root is =
          more_have (Place owner (Inside v ∷ path)) [] (
            (
              root,
              rw (at, built, for, same_v, is) refl,
              to_right n l root r o row m (rw def refl) gives
                  (rw (def, built, o_is, for, same_v, is) refl),
            ),
            tt,
          ) none_have

  -- what the parts of a form have
  parts_have : (owner : ℕ) (path : List Edge) (d : ℕ) (f : Formula) (n : NodeId) → IsForm f
      → node_at x owner path ≡ Some n → formula_at x.state owner path ≡ Some f
      → Shows x (Built (scope_at x owner path)) (around x owner path) (term.Ref n) f → Y (main n)
      → AllHave (part_reads (value_at x.meanings x.state d (environment path)) owner path f)
  parts_have owner path d (Name t) n form at f_is shows m = absurd form
  parts_have owner path d (Literal v) n form at f_is shows m = none_have
  parts_have owner path d (Bound k) n form at f_is shows m = none_have
  parts_have owner path d (At t) n form at f_is shows m = none_have
  parts_have owner path d (Steps v ss) n form at f_is shows m = none_have
  parts_have owner path d Now n form at f_is shows m = none_have
  parts_have owner path d (Apply g fs) n form at f_is (ts, op, all) m =
      let o = opened x.graph (scope_at x owner path) n (term.Map g ts) op in
      let k = plain_map o.0.def g ts o.3 in
      go o.0 o.1 k.0 k.1 (rw k.2 at all)
    where
      go : (r : Row) → x.graph.row n ≡ Some r → (kids : List NodeId) → r.def ≡ graph.Map g kids
          → ShowsAll x (Built (scope_at x owner path)) (around x owner path) (refs kids) fs
          → AllHave (argument_places owner path 0 fs)
      go r row kids def all =
          arguments_have owner path fs n r kids at row (map_parts r.def g kids def) all
          (λ q among. to_fixed n r q row m (rw def among))
  parts_have owner path d (Fold g v fs) n form at f_is (ts, op, all) m =
      let o = opened x.graph (scope_at x owner path) n (term.Fold g (graph_value x.nodes v) ts) op in
      let k = plain_fold o.0.def g (graph_value x.nodes v) ts o.3 in
      go o.0 o.1 k.0 k.1 (rw k.2 at all)
    where
      go : (r : Row) → x.graph.row n ≡ Some r → (kids : List NodeId)
          → r.def ≡ graph.Fold g (graph_value x.nodes v) kids
          → ShowsAll x (Built (scope_at x owner path)) (around x owner path) (refs kids) fs
          → AllHave (argument_places owner path 0 fs)
      go r row kids def all =
          arguments_have owner path fs n r kids at row (fold_parts r.def g (graph_value x.nodes v) kids def) all
          (λ q among. to_fixed n r q row m (rw def among))
  parts_have owner path d (If test a b) n form at f_is (p, q, s, op, st, sa, sb) m =
      let o = opened x.graph (scope_at x owner path) n (term.If p q s) op in
      let k = plain_if o.0.def p q s o.3 in
      go o.0 o.1 o.2 k.0 k.1 k.2 k.3
    where
      go : (r : Row) → x.graph.row n ≡ Some r → r.scope ≡ scope_at x owner path → (t y z : NodeId)
          → r.def ≡ graph.If t y z
          → AllHave (Place owner (Test ∷ path) ∷ chosen_place owner path
          (value_at x.meanings x.state d (environment path) test))
      go r row scope t y z def =
          let c = to_change n t r row m (rw def refl) in
          more_have (Place owner (Test ∷ path)) _ (
            (t, rw (at, row, def) refl, to_subject n t r row c (rw def refl)),
            tt,
          )
          (side_has owner path test a b n r t y z d
          (value_at x.meanings x.state d (environment path) test) at f_is row scope def m c refl)
  parts_have owner path d (Join child) n form at f_is (p, op, sc) m =
      let o = opened x.graph (scope_at x owner path) n (term.Join p) op in
      let k = plain_join o.0.def p o.3 in
      go o.0 o.1 o.2 k.0 k.1
    where
      go : (r : Row) → x.graph.row n ≡ Some r → r.scope ≡ scope_at x owner path → (t : NodeId) → r.def ≡ graph.Join t
          → AllHave (Place owner (Child ∷ path) ∷ named_place
          (value_at x.meanings x.state d (environment path) child))
      go r row scope t def =
          let c = to_change n t r row m (rw def refl) in
          more_have (Place owner (Child ∷ path)) _
          ((t, rw (at, row, def) refl, to_subject n t r row c (rw def refl)), tt)
          (named_has owner path child n r t d (value_at x.meanings x.state d (environment path) child) at f_is row
          scope def m c refl)
  parts_have owner path d (Bind left body) n form at f_is (p, h, caps, op, sl, inner, fills, writes) m =
      let o = opened x.graph (scope_at x owner path) n (term.Bind p h caps) op in
      let k = plain_bind o.0.def p h caps o.3 in
      go o.0 o.1 o.2 k.0 k.1 k.2
    where
      go : (r : Row) → x.graph.row n ≡ Some r → r.scope ≡ scope_at x owner path → (l : NodeId) (caps : List NodeId)
          → r.def ≡ graph.Bind l h caps
          → AllHave (Place owner (Left ∷ path) ∷ inside_place owner path
          (value_at x.meanings x.state d (environment path) left))
      go r row scope l caps def =
          let c = to_change n l r row m (rw def refl) in
          more_have (Place owner (Left ∷ path)) _ (
            (l, rw (at, row, def) refl, to_subject n l r row c (rw def refl)),
            (n, at, c),
          )
          (inside_has owner path left body n r l h caps d
          (value_at x.meanings x.state d (environment path) left) at f_is row scope def m c refl)

  -- ---- what is read for the scope

  -- the left of a bind whose change is needed
  left_has : (owner : ℕ) (bind : List Edge) (b : NodeId) (l body : Formula) → node_at x owner bind ≡ Some b
      → formula_at x.state owner bind ≡ Some (Bind l body) → Y (change b) → Has (Place owner (Left ∷ bind))
  left_has owner bind b l body at f_is y = go (place_shows x fits owner bind b (Bind l body) f_is at)
    where
      row_has : (r : Row) → x.graph.row b ≡ Some r → (s : NodeId) (h : FnRef) (caps : List NodeId)
          → r.def ≡ graph.Bind s h caps → Has (Place owner (Left ∷ bind))
      row_has r row s h caps def = ((s, rw (at, row, def) refl, to_subject b s r row y (rw def refl)), (b, at, y))

      go : Shows x (Built (scope_at x owner bind)) (around x owner bind) (term.Ref b) (Bind l body)
          → Has (Place owner (Left ∷ bind))
      go (p, h, caps, op, sl, inner, fills, writes) =
          let o = opened x.graph (scope_at x owner bind) b (term.Bind p h caps) op in
          let k = plain_bind o.0.def p h caps o.3 in
          row_has o.0 o.1 k.0 h k.1 k.2

  -- a live node of a place stands in the scope of the innermost bind
  gate_has : (owner : ℕ) (path bind : List Edge) (f : Formula) (n : NodeId) → IsForm f
      → ((k : ℕ) → f ≡ Bound (suc k) → ⊥) → node_at x owner path ≡ Some n → formula_at x.state owner path ≡ Some f
      → bind_around 0 path ≡ Some bind → (b : NodeId) → node_at x owner bind ≡ Some b → Y (main n) → Y (change b)
  gate_has owner path bind f n form near at f_is around_is b b_at y =
      by_form (bound_or f) (place_shows x fits owner path n f f_is at)
    where
      by_mode : (c : Binding) (m : Mode) → c.mode ≡ m → m ≡ Built (Some b)
          → Opens x.graph m (term.Ref n) (term.Const (graph_value x.nodes c.value)) → Y (change b)
      by_mode c m e e' op =
          let o = opened x.graph (Some b) n (term.Const (graph_value x.nodes c.value)) (rw e' at op) in
          to_gate (main n) o.0 b o.1 o.2 y

      bound : (k : ℕ) → f ≡ Bound k → Shows x (Built (scope_at x owner path)) (around x owner path) (term.Ref n)
          (Bound k) → Y (change b)
      bound zero e (c, at_c, op) =
          let mode = variable_is x owner path bind around_is c at_c in
          by_mode c c.mode refl (rw b_at at mode) op
      bound (suc k) e shows = absurd (near k e)

      row_has : (r : Row) → x.graph.row n ≡ Some r → ((k : ℕ) → f ≡ Bound k → ⊥)
          → Shows x (Built (scope_at x owner path)) (around x owner path) (term.Ref n) f → Y (change b)
      row_has r row free shows =
          to_gate (main n) r b row (row_scope x (scope_at x owner path)
          (around x owner path) n f r form free row shows ∙ scope_is x owner path bind around_is ∙ b_at) y

      by_form : ((k : ℕ) × (f ≡ Bound k)) ⊎ ((k : ℕ) → f ≡ Bound k → ⊥)
          → Shows x (Built (scope_at x owner path)) (around x owner path) (term.Ref n) f → Y (change b)
      by_form (inl (k, e)) shows = bound k e (rw e at shows)
      by_form (inr free) shows =
          let r = row_of x (scope_at x owner path) (around x owner path) n f form free shows in
          row_has r.0 r.1 free shows

  lefts_have : (owner : ℕ) (path : List Edge) (f : Formula) (n : NodeId) → IsForm f
      → ((k : ℕ) → f ≡ Bound (suc k) → ⊥) → node_at x owner path ≡ Some n → formula_at x.state owner path ≡ Some f
      → Y (main n)
      → ((bind : List Edge) → bind_around 0 path ≡ Some bind → (b : NodeId) × (l : Formula) × (body : Formula)
      × (node_at x owner bind ≡ Some b) × (formula_at x.state owner bind ≡ Some (Bind l body)))
      → AllHave (left_of owner (bind_around 0 path))
  lefts_have owner path f n form near at f_is y binds = go (bind_around 0 path) refl
    where
      go : (b : Option (List Edge)) → bind_around 0 path ≡ b → AllHave (left_of owner b)
      go None e = none_have
      go (Some bind) e =
          let w = binds bind e in
          more_have (Place owner (Left ∷ bind)) []
          (left_has owner bind w.0 w.1 w.2 w.3 w.4 (gate_has owner path bind f n form near at f_is e w.0 w.3 y))
          none_have

  scope_have : (owner : ℕ) (path : List Edge) (f : Formula) (n : NodeId) → node_at x owner path ≡ Some n
      → formula_at x.state owner path ≡ Some f → Y (main n)
      → ((bind : List Edge) → bind_around 0 path ≡ Some bind → (b : NodeId) × (l : Formula) × (body : Formula)
      × (node_at x owner bind ≡ Some b) × (formula_at x.state owner bind ≡ Some (Bind l body)))
      → AllHave (scope_reads owner path f)
  scope_have owner path (Name t) n at f_is y binds = none_have
  scope_have owner path (Bound (suc k)) n at f_is y binds = none_have
  scope_have owner path (Bound zero) n at f_is y binds =
      lefts_have owner path (Bound zero) n tt (λ k e. let e' : 0 ≡ suc k = cc in
      absurd (omega (arith, e'))) at f_is y binds
  scope_have owner path (Literal v) n at f_is y binds =
      lefts_have owner path (Literal v) n tt (λ k e. absurd (cc)) at f_is y binds
  scope_have owner path (Apply g fs) n at f_is y binds =
      lefts_have owner path (Apply g fs) n tt (λ k e. absurd (cc)) at f_is y binds
  scope_have owner path (Fold g v fs) n at f_is y binds =
      lefts_have owner path (Fold g v fs) n tt (λ k e. absurd (cc)) at f_is y binds
  scope_have owner path (If t a b) n at f_is y binds =
      lefts_have owner path (If t a b) n tt (λ k e. absurd (cc)) at f_is y binds
  scope_have owner path (Join c) n at f_is y binds =
      lefts_have owner path (Join c) n tt (λ k e. absurd (cc)) at f_is y binds
  scope_have owner path (Bind l b) n at f_is y binds =
      lefts_have owner path (Bind l b) n tt (λ k e. absurd (cc)) at f_is y binds
  scope_have owner path (At t) n at f_is y binds =
      lefts_have owner path (At t) n tt (λ k e. absurd (cc)) at f_is y binds
  scope_have owner path (Steps v ss) n at f_is y binds =
      lefts_have owner path (Steps v ss) n tt (λ k e. absurd (cc)) at f_is y binds
  scope_have owner path Now n at f_is y binds = lefts_have owner path Now n tt (λ k e. absurd (cc)) at f_is y binds

  -- ---- one read, and what is needed

  place_has : (owner : ℕ) (path : List Edge) (d : ℕ) (f : Formula) (n : NodeId) → node_at x owner path ≡ Some n
      → formula_at x.state owner path ≡ Some f → Y (main n)
      → AllHave (place_reads x.meanings x.state d owner path (Some f))
  place_has owner path d f n at f_is y i among =
      elim (either_list i (part_reads (value_at x.meanings x.state d (environment path)) owner path f)
      (scope_reads owner path f) among) [
        | inl part ↦ parts i part
        | inr scope ↦ scope_have owner path f n at f_is y
            (λ bind e. bind_round x owner path bind f n at f_is e) i scope
      ]
    where
      shows : Shows x (Built (scope_at x owner path)) (around x owner path) (term.Ref n) f
      shows = place_shows x fits owner path n f f_is at

      parts : AllHave (part_reads (value_at x.meanings x.state d (environment path)) owner path f)
      parts = elim (name_or f) [
        | inl (t, e) ↦ rw e (more_have (Named t) [] (let same : n ≡ x.nodes t = (let s = rw e at shows in cc) in
            rw (← same) y) none_have)
        | inr form ↦ parts_have owner path d f n form at f_is shows y
      ]

  links_have : (links : List ℕ) → ((q : Point) → Among q (map main (map x.nodes links)) → Y q)
      → AllHave (map (λ m. Named m) links)
  links_have [] reads = none_have
  links_have (l ∷ links) reads =
      more_have (Named l) (map (λ m. Named m) links) (reads (main (x.nodes l)) (inl refl))
      (links_have links (λ q a. reads q (inr a)))

  -- what a live grab reads
  grab_has : (k b : ℕ) (v : Value) (d : ℕ) → body_at x.state k ≡ Some (Grab b v true) → Y (main (x.nodes k))
      → AllHave (grab_reads b v (outcome_at x.meanings x.state d (Place b (Left ∷ []))))
  grab_has k b v d is y = elim (rw is at (fits.declared k)) [
    | inl live ↦ let g = live_facts x fits k b v is live in by_facts g.0 g.1 g.2 g.3 g.5 g.6 g.7 g.8
    | inr lost ↦ let g = fits.grabbed k b v is in by_loss g.left g.body g.kept g.is_bind lost
  ]
    where
      at_left : (left body : Formula) (kept : script.Kept) → body_at x.state b ≡ Some (Computed (Bind left body) kept)
          → Y (change (x.nodes b)) → Has (Place b (Left ∷ []))
      at_left left body kept bind_is c = left_has b [] (x.nodes b) left body (rw bind_is refl) (rw bind_is refl) c

      by_facts : (left body : Formula) (kept : script.Kept)
          → body_at x.state b ≡ Some (Computed (Bind left body) kept) → (r : Row) → x.graph.row (x.nodes k) ≡ Some r
          → r.scope ≡ Some (x.nodes b)
          → node_at x b (Inside v ∷ []) ≡ Some (x.nodes k)
          → AllHave (grab_reads b v (outcome_at x.meanings x.state d (Place b (Left ∷ []))))
      by_facts left body kept bind_is r row scope at =
          by_outcome (outcome_at x.meanings x.state d (Place b (Left ∷ [])))
        where
          first : Has (Place b (Left ∷ []))
          first = at_left left body kept bind_is (to_gate (main (x.nodes k)) r (x.nodes b) row scope y)

          by_test : (t : std.Bool) → AllHave (elim t
              [ true ↦ Place b (Left ∷ []) ∷ Place b (Inside v ∷ []) ∷ [] | false ↦ Place b (Left ∷ []) ∷ [] ])
          by_test true =
              more_have (Place b (Left ∷ [])) (Place b (Inside v ∷ []) ∷ []) first
              (more_have (Place b (Inside v ∷ [])) [] ((x.nodes k, at, y), tt) none_have)
          by_test false = more_have (Place b (Left ∷ [])) [] first none_have

          by_outcome : (o : Option Outcome) → AllHave (grab_reads b v o)
          by_outcome None = more_have (Place b (Left ∷ [])) [] first none_have
          by_outcome (Some Invalid) = more_have (Place b (Left ∷ [])) [] first none_have
          by_outcome (Some (Val w)) = by_test (same_value v w)

      by_loss : (left body : Formula) (kept : script.Kept) → body_at x.state b ≡ Some (Computed (Bind left body) kept)
          → Lost x (x.nodes k) b v → AllHave (grab_reads b v (outcome_at x.meanings x.state d (Place b (Left ∷ []))))
      by_loss left body kept bind_is (p, row, died_is, other, gives, elsewhere) =
          by_outcome (outcome_at x.meanings x.state d (Place b (Left ∷ []))) refl
        where
          first : Has (Place b (Left ∷ []))
          first = at_left left body kept bind_is (on (main (x.nodes k)) (change (x.nodes b)) y
              (depend.ghost row (deaths (x.nodes k) (x.nodes b) died_is) refl))

          by_test : (w : Value) (t : std.Bool) → same_value v w ≡ t
              → value_at x.meanings x.state d [] left ≡ Some (Val w)
              → AllHave (elim t [
                | true ↦ Place b (Left ∷ []) ∷ Place b (Inside v ∷ []) ∷ []
                | false ↦ Place b
                    (Left ∷ []) ∷ []
              ])
          by_test w true t is =
              let same : v ≡ w = same_values v w t in
              let p_is : p ≡ Val w =
              one_outcome x.meanings x.state [] left p (Val w) (gives left body kept bind_is) (d, is) in
              absurd (other (rw same p_is))
          by_test w false t is = more_have (Place b (Left ∷ [])) [] first none_have

          left_at : (o : Option Outcome) → outcome_at x.meanings x.state d (Place b (Left ∷ [])) ≡ o
              → value_at x.meanings x.state d [] left ≡ o
          left_at o e = rw bind_is at e

          by_outcome : (o : Option Outcome) → outcome_at x.meanings x.state d (Place b (Left ∷ [])) ≡ o
              → AllHave (grab_reads b v o)
          by_outcome None e = more_have (Place b (Left ∷ [])) [] first none_have
          by_outcome (Some Invalid) e = more_have (Place b (Left ∷ [])) [] first none_have
          by_outcome (Some (Val w)) e = by_test w (same_value v w) refl (left_at (Some (Val w)) e)

  name_has : (k d : ℕ) (body : Option Body) → body_at x.state k ≡ body → Declares x (x.nodes k) body
      → Y (main (x.nodes k)) → AllHave (name_reads x.meanings x.state d k body)
  name_has k d None is dec y = none_have
  name_has k d (Some (Variable v)) is dec y = none_have
  name_has k d (Some (After t)) is dec y = none_have
  name_has k d (Some (Every t u)) is dec y = none_have
  name_has k d (Some (Computed f kept)) is dec y =
      more_have (Place k []) [] ((x.nodes k, rw is refl, y), tt) none_have
  name_has k d (Some (Freeze child p (Some v))) is dec y = none_have
  name_has k d (Some (Freeze child p None)) is (kid, (r, row, scope, def), shows, frozen) y =
      more_have (Place k []) [] (
        (
          kid,
          rw (is, row, def) refl,
          to_fixed (x.nodes k) r (main kid) row y
              (rw (def, frozen) (inl refl)),
        ),
        tt,
      ) none_have
  name_has k d (Some (Expert g v links stale)) is (kids, (r, row, scope, def), lists) y =
      links_have links (λ q a. to_fixed (x.nodes k) r q row y (rw (def, lists) a))
  name_has k d (Some (Grab b v true)) is dec y = grab_has k b v d is y
  name_has k d (Some (Grab b v false)) is dec y = none_have

  reads_have : (i j : Item) → ((owner : ℕ) (path : List Edge) → i ≡ Place owner path
      → (f : Formula) × (formula_at x.state owner path ≡ Some f)) → Has i → Reads x.meanings x.state i j → Has j
  reads_have (Named k) j there has (d, among) = name_has k d (body_at x.state k) refl (fits.declared k) has j among
  reads_have (Place owner path) j there ((n, at, y), left) (d, among) =
      let f = there owner path refl in place_has owner path d f.0 n at f.1 y j (rw f.1 at among)

  there_is : (i : Item) → Needed x.meanings x.state i → (owner : ℕ) (path : List Edge) → i ≡ Place owner path
      → (f : Formula) × (formula_at x.state owner path ≡ Some f)
  there_is i is owner path e = (needed_enclosed x.meanings x.state grabs (Place owner path) (rw e at is)).0

  reached_has : (i j : Item) → Needed x.meanings x.state i → Has i → Reaches (Reads x.meanings x.state) i j → Has j
  reached_has i j is has here = has
  reached_has i j is has (step {b = b} r more) =
      reached_has b j (needed_reads x.meanings x.state i b is r) (reads_have i b (there_is i is) has r) more

  -- whatever is needed has its points in the set, where the roots have
  pub needed_has : ((k : ℕ) → Among (Named k) (roots x.state) → Y (main (x.nodes k))) → (i : Item)
      → Needed x.meanings x.state i → Has i
  needed_has begin i (root, is, more) =
      let name = root_named x.state root is in
      reached_has root i (root, is, here) (rw name.1 (begin name.0 (rw name.1 at is))) more

-- so where every needed point is right, whatever is needed has its points among the needed ones
pub needed_has_points : (x : Both) (fits : Fits x) (grabs : GrabsBind x.state) (died : NodeId → Option NodeId)
    (deaths : (n b : NodeId) → x.died n ≡ Some b → died n ≡ Some b) (out : Point → Option GraphOutcome)
    (observed : List NodeId) (have : RootsHave x observed)
    (exact : (p : Point) → GraphNeeded x.functions x.graph died observed p → Exact x.functions x.graph out p)
    → (i : Item) → Needed x.meanings x.state i
    → Has x fits grabs died out (λ p. GraphNeeded x.functions x.graph died observed p)
    (needed_more x.functions x.graph died observed) exact deaths i
needed_has_points x fits grabs died deaths out observed have exact i is =
    needed_has x fits grabs died out (λ p. GraphNeeded x.functions x.graph died observed p)
    (needed_more x.functions x.graph died observed) exact deaths (λ k root. (x.nodes k, have k root, here)) i is
