-- What a node gives is what the formula gives that it shows.
use Rattle.std.proofs.Common.{◌≡◌, ◌⊎◌, inl, inr, ℕ, zero, suc, ◌+◌, true, false, List, [], ◌∷◌, map, Option, None, Some, refl, sym, ap, ◌∙◌, eq-eqb, arith, pos, cond, slice_get, ◌-◌, ◌/◌}
use Rattle.std.specs.Prelude as std
use Rattle.std.specs.Prelude.{◌-ℤ◌}
use Rattle.std.specs.Int.Signed.{quot_z}
use Rattle.std.proofs.lemmas.Bool.Decides.{Decides-int_eq}
use Rattle.std.proofs.lemmas.Slice.Eq.{bytes_eq-Decides}
use Rattle.inc_value.specs.Ty.{same_base}
use Rattle.inc_value.specs.declared.ty.Base.TheVariants as base
use Rattle.inc_value.specs.declared.ty.Base.{Base}
use Rattle.inc_value.specs.declared.function.FnRef.{FnRef}
use Rattle.inc_value.specs.declared.node.NodeId.{NodeId}
use Rattle.inc_value.specs.declared.outcome.Outcome.{Outcome as GraphOutcome}
use Rattle.inc_value.specs.declared.outcome.Outcome.TheVariants as outcome
use Rattle.inc_value.specs.declared.value.Value.{Value as GraphValue}
use Rattle.inc_value.specs.declared.value.Value.TheVariants as held
use Rattle.inc_terms.specs.Evaluate as engine
use Rattle.inc_terms.specs.Evaluate.{answer, NodeGives, Of, Around}
use Rattle.inc_terms.specs.Graph as graph
use Rattle.inc_terms.specs.Graph.{Graph, Row, Def, present_def}
use Rattle.inc_terms.specs.Term as term
use Rattle.inc_terms.specs.Term.{Term, Terms, refs, put}
use Rattle.inc_value.specs.Choice.{and_then, Every as Each}
use Rattle.inc_terms.specs.Same.{same_outcome}
use Rattle.inc_terms.proofs.Same.{outcome_decides}
use Rattle.inc_terms.proofs.Evaluation.{at_depth}
use Rattle.inc_terms.proofs.Evaluation as engine_proofs
use Rattle.script_model.specs.Values.{Value, Outcome, Int, Bool, Text, Reference, Val, Invalid, same_value}
use Rattle.script_model.specs.Formula as script
use Rattle.script_model.specs.Formula.{Formula, Formulas, TimedValue, Body, Entry, body_at, entry_at, Literal, Name, Bound, Apply, Fold, If, Join, Bind, At, Steps, Now, End, More, Variable, Computed, Freeze, After, Every, Expert, Grab}
use Rattle.script_model.specs.Evaluate.{Values, gathered, each_of, given, fold_from, or_invalid, truth_of, target_of, chosen, stepped, while_built, has_come, level, body_level, name_level, value_at, Gives}
use Rattle.script_model.proofs.Places.{same_values}
use Rattle.script_model.proofs.Evaluation.{every_depth_agrees, value_more, each_under, links_under}
use Rattle.transfer.specs.Both.{Both, graph_value, graph_outcome}
use Rattle.transfer.specs.Shows.{Mode, Spelled, Built, Binding, values, plain, Opens, Own, taken, Fills, Writes, graph_step, Shows, ShowsAll, IsTop, Declares, IsOwn, Lost, Fits, Holds, Sound}
use Rattle.script_model.specs.Need.{Inside}
use Rattle.transfer.specs.Items.{root_at, node_at}
use Rattle.transfer.proofs.Places.{opened, plain_bind, root_kid}
use Rattle.transfer.proofs.Spelling.{fills_stand, put_shows}
use Rattle.transfer.proofs.Says.{Said, Stays, AllStay, GathersSaid, with_said, joined_said, given_said, value_alone}

-- ---- small laws

pub plain_reads : (G : Graph) (n : NodeId) (def : Def) (u : Term) → plain def ≡ Some u → present_def G n def ≡ u
plain_reads G n (graph.Const v) u e = cc
plain_reads G n (graph.Map f kids) u e = cc
plain_reads G n (graph.Fold f v kids) u e = cc
plain_reads G n (graph.If t a b) u e = cc
plain_reads G n (graph.Join k) u e = cc
plain_reads G n (graph.Bind l f caps) u e = cc
plain_reads G n (graph.At t) u e = cc
plain_reads G n (graph.Steps v steps) u e = cc
plain_reads G n graph.Now u e = cc
plain_reads G n def u e = absurd (cc)

either_way : (nodes : ℕ → NodeId) (b : std.Bool) (a : GraphValue) (v w : Value) → a ≡ graph_value nodes w
    → cond b a (graph_value nodes v) ≡ graph_value nodes (cond b w v)
either_way nodes true a v w e = e
either_way nodes false a v w e = refl

latest_is : (nodes : ℕ → NodeId) (now : ℕ) (v : Value) (steps : List TimedValue)
    → engine.latest (pos now) (graph_value nodes v) (map (graph_step nodes) steps) ≡ graph_value nodes
    (stepped now v steps)
latest_is nodes now v [] = refl
latest_is nodes now v (step ∷ steps) =
    either_way nodes (std.nat_le step.time now) _ v (stepped now step.value steps)
    (latest_is nodes now step.value steps)

-- a value is the same as itself
same_bases_itself : (b : Base) → same_base b b ≡ true
same_bases_itself base.Int = refl
same_bases_itself base.Bool = refl
same_bases_itself base.Text = refl

pub same_itself : (v : Value) → same_value v v ≡ true
same_itself (Int z) = (Decides-int_eq z z).1 refl
same_itself (Bool true) = refl
same_itself (Bool false) = refl
same_itself (Text bytes) = (bytes_eq-Decides bytes bytes).1 refl
same_itself (Reference t b) = rw (eq-eqb t t refl, same_bases_itself b) refl

module _ (x : Both) (fits : Fits x) where
  abbrev nodes : ℕ → NodeId
  nodes = x.nodes

  -- where the graph answers, the formula gives that at some depth
  abbrev pub Says : List Value → Formula → Option GraphOutcome → Type 0
  Says E f a = Said x.nodes (λ d. value_at x.meanings x.state d E f) a

  value_stays : (E : List Value) (f : Formula) → Stays (λ d. value_at x.meanings x.state d E f)
  value_stays E f d e p le h = every_depth_agrees x.meanings x.state d e E f p le h

  each_stay : (E : List Value) (fs : Formulas) → AllStay (λ d. each_of (value_at x.meanings x.state d E) fs)
  each_stay E fs d e le =
      each_under x.meanings x.state (value_at x.meanings x.state d) (value_at x.meanings x.state e)
      (λ E f. value_more x.meanings x.state d e E f le) E fs

  names_stay : (links : List ℕ) → AllStay (λ d. map (λ k. value_at x.meanings x.state d [] (Name k)) links)
  names_stay links d e le =
      links_under x.meanings x.state (value_at x.meanings x.state d) (value_at x.meanings x.state e)
      (λ E f. value_more x.meanings x.state d e E f le) links

  folds_fit : (f : FnRef) (ws : List Value) (v : Value) → engine.folded (x.functions.value f) (graph_value x.nodes v)
      (map (graph_value x.nodes) ws) ≡ graph_value x.nodes (fold_from x.meanings f v ws)
  folds_fit f [] v = refl
  folds_fit f (w ∷ ws) v =
      rw (fits.functions x.nodes f (v ∷ w ∷ []), engine.folded) (folds_fit f ws (x.meanings.value f (v ∷ w ∷ [])))

  -- one depth more
  lifted : (E : List Value) (f : Formula) (a : Option GraphOutcome)
      → Said x.nodes (λ d. level x.meanings x.state (value_at x.meanings x.state d) E f) a → Says E f a
  unfolding value_at
  lifted E f None h = tt
  lifted E f (Some o) h = (h.0, h.1, suc h.2, h.3)

  -- a name gives the same whatever the variables
  any_variables : (E : List Value) (k : ℕ) (a : Option GraphOutcome) → Says [] (Name k) a → Says E (Name k) a
  unfolding value_at
  any_variables E k None h = tt
  any_variables E k (Some o) (p, e, zero, is) = absurd (cc)
  any_variables E k (Some o) (p, e, suc d, is) = (p, e, suc d, is)

  -- an answer that another has too
  abbrev Leads : Option GraphOutcome → Option GraphOutcome → Type 0
  Leads a b = (o : GraphOutcome) → a ≡ Some o → b ≡ Some o

  by_other : (E : List Value) (f : Formula) (a b : Option GraphOutcome) → Leads a b → Says E f b → Says E f a
  by_other E f None b h s = tt
  by_other E f (Some o) b h s = rw (h o refl) at s

  -- ---- opening a node

  through_low : (d : ℕ) (n : NodeId) (r : Row) (u : Term) → x.graph.row n ≡ Some r
      → engine.Stands x.functions x.graph r.scope → present_def x.graph n r.def ≡ u
      → Leads (answer x.functions x.graph (suc d) (Of (term.Ref n))) (answer x.functions x.graph d (Of u))
  unfolding answer
  through_low d n r u row stands is o e = go (answer x.functions x.graph d (Around r.scope)) refl (rw row at e)
    where
      go : (a : Option GraphOutcome) → answer x.functions x.graph d (Around r.scope) ≡ a
          → engine.with_value a (λ v. answer x.functions x.graph d (Of (present_def x.graph n r.def))) ≡ Some o
          → answer x.functions x.graph d (Of u) ≡ Some o
      go None at g = absurd (cc)
      go (Some outcome.Invalid) at g =
          absurd (let same = engine_proofs.one_outcome x.functions x.graph (Around r.scope) outcome.Invalid
          (outcome.Val (held.Bool true)) (d, at) stands in cc)
      go (Some (outcome.Val v)) at g = rw is at g

  through_scope : (d : ℕ) (n : NodeId) (r : Row) (u : Term) → x.graph.row n ≡ Some r
      → engine.Stands x.functions x.graph r.scope → present_def x.graph n r.def ≡ u
      → Leads (answer x.functions x.graph (suc d) (Of (term.Ref n)))
      (engine.level x.functions x.graph (answer x.functions x.graph d) (Of u))
  unfolding answer
  through_scope d n r u row stands is o e =
      at_depth x.functions x.graph d (suc d) (Of u) o (omega arith) (through_low d n r u row stands is o e)

  opens : (d : ℕ) (m : Mode) (t u : Term) → Opens x.graph m t u → Holds x m
      → Leads (answer x.functions x.graph (suc d) (Of t))
      (engine.level x.functions x.graph (answer x.functions x.graph d) (Of u))
  unfolding answer
  opens d Spelled t u is holds o e = rw is at e
  opens d (Built S) t u (n, r, t_is, row, scope, def) holds o e =
      through_scope d n r u row (rw scope holds) (plain_reads x.graph n r.def u def) o (rw t_is at e)

  -- ---- one level

  abbrev pub SaysAt : ℕ → Type 0
  SaysAt d = (m : Mode) (E : List Binding) (t : Term) (f : Formula) → Shows x m E t f → Sound x m E
      → Says (values E) f (answer x.functions x.graph d (Of t))

  gathered_says : (d : ℕ) → SaysAt d → (m : Mode) (E : List Binding) (ts : Terms) (fs : Formulas)
      → ShowsAll x m E ts fs → Sound x m E
      → GathersSaid x.nodes (λ d. each_of (value_at x.meanings x.state d (values E)) fs)
      (engine.gathered (answer x.functions x.graph d) ts)
  gathered_says d ih m E term.End End shows sound = ([], refl, 0, refl)
  gathered_says d ih m E term.End (More f fs) shows sound = absurd shows
  gathered_says d ih m E (term.More t ts) End shows sound = absurd shows
  gathered_says d ih m E (term.More t ts) (More f fs) shows sound =
      joined_said x.nodes (λ d. value_at x.meanings x.state d (values E) f)
      (λ d. each_of (value_at x.meanings x.state d (values E)) fs) (answer x.functions x.graph d (Of t))
      (engine.gathered (answer x.functions x.graph d) ts)
      (value_stays (values E) f) (each_stay (values E) fs) (ih m E t f shows.0 sound)
      (gathered_says d ih m E ts fs shows.1 sound)

  -- what a name's node gives
  abbrev NameSays : ℕ → ℕ → Type 0
  NameSays d k = Says [] (Name k) (answer x.functions x.graph (suc d) (Of (term.Ref (x.nodes k))))

  variable_holds : (E : List Binding) (k : ℕ) (b : Binding) → Each (λ (b : Binding). Holds x b.mode) E
      → slice_get E k ≡ Some b → Holds x b.mode
  variable_holds [] k b all e = absurd (cc)
  variable_holds (c ∷ E) zero b all e = let same : c ≡ b = cc in rw (← same) all.0
  variable_holds (c ∷ E) (suc k) b all e = variable_holds E k b all.1 e

  variable_value : (E : List Binding) (k : ℕ) (b : Binding) → slice_get E k ≡ Some b
      → slice_get (values E) k ≡ Some b.value
  variable_value [] k b e = absurd (cc)
  variable_value (c ∷ E) zero b e = let same : c ≡ b = cc in rw same refl
  variable_value (c ∷ E) (suc k) b e = variable_value E k b e

  side_says : (d : ℕ) → SaysAt d → (m : Mode) (E : List Binding) (q r : Term) (a b : Formula) → Shows x m E q a
      → Shows x m E r b → Sound x m E → (v : Value)
      → Said x.nodes (λ d. or_invalid (truth_of v) (λ t. value_at x.meanings x.state d (values E) (chosen t a b)))
      (engine.chosen (answer x.functions x.graph d) (engine.branch q r (graph_value x.nodes v)))
  side_says d ih m E q r a b sa sb sound (Bool true) = ih m E q a sa sound
  side_says d ih m E q r a b sa sb sound (Bool false) = ih m E r b sb sound
  side_says d ih m E q r a b sa sb sound (Int v) = (Invalid, refl, 0, refl)
  side_says d ih m E q r a b sa sb sound (Text v) = (Invalid, refl, 0, refl)
  side_says d ih m E q r a b sa sb sound (Reference t v) = (Invalid, refl, 0, refl)

  side_stays : (E : List Value) (a b : Formula) (v : Value)
      → Stays (λ d. or_invalid (truth_of v) (λ t. value_at x.meanings x.state d E (chosen t a b)))
  side_stays E a b (Bool true) = value_stays E a
  side_stays E a b (Bool false) = value_stays E b
  side_stays E a b (Int v) = λ d e p le h. h
  side_stays E a b (Text v) = λ d e p le h. h
  side_stays E a b (Reference t v) = λ d e p le h. h

  target_says : (d : ℕ) → SaysAt d → (v : Value)
      → Said x.nodes (λ d. or_invalid (target_of v) (λ n. value_at x.meanings x.state d [] (Name n)))
      (engine.chosen (answer x.functions x.graph d) (engine.named (graph_value x.nodes v)))
  target_says d ih (Bool v) = (Invalid, refl, 0, refl)
  target_says d ih (Int v) = (Invalid, refl, 0, refl)
  target_says d ih (Text v) = (Invalid, refl, 0, refl)
  target_says d ih (Reference t v) = ih Spelled [] (term.Ref (x.nodes t)) (Name t) refl (tt, tt)

  target_stays : (v : Value) → Stays (λ d. or_invalid (target_of v) (λ n. value_at x.meanings x.state d [] (Name n)))
  target_stays (Bool v) = λ d e p le h. h
  target_stays (Int v) = λ d e p le h. h
  target_stays (Text v) = λ d e p le h. h
  target_stays (Reference t v) = value_stays [] (Name t)

  inner_sound : (m : Mode) (E : List Binding) (v : Value) → Sound x m E
      → Sound x Spelled (record { value = v; mode = Spelled } ∷ E)
  inner_sound m E v sound = (tt, (tt, sound.1))

  body_shows : (E : List Binding) (inner : List (Option ℕ)) (caps : Terms) (g : FnRef) (body : Formula) (v : Value)
      → Fills x E inner caps
      → Writes x (Own (graph_value x.nodes v) ∷ map taken inner) (x.functions.term g (graph_value x.nodes v)) body
      → Shows x Spelled (record { value = v; mode = Spelled } ∷ E)
      (put caps (x.functions.term g (graph_value x.nodes v))) body
  body_shows E inner caps g body v fills w =
      put_shows x (record { value = v; mode = Spelled } ∷ E) (Own (graph_value x.nodes v) ∷ map taken inner) caps (
        (λ u e. let same : term.Const (graph_value x.nodes v) ≡ u = cc in rw (← same) refl),
        fills_stand x E inner caps fills,
      ) (x.functions.term g (graph_value x.nodes v)) body w

  -- what a term says that shows a formula, where what names say is known
  form_says : (d : ℕ) → SaysAt d → (m : Mode) (E : List Binding) (t : Term) (f : Formula)
      → ((k : ℕ) → f ≡ Name k → NameSays d k) → Shows x m E t f → Sound x m E
      → Says (values E) f (answer x.functions x.graph (suc d) (Of t))
  form_says d ih m E t (Name k) name shows sound = any_variables (values E) k _ (rw shows (name k refl))
  form_says d ih m E t (Literal v) name shows sound =
      by_other (values E) (Literal v) _ _ (opens d m t (term.Const (graph_value x.nodes v)) shows sound.0)
      (lifted (values E) (Literal v) (Some (outcome.Val (graph_value x.nodes v))) (Val v, refl, 0, refl))
  form_says d ih m E t (Bound k) name (b, is, op) sound =
      by_other (values E) (Bound k) _ _ (opens d b.mode t (term.Const (graph_value x.nodes b.value)) op
      (variable_holds E k b sound.1 is))
      (lifted (values E) (Bound k) (Some (outcome.Val (graph_value x.nodes b.value)))
      (Val b.value, refl, 0, rw (variable_value E k b is) refl))
  form_says d ih m E t (Apply g fs) name (ts, op, all) sound =
      by_other (values E) (Apply g fs) _ _ (opens d m t (term.Map g ts) op sound.0)
      (lifted (values E) (Apply g fs) _ (given_said x.nodes
      (λ d. each_of (value_at x.meanings x.state d (values E)) fs) (x.meanings.value g) (x.functions.value g) _
      (fits.functions x.nodes g) (gathered_says d ih m E ts fs all sound)))
  form_says d ih m E t (Fold g v fs) name (ts, op, all) sound =
      by_other (values E) (Fold g v fs) _ _ (opens d m t (term.Fold g (graph_value x.nodes v) ts) op sound.0)
      (lifted (values E) (Fold g v fs) _
      (given_said x.nodes (λ d. each_of (value_at x.meanings x.state d (values E)) fs) (fold_from x.meanings g v)
      (engine.folded (x.functions.value g) (graph_value x.nodes v)) _ (λ ws. folds_fit g ws v)
      (gathered_says d ih m E ts fs all sound)))
  form_says d ih m E t (If test a b) name (p, q, r, op, st, sa, sb) sound =
      by_other (values E) (If test a b) _ _ (opens d m t (term.If p q r) op sound.0)
      (lifted (values E) (If test a b) _
      (with_said x.nodes (λ d. value_at x.meanings x.state d (values E) test)
      (λ d v. or_invalid (truth_of v) (λ t. value_at x.meanings x.state d (values E) (chosen t a b)))
      (answer x.functions x.graph d (Of p))
      (λ v. engine.chosen (answer x.functions x.graph d) (engine.branch q r v)) (value_stays (values E) test)
      (side_stays (values E) a b) (ih m E p test st sound) (side_says d ih m E q r a b sa sb sound)))
  form_says d ih m E t (Join child) name (p, op, sc) sound =
      by_other (values E) (Join child) _ _ (opens d m t (term.Join p) op sound.0)
      (lifted (values E) (Join child) _
      (with_said x.nodes (λ d. value_at x.meanings x.state d (values E) child)
      (λ d v. or_invalid (target_of v) (λ n. value_at x.meanings x.state d [] (Name n)))
      (answer x.functions x.graph d (Of p))
      (λ v. engine.chosen (answer x.functions x.graph d) (engine.named v)) (value_stays (values E) child) target_stays
      (ih m E p child sc sound) (target_says d ih)))
  form_says d ih m E t (Bind left body) name (p, g, caps, op, sl, inner, fills, sb) sound =
      by_other (values E) (Bind left body) _ _ (opens d m t (term.Bind p g caps) op sound.0)
      (lifted (values E) (Bind left body) _
      (with_said x.nodes (λ d. value_at x.meanings x.state d (values E) left)
      (λ d v. value_at x.meanings x.state d (v ∷ values E) body) (answer x.functions x.graph d (Of p))
      (λ v. engine.chosen (answer x.functions x.graph d) (Some (put caps (x.functions.term g v))))
      (value_stays (values E) left) (λ v. value_stays (v ∷ values E) body) (ih m E p left sl sound)
      (λ v. ih Spelled (record { value = v; mode = Spelled } ∷ E)
      (put caps (x.functions.term g (graph_value x.nodes v))) body
      (body_shows E inner caps g body v fills (sb (graph_value x.nodes v)))
      (inner_sound m E v sound))))
  form_says d ih m E t (At time) name op sound =
      by_other (values E) (At time) _ _ (opens d m t (term.At (pos time)) op sound.0)
      (lifted (values E) (At time) (engine.level x.functions x.graph (answer x.functions x.graph d)
      (Of (term.At (pos time)))) (Val (Bool (std.nat_le time x.state.now)), rw fits.clock refl, 0, refl))
  form_says d ih m E t (Steps v steps) name op sound =
      by_other (values E) (Steps v steps) _ _ (opens d m t
      (term.Steps (graph_value x.nodes v) (map (graph_step x.nodes) steps)) op sound.0)
      (lifted (values E) (Steps v steps) (engine.level x.functions x.graph (answer x.functions x.graph d)
      (Of (term.Steps (graph_value x.nodes v) (map (graph_step x.nodes) steps))))
      (Val (stepped x.state.now v steps), rw (fits.clock, latest_is x.nodes x.state.now v steps) refl, 0, refl))
  form_says d ih m E t Now name op sound =
      by_other (values E) Now _ _ (opens d m t term.Now op sound.0)
      (lifted (values E) Now (engine.level x.functions x.graph (answer x.functions x.graph d) (Of term.Now))
      (Val (Int (pos x.state.now)), rw fits.clock refl, 0, refl))

  -- ---- names

  -- one depth more, at a declaration
  declared_says : (k : ℕ) (body : Body) (a : Option GraphOutcome) → body_at x.state k ≡ Some body
      → Said x.nodes (λ d. body_level x.meanings x.state (value_at x.meanings x.state d) body) a → Says [] (Name k) a
  declared_says k body a is said = lifted [] (Name k) a (go (entry_at x.state k) is said)
    where
      go : (e : Option Entry) → and_then e (λ e. Some e.body) ≡ Some body
          → Said x.nodes (λ d. body_level x.meanings x.state (value_at x.meanings x.state d) body) a
          → Said x.nodes (λ d. name_level x.meanings x.state (value_at x.meanings x.state d) e) a
      go None is s = absurd (cc)
      go (Some e) is s = let same : e.body ≡ body = cc in rw same s

  undeclared_says : (k : ℕ) (a : Option GraphOutcome) → body_at x.state k ≡ None → Said x.nodes (λ d. Some Invalid) a
      → Says [] (Name k) a
  undeclared_says k a is said = lifted [] (Name k) a (go (entry_at x.state k) is said)
    where
      go : (e : Option Entry) → and_then e (λ e. Some e.body) ≡ None → Said x.nodes (λ d. Some Invalid) a
          → Said x.nodes (λ d. name_level x.meanings x.state (value_at x.meanings x.state d) e) a
      go None is s = s
      go (Some e) is s = absurd (cc)

  dead_says : (d : ℕ) (n : NodeId) → x.graph.row n ≡ None
      → Said x.nodes (λ d. Some Invalid) (answer x.functions x.graph (suc d) (Of (term.Ref n)))
  unfolding answer
  dead_says d n row = rw row (Invalid, refl, 0, refl)

  top_leads : (d : ℕ) (n : NodeId) (def : Def) → IsTop x.graph n def
      → Leads (answer x.functions x.graph (suc d) (Of (term.Ref n)))
      (engine.level x.functions x.graph (answer x.functions x.graph d) (Of (present_def x.graph n def)))
  unfolding answer
  top_leads d n def (r, row, scope, is) =
      through_scope d n r (present_def x.graph n def) row (rw scope (1, refl)) (rw is refl)

  said_by : (at : ℕ → Option Outcome) (a b : Option GraphOutcome) → Leads a b → Said x.nodes at b → Said x.nodes at a
  said_by at None b h s = tt
  said_by at (Some o) b h s = rw (h o refl) at s

  links_say : (d : ℕ) → SaysAt d → (links : List ℕ)
      → GathersSaid x.nodes (λ d. map (λ k. value_at x.meanings x.state d [] (Name k)) links)
      (engine.gathered (answer x.functions x.graph d) (refs (map x.nodes links)))
  links_say d ih [] = ([], refl, 0, refl)
  links_say d ih (k ∷ links) =
      joined_said x.nodes (λ d. value_at x.meanings x.state d [] (Name k))
      (λ d. map (λ k. value_at x.meanings x.state d [] (Name k)) links)
      (answer x.functions x.graph d (Of (term.Ref (x.nodes k))))
      (engine.gathered (answer x.functions x.graph d) (refs (map x.nodes links))) (value_stays [] (Name k))
      (names_stay links) (ih Spelled [] (term.Ref (x.nodes k)) (Name k) refl (tt, tt)) (links_say d ih links)

  top_sound : Sound x (Built None) []
  unfolding answer
  top_sound = ((1, refl), tt)

  stands_top : engine.Stands x.functions x.graph None
  unfolding answer
  stands_top = (1, refl)

  freeze_says : (d : ℕ) → SaysAt d → (n kid : NodeId) (g : FnRef) (child : Formula) (frozen : Option Value)
      → IsTop x.graph n (graph.Freeze kid g)
      → Shows x (Built None) [] (term.Ref kid) child → x.graph.frozen n ≡ std.option_map (graph_value x.nodes) frozen
      → Said x.nodes (λ d. body_level x.meanings x.state (value_at x.meanings x.state d) (Freeze child g frozen))
      (answer x.functions x.graph (suc d) (Of (term.Ref n)))
  freeze_says d ih n kid g child (Some v) top shows is =
      said_by (λ d. Some (Val v)) _ (engine.level x.functions x.graph (answer x.functions x.graph d)
      (Of (present_def x.graph n (graph.Freeze kid g)))) (top_leads d n (graph.Freeze kid g) top)
      (rw is (Val v, refl, 0, refl))
  freeze_says d ih n kid g child None (r, row, scope, def) shows is =
      said_by (λ d. value_at x.meanings x.state d [] child) _ (answer x.functions x.graph d (Of (term.Ref kid)))
      (through_low d n r (term.Ref kid) row (rw scope stands_top) (rw (def, is) refl))
      (ih (Built None) [] (term.Ref kid) child shows top_sound)

  -- a declaration that isn't another name, nor a live grab
  own_says : (d : ℕ) → SaysAt d → (k : ℕ) (body : Option Body) → body_at x.state k ≡ body
      → Declares x (x.nodes k) body → IsOwn body
      → ((b : ℕ) (v : Value) → body ≡ Some (Grab b v true) → NameSays d k) → NameSays d k
  own_says d ih k None is dec own grab = undeclared_says k _ is (dead_says d (x.nodes k) dec.0)
  own_says d ih k (Some (Variable v)) is dec own grab =
      declared_says k (Variable v) _ is (said_by (λ d. Some (Val v)) _ (Some (outcome.Val (graph_value x.nodes v)))
      (top_leads d (x.nodes k) (graph.Var (graph_value x.nodes v)) dec) (Val v, refl, 0, refl))
  own_says d ih k (Some (Computed f kept)) is dec own grab =
      declared_says k (Computed f kept) _ is (form_says d ih (Built None) [] (term.Ref (x.nodes k)) f
      (λ j e. absurd (rw e at own)) dec top_sound)
  own_says d ih k (Some (Freeze child g frozen)) is dec own grab =
      declared_says k (Freeze child g frozen) _ is
      (freeze_says d ih (x.nodes k) dec.0 g child frozen dec.1 dec.2 dec.3)
  own_says d ih k (Some (After t)) is dec own grab =
      declared_says k (After t) _ is (said_by (λ d. has_come x.state t) _
      (engine.level x.functions x.graph (answer x.functions x.graph d) (Of (term.At (pos t))))
      (top_leads d (x.nodes k) (graph.At (pos t)) dec)
      (Val (Bool (std.nat_le t x.state.now)), rw fits.clock refl, 0, refl))
  own_says d ih k (Some (Every base span)) is dec own grab =
      declared_says k (Every base span) _ is (said_by (λ d. Some (Val (Int (pos ((x.state.now - base) / span))))) _
      (Some (outcome.Val (held.Int (quot_z (x.graph.now -ℤ pos base) (pos span)))))
      (top_leads d (x.nodes k) (graph.Every (pos base) (pos span)) dec.0)
      (Val (Int (pos ((x.state.now - base) / span))), rw dec.1 refl, 0, refl))
  own_says d ih k (Some (Expert g first links stale)) is dec own grab =
      declared_says k (Expert g first links stale) _ is
      (said_by (λ d. given (fold_from x.meanings g first)
      (gathered (map (λ k. value_at x.meanings x.state d [] (Name k)) links))) _
      (engine.given (engine.folded (x.functions.value g) (graph_value x.nodes first))
      (engine.gathered (answer x.functions x.graph d) (refs (map x.nodes links))))
      (expert_leads d (x.nodes k) g (graph_value x.nodes first) dec.0 (map x.nodes links) dec.1 dec.2)
      (given_said x.nodes (λ d. map (λ k. value_at x.meanings x.state d [] (Name k)) links)
      (fold_from x.meanings g first) (engine.folded (x.functions.value g) (graph_value x.nodes first)) _
      (λ ws. folds_fit g ws first) (links_say d ih links)))
    where
      expert_leads : (d : ℕ) (n : NodeId) (g : FnRef) (v : GraphValue) (kids0 kids : List NodeId)
          → IsTop x.graph n (graph.Expert g v kids0) → x.graph.lists n ≡ kids
          → Leads (answer x.functions x.graph (suc d) (Of (term.Ref n)))
          (engine.given (engine.folded (x.functions.value g) v)
          (engine.gathered (answer x.functions x.graph d) (refs kids)))
      expert_leads d n g v kids0 kids top is o e = rw is at (top_leads d n (graph.Expert g v kids0) top o e)
  own_says d ih k (Some (Grab b v false)) is dec own grab =
      declared_says k (Grab b v false) _ is (dead_says d (x.nodes k) dec.0)
  own_says d ih k (Some (Grab b v true)) is dec own grab = grab b v refl

  pub own_or : (body : Option Body) → IsOwn body
      ⊎ ((t : ℕ) × (kept : script.Kept) × (body ≡ Some (Computed (Name t) kept)))
  own_or (Some (Computed (Name t) kept)) = inr (t, kept, refl)
  own_or body = inl tt

  -- ---- live grabs

  -- the row of a form in a bind's scope
  pub root_row : (b : NodeId) (v : Value) (n : NodeId) (f : Formula) → ((t : ℕ) → f ≡ Name t → ⊥)
      → Shows x (Built (Some b)) (record { value = v; mode = Built (Some b) } ∷ []) (term.Ref n) f
      → (r : Row) × (x.graph.row n ≡ Some r) × (r.scope ≡ Some b)
  root_row b v n (Name t) named shows = absurd (named t refl)
  root_row b v n (Bound zero) named (c, e, op) =
      by_mode c.mode (let e' : record { value = v; mode = Built (Some b) } ≡ c = cc in λ i. (e' i).mode) op
    where
      by_mode : (m : Mode) → Built (Some b) ≡ m
          → Opens x.graph m (term.Ref n) (term.Const (graph_value x.nodes c.value))
          → (r : Row) × (x.graph.row n ≡ Some r) × (r.scope ≡ Some b)
      by_mode m e op =
          let o = opened x.graph (Some b) n (term.Const (graph_value x.nodes c.value)) (rw (← e) at op) in
          (o.0, o.1, o.2)
  root_row b v n (Bound (suc k)) named (c, e, op) = absurd (cc)
  root_row b v n (Literal w) named op =
      let o = opened x.graph (Some b) n (term.Const (graph_value x.nodes w)) op in (o.0, o.1, o.2)
  root_row b v n (Apply g fs) named s = let o = opened x.graph (Some b) n (term.Map g s.0) s.1 in (o.0, o.1, o.2)
  root_row b v n (Fold g w fs) named s =
      let o = opened x.graph (Some b) n (term.Fold g (graph_value x.nodes w) s.0) s.1 in (o.0, o.1, o.2)
  root_row b v n (If p q r) named s = let o = opened x.graph (Some b) n (term.If s.0 s.1 s.2) s.3 in (o.0, o.1, o.2)
  root_row b v n (Join c) named s = let o = opened x.graph (Some b) n (term.Join s.0) s.1 in (o.0, o.1, o.2)
  root_row b v n (Bind l f) named s = let o = opened x.graph (Some b) n (term.Bind s.0 s.1 s.2) s.3 in (o.0, o.1, o.2)
  root_row b v n (At t) named op = let o = opened x.graph (Some b) n (term.At (pos t)) op in (o.0, o.1, o.2)
  root_row b v n (Steps w ss) named op =
      let o = opened x.graph (Some b) n (term.Steps (graph_value x.nodes w) (map (graph_step x.nodes) ss)) op in
      (o.0, o.1, o.2)
  root_row b v n Now named op = let o = opened x.graph (Some b) n term.Now op in (o.0, o.1, o.2)

  abbrev Grasps : Value → Formula → Formula → Option GraphOutcome → Type 0
  Grasps v left body a =
      Said x.nodes (λ d. while_built v (value_at x.meanings x.state d [] left)
      (value_at x.meanings x.state d (v ∷ []) body)) a

  grasps_right : (v : Value) (left body : Formula) (a : Option GraphOutcome) (e : ℕ)
      → value_at x.meanings x.state e [] left ≡ Some (Val v) → Says (v ∷ []) body a → Grasps v left body a
  grasps_right v left body None e is said = tt
  grasps_right v left body (Some o) e is (p, same, d, gives) =
      let k : ℕ = e + d in
      let first : value_at x.meanings x.state k [] left ≡ Some (Val v) =
      every_depth_agrees x.meanings x.state e k [] left (Val v) (omega arith) is in
      let second : value_at x.meanings x.state k (v ∷ []) body ≡ Some p =
      every_depth_agrees x.meanings x.state d k (v ∷ []) body p (omega arith) gives in
      (p, same, k, rw (first, second, same_itself v) refl)

  grasps_other : (v : Value) (left body : Formula) (p : Outcome) (e : ℕ)
      → value_at x.meanings x.state e [] left ≡ Some p → (p ≡ Val v → ⊥) → Grasps v left body (Some outcome.Invalid)
  grasps_other v left body Invalid e is other = (Invalid, refl, e, rw is refl)
  grasps_other v left body (Val u) e is other = go (same_value v u) refl
    where
      go : (t : std.Bool) → same_value v u ≡ t → Grasps v left body (Some outcome.Invalid)
      go true t = absurd (other (let same = same_values v u t in ap (λ w. Val w) (sym same)))
      go false t = (Invalid, refl, e, rw (is, t) refl)

  -- what a root gives, where its bind's scope answers
  root_grasps : (d : ℕ) → SaysAt d → (b : NodeId) (v : Value) (left body : Formula) (l n : NodeId) (w : graph.Built)
      → ((t : ℕ) → body ≡ Name t → ⊥)
      → ((u : Value) → Gives x.meanings x.state [] left (Val u) → graph_value x.nodes u ≡ graph_value x.nodes v
      → u ≡ v) → w.outcome ≡ outcome.Val (graph_value x.nodes v) → Shows x (Built None) [] (term.Ref l) left
      → Shows x (Built (Some b)) (record { value = v; mode = Built (Some b) } ∷ []) (term.Ref n) body
      → (r : Row) → x.graph.row n ≡ Some r → r.scope ≡ Some b
      → ((a : GraphOutcome) → answer x.functions x.graph d (Around (Some b)) ≡ Some a
      → (o : GraphOutcome) × (answer x.functions x.graph d (Of (term.Ref l)) ≡ Some o)
      × (engine.as_built (Some w) o ≡ Some a))
      → Grasps v left body (answer x.functions x.graph (suc d) (Of (term.Ref n)))
  unfolding answer
  root_grasps d ih b v left body l n w named apart for sl sb r row scope round =
      by_round (answer x.functions x.graph d (Around (Some b))) refl
    where
      -- what the left gives the script
      left_says : (o : GraphOutcome) → answer x.functions x.graph d (Of (term.Ref l)) ≡ Some o
          → (p : Outcome) × (o ≡ graph_outcome x.nodes p) × (e : ℕ) × (value_at x.meanings x.state e [] left ≡ Some p)
      left_says o is = rw is at (ih (Built None) [] (term.Ref l) left sl top_sound)

      by_test : (a o : GraphOutcome) (t : std.Bool) → same_outcome o w.outcome ≡ t
          → answer x.functions x.graph d (Of (term.Ref l)) ≡ Some o
          → answer x.functions x.graph d (Around (Some b)) ≡ Some a
          → cond t (Some (outcome.Val (held.Bool true))) (Some outcome.Invalid) ≡ Some a
          → Grasps v left body (answer x.functions x.graph (suc d) (Of (term.Ref n)))
      by_test a o true t left_is round_is e =
          let p = left_says o left_is in
          let same : o ≡ outcome.Val (graph_value x.nodes v) = (outcome_decides o w.outcome).0 t ∙ for in
          let u = value_alone x.nodes (graph_value x.nodes v) p.0 (sym same ∙ p.1) in
          let gives : value_at x.meanings x.state p.2 [] left ≡ Some (Val u.0) = p.3 ∙ ap (λ q. Some q) u.1 in
          let is_v = apart u.0 (p.2, gives) (sym u.2) in
          let a_is : a ≡ outcome.Val (held.Bool true) = cc in
          grasps_right v left body (answer x.functions x.graph (suc d) (Of (term.Ref n))) p.2
          (gives ∙ ap (λ q. Some (Val q)) is_v)
          (form_says d ih (Built (Some b)) (record { value = v; mode = Built (Some b) } ∷ []) (term.Ref n) body
          (λ k e. absurd (named k e)) sb
          ((d, round_is ∙ ap (λ q. Some q) a_is), ((d, round_is ∙ ap (λ q. Some q) a_is), tt)))
      by_test a o false t left_is round_is e =
          let p = left_says o left_is in
          let a_is : outcome.Invalid ≡ a = cc in
          let round_invalid : answer x.functions x.graph d (Around (Some b)) ≡ Some outcome.Invalid =
          round_is ∙ ap (λ q. Some q) (sym a_is) in
          rw (row, scope, round_invalid) (grasps_other v left body p.0 p.2 p.3 (λ (is_v : p.0 ≡ Val v).
          let same : o ≡ w.outcome = p.1 ∙ ap (graph_outcome x.nodes) is_v ∙ sym for in
          let t' = (outcome_decides o w.outcome).1 same in
          absurd (cc)))

      by_round : (a : Option GraphOutcome) → answer x.functions x.graph d (Around (Some b)) ≡ a
          → Grasps v left body (answer x.functions x.graph (suc d) (Of (term.Ref n)))
      by_round None is = rw (row, scope, is) tt
      by_round (Some a) is = let o = round a is in by_test a o.0 (same_outcome o.0 w.outcome) refl o.1 is o.2

  -- what the scope of a bind at the top answers
  round_left : (d : ℕ) (b : NodeId) (r : Row) (l : NodeId) (h : FnRef) (caps : List NodeId) (w : graph.Built)
      → x.graph.row b ≡ Some r → r.scope ≡ None → r.def ≡ graph.Bind l h caps → x.graph.built b ≡ Some w
      → (a : GraphOutcome) → answer x.functions x.graph d (Around (Some b)) ≡ Some a
      → (o : GraphOutcome) × (answer x.functions x.graph d (Of (term.Ref l)) ≡ Some o)
      × (engine.as_built (Some w) o ≡ Some a)
  unfolding answer
  round_left zero b r l h caps w row scope def built a e = absurd (cc)
  round_left (suc d) b r l h caps w row scope def built a e =
      by_outer (answer x.functions x.graph d (Around None)) refl (rw (row, scope, def, built) at e)
    where
      by_left : (o : Option GraphOutcome) → answer x.functions x.graph d (Of (term.Ref l)) ≡ o
          → and_then o (engine.as_built (Some w)) ≡ Some a
          → (o : GraphOutcome) × (answer x.functions x.graph (suc d) (Of (term.Ref l)) ≡ Some o)
          × (engine.as_built (Some w) o ≡ Some a)
      by_left None is e = absurd (cc)
      by_left (Some o) is e = (o, at_depth x.functions x.graph d (suc d) (Of (term.Ref l)) o (omega arith) is, e)

      by_outer : (o : Option GraphOutcome) → answer x.functions x.graph d (Around None) ≡ o
          → engine.with_value o (λ t. and_then (answer x.functions x.graph d (Of (term.Ref l)))
          (engine.as_built (Some w))) ≡ Some a
          → (o : GraphOutcome) × (answer x.functions x.graph (suc d) (Of (term.Ref l)) ≡ Some o)
          × (engine.as_built (Some w) o ≡ Some a)
      by_outer None is e = absurd (cc)
      by_outer (Some outcome.Invalid) is e =
          absurd (let same = engine_proofs.one_outcome x.functions x.graph (Around None) outcome.Invalid
          (outcome.Val (held.Bool true)) (d, is) stands_top in cc)
      by_outer (Some (outcome.Val t)) is e = by_left (answer x.functions x.graph d (Of (term.Ref l))) refl e

  dead_leads : (d : ℕ) (n : NodeId) → x.graph.row n ≡ None
      → Leads (answer x.functions x.graph (suc d) (Of (term.Ref n))) (Some outcome.Invalid)
  unfolding answer
  dead_leads d n row o e = rw row at e

  grab_says : (d : ℕ) → SaysAt d → (k b : ℕ) (v : Value) → body_at x.state k ≡ Some (Grab b v true) → NameSays d k
  grab_says d ih k b v is =
      let g = fits.grabbed k b v is in
      let dec = rw is at (fits.declared k) in
      let bind = rw g.is_bind at (fits.declared b) in
      elim dec [
        | inl live ↦ by_row g.left g.body g.kept g.is_bind g.no_name g.apart live.0 live.1 live.2 live.3 bind
        | inr lost ↦ by_loss g.left g.body g.kept g.is_bind lost
      ]
    where
      by_loss : (left body : Formula) (kept : script.Kept) → body_at x.state b ≡ Some (Computed (Bind left body) kept)
          → Lost x (x.nodes k) b v → NameSays d k
      by_loss left body kept bind_is (p, row, died, other, left_gives, elsewhere) =
          let gives = left_gives left body kept bind_is in
          let said = said_by (λ d. while_built v (value_at x.meanings x.state d [] left)
          (value_at x.meanings x.state d (v ∷ []) body))
          (answer x.functions x.graph (suc d) (Of (term.Ref (x.nodes k)))) (Some outcome.Invalid)
          (dead_leads d (x.nodes k) row) (grasps_other v left body p gives.0 gives.1 other) in
          declared_says k (Grab b v true) (answer x.functions x.graph (suc d) (Of (term.Ref (x.nodes k)))) is
          (rw bind_is said)

      by_row : (left body : Formula) (kept : script.Kept) → body_at x.state b ≡ Some (Computed (Bind left body) kept)
          → ((t : ℕ) → body ≡ Name t → ⊥)
          → ((u : Value) → Gives x.meanings x.state [] left (Val u) → graph_value x.nodes u ≡ graph_value x.nodes v
          → u ≡ v) → (w : graph.Built) → x.graph.built (x.nodes b) ≡ Some w
          → w.outcome ≡ outcome.Val (graph_value x.nodes v)
          → w.root ≡ Some (x.nodes k) → Shows x (Built None) [] (term.Ref (x.nodes b)) (Bind left body) → NameSays d k
      by_row left body kept bind_is named apart w built for root (p, h, caps, op, sl, inner, fills, writes) =
          let o = opened x.graph None (x.nodes b) (term.Bind p h caps) op in
          let q = plain_bind o.0.def p h caps o.3 in
          let same_v : same_outcome (outcome.Val (graph_value x.nodes v))
          (outcome.Val (graph_value x.nodes v)) ≡ true =
          (outcome_decides (outcome.Val (graph_value x.nodes v)) (outcome.Val (graph_value x.nodes v))).1 refl in
          let at : and_then (x.graph.built (x.nodes b)) (root_at x.nodes v) ≡ Some (x.nodes k) =
          rw (built, for, same_v, root) refl in
          let sb = root_kid x fits None [] (x.nodes b) left body v (x.nodes k)
          (p, h, caps, op, sl, inner, fills, writes) at in
          let r = root_row (x.nodes b) v (x.nodes k) body named sb in
          declared_says k (Grab b v true) (answer x.functions x.graph (suc d) (Of (term.Ref (x.nodes k)))) is
          (rw bind_is (root_grasps d ih (x.nodes b) v left body q.0 (x.nodes k) w named apart for
          (rw q.3 at sl) sb r.0 r.1 r.2 (round_left d (x.nodes b) o.0 q.0 h q.1 w o.1 o.2 q.2 built)))

  name_says : (d : ℕ) → SaysAt d → (k : ℕ) → NameSays d k
  name_says d ih k = elim (own_or (body_at x.state k)) [
    | inl own ↦ own_says d ih k (body_at x.state k) refl (fits.declared k) own (λ b v e. grab_says d ih k b v e)
    | inr (t, kept, e) ↦
        let nodes : term.Ref (x.nodes k) ≡ term.Ref (x.nodes t) = rw e at (fits.declared k) in
        declared_says k (Computed (Name t) kept) _ e
        (rw nodes (own_says d ih t (body_at x.state t) refl (fits.declared t) (fits.resolved k t kept e)
        (λ b v e. grab_says d ih t b v e)))
  ]

  all_say : (d : ℕ) → SaysAt d
  unfolding answer
  all_say zero m E t f shows sound = tt
  all_say (suc d) m E t f shows sound = form_says d (all_say d) m E t f (λ k e. name_says d (all_say d) k) shows sound

  -- what a node or a term gives, the formula gives that it shows
  pub term_agrees : (m : Mode) (E : List Binding) (t : Term) (f : Formula) (o : GraphOutcome) → Shows x m E t f
      → Sound x m E → engine.Gives x.functions x.graph (Of t) o
      → (p : Outcome) × (o ≡ graph_outcome x.nodes p) × Gives x.meanings x.state (values E) f p
  term_agrees m E t f o shows sound (d, gives) =
      let s = rw gives at (all_say d m E t f shows sound) in (s.0, s.1, (s.2, s.3))

  -- what a name's node gives, the name gives
  pub name_agrees : (k : ℕ) (o : GraphOutcome) → NodeGives x.functions x.graph (x.nodes k) o
      → (p : Outcome) × (o ≡ graph_outcome x.nodes p) × Gives x.meanings x.state [] (Name k) p
  name_agrees k o gives = term_agrees Spelled [] (term.Ref (x.nodes k)) (Name k) o refl (tt, tt) gives

  -- arguments whose nodes give values give those
  pub gathered_agree : (m : Mode) (E : List Binding) (ts : Terms) (fs : Formulas) (d : ℕ) (vs : List GraphValue)
      → ShowsAll x m E ts fs → Sound x m E
      → engine.gathered (answer x.functions x.graph d) ts ≡ engine.Values vs
      → (ws : List Value) × (vs ≡ map (graph_value x.nodes) ws) × (e : ℕ)
      × (gathered (each_of (value_at x.meanings x.state e (values E)) fs) ≡ Values ws)
  gathered_agree m E ts fs d vs shows sound gives = rw gives at (gathered_says d (all_say d) m E ts fs shows sound)

  -- and so do the dependencies of an expert
  pub links_agree : (links : List ℕ) (d : ℕ) (vs : List GraphValue) → engine.gathered (answer x.functions x.graph d)
      (refs (map x.nodes links)) ≡ engine.Values vs
      → (ws : List Value) × (vs ≡ map (graph_value x.nodes) ws) × (e : ℕ)
      × (gathered (map (λ k. value_at x.meanings x.state e [] (Name k)) links) ≡ Values ws)
  links_agree links d vs gives = rw gives at (links_say d (all_say d) links)

  -- of a live grab: its row stands in its bind's scope, and where that holds the left gives its value
  abbrev pub LiveFacts : ℕ → ℕ → Value → Type 0
  LiveFacts k b v =
      (left : Formula) × (body : Formula) × (kept : script.Kept)
      × (body_at x.state b ≡ Some (Computed (Bind left body) kept))
      × ((t : ℕ) → body ≡ Name t → ⊥) × (r : Row) × (x.graph.row (x.nodes k) ≡ Some r)
      × (r.scope ≡ Some (x.nodes b)) × (node_at x b (Inside v ∷ []) ≡ Some (x.nodes k))
      × (engine.Stands x.functions x.graph (Some (x.nodes b)) → Gives x.meanings x.state [] left (Val v))

  pub live_facts : (k b : ℕ) (v : Value) → body_at x.state k ≡ Some (Grab b v true)
      → (w : graph.Built) × (x.graph.built (x.nodes b) ≡ Some w) × (w.outcome ≡ outcome.Val (graph_value x.nodes v))
      × (w.root ≡ Some (x.nodes k)) → LiveFacts k b v
  live_facts k b v is live =
      let g = fits.grabbed k b v is in
      let bind = rw g.is_bind at (fits.declared b) in
      by_row g.left g.body g.kept g.is_bind g.no_name g.apart live.0 live.1 live.2 live.3 bind
    where
      by_row : (left body : Formula) (kept : script.Kept) → body_at x.state b ≡ Some (Computed (Bind left body) kept)
          → ((t : ℕ) → body ≡ Name t → ⊥)
          → ((u : Value) → Gives x.meanings x.state [] left (Val u) → graph_value x.nodes u ≡ graph_value x.nodes v
          → u ≡ v) → (w : graph.Built) → x.graph.built (x.nodes b) ≡ Some w
          → w.outcome ≡ outcome.Val (graph_value x.nodes v)
          → w.root ≡ Some (x.nodes k) → Shows x (Built None) [] (term.Ref (x.nodes b)) (Bind left body)
          → (left : Formula) × (body : Formula) × (kept : script.Kept)
          × (body_at x.state b ≡ Some (Computed (Bind left body) kept))
          × ((t : ℕ) → body ≡ Name t → ⊥) × (r : Row) × (x.graph.row (x.nodes k) ≡ Some r)
          × (r.scope ≡ Some (x.nodes b)) × (node_at x b (Inside v ∷ []) ≡ Some (x.nodes k))
          × (engine.Stands x.functions x.graph (Some (x.nodes b)) → Gives x.meanings x.state [] left (Val v))
      by_row left body kept bind_is named apart w built for root (p, h, caps, op, sl, inner, fills, writes) =
          let o = opened x.graph None (x.nodes b) (term.Bind p h caps) op in
          let q = plain_bind o.0.def p h caps o.3 in
          let same_v : same_outcome (outcome.Val (graph_value x.nodes v))
          (outcome.Val (graph_value x.nodes v)) ≡ true =
          (outcome_decides (outcome.Val (graph_value x.nodes v)) (outcome.Val (graph_value x.nodes v))).1 refl in
          let at : and_then (x.graph.built (x.nodes b)) (root_at x.nodes v) ≡ Some (x.nodes k) =
          rw (built, for, same_v, root) refl in
          let sb = root_kid x fits None [] (x.nodes b) left body v (x.nodes k)
          (p, h, caps, op, sl, inner, fills, writes) at in
          let r = root_row (x.nodes b) v (x.nodes k) body named sb in (
            left,
            body,
            kept,
            bind_is,
            named,
            r.0,
            r.1,
            r.2,
            rw bind_is at,
            λ st. left_gives q.0 (rw q.3 at sl) st.0
                (round_left st.0 (x.nodes b) o.0 q.0 h q.1 w o.1 o.2 q.2 built (outcome.Val (held.Bool true)) st.1),
          )
        where
          by_test : (l : NodeId) → Shows x (Built None) [] (term.Ref l) left → (d : ℕ) (o : GraphOutcome)
              → answer x.functions x.graph d (Of (term.Ref l)) ≡ Some o → (t : std.Bool)
              → same_outcome o w.outcome ≡ t
              → cond t (Some (outcome.Val (held.Bool true))) (Some outcome.Invalid) ≡ Some
              (outcome.Val (held.Bool true)) → Gives x.meanings x.state [] left (Val v)
          by_test l sl d o is false t e = absurd (cc)
          by_test l sl d o is true t e =
              let g = term_agrees (Built None) [] (term.Ref l) left o sl top_sound (d, is) in
              let same : o ≡ outcome.Val (graph_value x.nodes v) = (outcome_decides o w.outcome).0 t ∙ for in
              let u = value_alone x.nodes (graph_value x.nodes v) g.0 (sym same ∙ g.1) in
              let gives : value_at x.meanings x.state g.2.0 [] left ≡ Some (Val u.0) = g.2.1 ∙ ap (λ q. Some q) u.1 in
              (g.2.0, gives ∙ ap (λ q. Some (Val q)) (apart u.0 (g.2.0, gives) (sym u.2)))

          left_gives : (l : NodeId) → Shows x (Built None) [] (term.Ref l) left → (d : ℕ)
              → (o : GraphOutcome) × (answer x.functions x.graph d (Of (term.Ref l)) ≡ Some o)
              × (engine.as_built (Some w) o ≡ Some (outcome.Val (held.Bool true)))
              → Gives x.meanings x.state [] left (Val v)
          left_gives l sl d (o, is, e) = by_test l sl d o is (same_outcome o w.outcome) refl e

  pub grab_facts : (k b : ℕ) (v : Value) (r : Row) → x.graph.row (x.nodes k) ≡ Some r
      → body_at x.state k ≡ Some (Grab b v true) → LiveFacts k b v
  grab_facts k b v r live_row is = elim (rw is at (fits.declared k)) [
    | inl live ↦ live_facts k b v is live
    | inr lost ↦ absurd (let gone = lost.1 in cc)
  ]
