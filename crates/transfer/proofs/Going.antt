-- Where a point of the graph leads in one step, item by item.
use Rattle.std.proofs.Common.{◌≡◌, ◌⊎◌, inl, inr, ℕ, zero, suc, ◌+◌, ◌<◌, ◌≤◌, true, false, List, [], ◌∷◌, map, Option, None, Some, refl, sym, ap, subst, ◌∙◌, arith, slice_get, cond}
use Rattle.std.specs.Prelude as std
use Rattle.inc_value.specs.declared.function.FnRef.{FnRef}
use Rattle.inc_value.specs.declared.node.NodeId.{NodeId}
use Rattle.inc_value.specs.declared.node.Part.{Part}
use Rattle.inc_value.specs.declared.node.Part.TheVariants.{Main as MainPart, Change as ChangePart}
use Rattle.inc_value.specs.declared.node.Point.{Point as GraphPoint}
use Rattle.inc_value.specs.declared.outcome.Outcome.{Outcome as GraphOutcome}
use Rattle.inc_value.specs.declared.outcome.Outcome.TheVariants as outcome
use Rattle.inc_value.specs.declared.ty.Ty.{Ty}
use Rattle.inc_value.specs.declared.value.Value.{Value as GraphValue}
use Rattle.inc_value.specs.Choice.{and_then, Among}
use Rattle.inc_terms.specs.Depend as depend
use Rattle.inc_terms.specs.Depend.{main, change, Depends as GraphDepends, subject_of, right_of, fixed_reads, root_for, at_most_one}
use Rattle.inc_terms.specs.Evaluate.{NodeGives, Stands}
use Rattle.inc_terms.specs.Graph as graph
use Rattle.inc_terms.specs.Graph.{Row, Def}
use Rattle.inc_terms.specs.Same.{same_outcome}
use Rattle.inc_terms.specs.Term as term
use Rattle.inc_terms.specs.Term.{Terms, refs}
use Rattle.inc_terms.proofs.Same.{outcome_decides}
use Rattle.script_model.specs.Depth.{Point, Main, Change, mains, stands_at, main_points, change_points, scoped_points, body_points, Depends}
use Rattle.script_model.specs.Depth as depth
use Rattle.script_model.specs.Evaluate.{value_at}
use Rattle.script_model.specs.Formula as script
use Rattle.script_model.specs.Formula.{Formula, Formulas, Body, body_at, Literal, Name, Bound, Apply, Fold, If, Join, Bind, At, Steps, Now, Variable, Computed, Freeze, After, Every, Expert, Grab}
use Rattle.script_model.specs.Need.{Edge, Argument, Test, Then, Else, Child, Left, Inside, Item, Named, Place, rounds, environment, bind_around, argument_at, part_at, formula_at, outcome_at, argument_places, part_reads, scope_reads, Reads, StillStands}
use Rattle.script_model.specs.Valid.{HasType, Valid, KeepToTypes}
use Rattle.script_model.specs.Values as script_value
use Rattle.script_model.specs.Values.{Value, Outcome, Val, Invalid}
use Rattle.script_model.proofs.Evaluation.{every_depth_agrees}
use Rattle.script_model.proofs.NeededStands.{among_left}
use Rattle.script_model.proofs.TypedCalls.{part_is, place_typed}
use Rattle.script_model.proofs.TypedValues.{value_has}
use Rattle.transfer.specs.Both.{Both, graph_value, graph_outcome}
use Rattle.transfer.specs.Shows.{Built, plain, graph_step, Shows, ShowsAll, IsTop, Declares, Fits}
use Rattle.transfer.specs.Items.{part_node, node_at, node_of, around, scope_at, IsChoice}
use Rattle.transfer.specs.Cycles.{DeclaredOwn}
use Rattle.transfer.proofs.Carriers.{place_agrees}
use Rattle.transfer.specs.Cycles.{IsForm}
use Rattle.transfer.proofs.Deep.{map_reads, fold_reads}
use Rattle.transfer.proofs.Enclosed.{grab_left}
use Rattle.transfer.proofs.Having.{bind_round}
use Rattle.transfer.proofs.Holding.{variable_at}
use Rattle.transfer.proofs.Numbers.{number, turn, part_lower, change_lower, subject_lower, gate_lower, change_gate_lower, whole_lower, if_turn, join_turn, bind_turn}
use Rattle.transfer.proofs.Places.{if_subject, join_subject, bind_subject, map_parts, fold_parts, plain_map, plain_fold, plain_if, plain_join, plain_bind, opened, place_shows}
use Rattle.transfer.proofs.Staying.{IsOther, other_row}
use Rattle.transfer.proofs.Stepping.{main_among, argument_there, argument_first, scope_bind}
use Rattle.transfer.proofs.Typed.{IsOwnName, name_own, link_names, body_typed}
use Rattle.transfer.proofs.Owning.{among_mains, links_among, named_among, each_among, scoped_in, gate_in, main_in, change_in, stands_deep, IsItself}

-- ---- one step

-- the left of a bind is read, or the bind is round the place
abbrev pub IsLeftOf : Both → Item → ℕ → List Edge → Type 0
IsLeftOf x i owner bind = Reads x.meanings x.state i (Place owner (Left ∷ bind))
    ⊎ ((path : List Edge) × (k : ℕ) × (i ≡ Place owner path) × (bind_around k path ≡ Some bind))

abbrev pub IsOwnItem : Both → Item → Type 0
IsOwnItem x j = (t : ℕ) → j ≡ Named t → DeclaredOwn x t

-- how the one item is a part of the other: a whole formula is a freeze's, a body its bind's, and the main of a bind leads to its body alone
pub record IsPart (x : Both) (i : Item) (p : Point) (j : Item) : Type 0 where
  pub whole : (o : ℕ) → j ≡ Place o [] → (child : Formula) × (predicate : FnRef) × (kept : Option Value)
      × (body_at x.state o ≡ Some (Freeze child predicate kept))
  pub inside : (o : ℕ) (v : Value) (r : List Edge) → j ≡ Place o (Inside v ∷ r) → (i ≡ Place o r) × (p ≡ Main (Place o r))
  pub body : (l b : Formula) (o : ℕ) (r : List Edge) → i ≡ Place o r → p ≡ Main (Place o r)
      → formula_at x.state o r ≡ Some (Bind l b) → (v : Value) × (j ≡ Place o (Inside v ∷ r))
  pub lower : (o : ℕ) (r : List Edge) → j ≡ Place o r → number x.state (Main j) < number x.state p

-- the left of a bind, by whose change the point is
abbrev pub IsSelf : Item → Item → Type 0
IsSelf i j = (j ≡ i) × (o : ℕ) × (r : List Edge) × (j ≡ Place o (Left ∷ r))

-- where a point leads that is of an item: to the main of what the item reads, or of the item; to the item's own change; or to the change of a
-- bind whose left it reads
pub data Goes (x : Both) (i : Item) (p : Point) (Q : GraphPoint) : Type 0 where
  to_part : (j : Item) (m : NodeId) → Reads x.meanings x.state i j ⊎ IsSelf i j → node_of x j ≡ Some m → Q ≡ main m
      → Depends x.meanings x.state p (Main (depth.node_of x.state j)) → IsOwnItem x j → IsPart x i p j → Goes x i p Q
  to_own : (owner : ℕ) (path : List Edge) (f : Formula) (n : NodeId) → i ≡ Place owner path
      → formula_at x.state owner path ≡ Some f → IsChoice (Some f) → node_at x owner path ≡ Some n → Q ≡ change n
      → Depends x.meanings x.state p (Change (Place owner path))
      → number x.state (Change (Place owner path)) < number x.state p → Goes x i p Q
  to_left : (owner : ℕ) (bind : List Edge) (left body : Formula) (b : NodeId) → IsLeftOf x i owner bind
      → formula_at x.state owner bind ≡ Some (Bind left body) → node_at x owner bind ≡ Some b → Q ≡ change b
      → Depends x.meanings x.state p (Change (Place owner bind))
      → number x.state (Change (Place owner bind)) < number x.state p → Goes x i p Q

pub form_other : (f : Formula) → IsForm f → ((k : ℕ) × (f ≡ Bound k)) ⊎ IsOther f
form_other (Name t) form = absurd form
form_other (Bound k) form = inl (k, refl)
form_other f form = inr tt

pub no_name : (owner : ℕ) (path : List Edge) (x : Both) → IsOwnItem x (Place owner path)
no_name owner path x t e = absurd (cc)

-- a bind's root, where it is built for the outcome
pub rooted_at : (w : Option graph.Built) (o : GraphOutcome) (m : NodeId) → Among m (at_most_one (root_for w o))
    → (v : graph.Built) × (w ≡ Some v) × (v.outcome ≡ o) × (v.root ≡ Some m)
rooted_at None o m none = absurd none
rooted_at (Some w) o m among = go (same_outcome o w.outcome) refl w.root refl among
  where
    go : (b : std.Bool) → same_outcome o w.outcome ≡ b → (root : Option NodeId) → w.root ≡ root
        → Among m (at_most_one (cond b root None)) → (v : graph.Built) × (Some w ≡ Some v) × (v.outcome ≡ o)
        × (v.root ≡ Some m)
    go false e root r none = absurd none
    go true e None r none = absurd none
    go true e (Some k) r (inr none) = absurd none
    go true e (Some k) r (inl same) = (w, refl, sym ((outcome_decides o w.outcome).0 e), rw same r)

module _ (x : Both) (fits : Fits x) (keep : KeepToTypes x.meanings) (valid : Valid x.meanings x.state) where
  abbrev D : GraphPoint → GraphPoint → Type 0
  D p q = GraphDepends x.functions x.graph x.died p q

  -- what the parts of a place are it reads
  pub part_read : (owner : ℕ) (path : List Edge) (f : Formula) (d : ℕ) (j : Item) → formula_at x.state owner path ≡ Some f
      → Among j (part_reads (value_at x.meanings x.state d (environment path)) owner path f)
      → Reads x.meanings x.state (Place owner path) j
  part_read owner path f d j is among = (
    d,
    rw is (among_left j (part_reads (value_at x.meanings x.state d (environment path)) owner path f)
        (scope_reads owner path f) among),
  )

  -- a name by a reference that a child gives is its own target
  pub reference_own : (owner : ℕ) (path : List Edge) (child : Formula) (t : ℕ) (base : _) (d : ℕ)
      → formula_at x.state owner (Child ∷ path) ≡ Some child → StillStands x.meanings x.state (Place owner path)
      → value_at x.meanings x.state d (environment path) child ≡ Some (Val (script_value.Reference t base))
      → DeclaredOwn x t
  reference_own owner path child t base d is stands gives =
      let place = place_typed x.meanings x.state keep valid owner (Child ∷ path) child is stands in
      let has = value_has x.meanings x.state keep valid d owner (environment path) place.bounds child place.ty
      (Val (script_value.Reference t base)) place.fit place.typed gives in
      name_own x.meanings x.state valid _ t _ has.1

  -- ---- the main of a place

  module _ (owner : ℕ) (path : List Edge) (f : Formula) (n : NodeId) (is : formula_at x.state owner path ≡ Some f)
      (at : node_at x owner path ≡ Some n) (stands : StillStands x.meanings x.state (Place owner path)) where
    abbrev Deep : Type 0
    Deep = (d : ℕ) × ((e : ℕ) → d ≤ e → stands_at x.meanings x.state e owner (rounds path) ≡ true)

    deep : Deep
    deep = stands_deep x.meanings x.state owner (rounds path) stands

    -- to the change of the innermost bind
    gate_goes : (part : Part) (p : Point) (r : Row) (b : NodeId) (Q : GraphPoint) → IsOther f → x.graph.row n ≡ Some r
        → r.scope ≡ Some b → Q ≡ change b
        → ((bind : List Edge) → bind_around 0 path ≡ Some bind → Depends x.meanings x.state p (Change (Place owner bind)))
        → ((bind : List Edge) → bind_around 0 path ≡ Some bind → number x.state (Change (Place owner bind)) < number x.state p)
        → (i : Item) (longer : List Edge) → i ≡ Place owner longer → bind_around 0 longer ≡ bind_around 0 path
        → Goes x i p Q
    gate_goes part p r b Q form row scope Q_is dep low i longer i_is same =
        let own = other_row x (scope_at x owner path) (around x owner path) n f form (place_shows x fits owner path n f is at) in
        let rows : own.0 ≡ r = (let e = own.2 in cc) in
        let scope' : scope_at x owner path ≡ Some b = sym (rw rows at own.3) ∙ scope in
        let w = scope_bind x owner path b scope' in
        let bind = round_is_bind w.0 w.1 in
        to_left owner w.0 bind.0 bind.1 b (inr (longer, 0, i_is, same ∙ w.1)) bind.2 w.2 Q_is (dep w.0 w.1) (low w.0 w.1)
      where
        round_is_bind : (bind : List Edge) → bind_around 0 path ≡ Some bind
            → (l : Formula) × (body : Formula) × (formula_at x.state owner bind ≡ Some (Bind l body))
        round_is_bind bind e = let w = bind_round x owner path bind f n at is e in (w.1, w.2, w.4)

    abbrev i : Item
    i = Place owner path

    abbrev p : Point
    p = Main (Place owner path)

    -- what is among the points of the form, at a depth at which the place stands
    form_in : (q : Point) (d : ℕ) → IsOther f
        → ((e : ℕ) → d ≤ e → Among q (main_points x.state (value_at x.meanings x.state e (environment path)) owner path f))
        → Depends x.meanings x.state p q
    form_in q d form among =
        let e : ℕ = d + deep.0 in
        main_in x.meanings x.state owner path e f q is
        (scoped_in x.meanings x.state owner path e f _ q form (deep.1 e (omega arith)) (among e (omega arith)))

    -- a part of the main of a form that is no bind
    not_bind : ((l b : Formula) → f ≡ Bind l b → ⊥) → (l b : Formula) (o : ℕ) (r : List Edge) → i ≡ Place o r
        → formula_at x.state o r ≡ Some (Bind l b) → ⊥
    not_bind other l b o r i_is there =
        let same : formula_at x.state owner path ≡ formula_at x.state o r = ap formula_of i_is in
        let some : Some f ≡ Some (Bind l b) = sym is ∙ same ∙ there in
        other l b (cc)
      where
        formula_of : Item → Option Formula
        formula_of (Named k) = None
        formula_of (Place o r) = formula_at x.state o r

    edge_part : (edge : Edge) (g : Formula) → part_at f edge ≡ Some g
        → ((l b : Formula) (o : ℕ) (r : List Edge) → i ≡ Place o r → p ≡ Main (Place o r)
        → formula_at x.state o r ≡ Some (Bind l b) → (v : Value) × (edge ≡ Inside v))
        → number x.state (Main (Place owner (edge ∷ path))) < number x.state p
        → IsPart x i p (Place owner (edge ∷ path))
    edge_part edge g part bodies low =
        record {
          whole = λ o e. absurd (cc);
          inside = λ o v r e. (let owners : owner ≡ o = cc in let paths : edge ∷ path ≡ Inside v ∷ r = cc in
              let rest : path ≡ r = cc in let same : Place owner path ≡ Place o r = rw (owners, rest) refl in
              (same, ap (λ (i : Item). Main i) same));
          body = λ l b o r i_is p_is there.
              let v = bodies l b o r i_is p_is there in
              (v.0, rw (v.1) (ap (λ (i : Item). inside_of v.0 i) i_is));
          lower = λ o r e. low;
        }
      where
        inside_of : Value → Item → Item
        inside_of v (Named k) = Named k
        inside_of v (Place o r) = Place o (Inside v ∷ r)

    argument_goes : (fs : Formulas) (r : Row) (kids : List NodeId) (Q : GraphPoint) → IsOther f
        → x.graph.row n ≡ Some r → ((j : ℕ) → part_node r.def (Argument j) ≡ slice_get kids j)
        → ((e : ℕ) → main_points x.state (value_at x.meanings x.state e (environment path)) owner path f
        ≡ mains x.state (argument_places owner path 0 fs))
        → ((j : Item) → Among j (argument_places owner path 0 fs) → Reads x.meanings x.state i j)
        → ((j : ℕ) (g : Formula) → argument_at fs j ≡ Some g → part_at f (Argument j) ≡ Some g)
        → ((l b : Formula) → f ≡ Bind l b → ⊥)
        → ShowsAll x (Built (scope_at x owner path)) (around x owner path) (refs kids) fs
        → Among Q (map main kids) → Goes x i p Q
    argument_goes fs r kids Q form row parts points reads part_is other shows among =
        let kid = main_among Q kids among in
        let arg = argument_there x (Built (scope_at x owner path)) (around x owner path) kids fs kid.0 kid.1 shows kid.2 in
        let listed = argument_first owner path fs kid.0 arg.0 arg.1 in
        let node : node_at x owner (Argument kid.0 ∷ path) ≡ Some kid.1 = rw (at, row) (parts kid.0 ∙ kid.2) in
        to_part (Place owner (Argument kid.0 ∷ path)) kid.1 (inl (reads (Place owner (Argument kid.0 ∷ path)) listed)) node kid.3
        (form_in (Main (depth.node_of x.state (Place owner (Argument kid.0 ∷ path)))) 0 form
        (λ e le. subst (λ (ps : List Point). Among (Main (depth.node_of x.state (Place owner (Argument kid.0 ∷ path)))) ps)
        (sym (points e)) (among_mains x.state (argument_places owner path 0 fs) (Place owner (Argument kid.0 ∷ path)) listed)))
        (no_name owner (Argument kid.0 ∷ path) x)
        (edge_part (Argument kid.0) arg.0 (part_is kid.0 arg.0 arg.1)
        (λ l b o r i_is p_is there. absurd (not_bind other l b o r i_is there))
        (part_lower x.state owner path f (Argument kid.0) arg.0 is (part_is kid.0 arg.0 arg.1)))

    -- what the subject gives
    subject_gives : (g : Formula) (edge : Edge) (s : NodeId) (o : GraphOutcome) → part_at f edge ≡ Some g
        → node_at x owner (edge ∷ path) ≡ Some s → Stands x.functions x.graph (scope_at x owner (edge ∷ path))
        → environment (edge ∷ path) ≡ environment path → NodeGives x.functions x.graph s o
        → (q : Outcome) × (o ≡ graph_outcome x.nodes q) × (d : ℕ)
        × (value_at x.meanings x.state d (environment path) g ≡ Some q)
    subject_gives g edge s o part s_at round same gives =
        let w = place_agrees x fits owner (edge ∷ path) g s o (part_is x.state owner path f edge is ∙ part) s_at round gives in
        (w.0, w.1, w.2.0, given (formula_at x.state owner (edge ∷ path)) (part_is x.state owner path f edge is ∙ part) w.2.0 w.0 w.2.1)
      where
        given : (a : Option Formula) → a ≡ Some g → (d : ℕ) (q : Outcome)
            → and_then a (λ f. value_at x.meanings x.state d (environment (edge ∷ path)) f) ≡ Some q
            → value_at x.meanings x.state d (environment path) g ≡ Some q
        given a a_is d q e = rw (a_is, same) at e

    later : (g : Formula) (q : Outcome) (d e : ℕ) → d ≤ e → value_at x.meanings x.state d (environment path) g ≡ Some q
        → value_at x.meanings x.state e (environment path) g ≡ Some q
    later g q d e le h = every_depth_agrees x.meanings x.state d e (environment path) g q le h

    side_goes : (test a b : Formula) (r : Row) (s y z : NodeId) (q : Outcome) (d : ℕ) (m : NodeId) (Q : GraphPoint)
        → f ≡ If test a b → x.graph.row n ≡ Some r → r.def ≡ graph.If s y z
        → value_at x.meanings x.state d (environment path) test ≡ Some q
        → Among m (at_most_one (right_of x.graph n (graph.If s y z) (graph_outcome x.nodes q))) → Q ≡ main m → Goes x i p Q
    side_goes test a b r s y z (Val (script_value.Bool true)) d m Q form row def gives (inl e) Q_is =
        to_part (Place owner (Then ∷ path)) m
        (inl (part_read owner path (If test a b) d (Place owner (Then ∷ path)) (rw form at is) (inr (rw gives (inl refl)))))
        (rw (at, row, def, e) refl) Q_is
        (form_in (Main (depth.node_of x.state (Place owner (Then ∷ path)))) d (rw form tt)
        (λ e le. rw (form, later test (Val (script_value.Bool true)) d e le gives) (inr (inl refl))))
        (no_name owner (Then ∷ path) x)
        (edge_part Then a (rw form refl)
        (λ l c o r i_is p_is there. absurd (not_bind (λ l' c' e. (let e' : If test a b ≡ Bind l' c' = sym form ∙ e in cc)) l c o r i_is there))
        (part_lower x.state owner path f Then a is (rw form refl)))
    side_goes test a b r s y z (Val (script_value.Bool false)) d m Q form row def gives (inl e) Q_is =
        to_part (Place owner (Else ∷ path)) m
        (inl (part_read owner path (If test a b) d (Place owner (Else ∷ path)) (rw form at is) (inr (rw gives (inl refl)))))
        (rw (at, row, def, e) refl) Q_is
        (form_in (Main (depth.node_of x.state (Place owner (Else ∷ path)))) d (rw form tt)
        (λ e le. rw (form, later test (Val (script_value.Bool false)) d e le gives) (inr (inl refl))))
        (no_name owner (Else ∷ path) x)
        (edge_part Else b (rw form refl)
        (λ l c o r i_is p_is there. absurd (not_bind (λ l' c' e. (let e' : If test a b ≡ Bind l' c' = sym form ∙ e in cc)) l c o r i_is there))
        (part_lower x.state owner path f Else b is (rw form refl)))
    side_goes test a b r s y z (Val (script_value.Bool true)) d m Q form row def gives (inr none) Q_is = absurd none
    side_goes test a b r s y z (Val (script_value.Bool false)) d m Q form row def gives (inr none) Q_is = absurd none
    side_goes test a b r s y z (Val (script_value.Int v)) d m Q form row def gives none Q_is = absurd none
    side_goes test a b r s y z (Val (script_value.Text v)) d m Q form row def gives none Q_is = absurd none
    side_goes test a b r s y z (Val (script_value.Reference v u)) d m Q form row def gives none Q_is = absurd none
    side_goes test a b r s y z Invalid d m Q form row def gives none Q_is = absurd none

    named_goes : (child : Formula) (c : NodeId) (q : Outcome) (d : ℕ) (m : NodeId) (Q : GraphPoint) → f ≡ Join child
        → value_at x.meanings x.state d (environment path) child ≡ Some q
        → Among m (at_most_one (right_of x.graph n (graph.Join c) (graph_outcome x.nodes q))) → Q ≡ main m → Goes x i p Q
    named_goes child c (Val (script_value.Reference v u)) d m Q form gives (inl e) Q_is =
        let f_is = rw form at is in
        to_part (Named v) m
        (inl (part_read owner path (Join child) d (Named v) f_is (inr (rw gives (inl refl)))))
        (ap (λ n. Some n) (sym e)) Q_is
        (form_in (Main (depth.node_of x.state (Named v))) d (rw form tt)
        (λ e le. rw (form, later child (Val (script_value.Reference v u)) d e le gives) (inr (inl refl))))
        (λ t t_is. let same : v ≡ t = cc in rw (← same) (reference_own owner path child v u d
        (part_is x.state owner path (Join child) Child f_is) stands gives))
        (record {
          whole = λ o e. absurd (cc);
          inside = λ o v r e. absurd (cc);
          body = λ l b o r i_is p_is there. absurd (not_bind (λ l' b' e. (let e' : Join child ≡ Bind l' b' = sym form ∙ e in cc)) l b o r i_is there);
          lower = λ o r e. absurd (cc);
        })
    named_goes child c (Val (script_value.Reference v u)) d m Q form gives (inr none) Q_is = absurd none
    named_goes child c (Val (script_value.Bool v)) d m Q form gives none Q_is = absurd none
    named_goes child c (Val (script_value.Int v)) d m Q form gives none Q_is = absurd none
    named_goes child c (Val (script_value.Text v)) d m Q form gives none Q_is = absurd none
    named_goes child c Invalid d m Q form gives none Q_is = absurd none

    root_goes : (left body : Formula) (q : Outcome) (d : ℕ) (m : NodeId) (Q : GraphPoint) → f ≡ Bind left body
        → value_at x.meanings x.state d (environment path) left ≡ Some q
        → (w : graph.Built) → x.graph.built n ≡ Some w → (w.outcome ≡ outcome.Invalid → w.root ≡ None)
        → w.outcome ≡ graph_outcome x.nodes q → w.root ≡ Some m → Q ≡ main m → Goes x i p Q
    root_goes left body Invalid d m Q form gives w built rootless for root Q_is =
        absurd (let none = rootless for in cc)
    root_goes left body (Val v) d m Q form gives w built rootless for root Q_is =
        to_part (Place owner (Inside v ∷ path)) m
        (inl (part_read owner path (Bind left body) d (Place owner (Inside v ∷ path)) (rw form at is) (inr (rw gives (inl refl)))))
        (rw (at, built, for, same, root) refl) Q_is
        (form_in (Main (depth.node_of x.state (Place owner (Inside v ∷ path)))) d (rw form tt)
        (λ e le. rw (form, later left (Val v) d e le gives) (inr (inl refl))))
        (no_name owner (Inside v ∷ path) x)
        (edge_part (Inside v) body (rw form refl) (λ l b o r i_is p_is there. (v, refl))
        (part_lower x.state owner path f (Inside v) body is (rw form refl)))
      where
        same : same_outcome (outcome.Val (graph_value x.nodes v)) (outcome.Val (graph_value x.nodes v)) ≡ true
        same = (outcome_decides (outcome.Val (graph_value x.nodes v)) (outcome.Val (graph_value x.nodes v))).1 refl

    -- a leaf reads nothing and chooses nothing
    leaf_goes : (u : term.Term) (r : Row) (Q : GraphPoint) → plain r.def ≡ Some u
        → ((g : FnRef) (ts : Terms) → u ≡ term.Map g ts → ⊥)
        → ((g : FnRef) (v : GraphValue) (ts : Terms) → u ≡ term.Fold g v ts → ⊥)
        → ((a b c : term.Term) → u ≡ term.If a b c → ⊥) → ((a : term.Term) → u ≡ term.Join a → ⊥)
        → ((a : term.Term) (g : FnRef) (ts : Terms) → u ≡ term.Bind a g ts → ⊥)
        → Among Q (fixed_reads x.graph n r.def MainPart) ⊎ ((s : NodeId) × (subject_of r.def ≡ Some s)) → ⊥
    leaf_goes u r Q e map_ fold_ if_ join_ bind_ = by_def r.def e
      where
        by_def : (def : Def) → plain def ≡ Some u
            → Among Q (fixed_reads x.graph n def MainPart) ⊎ ((s : NodeId) × (subject_of def ≡ Some s)) → ⊥
        by_def (graph.Map g kids) e h = map_ g (refs kids) (cc)
        by_def (graph.Fold g v kids) e h = fold_ g v (refs kids) (cc)
        by_def (graph.If a b c) e h = if_ (term.Ref a) (term.Ref b) (term.Ref c) (cc)
        by_def (graph.Join a) e h = join_ (term.Ref a) (cc)
        by_def (graph.Bind a g caps) e h = bind_ (term.Ref a) g (refs caps) (cc)
        by_def (graph.Const v) e (inl none) = none
        by_def (graph.Const v) e (inr s) = let none = s.1 in cc
        by_def (graph.At t) e (inl none) = none
        by_def (graph.At t) e (inr s) = let none = s.1 in cc
        by_def (graph.Steps v ss) e (inl none) = none
        by_def (graph.Steps v ss) e (inr s) = let none = s.1 in cc
        by_def graph.Now e (inl none) = none
        by_def graph.Now e (inr s) = let none = s.1 in cc
        by_def def e h = absurd (cc)

    -- what a form depends on beside its scope
    abbrev Inner : Row → GraphPoint → Type 0
    Inner r Q = Among Q (fixed_reads x.graph n r.def MainPart)
        ⊎ ((s : NodeId) × (o : GraphOutcome) × (m : NodeId) × (subject_of r.def ≡ Some s) × NodeGives x.functions x.graph s o
        × Among m (at_most_one (right_of x.graph n r.def o)) × (Q ≡ main m))

    no_subject : (r : Row) (Q : GraphPoint) → Inner r Q
        → Among Q (fixed_reads x.graph n r.def MainPart) ⊎ ((s : NodeId) × (subject_of r.def ≡ Some s))
    no_subject r Q (inl among) = inl among
    no_subject r Q (inr (s, o, m, sub, gives, among, Q_is)) = inr (s, sub)

    map_goes : (g : FnRef) (fs : Formulas) (ts : Terms) (r : Row) (Q : GraphPoint) → f ≡ Apply g fs
        → x.graph.row n ≡ Some r → plain r.def ≡ Some (term.Map g ts)
        → ShowsAll x (Built (scope_at x owner path)) (around x owner path) ts fs → Inner r Q → Goes x i p Q
    map_goes g fs ts r Q form row def all inner =
        let d = plain_map r.def g ts def in by_def d.0 d.1 (rw d.2 at all) inner
      where
        none_sub : (def : Def) (kids : List NodeId) (s : NodeId) → def ≡ graph.Map g kids → subject_of def ≡ Some s → ⊥
        none_sub def kids s e sub = let e' = rw e at sub in cc

        by_def : (kids : List NodeId) → r.def ≡ graph.Map g kids
            → ShowsAll x (Built (scope_at x owner path)) (around x owner path) (refs kids) fs → Inner r Q → Goes x i p Q
        by_def kids def all (inl among) =
            argument_goes fs r kids Q (rw form tt) row (λ j. map_parts r.def g kids def j) (λ e. rw form refl)
            (λ j in_. part_read owner path (Apply g fs) 0 j (rw form at is) in_)
            (λ j h e. rw form e) (λ l b e. (let e' : Apply g fs ≡ Bind l b = sym form ∙ e in cc)) all
            (rw (map_reads x.graph n r.def g kids def) at among)
        by_def kids def all (inr (s, o, m, sub, gives, among, Q_is)) = absurd (none_sub r.def kids s def sub)

    fold_goes : (g : FnRef) (v : Value) (fs : Formulas) (ts : Terms) (r : Row) (Q : GraphPoint) → f ≡ Fold g v fs
        → x.graph.row n ≡ Some r → plain r.def ≡ Some (term.Fold g (graph_value x.nodes v) ts)
        → ShowsAll x (Built (scope_at x owner path)) (around x owner path) ts fs → Inner r Q → Goes x i p Q
    fold_goes g v fs ts r Q form row def all inner =
        let d = plain_fold r.def g (graph_value x.nodes v) ts def in by_def d.0 d.1 (rw d.2 at all) inner
      where
        none_sub : (def : Def) (kids : List NodeId) (s : NodeId) → def ≡ graph.Fold g (graph_value x.nodes v) kids
            → subject_of def ≡ Some s → ⊥
        none_sub def kids s e sub = let e' = rw e at sub in cc

        by_def : (kids : List NodeId) → r.def ≡ graph.Fold g (graph_value x.nodes v) kids
            → ShowsAll x (Built (scope_at x owner path)) (around x owner path) (refs kids) fs → Inner r Q → Goes x i p Q
        by_def kids def all (inl among) =
            argument_goes fs r kids Q (rw form tt) row (λ j. fold_parts r.def g (graph_value x.nodes v) kids def j)
            (λ e. rw form refl) (λ j in_. part_read owner path (Fold g v fs) 0 j (rw form at is) in_)
            (λ j h e. rw form e) (λ l b e. (let e' : Fold g v fs ≡ Bind l b = sym form ∙ e in cc)) all
            (rw (fold_reads x.graph n r.def g (graph_value x.nodes v) kids def) at among)
        by_def kids def all (inr (s, o, m, sub, gives, among, Q_is)) = absurd (none_sub r.def kids s def sub)

    if_goes : (test a b : Formula) (s y z : NodeId) (r : Row) (Q : GraphPoint) → f ≡ If test a b
        → x.graph.row n ≡ Some r → r.scope ≡ scope_at x owner path → r.def ≡ graph.If s y z
        → Stands x.functions x.graph r.scope → Inner r Q → Goes x i p Q
    if_goes test a b s y z r Q form row scope def round (inl among) =
        elim (rw def at among) [
          | inl e ↦ to_own owner path f n refl is (rw form tt) at e
              (form_in (Change (Place owner path)) 0 (rw form tt) (λ e le. rw form (inl refl)))
              (change_lower x.state owner path (If test a b) (rw form at is) (if_turn test a b).0)
          | inr none ↦ absurd none
        ]
    if_goes test a b s y z r Q form row scope def round (inr (s', o, m, sub, gives, among, Q_is)) =
        let same : s ≡ s' = (let e = rw def at sub in cc) in
        let g = subject_gives test Test s' o (rw form refl) (rw (at, row, def, same) refl) (rw scope at round) refl gives in
        side_goes test a b r s y z g.0 g.2 m Q form row def g.3 (rw (def, g.1) at among) Q_is

    join_goes : (child : Formula) (s : NodeId) (r : Row) (Q : GraphPoint) → f ≡ Join child
        → x.graph.row n ≡ Some r → r.scope ≡ scope_at x owner path → r.def ≡ graph.Join s
        → Stands x.functions x.graph r.scope → Inner r Q → Goes x i p Q
    join_goes child s r Q form row scope def round (inl among) =
        elim (rw def at among) [
          | inl e ↦ to_own owner path f n refl is (rw form tt) at e
              (form_in (Change (Place owner path)) 0 (rw form tt) (λ e le. rw form (inl refl)))
              (change_lower x.state owner path (Join child) (rw form at is) (join_turn child).0)
          | inr none ↦ absurd none
        ]
    join_goes child s r Q form row scope def round (inr (s', o, m, sub, gives, among, Q_is)) =
        let same : s ≡ s' = (let e = rw def at sub in cc) in
        let g = subject_gives child Child s' o (rw form refl) (rw (at, row, def, same) refl) (rw scope at round) refl gives in
        named_goes child s g.0 g.2 m Q form g.3 (rw (def, g.1) at among) Q_is

    bind_goes : (left body : Formula) (s : NodeId) (h : FnRef) (caps : List NodeId) (r : Row) (Q : GraphPoint)
        → f ≡ Bind left body → x.graph.row n ≡ Some r → r.scope ≡ scope_at x owner path → r.def ≡ graph.Bind s h caps
        → Stands x.functions x.graph r.scope → Inner r Q → Goes x i p Q
    bind_goes left body s h caps r Q form row scope def round (inl among) =
        let f_is = rw form at is in
        elim (rw def at among) [
          | inl e ↦ to_left owner path left body n
              (inl (part_read owner path (Bind left body) 0 (Place owner (Left ∷ path)) f_is (inl refl))) f_is at e
              (form_in (Change (Place owner path)) 0 (rw form tt) (λ e le. rw form (inl refl)))
              (change_lower x.state owner path (Bind left body) f_is (bind_turn left body).0)
          | inr none ↦ absurd none
        ]
    bind_goes left body s h caps r Q form row scope def round (inr (s', o, m, sub, gives, among, Q_is)) =
        let same : s ≡ s' = (let e = rw def at sub in cc) in
        let g = subject_gives left Left s' o (rw form refl) (rw (at, row, def, same) refl) (rw scope at round) refl gives in
        let w = rooted_at (x.graph.built n) o m (rw def at among) in
        root_goes left body g.0 g.2 m Q form g.3 w.0 w.1 (fits.rooted n r s h caps w.0 row def w.1).rootless (w.2 ∙ g.1) w.3 Q_is

    form_goes : (g : Formula) → f ≡ g → IsOther g → (r : Row) (Q : GraphPoint) → x.graph.row n ≡ Some r
        → Stands x.functions x.graph r.scope → Shows x (Built (scope_at x owner path)) (around x owner path) (term.Ref n) g
        → Inner r Q → Goes x i p Q
    form_goes (Name t) form other r Q row round shows inner = absurd other
    form_goes (Bound k) form other r Q row round shows inner = absurd other
    form_goes (Apply g fs) form other r Q row round (ts, op, all) inner =
        let o = opened x.graph (scope_at x owner path) n (term.Map g ts) op in
        let same : o.0 ≡ r = (let e = o.1 in cc) in map_goes g fs ts r Q form row (rw same at o.3) all inner
    form_goes (Fold g v fs) form other r Q row round (ts, op, all) inner =
        let o = opened x.graph (scope_at x owner path) n (term.Fold g (graph_value x.nodes v) ts) op in
        let same : o.0 ≡ r = (let e = o.1 in cc) in fold_goes g v fs ts r Q form row (rw same at o.3) all inner
    form_goes (If test a b) form other r Q row round (u, w, y, op, st, sa, sb) inner =
        let o = opened x.graph (scope_at x owner path) n (term.If u w y) op in
        let same : o.0 ≡ r = (let e = o.1 in cc) in
        let k = plain_if r.def u w y (rw same at o.3) in
        if_goes test a b k.0 k.1 k.2 r Q form row (rw same at o.2) k.3 round inner
    form_goes (Join child) form other r Q row round (u, op, sc) inner =
        let o = opened x.graph (scope_at x owner path) n (term.Join u) op in
        let same : o.0 ≡ r = (let e = o.1 in cc) in
        let k = plain_join r.def u (rw same at o.3) in
        join_goes child k.0 r Q form row (rw same at o.2) k.1 round inner
    form_goes (Bind left body) form other r Q row round (u, h, caps, op, sl, inner', fills, writes) inner =
        let o = opened x.graph (scope_at x owner path) n (term.Bind u h caps) op in
        let same : o.0 ≡ r = (let e = o.1 in cc) in
        let k = plain_bind r.def u h caps (rw same at o.3) in
        bind_goes left body k.0 h k.1 r Q form row (rw same at o.2) k.2 round inner
    form_goes (Literal v) form other r Q row round op inner =
        let o = opened x.graph (scope_at x owner path) n (term.Const (graph_value x.nodes v)) op in
        let same : o.0 ≡ r = (let e = o.1 in cc) in
        absurd (leaf_goes (term.Const (graph_value x.nodes v)) r Q (rw same at o.3) (λ g ts e. cc) (λ g v ts e. cc)
        (λ a b c e. cc) (λ a e. cc) (λ a g ts e. cc) (no_subject r Q inner))
    form_goes (At time) form other r Q row round op inner =
        let o = opened x.graph (scope_at x owner path) n (term.At (std.pos time)) op in
        let same : o.0 ≡ r = (let e = o.1 in cc) in
        absurd (leaf_goes (term.At (std.pos time)) r Q (rw same at o.3) (λ g ts e. cc) (λ g v ts e. cc)
        (λ a b c e. cc) (λ a e. cc) (λ a g ts e. cc) (no_subject r Q inner))
    form_goes (Steps v ss) form other r Q row round op inner =
        let o = opened x.graph (scope_at x owner path) n (term.Steps (graph_value x.nodes v) (map (graph_step x.nodes) ss)) op in
        let same : o.0 ≡ r = (let e = o.1 in cc) in
        absurd (leaf_goes (term.Steps (graph_value x.nodes v) (map (graph_step x.nodes) ss)) r Q (rw same at o.3) (λ g ts e. cc)
        (λ g v ts e. cc) (λ a b c e. cc) (λ a e. cc) (λ a g ts e. cc) (no_subject r Q inner))
    form_goes Now form other r Q row round op inner =
        let o = opened x.graph (scope_at x owner path) n term.Now op in
        let same : o.0 ≡ r = (let e = o.1 in cc) in
        absurd (leaf_goes term.Now r Q (rw same at o.3) (λ g ts e. cc) (λ g v ts e. cc)
        (λ a b c e. cc) (λ a e. cc) (λ a g ts e. cc) (no_subject r Q inner))

    -- a variable of a bind
    bound_goes : (k : ℕ) (Q : GraphPoint) → f ≡ Bound k → D (main n) Q → Goes x i p Q
    bound_goes k Q form dep = go (place_shows x fits owner path n (Bound k) (rw form at is) at)
      where
        go : Shows x (Built (scope_at x owner path)) (around x owner path) (term.Ref n) (Bound k) → Goes x i p Q
        go (c, e, op) =
            let v = variable_at x owner path (Bound k) n k c (rw form at is) at e in
            let o = opened x.graph (Some v.node) n (term.Const (graph_value x.nodes c.value)) (rw v.is_mode at op) in
            by_dep v.bind v.left v.body v.node v.is_around v.is_formula v.is_node o.0 o.1 o.2 o.3 dep
          where
            by_dep : (bind : List Edge) (left body : Formula) (b : NodeId) → bind_around k path ≡ Some bind
                → formula_at x.state owner bind ≡ Some (Bind left body) → node_at x owner bind ≡ Some b
                → (r : Row) → x.graph.row n ≡ Some r → r.scope ≡ Some b
                → plain r.def ≡ Some (term.Const (graph_value x.nodes c.value)) → D (main n) Q → Goes x i p Q
            by_dep bind left body b is_around bind_is b_at r row scope def (depend.gate {r = r'} {b = b'} row' scope' Q_is) =
                let rows : r ≡ r' = cc in
                let same : b ≡ b' = (let e = rw rows at scope in cc) in
                to_left owner bind left body b (inr (path, k, refl, is_around)) bind_is b_at (rw same Q_is)
                (main_in x.meanings x.state owner path 0 f (Change (Place owner bind)) is
                (rw (form, is_around) (inl refl)))
                (gate_lower x.state owner path k bind f is is_around)
            by_dep bind left body b is_around bind_is b_at r row scope def (depend.ghost gone died Q_is) = absurd (cc)
            by_dep bind left body b is_around bind_is b_at r row scope def (depend.fixed {r = r'} row' round among) =
                let rows : r' ≡ r = cc in
                absurd (leaf_goes (term.Const (graph_value x.nodes c.value)) r Q def (λ g ts e. cc) (λ g v ts e. cc)
                (λ a b c e. cc) (λ a e. cc) (λ a g ts e. cc) (inl (rw rows at among)))
            by_dep bind left body b is_around bind_is b_at r row scope def (depend.right {r = r'} {s = s} row' round part sub gives among Q_is) =
                let rows : r' ≡ r = cc in
                absurd (leaf_goes (term.Const (graph_value x.nodes c.value)) r Q def (λ g ts e. cc) (λ g v ts e. cc)
                (λ a b c e. cc) (λ a e. cc) (λ a g ts e. cc) (inr (s, rw rows at sub)))

    -- what the main of a place depends on
    pub place_goes : IsForm f → (Q : GraphPoint) → D (main n) Q → Goes x i p Q
    place_goes form Q dep = elim (form_other f form) [
      | inl (k, e) ↦ bound_goes k Q e dep
      | inr other ↦ by_dep other dep
    ]
      where
        by_dep : IsOther f → D (main n) Q → Goes x i p Q
        by_dep other (depend.gate {r = r} {b = b} row scope Q_is) =
            gate_goes MainPart p r b Q other row scope Q_is
            (λ bind e. main_in x.meanings x.state owner path 0 f (Change (Place owner bind)) is
            (gate_in x.meanings x.state owner path bind 0 f _ other e))
            (λ bind e. gate_lower x.state owner path 0 bind f is e) i path refl refl
        by_dep other (depend.ghost gone died Q_is) =
            absurd (let row = other_row x (scope_at x owner path) (around x owner path) n f other (place_shows x fits owner path n f is at) in
            let live = row.2 in cc)
        by_dep other (depend.fixed {r = r} row round among) =
            form_goes f refl other r Q row round (place_shows x fits owner path n f is at) (inl among)
        by_dep other (depend.right {r = r} {s = s} {o = o} {m = m} row round part sub gives among Q_is) =
            form_goes f refl other r Q row round (place_shows x fits owner path n f is at)
            (inr (s, o, m, sub, gives, among, Q_is))

    -- what the change of an if or join depends on
    choice_goes_by : (points : List Point) (s : NodeId) (g : Formula) (edge : Edge) (r : Row) (Q : GraphPoint)
        → change_points x.state owner path f ≡ Some points → points ≡ mains x.state (Place owner (edge ∷ path) ∷ [])
        → IsOther f → x.graph.row n ≡ Some r → subject_of r.def ≡ Some s → node_at x owner (edge ∷ path) ≡ Some s
        → (j : Item) → j ≡ Place owner (edge ∷ path) → (k : Item) → Reads x.meanings x.state k j ⊎ IsSelf k j
        → ((v : Value) → edge ≡ Inside v → ⊥)
        → number x.state (Main (Place owner (edge ∷ path))) < number x.state (Change (Place owner path))
        → Q ≡ main s → Goes x k (Change (Place owner path)) Q
    choice_goes_by points s g edge r Q two points_are other row sub node j j_is k read no_body low Q_is =
        to_part j s read (rw j_is node) Q_is
        (change_in x.meanings x.state owner path deep.0 f points (Main (depth.node_of x.state j)) is two
        (scoped_in x.meanings x.state owner path deep.0 f points (Main (depth.node_of x.state j)) other
        (deep.1 deep.0 (omega arith))
        (rw (points_are, j_is) (inl refl))))
        (λ t e. absurd (let e' : Place owner (edge ∷ path) ≡ Named t = sym j_is ∙ e in cc))
        (record {
          whole = λ o e. absurd (let e' : Place owner (edge ∷ path) ≡ Place o [] = sym j_is ∙ e in cc);
          inside = λ o v r e. absurd (no_body v (let e' : Place owner (edge ∷ path) ≡ Place o (Inside v ∷ r) = sym j_is ∙ e in
              let paths : edge ∷ path ≡ Inside v ∷ r = cc in cc));
          body = λ l b o r i_is p_is there. absurd (cc);
          lower = λ o r e. rw j_is low;
        })

    change_gate : 0 < turn f → (points : List Point) (r : Row) (b : NodeId) (Q : GraphPoint)
        → change_points x.state owner path f ≡ Some points → IsOther f → x.graph.row n ≡ Some r → r.scope ≡ Some b
        → Q ≡ change b → (k : Item) (longer : List Edge) → k ≡ Place owner longer
        → bind_around 0 longer ≡ bind_around 0 path → Goes x k (Change (Place owner path)) Q
    change_gate two_pointed points r b Q two other row scope Q_is k longer k_is same =
        gate_goes ChangePart (Change (Place owner path)) r b Q other row scope Q_is
        (λ bind e. change_in x.meanings x.state owner path 0 f points (Change (Place owner bind)) is two
        (gate_in x.meanings x.state owner path bind 0 f points other e))
        (λ bind e. change_gate_lower x.state owner path 0 bind f is two_pointed e) k longer k_is same

    change_read : (def : Def) (s : NodeId) (Q : GraphPoint) → subject_of def ≡ Some s
        → Among Q (fixed_reads x.graph n def ChangePart) → Q ≡ main s
    change_read def s Q sub among = one (rw sub at among)
      where
        one : Among Q (main s ∷ []) → Q ≡ main s
        one (inl e) = e
        one (inr none) = absurd none

    pub choice_goes : IsChoice (Some f) → (Q : GraphPoint) → D (change n) Q → Goes x i (Change (Place owner path)) Q
    choice_goes choice Q dep = by_form f refl choice (place_shows x fits owner path n f is at)
      where
        if_change : (test a b : Formula) (r : Row) (t y z : NodeId) → f ≡ If test a b → x.graph.row n ≡ Some r
            → r.def ≡ graph.If t y z → D (change n) Q → Goes x i (Change (Place owner path)) Q
        if_change test a b r t y z form row def (depend.gate {r = r'} row' scope Q_is) =
            change_gate (rw form (if_turn test a b).1) (mains x.state (Place owner (Test ∷ path) ∷ [])) r' _ Q (rw form refl) (rw form tt) row' scope Q_is i path refl refl
        if_change test a b r t y z form row def (depend.ghost gone died Q_is) = absurd (cc)
        if_change test a b r t y z form row def (depend.fixed {r = r'} row' round among) =
            let rows : r' ≡ r = cc in
            let sub = if_subject r.def t y z def in
            let Q_is = change_read r.def t Q sub (rw rows at among) in
            choice_goes_by (mains x.state (Place owner (Test ∷ path) ∷ [])) t test Test r Q (rw form refl) refl (rw form tt) row sub
            (rw (at, row, def) refl) (Place owner (Test ∷ path)) refl i
            (inl (part_read owner path (If test a b) 0 (Place owner (Test ∷ path)) (rw form at is) (inl refl)))
            (λ v e. (cc)) (subject_lower x.state owner path (If test a b) Test test (rw form at is) refl (if_turn test a b).2) Q_is
        if_change test a b r t y z form row def (depend.right row' round part sub gives among Q_is) = absurd (cc)

        join_change : (child : Formula) (r : Row) (t : NodeId) → f ≡ Join child → x.graph.row n ≡ Some r
            → r.def ≡ graph.Join t → D (change n) Q → Goes x i (Change (Place owner path)) Q
        join_change child r t form row def (depend.gate {r = r'} row' scope Q_is) =
            change_gate (rw form (join_turn child).1) (mains x.state (Place owner (Child ∷ path) ∷ [])) r' _ Q (rw form refl) (rw form tt) row' scope Q_is i path refl refl
        join_change child r t form row def (depend.ghost gone died Q_is) = absurd (cc)
        join_change child r t form row def (depend.fixed {r = r'} row' round among) =
            let rows : r' ≡ r = cc in
            let sub = join_subject r.def t def in
            let Q_is = change_read r.def t Q sub (rw rows at among) in
            choice_goes_by (mains x.state (Place owner (Child ∷ path) ∷ [])) t child Child r Q (rw form refl) refl (rw form tt) row sub
            (rw (at, row, def) refl) (Place owner (Child ∷ path)) refl i
            (inl (part_read owner path (Join child) 0 (Place owner (Child ∷ path)) (rw form at is) (inl refl)))
            (λ v e. (cc)) (subject_lower x.state owner path (Join child) Child child (rw form at is) refl (join_turn child).2) Q_is
        join_change child r t form row def (depend.right row' round part sub gives among Q_is) = absurd (cc)

        by_form : (g : Formula) → f ≡ g → IsChoice (Some g)
            → Shows x (Built (scope_at x owner path)) (around x owner path) (term.Ref n) g
            → Goes x i (Change (Place owner path)) Q
        by_form (If test a b) form choice (u, w, y, op, st, sa, sb) =
            let o = opened x.graph (scope_at x owner path) n (term.If u w y) op in
            let k = plain_if o.0.def u w y o.3 in
            if_change test a b o.0 k.0 k.1 k.2 form o.1 k.3 dep
        by_form (Join child) form choice (u, op, sc) =
            let o = opened x.graph (scope_at x owner path) n (term.Join u) op in
            let k = plain_join o.0.def u o.3 in
            join_change child o.0 k.0 form o.1 k.1 dep
        by_form g form choice shows = absurd choice

    -- what the change of a bind depends on, by the bind's left
    pub left_goes : (left body : Formula) → f ≡ Bind left body → (Q : GraphPoint) → D (change n) Q
        → Goes x (Place owner (Left ∷ path)) (Change (Place owner path)) Q
    left_goes left body form Q dep = go (rw form at (place_shows x fits owner path n f is at))
      where
        bind_change : (r : Row) (l : NodeId) (h : FnRef) (caps : List NodeId) → x.graph.row n ≡ Some r
            → r.def ≡ graph.Bind l h caps → D (change n) Q → Goes x (Place owner (Left ∷ path)) (Change (Place owner path)) Q
        bind_change r l h caps row def (depend.gate {r = r'} row' scope Q_is) =
            change_gate (rw form (bind_turn left body).1) (mains x.state (Place owner (Left ∷ path) ∷ [])) r' _ Q (rw form refl) (rw form tt) row' scope Q_is
            (Place owner (Left ∷ path)) (Left ∷ path) refl refl
        bind_change r l h caps row def (depend.ghost gone died Q_is) = absurd (cc)
        bind_change r l h caps row def (depend.fixed {r = r'} row' round among) =
            let rows : r' ≡ r = cc in
            let sub = bind_subject r.def l h caps def in
            let Q_is = change_read r.def l Q sub (rw rows at among) in
            choice_goes_by (mains x.state (Place owner (Left ∷ path) ∷ [])) l left Left r Q (rw form refl) refl (rw form tt) row sub
            (rw (at, row, def) refl) (Place owner (Left ∷ path)) refl (Place owner (Left ∷ path)) (inr (refl, owner, path, refl))
            (λ v e. (cc)) (subject_lower x.state owner path (Bind left body) Left left (rw form at is) refl (bind_turn left body).2) Q_is
        bind_change r l h caps row def (depend.right row' round part sub gives among Q_is) = absurd (cc)

        go : Shows x (Built (scope_at x owner path)) (around x owner path) (term.Ref n) (Bind left body)
            → Goes x (Place owner (Left ∷ path)) (Change (Place owner path)) Q
        go (u, h, caps, op, sl, inner, fills, writes) =
            let o = opened x.graph (scope_at x owner path) n (term.Bind u h caps) op in
            let k = plain_bind o.0.def u h caps o.3 in
            bind_change o.0 k.0 h k.1 o.1 k.2 dep

  -- ---- names

  -- the main of a node outside all scopes, that has no subject, depends on its fixed reads alone
  pub top_reads : (n : NodeId) (def : Def) (Q : GraphPoint) → IsTop x.graph n def → subject_of def ≡ None → D (main n) Q
      → Among Q (fixed_reads x.graph n def MainPart)
  top_reads n def Q (r, row, scope, is) none (depend.gate {r = r'} row' scope' Q_is) = absurd (let same : r ≡ r' = cc in
      let e = rw same at scope in cc)
  top_reads n def Q (r, row, scope, is) none (depend.ghost gone died Q_is) = absurd (cc)
  top_reads n def Q (r, row, scope, is) none (depend.fixed {r = r'} row' round among) =
      let same : r' ≡ r = cc in rw (same, is) at among
  top_reads n def Q (r, row, scope, is) none (depend.right {r = r'} row' round part sub gives among Q_is) =
      absurd (let same : r' ≡ r = cc in let e = rw (same, is) at sub in cc)

  pub no_deaths : (n : NodeId) (Q : GraphPoint) → x.graph.row n ≡ None → x.died n ≡ None → D (main n) Q → ⊥
  no_deaths n Q gone none (depend.gate row scope Q_is) = cc
  no_deaths n Q gone none (depend.ghost row died Q_is) = cc
  no_deaths n Q gone none (depend.fixed row round among) = cc
  no_deaths n Q gone none (depend.right row round part sub gives among Q_is) = cc

  pub body_in : (k : ℕ) (b : Option Body) (q : Point) → body_at x.state k ≡ b → Among q (body_points x.state k b)
      → Depends x.meanings x.state (Main (Named k)) q
  body_in k b q is among = (0, subst (λ (b : Option Body). Among q (body_points x.state k b)) (sym is) among)

  -- what the main of a name with a node of its own depends on
  pub name_goes : (k : ℕ) (b : Option Body) (Q : GraphPoint) → body_at x.state k ≡ b → IsItself b
      → Declares x (x.nodes k) b → D (main (x.nodes k)) Q → Goes x (Named k) (Main (Named k)) Q
  name_goes k None Q is itself dec dep = absurd (no_deaths (x.nodes k) Q dec.0 dec.1 dep)
  name_goes k (Some (Grab b v false)) Q is itself dec dep = absurd (no_deaths (x.nodes k) Q dec.0 dec.1 dep)
  name_goes k (Some (Grab b v true)) Q is itself dec dep = absurd itself
  name_goes k (Some (Computed f kept)) Q is itself dec dep = absurd itself
  name_goes k (Some (Variable v)) Q is itself dec dep =
      absurd (top_reads (x.nodes k) (graph.Var (graph_value x.nodes v)) Q dec refl dep)
  name_goes k (Some (After t)) Q is itself dec dep =
      absurd (top_reads (x.nodes k) (graph.At (std.pos t)) Q dec refl dep)
  name_goes k (Some (Every t u)) Q is itself dec dep =
      absurd (top_reads (x.nodes k) (graph.Every (std.pos t) (std.pos u)) Q dec.0 refl dep)
  name_goes k (Some (Freeze child p (Some v))) Q is itself (kid, top, shows, kept) dep =
      absurd (let among = top_reads (x.nodes k) (graph.Freeze kid p) Q top refl dep in rw kept at among)
  name_goes k (Some (Freeze child p None)) Q is itself (kid, top, shows, kept) dep =
      let among = top_reads (x.nodes k) (graph.Freeze kid p) Q top refl dep in
      let node : node_at x k [] ≡ Some kid = rw (is, top.1, top.3) refl in
      to_part (Place k []) kid (inl (0, rw is (inl refl))) node (one (rw kept at among))
      (body_in k (Some (Freeze child p None)) (Main (depth.node_of x.state (Place k []))) is (inl refl)) (no_name k [] x)
      (record {
        whole = λ o e. (let same : k ≡ o = cc in (child, p, None, rw (← same) is));
        inside = λ o v r e. absurd (cc);
        body = λ l b o r i_is p_is there. absurd (cc);
        lower = λ o r e. whole_lower x.state k;
      })
    where
      one : Among Q (main kid ∷ []) → Q ≡ main kid
      one (inl e) = e
      one (inr none) = absurd none
  name_goes k (Some (Expert g first links stale)) Q is itself (kids, top, lists) dep =
      let among = rw lists at (top_reads (x.nodes k) (graph.Expert g (graph_value x.nodes first) kids) Q top refl dep) in
      let m = links_among x.nodes links Q among in
      let own = each_among (IsOwnName x.meanings x.state valid) links m.0
      (link_names x.meanings x.state valid k g first links stale is) m.1 in
      to_part (Named m.0) (x.nodes m.0) (inl (0, rw is (named_among links m.0 m.1))) refl m.2
      (body_in k (Some (Expert g first links stale)) (Main (depth.node_of x.state (Named m.0))) is
      (among_mains x.state (map (λ m. Named m) links) (Named m.0) (named_among links m.0 m.1)))
      (λ t e. let same : m.0 ≡ t = cc in rw (← same) own)
      (record {
        whole = λ o e. absurd (cc);
        inside = λ o v r e. absurd (cc);
        body = λ l b o r i_is p_is there. absurd (cc);
        lower = λ o r e. absurd (cc);
      })

  -- ---- grabs

  pub too_far : (u : Ty) (j : ℕ) (t : Ty) → slice_get (u ∷ []) (suc j) ≡ Some t → ⊥
  too_far u j t e = cc

  pub bound_low : (b : ℕ) (u t : Ty) (f : Formula) → HasType x.meanings x.state b (u ∷ []) f t → (j : ℕ) → f ≡ Bound (suc j) → ⊥
  bound_low b u t f typed j e = too_far u j t (rw e at typed)

  -- the right side that a live grab is of depends on its bind's change
  pub grab_depends : (k b : ℕ) (v : Value) (left body : Formula) (kept : script.Kept) → body_at x.state k ≡ Some (Grab b v true)
      → body_at x.state b ≡ Some (Computed (Bind left body) kept) → ((t : ℕ) → body ≡ Name t → ⊥)
      → Depends x.meanings x.state (Main (Place b (Inside v ∷ []))) (Change (Place b []))
  grab_depends k b v left body kept is bind_is named =
      main_in x.meanings x.state b (Inside v ∷ []) 0 body (Change (Place b [])) (rw bind_is refl) (by_body body refl)
    where
      by_body : (f : Formula) → body ≡ f → Among (Change (Place b [])) (scoped_points x.meanings x.state 0 b (Inside v ∷ [])
          (main_points x.state (value_at x.meanings x.state 0 (environment (Inside v ∷ []))) b (Inside v ∷ []) f) f)
      by_body (Name t) e = absurd (named t e)
      by_body (Bound zero) e = inl refl
      by_body (Bound (suc j)) e =
          let typed = (body_typed x.meanings x.state valid b (Computed (Bind left body) kept) bind_is).1.0 in
          absurd (bound_low b typed.0 _ body typed.2 j e)
      by_body f e = inl refl

  -- the grab reads its bind's left
  pub grab_reads_left : (k b : ℕ) (v : Value) → body_at x.state k ≡ Some (Grab b v true)
      → Reads x.meanings x.state (Named k) (Place b (Left ∷ []))
  grab_reads_left k b v is =
      (0, rw is (grab_left x.meanings x.state (λ i. Unit {0}) b v (outcome_at x.meanings x.state 0 (Place b (Left ∷ [])))))

  pub grab_left_goes : (k b : ℕ) (v : Value) (left body : Formula) (kept : script.Kept) (Q : GraphPoint)
      → body_at x.state k ≡ Some (Grab b v true) → body_at x.state b ≡ Some (Computed (Bind left body) kept)
      → ((t : ℕ) → body ≡ Name t → ⊥) → Q ≡ change (x.nodes b) → Goes x (Named k) (Main (Place b (Inside v ∷ []))) Q
  grab_left_goes k b v left body kept Q is bind_is named Q_is =
      to_left b [] left body (x.nodes b) (inl (grab_reads_left k b v is)) (rw bind_is refl) (rw bind_is refl) Q_is
      (grab_depends k b v left body kept is bind_is named)
      (gate_lower x.state b (Inside v ∷ []) 0 [] body (rw bind_is refl) refl)
