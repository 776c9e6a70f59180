-- Functions of a script and its graph, where more bodies are kept.
use Rattle.std.proofs.Common.{◌≡◌, ◌++◌, ℕ, zero, suc, Bool, List, [], ◌∷◌, Option, None, Some, IsTrue, refl, ap, sym, subst, ◌∙◌, slice_get}
use Rattle.inc_value.specs.Choice.{Every}
use Rattle.inc_value.specs.declared.function.FnKind.{FnKind}
use Rattle.inc_value.specs.declared.function.FnKind.TheVariants as kind
use Rattle.inc_value.specs.declared.function.FnRef.{FnRef}
use Rattle.inc_value.specs.declared.node.NodeId.{NodeId}
use Rattle.inc_value.specs.declared.value.Value.{Value}
use Rattle.inc_value.specs.declared.value.Value.TheVariants as held
use Rattle.inc_terms.specs.Graph as graph
use Rattle.inc_terms.specs.Graph.{Graph, Def, present}
use Rattle.inc_terms.specs.Term as term
use Rattle.inc_terms.specs.Term.{Term, Terms, Step, refs}
use Rattle.inc_terms.specs.Within.{DefWithin, Fit, KnownAs, TermWithin, TermsWithin, ValueWithin}
use Rattle.inc_terms.proofs.Unfolding.{AnyFunction}
use Rattle.graph.specs.Standing as standing
use Rattle.node_arena.specs.Building.{IsListed}
use Rattle.node_arena.specs.Graph.{AllCallFit}
use Rattle.node_arena.specs.RightSide.{RightSide, SidesHold, no_side}
use Rattle.script_functions.specs.Bodies.{Body}
use Rattle.script_functions.specs.Keeping.{Maker, by_kind, is_known, maker_of, makers, side_in, side_made}
use Rattle.script_functions.specs.KeepingLaws.{there}
use Rattle.script_model.specs.Formula.{Meanings}
use Rattle.script_graph.specs.Represents.{graph_functions}
use Rattle.transfer.specs.Both.{Both}
use Rattle.transfer.specs.Keeping.{AnyNode, TermsStay}

-- ---- terms

module _ {P P' : NodeId → Type 0} {Q Q' : FnKind → FnRef → Type 0} (nodes : (n : NodeId) → P n → P' n) (functions : (k : FnKind) (f : FnRef) → Q k f → Q' k f) where
  value_more : (v : Value) → ValueWithin P v → ValueWithin P' v
  value_more (held.Int z) h = tt
  value_more (held.Bool b) h = tt
  value_more (held.Text bytes) h = tt
  value_more (held.Node n base) h = nodes n h

  steps_more : (steps : List Step) → Every (λ (s : Step). ValueWithin P s.value) steps → Every (λ (s : Step). ValueWithin P' s.value) steps
  steps_more [] h = tt
  steps_more (s ∷ steps) h = (value_more s.value h.0, steps_more steps h.1)

  mutual
    -- a term that is within the ones is within the others, if these are more
    pub within_more : (t : Term) → TermWithin P Q t → TermWithin P' Q' t
    within_more (term.Const v) h = value_more v h
    within_more (term.Ref n) h = nodes n h
    within_more (term.Cap i) h = tt
    within_more (term.Map f ts) h = (functions kind.Map f h.0, all_within_more ts h.1)
    within_more (term.Fold f v ts) h = (functions kind.Map f h.0, value_more v h.1, all_within_more ts h.2)
    within_more (term.If t a b) h = (within_more t h.0, within_more a h.1, within_more b h.2)
    within_more (term.Join t) h = within_more t h
    within_more (term.Bind l f ts) h = (functions kind.Rhs f h.0, within_more l h.1, all_within_more ts h.2)
    within_more (term.At t) h = tt
    within_more (term.Steps v steps) h = (value_more v h.0, steps_more steps h.1)
    within_more term.Now h = tt

    all_within_more : (ts : Terms) → TermsWithin P Q ts → TermsWithin P' Q' ts
    all_within_more term.End h = tt
    all_within_more (term.More t ts) h = (within_more t h.0, all_within_more ts h.1)

any_value : (v : Value) → ValueWithin AnyNode v
any_value (held.Int z) = tt
any_value (held.Bool b) = tt
any_value (held.Text bytes) = tt
any_value (held.Node n base) = tt

any_steps : (steps : List Step) → Every (λ (s : Step). ValueWithin AnyNode s.value) steps
any_steps [] = tt
any_steps (s ∷ steps) = (any_value s.value, any_steps steps)

any_refs : (Q : FnKind → FnRef → Type 0) (ns : List NodeId) → TermsWithin AnyNode Q (refs ns)
any_refs Q [] = tt
any_refs Q (n ∷ ns) = (tt, any_refs Q ns)

mutual
  any_term : (t : Term) → TermWithin AnyNode AnyFunction t
  any_term (term.Const v) = any_value v
  any_term (term.Ref n) = tt
  any_term (term.Cap i) = tt
  any_term (term.Map f ts) = (tt, any_terms ts)
  any_term (term.Fold f v ts) = (tt, any_value v, any_terms ts)
  any_term (term.If t a b) = (any_term t, any_term a, any_term b)
  any_term (term.Join t) = any_term t
  any_term (term.Bind l f ts) = (tt, any_term l, any_terms ts)
  any_term (term.At t) = tt
  any_term (term.Steps v steps) = (any_value v, any_steps steps)
  any_term term.Now = tt

  any_terms : (ts : Terms) → TermsWithin AnyNode AnyFunction ts
  any_terms term.End = tt
  any_terms (term.More t ts) = (any_term t, any_terms ts)

-- over the same functions all terms stay
pub terms_itself : (x : Both) → TermsStay x x.functions AnyFunction
terms_itself x = record {
  same = λ f v h. refl;
  within = λ f v h. any_term (x.functions.term f v);
  rows = λ n r row. any_term (present x.graph n r);
}

-- ---- known functions of right sides

-- a map, or a known function of right sides
abbrev pub IsKnownSide : (FnRef → Bool) → FnKind → FnRef → Type 0
IsKnownSide known kind.Map f = Unit {0}
IsKnownSide known kind.Rhs f = KnownAs known kind.Rhs f

module _ {A : Type 0} (known : FnRef → Bool) (s : standing.GraphView A) where
  row_within : (n : NodeId) (def : Def) → DefWithin (λ n. Unit {0}) (IsKnownSide known) def
      → TermWithin AnyNode (IsKnownSide known) (graph.present_def (standing.graph s) n def)
  row_within n (graph.Const v) h = any_value v
  row_within n (graph.Var v) h = any_value v
  row_within n (graph.Map f kids) h = (tt, any_refs (IsKnownSide known) kids)
  row_within n (graph.Fold f v kids) h = (tt, any_value v, any_refs (IsKnownSide known) kids)
  row_within n (graph.If t a b) h = (tt, tt, tt)
  row_within n (graph.Join k) h = tt
  row_within n (graph.Bind l f caps) h = (h.0, tt, any_refs (IsKnownSide known) caps)
  row_within n (graph.At t) h = tt
  row_within n (graph.Steps v steps) h = (any_value v, any_steps steps)
  row_within n graph.Now h = tt
  row_within n (graph.Every base span) h = tt
  row_within n (graph.Freeze kid f) h = by_frozen ((standing.graph s).frozen n)
    where
      by_frozen : (v : Option Value) → TermWithin AnyNode (IsKnownSide known) (graph.frozen_or kid v)
      by_frozen None = tt
      by_frozen (Some v) = any_value v
  row_within n (graph.Expert f v kids) h = (tt, any_value v, any_refs (IsKnownSide known) ((standing.graph s).lists n))

def_more : {Q Q' : FnKind → FnRef → Type 0} → ((k : FnKind) (f : FnRef) → Q k f → Q' k f) → (def : Def)
    → DefWithin (λ n. Unit {0}) Q def → DefWithin (λ n. Unit {0}) Q' def
def_more more (graph.Const v) h = h
def_more more (graph.Var v) h = h
def_more more (graph.Map f kids) h = (more kind.Map f h.0, h.1)
def_more more (graph.Fold f v kids) h = (more kind.Map f h.0, h.1, h.2)
def_more more (graph.If t a b) h = h
def_more more (graph.Join k) h = h
def_more more (graph.Bind l f caps) h = (more kind.Rhs f h.0, h.1, h.2)
def_more more (graph.At t) h = h
def_more more (graph.Steps v steps) h = h
def_more more graph.Now h = h
def_more more (graph.Every base span) h = h
def_more more (graph.Freeze kid f) h = (more kind.Map f h.0, h.1)
def_more more (graph.Expert f v kids) h = (more kind.Map f h.0, h.1, h.2)

-- ---- more bodies

within_front : {A : Type 0} (xs ys : List A) (n : ℕ) (x : A) → slice_get xs n ≡ Some x → slice_get (xs ++ ys) n ≡ Some x
within_front [] ys n x is = absurd (cc)
within_front (z ∷ xs) ys zero x is = is
within_front (z ∷ xs) ys (suc n) x is = within_front xs ys n x is

makers_more : (bodies more : List Body) → makers (bodies ++ more) ≡ makers bodies ++ makers more
makers_more [] more = refl
makers_more (b ∷ bodies) more = ap (λ (ms : List Maker). maker_of b ∷ ms) (makers_more bodies more)

module _ (maps : FnRef → Bool) (bodies more : List Body) where
  abbrev pub known : FnRef → Bool
  known = is_known maps (makers bodies)

  -- a known function makes what it made
  pub side_still : (f : FnRef) → KnownAs known kind.Rhs f → side_in (makers (bodies ++ more)) f ≡ side_in (makers bodies) f
  side_still f h =
      let m = there maps (makers bodies) f h.0 h.1 in
      let still : slice_get (makers (bodies ++ more)) f.id.number ≡ Some m.0 =
      ap (λ (ms : List Maker). slice_get ms f.id.number) (makers_more bodies more) ∙ within_front (makers bodies) (makers more) f.id.number m.0 m.1 in
      ap (λ (o : Option Maker). by_kind f.id.kind no_side (side_made o)) (still ∙ sym m.1)

-- what is known of the functions of a graph over these bodies: right sides keep their promises, and functions of live nodes are known
pub record AreKnown {A : Type 0} (maps : FnRef → Bool) (bodies : List Body) (s : standing.GraphView A) : Type 0 where
  pub holds : SidesHold (is_known maps (makers bodies)) (side_in (makers bodies))
  pub ids : FnRef → List NodeId
  pub fit : AllCallFit (is_known maps (makers bodies)) ids s.nodes

module _ {A : Type 0} (maps : FnRef → Bool) (bodies more : List Body) (s : standing.GraphView A) (are : AreKnown maps bodies s) where
  listed_known : (f : FnRef) → KnownAs (known maps bodies more) kind.Rhs f → (k : FnKind) (g : FnRef)
      → IsListed (side_in (makers bodies) f).uses k g → IsKnownSide (known maps bodies more) k g
  listed_known f h kind.Map g l = tt
  listed_known f h kind.Rhs g l =
      let u = are.holds.usable f h l.listed l.among in
      (subst (λ (g : FnRef). IsTrue (known maps bodies more g)) l.function u.is_known, l.kind)

  fit_known : (k : FnKind) (f : FnRef) → KnownAs (known maps bodies more) k f → IsKnownSide (known maps bodies more) k f
  fit_known kind.Map f h = tt
  fit_known kind.Rhs f h = h

  -- terms stay, where more bodies are kept
  pub terms_stay : (F : Meanings) (x : Both) → x.functions ≡ graph_functions F bodies → x.graph ≡ standing.graph s
      → TermsStay x (graph_functions F (bodies ++ more)) (IsKnownSide (known maps bodies more))
  terms_stay F x functions is = record {
    same = λ f v h. rw functions (ap (λ (r : RightSide). r.term v) (side_still maps bodies more f h));
    within = λ f v h. rw functions (within_more (λ n named. tt) (listed_known f h) ((side_in (makers bodies) f).term v) ((are.holds.lawful f h).names v));
    rows = λ n r row. subst (λ (G : Graph). TermWithin AnyNode (IsKnownSide (known maps bodies more)) (present G n r)) (sym is)
        (row_within (known maps bodies more) s n r.def
        (def_more (λ (k : FnKind) (f : FnRef) (fit : Fit s.nodes.given (known maps bodies more) are.ids k f). fit_known k f fit.0)
        r.def (are.fit n r (subst (λ (G : Graph). G.row n ≡ Some r) is row))));
  }
