-- A graph in which what was to be made for a declaration was made.
use Rattle.std.specs.Prelude.{◌≡◌, ◌+◌, ◌-◌, ◌/◌, ◌-ℤ◌, ◌<◌, ◌≤◌, ◌++◌, ℕ, pos, Bool, List, [], ◌∷◌, length, map, Some, option_map, slice_get}
use Rattle.std.specs.Int.Signed.{quot_z}
use Rattle.inc_value.specs.declared.function.FnRef.{FnRef}
use Rattle.inc_value.specs.declared.node.NodeId.{NodeId}
use Rattle.inc_value.specs.declared.ty.Ty.{Ty}
use Rattle.inc_terms.specs.Graph.{Graph, Row}
use Rattle.inc_terms.specs.Term.{Functions}
use Rattle.formula_lang.specs.Fits.{BodyFits}
use Rattle.script_model.specs.Check.{Names}
use Rattle.script_model.specs.Formula.{Body, Every, Expert, Formula, Freeze, places_in, places_of_body}
use Rattle.transfer.specs.Both.{Both, graph_value}
use Rattle.transfer.specs.Shows.{IsTop, Declares}
use Rattle.formula_elab.specs.Bodies.{IsMadeOf, OpenBody, Page, size_of}
use Rattle.formula_elab.specs.Laying.{laid_body}
use Rattle.formula_elab.specs.Make.{made_at, node_made, IsNode}
use Rattle.formula_elab.specs.Names.{EveryNameOf}
use Rattle.formula_elab.specs.Opened.{Planned, filled, made_node, node_of, weight, AreInOrder, AreMadeAs, AreTyped}
use Rattle.formula_elab.specs.Today.{IsLaidOut, IsLaidOutBody}
use Rattle.formula_elab.specs.Types.{type_at, AreTypedAsTargets}
use Rattle.formula_elab.specs.Writing.{written}
use Rattle.formula_elab.specs.declared.make.Made.{Made}
use Rattle.formula_elab.specs.declared.make.Made.TheVariants as was
use Rattle.formula_elab.specs.declared.opened.Open.{Open}
use Rattle.formula_elab.specs.declared.opened.Part.{Part}
use Rattle.formula_elab.specs.declared.plan.Planned.TheVariants as planned

-- what was made so far stands in this order: live nodes outside all scopes, each defined as it was to be, and functions whose
-- terms are those of their bodies
pub record StandsIn (H : Functions) (G : Graph) (makes : List Planned) (made : List Made) : Type 0 where
  pub order : AreInOrder [] makes
  pub kinds : AreMadeAs makes made
  pub top : (i : ℕ) (x : Open) → slice_get makes i ≡ Some (planned.Node x) → i < length made
      → IsTop G (made_node made i) (filled made x)
  pub functions : (i : ℕ) (o : OpenBody) → slice_get makes i ≡ Some (planned.Body o) → i < length made
      → IsMadeOf H made o (made_at made i)

-- rows of live nodes stay
abbrev pub RowsStay : Graph → Graph → Type 0
RowsStay G G' = (n : NodeId) (r : Row) → G.row n ≡ Some r → G'.row n ≡ Some r

-- functions that were made have the terms that they had
abbrev pub TermsStay : Functions → Functions → List Made → Type 0
TermsStay H H' made = (i : ℕ) (f : FnRef) → slice_get made i ≡ Some (was.Fn f) → (v : _) → H'.term f v ≡ H.term f v

-- it was made: a live node outside all scopes that is so defined, or a function whose terms are the body's
abbrev pub WasMade : Functions → Graph → List Made → Planned → Made → Type 0
WasMade H G earlier (planned.Node x) m = IsNode m × IsTop G (node_made m) (filled earlier x)
WasMade H G earlier (planned.Body o) m = IsMadeOf H earlier o m

-- ---- what is to be made for a declaration

-- beside what its node is: where what is declared counts spans, the graph's clock counts as many as the script's; a freeze keeps the same value, if any, and
-- an expert has the nodes of its links
abbrev pub StandsAlike : Both → NodeId → Body → Type 0
StandsAlike x n (Every base span) = quot_z (x.graph.now -ℤ pos base) (pos span) ≡ pos ((x.state.now - base) / span)
StandsAlike x n (Freeze child predicate frozen) = x.graph.frozen n ≡ option_map (graph_value x.nodes) frozen
StandsAlike x n (Expert f first links stale) = x.graph.lists n ≡ map x.nodes links
StandsAlike x n body = Unit {0}

-- in every graph in which all of it was made, and in which the names have these nodes, the root is the node of what is
-- declared
abbrev pub ShowsOnceMade : (ℕ → NodeId) → Body → List Planned → Part → Type 0
ShowsOnceMade nodes body makes root =
    (x : Both) (made : List Made) → EveryNameOf (λ n. nodes n ≡ x.nodes n) body → StandsAlike x (node_of made root) body
    → StandsIn x.functions x.graph makes made → length makes ≤ length made → Declares x (node_of made root) (Some body)

-- ---- laws

-- what is to be made for what is declared needs only nodes and functions that are made before it
abbrev pub LaidInOrder : Type 0
LaidInOrder = (nodes : ℕ → NodeId) (tys : ℕ → Ty) (body : Body) → IsLaidOutBody body
    → AreInOrder [] (laid_body nodes tys 0 body).makes

-- where what is declared fits the names' types, so do the lines of its bodies
abbrev pub LaidTyped : Type 0
LaidTyped = (known : FnRef → Bool) (names : Names) (nodes : ℕ → NodeId) (body : Body) (ty : Ty) → AreTypedAsTargets names
    → BodyFits known names body ty → IsLaidOutBody body → AreTyped (laid_body nodes (type_at names) 0 body).makes

-- no more is made than there are places
abbrev pub FewMakes : Type 0
FewMakes = (nodes : ℕ → NodeId) (tys : ℕ → Ty) (body : Body) → IsLaidOutBody body
    → length (laid_body nodes tys 0 body).makes ≤ places_of_body body

-- each place may come to have one live node: of a bind itself and its variable, and those of its body
abbrev pub OneNodeEach : Type 0
OneNodeEach = (nodes : ℕ → NodeId) (tys : ℕ → Ty) (body : Body) → IsLaidOutBody body
    → weight (laid_body nodes tys 0 body).makes ≡ places_of_body body

-- one line is written for each place of a formula, and for a bind its function takes the rest
abbrev pub OneLineEach : Type 0
OneLineEach = (nodes : ℕ → NodeId) (tys : ℕ → Ty) (bounds : List Ty) (start : ℕ) (p : Page) (f : Formula)
    → IsLaidOut (length bounds) f → size_of (written nodes tys bounds start p f).page ≡ size_of p + places_in f

-- before anything is made, nothing has to stand
abbrev pub NoneStands : Type 0
NoneStands = (H : Functions) (G : Graph) (makes : List Planned) → AreInOrder [] makes → StandsIn H G makes []

-- where rows and terms stay, so does what was made, and one more stands, if the next is made
abbrev pub OneMoreStands : Type 0
OneMoreStands = (H H' : Functions) (G G' : Graph) (makes : List Planned) (made : List Made) (x : Planned) (m : Made)
    → StandsIn H G makes made → RowsStay G G' → TermsStay H H' made → slice_get makes (length made) ≡ Some x
    → WasMade H' G' made x m → StandsIn H' G' makes (made ++ m ∷ [])

-- where all of it was made, the root is the node of what is declared
abbrev pub RootDeclares : Type 0
RootDeclares = (nodes : ℕ → NodeId) (tys : ℕ → Ty) (body : Body)
    → ShowsOnceMade nodes body (laid_body nodes tys 0 body).makes (laid_body nodes tys 0 body).root
