-- A stabilize of a session's graph, and what a refused one met and called.
use Rattle.std.proofs.Common.{◌≡◌, ℕ, ◌+◌, ◌≤◌, false, List, Option, None, Some, option_map, sym, ap, subst, ◌∙◌, slice_get}
use Rattle.std.proofs.lemmas.Option.{slice_get-map}
use Rattle.inc_value.specs.declared.function.FnRef.{FnRef}
use Rattle.inc_value.specs.declared.value.Value.{Value as GraphValue}
use Rattle.inc_terms.specs.Depend.{main}
use Rattle.inc_terms.specs.Term.{Functions}
use Rattle.graph.specs.Sound.{IsSoundGraph, IsWhole}
use Rattle.graph.specs.Stabilizes.{HasCalledMet, LeavesNodes, left_by}
use Rattle.graph.specs.Standing.{GraphView, graph}
use Rattle.node_outcomes.specs.Meaning.{Meaning}
use Rattle.stabilize_round.specs.Laws.{GraphStays}
use Rattle.wiring.specs.Stands.{Counts}
use Rattle.script_model.specs.Check.{Declared, declared_of, kind_of_body, target_of_body}
use Rattle.script_model.specs.Formula.{State, Entry, Meanings, meanings_of, Grab}
use Rattle.script_model.specs.Need.{Met}
use Rattle.script_model.specs.Run.{most_calls}
use Rattle.script_model.specs.Step.{Moment}
use Rattle.script_graph.specs.Growing.{functions_over}
use Rattle.script_graph.specs.Kept.{Kept, without_functions}
use Rattle.script_graph.specs.Represents.{graph_functions, AreNames, Represents}
use Rattle.script_graph.specs.Sound as sound_kept
use Rattle.script_graph.specs.State.{Stands}
use Rattle.script_graph.proofs.Calling.{calls_within}
use Rattle.script_graph.proofs.Functions.{functions_are}
use Rattle.script_graph.proofs.Middle.{DeadGrabsGiven, IsStabilize, middle, fits_then}
use Rattle.script_graph.proofs.Remembering.{meeting_is_covered}
use Rattle.script_graph.proofs.Without.{sound_without}
use Rattle.transfer.specs.Both.{Both}
use Rattle.transfer.specs.Items.{Closed, FormulasStay, GrabsBind}
use Rattle.transfer.proofs.Reaching.{met_closed}
use Rattle.transfer.proofs.Typed.{body_entry, valid_grabs}

-- ---- over a graph with its functions

-- what a session knows of a stabilize of its graph, accepted or refused: what it keeps fits together, the graphs before and after are sound over functions of
-- the bodies that are kept, and of nodes it leaves what a stabilize may
pub record IsSessions {A : Type 0} (value : FnRef → List GraphValue → GraphValue) (k : Kept) (old new : GraphView A) : Type 0 where
  pub same : k.graph ≡ without_functions old
  pub unbroken : k.broken ≡ None
  pub kept : sound_kept.IsSoundSession k
  pub meaning : Meaning
  pub sound : IsSoundGraph meaning old
  pub functions : meaning.functions ≡ functions_over value k.bodies
  pub meaning' : Meaning
  pub sound' : IsSoundGraph meaning' new
  pub functions' : meaning'.functions ≡ functions_over value k.bodies
  pub stays : GraphStays old.nodes.given new.nodes.given (graph old) (left_by old new)
  pub before : Counts
  pub after : Counts
  pub left : LeavesNodes (functions_over value k.bodies) old new before after

-- nodes of dead grabs were given
dead_given : (F : Meanings) (s : State) (k : Kept) → Represents F s k → AreNames k.names s → sound_kept.IsSoundSession k → DeadGrabsGiven s k
dead_given F s k held names sound n b v is =
    let e = body_entry s n (Grab b v false) is in
    let there : slice_get k.names.declared n ≡ Some (declared_of e.0) =
    ap (λ (ds : List Declared). slice_get ds n) names.declared
    ∙ (slice_get-map declared_of s.entries n ∙ ap (λ (o : Option Entry). option_map declared_of o) e.1) in
    let target : e.0.target ≡ n = held.targets n e.0 e.1 ∙ ap (target_of_body n) e.2 in
    ((sound.has_nodes n (declared_of e.0) there).grab target (ap kind_of_body e.2)).0

module _ {A : Type 0} (named : List ℕ → Option FnRef) (value : FnRef → List GraphValue → GraphValue) (k : Kept) (old new : GraphView A)
    (c : IsSessions value k old new) (m : Moment) (stands : Stands (meanings_of named value) k m) where
  abbrev named_meanings : Meanings
  named_meanings = meanings_of named value

  pub moment_unbroken : m.broken ≡ None
  moment_unbroken = stands.matches.broken ∙ c.unbroken

  are : graph_functions named_meanings k.bodies ≡ functions_over value k.bodies
  are = functions_are named value k.bodies

  -- what is so of the graph before is so of the one that is kept
  pub kept_so : (P : GraphView (Unit {0}) → Type 0) → P (without_functions old) → P k.graph
  kept_so P h = subst P (sym c.same) h

  -- over the script's functions
  pub functions_so : (P : Functions → Type 0) → P (functions_over value k.bodies) → P (graph_functions named_meanings k.bodies)
  functions_so P h = subst P (sym are) h

  pub stabilize_of : IsStabilize named_meanings m.present k (without_functions new)
  stabilize_of = record {
    meaning = c.meaning;
    meaning' = c.meaning';
    before = c.before;
    after = c.after;
    keep = stands.keep;
    valid = stands.valid.1;
    held = stands.matches.represents moment_unbroken;
    grabs = dead_given named_meanings m.present k (stands.matches.represents moment_unbroken) stands.matches.names c.kept;
    sound = kept_so (λ (h : GraphView (Unit {0})). IsSoundGraph c.meaning h) (sound_without c.meaning old c.sound);
    functions = c.functions ∙ sym are;
    sound' = sound_without c.meaning' new c.sound';
    functions' = c.functions' ∙ sym are;
    built = (stands.matches.settled moment_unbroken).built;
    stays = kept_so (λ (h : GraphView (Unit {0})). GraphStays h.nodes.given new.nodes.given (graph h) (left_by h (without_functions new))) c.stays;
    left = kept_so (λ (h : GraphView (Unit {0})). LeavesNodes (graph_functions named_meanings k.bodies) h (without_functions new) c.before c.after)
        (functions_so (λ (M : Functions). LeavesNodes M old new c.before c.after) c.left);
  }

-- ---- what was met

module _ (named : List ℕ → Option FnRef) (value : FnRef → List GraphValue → GraphValue) (m : Moment) (k : Kept) (g : GraphView (Unit {0}))
    (stands : Stands (meanings_of named value) k m) (unbroken : m.broken ≡ None) (c : IsStabilize (meanings_of named value) m.present k g)
    (whole : IsWhole c.meaning k.graph) where
  abbrev F : Meanings
  F = meanings_of named value

  abbrev s : State
  s = m.present

  abbrev y : Both
  y = middle F s k g

  pub grabs : GrabsBind s
  grabs = valid_grabs F s c.valid

  pub grabs_before : GrabsBind m.settled
  grabs_before = valid_grabs F m.settled stands.valid.0

  pub formulas_stay : FormulasStay m.settled s
  formulas_stay = (stands.matches.settled unbroken).still.formulas

  pub met_is_closed : Closed y (Met F m.settled s)
  met_is_closed = met_closed y m.settled grabs_before grabs formulas_stay

  -- a refused stabilize calls no more than one visit of each place would
  pub few_calls : (before after : ℕ) → HasCalledMet (graph_functions F k.bodies) k.graph g before after → after ≤ before + most_calls s
  few_calls before after called =
      calls_within y (fits_then named value s k g c) c.held.today.plain (Met F m.settled s) met_is_closed called.nodes called.once
      (λ n among. let d = called.due n among in record { row = d.row; nodes = d.kids; is_row = d.is_row; takes = d.takes })
      (λ n among. meeting_is_covered named value m k g stands unbroken c whole (main n) (called.due n among).met) before after called.count
