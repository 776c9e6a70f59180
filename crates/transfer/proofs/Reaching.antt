-- What is needed and what is met over a graph is covered by what is needed and what is met of the script.
use Rattle.std.proofs.Common.{List, Option, refl}
use Rattle.inc_value.specs.declared.node.NodeId.{NodeId}
use Rattle.inc_value.specs.declared.node.Point.{Point}
use Rattle.inc_terms.specs.Depend.{main}
use Rattle.inc_terms.specs.Need.{Needed as GraphNeeded, Met as GraphMet, from_root as graph_from_root, from_held as graph_from_held}
use Rattle.inc_value.specs.Choice.{here}
use Rattle.script_model.specs.Formula.{State}
use Rattle.script_model.specs.Need.{Place, Needed, Met, from_root, from_held}
use Rattle.transfer.specs.Both.{Both}
use Rattle.transfer.specs.Shows.{Fits}
use Rattle.transfer.specs.Items.{by_main, CoveredBy, Closed, GhostsCovered, RootsAre, HeldAre, FormulasStay, GrabsBind}
use Rattle.transfer.proofs.Enclosed.{needed_reads, needed_enclosed, met_reads, met_enclosed}
use Rattle.transfer.proofs.Stepping.{reached_covered}

pub needed_closed : (x : Both) → GrabsBind x.state → Closed x (Needed x.meanings x.state)
needed_closed x grabs =
    record {
      reads = needed_reads x.meanings x.state;
      lefts = λ owner path k bind is around. ((needed_enclosed x.meanings x.state grabs (Place owner path) is).1 k
          bind around).0;
      there = λ owner path is. (needed_enclosed x.meanings x.state grabs (Place owner path) is).0;
    }

pub met_closed : (x : Both) (before : State) → GrabsBind before → GrabsBind x.state → FormulasStay before x.state
    → Closed x (Met x.meanings before x.state)
met_closed x before grabs grabs' keeps =
    record {
      reads = met_reads x.meanings before x.state;
      lefts = λ owner path k bind is around. ((met_enclosed x.meanings before x.state grabs grabs' keeps
          (Place owner path) is).1 k bind around).0;
      there = λ owner path is. (met_enclosed x.meanings before x.state grabs grabs' keeps (Place owner path) is).0;
    }

-- what is needed over the graph is covered by what is needed
pub needed_covered : (x : Both) → Fits x → GrabsBind x.state → (died : NodeId → Option NodeId)
    → GhostsCovered x (Needed x.meanings x.state) died → (observed : List NodeId) → RootsAre x observed
    → (p : Point) → GraphNeeded x.functions x.graph died observed p → CoveredBy x (Needed x.meanings x.state) p
needed_covered x fits grabs died ghosts observed are p (n, root, on) =
    let i = are n root in
    reached_covered x fits (Needed x.meanings x.state) (needed_closed x grabs) died ghosts (main n) p
    (i.0, (i.0, i.1, here), by_main i.2 refl) on

-- what is met over the graph is covered by what is met
pub met_covered : (x : Both) → Fits x → GrabsBind x.state → (before : State) → GrabsBind before
    → FormulasStay before x.state → (died : NodeId → Option NodeId)
    → GhostsCovered x (Met x.meanings before x.state) died
    → (observed : List NodeId) → RootsAre x observed → (held : Point → Type 0) → HeldAre x before held → (p : Point)
    → GraphMet x.functions x.graph died observed held p → CoveredBy x (Met x.meanings before x.state) p
met_covered x fits grabs before grabs' keeps died ghosts observed are held held_are p
    (graph_from_root {n = n} root on) =
    let i = are n root in
    reached_covered x fits (Met x.meanings before x.state) (met_closed x before grabs' grabs keeps) died ghosts
    (main n) p (i.0, from_root (i.0, i.1, here), by_main i.2 refl) on
met_covered x fits grabs before grabs' keeps died ghosts observed are held held_are p
    (graph_from_held {h = h} {r = r} was row stands on) =
    let i = held_are h r was row stands in
    reached_covered x fits (Met x.meanings before x.state) (met_closed x before grabs' grabs keeps) died ghosts h p
    (i.0, from_held i.1 i.2 here, i.3) on
