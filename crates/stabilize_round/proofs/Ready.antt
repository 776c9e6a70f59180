-- What is taken from the heap stands on exact points.
use Rattle.std.proofs.Common.{◌≡◌, inl, true, List, Option, None, Some, refl}
use Rattle.inc_value.specs.declared.function.FnRef.{FnRef}
use Rattle.inc_value.specs.declared.node.NodeId.{NodeId}
use Rattle.inc_value.specs.declared.node.Part.{Part}
use Rattle.inc_value.specs.declared.node.Part.TheVariants.{Change, Main}
use Rattle.inc_value.specs.declared.node.Point.{Point}
use Rattle.inc_value.specs.declared.outcome.Outcome.{Outcome}
use Rattle.inc_value.specs.Choice.{Among}
use Rattle.inc_terms.specs.Term.{Functions}
use Rattle.inc_terms.specs.Graph as graph
use Rattle.inc_terms.specs.Graph.{Graph, Row, Built}
use Rattle.inc_terms.specs.Evaluate.{NodeGives, Stands, answer}
use Rattle.inc_terms.specs.Rebuild.{IsDue}
use Rattle.inc_terms.specs.Depend.{main, change, fixed_reads, subject_of}
use Rattle.inc_terms.specs.Local.{shown, HasRun}
use Rattle.inc_terms.specs.Plan.{gate_of, plan}
use Rattle.inc_terms.proofs.Unfolding.{scope_stands}
use Rattle.inc_terms.proofs.Local.{main_sees}
use Rattle.inc_terms.proofs.Plan.{among_left, among_right, plan_depends, depends_plan}
use Rattle.stabilize_round.specs.State.{State, Start, Full, Linked}
use Rattle.stabilize_round.specs.Invariant.{Invariant}
use Rattle.stabilize_round.specs.Moves.{Quiet, IsLeast}
use Rattle.stabilize_round.specs.Laws.{IsReady}
use Rattle.stabilize_round.proofs.Low.{Low, among_gate, plan_links, links_plan, is_full, low_points}

pub own_among : (G : Graph) (n : NodeId) (def : graph.Def) (part : Part) (m : NodeId) → part ≡ Main → subject_of def ≡ Some m
    → Among (change n) (fixed_reads G n def part)
own_among G n def part m is sub = rw (is, sub) (inl refl)

module _ (F : Functions) (z : Start) (s : State) (inv : Invariant F z s) (quiet : Quiet s) (p : Point) (taken : IsLeast s p) where
  abbrev G : Graph
  G = s.graph

  below : (q : Point) → Linked s p q → Low F z s inv quiet q
  below q l = let k = inv.web.rises p q l in low_points F z s inv quiet (s.height p) taken.least q k (inv.web.onto p q l)

  need : s.needed p ≡ true
  need = inv.web.heap p taken.heap

  r : Row
  r = (inv.alive p taken.heap).0

  row : G.row p.node ≡ Some r
  unfolding r
  row = (inv.alive p taken.heap).1

  full : s.stage p ≡ Full
  full = is_full F z s inv quiet p need below r row

  linked : (q : Point) → Among q (plan G s.out p r) → Linked s p q
  linked q a = plan_links F z s inv quiet p q r Full row full need a

  stands : (x : Option NodeId) → r.scope ≡ x → Stands F G x
  unfolding answer
  stands None e = (1, refl)
  stands (Some b) e =
      let l = linked (change b) (among_left (change b) (gate_of r.scope) _ (among_gate r.scope b e)) in
      let k = inv.scoped p.node r b row e in
      let c = (below (change b) l).exact k.0 k.4 in
      let run : HasRun F G s.out b (graph.Bind k.1 k.2 k.3) k.1 = rw k.5 at (c.1 k.1 (rw k.5 refl)) in
      let w = run.3 in
      let left : NodeGives F G k.1 w.0.outcome = rw w.2 run.2 in
      scope_stands F G b k.0 k.1 k.2 k.3 w.0 k.4 k.5 c.0 w.1 left

  run : p.part ≡ Main → (m : NodeId) → subject_of r.def ≡ Some m → HasRun F G s.out p.node r.def m
  run part m sub =
      let own = own_among G p.node r.def p.part m part sub in
      ((below (change p.node) (linked (change p.node)
      (among_right (change p.node) (gate_of r.scope) _
      (among_left (change p.node) (fixed_reads G p.node r.def p.part) _ own)))).exact r row).1 m sub

  pub ready : IsReady F s p
  ready = record {
    row = r;
    is_row = row;
    full = full;
    exact = λ q l. (below q l).exact;
    stands = stands r.scope refl;
    links = λ q. (
      (λ l. plan_depends F G s.out s.died p q r row (stands r.scope refl) run (links_plan F z s inv quiet p q r Full row full l)),
      (λ d. linked q (depends_plan F G s.out s.died p q r row (stands r.scope refl) run d)),
    );
  }

-- a bind's change that is taken, and isn't built for what its left shows, is due
pub is_due : (F : Functions) (z : Start) (s : State) (inv : Invariant F z s) (quiet : Quiet s) (b : NodeId) (taken : IsLeast s (change b))
    (row : Row) (l : NodeId) (f : FnRef) (caps : List NodeId)
    → s.graph.row b ≡ Some row → row.def ≡ graph.Bind l f caps → (now : Outcome) → shown s.graph s.out (main l) ≡ Some now
    → ((w : Built) → s.graph.built b ≡ Some w → w.outcome ≡ now → ⊥) → IsDue F s.graph b now
is_due F z s inv quiet b taken row l f caps is def now seen changed =
    let k = ready F z s inv quiet (change b) taken in
    let mine = k.is_row in
    let same : k.row ≡ row = cc in
    let reads : Among (main l) (fixed_reads s.graph b k.row.def Change) = rw (same, def) (inl refl) in
    let link = plan_links F z s inv quiet (change b) (main l) k.row Full k.is_row k.full (inv.web.heap (change b) taken.heap)
    (among_right (main l) (gate_of k.row.scope) _ (among_left (main l) (fixed_reads s.graph b k.row.def Change) _ reads)) in
    let sees = main_sees F s.graph s.out l (k.exact (main l) link) in
    let a = sees.1 in
    let o : sees.0 ≡ now = cc in
    record {
      row = row;
      left = l;
      function = f;
      captures = caps;
      is_row = is;
      is_bind = def;
      stands = rw (← same) k.stands;
      gives = rw (← o) sees.2;
      changed = changed;
    }
