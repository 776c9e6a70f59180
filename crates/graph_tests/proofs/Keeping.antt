-- What is kept where nodes are added, and that a refused stabilize leaves a graph broken.
use Rattle.std.proofs.Common.{◌≡◌, ℕ, None, Result, Ok, Err, IfOk, IsErrOf, sym, subst, ap, ◌∙◌}
use Rattle.std.specs.Prelude.{OnErr}
use Rattle.std.proofs.lemmas.Option.{none-some}
use Rattle.graph.proofs.TakingBack.{needed_still, unscoped_still}
use Rattle.graph.specs.Effects.{Adds, KeepsAll, KeepsBesideGiven, NoneScopedSince}
use Rattle.graph.specs.Stabilizes.{IsRefusedFor}
use Rattle.graph.specs.Standing.{GraphView, IsNeeded, IsUnbroken, IsBroken}
use Rattle.graph.specs.declared.fault.Kept.{Kept as Cause}
use Rattle.graph.specs.declared.fault.StabilizeFault.{StabilizeFault}
use Rattle.graph.specs.declared.fault.StabilizeFault.TheVariants as fault
use Rattle.inc_terms.specs.Graph.{Row}
use Rattle.inc_terms.specs.Term.{Functions}
use Rattle.inc_value.specs.declared.node.NodeId.{NodeId}
use Rattle.inc_value.specs.declared.node.Point.{Point}
use Rattle.node_arena.specs.Arena.{Arena}

-- after a call that adds a node, or is refused
pub added_still : {F E : Type 0} (r : Result NodeId E) (old new : GraphView F) (row : Row) → IfOk r (λ id. Adds old new id row)
    → OnErr r (KeepsAll old new) → KeepsBesideGiven old new
added_still (Ok id) old new row adds keeps = adds.beside
added_still (Err e) old new row adds keeps = keeps.beside

-- the functions stay
pub functions_after : {F E : Type 0} (r : Result NodeId E) (old new : GraphView F) (row : Row) → IfOk r (λ id. Adds old new id row)
    → OnErr r (KeepsAll old new) → new.functions ≡ old.functions
functions_after r old new row adds keeps = (added_still r old new row adds keeps).top.functions

-- who stands in no scope still does
pub unscoped_after : {F E : Type 0} (r : Result NodeId E) (old new : GraphView F) (row : Row) (count : ℕ)
    → IfOk r (λ id. Adds old new id row) → OnErr r (KeepsAll old new) → row.scope ≡ None → NoneScopedSince old.nodes count
    → NoneScopedSince new.nodes count
unscoped_after (Ok id) old new row count adds keeps outside none = unscoped_still old new count none id row adds outside
unscoped_after (Err e) old new row count adds keeps outside none = subst (λ (a : Arena). NoneScopedSince a count) (sym keeps.nodes) none

-- who is needed after it was needed before
pub needed_after : {F E : Type 0} (r : Result NodeId E) (old new : GraphView F) (row : Row) → IfOk r (λ id. Adds old new id row)
    → OnErr r (KeepsAll old new) → (p : Point) → IsNeeded new p → IsNeeded old p
needed_after r old new row adds keeps = needed_still old new (added_still r old new row adds keeps)

-- need is of links and roots alone
pub needed_over : {F : Type 0} (old new : GraphView F) → new ≡ record old { functions = new.functions } → (p : Point) → IsNeeded new p → IsNeeded old p
needed_over old new rest p need =
    let n = subst (λ (s : GraphView _). IsNeeded s p) rest need in record { root = n.root; is_root = n.is_root; leads = n.leads }

-- who stands in a scope is told by the nodes
pub unscoped_over : {F : Type 0} (old new : GraphView F) → new ≡ record old { functions = new.functions } → (count : ℕ)
    → NoneScopedSince old.nodes count → NoneScopedSince new.nodes count
unscoped_over old new rest count none = subst (λ (s : GraphView _). NoneScopedSince s.nodes count) (sym rest) none

-- after a refused stabilize the graph is broken
pub refused_breaks : {F T : Type 0} (M : Functions) (old new : GraphView F) (r : Result T StabilizeFault) (e : StabilizeFault) → r ≡ Err e
    → ((cause : Cause) → IsErrOf r (fault.Refused cause) → IsRefusedFor M old new cause)
    → ((cause : Cause) → IsErrOf r (fault.Broken cause) → IsBroken old cause) → ((cause : Cause) → IsErrOf r (fault.Broken cause) → new ≡ old)
    → IsUnbroken new → ⊥
refused_breaks M old new r (fault.Refused cause) is refused broken same whole =
    let done = refused cause is in none-some done.met (sym whole ∙ done.broken)
refused_breaks M old new r (fault.Broken cause) is refused broken same whole =
    let b = broken cause is in none-some b.0 (sym whole ∙ (ap (λ (s : GraphView _). s.refused) (same cause is) ∙ b.1))
