-- What is kept of a script once a stabilize ended, and the faults that don't come.
use Rattle.std.proofs.Common.{◌≡◌, ◌⊎◌, inl, inr, Bool, ℕ, ◌<◌, ◌≤◌, List, [], ◌∷◌, ◌++◌, length, slice_get, arith, Option, None, Some, IsSome, is_some, Result, Err, IsErrOf, IsTrue, refl, ap, sym, subst, ◌∙◌}
use Rattle.std.proofs.lemmas.Bool.{cases_lt}
use Rattle.std.specs.Prelude.{min}
use Rattle.std.proofs.Math.Nat.{min-eq_left}
use Rattle.std.proofs.Math.Path.{fun_ext}
use Rattle.stabilize_round.specs.Counts.{last_count}
use Rattle.graph.specs.Fault.{kept_of}
use Rattle.graph.specs.Sound.{IsSoundGraph as IsSoundGraph}
use Rattle.graph.specs.Stabilizes.{left_by, IsRefusedFor, LeavesNodes}
use Rattle.graph.specs.Standing.{GraphView, graph, IsUnbroken}
use Rattle.observers.specs.Observers.{looked_at, node_at, told_by}
use Rattle.graph.specs.declared.fault.Kept.{Kept as Cause}
use Rattle.graph.specs.declared.fault.Kept.TheVariants as cause
use Rattle.graph.specs.declared.fault.StabilizeFault.{StabilizeFault}
use Rattle.graph.specs.declared.fault.StabilizeFault.TheVariants as fault
use Rattle.observers.specs.declared.observer.Observer.{Observer as Looking}
use Rattle.inc_terms.specs.Graph.{Row}
use Rattle.inc_terms.specs.Term.{Functions}
use Rattle.inc_terms.specs.Within.{Given}
use Rattle.inc_value.specs.declared.function.FnKind.TheVariants.{Map}
use Rattle.inc_value.specs.declared.function.FnRef.{FnRef}
use Rattle.inc_value.specs.declared.node.NodeId.{NodeId}
use Rattle.inc_value.specs.declared.node.ObsId.{ObsId}
use Rattle.inc_value.specs.declared.node.Point.{Point}
use Rattle.inc_value.specs.declared.outcome.Outcome.{Outcome}
use Rattle.node_arena.specs.Arena.{Arena, row_at, IsVariable}
use Rattle.inc_value.specs.declared.value.Value.{Value as GraphValue}
use Rattle.node_arena.specs.Meanings.{KeepsKnown, SameKnown, SameValues}
use Rattle.node_arena.specs.RightSideLaws.{meaning}
use Rattle.node_outcomes.specs.Meaning.{Meaning}
use Rattle.node_arena.specs.Sound as arenas
use Rattle.node_arena.specs.Typing as typing
use Rattle.script_functions.specs.Bodies.{Body}
use Rattle.script_functions.specs.Keeping.{Maker, is_known, makers, side_in}
use Rattle.script_functions.specs.KeepingLaws.{map_known, known_map}
use Rattle.script_graph.proofs.Few.{sum_less}
use Rattle.script_graph.proofs.OneOwner.{outside_is_in_none}
use Rattle.script_graph.proofs.Refusing.{IsSessions}
use Rattle.script_graph.proofs.Told.{told_at, told_length, told_looked}
use Rattle.script_graph.specs.Growing.{functions_over}
use Rattle.script_graph.specs.Kept.{Kept, arena_of, node_in, without_functions}
use Rattle.script_graph.specs.Sound.{AreFew, HasLiveNode, HaveNodes, IsLiveBind, IsSoundSession, weight_at, weight_of}
use Rattle.script_graph.specs.Stabilizing.{ChainBegins, IsCircular, IsCycleMet, IsTold, closed}
use Rattle.script_model.specs.Check.{Declared}
use Rattle.script_model.specs.Formula.{Meanings}
use Rattle.script_model.specs.Step.{Moment}
use Rattle.script_model.specs.Values.{seen_value}
use Rattle.stabilize_round.specs.Laws.{GraphStays}
use Rattle.wiring.specs.Stands.{Counts}
use Rattle.wiring.specs.declared.refused.Refused.{Refused}
use Rattle.wiring.specs.declared.refused.Refused.TheVariants as refused

-- ---- observers that a stabilize leaves

-- there are as many, and they look at what they looked at
pub record LookAlike (old new : List Looking) : Type 0 where
  pub count : length new ≡ length old
  pub looks : (o : ObsId) → node_at new o ≡ node_at old o

-- so it is of the same
pub same_alike : (old new : List Looking) → new ≡ old → LookAlike old new
same_alike old new same = record { count = ap length same; looks = λ o. ap (λ (os : List Looking). node_at os o) same }

-- and of those that were told
pub told_alike : (shows : NodeId → Outcome) (old new : List Looking) → new ≡ told_by shows old → LookAlike old new
told_alike shows old new told = record {
  count = ap length told ∙ told_length shows old;
  looks = λ o. ap (λ (os : List Looking). node_at os o) told
      ∙ (ap looked_at (told_at shows old o.0) ∙ told_looked shows (slice_get old o.0));
}

-- ---- nodes that a stabilize leaves

-- what a node counts as, by its row
abbrev counted : List Body → Option Row → ℕ
counted bodies row = elim row [ None ↦ 0 | Some r ↦ weight_of bodies r.def ]

module _ {A : Type 0} (M : Functions) (old new : GraphView A) (before after : Counts) (arena : arenas.IsSoundArena old.nodes)
    (stays : GraphStays old.nodes.given new.nodes.given (graph old) (left_by old new)) (left : LeavesNodes M old new before after) where
  given_old : (n : NodeId) (r : Row) → row_at old.nodes n ≡ Some r → Given old.nodes.given n
  given_old n r is = arena.given n (ap is_some is)

  -- who stands outside all scopes stays
  outside_stays : (n : NodeId) (r : Row) → row_at old.nodes n ≡ Some r → r.scope ≡ None → row_at new.nodes n ≡ Some r
  outside_stays n r is outside = go (stays.rows n (given_old n r is))
    where
      go : (row_at new.nodes n ≡ row_at old.nodes n) ⊎ (row_at new.nodes n ≡ None) → row_at new.nodes n ≡ Some r
      go (inl same) = same ∙ is
      go (inr dead) = let d = left.dead n r is dead in absurd (outside_is_in_none (graph old) d.0 n r is outside d.1)

  -- and nobody comes to stand there
  outside_was : (n : NodeId) (r : Row) → row_at new.nodes n ≡ Some r → r.scope ≡ None → row_at old.nodes n ≡ Some r
  outside_was n r is outside = go (cases_lt n.gen_ old.nodes.given)
    where
      go : (n.gen_ < old.nodes.given) ⊎ (old.nodes.given ≤ n.gen_) → row_at old.nodes n ≡ Some r
      go (inl given) = was (stays.rows n given)
        where
          was : (row_at new.nodes n ≡ row_at old.nodes n) ⊎ (row_at new.nodes n ≡ None) → row_at old.nodes n ≡ Some r
          was (inl same) = sym same ∙ is
          was (inr dead) = absurd (let e : None ≡ Some r = sym dead ∙ is in cc)
      go (inr anew) = let a = (left.born n r anew is).0 in absurd (outside_is_in_none (left_by old new) a.bind n r is outside a.inside)

  fits_still : (n : NodeId) (t : _) → Given old.nodes.given n → typing.Fits old.nodes n t → typing.Fits new.nodes n t
  fits_still n t given fits = go (stays.rows n given)
    where
      go : (row_at new.nodes n ≡ row_at old.nodes n) ⊎ (row_at new.nodes n ≡ None) → typing.Fits new.nodes n t
      go (inl same) = rw same fits
      go (inr dead) = rw dead tt

  -- each declaration has its node
  have_nodes : (declared : List Declared) (nodes : List NodeId) → HaveNodes old.nodes declared nodes → HaveNodes new.nodes declared nodes
  have_nodes declared nodes have n d is =
      let h = have n d is in
      record {
        target = h.target;
        expert = h.expert;
        live = λ itself no_grab. still (h.live itself no_grab);
        grab = λ itself grab.
            let g = h.grab itself grab in
            let more = stays.given in
            let given = g.0 in
            (omega (arith, more, given), fits_still (node_in nodes n) d.ty g.0 g.1);
      }
    where
      still : HasLiveNode old.nodes nodes n d → HasLiveNode new.nodes nodes n d
      still l = record {
        row = l.row;
        is_row = outside_stays (node_in nodes n) l.row l.is_row l.outside;
        typed = l.typed;
        outside = l.outside;
        variable = λ kind. as_variable (l.variable kind);
        bind = λ kind. as_bind (l.bind kind);
        expert = λ element kind. let t = l.expert element kind in (t.0, t.1, t.2, t.3, there t.0 t.4, t.5, t.6);
      }
        where
          there : (r : Row) → row_at old.nodes (node_in nodes n) ≡ Some r → row_at new.nodes (node_in nodes n) ≡ Some r
          there r is =
              let e : Some l.row ≡ Some r = sym l.is_row ∙ is in
              let same : l.row ≡ r = cc in
              outside_stays (node_in nodes n) r is (ap (λ (q : Row). q.scope) (sym same) ∙ l.outside)

          as_variable : IsVariable old.nodes (node_in nodes n) → IsVariable new.nodes (node_in nodes n)
          as_variable v = record { row = v.row; value = v.value; there = there v.row v.there; variable = v.variable }

          as_bind : IsLiveBind old.nodes (node_in nodes n) → IsLiveBind new.nodes (node_in nodes n)
          as_bind b = (b.0, b.1, b.2, b.3, there b.0 b.4, b.5)

  -- no more nodes may come to live
  few_still : (bodies : List Body) (room : ℕ) → AreFew bodies old.nodes room → AreFew bodies new.nodes room
  few_still bodies room few = record {
    tops = few.tops;
    given = λ n among. let low = few.given n among in let more = stays.given in omega (arith, low, more);
    all = λ n r is outside. few.all n r (outside_was n r is outside) outside;
    weight =
        let less = sum_less (weight_at bodies new.nodes) (weight_at bodies old.nodes) few.tops (λ n among. no_more n (few.given n among)) in
        let was = few.weight in
        omega (arith, less, was);
  }
    where
      no_more : (n : NodeId) → Given old.nodes.given n → weight_at bodies new.nodes n ≤ weight_at bodies old.nodes n
      no_more n given = go (stays.rows n given)
        where
          go : (row_at new.nodes n ≡ row_at old.nodes n) ⊎ (row_at new.nodes n ≡ None) → weight_at bodies new.nodes n ≤ weight_at bodies old.nodes n
          go (inl same) =
              let e : weight_at bodies new.nodes n ≡ weight_at bodies old.nodes n = ap (λ (o : Option Row). counted bodies o) same in
              omega (arith, e)
          go (inr dead) =
              let e : weight_at bodies new.nodes n ≡ 0 = ap (λ (o : Option Row). counted bodies o) dead in
              omega (arith, e)

  -- what is kept fits together over the graph as it is left, whose observers look at what they looked at, if that is unbroken where nothing broke the session
  pub left_sound : (k : Kept) → IsSoundSession k → k.graph ≡ without_functions old → LookAlike old.observers new.observers → (accepted : ℕ) (broken : Option ℕ)
      → (broken ≡ None → IsUnbroken new) → IsSoundSession (record k { accepted = accepted; broken = broken; graph = without_functions new })
  left_sound k sound same observers accepted broken unbroken =
      let nodes : arena_of k ≡ old.nodes = ap (λ (g : GraphView (Unit {0})). g.nodes) same in
      let watching : k.graph.observers ≡ old.observers = ap (λ (g : GraphView (Unit {0})). g.observers) same in
      record {
        one_node_each = sound.one_node_each;
        has_nodes = have_nodes k.names.declared k.nodes (subst (λ (a : Arena). HaveNodes a k.names.declared k.nodes) nodes sound.has_nodes);
        few = few_still k.bodies k.room (subst (λ (a : Arena). AreFew k.bodies a k.room) nodes sound.few);
        one_observer_each = sound.one_observer_each;
        looking = λ o among. subst (λ (n : Option NodeId). IsSome n) (sym (observers.looks o))
            (subst (λ (os : List Looking). IsSome (node_at os o)) watching (sound.looking o among));
        apart = sound.apart;
        unbroken = unbroken;
        clock = stays.clock ∙ (sym (ap (λ (a : Arena). a.time) nodes) ∙ sound.clock);
      }

-- a count that stands still at its last value has not fallen
pub not_fallen : (a b : ℕ) → a ≤ last_count → min a last_count ≤ min b last_count → a ≤ b
not_fallen a b low kept = go (cases_lt b last_count)
  where
    go : (b < last_count) ⊎ (last_count ≤ b) → a ≤ b
    go (inl less) =
        let was : min a last_count ≡ a = min-eq_left low in
        let is : min b last_count ≡ b = min-eq_left (omega (arith, less)) in
        omega (arith, was, is, kept)
    go (inr more) = omega (arith, low, more)

-- ---- faults

-- a stabilize was refused for what its fault says
pub refused_for : {T : Type 0} {r : Result T StabilizeFault} {e : StabilizeFault} {why of : Cause} → r ≡ Err e → e ≡ fault.Refused of → of ≡ why
    → IsErrOf r (fault.Refused why)
refused_for is refused same = is ∙ ap (λ (f : StabilizeFault). Err f) (refused ∙ ap (λ (c : Cause). fault.Refused c) same)

-- what was met where there was no memory
met_memory : (met : Refused) → kept_of met ≡ cause.Memory → met ≡ refused.Memory
met_memory (refused.Cycle points) e = absurd (cc)
met_memory (refused.Height points) e = absurd (cc)
met_memory refused.Full e = absurd (cc)
met_memory refused.Memory e = refl

pub memory_met : {A : Type 0} (M : Functions) (old new : GraphView A) → IsRefusedFor M old new cause.Memory → new.refused ≡ Some refused.Memory
memory_met M old new done = done.broken ∙ ap (λ (r : Refused). Some r) (met_memory done.met done.is_cause)

-- what was met where it was a cycle
met_cycle : (met : Refused) → kept_of met ≡ cause.Cycle → IsCycleMet (Some met)
met_cycle (refused.Cycle points) e = tt
met_cycle (refused.Height points) e = absurd (cc)
met_cycle refused.Full e = absurd (cc)
met_cycle refused.Memory e = absurd (cc)

pub cycle_met : {A : Type 0} (M : Functions) (old new : GraphView A) → IsRefusedFor M old new cause.Cycle → IsCycleMet new.refused
cycle_met M old new done = subst IsCycleMet (sym done.broken) (met_cycle done.met done.is_cause)

-- the declarations that it passes are told with the first once more at their end
pub circular_closed : (F : Meanings) (m : Moment) (k : Kept) (targets : List ℕ) (first : ℕ) (more : List ℕ) (called calls : ℕ) → targets ≡ first ∷ more
    → IsCircular F m k (first ∷ (more ++ first ∷ [])) called calls → IsCircular F m k (closed targets) called calls
circular_closed F m k targets first more called calls is circular =
    subst (λ (ts : List ℕ). IsCircular F m k (closed ts) called calls) (sym is) circular

-- ---- where a chain begins

-- the declaration that is told of it
pub told_of : {A : Type 0} (declared : List Declared) (nodes : List NodeId) (g : GraphView A) (found target : ℕ) → found ≡ target
    → ((p : Point) → ChainBegins g.refused p → IsTold declared nodes g p.node found) → (p : Point) → ChainBegins g.refused p
    → IsTold declared nodes g p.node target
told_of declared nodes g found target is told p begins = subst (IsTold declared nodes g p.node) is (told p begins)

-- ---- the library

-- a library that knows maps alone still knows what it knew, where the keeper of a script's functions does
pub library_still_knows : (maps maps' : FnRef → Bool) (sides sides' : List Maker) → ((f : FnRef) → IsTrue (maps f) → f.id.kind ≡ Map)
    → SameKnown (is_known maps sides) (is_known maps' sides') → KeepsKnown maps maps'
library_still_knows maps maps' sides sides' alone keeps f h =
    map_known maps' sides' f (subst IsTrue (sym (keeps f)) (known_map maps sides f h (alone f h))) (alone f h)

-- ---- what a session knows of a stabilize of its graph

-- functions that mean the same
same_functions : (value value' : FnRef → List GraphValue → GraphValue) (ms ms' : List Maker) → SameValues value value' → ms' ≡ ms
    → meaning value' (side_in ms') ≡ meaning value (side_in ms)
same_functions value value' ms ms' values made =
    ap (λ (v : FnRef → List GraphValue → GraphValue). meaning v (side_in ms')) (fun_ext (λ f. fun_ext (λ args. values f args)))
    ∙ ap (λ (m : List Maker). meaning value (side_in m)) made

pub of_sessions : {A : Type 0} (value value' : FnRef → List GraphValue → GraphValue) (k : Kept) (bodies : List Body) (old new : GraphView A) (W W' : Meaning)
    (before after : Counts) → k.graph ≡ without_functions old → k.broken ≡ None → IsSoundSession k → IsSoundGraph W old → W.functions ≡ functions_over value k.bodies
    → IsSoundGraph W' new → W'.functions ≡ functions_over value' bodies → SameValues (seen_value value) (seen_value value') → makers bodies ≡ makers k.bodies
    → GraphStays old.nodes.given new.nodes.given (graph old) (left_by old new) → LeavesNodes (functions_over value k.bodies) old new before after
    → IsSessions value k old new
of_sessions value value' k bodies old new W W' before after same unbroken kept sound functions sound' functions' values made stays left = record {
  same = same;
  unbroken = unbroken;
  kept = kept;
  meaning = W;
  sound = sound;
  functions = functions;
  meaning' = W';
  sound' = sound';
  functions' = functions' ∙ same_functions (seen_value value) (seen_value value') (makers k.bodies) (makers bodies) values made;
  stays = stays;
  before = before;
  after = after;
  left = left;
}
