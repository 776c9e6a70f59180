-- What a stabilize leaves of a script, however it ended, and what each way in which it ends tells.
use Rattle.std.proofs.Common.{◌≡◌, ◌+◌, ◌<◌, ◌≤◌, ◌^◌, ℕ, Bool, List, Option, None, Some, IsTrue, Ok, Err, refl, ap, sym, ◌∙◌, arith, length}
use Rattle.std.specs.Prelude.{sum_by}
use Rattle.graph.specs.Few.{ListsTops}
use Rattle.graph.specs.Sound.{IsSoundGraph as IsSoundGraph}
use Rattle.graph.specs.Stabilizes.{left_by, HasCalledMet, IsRefusedFor, LeavesNodes}
use Rattle.graph.specs.Standing.{IsUnbroken, GraphView, graph, without_functions}
use Rattle.graph.specs.declared.fault.Kept.TheVariants as cause
use Rattle.graph.specs.declared.fault.Kept.{Kept as Cause}
use Rattle.inc_terms.specs.Term.{Functions}
use Rattle.inc_value.specs.declared.function.FnKind.TheVariants.{Map}
use Rattle.inc_value.specs.declared.function.FnRef.{FnRef}
use Rattle.inc_value.specs.declared.node.NodeId.{NodeId}
use Rattle.inc_value.specs.declared.node.Point.{Point}
use Rattle.inc_value.specs.declared.value.Value.{Value as GraphValue}
use Rattle.node_arena.specs.Meanings.{SameKnown, SameNames, SameValues}
use Rattle.node_arena.specs.RightSide.{SameSides}
use Rattle.node_arena.specs.Sound as arenas
use Rattle.node_outcomes.specs.Meaning.{Meaning}
use Rattle.script_functions.specs.Bodies.{Body}
use Rattle.script_functions.specs.Keeping.{is_known, makers, side_in}
use Rattle.script_graph.proofs.Circling.{session_circular}
use Rattle.script_graph.proofs.CuttingShort.{session_cut_short}
use Rattle.script_graph.proofs.Functions.{same_meanings}
use Rattle.script_graph.proofs.Refusing.{IsSessions}
use Rattle.script_graph.proofs.TooDeep.{session_none_told, session_too_deep}
use Rattle.script_graph.specs.Growing.{functions_over}
use Rattle.script_graph.specs.Kept.{Kept, Script, arena_of}
use Rattle.script_graph.specs.Sound.{AreFew, IsSoundSession}
use Rattle.script_graph.specs.Stabilizing.{ChainBegins, IsAccepted, IsTold, NoneTold}
use Rattle.script_graph.specs.State.{Stands}
use Rattle.script_model.specs.Formula.{Meanings, meanings_of}
use Rattle.script_model.specs.Step.{Moment}
use Rattle.script_model.specs.Values.{seen_value}
use Rattle.session.proofs.Makers.{accepted_now, circular_now, cut_short_now, sound_now, too_deep_now}
use Rattle.session.proofs.Room.{gives_few}
use Rattle.session.proofs.SameMakers.{as_many, same_makers}
use Rattle.session.proofs.Stabilized.{LookAlike, circular_closed, cycle_met, left_sound, library_still_knows, memory_met, of_sessions, told_of}
use Rattle.session.specs.Carried.{EndsStabilize}
use Rattle.session.specs.declared.script.stabilizing.Stabilized.TheVariants.{Accepted, Circular, TooDeep}
use Rattle.stabilize_round.specs.Laws.{GraphStays}
use Rattle.stabilizer.specs.Weights as weights
use Rattle.wiring.specs.Stands.{Counts}
use Rattle.wiring.specs.declared.refused.Refused.TheVariants as refused

-- over the maps that a library knew and knows, what was kept, the bodies that are kept now, and the graph as it was and is
module _ {A : Type 0} (maps maps' : FnRef → Bool) (k : Kept) (bodies : List Body) (old new : GraphView A) (value : FnRef → List GraphValue → GraphValue)
    (before after : Counts) (sound : IsSoundSession k) (same : k.graph ≡ without_functions old)
    (knows : SameKnown (is_known maps (makers k.bodies)) (is_known maps' (makers bodies)))
    (sides : SameSides (side_in (makers k.bodies)) (side_in (makers bodies))) (arena : arenas.IsSoundArena old.nodes)
    (stays : GraphStays old.nodes.given new.nodes.given (graph old) (left_by old new))
    (left : LeavesNodes (functions_over value k.bodies) old new before after) (observers : LookAlike old.observers new.observers) where
  -- the bodies make what those made that were kept
  pub made : makers bodies ≡ makers k.bodies
  made = same_makers maps maps' k.bodies bodies knows sides

  -- what is kept, with so many accepted stabilizes, and broken with a number or not
  abbrev pub kept_now : ℕ → Option ℕ → Kept
  kept_now accepted broken = record k { accepted = accepted; broken = broken; bodies = bodies; graph = without_functions new }

  -- fits together, where the graph is unbroken if nothing broke the session
  pub kept_sound : (accepted : ℕ) (broken : Option ℕ) → (broken ≡ None → IsUnbroken new) → IsSoundSession (kept_now accepted broken)
  kept_sound accepted broken unbroken =
      sound_now (record k { accepted = accepted; broken = broken; graph = without_functions new }) bodies made
      (left_sound (functions_over value k.bodies) old new before after arena stays left k sound same observers accepted broken unbroken)

  -- and holds few nodes in any case
  pub kept_few : AreFew bodies new.nodes k.room
  kept_few = (kept_sound 0 (Some 0) (λ whole. absurd (cc))).few

-- over what the libraries name, give, know and were called, and the two libraries
module _ {L A : Type 0} (named : L → List ℕ → Option FnRef) (value : L → FnRef → List GraphValue → GraphValue) (known : L → FnRef → Bool) (calls : L → ℕ)
    (l l' : L) (builds builds' : ℕ) (k : Kept) (bodies : List Body) (old new : GraphView A) (before after : Counts) (sound : IsSoundSession k)
    (same : k.graph ≡ without_functions old) (knows : SameKnown (is_known (known l) (makers k.bodies)) (is_known (known l') (makers bodies)))
    (sides : SameSides (side_in (makers k.bodies)) (side_in (makers bodies)))
    (stays : GraphStays old.nodes.given new.nodes.given (graph old) (left_by old new))
    (left : LeavesNodes (functions_over (value l) k.bodies) old new before after) (observers : LookAlike old.observers new.observers)
    (unbroken : k.broken ≡ None) (W W' : Meaning) (sound_old : IsSoundGraph W old) (functions : W.functions ≡ functions_over (value l) k.bodies)
    (sound_new : IsSoundGraph W' new) (functions' : W'.functions ≡ functions_over (value l') bodies) (names : SameNames (named l) (named l'))
    (values : SameValues (seen_value (value l)) (seen_value (value l'))) (alone : (f : FnRef) → IsTrue (known l f) → f.id.kind ≡ Map)
    (ids : (tops : List NodeId) → ListsTops new.nodes tops
    → new.nodes.given ≤ old.nodes.given + sum_by (weights.weight_at (side_in (makers bodies)) new.nodes) tops)
    (calls_grow : calls l ≤ calls l') (builds_grow : builds ≤ builds') where
  abbrev means : L → Meanings
  means x = meanings_of (named x) (value x)

  abbrev M : Functions
  M = functions_over (value l) k.bodies

  same_made : makers bodies ≡ makers k.bodies
  same_made = made (known l) (known l') k bodies old new (value l) before after sound same knows sides sound_old.nodes stays left observers

  sessions : IsSessions (value l) k old new
  sessions = of_sessions (value l) (value l') k bodies old new W W' before after same unbroken sound sound_old functions sound_new functions' values same_made
      stays left

  -- the script before
  abbrev script_before : Script L
  script_before = record { library = l; builds = builds; kept = k }

  -- the script with so many accepted stabilizes, and broken with a number or not
  abbrev script_now : ℕ → Option ℕ → Script L
  script_now accepted broken = record {
    library = l';
    builds = builds';
    kept = record k { accepted = accepted; broken = broken; bodies = bodies; graph = without_functions new };
  }

  given_few : new.nodes.given ≤ (arena_of k).given + 2 ^ 20
  given_few =
      let was : (arena_of k).given ≡ old.nodes.given = ap (λ (g : GraphView (Unit {0})). g.nodes.given) same in
      let few = gives_few bodies new.nodes k.room (kept_few (known l) (known l') k bodies old new (value l) before after sound same knows sides
      sound_old.nodes stays left observers) old.nodes.given ids in
      omega (arith, was, few)

  observers_stay : length new.observers ≡ length k.graph.observers
  observers_stay = observers.count ∙ sym (ap (λ (g : GraphView (Unit {0})). length g.observers) same)

  as_many_bodies : length bodies ≡ length k.bodies
  as_many_bodies = as_many k.bodies bodies same_made

  still_known : (f : FnRef) → IsTrue (known l f) → IsTrue (known l' f)
  still_known = library_still_knows (known l) (known l') (makers k.bodies) (makers bodies) alone knows

  mean_same : means l' ≡ means l
  mean_same = same_meanings (named l) (named l') (value l) (value l') names values

  -- accepted, where a stabilize of the session's graph that was accepted is one of its script
  pub ends_accepted : {E : Type 0} → (IsSessions (value l) k old new → (m : Moment) → Stands (means l) k m
      → IsAccepted (means l) m (record k { accepted = k.accepted + 1; graph = without_functions new }) (calls l) (calls l'))
      → EndsStabilize {E = E} means known calls script_before (script_now (k.accepted + 1) k.broken) (Ok Accepted)
  ends_accepted accept = record {
    accepted = λ is m stands. accepted_now (means l) (record k { accepted = k.accepted + 1; graph = without_functions new }) bodies same_made m (calls l) (calls l')
        (accept sessions m stands);
    too_deep = λ target is. absurd (cc);
    circular = λ is. absurd (cc);
    unwritten = λ is. absurd (cc);
    target = λ target is. absurd (cc);
    cut_short = tt;
    for_memory = tt;
    count = omega arith;
    names = refl;
    one_observer_each = sound.one_observer_each;
    given = given_few;
    observers = observers_stay;
    bodies = as_many_bodies;
    known_still = still_known;
    calls_grow = calls_grow;
    builds_grow = builds_grow;
    functions = mean_same;
  }

  -- refused for the depth of a declaration
  pub ends_too_deep : {E : Type 0} (target : ℕ) → IsRefusedFor M old new cause.Height → HasCalledMet M old new (calls l) (calls l')
      → ((p : Point) → ChainBegins new.refused p → IsTold k.names.declared k.nodes new p.node target) → target < length k.nodes
      → EndsStabilize {E = E} means known calls script_before (script_now k.accepted (Some 21)) (Ok (TooDeep target))
  ends_too_deep target done few told within = record {
    accepted = λ is. absurd (cc);
    too_deep = λ t is m stands.
        let one : target ≡ t = cc in
        too_deep_now (means l) (record k { broken = Some 21; graph = without_functions new }) bodies same_made m t (calls l) (calls l')
        (session_too_deep (named l) (value l) k old new sessions done m stands t (calls l) (calls l')
        (told_of k.names.declared k.nodes new target t one told) few);
    circular = λ is. absurd (cc);
    unwritten = λ is. absurd (cc);
    target = λ t is.
        let one : target ≡ t = cc in
        let many = sound.one_node_each in
        omega (arith, one, many, within);
    cut_short = tt;
    for_memory = tt;
    count = omega arith;
    names = refl;
    one_observer_each = sound.one_observer_each;
    given = given_few;
    observers = observers_stay;
    bodies = as_many_bodies;
    known_still = still_known;
    calls_grow = calls_grow;
    builds_grow = builds_grow;
    functions = mean_same;
  }

  -- refused for a cycle
  pub ends_circular : {E : Type 0} → IsRefusedFor M old new cause.Cycle → HasCalledMet M old new (calls l) (calls l')
      → EndsStabilize {E = E} means known calls script_before (script_now k.accepted (Some 20)) (Ok Circular)
  ends_circular done few = record {
    accepted = λ is. absurd (cc);
    too_deep = λ target is. absurd (cc);
    circular = λ is. (
      cycle_met M old new done,
      λ m targets stands passes.
          let told = session_circular (named l) (value l) k old new sessions done m stands targets (calls l) (calls l') passes few in
          circular_now (means l) (record k { broken = Some 20; graph = without_functions new }) bodies same_made m _ (calls l) (calls l')
          (circular_closed (means l) m (record k { broken = Some 20; graph = without_functions new }) targets told.0 told.1 (calls l) (calls l') told.2 told.3),
    );
    unwritten = λ is m stands. cut_short_now (means l) (record k { broken = Some 0; graph = without_functions new }) bodies same_made m (calls l) (calls l')
        (session_cut_short (named l) (value l) k old new sessions m stands cause.Cycle (calls l) (calls l') done few);
    target = λ target is. absurd (cc);
    cut_short = tt;
    for_memory = tt;
    count = omega arith;
    names = refl;
    one_observer_each = sound.one_observer_each;
    given = given_few;
    observers = observers_stay;
    bodies = as_many_bodies;
    known_still = still_known;
    calls_grow = calls_grow;
    builds_grow = builds_grow;
    functions = mean_same;
  }

  -- without memory, or for a depth where no declaration is told, which never comes
  pub ends_cut_short : {E : Type 0} (why : Cause) (fault : E) → IsRefusedFor M old new why → HasCalledMet M old new (calls l) (calls l')
      → ((m : Moment) → Stands (means l) k m → new.refused ≡ Some refused.Memory)
      → EndsStabilize {E = E} means known calls script_before (script_now k.accepted (Some 0)) (Err fault)
  ends_cut_short why fault done few memory = record {
    accepted = tt;
    too_deep = tt;
    circular = tt;
    unwritten = tt;
    target = tt;
    cut_short = λ m stands. cut_short_now (means l) (record k { broken = Some 0; graph = without_functions new }) bodies same_made m (calls l) (calls l')
        (session_cut_short (named l) (value l) k old new sessions m stands why (calls l) (calls l') done few);
    for_memory = memory;
    count = omega arith;
    names = refl;
    one_observer_each = sound.one_observer_each;
    given = given_few;
    observers = observers_stay;
    bodies = as_many_bodies;
    known_still = still_known;
    calls_grow = calls_grow;
    builds_grow = builds_grow;
    functions = mean_same;
  }

  pub ends_for_memory : {E : Type 0} (fault : E) → IsRefusedFor M old new cause.Memory → HasCalledMet M old new (calls l) (calls l')
      → EndsStabilize {E = E} means known calls script_before (script_now k.accepted (Some 0)) (Err fault)
  ends_for_memory fault done few = ends_cut_short cause.Memory fault done few (λ m stands. memory_met M old new done)

  pub ends_untold : {E : Type 0} (fault : E) → IsRefusedFor M old new cause.Height → HasCalledMet M old new (calls l) (calls l')
      → ((p : Point) → ChainBegins new.refused p → NoneTold k.names.declared k.nodes new p.node)
      → EndsStabilize {E = E} means known calls script_before (script_now k.accepted (Some 0)) (Err fault)
  ends_untold fault done few none =
      ends_cut_short cause.Height fault done few (λ m stands. absurd (session_none_told (named l) (value l) k old new sessions done m stands none))
