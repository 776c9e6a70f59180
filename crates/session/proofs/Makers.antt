-- What is kept stands for the same over bodies that make the same.
use Rattle.std.proofs.Common.{◌≡◌, ℕ, ◌+◌, List, [], ◌∷◌, Option, None, Some, map, refl, ap, sym, subst, arith}
use Rattle.std.proofs.lemmas.List.Sums.{sum_by-cons}
use Rattle.std.specs.Prelude.{sum_by}
use Rattle.inc_value.specs.declared.node.NodeId.{NodeId}
use Rattle.inc_terms.specs.Depend.{none_died}
use Rattle.inc_terms.specs.Graph as engine
use Rattle.inc_terms.specs.Graph.{Def, Graph, Row}
use Rattle.inc_terms.specs.Term.{Functions}
use Rattle.graph.specs.Standing.{graph}
use Rattle.node_arena.specs.Arena.{Arena, row_at}
use Rattle.node_arena.specs.RightSideLaws.{meaning}
use Rattle.script_functions.specs.Bodies.{Body}
use Rattle.script_functions.specs.Keeping.{Maker, makers, side_in}
use Rattle.script_graph.specs.Kept.{Kept, arena_of, node_in}
use Rattle.script_graph.specs.Represents.{Represents, Watches, beside, besides, graph_functions}
use Rattle.script_graph.specs.Settled.{Settled}
use Rattle.script_graph.specs.Sound.{IsSoundSession, weight_at, weight_of}
use Rattle.script_graph.specs.Stabilizing.{IsAccepted, IsCircular, IsCutShort, IsTooDeep}
use Rattle.script_graph.specs.State.{MatchesMoment}
use Rattle.script_model.specs.Formula.{Meanings, State, body_at}
use Rattle.script_model.specs.Step.{Moment}
use Rattle.script_model.specs.Values.{from_engine, to_engine}
use Rattle.transfer.specs.Both.{Both}
use Rattle.transfer.specs.Shows.{Declares}

module _ (F : Meanings) (k : Kept) (bodies : List Body) (same : makers bodies ≡ makers k.bodies) where
  abbrev now : Kept
  now = record k { bodies = bodies }

  functions_same : graph_functions F k.bodies ≡ graph_functions F bodies
  functions_same = ap (λ (ms : List Maker). meaning (λ f values. to_engine (F.value f (map from_engine values))) (side_in ms)) (sym same)

  -- so it stands beside the same graph
  both_same : (s : State) (nodes : List NodeId) (G : Graph) → besides F s nodes k.bodies G ≡ besides F s nodes bodies G
  both_same s nodes G = ap (λ (H : Functions). record {
    meanings = F;
    state = s;
    functions = H;
    graph = G;
    nodes = node_in nodes;
    died = none_died;
  }) functions_same

  pub represents_now : (s : State) → Represents F s k → Represents F s now
  represents_now s h =
      let here : beside F s k ≡ beside F s now = both_same s k.nodes (graph k.graph) in
      record {
        room = h.room;
        clock = h.clock;
        one_node_each = h.one_node_each;
        declares = λ n. subst (λ (x : Both). Declares x (node_in k.nodes n) (body_at s n)) here (h.declares n);
        targets = h.targets;
        apart = h.apart;
        built = h.built;
        refers = h.refers;
        grabs = h.grabs;
        today = record { plain = h.today.plain; aged = h.today.aged; freezes = h.today.freezes };
      }

  abbrev watches_now : (s : State) → Watches s k → Watches s now
  watches_now s h = record {
    made = h.made;
    one_each = h.one_each;
    in_order = h.in_order;
    ended = h.ended;
    observing = λ o x at. let i = h.observing o x at in record {
      is = i.is;
      target = i.target;
      refers = i.refers;
      told = i.told;
    };
    named = h.named;
    apart = h.apart;
  }

  pub settled_now : (before s : State) → Settled F before s k → Settled F before s now
  settled_now before s h = record {
    nodes = h.nodes;
    bodies = h.bodies;
    left = h.left;
    one_node_each = h.one_node_each;
    fits = h.fits;
    scopes = h.scopes;
    still = record {
      formulas = h.still.formulas;
      bodies = h.still.bodies;
      targets = h.still.targets;
      names = h.still.names;
      rows = h.still.rows;
      freezes = h.still.freezes;
      built = h.still.built;
      lives = h.still.lives;
    };
    built = h.built;
    grabs = h.grabs;
    links = h.links;
    stamps = h.stamps;
    marks = h.marks;
    freezes = h.freezes;
    past = h.past;
    ran = λ v is needed. let r = h.ran v is needed in record {
      node = r.node;
      is_node = r.is_node;
      given = r.given;
      call = r.call;
      is_last = r.is_last;
      values_are = r.values_are;
    };
    watched = h.watched;
    today = record { plain = h.today.plain; equal = h.today.equal; targets = h.today.targets };
  }

  -- and matches the same moments
  abbrev pub matches_now : (m : Moment) → MatchesMoment F k m → MatchesMoment F now m
  matches_now m h = record {
    names = h.names;
    accepted = h.accepted;
    broken = h.broken;
    represents = λ unbroken. represents_now m.present (h.represents unbroken);
    watches = watches_now m.present h.watches;
    settled = λ unbroken. settled_now m.settled m.present (h.settled unbroken);
  }

  -- ---- how a stabilize ended

  pub accepted_now : (m : Moment) (called calls : ℕ) → IsAccepted F m k called calls → IsAccepted F m now called calls
  accepted_now m called calls h = record {
    after = h.after;
    notices = h.notices;
    stabilizes = h.stabilizes;
    work = h.work;
    due = h.due;
    within = h.within;
    matches = matches_now h.after h.matches;
    told = h.told;
  }

  pub too_deep_now : (m : Moment) (target called calls : ℕ) → IsTooDeep F m k target called calls → IsTooDeep F m now target called calls
  too_deep_now m target called calls h =
      record { after = h.after; stabilizes = h.stabilizes; within = h.within; matches = matches_now h.after h.matches }

  pub circular_now : (m : Moment) (targets : List ℕ) (called calls : ℕ) → IsCircular F m k targets called calls → IsCircular F m now targets called calls
  circular_now m targets called calls h =
      record { after = h.after; stabilizes = h.stabilizes; within = h.within; matches = matches_now h.after h.matches }

  pub cut_short_now : (m : Moment) (called calls : ℕ) → IsCutShort F m k called calls → IsCutShort F m now called calls
  cut_short_now m called calls h = record { matches = matches_now (record m { broken = Some 0 }) h.matches; within = h.within }

-- ---- what fits together

module _ (k : Kept) (bodies : List Body) (same : makers bodies ≡ makers k.bodies) where
  weight_same : (d : Def) → weight_of k.bodies d ≡ weight_of bodies d
  weight_same (engine.Bind left f captures) = ap (λ (ms : List Maker). 1 + (side_in ms f).size) (sym same)
  weight_same d = refl

  weight_there : (row : Option Row) → ◌≡◌ {A = ℕ} (elim row [ None ↦ 0 | Some r ↦ weight_of k.bodies r.def ]) (elim row [ None ↦ 0 | Some r ↦ weight_of bodies r.def ])
  weight_there None = refl
  weight_there (Some r) = weight_same r.def

  weights_same : (a : Arena) (ns : List NodeId) → sum_by (weight_at k.bodies a) ns ≡ sum_by (weight_at bodies a) ns
  weights_same a [] = refl
  weights_same a (n ∷ ns) =
      let first = weight_there (row_at a n) in
      let rest = weights_same a ns in
      let was = sum_by-cons (weight_at k.bodies a) n ns in
      let now = sum_by-cons (weight_at bodies a) n ns in
      omega (arith, first, rest, was, now)

  pub sound_now : IsSoundSession k → IsSoundSession (record k { bodies = bodies })
  sound_now sound = record {
    one_node_each = sound.one_node_each;
    has_nodes = sound.has_nodes;
    few =
        let weight = sound.few.weight in
        let same_weight = weights_same (arena_of k) sound.few.tops in
        record { tops = sound.few.tops; given = sound.few.given; all = sound.few.all; weight = omega (arith, weight, same_weight) };
    one_observer_each = sound.one_observer_each;
    looking = sound.looking;
    apart = sound.apart;
    unbroken = sound.unbroken;
    clock = sound.clock;
  }
