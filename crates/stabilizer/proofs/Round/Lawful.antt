-- What a refused round says is so, and what it leaves of the link that was refused.
use Rattle.std.proofs.Common.{◌≡◌, ◌-◌, inl, inr, ℕ, ◌<◌, ◌≤◌, true, List, [], ◌∷◌, length, Option, refl, sym, ap, subst, ◌∙◌, arith, None, Some}
use Rattle.inc_value.specs.declared.node.NodeId.{NodeId}
use Rattle.inc_value.specs.declared.node.Point.{Point}
use Rattle.inc_value.specs.Choice.{Among, Reaches}
use Rattle.inc_value.specs.Walk.{IsWalk}
use Rattle.inc_terms.specs.Depend.{Depends, main, change}
use Rattle.inc_terms.specs.Graph.{Graph, Row}
use Rattle.inc_terms.specs.Need.{IsRoot, from_root, from_held}
use Rattle.inc_terms.specs.Term.{Functions}
use Rattle.height_order.specs.Chains.{ReadsWith, IsChain}
use Rattle.node_outcomes.specs.Meaning.{Meaning}
use Rattle.stabilize_round.specs.Invariant as invariant
use Rattle.stabilize_round.specs.Invariant.{Invariant, MetNow}
use Rattle.stabilize_round.specs.Machine.{Moves, called_more}
use Rattle.stabilize_round.specs.State.{State, Start}
use Rattle.stabilize_round.specs.StepLaws.{LinkedOr}
use Rattle.stabilize_round.proofs.Confirmed.{listed_are_met}
use Rattle.stabilize_round.proofs.Meanings.{round_keeps}
use Rattle.wiring.specs.Refusing.{RefusedBy, TellsWhy, no_memory, by_link}
use Rattle.wiring.specs.Stands.{PointInHand, MatchesState, Counts, hand}
use Rattle.wiring.specs.declared.refused.Refused.{Refused}
use Rattle.wiring.specs.declared.refused.Refused.TheVariants.{Height, Cycle, Full, Memory}
use Rattle.wiring.proofs.Once.{once_as}
use Rattle.stabilizer.specs.Left.{IsMetIn, IsListedIn, IsLawfulIn, AllButLast, IsTried, LeavesTried}
use Rattle.stabilizer.specs.Look.{look_between, Look, look_of, look_refused, IsNeeded}
use Rattle.stabilizer.proofs.Round.Looking.{look_needs}
use Rattle.stabilizer.specs.Building.{StopsBuilding}
use Rattle.stabilizer.specs.Kept.{graph_in}
use Rattle.stabilizer.specs.Round.{IsFullBy, died_by}
use Rattle.stabilizer.specs.declared.parts.Parts.{Parts}
use Rattle.stabilizer.proofs.Round.Beginning.{Begun}
use Rattle.stabilizer.proofs.Round.Ending.{as_graph}
use Rattle.stabilizer.proofs.Round.Paused.{IsPaused, paused_died}
use Rattle.inc_value.specs.declared.outcome.Outcome.{Outcome}
use Rattle.inc_terms.specs.Plan.{targets}
use Rattle.necessary_graph.specs.Part.{Needed, IsInStep}
use Rattle.necessity.specs.Need.{root_times}
use Rattle.node_arena.specs.Arena.{Arena}
use Rattle.node_outcomes.specs.Row.{outcome_in}
use Rattle.node_outcomes.specs.Progress.{Progress}
use Rattle.point_map.specs.Rows.{at}
use Rattle.stabilize_round.specs.Wire.{IsConfirmed}
use Rattle.stabilize_round.proofs.Machine.{moves_keep}
use Rattle.wiring.specs.Graph.{graph_at}
use Rattle.wiring.specs.declared.work.Work.{Work}

-- ---- who is met

-- each root is of a node at which an observer looks, or of a freeze that keeps no value
abbrev pub AreListed : Parts → List NodeId → Type 0
AreListed parts observed = (p : Point) → 0 < root_times parts.work.graph.roots p → (n : NodeId) × IsRoot (graph_in parts) observed n × (p ≡ main n)

pub met_as : (F : Functions) (old new : Parts) (before counts : Counts) (b : Begun F old before) (left : Option PointInHand) (t : State)
    → MatchesState new.arena new.work counts left t → (observed : List NodeId) → AreListed new observed
    → (p : Point) → MetNow F b.start (graph_in new) (died_by old new) t.root p
    → IsMetIn F (graph_in new) (died_by old new) (look_between old) observed p
met_as F old new before counts b left t stands observed listed p (invariant.from_root {r} root way) =
    let l = listed r (subst (λ (k : ℕ). 0 < k) (stands.root r) root) in
    from_root l.1 (subst (λ (y : Point). Reaches (Depends F (graph_in new) (died_by old new)) y p) l.2 way)
met_as F old new before counts b left t stands observed listed p (invariant.from_held {h} held row stand way) =
    from_held (look_needs (old.work.round - 1) old.arena old.work h ((b.held h).0 held)) row stand way

-- ---- a refused link

module _ (F : Functions) (old new : Parts) (before counts : Counts) (b : Begun F old before) (left : Option PointInHand) (t : State)
    (run : Moves F b.start b.state t) (stands : MatchesState new.arena new.work counts left (called_more t counts.calls)) (died : t.died ≡ died_by old new)
    (observed : List NodeId) (all : AreListed new observed) where
  abbrev G : Graph
  G = graph_in new

  abbrev D : NodeId → Option NodeId
  D = died_by old new

  abbrev last : State
  last = record t { graph = G; died = D }

  is_last : t ≡ last
  is_last = as_graph G D t stands.graph died

  moves : Moves F b.start b.state last
  moves = subst (λ (x : State). Moves F b.start b.state x) is_last run

  inv : Invariant F b.start last
  inv = round_keeps F b.start b.state last b.entry moves

  module _ (p q : Point) (need : t.needed p ≡ true) (tried : Depends F t.graph t.died p q) (strict : new.work.retries ≡ 0) where
    depends : Depends F G D p q
    depends = subst (λ (x : State). Depends F x.graph x.died p q) is_last tried

    linked : (a c : Point) → ReadsWith new.work.graph.links p q a c → LinkedOr last p q a c
    linked a c (inl r) = inl (subst (λ (k : ℕ). 0 < k) (sym (stands.links a c)) r)
    linked a c (inr e) = inr (sym e.0, sym e.1)

    -- who reads by one of the links, or by the one that was tried, is needed
    reader_needed : (a c : Point) → LinkedOr last p q a c → last.needed a ≡ true
    reader_needed a c (inl l) = inv.web.from a c l
    reader_needed a c (inr e) = subst (λ (x : Point). last.needed x ≡ true) e.0 need

    walk : (list : List Point) → IsChain (ReadsWith new.work.graph.links p q) list → IsWalk (LinkedOr last p q) list
    walk [] chain = tt
    walk (a ∷ []) chain = tt
    walk (a ∷ c ∷ rest) chain = (linked a c chain.0, walk (c ∷ rest) chain.1)

    -- a chain over them of two points or more is a walk of what points depend on, and its first is met
    listed : (list : List Point) → 2 ≤ length list → IsChain (ReadsWith new.work.graph.links p q) list
        → IsListedIn F G D (look_between old) observed list
    listed [] long chain = absurd (omega arith)
    listed (a ∷ []) long chain = absurd (omega arith)
    listed (a ∷ c ∷ rest) long chain =
        let l = listed_are_met F b.start b.state last b.entry moves (stands.retries ∙ strict) p q depends a (c ∷ rest)
        (reader_needed a c (linked a c chain.0)) (walk (a ∷ c ∷ rest) chain) in
        record {
          walk = l.0;
          met = λ x starts. subst (λ (y : Point). IsMetIn F G D (look_between old) observed y) starts
              (met_as F old new before counts b left (called_more t counts.calls) stands observed all a (l.1 a (inl refl)));
        }

  by_refused : (p q : Point) → t.needed p ≡ true → Depends F t.graph t.died p q → (e : Refused) → RefusedBy new.work p q e
      → IsLawfulIn F G D (look_between old) observed e × IsFullBy old.arena new.arena e
  by_refused p q need tried (Height points) why = (
    (
      listed p q need tried why.strict points.items (let l = why.long in omega arith) why.chain,
      why.long,
      once_as points.items why.once,
    ),
    tt,
  )
  by_refused p q need tried (Cycle points) why = (
    (
      listed p q need tried why.strict points.items why.long why.path.chain,
      record {
        point = q;
        starts = why.path.starts;
        ends = why.path.ends;
        front = why.front;
        is_front = why.comes_back;
        once = once_as why.front why.once;
        long = why.long;
      },
    ),
    tt,
  )
  by_refused p q need tried Full why = absurd why
  by_refused p q need tried Memory why = (tt, tt)

  -- what a refusal says where a round stops is so
  by_reason : (e : Refused) → TellsWhy F (called_more t counts.calls) new.work left e
      → IsLawfulIn F G D (look_between old) observed e × IsFullBy old.arena new.arena e
  by_reason e why = by_why left e why
    where
      by_why : (h : Option PointInHand) (x : Refused) → TellsWhy F (called_more t counts.calls) new.work h x
          → IsLawfulIn F G D (look_between old) observed x × IsFullBy old.arena new.arena x
      by_why h x no_memory = (tt, tt)
      by_why h x (by_link {p} {q} {rest} need tried confirmed why) = by_refused p q need tried x why

-- where a build found no room
by_room : (F : Functions) (G : Graph) (D : NodeId → Option NodeId) (old new : Parts) (nodes : List NodeId) (count : ℕ) → old.arena.given ≤ count
    → (e : Refused) → StopsBuilding count new.arena e → IsLawfulIn F G D (look_between old) nodes e × IsFullBy old.arena new.arena e
by_room F G D old new nodes count later Full room = (tt, (count, later, room))
by_room F G D old new nodes count later Memory room = (tt, tt)
by_room F G D old new nodes count later (Height points) room = absurd room
by_room F G D old new nodes count later (Cycle points) room = absurd room

-- what a round says that was refused is so, over the graph that it left
pub paused_lawful : (M : Meaning) (old new : Parts) (before after : Counts) (e : Refused) → IsPaused M old new before after e
    → (observed : List NodeId) → AreListed new observed
    → IsLawfulIn M.functions (graph_in new) (died_by old new) (look_between old) observed e × IsFullBy old.arena new.arena e
paused_lawful M old new before after e p observed all =
    let b = p.begins.begun in
    let k = p.pauses in
    elim k.told [
      | inl why ↦
          let stands = subst (λ (x : State). MatchesState new.arena new.work after k.left x) why.0 k.stands in
          let tells = subst (λ (x : State). TellsWhy M.functions x new.work k.left e) why.0 why.1 in
          let died = ap (λ (x : State). x.died) (sym why.0) ∙ paused_died M old new before after e p in
          by_reason M.functions old new before after b k.left k.before k.moves stands died observed all e tells
      | inr full ↦ by_room M.functions (graph_in new) (died_by old new) old new observed full.0
          (subst (λ (c : ℕ). c ≤ full.0) b.stands.given full.1) e full.2
    ]

module _ (F : Functions) (z : Start) (t : State) (holds : Invariant F z t) (arena : Arena) (work : Work) (counts : Counts) (left : Option PointInHand)
    (stands : MatchesState arena work counts left (called_more t counts.calls)) (step : IsInStep work.graph) where
  abbrev L : Look
  L = look_of work.round arena work

  module _ (p q : Point) (need : t.needed p ≡ true) (confirmed : IsConfirmed (called_more t counts.calls) p q) where
    walks : (list : List Point) → IsChain (ReadsWith work.graph.links p q) list → IsWalk (ReadsWith work.graph.links p q) list
    walks [] chain = tt
    walks (a ∷ []) chain = tt
    walks (a ∷ b ∷ rest) chain = (chain.0, walks (b ∷ rest) chain.1)

    -- who is linked, or was to be, is needed
    reader_was_needed : (a b : Point) → ReadsWith work.graph.links p q a b → IsNeeded L a
    reader_was_needed a b (inl reads) = look_needs work.round arena work a (step.readers a b reads)
    reader_was_needed a b (inr e) = look_needs work.round arena work a (subst (Needed work.graph) (sym e.0) ((stands.needed p).0 need))

    all_needed : (list : List Point) → IsChain (ReadsWith work.graph.links p q) list → AllButLast (IsNeeded L) list
    all_needed [] chain = tt
    all_needed (a ∷ []) chain = tt
    all_needed (a ∷ b ∷ rest) chain = (reader_was_needed a b chain.0, all_needed (b ∷ rest) chain.1)

    -- what the state's record of the change chooses is what the row's does
    chosen : (r : Row) (x : Option Progress) → at work.rows (change p.node) ≡ x → Among q (targets (graph_at arena work) p.node r.def (outcome_in x))
        → Among q (targets t.graph p.node r.def (t.out (change p.node)))
    chosen r None is among = absurd among
    chosen r (Some k) is among =
        subst (λ (G : Graph). Among q (targets G p.node r.def (t.out (change p.node)))) (sym stands.graph)
        (subst (λ (o : Option Outcome). Among q (targets (graph_at arena work) p.node r.def o)) (sym (stands.out (change p.node) k is)) among)

    tried : (list : List Point) → IsChain (ReadsWith work.graph.links p q) list → IsTried L list
    tried list chain = record {
      reader = p;
      kid = q;
      linked = walks list chain;
      needed = all_needed list chain;
      right = λ r row is_main among. sym (stands.settled (change p.node)) ∙ holds.last_settled (change p.node)
          (confirmed.right r (ap (λ (G : Graph). G.row p.node) stands.graph ∙ row) is_main
          (chosen r (at work.rows (change p.node)) refl among));
    }

    pub tried_by : (e : Refused) → RefusedBy work p q e → LeavesTried L e
    tried_by (Height points) why = tried points.items why.chain
    tried_by (Cycle points) why = tried points.items why.path.chain
    tried_by Full why = absurd why
    tried_by Memory why = tt

-- whatever the refusal says
leaves_tried : (F : Functions) (z : Start) (t : State) → Invariant F z t → (arena : Arena) (work : Work) (counts : Counts) (left : Option PointInHand)
    → MatchesState arena work counts left (called_more t counts.calls) → IsInStep work.graph → (e : Refused)
    → TellsWhy F (called_more t counts.calls) work left e
    → LeavesTried (look_of work.round arena work) e
leaves_tried F z t holds arena work counts left stands step e no_memory = tt
leaves_tried F z t holds arena work counts left stands step e (by_link {p} {q} {rest} need it confirmed why) =
    tried_by F z t holds arena work counts (Some (hand p (q ∷ rest))) stands step p q need confirmed e why

-- where a build found no room
room_tried : (count : ℕ) (arena : Arena) (work : Work) (e : Refused) → StopsBuilding count arena e → LeavesTried (look_of work.round arena work) e
room_tried count arena work Full room = tt
room_tried count arena work Memory room = tt
room_tried count arena work (Height points) room = absurd room
room_tried count arena work (Cycle points) room = absurd room

-- wherever a round stops
pub paused_tried : (M : Meaning) (old new : Parts) (before after : Counts) (e : Refused) → IsPaused M old new before after e
    → LeavesTried (look_refused new) e
paused_tried M old new before after e p =
    let b = p.begins.begun in
    let k = p.pauses in
    elim k.told [
      | inl why ↦ leaves_tried M.functions b.start k.before
          (moves_keep M.functions b.start b.state k.before k.moves p.begins.round.holds) new.arena new.work after
          k.left (subst (λ (x : State). MatchesState new.arena new.work after k.left x) why.0 k.stands) p.kept.work.step e
          (subst (λ (x : State). TellsWhy M.functions x new.work k.left e) why.0 why.1)
      | inr full ↦ room_tried full.0 new.arena new.work e full.2
    ]
