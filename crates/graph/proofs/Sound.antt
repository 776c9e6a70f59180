-- What every graph keeps, over calls between stabilizes.
use Rattle.std.proofs.Common.{◌≡◌, inl, inr, ℕ, ◌≤◌, List, [], ◌∷◌, map, take, drop, Bool, true, Option, None, Some, refl, sym, ap, subst, ◌∙◌, arith, ◌+◌, option_map, Ok, Err}
use Rattle.std.specs.Prelude.{IsSome, is_some, cond, Result, IfOk, OnOk, OnErr, IsErrOf}
use Rattle.std.proofs.lemmas.Option.{none-some}
use Rattle.inc_value.specs.declared.node.NodeId.{NodeId}
use Rattle.inc_value.specs.declared.node.Point.{Point}
use Rattle.inc_value.specs.Choice.{Among, Every}
use Rattle.inc_value.specs.declared.outcome.Outcome.{Outcome}
use Rattle.inc_value.specs.declared.ty.Ty.{Ty}
use Rattle.inc_terms.specs.Depend.{main, change, right_of, root_for, subject_of}
use Rattle.inc_terms.specs.Graph.{Def, Built, Row, Bind}
use Rattle.inc_terms.proofs.Same.{outcome_decides}
use Rattle.point_map.specs.Rows.{Rows, at}
use Rattle.necessity.specs.Need.{Roots, root_times}
use Rattle.node_arena.specs.Arena.{Arena, row_at, Changes, NamesGiven}
use Rattle.node_arena.specs.Typing.{Fits, Makes, BindMakes}
use Rattle.node_outcomes.specs.Computing.{seen, seen_of}
use Rattle.node_outcomes.specs.Meaning.{Meaning}
use Rattle.node_outcomes.specs.Row.{outcome_in, cutoff_in, kept_in}
use Rattle.expert_nodes.specs.Experts.{Expert, expert_of, kids_at, kids_of_expert, unlinked}
use Rattle.node_outcomes.proofs.Held.{built_live, built_parts}
use Rattle.stabilize_round.specs.Invariant.{Rooted}
use Rattle.stabilize_round.specs.State.{count}
use Rattle.stabilizer.specs.Between.{StaysButHeap}
use Rattle.stabilizer.specs.Kept.{graph_in}
use Rattle.stabilizer.specs.Round.{IsReady}
use Rattle.node_outcomes.specs.Progress.{Progress}
use Rattle.stabilizer.specs.declared.parts.Parts.{Parts}
use Rattle.wiring.specs.Graph.{graph_at}
use Rattle.wiring.specs.Kept.{IsKept}
use Rattle.wiring.specs.declared.refused.Refused.{Refused}
use Rattle.wiring.specs.declared.work.Work.{Work}
use Rattle.graph.specs.Sound.{IsSoundGraph, RootsFit}
use Rattle.graph.specs.Standing.{GraphView}
use Rattle.observers.specs.Observers.{ObserversView, in_use}
use Rattle.stabilizer.specs.Telling.{ShowAsSeen}
use Rattle.graph.proofs.Seeing.{seen_as}
use Rattle.graph.specs.Inside.{CanStabilize, FitsInside}
use Rattle.observers.specs.declared.observer.Observer.{Observer}
use Rattle.inc_value.specs.declared.function.FnRef.{FnRef}
use Rattle.inc_value.specs.declared.value.Value.{Value}
use Rattle.inc_terms.specs.Within.{Given}
use Rattle.node_arena.specs.declared.arena.AddFault.{AddFault}
use Rattle.node_arena.specs.declared.arena.AddFault.TheVariants as add
use Rattle.node_arena.specs.Graph.{CallsFit}
use Rattle.node_arena.specs.RightSide.{RightSide, SidesHold}
use Rattle.node_arena.specs.RightSideLaws.{meaning, ids_of}
use Rattle.map_nodes.specs.declared.cutoff.Cutoff.TheVariants.{Equal}
use Rattle.inc_value.specs.declared.node.Part.TheVariants.{Main, Change}
use Rattle.node_outcomes.specs.Choosing.{built_by, built_in}
use Rattle.wiring.specs.Places.{ChangesNode, for_parts}
use Rattle.stabilizer.specs.Look.{freeze_roots, last_of}
use Rattle.stabilizer.specs.Weights.{SidesFit}
use Rattle.graph.specs.Effects.{Adds, KeepsBesideGiven, CallsKnown}
use Rattle.graph.proofs.Fitting.{known_fits, calls_fit, fit_added}
use Rattle.node_arena.specs.Sound.{IsSoundArena}
use Rattle.graph.proofs.Observing.{front_in, front_is_among, early_among, user_among, user_of}

-- where a round may begin each bind that is built has a root that reads back
pub ready_built : (M : Meaning) (parts : Parts) → IsReady M parts → Rooted M.functions (graph_in parts)
ready_built M parts ready = subst (Rooted M.functions) ready.stands.graph ready.entry.rooted

module _ (M : Meaning) (old new : Parts) (observers : List Observer) (rooted since : ℕ)
    (can : CanStabilize M old observers rooted since) where
  -- roots, what is shown of rooted nodes and ids that were given stay
  pub can_still : ((o : Observer) → Among o (drop rooted observers) → o.shown ≡ None) → IsReady M new
      → ((p : Point) → root_times new.work.graph.roots p ≡ root_times old.work.graph.roots p)
      → ((p : Point) → freeze_roots (graph_in new) since p ≡ freeze_roots (graph_in old) since p)
      → (old.arena.given ≤ new.arena.given)
      → ((n : NodeId) → Among n (in_use (take rooted observers)) → at new.work.rows (main n) ≡ at old.work.rows (main n))
      → CanStabilize M new observers rooted since
  can_still later ready roots freezes given rows = record {
    ready = ready;
    roots = λ p. roots p ∙ (can.roots p ∙ ap (λ (k : ℕ). count p (map main (in_use (take rooted observers))) + k) (sym (freezes p)));
    given = λ n among. let g = can.given n among in omega (arith, g, given);
    shown = λ o x among used shown. ap seen_of (rows o.node (user_among (take rooted observers) o (early_among observers rooted later o x among shown) used))
        ∙ can.shown o x among used shown;
  }

-- what is seen of the node of an observer that shows something is something
some_seen : (x y : Option Outcome) → IsSome x → ((o : Outcome) → x ≡ Some o → y ≡ Some o) → IsSome y
some_seen None y some h = absurd (cc)
some_seen (Some o) y some h = ap is_some (h o refl)

rooted_seen : (parts : Parts) (observers : List Observer) (rooted : ℕ) → ShowAsSeen parts observers
    → ((o : Observer) → Among o (take rooted observers) → o.in_use ≡ true → IsSome o.shown)
    → (n : NodeId) → Among n (in_use (take rooted observers)) → IsSome (seen parts.work.rows (main n))
rooted_seen parts observers rooted shown showing n among =
    let u = user_of (take rooted observers) n among in
    subst (λ (m : NodeId). IsSome (seen parts.work.rows (main m))) u.looks
    (some_seen u.user.shown (seen parts.work.rows (main u.user.node)) (showing u.user u.among u.used)
    (λ o is. shown u.user o (front_in observers rooted u.user u.among) u.used is))

-- ---- roots of binds

row_of_outcome : (x : Option Progress) (o : Outcome) → outcome_in x ≡ Some o → (k : Progress) × (x ≡ Some k) × (k.outcome ≡ Some o)
row_of_outcome None o e = absurd (none-some o e)
row_of_outcome (Some k) o e = (k, refl, e)

own_root : (w : Built) → root_for (Some w) w.outcome ≡ w.root
own_root w = ap (λ (b : Bool). cond b w.root None) ((outcome_decides w.outcome w.outcome).1 refl)

-- a bind's root is its right side, which has its type
pub roots_fit : (arena : Arena) (work : Work) → IsKept arena work → RootsFit arena (graph_at arena work)
roots_fit arena work kept b r left f captures w root row bind built is =
    let parts = built_parts r.def (outcome_in (at work.rows (change b))) (at work.roots (change b)) w
    (sym (built_live work.rows work.roots b arena work.experts r row) ∙ built) in
    let right : right_of (graph_at arena work) b r.def w.outcome ≡ Some root = parts.1 (graph_at arena work) b w.outcome built ∙ (own_root w ∙ is) in
    let k = row_of_outcome (at work.rows (change b)) w.outcome parts.0 in
    let fits = kept.rights b root r k.0 w.outcome row k.1 k.2 right in
    let makes : BindMakes arena left f captures r.ty = subst (λ (d : Def). Makes arena d r.ty) bind (kept.sound.types b r row) in
    (fits.0, subst (λ (t : Ty). Fits arena root t) (sym makes.gives) fits.1)

every_among : (P : NodeId → Type 0) (ns : List NodeId) → Every P ns → (n : NodeId) → Among n ns → P n
every_among P [] h n among = absurd among
every_among P (m ∷ ns) h n (inl e) = subst P (sym e) h.0
every_among P (m ∷ ns) h n (inr rest) = every_among P ns h.1 n rest

-- what callers are told of it
pub sound_of : {F : Type 0} (functions : F) (M : Meaning) (parts : Parts) (observers : ObserversView) (rooted since : ℕ) (refused : Option Refused)
    → FitsInside M parts observers.made rooted since refused → IsSoundGraph M (seen_as functions parts observers rooted since refused)
sound_of functions M parts observers rooted since refused fits = record {
  few = fits.few;
  earlier = fits.earlier;
  past = fits.past;
  listed = λ n m among. every_among (Given parts.arena.given) (kids_at parts.work.experts n) (fits.kept.work.listed n) m among;
  nodes = fits.kept.work.sound;
  tops = fits.kept.work.tops;
  scopes = fits.kept.work.scopes;
  built = fits.built;
  inside = fits.inside;
  typed = roots_fit parts.arena parts.work fits.kept.work;
  showing = fits.showing;
  later = fits.later;
  whole = λ whole. let can = fits.unbroken whole in record {
    roots = can.roots;
    fit = can.ready.fit;
    given = can.given;
    shown = rooted_seen parts observers.made rooted can.shown fits.showing;
    seen = can.shown;
  };
}

-- ---- a node is added, or not

-- what the answer of adding a node says of the arena
pub record AddAnswers (old new : Arena) (def : Def) (ty : Ty) (result : Result NodeId AddFault) : Type 0 where
  pub added : IfOk result (λ (id : NodeId). Changes old new id (Some (record { def = def; ty = ty; scope = None })))
  pub given : OnOk result (new.given ≡ old.given + 1)
  pub err : OnErr result (new ≡ old)
  pub fresh : IfOk result (λ (id : NodeId). id.gen_ ≡ old.given)
  pub unknown : (¬ NamesGiven old.given def) → IsErrOf result add.Unknown

no_outcome : (m : Option NodeId) (k : Progress) → k.outcome ≡ None → outcome_in (option_map (λ (m : NodeId). k) m) ≡ None
no_outcome None k none = refl
no_outcome (Some m) k none = none

-- without an outcome of its change no node is built
none_built : (row : Option Row) (root : Option NodeId) → built_in row None root ≡ None
none_built None root = refl
none_built (Some r) root = by_kind r.def
  where
    by_kind : (def : Def) → built_by def None root ≡ None
    by_kind (Bind left function captures) = refl
    by_kind def = refl

-- the new node's points have this row: no outcome, no last call, cutoff Equal, and it keeps no value
pub adds_of : {F : Type 0} (s t : GraphView F) (def : Def) (ty : Ty) (result : Result NodeId AddFault) (k : Progress) → k.outcome ≡ None → k.last ≡ None
    → k.cutoff ≡ Equal → kept_in (Some k) ≡ None → AddAnswers s.nodes t.nodes def ty result
    → IfOk result (λ (id : NodeId). ChangesNode s.work.rows t.work.rows id (for_parts def (λ part. k)))
    → IfOk result (λ (id : NodeId). expert_of t.work.experts id ≡ unlinked) → KeepsBesideGiven s t
    → IfOk result (λ (id : NodeId). Adds s t id (record { def = def; ty = ty; scope = None }))
adds_of s t def ty (Ok id) k unshown uncalled equal unkept a row bare beside = record {
  beside = beside;
  fresh = a.fresh;
  given = a.given;
  changes = a.added;
  unshown = ap seen_of (row.now Main) ∙ unshown;
  unbuilt = ap (λ (o : Option Outcome). built_in (row_at t.nodes id) o (at t.work.roots (change id)))
      (ap outcome_in (row.now Change) ∙ no_outcome (subject_of def) k unshown)
      ∙ none_built (row_at t.nodes id) (at t.work.roots (change id));
  uncalled = ap last_of (row.now Main) ∙ uncalled;
  equal = ap cutoff_in (row.now Main) ∙ equal;
  unfrozen = ap kept_in (row.now Main) ∙ unkept;
  unlisted = ap kids_of_expert bare;
  unmarked = ap (λ (e : Expert). e.stale) bare;
}
adds_of s t def ty (Err e) k unshown uncalled equal unkept a row bare beside = tt

pub answer_given : (old new : Arena) (def : Def) (ty : Ty) (result : Result NodeId AddFault) → AddAnswers old new def ty result → old.given ≤ new.given
answer_given old new def ty (Ok id) a = let g = a.given in omega (arith, g)
answer_given old new def ty (Err e) a = let g = ap (λ (x : Arena). x.given) a.err in omega (arith, g)

-- a round may begin after it, where it might before
pub answer_ready : (known : FnRef → Bool) (value : FnRef → List Value → Value) (right : FnRef → RightSide) → SidesHold known right → (old new : Parts)
    (def : Def) (ty : Ty) (result : Result NodeId AddFault) → AddAnswers old.arena new.arena def ty result → CallsKnown known right old.arena def
    → IsSoundArena new.arena
    → OnOk result ((M : Meaning) → CallsFit old.arena.given M.known M.ids def → IsReady M old → IsReady M new)
    → OnErr result ((M : Meaning) → IsReady M old → IsReady M new)
    → IsReady (record { functions = meaning value right; known = known; ids = ids_of right }) old
    → IsReady (record { functions = meaning value right; known = known; ids = ids_of right }) new
answer_ready known value right sides old new def ty (Ok id) a calls sound ready err_ready = ready _
    (calls_fit known right old.arena def (known_fits known right sides old.arena new.arena ty def calls
    (sound.types id (record { def = def; ty = ty; scope = None }) a.added.changed)))
answer_ready known value right sides old new def ty (Err e) a calls sound ready err_ready = err_ready _

-- and functions of all nodes fit
pub answer_fit : (known : FnRef → Bool) (right : FnRef → RightSide) → SidesHold known right → (old new : Arena)
    (def : Def) (ty : Ty) (result : Result NodeId AddFault) → AddAnswers old new def ty result → CallsKnown known right old def → IsSoundArena new
    → ((n : NodeId) → Given old.given n → row_at new n ≡ row_at old n) → (work : Work) → IsKept old work → SidesFit known right old → SidesFit known right new
answer_fit known right sides old new def ty (Ok id) a calls sound keeps work kept fit =
    let g = a.given in
    fit_added known right old new (omega (arith, g)) work kept id (record { def = def; ty = ty; scope = None }) a.added a.fresh refl keeps
    (known_fits known right sides old new ty def calls (sound.types id (record { def = def; ty = ty; scope = None }) a.added.changed)) fit
answer_fit known right sides old new def ty (Err e) a calls sound keeps work kept fit = subst (SidesFit known right) (sym a.err) fit

-- ---- all that a call between stabilizes leaves

module _ (M : Meaning) (old new : Parts) (observers : List Observer) (rooted since : ℕ)
    (refused : Option Refused) (sound : FitsInside M old observers rooted since refused) where
  -- where the mains of observed nodes keep their rows
  pub sound_observed : refused ≡ None → (IsReady M old → IsReady M new)
      → ((p : Point) → root_times new.work.graph.roots p ≡ root_times old.work.graph.roots p)
      → (CanStabilize M old observers rooted since → (p : Point) → freeze_roots (graph_in new) since p ≡ freeze_roots (graph_in old) since p)
      → (old.arena.given ≤ new.arena.given)
      → (CanStabilize M old observers rooted since → (n : NodeId) → Among n (in_use (take rooted observers))
      → at new.work.rows (main n) ≡ at old.work.rows (main n))
      → FitsInside M new observers rooted since refused
  sound_observed still ready roots freezes given rows = record {
    few = sound.few;
    earlier = sound.earlier;
    past = let past = sound.past in omega (arith, past, given);
    kept = (ready (sound.unbroken still).ready).kept;
    built = ready_built M new (ready (sound.unbroken still).ready);
    inside = (ready (sound.unbroken still).ready).inside;
    showing = sound.showing;
    later = sound.later;
    unbroken = λ whole. let can = sound.unbroken whole in
        can_still M old new observers rooted since can sound.later (ready can.ready) roots (freezes can) given (rows can);
  }

  pub sound_still : refused ≡ None → (IsReady M old → IsReady M new)
      → ((p : Point) → root_times new.work.graph.roots p ≡ root_times old.work.graph.roots p)
      → ((p : Point) → freeze_roots (graph_in new) since p ≡ freeze_roots (graph_in old) since p)
      → (old.arena.given ≤ new.arena.given)
      → ((n : NodeId) → Given old.arena.given n → at new.work.rows (main n) ≡ at old.work.rows (main n))
      → FitsInside M new observers rooted since refused
  sound_still still ready roots freezes given rows = sound_observed still ready roots (λ can. freezes) given
      (λ can n among. rows n (can.given n (front_is_among observers rooted n among)))

  -- where all but the heap, and what nodes are, stays
  pub sound_but_heap : refused ≡ None → StaysButHeap old new
      → ((p : Point) → freeze_roots (graph_in new) since p ≡ freeze_roots (graph_in old) since p) → FitsInside M new observers rooted since refused
  sound_but_heap still stays freezes = let given = stays.given in
      sound_still still (stays.ready M) (λ p. ap (λ (r : Roots). root_times r p) stays.roots) freezes (omega (arith, given))
      (λ n given. ap (λ (m : Rows Progress). at m (main n)) stays.rows)
