-- What a round gave, over other lists of the same nodes.
use Rattle.std.proofs.Common.{◌≡◌, inl, inr, ℕ, ◌≤◌, ◌+◌, ◌-◌, ◌^◌, true, List, ◌++◌, length, map, take, drop, Option, None, Some, Ok, Err, sym, ap, subst, ◌∙◌, arith}
use Rattle.std.specs.Prelude.{Result, OnOk, IsSome, is_some}
use Rattle.std.proofs.Math.Seq.{take-length}
use Rattle.inc_value.specs.declared.outcome.Outcome.{Outcome}
use Rattle.inc_value.specs.declared.node.NodeId.{NodeId}
use Rattle.inc_value.specs.declared.node.Point.{Point}
use Rattle.inc_value.specs.Choice.{Among, here}
use Rattle.inc_terms.specs.Depend.{main, change, none_died}
use Rattle.inc_terms.specs.Graph.{Graph}
use Rattle.inc_terms.specs.Need.{IsRoot, Needed, Met, from_root, from_held}
use Rattle.inc_terms.specs.Term.{Functions}
use Rattle.inc_terms.specs.Within.{Given}
use Rattle.stabilize_round.specs.State.{count}
use Rattle.node_outcomes.specs.Computing.{seen}
use Rattle.node_outcomes.specs.Meaning.{Meaning}
use Rattle.stabilizer.specs.Kept.{graph_in}
use Rattle.stabilizer.specs.Left.{WasDueIn, WasCalledIn, IsUpToDateIn, IsLawfulIn, IsListedIn, HasCalledMetIn, IsBuiltMetIn, BuildsRightIn}
use Rattle.stabilizer.specs.Look.{Look, IsNeeded, freeze_roots, look_between, look_refused}
use Rattle.stabilizer.specs.Round.{AreNewFreezes, AreRooted, BeginsAt, IsReady, IsUpToDate, IsLawful, HasCalledMet, BuildsAll, BuildsAllBut, left_by, died_by}
use Rattle.stabilizer.specs.declared.parts.Parts.{Parts}
use Rattle.wiring.specs.declared.refused.Refused.{Refused}
use Rattle.wiring.specs.declared.refused.Refused.TheVariants.{Height, Cycle, Full, Memory}
use Rattle.graph.specs.Inside.{AreNewRoots, CanStabilize, FitsInside}
use Rattle.observers.specs.Observers.{in_use, told_by}
use Rattle.stabilizer.specs.Telling.{shown_or, shows_of}
use Rattle.observers.specs.declared.observer.Observer.{Observer}
use Rattle.graph.proofs.Observing.{in_use_split, among_swapped, count_swapped, front_in, user_among}
use Rattle.graph.proofs.Freezes.{freeze_root_given}
use Rattle.graph.proofs.Sound.{ready_built}
use Rattle.graph.proofs.Telling.{in_use_told, length_told, told_user}
use Rattle.graph.proofs.Unobserving.{mains_among}
use Rattle.observers.proofs.Lists.{none_left}
use Rattle.inc_terms.proofs.Plan.{among_parts, among_right}
use Rattle.stabilize_round.proofs.Points.{among_count}

module _ (F : Functions) (G : Graph) (died : NodeId → Option NodeId) (xs ys : List NodeId) (same : (n : NodeId) → Among n xs → Among n ys) where
  root_as : (n : NodeId) → IsRoot G xs n → IsRoot G ys n
  root_as n (inl among) = inl (same n among)
  root_as n (inr unfrozen) = inr unfrozen

  pub needed_as : (p : Point) → Needed F G died xs p → Needed F G died ys p
  needed_as p need = (need.0, root_as need.0 need.1, need.2)

  pub met_as : (held : Point → Type 0) (p : Point) → Met F G died xs held p → Met F G died ys held p
  met_as held p (from_root {n} root reach) = from_root (root_as n root) reach
  met_as held p (from_held h row stands reach) = from_held h row stands reach

module _ (F : Functions) (G : Graph) (died : NodeId → Option NodeId) (old : Look) (xs ys : List NodeId) (to : (n : NodeId) → Among n xs → Among n ys)
    (back : (n : NodeId) → Among n ys → Among n xs) where
  due_as : (new : Look) (n : NodeId) → WasDueIn F G died old new xs n → WasDueIn F G died old new ys n
  due_as new n d = let met : Met F G died ys (IsNeeded old) (main n) = met_as F G died xs ys to (IsNeeded old) (main n) d.met in search (met, d)

  pub called_as : (new : Look) (n : NodeId) → WasCalledIn F G died old new xs n → WasCalledIn F G died old new ys n
  unfolding due_as
  called_as new n w = record { due = due_as new n w.due; result = w.result; is_last = w.is_last; answers = w.answers }

  pub up_to_date_as : (after : Graph) (new : Look) (ran : List NodeId) → ((p : Point) → count p (map main xs) ≡ count p (map main ys))
      → IsUpToDateIn F G died after old new xs ran → IsUpToDateIn F G died after old new ys ran
  up_to_date_as after new ran counts u = record {
    roots = λ p. u.roots p ∙ ap (λ (k : ℕ). k + freeze_roots new.graph new.given p) (counts p);
    needs = λ p. (
      (λ n. needed_as F after none_died xs ys to p ((u.needs p).0 n)),
      (λ n. (u.needs p).1 (needed_as F after none_died ys xs back p n)),
    );
    sees = λ n need. u.sees n (needed_as F G died ys xs back (main n) need);
    chose = λ n m r row subject need. u.chose n m r row subject (needed_as F G died ys xs back (change n) need);
    built = λ b left r f captures row def need. u.built b left r f captures row def (needed_as F G died ys xs back (change b) need);
    acyclic = λ p need. u.acyclic p (needed_as F G died ys xs back p need);
    shallow = λ p need. u.shallow p (needed_as F G died ys xs back p need);
    links = u.links;
    recalls = u.recalls;
    kept = λ n r row not. elim (u.kept n r row not) [ inl e ↦ inl e | inr c ↦ inr (called_as new n c.0, c.1) ];
    costs = u.costs;
    cutoff = u.cutoff;
    unmarked = λ n r row need. u.unmarked n r row (needed_as F G died ys xs back (main n) need);
    renewed = λ n r kids values marked need. u.renewed n r kids values marked (needed_as F G died ys xs back (main n) need);
    marks = u.marks;
    froze = u.froze;
    once = u.once;
    called = λ n among. called_as new n (u.called n among);
    work = λ before observers stood all. u.work before observers stood (λ n among. all n (to n among));
  }

  pub few_as : (new : Look) (before after : ℕ) → HasCalledMetIn F G died old new xs before after → HasCalledMetIn F G died old new ys before after
  few_as new before after h = record {
    nodes = h.nodes;
    once = h.once;
    due = λ n among. due_as new n (h.due n among);
    count = h.count;
  }

  built_as : (b : NodeId) → IsBuiltMetIn F G died old xs b → IsBuiltMetIn F G died old ys b
  built_as b h = record { right = h.right; met = met_as F G died xs ys to (IsNeeded old) (change b) h.met }

  pub builds_as : (unbuilt : Option NodeId) → BuildsRightIn F G died old xs unbuilt → BuildsRightIn F G died old ys unbuilt
  builds_as unbuilt h = record {
    stays = λ b r is row. elim (h.stays b r is row) [
      | inl same ↦ inl same
      | inr (inl right) ↦ inr (inl (built_as b right))
      | inr (inr it) ↦ inr (inr it)
    ];
    made = λ b r late row. elim (h.made b r late row) [ inl none ↦ inl none | inr right ↦ inr (built_as b right) ];
    refused = λ b is. let u = h.refused b is in
        record { none = u.none; differs = u.differs; met = met_as F G died xs ys to (IsNeeded old) (change b) u.met };
    was = h.was;
    scoped = h.scoped;
  }

  listed_as : (points : List Point) → IsListedIn F G died old xs points → IsListedIn F G died old ys points
  listed_as points l = record {
    walk = l.walk;
    met = λ p starts. met_as F G died xs ys to (IsNeeded old) p (l.met p starts);
  }

  pub lawful_as : (e : Refused) → IsLawfulIn F G died old xs e → IsLawfulIn F G died old ys e
  lawful_as (Height points) l = (listed_as points.items l.0, l.1, l.2)
  lawful_as (Cycle points) l = (listed_as points.items l.0, l.1)
  lawful_as Full l = l
  lawful_as Memory l = l

-- ---- answers

pub on_ok : {T E : Type 0} {A B : Type 0} (r : Result T E) → (A → B) → OnOk r A → OnOk r B
on_ok (Ok v) f a = f a
on_ok (Err e) f a = a

-- ---- a round over observers

module _ (M : Meaning) (old new : Parts) (os : List Observer) (rooted since : ℕ)
    (can : CanStabilize M old os rooted since) (within : rooted ≤ length os) where
  abbrev front : List NodeId
  front = in_use (take rooted os)

  abbrev rest : List NodeId
  rest = in_use (drop rooted os)

  to_all : (n : NodeId) → Among n (rest ++ front) → Among n (in_use os)
  to_all n h = subst (Among n) (in_use_split os rooted) (among_swapped n rest front h)

  from_all : (n : NodeId) → Among n (in_use os) → Among n (rest ++ front)
  from_all n h = among_swapped n front rest (subst (Among n) (sym (in_use_split os rooted)) h)

  counts_all : (p : Point) → count p (map main (rest ++ front)) ≡ count p (map main (in_use os))
  counts_all p = count_swapped p rest front ∙ ap (λ (ns : List NodeId). count p (map main ns)) (in_use_split os rooted)

  -- the nodes of the rest were given, and so were freezes that are new
  pub rest_given : (n : NodeId) → Among n rest → Given old.arena.given n
  rest_given n h = can.given n (subst (Among n) (in_use_split os rooted) (among_right n front rest h))

  fresh_given : (freezes : List NodeId) → AreNewFreezes old.arena old.work since freezes → (n : NodeId) → Among n freezes → Given old.arena.given n
  fresh_given freezes fresh n h =
      let f = fresh (main n) in
      let c = among_count (main n) (map main freezes) (mains_among n freezes h) in
      freeze_root_given (graph_in old) old.arena.given (main n) (omega (arith, f, c))

  module _ (roots : List NodeId) (begins : AreNewRoots old.arena old.work os rooted since roots) where
    pub roots_given : (n : NodeId) → Among n roots → Given old.arena.given n
    roots_given n h = elim (among_parts n rest begins.freezes (subst (Among n) begins.all h)) [
      | inl k ↦ rest_given n k
      | inr k ↦ fresh_given begins.freezes begins.fresh n k
    ]

    pub begins_at : BeginsAt old since roots rest begins.freezes front
    begins_at = record { all = begins.all; fresh = begins.fresh; rooted = can.roots }

  pub all_right : IsUpToDate M.functions old new (rest ++ front) → IsUpToDate M.functions old new (in_use os)
  all_right right = up_to_date_as M.functions (left_by old new) (died_by old new) (look_between old) (rest ++ front) (in_use os) to_all from_all (graph_in new) (look_between new) new.ran.items counts_all
      right

  pub all_lawful : (e : Refused) → IsLawful M.functions old new (rest ++ front) e → IsLawful M.functions old new (in_use os) e
  all_lawful e l =
      (lawful_as M.functions (left_by old new) (died_by old new) (look_between old) (rest ++ front) (in_use os) to_all from_all e l.0, l.1)

  pub all_few : (before after : ℕ) → HasCalledMet M.functions old new (rest ++ front) before after
      → HasCalledMet M.functions old new (in_use os) before after
  all_few before after few = few_as M.functions (left_by old new) (died_by old new) (look_between old) (rest ++ front) (in_use os) to_all from_all (look_refused new) before after few

  pub all_built : BuildsAll M.functions old new (rest ++ front) → BuildsAll M.functions old new (in_use os)
  all_built built = builds_as M.functions (left_by old new) (died_by old new) (look_between old) (rest ++ front) (in_use os) to_all from_all None built

  pub all_built_but : (e : Refused) → BuildsAllBut M.functions old new (rest ++ front) e → BuildsAllBut M.functions old new (in_use os) e
  all_built_but e k = (
    k.0,
    builds_as M.functions (left_by old new) (died_by old new) (look_between old) (rest ++ front) (in_use os) to_all from_all k.0 k.1,
    k.2,
  )

  -- ---- the observers once they were told of it

  abbrev told : List Observer
  told = told_by (shows_of new) os

  showing_again : (o : Observer) → Among o (take (length told) told) → o.in_use ≡ true → IsSome o.shown
  showing_again o among used = ap is_some (told_user (shows_of new) os o (front_in told (length told) o among) used).shown

  can_again : (M' : Meaning) → old.arena.given ≤ new.arena.given → IsReady M' new → IsUpToDate M.functions old new (in_use os)
      → CanStabilize M' new told (length told) new.arena.given
  can_again M' later ready right = record {
    ready = ready;
    roots = subst (AreRooted new.arena new.work new.arena.given) (sym (ap in_use (take-length told) ∙ in_use_told (shows_of new) os)) right.roots;
    given = λ n among. let g = can.given n (subst (Among n) (in_use_told (shows_of new) os) among) in omega (arith, g, later);
    shown = λ o x among used shown.
        let t = told_user (shows_of new) os o among used in
        let s = right.sees t.one.node (t.one.node, inl (user_among os t.one t.among t.used), here) in
        subst (λ (n : NodeId). seen new.work.rows (main n) ≡ Some x) (sym t.node)
        (s.1 ∙ (sym (ap (λ (k : Option Outcome). Some (shown_or k)) s.1) ∙ (sym t.shown ∙ shown)));
  }

  pub sound_again : (M' : Meaning) (refused : Option Refused) → length os ≤ 2 ^ 32 - 1 → old.arena.given ≤ new.arena.given → IsReady M' new
      → IsUpToDate M.functions old new (in_use os) → FitsInside M' new told (length told) new.arena.given refused
  sound_again M' refused few later ready right = record {
    few = let l = length_told (shows_of new) os in omega (arith, l, few);
    earlier = omega arith;
    past = omega arith;
    kept = ready.kept;
    built = ready_built M' new ready;
    inside = ready.inside;
    showing = showing_again;
    later = λ o among. absurd (none_left o told (length told) (omega arith) among);
    unbroken = λ whole. can_again M' later ready right;
  }
