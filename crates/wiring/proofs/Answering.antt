-- What a call that gives a point its links answers, by what it called.
use Rattle.std.proofs.Common.{◌≡◌, ◌∙◌, ◌∷◌, Bool, true, false, List, [], Some, refl, sym, ap, subst, arith}
use Rattle.std.specs.Prelude.{Result, Ok, Err, IsErrAnd, IsTrue, IsFalse}
use Rattle.inc_value.specs.declared.node.NodeId.{NodeId}
use Rattle.inc_value.specs.declared.node.Point.{Point}
use Rattle.inc_terms.specs.Graph.{Row}
use Rattle.necessary_graph.specs.Part.{Needed}
use Rattle.node_arena.specs.Arena.{Arena, row_at}
use Rattle.node_outcomes.specs.Row.{IsRewritten, with_stage, stage_in}
use Rattle.node_outcomes.specs.Progress.{Progress}
use Rattle.node_outcomes.specs.declared.row.Stage.{Stage}
use Rattle.node_outcomes.specs.declared.row.Stage.TheVariants as code
use Rattle.point_map.specs.Rows.{Rows, at}
use Rattle.wiring.specs.Answers.{EndsWired, WireAnswers, TakenAnswers, PassesGate, GateAnswers, AsksGate, ConnectAnswers}
use Rattle.wiring.specs.Growing.{Grows}
use Rattle.wiring.specs.Kept.{IsKept}
use Rattle.wiring.specs.Stands.{hand, owes}
use Rattle.wiring.specs.Wiring.{Wires, WiresTaken, StaysInHand, KeepsPlaces}
use Rattle.wiring.specs.declared.refused.Refused.{Refused}
use Rattle.wiring.specs.declared.work.Work.{Work}
use Rattle.wiring.proofs.Gating.{lacks_gated, ran_gate}
use Rattle.wiring.proofs.Growing.{grows_then}
use Rattle.wiring.proofs.Holding.{has_links_same}
use Rattle.wiring.proofs.Lifting.{Lifts, DueAfter, lifted_wires, lifted_refused, one_on, one_gone, one_refused, refused_taken, stays_wires, stays_refused, wires_taken}
use Rattle.wiring.proofs.Raising.{staged_places, staged_grows}
use Rattle.wiring.proofs.TakingAll.{places_then}
use Rattle.wiring.proofs.Reading.{read_still}

-- ---- what stays

pub same_places : (work : Work) → KeepsPlaces work work
same_places work = record { rows = λ a. refl; roots = λ a. refl; deaths = refl; round = refl; experts = read_still work.experts }

pub grows_here : (work : Work) → Grows work work
grows_here work points covers = omega arith

pub grows_along : (old mid new : Work) → KeepsPlaces old mid → Grows old mid → Grows mid new → Grows old new
grows_along old mid new places first next =
    grows_then old mid new (has_links_same mid old (λ a. sym (places.rows a)) (sym places.deaths)) first next

-- ---- the point is owed links

-- moves lead from where it is owed nothing to where it is owed these, and places stay
pub record IsOwed (arena : Arena) (old mid : Work) (p : Point) (links : List Point) : Type 0 where
  pub lifts : Lifts arena old mid p links
  pub places : KeepsPlaces old mid
  pub grows : (next : Work) → Grows mid next → Grows old next

-- as it is
pub owed_here : (arena : Arena) (work : Work) (p : Point) (links : List Point) → Lifts arena work work p links → IsOwed arena work work p links
owed_here arena work p links lifts = record { lifts = lifts; places = same_places work; grows = λ next g. g }

-- once it was given a stage
pub staged_owed : (arena : Arena) (old : Work) (rows : Rows Progress) (p : Point) (st : Stage) (links : List Point)
    → IsRewritten old.rows rows p (with_stage st) → Lifts arena old (record old { rows = rows }) p links
    → IsOwed arena old (record old { rows = rows }) p links
staged_owed arena old rows p st links w lifts = record {
  lifts = lifts;
  places = staged_places old rows p st w;
  grows = λ next g. staged_grows old rows p st w next g;
}

-- ---- answers

pub ends_ok : {A wires : Type 0} {refuses : Refused → Type 0} (x : A) (arena : Arena) (old new : Work) → wires → KeepsPlaces old new → IsKept arena new
    → Grows old new → EndsWired wires refuses arena old new (Ok x)
ends_ok x arena old new wires places kept grows = record { wired = wires; refused = tt; places = places; kept = kept; pushed = grows }

pub ends_refused : {A wires : Type 0} {refuses : Refused → Type 0} (r : Result A Refused) (e : Refused) (arena : Arena) (old new : Work)
    → IsErrAnd r (λ y. y ≡ e) → refuses e → KeepsPlaces old new → IsKept arena new → EndsWired wires refuses arena old new r
ends_refused (Ok x) e arena old new is h places kept = absurd is
ends_refused {refuses = refuses} (Err y) e arena old new is h places kept =
    record { wired = tt; refused = subst refuses (sym is) h; places = places; kept = kept; pushed = tt }

-- what is answered from where something was done before
ends_as : {A wires wires' : Type 0} {refuses refuses' : Refused → Type 0} (r : Result A Refused) (arena : Arena) (old mid new : Work)
    → (wires → wires') → ((e : Refused) → refuses e → refuses' e) → KeepsPlaces old mid → (Grows mid new → Grows old new)
    → EndsWired wires refuses arena mid new r → EndsWired wires' refuses' arena old new r
ends_as (Ok x) arena old mid new on off places grows a =
    record { wired = on a.wired; refused = tt; places = places_then old mid new places a.places; kept = a.kept; pushed = grows a.pushed }
ends_as (Err e) arena old mid new on off places grows a =
    record { wired = tt; refused = off e a.refused; places = places_then old mid new places a.places; kept = a.kept; pushed = tt }

-- nothing was done
pub done_answers : {A : Type 0} (x : A) (arena : Arena) (work : Work) (p : Point) → IsKept arena work → Wires arena work work (Some (hand p []))
    → WireAnswers arena work work (Some (hand p [])) (Ok x)
done_answers x arena work p kept wires = ends_ok x arena work work wires (same_places work) kept (grows_here work)

-- all that it is owed was asked for
pub owed_answers : {A : Type 0} (r : Result A Refused) (arena : Arena) (old mid new : Work) (p : Point) (links : List Point)
    → IsOwed arena old mid p links → WireAnswers arena mid new (Some (hand p links)) r → WireAnswers arena old new (Some (hand p [])) r
owed_answers r arena old mid new p links owed a =
    ends_as r arena old mid new (lifted_wires arena old mid p links owed.lifts new) (lifted_refused arena old mid p links owed.lifts new) owed.places
    (owed.grows new) a

-- ---- the one link that it is owed was

module _ (arena : Arena) (old mid : Work) (p q : Point) (owed : IsOwed arena old mid p (q ∷ [])) (due : DueAfter arena old mid p q) (con : Work) where
  -- it was refused
  pub refusal_answers : {A : Type 0} (r : Result A Refused) (e : Refused) → IsErrAnd r (λ y. y ≡ e) → ConnectAnswers arena mid con p q (Err e)
      → WireAnswers arena old con (Some (hand p [])) r
  refusal_answers r e is a = ends_refused r e arena old con is (one_refused arena old mid p q owed.lifts due con e a.refused)
      (places_then old mid con owed.places a.places) a.kept

  pub refusal_gates : (r : Result Bool Refused) (e : Refused) → IsErrAnd r (λ y. y ≡ e) → ConnectAnswers arena mid con p q (Err e)
      → GateAnswers arena old con p r
  refusal_gates r e is a = gates r (refusal_answers r e is a) is
    where
      gates : (r : Result Bool Refused) → WireAnswers arena old con (Some (hand p [])) r → IsErrAnd r (λ y. y ≡ e) → GateAnswers arena old con p r
      gates (Ok x) w is = absurd is
      gates (Err y) w is = record { passes = tt; left = tt; refused = w.refused; places = w.places; kept = w.kept; pushed = tt }

  module _ {on : Bool} (a : ConnectAnswers arena mid con p q (Ok on)) where
    pub link_places : KeepsPlaces old con
    link_places = places_then old mid con owed.places a.places

    pub link_grows : Grows old con
    link_grows = owed.grows con a.pushed

    -- the point isn't needed any more, or waits
    pub gone_wires : IsFalse on → Wires arena old con (Some (hand p []))
    gone_wires off = one_gone arena old mid p q owed.lifts due con (a.gone off).0

    pub gone_answers : {A : Type 0} (x : A) → IsFalse on → WireAnswers arena old con (Some (hand p [])) (Ok x)
    gone_answers x off = ends_ok x arena old con (gone_wires off) link_places a.kept link_grows

    pub gone_gates : (off : Bool) → owes old true p ≡ [] → IsFalse on → IsFalse off → GateAnswers arena old con p (Ok off)
    gone_gates off none f is = record {
      passes = λ t. absurd (let e = t in let g = is in cc);
      left = λ g. wires_taken arena old con p [] none (gone_wires f);
      refused = tt;
      places = link_places;
      kept = a.kept;
      pushed = link_grows;
    }

    -- the link is on: the point is in hand still
    pub link_stays : IsTrue on → StaysInHand arena old con p
    link_stays t = one_on arena old mid p q owed.lifts due con (a.linked t)

    -- and what follows is done
    pub then_answers : {A : Type 0} (x : A) → IsTrue on → (new : Work) → Wires arena con new (Some (hand p [])) → KeepsPlaces con new
        → IsKept arena new → Grows con new → WireAnswers arena old new (Some (hand p [])) (Ok x)
    then_answers x t new wires places kept grows = ends_ok x arena old new (stays_wires arena old con new p (link_stays t) wires)
        (places_then old con new link_places places) kept (grows_along old con new link_places link_grows grows)

  -- nothing is to follow
  pub link_answers : {A : Type 0} (x : A) (on : Bool) → ConnectAnswers arena mid con p q (Ok on) → (IsTrue on → Wires arena con con (Some (hand p [])))
      → WireAnswers arena old con (Some (hand p [])) (Ok x)
  link_answers x true a wires = then_answers a x refl con (wires refl) (same_places con) a.kept (grows_here con)
  link_answers x false a wires = gone_answers a x refl

-- ---- at the gate

-- nothing was done
pub gate_done : (on : Bool) (arena : Arena) (work : Work) (p : Point) → IsKept arena work → (IsTrue on → PassesGate arena work work p)
    → (IsFalse on → WiresTaken arena work work p) → GateAnswers arena work work p (Ok on)
gate_done on arena work p kept passes left = record {
  passes = passes;
  left = left;
  refused = tt;
  places = same_places work;
  kept = kept;
  pushed = grows_here work;
}

-- the gate was asked for a point that has its link alone
pub gate_asked : (on : Bool) (arena : Arena) (old mid new : Work) (p : Point) (bind : NodeId) → owes old true p ≡ [] → StaysInHand arena old mid p
    → KeepsPlaces old mid
    → Grows old mid → Needed mid.graph p → stage_in (at mid.rows p) ≡ Some code.Gated
    → ((r : Row) × (row_at arena p.node ≡ Some r) × (r.scope ≡ Some bind)) → AsksGate arena mid new p bind on → GateAnswers arena old new p (Ok on)
gate_asked on arena old mid new p bind none stays places grows need gated row a = record {
  passes = λ t. record {
    in_hand = subst (λ (x : Work). StaysInHand arena old x p) (sym (a.stays t)) stays;
    lacking = lacks_gated arena new p (ap (λ (x : Work). stage_in (at x.rows p)) (a.stays t) ∙ gated);
    ran = ran_gate arena new p bind row (a.ran t);
    needed = subst (λ (x : Work). Needed x.graph p) (sym (a.stays t)) need;
  };
  left = λ f. wires_taken arena old new p [] none (stays_wires arena old mid new p stays (a.left f));
  refused = tt;
  places = places_then old mid new places a.places;
  kept = a.kept;
  pushed = grows_along old mid new places grows a.pushed;
}

-- ---- a point that was taken from the worklist

pub taken_answers : {A : Type 0} (r : Result A Refused) (arena : Arena) (old new : Work) (p : Point) (owed : List Point) → owes old true p ≡ owed
    → WireAnswers arena old new (Some (hand p owed)) r → TakenAnswers arena old new p r
taken_answers r arena old new p owed is a = ends_as r arena old old new (wires_taken arena old new p owed is) (refused_taken arena old new p owed is)
    (same_places old) (λ g. g) a

-- its gate's link was refused
pub gate_refused : {A : Type 0} (r : Result A Refused) (e : Refused) (arena : Arena) (old new : Work) (p : Point) → owes old true p ≡ []
    → IsErrAnd r (λ y. y ≡ e) → GateAnswers arena old new p (Err e) → TakenAnswers arena old new p r
gate_refused r e arena old new p none is a =
    ends_refused r e arena old new is (refused_taken arena old new p [] none e a.refused) a.places a.kept

-- it doesn't pass
pub gate_left : {A : Type 0} (x : A) (on : Bool) (arena : Arena) (old new : Work) (p : Point) → IsFalse on → GateAnswers arena old new p (Ok on)
    → TakenAnswers arena old new p (Ok x)
gate_left x on arena old new p off a = ends_ok x arena old new (a.left off) a.places a.kept a.pushed

-- it passes, and is given its other links
pub gate_passed : {A : Type 0} (r : Result A Refused) (on : Bool) (arena : Arena) (old mid new : Work) (p : Point) → owes old true p ≡ [] → IsTrue on
    → GateAnswers arena old mid p (Ok on) → WireAnswers arena mid new (Some (hand p [])) r → TakenAnswers arena old new p r
gate_passed r on arena old mid new p none t a w =
    let stays = (a.passes t).in_hand in
    taken_answers r arena old new p [] none (ends_as r arena old mid new (stays_wires arena old mid new p stays) (stays_refused arena old mid new p stays) a.places
    (grows_along old mid new a.places a.pushed) w)
