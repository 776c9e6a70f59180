-- A point in hand is owed links and gets them: how moves join.
use Rattle.std.proofs.Common.{◌≡◌, inl, inr, Bool, true, List, [], ◌∷◌, Some, refl, sym, ap, subst, ◌∙◌}
use Rattle.inc_value.specs.declared.node.NodeId.{NodeId}
use Rattle.inc_value.specs.declared.node.Part.TheVariants.{Main}
use Rattle.inc_value.specs.declared.node.Point.{Point}
use Rattle.inc_value.specs.Choice.{here, step, Among, Reaches}
use Rattle.inc_terms.specs.Depend.{change, fixed_reads}
use Rattle.inc_terms.specs.Graph.{Row}
use Rattle.inc_terms.specs.Plan.{targets}
use Rattle.inc_terms.specs.Term.{Functions}
use Rattle.point_map.specs.Rows.{Rows, at}
use Rattle.node_arena.specs.Arena.{Arena, row_at}
use Rattle.stabilize_round.specs.Invariant.{Invariant}
use Rattle.stabilize_round.specs.State.{State, Start}
use Rattle.stabilize_round.specs.Steps.{Wiring, plainly}
use Rattle.stabilize_round.specs.Machine as move
use Rattle.stabilize_round.specs.Wire.{raised, Raise, Finish}
use Rattle.stabilize_round.proofs.Confirmed.{fixed_confirmed}
use Rattle.stabilize_round.proofs.Machine.{moves_keep}
use Rattle.stabilize_round.proofs.Points.{at_same}
use Rattle.stabilize_round.proofs.Steps.{wiring_moves, wired_moves}
use Rattle.node_outcomes.specs.Row.{IsRewritten, with_stage, stage_in, stage_of}
use Rattle.node_outcomes.specs.Progress.{Progress}
use Rattle.node_outcomes.specs.declared.row.Stage.{Stage}
use Rattle.node_outcomes.specs.declared.row.Stage.TheVariants as code
use Rattle.wiring.specs.Stands.{MatchesState, hand, debts, owes, Counts}
use Rattle.wiring.specs.Wiring.{IsDue, Connects, LosesNeed, ConnectRefused, Wires, WiresTaken, WireRefused, StaysInHand, GateRan, AreUnlinked}
use Rattle.wiring.specs.declared.refused.Refused.{Refused}
use Rattle.wiring.specs.declared.work.Work.{Work}
use Rattle.wiring.proofs.Raising.{wired_before, wired_then, wired_settled, up_stands, leaves_hand, one_row}
use Rattle.wiring.proofs.Staying.{stage_is, row_of_state}
use Rattle.wiring.proofs.Owing.{owes_whoever}
use Rattle.wiring.proofs.Unlinked.{held_unlinked, raised_unlinked}

-- moves lead from where the point in hand is owed nothing to where it is owed these links
abbrev pub Lifts : Arena → Work → Work → Point → List Point → Type 0
Lifts arena old mid p links =
    (F : Functions) (z : Start) (s : State) (counts : Counts) → Invariant F z s → MatchesState arena old counts (Some (hand p [])) s
    → AreUnlinked (Some (hand p [])) s
    → (t : State) × Reaches (Wiring F z) s t × MatchesState arena mid counts (Some (hand p links)) t × AreUnlinked (Some (hand p [])) t

-- where it is owed one link, that may be put on
abbrev pub DueAfter : Arena → Work → Work → Point → Point → Type 0
DueAfter arena old mid p q =
    (F : Functions) (z : Start) (s t : State) (counts : Counts) → MatchesState arena old counts (Some (hand p [])) s → t.settled ≡ s.settled → Invariant F z t
    → MatchesState arena mid counts (Some (hand p (q ∷ []))) t → AreUnlinked (Some (hand p [])) t → IsDue F z t arena mid counts p q []

-- so it is once the point has another stage
pub staged_lifts : (arena : Arena) (old : Work) (rows : Rows Progress) (p : Point) (st : Stage) (links : List Point)
    → IsRewritten old.rows rows p (with_stage st)
    → ((F : Functions) (z : Start) (s : State) (counts : Counts) → Invariant F z s → MatchesState arena old counts (Some (hand p [])) s
    → Raise s p (stage_of st) links) → Lifts arena old (record old { rows = rows }) p links
staged_lifts arena old rows p st links w raises F z s counts inv on unlinked = (
  raised s p (stage_of st) links,
  step (move.raise (raises F z s counts inv on) refl, tt) here,
  up_stands old rows p st w s arena counts links on,
  raised_unlinked s p (stage_of st) links unlinked,
)

-- then it gets them
module _ (arena : Arena) (old mid : Work) (p : Point) (links : List Point) (lifts : Lifts arena old mid p links) (new : Work) where
  pub lifted_wires : Wires arena mid new (Some (hand p links)) → Wires arena old new (Some (hand p []))
  lifted_wires wires F z s counts inv on unlinked =
      let a = lifts F z s counts inv on unlinked in
      let b = wires F z a.0 counts (moves_keep F z s a.0 (wiring_moves F z s a.0 a.1) inv) a.2 a.3 in
      (b.0, wired_before F z s a.0 b.0 a.1 b.1, b.2, b.3)

  pub lifted_refused : (e : Refused) → WireRefused arena mid new (Some (hand p links)) e → WireRefused arena old new (Some (hand p [])) e
  lifted_refused e refused F z s counts inv on unlinked =
      let a = lifts F z s counts inv on unlinked in
      let b = refused F z a.0 counts (moves_keep F z s a.0 (wiring_moves F z s a.0 a.1) inv) a.2 a.3 in
      (b.0, b.1, wired_before F z s a.0 b.0 a.1 b.2, b.3, b.4)

-- or the one that it is owed
module _ (arena : Arena) (old mid : Work) (p q : Point) (lifts : Lifts arena old mid p (q ∷ [])) (due : DueAfter arena old mid p q) (new : Work) where
  one_due : (F : Functions) (z : Start) (s : State) (counts : Counts) → Invariant F z s → MatchesState arena old counts (Some (hand p [])) s
      → AreUnlinked (Some (hand p [])) s → (t : State) × Reaches (Wiring F z) s t × IsDue F z t arena mid counts p q []
  one_due F z s counts inv on unlinked =
      let a = lifts F z s counts inv on unlinked in
      (a.0, a.1, due F z s a.0 counts on (wired_settled F z s a.0 (plainly a.1)) (moves_keep F z s a.0 (wiring_moves F z s a.0 a.1) inv) a.2 a.3)

  pub one_on : Connects arena mid new p q → StaysInHand arena old new p
  one_on connects F z s counts inv on unlinked =
      let a = one_due F z s counts inv on unlinked in
      let b = connects F z a.0 counts [] a.2 in
      (b.0, wired_before F z s a.0 b.0 a.1 b.1, b.2, b.3)

  pub one_gone : LosesNeed arena mid new p q → Wires arena old new (Some (hand p []))
  one_gone gone F z s counts inv on unlinked =
      let a = one_due F z s counts inv on unlinked in
      let b = gone F z a.0 counts [] a.2 in
      (b.0, wired_before F z s a.0 b.0 a.1 b.1, b.2, b.3)

  pub one_refused : (e : Refused) → ConnectRefused arena mid new p q e → WireRefused arena old new (Some (hand p [])) e
  one_refused e refused F z s counts inv on unlinked =
      let a = one_due F z s counts inv on unlinked in
      let b = refused F z a.0 counts [] a.2 in
      (b.0, Some (hand p (q ∷ [])), wired_before F z s a.0 b.0 a.1 b.1, b.2, b.3)

-- ---- what follows while it is in hand

pub stays_here : (arena : Arena) (work : Work) (p : Point) → StaysInHand arena work work p
stays_here arena work p F z s counts inv on unlinked = (s, plainly here, on, unlinked)

module _ (arena : Arena) (old mid new : Work) (p : Point) (stays : StaysInHand arena old mid p) where
  pub stays_wires : Wires arena mid new (Some (hand p [])) → Wires arena old new (Some (hand p []))
  stays_wires wires F z s counts inv on unlinked =
      let a = stays F z s counts inv on unlinked in
      let b = wires F z a.0 counts (moves_keep F z s a.0 (wired_moves F z s a.0 a.1) inv) a.2 a.3 in
      (b.0, wired_then F z s a.0 b.0 a.1 b.1, b.2, b.3)

  pub stays_refused : (e : Refused) → WireRefused arena mid new (Some (hand p [])) e → WireRefused arena old new (Some (hand p [])) e
  stays_refused e refused F z s counts inv on unlinked =
      let a = stays F z s counts inv on unlinked in
      let b = refused F z a.0 counts (moves_keep F z s a.0 (wired_moves F z s a.0 a.1) inv) a.2 a.3 in
      (b.0, b.1, wired_then F z s a.0 b.0 a.1 b.2, b.3, b.4)

-- whatever links a point has that was taken from the worklist, with what it is owed
pub wires_taken : (arena : Arena) (old new : Work) (p : Point) (owed : List Point) → owes old true p ≡ owed → Wires arena old new (Some (hand p owed))
    → WiresTaken arena old new p
wires_taken arena old new p owed is wires F z s counts inv on unlinked =
    wires F z s counts inv (subst (λ (xs : List Point). MatchesState arena old counts (Some (hand p xs)) s) is on) (held_unlinked s p unlinked)

pub refused_taken : (arena : Arena) (old new : Work) (p : Point) (owed : List Point) → owes old true p ≡ owed → (e : Refused)
    → WireRefused arena old new (Some (hand p owed)) e → WireRefused arena old new (Some (hand p (owes old true p))) e
refused_taken arena old new p owed is e refused = subst (λ (xs : List Point). WireRefused arena old new (Some (hand p xs)) e) (sym is) refused

-- ---- it leaves the worklist

pub done_wires : (arena : Arena) (work : Work) (p : Point) → owes work true p ≡ []
    → ((F : Functions) (z : Start) (s : State) (counts : Counts) → Invariant F z s → MatchesState arena work counts (Some (hand p [])) s → Finish s p)
    → Wires arena work work (Some (hand p []))
done_wires arena work p none finishes F z s counts inv on unlinked =
    let a = leaves_hand F z s arena work counts p on unlinked (owes_whoever work (s.needed p) p none) (finishes F z s counts inv on) in
    (a.0, plainly a.1, a.2, a.3)

-- with all its links
pub full_finishes : (s : State) (arena : Arena) (work : Work) (counts : Counts) (p : Point) → MatchesState arena work counts (Some (hand p [])) s
    → stage_in (at work.rows p) ≡ Some code.Full → Finish s p
full_finishes s arena work counts p on full =
    let is_full = stage_is on p code.Full full in
    record {
      owed = on.owed p ∙ at_same p [] (debts work s.needed);
      bare = λ x e. let y = is_full in cc;
      gated = λ r e x g. absurd (let y = is_full in cc);
      static = λ r e x g. absurd (let y = is_full in cc);
    }

pub full_wires : (arena : Arena) (work : Work) (p : Point) → owes work true p ≡ [] → stage_in (at work.rows p) ≡ Some code.Full
    → Wires arena work work (Some (hand p []))
full_wires arena work p none full = done_wires arena work p none (λ F z s counts inv on. full_finishes s arena work counts p on full)

-- ---- a link that is read whatever is given

-- where the gate ran such a link may be put on
pub fixed_due : (F : Functions) (z : Start) (s : State) (arena : Arena) (work : Work) (counts : Counts) (p q : Point) (rest : List Point) (r : Row)
    → row_at arena p.node ≡ Some r → Among q (fixed_reads s.graph p.node r.def p.part)
    → ((b : NodeId) → r.scope ≡ Some b → s.settled (change b) ≡ true)
    → (p.part ≡ Main → Among q (targets s.graph p.node r.def (s.out (change p.node))) → ⊥) → Invariant F z s
    → MatchesState arena work counts (Some (hand p (q ∷ rest))) s → AreUnlinked (Some (hand p [])) s → IsDue F z s arena work counts p q rest
fixed_due F z s arena work counts p q rest r row among gates never inv on unlinked = record {
  holds = inv;
  stands = on;
  depends = fixed_confirmed F z s inv p q r (row_of_state on p.node ∙ row) gates among;
  confirmed = record {
    gate = λ r' b e scope. inr (inl (gates b (scope_of (one_row arena p.node r r' row (from_state r' e)) scope)));
    right = λ r' e main among'. absurd (never main (subst (λ (x : Row). Among q (targets s.graph p.node x.def (s.out (change p.node))))
        (one_row arena p.node r r' row (from_state r' e)) among'));
  };
  gate = λ r' b e scope owed more. sym (on.settled (change b)) ∙ gates b (scope_of (one_row arena p.node r r' row e) scope);
  unlinked = unlinked;
}
  where
    from_state : (r' : Row) → s.graph.row p.node ≡ Some r' → row_at arena p.node ≡ Some r'
    from_state r' e = sym (row_of_state on p.node) ∙ e

    scope_of : {r' : Row} {b : NodeId} → r' ≡ r → r'.scope ≡ Some b → r.scope ≡ Some b
    scope_of same scope = sym (ap (λ (x : Row). x.scope) same) ∙ scope

-- a gate that ran before the point was given links is settled still
pub gates_after : (s t : State) (arena : Arena) (old : Work) (counts : Counts) (p : Point) (owed : List Point) (r : Row) → row_at arena p.node ≡ Some r
    → GateRan arena old p → MatchesState arena old counts (Some (hand p owed)) s → t.settled ≡ s.settled
    → (b : NodeId) → r.scope ≡ Some b → t.settled (change b) ≡ true
gates_after s t arena old counts p owed r row ran on same b scope =
    ap (λ (f : Point → Bool). f (change b)) same ∙ (on.settled (change b) ∙ ran r b row scope)
