-- What a round speaks of stays given.
use Rattle.std.proofs.Common.{◌≡◌, inl, inr, ℕ, ◌<◌, ◌≤◌, Bool, true, false, List, Option, None, refl, sym, subst, ◌∙◌, arith}
use Rattle.inc_value.specs.declared.function.FnRef.{FnRef}
use Rattle.inc_value.specs.declared.node.NodeId.{NodeId}
use Rattle.inc_value.specs.declared.node.Point.{Point}
use Rattle.inc_value.specs.Choice.{here, step}
use Rattle.inc_terms.specs.Term.{Functions}
use Rattle.inc_terms.specs.Within.{Given, Fit}
use Rattle.inc_terms.proofs.Within.{functions_within}
use Rattle.inc_terms.proofs.Meeting.{depends_given}
use Rattle.stabilize_round.specs.State.{State, Start, Call, at_point, at_node}
use Rattle.stabilize_round.specs.Ids.{IsStartOf, AllGiven}
use Rattle.stabilize_round.specs.Rebuilding.{Remade, remade, Rebuild}
use Rattle.stabilize_round.specs.Wire.{Link}
use Rattle.stabilize_round.specs.Machine.{Move, step_main, step_change, link, link_new, root, root_new, raise, finish, schedule, cut, rebuild, level}
use Rattle.stabilize_round.specs.Machine.{spend, Moves, Stops, as_it_is, unbuilt, unkept}
use Rattle.stabilize_round.specs.Stopped.{GivenStays, StartStays}
use Rattle.stabilize_round.proofs.Points.{same_or_other, at_other, node_other}
use Rattle.stabilize_round.proofs.Staying.{moves_give}

pub later_start : (known : FnRef → Bool) (ids : FnRef → List NodeId) (count later : ℕ) (z : Start) → count ≤ later → IsStartOf known ids count z
    → IsStartOf known ids later z
later_start known ids count later z le start = record {
  knows = start.knows;
  names = start.names;
  held = λ p h. let g = start.held p h in omega arith;
  last = λ n new. start.last n (omega arith);
  cutoff = λ n new. start.cutoff n (omega arith);
  stale = λ n new. start.stale n (omega arith);
}

later_point : (count later : ℕ) (p : Point) → count ≤ later → Given count p.node → Given later p.node
later_point count later p le g = omega arith

module _ (F : Functions) (z : Start) (s : State) (g : AllGiven F z s) where
  at : (t u : State) → t ≡ u → AllGiven F z u → AllGiven F z t
  at t u e h = subst (λ (x : State). AllGiven F z x) (sym e) h

  -- a point that is newly needed was given
  newly_given : (q : Point) → Given s.given q.node → (a : Point) → at_point q true s.needed a ≡ true → Given s.given a.node
  newly_given q given a h = elim (same_or_other q a) [
    | inl e ↦ subst (λ (y : Point). Given s.given y.node) e given
    | inr ne ↦ g.needed a (sym (at_other q true s.needed a ne) ∙ h)
  ]

  rooted_given : (p : Point) → Given s.given p.node → (k : ℕ) (a : Point) → 0 < at_point p k s.root a → Given s.given a.node
  rooted_given p given k a h = elim (same_or_other p a) [
    | inl e ↦ subst (λ (y : Point). Given s.given y.node) e given
    | inr ne ↦ g.rooted a (let x = at_other p k s.root a ne in omega arith)
  ]

  -- a node whose main was computed was given
  last_given : (n : NodeId) → Given s.given n → (c : Option Call) → (m : NodeId) → s.given ≤ m.gen_ → at_node n c s.last m ≡ None
  last_given n given c m new =
      node_other n c s.last m (λ e. let x : Given s.given m = subst (λ (y : NodeId). Given s.given y) e given in absurd (omega arith)) ∙ g.last m new

  mark_given : (n : NodeId) → Given s.given n → (m : NodeId) → s.given ≤ m.gen_ → at_node n false s.stale m ≡ false
  mark_given n given m new =
      node_other n false s.stale m (λ e. let x : Given s.given m = subst (λ (y : NodeId). Given s.given y) e given in absurd (omega arith))
      ∙ g.stale m new

  target : (p q : Point) (rest : List Point) (height' : Point → ℕ) → Link F s p q rest height' → Given s.given q.node
  target p q rest height' m =
      depends_given F (Given s.given) (Fit s.given z.known z.ids) (functions_within F z.known z.ids (Given s.given) g.laws) s.graph g.names s.died
      g.keeps p q (g.needed p m.need) m.depends

  pub remade_given : (b : NodeId) (now : _) (made : Remade) → Rebuild F z s b now made → AllGiven F z (remade s made)
  remade_given b now made move =
      let more = move.nodes.given in
      let le : s.given ≤ made.given = omega arith in
      record {
        laws = g.laws;
        names = move.nodes.names;
        keeps = move.nodes.keeps;
        needed = λ p h. later_point s.given made.given p le (g.needed p h);
        rooted = λ p h. later_point s.given made.given p le (g.rooted p h);
        last = λ n new. move.beside.new_last n (omega arith);
        cutoff = λ n new. g.cutoff n (omega arith);
        stale = λ n new. g.stale n (omega arith);
        start = later_start z.known z.ids s.given made.given z le g.start;
      }

  same : (t u : State) → t ≡ u → u.graph ≡ s.graph → u.given ≡ s.given → u.died ≡ s.died → u.cutoff ≡ s.cutoff
      → ((n : NodeId) → s.given ≤ n.gen_ → u.stale n ≡ false)
      → ((n : NodeId) → s.given ≤ n.gen_ → u.last n ≡ None)
      → ((p : Point) → u.needed p ≡ true → Given s.given p.node) → ((p : Point) → 0 < u.root p → Given s.given p.node) → AllGiven F z t
  same t u e graph given died cutoff marks lasts need roots = at t u e (rw (graph, given, died, cutoff) (record {
    laws = g.laws;
    names = g.names;
    keeps = g.keeps;
    needed = need;
    rooted = roots;
    last = lasts;
    cutoff = g.cutoff;
    stale = marks;
    start = g.start;
  }))

  pub move_given : (t : State) → Move F z s t → AllGiven F z t
  move_given t (step_main {n} {last'} quiet m e) = same t _ e refl refl refl refl (mark_given n (g.names.live n m.row m.is_row)) (last_given n (g.names.live n m.row m.is_row) last') g.needed g.rooted
  move_given t (step_change quiet m e) = same t _ e refl refl refl refl g.stale g.last g.needed g.rooted
  move_given t (link m need e) = same t _ e refl refl refl refl g.stale g.last g.needed g.rooted
  move_given t (link_new {p} {q} {rest} {height'} m need h e) = same t _ e refl refl refl refl g.stale g.last (newly_given q (target p q rest height' m)) g.rooted
  move_given t (root {p} need e) = same t _ e refl refl refl refl g.stale g.last g.needed (rooted_given p (g.needed p need) _)
  move_given t (root_new {p} given need h e) = same t _ e refl refl refl refl g.stale g.last (newly_given p given) (rooted_given p given _)
  move_given t (raise m e) = same t _ e refl refl refl refl g.stale g.last g.needed g.rooted
  move_given t (finish m e) = same t _ e refl refl refl refl g.stale g.last g.needed g.rooted
  move_given t (schedule m e) = same t _ e refl refl refl refl g.stale g.last g.needed g.rooted
  move_given t (cut d w e) = same t _ e refl refl refl refl g.stale g.last (λ p h. g.needed p (w.was p h)) g.rooted
  move_given t (rebuild {b} {now} {m} r made count e) = at t _ e (remade_given b now m r)
  move_given t (level m e) = same t _ e refl refl refl refl g.stale g.last g.needed g.rooted
  move_given t (spend u k e) = same t _ e refl refl refl refl g.stale g.last g.needed g.rooted

  stop_given : (t : State) → Stops F z s t → AllGiven F z t
  stop_given t (as_it_is e) = at t s e g
  stop_given t (unbuilt {b} {now} {m} r none empty count e) = at t _ e (remade_given b now m r)
  stop_given t (unkept quiet taken row due count e) = same t _ e refl refl refl refl g.stale g.last g.needed g.rooted

pub moves_given : (F : Functions) (z : Start) (s t : State) → AllGiven F z s → Moves F z s t → AllGiven F z t
moves_given F z s t g here = g
moves_given F z s t g (step {b = u} m rest) = moves_given F z u t (move_given F z s g u m) rest

pub given_stays : GivenStays
given_stays F z s t g = ((λ run. moves_given F z s t g run), (λ stop. stop_given F z s g t stop))

stop_grows : (F : Functions) (z : Start) (s t : State) → Stops F z s t → s.given ≤ t.given
stop_grows F z s t (as_it_is e) = rw e (omega arith)
stop_grows F z s t (unbuilt r none empty count e) = rw e (let k = r.nodes.given in omega arith)
stop_grows F z s t (unkept quiet taken row due count e) = rw e (omega arith)

pub start_stays : StartStays
start_stays F z s t known ids start = (
  (λ run. later_start known ids s.given t.given z (moves_give F z s t run).0 start),
  (λ stop. later_start known ids s.given t.given z (stop_grows F z s t stop) start),
)
