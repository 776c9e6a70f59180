-- Each move keeps the invariant.
use Rattle.std.proofs.Common.{◌≡◌, inl, inr, Bool, true, sym, subst, ◌∙◌}
use Rattle.inc_value.specs.declared.node.Point.{Point}
use Rattle.inc_value.specs.Choice.{here, step}
use Rattle.inc_terms.specs.Term.{Functions}
use Rattle.inc_terms.specs.Depend.{main, change}
use Rattle.stabilize_round.specs.State.{State, Start, at_point}
use Rattle.stabilize_round.specs.Invariant.{Invariant}
use Rattle.stabilize_round.specs.Machine.{Move, step_main, step_change, link, link_new, root, root_new, raise, finish, schedule, cut, rebuild, level}
use Rattle.stabilize_round.specs.Machine.{spend, Moves}
use Rattle.stabilize_round.proofs.Points.{same_or_other, at_same, at_other}
use Rattle.stabilize_round.proofs.Main.{main_keeps}
use Rattle.stabilize_round.proofs.Changing.{change_keeps}
use Rattle.stabilize_round.proofs.Linking.{link_keeps, link_new_keeps, root_keeps, root_new_keeps}
use Rattle.stabilize_round.proofs.Staging.{raise_keeps, finish_keeps, schedule_keeps, level_keeps, spend_keeps}
use Rattle.stabilize_round.proofs.Sweeping.{cut_keeps}
use Rattle.stabilize_round.proofs.Rebuilding.{rebuild_keeps}

back : (F : Functions) (z : Start) (t u : State) → t ≡ u → Invariant F z u → Invariant F z t
back F z t u e inv = subst (λ (x : State). Invariant F z x) (sym e) inv

pub move_keeps : (F : Functions) (z : Start) (s t : State) → Move F z s t → Invariant F z s → Invariant F z t
move_keeps F z s t (step_main {n} {o} {heap'} {last'} {called} {calls'} quiet m e) inv = back F z t _ e
    (main_keeps F z s inv quiet n o heap' last' called calls' m)
move_keeps F z s t (step_change {n} {o} {todo'} quiet m e) inv = back F z t _ e (change_keeps F z s inv quiet n o todo' m)
move_keeps F z s t (link {p} {q} {rest} {height'} m need e) inv = back F z t _ e (link_keeps F z s inv p q rest height' m need)
move_keeps F z s t (link_new {p} {q} {rest} {height'} {heap'} m need h e) inv = back F z t _ e
    (link_new_keeps F z s inv p q rest height' m need heap' h)
move_keeps F z s t (root {p} need e) inv = back F z t _ e (root_keeps F z s inv p need)
move_keeps F z s t (root_new {p} {heap'} given need h e) inv = back F z t _ e (root_new_keeps F z s inv p need heap' h)
move_keeps F z s t (raise {p} {st} {extra} m e) inv = back F z t _ e (raise_keeps F z s inv p st extra m)
move_keeps F z s t (finish {p} m e) inv = back F z t _ e (finish_keeps F z s inv p m)
move_keeps F z s t (schedule {heap'} m e) inv = back F z t _ e (schedule_keeps F z s inv heap' m)
move_keeps F z s t (cut {p} {r} {st} {row'} {needed'} {links'} {heap'} {owed'} d w e) inv = back F z t _ e
    (cut_keeps F z s inv p r st row' d needed' links' heap' owed' w)
move_keeps F z s t (rebuild {b} {now} {m} r built count e) inv = back F z t _ e (rebuild_keeps F z s inv b now m r (inr built))
move_keeps F z s t (level {height'} m e) inv = back F z t _ e (level_keeps F z s inv height' m)
move_keeps F z s t (spend {left} u h e) inv = back F z t _ e (spend_keeps F z s inv left h)

pub moves_keep : (F : Functions) (z : Start) (s t : State) → Moves F z s t → Invariant F z s → Invariant F z t
moves_keep F z s t here inv = inv
moves_keep F z s t (step {b = u} m rest) inv = moves_keep F z u t rest (move_keeps F z s u m inv)

more : (p : Point) (settled : Point → Bool) (q : Point) → settled q ≡ true → at_point p true settled q ≡ true
more p settled q h = elim (same_or_other p q) [
  | inl e ↦ subst (λ (y : Point). at_point p true settled y ≡ true) e (at_same p true settled)
  | inr ne ↦ at_other p true settled q ne ∙ h
]

stays : (t u : State) → t ≡ u → (q : Point) → u.settled q ≡ true → t.settled q ≡ true
stays t u e q h = subst (λ (x : State). x.settled q ≡ true) (sym e) h

pub move_settled : (F : Functions) (z : Start) (s t : State) → Move F z s t → (q : Point) → s.settled q ≡ true → t.settled q ≡ true
move_settled F z s t (step_main {n} quiet m e) q h = stays t _ e q (more (main n) s.settled q h)
move_settled F z s t (step_change {n} quiet m e) q h = stays t _ e q (more (change n) s.settled q h)
move_settled F z s t (link m need e) q h = stays t _ e q h
move_settled F z s t (link_new m need k e) q h = stays t _ e q h
move_settled F z s t (root need e) q h = stays t _ e q h
move_settled F z s t (root_new given need k e) q h = stays t _ e q h
move_settled F z s t (raise m e) q h = stays t _ e q h
move_settled F z s t (finish m e) q h = stays t _ e q h
move_settled F z s t (schedule m e) q h = stays t _ e q h
move_settled F z s t (cut d w e) q h = stays t _ e q h
move_settled F z s t (rebuild m made count e) q h = stays t _ e q h
move_settled F z s t (level m e) q h = stays t _ e q h
move_settled F z s t (spend u k e) q h = stays t _ e q h

pub moves_settled : (F : Functions) (z : Start) (s t : State) → Moves F z s t → (q : Point) → s.settled q ≡ true → t.settled q ≡ true
moves_settled F z s t here q h = h
moves_settled F z s t (step {b = u} m rest) q h = moves_settled F z u t rest q (move_settled F z s u m q h)
