-- Points that get their links, or lose them, settle none.
use Rattle.std.proofs.Common.{◌≡◌, ◌∙◌, refl, sym, subst}
use Rattle.inc_value.specs.Choice.{Reaches, here, step}
use Rattle.inc_terms.specs.Term.{Functions}
use Rattle.stabilize_round.specs.State.{State, Start}
use Rattle.stabilize_round.specs.Machine.{Move, link, link_new, raise, finish, schedule, cut, level, spend}
use Rattle.stabilize_round.specs.Steps.{Wires, TakesOff, Spends, Wiring, TakingOff, Wired, plainly, after_refusal}
use Rattle.wiring.specs.Wiring.{SettlesNone}

pub as_before : (s u t : State) → t ≡ u → SettlesNone s u → SettlesNone s t
as_before s u t e h = subst (λ (x : State). SettlesNone s x) (sym e) h

wires_none : (F : Functions) (z : Start) (s t : State) (m : Move F z s t) → Wires m → SettlesNone s t
wires_none F z s t (link m need e) h = as_before s _ t e (λ q. refl)
wires_none F z s t (link_new m need k e) h = as_before s _ t e (λ q. refl)
wires_none F z s t (raise m e) h = as_before s _ t e (λ q. refl)
wires_none F z s t (finish m e) h = as_before s _ t e (λ q. refl)
wires_none F z s t (schedule m e) h = as_before s _ t e (λ q. refl)
wires_none F z s t (level m e) h = as_before s _ t e (λ q. refl)
wires_none F z s t m h = absurd h

takes_off_none : (F : Functions) (z : Start) (s t : State) (m : Move F z s t) → TakesOff m → SettlesNone s t
takes_off_none F z s t (schedule m e) h = as_before s _ t e (λ q. refl)
takes_off_none F z s t (cut d w e) h = as_before s _ t e (λ q. refl)
takes_off_none F z s t m h = absurd h

spends_none : (F : Functions) (z : Start) (s t : State) (m : Move F z s t) → Spends m → SettlesNone s t
spends_none F z s t (spend u k e) h = as_before s _ t e (λ q. refl)
spends_none F z s t m h = absurd h

pub all_wire : (F : Functions) (z : Start) (s t : State) → Reaches (Wiring F z) s t → SettlesNone s t
all_wire F z s t here q = refl
all_wire F z s t (step {b = u} m rest) q = all_wire F z u t rest q ∙ wires_none F z s u m.0 m.1 q

all_take_off : (F : Functions) (z : Start) (s t : State) → Reaches (TakingOff F z) s t → SettlesNone s t
all_take_off F z s t here q = refl
all_take_off F z s t (step {b = u} m rest) q = all_take_off F z u t rest q ∙ takes_off_none F z s u m.0 m.1 q

pub wired_none : (F : Functions) (z : Start) (s t : State) → Wired F z s t → SettlesNone s t
wired_none F z s t (plainly run) q = all_wire F z s t run q
wired_none F z s t (after_refusal {u} {v} {w} run off m spends rest) q =
    wired_none F z w t rest q ∙ spends_none F z v w m spends q ∙ all_take_off F z u v off q ∙ all_wire F z s u run q
