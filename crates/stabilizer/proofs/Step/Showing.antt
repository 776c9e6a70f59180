-- What a round settles, and what a node that wasn't settled shows.
use Rattle.std.proofs.Common.{◌≡◌, ◌∙◌, ◌⊎◌, inl, inr, Bool, true, false, Some, Option, refl, sym, ap, subst, arith}
use Rattle.inc_value.specs.declared.node.NodeId.{NodeId}
use Rattle.inc_value.specs.declared.node.Point.{Point}
use Rattle.inc_value.specs.declared.outcome.Outcome.{Outcome}
use Rattle.inc_value.specs.Choice.{Reaches, here, step}
use Rattle.inc_terms.specs.Depend.{main, change}
use Rattle.inc_terms.specs.Graph.{Row}
use Rattle.inc_terms.specs.Term.{Functions}
use Rattle.inc_terms.specs.Within.{Given}
use Rattle.stabilize_round.specs.State.{State, Start, at_point}
use Rattle.stabilize_round.specs.Machine.{Move, step_main, step_change, link, link_new, root, root_new, raise, finish, schedule, cut, rebuild, level}
use Rattle.stabilize_round.specs.Machine.{spend, Moves}
use Rattle.stabilize_round.specs.Steps.{Prepares, Settles, Preparing, Step}
use Rattle.stabilize_round.proofs.Machine.{moves_settled}
use Rattle.stabilize_round.proofs.Points.{same_or_other, at_same, at_other}
use Rattle.stabilize_round.proofs.Staying.{move_given, moves_rest}
use Rattle.wiring.specs.Wiring.{SettlesNone}
use Rattle.wiring.proofs.Unsettling.{as_before, wired_none}

apart : (n m : NodeId) → change m ≡ main n → ⊥
apart n m e = (let f = ap (λ (p : Point). p.part) e in cc)

-- a main that isn't the one that is settled
not_it : (n m : NodeId) (o : Outcome) (out : Point → Option Outcome) (settled : Point → Bool) → at_point (main m) true settled (main n) ≡ false
    → at_point (main m) (Some o) out (main n) ≡ out (main n)
not_it n m o out settled h = elim (same_or_other (main m) (main n)) [
  | inl same ↦ absurd (let e = sym (subst (λ (y : Point). at_point (main m) true settled y ≡ true) same (at_same (main m) true settled)) ∙ h in cc)
  | inr other ↦ at_other (main m) (Some o) out (main n) other
]

-- of one move, told of the state that it leads to
abbrev ShowStill : State → State → NodeId → Type 0
ShowStill s t n = (r : Row) → t.graph.row n ≡ Some r → Given s.given n → t.settled (main n) ≡ false → t.out (main n) ≡ s.out (main n)

told : (s u t : State) (n : NodeId) → t ≡ u → ShowStill s u n → ShowStill s t n
told s u t n e h = subst (λ (x : State). ShowStill s x n) (sym e) h

one : (F : Functions) (z : Start) (s t : State) (n : NodeId) → Move F z s t → ShowStill s t n
one F z s t n (step_main {n = m} {o} quiet k e) = told s _ t n e (λ r is given h. not_it n m o s.out s.settled h)
one F z s t n (step_change {n = m} {o} quiet k e) = told s _ t n e (λ r is given h. at_other (change m) (Some o) s.out (main n) (apart n m))
one F z s t n (link m need e) = told s _ t n e (λ r is given h. refl)
one F z s t n (link_new m need k e) = told s _ t n e (λ r is given h. refl)
one F z s t n (root need e) = told s _ t n e (λ r is given h. refl)
one F z s t n (root_new given need k e) = told s _ t n e (λ r is known h. refl)
one F z s t n (raise m e) = told s _ t n e (λ r is given h. refl)
one F z s t n (finish m e) = told s _ t n e (λ r is given h. refl)
one F z s t n (schedule m e) = told s _ t n e (λ r is given h. refl)
one F z s t n (cut d w e) = told s _ t n e (λ r is given h. refl)
one F z s t n (rebuild {b} m built count e) = told s _ t n e (λ r is given h. m.beside.out (main n) r is given (apart n b))
one F z s t n (level m e) = told s _ t n e (λ r is given h. refl)
one F z s t n (spend u k e) = told s _ t n e (λ r is given h. refl)

-- what isn't settled later wasn't before
earlier : (F : Functions) (z : Start) (u t : State) (p : Point) → Moves F z u t → t.settled p ≡ false → (b : Bool) → u.settled p ≡ b → u.settled p ≡ false
earlier F z u t p rest h true is = absurd (let e = moves_settled F z u t rest p is in cc)
earlier F z u t p rest h false is = is

-- who lives later lived before
lived : (F : Functions) (z : Start) (u t : State) (n : NodeId) (r : Row) → Moves F z u t → Given u.given n → t.graph.row n ≡ Some r → u.graph.row n ≡ Some r
lived F z u t n r rest given is = elim ((moves_rest F z u t rest).rows n given) [
  | inl same ↦ sym same ∙ is
  | inr dead ↦ absurd (let e = sym dead ∙ is in cc)
]

-- a main that wasn't settled since, of a node that was given and lives, shows what it showed
pub unsettled_show_still : (F : Functions) (z : Start) (s t : State) → Moves F z s t → (n : NodeId) (r : Row) → t.graph.row n ≡ Some r → Given s.given n
    → t.settled (main n) ≡ false → t.out (main n) ≡ s.out (main n)
unsettled_show_still F z s t here n r is given h = refl
unsettled_show_still F z s t (step {b = u} m rest) n r is given h =
    let more = move_given F z s u m in
    let later : Given u.given n = omega (arith, given, more) in
    unsettled_show_still F z u t rest n r is later h
    ∙ one F z s u n m r (lived F z u t n r rest later is) given (earlier F z u t (main n) rest h (u.settled (main n)) refl)

-- ---- what a step settles

prepares_none : (F : Functions) (z : Start) (s t : State) (p : Point) (m : Move F z s t) → Prepares p m → SettlesNone s t
prepares_none F z s t p (schedule m e) h = as_before s _ t e (λ q. refl)
prepares_none F z s t p (cut d w e) h = as_before s _ t e (λ q. refl)
prepares_none F z s t p (rebuild r made count e) h = as_before s _ t e (λ q. refl)
prepares_none F z s t p m h = absurd h

all_prepare : (F : Functions) (z : Start) (p : Point) (s t : State) → Reaches (Preparing F z p) s t → SettlesNone s t
all_prepare F z p s t here q = refl
all_prepare F z p s t (step {b = u} m rest) q = all_prepare F z p u t rest q ∙ prepares_none F z s u p m.0 m.1 q

-- a point that is settled where another is, was settled or is it
at_most : (p q : Point) (settled : Point → Bool) → at_point p true settled q ≡ true → (settled q ≡ true) ⊎ (q ≡ p)
at_most p q settled h = elim (same_or_other p q) [
  | inl same ↦ inr (sym same)
  | inr other ↦ inl (sym (at_other p true settled q other) ∙ h)
]

settles_one : (F : Functions) (z : Start) (s t : State) (p : Point) (m : Move F z s t) → Settles p m → (q : Point) → t.settled q ≡ true
    → (s.settled q ≡ true) ⊎ (q ≡ p)
settles_one F z s t p (step_main {n} quiet m e) is q h =
    elim (at_most (main n) q s.settled (subst (λ (x : State). x.settled q ≡ true) e h)) [ inl was ↦ inl was | inr same ↦ inr (same ∙ sym is) ]
settles_one F z s t p (step_change {n} quiet m e) is q h =
    elim (at_most (change n) q s.settled (subst (λ (x : State). x.settled q ≡ true) e h)) [ inl was ↦ inl was | inr same ↦ inr (same ∙ sym is) ]
settles_one F z s t p m is q h = absurd is

-- a step settles the point that it takes, and no other
pub step_settles : (F : Functions) (z : Start) (s t : State) (k : Step F z s t) → (q : Point) → t.settled q ≡ true → (s.settled q ≡ true) ⊎ (q ≡ k.point)
step_settles F z s t k q h =
    elim (settles_one F z k.ready k.next k.point k.settles k.it q (sym (wired_none F z k.next t k.wired q) ∙ h)) [
      | inl was ↦ inl (sym (all_prepare F z k.point s k.ready k.prepared q) ∙ was)
      | inr same ↦ inr same
    ]
