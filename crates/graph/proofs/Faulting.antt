-- Faults of the crates below, told apart.
use Rattle.std.proofs.Common.{◌≡◌, Ok, Err, refl, sym, ap, subst, ◌∙◌}
use Rattle.std.specs.Prelude.{Result, OnOk, IsErrOf, ◌↔◌}
use Rattle.graph.specs.Fault.{of_set}
use Rattle.graph.specs.declared.fault.GraphFault.{GraphFault}
use Rattle.graph.specs.declared.fault.GraphFault.TheVariants as fault
use Rattle.node_arena.specs.declared.arena.variable.SetFault.{SetFault}
use Rattle.node_arena.specs.declared.arena.variable.SetFault.TheVariants as set

pub same_err : {T E : Type 0} {a b : E} → ◌≡◌ {A = Result T E} (Err a) (Err b) → a ≡ b
same_err e = cc

pub set_unknown : (e : SetFault) → of_set e ≡ fault.Unknown → e ≡ set.Unknown
set_unknown set.Unknown h = refl
set_unknown set.NotVar h = absurd cc
set_unknown set.WrongType h = absurd cc

pub set_not_var : (e : SetFault) → of_set e ≡ fault.NotVar → e ≡ set.NotVar
set_not_var set.Unknown h = absurd cc
set_not_var set.NotVar h = refl
set_not_var set.WrongType h = absurd cc

pub set_wrong_type : (e : SetFault) → of_set e ≡ fault.WrongType → e ≡ set.WrongType
set_wrong_type set.Unknown h = absurd cc
set_wrong_type set.NotVar h = absurd cc
set_wrong_type set.WrongType h = refl

-- an answer of the nodes, as a graph gives it
abbrev pub Passes : {T : Type 0} → Result T SetFault → Result T GraphFault → Type 0
Passes (Ok u) q = q ≡ Ok u
Passes (Err e) q = q ≡ Err (of_set e)

pub passed : {T P U : Type 0} (r : Result T SetFault) (q : Result T GraphFault) (s : SetFault) (f : GraphFault) → Passes r q
    → ((e : SetFault) → of_set e ≡ f → e ≡ s) → of_set s ≡ f → (r ≡ Err s) ↔ P → U → (q ≡ Err f) ↔ (U × P)
passed (Ok u) q s f m only is both unbroken = ((λ h. absurd (let x = sym m ∙ h in cc)), (λ k. absurd (let x = both.1 k.1 in cc)))
passed (Err e) q s f m only is both unbroken = (
  (λ h. (unbroken, both.0 (ap Err (only e (same_err (sym m ∙ h)))))),
  (λ k. m ∙ ap Err (ap of_set (same_err (both.1 k.1)) ∙ is)),
)

-- where it is set, and asked in that order, it can't be told not to be a variable
pub set_variable : {T A B V : Type 0} (S : Type 0) (r : Result T SetFault) → IsErrOf r set.Unknown ↔ ¬ (A × B) → IsErrOf r set.NotVar ↔ (A × B × ¬ V)
    → OnOk r S → OnOk r (S × ((V → ⊥) → ⊥))
set_variable S (Ok u) unknown not_var s = (
  s,
  (λ isnt.
      absurd (let e = unknown.1 (λ given. absurd (let x = not_var.1 (given.0, given.1, isnt) in cc)) in cc)),
)
set_variable S (Err e) unknown not_var s = tt

-- what such an answer says beside
pub ok_passes : {T : Type 0} (P : Type 0) (r : Result T SetFault) (q : Result T GraphFault) → Passes r q → OnOk r P → OnOk q P
ok_passes P (Ok v) q is p = subst (λ (x : Result _ GraphFault). OnOk x P) (sym is) p
ok_passes P (Err e) q is p = subst (λ (x : Result _ GraphFault). OnOk x P) (sym is) p
