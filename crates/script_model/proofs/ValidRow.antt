-- The state in which a grab lives is valid.
use Rattle.std.proofs.Common.{◌≡◌, ℕ, zero, suc, ◌<◌, true, [], Some, refl, arith}
use Rattle.std.specs.Prelude.{pos, neg_ℤ, codes}
use Rattle.std.proofs.Math.Facts.{sfits_lit}
use Rattle.inc_value.specs.declared.function.FnRef.{FnRef}
use Rattle.inc_value.specs.declared.ty.Base.TheVariants as base
use Rattle.inc_value.specs.declared.ty.Ty.TheVariants as ty
use Rattle.script_model.specs.Values.{Value, Int, Reference, Outcome, Val}
use Rattle.script_model.specs.Formula.{Entry, State, Meanings, Kept, Formula, entry_at, Name, Bound, Bind, Join, Apply, End, More, Variable, Computed, Grab, nothing_kept}
use Rattle.script_model.specs.Row.{TakesAnInt, GrabStateIsValid, grab_lives}
use Rattle.script_model.specs.Valid.{Valid, ValidEntry, NameHasType, HasType, BuiltFits, GrabFits, OutcomeHasType}

module _ (F : Meanings) (neg : FnRef) (unary : TakesAnInt F neg) where
  abbrev s : State
  s = grab_lives neg

  -- its declarations, one by one
  abbrev x : Entry
  x = record { name = codes "x"; ty = ty.Int; target = 0; body = Variable (Int (pos 1)) }

  abbrev h : Entry
  h = record { name = codes "h"; ty = ty.Node base.Int; target = 1; body = Variable (Reference 3 base.Int) }

  abbrev kept : Kept
  kept = record nothing_kept { built = Some (Val (Int (pos 1))) }

  abbrev body : Formula
  body = Apply neg (More (Bound 0) End)

  abbrev b : Entry
  b = record { name = codes "b"; ty = ty.Int; target = 2; body = Computed (Bind (Name 0) body) kept }

  abbrev r : Entry
  r = record { name = codes "r"; ty = ty.Int; target = 3; body = Grab 2 (Int (pos 1)) true }

  abbrev j : Entry
  j = record { name = codes "j"; ty = ty.Int; target = 4; body = Computed (Join (Name 1)) nothing_kept }

  named : (below n : ℕ) (e : Entry) → n < below → entry_at s n ≡ Some e → e.target ≡ n → NameHasType s below n e.ty
  named below n e less stands own = record { entry = e; earlier = less; stands = stands; typed = refl; own = own }

  one_entry : (n : ℕ) (e f : Entry) → ValidEntry F s n e → Some e ≡ Some f → ValidEntry F s n f
  one_entry n e f valid is = let same : e ≡ f = cc in rw (← same) valid

  bind_typed : HasType F s 2 [] (Bind (Name 0) body) ty.Int
  bind_typed = (ty.Int, named 2 0 x (omega arith) refl refl, (unary.named, rw unary.takes (refl, tt), unary.gives))

  built_fits : BuiltFits F s 2 (Bind (Name 0) body) kept
  built_fits o is = (ty.Int, named 2 0 x (omega arith) refl refl, (let same : o ≡ Val (Int (pos 1)) = cc in rw same (refl, sfits_lit tt)))

  same_body : (e f : Entry) → Some e ≡ Some f → f.body ≡ e.body
  same_body e f same = let all : f ≡ e = cc in rw all refl

  only_grab : (m : ℕ) (w : Value) (e : Entry) → entry_at s m ≡ Some e → e.body ≡ Grab 2 w true → m ≡ 3
  only_grab zero w e is held = let there = same_body x e is in absurd (cc)
  only_grab (suc zero) w e is held = let there = same_body h e is in absurd (cc)
  only_grab (suc (suc zero)) w e is held = let there = same_body b e is in absurd (cc)
  only_grab (suc (suc (suc zero))) w e is held = refl
  only_grab (suc (suc (suc (suc zero)))) w e is held = let there = same_body j e is in absurd (cc)
  only_grab (suc (suc (suc (suc (suc m))))) w e is held = absurd (cc)

  grab_fits : GrabFits F s 3 2 (Int (pos 1)) true ty.Int
  grab_fits = record {
    left = Name 0;
    body = body;
    earlier = omega arith;
    stands = refl;
    typed = bind_typed;
    built = λ live. refl;
    alone = λ live m w e is held. only_grab m w e is held;
  }

  entries_valid : (n : ℕ) (e : Entry) → entry_at s n ≡ Some e → ValidEntry F s n e
  entries_valid zero e is = one_entry 0 x e (record { typed = (refl, sfits_lit tt); target_is = refl }) is
  entries_valid (suc zero) e is = one_entry 1 h e (record { typed = (refl, named 5 3 r (omega arith) refl refl); target_is = refl }) is
  entries_valid (suc (suc zero)) e is = one_entry 2 b e (record { typed = (bind_typed, built_fits); target_is = refl }) is
  entries_valid (suc (suc (suc zero))) e is = one_entry 3 r e (record { typed = grab_fits; target_is = refl }) is
  entries_valid (suc (suc (suc (suc zero)))) e is =
      one_entry 4 j e (record { typed = ((base.Int, named 4 1 h (omega arith) refl refl, refl), refl); target_is = refl }) is
  entries_valid (suc (suc (suc (suc (suc n))))) e is = absurd (cc)

  int_shown : (p : Outcome) → Some (Val (Int (neg_ℤ (pos 1)))) ≡ Some p → OutcomeHasType s p ty.Int
  int_shown p is = let same : p ≡ Val (Int (neg_ℤ (pos 1))) = cc in rw same (refl, sfits_lit tt)

  valid : Valid F s
  valid = record {
    entries = entries_valid;
    observers = (
      record { ty = ty.Int; target = named 5 2 b (omega arith) refl refl; shown = λ p is. int_shown p is; watch = tt },
      (record { ty = ty.Int; target = named 5 4 j (omega arith) refl refl; shown = λ p is. int_shown p is; watch = (refl, sfits_lit tt) }, tt),
    );
    now = omega arith;
    places = omega arith;
  }

pub grab_state_is_valid : GrabStateIsValid
grab_state_is_valid F neg unary = valid F neg unary
