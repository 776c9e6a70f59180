-- What holds where a call has failed, or has not.
use Rattle.std.proofs.Common.{◌≡◌, Option, None, Some, refl, subst}
use Rattle.std.specs.Prelude.{Result, Ok, Err, IfNone, IfSome}
use Rattle.std.specs.Result.{IfOk, OnErr, OnOk}

-- what follows from what a call ensures, by how it ended
pub ok_from : {T E : Type 0} (r : Result T E) (P Q : T → Type 0) → IfOk r P → ((x : T) → P x → Q x) → IfOk r Q
ok_from (Ok x) P Q p f = f x p
ok_from (Err e) P Q p f = tt

pub on_ok_from : {T E A B : Type 0} (r : Result T E) → OnOk r A → (A → B) → OnOk r B
on_ok_from (Ok x) a f = f a
on_ok_from (Err e) a f = tt

pub always_err : {T E P : Type 0} (r : Result T E) → P → OnErr r P
always_err (Ok x) p = tt
always_err (Err e) p = p

pub err_from : {T E P Q : Type 0} (r : Result T E) → OnErr r P → (P → Q) → OnErr r Q
err_from (Ok x) p f = tt
err_from (Err e) p f = f p

pub if_some_from : {T : Type 0} {P Q : T → Type 0} (o : Option T) → IfSome o P → ((x : T) → P x → Q x) → IfSome o Q
if_some_from None p f = tt
if_some_from (Some x) p f = f x p

-- what is none of the values that there may be is none
pub none_of : {A : Type 0} (o : Option A) → ((x : A) → o ≡ Some x → ⊥) → o ≡ None
none_of None not_some = refl
none_of (Some x) not_some = absurd (not_some x refl)

-- what holds of one that there is, and where there is none
pub some_from : {A : Type 0} (P : A → Type 0) (o : Option A) (x : A) → o ≡ Some x → IfSome o P → P x
some_from P None x is h = absurd (cc)
some_from P (Some y) x is h = let same : y ≡ x = cc in subst P same h

pub none_from : {A P : Type 0} (o : Option A) → ((x : A) → o ≡ Some x → ⊥) → IfNone o P → P
none_from None not_some h = h
none_from (Some x) not_some h = absurd (not_some x refl)
