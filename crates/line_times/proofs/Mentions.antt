-- What holds of one in lists that stand one behind the other.
use Rattle.std.proofs.Common.{◌≡◌, Bool, true, false, ◌||◌, List, ◌++◌, refl, sym}
use Rattle.std.specs.List.{list_any}
use Rattle.std.proofs.lemmas.List.Folds.{list_any-append}

pub or_nothing : (b : Bool) → (b || false) ≡ b
or_nothing true = refl
or_nothing false = refl

module _ {A : Type 0} (P : A → Bool) where
  pub any_two : (xs ys : List A) (a b : Bool) → a ≡ list_any P xs → b ≡ list_any P ys → (a || b) ≡ list_any P (xs ++ ys)
  any_two xs ys a b is is' = rw (is, is') (sym (list_any-append P xs ys))

  pub any_three : (xs ys zs : List A) (a b c : Bool) → a ≡ list_any P xs → b ≡ list_any P ys → c ≡ list_any P zs
      → ((a || b) || c) ≡ list_any P ((xs ++ ys) ++ zs)
  any_three xs ys zs a b c is is' is'' = any_two (xs ++ ys) zs (a || b) c (any_two xs ys a b is is') is''
