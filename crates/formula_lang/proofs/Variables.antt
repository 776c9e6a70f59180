-- The variables of binds: a name is the innermost that has it, or what is declared; and one more within.
use Rattle.std.proofs.Common.{◌≡◌, ℕ, suc, ◌+◌, ◌<◌, Bool, true, false, cond, List, [], ◌∷◌, ◌++◌, length, map, take, get_or, Option, None, Some, refl, sym, ap, ◌∙◌, add-one}
use Rattle.std.proofs.lemmas.List.{map-append, take_more}
use Rattle.std.specs.Str.{bytes_eq}
use Rattle.inc_value.specs.declared.ty.Ty.{Ty}
use Rattle.script_model.specs.Check as model
use Rattle.script_model.specs.Check.{Names, find_declared, typed_as, typed_name}
use Rattle.script_model.specs.Formula as formula
use Rattle.formula_lang.specs.CommandView.{formula_level, formula_view}
use Rattle.formula_lang.specs.Typing.{bound_view, named_formula, typed_view, variable_from}
use Rattle.formula_lang.specs.declared.command.Formula.TheFolds.{fold-roll-Formula}
use Rattle.formula_lang.specs.declared.command.Formula.TheOpen as level
use Rattle.formula_lang.specs.declared.command.Formula.TheVariants as variant
use Rattle.formula_lang.specs.declared.command.Formula.TheVariants.{rolls-Bound}
use Rattle.formula_lang.specs.declared.scope.Variable.{Variable}

-- a variable as a formula, or what is declared
abbrev pub formula_named : Names → List ℕ → Option (ℕ × Ty) → Option model.TypedFormula
formula_named names name None = named_formula (find_declared names name)
formula_named names name (Some p) = typed_as (formula.Bound p.0) p.1

pub typed_name-is : (names : Names) (name : List ℕ) (k : ℕ) (bounds : List model.Bound)
    → typed_name names name k bounds ≡ formula_named names name (variable_from k bounds name)
typed_name-is names name k [] = refl
typed_name-is names name k (b ∷ bounds) = go (bytes_eq name b.name) (typed_name-is names name (suc k) bounds)
  where
    go : (x : Bool) → typed_name names name (suc k) bounds ≡ formula_named names name (variable_from (suc k) bounds name)
        → cond x (typed_as (formula.Bound k) b.ty) (typed_name names name (k + 1) bounds)
        ≡ formula_named names name (cond x (Some (k, b.ty)) (variable_from (suc k) bounds name))
    go true rest = refl
    go false rest = rw add-one rest

bound_written : (k : ℕ) → formula_view (variant.Bound k) ≡ formula.Bound k
bound_written k = ap formula_view (sym (rolls-Bound k)) ∙ fold-roll-Formula formula.Formula formula_level (level.Bound k)

pub bound_typed : (k : ℕ) (t : Ty) → Some (typed_view (record { formula = variant.Bound k; ty = t })) ≡ typed_as (formula.Bound k) t
bound_typed k t = ap (λ (f : formula.Formula). typed_as f t) (bound_written k)

-- one more of the variables round it stands behind the innermost
pub one_more_within : (vs : List Variable) (i : ℕ) (v : Variable) (b : model.Bound) (old new : List model.Bound) → i < length vs → v ≡ get_or vs i v
    → old ≡ b ∷ map bound_view (take i vs) → new ≡ old ++ bound_view v ∷ [] → new ≡ b ∷ map bound_view (take (i + 1) vs)
one_more_within vs i v b old new within is so_far pushed =
    let more : take (i + 1) vs ≡ take i vs ++ v ∷ [] = take_more vs i v within ∙ ap (λ x. take i vs ++ x ∷ []) (sym is) in
    let all : map bound_view (take (i + 1) vs) ≡ map bound_view (take i vs) ++ bound_view v ∷ [] =
    ap (map bound_view) more ∙ map-append bound_view (take i vs) (v ∷ []) in
    pushed ∙ ap (λ xs. xs ++ bound_view v ∷ []) so_far ∙ sym (ap (λ xs. b ∷ xs) all)
