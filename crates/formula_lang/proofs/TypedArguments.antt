-- Typed formulas put together from the left.
use Rattle.std.proofs.Common.{◌≡◌, ℕ, ◌+◌, ◌<◌, ◌≤◌, List, [], ◌∷◌, ◌++◌, length, map, drop, get_or, Option, None, Some, append_assoc, refl, sym, ◌∙◌, ap}
use Rattle.std.proofs.lemmas.List.{drop_all, drop_more}
use Rattle.inc_value.specs.declared.ty.Ty.{Ty}
use Rattle.script_model.specs.Check.{Bound, Names, TypedFormulas, before, typed, typed_each}
use Rattle.inc_value.specs.Choice.{and_then}
use Rattle.script_model.specs.Formula as model
use Rattle.script_model.specs.Formula.{Meanings}
use Rattle.script_model.specs.Grammar as grammar
use Rattle.script_model.specs.Parsing.{trees_of}
use Rattle.formula_lang.specs.CommandView.{formula_view, formulas_of}
use Rattle.line_parser.specs.TreeView.{tree_view}
use Rattle.formula_lang.specs.declared.command.Formula.{Formula}
use Rattle.line_parser.specs.declared.tree.Tree.{Tree}

-- ---- arguments

-- formulas before others
abbrev pub before_all : List model.Formula → model.Formulas → model.Formulas
before_all [] rest = rest
before_all (f ∷ fs) rest = model.More f (before_all fs rest)

-- typed formulas behind those that are done
abbrev pub behind : List Formula → List Ty → TypedFormulas → TypedFormulas
behind formulas tys rest = record { formulas = before_all (map formula_view formulas) rest.formulas; tys = tys ++ rest.tys }

pub before_all-End : (fs : List model.Formula) → before_all fs model.End ≡ formulas_of fs
before_all-End [] = refl
before_all-End (f ∷ fs) = ap (λ rest. model.More f rest) (before_all-End fs)

before_all-push : (fs : List Formula) (f : Formula) (rest : model.Formulas)
    → before_all (map formula_view (fs ++ f ∷ [])) rest ≡ before_all (map formula_view fs) (model.More (formula_view f) rest)
before_all-push [] f rest = refl
before_all-push (g ∷ fs) f rest = ap (λ x. model.More (formula_view g) x) (before_all-push fs f rest)

-- one more is done
behind-push : (formulas : List Formula) (tys : List Ty) (f : Formula) (t : Ty) (rest : TypedFormulas)
    → behind formulas tys (before (record { formula = formula_view f; ty = t }) rest) ≡ behind (formulas ++ f ∷ []) (tys ++ t ∷ []) rest
behind-push formulas tys f t rest = rw (before_all-push formulas f rest.formulas, append_assoc tys (t ∷ []) rest.tys) refl

pub one_more_done : (r : Option TypedFormulas) (formulas : List Formula) (tys : List Ty) (f : Formula) (t : Ty)
    → and_then (and_then r (λ ts. Some (before (record { formula = formula_view f; ty = t }) ts))) (λ ts. Some (behind formulas tys ts))
    ≡ and_then r (λ ts. Some (behind (formulas ++ f ∷ []) (tys ++ t ∷ []) ts))
one_more_done None formulas tys f t = refl
one_more_done (Some ts) formulas tys f t = ap Some (behind-push formulas tys f t ts)

-- ---- the arguments of a call, one after another

nothing_after : (tys : List Ty) → tys ++ [] ≡ tys
nothing_after [] = refl
nothing_after (t ∷ tys) = ap (λ ts. t ∷ ts) (nothing_after tys)

module _ (F : Meanings) (names : Names) (bounds : List Bound) (trees : List Tree) (i : ℕ) (formulas : List Formula) (tys : List Ty) where
  -- what is typed of the trees from the i-th on, behind what is done
  abbrev pub typed_from : List Tree → Option TypedFormulas
  typed_from xs = and_then (typed_each F names bounds (trees_of (map tree_view xs))) (λ ts. Some (behind formulas tys ts))

  one_step : (x : grammar.Tree) (xs : grammar.Trees) (f : Formula) (t : Ty) → typed F names bounds x ≡ Some (record { formula = formula_view f; ty = t })
      → and_then (typed_each F names bounds (grammar.More x xs)) (λ ts. Some (behind formulas tys ts)) ≡ and_then (typed_each F names bounds xs)
      (λ ts. Some (behind (formulas ++ f ∷ []) (tys ++ t ∷ []) ts))
  one_step x xs f t is = rw is (one_more_done (typed_each F names bounds xs) formulas tys f t)

  pub step_done : (item : Tree) (f : Formula) (t : Ty) → i < length trees → item ≡ get_or trees i item
      → Some (record { formula = formula_view f; ty = t }) ≡ typed F names bounds (tree_view item)
      → typed_each F names bounds (trees_of (map tree_view trees)) ≡ typed_from (drop i trees)
      → typed_each F names bounds (trees_of (map tree_view trees)) ≡ and_then (typed_each F names bounds (trees_of (map tree_view (drop (i + 1) trees))))
      (λ ts. Some (behind (formulas ++ f ∷ []) (tys ++ t ∷ []) ts))
  step_done item f t within is typed_is done =
      let split : drop i trees ≡ item ∷ drop (i + 1) trees = drop_more trees i item within ∙ ap (λ x. x ∷ drop (i + 1) trees) (sym is) in
      done ∙ ap typed_from split ∙ one_step (tree_view item) (trees_of (map tree_view (drop (i + 1) trees))) f t (sym typed_is)

  pub all_done : length trees ≤ i → typed_each F names bounds (trees_of (map tree_view trees)) ≡ typed_from (drop i trees)
      → Some (record { formulas = formulas_of (map formula_view formulas); tys = tys }) ≡ typed_each F names bounds (trees_of (map tree_view trees))
  all_done past done =
      let last : typed_from (drop i trees) ≡ typed_from [] = ap typed_from (drop_all i trees past) in
      sym (done ∙ last ∙ rw (before_all-End, nothing_after) refl)
