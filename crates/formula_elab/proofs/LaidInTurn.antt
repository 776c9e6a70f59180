-- Formulas laid out one after the other.
use Rattle.std.proofs.Common.{◌≡◌, ℕ, ◌+◌, ◌<◌, ◌≤◌, ◌^◌, List, [], ◌∷◌, ◌++◌, length, map, drop, Result, Ok, Err, IfOk, OnOk, arith, ap, subst, ◌∙◌}
use Rattle.std.proofs.lemmas.List.{length-append, append_assoc}
use Rattle.formula_lang.specs.CommandView.{formula_view, formulas_of}
use Rattle.formula_lang.specs.declared.command.Formula.{Formula}
use Rattle.inc_value.specs.declared.node.NodeId.{NodeId}
use Rattle.inc_value.specs.declared.ty.Ty.{Ty}
use Rattle.script_model.specs.Formula as model
use Rattle.script_model.specs.Formula.{binds_in_all, places_in_all}
use Rattle.formula_elab.specs.Laying.{Laid, LaidEach, laid, laid_each, IsLaid}
use Rattle.formula_elab.specs.Names.{EveryNameOfAll}
use Rattle.formula_elab.specs.Types.{formula_ty}
use Rattle.formula_elab.specs.declared.opened.Open.TheVariants.{If}
use Rattle.formula_elab.specs.declared.opened.Part.{Part}
use Rattle.formula_elab.specs.declared.opened.Part.TheVariants.{Made}
use Rattle.formula_elab.specs.declared.plan.Planned.{Planned}
use Rattle.formula_elab.specs.declared.plan.Planned.TheVariants.{Node}

-- the formulas of a slice
abbrev pub in_view : List Formula → model.Formulas
in_view fs = formulas_of (map formula_view fs)

-- what is laid behind makes and nodes that are there
abbrev pub behind : List Planned → List Part → LaidEach → LaidEach
behind makes roots rest = record { makes = makes ++ rest.makes; roots = roots ++ rest.roots }

-- the formulas before the i-th are laid out behind the old makes, and the others can be
pub record AreBeingLaid (nodes : ℕ → NodeId) (tys : ℕ → Ty) (count : ℕ) (old : List Planned) (fs : List Formula) (i : ℕ) (makes : List Planned)
    (roots : List Part) : Type 0 where
  pub more : List Planned
  pub added : makes ≡ old ++ more
  pub whole : laid_each nodes tys (length old) (in_view fs) ≡ behind more roots (laid_each nodes tys (length makes) (in_view (drop i fs)))
  pub named : EveryNameOfAll (λ n. n < count) 0 (in_view (drop i fs))
  pub few : places_in_all (in_view (drop i fs)) < 2 ^ 64
  pub few_binds : binds_in_all (in_view (drop i fs)) ≤ 64

module _ (nodes : ℕ → NodeId) (tys : ℕ → Ty) where
  -- what was laid out behind so many
  laid_at : (f : model.Formula) (old new : List Planned) (part : Part) (start : ℕ) → IsLaid nodes tys f old new part → length old ≡ start
      → (new ≡ old ++ (laid nodes tys start f).makes) × (part ≡ (laid nodes tys start f).root)
  laid_at f old new part start h e =
      subst (λ k. (new ≡ old ++ (laid nodes tys k f).makes) × (part ≡ (laid nodes tys k f).root)) e (h.makes, h.root)

  -- an if behind its test and its branches, each behind the one before
  module _ (test a b : model.Formula) (m0 m1 m2 m3 : List Planned) (r1 r2 r3 : Part) (first_laid : IsLaid nodes tys test m0 m1 r1)
      (second_laid : IsLaid nodes tys a m1 m2 r2) (third_laid : IsLaid nodes tys b m2 m3 r3) where
    abbrev first : Laid
    first = laid nodes tys (length m0) test

    abbrev second : Laid
    second = laid nodes tys (length m0 + length first.makes) a

    abbrev third : Laid
    third = laid nodes tys (length m0 + (length first.makes + length second.makes)) b

    size_first : length m1 ≡ length m0 + length first.makes
    size_first = ap length first_laid.makes ∙ length-append m0 first.makes

    second_is : (m2 ≡ m1 ++ second.makes) × (r2 ≡ second.root)
    second_is = laid_at a m1 m2 r2 (length m0 + length first.makes) second_laid size_first

    size_second : length m2 ≡ length m0 + (length first.makes + length second.makes)
    size_second = let size = ap length second_is.0 ∙ length-append m1 second.makes in omega (arith, size, size_first)

    third_is : (m3 ≡ m2 ++ third.makes) × (r3 ≡ third.root)
    third_is = laid_at b m2 m3 r3 (length m0 + (length first.makes + length second.makes)) third_laid size_second

    size_third : length m3 ≡ length m0 + (length first.makes + (length second.makes + length third.makes))
    size_third = let size = ap length third_is.0 ∙ length-append m2 third.makes in omega (arith, size, size_second)

    abbrev if_ty : Ty
    if_ty = formula_ty tys [] a

    if_is : Node (If if_ty r1 r2 r3) ≡ Node (If if_ty first.root second.root third.root)
    if_is = ap (λ (p : Part). Node (If if_ty p r2 r3)) first_laid.root
        ∙ (ap (λ (p : Part). Node (If if_ty first.root p r3)) second_is.1 ∙ ap (λ (p : Part). Node (If if_ty first.root second.root p)) third_is.1)

    before_if : m3 ≡ ((m0 ++ first.makes) ++ second.makes) ++ third.makes
    before_if = third_is.0
        ∙ ap (λ (m : List Planned). m ++ third.makes) (second_is.0 ∙ ap (λ (m : List Planned). m ++ second.makes) first_laid.makes)

    abbrev if_last : List Planned
    if_last = Node (If if_ty first.root second.root third.root) ∷ []

    if_turned : (((m0 ++ first.makes) ++ second.makes) ++ third.makes) ++ if_last
        ≡ m0 ++ (first.makes ++ (second.makes ++ (third.makes ++ if_last)))
    if_turned = append_assoc ((m0 ++ first.makes) ++ second.makes) third.makes if_last
        ∙ (append_assoc (m0 ++ first.makes) second.makes (third.makes ++ if_last)
        ∙ append_assoc m0 first.makes (second.makes ++ (third.makes ++ if_last)))

    if_laid : (m4 : List Planned) (root : Part) → m4 ≡ m3 ++ Node (If if_ty r1 r2 r3) ∷ [] → root ≡ Made (length m3)
        → IsLaid nodes tys (model.If test a b) m0 m4 root
    if_laid m4 root e is = record {
      makes = e ∙ (ap (λ (x : Planned). m3 ++ x ∷ []) if_is ∙ (ap (λ (m : List Planned). m ++ if_last) before_if ∙ if_turned));
      root = is ∙ ap Made size_third;
    }

    -- where the node of the if is added, if there is memory
    pub if_answer : {E : Type 0} (m4 : List Planned) (r' : Result Part E) → OnOk r' (m4 ≡ m3 ++ Node (If if_ty r1 r2 r3) ∷ [])
        → IfOk r' (λ x. x ≡ Made (length m3)) → IfOk r' (λ x. IsLaid nodes tys (model.If test a b) m0 m4 x)
    if_answer m4 (Ok x) added is = if_laid m4 x added is
    if_answer m4 (Err fault) added is = tt
