-- What is made for a formula is no freeze: each live freeze is one that is declared.
use Rattle.std.proofs.Common.{◌≡◌, ◌⊎◌, inl, inr, ℕ, ◌+◌, List, [], ◌∷◌, ◌++◌, length, Some, refl, ap, sym, ◌∙◌, arith, slice_get}
use Rattle.std.proofs.lemmas.Bool.{cases_eq}
use Rattle.formula_elab.specs.Bodies.{Page, empty_page}
use Rattle.formula_elab.specs.Laying.{laid, laid_each, laid_body}
use Rattle.formula_elab.specs.Opened.{filled, made_node, node_of}
use Rattle.formula_elab.specs.Types.{formula_ty, joined_ty}
use Rattle.formula_elab.specs.Writing.{body_of, with_named, written, written_each}
use Rattle.formula_elab.specs.declared.make.Made.{Made}
use Rattle.formula_elab.specs.declared.opened.Open.{Open}
use Rattle.formula_elab.specs.declared.opened.Open.TheVariants.{Const, Var, Map, Fold as OpenFold, If as OpenIf, Join as OpenJoin, Bind as OpenBind, At as OpenAt, Steps as OpenSteps, Now as OpenNow, Every as OpenEvery, Freeze as OpenFreeze, Expert as OpenExpert}
use Rattle.formula_elab.specs.declared.plan.Planned.{Planned}
use Rattle.formula_elab.specs.declared.plan.Planned.TheVariants as planned
use Rattle.graph.specs.Standing.{GraphView, graph}
use Rattle.inc_value.specs.Choice.{Every}
use Rattle.inc_value.specs.declared.function.FnRef.{FnRef}
use Rattle.inc_value.specs.declared.node.NodeId.{NodeId}
use Rattle.inc_value.specs.declared.ty.Ty.{Ty}
use Rattle.inc_terms.specs.Graph as graph_def
use Rattle.inc_terms.specs.Graph.{Row}
use Rattle.inc_terms.specs.Term.{Functions}
use Rattle.link_table.proofs.Lists.{get_append_other}
use Rattle.script_model.specs.Formula as script
use Rattle.script_model.specs.Formula.{Formula, Formulas, Body, Literal, Name, Bound, Apply, Fold, If, Join, Bind, At, Steps, Now, End, More, Variable, Computed, Freeze, After, Expert, Grab}
use Rattle.script_graph.specs.Growing.{IsMaking}
use Rattle.script_graph.proofs.Declaring.{FreezesAre}
use Rattle.script_graph.proofs.Few.{among_node, node_among}
use Rattle.script_graph.proofs.Laying.{every_append, every_at}
use Rattle.transfer.specs.Both.{graph_value}

-- a function, or a node that is no freeze
abbrev IsNoFreeze : Planned → Type 0
IsNoFreeze (planned.Node (OpenFreeze ty child predicate)) = ⊥
IsNoFreeze x = Unit {0}

module _ (nodes : ℕ → NodeId) (tys : ℕ → Ty) where
  mutual
    none_written : (bounds : List Ty) (start : ℕ) (p : Page) (f : Formula) → Every IsNoFreeze (written nodes tys bounds start p f).makes
    none_written bounds start p (Apply f arguments) = none_of_all_written bounds start p arguments
    none_written bounds start p (Fold f first elements) = none_of_all_written bounds start (with_named nodes p first) elements
    none_written bounds start p (If test a b) =
        let t = written nodes tys bounds start p test in
        let x = written nodes tys bounds (start + length t.makes) t.page a in
        let y = written nodes tys bounds (start + (length t.makes + length x.makes)) x.page b in
        every_append IsNoFreeze t.makes (x.makes ++ y.makes) (none_written bounds start p test)
        (every_append IsNoFreeze x.makes y.makes (none_written bounds (start + length t.makes) t.page a)
        (none_written bounds (start + (length t.makes + length x.makes)) x.page b))
    none_written bounds start p (Join child) = none_written bounds start p child
    none_written bounds start p (Bind left body) =
        let u = formula_ty tys bounds left in
        let l = written nodes tys bounds start p left in
        let i = written nodes tys (u ∷ bounds) (start + length l.makes) empty_page body in
        let last = planned.Body (body_of (u ∷ bounds) (formula_ty tys (u ∷ bounds) body) i) in
        every_append IsNoFreeze l.makes (i.makes ++ last ∷ []) (none_written bounds start p left)
        (every_append IsNoFreeze i.makes (last ∷ []) (none_written (u ∷ bounds) (start + length l.makes) empty_page body) (tt, tt))
    none_written bounds start p f = tt

    none_of_all_written : (bounds : List Ty) (start : ℕ) (p : Page) (fs : Formulas) → Every IsNoFreeze (written_each nodes tys bounds start p fs).makes
    none_of_all_written bounds start p End = tt
    none_of_all_written bounds start p (More f rest) =
        let w = written nodes tys bounds start p f in
        let ws = written_each nodes tys bounds (start + length w.makes) w.page rest in
        every_append IsNoFreeze w.makes ws.makes (none_written bounds start p f) (none_of_all_written bounds (start + length w.makes) w.page rest)

  mutual
    none_laid : (start : ℕ) (f : Formula) → Every IsNoFreeze (laid nodes tys start f).makes
    none_laid start (Apply f arguments) =
        let each = laid_each nodes tys start arguments in
        every_append IsNoFreeze each.makes (planned.Node (Map f each.roots) ∷ []) (none_of_all_laid start arguments) (tt, tt)
    none_laid start (Fold f first elements) =
        let each = laid_each nodes tys start elements in
        every_append IsNoFreeze each.makes (planned.Node (OpenFold f (graph_value nodes first) each.roots) ∷ []) (none_of_all_laid start elements) (tt, tt)
    none_laid start (If test a b) =
        let first = laid nodes tys start test in
        let second = laid nodes tys (start + length first.makes) a in
        let third = laid nodes tys (start + (length first.makes + length second.makes)) b in
        let whole = planned.Node (OpenIf (formula_ty tys [] a) first.root second.root third.root) in
        every_append IsNoFreeze first.makes (second.makes ++ (third.makes ++ whole ∷ [])) (none_laid start test)
        (every_append IsNoFreeze second.makes (third.makes ++ whole ∷ []) (none_laid (start + length first.makes) a)
        (every_append IsNoFreeze third.makes (whole ∷ []) (none_laid (start + (length first.makes + length second.makes)) b) (tt, tt)))
    none_laid start (Join child) =
        let under = laid nodes tys start child in
        every_append IsNoFreeze under.makes (planned.Node (OpenJoin (joined_ty (formula_ty tys [] child)) under.root) ∷ []) (none_laid start child) (tt, tt)
    none_laid start (Bind left body) =
        let u = formula_ty tys [] left in
        let one = laid nodes tys start left in
        let inner = written nodes tys (u ∷ []) (start + length one.makes) empty_page body in
        let of = formula_ty tys (u ∷ []) body in
        let number = start + (length one.makes + length inner.makes) in
        let last = planned.Body (body_of (u ∷ []) of inner) ∷ planned.Node (OpenBind of one.root number) ∷ [] in
        every_append IsNoFreeze one.makes (inner.makes ++ last) (none_laid start left)
        (every_append IsNoFreeze inner.makes last (none_written (u ∷ []) (start + length one.makes) empty_page body) (tt, (tt, tt)))
    none_laid start (Literal v) = (tt, tt)
    none_laid start (Name n) = tt
    none_laid start (Bound k) = tt
    none_laid start (At time) = (tt, tt)
    none_laid start (Steps first steps) = (tt, tt)
    none_laid start Now = (tt, tt)

    none_of_all_laid : (start : ℕ) (fs : Formulas) → Every IsNoFreeze (laid_each nodes tys start fs).makes
    none_of_all_laid start End = tt
    none_of_all_laid start (More f rest) =
        let here = laid nodes tys start f in
        let next = start + length here.makes in
        every_append IsNoFreeze here.makes (laid_each nodes tys next rest).makes (none_laid start f) (none_of_all_laid next rest)

-- what is filled as a freeze is one
freeze_open : (made : List Made) (x : Open) (kid : NodeId) (f : FnRef) → filled made x ≡ graph_def.Freeze kid f → IsNoFreeze (planned.Node x) → ⊥
freeze_open made (OpenFreeze ty child predicate) kid f e none = none
freeze_open made (Const v) kid f e none = cc
freeze_open made (Var v) kid f e none = cc
freeze_open made (Map g parts) kid f e none = cc
freeze_open made (OpenFold g v parts) kid f e none = cc
freeze_open made (OpenIf ty test a b) kid f e none = cc
freeze_open made (OpenJoin ty child) kid f e none = cc
freeze_open made (OpenBind ty left body) kid f e none = cc
freeze_open made (OpenAt time) kid f e none = cc
freeze_open made (OpenSteps v steps) kid f e none = cc
freeze_open made OpenNow kid f e none = cc
freeze_open made (OpenEvery base span) kid f e none = cc
freeze_open made (OpenExpert g v) kid f e none = cc

last_or : (xs : List Planned) (last : Planned) (i : ℕ) (x : Planned) → slice_get (xs ++ last ∷ []) i ≡ Some x → (slice_get xs i ≡ Some x) ⊎ (i ≡ length xs)
last_or xs last i x is = elim (cases_eq i (length xs)) [
  | inl same ↦ inr same
  | inr other ↦ inl (sym (get_append_other xs last i other) ∙ is)
]

module _ {F : Type 0} (H : Functions) (first now : GraphView F) (nodes : ℕ → NodeId) (tys : ℕ → Ty) (made : List Made) where
  abbrev makes_for : Body → List Planned
  makes_for body = (laid_body nodes tys 0 body).makes

  abbrev root_for : Body → NodeId
  root_for body = node_of made (laid_body nodes tys 0 body).root

  module _ (body : Body) (h : IsMaking H first now (makes_for body) made) where
    abbrev Are : Body → Type 0
    Are b = FreezesAre (graph first) (graph now) (root_for b) b

    -- the node of a live row is of an earlier one, or was made of this
    was_or_made : (n : NodeId) (r : Row) → (graph now).row n ≡ Some r
        → ((graph first).row n ≡ Some r)
        ⊎ ((i : ℕ) × (x : Open) × (slice_get (makes_for body) i ≡ Some (planned.Node x)) × (made_node made i ≡ n) × (r.def ≡ filled made x))
    was_or_made n r row = elim (h.new_rows n r row) [
      | inl was ↦ inl was
      | inr new ↦
          let i = among_node n (makes_for body) made h.stands.kinds (node_among n made new) in
          let top = h.stands.top i.0 i.1 i.2 i.3 in
          let rows : r ≡ top.0 = (let e : Some r ≡ Some top.0 = sym row ∙ (ap (graph now).row (sym i.4) ∙ top.1) in cc) in
          inr (i.0, i.1, i.2, i.4, ap (λ (q : Row). q.def) rows ∙ top.3)
    ]

    none_made : Every IsNoFreeze (makes_for body) → Are body
    none_made none n r kid f row def = elim (was_or_made n r row) [
      | inl was ↦ inl was
      | inr m ↦ absurd (freeze_open made m.1 kid f (sym m.4 ∙ def) (every_at IsNoFreeze (makes_for body) none m.0 (planned.Node m.1) m.2))
    ]

  -- each live freeze was there, or is what is declared
  pub made_freezes : (body : Body) → IsMaking H first now (makes_for body) made → FreezesAre (graph first) (graph now) (root_for body) body
  made_freezes (Variable v) h = none_made (Variable v) h (tt, tt)
  made_freezes (Computed f kept) h = none_made (Computed f kept) h (none_laid nodes tys 0 f)
  made_freezes (After time) h = none_made (After time) h (tt, tt)
  made_freezes (script.Every base span) h = none_made (script.Every base span) h (tt, tt)
  made_freezes (Expert f v links stale) h = none_made (Expert f v links stale) h (tt, tt)
  made_freezes (Grab bind v is_live) h = none_made (Grab bind v is_live) h tt
  made_freezes (Freeze child predicate frozen) h = λ n r kid f row def. elim (was_or_made (Freeze child predicate frozen) h n r row) [
    | inl was ↦ inl was
    | inr m ↦
        let under = laid nodes tys 0 child in
        let last = planned.Node (OpenFreeze (formula_ty tys [] child) under.root predicate) in
        elim (last_or under.makes last m.0 (planned.Node m.1) m.2) [
          | inl inner ↦ absurd (freeze_open made m.1 kid f (sym m.4 ∙ def)
              (every_at IsNoFreeze under.makes (none_laid nodes tys 0 child) m.0 (planned.Node m.1) inner))
          | inr end ↦
              let place : 0 + length under.makes ≡ m.0 = omega (arith, end) in
              inr (ap (made_node made) place ∙ m.3, child, predicate, frozen, refl)
        ]
  ]
