-- What calls answer that add nodes.
use Rattle.std.proofs.Common.{◌≡◌, ℤ, inl, inr, None, Some, Ok, Err, refl, sym, ap, subst, ◌∙◌}
use Rattle.std.specs.Prelude.{Result, IfOk, IfErr, OnErr, IsErrOf, ◌↔◌}
use Rattle.graph.proofs.Faulting.{same_err}
use Rattle.graph.specs.Effects.{top, Adds, KeepsAll, KeepsBesideGiven, IsAddFault, NamesUnknown, IsMistyped, HasNoRoom}
use Rattle.graph.specs.Effects.{AnswersAdd}
use Rattle.graph.specs.Fault.{of_add, of_untimed}
use Rattle.graph.specs.Standing.{GraphView, IsUnbroken, IsBroken}
use Rattle.graph.specs.declared.fault.GraphFault.{GraphFault}
use Rattle.graph.specs.declared.fault.GraphFault.TheVariants as fault
use Rattle.graph.specs.declared.fault.Kept.{Kept}
use Rattle.inc_value.specs.declared.node.NodeId.{NodeId}
use Rattle.inc_value.specs.declared.ty.Ty.{Ty}
use Rattle.inc_value.specs.declared.ty.Ty.TheVariants as ty
use Rattle.inc_terms.specs.Clock.{IsTimed}
use Rattle.inc_terms.specs.Graph as graph
use Rattle.inc_terms.specs.Graph.{Def}
use Rattle.node_arena.specs.Arena.{IsFull, NamesGiven}
use Rattle.node_arena.specs.Typing.{Makes}
use Rattle.node_arena.specs.declared.arena.AddFault.{AddFault}
use Rattle.node_arena.specs.declared.arena.AddFault.TheVariants as add

-- ---- faults of the nodes

-- which one a graph tells
abbrev told : GraphFault → AddFault
told fault.Unknown = add.Unknown
told fault.WrongType = add.WrongType
told fault.Full = add.Full
told e = add.Memory

told_as : (e : AddFault) → told (of_add e) ≡ e
told_as add.Unknown = refl
told_as add.WrongType = refl
told_as add.Full = refl
told_as add.Memory = refl

is_add_fault : (e : AddFault) → IsAddFault (of_add e) × ((cause : Kept) → of_add e ≡ fault.Broken cause → ⊥)
is_add_fault add.Unknown = (inr (inl refl), λ cause h. absurd cc)
is_add_fault add.WrongType = (inr (inr (inl refl)), λ cause h. absurd cc)
is_add_fault add.Full = (inr (inr (inr (inr (inl refl)))), λ cause h. absurd cc)
is_add_fault add.Memory = (inr (inr (inr (inr (inr refl)))), λ cause h. absurd cc)

never_span : (e : AddFault) → of_add e ≡ fault.Span → ⊥
never_span add.Unknown h = cc
never_span add.WrongType h = cc
never_span add.Full h = cc
never_span add.Memory h = cc

-- an answer of the nodes, as a graph gives it
abbrev pub Passes : Result NodeId AddFault → Result NodeId GraphFault → Type 0
Passes (Ok id) q = q ≡ Ok id
Passes (Err e) q = q ≡ Err (of_add e)

-- a graph stays as it is
pub all_stays : {F : Type 0} (s : GraphView F) → KeepsAll s s
all_stays s = record {
  beside = record {
    top = record { functions = refl; rooted = refl; since = refl; refused = refl; ran = refl; notices = refl };
    observers = refl;
    need = record { links = λ p q. refl; roots = λ p. refl };
    of_nodes = record {
      shown = λ n g. refl;
      chosen = λ n g. refl;
      built = λ n g. refl;
      last = λ n g. refl;
      frozen = λ n g. refl;
      lists = λ n g. refl;
      marks = λ n g. refl;
    };
    cutoff = λ n g. refl;
    no_more_cutoffs = λ n e. e;
  };
  nodes = refl;
}

-- ---- spans that can't be counted

module _ {F : Type 0} (s : GraphView F) (whole : IsUnbroken s) where
  unbroken_still : {P : Type 0} (cause : Kept) → IsBroken s cause → P
  unbroken_still cause (r, met, of) = absurd (let e : None ≡ Some r = sym whole ∙ met in cc)

  module _ (base span : ℤ) (untimed : IsTimed s.nodes.time (graph.Every base span) → ⊥) where
    -- they make an integer
    no_spans : AnswersAdd s s (graph.Every base span) ty.Int (Err fault.Span)
    no_spans = record {
      added = tt;
      broken = λ cause. ((λ h. absurd (let e = same_err h in cc)), (λ b. unbroken_still cause b));
      unknown = ((λ h. absurd (let e = same_err h in cc)), (λ k. absurd (k.1 tt)));
      wrong_type = ((λ h. absurd (let e = same_err h in cc)), (λ k. absurd (k.1.1 refl)));
      span = ((λ h. (whole, (tt, refl, untimed))), (λ k. refl));
      full = ((λ h. absurd (let e = same_err h in cc)), (λ k. absurd (untimed k.1.2)));
      adding = inr (inr (inr (inl refl)));
      err = all_stays s;
    }

    -- and nothing else
    no_integer : (t : Ty) → (t ≡ ty.Int → ⊥) → AnswersAdd s s (graph.Every base span) t (Err fault.WrongType)
    no_integer t other = record {
      added = tt;
      broken = λ cause. ((λ h. absurd (let e = same_err h in cc)), (λ b. unbroken_still cause b));
      unknown = ((λ h. absurd (let e = same_err h in cc)), (λ k. absurd (k.1 tt)));
      wrong_type = ((λ h. (whole, (tt, other))), (λ k. refl));
      span = ((λ h. absurd (let e = same_err h in cc)), (λ k. absurd (other k.1.1)));
      full = ((λ h. absurd (let e = same_err h in cc)), (λ k. absurd (other k.1.1)));
      adding = inr (inr (inl refl));
      err = all_stays s;
    }

    by_type : (t : Ty) → AnswersAdd s s (graph.Every base span) t (Err (of_untimed t))
    by_type ty.Int = no_spans
    by_type ty.Bool = no_integer ty.Bool (λ e. cc)
    by_type ty.Text = no_integer ty.Text (λ e. cc)
    by_type (ty.Node b) = no_integer (ty.Node b) (λ e. cc)

  -- what isn't timed counts spans, and isn't added
  pub answers_untimed : (def : Def) (t : Ty) → (IsTimed s.nodes.time def → ⊥) → AnswersAdd s s def t (Err (of_untimed t))
  answers_untimed (graph.Every base span) t untimed = by_type base span untimed t
  answers_untimed _ t untimed = absurd (untimed tt)

-- ---- a node was added to an unbroken graph, or not

module _ {F : Type 0} (s t : GraphView F) (def : Def) (ty : Ty) (whole : IsUnbroken s) (timed : IsTimed s.nodes.time def) where
  not_broken : (cause : Kept) → IsBroken s cause → ⊥
  not_broken cause (r, met, of) = let e : None ≡ Some r = sym whole ∙ met in cc

  -- a fault means what it meant
  passed : {P : Type 0} (r : Result NodeId AddFault) (q : Result NodeId GraphFault) → Passes r q → (e : AddFault) → (r ≡ Err e) ↔ P
      → (q ≡ Err (of_add e)) ↔ (IsUnbroken s × P)
  passed (Ok id) q is e both = ((λ h. absurd (let x = sym is ∙ h in cc)), (λ k. absurd (let x = both.1 k.1 in cc)))
  passed (Err x) q is e both = (
    (λ h. (whole, both.0 (ap Err (sym (told_as x) ∙ (ap told (same_err (sym is ∙ h)) ∙ told_as e))))),
    (λ k. is ∙ ap (λ (y : AddFault). Err (of_add y)) (same_err (both.1 k.1))),
  )

  no_span : (r : Result NodeId AddFault) (q : Result NodeId GraphFault) → Passes r q → q ≡ Err fault.Span → ⊥
  no_span (Ok id) q is h = let e = sym is ∙ h in cc
  no_span (Err e) q is h = never_span e (same_err (sym is ∙ h))

  with_time : NamesGiven s.nodes.given def × Makes s.nodes def ty × IsFull s.nodes → HasNoRoom s def ty
  with_time k = (k.0, k.1, timed, k.2)

  pub answers_as : (r : Result NodeId AddFault) (q : Result NodeId GraphFault) → Passes r q → KeepsBesideGiven s t
      → IfOk r (λ (id : NodeId). Adds s t id (top def ty)) → OnErr r (t.nodes ≡ s.nodes) → IsErrOf r add.Unknown ↔ NamesUnknown s def
      → IsErrOf r add.WrongType ↔ IsMistyped s def ty
      → IsErrOf r add.Full ↔ (NamesGiven s.nodes.given def × Makes s.nodes def ty × IsFull s.nodes) → AnswersAdd s t def ty q
  answers_as r q is beside added err unknown wrong_type full = record {
    added = by_kind.0;
    broken = λ cause. ((λ h. absurd (by_kind.1.1 cause h)), (λ broken. absurd (not_broken cause broken)));
    unknown = passed r q is add.Unknown unknown;
    wrong_type = passed r q is add.WrongType wrong_type;
    span = ((λ h. absurd (no_span r q is h)), (λ k. absurd (k.1.2 timed)));
    full = passed r q is add.Full ((λ h. with_time (full.0 h)), (λ k. full.1 (k.0, k.1, k.3)));
    adding = by_kind.1.0;
    err = by_kind.1.2;
  }
    where
      Rest : Result NodeId GraphFault → Type 0
      Rest x = IfErr x IsAddFault × ((cause : Kept) → IsErrOf x (fault.Broken cause) → ⊥) × OnErr x (KeepsAll s t)

      at_kind : (r : Result NodeId AddFault) → Passes r q → IfOk r (λ (id : NodeId). Adds s t id (top def ty)) → OnErr r (t.nodes ≡ s.nodes)
          → IfOk q (λ (id : NodeId). Adds s t id (top def ty)) × Rest q
      at_kind (Ok id) is added err = subst (λ (x : Result NodeId GraphFault). IfOk x (λ (id : NodeId). Adds s t id (top def ty)) × Rest x)
          (sym is) (added, (tt, (λ cause h. absurd cc), tt))
      at_kind (Err e) is added err = subst (λ (x : Result NodeId GraphFault). IfOk x (λ (id : NodeId). Adds s t id (top def ty)) × Rest x)
          (sym is) (tt, ((is_add_fault e).0, (λ cause h. (is_add_fault e).1 cause (same_err h)), record { beside = beside; nodes = err }))

      by_kind : IfOk q (λ (id : NodeId). Adds s t id (top def ty)) × Rest q
      by_kind = at_kind r is added err
