-- One constant, observed.
use Rattle.std.proofs.Common.{◌≡◌, inl, inr, pos, ◌<◌, Bool, true, false, [], ◌∷◌, Option, None, Some, refl, sym, ap, subst, ◌∙◌, arith}
use Rattle.inc_value.specs.declared.node.NodeId.{NodeId}
use Rattle.inc_value.specs.declared.node.Point.{Point}
use Rattle.inc_value.specs.declared.outcome.Outcome.TheVariants.{Val}
use Rattle.inc_value.specs.declared.value.Value.TheVariants.{Int}
use Rattle.inc_value.specs.Choice.{here, step}
use Rattle.inc_terms.specs.Term.{Functions}
use Rattle.inc_terms.specs.Graph.{Row}
use Rattle.inc_terms.specs.Depend.{main}
use Rattle.stabilize_round.specs.State.{State, Bare, Full, at_point, at_node}
use Rattle.stabilize_round.specs.Freezing.{row_fires}
use Rattle.stabilize_round.proofs.Freezing.{never_called}
use Rattle.stabilize_round.specs.Moves.{Quiet, Enqueues, computed, StepMain}
use Rattle.stabilize_round.specs.Wire.{newly, rooted, IsIt, raised, Raise, finished, Finish}
use Rattle.stabilize_round.specs.Machine.{Entry, step_main, root_new, raise, finish, Moves}
use Rattle.stabilize_round.specs.Rows.{node, row, empty_state, empty_start, ConstantWorks}
use Rattle.stabilize_round.proofs.Counts.{none_yet}
use Rattle.stabilize_round.proofs.Points.{same_or_other, node_or_other, at_same, at_other, node_same, node_other}
use Rattle.stabilize_round.proofs.Main.{at_false}
use Rattle.stabilize_round.proofs.Meanings.{round_is_right}

abbrev p : Point
p = main node

no : {A : Type 0} → false ≡ true → A
no h = absurd (cc)

is_row : at_node node (Some row) (λ (n : NodeId). None) node ≡ Some row
is_row = node_same node (Some row) (λ (n : NodeId). None)

only : (n : NodeId) (r : Row) → at_node node (Some row) (λ (n : NodeId). None) n ≡ Some r → r ≡ row
only n r h = elim (node_or_other node n) [
  | inl e ↦ let a = is_row in let b : at_node node (Some row) (λ (n : NodeId). None) node ≡ Some r = subst
      (λ (y : NodeId). at_node node (Some row) (λ (n : NodeId). None) y ≡ Some r) (sym e) h in cc
  | inr ne ↦ absurd (let a = node_other node (Some row) (λ (n : NodeId). None) n ne in cc)
]

none_fires : (x : Option Row) → row_fires x None None ≡ None
none_fires None = refl
none_fires (Some r) = never_called r.def None

begins : (F : Functions) → Entry F empty_start empty_state
begins F = record {
  web = record {
    from = λ a b l. absurd (omega arith);
    onto = λ a b l. absurd (omega arith);
    rooted = λ a h. absurd (omega arith);
    reached = λ a h. no h;
    rises = λ a b l. absurd (omega arith);
    low = λ a. omega arith;
    heap = λ a h. no h;
  };
  alive = λ a h. no h;
  links = λ a b h. no h;
  full = λ a r e h. no h;
  bare = λ a h. no h;
  scoped = λ n r b e sc. absurd (let o = ap (λ (x : Row). x.scope) (only n r e) in let x : None ≡ Some b = sym o ∙ sc in cc);
  rooted = λ n r l f ks w e d h. absurd (cc);
  built = λ n r o e h. absurd (cc);
  fresh = λ a r e h. no h;
  settled = λ a. refl;
  owed = λ a h. refl;
  todo = λ a need h. no h;
  retries = refl;
  ran = refl;
  taken = refl;
  died = λ n. refl;
  held = λ a. refl;
  last = λ n. refl;
  calls = refl;
  cutoff = λ n. refl;
  stale = λ n. refl;
  answers = λ n r ks c e d l. absurd (cc);
  unfired = λ n. none_fires (empty_state.graph.row n);
}

abbrev heap1 : Point → Bool
heap1 = at_point p true (λ (a : Point). false)

in_heap : (q : Point) → heap1 q ≡ true → p ≡ q
in_heap q h = elim (same_or_other p q) [ inl e ↦ e | inr ne ↦ let x = at_other p true (λ (a : Point). false) q ne in no (sym x ∙ h) ]

abbrev s1 : State
s1 = newly (rooted empty_state p) p heap1

told : Enqueues empty_state empty_state.heap heap1 (IsIt empty_state p) (IsIt empty_state p)
told = record {
  kept = λ q h. no h;
  new = λ q h. inr ((in_heap q h, row, is_row), refl);
  told = λ q w. inl (subst (λ (y : Point). heap1 y ≡ true) w.0 (at_same p true (λ (a : Point). false)));
}

abbrev s2 : State
s2 = raised s1 p Full []

rises : Raise s1 p Full []
rises = record {
  todo = at_same p true (λ (a : Point). false);
  owed = at_same p [] (λ (a : Point). []);
  plan = λ b. let e = is_row in let st = at_same p Bare (λ (a : Point). Full) in rw (e, st) refl;
  lower = λ h. let st = at_same p Bare (λ (a : Point). Full) in let x : Bare ≡ Full = sym st ∙ h in cc;
  gates = λ h r b e sc. absurd (let o = ap (λ (x : Row). x.scope) (only node r e) in let x : None ≡ Some b = sym o ∙ sc in cc);
  rights = λ st part r q e a. absurd a;
}

abbrev s3 : State
s3 = finished s2 p

stage_full : at_point p Full (at_point p Bare (λ (a : Point). Full)) p ≡ Full
stage_full = at_same p Full (at_point p Bare (λ (a : Point). Full))

ends : Finish s2 p
ends = record {
  owed = at_same p [] (at_point p [] (λ (a : Point). []));
  bare = λ h e. let f = stage_full in let x : Full ≡ Bare = sym f ∙ e in cc;
  gated = λ r e h st. absurd (let f = stage_full in cc);
  static = λ r e h st. absurd (let f = stage_full in cc);
}

quiet : Quiet s3
quiet q = elim (same_or_other p q) [
  | inl e ↦ subst (λ (y : Point). at_point p false s2.todo y ≡ false) e (at_same p false s2.todo)
  | inr ne ↦ at_other p false s2.todo q ne ∙ at_other p true (λ (a : Point). false) q ne
]

abbrev heap2 : Point → Bool
heap2 = at_point p false heap1

steps : (F : Functions) → StepMain F s3 node (Val (Int (pos 3))) heap2 None false 0
steps F = record {
  row = row;
  is_row = is_row;
  taken = record { heap = at_same p true (λ (a : Point). false); least = λ q h. omega arith };
  own = refl;
  calls = (refl, λ ks vs e g. absurd (cc));
  count = none_yet;
  heap = record {
    kept = λ q h. h;
    new = λ q h. inl h;
    told = λ q w. absurd (let l = w.0 in omega arith);
  };
}

abbrev s4 : State
s4 = computed s3 node (Val (Int (pos 3))) heap2 None false 0

moves : (F : Functions) → Moves F empty_start empty_state s4
moves F = step (root_new {p = p} {heap' = heap1} (omega arith) refl told refl)
    (step (raise rises refl) (step (finish ends refl) (step (step_main quiet (steps F) refl) here)))

emptied : (q : Point) → heap2 q ≡ true → ⊥
emptied q h = let a = at_false p heap1 q h in a.1 (in_heap q a.0)

pub constant_works : ConstantWorks
constant_works F = (
  begins F,
  s4,
  moves F,
  round_is_right F empty_start empty_state s4 (node ∷ []) (begins F) (moves F) (record {
    on = λ n a. elim a [
      | inr u ↦ absurd (let o = ap (λ (x : Row). x.def) (only n u.row u.is_row) in let d = u.is_freeze in cc)
      | inl (inr x) ↦
          absurd x
      | inl (inl e) ↦ subst (λ (y : NodeId). 0 < s4.root (main y)) (sym e)
          (let x : s4.root p ≡ 1 = at_same p 1 (λ (a : Point). 0) in omega arith)
    ];
    listed = λ q h. elim (same_or_other p q) [
      | inl e ↦ (node, inl (inl refl), sym e)
      | inr ne ↦ absurd (let x : s4.root q ≡ 0 = at_other p 1 (λ (a : Point). 0) q ne in omega arith)
    ];
  }) quiet emptied,
  at_same p true (λ (a : Point). false),
  at_same p (Some (Val (Int (pos 3)))) (λ (a : Point). None),
)
