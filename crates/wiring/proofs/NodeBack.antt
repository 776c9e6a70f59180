-- Both points of a node in a scope are put back.
use Rattle.std.proofs.Common.{◌≡◌, ◌⊎◌, inl, inr, true, false, Option, None, Some, refl, sym, ap, subst, ◌∙◌}
use Rattle.std.proofs.lemmas.Option.{none-some, same_Some}
use Rattle.inc_value.specs.declared.node.NodeId.{NodeId}
use Rattle.inc_value.specs.declared.node.Point.{Point}
use Rattle.inc_terms.specs.Depend.{main, change}
use Rattle.inc_terms.specs.Graph.{Row}
use Rattle.point_map.specs.Rows.{at}
use Rattle.necessary_graph.specs.Part.{IsInStep}
use Rattle.node_arena.specs.Arena.{Arena, row_at}
use Rattle.node_outcomes.specs.Row.{settled_in, stage_in}
use Rattle.node_outcomes.specs.Progress.{Progress}
use Rattle.wiring.specs.Wiring.{OnlyLoses, GoesBack, IsPutBack, IsAtGate, IsBehindGate, HasMore, TakesOne}
use Rattle.wiring.specs.declared.work.Work.{Work}
use Rattle.wiring.proofs.InHand.{FallsBack, KeepsSpared, falls_more, change_settled}
use Rattle.wiring.proofs.Placing.{change_other}
use Rattle.wiring.proofs.Releasing.{main_or_change}
use Rattle.wiring.specs.Kept.{IsKept}
use Rattle.wiring.specs.TakingOff.{PutsNodeBack}
use Rattle.wiring.proofs.TakingOne.{nothing_taken}
use Rattle.wiring.proofs.TakingAll.{loses_nothing, takes_then, back_then, then_back}

-- just the row of this point may have its gate's link alone now
abbrev pub BackAt : Arena → Work → Work → Point → NodeId → Type 0
BackAt arena old new p bind = (a : Point) → (at new.rows a ≡ at old.rows a) ⊎ ((a ≡ p) × GoesBack arena old new p bind)

pub back_falls : (arena : Arena) (old new : Work) (p : Point) (bind : NodeId) → BackAt arena old new p bind → (a : Point) → FallsBack old new a
back_falls arena old new p bind rows a = elim (rows a) [
  | inl e ↦ inl e
  | inr b ↦ subst (λ (x : Point). FallsBack old new x) (sym b.0) (inr b.1.now)
]

-- just those of this node's points
abbrev pub NodeBackAt : Arena → Work → Work → NodeId → NodeId → Type 0
NodeBackAt arena old new n bind = (a : Point) → (at new.rows a ≡ at old.rows a) ⊎ ((a.node ≡ n) × GoesBack arena old new a bind)

pub node_falls : (arena : Arena) (old new : Work) (n bind : NodeId) → NodeBackAt arena old new n bind → (a : Point) → FallsBack old new a
node_falls arena old new n bind rows a = elim (rows a) [ inl e ↦ inl e | inr b ↦ inr b.1.now ]

-- first the main, then the change
module _ (arena : Arena) (old mid new : Work) (n bind : NodeId) (first : BackAt arena old mid (main n) bind) (second : BackAt arena mid new (change n) bind)
    (loses : OnlyLoses mid.graph new.graph) where
  change_kept : at mid.rows (change n) ≡ at old.rows (change n)
  change_kept = elim (first (change n)) [ inl e ↦ e | inr b ↦ absurd (change_other n n b.0) ]

  main_kept : at new.rows (main n) ≡ at mid.rows (main n)
  main_kept = elim (second (main n)) [ inl e ↦ e | inr b ↦ absurd (change_other n n (sym b.0)) ]

  pub node_back : NodeBackAt arena old new n bind
  node_back a = elim (second a) [
    | inl f ↦ elim (first a) [
      | inl e ↦ inl (f ∙ e)
      | inr b ↦ inr (
        ap (λ (x : Point). x.node) b.0,
        subst (λ (x : Point). GoesBack arena old new x bind) (sym b.0) (back_then arena old mid new (main n) bind b.1 main_kept loses),
      )
    ]
    | inr b ↦ inr (
      ap (λ (x : Point). x.node) b.0,
      subst (λ (x : Point). GoesBack arena old new x bind) (sym b.0) (then_back arena old mid new (change n) bind change_kept b.1),
    )
  ]

  pub node_at_gate : IsAtGate mid (main n) → IsAtGate new (change n) → (p : Point) → p.node ≡ n → IsAtGate new p
  node_at_gate main_at change_at p e = elim (main_or_change p n e) [
    | inl m ↦ subst (λ (x : Point). IsAtGate new x) (sym m)
        (λ need more. main_at (loses.less (main n) need) (subst (λ (x : Option Progress). HasMore (stage_in x)) main_kept more))
    | inr c ↦ subst (λ (x : Point). IsAtGate new x) (sym c) change_at
  ]

  pub node_taken : mid.round ≡ old.round → IsInStep mid.graph → IsInStep new.graph
      → (settled_in old.round (at old.rows (change bind)) ≡ false → TakesOne arena old mid)
      → (settled_in mid.round (at mid.rows (change bind)) ≡ false → TakesOne arena mid new)
      → settled_in old.round (at old.rows (change bind)) ≡ false → TakesOne arena old new
  node_taken round mid_step new_step one two unsettled =
      takes_then arena old mid new keeps round (λ p s. back_falls arena mid new (change n) bind second p) mid_step new_step loses.less (one unsettled)
      (two (change_settled arena old mid keeps round (change bind) ∙ unsettled))
    where
      keeps : KeepsSpared arena old mid
      keeps p s = back_falls arena old mid (main n) bind first p

-- ---- who has more than its gate's link

module _ (arena : Arena) (work : Work) (n : NodeId) where
  pub dead_behind : row_at arena n ≡ None → (p : Point) → p.node ≡ n → IsBehindGate arena work p
  dead_behind dead p e r b row scope need more = absurd (none-some r (sym dead ∙ subst (λ (x : NodeId). row_at arena x ≡ Some r) e row))

  same_row : (s r : Row) (p : Point) → row_at arena n ≡ Some s → p.node ≡ n → row_at arena p.node ≡ Some r → s ≡ r
  same_row s r p is e row = same_Some s r (sym is ∙ subst (λ (x : NodeId). row_at arena x ≡ Some r) e row)

  pub alone_behind : (s : Row) → row_at arena n ≡ Some s → s.scope ≡ None → (p : Point) → p.node ≡ n → IsBehindGate arena work p
  alone_behind s is none p e r b row scope need more =
      absurd (none-some b (sym none ∙ (ap (λ (x : Row). x.scope) (same_row s r p is e row) ∙ scope)))

  pub ran_behind : (s : Row) (bind : NodeId) → row_at arena n ≡ Some s → s.scope ≡ Some bind
      → settled_in work.round (at work.rows (change bind)) ≡ true → (p : Point) → p.node ≡ n → IsBehindGate arena work p
  ran_behind s bind is stands ran p e r b row scope need more =
      subst (λ (x : NodeId). settled_in work.round (at work.rows (change x)) ≡ true)
      (same_Some bind b (sym stands ∙ (ap (λ (x : Row). x.scope) (same_row s r p is e row) ∙ scope))) ran

  pub gate_behind : ((p : Point) → p.node ≡ n → IsAtGate work p) → (p : Point) → p.node ≡ n → IsBehindGate arena work p
  gate_behind at_gate p e r b row scope need more = absurd (at_gate p e need more)

-- where rows fall back no more points have more than that
pub falls_behind : (arena : Arena) (old new : Work) → ((p : Point) → FallsBack old new p) → new.round ≡ old.round → OnlyLoses old.graph new.graph
    → (p : Point) → IsBehindGate arena old p → IsBehindGate arena new p
falls_behind arena old new falls round loses p behind r b row scope need more =
    change_settled arena old new (λ a s. falls a) round (change b)
    ∙ behind r b row scope (loses.less p need) (falls_more old new p (falls p) more)

-- points that were put back for a gate that didn't run
pub back_unconfirmed : (arena : Arena) (old new : Work) (n bind : NodeId) → settled_in old.round (at old.rows (change bind)) ≡ false
    → NodeBackAt arena old new n bind → (a : Point) → (at new.rows a ≡ at old.rows a) ⊎ ((a.node ≡ n) × IsPutBack arena old new a)
back_unconfirmed arena old new n bind unsettled rows a = elim (rows a) [
  | inl e ↦ inl e
  | inr b ↦ inr (b.0, record { bind = bind; back = b.1; unsettled = unsettled })
]

-- nothing is put back, as none has more
pub none_put_back : (arena : Arena) (work : Work) (n : NodeId) → IsKept arena work → ((p : Point) → p.node ≡ n → IsBehindGate arena work p)
    → PutsNodeBack arena work work n
none_put_back arena work n kept behind = record {
  stays = loses_nothing arena work kept;
  taken = nothing_taken arena work kept.step;
  behind = behind;
  fewer = λ p h. h;
  rows = λ p. inl refl;
}
