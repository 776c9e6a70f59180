-- The clock still watches the nodes that read it, after nodes were added, dropped, set or taken in, and after the time moved.
use Rattle.std.proofs.Common.{◌≡◌, ◌≢◌, ◌⊎◌, inl, inr, ◌+◌, ◌<◌, ◌≤◌, ℤ, true, false, [], Option, None, Some, refl, sym, ap, subst, ◌∙◌, arith}
use Rattle.std.specs.Prelude.{is_some}
use Rattle.std.proofs.lemmas.Option.{none-some, same_Some}
use Rattle.std.proofs.lemmas.Bool.{cases_lt}
use Rattle.inc_value.specs.declared.node.NodeId.{NodeId}
use Rattle.inc_value.specs.declared.value.Value.{Value}
use Rattle.inc_terms.specs.Clock.{reads_clock, IsTimed}
use Rattle.inc_terms.specs.Graph.{Row, Def, Var}
use Rattle.inc_terms.specs.Within.{Given}
use Rattle.node_arena.specs.Arena as nodes
use Rattle.node_arena.specs.Arena.{Arena, row_at, IsSet, with_value}
use Rattle.node_arena.specs.Sound.{IsSoundArena, IsFirstSince}
use Rattle.node_arena.proofs.Graph.{id_or_other}
use Rattle.clock_nodes.specs.Clock.{Clock, watched, IsFree, KeepsWatched, Watches}
use Rattle.timed_nodes.specs.Timed.{Timed, KeepsClock, IsMovedTo, Forgets, WatchesTimed}

-- nodes were added, or some that were given since were dropped
pub clock_grown : (arena arena' : Arena) (timed : Timed) → KeepsClock arena timed → arena.given ≤ arena'.given → arena'.time ≡ arena.time
    → ((n : NodeId) → Given arena.given n → row_at arena' n ≡ row_at arena n) → KeepsClock arena' timed
clock_grown arena arena' timed kept more time rows = record {
  time = kept.time ∙ sym time;
  few = (let f = kept.few in omega (arith, f, more));
  watches = λ n r row before reads. kept.watches n r (sym (rows n (let f = kept.few in omega (arith, f, before))) ∙ row) before reads;
  alone = λ n def is. let t = kept.alone n def is in record {
    row = t.row;
    is_row = rows n (let f = kept.few in let b = t.before in omega (arith, f, b)) ∙ t.is_row;
    is_def = t.is_def;
    reads = t.reads;
    before = t.before;
  };
  stale = kept.stale;
}

-- a node was dropped, and is watched no longer
pub clock_dropped : (arena arena' : Arena) (timed timed' : Timed) (id : NodeId) → KeepsClock arena timed → Forgets timed timed' id
    → nodes.Changes arena arena' id None → arena'.given ≡ arena.given → KeepsClock arena' timed'
clock_dropped arena arena' timed timed' id kept forgets dropped given = record {
  time = forgets.time ∙ (kept.time ∙ sym dropped.time);
  few = (let f = kept.few in let t = taken in omega (arith, f, given, t));
  watches = λ n r row before reads. let ne = left n r row in
      forgets.others n ne ∙ kept.watches n r (sym (dropped.others n ne) ∙ row) (let t = taken in omega (arith, t, before)) reads;
  alone = λ n def is.
      let ne = watched_other n def is in
      let t = kept.alone n def (sym (forgets.others n ne) ∙ is) in record {
        row = t.row;
        is_row = dropped.others n ne ∙ t.is_row;
        is_def = t.is_def;
        reads = t.reads;
        before = (let b = t.before in let k = taken in omega (arith, b, k));
      };
  stale = ap (λ (t : Timed). t.stale) forgets.rest ∙ kept.stale;
}
  where
    taken : timed'.taken ≡ timed.taken
    taken = ap (λ (t : Timed). t.taken) forgets.rest

    left : (n : NodeId) (r : Row) → row_at arena' n ≡ Some r → n ≢ id
    left n r row is = none-some r (sym dropped.changed ∙ (ap (row_at arena') (sym is) ∙ row))

    watched_other : (n : NodeId) (def : Def) → watched timed'.clock n ≡ Some def → n ≢ id
    watched_other n def w is = none-some def (sym forgets.gone ∙ (ap (watched timed'.clock) (sym is) ∙ w))

-- a variable doesn't read the clock
var_reads : (def : Def) (v : Value) → def ≡ Var v → reads_clock def ≡ true → ⊥
var_reads def v is reads = let e : false ≡ true = sym (ap reads_clock is) ∙ reads in cc

-- a variable was set
module _ (arena arena' : Arena) (timed : Timed) (id : NodeId) (v : Value) (kept : KeepsClock arena timed) (set : IsSet arena arena' id v)
    (variable : (w : Value) × (set.row.def ≡ Var w)) (given : arena'.given ≡ arena.given) where
  -- it isn't watched, before or after
  not_set : (n : NodeId) (r : Row) → row_at arena' n ≡ Some r → reads_clock r.def ≡ true → n ≢ id
  not_set n r row reads is = var_reads r.def v
      (sym (ap (λ (q : Row). q.def) (same_Some (with_value set.row v) r (sym set.changes.changed ∙ (ap (row_at arena') (sym is) ∙ row))))) reads

  not_there : (n : NodeId) (r : Row) → row_at arena n ≡ Some r → reads_clock r.def ≡ true → n ≢ id
  not_there n r row reads is = var_reads r.def variable.0
      (sym (ap (λ (q : Row). q.def) (same_Some set.row r (sym set.there ∙ (ap (row_at arena) (sym is) ∙ row)))) ∙ variable.1) reads

  pub clock_set : KeepsClock arena' timed
  clock_set = record {
    time = kept.time ∙ sym set.changes.time;
    few = (let f = kept.few in omega (arith, f, given));
    watches = λ n r row before reads. kept.watches n r (sym (set.changes.others n (not_set n r row reads)) ∙ row) before reads;
    alone = λ n def is.
        let t = kept.alone n def is in
        record {
          row = t.row;
          is_row = set.changes.others n (not_there n t.row t.is_row (ap reads_clock t.is_def ∙ t.reads)) ∙ t.is_row;
          is_def = t.is_def;
          reads = t.reads;
          before = t.before;
        };
    stale = kept.stale;
  }

-- ---- taking in

none_if_never : {A : Type 0} (x : Option A) → ((y : A) → x ≡ Some y → ⊥) → x ≡ None
none_if_never None never = refl
none_if_never (Some y) never = absurd (never y refl)

module _ (arena : Arena) (timed : Timed) (kept : KeepsClock arena timed) (sound : IsSoundArena arena) (node : NodeId)
    (first : IsFirstSince arena timed.taken node) where
  -- none of its generation is watched
  pub next_free : IsFree timed.clock node
  next_free m gen = none_if_never (watched timed.clock m)
      (λ def w. let b = (kept.alone m def w).before in let s = first.since in omega (arith, b, s, gen))

  pub next_timed : (r : Row) → row_at arena node ≡ Some r → IsTimed timed.clock.time r.def
  next_timed r row = subst (λ (t : ℤ). IsTimed t r.def) (sym kept.time) (sound.timed node r row)

  -- its id was given
  pub next_few : node.gen_ + 1 ≤ arena.given
  next_few = let g = sound.given node first.live in omega (arith, g)

  -- who lives of a generation below the next is older, or is it
  older : (n : NodeId) (r : Row) → row_at arena n ≡ Some r → n.gen_ < node.gen_ + 1 → (n.gen_ < timed.taken) ⊎ (n ≡ node)
  older n r row low = elim (cases_lt n.gen_ timed.taken) [
    | inl before ↦ inl before
    | inr since ↦ inr (
        let f = first.first n (ap is_some row) since in
        sound.generations n node (ap is_some row) first.live (omega (arith, f, low)))
  ]

  -- it reads the clock, and is watched then
  pub clock_watched : (r : Row) → row_at arena node ≡ Some r → reads_clock r.def ≡ true → (clock : Clock) → clock.time ≡ timed.clock.time
      → Watches timed.clock clock node (Some r.def) → (timed' : Timed) → timed'.clock ≡ clock → timed'.taken ≡ node.gen_ + 1
      → timed'.stale ≡ timed.stale → KeepsClock arena timed'
  clock_watched r row reads clock time watches timed' is_clock is_taken is_stale = record {
    time = ap (λ (c : Clock). c.time) is_clock ∙ (time ∙ kept.time);
    few = (let f = next_few in omega (arith, f, is_taken));
    watches = λ n s is before reads_it. ap (λ (c : Clock). watched c n) is_clock ∙ elim (older n s is (omega (arith, before, is_taken))) [
      | inr same ↦ subst (λ (m : NodeId). watched clock m ≡ Some s.def) (sym same)
          (watches.changed ∙ ap (λ (q : Row). Some q.def) (same_Some r s (sym row ∙ (ap (row_at arena) (sym same) ∙ is))))
      | inl low ↦ watches.others n (λ same. let s = first.since in let e = ap (λ (m : NodeId). m.gen_) same in omega (arith, s, e, low))
          ∙ kept.watches n s is low reads_it
    ];
    alone = λ n def is. elim (id_or_other n node) [
      | inl same ↦
          let def_is : r.def ≡ def = same_Some r.def def (sym watches.changed ∙ (ap (watched clock) (sym same)
          ∙ (ap (λ (c : Clock). watched c n) (sym is_clock) ∙ is))) in record {
            row = r;
            is_row = ap (row_at arena) same ∙ row;
            is_def = def_is;
            reads = ap reads_clock (sym def_is) ∙ reads;
            before = (let e = ap (λ (m : NodeId). m.gen_) same in omega (arith, e, is_taken));
          }
      | inr ne ↦
          let t = kept.alone n def (sym (watches.others n ne) ∙ (ap (λ (c : Clock). watched c n) (sym is_clock) ∙ is)) in
          record {
            row = t.row;
            is_row = t.is_row;
            is_def = t.is_def;
            reads = t.reads;
            before = (let b = t.before in let s = first.since in omega (arith, b, s, is_taken));
          }
    ];
    stale = is_stale ∙ kept.stale;
  }

  -- it doesn't, and all stays
  pub clock_passed : (r : Row) → row_at arena node ≡ Some r → reads_clock r.def ≡ false → (timed' : Timed) → timed'.clock ≡ timed.clock
      → timed'.taken ≡ node.gen_ + 1 → timed'.stale ≡ timed.stale → KeepsClock arena timed'
  clock_passed r row reads timed' is_clock is_taken is_stale = record {
    time = ap (λ (c : Clock). c.time) is_clock ∙ kept.time;
    few = (let f = next_few in omega (arith, f, is_taken));
    watches = λ n s is before reads_it. ap (λ (c : Clock). watched c n) is_clock ∙ elim (older n s is (omega (arith, before, is_taken))) [
      | inl low ↦ kept.watches n s is low reads_it
      | inr same ↦ absurd (
          let e : r ≡ s = same_Some r s (sym row ∙ (ap (row_at arena) (sym same) ∙ is)) in
          let f : false ≡ true = sym reads ∙ (ap (λ (q : Row). reads_clock q.def) e ∙ reads_it) in cc)
    ];
    alone = λ n def is.
        let t = kept.alone n def (ap (λ (c : Clock). watched c n) (sym is_clock) ∙ is) in
        record {
          row = t.row;
          is_row = t.is_row;
          is_def = t.is_def;
          reads = t.reads;
          before = (let b = t.before in let s = first.since in omega (arith, b, s, is_taken));
        };
    stale = is_stale ∙ kept.stale;
  }

  -- one or the other
  pub clock_taken : (r : Row) → row_at arena node ≡ Some r → (clock : Clock) → clock.time ≡ timed.clock.time
      → WatchesTimed timed.clock clock node r.def → (timed' : Timed) → timed'.clock ≡ clock → timed'.taken ≡ node.gen_ + 1
      → timed'.stale ≡ timed.stale → KeepsClock arena timed'
  clock_taken r row clock time (inl (reads, watches)) timed' is_clock is_taken is_stale =
      clock_watched r row reads clock time watches timed' is_clock is_taken is_stale
  clock_taken r row clock time (inr (none, same)) timed' is_clock is_taken is_stale =
      clock_passed r row none timed' (is_clock ∙ same) is_taken is_stale

-- ---- the time has moved

pub clock_moved : (arena arena' : Arena) (timed timed' : Timed) (to : ℤ) → KeepsClock arena timed → IsMovedTo arena arena' to
    → timed'.clock.time ≡ to → KeepsWatched timed.clock timed'.clock → timed'.taken ≡ timed.taken → timed'.stale ≡ []
    → KeepsClock arena' timed'
clock_moved arena arena' timed timed' to kept moved time same taken stale = record {
  time = time ∙ sym moved.time;
  few = (let f = kept.few in let g = moved.given in omega (arith, f, g, taken));
  watches = λ n r row before reads. same n ∙ kept.watches n r (sym (moved.rows n) ∙ row) (omega (arith, before, taken)) reads;
  alone = λ n def w. let t = kept.alone n def (sym (same n) ∙ w) in record {
    row = t.row;
    is_row = moved.rows n ∙ t.is_row;
    is_def = t.is_def;
    reads = t.reads;
    before = (let b = t.before in omega (arith, b, taken));
  };
  stale = stale;
}
