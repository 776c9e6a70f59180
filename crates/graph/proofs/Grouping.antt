-- The live nodes are counted by the scopes in which they stand.
use Rattle.std.proofs.Common.{◌≡◌, ◌⊎◌, inl, inr, ℕ, ◌≤◌, ◌+◌, ◌-◌, ◌^◌, List, [], ◌∷◌, length, Option, None, Some, refl, sym, ap, ◌∙◌, arith}
use Rattle.std.specs.Prelude.{sum_by}
use Rattle.std.proofs.lemmas.List.Sums.{sum_by-cons}
use Rattle.std.proofs.lemmas.Option.{none-some, same_Some}
use Rattle.inc_value.specs.Choice.{Among, NoRepeats}
use Rattle.inc_value.specs.declared.function.FnRef.{FnRef}
use Rattle.inc_value.specs.declared.node.NodeId.{NodeId}
use Rattle.inc_terms.specs.Graph.{Row, Def, Bind}
use Rattle.node_arena.specs.Arena.{Arena, row_at, live}
use Rattle.node_arena.specs.RightSide.{RightSide}
use Rattle.stabilize_round.proofs.Points.{node_or_other}
use Rattle.stabilizer.specs.Weights.{weight_of, weight_in, weight_at, IsInScope, ScopesFit}
use Rattle.stabilizer.specs.Giving.{GivesFew, HasBuilt, LacksRoom, StopsFull}
use Rattle.wiring.specs.Stands.{Counts}
use Rattle.wiring.specs.declared.refused.Refused.{Refused}
use Rattle.wiring.specs.declared.refused.Refused.TheVariants as refused
use Rattle.graph.specs.declared.fault.Kept.TheVariants as kept
use Rattle.graph.specs.Fault.{kept_of}
use Rattle.graph.specs.Few.{ListsTops, AreFew, IdsAreFew, IsFilled}
use Rattle.stabilizer.proofs.Building.Sums.{those, those_were, those_once, those_sum, share, sum_most, sum_most_but, sum_both, sum_one, sum_more, stood_for}
use Rattle.stabilizer.proofs.Step.Giving.{gives_few}
use Rattle.stabilizer.proofs.Round.Alive.{alive, alive_count, alive_once, alive_row, among_alive}

-- ---- by group

pub stands_or_not : (o : Option NodeId) (b : NodeId) → (o ≡ Some b) ⊎ (o ≡ Some b → ⊥)
stands_or_not None b = inr (λ e. none-some b e)
stands_or_not (Some c) b = elim (node_or_other c b) [ inl e ↦ inl (ap (λ (x : NodeId). Some x) e) | inr ne ↦ inr (λ e. ne (same_Some c b e)) ]

abbrev outside_or_not : (o : Option NodeId) → (o ≡ None) ⊎ (o ≡ None → ⊥)
outside_or_not None = inl refl
outside_or_not (Some c) = inr (λ e. none-some c (sym e))

module _ (up : NodeId → Option NodeId) (w : NodeId → ℕ) where
  -- what a node counts as in the scope of b, in none, and in any
  abbrev part : NodeId → NodeId → ℕ
  part b n = share (stands_or_not (up n) b) (w n)

  abbrev outside : NodeId → ℕ
  outside n = share (outside_or_not (up n)) (w n)

  abbrev inside_of : Option NodeId → ℕ → ℕ
  inside_of None k = 0
  inside_of (Some c) k = k

  abbrev inside : NodeId → ℕ
  inside n = inside_of (up n) (w n)

  in_or_out : (n : NodeId) → w n ≡ outside n + inside n
  in_or_out n = by (up n)
    where
      by : (o : Option NodeId) → w n ≡ share (outside_or_not o) (w n) + inside_of o (w n)
      by None = omega arith
      by (Some c) = omega arith

  abbrev groups : List NodeId → List NodeId → ℕ
  groups binds nodes = sum_by (λ b. sum_by (part b) nodes) binds

  groups_cons : (n : NodeId) (nodes binds : List NodeId) → groups binds (n ∷ nodes) ≡ sum_by (λ b. part b n) binds + groups binds nodes
  groups_cons n nodes binds =
      sum_both (λ b. part b n) (λ b. sum_by (part b) nodes) (λ b. sum_by (part b) (n ∷ nodes)) binds (λ b. sum_by-cons (part b) n nodes)

  part_same : (n b : NodeId) → up n ≡ Some b → part b n ≡ w n
  part_same n b e = by (stands_or_not (up n) b)
    where
      by : (d : (up n ≡ Some b) ⊎ (up n ≡ Some b → ⊥)) → share d (w n) ≡ w n
      by (inl h) = refl
      by (inr h) = absurd (h e)

  inside_one : (n : NodeId) (binds : List NodeId) → ((b : NodeId) → up n ≡ Some b → Among b binds) → inside n ≤ sum_by (λ b. part b n) binds
  inside_one n binds covers = by (up n) refl
    where
      by : (o : Option NodeId) → up n ≡ o → inside_of o (w n) ≤ sum_by (λ b. part b n) binds
      by None e = omega arith
      by (Some b) e = let one = sum_one (λ c. part c n) b binds (covers b e) in let same = part_same n b e in omega (arith, one, same)

  -- all that stand in scopes come to no more than all scopes do
  inside_groups : (nodes binds : List NodeId) → ((n b : NodeId) → Among n nodes → up n ≡ Some b → Among b binds)
      → sum_by inside nodes ≤ groups binds nodes
  inside_groups [] binds covers = omega arith
  inside_groups (n ∷ nodes) binds covers =
      let one = inside_one n binds (λ b e. covers n b (inl refl) e) in
      let rest = inside_groups nodes binds (λ m b a e. covers m b (inr a) e) in
      let sum = sum_by-cons inside n nodes in
      let cons = groups_cons n nodes binds in
      omega (arith, one, rest, sum, cons)

  module _ (below : NodeId → ℕ) (nodes : List NodeId) (once : NoRepeats nodes)
      (weights : (n : NodeId) → Among n nodes → w n ≡ below n + 1)
      (covers : (n b : NodeId) → Among n nodes → up n ≡ Some b → Among b nodes)
      (fits : (b : NodeId) → Among b nodes → (some : List NodeId) → NoRepeats some
      → ((n : NodeId) → Among n some → Among n nodes × (up n ≡ Some b)) → sum_by w some ≤ below b) where
    group_fits : (b : NodeId) → Among b nodes → sum_by (part b) nodes ≤ below b
    group_fits b among =
        let d : (n : NodeId) → (up n ≡ Some b) ⊎ (up n ≡ Some b → ⊥) = λ n. stands_or_not (up n) b in
        let most = fits b among (those d nodes) (those_once d nodes once) (λ n a. those_were d n nodes a) in
        let sum = those_sum d w nodes in
        omega (arith, most, sum)

    -- with what the scopes leave free there are no more than those that stand in no scope count as
    tops_hold : (free : ℕ) → groups nodes nodes + free ≤ sum_by below nodes → (tops : List NodeId)
        → ((n : NodeId) → Among n nodes → up n ≡ None → Among n tops) → length nodes + free ≤ sum_by w tops
    tops_hold free each tops lists =
        let d : (n : NodeId) → (up n ≡ None) ⊎ (up n ≡ None → ⊥) = λ n. outside_or_not (up n) in
        let split = sum_both outside inside w nodes in_or_out in
        let all = inside_groups nodes nodes covers in
        let more = sum_more below w nodes weights in
        let sum = those_sum d w nodes in
        let stood = stood_for (λ (n : NodeId). n) w w (those d nodes) tops (those_once d nodes once)
        (λ n a. (let is = those_were d n nodes a in record { other = n; among = lists n is.0 is.1; same = refl; most = omega arith })) in
        omega (arith, split, all, each, more, sum, stood)

    pub few_by_tops : (tops : List NodeId) → ((n : NodeId) → Among n nodes → up n ≡ None → Among n tops) → length nodes ≤ sum_by w tops
    few_by_tops tops lists =
        let each = sum_most (λ b. sum_by (part b) nodes) below nodes group_fits in
        let hold = tops_hold 0 (omega (arith, each)) tops lists in
        omega (arith, hold)

    none_in : (b : NodeId) → (some : List NodeId) → ((n : NodeId) → Among n some → up n ≡ Some b → ⊥) → sum_by (part b) some ≡ 0
    none_in b [] none = refl
    none_in b (n ∷ ns) none = by (stands_or_not (up n) b) refl (none_in b ns (λ m h. none m (inr h)))
      where
        by : (d : (up n ≡ Some b) ⊎ (up n ≡ Some b → ⊥)) → stands_or_not (up n) b ≡ d → sum_by (part b) ns ≡ 0 → sum_by (part b) (n ∷ ns) ≡ 0
        by (inl h) e rest = absurd (none n (inl refl) h)
        by (inr h) e rest =
            let cons = sum_by-cons (part b) n ns in
            let zero : part b n ≡ 0 = ap (λ x. share x (w n)) e in
            omega (arith, rest, cons, zero)

    -- so it is with what the scope of one could hold, if nobody stands there
    few_beside : (b : NodeId) → Among b nodes → ((n : NodeId) → Among n nodes → up n ≡ Some b → ⊥) → (free : ℕ) → free ≤ below b
        → (tops : List NodeId) → ((n : NodeId) → Among n nodes → up n ≡ None → Among n tops) → length nodes + free ≤ sum_by w tops
    few_beside b among none free most tops lists =
        let zero = none_in b nodes none in
        let each = sum_most_but (λ c. sum_by (part c) nodes) below b free nodes among (omega (arith, zero, most)) group_fits in
        tops_hold free each tops lists

-- ---- refused as full

-- what is so where a build lacks room is so of what was refused as full
pub full_by : (right : FnRef → RightSide) (a : Arena) (before after : Counts) (met : Refused) → StopsFull right a before after met
    → kept_of met ≡ kept.Full → HasBuilt before after × (LacksRoom right a ⊎ (a.given ≡ 2 ^ 64 - 1))
full_by right a before after refused.Full stops is = stops
full_by right a before after refused.Memory stops is = absurd (cc)
full_by right a before after (refused.Height points) stops is = absurd (cc)
full_by right a before after (refused.Cycle points) stops is = absurd (cc)

-- ---- live nodes

abbrev pub scope_in : Option Row → Option NodeId
scope_in None = None
scope_in (Some r) = r.scope

module _ (right : FnRef → RightSide) (a : Arena) (fit : ScopesFit right a)
    (scoped : (n : NodeId) (r : Row) (b : NodeId) → row_at a n ≡ Some r → r.scope ≡ Some b
    → (s : Row) × (l : NodeId) × (f : FnRef) × (captures : List NodeId) × (row_at a b ≡ Some s) × (s.def ≡ Bind l f captures)) where
  abbrev pub up : NodeId → Option NodeId
  up n = scope_in (row_at a n)

  abbrev pub w : NodeId → ℕ
  w = weight_at right a

  pub row_of_scope : (n b : NodeId) → up n ≡ Some b → IsInScope a b n
  row_of_scope n b e = by (row_at a n) refl e
    where
      by : (o : Option Row) → row_at a n ≡ o → scope_in o ≡ Some b → IsInScope a b n
      by None row e = absurd (none-some b e)
      by (Some r) row e = record { row = r; is_row = row; scope = e }

  one_more : (def : Def) → weight_of right def ≡ (weight_of right def - 1) + 1
  one_more (Bind l f captures) = omega arith
  one_more _ = refl

  pub scope_fits : (b : NodeId) → Among b (alive a) → (some : List NodeId) → NoRepeats some
      → ((n : NodeId) → Among n some → Among n (alive a) × (up n ≡ Some b)) → sum_by w some ≤ w b - 1
  scope_fits b among [] once stand = omega arith
  scope_fits b among (n ∷ ns) once stand =
      let s = row_of_scope n b (stand n (inl refl)).1 in
      let bind = scoped n s.row b s.is_row s.scope in
      let most = fit b bind.0 bind.1 bind.2 bind.3 bind.4 bind.5 (n ∷ ns) once (λ m h. row_of_scope m b (stand m h).1) in
      let is : w b ≡ (right bind.2).size + 1 = ap (weight_in right) bind.4 ∙ ap (weight_of right) bind.5 in
      omega (arith, most, is)

  pub weights_are : (n : NodeId) → Among n (alive a) → w n ≡ (w n - 1) + 1
  weights_are n h =
      let r = alive_row a n h in
      let is : w n ≡ weight_of right r.0.def = ap (weight_in right) r.1 in
      let more = one_more r.0.def in
      omega (arith, is, more)

  binds_live : (n b : NodeId) → Among n (alive a) → up n ≡ Some b → Among b (alive a)
  binds_live n b h e =
      let s = row_of_scope n b e in
      let bind = scoped n s.row b s.is_row s.scope in
      among_alive a b bind.0 bind.4

  are_listed : (tops : List NodeId) → ListsTops a tops → (n : NodeId) → Among n (alive a) → up n ≡ None → Among n tops
  are_listed tops lists n h e = let r = alive_row a n h in lists n r.0 r.1 (sym (ap scope_in r.1) ∙ e)

  pub few_live : AreFew right a
  few_live tops lists =
      let few = few_by_tops up w (λ n. w n - 1) (alive a) (alive_once a) weights_are binds_live scope_fits tops (are_listed tops lists) in
      let count = alive_count a in
      omega (arith, few, count)

  -- with what the function of a bind takes, in whose scope nobody stands, there are no more either
  pub few_beside_live : (b : NodeId) (r : Row) (left : NodeId) (f : FnRef) (captures : List NodeId) → row_at a b ≡ Some r
      → r.def ≡ Bind left f captures → ((n : NodeId) → IsInScope a b n → ⊥) → (free : ℕ) → free ≤ (right f).size → (tops : List NodeId)
      → ListsTops a tops → live a + free ≤ sum_by (weight_at right a) tops
  few_beside_live b r left f captures row def none free most tops lists =
      let is : w b ≡ (right f).size + 1 = ap (weight_in right) row ∙ ap (weight_of right) def in
      let few = few_beside up w (λ n. w n - 1) (alive a) (alive_once a) weights_are binds_live scope_fits b (among_alive a b r row)
      (λ n h e. none n (row_of_scope n b e)) free (omega (arith, is, most)) tops (are_listed tops lists) in
      let count = alive_count a in
      omega (arith, few, count)

  -- so no more ids were given, if they are of live nodes but for those of one build that was refused
  pub ids_few : (count : ℕ) → GivesFew right count a → IdsAreFew right count a
  ids_few count few tops lists =
      let given = gives_few count few.spent a few.gives in
      elim few.room [
        | inl none ↦ let live = few_live tops lists in omega (arith, given, none, live)
        | inr room ↦
            let live = few_beside_live room.bind room.row room.left room.function room.captures room.is_row room.is_bind room.empty few.spent
            room.most tops lists in
            omega (arith, given, live)
      ]

  -- where a build lacked room they count as as many as there may be
  filled : LacksRoom right a ⊎ (a.given ≡ 2 ^ 64 - 1) → IsFilled right a
  filled (inr given) tops lists = inr given
  filled (inl lacks) tops lists =
      let room = lacks.room in
      let full = lacks.full in
      let live = few_beside_live room.bind room.row room.left room.function room.captures room.is_row room.is_bind room.empty lacks.spent room.most
      tops lists in
      inl (omega (arith, full, live))

  -- so it is of what was refused as full, behind a build that was counted
  pub filled_by : (before after : Counts) (met : Refused) → StopsFull right a before after met → kept_of met ≡ kept.Full
      → IsFilled right a × HasBuilt before after
  filled_by before after met stops is = let full = full_by right a before after met stops is in (filled full.1, full.0)
