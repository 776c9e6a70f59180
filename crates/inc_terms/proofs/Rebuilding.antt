-- Over any number of binds built anew: what nodes give stays, and what dies is told by what binds are built for.
use Rattle.std.proofs.Common.{◌≡◌, inl, inr, ℕ, ◌≤◌, List, Bool, Option, None, Some, refl, sym, ◌∙◌, ap, arith}
use Rattle.inc_value.specs.declared.function.FnRef.{FnRef}
use Rattle.inc_value.specs.declared.node.NodeId.{NodeId}
use Rattle.inc_value.specs.declared.outcome.Outcome.{Outcome}
use Rattle.inc_value.specs.Choice.{Reaches, here, step}
use Rattle.inc_terms.specs.Term.{Functions}
use Rattle.inc_terms.specs.Graph as graph
use Rattle.inc_terms.specs.Graph.{Graph, Row, Built}
use Rattle.inc_terms.specs.Within.{FunctionsWithin, Given, Fit}
use Rattle.inc_terms.specs.Evaluate.{NodeGives}
use Rattle.inc_terms.specs.Rebuild.{Inside, direct, nested, IsDue, Rebuilds}
use Rattle.inc_terms.specs.Rebuilding.{Moment, BuildStep, RebuildingKeeps, outcome_of, Dies, BuildingKills}
use Rattle.inc_terms.proofs.Evaluation.{one_outcome}
use Rattle.inc_terms.proofs.Within.{functions_within}
use Rattle.inc_terms.proofs.Rebuild.{same_after}
use Rattle.inc_terms.proofs.Depending.{no_stand, subject_given}
use Rattle.inc_terms.proofs.Meanings.{rebuild_keeps}

pub later_given : (count later : ℕ) (n : NodeId) → count ≤ later → Given count n → Given later n
later_given count later n le p = omega arith

pub rebuilding_keeps : RebuildingKeeps
rebuilding_keeps F known ids m end here n p o = ((λ g. g), (λ g. g))
rebuilding_keeps F known ids m end (step {b = next} s rest) n p o =
    let first = rebuild_keeps F known ids m.given m.graph next.graph s.bind s.outcome s.rebuilds n p o in
    let there = rebuilding_keeps F known ids next end rest n (later_given m.given next.given n s.later p) o in
    ((λ g. there.0 (first.0 g)), (λ g. first.1 (there.1 g)))

pub inside_through : (G : Graph) (a c n : NodeId) → Inside G a c → Inside G c n → Inside G a n
inside_through G a c n out (direct e s) = nested e s out
inside_through G a c n out (nested {c = d} e s i) = nested e s (inside_through G a c d out i)

-- ---- over one bind

module _ (F : Functions) (known : FnRef → Bool) (ids : FnRef → List NodeId) (count : ℕ) (G H : Graph) (b : NodeId)
    (now : Outcome) (s : Rebuilds F known ids count G H b now) where
  fine : FunctionsWithin F (Given count) (Fit count known ids)
  fine = functions_within F known ids (Given count) s.laws

  pub scope_given : (a n : NodeId) → Inside G a n → Given count a
  scope_given a n (direct {r} e sc) = s.names.scope n r a e sc
  scope_given a n (nested {c} e sc i) = scope_given a c i

  -- the bind that is due doesn't stand in its own scope
  pub apart : Inside G b b → ⊥
  apart i = no_stand F (Given count) (Fit count known ids) fine G H s.names b now s.due s.rebuilt b s.due.row i s.due.is_row s.due.stands

  pub inside_before : (a n : NodeId) → Given count n → Inside H a n → Inside G a n
  inside_before a n p (direct {r} e sc) = elim (s.rebuilt.rows n p) [
    | inl h ↦ absurd (let x = h.1 in cc)
    | inr h ↦ direct (sym h.1 ∙ e) sc
  ]
  inside_before a n p (nested {r} {c} e sc i) = elim (s.rebuilt.rows n p) [
    | inl h ↦ absurd (let x = h.1 in cc)
    | inr h ↦ nested (sym h.1 ∙ e) sc (inside_before a c (s.names.scope n r c (sym h.1 ∙ e) sc) i)
  ]

  pub inside_after : (a n : NodeId) → Given count n → (Inside G b n → ⊥) → Inside G a n → Inside H a n
  inside_after a n p out (direct {r} e sc) = elim (s.rebuilt.rows n p) [
    | inl h ↦ absurd (out h.0)
    | inr h ↦ direct (h.1 ∙ e) sc
  ]
  inside_after a n p out (nested {r} {c} e sc i) = elim (s.rebuilt.rows n p) [
    | inl h ↦ absurd (out h.0)
    | inr h ↦ nested (h.1 ∙ e) sc (inside_after a c (s.names.scope n r c e sc) (λ j. out (nested e sc j)) i)
  ]

  -- a bind round a node that stays is built for the same as before
  pub built_before : (a n : NodeId) → (Inside G b n → ⊥) → Inside G a n → H.built a ≡ G.built a
  built_before a n out i = s.rebuilt.built a (scope_given a n i) (λ (same : a ≡ b). out (rw same at i)) (λ j. out (inside_through G b a n j i))

  -- the left of a bind is given
  left_given : (n : NodeId) (r : Row) (l : NodeId) (f : FnRef) (caps : List NodeId) → G.row n ≡ Some r → r.def ≡ graph.Bind l f caps → Given count l
  left_given n r l f caps e def = subject_given F (Given count) (Fit count known ids) fine G H s.names b now s.due s.rebuilt n r l e (rw def refl)

  still_gives : (n : NodeId) (o : Outcome) → Given count n → NodeGives F G n o → NodeGives F H n o
  still_gives n o p g = same_after F (Given count) (Fit count known ids) fine G H s.names b now s.due s.rebuilt n p o g

-- ---- over any number

module _ (F : Functions) (known : FnRef → Bool) (ids : FnRef → List NodeId) where
  abbrev Step : Moment → Moment → Type 0
  Step m next = BuildStep F known ids m next

  pub stays_dead : (m end : Moment) → Reaches Step m end → (n : NodeId) → Given m.given n → m.graph.row n ≡ None → end.graph.row n ≡ None
  stays_dead m end here n p e = e
  stays_dead m end (step {b = next} s rest) n p e =
      stays_dead next end rest n (later_given m.given next.given n s.step.later p)
      (elim (s.step.rebuilds.rebuilt.rows n p) [ inl h ↦ h.1 | inr h ↦ h.1 ∙ e ])

  -- a bind that is built for what its left gives isn't due
  not_due : (m next : Moment) (s : Step m next) (n : NodeId) (r : Row) (l : NodeId) (f : FnRef) (caps : List NodeId)
      (o : Outcome) → m.graph.row n ≡ Some r
      → r.def ≡ graph.Bind l f caps → NodeGives F m.graph l o → outcome_of (m.graph.built n) ≡ Some o → n ≡ s.step.bind → ⊥
  not_due m next s n r l f caps o e def g is same = for_it (m.graph.built n) refl
    where
      due : IsDue F m.graph s.step.bind s.step.outcome
      due = s.step.rebuilds.due

      outcomes : o ≡ s.step.outcome
      outcomes =
          let row : m.graph.row s.step.bind ≡ Some r = rw (← same) e in
          let rows : due.row ≡ r = (let a = due.is_row in cc) in
          let defs : graph.Bind due.left due.function due.captures ≡ graph.Bind l f caps =
          (let a = due.is_bind in let c = ap (λ (z : Row). z.def) rows in cc) in
          let lefts : due.left ≡ l = cc in
          let there : NodeGives F m.graph l s.step.outcome = rw (← lefts) due.gives in
          one_outcome F m.graph _ o s.step.outcome g there

      for_it : (w : Option Built) → m.graph.built n ≡ w → ⊥
      for_it None ew = absurd (let a : outcome_of None ≡ Some o = rw ew at is in cc)
      for_it (Some w) ew =
          let a : outcome_of (Some w) ≡ Some o = rw ew at is in
          let c : w.outcome ≡ o = cc in
          due.changed w (rw same at ew) (c ∙ outcomes)

  -- a bind that is built for what its left gives, and lives at the end, is built for it then
  stays_built : (m end : Moment) → Reaches Step m end
      → (n : NodeId) (r x : Row) (l : NodeId) (f : FnRef) (caps : List NodeId) (o : Outcome) → Given m.given n
      → m.graph.row n ≡ Some r → r.def ≡ graph.Bind l f caps → NodeGives F m.graph l o
      → outcome_of (m.graph.built n) ≡ Some o → end.graph.row n ≡ Some x
      → outcome_of (end.graph.built n) ≡ Some o
  stays_built m end here n r x l f caps o p e def g is live = is
  stays_built m end (step {b = next} s rest) n r x l f caps o p e def g is live =
      let re = s.step.rebuilds in
      let later : Given next.given n = later_given m.given next.given n s.step.later p in
      elim (re.rebuilt.rows n p) [
        | inl h ↦ absurd (let d = stays_dead next end rest n later h.1 in cc)
        | inr h ↦
            let built = re.rebuilt.built n p (λ (same : n ≡ s.step.bind). not_due m next s n r l f caps o e def g is same) h.0 in
            let lp = left_given F known ids m.given m.graph next.graph s.step.bind s.step.outcome re n r l f caps e def in
            stays_built next end rest n r x l f caps o later (h.1 ∙ e) def
            (still_gives F known ids m.given m.graph next.graph s.step.bind s.step.outcome re l o lp g) (rw built is) live
      ]

  -- the bind of a step lives after it
  bind_stays : (m next : Moment) (s : Step m next) → next.graph.row s.step.bind ≡ Some s.step.rebuilds.due.row
  bind_stays m next s =
      let re = s.step.rebuilds in
      elim (re.rebuilt.rows s.step.bind (re.names.live s.step.bind re.due.row re.due.is_row)) [
        | inl h ↦ absurd (apart F known ids m.given m.graph next.graph s.step.bind s.step.outcome re h.0)
        | inr h ↦ h.1 ∙ re.due.is_row
      ]

  -- the bind of a step is built for its outcome at the end, where it lives
  pub built_at_end : (m next end : Moment) (s : Step m next) → Reaches Step next end → (x : Row) → end.graph.row s.step.bind ≡ Some x
      → outcome_of (end.graph.built s.step.bind) ≡ Some s.step.outcome
  built_at_end m next end s rest x live =
      let re = s.step.rebuilds in
      let b = s.step.bind in
      let bp : Given m.given b = re.names.live b re.due.row re.due.is_row in
      let lp = left_given F known ids m.given m.graph next.graph b s.step.outcome re b re.due.row re.due.left
      re.due.function re.due.captures re.due.is_row re.due.is_bind in
      let gives = still_gives F known ids m.given m.graph next.graph b s.step.outcome re re.due.left s.step.outcome lp re.due.gives in
      let is : outcome_of (next.graph.built b) ≡ Some s.step.outcome = rw s.is_built (ap (λ (o : Outcome). Some o) s.for_outcome) in
      stays_built next end rest b re.due.row x re.due.left re.due.function re.due.captures s.step.outcome
      (later_given m.given next.given b s.step.later bp)
      (bind_stays m next s) re.due.is_bind gives is live

  -- what the bind of a step was built for before is another outcome
  pub was_other : (m next : Moment) (s : Step m next) (w : Option Built) → m.graph.built s.step.bind ≡ w → outcome_of w ≡ Some s.step.outcome → ⊥
  was_other m next s None e h = absurd (cc)
  was_other m next s (Some w) e h = let same : w.outcome ≡ s.step.outcome = cc in s.step.rebuilds.due.changed w e same

  -- a node of the scope of a step's bind: this is built for another outcome at the end, or died itself
  fell : (m next end : Moment) (s : Step m next) → Reaches Step next end → (n : NodeId) → Inside m.graph s.step.bind n
      → (x : Option Row) → end.graph.row s.step.bind ≡ x
      → (end.graph.row s.step.bind ≡ None → Dies next.graph end.graph s.step.bind) → Dies m.graph end.graph n
  fell m next end s rest n i (Some x) live ih =
      (s.step.bind, (λ same. was_other m next s (m.graph.built s.step.bind) refl (same ∙ built_at_end m next end s rest x live)), i)
  fell m next end s rest n i None dead ih =
      let re = s.step.rebuilds in
      let b = s.step.bind in
      let d = ih dead in
      let outer = inside_before F known ids m.given m.graph next.graph b s.step.outcome re d.0 b (re.names.live b re.due.row re.due.is_row) d.2 in
      let built = built_before F known ids m.given m.graph next.graph b s.step.outcome re d.0 b
      (λ j. apart F known ids m.given m.graph next.graph b s.step.outcome re j) outer in
      (d.0, (λ x. d.1 (ap outcome_of built ∙ x)), inside_through m.graph d.0 b n outer i)

  dead_dies : (m end : Moment) → Reaches Step m end → (n : NodeId) (r : Row) → Given m.given n → m.graph.row n ≡ Some r
      → end.graph.row n ≡ None → Dies m.graph end.graph n
  dead_dies m end here n r p e dead = absurd (cc)
  dead_dies m end (step {b = next} s rest) n r p e dead =
      let re = s.step.rebuilds in
      let b = s.step.bind in
      let p' : Given next.given n = later_given m.given next.given n s.step.later p in
      elim (re.rebuilt.rows n p) [
        | inl h ↦ fell m next end s rest n h.0 (end.graph.row b) refl
            (λ x. dead_dies next end rest b re.due.row (later_given m.given next.given b s.step.later (re.names.live b re.due.row re.due.is_row))
            (bind_stays m next s) x)
        | inr h ↦
            let d = dead_dies next end rest n r p' (h.1 ∙ e) dead in
            let i = inside_before F known ids m.given m.graph next.graph b s.step.outcome re d.0 n p d.2 in
            let built = built_before F known ids m.given m.graph next.graph b s.step.outcome re d.0 n h.0 i in
            (d.0, (λ x. d.1 (ap outcome_of built ∙ x)), i)
      ]

  dies_dead : (m end : Moment) → Reaches Step m end → (n : NodeId) (r : Row) → Given m.given n → m.graph.row n ≡ Some r
      → Dies m.graph end.graph n → end.graph.row n ≡ None
  dies_dead m end here n r p e d = absurd (d.1 refl)
  dies_dead m end (step {b = next} s rest) n r p e d =
      let re = s.step.rebuilds in
      let b = s.step.bind in
      let p' : Given next.given n = later_given m.given next.given n s.step.later p in
      elim (re.rebuilt.rows n p) [
        | inl h ↦ stays_dead next end rest n p' h.1
        | inr h ↦
            let i = inside_after F known ids m.given m.graph next.graph b s.step.outcome re d.0 n p h.0 d.2 in
            let built = built_before F known ids m.given m.graph next.graph b s.step.outcome re d.0 n h.0 d.2 in
            dies_dead next end rest n r p' (h.1 ∙ e) (d.0, (λ x. d.1 (sym (ap outcome_of built) ∙ x)), i)
      ]

pub building_kills : BuildingKills
building_kills F known ids m end run n r p e = (dead_dies F known ids m end run n r p e, dies_dead F known ids m end run n r p e)
