-- How many nodes live in a bind's scope and in scopes within it.
use Rattle.std.proofs.Common.{◌≡◌, ◌⊎◌, inl, inr, ℕ, zero, suc, ◌+◌, ◌-◌, ◌<◌, ◌≤◌, List, [], ◌∷◌, length, Option, None, Some, refl, sym, ap, subst, ◌∙◌, arith}
use Rattle.std.specs.Prelude.{sum_by}
use Rattle.std.proofs.lemmas.Option.{none-some, same_Some}
use Rattle.inc_value.specs.Choice.{Among, NoRepeats}
use Rattle.inc_value.specs.declared.function.FnRef.{FnRef}
use Rattle.inc_value.specs.declared.node.NodeId.{NodeId}
use Rattle.inc_terms.specs.Graph.{Graph, Row, Bind}
use Rattle.inc_terms.specs.Rebuild.{Inside, direct, nested}
use Rattle.node_arena.specs.Arena.{Arena}
use Rattle.node_arena.specs.RightSide.{RightSide}
use Rattle.stabilize_round.proofs.Points.{node_or_other}
use Rattle.stabilizer.specs.Weights.{ScopesFit}
use Rattle.wiring.specs.Graph.{graph_at}
use Rattle.wiring.specs.Kept.{IsKept}
use Rattle.wiring.specs.declared.work.Work.{Work}
use Rattle.graph.specs.Few.{ScopesAreFew}
use Rattle.stabilizer.proofs.Round.Alive.{alive, alive_once, alive_row, among_alive}
use Rattle.stabilizer.proofs.Step.Giving.{no_more}
use Rattle.stabilizer.proofs.Building.Sums.{those, those_were, those_once, put}
use Rattle.graph.proofs.Grouping.{few_by_tops, stands_or_not, scope_in, up, w, row_of_scope, scope_fits, weights_are}

-- ---- who stands inside

module _ (G : Graph) (b : NodeId) where
  inside_row : (n : NodeId) → Inside G b n → (r : Row) × (G.row n ≡ Some r)
  inside_row n (direct {r = r} row scope) = (r, row)
  inside_row n (nested {r = r} row scope inner) = (r, row)

  -- who stands inside the bind stands in its scope, or in that of one who stands inside it
  steps_out : (n : NodeId) (r : Row) → G.row n ≡ Some r → Inside G b n → (r.scope ≡ Some b) ⊎ ((c : NodeId) × (r.scope ≡ Some c) × Inside G b c)
  steps_out n r is (direct {r = s} row scope) = inl (ap (λ (x : Row). x.scope) (same_Some r s (sym is ∙ row)) ∙ scope)
  steps_out n r is (nested {r = s} {c = c} row scope inner) =
      inr (c, ap (λ (x : Row). x.scope) (same_Some r s (sym is ∙ row)) ∙ scope, inner)

  -- it is told by walking outward
  module _ (older : (n c : NodeId) (r : Row) → G.row n ≡ Some r → r.scope ≡ Some c → c.gen_ < n.gen_) where
    by_outer : (n : NodeId) → ((c : NodeId) → c.gen_ < n.gen_ → Inside G b c ⊎ (Inside G b c → ⊥)) → (o : Option Row) → G.row n ≡ o
        → Inside G b n ⊎ (Inside G b n → ⊥)
    by_outer n outer None gone = inr (λ h. (let r = inside_row n h in none-some r.0 (sym gone ∙ r.1)))
    by_outer n outer (Some r) row = by r.scope refl
      where
        by : (o : Option NodeId) → r.scope ≡ o → Inside G b n ⊎ (Inside G b n → ⊥)
        by None top = inr (λ h. elim (steps_out n r row h) [ inl e ↦ none-some b (sym top ∙ e) | inr k ↦ none-some k.0 (sym top ∙ k.1) ])
        by (Some c) scope = elim (node_or_other c b) [
          | inl e ↦ inl (direct row (scope ∙ ap (λ (x : NodeId). Some x) e))
          | inr ne ↦ elim (outer c (older n c r row scope)) [
            | inl h ↦ inl (nested row scope h)
            | inr out ↦ inr (λ h. elim (steps_out n r row h) [
              | inl e ↦ ne (same_Some c b (sym scope ∙ e))
              | inr k ↦ out (subst (Inside G b) (sym (same_Some c k.0 (sym scope ∙ k.1))) k.2)
            ])
          ]
        ]

    given_before : (k : ℕ) (n : NodeId) → n.gen_ < k → Inside G b n ⊎ (Inside G b n → ⊥)
    given_before zero n less = absurd (omega (arith, less))
    given_before (suc k) n less = by_outer n (λ c l. given_before k c (omega (arith, less, l))) (G.row n) refl

    inside_or_not : (n : NodeId) → Inside G b n ⊎ (Inside G b n → ⊥)
    inside_or_not n = given_before (n.gen_ + 1) n (omega arith)

-- who is in the list and has the property is among those that have it
those_are : {A : Type 0} {P : A → Type 0} (d : (a : A) → P a ⊎ (P a → ⊥)) (a : A) (xs : List A) → Among a xs → P a → Among a (those d xs)
those_are d a [] h p = absurd h
those_are {A} {P} d a (x ∷ xs) h p = by (d x) h (λ m. those_are d a xs m p)
  where
    by : (c : P x ⊎ (P x → ⊥)) → Among a (x ∷ xs) → (Among a xs → Among a (those d xs)) → Among a (put c x (those d xs))
    by (inl q) (inl e) rest = inl e
    by (inl q) (inr m) rest = inr (rest m)
    by (inr q) (inl e) rest = absurd (q (subst P e p))
    by (inr q) (inr m) rest = rest m

-- ---- scopes that end at a bind

-- none in place of the bind
abbrev if_other : {P : Type 0} → P ⊎ (P → ⊥) → NodeId → Option NodeId
if_other (inl h) c = None
if_other (inr h) c = Some c

abbrev but : NodeId → Option NodeId → Option NodeId
but b None = None
but b (Some c) = if_other (node_or_other c b) c

but_some : (b : NodeId) (o : Option NodeId) (c : NodeId) → but b o ≡ Some c → (o ≡ Some c) × (c ≡ b → ⊥)
but_some b None c e = absurd (none-some c e)
but_some b (Some x) c e = by (node_or_other x b) e
  where
    by : (d : (x ≡ b) ⊎ (x ≡ b → ⊥)) → if_other d x ≡ Some c → (◌≡◌ {A = Option NodeId} (Some x) (Some c)) × (c ≡ b → ⊥)
    by (inl h) e = absurd (none-some c e)
    by (inr ne) e = (e, λ is. ne (same_Some x c e ∙ is))

but_none : (b x : NodeId) → but b (Some x) ≡ None → x ≡ b
but_none b x e = by (node_or_other x b) e
  where
    by : (d : (x ≡ b) ⊎ (x ≡ b → ⊥)) → if_other d x ≡ None → x ≡ b
    by (inl h) e = h
    by (inr ne) e = absurd (none-some x (sym e))

-- ---- inside a bind that lives

module _ (right : FnRef → RightSide) (a : Arena) (work : Work) (fit : ScopesFit right a) (kept : IsKept a work) (b : NodeId) where
  abbrev G : Graph
  G = graph_at a work

  d : (n : NodeId) → Inside G b n ⊎ (Inside G b n → ⊥)
  d = inside_or_not G b kept.older

  abbrev within : List NodeId
  within = those d (alive a)

  were : (n : NodeId) → Among n within → Among n (alive a) × Inside G b n
  were n h = those_were d n (alive a) h

  are : (n : NodeId) → Inside G b n → Among n within
  are n h = let r = inside_row G b n h in those_are d n (alive a) (among_alive a n r.0 r.1) h

  abbrev wide : NodeId → ℕ
  wide = w right a fit kept.scopes

  abbrev outer : NodeId → Option NodeId
  outer n = but b (up right a fit kept.scopes n)

  covers : (n c : NodeId) → Among n within → outer n ≡ Some c → Among c within
  covers n c h e =
      let k = were n h in
      let u = but_some b (up right a fit kept.scopes n) c e in
      let s = row_of_scope right a fit kept.scopes n c u.0 in
      elim (steps_out G b n s.row s.is_row k.1) [
        | inl at_b ↦ absurd (u.1 (same_Some c b (sym s.scope ∙ at_b)))
        | inr m ↦ are c (subst (Inside G b) (sym (same_Some c m.0 (sym s.scope ∙ m.1))) m.2)
      ]

  fits : (c : NodeId) → Among c within → (some : List NodeId) → NoRepeats some
      → ((n : NodeId) → Among n some → Among n within × (outer n ≡ Some c)) → sum_by wide some ≤ wide c - 1
  fits c h some once stand =
      scope_fits right a fit kept.scopes c (were c h).0 some once
      (λ n i. ((were n (stand n i).0).0, (but_some b (up right a fit kept.scopes n) c (stand n i).1).0))

  abbrev tops : List NodeId
  tops = those (λ n. stands_or_not (up right a fit kept.scopes n) b) within

  lists : (n : NodeId) → Among n within → outer n ≡ None → Among n tops
  lists n h e =
      let k = were n h in
      let r = alive_row a n k.0 in
      those_are (λ n. stands_or_not (up right a fit kept.scopes n) b) n within h (elim (steps_out G b n r.0 r.1 k.1) [
        | inl at_b ↦ ap scope_in r.1 ∙ at_b
        | inr m ↦
            let is : up right a fit kept.scopes n ≡ Some m.0 = ap scope_in r.1 ∙ m.1 in
            is ∙ ap (λ (x : NodeId). Some x) (but_none b m.0 (sym (ap (but b) is) ∙ e))
      ])

  -- as many stand inside as those in its own scope count as
  few_within : length within ≤ sum_by wide tops
  few_within =
      few_by_tops outer wide (λ n. wide n - 1) within (those_once d (alive a) (alive_once a)) (λ n h. weights_are right a fit kept.scopes n (were n h).0)
      covers fits tops lists

  fit_within : (r : Row) (left : NodeId) (f : FnRef) (captures : List NodeId) → G.row b ≡ Some r → r.def ≡ Bind left f captures
      → length within ≤ (right f).size
  fit_within r left f captures row bind =
      let few = few_within in
      let most = fit b r left f captures row bind tops
      (those_once (λ n. stands_or_not (up right a fit kept.scopes n) b) within (those_once d (alive a) (alive_once a)))
      (λ n h. row_of_scope right a fit kept.scopes n b (those_were (λ n. stands_or_not (up right a fit kept.scopes n) b) n within h).1) in
      omega (arith, few, most)

pub scopes_few : (right : FnRef → RightSide) (a : Arena) (work : Work) → ScopesFit right a → IsKept a work → ScopesAreFew right (graph_at a work)
scopes_few right a work fit kept b r left f captures row bind nodes once inside =
    let most = fit_within right a work fit kept b r left f captures row bind in
    let few = no_more nodes (within right a work fit kept b) once (λ n h. are right a work fit kept b n (inside n h)) in
    omega (arith, most, few)
