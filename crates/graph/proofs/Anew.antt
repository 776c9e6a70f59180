-- What a given node gives a stabilize doesn't change; and of the binds that it built none is built for what it was, and each is met.
use Rattle.std.proofs.Common.{◌≡◌, ◌⊎◌, inl, inr, ℕ, zero, suc, Bool, true, false, cond, List, Option, None, Some, IsSome, is_some, refl, sym, ap, subst, ◌∙◌, arith}
use Rattle.std.proofs.lemmas.Bool.{cases_lt}
use Rattle.inc_value.specs.Choice.{Among, and_then}
use Rattle.inc_value.specs.declared.function.FnKind.{FnKind}
use Rattle.inc_value.specs.declared.function.FnRef.{FnRef}
use Rattle.inc_value.specs.declared.node.NodeId.{NodeId}
use Rattle.inc_value.specs.declared.outcome.Outcome.{Outcome}
use Rattle.inc_value.specs.declared.outcome.Outcome.TheVariants.{Val, Invalid}
use Rattle.inc_value.specs.declared.value.Value.{Value}
use Rattle.inc_value.specs.declared.value.Value.TheVariants as value
use Rattle.inc_terms.specs.Evaluate.{Query, Of, Around, as_built, left_holds, bind_holds, scope_level, node_level, level, answer, with_value, Gives, NodeGives}
use Rattle.inc_terms.specs.Graph as graph_def
use Rattle.inc_terms.specs.Graph.{Graph, Row, Built, Def, Bind, present, present_def}
use Rattle.inc_terms.specs.Local.{Scoped}
use Rattle.inc_terms.specs.Rebuild.{Inside, direct, nested, Names}
use Rattle.inc_terms.specs.Rebuilding.{outcome_of}
use Rattle.inc_terms.specs.Same.{same_outcome}
use Rattle.inc_terms.specs.Term.{Term, Ref, Functions}
use Rattle.inc_terms.specs.Within.{ValueWithin, OutcomeWithin, TermWithin, FunctionsWithin, Given, Fit}
use Rattle.inc_terms.proofs.Agreement.{Itself, then_follows}
use Rattle.inc_terms.proofs.Evaluation.{at_depth, one_outcome}
use Rattle.inc_terms.proofs.Follows.{Follows, Stays, with_follows, After, lifted}
use Rattle.inc_terms.proofs.Rebuild.{same_present}
use Rattle.inc_terms.proofs.Same.{outcome_decides}
use Rattle.inc_terms.proofs.Simulation.{Like, base, self_like, level_after}
use Rattle.stabilize_round.specs.Laws.{GraphStays}
use Rattle.stabilize_round.specs.Invariant.{ScopesRooted}
use Rattle.stabilize_round.specs.Runs.{LeftDiffers, IsBuiltRight, WasBuilt, BuildsFew}
use Rattle.stabilizer.specs.Left.{IsBuiltMetIn, BuildsRightIn, LeavesNodes}
use Rattle.stabilizer.specs.Look.{Look}
use Rattle.wiring.specs.Stands.{Counts}

-- ---- whether a bind's left gives what the bind was built for

as_built_fine : (P : NodeId → Type 0) (built : Option Built) (o p : Outcome) → as_built built o ≡ Some p → OutcomeWithin P p
as_built_fine P None o (Val v) e = absurd (cc)
as_built_fine P built o Invalid e = tt
as_built_fine P (Some b) o (Val v) e = picked (same_outcome o b.outcome) e
  where
    picked : (t : Bool) → cond t (Some (Val (value.Bool true))) (Some Invalid) ≡ Some (Val v) → ValueWithin P v
    picked true e = let same : value.Bool true ≡ v = cc in rw (← same) tt
    picked false e = absurd (cc)

other_outcome : (built : Option Built) (o : Outcome) → ((w : Built) → built ≡ Some w → w.outcome ≡ o → ⊥) → as_built built o ≡ Some Invalid
other_outcome None o h = refl
other_outcome (Some w) o h = told (same_outcome o w.outcome) refl
  where
    told : (t : Bool) → same_outcome o w.outcome ≡ t → cond t (Some (Val (value.Bool true))) (Some Invalid) ≡ Some Invalid
    told true e = absurd (h w refl (sym ((outcome_decides o w.outcome).0 e)))
    told false e = refl

-- ---- who stood inside a bind whose left gives another outcome than it was built for gave Invalid, if anything

module _ (F : Functions) (G : Graph) (b : NodeId) (differs : LeftDiffers F G b) where
  left_fails : (d : ℕ) (def : Def) → differs.row.def ≡ def → (o : Outcome) → left_holds (answer F G d) (G.built b) def ≡ Some o → o ≡ Invalid
  left_fails d def is o e =
      let bind : graph_def.Bind differs.left differs.function differs.captures ≡ def = sym differs.is_bind ∙ is in
      by_left (answer F G d (Of (Ref differs.left))) refl (rw (← bind) at e)
    where
      by_left : (a : Option Outcome) → answer F G d (Of (Ref differs.left)) ≡ a → and_then a (as_built (G.built b)) ≡ Some o → o ≡ Invalid
      by_left None at e = absurd (cc)
      by_left (Some p) at e =
          let same : p ≡ differs.outcome = one_outcome F G (Of (Ref differs.left)) p differs.outcome (d, at) differs.gives in
          let fails = other_outcome (G.built b) differs.outcome differs.changed in
          let told : as_built (G.built b) differs.outcome ≡ Some o = rw same at e in
          let both : Some Invalid ≡ Some o = sym fails ∙ told in cc

  scope_falls : (d : ℕ) (o : Outcome) → answer F G d (Around (Some b)) ≡ Some o → o ≡ Invalid
  unfolding answer
  scope_falls zero o e = absurd (cc)
  scope_falls (suc d) o e = by_outer (answer F G d (Around differs.row.scope)) (rw differs.is_row at e)
    where
      by_outer : (a : Option Outcome) → with_value a (λ (t : Value). left_holds (answer F G d) (G.built b) differs.row.def) ≡ Some o → o ≡ Invalid
      by_outer None e = absurd (cc)
      by_outer (Some Invalid) e = cc
      by_outer (Some (Val t)) e = left_fails d differs.row.def refl o e

  -- nor does one round which none stands
  round_falls : (c : NodeId) → ((q : Row) → G.row c ≡ Some q → (d : ℕ) (o : Outcome) → answer F G d (Around q.scope) ≡ Some o → o ≡ Invalid)
      → (d : ℕ) (o : Outcome) → answer F G d (Around (Some c)) ≡ Some o → o ≡ Invalid
  unfolding answer
  round_falls c outer zero o e = absurd (cc)
  round_falls c outer (suc d) o e = by_row (G.row c) refl e
    where
      by_outer : (q : Row) → G.row c ≡ Some q → (a : Option Outcome) → answer F G d (Around q.scope) ≡ a
          → with_value a (λ (t : Value). left_holds (answer F G d) (G.built c) q.def) ≡ Some o → o ≡ Invalid
      by_outer q at None is e = absurd (cc)
      by_outer q at (Some Invalid) is e = cc
      by_outer q at (Some (Val t)) is e = let none = outer q at d (Val t) is in absurd (cc)

      by_row : (q : Option Row) → G.row c ≡ q → bind_holds (answer F G d) (G.built c) q ≡ Some o → o ≡ Invalid
      by_row None at e = cc
      by_row (Some q) at e = by_outer q at (answer F G d (Around q.scope)) refl e

  -- the scope of who stands inside it doesn't stand
  inner_falls : (n : NodeId) (r : Row) → G.row n ≡ Some r → Inside G b n → (d : ℕ) (o : Outcome) → answer F G d (Around r.scope) ≡ Some o → o ≡ Invalid
  inner_falls n r row (direct {r = r'} row' scope) d o e =
      let rows : r ≡ r' = (let k : Some r ≡ Some r' = sym row ∙ row' in cc) in
      let is : r.scope ≡ Some b = ap (λ (q : Row). q.scope) rows ∙ scope in
      scope_falls d o (rw is at e)
  inner_falls n r row (nested {r = r'} {c} row' scope inside) d o e =
      let rows : r ≡ r' = (let k : Some r ≡ Some r' = sym row ∙ row' in cc) in
      let is : r.scope ≡ Some c = ap (λ (q : Row). q.scope) rows ∙ scope in
      round_falls c (λ q at. inner_falls c q at inside) d o (rw is at e)

  pub fallen : (n : NodeId) (r : Row) → G.row n ≡ Some r → Inside G b n → (o : Outcome) → NodeGives F G n o → o ≡ Invalid
  unfolding answer
  fallen n r row inside o (zero, e) = absurd (cc)
  fallen n r row inside o (suc d, e) = by_outer (answer F G d (Around r.scope)) refl (rw row at e)
    where
      by_outer : (a : Option Outcome) → answer F G d (Around r.scope) ≡ a
          → with_value a (λ (t : Value). answer F G d (Of (present G n r))) ≡ Some o → o ≡ Invalid
      by_outer None is e = absurd (cc)
      by_outer (Some Invalid) is e = cc
      by_outer (Some (Val t)) is e = let none = inner_falls n r row inside d (Val t) is in absurd (cc)

-- ---- what is kept gives what it gave

-- each node of P is dead in the second graph, and gave Invalid in the first, if anything; or it is kept: it has the same row, reads alike nodes of P alone,
-- and stands in the scope of a kept bind that is built for the same
record AgreesOn (F : Functions) (P : NodeId → Type 0) (Q : FnKind → FnRef → Type 0) (K : NodeId → Type 0) (G G' : Graph) : Type 0 where
  now : G'.now ≡ G.now
  either : (n : NodeId) → P n → ((G'.row n ≡ None) × ((o : Outcome) → NodeGives F G n o → o ≡ Invalid)) ⊎ K n
  row : (n : NodeId) → K n → G'.row n ≡ G.row n
  reads : (n : NodeId) (r : Row) → K n → G.row n ≡ Some r → (present G' n r ≡ present G n r) × TermWithin P Q (present G n r)
  scope : (n : NodeId) (r : Row) (b : NodeId) → K n → G.row n ≡ Some r → r.scope ≡ Some b → K b × (G'.built b ≡ G.built b)

module _ (F : Functions) (P : NodeId → Type 0) (Q : FnKind → FnRef → Type 0) (K : NodeId → Type 0) (G G' : Graph)
    (fine : FunctionsWithin F P Q) (agree : AgreesOn F P Q K G G') where
  itself : (n : NodeId) → P n → Itself P (Ref n) (Ref n)
  itself n p = (n, p, refl, refl)

  abbrev Then : Query → Option Outcome → Type 0
  Then q a = After F G' P q a

  -- a scope that both graphs judge alike
  abbrev GoodScope : Option NodeId → Type 0
  GoodScope None = Unit {0}
  GoodScope (Some b) = K b × (G'.built b ≡ G.built b)

  good_scope : (n : NodeId) (r : Row) → K n → G.row n ≡ Some r → (s : Option NodeId) → r.scope ≡ s → GoodScope s
  good_scope n r k e None es = tt
  good_scope n r k e (Some b) es = agree.scope n r b k e es

  abbrev TermsAt : ℕ → Type 0
  TermsAt d = (t u : Term) → Like P Q (Itself P) t u → Then (Of u) (answer F G d (Of t))

  abbrev ScopesAt : ℕ → Type 0
  ScopesAt d = (s : Option NodeId) → GoodScope s → Then (Around s) (answer F G d (Around s))

  module _ (d : ℕ) (terms : TermsAt d) (scopes : ScopesAt d) where
    node_after : (n : NodeId) → K n → (row row' : Option Row) → G.row n ≡ row → row' ≡ row
        → Follows P (λ e. node_level (answer F G' e) G' n row') (node_level (answer F G d) G n row)
    node_after n k None row' e e' = rw e' ((0, refl), tt)
    node_after n k (Some r) row' e e' =
        let read = agree.reads n r k e in
        let like : Like P Q (Itself P) (present G n r) (present G' n r) = rw read.0 (self_like F P Q (Itself P) itself (present G n r) read.1) in
        rw e' (with_follows P (λ x. answer F G' x (Around r.scope)) (λ x v. answer F G' x (Of (present G' n r)))
        (answer F G d (Around r.scope)) (λ v. answer F G d (Of (present G n r)))
        (λ a b o le h. at_depth F G' a b (Around r.scope) o le h) (λ v a b o le h. at_depth F G' a b (Of (present G' n r)) o le h)
        (scopes r.scope (good_scope n r k e r.scope refl)) (λ v hv x. terms (present G n r) (present G' n r) like))

    left_after : (b : NodeId) (built built' : Option Built) → built' ≡ built → (def : Def) → TermWithin P Q (present_def G b def)
        → Follows P (λ e. left_holds (answer F G' e) built' def) (left_holds (answer F G d) built def)
    left_after b built built' e (graph_def.Bind l f caps) h =
        rw e (then_follows P (λ x. answer F G' x (Of (Ref l))) (answer F G d (Of (Ref l))) (as_built built)
        (as_built_fine P built) (terms (Ref l) (Ref l) (base (itself l h.1))))
    left_after b built built' e _ h = ((0, refl), tt)

    left_stays : (built : Option Built) (def : Def) → Stays (λ e. left_holds (answer F G' e) built def)
    left_stays built (graph_def.Bind l f caps) x y o le h = rw (kept (answer F G' x (Of (Ref l))) refl h) h
      where
        kept : (a : Option Outcome) → answer F G' x (Of (Ref l)) ≡ a → and_then a (as_built built) ≡ Some o
            → answer F G' y (Of (Ref l)) ≡ answer F G' x (Of (Ref l))
        kept None e h = absurd (cc)
        kept (Some p) e h = at_depth F G' x y (Of (Ref l)) p le e ∙ sym e
    left_stays built _ x y o le h = h

    bind_after : (b : NodeId) → K b → (built built' : Option Built) → built' ≡ built → (row row' : Option Row) → G.row b ≡ row → row' ≡ row
        → Follows P (λ e. bind_holds (answer F G' e) built' row') (bind_holds (answer F G d) built row)
    bind_after b k built built' eb None row' e e' = rw e' ((0, refl), tt)
    bind_after b k built built' eb (Some r) row' e e' =
        rw e' (with_follows P (λ x. answer F G' x (Around r.scope)) (λ x v. left_holds (answer F G' x) built' r.def)
        (answer F G d (Around r.scope)) (λ v. left_holds (answer F G d) built r.def)
        (λ a b o le h. at_depth F G' a b (Around r.scope) o le h) (λ v. left_stays built' r.def)
        (scopes r.scope (good_scope b r k e r.scope refl)) (λ v hv x. left_after b built built' eb r.def (agree.reads b r k e).1))

    scope_after : (s : Option NodeId) → GoodScope s → Follows P (λ e. scope_level (answer F G' e) G' s) (scope_level (answer F G d) G s)
    scope_after None h = ((0, refl), tt)
    scope_after (Some b) h = bind_after b h.0 (G.built b) (G'.built b) h.1 (G.row b) (G'.row b) refl (agree.row b h.0)

    gone_after : (n : NodeId) → G'.row n ≡ None → ((o : Outcome) → NodeGives F G n o → o ≡ Invalid) → (a : Option Outcome)
        → answer F G (suc d) (Of (Ref n)) ≡ a → Then (Of (Ref n)) a
    unfolding answer
    gone_after n dead was None e = tt
    gone_after n dead was (Some o) e = rw (was o (suc d, e)) ((1, rw dead refl), tt)

    at_name : (n : NodeId) → P n → ((G'.row n ≡ None) × ((o : Outcome) → NodeGives F G n o → o ≡ Invalid)) ⊎ K n
        → Then (Of (Ref n)) (level F G (answer F G d) (Of (Ref n)))
    unfolding answer
    at_name n p (inl gone) = gone_after n gone.0 gone.1 (answer F G (suc d) (Of (Ref n))) refl
    at_name n p (inr k) = lifted F G' P (Of (Ref n)) _ (node_after n k (G.row n) (G'.row n) refl (agree.row n k))

    at_names : (t u : Term) → Itself P t u → Then (Of u) (level F G (answer F G d) (Of t))
    at_names t u i = rw (i.2, i.3) (at_name i.0 i.1 (agree.either i.0 i.1))

  all_after : (d : ℕ) → TermsAt d × ScopesAt d
  unfolding answer
  all_after zero = ((λ t u l. tt), (λ s h. tt))
  all_after (suc d) = let h = all_after d in (
    (λ t u l. level_after F G G' P Q (Itself P) fine agree.now itself (answer F G d) h.0 t u l (at_names d h.0 h.1 t u)),
    (λ s g. lifted F G' P (Around s) _ (scope_after d h.0 h.1 s g)),
  )

  -- what a node of the set gives it gives in the other graph
  gives_still : (n : NodeId) → P n → (o : Outcome) → NodeGives F G n o → NodeGives F G' n o
  gives_still n p o g = (rw g.1 at ((all_after g.0).0 (Ref n) (Ref n) (base (itself n p)))).0

-- ---- a stabilize

-- two outcomes are the same, or others
outcome_or : (a b : Option Outcome) → (a ≡ b) ⊎ (a ≡ b → ⊥)
outcome_or None None = inl refl
outcome_or None (Some p) = inr (λ e. cc)
outcome_or (Some o) None = inr (λ e. cc)
outcome_or (Some o) (Some p) = go (same_outcome o p) refl
  where
    go : (t : Bool) → same_outcome o p ≡ t → (Some o ≡ Some p) ⊎ (Some o ≡ Some p → ⊥)
    go true e = inl (ap (λ o. Some o) ((outcome_decides o p).0 e))
    go false e = inr (λ same. let decided = (outcome_decides o p).1 (let s : o ≡ p = cc in s) in cc)

-- what is built isn't built for nothing
unbuilt_other : (b b' : Option Built) → b' ≡ None → IsSome b → outcome_of b' ≡ outcome_of b → ⊥
unbuilt_other None b' none some same = cc
unbuilt_other (Some w) None none some same = cc
unbuilt_other (Some w) (Some w') none some same = cc

module _ (F : Functions) (known : FnRef → Bool) (ids : FnRef → List NodeId) (count later : ℕ) (G G' : Graph)
    (fine : FunctionsWithin F (Given count) (Fit count known ids)) (names : Names (Given count) (Fit count known ids) G) (scoped : Scoped G)
    (rooted : ScopesRooted G) (stays : GraphStays count later G G') (before after : Counts) (left : LeavesNodes F count later G G' before after) where
  -- a given node that lives in both graphs
  abbrev Kept : NodeId → Type 0
  Kept n = Given count n × ((r : Row) × (G.row n ≡ Some r) × (G'.row n ≡ Some r))

  nothing_gives : (n : NodeId) → G.row n ≡ None → (o : Outcome) → NodeGives F G n o → o ≡ Invalid
  unfolding answer
  nothing_gives n is o (zero, e) = absurd (cc)
  nothing_gives n is o (suc d, e) = let told : Some Invalid ≡ Some o = rw is at e in cc

  either_way : (n : NodeId) → Given count n → ((G'.row n ≡ None) × ((o : Outcome) → NodeGives F G n o → o ≡ Invalid)) ⊎ Kept n
  either_way n given = by_row (G.row n) refl
    where
      by_row : (r : Option Row) → G.row n ≡ r → ((G'.row n ≡ None) × ((o : Outcome) → NodeGives F G n o → o ≡ Invalid)) ⊎ Kept n
      by_row None is = inl (elim (stays.rows n given) [ inl same ↦ same ∙ is | inr dead ↦ dead ], nothing_gives n is)
      by_row (Some r) is = elim (stays.rows n given) [
        | inl same ↦ inr (given, (r, is, same ∙ is))
        | inr dead ↦ inl (dead, (let f = left.dead n r is dead in fallen F G f.0 f.2 n r is f.1))
      ]

  -- who stands inside a bind tells that it is built
  inside_built : (c n : NodeId) → Inside G c n → IsSome (G.built c)
  inside_built c n (direct {r} e scope) = ap is_some (rooted n r c e scope).1
  inside_built c n (nested {c = d} e scope i) = inside_built c d i

  -- the bind of the scope of what lives in both lives in both, and is built for the same
  kept_scope : (n : NodeId) (r : Row) (b : NodeId) → Kept n → G.row n ≡ Some r → r.scope ≡ Some b → Kept b × (G'.built b ≡ G.built b)
  kept_scope n r b k row scope = by_row (stays.rows b given)
    where
      given : Given count b
      given = names.scope n r b row scope

      q : Row
      q = (scoped n r b row scope).0

      is_row : G.row b ≡ Some q
      is_row = (scoped n r b row scope).4

      lives : G'.row n ≡ None → ⊥
      lives dead = let clash : None ≡ Some k.1.0 = sym dead ∙ k.1.2 in cc

      by_row : (G'.row b ≡ G.row b) ⊎ (G'.row b ≡ None) → Kept b × (G'.built b ≡ G.built b)
      by_row (inl same) = elim (outcome_or (outcome_of (G'.built b)) (outcome_of (G.built b))) [
        | inl alike ↦ ((given, (q, is_row, same ∙ is_row)), left.roots b q given (same ∙ is_row) alike)
        | inr other ↦ absurd (lives (left.killed n b (direct row scope) other))
      ]
      by_row (inr dead) =
          let f = left.fallen b q is_row dead in
          absurd (lives (left.killed n f.0 (nested row scope f.1) (elim f.2 [
            | inl none ↦ unbuilt_other (G.built f.0) (G'.built f.0) none (inside_built f.0 b f.1)
            | inr other ↦ other
          ])))

  agrees : AgreesOn F (Given count) (Fit count known ids) Kept G G'
  agrees = record {
    now = stays.clock;
    either = either_way;
    row = λ n k. k.1.2 ∙ sym k.1.1;
    reads = λ n r k row. (same_present G G' n stays.clock (stays.frozen n k.0) (stays.lists n k.0) r.def, names.reads n r row);
    scope = kept_scope;
  }

  -- what a given node gave it gives
  gives_then : (n : NodeId) → Given count n → (o : Outcome) → NodeGives F G n o → NodeGives F G' n o
  gives_then = gives_still F (Given count) (Fit count known ids) Kept G G' fine agrees

  -- a bind that was given before and was built isn't built for what it was
  not_as_it_was : (b : NodeId) → Given count b → LeftDiffers F G b → (right : IsBuiltRight F G' b) → G'.built b ≡ G.built b → ⊥
  not_as_it_was b given differs right same =
      let on : G'.row b ≡ Some differs.row = elim (stays.rows b given) [
        | inl is ↦ is ∙ differs.is_row
        | inr dead ↦ absurd (let clash : None ≡ Some right.row = sym dead ∙ right.is_row in cc)
      ] in
      let rows : right.row ≡ differs.row = (let e : Some right.row ≡ Some differs.row = sym right.is_row ∙ on in cc) in
      let binds : Bind right.left right.function right.captures ≡ Bind differs.left differs.function differs.captures
      = sym right.is_bind ∙ (ap (λ (r : Row). r.def) rows ∙ differs.is_bind) in
      let lefts : right.left ≡ differs.left = cc in
      let reads : TermWithin (Given count) (Fit count known ids) (present_def G b differs.row.def) = names.reads b differs.row differs.is_row in
      let bind : TermWithin (Given count) (Fit count known ids) (present_def G b (Bind differs.left differs.function differs.captures))
      = rw differs.is_bind at reads in
      let gave = gives_then differs.left bind.1 differs.outcome differs.gives in
      let gives : NodeGives F G' differs.left right.built.outcome
      = subst (λ (n : NodeId). NodeGives F G' n right.built.outcome) lefts right.gives in
      differs.changed right.built (sym same ∙ right.is_built)
      (one_outcome F G' (Of (Ref differs.left)) right.built.outcome differs.outcome gives gave)

  module _ (died : NodeId → Option NodeId) (old : Look) (observed : List NodeId) (same_count : old.given ≡ count) (same_graph : old.graph ≡ G)
      (builds : BuildsRightIn F G' died old observed None) (x y : ℕ) (few : BuildsFew F count G G' None x y) where
    -- each of the binds that were built is met
    met_anew : (b : NodeId) → Among b few.binds → IsBuiltMetIn F G' died old observed b
    met_anew b among = by_now (few.built b among) (few.built b among).now
      where
        by_now : (w : WasBuilt F count G G' None b) → ((right : IsBuiltRight F G' b) × IsSome right.built.root)
            ⊎ ((None ≡ Some b) × (G'.built b ≡ None) × LeftDiffers F G' b) → IsBuiltMetIn F G' died old observed b
        by_now w (inr unmade) = absurd (let clash = unmade.0 in cc)
        by_now w (inl is) = elim (cases_lt b.gen_ count) [
          | inl low ↦ elim (builds.stays b is.0.row (omega (arith, low, same_count)) is.0.is_row) [
            | inl same ↦ absurd (not_as_it_was b low (w.due low) is.0 (same ∙ ap (λ (H : Graph). H.built b) same_graph))
            | inr (inl met) ↦ met
            | inr (inr refused) ↦ absurd (cc)
          ]
          | inr late ↦ elim (builds.made b is.0.row (omega (arith, late, same_count)) is.0.is_row) [
            | inl none ↦ absurd (let clash : None ≡ Some is.0.built = sym none ∙ is.0.is_built in cc)
            | inr met ↦ met
          ]
        ]

    has_root : (b : NodeId) (w : WasBuilt F count G G' None b) (right : IsBuiltRight F G' b) → IsSome right.built.root
    has_root b w right = elim w.now [
      | inr unmade ↦ absurd (let clash = unmade.0 in cc)
      | inl is ↦
          let same : is.0.built ≡ right.built = (let e : Some is.0.built ≡ Some right.built = sym is.0.is_built ∙ right.is_built in cc) in
          subst (λ (w : Built). IsSome w.root) same is.1
    ]

    pub anew : (b : NodeId) → Among b few.binds → (met : IsBuiltMetIn F G' died old observed b) × IsSome met.right.built.root
        × (Given count b → G'.built b ≡ G.built b → ⊥)
    anew b among =
        let met = met_anew b among in (
          met,
          has_root b (few.built b among) met.right,
          λ given same. not_as_it_was b given ((few.built b among).due given) met.right same,
        )
