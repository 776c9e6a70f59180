-- What calls made between rounds may change of the parts.
use Rattle.std.proofs.Common.{◌≡◌, ◌⊎◌, inl, inr, ℕ, ◌<◌, ◌+◌, ◌==◌, true, false, [], ◌∷◌, ◌++◌, Option, None, Some, refl, sym, ap, subst, List, ◌∙◌, arith}
use Rattle.std.specs.Prelude.{is_some, IsSome}
use Rattle.std.proofs.lemmas.Bool.Decides.{nat_tests}
use Rattle.std.proofs.lemmas.Option.{none-some}
use Rattle.inc_value.specs.declared.function.FnRef.{FnRef}
use Rattle.inc_value.specs.declared.node.NodeId.{NodeId}
use Rattle.inc_value.specs.declared.node.Part.{Part}
use Rattle.inc_value.specs.declared.node.Part.TheVariants.{Main, Change}
use Rattle.inc_value.specs.declared.node.Point.{Point}
use Rattle.inc_value.specs.declared.outcome.Outcome.{Outcome}
use Rattle.inc_value.specs.Choice.{Among}
use Rattle.inc_value.specs.declared.value.Value.{Value}
use Rattle.inc_terms.specs.Clock.{clock_value}
use Rattle.inc_terms.specs.Depend.{main, change, subject_of}
use Rattle.inc_terms.specs.Graph as graph
use Rattle.inc_terms.specs.Graph.{Graph, Row, Def, Bind, Freeze}
use Rattle.inc_terms.specs.Local.{shown, shown_of, IsBuilt}
use Rattle.inc_terms.specs.Plan.{gate_of, plan}
use Rattle.inc_terms.specs.Term.{Functions}
use Rattle.inc_terms.specs.Work.{predicate_kids, taken_by}
use Rattle.inc_terms.proofs.Seeing.{looks}
use Rattle.point_map.specs.Rows.{at}
use Rattle.link_table.specs.Links.{times}
use Rattle.necessary_graph.specs.Part.{Needed}
use Rattle.node_arena.specs.Arena.{Arena, row_at}
use Rattle.node_arena.specs.Graph.{AllCallFit}
use Rattle.node_outcomes.specs.Meaning.{Meaning}
use Rattle.node_outcomes.specs.Choosing.{built_by}
use Rattle.node_outcomes.specs.Computing.{has_part}
use Rattle.node_outcomes.proofs.Held.{built_live}
use Rattle.node_outcomes.specs.Row.{outcome_in, settled_in, kept_in}
use Rattle.stabilize_round.specs.State.{Call, count}
use Rattle.stabilize_round.specs.Freezing.{fires, found}
use Rattle.stabilize_round.specs.Invariant.{ScopesRooted}
use Rattle.stabilizer.specs.Between.{HasItsLinks, IsBetween, IsCurrent, KeepsList, Stays, out_of}
use Rattle.expert_nodes.specs.Experts.{Expert, expert_in, kids_of_expert}
use Rattle.wiring.specs.Kept.{IsKept}
use Rattle.stabilizer.specs.Kept.{PartsKept}
use Rattle.stabilizer.specs.Look.{last_of, last_call}
use Rattle.stabilizer.specs.Round.{IsReady}
use Rattle.stabilizer.specs.declared.parts.Parts.{Parts}
use Rattle.wiring.specs.Stands.{owes}
use Rattle.node_outcomes.specs.Progress.{Progress}
use Rattle.wiring.specs.declared.work.Work.{Work}
use Rattle.wiring.proofs.Agreeing.{one_point_built, plan_same, var_plan, agrees_still, recalls_still}
use Rattle.wiring.proofs.Owing.{owes_same}
use Rattle.wiring.proofs.Linking.{some_or_none}
use Rattle.wiring.proofs.Holding.{died_same}
use Rattle.wiring.specs.Graph.{held_at, graph_at}
use Rattle.stabilizer.proofs.Building.ReadingBack.{IsVar, built_still}
use Rattle.stabilizer.proofs.Between.Alone.{row_of, needed_row, no_row_of_dead, two_unowed, var_unowed, two_unfrozen, main_is, change_is, looked_needed, change_needed, ready_is_between, between_is_ready}
use Rattle.stabilize_round.specs.Calling.{IsAnswer}

-- ---- from one time between rounds to another

never_settled : (settled round : ℕ) → settled ≡ 0 → 0 < round → (settled == round) ≡ false
never_settled settled round e h = grind (arith, nat_tests)

-- what has no subject isn't built
no_subject_unbuilt : (def : Def) (o : Option Outcome) (root : Option NodeId) → subject_of def ≡ None → built_by def o root ≡ None
no_subject_unbuilt (graph.Bind l f caps) o root e = absurd (none-some l (sym e))
no_subject_unbuilt _ o root e = refl

-- what a bind is built for doesn't hang on its definition
binds_alike : (l l' : NodeId) (f f' : FnRef) (ks ks' : List NodeId) (o : Option Outcome) (root : Option NodeId)
    → built_by (Bind l f ks) o root ≡ built_by (Bind l' f' ks') o root
binds_alike l l' f f' ks ks' None root = refl
binds_alike l l' f f' ks ks' (Some o) root = refl

module _ (F : Functions) (before arena : Arena) (old work : Work) (b : IsBetween F before old) (kept : IsKept arena work)
    (stays : Stays before arena old work) where
  abbrev G : Graph
  G = graph_at before old

  abbrev G' : Graph
  G' = graph_at arena work

  -- of a point that keeps its links and its list
  owes_still : (p : Point) → Needed work.graph p → KeepsList old work p → owes work true p ≡ owes old true p
  owes_still p need k = owes_same old work true p (stays.rows p need) (ap (λ (x : Option Expert). (expert_in x).fresh) k.expert)

  lists_still : (p : Point) → KeepsList old work p → (held_at arena work).lists p.node ≡ (held_at before old).lists p.node
  lists_still p k = ap (λ (x : Option Expert). kids_of_expert (expert_in x)) k.expert

  -- where it was owed none
  links_old : (p : Point) (r : Row) → Needed work.graph p → KeepsList old work p → row_at before p.node ≡ Some r → owes old true p ≡ []
      → (q : Point) → times work.graph.links p q ≡ count q (plan G (out_of old) p r)
  links_old p r need k was none q =
      let l = k.links q in let e = b.links p r (stays.needed p need) was q in let z = ap (count q) none in omega (arith, l, e, z)

  out_still : (q : Point) → Needed work.graph q → out_of work q ≡ out_of old q
  out_still q need = ap outcome_in (stays.rows q need)

  -- a node that keeps its row, and its change's outcome where it has two points, is built as it was
  module _ (n : NodeId) (r : Row) (row : row_at arena n ≡ Some r) (was : row_at before n ≡ Some r)
      (out : IsSome (subject_of r.def) → out_of work (change n) ≡ out_of old (change n)) where
    by_subject : (x : Option NodeId) → subject_of r.def ≡ x
        → built_by r.def (out_of work (change n)) (at work.roots (change n)) ≡ built_by r.def (out_of old (change n)) (at old.roots (change n))
    by_subject None e = no_subject_unbuilt r.def _ _ e ∙ sym (no_subject_unbuilt r.def _ _ e)
    by_subject (Some m) e = ap (λ (o : Option Outcome). built_by r.def o (at work.roots (change n))) (out (ap is_some e))
        ∙ ap (built_by r.def (out_of old (change n))) (stays.roots n r row)

    built_as : (held_at arena work).built n ≡ (held_at before old).built n
    built_as = built_live work.rows work.roots n arena work.experts r row
        ∙ (by_subject (subject_of r.def) refl ∙ sym (built_live old.rows old.roots n before old.experts r was))

  -- what stood in a scope does so, and nothing more
  inside : (bind n : NodeId) (r : Row) → row_at before n ≡ Some r → r.scope ≡ Some bind → (row_at arena n ≡ Some r) ⊎ IsVar r.def
  inside bind n r row scope = let now = stays.scoped n bind r row scope in elim now.same [ inl e ↦ inl (now.is_row ∙ ap Some e) | inr var ↦ inr var ]

  is_built : (n : NodeId) (def : Def) (o : Outcome) → G'.built n ≡ G.built n → IsBuilt F G n def o → IsBuilt F G' n def o
  is_built n def o same h = built_still G G' n (inside n) (λ m r row scope. stays.entered m n r row scope) F def o same h

  module _ (p : Point) (r : Row) (need : Needed work.graph p) (k : KeepsList old work p) (row : row_at arena p.node ≡ Some r)
      (was : row_at before p.node ≡ Some r) where
    change_still : IsSome (subject_of r.def) → out_of work (change p.node) ≡ out_of old (change p.node)
    change_still some = by_part p.part refl
      where
        by_part : (part : Part) → p.part ≡ part → out_of work (change p.node) ≡ out_of old (change p.node)
        by_part Main is = out_still (change p.node) (change_needed work p need G (out_of old) r
            (links_old p r need k was (two_unowed before old b.kept true p r was some)) is some)
        by_part Change is = subst (λ (x : Point). out_of work x ≡ out_of old x) (change_is p is) (out_still p need)

    same_built : (held_at arena work).built p.node ≡ (held_at before old).built p.node
    same_built = built_as p.node r row was change_still

    -- a freeze of one point keeps its row, and of two points none keeps a value
    same_frozen : (held_at arena work).frozen p.node ≡ (held_at before old).frozen p.node
    same_frozen = by_part p.part refl
      where
        by_part : (part : Part) → p.part ≡ part → (held_at arena work).frozen p.node ≡ (held_at before old).frozen p.node
        by_part Main is = ap kept_in (subst (λ (x : Point). at work.rows x ≡ at old.rows x) (main_is p is) (stays.rows p need))
        by_part Change is =
            let there = needed_row arena work kept p r need row in
            let some : IsSome (subject_of r.def) =
            sym (ap (λ (x : Option Row). has_part x Change) row) ∙ (sym (ap (has_part (row_at arena p.node)) is) ∙ (sym (kept.rows p) ∙ ap is_some there.1)) in
            two_unfrozen arena work kept p.node r row some ∙ sym (two_unfrozen before old b.kept p.node r was some)

  links_still : (p : Point) (r : Row) → Needed work.graph p → row_at arena p.node ≡ Some r → HasItsLinks arena work p r
  links_still p r need row = elim (stays.lists p need) [
    | inr a ↦ let was = sym a.row ∙ row in a.links r was (b.links p r (stays.needed p need) was)
    | inl k ↦ elim (stays.nodes p r need row) [
      | inl was ↦ λ q.
          let l = k.links q in
          let o = ap (count q) (owes_still p need k) in
          let e = b.links p r (stays.needed p need) was q in
          let same = ap (count q) (plan_same before arena (held_at before old) (held_at arena work) (out_of old) (out_of work) p r
          (same_built p r need k row was) (same_frozen p r need k row was) (lists_still p k) (λ is some. change_still p r need k row was some)) in
          omega (arith, l, o, e, same)
      | inr h ↦ λ q.
          let e = links_old p h.1 need k h.4 (var_unowed before old b.kept true p h.1 h.3 h.4 h.5) q in
          let now = ap (count q) (var_unowed arena work kept true p r h.2 row (ap (λ (x : Row). x.def) h.6)) in
          let was = ap (count q) (var_plan G (out_of old) p h.1 h.3 h.5
          ∙ (ap (λ (x : Row). gate_of x.scope ++ []) (sym h.6)
          ∙ sym (var_plan G' (out_of work) p r h.2 (ap (λ (x : Row). x.def) h.6)))) in
          omega (arith, e, now, was)
    ]
  ]

  owing_still : (p : Point) → Needed work.graph p → (owes work true p ≡ [] → ⊥) → Among p work.todo.items
  owing_still p need some = elim (stays.lists p need) [
    | inl k ↦ k.listed (b.owing p (stays.needed p need) (λ none. some (owes_still p need k ∙ none)))
    | inr a ↦ a.owing (λ had. b.owing p (stays.needed p need) had) some
  ]

  -- a needed point's node lives as it did
  lives_still : (q : Point) → Needed work.graph q → is_some (row_at arena q.node) ≡ is_some (row_at before q.node)
  lives_still q need = by_rows (row_at arena q.node) (row_at before q.node) refl refl
    where
      by_rows : (x y : Option Row) → row_at arena q.node ≡ x → row_at before q.node ≡ y → is_some x ≡ is_some y
      by_rows None None e f = refl
      by_rows (Some r) (Some m) e f = refl
      by_rows (Some r) None e f =
          let k = needed_row arena work kept q r need e in
          absurd (no_row_of_dead before old b.kept q f (ap is_some (sym (stays.rows q need) ∙ k.1)))
      by_rows None (Some r) e f =
          let k = needed_row before old b.kept q r (stays.needed q need) f in
          absurd (no_row_of_dead arena work kept q e (ap is_some (stays.rows q need ∙ k.1)))

  shown_as : (x y : Option Row) (o : Option Outcome) → is_some x ≡ is_some y → shown_of x o ≡ shown_of y o
  shown_as None None o e = refl
  shown_as (Some r) (Some m) o e = refl
  shown_as (Some r) None o e = absurd (cc)
  shown_as None (Some r) o e = absurd (cc)

  seen_still : (q : Point) → Needed work.graph q → shown G' (out_of work) q ≡ shown G (out_of old) q
  seen_still q need = ap (shown_of (row_at arena q.node)) (out_still q need)
      ∙ shown_as (row_at arena q.node) (row_at before q.node) (out_of old q) (lives_still q need)

  module _ (p : Point) (r : Row) (need : Needed work.graph p) (k : KeepsList old work p) (row : row_at arena p.node ≡ Some r)
      (was : row_at before p.node ≡ Some r) (f : IsCurrent F before old p) (clock : clock_value arena.time r.def ≡ clock_value before.time r.def) where
    looked_still : (q : Point) → Among q (looks G (out_of old) p r) → shown G' (out_of work) q ≡ shown G (out_of old) q
    looked_still q a = seen_still q (looked_needed work p need G (out_of old) r (links_old p r need k was f.unowed) q a)

    last_still : p.part ≡ Main → last_call work p.node ≡ last_call old p.node
    last_still is = ap last_of (subst (λ (x : Point). at work.rows x ≡ at old.rows x) (main_is p is) (stays.rows p need))

    built_now : (o : Outcome) → IsBuilt F G p.node r.def o → IsBuilt F G' p.node r.def o
    built_now o h = is_built p.node r.def o (same_built p r need k row was) h

    current_still : IsCurrent F arena work p
    current_still = record {
      agrees = agrees_still F before arena (held_at before old) (held_at arena work) (out_of old) (out_of work) p r was row (out_still p need) clock
          (same_built p r need k row was) (same_frozen p r need k row was) (lists_still p k) built_now looked_still f.agrees;
      recalls = recalls_still F before arena (held_at before old) (held_at arena work) (out_of old) (out_of work) p r was row (out_still p need) clock
          (same_built p r need k row was) (same_frozen p r need k row was) (lists_still p k) built_now looked_still (last_call old) (last_call work)
          last_still f.recalls;
      unmarked = λ part. ap (λ (x : Option Expert). (expert_in x).stale) k.expert ∙ f.unmarked part;
      unowed = owes_still p need k ∙ f.unowed;
    }

  -- a bind whose change has run is built for that outcome still
  runs_still : (n : NodeId) (r : Row) (o : Outcome) → row_at arena n ≡ Some r → out_of work (change n) ≡ Some o → IsBuilt F G' n r.def o
  runs_still n r o row e = with_subject (subject_of r.def) refl
    where
      with_subject : (x : Option NodeId) → subject_of r.def ≡ x → IsBuilt F G' n r.def o
      with_subject None none = one_point_built F G' n r.def o none
      with_subject (Some m) some =
          let was = stays.runs n m r o row some e in
          is_built n r.def o (built_as n r row was.0 (λ is. e ∙ sym was.1)) (b.built n r o was.0 was.1)

  unsettled_still : (p : Point) → settled_in work.round (at work.rows p) ≡ false
  unsettled_still p = elim (some_or_none (at work.rows p)) [
    | inr none ↦ ap (settled_in work.round) none
    | inl k ↦ ap (settled_in work.round) k.1 ∙ elim (stays.unsettled p k.0 k.1) [
      | inl same ↦ ap (λ (n : ℕ). k.0.settled == n) stays.round ∙ (sym (ap (settled_in old.round) same) ∙ b.unsettled p)
      | inr never ↦ never_settled k.0.settled work.round never (let r = stays.round in let n = b.numbered in omega (arith, r, n))
    ]
  ]

  -- a bind that lived and lives is built as it was
  bind_as : (c : NodeId) (s s' : Row) (l l' : NodeId) (f f' : FnRef) (ks ks' : List NodeId) → row_at before c ≡ Some s → s.def ≡ Bind l f ks
      → row_at arena c ≡ Some s' → s'.def ≡ Bind l' f' ks' → G'.built c ≡ G.built c
  bind_as c s s' l l' f f' ks ks' was is row is' =
      built_live work.rows work.roots c arena work.experts s' row
      ∙ (ap (λ (d : Def). built_by d (out_of work (change c)) (at work.roots (change c))) is'
      ∙ (binds_alike l' l f' f ks' ks (out_of work (change c)) (at work.roots (change c))
      ∙ (ap (λ (o : Option Outcome). built_by (Bind l f ks) o (at work.roots (change c))) (stays.outcomes c s s' was row)
      ∙ (ap (built_by (Bind l f ks) (out_of old (change c))) (stays.roots c s' row)
      ∙ (sym (ap (λ (d : Def). built_by d (out_of old (change c)) (at old.roots (change c))) is)
      ∙ sym (built_live old.rows old.roots c before old.experts s was))))))

  -- scopes are those of binds with roots still
  scopes_still : ScopesRooted G'
  scopes_still n r c row scope =
      let e = stays.entered n c r row scope in
      let w = b.inside n e.0 c e.1 e.2 in
      let s = b.kept.scopes n e.0 c e.1 e.2 in
      let s' = kept.scopes n r c row scope in
      (w.0, bind_as c s.0 s'.0 s.1 s'.1 s.2 s'.2 s.3 s'.3 s.4 s.5 s'.4 s'.5 ∙ w.1, w.2)

  -- what a node's function takes it took
  takes_was : (n : NodeId) (def : Def) (nodes : List NodeId) → G'.frozen n ≡ G.frozen n → taken_by G' n def ≡ Some nodes
      → (was : List NodeId) × (taken_by G n def ≡ Some was)
  takes_was n (graph.Map f ns) nodes frozen e = (ns, refl)
  takes_was n (graph.Fold f v ns) nodes frozen e = (ns, refl)
  takes_was n (graph.Expert f v ns) nodes frozen e = (G.lists n, refl)
  takes_was n (graph.Freeze kid f) nodes frozen e = (nodes, sym (ap (predicate_kids kid) frozen) ∙ e)
  takes_was n _ nodes frozen e = absurd (cc)

  answers_still : (n : NodeId) (r : Row) (nodes : List NodeId) (k : Progress) (c : Call) → row_at arena n ≡ Some r → taken_by G' n r.def ≡ Some nodes
      → at work.rows (main n) ≡ Some k → k.last ≡ Some c → IsAnswer F r.def c.arguments c.result
  answers_still n r nodes k c row def e last =
      let w = stays.calls n r nodes k c row def e last in
      let t = takes_was n r.def nodes (ap kept_in (e ∙ sym w.1)) def in
      b.answers n r t.0 k c w.0 t.1 w.1 last

  -- a freeze that was last called was last called so
  module _ (n : NodeId) (r : Row) (kid : NodeId) (f : FnRef) (row : row_at arena n ≡ Some r) (is : r.def ≡ Freeze kid f)
      (none : kept_in (at work.rows (main n)) ≡ None) where
    by_last : (y : Option Call) → last_call work n ≡ y → found y ≡ None
    by_last None e = refl
    by_last (Some c) e =
        let k = row_of arena work kept n r row in
        let last : k.0.last ≡ Some c = sym (ap last_of k.1) ∙ e in
        let takes : taken_by G' n r.def ≡ Some (kid ∷ []) = ap (taken_by G' n) is ∙ ap (predicate_kids kid) none in
        let w = stays.calls n r (kid ∷ []) k.0 c row takes k.1 last in
        let u : fires r.def (kept_in (Some k.0)) k.0.last ≡ None =
        subst (λ (x : Option Progress). fires r.def (kept_in x) (last_of x) ≡ None) w.1 (b.unfired n r w.0) in
        let off : kept_in (Some k.0) ≡ None = sym (ap kept_in k.1) ∙ none in
        sym (ap (λ (d : Def). fires d None (Some c)) is)
        ∙ (sym (ap (λ (x : Option Value). fires r.def x (Some c)) off) ∙ (sym (ap (fires r.def (kept_in (Some k.0))) last) ∙ u))

  module _ (n : NodeId) (r : Row) (row : row_at arena n ≡ Some r) where
    by_kept : (kid : NodeId) (f : FnRef) → r.def ≡ Freeze kid f → (x : Option Value) → kept_in (at work.rows (main n)) ≡ x
        → fires (Freeze kid f) x (last_call work n) ≡ None
    by_kept kid f is None none = by_last n r kid f row is none (last_call work n) refl
    by_kept kid f is (Some v) some = refl

    by_def : (def : Def) → r.def ≡ def → fires def (kept_in (at work.rows (main n))) (last_call work n) ≡ None
    by_def (graph.Freeze kid f) is = by_kept kid f is (kept_in (at work.rows (main n))) refl
    by_def _ is = refl

  pub between_stays : IsBetween F arena work
  between_stays = record {
    kept = kept;
    full = λ p k need e. b.full p k (stays.needed p need) (sym (stays.rows p need) ∙ e);
    links = links_still;
    owing = owing_still;
    fresh = λ p r need row. elim (stays.lists p need) [
      | inr a ↦ inl a.heap
      | inl k ↦ elim (stays.nodes p r need row) [
        | inr h ↦ inl h.0
        | inl same ↦ elim (b.fresh p r (stays.needed p need) same) [
          | inl h ↦ inl (stays.heap p need h)
          | inr f ↦ elim (stays.clock p r need row) [ inl h ↦ inl h | inr clock ↦ inr (current_still p r need k row same f clock) ]
        ]
      ]
    ];
    inside = scopes_still;
    built = runs_still;
    answers = answers_still;
    unsettled = unsettled_still;
    deaths = λ n. died_same old work stays.deaths n ∙ b.deaths n;
    numbered = let r = stays.round in let n = b.numbered in omega (arith, r, n);
    retries = stays.retries ∙ b.retries;
    unfired = λ n r row. by_def n r row r.def refl;
    ran = stays.ran ∙ b.ran;
  }

-- a round may begin after a call that leaves so much
pub ready_stays : (M : Meaning) (old new : Parts) → IsReady M old → AllCallFit M.known M.ids new.arena → PartsKept new
    → Stays old.arena new.arena old.work new.work → IsReady M new
ready_stays M old new ready fit kept stays = between_is_ready M new kept ready.laws fit
    (between_stays M.functions old.arena new.arena old.work new.work (ready_is_between M old ready) kept.work stays)
