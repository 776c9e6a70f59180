-- A node is added, or its points added and dropped again.
use Rattle.std.proofs.Common.{◌≡◌, ◌≢◌, ◌⊎◌, inl, inr, ℕ, ℤ, ◌+◌, ◌≤◌, true, false, List, [], ◌∷◌, Option, None, Some, refl, sym, ap, subst, ◌∙◌, arith, Vec, Global}
use Rattle.std.specs.Prelude.{is_some, vec_capacity}
use Rattle.std.proofs.lemmas.Option.{none-some}
use Rattle.inc_value.specs.declared.node.NodeId.{NodeId}
use Rattle.inc_value.specs.declared.node.Part.{Part}
use Rattle.inc_value.specs.declared.node.Point.{Point}
use Rattle.inc_value.specs.declared.outcome.Outcome.{Outcome}
use Rattle.inc_value.specs.Choice.{Among, Every}
use Rattle.inc_value.specs.declared.ty.Ty.{Ty}
use Rattle.inc_terms.specs.Clock.{clock_value}
use Rattle.inc_terms.specs.Depend.{main, change, subject_of}
use Rattle.inc_terms.specs.Graph as graph
use Rattle.inc_terms.specs.Graph.{Def, Row}
use Rattle.expert_nodes.specs.Experts.{Expert, ExpertChanges, ExpertPlace, expert_at, expert_in, kids_at, kids_of_expert}
use Rattle.inc_terms.specs.Within.{Given}
use Rattle.point_map.specs.Rows.{Rows, at, Holds}
use Rattle.link_table.specs.Links.{Links, times, Reads}
use Rattle.necessary_graph.specs.Part.{Needed, IsInStep}
use Rattle.node_lists.specs.Listed.{Listed}
use Rattle.node_arena.specs.Arena as nodes
use Rattle.node_arena.specs.Arena.{Arena, live, row_at}
use Rattle.node_arena.specs.Typing.{FoldTakes, Makes}
use Rattle.node_outcomes.specs.Computing.{has_part, is_expert, is_expert_def}
use Rattle.stabilize_round.proofs.Points.{node_or_other}
use Rattle.stabilizer.specs.Between.{Stays, KeepsWork, out_of}
use Rattle.stabilizer.specs.Kept.{PartsKept}
use Rattle.stabilizer.specs.Round.{IsReady}
use Rattle.stabilizer.specs.declared.parts.Parts.{Parts}
use Rattle.node_arena.specs.Sound.{IsSoundArena}
use Rattle.node_arena.specs.Graph.{CallsFit}
use Rattle.wiring.specs.Kept.{IsKept, IsDead, FitsRoom}
use Rattle.wiring.specs.Places.{ChangesNode, for_parts, pairs_with}
use Rattle.wiring.specs.Wiring.{KeepsRound}
use Rattle.node_outcomes.specs.Row.{outcome_in}
use Rattle.node_outcomes.specs.Progress.{Progress, new_row}
use Rattle.wiring.specs.declared.work.Work.{Work}
use Rattle.stabilizer.proofs.Between.Alone.{row_of}
use Rattle.wiring.proofs.Agreeing.{same_some}
use Rattle.wiring.proofs.Deciding.{need_same}
use Rattle.wiring.proofs.Linking.{some_or_none}
use Rattle.wiring.proofs.Placing.{at_node, has_parts, one_for_all, came_and_went, pair_stays, pair_listed}
use Rattle.stabilizer.proofs.Between.Typing.{KeepsTypes, call_still, folds_still, listed_still, typed_still, right_still}
use Rattle.wiring.specs.Experts.{ExpertIsAdded}
use Rattle.wiring.proofs.Reading.{read_kept}
use Rattle.wiring.proofs.Holding.{held_rows, built_same, right_as, died_same, ghost_same, root_same}
use Rattle.wiring.specs.Graph.{held_at}
use Rattle.node_arena.specs.Arena.{IsLive}
use Rattle.node_outcomes.specs.Meaning.{Meaning}
use Rattle.stabilizer.proofs.Between.Staying.{ready_stays}
use Rattle.stabilizer.proofs.Between.Fitting.{added_fit}
use Rattle.stabilizer.proofs.Between.Keeping.{carried, fit_still, parts_stay}
use Rattle.timed_nodes.proofs.Watching.{clock_grown}
use Rattle.timed_nodes.specs.Timed.{KeepsClock}

-- what is there is of another node than a new one
pub other_node : (arena : Arena) (work : Work) (id : NodeId) → IsKept arena work → id.gen_ ≡ arena.given → (p : Point) → Holds work.graph.heights p
    → p.node ≢ id
other_node arena work id kept gen p h is =
    let g = kept.given p h in let e = ap (λ (x : NodeId). x.gen_) is in absurd (omega (arith, g, e, gen))

-- who was given is another than a node that is given next
pub given_other : (given : ℕ) (id n : NodeId) → id.gen_ ≡ given → Given given n → n ≢ id
given_other given id n next g is = let e = ap (λ (x : NodeId). x.gen_) is in absurd (omega (arith, g, e, next))

none_where : {A : Type 0} (x : Option A) → (is_some x ≡ true → ⊥) → x ≡ None
none_where None h = refl
none_where (Some a) h = absurd (h refl)

-- a new point is in no map yet
pub absent : (arena : Arena) (work : Work) (id : NodeId) → IsKept arena work → id.gen_ ≡ arena.given → (p : Point) → p.node ≡ id
    → at work.graph.heights p ≡ None
absent arena work id kept gen p is = none_where (at work.graph.heights p) (λ h. other_node arena work id kept gen p h is)

pub no_row : (arena : Arena) (work : Work) (id : NodeId) → IsKept arena work → id.gen_ ≡ arena.given → (p : Point) → p.node ≡ id → at work.rows p ≡ None
no_row arena work id kept gen p is = none_where (at work.rows p) (λ h. other_node arena work id kept gen p (kept.there p h) is)

-- a live node was given
pub live_given : (arena : Arena) (work : Work) → IsKept arena work → (n : NodeId) (r : Row) → row_at arena n ≡ Some r → Given arena.given n
live_given arena work kept n r e = let k = row_of arena work kept n r e in kept.given (main n) (kept.there (main n) (ap is_some k.1))

pub live_below : (arena : Arena) (work : Work) → IsKept arena work → (n : NodeId) → IsLive arena n → Given arena.given n
live_below arena work kept n live = elim (some_or_none (row_at arena n)) [
  | inl r ↦ live_given arena work kept n r.0 r.1
  | inr none ↦ absurd (let e = sym live ∙ ap is_some none in cc)
]

-- ---- experts

none_live : (arena : Arena) (n : NodeId) (x : Option Row) → row_at arena n ≡ x → is_expert x ≡ true → IsLive arena n
none_live arena n None row e = absurd (cc)
none_live arena n (Some r) row e = ap is_some row

-- a new node is none yet
pub no_expert : (arena : Arena) (work : Work) (id : NodeId) → IsKept arena work → id.gen_ ≡ arena.given → expert_at work.experts id ≡ None
no_expert arena work id kept gen = none_where (expert_at work.experts id) (λ there.
    let g = live_below arena work kept id (none_live arena id (row_at arena id) refl (sym (kept.experts id) ∙ there)) in omega (arith, g, gen))

-- what is seen of experts once a node is added that is so defined: it was created if it is one, and reads nothing; others are as they were
pub record AddsExpert (def : Def) (old new : List ExpertPlace) (n : NodeId) : Type 0 where
  pub others : (m : NodeId) → m ≢ n → expert_at new m ≡ expert_at old m
  pub there : is_some (expert_at new n) ≡ is_expert_def def
  pub none : kids_at new n ≡ []

plainly : (old new : List ExpertPlace) (n : NodeId) (def : Def) → expert_at old n ≡ None → new ≡ old → is_expert_def def ≡ false → AddsExpert def old new n
plainly old new n def none same plain =
    let gone : expert_at new n ≡ None = ap (λ (x : List ExpertPlace). expert_at x n) same ∙ none in record {
      others = λ m ne. ap (λ (x : List ExpertPlace). expert_at x m) same;
      there = ap is_some gone ∙ sym plain;
      none = ap (λ (x : Option Expert). kids_of_expert (expert_in x)) gone;
    }

pub adds_expert : (def : Def) (old new : List ExpertPlace) (n : NodeId) → expert_at old n ≡ None → ExpertIsAdded def old new n
    → AddsExpert def old new n
adds_expert (graph.Expert f v ns) old new n none e = record {
  others = e.others;
  there = ap is_some e.changed;
  none = ap (λ (x : Option Expert). kids_of_expert (expert_in x)) e.changed;
}
adds_expert (graph.Const v) old new n none e = plainly old new n (graph.Const v) none e refl
adds_expert (graph.Var v) old new n none e = plainly old new n (graph.Var v) none e refl
adds_expert (graph.Map f ns) old new n none e = plainly old new n (graph.Map f ns) none e refl
adds_expert (graph.Fold f v ns) old new n none e = plainly old new n (graph.Fold f v ns) none e refl
adds_expert (graph.If t a b) old new n none e = plainly old new n (graph.If t a b) none e refl
adds_expert (graph.Join kid) old new n none e = plainly old new n (graph.Join kid) none e refl
adds_expert (graph.Bind l f ns) old new n none e = plainly old new n (graph.Bind l f ns) none e refl
adds_expert (graph.At t) old new n none e = plainly old new n (graph.At t) none e refl
adds_expert (graph.Steps v steps) old new n none e = plainly old new n (graph.Steps v steps) none e refl
adds_expert graph.Now old new n none e = plainly old new n graph.Now none e refl
adds_expert (graph.Every base span) old new n none e = plainly old new n (graph.Every base span) none e refl
adds_expert (graph.Freeze kid f) old new n none e = plainly old new n (graph.Freeze kid f) none e refl

-- a function that folds some nodes folds none
takes_none : (a : Arena) (t : Ty) (ns : List NodeId) (tys : List Ty) → FoldTakes a t ns tys → FoldTakes a t [] tys
takes_none a t ns [] h = h
takes_none a t ns (x ∷ []) h = h
takes_none a t ns (x ∷ y ∷ []) h = (h.0, tt)
takes_none a t ns (x ∷ y ∷ z ∷ tys) h = h

module _ (before arena : Arena) (old work : Work) (id : NodeId) (row : Row) (heights : Part → ℕ) (kept : IsKept before old) (gen : id.gen_ ≡ before.given)
    (added : nodes.Changes before arena id (Some row)) (top : row.scope ≡ None) (sound : IsSoundArena arena)
    (given : arena.given ≡ before.given + 1)
    (rows : ChangesNode old.rows work.rows id (for_parts row.def (λ part. new_row row.def)))
    (points : ChangesNode old.graph.heights work.graph.heights id (for_parts row.def heights))
    (pairs : (n : NodeId) → IsLive before n ⊎ (n ≡ id) → Among n (pairs_with row.def old.pairs.nodes id) → Among n work.pairs.nodes)
    (scoped : work.scoped ≡ old.scoped)
    (links : work.graph.links ≡ old.graph.links) (roots : work.graph.roots ≡ old.graph.roots)
    (heap : (p : Point) → at work.graph.heap p ≡ at old.graph.heap p) (step : IsInStep work.graph)
    (round : KeepsRound (record old { experts = work.experts; ran = work.ran }) work) (experts : ExpertIsAdded row.def old.experts work.experts id)
    (todo : work.todo.items ≡ old.todo.items) where
  expert : AddsExpert row.def old.experts work.experts id
  expert = adds_expert row.def old.experts work.experts id (no_expert before old id kept gen) experts

  -- what was there stays
  row_stays : (p : Point) → Holds old.rows p → Holds work.rows p
  row_stays p h = ap is_some (rows.others p (other_node before old id kept gen p (kept.there p h))) ∙ h

  -- the new node's points are those of its definition
  row_made : (p : Point) → p.node ≡ id → is_some (at work.rows p) ≡ has_part (Some row) p.part
  row_made p is = ap is_some (at_node work.rows p id is ∙ rows.now p.part) ∙ has_parts row (λ part. new_row row.def) p.part

  new_point : (p : Point) → p.node ≡ id → is_some (at work.graph.heights p) ≡ has_part (Some row) p.part
  new_point p is = ap is_some (at_node work.graph.heights p id is ∙ points.now p.part) ∙ has_parts row heights p.part

  alike : (p : Point) → p.node ≡ id → is_some (at work.rows p) ≡ is_some (at work.graph.heights p)
  alike p is = row_made p is ∙ sym (new_point p is)

  is_unsettled : (p : Point) (k : Progress) → p.node ≡ id → at work.rows p ≡ Some k → new_row row.def ≡ k
  is_unsettled p k is e = one_for_all row.def (new_row row.def) k p.part (sym (at_node work.rows p id is ∙ rows.now p.part) ∙ e)

  row_is : (n : NodeId) (r : Row) → n ≡ id → row_at arena n ≡ Some r → row ≡ r
  row_is n r is e = same_some (sym added.changed ∙ (ap (row_at arena) (sym is) ∙ e))

  row_was : (n : NodeId) (r : Row) → n ≢ id → row_at arena n ≡ Some r → row_at before n ≡ Some r
  row_was n r ne e = sym (added.others n ne) ∙ e

  types : KeepsTypes before arena
  types n r had e = elim (node_or_other n id) [
    | inl is ↦ let f = ap (λ (x : NodeId). x.gen_) is in absurd (omega (arith, had, f, gen))
    | inr ne ↦ (r, row_was n r ne e, refl)
  ]

  more : before.given ≤ arena.given
  more = omega (arith, given)

  never_ran : (n : NodeId) → n ≡ id → out_of work (change n) ≡ None
  never_ran n same = elim (some_or_none (at work.rows (change n))) [
    | inl k ↦ ap outcome_in k.1 ∙ sym (ap (λ (x : Progress). x.outcome) (is_unsettled (change n) k.0 same k.1))
    | inr none ↦ ap outcome_in none
  ]

  -- another node is built as it was
  built_as : (n : NodeId) → n ≢ id → (held_at arena work).built n ≡ (held_at before old).built n
  built_as n ne = built_same before arena old work n (added.others n ne) (rows.others (change n) ne) round.roots

  -- who was given is another
  older : (n : NodeId) → Given before.given n → n ≢ id
  older n g is = let e = ap (λ (x : NodeId). x.gen_) is in absurd (omega (arith, g, e, gen))

  row_now : (n : NodeId) (r : Row) → row_at before n ≡ Some r → row_at arena n ≡ Some r
  row_now n r e = added.others n (older n (live_given before old kept n r e)) ∙ e

  still_dead : (n b : NodeId) → IsDead before n b → IsDead arena n b
  still_dead n b d = record {
    gone = added.others n (older n d.given) ∙ d.gone;
    given = let g = d.given in omega (arith, g, given);
    scope_given = let g = d.scope_given in omega (arith, g, given);
    scope_two = λ r e. d.scope_two r (row_was b r (older b d.scope_given) e);
  }

  -- the new node stands in no scope
  scoped_was : (n b : NodeId) (r : Row) → row_at arena n ≡ Some r → r.scope ≡ Some b → row_at before n ≡ Some r
  scoped_was n b r e scope = elim (node_or_other n id) [
    | inl is ↦ absurd (none-some b (sym top ∙ (ap (λ (x : Row). x.scope) (row_is n r is e) ∙ scope)))
    | inr ne ↦ row_was n r ne e
  ]

  -- what shows an outcome had a row
  shows_other : (p : Point) (o : Outcome) → outcome_in (at old.rows p) ≡ Some o → p.node ≢ id
  shows_other p o shows is = none-some o (sym (ap outcome_in (no_row before old id kept gen p is)) ∙ shows)

  pub added_kept : live arena ≤ vec_capacity work.ran → IsKept arena work
  added_kept room = record {
    step = step;
    rows = λ p. elim (node_or_other p.node id) [
      | inl is ↦ row_made p is ∙ sym (ap (λ (x : Option Row). has_part x p.part) (ap (row_at arena) is ∙ added.changed))
      | inr ne ↦ ap is_some (rows.others p ne) ∙ (kept.rows p ∙ sym (ap (λ (x : Option Row). has_part x p.part) (added.others p.node ne)))
    ];
    leaves = λ p h. elim (node_or_other p.node id) [
      | inl is ↦ inl (alike p is ∙ h)
      | inr ne ↦ elim (kept.leaves p (ap is_some (sym (points.others p ne)) ∙ h)) [
        | inl r ↦ inl (row_stays p r)
        | inr d ↦ inr (added.others p.node ne ∙ d.0, need_same old.graph work.graph links roots p d.1)
      ]
    ];
    there = λ p h. elim (node_or_other p.node id) [
      | inl is ↦ sym (alike p is) ∙ h
      | inr ne ↦ ap is_some (points.others p ne) ∙ kept.there p (ap is_some (sym (rows.others p ne)) ∙ h)
    ];
    given = λ p h. elim (node_or_other p.node id) [
      | inl is ↦ let e = ap (λ (x : NodeId). x.gen_) is in omega (arith, e, gen, given)
      | inr ne ↦ let g = kept.given p (ap is_some (sym (points.others p ne)) ∙ h) in omega (arith, g, given)
    ];
    links = λ p q l. elim (kept.links p q (subst (λ (x : Links). Reads x p q) links l)) [
      | inl r ↦ inl (row_stays p r)
      | inr ghost ↦ inr (ghost_same old work round.deaths p q ghost)
    ];
    dead = λ n b d. still_dead n b (kept.dead n b (sym (died_same old work round.deaths n) ∙ d));
    heap = λ p h. row_stays p (kept.heap p (ap is_some (sym (heap p)) ∙ h));
    sound = sound;
    scopes = λ n r b e scope. let s = kept.scopes n r b (scoped_was n b r e scope) scope in (s.0, s.1, s.2, s.3, row_now b s.0 s.4, s.5);
    older = λ n b r e scope. kept.older n b r (scoped_was n b r e scope) scope;
    outcomes = λ n r k v e is shows. elim (node_or_other n id) [
      | inl same ↦ absurd (none-some _ (ap (λ (x : Progress). x.outcome) (is_unsettled (main n) k same is) ∙ shows))
      | inr ne ↦ typed_still before arena more types v r.ty
          (kept.outcomes n r k v (row_was n r ne e) (sym (rows.others (main n) ne) ∙ is) shows)
    ];
    rights = λ n m r k o e is shows right. elim (node_or_other n id) [
      | inl same ↦ absurd (none-some _ (ap (λ (x : Progress). x.outcome) (is_unsettled (change n) k same is) ∙ shows))
      | inr ne ↦ right_still before arena more types m r.ty
          (kept.rights n m r k o (row_was n r ne e) (sym (rows.others (change n) ne) ∙ is) shows
          (right_as before arena old work n m r.def o (built_as n ne) right))
    ];
    roots = λ n h. let v = kept.roots n (root_same old work round.roots (change n) h) in
        (v.0, ap outcome_in (rows.others (change n) (shows_other (change n) _ v.1)) ∙ v.1);
    binds = λ n r e h. let had = root_same old work round.roots (change n) h in
        kept.binds n r (row_was n r (shows_other (change n) _ (kept.roots n had).1) e) had;
    calls = λ n r k c e is last. elim (node_or_other n id) [
      | inl same ↦ absurd (none-some _ (ap (λ (x : Progress). x.last) (is_unsettled (main n) k same is) ∙ last))
      | inr ne ↦ call_still before arena more types r.def r.ty c
          (kept.calls n r k c (row_was n r ne e) (sym (rows.others (main n) ne) ∙ is) last)
    ];
    rounds = λ p k e. elim (node_or_other p.node id) [
      | inl is ↦ let s = ap (λ (x : Progress). x.settled) (is_unsettled p k is e) in omega (arith, s)
      | inr ne ↦ rw round.round (kept.rounds p k (sym (rows.others p ne) ∙ e))
    ];
    pairs = λ n r e some. elim (node_or_other n id) [
      | inl is ↦ pairs n (inr is) (subst (λ (x : NodeId). Among x (pairs_with row.def old.pairs.nodes id)) (sym is)
          (pair_listed (subject_of row.def) old.pairs.nodes id (ap (λ (x : Row). is_some (subject_of x.def)) (row_is n r is e) ∙ some)))
      | inr ne ↦
          let was = row_was n r ne e in
          pairs n (inl (ap is_some was)) (pair_stays (subject_of row.def) old.pairs.nodes id n (kept.pairs n r was some))
    ];
    scoped = λ n r e some. elim (some_or_none r.scope) [
      | inl b ↦ subst (λ (l : Listed). Among n l.nodes) (sym scoped) (kept.scoped n r (scoped_was n b.0 r e b.1) some)
      | inr none ↦ absurd (let f = sym some ∙ ap is_some none in cc)
    ];
    experts = λ n. elim (node_or_other n id) [
      | inl is ↦ subst (λ (x : NodeId). is_some (expert_at work.experts x) ≡ is_expert (row_at arena x)) (sym is)
          (expert.there ∙ sym (ap is_expert added.changed))
      | inr ne ↦ ap is_some (expert.others n ne) ∙ (kept.experts n ∙ sym (ap is_expert (added.others n ne)))
    ];
    listed = λ n. elim (node_or_other n id) [
      | inl is ↦ subst (Every (Given arena.given)) (sym (ap (kids_at work.experts) is ∙ expert.none)) tt
      | inr ne ↦ subst (λ (x : Option Expert). Every (Given arena.given) (kids_of_expert (expert_in x))) (sym (expert.others n ne))
          (listed_still before arena more types (kids_at old.experts n) (kept.listed n))
    ];
    lists = λ n r f v ns e is. elim (node_or_other n id) [
      | inl same ↦ subst (λ (kids : List NodeId). FoldTakes arena r.ty kids f.sig.takes) (sym (ap (kids_at work.experts) same ∙ expert.none))
          (takes_none arena r.ty ns f.sig.takes (subst (λ (d : Def). Makes arena d r.ty) is (sound.types n r e)).takes)
      | inr ne ↦ subst (λ (x : Option Expert). FoldTakes arena r.ty (kids_of_expert (expert_in x)) f.sig.takes) (sym (expert.others n ne))
          (folds_still before arena more types r.ty (kids_at old.experts n) f.sig.takes (kept.listed n) (kept.lists n r f v ns (row_was n r ne e) is))
    ];
    tops = λ n r e is. elim (node_or_other n id) [
      | inl same ↦ sym (ap (λ (x : Row). x.scope) (row_is n r same e)) ∙ top
      | inr ne ↦ kept.tops n r (row_was n r ne e) is
    ];
    frozen = λ n k e on. elim (node_or_other n id) [
      | inl same ↦ absurd (let f = ap (λ (x : Progress). x.frozen) (is_unsettled (main n) k same e) ∙ on in cc)
      | inr ne ↦ let h = kept.frozen n k (sym (rows.others (main n) ne) ∙ e) on in
          record { row = h.row; is_row = row_now n h.row h.is_row; is_freeze = h.is_freeze; value = h.value; last = h.last }
    ];
    rooms = record {
      calls = λ n r k e is. elim (node_or_other n id) [
        | inl same ↦ subst (λ (x : Row). FitsRoom x k) (row_is n r same e) (subst (FitsRoom row) (is_unsettled (main n) k same is) (omega arith))
        | inr ne ↦ kept.rooms.calls n r k (row_was n r ne e) (sym (rows.others (main n) ne) ∙ is)
      ];
      ran = room;
    };
  }

  need_before : (p : Point) → Needed work.graph p → Needed old.graph p
  need_before p n = need_same work.graph old.graph (sym links) (sym roots) p n

  needed_other : (p : Point) → Needed work.graph p → p.node ≢ id
  needed_other p n = other_node before old id kept gen p (kept.step.there p (need_before p n))

  pub added_stays : work.ran.items ≡ old.ran.items → Stays before arena old work
  added_stays ran = record {
    needed = need_before;
    clock = λ p r need row. inr (ap (λ (t : ℤ). clock_value t r.def) added.time);
    lists = λ p n. inl (record {
      links = λ q. ap (λ (x : Links). times x p q) links;
      expert = expert.others p.node (needed_other p n);
      listed = λ a. subst (Among p) (sym todo) a;
    });
    heap = λ p n h. ap is_some (heap p) ∙ h;
    rows = λ p n. rows.others p (needed_other p n);
    nodes = λ p r need e. inl (row_was p.node r (needed_other p need) e);
    calls = λ n r ns k c e def is last. elim (node_or_other n id) [
      | inl same ↦ absurd (none-some _ (ap (λ (x : Progress). x.last) (is_unsettled (main n) k same is) ∙ last))
      | inr ne ↦ (row_was n r ne e, sym (rows.others (main n) ne) ∙ is)
    ];
    runs = λ n s r o e def is. elim (node_or_other n id) [
      | inl same ↦ absurd (none-some o (sym (never_ran n same) ∙ is))
      | inr ne ↦ (row_was n r ne e, ap outcome_in (sym (rows.others (change n) ne)) ∙ is)
    ];
    unsettled = λ p k e. elim (node_or_other p.node id) [
      | inl is ↦ inr (sym (ap (λ (x : Progress). x.settled) (is_unsettled p k is e)))
      | inr ne ↦ inl (sym (rows.others p ne) ∙ e)
    ];
    roots = λ n r e. ap (λ (m : Rows NodeId). at m (change n)) round.roots;
    outcomes = λ n was r there e. ap outcome_in (rows.others (change n) (older n (live_given before old kept n was there)));
    scoped = λ n b r e scope. record { row = r; is_row = row_now n r e; scope = scope; same = inl refl };
    entered = λ n b r e scope. (r, scoped_was n b r e scope, scope);
    deaths = round.deaths;
    ran = ran;
    retries = round.retries;
    round = round.round;
  }

-- ---- all stays

module _ (arena : Arena) (old work : Work) (kept : IsKept arena old) (same : KeepsWork old work) (step : IsInStep work.graph)
    (pairs : (n : NodeId) → IsLive arena n → Among n old.pairs.nodes → Among n work.pairs.nodes)
    (scoped : (n : NodeId) → IsLive arena n → Among n old.scoped.nodes → Among n work.scoped.nodes) where
  pub back_kept : IsKept arena work
  back_kept = carried arena old work kept (record {
    step = step;
    same = λ p. ap is_some (same.rows p);
    there = λ p row h. ap is_some (same.points p) ∙ h;
    opened = λ p h. ap is_some (sym (same.points p)) ∙ h;
    leaves = λ p h none need. need_same old.graph work.graph same.links same.roots p need;
    links = λ p q l. subst (λ (x : Links). Reads x p q) same.links l;
    heap = λ p h. kept.heap p (ap is_some (sym (same.heap p)) ∙ h);
    fit = fit_still arena old work kept same.rows same.round.round;
    held = held_rows arena old work same.rows same.round.roots (read_kept old.experts work.experts same.experts).kids;
    chosen = λ n h. ap outcome_in (same.rows (change n));
    roots = same.round.roots;
    deaths = same.round.deaths;
    pairs = λ n r e a. pairs n (ap is_some e) a;
    scoped = λ n r e a. scoped n (ap is_some e) a;
    experts = read_kept old.experts work.experts same.experts;
    ran = same.room;
  })

pub back_stays : (arena : Arena) (old work : Work) → KeepsWork old work → Stays arena arena old work
back_stays arena old work same = record {
  needed = λ p n. need_same work.graph old.graph (sym same.links) (sym same.roots) p n;
  clock = λ p r need row. inr refl;
  lists = λ p n. inl (record {
    links = λ q. ap (λ (x : Links). times x p q) same.links;
    expert = same.experts p.node;
    listed = λ a. subst (Among p) (sym same.todo) a;
  });
  heap = λ p n h. ap is_some (same.heap p) ∙ h;
  rows = λ p n. same.rows p;
  nodes = λ p r need e. inl e;
  calls = λ n r ns k c e def is last. (e, sym (same.rows (main n)) ∙ is);
  runs = λ n s r o e def is. (e, ap outcome_in (sym (same.rows (change n))) ∙ is);
  unsettled = λ p k e. inl (sym (same.rows p) ∙ e);
  roots = λ n r e. ap (λ (m : Rows NodeId). at m (change n)) same.round.roots;
  outcomes = λ n was r there e. ap outcome_in (same.rows (change n));
  scoped = λ n b r e scope. record { row = r; is_row = e; scope = scope; same = inl refl };
  entered = λ n b r e scope. (r, e, scope);
  deaths = same.round.deaths;
  ran = same.ran;
  retries = same.round.retries;
  round = same.round.round;
}

-- ---- added and dropped again

module _ (arena : Arena) (old mid : Work) (id : NodeId) (rows : Part → Option Progress) (heights : Part → Option ℕ) (kept : IsKept arena old)
    (gen : id.gen_ ≡ arena.given) (added : ChangesNode old.rows mid.rows id rows) (points : ChangesNode old.graph.heights mid.graph.heights id heights)
    (links : mid.graph.links ≡ old.graph.links) (roots : mid.graph.roots ≡ old.graph.roots)
    (heap : (p : Point) → at mid.graph.heap p ≡ at old.graph.heap p) (round : KeepsRound (record old { experts = mid.experts; ran = mid.ran }) mid)
    (ran : mid.ran.items ≡ old.ran.items) (room : vec_capacity old.ran ≤ vec_capacity mid.ran)
    (experts : (n : NodeId) → n ≢ id → expert_at mid.experts n ≡ expert_at old.experts n) (todo : mid.todo.items ≡ old.todo.items) where
  pub dropped_again : (work : Work) → ChangesNode mid.rows work.rows id (λ part. None)
      → ChangesNode mid.graph.heights work.graph.heights id (λ part. None)
      → work.graph.links ≡ mid.graph.links → work.graph.roots ≡ mid.graph.roots → work.graph.heap ≡ mid.graph.heap
      → KeepsRound (record mid { experts = work.experts }) work → ExpertChanges mid.experts work.experts id None
      → work.todo.items ≡ mid.todo.items → KeepsWork old work
  dropped_again work rows' points' links' roots' heap' round' experts' todo' = record {
    rows = came_and_went old.rows mid.rows work.rows id rows (no_row arena old id kept gen) added rows';
    points = came_and_went old.graph.heights mid.graph.heights work.graph.heights id heights (absent arena old id kept gen) points points';
    links = links' ∙ links;
    roots = roots' ∙ roots;
    heap = λ p. ap (λ (h : Rows ℕ). at h p) heap' ∙ heap p;
    todo = todo' ∙ todo;
    round = record {
      roots = round'.roots ∙ round.roots;
      deaths = round'.deaths ∙ round.deaths;
      ran = refl;
      retries = round'.retries ∙ round.retries;
      round = round'.round ∙ round.round;
      experts = refl;
    };
    ran = ap (λ (l : Vec NodeId Global). l.items) round'.ran ∙ ran;
    room = subst (λ (l : Vec NodeId Global). vec_capacity old.ran ≤ vec_capacity l) (sym round'.ran) room;
    experts = λ n. elim (node_or_other n id) [
      | inl is ↦ subst (λ (x : NodeId). expert_at work.experts x ≡ expert_at old.experts x) (sym is)
          (experts'.changed ∙ sym (no_expert arena old id kept gen))
      | inr ne ↦ experts'.others n ne ∙ experts n ne
    ];
  }

-- ---- the parts

-- what is kept beside the nodes stays, or lists no fewer live nodes
module _ (old new : Parts) (kept : PartsKept old) (same : KeepsWork old.work new.work) (step : IsInStep new.work.graph)
    (pairs : (n : NodeId) → IsLive old.arena n → Among n old.work.pairs.nodes → Among n new.work.pairs.nodes)
    (scoped : (n : NodeId) → IsLive old.arena n → Among n old.work.scoped.nodes → Among n new.work.scoped.nodes)
    (room : vec_capacity old.ran ≤ vec_capacity new.ran) (rest : new ≡ record old { work = new.work; ran = new.ran }) where
  abbrev parts : Parts
  parts = record old { work = new.work; ran = new.ran }

  stays : Stays old.arena old.arena old.work new.work
  stays = back_stays old.arena old.work new.work same

  parts_kept : PartsKept parts
  parts_kept = parts_stay old parts kept (back_kept old.arena old.work new.work kept.work same step pairs scoped) stays refl refl kept.clock
      (let enough = kept.listing in omega (arith, enough, room))

  pub back_parts : PartsKept new
  back_parts = subst PartsKept (sym rest) parts_kept

  pub back_ready : (M : Meaning) → IsReady M old → IsReady M new
  back_ready M ready = subst (IsReady M) (sym rest) (ready_stays M old parts ready ready.fit parts_kept stays)

-- a node was added in no scope
module _ (old new : Parts) (id : NodeId) (row : Row) (heights : Part → ℕ) (kept : PartsKept old) (gen : id.gen_ ≡ old.arena.given)
    (added : nodes.Changes old.arena new.arena id (Some row)) (top : row.scope ≡ None) (sound : IsSoundArena new.arena)
    (given : new.arena.given ≡ old.arena.given + 1)
    (rows : ChangesNode old.work.rows new.work.rows id (for_parts row.def (λ part. new_row row.def)))
    (points : ChangesNode old.work.graph.heights new.work.graph.heights id (for_parts row.def heights))
    (pairs : (n : NodeId) → IsLive old.arena n ⊎ (n ≡ id) → Among n (pairs_with row.def old.work.pairs.nodes id) → Among n new.work.pairs.nodes)
    (scoped : new.work.scoped ≡ old.work.scoped)
    (links : new.work.graph.links ≡ old.work.graph.links) (roots : new.work.graph.roots ≡ old.work.graph.roots)
    (heap : (p : Point) → at new.work.graph.heap p ≡ at old.work.graph.heap p) (step : IsInStep new.work.graph)
    (round : KeepsRound (record old.work { experts = new.work.experts; ran = new.work.ran }) new.work)
    (experts : ExpertIsAdded row.def old.work.experts new.work.experts id)
    (todo : new.work.todo.items ≡ old.work.todo.items) (scopes : new.scopes ≡ old.scopes) (dying : new.dying.items ≡ old.dying.items)
    (timed : new.timed ≡ old.timed) (ran : new.work.ran.items ≡ old.work.ran.items) (called : live new.arena ≤ vec_capacity new.work.ran)
    (listed : live new.arena ≤ vec_capacity new.ran) where
  node_stays : Stays old.arena new.arena old.work new.work
  node_stays = added_stays old.arena new.arena old.work new.work id row heights kept.work gen added top sound given rows points pairs scoped links roots
      heap step round experts todo ran

  pub added_parts : PartsKept new
  added_parts = parts_stay old new kept (added_kept old.arena new.arena old.work new.work id row heights kept.work gen added top sound given rows points
      pairs scoped links roots heap step round experts todo called) node_stays scopes dying
      (subst (KeepsClock new.arena) (sym timed) (clock_grown old.arena new.arena old.timed kept.clock (omega (arith, given)) added.time
      (λ n g. added.others n (λ is. let e = ap (λ (m : NodeId). m.gen_) is in absurd (omega (arith, e, gen, g)))))) listed

  pub added_ready : (M : Meaning) → CallsFit old.arena.given M.known M.ids row.def → IsReady M old → IsReady M new
  added_ready M calls ready = ready_stays M old new ready (added_fit M old.arena new.arena id ready.fit row added given calls) added_parts node_stays
