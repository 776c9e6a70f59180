-- A root comes on: how the state follows, and what is newly needed gets its links.
use Rattle.std.proofs.Common.{◌≡◌, ◌⊎◌, inl, inr, ℕ, suc, true, None, refl, sym, ap, subst, ◌∙◌, arith, ◌≢◌, Bool, []}
use Rattle.std.specs.Prelude.{is_some, ◌↔◌, IsTrue, IsFalse, Result, Ok, Err, OnOk}
use Rattle.inc_value.specs.declared.node.Point.{Point}
use Rattle.inc_value.specs.Choice.{here, step}
use Rattle.inc_terms.specs.Term.{Functions}
use Rattle.point_map.specs.Rows.{at, Rows}
use Rattle.link_table.specs.Links.{KeepsLinks, Links, times}
use Rattle.necessity.specs.Need.{Roots, root_times, OneRootMore, KeepsRoots}
use Rattle.height_order.specs.Levels.{level}
use Rattle.necessary_graph.specs.Part.{NecessaryPart, Needed, AlsoNeeded, IsInStep}
use Rattle.node_arena.specs.Arena.{Arena}
use Rattle.inc_terms.specs.Within.{Given}
use Rattle.stabilize_round.specs.State.{State, Start, at_point}
use Rattle.stabilize_round.specs.Machine as move
use Rattle.stabilize_round.specs.Machine.{Moves, Move}
use Rattle.stabilize_round.specs.Moves.{Enqueues}
use Rattle.stabilize_round.specs.Wire.{rooted, newly, IsIt}
use Rattle.stabilize_round.proofs.Steps.{wiring_moves, joined, wired_moves}
use Rattle.stabilize_round.proofs.Points.{same_or_other, at_same, at_other}
use Rattle.wiring.specs.Stands.{MatchesState, StandsWith, Counts}
use Rattle.wiring.specs.Wiring.{IsNewlyNeeded, AreUnlinked, SettlesNone, ShowsSame, IsLevelled, IsTarget, Wires, WireRefused, PutsRoots, RootRefused}
use Rattle.wiring.specs.declared.work.Work.{Work}
use Rattle.wiring.proofs.Linking.{enqueues, woken_stands, unneeded}
use Rattle.inc_terms.specs.Graph.{Graph}
use Rattle.stabilize_round.proofs.Machine.{moves_keep}
use Rattle.stabilize_round.proofs.Parts.{bool_cases}
use Rattle.wiring.specs.Kept.{IsKept}
use Rattle.wiring.specs.Refusing.{no_memory}
use Rattle.wiring.specs.Rooting.{Follows, PutsRootOn}
use Rattle.wiring.specs.declared.refused.Refused.{Refused}
use Rattle.wiring.specs.declared.refused.Refused.TheVariants.{Memory}
use Rattle.wiring.proofs.Levelling.{low, low_wiring, low_stands}
use Rattle.wiring.proofs.Deciding.{same_need}
use Rattle.wiring.proofs.Staying.{most_same, most_stands, looks_stands}
use Rattle.wiring.proofs.Trying.{IsGrown, grown, grown_kept, target_row}
use Rattle.wiring.proofs.Unlinked.{empty_unlinked}
use Rattle.wiring.proofs.Unsettling.{all_wire, wired_none}

-- one root more is one root more in the state
pub roots_more : (root : Point → ℕ) (old new : Roots) (p : Point) → ((a : Point) → root a ≡ root_times old a) → OneRootMore old new p
    → (a : Point) → at_point p (suc (root p)) root a ≡ root_times new a
roots_more root old new p same more a = elim (same_or_other p a) [
  | inl e ↦ subst (λ (x : Point). at_point p (suc (root p)) root x ≡ root_times new x) e
      (at_same p (suc (root p)) root ∙ (let r = more.raised in let k = same p in omega (arith, r, k)))
  | inr ne ↦ at_other p (suc (root p)) root a ne ∙ (same a ∙ sym (more.others a (λ h. ne (sym h))))
]

module _ (F : Functions) (z : Start) (s : State) (arena : Arena) (old : Work) (g : NecessaryPart) (counts : Counts) (p : Point)
    (st : MatchesState arena old counts None s) (also : AlsoNeeded old.graph g p) (more : OneRootMore old.graph.roots g.roots p)
    (links : KeepsLinks old.graph.links g.links) (heights : g.heights ≡ old.graph.heights) (heap : g.heap ≡ old.graph.heap)
    (level_is : (a : Point) → s.height a ≡ level old.graph.heights a) where
  high : (a : Point) → s.height a ≡ level g.heights a
  high a = level_is a ∙ sym (ap (λ h. level h a) heights)

  pub rooted_with : (N : Point → Type 0) → ((a : Point) → (s.needed a ≡ true) ↔ N a) → StandsWith N arena (record old { graph = g }) counts None (rooted s p)
  rooted_with N needed = most_stands old (record old { graph = g }) (most_same old g old.todo old.retries) arena s (rooted s p) st refl (record {
    links = λ a b. st.links a b ∙ sym (links a b);
    root = roots_more s.root old.graph.roots g.roots p st.root more;
    needed = needed;
    height = λ a n. high a;
    heap = λ a. st.heap a ∙ sym (ap (λ h. is_some (at h a)) heap);
    stage = st.stage;
    owed = st.owed;
    todo = st.todo;
    retries = st.retries;
  })

  pub rooted_stands : Needed old.graph p → AreUnlinked None s
      → (t : State) × Moves F z s t × MatchesState arena (record old { graph = g }) counts None t × AreUnlinked None t × SettlesNone s t
  rooted_stands there unlinked = (
    rooted s p,
    step (move.root ((st.needed p).1 there) refl) here,
    rooted_with (Needed g) (λ a. (
      λ t. (also a).1 (inl ((st.needed a).0 t)),
      λ n. elim ((also a).0 n) [
        | inl o ↦ (st.needed a).1 o
        | inr e ↦ (st.needed a).1 (subst (Needed old.graph) (sym e) there)
      ],
    )),
    unlinked,
    λ q. refl,
  )

  module _ (new : Work) (given : Given arena.given p.node) (fresh : Needed old.graph p → ⊥) (w : IsNewlyNeeded (record old { graph = g }) new p)
      (woken_needs : (a : Point) → Needed new.graph a ↔ Needed g a) (same : is_some (at old.rows p) ≡ is_some (s.graph.row p.node)) where
    now : (a : Point) → Needed new.graph a ↔ (Needed old.graph a ⊎ (a ≡ p))
    now a = (λ n. (also a).0 ((woken_needs a).0 n), λ h. (woken_needs a).1 ((also a).1 h))

    pub rooted_new_stands : AreUnlinked None s → (t : State) × Moves F z s t × MatchesState arena new counts None t × AreUnlinked None t × SettlesNone s t
    rooted_new_stands unlinked =
        let base = rooted_with (Needed old.graph) st.needed in
        let e = enqueues F z (rooted s p) arena (record old { graph = g }) new counts None p (Needed old.graph) base fresh now (high p) refl w same in
        let u = unneeded F z (rooted s p) arena (record old { graph = g }) new counts None p (Needed old.graph) base fresh now (high p) refl w same in
        let on = woken_stands F z (rooted s p) arena (record old { graph = g }) new counts None p (Needed old.graph) base fresh now (high p) refl w same unlinked in
        let h : Enqueues s s.heap (λ a. is_some (at new.graph.heap a)) (IsIt s p) (IsIt s p) = record { kept = e.kept; new = e.new; told = e.told } in (
          on.0,
          step (move.root_new (rw st.given given) u h refl) (wiring_moves F z (newly (rooted s p) p (λ a. is_some (at new.graph.heap a))) on.0 on.1),
          on.2,
          on.3,
          all_wire F z (newly (rooted s p) p (λ a. is_some (at new.graph.heap a))) on.0 on.1,
        )

-- an answer that succeeds has what holds anyhow
pub on_ok : {A E P : Type 0} (r : Result A E) → P → OnOk r P
on_ok (Ok x) h = h
on_ok (Err x) h = tt

module _ (old mid new : Work) (g : NecessaryPart) (p : Point) (newly : Bool) (looks : ShowsSame old mid) (also : AlsoNeeded mid.graph g p)
    (more : OneRootMore mid.graph.roots g.roots p) (links : KeepsLinks mid.graph.links g.links) (heights : g.heights ≡ mid.graph.heights)
    (heap : g.heap ≡ mid.graph.heap) (newly_is : IsFalse newly ↔ Needed mid.graph p)
    (woken : IsTrue newly → IsNewlyNeeded (record mid { graph = g }) new p) (same : IsFalse newly → new ≡ record mid { graph = g })
    (mid_step : IsInStep mid.graph) where
  root_grown : ((a : Point) → a ≢ p → at mid.graph.heights a ≡ at old.graph.heights a) → IsInStep new.graph → IsGrown old new p
  root_grown others step_is = grown old mid new g p newly looks others (λ a. ap (λ (h : Rows ℕ). is_some (at h a)) heights) also
      (λ a. ap (λ (h : Rows ℕ). is_some (at h a)) heap) (λ a b r. inl (omega (arith, links a b, looks.links a b, r))) woken same step_is

  new_roots : (a : Point) → root_times new.graph.roots a ≡ root_times g.roots a
  new_roots a = elim (bool_cases newly) [
    | inl t ↦ ap (λ (r : Roots). root_times r a) (woken t).graph.roots
    | inr f ↦ ap (λ (x : Work). root_times x.graph.roots a) (same f)
  ]

  root_more : OneRootMore old.graph.roots new.graph.roots p
  root_more = record {
    raised = let a = new_roots p in let b = more.raised in let c = looks.roots p in omega (arith, a, b, c);
    others = λ a ne. new_roots a ∙ (more.others a ne ∙ looks.roots a);
  }

  fresh : IsTrue newly → Needed mid.graph p → ⊥
  fresh t n = let f = newly_is.1 n in let e = t in cc

  -- the state's heights are those that the parts keep, before the root comes on
  as_it_is : IsLevelled mid mid
  as_it_is = record {
    rows = λ a. refl;
    links = λ a b. refl;
    roots = λ a. refl;
    heights = λ a. refl;
    heap = λ a. refl;
    step = mid_step;
    todo = refl;
    lists = record { pairs = refl; scoped = refl };
    round = record { roots = refl; deaths = refl; ran = refl; retries = refl; round = refl; experts = refl };
  }

  root_follows_low : (arena : Arena) → IsKept arena old → IsTarget arena old p → (F : Functions) (z : Start) (s : State) (counts : Counts)
      → MatchesState arena mid counts None s → ((a : Point) → s.height a ≡ level mid.graph.heights a) → AreUnlinked None s
      → (t : State) × Moves F z s t × MatchesState arena new counts None t × AreUnlinked None t × SettlesNone s t
  root_follows_low arena kept target F z s counts at_mid high unlinked =
      let row : is_some (at mid.rows p) ≡ is_some (s.graph.row p.node) =
      ap is_some (looks.rows p) ∙ (target_row arena old p kept target ∙ sym (ap (λ (G : Graph). is_some (G.row p.node)) at_mid.graph)) in
      elim (bool_cases newly) [
        | inl t ↦ rooted_new_stands F z s arena mid g counts p at_mid also more links heights heap high new target.given (fresh t) (woken t)
            (same_need g new.graph (λ a. ap (λ (r : Roots). root_times r a) (woken t).graph.roots)
            (λ a b. ap (λ (l : Links). times l a b) (woken t).graph.links)) row unlinked
        | inr f ↦ subst (λ (x : Work). (t : State) × Moves F z s t × MatchesState arena x counts None t × AreUnlinked None t × SettlesNone s t) (sym (same f))
            (rooted_stands F z s arena mid g counts p at_mid also more links heights heap high (newly_is.0 f) unlinked)
      ]

  root_follows : (arena : Arena) → IsKept arena old → IsTarget arena old p → Follows arena old new
  root_follows arena kept target F z s counts st unlinked =
      let first = looks_stands s arena old mid counts None looks st in
      let levelled_state = low F z s arena mid mid counts None first as_it_is in
      let after = root_follows_low arena kept target F z levelled_state counts (low_stands F z s arena mid mid counts None first as_it_is) (λ a. refl) unlinked in (
        after.0,
        joined (Move F z) s levelled_state after.0
            (wiring_moves F z s levelled_state (low_wiring F z s arena mid mid counts None first as_it_is)) after.1,
        after.2,
        after.3,
        after.4,
      )

  pub puts_root_on : ((a : Point) → a ≢ p → at mid.graph.heights a ≡ at old.graph.heights a) → IsInStep new.graph → PutsRootOn old new p
  puts_root_on others step_is arena kept target =
      let grown_by = root_grown others step_is in record {
        follows = root_follows arena kept target;
        kept = grown_kept old new p grown_by arena target kept;
        more = root_more;
        round = grown_by.most.round;
      }

-- ---- then what is newly needed gets its links

-- one root came on, and no other
pub more_then : (old mid new : Roots) (p : Point) → OneRootMore old mid p → KeepsRoots mid new → OneRootMore old new p
more_then old mid new p more same = record {
  raised = let a = same p in let b = more.raised in omega (arith, a, b);
  others = λ a ne. same a ∙ more.others a ne;
}

pub wires_then : (arena : Arena) (old new final : Work) → old.todo.items ≡ [] → Follows arena old new → Wires arena new final None → PutsRoots arena old final
wires_then arena old new final quiet first next F z s counts inv st =
    let a = first F z s counts st (empty_unlinked arena old counts s quiet st) in
    let b = next F z a.0 counts (moves_keep F z s a.0 a.1 inv) a.2 a.3 in
    (b.0, joined (Move F z) s a.0 b.0 a.1 (wired_moves F z a.0 b.0 b.1), b.2, λ q. wired_none F z a.0 b.0 b.1 q ∙ a.4 q)

pub refused_then : (arena : Arena) (old new final : Work) (e : Refused) → old.todo.items ≡ [] → Follows arena old new → WireRefused arena new final None e
    → RootRefused arena old final e
refused_then arena old new final e quiet first next F z s counts inv st =
    let a = first F z s counts st (empty_unlinked arena old counts s quiet st) in
    let b = next F z a.0 counts (moves_keep F z s a.0 a.1 inv) a.2 a.3 in
    (b.0, b.1, joined (Move F z) s a.0 b.0 a.1 (wired_moves F z a.0 b.0 b.2), b.3, b.4)

-- no root came on, for want of memory
pub left_refuses : (arena : Arena) (old new : Work) (e : Refused) → IsLevelled old new → e ≡ Memory → RootRefused arena old new e
left_refuses arena old new e levelled is = subst (λ (x : Refused). RootRefused arena old new x) (sym is) (λ F z s counts inv st. (
  low F z s arena old new counts None st levelled,
  None,
  wiring_moves F z s (low F z s arena old new counts None st levelled) (low_wiring F z s arena old new counts None st levelled),
  low_stands F z s arena old new counts None st levelled,
  no_memory,
))
