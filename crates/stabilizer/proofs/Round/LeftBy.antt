-- What a round leaves of the nodes, in the parts' words.
use Rattle.std.proofs.Common.{◌≡◌, inl, inr, ℕ, ◌<◌, ◌≤◌, true, false, Bool, Option, None, Some, refl, sym, ap, subst, ◌∙◌, arith}
use Rattle.std.specs.Prelude.{is_some}
use Rattle.std.proofs.Math.Path.{fun_ext}
use Rattle.std.proofs.lemmas.Bool.{cases_lt}
use Rattle.std.proofs.lemmas.Option.{none-some}
use Rattle.inc_value.specs.declared.node.NodeId.{NodeId}
use Rattle.inc_value.specs.declared.node.Point.{Point}
use Rattle.inc_value.specs.declared.value.Value.{Value}
use Rattle.inc_terms.specs.Depend.{main}
use Rattle.inc_terms.specs.Graph as graph
use Rattle.inc_terms.specs.Graph.{Graph, Row, Def}
use Rattle.inc_terms.specs.Need.{IsUnfrozen}
use Rattle.inc_terms.specs.Term.{Functions}
use Rattle.inc_terms.specs.Within.{Given}
use Rattle.inc_terms.proofs.Staying.{unfolds_rows}
use Rattle.node_arena.specs.Arena.{row_at}
use Rattle.node_outcomes.specs.Row.{kept_by, kept_in}
use Rattle.node_outcomes.specs.Progress.{Progress}
use Rattle.point_map.specs.Rows.{at}
use Rattle.stabilize_round.specs.Invariant.{Rooted}
use Rattle.stabilize_round.specs.Runs.{BuildsFew}
use Rattle.stabilize_round.specs.State.{State}
use Rattle.stabilize_round.specs.Stopped.{StandsAnew}
use Rattle.wiring.specs.Kept.{IsFreeze, IsKept, IsTop}
use Rattle.wiring.specs.Stands.{Counts, counts_of}
use Rattle.stabilizer.specs.Kept.{graph_in}
use Rattle.stabilizer.specs.Left as look
use Rattle.stabilizer.specs.Look.{freeze_roots}
use Rattle.stabilizer.specs.Round.{IsLeftBy, BuiltFew, left_by}
use Rattle.stabilizer.specs.declared.parts.Parts.{Parts}
use Rattle.stabilizer.proofs.Round.Beginning.{main_there}
use Rattle.stabilizer.proofs.Round.Rooting.{root_unfrozen, unfrozen_root}
use Rattle.stabilizer.proofs.Round.Stopped.{IsLeftOver}
use Rattle.stabilizer.proofs.Round.Telling.{in_scope}

-- ---- freezes

top_freeze : (def : Def) → IsFreeze def → IsTop def
top_freeze (graph.Freeze kid f) h = tt
top_freeze _ h = absurd h

none_there : {A : Type 0} (x : Option A) → is_some x ≡ false → x ≡ None
none_there None e = refl
none_there (Some a) e = absurd (cc)

-- where freezes keep what they kept, the graph is the one that the round read
pub left_same : (old new : Parts) → ((n : NodeId) → (graph_in new).frozen n ≡ (graph_in old).frozen n) → graph_in new ≡ left_by old new
left_same old new frozen = ap (λ (f : NodeId → Option Value). record (graph_in new) { frozen = f }) (fun_ext frozen)

module _ (F : Functions) (old new : Parts) (s u : State) (graph : s.graph ≡ graph_in old) (given : s.given ≡ old.arena.given)
    (graph' : u.graph ≡ graph_in new) (first : IsKept old.arena old.work) (kept : IsKept new.arena new.work) (over : IsLeftOver F s u) where
  row_was : (n : NodeId) → s.graph.row n ≡ row_at old.arena n
  row_was n = ap (λ (G : Graph). G.row n) graph

  row_now : (n : NodeId) → u.graph.row n ≡ row_at new.arena n
  row_now n = ap (λ (G : Graph). G.row n) graph'

  given_then : (n : NodeId) → Given old.arena.given n → Given s.given n
  given_then n g = omega (arith, given, g)

  -- a new node stands in a scope
  born_scoped : (n : NodeId) (r : Row) → old.arena.given ≤ n.gen_ → row_at new.arena n ≡ Some r → r.scope ≡ None → ⊥
  born_scoped n r late row none =
      let a = (over.left.new n r (omega (arith, given, late)) (row_now n ∙ row)).0 in
      in_scope u.graph a.bind n r (row_now n ∙ row) none a.inside

  -- a node that died stood in one
  dead_scoped : (n : NodeId) (r : Row) → row_at old.arena n ≡ Some r → row_at new.arena n ≡ None → r.scope ≡ None → ⊥
  dead_scoped n r row dead none =
      let d = over.left.dead n r (given_then n (first.sound.given n (ap is_some row))) (row_was n ∙ row) (row_now n ∙ dead) in
      in_scope s.graph d.0 n r (row_was n ∙ row) none d.1

  late_none : (n : NodeId) → old.arena.given ≤ n.gen_ → kept_in (at new.work.rows (main n)) ≡ None
  late_none n late = by_row (at new.work.rows (main n)) refl
    where
      by_flag : (k : Progress) → at new.work.rows (main n) ≡ Some k → (b : Bool) → k.frozen ≡ b → kept_by b k.last ≡ None
      by_flag k e false is = refl
      by_flag k e true is =
          let h = kept.frozen n k e is in
          absurd (born_scoped n h.row late h.is_row (kept.tops n h.row h.is_row (top_freeze h.row.def h.is_freeze)))

      by_row : (x : Option Progress) → at new.work.rows (main n) ≡ x → kept_in x ≡ None
      by_row None e = refl
      by_row (Some k) e = by_flag k e k.frozen refl

  none_yet : (n : NodeId) → old.arena.given ≤ n.gen_ → kept_in (at old.work.rows (main n)) ≡ None
  none_yet n late = by_row (row_at old.arena n) refl
    where
      by_row : (x : Option Row) → row_at old.arena n ≡ x → kept_in (at old.work.rows (main n)) ≡ None
      by_row None e = ap kept_in (none_there (at old.work.rows (main n)) (main_there old.arena old.work first n ∙ ap is_some e))
      by_row (Some r) e = absurd (let g = first.sound.given n (ap is_some e) in omega (arith, g, late))

  -- freezes keep what they kept
  pub frozen_stays : (n : NodeId) → (graph_in new).frozen n ≡ (graph_in old).frozen n
  frozen_stays n = elim (cases_lt n.gen_ old.arena.given) [
    | inl lt ↦ ap (λ (G : Graph). G.frozen n) (sym graph') ∙ (over.left.rest.frozen n (given_then n lt) ∙ ap (λ (G : Graph). G.frozen n) graph)
    | inr late ↦ late_none n late ∙ sym (none_yet n late)
  ]

  -- one that keeps no value keeps none still
  pub unfrozen_stays : (n : NodeId) → IsUnfrozen (graph_in old) n → IsUnfrozen (graph_in new) n
  unfrozen_stays n f =
      let g = first.sound.given n (ap is_some f.is_row) in
      let row : row_at new.arena n ≡ Some f.row = elim (over.left.rest.rows n (given_then n g)) [
        | inl same ↦ sym (row_now n) ∙ (same ∙ (row_was n ∙ f.is_row))
        | inr gone ↦ absurd (dead_scoped n f.row f.is_row (sym (row_now n) ∙ gone) (first.tops n f.row f.is_row (subst IsTop (sym f.is_freeze) tt)))
      ] in
      record {
        row = f.row;
        kid = f.kid;
        predicate = f.predicate;
        is_row = row;
        is_freeze = f.is_freeze;
        keeps_none = frozen_stays n ∙ f.keeps_none;
      }

  -- and one that keeps none then kept none
  unfrozen_was : (n : NodeId) → IsUnfrozen (graph_in new) n → IsUnfrozen (graph_in old) n × (n.gen_ < old.arena.given)
  unfrozen_was n f = elim (cases_lt n.gen_ old.arena.given) [
    | inl lt ↦
        let row : row_at old.arena n ≡ Some f.row = elim (over.left.rest.rows n (given_then n lt)) [
          | inl same ↦ sym (row_was n) ∙ (sym same ∙ (row_now n ∙ f.is_row))
          | inr gone ↦ absurd (none-some f.row (sym gone ∙ (row_now n ∙ f.is_row)))
        ] in (
          record {
            row = f.row;
            kid = f.kid;
            predicate = f.predicate;
            is_row = row;
            is_freeze = f.is_freeze;
            keeps_none = sym (frozen_stays n) ∙ f.keeps_none;
          },
          lt,
        )
    | inr late ↦ absurd (born_scoped n f.row late f.is_row (kept.tops n f.row f.is_row (subst IsTop (sym f.is_freeze) tt)))
  ]

  -- so need begins at as many of them
  pub roots_last : u.given ≡ new.arena.given → (p : Point)
      → freeze_roots (graph_in new) new.arena.given p ≡ freeze_roots (graph_in old) old.arena.given p
  roots_last given' p = elim (cases_lt 0 (freeze_roots (graph_in old) old.arena.given p)) [
    | inl h ↦
        let f = root_unfrozen (graph_in old) old.arena.given p h in
        let more = over.left.rest.given in
        let one = unfrozen_root (graph_in new) new.arena.given p.node (unfrozen_stays p.node f.0) (let lt = f.2 in omega (arith, given, given', more, lt)) in
        let was = unfrozen_root (graph_in old) old.arena.given p.node f.0 f.2 in
        ap (freeze_roots (graph_in new) new.arena.given) f.1 ∙ (one ∙ (sym was ∙ ap (freeze_roots (graph_in old) old.arena.given) (sym f.1)))
    | inr z ↦ elim (cases_lt 0 (freeze_roots (graph_in new) new.arena.given p)) [
      | inl h ↦
          let f = root_unfrozen (graph_in new) new.arena.given p h in
          let w = unfrozen_was p.node f.0 in
          let was = ap (freeze_roots (graph_in old) old.arena.given) f.1 ∙ unfrozen_root (graph_in old) old.arena.given p.node w.0 w.1 in
          absurd (omega (arith, was, z))
      | inr z' ↦ omega (arith, z, z')
    ]
  ]

-- ---- the state with the parts' nodes and these counts

abbrev told_by : State → Graph → ℕ → Counts → State
told_by s G given counts = record s { graph = G; given = given; builds = counts.builds; adds = counts.adds }

is_told_by : (s : State) (G : Graph) (given : ℕ) (counts : Counts) → s.graph ≡ G → s.given ≡ given → counts_of s ≡ counts
    → s ≡ told_by s G given counts
is_told_by s G given counts graph given' c = λ i. record s { graph = graph i; given = given' i; builds = (c i).builds; adds = (c i).adds }

-- what reads back does so whatever freezes keep
rooted_too : (F : Functions) (old new : Parts) → Rooted F (left_by old new) → Rooted F (graph_in new)
rooted_too F old new rooted n r l f captures w row def at =
    let h = rooted n r l f captures w row def at in
    record {
      unfolds = λ v is. let x = h.unfolds v is in
          (x.0, x.1, unfolds_rows (left_by old new) (graph_in new) (λ m. refl) (Some n) captures (F.term f v) x.0 x.2);
      rootless = h.rootless;
    }

module _ (F : Functions) (old new : Parts) (before after : Counts) (s u : State) where
  abbrev was : State
  was = told_by s (graph_in old) old.arena.given before

  abbrev now : State
  now = told_by u (left_by old new) new.arena.given after

  stands_by : (n : NodeId) → StandsAnew was now n → look.StandsAnew old.arena.given new.arena.given (left_by old new) n
  stands_by n a = record { bind = a.bind; row = a.row; given = a.given; is_row = a.is_row; inside = a.inside; there = a.new }

  left_as : ((n : NodeId) (r : Row) → row_at old.arena n ≡ Some r → Given old.arena.given n) → IsLeftOver F was now → IsLeftBy F old new before after
  unfolding stands_by
  left_as live k = record {
    rest = k.left.rest;
    nodes = record {
      dead = λ n r row gone. k.left.dead n r (live n r row) row gone;
      fallen = λ n r row gone. k.fallen n r row gone;
      killed = k.killed;
      roots = k.left.roots;
      born = λ n r le row. let a = k.left.new n r le row in (stands_by n a.0, a.1);
      builds = k.left.builds;
      adds = k.left.adds;
    };
    rooted = rooted_too F old new k.rooted;
    inside = k.left.inside;
  }

-- what the machine says of the states is so of the parts that stand for them
pub left_by_parts : (F : Functions) (old new : Parts) (before after : Counts) (s u : State) → s.graph ≡ graph_in old → s.given ≡ old.arena.given
    → counts_of s ≡ before → u.graph ≡ left_by old new → u.given ≡ new.arena.given → counts_of u ≡ after
    → ((n : NodeId) (r : Row) → row_at old.arena n ≡ Some r → Given old.arena.given n) → IsLeftOver F s u → IsLeftBy F old new before after
left_by_parts F old new before after s u graph given counts graph' given' counts' live k =
    left_as F old new before after s u live
    (subst (λ (x : State). IsLeftOver F (told_by s (graph_in old) old.arena.given before) x)
    (is_told_by u (left_by old new) new.arena.given after graph' given' counts')
    (subst (λ (x : State). IsLeftOver F x u) (is_told_by s (graph_in old) old.arena.given before graph given counts) k))

-- so is what it says of the count of builds
pub few_by_parts : (F : Functions) (old new : Parts) (before after : Counts) (unbuilt : Option NodeId) (s u : State) → s.graph ≡ graph_in old
    → s.given ≡ old.arena.given → counts_of s ≡ before → u.graph ≡ left_by old new → counts_of u ≡ after
    → BuildsFew F s.given s.graph u.graph unbuilt s.builds u.builds → BuiltFew F old new unbuilt before after
few_by_parts F old new before after unbuilt s u graph given counts graph' counts' k =
    subst (λ (c : Counts). BuildsFew F old.arena.given (graph_in old) (left_by old new) unbuilt before.builds c.builds) counts'
    (subst (λ (c : Counts). BuildsFew F old.arena.given (graph_in old) (left_by old new) unbuilt c.builds u.builds) counts
    (subst (λ (G : Graph). BuildsFew F old.arena.given (graph_in old) G unbuilt s.builds u.builds) graph'
    (subst (λ (G : Graph). BuildsFew F old.arena.given G u.graph unbuilt s.builds u.builds) graph
    (subst (λ (count : ℕ). BuildsFew F count s.graph u.graph unbuilt s.builds u.builds) given k))))
