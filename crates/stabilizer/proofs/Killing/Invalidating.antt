-- The nodes of a bind's scope, and of scopes within it, are put back to their gates one by one, and are to die.
use Rattle.std.proofs.Common.{◌≡◌, ◌≢◌, ◌⊎◌, inl, inr, ◌+◌, ◌<◌, ◌≤◌, ◌++◌, List, [], ◌∷◌, length, Option, Some, refl, sym, ap, subst, ◌∙◌, arith, Vec, Global, vec_len, vec_capacity, length-append}
use Rattle.std.specs.Prelude.{◌↔◌, is_some, IsSome, option_and_then}
use Rattle.inc_value.specs.declared.node.NodeId.{NodeId}
use Rattle.inc_value.specs.declared.node.Point.{Point}
use Rattle.inc_value.specs.Choice.{Among, NoRepeats, here}
use Rattle.inc_terms.specs.Depend.{change}
use Rattle.inc_terms.specs.Graph.{Graph, Row}
use Rattle.inc_terms.specs.Rebuild.{Inside, direct, nested}
use Rattle.link_table.specs.Links.{Reads}
use Rattle.node_arena.specs.Arena.{Arena, row_at}
use Rattle.scopes.specs.Scopes as standing
use Rattle.scopes.specs.Scopes.{Scopes, StandsIn, IsDying, Gives, Empties, node_count}
use Rattle.stabilize_round.specs.Steps.{TakingOff}
use Rattle.stabilize_round.proofs.Machine.{moves_keep}
use Rattle.stabilize_round.proofs.Points.{node_or_other}
use Rattle.stabilize_round.proofs.Steps.{off_moves, joined}
use Rattle.wiring.specs.Graph.{graph_at}
use Rattle.wiring.specs.Wiring.{IsAtGate}
use Rattle.wiring.specs.declared.work.Work.{Work}
use Rattle.wiring.proofs.InHand.{FallsBack, falls_more, falls_then}
use Rattle.wiring.proofs.Placing.{among_before, among_cases}
use Rattle.wiring.proofs.Placing as placing
use Rattle.wiring.proofs.Raising.{off_keeps}
use Rattle.wiring.proofs.TakingAll.{loses_none, loses_then, places_then}
use Rattle.stabilizer.specs.Dying.{AreInvalidated, Invalidates, GateWaits, IsInvalidated, IsGateOf, IsPutToGate, HaveGatesAlone, scope_at}
use Rattle.stabilizer.specs.Kept.{KeepsScopes, PartsKept, ScopesAreOlder, graph_in}
use Rattle.stabilizer.specs.declared.parts.Parts.{Parts}
use Rattle.stabilizer.proofs.Step.Experts.{read_as}
use Rattle.std.proofs.lemmas.Option.{same_Some}

-- ---- who is inside

-- in a graph with the same rows the same nodes are
pub inside_as : (G H : Graph) → ((m : NodeId) → H.row m ≡ G.row m) → (b n : NodeId) → Inside G b n → Inside H b n
inside_as G H same b n (direct e s) = direct (same n ∙ e) s
inside_as G H same b n (nested {c} e s i) = nested (same n ∙ e) s (inside_as G H same b c i)

some_node : (n m : NodeId) → ◌≡◌ {A = Option NodeId} (Some n) (Some m) → n ≡ m
some_node n m e = cc

-- a node stands in one scope
pub one_scope : (arena : Arena) (n b c : NodeId) (r s : Row) → row_at arena n ≡ Some r → r.scope ≡ Some b → row_at arena n ≡ Some s
    → s.scope ≡ Some c → b ≡ c
one_scope arena n b c r s row in_b row' in_c =
    some_node b c (sym in_b ∙ (ap (λ (x : Row). x.scope) (same_Some r s (sym row ∙ row')) ∙ in_c))

-- who is inside has a row, and stands in a scope
pub inside_scoped : (G : Graph) (b n : NodeId) → Inside G b n → (r : Row) × (c : NodeId) × (G.row n ≡ Some r) × (r.scope ≡ Some c)
inside_scoped G b n (direct {r} e s) = (r, b, e, s)
inside_scoped G b n (nested {r} {c} e s i) = (r, c, e, s)

-- by the scopes just those are inside that are so by the nodes
module _ (arena : Arena) (work : Work) (scopes : Scopes) (kept : KeepsScopes arena scopes) where
  by_scopes : (b n : NodeId) → standing.Inside scopes b n → Inside (graph_at arena work) b n
  by_scopes b n (standing.direct h) = let r = (kept.stands n b).0 h in direct r.1 r.2
  by_scopes b n (standing.nested {mid} h i) = let r = (kept.stands n mid).0 h in nested r.1 r.2 (by_scopes b mid i)

  by_nodes : (b n : NodeId) → Inside (graph_at arena work) b n → standing.Inside scopes b n
  by_nodes b n (direct {r} e s) = standing.direct ((kept.stands n b).1 (r, e, s))
  by_nodes b n (nested {r} {c} e s i) = standing.nested ((kept.stands n c).1 (r, e, s)) (by_nodes b c i)

-- a bind was given before what is inside its scope
pub inside_older : (arena : Arena) (work : Work) → ScopesAreOlder arena → (b n : NodeId) → Inside (graph_at arena work) b n → b.gen_ < n.gen_
inside_older arena work older b n (direct {r} e s) = older n b r e s
inside_older arena work older b n (nested {r} {c} e s i) =
    let up = older n c r e s in let low = inside_older arena work older b c i in omega (arith, up, low)

-- so it isn't inside its own
pub never_inside : (arena : Arena) (work : Work) → ScopesAreOlder arena → (b : NodeId) → Inside (graph_at arena work) b b → ⊥
never_inside arena work older b i = let low = inside_older arena work older b b i in omega (arith, low)

-- ---- while they are put back

-- some were put back and are listed, and the others of the bind's scope, and of scopes within it, are still to be given
pub record IsInvalidating (old now : Parts) (b : NodeId) : Type 0 where
  pub done : AreInvalidated old now b
  pub gated : (n : NodeId) → Among n now.dying.items → (p : Point) → p.node ≡ n → IsAtGate now.work p
  pub gates : (n : NodeId) → Among n now.dying.items → (p q : Point) → p.node ≡ n → Reads now.work.graph.links p q → IsGateOf old.arena n q
  pub dying : (n : NodeId) → (IsDying now.scopes n ⊎ Among n now.dying.items) ↔ Inside (graph_in old) b n
  pub apart : (n : NodeId) → IsDying now.scopes n → Among n now.dying.items → ⊥
  pub once : NoRepeats now.dying.items
  pub standing : (n c : NodeId) → StandsIn now.scopes n c ↔ (StandsIn old.scopes n c × (c ≢ b) × (Among c now.dying.items → ⊥))
  pub count : node_count now.scopes + length now.dying.items ≡ node_count old.scopes
  pub room : node_count now.scopes + vec_len now.dying ≤ vec_capacity now.dying

-- none was yet
pub invalidating_first : (old : Parts) (b : NodeId) (scopes : Scopes) → PartsKept old → node_count old.scopes ≤ vec_capacity old.dying
    → ((n : NodeId) → IsDying scopes n ↔ standing.Inside old.scopes b n) → Empties old.scopes scopes b → node_count scopes ≡ node_count old.scopes
    → IsInvalidating old (record old { scopes = scopes }) b
invalidating_first old b scopes kept room dying empties count = record {
  done = record {
    invalidates = λ F z s counts inv waits st. (s, here, st);
    kept = kept.work;
    loses = loses_none old.work.graph;
    heap = λ p h. inl h;
    rows = λ p. inl refl;
    places = record { rows = λ p. refl; roots = λ p. refl; deaths = refl; round = refl; experts = read_as old.work.experts old.work.experts refl };
    rest = refl;
    arena = refl;
    timed = refl;
    ran = refl;
  };
  gated = λ n a p e. absurd (nobody n a);
  gates = λ n a p q e reads. absurd (nobody n a);
  dying = λ n. (
    λ h. elim h [ inl d ↦ by_scopes old.arena old.work old.scopes kept.scopes b n ((dying n).0 d) | inr a ↦ absurd (nobody n a) ],
    λ i. inl ((dying n).1 (by_nodes old.arena old.work old.scopes kept.scopes b n i)),
  );
  apart = λ n d a. nobody n a;
  once = subst NoRepeats (sym kept.dying) tt;
  standing = λ n c. (
    λ h. let x = (empties n c).0 h in (x.0, x.1, nobody c),
    λ h. (empties n c).1 (h.0, h.1),
  );
  count = (let none = ap length kept.dying in omega (arith, none, count));
  room = (let none = ap length kept.dying in let len = old.dying.ok.0 in omega (arith, none, len, count, room));
}
  where
    none_of : (n : NodeId) → Among n [] → ⊥
    none_of n a = a

    nobody : (n : NodeId) → Among n old.dying.items → ⊥
    nobody n a = none_of n (subst (λ (xs : List NodeId). Among n xs) kept.dying a)

pub no_repeats_more : (xs : List NodeId) (g : NodeId) → NoRepeats xs → (Among g xs → ⊥) → NoRepeats (xs ++ g ∷ [])
no_repeats_more [] g once out = (λ a. a, tt)
no_repeats_more (x ∷ xs) g once out = (
  λ a. elim (among_cases x g xs a) [ inl h ↦ once.0 h | inr e ↦ out (inl (sym e)) ],
  no_repeats_more xs g once.1 (λ a. out (inr a)),
)

-- one more is
module _ (old now : Parts) (b g : NodeId) (scopes : Scopes) (work : Work) (dying : Vec NodeId Global) (so : IsInvalidating old now b)
    (was : IsDying now.scopes g) (gives : Gives now.scopes scopes g) (empties : Empties now.scopes scopes g)
    (fewer : node_count scopes + 1 ≡ node_count now.scopes) (put : IsPutToGate now.arena now.work work g)
    (items : dying.items ≡ now.dying.items ++ g ∷ []) (len : vec_len dying ≡ vec_len now.dying + 1)
    (capacity : vec_capacity dying ≡ vec_capacity now.dying) where
  abbrev next : Parts
  next = record now { scopes = scopes; work = work; dying = dying }

  inside_it : Inside (graph_in old) b g
  inside_it = (so.dying g).0 (inl was)

  gate_before : (p : Point) → IsGateOf now.arena g p → IsGateOf old.arena g p
  gate_before p h = subst (λ (a : Arena). IsGateOf a g p) so.done.arena h

  fell_first : (p : Point) → FallsBack old.work now.work p
  fell_first p = elim (so.done.rows p) [ inl e ↦ inl e | inr x ↦ inr x.1 ]

  fell_then : (p : Point) → FallsBack now.work work p
  fell_then p = elim (put.rows p) [ inl e ↦ inl e | inr x ↦ inr x.1 ]

  invalidates_next : Invalidates old next b
  invalidates_next F z s counts inv waits st =
      let a = so.done.invalidates F z s counts inv waits st in
      let k = off_keeps F z s a.0 a.1 in
      let gate : GateWaits now.arena a.0 g = λ r c row scope. ap (λ (f : Point → _). f (change c)) k.settled
      ∙ waits g c r (subst (λ (G : Graph). Inside G b g) (sym st.graph) inside_it)
      (ap (λ (G : Graph). G.row g) st.graph ∙ subst (λ (x : Arena). row_at x g ≡ Some r) so.done.arena row) scope in
      let d = put.taken F z a.0 counts (moves_keep F z s a.0 (off_moves F z s a.0 a.1) inv) gate a.2 in
      (d.0, joined (TakingOff F z) s a.0 d.0 a.1 d.1, d.2)

  done_next : AreInvalidated old next b
  done_next = record {
    invalidates = invalidates_next;
    kept = put.kept;
    loses = loses_then old.work.graph now.work.graph work.graph so.done.loses put.loses;
    heap = λ p h. elim (put.heap p h) [
      | inl before ↦ so.done.heap p before
      | inr x ↦ elim x [
        | inl own ↦ inr (inl (subst (λ (m : NodeId). Inside (graph_in old) b m) (sym own) inside_it))
        | inr gate ↦ inr (inr (g, inside_it, gate_before p gate))
      ]
    ];
    rows = λ p. elim (put.rows p) [
      | inl e ↦ elim (so.done.rows p) [ inl f ↦ inl (e ∙ f) | inr x ↦ inr (x.0, e ∙ x.1) ]
      | inr x ↦ elim (falls_then old.work now.work work p (fell_first p) (inr x.1)) [
        | inl e ↦ inl e
        | inr e ↦ inr (subst (λ (m : NodeId). Inside (graph_in old) b m) (sym x.0) inside_it, e)
      ]
    ];
    places = places_then old.work now.work work so.done.places put.places;
    rest = put.rest ∙ ap (λ (w : Work). record w { graph = work.graph; rows = work.rows }) so.done.rest;
    arena = so.done.arena;
    timed = so.done.timed;
    ran = so.done.ran;
  }

  listed : (n : NodeId) → Among n dying.items → Among n now.dying.items ⊎ (n ≡ g)
  listed n a = among_cases n g now.dying.items (subst (λ (xs : List NodeId). Among n xs) items a)

  still_listed : (n : NodeId) → Among n now.dying.items → Among n dying.items
  still_listed n a = subst (λ (xs : List NodeId). Among n xs) (sym items) (among_before n g now.dying.items a)

  it_listed : (n : NodeId) → n ≡ g → Among n dying.items
  it_listed n e = subst (λ (xs : List NodeId). Among n xs) (sym items)
      (subst (λ (x : NodeId). Among x (now.dying.items ++ g ∷ [])) (sym e) (placing.among_last g now.dying.items))

  dying_next : (n : NodeId) → (IsDying scopes n ⊎ Among n dying.items) ↔ Inside (graph_in old) b n
  dying_next n = (
    λ h. elim h [
      | inl d ↦ (so.dying n).0 (inl ((gives n).0 d).0)
      | inr a ↦ elim (listed n a) [
        | inl before ↦ (so.dying n).0 (inr before)
        | inr same ↦ subst (λ (x : NodeId). Inside (graph_in old) b x) (sym same) inside_it
      ]
    ],
    λ i. elim ((so.dying n).1 i) [
      | inl d ↦ elim (node_or_other n g) [ inl same ↦ inr (it_listed n same) | inr ne ↦ inl ((gives n).1 (d, ne)) ]
      | inr a ↦ inr (still_listed n a)
    ],
  )

  standing_next : (n c : NodeId) → StandsIn scopes n c ↔ (StandsIn old.scopes n c × (c ≢ b) × (Among c dying.items → ⊥))
  standing_next n c = (
    λ h.
        let x = (empties n c).0 h in
        let y = (so.standing n c).0 x.0 in
        (y.0, y.1, λ a. elim (listed c a) [ inl before ↦ y.2 before | inr same ↦ x.1 same ]),
    λ h. (empties n c).1 ((so.standing n c).1 (h.0, h.1, λ a. h.2 (still_listed c a)), λ e. h.2 (it_listed c e)),
  )

  pub invalidating_more : IsInvalidating old next b
  invalidating_more = record {
    done = done_next;
    gated = λ n a p e. elim (listed n a) [
      | inl before ↦ λ need more. so.gated n before p e (put.loses.less p need) (falls_more now.work work p (fell_then p) more)
      | inr same ↦ put.gated p (e ∙ same)
    ];
    gates = λ n a p q e reads. elim (listed n a) [
      | inl before ↦ so.gates n before p q e (let f = put.loses.links p q in omega (arith, f, reads))
      | inr same ↦ subst (λ (x : NodeId). IsGateOf old.arena x q) (sym same) (gate_before q (put.gates p q (e ∙ same) reads))
    ];
    dying = dying_next;
    apart = λ n d a. elim (listed n a) [ inl before ↦ so.apart n ((gives n).0 d).0 before | inr same ↦ ((gives n).0 d).1 same ];
    once = subst NoRepeats (sym items) (no_repeats_more now.dying.items g so.once (so.apart g was));
    standing = standing_next;
    count = (let c = so.count in let l = ap length items ∙ length-append now.dying.items (g ∷ []) in omega (arith, c, l, fewer));
    room = (let r = so.room in omega (arith, r, fewer, len, capacity));
  }

-- a node that is given stands in a scope
pub given_scoped : (old now : Parts) (b g : NodeId) → IsInvalidating old now b → IsDying now.scopes g → IsSome (scope_at now.arena g)
given_scoped old now b g so was =
    let k = inside_scoped (graph_in old) b g ((so.dying g).0 (inl was)) in
    let row : row_at now.arena g ≡ Some k.0 = subst (λ (a : Arena). row_at a g ≡ Some k.0) (sym so.done.arena) k.2 in
    ap is_some (ap (option_and_then (λ (r : Row). r.scope)) row ∙ k.3)

-- all are
module _ (old now : Parts) (b : NodeId) (scopes : Scopes) (kept : PartsKept old) (so : IsInvalidating old now b) (same : scopes ≡ now.scopes)
    (none : (n : NodeId) → IsDying now.scopes n → ⊥) (given : scopes.killed ≡ []) where
  row_then : (n : NodeId) → row_at old.arena n ≡ row_at now.arena n
  row_then n = ap (λ (a : Arena). row_at a n) (sym so.done.arena)

  inside_then : (n : NodeId) → Inside (graph_in now) b n → Inside (graph_in old) b n
  inside_then n i = inside_as (graph_in now) (graph_in old) row_then b n i

  inside_now : (n : NodeId) → Inside (graph_in old) b n → Inside (graph_in now) b n
  inside_now n i = inside_as (graph_in old) (graph_in now) (λ m. sym (row_then m)) b n i

  all_listed : (n : NodeId) → Inside (graph_in old) b n → Among n now.dying.items
  all_listed n i = elim ((so.dying n).1 i) [ inl d ↦ absurd (none n d) | inr a ↦ a ]

  -- one that stands in a scope which isn't emptied isn't inside
  not_inside : (n c : NodeId) → StandsIn old.scopes n c → c ≢ b → (Among c now.dying.items → ⊥) → Inside (graph_in old) b n → ⊥
  not_inside n c stands other out (direct {r} e s) =
      let k = (kept.scopes.stands n c).0 stands in other (one_scope old.arena n c b k.0 r k.1 k.2 e s)
  not_inside n c stands other out (nested {r} {c = d} e s i) =
      let k = (kept.scopes.stands n c).0 stands in
      out (all_listed c (subst (λ (x : NodeId). Inside (graph_in old) b x) (sym (one_scope old.arena n c d k.0 r k.1 k.2 e s)) i))

  stands_then : (n c : NodeId) → StandsIn now.scopes n c ↔ (StandsIn old.scopes n c × (Inside (graph_in old) b n → ⊥))
  stands_then n c = (
    λ h. let y = (so.standing n c).0 h in (y.0, not_inside n c y.0 y.1 y.2),
    λ h.
        let k = (kept.scopes.stands n c).0 h.0 in
        (so.standing n c).1 (
          h.0,
          λ e. h.1 (direct k.1 (subst (λ (x : NodeId). k.0.scope ≡ Some x) e k.2)),
          λ a. h.1 (nested k.1 k.2 ((so.dying c).0 (inr a))),
        ),
  )

  gates_alone : HaveGatesAlone now b
  gates_alone p q r c i row scope reads =
      let g = so.gates p.node (all_listed p.node (inside_then p.node i)) p q refl reads in
      g.4 ∙ ap change (one_scope old.arena p.node g.1 c g.0 r g.2 g.3 (row_then p.node ∙ row) scope)

  invalidated_now : IsInvalidated old now b
  invalidated_now = record {
    done = so.done;
    gated = λ p i. so.gated p.node (all_listed p.node (inside_then p.node i)) p refl;
    gates = gates_alone;
    dying = record {
      all = λ n. (λ a. inside_now n ((so.dying n).0 (inr a)), λ i. all_listed n (inside_then n i));
      once = so.once;
    };
    few = (let c = so.count in omega (arith, c));
    scopes = record { stands = stands_then; none = subst (λ (x : Scopes). x.killed ≡ []) same given };
  }

  pub invalidated : IsInvalidated old (record now { scopes = scopes }) b
  invalidated = subst (λ (x : Scopes). IsInvalidated old (record now { scopes = x }) b) (sym same) invalidated_now
