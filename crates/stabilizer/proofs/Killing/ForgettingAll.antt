-- The nodes that are to die are forgotten and dropped one after the other.
use Rattle.std.proofs.Common.{◌≡◌, ◌≢◌, ◌⊎◌, inl, inr, ℕ, suc, ◌≤◌, ◌<◌, ◌-◌, true, List, [], ◌∷◌, ◌++◌, Option, None, Some, refl, sym, ap, subst, ◌∙◌, length, take, drop, slice_get, append-nil, arith}
use Rattle.std.specs.Prelude.{is_some, IsSome}
use Rattle.std.proofs.Math.Seq.{take-length, take-suc}
use Rattle.std.proofs.lemmas.List.{append_assoc, drop-append-le, length-take-le}
use Rattle.std.proofs.lemmas.Option.{get_or_from_slice_get, slice_get_within}
use Rattle.inc_value.specs.declared.node.NodeId.{NodeId}
use Rattle.inc_value.specs.declared.node.Point.{Point}
use Rattle.inc_value.specs.Choice.{Among, NoRepeats}
use Rattle.inc_terms.specs.Depend.{main, change}
use Rattle.inc_terms.proofs.Plan.{among_left, among_right}
use Rattle.point_map.specs.Rows.{Rows, at, Holds}
use Rattle.link_table.specs.Links.{Links, Reads}
use Rattle.necessary_graph.specs.Part.{Needed, IsInStep}
use Rattle.node_arena.specs.Arena as nodes
use Rattle.node_arena.specs.Arena.{Arena, row_at}
use Rattle.node_arena.specs.Sound.{IsSoundArena}
use Rattle.node_outcomes.specs.Row.{settled_in}
use Rattle.node_outcomes.specs.Progress.{Progress}
use Rattle.stabilize_round.proofs.Points.{same_or_other, node_or_other, among_or_not}
use Rattle.wiring.specs.Graph.{died_at}
use Rattle.wiring.specs.Scoped.{IsForgotten}
use Rattle.wiring.specs.declared.work.Work.{Work}
use Rattle.wiring.proofs.Deciding.{need_same}
use Rattle.wiring.proofs.Holding.{died_same}
use Rattle.wiring.proofs.Linking.{some_or_none}
use Rattle.wiring.proofs.Placing.{at_node, among_last}
use Rattle.stabilizer.specs.Dying.{MayForget, AreForgotten}

-- some of the nodes were forgotten, and the others are left
pub record IsForgetting (before : Arena) (old : Work) (all : List NodeId) (arena : Arena) (now : Work) (left : List NodeId) : Type 0 where
  pub done : List NodeId
  pub parts : all ≡ left ++ done
  pub forgotten : AreForgotten before arena old now done
  pub step : IsInStep now.graph

-- none was yet
pub forgetting_first : (arena : Arena) (work : Work) (all left : List NodeId) → left ≡ all → MayForget arena work all
    → IsForgetting arena work all arena work left
forgetting_first arena work all left is may = record {
  done = [];
  parts = sym (append-nil left ∙ is);
  forgotten = record {
    given = refl;
    time = refl;
    sound = may.sound;
    dead = λ n a. absurd a;
    others = λ n out. refl;
    rows = λ p out. refl;
    gone = λ p a. absurd a;
    roots = λ p out. refl;
    fewer = λ p none. none;
    rootless = λ n a h. absurd a;
    links = refl;
    graph_roots = refl;
    heights = λ p x. refl;
    dropped = λ p a h none. absurd a;
    absent = λ p none. none;
    out = λ p a h. absurd a;
    heap = λ p out h. h;
    told = λ p n a reads. absurd a;
    only = λ p h. inl h;
    deaths = refl;
    pairs = refl;
    scoped = refl;
    todo = refl;
    ran = refl;
    retries = refl;
    round = refl;
    experts = refl;
  };
  step = may.step;
}

-- ---- those behind so many others, up to a place

abbrev pub upto : ℕ → ℕ → List NodeId → List NodeId
upto before place nodes = drop before (take place nodes)

pub upto_all : (before : ℕ) (nodes : List NodeId) → upto before (length nodes) nodes ≡ drop before nodes
upto_all before nodes = ap (λ (xs : List NodeId). drop before xs) (take-length nodes)

pub upto_more : (before place : ℕ) (nodes : List NodeId) (n : NodeId) → slice_get nodes place ≡ Some n → before ≤ place
    → upto before (suc place) nodes ≡ upto before place nodes ++ n ∷ []
upto_more before place nodes n there low =
    let within = slice_get_within nodes place n there in
    let long = length-take-le place nodes (omega (arith, within)) in
    ap (λ (xs : List NodeId). drop before xs)
    (take-suc nodes place n within ∙ ap (λ (x : NodeId). take place nodes ++ x ∷ []) (get_or_from_slice_get nodes place n n there))
    ∙ drop-append-le before (take place nodes) (n ∷ []) (omega (arith, low, long))

-- the last one, where there is one
pub upto_last : (before place : ℕ) (nodes : List NodeId) (n : NodeId) → before < place → slice_get nodes (place - 1) ≡ Some n
    → upto before place nodes ≡ upto before (place - 1) nodes ++ n ∷ []
upto_last before place nodes n past there =
    let is : place ≡ suc (place - 1) = omega (arith, past) in
    ap (λ (k : ℕ). upto before k nodes) is ∙ upto_more before (place - 1) nodes n there (omega (arith, past))

-- what stands in the first list doesn't in the second
pub once_apart : (n : NodeId) (xs ys : List NodeId) → NoRepeats (xs ++ ys) → Among n xs → Among n ys → ⊥
once_apart n [] ys once a b = absurd a
once_apart n (x ∷ xs) ys once (inl e) b = absurd (once.0 (among_right x xs ys (subst (λ (z : NodeId). Among z ys) e b)))
once_apart n (x ∷ xs) ys once (inr a) b = once_apart n xs ys once.1 a b

pub not_none : {A : Type 0} (x : Option A) → x ≡ None → is_some x ≡ true → ⊥
not_none x none some = let e = sym (ap is_some none) ∙ some in absurd (cc)

-- ---- the next one

module _ (before mid : Arena) (old now : Work) (all left rest : List NodeId) (n : NodeId) (may : MayForget before old all)
    (so : IsForgetting before old all mid now left) (last : left ≡ rest ++ n ∷ []) where
  is_left : Among n left
  is_left = subst (λ (xs : List NodeId). Among n xs) (sym last) (among_last n rest)

  is_one : Among n all
  is_one = subst (λ (xs : List NodeId). Among n xs) (sym so.parts) (among_left n left so.done is_left)

  fresh : Among n so.done → ⊥
  fresh a = once_apart n left so.done (subst (λ (xs : List NodeId). NoRepeats xs) so.parts may.once) is_left a

  was_one : (m : NodeId) → Among m so.done → Among m all
  was_one m a = subst (λ (xs : List NodeId). Among m xs) (sym so.parts) (among_right m left so.done a)

  row_as : (p : Point) → p.node ≡ n → at now.rows p ≡ at old.rows p
  row_as p e = so.forgotten.rows p (λ a. fresh (subst (λ (x : NodeId). Among x so.done) e a))

  height_as : (p : Point) → p.node ≡ n → at now.graph.heights p ≡ at old.graph.heights p
  height_as p e = so.forgotten.heights p (inl (λ a. fresh (subst (λ (x : NodeId). Among x so.done) e a)))

  -- it may be forgotten
  pub next_main : Holds now.rows (main n) × Holds now.graph.heights (main n)
  next_main = let h = may.mains n is_one in (ap is_some (row_as (main n) refl) ∙ h.0, ap is_some (height_as (main n) refl) ∙ h.1)

  pub next_change : Holds now.rows (change n) → Holds now.graph.heights (change n)
  next_change h = ap is_some (height_as (change n) refl) ∙ may.changes n is_one (sym (ap is_some (row_as (change n) refl)) ∙ h)

  pub next_died : IsSome (died_at now n)
  next_died = ap is_some (died_same old now so.forgotten.deaths n) ∙ may.died n is_one

  pub next_live : nodes.IsLive mid n
  next_live = ap is_some (so.forgotten.others n fresh) ∙ may.live n is_one

  -- and then it was
  module _ (arena : Arena) (new : Work) (b : IsForgotten now new n)
      (no_points : (p : Point) → at now.graph.heights p ≡ None → at new.graph.heights p ≡ None) (dropped : nodes.Changes mid arena n None)
      (given : arena.given ≡ mid.given) (sound : IsSoundArena arena) where
    apart : (m : NodeId) → Among m so.done → m ≢ n
    apart m a e = fresh (subst (λ (x : NodeId). Among x so.done) e a)

    died_then : (m : NodeId) → Among m all → IsSome (died_at now m)
    died_then m a = ap is_some (died_same old now so.forgotten.deaths m) ∙ may.died m a

    need_now : (p : Point) → Needed old.graph p → Needed now.graph p
    need_now p need = need_same old.graph now.graph so.forgotten.links so.forgotten.graph_roots p need

    need_was : (p : Point) → Needed now.graph p → Needed old.graph p
    need_was p need = need_same now.graph old.graph (sym so.forgotten.links) (sym so.forgotten.graph_roots) p need

    held : (p : Point) → p.node ≡ n → Holds old.rows p → Holds now.rows p
    held p e h = ap is_some (row_as p e) ∙ h

    reads_now : (p q : Point) → Reads old.graph.links p q → Reads now.graph.links p q
    reads_now p q r = subst (λ (x : Links). Reads x p q) (sym so.forgotten.links) r

    reads_was : (p q : Point) → Reads now.graph.links p q → Reads old.graph.links p q
    reads_was p q r = subst (λ (x : Links). Reads x p q) so.forgotten.links r

    settled_as : (p : Point) → (Among p.node so.done → ⊥) → settled_in now.round (at now.rows p) ≡ settled_in old.round (at old.rows p)
    settled_as p out = ap (λ (k : ℕ). settled_in k (at now.rows p)) so.forgotten.round
        ∙ ap (λ (x : Option Progress). settled_in old.round x) (so.forgotten.rows p out)

    -- what left the heap stays out
    stays_out : (p : Point) → Among p.node so.done → at now.graph.heap p ≡ None → at new.graph.heap p ≡ None
    stays_out p a out = elim (some_or_none (at new.graph.heap p)) [
      | inl k ↦ elim (b.only p (ap is_some k.1)) [
        | inl h ↦ absurd (not_none (at now.graph.heap p) out h)
        | inr x ↦ absurd (not_none (died_at now p.node) x.2 (died_then p.node (was_one p.node a)))
      ]
      | inr z ↦ z
    ]

    -- no root comes
    stays_rootless : (p : Point) → at now.roots p ≡ None → at new.roots p ≡ None
    stays_rootless p none = elim (same_or_other p (change n)) [
      | inl e ↦ elim (some_or_none (at now.rows (change n))) [
        | inl k ↦ ap (λ (x : Point). at new.roots x) e ∙ b.rootless (ap is_some k.1)
        | inr z ↦ ap (λ (m : Rows NodeId). at m p) (b.still_rootless z) ∙ none
      ]
      | inr other ↦ b.roots p other ∙ none
    ]

    told_more : (p : Point) → Reads now.graph.links p (main n)
        → Holds new.graph.heap p ⊎ (settled_in old.round (at old.rows p) ≡ true) ⊎ IsSome (died_at old p.node)
    told_more p reads = elim (b.told p reads) [
      | inl h ↦ inl h
      | inr (inl t) ↦ elim (among_or_not p.node so.done) [
        | inl a ↦ inr (inr (may.died p.node (was_one p.node a)))
        | inr out ↦ inr (inl (sym (settled_as p out) ∙ t))
      ]
      | inr (inr d) ↦ inr (inr (sym (ap is_some (died_same old now so.forgotten.deaths p.node)) ∙ d))
    ]

    told_still : (p : Point) → Holds now.graph.heap p ⊎ (settled_in old.round (at old.rows p) ≡ true) ⊎ IsSome (died_at old p.node)
        → Holds new.graph.heap p ⊎ (settled_in old.round (at old.rows p) ≡ true) ⊎ IsSome (died_at old p.node)
    told_still p (inl h) = elim (node_or_other p.node n) [
      | inl e ↦ inr (inr (may.died p.node (subst (λ (x : NodeId). Among x all) (sym e) is_one)))
      | inr other ↦ inl (b.kept p other h)
    ]
    told_still p (inr x) = inr x

    one_forgotten : AreForgotten before arena old new (n ∷ so.done)
    one_forgotten = record {
      given = given ∙ so.forgotten.given;
      time = dropped.time ∙ so.forgotten.time;
      sound = sound;
      dead = λ m a. elim a [
        | inl e ↦ ap (row_at arena) e ∙ dropped.changed
        | inr k ↦ dropped.others m (apart m k) ∙ so.forgotten.dead m k
      ];
      others = λ m out. dropped.others m (λ e. out (inl e)) ∙ so.forgotten.others m (λ k. out (inr k));
      rows = λ p out. b.rows.others p (λ e. out (inl e)) ∙ so.forgotten.rows p (λ k. out (inr k));
      gone = λ p a. elim a [
        | inl e ↦ at_node new.rows p n e ∙ b.rows.now p.part
        | inr k ↦ b.rows.others p (apart p.node k) ∙ so.forgotten.gone p k
      ];
      roots = λ p out. b.roots p (λ e. out (inl (ap (λ (x : Point). x.node) e))) ∙ so.forgotten.roots p (λ k. out (inr k));
      fewer = λ p none. stays_rootless p (so.forgotten.fewer p none);
      rootless = λ m a h. elim a [
        | inl e ↦ subst (λ (x : NodeId). at new.roots (change x) ≡ None) (sym e)
            (b.rootless (held (change n) refl (subst (λ (x : NodeId). Holds old.rows (change x)) e h)))
        | inr k ↦ stays_rootless (change m) (so.forgotten.rootless m k h)
      ];
      links = b.links ∙ so.forgotten.links;
      graph_roots = b.graph_roots ∙ so.forgotten.graph_roots;
      heights = λ p x. elim x [
        | inl out ↦ b.others p (λ e. out (inl e)) ∙ so.forgotten.heights p (inl (λ k. out (inr k)))
        | inr need ↦ b.there p (need_now p need) ∙ so.forgotten.heights p (inr need)
      ];
      dropped = λ p a h none. elim a [
        | inl e ↦ b.gone p e (held p e h) (λ need. none (need_was p need))
        | inr k ↦ no_points p (so.forgotten.dropped p k h none)
      ];
      absent = λ p e. no_points p (so.forgotten.absent p e);
      out = λ p a h. elim a [ inl e ↦ b.out p e (held p e h) | inr k ↦ stays_out p k (so.forgotten.out p k h) ];
      heap = λ p out h. b.kept p (λ e. out (inl e)) (so.forgotten.heap p (λ k. out (inr k)) h);
      told = λ p m a reads. elim a [
        | inl e ↦ told_more p (reads_now p (main n) (subst (λ (x : NodeId). Reads old.graph.links p (main x)) e reads))
        | inr k ↦ told_still p (so.forgotten.told p m k reads)
      ];
      only = λ p h. elim (b.only p h) [
        | inl was ↦ elim (so.forgotten.only p was) [ inl first ↦ inl first | inr x ↦ inr (x.0, x.1, x.2, inr x.3, x.4) ]
        | inr x ↦
            let out : Among p.node so.done → ⊥ = (λ k. not_none (died_at now p.node) x.2 (died_then p.node (was_one p.node k))) in
            inr (sym (settled_as p out) ∙ x.1, sym (died_same old now so.forgotten.deaths p.node) ∙ x.2, n, inl refl, reads_was p (main n) x.0)
      ];
      deaths = b.deaths ∙ so.forgotten.deaths;
      pairs = b.pairs ∙ so.forgotten.pairs;
      scoped = b.scoped ∙ so.forgotten.scoped;
      todo = rw b.todo so.forgotten.todo;
      ran = b.ran ∙ so.forgotten.ran;
      retries = b.retries ∙ so.forgotten.retries;
      round = b.round ∙ so.forgotten.round;
      experts = b.experts ∙ so.forgotten.experts;
    }

    pub forgetting_more : IsInStep new.graph → IsForgetting before old all arena new rest
    forgetting_more step = record {
      done = n ∷ so.done;
      parts = so.parts ∙ (ap (λ (xs : List NodeId). xs ++ so.done) last ∙ append_assoc rest (n ∷ []) so.done);
      forgotten = one_forgotten;
      step = step;
    }
