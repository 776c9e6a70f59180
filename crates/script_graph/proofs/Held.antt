-- What stands beside the graph of a script.
use Rattle.std.proofs.Common.{◌≡◌, ◌⊎◌, inl, inr, ℕ, zero, suc, ◌+◌, ◌<◌, ◌≤◌, Bool, true, false, cond, List, [], ◌∷◌, map, take, length, None, Some, refl, ap, sym, subst, ◌∙◌, arith, slice_get}
use Rattle.inc_value.specs.Choice.{Among, Reaches, here, step}
use Rattle.inc_value.specs.declared.node.NodeId.{NodeId}
use Rattle.inc_value.specs.declared.node.ObsId.{ObsId}
use Rattle.inc_value.specs.declared.node.Point.{Point}
use Rattle.inc_terms.specs.Depend.{main}
use Rattle.inc_terms.specs.Need.{Holder, Observing, Freezing, Observed, nodes_of, StillHolds, Linked, Held}
use Rattle.inc_terms.proofs.Local.{reach_more}
use Rattle.inc_terms.proofs.Plan.{among_map}
use Rattle.stabilizer.specs.Left.{StoodBeside}
use Rattle.stabilizer.specs.Look.{freeze_roots}
use Rattle.graph.specs.Standing.{look, GraphView, graph, rooted_nodes, IsNeeded, AreRooted, times_linked, times_rooted}
use Rattle.observers.specs.Observers.{in_use, looked_at, node_at}
use Rattle.observers.specs.declared.observer.Observer.{Observer as Looking}
use Rattle.graph.proofs.Needing.{needed_root, needed_linked, needed_has}
use Rattle.stabilize_round.specs.State.{count}
use Rattle.stabilize_round.proofs.Points.{count_among, among_count}
use Rattle.script_graph.specs.Represents.{rooted_at}
use Rattle.script_graph.specs.Settled.{observed_from, frozen_root, root_of, side_of, observed_by}
use Rattle.script_graph.proofs.Frozen.{root_is_unfrozen, counted_root, root_counted}

-- ---- observers

off : {A : Type 0} (b : Bool) (n m : A) → cond b (Some n) None ≡ Some m → (b ≡ true) × (n ≡ m)
off true n m e = (refl, (cc))
off false n m e = absurd (cc)

-- one that is looked at is one of the list
pub looked_within : (os : List Looking) (j : ℕ) (n : NodeId) → looked_at (slice_get os j) ≡ Some n → j < length os
looked_within [] j n e = absurd (cc)
looked_within (o ∷ os) zero n e = omega arith
looked_within (o ∷ os) (suc j) n e = let rest = looked_within os j n e in omega (arith, rest)

taken_looks : (r : ℕ) (os : List Looking) (j : ℕ) (n : NodeId) → looked_at (slice_get (take r os) j) ≡ Some n
    → (j < r) × (looked_at (slice_get os j) ≡ Some n)
taken_looks zero os j n e = absurd (cc)
taken_looks (suc r) [] j n e = absurd (cc)
taken_looks (suc r) (o ∷ os) zero n e = (omega arith, e)
taken_looks (suc r) (o ∷ os) (suc j) n e = let rest = taken_looks r os j n e in let low = rest.0 in (omega (arith, low), rest.1)

looks_taken : (r : ℕ) (os : List Looking) (j : ℕ) → j < r → looked_at (slice_get (take r os) j) ≡ looked_at (slice_get os j)
looks_taken zero os j low = absurd (omega (arith, low))
looks_taken (suc r) [] j low = refl
looks_taken (suc r) (o ∷ os) zero low = refl
looks_taken (suc r) (o ∷ os) (suc j) low = looks_taken r os j (omega (arith, low))

taken_among : (r : ℕ) (os : List Looking) (j : ℕ) (x : Looking) → j < r → slice_get os j ≡ Some x → Among x (take r os)
taken_among zero os j x low e = absurd (omega (arith, low))
taken_among (suc r) [] j x low e = absurd (cc)
taken_among (suc r) (o ∷ os) zero x low e = inl (cc)
taken_among (suc r) (o ∷ os) (suc j) x low e = inr (taken_among r os j x (omega (arith, low)) e)

-- an observer in use stands among those that are
observed_there : (i : ℕ) (os : List Looking) (j : ℕ) (n : NodeId) → looked_at (slice_get os j) ≡ Some n
    → Among (record { 0 = i + j }) (map (λ (x : Observed). x.observer) (observed_from i os))
observed_there i [] j n e = absurd (cc)
observed_there i (o ∷ os) zero n e =
    let on = off o.in_use o.node n e in
    let same : i + 0 ≡ i = omega arith in
    subst (λ (b : Bool). Among (record { 0 = i + 0 }) (map (λ (x : Observed). x.observer)
    (cond b (record { observer = record { 0 = i }; node = o.node } ∷ observed_from (suc i) os) (observed_from (suc i) os)))) (sym on.0)
    (inl (ap (λ (k : ℕ). record { 0 = k }) same))
observed_there i (o ∷ os) (suc j) n e =
    let next : suc i + j ≡ i + suc j = omega arith in
    go o.in_use (subst (λ (k : ℕ). Among (record { 0 = k }) (map (λ (x : Observed). x.observer) (observed_from (suc i) os))) next
    (observed_there (suc i) os j n e))
  where
    go : (b : Bool) → Among (record { 0 = i + suc j }) (map (λ (x : Observed). x.observer) (observed_from (suc i) os))
        → Among (record { 0 = i + suc j }) (map (λ (x : Observed). x.observer)
        (cond b (record { observer = record { 0 = i }; node = o.node } ∷ observed_from (suc i) os) (observed_from (suc i) os)))
    go true among = inr among
    go false among = among

-- their nodes are those of the observers in use
pub observed_nodes : (i : ℕ) (os : List Looking) → nodes_of (observed_from i os) ≡ in_use os
observed_nodes i [] = refl
observed_nodes i (o ∷ os) = go o.in_use (observed_nodes (suc i) os)
  where
    go : (b : Bool) → nodes_of (observed_from (suc i) os) ≡ in_use os
        → nodes_of (cond b (record { observer = record { 0 = i }; node = o.node } ∷ observed_from (suc i) os) (observed_from (suc i) os))
        ≡ cond b (o.node ∷ in_use os) (in_use os)
    go true same = ap (λ (ns : List NodeId). o.node ∷ ns) same
    go false same = same

-- a node that is looked at is so by some observer
looked_by : (os : List Looking) (n : NodeId) → Among n (in_use os) → (j : ℕ) × (looked_at (slice_get os j) ≡ Some n)
looked_by [] n among = absurd among
looked_by (o ∷ os) n among = go o.in_use refl (looked_by os n) among
  where
    go : (b : Bool) → o.in_use ≡ b → (Among n (in_use os) → (j : ℕ) × (looked_at (slice_get os j) ≡ Some n))
        → Among n (cond b (o.node ∷ in_use os) (in_use os)) → (j : ℕ) × (looked_at (slice_get (o ∷ os) j) ≡ Some n)
    go true is later (inl e) = (0, ap (λ (t : Bool). cond t (Some o.node) None) is ∙ ap (λ m. Some m) (sym e))
    go true is later (inr rest) = let r = later rest in (suc r.0, r.1)
    go false is later rest = let r = later rest in (suc r.0, r.1)

looked_in : (os : List Looking) (j : ℕ) (n : NodeId) → looked_at (slice_get os j) ≡ Some n → Among n (in_use os)
looked_in [] j n e = absurd (cc)
looked_in (o ∷ os) zero n e =
    let on = off o.in_use o.node n e in
    subst (λ (b : Bool). Among n (cond b (o.node ∷ in_use os) (in_use os))) (sym on.0) (inl (sym on.1))
looked_in (o ∷ os) (suc j) n e = go o.in_use (looked_in os j n e)
  where
    go : (b : Bool) → Among n (in_use os) → Among n (cond b (o.node ∷ in_use os) (in_use os))
    go true among = inr among
    go false among = among

-- ---- the graph's side

-- a main among those of nodes is that of one of them
pub main_among : (q : Point) (ns : List NodeId) → Among q (map main ns) → (n : NodeId) × Among n ns × (q ≡ main n)
main_among q [] among = absurd among
main_among q (n ∷ ns) (inl e) = (n, inl refl, e)
main_among q (n ∷ ns) (inr among) = let r = main_among q ns among in (r.0, inr r.1, r.2)

reaches_less : {A : Type 0} {R S : A → A → Type 0} {a b : A} → ((c d : A) → R c d → S c d) → Reaches R a b → Reaches S a b
reaches_less less here = here
reaches_less less (step r on) = step (less _ _ r) (reaches_less less on)

module _ {A : Type 0} where
  -- an observer that was there then looks at its node now
  pub rooted_looks : (g : GraphView A) (o : ObsId) (n : NodeId) → rooted_at g o ≡ Some n → (o.0 < g.rooted) × (node_at g.observers o ≡ Some n)
  rooted_looks g o n e = taken_looks g.rooted g.observers o.0 n e

  pub looks_rooted : (g : GraphView A) (o : ObsId) (n : NodeId) → o.0 < g.rooted → node_at g.observers o ≡ Some n → rooted_at g o ≡ Some n
  looks_rooted g o n low e = looks_taken g.rooted g.observers o.0 low ∙ e

  -- one that was there then
  pub rooted_among : (g : GraphView A) (o : ObsId) (x : Looking) → o.0 < g.rooted → slice_get g.observers o.0 ≡ Some x
      → Among x (take g.rooted g.observers)
  rooted_among g o x low e = taken_among g.rooted g.observers o.0 x low e

  -- so it is in use
  root_holds : (g : GraphView A) (holder : Holder) (n : NodeId) → root_of g holder ≡ Some n → StillHolds (observed_by g) holder
  root_holds g (Observing o) n e =
      let same : 0 + o.0 ≡ o.0 = omega arith in
      subst (λ (i : ℕ). Among (record { 0 = i }) (map (λ (x : Observed). x.observer) (observed_by g))) same
      (observed_there 0 g.observers o.0 n (rooted_looks g o n e).1)
  root_holds g (Freezing m) n e = tt

  -- where no other observers were there then, and the observer looks at what it did, it was there as it was
  pub rooted_still : (g h : GraphView A) (o : ObsId) → h.rooted ≡ g.rooted → node_at h.observers o ≡ node_at g.observers o
      → (n : NodeId) → rooted_at g o ≡ Some n → rooted_at h o ≡ Some n
  rooted_still g h o same looks n was =
      let then = rooted_looks g o n was in
      looks_rooted h o n (subst (λ (r : ℕ). o.0 < r) (sym same) then.0) (looks ∙ then.1)

  -- what is needed is held beside the graph
  module _ (g : GraphView A) (roots : AreRooted g (rooted_nodes g)) where
    root_held : (p : Point) → 0 < times_rooted g p → Held (side_of g) (observed_by g) p
    root_held p root = elim (some_of_two (count p (map main (rooted_nodes g))) (freeze_roots (graph g) g.since p) (subst (λ (c : ℕ). 0 < c) (roots p) root)) [
      | inl counted ↦
          let n = main_among p (rooted_nodes g) (count_among p (map main (rooted_nodes g)) counted) in
          let o = looked_by (take g.rooted g.observers) n.0 n.1 in
          record {
            holder = Observing (record { 0 = o.0 });
            node = n.0;
            is_root = o.1;
            still = root_holds g (Observing (record { 0 = o.0 })) n.0 o.1;
            reached = subst (λ (q : Point). Reaches (Linked (side_of g)) (main n.0) q) (sym n.2) here;
          }
      | inr freezes ↦
          let f = root_counted g p freezes in
          record {
            holder = Freezing p.node;
            node = p.node;
            is_root = f.0;
            still = tt;
            reached = subst (λ (q : Point). Reaches (Linked (side_of g)) (main p.node) q) (sym f.1) here;
          }
    ]
      where
        some_of_two : (a b : ℕ) → 0 < a + b → (0 < a) ⊎ (0 < b)
        some_of_two zero b less = inr (omega (arith, less))
        some_of_two (suc a) b less = inl (omega arith)

    pub needed_held : (p : Point) → IsNeeded g p → Held (side_of g) (observed_by g) p
    needed_held p need = needed_has g (Held (side_of g) (observed_by g)) root_held
        (λ a b link h. record {
          holder = h.holder;
          node = h.node;
          is_root = h.is_root;
          still = h.still;
          reached = reach_more (Linked (side_of g)) (main h.node) a b h.reached link;
        }) p need

    pub stood_beside : StoodBeside (side_of g) (look g) (observed_by g)
    stood_beside = record { held = needed_held; last = λ n. refl; cutoff = λ n. refl; stale = λ n. refl }

  -- of fewer roots and links less is held
  module _ (g g' : GraphView A) (rooted : (o : ObsId) (n : NodeId) → rooted_at g' o ≡ Some n → rooted_at g o ≡ Some n)
      (frozen : (f n : NodeId) → frozen_root g' f ≡ Some n → frozen_root g f ≡ Some n) (fewer : (p q : Point) → times_linked g' p q ≤ times_linked g p q) where
    root_less : (holder : Holder) (n : NodeId) → root_of g' holder ≡ Some n → root_of g holder ≡ Some n
    root_less (Observing o) n e = rooted o n e
    root_less (Freezing f) n e = frozen f n e

    pub link_less : (p q : Point) → Linked (side_of g') p q → Linked (side_of g) p q
    link_less p q link = let less = fewer p q in omega (arith, less, link)

    pub held_less : (p : Point) → Held (side_of g') (observed_by g') p → Held (side_of g) (observed_by g) p
    held_less p h = record {
      holder = h.holder;
      node = h.node;
      is_root = root_less h.holder h.node h.is_root;
      still = root_holds g h.holder h.node (root_less h.holder h.node h.is_root);
      reached = reaches_less link_less h.reached;
    }

  -- where all observers in use are roots, what is held is needed
  module _ (g : GraphView A) (roots : AreRooted g (in_use g.observers)) where
    root_is_needed : (holder : Holder) (n : NodeId) → root_of g holder ≡ Some n → IsNeeded g (main n)
    root_is_needed (Observing o) n e =
        let counted = among_count (main n) (map main (in_use g.observers))
        (among_map main n (in_use g.observers) (looked_in g.observers o.0 n (rooted_looks g o n e).1)) in
        needed_root g (main n) (let all = roots (main n) in omega (arith, all, counted))
    root_is_needed (Freezing f) n e =
        let same : f ≡ n = (root_is_unfrozen g f n e).2 in
        let here : frozen_root g n ≡ Some n = subst (λ (q : NodeId). frozen_root g q ≡ Some n) same e in
        needed_root g (main n) (let all = roots (main n) in let one = counted_root g n here in omega (arith, all, one))

    pub held_needed : (p : Point) → Held (side_of g) (observed_by g) p → IsNeeded g p
    held_needed p h = on (root_is_needed h.holder h.node h.is_root) h.reached
      where
        on : {a b : Point} → IsNeeded g a → Reaches (Linked (side_of g)) a b → IsNeeded g b
        on need here = need
        on need (step link rest) = on (needed_linked g _ _ need link) rest
