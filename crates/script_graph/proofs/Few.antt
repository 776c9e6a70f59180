-- That few nodes may come to live, where nodes are added and bodies kept.
use Rattle.std.proofs.Common.{◌≡◌, ◌⊎◌, inl, inr, ℕ, zero, suc, ◌+◌, ◌<◌, ◌≤◌, Bool, List, [], ◌∷◌, ◌++◌, length, take, Option, None, Some, refl, ap, sym, subst, ◌∙◌, arith, slice_get}
use Rattle.std.specs.List.{sum_by}
use Rattle.std.proofs.lemmas.List.Sums.{sum_by-append, sum_by-cons}
use Rattle.formula_elab.specs.Bodies.{OpenBody, size_of}
use Rattle.formula_elab.specs.Opened.{AreMadeAs, NodeNeedsEarlier, filled, made_node, size_at, weight, weight_of as weight_planned}
use Rattle.formula_elab.specs.declared.make.Made.{Made}
use Rattle.formula_elab.specs.declared.make.Made.TheVariants as was
use Rattle.formula_elab.specs.declared.opened.Open.{Open}
use Rattle.formula_elab.specs.declared.opened.Open.TheVariants as open_def
use Rattle.formula_elab.specs.declared.opened.Part.{Part}
use Rattle.formula_elab.specs.declared.plan.Planned.{Planned}
use Rattle.formula_elab.specs.declared.plan.Planned.TheVariants as planned
use Rattle.formula_elab.proofs.Order.{order_of}
use Rattle.graph.specs.Standing.{GraphView}
use Rattle.inc_value.specs.Choice.{Among}
use Rattle.inc_value.specs.declared.function.FnKind.TheVariants as kind
use Rattle.inc_value.specs.declared.function.FnRef.{FnRef}
use Rattle.inc_value.specs.declared.node.NodeId.{NodeId}
use Rattle.inc_value.specs.declared.ty.Ty.{Ty}
use Rattle.inc_terms.proofs.Plan.{among_left, among_right}
use Rattle.inc_terms.specs.Graph as graph_def
use Rattle.inc_terms.specs.Graph.{Def, Row}
use Rattle.inc_terms.specs.Term.{Functions}
use Rattle.inc_terms.specs.Within.{DefWithin, Fit, Given, KnownAs}
use Rattle.node_arena.specs.Arena.{Arena, row_at}
use Rattle.node_arena.specs.RightSide.{RightSide}
use Rattle.node_arena.specs.Sound as arena
use Rattle.script_functions.specs.Bodies.{Body}
use Rattle.script_functions.specs.Keeping.{is_known, makers, side_in}
use Rattle.script_graph.specs.Growing.{AreServed, IsMaking}
use Rattle.script_graph.specs.Sound.{AreFew, weight_at, weight_of}
use Rattle.script_graph.proofs.Bodies.{AreKnown, side_still}
use Rattle.script_graph.proofs.Extending.{WereLive}

-- ---- sums

pub sum_less : {A : Type 0} (f g : A → ℕ) → (xs : List A) → ((x : A) → Among x xs → f x ≤ g x) → sum_by f xs ≤ sum_by g xs
sum_less f g [] less = omega arith
sum_less f g (x ∷ xs) less =
    let first = less x (inl refl) in
    let rest = sum_less f g xs (λ y among. less y (inr among)) in
    let a = sum_by-cons f x xs in
    let b = sum_by-cons g x xs in omega (arith, first, rest, a, b)

-- ---- weights of nodes

-- a known function takes as many nodes with more bodies
weight_still : (maps : FnRef → Bool) (bodies more : List Body) (def : Def)
    → ((l : NodeId) (f : FnRef) (caps : List NodeId) → def ≡ graph_def.Bind l f caps → KnownAs (is_known maps (makers bodies)) kind.Rhs f)
    → weight_of (bodies ++ more) def ≡ weight_of bodies def
weight_still maps bodies more (graph_def.Bind l f caps) known =
    ap (λ (r : RightSide). 1 + r.size) (side_still maps bodies more f (known l f caps refl))
weight_still maps bodies more def known = refl

module _ {F : Type 0} (maps : FnRef → Bool) (bodies more : List Body) (s : GraphView F) (are : AreKnown maps bodies s) where
  row_known : (n : NodeId) (r : Row) → row_at s.nodes n ≡ Some r → (l : NodeId) (f : FnRef) (caps : List NodeId) → r.def ≡ graph_def.Bind l f caps
      → KnownAs (is_known maps (makers bodies)) kind.Rhs f
  row_known n r is l f caps def = (subst (λ (d : Def). DefWithin (λ n. Unit {0}) (Fit s.nodes.given (is_known maps (makers bodies)) are.ids) d) def (are.fit n r is)).0.0

  -- no live node weighs more in a graph where its row is the same, or it is dead
  weight_less : (a : Arena) (n : NodeId) → ((r : Row) → row_at a n ≡ Some r → row_at s.nodes n ≡ Some r)
      → weight_at (bodies ++ more) a n ≤ weight_at bodies s.nodes n
  weight_less a n stays = go (row_at a n) refl
    where
      go : (o : Option Row) → row_at a n ≡ o → weight_at (bodies ++ more) a n ≤ weight_at bodies s.nodes n
      go None is = let none : weight_at (bodies ++ more) a n ≡ 0 = rw (is, weight_at) refl in omega (arith, none)
      go (Some r) is =
          let new : weight_at (bodies ++ more) a n ≡ weight_of (bodies ++ more) r.def = rw (is, weight_at) refl in
          let old : weight_at bodies s.nodes n ≡ weight_of bodies r.def = rw (stays r is, weight_at) refl in
          let same = weight_still maps bodies more r.def (λ l f caps def. row_known n r (stays r is) l f caps def) in
          omega (arith, new, old, same)

  -- where nodes were added and taken back, and bodies kept, no more may come to live
  pub few_back : (a : Arena) (room : ℕ) → WereLive s.nodes a → s.nodes.given ≤ a.given → AreFew bodies s.nodes room → AreFew (bodies ++ more) a room
  few_back a room were given few = record {
    tops = few.tops;
    given = λ n among. let low = few.given n among in omega (arith, low, given);
    all = λ n r is scope. few.all n r (were n r is) scope;
    weight = let less = sum_less (weight_at (bodies ++ more) a) (weight_at bodies s.nodes) few.tops (λ n among. weight_less a n (were n)) in
        let most = few.weight in omega (arith, less, most);
  }

-- ---- nodes that were made

-- the nodes that were made
abbrev nodes_in : List Made → List NodeId
nodes_in [] = []
nodes_in (was.Node n ∷ made) = n ∷ nodes_in made
nodes_in (was.Fn f ∷ made) = nodes_in made

pub node_among : (n : NodeId) (made : List Made) → Among (was.Node n) made → Among n (nodes_in made)
node_among n [] among = absurd among
node_among n (was.Node m ∷ made) (inl same) = inl (let e : n ≡ m = cc in e)
node_among n (was.Node m ∷ made) (inr among) = inr (node_among n made among)
node_among n (was.Fn f ∷ made) (inl same) = absurd (cc)
node_among n (was.Fn f ∷ made) (inr among) = node_among n made among

pub among_node : (n : NodeId) (makes : List Planned) (made : List Made) → AreMadeAs makes made → Among n (nodes_in made)
    → (i : ℕ) × (x : Open) × (slice_get makes i ≡ Some (planned.Node x)) × (i < length made) × (made_node made i ≡ n)
among_node n makes [] kinds among = absurd among
among_node n [] (m ∷ made) kinds among = absurd kinds
among_node n (planned.Node x ∷ makes) (was.Node m ∷ made) kinds (inl same) = (0, x, refl, omega arith, sym same)
among_node n (planned.Node x ∷ makes) (was.Node m ∷ made) kinds (inr among) =
    let rest = among_node n makes made kinds.1 among in (suc rest.0, rest.1, rest.2, (let low = rest.3 in omega (arith, low)), rest.4)
among_node n (planned.Node x ∷ makes) (was.Fn f ∷ made) kinds among = absurd kinds.0
among_node n (planned.Body o ∷ makes) (was.Fn f ∷ made) kinds among =
    let rest = among_node n makes made kinds.1 among in (suc rest.0, rest.1, rest.2, (let low = rest.3 in omega (arith, low)), rest.4)
among_node n (planned.Body o ∷ makes) (was.Node m ∷ made) kinds among = absurd kinds.0.0

-- they weigh no more than what was to be made
made_weigh : (W : NodeId → ℕ) (V : Planned → ℕ) (makes : List Planned) (made : List Made) → AreMadeAs makes made
    → ((i : ℕ) (x : Open) → slice_get makes i ≡ Some (planned.Node x) → i < length made → W (made_node made i) ≤ V (planned.Node x))
    → sum_by W (nodes_in made) ≤ sum_by V makes
made_weigh W V makes [] kinds less = omega arith
made_weigh W V [] (m ∷ made) kinds less = absurd kinds
made_weigh W V (planned.Node x ∷ makes) (was.Node n ∷ made) kinds less =
    let first = less 0 x refl (omega arith) in
    let rest = made_weigh W V makes made kinds.1 (λ i y at low. less (suc i) y at (omega (arith, low))) in
    let a = sum_by-cons W n (nodes_in made) in
    let b = sum_by-cons V (planned.Node x) makes in omega (arith, first, rest, a, b)
made_weigh W V (planned.Node x ∷ makes) (was.Fn f ∷ made) kinds less = absurd kinds.0
made_weigh W V (planned.Body o ∷ makes) (was.Fn f ∷ made) kinds less =
    let rest = made_weigh W V makes made kinds.1 (λ i y at low. less (suc i) y at (omega (arith, low))) in
    let b = sum_by-cons V (planned.Body o) makes in omega (arith, rest, b)
made_weigh W V (planned.Body o ∷ makes) (was.Node n ∷ made) kinds less = absurd kinds.0.0

module _ {F : Type 0} (maps : FnRef → Bool) (bodies more : List Body) (H : Functions) (first now : GraphView F) (are : AreKnown maps bodies first)
    (makes : List Planned) (made : List Made) (h : IsMaking H first now makes made) (known : FnRef → Bool)
    (served : AreServed known (side_in (makers (bodies ++ more))) makes made) (sound : arena.IsSoundArena now.nodes) where
  open_weight : (x : Open) (i : ℕ) → slice_get makes i ≡ Some (planned.Node x) → i < length made
      → ((ty : Ty) (left : Part) (body : ℕ) → x ≡ open_def.Bind ty left body → (o : OpenBody) × (slice_get makes body ≡ Some (planned.Body o)) × (body < length made))
      → weight_of (bodies ++ more) (filled made x) ≤ weight_planned makes (planned.Node x)
  open_weight (open_def.Bind ty left body) i at low bound =
      let b = bound ty left body refl in
      let size = served.size body b.0 b.1 b.2 in
      let planned_size : size_at makes body ≡ size_of b.0.page = rw (b.1, size_at) refl in
      omega (arith, size, planned_size)
  open_weight (open_def.Const v) i at low bound = omega arith
  open_weight (open_def.Var v) i at low bound = omega arith
  open_weight (open_def.Map f parts) i at low bound = omega arith
  open_weight (open_def.Fold f v parts) i at low bound = omega arith
  open_weight (open_def.If ty test a b) i at low bound = omega arith
  open_weight (open_def.Join ty child) i at low bound = omega arith
  open_weight (open_def.At time) i at low bound = omega arith
  open_weight (open_def.Steps v steps) i at low bound = omega arith
  open_weight open_def.Now i at low bound = omega arith
  open_weight (open_def.Every base span) i at low bound = omega arith
  open_weight (open_def.Freeze ty child predicate) i at low bound = omega arith
  open_weight (open_def.Expert f v) i at low bound = omega arith

  -- the functions of binds that were made were made before
  bind_bound : (i : ℕ) (x : Open) → slice_get makes i ≡ Some (planned.Node x) → i < length made
      → (ty : Ty) (left : Part) (body : ℕ) → x ≡ open_def.Bind ty left body → (o : OpenBody) × (slice_get makes body ≡ Some (planned.Body o)) × (body < length made)
  bind_bound i x at low ty left body is =
      let needs = order_of makes i (planned.Node x) h.stands.order at in
      let early = subst (λ (y : Open). NodeNeedsEarlier (take i makes) y) is needs in
      let there = front_is makes i body (planned.Body early.1.0) early.1.1 in
      (early.1.0, there.1, (let less = there.0 in omega (arith, less, low)))
    where
      front_is : {A : Type 0} (xs : List A) (n i : ℕ) (x : A) → slice_get (take n xs) i ≡ Some x → (i < n) × (slice_get xs i ≡ Some x)
      front_is xs zero i x is = absurd (cc)
      front_is [] (suc n) i x is = absurd (cc)
      front_is (y ∷ xs) (suc n) zero x is = (omega arith, is)
      front_is (y ∷ xs) (suc n) (suc i) x is = let rest = front_is xs n i x is in (omega (arith, rest.0), rest.1)

  node_weight : (i : ℕ) (x : Open) → slice_get makes i ≡ Some (planned.Node x) → i < length made
      → weight_at (bodies ++ more) now.nodes (made_node made i) ≤ weight_planned makes (planned.Node x)
  node_weight i x at low =
      let top = h.stands.top i x at low in
      let here : weight_at (bodies ++ more) now.nodes (made_node made i) ≡ weight_of (bodies ++ more) (filled made x) =
      (rw (top.1, weight_at) refl) ∙ ap (weight_of (bodies ++ more)) top.3 in
      let less = open_weight x i at low (bind_bound i x at low) in omega (arith, here, less)

  -- a given node's row stays
  old_stays : (n : NodeId) → Given first.nodes.given n → (r : Row) → row_at now.nodes n ≡ Some r → row_at first.nodes n ≡ Some r
  old_stays n low r is = sym (h.extends.rows n low) ∙ is

  -- where nodes were made for a declaration, as many more may come to live as it has places
  pub few_made : (room less : ℕ) → weight makes + less ≤ room → AreFew bodies first.nodes room → AreFew (bodies ++ more) now.nodes less
  few_made room less within few = record {
    tops = few.tops ++ nodes_in made;
    given = λ n among. elim (among_or n few.tops (nodes_in made) among) [
      | inl old ↦ (let low = few.given n old in let more_given = h.extends.given in omega (arith, low, more_given))
      | inr new ↦
          let i = among_node n makes made h.stands.kinds new in
          let t = h.types i.0 i.1 i.2 i.3 in
          subst (Given now.nodes.given) i.4 (sound.given (made_node made i.0) (rw t.1 refl))
    ];
    all = λ n r is scope. elim (h.new_rows n r is) [
      | inl old ↦ among_left n few.tops (nodes_in made) (few.all n r old scope)
      | inr new ↦ among_right n few.tops (nodes_in made) (node_among n made new)
    ];
    weight =
        let old = sum_less (weight_at (bodies ++ more) now.nodes) (weight_at bodies first.nodes) few.tops
        (λ n among. weight_less maps bodies more first are now.nodes n (old_stays n (few.given n among))) in
        let new = made_weigh (weight_at (bodies ++ more) now.nodes) (weight_planned makes) makes made h.stands.kinds node_weight in
        let all = sum_by-append (weight_at (bodies ++ more) now.nodes) few.tops (nodes_in made) in
        let most = few.weight in
        omega (arith, old, new, all, most, within);
  }
    where
      among_or : (n : NodeId) (xs ys : List NodeId) → Among n (xs ++ ys) → Among n xs ⊎ Among n ys
      among_or n [] ys among = inr among
      among_or n (x ∷ xs) ys (inl is) = inl (inl is)
      among_or n (x ∷ xs) ys (inr among) = elim (among_or n xs ys among) [ inl one ↦ inl (inr one) | inr other ↦ inr other ]
