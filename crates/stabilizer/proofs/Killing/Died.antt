-- What is to die is listed, and dies.
use Rattle.std.proofs.Common.{◌≡◌, ◌≢◌, ◌⊎◌, inl, inr, ℕ, ◌<◌, ◌≤◌, List, ◌∷◌, ◌++◌, Option, None, Some, refl, sym, ap, subst, ◌∙◌, arith, ◌+◌, length, drop, Vec, Global, append-nil, length-append}
use Rattle.std.specs.Prelude.{◌↔◌, is_some, IsSome, option_map, option_and_then, [], vec_capacity}
use Rattle.std.proofs.Math.Seq.{drop-append_seam}
use Rattle.std.proofs.lemmas.List.{append_assoc}
use Rattle.std.proofs.lemmas.Option.{none-some, same_Some}
use Rattle.inc_value.specs.declared.node.NodeId.{NodeId}
use Rattle.inc_value.specs.declared.node.Part.TheVariants.{Main}
use Rattle.inc_value.specs.declared.node.Point.{Point}
use Rattle.inc_value.specs.declared.outcome.Outcome.{Outcome}
use Rattle.inc_value.specs.Choice.{Among, Every, NoRepeats}
use Rattle.inc_terms.specs.Depend.{main, change, subject_of}
use Rattle.inc_terms.specs.Graph as graph
use Rattle.inc_terms.specs.Graph.{Row}
use Rattle.inc_terms.specs.Rebuild.{Inside, direct, nested}
use Rattle.inc_terms.specs.Within.{Given}
use Rattle.point_map.specs.Rows.{at, Holds, Changes}
use Rattle.link_table.specs.Links.{Links, Reads}
use Rattle.necessary_graph.specs.Part.{NecessaryPart, Needed, IsInStep}
use Rattle.node_arena.specs.Arena.{Arena, row_at, live}
use Rattle.stabilizer.proofs.Round.Alive.{fewer_live}
use Rattle.node_outcomes.specs.Choosing.{built_in}
use Rattle.node_arena.specs.Typing.{FoldTakes}
use Rattle.expert_nodes.specs.Experts.{ExpertPlace, expert_at, kids_at}
use Rattle.node_outcomes.specs.Computing.{has_part, is_expert}
use Rattle.node_outcomes.specs.Row.{IsRewritten, without_outcome, settled_in, outcome_in}
use Rattle.node_outcomes.specs.Progress.{Progress}
use Rattle.scopes.specs.Scopes.{Scopes, StandsIn}
use Rattle.stabilize_round.proofs.Parts.{bool_cases}
use Rattle.stabilize_round.proofs.Points.{same_or_other, node_or_other, among_or_not}
use Rattle.wiring.specs.Deciding.{is_needed}
use Rattle.wiring.specs.Graph.{died_at, held_at}
use Rattle.wiring.specs.Kept.{IsKept, IsDead, IsGhostLink}
use Rattle.wiring.specs.declared.work.Work.{Work}
use Rattle.wiring.proofs.Deciding.{need_same, decides_needed}
use Rattle.wiring.proofs.Holding.{died_same, right_as}
use Rattle.wiring.proofs.Linking.{some_or_none}
use Rattle.wiring.proofs.Placing.{among_before, among_last, among_cases}
use Rattle.wiring.proofs.Releasing.{main_apart}
use Rattle.timed_nodes.specs.Timed.{KeepsClock}
use Rattle.stabilizer.specs.Dying.{AreDying, AreListed, AreBehind, MayForget, AreForgotten, HasDied, HaveGatesAlone, StandsBut, scope_at}
use Rattle.stabilizer.specs.Kept.{PartsKept, KeepsScopes, graph_in}
use Rattle.stabilizer.specs.declared.parts.Parts.{Parts}
use Rattle.stabilizer.proofs.Killing.ForgettingAll.{not_none, once_apart}
use Rattle.stabilizer.proofs.Killing.Invalidating.{no_repeats_more}
use Rattle.stabilizer.proofs.Between.Typing.{KeepsTypes, call_still, folds_still, listed_still, typed_still, right_still}
use Rattle.stabilizer.proofs.Step.Experts.{no_expert, scoped_plain}
use Rattle.node_lists.specs.Deaths.{Deaths}

-- some of the nodes went over to the dead, and there is room for those that are left
pub record IsListing (arena : Arena) (old now : Work) (all left : List NodeId) : Type 0 where
  pub more : List NodeId
  pub behind : now.deaths.nodes ≡ old.deaths.nodes ++ more
  pub same : (n : NodeId) → (Among n left ⊎ Among n more) ↔ Among n all
  pub apart : (n : NodeId) → Among n left → Among n more → ⊥
  pub once_left : NoRepeats left
  pub once : NoRepeats more
  pub died : (n : NodeId) → Among n more → died_at now n ≡ scope_at arena n
  pub others : (n : NodeId) → (Among n more → ⊥) → died_at now n ≡ died_at old n
  pub room : length left ≤ now.deaths.spare
  pub rest : now ≡ record old { deaths = now.deaths }

pub listing_first : (arena : Arena) (old : Work) (nodes : List NodeId) → NoRepeats nodes → length nodes ≤ old.deaths.spare
    → IsListing arena old old nodes nodes
listing_first arena old nodes once room = record {
  more = [];
  behind = sym (append-nil old.deaths.nodes);
  same = λ n. (λ h. elim h [ inl a ↦ a | inr none ↦ absurd none ], λ a. inl a);
  apart = λ n a none. none;
  once_left = once;
  once = tt;
  died = λ n none. absurd none;
  others = λ n out. refl;
  room = room;
  rest = refl;
}

once_before : (xs : List NodeId) (n : NodeId) → NoRepeats (xs ++ n ∷ []) → NoRepeats xs
once_before [] n once = tt
once_before (x ∷ xs) n once = (λ a. once.0 (among_before x n xs a), once_before xs n once.1)

module _ (arena : Arena) (old now : Work) (all left rest : List NodeId) (m : NodeId) (so : IsListing arena old now all left)
    (last : left ≡ rest ++ m ∷ []) where
  m_left : Among m left
  m_left = subst (λ (xs : List NodeId). Among m xs) (sym last) (among_last m rest)

  -- the last one didn't go over yet
  pub listing_absent : ((n : NodeId) → Among n all → died_at old n ≡ None) → died_at now m ≡ None
  listing_absent absent = so.others m (so.apart m m_left) ∙ absent m ((so.same m).0 (inl m_left))

  -- it stands in a scope
  pub listing_scoped : ((n : NodeId) → Among n all → IsSome (scope_at arena n)) → None ≡ scope_at arena m → ⊥
  listing_scoped scopes none = let h = ap is_some none ∙ scopes m ((so.same m).0 (inl m_left)) in absurd (cc)

  pub listing_room : 0 < now.deaths.spare
  listing_room = let room = so.room in let l = ap length last ∙ length-append rest (m ∷ []) in omega (arith, room, l)

  before : (n : NodeId) → Among n rest → Among n left
  before n r = subst (λ (xs : List NodeId). Among n xs) (sym last) (among_before n m rest r)

  fresh : Among m rest → ⊥
  fresh r = once_apart m rest (m ∷ []) (subst (λ (xs : List NodeId). NoRepeats xs) last so.once_left) r (inl refl)

  it_goes : (n : NodeId) → n ≡ m → Among n (so.more ++ m ∷ [])
  it_goes n e = subst (λ (x : NodeId). Among x (so.more ++ m ∷ [])) (sym e) (among_last m so.more)

  -- it does
  pub listing_more : (deaths : Deaths) (scope : NodeId) → scope_at arena m ≡ Some scope → deaths.nodes ≡ now.deaths.nodes ++ m ∷ []
      → Changes now.deaths.scopes deaths.scopes (main m) (Some scope) → deaths.spare + 1 ≡ now.deaths.spare
      → IsListing arena old (record now { deaths = deaths }) all rest
  listing_more deaths scope is nodes changes spare = record {
    more = so.more ++ m ∷ [];
    behind = nodes ∙ (ap (λ (xs : List NodeId). xs ++ m ∷ []) so.behind ∙ append_assoc old.deaths.nodes so.more (m ∷ []));
    same = λ n. (
      λ h. elim h [
        | inl r ↦ (so.same n).0 (inl (before n r))
        | inr a ↦ elim (among_cases n m so.more a) [
          | inl x ↦ (so.same n).0 (inr x)
          | inr e ↦ (so.same n).0 (inl (subst (λ (x : NodeId). Among x left) (sym e) m_left))
        ]
      ],
      λ a. elim ((so.same n).1 a) [
        | inl l ↦ elim (among_cases n m rest (subst (λ (xs : List NodeId). Among n xs) last l)) [
          | inl r ↦ inl r
          | inr e ↦ inr (it_goes n e)
        ]
        | inr x ↦ inr (among_before n m so.more x)
      ],
    );
    apart = λ n r a. elim (among_cases n m so.more a) [
      | inl x ↦ so.apart n (before n r) x
      | inr e ↦ fresh (subst (λ (x : NodeId). Among x rest) e r)
    ];
    once_left = once_before rest m (subst (λ (xs : List NodeId). NoRepeats xs) last so.once_left);
    once = no_repeats_more so.more m so.once (so.apart m m_left);
    died = λ n a. elim (node_or_other n m) [
      | inl e ↦ subst (λ (x : NodeId). at deaths.scopes (main x) ≡ scope_at arena x) (sym e) (changes.changed ∙ sym is)
      | inr other ↦ elim (among_cases n m so.more a) [
        | inl x ↦ changes.others (main n) (λ h. other (ap (λ (p : Point). p.node) h)) ∙ so.died n x
        | inr e ↦ absurd (other e)
      ]
    ];
    others = λ n out. changes.others (main n) (λ h. out (it_goes n (ap (λ (p : Point). p.node) h)))
        ∙ so.others n (λ x. out (among_before n m so.more x));
    room = let room = so.room in let l = ap length last ∙ length-append rest (m ∷ []) in omega (arith, room, l, spare);
    rest = ap (λ (w : Work). record w { deaths = deaths }) so.rest;
  }

-- nothing was left to take off
pub drained : (left rest : List NodeId) → left ≡ rest ++ [] → length rest ≡ 0 → (left ≡ []) × (rest ≡ [])
drained left [] same none = (same, refl)
drained left (n ∷ rest) same none = absurd (omega (arith, none))

-- then all have gone over, behind those that died before
module _ (arena : Arena) (old now : Work) (all left : List NodeId) (so : IsListing arena old now all left) (none : left ≡ []) where
  gone_over : (n : NodeId) → Among n all → Among n so.more
  gone_over n a = elim ((so.same n).1 a) [
    | inl l ↦ absurd (none_of n (subst (λ (xs : List NodeId). Among n xs) none l))
    | inr x ↦ x
  ]
    where
      none_of : (n : NodeId) → Among n [] → ⊥
      none_of n a = a

  pub listing_last : AreListed arena old now all
  listing_last = record {
    died = λ n a. so.died n (gone_over n a);
    others = λ n out. so.others n (λ x. out ((so.same n).0 (inr x)));
    rest = so.rest;
  }

  pub listing_behind : AreBehind old.deaths.nodes now.deaths.nodes all
  listing_behind = record { more = so.more; behind = so.behind; same = λ n. (λ x. (so.same n).0 (inr x), gone_over n); once = so.once }

-- ---- of parts

-- of the parts nothing else changed
pub record AreBeingListed (old now : Parts) : Type 0 where
  pub listing : IsListing old.arena old.work now.work old.dying.items now.dying.items
  pub rest : now ≡ record old { work = now.work; dying = now.dying }

module _ (old now : Parts) (so : AreBeingListed old now) (dying : Vec NodeId Global) (m : NodeId) (last : now.dying.items ≡ dying.items ++ m ∷ []) where
  scope_was : scope_at now.arena m ≡ scope_at old.arena m
  scope_was = ap (λ (p : Parts). scope_at p.arena m) so.rest

  pub parts_absent : ((n : NodeId) → Among n old.dying.items → died_at old.work n ≡ None) → died_at now.work m ≡ None
  parts_absent absent = listing_absent old.arena old.work now.work old.dying.items now.dying.items dying.items m so.listing last absent

  pub parts_room : 0 < now.work.deaths.spare
  parts_room = listing_room old.arena old.work now.work old.dying.items now.dying.items dying.items m so.listing last

  pub parts_more : (deaths : Deaths) (scope : NodeId) → Some scope ≡ scope_at now.arena m → deaths.nodes ≡ now.work.deaths.nodes ++ m ∷ []
      → Changes now.work.deaths.scopes deaths.scopes (main m) (Some scope) → deaths.spare + 1 ≡ now.work.deaths.spare
      → AreBeingListed old (record now { work = record now.work { deaths = deaths }; dying = dying })
  parts_more deaths scope is nodes changes spare = record {
    listing = listing_more old.arena old.work now.work old.dying.items now.dying.items dying.items m so.listing last deaths scope (sym (is ∙ scope_was))
        nodes changes spare;
    rest = ap (λ (p : Parts). record p { work = record now.work { deaths = deaths }; dying = dying }) so.rest;
  }

  -- each of them has a scope
  pub parts_scoped : ((n : NodeId) → Among n old.dying.items → IsSome (scope_at old.arena n)) → None ≡ scope_at now.arena m → ⊥
  parts_scoped scopes none =
      listing_scoped old.arena old.work now.work old.dying.items now.dying.items dying.items m so.listing last scopes (none ∙ scope_was)

-- ---- a row without its outcome

forgotten_held : (x : Option Progress) → is_some (option_map without_outcome x) ≡ is_some x
forgotten_held None = refl
forgotten_held (Some k) = refl

forgotten_settled : (round : ℕ) (x : Option Progress) → settled_in round (option_map without_outcome x) ≡ settled_in round x
forgotten_settled round None = refl
forgotten_settled round (Some k) = refl

forgotten_unran : (x : Option Progress) (k : Progress) → option_map without_outcome x ≡ Some k → k.outcome ≡ None
forgotten_unran None k e = absurd (none-some k e)
forgotten_unran (Some y) k e = ap (λ (z : Progress). z.outcome) (sym (same_Some (without_outcome y) k e))

forgotten_round : (x : Option Progress) (k : Progress) (round : ℕ) → ((y : Progress) → x ≡ Some y → y.settled ≤ round)
    → option_map without_outcome x ≡ Some k → k.settled ≤ round
forgotten_round None k round below e = absurd (none-some k e)
forgotten_round (Some y) k round below e =
    subst (λ (z : Progress). z.settled ≤ round) (same_Some (without_outcome y) k e) (below y refl)

-- ---- inside of a scope

module _ (parts : Parts) (b : NodeId) where
  -- what is inside of a scope is live and stands in one
  pub inside_row : (n : NodeId) → Inside (graph_in parts) b n
      → (r : Row) × (c : NodeId) × (row_at parts.arena n ≡ Some r) × (r.scope ≡ Some c)
  inside_row n (direct {r} e s) = (r, b, e, s)
  inside_row n (nested {r} {c} e s i) = (r, c, e, s)

  pub inside_scope : (n : NodeId) → Inside (graph_in parts) b n → IsSome (scope_at parts.arena n)
  inside_scope n i = let x = inside_row n i in
      ap is_some (ap (λ (y : Option Row). option_and_then (λ (r : Row). r.scope) y) x.2 ∙ x.3)

  -- and was given later than the scope's bind, which so isn't inside
  inside_later : IsKept parts.arena parts.work → (n : NodeId) → Inside (graph_in parts) b n → b.gen_ < n.gen_
  inside_later kept n (direct {r} e s) = kept.older n b r e s
  inside_later kept n (nested {r} {c} e s i) =
      let first = inside_later kept c i in let next = kept.older n c r e s in omega (arith, first, next)

  pub not_inside : IsKept parts.arena parts.work → Inside (graph_in parts) b b → ⊥
  not_inside kept i = let h = inside_later kept b i in absurd (omega (arith, h))

-- a live node didn't die in the round
pub live_undead : (arena : Arena) (work : Work) → IsKept arena work → (n : NodeId) (r : Row) → row_at arena n ≡ Some r → died_at work n ≡ None
live_undead arena work kept n r row = elim (some_or_none (died_at work n)) [
  | inl d ↦ absurd (none-some r (sym (kept.dead n d.0 d.1).gone ∙ row))
  | inr none ↦ none
]

-- a point with a row is of a live node
row_live : (arena : Arena) (work : Work) → IsKept arena work → (p : Point) → Holds work.rows p → row_at arena p.node ≡ None → ⊥
row_live arena work kept p h dead =
    let e = sym h ∙ (kept.rows p ∙ ap (λ (x : Option Row). has_part x p.part) dead) in absurd (cc)

-- ---- all dies

module _ (old : Parts) (listed forgot : Work) (b : NodeId) (nodes : List NodeId) (kept : IsKept old.arena old.work)
    (dying : AreDying (graph_in old) b nodes) (list : AreListed old.arena old.work listed nodes)
    (root : Changes listed.roots forgot.roots (change b) None) (row : IsRewritten listed.rows forgot.rows (change b) without_outcome)
    (rest : forgot ≡ record listed { rows = forgot.rows; roots = forgot.roots }) where
  abbrev In : NodeId → Type 0
  In n = Inside (graph_in old) b n

  graph_is : forgot.graph ≡ old.work.graph
  graph_is = ap (λ (w : Work). w.graph) rest ∙ ap (λ (w : Work). w.graph) list.rest

  rows_are : (p : Point) → at listed.rows p ≡ at old.work.rows p
  rows_are p = ap (λ (w : Work). at w.rows p) list.rest

  roots_are : (p : Point) → at listed.roots p ≡ at old.work.roots p
  roots_are p = ap (λ (w : Work). at w.roots p) list.rest

  round_is : forgot.round ≡ old.work.round
  round_is = ap (λ (w : Work). w.round) rest ∙ ap (λ (w : Work). w.round) list.rest

  row_other : (p : Point) → p ≢ change b → at forgot.rows p ≡ at old.work.rows p
  row_other p other = row.others p other ∙ rows_are p

  row_own : at forgot.rows (change b) ≡ option_map without_outcome (at old.work.rows (change b))
  row_own = row.changed ∙ ap (λ (x : Option Progress). option_map without_outcome x) (rows_are (change b))

  -- a property of rows that doesn't tell of outcomes stays
  row_keeps : {A : Type 0} (f : Option Progress → A) → ((x : Option Progress) → f (option_map without_outcome x) ≡ f x)
      → (p : Point) → f (at forgot.rows p) ≡ f (at old.work.rows p)
  row_keeps f same p = elim (same_or_other p (change b)) [
    | inl e ↦ subst (λ (x : Point). f (at forgot.rows x) ≡ f (at old.work.rows x)) (sym e) (ap f row_own ∙ same (at old.work.rows (change b)))
    | inr other ↦ ap f (row_other p other)
  ]

  held_is : (p : Point) → is_some (at forgot.rows p) ≡ is_some (at old.work.rows p)
  held_is p = row_keeps is_some forgotten_held p

  settled_is : (p : Point) → settled_in forgot.round (at forgot.rows p) ≡ settled_in old.work.round (at old.work.rows p)
  settled_is p = ap (λ (k : ℕ). settled_in k (at forgot.rows p)) round_is ∙ row_keeps (settled_in old.work.round) (forgotten_settled old.work.round) p

  died_is : (n : NodeId) → died_at forgot n ≡ died_at listed n
  died_is n = ap (λ (w : Work). died_at w n) rest

  inside : (n : NodeId) → Among n nodes → In n
  inside n a = (dying.all n).0 a

  among : (n : NodeId) → In n → Among n nodes
  among n i = (dying.all n).1 i

  out : (n : NodeId) → (In n → ⊥) → Among n nodes → ⊥
  out n no_ a = no_ (inside n a)

  main_held : (n : NodeId) → In n → Holds old.work.rows (main n)
  main_held n i = kept.rows (main n) ∙ ap (λ (x : Option Row). has_part x Main) (inside_row old b n i).2

  pub may_forget : MayForget old.arena forgot nodes
  may_forget = record {
    sound = kept.sound;
    step = subst (λ (g : NecessaryPart). IsInStep g) (sym graph_is) kept.step;
    once = dying.once;
    live = λ n a. ap is_some (inside_row old b n (inside n a)).2;
    died = λ n a. ap is_some (died_is n ∙ list.died n a) ∙ inside_scope old b n (inside n a);
    mains = λ n a. (held_is (main n) ∙ main_held n (inside n a), there (main n) (main_held n (inside n a)));
    changes = λ n a h. there (change n) (sym (held_is (change n)) ∙ h);
  }
    where
      there : (p : Point) → Holds old.work.rows p → Holds forgot.graph.heights p
      there p h = ap (λ (g : NecessaryPart). is_some (at g.heights p)) graph_is ∙ kept.there p h

  module _ (new : Parts) (forgotten : AreForgotten old.arena new.arena forgot new.work nodes) (ran : new.ran ≡ old.ran) where
    need_then : (p : Point) → Needed old.work.graph p → Needed forgot.graph p
    need_then p need = subst (λ (g : NecessaryPart). Needed g p) (sym graph_is) need

    need_was : (p : Point) → Needed forgot.graph p → Needed old.work.graph p
    need_was p need = subst (λ (g : NecessaryPart). Needed g p) graph_is need

    heap_is : (p : Point) → is_some (at forgot.graph.heap p) ≡ is_some (at old.work.graph.heap p)
    heap_is p = ap (λ (g : NecessaryPart). is_some (at g.heap p)) graph_is

    height_is : (p : Point) → at forgot.graph.heights p ≡ at old.work.graph.heights p
    height_is p = ap (λ (g : NecessaryPart). at g.heights p) graph_is

    reads_then : (p q : Point) → Reads old.work.graph.links p q → Reads forgot.graph.links p q
    reads_then p q r = subst (λ (g : NecessaryPart). Reads g.links p q) (sym graph_is) r

    reads_was : (p q : Point) → Reads forgot.graph.links p q → Reads old.work.graph.links p q
    reads_was p q r = subst (λ (g : NecessaryPart). Reads g.links p q) graph_is r

    died_now : (n : NodeId) → died_at new.work n ≡ died_at listed n
    died_now n = died_same forgot new.work forgotten.deaths n ∙ died_is n

    -- a point that reads a main is of no node that died before
    reader_undead : (p : Point) (n : NodeId) → Reads old.work.graph.links p (main n) → IsSome (died_at old.work p.node) → ⊥
    reader_undead p n reads died = elim (some_or_none (died_at old.work p.node)) [
      | inl d ↦ elim (kept.links p (main n) reads) [
        | inl h ↦ row_live old.arena old.work kept p h (kept.dead p.node d.0 d.1).gone
        | inr g ↦ absurd (main_apart n g.scope g.gate)
      ]
      | inr none ↦ not_none (died_at old.work p.node) none died
    ]

    -- what has no row isn't there, if it is of a live node
    no_height : (p : Point) → In p.node → at old.work.rows p ≡ None → at old.work.graph.heights p ≡ None
    no_height p i none = elim (some_or_none (at old.work.graph.heights p)) [
      | inl k ↦ elim (kept.leaves p (ap is_some k.1)) [
        | inl h ↦ absurd (not_none (at old.work.rows p) none h)
        | inr x ↦ let r = inside_row old b p.node i in absurd (none-some r.0 (sym x.0 ∙ r.2))
      ]
      | inr z ↦ z
    ]

    no_root : (n : NodeId) → at old.work.rows (change n) ≡ None → at old.work.roots (change n) ≡ None
    no_root n none = elim (some_or_none (at old.work.roots (change n))) [
      | inl k ↦ let v = kept.roots n (ap is_some k.1) in absurd (none-some _ (sym (ap outcome_in none) ∙ v.1))
      | inr z ↦ z
    ]

    root_before : (n : NodeId) → In n → at old.work.roots (change n) ≡ None → at forgot.roots (change n) ≡ None
    root_before n i none =
        root.others (change n) (λ e. not_inside old b kept (subst In (ap (λ (x : Point). x.node) e) i)) ∙ (roots_are (change n) ∙ none)

    -- what left the heap, or was never in it
    out_of_heap : (p : Point) → In p.node → at new.work.graph.heap p ≡ None
    out_of_heap p i = elim (some_or_none (at old.work.rows p)) [
      | inl k ↦ forgotten.out p (among p.node i) (held_is p ∙ ap is_some k.1)
      | inr none ↦ elim (some_or_none (at new.work.graph.heap p)) [
        | inl h ↦ elim (forgotten.only p (ap is_some h.1)) [
          | inl was ↦ absurd (not_none (at old.work.rows p) none (kept.heap p (sym (heap_is p) ∙ was)))
          | inr x ↦ absurd (not_none (died_at forgot p.node) x.1 (may_forget.died p.node (among p.node i)))
        ]
        | inr z ↦ z
      ]
    ]

    pub all_died : HasDied old new b
    all_died = record {
      given = forgotten.given;
      time = forgotten.time;
      sound = forgotten.sound;
      nodes = λ n. elim (among_or_not n nodes) [
        | inl a ↦ inl (inside n a, forgotten.dead n a)
        | inr no_ ↦ inr ((λ i. no_ (among n i)), forgotten.others n no_)
      ];
      rows = λ p no_ other. forgotten.rows p (out p.node no_) ∙ row_other p other;
      own = forgotten.rows (change b) (out b (not_inside old b kept)) ∙ row_own;
      gone = λ p i. forgotten.gone p (among p.node i);
      roots = λ p no_ other. forgotten.roots p (out p.node no_) ∙ (root.others p other ∙ roots_are p);
      own_root = forgotten.roots (change b) (out b (not_inside old b kept)) ∙ root.changed;
      rootless = λ n i. elim (some_or_none (at old.work.rows (change n))) [
        | inl k ↦ forgotten.rootless n (among n i) (held_is (change n) ∙ ap is_some k.1)
        | inr none ↦ forgotten.fewer (change n) (root_before n i (no_root n none))
      ];
      links = forgotten.links ∙ ap (λ (g : NecessaryPart). g.links) graph_is;
      graph_roots = forgotten.graph_roots ∙ ap (λ (g : NecessaryPart). g.roots) graph_is;
      heights = λ p x. elim x [
        | inl no_ ↦ forgotten.heights p (inl (out p.node no_)) ∙ height_is p
        | inr need ↦ forgotten.heights p (inr (need_then p need)) ∙ height_is p
      ];
      dropped = λ p i no_. elim (some_or_none (at old.work.rows p)) [
        | inl k ↦ forgotten.dropped p (among p.node i) (held_is p ∙ ap is_some k.1) (λ need. no_ (need_was p need))
        | inr none ↦ forgotten.absent p (height_is p ∙ no_height p i none)
      ];
      out = out_of_heap;
      heap = λ p no_ h. forgotten.heap p (out p.node no_) (heap_is p ∙ h);
      told = λ p n no_ i reads. elim (forgotten.told p n (among n i) (reads_then p (main n) reads)) [
        | inl h ↦ inl h
        | inr (inl t) ↦ inr (sym (settled_is p) ∙ t)
        | inr (inr d) ↦ absurd (reader_undead p n reads
            (sym (ap is_some (died_is p.node ∙ list.others p.node (out p.node no_))) ∙ d))
      ];
      only = λ p h. elim (forgotten.only p h) [
        | inl was ↦ inl (sym (heap_is p) ∙ was)
        | inr x ↦ inr (sym (settled_is p) ∙ x.0, x.2, inside x.2 x.3, reads_was p (main x.2) x.4)
      ];
      died = λ n r e i. died_now n ∙ (list.died n (among n i) ∙ ap (λ (y : Option Row). option_and_then (λ (r : Row). r.scope) y) e);
      died_before = λ n no_. died_now n ∙ list.others n (out n no_);
      pairs = forgotten.pairs ∙ (ap (λ (w : Work). w.pairs.nodes) rest ∙ ap (λ (w : Work). w.pairs.nodes) list.rest);
      scoped = forgotten.scoped ∙ (ap (λ (w : Work). w.scoped.nodes) rest ∙ ap (λ (w : Work). w.scoped.nodes) list.rest);
      todo = forgotten.todo ∙ (ap (λ (w : Work). w.todo.items) rest ∙ ap (λ (w : Work). w.todo.items) list.rest);
      called = forgotten.ran ∙ (ap (λ (w : Work). w.ran) rest ∙ ap (λ (w : Work). w.ran) list.rest);
      retries = forgotten.retries ∙ (ap (λ (w : Work). w.retries) rest ∙ ap (λ (w : Work). w.retries) list.rest);
      round = forgotten.round ∙ round_is;
      experts = forgotten.experts ∙ (ap (λ (w : Work). w.experts) rest ∙ ap (λ (w : Work). w.experts) list.rest);
      ran = ran;
    }

-- ---- what is kept

module _ (old new : Parts) (b : NodeId) (kept : IsKept old.arena old.work) (d : HasDied old new b) where
  abbrev Dies : NodeId → Type 0
  Dies n = Inside (graph_in old) b n

  -- what is live lived before, and didn't die
  lived : (n : NodeId) (r : Row) → row_at new.arena n ≡ Some r → (Dies n → ⊥) × (row_at old.arena n ≡ Some r)
  lived n r e = elim (d.nodes n) [ inl x ↦ absurd (none-some r (sym x.1 ∙ e)) | inr x ↦ (x.0, sym x.1 ∙ e) ]

  -- what doesn't die stays
  stays : (n : NodeId) → (Dies n → ⊥) → row_at new.arena n ≡ row_at old.arena n
  stays n no_ = elim (d.nodes n) [ inl x ↦ absurd (no_ x.0) | inr x ↦ x.1 ]

  row_keeps_now : {A : Type 0} (f : Option Progress → A) → ((x : Option Progress) → f (option_map without_outcome x) ≡ f x)
      → (p : Point) → (Dies p.node → ⊥) → f (at new.work.rows p) ≡ f (at old.work.rows p)
  row_keeps_now f same p no_ = elim (same_or_other p (change b)) [
    | inl e ↦ subst (λ (x : Point). f (at new.work.rows x) ≡ f (at old.work.rows x)) (sym e) (ap f d.own ∙ same (at old.work.rows (change b)))
    | inr other ↦ ap f (d.rows p no_ other)
  ]

  held_now : (p : Point) → (Dies p.node → ⊥) → is_some (at new.work.rows p) ≡ is_some (at old.work.rows p)
  held_now p no_ = row_keeps_now is_some forgotten_held p no_

  main_now : (n : NodeId) → (Dies n → ⊥) → at new.work.rows (main n) ≡ at old.work.rows (main n)
  main_now n no_ = d.rows (main n) no_ (main_apart n b)

  -- a row is of a node that didn't die
  row_outside : (p : Point) → Holds new.work.rows p → Dies p.node → ⊥
  row_outside p h i = not_none (at new.work.rows p) (d.gone p i) h

  need_still : (p : Point) → Needed old.work.graph p → Needed new.work.graph p
  need_still p need = need_same old.work.graph new.work.graph d.links d.graph_roots p need

  -- scopes of what lives live on
  scope_lives : (n : NodeId) (r : Row) (c : NodeId) → (Dies n → ⊥) → row_at old.arena n ≡ Some r → r.scope ≡ Some c → Dies c → ⊥
  scope_lives n r c no_ e s i = no_ (nested e s i)

  types : KeepsTypes old.arena new.arena
  types n r had e = (r, (lived n r e).1, refl)

  more : old.arena.given ≤ new.arena.given
  more = let e = d.given in omega (arith, e)

  -- another bind is built as it was
  built_still : (n : NodeId) → (Dies n → ⊥) → n ≢ b → (held_at new.arena new.work).built n ≡ (held_at old.arena old.work).built n
  built_still n no_ other =
      let away : change n ≢ change b = (λ e. other (ap (λ (x : Point). x.node) e)) in
      ap (λ (x : Option Row). built_in x (outcome_in (at new.work.rows (change n))) (at new.work.roots (change n))) (stays n no_)
      ∙ (ap (λ (x : Option Progress). built_in (row_at old.arena n) (outcome_in x) (at new.work.roots (change n))) (d.rows (change n) no_ away)
      ∙ ap (λ (x : Option NodeId). built_in (row_at old.arena n) (outcome_in (at old.work.rows (change n))) x) (d.roots (change n) no_ away))

  -- a bind's own change has no outcome
  unran_own : (n : NodeId) (k : Progress) (o : Outcome) → n ≡ b → at new.work.rows (change n) ≡ Some k → k.outcome ≡ Some o → ⊥
  unran_own n k o same e shows = none-some o (sym (forgotten_unran (at old.work.rows (change b)) k
      (sym d.own ∙ subst (λ (x : NodeId). at new.work.rows (change x) ≡ Some k) same e)) ∙ shows)

  module _ (gates : HaveGatesAlone old b) where
    links_still : (p q : Point) → Reads new.work.graph.links p q → Holds new.work.rows p ⊎ IsGhostLink new.work p q
    links_still p q reads = elim (d.nodes p.node) [
      | inl x ↦
          let r = inside_row old b p.node x.0 in
          inr (record { scope = r.1; died = d.died p.node r.0 r.2 x.0 ∙ r.3; gate = gates p q r.0 r.1 x.0 r.2 r.3 was })
      | inr x ↦ elim (kept.links p q was) [
        | inl h ↦ inl (held_now p x.0 ∙ h)
        | inr g ↦ inr (record { scope = g.scope; died = d.died_before p.node x.0 ∙ g.died; gate = g.gate })
      ]
    ]
      where
        was : Reads old.work.graph.links p q
        was = subst (λ (l : Links). Reads l p q) d.links reads

    heap_rows : (p : Point) → Holds new.work.graph.heap p → Holds new.work.rows p
    heap_rows p h = elim (d.nodes p.node) [
      | inl x ↦ absurd (not_none (at new.work.graph.heap p) (d.out p x.0) h)
      | inr x ↦ held_now p x.0 ∙ elim (d.only p h) [
        | inl was ↦ kept.heap p was
        | inr y ↦ elim (kept.links p (main y.1) y.3) [ inl row ↦ row | inr g ↦ absurd (main_apart y.1 g.scope g.gate) ]
      ]
    ]

    leaves_still : (p : Point) → Holds new.work.graph.heights p → Holds new.work.rows p ⊎ ((row_at new.arena p.node ≡ None) × Needed new.work.graph p)
    leaves_still p h = elim (d.nodes p.node) [
      | inl x ↦ elim (bool_cases (is_needed old.work.graph p)) [
        | inl t ↦ inr (x.1, need_still p ((decides_needed old.work.graph kept.step p).0 t))
        | inr f ↦ absurd (not_none (at new.work.graph.heights p)
            (d.dropped p x.0 (λ need. let t = (decides_needed old.work.graph kept.step p).1 need in let e = sym t ∙ f in absurd (cc))) h)
      ]
      | inr x ↦ elim (kept.leaves p (ap is_some (sym (d.heights p (inl x.0))) ∙ h)) [
        | inl row ↦ inl (held_now p x.0 ∙ row)
        | inr y ↦ inr (x.1 ∙ y.0, need_still p y.1)
      ]
    ]

    dead_still : (n c : NodeId) → died_at new.work n ≡ Some c → IsDead new.arena n c
    dead_still n c e = elim (d.nodes n) [
      | inl x ↦
          let r = inside_row old b n x.0 in
          let scope : r.0.scope ≡ Some c = sym (d.died n r.0 r.2 x.0) ∙ e in
          let bind = kept.scopes n r.0 c r.2 scope in record {
            gone = x.1;
            given = subst (λ (k : ℕ). Given k n) (sym d.given) (kept.sound.given n (ap is_some r.2));
            scope_given = subst (λ (k : ℕ). Given k c) (sym d.given) (kept.sound.scopes n r.0 c r.2 scope);
            scope_two = λ r' e'.
                let same = same_Some bind.0 r' (sym bind.4 ∙ (lived c r' e').1) in
                subst (λ (y : Row). IsSome (subject_of y.def)) same (ap (λ (y : graph.Def). is_some (subject_of y)) bind.5);
          }
      | inr x ↦
          let k = kept.dead n c (sym (d.died_before n x.0) ∙ e) in record {
            gone = x.1 ∙ k.gone;
            given = subst (λ (m : ℕ). Given m n) (sym d.given) k.given;
            scope_given = subst (λ (m : ℕ). Given m c) (sym d.given) k.scope_given;
            scope_two = λ r' e'. k.scope_two r' (lived c r' e').1;
          }
    ]

    -- no more nodes live
    pub no_more_live : live new.arena ≤ live old.arena
    no_more_live = fewer_live old.arena new.arena (λ n r e. ap is_some (lived n r e).1)

    pub died_kept : IsInStep new.work.graph → IsKept new.arena new.work
    died_kept step = record {
      step = step;
      rows = λ p. elim (d.nodes p.node) [
        | inl x ↦ ap is_some (d.gone p x.0) ∙ sym (ap (λ (y : Option Row). has_part y p.part) x.1)
        | inr x ↦ held_now p x.0 ∙ (kept.rows p ∙ sym (ap (λ (y : Option Row). has_part y p.part) x.1))
      ];
      leaves = leaves_still;
      there = λ p h. let no_ = row_outside p h in ap is_some (d.heights p (inl no_)) ∙ kept.there p (sym (held_now p no_) ∙ h);
      given = λ p h. elim (d.nodes p.node) [
        | inl x ↦ subst (λ (k : ℕ). Given k p.node) (sym d.given) (kept.sound.given p.node (ap is_some (inside_row old b p.node x.0).2))
        | inr x ↦ subst (λ (k : ℕ). Given k p.node) (sym d.given) (kept.given p (ap is_some (sym (d.heights p (inl x.0))) ∙ h))
      ];
      links = links_still;
      heap = heap_rows;
      dead = dead_still;
      sound = d.sound;
      scopes = λ n r c e s.
          let was = lived n r e in
          let bind = kept.scopes n r c was.1 s in
          (bind.0, bind.1, bind.2, bind.3, stays c (scope_lives n r c was.0 was.1 s) ∙ bind.4, bind.5);
      older = λ n c r e s. kept.older n c r (lived n r e).1 s;
      outcomes = λ n r k v e is shows. let was = lived n r e in
          typed_still old.arena new.arena more types v r.ty (kept.outcomes n r k v was.1 (sym (main_now n was.0) ∙ is) shows);
      rights = λ n m r k o e is shows right. let was = lived n r e in elim (node_or_other n b) [
        | inl same ↦ absurd (unran_own n k o same is shows)
        | inr other ↦ right_still old.arena new.arena more types m r.ty
            (kept.rights n m r k o was.1 (sym (d.rows (change n) was.0 (λ x. other (ap (λ (y : Point). y.node) x))) ∙ is) shows
            (right_as old.arena new.arena old.work new.work n m r.def o (built_still n was.0 other) right))
      ];
      roots = λ n h. elim (d.nodes n) [
        | inl x ↦ absurd (not_none (at new.work.roots (change n)) (d.rootless n x.0) h)
        | inr x ↦ elim (node_or_other n b) [
          | inl same ↦ absurd (not_none (at new.work.roots (change n)) (ap (λ (y : NodeId). at new.work.roots (change y)) same ∙ d.own_root) h)
          | inr other ↦
              let away : change n ≢ change b = (λ y. other (ap (λ (z : Point). z.node) y)) in
              let v = kept.roots n (sym (ap is_some (d.roots (change n) x.0 away)) ∙ h) in
              (v.0, ap outcome_in (d.rows (change n) x.0 away) ∙ v.1)
        ]
      ];
      binds = λ n r e h.
          let was = lived n r e in
          elim (node_or_other n b) [
            | inl same ↦ absurd (not_none (at new.work.roots (change n)) (ap (λ (y : NodeId). at new.work.roots (change y)) same ∙ d.own_root) h)
            | inr other ↦ kept.binds n r was.1
                (sym (ap is_some (d.roots (change n) was.0 (λ y. other (ap (λ (z : Point). z.node) y)))) ∙ h)
          ];
      calls = λ n r k c e is last. let was = lived n r e in
          call_still old.arena new.arena more types r.def r.ty c (kept.calls n r k c was.1 (sym (main_now n was.0) ∙ is) last);
      rounds = λ p k e.
          let no_ = row_outside p (ap is_some e) in
          subst (λ (m : ℕ). k.settled ≤ m) (sym d.round) (elim (same_or_other p (change b)) [
            | inl same ↦ forgotten_round (at old.work.rows (change b)) k old.work.round (λ y x. kept.rounds (change b) y x)
                (sym d.own ∙ subst (λ (x : Point). at new.work.rows x ≡ Some k) same e)
            | inr other ↦ kept.rounds p k (sym (d.rows p no_ other) ∙ e)
          ]);
      pairs = λ n r e some. subst (λ (ns : List NodeId). Among n ns) (sym d.pairs) (kept.pairs n r (lived n r e).1 some);
      scoped = λ n r e some. subst (λ (ns : List NodeId). Among n ns) (sym d.scoped) (kept.scoped n r (lived n r e).1 some);
      experts = λ n. ap (λ (e : List ExpertPlace). is_some (expert_at e n)) d.experts ∙ (kept.experts n ∙ expert_still n);
      listed = λ n. listed_still old.arena new.arena more types (kids_at new.work.experts n) (listed_as n);
      lists = λ n r f v ns e def. folds_still old.arena new.arena more types r.ty (kids_at new.work.experts n) f.sig.takes (listed_as n)
          (subst (λ (x : List ExpertPlace). FoldTakes old.arena r.ty (kids_at x n) f.sig.takes) (sym d.experts)
          (kept.lists n r f v ns (lived n r e).1 def));
      tops = λ n r e top. kept.tops n r (lived n r e).1 top;
      frozen = λ n k e flag.
          let no_ = row_outside (main n) (ap is_some e) in
          let h = kept.frozen n k (sym (main_now n no_) ∙ e) flag in
          record { row = h.row; is_row = stays n no_ ∙ h.is_row; is_freeze = h.is_freeze; value = h.value; last = h.last };
      rooms = record {
        calls = λ n r k e is. let was = lived n r e in kept.rooms.calls n r k was.1 (sym (main_now n was.0) ∙ is);
        ran = subst (λ (l : Vec NodeId Global). live new.arena ≤ vec_capacity l) (sym d.called) (let room = kept.rooms.ran in let few = no_more_live in omega (arith, room, few));
      };
    }
      where
        listed_as : (n : NodeId) → Every (Given old.arena.given) (kids_at new.work.experts n)
        listed_as n = subst (λ (x : List ExpertPlace). Every (Given old.arena.given) (kids_at x n)) (sym d.experts) (kept.listed n)

        -- no expert dies
        expert_still : (n : NodeId) → is_expert (row_at old.arena n) ≡ is_expert (row_at new.arena n)
        expert_still n = elim (d.nodes n) [
          | inl x ↦
              let r = inside_row old b n x.0 in
              ap is_expert r.2 ∙ (no_expert r.0.def (scoped_plain old.arena old.work kept n r.0 r.1 r.2 r.3) ∙ sym (ap is_expert x.1))
          | inr x ↦ sym (ap is_expert x.1)
        ]

  -- the scopes are those of the nodes
  pub died_scopes : StandsBut old b → new.scopes ≡ old.scopes → KeepsScopes new.arena new.scopes
  died_scopes but same = record {
    stands = λ n c. (
      (λ h.
          let x = (but.stands n c).0 (subst (λ (s : Scopes). StandsIn s n c) same h) in
          (x.0, stays n x.3 ∙ x.1, x.2)),
      (λ x.
          let was = lived n x.0 x.1 in
          subst (λ (s : Scopes). StandsIn s n c) (sym same) ((but.stands n c).1 (x.0, was.1, x.2, was.0))),
    );
    none = ap (λ (s : Scopes). s.killed) same ∙ but.none;
  }

-- ---- as the code does it

-- the same nodes are to die, and went over, in whatever order
module _ (old : Parts) (listed : Work) (b : NodeId) (dying : AreDying (graph_in old) b old.dying.items)
    (list : AreListed old.arena old.work listed old.dying.items) (behind : AreBehind old.work.deaths.nodes listed.deaths.nodes old.dying.items) where
  dying_over : AreDying (graph_in old) b behind.more
  dying_over = record {
    all = λ n. (λ a. (dying.all n).0 ((behind.same n).0 a), λ i. (behind.same n).1 ((dying.all n).1 i));
    once = behind.once;
  }

  listed_over : AreListed old.arena old.work listed behind.more
  listed_over = record {
    died = λ n a. list.died n ((behind.same n).0 a);
    others = λ n out. list.others n (λ a. out ((behind.same n).1 a));
    rest = list.rest;
  }

  over : drop (length old.work.deaths.nodes) listed.deaths.nodes ≡ behind.more
  over = ap (λ (xs : List NodeId). drop (length old.work.deaths.nodes) xs) behind.behind ∙ drop-append_seam old.work.deaths.nodes behind.more

module _ (old mid : Parts) (forgot : Work) (b : NodeId) (kept : IsKept old.arena old.work) (dying : AreDying (graph_in old) b old.dying.items)
    (list : AreListed old.arena old.work mid.work old.dying.items) (behind : AreBehind old.work.deaths.nodes mid.work.deaths.nodes old.dying.items)
    (mid_rest : mid ≡ record old { work = mid.work; dying = mid.dying })
    (root : Changes mid.work.roots forgot.roots (change b) None) (row : IsRewritten mid.work.rows forgot.rows (change b) without_outcome)
    (rest : forgot ≡ record mid.work { rows = forgot.rows; roots = forgot.roots }) (before : ℕ) (is_before : before ≡ length old.work.deaths.nodes) where
  -- those that went over
  abbrev went : List NodeId
  went = behind.more

  went_is : drop before forgot.deaths.nodes ≡ went
  went_is =
      ap (λ (k : ℕ). drop k forgot.deaths.nodes) is_before
      ∙ (ap (λ (w : Work). drop (length old.work.deaths.nodes) w.deaths.nodes) rest ∙ over old mid.work b dying list behind)

  arena_is : mid.arena ≡ old.arena
  arena_is = ap (λ (p : Parts). p.arena) mid_rest

  pub dying_may : MayForget mid.arena forgot (drop before forgot.deaths.nodes)
  dying_may = subst (λ (a : Arena). MayForget a forgot (drop before forgot.deaths.nodes)) (sym arena_is)
      (subst (λ (xs : List NodeId). MayForget old.arena forgot xs) (sym went_is)
      (may_forget old mid.work forgot b went kept (dying_over old mid.work b dying list behind) (listed_over old mid.work b dying list behind) root row rest))

  module _ (new : Parts) (forgotten : AreForgotten mid.arena new.arena forgot new.work (drop before forgot.deaths.nodes))
      (new_rest : new ≡ record mid { arena = new.arena; timed = new.timed; work = new.work }) where
    pub died_all : HasDied old new b
    died_all = all_died old mid.work forgot b went kept (dying_over old mid.work b dying list behind) (listed_over old mid.work b dying list behind)
        root row rest new
        (subst (λ (a : Arena). AreForgotten a new.arena forgot new.work went) arena_is
        (subst (λ (xs : List NodeId). AreForgotten mid.arena new.arena forgot new.work xs) went_is forgotten))
        (ap (λ (p : Parts). p.ran) new_rest ∙ ap (λ (p : Parts). p.ran) mid_rest)

    pub kept_all : HaveGatesAlone old b → StandsBut old b → IsInStep new.work.graph → mid.dying.items ≡ []
        → KeepsClock new.arena new.timed → live old.arena ≤ vec_capacity old.ran → PartsKept new
    kept_all gates but step none clock listing = record {
      work = died_kept old new b kept died_all gates step;
      scopes = died_scopes old new b kept died_all but (ap (λ (p : Parts). p.scopes) new_rest ∙ ap (λ (p : Parts). p.scopes) mid_rest);
      dying = ap (λ (p : Parts). p.dying.items) new_rest ∙ none;
      clock = clock;
      listing = subst (λ (l : Vec NodeId Global). live new.arena ≤ vec_capacity l) (sym died_all.ran)
          (let room = listing in let few = no_more_live old new b kept died_all gates in omega (arith, room, few));
    }
