-- All nodes and points that there can be, as lists that are never looked into.
use Rattle.std.proofs.Common.{◌≡◌, inl, inr, ℕ, zero, suc, ◌<◌, ◌^◌, true, List, [], ◌∷◌, ◌++◌, Option, None, Some, arith, refl, sym, ◌∙◌}
use Rattle.std.specs.Prelude.{is_some}
use Rattle.std.proofs.lemmas.Bool.{cases_lt}
use Rattle.inc_value.specs.declared.node.NodeId.{NodeId}
use Rattle.inc_value.specs.declared.node.Part.{Part}
use Rattle.inc_value.specs.declared.node.Point.{Point}
use Rattle.inc_value.specs.Choice.{Among}
use Rattle.inc_terms.specs.Depend.{main, change}
use Rattle.inc_terms.specs.Graph.{Row}
use Rattle.inc_terms.proofs.Plan.{among_left, among_right}
use Rattle.point_map.specs.Rows.{Holds}
use Rattle.node_arena.specs.Arena.{Arena, row_at, IsLive}
use Rattle.node_outcomes.specs.Computing.{has_part}
use Rattle.wiring.specs.Kept.{IsKept}
use Rattle.wiring.specs.declared.work.Work.{Work}
use Rattle.wiring.proofs.Releasing.{main_or_change}
use Rattle.stabilizer.specs.Stepping.{CoversRows}

-- the ids of a generation in so many slots
unfoldable pub of_generation : ℕ → ℕ → List NodeId
of_generation zero g = []
of_generation (suc s) g = record { slot = s; gen_ = g } ∷ of_generation s g

-- those of so many generations
unfoldable pub of_generations : ℕ → ℕ → List NodeId
of_generations s zero = []
of_generations s (suc g) = of_generation s g ++ of_generations s g

-- both points of each node
unfoldable pub points_of : List NodeId → List Point
points_of [] = []
points_of (n ∷ ns) = main n ∷ change n ∷ points_of ns

-- all ids that nodes can have
unfoldable pub every_node : List NodeId
every_node = of_generations 1048576 (2 ^ 64)

-- and all their points
abbrev pub every_point : List Point
every_point = points_of every_node

-- an id is of its slot and its generation
pub same_id : (n : NodeId) (s g : ℕ) → n.slot ≡ s → n.gen_ ≡ g → ◌≡◌ {A = NodeId} n (record { slot = s; gen_ = g })
same_id n s g slot gen = λ i. record { slot = slot i; gen_ = gen i }

generation_has : (s g : ℕ) (n : NodeId) → n.slot < s → n.gen_ ≡ g → Among n (of_generation s g)
unfolding of_generation
generation_has zero g n lt e = absurd (omega (arith, lt))
generation_has (suc s) g n lt e = elim (cases_lt n.slot s) [
  | inl l ↦ inr (generation_has s g n l e)
  | inr le ↦ inl (same_id n s g (omega (arith, le, lt)) e)
]

generations_have : (s g : ℕ) (n : NodeId) → n.slot < s → n.gen_ < g → Among n (of_generations s g)
unfolding of_generations
generations_have s zero n slot lt = absurd (omega (arith, lt))
generations_have s (suc g) n slot lt = elim (cases_lt n.gen_ g) [
  | inl l ↦ among_right n (of_generation s g) (of_generations s g) (generations_have s g n slot l)
  | inr le ↦ among_left n (of_generation s g) (of_generations s g) (generation_has s g n slot (omega (arith, le, lt)))
]

points_have : (p : Point) (ns : List NodeId) → Among p.node ns → Among p (points_of ns)
unfolding points_of
points_have p [] a = absurd a
points_have p (n ∷ ns) (inl e) = elim (main_or_change p n e) [ inl m ↦ inl m | inr c ↦ inr (inl c) ]
points_have p (n ∷ ns) (inr a) = inr (inr (points_have p ns a))

every_has : (n : NodeId) → n.slot < 1048576 → n.gen_ < 2 ^ 64 → Among n every_node
unfolding every_node
every_has n slot gen = generations_have 1048576 (2 ^ 64) n slot gen

part_there : (x : Option Row) (part : Part) → has_part x part ≡ true → is_some x ≡ true
part_there None part h = absurd (cc)
part_there (Some r) part h = refl

-- whoever has a row is among them
pub covers : (arena : Arena) (work : Work) → IsKept arena work → CoversRows work every_point every_node
covers arena work kept = record { points_of = λ p h. points_have p every_node (node_in p h); nodes_of = node_in }
  where
    node_in : (p : Point) → Holds work.rows p → Among p.node every_node
    node_in p h =
        let live : IsLive arena p.node = part_there (row_at arena p.node) p.part (sym (kept.rows p) ∙ h) in
        let given = kept.sound.given p.node live in
        let count = kept.sound.count in
        every_has p.node (kept.sound.slots p.node live) (omega (arith, given, count))
