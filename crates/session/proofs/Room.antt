-- No more nodes live than there are places, and few ids are given in a stabilize.
use Rattle.std.proofs.Common.{◌≡◌, ◌⊎◌, inl, inr, ℕ, ◌+◌, ◌≤◌, ◌<◌, ◌^◌, ◌-◌, List, [], ◌∷◌, Option, None, Some, refl, arith}
use Rattle.std.proofs.lemmas.List.Sums.{sum_by-cons}
use Rattle.std.specs.Prelude.{sum_by}
use Rattle.graph.specs.Few as graph
use Rattle.graph.specs.Few.{ListsTops}
use Rattle.inc_terms.specs.Graph as engine
use Rattle.inc_terms.specs.Graph.{Def, Row}
use Rattle.inc_value.specs.declared.node.NodeId.{NodeId}
use Rattle.node_arena.specs.Arena.{Arena, live, row_at}
use Rattle.script_functions.specs.Bodies.{Body}
use Rattle.script_functions.specs.Keeping.{makers, side_in}
use Rattle.script_graph.specs.Sound.{AreFew, weight_at, weight_of}
use Rattle.stabilizer.specs.Weights as weights

module _ (bodies : List Body) where
  def_same : (d : Def) → weights.weight_of (side_in (makers bodies)) d ≡ weight_of bodies d
  def_same (engine.Bind left f captures) = omega arith
  def_same d = refl

  row_same : (row : Option Row)
      → ◌≡◌ {A = ℕ} (weights.weight_in (side_in (makers bodies)) row) (elim row [ None ↦ 0 | Some r ↦ weight_of bodies r.def ])
  row_same None = refl
  row_same (Some r) = def_same r.def

  -- nodes count as they do in the graph
  all_same : (a : Arena) (ns : List NodeId) → sum_by (weights.weight_at (side_in (makers bodies)) a) ns ≡ sum_by (weight_at bodies a) ns
  all_same a [] = refl
  all_same a (n ∷ ns) =
      let first = row_same (row_at a n) in
      let rest = all_same a ns in
      let there = sum_by-cons (weights.weight_at (side_in (makers bodies)) a) n ns in
      let here = sum_by-cons (weight_at bodies a) n ns in
      omega (arith, first, rest, there, here)

  module _ (a : Arena) (room : ℕ) (few : AreFew bodies a room) where
    -- so no more live than there are places
    pub lives_few : graph.AreFew (side_in (makers bodies)) a → live a + room ≤ 1048575
    lives_few bound =
        let within = bound few.tops few.all in
        let same = all_same a few.tops in
        let weight = few.weight in
        omega (arith, within, same, weight)

    -- and no more ids were given
    pub gives_few : (before : ℕ) → ((tops : List NodeId) → ListsTops a tops → a.given ≤ before + sum_by (weights.weight_at (side_in (makers bodies)) a) tops)
        → a.given ≤ before + 2 ^ 20
    gives_few before bound =
        let within = bound few.tops few.all in
        let same = all_same a few.tops in
        let weight = few.weight in
        omega (arith, within, same, weight)

    -- so it isn't full
    pub never_full : ((tops : List NodeId) → ListsTops a tops
        → (1048576 ≤ sum_by (weights.weight_at (side_in (makers bodies)) a) tops) ⊎ (a.given ≡ 2 ^ 64 - 1)) → a.given < 2 ^ 64 - 1 → ⊥
    never_full full ids = go (full few.tops few.all)
      where
        go : (1048576 ≤ sum_by (weights.weight_at (side_in (makers bodies)) a) few.tops) ⊎ (a.given ≡ 2 ^ 64 - 1) → ⊥
        go (inl many) =
            let same = all_same a few.tops in
            let weight = few.weight in
            omega (arith, many, same, weight)
        go (inr last) = omega (arith, last, ids)
