-- The worklist is no longer than newly needed points make it.
use Rattle.std.proofs.Common.{◌≡◌, inl, inr, ◌<◌, ◌≤◌, ◌++◌, true, not, List, [], ◌∷◌, None, Some, sym, ap, arith}
use Rattle.std.specs.Prelude.{is_some}
use Rattle.std.proofs.lemmas.Bool.{not_from_false, not_from_true, false_from_ne_true}
use Rattle.inc_value.specs.declared.node.NodeId.{NodeId}
use Rattle.inc_value.specs.declared.node.Part.{Part}
use Rattle.inc_value.specs.declared.node.Part.TheVariants.{Main, Change}
use Rattle.inc_value.specs.declared.node.Point.{Point}
use Rattle.inc_value.specs.Choice.{Among}
use Rattle.inc_terms.specs.Depend.{main, change}
use Rattle.inc_terms.proofs.Plan.{among_left, among_right}
use Rattle.point_map.specs.Rows.{Place, row_in, same_point}
use Rattle.point_map.proofs.Places.{same_point_eq}
use Rattle.necessity.proofs.Counts.{split}
use Rattle.necessary_graph.specs.Part.{NecessaryPart, Needed, IsInStep}
use Rattle.stabilize_round.proofs.Counts.{no_more, fewer_than}
use Rattle.wiring.specs.Deciding.{is_needed}
use Rattle.wiring.specs.Graph.{HasLinks}
use Rattle.wiring.specs.Growing.{unneeded, Grows}
use Rattle.wiring.specs.declared.work.Work.{Work}
use Rattle.wiring.proofs.Deciding.{decides_needed, not_both}

-- ---- who isn't needed

module _ (g h : NecessaryPart) (g_step : IsInStep g) (h_step : IsInStep h) (more : (p : Point) → Needed g p → Needed h p) where
  still_out : (p : Point) → not (is_needed h p) ≡ true → not (is_needed g p) ≡ true
  still_out p out = not_from_false (is_needed g p) (false_from_ne_true (is_needed g p) (λ t.
      not_both (not (is_needed h p)) (not_from_true (is_needed h p) ((decides_needed h h_step p).1 (more p ((decides_needed g g_step p).0 t)))) out))

  pub no_more_unneeded : (points : List Point) → unneeded h points ≤ unneeded g points
  unfolding unneeded
  no_more_unneeded points = no_more (λ (p : Point). not (is_needed g p)) (λ (p : Point). not (is_needed h p)) still_out points

  pub fewer_unneeded : (points : List Point) (q : Point) → Among q points → (Needed g q → ⊥) → Needed h q → unneeded h points < unneeded g points
  unfolding unneeded
  fewer_unneeded points q among fresh now = fewer_than (λ (p : Point). not (is_needed g p)) (λ (p : Point). not (is_needed h p)) still_out q points
      (not_from_false (is_needed g q) (false_from_ne_true (is_needed g q) (λ t. fresh ((decides_needed g g_step q).0 t))))
      (not_from_true (is_needed h q) ((decides_needed h h_step q).1 now)) among

-- ---- the worklist

-- one after the other
pub grows_then : (old mid new : Work) → ((p : Point) → HasLinks mid p → HasLinks old p) → Grows old mid → Grows mid new → Grows old new
grows_then old mid new links first next points covers =
    let a = first points covers in
    let b = next points (λ p h. covers p (links p h)) in
    omega (arith, a, b)

-- ---- the points of rows

abbrev pub points_of : {A : Type 0} → List (Place A) → List Point
points_of [] = []
points_of (None ∷ rest) = points_of rest
points_of (Some e ∷ rest) = e.0 ∷ points_of rest

pub row_is_listed : {A : Type 0} (places : List (Place A)) (p : Point) → is_some (row_in places p) ≡ true → Among p (points_of places)
row_is_listed [] p h = absurd (let e = h in cc)
row_is_listed (None ∷ rest) p h = row_is_listed rest p h
row_is_listed (Some e ∷ rest) p h = elim (split (same_point e.0 p)) [
  | inl same ↦ inl (sym (same_point_eq e.0 p same))
  | inr other ↦ inr (row_is_listed rest p (rw other at h))
]

-- both points of the node of each
abbrev pub both_points : List Point → List Point
both_points [] = []
both_points (p ∷ ps) = main p.node ∷ change p.node ∷ both_points ps

both_listed : (points : List Point) (n : NodeId) (part : Part) → Among (main n) points → Among (record { node = n; part = part }) (both_points points)
both_listed [] n part among = absurd among
both_listed (p ∷ ps) n Main (inl e) = inl (ap (λ (x : Point). main x.node) e)
both_listed (p ∷ ps) n Change (inl e) = inr (inl (ap (λ (x : Point). change x.node) e))
both_listed (p ∷ ps) n part (inr among) = inr (inr (both_listed ps n part among))

-- all points that have links once they are needed
abbrev pub link_points : Work → List Point
link_points work = points_of work.rows.places ++ both_points (points_of work.deaths.scopes.places)

pub links_are_listed : (work : Work) (p : Point) → HasLinks work p → Among p (link_points work)
links_are_listed work p (inl rowed) = among_left p (points_of work.rows.places) _ (row_is_listed work.rows.places p rowed)
links_are_listed work p (inr died) = among_right p (points_of work.rows.places) _
    (both_listed (points_of work.deaths.scopes.places) p.node p.part (row_is_listed work.deaths.scopes.places (main p.node) died))
