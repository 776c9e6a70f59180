-- Graphs without choices, and what died over a call.
use Rattle.std.proofs.Common.{◌≡◌, Some, refl}
use Rattle.inc_value.specs.declared.node.NodeId.{NodeId}
use Rattle.inc_value.specs.declared.node.Part.{Part}
use Rattle.inc_value.specs.declared.node.Part.TheVariants.{Change, Main}
use Rattle.inc_value.specs.declared.node.Point.{Point}
use Rattle.inc_value.specs.Choice.{Among}
use Rattle.inc_terms.specs.Term.{Functions}
use Rattle.inc_terms.specs.Graph.{Graph, Row}
use Rattle.inc_terms.specs.Evaluate.{answer, Stands}
use Rattle.inc_terms.specs.Depend.{Depends, gate, ghost, fixed, right, fixed_reads, none_died, IsFlat, ReadsKid, FlatDepends, LostAreDeaths}

module _ (F : Functions) (G : Graph) (flat : IsFlat G) where
  pub flat_stands : (n : NodeId) (r : Row) → G.row n ≡ Some r → Stands F G r.scope
  unfolding answer
  flat_stands n r e = (1, rw (flat.no_scope n r e) refl)

  kid_read : (p q : Point) (r : Row) → G.row p.node ≡ Some r → (part : Part) → p.part ≡ part
      → Among q (fixed_reads G p.node r.def part) → ReadsKid G p q
  kid_read p q r e Change is among = absurd (rw (flat.one_point p.node r e) at among)
  kid_read p q r e Main is among = record { row = r; is_row = e; is_main = is; is_kid = rw (flat.one_point p.node r e) at among }

  pub flat_reads : (p q : Point) → Depends F G none_died p q → ReadsKid G p q
  flat_reads p q (gate {r} e s is) = absurd (let top = flat.no_scope p.node r e in cc)
  flat_reads p q (ghost e d is) = absurd (cc)
  flat_reads p q (fixed {r} e st among) = kid_read p q r e p.part refl among
  flat_reads p q (right {r} e st part sub gives among is) = absurd (let one = flat.one_point p.node r e in cc)

  pub reads_flat : (p q : Point) → ReadsKid G p q → Depends F G none_died p q
  reads_flat p q reads =
      fixed reads.is_row (flat_stands p.node reads.row reads.is_row) (rw (reads.is_main, flat.one_point p.node reads.row reads.is_row) reads.is_kid)

pub flat_depends : FlatDepends
flat_depends F G flat p q = (flat_reads F G flat p q, reads_flat F G flat p q)

pub lost_are_deaths : LostAreDeaths
lost_are_deaths G G' = record { now = λ n r e gone. rw (e, gone) refl; earlier = λ n e. rw e refl }
