-- Readers that pass a test come behind a list.
use Rattle.std.proofs.Common.{◌≡◌, ◌⊎◌, inl, inr, ◌++◌, List, [], ◌∷◌, Some, arith, sym, subst}
use Rattle.std.specs.Prelude.{◌↔◌}
use Rattle.inc_value.specs.Choice.{Among}
use Rattle.inc_value.specs.declared.node.Point.{Point}
use Rattle.point_map.specs.Rows.{Rows, at}
use Rattle.link_table.specs.Links.{Links, Reads, AreReaders}
use Rattle.height_order.proofs.Covering.{Covers, covers_next, covers_end, among_readers, occurs_first}
use Rattle.node_outcomes.specs.Row.{stage_in}
use Rattle.node_outcomes.specs.Progress.{Progress}
use Rattle.node_outcomes.specs.declared.row.Stage.TheVariants.{Gated}
use Rattle.wiring.specs.Wiring.{WaitsFor}
use Rattle.wiring.specs.declared.work.Work.{Work}
use Rattle.wiring.proofs.Placing.{among_before, among_last, among_cases}

module _ (links : Links) (rows : Rows Progress) (gate : Point) where
  abbrev pub HasGateAlone : Point → Type 0
  HasGateAlone r = stage_in (at rows r) ≡ Some Gated

  abbrev pub IsIn : List Point → Point → Type 0
  IsIn now r = HasGateAlone r → Among r now

  -- the readers that are left come next
  pub record IsGathering (old now left : List Point) : Type 0 where
    pub covers : Covers (λ (r : Point). Reads links r gate) (IsIn now) left
    pub kept : (r : Point) → Among r old → Among r now
    pub only : (r : Point) → Among r now → Among r old ⊎ (Reads links r gate × HasGateAlone r)

  pub gathering_first : (old left : List Point) → AreReaders links gate left → IsGathering old old left
  gathering_first old left are = record {
    covers = record {
      among = among_readers links gate left are;
      rest = λ p r. inl (let e = are p in omega (arith, e, r));
    };
    kept = λ r a. a;
    only = λ r a. inl a;
  }

  module _ (old now : List Point) (r : Point) (rest : List Point) (so : IsGathering old now (r ∷ rest)) where
    -- the next one reads the gate
    pub gathering_reads : Reads links r gate
    gathering_reads = so.covers.among r (occurs_first r rest)

    pub gathering_skip : (HasGateAlone r → ⊥) → IsGathering old now rest
    gathering_skip over = record {
      covers = covers_next (λ (p : Point). Reads links p gate) (IsIn now) (IsIn now) r rest so.covers (λ x d. d) (λ g. absurd (over g));
      kept = so.kept;
      only = so.only;
    }

    pub gathering_put : HasGateAlone r → IsGathering old (now ++ r ∷ []) rest
    gathering_put gated = record {
      covers = covers_next (λ (p : Point). Reads links p gate) (IsIn now) (IsIn (now ++ r ∷ [])) r rest so.covers
          (λ x d g. among_before x r now (d g)) (λ g. among_last r now);
      kept = λ p a. among_before p r now (so.kept p a);
      only = λ p a. elim (among_cases p r now a) [
        | inl before ↦ so.only p before
        | inr e ↦ inr (subst (λ (x : Point). Reads links x gate × HasGateAlone x) (sym e) (so.covers.among r (occurs_first r rest), gated))
      ];
    }

  pub gathering_last : (old now : List Point) → IsGathering old now [] → (p : Point)
      → Among p now ↔ (Among p old ⊎ (Reads links p gate × HasGateAlone p))
  gathering_last old now so p = (
    so.only p,
    λ either. elim either [
      | inl before ↦ so.kept p before
      | inr k ↦ covers_end (λ (x : Point). Reads links x gate) (IsIn now) so.covers p k.0 k.1
    ],
  )

-- what comes behind an empty list waits for the gate
pub waits_for : (old : Work) (p gate : Point) (now : List Point) → old.todo.items ≡ []
    → (Among p now ↔ (Among p old.todo.items ⊎ (Reads old.graph.links p gate × (stage_in (at old.rows p) ≡ Some Gated)))) → Among p now ↔ WaitsFor old p gate
waits_for old p gate now quiet g = (
  λ a. elim (g.0 a) [
    | inl before ↦ let none : Among p [] = subst (λ (xs : List Point). Among p xs) quiet before in absurd none
    | inr k ↦ record { reads = k.0; stage = k.1 }
  ],
  λ w. g.1 (inr (w.reads, w.stage)),
)
