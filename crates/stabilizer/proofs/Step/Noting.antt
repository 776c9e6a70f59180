-- Nodes whose mains a round settles are news.
use Rattle.std.proofs.Common.{◌≡◌, ◌⊎◌, inl, inr, true, sym, ap, subst, ◌∙◌}
use Rattle.inc_value.specs.declared.node.NodeId.{NodeId}
use Rattle.inc_value.specs.declared.node.Point.{Point}
use Rattle.inc_terms.specs.Depend.{main}
use Rattle.point_map.specs.Rows.{at}
use Rattle.node_outcomes.specs.Meaning.{Meaning}
use Rattle.node_outcomes.specs.Row.{settled_in}
use Rattle.wiring.specs.Stands.{Counts}
use Rattle.wiring.specs.declared.work.Work.{Work}
use Rattle.stabilizer.specs.Round.{IsInRound}
use Rattle.stabilizer.specs.Stepping.{StepsAt}
use Rattle.stabilizer.specs.Telling.{IsNews, NewsStay, SettledAreNews}
use Rattle.stabilizer.specs.declared.news.News.{News}
use Rattle.stabilizer.specs.declared.parts.Parts.{Parts}
use Rattle.stabilizer.proofs.Round.Began.{round_on}
use Rattle.stabilizer.proofs.Step.Making.{AreSettled, quiet_of}
use Rattle.stabilizer.proofs.Step.Showing.{step_settles}

-- a main that is settled was so before, or is the point that was taken
abbrev pub SettlesAt : Work → Work → Point → Type 0
SettlesAt old new p = (n : NodeId) → settled_in new.round (at new.rows (main n)) ≡ true
    → (settled_in old.round (at old.rows (main n)) ≡ true) ⊎ (main n ≡ p)

-- so it is where a step takes the point, of functions that mean the same
pub settles_at : (M N : Meaning) (same : N ≡ M) (old mid new : Parts) (before between after : Counts) → AreSettled M old mid before between
    → IsInRound M old before → (p : Point) → StepsAt N mid new between after p → SettlesAt mid.work new.work p
settles_at M N same old mid new before between after so begins p steps n is =
    let m = so.settled begins.start begins.state begins.round begins.stands in
    let k = subst (λ (L : Meaning). StepsAt L mid new between after p) same steps begins.start m.0
    (round_on M begins.start begins.state m.0 m.1 begins.round) (quiet_of mid.arena mid.work between m.0 m.2 so.quiet) m.2 in
    elim (step_settles M.functions begins.start m.0 k.0 k.1 (main n) (k.2.settled (main n) ∙ is)) [
      | inl was ↦ inl (sym (m.2.settled (main n)) ∙ was)
      | inr taken ↦ inr (taken ∙ k.3)
    ]

-- once the node of the point is news, those that are settled are
pub noted_next : (old new : Work) (news news' : News) (p : Point) → SettlesAt old new p → SettledAreNews old news → IsNews news' p.node
    → NewsStay news news' → SettledAreNews new news'
noted_next old new news news' p settles noted added stay n is = elim (settles n is) [
  | inl was ↦ stay n (noted n was)
  | inr taken ↦ subst (λ (m : NodeId). IsNews news' m) (sym (ap (λ (x : Point). x.node) taken)) added
]
