-- Heights are others, and what that changes.
use Rattle.std.proofs.Common.{ℕ, List, ◌∷◌, Option, Some, refl, sym, ◌∙◌, arith}
use Rattle.inc_value.specs.declared.node.Point.{Point}
use Rattle.inc_value.specs.Choice.{here, step, Reaches}
use Rattle.inc_terms.specs.Term.{Functions}
use Rattle.height_order.specs.Levels.{level}
use Rattle.necessary_graph.specs.Part.{Needed}
use Rattle.node_arena.specs.Arena.{Arena}
use Rattle.stabilize_round.specs.Machine as move
use Rattle.stabilize_round.specs.State.{State, Start}
use Rattle.stabilize_round.specs.Steps.{Wiring, Wired, plainly}
use Rattle.stabilize_round.specs.Wire.{IsConfirmed, levelled}
use Rattle.wiring.specs.Refusing.{RefusedBy, TellsWhy, by_link}
use Rattle.wiring.specs.Stands.{MatchesState, PointInHand, hand, Counts}
use Rattle.wiring.specs.Wiring.{IsDue, IsLevelled}
use Rattle.wiring.specs.declared.refused.Refused.{Refused}
use Rattle.wiring.specs.declared.work.Work.{Work}
use Rattle.wiring.proofs.Staying.{shown_stands}

module _ (F : Functions) (z : Start) (s : State) (arena : Arena) (old new : Work) (counts : Counts) (held : Option PointInHand)
    (st : MatchesState arena old counts held s) (l : IsLevelled old new) where
  abbrev pub low : State
  low = levelled s (level new.graph.heights)

  pub low_wiring : Reaches (Wiring F z) s low
  low_wiring = step (
    move.level (record {
      rises = λ a b x. l.step.rises a b (let e = st.links a b in let f = l.links a b in omega (arith, x, e, f));
      low = l.step.low;
    }) refl,
    tt,
  ) here

  pub low_stands : MatchesState arena new counts held low
  low_stands = shown_stands s arena old new counts held (level new.graph.heights) s.heap l.rows l.lists l.round l.links l.roots l.todo (λ a n. refl)
      (λ a. st.heap a ∙ sym (l.heap a)) st

-- over other heights too a link may be put on
pub low_confirmed : (s : State) (height' : Point → ℕ) (p q : Point) → IsConfirmed s p q → IsConfirmed (levelled s height') p q
low_confirmed s height' p q confirmed = record { gate = confirmed.gate; right = confirmed.right }

-- a refusal that is final stops here
pub refused_at_once : (F : Functions) (z : Start) (s : State) (arena : Arena) (old new : Work) (counts : Counts) (p q : Point) (rest : List Point)
    → IsDue F z s arena old counts p q rest → IsLevelled old new → Needed old.graph p → (e : Refused) → RefusedBy new p q e
    → (t : State) × Wired F z s t × MatchesState arena new counts (Some (hand p (q ∷ rest))) t × TellsWhy F t new (Some (hand p (q ∷ rest))) e
refused_at_once F z s arena old new counts p q rest due l need e why = (
  low F z s arena old new counts (Some (hand p (q ∷ rest))) due.stands l,
  plainly (low_wiring F z s arena old new counts (Some (hand p (q ∷ rest))) due.stands l),
  low_stands F z s arena old new counts (Some (hand p (q ∷ rest))) due.stands l,
  by_link ((due.stands.needed p).1 need) due.depends (low_confirmed s _ p q due.confirmed) why,
)
