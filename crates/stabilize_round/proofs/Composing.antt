-- Closed forms of unlinking compose.
use Rattle.std.proofs.Common.{◌≡◌, ◌<◌, true}
use Rattle.inc_value.specs.declared.node.Point.{Point}
use Rattle.inc_value.specs.Choice.{Reaches, here, step}
use Rattle.inc_terms.proofs.Local.{reach_more}
use Rattle.stabilize_round.specs.Composing.{From, Swept, Less, SweepsCompose}
use Rattle.stabilize_round.proofs.Parts.{reaches_map}

module _ {A : Type 0} (Root : A → Type 0) (L X : A → A → Type 0) where
  fewer : (a b : A) → Less (Swept Root L) X a b → Less L X a b
  fewer a b l = (l.0.0, l.1)

  along : (a b : A) → From Root L a → Reaches (Less L X) a b → Reaches (Less (Swept Root L) X) a b
  along a b at here = here
  along a b at (step {b = c} l rest) = step {b = c} ((l.0, at), l.1) (along c b (at.0, at.1, reach_more L at.0 a c at.2 l.0) rest)

  from_more : (a : A) → From Root (Less L X) a → From Root L a
  from_more a f = (f.0, f.1, reaches_map (Less L X) L (λ x y l. l.0) f.0 a f.2)

  from_swept : (a : A) → From Root (Less L X) a → From Root (Less (Swept Root L) X) a
  from_swept a f = (f.0, f.1, along f.0 a (f.0, f.1, here) f.2)

  pub composes : (a b : A) → (Swept Root (Less (Swept Root L) X) a b → Swept Root (Less L X) a b)
      × (Swept Root (Less L X) a b → Swept Root (Less (Swept Root L) X) a b)
  composes a b = (
    (λ h. (fewer a b h.0, (h.1.0, h.1.1, reaches_map (Less (Swept Root L) X) (Less L X) fewer h.1.0 a h.1.2))),
    (λ h. (((h.0.0, from_more a h.1), h.0.1), from_swept a h.1)),
  )

pub sweeps_compose : SweepsCompose
sweeps_compose root links off p q = composes (λ (a : Point). 0 < root a) (λ (a b : Point). 0 < links a b) (λ (a b : Point). off a b ≡ true) p q
