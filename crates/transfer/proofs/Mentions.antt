-- What names and references a formula mentions.
use Rattle.std.proofs.Common.{ℕ}
use Rattle.inc_value.specs.Choice.{Every as Each}
use Rattle.script_model.specs.Values.{Value, Reference}
use Rattle.script_model.specs.Formula.{Formula, Formulas, TimedValue, Literal, Name, Bound, Apply, Fold, If, Join, Bind, At, Steps, Now, End, More}

-- a reference is to a name of the set
abbrev pub ValueMentions : (ℕ → Type 0) → Value → Type 0
ValueMentions P (Reference target base) = P target
ValueMentions P v = Unit {0}

abbrev mutual
  -- all names and references in the formula are of the set
  pub Mentions : (ℕ → Type 0) → Formula → Type 0
  Mentions P (Literal v) = ValueMentions P v
  Mentions P (Name k) = P k
  Mentions P (Bound k) = Unit {0}
  Mentions P (Apply f fs) = AllMention P fs
  Mentions P (Fold f v fs) = ValueMentions P v × AllMention P fs
  Mentions P (If test a b) = Mentions P test × Mentions P a × Mentions P b
  Mentions P (Join child) = Mentions P child
  Mentions P (Bind left body) = Mentions P left × Mentions P body
  Mentions P (At time) = Unit {0}
  Mentions P (Steps v steps) = ValueMentions P v × Each (λ (s : TimedValue). ValueMentions P s.value) steps
  Mentions P Now = Unit {0}

  -- so in each of the formulas
  pub AllMention : (ℕ → Type 0) → Formulas → Type 0
  AllMention P End = Unit {0}
  AllMention P (More f fs) = Mentions P f × AllMention P fs
