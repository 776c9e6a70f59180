-- What a session is given and what it hands out, in all.
use Rattle.std.specs.Prelude.{◌≡◌, ℕ, List, [], ◌∷◌, ◌++◌, map, Option, None, Some}
use Rattle.std.specs.List.{flat_map}
use Rattle.script_graph.specs.State.{Stands}
use Rattle.script_model.specs.Run.{Turn, IsTurn, Chain, Halts, bytes_of, lines_read, transcript}
use Rattle.script_model.specs.Step.{Moment, first_moment}
use Rattle.session.specs.declared.answer.Did.{Did}
use Rattle.session_slots.specs.Holding.{IsFirst, IsTaken, IsStopped, standard}
use Rattle.session_slots.specs.declared.holder.Holder.{Holder}

-- a line that was taken, where it left the session, what was handed out then, and what was left
pub record Given : Type 0 where
  pub line : List ℕ
  pub how : Did
  pub taken : Holder
  pub handed : List ℕ
  pub after : Holder

-- lines one after the other: what is handed out is a front of what is to be read, and the session stays as the line left it
abbrev pub AreGiven : Holder → List Given → Holder → Type 0
AreGiven h [] end = h ≡ end
AreGiven h (g ∷ givens) end = IsTaken h g.line g.taken g.how × (g.after.session ≡ g.taken.session) × (g.taken.printed.items ≡ g.handed ++ g.after.printed.items)
    × AreGiven g.after givens end

-- the lines are those of a run of the model from the first moment on, to a moment that the session stands for; all that was handed out,
-- and behind it what is still to be read, is the run's transcript
abbrev pub HandsOutTranscripts : Type 0
HandsOutTranscripts = (first end : Holder) (givens : List Given) → IsFirst first → AreGiven first givens end
    → (turns : List Turn) × (m : Moment) × Chain standard first_moment turns m × Stands standard end.session.kept m
    × (lines_read turns ≡ map (λ (g : Given). g.line) givens) × (flat_map (λ (g : Given). g.handed) givens ++ end.printed.items ≡ transcript turns)

-- ---- also where lines found no memory

-- a line that was given, how it was taken, if there was memory for it, where it left the session, what was handed out then, and what was left
pub record Tried : Type 0 where
  pub line : List ℕ
  pub how : Option Did
  pub reached : Holder
  pub handed : List ℕ
  pub after : Holder

-- the line was taken so, or found no memory
abbrev pub IsReached : Holder → List ℕ → Holder → Option Did → Type 0
IsReached old text new (Some how) = IsTaken old text new how
IsReached old text new None = IsStopped old text new

-- lines one after the other, as above
abbrev pub AreTried : Holder → List Tried → Holder → Type 0
AreTried h [] end = h ≡ end
AreTried h (g ∷ tried) end = IsReached h g.line g.reached g.how × (g.after.session ≡ g.reached.session)
    × (g.reached.printed.items ≡ g.handed ++ g.after.printed.items) × AreTried g.after tried end

-- a line that was taken is a turn of the model from the moment on; one that found no memory leads where such a line may leave things, and prints nothing.
-- What follows is so of where it leads, and of what it prints
abbrev pub Leads : Option Did → Moment → List ℕ → (Moment → List ℕ → Type 0) → Type 0
Leads (Some how) m line Follows = (t : Turn) × (t.before ≡ m) × (t.line ≡ line) × IsTurn standard t × Follows t.after (bytes_of t)
Leads None m line Follows = (next : Moment) × (due : ℕ) × Halts standard m line next due × Follows next []

-- the lines lead from the one moment to the other, each from where the one before it led, and print these bytes in all
abbrev pub LeadOn : Moment → List Tried → Moment → List ℕ → Type 0
LeadOn m [] end bytes = (m ≡ end) × (bytes ≡ [])
LeadOn m (g ∷ tried) end bytes =
    Leads g.how m g.line (λ next printed. (rest : List ℕ) × (bytes ≡ printed ++ rest) × LeadOn next tried end rest)

-- they lead from the first moment to one that the session stands for; all that was handed out, and behind it what is still to be read, is what they print
abbrev pub HandsOutPastWants : Type 0
HandsOutPastWants = (first end : Holder) (tried : List Tried) → IsFirst first → AreTried first tried end
    → (m : Moment) × LeadOn first_moment tried m (flat_map (λ (g : Tried). g.handed) tried ++ end.printed.items) × Stands standard end.session.kept m
