-- What a session hands out is what its lines print.
use Rattle.std.specs.Prelude.{◌≡◌, ℕ, List, [], ◌∷◌, ◌++◌, map, Option, None, Some}
use Rattle.std.specs.List.{flat_map}
use Rattle.std.proofs.Common.{refl, sym, ap, ◌∙◌, subst}
use Rattle.std.proofs.lemmas.List.{append_assoc, append-nil}
use Rattle.script_graph.specs.State.{Stands}
use Rattle.script_model.specs.Run.{Turn, Chain, bytes_of, lines_read, transcript}
use Rattle.script_model.specs.Step.{Moment, first_moment}
use Rattle.session.specs.Session.{SessionView}
use Rattle.std_library.specs.Calls.{Calls}
use Rattle.session_slots.specs.Holding.{standard}
use Rattle.session.specs.declared.answer.Did.{Did}
use Rattle.session_slots.specs.Handed.{Given, AreGiven, HandsOutTranscripts, Tried, IsReached, AreTried, Leads, LeadOn, HandsOutPastWants}
use Rattle.session_slots.specs.declared.holder.Holder.{Holder}

-- a run from this moment on, over the lines that were given; what was to be read before and what the run prints is what was handed out and what is to be read
abbrev Runs : Holder → Moment → List Given → Holder → Type 0
Runs h m givens end = (turns : List Turn) × (last : Moment) × Chain standard m turns last × Stands standard end.session.kept last
    × (lines_read turns ≡ map (λ (g : Given). g.line) givens) × (flat_map (λ (g : Given). g.handed) givens ++ end.printed.items ≡ h.printed.items ++ transcript turns)

-- what is printed behind a front goes on behind it
handed_on : (before handed left bytes rest more end taken : List ℕ) → taken ≡ handed ++ left → taken ≡ before ++ bytes → more ++ end ≡ left ++ rest
    → (handed ++ more) ++ end ≡ before ++ (bytes ++ rest)
handed_on before handed left bytes rest more end taken split printed further =
    append_assoc handed more end ∙ ap (λ (xs : List ℕ). handed ++ xs) further ∙ sym (append_assoc handed left rest)
    ∙ ap (λ (xs : List ℕ). xs ++ rest) (sym split ∙ printed) ∙ append_assoc before bytes rest

runs_on : (h : Holder) (m : Moment) (givens : List Given) (end : Holder) → Stands standard h.session.kept m → AreGiven h givens end → Runs h m givens end
runs_on h m [] end stands same = (
  [],
  m,
  refl,
  subst (λ (x : Holder). Stands standard x.session.kept m) same stands,
  refl,
  ap (λ (x : Holder). x.printed.items) (sym same) ∙ sym (append-nil h.printed.items),
)
runs_on h m (g ∷ givens) end stands (taken, same, split, more) =
    let t = taken.0 m stands in
    let later = runs_on g.after t.turn.after givens end (subst (λ (s : SessionView Calls). Stands standard s.kept t.turn.after) (sym same) t.stands) more in (
      t.turn ∷ later.0,
      later.1,
      (t.from, t.is_turn, later.2),
      later.3,
      (λ i. t.over i ∷ later.4 i),
      handed_on h.printed.items g.handed g.after.printed.items (bytes_of t.turn) (transcript later.0) (flat_map (λ (x : Given). x.handed) givens) end.printed.items
          g.taken.printed.items split t.printed later.5,
    )

pub hands_out : HandsOutTranscripts
hands_out first end givens (stands, lines, empty) are =
    let run = runs_on first _ givens end stands are in
    (run.0, run.1, run.2, run.3, run.4, run.5 ∙ ap (λ (xs : List ℕ). xs ++ transcript run.0) empty)

-- ---- also where lines found no memory

-- these lines lead on from the moment; what was to be read before and what they print is what was handed out and what is to be read
abbrev LeadsOn : Holder → Moment → List Tried → Holder → Type 0
LeadsOn h m tried end = (last : Moment) × (bytes : List ℕ) × LeadOn m tried last bytes × Stands standard end.session.kept last
    × (flat_map (λ (g : Tried). g.handed) tried ++ end.printed.items ≡ h.printed.items ++ bytes)

-- so does a line before them, however it was taken
abbrev LeadsBy : Option Did → Holder → Moment → Tried → List Tried → Holder → Type 0
LeadsBy how h m g tried end = (last : Moment) × (bytes : List ℕ)
    × Leads how m g.line (λ next printed. (rest : List ℕ) × (bytes ≡ printed ++ rest) × LeadOn next tried last rest) × Stands standard end.session.kept last
    × ((g.handed ++ flat_map (λ (x : Tried). x.handed) tried) ++ end.printed.items ≡ h.printed.items ++ bytes)

module _ (h : Holder) (m : Moment) (g : Tried) (tried : List Tried) (end : Holder) (stands : Stands standard h.session.kept m)
    (same : g.after.session ≡ g.reached.session) (split : g.reached.printed.items ≡ g.handed ++ g.after.printed.items)
    (again : (n : Moment) → Stands standard g.after.session.kept n → LeadsOn g.after n tried end) where
  here : (n : Moment) → Stands standard g.reached.session.kept n → LeadsOn g.after n tried end
  here n st = again n (subst (λ (s : SessionView Calls). Stands standard s.kept n) (sym same) st)

  line_leads : (how : Option Did) → IsReached h g.line g.reached how → LeadsBy how h m g tried end
  line_leads (Some how) taken =
      let t = taken.0 m stands in
      let later = here t.turn.after t.stands in (
        later.0,
        bytes_of t.turn ++ later.1,
        (t.turn, t.from, t.over, t.is_turn, (later.1, refl, later.2)),
        later.3,
        handed_on h.printed.items g.handed g.after.printed.items (bytes_of t.turn) later.1 (flat_map (λ (x : Tried). x.handed) tried) end.printed.items
            g.reached.printed.items split t.printed later.4,
      )
  line_leads None stopped =
      let s = stopped.0 m stands in
      let later = here s.after s.stands in (
        later.0,
        later.1,
        (s.after, s.due, s.halts, (later.1, refl, later.2)),
        later.3,
        handed_on h.printed.items g.handed g.after.printed.items [] later.1 (flat_map (λ (x : Tried). x.handed) tried) end.printed.items
            g.reached.printed.items split (stopped.1 ∙ sym (append-nil h.printed.items)) later.4,
      )

tried_on : (h : Holder) (m : Moment) (tried : List Tried) (end : Holder) → Stands standard h.session.kept m → AreTried h tried end → LeadsOn h m tried end
tried_on h m [] end stands same = (
  m,
  [],
  (refl, refl),
  subst (λ (x : Holder). Stands standard x.session.kept m) same stands,
  ap (λ (x : Holder). x.printed.items) (sym same) ∙ sym (append-nil h.printed.items),
)
tried_on h m (g ∷ tried) end stands (reached, same, split, more) =
    line_leads h m g tried end stands same split (λ n st. tried_on g.after n tried end st more) g.how reached

pub hands_out_past : HandsOutPastWants
hands_out_past first end tried (stands, lines, empty) are =
    let run = tried_on first first_moment tried end stands are in
    (run.0, subst (LeadOn first_moment tried run.0) (sym (run.4 ∙ ap (λ (xs : List ℕ). xs ++ run.1) empty)) run.2, run.3)
