-- Where more functions are known, those that nodes call mean what they meant, and a round may begin as before.
use Rattle.std.proofs.Common.{◌≡◌, inl, inr, ℕ, Bool, List, Option, Some, None, refl, sym, ap, subst, ◌∙◌}
use Rattle.std.specs.Prelude.{IsTrue}
use Rattle.std.proofs.Math.Path.{fun_ext}
use Rattle.inc_value.specs.declared.function.FnRef.{FnRef}
use Rattle.inc_value.specs.declared.node.NodeId.{NodeId}
use Rattle.inc_value.specs.declared.node.Part.{Part}
use Rattle.inc_value.specs.declared.node.Part.TheVariants.{Main, Change}
use Rattle.inc_value.specs.declared.node.Point.{Point}
use Rattle.inc_value.specs.declared.outcome.Outcome.{Outcome}
use Rattle.inc_value.specs.declared.value.Value.{Value}
use Rattle.inc_terms.specs.Evaluate.{given, gathered, folded}
use Rattle.inc_terms.specs.Graph as graph
use Rattle.inc_terms.specs.Graph.{Graph, Row, Def, Built, Bind}
use Rattle.inc_terms.specs.Local.{own, by_sight, shown, IsRooted, IsBuilt, PartAgrees}
use Rattle.inc_terms.specs.Term.{Functions, refs}
use Rattle.inc_terms.specs.Unfold.{Unfolds}
use Rattle.inc_terms.specs.Within.{DefWithin, FunctionLaws}
use Rattle.node_arena.specs.Arena.{row_at}
use Rattle.node_arena.specs.RightSide.{RightSide, KeepsMeanings}
use Rattle.node_arena.specs.RightSideLaws.{meaning, ids_of, IsFitIn, AllFit}
use Rattle.node_arena.proofs.Graph.{calls_more}
use Rattle.node_arena.proofs.RightSides.{fit_lists_given}
use Rattle.stabilize_round.specs.Calling.{IsAnswer}
use Rattle.stabilize_round.specs.Machine.{Entry}
use Rattle.stabilize_round.specs.State.{State, Start}
use Rattle.node_outcomes.specs.Meaning.{Meaning}
use Rattle.stabilizer.specs.Round.{IsReady}
use Rattle.stabilizer.specs.declared.parts.Parts.{Parts}
use Rattle.wiring.specs.declared.refused.Refused.{Refused}
use Rattle.graph.specs.Inside.{FitsInside}
use Rattle.graph.proofs.Sound.{ready_built}
use Rattle.observers.specs.declared.observer.Observer.{Observer}

-- each function of the definition is known
abbrev pub AreKnown : (FnRef → Bool) → Def → Type 0
AreKnown known def = DefWithin (λ (n : NodeId). Unit {0}) (λ k f. IsTrue (known f)) def

-- ---- what known functions mean

module _ (F F' : Functions) (known : FnRef → Bool) (values : (f : FnRef) → IsTrue (known f) → F'.value f ≡ F.value f)
    (terms : (f : FnRef) (v : Value) → IsTrue (known f) → F'.term f v ≡ F.term f v) where
  own_same : (G : Graph) (see : Point → Option Outcome) (n : NodeId) (def : Def) → AreKnown known def → own F' G see n def ≡ own F G see n def
  own_same G see n (graph.Map f ns) k =
      ap (λ (h : List Value → Value). given h (gathered (by_sight see) (refs ns))) (values f k.0)
  own_same G see n (graph.Fold f v ns) k =
      ap (λ (h : List Value → Value). given (folded h v) (gathered (by_sight see) (refs ns))) (values f k.0)
  own_same G see n (graph.Expert f v ns) k =
      ap (λ (h : List Value → Value). given (folded h v) (gathered (by_sight see) (refs (G.lists n)))) (values f k.0)
  own_same G see n (graph.Const v) k = refl
  own_same G see n (graph.Var v) k = refl
  own_same G see n (graph.If t a b) k = refl
  own_same G see n (graph.Join m) k = refl
  own_same G see n (graph.Bind l f caps) k = refl
  own_same G see n (graph.At t) k = refl
  own_same G see n (graph.Steps v steps) k = refl
  own_same G see n graph.Now k = refl
  own_same G see n (graph.Every base span) k = refl
  own_same G see n (graph.Freeze kid f) k = refl

  rooted_same : (G : Graph) (b : NodeId) (f : FnRef) (captures : List NodeId) (w : Built) → IsTrue (known f) → IsRooted F G b f captures w
      → IsRooted F' G b f captures w
  rooted_same G b f captures w k h = record {
    unfolds = λ v is. let r = h.unfolds v is in (r.0, r.1, subst (Unfolds G (Some b) captures r.0) (sym (terms f v k)) r.2);
    rootless = h.rootless;
  }

  built_same : (G : Graph) (n : NodeId) (def : Def) (o : Outcome) → AreKnown known def → IsBuilt F G n def o → IsBuilt F' G n def o
  built_same G n (graph.Bind l f caps) o k h = (h.0, h.1, h.2, rooted_same G n f caps h.0 k.0 h.3)
  built_same G n _ o k h = tt

  part_same : (G : Graph) (out : Point → Option Outcome) (n : NodeId) (def : Def) (part : Part) → AreKnown known def
      → PartAgrees F G out n def part → PartAgrees F' G out n def part
  part_same G out n def Main k h = (h.0, h.1, own_same G (shown G out) n def k ∙ h.2)
  part_same G out n def Change k h = λ s is. let c = h s is in (c.0, c.1, c.2, built_same G n def c.0 k c.3)

  answer_same : (def : Def) (arguments : List Value) (result : Value) → AreKnown known def → IsAnswer F def arguments result
      → IsAnswer F' def arguments result
  answer_same (graph.Map f ns) arguments result k h = h ∙ ap (λ (g : List Value → Value). g arguments) (sym (values f k.0))
  answer_same (graph.Fold f v ns) arguments result k h = h ∙ ap (λ (g : List Value → Value). folded g v arguments) (sym (values f k.0))
  answer_same (graph.Freeze kid f) arguments result k h = h ∙ ap (λ (g : List Value → Value). g arguments) (sym (values f k.0))
  answer_same (graph.Expert f v ns) arguments result k h = h ∙ ap (λ (g : List Value → Value). folded g v arguments) (sym (values f k.0))
  answer_same _ arguments result k h = absurd h

  -- a round begins
  pub entry_same : (z : Start) (s : State) → ((n : NodeId) (r : Row) → s.graph.row n ≡ Some r → AreKnown known r.def) → Entry F z s → Entry F' z s
  entry_same z s all e = record {
    web = e.web;
    alive = e.alive;
    links = e.links;
    full = e.full;
    bare = e.bare;
    scoped = e.scoped;
    rooted = λ n r l f captures w row bind is. rooted_same s.graph n f captures w (subst (AreKnown known) bind (all n r row)).0
        (e.rooted n r l f captures w row bind is);
    built = λ n r o row out. built_same s.graph n r.def o (all n r row) (e.built n r o row out);
    fresh = λ p r row need. elim (e.fresh p r row need) [
      | inl h ↦ inl h
      | inr h ↦ inr ((λ q is. part_same s.graph s.out p.node q.def p.part (all p.node q is) (h.0 q is)), h.1, h.2)
    ];
    settled = e.settled;
    owed = e.owed;
    todo = e.todo;
    retries = e.retries;
    ran = e.ran;
    taken = e.taken;
    died = e.died;
    held = e.held;
    last = e.last;
    calls = e.calls;
    cutoff = e.cutoff;
    stale = e.stale;
    answers = λ n r kids c row takes last. answer_same r.def c.arguments c.result (all n r row) (e.answers n r kids c row takes last);
    unfired = e.unfired;
  }

-- ---- of a keeper

module _ (named named' : List ℕ → Option FnRef) (known known' : FnRef → Bool) (value value' : FnRef → List Value → Value) (right right' : FnRef → RightSide)
    (keeps : KeepsMeanings named named' known known' value value' right right') (laws : FunctionLaws (meaning value' right') known' (ids_of right')) (parts : Parts)
    (fit : AllFit known right parts.arena) (fit' : AllFit known' right' parts.arena) where
  abbrev before : Functions
  before = meaning value right

  abbrev after : Functions
  after = meaning value' right'

  values_same : (f : FnRef) → IsTrue (known f) → value' f ≡ value f
  values_same f k = fun_ext (λ args. keeps.values f args k)

  terms_same : (f : FnRef) (v : Value) → IsTrue (known f) → (right' f).term v ≡ (right f).term v
  terms_same f v k = ap (λ (s : RightSide). s.term v) (keeps.sides f k)

  all_known : (n : NodeId) (r : Row) → row_at parts.arena n ≡ Some r → AreKnown known r.def
  all_known n r row = calls_more (IsFitIn known right parts.arena) (λ k f. IsTrue (known f)) (λ k f h. h.0.0) r.def (fit n r row)

  pub ready_more : IsReady (record { functions = before; known = known; ids = ids_of right }) parts
      → IsReady (record { functions = after; known = known'; ids = ids_of right' }) parts
  ready_more h =
      let fits = fit_lists_given known' right' parts.arena fit' in
      let entry = entry_same before after known values_same terms_same h.start h.state
      (λ n r row. all_known n r (subst (λ (G : Graph). G.row n ≡ Some r) h.stands.graph row)) h.entry in
      search (laws, fits, entry, h)

-- what every graph keeps, it keeps with the further functions
pub sound_more : (M M' : Meaning) (parts : Parts) (observers : List Observer) (rooted since : ℕ) (refused : Option Refused)
    → FitsInside M parts observers rooted since refused → refused ≡ None → (IsReady M parts → IsReady M' parts) → FitsInside M' parts observers rooted since refused
sound_more M M' parts observers rooted since refused fits still ready = record {
  few = fits.few;
  earlier = fits.earlier;
  past = fits.past;
  kept = fits.kept;
  built = ready_built M' parts (ready (fits.unbroken still).ready);
  inside = fits.inside;
  showing = fits.showing;
  later = fits.later;
  unbroken = λ whole. let can = fits.unbroken whole in record { ready = ready can.ready; roots = can.roots; given = can.given; shown = can.shown };
}
