-- What observers show at the end of a round, but for those of nodes that are news.
use Rattle.std.proofs.Common.{◌≡◌, ◌⊎◌, inl, inr, true, false, List, [], ◌∷◌, Option, None, Some, refl, sym, ap, subst, ◌∙◌}
use Rattle.std.proofs.lemmas.Option.{none-some}
use Rattle.std.specs.Prelude.{is_some, Bool, cond}
use Rattle.inc_value.specs.Choice.{Among}
use Rattle.inc_value.specs.declared.node.NodeId.{NodeId}
use Rattle.inc_terms.specs.Depend.{main, died_in, scope_lost}
use Rattle.inc_terms.specs.Graph.{Graph, Row}
use Rattle.inc_terms.specs.Local.{shown, shown_of}
use Rattle.inc_terms.specs.Rebuild.{Inside, direct, nested}
use Rattle.inc_terms.specs.Term.{Functions}
use Rattle.inc_terms.specs.Within.{Given}
use Rattle.point_map.specs.Rows.{at, Holds}
use Rattle.node_outcomes.specs.Meaning.{Meaning}
use Rattle.observers.specs.Observers.{in_use}
use Rattle.observers.specs.declared.observer.Observer.{Observer}
use Rattle.stabilize_round.specs.Machine.{Entry, Move, Moves}
use Rattle.stabilize_round.specs.State.{State, Start}
use Rattle.stabilize_round.proofs.Parts.{bool_cases}
use Rattle.stabilize_round.proofs.Runs.{run_kills, deaths_are_known}
use Rattle.stabilize_round.proofs.Staying.{moves_rest}
use Rattle.stabilize_round.proofs.Steps.{joined}
use Rattle.wiring.specs.Kept.{IsKept}
use Rattle.wiring.specs.Stands.{MatchesState, Counts}
use Rattle.wiring.proofs.Sight.{sees}
use Rattle.stabilizer.specs.Round.{Settles}
use Rattle.stabilizer.specs.Telling.{AreCurrent, HasOpened, IsNews, NewsStay, SettledAreNews, shown_or, shows_of}
use Rattle.stabilizer.specs.declared.news.News.{News}
use Rattle.stabilizer.specs.declared.parts.Parts.{Parts}
use Rattle.stabilizer.proofs.Step.Showing.{unsettled_show_still}

-- who stands inside something has a scope
pub in_scope : (G : Graph) (b n : NodeId) (r : Row) → G.row n ≡ Some r → r.scope ≡ None → Inside G b n → ⊥
in_scope G b n r row none (direct {r = q} e sc) =
    let same : r ≡ q = cc in none-some b (sym none ∙ (ap (λ (x : Row). x.scope) same ∙ sc))
in_scope G b n r row none (nested {r = q} {c} e sc i) =
    let same : r ≡ q = cc in none-some c (sym none ∙ (ap (λ (x : Row). x.scope) same ∙ sc))

-- a given node that wasn't settled and isn't known to have died shows what it showed
module _ (F : Functions) (z : Start) (s t : State) (entry : Entry F z s) (run : Moves F z s t) (n : NodeId) (given : Given s.given n)
    (unsettled : t.settled (main n) ≡ false) (alive : t.died n ≡ None) where
  by_rows : (y x : Option Row) → t.graph.row n ≡ y → s.graph.row n ≡ x → shown_of y (t.out (main n)) ≡ shown_of x (s.out (main n))
  by_rows None None e was = refl
  by_rows None (Some r) e was = absurd (
      let dies = (run_kills F z s t run n r given was).0 e in
      let known = deaths_are_known F z s t entry run n given e in
      let lost : died_in s.graph t.graph n ≡ r.scope =
      ap (λ (x : Option Row). scope_lost x (t.graph.row n)) was ∙ ap (λ (y : Option Row). scope_lost (Some r) y) e in
      let scope : r.scope ≡ None = sym lost ∙ (sym known ∙ alive) in
      in_scope s.graph dies.0 n r was scope dies.2)
  by_rows (Some r) None e was = absurd (elim ((moves_rest F z s t run).rows n given) [
    | inl same ↦ none-some r (sym was ∙ (sym same ∙ e))
    | inr dead ↦ none-some r (sym dead ∙ e)
  ])
  by_rows (Some r) (Some q) e was = unsettled_show_still F z s t run n r e given unsettled

  pub shows_still : shown t.graph t.out (main n) ≡ shown s.graph s.out (main n)
  shows_still = by_rows (t.graph.row n) (s.graph.row n) refl refl

-- so observers of nodes that aren't news show what these show
pub are_current : (M : Meaning) (old settled : Parts) (before after : Counts) (made : List Observer) (news news' : News) → HasOpened M old before made
    → Settles M old settled before after → IsKept settled.arena settled.work → SettledAreNews settled.work news → NewsStay news news'
    → ((n : NodeId) → Holds settled.work.deaths.scopes (main n) → IsNews news' n) → AreCurrent settled news' made
are_current M old settled before after made news news' opened steps kept noted stay dead o x among used shows =
    let z = opened.start in
    let k = steps z opened.state opened.round opened.stands in
    by k.0 k.2 (joined (Move M.functions z) opened.first opened.state k.0 opened.moves k.1)
  where
    n : NodeId
    n = o.node

    by : (t : State) → MatchesState settled.arena settled.work after None t → Moves M.functions opened.start opened.first t
        → IsNews news' n ⊎ (shows_of settled n ≡ x)
    by t st run = elim (bool_cases (t.settled (main n))) [
      | inl is ↦ inl (stay n (noted n (sym (st.settled (main n)) ∙ is)))
      | inr not ↦ by_death (at settled.work.deaths.scopes (main n)) refl not
    ]
      where
        by_death : (d : Option NodeId) → at settled.work.deaths.scopes (main n) ≡ d → t.settled (main n) ≡ false
            → IsNews news' n ⊎ (shows_of settled n ≡ x)
        by_death (Some b) e not = inl (dead n (ap is_some e))
        by_death None e not =
            let showed = opened.showed o x among used shows in
            inr (ap shown_or (sym (sees t settled.arena settled.work after kept st n)
            ∙ (shows_still M.functions opened.start opened.first t opened.entry run n showed.0 not (st.died n ∙ e) ∙ showed.1)))

-- an observer in use is among those that are
pub among_used : (made : List Observer) (o : Observer) → Among o made → o.in_use ≡ true → Among o.node (in_use made)
among_used [] o there used = absurd there
among_used (m ∷ made) o (inl is) used = subst (λ (x : Observer). Among o.node (cond x.in_use (x.node ∷ in_use made) (in_use made))) is
    (subst (λ (b : Bool). Among o.node (cond b (o.node ∷ in_use made) (in_use made))) (sym used) (inl refl))
among_used (m ∷ made) o (inr there) used = by m.in_use (among_used made o there used)
  where
    by : (b : Bool) → Among o.node (in_use made) → Among o.node (cond b (m.node ∷ in_use made) (in_use made))
    by true rest = inr rest
    by false rest = rest
