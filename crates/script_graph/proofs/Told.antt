-- What a graph's observers are once they were told of a round, and what is told of them, as the script has it.
use Rattle.std.proofs.Common.{◌≡◌, ℕ, zero, suc, Bool, true, false, cond, List, [], ◌∷◌, ◌++◌, length, Option, None, Some, option_map, refl, ap, sym, subst, ◌∙◌, slice_get}
use Rattle.std.specs.List.{AllZip}
use Rattle.inc_value.specs.declared.node.NodeId.{NodeId}
use Rattle.inc_value.specs.declared.outcome.Outcome.{Outcome as GraphOutcome}
use Rattle.inc_terms.specs.Same as engine
use Rattle.inc_terms.proofs.Same.{outcome_decides}
use Rattle.observers.specs.Observers as graph
use Rattle.observers.specs.Observers.{after, in_use, looked_at, notice_of, tells, told_by, told_of}
use Rattle.observers.specs.declared.notice.Told.{Told as Telling}
use Rattle.observers.specs.declared.observer.Observer.{Observer as Looking}
use Rattle.script_model.specs.Formula.{State, Observer, Watch, Unwatched, Fresh, Told}
use Rattle.script_model.specs.Settle.{Notice, notices_of, showing, told_anew, watch_after}
use Rattle.script_model.specs.Values.{Outcome, Val, Invalid, same_outcome}
use Rattle.script_graph.specs.Kept.{node_in}
use Rattle.script_graph.specs.Represents.{graph_observer, graph_watch}
use Rattle.script_graph.specs.Stabilizing.{IsNotice}
use Rattle.script_graph.specs.Today.{IsDeclaredTarget, RefersTo}
use Rattle.script_graph.proofs.Building.{same_outcomes, outcome_itself}
use Rattle.transfer.specs.Both.{graph_outcome}

-- ---- observers

-- one keeps its node, and is in use or not as it was
node_after : (now : GraphOutcome) (o : Looking) → (after now o).node ≡ o.node
node_after now o = go o.in_use
  where
    go : (b : Bool) → (cond b (record { node = o.node; in_use = o.in_use; shown = Some now; watch = graph.watch_after o.watch now }) o).node ≡ o.node
    go true = refl
    go false = refl

used_after : (now : GraphOutcome) (o : Looking) → (after now o).in_use ≡ o.in_use
used_after now o = go o.in_use
  where
    go : (b : Bool) → (cond b (record { node = o.node; in_use = o.in_use; shown = Some now; watch = graph.watch_after o.watch now }) o).in_use ≡ o.in_use
    go true = refl
    go false = refl

module _ (shows : NodeId → GraphOutcome) where
  pub told_at : (os : List Looking) (j : ℕ) → slice_get (told_by shows os) j ≡ option_map (λ (o : Looking). after (shows o.node) o) (slice_get os j)
  told_at [] j = refl
  told_at (o ∷ os) zero = refl
  told_at (o ∷ os) (suc j) = told_at os j

  pub told_length : (os : List Looking) → length (told_by shows os) ≡ length os
  told_length [] = refl
  told_length (o ∷ os) = ap suc (told_length os)

  pub told_in_use : (os : List Looking) → in_use (told_by shows os) ≡ in_use os
  told_in_use [] = refl
  told_in_use (o ∷ os) =
      λ i. cond (used_after (shows o.node) o i) (node_after (shows o.node) o i ∷ told_in_use os i) (told_in_use os i)

  pub told_looked : (o : Option Looking) → looked_at (option_map (λ (x : Looking). after (shows x.node) x) o) ≡ looked_at o
  told_looked None = refl
  told_looked (Some o) = λ i. cond (used_after (shows o.node) o i) (Some (node_after (shows o.node) o i)) None

  -- nothing is told of one that isn't in use
  pub none_told : (o : Looking) → looked_at (Some o) ≡ None → told_of (shows o.node) o ≡ None
  none_told o e = go o.in_use e
    where
      go : (b : Bool) → cond b (Some o.node) None ≡ None → cond b (tells o.watch (shows o.node)) None ≡ None
      go true e = absurd (cc)
      go false e = refl

-- ---- as the script has them

watch_told : (nodes : ℕ → NodeId) (w : Watch) (p : Outcome) → graph.watch_after (graph_watch nodes w) (graph_outcome nodes p) ≡ graph_watch nodes (watch_after w p)
watch_told nodes Unwatched p = refl
watch_told nodes Fresh p = refl
watch_told nodes (Told was) p = refl

-- where a target's node shows what the target gives, its observer is told of that
pub after_is : (nodes : ℕ → NodeId) (x : Observer) (p : Outcome) → after (graph_outcome nodes p) (graph_observer nodes x) ≡ graph_observer nodes (showing x p)
after_is nodes x p = λ i. record { node = nodes x.target; in_use = true; shown = Some (graph_outcome nodes p); watch = watch_told nodes x.watch p i }

-- what was told last is what is shown
pub last_told : (w : Watch) (p q : Outcome) → watch_after w p ≡ Told q → p ≡ q
last_told Unwatched p q e = absurd (cc)
last_told Fresh p q e = cc
last_told (Told was) p q e = cc

-- outcomes that the graph tells apart the script tells apart
pub same_in_both : (nodes : ℕ → NodeId) (o p : Outcome) → (graph_outcome nodes o ≡ graph_outcome nodes p → o ≡ p)
    → engine.same_outcome (graph_outcome nodes o) (graph_outcome nodes p) ≡ same_outcome o p
same_in_both nodes o p one =
    go (engine.same_outcome (graph_outcome nodes o) (graph_outcome nodes p)) (same_outcome o p) refl refl
  where
    go : (a b : Bool) → engine.same_outcome (graph_outcome nodes o) (graph_outcome nodes p) ≡ a → same_outcome o p ≡ b → a ≡ b
    go true true is has = refl
    go false false is has = refl
    go true false is has =
        let same : o ≡ p = one ((outcome_decides (graph_outcome nodes o) (graph_outcome nodes p)).0 is) in
        absurd (let yes' : same_outcome o p ≡ true = subst (λ (z : Outcome). same_outcome o z ≡ true) same (outcome_itself o) in
        let clash : true ≡ false = sym yes' ∙ has in cc)
    go false true is has =
        let same = ap (graph_outcome nodes) (same_outcomes o p has) in
        absurd (let decided = (outcome_decides (graph_outcome nodes o) (graph_outcome nodes p)).1 same in
        let clash : true ≡ false = sym decided ∙ is in cc)

-- ---- notices

pub zip_more : {A B : Type 0} (R : A → B → Type 0) (xs zs : List A) (ys ws : List B) → AllZip R xs ys → AllZip R zs ws → AllZip R (xs ++ zs) (ys ++ ws)
zip_more R [] zs [] ws first rest = rest
zip_more R [] zs (y ∷ ys) ws first rest = absurd first
zip_more R (x ∷ xs) zs [] ws first rest = absurd first
zip_more R (x ∷ xs) zs (y ∷ ys) ws first rest = (first.0, zip_more R xs zs ys ws first.1 rest)

module _ (s : State) (nodes : List NodeId) (made : List (Option Observer)) (i : ℕ) (x : Observer) (p : Outcome)
    (there : slice_get made i ≡ Some (Some (showing x p))) (refers : RefersTo (IsDeclaredTarget s) p) where
  abbrev AreNotices : Option Telling → List Notice → Type 0
  AreNotices t notices = AllZip (IsNotice s nodes made) (notice_of i t) notices

  changed : (was q : Outcome) → q ≡ p → RefersTo (IsDeclaredTarget s) was
      → AreNotices (Some (graph.change (graph_outcome (node_in nodes) was) (graph_outcome (node_in nodes) q))) (told_anew x.name was q)
  changed was (Val v) is told =
      (record { observer = showing x p; is_there = there; named = refl; same = refl; refers = (told, subst (RefersTo (IsDeclaredTarget s)) (sym is) refers) }, tt)
  changed was Invalid is told = (record { observer = showing x p; is_there = there; named = refl; same = refl; refers = tt }, tt)

  by_both : (was : Outcome) (b c : Bool) → b ≡ c → RefersTo (IsDeclaredTarget s) was
      → AreNotices (cond b None (Some (graph.change (graph_outcome (node_in nodes) was) (graph_outcome (node_in nodes) p))))
      (elim c [ true ↦ [] | false ↦ told_anew x.name was p ])
  by_both was true true e told = tt
  by_both was false false e told = changed was p refl told
  by_both was true false e told = absurd (cc)
  by_both was false true e told = absurd (cc)

  -- what is told of an observer that is watched so is what the script tells
  pub one_told : (w : Watch)
      → ((was : Outcome) → w ≡ Told was → engine.same_outcome (graph_outcome (node_in nodes) was) (graph_outcome (node_in nodes) p) ≡ same_outcome was p)
      → ((was : Outcome) → w ≡ Told was → RefersTo (IsDeclaredTarget s) was)
      → AreNotices (tells (graph_watch (node_in nodes) w) (graph_outcome (node_in nodes) p)) (notices_of x.name w p)
  one_told Unwatched apart told = tt
  one_told Fresh apart told = (record { observer = showing x p; is_there = there; named = refl; same = refl; refers = refers }, tt)
  one_told (Told was) apart told =
      by_both was (engine.same_outcome (graph_outcome (node_in nodes) was) (graph_outcome (node_in nodes) p)) (same_outcome was p)
      (apart was refl) (told was refl)
