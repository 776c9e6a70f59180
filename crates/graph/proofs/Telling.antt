-- Observers once they were told of a round.
use Rattle.std.proofs.Common.{◌≡◌, inl, inr, ℕ, zero, suc, Bool, true, false, cond, List, [], ◌∷◌, length, None, Some, refl, sym, ap, ◌∙◌}
use Rattle.std.specs.Prelude.{slice_get}
use Rattle.inc_value.specs.declared.node.NodeId.{NodeId}
use Rattle.inc_value.specs.declared.outcome.Outcome.{Outcome}
use Rattle.inc_value.specs.Choice.{Among}
use Rattle.observers.specs.Observers.{after, in_use, looked_at, told_by, watch_after}
use Rattle.observers.specs.declared.observer.Observer.{Observer}

-- an observer in use as it shows this
abbrev pub shows_as : Outcome → Observer → Observer
shows_as now o = record { node = o.node; in_use = o.in_use; shown = Some now; watch = watch_after o.watch now }

used_by : (b : Bool) (p o : Observer) → p.in_use ≡ o.in_use → (cond b p o).in_use ≡ o.in_use
used_by true p o e = e
used_by false p o e = refl

node_by : (b : Bool) (p o : Observer) → p.node ≡ o.node → (cond b p o).node ≡ o.node
node_by true p o e = e
node_by false p o e = refl

pub after_used : (now : Outcome) (o : Observer) → (after now o).in_use ≡ o.in_use
after_used now o = used_by o.in_use (shows_as now o) o refl

pub after_node : (now : Outcome) (o : Observer) → (after now o).node ≡ o.node
after_node now o = node_by o.in_use (shows_as now o) o refl

module _ (shows : NodeId → Outcome) where
  -- the same are in use
  pub in_use_told : (os : List Observer) → in_use (told_by shows os) ≡ in_use os
  in_use_told [] = refl
  in_use_told (o ∷ os) =
      ap (λ (b : Bool). cond b ((after (shows o.node) o).node ∷ in_use (told_by shows os)) (in_use (told_by shows os))) (after_used (shows o.node) o)
      ∙ (ap (λ (n : NodeId). cond o.in_use (n ∷ in_use (told_by shows os)) (in_use (told_by shows os))) (after_node (shows o.node) o)
      ∙ ap (λ (ns : List NodeId). cond o.in_use (o.node ∷ ns) ns) (in_use_told os))

  pub length_told : (os : List Observer) → length (told_by shows os) ≡ length os
  length_told [] = refl
  length_told (o ∷ os) = ap suc (length_told os)

  -- each looks at the node that it looked at
  pub looked_told : (os : List Observer) (i : ℕ) → looked_at (slice_get (told_by shows os) i) ≡ looked_at (slice_get os i)
  looked_told [] i = refl
  looked_told (o ∷ os) zero =
      ap (λ (b : Bool). cond b (Some (after (shows o.node) o).node) None) (after_used (shows o.node) o)
      ∙ ap (λ (n : NodeId). cond o.in_use (Some n) None) (after_node (shows o.node) o)
  looked_told (o ∷ os) (suc i) = looked_told os i

  -- one in use shows what its node shows
  pub record IsTold (os : List Observer) (o : Observer) : Type 0 where
    pub one : Observer
    pub among : Among one os
    pub used : one.in_use ≡ true
    pub node : o.node ≡ one.node
    pub shown : o.shown ≡ Some (shows one.node)

  first_told : (p : Observer) (os : List Observer) (o : Observer) (b : Bool) → p.in_use ≡ b → o ≡ cond b (shows_as (shows p.node) p) p → o.in_use ≡ true
      → IsTold (p ∷ os) o
  first_told p os o true is e used = record {
    one = p;
    among = inl refl;
    used = is;
    node = ap (λ (q : Observer). q.node) e;
    shown = ap (λ (q : Observer). q.shown) e;
  }
  first_told p os o false is e used = absurd (let clash : true ≡ false = sym used ∙ (ap (λ (q : Observer). q.in_use) e ∙ is) in cc)

  pub told_user : (os : List Observer) (o : Observer) → Among o (told_by shows os) → o.in_use ≡ true → IsTold os o
  told_user [] o h used = absurd h
  told_user (p ∷ os) o (inl e) used = first_told p os o p.in_use refl e used
  told_user (p ∷ os) o (inr h) used =
      let t = told_user os o h used in record { one = t.one; among = inr t.among; used = t.used; node = t.node; shown = t.shown }
