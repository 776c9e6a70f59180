-- What is seen of experts where the row of one is written.
use Rattle.std.proofs.Common.{◌≡◌, ◌∙◌, List, refl, ap, sym, subst, inl, inr, Option, Some, None, IsSome}
use Rattle.std.proofs.Common.{Bor}
use Rattle.std.specs.Borrow.{MutBor}
use Rattle.std.specs.Option.{option_copied_mut}
use Rattle.std.specs.Prelude.{IfNone, IfOk, IfSome, OnErr, Result, Ok, Err, is_some, option_copied}
use Rattle.inc_value.specs.declared.node.NodeId.{NodeId}
use Rattle.inc_value.specs.declared.node.Point.{Point}
use Rattle.point_map.proofs.Places.{point_cases}
use Rattle.point_map.specs.Rows.{Rows, Changes, at}
use Rattle.expert_nodes.specs.Experts.{Expert, ExpertPlace, ExpertChanges, KeepsExperts, expert_at, expert_in, expert_of, point_of}

-- one point's row is another
pub seen_changes : (old new : Rows Expert) (v : List ExpertPlace) (id : NodeId) (p : Point) (e : Option Expert) → old.places ≡ v → p ≡ point_of id
    → Changes old new p e → ExpertChanges v new.places id e
seen_changes old new v id p e view is changes = record {
  changed = ap (at new) (sym is) ∙ changes.changed;
  others = λ other d. changes.others (point_of other) (λ same. d (ap (λ x. x.node) (same ∙ is))) ∙ ap (λ places. expert_at places other) view;
}

-- what an expert is that has a row
pub expert_is : (m : Rows Expert) (v : List ExpertPlace) (id : NodeId) (p : Point) (was : Expert) → m.places ≡ v → p ≡ point_of id → Some was ≡ at m p
    → expert_of v id ≡ was
expert_is m v id p was view is there = ap expert_in (ap (λ places. expert_at places id) (sym view) ∙ ap (at m) (sym is) ∙ sym there)

module _ (old new : Rows Expert) (v : List ExpertPlace) (id : NodeId) (p : Point) (was now : Expert) (view : old.places ≡ v) (is : p ≡ point_of id)
    (there : Some was ≡ at old p) (changes : Changes old new p (Some now)) where
  -- it is another
  pub written_as : (f : Expert → Expert) → now ≡ f was → ExpertChanges v new.places id (Some (f (expert_of v id)))
  written_as f same = subst (λ e. ExpertChanges v new.places id (Some e)) (same ∙ ap f (sym (expert_is old v id p was view is there)))
      (seen_changes old new v id p (Some now) view is changes)

  -- it is what it was
  pub written_same : now ≡ was → KeepsExperts v new.places
  written_same same other = elim (point_cases (point_of other) p) [
    | inl here ↦ ap (at new) here ∙ changes.changed ∙ ap Some same ∙ there ∙ sym (ap (at old) here) ∙ ap (λ places. expert_at places other) view
    | inr d ↦ changes.others (point_of other) d ∙ ap (λ places. expert_at places other) view
  ]

pub there_at : (m : Rows Expert) (v : List ExpertPlace) (id : NodeId) (p : Point) → m.places ≡ v → p ≡ point_of id → IsSome (expert_at v id) → IsSome (at m p)
there_at m v id p view is h = subst (λ q. IsSome (at m q)) (sym is) (subst (λ places. IsSome (expert_at places id)) (sym view) h)

-- ---- answers

-- a reference is lent
pub some_mut : {A : Type 0} (o : Option (MutBor A)) (x : Option A) → option_copied_mut o ≡ x → IsSome x → IsSome o
some_mut None x e h = ap is_some e ∙ h
some_mut (Some b) x e h = refl

pub some_ref : {A : Type 0} (o : Option (Bor A)) (x : Option A) → option_copied o ≡ x → IsSome x → IsSome o
some_ref None x e h = ap is_some e ∙ h
some_ref (Some b) x e h = refl

pub on_err_to : {T E P Q : Type 0} (r : Result T E) → (P → Q) → OnErr r P → OnErr r Q
on_err_to (Ok x) f h = h
on_err_to (Err e) f h = f h

pub if_ok_to : {T E : Type 0} {P Q : T → Type 0} (r : Result T E) → ((x : T) → P x → Q x) → IfOk r P → IfOk r Q
if_ok_to (Ok x) f h = f x h
if_ok_to (Err e) f h = h

pub if_some_to : {A : Type 0} {P Q : A → Type 0} (o : Option A) → ((x : A) → P x → Q x) → IfSome o P → IfSome o Q
if_some_to None f h = h
if_some_to (Some x) f h = f x h

pub if_none_to : {A P Q : Type 0} (o : Option A) → (P → Q) → IfNone o P → IfNone o Q
if_none_to None f h = f h
if_none_to (Some x) f h = h
