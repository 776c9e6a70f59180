-- What points are owed beside the one in hand, and how that stays.
use Rattle.std.proofs.Common.{◌≡◌, inl, inr, ◌&&◌, Bool, true, false, cond, List, [], map, Option, None, Some, refl, sym, ap, subst, ◌∙◌}
use Rattle.inc_value.specs.declared.node.NodeId.{NodeId}
use Rattle.inc_value.specs.declared.node.Point.{Point}
use Rattle.std.specs.Prelude.{IsTrue, is_some, ◌↔◌}
use Rattle.inc_terms.specs.Depend.{main, change, subject_of}
use Rattle.inc_terms.specs.Graph.{Def, Expert, Row}
use Rattle.point_map.specs.Rows.{at}
use Rattle.expert_nodes.specs.Experts.{ExpertPlace, fresh_at}
use Rattle.node_arena.specs.Arena.{Arena, row_at}
use Rattle.stabilize_round.specs.State.{at_point, count}
use Rattle.stabilize_round.proofs.Points.{same_or_other, at_same, at_other}
use Rattle.node_outcomes.specs.Computing.{AreExperts, is_expert, is_expert_def}
use Rattle.node_outcomes.specs.Row.{is_full, stage_in}
use Rattle.node_outcomes.specs.Progress.{Progress}
use Rattle.node_outcomes.specs.declared.row.Stage.{Stage}
use Rattle.node_outcomes.specs.declared.row.Stage.TheVariants as code
use Rattle.wiring.specs.Stands.{PointInHand, owed_in, owes}
use Rattle.wiring.specs.declared.work.Work.{Work}
use Rattle.wiring.proofs.Deciding.{not_both}
use Rattle.wiring.proofs.InHand.{nothing}
use Rattle.wiring.proofs.Reading.{absent_fresh}

-- ---- by row, list and need

cond_none : (b : Bool) (xs : List Point) → xs ≡ [] → cond b xs [] ≡ []
cond_none true xs e = e
cond_none false xs e = refl

-- a row and a list that stay
pub owes_same : (old new : Work) (needed : Bool) (p : Point) → at new.rows p ≡ at old.rows p → fresh_at new.experts p.node ≡ fresh_at old.experts p.node
    → owes new needed p ≡ owes old needed p
owes_same old new needed p row fresh =
    ap (λ (x : Option Progress). cond (needed && is_full (stage_in x)) (map main (fresh_at new.experts p.node)) []) row
    ∙ ap (λ (xs : List NodeId). cond (needed && is_full (stage_in (at old.rows p))) (map main xs) []) fresh

-- without all its links a point is owed nothing
pub owes_partly : (work : Work) (needed : Bool) (p : Point) → is_full (stage_in (at work.rows p)) ≡ false → owes work needed p ≡ []
owes_partly work needed p not = by needed (is_full (stage_in (at work.rows p))) not
  where
    by : (n f : Bool) → f ≡ false → cond (n && f) (map main (fresh_at work.experts p.node)) [] ≡ []
    by true false e = refl
    by false false e = refl
    by n true e = absurd (cc)

-- nor where nothing is fresh
pub owes_none : (work : Work) (needed : Bool) (p : Point) → fresh_at work.experts p.node ≡ [] → owes work needed p ≡ []
owes_none work needed p none =
    cond_none (needed && is_full (stage_in (at work.rows p))) (map main (fresh_at work.experts p.node)) (ap (map main) none)

-- nor where it isn't needed
pub owes_unneeded : (work : Work) (needed : Bool) (p : Point) → needed ≡ false → owes work needed p ≡ []
owes_unneeded work needed p not = ap (λ (b : Bool). owes work b p) not

-- a needed point with all its links is owed those to what is fresh
pub owes_fresh : (work : Work) (p : Point) → stage_in (at work.rows p) ≡ Some code.Full → owes work true p ≡ map main (fresh_at work.experts p.node)
owes_fresh work p full = ap (λ (x : Option Stage). cond (is_full x) (map main (fresh_at work.experts p.node)) []) full

-- needed or not
pub owes_whoever : (work : Work) (needed : Bool) (p : Point) → owes work true p ≡ [] → owes work needed p ≡ []
owes_whoever work true p none = none
owes_whoever work false p none = refl

-- only experts have fresh nodes
pub plain_fresh : (arena : Arena) (experts : List ExpertPlace) → AreExperts arena experts → (n : NodeId) → is_expert (row_at arena n) ≡ false
    → fresh_at experts n ≡ []
plain_fresh arena experts are n not = absent_fresh experts n (are n ∙ not)

-- so none of two points has
pub two_fresh : (arena : Arena) (experts : List ExpertPlace) → AreExperts arena experts → (n : NodeId) (r : Row) → row_at arena n ≡ Some r
    → is_some (subject_of r.def) ≡ true → fresh_at experts n ≡ []
two_fresh arena experts are n r row two = plain_fresh arena experts are n (ap is_expert row ∙ by r.def two)
  where
    by : (d : Def) → is_some (subject_of d) ≡ true → is_expert_def d ≡ false
    by (Expert f v ns) e = absurd (cc)
    by _ e = refl

-- a stage that isn't full
pub stage_partly : (x : Option Stage) (st : Stage) → x ≡ Some st → (st ≡ code.Full → ⊥) → is_full x ≡ false
stage_partly x code.Bare e not = ap is_full e
stage_partly x code.Gated e not = ap is_full e
stage_partly x code.Static e not = ap is_full e
stage_partly x code.Full e not = absurd (not refl)

-- so it is without its links at a lower stage
pub owes_staged : (work : Work) (needed : Bool) (p : Point) (st : Stage) → stage_in (at work.rows p) ≡ Some st → (st ≡ code.Full → ⊥)
    → owes work needed p ≡ []
owes_staged work needed p st e not = owes_partly work needed p (stage_partly (stage_in (at work.rows p)) st e not)

pub full_or_not : (x : Option Stage) → (x ≡ Some code.Full → ⊥) → is_full x ≡ false
full_or_not None not = refl
full_or_not (Some code.Full) not = absurd (not refl)
full_or_not (Some code.Bare) not = refl
full_or_not (Some code.Gated) not = refl
full_or_not (Some code.Static) not = refl

-- nor without any
pub owes_bare : (work : Work) (needed : Bool) (p : Point) → stage_in (at work.rows p) ≡ Some code.Bare → owes work needed p ≡ []
owes_bare work needed p e = owes_staged work needed p code.Bare e (λ same. cc)

-- nor where a test finds that it hasn't all
pub owes_unless : (work : Work) (p : Point) (b : Bool) → IsTrue b ↔ (stage_in (at work.rows p) ≡ Some code.Full) → b ≡ false → owes work true p ≡ []
owes_unless work p b tells f = owes_partly work true p (full_or_not (stage_in (at work.rows p)) (λ full. not_both b f (tells.1 full)))

-- no change is owed
no_change_in : (n : NodeId) (ns : List NodeId) → count (change n) (map main ns) ≡ 0 → (b : Bool) → count (change n) (cond b (map main ns) []) ≡ 0
no_change_in n ns none true = none
no_change_in n ns none false = refl

pub owes_no_change : (work : Work) (needed : Bool) (p : Point) (n : NodeId) → count (change n) (map main (fresh_at work.experts p.node)) ≡ 0
    → count (change n) (owes work needed p) ≡ 0
owes_no_change work needed p n none = no_change_in n (fresh_at work.experts p.node) none (needed && is_full (stage_in (at work.rows p)))

-- ---- beside what is in hand

-- a point is owed what it is by itself, unless it is in hand
pub owed_at : (f g : Point → List Point) (held : Option PointInHand) (a : Point) → f a ≡ g a → owed_in f held a ≡ owed_in g held a
owed_at f g None a same = same
owed_at f g (Some h) a same = elim (same_or_other h.point a) [
  | inl e ↦ subst (λ (x : Point). at_point h.point h.owed f x ≡ at_point h.point h.owed g x) e
      (at_same h.point h.owed f ∙ sym (at_same h.point h.owed g))
  | inr ne ↦ at_other h.point h.owed f a ne ∙ (same ∙ sym (at_other h.point h.owed g a ne))
]

-- what is in hand is as it is, whatever others are owed
pub owed_same : (f g : Point → List Point) (held : Option PointInHand) → ((a : Point) → f a ≡ g a) → (a : Point) → owed_in f held a ≡ owed_in g held a
owed_same f g held same a = owed_at f g held a (same a)

-- who is taken in hand with what it is owed is owed that
pub owed_taken : (f : Point → List Point) (p : Point) (owed : List Point) → f p ≡ owed → (a : Point) → at_point p owed f a ≡ f a
owed_taken f p owed is a = elim (same_or_other p a) [
  | inl e ↦ subst (λ (x : Point). at_point p owed f x ≡ f x) e (at_same p owed f ∙ sym is)
  | inr ne ↦ at_other p owed f a ne
]

-- what the point in hand is owed is put in the place of what it was owed
pub owed_put : (f g : Point → List Point) (p : Point) (before owed : List Point) → ((a : Point) → (p ≡ a → ⊥) → g a ≡ f a)
    → (s : Point → List Point) → ((a : Point) → s a ≡ at_point p before f a) → (a : Point) → at_point p owed s a ≡ at_point p owed g a
owed_put f g p before owed others s is a = elim (same_or_other p a) [
  | inl e ↦ subst (λ (x : Point). at_point p owed s x ≡ at_point p owed g x) e (at_same p owed s ∙ sym (at_same p owed g))
  | inr ne ↦ at_other p owed s a ne ∙ (is a ∙ (at_other p before f a ne ∙ (sym (others a ne) ∙ sym (at_other p owed g a ne))))
]

-- of one that is owed nothing beside the hand, the hand tells
pub owed_idle : (f : Point → List Point) (held : Option PointInHand) (q : Point) → f q ≡ [] → owed_in f held q ≡ owed_in nothing held q
owed_idle f held q none = owed_at f nothing held q none
