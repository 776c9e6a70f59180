-- A point's planned links as outcomes change, what looks at a change, and what a node was last called on.
use Rattle.std.proofs.Common.{◌≡◌, inl, inr, List, [], ◌∷◌, ◌++◌, map, Option, None, Some, refl, sym, subst, ap, ◌∙◌}
use Rattle.inc_value.specs.declared.node.NodeId.{NodeId}
use Rattle.inc_value.specs.declared.node.Part.{Part}
use Rattle.inc_value.specs.declared.node.Part.TheVariants.{Change, Main}
use Rattle.inc_value.specs.declared.node.Point.{Point}
use Rattle.inc_value.specs.declared.outcome.Outcome.{Outcome}
use Rattle.inc_value.specs.Choice.{Among}
use Rattle.inc_terms.specs.Term.{Functions}
use Rattle.inc_terms.specs.Graph.{Graph, Row, Def}
use Rattle.inc_terms.specs.Depend.{main, change, fixed_reads, main_reads, change_reads, kids_of, subject_of, rights_of}
use Rattle.inc_terms.specs.Work.{taken_by}
use Rattle.stabilize_round.specs.Invariant.{Recalls}
use Rattle.stabilize_round.proofs.Calling.{main_taken}
use Rattle.stabilize_round.specs.State.{Call, Stage, Bare, Gated, Static, Full, live_plan, plan_at}
use Rattle.inc_terms.specs.Plan.{gate_of, targets, right_links}
use Rattle.inc_terms.proofs.Plan.{among_parts}
use Rattle.inc_terms.proofs.Seeing.{gathered_same, looks}

module _ (G : Graph) (out out' : Point → Option Outcome) where
  rights_same : (n : NodeId) (def : Def) (part : Part) → out' (change n) ≡ out (change n)
      → right_links G out' n def part ≡ right_links G out n def part
  rights_same n def Change e = refl
  rights_same n def Main e = ap (λ (x : Option Outcome). targets G n def x) e

  pub live_same : (p : Point) (r : Row) (st : Stage) → out' (change p.node) ≡ out (change p.node) → live_plan G out' p r st ≡ live_plan G out p r st
  live_same p r Bare e = refl
  live_same p r Gated e = refl
  live_same p r Static e = refl
  live_same p r Full e = ap (λ (x : List Point). gate_of r.scope ++ (fixed_reads G p.node r.def p.part ++ x)) (rights_same p.node r.def p.part e)

  pub plan_low : (died : NodeId → Option NodeId) (p : Point) (x : Option Row) (st : Stage) → (st ≡ Full → ⊥)
      → plan_at G out' died p x st ≡ plan_at G out died p x st
  plan_low died p None st h = refl
  plan_low died p (Some r) Bare h = refl
  plan_low died p (Some r) Gated h = refl
  plan_low died p (Some r) Static h = refl
  plan_low died p (Some r) Full h = absurd (h refl)

  no_rights : (n : NodeId) (def : Def) (part : Part) → part ≡ Change → right_links G out' n def part ≡ right_links G out n def part
  no_rights n def Change e = refl
  no_rights n def Main e = absurd (cc)

  pub plan_change : (died : NodeId → Option NodeId) (p : Point) (x : Option Row) (st : Stage) → p.part ≡ Change
      → plan_at G out' died p x st ≡ plan_at G out died p x st
  plan_change died p None st h = refl
  plan_change died p (Some r) Bare h = refl
  plan_change died p (Some r) Gated h = refl
  plan_change died p (Some r) Static h = refl
  plan_change died p (Some r) Full h = ap (λ (x : List Point). gate_of r.scope ++ (fixed_reads G p.node r.def p.part ++ x))
      (no_rights p.node r.def p.part h)

  pub plan_same : (died : NodeId → Option NodeId) (p : Point) (x : Option Row) (st : Stage) → out' (change p.node) ≡ out (change p.node)
      → plan_at G out' died p x st ≡ plan_at G out died p x st
  plan_same died p None st e = refl
  plan_same died p (Some r) st e = live_same p r st e

-- ---- a change is looked at by its own main alone

not_mapped : (n : NodeId) (ns : List NodeId) → Among (change n) (map main ns) → ⊥
not_mapped n [] h = h
not_mapped n (m ∷ ms) (inl e) = let x : Change ≡ Main = ap (λ (p : Point). p.part) e in cc
not_mapped n (m ∷ ms) (inr h) = not_mapped n ms h

by_fixed : (G : Graph) (m n : NodeId) (def : Def) (part : Part) → Among (change n) (fixed_reads G m def part) → (part ≡ Main) × (n ≡ m)
by_fixed G m n def Main h = (refl, by_main (subject_of def) h)
  where
    by_main : (x : Option NodeId) → Among (change n) (main_reads m x (kids_of G m def)) → n ≡ m
    by_main None a = absurd (not_mapped n (kids_of G m def) a)
    by_main (Some k) (inl e) = ap (λ (p : Point). p.node) e
    by_main (Some k) (inr a) = absurd a
by_fixed G m n def Change h = absurd (by_change (subject_of def) h)
  where
    by_change : (x : Option NodeId) → Among (change n) (change_reads x) → ⊥
    by_change None a = a
    by_change (Some k) (inl e) = let x : Change ≡ Main = ap (λ (p : Point). p.part) e in cc
    by_change (Some k) (inr a) = a

by_right : (G : Graph) (out : Point → Option Outcome) (m n : NodeId) (def : Def) (part : Part) → Among (change n) (right_links G out m def part) → ⊥
by_right G out m n def Change h = h
by_right G out m n def Main h = by_target (out (change m)) h
  where
    by_target : (x : Option Outcome) → Among (change n) (targets G m def x) → ⊥
    by_target None a = a
    by_target (Some o) a = not_mapped n (rights_of G m def o) a

pub looks_main : (G : Graph) (out : Point → Option Outcome) (p : Point) (n : NodeId) (r : Row) → Among (change n) (looks G out p r) → main n ≡ p
looks_main G out p n r h = elim (among_parts (change n) (fixed_reads G p.node r.def p.part) _ h) [
  | inl a ↦ let x = by_fixed G p.node n r.def p.part a in λ i. record { node = x.1 i; part = (sym x.0) i }
  | inr a ↦ absurd (by_right G out p.node n r.def p.part a)
]

-- ---- what it was last called on

pub reads_taken : (G : Graph) (n : NodeId) (def : Def) (kids : List NodeId) (q : Point) → taken_by G n def ≡ Some kids
    → Among q (map main kids) → Among q (fixed_reads G n def Main)
reads_taken G n def kids q e a = subst (λ (ps : List Point). Among q ps) (sym (main_taken G n def kids e)) a

pub recalls_same : (F : Functions) (G G' : Graph) (see see' : Point → Option Outcome) (last last' : NodeId → Option Call) (p : Point) (r : Row)
    → G.row p.node ≡ Some r → G'.row p.node ≡ Some r → taken_by G' p.node r.def ≡ taken_by G p.node r.def
    → ((q : Point) → Among q (fixed_reads G p.node r.def p.part) → see' q ≡ see q) → (p.part ≡ Main → last' p.node ≡ last p.node)
    → Recalls G see last p → Recalls G' see' last' p
recalls_same F G G' see see' last last' p r row row' taken seen kept recalls r' kids values at_row part def shows =
    let same : r' ≡ r = cc in
    let def' : taken_by G p.node r.def ≡ Some kids = sym taken ∙ rw (← same) def in
    let e = gathered_same F G see see' kids (λ q a. seen q (rw part (reads_taken G p.node r.def kids q def' a))) in
    let c = recalls r kids values row part def' (sym e ∙ shows) in
    (c.0, kept part ∙ c.1, c.2)
