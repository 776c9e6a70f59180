-- A point with all its links is exact where they are.
use Rattle.std.proofs.Common.{◌≡◌, ◌⊎◌, inl, inr, ℕ, zero, suc, ◌<◌, Option, Some, refl, arith}
use Rattle.inc_value.specs.declared.node.NodeId.{NodeId}
use Rattle.inc_value.specs.declared.node.Part.TheVariants.{Main}
use Rattle.inc_value.specs.declared.node.Point.{Point}
use Rattle.inc_value.specs.declared.outcome.Outcome.{Outcome}
use Rattle.inc_value.specs.Choice.{Among}
use Rattle.inc_terms.specs.Term.{Functions}
use Rattle.inc_terms.specs.Graph.{Graph, Row}
use Rattle.inc_terms.specs.Depend.{Depends, gate, ghost, fixed, right, main, change, subject_of, fixed_reads, rights_of, none_died}
use Rattle.inc_terms.specs.Local.{Agrees, Exact, HasRun, Scoped}
use Rattle.inc_terms.specs.Plan.{gate_of, plan}
use Rattle.inc_terms.proofs.Evaluation.{one_outcome}
use Rattle.inc_terms.proofs.Local.{exact_at}
use Rattle.inc_terms.proofs.Plan.{among_left, among_right, among_map}

module _ (F : Functions) (G : Graph) (out : Point → Option Outcome) (scoped : Scoped G) (p : Point) (agrees : Agrees F G out p) where
  module _ (r : Row) (row : G.row p.node ≡ Some r) (links : (q : Point) → Among q (plan G out p r) → Exact F G out q) where
    own_run : p.part ≡ Main → (s : NodeId) → subject_of r.def ≡ Some s → HasRun F G out p.node r.def s
    own_run part s sub =
        (links (change p.node) (among_right (change p.node) (gate_of r.scope) _
        (among_left (change p.node) (fixed_reads G p.node r.def p.part) _ (rw (part, sub) (inl refl)))) r row).1 s sub

    below : (q : Point) → Depends F G none_died p q → Exact F G out q
    below q (gate {r = r'} {b} e s is) =
        let same : r' ≡ r = cc in
        let scope : r.scope ≡ Some b = rw (← same) s in
        links q (among_left q (gate_of r.scope) _ (rw (scope, is) (inl refl)))
    below q (ghost e d is) = absurd (cc)
    below q (fixed {r = r'} e st among) =
        let same : r' ≡ r = cc in
        links q (among_right q (gate_of r.scope) _ (among_left q (fixed_reads G p.node r.def p.part) _ (rw (← same) among)))
    below q (right {r = r'} {s} {o} {m} e st part sub gives at is) =
        let same : r' ≡ r = cc in
        let sub' : subject_of r.def ≡ Some s = rw (← same) sub in
        let ran = own_run part s sub' in
        let os : o ≡ ran.0 = one_outcome F G _ o ran.0 gives ran.2 in
        let at' : Among m (rights_of G p.node r.def ran.0) = rw (← os, ← same) at in
        links q (among_right q (gate_of r.scope) _
        (among_right q (fixed_reads G p.node r.def p.part) _ (rw (part, ran.1, is) (among_map main m (rights_of G p.node r.def ran.0) at'))))

  pub full_exact : ((r : Row) → G.row p.node ≡ Some r → (q : Point) → Among q (plan G out p r) → Exact F G out q) → Exact F G out p
  full_exact links r row = exact_at F G out scoped p agrees (below r row (links r row)) r row

-- ---- by heights

module _ (F : Functions) (G : Graph) (out : Point → Option Outcome) (scoped : Scoped G) (height : Point → ℕ) (Low : Point → Type 0)
    (known : (p : Point) → Low p → Exact F G out p ⊎
    (Agrees F G out p × ((r : Row) → G.row p.node ≡ Some r → (q : Point) → Among q (plan G out p r) → Low q × (height q < height p)))) where
  below_height : (n : ℕ) (p : Point) → height p < n → Low p → Exact F G out p
  below_height zero p le low = absurd (omega arith)
  below_height (suc n) p le low = elim (known p low) [
    | inl e ↦ e
    | inr h ↦ full_exact F G out scoped p h.0 (λ r row q among. let k = h.1 r row q among in below_height n q (omega (arith, k.1)) k.0)
  ]

  -- where each low point is exact, or agrees and has links to lower ones alone that are low too, all of them are exact
  pub low_exact : (p : Point) → Low p → Exact F G out p
  low_exact p low = below_height (suc (height p)) p (omega arith) low
