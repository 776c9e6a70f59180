-- What moves that take links off leave, and who is still needed then.
use Rattle.std.proofs.Common.{◌≡◌, ◌⊎◌, inl, inr, ℕ, ◌<◌, ◌++◌, true, Option, None, Some, refl, sym, ap, subst, ◌∙◌, arith}
use Rattle.std.proofs.lemmas.Option.{none-some}
use Rattle.inc_value.specs.declared.node.NodeId.{NodeId}
use Rattle.inc_value.specs.declared.node.Part.TheVariants.{Main}
use Rattle.inc_value.specs.declared.node.Point.{Point}
use Rattle.inc_value.specs.declared.outcome.Outcome.{Outcome}
use Rattle.inc_value.specs.Choice.{Among, Reaches, here, step}
use Rattle.inc_terms.specs.Depend.{main, change, subject_of, fixed_reads}
use Rattle.inc_terms.specs.Graph.{Graph, Row}
use Rattle.inc_terms.specs.Plan.{gate_of, right_links}
use Rattle.inc_terms.specs.Rebuild.{Inside, direct, nested}
use Rattle.inc_terms.specs.Term.{Functions}
use Rattle.stabilize_round.specs.Invariant.{Invariant}
use Rattle.stabilize_round.specs.Machine as move
use Rattle.stabilize_round.specs.Machine.{Move}
use Rattle.stabilize_round.specs.Moves.{Quiet}
use Rattle.stabilize_round.specs.State as machine
use Rattle.stabilize_round.specs.State.{State, Start, count, planned, plan_at, live_plan}
use Rattle.stabilize_round.specs.Steps.{TakesOff as OffMove, TakingOff, Prepares, Preparing}
use Rattle.stabilize_round.proofs.Parts.{reaches_map}
use Rattle.stabilize_round.proofs.Points.{at_other, count_append, among_count}
use Rattle.wiring.proofs.PuttingBack.{gate_once}
use Rattle.wiring.proofs.Raising.{Keeps}

-- ---- moves that take links off

-- they leave heights, the worklist and roots, and the stages of points of dead nodes
pub record Leaves (s t : State) : Type 0 where
  pub graph : t.graph ≡ s.graph
  pub height : t.height ≡ s.height
  pub todo : t.todo ≡ s.todo
  pub root : t.root ≡ s.root
  pub dead : (p : Point) → s.graph.row p.node ≡ None → t.stage p ≡ s.stage p

leaves_self : (s : State) → Leaves s s
leaves_self s = record { graph = refl; height = refl; todo = refl; root = refl; dead = λ p e. refl }

leaves_then : (s t u : State) → Leaves s t → Leaves t u → Leaves s u
leaves_then s t u a b = record {
  graph = b.graph ∙ a.graph;
  height = b.height ∙ a.height;
  todo = b.todo ∙ a.todo;
  root = b.root ∙ a.root;
  dead = λ p e. b.dead p (ap (λ (G : Graph). G.row p.node) a.graph ∙ e) ∙ a.dead p e;
}

off_leaves_one : (F : Functions) (z : Start) (s t : State) (m : Move F z s t) → OffMove m → Leaves s t
off_leaves_one F z s t (move.schedule x e) h = subst (λ (u : State). Leaves s u) (sym e)
    (record { graph = refl; height = refl; todo = refl; root = refl; dead = λ p none. refl })
off_leaves_one F z s t (move.cut {p = q} {r = r} {st = st} d w e) h = subst (λ (u : State). Leaves s u) (sym e) (record {
  graph = refl;
  height = refl;
  todo = refl;
  root = refl;
  dead = λ p none. at_other q st s.stage p (λ same. none-some r (sym none ∙ subst (λ (x : Point). s.graph.row x.node ≡ Some r) same d.row));
})
off_leaves_one F z s t (move.step_main q x e) h = absurd h
off_leaves_one F z s t (move.step_change q x e) h = absurd h
off_leaves_one F z s t (move.link x n e) h = absurd h
off_leaves_one F z s t (move.link_new x n k e) h = absurd h
off_leaves_one F z s t (move.root n e) h = absurd h
off_leaves_one F z s t (move.root_new g n k e) h = absurd h
off_leaves_one F z s t (move.raise x e) h = absurd h
off_leaves_one F z s t (move.finish x e) h = absurd h
off_leaves_one F z s t (move.rebuild r b k e) h = absurd h
off_leaves_one F z s t (move.level x e) h = absurd h
off_leaves_one F z s t (move.spend u k e) h = absurd h

pub off_leaves : (F : Functions) (z : Start) (s t : State) → Reaches (TakingOff F z) s t → Leaves s t
off_leaves F z s t here = leaves_self s
off_leaves F z s t (step {b = u} m rest) = leaves_then s u t (off_leaves_one F z s u m.0 m.1) (off_leaves F z u t rest)

-- they may come before a point is settled
prepares_one : (F : Functions) (z : Start) (p : Point) (s t : State) (m : Move F z s t) → OffMove m → Prepares p m
prepares_one F z p s t (move.schedule x e) h = tt
prepares_one F z p s t (move.cut d w e) h = tt
prepares_one F z p s t (move.step_main q x e) h = absurd h
prepares_one F z p s t (move.step_change q x e) h = absurd h
prepares_one F z p s t (move.link x n e) h = absurd h
prepares_one F z p s t (move.link_new x n k e) h = absurd h
prepares_one F z p s t (move.root n e) h = absurd h
prepares_one F z p s t (move.root_new g n k e) h = absurd h
prepares_one F z p s t (move.raise x e) h = absurd h
prepares_one F z p s t (move.finish x e) h = absurd h
prepares_one F z p s t (move.rebuild r b k e) h = absurd h
prepares_one F z p s t (move.level x e) h = absurd h
prepares_one F z p s t (move.spend u k e) h = absurd h

pub off_prepares : (F : Functions) (z : Start) (p : Point) (s t : State) → Reaches (TakingOff F z) s t → Reaches (Preparing F z p) s t
off_prepares F z p s t off = reaches_map (TakingOff F z) (Preparing F z p) (λ a b m. (m.0, prepares_one F z p a b m.0 m.1)) s t off

-- ---- who is needed still

-- a point stays needed over which all that has another stage now still stands
module _ (F : Functions) (z : Start) (s t : State) (before : Invariant F z s) (after : Invariant F z t) (quiet : Quiet s) (idle : Quiet t)
    (k : Keeps s t) (l : Leaves s t) (c : Point) (Above : Point → Type 0) (above : (p : Point) → Above p → t.needed p ≡ true → t.needed c ≡ true)
    (same : (p : Point) → s.needed p ≡ true → t.needed p ≡ true → Above p ⊎ (t.stage p ≡ s.stage p)) where
  links_same : (p q : Point) → s.needed p ≡ true → t.needed p ≡ true → t.stage p ≡ s.stage p → t.links p q ≡ s.links p q
  links_same p q was need e =
      let a = before.rows.links p q was in
      let x : count q (s.owed p) ≡ 0 = ap (count q) (before.rows.owed p (quiet p)) in
      let b = after.rows.links p q need in
      let y : count q (t.owed p) ≡ 0 = ap (count q) (after.rows.owed p (idle p)) in
      let plans : count q (planned t p) ≡ count q (planned s p) =
      ap (λ (G : Graph). count q (plan_at G t.out t.died p (G.row p.node) (t.stage p))) k.graph
      ∙ (ap (λ (o : Point → Option Outcome). count q (plan_at s.graph o t.died p (s.graph.row p.node) (t.stage p))) k.out
      ∙ (ap (λ (d : NodeId → Option NodeId). count q (plan_at s.graph s.out d p (s.graph.row p.node) (t.stage p))) k.died
      ∙ ap (λ (x : machine.Stage). count q (plan_at s.graph s.out s.died p (s.graph.row p.node) x)) e)) in
      omega (arith, a, x, b, y, plans)

  still : (a d : Point) → Reaches (λ (x y : Point). 0 < s.links x y) a d → t.needed a ≡ true → (t.needed d ≡ true) ⊎ (t.needed c ≡ true)
  still a d here need = inl need
  still a d (step {b = x} linked rest) need = elim (same a (before.web.from a x linked) need) [
    | inl up ↦ inr (above a up need)
    | inr e ↦ still x d rest (after.web.onto a x (let f = links_same a x (before.web.from a x linked) need e in omega (arith, f, linked)))
  ]

  pub stays_needed : s.needed c ≡ true → t.needed c ≡ true
  stays_needed need =
      let r = before.web.reached c need in
      let root : t.root r.0 ≡ s.root r.0 = ap (λ (f : Point → ℕ). f r.0) l.root in
      elim (still r.0 c r.2 (after.web.rooted r.0 (let i = r.1 in omega (arith, i, root)))) [ inl e ↦ e | inr e ↦ e ]

-- ---- what waits for a change stands above it

module _ (F : Functions) (z : Start) (t : State) (inv : Invariant F z t) (quiet : Quiet t) where
  links_as : (p q : Point) (r : Row) (x : machine.Stage) → t.graph.row p.node ≡ Some r → t.needed p ≡ true → t.stage p ≡ x
      → t.links p q ≡ count q (live_plan t.graph t.out p r x)
  links_as p q r x row need e =
      let a = inv.rows.links p q need in
      let o : count q (t.owed p) ≡ 0 = ap (count q) (inv.rows.owed p (quiet p)) in
      let plan : count q (planned t p) ≡ count q (live_plan t.graph t.out p r x) =
      ap (λ (y : Option Row). count q (plan_at t.graph t.out t.died p y (t.stage p))) row
      ∙ ap (λ (y : machine.Stage). count q (live_plan t.graph t.out p r y)) e in
      omega (arith, a, o, plan)

  gate_linked : (p : Point) (r : Row) (c : NodeId) → t.graph.row p.node ≡ Some r → r.scope ≡ Some c → t.needed p ≡ true → 0 < t.links p (change c)
  gate_linked p r c row scope need = by (t.stage p) refl
    where
      once : count (change c) (gate_of r.scope) ≡ 1
      once = gate_once c r.scope scope

      by : (x : machine.Stage) → t.stage p ≡ x → 0 < t.links p (change c)
      by machine.Bare e = absurd (let listed = inv.rows.bare p need e in let none = quiet p in cc)
      by machine.Gated e = let l = links_as p (change c) r machine.Gated row need e in let g = once in omega (arith, l, g)
      by machine.Static e =
          let l = links_as p (change c) r machine.Static row need e in
          let parts = count_append (change c) (gate_of r.scope) (fixed_reads t.graph p.node r.def p.part) in
          let g = once in omega (arith, l, g, parts)
      by machine.Full e =
          let l = links_as p (change c) r machine.Full row need e in
          let parts = count_append (change c) (gate_of r.scope)
          (fixed_reads t.graph p.node r.def p.part ++ right_links t.graph t.out p.node r.def p.part) in
          let g = once in omega (arith, l, g, parts)

  -- so does all that is inside the bind's scope
  pub inside_above : (b n : NodeId) → Inside t.graph b n → (p : Point) → p.node ≡ n → t.needed p ≡ true
      → (t.needed (change b) ≡ true) × (t.height (change b) < t.height p)
  inside_above b n (direct {r} e s) p is need =
      let l = gate_linked p r b (subst (λ (x : NodeId). t.graph.row x ≡ Some r) (sym is) e) s need in
      (inv.web.onto p (change b) l, inv.web.rises p (change b) l)
  inside_above b n (nested {r} {c} e s i) p is need =
      let l = gate_linked p r c (subst (λ (x : NodeId). t.graph.row x ≡ Some r) (sym is) e) s need in
      let up = inside_above b c i (change c) refl (inv.web.onto p (change c) l) in
      let rise = inv.web.rises p (change c) l in
      let low = up.1 in
      (up.0, omega (arith, rise, low))

  -- and its main, without a right side
  pub main_above : (b : NodeId) (r : Row) (m : NodeId) → t.graph.row b ≡ Some r → subject_of r.def ≡ Some m → t.needed (main b) ≡ true
      → t.stage (main b) ≡ machine.Static → (t.needed (change b) ≡ true) × (t.height (change b) < t.height (main b))
  main_above b r m row sub need e = (inv.web.onto (main b) (change b) linked, inv.web.rises (main b) (change b) linked)
    where
      linked : 0 < t.links (main b) (change b)
      linked =
          let l = links_as (main b) (change b) r machine.Static row need e in
          let a : Among (change b) (fixed_reads t.graph b r.def Main) = rw sub (inl refl) in
          let k = among_count (change b) (fixed_reads t.graph b r.def Main) a in
          let parts = count_append (change b) (gate_of r.scope) (fixed_reads t.graph b r.def Main) in
          omega (arith, l, k, parts)
