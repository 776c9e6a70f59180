-- Visits of a state, how often what they are of was asked to run anew, and that what is stale was made so since still, after a call.
use Rattle.std.proofs.Common.{◌≡◌, ◌⊎◌, inl, inr, ℕ, ◌<◌, ◌≤◌, true, List, length, Option, None, Some, refl, ap, sym, subst, ◌∙◌, arith}
use Rattle.inc_value.specs.Choice.{Among}
use Rattle.inc_value.specs.declared.node.NodeId.{NodeId}
use Rattle.inc_terms.specs.Graph.{Row}
use Rattle.inc_terms.specs.Within.{Given}
use Rattle.graph.specs.Standing.{graph, is_marked}
use Rattle.script_model.specs.Check.{target_of_body}
use Rattle.script_model.specs.Evaluate.{Gathered, Values, each_of, gathered, value_at}
use Rattle.script_model.specs.Formula.{State, Body, Entry, Formula, Meanings, body_at, entry_at, Apply, Fold, Freeze, Expert}
use Rattle.script_model.specs.Need.{Item, Named, Place, Visit, IsVisit, body_visits, environment, formula_at, formula_visits, once, stamp_of, stamp_of_body, visit_with, visits_at}
use Rattle.script_model.specs.Values.{Value, Outcome}
use Rattle.script_graph.specs.Kept.{Kept, arena_of, node_in}
use Rattle.script_graph.specs.Represents.{beside, besides}
use Rattle.script_graph.specs.Settled.{Settled, StampsGrow, WasRun, side_of}
use Rattle.transfer.specs.Both.{Both}
use Rattle.transfer.specs.Holding.{MarksAreNew}
use Rattle.transfer.specs.Items.{around, node_of, scope_at}
use Rattle.transfer.specs.Shows.{plain}
use Rattle.transfer.proofs.Places.{place_shows}
use Rattle.transfer.proofs.Staying.{IsOther, other_row}
use Rattle.transfer.proofs.Typed.{body_entry}

-- ---- visits

with_stamp : (s : State) (i : Item) (cost : List Value → ℕ) (g : Gathered) (v : Visit) → Among v (visit_with s i cost g) → v.stamp ≡ stamp_of s i
with_stamp s i cost (Values values) v (inl e) = ap (λ (w : Visit). w.stamp) e
with_stamp s i cost (Values values) v (inr none) = absurd none
with_stamp s i cost g v none = absurd none

-- what calls a function
abbrev IsCalling : Formula → Type 0
IsCalling (Apply f arguments) = Unit {0}
IsCalling (Fold f first elements) = Unit {0}
IsCalling f = ⊥

calling_other : (f : Formula) → IsCalling f → IsOther f
calling_other (Apply f arguments) calls = tt
calling_other (Fold f first elements) calls = tt
calling_other f calls = absurd calls

formula_visit : (s : State) (i : Item) (part : Formula → Option Outcome) (f : Option Formula) (v : Visit) → Among v (formula_visits s i part f)
    → (v.stamp ≡ stamp_of s i) × ((g : Formula) × (f ≡ Some g) × IsCalling g)
formula_visit s i part (Some (Apply f arguments)) v is =
    (with_stamp s i once (gathered (each_of part arguments)) v is, (Apply f arguments, refl, tt))
formula_visit s i part (Some (Fold f first elements)) v is =
    (with_stamp s i length (gathered (each_of part elements)) v is, (Fold f first elements, refl, tt))
formula_visit s i part f v is = absurd is

body_visit : (F : Meanings) (s : State) (d : ℕ) (i : Item) (b : Option Body) (v : Visit) → Among v (body_visits F s d i b)
    → (v.stamp ≡ stamp_of s i) × ((c : Body) × (b ≡ Some c) × ((n : ℕ) → target_of_body n c ≡ n))
body_visit F s d i (Some (Freeze child predicate None)) v is =
    (with_stamp s i once _ v is, (Freeze child predicate None, refl, λ n. refl))
body_visit F s d i (Some (Expert f first links stale)) v is =
    (with_stamp s i length _ v is, (Expert f first links stale, refl, λ n. refl))
body_visit F s d i b v is = absurd is

visits_stamp : (F : Meanings) (s : State) (d : ℕ) (i : Item) (v : Visit) → Among v (visits_at F s d i) → v.stamp ≡ stamp_of s i
visits_stamp F s d (Named n) v is = (body_visit F s d (Named n) (body_at s n) v is).0
visits_stamp F s d (Place owner path) v is =
    (formula_visit s (Place owner path) (value_at F s d (environment path)) (formula_at s owner path) v is).0

-- a visit has its item's stamp
pub visit_stamp : (F : Meanings) (s : State) (v : Visit) → IsVisit F s v → v.stamp ≡ stamp_of s v.item
visit_stamp F s v is = visits_stamp F s is.0 v.item v is.1

-- ---- stamps

stamps_of : (s s' : State) → StampsGrow s s' → (i : Item) → stamp_of s i ≤ stamp_of s' i
stamps_of s s' grow (Named n) = grow n
stamps_of s s' grow (Place owner path) = omega arith

pub stamps_on : (a b c : State) → StampsGrow a b → StampsGrow b c → StampsGrow a c
stamps_on a b c first second n = let x = first n in let y = second n in omega (arith, x, y)

-- ---- marks

-- the node is that of one declaration which stands for itself, and which was asked once more to run anew; it is no node that a formula may have
pub record IsRenewed (s s' : State) (k : Kept) (n : NodeId) : Type 0 where
  pub position : ℕ
  pub apart : (t : ℕ) (e : Entry) → entry_at s t ≡ Some e → e.target ≡ t → node_in k.nodes t ≡ n → t ≡ position
  pub more : stamp_of_body (body_at s position) < stamp_of_body (body_at s' position)
  pub row : Row
  pub is_row : (graph k.graph).row n ≡ Some row
  pub no_formula : plain row.def ≡ None

-- what is stale now was so, or was made so now
abbrev pub MarksGrow : State → State → Kept → Kept → Type 0
MarksGrow s s' k k' =
    (n : NodeId) → Given (arena_of k).given n → is_marked k'.graph n ≡ true → (is_marked k.graph n ≡ true) ⊎ IsRenewed s s' k n

module _ (F : Meanings) (before s s' : State) (k k' : Kept) (st : Settled F before s k) (grow : StampsGrow s s') (marks : MarksGrow s s' k k') where
  abbrev x : Both
  x = besides F before st.nodes st.bodies st.left

  -- what was made stale now had another stamp
  renewed : (d : ℕ) (v : Visit) (i : Item) (n : NodeId) → Among v (visits_at F before d i) → node_of x i ≡ Some n → IsRenewed s s' k n
      → v.stamp ≡ stamp_of s' i → ⊥
  renewed d v (Named t) n is at r same =
      let b = body_visit F before d (Named t) (body_at before t) v is in
      let e = body_entry before t b.1.0 b.1.1 in
      let own : e.0.target ≡ t = st.today.targets t e.0 e.1 ∙ (ap (target_of_body t) e.2 ∙ b.1.2 t) in
      let then = st.still.targets t e.0 e.1 in
      let node : node_in st.nodes t ≡ n = (let z : Some (node_in st.nodes t) ≡ Some n = at in cc) in
      let here : t ≡ r.position = r.apart t then.0 then.1 (then.2 ∙ own) (st.still.names t e.0 e.1 ∙ node) in
      let more : stamp_of_body (body_at s t) < stamp_of_body (body_at s' t) =
      subst (λ (j : ℕ). stamp_of_body (body_at s j) < stamp_of_body (body_at s' j)) (sym here) r.more in
      let earlier = st.stamps t in
      let stamp = b.0 in
      omega (arith, more, earlier, stamp, same)
  renewed d v (Place owner path) n is at r same =
      let f = (formula_visit before (Place owner path) (value_at F before d (environment path)) (formula_at before owner path) v is).1 in
      let row = other_row x (scope_at x owner path) (around x owner path) n f.0 (calling_other f.0 f.2)
      (place_shows x st.fits owner path n f.0 f.1 at) in
      let on : (graph k.graph).row n ≡ Some row.0 = st.still.rows n row.0 row.1 row.2 row.4 in
      let rows : row.0 ≡ r.row = (let e : Some row.0 ≡ Some r.row = sym on ∙ r.is_row in cc) in
      let clash : Some row.1 ≡ None = sym row.4 ∙ (ap (λ (q : Row). plain q.def) rows ∙ r.no_formula) in cc

  -- what is stale was made so since
  pub marks_on : MarksAreNew x (beside F s' k') (side_of k'.graph)
  marks_on v n is need at stale same =
      let w : WasRun x k v = st.ran v is need in
      let node : w.node ≡ n = (let e : Some w.node ≡ Some n = sym w.is_node ∙ at in cc) in
      elim (marks n (subst (λ (q : NodeId). Given (arena_of k).given q) node w.given) stale) [
        | inl was ↦
            let stamp = visit_stamp F before v is in
            let first = stamps_of before s st.stamps v.item in
            let second = stamps_of s s' grow v.item in
            st.marks v n is need at was (omega (arith, stamp, first, second, same))
        | inr made ↦ renewed is.0 v v.item n is.1 at made same
      ]
