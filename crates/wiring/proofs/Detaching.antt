-- A main's right side is taken off.
use Rattle.std.proofs.Common.{◌≡◌, ◌≢◌, ◌⊎◌, inl, inr, ℕ, Bool, not, Option, None, Some, refl, sym, ap, subst, ◌∙◌}
use Rattle.std.specs.Prelude.{is_some}
use Rattle.inc_value.specs.declared.node.NodeId.{NodeId}
use Rattle.inc_value.specs.declared.node.Point.{Point}
use Rattle.inc_value.specs.declared.outcome.Outcome.{Outcome}
use Rattle.inc_terms.specs.Depend.{main, change}
use Rattle.inc_terms.specs.Graph.{Def}
use Rattle.point_map.specs.Rows.{Rows, at, Changes}
use Rattle.necessary_graph.specs.Part.{NecessaryPart, Needed, IsInStep}
use Rattle.necessary_graph.specs.Sweep.{IsUnlinked}
use Rattle.node_outcomes.specs.Row.{IsRewritten, with_stage, with_outcome, stage_in, outcome_in}
use Rattle.wiring.specs.Graph.{rowless}
use Rattle.wiring.specs.Turning.{IsAttached, IsDetached, IsOff, HasTurned}
use Rattle.node_outcomes.specs.Choosing.{right_by, right_in}
use Rattle.wiring.specs.Wiring.{IsEnqueued, IsMarked, KeepsGraph}
use Rattle.node_outcomes.specs.Progress.{Progress}
use Rattle.node_outcomes.specs.declared.row.Stage.TheVariants as code
use Rattle.wiring.specs.declared.work.Work.{Work}
use Rattle.wiring.proofs.Deciding.{need_same}
use Rattle.wiring.proofs.Enqueuing.{keeps_graph}

pub change_is_other : (n : NodeId) → change n ≡ main n → ⊥
change_is_other n e = let p = ap (λ (x : Point). x.part) e in cc

-- a row that isn't the change's is another: the same right side
pub right_same : (old new : Work) (n : NodeId) (def : Def) → at new.rows (change n) ≡ at old.rows (change n)
    → new.roots ≡ old.roots → right_in new.rows new.roots n def ≡ right_in old.rows old.roots n def
right_same old new n def e roots = ap (λ (x : Option Progress). right_by def n (outcome_in x) (at new.roots (change n))) e
    ∙ ap (λ (m : Rows NodeId). right_by def n (outcome_in (at old.rows (change n))) (at m (change n))) roots

-- the main has its stage, and the right side is off
pub detached : (old mid new : Work) (n : NodeId) (def : Def) (right : Option NodeId) (p : Point) → p ≡ main n → IsEnqueued old mid p
    → mid ≡ record old { graph = mid.graph } → IsRewritten mid.rows new.rows p (with_stage code.Static) → new ≡ record mid { graph = new.graph; rows = new.rows }
    → right ≡ right_in new.rows new.roots n def → IsOff (rowless new) mid.graph new.graph n right → IsDetached old new n (right_in old.rows old.roots n def)
detached old mid new n def right p at_main enqueued rest rows last is off = record {
  rows = subst (λ (m : Rows Progress). IsRewritten m new.rows (main n) (with_stage code.Static)) rows_of written;
  mid = mid;
  enqueued = subst (λ (x : Point). IsEnqueued old mid x) at_main enqueued;
  rest = rest;
  off = subst (λ (x : Option NodeId). IsOff (rowless new) mid.graph new.graph n x) (is ∙ same) off;
  last = last;
}
  where
    written : IsRewritten mid.rows new.rows (main n) (with_stage code.Static)
    written = subst (λ (x : Point). IsRewritten mid.rows new.rows x (with_stage code.Static)) at_main rows

    rows_of : mid.rows ≡ old.rows
    rows_of = ap (λ (w : Work). w.rows) rest

    same : right_in new.rows new.roots n def ≡ right_in old.rows old.roots n def
    same = right_same old new n def (written.others (change n) (change_is_other n) ∙ ap (λ (m : Rows Progress). at m (change n)) rows_of)
        (ap (λ (w : Work). w.roots) last ∙ ap (λ (w : Work). w.roots) rest)

-- so it is where the link was there
pub detached_off : (old mid new : Work) (rows : Rows Progress) (n m : NodeId) (def : Def) (p q : Point) → p ≡ main n → q ≡ main m → IsEnqueued old mid p
    → mid ≡ record old { graph = mid.graph } → IsRewritten mid.rows rows p (with_stage code.Static) → new ≡ record mid { graph = new.graph; rows = rows }
    → Some m ≡ right_in rows mid.roots n def → IsUnlinked (rowless (record mid { rows = rows })) mid.graph new.graph p q
    → IsDetached old new n (right_in old.rows old.roots n def)
detached_off old mid new rows n m def p q at_main at_right enqueued rest written last is unlinked = detached old mid new n def (Some m) p at_main enqueued rest
    (subst (λ (x : Rows Progress). IsRewritten mid.rows x p (with_stage code.Static)) (sym rows_are) written)
    (last ∙ ap (λ (x : Rows Progress). record mid { graph = new.graph; rows = x }) (sym rows_are))
    (is ∙ sym (ap (λ (w : Work). right_in w.rows w.roots n def) last))
    (inl (subst (λ (x : Rows Progress). IsUnlinked (λ (a : Point). not (is_some (at x a))) mid.graph new.graph (main n) (main m)) (sym rows_are)
    (subst (λ (x : Point). IsUnlinked (rowless (record mid { rows = rows })) mid.graph new.graph x (main m)) at_main
    (subst (λ (y : Point). IsUnlinked (rowless (record mid { rows = rows })) mid.graph new.graph p y) at_right unlinked))))
  where
    rows_are : new.rows ≡ rows
    rows_are = ap (λ (w : Work). w.rows) last

-- there is none
pub off_none : (leaf : Point → Bool) (g : NecessaryPart) (n : NodeId) (right : Option NodeId) → ((m : NodeId) → right ≡ Some m → ⊥) → IsOff leaf g g n right
off_none leaf g n None not = refl
off_none leaf g n (Some m) not = absurd (not m refl)

-- the change's row is written then
abbrev pub BeforeIt : Work → Work → NodeId → Option NodeId → Outcome → Type 0
BeforeIt old mid n right given = ((mid ≡ old) × ((outcome_in (at old.rows (change n)) ≡ Some given) ⊎ (IsAttached old n → ⊥)))
    ⊎ (IsDetached old mid n right × IsAttached old n × (outcome_in (at old.rows (change n)) ≢ Some given))

pub turned : (old mid : Work) (rows : Rows Progress) (n : NodeId) (right : Option NodeId) (given : Outcome) → BeforeIt old mid n right given
    → IsRewritten mid.rows rows (change n) (with_outcome given mid.round) → HasTurned old (record mid { rows = rows }) n right given
turned old mid rows n right given before written = record {
  mid = mid;
  turned = before;
  rows = subst (λ (i : ℕ). IsRewritten mid.rows rows (change n) (with_outcome given i)) (same_round before) written;
  rest = refl;
}
  where
    same_round : BeforeIt old mid n right given → mid.round ≡ old.round
    same_round (inl x) = ap (λ (w : Work). w.round) x.0
    same_round (inr x) = ap (λ (w : Work). w.round) x.0.last ∙ ap (λ (w : Work). w.round) x.0.rest

-- ---- a bind is to be built anew

-- a needed point came into the heap
pub entered : (old g : NecessaryPart) (p : Point) → IsInStep old → Needed old p → Changes old.heap g.heap p (at old.heights p)
    → g ≡ record old { heap = g.heap } → IsMarked old g p
entered old g p step need ch rest = record {
  graph = keeps_graph old g rest;
  others = ch.others;
  told = λ n. ap is_some ch.changed ∙ step.there p n;
  only = λ h. inr need;
}

pub entered_change : (old g : NecessaryPart) (n : NodeId) (q : Point) → q ≡ change n → IsInStep old → Needed old (change n)
    → Changes old.heap g.heap q (at old.heights q) → g ≡ record old { heap = g.heap } → IsMarked old g (change n)
entered_change old g n q is step need ch rest = entered old g (change n) step need
    (subst (λ (x : Point). Changes old.heap g.heap x (at old.heights x)) is ch) rest

-- a main is attached where another heap is all that changed
pub attached_as : (old new : Work) (n : NodeId) → new.rows ≡ old.rows → KeepsGraph old.graph new.graph → IsAttached new n → IsAttached old n
attached_as old new n rows graph a = record {
  needed = need_same new.graph old.graph (sym graph.links) (sym graph.roots) (main n) a.needed;
  stage = ap (λ (m : Rows Progress). stage_in (at m (main n))) (sym rows) ∙ a.stage;
}

pub attached_still : (old new : Work) (n : NodeId) → new.rows ≡ old.rows → KeepsGraph old.graph new.graph → IsAttached old n → IsAttached new n
attached_still old new n rows graph a = record {
  needed = need_same old.graph new.graph graph.links graph.roots (main n) a.needed;
  stage = ap (λ (m : Rows Progress). stage_in (at m (main n))) rows ∙ a.stage;
}

-- the graph and the rows are all that changed
pub detached_rest : (old first new : Work) (n : NodeId) (right : Option NodeId) → first ≡ record old { graph = first.graph } → IsDetached first new n right
    → new ≡ record old { graph = new.graph; rows = new.rows }
detached_rest old first new n right only l = l.last ∙ (ap (λ (w : Work). record w { graph = new.graph; rows = new.rows }) l.rest
    ∙ ap (λ (w : Work). record w { graph = new.graph; rows = new.rows }) only)
