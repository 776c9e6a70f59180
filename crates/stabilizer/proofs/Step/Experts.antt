-- What experts list, what freezes keep and what points are owed stays, and so does the graph.
use Rattle.std.proofs.Common.{◌≡◌, ◌++◌, ◌&&◌, Bool, true, false, cond, List, [], ◌∷◌, map, Option, None, Some, refl, sym, ap, subst, ◌∙◌}
use Rattle.std.specs.Prelude.{is_some}
use Rattle.std.proofs.lemmas.Option.{none-some, same_Some}
use Rattle.inc_value.specs.Choice.{Every}
use Rattle.inc_value.specs.declared.function.FnRef.{FnRef}
use Rattle.inc_value.specs.declared.node.NodeId.{NodeId}
use Rattle.inc_value.specs.declared.node.Point.{Point}
use Rattle.inc_value.specs.declared.ty.Ty.{Ty}
use Rattle.inc_value.specs.declared.value.Value.{Value}
use Rattle.inc_value.specs.declared.value.Value.TheVariants as value
use Rattle.inc_terms.specs.Depend.{main, change, subject_of}
use Rattle.inc_terms.specs.Graph as graph
use Rattle.inc_terms.specs.Graph.{Graph, Row, Def}
use Rattle.inc_terms.specs.Term.{Functions}
use Rattle.inc_terms.specs.Within.{Given, ValueWithin}
use Rattle.inc_terms.specs.Work.{predicate_kids, taken_by}
use Rattle.expert_nodes.specs.Experts.{ExpertPlace, SameLinks, expert_at, expert_in, fresh_at, kids_at, taken_at}
use Rattle.expert_nodes.specs.Experts as experts
use Rattle.point_map.specs.Rows.{Rows, at}
use Rattle.node_arena.specs.Arena.{Arena, row_at}
use Rattle.node_arena.specs.Graph.{HoldsGiven, graph_of}
use Rattle.node_arena.specs.Typing.{FoldTakes}
use Rattle.node_outcomes.specs.Computing.{AreExperts, CallFits, CallsSeen, IsOfType, is_expert, is_expert_def}
use Rattle.node_outcomes.specs.Row.{is_full, kept_by, kept_in, outcome_in, stage_in}
use Rattle.node_outcomes.specs.Progress.{Progress}
use Rattle.node_outcomes.specs.declared.row.Stage.{Stage}
use Rattle.node_outcomes.proofs.Held.{same_held}
use Rattle.stabilize_round.specs.Freezing.{found, found_in}
use Rattle.stabilize_round.specs.State.{Call}
use Rattle.wiring.specs.Graph.{graph_at, held_at}
use Rattle.wiring.specs.Kept.{HasFired, IsFreeze, IsKept, IsTop}
use Rattle.wiring.specs.Experts.{ReadSame}
use Rattle.wiring.specs.Stands.{owes}
use Rattle.wiring.proofs.Owing.{owes_none}
use Rattle.wiring.specs.declared.work.Work.{Work}

-- ---- experts

-- of each expert the same links are seen as before
pub linked_alike : (experts : List ExpertPlace) → SameLinks experts experts
linked_alike experts = record { there = λ n. refl; taken = λ n. refl; fresh = λ n. refl }

pub linked_as : (old new : List ExpertPlace) → new ≡ old → SameLinks old new
linked_as old new same = subst (SameLinks old) (sym same) (linked_alike old)

pub read_as : (old new : List ExpertPlace) → new ≡ old → ReadSame old new
read_as old new same = subst (ReadSame old) (sym same) (record { there = λ n. refl; kids = λ n. refl; stale = λ n. refl })

-- then it reads what it read
pub kids_same : (old new : List ExpertPlace) → SameLinks old new → (n : NodeId) → kids_at new n ≡ kids_at old n
kids_same old new same n =
    ap (λ (xs : List NodeId). xs ++ fresh_at new n) (same.taken n) ∙ ap (λ (xs : List NodeId). taken_at old n ++ xs) (same.fresh n)

-- the same experts were created, and what they list is given and fits, in the same arena
module _ (arena : Arena) (old new : Work) (links : SameLinks old.experts new.experts) (kept : IsKept arena old) where
  pub still_experts : AreExperts arena new.experts
  still_experts n = links.there n ∙ kept.experts n

  pub still_listed : (n : NodeId) → Every (Given arena.given) (kids_at new.experts n)
  still_listed n = subst (λ (ns : List NodeId). Every (Given arena.given) ns) (sym (kids_same old.experts new.experts links n)) (kept.listed n)

  pub still_lists : (n : NodeId) (r : Row) (f : FnRef) (v : Value) (ns : List NodeId) → row_at arena n ≡ Some r → r.def ≡ graph.Expert f v ns
      → FoldTakes arena r.ty (kids_at new.experts n) f.sig.takes
  still_lists n r f v ns live def = subst (λ (ks : List NodeId). FoldTakes arena r.ty ks f.sig.takes) (sym (kids_same old.experts new.experts links n))
      (kept.lists n r f v ns live def)

-- ---- freezes

-- a freeze that keeps a value keeps it while its last call stays
pub fired_still : (arena : Arena) (n : NodeId) (was is : Progress) → is.last ≡ was.last → HasFired arena n was → HasFired arena n is
fired_still arena n was is same h =
    record { row = h.row; is_row = h.is_row; is_freeze = h.is_freeze; value = h.value; last = ap found same ∙ h.last }

-- it keeps none, or what it kept
pub flag_same : (flag : Bool) (was is : Option Call) → (flag ≡ true → is ≡ was) → kept_by flag is ≡ kept_by flag was
flag_same false was is same = refl
flag_same true was is same = ap (kept_by true) (same refl)

-- a freeze that keeps a value takes no call
takes_none : (G : Graph) (n : NodeId) (def : Def) (nodes : List NodeId) (v : Value) → IsFreeze def → G.frozen n ≡ Some v
    → taken_by G n def ≡ Some nodes → ⊥
takes_none G n (graph.Freeze kid f) nodes v is keeps takes = none-some nodes (sym (ap (predicate_kids kid) keeps) ∙ takes)
takes_none G n def nodes v is keeps takes = absurd is

-- so its last call stays where it is computed
pub frozen_rests : (F : Functions) (arena : Arena) (work : Work) → IsKept arena work → (stale : NodeId → Bool) (n : NodeId) (row : Row) (k : Progress)
    (last : Option Call) (called : Bool) → row_at arena n ≡ Some row → at work.rows (main n) ≡ Some k
    → CallsSeen F (graph_at arena work) stale n work.round work.rows row.def k.last last called → k.frozen ≡ true → last ≡ k.last
frozen_rests F arena work kept stale n row k last false is_row is_k calls flag = calls.0
frozen_rests F arena work kept stale n row k last true is_row is_k calls flag =
    let h = kept.frozen n k is_k flag in
    let same : row ≡ h.row = same_Some row h.row (sym is_row ∙ h.is_row) in
    let freeze : IsFreeze row.def = subst (λ (r : Row). IsFreeze r.def) (sym same) h.is_freeze in
    let keeps : kept_in (at work.rows (main n)) ≡ Some h.value =
    ap kept_in is_k ∙ (ap (λ (b : Bool). kept_by b k.last) flag ∙ h.last) in
    absurd (takes_none (graph_at arena work) n row.def calls.0.nodes h.value freeze keeps calls.0.takes)

-- ---- nodes that are no freezes and no experts

freeze_top : (def : Def) → IsFreeze def → IsTop def
freeze_top (graph.Freeze kid f) h = tt
freeze_top _ h = absurd h

-- what stands in a scope isn't one
pub scoped_plain : (arena : Arena) (work : Work) → IsKept arena work → (n : NodeId) (r : Row) (c : NodeId) → row_at arena n ≡ Some r → r.scope ≡ Some c
    → IsTop r.def → ⊥
scoped_plain arena work kept n r c row scope top = none-some c (sym (kept.tops n r row top) ∙ scope)

pub no_expert : (def : Def) → (IsTop def → ⊥) → is_expert_def def ≡ false
no_expert (graph.Expert f v ns) none = absurd (none tt)
no_expert _ none = refl

-- nor is what has a subject
pub pair_plain : (def : Def) (m : NodeId) → subject_of def ≡ Some m → is_expert_def def ≡ false
pair_plain (graph.Expert f v ns) m sub = absurd (none-some m sub)
pair_plain _ m sub = refl

-- for it no expert was created
pub not_created : (arena : Arena) (work : Work) → IsKept arena work → (n : NodeId) → is_expert (row_at arena n) ≡ false → expert_at work.experts n ≡ None
not_created arena work kept n plain = by (expert_at work.experts n) (kept.experts n ∙ plain)
  where
    by : (x : Option experts.Expert) → is_some x ≡ false → x ≡ None
    by None e = refl
    by (Some e') e = absurd (cc)

-- so nothing was linked to it
pub plain_fresh : (arena : Arena) (work : Work) → IsKept arena work → (n : NodeId) (r : Row) → row_at arena n ≡ Some r → is_expert_def r.def ≡ false
    → fresh_at work.experts n ≡ []
plain_fresh arena work kept n r row plain =
    ap (λ (x : Option experts.Expert). (expert_in x).fresh) (not_created arena work kept n (ap is_expert row ∙ plain))

-- and it is owed nothing
pub plain_owes : (arena : Arena) (work : Work) → IsKept arena work → (p : Point) (r : Row) → row_at arena p.node ≡ Some r → is_expert_def r.def ≡ false
    → (needed : Bool) → owes work needed p ≡ []
plain_owes arena work kept p r row plain needed = owes_none work needed p (plain_fresh arena work kept p.node r row plain)

-- a node in a scope keeps no value
pub scoped_keeps_none : (arena : Arena) (work : Work) → IsKept arena work → (n : NodeId) (r : Row) (c : NodeId) → row_at arena n ≡ Some r
    → r.scope ≡ Some c → kept_in (at work.rows (main n)) ≡ None
scoped_keeps_none arena work kept n r c row scope = by (at work.rows (main n)) refl
  where
    by_flag : (k : Progress) → at work.rows (main n) ≡ Some k → (b : Bool) → k.frozen ≡ b → kept_by b k.last ≡ None
    by_flag k e false is = refl
    by_flag k e true is =
        let h = kept.frozen n k e is in
        let same : h.row ≡ r = same_Some h.row r (sym h.is_row ∙ row) in
        absurd (scoped_plain arena work kept n r c row scope (freeze_top r.def (subst (λ (x : Row). IsFreeze x.def) same h.is_freeze)))

    by : (x : Option Progress) → at work.rows (main n) ≡ x → kept_in x ≡ None
    by None e = refl
    by (Some k) e = by_flag k e k.frozen refl

-- ---- what is held names given nodes

found_first : (values : List Value) (w v : Value) → found_in values w ≡ Some v → values ≡ v ∷ []
found_first [] w v is = absurd (none-some v is)
found_first (x ∷ []) (value.Bool true) v is = ap (λ (y : Value). y ∷ []) (same_Some x v is)
found_first (x ∷ []) (value.Bool false) v is = absurd (none-some v is)
found_first (x ∷ []) (value.Int z) v is = absurd (none-some v is)
found_first (x ∷ []) (value.Text z) v is = absurd (none-some v is)
found_first (x ∷ []) (value.Node m b) v is = absurd (none-some v is)
found_first (x ∷ y ∷ more) w v is = absurd (none-some v is)

-- a freeze's predicate was called on values of its type
freeze_call : (arena : Arena) (def : Def) (t : Ty) (c : Call) → IsFreeze def → CallFits arena def t c
    → Every (λ (v : Value). IsOfType arena v t) c.arguments
freeze_call arena (graph.Freeze kid f) t c is fits = fits
freeze_call arena _ t c is fits = absurd is

-- a value that a freeze keeps
pub kept_given : (arena : Arena) (work : Work) → IsKept arena work → (n : NodeId) (v : Value) → kept_in (at work.rows (main n)) ≡ Some v
    → ValueWithin (Given arena.given) v
kept_given arena work kept n v = by (at work.rows (main n)) refl
  where
    by_last : (k : Progress) → at work.rows (main n) ≡ Some k → HasFired arena n k → (x : Option Call) → k.last ≡ x → found x ≡ Some v
        → ValueWithin (Given arena.given) v
    by_last k e h None last is = absurd (none-some v is)
    by_last k e h (Some c) last is =
        let fits = freeze_call arena h.row.def h.row.ty c h.is_freeze (kept.calls n h.row k c h.is_row e last) in
        (subst (λ (vs : List Value). Every (λ (x : Value). IsOfType arena x h.row.ty) vs) (found_first c.arguments c.result v is) fits).0.within

    by_flag : (k : Progress) → at work.rows (main n) ≡ Some k → (b : Bool) → k.frozen ≡ b → kept_by b k.last ≡ Some v
        → ValueWithin (Given arena.given) v
    by_flag k e false flag is = absurd (none-some v is)
    by_flag k e true flag is = by_last k e (kept.frozen n k e flag) k.last refl is

    by : (x : Option Progress) → at work.rows (main n) ≡ x → kept_in x ≡ Some v → ValueWithin (Given arena.given) v
    by None e is = absurd (none-some v is)
    by (Some k) e is = by_flag k e k.frozen refl is

-- the lists of experts too
pub held_given : (arena : Arena) (work : Work) → IsKept arena work → HoldsGiven arena.given (held_at arena work)
held_given arena work kept = record { frozen = λ n v is. kept_given arena work kept n v is; lists = kept.listed }

-- ---- the graph, and what points are owed

-- where changes keep their outcomes, binds their roots, freezes what they keep and experts their lists, the graph stays
pub graph_seen : (arena : Arena) (old new : Work) → ((n : NodeId) → outcome_in (at new.rows (change n)) ≡ outcome_in (at old.rows (change n)))
    → new.roots ≡ old.roots → ((n : NodeId) → kept_in (at new.rows (main n)) ≡ kept_in (at old.rows (main n))) → SameLinks old.experts new.experts
    → graph_at arena new ≡ graph_at arena old
graph_seen arena old new outcomes roots flags links = ap (graph_of arena) (same_held arena old.rows new.rows old.roots new.roots old.experts new.experts
    outcomes (λ n. ap (λ (m : Rows NodeId). at m (change n)) roots) flags (kids_same old.experts new.experts links))

-- a point that keeps its stage is owed what it was owed
pub owes_staged : (old new : Work) (needed : Bool) (p : Point) → stage_in (at new.rows p) ≡ stage_in (at old.rows p)
    → fresh_at new.experts p.node ≡ fresh_at old.experts p.node → owes new needed p ≡ owes old needed p
owes_staged old new needed p stage fresh =
    ap (λ (x : Option Stage). cond (needed && is_full x) (map main (fresh_at new.experts p.node)) []) stage
    ∙ ap (λ (xs : List NodeId). cond (needed && is_full (stage_in (at old.rows p))) (map main xs) []) fresh
