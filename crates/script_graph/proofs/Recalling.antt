-- After an accepted stabilize what is needed is right, and each needed visit was the last call of its node.
use Rattle.std.proofs.Common.{◌≡◌, ◌⊎◌, inl, inr, ℕ, zero, suc, false, List, [], ◌∷◌, map, length, Option, None, Some, refl, sym, ap, subst, ◌∙◌}
use Rattle.inc_value.specs.Walk.{IsWalk}
use Rattle.inc_value.specs.declared.function.FnRef.{FnRef}
use Rattle.inc_value.specs.declared.node.NodeId.{NodeId}
use Rattle.inc_value.specs.declared.node.Part.{Part}
use Rattle.inc_value.specs.declared.node.Part.TheVariants.{Change, Main}
use Rattle.inc_value.specs.declared.node.Point.{Point}
use Rattle.inc_value.specs.declared.outcome.Outcome.{Outcome}
use Rattle.inc_value.specs.declared.value.Value.{Value as GraphValue}
use Rattle.inc_terms.specs.Depend.{Depends, gate, none_died, kids_of, main, change, subject_of, unfrozen}
use Rattle.inc_terms.specs.Evaluate.{answer, GiveAll, NodeGives, Of, Stands}
use Rattle.inc_terms.specs.Graph.{Graph, Row, Def, Map, Fold, If, Join, Bind, Freeze, Expert}
use Rattle.inc_terms.specs.Local.{PartExact, Exact, HasRun, Scoped, shown_of as shown_as}
use Rattle.inc_terms.specs.Need.{Needed}
use Rattle.inc_terms.specs.Term.{Functions}
use Rattle.inc_terms.specs.Work.{cost_of, predicate_cost, predicate_kids}
use Rattle.inc_terms.proofs.Evaluation.{one_outcome}
use Rattle.inc_terms.proofs.Local.{needed_more}
use Rattle.inc_terms.specs.Term as term
use Rattle.inc_terms.proofs.Unfolding.{scope_stands}
use Rattle.stabilizer.specs.Left.{IsObservedIn}
use Rattle.graph.specs.Standing.{GraphView, graph, shown_of, chosen_by, called_last, is_marked}
use Rattle.observers.specs.Observers.{in_use}
use Rattle.graph.specs.Stabilizes.{Stabilizes, left_by, died_by}
use Rattle.node_arena.specs.Arena.{Arena, row_at}
use Rattle.script_model.specs.Formula.{State, Meanings}
use Rattle.script_model.specs.Need as Need
use Rattle.script_model.specs.Need.{Visit, IsVisit}
use Rattle.inc_terms.specs.Work.{taken_by}
use Rattle.stabilize_round.specs.State.{Call}
use Rattle.script_graph.specs.Kept.{node_in}
use Rattle.script_graph.proofs.Firing.{exact_after, needed_before, same_rooted}
use Rattle.transfer.specs.Both.{Both, graph_value}
use Rattle.transfer.specs.Items.{node_of, GrabsBind, RootsHave}
use Rattle.transfer.specs.Shows.{BindsRooted, Fits}
use Rattle.transfer.proofs.Recalling.{visits_have_nodes}

-- ---- what is needed is right

-- the outcome that a graph shows of a node, and that by which one of two points last chose its right side
abbrev pub shown_in : {A : Type 0} → GraphView A → NodeId → Part → Option Outcome
shown_in g n Main = shown_of g n
shown_in g n Change = chosen_by g n

-- that of a point
abbrev pub shown_at : {A : Type 0} → GraphView A → Point → Option Outcome
shown_at g p = shown_in g p.node p.part

module _ {A : Type 0} (M : Functions) (old new : GraphView A) (scoped : Scoped (graph new)) (rooted : BindsRooted M (graph new))
    (done : Stabilizes M old new) where
  abbrev L : Graph
  L = left_by old new

  abbrev D : NodeId → Option NodeId
  D = died_by old new

  abbrev IsObserved : Point → Type 0
  IsObserved p = IsObservedIn M L D (in_use old.observers) p

  -- a bind whose change is needed was built for what its left gives
  pub run_right : (n l : NodeId) (r : Row) (f : FnRef) (caps : List NodeId) → IsObserved (change n) → L.row n ≡ Some r → r.def ≡ Bind l f caps
      → HasRun M L (shown_at new) n (Bind l f caps) l
  run_right n l r f caps need row def =
      let c = done.right.chose n l r row (ap (λ (d : Def). subject_of d) def) need in
      let b = done.right.built n l r f caps row def need in
      let rows : b.row ≡ r = (let e : Some b.row ≡ Some r = sym b.is_row ∙ row in cc) in
      let lefts : b.left ≡ l = (let e : Bind b.left b.function b.captures ≡ Bind l f caps = sym b.is_bind ∙ (ap (λ (x : Row). x.def) rows ∙ def) in cc) in
      let same = one_outcome M L (Of (term.Ref l)) b.built.outcome c.0 (subst (λ (x : NodeId). NodeGives M L x b.built.outcome) lefts b.gives) c.2 in
      (c.0, c.1, c.2, (b.built, b.is_built, same, same_rooted M (graph new) L (λ m. refl) n f caps b.built (rooted n r l f caps b.built row def b.is_built)))

  part_right : (n : NodeId) (part : Part) → IsObserved (record { node = n; part = part }) → (r : Row)
      → L.row n ≡ Some r → PartExact M L (shown_at new) n r.def part
  part_right n Main need r row = let s = done.right.sees n need in (s.0, ap (λ (x : Option Row). shown_as x (shown_of new n)) row ∙ s.1, s.2)
  part_right n Change need r row = by_def r.def refl
    where
      by_def : (d : Def) → r.def ≡ d → PartExact M L (shown_at new) n d Change
      by_def (Bind l f caps) def = λ k is.
          let same : l ≡ k = cc in
          subst (λ (z : NodeId). HasRun M L (shown_at new) n (Bind l f caps) z) same (run_right n l r f caps need row def)
      by_def (If t a b) def = λ k is. let c = done.right.chose n k r row (ap (λ (d : Def). subject_of d) def ∙ is) need in (c.0, c.1, c.2, tt)
      by_def (Join t) def = λ k is. let c = done.right.chose n k r row (ap (λ (d : Def). subject_of d) def ∙ is) need in (c.0, c.1, c.2, tt)
      by_def d def = λ k is. absurd (cc)

  -- the scope of what is needed stands, or as long a walk begins there, by scopes alone
  stands_or_walk : (k : ℕ) (p : Point) → IsObserved p → (r : Row) → L.row p.node ≡ Some r
      → Stands M L r.scope ⊎ ((rest : List Point) × (length rest ≡ k) × IsWalk (Depends M L D) (p ∷ rest))
  unfolding answer
  stands_or_walk zero p need r row = inr ([], refl, tt)
  stands_or_walk (suc k) p need r row = by_scope r.scope refl (stands_or_walk k)
    where
      by_scope : (S : Option NodeId) → r.scope ≡ S
          → ((q : Point) → IsObserved q → (t : Row) → L.row q.node ≡ Some t
          → Stands M L t.scope ⊎ ((rest : List Point) × (length rest ≡ k) × IsWalk (Depends M L D) (q ∷ rest)))
          → Stands M L S ⊎ ((rest : List Point) × (length rest ≡ suc k) × IsWalk (Depends M L D) (p ∷ rest))
      by_scope None is again = inl (1, refl)
      by_scope (Some b) is again =
          let dep : Depends M L D p (change b) = gate row is refl in
          let next = needed_more M L D (in_use old.observers) p (change b) need dep in
          let s = scoped p.node r b row is in
          let run = run_right b s.1 s.0 s.2 s.3 next s.4 s.5 in
          elim (again (change b) next s.0 s.4) [
            | inl st ↦ inl (scope_stands M L b s.0 s.1 s.2 s.3 run.3.0 s.4 s.5 st run.3.1 (subst (λ (o : Outcome). NodeGives M L s.1 o) (sym run.3.2) run.2))
            | inr w ↦ inr (change b ∷ w.0, ap (λ n. suc n) w.1, (dep, w.2))
          ]

  pub needed_is_right : (p : Point) → IsObserved p → Exact M L (shown_at new) p
  needed_is_right p need r row = (
    elim (stands_or_walk 129 p need r row) [
      | inl st ↦ st
      | inr w ↦ absurd (done.right.shallow p need w)
    ],
    part_right p.node p.part need r row,
  )

  -- ---- once freezes got their values

  abbrev A' : Graph
  A' = graph new

  -- what is needed then is right then
  pub needed_is_right_then : (p : Point) → Needed M A' none_died (in_use old.observers) p → Exact M A' (shown_at new) p
  needed_is_right_then = exact_after M A' (graph old).frozen done.right.froze D (in_use old.observers) (shown_at new) needed_is_right

  -- and was needed before
  pub needed_was : (p : Point) → Needed M A' none_died (in_use old.observers) p → IsObserved p
  needed_was = needed_before M A' (graph old).frozen done.right.froze D (in_use old.observers) (shown_at new) needed_is_right

-- ---- what calls

-- a node that calls a function, whose children give the values
record IsCalledOn (M : Functions) (G : Graph) (n : NodeId) (def : Def) (values : List GraphValue) : Type 0 where
  kids : List NodeId
  takes : taken_by G n def ≡ Some kids
  give : GiveAll M G kids values

called_on : (M : Functions) (G : Graph) (n : NodeId) (values : List GraphValue) (cost : ℕ) (def : Def) → GiveAll M G (kids_of G n def) values
    → cost_of G n def ≡ Some cost → IsCalledOn M G n def values
called_on M G n values cost (Map f kids) give is = record { kids = kids; takes = refl; give = give }
called_on M G n values cost (Fold f v kids) give is = record { kids = kids; takes = refl; give = give }
called_on M G n values cost (Expert f v kids) give is = record { kids = G.lists n; takes = refl; give = give }
called_on M G n values cost (Freeze kid f) give is = by_frozen (G.frozen n) refl give is
  where
    by_frozen : (v : Option GraphValue) → G.frozen n ≡ v → GiveAll M G (unfrozen kid v) values → predicate_cost v ≡ Some cost
        → IsCalledOn M G n (Freeze kid f) values
    by_frozen None frozen give is = record { kids = kid ∷ []; takes = ap (predicate_kids kid) frozen; give = give }
    by_frozen (Some w) frozen give is = absurd (cc)
called_on M G n values cost def give is = absurd (cc)

-- ---- the last calls

-- the visit's node was last called with the visit's values, and isn't stale
pub record IsRecalled {A : Type 0} (x : Both) (arena : Arena) (g : GraphView A) (v : Visit) : Type 0 where
  pub node : NodeId
  pub is_node : node_of x v.item ≡ Some node
  pub row : Row
  pub is_row : row_at arena node ≡ Some row
  pub call : Call
  pub is_last : called_last g node ≡ Some call
  pub values_are : call.arguments ≡ map (graph_value x.nodes) v.values
  pub fresh : is_marked g node ≡ false

-- over a pair of the graph that a stabilize left, in which nobody is known to have died
module _ {A : Type 0} (M : Functions) (old new : GraphView A) (scoped : Scoped (graph new)) (rooted : BindsRooted M (graph new)) (done : Stabilizes M old new)
    (F : Meanings) (s : State) (nodes : List NodeId) (fits : Fits (record {
      meanings = F;
      state = s;
      functions = M;
      graph = graph new;
      nodes = node_in nodes;
      died = none_died;
    })) (grabs : GrabsBind s) (have : RootsHave (record {
      meanings = F;
      state = s;
      functions = M;
      graph = graph new;
      nodes = node_in nodes;
      died = none_died;
    }) (in_use old.observers)) where
  abbrev z : Both
  z = record { meanings = F; state = s; functions = M; graph = graph new; nodes = node_in nodes; died = none_died }

  pub visit_is_recalled : (v : Visit) → IsVisit F s v → Need.Needed F s v.item → IsRecalled z new.nodes new v
  visit_is_recalled v is need =
      let h = visits_have_nodes z fits grabs (in_use old.observers) have (shown_at new)
      (needed_is_right_then M old new scoped rooted done) v is need in
      let m = called_on M (graph new) h.0 (map (graph_value (node_in nodes)) v.values) v.cost h.3.row.def h.3.values h.3.cost in
      let c = done.right.recalls h.0 h.3.row m.kids (map (graph_value (node_in nodes)) v.values) ((done.right.needs (main h.0)).1 h.2) h.3.is_row m.takes
      m.give in
      record {
        node = h.0;
        is_node = h.1;
        row = h.3.row;
        is_row = h.3.is_row;
        call = c.0;
        is_last = c.1;
        values_are = c.2;
        fresh = done.right.unmarked h.0 h.3.row h.3.is_row (needed_was M old new scoped rooted done (main h.0) h.2);
      }
