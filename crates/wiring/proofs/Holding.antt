-- What a graph holds beside its nodes stays where changes keep their outcomes, binds their roots, freezes their values, and experts their lists.
use Rattle.std.proofs.Common.{◌≡◌, ◌⊎◌, inl, inr, refl, sym, ap, subst, ◌∙◌, map, Option, None, Some}
use Rattle.std.specs.Prelude.{option_map, is_some}
use Rattle.inc_value.specs.declared.node.NodeId.{NodeId}
use Rattle.inc_value.specs.declared.node.Part.TheVariants.{Change}
use Rattle.inc_value.specs.declared.node.Point.{Point}
use Rattle.inc_value.specs.declared.outcome.Outcome.{Outcome}
use Rattle.inc_value.specs.Choice.{and_then, Among}
use Rattle.inc_terms.specs.Depend.{main, change, right_of, at_most_one}
use Rattle.inc_terms.specs.Graph as graph
use Rattle.inc_terms.specs.Graph.{Graph, Row, Def}
use Rattle.inc_terms.specs.Plan.{targets}
use Rattle.point_map.specs.Rows.{Rows, at, Holds, KeepsRows}
use Rattle.inc_terms.proofs.Crossing.{same_choice}
use Rattle.expert_nodes.specs.Experts.{kids_at}
use Rattle.node_arena.specs.Arena.{Arena, row_at}
use Rattle.node_arena.specs.Graph.{graph_of}
use Rattle.node_outcomes.specs.Choosing.{built_by, built_in, right_in}
use Rattle.node_outcomes.specs.Row.{IsRewritten, kept_in, with_stage, outcome_in}
use Rattle.node_outcomes.specs.Progress.{Progress}
use Rattle.node_outcomes.specs.declared.row.Stage.{Stage}
use Rattle.node_outcomes.proofs.Held.{built_live, right_is, same_held}
use Rattle.stabilize_round.proofs.Points.{same_or_other}
use Rattle.node_lists.specs.Deaths.{Deaths}
use Rattle.node_lists.specs.Listed.{Listed}
use Rattle.wiring.specs.Graph.{held_at, graph_at, died_at, HasLinks}
use Rattle.wiring.specs.Kept.{IsGhostLink}
use Rattle.wiring.specs.Wiring.{KeepsLists}
use Rattle.wiring.specs.declared.work.Work.{Work}

-- ---- rows and roots stay

module _ (arena : Arena) (old new : Work) where
  -- where changes keep their outcomes, and mains the values of freezes
  pub held_same : ((n : NodeId) → outcome_in (at new.rows (change n)) ≡ outcome_in (at old.rows (change n))) → new.roots ≡ old.roots
      → ((n : NodeId) → kept_in (at new.rows (main n)) ≡ kept_in (at old.rows (main n)))
      → ((n : NodeId) → kids_at new.experts n ≡ kids_at old.experts n) → held_at arena new ≡ held_at arena old
  held_same outcomes roots kept lists = same_held arena old.rows new.rows old.roots new.roots old.experts new.experts outcomes
      (λ n. ap (λ (m : Rows NodeId). at m (change n)) roots) kept lists

  -- all rows stay
  pub held_rows : KeepsRows old.rows new.rows → new.roots ≡ old.roots → ((n : NodeId) → kids_at new.experts n ≡ kids_at old.experts n)
      → held_at arena new ≡ held_at arena old
  held_rows rows roots lists = held_same (λ n. ap outcome_in (rows (change n))) roots (λ n. ap kept_in (rows (main n))) lists

  -- a row is rewritten: it keeps its outcome where it is a change's, and the value that a freeze keeps
  pub held_rewritten : (p : Point) (f : Progress → Progress) → IsRewritten old.rows new.rows p f
      → ((k : Progress) → p.part ≡ Change → (f k).outcome ≡ k.outcome) → ((k : Progress) → kept_in (Some (f k)) ≡ kept_in (Some k))
      → new.roots ≡ old.roots → ((n : NodeId) → kids_at new.experts n ≡ kids_at old.experts n) → held_at arena new ≡ held_at arena old
  held_rewritten p f w keeps still roots lists = held_same outcomes roots kept lists
    where
      still_mapped : (x : Option Progress) → kept_in (option_map f x) ≡ kept_in x
      still_mapped None = refl
      still_mapped (Some k) = still k

      kept : (n : NodeId) → kept_in (at new.rows (main n)) ≡ kept_in (at old.rows (main n))
      kept n = elim (same_or_other p (main n)) [
        | inl e ↦ subst (λ (x : Point). kept_in (at new.rows x) ≡ kept_in (at old.rows x)) e (ap kept_in w.changed ∙ still_mapped (at old.rows p))
        | inr ne ↦ ap kept_in (w.others (main n) (λ e. ne (sym e)))
      ]

      mapped : (x : Option Progress) → p.part ≡ Change → outcome_in (option_map f x) ≡ outcome_in x
      mapped None is = refl
      mapped (Some k) is = keeps k is

      outcomes : (n : NodeId) → outcome_in (at new.rows (change n)) ≡ outcome_in (at old.rows (change n))
      outcomes n = elim (same_or_other p (change n)) [
        | inl e ↦ subst (λ (x : Point). outcome_in (at new.rows x) ≡ outcome_in (at old.rows x)) e
            (ap outcome_in w.changed ∙ mapped (at old.rows p) (ap (λ (x : Point). x.part) e))
        | inr ne ↦ ap outcome_in (w.others (change n) (λ e. ne (sym e)))
      ]

  pub graph_rewritten : (p : Point) (f : Progress → Progress) → IsRewritten old.rows new.rows p f
      → ((k : Progress) → p.part ≡ Change → (f k).outcome ≡ k.outcome) → ((k : Progress) → kept_in (Some (f k)) ≡ kept_in (Some k))
      → new.roots ≡ old.roots → ((n : NodeId) → kids_at new.experts n ≡ kids_at old.experts n) → graph_at arena new ≡ graph_at arena old
  graph_rewritten p f w keeps still roots lists = ap (graph_of arena) (held_rewritten p f w keeps still roots lists)

  -- `set_stage`
  pub graph_staged : (p : Point) (stage : Stage) → IsRewritten old.rows new.rows p (with_stage stage) → new.roots ≡ old.roots
      → ((n : NodeId) → kids_at new.experts n ≡ kids_at old.experts n) → graph_at arena new ≡ graph_at arena old
  graph_staged p stage w roots lists = graph_rewritten p (with_stage stage) w (λ k is. refl) (λ k. refl) roots lists

-- ---- one node

-- a node that keeps its row, its change's row and its root is built as it was
pub built_same : (before arena : Arena) (old new : Work) (n : NodeId) → row_at arena n ≡ row_at before n → at new.rows (change n) ≡ at old.rows (change n)
    → new.roots ≡ old.roots → (held_at arena new).built n ≡ (held_at before old).built n
built_same before arena old new n row kept roots =
    ap (λ (x : Option Row). built_in x (outcome_in (at new.rows (change n))) (at new.roots (change n))) row
    ∙ (ap (λ (x : Option Progress). built_in (row_at before n) (outcome_in x) (at new.roots (change n))) kept
    ∙ ap (λ (m : Rows NodeId). built_in (row_at before n) (outcome_in (at old.rows (change n))) (at m (change n))) roots)

-- so it has the right sides that it had
pub right_as : (before arena : Arena) (old new : Work) (n m : NodeId) (def : Def) (o : Outcome)
    → (held_at arena new).built n ≡ (held_at before old).built n
    → right_of (graph_at arena new) n def o ≡ Some m → right_of (graph_at before old) n def o ≡ Some m
right_as before arena old new n m def o same right = sym (same_choice (graph_at before old) (graph_at arena new) n def o same) ∙ right

-- a dead node isn't built
pub dead_unbuilt : (arena : Arena) (work : Work) (n : NodeId) → row_at arena n ≡ None → (held_at arena work).built n ≡ None
dead_unbuilt arena work n dead = ap (λ (x : Option Row). built_in x (outcome_in (at work.rows (change n))) (at work.roots (change n))) dead

unran : (def : Def) (root : Option NodeId) → built_by def None root ≡ None
unran (graph.Bind l f caps) root = refl
unran def root = refl

unran_in : (x : Option Row) (root : Option NodeId) → built_in x None root ≡ None
unran_in None root = refl
unran_in (Some r) root = unran r.def root

-- nor is one whose change never ran
pub unran_unbuilt : (arena : Arena) (work : Work) (n : NodeId) → outcome_in (at work.rows (change n)) ≡ None → (held_at arena work).built n ≡ None
unran_unbuilt arena work n never = ap (λ (o : Option Outcome). built_in (row_at arena n) o (at work.roots (change n))) never
    ∙ unran_in (row_at arena n) (at work.roots (change n))

-- ---- right sides

-- the right side that is read off is the one in the graph
pub right_at : (arena : Arena) (work : Work) (n : NodeId) (r : Row) → row_at arena n ≡ Some r
    → right_in work.rows work.roots n r.def ≡ and_then (outcome_in (at work.rows (change n))) (λ (o : Outcome). right_of (graph_at arena work) n r.def o)
right_at arena work n r row =
    right_is work.rows work.roots n (graph_at arena work) r.def (built_live work.rows work.roots n arena work.experts r row)

targets_by : (G : Graph) (n : NodeId) (def : Def) (x : Option Outcome)
    → targets G n def x ≡ map main (at_most_one (and_then x (λ (o : Outcome). right_of G n def o)))
targets_by G n def None = refl
targets_by G n def (Some o) = refl

-- so are the points that a main is linked to for it
pub targets_at : (arena : Arena) (work : Work) (n : NodeId) (r : Row) → row_at arena n ≡ Some r
    → targets (graph_at arena work) n r.def (outcome_in (at work.rows (change n))) ≡ map main (at_most_one (right_in work.rows work.roots n r.def))
targets_at arena work n r row = targets_by (graph_at arena work) n r.def (outcome_in (at work.rows (change n)))
    ∙ ap (λ (x : Option NodeId). map main (at_most_one x)) (sym (right_at arena work n r row))

-- ---- the dead

-- who died in the round stays where no death is listed
pub died_same : (old new : Work) → new.deaths ≡ old.deaths → (n : NodeId) → died_at new n ≡ died_at old n
died_same old new same n = ap (λ (d : Deaths). at d.scopes (main n)) same

pub ghost_same : (old new : Work) → new.deaths ≡ old.deaths → (p q : Point) → IsGhostLink old p q → IsGhostLink new p q
ghost_same old new same p q g = record { scope = g.scope; died = died_same old new same p.node ∙ g.died; gate = g.gate }

-- so does who has links once it is needed
pub has_links_same : (old new : Work) → ((p : Point) → is_some (at new.rows p) ≡ is_some (at old.rows p)) → new.deaths ≡ old.deaths
    → (p : Point) → HasLinks old p → HasLinks new p
has_links_same old new rows same p (inl row) = inl (rows p ∙ row)
has_links_same old new rows same p (inr died) = inr (ap is_some (died_same old new same p.node) ∙ died)

-- what reads another has a row still, or died in this round
pub links_same : (old new : Work) → ((p : Point) → is_some (at new.rows p) ≡ is_some (at old.rows p)) → new.deaths ≡ old.deaths
    → (p q : Point) → Holds old.rows p ⊎ IsGhostLink old p q → Holds new.rows p ⊎ IsGhostLink new p q
links_same old new rows same p q (inl row) = inl (rows p ∙ row)
links_same old new rows same p q (inr g) = inr (ghost_same old new same p q g)

-- a root that is kept was kept
pub root_same : (old new : Work) → new.roots ≡ old.roots → (p : Point) → Holds new.roots p → Holds old.roots p
root_same old new same p h = sym (ap (λ (m : Rows NodeId). is_some (at m p)) same) ∙ h

-- the lists list what they listed
pub pairs_same : (old new : Work) → KeepsLists old new → (n : NodeId) → Among n old.pairs.nodes → Among n new.pairs.nodes
pairs_same old new same n a = subst (λ (l : Listed). Among n l.nodes) (sym same.pairs) a

pub scoped_same : (old new : Work) → KeepsLists old new → (n : NodeId) → Among n old.scoped.nodes → Among n new.scoped.nodes
scoped_same old new same n a = subst (λ (l : Listed). Among n l.nodes) (sym same.scoped) a
