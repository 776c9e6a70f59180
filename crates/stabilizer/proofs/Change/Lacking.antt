-- What a change lacked that was refused.
use Rattle.std.proofs.Common.{◌≡◌, ◌≢◌, ◌⊎◌, inl, inr, List, [], ◌∷◌, refl, sym, ap, subst, ◌∙◌, Result, Ok, Err, Vec, Global}
use Rattle.std.specs.Prelude.{OnErr}
use Rattle.inc_value.specs.declared.node.NodeId.{NodeId}
use Rattle.inc_value.specs.declared.node.Point.{Point}
use Rattle.inc_value.specs.Choice.{Among}
use Rattle.inc_terms.specs.Depend.{main, change}
use Rattle.link_table.specs.Links.{Reads}
use Rattle.necessary_graph.specs.Part.{NecessaryPart, Needed}
use Rattle.node_outcomes.specs.Meaning.{Meaning}
use Rattle.node_outcomes.specs.Row.{outcome_in, stage_in}
use Rattle.point_map.specs.Rows.{at}
use Rattle.stabilize_round.proofs.Main.{main_change}
use Rattle.wiring.specs.Stands.{Counts}
use Rattle.wiring.specs.Turning.{IsAttached, IsWaiting}
use Rattle.wiring.specs.declared.work.Work.{Work}
use Rattle.wiring.proofs.Deciding.{need_same}
use Rattle.stabilizer.specs.Lacking.{LosesRight, ChangeLacks, sees_text, builds, loses, waits, gates}
use Rattle.stabilizer.specs.Stepping.{ChangeIsTurned, IsTurned, turned, built}
use Rattle.stabilizer.specs.declared.parts.Parts.{Parts}

-- what a refused call lacked is another word for what it did
pub err_as : {A E P Q : Type 0} (r : Result A E) → (P → Q) → OnErr r P → OnErr r Q
err_as (Ok v) turn h = tt
err_as (Err e) turn h = turn h

one_of : (ps : List Point) → ps ≢ [] → (p : Point) × Among p ps
one_of [] some = absurd (some refl)
one_of (p ∷ ps) some = (p, inl refl)

-- ---- a change that was turned

module _ (old : Parts) (new : Work) (n : NodeId) (t : ChangeIsTurned old.arena old.work new n) where
  -- its main lost its right side, or all but its row is as it was, and the worklist
  loses_or_same : LosesRight old n
      ⊎ ((new.graph ≡ old.work.graph) × (at new.rows (main n) ≡ at old.work.rows (main n)) × (new.todo ≡ t.woken.todo))
  loses_or_same = elim t.turned.turned [
    | inl same ↦ inr (
      ap (λ (w : Work). w.graph) t.turned.rest ∙ (ap (λ (w : Work). w.graph) same.0 ∙ ap (λ (w : Work). w.graph) t.wakes.rest),
      t.turned.rows.others (main n) (main_change n n)
          ∙ (ap (λ (w : Work). at w.rows (main n)) same.0 ∙ ap (λ (w : Work). at w.rows (main n)) t.wakes.rest),
      ap (λ (w : Work). w.todo) t.turned.rest ∙ ap (λ (w : Work). w.todo) same.0,
    )
    | inr loose ↦ inl (record {
      row = t.row;
      subject = t.subject;
      given = t.given;
      is_row = t.is_row;
      is_subject = t.is_subject;
      sees = t.sees;
      differs = λ is. loose.2 (ap (λ (w : Work). outcome_in (at w.rows (change n))) t.wakes.rest ∙ is);
      attached = let a = subst (λ (w : Work). IsAttached w n) t.wakes.rest loose.1 in record { needed = a.needed; stage = a.stage };
    })
  ]

  turned_waits : IsWaiting new n → ChangeLacks old n
  turned_waits waiting = elim loses_or_same [
    | inl right ↦ loses right
    | inr same ↦ waits (record {
      needed = subst (λ (g : NecessaryPart). Needed g (main n)) same.0 waiting.needed;
      stage = ap stage_in (sym same.1) ∙ waiting.stage;
    })
  ]

  turned_listed : new.todo.items ≢ [] → ChangeLacks old n
  turned_listed listed = elim loses_or_same [
    | inl right ↦ loses right
    | inr same ↦
        let one = one_of t.woken.todo.items (λ none. listed (ap (λ (v : Vec Point Global). v.items) same.2 ∙ none)) in
        gates one.0 ((t.wakes.listed one.0).0 one.1)
  ]

module _ (M : Meaning) (old mid : Parts) (n : NodeId) (before after : Counts) where
  -- its main waits then
  pub waits_lacks : IsTurned M old mid n before after → IsWaiting mid.work n → ChangeLacks old n
  waits_lacks (turned t rest same) waiting = turned_waits old mid.work n t waiting
  waits_lacks (built due anew calls gives) waiting = builds due

  -- or a point is to have its links
  pub listed_lacks : IsTurned M old mid n before after → mid.work.todo.items ≢ [] → ChangeLacks old n
  listed_lacks (turned t rest same) listed = turned_listed old mid.work n t listed
  listed_lacks (built due anew calls gives) listed = builds due

-- ---- a change that was taken from the heap

module _ (parts : Parts) (g : NecessaryPart) (n : NodeId) (rest : g ≡ record parts.work.graph { heap = g.heap }) where
  abbrev work : Work
  work = parts.work

  needed_before : Needed g (main n) → Needed work.graph (main n)
  needed_before = need_same g work.graph (sym (ap (λ (x : NecessaryPart). x.links) rest)) (sym (ap (λ (x : NecessaryPart). x.roots) rest)) (main n)

  pub lacks_before : ChangeLacks (record parts { work = record work { graph = g } }) n → ChangeLacks parts n
  lacks_before (sees_text t) = sees_text (record {
    row = t.row;
    subject = t.subject;
    value = t.value;
    is_row = t.is_row;
    is_subject = t.is_subject;
    shows = t.shows;
    type = t.type;
  })
  lacks_before (builds b) = builds (record {
    row = b.row;
    left = b.left;
    is_row = b.is_row;
    is_bind = b.is_bind;
    sees = b.sees;
    differs = b.differs;
  })
  lacks_before (loses l) = loses (record {
    row = l.row;
    subject = l.subject;
    given = l.given;
    is_row = l.is_row;
    is_subject = l.is_subject;
    sees = l.sees;
    differs = l.differs;
    attached = record { needed = needed_before l.attached.needed; stage = l.attached.stage };
  })
  lacks_before (waits w) = waits (record { needed = needed_before w.needed; stage = w.stage })
  lacks_before (gates p w) = gates p (record { reads = subst (λ (x : NecessaryPart). Reads x.links p (change n)) rest w.reads; stage = w.stage })
