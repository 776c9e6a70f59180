-- Room is made in the worklist, and for a point that may be newly needed.
use Rattle.std.proofs.Common.{◌≡◌, inl, inr, None, Some, refl, sym, ap, ◌∙◌, Vec, Global}
use Rattle.std.specs.Prelude.{is_some}
use Rattle.inc_value.specs.declared.node.Point.{Point}
use Rattle.point_map.specs.Rows.{at, Changes, KeepsRows}
use Rattle.point_map.proofs.Places.{point_cases}
use Rattle.link_table.specs.Links.{Links, times}
use Rattle.necessity.specs.Need.{Roots, root_times}
use Rattle.height_order.specs.Levels.{level, or_zero}
use Rattle.necessary_graph.specs.Part.{NecessaryPart}
use Rattle.wiring.specs.Wiring.{ShowsSame}
use Rattle.wiring.specs.declared.work.Work.{Work}
use Rattle.wiring.proofs.Deciding.{need_same}

module _ (old : Work) (todo : Vec Point Global) (g : NecessaryPart) (items : todo.items ≡ old.todo.items) (links : g.links ≡ old.graph.links)
    (roots : g.roots ≡ old.graph.roots) (heap : KeepsRows old.graph.heap g.heap) where
  looks_with : ((a : Point) → level g.heights a ≡ level old.graph.heights a) → ShowsSame old (record old { todo = todo; graph = g })
  looks_with levels = record {
    rows = λ a. refl;
    links = λ a b. ap (λ (l : Links). times l a b) links;
    roots = λ a. ap (λ (r : Roots). root_times r a) roots;
    needed = λ a. (need_same g old.graph (sym links) (sym roots) a, need_same old.graph g links roots a);
    levels = levels;
    heap = λ a. ap is_some (heap a);
    todo = items;
    lists = record { pairs = refl; scoped = refl };
    round = record { roots = refl; deaths = refl; ran = refl; retries = refl; round = refl; experts = refl };
  }

  -- there was no memory for the point
  pub looks_still : KeepsRows old.graph.heights g.heights → ShowsSame old (record old { todo = todo; graph = g })
  looks_still kept = looks_with (λ a. ap or_zero (kept a))

  -- the point was added
  pub looks_opened : (p : Point) → at old.graph.heights p ≡ None → Changes old.graph.heights g.heights p (Some 0)
      → ShowsSame old (record old { todo = todo; graph = g })
  looks_opened p none added = looks_with (λ a. elim (point_cases a p) [
    | inl same ↦ ap (λ (x : Point). level g.heights x) same ∙ (ap or_zero (added.changed ∙ refl)
        ∙ (sym (ap or_zero none) ∙ ap (λ (x : Point). level old.graph.heights x) (sym same)))
    | inr differs ↦ ap or_zero (added.others a differs)
  ])
