-- Points that come into the heap.
use Rattle.std.proofs.Common.{◌≡◌, ◌⊎◌, inl, inr, ℕ, ◌++◌, Bool, true, false, [], ◌∷◌, Option, None, Some, refl, sym, ap, subst, ◌∙◌, arith, Vec, Global}
use Rattle.std.specs.Prelude.{is_some, IsSome, option_map}
use Rattle.std.proofs.lemmas.Bool.{cases_lt}
use Rattle.inc_value.specs.Choice.{Among}
use Rattle.inc_value.specs.declared.node.Point.{Point}
use Rattle.point_map.specs.Rows.{Rows, at, Holds, Changes}
use Rattle.link_table.specs.Links.{Links, Reads, times}
use Rattle.height_order.specs.Levels.{level}
use Rattle.necessary_graph.specs.Part.{NecessaryPart, Needed, IsInStep}
use Rattle.necessary_graph.specs.Readers.{HasReaders}
use Rattle.necessary_graph.proofs.Standing.{has_level, put_in_step}
use Rattle.stabilize_round.proofs.Parts.{bool_cases}
use Rattle.node_outcomes.specs.Row.{IsRewritten, settled_in, with_stage}
use Rattle.wiring.specs.Graph.{HasLinks, died_at}
use Rattle.wiring.proofs.Placing.{among_before, among_last}
use Rattle.inc_value.specs.declared.outcome.Outcome.{Outcome}
use Rattle.wiring.specs.Wiring.{KeepsGraph, IsEnqueued, AreEnqueued, IsMarked, IsNewlyNeeded, Stops, TellsReaders}
use Rattle.node_outcomes.specs.Progress.{Progress}
use Rattle.node_outcomes.specs.declared.row.Stage.TheVariants.{Bare}
use Rattle.wiring.specs.declared.work.Work.{Work}

-- where just the heap changed, all else of the graph stays
pub keeps_graph : (old new : NecessaryPart) → new ≡ record old { heap = new.heap } → KeepsGraph old new
keeps_graph old new e = record {
  links = ap (λ (g : NecessaryPart). g.links) e;
  roots = ap (λ (g : NecessaryPart). g.roots) e;
  heights = ap (λ (g : NecessaryPart). g.heights) e;
}

-- a needed point was inserted that wasn't settled
pub inserted : (old new : Work) (q : Point) → new.graph ≡ record old.graph { heap = new.graph.heap }
    → Changes old.graph.heap new.graph.heap q (at old.graph.heights q) → IsInStep old.graph → Needed old.graph q
    → settled_in old.round (at old.rows q) ≡ false → IsEnqueued old new q
inserted old new q e ch step needed unsettled =
    let there = step.there q needed in
    let now : Holds new.graph.heap q = ap is_some ch.changed ∙ there in
    record {
      graph = keeps_graph old.graph new.graph e;
      others = ch.others;
      kept = λ h. now;
      told = inl now;
      only = λ h. inr unsettled;
      step = subst IsInStep (sym e) (put_in_step old.graph step new.graph.heap q (level old.graph.heights q) needed refl
          (record { changed = ch.changed ∙ has_level (at old.graph.heights q) there; others = ch.others }));
    }

-- ---- the points that read one

-- the point reads it and isn't passed over, or not
is_told : (links : Links) (q r : Point) (over : Bool) → (Reads links r q × (over ≡ false)) ⊎ (Reads links r q → over ≡ false → ⊥)
is_told links q r true = inr (λ _ e. cc)
is_told links q r false = elim (cases_lt 0 (times links r q)) [ inl h ↦ inl (h, refl) | inr none ↦ inr (λ h _. omega (arith, h, none)) ]

-- they were inserted, but for those that are passed over
module _ (old new : Work) (q : Point) (step : IsInStep old.graph) (over : Point → Bool)
    (so : HasReaders old.graph.heights old.graph.links q over old.graph.heap new.graph.heap) where
  put : (r : Point) → Reads old.graph.links r q → over r ≡ false → Holds new.graph.heap r
  put r reads f = ap is_some (so.put r reads f) ∙ step.there r (step.readers r q reads)

  pub readers_kept : (r : Point) → Holds old.graph.heap r → Holds new.graph.heap r
  readers_kept r h = elim (is_told old.graph.links q r (over r)) [
    | inl told ↦ put r told.0 told.1
    | inr none ↦ ap is_some (so.others r none) ∙ h
  ]

  pub readers_told : (r : Point) → Reads old.graph.links r q → Holds new.graph.heap r ⊎ (over r ≡ true)
  readers_told r reads = elim (bool_cases (over r)) [ inl t ↦ inr t | inr f ↦ inl (put r reads f) ]

  pub readers_only : (r : Point) → Holds new.graph.heap r → Holds old.graph.heap r ⊎ (Reads old.graph.links r q × (over r ≡ false))
  readers_only r h = elim (is_told old.graph.links q r (over r)) [
    | inl told ↦ inr told
    | inr none ↦ inl (sym (ap is_some (so.others r none)) ∙ h)
  ]

-- so it is where those are passed over that were settled
pub readers_enqueued : (old new : Work) (q : Point) → new.graph ≡ record old.graph { heap = new.graph.heap } → IsInStep old.graph
    → HasReaders old.graph.heights old.graph.links q (λ (r : Point). settled_in old.round (at old.rows r)) old.graph.heap new.graph.heap → AreEnqueued old new q
readers_enqueued old new q e step so =
    let over = λ (r : Point). settled_in old.round (at old.rows r) in record {
      graph = keeps_graph old.graph new.graph e;
      kept = readers_kept old new q step over so;
      told = readers_told old new q step over so;
      only = readers_only old new q step over so;
    }

-- ---- a point that is newly needed

settled_bare : (round : ℕ) (row : Option Progress) → settled_in round (option_map (with_stage Bare) row) ≡ settled_in round row
settled_bare round None = refl
settled_bare round (Some k) = refl

-- its stage is Bare, it was enqueued, and it is the last of the worklist
pub woken : (old mid : Work) (todo : Vec Point Global) (rows : Rows Progress) (q : Point) → IsRewritten old.rows rows q (with_stage Bare)
    → IsEnqueued (record old { rows = rows }) mid q → mid ≡ record old { graph = mid.graph; rows = rows } → Holds old.rows q
    → todo.items ≡ old.todo.items ++ q ∷ [] → IsNewlyNeeded old (record mid { todo = todo }) q
woken old mid todo rows q w e rest there more =
    let settled : settled_in old.round (at rows q) ≡ settled_in old.round (at old.rows q) =
    ap (settled_in old.round) w.changed ∙ settled_bare old.round (at old.rows q) in
    record {
      graph = e.graph;
      others = e.others;
      kept = e.kept;
      told = λ _. elim e.told [ inl h ↦ inl h | inr t ↦ inr (sym settled ∙ t) ];
      only = λ h. elim (e.only h) [ inl k ↦ inl k | inr f ↦ inr (there, sym settled ∙ f) ];
      rows = subst (λ (r : Rows Progress). IsRewritten old.rows r q (with_stage Bare)) (sym (ap (λ (k : Work). k.rows) rest)) w;
      listed = λ _. subst (Among q) (sym more) (among_last q old.todo.items);
      pushed = λ _. more;
      leaf = λ none. absurd (let none' = ap is_some none in let k = sym none' ∙ there in cc);
      todo = λ p a. subst (Among p) (sym more) (among_before p q old.todo.items a);
      lists = record { pairs = ap (λ (k : Work). k.pairs) rest; scoped = ap (λ (k : Work). k.scoped) rest };
      round = record {
        roots = ap (λ (k : Work). k.roots) rest;
        deaths = ap (λ (k : Work). k.deaths) rest;
        ran = ap (λ (k : Work). k.ran) rest;
        retries = ap (λ (k : Work). k.retries) rest;
        round = ap (λ (k : Work). k.round) rest;
        experts = ap (λ (k : Work). k.experts) rest;
      };
      step = e.step;
    }

-- ---- a point of a dead node that is newly needed

module _ (old : Work) (q : Point) (step_is : IsInStep old.graph) (dead : at old.rows q ≡ None) where
  -- it has no row, so none has another stage
  bare_rows : IsRewritten old.rows old.rows q (with_stage Bare)
  bare_rows = record {
    changed = dead ∙ sym (ap (option_map (with_stage Bare)) dead);
    others = λ p ne. refl;
  }

  no_row : Holds old.rows q → ⊥
  no_row h = let none = ap is_some dead in cc

  woken_with : (todo : Vec Point Global) → (HasLinks old q → todo.items ≡ old.todo.items ++ q ∷ []) → (died_at old q.node ≡ None → todo.items ≡ old.todo.items)
      → ((p : Point) → Among p old.todo.items → Among p todo.items) → IsNewlyNeeded old (record old { todo = todo }) q
  woken_with todo pushed leaf before = record {
    graph = record { links = refl; roots = refl; heights = refl };
    others = λ p ne. refl;
    kept = λ h. h;
    told = λ h. absurd (no_row h);
    only = λ h. inl h;
    rows = bare_rows;
    listed = λ h. subst (Among q) (sym (pushed h)) (among_last q old.todo.items);
    pushed = pushed;
    leaf = λ none. leaf;
    todo = before;
    lists = record { pairs = refl; scoped = refl };
    round = record { roots = refl; deaths = refl; ran = refl; retries = refl; round = refl; experts = refl };
    step = step_is;
  }

  -- of one that died in this round: it is the last of the worklist
  pub ghost_woken : IsSome (died_at old q.node) → (todo : Vec Point Global) → todo.items ≡ old.todo.items ++ q ∷ []
      → IsNewlyNeeded old (record old { todo = todo }) q
  ghost_woken died todo more = woken_with todo (λ h. more) (λ none. absurd (let e = ap is_some none in let d = died in cc))
      (λ p a. subst (Among p) (sym more) (among_before p q old.todo.items a))

  -- of another one: nothing changes
  pub leaf_woken : died_at old q.node ≡ None → IsNewlyNeeded old old q
  leaf_woken alive = record {
    graph = record { links = refl; roots = refl; heights = refl };
    others = λ p ne. refl;
    kept = λ h. h;
    told = λ h. absurd (no_row h);
    only = λ h. inl h;
    rows = bare_rows;
    listed = λ h. absurd (no_links h);
    pushed = λ h. absurd (no_links h);
    leaf = λ none alive. refl;
    todo = λ p a. a;
    lists = record { pairs = refl; scoped = refl };
    round = record { roots = refl; deaths = refl; ran = refl; retries = refl; round = refl; experts = refl };
    step = step_is;
  }
    where
      no_links : HasLinks old q → ⊥
      no_links (inl h) = no_row h
      no_links (inr died) = let none = ap is_some alive in let d = died in cc

-- a settled point isn't inserted
pub settled_already : (old : Work) (q : Point) → IsInStep old.graph → settled_in old.round (at old.rows q) ≡ true → IsEnqueued old old q
settled_already old q step settled = record {
  graph = record { links = refl; roots = refl; heights = refl };
  others = λ p ne. refl;
  kept = λ h. h;
  told = inr settled;
  only = λ h. inl h;
  step = step;
}

-- a point that isn't needed isn't inserted
pub unneeded_stays : (g : NecessaryPart) (p : Point) → (Needed g p → ⊥) → IsMarked g g p
unneeded_stays g p none = record {
  graph = record { links = refl; roots = refl; heights = refl };
  others = λ q ne. refl;
  told = λ need. absurd (none need);
  only = λ h. inl h;
}

-- ---- a point that was settled

-- its readers were told
pub tells : (old : Work) (rows : Rows Progress) (new : Work) (p : Point) (o : Outcome) → AreEnqueued (record old { rows = rows }) new p
    → new ≡ record old { graph = new.graph; rows = rows } → (Stops old p o → ⊥) → TellsReaders old new p o
tells old rows new p o e rest never = record {
  kept = e.kept;
  told = λ _ r reads. subst (λ (w : Work). Holds new.graph.heap r ⊎ (settled_in w.round (at w.rows r) ≡ true)) (sym rest) (e.told r reads);
  only = λ r h. subst (λ (w : Work). Holds old.graph.heap r ⊎ (Reads old.graph.links r p × (settled_in w.round (at w.rows r) ≡ false))) (sym rest) (e.only r h);
  stops = λ stop. absurd (never stop);
}

-- they needn't be
pub tells_none : (old : Work) (rows : Rows Progress) (p : Point) (o : Outcome) → Stops old p o → TellsReaders old (record old { rows = rows }) p o
tells_none old rows p o stop = record { kept = λ r h. h; told = λ never. absurd (never stop); only = λ r h. inl h; stops = λ s r h. h }
