use Rattle.std.proofs.Common.{arith, rules, pos, ◌≤ℤ◌, [], IfOk, OnErr, false, inl, FitsSigned, to_z, of_z, w64, ◌≡◌, Option, Some, refl, sym, ap, subst, ◌∙◌, length}
use Rattle.inc_value.specs.declared.node.NodeId.{NodeId}
use Rattle.std.proofs.lemmas.Int.{ints}
use Rattle.inc_value.specs.declared.outcome.Outcome.{Outcome}
use Rattle.inc_value.specs.Value.{type_of}
use Rattle.inc_value.specs.declared.ty.Ty.TheVariants.{Text}
use Rattle.inc_value.specs.declared.value.Value.{Value}
use Rattle.inc_value.specs.declared.outcome.Outcome.TheVariants.{Invalid, Val}
use Rattle.inc_terms.specs.Clock.{clock_value, IsTimed}
use Rattle.inc_terms.specs.Code.{def_of}
use Rattle.inc_terms.specs.Evaluate.{folded}
use Rattle.inc_terms.specs.Depend.{main}
use Rattle.inc_terms.specs.Graph.{Map, Fold, Freeze, Expert}
use Rattle.inc_terms.specs.Work.{taken_by}
use Rattle.expert_nodes.specs.Experts.{is_stale_at, kids_at}
use Rattle.point_map.specs.Rows.{at}
use Rattle.node_arena.specs.Graph.{graph_of}
use Rattle.node_outcomes.specs.Choosing.{held_in}
use Rattle.node_outcomes.specs.Row.{kept_in}
use Rattle.node_arena.specs.Arena.{row_at, row_of}
use Rattle.node_outcomes.specs.Computing.{is_expert_def, noted}
use Rattle.node_arena.specs.RightSideLaws.{ids_of}
use Rattle.node_outcomes.specs.Meaning.{functions_of}
use Rattle.node_outcomes.proofs.Computing.{base_fits, holder_computes, holder_typed, clock_typed, pair_typed, clock_ends, pair_computes, pair_ends, map_fits, map_gives, map_base, fold_fits, fold_gives, fold_base, call_ends, holds_value}
use Rattle.node_outcomes.proofs.Computing.{by_kept, expert_base, expert_fits, expert_gives, freeze_ends, freeze_fits, keeps_ends}
use Rattle.node_outcomes.proofs.Experts.{created, not_stale, plain_clock, plain_holder, plain_pair, untouched, untouched_err, untouched_ok}
use Rattle.node_outcomes.proofs.Lacking.{text_by, lacks_as, lacks_with, none_wanted, node_lacks, gives_lacks}
use Rattle.node_outcomes.proofs.Frozen.{freeze_lacks}
use Rattle.node_outcomes.proofs.ByClock.{reads_of}
use Rattle.node_outcomes.proofs.Pairs.{ShowsRight, pair_of}
use Rattle.node_outcomes.proofs.outcome.compute.Goals as goal

pub compute_map-requires-clause-fit : goal.compute_map-requires-clause-fit
compute_map-requires-clause-fit g c =
    let F = functions_of g.F.Functions c.args.functions.now in
    let old = noted c.args.rows.now c.args.ran.now.items (g.F.Functions.calls c.args.functions.now) in
    let f = c.in-Map.f in
    let nodes = c.as_slice.result.now in
    let row = row_of c.unwrap-row.result.now in
    let is_row : row_at c.args.arena.now c.args.node ≡ Some row = sym (rw c.unwrap-row.ensures at c.get.ensures) in
    let is_map : row.def ≡ Map f nodes = ap def_of c.in-Map.is ∙ ap (Map f) (sym c.as_slice.ensures) in
    map_fits F c.args.arena.now c.args.roots.now c.args.experts.now c.args.round old c.args.node row c.requires.types c.requires.arena is_row f nodes is_map

pub returns-in-Map-clause-computed : goal.returns-in-Map-clause-computed
returns-in-Map-clause-computed g c =
    let F = functions_of g.F.Functions c.args.functions.now in
    let old = noted c.args.rows.now c.args.ran.now.items (g.F.Functions.calls c.args.functions.now) in
    let f = c.in-Map.f in
    let nodes = c.as_slice.result.now in
    let row = row_of c.unwrap-row.result.now in
    let is_row : row_at c.args.arena.now c.args.node ≡ Some row = sym (rw c.unwrap-row.ensures at c.get.ensures) in
    let is_map : row.def ≡ Map f nodes = ap def_of c.in-Map.is ∙ ap (Map f) (sym c.as_slice.ensures) in
    call_ends F c.args.arena.now c.args.roots.now c.args.experts.now c.args.round old c.args.node row c.requires.types c.requires.arena is_row
    (F.value f) f.sig.gives (Map f nodes) nodes 1 false is_map refl (λ values. refl) refl
    (sym (not_stale c.args.arena.now c.args.experts.now c.args.node row c.requires.experts is_row (ap (λ d. is_expert_def (def_of d)) c.in-Map.is)))
    (λ call type shows. base_fits c.args.arena.now f.sig.gives row.ty (map_gives F c.args.arena.now c.args.roots.now c.args.experts.now c.args.round old c.args.node row c.requires.types c.requires.arena is_row f nodes is_map)
    (map_base F c.args.arena.now c.args.roots.now c.args.experts.now c.args.round old c.args.node row c.requires.types c.requires.arena is_row f nodes is_map
    (g.F.Functions.known c.args.functions.now) (ids_of (g.F.Functions.right c.args.functions.now)) (g.met.F.Functions.known_maps c.args.functions.now c.requires.sound) c.requires.fit)
    call type) (λ values w e. e) refl refl (λ call typed. typed)
    (noted c.compute_map.new.rows c.compute_map.new.ran.items (g.F.Functions.calls c.compute_map.new.functions))
    c.compute_map.result c.compute_map.ensures.computed

pub compute_fold-requires-clause-fit : goal.compute_fold-requires-clause-fit
compute_fold-requires-clause-fit g c =
    let F = functions_of g.F.Functions c.args.functions.now in
    let old = noted c.args.rows.now c.args.ran.now.items (g.F.Functions.calls c.args.functions.now) in
    let f = c.in-Fold.f in
    let from = c.in-Fold.initial in
    let nodes = c.as_slice-in-Fold.result.now in
    let row = row_of c.unwrap-row.result.now in
    let is_row : row_at c.args.arena.now c.args.node ≡ Some row = sym (rw c.unwrap-row.ensures at c.get.ensures) in
    let is_fold : row.def ≡ Fold f from nodes = ap def_of c.in-Fold.is ∙ ap (Fold f from) (sym c.as_slice-in-Fold.ensures) in
    fold_fits F c.args.arena.now c.args.roots.now c.args.experts.now c.args.round old c.args.node row c.requires.types c.requires.arena is_row f from nodes is_fold

pub returns-in-Fold-clause-computed : goal.returns-in-Fold-clause-computed
returns-in-Fold-clause-computed g c =
    let F = functions_of g.F.Functions c.args.functions.now in
    let old = noted c.args.rows.now c.args.ran.now.items (g.F.Functions.calls c.args.functions.now) in
    let f = c.in-Fold.f in
    let from = c.in-Fold.initial in
    let nodes = c.as_slice-in-Fold.result.now in
    let row = row_of c.unwrap-row.result.now in
    let is_row : row_at c.args.arena.now c.args.node ≡ Some row = sym (rw c.unwrap-row.ensures at c.get.ensures) in
    let is_fold : row.def ≡ Fold f from nodes = ap def_of c.in-Fold.is ∙ ap (Fold f from) (sym c.as_slice-in-Fold.ensures) in
    call_ends F c.args.arena.now c.args.roots.now c.args.experts.now c.args.round old c.args.node row c.requires.types c.requires.arena is_row
    (folded (F.value f) from) f.sig.gives (Fold f from nodes) nodes (length nodes) false is_fold refl (λ values. refl) refl
    (sym (not_stale c.args.arena.now c.args.experts.now c.args.node row c.requires.experts is_row (ap (λ d. is_expert_def (def_of d)) c.in-Fold.is)))
    (λ call type shows. base_fits c.args.arena.now f.sig.gives row.ty (fold_gives F c.args.arena.now c.args.roots.now c.args.experts.now c.args.round old c.args.node row c.requires.types c.requires.arena is_row f from nodes is_fold)
    (fold_base F c.args.arena.now c.args.roots.now c.args.experts.now c.args.round old c.args.node row c.requires.types c.requires.arena is_row f from nodes is_fold
    (g.F.Functions.known c.args.functions.now) (ids_of (g.F.Functions.right c.args.functions.now)) (g.met.F.Functions.known_maps c.args.functions.now c.requires.sound) c.requires.fit)
    call type) (λ values w e. e) refl refl (λ call typed. typed)
    (noted c.compute_fold.new.rows c.compute_fold.new.ran.items (g.F.Functions.calls c.compute_fold.new.functions))
    c.compute_fold.result c.compute_fold.ensures.computed

pub by_clock-requires : goal.by_clock-requires
by_clock-requires g c =
    let row = row_of c.unwrap-row.result.now in
    let is_row : row_at c.args.arena.now c.args.node ≡ Some row = sym (rw c.unwrap-row.ensures at c.get.ensures) in
    let d = c.unwrap-row.result.now.def in
    let fits : FitsSigned w64 c.time.result = search rules in
    let same : to_z w64 (of_z w64 c.time.result) ≡ c.args.arena.now.time = (let e = c.time.ensures in omega (arith, ints, fits, e)) in
    record {
      reads = reads_of d c.in-At.is;
      timed = subst (λ t. IsTimed t (def_of d)) (sym same) (c.requires.arena.timed c.args.node row is_row);
      time = subst (λ t. pos 0 ≤ℤ t) (sym same) c.requires.arena.time;
    }

pub returns-in-At-clause-computed : goal.returns-in-At-clause-computed
returns-in-At-clause-computed g c =
    let F = functions_of g.F.Functions c.args.functions.now in
    let old = noted c.args.rows.now c.args.ran.now.items (g.F.Functions.calls c.args.functions.now) in
    let row = row_of c.unwrap-row.result.now in
    let is_row : row_at c.args.arena.now c.args.node ≡ Some row = sym (rw c.unwrap-row.ensures at c.get.ensures) in
    let d = c.unwrap-row.result.now.def in
    let fits : FitsSigned w64 c.time.result = search rules in
    let same : to_z w64 (of_z w64 c.time.result) ≡ c.args.arena.now.time = (let e = c.time.ensures in omega (arith, ints, fits, e)) in
    clock_ends F c.args.arena.now c.args.roots.now c.args.experts.now c.args.round old c.args.node row c.requires.types c.requires.arena is_row c.by_clock.result
    (reads_of d c.in-At.is)
    (subst (λ t. IfOk c.by_clock.result (λ (o : Outcome). (v : Value) × (o ≡ Val v) × (clock_value t (def_of d) ≡ Some v))) same c.by_clock.ensures.value)

pub returns-in-Ok-clause-computed : goal.returns-in-Ok-clause-computed
returns-in-Ok-clause-computed g c =
    let row = row_of c.unwrap-row.result.now in
    let is_row : row_at c.args.arena.now c.args.node ≡ Some row = sym (rw c.unwrap-row.ensures at c.get.ensures) in
    holder_computes (functions_of g.F.Functions c.args.functions.now) c.args.arena.now c.args.roots.now c.args.experts.now c.args.round
    (noted c.args.rows.now c.args.ran.now.items (g.F.Functions.calls c.args.functions.now)) c.args.node row c.requires.types c.requires.arena is_row
    c.in-Ok.copy (holds_value c.unwrap-row.result.now.def c.in-Const.value c.in-Ok.copy c.in-Ok.ensures.ok c.in-Const.is)

pub returns-in-Some-clause-computed : goal.returns-in-Some-clause-computed
returns-in-Some-clause-computed g c =
    let F = functions_of g.F.Functions c.args.functions.now in
    let old = noted c.args.rows.now c.args.ran.now.items (g.F.Functions.calls c.args.functions.now) in
    let row = row_of c.unwrap-row.result.now in
    let is_row : row_at c.args.arena.now c.args.node ≡ Some row = sym (rw c.unwrap-row.ensures at c.get.ensures) in
    let d = c.unwrap-row.result.now.def in
    pair_ends F c.args.arena.now c.args.roots.now c.args.experts.now c.args.round old c.args.node row c.requires.types c.requires.arena is_row d refl (pair_of d c.in-If.is)
    c.in-Some.target c.shown.result (sym c.right_side.ensures ∙ c.in-Some.is) c.shown.ensures.outcome

pub returns-in-None-clause-computed : goal.returns-in-None-clause-computed
returns-in-None-clause-computed g c =
    let F = functions_of g.F.Functions c.args.functions.now in
    let old = noted c.args.rows.now c.args.ran.now.items (g.F.Functions.calls c.args.functions.now) in
    let row = row_of c.unwrap-row.result.now in
    let is_row : row_at c.args.arena.now c.args.node ≡ Some row = sym (rw c.unwrap-row.ensures at c.get.ensures) in
    let d = c.unwrap-row.result.now.def in
    pair_computes F c.args.arena.now c.args.roots.now c.args.experts.now c.args.round old c.args.node row c.requires.types c.requires.arena is_row d refl (pair_of d c.in-If.is) Invalid
    (subst (λ (x : Option NodeId). ShowsRight c.args.rows.now x Invalid) (sym c.in-None.is ∙ c.right_side.ensures) refl)

-- ---- what lacks room where there is no memory

pub returns-in-Map-clause-wants : goal.returns-in-Map-clause-wants
returns-in-Map-clause-wants g c =
    let F = functions_of g.F.Functions c.args.functions.now in
    let old = noted c.args.rows.now c.args.ran.now.items (g.F.Functions.calls c.args.functions.now) in
    let row = row_of c.unwrap-row.result.now in
    let is_row : row_at c.args.arena.now c.args.node ≡ Some row = sym (rw c.unwrap-row.ensures at c.get.ensures) in
    let f = c.in-Map.f in
    let nodes = c.as_slice.result.now in
    let is_map : row.def ≡ Map f nodes = ap def_of c.in-Map.is ∙ ap (Map f) (sym c.as_slice.ensures) in
    lacks_as c.compute_map.result _ _ (λ h. node_lacks (graph_of c.args.arena.now (held_in c.args.arena.now c.args.rows.now c.args.roots.now c.args.experts.now)) (is_stale_at c.args.experts.now) c.args.round c.args.rows.now _
    (length c.args.ran.now.items) c.args.node row f.sig.gives nodes is_row
    (map_gives F c.args.arena.now c.args.roots.now c.args.experts.now c.args.round old c.args.node row c.requires.types c.requires.arena is_row f nodes is_map)
    (ap (taken_by (graph_of c.args.arena.now (held_in c.args.arena.now c.args.rows.now c.args.roots.now c.args.experts.now)) c.args.node) is_map)
    (lacks_with false (is_stale_at c.args.experts.now) c.args.round c.args.rows.now _ (length c.args.ran.now.items) c.args.node f.sig.gives nodes
    (sym (not_stale c.args.arena.now c.args.experts.now c.args.node row c.requires.experts is_row (ap (λ d. is_expert_def (def_of d)) c.in-Map.is))) h))
    c.compute_map.ensures.wants

pub returns-in-Fold-clause-wants : goal.returns-in-Fold-clause-wants
returns-in-Fold-clause-wants g c =
    let F = functions_of g.F.Functions c.args.functions.now in
    let old = noted c.args.rows.now c.args.ran.now.items (g.F.Functions.calls c.args.functions.now) in
    let row = row_of c.unwrap-row.result.now in
    let is_row : row_at c.args.arena.now c.args.node ≡ Some row = sym (rw c.unwrap-row.ensures at c.get.ensures) in
    let f = c.in-Fold.f in
    let from = c.in-Fold.initial in
    let nodes = c.as_slice-in-Fold.result.now in
    let is_fold : row.def ≡ Fold f from nodes = ap def_of c.in-Fold.is ∙ ap (Fold f from) (sym c.as_slice-in-Fold.ensures) in
    lacks_as c.compute_fold.result _ _ (λ h. node_lacks (graph_of c.args.arena.now (held_in c.args.arena.now c.args.rows.now c.args.roots.now c.args.experts.now)) (is_stale_at c.args.experts.now) c.args.round c.args.rows.now _
    (length c.args.ran.now.items) c.args.node row f.sig.gives nodes is_row
    (fold_gives F c.args.arena.now c.args.roots.now c.args.experts.now c.args.round old c.args.node row c.requires.types c.requires.arena is_row f from nodes is_fold)
    (ap (taken_by (graph_of c.args.arena.now (held_in c.args.arena.now c.args.rows.now c.args.roots.now c.args.experts.now)) c.args.node) is_fold)
    (lacks_with false (is_stale_at c.args.experts.now) c.args.round c.args.rows.now _ (length c.args.ran.now.items) c.args.node f.sig.gives nodes
    (sym (not_stale c.args.arena.now c.args.experts.now c.args.node row c.requires.experts is_row (ap (λ d. is_expert_def (def_of d)) c.in-Fold.is))) h))
    c.compute_fold.ensures.wants

pub returns-in-Some-clause-wants : goal.returns-in-Some-clause-wants
returns-in-Some-clause-wants g c =
    let F = functions_of g.F.Functions c.args.functions.now in
    let old = noted c.args.rows.now c.args.ran.now.items (g.F.Functions.calls c.args.functions.now) in
    let row = row_of c.unwrap-row.result.now in
    let is_row : row_at c.args.arena.now c.args.node ≡ Some row = sym (rw c.unwrap-row.ensures at c.get.ensures) in
    let d = c.unwrap-row.result.now.def in
    none_wanted c.shown.result _ (λ w. gives_lacks (graph_of c.args.arena.now (held_in c.args.arena.now c.args.rows.now c.args.roots.now c.args.experts.now)) (is_stale_at c.args.experts.now) c.args.round c.args.rows.now _
    (length c.args.ran.now.items) c.args.node row w.0 is_row
    (pair_typed F c.args.arena.now c.args.roots.now c.args.experts.now c.args.round old c.args.node row c.requires.types c.requires.arena is_row d refl (pair_of d c.in-If.is)
    c.in-Some.target w.0 (sym c.right_side.ensures ∙ c.in-Some.is) w.1) w.2) c.shown.ensures.lacks

pub returns-in-At-clause-wants : goal.returns-in-At-clause-wants
returns-in-At-clause-wants g c =
    let F = functions_of g.F.Functions c.args.functions.now in
    let old = noted c.args.rows.now c.args.ran.now.items (g.F.Functions.calls c.args.functions.now) in
    let row = row_of c.unwrap-row.result.now in
    let is_row : row_at c.args.arena.now c.args.node ≡ Some row = sym (rw c.unwrap-row.ensures at c.get.ensures) in
    let d = c.unwrap-row.result.now.def in
    let fits : FitsSigned w64 c.time.result = search rules in
    let same : to_z w64 (of_z w64 c.time.result) ≡ c.args.arena.now.time = (let e = c.time.ensures in omega (arith, ints, fits, e)) in
    none_wanted c.by_clock.result _ (λ w. gives_lacks (graph_of c.args.arena.now (held_in c.args.arena.now c.args.rows.now c.args.roots.now c.args.experts.now)) (is_stale_at c.args.experts.now) c.args.round c.args.rows.now _
    (length c.args.ran.now.items) c.args.node row w.0 is_row
    (clock_typed F c.args.arena.now c.args.roots.now c.args.experts.now c.args.round old c.args.node row c.requires.types c.requires.arena is_row w.0 w.1) w.2)
    (subst (λ t. OnErr c.by_clock.result ((v : Value) × (clock_value t (def_of d) ≡ Some v) × (type_of v ≡ Text))) same c.by_clock.ensures.lacks)

pub returns-in-Err-clause-wants : goal.returns-in-Err-clause-wants
returns-in-Err-clause-wants g c =
    let F = functions_of g.F.Functions c.args.functions.now in
    let old = noted c.args.rows.now c.args.ran.now.items (g.F.Functions.calls c.args.functions.now) in
    let row = row_of c.unwrap-row.result.now in
    let is_row : row_at c.args.arena.now c.args.node ≡ Some row = sym (rw c.unwrap-row.ensures at c.get.ensures) in
    let v = c.in-Const.value in
    inl (
      refl,
      gives_lacks (graph_of c.args.arena.now (held_in c.args.arena.now c.args.rows.now c.args.roots.now c.args.experts.now)) (is_stale_at c.args.experts.now) c.args.round c.args.rows.now _
          (length c.args.ran.now.items) c.args.node row v is_row
          (holder_typed F c.args.arena.now c.args.roots.now c.args.experts.now c.args.round old c.args.node row c.requires.types c.requires.arena is_row v
          (holds_value c.unwrap-row.result.now.def v v refl c.in-Const.is)) (text_by v (λ not. let ok = c.in-Err.ensures.scalar not in cc)),
    )

-- ---- a freeze

pub compute_freeze-requires-clause-fit : goal.compute_freeze-requires-clause-fit
compute_freeze-requires-clause-fit g c =
    let F = functions_of g.F.Functions c.args.functions.now in
    let old = noted c.args.rows.now c.args.ran.now.items (g.F.Functions.calls c.args.functions.now) in
    let row = row_of c.unwrap-row.result.now in
    let is_row : row_at c.args.arena.now c.args.node ≡ Some row = sym (rw c.unwrap-row.ensures at c.get.ensures) in
    let f = c.in-Freeze.function in
    let kid = c.in-Freeze.kid in
    let is_freeze : row.def ≡ Freeze kid f = ap def_of c.in-Freeze.is in
    freeze_fits F c.args.arena.now c.args.roots.now c.args.experts.now c.args.round old c.args.node row c.requires.types c.requires.arena is_row kid f is_freeze

pub returns-in-Freeze-clause-computed : goal.returns-in-Freeze-clause-computed
returns-in-Freeze-clause-computed g c =
    let F = functions_of g.F.Functions c.args.functions.now in
    let old = noted c.args.rows.now c.args.ran.now.items (g.F.Functions.calls c.args.functions.now) in
    let row = row_of c.unwrap-row.result.now in
    let is_row : row_at c.args.arena.now c.args.node ≡ Some row = sym (rw c.unwrap-row.ensures at c.get.ensures) in
    let f = c.in-Freeze.function in
    let kid = c.in-Freeze.kid in
    let is_freeze : row.def ≡ Freeze kid f = ap def_of c.in-Freeze.is in
    let new = noted c.compute_freeze.new.rows c.compute_freeze.new.ran.items (g.F.Functions.calls c.compute_freeze.new.functions) in
    let marked = sym (not_stale c.args.arena.now c.args.experts.now c.args.node row c.requires.experts is_row (ap (λ d. is_expert_def (def_of d)) c.in-Freeze.is)) in
    by_kept (kept_in (at c.args.rows.now (main c.args.node))) (λ v is h. keeps_ends F c.args.arena.now c.args.roots.now c.args.experts.now c.args.round old c.args.node row c.requires.types c.requires.arena is_row kid f is_freeze v new c.compute_freeze.result is h)
    (λ none h. freeze_ends F c.args.arena.now c.args.roots.now c.args.experts.now c.args.round old c.args.node row c.requires.types c.requires.arena is_row kid f is_freeze new c.compute_freeze.result none marked h)
    c.compute_freeze.ensures.kept c.compute_freeze.ensures.computed

pub returns-in-Freeze-clause-wants : goal.returns-in-Freeze-clause-wants
returns-in-Freeze-clause-wants g c =
    let F = functions_of g.F.Functions c.args.functions.now in
    let old = noted c.args.rows.now c.args.ran.now.items (g.F.Functions.calls c.args.functions.now) in
    let row = row_of c.unwrap-row.result.now in
    let is_row : row_at c.args.arena.now c.args.node ≡ Some row = sym (rw c.unwrap-row.ensures at c.get.ensures) in
    let f = c.in-Freeze.function in
    let kid = c.in-Freeze.kid in
    let is_freeze : row.def ≡ Freeze kid f = ap def_of c.in-Freeze.is in
    let marked = sym (not_stale c.args.arena.now c.args.experts.now c.args.node row c.requires.experts is_row (ap (λ d. is_expert_def (def_of d)) c.in-Freeze.is)) in
    lacks_as c.compute_freeze.result _ _ (freeze_lacks F c.args.arena.now c.args.roots.now c.args.experts.now c.args.round old c.args.node row c.requires.types c.requires.arena is_row kid f is_freeze _ (length c.args.ran.now.items) marked) c.compute_freeze.ensures.wants

-- ---- an expert

pub compute_expert-requires-clause-created : goal.compute_expert-requires-clause-created
compute_expert-requires-clause-created g c =
    let row = row_of c.unwrap-row.result.now in
    let is_row : row_at c.args.arena.now c.args.node ≡ Some row = sym (rw c.unwrap-row.ensures at c.get.ensures) in
    created c.args.arena.now c.args.experts.now c.args.node row c.requires.experts is_row (ap (λ d. is_expert_def (def_of d)) c.in-Expert.is)

pub compute_expert-requires-clause-fit : goal.compute_expert-requires-clause-fit
compute_expert-requires-clause-fit g c =
    let F = functions_of g.F.Functions c.args.functions.now in
    let old = noted c.args.rows.now c.args.ran.now.items (g.F.Functions.calls c.args.functions.now) in
    let row = row_of c.unwrap-row.result.now in
    let is_row : row_at c.args.arena.now c.args.node ≡ Some row = sym (rw c.unwrap-row.ensures at c.get.ensures) in
    let f = c.in-Expert.function in
    let from = c.in-Expert.initial in
    let is_expert : row.def ≡ Expert f from [] = ap def_of c.in-Expert.is in
    expert_fits F c.args.arena.now c.args.roots.now c.args.experts.now c.args.round old c.args.node row c.requires.types c.requires.arena is_row f from is_expert

pub returns-in-Expert-clause-computed : goal.returns-in-Expert-clause-computed
returns-in-Expert-clause-computed g c =
    let F = functions_of g.F.Functions c.args.functions.now in
    let old = noted c.args.rows.now c.args.ran.now.items (g.F.Functions.calls c.args.functions.now) in
    let row = row_of c.unwrap-row.result.now in
    let is_row : row_at c.args.arena.now c.args.node ≡ Some row = sym (rw c.unwrap-row.ensures at c.get.ensures) in
    let f = c.in-Expert.function in
    let from = c.in-Expert.initial in
    let is_expert : row.def ≡ Expert f from [] = ap def_of c.in-Expert.is in
    let nodes = kids_at c.args.experts.now c.args.node in
    call_ends F c.args.arena.now c.args.roots.now c.args.experts.now c.args.round old c.args.node row c.requires.types c.requires.arena is_row
    (folded (F.value f) from) f.sig.gives (Expert f from []) nodes (length nodes) (is_stale_at c.args.experts.now c.args.node) is_expert refl
    (λ values. refl) refl refl
    (λ call type shows. base_fits c.args.arena.now f.sig.gives row.ty
    (expert_gives F c.args.arena.now c.args.roots.now c.args.experts.now c.args.round old c.args.node row c.requires.types c.requires.arena is_row f from is_expert)
    (expert_base F c.args.arena.now c.args.roots.now c.args.experts.now c.args.round old c.args.node row c.requires.types c.requires.arena is_row f from is_expert
    (g.F.Functions.known c.args.functions.now) (ids_of (g.F.Functions.right c.args.functions.now)) (g.met.F.Functions.known_maps c.args.functions.now c.requires.sound) c.requires.fit)
    call type) (λ values w e. e) refl refl (λ call typed. typed)
    (noted c.compute_expert.new.rows c.compute_expert.new.ran.items (g.F.Functions.calls c.compute_expert.new.functions))
    c.compute_expert.result c.compute_expert.ensures.computed

pub returns-in-Expert-clause-wants : goal.returns-in-Expert-clause-wants
returns-in-Expert-clause-wants g c =
    let F = functions_of g.F.Functions c.args.functions.now in
    let old = noted c.args.rows.now c.args.ran.now.items (g.F.Functions.calls c.args.functions.now) in
    let row = row_of c.unwrap-row.result.now in
    let is_row : row_at c.args.arena.now c.args.node ≡ Some row = sym (rw c.unwrap-row.ensures at c.get.ensures) in
    let f = c.in-Expert.function in
    let from = c.in-Expert.initial in
    let is_expert : row.def ≡ Expert f from [] = ap def_of c.in-Expert.is in
    let nodes = kids_at c.args.experts.now c.args.node in
    lacks_as c.compute_expert.result _ _ (λ h. node_lacks (graph_of c.args.arena.now (held_in c.args.arena.now c.args.rows.now c.args.roots.now c.args.experts.now)) (is_stale_at c.args.experts.now) c.args.round c.args.rows.now _
    (length c.args.ran.now.items) c.args.node row f.sig.gives nodes is_row
    (expert_gives F c.args.arena.now c.args.roots.now c.args.experts.now c.args.round old c.args.node row c.requires.types c.requires.arena is_row f from is_expert)
    (ap (taken_by (graph_of c.args.arena.now (held_in c.args.arena.now c.args.rows.now c.args.roots.now c.args.experts.now)) c.args.node) is_expert)
    (lacks_with (is_stale_at c.args.experts.now c.args.node) (is_stale_at c.args.experts.now) c.args.round c.args.rows.now _ (length c.args.ran.now.items) c.args.node
    f.sig.gives nodes refl h)) c.compute_expert.ensures.wants

-- ---- what is seen of experts

pub returns-in-Map-clause-experts : goal.returns-in-Map-clause-experts
returns-in-Map-clause-experts g c =
    let row = row_of c.unwrap-row.result.now in
    let is_row : row_at c.args.arena.now c.args.node ≡ Some row = sym (rw c.unwrap-row.ensures at c.get.ensures) in
    untouched c.args.arena.now c.args.experts.now c.args.node row c.requires.experts is_row (ap (λ d. is_expert_def (def_of d)) c.in-Map.is) c.compute_map.result

pub returns-in-Fold-clause-experts : goal.returns-in-Fold-clause-experts
returns-in-Fold-clause-experts g c =
    let row = row_of c.unwrap-row.result.now in
    let is_row : row_at c.args.arena.now c.args.node ≡ Some row = sym (rw c.unwrap-row.ensures at c.get.ensures) in
    untouched c.args.arena.now c.args.experts.now c.args.node row c.requires.experts is_row (ap (λ d. is_expert_def (def_of d)) c.in-Fold.is) c.compute_fold.result

pub returns-in-Freeze-clause-experts : goal.returns-in-Freeze-clause-experts
returns-in-Freeze-clause-experts g c =
    let row = row_of c.unwrap-row.result.now in
    let is_row : row_at c.args.arena.now c.args.node ≡ Some row = sym (rw c.unwrap-row.ensures at c.get.ensures) in
    untouched c.args.arena.now c.args.experts.now c.args.node row c.requires.experts is_row (ap (λ d. is_expert_def (def_of d)) c.in-Freeze.is) c.compute_freeze.result

pub returns-in-At-clause-experts : goal.returns-in-At-clause-experts
returns-in-At-clause-experts g c =
    let row = row_of c.unwrap-row.result.now in
    let is_row : row_at c.args.arena.now c.args.node ≡ Some row = sym (rw c.unwrap-row.ensures at c.get.ensures) in
    untouched c.args.arena.now c.args.experts.now c.args.node row c.requires.experts is_row (plain_clock (def_of c.unwrap-row.result.now.def) (reads_of c.unwrap-row.result.now.def c.in-At.is)) c.by_clock.result

pub returns-in-Some-clause-experts : goal.returns-in-Some-clause-experts
returns-in-Some-clause-experts g c =
    let row = row_of c.unwrap-row.result.now in
    let is_row : row_at c.args.arena.now c.args.node ≡ Some row = sym (rw c.unwrap-row.ensures at c.get.ensures) in
    untouched c.args.arena.now c.args.experts.now c.args.node row c.requires.experts is_row (plain_pair (def_of c.unwrap-row.result.now.def) (pair_of c.unwrap-row.result.now.def c.in-If.is)) c.shown.result

pub returns-in-None-clause-experts : goal.returns-in-None-clause-experts
returns-in-None-clause-experts g c =
    let row = row_of c.unwrap-row.result.now in
    let is_row : row_at c.args.arena.now c.args.node ≡ Some row = sym (rw c.unwrap-row.ensures at c.get.ensures) in
    untouched_ok c.args.arena.now c.args.experts.now c.args.node row c.requires.experts is_row (plain_pair (def_of c.unwrap-row.result.now.def) (pair_of c.unwrap-row.result.now.def c.in-If.is))

pub returns-in-Ok-clause-experts : goal.returns-in-Ok-clause-experts
returns-in-Ok-clause-experts g c =
    let row = row_of c.unwrap-row.result.now in
    let is_row : row_at c.args.arena.now c.args.node ≡ Some row = sym (rw c.unwrap-row.ensures at c.get.ensures) in
    untouched_ok c.args.arena.now c.args.experts.now c.args.node row c.requires.experts is_row (plain_holder c.unwrap-row.result.now.def c.in-Const.value c.in-Const.is)

pub returns-in-Err-clause-experts : goal.returns-in-Err-clause-experts
returns-in-Err-clause-experts g c =
    let row = row_of c.unwrap-row.result.now in
    let is_row : row_at c.args.arena.now c.args.node ≡ Some row = sym (rw c.unwrap-row.ensures at c.get.ensures) in
    untouched_err c.args.arena.now c.args.experts.now c.args.node row c.requires.experts is_row
