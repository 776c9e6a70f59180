use Rattle.std.proofs.Common.{inl, false, Err, refl, sym, ap, subst, ◌∙◌, arith}
use Rattle.std.specs.Prelude.{IsTrue}
use Rattle.inc_terms.specs.Clock.{IsTimed}
use Rattle.inc_terms.specs.Code.{def_of}
use Rattle.inc_terms.specs.Depend.{main, change}
use Rattle.necessity.specs.Need.{Roots, root_times}
use Rattle.inc_value.specs.declared.node.NodeId.{NodeId}
use Rattle.node_arena.specs.Arena.{Arena}
use Rattle.point_map.specs.Rows.{Rows, at}
use Rattle.inc_terms.specs.Within.{Given}
use Rattle.node_outcomes.specs.Row.{kept_in, outcome_in}
use Rattle.stabilizer.specs.Kept.{graph_in}
use Rattle.graph.proofs.Adding.{Passes, answers_as, answers_untimed}
use Rattle.graph.proofs.Freezes.{freezes_as}
use Rattle.graph.proofs.Listing.{added_others, added_own}
use Rattle.graph.proofs.Seeing.{beside_as, built_still}
use Rattle.graph.proofs.Sound.{AddAnswers, adds_of, sound_still, answer_ready, answer_given, answer_fit}
use Rattle.graph.proofs.graph.Graph.add.Goals as goal
use Rattle.graph.proofs.graph.Graph.add.Goals.{in-Ok-added, in-Err-added}

no_truth : IsTrue false → ⊥
no_truth e = cc

pub invariant_of-self : goal.invariant_of-self
invariant_of-self g c = (
  (let a = c.add-added.ensures in
      let answers : AddAnswers c.self.inside.parts.arena c.add-added.new.self.arena (def_of c.args.def) c.args.ty c.add-added.result
      = record { added = a.adds.added; given = a.adds.given; err = a.adds.err; fresh = a.adds.id; unknown = a.unknown.1 } in
      let f = c.self.inside.functions in
      let known = rw (← c.self.view_is) at c.requires.known in
      sound_still _ c.self.inside.parts c.add-added.new.self c.self.inside.observers.made c.self.inside.rooted c.self.inside.since c.self.inside.refused c.self.invariant.0
      (rw (← c.self.view_is) at c.in-Ok.ensures.unbroken) (answer_ready (g.F.Functions.known f) (g.F.Functions.value f) (g.F.Functions.right f)
      (g.met.F.Functions.sides f c.self.invariant.1) c.self.inside.parts c.add-added.new.self (def_of c.args.def) c.args.ty c.add-added.result answers known a.adds.kept.work.sound a.adds.ready a.adds.err_ready)
      (λ p. ap (λ (r : Roots). root_times r p) a.adds.roots)
      (freezes_as (graph_in c.self.inside.parts) (graph_in c.add-added.new.self) c.self.inside.since
      (λ n early. (let past = c.self.invariant.0.past in a.adds.keeps n (omega (arith, early, past))))
      (λ n early. ap kept_in (let past = c.self.invariant.0.past in a.adds.rows (main n) (omega (arith, early, past)))))
      (answer_given _ _ (def_of c.args.def) c.args.ty c.add-added.result answers) (λ n given. a.adds.rows (main n) given)),
  c.self.invariant.1,
  (let a = c.add-added.ensures in
      let answers : AddAnswers c.self.inside.parts.arena c.add-added.new.self.arena (def_of c.args.def) c.args.ty c.add-added.result
      = record { added = a.adds.added; given = a.adds.given; err = a.adds.err; fresh = a.adds.id; unknown = a.unknown.1 } in
      let f = c.self.inside.functions in
      let known = rw (← c.self.view_is) at c.requires.known in
      answer_fit (g.F.Functions.known f) (g.F.Functions.right f) (g.met.F.Functions.sides f c.self.invariant.1) c.self.inside.parts.arena
      c.add-added.new.self.arena (def_of c.args.def) c.args.ty c.add-added.result answers known a.adds.kept.work.sound a.adds.keeps c.self.inside.parts.work
      c.self.invariant.0.kept.work c.self.invariant.2),
)

pub returns-then-not-is_timed : goal.returns-then-not-is_timed
returns-then-not-is_timed g c =
    let untimed = λ (timed : IsTimed c.self.inside.parts.arena.time (def_of c.args.def)).
    let e = c.if-not-is_timed.ensures.1 (subst (λ (a : Arena). IsTimed a.time (def_of c.args.def)) (sym c.arena.ensures) timed) in
    no_truth e in
    rw (← c.self.view_is, c.untimed_fault.ensures)
    (answers_untimed _ (rw (← c.self.view_is) at c.in-Ok.ensures.unbroken) (def_of c.args.def) c.args.ty untimed)

pub returns : goal.returns
returns g c =
    let a = c.add-added.ensures in
    let passes : Passes c.add-added.result c.match-added.result = elim c.match-added.branch [
      | in-Ok-added w ↦ subst (λ r. Passes r c.match-added.result) (sym w.in-Ok-added.is) w.result-is
      | in-Err-added w ↦ subst (λ r. Passes r c.match-added.result) (sym w.in-Err-added.is) (w.result-is ∙ ap Err w.add_fault.ensures)
    ] in
    let answers : AddAnswers c.self.inside.parts.arena c.add-added.new.self.arena (def_of c.args.def) c.args.ty c.add-added.result
    = record { added = a.adds.added; given = a.adds.given; err = a.adds.err; fresh = a.adds.id; unknown = a.unknown.1 } in
    let beside = beside_as c.self.inside.functions c.self.inside.parts c.add-added.new.self c.self.inside.observers c.self.inside.rooted c.self.inside.since
    c.self.inside.refused (Given c.self.inside.parts.arena.given) a.adds.ran a.adds.links a.adds.roots a.adds.rows
    (λ n given. built_still c.self.inside.parts c.add-added.new.self n (a.adds.keeps n given) (ap outcome_in (a.adds.rows (change n) given))
    (ap (λ (m : Rows NodeId). at m (change n)) a.adds.right_sides))
    (added_others c.self.inside.parts c.add-added.new.self (def_of c.args.def) c.add-added.result a.adds.experts a.adds.err_work a.adds.id)
    (λ n. inl (a.adds.cutoffs n)) in
    let timed = subst (λ (a : Arena). IsTimed a.time (def_of c.args.def)) c.arena.ensures (c.if-not-is_timed.ensures.0 refl) in
    rw (← c.self.view_is) (answers_as _ _ (def_of c.args.def) c.args.ty (rw (← c.self.view_is) at c.in-Ok.ensures.unbroken) timed
    c.add-added.result c.match-added.result passes beside
    (adds_of _ _ (def_of c.args.def) c.args.ty c.add-added.result _ refl refl refl refl answers a.adds.row
    (added_own c.self.inside.parts c.add-added.new.self (def_of c.args.def) c.add-added.result c.self.invariant.0.kept.work.experts a.adds.experts a.adds.fresh)
    beside) a.adds.err a.unknown a.wrong_type a.full)
