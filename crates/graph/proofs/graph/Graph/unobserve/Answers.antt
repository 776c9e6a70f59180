use Rattle.std.proofs.Common.{List, refl, sym, ap, subst}
use Rattle.inc_terms.specs.Depend.{main, change}
use Rattle.inc_value.specs.declared.node.NodeId.{NodeId}
use Rattle.point_map.specs.Rows.{Rows, at}
use Rattle.stabilizer.specs.Weights.{SidesFit}
use Rattle.node_outcomes.specs.Computing.{seen_of}
use Rattle.stabilizer.specs.Look.{last_of}
use Rattle.node_outcomes.specs.Row.{outcome_in, cutoff_in, kept_in}
use Rattle.expert_nodes.specs.Experts.{ExpertPlace, is_stale_at, kids_at}
use Rattle.node_outcomes.specs.Progress.{Progress}
use Rattle.node_outcomes.specs.Meaning.{meaning_of}
use Rattle.graph.specs.Inside.{FitsInside}
use Rattle.observers.specs.declared.observer.Observer.{Observer}
use Rattle.node_arena.specs.Arena.{Arena, row_at}
use Rattle.graph.proofs.Observing.{front_among}
use Rattle.graph.proofs.Seeing.{built_still}
use Rattle.graph.proofs.Unobserving.{sound_unmade, sound_ended, is_root, roots_fewer}
use Rattle.graph.proofs.graph.Graph.unobserve.Goals as goal

pub unroot-requires-clause-root : goal.unroot-requires-clause-root
unroot-requires-clause-root g c =
    let is = c.in-Ok.ensures.node in
    let whole = rw (← c.self.view_is) at c.in_ok-check.ensures.unbroken in
    is_root c.self.inside.parts c.self.inside.observers.made c.self.inside.rooted c.self.inside.since c.in-Ok.node (c.self.invariant.0.unbroken whole).roots
    (front_among c.self.inside.observers.made c.self.inside.rooted c.args.observer.0 c.in-Ok.node c.if-observer-self.true is)

pub invariant_of-self : goal.invariant_of-self
invariant_of-self g c = (
  (let is = c.in-Ok.ensures.node in
      let u = c.unroot.ensures in
      subst (λ (os : List Observer). FitsInside (meaning_of g.F.Functions c.self.inside.functions)
      c.unroot.new.self os c.self.inside.rooted c.self.inside.since c.self.inside.refused) (sym c.in-Ok.ensures.ended)
      (sound_ended _ c.self.inside.parts c.unroot.new.self c.self.inside.observers.made c.self.inside.rooted c.args.observer.0
      c.self.inside.since c.self.inside.refused c.self.invariant.0 c.in-Ok.node is (rw (← c.self.view_is) at c.in_ok-check.ensures.unbroken) c.if-observer-self.true (u.ready _) u.rooted u.arena u.rows)),
  c.self.invariant.1,
  subst (SidesFit (g.F.Functions.known c.self.inside.functions) (g.F.Functions.right c.self.inside.functions)) (sym c.unroot.ensures.arena)
      c.self.invariant.2,
)

pub invariant_of-self-else-observer-self : goal.invariant_of-self-else-observer-self
invariant_of-self-else-observer-self g c = (
  (let is = c.in-Ok.ensures.node in
      subst (λ (os : List Observer). FitsInside (meaning_of g.F.Functions c.self.inside.functions)
      c.self.inside.parts os c.self.inside.rooted c.self.inside.since c.self.inside.refused) (sym c.in-Ok.ensures.ended)
      (sound_unmade _ c.self.inside.parts c.self.inside.parts c.self.inside.observers.made c.self.inside.rooted c.args.observer.0
      c.self.inside.since c.self.inside.refused c.self.invariant.0 c.in-Ok.node is c.if-observer-self.false)),
  c.self.invariant.1,
  c.self.invariant.2,
)

pub returns-then-observer-self-clause-ended : goal.returns-then-observer-self-clause-ended
returns-then-observer-self-clause-ended g c =
    let is = c.in-Ok.ensures.node in
    let u = c.unroot.ensures in
    rw (← c.self.view_is) (record {
      node = c.in-Ok.node;
      was = is;
      observers = c.in-Ok.ensures.ended;
      top = record { functions = refl; rooted = refl; since = refl; refused = refl; ran = ap (λ v. v.items) u.ran; notices = c.end.ensures.notices };
      nodes = u.arena;
      of_nodes = record {
        shown = λ n of. ap (λ (m : Rows Progress). seen_of (at m (main n))) u.rows;
        chosen = λ n of. ap (λ (m : Rows Progress). outcome_in (at m (change n))) u.rows;
        built = λ n of. built_still c.self.inside.parts c.unroot.new.self n (ap (λ (a : Arena). row_at a n) u.arena)
            (ap (λ (m : Rows Progress). outcome_in (at m (change n))) u.rows) (ap (λ (m : Rows NodeId). at m (change n)) u.right_sides);
        last = λ n of. ap (λ (m : Rows Progress). last_of (at m (main n))) u.rows;
        frozen = λ n of. ap (λ (m : Rows Progress). kept_in (at m (main n))) u.rows;
        lists = λ n of. ap (λ (e : List ExpertPlace). kids_at e n) u.experts;
        marks = λ n of. ap (λ (e : List ExpertPlace). is_stale_at e n) u.experts;
      };
      cutoff = λ n. ap (λ (m : Rows Progress). cutoff_in (at m (main n))) u.rows;
      fewer_links = u.unrooted.sweep.fewer;
      fewer_roots = roots_fewer _ _ (main c.in-Ok.node) u.roots;
    })
