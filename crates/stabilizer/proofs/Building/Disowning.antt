-- Nodes that were added to a bind's scope leave it, lose their points, and are dropped.
use Rattle.std.proofs.Common.{◌≡◌, ◌≢◌, ◌⊎◌, inl, inr, ℕ, ◌<◌, ◌≤◌, ◌+◌, ◌-◌, List, [], Option, None, Some, refl, sym, ap, subst, ◌∙◌, arith}
use Rattle.std.specs.Prelude.{is_some, ◌↔◌}
use Rattle.std.proofs.lemmas.Bool.{cases_lt}
use Rattle.std.proofs.lemmas.Option.{none-some}
use Rattle.inc_value.specs.Choice.{Among}
use Rattle.inc_value.specs.declared.node.NodeId.{NodeId}
use Rattle.inc_value.specs.declared.node.Point.{Point}
use Rattle.inc_terms.specs.Depend.{main, change}
use Rattle.inc_terms.specs.Graph.{Row}
use Rattle.necessary_graph.specs.Part.{Needed, IsInStep}
use Rattle.node_arena.specs.Arena as nodes
use Rattle.node_arena.specs.Arena.{Arena, row_at, live, IsLive}
use Rattle.node_arena.specs.Sound.{IsSoundArena, IsFirstSince}
use Rattle.node_lists.specs.Listed.{Listed}
use Rattle.expert_nodes.specs.Experts.{ExpertPlace, expert_at}
use Rattle.node_outcomes.specs.Computing.{has_part}
use Rattle.point_map.specs.Rows.{Rows, at, Holds}
use Rattle.scopes.specs.Scopes.{Scopes, StandsIn, Inside, direct, nested, IsDying, Empties, Gives}
use Rattle.stabilize_round.proofs.Points.{node_or_other}
use Rattle.wiring.specs.Places.{ChangesNode}
use Rattle.wiring.specs.Wiring.{KeepsRound}
use Rattle.wiring.specs.declared.work.Work.{Work}
use Rattle.wiring.proofs.Deciding.{need_same}
use Rattle.wiring.proofs.Linking.{some_or_none}
use Rattle.wiring.proofs.Placing.{at_node}
use Rattle.stabilizer.specs.Building.{KeepsAllBut, MayLeave, MayDisown, HaveLeft, HasDisowned, DropsSince, KeepsOlder}
use Rattle.stabilizer.specs.declared.parts.Parts.{Parts}
use Rattle.stabilizer.proofs.Building.Adopting.{rounds_kept, round_same, round_whole}
use Rattle.stabilizer.proofs.Building.Growing.{holds_none, none_holds}

-- ---- nodes leave a scope

-- some of the nodes that stood in a bind's scope have left it with their points; the others wait to be given, and have theirs
pub record AreLeaving (old now : Parts) (b : NodeId) : Type 0 where
  pub dying : (n : NodeId) → IsDying now.scopes n → StandsIn old.scopes n b
  pub out : (p : Point) → StandsIn old.scopes p.node b
      → IsDying now.scopes p.node ⊎ ((at now.work.rows p ≡ None) × (at now.work.graph.heights p ≡ None))
  pub waits : (p : Point) → IsDying now.scopes p.node
      → (at now.work.rows p ≡ at old.work.rows p) × (at now.work.graph.heights p ≡ at old.work.graph.heights p)
  pub others : (p : Point) → (StandsIn old.scopes p.node b → ⊥)
      → (at now.work.rows p ≡ at old.work.rows p) × (at now.work.graph.heights p ≡ at old.work.graph.heights p)
  pub stands : (n s : NodeId) → StandsIn now.scopes n s ↔ (StandsIn old.scopes n s × (s ≢ b))
  pub rest : KeepsAllBut old.work now.work
  pub arena : now.arena ≡ old.arena
  pub timed : now.timed ≡ old.timed
  pub pending : now.dying.items ≡ old.dying.items
  pub ran : now.ran ≡ old.ran

-- where no scope is within it, what is inside a scope stands in it
in_scope : (s : Scopes) (b : NodeId) → ((n m : NodeId) → StandsIn s n m → StandsIn s m b → ⊥) → (n : NodeId) → Inside s b n → StandsIn s n b
in_scope s b none n (direct h) = h
in_scope s b none n (nested {mid} h i) = absurd (none n mid h (in_scope s b none mid i))

module _ (old now : Parts) (b : NodeId) (may : MayLeave old b) (dying : (n : NodeId) → IsDying now.scopes n ↔ Inside old.scopes b n)
    (standing : Empties old.scopes now.scopes b) (work : now.work ≡ old.work) (arena : now.arena ≡ old.arena) (timed : now.timed ≡ old.timed)
    (pending : now.dying.items ≡ old.dying.items) (ran : now.ran ≡ old.ran) where
  same_row : (p : Point) → at now.work.rows p ≡ at old.work.rows p
  same_row p = ap (λ (w : Work). at w.rows p) work

  same_point : (p : Point) → at now.work.graph.heights p ≡ at old.work.graph.heights p
  same_point p = ap (λ (w : Work). at w.graph.heights p) work

  pub leaving_begins : AreLeaving old now b
  leaving_begins = record {
    dying = λ n h. in_scope old.scopes b may.nested n ((dying n).0 h);
    out = λ p h. inl ((dying p.node).1 (direct h));
    waits = λ p h. (same_row p, same_point p);
    others = λ p h. (same_row p, same_point p);
    stands = standing;
    rest = subst (KeepsAllBut old.work) (sym work) (let round : KeepsRound old.work old.work = round_same old.work in assumption (may.step, round));
    arena = arena;
    timed = timed;
    pending = pending;
    ran = ran;
  }

module _ (old now : Parts) (b node : NodeId) (may : MayLeave old b) (so : AreLeaving old now b) (was : IsDying now.scopes node) where
  stood : StandsIn old.scopes node b
  stood = so.dying node was

  its : (p : Point) → p.node ≡ node → IsDying now.scopes p.node
  its p is = subst (IsDying now.scopes) (sym is) was

  its_stood : (p : Point) → p.node ≡ node → StandsIn old.scopes p.node b
  its_stood p is = so.dying p.node (its p is)

  -- its points are those of its definition
  its_row : (p : Point) → p.node ≡ node → is_some (at now.work.rows p) ≡ has_part (row_at old.arena p.node) p.part
  its_row p is = ap is_some (so.waits p (its p is)).0 ∙ may.rows p (its_stood p is)

  its_point : (p : Point) → p.node ≡ node → is_some (at now.work.graph.heights p) ≡ is_some (at now.work.rows p)
  its_point p is = ap is_some (so.waits p (its p is)).1
      ∙ (may.there p (its_stood p is) ∙ sym (ap is_some (so.waits p (its p is)).0))

  main_row : Holds now.work.rows (main node)
  main_row = elim (some_or_none (row_at old.arena node)) [
    | inl r ↦ its_row (main node) refl ∙ ap (λ (x : Option Row). has_part x (main node).part) r.1
    | inr none ↦ absurd (none_holds (row_at old.arena node) none (may.live node stood))
  ]

  pub leaving_main : Holds now.work.graph.heights (main node) × Holds now.work.rows (main node)
  leaving_main = (its_point (main node) refl ∙ main_row, main_row)

  pub leaving_change : Holds now.work.rows (change node) → Holds now.work.graph.heights (change node)
  leaving_change h = its_point (change node) refl ∙ h

  pub leaving_no_change : at now.work.rows (change node) ≡ None → at now.work.graph.heights (change node) ≡ None
  leaving_no_change e = holds_none (at now.work.graph.heights (change node))
      (λ h. none_holds (at now.work.rows (change node)) e (sym (its_point (change node) refl) ∙ h))

  pub leaving_unneeded : (p : Point) → p.node ≡ node → Needed now.work.graph p → ⊥
  leaving_unneeded p is n = may.unneeded p (its_stood p is) (need_same now.work.graph old.work.graph (sym so.rest.links) (sym so.rest.roots) p n)

  leaving_unlisted : expert_at now.work.experts node ≡ None
  leaving_unlisted = ap (λ (e : List ExpertPlace). expert_at e node) so.rest.round.experts ∙ may.experts node stood

  module _ (new : Parts) (gives : Gives now.scopes new.scopes node) (standing : Empties now.scopes new.scopes node)
      (rows : ChangesNode now.work.rows new.work.rows node (λ part. None))
      (points : ChangesNode now.work.graph.heights new.work.graph.heights node (λ part. None))
      (links : new.work.graph.links ≡ now.work.graph.links) (roots : new.work.graph.roots ≡ now.work.graph.roots)
      (heap : new.work.graph.heap ≡ now.work.graph.heap) (step : IsInStep new.work.graph)
      (rest : new.work ≡ record now.work { graph = new.work.graph; rows = new.work.rows; experts = new.work.experts })
      (todo : new.work.todo ≡ now.work.todo) (round : KeepsRound (record now.work { experts = new.work.experts }) new.work)
      (experts : expert_at now.work.experts node ≡ None → new.work.experts ≡ now.work.experts) (arena : new.arena ≡ now.arena) (timed : new.timed ≡ now.timed) (pending : new.dying.items ≡ now.dying.items)
      (ran : new.ran ≡ now.ran) where
    still_dying : (n : NodeId) → IsDying new.scopes n → IsDying now.scopes n × (n ≢ node)
    still_dying n h = (gives n).0 h

    apart : (p : Point) → (StandsIn old.scopes p.node b → ⊥) → p.node ≢ node
    apart p none is = none (its_stood p is)

    pub leaving_more : AreLeaving old new b
    leaving_more = record {
      dying = λ n h. so.dying n (still_dying n h).0;
      out = λ p h. elim (node_or_other p.node node) [
        | inl is ↦ inr (at_node new.work.rows p node is ∙ rows.now p.part, at_node new.work.graph.heights p node is ∙ points.now p.part)
        | inr ne ↦ elim (so.out p h) [
          | inl d ↦ inl ((gives p.node).1 (d, ne))
          | inr gone ↦ inr (rows.others p ne ∙ gone.0, points.others p ne ∙ gone.1)
        ]
      ];
      waits = λ p h.
          let d = still_dying p.node h in
          (rows.others p d.1 ∙ (so.waits p d.0).0, points.others p d.1 ∙ (so.waits p d.0).1);
      others = λ p none. (rows.others p (apart p none) ∙ (so.others p none).0, points.others p (apart p none) ∙ (so.others p none).1);
      stands = λ n s. (
        (λ h. (so.stands n s).0 ((standing n s).0 h).0),
        (λ h. (standing n s).1 ((so.stands n s).1 h, λ is. may.nested n s h.0 (subst (λ (x : NodeId). StandsIn old.scopes x b) (sym is) stood))),
      );
      rest = record {
        step = step;
        links = links ∙ so.rest.links;
        roots = roots ∙ so.rest.roots;
        heap = heap ∙ so.rest.heap;
        todo = todo ∙ so.rest.todo;
        round = rounds_kept old.work now.work new.work so.rest.round (round_whole now.work new.work round (experts leaving_unlisted));
        pairs = ap (λ (w : Work). w.pairs) rest ∙ so.rest.pairs;
        scoped = ap (λ (w : Work). w.scoped) rest ∙ so.rest.scoped;
      };
      arena = arena ∙ so.arena;
      timed = timed ∙ so.timed;
      pending = pending ∙ so.pending;
      ran = ran ∙ so.ran;
    }

-- all have left
module _ (old now : Parts) (b : NodeId) (so : AreLeaving old now b) (none : (n : NodeId) → IsDying now.scopes n → ⊥)
    (given : now.scopes.killed ≡ []) where
  gone : (p : Point) → StandsIn old.scopes p.node b → (at now.work.rows p ≡ None) × (at now.work.graph.heights p ≡ None)
  gone p h = elim (so.out p h) [ inl d ↦ absurd (none p.node d) | inr g ↦ g ]

  pub have_left : HaveLeft old now b
  have_left = record {
    points = record {
      row = λ p h. (gone p h).0;
      point = λ p h. (gone p h).1;
      rows = λ p h. (so.others p h).0;
      points = λ p h. (so.others p h).1;
    };
    rest = so.rest;
    stands = so.stands;
    killed = given;
    arena = so.arena;
    timed = so.timed;
    dying = so.pending;
    ran = so.ran;
  }

-- ---- nodes are dropped

-- the nodes are dropped whose ids were given since the count and before the next
pub record AreDropping (old now : Arena) (count next : ℕ) : Type 0 where
  pub sound : IsSoundArena now
  pub given : now.given ≡ old.given
  pub time : now.time ≡ old.time
  pub nodes : (n : NodeId) → n.gen_ < count → row_at now n ≡ row_at old n
  pub gone : (n : NodeId) → count ≤ n.gen_ → n.gen_ < next → row_at now n ≡ None
  pub room : live old ≤ live now + (next - count)
  pub low : count ≤ next
  pub high : next ≤ old.given

pub dropping_begins : (a : Arena) (count : ℕ) → IsSoundArena a → count ≤ a.given → AreDropping a a count count
dropping_begins a count sound later = record {
  sound = sound;
  given = refl;
  time = refl;
  nodes = λ n h. refl;
  gone = λ n s h. absurd (omega (arith, s, h));
  room = omega arith;
  low = omega arith;
  high = later;
}

module _ (old now : Arena) (count next : ℕ) (so : AreDropping old now count next) where
  module _ (id : NodeId) (first : IsFirstSince now next id) where
    -- its id was given
    pub dropping_given : id.gen_ + 1 ≤ old.given
    dropping_given = let g = so.sound.given id first.live in let e = so.given in omega (arith, g, e)

    module _ (new : Arena) (dropped : nodes.Changes now new id None) (fewer : live new + 1 ≡ live now) (given : new.given ≡ now.given)
        (sound : IsSoundArena new) where
      older : (n : NodeId) → n.gen_ < count → n ≢ id
      older n h is =
          let e : n.gen_ ≡ id.gen_ = ap (λ (x : NodeId). x.gen_) is in
          let s = first.since in
          let l = so.low in
          absurd (omega (arith, e, s, l, h))

      other : (n : NodeId) (r : Row) → row_at new n ≡ Some r → n ≢ id
      other n r e is = none-some r (sym dropped.changed ∙ (ap (row_at new) (sym is) ∙ e))

      was : (n : NodeId) (r : Row) → row_at new n ≡ Some r → row_at now n ≡ Some r
      was n r e = sym (dropped.others n (other n r e)) ∙ e

      -- what lives and was given since the next was given after it
      later : (n : NodeId) (r : Row) → row_at new n ≡ Some r → next ≤ n.gen_ → n.gen_ < id.gen_ + 1 → ⊥
      later n r e s h =
          let alive : IsLive now n = ap is_some (was n r e) in
          let f = first.first n alive s in
          other n r e (so.sound.generations n id alive first.live (omega (arith, f, h)))

      pub dropping_more : AreDropping old new count (id.gen_ + 1)
      dropping_more = record {
        sound = sound;
        given = given ∙ so.given;
        time = dropped.time ∙ so.time;
        nodes = λ n h. dropped.others n (older n h) ∙ so.nodes n h;
        gone = λ n s h. elim (some_or_none (row_at new n)) [
          | inr none ↦ none
          | inl r ↦ elim (cases_lt n.gen_ next) [
            | inl before ↦ absurd (none-some r.0 (sym (so.gone n s before) ∙ was n r.0 r.1))
            | inr since ↦ absurd (later n r.0 r.1 since h)
          ]
        ];
        room = (let r = so.room in let f = first.since in let l = so.low in omega (arith, r, f, l, fewer));
        low = (let f = first.since in let l = so.low in omega (arith, f, l));
        high = dropping_given;
      }

  pub drops_since : ((n : NodeId) → IsLive now n → n.gen_ < next) → DropsSince old now count
  drops_since none = record {
    sound = so.sound;
    given = so.given;
    time = so.time;
    nodes = so.nodes;
    gone = λ n s. elim (some_or_none (row_at now n)) [
      | inr gone ↦ gone
      | inl r ↦ so.gone n s (none n (ap is_some r.1))
    ];
    room = (let r = so.room in let h = so.high in let l = so.low in omega (arith, r, h, l));
  }

-- ---- both

module _ (old : Parts) (b : NodeId) (count : ℕ) (may : MayDisown old b count) where
  pub may_leave : MayLeave old b
  may_leave = record {
    step = may.step;
    live = λ n h. (may.new n h).live;
    rows = may.points.parts;
    there = λ p h. may.points.there p (may.new p.node h).since;
    unneeded = λ p h n. may.unneeded p (may.new p.node h).since n;
    experts = λ n h. may.experts n (may.new n h).since;
    nested = λ n s h i. (let low = may.scopes n s h in let since = (may.new s i).since in absurd (omega (arith, low, since)));
    killed = may.killed;
  }

  module _ (left : Parts) (has : HaveLeft old left b) where
    -- an older point isn't of a node in the scope
    older_out : (p : Point) → p.node.gen_ < count → StandsIn old.scopes p.node b → ⊥
    older_out p h s = let since = (may.new p.node s).since in absurd (omega (arith, h, since))

    -- a newer one with a row would be
    row_gone : (p : Point) → count ≤ p.node.gen_ → at left.work.rows p ≡ None
    row_gone p since = holds_none (at left.work.rows p) (λ h.
        let out : StandsIn old.scopes p.node b → ⊥ = λ s. none_holds (at left.work.rows p) (has.points.row p s) h in
        out (may.points.alone p since (sym (ap is_some (has.points.rows p out)) ∙ h)))

    point_gone : (p : Point) → count ≤ p.node.gen_ → at left.work.graph.heights p ≡ None
    point_gone p since = holds_none (at left.work.graph.heights p) (λ h.
        let out : StandsIn old.scopes p.node b → ⊥ = λ s. none_holds (at left.work.graph.heights p) (has.points.point p s) h in
        out (may.points.alone p since (sym (may.points.there p since) ∙ (sym (ap is_some (has.points.points p out)) ∙ h))))

    left_older : KeepsOlder count old.work left.work
    left_older = record {
      rows = λ p h. has.points.rows p (older_out p h);
      points = λ p h. has.points.points p (older_out p h);
      links = has.rest.links;
      roots = has.rest.roots;
      heap = λ p. ap (λ (m : Rows ℕ). at m p) has.rest.heap;
      todo = rw has.rest.todo refl;
      round = has.rest.round;
    }

    module _ (new : Parts) (forgot : new.work ≡ record left.work { pairs = new.work.pairs; scoped = new.work.scoped })
        (pairs : (n : NodeId) → n.gen_ < count → IsLive left.arena n → Among n left.work.pairs.nodes → Among n new.work.pairs.nodes)
        (scoped : (n : NodeId) → n.gen_ < count → IsLive left.arena n → Among n left.work.scoped.nodes → Among n new.work.scoped.nodes)
        (no_pair : (n : NodeId) → Among n new.work.pairs.nodes → n.gen_ < count)
        (no_scoped : (n : NodeId) → Among n new.work.scoped.nodes → n.gen_ < count)
        (drops : DropsSince left.arena new.arena count) (scopes : new.scopes ≡ left.scopes) (timed : new.timed ≡ left.timed) (dying : new.dying.items ≡ left.dying.items)
        (ran : new.ran ≡ left.ran) where
      alive : (n : NodeId) → IsLive old.arena n → IsLive left.arena n
      alive n h = subst (λ (a : Arena). IsLive a n) (sym has.arena) h

      pub has_disowned : HasDisowned old new b count
      has_disowned = record {
        arena = subst (λ (a : Arena). DropsSince a new.arena count) has.arena drops;
        step = subst (λ (w : Work). IsInStep w.graph) (sym forgot) has.rest.step;
        older = subst (KeepsOlder count old.work) (sym forgot) (assumption (left_older));
        lists = record {
          pairs = λ n h live x. pairs n h (alive n live) (subst (λ (l : Listed). Among n l.nodes) (sym has.rest.pairs) x);
          scoped = λ n h live x. scoped n h (alive n live) (subst (λ (l : Listed). Among n l.nodes) (sym has.rest.scoped) x);
        };
        no_pair = no_pair;
        no_scoped = no_scoped;
        no_row = λ p since. ap (λ (w : Work). at w.rows p) forgot ∙ row_gone p since;
        no_point = λ p since. ap (λ (w : Work). at w.graph.heights p) forgot ∙ point_gone p since;
        stands = subst (λ (x : Scopes). (n s : NodeId) → StandsIn x n s ↔ (StandsIn old.scopes n s × (s ≢ b))) (sym scopes) has.stands;
        killed = ap (λ (x : Scopes). x.killed) scopes ∙ has.killed;
        timed = timed ∙ has.timed;
        dying = dying ∙ has.dying;
        ran = ran ∙ has.ran;
      }
