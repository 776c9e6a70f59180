use Rattle.std.proofs.Common.{◌≡◌, ◌<◌, ◌≤◌, List, inl, refl, sym, ap, subst, ◌∙◌, arith, Vec, Global}
use Rattle.std.specs.Prelude.{vec_capacity}
use Rattle.expert_nodes.specs.Experts.{ExpertPlace, KeepsExperts, expert_at}
use Rattle.inc_value.specs.declared.node.Part.TheVariants.{Main}
use Rattle.inc_value.specs.Choice.{Among}
use Rattle.inc_value.specs.declared.node.NodeId.{NodeId}
use Rattle.inc_terms.specs.Code.{def_of}
use Rattle.inc_terms.specs.Depend.{main, subject_of}
use Rattle.node_arena.specs.Arena.{Arena, IsLive, live}
use Rattle.node_outcomes.specs.Row.{cutoff_in}
use Rattle.node_lists.specs.Listed.{Listed}
use Rattle.necessary_graph.specs.Part.{IsInStep}
use Rattle.stabilizer.specs.Between.{KeepsWork}
use Rattle.wiring.specs.Places.{for_parts}
use Rattle.wiring.specs.Wiring.{KeepsRound}
use Rattle.stabilizer.specs.declared.parts.Parts.{Parts}
use Rattle.wiring.specs.declared.work.Work.{Work}
use Rattle.stabilizer.proofs.Between.Adding.{adds_expert, given_other, no_expert, no_row, added_parts, added_ready, back_parts, back_ready, dropped_again, live_below}
use Rattle.stabilizer.proofs.Between.Alone.{same_todo}
use Rattle.stabilizer.proofs.Between.Cutting.{added_cutoffs}
use Rattle.wiring.proofs.Placing.{pair_stays}
use Rattle.stabilizer.proofs.parts.Parts.place.Goals as goal
use Rattle.node_outcomes.specs.Progress.{new_row}

-- ---- what is called

pub add_node-added-requires-clause-no_expert : goal.add_node-added-requires-clause-no_expert
add_node-added-requires-clause-no_expert c = no_expert c.args.self.now.arena c.args.self.now.work c.args.id c.requires.kept.work c.requires.next

-- ---- there is more room to list those that ran

-- for those of the round there is more room, and all else of it is the same
record IsRoomy (old new : Work) : Type 0 where
  round : KeepsRound (record old { experts = new.experts; ran = new.ran }) new
  ran : new.ran.items ≡ old.ran.items
  room : vec_capacity old.ran ≤ vec_capacity new.ran

roomy : (old new : Work) (called : Vec NodeId Global) → (called.items ≡ old.ran.items) × (vec_capacity old.ran ≤ vec_capacity called)
    → KeepsRound (record old { experts = new.experts; ran = called }) new → IsRoomy old new
roomy old new called same s = record {
  round = record { roots = s.roots; deaths = s.deaths; ran = refl; retries = s.retries; round = s.round; experts = s.experts };
  ran = ap (λ (l : Vec NodeId Global). l.items) s.ran ∙ same.0;
  room = subst (λ (l : Vec NodeId Global). vec_capacity old.ran ≤ vec_capacity l) (sym s.ran) same.1;
}

-- ---- no memory for that room

pub returns-in_default-clause-left : goal.returns-in_default-clause-left
returns-in_default-clause-left c =
    let old = c.args.self.now in
    let room = c.make_room_to_list.ensures in
    let new : Parts = record old { work = record old.work { ran = c.make_room_to_list.new.called }; ran = c.make_room_to_list.new.listed } in
    let same : KeepsWork old.work new.work = record {
      rows = λ p. refl;
      points = λ p. refl;
      links = refl;
      roots = refl;
      heap = λ p. refl;
      todo = refl;
      round = record { roots = refl; deaths = refl; ran = refl; retries = refl; round = refl; experts = refl };
      ran = room.called.0;
      room = room.called.1;
      experts = λ n. refl;
    } in record {
      arena = refl;
      work = same;
      ran = room.listed.0;
      kept = back_parts old new c.requires.kept same c.requires.kept.work.step (λ n live a. a) (λ n live a. a) room.listed.1 refl;
      ready = back_ready old new c.requires.kept same c.requires.kept.work.step (λ n live a. a) (λ n live a. a) room.listed.1 refl;
    }

-- ---- no memory for what is kept of it

module _ (c : goal.After-drop-in-Err) where
  abbrev old : Parts
  old = c.args.self.now

  abbrev new : Parts
  new = record old { work = c.add_node-added.new.self; ran = c.make_room_to_list.new.listed }

  same : KeepsWork old.work new.work
  same =
      let todo = same_todo old.work new.work c.add_node-added.ensures.stays.todo in
      let experts : KeepsExperts old.work.experts new.work.experts
      = (λ n. ap (λ (x : List ExpertPlace). expert_at x n) c.in-Err.ensures.err_experts) in
      let r = roomy old.work new.work c.make_room_to_list.new.called c.make_room_to_list.ensures.called c.add_node-added.ensures.stays.round in
      assumption (todo, experts, r.round, r.ran, r.room, c.in-Err.ensures, c.add_node-added.ensures.stays)

  scoped : (n : NodeId) → IsLive old.arena n → Among n old.work.scoped.nodes → Among n new.work.scoped.nodes
  scoped n live among = subst (λ (l : Listed). Among n l.nodes) (sym c.in-Err.ensures.scoped) among

pub returns-in-Err-clause-left : goal.returns-in-Err-clause-left
returns-in-Err-clause-left c = record {
  arena = refl;
  work = same c;
  ran = c.make_room_to_list.ensures.listed.0;
  kept = back_parts (old c) (new c) c.requires.kept (same c) c.add_node-added.ensures.stays.step c.in-Err.ensures.err_pairs (scoped c)
      c.make_room_to_list.ensures.listed.1 refl;
  ready = back_ready (old c) (new c) c.requires.kept (same c) c.add_node-added.ensures.stays.step c.in-Err.ensures.err_pairs (scoped c)
      c.make_room_to_list.ensures.listed.1 refl;
}

-- ---- its points were added

module _ (c : goal.In-Ok-insert) where
  abbrev before : Parts
  before = c.args.self.now

  abbrev after : Parts
  after = record before { arena = c.insert.new.self; work = c.add_node-added.new.self; ran = c.make_room_to_list.new.listed }

  more : IsRoomy before.work after.work
  more = roomy before.work after.work c.make_room_to_list.new.called c.make_room_to_list.ensures.called c.add_node-added.ensures.stays.round

  called : live after.arena ≤ vec_capacity after.work.ran
  called =
      let room = c.in-Ok.ensures.room.0 in
      let one = c.in-Ok-insert.ensures.live in
      let same = ap (λ (l : Vec NodeId Global). vec_capacity l) c.add_node-added.ensures.stays.round.ran in
      omega (arith, room, one, same)

  listed : live after.arena ≤ vec_capacity after.ran
  listed = let room = c.in-Ok.ensures.room.1 in let one = c.in-Ok-insert.ensures.live in omega (arith, room, one)

pub returns-in-Ok-insert-clause-placed : goal.returns-in-Ok-insert-clause-placed
returns-in-Ok-insert-clause-placed c =
    let a = c.in-Ok-added.ensures in
    let i = c.in-Ok-insert.ensures in record {
      slot = i.slot;
      fresh = i.fresh;
      added = i.added;
      keeps = c.insert.ensures.keeps;
      lives = i.live;
      given = i.given;
      points = a.rows;
      height = a.added.0;
      heights = a.added.1;
      rows = λ p g. a.rows.others p (given_other c.args.self.now.arena.given c.args.id p.node c.requires.next g);
      cutoffs = added_cutoffs (before c).work (after c).work c.args.id (def_of c.args.def)
          (no_row (before c).arena (before c).work c.args.id c.requires.kept.work c.requires.next (main c.args.id) refl) a.rows;
      equal = ap cutoff_in (a.rows.now Main);
      links = a.stays.links;
      roots = a.stays.roots;
      heap = a.stays.heap;
      right_sides = a.stays.round.roots;
      experts = a.experts;
      ran = c.make_room_to_list.ensures.listed.0;
      kept = added_parts (before c) (after c) c.args.id _ a.added.0 c.requires.kept c.requires.next i.added refl i.sound i.given a.rows a.added.1
          a.pairs a.scoped a.stays.links a.stays.roots a.stays.heap a.stays.step (more c).round a.experts (same_todo (before c).work (after c).work a.stays.todo)
          refl refl refl (more c).ran (called c) (listed c);
      ready = added_ready (before c) (after c) c.args.id _ a.added.0 c.requires.kept c.requires.next i.added refl i.sound i.given a.rows a.added.1
          a.pairs a.scoped a.stays.links a.stays.roots a.stays.heap a.stays.step (more c).round a.experts (same_todo (before c).work (after c).work a.stays.todo)
          refl refl refl (more c).ran (called c) (listed c);
    }

-- ---- no memory for the node: its points are dropped again

module _ (c : goal.After-forget_since) where
  abbrev start : Parts
  start = c.args.self.now

  abbrev mid : Work
  mid = c.add_node-added.new.self

  abbrev gone : Work
  gone = c.drop_node.new.self

  abbrev last : Work
  last = c.forget_since.new.self

  abbrev end : Parts
  end = record start { arena = c.insert.new.self; work = last; ran = c.make_room_to_list.new.listed }

  roomier : IsRoomy start.work mid
  roomier = roomy start.work mid c.make_room_to_list.new.called c.make_room_to_list.ensures.called c.add_node-added.ensures.stays.round

  dropped : KeepsWork start.work gone
  dropped = let a = c.in-Ok-added.ensures in let d = c.drop_node.ensures in
      dropped_again start.arena start.work mid c.args.id (for_parts (def_of c.args.def) (λ part. new_row (def_of c.args.def)))
      (for_parts (def_of c.args.def) a.added.0) c.requires.kept.work c.requires.next a.rows a.added.1 a.stays.links a.stays.roots a.stays.heap
      roomier.round roomier.ran roomier.room (adds_expert (def_of c.args.def) start.work.experts mid.experts c.args.id
      (no_expert start.arena start.work c.args.id c.requires.kept.work c.requires.next) a.experts).others
      (same_todo start.work mid a.stays.todo) gone d.rows d.dropped d.stays.links d.stays.roots d.heap d.stays.round d.expert
      (same_todo mid gone d.stays.todo)

  forgotten : KeepsWork start.work last
  forgotten = subst (KeepsWork start.work) (sym c.forget_since.ensures.rest) (assumption (dropped))

  arena_is : c.insert.new.self ≡ start.arena
  arena_is = c.in-Err-insert.ensures.err

  -- who lives was given before
  older : (n : NodeId) → IsLive start.arena n → n.gen_ < c.given.result
  older n live = rw (c.given.ensures, arena_is) (live_below start.arena start.work c.requires.kept.work n live)

  -- and is listed still
  pairs : (n : NodeId) → IsLive start.arena n → Among n start.work.pairs.nodes → Among n last.pairs.nodes
  pairs n live among =
      let at_mid : Among n mid.pairs.nodes =
      c.in-Ok-added.ensures.pairs n (inl live) (pair_stays (subject_of (def_of c.args.def)) start.work.pairs.nodes c.args.id n among) in
      c.forget_since.ensures.kept n (older n live)
      (subst (λ (w : Work). Among n w.pairs.nodes) (sym c.drop_node.ensures.rest) at_mid)

  scoped_still : (n : NodeId) → IsLive start.arena n → Among n start.work.scoped.nodes → Among n last.scoped.nodes
  scoped_still n live among =
      let at_mid : Among n mid.scoped.nodes = subst (λ (l : Listed). Among n l.nodes) (sym c.in-Ok-added.ensures.scoped) among in
      c.forget_since.ensures.kept_scoped n (older n live)
      (subst (λ (w : Work). Among n w.scoped.nodes) (sym c.drop_node.ensures.rest) at_mid)

  step : IsInStep last.graph
  step = subst (λ (w : Work). IsInStep w.graph) (sym c.forget_since.ensures.rest) c.drop_node.ensures.stays.step

  rest : end ≡ record start { work = last; ran = end.ran }
  rest = ap (λ (a : Arena). record start { arena = a; work = last; ran = c.make_room_to_list.new.listed }) arena_is

pub returns-in-Err-insert-clause-left : goal.returns-in-Err-insert-clause-left
returns-in-Err-insert-clause-left c = record {
  arena = arena_is c;
  work = forgotten c;
  ran = c.make_room_to_list.ensures.listed.0;
  kept = back_parts (start c) (end c) c.requires.kept (forgotten c) (step c) (pairs c) (scoped_still c) c.make_room_to_list.ensures.listed.1 (rest c);
  ready = back_ready (start c) (end c) c.requires.kept (forgotten c) (step c) (pairs c) (scoped_still c) c.make_room_to_list.ensures.listed.1 (rest c);
}
