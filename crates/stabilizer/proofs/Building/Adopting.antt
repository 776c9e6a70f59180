-- Nodes that were added to a bind's scope get their points, and enter it.
use Rattle.std.proofs.Common.{◌≡◌, ◌≢◌, ◌⊎◌, inl, inr, ℕ, ◌<◌, ◌≤◌, ◌+◌, false, List, Option, None, Some, refl, sym, ap, subst, ◌∙◌, arith, Vec, Global}
use Rattle.std.specs.Prelude.{is_some, IsSome, vec_capacity}
use Rattle.std.proofs.lemmas.Bool.{cases_lt}
use Rattle.std.proofs.lemmas.Option.{none-some, same_Some}
use Rattle.inc_value.specs.Choice.{Among}
use Rattle.inc_value.specs.declared.node.NodeId.{NodeId}
use Rattle.inc_value.specs.declared.node.Part.{Part}
use Rattle.inc_value.specs.declared.node.Point.{Point}
use Rattle.inc_terms.specs.Depend.{subject_of}
use Rattle.inc_terms.specs.Graph as graph
use Rattle.inc_terms.specs.Graph.{Row, Def}
use Rattle.expert_nodes.specs.Experts.{ExpertPlace, expert_at}
use Rattle.necessary_graph.specs.Part.{IsInStep}
use Rattle.node_arena.specs.Arena.{Arena, row_at, IsLive}
use Rattle.node_arena.specs.Sound.{IsSoundArena, IsFirstSince}
use Rattle.node_outcomes.specs.Computing.{has_part, is_expert, is_expert_def}
use Rattle.point_map.specs.Rows.{Rows, at, KeepsRows}
use Rattle.scopes.specs.Scopes.{Scopes, IsApart, Enters}
use Rattle.stabilize_round.proofs.Points.{node_or_other}
use Rattle.wiring.specs.Experts.{ExpertIsAdded}
use Rattle.wiring.specs.Wiring.{KeepsRound}
use Rattle.wiring.specs.declared.work.Work.{Work}
use Rattle.wiring.specs.Places.{ChangesNode, for_parts, pairs_with}
use Rattle.wiring.proofs.Placing.{at_node, has_parts, one_for_all, pair_listed, pair_stays}
use Rattle.stabilizer.specs.Building.{IsNewBefore, HasAdopted, HaveEntered, AdoptsBefore, MayAdopt, GetsPoints, KeepsRest}
use Rattle.stabilizer.specs.declared.parts.Parts.{Parts}
use Rattle.stabilizer.proofs.Building.Growing.{none_holds}
use Rattle.node_outcomes.specs.Progress.{new_row}

-- what a round keeps through two calls
pub rounds_kept : (old mid new : Work) → KeepsRound old mid → KeepsRound mid new → KeepsRound old new
rounds_kept old mid new s t = record {
  roots = t.roots ∙ s.roots;
  deaths = t.deaths ∙ s.deaths;
  ran = t.ran ∙ s.ran;
  retries = t.retries ∙ s.retries;
  round = t.round ∙ s.round;
  experts = t.experts ∙ s.experts;
}

pub round_same : (work : Work) → KeepsRound work work
round_same work = record { roots = refl; deaths = refl; ran = refl; retries = refl; round = refl; experts = refl }

-- and through one that may change experts, but doesn't
pub round_whole : (old new : Work) → KeepsRound (record old { experts = new.experts }) new → new.experts ≡ old.experts → KeepsRound old new
round_whole old new s same = record { roots = s.roots; deaths = s.deaths; ran = s.ran; retries = s.retries; round = s.round; experts = same }

-- so it is where there was more room to list those that ran before the second
pub rounds_roomy : (old mid new : Work) → KeepsRound (record old { ran = mid.ran }) mid → KeepsRound mid new → KeepsRound (record old { ran = new.ran }) new
rounds_roomy old mid new s t = record {
  roots = t.roots ∙ s.roots;
  deaths = t.deaths ∙ s.deaths;
  ran = refl;
  retries = t.retries ∙ s.retries;
  round = t.round ∙ s.round;
  experts = t.experts ∙ s.experts;
}

-- none is new before the count
none_new : (a : Arena) (count : ℕ) (n : NodeId) → IsNewBefore a count count n → ⊥
none_new a count n t = let s = t.since in let b = t.before in absurd (omega (arith, s, b))

-- ---- before the first

module _ (parts : Parts) (called listed : Vec NodeId Global) (b : NodeId) (count : ℕ) (may : MayAdopt parts count)
    (same_called : called.items ≡ parts.work.ran.items) (more_called : vec_capacity parts.work.ran ≤ vec_capacity called)
    (same_listed : listed.items ≡ parts.ran.items) (more_listed : vec_capacity parts.ran ≤ vec_capacity listed) where
  pub adopts_none : AdoptsBefore parts (record parts { work = record parts.work { ran = called }; ran = listed }) b count count
  adopts_none = record {
    work = record {
      step = may.step;
      older = record {
        rows = λ p h. refl;
        points = λ p h. refl;
        links = refl;
        roots = refl;
        heap = λ p. refl;
        todo = refl;
        round = record { roots = refl; deaths = refl; ran = refl; retries = refl; round = refl; experts = refl };
      };
      ran = same_called;
      room = more_called;
      lists = record { pairs = λ n h live a. a; scoped = λ n h live a. a };
      points = record {
        parts = λ p t. absurd (none_new parts.arena count p.node t);
        alone = λ p s h. absurd (none_holds (at parts.work.rows p) (may.no_row p s) h);
        there = λ p s. ap is_some (may.no_point p s) ∙ sym (ap is_some (may.no_row p s));
      };
      fresh = λ p k s e. absurd (none-some k (sym (may.no_row p s) ∙ e));
      listed = record {
        pairs = λ n r e t some. absurd (none_new parts.arena count n t);
        scoped = λ n r e t. absurd (none_new parts.arena count n t);
      };
    };
    scopes = record {
      stands = λ n s. ((λ h. inl h), (λ h. elim h [ inl was ↦ was | inr new ↦ absurd (none_new parts.arena count n new.1) ]));
      killed = refl;
    };
    arena = refl;
    timed = refl;
    dying = refl;
    ran = same_listed;
    room = more_listed;
  }

-- ---- a node that is next

module _ (a : Arena) (node : NodeId) (count next : ℕ) (sound : IsSoundArena a) (low : count ≤ next) (first : IsFirstSince a next node) where
  pub new_since : count ≤ node.gen_
  new_since = let s = first.since in omega (arith, s, low)

  -- who is new after it was new before it, or is it
  was_new : (n : NodeId) → IsNewBefore a count (node.gen_ + 1) n → IsNewBefore a count next n ⊎ (n ≡ node)
  was_new n t = elim (cases_lt n.gen_ next) [
    | inl b ↦ inl (record { live = t.live; since = t.since; before = b })
    | inr l ↦ inr (
        let f = first.first n t.live l in
        let u = t.before in
        sound.generations n node t.live first.live (omega (arith, f, u)))
  ]

  still_new : (n : NodeId) → IsNewBefore a count next n → IsNewBefore a count (node.gen_ + 1) n
  still_new n t = record {
    live = t.live;
    since = t.since;
    before = (let b = t.before in let s = first.since in omega (arith, b, s));
  }

  is_new : IsNewBefore a count (node.gen_ + 1) node
  is_new = record { live = first.live; since = new_since; before = omega arith }

  older_other : (n : NodeId) → n.gen_ < count → n ≢ node
  older_other n h is =
      let e : n.gen_ ≡ node.gen_ = ap (λ (x : NodeId). x.gen_) is in
      let s = new_since in
      absurd (omega (arith, e, s, h))

  not_yet : (n : NodeId) → n ≡ node → IsNewBefore a count next n → ⊥
  not_yet n is t =
      let e : n.gen_ ≡ node.gen_ = ap (λ (x : NodeId). x.gen_) is in
      let s = first.since in
      let u = t.before in
      absurd (omega (arith, e, s, u))

  -- it isn't there yet
  module _ (old mid : Work) (so : HasAdopted a count (IsNewBefore a count next) old mid) where
    module _ (new : Work) (gets : GetsPoints a mid new node) (rest : KeepsRest a mid new) where
      row_new : (p : Point) → p.node ≡ node → is_some (at new.rows p) ≡ has_part (Some gets.row) p.part
      row_new p is = ap is_some (at_node new.rows p node is ∙ gets.rows.now p.part) ∙ has_parts gets.row (λ part. new_row gets.row.def) p.part

      point_new : (p : Point) → p.node ≡ node → is_some (at new.graph.heights p) ≡ has_part (Some gets.row) p.part
      point_new p is = ap is_some (at_node new.graph.heights p node is ∙ gets.points.now p.part) ∙ has_parts gets.row gets.heights p.part

      its_row : (n : NodeId) → n ≡ node → row_at a n ≡ Some gets.row
      its_row n is = ap (row_at a) is ∙ gets.is_row

      its_subject : (n : NodeId) (r : Row) → n ≡ node → row_at a n ≡ Some r → IsSome (subject_of r.def) → IsSome (subject_of gets.row.def)
      its_subject n r is e some =
          let same : r ≡ gets.row = same_Some _ _ (sym e ∙ its_row n is) in
          subst (λ (x : Row). IsSome (subject_of x.def)) same some

      before_it : (n : NodeId) → IsNewBefore a count (node.gen_ + 1) n → n ≢ node → IsNewBefore a count next n
      before_it n t ne = elim (was_new n t) [ inl w ↦ w | inr is ↦ absurd (ne is) ]

      pub adopted_more : HasAdopted a count (IsNewBefore a count (node.gen_ + 1)) old new
      adopted_more = record {
        step = rest.step;
        older = record {
          rows = λ p h. gets.rows.others p (older_other p.node h) ∙ so.older.rows p h;
          points = λ p h. gets.points.others p (older_other p.node h) ∙ so.older.points p h;
          links = rest.links ∙ so.older.links;
          roots = rest.roots ∙ so.older.roots;
          heap = λ p. rest.heap p ∙ so.older.heap p;
          todo = rest.todo ∙ so.older.todo;
          round = rounds_roomy old mid new so.older.round rest.round;
        };
        ran = ap (λ (l : Vec NodeId Global). l.items) rest.round.ran ∙ so.ran;
        room = subst (λ (l : Vec NodeId Global). vec_capacity old.ran ≤ vec_capacity l) (sym rest.round.ran) so.room;
        lists = record {
          pairs = λ n h live x. rest.pairs n live (so.lists.pairs n h live x);
          scoped = λ n h live x. rest.scoped n live (so.lists.scoped n h live x);
        };
        points = record {
          parts = λ p t. elim (node_or_other p.node node) [
            | inl is ↦ row_new p is ∙ sym (ap (λ (x : Option Row). has_part x p.part) (its_row p.node is))
            | inr ne ↦ ap is_some (gets.rows.others p ne) ∙ so.points.parts p (before_it p.node t ne)
          ];
          alone = λ p s h. elim (node_or_other p.node node) [
            | inl is ↦ subst (λ (x : NodeId). IsNewBefore a count (node.gen_ + 1) x) (sym is) is_new
            | inr ne ↦ still_new p.node (so.points.alone p s (sym (ap is_some (gets.rows.others p ne)) ∙ h))
          ];
          there = λ p s. elim (node_or_other p.node node) [
            | inl is ↦ point_new p is ∙ sym (row_new p is)
            | inr ne ↦ ap is_some (gets.points.others p ne) ∙ (so.points.there p s ∙ sym (ap is_some (gets.rows.others p ne)))
          ];
        };
        fresh = λ p k s e. elim (node_or_other p.node node) [
          | inl is ↦ (
            gets.row,
            its_row p.node is,
            sym (one_for_all gets.row.def (new_row gets.row.def) k p.part (sym (at_node new.rows p node is ∙ gets.rows.now p.part) ∙ e)),
          )
          | inr ne ↦ so.fresh p k s (sym (gets.rows.others p ne) ∙ e)
        ];
        listed = record {
          pairs = λ n r e t some. elim (node_or_other n node) [
            | inl is ↦ subst (λ (x : NodeId). Among x new.pairs.nodes) (sym is) (gets.pair (its_subject n r is e some))
            | inr ne ↦ rest.pairs n (ap is_some e) (so.listed.pairs n r e (before_it n t ne) some)
          ];
          scoped = λ n r e t. elim (node_or_other n node) [
            | inl is ↦ subst (λ (x : NodeId). Among x new.scoped.nodes) (sym is) gets.in_scope
            | inr ne ↦ rest.scoped n (ap is_some e) (so.listed.scoped n r e (before_it n t ne))
          ];
        };
      }

  -- so it is with scopes
  module _ (old mid new : Scopes) (b : NodeId) (so : HaveEntered old mid b (IsNewBefore a count next)) where
    pub apart_yet : IsApart old node → IsApart mid node
    apart_yet was = record {
      out = λ s h. elim ((so.stands node s).0 h) [ inl st ↦ was.out s st | inr t ↦ not_yet node refl t.1 ];
      live = λ h. was.live (subst (Among node) so.killed h);
    }

    pub entered_more : Enters mid new node b → HaveEntered old new b (IsNewBefore a count (node.gen_ + 1))
    entered_more enters = record {
      stands = λ n s. (
        (λ h. elim ((enters.here n s).0 h) [
          | inl e ↦ inr (e.1, subst (λ (x : NodeId). IsNewBefore a count (node.gen_ + 1) x) (sym e.0) is_new)
          | inr was ↦ elim ((so.stands n s).0 was) [ inl o ↦ inl o | inr t ↦ inr (t.0, still_new n t.1) ]
        ]),
        (λ h. (enters.here n s).1 (elim h [
          | inl o ↦ inr ((so.stands n s).1 (inl o))
          | inr t ↦ elim (was_new n t.1) [ inl w ↦ inr ((so.stands n s).1 (inr (t.0, w))) | inr is ↦ inl (is, t.0) ]
        ])),
      );
      killed = enters.killed ∙ so.killed;
    }

-- ---- without memory

-- where nothing is made of a node all is as it was
pub adopted_same : (a : Arena) (count : ℕ) (These : NodeId → Type 0) (old mid new : Work) → HasAdopted a count These old mid
    → KeepsRows mid.rows new.rows → KeepsRows mid.graph.heights new.graph.heights → KeepsRest a mid new → HasAdopted a count These old new
adopted_same a count These old mid new so rows points rest = record {
  step = rest.step;
  older = record {
    rows = λ p h. rows p ∙ so.older.rows p h;
    points = λ p h. points p ∙ so.older.points p h;
    links = rest.links ∙ so.older.links;
    roots = rest.roots ∙ so.older.roots;
    heap = λ p. rest.heap p ∙ so.older.heap p;
    todo = rest.todo ∙ so.older.todo;
    round = rounds_roomy old mid new so.older.round rest.round;
  };
  ran = ap (λ (l : Vec NodeId Global). l.items) rest.round.ran ∙ so.ran;
  room = subst (λ (l : Vec NodeId Global). vec_capacity old.ran ≤ vec_capacity l) (sym rest.round.ran) so.room;
  lists = record {
    pairs = λ n h live x. rest.pairs n live (so.lists.pairs n h live x);
    scoped = λ n h live x. rest.scoped n live (so.lists.scoped n h live x);
  };
  points = record {
    parts = λ p t. ap is_some (rows p) ∙ so.points.parts p t;
    alone = λ p s h. so.points.alone p s (sym (ap is_some (rows p)) ∙ h);
    there = λ p s. ap is_some (points p) ∙ (so.points.there p s ∙ sym (ap is_some (rows p)));
  };
  fresh = λ p k s e. so.fresh p k s (sym (rows p) ∙ e);
  listed = record {
    pairs = λ n r e t some. rest.pairs n (ap is_some e) (so.listed.pairs n r e t some);
    scoped = λ n r e t. rest.scoped n (ap is_some e) (so.listed.scoped n r e t);
  };
}

-- ---- all the parts

module _ (old mid : Parts) (b node : NodeId) (count next : ℕ) (may : MayAdopt old count) (so : AdoptsBefore old mid b count next) (low : count ≤ next)
    (first_now : IsFirstSince mid.arena next node) where
  first : IsFirstSince old.arena next node
  first = subst (λ (x : Arena). IsFirstSince x next node) so.arena first_now

  pub next_apart : IsApart mid.scopes node
  next_apart = apart_yet old.arena node count next may.sound low first old.scopes mid.scopes mid.scopes b so.scopes
      (may.apart node (new_since old.arena node count next may.sound low first))

  pub next_plain : is_expert (row_at mid.arena node) ≡ false
  next_plain = ap (λ (a : Arena). is_expert (row_at a node)) so.arena
      ∙ may.plain node (new_since old.arena node count next may.sound low first)

  pub next_no_expert : expert_at mid.work.experts node ≡ None
  next_no_expert = ap (λ (e : List ExpertPlace). expert_at e node) so.work.older.round.experts ∙ may.no_expert node (new_since old.arena node count next may.sound low first)

  -- its id was given
  pub next_given : node.gen_ + 1 ≤ old.arena.given
  next_given = let g = may.sound.given node first.live in omega (arith, g)

  pub next_low : count ≤ node.gen_ + 1
  next_low = let s = new_since old.arena node count next may.sound low first in omega (arith, s)

  module _ (new : Parts) (rest_now : KeepsRest mid.arena mid.work new.work) (arena : new.arena ≡ mid.arena) (timed : new.timed ≡ mid.timed)
      (dying : new.dying.items ≡ mid.dying.items) (ran : new.ran ≡ mid.ran) where
    rest : KeepsRest old.arena mid.work new.work
    rest = subst (λ (x : Arena). KeepsRest x mid.work new.work) so.arena rest_now

    pub adopts_more : GetsPoints mid.arena mid.work new.work node → Enters mid.scopes new.scopes node b → AdoptsBefore old new b count (node.gen_ + 1)
    adopts_more gets enters = record {
      work = adopted_more old.arena node count next may.sound low first old.work mid.work so.work new.work
          (subst (λ (x : Arena). GetsPoints x mid.work new.work node) so.arena gets) rest;
      scopes = entered_more old.arena node count next may.sound low first old.scopes mid.scopes new.scopes b so.scopes enters;
      arena = arena ∙ so.arena;
      timed = timed ∙ so.timed;
      dying = dying ∙ so.dying;
      ran = ap (λ (l : Vec NodeId Global). l.items) ran ∙ so.ran;
      room = subst (λ (l : Vec NodeId Global). vec_capacity old.ran ≤ vec_capacity l) (sym ran) so.room;
    }

    pub adopts_same : KeepsRows mid.work.rows new.work.rows → KeepsRows mid.work.graph.heights new.work.graph.heights → new.scopes ≡ mid.scopes
        → AdoptsBefore old new b count next
    adopts_same rows points scopes = record {
      work = adopted_same old.arena count (IsNewBefore old.arena count next) old.work mid.work new.work so.work rows points rest;
      scopes = subst (λ (x : Scopes). HaveEntered old.scopes x b (IsNewBefore old.arena count next)) (sym scopes) so.scopes;
      arena = arena ∙ so.arena;
      timed = timed ∙ so.timed;
      dying = dying ∙ so.dying;
      ran = ap (λ (l : Vec NodeId Global). l.items) ran ∙ so.ran;
      room = subst (λ (l : Vec NodeId Global). vec_capacity old.ran ≤ vec_capacity l) (sym ran) so.room;
    }

-- ---- one node

-- with what is no expert none is created
pub added_plain : (def : Def) (old new : List ExpertPlace) (n : NodeId) → is_expert_def def ≡ false → ExpertIsAdded def old new n → new ≡ old
added_plain (graph.Expert f v ns) old new n plain added = absurd (cc)
added_plain (graph.Const v) old new n plain added = added
added_plain (graph.Var v) old new n plain added = added
added_plain (graph.Map f ns) old new n plain added = added
added_plain (graph.Fold f v ns) old new n plain added = added
added_plain (graph.If t x y) old new n plain added = added
added_plain (graph.Join kid) old new n plain added = added
added_plain (graph.Bind l f captures) old new n plain added = added
added_plain (graph.At t) old new n plain added = added
added_plain (graph.Steps v steps) old new n plain added = added
added_plain graph.Now old new n plain added = added
added_plain (graph.Every base span) old new n plain added = added
added_plain (graph.Freeze kid f) old new n plain added = added

module _ (a : Arena) (old mid : Work) (node : NodeId) (row : Row) (is_row : row_at a node ≡ Some row)
    (rows : ChangesNode old.rows mid.rows node (for_parts row.def (λ part. new_row row.def)))
    (heights : Part → ℕ) (points : ChangesNode old.graph.heights mid.graph.heights node (for_parts row.def heights))
    (pairs : (n : NodeId) → IsLive a n ⊎ (n ≡ node) → Among n (pairs_with row.def old.pairs.nodes node) → Among n mid.pairs.nodes)
    (in_scope : Among node mid.scoped.nodes)
    (scoped : (n : NodeId) → IsLive a n → Among n old.scoped.nodes → Among n mid.scoped.nodes)
    (links : mid.graph.links ≡ old.graph.links) (roots : mid.graph.roots ≡ old.graph.roots) (heap : KeepsRows old.graph.heap mid.graph.heap)
    (step : IsInStep mid.graph) (todo : mid.todo ≡ old.todo) (round : KeepsRound (record old { experts = mid.experts }) mid)
    (experts : ExpertIsAdded row.def old.experts mid.experts node)
    (plain : is_expert (row_at a node) ≡ false) where
  -- no expert was created
  gets_no_expert : mid.experts ≡ old.experts
  gets_no_expert = added_plain row.def old.experts mid.experts node (sym (ap is_expert is_row) ∙ plain) experts

  pub gets_points : GetsPoints a old mid node
  gets_points = record {
    row = row;
    is_row = is_row;
    heights = heights;
    rows = rows;
    points = points;
    pair = λ some. pairs node (inr refl) (pair_listed (subject_of row.def) old.pairs.nodes node some);
    in_scope = in_scope;
  }

  pub gets_rest : KeepsRest a old mid
  gets_rest = record {
    step = step;
    links = links;
    roots = roots;
    heap = heap;
    todo = rw todo refl;
    round = round_whole old mid round gets_no_expert;
    pairs = λ n live x. pairs n (inl live) (pair_stays (subject_of row.def) old.pairs.nodes node n x);
    scoped = scoped;
  }

  module _ (before : IsInStep old.graph) (no_row : (p : Point) → p.node ≡ node → at old.rows p ≡ None)
      (no_point : (p : Point) → p.node ≡ node → at old.graph.heights p ≡ None) where
    -- its points were dropped again
    module _ (new : Work) (gone : ChangesNode mid.rows new.rows node (λ part. None))
        (dropped : ChangesNode mid.graph.heights new.graph.heights node (λ part. None)) (same_links : new.graph.links ≡ mid.graph.links)
        (same_roots : new.graph.roots ≡ mid.graph.roots) (same_heap : new.graph.heap ≡ mid.graph.heap) (new_step : IsInStep new.graph)
        (same : new ≡ record mid { graph = new.graph; rows = new.rows; experts = new.experts }) (same_todo : new.todo ≡ mid.todo)
        (same_round : KeepsRound (record mid { experts = new.experts }) new) (same_experts : expert_at mid.experts node ≡ None → new.experts ≡ mid.experts)
        (absent : expert_at old.experts node ≡ None) where
      pub back_rest : KeepsRest a old new
      back_rest = record {
        step = new_step;
        links = same_links ∙ links;
        roots = same_roots ∙ roots;
        heap = λ p. ap (λ (m : Rows ℕ). at m p) same_heap ∙ heap p;
        todo = rw (same_todo, todo) refl;
        round = rounds_kept old mid new (round_whole old mid round gets_no_expert) (round_whole mid new same_round
            (same_experts (ap (λ (e : List ExpertPlace). expert_at e node) gets_no_expert ∙ absent)));
        pairs = λ n live x. subst (λ (w : Work). Among n w.pairs.nodes) (sym same) (gets_rest.pairs n live x);
        scoped = λ n live x. subst (λ (w : Work). Among n w.scoped.nodes) (sym same) (scoped n live x);
      }
