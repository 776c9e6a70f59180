-- A bind's right side is built, or all that was added for it is dropped again.
use Rattle.std.proofs.Math.Path.{fun_ext}
use Rattle.std.proofs.Common.{◌≡◌, ◌⊎◌, inl, inr, ℕ, ◌<◌, ◌≤◌, ◌+◌, ◌-◌, Bool, false, List, Option, None, Some, refl, sym, ap, subst, ◌∙◌, arith, Vec, Global}
use Rattle.std.specs.Prelude.{is_some, IsTrue, ◌↔◌, vec_capacity}
use Rattle.std.proofs.lemmas.Bool.{cases_lt}
use Rattle.std.proofs.lemmas.Option.{none-some}
use Rattle.inc_value.specs.Choice.{Among}
use Rattle.inc_value.specs.declared.function.FnRef.{FnRef}
use Rattle.inc_value.specs.declared.node.NodeId.{NodeId}
use Rattle.inc_value.specs.declared.node.Point.{Point}
use Rattle.inc_value.specs.declared.value.Value.{Value}
use Rattle.inc_terms.specs.Graph as graph
use Rattle.inc_terms.specs.Graph.{Row, Def}
use Rattle.expert_nodes.specs.Experts.{ExpertPlace, expert_at}
use Rattle.inc_value.specs.declared.function.FnKind.TheVariants.{Rhs}
use Rattle.inc_terms.specs.Within.{Given, KnownAs}
use Rattle.necessary_graph.specs.Part.{IsInStep}
use Rattle.node_arena.specs.Arena.{Arena, row_at, live, IsLive, IsFull}
use Rattle.stabilizer.proofs.Round.Alive.{fewer_live}
use Rattle.node_arena.specs.Building.{building_in, Grows, Use, Weighs}
use Rattle.node_arena.specs.Meanings.{SameKnown}
use Rattle.node_arena.specs.RightSide.{RightSide, IsEmpty, SidesHold, SameMeaning, SameSides, AreFit, Tally, one_built}
use Rattle.node_arena.specs.RightSideLaws.{AllFit, IsFitIn}
use Rattle.node_arena.specs.Sound.{IsSoundArena}
use Rattle.node_arena.specs.declared.functions.Functions.{Ghosts}
use Rattle.node_arena.specs.declared.stored.BuildFault.{BuildFault}
use Rattle.node_arena.specs.declared.stored.BuildFault.TheVariants as fault
use Rattle.node_arena.proofs.Graph.{calls_more}
use Rattle.node_arena.proofs.RightSides.{fit_lasts, building_fits, new_in_scope}
use Rattle.node_outcomes.specs.Computing.{has_part, is_expert}
use Rattle.point_map.specs.Rows.{at}
use Rattle.scopes.specs.Scopes.{Scopes, StandsIn, IsApart}
use Rattle.wiring.specs.Kept.{IsKept, IsTop}
use Rattle.wiring.specs.declared.refused.Refused.{Refused}
use Rattle.wiring.specs.declared.refused.Refused.TheVariants.{Full, Memory}
use Rattle.wiring.specs.declared.work.Work.{Work}
use Rattle.wiring.proofs.Deciding.{need_same}
use Rattle.stabilizer.specs.Building.{HasGrown, IsUnbuilt, LeavesNoRoom, StopsBuilding, IsNewBefore, HasAdopted, HaveEntered, IsNewRow}
use Rattle.stabilizer.specs.Building.{AdoptsBefore, NoneSince, MayAdopt, MayDisown, HasDisowned}
use Rattle.stabilizer.specs.Dying.{IsBindNode, IsBindOf}
use Rattle.stabilizer.specs.Giving.{GivesLive}
use Rattle.stabilizer.specs.Kept.{PartsKept, KeepsScopes}
use Rattle.stabilizer.specs.Rooted.{MayBuildFor, WasBuilt}
use Rattle.stabilizer.specs.Weights.{ScopesFit, SidesFit}
use Rattle.timed_nodes.specs.Timed.{KeepsClock}
use Rattle.stabilizer.specs.declared.parts.Parts.{Parts}
use Rattle.timed_nodes.specs.Timed.{Timed}
use Rattle.timed_nodes.proofs.Watching.{clock_grown}
use Rattle.stabilizer.proofs.Step.Giving.{built_gives}
use Rattle.stabilizer.proofs.Step.Experts.{no_expert, not_created}
use Rattle.stabilizer.proofs.Building.Adopting.{rounds_roomy, adopts_none}
use Rattle.stabilizer.proofs.Building.Weighing.{sides_last, scopes_built}
use Rattle.stabilizer.proofs.Building.Growing.{holds_none, none_holds, grown_kept, grown_scopes}

-- functions of nodes fit on where some nodes are dropped
pub fit_fewer : (known : FnRef → Bool) (right : FnRef → RightSide) (a fewer : Arena) → fewer.given ≡ a.given
    → ((n : NodeId) → (row_at fewer n ≡ row_at a n) ⊎ (row_at fewer n ≡ None)) → SidesFit known right a → SidesFit known right fewer
fit_fewer known right a fewer given rows fit = sides_last known known right right a fewer (λ f h. refl) rows all_fewer fit
  where
    all_fewer : AllFit known right fewer
    all_fewer n r e = elim (rows n) [
      | inl same ↦ calls_more (IsFitIn known right a) (IsFitIn known right fewer)
          (fit_lasts known known right right a fewer (record { keeps = λ f h. h; same = λ f h. refl }) (omega (arith, given)) (λ m g. rows m)) r.def
          (fit.all n r (sym same ∙ e))
      | inr none ↦ absurd (none-some r (sym none ∙ e))
    ]

-- functions of nodes fit on where one of them builds
pub fit_built : (known later : FnRef → Bool) (right made : FnRef → RightSide) (b : NodeId) (a built : Arena) (f : FnRef)
    → SidesHold known right → KnownAs known Rhs f → SameKnown known later → SameSides right made → AreFit a (right f).ids
    → (work : Work) → IsKept a work → IsLive a b → IsEmpty a b → IsBindOf a b f
    → Grows (right f).uses (building_in b a) (building_in b built) (right f).size → SidesFit known right a → SidesFit later made built
fit_built known later right made b a built f hold is names sides ids work kept live empty own grows fit = record {
  all = building_fits known later right made (building_in b a) (building_in b built) f (right f).size
      (record { keeps = λ h t. subst IsTrue (sym (names h)) t; same = λ h t. sides h }) hold is ids grows fit.all;
  scopes = subst (λ (s : FnRef → RightSide). ScopesFit s built) (sym (fun_ext sides))
      (scopes_built known right hold f is b a built kept.sound live empty (λ n c r row scope. ap is_some (kept.scopes n r c row scope).4) own grows fit.scopes);
}

-- what counts as a node of a scope is no freeze and no expert
weighs_plain : (uses : List Use) (def : Def) (w : ℕ) → Weighs uses def w → IsTop def → ⊥
weighs_plain uses (graph.Freeze kid f) w h top = h
weighs_plain uses (graph.Expert f v ns) w h top = h
weighs_plain uses _ w h top = top

-- a fault of the builder's stops the build as it says
pub stops_by : (before : ℕ) (arena : Arena) (f : BuildFault) (e : Refused) → ((e ≡ Full) ↔ (f ≡ fault.Full)) → ((e ≡ Memory) ↔ (f ≡ fault.Memory))
    → (f ≡ fault.Full → LeavesNoRoom before arena) → StopsBuilding before arena e
stops_by before arena fault.Full e full memory room = subst (StopsBuilding before arena) (sym (full.1 refl)) (room refl)
stops_by before arena fault.Memory e full memory room = subst (StopsBuilding before arena) (sym (memory.1 refl)) tt

module _ (old mid : Parts) (b : NodeId) (side : RightSide) (kept : PartsKept old)
    (bind : IsBindNode old.arena b) (empty : IsEmpty old.arena b)
    (sound : IsSoundArena mid.arena) (grows : Grows side.uses (building_in b old.arena) (building_in b mid.arena) side.size)
    (work : mid.work ≡ old.work) (scopes : mid.scopes ≡ old.scopes) (timed : mid.timed ≡ old.timed) (dying : mid.dying.items ≡ old.dying.items)
    (ran : mid.ran ≡ old.ran) where
  -- ---- what is new

  no_old_row : (p : Point) → old.arena.given ≤ p.node.gen_ → at old.work.rows p ≡ None
  no_old_row p since = holds_none (at old.work.rows p) (λ h. (let g = kept.work.given p (kept.work.there p h) in absurd (omega (arith, g, since))))

  no_old_point : (p : Point) → old.arena.given ≤ p.node.gen_ → at old.work.graph.heights p ≡ None
  no_old_point p since = holds_none (at old.work.graph.heights p) (λ h. (let g = kept.work.given p h in absurd (omega (arith, g, since))))

  was_apart : (n : NodeId) → old.arena.given ≤ n.gen_ → IsApart old.scopes n
  was_apart n since = record {
    out = λ s h.
        let r = (kept.scopes.stands n s).0 h in
        let g = kept.work.sound.given n (ap is_some r.1) in
        absurd (omega (arith, g, since));
    live = λ h. subst (Among n) kept.scopes.none h;
  }

  new_scope : (n : NodeId) (r : Row) → row_at mid.arena n ≡ Some r → old.arena.given ≤ n.gen_ → (r.scope ≡ Some b) × Given mid.arena.given n
  new_scope n r e since = new_in_scope side.uses (building_in b old.arena) (building_in b mid.arena) side.size kept.work.sound sound grows n r e
      (λ g. absurd (omega (arith, g, since)))

  -- what is new is no freeze and no expert
  new_plain : (n : NodeId) (r : Row) → row_at mid.arena n ≡ Some r → old.arena.given ≤ n.gen_ → IsTop r.def → ⊥
  new_plain n r e since top = elim (grows.built n r e) [
    | inl was ↦ let g = kept.work.sound.given n (ap is_some was) in omega (arith, g, since)
    | inr h ↦ weighs_plain side.uses r.def h.weighed.weight h.weight top
  ]

  plain_row : (n : NodeId) → old.arena.given ≤ n.gen_ → is_expert (row_at mid.arena n) ≡ false
  plain_row n since = by (row_at mid.arena n) refl
    where
      by : (x : Option Row) → row_at mid.arena n ≡ x → is_expert x ≡ false
      by None e = refl
      by (Some r) e = no_expert r.def (new_plain n r e since)

  no_old_node : (n : NodeId) → old.arena.given ≤ n.gen_ → row_at old.arena n ≡ None
  no_old_node n since = holds_none (row_at old.arena n) (λ h. (let g = kept.work.sound.given n h in absurd (omega (arith, g, since))))

  no_old_expert : (n : NodeId) → old.arena.given ≤ n.gen_ → expert_at old.work.experts n ≡ None
  no_old_expert n since = not_created old.arena old.work kept.work n (ap is_expert (no_old_node n since))

  none_in : (n : NodeId) → StandsIn old.scopes n b → ⊥
  none_in n h = let r = (kept.scopes.stands n b).0 h in empty n r.0 r.1 r.2

  scope_older : (n s : NodeId) → StandsIn old.scopes n s → s.gen_ < old.arena.given
  scope_older n s h = let r = (kept.scopes.stands n s).0 h in kept.work.sound.scopes n r.0 s r.1 r.2

  bind_older : b.gen_ < old.arena.given
  bind_older = kept.work.sound.given b (ap is_some bind.4)

  pub may_adopt : MayAdopt mid old.arena.given
  may_adopt = record {
    sound = sound;
    step = subst (λ (w : Work). IsInStep w.graph) (sym work) kept.work.step;
    later = grows.later;
    no_row = λ p s. ap (λ (w : Work). at w.rows p) work ∙ no_old_row p s;
    no_point = λ p s. ap (λ (w : Work). at w.graph.heights p) work ∙ no_old_point p s;
    apart = λ n s. subst (λ (x : Scopes). IsApart x n) (sym scopes) (was_apart n s);
    plain = plain_row;
    no_expert = λ n s. ap (λ (w : Work). expert_at w.experts n) work ∙ no_old_expert n s;
  }

  module _ (new : Parts) (next : ℕ) (so : AdoptsBefore mid new b old.arena.given next) where
    abbrev These : NodeId → Type 0
    These n = IsNewBefore mid.arena old.arena.given next n

    adopted : HasAdopted mid.arena old.arena.given These old.work new.work
    adopted = subst (λ (w : Work). HasAdopted mid.arena old.arena.given These w new.work) work so.work

    entered : HaveEntered old.scopes new.scopes b These
    entered = subst (λ (x : Scopes). HaveEntered x new.scopes b These) scopes so.scopes

    -- ---- all nodes have their points

    module _ (all : NoneSince mid.arena next) (called : live mid.arena ≤ vec_capacity new.work.ran) (listed : live mid.arena ≤ vec_capacity new.ran) where
      is_new : (n : NodeId) → old.arena.given ≤ n.gen_ → IsLive mid.arena n → These n
      is_new n since alive = record { live = alive; since = since; before = all n alive }

      work_kept : IsKept mid.arena new.work
      work_kept = grown_kept old.arena mid.arena old.work new.work b These kept.work bind grows.later sound (λ n g. grows.keeps n g)
          (λ n r e s. (new_scope n r e s).0) adopted is_new (λ n t. t.live) (λ n t. t.since) new_plain called

      scopes_kept : KeepsScopes mid.arena new.scopes
      scopes_kept = grown_scopes old.arena mid.arena old.work new.work b These kept.work bind grows.later sound (λ n g. grows.keeps n g)
          (λ n r e s. (new_scope n r e s).0) adopted is_new (λ n t. t.live) (λ n t. t.since) new_plain old.scopes new.scopes kept.scopes entered

      pub built_kept : PartsKept new
      built_kept = record {
        work = subst (λ (x : Arena). IsKept x new.work) (sym so.arena) work_kept;
        scopes = subst (λ (x : Arena). KeepsScopes x new.scopes) (sym so.arena) scopes_kept;
        dying = so.dying ∙ (dying ∙ kept.dying);
        clock = subst (λ (x : Timed). KeepsClock new.arena x) (sym (so.timed ∙ timed))
            (subst (λ (x : Arena). KeepsClock x old.timed) (sym so.arena)
            (clock_grown old.arena mid.arena old.timed kept.clock grows.later grows.time (λ n g. grows.keeps n g)));
        listing = subst (λ (x : Arena). live x ≤ vec_capacity new.ran) (sym so.arena) listed;
      }

      pub has_grown : HasGrown old new b
      has_grown = record {
        later = subst (λ (x : Arena). old.arena.given ≤ x.given) (sym so.arena) grows.later;
        time = ap (λ (x : Arena). x.time) so.arena ∙ grows.time;
        sound = subst IsSoundArena (sym so.arena) sound;
        nodes = λ n g. ap (λ (x : Arena). row_at x n) so.arena ∙ grows.keeps n g;
        scope = λ n r e s. subst (λ (x : Arena). (r.scope ≡ Some b) × Given x.given n) (sym so.arena)
            (new_scope n r (sym (ap (λ (x : Arena). row_at x n) so.arena) ∙ e) s);
        rows = λ p g. adopted.older.rows p g;
        fresh = λ p k s e. subst (λ (x : Arena). IsNewRow x p.node k) (sym so.arena) (adopted.fresh p k s e);
        heights = λ p g. adopted.older.points p g;
        links = adopted.older.links;
        roots = adopted.older.roots;
        heap = adopted.older.heap;
        todo = adopted.older.todo;
        round = adopted.older.round;
        called = adopted.ran;
        ran = so.ran ∙ ap (λ (l : Vec NodeId Global). l.items) ran;
      }

    -- ---- they can be dropped

    stood : (n : NodeId) → StandsIn new.scopes n b → These n
    stood n h = elim ((entered.stands n b).0 h) [ inl was ↦ absurd (none_in n was) | inr t ↦ t.1 ]

    pub may_disown : MayDisown new b old.arena.given
    may_disown = record {
      sound = subst IsSoundArena (sym so.arena) sound;
      step = so.work.step;
      later = subst (λ (x : Arena). old.arena.given ≤ x.given) (sym so.arena) grows.later;
      points = record {
        parts = λ p h. adopted.points.parts p (stood p.node h) ∙ sym (ap (λ (x : Arena). has_part (row_at x p.node) p.part) so.arena);
        alone = λ p s h. (entered.stands p.node b).1 (inr (refl, adopted.points.alone p s h));
        there = adopted.points.there;
      };
      new = λ n h.
          let t = stood n h in
          let there : IsLive new.arena n = subst (λ (x : Arena). IsLive x n) (sym so.arena) t.live in
          record { live = there; since = t.since; before = subst (λ (x : Arena). n.gen_ < x.given) (sym so.arena) (sound.given n t.live) };
      unneeded = λ p s n. none_holds (at old.work.graph.heights p) (no_old_point p s)
          (kept.work.step.there p (need_same new.work.graph old.work.graph (sym adopted.older.links) (sym adopted.older.roots) p n));
      experts = λ n s. ap (λ (e : List ExpertPlace). expert_at e n) adopted.older.round.experts ∙ no_old_expert n s;
      scopes = λ n s h. elim ((entered.stands n s).0 h) [
        | inl was ↦ scope_older n s was
        | inr t ↦ subst (λ (x : NodeId). x.gen_ < old.arena.given) (sym t.0) bind_older
      ];
      killed = entered.killed ∙ kept.scopes.none;
    }

    -- ---- they are dropped

    module _ (last : Parts) (dis : HasDisowned new last b old.arena.given) where
      pub given_same : last.arena.given ≡ mid.arena.given
      given_same = dis.arena.given ∙ ap (λ (x : Arena). x.given) so.arena

      nodes_last : (n : NodeId) → n.gen_ < old.arena.given → row_at last.arena n ≡ row_at mid.arena n
      nodes_last n g = dis.arena.nodes n g ∙ ap (λ (x : Arena). row_at x n) so.arena

      nodes_old : (n : NodeId) → n.gen_ < old.arena.given → row_at last.arena n ≡ row_at old.arena n
      nodes_old n g = nodes_last n g ∙ grows.keeps n g

      alive_mid : (n : NodeId) → n.gen_ < old.arena.given → IsLive last.arena n → IsLive mid.arena n
      alive_mid n g h = sym (ap is_some (nodes_last n g)) ∙ h

      alive_new : (n : NodeId) → n.gen_ < old.arena.given → IsLive last.arena n → IsLive new.arena n
      alive_new n g h = sym (ap is_some (dis.arena.nodes n g)) ∙ h

      later_last : old.arena.given ≤ last.arena.given
      later_last = let g = given_same in let l = grows.later in omega (arith, g, l)

      time_last : last.arena.time ≡ old.arena.time
      time_last = dis.arena.time ∙ (ap (λ (x : Arena). x.time) so.arena ∙ grows.time)

      adopted_none : HasAdopted last.arena old.arena.given (λ n. ⊥) old.work last.work
      adopted_none = record {
        step = dis.step;
        older = record {
          rows = λ p g. dis.older.rows p g ∙ adopted.older.rows p g;
          points = λ p g. dis.older.points p g ∙ adopted.older.points p g;
          links = dis.older.links ∙ adopted.older.links;
          roots = dis.older.roots ∙ adopted.older.roots;
          heap = λ p. dis.older.heap p ∙ adopted.older.heap p;
          todo = dis.older.todo ∙ adopted.older.todo;
          round = rounds_roomy old.work new.work last.work adopted.older.round dis.older.round;
        };
        ran = ap (λ (l : Vec NodeId Global). l.items) dis.older.round.ran ∙ adopted.ran;
        room = subst (λ (l : Vec NodeId Global). vec_capacity old.work.ran ≤ vec_capacity l) (sym dis.older.round.ran) adopted.room;
        lists = record {
          pairs = λ n g h x. dis.lists.pairs n g (alive_new n g h) (adopted.lists.pairs n g (alive_mid n g h) x);
          scoped = λ n g h x. dis.lists.scoped n g (alive_new n g h) (adopted.lists.scoped n g (alive_mid n g h) x);
        };
        points = record {
          parts = λ p t. absurd t;
          alone = λ p s h. none_holds (at last.work.rows p) (dis.no_row p s) h;
          there = λ p s. ap is_some (dis.no_point p s) ∙ sym (ap is_some (dis.no_row p s));
        };
        fresh = λ p k s e. absurd (none-some k (sym (dis.no_row p s) ∙ e));
        listed = record { pairs = λ n r e t some. absurd t; scoped = λ n r e t. absurd t };
      }

      entered_none : HaveEntered old.scopes last.scopes b (λ n. ⊥)
      entered_none = record {
        stands = λ n s. (
          (λ h. (let k = (dis.stands n s).0 h in
              elim ((entered.stands n s).0 k.0) [ inl was ↦ inl was | inr t ↦ absurd (k.1 t.0) ])),
          (λ h. (dis.stands n s).1 (elim h [
            | inl was ↦ ((entered.stands n s).1 (inl was), λ is. none_in n (subst (λ (x : NodeId). StandsIn old.scopes n x) is was))
            | inr t ↦ absurd t.1
          ])),
        );
        killed = dis.killed ∙ sym kept.scopes.none;
      }

      no_scope : (n : NodeId) (r : Row) → row_at last.arena n ≡ Some r → old.arena.given ≤ n.gen_ → r.scope ≡ Some b
      no_scope n r e s = absurd (none-some r (sym (dis.arena.gone n s) ∙ e))

      none_alive : (n : NodeId) → old.arena.given ≤ n.gen_ → IsLive last.arena n → ⊥
      none_alive n s h = none_holds (row_at last.arena n) (dis.arena.gone n s) h

      none_top : (n : NodeId) (r : Row) → row_at last.arena n ≡ Some r → old.arena.given ≤ n.gen_ → IsTop r.def → ⊥
      none_top n r e s top = none-some r (sym (dis.arena.gone n s) ∙ e)

      -- no more nodes live than before
      no_more_live : live last.arena ≤ live old.arena
      no_more_live = fewer_live old.arena last.arena (λ n r e. elim (cases_lt n.gen_ old.arena.given) [
        | inl g ↦ sym (ap is_some (nodes_old n g)) ∙ ap is_some e
        | inr s ↦ absurd (none_alive n s (ap is_some e))
      ])

      pub unbuilt_kept : PartsKept last
      unbuilt_kept = record {
        work = grown_kept old.arena last.arena old.work last.work b (λ n. ⊥) kept.work bind later_last dis.arena.sound nodes_old no_scope adopted_none
            none_alive (λ n t. absurd t) (λ n t. absurd t) none_top
            (let room = kept.work.rooms.ran in let few = no_more_live in let more = adopted_none.room in omega (arith, room, few, more));
        scopes = grown_scopes old.arena last.arena old.work last.work b (λ n. ⊥) kept.work bind later_last dis.arena.sound nodes_old no_scope
            adopted_none none_alive (λ n t. absurd t) (λ n t. absurd t) none_top old.scopes last.scopes kept.scopes entered_none;
        dying = dis.dying ∙ (so.dying ∙ (dying ∙ kept.dying));
        clock = subst (λ (x : Timed). KeepsClock last.arena x) (sym (dis.timed ∙ (so.timed ∙ timed)))
            (clock_grown old.arena last.arena old.timed kept.clock later_last time_last nodes_old);
        listing =
            let room = kept.listing in
            let few = no_more_live in
            let same = ap (λ (l : Vec NodeId Global). vec_capacity l) ran in
            let more = so.room in
            let still = ap (λ (l : Vec NodeId Global). vec_capacity l) dis.ran in
            omega (arith, room, few, same, more, still);
      }

      pub is_unbuilt : IsUnbuilt old last b
      is_unbuilt = record {
        grown = record {
          later = later_last;
          time = time_last;
          sound = dis.arena.sound;
          nodes = λ n g. nodes_old n g;
          scope = λ n r e s. absurd (none-some r (sym (dis.arena.gone n s) ∙ e));
          rows = λ p g. adopted_none.older.rows p g;
          fresh = λ p k s e. absurd (none-some k (sym (dis.no_row p s) ∙ e));
          heights = λ p g. adopted_none.older.points p g;
          links = adopted_none.older.links;
          roots = adopted_none.older.roots;
          heap = adopted_none.older.heap;
          todo = adopted_none.older.todo;
          round = adopted_none.older.round;
          called = adopted_none.ran;
          ran = ap (λ (l : Vec NodeId Global). l.items) dis.ran ∙ (so.ran ∙ ap (λ (l : Vec NodeId Global). l.items) ran);
        };
        none = λ n s. dis.arena.gone n s;
      }

      pub no_room : IsFull mid.arena → LeavesNoRoom old.arena.given last.arena
      no_room full =
          let room : live mid.arena ≤ live last.arena + (mid.arena.given - old.arena.given) =
          subst (λ (x : Arena). live x ≤ live last.arena + (x.given - old.arena.given)) so.arena dis.arena.room in
          let same = given_same in
          elim full [ inl many ↦ inl (omega (arith, many, room, same)) | inr every ↦ inr (same ∙ every) ]

      pub unbuilt_fit : (known : FnRef → Bool) (right : FnRef → RightSide) → SidesFit known right mid.arena → SidesFit known right last.arena
      unbuilt_fit known right all = fit_fewer known right mid.arena last.arena given_same
          (λ n. elim (cases_lt n.gen_ old.arena.given) [ inl g ↦ inl (nodes_last n g) | inr s ↦ inr (dis.arena.gone n s) ]) all

-- ---- by a keeper's function

-- a keeper's function built nodes in the bind's scope, and nothing else was done
pub record HasBuiltNodes {K More : Type 0} (keeper : Ghosts K More) (fs fs' : K) (old mid : Parts) (b : NodeId) (f : FnRef) (captures : List NodeId)
    (left : Value) (count : ℕ) : Type 0 where
  pub may : MayBuildFor keeper fs old b f captures left
  pub holds : SidesHold (keeper.known fs) (keeper.right fs)
  pub sound : keeper.is_sound fs'
  pub arena : IsSoundArena mid.arena
  pub grows : Grows (keeper.right fs f).uses (building_in b old.arena) (building_in b mid.arena) (keeper.right fs f).size
  pub same : SameMeaning (keeper.named fs) (keeper.named fs') (keeper.known fs) (keeper.known fs') (keeper.value fs) (keeper.value fs')
      (keeper.right fs) (keeper.right fs')
  pub tally : keeper.tally fs' ≡ one_built (mid.arena.given - old.arena.given) (keeper.tally fs)
  pub calls : keeper.calls fs' ≡ keeper.calls fs
  pub wants : keeper.wants fs' ≡ keeper.wants fs
  pub rest : mid ≡ record old { arena = mid.arena }
  pub counted : count ≡ old.arena.given

module _ {K More : Type 0} {keeper : Ghosts K More} {fs fs' : K} {old mid : Parts} {b : NodeId} {f : FnRef} {captures : List NodeId} {left : Value}
    {count : ℕ} (h : HasBuiltNodes keeper fs fs' old mid b f captures left count) where
  abbrev side : RightSide
  side = keeper.right fs f

  work : mid.work ≡ old.work
  work = ap (λ (p : Parts). p.work) h.rest

  scopes : mid.scopes ≡ old.scopes
  scopes = ap (λ (p : Parts). p.scopes) h.rest

  timed : mid.timed ≡ old.timed
  timed = ap (λ (p : Parts). p.timed) h.rest

  dying : mid.dying.items ≡ old.dying.items
  dying = ap (λ (p : Parts). p.dying.items) h.rest

  ran : mid.ran ≡ old.ran
  ran = ap (λ (p : Parts). p.ran) h.rest

  pub can_adopt : MayAdopt mid count
  can_adopt = subst (λ (k : ℕ). MayAdopt mid k) (sym h.counted)
      (may_adopt old mid b side h.may.kept h.may.bind h.may.ready.empty h.arena h.grows work scopes timed dying ran)

  -- before any is adopted
  pub none_adopted : (next : ℕ) × AdoptsBefore mid mid b count next
  none_adopted = (count, adopts_none mid mid.work.ran mid.ran b count can_adopt refl (omega arith) refl (omega arith))

  fit_mid : SidesFit (keeper.known fs') (keeper.right fs') mid.arena
  fit_mid = fit_built (keeper.known fs) (keeper.known fs') (keeper.right fs) (keeper.right fs') b old.arena mid.arena f h.holds h.may.known h.same.known
      h.same.sides h.may.ready.fit old.work h.may.kept.work h.may.live h.may.ready.empty h.may.own h.grows h.may.fit

  was_built : (new : Parts) → HasGrown old new b → PartsKept new → SidesFit (keeper.known fs') (keeper.right fs') new.arena
      → new.arena.given ≡ mid.arena.given → WasBuilt keeper fs fs' old new b
  was_built new grew kept fit given = record {
    grew = grew;
    kept = kept;
    meaning = record {
      sound = h.sound;
      same = h.same;
      taken = ap (λ (t : Tally). t.taken) h.tally;
      most = ap (λ (t : Tally). t.most) h.tally;
    };
    fit = fit;
    calls = h.calls;
    wants = h.wants;
    tally = h.tally ∙ ap (λ (k : ℕ). one_built (k - old.arena.given) (keeper.tally fs)) (sym given);
  }

  spends : (new : Parts) → new.arena.given ≡ mid.arena.given → new.arena.given ≤ old.arena.given + side.size
  spends new given = let few = h.grows.few in omega (arith, few, given)

  module _ (new : Parts) where
    adopts_so : (next : ℕ) → AdoptsBefore mid new b count next → AdoptsBefore mid new b old.arena.given next
    adopts_so next some = subst (λ (k : ℕ). AdoptsBefore mid new b k next) h.counted some

    pub can_disown : (next : ℕ) × AdoptsBefore mid new b count next → MayDisown new b count
    can_disown some = subst (λ (k : ℕ). MayDisown new b k) (sym h.counted)
        (may_disown old mid b side h.may.kept h.may.bind h.may.ready.empty h.arena h.grows work scopes timed dying ran new some.0 (adopts_so some.0 some.1))

    -- all nodes have their points
    module _ (all : (next : ℕ) × AdoptsBefore mid new b count next × NoneSince mid.arena next) (called : live mid.arena ≤ vec_capacity new.work.ran)
        (listed : live mid.arena ≤ vec_capacity new.ran) where
      so_all : AdoptsBefore mid new b old.arena.given all.0
      so_all = adopts_so all.0 all.1

      given_all : new.arena.given ≡ mid.arena.given
      given_all = ap (λ (x : Arena). x.given) all.1.arena

      pub all_built : WasBuilt keeper fs fs' old new b
      all_built = was_built new
          (has_grown old mid b side h.may.kept h.may.bind h.may.ready.empty h.arena h.grows work scopes timed dying ran new all.0 so_all all.2 called
          listed)
          (built_kept old mid b side h.may.kept h.may.bind h.may.ready.empty h.arena h.grows work scopes timed dying ran new all.0 so_all all.2 called
          listed)
          (subst (λ (x : Arena). SidesFit (keeper.known fs') (keeper.right fs') x) (sym all.1.arena) fit_mid) given_all

      pub all_gives : GivesLive old.arena.given 0 new.arena
      all_gives = subst (λ (x : Arena). GivesLive old.arena.given 0 x) (sym all.1.arena)
          (built_gives old.arena mid.arena h.may.kept.work.sound h.grows.keeps h.grows.live)

      pub all_spends : new.arena.given ≤ old.arena.given + side.size
      all_spends = spends new given_all

    -- or they were dropped again
    module _ (some : (next : ℕ) × AdoptsBefore mid new b count next) (last : Parts) (disowned : HasDisowned new last b count) where
      so : AdoptsBefore mid new b old.arena.given some.0
      so = adopts_so some.0 some.1

      dis : HasDisowned new last b old.arena.given
      dis = subst (λ (k : ℕ). HasDisowned new last b k) h.counted disowned

      given_none : last.arena.given ≡ mid.arena.given
      given_none =
          given_same old mid b side h.may.kept h.may.bind h.may.ready.empty h.arena h.grows work scopes timed dying ran new some.0 so last dis

      unbuilt : IsUnbuilt old last b
      unbuilt = is_unbuilt old mid b side h.may.kept h.may.bind h.may.ready.empty h.arena h.grows work scopes timed dying ran new some.0 so last dis

      pub none_built : WasBuilt keeper fs fs' old last b
      none_built = was_built last unbuilt.grown
          (unbuilt_kept old mid b side h.may.kept h.may.bind h.may.ready.empty h.arena h.grows work scopes timed dying ran new some.0 so last dis)
          (unbuilt_fit old mid b side h.may.kept h.may.bind h.may.ready.empty h.arena h.grows work scopes timed dying ran new some.0 so last dis
          (keeper.known fs') (keeper.right fs') fit_mid) given_none

      pub none_left : (n : NodeId) → old.arena.given ≤ n.gen_ → row_at last.arena n ≡ None
      none_left = unbuilt.none

      pub none_spends : last.arena.given ≤ old.arena.given + side.size
      none_spends = spends last given_none

      pub none_room : IsFull mid.arena → LeavesNoRoom old.arena.given last.arena
      none_room = no_room old mid b side h.may.kept h.may.bind h.may.ready.empty h.arena h.grows work scopes timed dying ran new some.0 so last dis
