-- Nodes that a bind's function added, with their points, are kept as all nodes are.
use Rattle.std.proofs.Common.{◌≡◌, inl, inr, ◌<◌, ◌≤◌, true, false, List, Option, None, Some, refl, sym, ap, subst, ◌∙◌, arith}
use Rattle.std.specs.Prelude.{is_some, IsSome, vec_capacity}
use Rattle.std.proofs.lemmas.Bool.{cases_lt}
use Rattle.std.proofs.lemmas.Option.{none-some, same_Some}
use Rattle.inc_value.specs.Choice.{Every}
use Rattle.inc_value.specs.declared.node.NodeId.{NodeId}
use Rattle.inc_value.specs.declared.node.Point.{Point}
use Rattle.inc_terms.specs.Depend.{main, change}
use Rattle.inc_terms.specs.Graph.{Row}
use Rattle.inc_terms.specs.Local.{Scoped}
use Rattle.inc_terms.specs.Within.{Given}
use Rattle.link_table.specs.Links.{Links, Reads}
use Rattle.necessary_graph.specs.Part.{Needed}
use Rattle.node_arena.specs.Arena.{Arena, row_at, IsLive, live}
use Rattle.node_arena.specs.Sound.{IsSoundArena}
use Rattle.node_arena.specs.Typing.{FoldTakes}
use Rattle.expert_nodes.specs.Experts.{ExpertPlace, expert_at, kids_at}
use Rattle.node_outcomes.specs.Computing.{has_part, is_expert}
use Rattle.node_outcomes.specs.Row.{outcome_in}
use Rattle.node_outcomes.specs.Progress.{Progress, new_row}
use Rattle.point_map.specs.Rows.{at, Holds}
use Rattle.scopes.specs.Scopes.{Scopes}
use Rattle.wiring.specs.Graph.{graph_at, held_at}
use Rattle.wiring.specs.Kept.{IsKept, IsDead, IsTop, FitsRoom}
use Rattle.wiring.specs.declared.work.Work.{Work}
use Rattle.wiring.proofs.Deciding.{need_same}
use Rattle.wiring.proofs.Holding.{built_same, right_as, died_same, ghost_same, root_same}
use Rattle.wiring.proofs.Linking.{some_or_none}
use Rattle.stabilizer.specs.Building.{HasAdopted, HaveEntered, IsNewRow}
use Rattle.stabilizer.specs.Dying.{IsBindNode}
use Rattle.stabilizer.specs.Kept.{KeepsScopes}
use Rattle.stabilizer.proofs.Between.Typing.{KeepsTypes, call_still, folds_still, listed_still, typed_still, right_still}
use Rattle.stabilizer.proofs.Step.Experts.{kids_same, linked_as, no_expert}

-- what isn't there, as a test
pub holds_none : {A : Type 0} (x : Option A) → (IsSome x → ⊥) → x ≡ None
holds_none None h = refl
holds_none (Some a) h = absurd (h refl)

-- what is none isn't there
pub none_holds : {A : Type 0} (x : Option A) → x ≡ None → IsSome x → ⊥
none_holds x e h = let f = sym (ap is_some e) ∙ h in absurd (cc)

-- a dead node has no part
no_part : (x : Option Row) (p : Point) → x ≡ None → has_part x p.part ≡ false
no_part x p e = ap (λ (y : Option Row). has_part y p.part) e

module _ (before arena : Arena) (old work : Work) (b : NodeId) (These : NodeId → Type 0) (kept : IsKept before old) (bind : IsBindNode before b)
    (more : before.given ≤ arena.given) (sound : IsSoundArena arena)
    (nodes : (n : NodeId) → n.gen_ < before.given → row_at arena n ≡ row_at before n)
    (scope : (n : NodeId) (r : Row) → row_at arena n ≡ Some r → before.given ≤ n.gen_ → r.scope ≡ Some b)
    (adopted : HasAdopted arena before.given These old work)
    (all : (n : NodeId) → before.given ≤ n.gen_ → IsLive arena n → These n) (alive : (n : NodeId) → These n → IsLive arena n)
    (since : (n : NodeId) → These n → before.given ≤ n.gen_)
    (plain : (n : NodeId) (r : Row) → row_at arena n ≡ Some r → before.given ≤ n.gen_ → IsTop r.def → ⊥) where
  -- ---- what was there before

  row_older : (p : Point) → Holds old.rows p → p.node.gen_ < before.given
  row_older p h = kept.given p (kept.there p h)

  row_stays : (p : Point) → Holds old.rows p → Holds work.rows p
  row_stays p h = ap is_some (adopted.older.rows p (row_older p h)) ∙ h

  was_row : (n : NodeId) (r : Row) → n.gen_ < before.given → row_at arena n ≡ Some r → row_at before n ≡ Some r
  was_row n r older e = sym (nodes n older) ∙ e

  live_older : (n : NodeId) (r : Row) → row_at before n ≡ Some r → n.gen_ < before.given
  live_older n r e = kept.sound.given n (ap is_some e)

  is_row : (n : NodeId) (r : Row) → row_at before n ≡ Some r → row_at arena n ≡ Some r
  is_row n r e = nodes n (live_older n r e) ∙ e

  was_kept : (p : Point) (k : Progress) → p.node.gen_ < before.given → at work.rows p ≡ Some k → at old.rows p ≡ Some k
  was_kept p k older e = sym (adopted.older.rows p older) ∙ e

  built_as : (n : NodeId) → n.gen_ < before.given → (held_at arena work).built n ≡ (held_at before old).built n
  built_as n older = built_same before arena old work n (nodes n older) (adopted.older.rows (change n) older) adopted.older.round.roots

  types : KeepsTypes before arena
  types n r given e = (r, was_row n r given e, refl)

  need_now : (p : Point) → Needed old.graph p → Needed work.graph p
  need_now p n = need_same old.graph work.graph adopted.older.links adopted.older.roots p n

  -- ---- what is new

  -- a new point's row is as it was made
  unset : (p : Point) (k : Progress) → before.given ≤ p.node.gen_ → at work.rows p ≡ Some k → IsNewRow arena p.node k
  unset p k new e = adopted.fresh p k new e

  new_part : (p : Point) → before.given ≤ p.node.gen_ → is_some (at work.rows p) ≡ has_part (row_at arena p.node) p.part
  new_part p new = elim (some_or_none (row_at arena p.node)) [
    | inl r ↦ adopted.points.parts p (all p.node new (ap is_some r.1))
    | inr none ↦
        let gone : at work.rows p ≡ None = holds_none (at work.rows p)
        (λ h. none_holds (row_at arena p.node) none (alive p.node (adopted.points.alone p new h))) in
        ap is_some gone ∙ sym (no_part (row_at arena p.node) p none)
  ]

  dead_still : (n s : NodeId) → IsDead before n s → IsDead arena n s
  dead_still n s d = record {
    gone = nodes n d.given ∙ d.gone;
    given = (let g = d.given in omega (arith, g, more));
    scope_given = (let g = d.scope_given in omega (arith, g, more));
    scope_two = λ r e. d.scope_two r (was_row s r d.scope_given e);
  }

  scoped_now : Scoped (graph_at arena work)
  scoped_now n r s e is = elim (cases_lt n.gen_ before.given) [
    | inl older ↦
        let h = kept.scopes n r s (was_row n r older e) is in
        (h.0, h.1, h.2, h.3, is_row s h.0 h.4, h.5)
    | inr new ↦
        let same : b ≡ s = same_Some _ _ (sym (scope n r e new) ∙ is) in
        let there : IsBindNode arena b = (bind.0, bind.1, bind.2, bind.3, is_row b bind.0 bind.4, bind.5) in
        subst (IsBindNode arena) same there
  ]

  new_apart : (n s : NodeId) (r : Row) → row_at arena n ≡ Some r → r.scope ≡ Some s → before.given ≤ n.gen_ → s.gen_ < n.gen_
  new_apart n s r e is new =
      let is_b : b ≡ s = same_Some _ _ (sym (scope n r e new) ∙ is) in
      let gens : b.gen_ ≡ s.gen_ = ap (λ (x : NodeId). x.gen_) is_b in
      let low : b.gen_ < before.given = live_older b bind.0 bind.4 in
      omega (arith, gens, low, new)

  -- ---- experts

  kids_now : (n : NodeId) → kids_at work.experts n ≡ kids_at old.experts n
  kids_now = kids_same old.experts work.experts (linked_as old.experts work.experts adopted.older.round.experts)

  listed_before : (n : NodeId) → Every (Given before.given) (kids_at work.experts n)
  listed_before n = subst (λ (ns : List NodeId). Every (Given before.given) ns) (sym (kids_now n)) (kept.listed n)

  none_before : (n : NodeId) → before.given ≤ n.gen_ → row_at before n ≡ None
  none_before n new = holds_none (row_at before n) (λ h. (let g = kept.sound.given n h in absurd (omega (arith, g, new))))

  new_plain : (n : NodeId) → before.given ≤ n.gen_ → is_expert (row_at arena n) ≡ false
  new_plain n new = by (row_at arena n) refl
    where
      by : (x : Option Row) → row_at arena n ≡ x → is_expert x ≡ false
      by None e = refl
      by (Some r) e = no_expert r.def (plain n r e new)

  experts_now : (n : NodeId) → is_some (expert_at work.experts n) ≡ is_expert (row_at arena n)
  experts_now n = ap (λ (e : List ExpertPlace). is_some (expert_at e n)) adopted.older.round.experts ∙ (kept.experts n ∙ elim (cases_lt n.gen_ before.given) [
    | inl older ↦ sym (ap is_expert (nodes n older))
    | inr new ↦ ap is_expert (none_before n new) ∙ sym (new_plain n new)
  ])

  pub grown_kept : live arena ≤ vec_capacity work.ran → IsKept arena work
  grown_kept room = record {
    step = adopted.step;
    rows = λ p. elim (cases_lt p.node.gen_ before.given) [
      | inl older ↦ ap is_some (adopted.older.rows p older)
          ∙ (kept.rows p ∙ sym (ap (λ (x : Option Row). has_part x p.part) (nodes p.node older)))
      | inr new ↦ new_part p new
    ];
    leaves = λ p h. elim (cases_lt p.node.gen_ before.given) [
      | inl older ↦ elim (kept.leaves p (sym (ap is_some (adopted.older.points p older)) ∙ h)) [
        | inl r ↦ inl (row_stays p r)
        | inr dead ↦ inr (nodes p.node older ∙ dead.0, need_now p dead.1)
      ]
      | inr new ↦ inl (sym (adopted.points.there p new) ∙ h)
    ];
    there = λ p h. elim (cases_lt p.node.gen_ before.given) [
      | inl older ↦ ap is_some (adopted.older.points p older) ∙ kept.there p (sym (ap is_some (adopted.older.rows p older)) ∙ h)
      | inr new ↦ adopted.points.there p new ∙ h
    ];
    given = λ p h. elim (cases_lt p.node.gen_ before.given) [
      | inl older ↦ omega (arith, older, more)
      | inr new ↦ sound.given p.node (alive p.node (adopted.points.alone p new (sym (adopted.points.there p new) ∙ h)))
    ];
    links = λ p q l. elim (kept.links p q (subst (λ (x : Links). Reads x p q) adopted.older.links l)) [
      | inl r ↦ inl (row_stays p r)
      | inr g ↦ inr (ghost_same old work adopted.older.round.deaths p q g)
    ];
    heap = λ p h. row_stays p (kept.heap p (sym (ap is_some (adopted.older.heap p)) ∙ h));
    dead = λ n s d. dead_still n s (kept.dead n s (sym (died_same old work adopted.older.round.deaths n) ∙ d));
    sound = sound;
    scopes = scoped_now;
    older = λ n s r e is. elim (cases_lt n.gen_ before.given) [
      | inl older ↦ kept.older n s r (was_row n r older e) is
      | inr new ↦ new_apart n s r e is new
    ];
    outcomes = λ n r k v e is shows. elim (cases_lt n.gen_ before.given) [
      | inl older ↦ typed_still before arena more types v r.ty (kept.outcomes n r k v (was_row n r older e) (was_kept (main n) k older is) shows)
      | inr new ↦ absurd (none-some _ (sym (ap (λ (x : Progress). x.outcome) ((unset (main n) k new is).2)) ∙ shows))
    ];
    rights = λ n m r k o e is shows right. elim (cases_lt n.gen_ before.given) [
      | inl older ↦ right_still before arena more types m r.ty
          (kept.rights n m r k o (was_row n r older e) (was_kept (change n) k older is) shows
          (right_as before arena old work n m r.def o (built_as n older) right))
      | inr new ↦ absurd (none-some _ (sym (ap (λ (x : Progress). x.outcome) ((unset (change n) k new is).2)) ∙ shows))
    ];
    roots = λ n h.
        let v = kept.roots n (root_same old work adopted.older.round.roots (change n) h) in
        elim (cases_lt n.gen_ before.given) [
          | inl older ↦ (v.0, ap outcome_in (adopted.older.rows (change n) older) ∙ v.1)
          | inr new ↦
              let none : at old.rows (change n) ≡ None =
              holds_none (at old.rows (change n)) (λ r. (let low = row_older (change n) r in absurd (omega (arith, low, new)))) in
              absurd (none-some _ (sym (ap outcome_in none) ∙ v.1))
        ];
    binds = λ n r e h.
        let had = root_same old work adopted.older.round.roots (change n) h in
        elim (cases_lt n.gen_ before.given) [
          | inl older ↦ kept.binds n r (was_row n r older e) had
          | inr new ↦
              let none : at old.rows (change n) ≡ None =
              holds_none (at old.rows (change n)) (λ r. (let low = row_older (change n) r in absurd (omega (arith, low, new)))) in
              absurd (none-some _ (sym (ap outcome_in none) ∙ (kept.roots n had).1))
        ];
    calls = λ n r k c e is last. elim (cases_lt n.gen_ before.given) [
      | inl older ↦ call_still before arena more types r.def r.ty c (kept.calls n r k c (was_row n r older e) (was_kept (main n) k older is) last)
      | inr new ↦ absurd (none-some _ (sym (ap (λ (x : Progress). x.last) ((unset (main n) k new is).2)) ∙ last))
    ];
    rounds = λ p k e. elim (cases_lt p.node.gen_ before.given) [
      | inl older ↦ rw adopted.older.round.round (kept.rounds p k (was_kept p k older e))
      | inr new ↦ let s = ap (λ (x : Progress). x.settled) ((unset p k new e).2) in omega (arith, s)
    ];
    pairs = λ n r e some. elim (cases_lt n.gen_ before.given) [
      | inl older ↦ adopted.lists.pairs n older (ap is_some e) (kept.pairs n r (was_row n r older e) some)
      | inr new ↦ adopted.listed.pairs n r e (all n new (ap is_some e)) some
    ];
    scoped = λ n r e some. elim (cases_lt n.gen_ before.given) [
      | inl older ↦ adopted.lists.scoped n older (ap is_some e) (kept.scoped n r (was_row n r older e) some)
      | inr new ↦ adopted.listed.scoped n r e (all n new (ap is_some e))
    ];
    experts = experts_now;
    listed = λ n. listed_still before arena more types (kids_at work.experts n) (listed_before n);
    lists = λ n r f v ns e def. elim (cases_lt n.gen_ before.given) [
      | inl older ↦ folds_still before arena more types r.ty (kids_at work.experts n) f.sig.takes (listed_before n)
          (subst (λ (ks : List NodeId). FoldTakes before r.ty ks f.sig.takes) (sym (kids_now n)) (kept.lists n r f v ns (was_row n r older e) def))
      | inr new ↦ absurd (plain n r e new (subst IsTop (sym def) tt))
    ];
    tops = λ n r e top. elim (cases_lt n.gen_ before.given) [
      | inl older ↦ kept.tops n r (was_row n r older e) top
      | inr new ↦ absurd (plain n r e new top)
    ];
    frozen = λ n k e flag. elim (cases_lt n.gen_ before.given) [
      | inl older ↦
          let h = kept.frozen n k (was_kept (main n) k older e) flag in
          record { row = h.row; is_row = is_row n h.row h.is_row; is_freeze = h.is_freeze; value = h.value; last = h.last }
      | inr new ↦ absurd (let x : false ≡ true = sym (ap (λ (y : Progress). y.frozen) ((unset (main n) k new e).2)) ∙ flag in cc)
    ];
    rooms = record {
      calls = λ n r k e is. elim (cases_lt n.gen_ before.given) [
        | inl older ↦ kept.rooms.calls n r k (was_row n r older e) (was_kept (main n) k older is)
        | inr new ↦
            let u = unset (main n) k new is in
            subst (FitsRoom r) (sym (u.2 ∙ ap (λ (x : Row). new_row x.def) (same_Some u.0 r (sym u.1 ∙ e)))) (omega arith)
      ];
      ran = room;
    };
  }

  -- who stands in a scope does so by the nodes
  module _ (scopes scopes' : Scopes) (keeps : KeepsScopes before scopes) (entered : HaveEntered scopes scopes' b These) where
    pub grown_scopes : KeepsScopes arena scopes'
    grown_scopes = record {
      stands = λ n s. (
        (λ h. elim ((entered.stands n s).0 h) [
          | inl was ↦ let r = (keeps.stands n s).0 was in (r.0, is_row n r.0 r.1, r.2)
          | inr new ↦ elim (some_or_none (row_at arena n)) [
            | inl is ↦ (is.0, is.1, scope n is.0 is.1 (since n new.1) ∙ ap Some (sym new.0))
            | inr none ↦ absurd (none_holds (row_at arena n) none (alive n new.1))
          ]
        ]),
        (λ h. (entered.stands n s).1 (elim (cases_lt n.gen_ before.given) [
          | inl older ↦ inl ((keeps.stands n s).1 (h.0, was_row n h.0 older h.1, h.2))
          | inr new ↦ inr (same_Some _ _ (sym h.2 ∙ scope n h.0 h.1 new), all n new (ap is_some h.1))
        ])),
      );
      none = entered.killed ∙ keeps.none;
    }
