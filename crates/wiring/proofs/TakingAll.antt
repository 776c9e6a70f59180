-- What wasn't confirmed is taken off, and fewer links may be tried again: none where all of it was.
use Rattle.std.proofs.Common.{◌≡◌, ◌⊎◌, inl, inr, ℕ, zero, suc, ◌+◌, ◌<◌, true, List, [], ◌∷◌, length, Option, None, Some, refl, sym, ap, subst, ◌∙◌, arith}
use Rattle.std.specs.Prelude.{is_some, option_map}
use Rattle.std.specs.List.{slice_get}
use Rattle.std.proofs.lemmas.Option.{none-some, same_Some}
use Rattle.inc_value.specs.declared.node.NodeId.{NodeId}
use Rattle.inc_value.specs.declared.node.Part.TheVariants.{Main, Change}
use Rattle.inc_value.specs.declared.node.Point.{Point}
use Rattle.inc_value.specs.declared.outcome.Outcome.{Outcome}
use Rattle.inc_value.specs.Choice.{Among}
use Rattle.inc_terms.specs.Depend.{main, change, subject_of}
use Rattle.inc_terms.specs.Graph.{Graph, Row, Def}
use Rattle.inc_terms.specs.Plan.{targets}
use Rattle.point_map.specs.Rows.{at, Holds}
use Rattle.necessary_graph.specs.Part.{NecessaryPart, Needed, IsInStep}
use Rattle.necessary_graph.proofs.Reaching.{read_needed}
use Rattle.node_arena.specs.Arena.{Arena, row_at}
use Rattle.wiring.specs.Graph.{graph_at}
use Rattle.stabilize_round.specs.Invariant.{Strict}
use Rattle.stabilize_round.specs.Machine as move
use Rattle.stabilize_round.specs.State as machine
use Rattle.stabilize_round.specs.State.{State}
use Rattle.stabilize_round.specs.Steps.{TakingOff}
use Rattle.stabilize_round.specs.Wire.{spent}
use Rattle.stabilize_round.proofs.Machine.{moves_keep}
use Rattle.stabilize_round.proofs.Steps.{off_moves, joined}
use Rattle.node_outcomes.specs.Computing.{has_part}
use Rattle.node_outcomes.specs.Row.{with_stage, stage_in}
use Rattle.node_outcomes.specs.Progress.{Progress}
use Rattle.node_outcomes.specs.declared.row.Stage.TheVariants as code
use Rattle.wiring.specs.Kept.{IsKept}
use Rattle.wiring.specs.Stands.{MatchesState, PointInHand, Counts}
use Rattle.wiring.specs.TakingOff.{LosesLinks, RowsSpared, TakesSome, TakesMore}
use Rattle.wiring.specs.Wiring.{OnlyLoses, GoesBack, IsBehindGate, HasMore, TakesOne, TakesOff, IsConfirmedAt, KeepsPlaces, hand_now}
use Rattle.wiring.specs.declared.work.Work.{Work}
use Rattle.wiring.proofs.Agreeing.{no_target}
use Rattle.wiring.proofs.Staying.{stage_was, out_is, most_same, most_stands, beside_kept}
use Rattle.wiring.proofs.InHand.{KeepsSpared, gated_none, still_spared, hand_spared, same_hand, change_settled}
use Rattle.wiring.proofs.TakingOne.{nothing_taken}
use Rattle.wiring.proofs.Reading.{read_still, read_then}

-- ---- one after the other

pub takes_then : (arena : Arena) (old mid new : Work) → KeepsSpared arena old mid → mid.round ≡ old.round → KeepsSpared arena mid new
    → IsInStep mid.graph → IsInStep new.graph → ((p : Point) → Needed new.graph p → Needed mid.graph p)
    → TakesOne arena old mid → TakesOne arena mid new → TakesOne arena old new
takes_then arena old mid new keeps round then mid_step new_step less first next F z s counts held inv spared st =
    let a = first F z s counts held inv spared st in
    let b = next F z a.0 counts (hand_now old mid held) (moves_keep F z s a.0 (off_moves F z s a.0 a.1) inv)
    (hand_spared arena old mid keeps round mid_step held spared) a.2 in (
      b.0,
      joined (TakingOff F z) s a.0 b.0 a.1 b.1,
      subst (λ (h : Option PointInHand). MatchesState arena new counts h b.0) (same_hand arena old mid keeps round new then mid_step new_step less held spared) b.2,
    )

pub loses_none : (g : NecessaryPart) → OnlyLoses g g
loses_none g = record { less = λ p n. n; links = λ p q. omega arith; heap = λ p h n. h }

pub loses_then : (f g h : NecessaryPart) → OnlyLoses f g → OnlyLoses g h → OnlyLoses f h
loses_then f g h a b = record {
  less = λ p n. a.less p (b.less p n);
  links = λ p q. let x = a.links p q in let y = b.links p q in omega (arith, x, y);
  heap = λ p held n. b.heap p (a.heap p held (b.less p n)) n;
}

pub places_then : (old mid new : Work) → KeepsPlaces old mid → KeepsPlaces mid new → KeepsPlaces old new
places_then old mid new a b = record {
  rows = λ p. b.rows p ∙ a.rows p;
  roots = λ p. b.roots p ∙ a.roots p;
  deaths = b.deaths ∙ a.deaths;
  round = b.round ∙ a.round;
  experts = read_then old.experts mid.experts new.experts a.experts b.experts;
}

pub loses_nothing : (arena : Arena) (work : Work) → IsKept arena work → LosesLinks arena work work
loses_nothing arena work kept = record {
  kept = kept;
  places = record { rows = λ p. refl; roots = λ p. refl; deaths = refl; round = refl; experts = read_still work.experts };
  loses = loses_none work.graph;
  rest = refl;
}

pub loses_links : (arena : Arena) (old mid new : Work) → LosesLinks arena old mid → LosesLinks arena mid new → LosesLinks arena old new
loses_links arena old mid new a b = record {
  kept = b.kept;
  places = places_then old mid new a.places b.places;
  loses = loses_then old.graph mid.graph new.graph a.loses b.loses;
  rest = b.rest ∙ ap (λ (w : Work). record w { graph = new.graph; rows = new.rows }) a.rest;
}

-- what was put back waits still, while links come off
pub back_then : (arena : Arena) (old mid new : Work) (p : Point) (bind : NodeId) → GoesBack arena old mid p bind → at new.rows p ≡ at mid.rows p
    → OnlyLoses mid.graph new.graph → GoesBack arena old new p bind
back_then arena old mid new p bind g same loses = record {
  row = g.row;
  is_row = g.is_row;
  is_scope = g.is_scope;
  more = g.more;
  now = same ∙ g.now;
  waits = λ n reads. loses.heap (change bind) (g.waits (loses.less p n) (let f = loses.links p (change bind) in omega (arith, reads, f)))
      (read_needed new.graph p (change bind) n reads);
}

-- what is put back after others
pub then_back : (arena : Arena) (old mid new : Work) (p : Point) (bind : NodeId) → at mid.rows p ≡ at old.rows p → GoesBack arena mid new p bind
    → GoesBack arena old new p bind
then_back arena old mid new p bind same g = record {
  row = g.row;
  is_row = g.is_row;
  is_scope = g.is_scope;
  more = subst (λ (x : Option Progress). HasMore (stage_in x)) same g.more;
  now = g.now ∙ ap (λ (x : Option Progress). option_map (with_stage code.Gated) x) same;
  waits = g.waits;
}

-- it isn't put back twice
pub not_back_twice : (arena : Arena) (old mid new : Work) (p : Point) (bind other : NodeId) → GoesBack arena old mid p bind
    → GoesBack arena mid new p other → ⊥
not_back_twice arena old mid new p bind other g h = gated_none (at old.rows p) (subst (λ (x : Option Progress). HasMore (stage_in x)) g.now h.more)

-- ---- what holds while links are taken off

pub rows_keep : (arena : Arena) (old new : Work) → RowsSpared arena old new → KeepsSpared arena old new
rows_keep arena old new rows p s = elim (rows p s) [ inl e ↦ inl e | inr b ↦ inr b.back.now ]

last_or : (j i : ℕ) → j < i + 1 → (j < i) ⊎ (j ≡ i)
last_or zero zero l = inr refl
last_or zero (suc i) l = inl (omega arith)
last_or (suc j) zero l = absurd (omega (arith, l))
last_or (suc j) (suc i) l = elim (last_or j i (omega (arith, l))) [ inl x ↦ inl (omega (arith, x)) | inr x ↦ inr (ap suc x) ]

-- the node at the place is this one
one_there : (ns : List NodeId) (i j : ℕ) (n m : NodeId) → j ≡ i → slice_get ns i ≡ Some n → slice_get ns j ≡ Some m → n ≡ m
one_there ns i j n m e at_i at_j = same_Some n m (sym at_i ∙ (ap (slice_get ns) (sym e) ∙ at_j))

-- one after the other
module _ (arena : Arena) (old mid new : Work) (first : RowsSpared arena old mid) (round : mid.round ≡ old.round) (loses : OnlyLoses mid.graph new.graph)
    (rows : RowsSpared arena mid new) where
  spared_first : KeepsSpared arena old mid
  spared_first = rows_keep arena old mid first

  pub rows_then : RowsSpared arena old new
  rows_then p s = elim (first p s) [
    | inl e ↦ elim (rows p (still_spared arena old mid spared_first round p s)) [
      | inl f ↦ inl (f ∙ e)
      | inr b ↦ inr (record {
        bind = b.bind;
        back = then_back arena old mid new p b.bind e b.back;
        unsettled = sym (change_settled arena old mid spared_first round (change b.bind)) ∙ b.unsettled;
      })
    ]
    | inr a ↦ elim (rows p (still_spared arena old mid spared_first round p s)) [
      | inl f ↦ inr (record { bind = a.bind; back = back_then arena old mid new p a.bind a.back f loses; unsettled = a.unsettled })
      | inr b ↦ absurd (not_back_twice arena old mid new p a.bind b.bind a.back b.back)
    ]
  ]

-- nothing was taken off
pub takes_nothing : (arena : Arena) (work : Work) → IsKept arena work → TakesSome arena work work
takes_nothing arena work kept = record { stays = loses_nothing arena work kept; taken = nothing_taken arena work kept.step; rows = λ p s. inl refl }

-- some, and then some more
pub takes_both : (arena : Arena) (old mid new : Work) → TakesSome arena old mid → TakesSome arena mid new → TakesSome arena old new
takes_both arena old mid new a b = record {
  stays = loses_links arena old mid new a.stays b.stays;
  taken = takes_then arena old mid new (rows_keep arena old mid a.rows) a.stays.places.round (rows_keep arena mid new b.rows) a.stays.kept.step
      b.stays.kept.step b.stays.loses.less a.taken b.taken;
  rows = rows_then arena old mid new a.rows a.stays.places.round b.stays.loses b.rows;
}

-- so it is once the first nodes in scopes, and the first of two points, were looked at
pub record AreTaken (arena : Arena) (old now : Work) (gates changes : ℕ) : Type 0 where
  pub some : TakesSome arena old now
  pub behind : (i : ℕ) (n : NodeId) → i < gates → slice_get old.scoped.nodes i ≡ Some n → (p : Point) → p.node ≡ n → IsBehindGate arena now p
  pub confirmed : (i : ℕ) (n : NodeId) → i < changes → slice_get old.pairs.nodes i ≡ Some n → IsConfirmedAt arena now n

pub none_taken : (arena : Arena) (work : Work) → IsKept arena work → AreTaken arena work work 0 0
none_taken arena work kept = record {
  some = takes_nothing arena work kept;
  behind = λ i n l. absurd (omega (arith, l));
  confirmed = λ i n l. absurd (omega (arith, l));
}

-- one more was looked at
module _ (arena : Arena) (old mid new : Work) (gates changes : ℕ) (so : AreTaken arena old mid gates changes) (one : TakesSome arena mid new) where
  -- a node in a scope
  pub more_behind : (n : NodeId) → slice_get old.scoped.nodes gates ≡ Some n → ((p : Point) → p.node ≡ n → IsBehindGate arena new p)
      → ((p : Point) → IsBehindGate arena mid p → IsBehindGate arena new p) → changes ≡ 0 → AreTaken arena old new (gates + 1) changes
  more_behind n there behind fewer none = record {
    some = takes_both arena old mid new so.some one;
    behind = λ i m l is p e. elim (last_or i gates l) [
      | inl less ↦ fewer p (so.behind i m less is p e)
      | inr same ↦ behind p (e ∙ sym (one_there old.scoped.nodes gates i n m same there is))
    ];
    confirmed = λ i m l. absurd (omega (arith, l, none));
  }

  -- a node of two points
  pub more_confirmed : (n : NodeId) → slice_get old.pairs.nodes changes ≡ Some n → IsConfirmedAt arena new n
      → ((m : NodeId) → IsConfirmedAt arena mid m → IsConfirmedAt arena new m)
      → ((p : Point) → IsBehindGate arena mid p → IsBehindGate arena new p) → AreTaken arena old new gates (changes + 1)
  more_confirmed n there confirmed fewer behind = record {
    some = takes_both arena old mid new so.some one;
    behind = λ i m l is p e. behind p (so.behind i m l is p e);
    confirmed = λ i m l is. elim (last_or i changes l) [
      | inl less ↦ fewer m (so.confirmed i m less is)
      | inr same ↦ subst (λ (x : NodeId). IsConfirmedAt arena new x) (one_there old.pairs.nodes changes i n m same there is) confirmed
    ];
  }

-- ---- fewer links may be tried again

module _ (arena : Arena) (old last : Work) (left : ℕ) (taken : TakesOne arena old last) (same : last.retries ≡ old.retries)
    (fewer : 0 < old.retries → left < old.retries)
    (strict : (counts : Counts) (held : Option PointInHand) (t : State) → MatchesState arena last counts held t → Strict (spent t left)) where
  abbrev spending : Work
  spending = record last { retries = left }

  spent_stands : (counts : Counts) (held : Option PointInHand) (t : State) → MatchesState arena last counts held t → MatchesState arena spending counts held (spent t left)
  spent_stands counts held t k = most_stands last spending (most_same last last.graph last.todo left) arena t (spent t left) k refl (record {
    links = k.links;
    root = k.root;
    needed = k.needed;
    height = k.height;
    heap = k.heap;
    stage = k.stage;
    owed = k.owed;
    todo = k.todo;
    retries = refl;
  })

  pub taken_spent : TakesOff arena old spending
  taken_spent F z s counts held inv some spared st =
      let a = taken F z s counts held inv spared st in
      let less : left < a.0.retries =
      let e = a.2.retries in let f = st.retries in let g = fewer (let h = st.retries in omega (arith, some, h)) in omega (arith, e, f, g, same) in (
        a.0,
        spent a.0 left,
        a.1,
        (move.spend less (strict counts (hand_now old last held) a.0 a.2) refl, tt),
        spent_stands counts (hand_now old last held) a.0 a.2,
      )

-- while links may be tried again, what wasn't confirmed may be linked still
pub some_left : (s : State) (left : ℕ) → 0 < left → Strict (spent s left)
some_left s left some = record {
  gates = λ none p r b row need scope stage. absurd (omega (arith, some, none));
  rights = λ none n r p row need full among. absurd (omega (arith, some, none));
}

-- ---- refusals become final

no_subject_no_right : (G : Graph) (n : NodeId) (def : Def) (x : Option Outcome) (p : Point) → Among p (targets G n def x) → subject_of def ≡ None → ⊥
no_subject_no_right G n def x p among one = nothing (subst (λ (xs : List Point). Among p xs) (no_target G n def one x) among)
  where
    nothing : Among p [] → ⊥
    nothing h = h

some_subject : (x : Option NodeId) → (x ≡ None → ⊥) → is_some x ≡ true
some_subject None h = absurd (h refl)
some_subject (Some m) h = refl

among_place : (n : NodeId) (ns : List NodeId) → Among n ns → (i : ℕ) × (i < length ns) × (slice_get ns i ≡ Some n)
among_place n [] a = absurd a
among_place n (m ∷ ms) (inl e) = (0, omega arith, ap (λ (x : NodeId). Some x) (sym e))
among_place n (m ∷ ms) (inr a) = let r = among_place n ms a in (suc r.0, omega (arith, r.1), r.2)

module _ (arena : Arena) (old last : Work) (gates changes : ℕ) (so : AreTaken arena old last gates changes) (all_gates : gates ≡ length old.scoped.nodes)
    (all_changes : changes ≡ length old.pairs.nodes) (kept : IsKept arena old) where
  module _ (counts : Counts) (held : Option PointInHand) (t : State) (k : MatchesState arena last counts held t) where
    node_row : (n : NodeId) (r : Row) → t.graph.row n ≡ Some r → row_at arena n ≡ Some r
    node_row n r e = sym (ap (λ (G : Graph). G.row n) k.graph) ∙ e

    -- a needed point of a live node has a row
    live_there : (p : Point) (r : Row) → row_at arena p.node ≡ Some r → Needed last.graph p → Holds last.rows p
    live_there p r row need = elim (so.some.stays.kept.leaves p (so.some.stays.kept.step.there p need)) [
      | inl there ↦ there
      | inr leaf ↦ absurd (none-some r (sym leaf.0 ∙ row))
    ]

    more_stage : (p : Point) → Holds last.rows p → (t.stage p ≡ machine.Static) ⊎ (t.stage p ≡ machine.Full) → HasMore (stage_in (at last.rows p))
    more_stage p there h = elim h [ inl e ↦ inl (stage_was k p code.Static there e) | inr e ↦ inr (stage_was k p code.Full there e) ]

    gated : (p : Point) (r : Row) (b : NodeId) → row_at arena p.node ≡ Some r → r.scope ≡ Some b → Needed last.graph p
        → (t.stage p ≡ machine.Static) ⊎ (t.stage p ≡ machine.Full) → t.settled (change b) ≡ true
    gated p r b row scope need stage =
        let place = among_place p.node old.scoped.nodes (kept.scoped p.node r row (ap is_some scope)) in
        let below : place.0 < gates = let l = place.1 in omega (arith, l, all_gates) in
        k.settled (change b) ∙ so.behind place.0 p.node below place.2 p refl r b row scope need
        (more_stage p (live_there p r row need) stage)

    confirmed : (n : NodeId) (r : Row) (p : Point) → row_at arena n ≡ Some r → t.needed (main n) ≡ true → t.stage (main n) ≡ machine.Full
        → Among p (targets t.graph n r.def (t.out (change n))) → t.settled (change n) ≡ true
    confirmed n r p row need full among =
        let sub : is_some (subject_of r.def) ≡ true =
        some_subject (subject_of r.def) (no_subject_no_right t.graph n r.def (t.out (change n)) p among) in
        let place = among_place n old.pairs.nodes (kept.pairs n r row sub) in
        let below : place.0 < changes = let l = place.1 in omega (arith, l, all_changes) in
        let own : is_some (at last.rows (change n)) ≡ true =
        so.some.stays.kept.rows (change n) ∙ (ap (λ (x : Option Row). has_part x Change) row ∙ sub) in
        let mine : is_some (at last.rows (main n)) ≡ true = so.some.stays.kept.rows (main n) ∙ ap (λ (x : Option Row). has_part x Main) row in
        k.settled (change n) ∙ so.confirmed place.0 n below place.2 r p row ((k.needed (main n)).0 need)
        (stage_was k (main n) code.Full mine full)
        (subst (λ (x : Option Outcome). Among p (targets (graph_at arena last) n r.def x)) (out_is k (change n) own)
        (subst (λ (G : Graph). Among p (targets G n r.def (t.out (change n)))) k.graph among))

    is_strict : Strict (spent t 0)
    is_strict = record {
      gates = λ e p r b row need scope stage. gated p r b (node_row p.node r row) scope ((k.needed p).0 need) stage;
      rights = λ e n r p row need full among. confirmed n r p (node_row n r row) need full among;
    }

  all_taken : TakesOff arena old (record last { retries = 0 })
  all_taken = taken_spent arena old last 0 so.some.taken (ap (λ (w : Work). w.retries) so.some.stays.rest) (λ some. some) is_strict

-- ---- how many links may be tried again

-- that apart, what was taken off leaves all else
spent_more : (arena : Arena) (old last : Work) (left : ℕ) → TakesSome arena old last → TakesOff arena old (record last { retries = left })
    → TakesMore arena old (record last { retries = left })
spent_more arena old last left so taken =
    let places = so.stays.places in record {
      taken = taken;
      kept = beside_kept arena last last.todo left so.stays.kept;
      places = record { rows = places.rows; roots = places.roots; deaths = places.deaths; round = places.round; experts = places.experts };
      rest = ap (λ (w : Work). record w { retries = left }) so.stays.rest;
      rows = λ p s. elim (so.rows p s) [
        | inl e ↦ inl e
        | inr b ↦ let g = b.back in inr (record {
          bind = b.bind;
          back = record { row = g.row; is_row = g.is_row; is_scope = g.is_scope; more = g.more; now = g.now; waits = g.waits };
          unsettled = b.unsettled;
        })
      ];
    }

-- ---- some was taken off, or all

-- all that wasn't confirmed
pub all_more : (arena : Arena) (old last : Work) (gates changes : ℕ) → AreTaken arena old last gates changes → gates ≡ length old.scoped.nodes
    → changes ≡ length old.pairs.nodes → IsKept arena old → TakesMore arena old (record last { retries = 0 })
all_more arena old last gates changes so all_gates all_changes kept =
    spent_more arena old last 0 so.some (all_taken arena old last gates changes so all_gates all_changes kept)

-- some, while links may be tried again
pub some_more : (arena : Arena) (old mid : Work) (left : ℕ) → TakesSome arena old mid → 0 < left → left < mid.retries
    → TakesMore arena old (record mid { retries = left })
some_more arena old mid left so some fewer =
    let same : mid.retries ≡ old.retries = ap (λ (w : Work). w.retries) so.stays.rest in
    spent_more arena old mid left so
    (taken_spent arena old mid left so.taken same (λ any. omega (arith, same, fewer)) (λ counts held t k. some_left t left some))

-- some, and then the rest
module _ (arena : Arena) (old mid new : Work) (so : TakesSome arena old mid) (next : TakesMore arena mid new) (loses : OnlyLoses mid.graph new.graph) where
  spared_some : KeepsSpared arena old mid
  spared_some = rows_keep arena old mid so.rows

  off_then : TakesOff arena old new
  off_then F z s counts held inv some spared st =
      let a = so.taken F z s counts held inv spared st in
      let same : mid.retries ≡ old.retries = ap (λ (w : Work). w.retries) so.stays.rest in
      let left : 0 < a.0.retries = let e = a.2.retries in let f = st.retries in omega (arith, e, f, same, some) in
      let b = next.taken F z a.0 counts (hand_now old mid held) (moves_keep F z s a.0 (off_moves F z s a.0 a.1) inv) left
      (hand_spared arena old mid spared_some so.stays.places.round so.stays.kept.step held spared) a.2 in (
        b.0,
        b.1,
        joined (TakingOff F z) s a.0 b.0 a.1 b.2,
        b.3,
        subst (λ (h : Option PointInHand). MatchesState arena new counts h b.1)
            (same_hand arena old mid spared_some so.stays.places.round new (rows_keep arena mid new next.rows) so.stays.kept.step next.kept.step loses.less
            held spared) b.4,
      )

  pub more_then : TakesMore arena old new
  more_then = record {
    taken = off_then;
    kept = next.kept;
    places = places_then old mid new so.stays.places next.places;
    rest = next.rest ∙ ap (λ (w : Work). record w { graph = new.graph; rows = new.rows; retries = new.retries }) so.stays.rest;
    rows = rows_then arena old mid new so.rows so.stays.places.round loses next.rows;
  }
