-- A point is raised: what is kept, and how the state follows.
use Rattle.std.proofs.Common.{◌≡◌, ◌⊎◌, inl, inr, ◌++◌, true, false, List, [], ◌∷◌, map, Option, None, Some, refl, sym, ap, subst, ◌∙◌, arith}
use Rattle.std.specs.Prelude.{Result, Ok, Err, IfErr, IsErrAnd, is_some, IsSome, option_map}
use Rattle.std.proofs.lemmas.Option.{none-some, same_Some}
use Rattle.inc_value.specs.declared.node.NodeId.{NodeId}
use Rattle.inc_value.specs.declared.node.Part.TheVariants.{Main}
use Rattle.inc_value.specs.declared.node.Point.{Point}
use Rattle.inc_value.specs.declared.outcome.Outcome.{Outcome}
use Rattle.inc_value.specs.Choice.{here, step, Among, Reaches}
use Rattle.inc_terms.specs.Depend.{main, change, main_reads, rights_of}
use Rattle.inc_terms.specs.Graph.{Graph, Row, Def}
use Rattle.inc_terms.specs.Plan.{gate_of, targets}
use Rattle.inc_terms.specs.Term.{Functions}
use Rattle.point_map.specs.Rows.{Rows, at, Holds}
use Rattle.necessary_graph.specs.Part.{Needed}
use Rattle.node_arena.specs.Arena.{Arena, row_at}
use Rattle.stabilize_round.specs.Invariant.{Invariant}
use Rattle.stabilize_round.specs.Machine as move
use Rattle.stabilize_round.specs.State as machine
use Rattle.stabilize_round.specs.State.{State, Start, at_point, count, planned, plan_at, live_plan}
use Rattle.stabilize_round.specs.Machine.{Move}
use Rattle.stabilize_round.specs.Steps.{Wires as WiringMove, TakesOff as OffMove, TakingOff, Spends, Wiring, Wired, plainly, after_refusal}
use Rattle.stabilize_round.specs.Wire.{raised, Raise, finished, Finish}
use Rattle.stabilize_round.proofs.Parts.{bool_cases}
use Rattle.stabilize_round.proofs.Points.{same_or_other, at_same, at_other, count_append}
use Rattle.stabilize_round.proofs.Steps.{joined}
use Rattle.wiring.specs.Growing.{Grows}
use Rattle.wiring.specs.Kept.{IsKept}
use Rattle.node_outcomes.specs.Row.{IsRewritten, with_stage, stage_in, stage_of}
use Rattle.wiring.specs.Stands.{MatchesState, hand, debts, owes, Counts}
use Rattle.wiring.specs.Wiring.{KeepsPlaces, LacksLinks, GateRan, AreUnlinked}
use Rattle.node_outcomes.specs.Progress.{Progress}
use Rattle.node_outcomes.specs.declared.row.Stage.{Stage}
use Rattle.node_outcomes.specs.declared.row.Stage.TheVariants as code
use Rattle.wiring.specs.declared.work.Work.{Work}
use Rattle.wiring.proofs.Staying.{KeepsMost, row_of_state, stage_is, stage_now, most_staged, most_same, round_same, most_settled, most_kept_there, most_stands, hand_stands}
use Rattle.wiring.proofs.Unlinked.{not_off, finished_unlinked}
use Rattle.wiring.proofs.Holding.{has_links_same}
use Rattle.wiring.proofs.Reading.{read_still}
use Rattle.wiring.proofs.Owing.{owed_put, owed_taken, owes_same}

-- ---- moves one after the other

pub wired_before : (F : Functions) (z : Start) (s u t : State) → Reaches (Wiring F z) s u → Wired F z u t → Wired F z s t
wired_before F z s u t a (plainly b) = plainly (joined (Wiring F z) s u t a b)
wired_before F z s u t a (after_refusal {u = x} {v = v} {w = w} b c m h d) = after_refusal {u = x} {v = v} {w = w} (joined (Wiring F z) s u x a b) c m h d

pub wired_after : (F : Functions) (z : Start) (s u t : State) → Wired F z s u → Reaches (Wiring F z) u t → Wired F z s t
wired_after F z s u t (plainly a) b = plainly (joined (Wiring F z) s u t a b)
wired_after F z s u t (after_refusal {u = x} {v = v} {w = w} a c m h d) b = after_refusal {u = x} {v = v} {w = w} a c m h (wired_after F z w u t d b)

pub wired_then : (F : Functions) (z : Start) (s t u : State) → Wired F z s t → Wired F z t u → Wired F z s u
wired_then F z s t u (plainly a) b = wired_before F z s t u a b
wired_then F z s t u (after_refusal {u = x} {v = v} {w = w} a off m h c) b =
    after_refusal {u = x} {v = v} {w = w} a off m h (wired_then F z w t u c b)

-- ---- what moves keep

-- the graph, who died, what was settled, what points showed and the point that was taken stay
pub record Keeps (s t : State) : Type 0 where
  pub graph : t.graph ≡ s.graph
  pub died : t.died ≡ s.died
  pub settled : t.settled ≡ s.settled
  pub out : t.out ≡ s.out
  pub taken : t.taken ≡ s.taken

keeps_by : (s t u : State) → t ≡ u → u.graph ≡ s.graph → u.died ≡ s.died → u.settled ≡ s.settled → u.out ≡ s.out → u.taken ≡ s.taken → Keeps s t
keeps_by s t u e graph died settled out taken =
    subst (λ (x : State). Keeps s x) (sym e) (record { graph = graph; died = died; settled = settled; out = out; taken = taken })

pub keeps_then : (s t u : State) → Keeps s t → Keeps t u → Keeps s u
keeps_then s t u a b = record {
  graph = b.graph ∙ a.graph;
  died = b.died ∙ a.died;
  settled = b.settled ∙ a.settled;
  out = b.out ∙ a.out;
  taken = b.taken ∙ a.taken;
}

walk_keeps : (R : State → State → Type 0) → ((s t : State) → R s t → Keeps s t) → (s t : State) → Reaches R s t → Keeps s t
walk_keeps R one s t here = keeps_by s s s refl refl refl refl refl refl
walk_keeps R one s t (step {b = u} m rest) = keeps_then s u t (one s u m) (walk_keeps R one u t rest)

module _ (F : Functions) (z : Start) where
  -- moves that wire, that take links off, and after which fewer links may be tried again
  one_keeps : (s t : State) (m : Move F z s t) → WiringMove m ⊎ OffMove m ⊎ Spends m → Keeps s t
  one_keeps s t (move.link x n e) h = keeps_by s t _ e refl refl refl refl refl
  one_keeps s t (move.link_new x n k e) h = keeps_by s t _ e refl refl refl refl refl
  one_keeps s t (move.raise x e) h = keeps_by s t _ e refl refl refl refl refl
  one_keeps s t (move.finish x e) h = keeps_by s t _ e refl refl refl refl refl
  one_keeps s t (move.schedule x e) h = keeps_by s t _ e refl refl refl refl refl
  one_keeps s t (move.level x e) h = keeps_by s t _ e refl refl refl refl refl
  one_keeps s t (move.cut d w e) h = keeps_by s t _ e refl refl refl refl refl
  one_keeps s t (move.spend u k e) h = keeps_by s t _ e refl refl refl refl refl
  one_keeps s t _ h = absurd (elim h [ inl none ↦ none | inr k ↦ elim k [ inl none ↦ none | inr none ↦ none ] ])

  pub wiring_keeps : (s t : State) → Reaches (Wiring F z) s t → Keeps s t
  wiring_keeps s t r = walk_keeps (Wiring F z) (λ a b m. one_keeps a b m.0 (inl m.1)) s t r

  pub off_keeps : (s t : State) → Reaches (TakingOff F z) s t → Keeps s t
  off_keeps s t r = walk_keeps (TakingOff F z) (λ a b m. one_keeps a b m.0 (inr (inl m.1))) s t r

  pub spend_keeps : (s t : State) (m : Move F z s t) → Spends m → Keeps s t
  spend_keeps s t m h = one_keeps s t m (inr (inr h))

  -- what was settled is, and no more
  pub wired_settled : (s t : State) → Wired F z s t → t.settled ≡ s.settled
  wired_settled s t (plainly a) = (wiring_keeps s t a).settled
  wired_settled s t (after_refusal {u = u} {v = v} {w = w} a off m h b) =
      wired_settled w t b ∙ ((spend_keeps v w m h).settled ∙ ((off_keeps u v off).settled ∙ (wiring_keeps s u a).settled))

  -- so it is with the graph
  pub wired_graph : (s t : State) → Wired F z s t → t.graph ≡ s.graph
  wired_graph s t (plainly a) = (wiring_keeps s t a).graph
  wired_graph s t (after_refusal {u = u} {v = v} {w = w} a off m h b) =
      wired_graph w t b ∙ ((spend_keeps v w m h).graph ∙ ((off_keeps u v off).graph ∙ (wiring_keeps s u a).graph))

  one_retries : (s t : State) (m : Move F z s t) → WiringMove m → t.retries ≡ s.retries
  one_retries s t (move.link x n e) h = ap (λ (a : State). a.retries) e
  one_retries s t (move.link_new x n k e) h = ap (λ (a : State). a.retries) e
  one_retries s t (move.raise x e) h = ap (λ (a : State). a.retries) e
  one_retries s t (move.finish x e) h = ap (λ (a : State). a.retries) e
  one_retries s t (move.schedule x e) h = ap (λ (a : State). a.retries) e
  one_retries s t (move.level x e) h = ap (λ (a : State). a.retries) e
  one_retries s t _ h = absurd h

  pub wiring_retries : (s t : State) → Reaches (Wiring F z) s t → t.retries ≡ s.retries
  wiring_retries s t here = refl
  wiring_retries s t (step {b = u} m rest) = wiring_retries u t rest ∙ one_retries s u m.0 m.1

-- where the error is this one
pub if_refusal : {T E : Type 0} (P : E → Type 0) (e : E) (r : Result T E) → IsErrAnd r (λ y. y ≡ e) → P e → IfErr r P
if_refusal P e (Ok x) is h = tt
if_refusal P e (Err y) is h = subst P (sym is) h

-- ---- what is owed

-- what is owed after a point is raised: its row alone is another
owed_raised : (s : State) (work : Work) (rows : Rows Progress) (p : Point) (links : List Point)
    → ((a : Point) → s.owed a ≡ at_point p [] (debts work s.needed) a) → ((a : Point) → (p ≡ a → ⊥) → at rows a ≡ at work.rows a)
    → (a : Point) → at_point p links s.owed a ≡ at_point p links (debts (record work { rows = rows }) s.needed) a
owed_raised s work rows p links before others = owed_put (debts work s.needed) (debts (record work { rows = rows }) s.needed) p [] links
    (λ a ne. owes_same work (record work { rows = rows }) (s.needed a) a (others a ne) refl) s.owed before

-- a point is raised, where rows keep all but their stages
pub raised_stands : (s : State) (arena : Arena) (work : Work) (rows : Rows Progress) (counts : Counts) (p : Point) (st : machine.Stage) (links : List Point)
    → MatchesState arena work counts (Some (hand p [])) s → KeepsMost work (record work { rows = rows })
    → ((a : Point) → (p ≡ a → ⊥) → at rows a ≡ at work.rows a)
    → ((a : Point) (k : Progress) → at rows a ≡ Some k → at_point p st s.stage a ≡ stage_of k.stage)
    → MatchesState arena (record work { rows = rows }) counts (Some (hand p links)) (raised s p st links)
raised_stands s arena work rows counts p st links on most others stages =
    most_stands work (record work { rows = rows }) most arena s (raised s p st links) on refl (record {
      links = on.links;
      root = on.root;
      needed = on.needed;
      height = on.height;
      heap = on.heap;
      stage = stages;
      owed = owed_raised s work rows p links on.owed others;
      todo = on.todo;
      retries = on.retries;
    })

-- ---- a stage

module _ (old : Work) (rows : Rows Progress) (p : Point) (st : Stage) (w : IsRewritten old.rows rows p (with_stage st)) where
  abbrev staged : Work
  staged = record old { rows = rows }

  staged_most : KeepsMost old staged
  staged_most = most_staged old staged p st w (record { pairs = refl; scoped = refl }) (round_same old old.graph rows old.todo)

  pub staged_there : (a : Point) → is_some (at rows a) ≡ is_some (at old.rows a)
  staged_there = staged_most.held

  -- its own stage is the one that it was given
  pub staged_now : Holds old.rows p → stage_in (at rows p) ≡ Some st
  staged_now there = ap stage_in w.changed ∙ of (at old.rows p) there
    where
      of : (x : Option Progress) → is_some x ≡ true → stage_in (option_map (with_stage st) x) ≡ Some st
      of None e = absurd (cc)
      of (Some k) e = refl

  -- the gate ran as before
  pub staged_ran : (arena : Arena) → GateRan arena old p → GateRan arena staged p
  staged_ran arena ran r b row scope = most_settled old staged staged_most (change b) ∙ ran r b row scope

  pub staged_places : KeepsPlaces old staged
  staged_places = record { rows = staged_there; roots = λ a. refl; deaths = refl; round = refl; experts = read_still old.experts }

  -- what follows is left to wire as before
  pub staged_grows : (next : Work) → Grows staged next → Grows old next
  staged_grows next grows points covers = grows points (λ a h. covers a (has_links_same staged old (λ x. sym (staged_there x)) refl a h))

  pub staged_kept : (arena : Arena) → IsKept arena old → IsKept arena staged
  staged_kept arena k = most_kept_there old staged staged_most arena k k.step (λ a. refl) (λ a n. n) (λ a b l. l) k.heap

  pub up_stands : (s : State) (arena : Arena) (counts : Counts) (links : List Point) → MatchesState arena old counts (Some (hand p [])) s
      → MatchesState arena staged counts (Some (hand p links)) (raised s p (stage_of st) links)
  up_stands s arena counts links on =
      raised_stands s arena old rows counts p (stage_of st) links on staged_most (λ a ne. w.others a (λ e. ne (sym e)))
      (stage_now old.rows rows p st w s.stage on.stage)

-- a point without a row is raised: nothing is kept of that
pub rowless_stands : (s : State) (arena : Arena) (work : Work) (counts : Counts) (p : Point) (st : machine.Stage) (links : List Point)
    → MatchesState arena work counts (Some (hand p [])) s → at work.rows p ≡ None → MatchesState arena work counts (Some (hand p links)) (raised s p st links)
rowless_stands s arena work counts p st links on rowless =
    raised_stands s arena work work.rows counts p st links on (most_same work work.graph work.todo work.retries) (λ a ne. refl)
    (λ a k e. elim (same_or_other p a) [
      | inl is ↦ absurd (none-some k (sym rowless ∙ subst (λ (x : Point). at work.rows x ≡ Some k) (sym is) e))
      | inr ne ↦ at_other p st s.stage a ne ∙ on.stage a k e
    ])

-- the point in hand is owed nothing, in hand or not, and leaves the worklist
pub leaves_hand : (F : Functions) (z : Start) (s : State) (arena : Arena) (work : Work) (counts : Counts) (p : Point) → MatchesState arena work counts (Some (hand p [])) s
    → AreUnlinked (Some (hand p [])) s → owes work (s.needed p) p ≡ [] → Finish s p
    → (t : State) × Reaches (Wiring F z) s t × MatchesState arena work counts None t × AreUnlinked None t
leaves_hand F z s arena work counts p on unlinked none finishes = (
  finished s p,
  step (move.finish finishes refl, tt) here,
  hand_stands s arena work counts (Some (hand p [])) None work.todo s.owed (at_point p false s.todo) on
      (λ a. on.owed a ∙ owed_taken (debts work s.needed) p [] none a)
      (λ a t. elim (same_or_other p a) [
        | inl e ↦ absurd (not_off p a s.todo e t)
        | inr ne ↦ elim (on.todo a (sym (at_other p false s.todo a ne) ∙ t)) [ inl k ↦ inl k | inr k ↦ absurd (ne (sym k)) ]
      ]),
  finished_unlinked s p unlinked,
)

-- it isn't in the worklist, and nothing is in hand
pub hand_empty : (s : State) (arena : Arena) (work : Work) (counts : Counts) (p : Point) → MatchesState arena work counts (Some (hand p [])) s
    → owes work (s.needed p) p ≡ [] → (s.todo p ≡ true → ⊥) → MatchesState arena work counts None s
hand_empty s arena work counts p on none out =
    hand_stands s arena work counts (Some (hand p [])) None work.todo s.owed s.todo on (λ a. on.owed a ∙ owed_taken (debts work s.needed) p [] none a)
    (λ a t. elim (on.todo a t) [ inl k ↦ inl k | inr e ↦ absurd (out (ap s.todo (sym e) ∙ t)) ])

-- ---- stages and links, by cases

pub no_links : (x : Option NodeId) → x ≡ None → gate_of x ≡ []
no_links None e = refl
no_links (Some b) e = absurd (cc)

pub own_alone : (n : NodeId) (x : Option NodeId) (kids : List NodeId) → IsSome x → main_reads n x kids ≡ change n ∷ []
own_alone n None kids some = absurd (cc)
own_alone n (Some m) kids some = refl

-- no right side is a change
no_change_of : (xs : List NodeId) (n : NodeId) → Among (change n) (map main xs) → ⊥
no_change_of [] n among = among
no_change_of (x ∷ xs) n (inl e) = let k = ap (λ (a : Point). a.part) e in cc
no_change_of (x ∷ xs) n (inr among) = no_change_of xs n among

pub no_change : (G : Graph) (n : NodeId) (d : Def) (x : Option Outcome) (m : NodeId) → Among (change m) (targets G n d x) → ⊥
no_change G n d None m among = among
no_change G n d (Some o) m among = no_change_of (rights_of G n d o) m among

-- ---- a point that lacks its links but that to its gate, which ran

-- a node has one row
pub one_row : (arena : Arena) (n : NodeId) (r r' : Row) → row_at arena n ≡ Some r → row_at arena n ≡ Some r' → r' ≡ r
one_row arena n r r' e e' = same_Some r' r (sym e' ∙ e)

module _ (arena : Arena) (p : Point) (r : Row) (row : row_at arena p.node ≡ Some r) (old : Work) (need : Needed old.graph p) (lacks : LacksLinks arena old p)
    (ran : GateRan arena old p) (F : Functions) (z : Start) (s : State) (counts : Counts) (inv : Invariant F z s)
    (on : MatchesState arena old counts (Some (hand p [])) s) where
  row_is : s.graph.row p.node ≡ Some r
  row_is = row_of_state on p.node ∙ row

  pub gate_settled : (b : NodeId) → r.scope ≡ Some b → s.settled (change b) ≡ true
  gate_settled b scope = on.settled (change b) ∙ ran r b row scope

  low : (s.stage p ≡ machine.Gated) ⊎ ((s.stage p ≡ machine.Bare) × (r.scope ≡ None))
  low = elim (lacks r row) [
    | inl g ↦ inl (stage_is on p code.Gated g)
    | inr b ↦ inr (stage_is on p code.Bare b.0, b.1)
  ]

  in_todo : s.todo p ≡ true
  in_todo = elim low [
    | inr b ↦ inv.rows.bare p ((on.needed p).1 need) b.0
    | inl g ↦ elim (bool_cases (s.todo p)) [
      | inl t ↦ t
      | inr out ↦ absurd (
          let w = inv.waits.gated p r row_is ((on.needed p).1 need) out g in
          let settled = gate_settled w.0 w.1 in
          let unsettled = w.2 in
          cc)
    ]
  ]

  not_full : s.stage p ≡ machine.Full → ⊥
  not_full e = elim low [ inl g ↦ cc | inr b ↦ let x = b.0 in cc ]

  has_gate : (b : Point) → count b (planned s p) ≡ count b (gate_of r.scope)
  has_gate b = elim low [
    | inl g ↦
        ap (λ (x : machine.Stage). count b (plan_at s.graph s.out s.died p (s.graph.row p.node) x)) g
        ∙ ap (λ (x : Option Row). count b (plan_at s.graph s.out s.died p x machine.Gated)) row_is
    | inr none ↦
        ap (λ (x : machine.Stage). count b (plan_at s.graph s.out s.died p (s.graph.row p.node) x)) none.0
        ∙ (ap (λ (x : Option Row). count b (plan_at s.graph s.out s.died p x machine.Bare)) row_is
        ∙ sym (ap (count b) (no_links r.scope none.1)))
  ]

  -- it goes up, to all its links or to all but that to its right side
  pub goes_up : (st : machine.Stage) (extra : List Point) → live_plan s.graph s.out p r st ≡ gate_of r.scope ++ extra
      → (st ≡ machine.Full → p.part ≡ Main → (q : Point) → Among q (targets s.graph p.node r.def (s.out (change p.node))) → ⊥) → Raise s p st extra
  goes_up st extra plan rightless = record {
    todo = in_todo;
    owed = on.owed p ∙ at_same p [] (debts old s.needed);
    plan = λ b.
        let all : count b (plan_at s.graph s.out s.died p (s.graph.row p.node) st) ≡ count b (gate_of r.scope ++ extra) =
        ap (λ (x : Option Row). count b (plan_at s.graph s.out s.died p x st)) row_is ∙ ap (count b) plan in
        let parts = count_append b (gate_of r.scope) extra in
        let before = has_gate b in
        omega (arith, all, parts, before);
    lower = not_full;
    gates = λ stage r' b e scope. inl (gate_settled b (sym (ap (λ (x : Row). x.scope) (same r' e)) ∙ scope));
    rights = λ full part r' q e among. absurd (rightless full part q
        (subst (λ (x : Row). Among q (targets s.graph p.node x.def (s.out (change p.node)))) (same r' e) among));
  }
    where
      same : (r' : Row) → s.graph.row p.node ≡ Some r' → r' ≡ r
      same r' e = one_row arena p.node r r' row (sym (row_of_state on p.node) ∙ e)
