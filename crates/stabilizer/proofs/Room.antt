-- In a steady round nothing but a function finds no memory.
use Rattle.std.proofs.Common.{◌≡◌, ◌≢◌, ◌⊎◌, inl, inr, ◌∙◌, ◌<◌, ◌≤◌, ℕ, Option, None, Some, true, List, [], ◌∷◌, length, refl, sym, ap, subst, arith}
use Rattle.std.specs.Prelude.{is_some, option_and_then, vec_capacity}
use Rattle.std.specs.List.{filter_map}
use Rattle.std.proofs.lemmas.List.{length-reverse}
use Rattle.std.proofs.lemmas.Option.{none-some, same_Some}
use Rattle.inc_value.specs.Choice.{Among}
use Rattle.inc_value.specs.Counts.{raised}
use Rattle.inc_value.specs.Outcome.{IsNoText}
use Rattle.inc_value.specs.Value.{type_of}
use Rattle.inc_value.specs.declared.node.NodeId.{NodeId}
use Rattle.inc_value.specs.declared.node.Part.TheVariants.{Main}
use Rattle.inc_value.specs.declared.node.Point.{Point}
use Rattle.inc_value.specs.declared.outcome.Outcome.{Outcome}
use Rattle.inc_value.specs.declared.outcome.Outcome.TheVariants.{Val, Invalid}
use Rattle.inc_value.specs.declared.ty.Ty.TheVariants.{Text}
use Rattle.inc_value.specs.declared.value.Value.{Value}
use Rattle.inc_terms.specs.Depend.{main, change, subject_of, change_reads, fixed_reads, unfrozen}
use Rattle.inc_terms.specs.Graph as graph
use Rattle.inc_terms.specs.Graph.{Graph, Row, Def, kids}
use Rattle.inc_terms.specs.Plan.{gate_of, plan, right_links}
use Rattle.inc_terms.specs.Term.{Functions}
use Rattle.inc_terms.specs.Work.{taken_by, predicate_kids}
use Rattle.inc_terms.proofs.Plan.{among_left, among_map, among_right}
use Rattle.necessary_graph.specs.Part.{Needed}
use Rattle.node_arena.specs.Arena.{Arena, live, row_at}
use Rattle.node_outcomes.specs.Computing.{last_in, seen, seen_of, value_shown}
use Rattle.node_outcomes.specs.Lacking.{CallLacks, HasText, LacksRoom, NodeLacksRoom, gives_text, sees_text, many_kids, ran_full}
use Rattle.node_outcomes.specs.Meaning.{Meaning}
use Rattle.node_outcomes.specs.Row.{value_in, value_of}
use Rattle.node_outcomes.specs.Progress.{Progress}
use Rattle.observers.specs.Observers.{AllLight}
use Rattle.observers.specs.declared.observer.Observer.{Observer}
use Rattle.point_map.specs.Rows.{at, Holds}
use Rattle.stabilize_round.specs.Invariant.{Invariant}
use Rattle.stabilize_round.specs.State as machine
use Rattle.stabilize_round.specs.State.{Call, State, Start, Stage, count, live_plan, plan_at, planned}
use Rattle.stabilize_round.proofs.Points.{among_count}
use Rattle.wiring.specs.Stands.{MatchesState, Counts, counts_of}
use Rattle.wiring.proofs.Staying.{row_of_state}
use Rattle.stabilizer.specs.Kept.{PartsKept, graph_in}
use Rattle.stabilizer.specs.Lacking as lacking
use Rattle.stabilizer.specs.Lacking.{ChangeLacks, RoundLacks, StepLacks, builds, loses, waits, gates, of_main, of_change, of_number, of_lists, of_roots, of_step, of_telling}
use Rattle.stabilizer.specs.Round.{IsReady}
use Rattle.stabilizer.specs.Steady.{IsSteady}
use Rattle.stabilizer.specs.Telling.{shown_or, shows_of}
use Rattle.stabilizer.specs.declared.parts.Parts.{Parts}
use Rattle.stabilizer.proofs.Round.Alive.{alive, alive_count, among_alive, at_most}
use Rattle.stabilizer.proofs.Round.Telling.{among_used}
use Rattle.stabilizer.proofs.Step.Making.{quiet_of}
use Rattle.expert_nodes.specs.Experts.{is_stale_at, kids_at}
use Rattle.stabilizer.proofs.Round.Began.{round_on}
use Rattle.stabilizer.proofs.Round.Whole.{in_round}
use Rattle.stabilizer.proofs.Steady.{StaysSteady, begins_steady, steps_steady, heap_needed, need_stays, none_gated, none_waiting, row_there, runs_again}

-- ---- values

val_of : (o : Option Outcome) (v : Value) → value_of o ≡ Some v → o ≡ Some (Val v)
val_of None v e = absurd (none-some v e)
val_of (Some Invalid) v e = absurd (none-some v e)
val_of (Some (Val w)) v e = ap (λ (x : Value). Some (Val x)) (same_Some w v e)

-- a value that is seen of a node is one that it shows
seen_value : (x : Option Progress) (v : Value) → seen_of x ≡ Some (Val v) → value_in x ≡ Some v
seen_value None v e = absurd (let same = same_Some Invalid (Val v) e in cc)
seen_value (Some k) v e = ap value_of e

-- a value that is gathered is shown by one of the nodes
abbrev ShownByOne : (NodeId → Option Value) → List NodeId → Value → Type 0
ShownByOne f ns v = (n : NodeId) × Among n ns × (f n ≡ Some v)

one_more : (f : NodeId → Option Value) (n : NodeId) (ns : List NodeId) (v : Value) → ShownByOne f ns v → ShownByOne f (n ∷ ns) v
one_more f n ns v r = (r.0, inr r.1, r.2)

by_first : (f : NodeId → Option Value) (n : NodeId) (ns : List NodeId) (v : Value) (x : Option Value) → f n ≡ x
    → (Among v (filter_map f ns) → ShownByOne f ns v) → Among v (filter_map f (n ∷ ns)) → ShownByOne f (n ∷ ns) v
by_first f n ns v None e later h = one_more f n ns v (later (rw e at h))
by_first f n ns v (Some w) e later h =
    let k : Among v (w ∷ filter_map f ns) = rw e at h in
    elim k [ inl is ↦ (n, inl refl, e ∙ ap Some (sym is)) | inr rest ↦ one_more f n ns v (later rest) ]

shown_by_one : (f : NodeId → Option Value) (ns : List NodeId) (v : Value) → Among v (filter_map f ns) → ShownByOne f ns v
shown_by_one f [] v a = absurd a
shown_by_one f (n ∷ ns) v a = by_first f n ns v (f n) refl (λ h. shown_by_one f ns v h) a

-- ---- what a point reads

-- the children whose values a function takes are read
freeze_reads : (kid : NodeId) (x : Option Value) (kids : List NodeId) → predicate_kids kid x ≡ Some kids → unfrozen kid x ≡ kids
freeze_reads kid None kids e = same_Some (kid ∷ []) kids e
freeze_reads kid (Some v) kids e = absurd (none-some kids e)

taken_read : (G : Graph) (n : NodeId) (def : Def) (kids : List NodeId) → taken_by G n def ≡ Some kids → (m : NodeId) → Among m kids
    → Among (main m) (fixed_reads G n def Main)
taken_read G n (graph.Map f ns) kids e m a = among_map main m ns (subst (λ (xs : List NodeId). Among m xs) (sym (same_Some ns kids e)) a)
taken_read G n (graph.Fold f v ns) kids e m a = among_map main m ns (subst (λ (xs : List NodeId). Among m xs) (sym (same_Some ns kids e)) a)
taken_read G n (graph.Expert f v ns) kids e m a =
    among_map main m (G.lists n) (subst (λ (xs : List NodeId). Among m xs) (sym (same_Some (G.lists n) kids e)) a)
taken_read G n (graph.Freeze kid f) kids e m a =
    among_map main m (unfrozen kid (G.frozen n)) (subst (λ (xs : List NodeId). Among m xs) (sym (freeze_reads kid (G.frozen n) kids e)) a)
taken_read G n _ kids e m a = absurd (none-some kids e)

-- they are no more than the definition lists, or those of an expert's list
freeze_few : (kid : NodeId) (x : Option Value) (ks : List NodeId) → predicate_kids kid x ≡ Some ks → length ks ≤ 1
freeze_few kid None ks e = let same = ap length (same_Some (kid ∷ []) ks e) in omega (arith, same)
freeze_few kid (Some v) ks e = absurd (none-some ks e)

few_or_listed : (G : Graph) (n : NodeId) (def : Def) (ks : List NodeId) → taken_by G n def ≡ Some ks → (length ks ≤ length (kids def)) ⊎ (ks ≡ G.lists n)
few_or_listed G n (graph.Map f ns) ks e = inl (let same = ap length (same_Some ns ks e) in omega (arith, same))
few_or_listed G n (graph.Fold f v ns) ks e = inl (let same = ap length (same_Some ns ks e) in omega (arith, same))
few_or_listed G n (graph.Freeze kid f) ks e = inl (freeze_few kid (G.frozen n) ks e)
few_or_listed G n (graph.Expert f v ns) ks e = inr (sym (same_Some (G.lists n) ks e))
few_or_listed G n _ ks e = absurd (none-some ks e)

-- where a round may begin that links nothing anew, what is needed reads what is needed
module _ (M : Meaning) (old : Parts) (ready : IsReady M old) (quiet : old.work.todo.items ≡ []) where
  abbrev s : State
  s = ready.state

  reads_needed : (p q : Point) (r : Row) → row_at old.arena p.node ≡ Some r → Needed old.work.graph p
      → Among q (fixed_reads (graph_in old) p.node r.def p.part) → Needed old.work.graph q
  reads_needed p q r row need among =
      let needs : s.needed p ≡ true = (ready.stands.needed p).1 need in
      let has : s.graph.row p.node ≡ Some r = row_of_state ready.stands p.node ∙ row in
      let full : s.stage p ≡ machine.Full = ready.entry.full p r has needs in
      let is_plan : planned s p ≡ plan s.graph s.out p r = ap (λ (x : Option Row). plan_at s.graph s.out s.died p x (s.stage p)) has
      ∙ ap (λ (st : Stage). live_plan s.graph s.out p r st) full in
      let fixed : Among q (fixed_reads s.graph p.node r.def p.part) =
      subst (λ (G : Graph). Among q (fixed_reads G p.node r.def p.part)) (sym ready.stands.graph) among in
      let in_plan : Among q (plan s.graph s.out p r) = among_right q (gate_of r.scope) _ (among_left q (fixed_reads s.graph p.node r.def p.part)
      (right_links s.graph s.out p.node r.def p.part) fixed) in
      let some = among_count q (planned s p) (subst (λ (ps : List Point). Among q ps) (sym is_plan) in_plan) in
      let none : count q (s.owed p) ≡ 0 =
      ap (count q) (ready.entry.owed p (quiet_of old.arena old.work (counts_of s) s ready.stands quiet p)) in
      let links = ready.entry.links p q needs in
      (ready.stands.needed q).0 (ready.entry.web.onto p q (omega (arith, some, none, links)))

-- ---- what a steady round left stands so

module _ (M : Meaning) (old : Parts) (roots : List NodeId) (made : List Observer) (ready : IsReady M old) (steady : IsSteady M.functions old roots made) where
  abbrev F : Functions
  F = M.functions

  module _ (left : Parts) (kept : PartsKept left) (stays : StaysSteady old left) (z : Start) (t : State) (counts : Counts) (holds : Invariant F z t)
      (stands : MatchesState left.arena left.work counts None t) where
    row_was : (n : NodeId) (r : Row) → row_at left.arena n ≡ Some r → row_at old.arena n ≡ Some r
    row_was n r row = ap (λ (a : Arena). row_at a n) (sym stays.arena) ∙ row

    need_was : (p : Point) → Holds left.work.graph.heap p → Needed old.work.graph p
    need_was p held = need_stays old left stays p (heap_needed M old roots made ready steady left kept stays z t counts holds stands p
        (at left.work.graph.heap p) refl held)

    need_now : (p : Point) → Holds left.work.graph.heap p → Needed left.work.graph p
    need_now p held = heap_needed M old roots made ready steady left kept stays z t counts holds stands p (at left.work.graph.heap p) refl held

    -- nothing that is needed shows a text
    shows_none : (m : NodeId) (v : Value) → Needed old.work.graph (main m) → value_shown left.work.rows m ≡ Some v → type_of v ≢ Text
    shows_none m v need shows text = by (at left.work.rows (main m)) refl shows
      where
        by : (x : Option Progress) → at left.work.rows (main m) ≡ x → value_in x ≡ Some v → ⊥
        by None e is = none-some v is
        by (Some k) e is =
            let r = row_there left.arena left.work kept.work (main m) (ap is_some e) in
            let type = (kept.work.outcomes m r.0 k v r.1 e (val_of k.outcome v is)).type.type in
            steady.textless m r.0 (row_was m r.0 r.1) need (sym type ∙ text)

    -- ---- changes

    change_roomy : (n : NodeId) → Holds left.work.graph.heap (change n) → ChangeLacks left n → ⊥
    change_roomy n held (lacking.sees_text x) =
        let need = reads_needed M old ready steady.unlinked (change n) (main x.subject) x.row (row_was n x.row x.is_row) (need_was (change n) held)
        (subst (λ (m : Option NodeId). Among (main x.subject) (change_reads m)) (sym x.is_subject) (inl refl)) in
        shows_none x.subject x.value need (seen_value (at left.work.rows (main x.subject)) x.value x.shows) x.type
    change_roomy n held (builds {f} {captures} {given} b) =
        b.differs (runs_again M old roots made ready steady left kept stays z t counts holds stands n b.left b.row given b.is_row (ap subject_of b.is_bind)
        (need_now (change n) held) b.sees)
    change_roomy n held (loses l) =
        l.differs (runs_again M old roots made ready steady left kept stays z t counts holds stands n l.subject l.row l.given l.is_row l.is_subject
        (need_now (change n) held) l.sees)
    change_roomy n held (waits w) = none_waiting M old roots made ready steady left kept stays z t counts holds stands n w
    change_roomy n held (gates p w) = none_gated M old roots made ready steady left kept stays z t counts holds stands p (change n) w

    -- ---- mains

    -- one in the heap wasn't settled
    unsettled : (n : NodeId) → Holds left.work.graph.heap (main n) → t.settled (main n) ≡ true → ⊥
    unsettled n held settled = let e = holds.settled.twice (main n) settled (stands.heap (main n) ∙ held) in cc

    last_was : (n : NodeId) (c : Call) → Holds left.work.graph.heap (main n) → last_in left.work.rows n ≡ Some c → last_in old.work.rows n ≡ Some c
    last_was n c held is = elim (stays.mains n) [
      | inl settled ↦ absurd (unsettled n held (stands.settled (main n) ∙ settled))
      | inr same ↦ ap (λ (x : Option Progress). option_and_then (λ (k : Progress). k.last) x) (sym same) ∙ is
    ]

    -- so it isn't listed yet among those that ran
    unlisted : (n : NodeId) (r : Row) → row_at left.arena n ≡ Some r → Holds left.work.graph.heap (main n) → length left.work.ran.items < live left.arena
    unlisted n r row held =
        let few = at_most (n ∷ t.ran) (alive left.arena)
        ((λ a. unsettled n held (holds.accounts.called n a).is_settled), holds.accounts.once)
        (λ m a. elim a [
          | inl is ↦ subst (λ (k : NodeId). Among k (alive left.arena)) (sym is) (among_alive left.arena n r row)
          | inr ran ↦
              let c = holds.accounts.called m ran in among_alive left.arena m c.row (sym (row_of_state stands m) ∙ c.is_row)
        ]) in
        let all = alive_count left.arena in
        let long : length t.ran ≡ length left.work.ran.items = ap length stands.ran ∙ length-reverse left.work.ran.items in
        omega (arith, few, all, long)

    -- no child shows a text
    kids_textless : (n : NodeId) (r : Row) (ks : List NodeId) → row_at left.arena n ≡ Some r → taken_by (graph_in left) n r.def ≡ Some ks
        → Needed old.work.graph (main n) → HasText (filter_map (value_shown left.work.rows) ks) → ⊥
    kids_textless n r ks row takes need h =
        let m = shown_by_one (value_shown left.work.rows) ks h.value h.among in
        let takes_then : taken_by (graph_in old) n r.def ≡ Some ks = subst (λ (G : Graph). taken_by G n r.def ≡ Some ks) stays.graph takes in
        shows_none m.0 h.value (reads_needed M old ready steady.unlinked (main n) (main m.0) r (row_was n r row) need
        (taken_read (graph_in old) n r.def ks takes_then m.0 m.1)) m.2 h.type

    -- there is room to list it among those
    list_roomy : (n : NodeId) (r : Row) → row_at left.arena n ≡ Some r → Holds left.work.graph.heap (main n)
        → length left.work.ran.items < vec_capacity left.work.ran
    list_roomy n r row held =
        let less = unlisted n r row held in
        let enough = kept.work.rooms.ran in
        omega (arith, less, enough)

    -- and for the values on which its function is called
    list_has_room : (n : NodeId) (r : Row) (ks : List NodeId) (k : Progress) → row_at left.arena n ≡ Some r → taken_by (graph_in left) n r.def ≡ Some ks
        → at left.work.rows (main n) ≡ Some k → Holds left.work.graph.heap (main n) → 2 < length ks → length ks ≤ k.room
    list_has_room n r ks k row takes is held many = elim (few_or_listed (graph_in left) n r.def ks takes) [
      | inl few ↦ let room = kept.work.rooms.calls n r k row is in omega (arith, few, room)
      | inr listed ↦
          let same : ks ≡ kids_at old.work.experts n = listed ∙ ap (λ (G : Graph). G.lists n) stays.graph in
          let long = ap length same in
          let few = steady.few n (need_was (main n) held) in
          absurd (omega (arith, long, few, many))
    ]

    main_roomy : (n : NodeId) → Holds left.work.graph.heap (main n)
        → NodeLacksRoom (graph_in left) (is_stale_at left.work.experts) left.work.round left.work.rows (vec_capacity left.work.ran)
        (length left.work.ran.items) n → ⊥
    main_roomy n held lacks = by lacks.lacks
      where
        need : Needed old.work.graph (main n)
        need = need_was (main n) held

        call : (ks : List NodeId) → taken_by (graph_in left) n lacks.row.def ≡ Some ks
            → LacksRoom left.work.rows (vec_capacity left.work.ran) (length left.work.ran.items) n lacks.row.ty ks → ⊥
        call ks takes (gives_text is) = steady.textless n lacks.row (row_was n lacks.row lacks.is_row) need is
        call ks takes (sees_text h) = kids_textless n lacks.row ks lacks.is_row takes need h
        call ks takes (many_kids k is many less) =
            let enough = list_has_room n lacks.row ks k lacks.is_row takes is held many in absurd (omega (arith, less, enough))
        call ks takes (ran_full full) =
            let less = list_roomy n lacks.row lacks.is_row held in absurd (omega (arith, full, less))

        by : (lacks.row.ty ≡ Text) ⊎ ((ks : List NodeId) × (taken_by (graph_in left) n lacks.row.def ≡ Some ks)
            × CallLacks (is_stale_at left.work.experts) left.work.round left.work.rows (vec_capacity left.work.ran) (length left.work.ran.items) n
            lacks.row.ty ks) → ⊥
        by (inl is) = steady.textless n lacks.row (row_was n lacks.row lacks.is_row) need is
        by (inr some) = elim some.2 [
          | inl last ↦ steady.recalled n last.0 need (last_was n last.0 held last.1) last.2
          | inr due ↦ call some.0 some.1 due.1
        ]

    -- a step that was refused found a function without memory
    pub step_roomy : (wants wants' : ℕ) → StepLacks left wants wants' → wants' ≡ raised wants
    step_roomy wants wants' (of_main n held (inl rose)) = rose
    step_roomy wants wants' (of_main n held (inr lacks)) = absurd (main_roomy n held lacks)
    step_roomy wants wants' (of_change n held lacks) = absurd (change_roomy n held lacks)

    -- ---- observers

    no_text_shown : (n : NodeId) (x : Option Outcome) → seen left.work.rows (main n) ≡ x → Needed old.work.graph (main n) → IsNoText (shown_or x)
    no_text_shown n None e need = tt
    no_text_shown n (Some Invalid) e need = tt
    no_text_shown n (Some (Val v)) e need = shows_none n v need (seen_value (at left.work.rows (main n)) v e)

    pub all_light : AllLight (shows_of left) made
    all_light o among used =
        inr (no_text_shown o.node (seen left.work.rows (main o.node)) refl (steady.observed o.node (among_used made o among used)), steady.told o among used)

  -- ---- the round

  pub round_roomy : (before : Counts) (wants wants' : ℕ) → RoundLacks M old roots made before wants wants' → wants' ≡ raised wants
  round_roomy before wants wants' (of_number last) = let number = steady.numbered in absurd (omega (arith, last, number))
  round_roomy before wants wants' (of_lists some) = absurd (some steady.unlinked)
  round_roomy before wants wants' (of_roots some) = absurd (some steady.unrooted)
  round_roomy before wants wants' (of_step {wired} {rooted} begun lacks) =
      let r = in_round M old wired rooted before ready begun.wires begun.puts in
      let stays = steps_steady M old roots made ready steady (record old { work = rooted }) r.start r.state before
      (begins_steady F old roots made steady wired rooted begun) r.round r.stands lacks.left lacks.counts lacks.steps in
      let m = lacks.settles r.start r.state r.round r.stands in
      step_roomy lacks.left lacks.kept stays r.start m.0 lacks.counts (round_on M r.start r.state m.0 m.1 r.round).holds m.2
      wants wants' lacks.lacks
  round_roomy before wants wants' (of_telling {wired} {rooted} begun lacks) =
      let r = in_round M old wired rooted before ready begun.wires begun.puts in
      let stays = steps_steady M old roots made ready steady (record old { work = rooted }) r.start r.state before
      (begins_steady F old roots made steady wired rooted begun) r.round r.stands lacks.left lacks.counts lacks.steps in
      let m = lacks.settles r.start r.state r.round r.stands in
      absurd (lacks.heavy (all_light lacks.left lacks.kept stays r.start m.0 lacks.counts (round_on M r.start r.state m.0 m.1 r.round).holds m.2))
