-- The first link of a node is taken off an expert.
use Rattle.std.proofs.Common.{◌≡◌, ◌≢◌, ◌⊎◌, inl, inr, ◌+◌, ◌≤◌, ◌<◌, Bool, true, false, List, [], ◌∷◌, ◌++◌, map, Some, refl, sym, ap, subst, ◌∙◌, arith}
use Rattle.std.specs.Prelude.{◌↔◌}
use Rattle.std.proofs.lemmas.Bool.{cond-true, cond-false, false_from_ne_true}
use Rattle.inc_value.specs.Choice.{Among, Every}
use Rattle.inc_value.specs.declared.node.NodeId.{NodeId}
use Rattle.inc_value.specs.declared.node.Point.{Point}
use Rattle.inc_value.specs.declared.ty.Ty.{Ty}
use Rattle.inc_terms.specs.Depend.{main}
use Rattle.inc_terms.specs.Graph as graph
use Rattle.inc_terms.specs.Within.{Given}
use Rattle.expert_nodes.specs.Experts.{Expert, ExpertChanges, IsCreated, expert_of, kids_at, kids_of_expert, point_of, taken_at, without_first, without_link}
use Rattle.link_table.specs.Links.{Links, Reads, times}
use Rattle.link_table.specs.declared.link.Link.{Link}
use Rattle.point_map.specs.Rows.{Holds, same_point}
use Rattle.point_map.proofs.Places.{point_cases, same_point_eq, same_point_self}
use Rattle.necessity.specs.Need.{root_times}
use Rattle.necessary_graph.specs.Part.{NecessaryPart, Needed, IsInStep}
use Rattle.necessary_graph.specs.Sweep.{IsUnlinked}
use Rattle.node_arena.specs.Arena.{Arena}
use Rattle.node_arena.specs.Typing.{Fits, FoldTakes}
use Rattle.node_outcomes.specs.Meaning.{Meaning}
use Rattle.stabilize_round.specs.State.{one, count}
use Rattle.stabilize_round.proofs.Points.{among_count, node_or_other, one_same, one_other}
use Rattle.wiring.specs.Graph.{rowless}
use Rattle.wiring.specs.Kept.{IsKept}
use Rattle.wiring.specs.Wiring.{IsMarked}
use Rattle.wiring.specs.declared.work.Work.{Work}
use Rattle.wiring.proofs.Deciding.{need_same}
use Rattle.stabilizer.specs.Between.{LosesLink, Stays}
use Rattle.stabilizer.specs.Kept.{PartsKept}
use Rattle.stabilizer.specs.Round.{IsReady}
use Rattle.stabilizer.specs.declared.parts.Parts.{Parts}
use Rattle.stabilizer.proofs.Between.Alone.{ready_is_between}
use Rattle.stabilizer.proofs.Between.Relisting.{created_row, expert_row, has_taken, heap_marked, main_full, marked_kept, relisted_kept, relisted_parts, relisted_ready, relisted_stays, with_todo}
use Rattle.stabilizer.proofs.Between.Sweeping.{need_before, stays_in, swept_kept}

-- ---- lists

differs_from : (a b : NodeId) → (a ≡ b → ⊥) → same_point (point_of a) (point_of b) ≡ false
differs_from a b d = false_from_ne_true (same_point (point_of a) (point_of b))
    (λ t. d (ap (λ (p : Point). p.node) (same_point_eq (point_of a) (point_of b) t)))

equals : (a b : NodeId) → a ≡ b → same_point (point_of a) (point_of b) ≡ true
equals a b same = subst (λ (m : NodeId). same_point (point_of m) (point_of b) ≡ true) (sym same) (same_point_self (point_of b))

first_here : (n kid : NodeId) (kids : List NodeId) → kid ≡ n → without_first n (kid ∷ kids) ≡ kids
first_here n kid kids same = cond-true (same_point (point_of kid) (point_of n)) kids (kid ∷ without_first n kids) (equals kid n same)

first_later : (n kid : NodeId) (kids : List NodeId) → (kid ≡ n → ⊥) → without_first n (kid ∷ kids) ≡ kid ∷ without_first n kids
first_later n kid kids d = cond-false (same_point (point_of kid) (point_of n)) kids (kid ∷ without_first n kids) (differs_from kid n d)

among_tail : (n kid : NodeId) (kids : List NodeId) → (kid ≡ n → ⊥) → Among n (kid ∷ kids) → Among n kids
among_tail n kid kids d (inl e) = absurd (d (sym e))
among_tail n kid kids d (inr h) = h

-- one less is counted
first_count : (n : NodeId) (ns : List NodeId) (q : Point) → Among n ns → count q (map main ns) ≡ count q (map main (without_first n ns)) + one q (main n)
first_count n [] q among = absurd among
first_count n (m ∷ ns) q among = elim (node_or_other m n) [
  | inl e ↦
      let less = ap (λ (l : List NodeId). count q (map main l)) (first_here n m ns e) in
      let same = ap (λ (x : NodeId). one q (main x)) e in
      omega (arith, less, same)
  | inr d ↦
      let less = ap (λ (l : List NodeId). count q (map main l)) (first_later n m ns d) in
      let rest = first_count n ns q (among_tail n m ns d among) in
      omega (arith, less, rest)
]

every_less : (P : NodeId → Type 0) (n : NodeId) (ns : List NodeId) → Every P ns → Every P (without_first n ns)
every_less P n [] all = tt
every_less P n (m ∷ ns) all = elim (node_or_other m n) [
  | inl e ↦ subst (Every P) (sym (first_here n m ns e)) all.1
  | inr d ↦ subst (Every P) (sym (first_later n m ns d)) (all.0, every_less P n ns all.1)
]

every_left : (P : NodeId → Type 0) (xs ys : List NodeId) → Every P (xs ++ ys) → Every P xs
every_left P [] ys all = tt
every_left P (x ∷ xs) ys all = (all.0, every_left P xs ys all.1)

every_right : (P : NodeId → Type 0) (xs ys : List NodeId) → Every P (xs ++ ys) → Every P ys
every_right P [] ys all = all
every_right P (x ∷ xs) ys all = every_right P xs ys all.1

every_both : (P : NodeId → Type 0) (xs ys : List NodeId) → Every P xs → Every P ys → Every P (xs ++ ys)
every_both P [] ys a b = b
every_both P (x ∷ xs) ys a b = (a.0, every_both P xs ys a.1 b)

-- an expert reads what it read, but for the link
every_kid : (P : NodeId → Type 0) (kid : NodeId) (taken : Bool) (x : Expert) → Every P (kids_of_expert x) → Every P (kids_of_expert (without_link kid taken x))
every_kid P kid true x all = every_both P (without_first kid x.taken) x.fresh (every_less P kid x.taken (every_left P x.taken x.fresh all))
    (every_right P x.taken x.fresh all)
every_kid P kid false x all = every_both P x.taken (without_first kid x.fresh) (every_left P x.taken x.fresh all)
    (every_less P kid x.fresh (every_right P x.taken x.fresh all))

takes_less : (a : Arena) (t : Ty) (kid : NodeId) (taken : Bool) (x : Expert) (tys : List Ty) → FoldTakes a t (kids_of_expert x) tys
    → FoldTakes a t (kids_of_expert (without_link kid taken x)) tys
takes_less a t kid taken x [] h = h
takes_less a t kid taken x (y ∷ []) h = h
takes_less a t kid taken x (y ∷ z ∷ []) h = (h.0, every_kid (λ (m : NodeId). Fits a m z) kid taken x h.1)
takes_less a t kid taken x (y ∷ z ∷ w ∷ tys) h = h

nothing_less : (kid : NodeId) (taken : Bool) (x : Expert) → x.fresh ≡ [] → (without_link kid taken x).fresh ≡ []
nothing_less kid true x none = none
nothing_less kid false x none = ap (without_first kid) none

among_map : (n : NodeId) (ns : List NodeId) → Among n ns → Among (main n) (map main ns)
among_map n [] a = absurd a
among_map n (m ∷ ns) (inl e) = inl (ap main e)
among_map n (m ∷ ns) (inr a) = inr (among_map n ns a)

-- ---- the link that comes off is there

-- a needed expert is linked to what was taken up
pub reads_taken : (M : Meaning) (parts : Parts) (e kid : NodeId) → IsReady M parts → IsCreated parts.work.experts e → Needed parts.work.graph (main e)
    → Among kid (taken_at parts.work.experts e) → Reads parts.work.graph.links (main e) (main kid)
reads_taken M parts e kid ready created need among =
    let b = ready_is_between M parts ready in
    let r = expert_row parts.arena parts.work e b.kept created in
    let l = has_taken parts.arena parts.work e b.kept created (main_full parts parts e created M ready need) r.0 r.1 (b.links (main e) r.0 need r.1) (main kid) in
    let c = among_count (main kid) (map main (taken_at parts.work.experts e)) (among_map kid (taken_at parts.work.experts e) among) in
    omega (arith, l, c)

-- ---- what is kept

module _ (arena : Arena) (old : Work) (g : NecessaryPart) (p q : Point) (off : IsUnlinked (rowless old) old.graph g p q) where
  fewer : (a b : Point) → times off.links a b ≤ times old.graph.links a b
  fewer a b = elim (point_cases a p) [
    | inl at_p ↦ elim (point_cases b q) [
      | inl at_q ↦ subst (λ (x : Point). times off.links x b ≤ times old.graph.links x b) (sym at_p)
          (subst (λ (y : Point). times off.links p y ≤ times old.graph.links p y) (sym at_q) (let k = off.off.raised in omega (arith, k)))
      | inr other ↦ let k = off.off.others a b (λ x. other (ap (λ (l : Link). l.kid) x)) in omega (arith, k)
    ]
    | inr other ↦ let k = off.off.others a b (λ x. other (ap (λ (l : Link). l.reader) x)) in omega (arith, k)
  ]

  root_same : (a : Point) → 0 < root_times old.graph.roots a → 0 < root_times old.graph.roots a
  root_same a r = r

  pub unlinked_kept : IsKept arena old → IsInStep g → IsKept arena (record old { graph = g })
  unlinked_kept kept step = swept_kept old (record old.graph { links = off.links }) g off.sweep off.drops fewer root_same (λ a. refl) arena kept step

  pub unlinked_need : (a : Point) → Needed g a → Needed old.graph a
  unlinked_need = need_before old (record old.graph { links = off.links }) g off.sweep off.drops fewer root_same (λ a. refl)

  pub unlinked_heap : (a : Point) → Needed g a → Holds old.graph.heap a → Holds g.heap a
  unlinked_heap = stays_in old (record old.graph { links = off.links }) g off.sweep off.drops fewer root_same (λ a. refl)

  pub unlinked_others : (a b : Point) → Needed g a → a ≢ p → times g.links a b ≡ times old.graph.links a b
  unlinked_others a b n ne = off.sweep.kept a b ((off.sweep.reached a).0 n) ∙ sym (off.off.others a b (λ x. ne (ap (λ (l : Link). l.reader) x)))

  pub unlinked_own : Needed g p → (b : Point) → times old.graph.links p b ≡ times g.links p b + one b q
  unlinked_own n b =
      let s = off.sweep.kept p b ((off.sweep.reached p).0 n) in
      elim (point_cases b q) [
        | inl is ↦
            let o = one_same q in
            let k = off.off.raised in
            subst (λ (x : Point). times old.graph.links p x ≡ times g.links p x + one x q) (sym is)
            (let t = off.sweep.kept p q ((off.sweep.reached p).0 n) in omega (arith, o, k, t))
        | inr ne ↦
            let o = one_other b q ne in
            let k = off.off.others p b (λ x. ne (ap (λ (l : Link). l.kid) x)) in
            omega (arith, s, o, k)
      ]

-- the link came off, or nothing did: it was fresh, or the expert isn't needed
abbrev pub IsOff : Parts → NecessaryPart → NodeId → NodeId → Bool → Type 0
IsOff old middle e kid taken =
    ((taken ≡ true) × Needed old.work.graph (main e) × IsUnlinked (rowless old.work) old.work.graph middle (main e) (main kid))
    ⊎ ((middle ≡ old.work.graph) × ((taken ≡ false) ⊎ (Needed old.work.graph (main e) → ⊥)))

module _ (old new : Parts) (middle : NecessaryPart) (e kid : NodeId) (taken : Bool) (kept : PartsKept old) (created : IsCreated old.work.experts e)
    (change : ExpertChanges old.work.experts new.work.experts e (Some (without_link kid taken (expert_of old.work.experts e))))
    (was : (taken ≡ true) ↔ Among kid (taken_at old.work.experts e)) (there : Among kid (kids_at old.work.experts e))
    (off : IsOff old middle e kid taken) (inner : IsInStep middle)
    (marked : IsMarked middle new.work.graph (main e)) (step : IsInStep new.work.graph)
    (rest : new ≡ record old { work = record old.work { experts = new.work.experts; graph = new.work.graph } }) where
  abbrev less : Expert
  less = without_link kid taken (expert_of old.work.experts e)

  abbrev listed : Work
  listed = record old.work { experts = new.work.experts; todo = new.work.todo }

  listed_kept : IsKept old.arena listed
  listed_kept = relisted_kept old.arena old.work new.work e less kept.work created change
      (every_kid (Given old.arena.given) kid taken (expert_of old.work.experts e) (kept.work.listed e))
      (λ r f v ns row is. takes_less old.arena r.ty kid taken (expert_of old.work.experts e) f.sig.takes (kept.work.lists e r f v ns row is))

  middle_kept : IsKept old.arena (record listed { graph = middle })
  middle_kept = elim off [
    | inl cut ↦ unlinked_kept old.arena listed middle (main e) (main kid) cut.2 listed_kept inner
    | inr none ↦ subst (λ (g : NecessaryPart). IsKept old.arena (record listed { graph = g })) (sym none.0) listed_kept
  ]

  row : Holds old.work.rows (main e)
  row = created_row old.arena old.work e kept.work created

  work_kept : IsKept old.arena (record listed { graph = new.work.graph })
  work_kept = marked_kept old.arena (record listed { graph = middle }) new.work.graph e middle_kept row marked step

  need_middle : (p : Point) → Needed new.work.graph p → Needed middle p
  need_middle p n = need_same new.work.graph middle (sym marked.graph.links) (sym marked.graph.roots) p n

  need : (p : Point) → Needed middle p → Needed old.work.graph p
  need p n = elim off [
    | inl cut ↦ unlinked_need old.arena old.work middle (main e) (main kid) cut.2 p n
    | inr none ↦ subst (λ (g : NecessaryPart). Needed g p) none.0 n
  ]

  heap : (p : Point) → Needed middle p → Holds old.work.graph.heap p → Holds middle.heap p
  heap p n h = elim off [
    | inl cut ↦ unlinked_heap old.arena old.work middle (main e) (main kid) cut.2 p n h
    | inr none ↦ subst (λ (g : NecessaryPart). Holds g.heap p) (sym none.0) h
  ]

  others : (p q : Point) → Needed middle p → p ≢ main e → times middle.links p q ≡ times old.work.graph.links p q
  others p q n ne = elim off [
    | inl cut ↦ unlinked_others old.arena old.work middle (main e) (main kid) cut.2 p q n ne
    | inr none ↦ ap (λ (g : NecessaryPart). times g.links p q) none.0
  ]

  taken_less : taken ≡ true → (q : Point) → count q (map main (expert_of old.work.experts e).taken) ≡ count q (map main less.taken) + one q (main kid)
  taken_less is q = subst (λ (b : Bool). count q (map main (expert_of old.work.experts e).taken)
      ≡ count q (map main (without_link kid b (expert_of old.work.experts e)).taken) + one q (main kid)) (sym is)
      (first_count kid (expert_of old.work.experts e).taken q (was.0 is))

  taken_same : taken ≡ false → (q : Point) → count q (map main (expert_of old.work.experts e).taken) ≡ count q (map main less.taken)
  taken_same is q = subst (λ (b : Bool). count q (map main (expert_of old.work.experts e).taken)
      ≡ count q (map main (without_link kid b (expert_of old.work.experts e)).taken)) (sym is) refl

  own : Needed middle (main e) → (q : Point) → times middle.links (main e) q + count q (map main (expert_of old.work.experts e).taken)
      ≡ times old.work.graph.links (main e) q + count q (map main less.taken)
  own n q = elim off [
    | inl cut ↦
        let l = unlinked_own old.arena old.work middle (main e) (main kid) cut.2 n q in
        let c = taken_less cut.0 q in
        omega (arith, l, c)
    | inr none ↦
        let l = ap (λ (g : NecessaryPart). times g.links (main e) q) none.0 in
        elim none.1 [
          | inl fresh ↦ let c = taken_same fresh q in omega (arith, l, c)
          | inr unneeded ↦ absurd (unneeded (need (main e) n))
        ]
  ]

  stays : (M : Meaning) → IsReady M old
      → Stays old.arena old.arena old.work (record old.work { experts = new.work.experts; graph = new.work.graph; todo = new.work.todo })
  stays M ready = relisted_stays old.arena old.work new.work e less kept.work created change (main_full old new e created M ready)
      (λ p n. need p (need_middle p n))
      (λ p n h. heap_marked old.arena (record listed { graph = middle }) new.work.graph e middle_kept row marked step p (need_middle p n)
      (heap p (need_middle p n) h))
      (λ n. marked.told (need_middle (main e) n))
      (λ p q n ne. ap (λ (l : Links). times l p q) marked.graph.links ∙ others p q (need_middle p n) ne)
      (λ n q.
      let l = ap (λ (x : Links). times x (main e) q) marked.graph.links in
      let o = own (need_middle (main e) n) q in
      omega (arith, l, o))
      (λ p a. subst (Among p) (sym (ap (λ (x : Parts). x.work.todo.items) rest)) a)
      (λ n some. inl (λ none. some (nothing_less kid taken (expert_of old.work.experts e) none)))

  cut_off : taken ≡ true → Needed old.work.graph (main e) → IsUnlinked (rowless old.work) old.work.graph middle (main e) (main kid)
  cut_off is n = elim off [
    | inl cut ↦ cut.2
    | inr none ↦ absurd (elim none.1 [ inl fresh ↦ (let e = sym is ∙ fresh in cc) | inr unneeded ↦ unneeded n ])
  ]

  untouched : (taken ≡ false) ⊎ (Needed old.work.graph (main e) → ⊥) → middle ≡ old.work.graph
  untouched why = elim off [
    | inr none ↦ none.0
    | inl cut ↦ absurd (elim why [ inl fresh ↦ (let e = sym cut.0 ∙ fresh in cc) | inr unneeded ↦ unneeded cut.1 ])
  ]

  pub loses_link : LosesLink old new e kid
  loses_link = record {
    taken = taken;
    was_taken = was;
    there = there;
    experts = change;
    middle = middle;
    unlinked = cut_off;
    untouched = untouched;
    marked = marked;
    rest = rest;
    kept = relisted_parts old new e created kept work_kept stays (with_todo old new rest);
    ready = relisted_ready old new e created kept work_kept stays (with_todo old new rest);
  }
