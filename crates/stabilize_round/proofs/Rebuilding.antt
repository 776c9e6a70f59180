-- Building a bind anew keeps the invariant.
use Rattle.std.proofs.Common.{◌≡◌, ◌⊎◌, inl, inr, ℕ, ◌<◌, Bool, true, List, [], ◌∷◌, map, Option, None, Some, refl, sym, ap, subst, ◌∙◌}
use Rattle.std.proofs.lemmas.Bool.{cases_lt}
use Rattle.inc_value.specs.declared.function.FnKind.{FnKind}
use Rattle.inc_value.specs.declared.function.FnRef.{FnRef}
use Rattle.inc_value.specs.declared.node.NodeId.{NodeId}
use Rattle.inc_value.specs.declared.node.Part.{Part}
use Rattle.inc_value.specs.declared.node.Part.TheVariants.{Change, Main}
use Rattle.inc_value.specs.declared.node.Point.{Point}
use Rattle.inc_value.specs.declared.outcome.Outcome.{Outcome}
use Rattle.inc_value.specs.declared.value.Value.{Value}
use Rattle.inc_value.specs.Choice.{Among, Reaches, here, step}
use Rattle.inc_terms.specs.Term.{Functions}
use Rattle.inc_terms.specs.Graph as graph
use Rattle.inc_terms.specs.Graph.{Graph, Row, Def, Built}
use Rattle.inc_terms.specs.Evaluate.{NodeGives, Stands, GiveAll}
use Rattle.inc_terms.specs.Rebuild.{Inside, nested}
use Rattle.inc_terms.specs.Within.{Given, Fit, FunctionsWithin}
use Rattle.inc_terms.specs.Depend.{Depends, fixed, main, change, fixed_reads, subject_of}
use Rattle.inc_terms.specs.Local.{shown, Scoped, IsRooted, IsBuilt, PartAgrees, Agrees, PartExact, Exact, HasRun}
use Rattle.inc_terms.specs.Plan.{gate_of, targets, right_links, plan}
use Rattle.inc_terms.proofs.Evaluation.{one_outcome}
use Rattle.inc_terms.proofs.Plan.{among_left, among_right, plan_depends, depends_plan}
use Rattle.inc_terms.proofs.Within.{functions_within}
use Rattle.inc_terms.proofs.Rebuild.{kept_row, same_after, same_before, inside_falls}
use Rattle.inc_terms.proofs.Depending.{same_fixed, no_stand, stands_after, kept_or_not, subject_given, grows}
use Rattle.inc_terms.proofs.Meeting.{depends_given}
use Rattle.inc_terms.proofs.Staying.{unfolds_stay, other_scope}
use Rattle.stabilize_round.specs.State.{State, Start, Call, Stage, Bare, Gated, Static, Full, planned, live_plan, ghost_plan}
use Rattle.stabilize_round.specs.Invariant.{Invariant, Rooted, Waits, IsRight, Recalls, IsDone, Strict, MetNow, from_root, from_held, HasCalled}
use Rattle.stabilize_round.specs.Rebuilding.{Remade, remade, Rebuild, IsBuiltAnew}
use Rattle.stabilize_round.proofs.Points.{same_or_other, node_or_other}
use Rattle.stabilize_round.proofs.Low.{plan_links}
use Rattle.inc_terms.proofs.Seeing.{looks, own_same}
use Rattle.inc_terms.specs.Work.{taken_by}
use Rattle.stabilize_round.specs.Calling.{IsAnswer, cost_at, costs_of}
use Rattle.stabilize_round.specs.Counts.{RoseBy}
use Rattle.stabilize_round.specs.Freezing.{fires}
use Rattle.stabilize_round.proofs.Calling.{taken_same, StaysCalled, costs_at, costs_same}
use Rattle.stabilize_round.proofs.Freezing.{never_called}
use Rattle.stabilize_round.proofs.Planned.{recalls_same, reads_taken, looks_main}
use Rattle.stabilize_round.proofs.Main.{main_change}
use Rattle.inc_terms.proofs.Crossing.{same_targets, own_crosses}

module _ (F : Functions) (z : Start) (s : State) (inv : Invariant F z s) (b : NodeId) (now : Outcome) (made : Remade)
    (move : Rebuild F z s b now made) where
  abbrev G : Graph
  G = s.graph

  abbrev P : NodeId → Type 0
  P n = Given s.given n

  abbrev Q : FnKind → FnRef → Type 0
  Q = Fit s.given z.known z.ids

  fine : FunctionsWithin F P Q
  fine = functions_within F z.known z.ids P move.given.laws

  abbrev G' : Graph
  G' = made.graph

  abbrev died' : NodeId → Option NodeId
  died' = made.died

  abbrev out' : Point → Option Outcome
  out' = made.out

  abbrev heap' : Point → Bool
  heap' = made.heap

  abbrev after : State
  after = remade s made

  abbrev KeptNode : NodeId → Type 0
  KeptNode n = P n × (Inside G b n → ⊥)

  row_stays : (n : NodeId) → KeptNode n → G'.row n ≡ G.row n
  row_stays n k = kept_row F P Q fine G G' move.given.names b now move.due move.rebuilt n k

  gives_after : (n : NodeId) → P n → (o : Outcome) → NodeGives F G n o → NodeGives F G' n o
  gives_after n p o g = same_after F P Q fine G G' move.given.names b now move.due move.rebuilt n p o g

  stays_standing : (n : NodeId) (r : Row) → KeptNode n → G.row n ≡ Some r → Stands F G r.scope → Stands F G' r.scope
  stays_standing n r k e st = stands_after F P Q fine G G' move.given.names b now move.due move.rebuilt n r k e st

  standing_kept : (n : NodeId) (r : Row) → P n → G.row n ≡ Some r → Stands F G r.scope → KeptNode n
  standing_kept n r p e st = kept_or_not F P Q fine G G' move.given.names b now move.due move.rebuilt n r p e st

  none_stands : (n : NodeId) (r : Row) → Inside G b n → G.row n ≡ Some r → Stands F G r.scope → ⊥
  none_stands n r i e st = no_stand F P Q fine G G' move.given.names b now move.due move.rebuilt n r i e st

  dep_given : (p q : Point) → P p.node → Depends F G s.died p q → P q.node
  dep_given p q g d = depends_given F P Q fine G move.given.names s.died move.given.keeps p q g d

  pub dep_grows : (p q : Point) → P p.node → Depends F G s.died p q → Depends F G' died' p q
  dep_grows p q g d = grows F P Q fine G G' move.given.names b now move.due move.rebuilt s.died died' move.deaths p q g d

  sub_given : (n : NodeId) (r : Row) (k : NodeId) → G.row n ≡ Some r → subject_of r.def ≡ Some k → P k
  sub_given n r k e sub = subject_given F P Q fine G G' move.given.names b now move.due move.rebuilt n r k e sub

  bind_kept : KeptNode b
  bind_kept = (
    move.given.names.live b move.due.row move.due.is_row,
    λ i. none_stands b move.due.row i move.due.is_row move.due.stands,
  )

  alive : (n : NodeId) (r : Row) → P n → G'.row n ≡ Some r → KeptNode n × (G.row n ≡ Some r)
  alive n r p e = elim (move.rebuilt.rows n p) [
    | inl h ↦ absurd (let x = h.1 in cc)
    | inr h ↦ ((p, h.0), sym h.1 ∙ e)
  ]

  -- the change wasn't exact
  not_exact : Exact F G s.out (change b) → ⊥
  not_exact x =
      let due = move.due in
      let sub : subject_of due.row.def ≡ Some due.left = rw due.is_bind refl in
      let run : HasRun F G s.out b (graph.Bind due.left due.function due.captures) due.left = rw due.is_bind at
      ((x due.row due.is_row).1 due.left sub) in
      let w = run.3 in
      let same : run.0 ≡ now = one_outcome F G _ run.0 now run.2 due.gives in
      due.changed w.0 w.1 (w.2 ∙ same)

  -- ---- what a bind is built for

  rooted_stays : (n : NodeId) (f : FnRef) (captures : List NodeId) (w : Built) → KeptNode n → (n ≡ b → ⊥) → G.built n ≡ Some w
      → IsRooted F G n f captures w
      → IsRooted F G' n f captures w
  rooted_stays n f captures w k ne at_built rooted = record {
    rootless = rooted.rootless;
    unfolds = λ v v_is.
        let x = rooted.unfolds v v_is in
        let scope = other_scope P G G' move.given.names.live b n move.rebuilt ne k.1 in (
          x.0,
          x.1,
          unfolds_stay P Q G G' move.given.names (Some n) scope captures (F.term f v) x.0
              (move.given.keeps.roots n w x.0 k.0 at_built x.1) x.2,
        );
  }

  built_stays : (n : NodeId) (r : Row) (o : Outcome) → KeptNode n → (n ≡ b → ⊥) → (def : Def) → G.row n ≡ Some r → r.def ≡ def → IsBuilt F G n def o
      → IsBuilt F G' n def o
  built_stays n r o k ne (graph.Bind l f caps) row is (w, at_built, for, rooted) =
      let e = move.rebuilt.built n k.0 ne k.1 in (w, e ∙ at_built, for, rooted_stays n f caps w k ne at_built rooted)
  built_stays n r o k ne _ row is h = h

  -- ---- exact points stay exact

  out_other : (q : Point) (r : Row) → KeptNode q.node → G.row q.node ≡ Some r → (change b ≡ q → ⊥) → out' q ≡ s.out q
  out_other q r k row ne = move.beside.out q r (row_stays q.node k ∙ row) k.0 ne

  change_other : (n : NodeId) → (n ≡ b → ⊥) → change b ≡ change n → ⊥
  change_other n ne e = ne (sym (ap (λ (y : Point). y.node) e))

  exact_part : (x : Point) (r : Row) → KeptNode x.node → G.row x.node ≡ Some r → G'.row x.node ≡ Some r → Exact F G s.out x → (part : Part)
      → x.part ≡ part → PartExact F G s.out x.node r.def part → PartExact F G' out' x.node r.def part
  exact_part x r k row row' ex Main is h =
      let other = out_other (main x.node) r k row (λ e. main_change x.node b (sym e)) in
      let e : shown G' out' (main x.node) ≡ shown G s.out (main x.node) = rw (row, row') other in
      (h.0, e ∙ h.1, gives_after x.node k.0 h.0 h.2)
  exact_part x r k row row' ex Change is h = λ sub_node sub. elim (node_or_other x.node b) [
    | inl e ↦ let me : x ≡ change b = λ i. record { node = e i; part = is i } in absurd (not_exact (subst (λ (y : Point). Exact F G s.out y) me ex))
    | inr ne ↦ let y = h sub_node sub in (
      y.0,
      out_other (change x.node) r k row (change_other x.node ne) ∙ y.1,
      gives_after sub_node (sub_given x.node r sub_node row sub) y.0 y.2,
      built_stays x.node r y.0 k ne r.def row refl y.3,
    )
  ]

  exact_after : (x : Point) → P x.node → Exact F G s.out x → Exact F G' out' x
  exact_after x p ex r row' =
      let k = alive x.node r p row' in
      let h = ex r k.1 in
      (stays_standing x.node r k.0 k.1 h.0, exact_part x r k.0 k.1 row' ex x.part refl h.1)

  takes_after : (n : NodeId) → KeptNode n → (def : Def) → taken_by G' n def ≡ taken_by G n def
  takes_after n k def = taken_same G G' n (move.rebuilt.frozen n k.0) (move.rebuilt.lists n k.0) def

  gives_before : (n : NodeId) → P n → (o : Outcome) → NodeGives F G' n o → NodeGives F G n o
  gives_before n p o g = same_before F P Q fine G G' move.given.names b now move.due move.rebuilt n p o g

  -- ---- points that agree

  module _ (p : Point) (r : Row) (row : G.row p.node ≡ Some r) (k : KeptNode p.node) (not_change : change b ≡ p → ⊥) (not_main : main b ≡ p → ⊥)
      (all : (q : Point) → Among q (looks G s.out p r) → KeptNode q.node) where
    seen : (q : Point) → Among q (looks G s.out p r) → shown G' out' q ≡ shown G s.out q
    seen q a = by_row (G.row q.node) refl
      where
        by_row : (x : Option Row) → G.row q.node ≡ x → shown G' out' q ≡ shown G s.out q
        by_row None none = let e = row_stays q.node (all q a) ∙ none in rw (e, none) refl
        by_row (Some r') live =
            let o = out_other q r' (all q a) live
            (λ e. not_main (looks_main G s.out p b r (subst (λ (y : Point). Among y (looks G s.out p r)) (sym e) a))) in
            let e = row_stays q.node (all q a) in
            rw (e, o) refl

    not_bind : p.node ≡ b → ⊥
    not_bind e = by_part p.part refl
      where
        by_part : (part : Part) → p.part ≡ part → ⊥
        by_part Change is = not_change (λ i. record { node = (sym e) i; part = (sym is) i })
        by_part Main is = not_main (λ i. record { node = (sym e) i; part = (sym is) i })

    built_same : G'.built p.node ≡ G.built p.node
    built_same = move.rebuilt.built p.node k.0 not_bind k.1

    part_after : (part : Part) → p.part ≡ part → PartAgrees F G s.out p.node r.def part → PartAgrees F G' out' p.node r.def part
    part_after Main is h =
        let re = move.rebuilt in
        let at_change : shown G s.out (change p.node) ≡ s.out (change p.node) = rw row refl in
        let cross = own_crosses G G' p.node F (shown G' out') re.clock (re.frozen p.node k.0) (re.lists p.node k.0) built_same r.def in
        let same = own_same F G (shown G s.out) (shown G' out') p.node r.def
        (λ q a. seen q (among_left q (fixed_reads G p.node r.def p.part) _ (rw is a)))
        (λ q a. seen q (among_right q (fixed_reads G p.node r.def p.part) _ (rw is (rw at_change at a)))) in
        let other = out_other (main p.node) r k row (λ e. main_change p.node b (sym e)) in
        (h.0, other ∙ h.1, cross ∙ same ∙ h.2)
    part_after Change is h = λ m sub.
        let x = h m sub in
        let e = seen (main m) (among_left (main m) (fixed_reads G p.node r.def p.part) _ (rw (is, sub) (inl refl))) in
        (x.0, out_other (change p.node) r k row (change_other p.node not_bind) ∙ x.1, e ∙ x.2, built_stays p.node r x.0 k not_bind r.def row refl x.3)

    agrees_after : Agrees F G s.out p → Agrees F G' out' p
    agrees_after agrees r' row' =
        let e = row_stays p.node k in
        let same : r' ≡ r = cc in
        rw same (part_after p.part refl (agrees r row))

    recalls_after : Recalls G (shown G s.out) s.last p → Recalls G' (shown G' out') made.last p
    recalls_after h = recalls_same F G G' (shown G s.out) (shown G' out') s.last made.last p r row (row_stays p.node k ∙ row) (takes_after p.node k r.def)
        (λ q a. seen q (among_left q (fixed_reads G p.node r.def p.part) _ a)) (λ part. move.beside.last p.node r (row_stays p.node k ∙ row) k.0) h

  -- ---- links

  rights_cross : (n : NodeId) (r : Row) (def : Def) (part : Part) → KeptNode n → G.row n ≡ Some r → (n ≡ b → ⊥)
      → right_links G' out' n def part ≡ right_links G s.out n def part
  rights_cross n r def Change k row ne = refl
  rights_cross n r def Main k row ne =
      let o = out_other (change n) r k row (change_other n ne) in
      same_targets G G' n def (out' (change n)) (move.rebuilt.built n k.0 ne k.1) ∙ ap (λ (x : Option Outcome). targets G n def x) o

  live_cross : (p : Point) (r : Row) (st : Stage) → KeptNode p.node
      → (st ≡ Full → right_links G' out' p.node r.def p.part ≡ right_links G s.out p.node r.def p.part)
      → live_plan G' out' p r st ≡ live_plan G s.out p r st
  live_cross p r Bare k h = refl
  live_cross p r Gated k h = refl
  live_cross p r Static k h = let e = same_fixed G G' p.node (move.rebuilt.frozen p.node k.0)
      (move.rebuilt.lists p.node k.0) r.def p.part in rw e refl
  live_cross p r Full k h = let e = same_fixed G G' p.node (move.rebuilt.frozen p.node k.0) (move.rebuilt.lists p.node k.0) r.def p.part in
      let x = h refl in rw (e, x) refl

  plan_cross : (p : Point) (r : Row) → KeptNode p.node → G.row p.node ≡ Some r → (p.node ≡ b → ⊥) → plan G' out' p r ≡ plan G s.out p r
  plan_cross p r k row ne = live_cross p r Full k (λ st. rights_cross p.node r r.def p.part k row ne)

  gate_alone : (x : Option NodeId) (st : Stage) → (st ≡ Bare → ⊥) → ghost_plan x st ≡ gate_of x
  gate_alone x Bare h = absurd (h refl)
  gate_alone x Gated h = refl
  gate_alone x Static h = refl
  gate_alone x Full h = refl

  not_bare : (a : Point) → s.needed a ≡ true → s.stage a ≡ Bare → ⊥
  not_bare a need e = let x = inv.rows.bare a need e in let y = move.quiet a in cc

  planned_stays : (a : Point) → s.needed a ≡ true → planned after a ≡ planned s a
  planned_stays a need = elim (move.rebuilt.rows a.node (move.given.needed a need)) [
    | inl h ↦
        let f = inside_falls F G b now move.due a.node h.0 in
        let st = move.gated a h.0 need in
        let d = move.deaths.now a.node f.0 f.1 h.1 in
        rw (h.1, f.1, st, d) (gate_alone f.0.scope (made.stage a) (move.beside.ghosts a h.1 need))
    | inr h ↦ by_row h.0 h.1 (G.row a.node) refl
  ]
    where
      by_row : (Inside G b a.node → ⊥) → G'.row a.node ≡ G.row a.node → (x : Option Row) → G.row a.node ≡ x → planned after a ≡ planned s a
      by_row out same None row =
          let d = move.deaths.earlier a.node row in
          rw (same, row) (gate_alone (died' a.node) (made.stage a) (move.beside.ghosts a (same ∙ row) need) ∙ ap (λ (x : Option NodeId). gate_of x) d
          ∙ sym (gate_alone (s.died a.node) (s.stage a) (not_bare a need)))
      by_row out same (Some r) row = let t = move.beside.stage a r (same ∙ row) need in
          rw (same, row, t) (live_cross a r (s.stage a) k (λ st. by_bind st (node_or_other a.node b)))
        where
          k : KeptNode a.node
          k = (move.given.needed a need, out)

          by_part : (part : Part) → a.part ≡ part → s.stage a ≡ Full → a.node ≡ b
              → right_links G' out' a.node r.def part ≡ right_links G s.out a.node r.def part
          by_part Change is st e = refl
          by_part Main is st e = let me : a ≡ main b = λ i. record { node = e i; part = is i } in
              absurd (move.right (subst (λ (y : Point). s.needed y ≡ true) me need) (subst (λ (y : Point). s.stage y ≡ Full) me st))

          by_bind : s.stage a ≡ Full → (a.node ≡ b) ⊎ (a.node ≡ b → ⊥)
              → right_links G' out' a.node r.def a.part ≡ right_links G s.out a.node r.def a.part
          by_bind st (inl e) = by_part a.part refl st e
          by_bind st (inr ne) = rights_cross a.node r r.def a.part k row ne

  -- ---- settled points

  module _ (q : Point) (d : IsDone F G s.out s.died s.last q) where
    q_given : P q.node
    q_given = move.given.names.live q.node d.row d.is_row

    q_stands : Stands F G d.row.scope
    q_stands = (d.exact d.row d.is_row).0

    q_kept : KeptNode q.node
    q_kept = standing_kept q.node d.row q_given d.is_row q_stands

    q_not_change : change b ≡ q → ⊥
    q_not_change e = not_exact (subst (λ (y : Point). Exact F G s.out y) (sym e) d.exact)

    q_run : q.part ≡ Main → (m : NodeId) → subject_of d.row.def ≡ Some m → Exact F G s.out (change q.node)
    q_run part m sub = d.below (change q.node) (fixed d.is_row q_stands (rw (part, sub) (inl refl)))

    q_not_main : main b ≡ q → ⊥
    q_not_main e =
        let node : b ≡ q.node = ap (λ (y : Point). y.node) e in
        let part : q.part ≡ Main = sym (ap (λ (y : Point). y.part) e) in
        let due = move.due in
        let row : G.row q.node ≡ Some due.row = subst (λ (y : NodeId). G.row y ≡ Some due.row) node due.is_row in
        let mine = d.is_row in
        let same : d.row ≡ due.row = cc in
        let sub : subject_of d.row.def ≡ Some due.left = ap (λ (y : Row). subject_of y.def) same ∙ ap (λ (y : Def). subject_of y) due.is_bind in
        not_exact (subst (λ (y : NodeId). Exact F G s.out (change y)) (sym node) (q_run part due.left sub))

    q_links : (m : Point) → Among m (plan G s.out q d.row) → Depends F G s.died q m
    q_links m among = plan_depends F G s.out s.died q m d.row d.is_row q_stands (λ part k sub. ((q_run part k sub) d.row d.is_row).1 k sub) among

    q_looks : (m : Point) → Among m (looks G s.out q d.row) → KeptNode m.node
    q_looks m among =
        let dep = q_links m (among_right m (gate_of d.row.scope) _ among) in
        let ex = d.below m dep in
        (dep_given q m q_given dep, λ i. let f = inside_falls F G b now move.due m.node i in none_stands m.node f.0 i f.1 (ex f.0 f.1).0)

    row_after : G'.row q.node ≡ Some d.row
    row_after = row_stays q.node q_kept ∙ d.is_row

    q_not_bind : q.node ≡ b → ⊥
    q_not_bind = not_bind q d.row d.is_row q_kept q_not_change q_not_main q_looks

    done_after : IsDone F G' out' died' made.last q
    done_after = record {
      row = d.row;
      is_row = row_after;
      agrees = agrees_after q d.row d.is_row q_kept q_not_change q_not_main q_looks d.agrees;
      recalls = recalls_after q d.row d.is_row q_kept q_not_change q_not_main q_looks d.recalls;
      exact = exact_after q q_given d.exact;
      below = λ m dep.
          let run = λ (part : q.part ≡ Main) (k : NodeId) (sub : subject_of d.row.def ≡ Some k).
          ((exact_after (change q.node) q_given (q_run part k sub)) d.row row_after).1 k sub in
          let a = depends_plan F G' out' died' q m d.row row_after (stays_standing q.node d.row q_kept d.is_row q_stands) run dep in
          let e = plan_cross q d.row q_kept d.is_row q_not_bind in
          let old = q_links m (rw e at a) in
          exact_after m (dep_given q m q_given old) (d.below m old);
    }

  -- ---- points that were right

  some_dead : (xs : List Point) → ((q : Point) → Among q xs → P q.node) → ((q : Point) → Among q xs → KeptNode q.node)
      ⊎ ((x : Point) × Among x xs × Inside G b x.node)
  some_dead [] given = inl (λ q a. absurd a)
  some_dead (x ∷ xs) given = elim (move.rebuilt.rows x.node (given x (inl refl))) [
    | inl h ↦ inr (x, inl refl, h.0)
    | inr h ↦ elim (some_dead xs (λ q a. given q (inr a))) [
      | inl all ↦ inl (λ q a. first q a (given x (inl refl), h.0) all)
      | inr d ↦ inr (d.0, inr d.1, d.2)
    ]
  ]
    where
      first : (q : Point) → Among q (x ∷ xs) → KeptNode x.node → ((q : Point) → Among q xs → KeptNode q.node) → KeptNode q.node
      first q (inl e) k all = subst (λ (y : Point). KeptNode y.node) (sym e) k
      first q (inr a) k all = all q a

  fresh_after : (a : Point) (r : Row) → G'.row a.node ≡ Some r → s.needed a ≡ true → (heap' a ≡ true) ⊎ (s.settled a ≡ true) ⊎ IsRight F after a
  fresh_after a r row' need =
      let k = alive a.node r (move.given.needed a need) row' in
      elim (same_or_other (change b) a) [
        | inl e ↦ inl (subst (λ (y : Point). heap' y ≡ true) e (move.heap.kept (change b) bind_kept.1 move.taken.heap))
        | inr ne ↦ elim (inv.fresh a r k.1 need) [
          | inl h ↦ inl (move.heap.kept a k.0.1 h)
          | inr (inl h) ↦ inr (inl h)
          | inr (inr right) ↦
              let linked = λ (q : Point) (among : Among q (looks G s.out a r)). plan_links F z s inv move.quiet a q r Full k.1 right.0 need
              (among_right q (gate_of r.scope) _ among) in
              let not_main : main b ≡ a → ⊥ = λ e. move.right (subst (λ (y : Point). s.needed y ≡ true) (sym e) need)
              (subst (λ (y : Point). s.stage y ≡ Full) (sym e) right.0) in
              elim (some_dead (looks G s.out a r) (λ q among. move.given.needed q (inv.web.onto a q (linked q among)))) [
                | inl all ↦ inr (inr (
                  move.beside.stage a r row' need ∙ right.0,
                  agrees_after a r k.1 k.0 ne not_main all right.1,
                  recalls_after a r k.1 k.0 ne not_main all right.2,
                  right.3,
                ))
                | inr d ↦ elim (move.heap.told a d.0 r k.1 k.0.1 d.2 (linked d.0 d.1)) [ inl h ↦ inl h | inr h ↦ inr (inl h) ]
              ]
        ]
      ]

  -- ---- met

  way_grows : (p q : Point) → P p.node → Reaches (Depends F G s.died) p q → Reaches (Depends F G' died') p q
  way_grows p q given here = here
  way_grows p q given (step {b = m} d rest) = step (dep_grows p m given d) (way_grows m q (dep_given p m given d) rest)

  pub met_after : (p : Point) → MetNow F z G s.died s.root p → MetNow F z G' died' s.root p
  met_after p (from_root {r} a way) = from_root a (way_grows r p (move.given.rooted r a) way)
  met_after p (from_held {h} {r} is e st way) =
      let k = standing_kept h.node r (move.given.start.held h is) e st in
      from_held is (row_stays h.node k ∙ e) (stays_standing h.node r k e st) (way_grows h p (move.given.start.held h is) way)

  -- ---- accounts

  gives_all : (ks : List NodeId) (vs : List Value) → ((k : NodeId) → Among (main k) (map main ks) → P k) → GiveAll F G ks vs → GiveAll F G' ks vs
  gives_all [] [] given h = tt
  gives_all [] (v ∷ vs) given h = absurd h
  gives_all (k ∷ ks) [] given h = absurd h
  gives_all (k ∷ ks) (v ∷ vs) given h = (gives_after k (given k (inl refl)) _ h.0, gives_all ks vs (λ m a. given m (inr a)) h.1)

  called_after : (n : NodeId) → HasCalled F z G s.died s.root s.settled s.last n → HasCalled F z G' died' s.root s.settled made.last n
  called_after n c =
      let d = inv.settled.done (main n) c.is_settled in
      let mine = c.is_row in let its = d.is_row in
      let same : d.row ≡ c.row = cc in
      let def : taken_by G n d.row.def ≡ Some c.kids = ap (λ (y : Row). taken_by G n y.def) same ∙ c.takes in
      record {
        row = c.row;
        kids = c.kids;
        values = c.values;
        result = c.result;
        answers = c.answers;
        is_row = row_stays n (q_kept (main n) d) ∙ c.is_row;
        takes = takes_after n (q_kept (main n) d) c.row.def ∙ c.takes;
        is_settled = c.is_settled;
        met = met_after (main n) c.met;
        gives = gives_all c.kids c.values (λ k a. dep_given (main n) (main k) (q_given (main n) d) (q_links (main n) d (main k)
            (among_right (main k) (gate_of d.row.scope) _ (among_left (main k) (fixed_reads G n d.row.def Main) _ (reads_taken G n d.row.def c.kids (main k) def a))))) c.gives;
        is_last = move.beside.last n c.row (row_stays n (q_kept (main n) d) ∙ c.is_row) (q_given (main n) d) ∙ c.is_last;
        reason = c.reason;
      }

  called_rows : (n : NodeId) → HasCalled F z G s.died s.root s.settled s.last n → StaysCalled G G' n
  called_rows n c = record {
    row = c.row;
    before = c.is_row;
    after = row_stays n (q_kept (main n) (inv.settled.done (main n) c.is_settled)) ∙ c.is_row;
    frozen = move.rebuilt.frozen n (q_given (main n) (inv.settled.done (main n) c.is_settled));
    lists = move.rebuilt.lists n (q_given (main n) (inv.settled.done (main n) c.is_settled));
  }

  cost_after : (n : NodeId) → HasCalled F z G s.died s.root s.settled s.last n → cost_at G n ≡ cost_at G' n
  cost_after n c = costs_at G G' n (called_rows n c)

  costs_after : costs_of G s.ran ≡ costs_of G' s.ran
  costs_after = costs_same G G' s.ran (λ n a. called_rows n (inv.accounts.called n a))

  gives_all_before : (ks : List NodeId) (vs : List Value) → ((k : NodeId) → Among (main k) (map main ks) → P k) → GiveAll F G' ks vs → GiveAll F G ks vs
  gives_all_before [] [] given h = tt
  gives_all_before [] (v ∷ vs) given h = absurd h
  gives_all_before (k ∷ ks) [] given h = absurd h
  gives_all_before (k ∷ ks) (v ∷ vs) given h =
      (gives_before k (given k (inl refl)) _ h.0, gives_all_before ks vs (λ m a. given m (inr a)) h.1)

  renewed_after : (n : NodeId) (r : Row) (kids : List NodeId) (values : List Value) → z.stale n ≡ true → s.settled (main n) ≡ true
      → G'.row n ≡ Some r → taken_by G' n r.def ≡ Some kids → GiveAll F G' kids values → 0 < cost_at G' n → Among n s.ran
  renewed_after n r kids values st settled row' takes gives some =
      let d = inv.settled.done (main n) settled in
      let k = q_kept (main n) d in
      let row : G.row n ≡ Some r = sym (row_stays n k) ∙ row' in
      let mine = d.is_row in
      let same : d.row ≡ r = cc in
      let takes' : taken_by G n r.def ≡ Some kids = sym (takes_after n k r.def) ∙ takes in
      let takes_d : taken_by G n d.row.def ≡ Some kids = ap (λ (y : Row). taken_by G n y.def) same ∙ takes' in
      inv.accounts.renewed n r kids values st settled row takes' (gives_all_before kids values (λ k a. dep_given (main n) (main k) (q_given (main n) d)
      (q_links (main n) d (main k) (among_right (main k) (gate_of d.row.scope) _
      (among_left (main k) (fixed_reads G n d.row.def Main) _ (reads_taken G n d.row.def kids (main k) takes_d a))))) gives)
      (subst (λ (k : ℕ). 0 < k) (sym (costs_at G G' n (record {
        row = r;
        before = row;
        after = row';
        frozen = move.rebuilt.frozen n (q_given (main n) d);
        lists = move.rebuilt.lists n (q_given (main n) d);
      }))) some)

  unfired_after : (n : NodeId) (r : Row) → G'.row n ≡ Some r → fires r.def (G'.frozen n) (z.last n) ≡ None
  unfired_after n r row' = elim (cases_lt n.gen_ s.given) [
    | inl lt ↦ let k = alive n r lt row' in
        ap (λ (x : Option Value). fires r.def x (z.last n)) (move.rebuilt.frozen n lt) ∙ inv.accounts.unfired n r k.1
    | inr le ↦ ap (λ (x : Option Call). fires r.def (G'.frozen n) x) (move.given.start.last n le) ∙ never_called r.def (G'.frozen n)
  ]

  answers_after : (n : NodeId) (r : Row) (kids : List NodeId) (c : Call) → G'.row n ≡ Some r → taken_by G' n r.def ≡ Some kids
      → made.last n ≡ Some c → IsAnswer F r.def c.arguments c.result
  answers_after n r kids c row' def l = elim (cases_lt n.gen_ s.given) [
    | inl lt ↦ let k = alive n r lt row' in
        inv.accounts.answers n r kids c k.1 (sym (takes_after n k.0 r.def) ∙ def) (sym (move.beside.last n r row' lt) ∙ l)
    | inr le ↦ absurd (let x = move.beside.new_last n le in cc)
  ]

  last_after : (n : NodeId) (r : Row) → G'.row n ≡ Some r → (Among n s.ran → ⊥)
      → (made.last n ≡ z.last n) ⊎ (HasCalled F z G' died' s.root s.settled made.last n × (cost_at G' n ≡ 0))
  last_after n r row' a = elim (cases_lt n.gen_ s.given) [
    | inl lt ↦ elim (inv.accounts.kept n r (alive n r lt row').1 a) [
      | inl e ↦ inl (move.beside.last n r row' lt ∙ e)
      | inr c ↦ inr (called_after n c.0, sym (cost_after n c.0) ∙ c.1)
    ]
    | inr le ↦ inl (move.beside.new_last n le ∙ sym (move.given.start.last n le))
  ]

  built_after : (n : NodeId) (r : Row) (o : Outcome) → G'.row n ≡ Some r → out' (change n) ≡ Some o → IsBuilt F G' n r.def o
  built_after n r o row' e = elim (node_or_other n b) [
    | inl is ↦ absurd (let x = move.beside.cleared in let y : out' (change b) ≡ Some o = subst (λ (y : NodeId). out' (change y) ≡ Some o) is e in cc)
    | inr ne ↦
        elim (cases_lt n.gen_ s.given) [
          | inl lt ↦ let k = alive n r lt row' in
              let was = out_other (change n) r k.0 k.1 (change_other n ne) in
              built_stays n r o k.0 ne r.def k.1 refl (inv.built n r o k.1 (sym was ∙ e))
          | inr le ↦ absurd (let x = move.beside.new_out (change n) le in cc)
        ]
  ]

  bare_after : (a : Point) → s.needed a ≡ true → made.stage a ≡ Bare → s.todo a ≡ true
  bare_after a need e = by_row (G'.row a.node) refl
    where
      by_row : (x : Option Row) → G'.row a.node ≡ x → s.todo a ≡ true
      by_row None none = absurd (move.beside.ghosts a none need e)
      by_row (Some r) row' = inv.rows.bare a need (sym (move.beside.stage a r row' need) ∙ e)

  waits_after : Waits after
  waits_after = record {
    gated = λ a r row' need td st.
        let k = alive a.node r (move.given.needed a need) row' in
        let w = inv.waits.gated a r k.1 need td (sym (move.beside.stage a r row' need) ∙ st) in
        (w.0, w.1, w.2, move.heap.kept (change w.0) (λ i. k.0.1 (nested_in k.1 w.1 i)) w.3);
    static = λ a r row' need td st.
        let k = alive a.node r (move.given.needed a need) row' in
        let w = inv.waits.static a r k.1 need td (sym (move.beside.stage a r row' need) ∙ st) in
        (w.0, w.1, w.2, move.heap.kept (change a.node) k.0.1 w.3);
  }
    where
      nested_in : {n : NodeId} {r : Row} {d : NodeId} → G.row n ≡ Some r → r.scope ≡ Some d → Inside G b d → Inside G b n
      nested_in row sc i = nested row sc i

  strict_after : Strict after
  strict_after = record {
    gates = λ st a r d row' need sc stage.
        let k = alive a.node r (move.given.needed a need) row' in
        let t = sym (move.beside.stage a r row' need) in
        inv.strict.gates st a r d k.1 need sc (elim stage [ inl x ↦ inl (t ∙ x) | inr x ↦ inr (t ∙ x) ]);
    rights = λ st n r q row' need stage among.
        let k = alive n r (move.given.needed (main n) need) row' in
        let full = sym (move.beside.stage (main n) r row' need) ∙ stage in
        elim (node_or_other n b) [
          | inl is ↦ absurd (move.right (subst (λ (y : NodeId). s.needed (main y) ≡ true) is need)
              (subst (λ (y : NodeId). s.stage (main y) ≡ Full) is full))
          | inr ne ↦ let e = rights_cross n r r.def Main k.0 k.1 ne in inv.strict.rights st n r q k.1 need full (rw e at among)
        ];
  }

  alive_after : (q : Point) → heap' q ≡ true → (r : Row) × (G'.row q.node ≡ Some r)
  alive_after q h = elim (move.heap.new q h) [
    | inl k ↦ let a = inv.alive q k.0 in (a.0, row_stays q.node (move.given.names.live q.node a.0 a.1, k.1) ∙ a.1)
    | inr k ↦ (k.0, row_stays q.node (move.given.names.live q.node k.0 k.1, k.4) ∙ k.1)
  ]

  -- what dies wasn't settled
  pub settled_kept : (q : Point) → s.settled q ≡ true → Inside G b q.node → ⊥
  settled_kept q h = (q_kept q (inv.settled.done q h)).1

  -- ---- scopes and roots

  due_after : G'.row b ≡ Some move.due.row
  due_after = row_stays b bind_kept ∙ move.due.is_row

  -- a scope is still that of a live bind
  scoped_after : Scoped G'
  scoped_after n r c row' sc = elim (cases_lt n.gen_ s.given) [
    | inl lt ↦
        let k = alive n r lt row' in
        let o = inv.scoped n r c k.1 sc in
        let kept : KeptNode c = (move.given.names.live c o.0 o.4, λ i. k.0.1 (nested k.1 sc i)) in
        (o.0, o.1, o.2, o.3, row_stays c kept ∙ o.4, o.5)
    | inr le ↦
        let new = move.nodes.scope n r row' le in
        let x = new.0 in
        let same : c ≡ b = cc in
        let due = move.due in
        (due.row, due.left, due.function, due.captures, subst (λ (y : NodeId). G'.row y ≡ Some due.row) (sym same) due_after, due.is_bind)
  ]

  module _ (result : (G'.built b ≡ None) ⊎ IsBuiltAnew F G' b move.due.function move.due.captures now) where
    rooted_after : Rooted F G'
    rooted_after n r l f captures w row' def at_built = elim (node_or_other n b) [
      | inl is ↦ by_result (subst (λ (y : NodeId). G'.row y ≡ Some r) is row') (subst (λ (y : NodeId). G'.built y ≡ Some w) is at_built)
          (λ (h : IsRooted F G' b f captures w). subst (λ (y : NodeId). IsRooted F G' y f captures w) (sym is) h) result
      | inr ne ↦ elim (cases_lt n.gen_ s.given) [
        | inl lt ↦
            let k = alive n r lt row' in
            let before = sym (move.rebuilt.built n lt ne k.0.1) ∙ at_built in
            rooted_stays n f captures w k.0 ne before (inv.rooted n r l f captures w k.1 def before)
        | inr le ↦ absurd (let x = move.nodes.unbuilt n le in cc)
      ]
    ]
      where
        by_result : G'.row b ≡ Some r → G'.built b ≡ Some w → (IsRooted F G' b f captures w → IsRooted F G' n f captures w)
            → (G'.built b ≡ None) ⊎ IsBuiltAnew F G' b move.due.function move.due.captures now → IsRooted F G' n f captures w
        by_result row at_b back (inl none) = absurd (cc)
        by_result row at_b back (inr h) =
            let due = move.due in
            let d = due_after in let i = h.is_built in let bind = due.is_bind in
            let built : h.built ≡ w = cc in
            let same : due.row ≡ r = cc in
            let defs : graph.Bind due.left due.function due.captures ≡ graph.Bind l f captures = sym bind ∙ ap (λ (y : Row). y.def) same ∙ def in
            let fs : due.function ≡ f = cc in
            let cs : due.captures ≡ captures = cc in
            back (rw (← fs, ← cs, ← built) h.rooted)

    pub rebuild_keeps : Invariant F z after
    rebuild_keeps = record {
      web = record {
        from = inv.web.from;
        onto = inv.web.onto;
        rooted = inv.web.rooted;
        reached = inv.web.reached;
        rises = inv.web.rises;
        low = inv.web.low;
        heap = λ q h. elim (move.heap.new q h) [ inl k ↦ inv.web.heap q k.0 | inr k ↦ k.2 ];
      };
      alive = alive_after;
      rows = record { links = λ a x need. let e = planned_stays a need in rw e (inv.rows.links a x need); bare = bare_after; owed = inv.rows.owed };
      scoped = scoped_after;
      rooted = rooted_after;
      built = built_after;
      waits = waits_after;
      fresh = fresh_after;
      settled = record {
        done = λ q h. done_after q (inv.settled.done q h);
        twice = λ q h k. elim (move.heap.new q k) [ inl old ↦ inv.settled.twice q h old.0 | inr new ↦ absurd (let x = new.3 in cc) ];
      };
      strict = strict_after;
      last_settled = inv.last_settled;
      met = record {
        needed = λ a need. elim (inv.met.needed a need) [ inl m ↦ inl (met_after a m) | inr h ↦ inr h ];
        todo = λ a need td. met_after a (inv.met.todo a need td);
      };
      accounts = record {
        once = inv.accounts.once;
        called = λ n a. called_after n (inv.accounts.called n a);
        costs = λ n a. subst (λ (k : ℕ). 0 < k) (cost_after n (inv.accounts.called n a)) (inv.accounts.costs n a);
        kept = last_after;
        count = subst (λ (k : ℕ). RoseBy z.calls k s.calls) costs_after inv.accounts.count;
        answers = answers_after;
        cutoffs = inv.accounts.cutoffs;
        marked = inv.accounts.marked;
        unmarked = inv.accounts.unmarked;
        renewed = renewed_after;
        unfired = unfired_after;
      };
    }
