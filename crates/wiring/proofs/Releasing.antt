-- Links to gates come off one after the other, and all is one sweep.
use Rattle.std.proofs.Common.{◌≡◌, ◌≢◌, ◌⊎◌, inl, inr, ℕ, ◌-◌, Bool, None, Some, List, [], arith, refl, sym, ap, subst, ◌∙◌}
use Rattle.std.specs.Prelude.{is_some, not, map}
use Rattle.std.proofs.lemmas.Bool.{cases_lt, false_from_ne_true}
use Rattle.inc_value.specs.Choice.{Among}
use Rattle.inc_value.specs.declared.node.NodeId.{NodeId}
use Rattle.inc_value.specs.declared.node.Part.{Part}
use Rattle.inc_value.specs.declared.node.Part.TheVariants.{Main, Change}
use Rattle.inc_value.specs.declared.node.Point.{Point}
use Rattle.inc_terms.specs.Depend.{main, change}
use Rattle.point_map.specs.Rows.{Rows, at, Changes}
use Rattle.link_table.specs.Links.{Links, link, times, Reads}
use Rattle.necessary_graph.specs.Part.{NecessaryPart, Needed, IsInStep}
use Rattle.necessary_graph.specs.Sweep.{Sweep, DropsLeaves, IsUnlinked}
use Rattle.necessary_graph.proofs.Sweeping.{link_cases}
use Rattle.necessary_graph.proofs.Composing.{with_links, swept_alone, drops_none, IsThinner, sweeps_compose, drops_compose, one_off, off_thinner}
use Rattle.necessary_graph.proofs.Reaching.{needed_more}
use Rattle.node_lists.specs.Deaths.{Deaths, AreDeaths}
use Rattle.node_outcomes.specs.Progress.{Progress}
use Rattle.stabilize_round.proofs.Points.{node_or_other}
use Rattle.wiring.specs.Graph.{died_at, rowless}
use Rattle.wiring.proofs.Linking.{none_if}
use Rattle.wiring.specs.Scoped.{IsReleased}
use Rattle.wiring.specs.declared.work.Work.{Work}

-- one link less, where there was one
pub record IsOneLess (old new : Links) (p q : Point) : Type 0 where
  pub less : times new p q ≡ times old p q - 1
  pub others : (a b : Point) → link a b ≢ link p q → times new a b ≡ times old a b

-- so many links are left of a graph, and then what is no longer reached lost all
pub record IsSweptTo (leaf : Point → Bool) (old now : NecessaryPart) (links : Links) : Type 0 where
  pub sweep : Sweep (with_links old links) now
  pub drops : DropsLeaves leaf old now
  pub lower : (a : Point) → Needed now a → Needed old a
  pub step : IsInStep now

module _ (leaf : Point → Bool) (old : NecessaryPart) where
  pub swept_first : IsInStep old → IsSweptTo leaf old old old.links
  swept_first step = record { sweep = swept_alone old step; drops = drops_none leaf old; lower = λ a n. n; step = step }

  module _ (s u : NecessaryPart) (links : Links) (p q : Point) (so : IsSweptTo leaf old s links) (step : IsInStep u) where
    -- the link is there, and comes off
    unlinked_swept : IsUnlinked leaf s u p q → (left : Links) × IsOneLess links left p q × IsSweptTo leaf old u left
    unlinked_swept un =
        let left = one_off links p q (omega (arith, un.off.raised, so.sweep.fewer p q)) in
        let thinner = off_thinner (with_links old links) s left.0 un.links p q so.sweep left.1 un.off in
        let lower : (a : Point) → Needed u a → Needed s a = (λ a n. needed_more (with_links s un.links) s (λ x r. r)
        (λ x y r. elim (link_cases x y p q) [
          | inl is ↦ rw (is.0, is.1) (omega (arith, un.off.raised))
          | inr other ↦ omega (arith, un.off.others x y other, r)
        ]) a ((un.sweep.reached a).0 n)) in (
          left.0,
          record { less = omega (arith, left.1.raised); others = λ a b other. sym (left.1.others a b other) },
          record {
            sweep = sweeps_compose (with_links old links) s u left.0 un.links so.sweep thinner un.sweep;
            drops = drops_compose leaf old s u so.lower lower so.drops un.drops;
            lower = λ a n. so.lower a (lower a n);
            step = step;
          },
        )

    -- it isn't there any more
    unread_thinner : (Reads s.links p q → ⊥) → (left : Links) → IsOneLess links left p q → IsThinner (with_links old links) left s.links
    unread_thinner none left one = record {
      down = λ a b. elim (link_cases a b p q) [
        | inl is ↦ rw (is.0, is.1) (omega (arith, one.less))
        | inr other ↦ omega (arith, one.others a b other)
      ];
      within = λ a b. elim (link_cases a b p q) [
        | inl is ↦ rw (is.0, is.1) (elim (cases_lt 0 (times s.links p q)) [ inl r ↦ absurd (none r) | inr nil ↦ omega (arith, nil) ])
        | inr other ↦ omega (arith, one.others a b other, so.sweep.fewer a b)
      ];
      same = λ a b n. elim (link_cases a b p q) [
        | inl is ↦ rw (is.0, is.1) (elim (cases_lt 0 (times s.links p q)) [
          | inl r ↦ absurd (none r)
          | inr nil ↦ let e = so.sweep.kept p q (rw is.0 at n) in omega (arith, nil, one.less, e)
        ])
        | inr other ↦ omega (arith, one.others a b other, so.sweep.kept a b n)
      ];
    }

    unread_swept : u ≡ s → (Reads s.links p q → ⊥) → (left : Links) → IsOneLess links left p q → IsSweptTo leaf old u left
    unread_swept same none left one = rw same (record {
      sweep = sweeps_compose (with_links old links) s s left s.links so.sweep (unread_thinner none left one) (swept_alone s so.step);
      drops = so.drops;
      lower = so.lower;
      step = so.step;
    })

    pub released_one : IsUnlinked leaf s u p q ⊎ ((u ≡ s) × (Reads s.links p q → ⊥)) → (left : Links) × IsOneLess links left p q × IsSweptTo leaf old u left
    released_one (inl un) = unlinked_swept un
    released_one (inr (same, none)) = elim (cases_lt 0 (times links p q)) [
      | inl there ↦
          let left = one_off links p q there in
          let one : IsOneLess links left.0 p q = record { less = omega (arith, left.1.raised); others = λ a b other. sym (left.1.others a b other) } in
          (left.0, one, unread_swept same none left.0 one)
      | inr nil ↦
          let one : IsOneLess links links p q = record { less = omega (arith, nil); others = λ a b other. refl } in
          (links, one, unread_swept same none links one)
    ]

-- ---- the dead of a round

-- the links of a point are as they were, or its node died and was taken up, and its gate's is one less
pub data IsLetGo (old now : Work) (links : Links) (p : Point) : Type 0 where
  as_was : died_at now p.node ≡ died_at old p.node → ((q : Point) → times links p q ≡ times old.graph.links p q) → IsLetGo old now links p
  loosed : {b : NodeId} → died_at old p.node ≡ Some b → died_at now p.node ≡ None
      → times links p (change b) ≡ times old.graph.links p (change b) - 1
      → ((q : Point) → q ≢ change b → times links p q ≡ times old.graph.links p q) → IsLetGo old now links p

-- some of the dead let go
pub record IsReleasing (old now : Work) : Type 0 where
  pub links : Links
  pub each : (p : Point) → IsLetGo old now links p
  pub swept : IsSweptTo (rowless old) old.graph now.graph links
  pub rows : now.rows ≡ old.rows

pub releasing_first : (old : Work) → IsInStep old.graph → IsReleasing old old
releasing_first old step = record {
  links = old.graph.links;
  each = λ p. as_was refl (λ q. refl);
  swept = swept_first (rowless old) old.graph step;
  rows = refl;
}

-- a point of a node is its main or its change
part_point : (n m : NodeId) (part : Part) → n ≡ m
    → (◌≡◌ {A = Point} (record { node = n; part = part }) (main m)) ⊎ (◌≡◌ {A = Point} (record { node = n; part = part }) (change m))
part_point n m Main e = inl (ap main e)
part_point n m Change e = inr (ap change e)

pub main_or_change : (p : Point) (n : NodeId) → p.node ≡ n → (p ≡ main n) ⊎ (p ≡ change n)
main_or_change p n e = part_point p.node n p.part e

pub main_apart : (n m : NodeId) → main n ≢ change m
main_apart n m e = absurd (let part = ap (λ (x : Point). x.part) e in cc)

reader_same : (a b c d : Point) → link a b ≡ link c d → a ≡ c
reader_same a b c d e = ap (λ l. l.reader) e

kid_same : (a b c d : Point) → link a b ≡ link c d → b ≡ d
kid_same a b c d e = ap (λ l. l.kid) e

-- a main is of the node
main_node : (n m : NodeId) → main n ≡ main m → n ≡ m
main_node n m e = ap (λ (x : Point). x.node) e

-- one more of the dead lets go: both its points lose their links to the gate
module _ (old now new : Work) (n b : NodeId) (so : IsReleasing old now) (died : died_at now n ≡ Some b) (popped : Changes now.deaths.scopes new.deaths.scopes (main n) None)
    (first left : Links) (one : IsOneLess so.links first (main n) (change b)) (two : IsOneLess first left (change n) (change b)) where
  -- links of other points stay
  other_links : (p q : Point) → p.node ≢ n → times left p q ≡ times so.links p q
  other_links p q other =
      two.others p q (λ e. other (ap (λ (x : Point). x.node) (reader_same p q (change n) (change b) e)))
      ∙ one.others p q (λ e. other (ap (λ (x : Point). x.node) (reader_same p q (main n) (change b) e)))

  -- so do those to other points than the gate
  off_links : (p q : Point) → q ≢ change b → times left p q ≡ times so.links p q
  off_links p q other =
      two.others p q (λ e. other (kid_same p q (change n) (change b) e)) ∙ one.others p q (λ e. other (kid_same p q (main n) (change b) e))

  other_died : (p : Point) → p.node ≢ n → died_at new p.node ≡ died_at now p.node
  other_died p other = popped.others (main p.node) (λ e. other (main_node p.node n e))

  gone_at : (p : Point) → p.node ≡ n → died_at new p.node ≡ None
  gone_at p is = ap (λ (x : NodeId). died_at new x) is ∙ popped.changed

  now_at : (p : Point) → p.node ≡ n → died_at now p.node ≡ Some b
  now_at p is = ap (λ (x : NodeId). died_at now x) is ∙ died

  gate_less : (p : Point) → p.node ≡ n → times left p (change b) ≡ times so.links p (change b) - 1
  gate_less p is = elim (main_or_change p n is) [
    | inl m ↦ rw m (two.others (main n) (change b) (λ e. main_apart n n (reader_same (main n) (change b) (change n) (change b) e)) ∙ one.less)
    | inr c ↦ rw c (let before = one.others (change n) (change b) (λ e. main_apart n n (sym (reader_same (change n) (change b) (main n) (change b) e))) in
        two.less ∙ ap (λ (x : ℕ). x - 1) before)
  ]

  at_node : (p : Point) → p.node ≡ n → IsLetGo old now so.links p → IsLetGo old new left p
  at_node p is (as_was same links) = loosed (sym same ∙ now_at p is) (gone_at p is)
      (gate_less p is ∙ ap (λ (x : ℕ). x - 1) (links (change b))) (λ q other. off_links p q other ∙ links q)
  at_node p is (loosed d gone less links) = absurd (let e = sym gone ∙ now_at p is in cc)

  elsewhere : (p : Point) → p.node ≢ n → IsLetGo old now so.links p → IsLetGo old new left p
  elsewhere p other (as_was same links) = as_was (other_died p other ∙ same) (λ q. other_links p q other ∙ links q)
  elsewhere p other (loosed {b = c} d gone less links) = loosed d (other_died p other ∙ gone) (other_links p (change c) other ∙ less)
      (λ q off. other_links p q other ∙ links q off)

  pub lets_go : (p : Point) → IsLetGo old new left p
  lets_go p = elim (node_or_other p.node n) [ inl is ↦ at_node p is (so.each p) | inr other ↦ elsewhere p other (so.each p) ]

-- both links came off
pub releasing_more : (old now new : Work) (n b : NodeId) (mid : NecessaryPart) → IsReleasing old now → died_at now n ≡ Some b
    → Changes now.deaths.scopes new.deaths.scopes (main n) None → new.rows ≡ now.rows
    → IsUnlinked (rowless old) now.graph mid (main n) (change b) ⊎ ((mid ≡ now.graph) × (Reads now.graph.links (main n) (change b) → ⊥)) → IsInStep mid
    → IsUnlinked (rowless old) mid new.graph (change n) (change b) ⊎ ((new.graph ≡ mid) × (Reads mid.links (change n) (change b) → ⊥)) → IsInStep new.graph
    → IsReleasing old new
releasing_more old now new n b mid so died popped rows first step second last =
    let leaf = rowless old in
    let one = released_one leaf old.graph now.graph mid so.links (main n) (change b) so.swept step first in
    let two = released_one leaf old.graph mid new.graph one.0 (change n) (change b) one.2 last second in record {
      links = two.0;
      each = lets_go old now new n b so died popped one.0 two.0 one.1 two.1;
      swept = two.2;
      rows = rows ∙ so.rows;
    }

-- all let go
module _ (old new : Work) (so : IsReleasing old new) (nodes : new.deaths.nodes ≡ []) (told : AreDeaths new.deaths.nodes new.deaths.scopes) where
  none_left : (n : NodeId) → died_at new n ≡ None
  none_left n = none_if (died_at new n) (false_from_ne_true (is_some (died_at new n)) (λ h.
      let among : Among (main n) (map main new.deaths.nodes) = (told.rows (main n)).0 h in
      subst (λ (xs : List NodeId). Among (main n) (map main xs)) nodes among))

  kept_links : (p q : Point) → died_at old p.node ≡ None → IsLetGo old new so.links p → times so.links p q ≡ times old.graph.links p q
  kept_links p q lives (as_was same links) = links q
  kept_links p q lives (loosed d gone less links) = absurd (let e = sym lives ∙ d in cc)

  off_gate : (p : Point) (b : NodeId) → died_at old p.node ≡ Some b → (q : Point) → q ≢ change b → IsLetGo old new so.links p
      → times so.links p q ≡ times old.graph.links p q
  off_gate p b died q other (as_was same links) = links q
  off_gate p b died q other (loosed {b = c} d gone less links) = links q (λ e. other (e ∙ ap change (let k = sym d ∙ died in cc)))

  gate_off : (p : Point) (b : NodeId) → died_at old p.node ≡ Some b → IsLetGo old new so.links p
      → times so.links p (change b) ≡ times old.graph.links p (change b) - 1
  gate_off p b died (as_was same links) = absurd (let e = sym (none_left p.node) ∙ (same ∙ died) in cc)
  gate_off p b died (loosed {b = c} d gone less links) =
      let e : c ≡ b = let k = sym d ∙ died in cc in
      subst (λ (x : NodeId). times so.links p (change x) ≡ times old.graph.links p (change x) - 1) e less

  pub released : IsReleased old new
  released = record {
    deaths = none_left;
    none = nodes;
    links = so.links;
    others = λ p q lives. kept_links p q lives (so.each p);
    off = λ p b died q other. off_gate p b died q other (so.each p);
    gates = λ p b died. gate_off p b died (so.each p);
    sweep = so.swept.sweep;
    drops = so.swept.drops;
  }

-- what else of the work changes doesn't matter
pub released_too : (old mid new : Work) → IsReleased old mid → new.deaths ≡ mid.deaths → new.graph ≡ mid.graph → IsReleased old new
released_too old mid new r deaths graph = record {
  deaths = λ n. ap (λ d. at d.scopes (main n)) deaths ∙ r.deaths n;
  none = ap (λ d. d.nodes) deaths ∙ r.none;
  links = r.links;
  others = r.others;
  off = r.off;
  gates = r.gates;
  sweep = subst (λ (g : NecessaryPart). Sweep (record old.graph { links = r.links }) g) (sym graph) r.sweep;
  drops = subst (λ (g : NecessaryPart). DropsLeaves (rowless old) old.graph g) (sym graph) r.drops;
}

-- ---- as the code goes

-- a link came off, if it was there
abbrev pub IsOffAt : (Point → Bool) → NecessaryPart → NecessaryPart → Point → Point → Type 0
IsOffAt leaf old new p q = IsUnlinked leaf old new p q ⊎ ((new ≡ old) × (Reads old.links p q → ⊥))

pub rowless_same : (old now : Work) → now.rows ≡ old.rows → rowless now ≡ rowless old
rowless_same old now e = ap {B = Point → Bool} (λ (m : Rows Progress) (p : Point). not (is_some (at m p))) e

-- all but the graph and the deaths stays
abbrev pub KeepsElse : Work → Work → Type 0
KeepsElse old now = now ≡ record old { graph = now.graph; deaths = now.deaths }

-- the last of the dead is taken up, and its points lose their links to the gate
module _ (old now mid new : Work) (d : Deaths) (so : IsReleasing old now) (beside : KeepsElse old now) (first : mid ≡ record (record now { deaths = d }) { graph = mid.graph })
    (second : new ≡ record mid { graph = new.graph }) where
  pub deaths_now : new.deaths ≡ d
  deaths_now = ap (λ (w : Work). w.deaths) second ∙ ap (λ (w : Work). w.deaths) first

  pub else_kept : KeepsElse old new
  else_kept =
      second ∙ (ap (λ (w : Work). record w { graph = new.graph }) first
      ∙ (ap (λ (w : Work). record w { graph = new.graph; deaths = d }) beside
      ∙ ap (λ (x : Deaths). record old { graph = new.graph; deaths = x }) (sym deaths_now)))

  mid_rows : mid.rows ≡ now.rows
  mid_rows = ap (λ (w : Work). w.rows) first

  pub release_more : (n b : NodeId) → died_at now n ≡ Some b → Changes now.deaths.scopes d.scopes (main n) None
      → IsOffAt (rowless (record now { deaths = d })) now.graph mid.graph (main n) (change b) → IsInStep mid.graph
      → IsOffAt (rowless mid) mid.graph new.graph (change n) (change b) → IsInStep new.graph → IsReleasing old new
  release_more n b died popped one step two last =
      releasing_more old now new n b mid.graph so died
      (subst (λ (x : Deaths). Changes now.deaths.scopes x.scopes (main n) None) (sym deaths_now) popped)
      (ap (λ (w : Work). w.rows) second ∙ mid_rows)
      (subst (λ (leaf : Point → Bool). IsOffAt leaf now.graph mid.graph (main n) (change b)) (rowless_same old now so.rows) one) step
      (subst (λ (leaf : Point → Bool). IsOffAt leaf mid.graph new.graph (change n) (change b)) (rowless_same old mid (mid_rows ∙ so.rows)) two) last

-- none is left to take up
pub release_last : (old now : Work) (d : Deaths) → IsReleasing old now → d ≡ now.deaths → now.deaths.nodes ≡ [] → AreDeaths d.nodes d.scopes
    → IsReleased old (record now { deaths = d })
release_last old now d so same none told =
    released old (record now { deaths = d }) (subst (λ (x : Deaths). IsReleasing old (record now { deaths = x })) (sym same) so)
    (ap (λ (x : Deaths). x.nodes) same ∙ none) told

pub else_last : (old now : Work) (d : Deaths) → KeepsElse old now → KeepsElse old (record now { deaths = d })
else_last old now d beside = ap (λ (w : Work). record w { deaths = d }) beside
