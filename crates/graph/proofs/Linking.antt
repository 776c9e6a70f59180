-- What calls leave of a graph that change the lists of experts, or make them stale.
use Rattle.std.proofs.Common.{◌≡◌, ◌≢◌, ◌⊎◌, inl, inr, ℕ, ◌<◌, ◌≤◌, Bool, true, false, List, [], ◌∷◌, ◌++◌, Option, None, Some, refl, sym, ap, subst, ◌∙◌, arith, append_assoc}
use Rattle.std.proofs.lemmas.Bool.{cond-true, cond-false, false_from_ne_true}
use Rattle.std.specs.Prelude.{Result, Ok, Err, OnOk, OnErr}
use Rattle.inc_value.specs.Choice.{Among}
use Rattle.inc_value.specs.declared.node.NodeId.{NodeId}
use Rattle.inc_value.specs.declared.node.Point.{Point}
use Rattle.inc_terms.specs.Depend.{main, change}
use Rattle.inc_terms.specs.Within.{Given}
use Rattle.expert_nodes.specs.Experts.{Expert, ExpertChanges, expert_in, expert_of, is_stale_at, kids_at, kids_of_expert, point_of}
use Rattle.expert_nodes.specs.Experts.{marked as marked_so, with_link, without_first, without_link}
use Rattle.link_table.specs.Links.{Links, times}
use Rattle.link_table.specs.declared.link.Link.{Link}
use Rattle.necessary_graph.specs.Part.{NecessaryPart}
use Rattle.necessary_graph.specs.Sweep.{IsUnlinked}
use Rattle.necessity.specs.Need.{Roots, root_times}
use Rattle.node_arena.specs.Arena.{Arena, row_at}
use Rattle.node_outcomes.specs.Computing.{seen}
use Rattle.node_outcomes.specs.Meaning.{Meaning}
use Rattle.node_outcomes.specs.Row.{cutoff_in, outcome_in}
use Rattle.node_outcomes.specs.Progress.{Progress}
use Rattle.observers.specs.Observers.{ObserversView}
use Rattle.observers.specs.declared.observer.Observer.{Observer}
use Rattle.point_map.proofs.Places.{same_point_eq, same_point_self}
use Rattle.point_map.specs.Rows.{Rows, at, same_point}
use Rattle.stabilize_round.proofs.Points.{node_or_other, same_or_other}
use Rattle.stabilizer.specs.Between.{GainsLink, GainsNothing, IsMadeStale, LosesLink}
use Rattle.stabilizer.specs.Kept.{graph_in}
use Rattle.stabilizer.specs.Look.{last_of}
use Rattle.stabilizer.specs.Round.{IsReady}
use Rattle.stabilizer.specs.declared.parts.Parts.{Parts}
use Rattle.wiring.specs.Graph.{rowless}
use Rattle.wiring.specs.Wiring.{IsMarked}
use Rattle.wiring.specs.declared.refused.Refused.{Refused}
use Rattle.graph.specs.Effects.{KeepsAll, KeepsNeed, MakesStale, Relists}
use Rattle.graph.specs.Inside.{FitsInside}
use Rattle.graph.specs.Standing.{GraphView, listed_by}
use Rattle.graph.proofs.Freezes.{freezes_as, kept_as}
use Rattle.graph.proofs.Seeing.{beside_as, built_still, seen_as}
use Rattle.graph.proofs.Sound.{sound_still}
use Rattle.graph.proofs.Unobserving.{at_or_past}

-- ---- lists

differs_from : (a b : NodeId) → (a ≡ b → ⊥) → same_point (point_of a) (point_of b) ≡ false
differs_from a b d = false_from_ne_true (same_point (point_of a) (point_of b))
    (λ t. d (ap (λ (p : Point). p.node) (same_point_eq (point_of a) (point_of b) t)))

equals : (a b : NodeId) → a ≡ b → same_point (point_of a) (point_of b) ≡ true
equals a b same = subst (λ (m : NodeId). same_point (point_of m) (point_of b) ≡ true) (sym same) (same_point_self (point_of b))

first_here : (n kid : NodeId) (kids : List NodeId) → kid ≡ n → without_first n (kid ∷ kids) ≡ kids
first_here n kid kids same = cond-true (same_point (point_of kid) (point_of n)) kids (kid ∷ without_first n kids) (equals kid n same)

first_later : (n kid : NodeId) (kids : List NodeId) → (kid ≡ n → ⊥) → without_first n (kid ∷ kids) ≡ kid ∷ without_first n kids
first_later n kid kids d = cond-false (same_point (point_of kid) (point_of n)) kids (kid ∷ without_first n kids) (differs_from kid n d)

among_tail : (n kid : NodeId) (kids : List NodeId) → (kid ≡ n → ⊥) → Among n (kid ∷ kids) → Among n kids
among_tail n kid kids d (inl e) = absurd (d (sym e))
among_tail n kid kids d (inr h) = h

-- the first place is in the first part of a list, or else in the rest
first_in : (n : NodeId) (xs ys : List NodeId) → Among n xs → without_first n (xs ++ ys) ≡ without_first n xs ++ ys
first_in n [] ys among = absurd among
first_in n (x ∷ xs) ys among = elim (node_or_other x n) [
  | inl e ↦ first_here n x (xs ++ ys) e ∙ sym (ap (λ (l : List NodeId). l ++ ys) (first_here n x xs e))
  | inr d ↦ first_later n x (xs ++ ys) d ∙ (ap (λ (l : List NodeId). x ∷ l) (first_in n xs ys (among_tail n x xs d among))
      ∙ sym (ap (λ (l : List NodeId). l ++ ys) (first_later n x xs d)))
]

first_behind : (n : NodeId) (xs ys : List NodeId) → (Among n xs → ⊥) → without_first n (xs ++ ys) ≡ xs ++ without_first n ys
first_behind n [] ys out = refl
first_behind n (x ∷ xs) ys out = first_later n x (xs ++ ys) (λ e. out (inl (sym e)))
    ∙ ap (λ (l : List NodeId). x ∷ l) (first_behind n xs ys (λ h. out (inr h)))

linked_kids : (kid : NodeId) (e : Expert) → kids_of_expert (with_link kid e) ≡ kids_of_expert e ++ kid ∷ []
linked_kids kid e = sym (append_assoc e.taken e.fresh (kid ∷ []))

unlinked_kids : (kid : NodeId) (taken : Bool) (e : Expert) → (taken ≡ true → Among kid e.taken) → (Among kid e.taken → taken ≡ true)
    → kids_of_expert (without_link kid taken e) ≡ without_first kid (kids_of_expert e)
unlinked_kids kid true e there back = sym (first_in kid e.taken e.fresh (there refl))
unlinked_kids kid false e there back = sym (first_behind kid e.taken e.fresh (λ h. let c : false ≡ true = back h in absurd (cc)))

unlinked_mark : (kid : NodeId) (taken : Bool) (e : Expert) → (without_link kid taken e).stale ≡ e.stale
unlinked_mark kid true e = refl
unlinked_mark kid false e = refl

-- ---- numbers that are told by what they can't be

at_most : (a b : ℕ) → (b < a → ⊥) → a ≤ b
at_most a b h = elim (at_or_past b a) [ inl past ↦ absurd (h past) | inr le ↦ le ]

-- ---- over parts

module _ (M : Meaning) (old new : Parts) (observers : List Observer) (rooted since : ℕ)
    (refused : Option Refused) (sound : FitsInside M old observers rooted since refused) where
  -- where rows and roots stay
  pub sound_listed : refused ≡ None → (IsReady M old → IsReady M new)
      → ((p : Point) → root_times new.work.graph.roots p ≡ root_times old.work.graph.roots p)
      → new.arena ≡ old.arena → new.work.rows ≡ old.work.rows → FitsInside M new observers rooted since refused
  sound_listed still ready roots arena rows =
      let given = ap (λ (a : Arena). a.given) arena in
      sound_still M old new observers rooted since refused sound still ready roots
      (freezes_as (graph_in old) (graph_in new) since (λ n early. ap (λ (a : Arena). row_at a n) arena) (λ n early. kept_as old new rows n))
      (omega (arith, given)) (λ n given. ap (λ (m : Rows Progress). at m (main n)) rows)

-- what all these calls keep
module _ {F : Type 0} (functions : F) (old new : Parts) (observers : ObserversView) (rooted since : ℕ) (refused : Option Refused) where
  abbrev before : GraphView F
  before = seen_as functions old observers rooted since refused

  abbrev after : GraphView F
  after = seen_as functions new observers rooted since refused

  module _ (expert : NodeId) (e : Expert) (changes : ExpertChanges old.work.experts new.work.experts expert (Some e)) where
    list_of : (kids : List NodeId) → kids_of_expert e ≡ kids → listed_by after expert ≡ kids
    list_of kids is = ap (λ (x : Option Expert). kids_of_expert (expert_in x)) changes.changed ∙ is

    other_lists : (n : NodeId) → n ≢ expert → listed_by after n ≡ listed_by before n
    other_lists n other = ap (λ (x : Option Expert). kids_of_expert (expert_in x)) (changes.others n other)

    same_marks : e.stale ≡ is_stale_at old.work.experts expert → (n : NodeId) → is_stale_at new.work.experts n ≡ is_stale_at old.work.experts n
    same_marks is n = elim (node_or_other n expert) [
      | inl h ↦ subst (λ (m : NodeId). is_stale_at new.work.experts m ≡ is_stale_at old.work.experts m) (sym h)
          (ap (λ (x : Option Expert). (expert_in x).stale) changes.changed ∙ is)
      | inr other ↦ ap (λ (x : Option Expert). (expert_in x).stale) (changes.others n other)
    ]

    same_lists : kids_of_expert e ≡ kids_at old.work.experts expert → (n : NodeId) → listed_by after n ≡ listed_by before n
    same_lists is n = elim (node_or_other n expert) [
      | inl h ↦ subst (λ (m : NodeId). listed_by after m ≡ listed_by before m) (sym h) (list_of (kids_at old.work.experts expert) is)
      | inr other ↦ other_lists n other
    ]

    -- where arena, rows, right sides and calls stay
    module _ (arena : new.arena ≡ old.arena) (rows : new.work.rows ≡ old.work.rows) (right_sides : new.work.roots ≡ old.work.roots)
        (ran : new.ran.items ≡ old.ran.items) where
      built_same : (n : NodeId) → (graph_in new).built n ≡ (graph_in old).built n
      built_same n = built_still old new n (ap (λ (a : Arena). row_at a n) arena) (ap (λ (m : Rows Progress). outcome_in (at m (change n))) rows)
          (ap (λ (m : Rows NodeId). at m (change n)) right_sides)

      pub relists : (kids : List NodeId) → kids_of_expert e ≡ kids → e.stale ≡ is_stale_at old.work.experts expert
          → ((p q : Point) → times new.work.graph.links p q ≤ times old.work.graph.links p q)
          → ((p : Point) → root_times new.work.graph.roots p ≡ root_times old.work.graph.roots p) → Relists before after expert kids
      relists kids is mark links roots = record {
        listed = list_of kids is;
        others = other_lists;
        top = record { functions = refl; rooted = refl; since = refl; refused = refl; ran = ran; notices = refl };
        nodes = arena;
        observers = refl;
        shown = λ n. ap (λ (m : Rows Progress). seen m (main n)) rows;
        chosen = λ n. ap (λ (m : Rows Progress). outcome_in (at m (change n))) rows;
        built = built_same;
        last = λ n. ap (λ (m : Rows Progress). last_of (at m (main n))) rows;
        frozen = kept_as old new rows;
        marks = same_marks mark;
        cutoff = λ n. ap (λ (m : Rows Progress). cutoff_in (at m (main n))) rows;
        fewer_links = links;
        roots = roots;
      }

      pub makes_stale : kids_of_expert e ≡ kids_at old.work.experts expert → e.stale ≡ true
          → ((p q : Point) → times new.work.graph.links p q ≡ times old.work.graph.links p q)
          → ((p : Point) → root_times new.work.graph.roots p ≡ root_times old.work.graph.roots p) → MakesStale before after expert
      makes_stale kids mark links roots = record {
        marked = ap (λ (x : Option Expert). (expert_in x).stale) changes.changed ∙ mark;
        others = λ n other. ap (λ (x : Option Expert). (expert_in x).stale) (changes.others n other);
        lists = same_lists kids;
        top = record { functions = refl; rooted = refl; since = refl; refused = refl; ran = ran; notices = refl };
        nodes = arena;
        observers = refl;
        need = record { links = links; roots = roots };
        shown = λ n. ap (λ (m : Rows Progress). seen m (main n)) rows;
        chosen = λ n. ap (λ (m : Rows Progress). outcome_in (at m (change n))) rows;
        built = built_same;
        last = λ n. ap (λ (m : Rows Progress). last_of (at m (main n))) rows;
        frozen = kept_as old new rows;
        cutoff = λ n. ap (λ (m : Rows Progress). cutoff_in (at m (main n))) rows;
      }

-- ---- of each call

-- a marked point leaves links and roots
marked_links : (old new : NecessaryPart) (a : Point) → IsMarked old new a → (p q : Point) → times new.links p q ≡ times old.links p q
marked_links old new a marked p q = ap (λ (l : Links). times l p q) marked.graph.links

marked_roots : (old new : NecessaryPart) (a : Point) → IsMarked old new a → (p : Point) → root_times new.roots p ≡ root_times old.roots p
marked_roots old new a marked p = ap (λ (r : Roots). root_times r p) marked.graph.roots

-- a link that comes off leaves roots, and no more links
module _ (leaf : Point → Bool) (old new : NecessaryPart) (a b : Point) (off : IsUnlinked leaf old new a b) where
  fewer_off : (p q : Point) → times off.links p q ≤ times old.links p q
  fewer_off p q = elim (same_or_other p a) [
    | inl same ↦ elim (same_or_other q b) [
      | inl here ↦ subst (λ (x : Point). times off.links p x ≤ times old.links p x) (sym here)
          (subst (λ (x : Point). times off.links x b ≤ times old.links x b) (sym same) (let r = off.off.raised in omega (arith, r)))
      | inr other ↦ (let r = off.off.others p q (λ e. other (ap (λ (l : Link). l.kid) e)) in omega (arith, r))
    ]
    | inr other ↦ (let r = off.off.others p q (λ e. other (ap (λ (l : Link). l.reader) e)) in omega (arith, r))
  ]

  pub fewer_unlinked : (p q : Point) → times new.links p q ≤ times old.links p q
  fewer_unlinked p q = let f = off.sweep.fewer p q in let o = fewer_off p q in omega (arith, f, o)

module _ (old new : Parts) (expert kid : NodeId) (loses : LosesLink old new expert kid) where
  abbrev was : NecessaryPart
  was = old.work.graph

  abbrev middle : NecessaryPart
  middle = loses.middle

  -- either it came off, or nothing changed
  by_need : {P : Type 0} → (IsUnlinked (rowless old.work) was middle (main expert) (main kid) → P → ⊥) → (middle ≡ was → P → ⊥) → P → ⊥
  by_need off same p = elim (by_taken loses.taken refl) [
    | inl taken ↦ same (loses.untouched (inr (λ need. off (loses.unlinked taken need) p))) p
    | inr fresh ↦ same (loses.untouched (inl fresh)) p
  ]
    where
      by_taken : (b : Bool) → loses.taken ≡ b → (loses.taken ≡ true) ⊎ (loses.taken ≡ false)
      by_taken true is = inl is
      by_taken false is = inr is

  lost_links : (p q : Point) → times middle.links p q ≤ times was.links p q
  lost_links p q = at_most (times middle.links p q) (times was.links p q) (by_need
      (λ off more. let f = fewer_unlinked (rowless old.work) was middle (main expert) (main kid) off p q in absurd (omega (arith, f, more)))
      (λ same more. let e = ap (λ (g : NecessaryPart). times g.links p q) same in absurd (omega (arith, e, more))))

  lost_roots : (p : Point) → root_times middle.roots p ≡ root_times was.roots p
  lost_roots p =
      let less = at_most (root_times middle.roots p) (root_times was.roots p) (by_need
      (λ off more. let e = off.sweep.roots p in absurd (omega (arith, e, more)))
      (λ same more. let e = ap (λ (g : NecessaryPart). root_times g.roots p) same in absurd (omega (arith, e, more)))) in
      let more = at_most (root_times was.roots p) (root_times middle.roots p) (by_need
      (λ off more. let e = off.sweep.roots p in absurd (omega (arith, e, more)))
      (λ same more. let e = ap (λ (g : NecessaryPart). root_times g.roots p) same in absurd (omega (arith, e, more)))) in
      omega (arith, less, more)

  pub unlinked_links : (p q : Point) → times new.work.graph.links p q ≤ times old.work.graph.links p q
  unlinked_links p q =
      let m = marked_links middle new.work.graph (main expert) loses.marked p q in
      let l = lost_links p q in omega (arith, m, l)

  pub unlinked_roots : (p : Point) → root_times new.work.graph.roots p ≡ root_times old.work.graph.roots p
  unlinked_roots p = marked_roots middle new.work.graph (main expert) loses.marked p ∙ lost_roots p

module _ {F : Type 0} (functions : F) (old new : Parts) (observers : ObserversView) (rooted since : ℕ) (refused : Option Refused)
    (expert kid : NodeId) where
  abbrev s : GraphView F
  s = seen_as functions old observers rooted since refused

  abbrev t : GraphView F
  t = seen_as functions new observers rooted since refused

  pub gains_link : GainsLink old new expert kid → Relists s t expert (listed_by s expert ++ kid ∷ []) × KeepsNeed s t
  gains_link g = (
    relists functions old new observers rooted since refused expert (with_link kid (expert_of old.work.experts expert)) g.experts
        (ap (λ (p : Parts). p.arena) g.rest) (ap (λ (p : Parts). p.work.rows) g.rest) (ap (λ (p : Parts). p.work.roots) g.rest)
        (ap (λ (p : Parts). p.ran.items) g.rest) (kids_at old.work.experts expert ++ kid ∷ []) (linked_kids kid (expert_of old.work.experts expert)) refl
        (λ p q. (let l = marked_links old.work.graph new.work.graph (main expert) g.marked p q in omega (arith, l)))
        (marked_roots old.work.graph new.work.graph (main expert) g.marked),
    record {
      links = marked_links old.work.graph new.work.graph (main expert) g.marked;
      roots = marked_roots old.work.graph new.work.graph (main expert) g.marked;
    },
  )

  pub loses_link : LosesLink old new expert kid → Relists s t expert (without_first kid (listed_by s expert))
  loses_link g = relists functions old new observers rooted since refused expert (without_link kid g.taken (expert_of old.work.experts expert)) g.experts
      (ap (λ (p : Parts). p.arena) g.rest) (ap (λ (p : Parts). p.work.rows) g.rest) (ap (λ (p : Parts). p.work.roots) g.rest)
      (ap (λ (p : Parts). p.ran.items) g.rest) (without_first kid (kids_at old.work.experts expert))
      (unlinked_kids kid g.taken (expert_of old.work.experts expert) g.was_taken.0 g.was_taken.1)
      (unlinked_mark kid g.taken (expert_of old.work.experts expert)) (unlinked_links old new expert kid g) (unlinked_roots old new expert kid g)

  pub is_made_stale : IsMadeStale old new expert → MakesStale s t expert
  is_made_stale g = makes_stale functions old new observers rooted since refused expert (marked_so true (expert_of old.work.experts expert)) g.experts
      (ap (λ (p : Parts). p.arena) g.rest) (ap (λ (p : Parts). p.work.rows) g.rest) (ap (λ (p : Parts). p.work.roots) g.rest)
      (ap (λ (p : Parts). p.ran.items) g.rest) refl refl (marked_links old.work.graph new.work.graph (main expert) g.marked)
      (marked_roots old.work.graph new.work.graph (main expert) g.marked)

  pub gains_nothing : GainsNothing old new → KeepsAll s t
  gains_nothing g = record {
    beside = beside_as functions old new observers rooted since refused (Given old.arena.given) (ap (λ (p : Parts). p.ran.items) g.rest)
        (ap (λ (p : Parts). p.work.graph.links) g.rest) (ap (λ (p : Parts). p.work.graph.roots) g.rest)
        (λ p given. ap (λ (q : Parts). at q.work.rows p) g.rest) (λ n given. ap (λ (q : Parts). (graph_in q).built n) g.rest)
        (λ n given. g.experts n) (λ n. inl (ap (λ (q : Parts). cutoff_in (at q.work.rows (main n))) g.rest));
    nodes = ap (λ (p : Parts). p.arena) g.rest;
  }

-- ---- what every graph keeps

module _ (M : Meaning) (old new : Parts) (observers : List Observer) (rooted since : ℕ)
    (refused : Option Refused) (sound : FitsInside M old observers rooted since refused) (still : refused ≡ None) (expert kid : NodeId) where
  pub sound_linked : {T E : Type 0} (r : Result T E) → OnOk r (GainsLink old new expert kid) → OnErr r (GainsNothing old new)
      → FitsInside M new observers rooted since refused
  sound_linked (Ok u) g err = sound_listed M old new observers rooted since refused sound still (g.ready M)
      (marked_roots old.work.graph new.work.graph (main expert) g.marked) (ap (λ (p : Parts). p.arena) g.rest)
      (ap (λ (p : Parts). p.work.rows) g.rest)
  sound_linked (Err e) g err = sound_listed M old new observers rooted since refused sound still (err.ready M)
      (λ p. ap (λ (q : Parts). root_times q.work.graph.roots p) err.rest) (ap (λ (p : Parts). p.arena) err.rest)
      (ap (λ (p : Parts). p.work.rows) err.rest)

  pub sound_unlinked : {T E : Type 0} (r : Result T E) → OnOk r (LosesLink old new expert kid) → OnErr r (new ≡ old)
      → FitsInside M new observers rooted since refused
  sound_unlinked (Ok u) g err = sound_listed M old new observers rooted since refused sound still (g.ready M)
      (unlinked_roots old new expert kid g) (ap (λ (p : Parts). p.arena) g.rest) (ap (λ (p : Parts). p.work.rows) g.rest)
  sound_unlinked (Err e) g err = subst (λ (p : Parts). FitsInside M p observers rooted since refused) (sym err) sound

  pub sound_stale : IsMadeStale old new expert → FitsInside M new observers rooted since refused
  sound_stale g = sound_listed M old new observers rooted since refused sound still (g.ready M)
      (marked_roots old.work.graph new.work.graph (main expert) g.marked) (ap (λ (p : Parts). p.arena) g.rest)
      (ap (λ (p : Parts). p.work.rows) g.rest)

-- the nodes stay
pub arena_linked : {T E : Type 0} (old new : Parts) (expert kid : NodeId) (r : Result T E) → OnOk r (GainsLink old new expert kid)
    → OnErr r (GainsNothing old new) → new.arena ≡ old.arena
arena_linked old new expert kid (Ok u) g err = ap (λ (p : Parts). p.arena) g.rest
arena_linked old new expert kid (Err e) g err = ap (λ (p : Parts). p.arena) err.rest

pub arena_unlinked : {T E : Type 0} (old new : Parts) (expert kid : NodeId) (r : Result T E) → OnOk r (LosesLink old new expert kid)
    → OnErr r (new ≡ old) → new.arena ≡ old.arena
arena_unlinked old new expert kid (Ok u) g err = ap (λ (p : Parts). p.arena) g.rest
arena_unlinked old new expert kid (Err e) g err = ap (λ (p : Parts). p.arena) err

-- what a refusal says
pub on_err : {T E : Type 0} {A B : Type 0} (r : Result T E) → (A → B) → OnErr r A → OnErr r B
on_err (Ok v) f a = a
on_err (Err e) f a = f a
