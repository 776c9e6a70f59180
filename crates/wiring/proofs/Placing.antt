-- The rows and places of a node's points, and the nodes of two points that are listed.
use Rattle.std.proofs.Common.{◌≡◌, ◌≢◌, ◌⊎◌, inl, inr, ◌++◌, List, [], ◌∷◌, Option, None, Some, refl, sym, ap, subst, ◌∙◌}
use Rattle.std.specs.Prelude.{is_some, IsSome, option_map}
use Rattle.std.proofs.lemmas.Option.{none-some}
use Rattle.inc_value.specs.declared.node.NodeId.{NodeId}
use Rattle.inc_value.specs.declared.node.Part.{Part}
use Rattle.inc_value.specs.declared.node.Part.TheVariants.{Main, Change}
use Rattle.inc_value.specs.declared.node.Point.{Point}
use Rattle.inc_value.specs.Choice.{Among}
use Rattle.expert_nodes.specs.Experts.{ExpertPlace}
use Rattle.inc_terms.specs.Depend.{main, change, subject_of}
use Rattle.inc_terms.specs.Graph as graph
use Rattle.inc_terms.specs.Graph.{Row, Def}
use Rattle.point_map.specs.Rows.{Rows, at, Changes, KeepsRows}
use Rattle.point_map.proofs.Places.{point_cases}
use Rattle.node_arena.specs.Arena.{Arena, IsLive}
use Rattle.node_lists.specs.Listed.{Listed}
use Rattle.node_outcomes.specs.Computing.{has_part}
use Rattle.stabilize_round.proofs.Points.{node_or_other}
use Rattle.wiring.specs.Experts.{ExpertIsAdded}
use Rattle.wiring.specs.Places.{ChangesNode, for_parts, pairs_after}
use Rattle.wiring.specs.Wiring.{GraphStays}
use Rattle.wiring.specs.declared.work.Work.{Work}

point : NodeId → Part → Point
point n part = record { node = n; part = part }

-- a point is its node's, of its part
pub at_node : {A : Type 0} (m : Rows A) (p : Point) (n : NodeId) → p.node ≡ n → at m p ≡ at m (record { node = n; part = p.part })
unfolding point
at_node m p n e = ap (λ (x : NodeId). at m (point x p.part)) e

pub change_other : (n m : NodeId) → change n ≢ main m
change_other n m e = absurd (let part = ap (λ (x : Point). x.part) e in cc)

-- ---- what a node of a definition has

-- just the points that it has are there
pub has_parts : {A : Type 0} (r : Row) (f : Part → A) (part : Part) → is_some (for_parts r.def f part) ≡ has_part (Some r) part
has_parts r f Main = refl
has_parts r f Change = mapped (subject_of r.def)
  where
    mapped : (x : Option NodeId) → is_some (option_map (λ m. f Change) x) ≡ is_some x
    mapped None = refl
    mapped (Some m) = refl

-- each has this row
pub one_for_all : {A : Type 0} (def : Def) (a b : A) (part : Part) → for_parts def (λ x. a) part ≡ Some b → a ≡ b
one_for_all def a b Main e = cc
one_for_all def a b Change e = mapped (subject_of def) e
  where
    mapped : (x : Option NodeId) → option_map (λ m. a) x ≡ Some b → a ≡ b
    mapped None h = absurd (none-some b h)
    mapped (Some m) h = cc

-- ---- rows changed

-- a node without a subject has one point
pub one_point : {A : Type 0} (old new : Rows A) (n : NodeId) (def : Def) (a : A) → subject_of def ≡ None → Changes old new (main n) (Some a)
    → at old (change n) ≡ None → ChangesNode old new n (for_parts def (λ part. a))
one_point old new n def a e c none = record { now = now; others = λ p ne. c.others p (λ is. ne (ap (λ (x : Point). x.node) is)) }
  where
    now : (part : Part) → at new (record { node = n; part = part }) ≡ for_parts def (λ x. a) part
    now Main = c.changed
    now Change = c.others (change n) (change_other n n) ∙ (none ∙ sym (ap (option_map (λ m. a)) e))

-- one with a subject has two
pub two_points : {A : Type 0} (old new : Rows A) (n m : NodeId) (def : Def) (rows : Part → A) → subject_of def ≡ Some m
    → ChangesNode old new n (λ part. Some (rows part)) → ChangesNode old new n (for_parts def rows)
two_points old new n m def rows e c = record { now = now; others = c.others }
  where
    now : (part : Part) → at new (record { node = n; part = part }) ≡ for_parts def rows part
    now Main = c.now Main
    now Change = c.now Change ∙ sym (ap (option_map (λ x. rows Change)) e)

-- a row that comes and goes again
pub on_and_off : {A : Type 0} (old mid back new : Rows A) (p p1 p2 : Point) (row : Option A) → p1 ≡ p → p2 ≡ p → at old p ≡ None
    → Changes old mid p1 row → KeepsRows mid back → Changes back new p2 None → KeepsRows old new
on_and_off old mid back new p p1 p2 row e1 e2 absent on kept off q = elim (point_cases q p) [
  | inl same ↦ ap (at new) (same ∙ sym e2) ∙ off.changed ∙ sym absent ∙ ap (at old) (sym same)
  | inr differs ↦ off.others q (λ e. differs (e ∙ e2)) ∙ kept q ∙ on.others q (λ e. differs (e ∙ e1))
]

-- one for the main, one for the change
abbrev pub by_part : {A : Type 0} → A → A → Part → A
by_part a b Main = a
by_part a b Change = b

pub both_points : {A : Type 0} (old mid new : Rows A) (n : NodeId) (a b : A) → Changes old mid (change n) (Some b) → Changes mid new (main n) (Some a)
    → ChangesNode old new n (λ part. Some (by_part a b part))
both_points old mid new n a b first then = record {
  now = now;
  others = λ p ne. then.others p (λ is. ne (ap (λ (x : Point). x.node) is)) ∙ first.others p (λ is. ne (ap (λ (x : Point). x.node) is));
}
  where
    now : (part : Part) → at new (record { node = n; part = part }) ≡ Some (by_part a b part)
    now Main = then.changed
    now Change = then.others (change n) (change_other n n) ∙ first.changed

-- one row for both
pub both_rows : {A : Type 0} (old mid new : Rows A) (n : NodeId) (a : A) → Changes old mid (change n) (Some a) → Changes mid new (main n) (Some a)
    → ChangesNode old new n (λ part. Some a)
both_rows old mid new n a first then =
    let both = both_points old mid new n a a first then in
    record { now = λ part. both.now part ∙ ap Some (same part); others = both.others }
  where
    same : (part : Part) → by_part a a part ≡ a
    same Main = refl
    same Change = refl

-- what came and went leaves all
pub came_and_went : {R : Type 0} (old mid new : Rows R) (n : NodeId) (rows : Part → Option R) → ((p : Point) → p.node ≡ n → at old p ≡ None)
    → ChangesNode old mid n rows → ChangesNode mid new n (λ part. None) → (q : Point) → at new q ≡ at old q
came_and_went old mid new n rows none came went q = elim (node_or_other q.node n) [
  | inl is ↦ at_node new q n is ∙ (went.now q.part ∙ sym (none q is))
  | inr ne ↦ went.others q ne ∙ came.others q ne
]

-- ---- nodes of two points

pub among_before : {A : Type 0} (a b : A) (xs : List A) → Among a xs → Among a (xs ++ b ∷ [])
among_before a b [] h = absurd h
among_before a b (x ∷ xs) (inl e) = inl e
among_before a b (x ∷ xs) (inr h) = inr (among_before a b xs h)

pub among_last : {A : Type 0} (a : A) (xs : List A) → Among a (xs ++ a ∷ [])
among_last a [] = inl refl
among_last a (x ∷ xs) = inr (among_last a xs)

pub among_cases : {A : Type 0} (a b : A) (xs : List A) → Among a (xs ++ b ∷ []) → Among a xs ⊎ (a ≡ b)
among_cases a b [] (inl e) = inr e
among_cases a b [] (inr none) = absurd none
among_cases a b (x ∷ xs) (inl e) = inl (inl e)
among_cases a b (x ∷ xs) (inr h) = elim (among_cases a b xs h) [ inl k ↦ inl (inr k) | inr e ↦ inr e ]

-- a new node of two points is listed, and live ones still are
pub listed_pair : (x : Option NodeId) (m : NodeId) (old new : List NodeId) (a : Arena) (node : NodeId) → x ≡ Some m
    → Among node new × ((n : NodeId) → IsLive a n → Among n old → Among n new)
    → (n : NodeId) → IsLive a n ⊎ (n ≡ node) → Among n (pairs_after x old node) → Among n new
listed_pair x m old new a node e so n who among =
    let after : Among n (old ++ node ∷ []) = subst (λ (y : Option NodeId). Among n (pairs_after y old node)) e among in
    elim (among_cases n node old after) [
      | inr is ↦ subst (λ (k : NodeId). Among k new) (sym is) so.0
      | inl before ↦ elim who [ inl live ↦ so.1 n live before | inr is ↦ subst (λ (k : NodeId). Among k new) (sym is) so.0 ]
    ]

-- one of one point isn't
pub listed_alone : (x : Option NodeId) (old : List NodeId) (node n : NodeId) → x ≡ None → Among n (pairs_after x old node) → Among n old
listed_alone x old node n e among = subst (λ (y : Option NodeId). Among n (pairs_after y old node)) e among

pub pair_stays : (x : Option NodeId) (pairs : List NodeId) (n m : NodeId) → Among m pairs → Among m (pairs_after x pairs n)
pair_stays None pairs n m a = a
pair_stays (Some s) pairs n m a = among_before m n pairs a

pub pair_listed : (x : Option NodeId) (pairs : List NodeId) (n : NodeId) → IsSome x → Among n (pairs_after x pairs n)
pair_listed None pairs n some = absurd (cc)
pair_listed (Some s) pairs n some = among_last n pairs

-- ---- points dropped

-- both points of a node went
pub both_gone : {A : Type 0} (old mid new : Rows A) (n : NodeId) → Changes old mid (main n) None → Changes mid new (change n) None
    → ChangesNode old new n (λ part. None)
both_gone old mid new n first then = record {
  now = now;
  others = λ p ne. then.others p (λ is. ne (ap (λ (x : Point). x.node) is)) ∙ first.others p (λ is. ne (ap (λ (x : Point). x.node) is));
}
  where
    now : (part : Part) → at new (record { node = n; part = part }) ≡ None
    now Main = then.others (main n) (λ e. change_other n n (sym e)) ∙ first.changed
    now Change = then.changed

-- the one point of a node went
pub one_gone : {A : Type 0} (old new : Rows A) (n : NodeId) → Changes old new (main n) None → at new (change n) ≡ None
    → ChangesNode old new n (λ part. None)
one_gone old new n c none = record { now = now; others = λ p ne. c.others p (λ is. ne (ap (λ (x : Point). x.node) is)) }
  where
    now : (part : Part) → at new (record { node = n; part = part }) ≡ None
    now Main = c.changed
    now Change = none

-- a change stays where the main goes, or comes
pub change_still : {A : Type 0} (old new : Rows A) (n : NodeId) (row : Option A) → Changes old new (main n) row → at new (change n) ≡ at old (change n)
change_still old new n row c = c.others (change n) (change_other n n)

-- ---- what stays where points come and go

pub stays_twice : (old mid new : Work) → GraphStays old mid → GraphStays mid new → GraphStays old new
stays_twice old mid new a b = record {
  links = b.links ∙ a.links;
  roots = b.roots ∙ a.roots;
  heap = λ p. b.heap p ∙ a.heap p;
  step = b.step;
  todo = b.todo ∙ a.todo;
  round = record {
    roots = b.round.roots ∙ a.round.roots;
    deaths = b.round.deaths ∙ a.round.deaths;
    ran = b.round.ran ∙ a.round.ran;
    retries = b.round.retries ∙ a.round.retries;
    round = b.round.round ∙ a.round.round;
    experts = refl;
  };
}

pub stays_after : (old new : Work) (experts : List ExpertPlace) → GraphStays (record old { experts = experts }) new → GraphStays old new
stays_after old new experts a = record {
  links = a.links;
  roots = a.roots;
  heap = a.heap;
  step = a.step;
  todo = a.todo;
  round = record {
    roots = a.round.roots;
    deaths = a.round.deaths;
    ran = a.round.ran;
    retries = a.round.retries;
    round = a.round.round;
    experts = refl;
  };
}

-- a node of two points is no expert
pub no_expert_added : (def : Def) (old new : List ExpertPlace) (n m : NodeId) → subject_of def ≡ Some m → new ≡ old → ExpertIsAdded def old new n
no_expert_added (graph.Expert f v ns) old new n m two same = absurd (none-some m two)
no_expert_added _ old new n m two same = same

-- which nodes are listed is no part of it
pub stays_listed : (old new : Work) (pairs scoped : Listed) → GraphStays (record old { pairs = pairs; scoped = scoped }) new → GraphStays old new
stays_listed old new pairs scoped a = record {
  links = a.links;
  roots = a.roots;
  heap = a.heap;
  step = a.step;
  todo = a.todo;
  round = record {
    roots = a.round.roots;
    deaths = a.round.deaths;
    ran = a.round.ran;
    retries = a.round.retries;
    round = a.round.round;
    experts = refl;
  };
}

pub stays_then_listed : (old new : Work) (pairs scoped : Listed) → GraphStays old new → GraphStays old (record new { pairs = pairs; scoped = scoped })
stays_then_listed old new pairs scoped a = record {
  links = a.links;
  roots = a.roots;
  heap = a.heap;
  step = a.step;
  todo = a.todo;
  round = record {
    roots = a.round.roots;
    deaths = a.round.deaths;
    ran = a.round.ran;
    retries = a.round.retries;
    round = a.round.round;
    experts = refl;
  };
}
