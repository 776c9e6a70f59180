-- Outcomes that are right place by place are right.
use Rattle.std.proofs.Common.{◌≡◌, inl, inr, ℕ, suc, ◌+◌, List, [], ◌∷◌, map, Option, None, Some, true, false, refl, sym, ◌∙◌, arith}
use Rattle.std.specs.Int.Signed.{le_z}
use Rattle.inc_value.specs.declared.function.FnRef.{FnRef}
use Rattle.inc_value.specs.declared.node.NodeId.{NodeId}
use Rattle.inc_value.specs.declared.node.Part.{Part}
use Rattle.inc_value.specs.declared.node.Part.TheVariants.{Change, Main}
use Rattle.inc_value.specs.declared.node.Point.{Point}
use Rattle.inc_value.specs.declared.outcome.Outcome.{Outcome}
use Rattle.inc_value.specs.declared.outcome.Outcome.TheVariants.{Val, Invalid}
use Rattle.inc_value.specs.declared.value.Value.{Value}
use Rattle.inc_value.specs.declared.value.Value.TheVariants as value
use Rattle.inc_value.specs.Choice.{Among, Reaches, here, step}
use Rattle.inc_terms.specs.Term.{Term, Const, Ref, Map, Fold, If, Join, Bind, At, Steps, Now, Functions, refs, put}
use Rattle.inc_terms.specs.Graph as graph
use Rattle.inc_terms.specs.Graph.{Graph, Row, Built, Def, present, present_def, frozen_or}
use Rattle.inc_terms.specs.Evaluate.{Query, Of, Around, given, gathered, folded, with_value, chosen, branch, named}
use Rattle.inc_terms.specs.Evaluate.{latest, level, answer, Gives, NodeGives, Stands}
use Rattle.inc_terms.specs.Depend.{Depends, gate, ghost, fixed, right, main, change, subject_of, kids_of, root_for, right_of, none_died}
use Rattle.inc_terms.specs.Local.{shown, by_sight, see_right, frozen_or_seen, own, IsRooted, PartAgrees, Agrees, Scoped}
use Rattle.inc_terms.specs.Local.{ends, Sees, HasRun, PartExact, Exact, LocalGives}
use Rattle.inc_terms.specs.Need.{Needed}
use Rattle.inc_terms.proofs.Evaluation.{at_depth}
use Rattle.inc_terms.proofs.Same.{outcome_decides}
use Rattle.inc_terms.proofs.Follows.{Follows, with_follows, After, GathersAfter, joined_after, lifted, given_after, chosen_stays}
use Rattle.inc_terms.proofs.Depending.{among_one}
use Rattle.inc_terms.proofs.Rebuild.{dead_gives}
use Rattle.inc_terms.proofs.Unfolding.{Any, any_value, scope_stands, unfolds_gives}

pub present_gives : (F : Functions) (G : Graph) (n : NodeId) (r : Row) (o : Outcome) → G.row n ≡ Some r → Stands F G r.scope
    → Gives F G (Of (present G n r)) o → NodeGives F G n o
unfolding answer
present_gives F G n r o row st h =
    let d : ℕ = st.0 + h.0 in
    let first = at_depth F G st.0 d (Around r.scope) (Val (value.Bool true)) (omega arith) st.1 in
    let second = at_depth F G h.0 d (Of (present G n r)) o (omega arith) h.1 in
    (suc d, rw (row, first, second) refl)

root_at : (w : Built) (o : Outcome) → w.outcome ≡ o → root_for (Some w) o ≡ w.root
root_at w o e = let is = (outcome_decides o w.outcome).1 (sym e) in rw is refl

module _ (F : Functions) (G : Graph) (out : Point → Option Outcome) where
  abbrev See : Point → Option Outcome
  See p = shown G out p

  abbrev Then : Query → Option Outcome → Type 0
  Then q a = After F G Any q a

  any_outcome : (f : ℕ → Option Outcome) (o : Outcome) (d : ℕ) → f d ≡ Some o → Follows Any f (Some o)
  any_outcome f (Val v) d e = ((d, e), any_value v)
  any_outcome f Invalid d e = ((d, e), tt)

  seen : (m : NodeId) → Sees F G out m → Then (Of (Ref m)) (See (main m))
  seen m s = rw s.1 (any_outcome (λ d. answer F G d (Of (Ref m))) s.0 s.2.0 s.2.1)

  abbrev AllSeen : List NodeId → Type 0
  AllSeen ns = (m : NodeId) → Among (main m) (map main ns) → Sees F G out m

  all_seen : (ns : List NodeId) → AllSeen ns → GathersAfter F G Any (refs ns) (gathered (by_sight See) (refs ns))
  all_seen [] h = ((0, refl), tt)
  all_seen (n ∷ ns) h = joined_after F G Any (Ref n) (refs ns) (See (main n)) _ (seen n (h n (inl refl))) (all_seen ns (λ m a. h m (inr a)))

  called : (f : List Value → Value) (ns : List NodeId) → AllSeen ns
      → Follows Any (λ d. given f (gathered (answer F G d) (refs ns))) (given f (gathered (by_sight See) (refs ns)))
  called f ns h = given_after F G Any f (λ vs hv. any_value (f vs)) (refs ns) _ (all_seen ns h)

  -- what a subject's value chooses is seen
  switched : (n t : NodeId) (c : Value → Option Term) (next : Value → Option Outcome) (o : Outcome) → See (change n) ≡ Some o → NodeGives F G t o
      → ((v : Value) → o ≡ Val v → Follows Any (λ d. chosen (answer F G d) (c v)) (next v))
      → Follows Any (λ d. with_value (answer F G d (Of (Ref t))) (λ v. chosen (answer F G d) (c v))) (with_value (See (change n)) next)
  switched n t c next o is gives h = rw is (with_follows Any (λ d. answer F G d (Of (Ref t))) (λ d v. chosen (answer F G d) (c v)) (Some o) next
      (λ d e p le g. at_depth F G d e (Of (Ref t)) p le g) (λ v. chosen_stays F G (c v))
      (any_outcome (λ d. answer F G d (Of (Ref t))) o gives.0 gives.1) (λ v hv e. h v (cc)))

  choice_if : (n x a b : NodeId) (v : Value) → ((m : NodeId) → right_of G n (graph.If x a b) (Val v) ≡ Some m → Sees F G out m)
      → Follows Any (λ d. chosen (answer F G d) (branch (Ref a) (Ref b) v)) (see_right See (right_of G n (graph.If x a b) (Val v)))
  choice_if n x a b (value.Bool true) h = seen a (h a refl)
  choice_if n x a b (value.Bool false) h = seen b (h b refl)
  choice_if n x a b (value.Int z) h = ((0, refl), tt)
  choice_if n x a b (value.Text z) h = ((0, refl), tt)
  choice_if n x a b (value.Node z y) h = ((0, refl), tt)

  choice_join : (n x : NodeId) (v : Value) → ((m : NodeId) → right_of G n (graph.Join x) (Val v) ≡ Some m → Sees F G out m)
      → Follows Any (λ d. chosen (answer F G d) (named v)) (see_right See (right_of G n (graph.Join x) (Val v)))
  choice_join n x (value.Node m y) h = seen m (h m refl)
  choice_join n x (value.Bool z) h = ((0, refl), tt)
  choice_join n x (value.Int z) h = ((0, refl), tt)
  choice_join n x (value.Text z) h = ((0, refl), tt)

  -- a bind's root, seen, is what its term gives
  choice_bind : (n : NodeId) (r : Row) (l : NodeId) (f : FnRef) (caps : List NodeId) (w : Built) (v : Value)
      → G.row n ≡ Some r → r.def ≡ graph.Bind l f caps → Stands F G r.scope
      → G.built n ≡ Some w → w.outcome ≡ Val v → NodeGives F G l (Val v) → IsRooted F G n f caps w
      → ((m : NodeId) → right_of G n (graph.Bind l f caps) (Val v) ≡ Some m → Sees F G out m)
      → Follows Any (λ d. chosen (answer F G d) (Some (put (refs caps) (F.term f v)))) (see_right See (right_of G n (graph.Bind l f caps) (Val v)))
  choice_bind n r l f caps w v row def st built is left rooted h =
      let root = rooted.unfolds v is in
      let at : root_for (G.built n) (Val v) ≡ Some root.0 = rw built (root_at w (Val v) is ∙ root.1) in
      let s = h root.0 at in
      let inside = scope_stands F G n r l f caps w row def st built (rw is left) in
      let body = unfolds_gives F G (Some n) caps inside root.0 (F.term f v) root.2 s.0 s.2 in
      rw (at, s.1) (any_outcome (λ d. answer F G d (Of (put (refs caps) (F.term f v)))) s.0 body.0 body.1)

  -- what is seen of a node whose main is exact
  pub main_sees : (n : NodeId) → Exact F G out (main n) → Sees F G out n
  main_sees n h = by_row (G.row n) refl
    where
      by_row : (x : Option Row) → G.row n ≡ x → Sees F G out n
      by_row None row = (Invalid, rw row refl, dead_gives F G n row)
      by_row (Some r) row = (h r row).1

  module _ (scoped : Scoped G) (p : Point) (agrees : Agrees F G out p) (below : (q : Point) → Depends F G none_died p q → Exact F G out q) where
    pub stands_at : (r : Row) → G.row p.node ≡ Some r → (s : Option NodeId) → r.scope ≡ s → Stands F G s
    unfolding answer
    stands_at r row None is = (1, refl)
    stands_at r row (Some b) is =
        let sc = scoped p.node r b row is in
        let c = below (change b) (gate row is refl) sc.0 sc.4 in
        let run : HasRun F G out b (graph.Bind sc.1 sc.2 sc.3) sc.1 = rw sc.5 at (c.1 sc.1 (rw sc.5 refl)) in
        let w = run.3 in
        let left : NodeGives F G sc.1 w.0.outcome = rw w.2 run.2 in
        scope_stands F G b sc.0 sc.1 sc.2 sc.3 w.0 sc.4 sc.5 c.0 w.1 left

    module _ (r : Row) (row : G.row p.node ≡ Some r) where
      stands : Stands F G r.scope
      stands = stands_at r row r.scope refl

      subject_seen : p.part ≡ Change → (s : NodeId) → subject_of r.def ≡ Some s → Sees F G out s
      subject_seen part s sub = main_sees s (below (main s) (fixed row stands (rw (part, sub) (inl refl))))

      module _ (part : p.part ≡ Main) where
        kid_seen : (def : Def) → r.def ≡ def → subject_of def ≡ None → AllSeen (kids_of G p.node def)
        kid_seen def is sub m among = main_sees m (below (main m) (fixed row stands (rw (part, is, sub) among)))

        own_run : (def : Def) (s : NodeId) → r.def ≡ def → subject_of def ≡ Some s → HasRun F G out p.node def s
        own_run def s is sub = rw is at ((below (change p.node) (fixed row stands (rw (part, is, sub) (inl refl))) r row).1 s (rw is sub))

        own_shown : (o : Outcome) → out (change p.node) ≡ Some o → See (change p.node) ≡ Some o
        own_shown o e = rw (row, e) refl

        right_seen : (def : Def) (s : NodeId) (v : Value) → r.def ≡ def → subject_of def ≡ Some s → NodeGives F G s (Val v)
            → (m : NodeId) → right_of G p.node def (Val v) ≡ Some m → Sees F G out m
        right_seen def s v is sub gives m at =
            let sub' : subject_of r.def ≡ Some s = rw is sub in
            let at' : right_of G p.node r.def (Val v) ≡ Some m = rw is at in
            main_sees m (below (main m) (right row stands part sub' gives (among_one _ m at') refl))

        const_seen : (v : Value) → Then (Of (Const v)) (Some (Val v))
        const_seen v = lifted F G Any (Of (Const v)) (Some (Val v)) ((0, refl), any_value v)

        freeze_seen : (kid : NodeId) (f : FnRef) → r.def ≡ graph.Freeze kid f → (x : Option Value) → G.frozen p.node ≡ x
            → Then (Of (frozen_or kid x)) (frozen_or_seen x (See (main kid)))
        freeze_seen kid f is None e = seen kid (kid_seen (graph.Freeze kid f) is refl kid (rw e (inl refl)))
        freeze_seen kid f is (Some v) e = const_seen v

        own_seen : (def : Def) → r.def ≡ def → Then (Of (present_def G p.node def)) (own F G See p.node def)
        own_seen (graph.Const v) is = const_seen v
        own_seen (graph.Var v) is = const_seen v
        own_seen (graph.Every x y) is = const_seen _
        own_seen (graph.Map f kids) is = lifted F G Any (Of (Map f (refs kids))) _ (called (F.value f) kids (kid_seen (graph.Map f kids) is refl))
        own_seen (graph.Fold f v kids) is =
            lifted F G Any (Of (Fold f v (refs kids))) _ (called (folded (F.value f) v) kids (kid_seen (graph.Fold f v kids) is refl))
        own_seen (graph.Expert f v kids) is =
            lifted F G Any (Of (Fold f v (refs (G.lists p.node)))) _
            (called (folded (F.value f) v) (G.lists p.node) (kid_seen (graph.Expert f v kids) is refl))
        own_seen (graph.Freeze kid f) is = freeze_seen kid f is (G.frozen p.node) refl
        own_seen (graph.At t) is =
            lifted F G Any (Of (At t)) (Some (Val (value.Bool (le_z t G.now)))) (any_outcome (λ d. level F G (answer F G d) (Of (At t))) _ 0 refl)
        own_seen (graph.Steps v ss) is =
            lifted F G Any (Of (Steps v ss)) (Some (Val (latest G.now v ss))) (any_outcome (λ d. level F G (answer F G d) (Of (Steps v ss))) _ 0 refl)
        own_seen graph.Now is = lifted F G Any (Of Now) (Some (Val (value.Int G.now))) (any_outcome (λ d. level F G (answer F G d) (Of Now)) _ 0 refl)
        own_seen (graph.If t a b) is =
            let run = own_run (graph.If t a b) t is refl in
            lifted F G Any (Of (If (Ref t) (Ref a) (Ref b))) _
            (switched p.node t (branch (Ref a) (Ref b)) (λ v. see_right See (right_of G p.node (graph.If t a b) (Val v)))
            run.0 (own_shown run.0 run.1) run.2 (λ v e. choice_if p.node t a b v (right_seen (graph.If t a b) t v is refl (rw e at run.2))))
        own_seen (graph.Join k) is =
            let run = own_run (graph.Join k) k is refl in
            lifted F G Any (Of (Join (Ref k))) _ (switched p.node k named (λ v. see_right See (right_of G p.node (graph.Join k) (Val v)))
            run.0 (own_shown run.0 run.1) run.2 (λ v e. choice_join p.node k v (right_seen (graph.Join k) k v is refl (rw e at run.2))))
        own_seen (graph.Bind l f caps) is =
            let run = own_run (graph.Bind l f caps) l is refl in
            lifted F G Any (Of (Bind (Ref l) f (refs caps))) _
            (switched p.node l (λ v. Some (put (refs caps) (F.term f v))) (λ v. see_right See (right_of G p.node (graph.Bind l f caps) (Val v)))
            run.0 (own_shown run.0 run.1) run.2 (λ v e. let left : NodeGives F G l (Val v) = rw e at run.2 in
            choice_bind p.node r l f caps run.3.0 v row is stands run.3.1 (run.3.2 ∙ e) left run.3.3
            (right_seen (graph.Bind l f caps) l v is refl left)))

      part_exact : (part : Part) → p.part ≡ part → PartAgrees F G out p.node r.def part → PartExact F G out p.node r.def part
      part_exact Main is o =
          let h = rw o.2 at (own_seen is r.def refl) in
          (o.0, rw (row, o.1) refl, present_gives F G p.node r o.0 row stands h.0)
      part_exact Change is h = λ s sub.
          let o = h s sub in
          let ss = subject_seen is s sub in
          let same : ss.0 ≡ o.0 = (let x = ss.1 in let y = o.2 in cc) in
          (o.0, o.1, rw (← same) ss.2, o.3)

    -- a point that agrees is exact where all that it depends on is
    pub exact_at : Exact F G out p
    exact_at r row = (stands r row, part_exact r row p.part refl (agrees r row))

pub reach_more : {A : Type 0} (R : A → A → Type 0) (a b c : A) → Reaches R a b → R b c → Reaches R a c
reach_more R a b c here h = step h here
reach_more R a b c (step s rest) h = step s (reach_more R _ b c rest h)

pub needed_more : (F : Functions) (G : Graph) (died : NodeId → Option NodeId) (observed : List NodeId) (p q : Point)
    → Needed F G died observed p → Depends F G died p q → Needed F G died observed q
needed_more F G died observed p q (n, root, way) dep = (n, root, reach_more (Depends F G died) (main n) p q way dep)

-- deaths add what is depended on
more_died : (F : Functions) (G : Graph) (died : NodeId → Option NodeId) (p q : Point) → Depends F G none_died p q → Depends F G died p q
more_died F G died p q (gate e s is) = gate e s is
more_died F G died p q (ghost e d is) = absurd (cc)
more_died F G died p q (fixed e st a) = fixed e st a
more_died F G died p q (right e st part sub gives at is) = right e st part sub gives at is

pub local_gives : LocalGives
local_gives F G out died observed scoped local p need (ends lower) =
    exact_at F G out scoped p (local p need)
    (λ q dep. let d = more_died F G died p q dep in local_gives F G out died observed scoped local q
    (needed_more F G died observed p q need d) (lower q d))
