-- What a run of moves builds, adds and lets die.
use Rattle.std.proofs.Common.{◌≡◌, ◌⊎◌, inl, inr, ℕ, ◌≤◌, ◌+◌, List, [], ◌∷◌, ◌++◌, length, Option, None, Some, refl, sym, subst, ap, ◌∙◌, arith}
use Rattle.std.specs.Prelude.{IsSome}
use Rattle.std.proofs.lemmas.Bool.{cases_lt}
use Rattle.inc_value.specs.declared.function.FnKind.{FnKind}
use Rattle.inc_value.specs.declared.function.FnRef.{FnRef}
use Rattle.inc_value.specs.declared.node.NodeId.{NodeId}
use Rattle.inc_value.specs.declared.node.Point.{Point}
use Rattle.inc_value.specs.declared.outcome.Outcome.{Outcome}
use Rattle.inc_value.specs.declared.outcome.Outcome.TheVariants.{Val, Invalid}
use Rattle.inc_value.specs.Choice.{Among, NoRepeats, Reaches, here, step}
use Rattle.inc_terms.specs.Term.{Functions}
use Rattle.inc_terms.specs.Graph as graph
use Rattle.inc_terms.specs.Graph.{Graph, Row, Built, Def}
use Rattle.inc_terms.specs.Evaluate.{NodeGives, Stands}
use Rattle.inc_terms.specs.Rebuild.{Inside, IsDue}
use Rattle.inc_terms.specs.Rebuilding.{Moment, BuildStep}
use Rattle.inc_terms.specs.Within.{Given, Fit, FunctionsWithin}
use Rattle.inc_terms.specs.Depend.{change, subject_of, died_in}
use Rattle.inc_terms.proofs.Evaluation.{one_outcome}
use Rattle.inc_terms.proofs.Within.{functions_within}
use Rattle.inc_terms.proofs.Rebuild.{same_after, same_before}
use Rattle.inc_terms.proofs.Depending.{subject_given, no_stand, kept_or_not, stands_after}
use Rattle.inc_terms.proofs.Rebuilding.{building_kills}
use Rattle.stabilize_round.specs.Counts.{RoseBy, RoseAtMost}
use Rattle.stabilize_round.specs.State.{State, Start}
use Rattle.stabilize_round.specs.Invariant.{Invariant, MetNow, from_held}
use Rattle.stabilize_round.specs.Rebuilding.{Remade, remade, builds_of, Rebuild, rebuilds, IsBuiltAnew}
use Rattle.stabilize_round.specs.Machine.{Move, step_main, step_change, link, link_new, root, root_new, raise, finish, schedule, cut, rebuild}
use Rattle.stabilize_round.specs.Machine.{level, spend, Moves, called_more, as_it_is, unbuilt, unkept}
use Rattle.stabilize_round.specs.Runs.{built_by, built_in, LeftDiffers, BuildsAre, RunBuilds, IsBuiltRight, BuiltStays, RunAdds, RunKills}
use Rattle.stabilize_round.specs.Runs.{RunBuildsFew, NewNodesStand, DeathsAreKnown, RefusedKeeps}
use Rattle.stabilize_round.proofs.Counts.{none_yet, rose_on}
use Rattle.stabilize_round.proofs.Points.{node_or_other}
use Rattle.stabilize_round.proofs.Ready.{ready}
use Rattle.stabilize_round.proofs.Entry.{entry_holds}
use Rattle.stabilize_round.proofs.Machine.{move_keeps, moves_keep}
use Rattle.stabilize_round.proofs.Linking.{met_root}
use Rattle.stabilize_round.proofs.Rebuilding.{met_after, rebuild_keeps}

-- ---- a move builds a bind anew, or leaves all of this

pub record Still (s t : State) : Type 0 where
  pub graph : t.graph ≡ s.graph
  pub given : t.given ≡ s.given
  pub builds : t.builds ≡ s.builds
  pub adds : t.adds ≡ s.adds
  pub died : t.died ≡ s.died

pub record Makes (F : Functions) (z : Start) (s t : State) : Type 0 where
  pub bind : NodeId
  pub outcome : Outcome
  pub made : Remade
  pub rebuild : Rebuild F z s bind outcome made
  pub built : IsBuiltAnew F made.graph bind rebuild.due.function rebuild.due.captures outcome
  pub count : RoseBy s.builds (builds_of outcome) made.builds
  pub is : t ≡ remade s made

still : (s u t : State) → t ≡ u → Still s u → Still s t
still s u t e h = subst (λ (x : State). Still s x) (sym e) h

abbrev pub Kind : (F : Functions) (z : Start) (s t : State) → List NodeId → Type 0
Kind F z s t binds = (Still s t × (binds ≡ [])) ⊎ ((k : Makes F z s t) × (binds ≡ k.bind ∷ []))

pub kind_of : (F : Functions) (z : Start) (s t : State) (m : Move F z s t) → Kind F z s t (built_by m)
kind_of F z s t (step_main quiet m e) = inl (still s _ t e (record { graph = refl; given = refl; builds = refl; adds = refl; died = refl }), refl)
kind_of F z s t (step_change quiet m e) = inl (still s _ t e (record { graph = refl; given = refl; builds = refl; adds = refl; died = refl }), refl)
kind_of F z s t (link m need e) = inl (still s _ t e (record { graph = refl; given = refl; builds = refl; adds = refl; died = refl }), refl)
kind_of F z s t (link_new m need k e) = inl (still s _ t e (record { graph = refl; given = refl; builds = refl; adds = refl; died = refl }), refl)
kind_of F z s t (root need e) = inl (still s _ t e (record { graph = refl; given = refl; builds = refl; adds = refl; died = refl }), refl)
kind_of F z s t (root_new given need k e) = inl (still s _ t e (record { graph = refl; given = refl; builds = refl; adds = refl; died = refl }), refl)
kind_of F z s t (raise m e) = inl (still s _ t e (record { graph = refl; given = refl; builds = refl; adds = refl; died = refl }), refl)
kind_of F z s t (finish m e) = inl (still s _ t e (record { graph = refl; given = refl; builds = refl; adds = refl; died = refl }), refl)
kind_of F z s t (schedule m e) = inl (still s _ t e (record { graph = refl; given = refl; builds = refl; adds = refl; died = refl }), refl)
kind_of F z s t (cut d w e) = inl (still s _ t e (record { graph = refl; given = refl; builds = refl; adds = refl; died = refl }), refl)
kind_of F z s t (rebuild {b} {now} {m} r made count e) = inr (record { bind = b; outcome = now; made = m; rebuild = r; built = made; count = count; is = e }, refl)
kind_of F z s t (level m e) = inl (still s _ t e (record { graph = refl; given = refl; builds = refl; adds = refl; died = refl }), refl)
kind_of F z s t (spend u k e) = inl (still s _ t e (record { graph = refl; given = refl; builds = refl; adds = refl; died = refl }), refl)

-- ---- what is added

counted : (F : Functions) (z : Start) (s t : State) (binds : List NodeId) → Kind F z s t binds → (number : ℕ) × (t.given ≡ s.given + number)
    × RoseBy s.adds number t.adds
counted F z s t binds (inl k) = let g = k.0.given in let a = k.0.adds in (0, omega arith, rw a none_yet)
counted F z s t binds (inr k) =
    let n = k.0.rebuild.nodes in
    let g : t.given ≡ k.0.made.given = ap (λ (x : State). x.given) k.0.is in
    let a : t.adds ≡ k.0.made.adds = ap (λ (x : State). x.adds) k.0.is in
    (n.number, g ∙ n.given, rw a n.adds)

pub run_adds : RunAdds
run_adds F z s t here = (0, omega arith, none_yet)
run_adds F z s t (step {b = u} m rest) =
    let first = counted F z s u (built_by m) (kind_of F z s u m) in
    let next = run_adds F z u t rest in
    let a = first.1 in let b = next.1 in
    (first.0 + next.0, omega arith, rose_on first.2 next.2)

-- ---- one bind built anew

module _ (F : Functions) (z : Start) (s : State) (b : NodeId) (now : Outcome) (made : Remade) (move : Rebuild F z s b now made) where
  abbrev P : NodeId → Type 0
  P n = Given s.given n

  abbrev Q : FnKind → FnRef → Type 0
  Q = Fit s.given z.known z.ids

  fine : FunctionsWithin F P Q
  fine = functions_within F z.known z.ids P move.given.laws

  pub left_given : (n : NodeId) (r : Row) (l : NodeId) (f : FnRef) (captures : List NodeId) → s.graph.row n ≡ Some r → r.def ≡ graph.Bind l f captures
      → P l
  left_given n r l f captures row def =
      subject_given F P Q fine s.graph made.graph move.given.names b now move.due move.rebuilt n r l row (ap (λ (d : Def). subject_of d) def)

  pub gives_after : (n : NodeId) (o : Outcome) → P n → NodeGives F s.graph n o → NodeGives F made.graph n o
  gives_after n o p g = same_after F P Q fine s.graph made.graph move.given.names b now move.due move.rebuilt n p o g

  gives_before : (n : NodeId) (o : Outcome) → P n → NodeGives F made.graph n o → NodeGives F s.graph n o
  gives_before n o p g = same_before F P Q fine s.graph made.graph move.given.names b now move.due move.rebuilt n p o g

  -- of a given node that lives after it
  pub lived : (n : NodeId) (r : Row) → P n → made.graph.row n ≡ Some r → (Inside s.graph b n → ⊥) × (s.graph.row n ≡ Some r)
  lived n r p e = elim (move.rebuilt.rows n p) [
    | inl h ↦ absurd (let x = h.1 in cc)
    | inr h ↦ (h.0, sym h.1 ∙ e)
  ]

  pub bind_given : P b
  bind_given = move.given.names.live b move.due.row move.due.is_row

  -- a given node that stands is outside the scope that dies, lives on, and stands on
  pub outlives : (n : NodeId) (r : Row) → P n → s.graph.row n ≡ Some r → Stands F s.graph r.scope
      → (Inside s.graph b n → ⊥) × (made.graph.row n ≡ Some r) × Stands F made.graph r.scope
  outlives n r p row stands =
      let out : Inside s.graph b n → ⊥ =
      λ i. no_stand F P Q fine s.graph made.graph move.given.names b now move.due move.rebuilt n r i row stands in
      let keeps = kept_or_not F P Q fine s.graph made.graph move.given.names b now move.due move.rebuilt n r p row stands in (
        out,
        elim (move.rebuilt.rows n p) [ inl h ↦ absurd (out h.0) | inr h ↦ h.1 ∙ row ],
        stands_after F P Q fine s.graph made.graph move.given.names b now move.due move.rebuilt n r keeps row stands,
      )

  -- another bind that lives after it, and was built right, is built right
  pub right_on : (n : NodeId) (r : Row) → P n → made.graph.row n ≡ Some r → (n ≡ b → ⊥) → IsBuiltRight F s.graph n
      → IsBuiltRight F made.graph n
  right_on n r p row ne h =
      let was = lived n r p row in
      let left = left_given n h.row h.left h.function h.captures h.is_row h.is_bind in
      let before = was.1 in let mine = h.is_row in
      let same : r ≡ h.row = cc in
      record {
        row = h.row;
        left = h.left;
        function = h.function;
        captures = h.captures;
        built = h.built;
        is_row = row ∙ ap (λ (x : Row). Some x) same;
        is_bind = h.is_bind;
        is_built = move.rebuilt.built n p ne was.0 ∙ h.is_built;
        gives = gives_after h.left h.built.outcome left h.gives;
      }

  module _ (built : IsBuiltAnew F made.graph b move.due.function move.due.captures now) where
    abbrev due : IsDue F s.graph b now
    due = move.due

    pub made_right : (r : Row) → made.graph.row b ≡ Some r → IsBuiltRight F made.graph b
    made_right r row =
        let k = lived b r bind_given row in
        let mine = due.is_row in let before = k.1 in
        let same : due.row ≡ r = cc in
        record {
          row = r;
          left = due.left;
          function = due.function;
          captures = due.captures;
          built = built.built;
          is_row = row;
          is_bind = ap (λ (x : Row). x.def) (sym same) ∙ due.is_bind;
          is_built = built.is_built;
          gives = let left = gives_after due.left now (left_given b due.row due.left due.function due.captures due.is_row due.is_bind) due.gives in
              rw built.for_outcome left;
        }

-- a bind that is due has a left that differs
pub due_differs : (F : Functions) (z : Start) (s : State) (b : NodeId) (now : Outcome) (made : Remade) → Rebuild F z s b now made
    → LeftDiffers F s.graph b
due_differs F z s b now made move = let due = move.due in record {
  row = due.row;
  left = due.left;
  function = due.function;
  captures = due.captures;
  is_row = due.is_row;
  is_bind = due.is_bind;
  outcome = now;
  gives = due.gives;
  changed = due.changed;
}

-- what is built for what its left gives isn't due
pub not_differing : (F : Functions) (G : Graph) (b : NodeId) → IsBuiltRight F G b → LeftDiffers F G b → ⊥
not_differing F G b right d =
    let e = d.is_row in let e' = right.is_row in
    let same : d.row ≡ right.row = cc in
    let x = d.is_bind in let y = right.is_bind in
    let defs : graph.Bind d.left d.function d.captures ≡ graph.Bind right.left right.function right.captures =
    sym x ∙ ap (λ (r : Row). r.def) same ∙ y in
    let lefts : d.left ≡ right.left = cc in
    let there = subst (λ (n : NodeId). NodeGives F G n d.outcome) lefts d.gives in
    d.changed right.built right.is_built (one_outcome F G _ right.built.outcome d.outcome right.gives there)

-- a left that differs afterwards did so before
pub differed : (F : Functions) (z : Start) (s t : State) → Makes F z s t → (b : NodeId) → Given s.given b → LeftDiffers F t.graph b
    → LeftDiffers F s.graph b
differed F z s t k b p d = by_graph (subst (λ (x : State). LeftDiffers F x.graph b) k.is d)
  where
    by_graph : LeftDiffers F k.made.graph b → LeftDiffers F s.graph b
    by_graph d =
        let was = lived F z s k.bind k.outcome k.made k.rebuild b d.row p d.is_row in
        let left = left_given F z s k.bind k.outcome k.made k.rebuild b d.row d.left d.function d.captures was.1 d.is_bind in
        record {
          row = d.row;
          left = d.left;
          function = d.function;
          captures = d.captures;
          is_row = was.1;
          is_bind = d.is_bind;
          outcome = d.outcome;
          gives = gives_before F z s k.bind k.outcome k.made k.rebuild d.left d.outcome left d.gives;
          changed = λ w e o. elim (node_or_other b k.bind) [
            | inr ne ↦ d.changed w (k.rebuild.rebuilt.built b p ne was.0 ∙ e) o
            | inl is ↦
                let row : k.made.graph.row k.bind ≡ Some d.row = subst (λ (n : NodeId). k.made.graph.row n ≡ Some d.row) is d.is_row in
                let right = made_right F z s k.bind k.outcome k.made k.rebuild k.built d.row row in
                not_differing F k.made.graph k.bind right (subst (λ (n : NodeId). LeftDiffers F k.made.graph n) is d)
          ];
        }

-- ---- what is built

pub later : (n m : ℕ) (b : NodeId) → n ≤ m → Given n b → Given m b
later n m b le p = omega arith

pub grows : (F : Functions) (z : Start) (s t : State) (binds : List NodeId) → Kind F z s t binds → s.given ≤ t.given
grows F z s t binds k = let c = counted F z s t binds k in let e = c.1 in omega arith

pub row_before : (F : Functions) (z : Start) (s t : State) → Moves F z s t → (n : NodeId) (r : Row) → Given s.given n → t.graph.row n ≡ Some r
    → s.graph.row n ≡ Some r
row_before F z s t here n r p e = e
row_before F z s t (step {b = u} m rest) n r p e = back kind
    (row_before F z u t rest n r (later s.given u.given n (grows F z s u (built_by m) kind) p) e)
  where
    kind : Kind F z s u (built_by m)
    kind = kind_of F z s u m

    back : Kind F z s u (built_by m) → u.graph.row n ≡ Some r → s.graph.row n ≡ Some r
    back (inl k) h = sym (ap (λ (G : Graph). G.row n) k.0.graph) ∙ h
    back (inr k) h =
        let row : k.0.made.graph.row n ≡ Some r = sym (ap (λ (x : State). x.graph.row n) k.0.is) ∙ h in
        (lived F z s k.0.bind k.0.outcome k.0.made k.0.rebuild n r p row).1

pub run_grows : (F : Functions) (z : Start) (s t : State) → Moves F z s t → s.given ≤ t.given
run_grows F z s t run = let c = run_adds F z s t run in let e = c.1 in omega arith

pub few_builds : (o : Outcome) → builds_of o ≤ 1
few_builds (Val v) = omega arith
few_builds Invalid = omega arith

module _ (F : Functions) (z : Start) (s u t : State) (rest : List NodeId) (next : BuildsAre F u t rest)
    (before : (b : NodeId) (r : Row) → Given u.given b → t.graph.row b ≡ Some r → u.graph.row b ≡ Some r) where
  builds_on : (binds : List NodeId) → Kind F z s u binds → BuildsAre F s t (binds ++ rest)
  builds_on binds (inl k) = rw k.1 (record {
    once = next.once;
    due = λ b a p.
        let g = k.0.given in
        let p' : Given u.given b = omega arith in
        subst (λ (G : Graph). LeftDiffers F G b) k.0.graph (next.due b a p');
    others = λ b r p row a.
        let g = k.0.given in
        let p' : Given u.given b = omega arith in
        next.others b r p' row a ∙ ap (λ (G : Graph). G.built b) k.0.graph;
    number = next.number;
    few = next.few;
    count = rw k.0.builds at next.count;
  })
  builds_on binds (inr k) = rw k.1 (record {
    once = (twice, next.once);
    due = λ b a p. elim a [ inl is ↦ first b is | inr after ↦ differed F z s u k.0 b p (next.due b after (given_later b p)) ];
    others = λ b r p row a.
        let p' = given_later b p in
        let row' : k.0.made.graph.row b ≡ Some r = sym (ap (λ (x : State). x.graph.row b) k.0.is) ∙ before b r p' row in
        let was = lived F z s k.0.bind k.0.outcome k.0.made k.0.rebuild b r p row' in
        let same = k.0.rebuild.rebuilt.built b p (λ is. a (inl is)) was.0 in
        next.others b r p' row (λ h. a (inr h)) ∙ ap (λ (x : State). x.graph.built b) k.0.is ∙ same;
    number = builds_of k.0.outcome + next.number;
    few = let a = few_builds k.0.outcome in let b = next.few in omega arith;
    count = let e : u.builds ≡ k.0.made.builds = ap (λ (x : State). x.builds) k.0.is in rose_on k.0.count (rw e at next.count);
  })
    where
      given_later : (b : NodeId) → Given s.given b → Given u.given b
      given_later b p = later s.given u.given b (grows F z s u binds (inr k)) p

      first : (b : NodeId) → b ≡ k.0.bind → LeftDiffers F s.graph b
      first b is =
          let due = k.0.rebuild.due in
          subst (λ (n : NodeId). LeftDiffers F s.graph n) (sym is) (record {
            row = due.row;
            left = due.left;
            function = due.function;
            captures = due.captures;
            is_row = due.is_row;
            is_bind = due.is_bind;
            outcome = k.0.outcome;
            gives = due.gives;
            changed = due.changed;
          })

      twice : Among k.0.bind rest → ⊥
      twice a =
          let p = given_later k.0.bind (bind_given F z s k.0.bind k.0.outcome k.0.made k.0.rebuild) in
          let d = subst (λ (x : State). LeftDiffers F x.graph k.0.bind) k.0.is (next.due k.0.bind a p) in
          not_differing F k.0.made.graph k.0.bind (made_right F z s k.0.bind k.0.outcome k.0.made k.0.rebuild k.0.built d.row d.is_row) d

pub run_builds : RunBuilds
run_builds F z s t here = record { once = tt; due = λ b a p. absurd a; others = λ b r p row a. refl; number = 0; few = omega arith; count = none_yet }
run_builds F z s t (step {b = u} m rest) = builds_on F z s u t (built_in rest) (run_builds F z u t rest)
    (λ b r p row. row_before F z u t rest b r p row) (built_by m) (kind_of F z s u m)

-- ---- what dies

abbrev moment : State → Moment
moment s = record { graph = s.graph; given = s.given }

module _ (F : Functions) (z : Start) (s u t : State) (next : Reaches (BuildStep F z.known z.ids) (moment u) (moment t)) where
  steps_on : (binds : List NodeId) → Kind F z s u binds → Reaches (BuildStep F z.known z.ids) (moment s) (moment t)
  steps_on binds (inl k) =
      let same : moment u ≡ moment s = λ i. record { graph = k.0.graph i; given = k.0.given i } in
      subst (λ (x : Moment). Reaches (BuildStep F z.known z.ids) x (moment t)) same next
  steps_on binds (inr k) = step first (subst (λ (x : State). Reaches (BuildStep F z.known z.ids) (moment x) (moment t)) k.0.is next)
    where
      first : BuildStep F z.known z.ids (moment s) (moment (remade s k.0.made))
      first = record {
        step = record {
          bind = k.0.bind;
          outcome = k.0.outcome;
          rebuilds = rebuilds k.0.rebuild;
          later = let e = k.0.rebuild.nodes.given in omega arith;
        };
        built = k.0.built.built;
        is_built = k.0.built.is_built;
        for_outcome = k.0.built.for_outcome;
        rooted = k.0.built.rooted;
        fresh = λ n r row new. elim (cases_lt n.gen_ s.given) [ inl lt ↦ absurd (new lt) | inr le ↦ k.0.rebuild.nodes.scope n r row le ];
      }

steps_of : (F : Functions) (z : Start) (s t : State) → Moves F z s t → Reaches (BuildStep F z.known z.ids) (moment s) (moment t)
steps_of F z s t here = here
steps_of F z s t (step {b = u} m rest) = steps_on F z s u t (steps_of F z u t rest) (built_by m) (kind_of F z s u m)

pub run_kills : RunKills
run_kills F z s t run n r p row = building_kills F z.known z.ids (moment s) (moment t) (steps_of F z s t run) n r p row

-- ---- where new nodes stand

module _ (F : Functions) (z : Start) (s t : State) (binds : List NodeId)
    (live : (n : NodeId) (r : Row) → s.graph.row n ≡ Some r → Given s.given n) where
  pub new_by : Kind F z s t binds → (n : NodeId) (r : Row) → t.graph.row n ≡ Some r
      → (s.graph.row n ≡ Some r) ⊎ (((b : NodeId) × (r.scope ≡ Some b)) × Given t.given n)
  new_by (inl k) n r row = inl (sym (ap (λ (G : Graph). G.row n) k.0.graph) ∙ row)
  new_by (inr k) n r row =
      let row' : k.0.made.graph.row n ≡ Some r = sym (ap (λ (x : State). x.graph.row n) k.0.is) ∙ row in
      let given : t.given ≡ k.0.made.given = ap (λ (x : State). x.given) k.0.is in
      elim (cases_lt n.gen_ s.given) [
        | inl lt ↦ inl (lived F z s k.0.bind k.0.outcome k.0.made k.0.rebuild n r lt row').1
        | inr le ↦ let new = k.0.rebuild.nodes.scope n r row' le in let g = new.1 in inr ((k.0.bind, new.0), omega arith)
      ]

  live_after : Kind F z s t binds → (n : NodeId) (r : Row) → t.graph.row n ≡ Some r → Given t.given n
  live_after k n r row = elim (new_by k n r row) [ inl was ↦ later s.given t.given n (grows F z s t binds k) (live n r was) | inr new ↦ new.1 ]

pub new_nodes_stand : NewNodesStand
new_nodes_stand F z s t here live n r row le = absurd (let g = live n r row in omega arith)
new_nodes_stand F z s t (step {b = u} m rest) live n r row le =
    elim (cases_lt n.gen_ u.given) [
      | inr after ↦ new_nodes_stand F z u t rest live' n r row after
      | inl lt ↦ elim (new_by F z s u (built_by m) live kind n r (row_before F z u t rest n r lt row)) [
        | inl was ↦ absurd (let g = live n r was in omega arith)
        | inr new ↦ (new.0, later u.given t.given n (run_grows F z u t rest) new.1)
      ]
    ]
  where
    kind : Kind F z s u (built_by m)
    kind = kind_of F z s u m

    live' : (n : NodeId) (r : Row) → u.graph.row n ≡ Some r → Given u.given n
    live' = live_after F z s u (built_by m) live kind

-- ---- which scopes the dead stood in

-- of given nodes that are dead: those that lived are known with their scopes, of others what was known stays
pub record Known (s t : State) (n : NodeId) : Type 0 where
  pub now : (r : Row) → s.graph.row n ≡ Some r → t.died n ≡ r.scope
  pub earlier : s.graph.row n ≡ None → t.died n ≡ s.died n

module _ (F : Functions) (z : Start) (s u t : State) (n : NodeId) (p : Given s.given n) (dead : t.graph.row n ≡ None)
    (next : Given u.given n → Known u t n) where
  pub known_on : (binds : List NodeId) → Kind F z s u binds → Known s t n
  known_on binds (inl k) =
      let g = k.0.given in
      let p' : Given u.given n = omega arith in
      let k' = next p' in
      let row = ap (λ (G : Graph). G.row n) k.0.graph in
      let d = ap (λ (f : NodeId → Option NodeId). f n) k.0.died in
      record { now = λ r e. k'.now r (row ∙ e); earlier = λ e. k'.earlier (row ∙ e) ∙ d }
  known_on binds (inr k) =
      let k' = next (later s.given u.given n (grows F z s u binds (inr k)) p) in
      let row : u.graph.row n ≡ k.0.made.graph.row n = ap (λ (x : State). x.graph.row n) k.0.is in
      let d : u.died n ≡ k.0.made.died n = ap (λ (x : State). x.died n) k.0.is in
      let deaths = k.0.rebuild.deaths in
      elim (k.0.rebuild.rebuilt.rows n p) [
        | inl h ↦ record {
          now = λ r e. k'.earlier (row ∙ h.1) ∙ d ∙ deaths.now n r e h.1;
          earlier = λ e. k'.earlier (row ∙ h.1) ∙ d ∙ deaths.earlier n e;
        }
        | inr h ↦ record {
          now = λ r e. k'.now r (row ∙ h.1 ∙ e);
          earlier = λ e. k'.earlier (row ∙ h.1 ∙ e) ∙ d ∙ deaths.earlier n e;
        }
      ]

known_at : (F : Functions) (z : Start) (s t : State) → Moves F z s t → (n : NodeId) → Given s.given n → t.graph.row n ≡ None → Known s t n
known_at F z s t here n p dead = record { now = λ r e. absurd (cc); earlier = λ e. refl }
known_at F z s t (step {b = u} m rest) n p dead =
    known_on F z s u t n p dead (λ p'. known_at F z u t rest n p' dead) (built_by m) (kind_of F z s u m)

pub deaths_are_known : DeathsAreKnown
deaths_are_known F z s t entry run n p dead = by_row (s.graph.row n) refl
  where
    known : Known s t n
    known = known_at F z s t run n p dead

    by_row : (x : Option Row) → s.graph.row n ≡ x → t.died n ≡ died_in s.graph t.graph n
    by_row None e = rw e (known.earlier e ∙ entry.died n)
    by_row (Some r) e = rw (e, dead) (known.now r e)

-- ---- what a bind is built for

still_met : (F : Functions) (z : Start) (s u t : State) → t ≡ u → (p : Point) → MetNow F z u.graph u.died u.root p
    → MetNow F z t.graph t.died t.root p
still_met F z s u t e p m = subst (λ (x : State). MetNow F z x.graph x.died x.root p) (sym e) m

move_met : (F : Functions) (z : Start) (s t : State) → Invariant F z s → Move F z s t → (p : Point) → MetNow F z s.graph s.died s.root p
    → MetNow F z t.graph t.died t.root p
move_met F z s t inv (step_main quiet m e) p h = still_met F z s _ t e p h
move_met F z s t inv (step_change quiet m e) p h = still_met F z s _ t e p h
move_met F z s t inv (link m need e) p h = still_met F z s _ t e p h
move_met F z s t inv (link_new m need k e) p h = still_met F z s _ t e p h
move_met F z s t inv (root {p = r} need e) p h = still_met F z s _ t e p (met_root F z s inv r p h)
move_met F z s t inv (root_new {p = r} given need k e) p h = still_met F z s _ t e p (met_root F z s inv r p h)
move_met F z s t inv (raise m e) p h = still_met F z s _ t e p h
move_met F z s t inv (finish m e) p h = still_met F z s _ t e p h
move_met F z s t inv (schedule m e) p h = still_met F z s _ t e p h
move_met F z s t inv (cut d w e) p h = still_met F z s _ t e p h
move_met F z s t inv (rebuild {b} {now} {m} r made count e) p h = still_met F z s _ t e p (met_after F z s inv b now m r p h)
move_met F z s t inv (level m e) p h = still_met F z s _ t e p h
move_met F z s t inv (spend u k e) p h = still_met F z s _ t e p h

moves_met : (F : Functions) (z : Start) (s t : State) → Invariant F z s → Moves F z s t → (p : Point) → MetNow F z s.graph s.died s.root p
    → MetNow F z t.graph t.died t.root p
moves_met F z s t inv here p h = h
moves_met F z s t inv (step {b = u} m rest) p h = moves_met F z u t (move_keeps F z s u m inv) rest p (move_met F z s u inv m p h)

-- what is taken is met
taken_met : (F : Functions) (z : Start) (s : State) → Invariant F z s → (b : NodeId) (now : Outcome) (made : Remade) → Rebuild F z s b now made
    → MetNow F z s.graph s.died s.root (change b)
taken_met F z s inv b now made move = elim (inv.met.needed (change b) (inv.web.heap (change b) move.taken.heap)) [
  | inl m ↦ m
  | inr h ↦ let k = ready F z s inv move.quiet (change b) move.taken in from_held h k.is_row k.stands here
]

-- where it lives what is built right stays so
right_stays : (F : Functions) (z : Start) (s t : State) → Makes F z s t → (b : NodeId) (r : Row) → Given s.given b → t.graph.row b ≡ Some r
    → IsBuiltRight F s.graph b → IsBuiltRight F t.graph b
right_stays F z s t k b r p row h = subst (λ (x : State). IsBuiltRight F x.graph b) (sym k.is)
    (right_on F z s k.bind k.outcome k.made k.rebuild b r p (ap (λ (x : State). x.graph.row b) (sym k.is) ∙ row)
    (λ is. not_differing F s.graph b h
    (subst (λ (n : NodeId). LeftDiffers F s.graph n) (sym is) (due_differs F z s k.bind k.outcome k.made k.rebuild))) h)

pub right_at_end : (F : Functions) (z : Start) (s t : State) → Moves F z s t → (b : NodeId) (r : Row) → Given s.given b → t.graph.row b ≡ Some r
    → IsBuiltRight F s.graph b → IsBuiltRight F t.graph b
right_at_end F z s t here b r p row h = h
right_at_end F z s t (step {b = u} m rest) b r p row h = right_at_end F z u t rest b r p' row (on kind)
  where
    kind : Kind F z s u (built_by m)
    kind = kind_of F z s u m

    p' : Given u.given b
    p' = later s.given u.given b (grows F z s u (built_by m) kind) p

    on : Kind F z s u (built_by m) → IsBuiltRight F u.graph b
    on (inl k) = subst (λ (G : Graph). IsBuiltRight F G b) (sym k.0.graph) h
    on (inr k) = right_stays F z s u k.0 b r p (row_before F z u t rest b r p' row) h

abbrev pub BuiltSince : (F : Functions) (z : Start) (s t : State) → NodeId → Type 0
BuiltSince F z s t b = (t.graph.built b ≡ s.graph.built b) ⊎ (IsBuiltRight F t.graph b × MetNow F z t.graph t.died t.root (change b))

pub built_on : (F : Functions) (z : Start) (s t : State) → Invariant F z s → Moves F z s t → (b : NodeId) (r : Row) → Given s.given b
    → t.graph.row b ≡ Some r
    → BuiltSince F z s t b
built_on F z s t inv here b r p row = inl refl
built_on F z s t inv (step {b = u} m rest) b r p row =
    by_rest kind (built_on F z u t (move_keeps F z s u m inv) rest b r (later s.given u.given b (grows F z s u (built_by m) kind) p) row)
  where
    kind : Kind F z s u (built_by m)
    kind = kind_of F z s u m

    by_made : (k : Makes F z s u) → t.graph.built b ≡ u.graph.built b → (b ≡ k.bind) ⊎ (b ≡ k.bind → ⊥) → BuiltSince F z s t b
    by_made k same (inr ne) =
        let p' = later s.given u.given b (grows F z s u (built_by m) kind) p in
        let row' : k.made.graph.row b ≡ Some r = sym (ap (λ (x : State). x.graph.row b) k.is) ∙ row_before F z u t rest b r p' row in
        let was = lived F z s k.bind k.outcome k.made k.rebuild b r p row' in
        inl (same ∙ ap (λ (x : State). x.graph.built b) k.is ∙ k.rebuild.rebuilt.built b p ne was.0)
    by_made k same (inl is) =
        let p' = later s.given u.given b (grows F z s u (built_by m) kind) p in
        let row' : k.made.graph.row b ≡ Some r = sym (ap (λ (x : State). x.graph.row b) k.is) ∙ row_before F z u t rest b r p' row in
        let there : k.made.graph.row k.bind ≡ Some r = subst (λ (n : NodeId). k.made.graph.row n ≡ Some r) is row' in
        let right = made_right F z s k.bind k.outcome k.made k.rebuild k.built r there in
        let at_u : IsBuiltRight F u.graph b = subst (λ (x : State). IsBuiltRight F x.graph b) (sym k.is)
        (subst (λ (n : NodeId). IsBuiltRight F k.made.graph n) (sym is) right) in
        let met = subst (λ (n : NodeId). MetNow F z s.graph s.died s.root (change n)) (sym is)
        (taken_met F z s inv k.bind k.outcome k.made k.rebuild) in
        inr (
          right_at_end F z u t rest b r p' row at_u,
          moves_met F z u t (move_keeps F z s u m inv) rest (change b)
              (move_met F z s u inv m (change b) met),
        )

    by_rest : Kind F z s u (built_by m) → BuiltSince F z u t b → BuiltSince F z s t b
    by_rest k (inr h) = inr h
    by_rest (inl k) (inl e) = inl (e ∙ ap (λ (G : Graph). G.built b) k.0.graph)
    by_rest (inr k) (inl e) = by_made k.0 e (node_or_other b k.0.bind)

-- ---- how many are built

-- a live bind that stands, and is built for what its left gives
pub record Lasts (F : Functions) (G : Graph) (b : NodeId) (r : Row) (w : Built) : Type 0 where
  pub row : G.row b ≡ Some r
  pub stands : Stands F G r.scope
  pub built : G.built b ≡ Some w
  pub right : IsBuiltRight F G b

-- it isn't due
pub not_due : (F : Functions) (z : Start) (s : State) (b : NodeId) (r : Row) (w : Built) (c : NodeId) (now : Outcome) (made : Remade)
    → Rebuild F z s c now made → Lasts F s.graph b r w → b ≡ c → ⊥
not_due F z s b r w c now made move h is =
    not_differing F s.graph b h.right (subst (λ (n : NodeId). LeftDiffers F s.graph n) (sym is) (due_differs F z s c now made move))

-- and it lasts where another is built anew, or couldn't be
pub lasts_on : (F : Functions) (z : Start) (s : State) (b : NodeId) (r : Row) (w : Built) (c : NodeId) (now : Outcome) (made : Remade)
    → Rebuild F z s c now made → Lasts F s.graph b r w → Lasts F made.graph b r w
lasts_on F z s b r w c now made move h =
    let p = move.given.names.live b r h.row in
    let on = outlives F z s c now made move b r p h.row h.stands in
    let ne = not_due F z s b r w c now made move h in
    record {
      row = on.1;
      stands = on.2;
      built = move.rebuilt.built b p ne on.0 ∙ h.built;
      right = right_on F z s c now made move b r p on.1 ne h.right;
    }

-- it lasts over moves
lasts : (F : Functions) (z : Start) (s t : State) → Moves F z s t → (b : NodeId) (r : Row) (w : Built) → Lasts F s.graph b r w
    → Lasts F t.graph b r w
lasts F z s t here b r w h = h
lasts F z s t (step {b = u} m rest) b r w h = lasts F z u t rest b r w (on (kind_of F z s u m))
  where
    on : Kind F z s u (built_by m) → Lasts F u.graph b r w
    on (inl k) = subst (λ (G : Graph). Lasts F G b r w) (sym k.0.graph) h
    on (inr k) = subst (λ (x : State). Lasts F x.graph b r w) (sym k.0.is)
        (lasts_on F z s b r w k.0.bind k.0.outcome k.0.made k.0.rebuild h)

-- a bind that was built anew does
made_lasts : (F : Functions) (z : Start) (s t : State) (k : Makes F z s t) → Lasts F t.graph k.bind k.rebuild.due.row k.built.built
made_lasts F z s t k =
    let due = k.rebuild.due in
    let on = outlives F z s k.bind k.outcome k.made k.rebuild k.bind due.row (bind_given F z s k.bind k.outcome k.made k.rebuild) due.is_row
    due.stands in
    subst (λ (x : State). Lasts F x.graph k.bind due.row k.built.built) (sym k.is) (record {
      row = on.1;
      stands = on.2;
      built = k.built.is_built;
      right = made_right F z s k.bind k.outcome k.made k.rebuild k.built due.row on.1;
    })

-- the binds that a run built for values: each lasts, and has a root; one that was given before had a left that differed
pub record Few (F : Functions) (s t : State) : Type 0 where
  pub binds : List NodeId
  pub once : NoRepeats binds
  pub due : (b : NodeId) → Among b binds → Given s.given b → LeftDiffers F s.graph b
  pub last : (b : NodeId) → Among b binds → (r : Row) × (w : Built) × Lasts F t.graph b r w × IsSome w.root
  pub count : RoseAtMost s.builds (length binds) t.builds

module _ (F : Functions) (z : Start) (s u t : State) (rest : Moves F z u t) (next : Few F u t) where
  due_on : Makes F z s u → (b : NodeId) → Among b next.binds → Given s.given b → LeftDiffers F s.graph b
  due_on k b a p = differed F z s u k b p (next.due b a (later s.given u.given b (grows F z s u (k.bind ∷ []) (inr (k, refl))) p))

  counted_on : (k : Makes F z s u) (o : Outcome) → k.outcome ≡ o → {n : ℕ} → RoseAtMost u.builds n t.builds
      → RoseAtMost s.builds (builds_of o + n) t.builds
  counted_on k o is count =
      let e : u.builds ≡ k.made.builds = ap (λ (x : State). x.builds) k.is in
      let first : RoseBy s.builds (builds_of o) k.made.builds = subst (λ (x : Outcome). RoseBy s.builds (builds_of x) k.made.builds) is k.count in
      let a = first.kept in let b = first.most in let c = count.kept in let d = count.within in
      record { kept = omega (arith, e, a, c); within = omega (arith, e, b, d) }

  few_made : (k : Makes F z s u) (o : Outcome) → k.outcome ≡ o → Few F s t
  few_made k Invalid is = record {
    binds = next.binds;
    once = next.once;
    due = due_on k;
    last = next.last;
    count = let c = counted_on k Invalid is next.count in let a = c.within in record { kept = c.kept; within = omega (arith, a) };
  }
  few_made k (Val v) is = record {
    binds = k.bind ∷ next.binds;
    once = (twice, next.once);
    due = λ b a p. elim a [
      | inl e ↦ subst (λ (n : NodeId). LeftDiffers F s.graph n) (sym e) (due_differs F z s k.bind k.outcome k.made k.rebuild)
      | inr after ↦ due_on k b after p
    ];
    last = λ b a. elim a [
      | inl e ↦ subst (λ (n : NodeId). (r : Row) × (w : Built) × Lasts F t.graph n r w × IsSome w.root) (sym e) own
      | inr after ↦ next.last b after
    ];
    count = let c = counted_on k (Val v) is next.count in let a = c.within in record { kept = c.kept; within = omega (arith, a) };
  }
    where
      own : (r : Row) × (w : Built) × Lasts F t.graph k.bind r w × IsSome w.root
      own =
          let root = k.built.rooted.unfolds v (k.built.for_outcome ∙ is) in (
            k.rebuild.due.row,
            k.built.built,
            lasts F z u t rest k.bind k.rebuild.due.row k.built.built (made_lasts F z s u k),
            subst (λ (x : Option NodeId). IsSome x) (sym root.1) refl,
          )

      twice : Among k.bind next.binds → ⊥
      twice a =
          let p = later s.given u.given k.bind (grows F z s u (k.bind ∷ []) (inr (k, refl)))
          (bind_given F z s k.bind k.outcome k.made k.rebuild) in
          not_differing F u.graph k.bind (made_lasts F z s u k).right (next.due k.bind a p)

few_on : (F : Functions) (z : Start) (s u t : State) → Moves F z u t → Few F u t → (binds : List NodeId) → Kind F z s u binds → Few F s t
few_on F z s u t rest next binds (inr k) = few_made F z s u t rest next k.0 k.0.outcome refl
few_on F z s u t rest next binds (inl k) = record {
  binds = next.binds;
  once = next.once;
  due = λ b a p.
      let g = k.0.given in
      subst (λ (G : Graph). LeftDiffers F G b) k.0.graph (next.due b a (omega (arith, g, p)));
  last = next.last;
  count = rw k.0.builds at next.count;
}

pub run_few : (F : Functions) (z : Start) (s t : State) → Moves F z s t → Few F s t
run_few F z s t here = record {
  binds = [];
  once = tt;
  due = λ b a p. absurd a;
  last = λ b a. absurd a;
  count = record { kept = omega arith; within = omega arith };
}
run_few F z s t (step {b = u} m rest) = few_on F z s u t rest (run_few F z u t rest) (built_by m) (kind_of F z s u m)

-- what lasts has a root, if it was built with one
pub with_root : (F : Functions) (G : Graph) (b : NodeId) (r : Row) (w : Built) → Lasts F G b r w → IsSome w.root
    → (right : IsBuiltRight F G b) × IsSome right.built.root
with_root F G b r w h there =
    let a = h.right.is_built in let k = h.built in
    let same : w ≡ h.right.built = cc in
    (h.right, subst (λ (x : Built). IsSome x.root) same there)

pub run_builds_few : RunBuildsFew
run_builds_few F z s t run =
    let few = run_few F z s t run in
    record {
      binds = few.binds;
      once = few.once;
      built = λ b a. let l = few.last b a in record { due = few.due b a; now = inl (with_root F t.graph b l.0 l.1 l.2 l.3) };
      count = few.count;
    }

pub built_stays : BuiltStays
built_stays F z s t entry run b r p row = built_on F z s t (entry_holds F z s entry) run b r p row

-- ---- a round that is refused

abbrev KeptApart : (F : Functions) (z : Start) (u : State) → Type 0
KeptApart F z u = (v : State) × Invariant F z v × (u ≡ called_more v u.calls)

pub refused_keeps : RefusedKeeps
refused_keeps F z s t u entry run (as_it_is e) =
    subst (λ (x : State). KeptApart F z x) (sym e) (t, moves_keep F z s t run (entry_holds F z s entry), refl)
refused_keeps F z s t u entry run (unbuilt {b} {now} {m} r none empty count e) =
    let inv = moves_keep F z s t run (entry_holds F z s entry) in
    subst (λ (x : State). KeptApart F z x) (sym e) (remade t m, rebuild_keeps F z t inv b now m r (inl none), refl)
refused_keeps F z s t u entry run (unkept {calls'} quiet taken row due count e) =
    subst (λ (x : State). KeptApart F z x) (sym e) (t, moves_keep F z s t run (entry_holds F z s entry), refl)
