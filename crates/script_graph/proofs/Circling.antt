-- A stabilize that was refused for a cycle is one of the script.
use Rattle.std.proofs.Common.{◌≡◌, inl, inr, ℕ, ◌<◌, true, false, Bool, List, [], ◌∷◌, ◌++◌, Option, None, Some, is_some, option_map, refl, ap, sym, subst, ◌∙◌, arith, slice_get}
use Rattle.std.proofs.lemmas.Option.{slice_get-map, slice_get_within}
use Rattle.height_order.specs.Chains as chains
use Rattle.inc_value.specs.Choice.{Among, Every as Each, and_then}
use Rattle.inc_value.specs.Walk.{IsWalk}
use Rattle.inc_value.specs.declared.function.FnRef.{FnRef}
use Rattle.inc_value.specs.declared.node.NodeId.{NodeId}
use Rattle.inc_value.specs.declared.node.Part.TheVariants.{Change as ChangePart, Main as MainPart}
use Rattle.inc_value.specs.declared.node.Point.{Point}
use Rattle.inc_value.specs.declared.outcome.Outcome.{Outcome as GraphOutcome}
use Rattle.inc_value.specs.declared.outcome.Outcome.TheVariants as outcome
use Rattle.inc_value.specs.declared.value.Value.{Value as GraphValue}
use Rattle.inc_terms.specs.Depend.{Depends, gate, ghost, fixed, right, main, change}
use Rattle.inc_terms.specs.Graph as graph_def
use Rattle.inc_terms.specs.Graph.{Graph, Row, Built as BuiltFor}
use Rattle.inc_terms.specs.Rebuild.{direct}
use Rattle.inc_terms.specs.Term as term
use Rattle.inc_terms.specs.Term.{Functions}
use Rattle.inc_terms.proofs.Same.{outcome_decides}
use Rattle.stabilizer.specs.Left.{ComesBack, IsListedIn, IsLawfulIn}
use Rattle.graph.specs.Sound.{IsWhole}
use Rattle.graph.specs.Stabilizes.{IsRefusedFor, HasCalledMet, left_by, died_by}
use Rattle.graph.specs.Standing.{look, GraphView, IsOwner, graph}
use Rattle.observers.specs.Observers.{in_use}
use Rattle.graph.specs.Fault.{kept_of}
use Rattle.graph.specs.declared.fault.Kept.TheVariants as fault
use Rattle.script_model.specs.Blocked.{IsCycle}
use Rattle.script_model.specs.Check.{Declared, declared_of, target_of_body}
use Rattle.script_model.specs.Formula as script
use Rattle.script_model.specs.Formula.{State, Entry, Body, Formula, Meanings, meanings_of, body_at, entry_at, Name, Bind, Variable, Computed, Freeze, After, Every, Expert, Grab}
use Rattle.script_model.specs.Need.{Left, Named, Met}
use Rattle.script_model.specs.Step as step
use Rattle.script_model.specs.Step.{Moment, Stabilizes, by_cycle}
use Rattle.script_model.specs.Values.{Value, Outcome, Val, Invalid}
use Rattle.script_graph.specs.Growing.{functions_over}
use Rattle.script_graph.specs.Kept.{Kept, node_in, without_functions}
use Rattle.script_graph.specs.Represents.{graph_functions}
use Rattle.script_graph.specs.Stabilizing as told
use Rattle.script_graph.specs.Stabilizing.{IsCircular, PassesFrom, PassesAll, PassesMet, CyclePasses}
use Rattle.script_graph.specs.State.{Stands}
use Rattle.script_graph.proofs.Apart.{parts_apart}
use Rattle.script_graph.proofs.ComingBack.{once_behind}
use Rattle.script_graph.proofs.CuttingShort.{kept_whole, session_broken, session_calls}
use Rattle.script_graph.proofs.Declaring.{named_entry}
use Rattle.script_graph.proofs.Middle.{IsStabilize, IsBindNode, middle, fits_then, tops, bind_node, left_node, left_formula, rooted_then, aged_then}
use Rattle.script_graph.proofs.OneOwner.{one_owner, owned_is_live}
use Rattle.script_graph.proofs.Extending.{body_past}
use Rattle.script_graph.proofs.Owning.{HasOwnNode, own_body, own_or_grab}
use Rattle.script_graph.proofs.Refusing.{IsSessions, grabs_before, formulas_stay, kept_so, functions_so, moment_unbroken, stabilize_of}
use Rattle.script_graph.proofs.Remembering.{meeting_is_covered}
use Rattle.wiring.specs.declared.refused.Refused.{Refused}
use Rattle.wiring.specs.declared.refused.Refused.TheVariants as refused
use Rattle.transfer.specs.Both.{Both, graph_value, graph_outcome}
use Rattle.transfer.specs.Cycles.{PartsApart, IsOwnRoot, IsPassed, Passes, EndsAt}
use Rattle.transfer.specs.Shows.{Built, Declares, Fits, IsOwn, Shows}
use Rattle.transfer.proofs.Agreement.{live_facts, root_row}
use Rattle.transfer.proofs.Carriers.{place_agrees}
use Rattle.transfer.proofs.Commands.{own_target}
use Rattle.transfer.proofs.Cycles.{cycles_are_named}
use Rattle.transfer.proofs.Going.{form_other, rooted_at}
use Rattle.transfer.proofs.Places.{root_kid, stands_none}
use Rattle.transfer.proofs.Staying.{other_row}
use Rattle.transfer.proofs.Typed.{bind_body, body_entry, body_typed}

-- ---- cycles

ends_as : (points : List Point) (p : Point) → chains.EndsAt points p → EndsAt p points
ends_as [] p e = e
ends_as (q ∷ []) p e = e
ends_as (q ∷ r ∷ rest) p e = ends_as (r ∷ rest) p e

only_one : {A : Type 0} (a b : A) → Among a (b ∷ []) → a ≡ b
only_one a b (inl e) = e
only_one a b (inr none) = absurd none

main_node : (m n : NodeId) → main m ≡ main n → m ≡ n
main_node m n e = ap (λ (p : Point). p.node) e

-- ---- the stabilize

module _ (named : List ℕ → Option FnRef) (value : FnRef → List GraphValue → GraphValue) (m : Moment) (k : Kept) (g : GraphView (Unit {0}))
    (stands : Stands (meanings_of named value) k m) (unbroken : m.broken ≡ None) (c : IsStabilize (meanings_of named value) m.present k g)
    (whole : IsWhole c.meaning k.graph) where
  abbrev F : Meanings
  F = meanings_of named value

  abbrev M : Functions
  M = graph_functions F k.bodies

  abbrev s : State
  s = m.present

  abbrev y : Both
  y = middle F s k g

  abbrev G' : Graph
  G' = graph g

  fits : Fits y
  fits = fits_then named value s k g c

  -- ---- what a bind's main leads to

  -- the root of a bind that is declared shows its body
  pub record IsRootOf (bind : ℕ) (n : NodeId) (body : Formula) : Type 0 where
    pub of : Value
    pub shows : Shows y (Built (Some (node_in k.nodes bind))) (record { value = of; mode = Built (Some (node_in k.nodes bind)) } ∷ []) (term.Ref n) body

  root_of : (bind : ℕ) (left body : Formula) (kept : script.Kept) (n : NodeId) → body_at s bind ≡ Some (Computed (Bind left body) kept)
      → Depends M y.graph y.died (main (node_in k.nodes bind)) (main n) → IsRootOf bind n body
  root_of bind left body kept n is dep = by_dep dep
    where
      there : IsBindNode named value s k g c bind
      there = bind_node named value s k g c bind left body kept is

      on : G'.row (node_in k.nodes bind) ≡ Some there.row
      on = tops named value s k g c (node_in k.nodes bind) there.row there.is_row there.outside

      same_row : (r : Row) → G'.row (node_in k.nodes bind) ≡ Some r → there.row ≡ r
      same_row r row = let e : Some there.row ≡ Some r = sym on ∙ row in cc

      shows : Shows y (Built None) [] (term.Ref (node_in k.nodes bind)) (Bind left body)
      shows = rw is at (fits.declared bind)

      by_value : (w : BuiltFor) (o : GraphOutcome) (p : Outcome) → o ≡ graph_outcome (node_in k.nodes) p
          → G'.built (node_in k.nodes bind) ≡ Some w → w.outcome ≡ o → w.root ≡ Some n
          → IsRootOf bind n body
      by_value w o (Val v) is_o built out root =
          let for : w.outcome ≡ outcome.Val (graph_value (node_in k.nodes) v) = out ∙ is_o in
          let decided = (outcome_decides w.outcome (outcome.Val (graph_value (node_in k.nodes) v))).1 for in
          record {
            of = v;
            shows = root_kid y fits None [] (node_in k.nodes bind) left body v n shows (rw (built, decided) root);
          }
      by_value w o Invalid is_o built out root =
          let rooted = rooted_then named value s k g c (node_in k.nodes bind) there.row there.left there.function there.captures w on there.is_bind built in
          absurd (let none = rooted.rootless (out ∙ is_o) in let clash : None ≡ Some n = sym none ∙ root in cc)

      by_dep : Depends M y.graph y.died (main (node_in k.nodes bind)) (main n) → IsRootOf bind n body
      by_dep (gate {r} {b = d} row scope to) = absurd (let none = ap (λ (q : Row). q.scope) (sym (same_row r row)) ∙ there.outside in
          let clash : None ≡ Some d = sym none ∙ scope in cc)
      by_dep (ghost gone died to) = absurd (let clash : None ≡ Some there.row = sym gone ∙ on in cc)
      by_dep (fixed {r} row stand among) =
          let def : r.def ≡ graph_def.Bind there.left there.function there.captures =
          ap (λ (q : Row). q.def) (sym (same_row r row)) ∙ there.is_bind in
          absurd (let one = only_one (main n) (change (node_in k.nodes bind)) (rw def at among) in
          let parts : MainPart ≡ ChangePart = ap (λ (p : Point). p.part) one in cc)
      by_dep (right {r} {s = l} {o} {m = d} row stand is_main subject gives among to) =
          let def : r.def ≡ graph_def.Bind there.left there.function there.captures =
          ap (λ (q : Row). q.def) (sym (same_row r row)) ∙ there.is_bind in
          let lefts : l ≡ there.left = (let e : Some there.left ≡ Some l = rw def at subject in cc) in
          let w = rooted_at (G'.built (node_in k.nodes bind)) o d (rw def at among) in
          let p = place_agrees y fits bind (Left ∷ []) left l o (left_formula named value s k g c bind left body kept is)
          (left_node named value s k g c bind left body kept is y refl there.row l there.function there.captures on
          (there.is_bind ∙ ap (λ (z : NodeId). graph_def.Bind z there.function there.captures) (sym lefts))) (stands_none y) gives in
          by_value w.0 o p.0 p.1 w.1 w.2 (w.3 ∙ ap (λ (z : NodeId). Some z) (sym (main_node n d to)))

  -- ---- the declarations whose mains are passed

  grab_bind : (n b : ℕ) (v : Value) (is_live : Bool) → body_at s n ≡ Some (Grab b v is_live)
      → (left : Formula) × (body : Formula) × (kept : script.Kept) × (body_at s b ≡ Some (Computed (Bind left body) kept))
  grab_bind n b v is_live is =
      let h = (body_typed F s c.valid n (Grab b v is_live) is).1 in
      let bind = bind_body s b h.left h.body h.stands in
      (h.left, h.body, bind.0, bind.1)

  -- a grab is of an earlier bind
  grab_later : (n b : ℕ) (v : Value) (is_live : Bool) → body_at s n ≡ Some (Grab b v is_live) → b < n
  grab_later n b v is_live is = (c.held.today.plain n (Grab b v is_live) is).0.0

  own_target_of : (n : ℕ) (b : Body) → body_at s n ≡ Some b → IsOwn (Some b) → (e : Entry) × (entry_at s n ≡ Some e) × (e.target ≡ n)
  own_target_of n b is mine =
      let e = body_entry s n b is in (e.0, e.1, c.held.targets n e.0 e.1 ∙ (ap (target_of_body n) e.2 ∙ own_target n b mine))

  -- where a bind's main leads to the node of a grab of it, that is its root, and stands in its scope
  own_root_stands : (n b : ℕ) (v : Value) (is_live : Bool) → body_at s n ≡ Some (Grab b v is_live)
      → Depends M y.graph y.died (main (node_in k.nodes b)) (main (node_in k.nodes n))
      → (r : Row) × (G'.row (node_in k.nodes n) ≡ Some r) × (r.scope ≡ Some (node_in k.nodes b))
  own_root_stands n b v is_live is dep =
      let bind = grab_bind n b v is_live is in
      by_body bind.0 bind.1 bind.2 bind.3 (root_of b bind.0 bind.1 bind.2 (node_in k.nodes n) bind.3 dep)
    where
      by_body : (left body : Formula) (kept : script.Kept) → body_at s b ≡ Some (Computed (Bind left body) kept) → IsRootOf b (node_in k.nodes n) body
          → (r : Row) × (G'.row (node_in k.nodes n) ≡ Some r) × (r.scope ≡ Some (node_in k.nodes b))
      by_body left (Name t) kept is_bind root =
          let reads = (c.held.today.plain b (Computed (Bind left (Name t)) kept) is_bind).1.1 in
          let node : (node_in k.nodes n) ≡ node_in k.nodes t = (let e = root.shows in cc) in
          absurd (by_target t reads.0 reads.1 node (body_at s t) refl)
        where
          by_target : (t : ℕ) → t < b → IsOwn (body_at s t) → (node_in k.nodes n) ≡ node_in k.nodes t → (d : Option Body) → body_at s t ≡ d → ⊥
          by_target t low mine node None none =
              let high = body_past s t none in
              let later = grab_later n b v is_live is in
              let e = body_entry s n (Grab b v is_live) is in
              let within = slice_get_within s.entries n e.0 e.1 in
              omega (arith, high, later, within, low)
          by_target t low mine node (Some d) at =
              let first = own_target_of t d at (subst IsOwn at mine) in
              let second = own_target_of n (Grab b v is_live) is tt in
              let same : t ≡ n = c.held.apart t n first.0 second.0 first.1 second.1 first.2 second.2 (sym node) in
              let later = grab_later n b v is_live is in
              omega (arith, low, same, later)
      by_body left body kept is_bind root = root_row y fits (node_in k.nodes b) root.of (node_in k.nodes n) body (λ t e. cc) root.shows

  -- the node of a name that is no grab stands outside all scopes
  name_outside : (n : ℕ) (b : Body) → body_at s n ≡ Some b → HasOwnNode b → (r : Row) × (G'.row (node_in k.nodes n) ≡ Some r) × (r.scope ≡ None)
  name_outside n (Variable v) is mine = let h = rw is at (fits.declared n) in (h.0, h.1, h.2)
  name_outside n (Computed f kept) is mine = elim (form_other f mine) [
    | inl (j, e) ↦ absurd (let none = (rw (is, e) at (fits.declared n)).1 in cc)
    | inr other ↦ let row = other_row y None [] (node_in k.nodes n) f other (rw is at (fits.declared n)) in (row.0, row.2, row.3)
  ]
  name_outside n (Grab b v is_live) is mine = absurd mine
  name_outside n (After time) is mine = let h = rw is at (fits.declared n) in (h.0, h.1, h.2)
  name_outside n (Every base span) is mine = let h = (rw is at (fits.declared n)).0 in (h.0, h.1, h.2)
  name_outside n (Freeze child predicate frozen) is mine = let h = (rw is at (fits.declared n)).1 in (h.0, h.1, h.2)
  name_outside n (Expert f first links stale) is mine = let h = (rw is at (fits.declared n)).1 in (h.0, h.1, h.2)

  abbrev IsTold : Point → Point → ℕ → Type 0
  IsTold p q n = told.IsPassed g k.names.declared k.nodes p q n

  main_passed : (p q : Point) (n : ℕ) → Depends M y.graph y.died p q → IsTold p q n → IsPassed y p q n
  main_passed p q n dep (d, at, mine, is, not_root) =
      let e = named_entry k.names s stands.matches.names.declared n d at in
      let target : target_of_body n e.0.body ≡ n = sym (c.held.targets n e.0 e.1) ∙ (ap (λ (z : Declared). z.target) e.2 ∙ mine) in
      let body : body_at s n ≡ Some e.0.body = ap (λ (o : Option Entry). and_then o (λ (z : Entry). Some z.body)) e.1 in
      ((e.0.body, body, own_body s c.held.today.plain n e.0.body body target), is, λ root. no_root root)
    where
      no_root : IsOwnRoot y p n → ⊥
      no_root (b, v, is_live, grab, from) =
          let to : Depends M y.graph y.died (main (node_in k.nodes b)) (main (node_in k.nodes n)) =
          subst (λ (z : Point). Depends M y.graph y.died (main (node_in k.nodes b)) z) is (subst (λ (z : Point). Depends M y.graph y.died z q) from dep) in
          let r = own_root_stands n b v is_live grab to in
          let bind = grab_bind n b v is_live grab in
          let there = bind_node named value s k g c b bind.0 bind.1 bind.2 bind.3 in
          let on = tops named value s k g c (node_in k.nodes b) there.row there.is_row there.outside in
          let node : q.node ≡ node_in k.nodes n = ap (λ (z : Point). z.node) is in
          let owner : IsOwner G' (node_in k.nodes n) (node_in k.nodes b) =
          record { row = there.row; is_row = on; outside = there.outside; round = inr (direct r.1 r.2) } in
          not_root (
            node_in k.nodes b,
            subst (λ (z : NodeId). IsOwner G' z (node_in k.nodes b)) (sym node) owner,
            λ same. clash r.0 there.row r.1 on r.2 there.outside (same ∙ node),
            from,
          )
        where
          clash : {B N : NodeId} (r q : Row) → G'.row N ≡ Some r → G'.row B ≡ Some q → r.scope ≡ Some B → q.scope ≡ None → B ≡ N → ⊥
          clash {B} r q row row' scope outside same =
              let rows : q ≡ r = (let e : Some q ≡ Some r = sym row' ∙ (ap G'.row same ∙ row) in cc) in
              let e : None ≡ Some B = sym outside ∙ (ap (λ (z : Row). z.scope) rows ∙ scope) in cc

  passed_main : (p q : Point) (n : ℕ) → IsPassed y p q n → IsTold p q n
  passed_main p q n ((b, body, mine), is, root) =
      let e = own_target_of n b body mine in
      let declared : slice_get k.names.declared n ≡ Some (declared_of e.0) =
      ap (λ (ds : List Declared). slice_get ds n) stands.matches.names.declared
      ∙ (slice_get-map declared_of s.entries n ∙ ap (λ (o : Option Entry). option_map declared_of o) e.1) in
      (declared_of e.0, declared, e.2, is, λ r. no_root r)
    where
      node : q.node ≡ node_in k.nodes n
      node = ap (λ (z : Point). z.node) is

      no_root : told.IsOwnRoot g p q.node → ⊥
      no_root (top, owner, other, from) = elim (own_or_grab b mine) [
        | inl own_node ↦
            let r = name_outside n b body own_node in
            let itself : IsOwner G' q.node q.node =
            record { row = r.0; is_row = ap G'.row node ∙ r.1; outside = r.2; round = inl refl } in
            other (one_owner G' q.node top q.node owner itself)
        | inr grab ↦ by_grab grab.0 grab.1 grab.2 (body ∙ ap (λ (z : Body). Some z) grab.3) (fits.declared n)
      ]
        where
          gone : G'.row (node_in k.nodes n) ≡ None → ⊥
          gone none =
              let some = owned_is_live G' q.node top owner in
              let clash = sym some ∙ ap is_some (ap G'.row node ∙ none) in cc

          by_grab : (bind : ℕ) (v : Value) (is_live : Bool) → body_at s n ≡ Some (Grab bind v is_live) → Declares y (node_in k.nodes n) (body_at s n) → ⊥
          by_grab bind v false at h = let d = rw at at h in gone d.0
          by_grab bind v true at h = by_life (rw at at h)
            where
              by_life : Declares y (node_in k.nodes n) (Some (Grab bind v true)) → ⊥
              by_life (inr lost) = gone lost.1
              by_life (inl live) =
                  let f = live_facts y fits n bind v at live in
                  let there = bind_node named value s k g c bind f.0 f.1 f.2 f.3 in
                  let on = tops named value s k g c (node_in k.nodes bind) there.row there.is_row there.outside in
                  let its : IsOwner G' (node_in k.nodes n) (node_in k.nodes bind) =
                  record { row = there.row; is_row = on; outside = there.outside; round = inr (direct f.6 f.7) } in
                  let same : top ≡ node_in k.nodes bind =
                  one_owner G' (node_in k.nodes n) top (node_in k.nodes bind) (subst (λ (z : NodeId). IsOwner G' z top) node owner) its in
                  root (bind, v, true, at, from ∙ ap main same)

  -- they are the names that are passed
  mains_passed : (p : Point) (points : List Point) (targets : List ℕ) → IsWalk (Depends M y.graph y.died) (p ∷ points)
      → PassesFrom g k.names.declared k.nodes p points targets → Passes y p points targets
  mains_passed p [] targets walk mains = mains
  mains_passed p (q ∷ points) targets walk (inl (none, mains)) =
      inl (λ n passed. none n (passed_main p q n passed), mains_passed q points targets walk.1 mains)
  mains_passed p (q ∷ points) targets walk (inr (n, more, same, is, mains)) =
      inr (n, more, same, main_passed p q n walk.0 is, mains_passed q points more walk.1 mains)

  -- ---- parts of formulas have other nodes than declarations

  pub parts_are_apart : PartsApart y
  parts_are_apart =
      parts_apart F s k.nodes M y.graph y.died c.valid c.keep fits c.held.apart c.held.today.plain
      (aged_then named value s k g c) c.sound'.scopes

  -- ---- the cycle

  -- the names that a listed cycle passes are a cycle of met names, with the first of them once more at its end
  passed_cycle : (p q : Point) (rest : List Point) (names : List ℕ)
      → IsListedIn M (left_by k.graph g) (died_by k.graph g) (look k.graph) (in_use k.graph.observers) (p ∷ q ∷ rest) → ComesBack (p ∷ q ∷ rest)
      → Passes y p (q ∷ rest) names → (first : ℕ) × (more : List ℕ) × (names ≡ first ∷ more) × IsCycle F s (first ∷ (more ++ first ∷ []))
      × Each (λ n. Met F m.settled s (Named n)) names
  passed_cycle p q rest names listed back passes =
      let covered = meeting_is_covered named value m k g stands unbroken c whole p (listed.met p refl) in
      cycles_are_named y fits c.keep c.valid c.held.apart parts_are_apart m.settled (grabs_before named value m k g stands unbroken c whole)
      (formulas_stay named value m k g stands unbroken c whole) p q rest names covered listed.walk
      (subst (λ (r : Point). EndsAt r (q ∷ rest)) (sym back.starts) (ends_as (q ∷ rest) back.point back.ends))
      (once_behind p q back.point rest back.front back.is_front back.starts back.once) passes

  -- the model may refuse the stabilize for the declarations that the cycle passes
  abbrev Refuses : List ℕ → Type 0
  Refuses targets = (first : ℕ) × (more : List ℕ) × (targets ≡ first ∷ more) × Stabilizes F m (record m { broken = Some 20 })
      (step.Refused (step.Cycle (first ∷ (more ++ first ∷ []))) ∷ [])

  circular : (points : List Point) (targets : List ℕ) → IsListedIn M (left_by k.graph g) (died_by k.graph g) (look k.graph) (in_use k.graph.observers) points
      → ComesBack points → PassesAll g k.names.declared k.nodes points targets → Refuses targets
  circular [] targets listed back mains = absurd back.starts
  circular (p ∷ []) targets listed back mains = absurd (let long = back.long in omega (arith, long))
  circular (p ∷ q ∷ rest) targets listed back mains =
      let r = passed_cycle p q rest targets listed back (mains_passed p (q ∷ rest) targets listed.walk mains) in
      let met = subst (λ (ns : List ℕ). Each (λ n. Met F m.settled s (Named n)) ns) r.2 r.4 in
      (r.0, r.1, r.2, by_cycle (r.0 ∷ (r.1 ++ r.0 ∷ [])) r.0 r.3 (inl refl) met.0 refl refl)

  pub circular_met : (met : Option Refused) (r : Refused) (targets : List ℕ) → met ≡ Some r → kept_of r ≡ fault.Cycle
      → IsLawfulIn M (left_by k.graph g) (died_by k.graph g) (look k.graph) (in_use k.graph.observers) r → PassesMet g k.names.declared k.nodes met targets → Refuses targets
  circular_met None r targets e cause lawful passes = absurd passes
  circular_met (Some (refused.Cycle points)) (refused.Cycle others) targets e cause lawful passes =
      let same : points ≡ others = cc in
      circular others.items targets lawful.0 lawful.1 (subst (λ (v : _). PassesAll g k.names.declared k.nodes v.items targets) same passes)
  circular_met (Some (refused.Cycle points)) r targets e cause lawful passes = absurd (cc)
  circular_met (Some other) r targets e cause lawful passes = absurd passes

-- ---- over a graph with its functions

module _ {A : Type 0} (named : List ℕ → Option FnRef) (value : FnRef → List GraphValue → GraphValue) (k : Kept) (old new : GraphView A)
    (c : IsSessions value k old new) (done : IsRefusedFor (functions_over value k.bodies) old new fault.Cycle) (m : Moment)
    (stands : Stands (meanings_of named value) k m) where
  abbrev Means : Meanings
  Means = meanings_of named value

  abbrev H : Functions
  H = graph_functions Means k.bodies

  abbrev bare : GraphView (Unit {0})
  bare = without_functions new

  lawful : IsLawfulIn H (left_by k.graph bare) (died_by k.graph bare) (look k.graph) (in_use k.graph.observers) done.met
  lawful = kept_so named value k old new c m stands (λ (h : GraphView (Unit {0})). IsLawfulIn H (left_by h bare) (died_by h bare) (look h)
      (in_use h.observers) done.met) (functions_so named value k old new c m stands
      (λ (N : Functions). IsLawfulIn N (left_by old new) (died_by old new) (look old) (in_use old.observers) done.met) done.lawful)

  passes_bare : (p : Point) (points : List Point) (targets : List ℕ) → PassesFrom new k.names.declared k.nodes p points targets
      → PassesFrom bare k.names.declared k.nodes p points targets
  passes_bare p [] targets h = h
  passes_bare p (q ∷ points) targets (inl (none, rest)) = inl (none, passes_bare q points targets rest)
  passes_bare p (q ∷ points) targets (inr (n, more, same, is, rest)) = inr (n, more, same, is, passes_bare q points more rest)

  all_bare : (points : List Point) (targets : List ℕ) → PassesAll new k.names.declared k.nodes points targets
      → PassesAll bare k.names.declared k.nodes points targets
  all_bare [] targets h = h
  all_bare (p ∷ points) targets h = passes_bare p points targets h

  met_bare : (met : Option Refused) (targets : List ℕ) → PassesMet new k.names.declared k.nodes met targets
      → PassesMet bare k.names.declared k.nodes met targets
  met_bare None targets h = h
  met_bare (Some (refused.Cycle points)) targets h = all_bare points.items targets h
  met_bare (Some other) targets h = h

  -- a stabilize of a session's graph that was refused for a cycle is one of its script
  pub session_circular : (targets : List ℕ) (called calls : ℕ) → CyclePasses new k.names.declared k.nodes targets
      → HasCalledMet (functions_over value k.bodies) old new called calls → (first : ℕ) × (more : List ℕ) × (targets ≡ first ∷ more)
      × IsCircular Means m (record k { broken = Some 20; graph = bare }) (first ∷ (more ++ first ∷ [])) called calls
  session_circular targets called calls passes few =
      let r = circular_met named value m k bare stands (moment_unbroken named value k old new c m stands) (stabilize_of named value k old new c m stands)
      (kept_whole named value k old new c m stands done.was) new.refused done.met targets done.broken done.is_cause lawful
      (met_bare new.refused targets passes) in (
        r.0,
        r.1,
        r.2,
        record {
          after = record m { broken = Some 20 };
          stabilizes = r.3;
          within = session_calls named value k old new c m stands called calls done.was few;
          matches = session_broken named value k old new c m stands 20 fault.Cycle done;
        },
      )
