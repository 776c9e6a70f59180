-- A stabilize that was refused for depth is one of the script.
use Rattle.std.proofs.Common.{◌≡◌, ◌⊎◌, inl, inr, ℕ, ◌<◌, List, [], ◌∷◌, length, Option, None, Some, is_some, option_map, true, refl, ap, sym, subst, ◌∙◌, arith, slice_get}
use Rattle.std.proofs.lemmas.Option.{slice_get-map, slice_get_within}
use Rattle.height_order.specs.Chains.{StartsAt}
use Rattle.inc_value.specs.Choice.{NoRepeats}
use Rattle.inc_value.specs.declared.function.FnRef.{FnRef}
use Rattle.inc_value.specs.declared.node.NodeId.{NodeId}
use Rattle.inc_value.specs.declared.node.Point.{Point}
use Rattle.inc_value.specs.declared.value.Value.{Value as GraphValue}
use Rattle.inc_terms.specs.Graph.{Graph, Row}
use Rattle.inc_terms.specs.Term.{Functions}
use Rattle.stabilizer.specs.Look.{Look}
use Rattle.stabilizer.specs.Left.{IsListedIn, IsLawfulIn}
use Rattle.graph.specs.Sound.{IsWhole}
use Rattle.graph.specs.Stabilizes.{IsRefusedFor, HasCalledMet, left_by, died_by}
use Rattle.graph.specs.Standing.{look, GraphView, IsOwner, graph}
use Rattle.observers.specs.Observers.{in_use}
use Rattle.graph.specs.Fault.{kept_of}
use Rattle.graph.specs.declared.fault.Kept.TheVariants as fault
use Rattle.script_model.specs.Blocked.{IsPrintedFor, own, of_bind}
use Rattle.script_model.specs.Check.{Declared, declared_of, target_of_body}
use Rattle.script_model.specs.Depth.{TooDeep}
use Rattle.script_model.specs.Formula.{State, Entry, Body, Meanings, entry_at, meanings_of, body_at, Computed, Bind, Grab}
use Rattle.script_model.specs.Need.{Item, Named, Met}
use Rattle.script_model.specs.Step.{Moment, by_height}
use Rattle.script_model.specs.Values.{Value}
use Rattle.script_graph.specs.Growing.{functions_over}
use Rattle.script_graph.specs.Kept.{Kept, node_in, without_functions}
use Rattle.script_graph.specs.Represents.{graph_functions}
use Rattle.script_graph.specs.Stabilizing.{IsTooDeep, ChainBegins, IsFirstNotOlder, IsOwnNode, IsTold, of_owner, of_grab, NoneTold}
use Rattle.script_graph.specs.State.{Stands}
use Rattle.script_graph.specs.Today.{IsWithin}
use Rattle.script_graph.proofs.CuttingShort.{kept_whole, session_broken, session_calls}
use Rattle.script_graph.proofs.Declaring.{named_entry}
use Rattle.script_graph.proofs.Home.{HasHome, TellsOf, of_live, of_dead, home_within, top_home, tells}
use Rattle.script_graph.proofs.Middle.{IsStabilize, middle, fits_then, tops, bind_node}
use Rattle.script_graph.proofs.OneOwner.{one_owner, owned_is_live}
use Rattle.script_graph.proofs.Owner.{IsTooDeepAt, deep_owner}
use Rattle.script_graph.proofs.Owning.{aged_name}
use Rattle.script_graph.proofs.Refusing.{IsSessions, grabs_before, formulas_stay, met_is_closed, kept_so, functions_so, moment_unbroken, stabilize_of}
use Rattle.script_graph.proofs.Remembering.{meeting_is_covered}
use Rattle.wiring.specs.declared.refused.Refused.{Refused}
use Rattle.wiring.specs.declared.refused.Refused.TheVariants as refused
use Rattle.transfer.specs.Both.{Both}
use Rattle.transfer.specs.Deep.{IsOfBind, IsToldOf, of_node, of_bind as told_of_bind, of_grab as told_of_grab}
use Rattle.transfer.specs.Items.{node_of}
use Rattle.transfer.proofs.Chains.{deep_has_item}
use Rattle.transfer.proofs.Commands.{own_target}
use Rattle.transfer.proofs.Typed.{body_entry, valid_grabs}

-- ---- owners

compared : (i j : ℕ) → (i < j) ⊎ ((i ≡ j) ⊎ (j < i))
compared i j = grind arith

-- the first declaration whose node isn't older owns the node
first_is_owner : (nodes : List NodeId) (n : NodeId) (target owner : ℕ) → IsFirstNotOlder nodes n target → IsWithin nodes owner n → target ≡ owner
first_is_owner nodes n target owner first within = go (compared target owner)
  where
    go : (target < owner) ⊎ ((target ≡ owner) ⊎ (owner < target)) → target ≡ owner
    go (inl low) = absurd (let a = within.later target low in let b = first.not_older in omega (arith, a, b))
    go (inr (inl same)) = same
    go (inr (inr high)) = absurd (let a = first.older owner high in let b = within.not_later in omega (arith, a, b))

-- ---- the stabilize

module _ (named : List ℕ → Option FnRef) (value : FnRef → List GraphValue → GraphValue) (m : Moment) (k : Kept) (g : GraphView (Unit {0}))
    (stands : Stands (meanings_of named value) k m) (unbroken : m.broken ≡ None) (c : IsStabilize (meanings_of named value) m.present k g)
    (whole : IsWhole c.meaning k.graph) where
  abbrev F : Meanings
  F = meanings_of named value

  abbrev s : State
  s = m.present

  abbrev y : Both
  y = middle F s k g

  abbrev G' : Graph
  G' = graph g

  -- a met item that is too deep, by the node of which the point tells: it is live, and one of a declaration's by which the item is printed, or the node of a
  -- dead grab
  pub data Tells (n : NodeId) : Type 0 where
    live : (i : Item) → Met F m.settled s i → TooDeep F s i → (home : ℕ) → home < length s.entries → HasHome named value s k g c home n
        → IsPrintedFor s home i → Tells n
    dead : (i : Item) → Met F m.settled s i → TooDeep F s i → (j : ℕ) (b : Body) → G'.row n ≡ None → body_at s j ≡ Some b → target_of_body j b ≡ j
        → node_in k.nodes j ≡ n → IsPrintedFor s j i → Tells n

  -- the item itself, or one that computes what its node gives, tells of the node
  by_node : (i : Item) (n : NodeId) → Met F m.settled s i → TooDeep F s i → node_of y i ≡ Some n → Tells n
  by_node i n met deep at =
      let j = deep_owner y (fits_then named value s k g c) c.held.today.plain m.settled
      (met_is_closed named value m k g stands unbroken c whole) i n met at deep in
      go j (tells named value s k g c j.item n j.computes j.is_node)
    where
      go : (j : IsTooDeepAt y m.settled n) → TellsOf named value s k g c j.item n → Tells n
      go j (of_live home low has printed) = live j.item j.met j.deep home low has printed
      go j (of_dead d b row is mine node e) =
          dead j.item j.met j.deep d b row is (own_target d b mine) node (subst (IsPrintedFor s d) (sym e) (own refl tt))

  -- so does what a point in the scope of the node tells of
  by_scope : (b n : NodeId) (r : Row) → G'.row n ≡ Some r → r.scope ≡ Some b → Tells b → Tells n
  by_scope b n r row scope (live i met deep home low has printed) =
      live i met deep home low (home_within named value s k g c home b n r row scope has) printed
  by_scope b n r row scope (dead i met deep j body gone is target node printed) =
      absurd (let q = c.sound'.scopes n r b row scope in let clash : None ≡ Some q.0 = sym gone ∙ q.4 in cc)

  by_bind : (b : NodeId) (p : Point) → IsOfBind y b p → Tells b → Tells p.node
  by_bind b p (inl e) t = subst Tells (ap (λ (q : Point). q.node) (sym e)) t
  by_bind b p (inr (r, row, scope)) t = by_scope b p.node r row scope t

  grab_tells : (i : Item) (j bind : ℕ) (v : Value) → Met F m.settled s i → TooDeep F s i → i ≡ Named j → body_at s j ≡ Some (Grab bind v true)
      → Tells (node_in k.nodes bind)
  grab_tells i j bind v met deep is body =
      let b = valid_grabs F s c.valid j bind v body in
      let there = bind_node named value s k g c bind b.0 b.1 b.2 b.3 in
      let on = tops named value s k g c (node_in k.nodes bind) there.row there.is_row there.outside in
      let e = body_entry s bind (Computed (Bind b.0 b.1) b.2) b.3 in
      live i met deep bind (slice_get_within s.entries bind e.0 e.1)
      (top_home named value s k g c bind (node_in k.nodes bind) there.row on there.outside
      (aged_name F s k c.held bind (Computed (Bind b.0 b.1) b.2) b.3 tt)) (of_bind j true v is body)

  told : (p : Point) (i : Item) → Met F m.settled s i → TooDeep F s i → IsToldOf y p i → Tells p.node
  told p i met deep (of_node at) = by_node i p.node met deep at
  told p i met deep (told_of_bind {b = b} is at of) = by_bind b p of (by_node i b met deep (ap (node_of y) is ∙ at))
  told p i met deep (told_of_grab {k = j} {bind} {v} is body of) = by_bind (node_in k.nodes bind) p of (grab_tells i j bind v met deep is body)

  -- ---- the chain

  listed_is_deep : (points : List Point) → IsListedIn (graph_functions F k.bodies) (left_by k.graph g) (died_by k.graph g) (look k.graph) (in_use k.graph.observers) points → length points ≡ 130
      → NoRepeats points → (p : Point) → StartsAt points p → Tells p.node
  listed_is_deep [] listed long once p starts = absurd starts
  listed_is_deep (q ∷ rest) listed long once p starts =
      let covered = meeting_is_covered named value m k g stands unbroken c whole q (listed.met q refl) in
      let i = deep_has_item y (fits_then named value s k g c) c.keep c.valid m.settled (grabs_before named value m k g stands unbroken c whole)
      (formulas_stay named value m k g stands unbroken c whole) (stands.matches.settled unbroken).grabs q rest covered
      (omega (arith, long)) listed.walk once in
      subst Tells (ap (λ (z : Point). z.node) starts) (told q i.0 i.1 i.3 i.2)

  -- where the chain begins an item is too deep
  begins_deep : (met : Option Refused) (r : Refused) → met ≡ Some r
      → IsLawfulIn (graph_functions F k.bodies) (left_by k.graph g) (died_by k.graph g) (look k.graph) (in_use k.graph.observers) r → (p : Point) → ChainBegins met p → Tells p.node
  begins_deep None r e lawful p begins = absurd begins
  begins_deep (Some (refused.Height points)) (refused.Height others) e lawful p begins =
      let same : points ≡ others = cc in
      listed_is_deep others.items lawful.0 lawful.1 lawful.2 p (subst (λ (v : _). StartsAt v.items p) same begins)
  begins_deep (Some (refused.Height points)) r e lawful p begins = absurd (cc)
  begins_deep (Some r) r' e lawful p begins = absurd begins

  -- ---- the declaration that is told

  owned_row : (n top : NodeId) → IsOwner G' n top → G'.row n ≡ None → ⊥
  owned_row n top owner none = let some = owned_is_live G' n top owner in let clash = sym some ∙ ap is_some none in cc

  own_entry : (n : NodeId) (t : ℕ) → IsOwnNode k.names.declared k.nodes n t → (e : Entry) × (entry_at s t ≡ Some e) × (e.target ≡ t)
  own_entry n t (d, at, mine, node) =
      let e = named_entry k.names s stands.matches.names.declared t d at in (e.0, e.1, ap (λ (z : Declared). z.target) e.2 ∙ mine)

  printed_for : (n : NodeId) (target : ℕ) → Tells n → IsTold k.names.declared k.nodes g n target
      → (i : Item) × Met F m.settled s i × TooDeep F s i × IsPrintedFor s target i
  printed_for n target (live i met deep home low has printed) (of_owner top owner first) =
      let same = one_owner G' n top has.top owner has.owner in
      let home_is = first_is_owner k.nodes has.top target home (subst (λ (q : NodeId). IsFirstNotOlder k.nodes q target) same first) has.within in
      (i, met, deep, subst (λ (t : ℕ). IsPrintedFor s t i) (sym home_is) printed)
  printed_for n target (live i met deep home low has printed) (of_grab gone mine) = absurd (owned_row n has.top has.owner gone)
  printed_for n target (dead i met deep j b gone is mine node printed) (of_owner top owner first) = absurd (owned_row n top owner gone)
  printed_for n target (dead i met deep j b gone is mine node printed) (of_grab gone' its) =
      let e = body_entry s j b is in
      let t = own_entry n target its in
      let own_j : e.0.target ≡ j = c.held.targets j e.0 e.1 ∙ (ap (target_of_body j) e.2 ∙ mine) in
      let same : target ≡ j = c.held.apart target j t.0 e.0 t.1 e.1 t.2 own_j (its.3 ∙ sym node) in
      (i, met, deep, subst (λ (u : ℕ). IsPrintedFor s u i) (sym same) printed)

  -- some declaration is told of it
  pub some_told : (n : NodeId) → Tells n → NoneTold k.names.declared k.nodes g n → ⊥
  some_told n (live i met deep home low has printed) none =
      let older = none.owner has.top has.owner in
      let count = c.held.one_node_each in
      let early = older home (omega (arith, low, count)) in
      let late = has.within.not_later in
      omega (arith, early, late)
  some_told n (dead i met deep j b gone is mine node printed) none =
      let e = body_entry s j b is in
      let there : slice_get k.names.declared j ≡ Some (declared_of e.0) =
      ap (λ (ds : List Declared). slice_get ds j) stands.matches.names.declared
      ∙ (slice_get-map declared_of s.entries j ∙ ap (λ (o : Option Entry). option_map declared_of o) e.1) in
      none.grab gone j (declared_of e.0, there, c.held.targets j e.0 e.1 ∙ (ap (target_of_body j) e.2 ∙ mine), node)

-- ---- over a graph with its functions

-- a chain of 130 points begins somewhere
long_begins : (points : List Point) → length points ≡ 130 → (p : Point) × StartsAt points p
long_begins [] long = absurd (cc)
long_begins (p ∷ rest) long = (p, refl)

chain_begins : (M : Functions) (G : Graph) (died : NodeId → Option NodeId) (before : Look) (observed : List NodeId) (refused : Option Refused) (met : Refused)
    → refused ≡ Some met → kept_of met ≡ fault.Height → IsLawfulIn M G died before observed met → (p : Point) × ChainBegins refused p
chain_begins M G died before observed None met e cause lawful = absurd (cc)
chain_begins M G died before observed (Some (refused.Height points)) (refused.Height others) e cause lawful =
    let same : points ≡ others = cc in
    long_begins points.items (subst (λ (v : _). length v.items ≡ 130) (sym same) lawful.1)
chain_begins M G died before observed (Some met) r e cause lawful = absurd (cc)

module _ {A : Type 0} (named : List ℕ → Option FnRef) (value : FnRef → List GraphValue → GraphValue) (k : Kept) (old new : GraphView A)
    (c : IsSessions value k old new) (done : IsRefusedFor (functions_over value k.bodies) old new fault.Height) (m : Moment)
    (stands : Stands (meanings_of named value) k m) where
  abbrev Means : Meanings
  Means = meanings_of named value

  abbrev Ms : Functions
  Ms = graph_functions Means k.bodies

  abbrev bare : GraphView (Unit {0})
  bare = without_functions new

  lawful : IsLawfulIn Ms (left_by k.graph bare) (died_by k.graph bare) (look k.graph) (in_use k.graph.observers) done.met
  lawful = kept_so named value k old new c m stands (λ (h : GraphView (Unit {0})). IsLawfulIn Ms (left_by h bare) (died_by h bare) (look h)
      (in_use h.observers) done.met) (functions_so named value k old new c m stands
      (λ (N : Functions). IsLawfulIn N (left_by old new) (died_by old new) (look old) (in_use old.observers) done.met) done.lawful)

  begins : (p : Point) × ChainBegins new.refused p
  begins = chain_begins Ms (left_by k.graph bare) (died_by k.graph bare) (look k.graph) (in_use k.graph.observers) new.refused done.met done.broken done.is_cause lawful

  abbrev call : IsStabilize Means m.present k bare
  call = stabilize_of named value k old new c m stands

  abbrev unbroken : m.broken ≡ None
  unbroken = moment_unbroken named value k old new c m stands

  abbrev is_whole : IsWhole call.meaning k.graph
  is_whole = kept_whole named value k old new c m stands done.was

  tells_first : Tells named value m k bare stands unbroken call is_whole begins.0.node
  tells_first = begins_deep named value m k bare stands unbroken call is_whole new.refused done.met done.broken lawful begins.0 begins.1

  -- some declaration is told of the first of the chain
  pub session_none_told : ((p : Point) → ChainBegins new.refused p → NoneTold k.names.declared k.nodes new p.node) → ⊥
  session_none_told all =
      let none = all begins.0 begins.1 in
      some_told named value m k bare stands unbroken call is_whole begins.0.node tells_first (record { owner = none.owner; grab = none.grab })

  bare_told : (n : NodeId) (target : ℕ) → IsTold k.names.declared k.nodes new n target → IsTold k.names.declared k.nodes bare n target
  bare_told n target (of_owner top owner first) = of_owner top owner first
  bare_told n target (of_grab gone mine) = of_grab gone mine

  -- a stabilize of a session's graph that was refused for depth is one of its script
  pub session_too_deep : (target called calls : ℕ) → ((p : Point) → ChainBegins new.refused p → IsTold k.names.declared k.nodes new p.node target)
      → HasCalledMet (functions_over value k.bodies) old new called calls
      → IsTooDeep Means m (record k { broken = Some 21; graph = bare }) target called calls
  session_too_deep target called calls first few =
      let printed = printed_for named value m k bare stands unbroken call is_whole begins.0.node target tells_first
      (bare_told begins.0.node target (first begins.0 begins.1)) in
      record {
        after = record m { broken = Some 21 };
        stabilizes = by_height target printed.0 printed.1 printed.2 printed.3 refl refl;
        within = session_calls named value k old new c m stands called calls done.was few;
        matches = session_broken named value k old new c m stands 21 fault.Height done;
      }
