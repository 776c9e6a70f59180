-- What is kept of a script still fits together.
use Rattle.std.proofs.Common.{◌≡◌, ◌⊎◌, inl, inr, ℕ, ◌<◌, ◌≤◌, List, [], ◌∷◌, ◌++◌, length, Option, None, Some, IfSome, IsSome, refl, ap, sym, subst, ◌∙◌, arith, slice_get}
use Rattle.std.proofs.lemmas.Bool.{cases_eq}
use Rattle.std.proofs.lemmas.List.{length-append, get_or_append_left, get_or_at}
use Rattle.std.proofs.lemmas.Option.{slice_get_within}
use Rattle.graph.specs.Effects.{Sets, TakesBeside}
use Rattle.graph.specs.Standing.{GraphView, IsUnbroken}
use Rattle.observers.specs.Observers.{node_at}
use Rattle.observers.specs.declared.observer.Observer.{Observer as Looking}
use Rattle.inc_value.specs.declared.node.NodeId.{NodeId}
use Rattle.inc_value.specs.declared.ty.Ty.{Ty}
use Rattle.inc_value.specs.declared.value.Value.{Value as GraphValue}
use Rattle.inc_terms.specs.Graph as graph_def
use Rattle.inc_terms.specs.Graph.{Row, Var}
use Rattle.inc_terms.specs.Within.{Given}
use Rattle.link_table.proofs.Lists.{get_append_last, get_append_other}
use Rattle.node_arena.specs.Arena.{Arena, row_at, IsVariable, with_value}
use Rattle.node_arena.specs.Typing.{Fits}
use Rattle.script_functions.specs.Bodies as Bodies
use Rattle.node_arena.specs.Sound as arena
use Rattle.script_model.specs.Check.{Declared, Kind, Expert as ExpertKind, Grab as GrabKind, kind_of_body, target_of_body}
use Rattle.script_model.specs.Formula.{Body, Bind, Computed, Expert}
use Rattle.script_graph.specs.Growing.{Extends}
use Rattle.script_graph.specs.Kept.{Kept, arena_of, node_in, no_node}
use Rattle.script_graph.specs.Sound.{AreFew, HasTarget, HasLiveNode, HasNode, HaveNodes, IsLiveBind, IsSoundSession, weight_at, weight_of}
use Rattle.script_graph.proofs.Few.{sum_less}
use Rattle.script_graph.proofs.Declaring.{with_declared}
use Rattle.script_graph.proofs.Extending.{live_stays}
use Rattle.script_graph.proofs.Making.{row_fits}

-- what is declared at a position
abbrev pub declared_at : ℕ → List ℕ → Ty → Body → Declared
declared_at n name ty body = record { name = name; ty = ty; kind = kind_of_body body; target = target_of_body n body }

-- an expert stands for itself
expert_itself : (n : ℕ) (body : Body) (element : Ty) → kind_of_body body ≡ ExpertKind element → target_of_body n body ≡ n
expert_itself n (Expert f first links stale) element is = refl
expert_itself n (Computed (Bind left body) kept) element is = refl
expert_itself n (Computed f kept) element is = absurd (cc)
expert_itself n body element is = refl

-- a declaration stands at its place still, with one more behind it
pub declared_still : (ds : List Declared) (last : Declared) (n : ℕ) (d : Declared) → slice_get ds n ≡ Some d → slice_get (ds ++ last ∷ []) n ≡ Some d
declared_still ds last n d is = let low = slice_get_within ds n d is in get_append_other ds last n (λ e. absurd (omega (arith, low, e))) ∙ is

-- a variable is one still, where rows stay
pub variable_on : (a a' : Arena) (n : NodeId) → ((r : Row) → row_at a n ≡ Some r → row_at a' n ≡ Some r) → IsVariable a n → IsVariable a' n
variable_on a a' n stay v = record { row = v.row; value = v.value; there = stay v.row v.there; variable = v.variable }

pub bind_on : (a a' : Arena) (n : NodeId) → ((r : Row) → row_at a n ≡ Some r → row_at a' n ≡ Some r) → IsLiveBind a n → IsLiveBind a' n
bind_on a a' n stay (r, left, f, captures, is, def) = (r, left, f, captures, stay r is, def)

pub expert_on : (a a' : Arena) (n : NodeId) (element : Ty) → ((r : Row) → row_at a n ≡ Some r → row_at a' n ≡ Some r) → TakesBeside a n element
    → TakesBeside a' n element
expert_on a a' n element stay (r, f, first, kids, is, def, takes) = (r, f, first, kids, stay r is, def, takes)

kind_or : (k : Kind) → (k ≡ GrabKind) ⊎ (k ≡ GrabKind → ⊥)
kind_or GrabKind = inl refl
kind_or k = inr (λ e. cc)

module _ (a : Arena) (sound : arena.IsSoundArena a) (declared : List Declared) (nodes : List NodeId) (has : HaveNodes a declared nodes) where
  -- the node of what stands for itself was given, and is of its type or dead
  own_fits : (n : ℕ) (d : Declared) → slice_get declared n ≡ Some d → d.target ≡ n → Given a.given (node_in nodes n) × Fits a (node_in nodes n) d.ty
  own_fits n d is itself = elim (kind_or d.kind) [
    | inl grab ↦ (has n d is).grab itself grab
    | inr other ↦
        let live = (has n d is).live itself other in
        (sound.given (node_in nodes n) (rw live.is_row refl), row_fits a (node_in nodes n) d.ty live.row live.is_row live.typed)
  ]

  -- so is the node of each declaration
  pub node_fits : (n : ℕ) (d : Declared) → slice_get declared n ≡ Some d → Given a.given (node_in nodes n) × Fits a (node_in nodes n) d.ty
  node_fits n d is =
      let t = (has n d is).target in
      let own = own_fits d.target t.target t.is_target t.itself in
      subst (λ (q : NodeId). Given a.given q × Fits a q d.ty) t.node (own.0, subst (Fits a (node_in nodes d.target)) t.typed own.1)

  pub node_given : (n : ℕ) (d : Declared) → slice_get declared n ≡ Some d → Given a.given (node_in nodes n)
  node_given n d is = (node_fits n d is).0

module _ (k : Kept) (h : IsSoundSession k) (sound : arena.IsSoundArena (arena_of k)) where
  module _ (g : GraphView (Unit {0})) (more : Extends k.graph g) where
    looks_on : (o : _) → IsSome (node_at k.graph.observers o) → IsSome (node_at g.observers o)
    looks_on o is = subst (λ (os : List Looking). IsSome (node_at os o)) (sym more.beside.observers) is

    unbroken_on : k.broken ≡ None → IsUnbroken g
    unbroken_on whole = more.beside.top.refused ∙ h.unbroken whole

    live_on : (n : ℕ) (d : Declared) → HasLiveNode (arena_of k) k.nodes n d → HasLiveNode g.nodes k.nodes n d
    live_on n d node = record {
      row = node.row;
      is_row = live_stays k.graph g sound more (node_in k.nodes n) node.row node.is_row;
      typed = node.typed;
      outside = node.outside;
      variable = λ kind. variable_on (arena_of k) g.nodes (node_in k.nodes n) (live_stays k.graph g sound more (node_in k.nodes n)) (node.variable kind);
      bind = λ kind. bind_on (arena_of k) g.nodes (node_in k.nodes n) (live_stays k.graph g sound more (node_in k.nodes n)) (node.bind kind);
      expert = λ element kind.
          expert_on (arena_of k) g.nodes (node_in k.nodes n) element (live_stays k.graph g sound more (node_in k.nodes n)) (node.expert element kind);
    }

    -- a given node that fits a type does so still
    fits_on : (n : NodeId) (t : Ty) → Given (arena_of k).given n × Fits (arena_of k) n t → Given g.nodes.given n × Fits g.nodes n t
    fits_on n t (given, fits) = (
      (let later = more.given in omega (arith, given, later)),
      subst (λ (o : Option Row). IfSome o (λ (q : Row). q.ty ≡ t)) (sym (more.rows n given)) fits,
    )

    node_on : (n : ℕ) (d : Declared) → HasNode (arena_of k) k.names.declared k.nodes n d → HasNode g.nodes k.names.declared k.nodes n d
    node_on n d node = record {
      target = node.target;
      expert = node.expert;
      live = λ itself no_grab. live_on n d (node.live itself no_grab);
      grab = λ itself grab. fits_on (node_in k.nodes n) d.ty (node.grab itself grab);
    }

    -- where nodes were added and bodies kept, and the room for those that are declared stays
    pub sound_on : (bodies : List Bodies.Body) → AreFew bodies g.nodes k.room → IsSoundSession (record k { bodies = bodies; graph = g })
    sound_on bodies few = record {
      one_node_each = h.one_node_each;
      has_nodes = λ n d is. node_on n d (h.has_nodes n d is);
      few = few;
      one_observer_each = h.one_observer_each;
      looking = λ o among. looks_on o (h.looking o among);
      apart = h.apart;
      unbroken = unbroken_on;
      clock = more.time ∙ h.clock;
    }

    module _ (name : List ℕ) (ty : Ty) (body : Body) (root : NodeId) (room : ℕ) (bodies : List Bodies.Body)
        (grab_fits : kind_of_body body ≡ GrabKind → Given g.nodes.given root × Fits g.nodes root ty)
        (target : HasTarget (k.names.declared ++ declared_at (length k.names.declared) name ty body ∷ []) (k.nodes ++ root ∷ []) (length k.names.declared)
        (declared_at (length k.names.declared) name ty body))
        (live : target_of_body (length k.names.declared) body ≡ length k.names.declared → (kind_of_body body ≡ GrabKind → ⊥)
        → HasLiveNode g.nodes (k.nodes ++ root ∷ []) (length k.names.declared) (declared_at (length k.names.declared) name ty body)) where
      abbrev new : Kept
      new = with_declared k name ty body root room bodies g

      abbrev last : Declared
      last = declared_at (length k.names.declared) name ty body

      node_old : (n : ℕ) → n < length k.nodes → node_in new.nodes n ≡ node_in k.nodes n
      node_old n low = get_or_append_left k.nodes (root ∷ []) no_node n low

      node_new : node_in new.nodes (length k.names.declared) ≡ root
      node_new = get_or_at k.nodes root [] no_node (length k.names.declared) h.one_node_each

      node_low : (n : ℕ) (d : Declared) → slice_get k.names.declared n ≡ Some d → node_in new.nodes n ≡ node_in k.nodes n
      node_low n d is = let low = slice_get_within k.names.declared n d is in node_old n (omega (arith, low, h.one_node_each))

      target_old : (n : ℕ) (d : Declared) → slice_get k.names.declared n ≡ Some d → HasTarget k.names.declared k.nodes n d
          → HasTarget new.names.declared new.nodes n d
      target_old n d is t = record {
        target = t.target;
        is_target = declared_still k.names.declared last d.target t.target t.is_target;
        itself = t.itself;
        typed = t.typed;
        node = node_low d.target t.target t.is_target ∙ (t.node ∙ sym (node_low n d is));
      }

      live_old : (n : ℕ) (d : Declared) → slice_get k.names.declared n ≡ Some d → HasLiveNode g.nodes k.nodes n d → HasLiveNode g.nodes new.nodes n d
      live_old n d is node = record {
        row = node.row;
        is_row = ap (row_at g.nodes) (node_low n d is) ∙ node.is_row;
        typed = node.typed;
        outside = node.outside;
        variable = λ kind. subst (λ (q : NodeId). IsVariable g.nodes q) (sym (node_low n d is)) (node.variable kind);
        bind = λ kind. subst (λ (q : NodeId). IsLiveBind g.nodes q) (sym (node_low n d is)) (node.bind kind);
        expert = λ element kind. subst (λ (q : NodeId). TakesBeside g.nodes q element) (sym (node_low n d is)) (node.expert element kind);
      }

      has_old : (n : ℕ) (d : Declared) → slice_get k.names.declared n ≡ Some d → HasNode g.nodes new.names.declared new.nodes n d
      has_old n d is =
          let node = node_on n d (h.has_nodes n d is) in
          record {
            target = target_old n d is node.target;
            expert = node.expert;
            live = λ itself no_grab. live_old n d is (node.live itself no_grab);
            grab = λ itself grab. subst (λ (q : NodeId). Given g.nodes.given q × Fits g.nodes q d.ty) (sym (node_low n d is)) (node.grab itself grab);
          }

      -- each declaration is an earlier one, or the last
      old_or_last : (n : ℕ) (d : Declared) → slice_get new.names.declared n ≡ Some d
          → (slice_get k.names.declared n ≡ Some d) ⊎ ((n ≡ length k.names.declared) × (last ≡ d))
      old_or_last n d is = elim (cases_eq n (length k.names.declared)) [
        | inl same ↦
            let there : Some last ≡ Some d = sym (get_append_last k.names.declared last) ∙ (ap (slice_get new.names.declared) (sym same) ∙ is) in
            inr (same, (cc))
        | inr other ↦ inl (sym (get_append_other k.names.declared last n other) ∙ is)
      ]

      has_each : HaveNodes g.nodes new.names.declared new.nodes
      has_each n d is = elim (old_or_last n d is) [
        | inl old ↦ has_old n d old
        | inr e ↦
            subst (λ (c : Declared). HasNode g.nodes new.names.declared new.nodes n c) e.1
            (subst (λ (j : ℕ). HasNode g.nodes new.names.declared new.nodes j last) (sym e.0)
            (record {
              target = target;
              expert = λ element kind. expert_itself (length k.names.declared) body element kind;
              live = λ itself other. live itself other;
              grab = λ itself grab. subst (λ (q : NodeId). Given g.nodes.given q × Fits g.nodes q ty) (sym node_new) (grab_fits grab);
            }))
      ]

      -- where a declaration was added, with less room
      pub sound_declared : AreFew bodies g.nodes room → IsSoundSession new
      sound_declared few = record {
        one_node_each =
            let nodes = length-append k.nodes (root ∷ []) in
            let names = length-append k.names.declared (last ∷ []) in omega (arith, h.one_node_each, nodes, names);
        has_nodes = has_each;
        few = few;
        one_observer_each = h.one_observer_each;
        looking = λ o among. looks_on o (h.looking o among);
        apart = h.apart;
        unbroken = unbroken_on;
        clock = more.time ∙ h.clock;
      }

  -- where a variable was set
  module _ (g : GraphView (Unit {0})) (n : NodeId) (w : GraphValue) (sets : Sets k.graph g n w) where
    node_or : (p q : NodeId) → (p ≡ q) ⊎ (p ≡ q → ⊥)
    node_or p q = elim (cases_eq p.slot q.slot) [
      | inl slot ↦ elim (cases_eq p.gen_ q.gen_) [ inl gen ↦ inl (both p q slot gen) | inr other ↦ inr (λ e. other (ap (λ (m : NodeId). m.gen_) e)) ]
      | inr other ↦ inr (λ e. other (ap (λ (m : NodeId). m.slot) e))
    ]
      where
        both : (p q : NodeId) → p.slot ≡ q.slot → p.gen_ ≡ q.gen_ → p ≡ q
        both p q slot gen = rw (slot, gen) refl

    same_row : (p : NodeId) (r q : Row) → row_at (arena_of k) p ≡ Some r → row_at (arena_of k) p ≡ Some q → r ≡ q
    same_row p r q left right = let e : Some r ≡ Some q = sym left ∙ right in cc

    row_set : (p : NodeId) (r : Row) → row_at (arena_of k) p ≡ Some r → (q : Row) × (row_at g.nodes p ≡ Some q) × (q.ty ≡ r.ty) × (q.scope ≡ r.scope)
    row_set p r is = elim (node_or p n) [
      | inl same ↦
          let row = same_row p sets.set.row r (ap (row_at (arena_of k)) same ∙ sets.set.there) is in
          (with_value sets.set.row w, ap (row_at g.nodes) same ∙ sets.set.changes.changed, ap (λ (x : Row). x.ty) row, ap (λ (x : Row). x.scope) row)
      | inr other ↦ (r, sets.set.changes.others p other ∙ is, refl, refl)
    ]

    row_back : (p : NodeId) (r : Row) → row_at g.nodes p ≡ Some r → (q : Row) × (row_at (arena_of k) p ≡ Some q) × (q.scope ≡ r.scope)
    row_back p r is = elim (node_or p n) [
      | inl same ↦ (
        sets.set.row,
        ap (row_at (arena_of k)) same ∙ sets.set.there,
        (let e : Some (with_value sets.set.row w) ≡ Some r = sym sets.set.changes.changed ∙ (ap (row_at g.nodes) (sym same) ∙ is) in
            let rows : with_value sets.set.row w ≡ r = cc in ap (λ (x : Row). x.scope) rows),
      )
      | inr other ↦ (r, sym (sets.set.changes.others p other) ∙ is, refl)
    ]

    variable_set : (p : NodeId) → IsVariable (arena_of k) p → IsVariable g.nodes p
    variable_set p v = elim (node_or p n) [
      | inl same ↦ record {
        row = with_value sets.set.row w;
        value = w;
        there = ap (row_at g.nodes) same ∙ sets.set.changes.changed;
        variable = refl;
      }
      | inr other ↦ record { row = v.row; value = v.value; there = sets.set.changes.others p other ∙ v.there; variable = v.variable }
    ]

    -- a bind isn't the variable that is set
    bind_set : IsVariable (arena_of k) n → (p : NodeId) → IsLiveBind (arena_of k) p → IsLiveBind g.nodes p
    bind_set v p (r, left, f, captures, is, def) = elim (node_or p n) [
      | inl same ↦ absurd (
          let row : r ≡ v.row = same_row n r v.row (ap (row_at (arena_of k)) (sym same) ∙ is) v.there in
          let clash : graph_def.Bind left f captures ≡ Var v.value = sym def ∙ (ap (λ (q : Row). q.def) row ∙ v.variable) in cc)
      | inr other ↦ (r, left, f, captures, sets.set.changes.others p other ∙ is, def)
    ]

    -- nor is an expert
    expert_set : IsVariable (arena_of k) n → (p : NodeId) (element : Ty) → TakesBeside (arena_of k) p element → TakesBeside g.nodes p element
    expert_set v p element (r, f, first, kids, is, def, takes) = elim (node_or p n) [
      | inl same ↦ absurd (
          let row : r ≡ v.row = same_row n r v.row (ap (row_at (arena_of k)) (sym same) ∙ is) v.there in
          let clash : graph_def.Expert f first kids ≡ Var v.value = sym def ∙ (ap (λ (q : Row). q.def) row ∙ v.variable) in cc)
      | inr other ↦ (r, f, first, kids, sets.set.changes.others p other ∙ is, def, takes)
    ]

    live_set : IsVariable (arena_of k) n → (i : ℕ) (d : Declared) → HasLiveNode (arena_of k) k.nodes i d → HasLiveNode g.nodes k.nodes i d
    live_set v i d node =
        let r = row_set (node_in k.nodes i) node.row node.is_row in
        record {
          row = r.0;
          is_row = r.1;
          typed = r.2 ∙ node.typed;
          outside = r.3 ∙ node.outside;
          variable = λ kind. variable_set (node_in k.nodes i) (node.variable kind);
          bind = λ kind. bind_set v (node_in k.nodes i) (node.bind kind);
          expert = λ element kind. expert_set v (node_in k.nodes i) element (node.expert element kind);
        }

    fits_set : (p : NodeId) (t : Ty) → Given (arena_of k).given p × Fits (arena_of k) p t → Given g.nodes.given p × Fits g.nodes p t
    fits_set p t (given, fits) = ((let same = sets.given in omega (arith, given, same)), go (row_at g.nodes p) refl)
      where
        go : (o : Option Row) → row_at g.nodes p ≡ o → Fits g.nodes p t
        go None is = rw is tt
        go (Some r) is =
            let back = row_back p r is in
            let again = row_set p back.0 back.1 in
            let rows : again.0 ≡ r = (let e : Some again.0 ≡ Some r = sym again.1 ∙ is in cc) in
            let was : back.0.ty ≡ t = rw back.1 at fits in
            row_fits g.nodes p t r is (sym (ap (λ (q : Row). q.ty) rows) ∙ (again.2 ∙ was))

    has_set : IsVariable (arena_of k) n → (i : ℕ) (d : Declared) → HasNode (arena_of k) k.names.declared k.nodes i d → HasNode g.nodes k.names.declared k.nodes i d
    has_set v i d node = record {
      target = node.target;
      expert = node.expert;
      live = λ itself no_grab. live_set v i d (node.live itself no_grab);
      grab = λ itself grab. fits_set (node_in k.nodes i) d.ty (node.grab itself grab);
    }

    -- no node weighs more
    weight_set : IsVariable (arena_of k) n → (p : NodeId) → weight_at k.bodies g.nodes p ≤ weight_at k.bodies (arena_of k) p
    weight_set v p = elim (node_or p n) [
      | inl same ↦
          let here : weight_at k.bodies g.nodes p ≡ 1 = rw (same, sets.set.changes.changed, weight_at) refl in
          let row : sets.set.row ≡ v.row = same_row n sets.set.row v.row sets.set.there v.there in
          let was : weight_at k.bodies (arena_of k) p ≡ weight_of k.bodies (Var v.value) = (rw (same, v.there, weight_at) refl) ∙ ap (weight_of k.bodies) v.variable in
          omega (arith, here, was)
      | inr other ↦
          let same : weight_at k.bodies g.nodes p ≡ weight_at k.bodies (arena_of k) p = rw (sets.set.changes.others p other, weight_at) refl in omega (arith, same)
    ]

    few_set : IsVariable (arena_of k) n → AreFew k.bodies g.nodes k.room
    few_set v = record {
      tops = h.few.tops;
      given = λ p among. let low = h.few.given p among in let same = sets.given in omega (arith, low, same);
      all = λ p r is scope. let q = row_back p r is in h.few.all p q.0 q.1 (q.2 ∙ scope);
      weight = let less = sum_less (weight_at k.bodies g.nodes) (weight_at k.bodies (arena_of k)) h.few.tops (λ p among. weight_set v p) in
          let most = h.few.weight in omega (arith, less, most);
    }

    pub sound_set : IsVariable (arena_of k) n → IsSoundSession (record k { graph = g })
    sound_set v = record {
      one_node_each = h.one_node_each;
      has_nodes = λ i d is. has_set v i d (h.has_nodes i d is);
      few = few_set v;
      one_observer_each = h.one_observer_each;
      looking = λ o among. subst (λ (os : List Looking). IsSome (node_at os o)) (sym sets.beside.observers) (h.looking o among);
      apart = h.apart;
      unbroken = λ whole. sets.beside.top.refused ∙ h.unbroken whole;
      clock = sets.set.changes.time ∙ h.clock;
    }
