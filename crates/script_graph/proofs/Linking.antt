-- A script after a declaration was put behind an expert's list or taken off it, and after an expert was asked to run anew.
use Rattle.std.proofs.Common.{◌≡◌, inl, inr, ℕ, ◌+◌, ◌≤◌, Bool, true, false, not, nat_eq, nat_le, IsTrue, IsFalse, IsSome, List, [], ◌∷◌, ◌++◌, map, length, Option, None, Some, refl, ap, sym, subst, ◌∙◌, arith, slice_get}
use Rattle.std.specs.List.{list_any}
use Rattle.std.proofs.lemmas.Bool.{leb-true, le-leb}
use Rattle.std.proofs.lemmas.List.{length-map, map-append}
use Rattle.expert_nodes.specs.Experts as nodes_of
use Rattle.formula_lang.specs.Fits.{IsExpertOf, LinkFits, NameFits, UnlinkFits}
use Rattle.inc_value.specs.Choice.{Among, and_then, Every as Each}
use Rattle.inc_value.specs.declared.function.FnRef.{FnRef}
use Rattle.inc_value.specs.declared.node.NodeId.{NodeId}
use Rattle.inc_value.specs.declared.node.ObsId.{ObsId}
use Rattle.inc_value.specs.declared.ty.Ty.{Ty}
use Rattle.inc_value.specs.declared.value.Value.{Value as GraphValue}
use Rattle.inc_terms.specs.Within.{Given}
use Rattle.graph.specs.Effects.{BothGiven, IsExpertIn, KeepsTop, MakesStale, MayBeListed, Relists, TakesBeside}
use Rattle.graph.specs.Standing.{GraphView, listed_by}
use Rattle.node_arena.specs.Arena.{Arena}
use Rattle.node_arena.specs.Sound as arena
use Rattle.observers.specs.Observers.{node_at}
use Rattle.observers.specs.declared.observer.Observer.{Observer as Looking}
use Rattle.script_functions.specs.Bodies as Bodies
use Rattle.script_model.specs.Check.{Declared, Expert as AnExpert, Grab as GrabKind, Link, Names, NotLinked, Stale, TooManyLinks, Unlink, kind_of_body, names_of, target_of_body}
use Rattle.script_model.specs.Formula.{State, Body, Entry, Meanings, meanings_of, Expert, body_at, entry_at, links_at, links_of}
use Rattle.script_model.specs.Step.{Moment, is_barred, moved, linked, staled, unlinked, without_first}
use Rattle.script_model.specs.Values.{Value}
use Rattle.script_graph.specs.Kept.{Kept, node_in, without_functions}
use Rattle.script_graph.specs.Represents.{Represents, beside}
use Rattle.script_graph.specs.Sound.{AreFew, HaveNodes, IsSoundSession}
use Rattle.script_graph.specs.State.{MatchesMoment}
use Rattle.script_graph.specs.Today.{IsDeclaredTarget}
use Rattle.script_graph.proofs.Declared.{expert_of_kind, named_fits, nodes_given}
use Rattle.script_graph.proofs.Declaring.{fitting_declared, named_entry}
use Rattle.script_graph.proofs.Extending.{NodesGiven, top_without}
use Rattle.script_graph.proofs.Listing.{among_listed, each_push, each_without, listed_among, without_nodes}
use Rattle.script_graph.proofs.Relisting.{Comes, Relisted, relisted_stands}
use Rattle.stabilize_round.proofs.Points.{node_or_other}
use Rattle.transfer.specs.Shows.{Declares}
use Rattle.transfer.proofs.Commands.{own_target}
use Rattle.transfer.proofs.Typed.{body_entry}

-- ---- what a command names

-- what was declared as an expert is one
pub record IsExpertAt (s : State) (expert : ℕ) : Type 0 where
  pub entry : Entry
  pub function : FnRef
  pub first : Value
  pub links : List ℕ
  pub stale : ℕ
  pub is_entry : entry_at s expert ≡ Some entry
  pub is_body : entry.body ≡ Expert function first links stale

expert_kind : (o : Option Declared) (element : Ty) → and_then o (λ (d : Declared). Some d.kind) ≡ Some (AnExpert element)
    → (d : Declared) × (o ≡ Some d) × (d.kind ≡ AnExpert element)
expert_kind None element is = absurd (cc)
expert_kind (Some d) element is = (d, refl, (cc))

pub expert_at : (names : Names) (s : State) → names.declared ≡ (names_of s).declared → (expert : ℕ) (element : Ty) → IsExpertOf names expert element
    → IsExpertAt s expert
expert_at names s same expert element is =
    let d = expert_kind (slice_get names.declared expert) element is.kind in
    let e = named_entry names s same expert d.0 d.1 in
    let kind : kind_of_body e.0.body ≡ AnExpert element = ap (λ (x : Declared). x.kind) e.2 ∙ d.2 in
    let b = expert_of_kind e.0.body element kind in
    record { entry = e.0; function = b.0; first = b.1; links = b.2; stale = b.3; is_entry = e.1; is_body = b.4 }

-- ---- what the graph takes

module _ {F : Type 0} (g : GraphView F) (names : Names) (nodes : List NodeId) (sound : arena.IsSoundArena g.nodes)
    (one_each : length nodes ≡ length names.declared)
    (has : HaveNodes g.nodes names.declared nodes) where
  -- the node of an expert is a live one, which takes such elements
  takes_beside : (expert : ℕ) (element : Ty) → IsExpertOf names expert element → TakesBeside g.nodes (node_in nodes expert) element
  takes_beside expert element is =
      let d = expert_kind (slice_get names.declared expert) element is.kind in
      let node = has expert d.0 d.1 in
      let itself = node.expert element d.2 in
      (node.live itself (λ grab. let clash : AnExpert element ≡ GrabKind = sym d.2 ∙ grab in cc)).expert element d.2

  expert_given : (expert : ℕ) (element : Ty) → IsExpertOf names expert element → Given g.nodes.given (node_in nodes expert)
  expert_given expert element is = let t = takes_beside expert element is in sound.given (node_in nodes expert) (rw t.4 refl)

  -- an expert that may be asked to run anew
  pub stale_fits : (expert : ℕ) (element : Ty) → IsExpertOf names expert element
      → Given g.nodes.given (node_in nodes expert) × IsExpertIn g.nodes (node_in nodes expert)
  stale_fits expert element is =
      let t = takes_beside expert element is in (expert_given expert element is, (t.0, t.1, t.2, t.3, t.4, t.5))

  -- a declaration that may be put behind an expert's list
  pub link_fits : (expert target : ℕ) → LinkFits names expert target
      → BothGiven g (node_in nodes expert) (node_in nodes target) × MayBeListed g (node_in nodes expert) (node_in nodes target)
  link_fits expert target fits =
      let named = named_fits g.nodes names nodes sound one_each has target fits.element fits.linked in (
        (expert_given expert fits.element fits.is_expert, named.0),
        record {
          element = fits.element;
          takes = takes_beside expert fits.element fits.is_expert;
          fits = λ r is. (let has_type = named.1 in rw is at has_type);
        },
      )

  -- one that may be taken off it
  pub unlink_fits : (expert target : ℕ) → UnlinkFits names expert target
      → BothGiven g (node_in nodes expert) (node_in nodes target) × IsExpertIn g.nodes (node_in nodes expert)
  unlink_fits expert target fits =
      let named = named_fits g.nodes names nodes sound one_each has target fits.ty fits.linked in
      let e = stale_fits expert fits.element fits.is_expert in
      ((e.0, named.0), e.1)

-- ---- what is kept

module _ {F : Type 0} (first now : GraphView F) (names : Names) (nodes : List NodeId) (observers : List ObsId) (room accepted : ℕ) (broken : Option ℕ)
    (bodies : List Bodies.Body) where
  abbrev before : Kept
  before = record {
    names = names;
    nodes = nodes;
    observers = observers;
    room = room;
    accepted = accepted;
    broken = broken;
    bodies = bodies;
    graph = without_functions first;
  }

  abbrev after : Kept
  after = record before { graph = without_functions now }

  abbrev N : ℕ → NodeId
  N = node_in nodes

  -- where the nodes and observers stay, it fits together still
  pub same_nodes_sound : IsSoundSession before → KeepsTop first now → now.nodes ≡ first.nodes → now.observers ≡ first.observers → IsSoundSession after
  same_nodes_sound h top same looking = record {
    one_node_each = h.one_node_each;
    has_nodes = subst (λ (a : Arena). HaveNodes a names.declared nodes) (sym same) h.has_nodes;
    few = subst (λ (a : Arena). AreFew bodies a room) (sym same) h.few;
    one_observer_each = h.one_observer_each;
    looking = λ o among. subst (λ (os : List Looking). IsSome (node_at os o)) (sym looking) (h.looking o among);
    apart = h.apart;
    unbroken = λ whole. top.refused ∙ h.unbroken whole;
    clock = ap (λ (a : Arena). a.time) same ∙ h.clock;
  }

  module _ (h : IsSoundSession before) (sound : arena.IsSoundArena first.nodes) (named : List ℕ → Option FnRef) (value : FnRef → List GraphValue → GraphValue)
      (m : Moment) (unbroken : m.broken ≡ None) (matches : MatchesMoment (meanings_of named value) before m) where
    abbrev M : Meanings
    M = meanings_of named value

    abbrev s : State
    s = m.present

    held : Represents M s before
    held = matches.represents unbroken

    given : NodesGiven s before
    given = nodes_given before h sound s matches.names

    -- declarations have nodes of their own
    declared_apart : (t u : ℕ) → IsDeclaredTarget s t → IsDeclaredTarget s u → N t ≡ N u → t ≡ u
    declared_apart t u d c same =
        let a = body_entry s t d.0 d.1 in
        let b = body_entry s u c.0 c.1 in
        held.apart t u a.0 b.0 a.1 b.1 (held.targets t a.0 a.1 ∙ (ap (target_of_body t) a.2 ∙ own_target t d.0 d.2))
        (held.targets u b.0 b.1 ∙ (ap (target_of_body u) b.2 ∙ own_target u c.0 c.2)) same

    named_target : (target : ℕ) (ty : Ty) → NameFits names target ty → IsDeclaredTarget s target
    named_target target ty fits = fitting_declared names s matches.names.declared held.today.plain held.targets target ty fits

    module _ (expert : ℕ) (element : Ty) (is_expert : IsExpertOf names expert element) where
      at : IsExpertAt s expert
      at = expert_at names s matches.names.declared expert element is_expert

      body_is : body_at s expert ≡ Some (Expert at.function at.first at.links at.stale)
      body_is = ap (λ (o : Option Entry). and_then o (λ (d : Entry). Some d.body)) at.is_entry ∙ ap (λ (b : Body). Some b) at.is_body

      links_are : links_at s expert ≡ at.links
      links_are = ap (λ (o : Option Body). elim o [ None ↦ [] | Some body ↦ links_of body ]) body_is

      -- it lists the nodes of what it is linked to, which is declared
      listed_are : listed_by first (N expert) ≡ map N at.links
      listed_are =
          let d : Declares (beside M s before) (N expert) (Some (Expert at.function at.first at.links at.stale)) = rw body_is at (held.declares expert) in d.2

      links_declared : Each (IsDeclaredTarget s) at.links
      links_declared = (held.today.plain expert (Expert at.function at.first at.links at.stale) body_is).1.1

      -- it has as many nodes as it is linked to declarations
      as_many : length (listed_by first (N expert)) ≡ length (links_at s expert)
      as_many = ap length listed_are ∙ (length-map at.links N ∙ sym (ap length links_are))

      -- where its list has room or is full, so have its links
      pub room_is : (target : ℕ) → (4096 ≤ length (listed_by first (N expert)) → ⊥) → IsFalse (is_barred s (Link expert target) TooManyLinks)
      room_is target free = go (nat_le 4096 (length (links_at s expert))) refl
        where
          go : (b : Bool) → nat_le 4096 (length (links_at s expert)) ≡ b → IsFalse (nat_le 4096 (length (links_at s expert)))
          go false e = e
          go true e = absurd (let many = leb-true 4096 (length (links_at s expert)) e in let same = as_many in free (omega (arith, many, same)))

      pub full_is : (target : ℕ) → 4096 ≤ length (listed_by first (N expert)) → IsTrue (is_barred s (Link expert target) TooManyLinks)
      full_is target many = le-leb 4096 (length (links_at s expert)) (let same = as_many in omega (arith, many, same))

      module _ (target : ℕ) (own : IsDeclaredTarget s target) where
        -- where a node is listed or isn't, its declaration is linked or not
        pub linked_is : Among (N target) (listed_by first (N expert)) → IsFalse (is_barred s (Unlink expert target) NotLinked)
        linked_is among =
            let any =
            among_listed (IsDeclaredTarget s) N declared_apart target own at.links links_declared
            (subst (λ (ns : List NodeId). Among (N target) ns) listed_are among) in
            ap (λ (b : Bool). not b) (ap (λ (ls : List ℕ). list_any (nat_eq target) ls) links_are ∙ any)

        pub unlinked_is : (Among (N target) (listed_by first (N expert)) → ⊥) → IsTrue (is_barred s (Unlink expert target) NotLinked)
        unlinked_is none = go (list_any (nat_eq target) (links_at s expert)) refl
          where
            go : (b : Bool) → list_any (nat_eq target) (links_at s expert) ≡ b → not (list_any (nat_eq target) (links_at s expert)) ≡ true
            go false e = ap (λ (b : Bool). not b) e
            go true e = absurd (none (subst (λ (ns : List NodeId). Among (N target) ns) (sym listed_are)
                (listed_among (IsDeclaredTarget s) N declared_apart target own at.links links_declared
                (ap (λ (ls : List ℕ). list_any (nat_eq target) ls) (sym links_are) ∙ e))))

      -- how a change leaves the declaration
      comes : (change : Body → Body) (links' : List ℕ) (stale' : ℕ)
          → change (Expert at.function at.first at.links at.stale) ≡ Expert at.function at.first links' stale'
          → Comes s change expert at.links links' at.stale stale'
      comes change links' stale' same = record {
        entry = at.entry;
        function = at.function;
        first = at.first;
        is_entry = at.is_entry;
        is_body = at.is_body;
        becomes = ap change at.is_body ∙ same;
      }

      relists_kept : (list : List NodeId) → Relists first now (N expert) list → Relisted before (without_functions now) (N expert) list
      relists_kept list relists = record {
        listed = relists.listed;
        others = relists.others;
        top = top_without first now relists.top;
        nodes = relists.nodes;
        observers = relists.observers;
        built = relists.built;
        last = relists.last;
        frozen = relists.frozen;
        cutoff = relists.cutoff;
        fewer_links = relists.fewer_links;
      }

      -- a declaration was put behind its list
      pub link_stands : (target : ℕ) → IsDeclaredTarget s target → Relists first now (N expert) (listed_by first (N expert) ++ N target ∷ [])
          → MatchesMoment M after (moved m (Link expert target))
      link_stands target own relists =
          relisted_stands m (linked target) expert at.links (at.links ++ target ∷ []) at.stale at.stale
          (comes (linked target) (at.links ++ target ∷ []) at.stale refl)
          M before (without_functions now) (listed_by first (N expert) ++ N target ∷ [])
          (relists_kept (listed_by first (N expert) ++ N target ∷ []) relists)
          (ap (λ (ns : List NodeId). ns ++ N target ∷ []) listed_are ∙ sym (map-append N at.links (target ∷ [])))
          (each_push (IsDeclaredTarget s) at.links target links_declared own) (omega arith) (λ q marked. inl (sym (relists.marks q) ∙ marked)) given matches

      -- one was taken off it
      pub unlink_stands : (target : ℕ) → IsDeclaredTarget s target
          → Relists first now (N expert) (nodes_of.without_first (N target) (listed_by first (N expert)))
          → MatchesMoment M after (moved m (Unlink expert target))
      unlink_stands target own relists =
          relisted_stands m (unlinked target) expert at.links (without_first target at.links) at.stale at.stale
          (comes (unlinked target) (without_first target at.links) at.stale refl)
          M before (without_functions now) (nodes_of.without_first (N target) (listed_by first (N expert)))
          (relists_kept (nodes_of.without_first (N target) (listed_by first (N expert))) relists)
          (ap (nodes_of.without_first (N target)) listed_are ∙ without_nodes (IsDeclaredTarget s) N declared_apart target own at.links links_declared)
          (each_without (IsDeclaredTarget s) target at.links links_declared) (omega arith) (λ q marked. inl (sym (relists.marks q) ∙ marked)) given matches

      -- it was asked to run anew
      pub stale_stands : MakesStale first now (N expert) → MatchesMoment M after (moved m (Stale expert))
      stale_stands stale =
          relisted_stands m staled expert at.links at.links at.stale (at.stale + 1)
          (comes staled at.links (at.stale + 1) refl)
          M before (without_functions now) (listed_by first (N expert))
          (record {
            listed = stale.lists (N expert);
            others = λ q other. stale.lists q;
            top = top_without first now stale.top;
            nodes = stale.nodes;
            observers = stale.observers;
            built = stale.built;
            last = stale.last;
            frozen = stale.frozen;
            cutoff = stale.cutoff;
            fewer_links = λ p q. let same = stale.need.links p q in omega (arith, same);
          }) listed_are links_declared (omega arith) (λ q marked. elim (node_or_other q (N expert)) [
            | inl same ↦ inr (same, omega arith)
            | inr other ↦ inl (sym (stale.others q other) ∙ marked)
          ]) given matches

    -- ---- by what a command names

    pub linked_stands : (expert target : ℕ) → LinkFits names expert target → Relists first now (N expert) (listed_by first (N expert) ++ N target ∷ [])
        → MatchesMoment M after (moved m (Link expert target))
    linked_stands expert target fits relists =
        link_stands expert fits.element fits.is_expert target (named_target target fits.element fits.linked) relists

    pub unlinked_stands : (expert target : ℕ) → UnlinkFits names expert target
        → Relists first now (N expert) (nodes_of.without_first (N target) (listed_by first (N expert)))
        → MatchesMoment M after (moved m (Unlink expert target))
    unlinked_stands expert target fits relists =
        unlink_stands expert fits.element fits.is_expert target (named_target target fits.ty fits.linked) relists

    pub is_linked : (expert target : ℕ) → UnlinkFits names expert target → Among (N target) (listed_by first (N expert))
        → IsFalse (is_barred s (Unlink expert target) NotLinked)
    is_linked expert target fits among = linked_is expert fits.element fits.is_expert target (named_target target fits.ty fits.linked) among

    pub isnt_linked : (expert target : ℕ) → UnlinkFits names expert target → (Among (N target) (listed_by first (N expert)) → ⊥)
        → IsTrue (is_barred s (Unlink expert target) NotLinked)
    isnt_linked expert target fits none = unlinked_is expert fits.element fits.is_expert target (named_target target fits.ty fits.linked) none
