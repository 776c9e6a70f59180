-- What calls do to a graph, and what they leave.
use Rattle.std.specs.Prelude.{◌≡◌, ◌≢◌, ◌⊎◌, ◌↔◌, ◌+◌, ◌<◌, ◌≤◌, ◌++◌, ℕ, Bool, true, false, IsTrue, List, [], ◌∷◌, length, slice_set, None, Some}
use Rattle.std.specs.Prelude.{Result, IfOk, IfErr, OnOk, OnErr, IsErrOf, IsSome}
use Rattle.expert_nodes.specs.Experts.{without_first}
use Rattle.inc_value.specs.Choice.{Among}
use Rattle.inc_value.specs.declared.function.FnRef.{FnRef}
use Rattle.inc_value.specs.declared.node.ObsId.{ObsId}
use Rattle.inc_value.specs.declared.node.NodeId.{NodeId}
use Rattle.inc_value.specs.declared.node.Point.{Point}
use Rattle.inc_value.specs.declared.value.Value.{Value}
use Rattle.inc_value.specs.declared.ty.Ty.{Ty}
use Rattle.inc_terms.specs.Clock.{IsTimed}
use Rattle.inc_terms.specs.Graph.{Row, Def, Map, Fold, Bind, Freeze, Expert}
use Rattle.inc_terms.specs.Within.{Given}
use Rattle.map_nodes.specs.declared.cutoff.Cutoff.{Cutoff}
use Rattle.map_nodes.specs.declared.cutoff.Cutoff.TheVariants.{Equal}
use Rattle.node_arena.specs.Arena.{Arena, row_at, Changes, IsLive, IsFull, IsSet, NamesGiven}
use Rattle.node_arena.specs.RightSide.{RightSide, AreFit}
use Rattle.node_arena.specs.Typing.{Makes}
use Rattle.observers.specs.Observers.{new_observer, ended, watched, node_at}
use Rattle.graph.specs.Standing.{GraphView, IsUnbroken, IsBroken, frozen_at, graph, is_marked, listed_by, shown_of, chosen_by, called_last, cutoff_of, times_linked, times_rooted}
use Rattle.graph.specs.declared.fault.Kept.{Kept}
use Rattle.graph.specs.declared.fault.GraphFault.{GraphFault}
use Rattle.graph.specs.declared.fault.GraphFault.TheVariants as fault

-- a live expert
abbrev pub IsExpertIn : Arena → NodeId → Type 0
IsExpertIn a expert =
    (row : Row) × (f : FnRef) × (first : Value) × (kids : List NodeId) × (row_at a expert ≡ Some row) × (row.def ≡ Expert f first kids)

-- a live expert, whose function takes what it gives, and beside that a value of the type
abbrev pub TakesBeside : Arena → NodeId → Ty → Type 0
TakesBeside a expert element =
    (row : Row) × (f : FnRef) × (first : Value) × (kids : List NodeId) × (row_at a expert ≡ Some row) × (row.def ≡ Expert f first kids)
    × (f.sig.takes ≡ f.sig.gives ∷ element ∷ [])

-- why a node isn't put behind an expert's list
abbrev pub IsLinkFault : GraphFault → Type 0
IsLinkFault e = ((cause : Kept) × (e ≡ fault.Broken cause)) ⊎ (e ≡ fault.Unknown) ⊎ (e ≡ fault.NotExpert) ⊎ (e ≡ fault.WrongType)
    ⊎ (e ≡ fault.LinksFull) ⊎ (e ≡ fault.Memory)

-- why one isn't taken off it
abbrev pub IsUnlinkFault : GraphFault → Type 0
IsUnlinkFault e = ((cause : Kept) × (e ≡ fault.Broken cause)) ⊎ (e ≡ fault.Unknown) ⊎ (e ≡ fault.NotExpert) ⊎ (e ≡ fault.NotLinked)

-- why an expert isn't made stale
abbrev pub IsStaleFault : GraphFault → Type 0
IsStaleFault e = ((cause : Kept) × (e ≡ fault.Broken cause)) ⊎ (e ≡ fault.Unknown) ⊎ (e ≡ fault.NotExpert)

-- what a new node is, outside any scope
abbrev pub top : Def → Ty → Row
top def ty = record { def = def; ty = ty; scope = None }

-- the type of the first value that a function takes, or else of what it gives
abbrev pub first_or : Ty → List Ty → Ty
first_or gives [] = gives
first_or gives (ty ∷ tys) = ty

abbrev pub taken_first : FnRef → Ty
taken_first f = first_or f.sig.gives f.sig.takes

-- the function of a map, a fold, a freeze, an expert or a bind is known, whatever its kind; the nodes that a bind's lists were given, and are of their
-- types or dead
abbrev pub CallsKnown : (FnRef → Bool) → (FnRef → RightSide) → Arena → Def → Type 0
CallsKnown known right a (Map f kids) = IsTrue (known f)
CallsKnown known right a (Fold f v kids) = IsTrue (known f)
CallsKnown known right a (Freeze kid f) = IsTrue (known f)
CallsKnown known right a (Expert f v kids) = IsTrue (known f)
CallsKnown known right a (Bind left f captures) = IsTrue (known f) × AreFit a (right f).ids
CallsKnown known right a def = Unit {0}

-- no live node that was given since the count stands in a scope
abbrev pub NoneScopedSince : Arena → ℕ → Type 0
NoneScopedSince a count = (n : NodeId) (r : Row) → row_at a n ≡ Some r → count ≤ n.gen_ → r.scope ≡ None

-- why a node may not be added
abbrev pub IsAddFault : GraphFault → Type 0
IsAddFault e = ((cause : Kept) × (e ≡ fault.Broken cause)) ⊎ (e ≡ fault.Unknown) ⊎ (e ≡ fault.WrongType) ⊎ (e ≡ fault.Span) ⊎ (e ≡ fault.Full)
    ⊎ (e ≡ fault.Memory)

module _ {F : Type 0} where
  -- the functions stay, what the last accepted stabilize called and told, and what broke the graph
  pub record KeepsTop (old new : GraphView F) : Type 0 where
    pub functions : new.functions ≡ old.functions
    pub rooted : new.rooted ≡ old.rooted
    pub since : new.since ≡ old.since
    pub refused : new.refused ≡ old.refused
    pub ran : new.ran ≡ old.ran
    pub notices : new.notices ≡ old.notices

  -- links and roots stay, by which need is known
  pub record KeepsNeed (old new : GraphView F) : Type 0 where
    pub links : (p q : Point) → times_linked new p q ≡ times_linked old p q
    pub roots : (p : Point) → times_rooted new p ≡ times_rooted old p

  -- of these nodes it stays what is shown, what they chose by, what they are built for, and its root, what they keep and list, whether they are stale, and
  -- what their functions were last called on
  pub record KeepsNodes (Of : NodeId → Type 0) (old new : GraphView F) : Type 0 where
    pub shown : (n : NodeId) → Of n → shown_of new n ≡ shown_of old n
    pub chosen : (n : NodeId) → Of n → chosen_by new n ≡ chosen_by old n
    pub built : (n : NodeId) → Of n → (graph new).built n ≡ (graph old).built n
    pub last : (n : NodeId) → Of n → called_last new n ≡ called_last old n
    pub frozen : (n : NodeId) → Of n → frozen_at new n ≡ frozen_at old n
    pub lists : (n : NodeId) → Of n → listed_by new n ≡ listed_by old n
    pub marks : (n : NodeId) → Of n → is_marked new n ≡ is_marked old n

  -- beside the nodes all stays; and of these nodes what is known of them, and their cutoffs. No further node has a cutoff other than Equal
  pub record KeepsBeside (Of : NodeId → Type 0) (old new : GraphView F) : Type 0 where
    pub top : KeepsTop old new
    pub observers : new.observers ≡ old.observers
    pub need : KeepsNeed old new
    pub of_nodes : KeepsNodes Of old new
    pub cutoff : (n : NodeId) → Of n → cutoff_of new n ≡ cutoff_of old n
    pub no_more_cutoffs : (n : NodeId) → cutoff_of old n ≡ Equal → cutoff_of new n ≡ Equal

  -- so it is of all ids that were given
  abbrev pub KeepsBesideGiven : GraphView F → GraphView F → Type 0
  KeepsBesideGiven old new = KeepsBeside (Given old.nodes.given) old new

  -- ---- nodes that are added

  -- a definition names an id that was never given
  abbrev pub NamesUnknown : GraphView F → Def → Type 0
  NamesUnknown s def = ¬ NamesGiven s.nodes.given def

  -- it names given ids, and doesn't make the type
  abbrev pub IsMistyped : GraphView F → Def → Ty → Type 0
  IsMistyped s def ty = NamesGiven s.nodes.given def × ¬ Makes s.nodes def ty

  -- it makes the type, and counts spans that are empty, or whose base is below 0 or wasn't reached
  abbrev pub IsUntimed : GraphView F → Def → Ty → Type 0
  IsUntimed s def ty = NamesGiven s.nodes.given def × Makes s.nodes def ty × ¬ IsTimed s.nodes.time def

  -- it makes the type, counts no such spans, and no further node can be added
  abbrev pub HasNoRoom : GraphView F → Def → Ty → Type 0
  HasNoRoom s def ty = NamesGiven s.nodes.given def × Makes s.nodes def ty × IsTimed s.nodes.time def × IsFull s.nodes

  -- both ids were given
  abbrev pub BothGiven : GraphView F → NodeId → NodeId → Type 0
  BothGiven s expert node = Given s.nodes.given expert × Given s.nodes.given node

  -- no node changed and no id was given, and all stays beside
  pub record KeepsAll (old new : GraphView F) : Type 0 where
    pub beside : KeepsBesideGiven old new
    pub nodes : new.nodes ≡ old.nodes

  -- a node was added under an id that was never given. It shows nothing yet, is built for nothing, its function was never called, and its cutoff is Equal;
  -- it keeps and lists nothing, and isn't stale
  pub record Adds (old new : GraphView F) (id : NodeId) (row : Row) : Type 0 where
    pub beside : KeepsBesideGiven old new
    pub fresh : id.gen_ ≡ old.nodes.given
    pub given : new.nodes.given ≡ old.nodes.given + 1
    pub changes : Changes old.nodes new.nodes id (Some row)
    pub unshown : shown_of new id ≡ None
    pub unbuilt : (graph new).built id ≡ None
    pub uncalled : called_last new id ≡ None
    pub equal : cutoff_of new id ≡ Equal
    pub unfrozen : frozen_at new id ≡ None
    pub unlisted : listed_by new id ≡ []
    pub unmarked : is_marked new id ≡ false

  -- what the call answers that adds a node of a definition, with a type: under which id it was added, or the first of what stands in the way, or that
  -- there is no memory. Where it is refused nothing changed
  pub record AnswersAdd (old new : GraphView F) (def : Def) (ty : Ty) (answer : Result NodeId GraphFault) : Type 0 where
    pub added : IfOk answer (λ id. Adds old new id (top def ty))
    pub broken : (cause : Kept) → IsErrOf answer (fault.Broken cause) ↔ IsBroken old cause
    pub unknown : IsErrOf answer fault.Unknown ↔ (IsUnbroken old × NamesUnknown old def)
    pub wrong_type : IsErrOf answer fault.WrongType ↔ (IsUnbroken old × IsMistyped old def ty)
    pub span : IsErrOf answer fault.Span ↔ (IsUnbroken old × IsUntimed old def ty)
    pub full : IsErrOf answer fault.Full ↔ (IsUnbroken old × HasNoRoom old def ty)
    pub adding : IfErr answer IsAddFault
    pub err : OnErr answer (KeepsAll old new)

  -- why a list of nodes isn't copied: the graph is broken, or there is no memory
  abbrev pub RefusesList : GraphView F → GraphFault → Type 0
  RefusesList s e = ((cause : Kept) × IsBroken s cause × (e ≡ fault.Broken cause)) ⊎ (IsUnbroken s × (e ≡ fault.Memory))

  -- the same of a call that copies a list of nodes first, for which there may be no memory
  pub record AnswersListed (old new : GraphView F) (def : Def) (ty : Ty) (answer : Result NodeId GraphFault) : Type 0 where
    pub added : IfOk answer (λ id. Adds old new id (top def ty))
    pub err : OnErr answer (KeepsAll old new)
    pub exact : AnswersAdd old new def ty answer ⊎ (IsUnbroken old × IsErrOf answer fault.Memory)

  -- ---- nodes that are set and taken back

  -- a variable was set
  pub record Sets (old new : GraphView F) (id : NodeId) (v : Value) : Type 0 where
    pub beside : KeepsBesideGiven old new
    pub given : new.nodes.given ≡ old.nodes.given
    pub set : IsSet old.nodes new.nodes id v

  -- a live node's cutoff was set, and all else stays; of a dead node nothing changed
  pub record SetsCutoff (old new : GraphView F) (id : NodeId) (c : Cutoff) : Type 0 where
    pub set : IsLive old.nodes id → cutoff_of new id ≡ c
    pub others : (n : NodeId) → n ≢ id → cutoff_of new n ≡ cutoff_of old n
    pub dead : (IsLive old.nodes id → ⊥) → new ≡ old
    pub top : KeepsTop old new
    pub nodes : new.nodes ≡ old.nodes
    pub observers : new.observers ≡ old.observers
    pub need : KeepsNeed old new
    pub of_nodes : KeepsNodes (λ n. Unit {0}) old new

  -- ---- lists of experts

  -- a node that isn't a live expert
  abbrev pub IsNoExpert : GraphView F → NodeId → Type 0
  IsNoExpert s expert = ¬ IsExpertIn s.nodes expert

  -- the node is of the type that the expert's function takes beside its own, or dead
  pub record MayBeListed (s : GraphView F) (expert node : NodeId) : Type 0 where
    pub element : Ty
    pub takes : TakesBeside s.nodes expert element
    pub fits : (r : Row) → row_at s.nodes node ≡ Some r → r.ty ≡ element

  -- an expert has another list: what links lead from it may be fewer, and what is shown is as it was
  pub record Relists (old new : GraphView F) (expert : NodeId) (list : List NodeId) : Type 0 where
    pub listed : listed_by new expert ≡ list
    pub others : (n : NodeId) → n ≢ expert → listed_by new n ≡ listed_by old n
    pub top : KeepsTop old new
    pub nodes : new.nodes ≡ old.nodes
    pub observers : new.observers ≡ old.observers
    pub shown : (n : NodeId) → shown_of new n ≡ shown_of old n
    pub chosen : (n : NodeId) → chosen_by new n ≡ chosen_by old n
    pub built : (n : NodeId) → (graph new).built n ≡ (graph old).built n
    pub last : (n : NodeId) → called_last new n ≡ called_last old n
    pub frozen : (n : NodeId) → frozen_at new n ≡ frozen_at old n
    pub marks : (n : NodeId) → is_marked new n ≡ is_marked old n
    pub cutoff : (n : NodeId) → cutoff_of new n ≡ cutoff_of old n
    pub fewer_links : (p q : Point) → times_linked new p q ≤ times_linked old p q
    pub roots : (p : Point) → times_rooted new p ≡ times_rooted old p

  -- a node was put behind an expert's list; the first of what stands in the way; or there is no memory. Where it is refused nothing changed; but for want of
  -- memory the graph is the very one that it was
  pub record AnswersLink (old new : GraphView F) (expert node : NodeId) (answer : Result (Unit {0}) GraphFault) : Type 0 where
    pub linked : OnOk answer (Relists old new expert (listed_by old expert ++ node ∷ []) × KeepsNeed old new)
    pub broken : (cause : Kept) → IsErrOf answer (fault.Broken cause) ↔ IsBroken old cause
    pub unknown : IsErrOf answer fault.Unknown ↔ (IsUnbroken old × ¬ BothGiven old expert node)
    pub not_expert : IsErrOf answer fault.NotExpert ↔ (IsUnbroken old × BothGiven old expert node × IsNoExpert old expert)
    pub wrong_type : IsErrOf answer fault.WrongType
        ↔ (IsUnbroken old × BothGiven old expert node × ¬ IsNoExpert old expert × ¬ MayBeListed old expert node)
    pub full : IsErrOf answer fault.LinksFull
        ↔ (IsUnbroken old × BothGiven old expert node × MayBeListed old expert node × (4096 ≤ length (listed_by old expert)))
    pub linking : IfErr answer IsLinkFault
    pub err : OnErr answer (KeepsAll old new)
    pub same : ¬ IsErrOf answer fault.Memory → OnErr answer (new ≡ old)

  -- the first place of a node in an expert's list was taken off it, or the first of what stands in the way. Where it is refused the graph is as it was
  pub record AnswersUnlink (old new : GraphView F) (expert node : NodeId) (answer : Result (Unit {0}) GraphFault) : Type 0 where
    pub unlinked : OnOk answer (Among node (listed_by old expert) × Relists old new expert (without_first node (listed_by old expert)))
    pub broken : (cause : Kept) → IsErrOf answer (fault.Broken cause) ↔ IsBroken old cause
    pub unknown : IsErrOf answer fault.Unknown ↔ (IsUnbroken old × ¬ BothGiven old expert node)
    pub not_expert : IsErrOf answer fault.NotExpert ↔ (IsUnbroken old × BothGiven old expert node × IsNoExpert old expert)
    pub not_linked : IsErrOf answer fault.NotLinked
        ↔ (IsUnbroken old × BothGiven old expert node × ¬ IsNoExpert old expert × ¬ Among node (listed_by old expert))
    pub unlinking : IfErr answer IsUnlinkFault
    pub err : OnErr answer (new ≡ old)

  -- an expert was made stale, and all else stays
  pub record MakesStale (old new : GraphView F) (expert : NodeId) : Type 0 where
    pub marked : is_marked new expert ≡ true
    pub others : (n : NodeId) → n ≢ expert → is_marked new n ≡ is_marked old n
    pub lists : (n : NodeId) → listed_by new n ≡ listed_by old n
    pub top : KeepsTop old new
    pub nodes : new.nodes ≡ old.nodes
    pub observers : new.observers ≡ old.observers
    pub need : KeepsNeed old new
    pub shown : (n : NodeId) → shown_of new n ≡ shown_of old n
    pub chosen : (n : NodeId) → chosen_by new n ≡ chosen_by old n
    pub built : (n : NodeId) → (graph new).built n ≡ (graph old).built n
    pub last : (n : NodeId) → called_last new n ≡ called_last old n
    pub frozen : (n : NodeId) → frozen_at new n ≡ frozen_at old n
    pub cutoff : (n : NodeId) → cutoff_of new n ≡ cutoff_of old n

  -- the nodes of ids from a count on were dropped, their ids stay used up, and the time stands
  pub record TakesBack (old new : GraphView F) (count : ℕ) : Type 0 where
    pub beside : KeepsBeside (λ n. n.gen_ < count) old new
    pub older : (n : NodeId) → n.gen_ < count → row_at new.nodes n ≡ row_at old.nodes n
    pub dropped : (n : NodeId) → count ≤ n.gen_ → row_at new.nodes n ≡ None
    pub given : new.nodes.given ≡ old.nodes.given
    pub time : new.nodes.time ≡ old.nodes.time

  -- ---- observers

  -- an observer of a node was made, and nothing else changed
  pub record Observes (old new : GraphView F) (o : ObsId) (node : NodeId) : Type 0 where
    pub id : o.0 ≡ length old.observers
    pub rest : new ≡ record old { observers = old.observers ++ new_observer node ∷ [] }

  -- an observer that was in use was ended; beside it only need changed, where it was there when a stabilize was accepted last
  pub record Ends (old new : GraphView F) (o : ObsId) : Type 0 where
    pub node : NodeId
    pub was : node_at old.observers o ≡ Some node
    pub observers : new.observers ≡ slice_set old.observers o.0 (ended node)
    pub top : KeepsTop old new
    pub nodes : new.nodes ≡ old.nodes
    pub of_nodes : KeepsNodes (λ n. Unit {0}) old new
    pub cutoff : (n : NodeId) → cutoff_of new n ≡ cutoff_of old n
    pub fewer_links : (p q : Point) → times_linked new p q ≤ times_linked old p q
    pub fewer_roots : (p : Point) → times_rooted new p ≤ times_rooted old p

  -- an observer in use is watched from now on, if it wasn't, and nothing else changed
  pub record Watches (old new : GraphView F) (o : ObsId) : Type 0 where
    pub known : IsSome (node_at old.observers o)
    pub rest : new ≡ record old { observers = watched o.0 old.observers }

-- why a node may not be set or observed, and why no function is kept; why an observer may be neither ended nor watched, and why not asked
abbrev pub IsKeepFault : GraphFault → Type 0
IsKeepFault e = ((cause : Kept) × (e ≡ fault.Broken cause)) ⊎ (e ≡ fault.TooMany) ⊎ (e ≡ fault.Memory)

abbrev pub IsSetFault : GraphFault → Type 0
IsSetFault e = ((cause : Kept) × (e ≡ fault.Broken cause)) ⊎ (e ≡ fault.Unknown) ⊎ (e ≡ fault.NotVar) ⊎ (e ≡ fault.WrongType)

abbrev pub IsCutoffFault : GraphFault → Type 0
IsCutoffFault e = ((cause : Kept) × (e ≡ fault.Broken cause)) ⊎ (e ≡ fault.Unknown)

abbrev pub IsObserveFault : GraphFault → Type 0
IsObserveFault e = ((cause : Kept) × (e ≡ fault.Broken cause)) ⊎ (e ≡ fault.Unknown) ⊎ (e ≡ fault.TooMany) ⊎ (e ≡ fault.Memory)

abbrev pub IsEndFault : GraphFault → Type 0
IsEndFault e = ((cause : Kept) × (e ≡ fault.Broken cause)) ⊎ (e ≡ fault.Unknown)

abbrev pub IsObserverFault : GraphFault → Type 0
IsObserverFault e = ((cause : Kept) × (e ≡ fault.Broken cause)) ⊎ (e ≡ fault.Unknown) ⊎ (e ≡ fault.NotStabilized)
