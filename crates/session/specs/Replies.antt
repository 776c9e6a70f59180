-- The lines that a session writes.
use Rattle.std.specs.Prelude.{◌≡◌, ◌⊎◌, ℕ, Option, None, Some, slice_get, List, [], ◌∷◌, ◌++◌, codes}
use Rattle.std.specs.Fmt.{decimal}
use Rattle.std.specs.List.{AllZip, flat_map}
use Rattle.script_model.specs.Check.{Names, Declared}
use Rattle.inc_value.specs.Outcome.{printed_outcome}
use Rattle.inc_value.specs.declared.node.NodeId.{NodeId}
use Rattle.inc_value.specs.declared.node.ObsId.{ObsId}
use Rattle.inc_value.specs.declared.outcome.Outcome.{Outcome}
use Rattle.inc_value.specs.declared.outcome.Outcome.TheVariants.{Val}
use Rattle.inc_value.specs.declared.value.Value.TheVariants as held
use Rattle.observers.specs.declared.notice.Notice.{Notice}
use Rattle.observers.specs.declared.notice.Told.{Told}
use Rattle.observers.specs.declared.notice.Told.TheVariants as told
use Rattle.script_graph.specs.Kept.{Kept, node_in}
use Rattle.script_graph.specs.Sound.{HasTarget}
use Rattle.session.specs.ObserverIds.{IsAbsent}

-- a line, with its newline
abbrev pub line_of : List ℕ → List ℕ
line_of bytes = bytes ++ 10 ∷ []

-- to a command that was accepted
abbrev pub done_line : List ℕ
done_line = line_of (codes "ok")

-- to a line that was refused
abbrev pub refused_line : ℕ → List ℕ
refused_line number = line_of (codes "refused " ++ decimal number)

-- to a line that was refused since the session is broken, with the number of what broke it
abbrev pub broken_line : ℕ → List ℕ
broken_line number = line_of (codes "refused 22 " ++ decimal number)

-- to an accepted stabilize
abbrev pub stable_line : ℕ → List ℕ
stable_line round = line_of (codes "stable " ++ decimal round)

-- what an observer shows, where a reference is printed as this name
abbrev pub shown_line : List ℕ → List ℕ → Outcome → List ℕ
shown_line observer referred outcome = line_of (observer ++ codes " = " ++ printed_outcome referred outcome)

-- what is told first of a watched observer, that its outcome turned to another one, and that it turned to Invalid
abbrev pub first_line : List ℕ → List ℕ → Outcome → List ℕ
first_line observer referred outcome = line_of (observer ++ codes " init " ++ printed_outcome referred outcome)

abbrev pub change_line : List ℕ → List ℕ → Outcome → List ℕ → Outcome → List ℕ
change_line observer referred_before before referred now =
    line_of (observer ++ codes " change " ++ printed_outcome referred_before before ++ codes " " ++ printed_outcome referred now)

abbrev pub invalid_line : List ℕ → List ℕ
invalid_line observer = line_of (observer ++ codes " invalid")

-- to a stabilize that was refused for the depth of a declaration
abbrev pub too_deep_line : List ℕ → List ℕ
too_deep_line name = line_of (codes "refused 21 height " ++ name)

-- a space and a declaration's name
abbrev pub named_of : (ℕ → List ℕ) → ℕ → List ℕ
named_of names n = codes " " ++ names n

-- to a stabilize that was refused for a cycle of declarations, over the names of declarations
abbrev pub cycle_line : (ℕ → List ℕ) → List ℕ → List ℕ
cycle_line names targets = line_of (codes "refused 20 cycle" ++ flat_map (named_of names) targets)

-- the name of the declaration at a position; nothing where there is none
abbrev pub name_in : Names → ℕ → List ℕ
name_in names n = elim (slice_get names.declared n) [ None ↦ [] | Some d ↦ d.name ]

-- the declaration at a position stands for itself, and this is its node
pub record IsOwnNode (names : Names) (nodes : List NodeId) (n : NodeId) (position : ℕ) : Type 0 where
  pub declared : Declared
  pub is_declared : slice_get names.declared position ≡ Some declared
  pub own : declared.target ≡ position
  pub is_node : node_in nodes position ≡ n

-- what each declaration stands for has its node
abbrev pub HaveTargets : List Declared → List NodeId → Type 0
HaveTargets declared nodes = (n : ℕ) (d : Declared) → slice_get declared n ≡ Some d → HasTarget declared nodes n d

-- the node that a reference is to; none of what is no reference
abbrev pub referred_node : Outcome → Option NodeId
referred_node (Val (held.Node n base)) = Some n
referred_node outcome = None

-- the bytes are the name that is printed of a reference to the node: that of the declaration whose own node it is, and none where it is that of none
abbrev pub IsReferredName : Names → List NodeId → Option NodeId → List ℕ → Type 0
IsReferredName names nodes None bytes = bytes ≡ []
IsReferredName names nodes (Some n) bytes =
    ((position : ℕ) × IsOwnNode names nodes n position × (bytes ≡ name_in names position))
    ⊎ (((position : ℕ) → IsOwnNode names nodes n position → ⊥) × (bytes ≡ []))

-- ---- notices

-- the bytes are the name in use of the observer, and none of one that ended
abbrev pub IsObserverName : Kept → ObsId → List ℕ → Type 0
IsObserverName k o bytes =
    ((i : ℕ) (name : List ℕ) → slice_get k.observers i ≡ Some o → slice_get k.names.observers i ≡ Some name → bytes ≡ name)
    × (IsAbsent k.observers o → bytes ≡ [])

-- the line of what is told of the observer of the name
abbrev pub IsToldLine : Kept → List ℕ → Told → List ℕ → Type 0
IsToldLine k observer (told.Init now) line =
    (referred : List ℕ) × IsReferredName k.names k.nodes (referred_node now) referred × (line ≡ first_line observer referred now)
IsToldLine k observer (told.Change before now) line =
    (was referred : List ℕ) × IsReferredName k.names k.nodes (referred_node before) was × IsReferredName k.names k.nodes (referred_node now) referred
    × (line ≡ change_line observer was before referred now)
IsToldLine k observer told.Invalid line = line ≡ invalid_line observer

-- the line of a notice
pub record IsNoticeLine (k : Kept) (notice : Notice) (line : List ℕ) : Type 0 where
  pub observer : List ℕ
  pub is_observer : IsObserverName k notice.observer observer
  pub told : IsToldLine k observer notice.told line

-- these bytes are the lines of the notices, in order
abbrev pub AreNoticeLines : Kept → List Notice → List ℕ → Type 0
AreNoticeLines k notices bytes = (lines : List (List ℕ)) × AllZip (IsNoticeLine k) notices lines × (bytes ≡ flat_map (λ (line : List ℕ). line) lines)

-- the number of an accepted stabilize was appended, and the lines of what it told
abbrev pub IsAcceptedWritten : Kept → List ℕ → List ℕ → Type 0
IsAcceptedWritten k written appended = (bytes : List ℕ) × AreNoticeLines k k.graph.notices bytes × (appended ≡ written ++ (stable_line k.accepted ++ bytes))
