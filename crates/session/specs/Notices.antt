-- What a session tells of a notice, part by part.
use Rattle.std.specs.Prelude.{◌≡◌, ◌≤◌, ℕ, Option, None, Some, slice_get, List, [], ◌++◌, length, codes}
use Rattle.inc_value.specs.Outcome.{printed_outcome}
use Rattle.inc_value.specs.declared.outcome.Outcome.{Outcome}
use Rattle.observers.specs.declared.notice.Notice.{Notice}
use Rattle.observers.specs.declared.notice.Told.{Told}
use Rattle.observers.specs.declared.notice.Told.TheVariants as told
use Rattle.script_graph.specs.Kept.{Kept}
use Rattle.session.specs.Replies.{IsObserverName, IsReferredName, referred_node}
use Rattle.session.specs.declared.session.notices.NoticeKind.{NoticeKind}
use Rattle.session.specs.declared.session.notices.NoticeKind.TheVariants as kind
use Rattle.session.specs.declared.session.notices.NoticeParts.{NoticeParts}

-- the kind of what is told
abbrev pub kind_of : Told → NoticeKind
kind_of (told.Init now) = kind.Init
kind_of (told.Change before now) = kind.Change
kind_of told.Invalid = kind.Invalid

-- the bytes are the outcome as it is printed, a reference by the name of the declaration whose own node it is
abbrev pub IsPrinted : Kept → Outcome → List ℕ → Type 0
IsPrinted k outcome bytes = (referred : List ℕ) × IsReferredName k.names k.nodes (referred_node outcome) referred × (bytes ≡ printed_outcome referred outcome)

-- the bytes are what was told before, as it is printed, which only a change has
abbrev pub IsBefore : Kept → Told → List ℕ → Type 0
IsBefore k (told.Init now) bytes = bytes ≡ []
IsBefore k (told.Change before now) bytes = IsPrinted k before bytes
IsBefore k told.Invalid bytes = bytes ≡ []

-- the bytes are what the observer shows now, as it is printed
abbrev pub IsNow : Kept → Told → List ℕ → Type 0
IsNow k (told.Init now) bytes = IsPrinted k now bytes
IsNow k (told.Change before now) bytes = IsPrinted k now bytes
IsNow k told.Invalid bytes = bytes ≡ codes "invalid"

-- these are the kind and the parts of the notice
pub record HasParts (k : Kept) (notice : Notice) (kind : NoticeKind) (name before now : List ℕ) : Type 0 where
  pub kind_is : kind ≡ kind_of notice.told
  pub named : IsObserverName k notice.observer name
  pub was_told : IsBefore k notice.told before
  pub is_shown : IsNow k notice.told now

-- the parts of the notice were appended, with these lengths
pub record ReadsParts (k : Kept) (notice : Notice) (written : List ℕ) (parts : NoticeParts) (appended : List ℕ) : Type 0 where
  pub name : List ℕ
  pub before : List ℕ
  pub now : List ℕ
  pub has : HasParts k notice parts.kind name before now
  pub name_long : parts.name ≡ length name
  pub before_long : parts.before ≡ length before
  pub now_long : parts.now ≡ length now
  pub text : appended ≡ written ++ (name ++ (before ++ now))

-- the parts of the notice with this number were appended, of those that the stabilize told that was accepted last; or it told no more than these, and nothing was
abbrev pub ReadsNotice : Kept → ℕ → List ℕ → Option NoticeParts → List ℕ → Type 0
ReadsNotice k number written None appended = (length k.graph.notices ≤ number) × (appended ≡ written)
ReadsNotice k number written (Some parts) appended =
    (notice : Notice) × (slice_get k.graph.notices number ≡ Some notice) × ReadsParts k notice written parts appended
