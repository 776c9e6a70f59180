-- What the notices of a session are, as they are copied out.
use Rattle.std.specs.Prelude.{◌≡◌, ◌≤◌, ◌<◌, ℕ, Some, List, [], ◌++◌, length, drop}
use Rattle.session.specs.Notices.{ReadsNotice}
use Rattle.session.specs.declared.session.notices.NoticeParts.{NoticeParts}
use Rattle.session_slots.specs.declared.answer.Answer.{Answer}
use Rattle.session_slots.specs.declared.answer.Answer.TheVariants.{NoMemory, NoNotice, Notice}
use Rattle.session_slots.specs.declared.holder.Holder.{Holder}
use Rattle.session_slots.specs.declared.told.Told.{Told}

-- no notice of the stabilize with this number, and a notice of it with these parts
abbrev pub nothing_told : ℕ → Told
nothing_told round = record { round = round; name = 0; before = 0; now = 0 }

abbrev pub told_of : ℕ → NoticeParts → Told
told_of round parts = record { round = round; name = parts.name; before = parts.before; now = parts.now }

-- the bytes go to the front of the room for them, whose rest stays, or where the room is too small all of it stays
abbrev pub Copies : List ℕ → List ℕ → List ℕ → Type 0
Copies text room after = (length text ≤ length room → after ≡ text ++ drop (length text) room) × (length room < length text → after ≡ room)

-- the notice with this number, of those that the session's last accepted stabilize told: its parts, one directly behind the other, are copied where there is room
-- for them; or there is none with this number, or no memory to print it, and nothing is copied. The number of the stabilize is told, whatever comes
abbrev pub TellsNotice : Holder → ℕ → List ℕ → Answer → List ℕ → Told → Type 0
TellsNotice h number room (Notice kind) after told =
    (parts : NoticeParts) × (text : List ℕ) × ReadsNotice h.session.kept number [] (Some parts) text
    × (kind ≡ parts.kind) × (told ≡ told_of h.session.kept.accepted parts) × Copies text room after
TellsNotice h number room NoNotice after told =
    (length h.session.kept.graph.notices ≤ number) × (told ≡ nothing_told h.session.kept.accepted) × (after ≡ room)
TellsNotice h number room NoMemory after told = (told ≡ nothing_told h.session.kept.accepted) × (after ≡ room)
TellsNotice h number room other after told = ⊥
