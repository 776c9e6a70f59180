-- What the calls do at a slot.
use Rattle.std.specs.Prelude.{◌≡◌, ◌<◌, ◌⊎◌, ℕ, ℤ, List, length, slice_get, set, Some, IfSome}
use Rattle.session_slots.specs.Answers.{code_of}
use Rattle.session_slots.specs.Holding.{IsFirst, Reads, TakesLine}
use Rattle.session_slots.specs.Notices.{TellsNotice, nothing_told}
use Rattle.session_slots.specs.declared.answer.Answer.{Answer}
use Rattle.session_slots.specs.declared.answer.Answer.TheVariants.{Done, NoMemory, NoSession, OpenAlready}
use Rattle.session_slots.specs.declared.holder.Holder.{Holder}
use Rattle.session_slots.specs.declared.slot.Slot.{Slot}
use Rattle.session_slots.specs.declared.told.Told.{Told}

-- the slot has this session
abbrev pub Has : Slot → Holder → Type 0
Has slot h = (slot.live ≡ 1) × (slot.handle.value ≡ Some h)

-- a slot without a session gets one before its first line, or there is no memory and it still has none; a slot that has one keeps it
abbrev pub Opens : Slot → ℤ → Slot → Type 0
Opens old code new = (old.live ≡ 0 → ((code ≡ code_of Done) × (new.live ≡ 1) × IfSome new.handle.value IsFirst) ⊎ ((code ≡ code_of NoMemory) × (new.live ≡ 0)))
    × (0 < old.live → (code ≡ code_of OpenAlready) × (new ≡ old))

-- a call that needs a session finds none: nothing is copied, and nothing is to be read
abbrev pub FindsNone : List ℕ → List ℕ → ℕ → ℤ → Slot → Type 0
FindsNone room after count code new = (code ≡ code_of NoSession) × (new.live ≡ 0) × (count ≡ 0) × (after ≡ room)

-- the session takes the line, which leaves it between, and then what is to be read is read
abbrev pub Lined : List ℕ → List ℕ → List ℕ → ℕ → Holder → ℤ → Holder → Type 0
Lined text room after count old code new = (how : Answer) × (code ≡ code_of how) × (between : Holder) × TakesLine old text between how
    × (count ≡ length between.printed.items) × (new.session ≡ between.session) × Reads between.printed.items room after new.printed.items

-- the slot's session takes the line, or there is none
abbrev pub TakesIn : List ℕ → List ℕ → List ℕ → ℕ → Slot → ℤ → Slot → Type 0
TakesIn text room after count old code new = (old.live ≡ 0 → FindsNone room after count code new)
    × (0 < old.live → (new.live ≡ 1)
    × ((was is : Holder) → old.handle.value ≡ Some was → new.handle.value ≡ Some is → Lined text room after count was code is))

-- what the slot's session has to be read is read, or there is none
abbrev pub ReadsIn : List ℕ → List ℕ → ℕ → Slot → ℤ → Slot → Type 0
ReadsIn room after count old code new = (old.live ≡ 0 → FindsNone room after count code new)
    × (0 < old.live → (code ≡ code_of Done) × (new.live ≡ 1)
    × ((was is : Holder) → old.handle.value ≡ Some was → new.handle.value ≡ Some is
    → (is.session ≡ was.session) × (count ≡ length was.printed.items) × Reads was.printed.items room after is.printed.items))

-- the slot's session tells a notice and stays as it was; or there is no session, and nothing is copied
abbrev pub NoticesIn : ℕ → List ℕ → List ℕ → Told → Slot → ℤ → Slot → Type 0
NoticesIn number room after told old code new =
    (old.live ≡ 0 → (code ≡ code_of NoSession) × (new.live ≡ 0) × (told ≡ nothing_told 0) × (after ≡ room))
    × (0 < old.live → (new.live ≡ 1)
    × ((was is : Holder) → old.handle.value ≡ Some was → new.handle.value ≡ Some is
    → (is ≡ was) × (what : Answer) × (code ≡ code_of what) × TellsNotice was number room what after told))

-- the slot has no session any more, and the answer tells whether it had one
abbrev pub Closes : Slot → ℤ → Slot → Type 0
Closes old code new = (new.live ≡ 0) × (old.live ≡ 0 → code ≡ code_of NoSession) × (0 < old.live → code ≡ code_of Done)

-- the slot with this number changes so, and no other
abbrev pub At : List Slot → ℕ → List Slot → (Slot → Slot → Type 0) → Type 0
At olds number news Changes = (old new : Slot) × (slice_get olds number ≡ Some old) × (news ≡ set olds number new) × Changes old new
