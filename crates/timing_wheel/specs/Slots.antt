-- The slot of a deadline, as seen from now.
use Rattle.std.specs.Prelude.{ℕ, zero, suc, ◌+◌, ◌/◌, ◌%◌, ◌==◌, if◌then◌else◌}

-- The slot of a deadline on the level of the lowest byte, where the two differ in no higher one, and else 256 more than that of
-- the next higher bytes. There are so many levels above this one.
abbrev pub slot_above : ℕ → ℕ → ℕ → ℕ
slot_above zero now deadline = deadline % 256
slot_above (suc above) now deadline =
    if now / 256 == deadline / 256 then deadline % 256 else 256 + slot_above above (now / 256) (deadline / 256)

-- the slot of a deadline, among eight levels of 256
unfoldable pub slot : ℕ → ℕ → ℕ
slot now deadline = slot_above 7 now deadline
