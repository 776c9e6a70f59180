-- What a status tells of the ending.
use Rattle.std.proofs.Common.{◌≡◌, ◌⊎◌, ℕ, ◌<◌, ◌≤◌, List, ◌++◌, length, Option, None, Some, IfSome, inl, inr, refl, ap, arith, length-append}
use Rattle.script_io.specs.Endings.{Reads, number_of}
use Rattle.script_io.specs.Reading.{AreAll, BreakAt}
use Rattle.script_io.specs.declared.ending.Ending.{Ending}
use Rattle.script_io.specs.declared.ending.Ending.TheVariants.{Accepted, Refused, ReadFault, WriteFault, Memory, Limit}

all_within : (limit : ℕ) (left after : Option (List ℕ)) (lines : List (List ℕ)) → IfSome left (λ bytes. AreAll limit bytes after lines) → IfSome left (λ bytes. length bytes ≤ limit)
all_within limit None after lines h = tt
all_within limit (Some bytes) after lines h = h.within

-- more bytes than the limit
break_beyond : (limit : ℕ) (left after : Option (List ℕ)) (lines : List (List ℕ)) → IfSome left (λ bytes. BreakAt limit bytes after lines) → IfSome left (λ bytes. limit < length bytes)
break_beyond limit None after lines h = tt
break_beyond limit (Some bytes) after lines h =
    let b = h.break in
    let whole = ap length b.taken.split in
    let reached = h.reached in
    let more = h.more in
    omega (arith, whole, reached, more, length-append b.front b.part, length-append b.part (b.held ++ b.rest), length-append b.held b.rest, length-append b.front (b.part ++ (b.held ++ b.rest)))

-- a whole input is within the limit
pub limit-kept : (ending : Ending) (limit : ℕ) (left after : Option (List ℕ)) (lines : List (List ℕ)) → IfSome left (λ bytes. Reads ending limit bytes after lines)
    → (number_of ending ≡ 0) ⊎ (number_of ending ≡ 1) → IfSome left (λ bytes. length bytes ≤ limit)
limit-kept Accepted limit left after lines r h = all_within limit left after lines r
limit-kept Refused limit left after lines r h = all_within limit left after lines r
limit-kept ReadFault limit left after lines r h = absurd (elim h [ inl a ↦ omega arith | inr b ↦ omega arith ])
limit-kept WriteFault limit left after lines r h = absurd (elim h [ inl a ↦ omega arith | inr b ↦ omega arith ])
limit-kept Memory limit left after lines r h = absurd (elim h [ inl a ↦ omega arith | inr b ↦ omega arith ])
limit-kept Limit limit left after lines r h = absurd (elim h [ inl a ↦ omega arith | inr b ↦ omega arith ])

-- an input that goes past the limit
pub limit-passed : (ending : Ending) (limit : ℕ) (left after : Option (List ℕ)) (lines : List (List ℕ)) → IfSome left (λ bytes. Reads ending limit bytes after lines)
    → number_of ending ≡ 6 → IfSome left (λ bytes. limit < length bytes)
limit-passed Accepted limit left after lines r h = absurd (omega arith)
limit-passed Refused limit left after lines r h = absurd (omega arith)
limit-passed ReadFault limit left after lines r h = absurd (omega arith)
limit-passed WriteFault limit left after lines r h = absurd (omega arith)
limit-passed Memory limit left after lines r h = absurd (omega arith)
limit-passed Limit limit left after lines r h = break_beyond limit left after lines r

pub is_read_fault : (ending : Ending) → number_of ending ≡ 3 → ending ≡ ReadFault
is_read_fault ReadFault h = refl
is_read_fault Accepted h = absurd (omega arith)
is_read_fault Refused h = absurd (omega arith)
is_read_fault WriteFault h = absurd (omega arith)
is_read_fault Memory h = absurd (omega arith)
is_read_fault Limit h = absurd (omega arith)

pub is_write_fault : (ending : Ending) → number_of ending ≡ 4 → ending ≡ WriteFault
is_write_fault WriteFault h = refl
is_write_fault Accepted h = absurd (omega arith)
is_write_fault Refused h = absurd (omega arith)
is_write_fault ReadFault h = absurd (omega arith)
is_write_fault Memory h = absurd (omega arith)
is_write_fault Limit h = absurd (omega arith)
