-- The hash of a generation.
use Rattle.std.specs.Prelude.{ℕ, ◌+◌, ◌*◌, ◌/◌, ◌%◌, ◌^◌, List, fold, bit_xor}
use Rattle.clock_nodes.specs.declared.generations.Generations.{Generations}

-- one byte more, above those so far
abbrev pub with_byte : ℕ → ℕ → ℕ
with_byte hash b = (hash / 256 + (b * 0x100000000000000) % 2 ^ 64) % 2 ^ 64

abbrev pub with_bytes : Generations → List ℕ → Generations
with_bytes h bytes = record { 0 = fold with_byte h.0 bytes }

-- the number, apart from those of other groups of 64, and its lowest bits once more in the highest
abbrev pub hash_of : Generations → ℕ
hash_of h = bit_xor (bit_xor h.0 ((h.0 / 64 * 0x9E3779B97F4A7C15) % 2 ^ 64)) ((h.0 * 0x200000000000000) % 2 ^ 64)
