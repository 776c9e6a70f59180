-- A graph that is unbroken and has room keeps a function, but for want of memory.
use Rattle.std.proofs.Common.{◌≡◌, ◌<◌, inl, inr, ℕ, Option, Some, None, sym, ◌∙◌, arith}
use Rattle.graph.specs.Effects.{IsKeepFault}
use Rattle.graph.specs.declared.fault.GraphFault.{GraphFault}
use Rattle.graph.specs.declared.fault.GraphFault.TheVariants as fault
use Rattle.graph.specs.declared.fault.Kept.{Kept}

pub wants_memory : (e : GraphFault) → IsKeepFault e → ((cause : Kept) → e ≡ fault.Broken cause → ⊥) → (e ≡ fault.TooMany → ⊥) → e ≡ fault.Memory
wants_memory e (inl broken) unbroken room = absurd (unbroken broken.0 broken.1)
wants_memory e (inr (inl many)) unbroken room = absurd (room many)
wants_memory e (inr (inr memory)) unbroken room = memory

pub not_both : {A : Type 0} (o : Option A) (x : A) → o ≡ None → o ≡ Some x → ⊥
not_both o x none some = let same : None ≡ Some x = sym none ∙ some in absurd cc

pub not_full : (n : ℕ) → n ≡ 1099511627776 → n < 1099511627776 → ⊥
not_full n full few = omega (arith, full, few)
