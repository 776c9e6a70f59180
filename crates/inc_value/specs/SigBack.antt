-- A stored signature comes back from its view.
use Rattle.std.specs.Prelude.{◌≤◌, ◌≡◌, length, take}
use Rattle.std.proofs.Common.{sym}
use Rattle.inc_value.specs.declared.function.Sig.TheInside.{Inside}
use Rattle.inc_value.specs.Sig.{padded}

-- where the stored array is its padded front, the front gives it back
pub fields_back : (a : Inside) → (1 ≤ a.count) × (a.count ≤ 64) × (length (take a.count a.takes) ≡ a.count) × (a.takes ≡ padded (take a.count a.takes))
    → (let v = take a.count a.takes in let b : Inside = record { takes = padded v; count = length v; gives = a.gives } in b ≡ a)
fields_back a h = λ i. record { takes = (sym h.3) i; count = h.2 i; gives = a.gives }
