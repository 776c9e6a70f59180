-- What a keeper counts where a right side is built.
use Rattle.std.proofs.Common.{◌≡◌, ◌⊎◌, inl, inr, ℕ, ◌+◌, ◌<◌, ◌≤◌, sym, subst, ◌∙◌, arith}
use Rattle.std.specs.Prelude.{min}
use Rattle.std.proofs.lemmas.Bool.{cases_lt}
use Rattle.std.proofs.Math.Nat.{lt_irrefl, min-le_right, min-eq_left, min-eq_right}
use Rattle.inc_value.specs.declared.outcome.Outcome.TheVariants.{Val}
use Rattle.inc_value.specs.declared.value.Value.{Value}
use Rattle.node_arena.specs.RightSide.{Tally, one_built}
use Rattle.stabilize_round.specs.Counts.{RoseBy, last_count}
use Rattle.stabilize_round.specs.Rebuilding.{builds_of}

capped : (most n more : ℕ) → (min (min (n + more) most) most ≡ min (n + more) most)
capped most n more = min-eq_left (min-le_right (n + more) most)

-- a count below or at the last value that it can show
below : (most n more : ℕ) → n + more ≤ most → (min n most ≡ n) × (min (min (n + more) most) most ≡ n + more)
below most n more le = (min-eq_left (omega (arith, le)), capped most n more ∙ min-eq_left le)

above : (most n more : ℕ) → most < n + more → (min (min (n + more) most) most ≡ most) × (min n most ≤ most) × (most ≤ min n most + more)
above most n more lt = (
  capped most n more ∙ min-eq_right (omega (arith, lt)),
  min-le_right n most,
  by (cases_lt most n),
)
  where
    by : (most < n) ⊎ (n ≤ most) → most ≤ min n most + more
    by (inl l) = let e : min n most ≡ most = min-eq_right (omega (arith, l)) in omega (arith, e)
    by (inr l) = let e : min n most ≡ n = min-eq_left l in omega (arith, e, lt)

rose_exact : (x y n more : ℕ) → x ≡ n → y ≡ n + more → RoseBy x more y
rose_exact x y n more was is = record { kept = omega (arith, was, is); most = omega (arith, was, is); exact = λ l. omega (arith, was, is) }

rose_full : (x y more : ℕ) → y ≡ last_count → x ≤ last_count → last_count ≤ x + more → RoseBy x more y
rose_full x y more is low enough = record {
  kept = subst (λ (k : ℕ). x ≤ k) (sym is) low;
  most = subst (λ (k : ℕ). k ≤ x + more) (sym is) enough;
  exact = λ l. absurd (lt_irrefl last_count (subst (λ (k : ℕ). k < last_count) is l));
}

-- a count that stands still there rises so
pub rose_capped : (n more : ℕ) → RoseBy (min n last_count) more (min (min (n + more) last_count) last_count)
rose_capped n more = by (cases_lt last_count (n + more))
  where
    by : (last_count < n + more) ⊎ (n + more ≤ last_count) → RoseBy (min n last_count) more (min (min (n + more) last_count) last_count)
    by (inr le) = let k = below last_count n more le in
        rose_exact (min n last_count) (min (min (n + more) last_count) last_count) n more k.0 k.1
    by (inl lt) = let k = above last_count n more lt in
        rose_full (min n last_count) (min (min (n + more) last_count) last_count) more k.0 k.1 k.2

module _ (number : ℕ) (old new : Tally) (is : new ≡ one_built number old) where
  -- builds
  pub tally_builds : (v : Value) → RoseBy (min old.builds last_count) (builds_of (Val v)) (min new.builds last_count)
  tally_builds v = subst (λ (t : Tally). RoseBy (min old.builds last_count) 1 (min t.builds last_count)) (sym is) (rose_capped old.builds 1)

  -- nodes that were added
  pub tally_adds : RoseBy (min old.adds last_count) number (min new.adds last_count)
  tally_adds = subst (λ (t : Tally). RoseBy (min old.adds last_count) number (min t.adds last_count)) (sym is) (rose_capped old.adds number)

  -- one more is counted, or as many as can be
  pub tally_rises : (min old.builds last_count < min new.builds last_count) ⊎ (min new.builds last_count ≡ last_count)
  tally_rises =
      let rose = subst (λ (t : Tally). RoseBy (min old.builds last_count) 1 (min t.builds last_count)) (sym is) (rose_capped old.builds 1) in
      elim (cases_lt (min new.builds last_count) last_count) [
        | inl below ↦ inl (let exact = rose.exact below in omega (arith, exact))
        | inr le ↦ inr (let low : min new.builds last_count ≤ last_count = min-le_right new.builds last_count in omega (arith, le, low))
      ]
