-- How the slots of deadlines lie to each other, and how they change as now moves on.
use Rattle.std.proofs.Common.{◌≡◌, ◌≢◌, ◌∙◌, ◌⊎◌, ℕ, zero, suc, ◌+◌, ◌*◌, ◌/◌, ◌%◌, ◌^◌, ◌<◌, ◌≤◌, refl, ap, sym, inl, inr, arith, cond}
use Rattle.std.proofs.lemmas.Bool.{cases_eq, ne_eqb, eq-eqb, cases_lt}
use Rattle.std.proofs.lemmas.Nat.{div-add-mod', mod_below, div_below}
use Rattle.timing_wheel.specs.Slots.{slot_above, slot}

-- a number by its lowest byte and the others
record Bytes (n : ℕ) : Type 0 where
  whole : n / 256 * 256 + n % 256 ≡ n
  low : n % 256 < 256

bytes : (n : ℕ) → Bytes n
bytes n = record { whole = div-add-mod' n 256; low = mod_below n 256 (omega arith) }

same_level : (above now d : ℕ) → now / 256 ≡ d / 256 → slot_above (suc above) now d ≡ d % 256
same_level above now d same = ap (λ t. cond t (d % 256) (256 + slot_above above (now / 256) (d / 256))) (eq-eqb (now / 256) (d / 256) same)

higher_level : (above now d : ℕ) → now / 256 ≢ d / 256 → slot_above (suc above) now d ≡ 256 + slot_above above (now / 256) (d / 256)
higher_level above now d differs =
    ap (λ t. cond t (d % 256) (256 + slot_above above (now / 256) (d / 256))) (ne_eqb (now / 256) (d / 256) differs)

quotients : (a b : ℕ) → a ≤ b → a / 256 ≤ b / 256
quotients a b le =
    let x = bytes a in let y = bytes b in
    elim (cases_lt (b / 256) (a / 256)) [
      | inl lt ↦ absurd (omega (arith, x.whole, x.low, y.whole, y.low, le, lt))
      | inr ge ↦ ge
    ]

apart : (a b : ℕ) → a ≤ b → a / 256 ≢ b / 256 → a / 256 < b / 256
apart a b le differs = let q = quotients a b le in omega (arith, q, differs)

-- a number of one byte more than so many
abbrev pub Fits : ℕ → ℕ → Type 0
Fits zero n = n < 256
Fits (suc above) n = Fits above (n / 256)

-- a lower slot has earlier deadlines
pub slots_in_order : (above now d e : ℕ) → Fits above d → Fits above e → now < d → now < e → slot_above above now d < slot_above above now e → d < e
slots_in_order zero now d e fd fe hd he lower =
    let x = bytes d in let y = bytes e in omega (arith, x.whole, x.low, y.whole, y.low, fd, fe, lower)
slots_in_order (suc above) now d e fd fe hd he lower =
    let x = bytes d in let y = bytes e in let n = bytes now in
    elim (cases_eq (now / 256) (d / 256)) [
      | inl same_d ↦
          let sd = same_level above now d same_d in
          elim (cases_eq (now / 256) (e / 256)) [
            | inl same_e ↦
                let se = same_level above now e same_e in
                let l : d % 256 < e % 256 = rw (sd, se) at lower in
                omega (arith, x.whole, y.whole, l, same_d, same_e)
            | inr other_e ↦
                let q = apart now e (omega (arith, he)) other_e in
                omega (arith, x.whole, x.low, y.whole, y.low, q, same_d)
          ]
      | inr other_d ↦
          let sd = higher_level above now d other_d in
          elim (cases_eq (now / 256) (e / 256)) [
            | inl same_e ↦
                let se = same_level above now e same_e in
                let l : 256 + slot_above above (now / 256) (d / 256) < e % 256 = rw (sd, se) at lower in
                absurd (omega (arith, y.low, l))
            | inr other_e ↦
                let se = higher_level above now e other_e in
                let l : 256 + slot_above above (now / 256) (d / 256) < 256 + slot_above above (now / 256) (e / 256) = rw (sd, se) at lower in
                let q = slots_in_order above (now / 256) (d / 256) (e / 256) fd fe (apart now d (omega (arith, hd)) other_d)
                (apart now e (omega (arith, he)) other_e) (omega (arith, l)) in
                omega (arith, x.whole, x.low, y.whole, y.low, q)
          ]
    ]

-- a later slot stays while now moves on to a deadline of an earlier one
pub slot_stays : (above now later m d : ℕ) → Fits above m → Fits above d → now < m → now < d → now ≤ later → later ≤ m
    → slot_above above now m < slot_above above now d → slot_above above later d ≡ slot_above above now d
slot_stays zero now later m d fm fd hm hd from upto lower = refl
slot_stays (suc above) now later m d fm fd hm hd from upto lower =
    let first = slots_in_order (suc above) now m d fm fd hm hd lower in
    let q0 = quotients now later from in
    let q1 = quotients later m upto in
    elim (cases_eq (now / 256) (d / 256)) [
      | inl same_d ↦
          let q2 = quotients m d (omega (arith, first)) in
          same_level above later d (omega (arith, q0, q1, q2, same_d)) ∙ sym (same_level above now d same_d)
      | inr other_d ↦
          let sd = higher_level above now d other_d in
          elim (cases_eq (now / 256) (m / 256)) [
            | inl same_m ↦
                let q : later / 256 ≡ now / 256 = omega (arith, q0, q1, same_m) in
                higher_level above later d (λ e. other_d (sym q ∙ e))
                ∙ ap (λ n. 256 + slot_above above n (d / 256)) q ∙ sym sd
            | inr other_m ↦
                let sm = higher_level above now m other_m in
                let l : 256 + slot_above above (now / 256) (m / 256) < 256 + slot_above above (now / 256) (d / 256) = rw (sm, sd) at lower in
                let l' : slot_above above (now / 256) (m / 256) < slot_above above (now / 256) (d / 256) = omega (arith, l) in
                let am = apart now m (omega (arith, hm)) other_m in
                let ad = apart now d (omega (arith, hd)) other_d in
                let before = slots_in_order above (now / 256) (m / 256) (d / 256) fm fd am ad l' in
                higher_level above later d (λ e. omega (arith, e, q1, before))
                ∙ ap (λ n. 256 + n) (slot_stays above (now / 256) (later / 256) (m / 256) (d / 256) fm fd am ad q0 q1 l') ∙ sym sd
          ]
    ]

-- a slot's deadlines come to lower ones, once now moves on to the first of them, or as far as into the slot
pub slot_falls : (above now later m d : ℕ) → Fits above m → Fits above d → now < m → now < d → now ≤ later → later ≤ m → m ≤ d → later < d
    → slot_above above now m ≡ slot_above above now d → (later ≡ m) ⊎ (slot_above above later m ≢ slot_above above now m)
    → slot_above above later d < slot_above above now d
slot_falls zero now later m d fm fd hm hd from upto order before same moved =
    let x = bytes m in let y = bytes d in
    elim moved [
      | inl at ↦ absurd (omega (arith, x.whole, x.low, y.whole, y.low, fm, fd, same, at, before))
      | inr differs ↦ absurd (differs refl)
    ]
slot_falls (suc above) now later m d fm fd hm hd from upto order before same moved =
    let x = bytes m in let y = bytes d in
    let q0 = quotients now later from in
    let q1 = quotients later m upto in
    let q2 = quotients m d order in
    elim (cases_eq (now / 256) (m / 256)) [
      | inl same_m ↦
          let sm = same_level above now m same_m in
          elim (cases_eq (now / 256) (d / 256)) [
            | inl same_d ↦
                let sd = same_level above now d same_d in
                let low : m % 256 ≡ d % 256 = rw (sm, sd) at same in
                elim moved [
                  | inl at ↦ absurd (omega (arith, x.whole, y.whole, low, same_m, same_d, at, before))
                  | inr differs ↦ absurd (differs (same_level above later m (omega (arith, q0, q1, same_m)) ∙ sym sm))
                ]
            | inr other_d ↦
                let sd = higher_level above now d other_d in
                let bad : m % 256 ≡ 256 + slot_above above (now / 256) (d / 256) = rw (sm, sd) at same in
                absurd (omega (arith, x.low, bad))
          ]
      | inr other_m ↦
          let sm = higher_level above now m other_m in
          elim (cases_eq (now / 256) (d / 256)) [
            | inl same_d ↦
                let sd = same_level above now d same_d in
                let bad : 256 + slot_above above (now / 256) (m / 256) ≡ d % 256 = rw (sm, sd) at same in
                absurd (omega (arith, y.low, bad))
            | inr other_d ↦
                let sd = higher_level above now d other_d in
                let eq : 256 + slot_above above (now / 256) (m / 256) ≡ 256 + slot_above above (now / 256) (d / 256) = rw (sm, sd) at same in
                let eq' : slot_above above (now / 256) (m / 256) ≡ slot_above above (now / 256) (d / 256) = omega (arith, eq) in
                elim (cases_eq (later / 256) (d / 256)) [
                  | inl here ↦
                      let sl = same_level above later d here in
                      rw (sl, sd) (omega (arith, y.low))
                  | inr there ↦
                      let sl = higher_level above later d there in
                      let moved' : (later / 256 ≡ m / 256) ⊎ (slot_above above (later / 256) (m / 256) ≢ slot_above above (now / 256) (m / 256)) =
                      elim moved [
                        | inl at ↦ inl (ap (λ n. n / 256) at)
                        | inr differs ↦ elim (cases_eq (later / 256) (m / 256)) [
                          | inl level ↦ inl level
                          | inr level ↦ inr (λ e. differs (higher_level above later m level ∙ ap (λ n. 256 + n) e ∙ sym sm))
                        ]
                      ] in
                      let l = slot_falls above (now / 256) (later / 256) (m / 256) (d / 256) fm fd (apart now m (omega (arith, hm)) other_m)
                      (apart now d (omega (arith, hd)) other_d) q0 q1 q2 (apart later d (omega (arith, before)) there) eq' moved' in
                      rw (sl, sd) (omega (arith, l))
                ]
          ]
    ]

-- while one deadline's slot stays, so does the slot of each other of that slot, and now doesn't come to them
pub slot_still : (above now later m d : ℕ) → Fits above m → Fits above d → now < m → now < d → now ≤ later → later < m
    → slot_above above later m ≡ slot_above above now m → slot_above above now d ≡ slot_above above now m
    → (later < d) × (slot_above above later d ≡ slot_above above now d)
slot_still zero now later m d fm fd hm hd from upto still same =
    let x = bytes m in let y = bytes d in (omega (arith, x.whole, x.low, y.whole, y.low, fm, fd, same, upto), refl)
slot_still (suc above) now later m d fm fd hm hd from upto still same =
    let x = bytes m in let y = bytes d in
    let q0 = quotients now later from in
    let q1 = quotients later m (omega (arith, upto)) in
    elim (cases_eq (now / 256) (m / 256)) [
      | inl same_m ↦
          let sm = same_level above now m same_m in
          elim (cases_eq (now / 256) (d / 256)) [
            | inl same_d ↦
                let sd = same_level above now d same_d in
                let low : d % 256 ≡ m % 256 = rw (sm, sd) at same in (
                  omega (arith, x.whole, y.whole, low, same_m, same_d, upto),
                  same_level above later d (omega (arith, q0, q1, same_m, same_d)) ∙ sym sd,
                )
            | inr other_d ↦
                let sd = higher_level above now d other_d in
                let bad : 256 + slot_above above (now / 256) (d / 256) ≡ m % 256 = rw (sm, sd) at same in
                absurd (omega (arith, x.low, bad))
          ]
      | inr other_m ↦
          let sm = higher_level above now m other_m in
          elim (cases_eq (now / 256) (d / 256)) [
            | inl same_d ↦
                let sd = same_level above now d same_d in
                let bad : d % 256 ≡ 256 + slot_above above (now / 256) (m / 256) = rw (sm, sd) at same in
                absurd (omega (arith, y.low, bad))
            | inr other_d ↦
                let sd = higher_level above now d other_d in
                let eq : 256 + slot_above above (now / 256) (d / 256) ≡ 256 + slot_above above (now / 256) (m / 256) = rw (sm, sd) at same in
                elim (cases_eq (later / 256) (m / 256)) [
                  | inl level ↦
                      let sl = same_level above later m level in
                      let bad : m % 256 ≡ 256 + slot_above above (now / 256) (m / 256) = rw (sl, sm) at still in
                      absurd (omega (arith, x.low, bad))
                  | inr level ↦
                      let sl = higher_level above later m level in
                      let st : 256 + slot_above above (later / 256) (m / 256) ≡ 256 + slot_above above (now / 256) (m / 256) = rw (sl, sm) at still in
                      let r = slot_still above (now / 256) (later / 256) (m / 256) (d / 256) fm fd (apart now m (omega (arith, hm)) other_m)
                      (apart now d (omega (arith, hd)) other_d) q0 (apart later m (omega (arith, upto)) level) (omega (arith, st)) (omega (arith, eq)) in
                      let z = bytes later in (
                        (let r0 = r.0 in omega (arith, z.whole, z.low, y.whole, y.low, r0)),
                        higher_level above later d (λ e. let r0 = r.0 in omega (arith, e, r0)) ∙ ap (λ n. 256 + n) r.1 ∙ sym sd,
                      )
                ]
          ]
    ]

-- a slot is on one of so many levels more than one
pub slot_within : (above now d : ℕ) → slot_above above now d < 256 * (above + 1)
slot_within zero now d = let x = bytes d in omega (arith, x.low)
slot_within (suc above) now d =
    let x = bytes d in
    elim (cases_eq (now / 256) (d / 256)) [
      | inl same ↦ rw (same_level above now d same) (omega (arith, x.low))
      | inr differs ↦
          let l = slot_within above (now / 256) (d / 256) in
          rw (higher_level above now d differs) (omega (arith, l))
    ]

-- how far the search for a slot has come
pub record Seeking (now deadline early late base : ℕ) : Type 0 where
  pub above : ℕ
  pub same : slot now deadline ≡ base + slot_above above early late
  pub fits : Fits above late
  pub fits_early : Fits above early
  pub order : early < late
  pub levels : base + 256 * above ≡ 1792

pub fits_all : (n : ℕ) → n < 2 ^ 64 → Fits 7 n
fits_all n h =
    let a = div_below n 256 (2 ^ 56) (omega arith) h in
    let b = div_below (n / 256) 256 (2 ^ 48) (omega arith) a in
    let c = div_below (n / 256 / 256) 256 (2 ^ 40) (omega arith) b in
    let d = div_below (n / 256 / 256 / 256) 256 (2 ^ 32) (omega arith) c in
    let e = div_below (n / 256 / 256 / 256 / 256) 256 (2 ^ 24) (omega arith) d in
    let f = div_below (n / 256 / 256 / 256 / 256 / 256) 256 (2 ^ 16) (omega arith) e in
    div_below (n / 256 / 256 / 256 / 256 / 256 / 256) 256 (2 ^ 8) (omega arith) f

pub seeking_start : (now deadline : ℕ) → now < deadline → deadline < 2 ^ 64 → Seeking now deadline now deadline 0
unfolding slot
seeking_start now deadline order range = record {
  above = 7;
  same = omega arith;
  fits = fits_all deadline range;
  fits_early = fits_all now (omega (arith, order, range));
  order = order;
  levels = refl;
}

seek_from : (now deadline early late base above : ℕ) → slot now deadline ≡ base + slot_above above early late → Fits above late → Fits above early
    → early < late → base + 256 * above ≡ 1792 → early / 256 ≢ late / 256 → Seeking now deadline (early / 256) (late / 256) (base + 256)
seek_from now deadline early late base zero same fits fits_early order levels differs =
    let x = bytes early in let y = bytes late in
    absurd (differs (omega (arith, x.whole, x.low, y.whole, y.low, fits, fits_early)))
seek_from now deadline early late base (suc above) same fits fits_early order levels differs = record {
  above = above;
  same = let h = higher_level above early late differs in omega (arith, same, h);
  fits = fits;
  fits_early = fits_early;
  order = apart early late (omega (arith, order)) differs;
  levels = omega (arith, levels);
}

pub seeking_step : (now deadline early late base : ℕ) → Seeking now deadline early late base → early / 256 ≢ late / 256
    → Seeking now deadline (early / 256) (late / 256) (base + 256)
seeking_step now deadline early late base s differs =
    seek_from now deadline early late base s.above s.same s.fits s.fits_early s.order s.levels differs

level_end : (above early late : ℕ) → early / 256 ≡ late / 256 → slot_above above early late ≡ late % 256
level_end zero early late same = refl
level_end (suc above) early late same = same_level above early late same

pub seeking_end : (now deadline early late base : ℕ) → Seeking now deadline early late base → early / 256 ≡ late / 256
    → base + late % 256 ≡ slot now deadline
seeking_end now deadline early late base s same = let e = level_end s.above early late same in let t = s.same in omega (arith, e, t)

-- the same of the slots of all levels
module _ (now later m d : ℕ) (range_m : m < 2 ^ 64) (range_d : d < 2 ^ 64) (after_m : now < m) (after_d : now < d) where
  pub first_slots : slot now m < slot now d → m < d
  unfolding slot
  first_slots lower = slots_in_order 7 now m d (fits_all m range_m) (fits_all d range_d) after_m after_d lower

  pub stays : now ≤ later → later ≤ m → slot now m < slot now d → slot later d ≡ slot now d
  unfolding slot
  stays from upto lower = slot_stays 7 now later m d (fits_all m range_m) (fits_all d range_d) after_m after_d from upto lower

  pub falls : now ≤ later → later ≤ m → m ≤ d → later < d → slot now m ≡ slot now d → (later ≡ m) ⊎ (slot later m ≢ slot now m)
      → slot later d < slot now d
  unfolding slot
  falls from upto order before same moved =
      slot_falls 7 now later m d (fits_all m range_m) (fits_all d range_d) after_m after_d from upto order before same moved

  pub still : now ≤ later → later < m → slot later m ≡ slot now m → slot now d ≡ slot now m → (later < d) × (slot later d ≡ slot now d)
  unfolding slot
  still from upto same_m same = slot_still 7 now later m d (fits_all m range_m) (fits_all d range_d) after_m after_d from upto same_m same

pub within : (now d : ℕ) → slot now d < 2048
unfolding slot
within now d = slot_within 7 now d
