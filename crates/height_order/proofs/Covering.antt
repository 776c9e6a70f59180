-- Walks over what a point reads, or over its readers.
use Rattle.std.proofs.Common.{◌≡◌, ◌+◌, ◌<◌, Bool, true, false, cond, List, [], ◌∷◌, refl, sym, subst, inl, inr, arith}
use Rattle.std.specs.Prelude.{◌⊎◌}
use Rattle.std.proofs.lemmas.List.Sums.{sum_by-cons}
use Rattle.inc_value.specs.declared.node.Point.{Point}
use Rattle.point_map.proofs.Places.{same_point_eq, same_point_self}
use Rattle.link_table.specs.Links.{Links, Reads, occurrences, is_point, AreKids, AreReaders}

-- the point is among these
abbrev pub Occurs : List Point → Point → Type 0
Occurs points p = 0 < occurrences points p

occurs_cons : (r q : Point) (rest : List Point) → occurrences (r ∷ rest) q ≡ cond (is_point q r) 1 0 + occurrences rest q
occurs_cons r q rest = sum_by-cons (λ y. cond (is_point q y) 1 0) r rest

pub occurs_first : (r : Point) (rest : List Point) → Occurs (r ∷ rest) r
occurs_first r rest = rw (occurs_cons r r rest, same_point_self r) (omega arith)

pub occurs_later : (r q : Point) (rest : List Point) → Occurs rest q → Occurs (r ∷ rest) q
occurs_later r q rest h = let e = occurs_cons r q rest in omega (arith, e, h)

cases_by : (r q : Point) (rest : List Point) (b : Bool) → is_point q r ≡ b → 0 < cond b 1 0 + occurrences rest q → (q ≡ r) ⊎ Occurs rest q
cases_by r q rest true e h = inl (sym (same_point_eq r q e))
cases_by r q rest false e h = inr (omega (arith, h))

pub occurs_cases : (r q : Point) (rest : List Point) → Occurs (r ∷ rest) q → (q ≡ r) ⊎ Occurs rest q
occurs_cases r q rest h = let e = occurs_cons r q rest in cases_by r q rest (is_point q r) refl (omega (arith, e, h))

pub occurs_none : (q : Point) → Occurs [] q → ⊥
occurs_none q h = let e = h in omega (arith, e)

-- each of all these is left, or this is so of it
pub record Covers (All Done : Point → Type 0) (left : List Point) : Type 0 where
  pub among : (q : Point) → Occurs left q → All q
  pub rest : (q : Point) → All q → Occurs left q ⊎ Done q

pub kids_cover : (Done : Point → Type 0) (links : Links) (p : Point) (left : List Point) → AreKids links p left → Covers (Reads links p) Done left
kids_cover Done links p left are = record {
  among = λ q h. let e = are q in omega (arith, e, h);
  rest = λ q h. inl (let e = are q in omega (arith, e, h));
}

next_by : (Done Later : Point → Type 0) (r q : Point) (rest : List Point) → ((x : Point) → Done x → Later x) → Later r
    → Occurs (r ∷ rest) q ⊎ Done q → Occurs rest q ⊎ Later q
next_by Done Later r q rest keeps here (inr d) = inr (keeps q d)
next_by Done Later r q rest keeps here (inl h) = by (occurs_cases r q rest h)
  where
    by : (q ≡ r) ⊎ Occurs rest q → Occurs rest q ⊎ Later q
    by (inl e) = inr (subst Later (sym e) here)
    by (inr o) = inl o

-- one more
pub covers_next : (All Done Later : Point → Type 0) (r : Point) (rest : List Point) → Covers All Done (r ∷ rest) → ((q : Point) → Done q → Later q) → Later r
    → Covers All Later rest
covers_next All Done Later r rest so keeps here = record {
  among = λ q h. so.among q (occurs_later r q rest h);
  rest = λ q h. next_by Done Later r q rest keeps here (so.rest q h);
}

end_by : (Done : Point → Type 0) (q : Point) → Occurs [] q ⊎ Done q → Done q
end_by Done q (inl h) = absurd (occurs_none q h)
end_by Done q (inr d) = d

-- all of them
pub covers_end : (All Done : Point → Type 0) → Covers All Done [] → (q : Point) → All q → Done q
covers_end All Done so q h = end_by Done q (so.rest q h)

-- what is left of the readers are readers
pub among_readers : (links : Links) (q : Point) (left : List Point) → AreReaders links q left → (r : Point) → Occurs left r → Reads links r q
among_readers links q left are r h = let e = are r in omega (arith, e, h)
