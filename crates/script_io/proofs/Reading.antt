-- Laws of the lines that were read.
use Rattle.std.proofs.Common.{◌≡◌, ◌⊎◌, ℕ, ◌+◌, ◌<◌, ◌≤◌, List, [], ◌∷◌, ◌++◌, length, Option, None, Some, IfSome, inl, inr, refl, sym, ◌∙◌, ap, subst, append_assoc, append-nil, arith, length-append}
use Rattle.std.specs.Io.KnownBytes.{Consumes}
use Rattle.std.specs.List.{flat_map}
use Rattle.std.proofs.lemmas.Grind.{flat_map-append}
use Rattle.script_io.specs.Lines.{HasNoNewline, EndsLine, IsEnd, IsLimit, IsFault, Reader, ahead, fresh, lines_of}
use Rattle.script_io.proofs.Lines.{lines_of-newline, lines_of-last}
use Rattle.script_io.specs.Reading.{with_newline, TakeFront, AreFirst, AreAll, ReadSoFar, Break, BreakAtFault, BreakAt}

-- the line that ends the part is the first one of what follows
first_line : (line part rest after : List ℕ) → rest ≡ part ++ after → HasNoNewline line → EndsLine line part (Some after) → lines_of rest ≡ line ∷ lines_of after
first_line line part rest after e clear (inl p) = ap lines_of (e ∙ ap (λ l. l ++ after) p ∙ append_assoc line (10 ∷ []) after) ∙ lines_of-newline line after clear
first_line line part rest after e clear (inr q) =
    ap lines_of (e ∙ ap (λ l. part ++ l) q.2 ∙ append-nil part ∙ q.0) ∙ lines_of-last line clear (subst (λ l. 0 < length l) q.0 q.1) ∙ ap (λ l. line ∷ lines_of l) (sym q.2)

-- each line so far has its newline, or nothing is left
whole_more : (line part front rest after : List ℕ) (lines : List (List ℕ)) → rest ≡ part ++ after → (front ≡ flat_map with_newline lines) ⊎ (rest ≡ [])
    → EndsLine line part (Some after) → (front ++ part ≡ flat_map with_newline (lines ++ line ∷ [])) ⊎ (after ≡ [])
whole_more line part front rest after lines e w (inr q) = inr q.2
whole_more line part front rest after lines e (inl f) (inl p) =
    inl (ap (λ l. l ++ part) f ∙ ap (λ l. flat_map with_newline lines ++ l) (p ∙ sym (append-nil (with_newline line))) ∙ sym (flat_map-append with_newline lines (line ∷ [])))
whole_more line part front rest after lines e (inr r) (inl p) =
    absurd (let none = ap length (sym r ∙ e) in let long = ap length p in omega (arith, none, long, length-append part after, length-append line (10 ∷ [])))

-- one line more
TakeFront-more : (bytes line part front rest after : List ℕ) (lines : List (List ℕ)) → TakeFront bytes lines front rest → rest ≡ part ++ after → HasNoNewline line
    → EndsLine line part (Some after) → TakeFront bytes (lines ++ line ∷ []) (front ++ part) after
TakeFront-more bytes line part front rest after lines t e clear ends = record {
  split = t.split ∙ ap (λ l. front ++ l) e ∙ sym (append_assoc front part after);
  first = t.first ∙ ap (λ l. lines ++ l) (first_line line part rest after e clear ends) ∙ sym (append_assoc lines (line ∷ []) (lines_of after));
  whole = whole_more line part front rest after lines e t.whole ends;
}

-- what is ahead of known bytes
known_rest : (left : Option (List ℕ)) (rest after part : List ℕ) (old new : Reader) → left ≡ Some rest → Consumes (ahead old left) (ahead new (Some after)) part
    → old.held ++ rest ≡ part ++ (new.held ++ after)
known_rest left rest after part old new e c = subst (λ o. Consumes (ahead old o) (ahead new (Some after)) part) e c

-- known bytes stay known
stays_known : (left : Option (List ℕ)) (rest part : List ℕ) (old new : Reader) → left ≡ Some rest → Consumes (ahead old left) (ahead new None) part → ⊥
stays_known left rest part old new e c = subst (λ o. Consumes (ahead old o) (ahead new None) part) e c

-- before the first line
pub ReadSoFar-start : (limit : ℕ) (told : Option (List ℕ)) (reader : Reader) → reader ≡ fresh → IfSome told (λ bytes. ReadSoFar limit bytes reader told [])
ReadSoFar-start limit None reader e = tt
ReadSoFar-start limit (Some bytes) reader e = subst (λ r. ReadSoFar limit bytes r (Some bytes) []) (sym e)
    (record { front = []; rest = bytes; is_left = refl; count = refl; first = record { split = refl; first = refl; whole = inl refl }; within = omega arith; few = omega arith })

-- one line more was read
pub ReadSoFar-more : (limit : ℕ) (told left after : Option (List ℕ)) (old new : Reader) (line part : List ℕ) (lines : List (List ℕ))
    → IfSome told (λ bytes. ReadSoFar limit bytes old left lines) → Consumes (ahead old left) (ahead new after) part → new.taken ≡ old.taken + length part
    → new.taken ≤ limit → length new.held ≤ 4096 → HasNoNewline line → EndsLine line part (ahead new after)
    → IfSome told (λ bytes. ReadSoFar limit bytes new after (lines ++ line ∷ []))
ReadSoFar-more limit None left after old new line part lines r c count within few clear ends = tt
ReadSoFar-more limit (Some bytes) left None old new line part lines r c count within few clear ends = absurd (stays_known left r.rest part old new r.is_left c)
ReadSoFar-more limit (Some bytes) left (Some after) old new line part lines r c count within few clear ends = record {
  front = r.front ++ part;
  rest = after;
  is_left = refl;
  count = let n = r.count in omega (arith, length-append r.front part);
  first = TakeFront-more bytes line part r.front (old.held ++ r.rest) (new.held ++ after) lines r.first (known_rest left r.rest after part old new r.is_left c) clear ends;
  within = let n = r.count in omega (arith, length-append r.front part);
  few = few;
}

-- the lines so far are the first ones
pub AreFirst-so_far : (limit : ℕ) (told left : Option (List ℕ)) (reader : Reader) (lines : List (List ℕ))
    → IfSome told (λ bytes. ReadSoFar limit bytes reader left lines) → IfSome told (λ bytes. AreFirst limit bytes left lines)
AreFirst-so_far limit None left reader lines r = tt
AreFirst-so_far limit (Some bytes) left reader lines r =
    record { front = r.front; held = reader.held; rest = r.rest; is_left = r.is_left; taken = r.first; within = r.within; few = r.few }

-- all bytes were read
pub AreAll-so_far : (limit : ℕ) (told left after : Option (List ℕ)) (old new : Reader) (part : List ℕ) (lines : List (List ℕ))
    → IfSome told (λ bytes. ReadSoFar limit bytes old left lines) → Consumes (ahead old left) (ahead new after) part → IsEnd new (ahead new after) part
    → IfSome told (λ bytes. AreAll limit bytes after lines)
AreAll-so_far limit None left after old new part lines r c end = tt
AreAll-so_far limit (Some bytes) left None old new part lines r c end = absurd (stays_known left r.rest part old new r.is_left c)
AreAll-so_far limit (Some bytes) left (Some after) old new part lines r c end =
    let nothing : old.held ++ r.rest ≡ [] = known_rest left r.rest after part old new r.is_left c ∙ ap (λ l. part ++ l) end.at_end ∙ ap (λ l. l ++ []) end.none in
    record {
      all = sym (r.first.first ∙ ap (λ l. lines ++ lines_of l) nothing ∙ append-nil lines);
      at_end = subst (λ l. l ++ after ≡ []) end.held end.at_end;
      within = let whole = ap length (r.first.split ∙ ap (λ l. r.front ++ l) nothing ∙ append-nil r.front) in let w = r.within in omega (arith, whole, w);
    }

-- a part of a line was taken behind the lines so far
abbrev broken : (limit : ℕ) (bytes after : List ℕ) (left : Option (List ℕ)) (old new : Reader) (part : List ℕ) (lines : List (List ℕ)) → ReadSoFar limit bytes old left lines
    → Consumes (ahead old left) (ahead new (Some after)) part → new.taken ≡ old.taken + length part → new.taken ≤ limit → length new.held ≤ 4096 → HasNoNewline part
    → Break limit bytes (Some after) lines
broken limit bytes after left old new part lines r c count within few clear = record {
  front = r.front;
  part = part;
  held = new.held;
  rest = after;
  is_left = refl;
  taken = subst (λ l. TakeFront bytes lines r.front l) (known_rest left r.rest after part old new r.is_left c) r.first;
  clear = clear;
  within = let n = r.count in omega (arith, length-append r.front part);
  few = few;
}

-- a part of a line was taken, and a read failed where no byte was held
pub BreakAtFault-so_far : (limit : ℕ) (told left after : Option (List ℕ)) (old new : Reader) (part : List ℕ) (lines : List (List ℕ))
    → IfSome told (λ bytes. ReadSoFar limit bytes old left lines) → Consumes (ahead old left) (ahead new after) part → new.taken ≡ old.taken + length part
    → new.taken ≤ limit → length new.held ≤ 4096 → IsFault new part → IfSome told (λ bytes. BreakAtFault limit bytes after lines)
BreakAtFault-so_far limit None left after old new part lines r c count within few fault = tt
BreakAtFault-so_far limit (Some bytes) left None old new part lines r c count within few fault = absurd (stays_known left r.rest part old new r.is_left c)
BreakAtFault-so_far limit (Some bytes) left (Some after) old new part lines r c count within few fault =
    record { break = broken limit bytes after left old new part lines r c count within few fault.clear; none_held = fault.held }

-- a part of a line was taken up to the limit, and another byte came
pub BreakAt-so_far : (limit : ℕ) (told left after : Option (List ℕ)) (old new : Reader) (part : List ℕ) (lines : List (List ℕ))
    → IfSome told (λ bytes. ReadSoFar limit bytes old left lines) → Consumes (ahead old left) (ahead new after) part → new.taken ≡ old.taken + length part
    → new.taken ≤ limit → length new.held ≤ 4096 → IsLimit new limit part → IfSome told (λ bytes. BreakAt limit bytes after lines)
BreakAt-so_far limit None left after old new part lines r c count within few stop = tt
BreakAt-so_far limit (Some bytes) left None old new part lines r c count within few stop = absurd (stays_known left r.rest part old new r.is_left c)
BreakAt-so_far limit (Some bytes) left (Some after) old new part lines r c count within few stop = record {
  break = broken limit bytes after left old new part lines r c count within few stop.clear;
  reached = let n = r.count in let reached = stop.reached in omega (arith, n, reached, length-append r.front part);
  more = stop.more;
}
