-- The part that a reader of lines has taken so far, and what its end means.
use Rattle.std.proofs.Common.{◌≡◌, ◌≢◌, ◌⊎◌, ℕ, zero, suc, ◌+◌, ◌<◌, ◌≤◌, Bool, List, [], ◌∷◌, ◌++◌, length, take, Option, refl, sym, ◌∙◌, ap, subst, inl, inr, arith, length-append, append-nil, append_assoc}
use Rattle.std.proofs.lemmas.List.{take_all, take-append-le, length-take, length-take-le, replicate-append-replicate}
use Rattle.std.proofs.lemmas.Bool.{cases_lt}
use Rattle.std.specs.List.{Contains}
use Rattle.std.specs.Io.KnownBytes.{Appends, Consumes, IsAtEnd}
use Rattle.std.proofs.KnownBytes.{Appends-trans, Consumes-trans}
use Rattle.script_io.specs.Bytes.{AreOfferedWhole, stream_ahead}
use Rattle.script_io.specs.Lines.{HasNoNewline, Stream, Reader, Takes, EndsLine, Means, HoldsEnough, ahead}
use Rattle.script_io.specs.declared.line_reader.Got.{Got}
use Rattle.script_io.specs.declared.line_reader.Got.TheVariants.{Line, TooLong}

-- a byte at the end of the front of a text
pub take-push : (n : ℕ) (text : List ℕ) (b : ℕ) → take n (take n text ++ b ∷ []) ≡ take n (text ++ b ∷ [])
take-push n text b =
    elim (cases_lt (length text) n) [
      | inl lt ↦ ap (λ l. take n (l ++ b ∷ [])) (take_all n text (omega arith))
      | inr le ↦ take-append-le n (take n text) (b ∷ []) (omega (arith, length-take-le n text le)) ∙ take_all n (take n text) (omega (arith, length-take-le n text le)) ∙ sym (take-append-le n text (b ∷ []) le)
    ]

-- bytes without a newline, and one more
pub HasNoNewline-push : (bytes : List ℕ) (b : ℕ) → HasNoNewline bytes → b ≢ 10 → HasNoNewline (bytes ++ b ∷ [])
HasNoNewline-push [] b h ne = (ne, tt)
HasNoNewline-push (c ∷ bytes) b h ne = (h.0, HasNoNewline-push bytes b h.1 ne)

-- bytes without a newline don't contain one
no_newline : (bytes : List ℕ) → HasNoNewline bytes → Contains bytes 10 → ⊥
no_newline [] h c = omega (arith, c.1)
no_newline (b ∷ bytes) h (zero, within, is) = h.0 is
no_newline (b ∷ bytes) h (suc k, within, is) = no_newline bytes h.1 (k, omega arith, is)

-- reads after reads
pub AreOfferedWhole-trans : (a b c : Option (List ℕ)) → AreOfferedWhole a b → AreOfferedWhole b c → AreOfferedWhole a c
AreOfferedWhole-trans a b c p q = (p.0 + q.0, subst (Appends a c) (replicate-append-replicate p.0 q.0 4096) (Appends-trans a b c _ _ p.1 q.1))

-- nothing was read and what was taken was held, or all that was held has no newline and may be taken
abbrev pub IsUnread : {S : Type 0} → Reader → Stream → List ℕ → S → S → ℕ → Type 0
IsUnread old now text first last limit = ((last ≡ first) × (old.held ≡ text ++ now.held)) ⊎ (HasNoNewline old.held × (old.taken + length old.held ≤ limit))

-- where that may be taken and has no newline, not enough was held
not_enough : (old : Reader) (limit : ℕ) → HasNoNewline old.held → old.taken + length old.held ≤ limit → HoldsEnough old limit → ⊥
not_enough old limit clear few (inl newline) = no_newline old.held clear newline
not_enough old limit clear few (inr more) = omega arith

-- where enough was held, what was taken came off what was held
from_held : {S : Type 0} (old : Reader) (now : Stream) (text : List ℕ) (first last : S) (limit : ℕ) → IsUnread old now text first last limit → HoldsEnough old limit
    → old.held ≡ text ++ now.held
from_held old now text first last limit (inl u) enough = u.1
from_held old now text first last limit (inr none) enough = absurd (not_enough old limit none.0 none.1 enough)

-- where all that was held was taken, not enough was held
none_held : (old : Reader) (text : List ℕ) (limit : ℕ) → HasNoNewline text → old.taken + length text ≤ limit → old.held ≡ text ++ []
    → HasNoNewline old.held × (old.taken + length old.held ≤ limit)
none_held old text limit clear few e =
    let same : old.held ≡ text = e ∙ append-nil text in (subst HasNoNewline (sym same) clear, let n = ap length same in omega (arith, n))

-- one byte more
unread-more : {S : Type 0} (old : Reader) (held : List ℕ) (now : Stream) (text : List ℕ) (b : ℕ) (first mid last : S) (limit : ℕ) → HasNoNewline text
    → old.taken + length text ≤ limit → ((mid ≡ first) × (old.held ≡ text ++ held)) ⊎ (HasNoNewline old.held × (old.taken + length old.held ≤ limit))
    → (0 < length held → last ≡ mid) → (0 < length held → held ≡ b ∷ now.held) → IsUnread old now (text ++ b ∷ []) first last limit
unread-more old held now text b first mid last limit clear few (inr none) same from = inr none
unread-more old [] now text b first mid last limit clear few (inl u) same from = inr (none_held old text limit clear few u.1)
unread-more old (c ∷ held) now text b first mid last limit clear few (inl u) same from =
    inl (same (omega arith) ∙ u.0, u.1 ∙ ap (λ l. text ++ l) (from (omega arith)) ∙ sym (append_assoc text (b ∷ []) now.held))

-- no byte more
unread-stop : {S : Type 0} (old : Reader) (held : List ℕ) (now : Stream) (text : List ℕ) (first mid last : S) (limit : ℕ) → HasNoNewline text
    → old.taken + length text ≤ limit → ((mid ≡ first) × (old.held ≡ text ++ held)) ⊎ (HasNoNewline old.held × (old.taken + length old.held ≤ limit))
    → (0 < length held → last ≡ mid) → (0 < length held → now.held ≡ held) → IsUnread old now text first last limit
unread-stop old held now text first mid last limit clear few (inr none) same from = inr none
unread-stop old [] now text first mid last limit clear few (inl u) same from = inr (none_held old text limit clear few u.1)
unread-stop old (c ∷ held) now text first mid last limit clear few (inl u) same from =
    inl (same (omega arith) ∙ u.0, u.1 ∙ ap (λ l. text ++ l) (sym (from (omega arith))))

-- where enough was held, the step behind these bytes read nothing either
still : {S : Type 0} (old : Reader) (held text : List ℕ) (first mid last : S) (limit : ℕ) → HasNoNewline text → old.taken + length text ≤ limit
    → ((mid ≡ first) × (old.held ≡ text ++ held)) ⊎ (HasNoNewline old.held × (old.taken + length old.held ≤ limit))
    → (0 < length held → last ≡ mid) → HoldsEnough old limit → last ≡ first
still old held text first mid last limit clear few (inr none) same enough = absurd (not_enough old limit none.0 none.1 enough)
still old [] text first mid last limit clear few (inl u) same enough =
    let none = none_held old text limit clear few u.1 in absurd (not_enough old limit none.0 none.1 enough)
still old (b ∷ held) text first mid last limit clear few (inl u) same enough = same (omega arith) ∙ u.0

-- the bytes of one line that were taken so far; the reader's line has as many of them as it may
pub record Taking {S : Type 0} (old : Reader) (now : Stream) (first last : S) (before after : Option (List ℕ)) (line : List ℕ) (size limit : ℕ) : Type 0 where
  pub text : List ℕ
  pub clear : HasNoNewline text
  pub bytes : Consumes (ahead old before) (stream_ahead now after) text
  pub count : now.taken ≡ old.taken + length text
  pub long : size ≡ length text
  pub front : line ≡ take 4096 text
  pub within : now.taken ≤ limit
  pub unread : IsUnread old now text first last limit

-- where enough was held, nothing was read
pub Taking-still : {S : Type 0} (old : Reader) (mid : Stream) (first between last : S) (a b : Option (List ℕ)) (line : List ℕ) (size limit : ℕ)
    → Taking old mid first between a b line size limit → (0 < length mid.held → last ≡ between) → HoldsEnough old limit → last ≡ first
Taking-still old mid first between last a b line size limit t same enough =
    still old mid.held t.text first between last limit t.clear (let n = t.count in let w = t.within in omega (arith, n, w)) t.unread same enough

-- one byte more
pub Taking-more : {S : Type 0} (old : Reader) (mid now : Stream) (first between last : S) (a b c : Option (List ℕ)) (line more : List ℕ) (size limit byte : ℕ)
    → Taking old mid first between a b line size limit → Consumes (stream_ahead mid b) (stream_ahead now c) (byte ∷ []) → now.taken ≡ mid.taken + 1 → now.taken ≤ limit → byte ≢ 10
    → more ≡ take 4096 (line ++ byte ∷ []) → (0 < length mid.held → last ≡ between) → (0 < length mid.held → mid.held ≡ byte ∷ now.held)
    → Taking old now first last a c more (size + 1) limit
Taking-more old mid now first between last a b c line more size limit byte t bytes count within ne e same from =
    let longer = length-append t.text (byte ∷ []) in
    record {
      text = t.text ++ byte ∷ [];
      clear = HasNoNewline-push t.text byte t.clear ne;
      bytes = Consumes-trans _ _ _ t.text (byte ∷ []) t.bytes bytes;
      count = omega arith;
      long = omega arith;
      front = e ∙ ap (λ l. take 4096 (l ++ byte ∷ [])) t.front ∙ take-push 4096 t.text byte;
      within = within;
      unread = unread-more old mid.held now t.text byte first between last limit t.clear (let n = t.count in let w = t.within in omega (arith, n, w)) t.unread same from;
    }

-- a reader of lines over a stream of bytes
abbrev pub reader : Stream → List ℕ → Bool → Reader
reader s line ended = record { held = s.held; line = line; taken = s.taken; ended = ended }

-- a line ended, and the part taken is the line or a line that is too long
Takes-whole : {S : Type 0} (old : Reader) (now : Stream) (first last : S) (before after : Option (List ℕ)) (text part line kept : List ℕ) (size limit : ℕ) (got : Got) (ended : Bool)
    → HasNoNewline text → size ≡ length text → line ≡ take 4096 text → EndsLine text part (stream_ahead now after)
    → Consumes (ahead old before) (stream_ahead now after) part → now.taken ≡ old.taken + length part → IsUnread old now part first last limit
    → (size ≤ 4096 → (got ≡ Line) × (kept ≡ line)) → (4096 < size → (got ≡ TooLong) × (kept ≡ []))
    → (p : List ℕ) × Takes old (reader now kept ended) before after limit got p
Takes-whole old now first last before after text part line kept size limit got ended clear long front ends bytes count kept_back short exceeds =
    elim (cases_lt 4096 size) [
      | inl lt ↦ (
        part,
        record {
          bytes = bytes;
          count = count;
          meaning = subst (λ g. Means (reader now kept ended) (stream_ahead now after) limit part g) (sym (exceeds lt).0)
              (record { long = text; clear = clear; exceeds = omega arith; ends = ends });
          from_held = from_held old now part first last limit kept_back;
        },
      )
      | inr le ↦
          let same : text ≡ kept = sym ((short le).1 ∙ front ∙ take_all 4096 text (omega arith)) in (
            part,
            record {
              bytes = bytes;
              count = count;
              meaning = subst (λ g. Means (reader now kept ended) (stream_ahead now after) limit part g) (sym (short le).0)
                  (record { clear = subst HasNoNewline same clear; short = subst (λ l. length l ≤ 4096) same (omega arith); ends = subst (λ l. EndsLine l part (stream_ahead now after)) same ends });
              from_held = from_held old now part first last limit kept_back;
            },
          )
    ]

-- a newline came
pub Takes-newline : {S : Type 0} (old : Reader) (mid now : Stream) (first between last : S) (a b c : Option (List ℕ)) (line kept : List ℕ) (size limit : ℕ) (got : Got) (ended : Bool)
    → Taking old mid first between a b line size limit → Consumes (stream_ahead mid b) (stream_ahead now c) (10 ∷ []) → now.taken ≡ mid.taken + 1
    → (0 < length mid.held → last ≡ between) → (0 < length mid.held → mid.held ≡ 10 ∷ now.held)
    → (size ≤ 4096 → (got ≡ Line) × (kept ≡ line)) → (4096 < size → (got ≡ TooLong) × (kept ≡ []))
    → (p : List ℕ) × Takes old (reader now kept ended) a c limit got p
Takes-newline old mid now first between last a b c line kept size limit got ended t bytes count same from short exceeds =
    let longer = length-append t.text (10 ∷ []) in
    Takes-whole old now first last a c t.text (t.text ++ 10 ∷ []) line kept size limit got ended t.clear t.long t.front (inl refl)
    (Consumes-trans _ _ _ t.text (10 ∷ []) t.bytes bytes) (omega arith) (unread-more old mid.held now t.text 10 first between last limit t.clear (let n = t.count in let w = t.within in omega (arith, n, w)) t.unread same from) short exceeds

-- the end came after at least one byte
pub Takes-last : {S : Type 0} (old : Reader) (mid now : Stream) (first between last : S) (a b c : Option (List ℕ)) (line kept : List ℕ) (size limit : ℕ) (got : Got) (ended : Bool)
    → Taking old mid first between a b line size limit → Consumes (stream_ahead mid b) (stream_ahead now c) [] → now.taken ≡ mid.taken
    → IsAtEnd (stream_ahead now c) → 0 < size
    → (0 < length mid.held → last ≡ between) → (0 < length mid.held → now.held ≡ mid.held)
    → (size ≤ 4096 → (got ≡ Line) × (kept ≡ line)) → (4096 < size → (got ≡ TooLong) × (kept ≡ []))
    → (p : List ℕ) × Takes old (reader now kept ended) a c limit got p
Takes-last old mid now first between last a b c line kept size limit got ended t bytes count end some same from short exceeds =
    Takes-whole old now first last a c t.text t.text line kept size limit got ended t.clear t.long t.front (inr (refl, omega arith, end))
    (subst (Consumes _ _) (append-nil t.text) (Consumes-trans _ _ _ t.text [] t.bytes bytes)) (omega arith)
    (unread-stop old mid.held now t.text first between last limit t.clear (let n = t.count in let w = t.within in omega (arith, n, w)) t.unread same from) short exceeds

-- a line of no bytes
pub no_text : (text : List ℕ) (size : ℕ) → size ≡ length text → size ≤ 0 → text ≡ []
no_text [] size e none = refl
no_text (b ∷ text) size e none = absurd (omega arith)

-- a reader's line is never longer than it may be
pub front_short : (line text : List ℕ) → line ≡ take 4096 text → length line ≤ 4096
front_short line text e = let n = ap length e in omega (arith, n, length-take 4096 text)

-- no line ended: the end came after no byte, or the limit or a failed read behind a part of a line
pub Takes-part : {S : Type 0} (old : Reader) (mid now : Stream) (first between last : S) (a b c : Option (List ℕ)) (line kept : List ℕ) (size limit : ℕ) (got : Got) (ended : Bool)
    → (t : Taking old mid first between a b line size limit) → Consumes (stream_ahead mid b) (stream_ahead now c) [] → now.taken ≡ mid.taken
    → Means (reader now kept ended) (stream_ahead now c) limit t.text got
    → (0 < length mid.held → last ≡ between) → (0 < length mid.held → now.held ≡ mid.held)
    → (p : List ℕ) × Takes old (reader now kept ended) a c limit got p
Takes-part old mid now first between last a b c line kept size limit got ended t bytes count means same from = (
  t.text,
  record {
    bytes = subst (Consumes _ _) (append-nil t.text) (Consumes-trans _ _ _ t.text [] t.bytes bytes);
    count = let n = t.count in omega arith;
    meaning = means;
    from_held = from_held old now t.text first last limit (unread-stop old mid.held now t.text first between last limit t.clear (let n = t.count in let w = t.within in omega (arith, n, w)) t.unread same from);
  },
)
