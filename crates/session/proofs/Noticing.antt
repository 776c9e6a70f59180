-- A notice whose parts were appended, from the lengths behind each of them.
use Rattle.std.proofs.Common.{◌≡◌, ℕ, ◌+◌, ◌-◌, List, ◌++◌, length, ap, arith, ◌∙◌}
use Rattle.std.proofs.lemmas.List.{append_assoc, length-append}
use Rattle.observers.specs.declared.notice.Notice.{Notice}
use Rattle.script_graph.specs.Kept.{Kept}
use Rattle.session.specs.Notices.{IsBefore, IsNow, ReadsParts, kind_of}
use Rattle.session.specs.Replies.{IsObserverName}
use Rattle.session.specs.declared.session.notices.NoticeKind.{NoticeKind}

pub parts_read : (k : Kept) (notice : Notice) (kind : NoticeKind) (name before now written named told text appended : List ℕ) (behind_name behind_before behind : ℕ)
    → kind ≡ kind_of notice.told → IsObserverName k notice.observer name → IsBefore k notice.told before → IsNow k notice.told now
    → named ≡ name → told ≡ named ++ before → text ≡ told ++ now
    → behind_name ≡ length named → behind_before ≡ length told → behind ≡ length text → appended ≡ written ++ text
    → ReadsParts k notice written (record { kind = kind; name = behind_name; before = behind_before - behind_name; now = behind - behind_before }) appended
parts_read k notice kind name before now written named told text appended behind_name behind_before behind kind_is name_is was is
    at_name at_before at_now first second third written_is =
    let long : length told ≡ length named + length before = ap length at_before ∙ length-append named before in
    let longer : length text ≡ length told + length now = ap length at_now ∙ length-append told now in
    record {
      name = name;
      before = before;
      now = now;
      has = record { kind_is = kind_is; named = name_is; was_told = was; is_shown = is };
      name_long = first ∙ ap length at_name;
      before_long = omega (arith, long, first, second);
      now_long = omega (arith, longer, second, third);
      text = written_is ∙ ap (λ (bytes : List ℕ). written ++ bytes)
          (at_now ∙ (ap (λ (bytes : List ℕ). bytes ++ now) (at_before ∙ ap (λ (bytes : List ℕ). bytes ++ before) at_name) ∙ append_assoc name before now));
    }
