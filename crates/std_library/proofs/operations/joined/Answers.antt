use Rattle.std.proofs.Common.{◌≡◌, ◌∙◌, ap, subst}
use Rattle.std.specs.Prelude.{ℕ, ◌-◌, ◌++◌, List, length, min, take, IfOk}
use Rattle.std_library.specs.Operations.{joined}
use Rattle.std_library.specs.FunctionLaws.{joined_by_parts}
use Rattle.std_library.proofs.operations.joined.Goals as goal

-- the bytes that were gathered are the joined ones
pub returns : goal.returns
returns c =
    let first : c.in_ok-bytes.bytes.items ≡ c.args.first.now = c.in_ok-bytes.ensures.items ∙ c.bytes.ensures.value in
    let count : c.len.result ≡ length c.args.first.now =
    c.len.ensures ∙ c.in_ok-bytes.ensures.len ∙ ap (λ (b : List ℕ). length b) c.bytes.ensures.value in
    let second : c.bytes-second.result.now ≡ c.args.second.now = c.bytes-second.ensures.value in
    let taken : c.min-taken.result ≡ min (4096 - length c.args.first.now) (length c.args.second.now) =
    c.min-taken.ensures ∙ (λ i. min (4096 - count i) (length (second i))) in
    let gathered : c.in_ok-bytes.bytes.items ++ take c.min-taken.result c.bytes-second.result.now ≡ joined c.args.first.now c.args.second.now =
    (λ i. first i ++ take (taken i) (second i)) ∙ joined_by_parts c.args.first.now c.args.second.now c.bytes.ensures.text.0 in
    subst (λ (bytes : List ℕ). IfOk c.text.result (λ t. t ≡ bytes)) (c.deref.ensures.value ∙ c.in_ok-extend_from_slice.ensures.items ∙ gathered)
    c.text.ensures
