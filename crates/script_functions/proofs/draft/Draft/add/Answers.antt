use Rattle.std.proofs.Common.{◌≡◌, ◌+◌, sym, subst}
use Rattle.script_functions.specs.Bodies as spec
use Rattle.script_functions.specs.Bodies.{NextHas, size_of}
use Rattle.script_functions.specs.Lines.{line_size}
use Rattle.script_functions.proofs.Adding.{draft_more, size_more}
use Rattle.script_functions.proofs.draft.Draft.add.Goals as goal

pub invariant_of-self-2 : goal.invariant_of-self-2
invariant_of-self-2 c =
    let i = c.self.inside in
    let d : spec.Draft = record { sig = i.sig; listed = i.listed.items; lines = i.lines.items } in
    let line = c.args.line in
    let ty = c.in-Ok.admitted.0 in
    let has = subst (λ (x : spec.Draft). NextHas x line ty) (sym c.self.view_is) c.in-Ok.ensures.typed in
    let size : c.in-Ok.admitted.1 ≡ size_of d + line_size line =
    subst (λ (x : spec.Draft). c.in-Ok.admitted.1 ≡ size_of x + line_size line) (sym c.self.view_is) c.in-Ok.ensures.size in
    let more = size_more d line ty in
    rw (c.push_reserved.ensures.items, c.reserve.ensures.items) (draft_more d line ty c.self.invariant.0 has, cc)
