use Rattle.std.proofs.Common.{sym, subst}
use Rattle.inc_value.specs.Sig.{Signature}
use Rattle.node_arena.specs.Building.{Grows}
use Rattle.node_arena.specs.RightSide.{RightSide, MayBuild}
use Rattle.script_functions.specs.Keeping.{Maker}
use Rattle.script_functions.specs.KeepingLaws.{there, side_there}
use Rattle.script_functions.proofs.Tables.{one_there, same_root}
use Rattle.script_functions.proofs.functions.ScriptFnsFunctions.build.Goals as goal

pub build_at-root-requires-clause-ready : goal.build_at-root-requires-clause-ready
build_at-root-requires-clause-ready g c m is =
    let library = c.args.self.now.library in
    let k = there (g.L.Library.known library) _ c.args.f c.requires.known c.requires.kind in
    let left = c.args.left.now in
    let captures = c.args.captures.now in
    subst (λ (x : Maker). MayBuild c.args.builder.now x.sig x.side left captures) (one_there _ k.0 m k.1 is)
    (subst (λ (s : Signature). MayBuild c.args.builder.now s k.0.side left captures) (sym k.2)
    (subst (λ (r : RightSide). MayBuild c.args.builder.now c.args.f.sig r left captures)
    (sym (side_there _ c.args.f k.0 c.requires.kind k.1)) c.requires.ready))

pub overflow_sub-given : goal.overflow_sub-given
overflow_sub-given g c =
    let library = c.args.self.now.library in
    let k = there (g.L.Library.known library) _ c.args.f c.requires.known c.requires.kind in
    let later = (c.build_at-root.ensures.grows k.0 k.1).later in
    rw (c.given-given.ensures, c.given.ensures) later

pub returns-clause-grows : goal.returns-clause-grows
returns-clause-grows g c =
    let library = c.args.self.now.library in
    let k = there (g.L.Library.known library) _ c.args.f c.requires.known c.requires.kind in
    subst (λ (r : RightSide). Grows r.uses c.args.builder.now c.build_at-root.new.builder r.size)
    (side_there _ c.args.f k.0 c.requires.kind k.1) (c.build_at-root.ensures.grows k.0 k.1)

pub returns-clause-root : goal.returns-clause-root
returns-clause-root g c =
    let library = c.args.self.now.library in
    let k = there (g.L.Library.known library) _ c.args.f c.requires.known c.requires.kind in
    let made = side_there _ c.args.f k.0 c.requires.kind k.1 in
    same_root c.build_at-root.result c.build_at-root.new.builder c.args.captures.now c.args.left.now k.0.side _ k.0.sig
    c.args.f.sig made k.2 (c.build_at-root.ensures.root k.0 k.1)
