use Rattle.std.proofs.Common.{sym, subst}
use Rattle.inc_value.specs.Sig.{Signature}
use Rattle.node_arena.specs.Building.{Grows}
use Rattle.node_arena.specs.RightSide.{RightSide, MayBuild}
use Rattle.closures.specs.Tables.{SideMeaning}
use Rattle.closures.specs.TableLaws.{side_there, side_at}
use Rattle.closures.proofs.Tables.{one_there, same_root, side_called}
use Rattle.closures.proofs.closures.ClosuresFunctions.build.Goals as goal

pub build_at-root-requires-clause-ready : goal.build_at-root-requires-clause-ready
build_at-root-requires-clause-ready g c m there =
    let k = side_there _ _ c.args.f c.requires.known c.requires.kind in
    let b = c.args.builder.now in
    let left = c.args.left.now in
    let captures = c.args.captures.now in
    let same = sym (side_at _ c.args.f k.0 c.requires.kind k.1) in
    subst (λ (x : SideMeaning). MayBuild b x.sig x.side left captures) (one_there _ k.0 m k.1 there)
    (subst (λ (s : Signature). MayBuild b s k.0.side left captures) (sym k.2)
    (subst (λ (r : RightSide). MayBuild b c.args.f.sig r left captures) same c.requires.ready))

pub overflow_sub-given : goal.overflow_sub-given
overflow_sub-given g c =
    let k = side_there _ _ c.args.f c.requires.known c.requires.kind in
    let later = (c.build_at-root.ensures.grows k.0 k.1).later in
    rw (c.given-given.ensures, c.given.ensures) later

pub returns-clause-grows : goal.returns-clause-grows
returns-clause-grows g c =
    let k = side_there _ _ c.args.f c.requires.known c.requires.kind in
    subst (λ (r : RightSide). Grows r.uses c.args.builder.now c.build_at-root.new.builder r.size)
    (side_at _ c.args.f k.0 c.requires.kind k.1) (c.build_at-root.ensures.grows k.0 k.1)

pub returns-clause-root : goal.returns-clause-root
returns-clause-root g c =
    let k = side_there _ _ c.args.f c.requires.known c.requires.kind in
    same_root c.build_at-root.result c.build_at-root.new.builder c.args.captures.now c.args.left.now
    (side_at _ c.args.f k.0 c.requires.kind k.1) k.2 (c.build_at-root.ensures.root k.0 k.1)

pub returns-clause-once : goal.returns-clause-once
returns-clause-once g c = side_called c.args.f _ _ _ c.requires.kind c.build_at-root.ensures.called
