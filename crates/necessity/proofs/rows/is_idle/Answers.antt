use Rattle.std.proofs.Common.{◌∙◌, inl, inr, sym, ap, arith}
use Rattle.std.specs.Prelude.{not, is_some}
use Rattle.link_table.specs.Walks.{kids_left, readers_left}
use Rattle.necessity.proofs.Counts.{split}
use Rattle.necessity.proofs.Starts.{some_left, none_left, none_read, none_reads, not_false}
use Rattle.necessity.proofs.rows.is_idle.Goals as goal

pub returns-then-need_of-gt0 : goal.returns-then-need_of-gt0
returns-then-need_of-gt0 c =
    let roots = ap (λ n. n.roots) c.need_of.ensures in
    ((λ e. absurd (let f = e in cc)), (λ idle. absurd (omega (arith, idle.no_root, roots, c.if-need_of-gt0.true))))

pub returns-then-is_some : goal.returns-then-is_some
returns-then-is_some c =
    let kid = some_left kids_left c.kids.result c.next.new.self c.next.result c.next.ensures.steps (sym c.if-is_some.ensures) in
    ((λ e. absurd (let f = e in cc)), (λ idle. absurd (omega (arith, kid.1, c.kids.ensures kid.0, idle.no_kids kid.0))))

pub returns : goal.returns
returns c =
    let roots = ap (λ n. n.roots) c.need_of.ensures in
    let no_kid = none_left kids_left c.kids.result c.next.new.self c.next.result c.next.ensures.steps (sym c.if-is_some.ensures) in (
      (λ t. record {
        no_root = omega (arith, roots, c.if-need_of-gt0.false);
        no_kids = none_read c.args.links.now c.args.p (kids_left c.kids.result) c.kids.ensures no_kid;
        no_readers = none_reads c.args.links.now c.args.p (readers_left c.readers.result) c.readers.ensures
            (none_left readers_left c.readers.result c.next-2.new.self c.next-2.result c.next-2.ensures.steps (c.is_none.ensures ∙ ap not t));
      }),
      (λ idle. elim (split (is_some c.next-2.result)) [
        | inl some ↦ absurd (
            let reader = some_left readers_left c.readers.result c.next-2.new.self c.next-2.result c.next-2.ensures.steps some in
            omega (arith, reader.1, c.readers.ensures reader.0, idle.no_readers reader.0))
        | inr none ↦ not_false c.is_none.result (sym c.is_none.ensures ∙ none)
      ]),
    )
