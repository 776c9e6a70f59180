use Rattle.std.proofs.Common.{◌∙◌, ap, sym, subst, arith}
use Rattle.std.specs.Prelude.{is_some}
use Rattle.inc_value.specs.Choice.{Among}
use Rattle.inc_terms.specs.Depend.{main}
use Rattle.point_map.specs.Rows.{at}
use Rattle.observers.specs.Keeping.{listed_at}
use Rattle.observers.proofs.Lists.{within}
use Rattle.observers.proofs.Listing.{none_listed, kept_listed, looks_still}
use Rattle.observers.proofs.looking.look.Goals as goal

pub returns-in_default-clause-covers : goal.returns-in_default-clause-covers
returns-in_default-clause-covers c i o there used same =
    let l = c.args.looking.now in
    let none = ap is_some (rw c.in_default.is at c.get_mut.ensures.value) ∙ ap (λ p. is_some (at l p)) c.main.ensures in
    absurd (none_listed (at l (main c.args.node)) i none (subst (λ n. Among i (listed_at l n)) same (c.requires.looks i o there used)))

pub returns-clause-looks : goal.returns-clause-looks
returns-clause-looks c =
    let written = rw c.in-Some.is at (c.get_mut.follows.holds (record { places = c.keep_used.new.places })) in
    looks_still c.args.made.now c.args.looking.now _ c.args.node c.main.result c.in-Some.there.now (record { places = c.keep_used.new.places }) c.main.ensures
    (sym c.in-Some.ensures.value) written.changes c.keep_used.ensures c.requires.looks

pub returns-clause-covers : goal.returns-clause-covers
returns-clause-covers c i o there used same =
    let written = rw c.in-Some.is at (c.get_mut.follows.holds (record { places = c.keep_used.new.places })) in
    c.put_all.ensures.there i
    (subst (Among i) (sym c.deref.ensures.value)
    (kept_listed c.args.made.now c.args.looking.now _ c.args.node c.main.result c.in-Some.there.now (record { places = c.keep_used.new.places }) c.main.ensures
    (sym c.in-Some.ensures.value) written.changes c.keep_used.ensures c.requires.looks i o there used same))
    (let a = within c.args.made.now i o there in let b = c.requires.width in omega (arith, a, b))
