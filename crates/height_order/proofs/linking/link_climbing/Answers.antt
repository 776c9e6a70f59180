use Rattle.std.proofs.Common.{refl, subst}
use Rattle.std.specs.Prelude.{IfSome, IfNone}
use Rattle.link_table.specs.Links.{Reads}
use Rattle.height_order.specs.Chains.{IsPath}
use Rattle.height_order.specs.Climbs.{IsClimbed}
use Rattle.height_order.proofs.Answering.{memory_told, path_told}
use Rattle.height_order.proofs.linking.link_climbing.Goals as goal

pub link_climbed-requires-clause-climbed : goal.link_climbed-requires-clause-climbed
link_climbed-requires-clause-climbed g c =
    let web = g.T.HeightTable.web in
    subst (λ o. IfNone o (IsClimbed (web c.args.table.now).heights (web c.args.table.now).links c.args.new.reader c.args.new.kid c.climb.new.lifts)) c.in-Ok-None.field-0-is
    c.in-Ok-None.ensures.climbed

pub returns-in-Ok-Some-clause-answer : goal.returns-in-Ok-Some-clause-answer
returns-in-Ok-Some-clause-answer g c =
    let web = g.T.HeightTable.web in
    path_told (web c.args.table.now) c.args.new.reader c.args.new.kid c.args.moved.now.items c.in-Ok-Some.path
    c.requires.sound
    (subst (λ o. IfSome o (λ list. IsPath (Reads (web c.args.table.now).links) list.items c.args.new.kid c.args.new.reader)) c.in-Ok-Some.field-0-is c.in-Ok-Some.ensures.path)

pub returns-in-Err-clause-answer : goal.returns-in-Err-clause-answer
returns-in-Err-clause-answer g c =
    let web = g.T.HeightTable.web in
    memory_told (web c.args.table.now) c.args.new.reader c.args.new.kid c.args.moved.now.items
    (web c.args.table.now) c.args.moved.now.items
    (λ a b. refl) refl refl c.requires.sound
