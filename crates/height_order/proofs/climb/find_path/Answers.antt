use Rattle.std.proofs.Common.{◌≡◌, ◌≢◌, ◌∙◌, rules, ap, sym, subst}
use Rattle.std.specs.Prelude.{option_copied}
use Rattle.link_table.specs.Links.{Reads}
use Rattle.height_order.specs.Chains.{IsPath}
use Rattle.height_order.proofs.Chaining.{path_push}
use Rattle.height_order.proofs.Climbing.{asked_step}
use Rattle.height_order.proofs.climb.find_path.Goals as goal

pub loop-new-smaller : goal.loop-new-smaller
loop-new-smaller g c =
    let web = g.T.HeightTable.web c.args.table.now in
    let e = sym c.get.ensures ∙ ap option_copied c.unwrap.ensures in
    let other : c.loop-new.last ≢ c.args.new.reader = search rules in
    let step = asked_step web.links c.args.new.reader c.args.new.kid c.lift_queued.new.lifts c.loop-new.last c.unwrap.result.now c.in_ok-met.ensures.asked e other in
    let r = c.requires.sound.rises c.loop-new.last c.unwrap.result.now.kid step.0 in
    r

pub loop-new-preserved : goal.loop-new-preserved
loop-new-preserved g c =
    let web = g.T.HeightTable.web c.args.table.now in
    let e = sym c.get.ensures ∙ ap option_copied c.unwrap.ensures in
    let other : c.loop-new.last ≢ c.args.new.reader = search rules in
    let next = c.unwrap.result.now.kid in
    let so = c.loop-new.invariant in
    let step = asked_step web.links c.args.new.reader c.args.new.kid c.lift_queued.new.lifts c.loop-new.last c.unwrap.result.now c.in_ok-met.ensures.asked e other in
    record {
      path = subst (λ xs. IsPath (Reads web.links) xs c.args.new.kid next) (sym c.in_ok-push-3.ensures.items)
          (path_push (Reads web.links) c.loop-new.path.items c.args.new.kid c.loop-new.last next so.path step.0);
      lifted = step.1;
    }

pub returns-clause-path : goal.returns-clause-path
returns-clause-path g c _ =
    let web = g.T.HeightTable.web c.args.table.now in
    let so = c.loop-new.invariant in
    let same : c.loop-new.last ≡ c.args.new.reader = search rules in
    subst (IsPath (Reads web.links) c.loop-new.path.items c.args.new.kid) same so.path
