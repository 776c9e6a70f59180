use Rattle.std.proofs.Common.{◌≡◌, ◌∙◌, refl, sym, subst, arith}
use Rattle.std.specs.Prelude.{IfSome, IfNone, length}
use Rattle.inc_value.specs.declared.node.Point.{Point}
use Rattle.point_map.specs.Rows.{Holds}
use Rattle.link_table.specs.Links.{Reads, KeepsLinks, OneLinkMore}
use Rattle.height_order.specs.Chains.{ReadsWith, IsChain}
use Rattle.height_order.specs.Levels.{level, AllLow, Ends, AreSoundHeights, IsExactBelow}
use Rattle.height_order.specs.Climbs.{IsRanked}
use Rattle.height_order.specs.Answers.{IsFitted, AreEndsLevelled}
use Rattle.height_order.proofs.Chaining.{chain_more}
use Rattle.height_order.proofs.Sounding.{sound_same, ends_more, reads_from, on_and_off}
use Rattle.height_order.proofs.Ranking.{ranked}
use Rattle.height_order.proofs.Answering.{memory_told, made_told, over_told, fitted_near}
use Rattle.height_order.proofs.linking.link_levelled.Goals as goal

-- the link isn't made
pub returns-in-Err-clause-sound : goal.returns-in-Err-clause-sound
returns-in-Err-clause-sound g c =
    let old = g.T.HeightTable.web c.args.table.now in
    let new = g.T.HeightTable.web c.add_link.new.self in
    subst (λ h. AreSoundHeights h new.links) (sym c.add_link.ensures.heights) (sound_same old.links new.links old.heights c.in-Err.ensures.err c.requires.sound)

pub returns-in-Err-clause-answer : goal.returns-in-Err-clause-answer
returns-in-Err-clause-answer g c =
    memory_told (g.T.HeightTable.web c.args.table.now) c.args.new.reader c.args.new.kid c.args.moved.now.items (g.T.HeightTable.web c.add_link.new.self)
    c.args.moved.now.items c.in-Err.ensures.err c.add_link.ensures.heights refl (returns-in-Err-clause-sound g c)

-- it is, over the same heights
pub fit-requires-clause-ends : goal.fit-requires-clause-ends
fit-requires-clause-ends g c =
    let old = g.T.HeightTable.web c.args.table.now in
    let more = g.T.HeightTable.web c.add_link.new.self in
    subst (λ h. Ends h more.links) (sym c.add_link.ensures.heights)
    (ends_more old.links more.links c.args.new.reader c.args.new.kid c.in-Ok.ensures.added old.heights c.requires.sound.ends c.requires.reader c.requires.kid)

pub fit-requires-clause-low : goal.fit-requires-clause-low
fit-requires-clause-low g c = subst (λ h. AllLow (level h)) (sym c.add_link.ensures.heights) c.requires.sound.low

pub fit-requires-clause-ranked : goal.fit-requires-clause-ranked
fit-requires-clause-ranked g c =
    let old = g.T.HeightTable.web c.args.table.now in
    let more = g.T.HeightTable.web c.add_link.new.self in
    subst (λ h. IsRanked (Reads more.links) h c.args.lifts.now) (sym c.add_link.ensures.heights)
    (ranked old.heights old.links c.args.new.reader c.args.new.kid c.args.lifts.now c.requires.sound c.requires.climbed more.links c.in-Ok.ensures.added)

pub fit-requires-clause-there : goal.fit-requires-clause-there
fit-requires-clause-there g c =
    subst (λ h. (x : Point) → Holds c.args.lifts.now x → Holds h x) (sym c.add_link.ensures.heights) c.requires.climbed.there

-- the lifted points fit
pub returns-in-Ok-None-clause-sound : goal.returns-in-Ok-None-clause-sound
returns-in-Ok-None-clause-sound g c =
    let more = g.T.HeightTable.web c.add_link.new.self in
    let new = g.T.HeightTable.web c.fit.new.table in
    subst (AreSoundHeights new.heights) (sym c.fit.ensures.links)
    (subst (λ o. IfNone o (AreSoundHeights new.heights more.links)) c.in-Ok-None.field-0-is c.in-Ok-None.ensures.fitted.sound)

pub returns-in-Ok-None-clause-answer : goal.returns-in-Ok-None-clause-answer
returns-in-Ok-None-clause-answer g c =
    let old = g.T.HeightTable.web c.args.table.now in
    let more = g.T.HeightTable.web c.add_link.new.self in
    let new = g.T.HeightTable.web c.fit.new.table in
    let p = c.args.new.reader in
    let q = c.args.new.kid in
    let one = c.in-Ok.ensures.added in
    let before = c.args.moved.now.items in
    let after = c.fit.new.moved.items in
    let fitted = subst (λ h. IsFitted h new.heights more.links c.args.lifts.now before after c.fit.result) c.add_link.ensures.heights c.fit.ensures.fitted in
    made_told old p q before new after tt (subst (λ l. OneLinkMore old.links l p q) (sym c.fit.ensures.links) one) (returns-in-Ok-None-clause-sound g c)
    (λ higher. absurd (let n = c.requires.not_higher in omega (arith, higher, n)))
    (λ x differs. let top = fitted.near x differs in
    fitted_near old.heights old.links more.links p q c.args.lifts.now c.requires.sound c.requires.climbed one top.0 x top.1 top.2)
    fitted.points fitted.moved

-- there is no memory to level them
pub remove_link-requires : goal.remove_link-requires
remove_link-requires g c = record {
  there = subst (λ l. Reads l c.args.new.reader c.args.new.kid) (sym c.fit.ensures.links) (let r = c.in-Ok.ensures.added.raised in omega (arith, r));
}

pub returns-in-Err-fit-clause-sound : goal.returns-in-Err-fit-clause-sound
returns-in-Err-fit-clause-sound g c =
    let old = g.T.HeightTable.web c.args.table.now in
    let more = g.T.HeightTable.web c.add_link.new.self in
    let new = g.T.HeightTable.web c.remove_link.new.self in
    let p = c.args.new.reader in
    let q = c.args.new.kid in
    let off = subst (λ l. OneLinkMore new.links l p q) c.fit.ensures.links c.remove_link.ensures.removed in
    subst (λ h. AreSoundHeights h new.links) (sym (c.remove_link.ensures.heights ∙ c.in-Err-fit.ensures.fitted.err.0 ∙ c.add_link.ensures.heights))
    (sound_same old.links new.links old.heights (on_and_off old.links more.links new.links p q c.in-Ok.ensures.added off) c.requires.sound)

pub returns-in-Err-fit-clause-answer : goal.returns-in-Err-fit-clause-answer
returns-in-Err-fit-clause-answer g c =
    let old = g.T.HeightTable.web c.args.table.now in
    let more = g.T.HeightTable.web c.add_link.new.self in
    let new = g.T.HeightTable.web c.remove_link.new.self in
    let p = c.args.new.reader in
    let q = c.args.new.kid in
    let off = subst (λ l. OneLinkMore new.links l p q) c.fit.ensures.links c.remove_link.ensures.removed in
    memory_told old p q c.args.moved.now.items new c.fit.new.moved.items (on_and_off old.links more.links new.links p q c.in-Ok.ensures.added off)
    (c.remove_link.ensures.heights ∙ c.in-Err-fit.ensures.fitted.err.0 ∙ c.add_link.ensures.heights) c.in-Err-fit.ensures.fitted.err.1
    (returns-in-Err-fit-clause-sound g c)

-- they don't fit, so the ends are levelled without the link
pub remove_link-requires-2 : goal.remove_link-requires-2
remove_link-requires-2 g c = record {
  there = subst (λ l. Reads l c.args.new.reader c.args.new.kid) (sym c.fit.ensures.links) (let r = c.in-Ok.ensures.added.raised in omega (arith, r));
}

pub level_ends-requires : goal.level_ends-requires
level_ends-requires g c =
    let old = g.T.HeightTable.web c.args.table.now in
    let more = g.T.HeightTable.web c.add_link.new.self in
    let tried = g.T.HeightTable.web c.fit.new.table in
    let less = g.T.HeightTable.web c.remove_link-2.new.self in
    let p = c.args.new.reader in
    let q = c.args.new.kid in
    let kept = subst (λ o. IfSome o (λ _. (tried.heights ≡ more.heights) × (c.fit.new.moved.items ≡ c.args.moved.now.items)))
    c.in-Ok-Some.field-0-is c.in-Ok-Some.ensures.fitted.kept in
    let same = c.remove_link-2.ensures.heights ∙ kept.0 ∙ c.add_link.ensures.heights in
    let off = subst (λ l. OneLinkMore less.links l p q) c.fit.ensures.links c.remove_link-2.ensures.removed in
    record {
      sound = subst (λ h. AreSoundHeights h less.links) (sym same)
          (sound_same old.links less.links old.heights (on_and_off old.links more.links less.links p q c.in-Ok.ensures.added off) c.requires.sound);
      reader = subst (λ h. Holds h p) (sym same) c.requires.reader;
      kid = subst (λ h. Holds h q) (sym same) c.requires.kid;
    }

pub returns-in-Ok-level_ends-clause-sound : goal.returns-in-Ok-level_ends-clause-sound
returns-in-Ok-level_ends-clause-sound g c =
    subst (AreSoundHeights (g.T.HeightTable.web c.level_ends.new.table).heights) (sym c.level_ends.ensures.links) c.level_ends.ensures.levelled.sound

pub returns-in-Ok-level_ends-clause-answer : goal.returns-in-Ok-level_ends-clause-answer
returns-in-Ok-level_ends-clause-answer g c =
    let old = g.T.HeightTable.web c.args.table.now in
    let more = g.T.HeightTable.web c.add_link.new.self in
    let tried = g.T.HeightTable.web c.fit.new.table in
    let less = g.T.HeightTable.web c.remove_link-2.new.self in
    let new = g.T.HeightTable.web c.level_ends.new.table in
    let p = c.args.new.reader in
    let q = c.args.new.kid in
    let one = c.in-Ok.ensures.added in
    let chain = c.in-Ok-Some.chain in
    let before = c.args.moved.now.items in
    let after = c.level_ends.new.moved.items in
    let kept = subst (λ o. IfSome o (λ _. (tried.heights ≡ more.heights) × (c.fit.new.moved.items ≡ before)))
    c.in-Ok-Some.field-0-is c.in-Ok-Some.ensures.fitted.kept in
    let is_chain = subst (λ o. IfSome o (λ list. IsChain (Reads more.links) list.items)) c.in-Ok-Some.field-0-is c.in-Ok-Some.ensures.fitted.chain in
    let long = subst (λ o. IfSome o (λ list. length list.items ≡ 130)) c.in-Ok-Some.field-0-is c.in-Ok-Some.ensures.fitted.chain_length in
    let links = c.level_ends.ensures.links in
    let off = subst (λ l. OneLinkMore less.links l p q) c.fit.ensures.links c.remove_link-2.ensures.removed in
    let ends = subst (λ h. AreEndsLevelled h new.heights new.links p q before after c.level_ends.result) (c.remove_link-2.ensures.heights ∙ kept.0 ∙ c.add_link.ensures.heights)
    (subst (λ b. AreEndsLevelled less.heights new.heights new.links p q b after c.level_ends.result) kept.1
    (subst (λ l. AreEndsLevelled less.heights new.heights l p q c.fit.new.moved.items after c.level_ends.result) (sym links) c.level_ends.ensures.levelled)) in
    over_told old p q before new after chain c.requires.not_higher
    (subst (KeepsLinks old.links) (sym links) (on_and_off old.links more.links less.links p q one off))
    ends.sound ends.points (subst (λ l. IsExactBelow new.heights l p q) (sym links) c.in-Ok-level_ends.ensures.levelled.exact) ends.below ends.moved
    (chain_more (Reads more.links) (ReadsWith old.links p q) chain.items (reads_from old.links more.links p q one) is_chain) long c.requires.climbed.no_path

pub returns-in-Err-level_ends-clause-sound : goal.returns-in-Err-level_ends-clause-sound
returns-in-Err-level_ends-clause-sound g c =
    subst (AreSoundHeights (g.T.HeightTable.web c.level_ends.new.table).heights) (sym c.level_ends.ensures.links) c.level_ends.ensures.levelled.sound

pub returns-in-Err-level_ends-clause-answer : goal.returns-in-Err-level_ends-clause-answer
returns-in-Err-level_ends-clause-answer g c =
    let old = g.T.HeightTable.web c.args.table.now in
    let more = g.T.HeightTable.web c.add_link.new.self in
    let tried = g.T.HeightTable.web c.fit.new.table in
    let less = g.T.HeightTable.web c.remove_link-2.new.self in
    let p = c.args.new.reader in
    let q = c.args.new.kid in
    let kept = subst (λ o. IfSome o (λ _. (tried.heights ≡ more.heights) × (c.fit.new.moved.items ≡ c.args.moved.now.items)))
    c.in-Ok-Some.field-0-is c.in-Ok-Some.ensures.fitted.kept in
    let off = subst (λ l. OneLinkMore less.links l p q) c.fit.ensures.links c.remove_link-2.ensures.removed in
    let err = c.in-Err-level_ends.ensures.levelled.err in
    memory_told old p q c.args.moved.now.items (g.T.HeightTable.web c.level_ends.new.table) c.level_ends.new.moved.items
    (subst (KeepsLinks old.links) (sym c.level_ends.ensures.links) (on_and_off old.links more.links less.links p q c.in-Ok.ensures.added off))
    (err.0 ∙ c.remove_link-2.ensures.heights ∙ kept.0 ∙ c.add_link.ensures.heights) (err.1 ∙ kept.1) (returns-in-Err-level_ends-clause-sound g c)
