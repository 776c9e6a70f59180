use Rattle.std.proofs.Common.{◌≤◌, ◌≡◌, Err, refl, ap, ◌∙◌, arith}
use Rattle.graph.specs.declared.fault.Kept.TheVariants as cause
use Rattle.graph.specs.declared.fault.StabilizeFault.{StabilizeFault}
use Rattle.stabilize_round.specs.Counts.{last_count}
use Rattle.script_graph.proofs.Accepting.{session_accepted}
use Rattle.session.proofs.Endings.{ends_accepted, ends_circular, ends_for_memory, ends_too_deep, ends_untold, kept_few, kept_sound}
use Rattle.session.proofs.Observed.{not_broken}
use Rattle.session.proofs.OwnNodes.{have_targets}
use Rattle.session.proofs.Room.{gives_few, never_full}
use Rattle.session.proofs.Stabilized.{not_fallen, refused_for, same_alike, told_alike}
use Rattle.session.proofs.script.Script.stabilize.Goals as goal

-- ---- accepted

pub invariant_of-self : goal.invariant_of-self
invariant_of-self g c =
    let same = c.stabilize-stabilized.ensures.functions.same in
    let done = c.in-Ok.ensures.brought in
    let unbroken = rw (← c.self.view_is) at c.requires.unbroken in
    kept_sound _ _ _ _ c.self.inside.graph c.stabilize-stabilized.new.self
    (g.L.Library.value c.self.inside.graph.functions.library) _ _ c.self.invariant refl same.known
    same.sides c.keeps_sound.ensures.sound.nodes done.stays (c.stabilize-stabilized.ensures.left (c.self.invariant.unbroken unbroken))
    (told_alike _ _ _ done.observers) _ _ (λ whole. done.unbroken)

pub returns-in-Ok : goal.returns-in-Ok
returns-in-Ok g c =
    let same = c.stabilize-stabilized.ensures.functions.same in
    let done = c.in-Ok.ensures.brought in
    let l = c.self.inside.graph.functions.library in
    let new = c.stabilize-stabilized.new.self in
    let counted : c.builds.result ≡ c.self.inside.graph.functions.builds = c.builds.ensures ∙ ap (λ fs. fs.builds) c.functions.ensures.functions in
    let few_builds : c.self.inside.graph.functions.builds ≤ last_count = let bound = c.builds.type_inv in omega (arith, counted, bound) in
    let unbroken = rw (← c.self.view_is) at c.requires.unbroken in
    let left = c.stabilize-stabilized.ensures.left (c.self.invariant.unbroken unbroken) in
    rw (← c.self.view_is) (ends_accepted g.L.Library.named g.L.Library.value g.L.Library.known g.L.Library.calls l new.functions.library
    c.self.inside.graph.functions.builds new.functions.builds _ new.functions.bodies.items c.self.inside.graph new _ _ c.self.invariant refl
    same.known same.sides done.stays left (told_alike _ _ _ done.observers) unbroken _ _
    c.keeps_sound.ensures.sound refl c.keeps_sound-2.ensures.sound refl same.names same.values
    (g.met.L.Library.maps_alone l) c.stabilize-stabilized.ensures.ids c.stabilize-stabilized.ensures.calls_grow
    (not_fallen c.self.inside.graph.functions.builds new.functions.builds few_builds left.builds.1.count.kept)
    (λ sessions m stands. session_accepted (g.L.Library.named l) (g.L.Library.value l) _ c.self.inside.graph new sessions done c.keeps_sound-2.ensures.dead
    (g.L.Library.calls l) (g.L.Library.calls new.functions.library) c.in-Ok.ensures.calls m stands))

-- ---- refused for depth

pub deep_owner-requires-clause-targets : goal.deep_owner-requires-clause-targets
deep_owner-requires-clause-targets g c = have_targets _ c.self.invariant

pub invariant_of-self-in-Some : goal.invariant_of-self-in-Some
invariant_of-self-in-Some g c =
    let same = c.stabilize-stabilized.ensures.functions.same in
    let h = c.in-Err-Refused-Height in
    let for = refused_for h.is (rw h.is at h.field-0-is) (rw (rw h.is at h.field-0-is) at (rw h.is at h.field-0-0-is)) in
    let done = c.stabilize-stabilized.ensures.refused cause.Height for in
    let unbroken = rw (← c.self.view_is) at c.requires.unbroken in
    kept_sound _ _ _ _ c.self.inside.graph c.stabilize-stabilized.new.self
    (g.L.Library.value c.self.inside.graph.functions.library) _ _ c.self.invariant refl same.known
    same.sides c.keeps_sound.ensures.sound.nodes done.stays (c.stabilize-stabilized.ensures.left (c.self.invariant.unbroken unbroken))
    (same_alike _ _ done.observers) _ _ (λ whole. absurd (cc))

pub returns-in-Some : goal.returns-in-Some
returns-in-Some g c =
    let same = c.stabilize-stabilized.ensures.functions.same in
    let h = c.in-Err-Refused-Height in
    let for = refused_for h.is (rw h.is at h.field-0-is) (rw (rw h.is at h.field-0-is) at (rw h.is at h.field-0-0-is)) in
    let done = c.stabilize-stabilized.ensures.refused cause.Height for in
    let l = c.self.inside.graph.functions.library in
    let new = c.stabilize-stabilized.new.self in
    let counted : c.builds.result ≡ c.self.inside.graph.functions.builds = c.builds.ensures ∙ ap (λ fs. fs.builds) c.functions.ensures.functions in
    let few_builds : c.self.inside.graph.functions.builds ≤ last_count = let bound = c.builds.type_inv in omega (arith, counted, bound) in
    let unbroken = rw (← c.self.view_is) at c.requires.unbroken in
    let left = c.stabilize-stabilized.ensures.left (c.self.invariant.unbroken unbroken) in
    rw (← c.self.view_is) (ends_too_deep g.L.Library.named g.L.Library.value g.L.Library.known g.L.Library.calls l new.functions.library
    c.self.inside.graph.functions.builds new.functions.builds _ new.functions.bodies.items c.self.inside.graph new _ _ c.self.invariant refl
    same.known same.sides done.stays left (same_alike _ _ done.observers) unbroken _ _
    c.keeps_sound.ensures.sound refl c.keeps_sound-2.ensures.sound refl same.names same.values
    (g.met.L.Library.maps_alone l) c.stabilize-stabilized.ensures.ids c.stabilize-stabilized.ensures.calls_grow
    (not_fallen c.self.inside.graph.functions.builds new.functions.builds few_builds left.builds.1.count.kept) c.in-Some.target done (c.stabilize-stabilized.ensures.few cause.Height for) c.in-Some.ensures.found c.in-Some.ensures.within)

-- ---- refused for depth, where no declaration is told

pub invariant_of-self-in-None : goal.invariant_of-self-in-None
invariant_of-self-in-None g c =
    let same = c.stabilize-stabilized.ensures.functions.same in
    let h = c.in-Err-Refused-Height in
    let for = refused_for h.is (rw h.is at h.field-0-is) (rw (rw h.is at h.field-0-is) at (rw h.is at h.field-0-0-is)) in
    let done = c.stabilize-stabilized.ensures.refused cause.Height for in
    let unbroken = rw (← c.self.view_is) at c.requires.unbroken in
    kept_sound _ _ _ _ c.self.inside.graph c.stabilize-stabilized.new.self
    (g.L.Library.value c.self.inside.graph.functions.library) _ _ c.self.invariant refl same.known
    same.sides c.keeps_sound.ensures.sound.nodes done.stays (c.stabilize-stabilized.ensures.left (c.self.invariant.unbroken unbroken))
    (same_alike _ _ done.observers) _ _ (λ whole. absurd (cc))

pub returns-in-None : goal.returns-in-None
returns-in-None g c =
    let same = c.stabilize-stabilized.ensures.functions.same in
    let h = c.in-Err-Refused-Height in
    let for = refused_for h.is (rw h.is at h.field-0-is) (rw (rw h.is at h.field-0-is) at (rw h.is at h.field-0-0-is)) in
    let done = c.stabilize-stabilized.ensures.refused cause.Height for in
    let l = c.self.inside.graph.functions.library in
    let new = c.stabilize-stabilized.new.self in
    let counted : c.builds.result ≡ c.self.inside.graph.functions.builds = c.builds.ensures ∙ ap (λ fs. fs.builds) c.functions.ensures.functions in
    let few_builds : c.self.inside.graph.functions.builds ≤ last_count = let bound = c.builds.type_inv in omega (arith, counted, bound) in
    let unbroken = rw (← c.self.view_is) at c.requires.unbroken in
    let left = c.stabilize-stabilized.ensures.left (c.self.invariant.unbroken unbroken) in
    rw (← c.self.view_is) (ends_untold g.L.Library.named g.L.Library.value g.L.Library.known g.L.Library.calls l new.functions.library
    c.self.inside.graph.functions.builds new.functions.builds _ new.functions.bodies.items c.self.inside.graph new _ _ c.self.invariant refl
    same.known same.sides done.stays left (same_alike _ _ done.observers) unbroken _ _
    c.keeps_sound.ensures.sound refl c.keeps_sound-2.ensures.sound refl same.names same.values
    (g.met.L.Library.maps_alone l) c.stabilize-stabilized.ensures.ids c.stabilize-stabilized.ensures.calls_grow
    (not_fallen c.self.inside.graph.functions.builds new.functions.builds few_builds left.builds.1.count.kept) _ done (c.stabilize-stabilized.ensures.few cause.Height for) c.in-None.ensures.none)

-- ---- without memory

pub invariant_of-self-in-Err-Refused-Memory : goal.invariant_of-self-in-Err-Refused-Memory
invariant_of-self-in-Err-Refused-Memory g c =
    let same = c.stabilize-stabilized.ensures.functions.same in
    let h = c.in-Err-Refused-Memory in
    let for = refused_for h.is (rw h.is at h.field-0-is) (rw (rw h.is at h.field-0-is) at (rw h.is at h.field-0-0-is)) in
    let done = c.stabilize-stabilized.ensures.refused cause.Memory for in
    let unbroken = rw (← c.self.view_is) at c.requires.unbroken in
    kept_sound _ _ _ _ c.self.inside.graph c.stabilize-stabilized.new.self
    (g.L.Library.value c.self.inside.graph.functions.library) _ _ c.self.invariant refl same.known
    same.sides c.keeps_sound.ensures.sound.nodes done.stays (c.stabilize-stabilized.ensures.left (c.self.invariant.unbroken unbroken))
    (same_alike _ _ done.observers) _ _ (λ whole. absurd (cc))

pub returns-in-Err-Refused-Memory : goal.returns-in-Err-Refused-Memory
returns-in-Err-Refused-Memory g c =
    let same = c.stabilize-stabilized.ensures.functions.same in
    let h = c.in-Err-Refused-Memory in
    let for = refused_for h.is (rw h.is at h.field-0-is) (rw (rw h.is at h.field-0-is) at (rw h.is at h.field-0-0-is)) in
    let done = c.stabilize-stabilized.ensures.refused cause.Memory for in
    let l = c.self.inside.graph.functions.library in
    let new = c.stabilize-stabilized.new.self in
    let counted : c.builds.result ≡ c.self.inside.graph.functions.builds = c.builds.ensures ∙ ap (λ fs. fs.builds) c.functions.ensures.functions in
    let few_builds : c.self.inside.graph.functions.builds ≤ last_count = let bound = c.builds.type_inv in omega (arith, counted, bound) in
    let unbroken = rw (← c.self.view_is) at c.requires.unbroken in
    let left = c.stabilize-stabilized.ensures.left (c.self.invariant.unbroken unbroken) in
    rw (← c.self.view_is) (ends_for_memory g.L.Library.named g.L.Library.value g.L.Library.known g.L.Library.calls l new.functions.library
    c.self.inside.graph.functions.builds new.functions.builds _ new.functions.bodies.items c.self.inside.graph new _ _ c.self.invariant refl
    same.known same.sides done.stays left (same_alike _ _ done.observers) unbroken _ _
    c.keeps_sound.ensures.sound refl c.keeps_sound-2.ensures.sound refl same.names same.values
    (g.met.L.Library.maps_alone l) c.stabilize-stabilized.ensures.ids c.stabilize-stabilized.ensures.calls_grow
    (not_fallen c.self.inside.graph.functions.builds new.functions.builds few_builds left.builds.1.count.kept) _ done (c.stabilize-stabilized.ensures.few cause.Memory for))

-- ---- refused for a cycle

pub invariant_of-self-in-Err-Refused-Cycle : goal.invariant_of-self-in-Err-Refused-Cycle
invariant_of-self-in-Err-Refused-Cycle g c =
    let same = c.stabilize-stabilized.ensures.functions.same in
    let h = c.in-Err-Refused-Cycle in
    let for = refused_for h.is (rw h.is at h.field-0-is) (rw (rw h.is at h.field-0-is) at (rw h.is at h.field-0-0-is)) in
    let done = c.stabilize-stabilized.ensures.refused cause.Cycle for in
    let unbroken = rw (← c.self.view_is) at c.requires.unbroken in
    kept_sound _ _ _ _ c.self.inside.graph c.stabilize-stabilized.new.self
    (g.L.Library.value c.self.inside.graph.functions.library) _ _ c.self.invariant refl same.known
    same.sides c.keeps_sound.ensures.sound.nodes done.stays (c.stabilize-stabilized.ensures.left (c.self.invariant.unbroken unbroken))
    (same_alike _ _ done.observers) _ _ (λ whole. absurd (cc))

pub returns-in-Err-Refused-Cycle : goal.returns-in-Err-Refused-Cycle
returns-in-Err-Refused-Cycle g c =
    let same = c.stabilize-stabilized.ensures.functions.same in
    let h = c.in-Err-Refused-Cycle in
    let for = refused_for h.is (rw h.is at h.field-0-is) (rw (rw h.is at h.field-0-is) at (rw h.is at h.field-0-0-is)) in
    let done = c.stabilize-stabilized.ensures.refused cause.Cycle for in
    let l = c.self.inside.graph.functions.library in
    let new = c.stabilize-stabilized.new.self in
    let counted : c.builds.result ≡ c.self.inside.graph.functions.builds = c.builds.ensures ∙ ap (λ fs. fs.builds) c.functions.ensures.functions in
    let few_builds : c.self.inside.graph.functions.builds ≤ last_count = let bound = c.builds.type_inv in omega (arith, counted, bound) in
    let unbroken = rw (← c.self.view_is) at c.requires.unbroken in
    let left = c.stabilize-stabilized.ensures.left (c.self.invariant.unbroken unbroken) in
    rw (← c.self.view_is) (ends_circular g.L.Library.named g.L.Library.value g.L.Library.known g.L.Library.calls l new.functions.library
    c.self.inside.graph.functions.builds new.functions.builds _ new.functions.bodies.items c.self.inside.graph new _ _ c.self.invariant refl
    same.known same.sides done.stays left (same_alike _ _ done.observers) unbroken _ _
    c.keeps_sound.ensures.sound refl c.keeps_sound-2.ensures.sound refl same.names same.values
    (g.met.L.Library.maps_alone l) c.stabilize-stabilized.ensures.ids c.stabilize-stabilized.ensures.calls_grow
    (not_fallen c.self.inside.graph.functions.builds new.functions.builds few_builds left.builds.1.count.kept) done (c.stabilize-stabilized.ensures.few cause.Cycle for))

-- ---- what never comes

pub unreachable-requires : goal.unreachable-requires
unreachable-requires g c =
    let same = c.stabilize-stabilized.ensures.functions.same in
    let h = c.in-Err-Refused-Full in
    let for = refused_for h.is (rw h.is at h.field-0-is) (rw (rw h.is at h.field-0-is) at (rw h.is at h.field-0-0-is)) in
    let done = c.stabilize-stabilized.ensures.refused cause.Full for in
    let r = rw (← c.self.view_is) at c.requires in
    let few = kept_few _ _ _ _ c.self.inside.graph c.stabilize-stabilized.new.self
    (g.L.Library.value c.self.inside.graph.functions.library) _ _ c.self.invariant refl same.known
    same.sides c.keeps_sound.ensures.sound.nodes done.stays
    (c.stabilize-stabilized.ensures.left (c.self.invariant.unbroken r.unbroken)) (same_alike _ _ done.observers) in
    let given = gives_few _ _ _ few _ c.stabilize-stabilized.ensures.ids in
    let ids = r.ids in
    never_full _ _ _ few (c.stabilize-stabilized.ensures.full for).0 (omega (arith, given, ids))

pub unreachable-requires-in-Err-Broken : goal.unreachable-requires-in-Err-Broken
unreachable-requires-in-Err-Broken g c =
    let h = c.in-Err-Broken in
    let unbroken = rw (← c.self.view_is) at c.requires.unbroken in
    let broken = c.stabilize-stabilized.ensures.broken h.field-0-0 in
    not_broken c.self.inside.graph (c.self.invariant.unbroken unbroken) h.field-0-0
    (broken.0 (h.is ∙ ap (λ (f : StabilizeFault). Err f) (rw h.is at h.field-0-is)))
