use Rattle.std.proofs.Common.{◌≡◌, inl, inr, List, None, Some, take, drop, length, refl, sym, ap, subst, ◌∙◌, ℕ, arith}
use Rattle.std.specs.Prelude.{is_some}
use Rattle.inc_terms.specs.Within.{Given}
use Rattle.node_outcomes.specs.Meaning.{Meaning, functions_of, meaning_of}
use Rattle.stabilize_round.specs.Invariant.{Rooted}
use Rattle.graph.specs.Inside.{AreNewRoots, FitsInside}
use Rattle.node_arena.specs.Arena.{Arena}
use Rattle.observers.specs.Observers.{ObserversView, in_use, told_by}
use Rattle.observers.specs.declared.observer.Observer.{Observer}
use Rattle.stabilizer.specs.Telling.{shows_of}
use Rattle.stabilizer.specs.Kept.{graph_in, counts_by}
use Rattle.stabilizer.proofs.Step.Giving.{live_few, gives_few}
use Rattle.stabilizer.proofs.Step.MeaningKept.{means_still, nothing_meant}
use Rattle.wiring.specs.declared.refused.Refused.TheVariants.{Memory}
use Rattle.graph.proofs.Observing.{all_of}
use Rattle.graph.proofs.Grouping.{ids_few, filled_by}
use Rattle.graph.proofs.Rounding.{accepted, builds_anew, refused_in, few_in}
use Rattle.graph.proofs.Stabilizing.{begins_at, roots_given, all_right, all_lawful, all_few, all_built, all_built_but, sound_again}
use Rattle.graph.specs.Stabilizes.{left_by}
use Rattle.graph.proofs.Seeing.{seen_as}
use Rattle.graph.proofs.Steadying.{finds_by, steady_round}
use Rattle.graph.specs.Steady.{IsSteady}
use Rattle.stabilize_round.specs.Calling.{costs_of}
use Rattle.stabilize_round.specs.Counts.{RoseBy}
use Rattle.graph.proofs.graph.Graph.stabilize.Goals as goal

pub returns-in-Err-clause-refused : goal.returns-in-Err-clause-refused
returns-in-Err-clause-refused g c cause is =
    let parts = c.self.inside.parts in let kept = c.self.invariant.0.kept.work in
    let still = rw (← c.self.view_is) at c.in_default.ensures.none in
    rw (← c.self.view_is) (refused_in (functions_of g.F.Functions c.self.inside.functions) c.self.inside.functions c.self.inside.functions parts parts
    c.self.inside.observers c.self.inside.rooted c.self.inside.since c.self.inside.refused still Memory cause (let e = is in cc)
    (record { given = omega arith; clock = refl; frozen = λ n given. refl; lists = λ n given. refl; rows = λ n given. inl refl })
    refl (λ n. refl) (λ n settled. refl) (λ n r row. refl) (λ n given. inl refl) (tt, tt) tt (
      None,
      record {
        stays = λ b r given row. inl refl;
        made = λ b r late row. let given = kept.sound.given b (ap is_some row) in absurd (omega (arith, given, late));
        refused = λ b e. absurd (cc);
        was = λ b e given. absurd (cc);
        scoped = λ n r b late row scope none. let given = kept.sound.given n (ap is_some row) in absurd (omega (arith, given, late));
      },
      (λ b e. absurd (cc)),
    ))

pub run-ended-requires-clause-given : goal.run-ended-requires-clause-given
run-ended-requires-clause-given g c =
    let M = meaning_of g.F.Functions c.self.inside.functions in
    let old = c.self.inside.parts in let os = c.self.inside.observers.made in let rooted = c.self.inside.rooted in let since = c.self.inside.since in
    let still = rw (← c.self.view_is) at c.in_default.ensures.none in
    let can = c.self.invariant.0.unbroken still in let within = c.self.invariant.0.earlier in
    let new_roots : AreNewRoots old.arena old.work os rooted since c.deref.result.now
    = rw (← c.self.view_is, ← c.deref.ensures.value) at c.in-Ok.ensures.roots in
    all_of (Given old.arena.given) c.deref.result.now
    (roots_given M old old os rooted since can within c.deref.result.now new_roots)

pub run-ended-requires-clause-begins : goal.run-ended-requires-clause-begins
run-ended-requires-clause-begins g c =
    let M = meaning_of g.F.Functions c.self.inside.functions in
    let old = c.self.inside.parts in let os = c.self.inside.observers.made in let rooted = c.self.inside.rooted in let since = c.self.inside.since in
    let still = rw (← c.self.view_is) at c.in_default.ensures.none in
    let can = c.self.invariant.0.unbroken still in let within = c.self.invariant.0.earlier in
    let new_roots : AreNewRoots old.arena old.work os rooted since c.deref.result.now
    = rw (← c.self.view_is, ← c.deref.ensures.value) at c.in-Ok.ensures.roots in (
      since,
      in_use (drop rooted os),
      new_roots.freezes,
      in_use (take rooted os),
      begins_at M old old os rooted since can within c.deref.result.now new_roots,
    )

pub returns-in-Ok-ended-clause-calls : goal.returns-in-Ok-ended-clause-calls
returns-in-Ok-ended-clause-calls g c =
    let after = seen_as c.run-ended.new.functions c.run-ended.new.parts c.run-ended.new.observers c.self.inside.rooted c.self.inside.since None in
    subst (λ before. RoseBy (g.F.Functions.calls before.functions) (costs_of (left_by before after) c.run-ended.new.parts.ran.items)
    (g.F.Functions.calls c.run-ended.new.functions)) c.self.view_is c.in-Ok-ended.ensures.ended.calls

pub run-ended-requires-clause-looks : goal.run-ended-requires-clause-looks
run-ended-requires-clause-looks g c = let still = rw (← c.self.view_is) at c.in_default.ensures.none in (c.self.invariant.0.unbroken still).given

pub run-ended-requires-clause-shown : goal.run-ended-requires-clause-shown
run-ended-requires-clause-shown g c = let still = rw (← c.self.view_is) at c.in_default.ensures.none in (c.self.invariant.0.unbroken still).shown

pub returns-in-Ok-ended-clause-brought : goal.returns-in-Ok-ended-clause-brought
returns-in-Ok-ended-clause-brought g c =
    let M = meaning_of g.F.Functions c.self.inside.functions in
    let old = c.self.inside.parts in let new = c.run-ended.new.parts in let os = c.self.inside.observers.made in let rooted = c.self.inside.rooted in
    let since = c.self.inside.since in let still = rw (← c.self.view_is) at c.in_default.ensures.none in
    let can = c.self.invariant.0.unbroken still in let within = c.self.invariant.0.earlier in
    let new_roots : AreNewRoots old.arena old.work os rooted since c.deref.result.now
    = rw (← c.self.view_is, ← c.deref.ensures.value) at c.in-Ok.ensures.roots in
    let begins = begins_at M old new os rooted since can within c.deref.result.now new_roots in
    let right = all_right M old new os rooted since can within (c.in-Ok-ended.ensures.ended.right since _ new_roots.freezes _ begins) in
    let told = c.in-Ok-ended.ensures.told in
    rw (← c.self.view_is) (accepted M.functions c.self.inside.functions c.run-ended.new.functions old new c.self.inside.observers rooted since c.self.inside.refused still
    c.run-ended.new.observers c.given-self-inside.result (c.given-self-inside.ensures ∙ ap (λ (a : Arena). a.given) c.arena.ensures) told c.in-Ok-ended.ensures.notices (length c.made.result.now) (ap length c.made.ensures) c.run-ended.ensures.leaves.left.rest
    (all_built M old new os rooted since can within (c.in-Ok-ended.ensures.ended.built since _ new_roots.freezes _ begins)) right)

pub returns-in-Ok-ended-clause-left : goal.returns-in-Ok-ended-clause-left
returns-in-Ok-ended-clause-left g c unbroken = rw (← c.self.view_is) c.run-ended.ensures.leaves.left.nodes

pub returns-in-Ok-ended-clause-builds : goal.returns-in-Ok-ended-clause-builds
returns-in-Ok-ended-clause-builds g c =
    let M = meaning_of g.F.Functions c.self.inside.functions in
    let old = c.self.inside.parts in let new = c.run-ended.new.parts in let os = c.self.inside.observers.made in let rooted = c.self.inside.rooted in
    let since = c.self.inside.since in let still = rw (← c.self.view_is) at c.in_default.ensures.none in
    let can = c.self.invariant.0.unbroken still in let within = c.self.invariant.0.earlier in
    let new_roots : AreNewRoots old.arena old.work os rooted since c.deref.result.now
    = rw (← c.self.view_is, ← c.deref.ensures.value) at c.in-Ok.ensures.roots in
    let begins = begins_at M old new os rooted since can within c.deref.result.now new_roots in
    rw (← c.self.view_is) (builds_anew M c.self.inside.functions c.run-ended.new.functions old new c.self.inside.observers rooted since c.self.inside.refused still
    c.run-ended.new.observers (length c.made.result.now) c.given-self-inside.result can.ready c.self.invariant.0.inside
    c.run-ended.ensures.leaves.left.rest (counts_by g.F.Functions c.self.inside.functions) (counts_by g.F.Functions c.run-ended.new.functions)
    c.run-ended.ensures.leaves.left.nodes
    (all_built M old new os rooted since can within (c.in-Ok-ended.ensures.ended.built since _ new_roots.freezes _ begins))
    (counts_by g.F.Functions c.self.inside.functions).builds (counts_by g.F.Functions c.run-ended.new.functions).builds
    c.in-Ok-ended.ensures.ended.builds)

pub returns-in-Ok-ended-clause-ids : goal.returns-in-Ok-ended-clause-ids
returns-in-Ok-ended-clause-ids g c =
    let right = g.F.Functions.right c.run-ended.new.functions in
    let nodes = c.run-ended.new.parts.arena in
    rw (← c.self.view_is) (ids_few right nodes c.run-ended.ensures.leaves.fit.scopes c.in-Ok-ended.ensures.ended.ready.kept.work.scopes
    c.self.inside.parts.arena.given (live_few right c.self.inside.parts.arena.given nodes c.in-Ok-ended.ensures.ended.gives))

pub returns-in-Ok-ended-clause-lives : goal.returns-in-Ok-ended-clause-lives
returns-in-Ok-ended-clause-lives g c =
    let few = gives_few c.self.inside.parts.arena.given 0 c.run-ended.new.parts.arena c.in-Ok-ended.ensures.ended.gives in
    rw (← c.self.view_is) (omega (arith, few))

pub returns-in-Ok-ended-clause-flat : goal.returns-in-Ok-ended-clause-flat
returns-in-Ok-ended-clause-flat g c no_binds = rw (← c.self.view_is) (c.run-ended.ensures.leaves.flat (rw (← c.self.view_is) at no_binds))

pub returns-in-Err-ended-clause-refused : goal.returns-in-Err-ended-clause-refused
returns-in-Err-ended-clause-refused g c cause is =
    let M = meaning_of g.F.Functions c.self.inside.functions in
    let old = c.self.inside.parts in let new = c.run-ended.new.parts in let os = c.self.inside.observers.made in let rooted = c.self.inside.rooted in
    let since = c.self.inside.since in let still = rw (← c.self.view_is) at c.in_default.ensures.none in
    let can = c.self.invariant.0.unbroken still in let within = c.self.invariant.0.earlier in
    let new_roots : AreNewRoots old.arena old.work os rooted since c.deref.result.now
    = rw (← c.self.view_is, ← c.deref.ensures.value) at c.in-Ok.ensures.roots in
    let begins = begins_at M old new os rooted since can within c.deref.result.now new_roots in
    let refused = c.in-Err-ended.refused in
    rw (← c.self.view_is, c.in-Err-ended.ensures.observers)
    (refused_in M.functions c.self.inside.functions c.run-ended.new.functions old new c.self.inside.observers rooted since c.self.inside.refused still refused cause (let e = c.cause_of-cause.ensures in cc) c.run-ended.ensures.leaves.left.rest c.in-Err-ended.ensures.refused.ran c.in-Err-ended.ensures.refused.frozen c.in-Err-ended.ensures.refused.marks c.in-Err-ended.ensures.refused.cutoffs
    c.in-Err-ended.ensures.refused.shows (all_lawful M old new os rooted since can within refused (c.in-Err-ended.ensures.refused.lawful since _ new_roots.freezes _ begins))
    c.in-Err-ended.ensures.refused.tried (all_built_but M old new os rooted since can within refused (c.in-Err-ended.ensures.refused.unbuilt since _ new_roots.freezes _ begins)))

pub returns-in-Err-ended-clause-few : goal.returns-in-Err-ended-clause-few
returns-in-Err-ended-clause-few g c cause is =
    let M = meaning_of g.F.Functions c.self.inside.functions in
    let old = c.self.inside.parts in let new = c.run-ended.new.parts in let os = c.self.inside.observers.made in let rooted = c.self.inside.rooted in
    let since = c.self.inside.since in let still = rw (← c.self.view_is) at c.in_default.ensures.none in
    let can = c.self.invariant.0.unbroken still in let within = c.self.invariant.0.earlier in
    let new_roots : AreNewRoots old.arena old.work os rooted since c.deref.result.now
    = rw (← c.self.view_is, ← c.deref.ensures.value) at c.in-Ok.ensures.roots in
    let begins = begins_at M old new os rooted since can within c.deref.result.now new_roots in
    let before = g.F.Functions.calls c.self.inside.functions in let after = g.F.Functions.calls c.run-ended.new.functions in
    rw (← c.self.view_is) (few_in M.functions c.self.inside.functions c.run-ended.new.functions old new c.self.inside.observers rooted since c.self.inside.refused still
    c.in-Err-ended.refused before after
    (all_few M old new os rooted since can within before after (c.in-Err-ended.ensures.refused.few since _ new_roots.freezes _ begins)))

pub returns-in-Err-ended-clause-calls_grow : goal.returns-in-Err-ended-clause-calls_grow
returns-in-Err-ended-clause-calls_grow g c =
    let M = meaning_of g.F.Functions c.self.inside.functions in
    let old = c.self.inside.parts in let os = c.self.inside.observers.made in let rooted = c.self.inside.rooted in let since = c.self.inside.since in
    let still = rw (← c.self.view_is) at c.in_default.ensures.none in
    let can = c.self.invariant.0.unbroken still in let within = c.self.invariant.0.earlier in
    let new_roots : AreNewRoots old.arena old.work os rooted since c.deref.result.now
    = rw (← c.self.view_is, ← c.deref.ensures.value) at c.in-Ok.ensures.roots in
    let begins = begins_at M old old os rooted since can within c.deref.result.now new_roots in
    rw (← c.self.view_is) (c.in-Err-ended.ensures.refused.few since _ new_roots.freezes _ begins).count.kept

pub returns-in-Err-ended-clause-left : goal.returns-in-Err-ended-clause-left
returns-in-Err-ended-clause-left g c unbroken = rw (← c.self.view_is) c.run-ended.ensures.leaves.left.nodes

pub returns-in-Err-ended-clause-ids : goal.returns-in-Err-ended-clause-ids
returns-in-Err-ended-clause-ids g c =
    rw (← c.self.view_is) (ids_few (g.F.Functions.right c.run-ended.new.functions) c.run-ended.new.parts.arena c.run-ended.ensures.leaves.fit.scopes
    c.in-Err-ended.ensures.refused.kept.work.scopes c.self.inside.parts.arena.given c.in-Err-ended.ensures.refused.spends)

pub returns-in-Err-ended-clause-full : goal.returns-in-Err-ended-clause-full
returns-in-Err-ended-clause-full g c is =
    rw (← c.self.view_is) (filled_by (g.F.Functions.right c.run-ended.new.functions) c.run-ended.new.parts.arena c.run-ended.ensures.leaves.fit.scopes
    c.in-Err-ended.ensures.refused.kept.work.scopes (counts_by g.F.Functions c.self.inside.functions) (counts_by g.F.Functions c.run-ended.new.functions)
    c.in-Err-ended.refused c.in-Err-ended.ensures.refused.full (let e = c.cause_of-cause.ensures in cc))

pub returns-in-Err-ended-clause-flat : goal.returns-in-Err-ended-clause-flat
returns-in-Err-ended-clause-flat g c no_binds = rw (← c.self.view_is) (c.run-ended.ensures.leaves.flat (rw (← c.self.view_is) at no_binds))

-- ---- a steady graph

pub returns-in-Err-clause-steady : goal.returns-in-Err-clause-steady
returns-in-Err-clause-steady g c steady = absurd (elim c.in-Err.ensures.some [
  | inl behind ↦ let same = steady.no_observer in omega (arith, behind, same)
  | inr behind ↦ let same = steady.no_node in omega (arith, behind, same)
])

pub returns-in-Err-ended-clause-steady : goal.returns-in-Err-ended-clause-steady
returns-in-Err-ended-clause-steady g c steady =
    let M = meaning_of g.F.Functions c.self.inside.functions in
    let old = c.self.inside.parts in let rooted = c.self.inside.rooted in let since = c.self.inside.since in
    let still = rw (← c.self.view_is) at c.in_default.ensures.none in
    let can = c.self.invariant.0.unbroken still in
    let new_roots : AreNewRoots old.arena old.work c.self.inside.observers.made rooted since c.deref.result.now
    = rw (← c.self.view_is, ← c.deref.ensures.value) at c.in-Ok.ensures.roots in
    let so : IsSteady M.functions (seen_as c.self.inside.functions old c.self.inside.observers rooted since c.self.inside.refused)
    = rw (← c.self.view_is) at steady in
    rw (← c.self.view_is) (finds_by c.in-Err-ended.refused c.cause_of-cause.result (g.F.Functions.wants c.self.inside.functions) (g.F.Functions.wants c.run-ended.new.functions)
    (sym c.cause_of-cause.ensures) c.in-Err-ended.ensures.wants
    (c.in-Err-ended.ensures.steady (steady_round M c.self.inside.functions old c.self.inside.observers rooted since c.self.inside.refused can so
    c.deref.result.now new_roots)))

-- ---- functions mean what they meant

pub returns-in-Some-clause-functions : goal.returns-in-Some-clause-functions
returns-in-Some-clause-functions g c = rw (← c.self.view_is) (nothing_meant g.F.Functions c.self.inside.functions c.self.invariant.1)

pub returns-in-Err-clause-functions : goal.returns-in-Err-clause-functions
returns-in-Err-clause-functions g c = rw (← c.self.view_is) (nothing_meant g.F.Functions c.self.inside.functions c.self.invariant.1)

pub returns-in-Ok-ended-clause-functions : goal.returns-in-Ok-ended-clause-functions
returns-in-Ok-ended-clause-functions g c = rw (← c.self.view_is) c.run-ended.ensures.leaves.functions

pub returns-in-Err-ended-clause-functions : goal.returns-in-Err-ended-clause-functions
returns-in-Err-ended-clause-functions g c = rw (← c.self.view_is) c.run-ended.ensures.leaves.functions

-- ---- what the graph keeps

pub invariant_of-self-in-Ok-ended : goal.invariant_of-self-in-Ok-ended
invariant_of-self-in-Ok-ended g c =
    let M = meaning_of g.F.Functions c.self.inside.functions in
    let old = c.self.inside.parts in let new = c.run-ended.new.parts in let os = c.self.inside.observers.made in let rooted = c.self.inside.rooted in
    let since = c.self.inside.since in let still = rw (← c.self.view_is) at c.in_default.ensures.none in
    let can = c.self.invariant.0.unbroken still in let within = c.self.invariant.0.earlier in
    let new_roots : AreNewRoots old.arena old.work os rooted since c.deref.result.now
    = rw (← c.self.view_is, ← c.deref.ensures.value) at c.in-Ok.ensures.roots in
    let begins = begins_at M old new os rooted since can within c.deref.result.now new_roots in
    let right = all_right M old new os rooted since can within (c.in-Ok-ended.ensures.ended.right since _ new_roots.freezes _ begins) in
    let M' = meaning_of g.F.Functions c.run-ended.new.functions in
    let told = c.in-Ok-ended.ensures.told in
    let again = sound_again M old new os rooted since can within M' c.self.inside.refused c.self.invariant.0.few c.run-ended.ensures.leaves.left.rest.given
    c.in-Ok-ended.ensures.ended.ready right in
    let same : length c.made.result.now ≡ length (told_by (shows_of new) os) = ap length c.made.ensures ∙ ap length told in (
      subst (λ (made : List Observer). FitsInside M' new made (length c.made.result.now) c.given-self-inside.result c.self.inside.refused) (sym told)
          (subst (λ (k : ℕ). FitsInside M' new (told_by (shows_of new) os) k c.given-self-inside.result c.self.inside.refused) (sym same)
          (subst (λ (k : ℕ). FitsInside M' new (told_by (shows_of new) os) (length (told_by (shows_of new) os)) k c.self.inside.refused)
          (sym (c.given-self-inside.ensures ∙ ap (λ (a : Arena). a.given) c.arena.ensures)) again)),
      c.run-ended.ensures.leaves.functions.sound,
      c.run-ended.ensures.leaves.fit,
    )

pub invariant_of-self-in-Err-ended : goal.invariant_of-self-in-Err-ended
invariant_of-self-in-Err-ended g c = (
  subst (λ (observers : ObserversView). FitsInside (meaning_of g.F.Functions c.run-ended.new.functions) c.run-ended.new.parts observers.made
      c.self.inside.rooted c.self.inside.since (Some c.in-Err-ended.refused)) (sym c.in-Err-ended.ensures.observers) (record {
        few = c.self.invariant.0.few;
        earlier = c.self.invariant.0.earlier;
        past = let past = c.self.invariant.0.past in let later = c.run-ended.ensures.leaves.left.rest.given in omega (arith, past, later);
        kept = c.in-Err-ended.ensures.refused.kept;
        built = subst (λ (M : Meaning). Rooted M.functions (graph_in c.run-ended.new.parts))
            (sym (means_still g.F.Functions c.self.inside.functions c.run-ended.new.functions c.run-ended.ensures.leaves.functions)) c.run-ended.ensures.leaves.left.rooted;
        inside = c.run-ended.ensures.leaves.left.inside c.self.invariant.0.inside;
        showing = c.self.invariant.0.showing;
        later = c.self.invariant.0.later;
        unbroken = λ e. absurd (cc);
      }),
  c.run-ended.ensures.leaves.functions.sound,
  c.run-ended.ensures.leaves.fit,
)
