use Rattle.std.proofs.Common.{◌≡◌, IfOk, refl, subst}
use Rattle.script_functions.specs.KeepingLaws.{map_known}
use Rattle.script_functions.proofs.MoreBodies.{same_maps, same_maps_sound}
use Rattle.script_functions.specs.UnnamedLaws.{same_given, same_seen}
use Rattle.script_functions.proofs.functions.ScriptFnsFunctions.apply.Goals as goal

pub apply-requires-clause-known : goal.apply-requires-clause-known
apply-requires-clause-known g c =
    map_known (g.L.Library.known c.args.self.now.library) _ c.args.f.now c.requires.known c.requires.kind

pub returns-clause-value : goal.returns-clause-value
returns-clause-value g c =
    let library = c.args.self.now.library in
    let known = map_known (g.L.Library.known library) _ c.args.f.now c.requires.known c.requires.kind in
    let same = same_given (g.L.Library.known library) (g.L.Library.value library) (g.met.L.Library.no_reference library)
    (g.met.L.Library.known_maps library)
    c.args.f.now c.args.args.now known c.requires.kind c.requires.fit in
    subst (λ w. IfOk c.apply.result (λ v. v ≡ w)) same c.apply.ensures.value

pub returns-clause-sound : goal.returns-clause-sound
returns-clause-sound g c = same_maps_sound _ _ c.apply.ensures.same_known _ c.requires.sound

pub returns-clause-same : goal.returns-clause-same
returns-clause-same g c = record {
  names = c.apply.ensures.same_names;
  known = same_maps _ _ c.apply.ensures.same_known _;
  values = same_seen _ _ c.apply.ensures.same_values;
  sides = λ f. refl;
}
