use Rattle.std.proofs.Common.{refl, ap}
use Rattle.graph.specs.Standing.{without_functions}
use Rattle.node_arena.specs.RightSide.{RightSide}
use Rattle.session.proofs.Refused.{wants_memory, not_both, not_full}
use Rattle.session.proofs.script.declaring.keep_body.Goals as goal

pub more-requires : goal.more-requires
more-requires g c = record { keepable = c.requires.usable }

-- an unbroken graph with room is without memory where it keeps nothing
pub no_memory-requires : goal.no_memory-requires
no_memory-requires g c =
    let e = c.in-Err.ensures in
    wants_memory _ e.keeping (λ cause is. not_both _ _ c.requires.unbroken ((e.broken cause).0 is).1)
    (λ many. not_full _ (e.too_many.0 many).1 c.requires.bodies)

pub returns-in-Ok-clause-made : goal.returns-in-Ok-clause-made
returns-in-Ok-clause-made g c =
    let means = c.in-Ok.ensures.means in
    record {
      is_function = tt;
      kind = means.same_kind;
      sig = means.same_sig;
      terms = λ v. ap (λ (r : RightSide). r.term v) (means.same_side refl);
      rest = ap without_functions c.more.ensures.rest;
    }

pub returns-in-Ok-clause-serves : goal.returns-in-Ok-clause-serves
returns-in-Ok-clause-serves g c = (c.in-Ok.ensures.known, c.in-Ok.ensures.means.same_side refl)

pub returns-in-Ok-clause-functions : goal.returns-in-Ok-clause-functions
returns-in-Ok-clause-functions g c = let keeps = c.more.ensures.keeps c.requires.unbroken in record { library = keeps.0; builds = keeps.1; bodies = keeps.2 }

pub returns-in-Ok-clause-known : goal.returns-in-Ok-clause-known
returns-in-Ok-clause-known g c = record { known = c.more.ensures.keeps_meanings.known; sides = c.more.ensures.keeps_meanings.sides }
