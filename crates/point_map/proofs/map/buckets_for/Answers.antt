use Rattle.std.proofs.lemmas.Nat.{le_or_r}
use Rattle.point_map.proofs.KeptPlaces.{new_by_slot}
use Rattle.point_map.proofs.map.buckets_for.Goals as goal

pub returns-clause-by_slot : goal.returns-clause-by_slot
returns-clause-by_slot g c = new_by_slot c.new.result _ (le_or_r c.args.room 1) c.new.ensures.empty c.new.ensures.width
