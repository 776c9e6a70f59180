use Rattle.point_map.proofs.KeptPlaces.{kept_walk}
use Rattle.point_map.proofs.map.PointMap.places.Goals as goal

pub returns : goal.returns
returns g c = kept_walk c.self.inside.buckets c.args.self.now c.places.result c.self.view_is c.self.invariant c.places.ensures
