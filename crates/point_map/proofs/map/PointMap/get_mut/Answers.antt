use Rattle.std.proofs.Common.{refl, ap, sym, subst, ◌∙◌}
use Rattle.point_map.specs.Lends.{IsWritten}
use Rattle.point_map.specs.BySlot.{IsBySlot, rows_of}
use Rattle.point_map.specs.Rows.{at}
use Rattle.point_map.proofs.KeptPlaces.{map_written, on_some, row_seen}
use Rattle.point_map.proofs.map.PointMap.get_mut.Goals as goal

pub invariant_of-self-lent : goal.invariant_of-self-lent
invariant_of-self-lent g c = λ o. (
  λ w.
      (map_written c.self.inside.buckets (c.get_mut.follows.lender w) (rows_of c.self.inside.buckets) c.in_ok-i.i c.args.p w refl c.self.invariant
      c.in_ok-i.ensures.found (c.get_mut.follows.holds w)).1,
  subst IsBySlot (sym c.get_mut.follows.holds-at-none) c.self.invariant,
)

pub returns : goal.returns
returns g c = (
  (
    refl,
    λ w.
        on_some c.get_mut.result (subst (λ m. IsWritten m (rows_of (c.get_mut.follows.lender w)) c.args.p w) c.self.view_is
        (map_written c.self.inside.buckets (c.get_mut.follows.lender w) (rows_of c.self.inside.buckets) c.in_ok-i.i c.args.p w refl
        c.self.invariant c.in_ok-i.ensures.found (c.get_mut.follows.holds w)).0),
    ap rows_of c.get_mut.follows.holds-at-none ∙ c.self.view_is,
  ),
  record {
    writes_back = tt;
    value = c.get_mut.ensures.value ∙ row_seen c.self.inside.buckets (rows_of c.self.inside.buckets) c.in_ok-i.i refl ∙ c.in_ok-i.ensures.row
        ∙ ap (λ m. at m c.args.p) c.self.view_is;
  },
)
