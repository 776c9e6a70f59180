-- Rows that lost a link or a root, and then are swept.
use Rattle.std.proofs.Common.{◌≡◌, ℕ, Bool, refl, ap, arith}
use Rattle.inc_value.specs.declared.node.Point.{Point}
use Rattle.point_map.specs.Rows.{Holds}
use Rattle.link_table.specs.Links.{Reads, OneLinkMore}
use Rattle.necessity.specs.Need.{OneRootMore}
use Rattle.height_order.specs.Levels.{level, Rises, Ends}
use Rattle.point_rows.specs.Standing.{Standing}
use Rattle.necessary_graph.specs.Part.{part_of, IsInStep}
use Rattle.necessary_graph.specs.Room.{HasRoom}
use Rattle.necessary_graph.specs.Sweep.{IsSwept, IsDealtWith, IsUnlinked, IsUnrooted}
use Rattle.necessary_graph.proofs.Bags.{less_times}
use Rattle.necessary_graph.proofs.Cutting.{unlinked, unrooted}
use Rattle.necessary_graph.proofs.Reaching.{root_needed}
use Rattle.necessary_graph.proofs.Rests.{LinksAlone}

-- what a sweep asks of rows
pub record IsSweepable (rows : Standing) (p : Point) (points : ℕ) : Type 0 where
  pub ends : Ends rows.heights rows.links
  pub rises : Rises (Reads rows.links) (level rows.heights)
  pub there : Holds rows.heights p
  pub room : HasRoom rows.heights rows.heap points

module _ (old t : Standing) (p : Point) (inv : IsInStep (part_of old)) where
  -- a link came off
  module _ (q : Point) (rest : LinksAlone old t) (off : OneLinkMore t.links old.links p q) where
    pub off_sound : (points : ℕ) → HasRoom old.heights old.heap points → IsSweepable t q points
    off_sound points room = rw rest (record {
      ends = λ a b r. inv.ends a b (less_times t.links old.links p q off a b r);
      rises = λ a b r. inv.rises a b (less_times t.links old.links p q off a b r);
      there = (inv.ends p q (omega (arith, off.raised))).1;
      room = room;
    })

    pub unlinked_from : (leaf : Point → Bool) (u : Standing) → IsSwept leaf q (part_of t) (part_of u) → IsDealtWith leaf (part_of u) q
        → IsUnlinked leaf (part_of old) (part_of u) p q × IsInStep (part_of u)
    unlinked_from leaf u swept dealt =
        unlinked leaf (part_of old) (part_of t) (part_of u) p q inv off (λ a. rw rest refl) (ap (λ (w : Standing). w.heights) rest)
        (ap (λ (w : Standing). w.heap) rest) swept dealt

  -- a root came off
  module _ (rest : t ≡ record old { roots = t.roots }) (off : OneRootMore t.roots old.roots p) where
    pub unroot_sound : (points : ℕ) → HasRoom old.heights old.heap points → IsSweepable t p points
    unroot_sound points room = rw rest (record {
      ends = inv.ends;
      rises = inv.rises;
      there = inv.there p (root_needed (part_of old) p (omega (arith, off.raised)));
      room = room;
    })

    pub unrooted_from : (leaf : Point → Bool) (u : Standing) → IsSwept leaf p (part_of t) (part_of u) → IsDealtWith leaf (part_of u) p
        → IsUnrooted leaf (part_of old) (part_of u) p × IsInStep (part_of u)
    unrooted_from leaf u swept dealt =
        unrooted leaf (part_of old) (part_of t) (part_of u) p inv off (λ a b. rw rest refl) (ap (λ (w : Standing). w.heights) rest)
        (ap (λ (w : Standing). w.heap) rest) swept dealt
