use Rattle.std.proofs.Common.{◌≡◌, Some, IsSome, refl, ap, sym, subst, ◌∙◌, option_map, slice_index_or, None, length, arith}
use Rattle.slab.specs.Slab.{get}
use Rattle.slab.proofs.SlabLemmas.{Updates-with_value}
use Rattle.point_map.specs.Buckets.{with_row}
use Rattle.point_map.specs.declared.buckets.Link.{Link}
use Rattle.point_map.proofs.Links.{put_links, count_link_set, seen_at, kept_of, written_seen}
use Rattle.point_map.proofs.buckets.Buckets.get_mut.Goals as goal

pub invariant_of-self-lent : goal.invariant_of-self-lent
invariant_of-self-lent g c = λ w.
    let l = c.in_ok-link.link.now in
    let there : get c.self.inside.links c.args.place ≡ Some l = sym c.in_ok-link.ensures.value in
    let m : Link _ = record { bucket = l.bucket; point = l.point; next = l.next; row = w } in
    let e = Updates-with_value c.self.inside.links c.args.place m (subst IsSome (sym there) refl) in (
      put_links c.self.inside.heads.items c.self.inside.links.slots _ c.args.place l m there e.changed refl refl e.others c.self.invariant.0,
      omega (arith, count_link_set c.self.inside.links.slots c.args.place l m there, c.self.invariant.1),
    )

pub returns : goal.returns
returns g c =
    let l = c.in_ok-link.link.now in
    let there : get c.self.inside.links c.args.place ≡ Some l = sym c.in_ok-link.ensures.value in (
      (
        refl,
        λ w.
            ap (λ ks. record { kept = ks; width = length c.self.inside.heads.items; spare = c.self.inside.spare })
            (written_seen c.self.inside.links.slots c.args.place l w there)
            ∙ ap (λ b. with_row b c.args.place w) c.self.view_is,
        refl,
      ),
      record {
        writes_back = tt;
        value = sym (ap (option_map (λ k. k.row)) (seen_at c.self.inside.links.slots c.args.place ∙ ap (option_map kept_of) there))
            ∙ ap (λ b. option_map (λ k. k.row) (slice_index_or b.kept c.args.place None)) c.self.view_is;
      },
    )
