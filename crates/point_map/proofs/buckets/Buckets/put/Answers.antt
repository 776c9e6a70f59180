use Rattle.std.proofs.Common.{◌≡◌, Some, None, refl, IsSome, option_map, slice_index_or, ap, sym, subst, ◌∙◌, arith}
use Rattle.slab.specs.Slab.{get, with_value}
use Rattle.slab.proofs.SlabLemmas.{Updates-with_value}
use Rattle.point_map.specs.Buckets.{kept_count}
use Rattle.point_map.proofs.Links.{put_links, kept_changes, seen_at, kept_of, kept_in, count_kept, count_link_set}
use Rattle.point_map.proofs.buckets.Buckets.put.Goals as goal

pub invariant_of-self : goal.invariant_of-self
invariant_of-self g c =
    let l = c.unwrap-link.result.now in
    let there : get c.self.inside.links c.args.place ≡ Some l = sym (rw c.unwrap-link.ensures at c.get_mut.ensures.value) in
    let e = Updates-with_value c.self.inside.links c.args.place
    (record { bucket = l.bucket; point = c.replace-old_point.new.dest; next = l.next; row = c.replace-old_row.new.dest })
    (subst IsSome (sym there) refl) in (
      put_links c.self.inside.heads.items c.self.inside.links.slots _ c.args.place l _ there e.changed refl refl e.others c.self.invariant.0,
      omega (
        arith,
        count_link_set c.self.inside.links.slots c.args.place l
            (record { bucket = l.bucket; point = c.replace-old_point.new.dest; next = l.next; row = c.replace-old_row.new.dest }) there,
        c.self.invariant.1,
      ),
    )

pub returns-clause-now : goal.returns-clause-now
returns-clause-now g c =
    let l = c.unwrap-link.result.now in
    let there : get c.self.inside.links c.args.place ≡ Some l = sym (rw c.unwrap-link.ensures at c.get_mut.ensures.value) in
    let e = Updates-with_value c.self.inside.links c.args.place
    (record { bucket = l.bucket; point = c.replace-old_point.new.dest; next = l.next; row = c.replace-old_row.new.dest })
    (subst IsSome (sym there) refl) in
    let m = with_value c.self.inside.links c.args.place
    (record { bucket = l.bucket; point = c.replace-old_point.new.dest; next = l.next; row = c.replace-old_row.new.dest }) in
    let changes = kept_changes c.args.self.now
    (record { kept = kept_in m.slots; width = 0; spare = 0 }) c.self.inside.links.slots m.slots c.args.place (Some _) (ap
    (λ v. v.kept) c.self.view_is) refl e.changed e.others in
    let was = ap (λ v. slice_index_or v.kept c.args.place None) (sym c.self.view_is) ∙ seen_at c.self.inside.links.slots c.args.place ∙ ap
    (option_map kept_of) there in
    changes.changed
    ∙ ap (λ p. Some (record { bucket = l.bucket; point = p; row = c.replace-old_row.new.dest })) c.replace-old_point.ensures.after
    ∙ ap (λ r. Some (record { bucket = l.bucket; point = c.args.point; row = r })) c.replace-old_row.ensures.after
    ∙ sym (ap (option_map (λ k. record { bucket = k.bucket; point = c.args.point; row = c.args.row })) was)

pub returns-clause-others : goal.returns-clause-others
returns-clause-others g c =
    let l = c.unwrap-link.result.now in
    let there : get c.self.inside.links c.args.place ≡ Some l = sym (rw c.unwrap-link.ensures at c.get_mut.ensures.value) in
    let e = Updates-with_value c.self.inside.links c.args.place
    (record { bucket = l.bucket; point = c.replace-old_point.new.dest; next = l.next; row = c.replace-old_row.new.dest })
    (subst IsSome (sym there) refl) in
    let m = with_value c.self.inside.links c.args.place
    (record { bucket = l.bucket; point = c.replace-old_point.new.dest; next = l.next; row = c.replace-old_row.new.dest }) in
    let changes = kept_changes c.args.self.now
    (record { kept = kept_in m.slots; width = 0; spare = 0 }) c.self.inside.links.slots m.slots c.args.place (Some _) (ap
    (λ v. v.kept) c.self.view_is) refl e.changed e.others in
    changes.others

pub returns-clause-count : goal.returns-clause-count
returns-clause-count g c =
    let l = c.unwrap-link.result.now in
    let there : get c.self.inside.links c.args.place ≡ Some l = sym (rw c.unwrap-link.ensures at c.get_mut.ensures.value) in
    let m = with_value c.self.inside.links c.args.place
    (record { bucket = l.bucket; point = c.replace-old_point.new.dest; next = l.next; row = c.replace-old_row.new.dest }) in
    count_kept m.slots
    ∙ count_link_set c.self.inside.links.slots c.args.place l
    (record { bucket = l.bucket; point = c.replace-old_point.new.dest; next = l.next; row = c.replace-old_row.new.dest }) there
    ∙ sym (count_kept c.self.inside.links.slots) ∙ ap kept_count c.self.view_is
