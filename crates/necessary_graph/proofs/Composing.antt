-- One sweep after another is one sweep.
use Rattle.std.proofs.Common.{◌≡◌, ◌≢◌, ◌⊎◌, inl, inr, ◌≤◌, Bool, arith, sym, refl, ap, ◌∙◌}
use Rattle.std.specs.Prelude.{remove}
use Rattle.std.proofs.lemmas.Bool.{cases_lt}
use Rattle.inc_value.specs.declared.node.Point.{Point}
use Rattle.inc_value.specs.Choice.{Reaches, here, step}
use Rattle.point_map.proofs.Places.{point_cases}
use Rattle.link_table.specs.Links.{Links, times, Reads, OneLinkMore}
use Rattle.necessary_graph.specs.Part.{NecessaryPart, Needed, IsInStep}
use Rattle.necessary_graph.specs.Sweep.{Sweep, DropsLeaves, IsUnlinked, IsReduced}
use Rattle.necessary_graph.proofs.Found.{link_found, link_removed}
use Rattle.necessary_graph.proofs.Reaching.{root_needed, read_needed, needed_has, needed_more}
use Rattle.necessary_graph.proofs.Sweeping.{link_cases}

-- other links
abbrev pub with_links : NecessaryPart → Links → NecessaryPart
with_links g links = record g { links = links }

-- what is in step is swept
pub swept_alone : (g : NecessaryPart) → IsInStep g → Sweep g g
swept_alone g inv = record {
  roots = λ p. refl;
  reached = λ p. (λ n. n, λ n. n);
  kept = λ p q n. refl;
  gone = inv.readers;
  fewer = λ p q. omega arith;
  heap_kept = λ p n. refl;
  heap = λ p h e. (e, (inv.heap p h e).1);
}

-- no leaf is dropped
pub drops_none : (leaf : Point → Bool) (g : NecessaryPart) → DropsLeaves leaf g g
drops_none leaf g = record { heights = λ p. inl refl; leaves = λ p is n. inl n }

-- of the links that are left, some are swept already: those of needed points are all there
pub record IsThinner (old : NecessaryPart) (left : Links) (swept : Links) : Type 0 where
  pub down : (a b : Point) → times left a b ≤ times old.links a b
  pub within : (a b : Point) → times swept a b ≤ times left a b
  pub same : (a b : Point) → Needed old a → times swept a b ≡ times left a b

-- a sweep, links off and a sweep are links off and one sweep
module _ (old s u : NecessaryPart) (left swept : Links) (f : Sweep old s) (thinner : IsThinner old left swept) (g : Sweep (with_links s swept) u) where
  thin_needed : (p : Point) → Needed (with_links s swept) p → Needed (with_links old left) p
  thin_needed p n = needed_more (with_links s swept) (with_links old left) (λ a r. omega (arith, f.roots a, r))
      (λ a b r. omega (arith, thinner.within a b, r)) p n

  both_needed : (p : Point) → Needed (with_links old left) p → Needed old p × Needed (with_links s swept) p
  both_needed p n =
      needed_has (with_links old left) (λ x. Needed old x × Needed (with_links s swept) x)
      (λ a r. (root_needed old a r, root_needed (with_links s swept) a (omega (arith, f.roots a, r))))
      (λ a b r m. (
        read_needed old a b m.0 (omega (arith, thinner.down a b, r)),
        read_needed (with_links s swept) a b m.1 (omega (arith, thinner.same a b m.0, r)),
      )) p n

  pub sweeps_compose : Sweep (with_links old left) u
  sweeps_compose = record {
    roots = λ p. g.roots p ∙ f.roots p;
    reached = λ p. (λ n. thin_needed p ((g.reached p).0 n), λ n. (g.reached p).1 ((both_needed p n).1));
    kept = λ p q n. let m = both_needed p n in g.kept p q m.1 ∙ thinner.same p q m.0;
    gone = λ p q r. thin_needed p (g.gone p q r);
    fewer = λ p q. omega (arith, g.fewer p q, thinner.within p q);
    heap_kept = λ p n. let m = both_needed p n in g.heap_kept p m.1 ∙ f.heap_kept p m.0;
    heap = λ p h e. let now = g.heap p h e in ((f.heap p h now.0).0, thin_needed p now.1);
  }

-- leaves dropped, and then more
pub drops_compose : (leaf : Point → Bool) (old s u : NecessaryPart) → ((p : Point) → Needed s p → Needed old p) → ((p : Point) → Needed u p → Needed s p)
    → DropsLeaves leaf old s → DropsLeaves leaf s u → DropsLeaves leaf old u
drops_compose leaf old s u down lower f g = record {
  heights = λ p. elim (g.heights p) [
    | inl same ↦ elim (f.heights p) [
      | inl before ↦ inl (same ∙ before)
      | inr dropped ↦ inr (record { is_leaf = dropped.is_leaf; was = dropped.was; unneeded = λ n. dropped.unneeded (lower p n); gone = same ∙ dropped.gone })
    ]
    | inr dropped ↦ inr (record { is_leaf = dropped.is_leaf; was = down p dropped.was; unneeded = dropped.unneeded; gone = dropped.gone })
  ];
  leaves = λ p is n. elim (f.leaves p is n) [
    | inl still ↦ g.leaves p is still
    | inr gone ↦ inr (elim (g.heights p) [ inl same ↦ same ∙ gone | inr dropped ↦ dropped.gone ])
  ];
}

-- one link less
pub one_off : (l : Links) (p q : Point) → Reads l p q → (m : Links) × OneLinkMore m l p q
one_off l p q r = let f = link_found l.all p q r in (record { all = remove l.all f.0 }, link_removed l.all f.0 (record { reader = p; kid = q }) p q f.1 f.2)

-- the same link comes off before a sweep and after it
pub off_thinner : (old s : NecessaryPart) (left swept : Links) (p q : Point) → Sweep old s → OneLinkMore left old.links p q
    → OneLinkMore swept s.links p q → IsThinner old left swept
off_thinner old s left swept p q f before after = record {
  down = λ a b. elim (link_cases a b p q) [
    | inl is ↦ rw (is.0, is.1) (omega (arith, before.raised))
    | inr other ↦ omega (arith, before.others a b other)
  ];
  within = λ a b. elim (link_cases a b p q) [
    | inl is ↦ rw (is.0, is.1) (omega (arith, before.raised, after.raised, f.fewer p q))
    | inr other ↦ omega (arith, before.others a b other, after.others a b other, f.fewer a b)
  ];
  same = λ a b n. elim (link_cases a b p q) [
    | inl is ↦ rw (is.0, is.1) (let e = f.kept p q (rw is.0 at n) in omega (arith, before.raised, after.raised, e))
    | inr other ↦ omega (arith, before.others a b other, after.others a b other, f.kept a b n)
  ];
}

-- ---- all links of a point but those to one

-- a walk that comes to p needs no link of p
pub walk_without : (fewer more : Links) (p q : Point) → OneLinkMore fewer more p q → {a c : Point} → Reaches (Reads more) a c → c ≡ p
    → Reaches (Reads fewer) a p
walk_without fewer more p q off here e = rw e here
walk_without fewer more p q off (step {a} {b} r rest) e = elim (point_cases a p) [
  | inl same ↦ rw same here
  | inr other ↦ step (omega (arith, off.others a b (λ l. other (ap (λ x. x.reader) l)), r)) (walk_without fewer more p q off rest e)
]

-- a point is needed without its links too
pub needed_without : (g : NecessaryPart) (fewer : Links) (p q : Point) → OneLinkMore fewer g.links p q → Needed g p → Needed (with_links g fewer) p
needed_without g fewer p q off n =
    record { root = n.root; is_root = n.is_root; leads = walk_without fewer g.links p q off n.leads refl }

-- some links of p are off, none of them to the point that is kept, and all is swept
pub record IsReducing (leaf : Point → Bool) (old now : NecessaryPart) (p kept : Point) : Type 0 where
  pub links : Links
  pub here : times links p kept ≡ times old.links p kept
  pub others : (a b : Point) → a ≢ p → times links a b ≡ times old.links a b
  pub sweep : Sweep (with_links old links) now
  pub drops : DropsLeaves leaf old now
  pub less : (a : Point) → Needed now a → Needed old a
  pub needed : Needed now p

module _ (leaf : Point → Bool) (old : NecessaryPart) (p kept : Point) where
  pub reducing_first : IsInStep old → Needed old p → IsReducing leaf old old p kept
  reducing_first inv n = record {
    links = old.links;
    here = refl;
    others = λ a b other. refl;
    sweep = swept_alone old inv;
    drops = drops_none leaf old;
    less = λ a n. n;
    needed = n;
  }

  module _ (s u : NecessaryPart) (kid : Point) (so : IsReducing leaf old s p kept) (other : kid ≢ kept) (un : IsUnlinked leaf s u p kid) where
    -- p had the link before the sweep too
    read_before : Reads so.links p kid
    read_before = let e = so.sweep.kept p kid ((so.sweep.reached p).0 so.needed) in omega (arith, e, un.off.raised)

    lower : (a : Point) → Needed u a → Needed s a
    lower a n =
        let links = (un.sweep.reached a).0 n in
        needed_more (with_links s un.links) s (λ x r. r) (λ x y r. elim (link_cases x y p kid) [
          | inl is ↦ rw (is.0, is.1) (omega (arith, un.off.raised))
          | inr differs ↦ omega (arith, un.off.others x y differs, r)
        ]) a links

    pub reducing_more : IsReducing leaf old u p kept
    reducing_more =
        let left = one_off so.links p kid read_before in
        let thinner = off_thinner (with_links old so.links) s left.0 un.links p kid so.sweep left.1 un.off in record {
          links = left.0;
          here = let e = left.1.others p kept (λ l. other (sym (ap (λ x. x.kid) l))) in omega (arith, e, so.here);
          others = λ a b differs. let e = left.1.others a b (λ l. differs (ap (λ x. x.reader) l)) in omega (arith, e, so.others a b differs);
          sweep = sweeps_compose (with_links old so.links) s u left.0 un.links so.sweep thinner un.sweep;
          drops = drops_compose leaf old s u so.less lower so.drops un.drops;
          less = λ a n. so.less a (lower a n);
          needed = (un.sweep.reached p).1 (needed_without s un.links p kid un.off so.needed);
        }

  -- nothing is done yet, or some links are off
  abbrev pub MayReduce : NecessaryPart → Type 0
  MayReduce now = (now ≡ old) ⊎ IsReducing leaf old now p kept

  pub reducing_at : (now : NecessaryPart) → IsInStep now → Needed old p → MayReduce now → IsReducing leaf old now p kept
  reducing_at now inv n (inl same) = rw same (reducing_first (rw same at inv) n)
  reducing_at now inv n (inr so) = so

  -- p reads no other point
  pub reduced : (now : NecessaryPart) → IsReducing leaf old now p kept → ((b : Point) → Reads now.links p b → b ≡ kept) → IsReduced leaf old now p kept
  reduced now so none = record {
    links = so.links;
    off = record {
      gone = λ b other. elim (cases_lt 0 (times now.links p b)) [
        | inl reads ↦ absurd (other (none b reads))
        | inr zero ↦ let e = so.sweep.kept p b ((so.sweep.reached p).0 so.needed) in omega (arith, e, zero)
      ];
      here = so.here;
      others = so.others;
    };
    sweep = so.sweep;
    drops = so.drops;
  }
