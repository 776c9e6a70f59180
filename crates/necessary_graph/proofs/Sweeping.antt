-- Steps of a sweep.
use Rattle.std.proofs.Common.{◌≡◌, ◌≢◌, ◌⊎◌, inl, inr, ℕ, ◌≤◌, Bool, true, arith, sym, refl, ap, ◌∙◌, Some}
use Rattle.std.specs.Prelude.{Option, None}
use Rattle.std.proofs.lemmas.Bool.{cases_lt, cases_Bool}
use Rattle.std.proofs.lemmas.Option.{none-some}
use Rattle.inc_value.specs.declared.node.Point.{Point}
use Rattle.inc_value.specs.Choice.{Reaches, here, step}
use Rattle.point_map.specs.Rows.{at}
use Rattle.point_map.proofs.Places.{point_cases}
use Rattle.link_table.specs.Links.{link, times, Reads, IsRead, KeepsLinks, OneLinkMore}
use Rattle.necessity.specs.Need.{KeepsRoots}
use Rattle.necessary_graph.specs.Part.{NecessaryPart, Needed}
use Rattle.necessary_graph.specs.Sweep.{IsThinned, IsSwept, IsBare, IsHeld}
use Rattle.necessary_graph.proofs.Reaching.{reaches_on, leads_more, thinned_up, thinned_down, thinned_then}

-- two links are the same, or not
pub link_cases : (a b p q : Point) → ((a ≡ p) × (b ≡ q)) ⊎ (link a b ≢ link p q)
link_cases a b p q = elim (point_cases a p) [
  | inl same ↦ elim (point_cases b q) [
    | inl also ↦ inl (same, also)
    | inr other ↦ inr (λ e. other (ap (λ l. l.kid) e))
  ]
  | inr other ↦ inr (λ e. other (ap (λ l. l.reader) e))
]

-- what has no row isn't there
pub none_of : (x : Option ℕ) → ((h : ℕ) → x ≡ Some h → ⊥) → x ≡ None
none_of None never = refl
none_of (Some h) never = absurd (never h refl)

module _ (leaf : Point → Bool) (first : Point) where
  -- the same roots, links, heights and heap
  pub again_swept : (s t : NecessaryPart) → KeepsRoots s.roots t.roots → KeepsLinks s.links t.links → t.heights ≡ s.heights → t.heap ≡ s.heap
      → IsSwept leaf first s t
  again_swept s t roots links heights heap = record {
    thinned = record { roots = roots; fewer = λ a b. omega (arith, links a b); kept = λ a b n. links a b };
    heights = λ a. inl (ap (λ m. at m a) heights);
    followed = λ a b less. absurd (omega (arith, links a b, less));
    heap_kept = λ a n. rw heap refl;
    heap_fewer = λ a h e. rw heap at e;
  }

  -- what is gone stays gone
  pub gone_stays : (t u : NecessaryPart) → IsSwept leaf first t u → (p : Point) → at t.heights p ≡ None → at u.heights p ≡ None
  gone_stays t u w p gone = elim (w.heights p) [ inl same ↦ same ∙ gone | inr shed ↦ shed.gone ]

  -- what is bare stays bare, unless it is held: a leaf that loses its last reader is dropped
  pub bare_stays : (t u : NecessaryPart) → IsSwept leaf first t u → (p : Point) → IsBare leaf t p → IsHeld u.links u.roots p ⊎ IsBare leaf u p
  bare_stays t u w p bare = elim (cases_Bool (leaf p)) [
    | inr is_not ↦ inr (still (λ is. absurd (let e = sym is ∙ is_not in cc)))
    | inl is ↦ elim (bare.left is) [
      | inr gone ↦ inr (still (λ _. inr (gone_stays t u w p gone)))
      | inl read ↦ elim (cases_lt 0 (times u.links read.0 p)) [
        | inl reads_still ↦ inr (still (λ _. inl (read.0, reads_still)))
        | inr none ↦ w.followed read.0 p (omega (arith, none, read.1))
      ]
    ]
  ]
    where
      still : (leaf p ≡ true → IsRead u.links p ⊎ (at u.heights p ≡ None)) → IsBare leaf u p
      still left = record {
        reads_none = λ q. omega (arith, w.thinned.fewer p q, bare.reads_none q);
        out = none_of (at u.heap p) (λ h e. none-some h (sym bare.out ∙ w.heap_fewer p h e));
        left = left;
      }

  -- what is held stays so, or is bare once its last reader's link is off
  pub held_stays : (t u : NecessaryPart) → IsSwept leaf first t u → (p : Point) → IsHeld t.links t.roots p → IsHeld u.links u.roots p ⊎ IsBare leaf u p
  held_stays t u w p (inl root) = inl (inl (omega (arith, w.thinned.roots p, root)))
  held_stays t u w p (inr (reader, reads)) = elim (cases_lt 0 (times u.links reader p)) [
    | inl still ↦ inl (inr (reader, still))
    | inr none ↦ w.followed reader p (omega (arith, none, reads))
  ]

-- a sweep, and then one of what the first leads to
module _ (leaf : Point → Bool) (first : Point) where
  -- two sweeps of the same
  pub swept_then : (s t u : NecessaryPart) (next : Point) → Reaches (Reads s.links) first next → IsSwept leaf first s t → IsSwept leaf next t u
      → IsSwept leaf first s u
  swept_then s t u next leads f g = record {
    thinned = thinned_then s t u f.thinned g.thinned;
    heights = λ a. elim (g.heights a) [
      | inl same ↦ elim (f.heights a) [
        | inl before ↦ inl (same ∙ before)
        | inr shed ↦ inr (record { is_leaf = shed.is_leaf; unneeded = shed.unneeded; leads = shed.leads; gone = same ∙ shed.gone })
      ]
      | inr shed ↦ inr (record {
        is_leaf = shed.is_leaf;
        unneeded = λ n. shed.unneeded (thinned_up s t f.thinned a n);
        leads = reaches_on leads (leads_more t.links s.links f.thinned.fewer shed.leads);
        gone = shed.gone;
      })
    ];
    followed = λ a b less. elim (cases_lt (times t.links a b) (times s.links a b)) [
      | inl earlier ↦ elim (f.followed a b earlier) [ inl held ↦ held_stays leaf next t u g b held | inr bare ↦ bare_stays leaf next t u g b bare ]
      | inr not_earlier ↦ g.followed a b (omega (arith, not_earlier, less))
    ];
    heap_kept = λ a n. g.heap_kept a (thinned_up s t f.thinned a n) ∙ f.heap_kept a n;
    heap_fewer = λ a h e. f.heap_fewer a h (g.heap_fewer a h e);
  }

-- a link of p is off, and all else is as it was
pub record IsOff (s t : NecessaryPart) (p q : Point) : Type 0 where
  pub roots : KeepsRoots s.roots t.roots
  pub link : OneLinkMore t.links s.links p q
  pub heights : t.heights ≡ s.heights
  pub heap : t.heap ≡ s.heap

pub off_fewer : (s t : NecessaryPart) (p q : Point) → IsOff s t p q → (a b : Point) → times t.links a b ≤ times s.links a b
off_fewer s t p q off a b = elim (link_cases a b p q) [
  | inl same ↦ rw (same.0, same.1) (omega (arith, off.link.raised))
  | inr other ↦ omega (arith, off.link.others a b other)
]

pub off_thinned : (s t : NecessaryPart) (p q : Point) → (Needed s p → ⊥) → IsOff s t p q → IsThinned s t
off_thinned s t p q unneeded off = record {
  roots = off.roots;
  fewer = off_fewer s t p q off;
  kept = λ a b n. elim (link_cases a b p q) [
    | inl same ↦ absurd (unneeded (rw same.0 at n))
    | inr other ↦ sym (off.link.others a b other)
  ];
}

-- the link that comes off was there
pub off_read : (s t : NecessaryPart) (p q : Point) → IsOff s t p q → Reads s.links p q
off_read s t p q off = omega (arith, off.link.raised)

-- a link of a point that isn't needed comes off, and its kid is swept, unless it is held
pub link_swept : (leaf : Point → Bool) (s t u : NecessaryPart) (p q : Point) → (Needed s p → ⊥) → IsOff s t p q → IsSwept leaf q t u
    → IsHeld u.links u.roots q ⊎ IsBare leaf u q → IsSwept leaf p s u
link_swept leaf s t u p q unneeded off w kid =
    let thin = off_thinned s t p q unneeded off in record {
      thinned = thinned_then s t u thin w.thinned;
      heights = λ a. elim (w.heights a) [
        | inl same ↦ inl (same ∙ ap (λ m. at m a) off.heights)
        | inr shed ↦ inr (record {
          is_leaf = shed.is_leaf;
          unneeded = λ n. shed.unneeded (thinned_up s t thin a n);
          leads = step (off_read s t p q off) (leads_more t.links s.links thin.fewer shed.leads);
          gone = shed.gone;
        })
      ];
      followed = λ a b less. elim (link_cases a b p q) [
        | inl same ↦ rw same.1 kid
        | inr other ↦ w.followed a b (omega (arith, off.link.others a b other, less))
      ];
      heap_kept = λ a n. w.heap_kept a (thinned_up s t thin a n) ∙ ap (λ m. at m a) off.heap;
      heap_fewer = λ a h e. rw off.heap at w.heap_fewer a h e;
    }

-- a sweep under way at p: a link to a kid came off, and the kid was swept unless it is held
module _ (leaf : Point → Bool) (s0 s t u : NecessaryPart) (p q : Point) (unneeded : Needed s0 p → ⊥) (so_far : IsSwept leaf p s0 s) (off : IsOff s t p q) where
  pub unneeded_still : Needed s p → ⊥
  unneeded_still n = unneeded (thinned_down s0 s so_far.thinned p n)

  pub more_swept : IsSwept leaf q t u → IsHeld u.links u.roots q ⊎ IsBare leaf u q → IsSwept leaf p s0 u
  more_swept w kid = swept_then leaf p s0 s u p here so_far (link_swept leaf s t u p q unneeded_still off w kid)

-- what was out of the heap stays out
pub out_still : (leaf : Point → Bool) (first : Point) (t u : NecessaryPart) (p : Point) → IsSwept leaf first t u → at t.heap p ≡ None → at u.heap p ≡ None
out_still leaf first t u p w out = none_of (at u.heap p) (λ h e. none-some h (sym out ∙ w.heap_fewer p h e))
