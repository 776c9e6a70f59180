-- Which nodes are told.
use Rattle.std.proofs.Common.{◌≡◌, ◌≢◌, ◌∙◌, ℕ, ℤ, ◌<ℤ◌, ◌==◌, Bool, true, false, List, [], ◌∷◌, ◌++◌, ◌⊎◌, inl, inr, Option, None, Some, IsSome, refl, sym, ap, subst, if◌then◌else◌}
use Rattle.std.specs.Bool.{Decides}
use Rattle.std.proofs.lemmas.Bool.Decides.{Decides-eqb}
use Rattle.std.proofs.lemmas.List.{append_assoc, append-nil}
use Rattle.std.proofs.lemmas.Option.{same_Some}
use Rattle.inc_value.specs.Choice.{Among, NoRepeats, and_then}
use Rattle.inc_value.specs.declared.node.NodeId.{NodeId}
use Rattle.inc_terms.specs.Clock.{clock_value}
use Rattle.inc_terms.specs.Graph.{Def}
use Rattle.inc_terms.proofs.Plan.{among_left}
use Rattle.timing_wheel.specs.Alarms.{Alarm, Wheel, OneLeaves}
use Rattle.clock_nodes.specs.Clock.{Clock, Rows, row_at, own, watched, IsFree, IsStale, ListsStale, MayYetTurn}
use Rattle.clock_nodes.specs.Kinds.{watch_def, watch_slot}
use Rattle.clock_nodes.specs.Keeping.{IsAwake, IsStaleIn, TellsOne, TellsDue}
use Rattle.clock_nodes.specs.declared.watch.Watch.{Watch}
use Rattle.clock_nodes.proofs.Alarms.{has_key, among_cases, among_last, once_last, once_pushed}

abbrev id_of : ℕ → ℕ → NodeId
id_of s g = record { slot = s; gen_ = g }

same_id : (n m : NodeId) → n.slot ≡ m.slot → n.gen_ ≡ m.gen_ → n ≡ m
same_id n m s g = ap (λ (x : ℕ). id_of x n.gen_) s ∙ ap (λ (x : ℕ). id_of m.slot x) g

-- ---- the keys that are due, one after the other

pub none_told : (rows : Rows) (before time : ℤ) (all : List ℕ) (list : List NodeId) → TellsDue rows before time all all list list
none_told rows before time all list = record {
  nodes = [];
  behind = sym (append-nil list);
  once = tt;
  are = λ n h. absurd h;
  done = λ n h. absurd h;
  each = λ n stale h. inl h;
}

module _ (rows : Rows) (before time : ℤ) (all due : List ℕ) (key : ℕ) (old mid new : List NodeId)
    (once : NoRepeats (due ++ key ∷ []))
    (so_far : TellsDue rows before time all (due ++ key ∷ []) old mid) where
  module _ (x : Watch) (is : row_at rows key ≡ Some x) where
    -- a stale node of the key is this one
    is_it : (n : NodeId) (stale : IsStaleIn rows before time n) → n.gen_ ≡ key → x ≡ stale.watch
    is_it n stale e = same_Some x stale.watch (sym is ∙ ap (λ k. row_at rows k) (sym e) ∙ stale.is)

    unchanged_more : new ≡ mid → (clock_value time (watch_def x) ≢ clock_value before (watch_def x) → ⊥) → TellsDue rows before time all due old new
    unchanged_more kept same = record {
      nodes = so_far.nodes;
      behind = kept ∙ so_far.behind;
      once = so_far.once;
      are = so_far.are;
      done = λ n h g. so_far.done n h (among_left n.gen_ due (key ∷ []) g);
      each = λ n stale h. elim (so_far.each n stale h) [
        | inl g ↦ elim (among_cases n.gen_ key due g) [
          | inl left ↦ inl left
          | inr e ↦ absurd (same (subst (λ (y : Watch). clock_value time (watch_def y) ≢ clock_value before (watch_def y)) (sym (is_it n stale e)) stale.changed))
        ]
        | inr g ↦ inr g
      ];
    }

    abbrev node : NodeId
    node = id_of (watch_slot x) key

    changed_more : new ≡ mid ++ node ∷ [] → clock_value time (watch_def x) ≢ clock_value before (watch_def x) → TellsDue rows before time all due old new
    changed_more pushed differs =
        record {
          nodes = so_far.nodes ++ node ∷ [];
          behind = pushed ∙ ap (λ l. l ++ node ∷ []) so_far.behind ∙ append_assoc old so_far.nodes (node ∷ []);
          once = once_pushed node so_far.nodes so_far.once
              (λ h. so_far.done node h (among_last key due));
          are = λ n h. elim (among_cases n node so_far.nodes h) [
            | inl g ↦ so_far.are n g
            | inr e ↦ record {
              watch = x;
              is = ap (λ k. row_at rows k) (ap (λ (m : NodeId). m.gen_) e) ∙ is;
              own = ap (λ (m : NodeId). m.slot) (sym e);
              changed = differs;
            }
          ];
          done = λ n h g. elim (among_cases n node so_far.nodes h) [
            | inl told ↦ so_far.done n told (among_left n.gen_ due (key ∷ []) g)
            | inr e ↦ once_last key due once (subst (λ k. Among k due) (ap (λ (m : NodeId). m.gen_) e) g)
          ];
          each = λ n stale h. elim (so_far.each n stale h) [
            | inl g ↦ elim (among_cases n.gen_ key due g) [
              | inl left ↦ inl left
              | inr e ↦ inr (subst (λ m. Among m (so_far.nodes ++ node ∷ []))
                  (same_id node n (ap watch_slot (is_it n stale e) ∙ stale.own) (sym e)) (among_last node so_far.nodes))
            ]
            | inr g ↦ inr (among_left n so_far.nodes (node ∷ []) g)
          ];
        }

  pub one_more : TellsOne rows before time key mid new → TellsDue rows before time all due old new
  one_more one = elim one.told [
    | inl h ↦ unchanged_more one.watch one.is h.0 h.1
    | inr h ↦ changed_more one.watch one.is h.0 h.1
  ]

-- ---- what is watched, by the rows

pub own_is : (n : NodeId) (x : Watch) (d : Def) → own n x ≡ Some d → (watch_slot x ≡ n.slot) × (watch_def x ≡ d)
own_is n x d e = go (watch_slot x == n.slot) (Decides-eqb (watch_slot x) n.slot) e
  where
    go : (b : Bool) → Decides b (watch_slot x ≡ n.slot) → (if b then Some (watch_def x) else None) ≡ Some d → (watch_slot x ≡ n.slot) × (watch_def x ≡ d)
    go true c h = (c.0 refl, same_Some (watch_def x) d h)
    go false c h = absurd (let h' = h in cc)

pub is_own : (n : NodeId) (x : Watch) → watch_slot x ≡ n.slot → own n x ≡ Some (watch_def x)
is_own n x e = let t = (Decides-eqb (watch_slot x) n.slot).1 e in rw t refl

pub watched_row : (o : Option Watch) (n : NodeId) (d : Def) → and_then o (own n) ≡ Some d
    → (x : Watch) × (o ≡ Some x) × (watch_slot x ≡ n.slot) × (watch_def x ≡ d)
watched_row None n d e = absurd (let e' = e in cc)
watched_row (Some x) n d e = let h = own_is n x d e in (x, refl, h.0, h.1)

-- where no node of the generation is watched its key has no row
pub free_row : (c : Clock) (n : NodeId) → IsFree c n → row_at c.rows n.gen_ ≡ None
free_row c n free = go (row_at c.rows n.gen_) refl
  where
    go : (o : Option Watch) → row_at c.rows n.gen_ ≡ o → row_at c.rows n.gen_ ≡ None
    go None e = e
    go (Some x) e =
        let node = id_of (watch_slot x) n.gen_ in
        let none : watched c node ≡ None = free node refl in
        let some : watched c node ≡ Some (watch_def x) = ap (λ o. and_then o (own node)) e ∙ is_own node x refl in
        absurd (let e' = sym none ∙ some in cc)

-- an alarm that leaves its slot is that of a node that may come to show another value
pub may_yet_turn : (c : Clock) (w : Wheel) (to : ℤ) → IsAwake c.rows w [] → c.time ≡ w.time → OneLeaves w to → MayYetTurn c
may_yet_turn c w to awake same h =
    there (row_at c.rows a.key) refl (awake.kept a.key (has_key w.alarms a a.key h.1 refl))
  where
    a : Alarm
    a = h.0

    there : (o : Option Watch) → row_at c.rows a.key ≡ o → IsSome o → MayYetTurn c
    there None is some = absurd (let e = some in cc)
    there (Some x) is some =
        let node = id_of (watch_slot x) a.key in
        record {
          node = node;
          def = watch_def x;
          is = ap (λ o. and_then o (own node)) is ∙ is_own node x refl;
          time = a.deadline;
          later = subst (λ t. t <ℤ a.deadline) (sym same) h.2.ahead;
          turns = awake.turns a x h.1 is;
        }

module _ (c : Clock) (before time : ℤ) where
  stale_in : (n : NodeId) → IsStale c before time n → IsStaleIn c.rows before time n
  stale_in n stale =
      let r = watched_row (row_at c.rows n.gen_) n stale.def stale.is in
      record {
        watch = r.0;
        is = r.1;
        own = r.2;
        changed = subst (λ d. clock_value time d ≢ clock_value before d) (sym r.3) stale.changed;
      }

  in_stale : (n : NodeId) → IsStaleIn c.rows before time n → IsStale c before time n
  in_stale n stale = record {
    def = watch_def stale.watch;
    is = ap (λ o. and_then o (own n)) stale.is ∙ is_own n stale.watch stale.own;
    changed = stale.changed;
  }

  -- where all whose alarms weren't due show what they showed
  pub lists_stale : (all : List ℕ) (old new : List NodeId) → TellsDue c.rows before time all [] old new
      → ((k : ℕ) (x : Watch) → row_at c.rows k ≡ Some x → (Among k all → ⊥) → clock_value time (watch_def x) ≡ clock_value before (watch_def x))
      → ((k : ℕ) → Among k all ⊎ (Among k all → ⊥)) → ListsStale c before time old new
  lists_stale all old new tells same known = record {
    nodes = tells.nodes;
    behind = tells.behind;
    once = tells.once;
    are = λ n h. in_stale n (tells.are n h);
    all = λ n stale.
        let s = stale_in n stale in
        elim (known n.gen_) [
          | inl due ↦ elim (tells.each n s due) [ inl none ↦ absurd none | inr h ↦ h ]
          | inr off ↦ absurd (s.changed (same n.gen_ s.watch s.is off))
        ];
  }
