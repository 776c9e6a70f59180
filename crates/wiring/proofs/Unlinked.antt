-- What is in the worklist has no links yet, while a point in hand gets its own.
use Rattle.std.proofs.Common.{◌≡◌, ◌⊎◌, inl, inr, ℕ, Bool, true, false, List, [], Option, None, Some, refl, sym, ap, subst, ◌∙◌}
use Rattle.inc_value.specs.declared.node.Point.{Point}
use Rattle.inc_value.specs.Choice.{here, step, Among, Reaches}
use Rattle.inc_terms.specs.Graph.{Graph, Row}
use Rattle.inc_terms.specs.Term.{Functions}
use Rattle.node_arena.specs.Arena.{Arena}
use Rattle.stabilize_round.specs.Machine.{Move}
use Rattle.stabilize_round.specs.Machine as move
use Rattle.stabilize_round.specs.State as machine
use Rattle.stabilize_round.specs.State.{State, Start, at_point}
use Rattle.stabilize_round.specs.Steps.{TakesOff as OffMove, TakingOff, Spends}
use Rattle.stabilize_round.specs.Wire.{Drop, dropped, finished, linked, newly, raised, swept}
use Rattle.stabilize_round.proofs.Points.{same_or_other, at_same, at_other}
use Rattle.wiring.specs.Stands.{MatchesState, PointInHand, hand, IsInHand}
use Rattle.wiring.specs.Wiring.{AreUnlinked, IsOwing}
use Rattle.wiring.specs.declared.work.Work.{Work}

-- so it is where the worklist is empty
pub empty_unlinked : (arena : Arena) (work : Work) (counts : _) (s : State) → work.todo.items ≡ [] → MatchesState arena work counts None s → AreUnlinked None s
empty_unlinked arena work counts s empty on a todo need = elim (on.todo a todo) [
  | inl k ↦ absurd (nowhere (subst (λ (xs : List Point). Among a xs) empty k))
  | inr k ↦ absurd k
]
  where
    nowhere : Among a [] → ⊥
    nowhere h = h

-- a point is taken in hand
pub held_unlinked : (s : State) (p : Point) → AreUnlinked None s → AreUnlinked (Some (hand p [])) s
held_unlinked s p un a todo need = elim (un a todo need) [
  | inl b ↦ inl b
  | inr k ↦ elim k [ inl g ↦ inr (inl g) | inr m ↦ elim m [ inl none ↦ absurd none | inr owing ↦ inr (inr (inr owing)) ] ]
]

-- a point that waits at no gate and isn't in hand is in the worklist only where it is owed something
pub none_owed : (s : State) (p : Point) → AreUnlinked None s → s.needed p ≡ true → (s.stage p ≡ machine.Bare → ⊥) → (s.stage p ≡ machine.Gated → ⊥)
    → s.owed p ≡ [] → s.todo p ≡ true → ⊥
none_owed s p un need bare gated none t = elim (un p t need) [
  | inl b ↦ bare b
  | inr k ↦ elim k [ inl g ↦ gated g | inr m ↦ elim m [ inl absent ↦ absent | inr owing ↦ owing.0 none ] ]
]

-- how it stays for a point at which stage and debts do
module _ (s t : State) (held : Option PointInHand) (a : Point) (graph : t.graph ≡ s.graph) (stage : t.stage a ≡ s.stage a) (owed : t.owed a ≡ s.owed a) where
  owing_stays : IsOwing s a → IsOwing t a
  owing_stays o = (λ e. o.0 (sym owed ∙ e), λ r row. o.1 r (sym (ap (λ (G : Graph). G.row a.node) graph) ∙ row))

  pub low_stays : (s.stage a ≡ machine.Bare) ⊎ (s.stage a ≡ machine.Gated) ⊎ IsInHand held a ⊎ IsOwing s a
      → (t.stage a ≡ machine.Bare) ⊎ (t.stage a ≡ machine.Gated) ⊎ IsInHand held a ⊎ IsOwing t a
  low_stays h = elim h [
    | inl b ↦ inl (stage ∙ b)
    | inr k ↦ elim k [
      | inl g ↦ inr (inl (stage ∙ g))
      | inr m ↦ elim m [ inl in_hand ↦ inr (inr (inl in_hand)) | inr o ↦ inr (inr (inr (owing_stays o))) ]
    ]
  ]

-- a point is newly needed
pub newly_unlinked : (s : State) (q : Point) (heap' : Point → Bool) (held : Option PointInHand) → AreUnlinked held s → AreUnlinked held (newly s q heap')
newly_unlinked s q heap' held un a todo need = elim (same_or_other q a) [
  | inl e ↦ inl (subst (λ (x : Point). at_point q machine.Bare s.stage x ≡ machine.Bare) e (at_same q machine.Bare s.stage))
  | inr ne ↦ low_stays s (newly s q heap') held a refl (at_other q machine.Bare s.stage a ne) (at_other q [] s.owed a ne)
      (un a (sym (at_other q true s.todo a ne) ∙ todo) (sym (at_other q true s.needed a ne) ∙ need))
]

-- the point in hand gets a link that it is owed
pub linked_unlinked : (s : State) (p q : Point) (rest : List Point) (height' : Point → ℕ) → AreUnlinked (Some (hand p [])) s
    → AreUnlinked (Some (hand p [])) (linked s p q rest height')
linked_unlinked s p q rest height' un a todo need = elim (same_or_other p a) [
  | inl e ↦ inr (inr (inl (sym e)))
  | inr ne ↦ low_stays s (linked s p q rest height') (Some (hand p [])) a refl refl (at_other p rest s.owed a ne) (un a todo need)
]

-- the point in hand is raised
pub raised_unlinked : (s : State) (p : Point) (st : machine.Stage) (extra : List Point) → AreUnlinked (Some (hand p [])) s
    → AreUnlinked (Some (hand p [])) (raised s p st extra)
raised_unlinked s p st extra un a todo need = elim (same_or_other p a) [
  | inl e ↦ inr (inr (inl (sym e)))
  | inr ne ↦ low_stays s (raised s p st extra) (Some (hand p [])) a refl (at_other p st s.stage a ne) (at_other p extra s.owed a ne) (un a todo need)
]

-- who was taken off a list isn't on it
pub not_off : (p a : Point) (listed : Point → Bool) → p ≡ a → at_point p false listed a ≡ true → ⊥
not_off p a listed e t = let off = subst (λ (x : Point). at_point p false listed x ≡ false) e (at_same p false listed) in cc

-- the point in hand leaves the worklist
pub finished_unlinked : (s : State) (p : Point) → AreUnlinked (Some (hand p [])) s → AreUnlinked None (finished s p)
finished_unlinked s p un a todo need = elim (same_or_other p a) [
  | inl e ↦ absurd (not_off p a s.todo e todo)
  | inr ne ↦ elim (un a (sym (at_other p false s.todo a ne) ∙ todo) need) [
    | inl b ↦ inl b
    | inr k ↦ elim k [ inl g ↦ inr (inl g) | inr m ↦ elim m [ inl e ↦ absurd (ne (sym e)) | inr o ↦ inr (inr (inr o)) ] ]
  ]
]

-- a point that is newly needed leaves it at once
pub rested_unlinked : (s : State) (q : Point) (heap' : Point → Bool) (held : Option PointInHand) → AreUnlinked held s
    → AreUnlinked held (finished (raised (newly s q heap') q machine.Full []) q)
rested_unlinked s q heap' held un a todo need = elim (same_or_other q a) [
  | inl e ↦ absurd (not_off q a (newly s q heap').todo e todo)
  | inr ne ↦ low_stays (newly s q heap') (finished (raised (newly s q heap') q machine.Full []) q) held a refl
      (at_other q machine.Full (newly s q heap').stage a ne) (at_other q [] (newly s q heap').owed a ne)
      (newly_unlinked s q heap' held un a (sym (at_other q false (newly s q heap').todo a ne) ∙ todo) need)
]

-- ---- links are taken off

-- a point that goes back to a lower stage had links beyond its gate's
module _ (x : machine.Stage) where
  gated : (st : machine.Stage) → (st ≡ machine.Bare → ⊥) → (st ≡ machine.Full → ⊥) → (st ≡ machine.Static → (x ≡ machine.Static) ⊎ (x ≡ machine.Full))
      → (x ≡ machine.Bare) ⊎ (x ≡ machine.Gated) → st ≡ machine.Gated
  gated machine.Bare bare full lower low = absurd (bare refl)
  gated machine.Gated bare full lower low = refl
  gated machine.Full bare full lower low = absurd (full refl)
  gated machine.Static bare full lower low = absurd (elim (lower refl) [
    | inl s ↦ elim low [ inl b ↦ cc | inr g ↦ cc ]
    | inr f ↦ elim low [ inl b ↦ cc | inr g ↦ cc ]
  ])

-- a point that is owed something by itself isn't put back: it waits for nothing
never : (s : State) (p : Point) (r : Row) (st : machine.Stage) (row' : Point → ℕ) → Drop s p r st row' → IsOwing s p → ⊥
never s p r machine.Bare row' d o = d.bare refl
never s p r machine.Gated row' d o = let b = d.gated refl in let none = (o.1 r d.row).0 in let scope = b.1 in cc
never s p r machine.Static row' d o = let m = d.static refl in let none = (o.1 r d.row).1 in let sub = m.2 in cc
never s p r machine.Full row' d o = d.full refl

module _ (F : Functions) (z : Start) (held : Option PointInHand) where
  off_one : (s t : State) (m : Move F z s t) → OffMove m → AreUnlinked held s → AreUnlinked held t
  off_one s t (move.schedule x e) h un = subst (λ (u : State). AreUnlinked held u) (sym e) un
  off_one s t (move.cut {p = p} {r = r} {st = st} {row' = row'} {needed' = needed'} {links' = links'} {heap' = heap'} {owed' = owed'} d w e) h un =
      subst (λ (u : State). AreUnlinked held u) (sym e) (λ a todo need.
      let was = un a todo (w.was a need) in
      let kept = (w.owed a).0 need in
      elim (same_or_other p a) [
        | inl is ↦ elim was [
          | inl b ↦ inr (inl (at_p a is (inl b)))
          | inr k ↦ elim k [
            | inl g ↦ inr (inl (at_p a is (inr g)))
            | inr m ↦ elim m [ inl in_hand ↦ inr (inr (inl in_hand)) | inr o ↦ absurd (never s p r st row' d (subst (λ (x : Point). IsOwing s x) (sym is) o)) ]
          ]
        ]
        | inr ne ↦ low_stays s (swept (dropped s p st row') needed' links' heap' owed') held a refl (at_other p st s.stage a ne)
            (kept ∙ at_other p [] s.owed a ne) was
      ])
    where
      at_p : (a : Point) → p ≡ a → (s.stage a ≡ machine.Bare) ⊎ (s.stage a ≡ machine.Gated) → at_point p st s.stage a ≡ machine.Gated
      at_p a is low = subst (λ (x : Point). at_point p st s.stage x ≡ machine.Gated) is
          (at_same p st s.stage ∙ gated (s.stage p) st d.bare d.full d.lower
          (subst (λ (x : Point). (s.stage x ≡ machine.Bare) ⊎ (s.stage x ≡ machine.Gated)) (sym is) low))
  off_one s t _ h un = absurd h

  pub off_unlinked : (s t : State) → Reaches (TakingOff F z) s t → AreUnlinked held s → AreUnlinked held t
  off_unlinked s t here un = un
  off_unlinked s t (step {b = u} m rest) un = off_unlinked u t rest (off_one s u m.0 m.1 un)

  -- and fewer links may be tried again
  pub spend_unlinked : (s t : State) (m : Move F z s t) → Spends m → AreUnlinked held s → AreUnlinked held t
  spend_unlinked s t (move.spend u k e) h un = subst (λ (v : State). AreUnlinked held v) (sym e) un
  spend_unlinked s t _ h un = absurd h
