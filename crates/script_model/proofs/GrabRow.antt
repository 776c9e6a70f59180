-- A grab dies with the right side that it holds, and a watched observer tells it.
use Rattle.std.proofs.Common.{◌≡◌, ◌⊎◌, inl, inr, List, [], ◌∷◌, None, Some, refl, arith}
use Rattle.std.specs.Fmt.{digits}
use Rattle.std.specs.Prelude.{ℕ, false, pos, neg_ℤ, codes, drop}
use Rattle.inc_value.specs.declared.function.FnRef.{FnRef}
use Rattle.inc_value.specs.declared.ty.Base.TheVariants as base
use Rattle.inc_value.specs.Choice.{Among, here, step}
use Rattle.script_model.specs.Values.{Value, Int, Reference, Val, Invalid}
use Rattle.script_model.specs.Formula.{State, Meanings, Name, Bound, Bind, Join, Apply, End, More, Variable, Computed, Grab, nothing_kept}
use Rattle.script_model.specs.Evaluate.{value_at, Gives}
use Rattle.script_model.specs.Need.{Item, Named, Place, Argument, Child, Left, Inside, Needed, Reads, Met, from_root, Visit, visit_of, IsVisit, WithinWork, reads_at}
use Rattle.script_model.specs.Depth.{Point, Main, Change, Depends, points_at}
use Rattle.script_model.specs.Blocked.{InTheWay}
use Rattle.script_model.specs.Row.{NegatesTwo, grab_lives, x_is_set, grab_is_dead, grab_turn, GrabDies}
use Rattle.script_model.specs.Run.{bytes_of}
use Rattle.script_model.specs.Settle.{Settles, TurnedInvalid}
use Rattle.script_model.specs.Step as steps
use Rattle.script_model.specs.Step.{Stable, Tells, Stabilizes}
use Rattle.script_model.proofs.Falls.{Falls, among_all, needed_among, nothing_is_blocked, either}
use Rattle.script_model.proofs.Asked.{is_request_read}

abbrev one : Value
one = Int (pos 1)

abbrev two : Value
two = Int (pos 2)

-- what is needed while x has a value, each before what it reads
abbrev items : Value → List Item
items v =
    Named 4 ∷ Place 4 [] ∷ Place 4 (Child ∷ []) ∷ Named 1 ∷ Named 3 ∷ Named 2 ∷ Place 2 [] ∷ Place 2 (Inside v ∷ []) ∷ Place 2
    (Argument 0 ∷ Inside v ∷ [])
    ∷ Place 2 (Left ∷ []) ∷ Named 0 ∷ []

abbrev points : List Point
points =
    Main (Place 4 []) ∷ Change (Place 4 []) ∷ Main (Named 1) ∷ Main (Place 2 (Inside one ∷ [])) ∷ Main (Place 2 []) ∷ Main (Place 2 (Inside two ∷ []))
    ∷ Main (Place 2 (Argument 0 ∷ Inside two ∷ [])) ∷ Change (Place 2 []) ∷ Main (Named 0) ∷ []

module _ (F : Meanings) (neg : FnRef) where
  abbrev now : State
  now = x_is_set neg

  x_gives : Gives F now [] (Name 0) (Val two)
  unfolding value_at
  x_gives = (1, refl)

  h_gives : Gives F now [] (Name 1) (Val (Reference 3 base.Int))
  unfolding value_at
  h_gives = (1, refl)

  abbrev XAt : ℕ → Type 0
  XAt d = (value_at F now d [] (Name 0) ≡ None) ⊎ (value_at F now d [] (Name 0) ≡ Some (Val two))

  abbrev HAt : ℕ → Type 0
  HAt d = (value_at F now d [] (Name 1) ≡ None) ⊎ (value_at F now d [] (Name 1) ≡ Some (Val (Reference 3 base.Int)))

  x_at : (d : ℕ) → XAt d
  x_at d = either F now [] (Name 0) (Val two) d x_gives

  h_at : (d : ℕ) → HAt d
  h_at d = either F now [] (Name 1) (Val (Reference 3 base.Int)) d h_gives

  -- ---- reads

  join_reads : (y : Item) (d : ℕ) → HAt d → Among y (reads_at F now d (Place 4 [])) → Among y (drop 2 (items two))
  join_reads y d (inl is) r = among_all y (Place 4 (Child ∷ []) ∷ []) (drop 2 (items two)) (inl refl, tt) (rw is at r)
  join_reads y d (inr is) r =
      among_all y (Place 4 (Child ∷ []) ∷ Named 3 ∷ []) (drop 2 (items two)) (inl refl, (inr (inr (inl refl)), tt)) (rw is at r)

  grab_reads : (y : Item) (d : ℕ) → XAt d → Among y (reads_at F now d (Named 3)) → Among y (drop 5 (items two))
  grab_reads y d (inl is) r = among_all y (Place 2 (Left ∷ []) ∷ []) (drop 5 (items two)) (inr (inr (inr (inr (inl refl)))), tt) (rw is at r)
  grab_reads y d (inr is) r = among_all y (Place 2 (Left ∷ []) ∷ []) (drop 5 (items two)) (inr (inr (inr (inr (inl refl)))), tt) (rw is at r)

  bind_reads : (y : Item) (d : ℕ) → XAt d → Among y (reads_at F now d (Place 2 [])) → Among y (drop 7 (items two))
  bind_reads y d (inl is) r = among_all y (Place 2 (Left ∷ []) ∷ []) (drop 7 (items two)) (inr (inr (inl refl)), tt) (rw is at r)
  bind_reads y d (inr is) r =
      among_all y (Place 2 (Left ∷ []) ∷ Place 2 (Inside two ∷ []) ∷ []) (drop 7 (items two)) (inr (inr (inl refl)), (inl refl, tt)) (rw is at r)

  items_fall : Falls (Reads F now) (items two)
  items_fall = (
    (λ y r. among_all y (Place 4 [] ∷ []) (drop 1 (items two)) (inl refl, tt) r.1),
    (
      (λ y r. join_reads y r.0 (h_at r.0) r.1),
      (
        (λ y r. among_all y (Named 1 ∷ []) (drop 3 (items two)) (inl refl, tt) r.1),
        (
          (λ y r. absurd r.1),
          (
            (λ y r. grab_reads y r.0 (x_at r.0) r.1),
            (
              (λ y r. among_all y (Place 2 [] ∷ []) (drop 6 (items two)) (inl refl, tt) r.1),
              (
                (λ y r. bind_reads y r.0 (x_at r.0) r.1),
                (
                  (λ y r. among_all y (Place 2 (Argument 0 ∷ Inside two ∷ []) ∷ Place 2 (Left ∷ []) ∷ []) (drop 8 (items two))
                      (inl refl, (inr (inl refl), tt)) r.1),
                  (
                    (λ y r. among_all y (Place 2 (Left ∷ []) ∷ []) (drop 9 (items two)) (inl refl, tt) r.1),
                    (
                      (λ y r. among_all y (Named 0 ∷ []) (drop 10 (items two)) (inl refl, tt) r.1),
                      ((λ y r. absurd r.1), tt),
                    ),
                  ),
                ),
              ),
            ),
          ),
        ),
      ),
    ),
  )

  -- ---- dependencies

  join_depends : (y : Point) (d : ℕ) → HAt d → Among y (points_at F now d (Main (Place 4 []))) → Among y (drop 1 points)
  join_depends y d (inl is) r = among_all y (Change (Place 4 []) ∷ []) (drop 1 points) (inl refl, tt) (rw is at r)
  join_depends y d (inr is) r =
      among_all y (Change (Place 4 []) ∷ Main (Place 2 (Inside one ∷ [])) ∷ []) (drop 1 points) (inl refl, (inr (inr (inl refl)), tt)) (rw is at r)

  held_depends : (y : Point) (d : ℕ) → XAt d → Among y (points_at F now d (Main (Place 2 (Inside one ∷ [])))) → Among y (drop 4 points)
  held_depends y d (inl is) r = among_all y (Change (Place 2 []) ∷ []) (drop 4 points) (inr (inr (inr (inl refl))), tt) (rw is at r)
  held_depends y d (inr is) r = among_all y (Change (Place 2 []) ∷ []) (drop 4 points) (inr (inr (inr (inl refl))), tt) (rw is at r)

  bind_depends : (y : Point) (d : ℕ) → XAt d → Among y (points_at F now d (Main (Place 2 []))) → Among y (drop 5 points)
  bind_depends y d (inl is) r = among_all y (Change (Place 2 []) ∷ []) (drop 5 points) (inr (inr (inl refl)), tt) (rw is at r)
  bind_depends y d (inr is) r =
      among_all y (Change (Place 2 []) ∷ Main (Place 2 (Inside two ∷ [])) ∷ []) (drop 5 points) (inr (inr (inl refl)), (inl refl, tt)) (rw is at r)

  body_depends : (y : Point) (d : ℕ) → XAt d → Among y (points_at F now d (Main (Place 2 (Inside two ∷ [])))) → Among y (drop 6 points)
  body_depends y d (inl is) r = among_all y (Change (Place 2 []) ∷ []) (drop 6 points) (inr (inl refl), tt) (rw is at r)
  body_depends y d (inr is) r =
      among_all y (Change (Place 2 []) ∷ Main (Place 2 (Argument 0 ∷ Inside two ∷ [])) ∷ []) (drop 6 points)
      (inr (inl refl), (inl refl, tt)) (rw is at r)

  points_fall : Falls (Depends F now) points
  points_fall = (
    (λ y r. join_depends y r.0 (h_at r.0) r.1),
    (
      (λ y r. among_all y (Main (Named 1) ∷ []) (drop 2 points) (inl refl, tt) r.1),
      (
        (λ y r. absurd r.1),
        (
          (λ y r. held_depends y r.0 (x_at r.0) r.1),
          (
            (λ y r. bind_depends y r.0 (x_at r.0) r.1),
            (
              (λ y r. body_depends y r.0 (x_at r.0) r.1),
              (
                (λ y r. among_all y (Change (Place 2 []) ∷ []) (drop 7 points) (inl refl, tt) r.1),
                (
                  (λ y r. among_all y (Main (Named 0) ∷ []) (drop 8 points) (inl refl, tt) r.1),
                  ((λ y r. absurd r.1), tt),
                ),
              ),
            ),
          ),
        ),
      ),
    ),
  )

  nothing_blocks : (i : Item) → Needed F now i → InTheWay F now i → ⊥
  nothing_blocks =
      nothing_is_blocked F now (items two) points items_fall (inr (inr (inr (inr (inr (inl refl))))), (inl refl, tt)) points_fall (
        (inl refl, (inr (inl refl), tt)),
        (
          (inl refl, (inr (inl refl), tt)),
          (
            (inr (inr (inl refl)), tt),
            (
              (inr (inr (inl refl)), tt),
              (
                (inr (inr (inr (inl refl))), tt),
                (
                  (inr (inr (inr (inr (inl refl)))), (inr (inr (inr (inr (inr (inr (inr (inl refl))))))), tt)),
                  (
                    (inr (inr (inr (inr (inl refl)))), (inr (inr (inr (inr (inr (inr (inr (inl refl))))))), tt)),
                    (
                      (inr (inr (inr (inr (inr (inl refl))))), tt),
                      (
                        (inr (inr (inr (inr (inr (inr (inl refl)))))), tt),
                        (
                          (inr (inr (inr (inr (inr (inr (inr (inr (inl refl)))))))), tt),
                          ((inr (inr (inr (inr (inr (inr (inr (inr (inl refl)))))))), tt), tt),
                        ),
                      ),
                    ),
                  ),
                ),
              ),
            ),
          ),
        ),
      )
      (omega arith)

  -- ---- the stabilize

  b_gives : NegatesTwo F neg → Gives F now [] (Name 2) (Val (Int (neg_ℤ (pos 2))))
  unfolding value_at
  b_gives is = (5, rw is.two refl)

  j_gives : Gives F now [] (Name 4) Invalid
  unfolding value_at
  j_gives = (6, refl)

  left_is_met : Met F (grab_lives neg) now (Place 2 (Left ∷ []))
  left_is_met = from_root (Named 2, inl refl, step {b = Place 2 []} (0, inl refl) (step {b = Place 2 (Left ∷ [])} (0, inl refl) here))

  settles : NegatesTwo F neg → Settles F (grab_lives neg) now (grab_is_dead neg) (TurnedInvalid (codes "q") ∷ [])
  settles is = record {
    observers = (Val (Int (neg_ℤ (pos 2))), TurnedInvalid (codes "q") ∷ [], b_gives is, refl, refl, (Invalid, [], j_gives, refl, refl, refl));
    entries = (
      (Variable two, refl, refl),
      (
        (Variable (Reference 3 base.Int), refl, refl),
        (
          (
            Computed (Bind (Name 0) (Apply neg (More (Bound 0) End))) (record nothing_kept { built = Some (Val two) }),
            refl,
            (record nothing_kept { built = Some (Val two) }, refl, record { built = record { needed = λ need. (Val two, x_gives, refl); either = inr (Val two, left_is_met, x_gives, refl) } }),
          ),
          ((Grab 2 one false, refl, refl), ((Computed (Join (Name 1)) nothing_kept, refl, (nothing_kept, refl, record { built = refl })), tt)),
        ),
      ),
    );
    now = refl;
    accepted = refl;
  }

  abbrev call : Visit
  call = visit_of (Place 2 (Inside two ∷ [])) (two ∷ []) 0 1

  call_is_visit : IsVisit F now call
  unfolding value_at
  call_is_visit = (2, inl refl)

  call_is_needed : Needed F now (Place 2 (Inside two ∷ []))
  unfolding value_at
  call_is_needed = (Named 2, inl refl, step {b = Place 2 []} (0, inl refl) (step {b = Place 2 (Inside two ∷ [])} (1, inr (inl refl)) here))

  -- ---- what was needed before

  abbrev before : State
  before = grab_lives neg

  x_gave : Gives F before [] (Name 0) (Val one)
  unfolding value_at
  x_gave = (1, refl)

  h_gave : Gives F before [] (Name 1) (Val (Reference 3 base.Int))
  unfolding value_at
  h_gave = (1, refl)

  abbrev XWas : ℕ → Type 0
  XWas d = (value_at F before d [] (Name 0) ≡ None) ⊎ (value_at F before d [] (Name 0) ≡ Some (Val one))

  abbrev HWas : ℕ → Type 0
  HWas d = (value_at F before d [] (Name 1) ≡ None) ⊎ (value_at F before d [] (Name 1) ≡ Some (Val (Reference 3 base.Int)))

  join_read : (y : Item) (d : ℕ) → HWas d → Among y (reads_at F before d (Place 4 [])) → Among y (drop 2 (items one))
  join_read y d (inl is) r = among_all y (Place 4 (Child ∷ []) ∷ []) (drop 2 (items one)) (inl refl, tt) (rw is at r)
  join_read y d (inr is) r =
      among_all y (Place 4 (Child ∷ []) ∷ Named 3 ∷ []) (drop 2 (items one)) (inl refl, (inr (inr (inl refl)), tt)) (rw is at r)

  grab_read : (y : Item) (d : ℕ) → XWas d → Among y (reads_at F before d (Named 3)) → Among y (drop 5 (items one))
  grab_read y d (inl is) r = among_all y (Place 2 (Left ∷ []) ∷ []) (drop 5 (items one)) (inr (inr (inr (inr (inl refl)))), tt) (rw is at r)
  grab_read y d (inr is) r =
      among_all y (Place 2 (Left ∷ []) ∷ Place 2 (Inside one ∷ []) ∷ []) (drop 5 (items one))
      (inr (inr (inr (inr (inl refl)))), (inr (inr (inl refl)), tt)) (rw is at r)

  bind_read : (y : Item) (d : ℕ) → XWas d → Among y (reads_at F before d (Place 2 [])) → Among y (drop 7 (items one))
  bind_read y d (inl is) r = among_all y (Place 2 (Left ∷ []) ∷ []) (drop 7 (items one)) (inr (inr (inl refl)), tt) (rw is at r)
  bind_read y d (inr is) r =
      among_all y (Place 2 (Left ∷ []) ∷ Place 2 (Inside one ∷ []) ∷ []) (drop 7 (items one)) (inr (inr (inl refl)), (inl refl, tt)) (rw is at r)

  items_fell : Falls (Reads F before) (items one)
  items_fell = (
    (λ y r. among_all y (Place 4 [] ∷ []) (drop 1 (items one)) (inl refl, tt) r.1),
    (
      (λ y r. join_read y r.0 (either F before [] (Name 1) (Val (Reference 3 base.Int)) r.0 h_gave) r.1),
      (
        (λ y r. among_all y (Named 1 ∷ []) (drop 3 (items one)) (inl refl, tt) r.1),
        (
          (λ y r. absurd r.1),
          (
            (λ y r. grab_read y r.0 (either F before [] (Name 0) (Val one) r.0 x_gave) r.1),
            (
              (λ y r. among_all y (Place 2 [] ∷ []) (drop 6 (items one)) (inl refl, tt) r.1),
              (
                (λ y r. bind_read y r.0 (either F before [] (Name 0) (Val one) r.0 x_gave) r.1),
                (
                  (λ y r. among_all y (Place 2 (Argument 0 ∷ Inside one ∷ []) ∷ Place 2 (Left ∷ []) ∷ []) (drop 8 (items one))
                      (inl refl, (inr (inl refl), tt)) r.1),
                  (
                    (λ y r. among_all y (Place 2 (Left ∷ []) ∷ []) (drop 9 (items one)) (inl refl, tt) r.1),
                    (
                      (λ y r. among_all y (Named 0 ∷ []) (drop 10 (items one)) (inl refl, tt) r.1),
                      ((λ y r. absurd r.1), tt),
                    ),
                  ),
                ),
              ),
            ),
          ),
        ),
      ),
    ),
  )

  is_new : Needed F before (Place 2 (Inside two ∷ [])) → ⊥
  is_new needed =
      not_there
      (needed_among F before (items one) (Place 2 (Inside two ∷ [])) items_fell (inr (inr (inr (inr (inr (inl refl))))), (inl refl, tt)) needed)
    where
      not_there : Among (Place 2 (Inside two ∷ [])) (items one) → ⊥
      not_there (inl e) = cc
      not_there (inr (inl e)) = cc
      not_there (inr (inr (inl e))) = cc
      not_there (inr (inr (inr (inl e)))) = cc
      not_there (inr (inr (inr (inr (inl e))))) = cc
      not_there (inr (inr (inr (inr (inr (inl e)))))) = cc
      not_there (inr (inr (inr (inr (inr (inr (inl e))))))) = cc
      not_there (inr (inr (inr (inr (inr (inr (inr (inl e)))))))) = cc
      not_there (inr (inr (inr (inr (inr (inr (inr (inr (inl e))))))))) = cc
      not_there (inr (inr (inr (inr (inr (inr (inr (inr (inr (inl e)))))))))) = cc
      not_there (inr (inr (inr (inr (inr (inr (inr (inr (inr (inr (inl e))))))))))) = cc
      not_there (inr (inr (inr (inr (inr (inr (inr (inr (inr (inr (inr e))))))))))) = e

  one_call : WithinWork F before now 1
  one_call = record {
    visits = call ∷ [];
    distinct = ((λ among. among), tt);
    due = (record { visit = call_is_visit; met = from_root call_is_needed; fresh = λ was needed. is_new needed }, tt);
    enough = omega arith;
  }

  stabilizes : NegatesTwo F neg
      → Stabilizes F (record { settled = before; present = now; broken = None })
      (record { settled = grab_is_dead neg; present = grab_is_dead neg; broken = None })
      (Stable 3 ∷ Tells (TurnedInvalid (codes "q")) ∷ [])
  stabilizes is = steps.settles (TurnedInvalid (codes "q") ∷ []) nothing_blocks (settles is) refl refl refl

prints : (neg : FnRef) → bytes_of (grab_turn neg) ≡ codes "stable 3\nq invalid\n"
unfolding digits
prints neg = refl

pub grab_dies : GrabDies
grab_dies F neg is = (record { asks = is_request_read (codes "stabilize"); answers = stabilizes F neg is; due = one_call F neg }, prints neg)
