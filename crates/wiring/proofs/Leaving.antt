-- Points of the worklist are taken in hand and leave it.
use Rattle.std.proofs.Common.{◌≡◌, ◌<◌, ◌++◌, inl, inr, Bool, true, false, List, [], ◌∷◌, length, Option, None, Some, refl, sym, ap, subst, ◌∙◌, arith, length-append, Vec, Global}
use Rattle.inc_value.specs.declared.node.Point.{Point}
use Rattle.inc_value.specs.Choice.{here, Among, Reaches}
use Rattle.inc_terms.specs.Term.{Functions}
use Rattle.necessary_graph.specs.Part.{Needed}
use Rattle.node_arena.specs.Arena.{Arena}
use Rattle.stabilize_round.specs.Invariant.{Invariant}
use Rattle.stabilize_round.specs.State.{State, Start}
use Rattle.stabilize_round.specs.Steps.{Wiring, Wired, plainly}
use Rattle.stabilize_round.proofs.Machine.{moves_keep}
use Rattle.stabilize_round.proofs.Parts.{bool_cases}
use Rattle.stabilize_round.proofs.Points.{at_same}
use Rattle.stabilize_round.proofs.Steps.{wired_moves}
use Rattle.wiring.specs.Growing.{left_to_wire, Grows}
use Rattle.wiring.specs.Kept.{IsKept}
use Rattle.wiring.specs.Stands.{MatchesState, PointInHand, hand, debts, owes, Counts}
use Rattle.wiring.specs.Wiring.{ShowsSame, Wires, WiresTaken, WireRefused, KeepsPlaces, AreUnlinked}
use Rattle.wiring.specs.declared.refused.Refused.{Refused}
use Rattle.wiring.specs.declared.work.Work.{Work}
use Rattle.wiring.proofs.Growing.{link_points, links_are_listed}
use Rattle.wiring.proofs.TakingAll.{places_then}
use Rattle.wiring.proofs.Reading.{read_still}
use Rattle.wiring.proofs.Holding.{has_links_same}
use Rattle.wiring.proofs.Raising.{wired_then, wired_after, leaves_hand}
use Rattle.wiring.proofs.Owing.{owes_unneeded}
use Rattle.wiring.proofs.Unlinked.{held_unlinked}
use Rattle.wiring.proofs.Placing.{among_cases}
use Rattle.wiring.proofs.Staying.{beside_kept, round_same, taken_stands, looks_stands}

-- ---- a point that isn't needed leaves the worklist

unneeded_is : (s : State) (arena : Arena) (work : Work) (counts : Counts) (held : Option PointInHand) (p : Point) → MatchesState arena work counts held s
    → (Needed work.graph p → ⊥) → s.needed p ≡ false
unneeded_is s arena work counts held p on unneeded = elim (bool_cases (s.needed p)) [ inl t ↦ absurd (unneeded ((on.needed p).0 t)) | inr f ↦ f ]

pub unneeded_leaves : (F : Functions) (z : Start) (s : State) (arena : Arena) (work : Work) (counts : Counts) (p : Point)
    → MatchesState arena work counts (Some (hand p [])) s → AreUnlinked None s → (Needed work.graph p → ⊥)
    → (t : State) × Reaches (Wiring F z) s t × MatchesState arena work counts None t × AreUnlinked None t
unneeded_leaves F z s arena work counts p on unlinked unneeded = leaves_hand F z s arena work counts p on (held_unlinked s p unlinked)
    (owes_unneeded work (s.needed p) p (unneeded_is s arena work counts (Some (hand p [])) p on unneeded)) (record {
      owed = on.owed p ∙ at_same p [] (debts work s.needed);
      bare = λ n e. unneeded ((on.needed p).0 n);
      gated = λ r row n e. absurd (unneeded ((on.needed p).0 n));
      static = λ r row n e. absurd (unneeded ((on.needed p).0 n));
    })

-- ---- a point is taken off the worklist's end

pub todo_kept : (arena : Arena) (work : Work) (todo : Vec Point Global) → IsKept arena work → IsKept arena (record work { todo = todo })
todo_kept arena work todo k = beside_kept arena work todo work.retries k

-- ---- what holds while points of the worklist get their links

pub record IsWiring (arena : Arena) (old new : Work) : Type 0 where
  pub wires : Wires arena old new None
  pub places : KeepsPlaces old new
  pub kept : IsKept arena new
  pub idle : old.todo.items ≡ [] → new.todo.items ≡ []
  pub rest : old.todo.items ≡ [] → new ≡ record old { todo = new.todo }

-- at first
pub wiring_first : (arena : Arena) (work : Work) → IsKept arena work → IsWiring arena work work
wiring_first arena work kept = record {
  wires = λ F z s counts inv on unlinked. (s, plainly here, on, unlinked);
  places = record { rows = λ a. refl; roots = λ a. refl; deaths = refl; round = refl; experts = read_still work.experts };
  kept = kept;
  idle = λ none. none;
  rest = λ none. refl;
}

not_empty : (ps : List Point) (p : Point) → ps ++ p ∷ [] ≡ [] → ⊥
not_empty [] p e = absurd (cc)
not_empty (q ∷ ps) p e = absurd (cc)

-- a point was taken from it
module _ (arena : Arena) (old mid : Work) (todo : Vec Point Global) (p : Point) (so : IsWiring arena old mid)
    (items : mid.todo.items ≡ todo.items ++ p ∷ []) where
  abbrev popped : Work
  popped = record mid { todo = todo }

  -- the point is in hand then, with what it is owed
  so_far : (owed : List Point) → ((s : State) (counts : Counts) → MatchesState arena mid counts None s → owes mid (s.needed p) p ≡ owed)
      → (F : Functions) (z : Start) (s : State) (counts : Counts) → Invariant F z s → MatchesState arena old counts None s → AreUnlinked None s
      → (t : State) × Wired F z s t × Invariant F z t × MatchesState arena popped counts (Some (hand p owed)) t × AreUnlinked None t
  so_far owed is F z s counts inv on unlinked =
      let a = so.wires F z s counts inv on unlinked in
      let in_hand = taken_stands a.0 arena mid todo counts p a.2 owed (is a.0 counts a.2)
      (λ b h. among_cases b p todo.items (subst (λ (xs : List Point). Among b xs) items h)) in
      (a.0, a.1, moves_keep F z s a.0 (wired_moves F z s a.0 a.1) inv, in_hand, a.3)

  needed_owes : Needed mid.graph p → (s : State) (counts : Counts) → MatchesState arena mid counts None s → owes mid (s.needed p) p ≡ owes mid true p
  needed_owes need s counts on = ap (λ (b : Bool). owes mid b p) ((on.needed p).1 need)

  -- so it wasn't empty at first
  pub was_listed : old.todo.items ≡ [] → ⊥
  was_listed none = not_empty todo.items p (sym items ∙ so.idle none)

  now_kept : IsKept arena popped
  now_kept = todo_kept arena mid todo so.kept

  now_places : KeepsPlaces old popped
  now_places = record {
    rows = so.places.rows;
    roots = so.places.roots;
    deaths = so.places.deaths;
    round = so.places.round;
    experts = so.places.experts;
  }

  -- the worklist is shorter, whoever of these isn't needed
  shorter : (points : List Point) → left_to_wire popped points < left_to_wire mid points
  shorter points = let long = ap length items in let parts = length-append todo.items (p ∷ []) in omega (arith, long, parts)

  -- the point isn't needed
  pub wiring_skip : (Needed mid.graph p → ⊥) → IsWiring arena old popped
  wiring_skip unneeded = record {
    wires = λ F z s counts inv on unlinked.
        let a = so_far [] (λ t c stands. owes_unneeded mid (t.needed p) p (unneeded_is t arena mid c None p stands unneeded)) F z s counts inv on unlinked in
        let b = unneeded_leaves F z a.0 arena popped counts p a.3 a.4 unneeded in
        (b.0, wired_after F z s a.0 b.0 a.1 b.1, b.2, b.3);
    places = now_places;
    kept = now_kept;
    idle = λ none. absurd (was_listed none);
    rest = λ none. absurd (was_listed none);
  }

  -- the point got its links, or waits
  pub wiring_one : (new : Work) → Needed mid.graph p → WiresTaken arena popped new p → KeepsPlaces popped new → IsKept arena new → IsWiring arena old new
  wiring_one new need wired places kept = record {
    wires = λ F z s counts inv on unlinked.
        let a = so_far (owes mid true p) (needed_owes need) F z s counts inv on unlinked in
        let b = wired F z a.0 counts a.2 a.3 a.4 in
        (b.0, wired_then F z s a.0 b.0 a.1 b.1, b.2, b.3);
    places = places_then old popped new now_places places;
    kept = kept;
    idle = λ none. absurd (was_listed none);
    rest = λ none. absurd (was_listed none);
  }

  -- a link of the point was refused
  pub wiring_refused : (new : Work) (e : Refused) → Needed mid.graph p → WireRefused arena popped new (Some (hand p (owes popped true p))) e
      → WireRefused arena old new None e
  wiring_refused new e need refused F z s counts inv on unlinked =
      let a = so_far (owes mid true p) (needed_owes need) F z s counts inv on unlinked in
      let b = refused F z a.0 counts a.2 a.3 (held_unlinked a.0 p a.4) in
      (b.0, b.1, wired_then F z s a.0 b.0 a.1 b.2, b.3, b.4)

  -- what is to be done falls
  pub skip_less : left_to_wire popped (link_points old) < left_to_wire mid (link_points old)
  skip_less = shorter (link_points old)

  pub one_less : (new : Work) → Grows popped new → left_to_wire new (link_points old) < left_to_wire mid (link_points old)
  one_less new grows =
      let less = skip_less in
      let more = grows (link_points old) (λ a h. links_are_listed old a
      (has_links_same popped old (λ x. sym (now_places.rows x)) (sym now_places.deaths) a h)) in
      omega (arith, less, more)

-- the worklist is empty
pub wiring_last : (arena : Arena) (old mid new : Work) → IsWiring arena old mid → ShowsSame mid new → Wires arena old new None
wiring_last arena old mid new so same F z s counts inv on unlinked =
    let a = so.wires F z s counts inv on unlinked in
    (a.0, a.1, looks_stands a.0 arena mid new counts None same a.2, a.3)

pub looks_empty : (work : Work) (todo : Vec Point Global) → work.todo.items ≡ todo.items → ShowsSame work (record work { todo = todo })
looks_empty work todo items = record {
  rows = λ p. refl;
  links = λ p q. refl;
  roots = λ p. refl;
  needed = λ p. ((λ n. n), (λ n. n));
  levels = λ p. refl;
  heap = λ p. refl;
  todo = sym items;
  lists = record { pairs = refl; scoped = refl };
  round = round_same work work.graph work.rows todo;
}
