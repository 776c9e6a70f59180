-- One node or body more of what is to be made for a declaration.
use Rattle.std.proofs.Common.{◌≡◌, ◌≤◌, ◌+◌, ◌++◌, ℕ, zero, suc, Bool, List, [], ◌∷◌, Some, length, take, slice_get, refl, ap, sym, ◌∙◌, subst, append-nil, arith}
use Rattle.std.proofs.lemmas.List.{append_assoc, length-append}
use Rattle.formula_elab.specs.Functions.{bodies_in, bodies_made, bodies_of}
use Rattle.formula_elab.specs.Make as make
use Rattle.formula_elab.specs.Make.{Make}
use Rattle.formula_elab.specs.Opened.{IsMadeAs, filled, open_ty}
use Rattle.formula_elab.specs.declared.plan.Planned.{Planned}
use Rattle.formula_elab.specs.Plan.{IsNext}
use Rattle.formula_elab.specs.Types.{AreTypedAsTargets}
use Rattle.formula_elab.specs.declared.make.Made.{Made}
use Rattle.formula_elab.specs.declared.make.Made.TheVariants as was
use Rattle.formula_elab.specs.declared.plan.Planned.TheVariants as planned
use Rattle.graph.specs.Standing.{GraphView}
use Rattle.inc_terms.specs.Term.{Functions}
use Rattle.inc_value.specs.declared.function.FnRef.{FnRef}
use Rattle.inc_value.specs.declared.value.Value.{Value}
use Rattle.inc_value.specs.declared.node.NodeId.{NodeId}
use Rattle.node_arena.specs.Arena.{Arena}
use Rattle.node_arena.specs.Sound as arenas
use Rattle.script_functions.specs.Bodies.{Body}
use Rattle.script_functions.specs.Keeping.{KeepsBodies, is_known, makers, side_in}
use Rattle.script_graph.proofs.Making.{one_more_made, one_more_served, terms_on}
use Rattle.script_graph.specs.Growing.{IsMadeIn, functions_over}
use Rattle.script_graph.specs.Sound.{HaveNodes}
use Rattle.script_model.specs.Check.{Names}
use Rattle.script_model.specs.Values.{seen_value}
use Rattle.session.specs.Making.{IsServing, KeepsFunctions, MadeSoFar, StayKnown}

-- ---- functions

-- bodies behind bodies
bodies_on : (xs ys zs : List Body) (m n : ℕ) → KeepsBodies xs ys m → KeepsBodies ys zs n → KeepsBodies xs zs (m + n)
bodies_on xs ys zs m n first second = record {
  more = first.more ++ second.more;
  behind = second.behind ∙ (ap (λ (bs : List Body). bs ++ second.more) first.behind ∙ append_assoc xs first.more second.more);
  few =
      let size = length-append first.more second.more in
      let low = first.few in
      let high = second.few in
      omega (arith, size, low, high);
}

module _ {L : Type 0} where
  -- nothing changed
  pub functions_stay : (library : L) (builds : ℕ) (bodies : List Body) (most : ℕ) → KeepsFunctions library library builds builds bodies bodies most
  functions_stay library builds bodies most =
      record { library = refl; builds = refl; bodies = record { more = []; behind = sym (append-nil bodies); few = omega arith } }

  pub functions_on : (a b c : L) (x y z : ℕ) (xs ys zs : List Body) (m n : ℕ) → KeepsFunctions a b x y xs ys m → KeepsFunctions b c y z ys zs n
      → KeepsFunctions a c x z xs zs (m + n)
  functions_on a b c x y z xs ys zs m n first second = record {
    library = second.library ∙ first.library;
    builds = second.builds ∙ first.builds;
    bodies = bodies_on xs ys zs m n first.bodies second.bodies;
  }

  -- no more than more
  pub functions_within : (a b : L) (x y : ℕ) (xs ys : List Body) (m n : ℕ) → m ≤ n → KeepsFunctions a b x y xs ys m → KeepsFunctions a b x y xs ys n
  functions_within a b x y xs ys m n less h =
      let few = h.bodies.few in
      record {
        library = h.library;
        builds = h.builds;
        bodies = record { more = h.bodies.more; behind = h.bodies.behind; few = omega (arith, few, less) };
      }

-- functions that stay are known
pub stay_known : (maps : FnRef → Bool) (bodies : List Body) → StayKnown maps maps bodies bodies
stay_known maps bodies = record { known = λ f h. h; sides = λ f h. refl }

-- ---- how many bodies are kept

bodies_take : (makes : List Planned) (n : ℕ) (x : Planned) → slice_get makes n ≡ Some x → bodies_in (take (suc n) makes) ≡ bodies_in (take n makes) + bodies_of x
bodies_take [] n x at = absurd (cc)
bodies_take (y ∷ makes) zero x at = let same : y ≡ x = cc in rw same (omega arith)
bodies_take (y ∷ makes) (suc n) x at = let rest = bodies_take makes n x at in omega (arith, rest)

bodies_within : (makes : List Planned) (n : ℕ) → bodies_in (take n makes) ≤ bodies_in makes
bodies_within [] zero = omega arith
bodies_within [] (suc n) = omega arith
bodies_within (x ∷ makes) zero = omega arith
bodies_within (x ∷ makes) (suc n) = let rest = bodies_within makes n in omega (arith, rest)

made_is : (made : List Made) (m : Make) (makes : List Planned) (next : IsNext makes made (Some m)) → bodies_made m ≡ bodies_of next.0
made_is made m makes (planned.Node y, at, is) = ap bodies_made is
made_is made m makes (planned.Body o, at, (b, is, filled)) = ap bodies_made is

pub bodies_next : (makes : List Planned) (made : List Made) (m : Make) → IsNext makes made (Some m)
    → bodies_in (take (length made) makes) + bodies_made m ≡ bodies_in (take (suc (length made)) makes)
bodies_next makes made m next =
    let here = bodies_take makes (length made) next.0 next.1 in
    let same = made_is made m makes next in
    omega (arith, here, same)

pub bodies_all : (makes : List Planned) (n : ℕ) → bodies_in (take n makes) ≤ bodies_in makes
bodies_all = bodies_within

-- ---- what is made

module _ {A : Type 0} where
  -- of what is next, what was made is of its kind
  pub answers_next : (H : Functions) (old new : GraphView A) (makes : List Planned) (made : List Made) (m : Make) → IsNext makes made (Some m) → (one : Made)
      → IsMadeIn H old new m one → (x : Planned) × (slice_get makes (length made) ≡ Some x) × IsMadeAs x one
  answers_next H old new makes made m (planned.Node y, at, is) one done =
      (planned.Node y, at, node_is one (subst (λ (n : Make). IsMadeIn H old new n one) is done))
    where
      node_is : (one : Made) → IsMadeIn H old new (make.Node (filled made y) (open_ty y)) one → IsMadeAs (planned.Node y) one
      node_is (was.Node n) h = tt
      node_is (was.Fn f) h = absurd h
  answers_next H old new makes made m (planned.Body o, at, (b, is, filled)) one done =
      let kept = subst (λ (n : Make). IsMadeIn H old new n one) is done in
      (planned.Body o, at, (kept.is_function, kept.kind, kept.sig ∙ filled.sig))

  module _ (maps maps' : FnRef → Bool) (value value' : FnRef → List Value → Value) (bodies bodies' : List Body) (first now new : GraphView A)
      (makes : List Planned) (made : List Made) (so : MadeSoFar maps value bodies first now makes made) (sound : arenas.IsSoundArena now.nodes)
      (stay : StayKnown maps maps' bodies bodies') where
    pub made_more : (m : Make) → IsNext makes made (Some m) → (one : Made) → IsMadeIn (functions_over value' bodies') now new m one
        → IsServing (is_known maps' (makers bodies')) (side_in (makers bodies')) m one → MadeSoFar maps' value' bodies' first new makes (made ++ one ∷ [])
    made_more m next one done serves = record {
      making = one_more_made (functions_over value bodies) (functions_over value' bodies') first now new makes made so.making sound
          (terms_on (is_known maps (makers bodies)) (is_known maps' (makers bodies')) (side_in (makers bodies)) (side_in (makers bodies'))
          stay.known stay.sides makes made so.served (seen_value value) (seen_value value') so.making.stands.kinds)
          m next one done;
      served = one_more_served (is_known maps (makers bodies)) (is_known maps' (makers bodies')) (side_in (makers bodies)) (side_in (makers bodies'))
          stay.known stay.sides makes made so.served m next one serves;
    }

-- ---- names

-- declarations that have their nodes are of the types of those that they stand for
pub typed_as_targets : (a : Arena) (names : Names) (nodes : List NodeId) → HaveNodes a names.declared nodes → AreTypedAsTargets names
typed_as_targets a names nodes has i d is = let t = (has i d is).target in (t.target, t.is_target, t.typed)
