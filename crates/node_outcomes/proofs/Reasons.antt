-- Why a node's function is called, by what is kept of points.
use Rattle.std.proofs.Common.{◌≡◌, ◌⊎◌, inl, inr, ℕ, Bool, true, false, List, [], ◌∷◌, refl, sym, subst, ◌∙◌}
use Rattle.std.specs.Prelude.{◌&&◌}
use Rattle.std.specs.List.{AllZip}
use Rattle.inc_value.specs.Choice.{Among}
use Rattle.inc_value.specs.declared.node.NodeId.{NodeId}
use Rattle.inc_value.specs.declared.value.Value.{Value}
use Rattle.inc_terms.specs.Depend.{main}
use Rattle.point_map.specs.Rows.{Rows, at}
use Rattle.stabilize_round.specs.Calling.{other, forced, made_stale}
use Rattle.stabilize_round.specs.State.{Call}
use Rattle.node_outcomes.specs.Computing.{ShowsValue, LastWas, IsForcedBy, MustCall, ReasonIn}
use Rattle.map_nodes.specs.Cutoff.{TellsAgain}
use Rattle.map_nodes.specs.declared.cutoff.Cutoff.{Cutoff}
use Rattle.map_nodes.specs.declared.cutoff.Cutoff.TheVariants.{Equal, Never}
use Rattle.map_nodes.proofs.Stopping.{equal_stops}
use Rattle.node_outcomes.specs.Row.{tells_again, cutoff_in, settled_in, passes_in}
use Rattle.node_outcomes.specs.Progress.{Progress}

-- two tests are passed, or one of two
and_apart : (a b : Bool) → (a && b) ≡ true → (a ≡ true) × (b ≡ true)
and_apart true b h = (refl, h)
and_apart false b h = absurd (cc)

and_both : (a b : Bool) → a ≡ true → b ≡ true → (a && b) ≡ true
and_both true b a_is b_is = b_is
and_both false b a_is b_is = absurd (cc)

-- the test tells it
tells : (c : Cutoff) → tells_again c ≡ true → TellsAgain c
tells Equal is = absurd (cc)
tells Never is = λ o stopped. stopped

tested : (c : Cutoff) → TellsAgain c → tells_again c ≡ true
tested Equal h = absurd (equal_stops Equal refl h)
tested Never h = refl

module _ (round : ℕ) (rows : Rows Progress) where
  -- one of the nodes that force, and what one forces
  one_of_forced : (ns : List NodeId) → IsForcedBy round rows ns → (m : NodeId) × Among m ns × (passes_in round (at rows (main m)) ≡ true)
  one_of_forced [] h = absurd (cc)
  one_of_forced (n ∷ ns) h = by_test (passes_in round (at rows (main n))) refl (λ later. one_of_forced ns later)
    where
      by_test : (b : Bool) → passes_in round (at rows (main n)) ≡ b
          → (IsForcedBy round rows ns → (m : NodeId) × Among m ns × (passes_in round (at rows (main m)) ≡ true))
          → (m : NodeId) × Among m (n ∷ ns) × (passes_in round (at rows (main m)) ≡ true)
      by_test true is later = (n, inl refl, is)
      by_test false is later = let k = later (rw is at h) in (k.0, inr k.1, k.2)

  one_forces : (ns : List NodeId) (m : NodeId) → Among m ns → passes_in round (at rows (main m)) ≡ true → IsForcedBy round rows ns
  one_forces [] m a h = absurd a
  one_forces (n ∷ ns) m (inl e) h =
      let here : passes_in round (at rows (main n)) ≡ true = subst (λ (x : NodeId). passes_in round (at rows (main x)) ≡ true) e h in rw here refl
  one_forces (n ∷ ns) m (inr a) h = by_test (passes_in round (at rows (main n))) refl (one_forces ns m a h)
    where
      by_test : (b : Bool) → passes_in round (at rows (main n)) ≡ b → IsForcedBy round rows ns → IsForcedBy round rows (n ∷ ns)
      by_test true is later = rw is refl
      by_test false is later = rw is later

  -- there is a reason where the children show other values than the function was last called on, or one forces the call
  pub reason_of : (stale : Bool) (n : NodeId) (nodes : List NodeId) (values : List Value) → AllZip (ShowsValue rows) nodes values
      → ((c : Call) → LastWas rows n c → AllZip (ShowsValue rows) nodes c.arguments → ⊥) ⊎ MustCall stale round rows nodes
      → ReasonIn (λ (m : NodeId). stale) round rows n nodes values
  reason_of stale n nodes values shown (inl differs) =
      other (λ c is same. differs c is (subst (λ (vs : List Value). AllZip (ShowsValue rows) nodes vs) (sym same) shown))
  reason_of stale n nodes values shown (inr (inl marked)) = made_stale marked
  reason_of stale n nodes values shown (inr (inr force)) =
      let a = one_of_forced nodes force in
      let b = and_apart (tells_again (cutoff_in (at rows (main a.0)))) (settled_in round (at rows (main a.0))) a.2 in
      forced {kid = a.0} a.1 (tells (cutoff_in (at rows (main a.0))) b.0) b.1

  -- there is none where it was last called on the values, and nothing asks for a call
  pub no_reason : (stale : Bool) (n : NodeId) (nodes : List NodeId) (values : List Value) (call : Call) → LastWas rows n call → call.arguments ≡ values
      → (MustCall stale round rows nodes → ⊥) → ReasonIn (λ (m : NodeId). stale) round rows n nodes values → ⊥
  no_reason stale n nodes values call was same free (other differs) = differs call was same
  no_reason stale n nodes values call was same free (forced {kid} a again settled) = free (inr (one_forces nodes kid a
      (and_both (tells_again (cutoff_in (at rows (main kid)))) (settled_in round (at rows (main kid)))
      (tested (cutoff_in (at rows (main kid))) again) settled)))
  no_reason stale n nodes values call was same free (made_stale marked) = free (inl marked)

  -- a reason asks of the node alone whether it is stale
  pub reason_with : (stale others : NodeId → Bool) (n : NodeId) (nodes : List NodeId) (values : List Value) → stale n ≡ others n
      → ReasonIn stale round rows n nodes values → ReasonIn others round rows n nodes values
  reason_with stale others n nodes values same (other differs) = other differs
  reason_with stale others n nodes values same (forced {kid} a again settled) = forced {kid = kid} a again settled
  reason_with stale others n nodes values same (made_stale marked) = made_stale (sym same ∙ marked)
