-- What a look at the children of a node tells, and what is known of the node then.
use Rattle.std.proofs.Common.{◌≡◌, inl, inr, ℕ, Bool, true, false, List, [], ◌∷◌, Option, None, Some, refl, sym, ap, subst, ◌∙◌}
use Rattle.std.specs.Prelude.{◌||◌, option_and_then, Result, Ok, Err}
use Rattle.std.specs.List.{AllZip}
use Rattle.inc_value.specs.declared.node.NodeId.{NodeId}
use Rattle.inc_value.specs.declared.node.Point.{Point}
use Rattle.inc_value.specs.declared.outcome.Outcome.{Outcome}
use Rattle.inc_value.specs.declared.outcome.Outcome.TheVariants.{Val, Invalid}
use Rattle.inc_value.specs.declared.ty.Ty.{Ty}
use Rattle.inc_value.specs.declared.value.Value.{Value}
use Rattle.inc_terms.specs.Depend.{main}
use Rattle.point_map.specs.Rows.{KeepsRows, Rows, at, Changes}
use Rattle.stabilize_round.proofs.Points.{same_or_other}
use Rattle.stabilize_round.specs.State.{Call}
use Rattle.node_outcomes.specs.Computing.{AllShow, Calls, ComputesCall, IsKnown, IsMade, LastWas, MustCall, ShowsValue, forced_by, last_in, noted}
use Rattle.node_outcomes.specs.Lacking.{HasText, LacksRoom, gives_text, ran_full, sees_text}
use Rattle.node_outcomes.specs.LastCall.{Last}
use Rattle.node_outcomes.specs.Looking.{IsKnownOn, LacksCall}
use Rattle.node_outcomes.specs.Progress.{Progress}
use Rattle.node_outcomes.specs.Row.{with_call, with_lent}
use Rattle.node_outcomes.proofs.Computing.{filter_is_values}
use Rattle.node_outcomes.proofs.Rewriting.{rewritten}

-- the last call of a node by its row
last_of : (rows : Rows Progress) (n : NodeId) (k : Progress) → at rows (main n) ≡ Some k → last_in rows n ≡ k.last
last_of rows n k there = ap (λ (x : Option Progress). option_and_then (λ (y : Progress). y.last) x) there

pub last_was : (rows : Rows Progress) (n : NodeId) (k : Progress) (c : Call) → at rows (main n) ≡ Some k → k.last ≡ Some c → LastWas rows n c
last_was rows n k c there is = last_of rows n k there ∙ is

module _ (round : ℕ) (rows : Rows Progress) where
  -- values that nodes show one for one are the same
  shown_once : (nodes : List NodeId) (values others : List Value) → AllZip (ShowsValue rows) nodes values → AllZip (ShowsValue rows) nodes others
      → others ≡ values
  shown_once nodes values others h k = sym (filter_is_values rows nodes others k) ∙ filter_is_values rows nodes values h

  all_show : (nodes : List NodeId) (values : List Value) → AllZip (ShowsValue rows) nodes values → AllShow rows nodes
  all_show [] [] h = tt
  all_show [] (v ∷ vs) h = absurd h
  all_show (n ∷ ns) [] h = absurd h
  all_show (n ∷ ns) (v ∷ vs) h = (rw h.0 refl, all_show ns vs h.1)

  -- what is known by the values that the children show is known of the node
  pub known_is : (stale must : Bool) (n : NodeId) (k : Progress) (nodes : List NodeId) (values : List Value) (o : Option Outcome) → at rows (main n) ≡ Some k
      → AllZip (ShowsValue rows) nodes values → must ≡ (stale || forced_by round rows nodes) → IsKnownOn must k.last values o
      → IsKnown stale round rows n nodes o
  known_is stale must n k nodes values (Some Invalid) there shown is h = absurd h
  known_is stale must n k nodes values (Some (Val v)) there shown is h =
      (record { arguments = values; result = v }, last_was rows n k _ there h.0, shown, refl, unforced stale (sym is ∙ h.1))
    where
      unforced : (b : Bool) → (b || forced_by round rows nodes) ≡ false → MustCall b round rows nodes → ⊥
      unforced true e m = cc
      unforced false e (inl s) = cc
      unforced false e (inr f) = cc
  known_is stale must n k nodes values None there shown is (inl other) = (
    all_show nodes values shown,
    inl (λ c was same. other c (sym (last_of rows n k there) ∙ was) (shown_once nodes values c.arguments shown same)),
  )
  known_is stale must n k nodes values None there shown is (inr forces) = (all_show nodes values shown, inr (forced stale (sym is ∙ forces)))
    where
      forced : (b : Bool) → (b || forced_by round rows nodes) ≡ true → MustCall b round rows nodes
      forced true e = inl refl
      forced false e = inr e

  -- what a call on the values lacks the node does
  pub call_lacks : (room ran : ℕ) (n : NodeId) (t : Ty) (nodes : List NodeId) (values : List Value) → AllZip (ShowsValue rows) nodes values
      → LacksCall room ran t values → LacksRoom rows room ran n t nodes
  call_lacks room ran n t nodes values shown (inl text) = gives_text text
  call_lacks room ran n t nodes values shown (inr (inl h)) = sees_text (subst HasText (sym (filter_is_values rows nodes values shown)) h)
  call_lacks room ran n t nodes values shown (inr (inr full)) = ran_full full

-- a row that is written, which was there
module _ (old new : Rows Progress) (n : NodeId) (k : Progress) (there : at old (main n) ≡ Some k) where
  -- it is written as it was
  pub rows_stay : Changes old new (main n) (Some k) → KeepsRows old new
  rows_stay w q = elim (same_or_other (main n) q) [
    | inl same ↦ subst (λ (x : Point). at new x ≡ at old x) same (w.changed ∙ sym there)
    | inr ne ↦ w.others q (λ h. ne (sym h))
  ]

  -- so a node is computed whose function is not called
  pub known_stays : {answer : List Value → Value} {t : Ty} {stale : Bool} {round : ℕ} {ran : List NodeId} {calls : ℕ} {nodes : List NodeId} {o : Outcome} {cost : ℕ}
      → Changes old new (main n) (Some k) → ComputesCall answer t stale round (noted old ran calls) (noted old ran calls) n nodes o cost
      → ComputesCall answer t stale round (noted old ran calls) (noted new ran calls) n nodes o cost
  known_stays w h = record {
    kept = h.kept;
    is_kept = h.is_kept;
    last = h.last;
    called = h.called;
    calls = h.calls;
    gives = h.gives;
    row = record {
      changed = rows_stay w (main n) ∙ h.row.changed;
      others = λ q ne. rows_stay w q;
    };
    ran = h.ran;
    count = h.count;
    shows = h.shows;
    answer_typed = h.answer_typed;
  }

  -- it is written with another call, or as it was without memory
  pub calls_written : {E : Type 0} (answer : List Value → Value) (t : Ty) (l : Last) (ran ran' : List NodeId) (calls calls' : ℕ) (values : List Value) (cost : ℕ)
      (r : Result Outcome E) → Changes old new (main n) (Some (with_lent l k))
      → IsMade answer t (record { call = k.last; room = k.room }) l ran ran' calls calls' n values cost r
      → Calls answer t (noted old ran calls) (noted new ran' calls') n values cost r
  calls_written answer t l ran ran' calls calls' values cost (Ok o) w m = record {
    outcome = m.outcome;
    type = m.type;
    row = rewritten old new (main n) (with_call (record { arguments = values; result = answer values })) k there
        (subst (λ (x : Last). Changes old new (main n) (Some (with_lent x k))) m.last w);
    ran = m.ran;
    count = m.count;
  }
  calls_written answer t l ran ran' calls calls' values cost (Err e) w m = record {
    rows = rows_stay (subst (λ (x : Last). Changes old new (main n) (Some (with_lent x k))) m.last w);
    ran = m.ran;
    count = m.count;
  }
