-- What nodes give that read the clock.
use Rattle.std.proofs.Common.{◌≡◌, ◌⊎◌, inl, inr, ◌-ℤ◌, ℕ, ℤ, List, [], ◌∷◌, Option, None, Some, true, refl, sym, ap, subst}
use Rattle.std.specs.Int.Signed.{le_z, quot_z}
use Rattle.std.proofs.lemmas.Bool.{cond_both}
use Rattle.std.proofs.lemmas.Option.{same_Some}
use Rattle.inc_value.specs.Choice.{Every}
use Rattle.inc_value.specs.declared.node.NodeId.{NodeId}
use Rattle.inc_value.specs.declared.node.Point.{Point}
use Rattle.inc_value.specs.declared.outcome.Outcome.{Outcome}
use Rattle.inc_value.specs.declared.outcome.Outcome.TheVariants.{Val}
use Rattle.inc_value.specs.declared.ty.Ty.{Ty}
use Rattle.inc_value.specs.declared.value.Value.{Value}
use Rattle.inc_value.specs.declared.value.Value.TheVariants as value
use Rattle.inc_terms.specs.Clock.{clock_value, reads_clock}
use Rattle.inc_terms.specs.Code.{def_of}
use Rattle.inc_terms.specs.declared.def.Def as declared
use Rattle.inc_terms.specs.declared.def.Def.TheVariants as form
use Rattle.inc_terms.specs.Evaluate.{latest}
use Rattle.inc_terms.specs.Graph as graph
use Rattle.inc_terms.specs.Graph.{Graph, Def}
use Rattle.inc_terms.specs.Local.{own}
use Rattle.inc_terms.specs.Term.{Functions, Step}
use Rattle.inc_terms.specs.Within.{Given, ValueWithin}
use Rattle.inc_terms.specs.Work.{taken_by}
use Rattle.node_arena.specs.Arena.{Arena, NamesGiven}
use Rattle.node_arena.specs.Typing.{HasType, Makes}
use Rattle.node_outcomes.specs.Computing.{IsOfType}

-- the code's nodes that read the clock
pub reads_of : (d : declared.Def) → ((t : ℤ) × (d ≡ form.At t)) ⊎ ((v : Value) × (steps : List Step) × (d ≡ form.Steps v steps)) ⊎ (d ≡ form.Now)
    ⊎ ((base : ℤ) × (span : ℕ) × (d ≡ form.Every base span)) → reads_clock (def_of d) ≡ true
reads_of d (inl h) = ap (λ x. reads_clock (def_of x)) h.1
reads_of d (inr (inl h)) = ap (λ x. reads_clock (def_of x)) h.2
reads_of d (inr (inr (inl h))) = ap (λ x. reads_clock (def_of x)) h
reads_of d (inr (inr (inr h))) = ap (λ x. reads_clock (def_of x)) h.2

-- such a node calls no function
pub none_taken_by_clock : (G : Graph) (n : NodeId) (def : Def) → reads_clock def ≡ true → taken_by G n def ≡ None
none_taken_by_clock G n (graph.At t) h = refl
none_taken_by_clock G n (graph.Steps v steps) h = refl
none_taken_by_clock G n graph.Now h = refl
none_taken_by_clock G n (graph.Every base span) h = refl
none_taken_by_clock G n (graph.Const v) h = cc
none_taken_by_clock G n (graph.Var v) h = cc
none_taken_by_clock G n (graph.Map f ns) h = cc
none_taken_by_clock G n (graph.Fold f v ns) h = cc
none_taken_by_clock G n (graph.If t a b) h = cc
none_taken_by_clock G n (graph.Join k) h = cc
none_taken_by_clock G n (graph.Bind l f caps) h = cc
none_taken_by_clock G n (graph.Freeze k f) h = cc
none_taken_by_clock G n (graph.Expert f v ns) h = cc

-- and gives what it shows at the graph's time
pub own_by_clock : (F : Functions) (G : Graph) (see : Point → Option Outcome) (n : NodeId) (def : Def) (v : Value)
    → clock_value G.now def ≡ Some v → own F G see n def ≡ Some (Val v)
own_by_clock F G see n (graph.At t) v h = (let e = h in cc)
own_by_clock F G see n (graph.Steps w steps) v h = (let e = h in cc)
own_by_clock F G see n graph.Now v h = (let e = h in cc)
own_by_clock F G see n (graph.Every base span) v h = (let e = h in cc)
own_by_clock F G see n (graph.Const w) v h = cc
own_by_clock F G see n (graph.Var w) v h = cc
own_by_clock F G see n (graph.Map f ns) v h = cc
own_by_clock F G see n (graph.Fold f w ns) v h = cc
own_by_clock F G see n (graph.If t a b) v h = cc
own_by_clock F G see n (graph.Join k) v h = cc
own_by_clock F G see n (graph.Bind l f caps) v h = cc
own_by_clock F G see n (graph.Freeze k f) v h = cc
own_by_clock F G see n (graph.Expert f w ns) v h = cc

-- the last value is one of those that are there
latest_of : (P : Value → Type 0) (time : ℤ) (v : Value) (steps : List Step) → P v → Every (λ (s : Step). P s.value) steps → P (latest time v steps)
latest_of P time v [] h hs = h
latest_of P time v (s ∷ steps) h hs =
    cond_both (le_z s.time time) (latest time s.value steps) v P (λ yes. latest_of P time s.value steps hs.0 hs.1) (λ no. h)

-- so it is of the node's type
pub typed_by_clock : (arena : Arena) (time : ℤ) (def : Def) (t : Ty) (v : Value) → NamesGiven arena.given def → Makes arena def t
    → clock_value time def ≡ Some v → IsOfType arena v t
typed_by_clock arena time (graph.At from) t v names makes is =
    subst (λ (w : Value). IsOfType arena w t) (same_Some (value.Bool (le_z from time)) v is) (record { type = record { type = sym makes; reference = tt }; within = tt })
typed_by_clock arena time (graph.Steps w steps) t v names makes is =
    subst (λ (x : Value). IsOfType arena x t) (same_Some (latest time w steps) v is) (record {
      type = latest_of (λ x. HasType arena x t) time w steps makes.0 makes.1;
      within = latest_of (ValueWithin (Given arena.given)) time w steps names.0 names.1;
    })
typed_by_clock arena time graph.Now t v names makes is =
    subst (λ (w : Value). IsOfType arena w t) (same_Some (value.Int time) v is) (record { type = record { type = sym makes; reference = tt }; within = tt })
typed_by_clock arena time (graph.Every base span) t v names makes is =
    subst (λ (w : Value). IsOfType arena w t) (same_Some (value.Int (quot_z (time -ℤ base) span)) v is) (record { type = record { type = sym makes; reference = tt }; within = tt })
typed_by_clock arena time (graph.Const w) t v names makes is = cc
typed_by_clock arena time (graph.Var w) t v names makes is = cc
typed_by_clock arena time (graph.Map f ns) t v names makes is = cc
typed_by_clock arena time (graph.Fold f w ns) t v names makes is = cc
typed_by_clock arena time (graph.If x a b) t v names makes is = cc
typed_by_clock arena time (graph.Join k) t v names makes is = cc
typed_by_clock arena time (graph.Bind l f caps) t v names makes is = cc
typed_by_clock arena time (graph.Freeze k f) t v names makes is = cc
typed_by_clock arena time (graph.Expert f w ns) t v names makes is = cc
