-- What calls that read the clock or move it do to a graph.
use Rattle.std.specs.Prelude.{◌≡◌, ◌⊎◌, ◌↔◌, ◌+ℤ◌, ◌<ℤ◌, pos, ℕ, ℤ, Bool, true, false, if◌then◌else◌, List, [], ◌∷◌, Result, IsErrOf}
use Rattle.std.specs.Int.Signed.{le_z}
use Rattle.inc_value.specs.declared.node.NodeId.{NodeId}
use Rattle.inc_value.specs.declared.ty.Ty.TheVariants as ty
use Rattle.inc_terms.specs.Graph.{At, Steps}
use Rattle.inc_terms.specs.Term.{Step}
use Rattle.inc_value.specs.Value.{type_of}
use Rattle.inc_value.specs.declared.value.Value.{Value}
use Rattle.node_arena.specs.Arena.{row_at, live, NamesGiven}
use Rattle.node_arena.specs.Typing.{Makes}
use Rattle.graph.specs.Effects.{AnswersAdd, KeepsAll, KeepsBesideGiven}
use Rattle.graph.specs.Standing.{GraphView, IsUnbroken}
use Rattle.graph.specs.declared.fault.GraphFault.{GraphFault}
use Rattle.graph.specs.declared.fault.GraphFault.TheVariants as fault
use Rattle.graph.specs.declared.fault.Kept.{Kept}

-- so long after the time there is none: the greatest is 2^63 - 1
abbrev pub IsPastRange : ℤ → ℕ → Type 0
IsPastRange time span = pos 9223372036854775807 <ℤ (time +ℤ pos span)

-- the times rise strictly
abbrev pub Rise : List Step → Type 0
Rise [] = Unit {0}
Rise (s ∷ []) = Unit {0}
Rise (s ∷ t ∷ rest) = (s.time <ℤ t.time) × Rise (t ∷ rest)

-- they do from a time before the first on
abbrev pub rises : ℤ → List Step → Bool
rises time [] = true
rises time (s ∷ rest) = if le_z s.time time then false else rises s.time rest

-- all of them do
abbrev pub are_rising : List Step → Bool
are_rising [] = true
are_rising (s ∷ rest) = rises s.time rest

-- why the time isn't moved
abbrev pub IsAdvanceFault : GraphFault → Type 0
IsAdvanceFault e = ((cause : Kept) × (e ≡ fault.Broken cause)) ⊎ (e ≡ fault.Back) ⊎ (e ≡ fault.Memory)

module _ {F : Type 0} where
  -- what the call answers that adds a node of a time so long after the present one: that there is no such time, or what is answered for that time
  pub record AnswersAfter (old new : GraphView F) (span : ℕ) (answer : Result NodeId GraphFault) : Type 0 where
    pub range : IsErrOf answer fault.Range ↔ (IsUnbroken old × IsPastRange old.nodes.time span)
    pub past : IsErrOf answer fault.Range → KeepsAll old new
    pub within : ¬ IsErrOf answer fault.Range → AnswersAdd old new (At (old.nodes.time +ℤ pos span)) ty.Bool answer

  -- what the call answers that adds steps: that their times don't rise, or what is answered for them
  pub record AnswersSteps (old new : GraphView F) (initial : Value) (steps : List Step) (answer : Result NodeId GraphFault) : Type 0 where
    pub order : IsErrOf answer fault.Order ↔ (IsUnbroken old × NamesGiven old.nodes.given (Steps initial steps)
        × Makes old.nodes (Steps initial steps) (type_of initial) × ¬ Rise steps)
    pub unordered : IsErrOf answer fault.Order → KeepsAll old new
    pub others : ¬ IsErrOf answer fault.Order → AnswersAdd old new (Steps initial steps) (type_of initial) answer

  -- the time is this one; each node is what it was, and all stays beside
  pub record MovesTo (old new : GraphView F) (to : ℤ) : Type 0 where
    pub beside : KeepsBesideGiven old new
    pub time : new.nodes.time ≡ to
    pub rows : (n : NodeId) → row_at new.nodes n ≡ row_at old.nodes n
    pub given : new.nodes.given ≡ old.nodes.given
    pub live : live new.nodes ≡ live old.nodes
