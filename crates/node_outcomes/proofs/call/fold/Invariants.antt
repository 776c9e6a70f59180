use Rattle.std.proofs.Common.{◌≡◌, take}
use Rattle.inc_value.specs.Value.{type_of}
use Rattle.inc_terms.specs.Evaluate.{folded}
use Rattle.stabilize_round.specs.Counts.{RoseBy}
use Rattle.node_outcomes.specs.Meaning.{KeepsFunctions}
use Rattle.node_outcomes.proofs.call.fold.Given as goal

-- what the values so far gave, by a call for each
abbrev pub invariant-loop-value : goal.invariant-loop-value
invariant-loop-value g l = record {
  gathered : l.result ≡ folded (g.F.Functions.value l.fn.functions l.f) l.fn.initial (take l.value-index l.values);
  type : type_of l.result ≡ l.f.sig.gives;
  calls : RoseBy (g.F.Functions.calls l.fn.functions) l.value-index (g.F.Functions.calls l.functions);
  functions : KeepsFunctions g.F.Functions l.fn.functions l.functions;
  wants : g.F.Functions.wants l.functions ≡ g.F.Functions.wants l.fn.functions;
}
