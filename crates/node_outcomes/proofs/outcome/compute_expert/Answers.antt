use Rattle.std.proofs.Common.{◌∙◌, Bool, Err, List, length, subst, sym, vec_capacity}
use Rattle.std.specs.List.{AllZip}
use Rattle.inc_value.specs.declared.node.NodeId.{NodeId}
use Rattle.inc_value.specs.declared.outcome.Outcome.{Outcome}
use Rattle.inc_value.specs.declared.value.Value.{Value}
use Rattle.inc_terms.specs.Evaluate.{folded}
use Rattle.expert_nodes.specs.Experts.{is_stale_at}
use Rattle.node_outcomes.specs.Computing.{ComputesCall, FoldFits, ShowsValue, noted}
use Rattle.node_outcomes.specs.Lacking.{CallLacks}
use Rattle.node_outcomes.specs.Meaning.{WantsFollow}
use Rattle.node_outcomes.proofs.Experts.{tidy_is, tidy_kids, tidy_same, tidy_stale, tidy_there, unmarked}
use Rattle.node_outcomes.proofs.outcome.compute_expert.Goals as goal

pub is_stale-stale-requires : goal.is_stale-stale-requires
is_stale-stale-requires g c = record { created = tidy_there c.args.experts.now c.tidy.new.self c.args.node c.tidy.ensures }

pub kids-requires : goal.kids-requires
kids-requires g c = record {
  created = tidy_there c.args.experts.now c.tidy.new.self c.args.node c.tidy.ensures;
  tidy = tidy_is c.args.experts.now c.tidy.new.self c.args.node c.tidy.ensures;
}

pub compute_fold-computed-requires-clause-fit : goal.compute_fold-computed-requires-clause-fit
compute_fold-computed-requires-clause-fit g c =
    subst (λ (ns : List NodeId). (values : List Value) → AllZip (ShowsValue c.args.rows.now) ns values → FoldFits c.args.f.now c.args.initial.now values)
    (sym (c.kids.ensures ∙ tidy_kids c.args.experts.now c.tidy.new.self c.args.node c.tidy.ensures)) c.requires.fit

pub clear_stale-requires : goal.clear_stale-requires
clear_stale-requires g c = record { created = tidy_there c.args.experts.now c.tidy.new.self c.args.node c.tidy.ensures }

pub returns-in-Ok-clause-experts : goal.returns-in-Ok-clause-experts
returns-in-Ok-clause-experts g c =
    unmarked c.args.experts.now c.tidy.new.self c.clear_stale.new.self c.args.node c.requires.created c.tidy.ensures c.clear_stale.ensures

pub returns-in-Err-clause-experts : goal.returns-in-Err-clause-experts
returns-in-Err-clause-experts g c = tidy_same c.args.experts.now c.tidy.new.self c.args.node c.requires.created c.tidy.ensures

pub returns-in-Ok-clause-computed : goal.returns-in-Ok-clause-computed
returns-in-Ok-clause-computed g c =
    let P : Bool → List NodeId → Type 0 = λ b ns.
    ComputesCall (folded (g.F.Functions.value c.args.functions.now c.args.f.now) c.args.initial.now) c.args.f.now.sig.gives b c.args.round
    (noted c.args.rows.now c.args.ran.now.items (g.F.Functions.calls c.args.functions.now))
    (noted c.compute_fold-computed.new.rows c.compute_fold-computed.new.ran.items (g.F.Functions.calls c.compute_fold-computed.new.functions))
    c.args.node ns c.in-Ok.outcome (length ns) in
    subst (λ ns. P (is_stale_at c.args.experts.now c.args.node) ns) (c.kids.ensures ∙ tidy_kids c.args.experts.now c.tidy.new.self c.args.node c.tidy.ensures)
    (subst (λ b. P b c.kids.result.now) (c.is_stale-stale.ensures ∙ tidy_stale c.args.experts.now c.tidy.new.self c.args.node c.tidy.ensures) c.in-Ok.ensures.computed)

pub returns-in-Err-clause-wants : goal.returns-in-Err-clause-wants
returns-in-Err-clause-wants g c =
    let P : Bool → List NodeId → Type 0 = λ b ns.
    WantsFollow {T = Outcome} (CallLacks (λ m. b) c.args.round c.args.rows.now (vec_capacity c.args.ran.now) (length c.args.ran.now.items) c.args.node
    c.args.f.now.sig.gives ns) (Err c.in-Err.field-0) (g.F.Functions.wants c.args.functions.now) (g.F.Functions.wants c.compute_fold-computed.new.functions) in
    subst (λ ns. P (is_stale_at c.args.experts.now c.args.node) ns) (c.kids.ensures ∙ tidy_kids c.args.experts.now c.tidy.new.self c.args.node c.tidy.ensures)
    (subst (λ b. P b c.kids.result.now) (c.is_stale-stale.ensures ∙ tidy_stale c.args.experts.now c.tidy.new.self c.args.node c.tidy.ensures) c.in-Err.ensures.wants)
