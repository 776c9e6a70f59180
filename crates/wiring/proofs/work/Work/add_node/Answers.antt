use Rattle.std.proofs.Common.{sym, subst, ◌∙◌}
use Rattle.std.proofs.lemmas.Result.{on_ok_weaker}
use Rattle.inc_value.specs.Choice.{Among}
use Rattle.inc_terms.specs.Code.{def_of}
use Rattle.link_table.proofs.Lists.{on_err}
use Rattle.node_outcomes.specs.Progress.{new_row}
use Rattle.wiring.specs.declared.work.Work.{Work}
use Rattle.wiring.proofs.Placing.{no_expert_added, one_point, two_points, listed_pair, listed_alone}
use Rattle.wiring.proofs.work.Work.add_node.Goals as goal

pub returns-in-None-clause-added : goal.returns-in-None-clause-added
returns-in-None-clause-added c = on_ok_weaker c.add_single.result (λ added. (
  λ part. c.height_over-height-in-None.result,
  one_point c.args.self.now.graph.heights c.add_single.new.self.graph.heights c.args.node (def_of c.args.def.now) c.height_over-height-in-None.result
      (sym c.subject.ensures ∙ c.in-None.is)
      added c.requires.no_change.0,
)) c.add_single.ensures.added

pub returns-in-Some-clause-added : goal.returns-in-Some-clause-added
returns-in-Some-clause-added c = on_ok_weaker c.add_pair.result (λ added. (
  added.0,
  two_points c.args.self.now.graph.heights c.add_pair.new.self.graph.heights c.args.node c.in-Some.subject (def_of c.args.def.now) added.0
      (sym c.subject.ensures ∙ c.in-Some.is) added.1,
)) c.add_pair.ensures.added

pub returns-in-None-clause-pairs : goal.returns-in-None-clause-pairs
returns-in-None-clause-pairs c = on_ok_weaker c.add_single.result (λ added n who among.
    subst (λ (w : Work). Among n w.pairs.nodes) (sym c.add_single.ensures.rest)
    (listed_alone _ c.args.self.now.pairs.nodes c.args.node n (sym c.subject.ensures ∙ c.in-None.is) among)) c.add_single.ensures.added

pub returns-in-Some-clause-pairs : goal.returns-in-Some-clause-pairs
returns-in-Some-clause-pairs c = on_ok_weaker c.add_pair.result (λ pairs n who among.
    listed_pair _ c.in-Some.subject c.args.self.now.pairs.nodes c.add_pair.new.self.pairs.nodes c.args.arena.now c.args.node
    (sym c.subject.ensures ∙ c.in-Some.is) pairs n who among) c.add_pair.ensures.pairs

pub returns-in-None-clause-rows : goal.returns-in-None-clause-rows
returns-in-None-clause-rows c = on_ok_weaker c.add_single.result (λ row.
    one_point c.args.self.now.rows c.add_single.new.self.rows c.args.node (def_of c.args.def.now) (new_row (def_of c.args.def.now)) (sym c.subject.ensures ∙ c.in-None.is)
    row c.requires.no_change.1) c.add_single.ensures.row

pub returns-in-Some-clause-rows : goal.returns-in-Some-clause-rows
returns-in-Some-clause-rows c = on_ok_weaker c.add_pair.result (λ rows.
    two_points c.args.self.now.rows c.add_pair.new.self.rows c.args.node c.in-Some.subject (def_of c.args.def.now) (λ part. (new_row (def_of c.args.def.now)))
    (sym c.subject.ensures ∙ c.in-Some.is) rows) c.add_pair.ensures.rows

pub returns-in-None-clause-err_pairs : goal.returns-in-None-clause-err_pairs
returns-in-None-clause-err_pairs c = on_err c.add_single.result (λ n live listed. subst (λ (w : Work). Among n w.pairs.nodes) (sym c.add_single.ensures.rest) listed)

pub returns-in-None-clause-err_fewer_pairs : goal.returns-in-None-clause-err_fewer_pairs
returns-in-None-clause-err_fewer_pairs c = on_err c.add_single.result (λ n listed. subst (λ (w : Work). Among n w.pairs.nodes) c.add_single.ensures.rest listed)

pub returns-in-Some-clause-experts : goal.returns-in-Some-clause-experts
returns-in-Some-clause-experts c = on_ok_weaker c.add_pair.result (λ added.
    no_expert_added (def_of c.args.def.now) c.args.self.now.experts c.add_pair.new.self.experts c.args.node c.in-Some.subject
    (sym c.subject.ensures ∙ c.in-Some.is) c.add_pair.ensures.experts) c.add_pair.ensures.added

pub returns-in-Some-clause-err_experts : goal.returns-in-Some-clause-err_experts
returns-in-Some-clause-err_experts c = on_err c.add_pair.result c.add_pair.ensures.experts
