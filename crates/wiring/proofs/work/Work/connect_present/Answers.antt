use Rattle.std.proofs.Common.{◌≡◌, ◌∙◌, List, Some, map, subst, sym}
use Rattle.inc_value.specs.declared.node.NodeId.{NodeId}
use Rattle.inc_value.specs.Choice.{Among}
use Rattle.inc_terms.specs.Code.{def_of}
use Rattle.inc_terms.specs.Depend.{kids_of, main}
use Rattle.inc_terms.specs.Graph.{Graph, kids}
use Rattle.node_arena.specs.Arena.{NamesGiven}
use Rattle.wiring.specs.Answers.{WireAnswers}
use Rattle.wiring.specs.Graph.{graph_at}
use Rattle.wiring.specs.Stands.{hand}
use Rattle.wiring.proofs.Handing.{kid_is_given, plain_kids, unfrozen_kids}
use Rattle.wiring.proofs.Linking.{none_if}
use Rattle.wiring.proofs.work.Work.connect_present.Goals as goal
use Rattle.wiring.proofs.work.Work.connect_present.Goals.{in_default-via-in-Freeze+else-is_frozen, in_default-via-in_default}

pub connect_each-requires-in_default-clause-given : goal.connect_each-requires-in_default-clause-given
connect_each-requires-in_default-clause-given c k among =
    let r = c.requires.row in
    kid_is_given c.args.arena.now.given c.args.def.now (subst (NamesGiven c.args.arena.now.given) r.2 (c.requires.kept.sound.names c.args.p.node r.0 r.1)) k
    (subst (λ (xs : List NodeId). Among k xs) c.kids.ensures among)

-- the children are those that the node lists
module _ (c : goal.After-connect_each-in_default) where
  abbrev G : Graph
  G = graph_at c.args.arena.now c.args.self.now

  listed : kids_of G c.args.p.node (def_of c.args.def.now) ≡ kids (def_of c.args.def.now)
  listed = elim c.in_default.branch [
    | in_default-via-in-Freeze+else-is_frozen w ↦ unfrozen_kids G c.args.p.node c.args.def.now _ _ w.in-Freeze.is
        (none_if (G.frozen c.args.p.node) (sym w.is_frozen.ensures ∙ w.if-is_frozen.false))
    | in_default-via-in_default w ↦ plain_kids G c.args.p.node c.args.def.now w.in_default.not-Expert w.in_default.not-Freeze
  ]

pub returns-in_default : goal.returns-in_default
returns-in_default c =
    subst (λ (xs : List NodeId). WireAnswers c.args.arena.now c.args.self.now c.connect_each-in_default.new.self (Some (hand c.args.p (map main xs)))
    c.connect_each-in_default.result) (c.kids.ensures ∙ sym (listed c)) c.connect_each-in_default.ensures
