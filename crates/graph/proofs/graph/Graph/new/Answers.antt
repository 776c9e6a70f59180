use Rattle.std.proofs.Common.{List, Option, None, sym, ap, subst, arith, ◌∙◌}
use Rattle.inc_terms.specs.Within.{FunctionLaws}
use Rattle.node_arena.proofs.RightSides.{sides_are_lawful}
use Rattle.node_outcomes.specs.Meaning.{Meaning, meaning_of}
use Rattle.graph.specs.Inside.{FitsInside}
use Rattle.observers.specs.declared.observer.Observer.{Observer}
use Rattle.expert_nodes.specs.Experts.{Expert, expert_in}
use Rattle.graph.proofs.Listing.{absent}
use Rattle.graph.proofs.Sound.{ready_built}
use Rattle.graph.proofs.graph.Graph.new.Goals as goal

pub invariant_of-result : goal.invariant_of-result
invariant_of-result g c =
    let M : Meaning = meaning_of g.F.Functions c.args.functions in
    let laws : FunctionLaws M.functions M.known M.ids = sides_are_lawful _ _ _ (g.met.F.Functions.no_reference c.args.functions c.requires.sound)
    (g.met.F.Functions.sides c.args.functions c.requires.sound) in (
      subst (λ (os : List Observer). FitsInside M c.new.result os 0 0 None) (sym c.new-2.ensures.made) (record {
        few = omega arith;
        earlier = omega arith;
        past = omega arith;
        kept = (c.new.ensures.ready M laws).kept;
        built = ready_built M c.new.result (c.new.ensures.ready M laws);
        inside = (c.new.ensures.ready M laws).inside;
        showing = λ o among. absurd among;
        later = λ o among. absurd among;
        unbroken = λ whole. record {
          ready = c.new.ensures.ready M laws;
          roots = c.new.ensures.roots;
          given = λ n among. absurd among;
          shown = λ o x among. absurd among;
        };
      }),
      c.requires.sound,
      record {
        all = λ n r is. absurd (let e = sym (c.new.ensures.empty n) ∙ is in cc);
        scopes = λ b r left f captures is. absurd (let e = sym (c.new.ensures.empty b) ∙ is in cc);
      },
    )

pub returns-clause-marks : goal.returns-clause-marks
returns-clause-marks g c n =
    let M : Meaning = meaning_of g.F.Functions c.args.functions in
    let laws : FunctionLaws M.functions M.known M.ids = sides_are_lawful _ _ _ (g.met.F.Functions.no_reference c.args.functions c.requires.sound)
    (g.met.F.Functions.sides c.args.functions c.requires.sound) in
    ap (λ (e : Option Expert). (expert_in e).stale) (absent c.new.result.arena c.new.result.work.experts n
    (c.new.ensures.ready M laws).kept.work.experts (c.new.ensures.empty n))
