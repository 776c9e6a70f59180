use Rattle.std.proofs.Common.{refl, inl, inr}
use Rattle.necessary_graph.specs.Part.{NecessaryPart, part_of}
use Rattle.necessary_graph.proofs.Reaching.{needed_held}
use Rattle.necessary_graph.proofs.Sweeping.{again_swept}
use Rattle.necessary_graph.proofs.sweep.sweep_unheld.Goals as goal

pub sweep-requires : goal.sweep-requires
sweep-requires g c =
    let t : NecessaryPart = part_of c.args.rows.now in record {
      ends = c.requires.ends;
      rises = c.requires.rises;
      there = c.requires.there;
      unneeded = λ n. absurd (let e = c.if-not-is_held.ensures.1 (needed_held t c.args.p n) in cc);
      room = c.requires.room;
    }

pub returns-then-not-is_held : goal.returns-then-not-is_held
returns-then-not-is_held g c = record { swept = c.sweep.ensures.swept; dealt = inr c.sweep.ensures.bare; room = c.sweep.ensures.room }

pub returns-else-not-is_held : goal.returns-else-not-is_held
returns-else-not-is_held g c =
    let t : NecessaryPart = part_of c.args.rows.now in record {
      swept = again_swept (g.L.Leaves.is_leaf c.args.leaves.now) c.args.p t t (λ a. refl) (λ a b. refl) refl refl;
      dealt = inl (c.if-not-is_held.ensures.0 refl);
      room = c.requires.room;
    }
