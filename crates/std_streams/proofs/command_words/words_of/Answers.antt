use Rattle.std.proofs.Common.{map, string_bytes, ap, sym, ◌∙◌}
use Rattle.std.specs.Vec.Iter.{into_iter_items, into_iter_len}
use Rattle.std.proofs.lemmas.Iterator.Adapters.{YieldsList-from_vec}
use Rattle.std.proofs.lemmas.List.{map-id}
use Rattle.std.proofs.lemmas.Iterator.Consumers.{YieldsList-end}
use Rattle.std_streams.proofs.command_words.words_of.Goals as goal

pub returns : goal.returns
returns c =
    let same = c.into_iter-arg-iterator.ensures.into_iter_gives in
    let yields = YieldsList-from_vec {s = c.into_iter-arg-iterator.result} (into_iter_items c.args.args) (ap into_iter_items same) (ap into_iter_len same ∙ c.args.args.rest.ok.0) in
    let all = YieldsList-end yields c.loop-arg.yielded _ c.loop-arg.yielded_by _ c.next.new.self c.in-None.is c.next.ensures.steps in
    record { words = c.loop-arg.invariant ∙ ap (map string_bytes) (sym (map-id c.loop-arg.yielded) ∙ all.0) }
