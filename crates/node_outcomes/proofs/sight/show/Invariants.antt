use Rattle.std.proofs.Common.{◌≡◌, length}
use Rattle.std.specs.List.{AllZip}
use Rattle.node_outcomes.specs.Computing.{ShowsValue}
use Rattle.node_outcomes.proofs.sight.show.Given as goal

-- as many are left of both, and all nodes show the values exactly where those left do
abbrev pub invariant-loop-node : goal.invariant-loop-node
invariant-loop-node l =
    (length l.node-iterator.a.rest.now ≡ length l.node-iterator.b.rest.now)
    × (AllZip (ShowsValue l.rows) l.node-iterator.a.rest.now l.node-iterator.b.rest.now → AllZip (ShowsValue l.rows) l.nodes l.values)
    × (AllZip (ShowsValue l.rows) l.nodes l.values → AllZip (ShowsValue l.rows) l.node-iterator.a.rest.now l.node-iterator.b.rest.now)
