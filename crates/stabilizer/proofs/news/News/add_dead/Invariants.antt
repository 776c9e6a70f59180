use Rattle.std.proofs.Common.{◌≡◌, ◌<◌, ℕ, Some}
use Rattle.std.specs.List.{slice_get}
use Rattle.inc_value.specs.declared.node.NodeId.{NodeId}
use Rattle.stabilizer.specs.Telling.{IsNews, NewsStay}
use Rattle.stabilizer.proofs.news.News.add_dead.Given as goal

-- those at places before this one are news
abbrev pub invariant-loop-place : goal.invariant-loop-place
invariant-loop-place l = record {
  added : (i : ℕ) (n : NodeId) → i < l.place → slice_get l.deaths.nodes i ≡ Some n → IsNews l.self n;
  stay : NewsStay l.initial.self l.self;
}
