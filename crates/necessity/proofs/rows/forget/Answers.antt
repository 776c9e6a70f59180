use Rattle.necessity.proofs.Idle.{row_gone}
use Rattle.necessity.proofs.Starts.{needs_kept, rest_forgets}
use Rattle.necessity.proofs.rows.forget.Goals as goal

pub returns-then-is_idle : goal.returns-then-is_idle
returns-then-is_idle c =
    let l = c.args.links.now in
    let m = c.args.rows.now in
    let new = c.remove-row.new.self in
    let p = c.args.p in
    let idle = c.is_idle.ensures.0 c.if-is_idle.true in
    let off = c.remove-row.ensures.changes in
    record {
      at_rest = rest_forgets l m new p c.requires.at_rest idle.no_kids idle.no_readers idle.no_root off;
      needs = needs_kept l m new p c.requires.at_rest idle.no_kids idle.no_readers idle.no_root off;
      gone = λ h. off.changed;
      rows = row_gone m new p off;
    }
