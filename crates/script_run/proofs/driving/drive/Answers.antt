use Rattle.std.proofs.Common.{◌≡◌, ◌⊎◌, ◌∙◌, sym, subst, ap}
use Rattle.script_io.proofs.Endings.{limit-kept, limit-passed, is_read_fault, is_write_fault}
use Rattle.script_io.specs.Endings.{number_of}
use Rattle.script_run.proofs.driving.drive.Goals as goal

pub returns : goal.returns
returns g c =
    let ending = c.run_lines-ending.result.0 in
    let run = c.run_lines-ending.ensures in
    let status = c.status.ensures in
    record {
      ran = record {
        ran = record { ending = ending; is_status = status; ran = run.ran };
        limit_kept = λ h. limit-kept ending _ _ _ _ run.ran.read (subst (λ n. (n ≡ 0) ⊎ (n ≡ 1)) status h);
        limit_passed = λ h. limit-passed ending _ _ _ _ run.ran.read (sym status ∙ h);
        library = run.library;
        source = record {
          later = run.source.later;
          fault = λ h. run.source.fault (is_read_fault ending (sym status ∙ h));
          unfailed = λ h. run.source.unfailed (λ e. h (status ∙ ap number_of e));
        };
        sink = record {
          later = run.sink.later;
          fault = λ h. run.sink.fault (is_write_fault ending (sym status ∙ h));
          unfailed = λ h. run.sink.unfailed (λ e. h (status ∙ ap number_of e));
        };
      };
      statuses = (ending, status);
    }
