use Rattle.std.proofs.Common.{refl}
use Rattle.session.proofs.Failing.{on_ok_from}
use Rattle.session.proofs.answer.write_notice.Goals as goal

pub returns-in-Init-clause-ok : goal.returns-in-Init-clause-ok
returns-in-Init-clause-ok g c = on_ok_from c.write_init.result c.write_init.ensures.ok (λ print. (
  _,
  record {
    observer = c.observer_name-name.result.now;
    is_observer = c.observer_name-name.ensures;
    told = rw c.in-Init.is (c.referred_name.result.now, c.referred_name.ensures, refl);
  },
  print,
))

pub returns-in-Change-clause-ok : goal.returns-in-Change-clause-ok
returns-in-Change-clause-ok g c = on_ok_from c.write_change.result c.write_change.ensures.ok (λ print. (
  _,
  record {
    observer = c.observer_name-name.result.now;
    is_observer = c.observer_name-name.ensures;
    told = rw c.in-Change.is (
      c.referred_name-in-Change.result.now,
      c.referred_name-in-Change-2.result.now,
      c.referred_name-in-Change.ensures,
      c.referred_name-in-Change-2.ensures,
      refl,
    );
  },
  print,
))

pub returns-in-Invalid-clause-ok : goal.returns-in-Invalid-clause-ok
returns-in-Invalid-clause-ok g c = on_ok_from c.write_invalid.result c.write_invalid.ensures.ok (λ print. (
  _,
  record { observer = c.observer_name-name.result.now; is_observer = c.observer_name-name.ensures; told = rw c.in-Invalid.is refl },
  print,
))
