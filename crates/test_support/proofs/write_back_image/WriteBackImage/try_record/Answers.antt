use Rattle.std.proofs.Common.{rules}
use Rattle.test_support.proofs.write_back_image.WriteBackImage.try_record.Goals as goal

pub returns-clause-ok : goal.returns-clause-ok
returns-clause-ok g c = record {
  moment = record { bytes = c.in_ok-bytes.bytes; waiting = c.in_ok-waiting.waiting };
  bytes = search rules;
  waiting = search rules;
  last = c.in_ok-push.ensures.items;
}
