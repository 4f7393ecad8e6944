use Rattle.std.proofs.Common.{◌≡◌, rules}
use Rattle.test_support.proofs.recorded_file.RecordedFile.record.Goals as goal

pub returns-clause-ok : goal.returns-clause-ok
returns-clause-ok c =
    let same : c.in_ok-to_vec.field-0.items ≡ c.args.self.now.file.bytes.items = search rules in
    (c.in_ok-to_vec.field-0, same, c.in_ok-push.ensures.items)
