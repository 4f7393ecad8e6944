use Rattle.std.proofs.Common.{◌≡◌, ◌+◌, ◌∙◌, length, ap, refl, subst, sym}
use Rattle.sector_cache.specs.Stop.{DiffersWithin}
use Rattle.test_support.proofs.Recorded.{recorded, shown}
use Rattle.test_support.proofs.MemoryFiles.{failed_to_write}
use Rattle.test_support.proofs.recorded_file.RecordedFileBackingFile.write_to.Goals as goal

pub returns-in_default-clause-put : goal.returns-in_default-clause-put
returns-in_default-clause-put c =
    failed_to_write c.args.self.now.file.bytes.items c.record.new.self.file.bytes.items c.args.from.now
    c.args.at 0 refl (ap (λ f. f.bytes.items) c.record.ensures.file)

pub returns-clause-touches : goal.returns-clause-touches
returns-clause-touches c =
    let end = c.args.at + length c.args.from.now in
    let past = c.in-Ok.ensures.ok in
    let old = c.args.self.now.file.bytes.items in
    let new = c.write_to.new.self.bytes.items in
    recorded (λ v left. left ≡ v.items) c.args.at end (λ left. left ≡ old) (λ left. left ≡ new)
    (λ left now. record {
      whole = old;
      may = refl;
      within = subst (DiffersWithin c.args.at end old) (sym now) (subst (λ old. DiffersWithin c.args.at end old new) (ap (λ f. f.bytes.items) c.record.ensures.file)
          (shown c.args.at end _ _ c.record.new.self.file.bytes.items new _ _ c.write_to.ensures.touches));
    })
    c.args.self.now.past.items c.record.new.self.past.items past.0
    (λ left now. now ∙ sym past.1) (λ left was. was ∙ past.1) past.2
