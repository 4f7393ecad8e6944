use Rattle.std.proofs.Common.{◌∙◌, List, rules, sym, subst}
use Rattle.std.specs.Prelude.{is_ok}
use Rattle.device_list.specs.Device.{DeviceState}
use Rattle.device_list.specs.List.{AreSoundDevices}
use Rattle.device_list.proofs.Saved.{bad_disk, bad_extent, bad_mtu, not_refused, too_many}
use Rattle.device_list.proofs.Sound.{added_sound}
use Rattle.device_list.proofs.list.DeviceList.add.Goals.{in-Ok-push, in-Err}
use Rattle.device_list.proofs.list.DeviceList.add.Goals as goal

pub returns-clause-sound : goal.returns-clause-sound
returns-clause-sound g c = λ m sound.
    added_sound m c.self.inside.devices.items c.push.new.self.items c.in-Ok.device c.args.spec (is_ok c.push.result)
    c.in-Ok.ensures c.push.ensures.items
    (subst (λ (l : List DeviceState). AreSoundDevices m l) (sym c.self.view_is) sound)

pub returns-clause-taken : goal.returns-clause-taken
returns-clause-taken g c = elim c.match-push.branch [
  | in-Ok-push w ↦ rw w.result-is (not_refused c.args.self.now c.args.spare c.args.spec c.len-number.result
      (search rules) (let few = c.if-number-ge-MOST_DEVICES.false in few)
      (sym c.has_bad_mtu.ensures ∙ c.if-has_bad_mtu.false) (sym c.has_bad_disk.ensures ∙ c.if-has_bad_disk.false)
      (sym c.has_bad_extent.ensures ∙ c.if-has_bad_extent.false))
  | in-Err w ↦ rw w.result-is tt
]

pub returns-clause-added : goal.returns-clause-added
returns-clause-added g c = elim c.match-push.branch [
  | in-Ok-push w ↦ rw w.result-is (search rules)
  | in-Err w ↦ rw w.result-is tt
]

pub returns-clause-refused : goal.returns-clause-refused
returns-clause-refused g c = elim c.match-push.branch [
  | in-Ok-push w ↦ rw w.result-is tt
  | in-Err w ↦ rw w.result-is (not_refused c.args.self.now c.args.spare c.args.spec c.len-number.result
      (search rules) (let few = c.if-number-ge-MOST_DEVICES.false in few)
      (sym c.has_bad_mtu.ensures ∙ c.if-has_bad_mtu.false) (sym c.has_bad_disk.ensures ∙ c.if-has_bad_disk.false)
      (sym c.has_bad_extent.ensures ∙ c.if-has_bad_extent.false))
]

pub returns-clause-kept : goal.returns-clause-kept
returns-clause-kept g c = elim c.match-push.branch [
  | in-Ok-push w ↦ rw w.result-is tt
  | in-Err w ↦ rw w.result-is (search rules)
]

pub returns-in_default-clause-refused : goal.returns-in_default-clause-refused
returns-in_default-clause-refused g c =
    not_refused c.args.self.now c.args.spare c.args.spec c.len-number.result (search rules)
    (let few = c.if-number-ge-MOST_DEVICES.false in few) (sym c.has_bad_mtu.ensures ∙ c.if-has_bad_mtu.false)
    (sym c.has_bad_disk.ensures ∙ c.if-has_bad_disk.false) (sym c.has_bad_extent.ensures ∙ c.if-has_bad_extent.false)

pub returns-then-number-ge-MOST_DEVICES-clause-refused :
    goal.returns-then-number-ge-MOST_DEVICES-clause-refused
returns-then-number-ge-MOST_DEVICES-clause-refused g c =
    too_many c.args.self.now c.args.spare c.args.spec c.len-number.result (search rules)
    (let many = c.if-number-ge-MOST_DEVICES.true in many)

pub returns-then-has_bad_mtu-clause-refused : goal.returns-then-has_bad_mtu-clause-refused
returns-then-has_bad_mtu-clause-refused g c =
    bad_mtu c.args.self.now c.args.spare c.args.spec c.len-number.result (search rules)
    (let few = c.if-number-ge-MOST_DEVICES.false in few) (sym c.has_bad_mtu.ensures ∙ c.if-has_bad_mtu.true)

pub returns-then-has_bad_disk-clause-refused : goal.returns-then-has_bad_disk-clause-refused
returns-then-has_bad_disk-clause-refused g c =
    bad_disk c.args.self.now c.args.spare c.args.spec c.len-number.result (search rules)
    (let few = c.if-number-ge-MOST_DEVICES.false in few) (sym c.has_bad_mtu.ensures ∙ c.if-has_bad_mtu.false)
    (sym c.has_bad_disk.ensures ∙ c.if-has_bad_disk.true)

pub returns-then-has_bad_extent-clause-refused : goal.returns-then-has_bad_extent-clause-refused
returns-then-has_bad_extent-clause-refused g c =
    bad_extent c.args.self.now c.args.spare c.args.spec c.len-number.result (search rules)
    (let few = c.if-number-ge-MOST_DEVICES.false in few) (sym c.has_bad_mtu.ensures ∙ c.if-has_bad_mtu.false)
    (sym c.has_bad_disk.ensures ∙ c.if-has_bad_disk.false) (sym c.has_bad_extent.ensures ∙ c.if-has_bad_extent.true)
