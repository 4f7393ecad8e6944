use Rattle.std.proofs.Common.{◌≡◌, ◌∙◌, ◌-◌, Some, rules, sym}
use Rattle.std.specs.List.{slice_get}
use Rattle.device_list.proofs.Saved.{all_before, got_still, none_before, none_stands, none_there, restored_sound, set_above_in, set_len}
use Rattle.device_list.proofs.list.DeviceList.+restore_first.Goals as goal

pub returns-in_default-get-clause-refused : goal.returns-in_default-get-clause-refused
returns-in_default-get-clause-refused g t c =
    let saved = c.in-Some.ensures.lookup in
    none_there c.args.mem.now c.args.saved.now c.args.self.now c.args.count (search rules) c.in-Some.first.now saved.3.0
    saved.1 c.deref.result.now (c.deref.ensures.value ∙ c.self.view_is) c.in_default-get.ensures.lookup.3

pub returns-in_default-window_restored-clause-refused :
    goal.returns-in_default-window_restored-clause-refused
returns-in_default-window_restored-clause-refused g t c =
    let saved = c.in-Some.ensures.lookup in
    let found = c.in-Some-get.ensures.lookup in
    none_stands c.args.mem.now c.args.saved.now c.args.self.now c.args.count (search rules) c.in-Some.first.now saved.3.0
    saved.1 c.deref.result.now (c.deref.ensures.value ∙ c.self.view_is) c.in-Some-get.device.now found.3.0 found.1
    (sym c.in_default-window_restored.ensures.value)

pub returns-then-not-restore_first-clause-refused :
    goal.returns-then-not-restore_first-clause-refused
returns-then-not-restore_first-clause-refused g t c =
    let saved = c.in-Some.ensures.lookup in
    let found = c.in-Some-get.ensures.lookup in
    none_before c.args.mem.now c.args.saved.now c.args.self.now c.args.count (search rules) c.in-Some.first.now saved.3.0
    saved.1 c.deref.result.now (c.deref.ensures.value ∙ c.self.view_is) c.in-Some-get.device.now found.3.0 found.1
    c.in-Some-window_restored.window (sym c.in-Some-window_restored.ensures.value) c.if-not-restore_first.ensures.refused

pub returns-clause-restored : goal.returns-clause-restored
returns-clause-restored g t c =
    let saved = c.in-Some.ensures.lookup in
    let found = c.in-Some-get.ensures.lookup in
    let seen = c.deref.ensures.value ∙ c.self.view_is in
    let here : slice_get c.self-2.inside.devices.items (c.args.count - 1) ≡ Some c.index_mut.result.now =
    got_still c.deref.result.now c.args.self.now c.restore_first.new.self c.self-2.inside.devices.items
    (c.args.count - 1) c.index_mut.result.now seen found.3.0 c.restore_first.ensures.len c.self-2.view_is
    c.index_mut.ensures.value in
    all_before c.args.mem.now c.args.saved.now c.args.self.now c.args.count (search rules) c.in-Some.first.now saved.3.0
    saved.1 c.deref.result.now seen c.in-Some-get.device.now found.3.0 found.1 c.in-Some-window_restored.window
    (sym c.in-Some-window_restored.ensures.value) c.restore_first.new.self c.self-2.inside.devices.items
    c.index_mut.result.now c.put_window.new.self c.if-not-restore_first.ensures.restored c.self-2.view_is here
    c.put_window.ensures

pub returns-clause-len : goal.returns-clause-len
returns-clause-len g t c =
    set_len c.self-2.inside.devices.items (c.args.count - 1) c.put_window.new.self c.restore_first.new.self
    c.args.self.now c.self-2.view_is c.restore_first.ensures.len

pub returns-clause-above : goal.returns-clause-above
returns-clause-above g t c = λ i le.
    set_above_in c.self-2.inside.devices.items c.restore_first.new.self c.args.self.now c.args.count i
    c.put_window.new.self (search rules) le c.self-2.view_is c.restore_first.ensures.above

pub returns-clause-sound : goal.returns-clause-sound
returns-clause-sound g t c = λ suit sound.
    let saved = c.in-Some.ensures.lookup in
    let found = c.in-Some-get.ensures.lookup in
    let window = c.in-Some-window_restored.ensures in
    let seen = c.deref.ensures.value ∙ c.self.view_is in
    restored_sound c.args.mem.now c.args.saved.now c.args.self.now c.deref.result.now c.restore_first.new.self
    c.self-2.inside.devices.items (c.args.count - 1) c.in-Some.first.now c.in-Some-get.device.now
    c.index_mut.result.now c.put_window.new.self c.in-Some-window_restored.window c.requires.idle suit sound
    (c.restore_first.ensures.sound suit sound) c.self-2.view_is saved.3.0 saved.1 found.3.0 found.1 seen
    (got_still c.deref.result.now c.args.self.now c.restore_first.new.self c.self-2.inside.devices.items
    (c.args.count - 1) c.index_mut.result.now seen found.3.0 c.restore_first.ensures.len c.self-2.view_is
    c.index_mut.ensures.value)
    (c.restore_first.ensures.above (c.args.count - 1) (search rules)) c.put_window.ensures window.kind window.again
    window.sound
