use Rattle.std.proofs.Common.{◌-◌, refl, rules, sym}
use Rattle.device_list.proofs.Saved.{all_stand, none_before, none_saved, none_stands, none_there, there}
use Rattle.device_list.proofs.Standing.{one_stands}
use Rattle.device_list.proofs.list.saved.+can_stand.Goals as goal

pub returns-in_default-clause-fall : goal.returns-in_default-clause-fall
returns-in_default-clause-fall g t c =
    none_saved c.args.mem.now c.args.saved.now c.args.devices.now c.args.count (search rules)
    c.in_default.ensures.lookup.3

pub returns-in_default-get-clause-fall : goal.returns-in_default-get-clause-fall
returns-in_default-get-clause-fall g t c =
    let saved = c.in-Some.ensures.lookup in
    none_there c.args.mem.now c.args.saved.now c.args.devices.now c.args.count (search rules) c.in-Some.first.now
    saved.3.0 saved.1 c.args.devices.now refl c.in_default-get.ensures.lookup.3

pub returns-in_default-window_restored-clause-fall : goal.returns-in_default-window_restored-clause-fall
returns-in_default-window_restored-clause-fall g t c =
    let saved = c.in-Some.ensures.lookup in
    let found = c.in-Some-get.ensures.lookup in
    none_stands c.args.mem.now c.args.saved.now c.args.devices.now c.args.count (search rules) c.in-Some.first.now
    saved.3.0 saved.1 c.args.devices.now refl c.in-Some-get.device.now found.3.0 found.1
    (sym c.in_default-window_restored.ensures.value)

pub returns-then-not-can_stand-clause-fall : goal.returns-then-not-can_stand-clause-fall
returns-then-not-can_stand-clause-fall g t c =
    let saved = c.in-Some.ensures.lookup in
    let found = c.in-Some-get.ensures.lookup in
    none_before c.args.mem.now c.args.saved.now c.args.devices.now c.args.count (search rules) c.in-Some.first.now
    saved.3.0 saved.1 c.args.devices.now refl c.in-Some-get.device.now found.3.0 found.1
    c.in-Some-window_restored.field-0 (sym c.in-Some-window_restored.ensures.value) c.if-not-can_stand.ensures.fall

pub returns-clause-stand : goal.returns-clause-stand
returns-clause-stand g t c =
    let saved = c.in-Some.ensures.lookup in
    let found = c.in-Some-get.ensures.lookup in
    let there = there c.args.mem.now c.args.saved.now c.args.devices.now c.args.count (search rules) c.in-Some.first.now
    saved.3.0 saved.1 c.args.devices.now refl c.in-Some-get.device.now found.3.0 found.1 in
    all_stand c.args.mem.now c.args.saved.now c.args.devices.now c.args.count (search rules) c.in-Some.first.now
    saved.3.0 saved.1 c.args.devices.now refl c.in-Some-get.device.now found.3.0 found.1
    c.in-Some-window_restored.field-0 (sym c.in-Some-window_restored.ensures.value)
    (one_stands c.args.mem.now (c.args.count - 1) c.args.saved.now c.args.devices.now c.in-Some-get.device.now
    c.in-Some-window_restored.field-0 c.if-not-can_stand.ensures.stand there)
