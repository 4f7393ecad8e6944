use Rattle.std.proofs.Common.{◌≡◌, ◌∙◌, ◌≤◌, List, ap, arith, length, subst, sym}
use Rattle.std.specs.Prelude.{IsSome, Some}
use Rattle.device_list.specs.Device.{DeviceState}
use Rattle.device_list.specs.List.{AreSoundDevices}
use Rattle.device_list.specs.Waiting.{refilled_devices}
use Rattle.device_list.proofs.Refilling.{all_still, put_whole, refill_is, refilled_are_alike}
use Rattle.device_list.proofs.list.DeviceList.refill.Goals as goal

-- the slice that was refilled is the list's, whose place what came of it takes
pub returns-in-Some-clause-refilled : goal.returns-in-Some-clause-refilled
returns-in-Some-clause-refilled g c =
    let bytes = c.in-Some.bytes.now in let new = c.refill_each.new.devices in
    let same : c.as_mut_slice.result.now ≡ c.args.self.now = c.as_mut_slice.ensures.value ∙ c.self.view_is in
    let can = subst (λ (ds : List DeviceState). IsSome (refilled_devices (Some bytes) ds)) (sym same)
    (rw c.in-Some.is at c.requires.can) in
    let done = refill_is c.as_mut_slice.result.now new bytes c.refill_each.new.left.left.now c.refill_each.result can
    c.refill_each.ensures in
    let size : length new ≡ c.self.inside.devices.len = c.refill_each.auto.devices ∙ c.as_mut_slice.ensures.len in
    let is = put_whole new c.self.inside.devices.items c.self.inside.devices.len size in
    rw c.in-Some.is (subst (λ (ds : List DeviceState). refilled_devices (Some bytes) ds ≡ Some new) same done
    ∙ ap (λ (ds : List DeviceState). Some ds) (sym is))

pub returns-in-Some-clause-sound : goal.returns-in-Some-clause-sound
returns-in-Some-clause-sound g c = λ m sound.
    let bytes = c.in-Some.bytes.now in let new = c.refill_each.new.devices in
    let same : c.as_mut_slice.result.now ≡ c.args.self.now = c.as_mut_slice.ensures.value ∙ c.self.view_is in
    let can = subst (λ (ds : List DeviceState). IsSome (refilled_devices (Some bytes) ds)) (sym same)
    (rw c.in-Some.is at c.requires.can) in
    let done = refill_is c.as_mut_slice.result.now new bytes c.refill_each.new.left.left.now c.refill_each.result can
    c.refill_each.ensures in
    let size : length new ≡ c.self.inside.devices.len = c.refill_each.auto.devices ∙ c.as_mut_slice.ensures.len in
    let is = put_whole new c.self.inside.devices.items c.self.inside.devices.len size in
    subst (λ (ds : List DeviceState). AreSoundDevices m ds) (sym is)
    (all_still m new c.as_mut_slice.result.now (refilled_are_alike (Some bytes) c.as_mut_slice.result.now new done)
    (subst (λ (ds : List DeviceState). AreSoundDevices m ds) (sym same) sound))

pub invariant_of-self : goal.invariant_of-self
invariant_of-self g c =
    let new = c.refill_each.new.devices in
    let size : length new ≡ c.self.inside.devices.len = c.refill_each.auto.devices ∙ c.as_mut_slice.ensures.len in
    let is = put_whole new c.self.inside.devices.items c.self.inside.devices.len size in
    let old = ap (λ (ds : List DeviceState). length ds) c.as_mut_slice.ensures.value in
    let few : length new ≤ 6 = omega (arith, old, c.refill_each.auto.devices, c.self.invariant) in
    subst (λ (ds : List DeviceState). length ds ≤ 6) (sym is) few
