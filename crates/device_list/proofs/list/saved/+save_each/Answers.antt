use Rattle.std.proofs.Common.{◌∙◌, ◌++◌, List, ap, sym}
use Rattle.device_list.specs.Saved.{saved_devices}
use Rattle.mmio_window.specs.Saved.{window_restored}
use Rattle.snapshot.specs.declared.saved.SavedDevice.{SavedDevice}
use Rattle.device_list.specs.Model.{kind_of}
use Rattle.device_list.proofs.Saved.{behind_first, restores_more, restores_none, saved_more, saved_none}
use Rattle.device_list.proofs.list.saved.+save_each.Goals as goal

pub returns-in-len1-up-clause-back : goal.returns-in-len1-up-clause-back
returns-in-len1-up-clause-back g t c = λ m sound.
    restores_more m c.args.devices.now c.device-item.result c.in-len1-up.len_at_least c.device-item.is
    (λ here. ap (λ (s : SavedDevice). window_restored (kind_of c.device-item.result.model) m s.window)
    (sym c.saved.ensures.value) ∙ c.saved.ensures.back m here)
    (c.save_each.ensures.back m) sound

pub returns-in-len1-up-clause-value : goal.returns-in-len1-up-clause-value
returns-in-len1-up-clause-value g t c =
    c.save_each.ensures.value
    ∙ (ap (λ (out : List SavedDevice). out ++ saved_devices (behind_first c.args.devices.now)) c.push.ensures.items
    ∙ saved_more c.args.out.now.items c.args.devices.now c.device-item.result c.saved.result
    c.in-len1-up.len_at_least c.device-item.is c.saved.ensures.value)

pub returns-in_default-clause-value : goal.returns-in_default-clause-value
returns-in_default-clause-value g t c =
    saved_none c.args.out.now.items c.args.devices.now c.in_default.len_below

pub returns-in_default-clause-back : goal.returns-in_default-clause-back
returns-in_default-clause-back g t c = λ m sound. restores_none m c.args.devices.now c.in_default.len_below
