use Rattle.std.proofs.Common.{◌≡◌, ◌/◌, List, length, ap, subst}
use Rattle.board.specs.declared.spec.SlotSpec.{SlotSpec}
use Rattle.board.specs.Fault.{Refuses}
use Rattle.session.specs.declared.fault.SessionFault.TheVariants.{Board}
use Rattle.session.specs.Session.{slots_of}
use Rattle.board_ffi.specs.Codes.{board_code}
use Rattle.board_ffi.specs.Config.{guests_of}
use Rattle.board_ffi.proofs.Configs.{no_want, refused_told}
use Rattle.board_ffi.proofs.judge.judged.Goals as goal

pub returns-clause-fault : goal.returns-clause-fault
returns-clause-fault c =
    let told = c.args.config.now in
    let sectors = length told.image.now / 512 in
    let fault = c.in-Err.fault in
    let specs : c.deref.result.now ≡ slots_of (guests_of told.slots.now) =
    cc (c.deref.ensures.value, c.in-Ok.ensures) in λ described same.
    refused_told told described same (Board fault) (c.are_lent.ensures.0 c.if-not-are_lent.false)
    (λ budget lasts. record {
      whole = c.are_whole_sectors.ensures.0 c.if-not-are_whole_sectors.false;
      outlets = c.are_outlets.ensures.0 c.if-not-are_outlets.false;
      devices = c.are_devices.ensures.0 c.if-not-are_devices.false;
      image_disks = c.are_image_disks.ensures.0 c.if-not-are_image_disks.false;
      lasts = lasts;
      refused = subst (λ (slots : List SlotSpec). Refuses sectors slots told.cache fault) specs
          (c.in-Err.ensures.fault told.cache);
      other = λ is. no_want sectors c.deref.result.now fault c.in-Err.ensures.fault (ap board_code is);
    })

pub returns-clause-want : goal.returns-clause-want
returns-clause-want c = λ want.
    absurd (no_want (length c.args.config.now.image.now / 512) c.deref.result.now c.in-Err.fault
    c.in-Err.ensures.fault want)
