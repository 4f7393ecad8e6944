use Rattle.std.proofs.Common.{rules}
use Rattle.shared_memory.specs.Sightings.{memory}
use Rattle.device_list.proofs.Saved.{fits_more, fits_not}
use Rattle.device_list.proofs.list.raced.+each_fits.Goals as goal

pub returns-then-fits : goal.returns-then-fits
returns-then-fits g t c =
    fits_more (memory (g.M.Shared.sightings c.args.mem.now)) c.args.devices.now _ c.fits.result c.each_fits.result (search rules)
    c.device-item.is c.fits.ensures c.if-fits.true c.each_fits.ensures

pub returns-else-fits : goal.returns-else-fits
returns-else-fits g t c =
    fits_not (memory (g.M.Shared.sightings c.args.mem.now)) c.args.devices.now _ c.fits.result (search rules) c.device-item.is
    c.fits.ensures c.if-fits.false
