-- Each guest of a session is alone.
use Rattle.session.proofs.Alone.{see_alike}
use Rattle.session.proofs.Made.{accepted_alone, devices_alone, image_disks_alone, made_alone, made_alone_unlimited}
use Rattle.session.proofs.laws.each_guest_is_alone.Goals as goal

pub returns-clause-alone : goal.returns-clause-alone
returns-clause-alone g c = made_alone

pub returns-clause-without : goal.returns-clause-without
returns-clause-without g c = made_alone_unlimited

pub returns-clause-there : goal.returns-clause-there
returns-clause-there g c = accepted_alone

pub returns-clause-devices : goal.returns-clause-devices
returns-clause-devices g c = devices_alone

pub returns-clause-image_disks : goal.returns-clause-image_disks
returns-clause-image_disks g c = image_disks_alone

pub returns-clause-alike : goal.returns-clause-alike
returns-clause-alike g c = see_alike
