use Rattle.device_list.proofs.Disks.{image_keeps, link_keeps, reception_keeps, restore_keeps, service_keeps, size_keeps, supply_keeps, taking_sent_keeps, word_keeps, write_keeps}
use Rattle.device_list.proofs.laws.a_disk_keeps_its_sectors.Goals as goal

pub returns-clause-write : goal.returns-clause-write
returns-clause-write c = write_keeps

pub returns-clause-service : goal.returns-clause-service
returns-clause-service c = service_keeps

pub returns-clause-image : goal.returns-clause-image
returns-clause-image c = image_keeps

pub returns-clause-supply : goal.returns-clause-supply
returns-clause-supply c = supply_keeps

pub returns-clause-reception : goal.returns-clause-reception
returns-clause-reception c = reception_keeps

pub returns-clause-taking : goal.returns-clause-taking
returns-clause-taking c = taking_sent_keeps

pub returns-clause-word : goal.returns-clause-word
returns-clause-word c = word_keeps

pub returns-clause-link : goal.returns-clause-link
returns-clause-link c = link_keeps

pub returns-clause-size : goal.returns-clause-size
returns-clause-size c = size_keeps

pub returns-clause-restore : goal.returns-clause-restore
returns-clause-restore c = restore_keeps
