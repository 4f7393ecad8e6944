use Rattle.racing_values.proofs.Alone.{header_steady, header_read}
use Rattle.racing_values.proofs.the_header_of_an_out_to_sector_5_is_steady.Goals as goal

pub returns-clause-steady : goal.returns-clause-steady
returns-clause-steady c = header_steady

pub returns-clause-header : goal.returns-clause-header
returns-clause-header c = header_read
