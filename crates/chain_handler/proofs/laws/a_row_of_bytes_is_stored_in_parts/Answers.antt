use Rattle.shared_memory.proofs.Bytes.{each_join}
use Rattle.chain_handler.proofs.Rows.{byte_at_once, each_some, first_some, once_some}
use Rattle.chain_handler.proofs.laws.a_row_of_bytes_is_stored_in_parts.Goals as goal

pub returns-clause-byte : goal.returns-clause-byte
returns-clause-byte c = byte_at_once

pub returns-clause-joined : goal.returns-clause-joined
returns-clause-joined c = each_join

pub returns-clause-once : goal.returns-clause-once
returns-clause-once c = once_some

pub returns-clause-behind : goal.returns-clause-behind
returns-clause-behind c = each_some

pub returns-clause-first : goal.returns-clause-first
returns-clause-first c = first_some
