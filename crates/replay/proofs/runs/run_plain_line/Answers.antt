use Rattle.std.proofs.Common.{rules, arith}
use Rattle.std.proofs.lemmas.Grind.{common_steps}
use Rattle.replay.proofs.runs.run_plain_line.Goals as goal

pub run_event-requires-in-114-clause-room : goal.run_event-requires-in-114-clause-room
run_event-requires-in-114-clause-room g c =
    let room = c.requires.room c.take_read-parsed.result.0 c.take_read-parsed.result.1.now in
    let taken = c.take_read-parsed.ensures in
    first_of (search (rules, room, taken), grind (arith, common_steps, room, taken))

pub run_event-requires-in-119-clause-room : goal.run_event-requires-in-119-clause-room
run_event-requires-in-119-clause-room g c =
    let room = c.requires.room c.take_write-parsed.result.0 c.take_write-parsed.result.1.now in
    let taken = c.take_write-parsed.ensures in
    first_of (search (rules, room, taken), grind (arith, common_steps, room, taken))

pub run_event-requires-clause-room : goal.run_event-requires-clause-room
run_event-requires-clause-room g c =
    let room = c.requires.room c.take_mem_write-parsed.result.0 c.take_mem_write-parsed.result.1.now in
    let taken = c.take_mem_write-parsed.ensures in
    first_of (search (rules, room, taken), grind (arith, common_steps, room, taken))

pub run_event-requires-in-105-clause-room : goal.run_event-requires-in-105-clause-room
run_event-requires-in-105-clause-room g c =
    let room = c.requires.room c.take_input-parsed.result.0 c.take_input-parsed.result.1.now in
    let taken = c.take_input-parsed.ensures in
    first_of (search (rules, room, taken), grind (arith, common_steps, room, taken))
