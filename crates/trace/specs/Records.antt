-- The one text of some records: a line for each, ended by a line feed.
use Rattle.std.specs.Prelude.{ℕ, List, [], ◌∷◌, ◌++◌, codes, map}
use Rattle.board.specs.declared.reply.Record.{Record}
use Rattle.board.specs.declared.reply.Reply.{Reply}
use Rattle.board.specs.declared.reply.Reply.TheVariants as reply
use Rattle.hexadecimal.specs.Spelling.{digit, num, fixed, bytes}
use Rattle.trace.specs.Text.{line, joined}

-- what was answered: a value by eight digits, bytes, how many of them were taken, or a word
abbrev pub reply_field : {A : Type 0} → Reply A → List ℕ
reply_field (reply.Value v) = codes "v:" ++ fixed 8 v
reply_field reply.Done = codes "done"
reply_field (reply.Bytes bs) = codes "b:" ++ bytes bs
reply_field (reply.Took n) = codes "took:" ++ num n
reply_field reply.BadSlot = codes "badslot"
reply_field reply.BadRange = codes "badrange"
reply_field reply.BadState = codes "badstate"
reply_field reply.BadDevice = codes "baddevice"
reply_field reply.Busy = codes "busy"
reply_field reply.Idle = codes "idle"
reply_field reply.NoMemory = codes "nomem"

-- the slot, the reply, the console output, and InterruptStatus of both windows by one digit each
abbrev pub record_fields : {A : Type 0} → Record A → List (List ℕ)
record_fields entry =
    num entry.slot ∷ reply_field entry.reply ∷ bytes entry.output ∷ (digit entry.block_irq ∷ [])
    ∷ (digit entry.console_irq ∷ []) ∷ []

-- a record by its parts, of which the last are the block window's word and the console window's
abbrev pub entry_of : {A : Type 0} → ℕ → Reply A → List ℕ → ℕ × ℕ → Record A
entry_of slot reply output words =
    record { slot = slot; reply = reply; output = output; block_irq = words.0; console_irq = words.1 }

unfoldable pub record_line : {A : Type 0} → Record A → List ℕ
record_line entry = line (record_fields entry)

-- the line of a record without output whose reply is spelled so
unfoldable pub quiet_line : ℕ → List ℕ → ℕ × ℕ → List ℕ
quiet_line slot reply words =
    line (num slot ∷ reply ∷ bytes [] ∷ (digit words.0 ∷ []) ∷ (digit words.1 ∷ []) ∷ [])

-- the line of a read of memory that gave these bytes
unfoldable pub read_line : ℕ → List ℕ → ℕ × ℕ → List ℕ
read_line slot bs words =
    line (num slot ∷ (codes "b:" ++ bytes bs) ∷ bytes [] ∷ (digit words.0 ∷ []) ∷ (digit words.1 ∷ []) ∷ [])

-- the text of some records
abbrev pub records_text : {A : Type 0} → List (Record A) → List ℕ
records_text records = joined (map record_line records)
