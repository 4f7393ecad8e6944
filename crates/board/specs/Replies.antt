-- Which replies a slot may give to each event.
use Rattle.std.specs.Prelude.{⊤}
use Rattle.board.specs.declared.event.EventKind.{EventKind}
use Rattle.board.specs.declared.event.EventKind.TheVariants.{Read, Write, MemRead, MemWrite, Input, Resize, Restore, Host, Device}
use Rattle.board.specs.declared.reply.Reply.{Reply}
use Rattle.board.specs.Devices.{MayReplyDevice}
use Rattle.board.specs.declared.reply.Reply.TheVariants.{Value, Done, Bytes, Took, BadRange, BadState, NoMemory, Busy, Idle}

-- where its disk is of the image
abbrev pub MayReplyOverImage : {A : Type 0} → EventKind A → Reply A → Type 0
MayReplyOverImage (Read window offset width) (Value value) = ⊤
MayReplyOverImage (Write window offset width value) Done = ⊤
MayReplyOverImage (Write window offset width value) NoMemory = ⊤
MayReplyOverImage (MemRead addr len) (Bytes bytes) = ⊤
MayReplyOverImage (MemRead addr len) BadRange = ⊤
MayReplyOverImage (MemRead addr len) NoMemory = ⊤
MayReplyOverImage (MemWrite addr bytes) Done = ⊤
MayReplyOverImage (MemWrite addr bytes) BadRange = ⊤
MayReplyOverImage (Input bytes) (Took taken) = ⊤
MayReplyOverImage (Resize cols rows) Done = ⊤
MayReplyOverImage (Restore bytes) Done = ⊤
MayReplyOverImage (Restore bytes) BadState = ⊤
MayReplyOverImage (Restore bytes) Busy = ⊤
MayReplyOverImage (Host said) Idle = ⊤
MayReplyOverImage (Device n what) answer = MayReplyDevice what answer
MayReplyOverImage what answer = ⊥

-- and whoever has it: where the host does, writes may wait too, and what it says is done
abbrev pub MayReply : {A : Type 0} → EventKind A → Reply A → Type 0
MayReply (Write window offset width value) Busy = ⊤
MayReply (Host said) Done = ⊤
MayReply what answer = MayReplyOverImage what answer
