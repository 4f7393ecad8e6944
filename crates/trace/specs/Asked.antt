-- The records of a hosted trace: each has a sixth field, the operations that began with its event.
use Rattle.std.specs.Prelude.{ℕ, Bool, true, false, List, [], ◌∷◌, ◌++◌, Option, None, Some, codes}
use Rattle.std.specs.List.{flat_map, list_any}
use Rattle.chain.specs.declared.segment.Segment.{Segment}
use Rattle.block_device.specs.declared.operation.Operation.{Operation}
use Rattle.block_device.specs.declared.operation.OperationKind.{OperationKind}
use Rattle.block_device.specs.declared.operation.OperationKind.TheVariants.{In, Out, Flush, Zeroes}
use Rattle.board.specs.declared.reply.Record.{Record}
use Rattle.board.specs.declared.spec.Backing.{Backing}
use Rattle.board.specs.declared.spec.Backing.TheVariants.{Image, Host}
use Rattle.board.specs.declared.spec.SlotSpec.{SlotSpec}
use Rattle.hexadecimal.specs.Spelling.{num}
use Rattle.trace.specs.Records.{record_fields}
use Rattle.trace.specs.Text.{line}

-- a trace is hosted where some slot's disk is the host's
abbrev pub is_host : Backing → Bool
is_host Image = false
is_host (Host depth) = true

abbrev pub is_hosted : List SlotSpec → Bool
is_hosted slots = list_any (λ slot. is_host slot.backing) slots

-- what the host is asked to do, and whether it has to be on the medium before it is done
abbrev pub kind_field : OperationKind → List ℕ
kind_field In = codes "in"
kind_field Out = codes "out"
kind_field Flush = codes "flush"
kind_field Zeroes = codes "zeroes"

abbrev pub stable_mark : Bool → List ℕ
stable_mark false = []
stable_mark true = codes "-stable"

-- where its bytes lie: each run as address and length with `+` (43) between them, and `,` (44) between two
-- runs
abbrev pub run_field : Segment → List ℕ
run_field run = num run.addr ++ 43 ∷ num run.len

-- a run behind another one
abbrev pub other_run : Segment → List ℕ
other_run run = 44 ∷ run_field run

abbrev pub runs_field : List Segment → List ℕ
runs_field [] = codes "-"
runs_field (run ∷ runs) = run_field run ++ flat_map other_run runs

-- kind, start, length and runs, with `:` (58) between them
abbrev pub operation_field : Operation → List Segment → List ℕ
operation_field o runs =
    kind_field o.kind ++ (stable_mark o.stable
    ++ 58 ∷ (num o.start ++ 58 ∷ (num o.len ++ 58 ∷ runs_field runs)))

-- an operation that began: of a further disk its number, its tag, and where its bytes lie
pub record Begun : Type 0 where
  pub device : Option ℕ
  pub tag : ℕ
  pub operation : Operation
  pub runs : List Segment

-- what stands before the tag: of a further disk its number and `/` (47), and nothing of the slot's own
abbrev pub device_mark : Option ℕ → List ℕ
device_mark None = []
device_mark (Some n) = num n ++ 47 ∷ []

-- the tag and the operation, with `=` (61) between them
abbrev pub begun_field : Begun → List ℕ
begun_field one = device_mark one.device ++ (num one.tag ++ 61 ∷ operation_field one.operation one.runs)

-- what stands before it: behind another one a `;` (59)
abbrev pub sign_before : Bool → List ℕ
sign_before true = []
sign_before false = 59 ∷ []

abbrev pub other_begun : Begun → List ℕ
other_begun one = sign_before false ++ begun_field one

-- the operations that began with an event, or none
abbrev pub asked_field : List Begun → List ℕ
asked_field [] = codes "-"
asked_field (one ∷ others) = begun_field one ++ flat_map other_begun others

-- what stands at its end: a `-` where none began
abbrev pub none_mark : Bool → List ℕ
none_mark true = codes "-"
none_mark false = []

-- a record with them
unfoldable pub asked_line : {A : Type 0} → Record A → List Begun → List ℕ
asked_line entry asked = line (record_fields entry ++ asked_field asked ∷ [])
