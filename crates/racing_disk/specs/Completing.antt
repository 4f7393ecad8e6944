-- A chain in flight that is completed and given back, while its guest may write.
use Rattle.std.specs.Prelude.{◌≡◌, ℕ, ◌-◌, Bool, true, Some, [], ◌∷◌}
use Rattle.chain.specs.Service.{Entry}
use Rattle.shared_memory.specs.Sightings.{Sightings}
use Rattle.chain_handler.specs.Device.{StoresAtOnce}
use Rattle.racing_service.specs.Queue.{RacingKind}
use Rattle.block_device.specs.declared.operation.OperationKind.{OperationKind}
use Rattle.block_device.specs.declared.operation.Verdict.{Verdict}
use Rattle.block_device.specs.Asking.{found_by, status_by, used_by}
use Rattle.block_device.specs.Request.{code_of}

-- The status of the chain, at this address behind all other writable places, was stored as the host says, and this is its
-- used length.
pub record IsCompleted (races : Bool) (old new : Sightings) (status writable : ℕ) (kind : OperationKind) (verdict : Verdict)
    (len : ℕ) : Type 0 where
  pub stored : StoresAtOnce races old new (status ∷ []) (Some (code_of (status_by verdict)) ∷ [])
  pub len_is : len ≡ used_by (found_by kind verdict (writable - 1)) writable

module _ {Ring : Type 0} (queues : RacingKind Ring) where
  -- and its used entry was stored behind that
  pub record IsGivenBack (races : Bool) (old new : Sightings) (status writable : ℕ) (kind : OperationKind) (verdict : Verdict)
      (entry : Entry) (len : ℕ) (before after : Ring) : Type 0 where
    pub done : Sightings
    pub completed : IsCompleted races old done status writable kind verdict len
    pub given : queues.IsGiven races done new before entry len true
    pub landed : after ≡ queues.still.landed before entry
