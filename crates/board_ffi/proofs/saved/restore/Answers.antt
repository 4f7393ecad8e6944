use Rattle.board_ffi.proofs.saved.restore.Goals as goal

pub returns-clause-restores : goal.returns-clause-restores
returns-clause-restores c =
    let restored = c.restore.ensures in
    let numbered = c.of_restored.ensures in
    record {
      result = c.restore.result;
      code_is = numbered.number;
      call = restored.call.turn;
      whole = restored.call.whole;
      fault = restored.fault;
      taken = λ saved before after is here there like idle rests.
          let found = restored.taken saved before after is here there like idle rests in
          (numbered.done.1 found.0, found.1);
      missing = (
        λ is. restored.missing.0 (numbered.missing.0 is),
        λ past. numbered.missing.1 (restored.missing.1 past),
      );
      busy = (
        λ is. restored.busy.0 (numbered.busy.0 is),
        λ work. numbered.busy.1 (restored.busy.1 work),
      );
    }
