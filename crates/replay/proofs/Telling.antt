-- Runs whose records go out as text, one after another.
use Rattle.std.proofs.Common.{◌≡◌, ℕ, List, [], ◌∷◌, ◌++◌, Option, None, Some, length, map, take, Result, Ok, Err, refl, sym, ap, subst, ◌∙◌, append-nil, arith, Bool, false, ◌⊎◌, inl, inr, ◌↔◌, IsTrue}
use Rattle.std.proofs.lemmas.List.{map-append, take_all}
use Rattle.std.specs.Io.KnownBytes.{Appends, Keeps}
use Rattle.sector_cache.specs.Disk.{Disk}
use Rattle.board.specs.declared.event.Event.{Event}
use Rattle.board.specs.declared.reply.Record.{Record}
use Rattle.board.specs.declared.spec.SlotSpec.{SlotSpec}
use Rattle.board.specs.Image.{Tells}
use Rattle.board.specs.Line.{IsLine, IsRun, Move, records_of}
use Rattle.board.specs.Slot.{opened}
use Rattle.board.specs.World.{BoardState, Step, World, world_of}
use Rattle.board.proofs.Runs.{run_of}
use Rattle.board.proofs.Steps.{lines_join}
use Rattle.trace.specs.Asked.{is_hosted}
use Rattle.trace.specs.Sends.{AppendsFront, Sends}
use Rattle.trace.specs.Text.{joined}
use Rattle.trace.proofs.Passing.{sends_more, sends_none, sends_same, sent_all, sent_front}
use Rattle.trace.proofs.Printed.{joined_append, joined_none}
use Rattle.replay.specs.declared.fault.ReplayFault.{ReplayFault}
use Rattle.replay.specs.declared.fault.ReplayFault.TheVariants.{Write, NoMemory}
use Rattle.replay.specs.Replay.{AfterRun, Recorded, RunsOn}
use Rattle.replay.specs.Running.{AfterLines}
use Rattle.replay.specs.Telling.{LineTelling, SendsRun, Told, records_in, told_along, told_by, told_line, told_text}
use Rattle.replay.proofs.RunLemmas.{runs_on}

-- ---- what is told

-- what a line told are its records, and what began
told_records : {A : Type 0} (old : World) (moves : List (Move A))
    → records_in (told_along old moves) ≡ records_of moves
told_records old [] = refl
told_records old (move ∷ moves) =
    ap (λ (rs : List (Record _)). move.written ∷ rs) (told_records move.after moves)

told_joined : {A : Type 0} (old mid : World) (xs ys : List (Move A)) → IsLine old xs mid
    → told_along old (xs ++ ys) ≡ told_along old xs ++ told_along mid ys
told_joined old mid [] ys line = ap (λ (w : World). told_along w ys) (sym line)
told_joined old mid (x ∷ xs) ys line =
    ap (λ (ts : List (Told _)). told_by old x ∷ ts) (told_joined x.after mid xs ys line.1)

-- a line that told this is a run of its records
pub telling_run : {A : Type 0} (old new : World) (events : List (Event A)) (told : List (Told A))
    → LineTelling old new events told → IsRun old new events [] (records_in told)
telling_run old new events told it =
    run_of old new events [] (records_in told) it.moves it.line it.events_are
    (ap (λ (ts : List (Told _)). records_in ts) it.told_are ∙ told_records old it.moves)

telling_none : {A : Type 0} (world : World) → LineTelling {A = A} world world [] []
telling_none world = record { moves = []; line = refl; events_are = refl; told_are = refl }

telling_join : {A : Type 0} (old mid new : World) (events more : List (Event A)) (told others : List (Told A))
    → LineTelling old mid events told → LineTelling mid new more others
    → LineTelling old new (events ++ more) (told ++ others)
telling_join {A} old mid new events more told others p q = record {
  moves = p.moves ++ q.moves;
  line =
      lines_join (λ (world : World) (move : Move A). Step world move.event move.written move.after)
      (λ (move : Move A). move.after) old mid new p.moves q.moves p.line q.line;
  events_are =
      map-append (λ (m : Move A). m.event) p.moves q.moves
      ∙ rw (p.events_are, q.events_are) refl;
  told_are =
      rw (p.told_are, q.told_are) (sym (told_joined old mid p.moves q.moves p.line));
}

text_append : {A : Type 0} (hosted : Bool) (xs ys : List (Told A))
    → told_text hosted xs ++ told_text hosted ys ≡ told_text hosted (xs ++ ys)
text_append hosted xs ys =
    sym (joined_append (map (told_line hosted) xs) (map (told_line hosted) ys))
    ∙ ap joined (sym (map-append (told_line hosted) xs ys))

-- ---- one run after another

pub sends_no_run : {A I : Type 0} (hosted : Bool) (disk : I → Disk) (board : BoardState I)
    (a s : Option (List ℕ)) → SendsRun {A = A} hosted disk board board [] a a s s
sends_no_run hosted disk board a s = record {
  told = [];
  run = λ tells. telling_none (world_of disk board);
  tells = λ tells. tells;
  extents = refl;
  sent = sends_same a a s s [] _ (sym joined_none) (sends_none a s);
}

-- two runs, one after the other
pub sends_runs : {A I : Type 0} (hosted : Bool) (disk : I → Disk) (old mid new : BoardState I)
    (events more : List (Event A)) (a b c s t u : Option (List ℕ))
    → SendsRun hosted disk old mid events a b s t → SendsRun hosted disk mid new more b c t u
    → SendsRun hosted disk old new (events ++ more) a c s u
sends_runs hosted disk old mid new events more a b c s t u p q = record {
  told = p.told ++ q.told;
  run = λ tells. telling_join (world_of disk old) (world_of disk mid) (world_of disk new) events more p.told
      q.told (p.run tells) (q.run (p.tells tells));
  tells = λ tells. q.tells (p.tells tells);
  extents = q.extents ∙ p.extents;
  sent =
      sends_same a c s u _ _ (text_append hosted p.told q.told) (sends_more a b c s t u _ _ p.sent q.sent);
}

-- what waited was written
pub sends_flushed : {A I : Type 0} (hosted : Bool) (disk : I → Disk) (old new : BoardState I)
    (events : List (Event A)) (a b c s t u : Option (List ℕ)) → SendsRun hosted disk old new events a b s t
    → Sends b c t [] u → SendsRun hosted disk old new events a c s u
sends_flushed hosted disk old new events a b c s t u p q = record {
  told = p.told;
  run = p.run;
  tells = p.tells;
  extents = p.extents;
  sent =
      sends_same a c s u (told_text hosted p.told ++ []) (told_text hosted p.told)
      (append-nil (told_text hosted p.told))
      (sends_more a b c s t u (told_text hosted p.told) [] p.sent q);
}

-- ---- a new board

-- its run over the whole of an image
runs_of : {A I : Type 0} (hosted : Bool) (disk : I → Disk) (slots : List SlotSpec)
    (board after : BoardState I) (image : I) (events : List (Event A)) (a b s t : Option (List ℕ))
    → board.slots ≡ map opened slots → image ≡ after.image → (run : SendsRun hosted disk board after events a b s t)
    → Tells (disk board.image) → RunsOn slots (disk board.image) (disk image) events run.told
runs_of hosted disk slots board after image events a b s t new kept run tells =
    let telling = run.run tells in
    runs_on disk slots board after image events run.told new kept run.extents (run.tells tells)
    (telling_run (world_of disk board) (world_of disk after) events run.told telling) telling

-- the run of a new board, with what became of its text
recorded : {A I : Type 0} (disk : I → Disk) (slots : List SlotSpec) (board after : BoardState I) (image : I)
    (hosted : Bool) (events : List (Event A)) (a b s : Option (List ℕ)) (Output : List ℕ → Type 0)
    → board.slots ≡ map opened slots → hosted ≡ is_hosted slots → image ≡ after.image
    → SendsRun hosted disk board after events a b (Some []) s
    → ((text : List ℕ) → Sends a b (Some []) text s → Output text)
    → Recorded disk slots events board.image image Output
recorded disk slots board after image hosted events a b s Output new by kept run out = record {
  told = run.told;
  ran = runs_of hosted disk slots board after image events a b (Some []) s new kept run;
  output = subst (λ (h : Bool). Output (told_text h run.told)) by
      (out (told_text hosted run.told) run.sent);
}

-- what comes of the lines is what comes of the events
pub after_run : {A I : Type 0} (disk : I → Disk) (slots : List SlotSpec) (board after : BoardState I)
    (image : I) (hosted : Bool) (events : List (Event A)) (a b : Option (List ℕ))
    (outcome : Result (Unit {0}) ReplayFault) → board.slots ≡ map opened slots → hosted ≡ is_hosted slots
    → image ≡ after.image → AfterLines hosted disk events board after a b outcome
    → AfterRun disk slots events board.image image a b outcome
after_run disk slots board after image hosted events a b (Ok _) new by kept run =
    recorded disk slots board after image hosted events a b (Some []) (Appends a b) new by kept run
    (sent_all a b)
after_run disk slots board after image hosted events a b (Err Write) new by kept run = record {
  done = length events;
  recorded =
      recorded disk slots board after image hosted (take (length events) events) a b None (AppendsFront a b)
      new by kept
      (subst (λ (es : List (Event _)). SendsRun hosted disk board after es a b (Some []) None)
      (sym (take_all (length events) events (omega arith))) run) (sent_front a b);
}
after_run disk slots board after image hosted events a b (Err NoMemory) new by kept run = record {
  done = 0;
  recorded = recorded disk slots board board image hosted [] a a (Some []) (λ _. Keeps a b) new by
      (kept ∙ ap (λ (state : BoardState _). state.image) run.0)
      (sends_no_run hosted disk board a (Some []))
      (λ _ _. run.1);
}
after_run disk slots board after image hosted events a b (Err fault) new by kept run = absurd run

-- a flushed buffer whose writer has not failed is empty
pub flushed_whole : (u : Option (List ℕ)) (broken : Bool) → (u ≡ Some []) ⊎ (u ≡ None) → IsTrue broken
    ↔ (u ≡ None) → broken ≡ false → u ≡ Some []
flushed_whole u broken (inl whole) means no' = whole
flushed_whole u broken (inr gone) means no' = absurd (let yes = means.1 gone in cc)
