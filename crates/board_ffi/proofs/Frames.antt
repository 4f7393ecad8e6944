-- What a driver sent is copied, and then dropped.
use Rattle.std.proofs.Common.{◌≡◌, ◌≢◌, ◌⊎◌, ◌↔◌, inl, inr, ℕ, ◌≤◌, Bool, true, false, List, [], ◌++◌, drop, length, Option, Some, None, Result, Ok, Err, IfOk, refl, sym, ◌∙◌, ap, subst, arith}
use Rattle.std.specs.Prelude.{◌==◌, ◌||◌, if◌then◌else◌, is_none, unwrap_or, IfErr, IsErrOf, IsSomeAnd, IsTrue}
use Rattle.std.specs.Global.{Global}
use Rattle.std.specs.List.{slice_get}
use Rattle.std.specs.Option.{option_and_then, option_map}
use Rattle.std.proofs.lemmas.Option.{slice_get_within}
use Rattle.device_list.specs.List.{outgoing_at, sent_by}
use Rattle.board.specs.declared.event.DeviceEvent.TheVariants.{DropSent}
use Rattle.board.specs.declared.event.EventKind.TheVariants.{Device}
use Rattle.board.specs.declared.pause.Pause.{Pause}
use Rattle.board.specs.declared.reply.Reply.{Reply}
use Rattle.board.specs.declared.reply.Reply.TheVariants.{Took}
use Rattle.board.specs.Devices.{reply_at}
use Rattle.board.specs.Slot.{BoardSlot, state_of}
use Rattle.session.specs.declared.handed.Handed.{Handed}
use Rattle.session.specs.declared.progress.Progress.{Progress}
use Rattle.session.specs.declared.progress.Progress.TheVariants.{Asks, Done, More}
use Rattle.session.specs.declared.refusal.Refusal.{Refusal}
use Rattle.session.specs.declared.refusal.Refusal.TheVariants.{BadSlot, BadRange, BadDevice, NoRoom, Busy, Idle}
use Rattle.session.specs.declared.response.Response.{Response}
use Rattle.session.specs.declared.response.Response.TheVariants.{Answered}
use Rattle.session.specs.Answering.{Means, handed_by, handed_response}
use Rattle.session.specs.Devices.{TakesNothing, sent_at, sent_count}
use Rattle.session.specs.Pacing.{paused_at}
use Rattle.session.specs.Pausing.{IsToldCall, taken_at}
use Rattle.session.specs.Session.{IsIdle, SessionState}
use Rattle.board_ffi.specs.Codes.{StandsFor, handed_code, is_response, progress_code, refusal_code}
use Rattle.board_ffi.specs.Devices.{IsCopied, TakesFrame, frame_at, frame_now}
use Rattle.board_ffi.proofs.Writing.{refused}

counted : (sent : Option (List ℕ)) → sent_count sent ≡ length (unwrap_or sent [])
counted None = refl
counted (Some bytes) = refl

-- where no bytes are copied the room stays
none_copied : (room into : List ℕ) (len : ℕ) → IsCopied [] room into len → into ≡ room
none_copied room into len copied = copied.copied ∙ ap (λ m. drop m room) copied.len_is

-- a refusal's number is none of a call that is done or pauses
abbrev is_done : ℕ → Bool
is_done code = (code == 0) || (code == 18)

refused_test : (why : Refusal) → is_done (refusal_code why) ≡ false
refused_test BadSlot = refl
refused_test BadRange = refl
refused_test BadDevice = refl
refused_test NoRoom = refl
refused_test Busy = refl
refused_test Idle = refl

done_test : (code : ℕ) → (code ≡ 0) ⊎ (code ≡ 18) → is_done code ≡ true
done_test code (inl done) = ap is_done done
done_test code (inr more) = ap is_done more

refused_code : (why : Refusal) (code : ℕ) → code ≡ refusal_code why → (code ≡ 0) ⊎ (code ≡ 18) → ⊥
refused_code why code is done =
    let test : true ≡ false = sym (done_test code done) ∙ ap is_done is ∙ refused_test why in cc (test)

module _ (slot n : ℕ) (old new : SessionState) where
  -- ---- what waits, by what is paused

  abbrev now_by : Option Pause → List ℕ
  now_by paused = if is_none paused then frame_at slot n old else []

  idle_now : IsIdle slot old → frame_now slot n old ≡ frame_at slot n old
  idle_now idle = ap now_by idle

  busy_now : (paused : Option Pause) → paused_at old.paused slot ≡ paused → (IsIdle slot old → ⊥)
      → frame_now slot n old ≡ []
  busy_now None is busy = absurd (busy is)
  busy_now (Some pause) is busy = ap now_by is

  none_now : (paused : Option Pause) → paused_at old.paused slot ≡ paused → frame_at slot n old ≡ []
      → frame_now slot n old ≡ []
  none_now None is none = ap now_by is ∙ none
  none_now (Some pause) is none = ap now_by is

  -- ---- where no device sends anything there is nothing

  abbrev frame_of : Option BoardSlot → List ℕ
  frame_of found = unwrap_or (option_and_then (λ (s : BoardSlot). sent_by n s.devices) found) []

  past_none : (found : Option BoardSlot) → slice_get old.slots slot ≡ found → length old.slots ≤ slot
      → frame_at slot n old ≡ []
  past_none None is past = ap frame_of is
  past_none (Some s) is past = let fits = slice_get_within old.slots slot s is in absurd (omega (arith, fits, past))

  sent_none : (outgoing : Option (Option (List ℕ)))
      → ◌≡◌ {A = Option (Reply Global)} (option_map (λ sent. Took (length (unwrap_or sent []))) outgoing) None
      → unwrap_or (option_and_then (λ sent. sent) outgoing) [] ≡ []
  sent_none None none = refl
  sent_none (Some sent) none = absurd (cc (none))

  taken_none : (found : Option BoardSlot) → slice_get old.slots slot ≡ found
      → IsSomeAnd found (λ s. reply_at {A = Global} n DropSent (state_of old.image s) ≡ None)
      → frame_at slot n old ≡ []
  taken_none None is takes = absurd takes
  taken_none (Some s) is takes = ap frame_of is ∙ sent_none (outgoing_at n s.devices) takes

  -- ---- by what is answered

  -- a call that is refused finds nothing
  nothing_found : (why : Refusal) → (why ≡ BadSlot → length old.slots ≤ slot) → (why ≡ Busy → IsIdle slot old → ⊥)
      → (why ≡ BadDevice → IsIdle slot old × TakesNothing {A = Global} slot n DropSent old)
      → (why ≡ BadSlot) ⊎ (why ≡ Busy) ⊎ (why ≡ BadDevice) → frame_now slot n old ≡ []
  nothing_found why past busy bad (inl is) =
      none_now (paused_at old.paused slot) refl (past_none (slice_get old.slots slot) refl (past is))
  nothing_found why past busy bad (inr (inl is)) = busy_now (paused_at old.paused slot) refl (busy is)
  nothing_found why past busy bad (inr (inr is)) =
      none_now (paused_at old.paused slot) refl (taken_none (slice_get old.slots slot) refl ((bad is).1))

  -- and nothing is paused where one isn't
  done_idle : (paused : Option Pause) → paused_at old.paused slot ≡ paused → ((IsIdle slot old → ⊥) → ⊥)
      → IsIdle slot old
  done_idle None idle free = idle
  done_idle (Some pause) waits free = absurd (free (λ idle. absurd (cc (idle, waits))))

  module _ (room into : List ℕ) (count len code : ℕ) (copied : IsCopied (frame_now slot n old) room into count) where
    pub kept : (r : Result Handed Refusal) → (IsErrOf r BadSlot ↔ (length old.slots ≤ slot))
        → (IsErrOf r Busy ↔ (IsIdle slot old → ⊥))
        → (IsErrOf r BadDevice ↔ (IsIdle slot old × TakesNothing {A = Global} slot n DropSent old))
        → IfErr r (λ why. (why ≡ BadSlot) ⊎ (why ≡ Busy) ⊎ (why ≡ BadDevice))
        → IfOk r (λ handed. handed.progress ≢ Asks) → code ≡ handed_code r → code ≢ 0 → code ≢ 18 → into ≡ room
    kept (Ok handed) bad_slot busy bad_device refused never is done more = absurd (by_progress handed.progress is never)
      where
        by_progress : (came : Progress) → code ≡ progress_code came → came ≢ Asks → ⊥
        by_progress Done is never = done is
        by_progress More is never = more is
        by_progress Asks is never = never refl
    kept (Err why) bad_slot busy bad_device refused never is done more =
        none_copied room into count
        (subst (λ frame. IsCopied frame room into count)
        (nothing_found why (λ same. bad_slot.0 (rw same refl)) (λ same. busy.0 (rw same refl))
        (λ same. bad_device.0 (rw same refl)) refused) copied)

    -- what is told of a call that isn't refused
    module _ (handed : Handed) (idle : IsIdle slot old) (counts : handed.taken ≡ sent_count (sent_at slot n old.slots))
        (told : len ≡ handed.taken) where
      len_is : len ≡ length (frame_at slot n old)
      len_is = told ∙ counts ∙ counted (sent_at slot n old.slots)

      moved : IsCopied (frame_at slot n old) room into len
      moved =
          let stands = subst (λ frame. IsCopied frame room into count) (idle_now idle) copied in
          record {
            len_is = len_is;
            copied = stands.copied ∙ ap (λ m. frame_at slot n old ++ drop m room) (stands.len_is ∙ sym len_is);
          }

      -- it is the event, answered how many bytes they were
      event : (came : Progress) (response : Response Global) → response ≡ handed_by handed.taken came
          → code ≡ progress_code came → came ≢ Asks
          → StandsFor code (Took (length (frame_at slot n old))) response × IsTrue (is_response code)
      event Done response so is never =
          (inl (is, so ∙ ap (λ (m : ℕ). Answered (Took m)) (counts ∙ counted (sent_at slot n old.slots))), rw is refl)
      event More response so is never = (inr (inr (inr (inr (inr (inl (is, so)))))), rw is refl)
      event Asks response so is never = absurd (never refl)

      pauses : (came : Progress) → code ≡ progress_code came → came ≢ Asks
          → (came ≡ More → taken_at slot new ≡ Some handed.taken) → code ≡ 18 → taken_at slot new ≡ Some len
      pauses Done is never taken more = absurd (cc (is, more))
      pauses More is never taken more = taken refl ∙ ap (λ (m : ℕ). Some m) (sym told)
      pauses Asks is never taken more = absurd (never refl)

    pub takes_frame : (r : Result Handed Refusal)
        → IsToldCall {A = Global} old slot (Device n DropSent) (Means handed_response r) new
        → (IsErrOf r Busy ↔ (IsIdle slot old → ⊥))
        → IfOk r (λ handed. handed.taken ≡ sent_count (sent_at slot n old.slots))
        → IfOk r (λ handed. handed.progress ≡ More → taken_at slot new ≡ Some handed.taken)
        → IfOk r (λ handed. handed.progress ≢ Asks) → IfOk r (λ handed. len ≡ handed.taken) → code ≡ handed_code r
        → TakesFrame slot n room into len code old new
    takes_frame (Ok handed) h busy counts taken never told is =
        let idle = done_idle (paused_at old.paused slot) refl (λ waits. let is_busy = busy.1 waits in cc (is_busy)) in
        let stands = event handed idle counts told handed.progress h.response h.told is never in
        record {
          takes = record { response = h.response; call = h.call.turn; whole = h.call.whole; told = stands.0; code_is = stands.1 };
          moved = λ done. moved handed idle counts told;
          taken = pauses handed idle counts told handed.progress is never taken;
        }
    takes_frame (Err why) h busy counts taken never told is =
        let stands = refused why code h.response h.told is in
        record {
          takes = record { response = h.response; call = h.call.turn; whole = h.call.whole; told = stands.0; code_is = stands.1 };
          moved = λ done. absurd (refused_code why code is done);
          taken = λ more. absurd (refused_code why code is (inr more));
        }
