-- What a call is answered whose service may pause, or ask a disk for something.
use Rattle.std.proofs.Common.{◌≡◌, ◌≢◌, ℕ, ◌↔◌, Result, Ok, Err, IfOk, inl, inr, refl, sym, subst, ◌∙◌}
use Rattle.std.specs.Prelude.{◌==◌, ◌||◌, IsTrue}
use Rattle.std.specs.Global.{Global}
use Rattle.board.specs.declared.event.EventKind.{EventKind}
use Rattle.board.specs.declared.reply.Reply.{Reply}
use Rattle.board.specs.declared.reply.Reply.TheVariants as reply
use Rattle.session.specs.declared.progress.Progress.{Progress}
use Rattle.session.specs.declared.progress.Progress.TheVariants.{Asks, Done, More}
use Rattle.session.specs.declared.refusal.Refusal.{Refusal}
use Rattle.session.specs.declared.refusal.Refusal.TheVariants.{BadSlot, BadRange, BadDevice, NoRoom, Busy, Idle}
use Rattle.session.specs.declared.response.Response.{Response}
use Rattle.session.specs.Answering.{Means, RefusalMeans, served_response}
use Rattle.session.specs.Pausing.{IsToldCall}
use Rattle.session.specs.Session.{SessionState}
use Rattle.board_ffi.specs.Codes.{StandsFor, is_response, refusal_code, went_on_code}
use Rattle.board_ffi.specs.Events.{MayAsk, is_served}

-- the number of a refusal stands for its response, whatever a call that is done is replied
pub refused : {done : Reply Global} (why : Refusal) (code : ℕ) (response : Response Global) → RefusalMeans why response
    → code ≡ refusal_code why
    → StandsFor code done response × IsTrue (is_response code) × IsTrue ((code == 20) || is_response code)
refused BadSlot code response so is = (inr (inl (is, so)), rw is refl, rw is refl)
refused BadRange code response so is = (inr (inr (inl (is, so))), rw is refl, rw is refl)
refused BadDevice code response so is = (inr (inr (inr (inl (is, so)))), rw is refl, rw is refl)
refused NoRoom code response so is = (inr (inr (inr (inr (inl (is, so))))), rw is refl, rw is refl)
refused Busy code response so is = (inr (inr (inr (inr (inr (inr (inl (is, so))))))), rw is refl, rw is refl)
refused Idle code response so is = (inr (inr (inr (inr (inr (inr (inr (inr (is, so)))))))), rw is refl, rw is refl)

served : (answer : Result Progress Refusal) (response : Response Global) → Means served_response answer response
    → StandsFor (went_on_code answer) reply.Done response
    × IsTrue ((went_on_code answer == 20) || is_response (went_on_code answer))
served (Ok Done) response so = (inl (refl, so), refl)
served (Ok More) response so = (inr (inr (inr (inr (inr (inl (refl, so)))))), refl)
served (Ok Asks) response so = (inr (inr (inr (inr (inr (inr (inr (inl (refl, so)))))))), refl)
served (Err why) response so = let stands = refused why (refusal_code why) response so refl in (stands.0, stands.2)

asks_by : (IsAsked : Type 0) (answer : Result Progress Refusal) → IfOk answer (λ progress. (progress ≡ Asks) ↔ IsAsked)
    → IsTrue (is_served (went_on_code answer)) → (went_on_code answer ≡ 20) ↔ IsAsked
asks_by IsAsked (Ok Asks) asks done = (λ is. asks.0 refl, λ asked. refl)
asks_by IsAsked (Ok progress) asks done =
    (λ is. absurd (cc (is)), λ asked. let is = asks.1 asked in absurd (cc (is)))
asks_by IsAsked (Err BadSlot) asks done = absurd (cc (done))
asks_by IsAsked (Err why) asks done = absurd (cc (done))

-- The number that stands for such an answer says what came of the event.
pub may_ask : (slot : ℕ) (what : EventKind Global) (IsAsked : Type 0) (answer : Result Progress Refusal)
    (old new : SessionState) → IsToldCall {A = Global} old slot what (Means served_response answer) new
    → IfOk answer (λ progress. (progress ≡ Asks) ↔ IsAsked)
    → MayAsk slot what IsAsked (went_on_code answer) old new
may_ask slot what IsAsked answer old new h asks =
    let stands = served answer h.response h.told in
    record {
      response = h.response;
      call = h.call.turn;
      whole = h.call.whole;
      told = stands.0;
      code_is = stands.1;
      asks = asks_by IsAsked answer asks;
    }

-- ---- where operations may begin with a service that pauses, which doesn't tell it

refused_unserved : (why : Refusal) → IsTrue (is_served (refusal_code why)) → ⊥
refused_unserved BadSlot done = cc (done)
refused_unserved why done = cc (done)

at_end : (P : Type 0) (code : ℕ) → code ≡ 0 → ((Done ≡ Asks) ↔ (P × (Done ≢ More))) → (code ≡ 20) ↔ (P × (code ≢ 18))
at_end P code is asks = (
  λ twenty. absurd (let no : 0 ≡ 20 = sym is ∙ twenty in cc (no)),
  λ p. absurd (let same : Done ≡ Asks = asks.1 (p.0, λ more. cc (more)) in cc (same)),
)

in_pause : (P : Type 0) (code : ℕ) → code ≡ 18 → (code ≡ 20) ↔ (P × (code ≢ 18))
in_pause P code is = (λ twenty. absurd (let no : 18 ≡ 20 = sym is ∙ twenty in cc (no)), λ p. absurd (p.1 is))

asking : (P : Type 0) (code : ℕ) → code ≡ 20 → ((Asks ≡ Asks) ↔ (P × (Asks ≢ More))) → (code ≡ 20) ↔ (P × (code ≢ 18))
asking P code is asks =
    (λ twenty. ((asks.0 refl).0, λ more. (let no : 20 ≡ 18 = sym is ∙ more in cc (no))), λ p. is)

asks_at_end : (P : Type 0) (answer : Result Progress Refusal) (code : ℕ) → code ≡ went_on_code answer
    → IfOk answer (λ progress. (progress ≡ Asks) ↔ (P × (progress ≢ More)))
    → IsTrue (is_served code) → (code ≡ 20) ↔ (P × (code ≢ 18))
asks_at_end P (Ok Done) code is asks done = at_end P code is asks
asks_at_end P (Ok More) code is asks done = in_pause P code is
asks_at_end P (Ok Asks) code is asks done = asking P code is asks
asks_at_end P (Err why) code is asks done =
    absurd (refused_unserved why (subst (λ (k : ℕ). IsTrue (is_served k)) is done))

pub may_ask_at_end : (slot : ℕ) (what : EventKind Global) (P : Type 0) (answer : Result Progress Refusal) (code : ℕ)
    (old new : SessionState) → code ≡ went_on_code answer
    → IsToldCall {A = Global} old slot what (Means served_response answer) new
    → IfOk answer (λ progress. (progress ≡ Asks) ↔ (P × (progress ≢ More)))
    → MayAsk slot what (P × (code ≢ 18)) code old new
may_ask_at_end slot what P answer code old new is h asks =
    let stands = served answer h.response h.told in
    record {
      response = h.response;
      call = h.call.turn;
      whole = h.call.whole;
      told = subst (λ (k : ℕ). StandsFor k reply.Done h.response) (sym is) stands.0;
      code_is = subst (λ (k : ℕ). IsTrue ((k == 20) || is_response k)) (sym is) stands.1;
      asks = asks_at_end P answer code is asks;
    }
