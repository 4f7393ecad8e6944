-- What is done to a further device begins: its service's first piece, or what is done at once.
use Rattle.std.proofs.Common.{◌≡◌, ◌≢◌, inl, inr, length, ℕ, true, false, false, Option, Some, None, List, [], refl, sym, ◌∙◌, ap, subst}
use Rattle.std.specs.Prelude.{if◌then◌else◌, Bool, IfErr, IfOk, Result, Ok, Err, is_none, is_some, unwrap_or}
use Rattle.std.specs.List.{slice_get}
use Rattle.std.specs.Option.{option_and_then, option_map, option_map_or}
use Rattle.std.proofs.lemmas.Option.{same_Some}
use Rattle.guest_memory.specs.Memory.{Memory, SameRange}
use Rattle.chain.specs.declared.budget.Budget.{Budget}
use Rattle.chain.specs.declared.budget.Progress.{Progress}
use Rattle.chain.specs.declared.budget.Progress.TheVariants.{Done, More}
use Rattle.mmio_window.specs.declared.stage.Stage.{Stage}
use Rattle.mmio_window.specs.declared.stage.Stage.TheVariants.{First}
use Rattle.device_list.specs.declared.refusal.ReceiveRefusal.{ReceiveRefusal}
use Rattle.device_list.specs.Card.{receive_refusal}
use Rattle.device_list.specs.Device.{DeviceState, TakesSent, device_written, received, supplied, supply_taken, with_model}
use Rattle.device_list.specs.List.{At, DevicesServeTo, card_at, changed_at, has_more_sent_at, notified_at, outgoing_at, sent_by, waits_at}
use Rattle.device_list.specs.Model.{outgoing_of, without_sent}
use Rattle.device_list.proofs.Pieces.{at_changed, changed_so, changed_there, devices_once, pauses_by_limit}
use Rattle.board.specs.declared.event.DeviceEvent.{DeviceEvent}
use Rattle.board.specs.declared.event.DeviceEvent.TheVariants.{Write, Supply, Receive, DropSent}
use Rattle.board.specs.declared.event.EventKind.TheVariants.{Device}
use Rattle.board.specs.declared.pause.Pause.{Pause}
use Rattle.board.specs.declared.pause.Turn.{Turn}
use Rattle.board.specs.declared.pause.Turn.TheVariants.{Answered}
use Rattle.board.specs.declared.reply.Reply.{Reply}
use Rattle.board.specs.declared.reply.Reply.TheVariants.{BadRange, BadSlot, NoMemory, Took}
use Rattle.board.specs.Devices.{device_asks, devices_readied, further_service, reply_at}
use Rattle.board.specs.Image.{Health}
use Rattle.board.specs.ImageDisks.{GivesAtDevice, image_served, image_served_in}
use Rattle.board.specs.Outcome.{replies}
use Rattle.board.specs.OverImage.{GivesOverImage}
use Rattle.board.specs.declared.pause.Service.TheVariants.{Further}
use Rattle.board.specs.Pausing.{ComesTo, PausesByLimit, TurnsTo, turn_of}
use Rattle.board.specs.declared.slot.device_begins.Asked.{Asked}
use Rattle.board.specs.Quiet.{AnswersAtDevice, AsksAtDevice, AsksImageDisk, BeginsAsked, BeginsAtDevice, DoesToDevice, ServesFurther}
use Rattle.board.specs.Slot.{BoardSlot, state_of}
use Rattle.board.proofs.Beside.{same_range}
use Rattle.board.proofs.ImageDisks.{further_piece}
use Rattle.board.proofs.Turns.{comes_to}
use Rattle.board.proofs.FurtherPieces.{more_there, outgoing_is, sender, takes_by}
use Rattle.board.specs.World.{MayGiveOverImage}

-- the slot with other devices
abbrev pub having : BoardSlot → List DeviceState → BoardSlot
having slot devices = record slot { devices = devices }

same_answer : {A : Type 0} (reply other : Reply A) → ◌≡◌ {A = Turn A} (Answered reply) (Answered other) → reply ≡ other
same_answer reply other is = cc (is)

-- what is asked for is that whatever the image has
same_asks : {A : Type 0} (n : ℕ) (what : DeviceEvent A) (image : List ℕ) (slot : BoardSlot)
    → device_asks n what (state_of image slot) ≡ device_asks n what (state_of [] slot)
same_asks n (Write offset width value) image slot = refl
same_asks n (Supply bytes) image slot = refl
same_asks n (Receive frame) image slot = refl
same_asks n _ image slot = refl

-- ---- a piece of a service

-- It pauses only where the budget has a limit.
pub further_limited : {A : Type 0} (pause : Pause) (stage : Stage) (budget : Budget) (came : Progress) (n q : ℕ)
    (m m' : Memory) (old new : List DeviceState) (turn : Turn A) → turn ≡ turn_of pause came
    → DevicesServeTo stage budget came n q m m' old new → PausesByLimit budget turn
further_limited pause stage budget Done n q m m' old new turn is h = λ next more. absurd (cc (is, more))
further_limited pause stage budget More n q m m' old new turn is h = λ next more.
    pauses_by_limit stage budget n q m m' old new h

record IsNoRefusal {A : Type 0} (turn : Turn A) : Type 0 where
  there : turn ≢ Answered BadSlot
  in_range : turn ≢ Answered BadRange
  answered : turn ≢ Answered NoMemory

no_refusal : {A : Type 0} (n q : ℕ) (taken : Option ℕ) (came : Progress) (turn : Turn A)
    → turn ≡ turn_of (further_service n q taken) came → IsNoRefusal turn
no_refusal n q None Done turn is =
    record { there = λ bad. cc (is, bad); in_range = λ bad. cc (is, bad); answered = λ bad. cc (is, bad) }
no_refusal n q (Some taken) Done turn is =
    record { there = λ bad. cc (is, bad); in_range = λ bad. cc (is, bad); answered = λ bad. cc (is, bad) }
no_refusal n q taken More turn is =
    record { there = λ bad. cc (is, bad); in_range = λ bad. cc (is, bad); answered = λ bad. cc (is, bad) }

pub further_serves : {A : Type 0} (n q : ℕ) (taken : Option ℕ) (stage : Stage) (budget : Budget) (came : Progress)
    (slot new : BoardSlot) (turn : Turn A) → image_served_in (Further n q) slot ≡ None
    → DevicesServeTo stage budget came n q slot.memory new.memory slot.devices new.devices
    → new ≡ record slot { memory = new.memory; devices = new.devices } → SameRange slot.memory new.memory
    → turn ≡ turn_of (further_service n q taken) came
    → ServesFurther (further_service n q taken) stage budget slot new turn
further_serves {A} n q taken stage budget came slot new turn none h rest range is =
    let no = no_refusal n q taken came turn is in
    record {
      comes = λ image health.
          subst (λ (t : Turn A). ComesTo (further_service n q taken) stage budget (state_of image slot) health health
          (state_of image new) [] t) (sym is)
          (comes_to A (further_service n q taken) stage budget came (state_of image slot) health health
          (state_of image new) []
          (further_piece slot image n q stage budget came health (state_of image new) [] none (record {
            served = h;
            is = ap (state_of image) rest;
            image = refl;
            silent = refl;
          })));
      rest = rest;
      range = range;
      limited = further_limited (further_service n q taken) stage budget came n q slot.memory new.memory slot.devices
          new.devices turn is h;
      there = no.there;
      in_range = no.in_range;
      answered = no.answered;
    }

module _ {A : Type 0} (n : ℕ) (what : DeviceEvent A) (budget : Budget) (old : BoardSlot) where
  -- the first piece of the service that it asks for
  pub begins_further : (pause : Pause) (mid new : BoardSlot) (turn : Turn A) → AsksAtDevice n what old mid pause
      → ServesFurther pause First budget mid new turn → BeginsAtDevice n what budget old new turn
  begins_further pause mid new turn asks h = record {
    begins = λ image health.
        subst (λ (o : Option Pause). TurnsTo (λ c. MayGiveOverImage (state_of image old) (Device n what) health health c) o
        (Device n what) budget (state_of image old) health health (state_of image new) [] turn)
        (sym (same_asks n what image old ∙ asks.asks))
        (subst (λ (s : BoardSlot). ComesTo pause First budget (state_of image s) health health (state_of image new) [] turn)
        asks.readied (h.comes image health));
    rest = h.rest ∙ ap (λ (s : BoardSlot). record s { memory = new.memory; devices = new.devices }) asks.readied;
    range = subst (λ (m : Memory). SameRange m new.memory) (ap (λ (s : BoardSlot). s.memory) asks.readied) h.range;
    limited = h.limited;
    there = h.there;
    in_range = h.in_range;
    no_memory = λ lacks. absurd (h.answered lacks);
  }

  -- what asks for none is done at once
  pub begins_at_once : (new : BoardSlot) (reply : Reply A) → AnswersAtDevice n what old new reply
      → BeginsAtDevice n what budget old new (Answered reply)
  begins_at_once new reply h = record {
    begins = λ image health.
        subst (λ (o : Option Pause). TurnsTo (λ c. MayGiveOverImage (state_of image old) (Device n what) health health c) o
        (Device n what) budget (state_of image old) health health (state_of image new) [] (Answered reply))
        (sym (same_asks n what image old ∙ h.asks)) (h.does.given image health);
    rest = h.does.rest;
    range = h.does.range;
    limited = λ next is. absurd (cc (is));
    there = λ is. h.does.there (same_answer reply BadSlot is);
    in_range = λ is. h.does.in_range (same_answer reply BadRange is);
    no_memory = λ is image. h.does.no_memory (same_answer reply NoMemory is) image;
  }

  -- so it begins, where so much was asked for
  pub begun : (mid new : BoardSlot) (asked : Result Asked (Reply A)) (r : Result (Turn A) Pause)
      → IfOk asked (λ a. AsksAtDevice n what old mid (further_service n a.queue a.taken))
      → IfErr asked (AnswersAtDevice n what old mid) → BeginsAsked n asked budget mid new r
      → IfOk r (BeginsAtDevice n what budget old new) × IfErr r (AsksImageDisk (Device n what) old new)
  begun mid new (Ok asked) (Ok turn) asks answers h =
      (begins_further (further_service n asked.queue asked.taken) mid new turn asks h, tt)
  begun mid new (Ok asked) (Err pause) asks answers h =
      let at : AsksAtDevice n what old new pause =
      subst (λ (s : BoardSlot). AsksAtDevice n what old s pause) (sym h.1.1)
      (subst (λ (p : Pause). AsksAtDevice n what old mid p) (sym h.0) asks) in (
        tt,
        record {
          asks = λ image. same_asks n what image old ∙ at.asks;
          image = h.1.0;
          readied = λ image. ap (state_of image) at.readied;
          rest = at.readied ∙ ap (λ (s : BoardSlot). having old s.devices) (sym at.readied);
        },
      )
  begun mid new (Err reply) (Ok turn) asks answers h = (
    subst (λ (t : Turn A). BeginsAtDevice n what budget old new t) (sym h.0)
        (begins_at_once new reply (subst (λ (s : BoardSlot). AnswersAtDevice n what old s reply) (sym h.1) answers)),
    tt,
  )
  begun mid new (Err reply) (Err pause) asks answers h = absurd h

-- ---- what asks for it

module _ (A : Type 0) (n : ℕ) (slot : BoardSlot) where
  -- a write that doesn't wait and notifies this queue
  write_asks : (offset width value q : ℕ)
      → Some (Some q) ≡ option_map (notified_at offset width value) (slice_get slot.devices n)
      → option_map (waits_at offset) (slice_get slot.devices n) ≡ Some false
      → device_asks {A = A} n (Write offset width value) (state_of [] slot) ≡ Some (further_service n q None)
  write_asks offset width value q notified free = by_found (slice_get slot.devices n) notified free
    where
      by_found : (found : Option DeviceState) → Some (Some q) ≡ option_map (notified_at offset width value) found
          → option_map (waits_at offset) found ≡ Some false
          → (if option_map_or (waits_at offset) found false then None
          else option_map (λ i. further_service n i None) (option_and_then (notified_at offset width value) found))
          ≡ Some (further_service n q None)
      by_found None notified free = absurd (cc (free))
      by_found (Some d) notified free =
          let passes : waits_at offset d ≡ false = same_Some (waits_at offset d) false free in
          let asked : notified_at offset width value d ≡ Some q =
          sym (same_Some (Some q) (notified_at offset width value d) notified) in
          rw (passes, asked) refl

  -- bytes of which the device takes some
  supply_asks : (bytes : List ℕ) (taken : ℕ)
      → Some taken ≡ option_and_then (supply_taken bytes) (slice_get slot.devices n)
      → device_asks {A = A} n (Supply bytes) (state_of [] slot) ≡ Some (further_service n 0 (Some taken))
  supply_asks bytes taken takes =
      ap (λ (o : Option ℕ). option_map (λ count. further_service n 0 (Some count)) o) (sym takes)

  -- a frame that it takes
  receive_asks : (frame : List ℕ) → receive_refusal frame (card_at n slot.devices) ≡ None
      → device_asks {A = A} n (Receive frame) (state_of [] slot) ≡ Some (further_service n 0 (Some (length frame)))
  receive_asks frame takes =
      ap (λ (o : Option ReceiveRefusal). if is_none o then Some (further_service n 0 (Some (length frame))) else None) takes

  -- and what was sent is dropped
  drop_asks : (count : ℕ) → Some count ≡ option_map (λ sent. length sent) (sent_by n slot.devices)
      → has_more_sent_at n slot.devices ≡ false
      → device_asks {A = A} n DropSent (state_of [] slot) ≡ Some (further_service n 1 (Some count))
  drop_asks count is last = rw last (by_sent (sent_by n slot.devices) is)
    where
      by_sent : (sent : Option (List ℕ)) → Some count ≡ option_map (λ sent. length sent) sent
          → option_map (λ sent. further_service n 1 (Some (length sent))) sent ≡ Some (further_service n 1 (Some count))
      by_sent None is = absurd (cc (is))
      by_sent (Some sent) is = rw (same_Some count (length sent) is) refl

  pub nothing_asks : None ≡ option_map (λ (sent : List ℕ). length sent) (sent_by n slot.devices)
      → device_asks {A = A} n DropSent (state_of [] slot) ≡ None
  nothing_asks is = by_more (has_more_sent_at n slot.devices) _ (by_sent (sent_by n slot.devices) is)
    where
      by_more : (more : Bool) (asked : Option Pause) → asked ≡ None → (if more then None else asked) ≡ None
      by_more true asked none = refl
      by_more false asked none = none

      by_sent : (sent : Option (List ℕ)) → None ≡ option_map (λ (sent : List ℕ). length sent) sent
          → option_map (λ sent. further_service n 1 (Some (length sent))) sent ≡ None
      by_sent None is = refl
      by_sent (Some sent) is = absurd (cc (is))

  more_asks : has_more_sent_at n slot.devices ≡ true → device_asks {A = A} n DropSent (state_of [] slot) ≡ None
  more_asks more = rw more refl

-- whether more waits is seen once what was sent is taken
more_is : (n : ℕ) (old new : List DeviceState) → new ≡ changed_at (with_model without_sent) n old
    → has_more_sent_at n old ≡ is_some (sent_by n new)
more_is n old new is =
    by_found (slice_get old n) refl ∙ ap (λ (l : List DeviceState). is_some (sent_by n l)) (sym is)
  where
    by_found : (found : Option DeviceState) → slice_get old n ≡ found
        → has_more_sent_at n old ≡ is_some (sent_by n (changed_at (with_model without_sent) n old))
    by_found None there = rw (there, there) refl
    by_found (Some d) there =
        sym (more_there n old d there)
        ∙ sym (ap (λ (o : Option DeviceState). is_some (option_and_then (λ waits. waits)
        (option_and_then (λ (d : DeviceState). outgoing_of d.model) o)))
        (changed_there (with_model without_sent) n old d there))

-- so it asks for it, in the slot that was seen so
module _ (A : Type 0) (n : ℕ) (view old : BoardSlot) (seen : view ≡ old) (changed : List DeviceState) where
  asks_so : (what : DeviceEvent A) (pause : Pause) → device_asks n what (state_of [] view) ≡ Some pause
      → changed ≡ devices_readied n what view.memory view.devices → AsksAtDevice n what old (having view changed) pause
  asks_so what pause asks is =
      subst (λ (s : BoardSlot). AsksAtDevice n what s (having view changed) pause) seen
      (record { asks = asks; readied = ap (λ (l : List DeviceState). having view l) is })

  pub write_asked : (offset width value q : ℕ)
      → Some (Some q) ≡ option_map (notified_at offset width value) (slice_get view.devices n)
      → option_map (waits_at offset) (slice_get view.devices n) ≡ Some false
      → changed ≡ changed_at (device_written offset width value view.memory) n view.devices
      → AsksAtDevice {A = A} n (Write offset width value) old (having view changed) (further_service n q None)
  write_asked offset width value q notified free =
      asks_so (Write offset width value) (further_service n q None)
      (write_asks A n view offset width value q notified free)

  pub supply_asked : (bytes : List ℕ) (taken : ℕ)
      → Some taken ≡ option_and_then (supply_taken bytes) (slice_get view.devices n)
      → changed ≡ changed_at (with_model (supplied bytes)) n view.devices
      → AsksAtDevice {A = A} n (Supply bytes) old (having view changed) (further_service n 0 (Some taken))
  supply_asked bytes taken takes =
      asks_so (Supply bytes) (further_service n 0 (Some taken)) (supply_asks A n view bytes taken takes)

  pub receive_asked : (frame : List ℕ) → receive_refusal frame (card_at n view.devices) ≡ None
      → changed ≡ changed_at (with_model (received frame)) n view.devices
      → AsksAtDevice {A = A} n (Receive frame) old (having view changed) (further_service n 0 (Some (length frame)))
  receive_asked frame takes =
      asks_so (Receive frame) (further_service n 0 (Some (length frame))) (receive_asks A n view frame takes)

  pub drop_asked : (count : ℕ) → Some count ≡ option_map (λ sent. length sent) (sent_by n view.devices)
      → changed ≡ changed_at (with_model without_sent) n view.devices → is_some (sent_by n changed) ≡ false
      → AsksAtDevice {A = A} n DropSent old (having view changed) (further_service n 1 (Some count))
  drop_asked count is same last =
      asks_so DropSent (further_service n 1 (Some count))
      (drop_asks A n view count is (more_is n view.devices changed same ∙ last)) same

  -- where nothing was sent it is answered at once
  pub nothing_dropped : (reply : Reply A) → None ≡ option_map (λ (sent : List ℕ). length sent) (sent_by n view.devices)
      → changed ≡ view.devices → DoesToDevice n DropSent (having view changed) (having view changed) reply
      → AnswersAtDevice n DropSent old (having view changed) reply
  nothing_dropped reply none same does = record {
    asks = nothing_asks A n old
        (subst (λ (s : BoardSlot). None ≡ option_map (λ (sent : List ℕ). length sent) (sent_by n s.devices)) seen none);
    does = subst (λ (s : BoardSlot). DoesToDevice n DropSent s (having view changed) reply)
        (ap (λ (l : List DeviceState). having view l) same ∙ seen) does;
  }

-- ---- what was sent is taken

-- a service without a limit ends
unlimited_ends : (stage : Stage) (progress : Progress) (n q : ℕ) (m m' : Memory) (old new : List DeviceState)
    → DevicesServeTo stage (record { chains = None; bytes = None }) progress n q m m' old new → progress ≡ Done
unlimited_ends stage Done n q m m' old new h = refl
unlimited_ends stage More n q m m' old new h =
    elim (pauses_by_limit stage (record { chains = None; bytes = None }) n q m m' old new h) [
      | inl limit ↦ absurd (limit refl)
      | inr limit ↦ absurd (limit refl)
    ]

some_sent : (sent : Option (List ℕ)) (count : ℕ) → Some count ≡ option_map (λ (sent : List ℕ). length sent) sent
    → is_some sent ≡ true
some_sent None count is = absurd (cc (is))
some_sent (Some sent) count is = refl

-- what was sent is taken where more waits: nothing is served
pub taken_first : (n : ℕ) (m : Memory) (old new : List DeviceState) (count : ℕ)
    → Some count ≡ option_map (λ (sent : List ℕ). length sent) (sent_by n old)
    → new ≡ changed_at (with_model without_sent) n old → is_some (sent_by n new) ≡ true → At TakesSent n m m old new
taken_first n m old new count sent is more =
    let from = sender n old (slice_get old n) refl (some_sent (sent_by n old) count sent) in
    let after = with_model without_sent from.device in
    record {
      before = from.device;
      after = after;
      there = from.there;
      changes = takes_by true m m from.device after
          (more_there n old from.device from.there ∙ more_is n old new is ∙ more) (refl, refl);
      is = is ∙ changed_so (with_model without_sent) n old from.device from.there;
    }

-- and where nothing more waits the queue is served
pub taken_at : (n : ℕ) (m m' : Memory) (old mid new : List DeviceState) (progress : Progress) (count : ℕ)
    → Some count ≡ option_map (λ (sent : List ℕ). length sent) (sent_by n old) → mid ≡ changed_at (with_model without_sent) n old
    → is_some (sent_by n mid) ≡ false
    → DevicesServeTo First (record { chains = None; bytes = None }) progress n 1 m m' mid new
    → At TakesSent n m m' old new
taken_at n m m' old mid new progress count sent is last h =
    let from = sender n old (slice_get old n) refl (some_sent (sent_by n old) count sent) in
    let change = with_model without_sent in
    let done = unlimited_ends First progress n 1 m m' mid new h in
    let served = subst (λ (p : Progress). DevicesServeTo First (record { chains = None; bytes = None }) p n 1 m m' mid new)
    done h in
    let over = subst (λ (l : List DeviceState). DevicesServeTo First (record { chains = None; bytes = None }) Done
    n 1 m m' l new) is served in
    let whole = devices_once (record { chains = None; bytes = None }) n 1 m m' (changed_at change n old) new
    (change from.device) (changed_there change n old from.device from.there) over in
    let at = at_changed change 1 n m m' old new from.device from.there whole in
    record {
      before = at.before;
      after = at.after;
      there = at.there;
      changes = takes_by false m m' at.before at.after
          (more_there n old at.before at.there ∙ more_is n old mid is ∙ last) at.changes;
      is = at.is;
    }

-- where more waits, what was sent is dropped and answered at once
module _ (A : Type 0) (n : ℕ) (view old : BoardSlot) (seen : view ≡ old) (changed : List DeviceState) where
  drops_first : (count : ℕ) → Some count ≡ option_map (λ (sent : List ℕ). length sent) (sent_by n view.devices)
      → changed ≡ changed_at (with_model without_sent) n view.devices → is_some (sent_by n changed) ≡ true
      → DoesToDevice {A = A} n DropSent view (having view changed) (Took count)
  drops_first count sent is more = by_sent (sent_by n view.devices) refl sent
    where
      by_sent : (found : Option (List ℕ)) → sent_by n view.devices ≡ found
          → Some count ≡ option_map (λ (bytes : List ℕ). length bytes) found
          → DoesToDevice {A = A} n DropSent view (having view changed) (Took count)
      by_sent None there counts = absurd (cc (counts))
      by_sent (Some bytes) there counts = record {
        given = λ image health.
            inl (record { alike = gives image health; answered = λ lacks. cc (lacks); failures = refl });
        rest = refl;
        range = same_range view.memory;
        there = λ is. cc (is);
        in_range = λ is. cc (is);
        no_memory = λ lacks. absurd (cc (lacks));
      }
        where
          answer : ℕ → Option (Reply A)
          answer k = Some (Took k)

          answers : reply_at {A = A} n DropSent (state_of [] view) ≡ Some (Took count)
          answers =
              ap (λ (o : Option (Option (List ℕ))). option_map (λ s. Took (length (unwrap_or s []))) o)
              (outgoing_is (outgoing_at n view.devices) bytes there)
              ∙ ap answer (sym (same_Some count (length bytes) counts))

          none_asked : (image : List ℕ) → device_asks {A = A} n DropSent (state_of image view) ≡ None
          none_asked image = more_asks A n view (more_is n view.devices changed is ∙ more)

          gives : (image : List ℕ) (health : Health)
              → GivesOverImage {A = A} (state_of image view) (Device n DropSent) health health
              (replies (state_of image (having view changed)) (Took count))
          gives image health =
              subst (λ (asked : Option Pause). GivesAtDevice (option_and_then (λ pause. image_served pause.service
              (state_of image view)) asked) n DropSent (state_of image view) health health
              (replies {A = A} (state_of image (having view changed)) (Took count))) (sym (none_asked image))
              (rw answers (record {
                at = rw there (taken_first n view.memory view.devices changed count sent is more);
                is = refl;
                image = refl;
              }))

  pub first_dropped : (count : ℕ) → Some count ≡ option_map (λ (sent : List ℕ). length sent) (sent_by n view.devices)
      → changed ≡ changed_at (with_model without_sent) n view.devices → is_some (sent_by n changed) ≡ true
      → AnswersAtDevice {A = A} n DropSent old (having view changed) (Took count)
  first_dropped count sent is more =
      subst (λ (s : BoardSlot). AnswersAtDevice {A = A} n DropSent s (having view changed) (Took count)) seen
      (record {
        asks = more_asks A n view (more_is n view.devices changed is ∙ more);
        does = drops_first count sent is more;
      })
