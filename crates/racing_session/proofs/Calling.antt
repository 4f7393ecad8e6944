-- What a call of the guest is for the session that owns it.
use Rattle.std.proofs.Common.{◌≡◌, ◌∙◌, ℕ, Bool, true, false, List, [], Option, Some, None, Result, refl, sym, ap, subst}
use Rattle.std.specs.Prelude.{IfSome, get_or}
use Rattle.std.specs.List.{slice_get}
use Rattle.guest_memory.specs.declared.spec.RegionSpec.{RegionSpec}
use Rattle.guest_memory.specs.Faults.{zeroed_regions}
use Rattle.guest_memory.specs.Memory.{Memory, SameRange}
use Rattle.guest_memory.specs.Pages.{bits_of}
use Rattle.guest_memory.proofs.Ranges.{same_trans}
use Rattle.chain.specs.declared.budget.Progress as chain
use Rattle.chain.specs.declared.segment.Segment.{Segment}
use Rattle.shared_memory.specs.Sightings.{Sightings, memory}
use Rattle.shared_memory.proofs.Sightings.{same_back}
use Rattle.racing_memory.specs.Past.{Seen, filled, sightings_of}
use Rattle.racing_memory.proofs.Seeing.{newest_range}
use Rattle.block_device.specs.declared.operation.HostEvent.{HostEvent}
use Rattle.block_device.specs.declared.operation.Operation.{Operation}
use Rattle.block_device.specs.Operation.{LiesInside}
use Rattle.racing_hosted_disk.specs.declared.look.LookLimits.{LookLimits}
use Rattle.racing_service.specs.declared.service.Limits.{Limits}
use Rattle.block_device.specs.Tags.{operation_in, runs_in}
use Rattle.output_queue.specs.Waiting.{Waiting}
use Rattle.device_list.specs.Device.{DeviceState}
use Rattle.device_list.specs.List.{AreSoundDevices}
use Rattle.device_list.proofs.Sound.{still_sound}
use Rattle.racing_guest.specs.declared.reply.GuestQueue.TheVariants as queue
use Rattle.racing_guest.specs.declared.reply.GuestWindow.{GuestWindow}
use Rattle.racing_guest.specs.declared.reply.Reply.{Reply}
use Rattle.racing_guest.specs.Guest.{IsSoundGuest, IsTold, RacingGuest, TakesInput, WritesGuest, service_limits}
use Rattle.racing_guest.proofs.Holding.{guest_still, told_inside}
use Rattle.racing_session.specs.declared.due.Due.{Due}
use Rattle.racing_session.specs.declared.progress.Progress.{Progress}
use Rattle.racing_session.specs.declared.progress.Refusal.{Refusal}
use Rattle.racing_session.specs.Answering.{answer_by, has_asked, has_asked_by, progress_by}
use Rattle.racing_session.specs.Due.{due_after, due_by, none_due}
use Rattle.racing_session.specs.Devices.{IsWrittenTo, ServesBehind}
use Rattle.racing_session.specs.Further.{Further, ServesDue, ServesNotified, WritesDevice}
use Rattle.racing_session.specs.Session.{Between, GoesOn, IsMemoryOf, IsSaid, IsSoundSession, IsTyped, IsWritten, RacingSession, ServesIf, came_to, in_flight, is_due_in, unseen}

abbrev pub session_of : RacingGuest → List RegionSpec → List Bool → Waiting → Due → LookLimits → Further → RacingSession
session_of guest regions pages output due limits further = record {
  guest = guest;
  regions = regions;
  pages = pages;
  output = output;
  due = due;
  limits = limits;
  further = further;
}

-- one is known by its parts
pub made_so : {guest guest' : RacingGuest} {regions regions' : List RegionSpec} {pages : List Bool} {output output' : Waiting}
    {due due' : Due} {limits : LookLimits} {further further' : Further} → guest ≡ guest' → regions ≡ regions' → pages ≡ []
    → output ≡ output' → due ≡ due' → further ≡ further'
    → session_of guest regions pages output due limits further ≡ session_of guest' regions' [] output' due' limits further'
made_so g r p o d f = rw (g, r, p, o, d, f) refl

pub kept_so : {guest guest' : RacingGuest} {regions : List RegionSpec} {pages pages' : List Bool} {output : Waiting} {due : Due}
    {limits : LookLimits} {further : Further} {session : RacingSession}
    → session_of guest regions pages output due limits further ≡ session → guest' ≡ guest → pages' ≡ pages
    → session_of guest' regions pages' output due limits further ≡ session
kept_so view g p = rw (g, p) view

-- ---- what the host is told

told_if : (m : Memory) (guest : RacingGuest) (tag : ℕ) (found : Option Operation) → IsSoundGuest m guest
    → operation_in (get_or guest.block.disk.tags tag None) ≡ found
    → IfSome found (λ operation. LiesInside guest.block.disk.device.extent.count m operation
    (runs_in (get_or guest.block.disk.tags tag None)))
told_if m guest tag None sound is = tt
told_if m guest tag (Some operation) sound is = told_inside m guest.block tag operation sound.block is

abbrev TellsInside : RacingSession → ℕ → List Segment → Type 0
TellsInside session tag runs = (m : Memory) → IsMemoryOf session m
    → IfSome (operation_in (get_or session.guest.block.disk.tags tag None))
    (λ operation. LiesInside session.guest.block.disk.device.extent.count m operation runs)

module _ (guest : RacingGuest) (regions : List RegionSpec) (pages : List Bool) (output : Waiting) (due : Due) (limits : LookLimits)
    (further : Further) (session : RacingSession) (is : session_of guest regions pages output due limits further ≡ session)
    (sound : IsSoundGuest (zeroed_regions regions) guest) where
  pub sound_for_each : IsSoundSession session
  sound_for_each =
      subst (λ s. IsSoundSession s) is (λ m same. guest_still (zeroed_regions regions) m guest same sound)

  pub tells_inside : (tag : ℕ) (runs : List Segment) → runs ≡ runs_in (get_or guest.block.disk.tags tag None)
      → TellsInside session tag runs
  tells_inside tag runs runs_are =
      subst (λ s. TellsInside s tag runs) is (λ m same. rw runs_are (told_if m guest tag
      (operation_in (get_or guest.block.disk.tags tag None)) (guest_still (zeroed_regions regions) m guest same sound) refl))

-- ---- the memory of a call

-- the bits of its pages are the session's, which it lent
pub fresh_in : {regions : List RegionSpec} {stood lent kept : List ℕ} {m : Seen}
    → m ≡ record { regions = regions; stood = record { bytes = stood; pages = bits_of lent }; past = [] } → lent ≡ kept
    → m ≡ record { regions = regions; stood = record { bytes = stood; pages = bits_of kept }; past = [] }
fresh_in {regions = regions} {stood = stood} fresh same =
    fresh ∙ ap (λ (items : List ℕ). record { regions = regions; stood = record { bytes = stood; pages = bits_of items }; past = [] })
    same

-- a call that leaves it unseen leaves them
pub left_unmarked : {regions : List RegionSpec} {stood lent kept : List ℕ} {m : Seen} (n : Seen) {pages : List Bool}
    → m ≡ record { regions = regions; stood = record { bytes = stood; pages = bits_of lent }; past = [] } → lent ≡ kept
    → sightings_of n ≡ sightings_of m → pages ≡ (memory (sightings_of n)).pages → pages ≡ bits_of kept
left_unmarked n fresh same unseen is =
    is ∙ ap (λ (s : Sightings). (memory s).pages) unseen
    ∙ ap (λ (seen : Seen). (memory (sightings_of seen)).pages) (fresh_in fresh same)

-- a guest that is sound for these regions is so whatever stands there
pub sound_unseen : (regions : List RegionSpec) (pages : List Bool) (stood : List ℕ) (m : Seen) (guest : RacingGuest)
    → m ≡ record { regions = regions; stood = record { bytes = stood; pages = pages }; past = [] } → IsSoundGuest (zeroed_regions regions) guest
    → IsSoundGuest (memory (sightings_of m)) guest
sound_unseen regions pages stood m guest fresh sound =
    subst (λ (seen : Seen). IsSoundGuest (memory (sightings_of seen)) guest) (sym fresh)
    (guest_still (zeroed_regions regions) (filled regions (record { bytes = stood; pages = pages })) guest (newest_range regions (record { bytes = stood; pages = pages }) []) sound)

-- and behind the call
pub sound_seen : (regions : List RegionSpec) (pages : List Bool) (stood : List ℕ) (m n : Seen) (guest : RacingGuest)
    → m ≡ record { regions = regions; stood = record { bytes = stood; pages = pages }; past = [] }
    → SameRange (memory (sightings_of m)) (memory (sightings_of n)) → IsSoundGuest (memory (sightings_of n)) guest
    → IsSoundGuest (zeroed_regions regions) guest
sound_seen regions pages stood m n guest fresh same sound =
    let old = zeroed_regions regions in
    let from : SameRange old (memory (sightings_of m)) =
    subst (λ (seen : Seen). SameRange old (memory (sightings_of seen))) (sym fresh) (newest_range regions (record { bytes = stood; pages = pages }) []) in
    guest_still (memory (sightings_of n)) old guest
    (same_back old (memory (sightings_of n)) (same_trans old (memory (sightings_of m)) (memory (sightings_of n)) from same))
    sound

-- the same of the further devices
pub devices_unseen : (regions : List RegionSpec) (pages : List Bool) (stood : List ℕ) (m : Seen) (devices : List DeviceState)
    → m ≡ record { regions = regions; stood = record { bytes = stood; pages = pages }; past = [] } → AreSoundDevices (zeroed_regions regions) devices
    → AreSoundDevices (memory (sightings_of m)) devices
devices_unseen regions pages stood m devices fresh sound =
    subst (λ (seen : Seen). AreSoundDevices (memory (sightings_of seen)) devices) (sym fresh)
    (still_sound (zeroed_regions regions) (filled regions (record { bytes = stood; pages = pages })) devices (newest_range regions (record { bytes = stood; pages = pages }) []) sound)

pub devices_seen : (regions : List RegionSpec) (pages : List Bool) (stood : List ℕ) (m n : Seen) (devices : List DeviceState)
    → m ≡ record { regions = regions; stood = record { bytes = stood; pages = pages }; past = [] }
    → SameRange (memory (sightings_of m)) (memory (sightings_of n)) → AreSoundDevices (memory (sightings_of n)) devices
    → AreSoundDevices (zeroed_regions regions) devices
devices_seen regions pages stood m n devices fresh same sound =
    let old = zeroed_regions regions in
    let from : SameRange old (memory (sightings_of m)) =
    subst (λ (seen : Seen). SameRange old (memory (sightings_of seen))) (sym fresh) (newest_range regions (record { bytes = stood; pages = pages }) []) in
    still_sound (memory (sightings_of n)) old devices
    (same_back old (memory (sightings_of n)) (same_trans old (memory (sightings_of m)) (memory (sightings_of n)) from same))
    sound

-- ---- a session behind a call

same_rest : (guest : RacingGuest) (regions : List RegionSpec) (pages : List Bool) (output : Waiting) (limits : LookLimits) (further : Further)
    (bytes : List ℕ) (limit : ℕ) (due due' : Due) (limited : limit ≡ output.limit) (is : due' ≡ due)
    → session_of guest regions pages (record { bytes = bytes; limit = limit }) due' limits further
    ≡ session_of guest regions pages (record { bytes = bytes; limit = output.limit }) due limits further
same_rest guest regions pages output limits further bytes limit due due' limited is =
    ap (λ n. session_of guest regions pages (record { bytes = bytes; limit = n }) due' limits further) limited
    ∙ ap (λ d. session_of guest regions pages (record { bytes = bytes; limit = output.limit }) d limits further) is

module _ (guest : RacingGuest) (regions : List RegionSpec) (pages : List Bool) (output : Waiting) (due : Due) (limits : LookLimits)
    (further : Further) (old : RacingSession) (is : session_of guest regions pages output due limits further ≡ old) (stood : List ℕ) (m n : Seen)
    (fresh : m ≡ record { regions = regions; stood = record { bytes = stood; pages = pages }; past = [] }) (guest' : RacingGuest) (due' : Due) (pages' : List Bool)
    (marks : pages' ≡ (memory (sightings_of n)).pages) where
  pub written : (window : GuestWindow) (offset width value : ℕ) (output' : Waiting) (reply : Reply) (before : ℕ)
      (answer : Result Progress Refusal)
      → WritesGuest window offset width value true limits (Some output.limit) (sightings_of m) (sightings_of n) guest guest'
      output.bytes output'.bytes reply
      → output'.limit ≡ output.limit → due' ≡ due_after reply due → before ≡ in_flight guest
      → answer ≡ answer_by reply (came_to (has_asked before (in_flight guest')) (session_of guest' regions pages' output' due' limits further))
      → IsWritten stood window offset width value old (session_of guest' regions pages' output' due' limits further) answer
  written window offset width value output' reply before answer writes limited due_is before_is answer_is =
      subst (λ s. IsWritten stood window offset width value s (session_of guest' regions pages' output' due' limits further) answer) is (record {
        reply = reply;
        seen = sightings_of n;
        writes = subst (λ seen. WritesGuest window offset width value true limits (Some output.limit) (sightings_of seen)
            (sightings_of n) guest guest' output.bytes output'.bytes reply) fresh writes;
        rest = ap (λ bits. session_of guest' regions bits output' due' limits further) marks
            ∙ same_rest guest' regions (memory (sightings_of n)).pages output limits further output'.bytes output'.limit (due_after reply due) due' limited due_is;
        answer_is = subst (λ k. answer ≡ answer_by reply (came_to (has_asked k (in_flight guest'))
            (session_of guest' regions pages' output' due' limits further))) before_is answer_is;
      })

  pub typed : (bytes : List ℕ) (so_far : chain.Progress) (progress : Progress) (any : Bool)
      → TakesInput bytes true limits (sightings_of m) (sightings_of n) guest guest' so_far
      → due' ≡ due_by queue.Receive so_far due → any ≡ is_due_in (session_of guest' regions pages' output due' limits further) → progress ≡ progress_by any false
      → IsTyped stood bytes old (session_of guest' regions pages' output due' limits further) progress
  typed bytes so_far progress any takes due_is any_is progress_is =
      subst (λ s. IsTyped stood bytes s (session_of guest' regions pages' output due' limits further) progress) is (record {
        so_far = so_far;
        seen = sightings_of n;
        takes = subst (λ seen. TakesInput bytes true limits (sightings_of seen) (sightings_of n) guest guest' so_far) fresh takes;
        rest = ap (λ bits. session_of guest' regions bits output due' limits further) marks
            ∙ ap (λ d. session_of guest' regions (memory (sightings_of n)).pages output d limits further) due_is;
        progress_is = progress_is ∙ ap (λ b. progress_by b false) any_is;
      })

  pub told : (said : HostEvent) (so_far : chain.Progress) (progress : Progress) (any asks : Bool) (before after : ℕ)
      → IsTold said true limits (sightings_of m) (sightings_of n) guest guest' so_far
      → due' ≡ due_by queue.Block so_far due → any ≡ is_due_in (session_of guest' regions pages' output due' limits further) → before ≡ in_flight guest → after ≡ in_flight guest'
      → asks ≡ has_asked_by said before after → progress ≡ progress_by any asks
      → IsSaid stood said old (session_of guest' regions pages' output due' limits further) progress
  told said so_far progress any asks before after tells due_is any_is before_is after_is asks_is progress_is =
      subst (λ s. IsSaid stood said s (session_of guest' regions pages' output due' limits further) progress) is (record {
        so_far = so_far;
        seen = sightings_of n;
        tells = subst (λ seen. IsTold said true limits (sightings_of seen) (sightings_of n) guest guest' so_far) fresh tells;
        rest = ap (λ bits. session_of guest' regions bits output due' limits further) marks
            ∙ ap (λ d. session_of guest' regions (memory (sightings_of n)).pages output d limits further) due_is;
        progress_is = progress_is ∙ ap (λ b. progress_by b asks) any_is
            ∙ ap (λ b. progress_by (is_due_in (session_of guest' regions pages' output due' limits further)) b) (asks_is ∙ ap (λ k. has_asked_by said k after) before_is
            ∙ ap (λ k. has_asked_by said (in_flight guest) k) after_is);
      })

-- ---- a further device

module _ (guest : RacingGuest) (regions : List RegionSpec) (pages : List Bool) (output : Waiting) (due : Due) (limits : LookLimits)
    (further : Further) (old : RacingSession) (is : session_of guest regions pages output due limits further ≡ old) (stood : List ℕ)
    (device : ℕ) where
  -- a session whose further devices are these now
  abbrev pub behind : Further → RacingSession
  behind further' = session_of guest regions pages output due limits further'

  module _ (m n : Seen) (fresh : m ≡ record { regions = regions; stood = record { bytes = stood; pages = pages }; past = [] }) (few : Limits)
      (few_is : few ≡ service_limits limits) (further' : Further) (pages' : List Bool)
      (marks : pages' ≡ (memory (sightings_of n)).pages) (progress : Progress)
      (progress_is : progress ≡ came_to false (session_of guest regions pages' output due limits further')) where
    abbrev after : RacingSession
    after = session_of guest regions pages' output due limits further'

    pub served_behind : (queue : Option ℕ) → ServesNotified queue few device (sightings_of m) (sightings_of n) further further'
        → ServesBehind stood device old.further.devices queue old after progress
    served_behind queue serves =
        subst (λ (s : RacingSession). ServesBehind stood device s.further.devices queue s after progress) is (record {
          seen = sightings_of n;
          serves = subst (λ (k : Limits). ServesNotified queue k device (unseen (behind further) stood) (sightings_of n) further further') few_is
              (subst (λ (seen : Seen). ServesNotified queue few device (sightings_of seen) (sightings_of n) further further') fresh
              serves);
          rest = ap (λ bits. session_of guest regions bits output due limits further') marks;
          progress_is = progress_is;
        })

    pub written_to : (offset width value : ℕ)
        → WritesDevice few device offset width value (slice_get further.devices device) (sightings_of m) (sightings_of n) further
        further' → IsWrittenTo stood device offset width value old after progress
    written_to offset width value writes =
        subst (λ (s : RacingSession). IsWrittenTo stood device offset width value s after progress) is (record {
          seen = sightings_of n;
          writes = subst (λ (k : Limits). WritesDevice k device offset width value (slice_get further.devices device)
              (unseen (behind further) stood) (sightings_of n) further further') few_is
              (subst (λ (seen : Seen). WritesDevice few device offset width value (slice_get further.devices device)
              (sightings_of seen) (sightings_of n) further further') fresh writes);
          rest = ap (λ bits. session_of guest regions bits output due limits further') marks;
          progress_is = progress_is;
        })

  -- its host changed the devices before
  pub changed_behind : (changed : List DeviceState) (middle : Further) → middle ≡ record further { devices = changed }
      → (queue : Option ℕ) (new : RacingSession) (progress : Progress)
      → ServesBehind stood device middle.devices queue (behind middle) new progress
      → ServesBehind stood device changed queue old new progress
  changed_behind changed middle made queue new progress serves =
      subst (λ (s : RacingSession). ServesBehind stood device changed queue s new progress) is
      (subst (λ (f : Further). ServesBehind stood device f.devices queue (behind f) new progress
      → ServesBehind stood device changed queue (behind further) new progress) (sym made) (λ same. record {
        seen = same.seen;
        serves = same.serves;
        rest = same.rest;
        progress_is = same.progress_is;
      }) serves)

-- ---- what is due is served

abbrev pub between : RacingGuest → Waiting → Seen → Between
between guest output m = record { guest = guest; output = output.bytes; seen = sightings_of m }

module _ (guest : RacingGuest) (regions : List RegionSpec) (pages : List Bool) (output : Waiting) (due : Due) (limits : LookLimits)
    (further : Further) (old : RacingSession) (is : session_of guest regions pages output due limits further ≡ old) (stood : List ℕ) (m m1 m2 m3 : Seen)
    (fresh : m ≡ record { regions = regions; stood = record { bytes = stood; pages = pages }; past = [] }) (g1 g2 g3 : RacingGuest) (o1 o2 o3 : Waiting)
    (r1 r2 r3 : Reply) where
  -- as far as the last service
  pub sound_behind : SameRange (memory (sightings_of m)) (memory (sightings_of m1))
      → SameRange (memory (sightings_of m1)) (memory (sightings_of m2))
      → SameRange (memory (sightings_of m2)) (memory (sightings_of m3))
      → IsSoundGuest (memory (sightings_of m3)) g3 → IsSoundGuest (zeroed_regions regions) g3
  sound_behind first second third sound =
      let a = memory (sightings_of m) in let d = memory (sightings_of m3) in
      let all : SameRange a d = same_trans a _ d (same_trans a _ _ first second) third in
      sound_seen regions pages stood m m3 g3 fresh all sound

  all_same : SameRange (memory (sightings_of m)) (memory (sightings_of m1))
      → SameRange (memory (sightings_of m1)) (memory (sightings_of m2))
      → SameRange (memory (sightings_of m2)) (memory (sightings_of m3))
      → SameRange (memory (sightings_of m)) (memory (sightings_of m3))
  all_same first second third =
      let a = memory (sightings_of m) in let d = memory (sightings_of m3) in
      same_trans a _ d (same_trans a _ _ first second) third

  -- the further devices, which come behind them
  pub devices_behind : SameRange (memory (sightings_of m)) (memory (sightings_of m1))
      → SameRange (memory (sightings_of m1)) (memory (sightings_of m2))
      → SameRange (memory (sightings_of m2)) (memory (sightings_of m3))
      → AreSoundDevices (zeroed_regions regions) further.devices → AreSoundDevices (memory (sightings_of m3)) further.devices
  devices_behind first second third sound =
      still_sound (memory (sightings_of m)) (memory (sightings_of m3)) further.devices (all_same first second third)
      (devices_unseen regions pages stood m further.devices fresh sound)

  pub devices_after : SameRange (memory (sightings_of m)) (memory (sightings_of m1))
      → SameRange (memory (sightings_of m1)) (memory (sightings_of m2))
      → SameRange (memory (sightings_of m2)) (memory (sightings_of m3)) → (n : Seen)
      → SameRange (memory (sightings_of m3)) (memory (sightings_of n)) → (devices : List DeviceState)
      → AreSoundDevices (memory (sightings_of n)) devices → AreSoundDevices (zeroed_regions regions) devices
  devices_after first second third n last devices sound =
      let a = memory (sightings_of m) in let d = memory (sightings_of n) in
      devices_seen regions pages stood m n devices fresh (same_trans a _ d (all_same first second third) last) sound

  pub goes_on : (d1 d2 d3 none : Due) (before : ℕ) (answer : Result Progress Refusal) (n : Seen) (further' : Further)
      (pages' : List Bool) → pages' ≡ (memory (sightings_of n)).pages
      → ServesIf due.block limits output.limit queue.Block (between guest output m) (between g1 o1 m1) r1
      → ServesIf due.receive limits o1.limit queue.Receive (between g1 o1 m1) (between g2 o2 m2) r2
      → ServesIf due.transmit limits o2.limit queue.Transmit (between g2 o2 m2) (between g3 o3 m3) r3
      → o1.limit ≡ output.limit → o2.limit ≡ o1.limit → o3.limit ≡ o2.limit
      → none ≡ none_due → d1 ≡ due_after r1 none → d2 ≡ due_after r2 d1 → d3 ≡ due_after r3 d2
      → before ≡ in_flight guest
      → (few : Limits) → few ≡ service_limits limits → ServesDue few (sightings_of m3) (sightings_of n) further further'
      → answer ≡ answer_by r3 (came_to (has_asked before (in_flight g3)) (session_of g3 regions pages' o3 d3 limits further'))
      → GoesOn stood old (session_of g3 regions pages' o3 d3 limits further') answer
  goes_on d1 d2 d3 none before answer n further' pages' marks block receive transmit l1 l2 l3 n_is e1 e2 e3 before_is few few_is serves
      answer_is =
      subst (λ s. GoesOn stood s (session_of g3 regions pages' o3 d3 limits further') answer) is (record {
        looked = between g1 o1 m1;
        received = between g2 o2 m2;
        transmitted = between g3 o3 m3;
        reply_block = r1;
        reply_receive = r2;
        reply_transmit = r3;
        block = subst (λ seen. ServesIf due.block limits output.limit queue.Block (between guest output seen)
            (between g1 o1 m1) r1) fresh block;
        receive = subst (λ n. ServesIf due.receive limits n queue.Receive (between g1 o1 m1) (between g2 o2 m2) r2) l1 receive;
        transmit = subst (λ n. ServesIf due.transmit limits n queue.Transmit (between g2 o2 m2) (between g3 o3 m3) r3)
            (l2 ∙ l1) transmit;
        seen = sightings_of n;
        further = subst (λ (k : Limits). ServesDue k (sightings_of m3) (sightings_of n) further further') few_is serves;
        rest = ap (λ bits. session_of g3 regions bits o3 d3 limits further') marks
            ∙ same_rest g3 regions (memory (sightings_of n)).pages output limits further' o3.bytes o3.limit
            (due_after r3 (due_after r2 (due_after r1 none_due))) d3 (l3 ∙ l2 ∙ l1)
            (e3 ∙ ap (λ d. due_after r3 d) (e2 ∙ ap (λ d. due_after r2 d) (e1 ∙ ap (λ d. due_after r1 d) n_is)));
        answer_is = subst (λ k. answer ≡ answer_by r3 (came_to (has_asked k (in_flight g3))
            (session_of g3 regions pages' o3 d3 limits further'))) before_is answer_is;
      })
