use Rattle.std.proofs.Common.{◌≡◌, ℕ, ◌<◌, List, [], ◌∷◌, ◌∙◌, Option, arith, get_or, length, map, rules, sym}
use Rattle.std.proofs.lemmas.List.{get_or-map, length-map, same_lists}
use Rattle.c_values.specs.declared.slot.Device.{Device}
use Rattle.device_list.specs.declared.spec.DeviceSpec.{DeviceSpec}
use Rattle.board_ffi.specs.Config.{device_of}
use Rattle.board_ffi.proofs.device.all_described.Goals as goal

-- a list whose items are those of another, each through a function
mapped : {X Y : Type 0} (f : X → Y) (xs : List X) (ys : List Y) → length ys ≡ length xs
    → ((i : ℕ) (d : X) (e : Y) → i < length xs → get_or ys i e ≡ f (get_or xs i d)) → ys ≡ map f xs
mapped f [] ys long each = same_lists ys [] long (λ k d few. absurd (omega (arith, few, long)))
mapped f (x ∷ xs) ys long each =
    same_lists ys (map f (x ∷ xs)) (long ∙ sym (length-map (x ∷ xs) f))
    (λ k d few. each k x d (omega (arith, few, long)) ∙ sym (get_or-map f (x ∷ xs) k x d (omega (arith, few, long))))

pub returns : goal.returns
returns c =
    let is = c.map.ensures.items in
    let six : length c.args.devices ≡ 6 = search (rules, c.well_formed.0) in
    let each : (i : ℕ) (d : Device) (e : Option DeviceSpec) → i < length c.args.devices
    → get_or c.map.result i e ≡ device_of (get_or c.args.devices i d) =
    λ i d e few. let at = is.at i d e (omega (arith, few, six, is.long)) in search (rules, at) in
    mapped device_of c.args.devices c.map.result (omega (arith, six, is.long)) each
