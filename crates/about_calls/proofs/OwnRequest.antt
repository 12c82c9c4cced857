-- The request of a unit: its rows are those of the request from an ID and a MAC address, after the unit's own.
use Prim.Native.Nat.{ℕ}
use mathlib.Core.Path.{◌≡◌, refl}
use mathlib.Core.Bool.{Bool, true, false, ◌&&◌, not-not}
use mathlib.Core.List.{List}
use Rattle.rules.specs.Name.{any_segment}
use Rattle.rules.specs.Plant.{plant_id, mac_address, valid_settings}
use Rattle.rules.specs.Request.{request, request_bytes}
use Rattle.plant.specs.Plant.{settings_of, valid_plant}
use Rattle.laws.proofs.Tests.{both}
use Rattle.about_files.proofs.Refusals.{judged, judged-refuses, judged-writes, room-is}
use Rattle.unit.specs.Values.{is_sound}
use Rattle.unit.specs.Request.{request_of}
use Rattle.unit.specs.declared.Unit.{Unit}
use Rattle.unit.proofs.SoundParts.{sound-parts}
use Rattle.about_calls.specs.OwnRequest.{own_rows, OwnRequestRefuses, OwnRequestWrites}

-- a sound unit has an ID and a MAC address
own-plant : (u : Unit) → is_sound u ≡ true → (plant_id u.plant.id ≡ true) × (mac_address u.plant.mac ≡ true)
unfolding valid_plant
own-plant u good =
    let id = plant_id u.plant.id in
    let mac = mac_address u.plant.mac in
    let w = both (id && mac) (valid_settings (settings_of u.plant)) (sound-parts u good).plant in
    both id mac w.0

own-judged : (u : Unit) (segment : List ℕ) (room : ℕ)
    → request_of u segment room ≡ judged (own_rows u segment room) (request_bytes u.plant.id u.plant.mac segment)
unfolding request_of request own_rows
own-judged u segment room = go (is_sound u) refl
  where
    go : (t : Bool) → is_sound u ≡ t → request_of u segment room ≡ judged (own_rows u segment room) (request_bytes u.plant.id u.plant.mac segment)
    go true e =
        let own = own-plant u e in
        rw (e, own.0, own.1, not-not (any_segment segment), room-is (request_bytes u.plant.id u.plant.mac segment) room) refl
    go false e = rw e refl

pub own-request-refuses : OwnRequestRefuses
unfolding own_rows
own-request-refuses u segment room c =
    rw (own-judged u segment room) (judged-refuses (own_rows u segment room) (request_bytes u.plant.id u.plant.mac segment) refl c)

pub own-request-writes : OwnRequestWrites
own-request-writes u segment room b =
    rw (own-judged u segment room) (judged-writes (own_rows u segment room) (request_bytes u.plant.id u.plant.mac segment) b)
