-- The request of a unit by the rows of 01's table: the lowest that applies is its refusal, and where none applies it writes the request's bytes.
-- `request_of` is what the contracts of `Unit::request` and, by ExportsSay, of `jag_request` say, with the buffer's bytes.
use Rattle.std.specs.Prelude.{ℕ, ◌≡◌, false, not, List, [], ◌∷◌, ◌↔◌}
use Rattle.rules.specs.Name.{any_segment}
use Rattle.rules.specs.Request.{request_bytes}
use Rattle.rules.specs.Rows.{room_breaks}
use Rattle.rules.specs.Table.{Row, row, applies_in, Lowest}
use Rattle.rules.specs.Writer.{refuse, bytes}
use Rattle.rules.specs.declared.Cause.{Cause}
use Rattle.unit.specs.Values.{is_sound}
use Rattle.unit.specs.Request.{request_of}
use Rattle.unit.specs.declared.Unit.{Unit}

-- no row for the clock, which a request does not need, nor for ID and MAC address, which are a sound unit's own
unfoldable pub own_rows : Unit → List ℕ → ℕ → List Row
own_rows u segment room =
    row Cause.Unsound (not (is_sound u))  -- 4: 'unit, or a lent store, not sound'
    ∷ row Cause.Name (not (any_segment segment))  -- 7: 'a request's segment, breaks its form'
    ∷ row Cause.Buffer (room_breaks (request_bytes u.plant.id u.plant.mac segment) room)  -- 15: 'output longer than the lent buffer'
    ∷ []

abbrev pub OwnRequestRefuses : Type 0
OwnRequestRefuses = (u : Unit) (segment : List ℕ) (room : ℕ) (c : Cause) → (request_of u segment room ≡ refuse c) ↔ Lowest (own_rows u segment room) c

abbrev pub OwnRequestWrites : Type 0
OwnRequestWrites =
    (u : Unit) (segment : List ℕ) (room : ℕ) (b : List ℕ)
    → (request_of u segment room ≡ bytes b)
    ↔ (((c : Cause) → applies_in (own_rows u segment room) c ≡ false) × (b ≡ request_bytes u.plant.id u.plant.mac segment))
