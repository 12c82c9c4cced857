-- The writer's and the request's refusals: refused with the lowest row of 01's table that applies, and written exactly where none does.
-- Each statement is proved under its own name in small letters, in proofs/Refusals.antt.
use Rattle.std.specs.Prelude.{ℕ, ◌≡◌, false, List, ◌↔◌}
use Rattle.rules.specs.Table.{applies_in, Lowest}
use Rattle.rules.specs.Writer.{Fields, refuse, bytes, write_body}
use Rattle.rules.specs.Request.{request_bytes, request}
use Rattle.rules.specs.Rows.{body_for, writer_rows, request_rows}
use Rattle.rules.specs.declared.Cause.{Cause}

-- fields, into so much room
abbrev pub RefusesExactly : Type 0
RefusesExactly = (w : Fields) (room : ℕ) (c : Cause) → (write_body w room ≡ refuse c) ↔ Lowest (writer_rows w room) c

abbrev pub WritesExactly : Type 0
WritesExactly =
    (w : Fields) (room : ℕ) (b : List ℕ)
    → (write_body w room ≡ bytes b) ↔ (((c : Cause) → applies_in (writer_rows w room) c ≡ false) × (b ≡ body_for w))

-- an ID, a MAC address and a segment, into so much room
abbrev pub RequestRefuses : Type 0
RequestRefuses =
    (id mac segment : List ℕ) (room : ℕ) (c : Cause)
    → (request id mac segment room ≡ refuse c) ↔ Lowest (request_rows id mac segment room) c

abbrev pub RequestWrites : Type 0
RequestWrites =
    (id mac segment : List ℕ) (room : ℕ) (b : List ℕ)
    → (request id mac segment room ≡ bytes b)
    ↔ (((c : Cause) → applies_in (request_rows id mac segment room) c ≡ false) × (b ≡ request_bytes id mac segment))
