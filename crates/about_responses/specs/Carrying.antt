-- Every lawful schedule file comes in some lawful response: the promises on what a response carries speak of every such file.
-- Proved in proofs/Carrying.antt: `file-carried`.
use Rattle.std.specs.Prelude.{ℕ, ◌≡◌, true, List, Option}
use Rattle.rules.specs.Name.{encode_name}
use Rattle.rules.specs.Body.{encode_body, is_schedule}
use Rattle.rules.specs.File.{File, lawful}
use Rattle.rules.specs.Response.{lawful_boundary}
use Rattle.about_responses.specs.Exact.{Carried}

-- every schedule file has a response that carries it, between every lawful boundary: what `AcceptsResponse` speaks of exists for every lawful file
abbrev pub FileCarried : Type 0
FileCarried =
    (plant : Option (List ℕ)) (f : File) (boundary : List ℕ)
    → lawful plant f ≡ true
    → is_schedule f.name.format ≡ true
    → lawful_boundary boundary ≡ true
    → (s : List ℕ) × Carried boundary s (encode_name f.name) (encode_body f.body)
