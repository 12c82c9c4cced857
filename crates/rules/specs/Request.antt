-- The request (01, Beside the unit): 84 bytes from plant ID, MAC address and segment.
use Rattle.std.specs.Prelude.{ℕ, List, [], ◌∷◌, ◌++◌}
use Rattle.rules.specs.Digits.{to_ascii}
use Rattle.rules.specs.Plant.{plant_id, mac_address}
use Rattle.rules.specs.Name.{any_segment}
use Rattle.rules.specs.Table.{need}
use Rattle.rules.specs.Writer.{Output, refuse, fitting}
use Rattle.rules.specs.declared.Cause.{Cause}

-- 'power_plant_id=', '&mac_address=' and '&schedule_kbn='
abbrev pub plant_parameter : List ℕ
plant_parameter = 112 ∷ 111 ∷ 119 ∷ 101 ∷ 114 ∷ 95 ∷ 112 ∷ 108 ∷ 97 ∷ 110 ∷ 116 ∷ 95 ∷ 105 ∷ 100 ∷ 61 ∷ []

abbrev pub mac_parameter : List ℕ
mac_parameter = 38 ∷ 109 ∷ 97 ∷ 99 ∷ 95 ∷ 97 ∷ 100 ∷ 100 ∷ 114 ∷ 101 ∷ 115 ∷ 115 ∷ 61 ∷ []

abbrev pub segment_parameter : List ℕ
segment_parameter = 38 ∷ 115 ∷ 99 ∷ 104 ∷ 101 ∷ 100 ∷ 117 ∷ 108 ∷ 101 ∷ 95 ∷ 107 ∷ 98 ∷ 110 ∷ 61 ∷ []

-- 'digits in ASCII'; MAC and segment are ASCII already
unfoldable pub request_bytes : List ℕ → List ℕ → List ℕ → List ℕ
request_bytes id mac segment =
    plant_parameter ++ (to_ascii id ++ (mac_parameter ++ (mac ++ (segment_parameter ++ segment))))

-- into so much room; a segment that no name may have is cause 7
unfoldable pub request : List ℕ → List ℕ → List ℕ → ℕ → Output
request id mac segment room =
    need (plant_id id) (refuse Cause.PlantId)
    (need (mac_address mac) (refuse Cause.Setting)
    (need (any_segment segment) (refuse Cause.Name)
    (fitting room (request_bytes id mac segment))))
