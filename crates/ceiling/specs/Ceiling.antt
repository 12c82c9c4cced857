-- The ceiling of a slot (01, Time, plant, settings): 'a rate r (percent of C) becomes p = floor(r × C ÷ P) percent of P'.
use Rattle.std.specs.Prelude.{ℕ, Option, None, Some}
use Rattle.rules.specs.Plant.{Settings, percent}
use Rattle.rules.specs.declared.Ceiling.{Ceiling}

-- by the rate that a slot has, if it has one
abbrev pub slot_ceiling : Settings → Option ℕ → Option Ceiling
slot_ceiling s None = None
slot_ceiling s (Some r) = Some (record { rate = r; percent = percent s r })
