-- What a plan says of the fields that it was made of: their lengths, an update's flag, and rates for each slot of its months.
use Rattle.std.specs.Prelude.{ℕ, ◌+◌, ◌≤◌, ◌≡◌, length}
use Rattle.rules.specs.Calendar.{first_slot, month_count}
use Rattle.rules.specs.Writer.{Fields}
use Rattle.layout.specs.Places.{schedule_digits, plant_digits, start_digits}

-- the fields of an update
pub record UpdateGiven (w : Fields) : Type 0 where
  pub schedule-long : length w.schedule ≡ schedule_digits
  pub plant-long : length w.plant ≡ plant_digits
  pub start-long : length w.start ≡ start_digits
  pub next-long : length w.next ≡ 14
  pub few : length w.rates ≤ 336
  pub digit : w.flag ≤ 9

-- months from `first` to before `end`, and rates for each of their slots
pub record MonthsGiven (w : Fields) (first end : ℕ) : Type 0 where
  pub schedule-long : length w.schedule ≡ schedule_digits
  pub plant-long : length w.plant ≡ plant_digits
  pub order : first ≤ end
  pub last : end ≤ month_count
  pub few : end ≤ first + 13
  pub full : first_slot first + length w.rates ≡ first_slot end
