-- What the functions that put records require: fields of their lengths, and room for them.
use Rattle.std.specs.Prelude.{ℕ, ◌+◌, ◌-◌, ◌*◌, ◌≤◌, ◌≡◌, List, length}
use Rattle.rules.specs.Writer.{Fields}
use Rattle.layout.specs.Places.{schedule_digits, plant_digits, start_digits, rates_place}
use Rattle.plan.specs.Given.{UpdateGiven, MonthsGiven}

pub record HeadRoom (room at : ℕ) (schedule plant start rates : List ℕ) : Type 0 where
  pub schedule-long : length schedule ≡ schedule_digits
  pub plant-long : length plant ≡ plant_digits
  pub start-long : length start ≡ start_digits
  pub few : length rates ≤ 99999
  pub enough : at + (rates_place + length rates) ≤ room

pub record MonthRoom (room at : ℕ) (schedule plant rates : List ℕ) : Type 0 where
  pub schedule-long : length schedule ≡ schedule_digits
  pub plant-long : length plant ≡ plant_digits
  pub few : length rates ≤ 99999
  pub enough : at + (55 + length rates) ≤ room

pub record UpdateRoom (room at : ℕ) (w : Fields) : Type 0 where
  pub given : UpdateGiven w
  pub enough : at + (70 + length w.rates) ≤ room

pub record MonthsRoom (room at : ℕ) (w : Fields) (first end : ℕ) : Type 0 where
  pub given : MonthsGiven w first end
  pub enough : at + (55 * (end - first) + length w.rates) ≤ room
