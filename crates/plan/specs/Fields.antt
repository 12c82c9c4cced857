-- The fields of a body, as the writer's arguments give them.
use Rattle.std.specs.Prelude.{ℕ, List, []}
use Rattle.rules.specs.Writer.{Fields}
use Rattle.plan.specs.declared.Fields.{Fields as Lent}

abbrev pub fields_of : ℕ → List ℕ → List ℕ → List ℕ → List ℕ → List ℕ → ℕ → Fields
fields_of format plant schedule start next rates flag = record {
  format = format;
  plant = plant;
  schedule = schedule;
  start = start;
  next = next;
  rates = rates;
  flag = flag;
}

-- those that a struct of slices lends
abbrev pub given : Lent → Fields
given w = fields_of w.format w.plant.now w.schedule.now w.start.now w.next.now w.rates.now w.flag

-- those that a month's record takes over: the month and its rates are given beside them
abbrev pub month_fields : List ℕ → List ℕ → Fields
month_fields plant schedule = fields_of 0 plant schedule [] [] [] 0
