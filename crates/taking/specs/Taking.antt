-- What the code that takes a file goes by: the records that stand in a body's bytes, and the summary of a file that reads well.
use Rattle.std.specs.Prelude.{ℕ, ◌%◌, ◌≡◌, true, List, Ok, Option, None, Some}
use Rattle.rules.specs.Store.{Requests as RequestValues}
use Rattle.rules.specs.Machine.{take_year, take_update}
use Rattle.rules.specs.declared.Format.{Format}
use Rattle.rules.specs.declared.Format.TheVariants.{F201, F202, F203, F301}
use Rattle.form.specs.Walk.{shaped, records_from}
use Rattle.rules.specs.declared.Summary.{Summary}
use Rattle.rules.specs.declared.Update.{Update}
use Rattle.about_store.specs.Run.{RunFrom}
use Rattle.pool.specs.declared.Pool.{Pool}
use Rattle.polling.specs.declared.Requests.{Requests}
use Rattle.unit.specs.declared.Unit.{Unit}
use Rattle.unit.specs.Changed.{Done}

-- t is k records, which follow each other from slot `slot` on
pub record Following (f : Format) (k slot : ℕ) (t : List ℕ) : Type 0 where
  pub form : shaped f k t ≡ true
  pub run : RunFrom slot (records_from f k t)

-- 'if its flag differs from w, w becomes it, k = f = 0; u becomes the next access': what a 203 brings to the requests at that clock
abbrev pub take_noted : ℕ → Option Update → RequestValues → RequestValues
take_noted clock None q = q
take_noted clock (Some u) q = take_update clock u.flag u.next_access q

-- and any file, by its summary: '201: h becomes the segment's last digit', '202: nothing more'
abbrev pub take_summary : ℕ → Format → Summary → RequestValues → RequestValues
take_summary clock F201 x q = take_year (x.segment % 10) q
take_summary clock F202 x q = q
take_summary clock F203 x q = take_noted clock x.update q
take_summary clock F301 x q = q

-- the unit with this pool and these requests, and the file accepted
abbrev pub filed : Unit → Pool → Requests → Done
filed u pool requests = record {
  unit = record { plant = u.plant; pool = pool; requests = requests; clock = u.clock; floor = u.floor; command = u.command };
  answer = Ok tt;
}
