-- `sound::all_lawful` meets its contract. The loop's invariant: `worst` is a rate's rank where the bytes up to this one are rates or 255.
use mathlib.Core.Path.{◌≡◌}
use mathlib.Core.Bool.{◌&&◌}
use lib.Dec.{leb}
use lib.ListN.{drop}
use Rattle.rules.specs.Store.{all, lawful_byte}
use Rattle.schedule.specs.Rates.{highest_rank}
use Rattle.schedule.proofs.sound.all_lawful.Given as goal

abbrev pub invariant-loop-x : goal.invariant-loop-x
invariant-loop-x l = all lawful_byte l.s ≡ (leb l.worst highest_rank && all lawful_byte (drop l.x-index l.s))
