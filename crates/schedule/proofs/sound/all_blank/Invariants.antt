-- `sound::all_blank` meets its contract. The loop's invariant: the flag says that the bytes up to this one are 255.
use mathlib.Core.Path.{◌≡◌}
use mathlib.Core.Bool.{◌&&◌}
use lib.ListN.{drop}
use Rattle.rules.specs.Store.{all}
use Rattle.schedule.specs.Rates.{blank_byte}
use Rattle.schedule.proofs.sound.all_blank.Given as goal

abbrev pub invariant-loop-x : goal.invariant-loop-x
invariant-loop-x l = all blank_byte l.s ≡ (l.good && all blank_byte (drop l.x-index l.s))
