-- `sound::store_holds` meets its contract. The loop's invariant: the flag says that the held blocks so far are sound.
use mathlib.Core.Path.{◌≡◌}
use lib.ListN.{length}
use Rattle.rules.specs.Store.{sound_store}
use Rattle.pool.specs.Held.{held_below}
use Rattle.schedule.proofs.sound.store_holds.Given as goal

abbrev pub invariant-loop-b : goal.invariant-loop-b
invariant-loop-b l = l.good ≡ sound_store (held_below (length l.yielded) l.fn.pool) l.store
