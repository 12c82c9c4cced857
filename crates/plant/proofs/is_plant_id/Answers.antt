-- `plant::is_plant_id` meets its contract: the digits before the last are 25.
use mathlib.Core.Path.{sym}
use native.Mathlib.Omega.{arith}
use lib.Seq.{length-take-le}
use Rattle.plant.proofs.is_plant_id.Goals as goal

pub slice_bounds-weighted_sum-end : goal.slice_bounds-weighted_sum-end
slice_bounds-weighted_sum-end c = sym (length-take-le 25 c.args.id.now (omega arith))

pub weighted_sum-requires : goal.weighted_sum-requires
weighted_sum-requires c = simp (length-take-le 25 c.args.id.now (omega arith)) (omega arith)
