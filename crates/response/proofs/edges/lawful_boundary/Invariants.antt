-- `response::edges::lawful_boundary` meets its contract.
use mathlib.Core.Path.{◌≡◌}
use mathlib.Core.Bool.{◌&&◌}
use lib.ListN.{drop}
use Rattle.rules.specs.Response.{all_letters}
use Rattle.response.proofs.edges.lawful_boundary.Given as goal

abbrev pub invariant-loop-x : goal.invariant-loop-x
invariant-loop-x l = all_letters l.b ≡ (l.all && all_letters (drop l.x-index l.b))
