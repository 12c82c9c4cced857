use mathlib.Core.Path.{◌≡◌}
use mathlib.Core.Bool.{◌&&◌}
use lib.ListN.{length}
use Rattle.std.specs.Slice.Iter.{iter_rest}
use Rattle.std.specs.Iterator.Adapters.{zip_first, zip_second}
use Rattle.rules.specs.Digits.{same_bytes}
use Rattle.digits.proofs.same.Given as goal

abbrev pub invariant-loop-x : goal.invariant-loop-x
invariant-loop-x l =
    let a = iter_rest (zip_first l.x-iterator) in
    let b = iter_rest (zip_second l.x-iterator) in
    (length a ≡ length b) × (same_bytes l.a l.b ≡ (l.all && same_bytes a b))
