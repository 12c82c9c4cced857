use mathlib.Core.Path.{◌≡◌}
use mathlib.Core.Bool.{not, ◌&&◌}
use Prim.Native.Nat.{◌-◌, ◌*◌, ◌^◌, ◌%◌}
use native.Mathlib.Omega.{arith}
use lib.Count.{count_trailing_zeros}
use lib.Dec.{eqb}
use borrow.Author.Rules.{rules}
use borrow.Author.Tests.{lt-ltb, le-ltb}
use Rattle.rules.specs.Store.{block_count}
use Rattle.pool.specs.Below.{number}
use Rattle.pool.specs.Blocks.{is_free, take_of, free_width}
use Rattle.pool.proofs.BelowLaws.{trailing-first, clear-lowest}
use Rattle.pool.proofs.Pool.take.Goals as goal

pub returns-then-b-ge-BLOCK_COUNT : goal.returns-then-b-ge-BLOCK_COUNT
unfolding take_of
returns-then-b-ge-BLOCK_COUNT c = rw (← trailing-first free_width c.args.self.free, le-ltb _ _ c.if-b-ge-BLOCK_COUNT.true)

pub overflow_sub-free : goal.overflow_sub-free
overflow_sub-free c = omega (arith, clear-lowest free_width c.args.self.free (search rules) (search rules))

pub returns : goal.returns
unfolding take_of
returns c =
    let p = c.args.self in
    let b = count_trailing_zeros free_width p.free in
    let cleared = clear-lowest free_width p.free (search rules) (search rules) in
    let e : p.free - 1 * 2 ^ b % 2 ^ free_width ≡ number block_count (λ c. is_free p c && not (eqb c b)) = omega (arith, cleared) in
    rw (← trailing-first free_width p.free, lt-ltb _ _ c.if-b-ge-BLOCK_COUNT.false) (cc)
