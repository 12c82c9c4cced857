use Prim.Native.Nat.{ℕ, ◌+◌, ◌-◌, ◌%◌, ◌≤◌}
use mathlib.Core.Path.{◌≡◌, ◌∙◌}
use mathlib.Core.List.{List, map}
use native.Mathlib.Omega.{arith}
use lib.ListN.{length, get_or}
use borrow.Author.Tests.{le-leb}
use Rattle.laws.proofs.Bytes.{more-digits}
use Rattle.rules.specs.Digits.{value_from}
use Rattle.digits.specs.Decimal.{all_from, number_from}
use Rattle.digits.proofs.Scan.{digit-step, digit-stop, fits-digits}
use Rattle.std.proofs.lemmas.List.{at_drop_more, at_drop_all}
use Rattle.digits.proofs.number_from.Goals as goal

-- the number of the digits that are left, after those before them
abbrev value_left : ℕ → ℕ → List ℕ → ℕ
value_left first v rest = value_from v (map (λ x. x - first) rest)

pub returns-then-d-gt-HIGHEST_DIGIT : goal.returns-then-d-gt-HIGHEST_DIGIT
unfolding number_from
returns-then-d-gt-HIGHEST_DIGIT g c =
    let l = c.loop-x in
    let s = c.args.s.now in
    let stop = digit-stop g.row.ZERO s l.x-index c.loop-x-test.true (λ low. omega (arith, c.type_inv.s l.x-index)) in
    simp (le-leb (length s) 14 c.if-s-gt-MOST_DIGITS.false, l.invariant.1 ∙ stop)

pub overflow_mul-value : goal.overflow_mul-value
overflow_mul-value g c = omega (arith, fits-digits _ _ c.loop-x.invariant.0 (omega arith))

pub overflow_add-value : goal.overflow_add-value
overflow_add-value g c = omega (arith, fits-digits _ _ c.loop-x.invariant.0 (omega arith))

pub loop-x-preserved : goal.loop-x-preserved
unfolding value_from
loop-x-preserved g c =
    let first = g.row.ZERO in
    let l = c.loop-x in
    let s = c.args.s.now in
    let h = c.loop-x-test.true in
    let x = get_or s l.x-index 0 in
    let low : first ≤ x = omega (arith, c.type_inv.s l.x-index) in
    let d : (x + (256 - first)) % 256 ≡ x - first = omega (arith, c.type_inv.s l.x-index) in (
      more-digits _ _ _ l.invariant.0 c.if-d-gt-HIGHEST_DIGIT.false,
      l.invariant.1 ∙ digit-step first s l.x-index h low (omega arith),
      rw d (l.invariant.2 ∙ at_drop_more (value_left first l.value) s l.x-index 0 h),
    )

pub returns : goal.returns
unfolding number_from all_from value_from
returns g c =
    let first = g.row.ZERO in
    let l = c.loop-x in
    let s = c.args.s.now in
    let h = c.loop-x-test.false in
    simp (
      le-leb (length s) 14 c.if-s-gt-MOST_DIGITS.false,
      l.invariant.1 ∙ at_drop_all (all_from first) s l.x-index h,
      l.invariant.2 ∙ at_drop_all (value_left first l.value) s l.x-index h,
    )
