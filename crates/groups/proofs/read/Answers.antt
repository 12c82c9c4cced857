use Prim.Native.Nat.{ℕ, ◌-◌, ◌+◌, ◌*◌, ◌<◌, ◌^◌}
use mathlib.Core.Path.{◌≡◌, ◌∙◌, refl, sym}
use native.Mathlib.Omega.{arith}
use lib.ListN.{get_or, take, drop, length}
use Rattle.groups.proofs.Walk.{unit-next, unit-most, below_next, low_bits, next-fits}
use Rattle.groups.proofs.Walk.{none-there, one-group, groups-follow, group-at, zero-last, last-there, more-there, too_far}
use Rattle.groups.proofs.read.Goals.{In-loop-i}
use Rattle.groups.proofs.read.Goals as goal

-- ---- in the loop: the byte is the group after the first i + 1

abbrev byte : In-loop-i → ℕ
byte c = get_or (take (c.min-end.result - (c.args.at + 1)) (drop (c.args.at + 1) c.args.s.now)) c.loop-i.i 0

is : (c : In-loop-i) → byte c ≡ get_or c.args.s.now (c.args.at + (c.loop-i.i + 1)) 0
is c = group-at c.args.s.now c.args.at (c.min-end.result - (c.args.at + 1)) c.loop-i.i (omega arith)

small : (c : In-loop-i) → byte c < 256
small c = omega (arith, is c, c.type_inv.s (c.args.at + (c.loop-i.i + 1)))

few : (c : In-loop-i) → c.loop-i.i + 1 < 5
few c = omega arith

within : (c : In-loop-i) → c.args.at + (c.loop-i.i + 1) < length c.args.s.now
within c = omega arith

fits : (c : In-loop-i) {g : ℕ} → g < 128 → c.loop-i.value + c.loop-i.unit * g < 2 ^ 35
fits c h = next-fits (c.loop-i.i + 1) c.loop-i.invariant.unit_here (few c) c.loop-i.invariant.below h

-- ---- the answers

pub returns-in_err-first : goal.returns-in_err-first
returns-in_err-first c = c.from_residual.ensures ∙ sym (none-there c.args.s.now c.args.at c.in_err-first.ensures.lookup.3)

pub returns-then-first-lt-MORE : goal.returns-then-first-lt-MORE
returns-then-first-lt-MORE c =
    let there = c.in_ok-first.ensures.lookup.3 in
    sym (one-group c.args.s.now c.args.at there.0 (there.1 0) c.if-first-lt-MORE.true)

pub loop-i-init : goal.loop-i-init
loop-i-init c =
    let there = c.in_ok-first.ensures.lookup.3 in
    let first : get_or c.args.s.now c.args.at 0 < 256 = omega (arith, c.type_inv.s c.args.at) in
    record {
      unit_here = refl;
      below = low_bits (omega (arith, there.1 0));
      rest = groups-follow c.args.s.now c.args.at there.0 (there.1 0) c.if-first-lt-MORE.false (omega (arith, there.1 0));
    }

pub returns-then-group-eq-EMPTY : goal.returns-then-group-eq-EMPTY
returns-then-group-eq-EMPTY c =
    let l = c.loop-i in
    let d = (goal.at.returns-then-group-eq-EMPTY c).In-loop-i in
    sym (l.invariant.rest ∙ zero-last c.args.s.now c.args.at l.value l.unit (l.i + 1) (is d) (few d) (within d) c.if-group-eq-EMPTY.true)

pub overflow_mul-result : goal.overflow_mul-result
overflow_mul-result c = omega (arith, fits (goal.at.overflow_mul-result c).In-loop-i c.if-group-lt-MORE.true)

pub overflow_add-result-then-group-lt-MORE : goal.overflow_add-result-then-group-lt-MORE
overflow_add-result-then-group-lt-MORE c = omega (arith, fits (goal.at.overflow_add-result-then-group-lt-MORE c).In-loop-i c.if-group-lt-MORE.true)

pub returns-then-group-lt-MORE : goal.returns-then-group-lt-MORE
returns-then-group-lt-MORE c =
    let l = c.loop-i in
    let d = (goal.at.returns-then-group-lt-MORE c).In-loop-i in
    let last = last-there c.args.s.now c.args.at l.value l.unit (l.i + 1) (is d) (few d) (within d) in
    sym (l.invariant.rest ∙ last c.if-group-eq-EMPTY.false c.if-group-lt-MORE.true (omega arith))

pub overflow_mul-value : goal.overflow_mul-value
overflow_mul-value c = let d = (goal.at.overflow_mul-value c).In-loop-i in omega (arith, fits d (low_bits (small d)))

pub overflow_add-value : goal.overflow_add-value
overflow_add-value c = let d = (goal.at.overflow_add-value c).In-loop-i in omega (arith, fits d (low_bits (small d)))

pub overflow_mul-unit : goal.overflow_mul-unit
overflow_mul-unit c =
    let d = (goal.at.overflow_mul-unit c).In-loop-i in
    omega (arith, c.loop-i.invariant.unit_here, unit-most (c.loop-i.i + 1) (few d))

pub loop-i-preserved : goal.loop-i-preserved
loop-i-preserved c =
    let l = c.loop-i in
    let d = (goal.at.loop-i-preserved c).In-loop-i in
    let more = more-there c.args.s.now c.args.at l.value l.unit (l.i + 1) (is d) (few d) (within d) in
    record {
      unit_here = rw l.invariant.unit_here (unit-next (l.i + 1));
      below = below_next l.value l.unit _ l.invariant.below (low_bits (small d));
      rest = l.invariant.rest ∙ more c.if-group-lt-MORE.false (small d);
    }

pub returns : goal.returns
returns c =
    let l = c.loop-i in
    sym (l.invariant.rest ∙ too_far c.args.s.now c.args.at l.value l.unit (l.i + 1) (omega arith))
