-- Laws of the length that a Content-Length line gives.
use Rattle.std.specs.Prelude.{None}
use Prim.Native.Nat.{ℕ, ◌<◌, ◌≤◌}
use mathlib.Core.Path.{◌≡◌, refl}
use mathlib.Core.Bool.{and-false}
use mathlib.Core.List.{List}
use native.Mathlib.Omega.{arith}
use borrow.Author.Tests.{le-leb, lt-leb}
use lib.Dec.{leb}
use lib.ListN.{length, drop, length-drop, drop_of_length-le}
use Rattle.rules.specs.Response.{length_in}
use Rattle.digits.specs.Decimal.{ascii_of}

pub size-short : (s : List ℕ) → length s ≤ 16 → None ≡ length_in (drop 16 s)
unfolding length_in
size-short s h = rw (drop_of_length-le s h) refl

pub size-long : (s : List ℕ) → 22 < length s → None ≡ length_in (drop 16 s)
unfolding length_in
size-long s h =
    let k : 6 < length (drop 16 s) = omega (arith, length-drop 16 s) in
    rw (lt-leb (length (drop 16 s)) 6 k, and-false (leb 1 (length (drop 16 s)))) refl

-- 1 to 6 bytes give a length where they are a number in ASCII
pub size-by : (s : List ℕ) → 16 < length s → length s ≤ 22 → ascii_of (drop 16 s) ≡ length_in (drop 16 s)
unfolding ascii_of length_in
size-by s g h =
    let d = drop 16 s in
    let i : 1 ≤ length d = omega (arith, length-drop 16 s) in
    let j : length d ≤ 6 = omega (arith, length-drop 16 s) in
    let k : length d ≤ 14 = omega arith in
    rw (le-leb 1 (length d) i, le-leb (length d) 6 j, le-leb (length d) 14 k) refl
