-- No body that parses is longer than the longest.
use Rattle.std.specs.Option.{option_map}
use Rattle.std.specs.Prelude.{Option, None, Some}
use Prim.Native.Nat.{ℕ, ◌+◌, ◌-◌, ◌*◌, ◌≤◌, ◌<◌}
use mathlib.Core.Path.{◌≡◌, refl, sym}
use mathlib.Core.Bool.{Bool, true, false, cond}
use mathlib.Core.List.{List}
use native.Mathlib.Omega.{arith}
use borrow.Author.Tests.{ne_eqb}
use lib.ListN.{length, drop, length-drop}
use Rattle.rules.specs.Body.{Record, Body, schedule, most_rates, tail_digits, parse_records, parse_registration, parse_rest, counted, parse_body}
use Rattle.rules.specs.declared.Format.{Format}
use Rattle.rules.specs.declared.Format.TheVariants.{F201, F202, F203, F301}
use Rattle.about_files.proofs.Accepted.{bounded}
use Rattle.about_files.proofs.Body.{records-exactly}
use Rattle.listing.specs.Bound.{longest_body}

-- the records of a body that parses, and its bytes, are bounded by their form
too_long : (f : Format) (k : ℕ) (s : List ℕ) → k * (53 + most_rates f + tail_digits f) < length s → option_map schedule (parse_records f k s) ≡ None
too_long f k s h = go (parse_records f k s) refl
  where
    go : (o : Option (List Record)) → parse_records f k s ≡ o → option_map schedule o ≡ None
    go None e = refl
    go (Some rs) e =
        let p = (records-exactly f k s rs).0 e in
        let most : length s ≤ k * (53 + most_rates f + tail_digits f) = rw (p.0, sym p.1) (bounded f rs p.2).bytes in
        absurd (omega arith)

rest-none : (f : Format) (s : List ℕ) → longest_body < length s → parse_rest f (drop 6 s) ≡ None
unfolding parse_registration
rest-none F201 s h = too_long F201 13 (drop 6 s) (rw length-drop (omega arith))
rest-none F202 s h = too_long F202 1 (drop 6 s) (rw length-drop (omega arith))
rest-none F203 s h = too_long F203 1 (drop 6 s) (rw length-drop (omega arith))
rest-none F301 s h =
    let d : length (drop 6 s) ≡ length s - 6 = length-drop 6 s in
    rw (ne_eqb (length (drop 6 s)) 27 (omega arith)) refl

-- no format has a body that is longer than the longest
pub long-none : (f : Format) (s : List ℕ) → longest_body < length s → parse_body f s ≡ None
unfolding parse_body
long-none f s h = rw (rest-none f s h) (same (counted f s))
  where
    same : (b : Bool) → ◌≡◌ {A = Option Body} (cond b None None) None
    same true = refl
    same false = refl
