-- Laws of a walk from record to record of a body that stands: at record k the walk is at `record_start`, within the body.
use Prim.Native.Nat.{ℕ, ◌+◌, ◌-◌, ◌≤◌, ◌<◌}
use mathlib.Core.Path.{◌≡◌, ◌∙◌, refl}
use mathlib.Core.List.{List}
use native.Mathlib.Numerals.{add-one}
use native.Mathlib.Omega.{arith}
use lib.ListN.{length, take, drop}
use Rattle.rules.specs.Body.{count_of, tail_digits, rates_of, size_of}
use Rattle.rules.specs.declared.Format.{Format}
use Rattle.laws.proofs.Bytes.{part-rest}
use Rattle.layout.specs.Records.{count_at, size_at}
use Rattle.form.specs.Walk.{record_start, Whole}
use Rattle.form.proofs.Walk.{rates-here, size_is}
use Rattle.form.proofs.Standing.{record-whole, rates-within}
use Rattle.records.specs.declared.Places.{Places}
use Rattle.records.specs.Standing.{Stands}
use Rattle.records.specs.Locating.{places_of, places_at}

pub first-place : (f : Format) (body : List ℕ) → 6 ≡ record_start f body 0
unfolding record_start
first-place f body = refl

-- the walk is at `at`, where record k begins
module _ (f : Format) (body : List ℕ) (s : Stands f body) (at k : ℕ) (here : at ≡ record_start f body k) (h : k < count_of f) where
  pub place-within : at + 53 + rates_of (drop at body) + tail_digits f ≤ length body
  place-within = rw here (rates-within f body s.records k h)

  pub place_inside : at ≤ length body
  place_inside = omega (arith, place-within)

  place-whole : Whole f (drop at body)
  place-whole = rw here (record-whole f body s.records k h)

  module _ (z : ℕ) (e : z ≡ size_at f (take (length body - at) (drop at body))) where
    size-here : z ≡ size_of f (drop at body)
    size-here = size_is f (drop at body) (rw (part-rest body at) at e) place-whole

    pub place_end : at + z ≤ length body
    unfolding size_of
    place_end = omega (arith, place-within, size-here)

    pub place-next : at + z ≡ record_start f body (k + 1)
    unfolding record_start
    place-next = rw (add-one k) (rw (size-here, here) refl)

  module _ (n : ℕ) (e : n ≡ count_at (take (length body - at) (drop at body))) where
    rates-are : n ≡ rates_of (drop at body)
    rates-are = rates-here f (drop at body) (rw (part-rest body at) at e) place-whole

    pub place-rates : at + n ≤ length body
    place-rates = omega (arith, place-within, rates-are)

    pub places-here : {p : Places} (i : ℕ) → k ≡ i → p ≡ places_of f at n → p ≡ places_at f body i
    places-here i k≡ p≡ = p≡ ∙ rw (rates-are, here, k≡) refl
