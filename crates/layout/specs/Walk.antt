-- A walk over the records that stand in bytes, one after the other: what each turn gives, of any bytes.
use Rattle.std.specs.Prelude.{ℕ, suc, ◌+◌, ◌≡◌, ◌≤◌, ◌<◌, List, length, take, drop, Option}
use Rattle.std.specs.Option.{MatchOption}
use Rattle.rules.specs.Digits.{part}
use Rattle.rules.specs.Body.{Record, flag_digits, next_digits, tail_digits, rates_of, size_of}
use Rattle.rules.specs.declared.Format.{Format}
use Rattle.layout.specs.Places.{schedule_digits, plant_digits, start_digits, plant_place, start_place, rates_place, checksum_digits}
use Rattle.layout.specs.declared.walk.Parts.{Parts}
use Rattle.layout.specs.declared.walk.Records.{Records}

-- 'schedule ID 10 digits, plant ID 26, start YYYYMMDDhhmm 12, rate count n 5, n rates, then ..': the parts of the record at the front of s, which is all there
pub record Front (f : Format) (s : List ℕ) (p : Parts) : Type 0 where
  pub format : p.format ≡ f
  pub head : p.head.now ≡ take rates_place s
  pub rates : p.rates.now ≡ part s rates_place (rates_of s)
  pub tail : p.tail.now ≡ part s (rates_place + rates_of s) (tail_digits f)
  pub room : size_of f s ≤ length s

-- the fields that these parts are
abbrev pub record_of : Parts → Record
record_of p = record {
  schedule = part p.head.now 0 schedule_digits;
  plant = part p.head.now plant_place plant_digits;
  start = part p.head.now start_place start_digits;
  rates = p.rates.now;
  flag = part p.tail.now 0 (flag_digits p.format);
  checksum = part p.tail.now (flag_digits p.format) checksum_digits;
  next = part p.tail.now (flag_digits p.format + checksum_digits) (next_digits p.format);
}

-- a turn gives the record at the front, and goes to what follows it; none where none are left or bytes are missing
abbrev pub Goes : Records → Option Parts → Records → Type 0
Goes s r t =
    MatchOption r ((0 < s.left → length s.rest.now < size_of s.format s.rest.now) × (t ≡ s))
    (λ p. Front s.format s.rest.now p × (t.format ≡ s.format) × (s.left ≡ suc t.left) × (t.rest.now ≡ drop (size_of s.format s.rest.now) s.rest.now))
