-- Laws of the output: the body of a plan's records, its length, and where it stands in the buffer.
use Prim.Native.Nat.{ℕ, ◌+◌, ◌-◌, ◌*◌}
use mathlib.Core.Path.{◌≡◌, ◌∙◌, refl, ap}
use mathlib.Core.List.{List, ◌++◌, append-nil}
use native.Mathlib.Omega.{arith}
use lib.ListN.{length, length-append}
use Rattle.rules.specs.Digits.{decimal}
use Rattle.rules.specs.Calendar.{first_slot}
use Rattle.rules.specs.Body.{encode_body, encode_record, encode_records}
use Rattle.rules.specs.Writer.{Fields, update_record}
use Rattle.laws.proofs.Bytes.{length-decimal}
use Rattle.digits.specs.Placed.{placed}
use Rattle.digits.proofs.Placing.{placed-next}
use Rattle.plan.specs.Fields.{month_fields}
use Rattle.writer.specs.Bodies.{months_of, months_body, update_body}
use Rattle.plan.specs.Given.{MonthsGiven, UpdateGiven}
use Rattle.writer.proofs.Records.{update-length}
use Rattle.writer.proofs.Months.{months_bytes, months-length, count-months}

-- ---- bodies

months-body : (w : Fields) (k first : ℕ) → decimal 6 k ++ months_bytes w.schedule w.plant k first w.rates ≡ months_body w k first
unfolding encode_body
months-body w k first = rw (count-months (month_fields w.plant w.schedule) k first w.rates) refl

pub months_long : (w : Fields) (first end : ℕ) → MonthsGiven w first end
    → length (months_body w (end - first) first) ≡ 6 + (55 * (end - first) + length w.rates)
months_long w first end h =
    let k = end - first in
    let to : first + k ≡ end = omega (arith, h.order) in
    let full : first_slot first + length w.rates ≡ first_slot (first + k) = rw to h.full in
    let l = months-length w.schedule w.plant h.schedule-long h.plant-long k first w.rates full in
    let d = length-decimal 6 k in
    let e = ap length (months-body w k first) in
    omega (arith, length-append (decimal 6 k) (months_bytes w.schedule w.plant k first w.rates))

update-body : (w : Fields) → decimal 6 1 ++ encode_record (update_record w) ≡ update_body w
unfolding encode_body encode_records
update-body w = rw append-nil refl

pub update_long : (w : Fields) → UpdateGiven w → length (update_body w) ≡ 6 + (70 + length w.rates)
update_long w h =
    let l = update-length w h in
    let d = length-decimal 6 1 in
    let e = ap length (update-body w) in
    omega (arith, length-append (decimal 6 1) (encode_record (update_record w)))

-- the count is put first, and then the records
count-placed : (l b : List ℕ) (n : ℕ) → placed (placed l 0 (decimal 6 n)) 6 b ≡ placed l 0 (decimal 6 n ++ b)
count-placed l b n = let d = length-decimal 6 n in placed-next l (decimal 6 n) b 0 refl (omega arith)

pub months_put : (l : List ℕ) (w : Fields) (k first : ℕ)
    → placed (placed l 0 (decimal 6 k)) 6 (encode_records (months_of w k first)) ≡ placed l 0 (months_body w k first)
months_put l w k first =
    count-placed l (months_bytes w.schedule w.plant k first w.rates) k ∙ ap (placed l 0) (months-body w k first)

pub update_put : (l : List ℕ) (w : Fields)
    → placed (placed l 0 (decimal 6 1)) 6 (encode_record (update_record w)) ≡ placed l 0 (update_body w)
update_put l w = count-placed l (encode_record (update_record w)) 1 ∙ ap (placed l 0) (update-body w)
