-- Laws of the records: their bytes from the parts that are put one after the other, and their lengths.
use Prim.Native.Nat.{ℕ, ◌+◌, ◌/◌, ◌%◌, ◌≤◌}
use mathlib.Core.Path.{◌≡◌, ◌∙◌, refl, sym, ap}
use mathlib.Core.List.{List, [], ◌∷◌, ◌++◌, append_assoc, append-nil}
use native.Mathlib.Omega.{arith}
use lib.ListN.{length, replicate, set, length-append}
use Rattle.rules.specs.Digits.{decimal}
use Rattle.rules.specs.Body.{encode_record}
use Rattle.rules.specs.File.{checksum_of}
use Rattle.rules.specs.Writer.{Fields, month_start, month_record, update_record}
use Rattle.laws.proofs.Bytes.{length-decimal}
use Rattle.digits.specs.Placed.{placed}
use Rattle.digits.proofs.Placing.{placed-next, placed_one}
use Rattle.layout.specs.Records.{checksum_for}
use Rattle.layout.proofs.Counts.{checksum-is}
use Rattle.plan.specs.Fields.{month_fields}
use Rattle.plan.specs.Given.{UpdateGiven}
use Rattle.writer.specs.Bodies.{head}
use Rattle.writer.specs.Room.{HeadRoom, MonthRoom, UpdateRoom}

-- ---- a month's start

pub start_put : (m : ℕ)
    → placed (placed (placed (replicate 12 0) 0 (decimal 4 (2000 + m / 12))) 4 (decimal 2 (m % 12 + 1))) 6 (decimal 2 1) ≡ month_start m
unfolding placed decimal
start_put m = refl

pub start-length : (m : ℕ) → length (month_start m) ≡ 12
unfolding decimal
start-length m = refl

-- ---- one record

-- a record up to and with its rates, put field by field
module _ (ident plant start rates : List ℕ) (hs : length ident ≡ 10) (hp : length plant ≡ 26) (ht : length start ≡ 12) where
  pub head-length : length (head ident plant start rates) ≡ 53 + length rates
  head-length = simp (length-append, length-decimal) (omega arith)

pub head_put : (l : List ℕ) (at : ℕ) (ident plant start rates : List ℕ) → HeadRoom (length l) at ident plant start rates
    → placed (placed (placed (placed (placed l at ident) (at + 10) plant) (at + 36) start) (at + 48) (decimal 5 (length rates))) (at + 53) rates
    ≡ placed l at (head ident plant start rates)
head_put l at ident plant start rates r =
    let n = decimal 5 (length rates) in
    let five = length-decimal 5 (length rates) in
    let long = r.schedule-long in
    let a = placed l at ident in
    let b = placed a (at + 10) plant in
    placed-next (placed b (at + 36) start) n rates (at + 48) refl (omega arith)
    ∙ placed-next b start (n ++ rates) (at + 36) refl (omega (arith, r.start-long))
    ∙ placed-next a plant (start ++ (n ++ rates)) (at + 10) refl (omega (arith, r.plant-long))
    ∙ placed-next l ident (plant ++ (start ++ (n ++ rates))) at refl (omega arith)

-- and what follows them
head_more : (ident plant start rates rest : List ℕ)
    → head ident plant start rates ++ rest ≡ ident ++ (plant ++ (start ++ (decimal 5 (length rates) ++ (rates ++ rest))))
head_more ident plant start rates rest = simp append_assoc

pub month-bytes : (schedule plant start rates : List ℕ) (m s : ℕ) → start ≡ month_start m → s ≡ checksum_of start rates
    → head schedule plant start rates ++ decimal 2 s ≡ encode_record (month_record (month_fields plant schedule) m rates)
unfolding encode_record
month-bytes schedule plant start rates m s e es =
    head_more schedule plant start rates (decimal 2 s) ∙ rw (es, e, append-nil (decimal 2 (checksum_of (month_start m) rates))) refl

pub update-bytes : (w : Fields) (s : ℕ) → s ≡ checksum_of w.start w.rates
    → head w.schedule w.plant w.start w.rates ++ ((w.flag ∷ []) ++ (decimal 2 s ++ w.next)) ≡ encode_record (update_record w)
unfolding encode_record update_record
update-bytes w s es = head_more w.schedule w.plant w.start w.rates ((w.flag ∷ []) ++ (decimal 2 s ++ w.next)) ∙ rw es refl

pub month-length : (schedule plant rates : List ℕ) (m : ℕ) → length schedule ≡ 10 → length plant ≡ 26
    → length (encode_record (month_record (month_fields plant schedule) m rates)) ≡ 55 + length rates
month-length schedule plant rates m hs hp =
    let start = month_start m in
    let s = checksum_of start rates in
    let e = month-bytes schedule plant start rates m s refl refl in
    let l = length-append (head schedule plant start rates) (decimal 2 s) in
    omega (arith, ap length e, l, head-length schedule plant start rates hs hp (start-length m), length-decimal 2 s)

pub update-length : (w : Fields) → UpdateGiven w → length (encode_record (update_record w)) ≡ 70 + length w.rates
update-length w g =
    let s = checksum_of w.start w.rates in
    let e = update-bytes w s refl in
    let l₁ = length-append (head w.schedule w.plant w.start w.rates) ((w.flag ∷ []) ++ (decimal 2 s ++ w.next)) in
    let l₂ = length-append (decimal 2 s) w.next in
    let next-long = g.next-long in
    omega (arith, ap length e, l₁, l₂, head-length w.schedule w.plant w.start w.rates g.schedule-long g.plant-long g.start-long, length-decimal 2 s)

-- ---- a month's record and an update's, put after their heads

pub month_put : (l : List ℕ) (at : ℕ) (ident plant rates : List ℕ) (m : ℕ) → MonthRoom (length l) at ident plant rates
    → placed (placed l at (head ident plant (month_start m) rates)) (at + 53 + length rates) (decimal 2 (checksum_for (month_start m) rates))
    ≡ placed l at (encode_record (month_record (month_fields plant ident) m rates))
month_put l at ident plant rates m r =
    let start = month_start m in
    let h = head-length ident plant start rates r.schedule-long r.plant-long (start-length m) in
    let sum = checksum_for start rates in
    placed-next l (head ident plant start rates) (decimal 2 sum) at refl (omega arith)
    ∙ ap (placed l at) (month-bytes ident plant start rates m sum refl (checksum-is start rates r.few))

pub update_put : (l : List ℕ) (at : ℕ) (w : Fields) → UpdateRoom (length l) at w
    → placed l at (encode_record (update_record w))
    ≡ placed (placed (set (placed l at (head w.schedule w.plant w.start w.rates)) (at + 53 + length w.rates) w.flag) (at + 53 + length w.rates + 1)
    (decimal 2 (checksum_for w.start w.rates))) (at + 53 + length w.rates + 1 + 2) w.next
update_put l at w r =
    let g = r.given in
    let front = head w.schedule w.plant w.start w.rates in
    let h = head-length w.schedule w.plant w.start w.rates g.schedule-long g.plant-long g.start-long in
    let few : length w.rates ≤ 99999 = omega (arith, g.few) in
    let x = at + 53 + length w.rates in
    let sum = checksum_for w.start w.rates in
    let two = length-decimal 2 sum in
    let a = placed l at front in
    sym
    (placed-next (set a x w.flag) (decimal 2 sum) w.next (x + 1) refl (omega arith)
    ∙ placed-next a (w.flag ∷ []) (decimal 2 sum ++ w.next) x (sym (placed_one a x w.flag)) refl
    ∙ placed-next l front ((w.flag ∷ []) ++ (decimal 2 sum ++ w.next)) at refl (omega arith)
    ∙ ap (placed l at) (update-bytes w sum (checksum-is w.start w.rates few)))
