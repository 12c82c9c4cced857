-- One record: what stands at the front of a byte string is a record exactly when it is the bytes of one.
use Prim.Native.Nat.{ℕ, ◌+◌, ◌^◌, ◌≤◌, ◌<◌}
use mathlib.Core.Path.{◌≡◌, ◌∙◌, refl, ap}
use mathlib.Core.Bool.{true}
use mathlib.Core.List.{List, ◌++◌, append_assoc}
use native.Mathlib.Omega.{arith}
use lib.ListN.{length, drop, length-append}
use lib.Seq.{drop_at}
use borrow.Author.Tests.{le-leb, leb-true}
use Rattle.rules.specs.Digits.{part, all_digits, value, decimal}
use Rattle.rules.specs.Body.{Record, most_rates, flag_digits, next_digits, tail_digits, rates_of, size_of, record_shape, record_at, encode_record, form_of_record}
use Rattle.rules.specs.declared.Format.{Format}
use Rattle.laws.proofs.Tests.{both, join}
use Rattle.laws.proofs.Bytes.{length-decimal, part_length}
use Rattle.laws.proofs.Facts.{most-bound, digits_of, of-digits, Digits, RecordShape, record-shape}
use Rattle.about_files.proofs.Numerals.{digits_decimal, value-decimal, decimal-value}
use Rattle.about_files.proofs.Pieces.{chop, digits-apart, digits-joined, here, skip}

-- what `form_of_record` says, fact by fact
pub record Form (f : Format) (r : Record) : Type 0 where
  pub schedule : Digits 10 r.schedule
  pub plant : Digits 26 r.plant
  pub start : Digits 12 r.start
  pub few : length r.rates ≤ most_rates f
  pub flag : Digits (flag_digits f) r.flag
  pub checksum : Digits 2 r.checksum
  pub next : Digits (next_digits f) r.next

module _ (f : Format) (r : Record) where
  pub form-facts : form_of_record f r ≡ true → Form f r
  unfolding form_of_record
  form-facts e =
      let e₆ = both _ _ e in
      let e₅ = both _ _ e₆.0 in
      let e₄ = both _ _ e₅.0 in
      let e₃ = both _ _ e₄.0 in
      let e₂ = both _ _ e₃.0 in
      let e₁ = both _ _ e₂.0 in
      record {
        schedule = digits_of 10 r.schedule e₁.0;
        plant = digits_of 26 r.plant e₁.1;
        start = digits_of 12 r.start e₂.1;
        few = leb-true _ _ e₃.1;
        flag = digits_of (flag_digits f) r.flag e₄.1;
        checksum = digits_of 2 r.checksum e₅.1;
        next = digits_of (next_digits f) r.next e₆.1;
      }

  pub facts-form : Form f r → form_of_record f r ≡ true
  unfolding form_of_record
  facts-form g =
      join
      (join
      (join
      (join
      (join
      (join (of-digits 10 r.schedule g.schedule) (of-digits 26 r.plant g.plant))
      (of-digits 12 r.start g.start))
      (le-leb (length r.rates) (most_rates f) g.few))
      (of-digits (flag_digits f) r.flag g.flag))
      (of-digits 2 r.checksum g.checksum))
      (of-digits (next_digits f) r.next g.next)

module _ (f : Format) (s : List ℕ) where
  facts_shape : RecordShape f s → record_shape f s ≡ true
  unfolding record_shape
  facts_shape p =
      simp (le-leb 53 (length s) p.room, p.head, p.count, le-leb (rates_of s) (most_rates f) p.most, le-leb (size_of f s) (length s) p.size, p.tail)

tail-is : (f : Format) → tail_digits f ≡ flag_digits f + (2 + next_digits f)
tail-is f = omega arith

count-back : (s : List ℕ) → 53 ≤ length s → all_digits (part s 48 5) ≡ true → decimal 5 (rates_of s) ≡ part s 48 5
unfolding rates_of
count-back s h d = decimal-value (part s 48 5) 5 (part_length s 48 5 h) d

-- ---- what is read as a record is that record's bytes
module _ (f : Format) (s : List ℕ) (h : record_shape f s ≡ true) where
  pub read-form : Form f (record_at f s)
  unfolding record_at size_of
  read-form =
      let p = record-shape f s h in
      let n = rates_of s in
      let room : 53 ≤ length s = p.room in
      let size : 53 + n + tail_digits f ≤ length s = p.size in
      let tl = tail-is f in
      let d₁ = digits-apart s 0 10 38 p.head in
      let d₂ = digits-apart s 10 26 12 d₁.1 in
      let d₃ = digits-apart s (53 + n) (flag_digits f) (2 + next_digits f) (rw tl at p.tail) in
      let d₄ = digits-apart s (53 + n + flag_digits f) 2 (next_digits f) d₃.1 in
      record {
        schedule = record { long = part_length s 0 10 (omega arith); each = d₁.0 };
        plant = record { long = part_length s 10 26 (omega arith); each = d₂.0 };
        start = record { long = part_length s 36 12 (omega arith); each = d₂.1 };
        few = rw (part_length s 53 n (omega arith)) p.most;
        flag = record { long = part_length s (53 + n) (flag_digits f) (omega arith); each = d₃.0 };
        checksum = record { long = part_length s (53 + n + flag_digits f) 2 (omega arith); each = d₄.0 };
        next = record { long = part_length s (53 + n + flag_digits f + 2) (next_digits f) (omega arith); each = d₄.1 };
      }

  pub read-bytes : s ≡ encode_record (record_at f s) ++ drop (size_of f s) s
  unfolding record_at encode_record size_of
  read-bytes =
      let p = record-shape f s h in
      let n = rates_of s in
      let room : 53 ≤ length s = p.room in
      let size : 53 + n + tail_digits f ≤ length s = p.size in
      let tl = tail-is f in
      let end : 53 + n + flag_digits f + 2 + next_digits f ≡ 53 + n + tail_digits f = omega arith in
      let count : decimal 5 (length (part s 53 n)) ≡ part s 48 5 =
      rw (part_length s 53 n (omega arith)) (count-back s room p.count) in
      rw count
      (simp append_assoc
      (chop s 0 10 (chop s 10 26 (chop s 36 12 (chop s 48 5 (chop s 53 n (chop s (53 + n) (flag_digits f) (chop s (53 + n + flag_digits f) 2
      (chop s (53 + n + flag_digits f + 2) (next_digits f) (ap (λ (k : ℕ). drop k s) end))))))))))

-- ---- a record's bytes, with t behind them, are read as that record
module _ (f : Format) (r : Record) (g : Form f r) (t : List ℕ) where
  abbrev n : ℕ
  n = length r.rates

  abbrev after-rates : List ℕ
  after-rates = r.flag ++ (r.checksum ++ (r.next ++ t))

  abbrev count : List ℕ
  count = decimal 5 n

  abbrev whole : List ℕ
  whole = encode_record r ++ t

  flat : whole ≡ r.schedule ++ (r.plant ++ (r.start ++ (count ++ (r.rates ++ after-rates))))
  unfolding encode_record
  flat = simp append_assoc

  n-small : n < 10 ^ 5
  n-small = let m = most-bound f in let b = g.few in omega arith

  pub bytes-long : length (encode_record r) ≡ 53 + n + tail_digits f
  unfolding encode_record
  bytes-long =
      let a₁ = g.schedule.long in
      let a₂ = g.plant.long in
      let a₃ = g.start.long in
      let a₄ = length-decimal 5 n in
      let a₅ = g.flag.long in
      let a₆ = g.checksum.long in
      let a₇ = g.next.long in
      simp length-append (omega arith)

  p-schedule : part whole 0 10 ≡ r.schedule
  p-schedule = rw flat (here r.schedule _ g.schedule.long)

  p-plant : part whole 10 26 ≡ r.plant
  p-plant = rw flat (skip r.schedule _ g.schedule.long 0 26 ∙ here r.plant _ g.plant.long)

  p-start : part whole 36 12 ≡ r.start
  p-start = rw flat (skip r.schedule _ g.schedule.long 26 12 ∙ skip r.plant _ g.plant.long 0 12 ∙ here r.start _ g.start.long)

  -- what stands behind the schedule ID, the plant ID and the start
  past : (i k : ℕ) → part whole (48 + i) k ≡ part (count ++ (r.rates ++ after-rates)) i k
  past i k =
      let e : 48 + i ≡ 10 + (26 + (12 + i)) = omega arith in
      rw (flat, e)
      (skip r.schedule _ g.schedule.long (26 + (12 + i)) k
      ∙ skip r.plant _ g.plant.long (12 + i) k
      ∙ skip r.start _ g.start.long i k
      )

  p-count : part whole 48 5 ≡ count
  p-count = past 0 5 ∙ here count _ (length-decimal 5 n)

  -- what stands behind the rate count
  rest : (i k : ℕ) → part whole (53 + i) k ≡ part (r.rates ++ after-rates) i k
  rest i k =
      let e : 53 + i ≡ 48 + (5 + i) = omega arith in
      rw e (past (5 + i) k ∙ skip count _ (length-decimal 5 n) i k)

  p-rates : part whole 53 n ≡ r.rates
  p-rates = rest 0 n ∙ here r.rates _ refl

  -- what stands behind the rates
  last : (i k : ℕ) → part whole (53 + n + i) k ≡ part after-rates i k
  last i k =
      let e : 53 + n + i ≡ 53 + (n + i) = omega arith in
      rw e (rest (n + i) k ∙ skip r.rates _ refl i k)

  p-flag : part whole (53 + n) (flag_digits f) ≡ r.flag
  p-flag =
      let e : 53 + n ≡ 53 + n + 0 = omega arith in
      rw e (last 0 (flag_digits f) ∙ here r.flag _ g.flag.long)

  p-checksum : part whole (53 + n + flag_digits f) 2 ≡ r.checksum
  p-checksum =
      let e : flag_digits f ≡ flag_digits f + 0 = omega arith in
      last (flag_digits f) 2 ∙ ap (λ (k : ℕ). part after-rates k 2) e ∙ skip r.flag _ g.flag.long 0 2 ∙ here r.checksum _ g.checksum.long

  p-next : part whole (53 + n + flag_digits f + 2) (next_digits f) ≡ r.next
  p-next =
      let e : 53 + n + flag_digits f + 2 ≡ 53 + n + (flag_digits f + 2) = omega arith in
      rw e
      (last (flag_digits f + 2) (next_digits f)
      ∙ skip r.flag _ g.flag.long 2 (next_digits f)
      ∙ skip r.checksum _ g.checksum.long 0 (next_digits f)
      ∙ here r.next _ g.next.long
      )

  n-is : rates_of whole ≡ n
  unfolding rates_of
  n-is = ap value p-count ∙ value-decimal 5 n n-small

  size_is : size_of f whole ≡ 53 + n + tail_digits f
  unfolding size_of
  size_is = rw n-is refl

  pub bytes-record : record_at f whole ≡ r
  unfolding record_at
  bytes-record = rw (n-is, p-schedule, p-plant, p-start, p-rates, p-flag, p-checksum, p-next) refl

  pub bytes_rest : drop (size_of f whole) whole ≡ t
  bytes_rest = rw size_is (drop_at (encode_record r) t (53 + n + tail_digits f) bytes-long)

  pub bytes-shape : record_shape f whole ≡ true
  bytes-shape =
      let l = length-append (encode_record r) t in
      let l' = bytes-long in
      let tail : all_digits (part whole (53 + n) (tail_digits f)) ≡ true =
      rw (tail-is f)
      (digits-joined whole (53 + n) (flag_digits f) (2 + next_digits f) (ap all_digits p-flag ∙ g.flag.each)
      (digits-joined whole (53 + n + flag_digits f) 2 (next_digits f) (ap all_digits p-checksum ∙ g.checksum.each) (ap all_digits p-next ∙ g.next.each))) in
      facts_shape f whole
      (record {
        room = omega arith;
        head =
            digits-joined whole 0 10 38 (ap all_digits p-schedule ∙ g.schedule.each)
            (digits-joined whole 10 26 12 (ap all_digits p-plant ∙ g.plant.each) (ap all_digits p-start ∙ g.start.each));
        count = ap all_digits p-count ∙ digits_decimal 5 n;
        most = rw n-is g.few;
        size = rw size_is (omega arith);
        tail = rw n-is tail;
      })
