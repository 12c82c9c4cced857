-- Laws of the blocks that a run still needs: a count over a range of months is the count over all of them.
use Rattle.std.specs.Prelude.{is_none}
use Prim.Native.Nat.{ℕ, zero, suc, ◌+◌, ◌-◌, ◌≤◌, ◌<◌, min, max}
use mathlib.Core.Path.{◌≡◌, ◌∙◌, refl, sym, ap}
use mathlib.Core.Logic.{⊎_elim}
use mathlib.Core.Bool.{Bool, true, false, ◌&&◌}
use native.Mathlib.Nat.{le_of_suc-le-suc, eq-or-lt_of_le}
use native.Mathlib.Numerals.{add-one}
use native.Mathlib.Omega.{arith}
use lib.Dec.{leb, ltb, eqb}
use borrow.Author.Tests.{lt-ltb, le-ltb, le-leb, eq-eqb, ne_eqb, ltb-true, ltb-false, leb-true, eqb-true, eqb-false}
use Rattle.rules.specs.Calendar.{first_slot, month_of_slot, slot_count, month_count}
use Rattle.rules.specs.Machine.{one, count_below}
use Rattle.calendar.proofs.Laws.{first-slot-monotone, first-slot-strict, first-slot-rises, first-slot-end}
use Rattle.calendar.proofs.Laws.{slot-month-few, slot-month-from, slot-month-until, slot-month-past}
use Rattle.pool.specs.Blocks.{find_of}
use Rattle.pool.specs.declared.Pool.{Pool}
use Rattle.schedule.specs.Stored.{meets, missing}
use Rattle.schedule.specs.Rates.{end_month}
use Rattle.schedule.proofs.RateLaws.{slot_from}

-- ---- a count of the numbers below k that pass

one-most : (b : Bool) → one b ≤ 1
one-most true = omega arith
one-most false = omega arith

pub count_most : (k : ℕ) (t : ℕ → Bool) → count_below k t ≤ k
unfolding count_below
count_most zero t = omega arith
count_most (suc k) t = omega (arith, count_most k t, one-most (t k))

pub count-step : (k : ℕ) (t : ℕ → Bool) → count_below (k + 1) t ≡ count_below k t + one (t k)
unfolding count_below
count-step k t = rw (add-one k)

-- a test that fails from k to j counts nothing there
pub count-up : (k j : ℕ) (t : ℕ → Bool) → k ≤ j → ((m : ℕ) → k ≤ m → m < j → t m ≡ false) → count_below j t ≡ count_below k t
unfolding count_below
count-up k zero t l h = let e : k ≡ 0 = omega arith in rw e
count-up k (suc j) t l h =
    ⊎_elim (λ e. ap (λ (n : ℕ). count_below n t) (sym e))
    (λ b. rw (h j (le_of_suc-le-suc b) (omega arith)) (omega (arith, count-up k j t (le_of_suc-le-suc b) (λ m a c. h m a (omega arith)))))
    (eq-or-lt_of_le l)

pub count_none : (k : ℕ) (t : ℕ → Bool) → ((m : ℕ) → m < k → t m ≡ false) → count_below k t ≡ 0
unfolding count_below
count_none k t h = count-up 0 k t (omega arith) (λ m _ l. h m l)

-- ---- which months a run meets

module _ (s n : ℕ) where
  -- the slot before the end of the run, or of 2099
  abbrev last : ℕ
  last = min (s + n) slot_count - 1

  pub end_none : n ≡ 0 → end_month s n ≡ 0
  unfolding end_month
  end_none e = rw (eq-eqb n 0 e)

  pub end_some : (n ≡ 0 → ⊥) → end_month s n ≡ suc (month_of_slot last)
  unfolding end_month
  end_some e = rw (ne_eqb n 0 e)

  pub end_most : end_month s n ≤ month_count
  end_most = go (eqb n 0) refl
    where
      go : (t : Bool) → eqb n 0 ≡ t → end_month s n ≤ month_count
      go true e = omega (arith, end_none (eqb-true n 0 e))
      go false e =
          let p = eqb-false n 0 e in
          let h : last < slot_count = omega arith in
          omega (arith, end_some p, slot-month-few last h)

  module _ (m : ℕ) where
    meets-low : m < month_of_slot s → meets m s n ≡ false
    meets-low l =
        let a = first-slot-monotone (suc m) (month_of_slot s) l in
        let b = slot_from s in
        le-ltb (max s (first_slot m)) (min (s + n) (first_slot (suc m))) (omega arith)

    meets-high : end_month s n ≤ m → m < month_count → meets m s n ≡ false
    meets-high l few = go (eqb n 0) refl
      where
        go : (t : Bool) → eqb n 0 ≡ t → meets m s n ≡ false
        go true e = let z = eqb-true n 0 e in le-ltb (max s (first_slot m)) (min (s + n) (first_slot (suc m))) (omega arith)
        go false e =
            let p = eqb-false n 0 e in
            let h : last < slot_count = omega arith in
            let k : suc (month_of_slot last) ≤ m = omega (arith, end_some p) in
            let a = slot-month-until last h in
            let b = first-slot-monotone (suc (month_of_slot last)) m k in
            let d = first-slot-strict m month_count few in
            le-ltb (max s (first_slot m)) (min (s + n) (first_slot (suc m))) (omega (arith, first-slot-end))

    meets-in : month_of_slot s ≤ m → m < end_month s n → meets m s n ≡ true
    meets-in from until = go (eqb n 0) refl (ltb s slot_count) refl
      where
        go : (t : Bool) → eqb n 0 ≡ t → (u : Bool) → ltb s slot_count ≡ u → meets m s n ≡ true
        go true e u f = absurd (omega (arith, end_none (eqb-true n 0 e)))
        go false e false f = absurd (omega (arith, slot-month-past s (ltb-false s slot_count f), end_most))
        go false e true f =
            let p = eqb-false n 0 e in
            let h : last < slot_count = omega arith in
            let k : m ≤ month_of_slot last = omega (arith, end_some p) in
            let a = first-slot-monotone m (month_of_slot last) k in
            let b = slot-month-from last h in
            let d = slot-month-until s (ltb-true s slot_count f) in
            let g = first-slot-monotone (suc (month_of_slot s)) (suc m) (omega arith) in
            let i = first-slot-rises m in
            lt-ltb (max s (first_slot m)) (min (s + n) (first_slot (suc m))) (omega arith)

-- ---- the months that need a block

module _ (p : Pool) (floor s n : ℕ) where
  abbrev pub needs-block : ℕ → Bool
  needs-block m = leb floor m && meets m s n && is_none (find_of p m)

  needs-low : (m : ℕ) → m < max floor (month_of_slot s) → needs-block m ≡ false
  needs-low m l = go (leb floor m) refl
    where
      go : (t : Bool) → leb floor m ≡ t → (t && meets m s n && is_none (find_of p m)) ≡ false
      go true e = let h = leb-true floor m e in rw (meets-low s n m (omega arith))
      go false e = refl

  needs-high : (m : ℕ) → end_month s n ≤ m → m < month_count → needs-block m ≡ false
  needs-high m l few = rw (meets-high s n m l few) (go (leb floor m))
    where
      go : (t : Bool) → (t && false && is_none (find_of p m)) ≡ false
      go true = refl
      go false = refl

  needs_in : (m : ℕ) → max floor (month_of_slot s) ≤ m → m < end_month s n → needs-block m ≡ is_none (find_of p m)
  needs_in m l h = rw (le-leb floor m (omega arith), meets-in s n m (omega arith) h)

  pub missing_start : (start : ℕ) → start ≡ min (max floor (month_of_slot s)) (end_month s n) → 0 ≡ count_below start needs-block
  missing_start start e = sym (count_none start needs-block (λ m l. needs-low m (omega arith)))

  pub missing_step : (m : ℕ) → min (max floor (month_of_slot s)) (end_month s n) ≤ m → m < end_month s n
      → count_below (m + 1) needs-block ≡ count_below m needs-block + one (is_none (find_of p m))
  missing_step m l h = count-step m needs-block ∙ ap (λ (t : Bool). count_below m needs-block + one t) (needs_in m (omega arith) h)

  pub missing_end : (m : ℕ) → m ≡ end_month s n → count_below m needs-block ≡ missing p floor s n
  unfolding missing
  missing_end m e = rw e (sym (count-up (end_month s n) month_count needs-block (end_most s n) (needs-high)))

-- what the count, month by month, takes
pub ruleset missing_steps = (missing_start, missing_step, missing_end, count_most, end_most)
