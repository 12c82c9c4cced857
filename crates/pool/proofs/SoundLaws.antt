-- The pool's own test of soundness is 01's: the held months and their blocks, as lists.
use mathlib.Core.Path.{◌≡◌, refl, sym, ap, ◌∙◌}
use mathlib.Core.Logic.{◌⊎◌, inl, inr, ⊎_elim}
use mathlib.Core.Bool.{Bool, true, false, cond, not, ◌&&◌, beq, false≢true, or-true, not-not}
use mathlib.Core.List.{List, [], ◌∷◌, map}
use Prim.Native.Nat.{ℕ, zero, suc, ◌≤◌, ◌<◌}
use native.Mathlib.Omega.{arith}
use native.Mathlib.Nat.{le_of_suc-le-suc, eq-or-lt_of_le}
use lib.Dec.{leb, ltb, eqb}
use borrow.Author.Tests.{lt-ltb, le-ltb, le-leb, eq-eqb, ltb-true, ltb-false, leb-true, eqb-true, not-true}
use Rattle.rules.specs.Calendar.{month_count}
use Rattle.rules.specs.Store.{Held as HeldMonth, member, distinct, all, all_below, sound_months, sound_blocks, block_count}
use Rattle.laws.proofs.Tests.{both, same, either}
use Rattle.pool.specs.Blocks.{is_free, month_of, sound_of}
use Rattle.pool.specs.Held.{InBlock, Sound, held_below, held_of, sound_pool}
use Rattle.pool.specs.declared.Pool.{Pool}
use Rattle.pool.proofs.Laws.{sound-is}

-- ---- tests

not-member : (b : Bool) → (b ≡ true → ⊥) → not b ≡ true
not-member true h = absurd (h refl)
not-member false h = refl

beq_same : (a : Bool) → beq a a ≡ true
beq_same true = refl
beq_same false = refl

-- ---- the two lists of the blocks below k

abbrev months_of : List HeldMonth → List ℕ
months_of = map (λ (h : HeldMonth). h.month)

abbrev blocks_of : List HeldMonth → List ℕ
blocks_of = map (λ (h : HeldMonth). h.block)

-- what stands in the list for block k, where x says that it is free
abbrev grown : ℕ → Pool → Bool → List HeldMonth
grown k p x = cond x (held_below k p) (record { month = month_of p k; block = k } ∷ held_below k p)

-- of numbers other than k
later : (b k : ℕ) → (b ≡ k → ⊥) → ltb b (suc k) ≡ ltb b k
later b k n =
    same {a = ltb b (suc k)} {b = ltb b k}
    (λ e. lt-ltb b k (⊎_elim (λ s. absurd (n s)) (λ l. l) (eq-or-lt_of_le (le_of_suc-le-suc (ltb-true b (suc k) e)))))
    (λ e. lt-ltb b (suc k) (omega (arith, ltb-true b k e)))

-- a block is in the list where it is used
block-member : (k : ℕ) (p : Pool) (b : ℕ) → member b (blocks_of (held_below k p)) ≡ (ltb b k && not (is_free p b))
unfolding held_below member
block-member zero p b = rw (le-ltb b 0 (omega arith))
block-member (suc k) p b = go (block-member k p b) (is_free p k) refl (eqb b k) refl
  where
    go : member b (blocks_of (held_below k p)) ≡ (ltb b k && not (is_free p b)) → (x : Bool) → is_free p k ≡ x → (y : Bool) → eqb b k ≡ y
        → member b (blocks_of (grown k p x)) ≡ (ltb b (suc k) && not (is_free p b))
    go r true f true e =
        let s = eqb-true b k e in
        r ∙ rw (s, f, le-ltb k k (omega arith), lt-ltb k (suc k) (omega arith))
    go r true f false e = r ∙ rw (later b k (λ s. false≢true (sym e ∙ eq-eqb b k s)))
    go r false f true e =
        let s = eqb-true b k e in
        rw (e, s, f, lt-ltb k (suc k) (omega arith))
    go r false f false e = rw (e, later b k (λ s. false≢true (sym e ∙ eq-eqb b k s))) r

blocks-distinct : (k : ℕ) (p : Pool) → distinct (blocks_of (held_below k p)) ≡ true
unfolding held_below distinct
blocks-distinct zero p = refl
blocks-distinct (suc k) p = go (blocks-distinct k p) (is_free p k)
  where
    go : distinct (blocks_of (held_below k p)) ≡ true → (x : Bool) → distinct (blocks_of (grown k p x)) ≡ true
    go r true = r
    go r false = rw (block-member k p k, le-ltb k k (omega arith)) r

blocks-below : (k : ℕ) (p : Pool) → k ≤ block_count → all (λ b. ltb b block_count) (blocks_of (held_below k p)) ≡ true
unfolding held_below all
blocks-below zero p l = refl
blocks-below (suc k) p l = go (blocks-below k p (omega arith)) (is_free p k)
  where
    go : all (λ b. ltb b block_count) (blocks_of (held_below k p)) ≡ true → (x : Bool) → all (λ b. ltb b block_count) (blocks_of (grown k p x)) ≡ true
    go r true = r
    go r false = rw (lt-ltb k block_count l) r

all_blocks : (k : ℕ) (t : ℕ → Bool) → ((b : ℕ) → b < k → t b ≡ true) → all_below k t ≡ true
unfolding all_below
all_blocks zero t h = refl
all_blocks (suc k) t h = rw (h k (omega arith)) (all_blocks k t (λ b l. h b (omega arith)))

blocks-sound : (p : Pool) → sound_blocks (is_free p) (blocks_of (held_of p)) ≡ true
unfolding sound_blocks
blocks-sound p =
    rw (blocks-distinct block_count p, blocks-below block_count p (omega arith))
    (all_blocks block_count _ (λ b l. rw (block-member block_count p b, lt-ltb b block_count l, not-not (is_free p b)) (beq_same (is_free p b))))

-- ---- the months

-- a used block below k has its month in the list, and each month of the list is that of one
month-in : (k : ℕ) (p : Pool) (b : ℕ) → b < k → is_free p b ≡ false → member (month_of p b) (months_of (held_below k p)) ≡ true
unfolding held_below member
month-in zero p b l u = absurd (omega arith)
month-in (suc k) p b l u = go (λ h. month-in k p b h u) (is_free p k) refl (eq-or-lt_of_le (le_of_suc-le-suc l))
  where
    go : (b < k → member (month_of p b) (months_of (held_below k p)) ≡ true) → (x : Bool) → is_free p k ≡ x → (b ≡ k) ⊎ (b < k)
        → member (month_of p b) (months_of (grown k p x)) ≡ true
    go r true f (inl s) = absurd (false≢true (sym u ∙ ap (is_free p) s ∙ f))
    go r true f (inr h) = r h
    go r false f (inl s) = rw (eq-eqb (month_of p b) (month_of p k) (ap (month_of p) s))
    go r false f (inr h) = rw (r h) (or-true (eqb (month_of p b) (month_of p k)))

-- the used blocks below k that have month m
abbrev Below : ℕ → Pool → ℕ → Type 0
Below k p m = (b : ℕ) × (b < k) × (is_free p b ≡ false) × (month_of p b ≡ m)

month-out : (k : ℕ) (p : Pool) (m : ℕ) → member m (months_of (held_below k p)) ≡ true → Below k p m
unfolding held_below member
month-out zero p m e = absurd (false≢true e)
month-out (suc k) p m e = go (month-out k p m) (is_free p k) refl e
  where
    up : Below k p m → Below (suc k) p m
    up w = (w.0, omega (arith, w.1), w.2, w.3)

    go : (member m (months_of (held_below k p)) ≡ true → Below k p m) → (x : Bool) → is_free p k ≡ x
        → member m (months_of (grown k p x)) ≡ true → Below (suc k) p m
    go r true f d = up (r d)
    go r false f d =
        ⊎_elim (λ s. (k, omega arith, f, sym (eqb-true m (month_of p k) s))) (λ d'. up (r d'))
        (either (eqb m (month_of p k)) (member m (months_of (held_below k p))) d)

-- ---- 01's words from a sound pool

module _ (p : Pool) (floor : ℕ) (s : Sound p floor) where
  months-distinct : (k : ℕ) → k ≤ block_count → distinct (months_of (held_below k p)) ≡ true
  unfolding held_below distinct
  months-distinct zero l = refl
  months-distinct (suc k) l = go (months-distinct k (omega arith)) (is_free p k) refl
    where
      other : is_free p k ≡ false → member (month_of p k) (months_of (held_below k p)) ≡ true → ⊥
      other u d =
          let w = month-out k p (month_of p k) d in
          let below : InBlock p (month_of p k) w.0 = record { below = omega (arith, w.1); used = w.2; month = w.3 } in
          let top : InBlock p (month_of p k) k = record { below = l; used = u; month = refl } in
          let same : w.0 ≡ k = s.one (month_of p k) w.0 k below top in
          omega (arith, w.1)

      go : distinct (months_of (held_below k p)) ≡ true → (x : Bool) → is_free p k ≡ x → distinct (months_of (grown k p x)) ≡ true
      go r true f = r
      go r false f = rw (not-member (member (month_of p k) (months_of (held_below k p))) (other f)) r

  months-range : (k : ℕ) → k ≤ block_count → all (λ m. leb floor m && ltb m month_count) (months_of (held_below k p)) ≡ true
  unfolding held_below all
  months-range zero l = refl
  months-range (suc k) l = go (months-range k (omega arith)) (is_free p k) refl
    where
      go : all (λ m. leb floor m && ltb m month_count) (months_of (held_below k p)) ≡ true → (x : Bool) → is_free p k ≡ x
          → all (λ m. leb floor m && ltb m month_count) (months_of (grown k p x)) ≡ true
      go r true f = r
      go r false f =
          let i : InBlock p (month_of p k) k = record { below = l; used = f; month = refl } in
          rw (le-leb floor (month_of p k) (s.low _ k i), lt-ltb (month_of p k) month_count (omega (arith, s.high _ k i))) r

-- ---- a sound pool from 01's words

all-member : (t : ℕ → Bool) (ms : List ℕ) (m : ℕ) → all t ms ≡ true → member m ms ≡ true → t m ≡ true
unfolding all member
all-member t [] m e d = absurd (false≢true d)
all-member t (x ∷ ms) m e d =
    let w = both (t x) (all t ms) e in
    ⊎_elim (λ q. ap t (eqb-true m x q) ∙ w.0) (λ q. all-member t ms m w.1 q) (either (eqb m x) (member m ms) d)

distinct-down : (n k : ℕ) (p : Pool) → k ≤ n → distinct (months_of (held_below n p)) ≡ true → distinct (months_of (held_below k p)) ≡ true
unfolding held_below distinct
distinct-down zero zero p l e = e
distinct-down zero (suc k) p l e = absurd (omega arith)
distinct-down (suc n) k p l e =
    ⊎_elim (λ q. ap (λ (j : ℕ). distinct (months_of (held_below j p))) q ∙ e)
    (λ h. distinct-down n k p (le_of_suc-le-suc h) (go (is_free p n) e))
    (eq-or-lt_of_le l)
  where
    go : (x : Bool) → distinct (months_of (grown n p x)) ≡ true → distinct (months_of (held_below n p)) ≡ true
    go true d = d
    go false d = (both (not (member (month_of p n) (months_of (held_below n p)))) (distinct (months_of (held_below n p))) d).1

-- a month does not stand in the list below its own block
once : (p : Pool) (b : ℕ) → is_free p b ≡ false → distinct (months_of (held_below (suc b) p)) ≡ true
    → member (month_of p b) (months_of (held_below b p)) ≡ false
unfolding held_below distinct
once p b u e = not-true _ (both (not (member (month_of p b) (months_of (held_below b p)))) (distinct (months_of (held_below b p))) (rw u at e)).0

module _ (p : Pool) (floor : ℕ) (e : sound_months floor (months_of (held_of p)) ≡ true) where
  apart : distinct (months_of (held_of p)) ≡ true
  unfolding sound_months
  apart = (both (distinct (months_of (held_of p))) (all (λ m. leb floor m && ltb m month_count) (months_of (held_of p))) e).0

  range : (m b : ℕ) → InBlock p m b → (leb floor m && ltb m month_count) ≡ true
  unfolding sound_months
  range m b i =
      all-member (λ m. leb floor m && ltb m month_count) (months_of (held_of p)) m
      (both (distinct (months_of (held_of p))) (all (λ m. leb floor m && ltb m month_count) (months_of (held_of p))) e).1
      (rw i.month at (month-in block_count p b i.below i.used))

  -- no two used blocks, one above the other, have one month
  above : (m a b : ℕ) → InBlock p m a → InBlock p m b → a < b → ⊥
  above m a b i j l =
      false≢true (sym (once p b j.used (distinct-down block_count (suc b) p j.below apart))
      ∙ ap (λ (x : ℕ). member x (months_of (held_below b p))) (j.month ∙ sym i.month)
      ∙ month-in b p a l i.used)

  pool-sound : Sound p floor
  pool-sound = record {
    low = λ m b i. leb-true floor m (both (leb floor m) (ltb m month_count) (range m b i)).0;
    high = λ m b i. le_of_suc-le-suc (ltb-true m month_count (both (leb floor m) (ltb m month_count) (range m b i)).1);
    one = λ m a b i j. go m a b i j (ltb a b) refl (ltb b a) refl;
  }
    where
      go : (m a b : ℕ) → InBlock p m a → InBlock p m b → (x : Bool) → ltb a b ≡ x → (y : Bool) → ltb b a ≡ y → a ≡ b
      go m a b i j true x y w = absurd (above m a b i j (ltb-true a b x))
      go m a b i j false x true w = absurd (above m b a j i (ltb-true b a w))
      go m a b i j false x false w = omega (arith, ltb-false a b x, ltb-false b a w)

-- ---- both

pub sound-same : (p : Pool) (floor : ℕ) → sound_of p floor ≡ sound_pool p floor
unfolding sound_pool sound_months
sound-same p floor =
    same {a = sound_of p floor} {b = sound_pool p floor}
    (λ e.
    let s = (sound-is p floor).0 e in
    rw (months-distinct p floor s block_count (omega arith), months-range p floor s block_count (omega arith)) (blocks-sound p))
    (λ e. (sound-is p floor).1 (pool-sound p floor (both (sound_months floor (months_of (held_of p))) (sound_blocks (is_free p) (blocks_of (held_of p))) e).0))

-- 01's soundness of the pool, as facts
pub pool-facts : (p : Pool) (floor : ℕ) → sound_pool p floor ≡ true → Sound p floor
pool-facts p floor e = (sound-is p floor).0 (sound-same p floor ∙ e)

pub facts-pool : (p : Pool) (floor : ℕ) → Sound p floor → sound_pool p floor ≡ true
facts-pool p floor s = sym (sound-same p floor) ∙ (sound-is p floor).1 s
