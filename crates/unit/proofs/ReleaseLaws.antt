-- Giving blocks back: twice is once, what is left is found as before and is sound, and a sound store gives no rate above 100.
use Rattle.std.specs.Prelude.{Option, Some, None}
use Prim.Native.Nat.{ℕ, zero, suc, ◌-◌, ◌*◌, ◌/◌, ◌^◌, ◌≤◌, ◌<◌, zero-le}
use native.Mathlib.Nat.{le_of_suc-le-suc, eq-or-lt_of_le, max-le}
use native.Mathlib.Omega.{arith}
use mathlib.Core.Path.{◌≡◌, ◌∙◌, refl, sym, ap, ap₂}
use mathlib.Core.Logic.{◌⊎◌, inl, inr}
use mathlib.Core.Bool.{Bool, true, false, cond, ◌&&◌, ◌||◌, false≢true}
use mathlib.Core.List.{List, [], ◌∷◌}
use lib.Dec.{leb, ltb, eqb}
use lib.ListN.{get_or, take, drop}
use lib.Seq.{get_or-take, get_or-drop}
use borrow.Author.Tests.{lt-ltb, le-ltb, ltb-true, leb-true}
use Rattle.rules.specs.Calendar.{slot_of, month_of as month_of_second, month_of_slot, first_slot, slots_of_month, slot_length, slot_count}
use Rattle.rules.specs.Body.{highest_rate}
use Rattle.rules.specs.Store.{no_rate, from_byte, all, block_of, sound_block, sound_store, block_count, block_length, lawful_byte}
use Rattle.rules.specs.Machine.{raised_floor, or_zero}
use Rattle.laws.proofs.Tests.{both}
use Rattle.calendar.proofs.Laws.{days-range, first-slot-step, slot-month-from, slot-month-until, slot-month-monotone, month-slot}
use Rattle.pool.specs.Blocks.{is_free, month_of, find_of, free_after, release_of}
use Rattle.pool.specs.Held.{InBlock, Held, Sound, held_below, held_of}
use Rattle.pool.specs.declared.Pool.{Pool}
use Rattle.pool.proofs.BelowLaws.{bit-number, sum_same}
use Rattle.pool.proofs.Laws.{released-held, released-sound, find_in, find_at, find_none}
use Rattle.schedule.specs.Stored.{place, rate_found, stored_rate}

-- ---- the free blocks

free-released : (p : Pool) (floor b : ℕ) → b < block_count → is_free (release_of p floor) b ≡ free_after p floor b
unfolding release_of
free-released p floor b l = bit-number block_count (free_after p floor) b l

months-released : (p : Pool) (floor b : ℕ) → month_of (release_of p floor) b ≡ month_of p b
unfolding release_of
months-released p floor b = refl

-- what is below f is below g
or-below : (x : Bool) (m f g : ℕ) → f ≤ g → ((x || ltb m f) || ltb m g) ≡ (x || ltb m g)
or-below true m f g l = refl
or-below false m f g l = go (ltb m f) refl
  where
    go : (t : Bool) → ltb m f ≡ t → (t || ltb m g) ≡ ltb m g
    go true e = sym (lt-ltb m g (omega (arith, ltb-true m f e)))
    go false e = refl

-- given back below f and then below g is given back below g
pub release_release : (p : Pool) (f g : ℕ) → f ≤ g → release_of (release_of p f) g ≡ release_of p g
unfolding release_of
release_release p f g l =
    ap (λ (n : ℕ). record { months = p.months; free = n })
    (sum_same (λ b. 2 ^ b) block_count _ (free_after p g)
    (λ b h. ap (λ (x : Bool). x || ltb (month_of p b) g) (free-released p f b h) ∙ or-below (is_free p b) (month_of p b) f g l))

-- ---- what is found

released_out : (p : Pool) (floor m b : ℕ) → InBlock p m b → floor ≤ m → InBlock (release_of p floor) m b
released_out p floor m b i h = record {
  below = i.below;
  used = free-released p floor b i.below ∙ rw (i.used, i.month, le-ltb m floor h);
  month = months-released p floor b ∙ i.month;
}

-- a month that is not below the new floor, or was not held, is found as before
pub find_released : (p : Pool) (old floor m : ℕ) → Sound p old → (Held p m → floor ≤ m) → find_of (release_of p floor) m ≡ find_of p m
find_released p old floor m s above = go (find_of p m) refl
  where
    go : (r : Option ℕ) → find_of p m ≡ r → find_of (release_of p floor) m ≡ r
    go (Some b) e =
        let i = find_at p m b e in
        find_in (release_of p floor) floor m b (released-sound p floor old s) (released_out p floor m b i (above (b, i)))
    go None e =
        find_none (release_of p floor) m
        (λ h.
        let w = ((released-held p floor m).0 h).0 in
        let at : Some w.0 ≡ None = sym (find_in p old m w.0 s w.1) ∙ e in
        let z : ◌≡◌ {A = ℕ} 0 1 = cc in
        omega arith)

-- ---- floor and seconds

pub month-monotone : (s t : ℕ) → s ≤ t → month_of_second s ≤ month_of_second t
month-monotone s t l =
    let d : s / slot_length ≤ t / slot_length = omega arith in
    rw (month-slot s, month-slot t) (slot-month-monotone (s / slot_length) (t / slot_length) d)

-- the floor of a later second does not look at an earlier one
pub floor-again : (f s t : ℕ) → s ≤ t → raised_floor (raised_floor f s) t ≡ raised_floor f t
floor-again f s t l = let m = month-monotone s t l in omega arith

-- the floor of a second leaves the rates of that second and of every later one
pub rate-released : (p : Pool) (store : List ℕ) (floor s t : ℕ) → Sound p floor → s ≤ t
    → stored_rate (release_of p (raised_floor floor s)) store (slot_of t) ≡ stored_rate p store (slot_of t)
unfolding stored_rate
rate-released p store floor s t sound l =
    let m = month_of_slot (slot_of t) in
    let later : month_of_second s ≤ m = rw (month-slot t) at (month-monotone s t l) in
    ap (λ (r : Option ℕ). rate_found r store (slot_of t - first_slot m))
    (find_released p floor (raised_floor floor s) m sound (λ h. max-le (sound.low m h.0 h.1) (omega arith)))

-- ---- the store

module _ (p : Pool) (floor : ℕ) (store : List ℕ) where
  store_below : (k : ℕ) → k ≤ block_count → sound_store (held_below k p) store ≡ true → sound_store (held_below k (release_of p floor)) store ≡ true
  unfolding held_below sound_store
  store_below zero l e = refl
  store_below (suc k) l e =
      rw (months-released p floor k)
      (go (is_free p k) (is_free (release_of p floor) k) (λ x. free-released p floor k l ∙ rw x) (store_below k (omega arith)) e)
    where
      block : Bool
      block = sound_block (month_of p k) (block_of store k)

      go : (x y : Bool) → (x ≡ true → y ≡ true)
          → (sound_store (held_below k p) store ≡ true → sound_store (held_below k (release_of p floor)) store ≡ true)
          → sound_store (cond x (held_below k p) (record { month = month_of p k; block = k } ∷ held_below k p)) store ≡ true
          → let q = release_of p floor in
          sound_store (cond y (held_below k q) (record { month = month_of p k; block = k } ∷ held_below k q)) store ≡ true
      go true true free rest d = rest d
      go false true free rest d = rest (both block (sound_store (held_below k p) store) d).1
      go false false free rest d = let w = both block (sound_store (held_below k p) store) d in ap₂ ◌&&◌ w.0 (rest w.1)
      go true false free rest d = absurd (false≢true (free refl))

  -- a sound store is sound with what is left
  pub store-released : sound_store (held_of p) store ≡ true → sound_store (held_of (release_of p floor)) store ≡ true
  store-released = store_below block_count (omega arith)

-- a held block of a sound store is sound
pub held-block : (p : Pool) (store : List ℕ) (k b : ℕ) → b < k → is_free p b ≡ false → sound_store (held_below k p) store ≡ true
    → sound_block (month_of p b) (block_of store b) ≡ true
unfolding held_below sound_store
held-block p store zero b l u e = absurd (omega arith)
held-block p store (suc k) b l u e = go (is_free p k) refl (λ h. held-block p store k b h u) (eq-or-lt_of_le (le_of_suc-le-suc l)) e
  where
    block : ℕ → Bool
    block j = sound_block (month_of p j) (block_of store j)

    go : (x : Bool) → is_free p k ≡ x → (b < k → sound_store (held_below k p) store ≡ true → block b ≡ true) → (b ≡ k) ⊎ (b < k)
        → sound_store (cond x (held_below k p) (record { month = month_of p k; block = k } ∷ held_below k p)) store ≡ true → block b ≡ true
    go true f rest (inl s) d = absurd (false≢true (sym u ∙ ap (is_free p) s ∙ f))
    go true f rest (inr h) d = rest h d
    go false f rest (inl s) d = ap block s ∙ (both (block k) (sound_store (held_below k p) store) d).0
    go false f rest (inr h) d = rest h (both (block k) (sound_store (held_below k p) store) d).1

pub all-at : (test : ℕ → Bool) (l : List ℕ) (i d : ℕ) → test d ≡ true → all test l ≡ true → test (get_or l i d) ≡ true
unfolding all
all-at test [] i d t e = t
all-at test (x ∷ l) zero d t e = (both (test x) (all test l) e).0
all-at test (x ∷ l) (suc i) d t e = all-at test l i d t (both (test x) (all test l) e).1

byte-legal : (x : ℕ) → lawful_byte x ≡ true → or_zero (from_byte x) ≤ highest_rate
unfolding from_byte
byte-legal x e = go (eqb x no_rate) e
  where
    left : (t : Bool) → t || false ≡ true → t ≡ true
    left true f = refl
    left false f = f

    go : (t : Bool) → (leb x highest_rate || t) ≡ true → or_zero (cond t None (Some x)) ≤ highest_rate
    go true f = zero-le
    go false f = leb-true x highest_rate (left (leb x highest_rate) f)

-- the bytes of a sound block's slots are rates, or none
pub block-legal : (store : List ℕ) (m b i : ℕ) → i < slots_of_month m → sound_block m (block_of store b) ≡ true
    → or_zero (from_byte (get_or store (place b i) no_rate)) ≤ highest_rate
unfolding sound_block
block-legal store m b i l e =
    let days = (days-range m).1 in
    let block = block_of store b in
    let n = slots_of_month m in
    let rates = (both (all lawful_byte (take n block)) (all (λ x. eqb x no_rate) (drop n block)) e).0 in
    let same : get_or (take n block) i no_rate ≡ get_or store (place b i) no_rate =
    get_or-take n block i no_rate l
    ∙ get_or-take block_length (drop (b * block_length) store) i no_rate (omega arith)
    ∙ get_or-drop (b * block_length) store i no_rate in
    byte-legal (get_or store (place b i) no_rate) (rw same at (all-at lawful_byte (take n block) i no_rate refl rates))

-- a sound store gives no rate above 100
pub rate-legal : (p : Pool) (store : List ℕ) (s : ℕ) → s < slot_count → sound_store (held_of p) store ≡ true → or_zero (stored_rate p store s) ≤ highest_rate
unfolding stored_rate
rate-legal p store s l e = go (find_of p (month_of_slot s)) refl
  where
    go : (r : Option ℕ) → find_of p (month_of_slot s) ≡ r → or_zero (rate_found r store (s - first_slot (month_of_slot s))) ≤ highest_rate
    go None f = zero-le
    go (Some b) f =
        let m = month_of_slot s in
        let i = find_at p m b f in
        let sound : sound_block m (block_of store b) ≡ true = rw i.month at (held-block p store block_count b i.below i.used e) in
        let from = slot-month-from s l in
        let until = slot-month-until s l in
        let step = first-slot-step m in
        block-legal store m b (s - first_slot m) (omega arith) sound
