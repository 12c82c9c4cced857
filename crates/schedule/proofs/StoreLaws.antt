-- Laws of a sound store: a scan of bytes, a block, and the blocks one after the other.
use Prim.Native.Nat.{ℕ, zero, suc, ◌+◌, ◌-◌, ◌*◌, ◌≤◌, ◌<◌, max}
use mathlib.Core.Path.{◌≡◌, ◌∙◌, refl, sym, ap, ap₂}
use mathlib.Core.Bool.{Bool, true, false, cond, ◌&&◌, ◌||◌}
use mathlib.Core.List.{List, ◌∷◌}
use native.Mathlib.Nat.{le_of_suc-le-suc}
use native.Mathlib.Numerals.{add-one}
use native.Mathlib.Omega.{arith}
use lib.Dec.{leb, eqb}
use lib.ListN.{length, get_or, take, drop}
use borrow.Author.Tests.{eq-eqb, ne_eqb, le-leb, lt-leb, leb-true, leb-false, eqb-true, eqb-false}
use Rattle.std.specs.List.{enumerate_from, zip}
use Rattle.std.specs.Simd.{first_chunks}
use Rattle.std.specs.Slice.Iter.{iter_rest}
use Rattle.std.specs.Iterator.Adapters.{enumerate_source, enumerate_count, enumerate_steps, zip_first, zip_second}
use Rattle.std.specs.declared.iter.Enumerate.{Enumerate}
use Rattle.std.specs.declared.iter.Zip.{Zip}
use Rattle.std.proofs.Common.{Iter}
use Rattle.std.proofs.iter.Yields.{fronts}
use Rattle.std.proofs.lemmas.Iterator.{YieldsList, YieldsList-from_slice, YieldsList-from_zip, zips}
use Rattle.std.proofs.lemmas.Iterator.Consumers.{YieldsList-from_enumerate}
use Rattle.std.proofs.lemmas.List.{drop-drop}
use Rattle.std.proofs.lemmas.List.FromFn.{length-enumerate_from, get_or-enumerate_from}
use Rattle.std.proofs.lemmas.Slice.Zip.{length-zip, get_or-zip}
use Rattle.rules.specs.Calendar.{slots_of_month}
use Rattle.rules.specs.Body.{highest_rate}
use Rattle.rules.specs.Store.{store_length, block_length, no_rate, all, block_of, sound_block, sound_store, block_count, lawful_byte}
use Rattle.laws.proofs.Bytes.{part-rest}
use Rattle.calendar.proofs.Laws.{days-range}
use Rattle.digits.proofs.Scan.{all-step, all_end, worst-step}
use Rattle.pool.specs.Blocks.{is_free, month_of}
use Rattle.pool.specs.Held.{held_below}
use Rattle.pool.specs.declared.Pool.{Pool}
use Rattle.schedule.specs.Stored.{store_holds}
use Rattle.schedule.specs.Rates.{rank_of, highest_rank, blank_byte}
use Rattle.schedule.proofs.Parts.{get_d_in}

-- ---- a scan: the flag says that the bytes below i passed

module _ (test : ℕ → Bool) (s : List ℕ) (i : ℕ) (good : Bool) where
  pub scan_step : i < length s → (good && all test (drop i s)) ≡ ((good && test (get_or s i 0)) && all test (drop (i + 1) s))
  unfolding all
  scan_step = all-step test (all test) refl (λ x xs. refl) s i good

  pub scan_end : length s ≤ i → (good && all test (drop i s)) ≡ good
  unfolding all
  scan_end = all_end test (all test) refl (λ x xs. refl) s i good

-- a byte is lawful where its rank is that of a rate
rank-lawful : (x : ℕ) → x < 256 → lawful_byte x ≡ leb (rank_of x) highest_rank
rank-lawful x h = go (leb x highest_rate) refl (eqb x no_rate) refl
  where
    go : (s : Bool) → leb x highest_rate ≡ s → (t : Bool) → eqb x no_rate ≡ t → (s || t) ≡ leb (rank_of x) highest_rank
    go true e t f = let k = leb-true x highest_rate e in sym (le-leb (rank_of x) highest_rank (omega arith))
    go false e true f = let k = eqb-true x no_rate f in sym (le-leb (rank_of x) highest_rank (omega arith))
    go false e false f =
        let k = leb-false x highest_rate e in
        let d : x ≡ no_rate → ⊥ = eqb-false x no_rate f in
        sym (lt-leb (rank_of x) highest_rank (omega arith))

-- the scan by the greatest rank
pub rates_step : (s : List ℕ) (i worst : ℕ) → i < length s → get_or s i 0 < 256
    → (leb worst highest_rank && all lawful_byte (drop i s)) ≡ (leb (max worst (rank_of (get_or s i 0))) highest_rank && all lawful_byte (drop (i + 1) s))
unfolding all
rates_step s i worst h b =
    worst-step lawful_byte (all lawful_byte) refl (λ x xs. refl) rank_of highest_rank s i worst h (rank-lawful (get_or s i 0) b)

-- ---- a block

pub month_fits : (m : ℕ) → slots_of_month m ≤ block_length
month_fits m = omega (arith, days-range m)

-- the bytes up to the month's end, and those past it
pub block_parts : (m end : ℕ) (block : List ℕ) (a b : Bool) → length block ≡ block_length → end ≡ slots_of_month m
    → a ≡ all lawful_byte (take end block) → b ≡ all blank_byte (take (block_length - end) (drop end block)) → (a && b) ≡ sound_block m block
unfolding sound_block
block_parts m end block a b l e f g = rw (f, g, ← l, part-rest block end, e)

-- ---- the blocks, with their months, one after the other

chunk_at : (k i : ℕ) (xs d : List ℕ) → i < k → get_or (first_chunks block_length k xs) i d ≡ take block_length (drop (i * block_length) xs)
chunk_at zero i xs d l = absurd (omega arith)
chunk_at (suc k) zero xs d l = refl
chunk_at (suc k) (suc i) xs d l =
    chunk_at k i (drop block_length xs) d (le_of_suc-le-suc l)
    ∙ ap (take block_length) (drop-drop (i * block_length) block_length xs ∙ ap (λ (n : ℕ). drop n xs) (omega arith))

chunks_length : (k : ℕ) (xs : List ℕ) → length (first_chunks block_length k xs) ≡ k
chunks_length zero xs = refl
chunks_length (suc k) xs = ap suc (chunks_length k (drop block_length xs))

-- what the walk over months and blocks gives
pub walk : {s : Enumerate (Zip (Iter ℕ) (Iter (List ℕ)))} (ks : List ℕ) (vs : List (List ℕ)) → iter_rest (zip_first (enumerate_source s)) ≡ ks
    → iter_rest (zip_second (enumerate_source s)) ≡ vs → enumerate_count s ≡ 0
    → YieldsList {B = ℕ × (ℕ × List ℕ)} (enumerate_steps (zips fronts fronts)) (λ p. (p.0, (p.1.0.now, p.1.1.now))) s (enumerate_from 0 (zip ks vs))
walk ks vs e f g = YieldsList-from_enumerate (YieldsList-from_zip (YieldsList-from_slice ks e) (YieldsList-from_slice vs f)) g

module _ (p : Pool) (store : List ℕ) where
  -- block b is free, or is sound with its month
  abbrev pub place-holds : ℕ × (ℕ × List ℕ) → Bool
  place-holds q = is_free p q.0 || sound_block q.1.0 q.1.1

  abbrev pub places : List (ℕ × (ℕ × List ℕ))
  places = enumerate_from 0 (zip p.months (first_chunks block_length block_count store))

  places-length : length p.months ≡ block_count → length places ≡ block_count
  places-length long =
      length-enumerate_from 0 (zip p.months (first_chunks block_length block_count store))
      ∙ length-zip p.months (first_chunks block_length block_count store)
      ∙ omega (arith, chunks_length block_count store, long)

  place-at : (n : ℕ) (d : ℕ × (ℕ × List ℕ)) → length p.months ≡ block_count → n < block_count → get_or places n d ≡ (n, (month_of p n, block_of store n))
  place-at n d long l =
      let blocks = first_chunks block_length block_count store in
      let pairs : get_or (zip p.months blocks) n d.1 ≡ (month_of p n, block_of store n) =
      get_or-zip p.months blocks n d.1 (omega (arith, long, l)) (omega (arith, chunks_length block_count store, l))
      ∙ ap₂ (λ (m : ℕ) (b : List ℕ). (m, b)) (get_d_in p.months n d.1.0 0 (omega (arith, long, l))) (chunk_at block_count n store d.1.1 l) in
      get_or-enumerate_from 0 (zip p.months blocks) n d (omega (arith, length-zip p.months blocks, chunks_length block_count store, long, l))
      ∙ ap₂ (λ (k : ℕ) (q : ℕ × List ℕ). (k, q)) (omega arith) pairs

  -- the held blocks below b and block b
  next : (b : ℕ) → (place-holds (b, (month_of p b, block_of store b)) && sound_store (held_below b p) store) ≡ sound_store (held_below (b + 1) p) store
  unfolding held_below sound_store
  next b = rw (add-one b) (go (is_free p b))
    where
      go : (t : Bool) → ((t || sound_block (month_of p b) (block_of store b)) && sound_store (held_below b p) store)
          ≡ sound_store (cond t (held_below b p) (record { month = month_of p b; block = b } ∷ held_below b p)) store
      go true = refl
      go false = refl

  pub store_none : true ≡ sound_store (held_below 0 p) store
  unfolding held_below sound_store
  store_none = refl

  pub store_turn : (n : ℕ) (q : ℕ × (ℕ × List ℕ)) (x good : Bool) → length p.months ≡ block_count
      → n < length places → q ≡ get_or places n q → x ≡ place-holds q
      → good ≡ sound_store (held_below n p) store → (x && good) ≡ sound_store (held_below (n + 1) p) store
  store_turn n q x good long l e f h =
      let few : n < block_count = omega (arith, places-length long, l) in
      ap₂ ◌&&◌ (f ∙ ap place-holds (e ∙ place-at n q long few)) h ∙ next n

  pub store_end : (n : ℕ) (good : Bool) → length p.months ≡ block_count → n ≡ length places
      → good ≡ sound_store (held_below n p) store → length store ≡ store_length → good ≡ store_holds p store
  unfolding store_holds
  store_end n good long e f h = f ∙ rw (e ∙ places-length long, eq-eqb (length store) store_length h)

  pub store_other : (length store ≡ store_length → ⊥) → false ≡ store_holds p store
  unfolding store_holds
  store_other n = rw (ne_eqb (length store) store_length n)
