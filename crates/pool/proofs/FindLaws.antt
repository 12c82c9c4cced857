-- The first block whose place and month pass, as an iterator over the blocks finds it.
use Rattle.std.specs.Prelude.{Option, Some, None, MatchOption}
use mathlib.Core.Path.{◌≡◌, sym, ap, subst, ◌∙◌}
use mathlib.Core.Logic.{⊎_elim}
use mathlib.Core.Bool.{Bool, true, false, not, ◌&&◌}
use mathlib.Core.List.{List}
use Prim.Native.Nat.{ℕ, zero, suc, ◌+◌, ◌≤◌, ◌<◌}
use native.Mathlib.Nat.{eq-or-lt_of_le}
use native.Mathlib.Omega.{arith}
use lib.Dec.{eqb}
use lib.ListN.{length, get_or}
use borrow.Author.Tests.{lt-ltb}
use denote.Param.Members.{Mut, Called}
use Rattle.std.specs.Array.{IsFromFnResultFrom, IsFromFnResult}
use Rattle.std.specs.Option.{option_map}
use Rattle.std.specs.List.{enumerate_from, AllWithin, HoldsAt}
use Rattle.std.proofs.lemmas.List.FromFn.{length-enumerate_from, get_or-enumerate_from}
use Rattle.rules.specs.Store.{block_count}
use Rattle.pool.specs.Blocks.{is_free, holds, month_of, find_of}
use Rattle.pool.specs.declared.Pool.{Pool}
use Rattle.pool.proofs.BelowLaws.{first-is}

-- a block's place and its month: it is used, and has month m
abbrev pub has : Pool → ℕ → ℕ × ℕ → Bool
has p m q = not (is_free p q.0) && eqb q.1 m

module _ (p : Pool) (m : ℕ) (long : length p.months ≡ block_count) where
  abbrev all : List (ℕ × ℕ)
  all = enumerate_from 0 p.months

  all-length : length all ≡ block_count
  all-length = length-enumerate_from 0 p.months ∙ long

  block-at : (b : ℕ) → b < block_count → get_or all b (0, 0) ≡ (b, month_of p b)
  block-at b l = get_or-enumerate_from 0 p.months b (0, 0) (omega (arith, long)) ∙ ap {B = ℕ × ℕ} (λ k. (k, month_of p b)) (omega arith)

  -- no block passes; block i is the first that does
  abbrev None-passes : ℕ → Type 0
  None-passes i = AllWithin (λ q. has p m q ≡ false) all 0 i

  none-holds : (i : ℕ) → i ≤ block_count → None-passes i → (b : ℕ) → b < i → holds p m b ≡ false
  none-holds i l h b k = sym (ap (has p m) (block-at b (omega arith))) ∙ h b (0, 0) (omega arith) k

  pub first-block : {A : Type 0} (v : A → ℕ × ℕ) (r : Option A)
      → MatchOption r (None-passes (length all)) (λ x. (has p m (v x) ≡ true) × (i : ℕ) × (i < length all) × HoldsAt (λ q. q ≡ v x) all i × None-passes i)
      → option_map (λ x. (v x).0) r ≡ find_of p m
  unfolding find_of
  first-block v None h =
      let few : length all ≤ block_count = omega (arith, all-length) in
      let none : (b : ℕ) → b < block_count → holds p m b ≡ false = λ b l. none-holds (length all) few h b (omega (arith, all-length)) in
      rw (first-is block_count (holds p m) block_count (omega arith) none (λ l. absurd (omega arith)))
  first-block v (Some x) h =
      let i = h.1 in
      let below : i < block_count = omega (arith, h.2, all-length) in
      let is : (i, month_of p i) ≡ v x = sym (block-at i below) ∙ h.3 (0, 0) in
      let first = first-is block_count (holds p m) i (omega arith) (none-holds i (omega arith) h.4) (λ _. ap (has p m) is ∙ h.0) in
      rw (first, lt-ltb i block_count below) (ap Some (sym (ap (λ (q : ℕ × ℕ). q.0) is)))

-- ---- a list that a closure made

module _ {F : Type 0} {g : Mut F (ℕ × Unit {0}) ℕ} {f : F} (ys : List ℕ) (n : ℕ) (h : ℕ → ℕ)
    (told : (j y : ℕ) (q : F) → j < n → Called g f (j, tt) y q → (q ≡ f) × (y ≡ h j)) where
  made-from : (k i : ℕ) → i + k ≡ n → IsFromFnResultFrom g f ys i k → (b : ℕ) → i ≤ b → b < n → get_or ys b 0 ≡ h b
  made-from zero i e r b l m = absurd (omega arith)
  made-from (suc k) i e r b l m =
      let same = told i r.1 r.0 (omega arith) r.3 in
      let rest : IsFromFnResultFrom g f ys (i + 1) k = subst (λ p. IsFromFnResultFrom g p ys (i + 1) k) same.0 r.4 in
      ⊎_elim (λ s. rw (← s) (r.2.1 0 ∙ same.1)) (λ s. made-from k (i + 1) (omega arith) rest b (omega arith) m) (eq-or-lt_of_le l)

  pub made_at : IsFromFnResult g f ys n → (b : ℕ) → b < n → get_or ys b 0 ≡ h b
  made_at r b l = made-from n 0 (omega arith) r.each b (omega arith) l
