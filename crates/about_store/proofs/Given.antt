-- Laws of the pool beyond its own: which blocks hold which months after one is given or some are released, and how many are free.
use Rattle.std.specs.Prelude.{Some, None}
use mathlib.Core.Path.{◌≡◌, refl, sym, ap, ◌∙◌}
use mathlib.Core.Logic.{◌⊎◌, inl, inr, ◌↔◌}
use mathlib.Core.Bool.{Bool, true, false, not, ◌&&◌, false≢true, and-true}
use Prim.Native.Nat.{ℕ, ◌+◌, ◌^◌, ◌<◌}
use native.Mathlib.Omega.{arith}
use lib.Dec.{eqb}
use lib.ListN.{length, get_or, set, length-set}
use lib.Seq.{get_or-set_same, get_or-set_other}
use borrow.Author.Tests.{eqb-true, eqb-false, eq-eqb}
use Rattle.rules.specs.Calendar.{month_count}
use Rattle.rules.specs.Machine.{count_below}
use Rattle.rules.specs.Store.{member, block_count}
use Rattle.laws.proofs.Tests.{same}
use Rattle.pool.specs.Blocks.{is_free, free_count, find_of, given, free_after, release_of}
use Rattle.pool.specs.Held.{InBlock, Held, Sound, held_months}
use Rattle.pool.specs.declared.Pool.{Pool}
use Rattle.pool.proofs.BelowLaws.{bit-number, number_lt}
use Rattle.pool.proofs.Laws.{find_in, free-is, months-held, months-once, months-few}
use Rattle.about_store.specs.Untouched.{Keeps}
use Rattle.about_store.proofs.Counts.{count_same, count-list, member-mem, mem-member}

-- ---- a block given

free-given : (p : Pool) (m b c : ℕ) → c < block_count → is_free (given p m b) c ≡ is_free p c && not (eqb c b)
free-given p m b c h = bit-number block_count (λ c. is_free p c && not (eqb c b)) c h

module _ (p : Pool) (m b : ℕ) (long : length p.months ≡ block_count) (l : b < block_count) where
  -- a block that is used afterwards is the one given, or was used before and has the same month
  pub given-cases : (x c : ℕ) → InBlock (given p m b) x c → ((x ≡ m) × (c ≡ b)) ⊎ ((c ≡ b → ⊥) × InBlock p x c)
  given-cases x c i = go (eqb c b) refl
    where
      go : (t : Bool) → eqb c b ≡ t → ((x ≡ m) × (c ≡ b)) ⊎ ((c ≡ b → ⊥) × InBlock p x c)
      go true e =
          let same = eqb-true c b e in
          inl (sym i.month ∙ ap (λ (k : ℕ). get_or (set p.months b m) k 0) same ∙ get_or-set_same p.months b m 0 (omega arith), same)
      go false e = inr (
        eqb-false c b e,
        record {
          below = i.below;
          used = sym (and-true (is_free p c)) ∙ (rw e at (sym (free-given p m b c i.below) ∙ i.used));
          month = sym (get_or-set_other p.months b c m 0 (eqb-false c b e)) ∙ i.month;
        },
      )

module _ (p : Pool) (m b : ℕ) (long : length p.months ≡ block_count) (l : b < block_count) (free : is_free p b ≡ true) where
  pub given-new : InBlock (given p m b) m b
  given-new = record { below = l; used = free-given p m b b l ∙ rw (free, eq-eqb b b refl); month = get_or-set_same p.months b m 0 (omega arith) }

  pub given-keeps : Keeps p (given p m b)
  given-keeps = record {
    long = length-set p.months b m ∙ long;
    kept = λ x c i. record {
      below = i.below;
      used = free-given p m b c i.below ∙ rw i.used;
      month = get_or-set_other p.months b c m 0 (λ e. false≢true (sym i.used ∙ ap (is_free p) e ∙ free)) ∙ i.month;
    };
  }

pub given-bits : (p : Pool) (m b : ℕ) → (given p m b).free < 2 ^ block_count
given-bits p m b = number_lt block_count (λ c. is_free p c && not (eqb c b))

-- ---- blocks released

module _ (p : Pool) (floor : ℕ) where
  pub released-bits : (release_of p floor).free < 2 ^ block_count
  unfolding release_of
  released-bits = number_lt block_count (free_after p floor)

  pub released-months : (release_of p floor).months ≡ p.months
  unfolding release_of
  released-months = refl

-- ---- what find answers

pub found-not : (p : Pool) (floor m : ℕ) → Sound p floor → find_of p m ≡ None → Held p m → ⊥
found-not p floor m s e h =
    let z : Some h.0 ≡ None = sym (find_in p floor m h.0 s h.1) ∙ e in
    let w : ◌≡◌ {A = ℕ} 0 1 = cc in
    omega arith

-- ---- the held months as a list, and as a test

module _ (p : Pool) (floor : ℕ) (s : Sound p floor) (test : ℕ → Bool) (is : (m : ℕ) → Held p m ↔ (test m ≡ true)) where
  pub member-held : (m : ℕ) → member m (held_months p) ≡ test m
  member-held m =
      same (λ e. (is m).0 ((months-held p m).0 (member-mem m (held_months p) e)))
      (λ e. mem-member m (held_months p) ((months-held p m).1 ((is m).1 e)))

  -- the free blocks and the held months are as many as the blocks
  pub free-held : free_count p + count_below month_count test ≡ block_count
  free-held =
      let few = months-few block_count p in
      let all = count-list month_count (held_months p) (months-once p floor block_count (omega arith) s)
      (λ m d. let w = (months-held p m).0 d in omega (arith, s.high m w.0 w.1)) in
      let eq = count_same month_count (λ m. member m (held_months p)) test (λ m l. member-held m) in
      omega (arith, free-is p)
