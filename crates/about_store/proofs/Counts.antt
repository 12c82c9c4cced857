-- Laws of the machine's count of the months that pass a test, and of the length of a list of months.
use mathlib.Core.Path.{◌≡◌, refl, sym, ap, ap₂, ◌∙◌}
use mathlib.Core.Logic.{◌⊎◌, inl, inr, ⊎_elim}
use mathlib.Core.Bool.{Bool, true, false, ◌||◌, false≢true, or-true, not, ◌&&◌}
use mathlib.Core.List.Memᴰ
use mathlib.Core.List.{List, [], ◌∷◌, Memᴰ}
use Prim.Native.Nat.{ℕ, zero, suc, ◌+◌, ◌≤◌, ◌<◌}
use native.Mathlib.Omega.{arith}
use native.Mathlib.Nat.{le_of_suc-le-suc, eq-or-lt_of_le}
use lib.Dec.{eqb}
use lib.ListN.{length}
use borrow.Author.Tests.{eqb-true, eq-eqb, ne_eqb}
use Rattle.rules.specs.Machine.{one, count_below}
use Rattle.rules.specs.Store.{member}
use Rattle.laws.proofs.Tests.{isnt, either}
use Rattle.pool.specs.Held.{Distinct}
use Rattle.schedule.proofs.MissingLaws.{count_none}

pub count_same : (k : ℕ) (p q : ℕ → Bool) → ((m : ℕ) → m < k → p m ≡ q m) → count_below k p ≡ count_below k q
unfolding count_below
count_same zero p q h = refl
count_same (suc k) p q h = ap₂ (λ (n : ℕ) (t : Bool). n + one t) (count_same k p q (λ m l. h m (omega arith))) (h k (omega arith))

pub one-le : (s t : Bool) → (s ≡ true → t ≡ true) → one s ≤ one t
one-le true t h = rw (h refl) (omega arith)
one-le false t h = omega arith

-- a test that passes where another does passes at least as often
pub count-le : (k : ℕ) (p q : ℕ → Bool) → ((m : ℕ) → p m ≡ true → q m ≡ true) → count_below k p ≤ count_below k q
unfolding count_below
count-le zero p q h = omega arith
count-le (suc k) p q h = omega (arith, count-le k p q h, one-le (p k) (q k) (h k))

pub count_add : (k : ℕ) (p q r : ℕ → Bool) → ((m : ℕ) → one (r m) ≡ one (p m) + one (q m)) → count_below k r ≡ count_below k p + count_below k q
unfolding count_below
count_add zero p q r h = refl
count_add (suc k) p q r h = omega (arith, count_add k p q r h, h k)

-- one number is x
pub count-one : (k x : ℕ) → x < k → count_below k (λ m. eqb m x) ≡ 1
unfolding count_below
count-one zero x l = absurd (omega arith)
count-one (suc k) x l = go (count-one k x) (eq-or-lt_of_le (le_of_suc-le-suc l))
  where
    go : (x < k → count_below k (λ m. eqb m x) ≡ 1) → (x ≡ k) ⊎ (x < k) → count_below k (λ m. eqb m x) + one (eqb k x) ≡ 1
    go rest (inl e) = rw (count_none k (λ m. eqb m x) (λ m h. ne_eqb m x (λ z. omega arith)), eq-eqb k x (sym e))
    go rest (inr h) = rw (rest h, ne_eqb k x (λ z. omega arith))

-- one more passes
pub count-open : (k x : ℕ) (p : ℕ → Bool) → x < k → p x ≡ false → count_below k (λ m. eqb m x || p m) ≡ 1 + count_below k p
count-open k x p l e = count_add k (λ m. eqb m x) p (λ m. eqb m x || p m) (λ m. go m (eqb m x) refl) ∙ ap (λ (n : ℕ). n + count_below k p) (count-one k x l)
  where
    go : (m : ℕ) (t : Bool) → eqb m x ≡ t → one (t || p m) ≡ one t + one (p m)
    go m true q = let z : p m ≡ false = ap p (eqb-true m x q) ∙ e in rw z
    go m false q = omega arith

-- where h passes, or x and y do: h, and both of them where h does not
pub one_more : (x y h : Bool) → one (x && y || h) ≡ one h + one (x && y && not h)
one_more true true true = refl
one_more true true false = refl
one_more true false true = refl
one_more true false false = refl
one_more false y true = refl
one_more false y false = refl

-- ---- lists

pub member-mem : (m : ℕ) (xs : List ℕ) → member m xs ≡ true → Memᴰ m xs
unfolding member
member-mem m [] e = absurd (false≢true e)
member-mem m (x ∷ xs) e = ⊎_elim (λ q. Memᴰ.head (eqb-true m x q)) (λ q. Memᴰ.tail (member-mem m xs q)) (either (eqb m x) (member m xs) e)

pub mem-member : (m : ℕ) (xs : List ℕ) → Memᴰ m xs → member m xs ≡ true
unfolding member
mem-member m [] d = absurd (Memᴰ.not-nil d)
mem-member m (x ∷ xs) d = ⊎_elim (λ q. rw (eq-eqb m x q)) (λ q. rw (mem-member m xs q) (or-true (eqb m x))) (Memᴰ.cases_cons d)

-- as many numbers pass as stand in a list of different numbers
pub count-list : (k : ℕ) (xs : List ℕ) → Distinct xs → ((m : ℕ) → Memᴰ m xs → m < k) → count_below k (λ m. member m xs) ≡ length xs
unfolding member
count-list k [] d l = count_none k (λ m. false) (λ m h. refl)
count-list k (x ∷ xs) d l =
    count-open k x (λ m. member m xs) (l x (Memᴰ.head refl)) (isnt (λ e. d.0 (member-mem x xs e)))
    ∙ ap (λ (n : ℕ). 1 + n) (count-list k xs d.1 (λ m h. l m (Memᴰ.tail h)))
    ∙ omega arith
