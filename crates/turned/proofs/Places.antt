-- Laws of places in rows and columns.
use Prim.Native.Nat.{ℕ, zero, suc, ◌+◌, ◌*◌, ◌/◌, ◌%◌, ◌≤◌, ◌<◌}
use mathlib.Core.Path.{◌≡◌, ◌∙◌, refl, sym, ap}
use mathlib.Core.Bool.{Bool, true, false}
use mathlib.Core.List.{List}
use native.Mathlib.Nat.{add-zero, zero-add, suc-mul, mul_comm, zero-mul, mul-le-mul_right, mod-lt, mod-eq_of_lt}
use native.Mathlib.Nat.{div-add-mod', div-eq_of_lt, div-lt_iff_lt-mul, mul-add-div_right, mul-add-mod_self_right}
use native.Mathlib.Numerals.{add-one}
use native.Mathlib.Omega.{arith}
use borrow.Author.Tests.{lt-ltb, le-ltb, ltb-true, ltb-false}
use lib.Dec.{ltb}
use lib.ListN.{length, get_or, take, set}
use lib.Seq.{ext_get_or, take-suc, take-suc-set, take_all}
use Rattle.rules.specs.Turned.{listed, source_of, rearranged}
use Rattle.turned.specs.Rows.{stepped}
use Rattle.turned.specs.Laws.{TurnedAt, TurnedThere, TurnedBackThere, TurnedLength}

-- ---- rows of a: place h * a + d is column d of row h

module _ (a h d : ℕ) (l : d < a) where
  row_of : (h * a + d) / a ≡ h
  row_of = mul-add-div_right {m = a} (omega arith) h d ∙ rw (div-eq_of_lt l) (add-zero h)

  column_of : (h * a + d) % a ≡ d
  column_of = mul-add-mod_self_right h a d ∙ mod-eq_of_lt l

  -- so it comes from column h of row d
  place_at : (b : ℕ) → source_of a b (h * a + d) ≡ d * b + h
  place_at b = rw (row_of, column_of) refl

-- what is known of a place
record In (a b j : ℕ) : Type 0 where
  d : ℕ
  h : ℕ
  is : j ≡ h * a + d
  column : d < a
  row : h < b

positive : (a b j : ℕ) → j < a * b → 0 < a
positive zero b j l = absurd (omega (arith, zero-mul b))
positive (suc a) b j l = omega arith

inside : (a b j : ℕ) → j < a * b → In a b j
inside a b j l =
    let pos = positive a b j l in
    record {
      d = j % a;
      h = j / a;
      is = sym (div-add-mod' j a);
      column = mod-lt j pos;
      row = (div-lt_iff_lt-mul {k = a} {x = j} {y = b} pos).1 (omega (arith, mul_comm a b));
    }

place_in : (a b j : ℕ) → (p : In a b j) → source_of a b j ≡ p.d * b + p.h
place_in a b j p = rw p.is (place_at a p.h p.d p.column b)

-- a row that starts below the end has all its bytes there
row_fits : (a b d : ℕ) → d < a → d * b + b ≤ a * b
row_fits a b d l = omega (arith, mul-le-mul_right {m = suc d} {n = a} b l, suc-mul d b)

pub place-below : (a b j : ℕ) → j < a * b → source_of a b j < a * b
place-below a b j l =
    let p = inside a b j l in
    rw (place_in a b j p) (omega (arith, row_fits a b p.d p.column, p.row))

-- there and back
place-back : (a b j : ℕ) → j < a * b → source_of b a (source_of a b j) ≡ j
place-back a b j l =
    let p = inside a b j l in
    rw (place_in a b j p, place_at b p.d p.h p.row a) (sym p.is)

-- ---- the next place

same-column : (a b j : ℕ) (p : In a b j) → p.d + 1 < a → source_of a b (j + 1) ≡ stepped (source_of a b j) b (a * b)
same-column a b j p l =
    let d = p.d in
    let h = p.h in
    let next : j + 1 ≡ h * a + (d + 1) = omega (arith, p.is) in
    let down : source_of a b (j + 1) ≡ (d + 1) * b + h = rw next (place_at a h (d + 1) l b) in
    let row : (d + 1) * b ≡ d * b + b = rw (add-one d) (suc-mul d b) in
    let fits : d * b + h + b < a * b = omega (arith, row_fits a b (d + 1) l, p.row) in
    down ∙ rw (place_in a b j p, lt-ltb (d * b + h + b) (a * b) fits) (omega arith)

next-column : (a b j : ℕ) (p : In a b j) → p.d + 1 ≡ a → source_of a b (j + 1) ≡ stepped (source_of a b j) b (a * b)
next-column a b j p e =
    let d = p.d in
    let h = p.h in
    let row : a * b ≡ d * b + b = rw (← e, add-one d) (suc-mul d b) in
    let over : a * b ≤ d * b + h + b = omega arith in
    let next : j + 1 ≡ suc h * a + 0 = omega (arith, p.is, suc-mul h a) in
    let top : source_of a b (j + 1) ≡ 0 * b + suc h = rw next (place_at a (suc h) 0 (omega arith) b) in
    let gone : 0 * b ≡ 0 = zero-mul b in
    top ∙ rw (place_in a b j p, le-ltb (d * b + h + b) (a * b) over) (omega (arith, p.column))

pub place-step : (a b j : ℕ) → j < a * b → source_of a b (j + 1) ≡ stepped (source_of a b j) b (a * b)
place-step a b j l = go (ltb (p.d + 1) a) refl
  where
    p : In a b j
    p = inside a b j l

    go : (t : Bool) → ltb (p.d + 1) a ≡ t → source_of a b (j + 1) ≡ stepped (source_of a b j) b (a * b)
    go true e = same-column a b j p (ltb-true (p.d + 1) a e)
    go false e = let m = ltb-false (p.d + 1) a e in next-column a b j p (omega (arith, p.column))

-- ---- lists by their places

length-listed : (n i : ℕ) (f : ℕ → ℕ) → length (listed n i f) ≡ n
unfolding listed
length-listed zero i f = refl
length-listed (suc n) i f = ap suc (length-listed n (suc i) f)

get_d-listed : (n i : ℕ) (f : ℕ → ℕ) (j : ℕ) → j < n → get_or (listed n i f) j 0 ≡ f (i + j)
unfolding listed
get_d-listed zero i f j l = absurd (omega arith)
get_d-listed (suc n) i f zero l = rw (add-zero i) refl
get_d-listed (suc n) i f (suc j) l =
    let e : suc i + j ≡ i + suc j = omega arith in
    get_d-listed n (suc i) f j (omega arith) ∙ ap f e

pub length-rearranged : (a b : ℕ) (s : List ℕ) → length (rearranged a b s) ≡ a * b
unfolding rearranged
length-rearranged a b s = length-listed (a * b) 0 (λ j. get_or s (source_of a b j) 0)

pub rearranged-at : (a b : ℕ) (s : List ℕ) (j : ℕ) → j < a * b → get_or (rearranged a b s) j 0 ≡ get_or s (source_of a b j) 0
unfolding rearranged
rearranged-at a b s j l = get_d-listed (a * b) 0 (λ j. get_or s (source_of a b j) 0) j l ∙ rw (zero-add j) refl

rearranged-back : (a b : ℕ) (s : List ℕ) → length s ≡ a * b → rearranged b a (rearranged a b s) ≡ s
rearranged-back a b s e =
    let long : length (rearranged b a (rearranged a b s)) ≡ b * a = length-rearranged b a (rearranged a b s) in
    let turn = mul_comm b a in
    ext_get_or 0 (rearranged b a (rearranged a b s)) s (omega arith)
    (λ i l.
    let h : i < b * a = omega arith in
    rearranged-at b a (rearranged a b s) i h
    ∙ rearranged-at a b s (source_of b a i) (omega (arith, place-below b a i h))
    ∙ ap (λ (k : ℕ). get_or s k 0) (place-back b a i h))

-- ---- the statements

pub turned-at : TurnedAt
turned-at days d h s l m =
    let in-range : h * days + d < days * 48 = omega (arith, row_fits 48 days h m, mul_comm days 48) in
    rearranged-at days 48 s (h * days + d) in-range ∙ rw (place_at days h d l 48) refl

pub turned-there : TurnedThere
turned-there days s e = rearranged-back days 48 s (e ∙ mul_comm 48 days)

pub turned-back-there : TurnedBackThere
turned-back-there days s e = rearranged-back 48 days s e

pub turned-length : TurnedLength
turned-length days s = (length-rearranged days 48 s ∙ mul_comm days 48, length-rearranged 48 days s)

-- ---- the loop

-- what is put at place i is the list's next byte
pub put_next : (to l : List ℕ) (i x : ℕ) → i < length l → length to ≡ length l → x ≡ get_or l i 0 → take i to ≡ take i l
    → take (i + 1) (set to i x) ≡ take (i + 1) l
put_next to l i x h e x≡ t =
    let h' : i < length to = omega arith in
    rw (add-one i, take-suc-set to i x h', take-suc l i 0 h, t, x≡) refl

pub put_all : (to l : List ℕ) (i : ℕ) → length l ≤ i → length to ≡ length l → take i to ≡ take i l → to ≡ l
put_all to l i h e t = sym (take_all i to (omega arith)) ∙ t ∙ take_all i l h
