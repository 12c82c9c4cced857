-- Laws of lists: an element, a part that is replaced.
use Prim.Native.Nat.{ℕ, zero, suc, ◌+◌, ◌-◌, ◌≤◌, ◌<◌}
use mathlib.Core.Path.{◌≡◌, ◌∙◌, refl, sym, ap}
use mathlib.Core.List.{List, [], ◌∷◌, ◌++◌, append_assoc}
use native.Mathlib.Nat.{le_of_suc-le-suc}
use native.Mathlib.Omega.{arith}
use borrow.Rule.Slice.PartMut.{mid_of, put_mid, mid_len, Post-is}
use lib.ListN.{length, get_or, take, drop, replicate, length-replicate}
use lib.Seq.{sets, sets-eq}

-- an element within the list is the same for every default
pub get_d_in : (l : List ℕ) (i d e : ℕ) → i < length l → get_or l i d ≡ get_or l i e
get_d_in [] i d e h = absurd (omega arith)
get_d_in (x ∷ l) zero d e h = refl
get_d_in (x ∷ l) (suc i) d e h = get_d_in l i d e (le_of_suc-le-suc h)

-- ---- a part that was lent and comes back with other elements

pub put-part : (l vs : List ℕ) (a n : ℕ) → length vs ≡ n → a + n ≤ length l → put_mid a (a + n - a) l vs ≡ sets l a vs
put-part l vs a n e h =
    ap (λ (t : List ℕ). take a l ++ (vs ++ t)) (Post-is a (a + n) l (omega arith))
    ∙ sym (append_assoc (take a l) vs (drop (a + n) l))
    ∙ ap (λ (k : ℕ). take a l ++ vs ++ drop (a + k) l) (sym e)
    ∙ sym (sets-eq vs l a (omega arith))

pub fill_part : (l vs : List ℕ) (a n v : ℕ) → a + n ≤ length l → vs ≡ replicate (length (mid_of a (a + n - a) l)) v
    → put_mid a (a + n - a) l vs ≡ sets l a (replicate n v)
fill_part l vs a n v h e =
    let k : length (mid_of a (a + n - a) l) ≡ n = mid_len a (a + n) l h ∙ omega arith in
    let f : vs ≡ replicate n v = e ∙ ap (λ (j : ℕ). replicate j v) k in
    ap (put_mid a (a + n - a) l) f ∙ put-part l (replicate n v) a n (length-replicate n v) h
