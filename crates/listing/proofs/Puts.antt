-- Laws of a line that grows: bytes put one after another are the line of all of them.
use Prim.Native.Nat.{ℕ, suc, ◌+◌, ◌-◌, ◌/◌, ◌%◌, ◌^◌, ◌≤◌, ◌<◌}
use mathlib.Core.Path.{◌≡◌, ◌∙◌, refl, sym, ap}
use mathlib.Core.List.{List, [], ◌∷◌, ◌++◌, append-nil, append_assoc}
use native.Mathlib.Omega.{arith}
use lib.ListN.{length, replicate, set, length-append}
use lib.Seq.{set-append_seam}
use Rattle.rules.specs.Lister.{numeral}
use Rattle.listing.specs.declared.Line.{Line}
use Rattle.listing.specs.Line.{room, line_in, put_in, puts}
use Rattle.listing.proofs.Numeral.{numeral_one, numeral-more, digits_more}

pub puts-append : (l : Line) (s t : List ℕ) → puts l (s ++ t) ≡ puts (puts l s) t
unfolding puts
puts-append l [] t = refl
puts-append l (b ∷ s) t = puts-append (put_in l b) s t

pub puts_length : (l : Line) (s : List ℕ) → (puts l s).length ≡ l.length + length s
unfolding puts
puts_length l [] = omega arith
puts_length l (b ∷ s) = puts_length (put_in l b) s ∙ omega arith

-- the bytes of a line are there
pub line-fits : (l : Line) (s : List ℕ) → l ≡ line_in s → l.length ≤ length l.bytes
unfolding line_in
line-fits l s e = rw e (omega (arith, length-append s (replicate (room - length s) 0)))

-- a byte behind a line that has room for it
put-line : (s : List ℕ) (b : ℕ) → length s < room → put_in (line_in s) b ≡ line_in (s ++ (b ∷ []))
unfolding line_in
put-line s b h =
    let r : room - length s ≡ suc (room - (length s + 1)) = omega arith in
    let m : length (s ++ (b ∷ [])) ≡ length s + 1 = length-append s (b ∷ []) in
    let e : set (s ++ replicate (room - length s) 0) (length s) b ≡ (s ++ (b ∷ [])) ++ replicate (room - length (s ++ (b ∷ []))) 0
    = rw (r, m, set-append_seam s 0 (replicate (room - (length s + 1)) 0) b, append_assoc) refl in
    rw (e, m) refl

pub puts_line : (s t : List ℕ) → length s + length t ≤ room → puts (line_in s) t ≡ line_in (s ++ t)
unfolding puts
puts_line s [] h = rw append-nil refl
puts_line s (b ∷ t) h =
    let m : length (s ++ (b ∷ [])) ≡ length s + 1 = length-append s (b ∷ []) in
    ap (λ (l : Line). puts l t) (put-line s b (omega arith)) ∙ puts_line (s ++ (b ∷ [])) t (omega arith) ∙ ap line_in (append_assoc s (b ∷ []) t)

-- ---- a number is put digit by digit

pub put_one : (l : Line) (n : ℕ) → n < 10 → put_in l (n % 10 + 48) ≡ puts l (numeral n)
unfolding puts
put_one l n h = rw (numeral_one n h) refl

pub put_more : (l : Line) (n : ℕ) → 10 ≤ n → n < 10 ^ 20 → put_in (puts l (numeral (n / 10))) (n % 10 + 48) ≡ puts l (numeral n)
unfolding puts
put_more l n h m =
    let d = (n % 10 + 48) ∷ [] in
    sym (ap (puts l) (numeral-more n h m) ∙ puts-append l (numeral (n / 10)) d)

pub put_behind : (l : Line) (s : List ℕ) (b : ℕ) → put_in (puts l s) b ≡ puts l (s ++ (b ∷ []))
unfolding puts
put_behind l s b = sym (puts-append l s (b ∷ []))

pub ruleset digit_by_digit = (numeral_one, digits_more, puts_length, put_one, put_more)

pub ruleset line_there = (line-fits)
