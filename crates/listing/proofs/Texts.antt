-- Laws of the two kinds of line: what is put after their first word is all of the line, and how long it is.
use Prim.Native.Nat.{ℕ, ◌+◌, ◌≤◌, ◌<◌}
use mathlib.Core.Path.{◌≡◌, ◌∙◌, refl, sym, ap}
use mathlib.Core.List.{List, [], ◌∷◌, ◌++◌, append_assoc}
use native.Mathlib.Omega.{arith}
use lib.ListN.{length, length-append}
use Rattle.rules.specs.Lister.{numeral}
use Rattle.listing.specs.Line.{room, line_in, puts, ok_text, refused_text}
use Rattle.listing.proofs.Numeral.{numeral-short, numeral_two, numeral_three, numeral_five}
use Rattle.listing.proofs.Short.{format_small}
use Rattle.listing.proofs.Puts.{puts-append, puts_length, puts_line}

-- a number and the byte behind it
abbrev pub field_text : ℕ → ℕ → List ℕ
field_text n b = numeral n ++ (b ∷ [])

pub length_field : (n b : ℕ) → length (field_text n b) ≡ length (numeral n) + 1
length_field n b = length-append (numeral n) (b ∷ [])

-- the three numbers of a line that is not refused are short
pub ruleset short_fields = (numeral_two, numeral_three, numeral_five, puts_length, length_field, format_small)

-- `ok ` and `refused `
abbrev pub ok_word : List ℕ
ok_word = 111 ∷ 107 ∷ 32 ∷ []

abbrev pub refused_word : List ℕ
refused_word = 114 ∷ 101 ∷ 102 ∷ 117 ∷ 115 ∷ 101 ∷ 100 ∷ 32 ∷ []

ok-text : (f r t : ℕ) → ok_text f r t ≡ ok_word ++ (field_text f 32 ++ (field_text r 32 ++ field_text t 10))
unfolding ok_text
ok-text f r t = simp append_assoc

module _ (f r t : ℕ) (hf : f < 1000) (hr : r < 100) (ht : t < 100000) where
  pub ok-short : length (ok_text f r t) ≤ 16
  ok-short =
      let a = numeral-short 17 2 f refl hf in
      let b = numeral-short 18 1 r refl hr in
      let d = numeral-short 15 4 t refl ht in
      rw ok-text (simp length-append (omega arith))

  pub ok_puts : puts (puts (puts (line_in ok_word) (field_text f 32)) (field_text r 32)) (field_text t 10) ≡ line_in (ok_text f r t)
  ok_puts =
      let l : length (ok_text f r t) ≤ 16 = ok-short in
      let m : length ok_word + length (field_text f 32 ++ (field_text r 32 ++ field_text t 10)) ≤ room
      = omega (arith, sym (ap length (ok-text f r t)), length-append ok_word (field_text f 32 ++ (field_text r 32 ++ field_text t 10))) in
      sym (puts-append (puts (line_in ok_word) (field_text f 32)) (field_text r 32) (field_text t 10))
      ∙ sym (puts-append (line_in ok_word) (field_text f 32) (field_text r 32 ++ field_text t 10))
      ∙ puts_line ok_word (field_text f 32 ++ (field_text r 32 ++ field_text t 10)) m
      ∙ ap line_in (sym (ok-text f r t))

module _ (n : ℕ) (h : n < 100) where
  pub refused_puts : puts (line_in refused_word) (field_text n 10) ≡ line_in (refused_text n)
  unfolding refused_text
  refused_puts =
      let a = numeral-short 18 1 n refl h in
      puts_line refused_word (field_text n 10) (omega (arith, length_field n 10))
