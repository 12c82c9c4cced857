-- The words of a line: 'Words are parted by one space'.
use Rattle.std.specs.Prelude.{ℕ, zero, suc, ◌+◌, cond, List, [], ◌∷◌, take, drop, eqb}

-- the place of the first byte b, or the length where there is none
unfoldable pub place_of : ℕ → List ℕ → ℕ
place_of b [] = 0
place_of b (x ∷ xs) = cond (eqb x b) 0 (suc (place_of b xs))

abbrev pub space : ℕ
space = 32

-- the first word, and what stands behind it and its space
abbrev pub first_word : List ℕ → List ℕ
first_word s = take (place_of space s) s

abbrev pub after_word : List ℕ → List ℕ
after_word s = drop (place_of space s + 1) s

-- word k, the first of them word 0; an empty one where there are not so many
unfoldable pub word_at : ℕ → List ℕ → List ℕ
word_at zero s = first_word s
word_at (suc k) s = word_at k (after_word s)

-- one more word than spaces
unfoldable pub spaces : List ℕ → ℕ
spaces [] = 0
spaces (x ∷ xs) = cond (eqb x space) (suc (spaces xs)) (spaces xs)

abbrev pub word_count : List ℕ → ℕ
word_count s = spaces s + 1
