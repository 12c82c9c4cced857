-- Laws of words that stand for bytes: which bytes they are, case by case, and what is said of them in a buffer.
use Rattle.std.specs.Prelude.{Some, None, Option}
use Prim.Native.Nat.{ℕ, ◌+◌, ◌≤◌, ◌<◌}
use mathlib.Core.Path.{◌≡◌, ◌∙◌, refl, ap}
use mathlib.Core.Bool.{Bool, true, false, cond, ◌&&◌}
use mathlib.Core.List.{List, [], ◌∷◌, ◌++◌, map}
use native.Mathlib.Omega.{arith}
use borrow.Author.Tests.{le-leb, lt-leb, leb-false}
use lib.Dec.{leb, eqb}
use lib.Pointwise.{pointwise}
use lib.ListN.{length, take, drop}
use lib.Seq.{paste, take-length}
use Rattle.rules.specs.Digits.{same_bytes}
use Rattle.std.proofs.lemmas.List.{length-take}
use Rattle.laws.proofs.Bytes.{same-equal, equal-same, pointwise-same}
use Rattle.script_fields.specs.Hex.{all_hex, hex_bytes}
use Rattle.script_fields.specs.Field.{mark, marked, hex_field, plain_byte, plain_field, body_field, field_in, buffer_with}

-- ---- what a function that puts these bytes says and leaves

abbrev pub Said : Option (List ℕ) → List ℕ → Option ℕ → List ℕ → Type 0
Said o d r out = (r ≡ field_in (length d) o) × (out ≡ buffer_with o d)

module _ {o : Option (List ℕ)} (d : List ℕ) where
  pub says_none : o ≡ None → Said o d None d
  says_none e = rw e (refl, refl)

  pub says_same : {o' : Option (List ℕ)} {r : Option ℕ} {out : List ℕ} → o ≡ o' → Said o' d r out → Said o d r out
  says_same e h = rw e h

  module _ (b : List ℕ) (e : o ≡ Some b) where
    pub says-long : length d < length b → Said o d None d
    says-long h = rw (e, lt-leb (length b) (length d) h) (refl, refl)

    pub says-put : {n : ℕ} {out : List ℕ} → n ≡ length b → out ≡ paste d 0 b n → length b ≤ length d → Said o d (Some n) out
    says-put f w h =
        let z : 0 + length b ≡ length b = omega arith in
        let front : paste d 0 b (length b) ≡ b ++ drop (length b) d = rw (take-length b, z) refl in
        rw (e, le-leb (length b) (length d) h) (ap Some f, w ∙ ap (paste d 0 b) f ∙ front)

-- ---- hex digits

pub hex-some : (s : List ℕ) → all_hex s ≡ true → hex_field s ≡ Some (hex_bytes s)
hex-some s e = rw e refl

-- ---- a plain or a marked word

-- what `strip_prefix` tests
pub marked_is : (s : List ℕ) → pointwise eqb (take 4 s) mark ≡ marked s
marked_is s = pointwise-same (take 4 s) mark ∙ go (leb 4 (length s)) refl (same_bytes (take 4 s) mark) refl
  where
    go : (l : Bool) → leb 4 (length s) ≡ l → (b : Bool) → same_bytes (take 4 s) mark ≡ b → b ≡ (l && b)
    go true e b f = refl
    go false e true f = absurd (omega (arith, leb-false 4 (length s) e, length-take 4 s, ap length (same-equal (take 4 s) mark f)))
    go false e false f = refl

module _ (digits : Bool) (s : List ℕ) where
  pub is-hex : marked s ≡ true → plain_field digits s ≡ hex_field (drop 4 s)
  unfolding plain_field
  is-hex e = rw e refl

pub no_word : (digits : Bool) (s : List ℕ) → marked s ≡ false → length s ≡ 0 → plain_field digits s ≡ None
unfolding plain_field
no_word digits [] e h = refl
no_word digits (x ∷ s) e h = absurd (omega arith)

pub is_plain : (digits : Bool) (s : List ℕ) → marked s ≡ false → (length s ≡ 0 → ⊥) → plain_field digits s ≡ Some (map (plain_byte digits) s)
unfolding plain_field
is_plain digits [] e h = absurd (h refl)
is_plain digits (x ∷ s) e h = rw e refl

-- ---- a body

pub no_body : (s : List ℕ) → s ≡ 45 ∷ [] → body_field s ≡ Some []
unfolding body_field
no_body s e = rw (equal-same e) refl

pub no-digits : (s : List ℕ) → length s < 1 → body_field s ≡ None
unfolding body_field same_bytes
no-digits [] h = refl
no-digits (x ∷ s) h = absurd (omega arith)

pub is_body : (s : List ℕ) → 1 ≤ length s → (s ≡ 45 ∷ [] → ⊥) → body_field s ≡ hex_field s
unfolding body_field
is_body [] h n = absurd (omega arith)
is_body (x ∷ s) h n = go (same_bytes (x ∷ s) (45 ∷ [])) refl
  where
    go : (t : Bool) → same_bytes (x ∷ s) (45 ∷ []) ≡ t → cond {A = Option (List ℕ)} t (Some []) (hex_field (x ∷ s)) ≡ hex_field (x ∷ s)
    go true e = absurd (n (same-equal (x ∷ s) (45 ∷ []) e))
    go false e = refl
