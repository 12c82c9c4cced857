-- The lister needs to read no more than `enough` bytes of its input: the line is the same, for every input.
use Rattle.std.specs.Prelude.{Option, None, Some}
use Prim.Native.Nat.{ℕ, zero, suc, ◌+◌, ◌-◌, ◌<◌}
use mathlib.Core.Path.{◌≡◌, ◌∙◌, refl, sym, ap, ap₂}
use mathlib.Core.Bool.{Bool, true, false, cond}
use mathlib.Core.List.{List, [], ◌∷◌}
use native.Mathlib.Omega.{arith}
use borrow.Author.Tests.{leb-true, leb-false, eqb-true, eqb-false, ne_eqb}
use lib.Dec.{leb, eqb, lit<}
use lib.ListN.{length, take, length-take}
use lib.Seq.{take_all, take-nil}
use Rattle.rules.specs.Name.{Name, name_length, name_shape, parse_name}
use Rattle.rules.specs.Body.{Body, parse_body}
use Rattle.rules.specs.File.{refuse, id_fits, with_body, with_name, read_file}
use Rattle.rules.specs.Lister.{name_part, body_part, line_of, line}
use Rattle.rules.specs.Table.{need}
use Rattle.rules.specs.declared.Cause.{Cause}
use Rattle.rules.specs.declared.Format.{Format}
use Rattle.listing.specs.Bound.{longest_body, enough}
use Rattle.listing.proofs.Parsed.{long-none}

-- ---- the parts of the first k bytes

name-take : (k : ℕ) (x : List ℕ) → name_part (take k x) ≡ take k (name_part x)
unfolding name_part
name-take zero x = refl
name-take (suc k) [] = refl
name-take (suc k) (b ∷ x) = go (eqb b 10) (name-take k x)
  where
    go : (t : Bool) → name_part (take k x) ≡ take k (name_part x) → cond t [] (b ∷ name_part (take k x)) ≡ take (suc k) (cond t [] (b ∷ name_part x))
    go true h = refl
    go false h = ap (λ (s : List ℕ). b ∷ s) h

body-take : (k : ℕ) (x : List ℕ) → length (name_part x) < k → body_part (take k x) ≡ take (k - (length (name_part x) + 1)) (body_part x)
unfolding name_part body_part
body-take zero x h = absurd (omega arith)
body-take (suc k) [] h = sym (take-nil (suc k - (0 + 1)))
body-take (suc k) (b ∷ x) h = go (eqb b 10) h (λ l. body-take k x l)
  where
    go : (t : Bool) → length (cond t [] (b ∷ name_part x)) < suc k
        → (length (name_part x) < k → body_part (take k x) ≡ take (k - (length (name_part x) + 1)) (body_part x))
        → cond t (take k x) (body_part (take k x)) ≡ take (suc k - (length (cond t [] (b ∷ name_part x)) + 1)) (cond t x (body_part x))
    go true l ih =
        let e : k ≡ suc k - (0 + 1) = omega arith in
        ap (λ (j : ℕ). take j x) e
    go false l ih =
        let e : k - (length (name_part x) + 1) ≡ suc k - (suc (length (name_part x)) + 1) = omega arith in
        ih (omega arith) ∙ ap (λ (j : ℕ). take j (body_part x)) e

-- ---- a body is refused for its length by the byte that is too much

body-bounded : (f : Format) (s : List ℕ) → parse_body f (take (longest_body + 1) s) ≡ parse_body f s
body-bounded f s = go (leb (length s) (longest_body + 1)) refl
  where
    go : (t : Bool) → leb (length s) (longest_body + 1) ≡ t → parse_body f (take (longest_body + 1) s) ≡ parse_body f s
    go true h = ap (parse_body f) (take_all (longest_body + 1) s (leb-true (length s) (longest_body + 1) h))
    go false h =
        let l : longest_body + 1 < length s = leb-false (length s) (longest_body + 1) h in
        long-none f (take (longest_body + 1) s) (rw length-take (omega arith)) ∙ sym (long-none f s (omega arith))

read-bounded : (plant : Option (List ℕ)) (name body : List ℕ) → read_file plant name (take (longest_body + 1) body) ≡ read_file plant name body
unfolding read_file
read-bounded plant name body = go (parse_name name)
  where
    go : (o : Option Name) → with_name plant (take (longest_body + 1) body) o ≡ with_name plant body o
    go None = refl
    go (Some n) = ap (λ (b : Option Body). need (id_fits plant n.plant) (refuse Cause.OtherPlant) (with_body n b)) (body-bounded n.format body)

-- ---- a name of another length is refused, whatever follows

other_length : (s : List ℕ) → (length s ≡ name_length → ⊥) → parse_name s ≡ None
unfolding parse_name name_shape
other_length s h = rw (ne_eqb (length s) name_length h) refl

unnamed : (plant : Option (List ℕ)) (name body : List ℕ) → (length name ≡ name_length → ⊥) → read_file plant name body ≡ refuse Cause.Name
unfolding read_file
unnamed plant name body h = rw (other_length name h) refl

still_other : (k : ℕ) (x : List ℕ) → name_length < k → (length (name_part x) ≡ name_length → ⊥) → length (name_part (take k x)) ≡ name_length → ⊥
still_other k x h d e = omega (arith, ap length (name-take k x), length-take k (name_part x))

-- ---- the theorem

pub line-bounded : (x : List ℕ) → line (take enough x) ≡ line x
unfolding line
line-bounded x = ap line_of (go (eqb (length (name_part x)) name_length) refl)
  where
    go : (t : Bool) → eqb (length (name_part x)) name_length ≡ t
        → read_file None (name_part (take enough x)) (body_part (take enough x)) ≡ read_file None (name_part x) (body_part x)
    go true h =
        let l : length (name_part x) ≡ name_length = eqb-true (length (name_part x)) name_length h in
        let n : name_part (take enough x) ≡ name_part x = name-take enough x ∙ take_all enough (name_part x) (omega arith) in
        let e : enough - (length (name_part x) + 1) ≡ longest_body + 1 = omega arith in
        let b : body_part (take enough x) ≡ take (longest_body + 1) (body_part x) = body-take enough x (omega arith) ∙ ap (λ (j : ℕ). take j (body_part x)) e in
        ap₂ (read_file None) n b ∙ read-bounded None (name_part x) (body_part x)
    go false h =
        let d = eqb-false (length (name_part x)) name_length h in
        unnamed None (name_part (take enough x)) (body_part (take enough x)) (still_other enough x (lit< tt) d)
        ∙ sym (unnamed None (name_part x) (body_part x) d)
