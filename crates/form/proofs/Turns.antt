-- Laws of one turn of a walk: the fields of its parts are the record's, and what is left.
use Rattle.std.specs.Prelude.{None, Some}
use Prim.Native.Nat.{ℕ, zero, suc, ◌<◌}
use mathlib.Core.Path.{◌≡◌, refl, ap}
use mathlib.Core.Bool.{true}
use mathlib.Core.List.{List, [], ◌∷◌}
use native.Mathlib.Omega.{arith}
use lib.ListN.{length, drop}
use borrow.Author.Tests.{le-leb, lt-leb}
use Rattle.std.proofs.lemmas.Iterator.{YieldsList}
use Rattle.std.proofs.lemmas.Iterator.Consumers.{YieldsList-from_shown}
use Rattle.rules.specs.Body.{size_of, record_shape}
use Rattle.rules.specs.declared.Format.{Format}
use Rattle.laws.proofs.Tests.{both}
use Rattle.layout.specs.Walk.{record_of, Goes}
use Rattle.layout.specs.declared.walk.Parts.{Parts}
use Rattle.layout.specs.declared.walk.Records.{Records}
use Rattle.layout.proofs.Fronts.{fields_are}
use Rattle.form.specs.Walk.{shaped, records_from, whole_from, shaped_left, records_left}
use Rattle.form.proofs.Walk.{whole, within}

-- records of right form are all there
pub all-whole : (f : Format) (k : ℕ) (s : List ℕ) → shaped f k s ≡ true → whole_from f k s ≡ records_from f k s
unfolding whole_from records_from shaped
all-whole f zero s e = refl
all-whole f (suc k) s e =
    let b = both (record_shape f s) (shaped f k (drop (size_of f s) s)) e in
    rw (le-leb (size_of f s) (length s) (within f s (whole f s b.0) refl), all-whole f k (drop (size_of f s) s) b.1) refl

-- ---- a turn

-- where none are left or bytes are missing
over-none : (f : Format) (k : ℕ) (s : List ℕ) → (0 < k → length s < size_of f s) → whole_from f k s ≡ []
unfolding whole_from
over-none f zero s h = refl
over-none f (suc k) s h = rw (lt-leb (size_of f s) (length s) (h (omega arith))) refl

module _ (s t : Records) where
  pub records-turn : (p : Parts) → Goes s (Some p) t → records_left s ≡ record_of p ∷ records_left t
  unfolding whole_from
  records-turn p g = rw (g.2, g.1, g.3, fields_are s.format s.rest.now p g.0, le-leb (size_of s.format s.rest.now) (length s.rest.now) g.0.room) refl

  pub records-over : Goes s None t → records_left s ≡ []
  records-over g = over-none s.format s.left s.rest.now g.0

-- the walk gives the records that it has left
pub yields : (s : Records) → YieldsList Goes record_of s (records_left s)
yields = YieldsList-from_shown Goes record_of records_left (λ s t g. ap length (records-over s t g)) (λ s p t g. records-turn s t p g)

-- a walk as it begins
module _ (w : Records) {f : Format} {k : ℕ} {s : List ℕ} (f≡ : w.format ≡ f) (k≡ : w.left ≡ k) (s≡ : w.rest.now ≡ s) where
  pub begins-shaped : shaped_left w ≡ shaped f k s
  begins-shaped = rw (f≡, k≡, s≡) refl

  pub begins-records : shaped f k s ≡ true → records_left w ≡ records_from f k s
  begins-records e = rw (f≡, k≡, s≡) (all-whole f k s e)
