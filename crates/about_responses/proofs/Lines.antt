-- A line is read exactly.
use Rattle.laws.proofs.Options.{some-injective}
use Rattle.std.specs.Prelude.{Option, None, Some}
use Prim.Native.Nat.{ℕ}
use mathlib.Core.Path.{◌≡◌, ◌∙◌, refl, ap, ap₂, subst}
use mathlib.Core.Bool.{Bool, true, false, cond, not, false≢true, and-false}
use mathlib.Core.List.{List, [], ◌∷◌, ◌++◌}
use borrow.Author.Tests.{eqb-true, not-true}
use lib.Dec.{eqb}
use lib.ListN.{drop}
use Rattle.rules.specs.Response.{line_end, pair_at, no_pair, before_byte, line_of}
use Rattle.laws.proofs.Tests.{no-some, both, join}

-- ---- a line

pub line-stops : (x : ℕ) (s : List ℕ) → pair_at (x ∷ s) ≡ true → line_of (x ∷ s) ≡ Some ([], drop 1 s)
unfolding line_of
line-stops x s e = rw e refl

pub line-more : (x : ℕ) (s : List ℕ) → pair_at (x ∷ s) ≡ false → line_of (x ∷ s) ≡ before_byte x (line_of s)
unfolding line_of
line-more x s e = rw e refl

pair_made : (x : ℕ) (s : List ℕ) → pair_at (x ∷ s) ≡ true → x ∷ s ≡ line_end ++ drop 1 s
pair_made x [] e = absurd (false≢true e)
pair_made x (y ∷ s) e =
    let p = both (eqb x 13) (eqb y 10) e in
    ap₂ (λ (a b : ℕ). a ∷ b ∷ s) (eqb-true x 13 p.0) (eqb-true y 10 p.1)

pub pair-none : no_pair [] ≡ true
unfolding no_pair
pair-none = refl

pair-before : (x : ℕ) (s l rest : List ℕ) → pair_at (x ∷ s) ≡ false → s ≡ l ++ (line_end ++ rest) → no_pair l ≡ true → no_pair (x ∷ l) ≡ true
unfolding no_pair
pair-before x s [] rest f e n = refl
pair-before x s (y ∷ l) rest f e n =
    let g : pair_at (x ∷ y ∷ l) ≡ false = subst (λ (t : List ℕ). pair_at (x ∷ t) ≡ false) e f in
    join {a = not (pair_at (x ∷ y ∷ l))} {b = no_pair (y ∷ l)} (ap not g) n

abbrev pub LineMade : List ℕ → List ℕ × List ℕ → Type 0
LineMade s q = (s ≡ q.0 ++ (line_end ++ q.1)) × (no_pair q.0 ≡ true)

pub line_made : (s : List ℕ) (q : List ℕ × List ℕ) → line_of s ≡ Some q → LineMade s q
unfolding line_of
line_made [] q e = no-some e
line_made (x ∷ s) q e = go (pair_at (x ∷ s)) refl (λ r. line_made s r) e
  where
    go : (t : Bool) → pair_at (x ∷ s) ≡ t → ((r : List ℕ × List ℕ) → line_of s ≡ Some r → LineMade s r)
        → cond {A = Option (List ℕ × List ℕ)} t (Some ([], drop 1 s)) (before_byte x (line_of s)) ≡ Some q → LineMade (x ∷ s) q
    go true f ih g = subst (LineMade (x ∷ s)) (some-injective _ q g) (pair_made x s f, pair-none)
    go false f ih g = second (line_of s) refl g
      where
        second : (o : Option (List ℕ × List ℕ)) → line_of s ≡ o → before_byte x o ≡ Some q → LineMade (x ∷ s) q
        second None h g = no-some g
        second (Some r) h g =
            let m = ih r h in
            subst (LineMade (x ∷ s)) (some-injective _ q g)
            (ap (λ (t : List ℕ). x ∷ t) m.0, pair-before x s r.0 r.1 f m.0 m.1)

pub line-back : (l rest : List ℕ) → no_pair l ≡ true → line_of (l ++ (line_end ++ rest)) ≡ Some (l, rest)
unfolding no_pair
line-back [] rest n = line-stops 13 (10 ∷ rest) refl
line-back (x ∷ []) rest n = line-more x (13 ∷ 10 ∷ rest) (and-false (eqb x 13)) ∙ ap (before_byte x) (line-stops 13 (10 ∷ rest) refl)
line-back (x ∷ y ∷ l) rest n =
    let p = both (not (pair_at (x ∷ y ∷ l))) (no_pair (y ∷ l)) n in
    line-more x (y ∷ (l ++ (line_end ++ rest))) (not-true (pair_at (x ∷ y ∷ l)) p.0) ∙ ap (before_byte x) (line-back (y ∷ l) rest p.1)
