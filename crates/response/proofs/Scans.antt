-- Laws of the loops that look for a line's end and for a name.
use Rattle.std.specs.Prelude.{Option, None, Some}
use Prim.Native.Nat.{ℕ, zero, suc, ◌+◌, ◌-◌, ◌<◌, ◌≤◌}
use mathlib.Core.Path.{◌≡◌, ◌∙◌, refl, sym, ap, ap₂}
use mathlib.Core.Bool.{Bool, true, false, ◌&&◌}
use mathlib.Core.List.{List, [], ◌∷◌, ◌++◌, append_assoc, append-nil}
use native.Mathlib.Numerals.{add-one}
use native.Mathlib.Omega.{arith}
use borrow.Author.Tests.{leb-true, leb-false}
use lib.Dec.{eqb, leb}
use lib.ListN.{length, get_or, take, drop, length-drop}
use lib.Seq.{take-suc, drop-drop, drop-length}
use Rattle.rules.specs.Response.{pair_at, begins, behind, before_byte, line_of}
use Rattle.std.specs.Option.{MatchOption}
use Rattle.laws.proofs.Bytes.{at_next, part-rest}
use Rattle.about_responses.proofs.Begins.{begins-fits}
use Rattle.about_responses.proofs.Lines.{line-stops, line-more}

-- ---- a line's end

abbrev pub after_bytes : List ℕ → Option (List ℕ × List ℕ) → Option (List ℕ × List ℕ)
after_bytes l None = None
after_bytes l (Some q) = Some (l ++ q.0, q.1)

after-byte : (l : List ℕ) (x : ℕ) (o : Option (List ℕ × List ℕ)) → after_bytes l (before_byte x o) ≡ after_bytes (l ++ (x ∷ [])) o
after-byte l x None = refl
after-byte l x (Some q) = rw (append_assoc l (x ∷ []) q.0) refl

pub after_none : (o : Option (List ℕ × List ℕ)) → o ≡ after_bytes [] o
after_none None = refl
after_none (Some q) = refl

pub part-more : (s : List ℕ) (i : ℕ) → i < length s → take (i + 1) s ≡ take i s ++ (get_or s i 0 ∷ [])
part-more s i h = let n : i + 1 ≡ suc i = omega arith in ap (λ (k : ℕ). take k s) n ∙ take-suc s i 0 h

pub pair-at : (s : List ℕ) (i : ℕ) → i + 1 < length s → pair_at (drop i s) ≡ (eqb (get_or s i 0) 13 && eqb (get_or s (i + 1) 0) 10)
pair-at s i h =
    let k : i < length s = omega arith in
    ap pair_at (at_next s i k ∙ ap (λ (t : List ℕ). get_or s i 0 ∷ t) (at_next s (i + 1) h))

module _ (s : List ℕ) (i : ℕ) (k : i + 1 < length s) where
  below : i < length s
  below = omega arith

  pub line-next : (eqb (get_or s i 0) 13 && eqb (get_or s (i + 1) 0) 10) ≡ false
      → after_bytes (take i s) (line_of (drop i s)) ≡ after_bytes (take (i + 1) s) (line_of (drop (i + 1) s))
  line-next e =
      let f : pair_at (get_or s i 0 ∷ drop (i + 1) s) ≡ false = ap pair_at (sym (at_next s i below)) ∙ pair-at s i k ∙ e in
      ap (λ (t : List ℕ). after_bytes (take i s) (line_of t)) (at_next s i below)
      ∙ ap (after_bytes (take i s)) (line-more (get_or s i 0) (drop (i + 1) s) f)
      ∙ after-byte (take i s) (get_or s i 0) (line_of (drop (i + 1) s))
      ∙ ap (λ (t : List ℕ). after_bytes t (line_of (drop (i + 1) s))) (sym (part-more s i below))

  pub line-found : (eqb (get_or s i 0) 13 && eqb (get_or s (i + 1) 0) 10) ≡ true
      → after_bytes (take i s) (line_of (drop i s)) ≡ Some (take i s, drop (i + 2) s)
  line-found e =
      let f : pair_at (get_or s i 0 ∷ drop (i + 1) s) ≡ true = ap pair_at (sym (at_next s i below)) ∙ pair-at s i k ∙ e in
      let n : i + 1 + 1 ≡ i + 2 = omega arith in
      ap (λ (t : List ℕ). after_bytes (take i s) (line_of t)) (at_next s i below)
      ∙ ap (after_bytes (take i s)) (line-stops (get_or s i 0) (drop (i + 1) s) f)
      ∙ ap₂ {C = Option (List ℕ × List ℕ)} (λ (a b : List ℕ). Some (a, b)) (append-nil (take i s))
      (drop-drop 1 (i + 1) s ∙ ap (λ (a : ℕ). drop a s) n)

short-line : (s : List ℕ) → length s ≤ 1 → line_of s ≡ None
unfolding line_of
short-line [] h = refl
short-line (x ∷ []) h = refl
short-line (x ∷ y ∷ s) h = absurd (omega arith)

line-open : (s l : List ℕ) (i : ℕ) → length s ≤ i + 1 → after_bytes l (line_of (drop i s)) ≡ None
line-open s l i h = ap (after_bytes l) (short-line (drop i s) (omega (arith, length-drop i s)))

-- whether a pair begins at a place, as the search tests it
abbrev pub Pair : List ℕ → ℕ → Bool → Type 0
Pair s i b = (eqb (get_or s i 0) 13 && eqb (get_or s (i + 1) 0) 10) ≡ b

passed : (s : List ℕ) (i : ℕ) → i < length s → ((k : ℕ) → 0 ≤ k → k < i → Pair s k false) → line_of s ≡ after_bytes (take i s) (line_of (drop i s))
passed s zero h f = after_none (line_of s)
passed s (suc i) h f =
    let none : (k : ℕ) → 0 ≤ k → k < i → Pair s k false = λ k l m. f k l (omega arith) in
    passed s i (omega arith) none ∙ line-next s i (omega arith) (f i (omega arith) (omega arith))
    ∙ ap (λ (k : ℕ). after_bytes (take k s) (line_of (drop k s))) (add-one i)

-- what the search finds is the first line's end
pub record EndAt (s : List ℕ) (i : ℕ) : Type 0 where
  pub found : line_of s ≡ Some (take i s, drop (i + 2) s)
  pub within : i + 2 ≤ length s

abbrev pub Ends : List ℕ → Option ℕ → Type 0
Ends s None = line_of s ≡ None
Ends s (Some i) = EndAt s i

pub line_ends : (s : List ℕ) {end : ℕ} (r : Option ℕ) → end ≡ length s - 1
    → MatchOption r ((k : ℕ) → 0 ≤ k → k < end → Pair s k false)
    (λ i. (0 ≤ i) × (i < end) × Pair s i true × ((k : ℕ) → 0 ≤ k → k < i → Pair s k false))
    → Ends s r
line_ends s {end} None last f = go (leb (length s) 1) refl
  where
    go : (t : Bool) → leb (length s) 1 ≡ t → line_of s ≡ None
    go true e = short-line s (leb-true (length s) 1 e)
    go false e = let l = leb-false (length s) 1 e in passed s end (omega (arith, last)) f ∙ line-open s (take end s) end (omega (arith, last))
line_ends s (Some i) last f =
    record {
      found = passed s i (omega (arith, f.1, last)) f.3 ∙ line-found s i (omega (arith, f.1, last)) f.2;
      within = omega (arith, f.1, last);
    }

-- ---- what follows the first p

behind-step : (p : List ℕ) (x : ℕ) (t : List ℕ) → begins p (x ∷ t) ≡ false → behind p (x ∷ t) ≡ behind p t
unfolding behind
behind-step p x t e = rw e refl

behind-here : (p : List ℕ) (x : ℕ) (t : List ℕ) → begins p (x ∷ t) ≡ true → behind p (x ∷ t) ≡ Some (drop (length p) (x ∷ t))
unfolding behind
behind-here p x t e = rw e refl

behind_more : (p s : List ℕ) (i : ℕ) → i < length s → begins p (drop i s) ≡ false → behind p (drop i s) ≡ behind p (drop (i + 1) s)
behind_more p s i h e =
    let f : begins p (get_or s i 0 ∷ drop (i + 1) s) ≡ false = ap (begins p) (sym (at_next s i h)) ∙ e in
    ap (behind p) (at_next s i h) ∙ behind-step p (get_or s i 0) (drop (i + 1) s) f

behind-found : (p s : List ℕ) (i : ℕ) → i < length s → begins p (drop i s) ≡ true → behind p (drop i s) ≡ Some (drop (i + length p) s)
behind-found p s i h e =
    let f : begins p (get_or s i 0 ∷ drop (i + 1) s) ≡ true = ap (begins p) (sym (at_next s i h)) ∙ e in
    ap (behind p) (at_next s i h)
    ∙ behind-here p (get_or s i 0) (drop (i + 1) s) f
    ∙ ap {B = Option (List ℕ)} (λ (t : List ℕ). Some (drop (length p) t)) (sym (at_next s i h))
    ∙ ap {B = Option (List ℕ)} Some (drop-drop (length p) i s)

-- whether the rest from a place on, which is `&s[i..]`, begins so
abbrev pub Begun : List ℕ → List ℕ → ℕ → Bool → Type 0
Begun p s i b = begins p (take (length s - i) (drop i s)) ≡ b

begun : (p s : List ℕ) (i : ℕ) {b : Bool} → Begun p s i b → begins p (drop i s) ≡ b
begun p s i h = ap (begins p) (sym (part-rest s i)) ∙ h

-- no place below i begins so
skipped : (p s : List ℕ) (i : ℕ) → i ≤ length s → ((k : ℕ) → 0 ≤ k → k < i → Begun p s k false) → behind p s ≡ behind p (drop i s)
skipped p s zero h f = refl
skipped p s (suc i) h f =
    let none : (k : ℕ) → 0 ≤ k → k < i → Begun p s k false = λ k l m. f k l (omega arith) in
    skipped p s i (omega arith) none ∙ behind_more p s i (omega arith) (begun p s i (f i (omega arith) (omega arith))) ∙ ap (λ (k : ℕ). behind p (drop k s)) (add-one i)

-- what the search finds is where p begins
pub record NameAt (p s : List ℕ) (i : ℕ) : Type 0 where
  pub found : behind p s ≡ Some (drop (i + length p) s)
  pub within : i + length p ≤ length s

abbrev pub Sought : List ℕ → List ℕ → Option ℕ → Type 0
Sought p s None = behind p s ≡ None
Sought p s (Some i) = NameAt p s i

pub name_sought : (p s : List ℕ) (r : Option ℕ)
    → MatchOption r ((k : ℕ) → 0 ≤ k → k < length s → Begun p s k false)
    (λ i. (0 ≤ i) × (i < length s) × Begun p s i true × ((k : ℕ) → 0 ≤ k → k < i → Begun p s k false))
    → Sought p s r
unfolding behind
name_sought p s None f = skipped p s (length s) (omega arith) f ∙ rw (drop-length s) refl
name_sought p s (Some i) f =
    record {
      found = skipped p s i (omega (arith, f.1)) f.3 ∙ behind-found p s i f.1 (begun p s i f.2);
      within = omega (arith, f.1, begins-fits p (drop i s) (begun p s i f.2), length-drop i s);
    }
