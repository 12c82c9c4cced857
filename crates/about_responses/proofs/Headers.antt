-- Headers are read exactly, up to the first empty line; and a line more is the first line and the headers after it.
use Rattle.laws.proofs.Options.{some-injective}
use Rattle.std.specs.Prelude.{Option, None, Some}
use Prim.Native.Nat.{ℕ, zero, suc, ◌+◌, ◌<◌, ◌≤◌}
use mathlib.Core.Path.{◌≡◌, ◌∙◌, refl, sym, ap, ap₂, subst}
use mathlib.Core.Bool.{true, false≢true}
use mathlib.Core.List.{List, [], ◌∷◌, ◌++◌, append_assoc}
use native.Mathlib.Omega.{arith}
use lib.ListN.{length, length-append}
use Rattle.rules.specs.Response.{line_end, no_pair, lawful_lines, lines_bytes, line_of, before_line, line_then, headers_then, headers_of, headers_in}
use Rattle.laws.proofs.Tests.{no-some, both, join}
use Rattle.about_responses.proofs.Lines.{line_made, line-back, pair-none}

-- ---- what is read is there, and what is there is read

pub lines_cons : (l : List ℕ) (ls : List (List ℕ)) (rest : List ℕ) → lines_bytes (l ∷ ls) ++ rest ≡ l ++ (line_end ++ (lines_bytes ls ++ rest))
unfolding lines_bytes
lines_cons l ls rest = append_assoc l (line_end ++ lines_bytes ls) rest

lines-nil : (rest : List ℕ) → lines_bytes [] ++ rest ≡ rest
unfolding lines_bytes
lines-nil rest = refl

lawful-nil : lawful_lines [] ≡ true
unfolding lawful_lines
lawful-nil = refl

lawful-cons : (x : ℕ) (l : List ℕ) (ls : List (List ℕ)) → no_pair (x ∷ l) ≡ true → lawful_lines ls ≡ true → lawful_lines ((x ∷ l) ∷ ls) ≡ true
unfolding lawful_lines
lawful-cons x l ls n h = join {a = no_pair (x ∷ l)} {b = lawful_lines ls} n h

abbrev pub HeadersMade : List ℕ → List (List ℕ) × List ℕ → Type 0
HeadersMade s q = (s ≡ lines_bytes q.0 ++ (line_end ++ q.1)) × (lawful_lines q.0 ≡ true)

pub headers_made : (k : ℕ) (s : List ℕ) (q : List (List ℕ) × List ℕ) → headers_of k s ≡ Some q → HeadersMade s q
unfolding headers_of
headers_made zero s q e = no-some e
headers_made (suc k) s q e = go (line_of s) refl (λ t r. headers_made k t r) e
  where
    go : (o : Option (List ℕ × List ℕ)) → line_of s ≡ o
        → ((t : List ℕ) (r : List (List ℕ) × List ℕ) → headers_of k t ≡ Some r → HeadersMade t r)
        → headers_then (headers_of k) o ≡ Some q → HeadersMade s q
    go None f ih g = no-some g
    go (Some p) f ih g = second p.0 refl g
      where
        second : (l : List ℕ) → p.0 ≡ l → line_then (headers_of k) l p.1 ≡ Some q → HeadersMade s q
        second [] h g =
            let m = line_made s p f in
            subst (HeadersMade s) (some-injective _ q g)
            (m.0 ∙ ap (λ (t : List ℕ). t ++ (line_end ++ p.1)) h ∙ sym (lines-nil (line_end ++ p.1)), lawful-nil)
        second (x ∷ l) h g = third (headers_of k p.1) refl g
          where
            third : (o : Option (List (List ℕ) × List ℕ)) → headers_of k p.1 ≡ o → before_line (x ∷ l) o ≡ Some q → HeadersMade s q
            third None i g = no-some g
            third (Some r) i g =
                let m = line_made s p f in
                let n = ih p.1 r i in
                subst (HeadersMade s) (some-injective _ q g) (
                  m.0
                      ∙ ap₂ (λ (t u : List ℕ). t ++ (line_end ++ u)) h n.0
                      ∙ sym (lines_cons (x ∷ l) r.0 (line_end ++ r.1)),
                  lawful-cons x l r.0 (subst (λ (t : List ℕ). no_pair t ≡ true) h m.1) n.1,
                )

headers-step : (k : ℕ) (s : List ℕ) → headers_of (suc k) s ≡ headers_then (headers_of k) (line_of s)
unfolding headers_of
headers-step k s = refl

pub headers-back : (k : ℕ) (ls : List (List ℕ)) (rest : List ℕ) → length ls < k → lawful_lines ls ≡ true
    → headers_of k (lines_bytes ls ++ (line_end ++ rest)) ≡ Some (ls, rest)
unfolding lawful_lines
headers-back zero ls rest h n = absurd (omega arith)
headers-back (suc k) [] rest h n =
    headers-step k _
    ∙ ap (λ (t : List ℕ). headers_then (headers_of k) (line_of t)) (lines-nil (line_end ++ rest))
    ∙ ap (headers_then (headers_of k)) (line-back [] rest pair-none)
headers-back (suc k) ([] ∷ ls) rest h n = absurd (false≢true n)
headers-back (suc k) ((x ∷ l) ∷ ls) rest h n =
    let p = both (no_pair (x ∷ l)) (lawful_lines ls) n in
    headers-step k _
    ∙ ap (λ (t : List ℕ). headers_then (headers_of k) (line_of t)) (lines_cons (x ∷ l) ls (line_end ++ rest))
    ∙ ap (headers_then (headers_of k)) (line-back (x ∷ l) (lines_bytes ls ++ (line_end ++ rest)) p.0)
    ∙ ap (before_line (x ∷ l)) (headers-back k ls rest (omega arith) p.1)

lines_fit : (ls : List (List ℕ)) (rest : List ℕ) → length ls < length (lines_bytes ls ++ (line_end ++ rest))
unfolding lines_bytes
lines_fit [] rest = omega arith
lines_fit (l ∷ ls) rest =
    let h = lines_fit ls rest in
    rw (lines_cons l ls (line_end ++ rest)) (omega (arith, length-append l (line_end ++ (lines_bytes ls ++ (line_end ++ rest)))))

pub headers-in : (ls : List (List ℕ)) (rest : List ℕ) → lawful_lines ls ≡ true → headers_in (lines_bytes ls ++ (line_end ++ rest)) ≡ Some (ls, rest)
headers-in ls rest n = headers-back _ ls rest (lines_fit ls rest) n

-- ---- as many steps as bytes are enough

rest-shorter : (s : List ℕ) (q : List ℕ × List ℕ) → line_of s ≡ Some q → length q.1 + 2 ≤ length s
rest-shorter s q e =
    let f : length s ≡ length (q.0 ++ (line_end ++ q.1)) = ap length (line_made s q e).0 in
    omega (arith, f, length-append q.0 (line_end ++ q.1))

no_step : (s : List ℕ) → headers_of 0 s ≡ None
unfolding headers_of
no_step s = refl

no_bytes : (k : ℕ) (s : List ℕ) → length s ≤ 0 → headers_of k s ≡ None
unfolding headers_of line_of
no_bytes zero s h = refl
no_bytes (suc k) [] h = refl
no_bytes (suc k) (x ∷ s) h = absurd (omega arith)

then_same : (f g : List ℕ → Option (List (List ℕ) × List ℕ)) (o : Option (List ℕ × List ℕ))
    → ((q : List ℕ × List ℕ) → o ≡ Some q → f q.1 ≡ g q.1) → headers_then f o ≡ headers_then g o
then_same f g None h = refl
then_same f g (Some q) h = go q.0
  where
    go : (l : List ℕ) → line_then f l q.1 ≡ line_then g l q.1
    go [] = refl
    go (x ∷ l) = ap (before_line (x ∷ l)) (h q refl)

enough : (k j : ℕ) (s : List ℕ) → length s ≤ k → length s ≤ j → headers_of k s ≡ headers_of j s
enough zero j s h g = no_step s ∙ sym (no_bytes j s h)
enough (suc k) zero s h g = no_bytes (suc k) s g ∙ sym (no_step s)
enough (suc k) (suc j) s h g =
    headers-step k s
    ∙ then_same (headers_of k) (headers_of j) (line_of s)
    (λ q e. let n = rest-shorter s q e in enough k j q.1 (omega (arith, n)) (omega (arith, n)))
    ∙ sym (headers-step j s)

-- ---- a line more

pub headers-next : (s : List ℕ) → headers_in s ≡ headers_then headers_in (line_of s)
headers-next s =
    enough (length s) (suc (length s)) s (omega arith) (omega arith)
    ∙ headers-step (length s) s
    ∙ then_same (headers_of (length s)) headers_in (line_of s)
    (λ q e. let n = rest-shorter s q e in enough (length s) (length q.1) q.1 (omega (arith, n)) (omega arith))
