-- Reading a number is exact.
use Rattle.std.specs.Prelude.{Option, None, Some}
use Prim.Native.Nat.{ℕ, zero, suc, ◌+◌, ◌-◌, ◌*◌, ◌/◌, ◌%◌, ◌^◌, ◌≤◌, ◌<◌}
use mathlib.Core.Path.{◌≡◌, ◌∙◌, refl, sym, ap}
use mathlib.Core.Bool.{Bool, true, false, cond}
use mathlib.Core.List.{List, [], ◌∷◌, ◌++◌}
use native.Mathlib.Nat.{pow-suc}
use native.Mathlib.Omega.{arith}
use borrow.Author.Tests.{ltb-true, ltb-false}
use lib.Dec.{ltb, eqb}
use lib.ListN.{length, drop, length-append, length-drop}
use lib.Seq.{drop_at, drop-drop}
use Rattle.rules.specs.Groups.{groups, groups_in, onto, parse_in, parse_groups}
use Rattle.laws.proofs.Options.{some-injective}
use Rattle.laws.proofs.Tests.{no-some}
use Rattle.groups.specs.Placed.{as_reading, reading_at}
use Rattle.groups.specs.Exact.{ParsedExactly, ReadNumber}
use Rattle.groups.specs.declared.Number.{Number}
use Rattle.groups.proofs.Steps.{groups-in, last-group, next-group, fewer, more, one_holds, parse-last, parse-more, onto-some, not-zero}

abbrev Parsed : Type 0
Parsed = Option (ℕ × List ℕ)

-- what was read is one number and one rest
same : {p q : ℕ × List ℕ} → ◌≡◌ {A = Parsed} (Some p) (Some q) → (p.0 ≡ q.0) × (p.1 ≡ q.1)
same {p} {q} e = let f : p ≡ q = cc in (ap (λ (x : ℕ × List ℕ). x.0) f, ap (λ (x : ℕ × List ℕ). x.1) f)

-- the bytes of a number are read as that number
back : (k n : ℕ) (rest : List ℕ) → n < 128 ^ suc k → parse_in (suc k) (groups_in (suc k) n ++ rest) ≡ Some (n, rest)
back zero n rest h =
    let l : n < 128 = omega (arith, pow-suc 128 0) in
    rw (last-group 0 n l) (parse-last 0 n rest l)
back (suc k) n rest h = go (ltb n 128) refl (back k (n / 128) rest (fewer (suc k) n h))
  where
    go : (t : Bool) → ltb n 128 ≡ t → parse_in (suc k) (groups_in (suc k) (n / 128) ++ rest) ≡ Some (n / 128, rest)
        → parse_in (suc (suc k)) (groups_in (suc (suc k)) n ++ rest) ≡ Some (n, rest)
    go true e ih = let l = ltb-true n 128 e in rw (last-group (suc k) n l) (parse-last (suc k) n rest l)
    go false e ih =
        let l = ltb-false n 128 e in
        let b = n % 128 + 128 in
        let low : b - 128 + 128 * (n / 128) ≡ n = omega arith in
        rw (next-group (suc k) n l)
        (parse-more (suc k) b (groups_in (suc k) (n / 128) ++ rest) (omega arith) (omega arith)
        ∙ rw ih (onto-some (b - 128) 128 (n / 128) rest (omega arith) ∙ rw low refl))

-- what is read as a number is its bytes
abbrev Made : ℕ → List ℕ → ℕ → List ℕ → Type 0
Made k s n rest = (s ≡ groups_in k n ++ rest) × (n < 128 ^ k)

made-last : (k b : ℕ) (s : List ℕ) (n : ℕ) (rest : List ℕ) → b < 128 → ◌≡◌ {A = Parsed} (Some (b, s)) (Some (n, rest)) → Made (suc k) (b ∷ s) n rest
made-last k b s n rest l e =
    let n≡ : b ≡ n = (same e).0 in
    let rest≡ : s ≡ rest = (same e).1 in
    let g = last-group k b l in
    (rw (← n≡, g, rest≡) refl, rw (← n≡) (one_holds k b l))

made_more : (k b : ℕ) (s : List ℕ) (n : ℕ) (rest : List ℕ) → 128 ≤ b → b < 256 → (o : Parsed)
    → ((v : ℕ) (r : List ℕ) → o ≡ Some (v, r) → Made k s v r) → onto (b - 128) 128 o ≡ Some (n, rest) → Made (suc k) (b ∷ s) n rest
made_more k b s n rest l m None ih e = no-some e
made_more k b s n rest l m (Some p) ih e = go (eqb p.0 0) refl e
  where
    go : (t : Bool) → eqb p.0 0 ≡ t → cond {A = Parsed} t None (Some (b - 128 + 128 * p.0, p.1)) ≡ Some (n, rest) → Made (suc k) (b ∷ s) n rest
    go true f q = no-some q
    go false f q =
        let n≡ : b - 128 + 128 * p.0 ≡ n = (same q).0 in
        let rest≡ : p.1 ≡ rest = (same q).1 in
        let made = ih p.0 p.1 refl in
        let pos = not-zero p.0 f in
        let hi : n / 128 ≡ p.0 = omega arith in
        let lo : n % 128 + 128 ≡ b = omega arith in
        (rw (next-group k n (omega arith), hi, lo, made.0, rest≡) refl, rw (← n≡) (more k p.0 (b - 128) made.1 (omega arith)))

made : (k : ℕ) (s : List ℕ) (n : ℕ) (rest : List ℕ) → parse_in k s ≡ Some (n, rest) → Made k s n rest
unfolding parse_in
made zero s n rest e = no-some e
made (suc k) [] n rest e = no-some e
made (suc k) (b ∷ s) n rest e = go (ltb b 128) refl (ltb b 256) refl (λ v r q. made k s v r q) e
  where
    go : (t : Bool) → ltb b 128 ≡ t → (u : Bool) → ltb b 256 ≡ u → ((v : ℕ) (r : List ℕ) → parse_in k s ≡ Some (v, r) → Made k s v r)
        → cond {A = Parsed} t (Some (b, s)) (cond u (onto (b - 128) 128 (parse_in k s)) None) ≡ Some (n, rest) → Made (suc k) (b ∷ s) n rest
    go true f u g ih q = made-last k b s n rest (ltb-true b 128 f) q
    go false f true g ih q = made_more k b s n rest (ltb-false b 128 f) (ltb-true b 256 g) (parse_in k s) ih q
    go false f false g ih q = no-some q

pub parsed-exactly : ParsedExactly
parsed-exactly s n rest = (there, here)
  where
    there : parse_groups s ≡ Some (n, rest) → (s ≡ groups n ++ rest) × (n < 2 ^ 35)
    there e = let m = made 5 s n rest e in (rw (groups-in n m.1) m.0, m.1)

    here : (s ≡ groups n ++ rest) × (n < 2 ^ 35) → parse_groups s ≡ Some (n, rest)
    here m = rw (m.0, groups-in n m.1) (back 4 n rest m.1)

-- ---- at a place

-- a number has a group
some-group : (k n : ℕ) → 0 < length (groups_in (suc k) n)
some-group k n = go (ltb n 128) refl
  where
    go : (t : Bool) → ltb n 128 ≡ t → 0 < length (groups_in (suc k) n)
    go true e = rw (last-group k n (ltb-true n 128 e)) (omega arith)
    go false e = rw (next-group k n (ltb-false n 128 e)) (omega arith)

-- where a list from a place on is one list and then another, the other begins as many places later
rest_at : (s : List ℕ) (at : ℕ) (g rest : List ℕ) → drop at s ≡ g ++ rest → drop (at + length g) s ≡ rest
rest_at s at g rest e = sym (drop-drop (length g) at s) ∙ rw e (drop_at g rest (length g) refl)

-- what the code's answer tells its callers
pub number_read : (s : List ℕ) (at : ℕ) (a : Number) → reading_at s at ≡ Some a → ReadNumber s at a.value a.next
unfolding reading_at
number_read s at a e = go (parse_groups (drop at s)) refl e
  where
    go : (o : Parsed) → parse_groups (drop at s) ≡ o → as_reading (length s) o ≡ Some a → ReadNumber s at a.value a.next
    go None p q = no-some q
    go (Some r) p q =
        let f = some-injective _ a q in
        let m = made 5 (drop at s) r.0 r.1 p in
        let g = groups_in 5 r.0 in
        let long : length s - at ≡ length g + length r.1 = sym (length-drop at s) ∙ ap length m.0 ∙ length-append g r.1 in
        let one = some-group 4 r.0 in
        let n≡ : r.0 ≡ a.value = ap (λ (b : Number). b.value) f in
        let next≡ : length s - length r.1 ≡ a.next = ap (λ (b : Number). b.next) f in
        let to : at + length g ≡ a.next = omega arith in
        let rest : r.1 ≡ drop a.next s = rw (← to) (sym (rest_at s at g r.1 m.0)) in
        record {
          parsed = p ∙ rw (n≡, rest) refl;
          later = omega arith;
          within = omega arith;
          small = rw (← n≡) m.1;
        }

pub broken-read : (s : List ℕ) (at : ℕ) → reading_at s at ≡ None → parse_groups (drop at s) ≡ None
unfolding reading_at
broken-read s at e = go (parse_groups (drop at s)) refl e
  where
    go : (o : Parsed) → parse_groups (drop at s) ≡ o → as_reading (length s) o ≡ None → parse_groups (drop at s) ≡ None
    go None p q = p
    go (Some r) p q = no-some (sym q)
