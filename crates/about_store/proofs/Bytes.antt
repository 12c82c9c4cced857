-- Laws of a store after a run of stores in one block, seen from that block and from another.
use Rattle.std.specs.Prelude.{Some}
use mathlib.Core.Path.{◌≡◌, refl, ◌∙◌}
use mathlib.Core.Logic.{◌⊎◌, inl, inr, ◌≢◌}
use mathlib.Core.Bool.{Bool, true, false, cond, ◌&&◌}
use mathlib.Core.List.{List, [], ◌∷◌}
use Prim.Native.Nat.{ℕ, zero, suc, ◌+◌, ◌-◌, ◌*◌, ◌≤◌, ◌<◌}
use native.Mathlib.Omega.{arith}
use native.Mathlib.Nat.{suc-add, add-suc, add-zero, le_of_suc-le-suc, not-suc-le-zero}
use lib.Dec.{leb, ltb}
use lib.ListN.{length, get_or, set, length-set, length-replicate}
use lib.Seq.{sets, get_or-set_same, get_or-set_other}
use borrow.Author.Tests.{ltb-true, ltb-false, leb-true, leb-false}
use Rattle.rules.specs.Store.{block_length, no_rate, to_byte, rate_bytes}
use Rattle.schedule.specs.Stored.{place, blank}
use Rattle.schedule.proofs.RateLaws.{bytes-length, bytes-at}
use Rattle.schedule.proofs.Parts.{get_d_in}

pub sets-out : (l : List ℕ) (a : ℕ) (vs : List ℕ) (k d : ℕ) → (k < a) ⊎ (a + length vs ≤ k) → get_or (sets l a vs) k d ≡ get_or l k d
sets-out l a [] k d h = refl
sets-out l a (v ∷ vs) k d (inl h) = sets-out (set l a v) (suc a) vs k d (inl (omega arith)) ∙ get_or-set_other l a k v d (omega arith)
sets-out l a (v ∷ vs) k d (inr h) = sets-out (set l a v) (suc a) vs k d (inr (omega arith)) ∙ get_or-set_other l a k v d (omega arith)

pub sets-in : (l : List ℕ) (a : ℕ) (vs : List ℕ) (j d : ℕ) → j < length vs → a + length vs ≤ length l → get_or (sets l a vs) (a + j) d ≡ get_or vs j d
sets-in l a [] j d h k = absurd (not-suc-le-zero h)
sets-in l a (v ∷ vs) zero d h k = rw add-zero (sets-out (set l a v) (suc a) vs a d (inl (omega arith)) ∙ get_or-set_same l a v d (omega arith))
sets-in l a (v ∷ vs) (suc j) d h k = rw (add-suc, ← suc-add) (sets-in (set l a v) (suc a) vs j d (le_of_suc-le-suc h) (rw length-set (omega arith)))

-- stores inside block b, seen from block c
pub write-there : (s vs : List ℕ) (b f c i d : ℕ) → c ≢ b → i < block_length → f + length vs ≤ block_length
    → get_or (sets s (place b f) vs) (place c i) d ≡ get_or s (place c i) d
write-there s vs b f c i d n l q = go (ltb c b) refl
  where
    go : (t : Bool) → ltb c b ≡ t → get_or (sets s (place b f) vs) (place c i) d ≡ get_or s (place c i) d
    go true e = sets-out s (place b f) vs (place c i) d (inl (omega (arith, ltb-true c b e)))
    go false e = sets-out s (place b f) vs (place c i) d (inr (omega (arith, ltb-false c b e)))

-- and from block b
pub write-here : (s vs : List ℕ) (b f i d e : ℕ) → f + length vs ≤ block_length → b * block_length + block_length ≤ length s
    → get_or (sets s (place b f) vs) (place b i) d ≡ cond (leb f i && ltb i (f + length vs)) (get_or vs (i - f) e) (get_or s (place b i) d)
write-here s vs b f i d e p q = go (leb f i) refl (ltb i (f + length vs)) refl
  where
    go : (t : Bool) → leb f i ≡ t → (r : Bool) → ltb i (f + length vs) ≡ r
        → get_or (sets s (place b f) vs) (place b i) d ≡ cond (t && r) (get_or vs (i - f) e) (get_or s (place b i) d)
    go true y true x =
        let h : f ≤ i = leb-true f i y in
        let k : i < f + length vs = ltb-true i (f + length vs) x in
        let z : place b i ≡ place b f + (i - f) = omega arith in
        rw z (sets-in s (place b f) vs (i - f) d (omega arith) (omega arith) ∙ get_d_in vs (i - f) d e (omega arith))
    go true y false x = sets-out s (place b f) vs (place b i) d (inr (omega (arith, ltb-false i (f + length vs) x)))
    go false y r x = sets-out s (place b f) vs (place b i) d (inl (omega (arith, leb-false f i y)))

-- rates laid inside block b, seen from block c, and from block b
pub laid-there : (s rates : List ℕ) (b f c i d : ℕ) → c ≢ b → i < block_length → f + length rates ≤ block_length
    → get_or (sets s (place b f) (rate_bytes rates)) (place c i) d ≡ get_or s (place c i) d
laid-there s rates b f c i d n l q = write-there s (rate_bytes rates) b f c i d n l (rw (bytes-length rates) q)

pub laid-here : (s rates : List ℕ) (b f i d : ℕ) → f + length rates ≤ block_length → b * block_length + block_length ≤ length s
    → get_or (sets s (place b f) (rate_bytes rates)) (place b i) d
    ≡ cond (leb f i && ltb i (f + length rates)) (to_byte (Some (get_or rates (i - f) 0))) (get_or s (place b i) d)
laid-here s rates b f i d p q =
    rw (bytes-length rates) at (write-here s (rate_bytes rates) b f i d 0 (rw (bytes-length rates) p) q)
    ∙ go (leb f i) refl (ltb i (f + length rates)) refl
  where
    go : (t : Bool) → leb f i ≡ t → (u : Bool) → ltb i (f + length rates) ≡ u
        → cond (t && u) (get_or (rate_bytes rates) (i - f) 0) (get_or s (place b i) d)
        ≡ cond (t && u) (to_byte (Some (get_or rates (i - f) 0))) (get_or s (place b i) d)
    go true e true k = bytes-at rates (i - f) 0 (omega (arith, leb-true f i e, ltb-true i (f + length rates) k))
    go true e false k = refl
    go false e u k = refl

-- a whole block filled
pub fill_here : (s vs : List ℕ) (b i d : ℕ) → length vs ≡ block_length → i < block_length → b * block_length + block_length ≤ length s
    → get_or (sets s (place b 0) vs) (place b i) d ≡ get_or vs i d
fill_here s vs b i d e l q =
    let z : place b i ≡ place b 0 + i = omega arith in
    rw z (sets-in s (place b 0) vs i d (omega arith) (omega arith))

pub length-blank : length blank ≡ block_length
length-blank = length-replicate {A = ℕ} block_length no_rate
