-- Laws of what follows the bytes that others begin with: one after the other, and what the library's answer says.
use Rattle.std.specs.Prelude.{Option, None, Some, MatchOption, nat_eq}
use Rattle.std.specs.Cmp.Lexicographic.{pointwise}
use Rattle.std.specs.Borrow.{Bor}
use Prim.Native.Nat.{ℕ, ◌+◌}
use mathlib.Core.Path.{◌≡◌, ◌∙◌, refl, sym, ap, ap₂}
use mathlib.Core.Bool.{Bool, true, false, cond, ◌&&◌}
use mathlib.Core.List.{List, ◌++◌}
use lib.Dec.{eqb}
use lib.ListN.{length, take, drop, length-append}
use lib.Seq.{drop-drop}
use Rattle.rules.specs.Digits.{same_bytes}
use Rattle.rules.specs.Response.{begins, strip}
use Rattle.laws.proofs.Bytes.{pointwise-same}
use Rattle.about_responses.proofs.Begins.{begins-parts}
use Rattle.response.specs.Lent.{lent}

-- what `strip_prefix` answers
pub stripped : (p s : List ℕ) (r : Option (Bor (List ℕ)))
    → MatchOption r (pointwise nat_eq (take (length p) s) p ≡ false)
    (λ x. (pointwise nat_eq (take (length p) s) p ≡ true) × (x.now ≡ drop (length p) s) × (length x.now + length p ≡ length s))
    → lent r ≡ strip p s
unfolding strip begins
stripped p s None h =
    let e : same_bytes (take (length p) s) p ≡ false = sym (pointwise-same (take (length p) s) p) ∙ h in
    rw e refl
stripped p s (Some x) h =
    let e : same_bytes (take (length p) s) p ≡ true = sym (pointwise-same (take (length p) s) p) ∙ h.0 in
    rw e (ap {B = Option (List ℕ)} Some h.1)

-- ---- one after the other

abbrev pub strip_then : List ℕ → Option (List ℕ) → Option (List ℕ)
strip_then q None = None
strip_then q (Some t) = strip q t

pub strip-parts : (p q s : List ℕ) → strip (p ++ q) s ≡ strip_then q (strip p s)
unfolding strip
strip-parts p q s = ap₂ (λ (t : Bool) (k : ℕ). cond {A = Option (List ℕ)} t (Some (drop k s)) None) (begins-parts p q s) (length-append p q) ∙ go (begins p s)
  where
    go : (t : Bool) → cond {A = Option (List ℕ)} (t && begins q (drop (length p) s)) (Some (drop (length p + length q) s)) None
        ≡ strip_then q (cond t (Some (drop (length p) s)) None)
    go false = refl
    go true = ap (λ (u : List ℕ). cond {A = Option (List ℕ)} (begins q (drop (length p) s)) (Some u) None) (sym (drop-drop (length q) (length p) s))

-- p and then q, by an answer for p
module _ (p q s : List ℕ) (r : Option (Bor (List ℕ))) (e : lent r ≡ strip p s) where
  pub strip-none : r ≡ None → None ≡ strip (p ++ q) s
  strip-none i = sym (strip-parts p q s ∙ ap (strip_then q) (sym e ∙ ap lent i))

  pub strip-on : (x : Bor (List ℕ)) → r ≡ Some x → strip (p ++ q) s ≡ strip q x.now
  strip-on x i = strip-parts p q s ∙ ap (strip_then q) (sym e ∙ ap lent i)
