-- Laws of a request's bytes, written one after another into a buffer, and of what the checks before them say.
use Prim.Native.Nat.{ℕ, ◌+◌, ◌≤◌, ◌<◌}
use mathlib.Core.Path.{◌≡◌, refl, ap, ◌∙◌}
use mathlib.Core.Bool.{true}
use mathlib.Core.List.{List, ◌++◌, append_assoc}
use native.Mathlib.Omega.{arith}
use lib.Dec.{eqb, lit≤}
use lib.ListN.{length, get_or, take, drop, replicate, length-map, length-append}
use lib.Seq.{length-take-le, get_or-append_seam}
use borrow.Author.Tests.{eqb-true}
use Rattle.rules.specs.Digits.{all_digits, digits, to_ascii}
use Rattle.rules.specs.Plant.{plant_id, last_digit, check_digit, mac_address, all_hex}
use Rattle.rules.specs.Name.{any_segment}
use Rattle.name.proofs.Laws.{segment-length}
use Rattle.rules.specs.Request.{request_bytes, plant_parameter, mac_parameter, segment_parameter}
use Rattle.laws.proofs.Tests.{both}
use Rattle.laws.proofs.Bytes.{at_next, at-most-at}
use Rattle.digits.specs.Placed.{placed}
use Rattle.digits.proofs.Placing.{placed-next, placed_first}
use Rattle.request.specs.Parts.{Parts}

-- ---- digits in ASCII

-- where the digits below i are in ASCII, the next is still a digit
pub digit-next : (s to : List ℕ) (i : ℕ) → all_digits s ≡ true → i < length s → to ≡ to_ascii (take i s) ++ drop i s → get_or to i 0 ≤ 9
digit-next s to i e h to≡ =
    let long : length (to_ascii (take i s)) ≡ i = simp length-map (length-take-le i s (omega arith)) in
    let seam = get_or-append_seam (to_ascii (take i s)) (get_or s i 0) (drop (i + 1) s) 0 in
    let next : get_or to i 0 ≡ get_or s i 0 = rw (to≡, at_next s i h) (rw long at seam) in
    omega (arith, at-most-at 9 s i e)

-- ---- a request's bytes, written one after another

put_next : (d a b : List ℕ) {o : List ℕ} {k : ℕ} → o ≡ placed d 0 a → k ≡ length a → placed o k b ≡ placed d 0 (a ++ b)
put_next d a b e l = placed-next d a b 0 e (omega arith)

module _ {id mac segment d : List ℕ} (p : Parts id mac segment d) where
  -- six puts write a request
  pub written : {o₁ o₂ o₃ o₄ o₅ o₆ : List ℕ} → o₁ ≡ placed d 0 plant_parameter → o₂ ≡ placed o₁ 15 (to_ascii id)
      → o₃ ≡ placed o₂ 41 mac_parameter → o₄ ≡ placed o₃ 54 mac → o₅ ≡ placed o₄ 66 segment_parameter
      → o₆ ≡ placed o₅ 80 segment → o₆ ≡ request_bytes id mac segment ++ drop 84 d
  unfolding request_bytes
  written e₁ e₂ e₃ e₄ e₅ e₆ =
      let ascii : length (to_ascii id) ≡ 26 = simp length-map p.id-length in
      let m = p.mac-length in
      let s = p.segment-length in
      let room = p.room in
      let a₂ = plant_parameter ++ to_ascii id in
      let a₃ = a₂ ++ mac_parameter in
      let a₄ = a₃ ++ mac in
      let a₅ = a₄ ++ segment_parameter in
      let l₂ : 41 ≡ length a₂ = simp length-append (omega arith) in
      let l₃ : 54 ≡ length a₃ = simp length-append (omega arith) in
      let l₄ : 66 ≡ length a₄ = simp length-append (omega arith) in
      let l₅ : 80 ≡ length a₅ = simp length-append (omega arith) in
      let l₆ : length (a₅ ++ segment) ≡ 84 = simp length-append (omega arith) in
      let f₂ = e₂ ∙ put_next d plant_parameter (to_ascii id) e₁ refl in
      let f₃ = e₃ ∙ put_next d a₂ mac_parameter f₂ l₂ in
      let f₄ = e₄ ∙ put_next d a₃ mac f₃ l₃ in
      let f₅ = e₅ ∙ put_next d a₄ segment_parameter f₄ l₄ in
      let f₆ = e₆ ∙ put_next d a₅ segment f₅ l₅ in
      let joined : a₅ ++ segment ≡ request_bytes id mac segment = simp append_assoc in
      f₆ ∙ placed_first d (a₅ ++ segment) (omega arith)
      ∙ ap (λ (k : ℕ). (a₅ ++ segment) ++ drop k d) l₆ ∙ ap (λ (l : List ℕ). l ++ drop 84 d) joined

  request_length : length (request_bytes id mac segment) ≡ 84
  unfolding request_bytes
  request_length =
      let ascii : length (to_ascii id) ≡ 26 = simp length-map p.id-length in
      let m = p.mac-length in
      let s = p.segment-length in
      simp length-append (omega arith)

-- ---- what the checks say

module _ (id mac segment : List ℕ) (i : plant_id id ≡ true) (m : mac_address mac ≡ true) (s : any_segment segment ≡ true) where
  pub parts : (d : List ℕ) → 84 ≤ length d → Parts id mac segment d
  unfolding plant_id mac_address
  parts d h =
      let t = both (eqb (length id) 26) (all_digits id) (both (digits 26 id) (eqb (last_digit id) (check_digit id)) i).0 in
      record {
        id-length = eqb-true (length id) 26 t.0;
        id-digits = t.1;
        mac-length = eqb-true (length mac) 12 (both (eqb (length mac) 12) (all_hex mac) m).0;
        segment-length = segment-length segment s;
        room = h;
      }

  pub request_long : length (request_bytes id mac segment) ≡ 84
  request_long = request_length (parts (replicate 84 0) (lit≤ tt))
