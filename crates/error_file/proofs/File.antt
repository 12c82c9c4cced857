-- The form of an error file, and what it tells of the file.
use Prim.Native.Nat.{ℕ, ◌-◌, ◌≤◌}
use mathlib.Core.Path.{◌≡◌, ◌∙◌, sym}
use mathlib.Core.Bool.{Bool, true, ◌&&◌, and-true}
use mathlib.Core.List.{List}
use lib.ListN.{length, get_or, take, drop}
use borrow.Author.Tests.{le-leb, leb-true}
use Rattle.rules.specs.ErrorFile.{is_error_file, utf8}
use Rattle.error_file.specs.Head.{has_head, Headed}
use Rattle.laws.proofs.Tests.{both}
use Rattle.laws.proofs.Bytes.{part-rest}
use Rattle.error_file.proofs.Head.{three, is_digit, zero-or-one}

module _ (s : List ℕ) where
  -- what `is_error_file` computes
  pub checked : {h u : Bool} → 6 ≤ length s → length s - 6 ≤ 384 → h ≡ has_head s → u ≡ utf8 (take (length s - 6) (drop 6 s))
      → (h && u) ≡ is_error_file s
  unfolding is_error_file has_head
  checked room few h≡ u≡ = rw (h≡, u≡, (part-rest s 6)) (simp (le-leb 6 (length s) room, le-leb (length s - 6) 384 few, and-true))

  -- what is known of a file that keeps its form
  pub headed : true ≡ is_error_file s → Headed s
  unfolding is_error_file
  headed e =
      let few = both _ _ (both _ _ (sym e)).0 in
      let serial = both _ _ (both _ _ few.0).0 in
      let place = both _ _ serial.0 in
      let room = leb-true 6 (length s) (both _ _ place.0).0 in
      let last = both _ _ (sym (three s room) ∙ serial.1) in
      let others = both _ _ last.0 in
      record {
        room = room;
        first = zero-or-one (get_or s 1 0) place.1;
        second = is_digit (get_or s 2 0) others.0;
        third = is_digit (get_or s 3 0) others.1;
        fourth = is_digit (get_or s 4 0) last.1;
      }
