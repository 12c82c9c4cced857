-- The number of a check, the answers to questions, and the text's length in an error file.
use Rattle.std.specs.Prelude.{Result, Ok, Err}
use Prim.Native.Nat.{ℕ, ◌-◌, ◌≤◌}
use mathlib.Core.Path.{◌≡◌, refl, sym, ap, ◌∙◌}
use mathlib.Core.Bool.{Bool, true, false, ◌&&◌}
use mathlib.Core.List.{List}
use lib.ListN.{length, length-drop}
use Rattle.rules.specs.declared.Cause.{Cause}
use Rattle.rules.specs.ErrorFile.{is_error_file, error_code, code_of, error_text}
use Rattle.rules.specs.Store.{store_length, sound_store}
use Rattle.pool.specs.Held.{held_of}
use Rattle.error_file.proofs.File.{headed}
use Rattle.schedule.specs.Stored.{store_holds}
use Rattle.unit.specs.Values.{is_sound}
use Rattle.unit.specs.declared.Unit.{Unit}
use Rattle.unit.proofs.LentLaws.{lent_row}
use Rattle.c_answers.specs.Answers.{error_numbers}

-- of a store of 01's length the code's test is the row's
pub store_row : (u : Unit) (store : List ℕ) → length store ≡ store_length
    → (is_sound u && sound_store (held_of u.pool) store) ≡ (is_sound u && store_holds u.pool store)
store_row u store long = lent_row u store (is_sound u && store_holds u.pool store) long refl

-- ---- the error file

is_code : Result ℕ Cause → Bool
is_code (Ok n) = true
is_code (Err c) = false

is-error-file : (s : List ℕ) → is_code (code_of (error_code s)) ≡ is_error_file s
unfolding error_code is_code
is-error-file s = go (is_error_file s) refl
  where
    go : (t : Bool) → is_error_file s ≡ t → is_code (code_of (error_code s)) ≡ is_error_file s
    go true h = rw h refl
    go false h = rw h refl

module _ (s : List ℕ) (n : ℕ) (e : code_of (error_code s) ≡ Ok n) where
  formed : true ≡ is_error_file s
  unfolding is_code
  formed = sym (ap is_code e) ∙ is-error-file s

  pub text_room : 6 ≤ length s
  text_room = (headed s formed).room

  text-length : length s - 6 ≡ length (error_text s)
  unfolding error_text
  text-length = rw (sym formed) (sym (length-drop 6 s))

  pub error_given : record { text_at = 6; text_length = length s - 6; cause = 0; code = n } ≡ error_numbers (code_of (error_code s)) s
  error_given = rw (e, text-length) refl
