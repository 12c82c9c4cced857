-- An empty text is told from none by the code.
use Rattle.std.specs.Prelude.{Result, Ok, Err}
use Prim.Native.Nat.{ℕ}
use mathlib.Core.Path.{◌≡◌, refl, sym, ◌∙◌, ap}
use mathlib.Core.Bool.{Bool, true, false}
use mathlib.Core.List.{List, []}
use lib.ListN.{drop}
use Rattle.rules.specs.ErrorFile.{is_error_file, error_code, code_of, error_text}
use Rattle.rules.specs.declared.Cause.{Cause}
use Rattle.error_file.specs.Told.{TextTold, NoText}
use Rattle.error_file.proofs.File.{headed}

is_code : Result ℕ Cause → Bool
is_code (Ok n) = true
is_code (Err c) = false

cause_of : Result ℕ Cause → Cause
cause_of (Ok n) = Cause.ErrorFile
cause_of (Err c) = c

module _ (s : List ℕ) where
  coded : is_code (code_of (error_code s)) ≡ is_error_file s
  unfolding error_code is_code
  coded = go (is_error_file s) refl
    where
      go : (t : Bool) → is_error_file s ≡ t → is_code (code_of (error_code s)) ≡ is_error_file s
      go true h = rw h refl
      go false h = rw h refl

  one-cause : cause_of (code_of (error_code s)) ≡ Cause.ErrorFile
  unfolding error_code cause_of
  one-cause = go (is_error_file s) refl
    where
      go : (t : Bool) → is_error_file s ≡ t → cause_of (code_of (error_code s)) ≡ Cause.ErrorFile
      go true h = rw h refl
      go false h = rw h refl

  given : is_error_file s ≡ true → error_text s ≡ drop 6 s
  unfolding error_text
  given h = rw h refl

  none-given : is_error_file s ≡ false → error_text s ≡ []
  unfolding error_text
  none-given h = rw h refl

pub text-told : TextTold
unfolding is_code
text-told s n e =
    let h : is_error_file s ≡ true = sym (coded s) ∙ ap is_code e in
    ((headed s (sym h)).room, given s h)

pub no_text : NoText
unfolding is_code cause_of
no_text s c e = (sym (ap cause_of e) ∙ one-cause s, none-given s (sym (coded s) ∙ ap is_code e))
