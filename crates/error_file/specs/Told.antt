-- What tells an empty text from none: the code.
use Rattle.std.specs.Prelude.{ℕ, ◌≤◌, ◌≡◌, List, [], length, drop, Ok, Err}
use Rattle.rules.specs.ErrorFile.{error_code, code_of, error_text}
use Rattle.rules.specs.declared.Cause.{Cause}

-- where `error_code` answers a code, `error_text` hands back the file from byte 6 on
abbrev pub TextTold : Type 0
TextTold = (file : List ℕ) (n : ℕ) → code_of (error_code file) ≡ Ok n → (6 ≤ length file) × (error_text file ≡ drop 6 file)

-- where it refuses the file, cause 16, there is no text
abbrev pub NoText : Type 0
NoText = (file : List ℕ) (c : Cause) → code_of (error_code file) ≡ Err c → (c ≡ Cause.ErrorFile) × (error_text file ≡ [])
