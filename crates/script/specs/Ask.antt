-- What a line asks for, by its first word and the number of its words; 'anything else -> unknown'.
use Rattle.std.specs.Prelude.{ℕ, Bool, true, cond, ◌&&◌, List, [], ◌∷◌, leb, eqb, Option, Some, None}
use Rattle.rules.specs.Digits.{same_bytes}
use Rattle.rules.specs.declared.Kind.{Kind}
use Rattle.script_words.specs.Words.{word_at, word_count}
use Rattle.script_words.specs.Number.{number_of}
use Rattle.script.specs.declared.ask.Ask.{Ask}
use Rattle.script.specs.declared.ask.Taken.{Taken}

-- ---- the first words, and the kinds of a failure

abbrev pub lost_word : List ℕ
lost_word = 108 ∷ 111 ∷ 115 ∷ 116 ∷ []

abbrev pub due_word : List ℕ
due_word = 100 ∷ 117 ∷ 101 ∷ []

abbrev pub command_word : List ℕ
command_word = 99 ∷ 111 ∷ 109 ∷ 109 ∷ 97 ∷ 110 ∷ 100 ∷ []

abbrev pub free_word : List ℕ
free_word = 102 ∷ 114 ∷ 101 ∷ 101 ∷ []

abbrev pub state_word : List ℕ
state_word = 115 ∷ 116 ∷ 97 ∷ 116 ∷ 101 ∷ []

abbrev pub tick_word : List ℕ
tick_word = 116 ∷ 105 ∷ 99 ∷ 107 ∷ []

abbrev pub ceiling_word : List ℕ
ceiling_word = 99 ∷ 101 ∷ 105 ∷ 108 ∷ 105 ∷ 110 ∷ 103 ∷ []

abbrev pub request_word : List ℕ
request_word = 114 ∷ 101 ∷ 113 ∷ 117 ∷ 101 ∷ 115 ∷ 116 ∷ []

abbrev pub block_word : List ℕ
block_word = 98 ∷ 108 ∷ 111 ∷ 99 ∷ 107 ∷ []

abbrev pub store_word : List ℕ
store_word = 115 ∷ 116 ∷ 111 ∷ 114 ∷ 101 ∷ []

abbrev pub take_word : List ℕ
take_word = 116 ∷ 97 ∷ 107 ∷ 101 ∷ []

abbrev pub response_word : List ℕ
response_word = 114 ∷ 101 ∷ 115 ∷ 112 ∷ 111 ∷ 110 ∷ 115 ∷ 101 ∷ []

abbrev pub failure_word : List ℕ
failure_word = 102 ∷ 97 ∷ 105 ∷ 108 ∷ 117 ∷ 114 ∷ 101 ∷ []

abbrev pub byte_word : List ℕ
byte_word = 98 ∷ 121 ∷ 116 ∷ 101 ∷ []

abbrev pub install_word : List ℕ
install_word = 105 ∷ 110 ∷ 115 ∷ 116 ∷ 97 ∷ 108 ∷ 108 ∷ []

abbrev pub update_word : List ℕ
update_word = 117 ∷ 112 ∷ 100 ∷ 97 ∷ 116 ∷ 101 ∷ []

abbrev pub fixed_word : List ℕ
fixed_word = 102 ∷ 105 ∷ 120 ∷ 101 ∷ 100 ∷ []

-- ---- the numbers of a call

abbrev pub tick_ask : Option ℕ → Ask
tick_ask (Some t) = Ask.Tick t
tick_ask None = Ask.Unknown

abbrev pub ceiling_ask : Option ℕ → Ask
ceiling_ask (Some slot) = Ask.Ceiling slot
ceiling_ask None = Ask.Unknown

abbrev pub block_ask : Option ℕ → Ask
block_ask (Some month) = Ask.Block month
block_ask None = Ask.Unknown

-- 'LENGTH above 32768, BYTE or VALUE above 255: `unknown`'
abbrev pub store_ask : Option ℕ → Option ℕ → Ask
store_ask (Some length) (Some byte) = cond (leb length 32768 && leb byte 255) (Ask.Store length byte) Ask.Unknown
store_ask (Some length) None = Ask.Unknown
store_ask None byte = Ask.Unknown

abbrev pub byte_ask : Option ℕ → Option ℕ → Ask
byte_ask (Some index) (Some value) = cond (leb value 255) (Ask.Byte index value) Ask.Unknown
byte_ask (Some index) None = Ask.Unknown
byte_ask None value = Ask.Unknown

abbrev pub status_ask : Kind → Option ℕ → Ask
status_ask kind (Some status) = Ask.Failure kind status
status_ask kind None = Ask.Unknown

abbrev pub failure_ask : List ℕ → Option ℕ → Ask
failure_ask kind status =
    cond (same_bytes kind update_word) (status_ask Kind.Update status)
    (cond (same_bytes kind fixed_word) (status_ask Kind.Fixed status) Ask.Unknown)

abbrev pub install_ask : Option ℕ → Option ℕ → Option ℕ → Ask
install_ask (Some panel) (Some inverter) (Some minutes) = Ask.Install (record { panel = panel; inverter = inverter; minutes = minutes })
install_ask (Some panel) (Some inverter) None = Ask.Unknown
install_ask (Some panel) None minutes = Ask.Unknown
install_ask None inverter minutes = Ask.Unknown

-- ---- lines of one, two, three and six words

unfoldable pub ask_one : List ℕ → Ask
ask_one call =
    cond (same_bytes call lost_word) Ask.Lost
    (cond (same_bytes call due_word) Ask.Due
    (cond (same_bytes call command_word) Ask.Command
    (cond (same_bytes call free_word) Ask.Free
    (cond (same_bytes call state_word) Ask.State Ask.Unknown))))

unfoldable pub ask_two : List ℕ → List ℕ → Ask
ask_two call first =
    cond (same_bytes call tick_word) (tick_ask (number_of first))
    (cond (same_bytes call ceiling_word) (ceiling_ask (number_of first))
    (cond (same_bytes call request_word) Ask.Request
    (cond (same_bytes call block_word) (block_ask (number_of first)) Ask.Unknown)))

unfoldable pub ask_three : List ℕ → List ℕ → List ℕ → Ask
ask_three call first second =
    cond (same_bytes call store_word) (store_ask (number_of first) (number_of second))
    (cond (same_bytes call take_word) (Ask.Take Taken.File)
    (cond (same_bytes call response_word) (Ask.Take Taken.Response)
    (cond (same_bytes call failure_word) (failure_ask first (number_of second))
    (cond (same_bytes call byte_word) (byte_ask (number_of first) (number_of second)) Ask.Unknown))))

unfoldable pub ask_six : List ℕ → List ℕ → List ℕ → List ℕ → Ask
ask_six call panel inverter minutes =
    cond (same_bytes call install_word) (install_ask (number_of panel) (number_of inverter) (number_of minutes)) Ask.Unknown

-- 'an empty line and one that begins with # answer nothing'
abbrev pub is_silent : List ℕ → Bool
is_silent [] = true
is_silent (x ∷ xs) = eqb x 35

-- 'a wrong number of words: `unknown`'
unfoldable pub ask_of : List ℕ → Ask
ask_of s =
    cond (is_silent s) Ask.Nothing
    (cond (eqb (word_count s) 1) (ask_one (word_at 0 s))
    (cond (eqb (word_count s) 2) (ask_two (word_at 0 s) (word_at 1 s))
    (cond (eqb (word_count s) 3) (ask_three (word_at 0 s) (word_at 1 s) (word_at 2 s))
    (cond (eqb (word_count s) 6) (ask_six (word_at 0 s) (word_at 3 s) (word_at 4 s) (word_at 5 s)) Ask.Unknown))))
