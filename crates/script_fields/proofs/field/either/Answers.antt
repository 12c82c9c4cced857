-- `script_fields::field::either` meets its contract: a marked word, an empty one, and a plain one.
use mathlib.Core.Path.{◌≡◌, sym, ◌∙◌, ap}
use mathlib.Core.List.{map}
use Rattle.std.specs.Prelude.{Some}
use borrow.Author.Tests.{eqb-true, eqb-false}
use native.Mathlib.Omega.{arith}
use lib.ListN.{length-map}
use Rattle.script_fields.specs.Field.{plain_byte, plain_field, hex_field}
use Rattle.script_fields.proofs.FieldLaws.{says_none, says_same, says-long, says-put, marked_is, is-hex, no_word, is_plain}
use Rattle.script_fields.proofs.field.either.Goals.{Else-is_empty}
use Rattle.script_fields.proofs.field.either.Goals as goal

pub returns-in-Some : goal.returns-in-Some
returns-in-Some c =
    let told = c.in-Some.ensures.cases in
    let same = is-hex c.args.digits c.args.word.now (sym (marked_is c.args.word.now) ∙ told.0) ∙ ap hex_field (sym told.1) in
    let both = says_same c.args.out.now same (c.unhex.ensures.answer, c.unhex.ensures.buffer) in
    record { answer = both.0; buffer = both.1 }

pub returns-then-is_empty : goal.returns-then-is_empty
returns-then-is_empty c =
    let plain = sym (marked_is c.args.word.now) ∙ c.in_default.ensures.cases in
    let both = says_none c.args.out.now (no_word c.args.digits c.args.word.now plain (eqb-true _ 0 (sym c.is_empty.ensures ∙ c.if-is_empty.true))) in
    record { answer = both.0; buffer = both.1 }

-- the bytes of a plain word that is not empty
plain_bytes : (c : Else-is_empty) → plain_field c.args.digits c.args.word.now ≡ Some (map (plain_byte c.args.digits) c.args.word.now)
plain_bytes c =
    let plain = sym (marked_is c.args.word.now) ∙ c.in_default.ensures.cases in
    is_plain c.args.digits c.args.word.now plain (eqb-false _ 0 (sym c.is_empty.ensures ∙ c.if-is_empty.false))

pub returns-then-out-word : goal.returns-then-out-word
returns-then-out-word c =
    let some_bytes = plain_bytes (goal.at.returns-then-out-word c).Else-is_empty in
    let both = says-long c.args.out.now _ some_bytes (omega (arith, length-map c.args.word.now (plain_byte c.args.digits))) in
    record { answer = both.0; buffer = both.1 }

pub returns : goal.returns
returns c =
    let long = length-map c.args.word.now (plain_byte c.args.digits) in
    let some_bytes = plain_bytes (goal.at.returns c).Else-is_empty in
    let both = says-put c.args.out.now _ some_bytes (sym long) c.put_plain.ensures (omega (arith, long, c.if-out-word.false)) in
    record { answer = both.0; buffer = both.1 }
