-- `script_fields::field::hex_of` meets its contract.
use mathlib.Core.Path.{◌≡◌, ◌∙◌, refl, sym}
use mathlib.Core.List.{[], ◌∷◌}
use borrow.Author.Tests.{eqb-true, eqb-false}
use native.Mathlib.Omega.{arith}
use lib.Seq.{paste-zero}
use Rattle.std.specs.Cmp.Lexicographic.{same_text, other_text}
use Rattle.script_fields.proofs.FieldLaws.{says_none, says_same, says-put, no_body, no-digits, is_body}
use Rattle.script_fields.proofs.field.hex_of.Goals as goal

pub returns-then-eq : goal.returns-then-eq
returns-then-eq c =
    let d = c.args.out.now in
    let dash = same_text c.args.word.now _ (sym c.if-eq.true ∙ c.eq.ensures) ∙ c.as_slice.ensures in
    let both = says-put d [] (no_body c.args.word.now dash) refl (paste-zero d 0 []) (omega arith) in
    record { answer = both.0; buffer = both.1 }

pub returns-then-is_empty : goal.returns-then-is_empty
returns-then-is_empty c =
    let empty = eqb-true _ 0 (sym c.is_empty.ensures ∙ c.if-is_empty.true) in
    let both = says_none c.args.out.now (no-digits c.args.word.now (omega arith)) in
    record { answer = both.0; buffer = both.1 }

pub returns : goal.returns
returns c =
    let some = eqb-false _ 0 (sym c.is_empty.ensures ∙ c.if-is_empty.false) in
    let other : c.args.word.now ≡ 45 ∷ [] → ⊥ = λ e. other_text c.args.word.now _ (sym c.if-eq.false ∙ c.eq.ensures) (e ∙ sym c.as_slice.ensures) in
    let both = says_same c.args.out.now (is_body c.args.word.now (omega arith) other) (c.unhex.ensures.answer, c.unhex.ensures.buffer) in
    record { answer = both.0; buffer = both.1 }
