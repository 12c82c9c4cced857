-- `script_fields::put::put_text` meets its contract: a return for each test of the room, and the text put.
use mathlib.Core.Path.{◌∙◌, refl}
use native.Mathlib.Omega.{arith}
use lib.ListN.{length}
use Rattle.std.proofs.lemmas.Slice.{put_mid-paste}
use Rattle.script_fields.proofs.PutLaws.{no_room, has_room}
use Rattle.script_fields.proofs.put.put_text.Goals as goal

pub returns-in_err-checked_sub : goal.returns-in_err-checked_sub
returns-in_err-checked_sub c =
    let both = no_room c.args.out.now c.args.at c.args.text.now (omega (arith, c.in_err-checked_sub.ensures)) in
    record { place = c.from_residual.ensures ∙ both.0; buffer = both.1 }

pub returns-then-branch-text : goal.returns-then-branch-text
returns-then-branch-text c =
    let both = no_room c.args.out.now c.args.at c.args.text.now (omega (arith, c.in_ok-checked_sub.ensures)) in
    record { place = both.0; buffer = both.1 }

pub returns : goal.returns
returns c =
    let s = c.args.text.now in
    let at = c.in_ok-checked_sub.ensures in
    let both = has_room c.args.out.now c.args.at s refl
    (put_mid-paste c.args.at _ c.args.out.now _ s (length s) c.copy_from_slice.ensures.after (omega arith) refl) (omega arith) in
    record { place = both.0; buffer = both.1 }
