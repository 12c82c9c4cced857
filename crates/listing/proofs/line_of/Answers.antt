-- `listing::line_of` meets its contract: what is read are the parts of the input before and behind the first 0A.
use Rattle.std.specs.Prelude.{None, Result}
use Prim.Native.Nat.{ℕ, ◌+◌, ◌-◌, min}
use mathlib.Core.Path.{◌≡◌, ◌∙◌, sym, ap, ap₂}
use mathlib.Core.List.{List}
use lib.ListN.{length, take, drop}
use Rattle.rules.specs.File.{read_file}
use Rattle.rules.specs.Lister.{name_part, body_part, line}
use Rattle.rules.specs.declared.Cause.{Cause}
use Rattle.rules.specs.declared.Summary.{Summary}
use Rattle.rules.specs.Reading.{reading_of}
use Rattle.listing.specs.Line.{line_in, text_of}
use Rattle.listing.proofs.Split.{name_before, body-part}
use Rattle.listing.proofs.Short.{read_small}
use Rattle.listing.proofs.Listed.{text_read, printable}
use Rattle.listing.proofs.line_of.Goals as goal

pub reading_line-requires : goal.reading_line-requires
reading_line-requires c = rw c.read.ensures (printable _ (read_small None _ _))

pub returns : goal.returns
unfolding line
returns c =
    let r = c.read in
    let x = c.args.input.now in
    let start = c.min-start in
    let end = c.name_end-end in
    let behind = start.ensures ∙ ap (λ (i : ℕ). min (i + 1) (length x)) end.ensures in
    let name : take end.result x ≡ name_part x = rw end.ensures (sym (name_before x)) in
    let body : take (length x - start.result) (drop start.result x) ≡ body_part x = body-part x start.result behind in
    c.reading_line.ensures
    ∙ ap (λ (q : Result Summary Cause). line_in (text_of q)) (r.ensures ∙ ap₂ (λ (n b : List ℕ). reading_of (read_file None n b)) name body)
    ∙ ap line_in (text_read (read_file None (name_part x) (body_part x)))
