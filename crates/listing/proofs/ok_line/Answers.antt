-- `listing::ok_line` meets its contract: three numbers behind `ok `.
use mathlib.Core.Path.{◌∙◌, ap}
use Rattle.listing.specs.declared.Line.{Line}
use Rattle.listing.specs.Line.{line_in, puts}
use Rattle.listing.proofs.Short.{format_small}
use Rattle.listing.proofs.Texts.{field_text, ok_puts}
use Rattle.listing.proofs.ok_line.Goals as goal

pub returns : goal.returns
unfolding line_in
returns c =
    let file = c.args.file in
    c.field.ensures
    ∙ ap (λ (l : Line). puts l (field_text file.rates 10)) c.field-with_records.ensures
    ∙ ap (λ (l : Line). puts (puts l (field_text file.records 32)) (field_text file.rates 10)) c.field-with_format.ensures
    ∙ rw c.from.ensures (ok_puts _ file.records file.rates (format_small file.format) c.requires.0 c.requires.1)
