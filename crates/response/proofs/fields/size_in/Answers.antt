-- `response::fields::size_in` meets its contract: each return has a law.
use mathlib.Core.Path.{◌∙◌, sym, ap}
use Rattle.laws.proofs.Bytes.{part-rest}
use Rattle.digits.specs.Decimal.{ascii_of}
use Rattle.response.proofs.Sizes.{size-short, size-long, size-by}
use Rattle.response.proofs.fields.size_in.Goals as goal

pub returns-then-line-le-SIZE_FROM : goal.returns-then-line-le-SIZE_FROM
returns-then-line-le-SIZE_FROM c = size-short c.args.line.now c.if-line-le-SIZE_FROM.true

pub returns-then-line : goal.returns-then-line
returns-then-line c = size-long c.args.line.now c.if-line.true

pub returns-in_err-n : goal.returns-in_err-n
returns-in_err-n c =
    let line = c.args.line.now in
    rw c.from_residual.ensures (sym c.in_err-n.was ∙ c.ascii_number.ensures ∙ ap ascii_of (part-rest line 16)
    ∙ size-by line c.if-line-le-SIZE_FROM.false c.if-line.false)

pub returns : goal.returns
returns c =
    let line = c.args.line.now in
    sym c.in_ok-n.was ∙ c.ascii_number.ensures ∙ ap ascii_of (part-rest line 16)
    ∙ size-by line c.if-line-le-SIZE_FROM.false c.if-line.false
