-- `script_fields::put::put_number` meets its contract: the bytes of the number's line are its numeral.
use mathlib.Core.Path.{◌∙◌, sym, ap}
use lib.Seq.{length-take-le}
use Rattle.rules.specs.Lister.{numeral}
use Rattle.listing.proofs.Puts.{line-fits}
use Rattle.script_fields.specs.Put.{place_after, buffer_after}
use Rattle.script_fields.proofs.PutLaws.{line-text}
use Rattle.script_fields.proofs.put.put_number.Goals as goal

pub slice_bounds-bytes-end : goal.slice_bounds-bytes-end
slice_bounds-bytes-end c = line-fits _ _ c.decimal-line.ensures

pub slice_bounds-put_text-end : goal.slice_bounds-put_text-end
slice_bounds-put_text-end c = sym (length-take-le _ _ (line-fits _ _ c.decimal-line.ensures))

pub returns : goal.returns
returns c =
    let a = c.args in
    let text = line-text _ (numeral a.n) c.decimal-line.ensures in
    record {
      place = c.put_text.ensures.place ∙ ap (place_after a.out.now a.at) text;
      buffer = c.put_text.ensures.buffer ∙ ap (buffer_after a.out.now a.at) text;
    }
