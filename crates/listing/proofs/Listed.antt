-- The line of what was read is the line of 01's outcome, and fits.
use mathlib.Core.Path.{◌≡◌, refl}
use Rattle.rules.specs.File.{Outcome, refuse, file}
use Rattle.rules.specs.Lister.{line_of}
use Rattle.rules.specs.Reading.{summary_of, reading_of}
use Rattle.listing.specs.Line.{ok_text, refused_text, text_of, Printable}
use Rattle.listing.proofs.Short.{SmallFile}

pub text_read : (o : Outcome) → text_of (reading_of o) ≡ line_of o
unfolding reading_of summary_of line_of ok_text refused_text
text_read (refuse c) = refl
text_read (file f) = refl

pub printable : (o : Outcome) → SmallFile o → Printable (reading_of o)
unfolding reading_of summary_of
printable (refuse c) h = tt
printable (file f) h = h
