-- `date_stage::months_hold` meets its contract: months stand beside the records.
use Prim.Native.Nat.{◌-◌}
use mathlib.Core.Path.{◌∙◌, refl}
use native.Mathlib.Omega.{arith}
use borrow.Author.Rules.{rules}
use borrow.Author.Tests.{tests}
use Rattle.std.proofs.lemmas.Iterator.{YieldsList-from_zip, YieldsList-from_range}
use Rattle.std.proofs.lemmas.Iterator.Consumers.{YieldsList-at}
use Rattle.std.proofs.lemmas.Iterator.Search.{all_from_yields_List}
use Rattle.layout.specs.Walk.{record_of}
use Rattle.form.proofs.Turns.{yields}
use Rattle.body.specs.Records.{month_fits}
use Rattle.body.proofs.Fields.{months-left}
use Rattle.body.proofs.date_stage.months_hold.Goals as goal

pub returns : goal.returns
returns c =
    let w = c.args.records in
    let m = c.args.first in
    let months = YieldsList-at c.zip.ensures.first (YieldsList-from_range m 65535 (65535 - m) refl refl) in
    let records = YieldsList-at c.zip.ensures.second (yields w) in
    all_from_yields_List (λ p. month_fits p.0 p.1) c.all.new.self _ _ c.all.ensures.ran
    (YieldsList-from_zip {v = λ x. x} {w = record_of} months records) (λ x b q h. search (rules, tests))
    ∙ months-left w c.requires.0.stand (65535 - m) m (omega (arith, c.requires.0.few, c.requires.1))
