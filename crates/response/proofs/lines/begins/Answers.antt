-- `response::lines::begins` meets its contract.
use mathlib.Core.Path.{◌∙◌}
use lib.ListN.{length, take}
use Rattle.std.proofs.lemmas.Cmp.{nat_list_eq_equiv}
use Rattle.laws.proofs.Bytes.{pointwise-same}
use Rattle.rules.specs.Response.{begins}
use Rattle.response.proofs.lines.begins.Goals as goal

pub returns : goal.returns
unfolding begins
returns c =
    let p = c.args.p.now in
    let front = take (length p) c.args.s.now in
    c.starts_with.ensures.value ∙ nat_list_eq_equiv.symm p front ∙ pointwise-same front p
