-- `request::fill` meets its contract: six puts, one after another.
use Rattle.request.proofs.RequestLaws.{written}
use Rattle.request.proofs.fill.Goals as goal

pub returns : goal.returns
returns c =
    let ascii = rw c.to_ascii.ensures at c.put-2.ensures in
    written c.requires c.put.ensures ascii c.put-3.ensures c.put-4.ensures c.put-5.ensures c.put-6.ensures
