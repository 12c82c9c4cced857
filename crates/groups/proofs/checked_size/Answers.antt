-- `groups::checked_size` meets its contract.
use Rattle.groups.proofs.Putting.{one_byte, two_bytes, three-bytes, four_bytes, five-bytes, no_bytes}
use Rattle.groups.proofs.checked_size.Goals as goal

pub returns-then-n : goal.returns-then-n
returns-then-n c = one_byte c.args.n c.if-n.true

pub returns-then-n-2 : goal.returns-then-n-2
returns-then-n-2 c = two_bytes c.args.n c.if-n.false c.if-n-2.true

pub returns-then-n-3 : goal.returns-then-n-3
returns-then-n-3 c = three-bytes c.args.n c.if-n-2.false c.if-n-3.true

pub returns-then-n-4 : goal.returns-then-n-4
returns-then-n-4 c = four_bytes c.args.n c.if-n-3.false c.if-n-4.true

pub returns-then-n-lt-LIMIT : goal.returns-then-n-lt-LIMIT
returns-then-n-lt-LIMIT c = five-bytes c.args.n c.if-n-4.false c.if-n-lt-LIMIT.true

pub returns : goal.returns
returns c = no_bytes c.args.n c.if-n-lt-LIMIT.false
