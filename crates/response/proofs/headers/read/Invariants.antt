-- `response::headers::read` meets its contract: the lines before t are walked, and the marks say what they say.
use lib.ListN.{length}
use Rattle.response.specs.Marks.{Walked}
use Rattle.response.proofs.headers.read.Given as goal

abbrev pub invariant-loop-line : goal.invariant-loop-line
invariant-loop-line l = Walked l.s l.t l.size l.name

abbrev pub decreases-loop-line : goal.decreases-loop-line
decreases-loop-line l = length l.t
