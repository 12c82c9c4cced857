-- `putting::piece_in` meets its contract: the part of the rates between two places, or none.
use mathlib.Core.Path.{sym}
use Rattle.schedule.proofs.PutLaws.{piece_is, piece_none}
use Rattle.schedule.proofs.putting.piece_in.Goals as goal
use Rattle.schedule.proofs.putting.piece_in.Goals.{then-low-high, else-low-high}

pub returns : goal.returns
returns c =
    let a = c.args in
    elim c.if-low-high.branch [
      | then-low-high w ↦
          let is = piece_is a.month a.slot _ _ _ _ a.rates.now c.first_slot-first.ensures c.first_slot.ensures in
          rw w.part-is (sym (is c.max-low.ensures c.min-high.ensures w.if-low-high.true))
      | else-low-high w ↦
          let none = piece_none a.month a.slot _ _ _ _ a.rates.now c.first_slot-first.ensures c.first_slot.ensures in
          rw w.part-is (none c.max-low.ensures c.min-high.ensures w.if-low-high.false)
    ]
