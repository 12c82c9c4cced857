use mathlib.Core.Path.{◌∙◌}
use Rattle.records.proofs.Joined.{going_start, going_end, going_next}
use Rattle.records.proofs.copying.put_rates.Goals as goal

pub loop-parts-init : goal.loop-parts-init
loop-parts-init c =
    let walk = c.new-parts-items.ensures in
    rw c.into_iter-parts-iterator.ensures.into_iter_gives (
      tt,
      tt,
      going_start c.args.format c.args.s.now c.args.out.now c.new-parts-items.result c.requires walk.format
          (walk.left ∙ c.record_count.ensures) walk.rest,
    )

pub loop-parts-preserved : goal.loop-parts-preserved
loop-parts-preserved c =
    let l = c.loop-parts in
    (tt, tt, going_next _ _ l.out l.place l.parts-iterator c.next.new.self l.invariant.2 c.in-Some.parts c.in-Some.ensures.steps c.put.auto.out c.put.ensures)

pub returns : goal.returns
returns c =
    let l = c.loop-parts in
    going_end _ _ l.out l.place l.parts-iterator c.next.new.self l.invariant.2 c.in-None.ensures.steps
