use mathlib.Core.Path.{◌≡◌}
use native.Mathlib.Omega.{arith}
use Rattle.records.proofs.Walking.{first-place, place_inside, place_end, place-next, place-rates, places-here}
use Rattle.records.proofs.walk.places_in.Goals as goal

pub loop-init : goal.loop-init
loop-init c = first-place _ _

pub slice_bounds-record_size-count : goal.slice_bounds-record_size-count
slice_bounds-record_size-count c = place_inside _ _ c.requires.0 _ _ c.loop.invariant (omega (arith, c.loop-test.true))

pub slice_bounds-record_size-start : goal.slice_bounds-record_size-start
slice_bounds-record_size-start c = place_inside _ _ c.requires.0 _ _ c.loop.invariant (omega (arith, c.loop-test.true))

pub overflow_add-at : goal.overflow_add-at
overflow_add-at c =
    omega (arith, c.well_formed, place_end _ _ c.requires.0 _ _ c.loop.invariant (omega (arith, c.loop-test.true)) _ c.record_size-at.ensures)

pub loop-preserved : goal.loop-preserved
loop-preserved c = place-next _ _ c.requires.0 _ _ c.loop.invariant (omega (arith, c.loop-test.true)) _ c.record_size-at.ensures

pub slice_bounds-rate_count-count : goal.slice_bounds-rate_count-count
slice_bounds-rate_count-count c = place_inside _ _ c.requires.0 _ _ c.loop.invariant (omega (arith, c.requires.1))

pub slice_bounds-rate_count-start : goal.slice_bounds-rate_count-start
slice_bounds-rate_count-start c = place_inside _ _ c.requires.0 _ _ c.loop.invariant (omega (arith, c.requires.1))

pub places_of-requires : goal.places_of-requires
places_of-requires c =
    omega (arith, c.well_formed, place-rates _ _ c.requires.0 _ _ c.loop.invariant (omega (arith, c.requires.1)) _ c.rate_count-n.ensures.exact)

pub returns : goal.returns
returns c =
    let e : c.loop.counter ≡ c.args.index = omega (arith, c.loop-test.false) in
    places-here _ _ c.requires.0 _ _ c.loop.invariant (omega (arith, c.requires.1)) _ c.rate_count-n.ensures.exact _ e c.places_of.ensures
