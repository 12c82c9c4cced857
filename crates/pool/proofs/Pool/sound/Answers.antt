use native.Mathlib.Omega.{arith}
use lib.ListN.{get_or}
use Rattle.rules.specs.Store.{block_count}
use Rattle.pool.specs.Blocks.{key_of, sound_of}
use Rattle.pool.proofs.BelowLaws.{pairs-same}
use Rattle.pool.proofs.SoundLaws.{sound-same}
use Rattle.pool.proofs.Pool.sound.Goals as goal

pub returns : goal.returns
unfolding sound_of
returns c =
    let a = c.args in
    let k = c.keys in
    let same = pairs-same (λ b. get_or k.result b 0) (key_of a.self) k.ensures block_count (omega arith) in
    rw (c.all_in_range.ensures, c.pairs.ensures, same) (sound-same a.self a.floor)
