-- Every law of specs/Laws, proved: this is the file to cite.
use Rattle.about_store.specs.Laws.{
  FreshAgrees,
  SameAgrees,
  ReleaseAgrees,
  PutAgrees,
  TakenGood,
  RateAgrees,
  FreeAgrees,
  HeldFew,
  RoomAgrees,
  PoolSound,
  StoreSound,
  StoreHolds,
  MonthsAgree,
  BlocksApart,
  BlocksAgree,
  BytesAgree,
  RunUntouched,
  RecordsUntouched,
}
use Rattle.about_store.proofs.Steps.{fresh, same-files, release, put}
use Rattle.about_store.proofs.Taken.{good}
use Rattle.about_store.proofs.Answers.{rate-is, free-blocks, held-most, room, sound}
use Rattle.about_store.proofs.Blocks.{months-held, block-bytes, all-bytes, all_sound, all_hold, apart}
use Rattle.about_store.proofs.Untouched.{run-leaves, records-leave}

-- ---- agreement

pub fresh-agrees : FreshAgrees
fresh-agrees = fresh

pub same-agrees : SameAgrees
same-agrees = same-files

pub release_agrees : ReleaseAgrees
release_agrees = release

pub put_agrees : PutAgrees
put_agrees = put

pub taken-good : TakenGood
taken-good = good

-- ---- answers

pub rate-agrees : RateAgrees
rate-agrees = rate-is

pub free-agrees : FreeAgrees
free-agrees = free-blocks

pub held-few : HeldFew
held-few = held-most

pub room-agrees : RoomAgrees
room-agrees = room

-- ---- soundness, months and bytes

pub pool-sound : PoolSound
pool-sound = sound

pub store-sound : StoreSound
store-sound = all_sound

pub store-holds : StoreHolds
store-holds = all_hold

pub months-agree : MonthsAgree
months-agree = months-held

pub blocks-apart : BlocksApart
blocks-apart = apart

pub blocks-agree : BlocksAgree
blocks-agree = all-bytes

pub bytes-agree : BytesAgree
bytes-agree = block-bytes

-- ---- what is left as it was

pub run-untouched : RunUntouched
run-untouched = run-leaves

pub records-untouched : RecordsUntouched
records-untouched = records-leave
