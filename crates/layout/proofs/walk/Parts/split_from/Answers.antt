-- `Parts::split_from` meets its contract: the parts are cut off one after the other, and nothing is given where one is short.
use Prim.Native.Nat.{◌≤◌, ◌<◌}
use mathlib.Core.Path.{◌≡◌, ◌∙◌, refl, ap}
use lib.ListN.{length, take, drop}
use Rattle.layout.proofs.Fronts.{front-short, front-few, front-cut, front-rates, front-tail, front-rest, front-room}
use Rattle.layout.proofs.walk.Parts.split_from.Goals as goal

pub returns-in_err-head : goal.returns-in_err-head
returns-in_err-head c = rw c.from_residual.ensures (front-short c.args.format c.args.s.now refl refl c.in_err-head.ensures.cases)

pub returns-in_err-rates : goal.returns-in_err-rates
returns-in_err-rates c =
    let a = c.in_ok-head.ensures.cases in
    let few : length (drop 53 c.args.s.now) < c.rate_count.result = rw a.2 at c.in_err-rates.ensures.cases in
    rw c.from_residual-in_err-rates.ensures (front-few c.args.format c.args.s.now c.rate_count.ensures.exact refl a.0 few)

pub returns-in_err-tail : goal.returns-in_err-tail
returns-in_err-tail c =
    let s = c.args.s.now in
    let n = c.rate_count.result in
    let a = c.in_ok-head.ensures.cases in
    let b = c.in_ok-rates.ensures.cases in
    let left : c.in_ok-rates.after.now ≡ drop n (drop 53 s) = b.2 ∙ ap (drop n) a.2 in
    let few : length (drop n (drop 53 s)) < c.tail_digits.result = rw left at c.in_err-tail.ensures.cases in
    rw c.from_residual-in_err-tail.ensures (front-cut c.args.format s c.rate_count.ensures.exact c.tail_digits.ensures.exact a.0 few)

pub returns : goal.returns
returns c =
    let f = c.args.format in
    let s = c.args.s.now in
    let n = c.rate_count.result in
    let n≡ = c.rate_count.ensures.exact in
    let t≡ = c.tail_digits.ensures.exact in
    let a = c.in_ok-head.ensures.cases in
    let b = c.in_ok-rates.ensures.cases in
    let d = c.in_ok-tail.ensures.cases in
    let left : c.in_ok-rates.after.now ≡ drop n (drop 53 s) = b.2 ∙ ap (drop n) a.2 in
    let many : n ≤ length (drop 53 s) = rw a.2 at b.0 in
    let whole : c.tail_digits.result ≤ length (drop n (drop 53 s)) = rw left at d.0 in (
      record {
        format = refl;
        head = a.1;
        rates = b.1 ∙ ap (take n) a.2 ∙ front-rates f s n≡ t≡ a.0;
        tail = d.1 ∙ ap (take c.tail_digits.result) left ∙ front-tail f s n≡ t≡ a.0;
        room = front-room f s n≡ t≡ a.0 many whole;
      },
      d.2 ∙ ap (drop c.tail_digits.result) left ∙ front-rest f s n≡ t≡ a.0,
    )
