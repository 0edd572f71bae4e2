-- `bench::take_turn` meets its contract. Assumes nothing.
use Rattle.std.proofs.Common.{◌≡◌, rules}
use Rattle.half.specs.Half.{dist}
use Rattle.shape.specs.Bench.{half, parse}
use Rattle.bench.proofs.Laws.{turn_stays, turn_settles}
use Rattle.bench.proofs.take_turn.Goals as goal

pub returns-in_default : goal.returns-in_default
returns-in_default c =
    let a = c.args in
    let same = c.in_ok-lent.lent.same_n in
    let l = c.in_ok-lent.ensures in
    let said = turn_stays a.map.now a.n a.m a.bench.now a.side l.fault (rw (same, l.lent.1, l.lent.3) at c.in_default.ensures.none) in
    record { answer = said.0; bench = said.1 }

pub returns : goal.returns
returns c =
    let a = c.args in
    let same = c.in_ok-lent.lent.same_n in
    let l = c.in_ok-lent.ensures in
    let x = rw (same, l.lent.1, l.lent.3) at c.in-Some.ensures.some in
    let d : c.entry-d.result.dist ≡ dist (half a.side (parse a.n a.bench.now)) c.in-Some.x = search rules in
    let said = turn_settles a.map.now a.n a.m a.bench.now a.side l.fault x.1 x.2 d (rw (l.lent.0, l.lent.1) at c.take.ensures) in
    record { answer = said.0; bench = said.1 }
