-- `bench::fill_route` meets its contract. Assumes nothing.
use Rattle.std.proofs.Common.{arith}
use Rattle.bench.proofs.Routes.{fill_ready, fill_goes, fill_short}
use Rattle.bench.proofs.fill_route.Goals as goal

pub write_route-length-requires : goal.write_route-length-requires
write_route-length-requires c =
    let a = c.args in
    let f = c.in_ok-finished.ensures in
    let r = fill_ready a.map.now a.n a.m a.bench.now a.crossing a.buffer.now f.fault in
    rw (f.lent.0, f.lent.1, f.lent.2) (r.inside, r.asked)

pub overflow_cast-result : goal.overflow_cast-result
overflow_cast-result c =
    let a = c.args in
    let f = c.in_ok-finished.ensures in
    omega (arith, rw (f.lent.0, f.lent.1, f.lent.2) at c.write_route-length.ensures.0, fill_short a.map.now a.n a.m a.bench.now a.crossing a.buffer.now f.fault)

pub returns-clause-buffer : goal.returns-clause-buffer
returns-clause-buffer c =
    let a = c.args in
    let f = c.in_ok-finished.ensures in
    fill_goes a.map.now a.n a.m a.bench.now a.crossing a.buffer.now f.fault (rw (f.lent.0, f.lent.1, f.lent.2) at c.write_route-length.ensures.1)
