-- `area::check_route` meets its contract. Assumes nothing.
use Rattle.area.proofs.Routes.{lent_inside}
use Rattle.area.proofs.check_route.Goals as goal

pub check_asked-requires : goal.check_asked-requires
check_asked-requires c =
    let a = c.args in
    rw (c.in_ok-finished.ensures.lent.1, c.in_ok-lent.ensures.lent.1)
    (lent_inside a.map.now a.n a.m a.bench.now a.crossing c.check_crossing.ensures c.in_ok-lent.ensures.fault)
