-- `bench::area` meets its contract. Assumes nothing.
use Rattle.bench.proofs.Areas.{area_room, area_goes}
use Rattle.bench.proofs.area.Goals as goal

pub fill_area-requires : goal.fill_area-requires
fill_area-requires c =
    let a = c.args in
    let f = c.in_ok-finished.ensures in
    rw f.lent.1 (area_room a.map.now a.n a.m a.bench.now a.locality a.mask.now f.fault)

pub returns-clause-mask : goal.returns-clause-mask
returns-clause-mask c =
    let a = c.args in
    let f = c.in_ok-finished.ensures in
    area_goes a.map.now a.n a.m a.bench.now a.locality a.mask.now f.fault (rw (f.lent.0, f.lent.1, f.lent.2) at c.fill_area.ensures)
