-- `area::Finished::write_route` meets its contract. Assumes nothing.
use Rattle.area.proofs.Laws.{finished_routed}
use Rattle.area.proofs.Routes.{asked_goes}
use Rattle.area.proofs.Finished.write_route.Goals as goal

pub write_route-requires : goal.write_route-requires
write_route-requires c =
    let f = c.args.self.now in
    let t = c.trails.ensures in
    let a = asked_goes _ _ c.args.crossing _ c.requires.1 in
    let r = finished_routed c.args.crossing f.lent.roads.valid f.lent.shaped f.finished c.requires.0 a.0 in
    rw (t.map, t.n, t.forward, t.backward) (r.2, r.3, rw f.lent.shaped.same_n at a.1)
