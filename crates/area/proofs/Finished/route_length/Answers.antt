-- `area::Finished::route_length` meets its contract. Assumes nothing.
use Rattle.area.proofs.Laws.{finished_routed}
use Rattle.area.proofs.Finished.route_length.Goals as goal

pub route_length-requires : goal.route_length-requires
route_length-requires c =
    let f = c.args.self.now in
    let t = c.trails.ensures in
    let r = finished_routed c.args.crossing f.lent.roads.valid f.lent.shaped f.finished c.requires.0 c.requires.1 in
    rw (t.n, t.forward, t.backward) (r.2, r.3)
