-- `area::Finished::trails` meets its contract. Assumes nothing.
use Rattle.area.proofs.Laws.{finished_walkable}
use Rattle.area.proofs.Finished.trails.Goals as goal

pub invariant_of-result : goal.invariant_of-result
invariant_of-result c =
    let f = c.args.self.now in
    let h = c.halves.ensures in
    let w = finished_walkable f.lent.roads.valid f.lent.shaped f.finished in
    rw (h.n, h.forward, h.backward, f.lent.same_n) (record { forward = w.forward; backward = w.backward })
