-- `area::Finished::fill_area` meets its contract. Assumes nothing.
use Rattle.std.proofs.Common.{rules}
use Rattle.area.proofs.Laws.{finished_walkable}
use Rattle.area.proofs.Finished.fill_area.Goals as goal

pub fill_mask-requires : goal.fill_mask-requires
fill_mask-requires c =
    let f = c.args.self.now in
    let t = c.trails.ensures in
    (rw (t.map, t.n, t.forward, t.backward, c.marks-marks.ensures.marks, f.lent.same_n) (finished_walkable f.lent.roads.valid f.lent.shaped f.finished), search rules, search rules)
