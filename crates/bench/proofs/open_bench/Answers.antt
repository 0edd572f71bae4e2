-- `bench::open_bench` meets its contract. Assumes nothing.
use Rattle.bench.proofs.Laws.{open_order}
use Rattle.bench.proofs.open_bench.Goals as goal

pub write_opened-requires : goal.write_opened-requires
write_opened-requires c =
    let a = c.args in
    let o = open_order a.map.now a.n a.m a.start a.target a.stretch a.bench.now c.in_ok-check_open.ensures in
    (o.valid.n_in.most, o.start_in, o.target_in, o.room)
