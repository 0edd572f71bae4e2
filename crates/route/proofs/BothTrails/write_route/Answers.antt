-- `route::BothTrails::write_route` meets its contract. Assumes nothing.
use Rattle.std.proofs.Common.{length, refl, ap, arith, rules}
use lib.Seq.{length-sets}
use Rattle.route.proofs.Routes.{route_size, route_written}
use Rattle.route.proofs.BothTrails.write_route.Goals as goal

pub write_back-requires : goal.write_back-requires
write_back-requires c =
    let t = c.args.self.now in
    let p = c.requires in
    let there = c.trails-there.ensures in
    let k = rw (there.side, there.map, there.n, there.words) at c.length-k.ensures in
    (search rules, c.length-k.ensures, omega (arith, k, route_size t.halves.forward.words.now t.backward c.args.x p.1 refl, p.2))

pub write_on-requires : goal.write_on-requires
write_on-requires c =
    let t = c.args.self.now in
    let p = c.requires in
    let there = c.trails-there.ensures in
    let on = c.trails-on.ensures in
    let k = rw (there.side, there.map, there.n, there.words) at c.length-k.ensures in
    let e = rw (on.side, on.map, on.n, on.words) at c.after.ensures.crossing in
    (c.after.ensures.settled, rw (on.side, on.map, on.n, on.words) (omega (arith, k, route_size t.halves.forward.words.now t.backward c.args.x p.1 e, p.2, simp length-sets at (ap length c.write_back.ensures))))

pub returns : goal.returns
returns c =
    let t = c.args.self.now in
    let p = c.requires in
    let there = c.trails-there.ensures in
    let on = c.trails-on.ensures in
    let k = rw (there.side, there.map, there.n, there.words) at c.length-k.ensures in
    let e = rw (on.side, on.map, on.n, on.words) at c.after.ensures.crossing in
    let b = rw (there.side, there.map, there.n, there.words) at c.write_back.ensures in
    let w = rw (on.side, on.map, on.n, on.words) at c.write_on.ensures in (
      omega (arith, k, w.0, route_size t.halves.forward.words.now t.backward c.args.x p.1 e),
      route_written t.halves.forward.words.now t.backward c.args.x p.1 e c.args.buffer.now k b w.1,
    )
