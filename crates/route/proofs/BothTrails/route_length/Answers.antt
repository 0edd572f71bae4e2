-- `route::BothTrails::route_length` meets its contract. Assumes nothing.
use Rattle.std.proofs.Common.{length, refl, ap, arith}
use Rattle.trail.proofs.Walking.{trail_few, step_trail}
use Rattle.route.proofs.Routes.{route_size}
use Rattle.route.proofs.BothTrails.route_length.Goals as goal

pub overflow_add-result : goal.overflow_add-result
overflow_add-result c =
    let t = c.args.self.now in
    let there = c.trails.ensures in
    let on = c.trails-2.ensures in
    let p = c.requires in
    omega (
      arith,
      trail_few t.forward c.args.x p.0,
      trail_few t.backward c.args.x p.1,
      rw (there.side, there.map, there.n, there.words) at c.length-there.ensures,
      rw (on.side, on.map, on.n, on.words) at c.length-on.ensures,
    )

pub overflow_sub-result : goal.overflow_sub-result
overflow_sub-result c =
    let there = c.trails.ensures in
    omega (arith, rw (there.side, there.map, there.n, there.words) at c.length-there.ensures, ap length (step_trail c.args.self.now.forward c.args.x c.requires.0 refl))

pub returns : goal.returns
returns c =
    let t = c.args.self.now in
    let there = c.trails.ensures in
    let on = c.trails-2.ensures in
    let p = c.requires in
    omega (
      arith,
      rw (there.side, there.map, there.n, there.words) at c.length-there.ensures,
      rw (on.side, on.map, on.n, on.words) at c.length-on.ensures,
      route_size t.halves.forward.words.now t.backward c.args.x p.1 refl,
      ap length (step_trail t.backward c.args.x p.1 refl),
    )
