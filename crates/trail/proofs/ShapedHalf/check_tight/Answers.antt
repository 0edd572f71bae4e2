-- `trail::ShapedHalf::check_tight` meets its contract. Assumes nothing.
use Rattle.std.proofs.Common.{arith}
use Rattle.map.specs.Map.{cost}
use Rattle.map.proofs.Walks.{near_in}
use Rattle.trail.proofs.Checks.{tight_sum}
use Rattle.trail.proofs.ShapedHalf.check_tight.Goals as goal

pub entry-end-requires : goal.entry-end-requires
entry-end-requires c =
    let a = c.args.self.now in
    rw (a.same_n, c.near.ensures) (near_in a.roads.valid _ _ c.requires)

pub overflow_add-end : goal.overflow_add-end
unfolding cost
overflow_add-end c =
    let a = c.args.self.now in
    omega (arith, tight_sum _ a.roads.valid a.shaped _ c.requires c.near.ensures (rw a.same_n at c.entry-end.ensures) (omega arith))
