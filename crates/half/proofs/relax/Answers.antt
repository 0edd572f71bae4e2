-- `half::relax` meets its contract: the link comes to a crossing of the map. Assumes nothing.
use Rattle.map.proofs.Walks.{far_in}
use Rattle.half.proofs.relax.Goals as goal

pub reach-requires : goal.reach-requires
reach-requires c = (rw c.far-v.ensures (far_in c.args.roads.now.valid _ c.args.k c.requires.0), c.requires.1)
