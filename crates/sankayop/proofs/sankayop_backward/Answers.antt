-- `sankayop::sankayop_backward` meets its contract. Assumes nothing.
use Rattle.sankayop.proofs.Packs.{packs_by, turn_packs}
use Rattle.sankayop.proofs.sankayop_backward.Goals as goal

pub pack-requires : goal.pack-requires
pack-requires c = packs_by c.backward.ensures.answer (turn_packs _ _ _ _ _)
