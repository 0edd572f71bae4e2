-- `sankayop::sankayop_route` meets its contract. Assumes nothing.
use Rattle.sankayop.proofs.Packs.{packs_by, route_packs}
use Rattle.sankayop.proofs.sankayop_route.Goals as goal

pub pack-requires : goal.pack-requires
pack-requires c = packs_by c.fill_route.ensures.answer (route_packs _ _ _ _ _ _)
