-- `sankayop::sankayop_read` meets its contract. Assumes nothing.
use Rattle.sankayop.proofs.Packs.{packs_by}
use Rattle.sankayop.proofs.Reading.{read_packs}
use Rattle.sankayop.proofs.sankayop_read.Goals as goal

pub pack-requires : goal.pack-requires
pack-requires c = packs_by c.read.ensures.answer (read_packs _ _)
