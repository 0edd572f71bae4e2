-- `route::BothTrails::fill_mask` meets its contract. Assumes nothing.
use Rattle.std.proofs.Common.{◌≡◌, ◌+◌, ◌-◌, refl, sym, ◌∙◌, arith}
use lib.ListN.{length-set}
use Rattle.route.specs.Area.{mask_in}
use Rattle.route.proofs.Writing.{fill_step, fill_end}
use Rattle.route.proofs.BothTrails.fill_mask.Goals as goal

pub loop-x-init : goal.loop-x-init
unfolding mask_in
loop-x-init c = let n = c.args.self.now.halves.forward.n in let e : n + 1 - 1 ≡ n = omega arith in (omega arith, refl, rw e)

pub loop-x-preserved : goal.loop-x-preserved
loop-x-preserved c =
    let l = c.loop-x in
    (omega arith, simp length-set l.invariant.1, l.invariant.2 ∙ fill_step _ _ l.x l.mask (omega arith) c.mask_at.ensures)

pub returns : goal.returns
returns c = let l = c.loop-x in sym (l.invariant.2 ∙ fill_end _ _ l.x l.mask (omega arith))

pub returns-2 : goal.returns-2
returns-2 c =
    let l = c.loop-x in
    sym (l.invariant.2 ∙ fill_step _ _ l.x l.mask (omega arith) c.mask_at.ensures ∙ fill_end _ _ (l.x + 1) _ (omega arith))
