-- `number::number_at` meets its contract. Assumes nothing.
use Rattle.std.proofs.Common.{sym, ◌∙◌, arith}
use Rattle.number.proofs.Laws.{number_none, number_bad, number_begun, grow_stop, grow_more, grow_end}
use Rattle.number.proofs.number_at.Goals as goal

pub returns-in_default : goal.returns-in_default
returns-in_default c = number_none _ _ c.in_default.ensures.lookup.3

pub returns-in_default-digit : goal.returns-in_default-digit
returns-in_default-digit c = let here = c.in-Some.ensures.lookup.3 in number_bad _ here.0 (here.1 0) c.in_default-digit.ensures

pub loop-next-init : goal.loop-next-init
loop-next-init c =
    let here = c.in-Some.ensures.lookup.3 in
    let d = c.in-Some-digit.ensures in
    (omega arith, omega arith, number_begun _ here.0 (here.1 0) d.0 d.1)

pub returns-in_default-digit-2 : goal.returns-in_default-digit-2
returns-in_default-digit-2 c = sym (c.loop-next.invariant.2 ∙ grow_stop _ (omega arith) c.loop-next.value c.in_default-digit-2.ensures)

pub loop-next-preserved : goal.loop-next-preserved
loop-next-preserved c =
    let d = c.in-Some-digit-2.ensures in
    (omega arith, omega arith, c.loop-next.invariant.2 ∙ grow_more _ (omega arith) d.0 d.1 c.loop-next.value (λ z. omega (arith, z)) (omega arith))

pub returns : goal.returns
returns c = let l = c.loop-next in sym (l.invariant.2 ∙ grow_end _ l.value (omega arith))
