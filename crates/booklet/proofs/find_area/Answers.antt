-- `booklet::find_area` meets its contract: no turn is refused, and both halves are done after them. Assumes nothing.
use Rattle.std.proofs.Common.{sym, ap, ◌∙◌, rules}
use Rattle.limits.specs.Refusals.{fault_of}
use Rattle.limits.proofs.Refused.{number_not_zero}
use Rattle.bench.specs.Calls.{turn_fault}
use Rattle.booklet.proofs.Area.{opening_refused, opened_turns, opened_finished, area_refused, area_found}
use Rattle.booklet.proofs.find_area.Goals as goal

pub returns-in_default : goal.returns-in_default
returns-in_default c =
    let s = c.args in
    let found = opening_refused s.map.now s.n s.m s.order s.bench.now c.in_default.ensures.answer c.in_default.ensures.bench s.mask.now in
    record { answer = ap fault_of c.in_default.is ∙ found.answer; bench = found.bench; mask = found.mask; room = rw c.in_default.is found.room }

pub returns-in_err-take_turns : goal.returns-in_err-take_turns
returns-in_err-take_turns c =
    let s = c.args in
    absurd
    (number_not_zero _ (ap fault_of (sym c.in_err-take_turns.was) ∙ c.take_turns.ensures.answer ∙ ap (turn_fault s.map.now s.n s.m) c.in-Ok.ensures.bench
    ∙ opened_turns s.map.now s.n s.m s.order s.bench.now c.in-Ok.ensures.answer))

pub returns-in_default-filling : goal.returns-in_default-filling
returns-in_default-filling c =
    let s = c.args in
    let o = c.in-Ok.ensures in
    let a = c.in_default-filling in
    let finished = opened_finished s.map.now s.n s.m s.order s.bench.now o.answer o.bench c.take_turns.ensures.bench in
    let found = area_refused s.map.now s.n s.m s.order s.bench.now o.answer finished s.mask.now a.ensures.answer a.ensures.mask in
    record { answer = ap fault_of a.is ∙ found.answer; bench = found.bench; mask = found.mask; room = rw a.is found.room }

pub returns : goal.returns
returns c =
    let s = c.args in
    let o = c.in-Ok.ensures in
    let a = c.in-Ok-filling.ensures in
    let finished = opened_finished s.map.now s.n s.m s.order s.bench.now o.answer o.bench c.take_turns.ensures.bench in
    let found = area_found s.map.now s.n s.m s.order s.bench.now o.answer finished s.mask.now a.answer a.mask (search rules) in
    record { answer = found.answer; bench = found.bench; mask = found.mask; room = found.room }
