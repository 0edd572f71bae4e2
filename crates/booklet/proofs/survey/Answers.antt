-- `booklet::survey` meets its contract. Assumes nothing.
use Rattle.std.proofs.lemmas.Result.{err_from_is_err_and}
use Rattle.booklet.proofs.Area.{reading_refused, area_missing, area_there}
use Rattle.booklet.proofs.survey.Goals as goal

pub returns-in_err-size : goal.returns-in_err-size
returns-in_err-size c =
    let s = c.args in
    let p = err_from_is_err_and c.from_residual.result c.from_residual.ensures.1 in
    let done = reading_refused s.text.now s.map.now s.order s.bench.now s.mask.now c.read.ensures.map _ c.in_err-size.ensures.answer in
    record { answer = rw (p.1, p.2) done.answer; map = done.map; bench = done.bench; mask = done.mask; room = rw p.1 tt }

pub returns-in-Err : goal.returns-in-Err
returns-in-Err c =
    let s = c.args in
    let f = c.in-Err.ensures in
    let done = area_missing s.text.now s.map.now s.order s.bench.now s.mask.now c.read.ensures.map c.in_ok-size.ensures.answer _ (record { answer = f.answer; bench = f.bench; mask = f.mask; room = tt }) in
    record { answer = rw c.outside.ensures done.answer; map = done.map; bench = done.bench; mask = done.mask; room = tt }

pub returns-in-Ok : goal.returns-in-Ok
returns-in-Ok c =
    let s = c.args in
    let f = c.in-Ok.ensures in
    let done = area_there s.text.now s.map.now s.order s.bench.now s.mask.now c.read.ensures.map c.in_ok-size.ensures.answer (record { answer = f.answer; bench = f.bench; mask = f.mask; room = f.room }) in
    record { answer = done.answer; map = done.map; bench = done.bench; mask = done.mask; room = done.room }
