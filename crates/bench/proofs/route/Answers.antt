-- `bench::route` meets its contract. Assumes nothing.
use Rattle.std.proofs.Common.{refl, sym, ◌∙◌, arith}
use lib.Seq.{length-take-le}
use Rattle.bench.proofs.Routes.{filled_or, handed_room, handed_part}
use Rattle.bench.proofs.route.Goals as goal

pub slice_bounds-result-end : goal.slice_bounds-result-end
slice_bounds-result-end c =
    let a = c.args in
    let f = c.fill_route in
    sym (length-take-le _ _ (omega (arith, f.auto.buffer, handed_room _ _ _ _ _ a.buffer.now f.result f.ensures.answer (c.unwrap_or-filled.ensures ∙ filled_or f.result))))

pub returns : goal.returns
returns c =
    let f = c.fill_route in
    (handed_part _ _ _ _ _ _ f.result f.ensures.answer (c.unwrap_or-filled.ensures ∙ filled_or f.result) f.ensures.buffer, refl)
