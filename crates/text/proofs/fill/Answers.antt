-- `text::fill` meets its contract. Assumes nothing.
use Rattle.std.proofs.Common.{refl, ap, sym, ◌∙◌, arith, rules, length}
use Rattle.std.proofs.lemmas.List.Sorted.{answers_always}
use Rattle.std.proofs.Math.Seq.{length-sets}
use Rattle.line.specs.Line.{line_of}
use Rattle.line.specs.Lines.{lines_of}
use Rattle.line.proofs.Lines.{cut_off}
use Rattle.text.specs.Text.{line_words}
use Rattle.text.proofs.Laws.{fill_room, fill_more, fill_end}
use Rattle.text.proofs.fill.Goals as goal

pub loop-line-init : goal.loop-line-init
loop-line-init c =
    let e = c.split_inclusive-line-items.ensures.rest in
    let f = c.into_iter-line-iterator.ensures.into_iter_gives in
    rw (f, e) (refl, omega arith, refl)

pub put_line-at-requires : goal.put_line-at-requires
put_line-at-requires c =
    let l = c.loop-line in
    let lines = cut_off _ _ _ _ _ c.in-Some.ensures.steps (answers_always _ _ _ (λ f a r g k. search rules)) in
    omega (arith, l.invariant.1, fill_room l.map l.at _ (lines_of c.next.new.self.rest.now) _ lines)

pub loop-line-preserved : goal.loop-line-preserved
loop-line-preserved c =
    let l = c.loop-line in
    let lines = cut_off _ _ _ _ _ c.in-Some.ensures.steps (answers_always _ _ _ (λ f a r g k. search rules)) in
    let words = c.put_line-at.ensures in
    let kept = ap length words.map ∙ length-sets l.map l.at (line_words (line_of c.in-Some.line.now)) in (
      kept ∙ l.invariant.0,
      omega (arith, l.invariant.1, fill_room l.map l.at _ (lines_of c.next.new.self.rest.now) _ lines, words.place, kept),
      l.invariant.2 ∙ fill_more l.map l.at _ (lines_of c.next.new.self.rest.now) _ lines ∙ cc,
    )

pub returns : goal.returns
returns c = sym (c.loop-line.invariant.2 ∙ rw (fill_end _ c.in-None.ensures.steps.0))
