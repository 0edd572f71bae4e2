-- `text::scan` meets its contract. Assumes nothing.
use Rattle.std.proofs.Common.{◌≡◌, Err, ap, sym, ◌∙◌, arith, rules, length, length-append, lt-ltb, le-ltb}
use Rattle.std.proofs.lemmas.List.Sorted.{answers_always}
use Rattle.line.proofs.Lines.{cut_off}
use Rattle.text.specs.Text.{said, read_lines, read_text}
use Rattle.text.proofs.Laws.{read_stop, read_go, read_end}
use Rattle.text.proofs.scan.Goals as goal

pub returns-then-text-gt-LONGEST : goal.returns-then-text-gt-LONGEST
unfolding read_text
returns-then-text-gt-LONGEST c = rw (lt-ltb 1048576 _ c.if-text-gt-LONGEST.true)

pub loop-line-init : goal.loop-line-init
unfolding read_text
loop-line-init c =
    let e = c.split_inclusive-line-items.ensures.rest in
    let f = c.into_iter-line-iterator.ensures.into_iter_gives in
    rw (f, e) (omega arith, omega arith, rw (le-ltb 1048576 _ c.if-text-gt-LONGEST.false))

pub returns-in_err-state : goal.returns-in_err-state
returns-in_err-state c =
    let l = c.loop-line in
    let told : said c.from_residual.result ≡ said (Err c.in_err-state.field-0.0) = search rules in
    let lines = cut_off _ _ _ _ _ c.in-Some.ensures.steps (answers_always _ _ _ (λ f a r g k. search rules)) in
    let stop = read_stop _ l.state l.number _ _ c.take_line.result c.take_line.ensures c.in_err-state.ensures in
    told ∙ stop ∙ sym (l.invariant.2 ∙ ap (read_lines c.args.room l.state l.number) lines)

pub loop-line-preserved : goal.loop-line-preserved
loop-line-preserved c =
    let l = c.loop-line in
    let step = c.in-Some.ensures.steps in
    let lines = cut_off _ _ _ _ _ c.in-Some.ensures.steps (answers_always _ _ _ (λ f a r g k. search rules)) in (
      omega (arith, l.invariant.0, ap length step.0, length-append c.in-Some.line.now c.next.new.self.rest.now, step.1.1, step.2),
      l.invariant.1,
      l.invariant.2 ∙ ap (read_lines c.args.room l.state l.number) lines ∙ sym (read_go _ l.state l.number _ _ c.take_line.result c.take_line.ensures c.in_ok-state.ensures),
    )

pub returns : goal.returns
returns c = c.ended.ensures ∙ sym (c.loop-line.invariant.2 ∙ read_end _ _ _ _ c.in-None.ensures.steps.0)
