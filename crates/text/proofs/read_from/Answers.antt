-- `text::read_from` meets its contract. Assumes nothing.
use Rattle.std.proofs.Common.{◌≡◌, List, ℕ, length, drop, sym, ap, ◌∙◌, rules}
use Rattle.text.specs.Text.{said, read_text, map_after}
use Rattle.text.proofs.Refusals.{refused_kept, words_fit, words_written}
use Rattle.text.proofs.read_from.Goals as goal

pub returns-in_err-size : goal.returns-in_err-size
returns-in_err-size c =
    let room = length c.args.map.now in
    let same : read_text room c.left-rest.result.now ≡ read_text room (drop c.args.at c.args.text.now) = ap (read_text room) c.left-rest.ensures in
    let told : said c.from_residual.result ≡ read_text room c.left-rest.result.now = search rules in
    (told ∙ same, sym (refused_kept _ _ (sym (c.in_err-size.ensures ∙ same))))

pub fill-requires : goal.fill-requires
fill-requires c = words_fit _ c.args.map.now (sym c.in_ok-size.ensures)

pub returns : goal.returns
returns c =
    let rest = c.left-rest.ensures in
    let e = c.in_ok-size.ensures in
    (e ∙ ap (read_text _) rest, c.fill.ensures ∙ words_written _ _ (sym e) ∙ ap (λ (s : List ℕ). map_after s c.args.map.now) rest)
