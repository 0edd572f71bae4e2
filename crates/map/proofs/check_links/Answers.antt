-- `map::check_links` meets its contract. Assumes nothing.
use Rattle.std.proofs.Common.{◌≡◌, ◌+◌, ap, sym, ◌∙◌, arith, rules}
use Rattle.limits.specs.First.{first_from}
use Rattle.limits.proofs.Fine.{fine_first}
use Rattle.limits.proofs.Laws.{first_hit, first_miss, first_end}
use Rattle.limits.specs.Refusals.{fault_of}
use Rattle.limits.proofs.Refused.{number_not_zero}
use Rattle.map.specs.Map.{link_fault}
use Rattle.map.proofs.check_links.Goals as goal

pub returns-then-all_pass : goal.returns-then-all_pass
returns-then-all_pass c = sym (fine_first _ _ (sym (c.all_pass.ensures (link_fault c.args.n c.args.map.now) (λ v r i e. search rules)) ∙ c.if-all_pass.true))

pub loop-k-init : goal.loop-k-init
loop-k-init c = (omega arith, ap (first_from (link_fault c.args.n c.args.map.now) 1) (omega arith))

pub returns-in_err-check_link : goal.returns-in_err-check_link
returns-in_err-check_link c =
    let l = c.loop-k in
    let f = link_fault c.args.n c.args.map.now in
    let told : fault_of c.from_residual.result ≡ f l.k = search rules in
    told ∙ sym (l.invariant.1 ∙ first_hit f l.k (c.args.m + 1) (omega arith) (λ z. number_not_zero _ (c.in_err-check_link.ensures ∙ z)))

pub loop-k-preserved : goal.loop-k-preserved
loop-k-preserved c =
    let l = c.loop-k in
    let f = link_fault c.args.n c.args.map.now in
    (omega arith, l.invariant.1 ∙ first_miss f l.k (c.args.m + 1) (omega arith) (sym c.in_ok-check_link.ensures))

pub returns-else-all_pass : goal.returns-else-all_pass
returns-else-all_pass c =
    let l = c.loop-k in
    sym (l.invariant.1 ∙ first_end (link_fault c.args.n c.args.map.now) _ _ (omega arith))

pub returns-in_ok-check_link : goal.returns-in_ok-check_link
returns-in_ok-check_link c =
    let l = c.loop-k in
    let f = link_fault c.args.n c.args.map.now in
    sym (l.invariant.1 ∙ first_miss f l.k (c.args.m + 1) (omega arith) (sym c.in_ok-check_link.ensures) ∙ first_end f _ _ (omega arith))
