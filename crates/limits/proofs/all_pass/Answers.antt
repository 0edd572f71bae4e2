-- `limits::all_pass` meets its contract. Assumes nothing.
use Rattle.std.proofs.Common.{◌∙◌, ap, arith}
use Rattle.limits.specs.First.{all_fine}
use Rattle.limits.proofs.Fine.{fine_start, fine_next}
use Rattle.limits.proofs.Refused.{passes}
use Rattle.limits.proofs.all_pass.Goals as goal
use Rattle.limits.proofs.all_pass.Goals.{else-loop-v-test, then-loop-v-test+else-v-n}

pub loop-v-init : goal.loop-v-init
loop-v-init g c = (omega arith, λ fault tells. fine_start fault)

pub loop-v-preserved : goal.loop-v-preserved
loop-v-preserved g c = (
  omega arith,
  λ fault tells.
      let l = c.loop-v in
      let told = tells l.v _ (record { least = omega arith; most = omega arith }) c.check.ensures in
      fine_next fault l.v (omega arith) (l.invariant.1 fault tells) (c.is_ok-all.ensures.value ∙ passes _ told) ∙ ap (all_fine fault) (omega arith),
)

pub returns : goal.returns
returns g c = λ fault tells.
    let l = c.loop-v in
    elim c.loop-v-test.branch [
      | else-loop-v-test w ↦ w.all-is ∙ l.invariant.1 fault tells ∙ ap (all_fine fault) (omega arith)
      | then-loop-v-test+else-v-n w ↦
          let told = tells l.v _ (record { least = omega arith; most = omega arith }) w.check.ensures in
          w.all-is ∙ fine_next fault l.v (omega arith) (l.invariant.1 fault tells) (w.is_ok-all.ensures.value ∙ passes _ told) ∙ ap (all_fine fault) (omega arith)
    ]
