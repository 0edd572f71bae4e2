-- `claims::mixture` meets its contract: it is refused as opening is, else the words are those of the bench at the two counts. Assumes nothing.
use Rattle.std.proofs.Common.{sym}
use Rattle.demands.proofs.Calls.{mixture_goes, mixture_refused}
use Rattle.claims.proofs.mixture.Goals as goal

pub returns-in_err-open_bench-clause-bench : goal.returns-in_err-open_bench-clause-bench
returns-in_err-open_bench-clause-bench c = mixture_refused _ _ _ _ _ _ _ (sym c.in_err-open_bench.ensures.answer) _ c.open_bench.ensures.bench

pub returns-clause-bench : goal.returns-clause-bench
returns-clause-bench c = mixture_goes _ _ _ _ _ _ _ (sym c.in_ok-open_bench.ensures.answer) _ c.open_bench.ensures.bench c.take_turns.ensures
