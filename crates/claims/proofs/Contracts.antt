-- What the table of promises says of each public call is what its contract says, as the checker reads it: nothing is asked of the arguments, and
-- what is ensured of the answer and of the memory at exit is the promise. The arguments a and what is left at exit e stand in the order of
-- the parameters. The checker has no such reading of a contract over a reader; there the clauses themselves are the promise. Assumes nothing.
use lib.ListN.{length}
use seplogic.Ra.Ura.{Ura}
use base.Logic.{SProp, emp}
use prog.Memory.{Memory}
use prog.Routine.{Routine}
use types.Logic.{Logic}
use contract.Monad.{Fun, fact}
use Rattle.map.specs.declared.Side.TheVariants.{Forward, Backward}
use Rattle.text.proofs.read.Reads as reading
use Rattle.text.specs.contracts.begin as beginning
use Rattle.text.specs.contracts.line_here as telling
use Rattle.text.specs.contracts.past_line as passing
use Rattle.text.specs.contracts.read_on as reading-on
use Rattle.map.proofs.check.Reads as judging
use Rattle.bench.proofs.open_bench.Reads as opening
use Rattle.bench.proofs.take_turn.Reads as taking
use Rattle.bench.proofs.forward.Reads as going
use Rattle.bench.proofs.backward.Reads as coming
use Rattle.bench.proofs.area.Reads as masking
use Rattle.bench.proofs.fill_route.Reads as filling
use Rattle.bench.proofs.route.Reads as handing
use Rattle.bench.proofs.route_refusal.Reads as asking
use Rattle.sankayop.proofs.sankayop_read.Reads as c-reading
use Rattle.sankayop.proofs.sankayop_open.Reads as c-opening
use Rattle.sankayop.proofs.sankayop_forward.Reads as c-going
use Rattle.sankayop.proofs.sankayop_backward.Reads as c-coming
use Rattle.sankayop.proofs.sankayop_area.Reads as c-masking
use Rattle.sankayop.proofs.sankayop_route.Reads as c-filling
use Rattle.claims.proofs.mixture.Reads as mixing
use Rattle.limits.specs.Refusals.{fault_of}
use Rattle.text.specs.Text.{said}
use Rattle.map.specs.Map.{map_fault}
use Rattle.area.specs.Finished.{route_fault}
use Rattle.bench.specs.Calls.{said_opening, said_turn}
use Rattle.bench.specs.Areas.{said_filling}
use Rattle.bench.specs.Routes.{said_routing}
use mathlib.Core.Path.{◌≡◌, refl}
use Rattle.claims.specs.Promises.{Read, Begin, TellLine, PassLine, ReadOn, Open, TakeTurn, FillMask, FillRoute, HandRoute, Mix, ReadPacked, OpenPacked, TurnPacked, MaskPacked, RoutePacked}

pub read_contract : (κs : _) (a : _) → reading.Pre κs a × ((r : _) (e : _) → reading.Post κs a r e → Read a.0.now a.1.0.now (said r) e.1.0.now)
read_contract κs a = (tt, λ r e p. p)

pub check_contract : (κs : _) (a : _) → judging.Pre κs a × ((r : _) (e : _) → judging.Post κs a r e → fault_of r ≡ map_fault a.1.0 a.1.1.0 a.0.now)
check_contract κs a = (tt, λ r e p. p)

pub open_contract : (κs : _) (a : _)
    → opening.Pre κs a
    × ((r : _) (e : _) → opening.Post κs a r e
    → Open a.0.now a.1.0 a.1.1.0 a.1.1.1.0 a.1.1.1.1.0 a.1.1.1.1.1.0 a.1.1.1.1.1.1.0.now (said_opening r) e.1.1.1.1.1.1.0.now)
open_contract κs a = (tt, λ r e p. p)

pub turn_contract : (κs : _) (a : _)
    → taking.Pre κs a × ((r : _) (e : _) → taking.Post κs a r e → TakeTurn a.1.1.1.0 a.0.now a.1.0 a.1.1.0 a.1.1.1.1.0.now (said_turn r) e.1.1.1.1.0.now)
turn_contract κs a = (tt, λ r e p. p)

pub forward_contract : (κs : _) (a : _)
    → going.Pre κs a × ((r : _) (e : _) → going.Post κs a r e → TakeTurn Forward a.0.now a.1.0 a.1.1.0 a.1.1.1.0.now (said_turn r) e.1.1.1.0.now)
forward_contract κs a = (tt, λ r e p. p)

pub backward_contract : (κs : _) (a : _)
    → coming.Pre κs a × ((r : _) (e : _) → coming.Post κs a r e → TakeTurn Backward a.0.now a.1.0 a.1.1.0 a.1.1.1.0.now (said_turn r) e.1.1.1.0.now)
backward_contract κs a = (tt, λ r e p. p)

pub area_contract : (κs : _) (a : _)
    → masking.Pre κs a
    × ((r : _) (e : _) → masking.Post κs a r e
    → FillMask a.0.now a.1.0 a.1.1.0 a.1.1.1.0.now a.1.1.1.1.0 a.1.1.1.1.1.0.now (said_filling r) e.1.1.1.1.1.0.now)
area_contract κs a = (tt, λ r e p. p)

pub fill_contract : (κs : _) (a : _)
    → filling.Pre κs a
    × ((r : _) (e : _) → filling.Post κs a r e
    → FillRoute a.0.now a.1.0 a.1.1.0 a.1.1.1.0.now a.1.1.1.1.0 a.1.1.1.1.1.0.now (said_routing r) e.1.1.1.1.1.0.now)
fill_contract κs a = (tt, λ r e p. p)

pub route_contract : (κs : _) (a : _)
    → handing.Pre κs a
    × ((r : _) (e : _) → handing.Post κs a r e
    → HandRoute a.0.now a.1.0 a.1.1.0 a.1.1.1.0.now a.1.1.1.1.0 a.1.1.1.1.1.0.now a.1.1.1.1.1.0.ref_ptr r.now r.ref_ptr)
route_contract κs a = (tt, λ r e p. p)

pub refusal_contract : (κs : _) (a : _)
    → asking.Pre κs a
    × ((r : _) (e : _) → asking.Post κs a r e
    → fault_of r ≡ route_fault a.0.now a.1.0 a.1.1.0 a.1.1.1.0.now a.1.1.1.1.0 (length a.1.1.1.1.1.0.now))
refusal_contract κs a = (tt, λ r e p. p)

pub mixture_contract : (κs : _) (a : _)
    → mixing.Pre κs a
    × ((r : _) (e : _) → mixing.Post κs a r e
    → Mix a.0.now a.1.0 a.1.1.0 a.1.1.1.0 a.1.1.1.1.0 a.1.1.1.1.1.0 a.1.1.1.1.1.1.1.0.now a.1.1.1.1.1.1.0.now (said_opening r)
    e.1.1.1.1.1.1.0.now)
mixture_contract κs a = (tt, λ r e p. p)

-- ---- the calls over a reader

module _ {M : Type 1} {𝓤 : Ura M} (𝓛 : Logic 𝓤) (mem : Memory → SProp 𝓤) (run : Routine → Fun 𝓤) where
  pub begin_contract : (κs : _) (a : _) (r : _) (e : _)
      → ((beginning.clauses 𝓛 mem run κs a).requires tt ≡ emp 𝓤) × ((beginning.clauses 𝓛 mem run κs a).ensures tt r e ≡ fact 𝓤 (Begin a.0 r))
  begin_contract κs a r e = (refl, refl)

  pub line_here_contract : (κs : _) (a : _) (r : _) (e : _)
      → ((telling.clauses 𝓛 mem run κs a).requires tt ≡ emp 𝓤) × ((telling.clauses 𝓛 mem run κs a).ensures tt r e ≡ fact 𝓤 (TellLine a.0 r))
  line_here_contract κs a r e = (refl, refl)

  pub past_line_contract : (κs : _) (a : _) (r : _) (e : _)
      → ((passing.clauses 𝓛 mem run κs a).requires tt ≡ emp 𝓤) × ((passing.clauses 𝓛 mem run κs a).ensures tt r e ≡ fact 𝓤 (PassLine a.0 r))
  past_line_contract κs a r e = (refl, refl)

  pub read_on_contract : (κs : _) (a : _) (r : _) (e : _)
      → ((reading-on.clauses 𝓛 mem run κs a).requires tt ≡ emp 𝓤)
      × ((reading-on.clauses 𝓛 mem run κs a).ensures tt r e ≡ fact 𝓤 (ReadOn a.0 a.1.0.now (said r) e.1.0.now))
  read_on_contract κs a r e = (refl, refl)

-- ---- the C interface

pub c_read_contract : (κs : _) (a : _)
    → c-reading.Pre κs a × ((r : _) (e : _) → c-reading.Post κs a r e → ReadPacked a.0.now a.1.0.now r e.1.0.now)
c_read_contract κs a = (tt, λ r e p. p)

pub c_open_contract : (κs : _) (a : _)
    → c-opening.Pre κs a
    × ((r : _) (e : _) → c-opening.Post κs a r e
    → OpenPacked a.0.now a.1.0 a.1.1.0 a.1.1.1.0 a.1.1.1.1.0 a.1.1.1.1.1.0 a.1.1.1.1.1.1.0.now r e.1.1.1.1.1.1.0.now)
c_open_contract κs a = (tt, λ r e p. p)

pub c_forward_contract : (κs : _) (a : _)
    → c-going.Pre κs a × ((r : _) (e : _) → c-going.Post κs a r e → TurnPacked Forward a.0.now a.1.0 a.1.1.0 a.1.1.1.0.now r e.1.1.1.0.now)
c_forward_contract κs a = (tt, λ r e p. p)

pub c_backward_contract : (κs : _) (a : _)
    → c-coming.Pre κs a × ((r : _) (e : _) → c-coming.Post κs a r e → TurnPacked Backward a.0.now a.1.0 a.1.1.0 a.1.1.1.0.now r e.1.1.1.0.now)
c_backward_contract κs a = (tt, λ r e p. p)

pub c_area_contract : (κs : _) (a : _)
    → c-masking.Pre κs a
    × ((r : _) (e : _) → c-masking.Post κs a r e
    → MaskPacked a.0.now a.1.0 a.1.1.0 a.1.1.1.0.now a.1.1.1.1.0 a.1.1.1.1.1.0.now r e.1.1.1.1.1.0.now)
c_area_contract κs a = (tt, λ r e p. p)

pub c_route_contract : (κs : _) (a : _)
    → c-filling.Pre κs a
    × ((r : _) (e : _) → c-filling.Post κs a r e
    → RoutePacked a.0.now a.1.0 a.1.1.0 a.1.1.1.0.now a.1.1.1.1.0 a.1.1.1.1.1.0.now r e.1.1.1.1.1.0.now)
c_route_contract κs a = (tt, λ r e p. p)
