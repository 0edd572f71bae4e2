-- A map has no fault exactly if it is valid. Assumes nothing.
use mathlib.Core.Path.{◌≡◌}
use mathlib.Core.List.{List}
use Prim.Native.Nat.{ℕ, ◌*◌}
use native.Mathlib.Omega.{arith}
use lib.ListN.{length}
use Rattle.limits.proofs.Laws.{or_else_none, none_or_else, first_none, none_first, outside_none, none_outside, room_none, none_room}
use Rattle.map.specs.Map.{tail, head, cost, Link, Valid, ends_fault, link_fault, counts_fault, map_fault}

module _ (n : ℕ) (map : List ℕ) (k : ℕ) where
  link_valid : link_fault n map k ≡ 0 → Link n map k
  unfolding link_fault ends_fault
  link_valid h =
      let a = or_else_none _ _ h in
      let b = or_else_none _ _ a.0 in
      record {
        tail_in = outside_none 1 n 4 (tail map k) (λ z. omega arith) b.0;
        head_in = outside_none 1 n 4 (head map k) (λ z. omega arith) b.1;
        cost_in = outside_none 1 65535 5 (cost map k) (λ z. omega arith) a.1;
      }

  valid_link : Link n map k → link_fault n map k ≡ 0
  unfolding link_fault ends_fault
  valid_link h =
      none_or_else _ _
      (none_or_else _ _ (none_outside 1 n 4 (tail map k) h.tail_in) (none_outside 1 n 4 (head map k) h.head_in))
      (none_outside 1 65535 5 (cost map k) h.cost_in)

module _ (n m : ℕ) (map : List ℕ) where
  pub fault_valid : map_fault n m map ≡ 0 → Valid n m map
  unfolding map_fault counts_fault
  fault_valid h =
      let a = or_else_none _ _ h in
      let b = or_else_none _ _ a.0 in
      let c = or_else_none _ _ a.1 in
      record {
        n_in = outside_none 1 4096 2 n (λ z. omega arith) b.0;
        m_in = (outside_none 0 16384 2 m (λ z. omega arith) b.1).most;
        room = room_none (3 * m) (length map) c.0;
        links = λ k i. link_valid n map k (first_none (link_fault n map) 1 m c.1 k i.least (omega (arith, i.most)));
      }

  pub valid_fault : Valid n m map → map_fault n m map ≡ 0
  unfolding map_fault counts_fault
  valid_fault v =
      none_or_else _ _
      (none_or_else _ _ (none_outside 1 4096 2 n v.n_in) (none_outside 0 16384 2 m (record { least = omega arith; most = v.m_in })))
      (none_or_else _ _ (none_room (3 * m) (length map) v.room) (none_first (link_fault n map) 1 m (λ k a b. valid_link n map k (v.links k (record { least = a; most = omega arith })))))
