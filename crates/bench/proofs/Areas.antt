-- The mask of an area call that is not refused. Assumes nothing.
use Rattle.std.proofs.Common.{◌≡◌, ℕ, ◌+◌, ◌≤◌, List, [], length, sym, ◌∙◌, arith}
use lib.Seq.{sets, sets-eq}
use Rattle.shape.specs.Bench.{parse}
use Rattle.route.specs.Area.{mask_of}
use Rattle.route.proofs.Masks.{mask_length}
use Rattle.area.specs.Finished.{area_fault}
use Rattle.area.proofs.Areas.{area_filled}
use Rattle.bench.specs.Areas.{area_said, area_mask}
use Rattle.bench.proofs.Laws.{passed_writes}

module _ (map : List ℕ) (n m : ℕ) (x : List ℕ) (locality : ℕ) (mask : List ℕ) (z : 0 ≡ area_fault map n m x locality (length mask)) where
  pub area_room : n ≤ length mask
  area_room = (area_filled map n m x locality (length mask) (sym z)).fits

  pub area_goes : {filled : List ℕ} → filled ≡ sets mask 0 (mask_of map locality (parse n x)) → filled ≡ area_mask map n m x locality mask
  unfolding area_mask area_said
  area_goes p =
      let f = area_filled map n m x locality (length mask) (sym z) in
      let size : length (mask_of map locality (parse n x)) ≡ n = mask_length _ _ _ _ _ _ ∙ f.ready.shaped.same_n in
      let fits : 0 + length (mask_of map locality (parse n x)) ≤ length mask = omega (arith, size, f.fits) in
      let k : 0 + length (mask_of map locality (parse n x)) ≡ n = omega (arith, size) in
      passed_writes _ [] mask _ _ z (p ∙ sets-eq (mask_of map locality (parse n x)) mask 0 fits ∙ rw k)
