-- Folding, step by step.
use Rattle.std.proofs.Common.{◌≡◌, ℕ, ◌+◌, ◌<◌, ◌≤◌, List, map, length, get_or, set, sym, ap, ◌∙◌, arith, length-take}
use lib.ListN.{length-map}
use Rattle.std.proofs.lemmas.Grind.{common_steps}
use Rattle.std.proofs.lemmas.List.Sums.{length-filter}
use Rattle.std.specs.Prelude.{is_none, None}
use lib.Seq.{paste}
use Rattle.std.proofs.lemmas.List.{get_or-map}
use Rattle.std.proofs.lemmas.List.Edits.{paste_more}
use Rattle.sheet.specs.Slots.{Slot, used, free}

-- one slot more
module _ (f : Slot → Slot) (xs ys zs : List Slot) (i : ℕ) (e : zs ≡ paste ys 0 (map f xs) i) where
  pub slots_more : i < length xs → i < length ys → set zs i (f (get_or xs i None)) ≡ paste ys 0 (map f xs) (i + 1)
  slots_more hx hy =
      ap (λ l. set l i (f (get_or xs i None))) e
      ∙ ap (set (paste ys 0 (map f xs) i) i) (sym (get_or-map f xs i None None hx))
      ∙ ap (λ (k : ℕ). set (paste ys 0 (map f xs) i) k (get_or (map f xs) i None)) (omega arith)
      ∙ paste_more ys 0 (map f xs) i None (omega arith) (omega (arith, length-map xs f))

-- no more slots are free than there are
pub free_bound : (xs : List Slot) → free xs ≤ length xs
unfolding free
free_bound xs = grind (arith, common_steps, length-filter is_none (used xs), length-take 16000 xs)
