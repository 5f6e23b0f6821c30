-- The value of digits, where sums and products stop at a largest number.
use Rattle.std.proofs.Common.{◌≡◌, ℕ, ◌+◌, ◌-◌, ◌*◌, min, List, [], ◌∷◌, fold, refl, ap, ◌∙◌, arith}
use Rattle.desk.specs.Numbers.{value_after}

-- A digit more, where both steps stop at m.
abbrev pub stopped : ℕ → ℕ → ℕ → ℕ
stopped m n b = min (min (n * 10) m + (b - 48)) m

step : (m n b : ℕ) → stopped m (min n m) b ≡ min (n * 10 + (b - 48)) m
step m n b = omega arith

pub stopped_value : (m n : ℕ) (bs : List ℕ) → fold (stopped m) (min n m) bs ≡ min (value_after n bs) m
stopped_value m n [] = refl
stopped_value m n (b ∷ bs) = ap (λ k. fold (stopped m) k bs) (step m n b) ∙ stopped_value m (n * 10 + (b - 48)) bs
