-- Joins of lists of weights.
use Rattle.std.specs.Prelude.{ℕ, zero, suc, List, [], ◌∷◌}
use Rattle.measure.specs.Ops.{Ops}

-- The join of all weights of a list; nothing where there is none.
abbrev pub joined : {W : Type 0} → Ops W → List W → W
joined m [] = m.nothing
joined m (w ∷ ws) = m.join w (joined m ws)

-- The list without the element at a place.
abbrev pub without : {A : Type 0} → List A → ℕ → List A
without [] i = []
without (x ∷ xs) zero = xs
without (x ∷ xs) (suc i) = x ∷ without xs i
