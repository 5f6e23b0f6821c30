-- A target that was found, as one line of text.
use Rattle.std.specs.Prelude.{ℕ, ◌++◌, List, ◌∷◌, Option, Some, None, codes, decimal}
use Rattle.std.specs.List.{flat_map}

-- Numbers, each after a space.
abbrev pub spaced : List ℕ → List ℕ
spaced = flat_map (λ n. 32 ∷ decimal n)

-- The name of the measure, the weight, the numbers of facts closed and of entries taken, and the rules of the line.
abbrev pub solution_text : List ℕ → Option (List ℕ) → ℕ → ℕ → List ℕ → Option (List ℕ)
solution_text name None closed taken line = None
solution_text name (Some weight) closed taken line = Some (name ++ codes " " ++ weight ++ codes " closed " ++ decimal closed ++ codes " taken " ++ decimal taken ++ codes " line" ++ spaced line)
