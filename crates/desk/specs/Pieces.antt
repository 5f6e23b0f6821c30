-- The pieces of a text between separators, and the words of a line.
use Rattle.std.specs.Prelude.{ℕ, List, length, not, filter, ◌==◌}
use Rattle.std.specs.List.{slice_split}

-- The pieces: one more than there are separators, and some may be empty.
abbrev pub pieces : ℕ → List ℕ → List (List ℕ)
pieces separator = slice_split (λ b. b == separator)

-- Those that are not empty.
abbrev pub filled : List (List ℕ) → List (List ℕ)
filled = filter (λ p. not (length p == 0))

-- The words of a line, which are parted by spaces.
abbrev pub words_of : List ℕ → List (List ℕ)
words_of line = filled (pieces 32 line)
