-- The words of a line, read in order.
use Rattle.std.specs.Prelude.{◌≡◌, ℕ, ◌+◌, List, map, Result, MatchResult}
use Rattle.desk.specs.declared.words.Words.{Words}

-- The words, as their bytes.
abbrev pub texts : Words → List (List ℕ)
texts w = map (λ x. x.now) w.list.now

-- Where the next word is answered, the one behind it is next. After a fault the words are the same, and the index is left open.
abbrev pub MovesOn : {A E : Type 0} → Result A E → Words → Words → Type 0
MovesOn r old new = MatchResult r (λ _. new ≡ record old { index = old.index + 1 }) (λ _. new.list ≡ old.list)
