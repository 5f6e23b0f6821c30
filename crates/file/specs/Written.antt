-- A file from the other side: how a header and rules are written, and what that has to do with reading.
use Rattle.std.specs.Prelude.{◌≡◌, ℕ, ◌+◌, ◌/◌, ◌%◌, ◌≤◌, List, [], ◌∷◌, ◌++◌, length, Ok, Err, Result, nat_lt, if◌then◌else◌}
use Rattle.std.specs.List.{flat_map, AllByRecursion}
use Rattle.sheet.specs.Slots.{Slot, count, free}
use Rattle.file.specs.declared.header.Header.{Header}
use Rattle.file.specs.Faults.{Report}
use Rattle.file.specs.Rules.{Entry}
use Rattle.file.specs.Limits.{Within}
use Rattle.file.specs.Entering.{entered}

-- The shortest form of a number: its groups of seven bits, lowest first, with 128 added to all but the last.
unfoldable pub spelled : ℕ → List ℕ
spelled n =
    if nat_lt n 128 then n ∷ []
    else if nat_lt n 16384 then (128 + n % 128) ∷ (n / 128) ∷ []
    else (128 + n % 128) ∷ (128 + n / 128 % 128) ∷ (n / 128 / 128) ∷ []

abbrev pub written_rule : Entry → List ℕ
written_rule e = spelled e.head ++ (spelled (length e.body) ++ (flat_map spelled e.body ++ spelled e.cost))

abbrev pub written : Header → List Entry → List ℕ
written h es = spelled h.facts ++ (spelled h.target ++ (spelled (length es) ++ flat_map written_rule es))

-- What can be read into these slots: no rules are entered there, every number is within its limit, and there is room.
pub record Fits (xs : List Slot) (h : Header) (es : List Entry) : Type 0 where
  pub new : count xs ≡ 0
  pub facts : h.facts ≤ 65535
  pub target : h.target ≤ 65535
  pub within : AllByRecursion Within es
  pub room : length es ≤ free xs

-- Reading undoes writing, and accepts nothing else: a file is accepted exactly where it is what is written for some
-- header and rules that fit, and then these are answered and entered; a refused file enters nothing.
pub record Faithful (bs : List ℕ) (xs ys : List Slot) (r : Result Header Report) : Type 0 where
  pub reads : (h : Header) (es : List Entry) → Fits xs h es → bs ≡ written h es → (r ≡ Ok h) × (ys ≡ entered es xs)
  pub only : (h : Header) → r ≡ Ok h → (es : List Entry) × Fits xs h es × (bs ≡ written h es) × (ys ≡ entered es xs)
  pub keeps : (e : Report) → r ≡ Err e → ys ≡ xs
