-- Places of bodies, and the chain of the places that name a fact.
-- Place p is the one with index p % 4 in the body of rule p / 4.
use Rattle.std.specs.Prelude.{◌≡◌, ℕ, zero, suc, ◌+◌, ◌/◌, ◌%◌, ◌<◌, Bool, true, cond, not, ◌&&◌, List, length, ◌==◌, nat_lt, slice_index}
use Rattle.sheet.specs.Slots.{Slot}
use Rattle.sheet.specs.declared.rule.Rule.{Rule}
use Rattle.sheet.specs.Rules.{body_of}
use Rattle.sheet.specs.Slots.{rule_at}

-- Whether a place of a rule's body names the fact f; no place of a struck rule does.
abbrev pub names : Rule → ℕ → ℕ → Bool
names r i f = not r.struck && (nat_lt i (length (body_of r)) && slice_index (body_of r) i == f)

unfoldable pub holds : List Slot → ℕ → ℕ → Bool
holds xs f p = names (rule_at xs (p / 4)) (p % 4) f

-- The last place below p that names f: 0 for none, or the place + 1.
abbrev pub last_below : List Slot → ℕ → ℕ → ℕ
last_below xs f zero = 0
last_below xs f (suc p) = cond (holds xs f p) (suc p) (last_below xs f p)

-- The places below n are chained: each fact has the last of them that names it, and each place the one before it.
pub record Chained (xs : List Slot) (heads next : List ℕ) (n : ℕ) : Type 0 where
  pub heads_at : (f : ℕ) → f < length heads → slice_index heads f ≡ last_below xs f n
  pub next_at : (p f : ℕ) → p < n → holds xs f p ≡ true → slice_index next p ≡ last_below xs f p

-- How many places below p belong to rule r and name f.
abbrev pub uses : List Slot → ℕ → ℕ → ℕ → ℕ
uses xs f r zero = 0
uses xs f r (suc p) = uses xs f r p + cond (holds xs f p && p / 4 == r) 1 0
