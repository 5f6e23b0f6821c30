-- Numbers and fields. A number has up to 3 bytes, each with seven of its bits, the lowest bits first; the high bit says that one more follows.
use Rattle.std.specs.Prelude.{ℕ, ◌+◌, ◌-◌, ◌*◌, ◌||◌, List, [], ◌∷◌, Ok, Err, Result, ◌==◌, nat_le, nat_lt, if◌then◌else◌}
use Rattle.sheet.specs.Slots.{Slot}
use Rattle.sheet.specs.Refusals.{Answer}
use Rattle.sheet.specs.Edits.{body_answer, cost_answer, room_answer}
use Rattle.file.specs.Faults.{Reason, cut, malformed, ◌>>=◌, says}

-- The third byte, which must end the number; `low` is what the first two give. A 0 would not be the shortest form.
abbrev pub third : ℕ → List ℕ → Result (ℕ × List ℕ) Reason
third low [] = Err cut
third low (c ∷ bs) = if c == 0 || nat_le 128 c then Err malformed else Ok (low + c * 16384, bs)

-- The second byte.
abbrev pub second : ℕ → List ℕ → Result (ℕ × List ℕ) Reason
second low [] = Err cut
second low (b ∷ bs) =
    if b == 0 then Err malformed
    else if nat_lt b 128 then Ok (low + b * 128, bs)
    else third (low + (b - 128) * 128) bs

-- A number at the front of the bytes, with the bytes after it.
unfoldable pub number : List ℕ → Result (ℕ × List ℕ) Reason
number [] = Err cut
number (a ∷ bs) = if nat_lt a 128 then Ok (a, bs) else second (a - 128) bs

-- A number of at most 65,535.
unfoldable pub short : List ℕ → Result (ℕ × List ℕ) Reason
short bs = do
  p ← number bs
  if nat_lt 65535 p.0 then Err malformed else Ok p

-- A number that the sheet then refuses, or accepts.
abbrev pub tested : (List ℕ → Result (ℕ × List ℕ) Reason) → (ℕ → Answer (Unit {0})) → List ℕ → Result (ℕ × List ℕ) Reason
tested take test bs = do
  p ← take bs
  _ ← says (test p.0)
  Ok p

-- The number of rules, for which the sheet must have room.
unfoldable pub count_field : List Slot → List ℕ → Result (ℕ × List ℕ) Reason
count_field xs bs = tested short (room_answer xs) bs

-- The length of a body.
unfoldable pub arity_field : List ℕ → Result (ℕ × List ℕ) Reason
arity_field bs = tested short body_answer bs

-- A cost.
unfoldable pub cost_field : List ℕ → Result (ℕ × List ℕ) Reason
cost_field bs = tested number cost_answer bs
