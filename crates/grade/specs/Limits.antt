-- The longest input that is read.
use Rattle.std.specs.Prelude.{ℕ, cond, [], nat_lt}
use Rattle.sheet.specs.Refusals.{Answer, accepted, refused}

abbrev pub input_limit : ℕ
input_limit = 16384

abbrev pub input_answer : ℕ → Answer (Unit {0})
input_answer n = cond (nat_lt input_limit n) (refused 11 []) (accepted tt)
