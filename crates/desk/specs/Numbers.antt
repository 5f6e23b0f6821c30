-- Numbers as words of decimal digits.
use Rattle.std.specs.Prelude.{ℕ, ◌+◌, ◌-◌, ◌*◌, Bool, cond, List, length, fold, Ok, Err, Result, ◌==◌, nat_lt}
use Rattle.std.specs.Char.{is_ascii_digit}
use Rattle.std.specs.List.{list_all}
use Rattle.desk.specs.declared.number.Wrong.{Wrong}
use Rattle.desk.specs.declared.number.Wrong.TheVariants.{Form, Large}

-- Whether each byte is one of the digits 0 to 9, which are the bytes 48 to 57.
abbrev pub all_digits : List ℕ → Bool
all_digits = list_all is_ascii_digit

-- What digits give that follow a value.
abbrev pub value_after : ℕ → List ℕ → ℕ
value_after = fold (λ n b. n * 10 + (b - 48))

-- The value of digits.
abbrev pub value : List ℕ → ℕ
value bs = value_after 0 bs

-- A word as a number of at most this limit: one digit at least, and nothing but digits.
abbrev pub number : List ℕ → ℕ → Result ℕ Wrong
number bs limit =
    cond (length bs == 0) (Err Form)
    (cond (all_digits bs) (cond (nat_lt limit (value bs)) (Err Large) (Ok (value bs))) (Err Form))
