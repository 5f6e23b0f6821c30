-- The words of a line, read by their index.
use Rattle.std.specs.Prelude.{ℕ, cond, List, [], length, Ok, Err, Result, nat_lt, slice_index_or}
use Rattle.std.specs.Borrow.{Bor}
use Rattle.desk.specs.declared.fault.Fault.{Fault}
use Rattle.desk.specs.declared.fault.Field.{Field}
use Rattle.desk.specs.declared.fault.Kind.{Kind}
use Rattle.desk.specs.declared.fault.Kind.TheVariants.{Missing, NotANumber, TooLarge, Superfluous}
use Rattle.desk.specs.declared.number.Wrong.{Wrong}
use Rattle.desk.specs.declared.number.Wrong.TheVariants.{Form, Large}
use Rattle.desk.specs.Numbers.{number}

-- The word at an index.
abbrev pub word_at : List (List ℕ) → ℕ → Field → Result (List ℕ) Fault
word_at words i field = cond (nat_lt i (length words)) (Ok (slice_index_or words i [])) (Err (record { index = i; kind = Missing field }))

-- An answered word, as its bytes.
abbrev pub seen : Result (Bor (List ℕ)) Fault → Result (List ℕ) Fault
seen (Ok w) = Ok w.now
seen (Err e) = Err e

-- What a word that is not the number wanted is told as.
abbrev pub wrong_kind : Wrong → Field → ℕ → Kind
wrong_kind Form field limit = NotANumber field
wrong_kind Large field limit = TooLarge field limit

abbrev pub told : ℕ → Field → ℕ → Result ℕ Wrong → Result ℕ Fault
told i field limit (Ok n) = Ok n
told i field limit (Err w) = Err (record { index = i; kind = wrong_kind w field limit })

-- The number at an index, at most the limit.
abbrev pub number_at : List (List ℕ) → ℕ → Field → ℕ → Result ℕ Fault
number_at words i field limit =
    cond (nat_lt i (length words)) (told i field limit (number (slice_index_or words i []) limit))
    (Err (record { index = i; kind = Missing field }))

-- That a line of so many words has none at an end or beyond it.
abbrev pub ended : ℕ → ℕ → Result (Unit {0}) Fault
ended words end = cond (nat_lt end words) (Err (record { index = end; kind = Superfluous })) (Ok tt)
