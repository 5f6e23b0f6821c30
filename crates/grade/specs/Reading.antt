-- What is told of a sheet file.
use Rattle.std.specs.Prelude.{Ok, Err, Result}
use Rattle.file.specs.Faults.{Report, report, reason}
use Rattle.sheet.specs.Refusals.{Answer, accepted, refused}

-- The header, or the refusal of the file's fault with what it tells.
abbrev pub sheet_answer : {A : Type 0} → Result A Report → Answer A
sheet_answer (Ok x) = accepted x
sheet_answer (Err (report (reason source n told) field place)) = refused n told
