-- Faults: what is told of a file that is refused.
use Rattle.std.specs.Prelude.{ℕ, List, [], Ok, Err, Result}
use Rattle.std.specs.Borrow.{Bor}
use Rattle.sheet.specs.declared.refusal.Refusal.{Refusal}
use Rattle.sheet.specs.Refusals.{Told, number, told, Answer, accepted, refused}
use Rattle.file.specs.declared.fault.Field.{Field}
use Rattle.file.specs.declared.fault.Cause.{Cause}
use Rattle.file.specs.declared.fault.Cause.TheVariants.{Bytes, Sheet}
use Rattle.file.specs.declared.fault.Fault.{Fault}

-- Whose fault it is: of the bytes, or of the sheet that the rules were to be entered in.
pub data Source : Type 0 where
  in_bytes : Source
  in_sheet : Source

-- A reason to refuse: whose fault it is, the refusal's number, and the values told with it.
pub data Reason : Type 0 where
  reason : Source → ℕ → List Told → Reason

-- What is told of a refused file: the reason, the field, and the place of the field's first byte.
pub data Report : Type 0 where
  report : Reason → Field → ℕ → Report

-- The reader's own refusals: bytes that end too soon, a number not in its form, bytes after the last rule.
abbrev pub cut : Reason
cut = reason in_bytes 15 []

abbrev pub malformed : Reason
malformed = reason in_bytes 16 []

abbrev pub tail : Reason
tail = reason in_bytes 17 []

-- What a cause and a fault of the code stand for.
abbrev pub refusal_of : Cause → Refusal
refusal_of (Bytes e) = e
refusal_of (Sheet e) = e

abbrev pub reason_of : Cause → Reason
reason_of (Bytes e) = reason in_bytes (number e) (told e)
reason_of (Sheet e) = reason in_sheet (number e) (told e)

abbrev pub report_of : Fault → Report
report_of f = report (reason_of f.cause) f.field f.place

-- A result with its fault as it is told, and with what a reference shows.
abbrev pub heard : {A E F : Type 0} → (E → F) → Result A E → Result A F
heard f (Ok x) = Ok x
heard f (Err e) = Err (f e)

abbrev pub seen : {A E F : Type 0} → (E → F) → Result (A × Bor (List ℕ)) E → Result (A × List ℕ) F
seen f (Ok p) = Ok (p.0, p.1.now)
seen f (Err e) = Err (f e)

-- One step after another, as long as none is refused.
infixl 10 ◌>>=◌
abbrev pub ◌>>=◌ : {A B E : Type 0} → Result A E → (A → Result B E) → Result B E
(Ok x) >>= next = next x
(Err e) >>= next = Err e

abbrev pub mapped : {A B E : Type 0} → (A → B) → Result A E → Result B E
mapped f (Ok x) = Ok (f x)
mapped f (Err e) = Err e

-- The sheet's own answer, held whole.
abbrev pub says : {A : Type 0} → Answer A → Result A Reason
says (accepted x) = Ok x
says (refused n vs) = Err (reason in_sheet n vs)

-- What is read of a field at a place.
abbrev pub at_field : {A : Type 0} → Field → ℕ → Result A Reason → Result A Report
at_field f p (Ok x) = Ok x
at_field f p (Err e) = Err (report e f p)

-- The same of the code's own records.
abbrev pub placed_at : {A : Type 0} → Field → ℕ → Result A Cause → Result A Fault
placed_at f p (Ok x) = Ok x
placed_at f p (Err e) = Err (record { cause = e; field = f; place = p })
