-- A step of a reader: what it answers, and what it leaves of the file.
use Rattle.std.specs.Prelude.{◌≡◌, ℕ, ◌-◌, List, length, Result}
use Rattle.std.specs.Result.{result_map_both}
use Rattle.file.specs.declared.fault.Field.{Field}
use Rattle.file.specs.declared.fault.Fault.{Fault}
use Rattle.file.specs.declared.fault.Cause.{Cause}
use Rattle.file.specs.declared.reader.Reader.{Reader}
use Rattle.file.specs.Faults.{placed_at}

-- The answer and the bytes left are what `take` gives of the bytes before. The size of the file stays.
pub record Reads {A E F : Type 0} (told : E → F) (take : List ℕ → Result (A × List ℕ) F) (r : Reader) (res : Result A E) (r' : Reader) : Type 0 where
  pub answered : result_map_both (λ x. (x, r'.left.now)) told res ≡ take r.left.now
  pub size : r'.size ≡ r.size

-- The place of the first byte left.
abbrev pub place_of : Reader → ℕ
place_of r = r.size - length r.left.now

-- The answer is what a call gave, with the field and the place where it begins.
pub record ReadsField {A : Type 0} (call : Reader → Result A Cause → Reader → Type 0) (f : Field) (r : Reader) (res : Result A Fault) (r' : Reader) : Type 0 where
  pub got : Result A Cause
  pub called : call r got r'
  pub placed : res ≡ placed_at f (place_of r) got
