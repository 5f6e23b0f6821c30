-- Worked examples of the format.
use Rattle.std.specs.Prelude.{◌≡◌, ℕ, List, [], ◌∷◌, ◌++◌, replicate, None, Some, Ok, Err, Result}
use Rattle.sheet.specs.Slots.{Slot}
use Rattle.file.specs.declared.fault.Field.TheVariants as field
use Rattle.file.specs.declared.header.Header.{Header}
use Rattle.file.specs.Faults.{Report, reason, report, in_sheet, cut, malformed, tail}
use Rattle.file.specs.Number.{number}
use Rattle.file.specs.Rules.{Entry, rule_of}
use Rattle.file.specs.Entering.{read_answer, read_slots}
use Rattle.file.specs.Written.{written}

pub record Numbers : Type 0 where
  pub two_bytes : number (0x80 ∷ 0x01 ∷ []) ≡ Ok (128, [])
  pub three_bytes : number (0xC0 ∷ 0x84 ∷ 0x3D ∷ 0x05 ∷ []) ≡ Ok (1000000, 0x05 ∷ [])
  pub largest : number (0xFF ∷ 0xFF ∷ 0x7F ∷ []) ≡ Ok (2097151, [])
  pub nothing : number [] ≡ Err cut
  pub one_cut : number (0x81 ∷ []) ≡ Err cut
  pub two_cut : number (0x81 ∷ 0x80 ∷ []) ≡ Err cut
  pub idle_second : number (0x81 ∷ 0x00 ∷ []) ≡ Err malformed
  pub idle_third : number (0x81 ∷ 0x80 ∷ 0x00 ∷ []) ≡ Err malformed
  pub no_end : number (0x81 ∷ 0x80 ∷ 0x80 ∷ []) ≡ Err malformed

abbrev entry : ℕ → List ℕ → ℕ → Entry
entry h b c = record { head = h; body = b; cost = c }

-- Five facts, target 4, seven rules.
abbrev pub sample_header : Header
sample_header = record { facts = 5; target = 4 }

abbrev pub sample_rules : List Entry
sample_rules =
    entry 0 [] 4 ∷ entry 1 [] 9 ∷ entry 1 (0 ∷ []) 3 ∷ entry 2 (0 ∷ 1 ∷ []) 2 ∷ entry 3 (2 ∷ []) 6 ∷ entry 3 (1 ∷ 1 ∷ []) 1 ∷ entry 4 (3 ∷ 2 ∷ []) 0 ∷ []

abbrev pub sample : List ℕ
sample =
    5 ∷ 4 ∷ 7 ∷ 0 ∷ 0 ∷ 4 ∷ 1 ∷ 0 ∷ 9 ∷ 1 ∷ 1 ∷ 0 ∷ 3 ∷ 2 ∷ 2 ∷ 0 ∷ 1 ∷ 2 ∷ 3 ∷ 1 ∷ 2 ∷ 6 ∷ 3 ∷ 2 ∷ 1 ∷ 1 ∷ 1 ∷ 4 ∷ 2 ∷ 3 ∷ 2 ∷ 0 ∷ []

abbrev room : ℕ → List Slot
room n = replicate n None

-- the answer to bytes that are read into n empty slots
abbrev read_into : ℕ → List ℕ → Result Header Report
read_into n bs = read_answer bs (room n)

pub record Files : Type 0 where
  pub written_so : written sample_header sample_rules ≡ sample
  pub read_so : read_into 7 sample ≡ Ok sample_header
  pub entered_so : read_slots (1 ∷ 0 ∷ 1 ∷ 0 ∷ 1 ∷ 0 ∷ 3 ∷ []) (room 2) ≡ Some (rule_of (entry 0 (0 ∷ []) 3)) ∷ None ∷ []
  pub no_bytes : read_into 7 [] ≡ Err (report cut field.Facts 0)
  pub no_rules : read_into 7 (5 ∷ 4 ∷ []) ≡ Err (report cut field.Rules 2)
  pub no_room : read_into 6 sample ≡ Err (report (reason in_sheet 7 []) field.Rules 2)
  pub used : read_answer sample (Some (rule_of (entry 0 [] 4)) ∷ []) ≡ Err (report (reason in_sheet 4 []) field.Facts 0)
  pub long_body : read_into 7 (5 ∷ 4 ∷ 1 ∷ 0 ∷ 5 ∷ []) ≡ Err (report (reason in_sheet 5 []) field.Arity 4)
  pub dear : read_into 7 (5 ∷ 4 ∷ 1 ∷ 0 ∷ 0 ∷ 0xC1 ∷ 0x84 ∷ 0x3D ∷ []) ≡ Err (report (reason in_sheet 6 []) field.Cost 5)
  pub wide : read_into 7 (5 ∷ 4 ∷ 1 ∷ 0 ∷ 1 ∷ 0x80 ∷ 0x80 ∷ 0x04 ∷ 0 ∷ []) ≡ Err (report malformed field.Body 5)
  pub over : read_into 7 (sample ++ (0 ∷ [])) ≡ Err (report tail field.Tail 32)
