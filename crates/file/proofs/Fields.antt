-- The contract of `Reader::field`, which no other crate can call or name, and that the method meets it.
use Rattle.file.proofs.reader.Reader.field.Met.{met}
use Rattle.file.proofs.reader.Reader.field.Statement.{statement}

abbrev pub FieldContract : Type 1 → Type 2
FieldContract M = statement M

pub field_meets : {M : Type 1} → FieldContract M
field_meets = met
