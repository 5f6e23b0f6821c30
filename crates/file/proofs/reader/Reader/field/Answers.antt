use Rattle.std.proofs.Common.{rules}
use Rattle.file.proofs.reader.Reader.field.Goals as goal

pub returns : goal.returns
returns g c = record { got = c.take.result; called = search rules; placed = search rules }
