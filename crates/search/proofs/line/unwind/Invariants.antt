use Rattle.std.proofs.Common.{reverse, length}
use Rattle.search.proofs.Unwinding.{Drawing}
use Rattle.search.proofs.line.unwind.Given as goal

abbrev pub invariant-loop-number : goal.invariant-loop-number
invariant-loop-number l = Drawing l.sheet.slots.now (reverse l.order) l.target l.needed l.line l.initial.line l.len (length l.yielded)
