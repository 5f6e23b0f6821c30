use Rattle.std.proofs.Common.{length}
use Rattle.replay.specs.Run.{lengths_of, board_of, ColumnsLeft}
use Rattle.replay.proofs.Running.{Going}
use Rattle.replay.proofs.run.make_calls.Given as goal

abbrev pub invariant-loop-i : goal.invariant-loop-i
invariant-loop-i g l = record {
  going : Going g.W.Measure.ops (lengths_of l.initial.columns) g.G.Guide.floor g.G.Guide.rest (board_of l.initial.slots l.initial.columns) l.calls l.initial.replies l.i (board_of l.slots l.columns) l.replies;
  columns : ColumnsLeft (length l.initial.slots) l.initial.columns l.columns;
}
