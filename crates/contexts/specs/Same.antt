-- The columns lent to a call are the same references after it.
use Rattle.std.specs.Prelude.{◌≡◌}
use Rattle.contexts.specs.declared.rests.ContextColumns.{ContextColumns}

pub record SameContextColumns {W : Type 0} (before left : ContextColumns W) : Type 0 where
  pub rests : left.rests.ghost_name ≡ before.rests.ghost_name
  pub queue : left.queue.ghost_name ≡ before.queue.ghost_name
  pub work : left.work.ghost_name ≡ before.work.ghost_name
