-- The columns lent to a call are the same references after it.
use Rattle.std.specs.Prelude.{◌≡◌}
use Rattle.abstraction.specs.declared.make.GuideColumns.{GuideColumns}

pub record SameGuideColumns {W : Type 0} (before left : GuideColumns W) : Type 0 where
  pub second : left.second.ghost_name ≡ before.second.ghost_name
  pub floors : left.floors.ghost_name ≡ before.floors.ghost_name
  pub rests : left.rests.ghost_name ≡ before.rests.ghost_name
  pub reasons : left.reasons.ghost_name ≡ before.reasons.ghost_name
  pub queue : left.queue.ghost_name ≡ before.queue.ghost_name
  pub work : left.work.ghost_name ≡ before.work.ghost_name
