-- The columns of a search, and the memory that they are in.
use Rattle.std.specs.Prelude.{◌≡◌, [], vec_len}
use Rattle.memory.specs.declared.columns.OwnedColumns.{OwnedColumns}
use Rattle.search.specs.declared.columns.Columns.{Columns}

-- The columns have room for 256 facts and 512 rules.
pub record HasRoom {W : Type 0} (c : OwnedColumns W) : Type 0 where
  pub weights : vec_len c.weights ≡ 256
  pub reasons : vec_len c.reasons ≡ 256
  pub line : vec_len c.line ≡ 256
  pub queue : vec_len c.queue ≡ 512
  pub work : vec_len c.work ≡ 3328

-- The columns have no places.
pub record HasNone {W : Type 0} (c : OwnedColumns W) : Type 0 where
  pub weights : c.weights.items ≡ []
  pub reasons : c.reasons.items ≡ []
  pub line : c.line.items ≡ []
  pub queue : c.queue.items ≡ []
  pub work : c.work.items ≡ []

-- The columns that are lent hold what is owned.
pub record Lends {W : Type 0} (owned : OwnedColumns W) (lent : Columns W) : Type 0 where
  pub weights : lent.weights.now ≡ owned.weights.items
  pub reasons : lent.reasons.now ≡ owned.reasons.items
  pub line : lent.line.now ≡ owned.line.items
  pub queue : lent.queue.now ≡ owned.queue.items
  pub work : lent.work.now ≡ owned.work.items
