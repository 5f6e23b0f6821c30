-- An edit as a call of a list.
use Rattle.std.specs.Prelude.{◌≡◌}
use Rattle.desk.specs.declared.edit.Edit.{Edit}
use Rattle.desk.specs.declared.edit.Edit.TheVariants as edit
use Rattle.replay.specs.declared.call.Call.{Call}
use Rattle.replay.specs.declared.call.Call.TheVariants as call

-- The call makes this edit: it is of the same kind, with the same numbers.
abbrev pub Makes : {G : Type 0} → Edit → Call G → Type 0
Makes (edit.Enter h b c) (call.Enter head body cost) = (head ≡ h) × (body.now ≡ b.items) × (cost ≡ c)
Makes (edit.Enter h b c) (call.Reprice k cost) = ⊥
Makes (edit.Enter h b c) (call.Strike k) = ⊥
Makes (edit.Enter h b c) (call.Search f t g) = ⊥
Makes (edit.Reprice n c) (call.Enter head body cost) = ⊥
Makes (edit.Reprice n c) (call.Reprice k cost) = (k ≡ n) × (cost ≡ c)
Makes (edit.Reprice n c) (call.Strike k) = ⊥
Makes (edit.Reprice n c) (call.Search f t g) = ⊥
Makes (edit.Strike n) (call.Enter head body cost) = ⊥
Makes (edit.Strike n) (call.Reprice k cost) = ⊥
Makes (edit.Strike n) (call.Strike k) = k ≡ n
Makes (edit.Strike n) (call.Search f t g) = ⊥
