-- Replies to calls.
use Rattle.std.specs.Prelude.{Result}
use Rattle.sheet.specs.declared.refusal.Refusal.{Refusal}
use Rattle.sheet.specs.Refusals.{Answer, accepted, refused}
use Rattle.replay.specs.declared.call.Done.{Done}

-- A reply: what the call has done, or why it was refused.
abbrev pub Reply : Type 0 → Type 0
Reply W = Result (Done W) Refusal

-- An answer with another value.
abbrev pub giving : {A B : Type 0} → (A → B) → Answer A → Answer B
giving f (accepted x) = accepted (f x)
giving f (refused n vs) = refused n vs
