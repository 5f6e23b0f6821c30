-- Why there is no answer.
use Rattle.std.specs.Prelude.{Ok, Err, Result}
use Rattle.std.specs.declared.alloc.AllocError.{AllocError}
use Rattle.memory.specs.declared.failure.Failure.{Failure}
use Rattle.memory.specs.declared.failure.Failure.TheVariants.{Told, Memory}

-- What the user is told, where there was memory.
abbrev pub told_of : {E : Type 0} → Failure E → Result E AllocError
told_of (Told e) = Ok e
told_of (Memory e) = Err e
