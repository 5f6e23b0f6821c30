-- A list of calls is run where there are few slots and a reply for each call.
use Rattle.std.proofs.Common.{◌≡◌, ℕ, ◌≤◌, Result, Ok, Err, IsOk, rules}
use Rattle.std.proofs.lemmas.Bool.{le-ltb}
use Rattle.replay.specs.Run.{start_answer}
use Rattle.sheet.specs.Refusals.{answer, accepted}
use Rattle.sheet.specs.declared.refusal.Refusal.{Refusal}

pub runs_accepted : (r : Result (Unit {0}) Refusal) (slots calls replies : ℕ) → answer r ≡ start_answer slots calls replies → slots ≤ 16000 → calls ≤ replies → IsOk r
runs_accepted (Ok x) slots calls replies e few room = search rules
runs_accepted (Err x) slots calls replies e few room =
    let begun : start_answer slots calls replies ≡ accepted tt = simp (le-ltb 16000 slots few, le-ltb replies calls room) in
    absurd cc
