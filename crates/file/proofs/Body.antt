-- A body, one fact at a time.
use Rattle.std.proofs.Common.{◌≡◌, ℕ, suc, ◌+◌, ◌-◌, ◌<◌, List, ◌++◌, length, take, set, Ok, Result, arith}
use Rattle.std.proofs.lemmas.List.{append_assoc, take_more_set}
use Rattle.file.specs.declared.fault.Field.TheVariants as field
use Rattle.file.specs.Faults.{Report, mapped}
use Rattle.file.specs.Number.{short}
use Rattle.file.specs.Rules.{taken, body}

-- a body of which the first facts are read already
abbrev pub onto : List ℕ → Result (List ℕ × List ℕ) Report → Result (List ℕ × List ℕ) Report
onto xs r = mapped (λ q. (xs ++ q.0, q.1)) r

pub body_more : (size i m : ℕ) (bs ws : List ℕ) (x : ℕ) (rest : List ℕ) → i < length ws → m ≡ suc (length ws - (i + 1)) → Ok (x, rest) ≡ taken field.Body short size bs →
    onto (take (i + 1) (set ws i x)) (body size (length ws - (i + 1)) rest) ≡ onto (take i ws) (body size m bs)
body_more size i m bs ws x rest h e r = grind (arith, take_more_set, append_assoc)
