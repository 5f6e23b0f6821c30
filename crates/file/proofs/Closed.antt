-- The rules of a file and what follows them, one rule at a time.
use Rattle.std.proofs.Common.{◌≡◌, ℕ, zero, suc, ◌<◌, List, Ok, Err, Result, arith}
use Rattle.sheet.specs.declared.rule.Rule.{Rule}
use Rattle.file.specs.declared.fault.Field.TheVariants as field
use Rattle.file.specs.Faults.{Report, mapped}
use Rattle.file.specs.Rules.{Entry, taken, as_rule, rule}
use Rattle.file.specs.Whole.{closing, ended}

abbrev pub verdict : Result (List Entry) Report → Result (Unit {0}) Report
verdict r = mapped (λ _. tt) r

pub closing_more : (size n m : ℕ) (bs : List ℕ) (r : Rule) (rest : List ℕ) → m ≡ suc n → Ok (r, rest) ≡ as_rule (rule size bs) → verdict (closing size n rest) ≡ verdict (closing size m bs)
unfolding closing
closing_more size n m bs r rest e h = grind arith

pub closing_out : (size m : ℕ) (bs : List ℕ) (e : Report) → 0 < m → Err e ≡ as_rule (rule size bs) → verdict (closing size m bs) ≡ Err e
unfolding closing
closing_out size zero bs e k h = absurd (omega arith)
closing_out size (suc n) bs e k h = grind arith

pub closing_end : (size m : ℕ) (bs : List ℕ) → m ≡ 0 → taken field.Tail ended size bs ≡ verdict (closing size m bs)
unfolding closing
closing_end size m bs e = grind arith
