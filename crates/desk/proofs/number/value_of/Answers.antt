use Rattle.std.proofs.Common.{◌≡◌, ◌-◌, ◌^◌, fold, rules, ◌∙◌}
use Rattle.std.proofs.iter.runs.Made.{chains}
use Rattle.desk.proofs.Digits.{stopped, stopped_value}
use Rattle.desk.proofs.number.value_of.Goals as goal

pub returns : goal.returns
returns c =
    let folded : c.fold.result ≡ fold (stopped (2 ^ 64 - 1)) 0 c.args.word.now = search (rules, chains) in
    folded ∙ stopped_value (2 ^ 64 - 1) 0 c.args.word.now
