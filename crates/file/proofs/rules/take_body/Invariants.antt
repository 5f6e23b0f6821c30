use Rattle.std.proofs.Common.{◌≡◌, ◌-◌, length, take}
use Rattle.file.specs.Rules.{body}
use Rattle.file.proofs.Body.{onto}
use Rattle.file.proofs.rules.take_body.Given as goal

abbrev pub invariant-loop-fact : goal.invariant-loop-fact
invariant-loop-fact l =
    (l.reader.size ≡ l.initial.reader.size) ×
    (onto (take l.fact-index l.body) (body l.initial.reader.size (length l.body - l.fact-index) l.reader.left.now) ≡ body l.initial.reader.size (length l.body) l.initial.reader.left.now)
