use Rattle.std.proofs.Common.{◌≡◌, ◌∙◌, Ok, Err, arith, rules}
use Rattle.std.proofs.lemmas.List.{set-get_or}
use Rattle.std.specs.Prelude.{None}
use Rattle.file.specs.Faults.{report_of}
use Rattle.file.specs.Rules.{as_rule, rule}
use Rattle.file.proofs.Filled.{entering, passing, stopped, at_end}
use Rattle.file.proofs.fill.fill.Goals as goal
use Rattle.file.proofs.fill.fill.Goals.{then-is_none+in-Ok, else-is_none}

pub returns-in_default : goal.returns-in_default
returns-in_default c = λ es h.
    let l = c.loop-slot in
    let got : Err (report_of c.in_default.field-0) ≡ as_rule (rule c.args.reader.size l.reader.left.now) = search rules in
    set-get_or l.slots l.slot-index None ∙ stopped _ _ _ _ _ (l.invariant.1 es h) _ got

pub loop-slot-preserved : goal.loop-slot-preserved
loop-slot-preserved c =
    let l = c.loop-slot in
    elim c.if-is_none.branch [
      | then-is_none+in-Ok w ↦
          let got : Ok (w.in-Ok.rule, w.take_rule.new.reader.left.now) ≡ as_rule (rule c.args.reader.size l.reader.left.now) = search rules in
          (search rules, λ es h. rw (w.slots-is, w.reader-is) (entering _ _ _ _ _ (l.invariant.1 es h) _ _ (omega arith) (search rules) got))
      | else-is_none w ↦ (search rules, λ es h. rw (w.slots-is, w.reader-is, set-get_or l.slots l.slot-index None) (passing _ _ _ _ _ (l.invariant.1 es h) (omega arith) (search rules)))
    ]

pub returns : goal.returns
returns c = λ es h. at_end _ _ _ _ _ (c.loop-slot.invariant.1 es h) (omega arith)
