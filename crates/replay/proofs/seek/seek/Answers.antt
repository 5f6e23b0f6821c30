use Rattle.replay.proofs.Lengths.{lengths_kept}
use Rattle.replay.proofs.Seeking.{nothing_searched, used_from, queue_fits, work_fits}
use Rattle.replay.proofs.seek.seek.Goals as goal

pub returns-in_err-pass-clause-leaves : goal.returns-in_err-pass-clause-leaves
returns-in_err-pass-clause-leaves g c = nothing_searched _ _ _ _ _ _ _ _ _ c.in_err-pass.ensures.answered

pub returns-clause-columns : goal.returns-clause-columns
returns-clause-columns g c =
    let xs = c.args.slots.now in
    let p = c.in_ok-pass.ensures in
    let v = c.search.ensures in record {
      queues = used_from _ _ _ _ _ (queue_fits xs c.args.facts _ _ p.answered p.left) v.queues;
      works = used_from _ _ _ _ _ (work_fits xs c.args.facts _ _ p.answered p.left) v.works;
      lengths = lengths_kept g.met.W.Measure.lawful _ _ _ _ _ _ c.args.columns.now c.search.new.columns v.answered v.promises v.weighs v.gives v.draws v.queues v.works;
      same = v.same;
    }
