use Rattle.std.proofs.Common.{◌≡◌, ◌-◌, arith}
use Rattle.search.proofs.solve.finish.Goals as goal

pub draw-len-requires-clause-stand : goal.draw-len-requires-clause-stand
draw-len-requires-clause-stand g c =
    let z : c.args.counts.closed - 0 ≡ c.args.counts.closed = omega arith in
    rw z c.requires.stand
