-- The worked examples.
use Rattle.std.proofs.Common.{refl}
use Rattle.sheet.specs.Slots.{count, free}
use Rattle.file.specs.Number.{number, short, count_field, arity_field, cost_field}
use Rattle.file.specs.Rules.{rule}
use Rattle.file.specs.Whole.{opening, closing, file}
use Rattle.file.specs.Written.{spelled}
use Rattle.file.specs.Examples.{Numbers, Files}

pub numbers : Numbers
unfolding number
numbers =
    record { two_bytes = refl; three_bytes = refl; largest = refl; nothing = refl; one_cut = refl; two_cut = refl; idle_second = refl; idle_third = refl; no_end = refl }

pub files : Files
unfolding count free number short count_field arity_field cost_field rule opening closing file spelled
files =
    record { written_so = refl; read_so = refl; entered_so = refl; no_bytes = refl; no_rules = refl; no_room = refl; used = refl; long_body = refl; dear = refl; wide = refl; over = refl }
