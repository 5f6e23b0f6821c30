use Rattle.std.proofs.Common.{length, sym}
use Rattle.abstraction.proofs.Making.{ready, long_parts, promised}
use Rattle.abstraction.proofs.Names.{slots_name}
use Rattle.abstraction.proofs.Promised.{map_grouped}
use Rattle.abstraction.specs.Fold.{group_of}
use Rattle.abstraction.proofs.make.make.Goals as goal

pub fill-requires : goal.fill-requires
fill-requires g c =
    let s = c.args.sheet.now in
    let groups = c.args.map.now in
    let n = c.args.groups in
    let r = ready s.slots.now s.facts c.args.target groups n c.args.columns.now.second.now _ (sym c.in_ok-check.ensures) in
    let l = long_parts s.facts (length s.slots.now) n _ _ _ _ _ _ r.enough in
    let grouped = map_grouped s.facts groups n l.for_map r.mapped in
    record {
      few = (r.some, r.limit, grouped c.args.target r.low);
      within = slots_name (group_of groups) s.facts n grouped s.slots.now s.within;
      room = r.room;
      long = (l.for_floors, l.for_rests, l.for_reasons, l.for_queue, l.for_work);
    }

pub returns-clause-made : goal.returns-clause-made
returns-clause-made g c =
    let s = c.args.sheet.now in
    let old = c.args.columns.now in
    let v = c.fill.ensures in
    let both = promised g.met.W.Measure.lawful s.slots.now s.facts c.args.target c.args.map.now c.args.groups old.second.now _ old.floors.now _ old.rests.now _ _ _ s.within (sym c.in_ok-check.ensures) v.weighs v.leads in
    λ ok. both.0

pub returns-clause-fits : goal.returns-clause-fits
returns-clause-fits g c =
    let s = c.args.sheet.now in
    let old = c.args.columns.now in
    let v = c.fill.ensures in
    let both = promised g.met.W.Measure.lawful s.slots.now s.facts c.args.target c.args.map.now c.args.groups old.second.now _ old.floors.now _ old.rests.now _ _ _ s.within (sym c.in_ok-check.ensures) v.weighs v.leads in
    λ ok. both.1
