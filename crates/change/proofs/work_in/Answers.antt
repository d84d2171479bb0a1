-- The byte is set; what the change asks of the cell entered is done, by `take`, or nothing is (WorkLaws).
use Rattle.change.proofs.WorkLaws.{none_unless, deciding, kept_worked, asked_taking, taken_worked}
use Rattle.change.proofs.work_in.Goals as goal

pub effect_of-requires : goal.effect_of-requires
effect_of-requires c = deciding c.requires c.entered-v.ensures

pub returns-in_default-clause-worked_in : goal.returns-in_default-clause-worked_in
returns-in_default-clause-worked_in c =
    kept_worked c.args.plan.now c.args.g.now c.args.ahead.now c.requires c.entered-v.ensures c.back_code-k.ensures c.effect_of.ensures (none_unless c.in_default.not-Some)

pub take-requires : goal.take-requires
take-requires c =
    asked_taking c.args.plan.now c.args.g.now c.args.ahead.now c.requires c.entered-v.ensures c.back_code-k.ensures c.effect_of.ensures c.in-Some.is c.aim_of-a.ensures c.spot_of-at.ensures

pub returns-clause-worked_in : goal.returns-clause-worked_in
returns-clause-worked_in c =
    taken_worked c.args.plan.now c.args.g.now c.args.ahead.now c.requires c.entered-v.ensures c.back_code-k.ensures c.effect_of.ensures c.in-Some.is c.aim_of-a.ensures c.take.ensures.taken c.take.ensures.entry_kept
