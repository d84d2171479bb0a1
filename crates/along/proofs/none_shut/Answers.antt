-- Each listed cell and the next are neighbours; the byte of the move between them is told by `step_byte`.
use Rattle.std.proofs.Common.{◌*◌, ◌<◌, arith, rules, tests}
use Rattle.std.proofs.lemmas.Iterator.{cases_from_all}
use Rattle.std.proofs.lemmas.Iterator.Adapters.{serves_from_places}
use Rattle.decide.proofs.DecideLaws.{decides_as}
use Rattle.plan.specs.Floors.{floor_plan}
use Rattle.plan.specs.Toward.{Neighbours}
use Rattle.along.proofs.PairLaws.{Opens, Shuts, pairs_from, pair_first, pair_joined, each_pair, decides_each}
use Rattle.along.proofs.none_shut.Goals as goal

pub all-requires-clause-callable : goal.all-requires-clause-callable
all-requires-clause-callable c =
    serves_from_places (pairs_from c.args.cells.now c.zip.ensures.first c.iter.ensures.rest c.zip.ensures.second.0) (λ x q k. search rules)
    (λ x k l e. let m : x.0.now < c.args.floor.height * c.args.floor.width = pair_first c.args.cells.now _ k x.0.now x.1.now c.requires.listed l e in
    let n : Neighbours c.args.floor.width c.args.floor.height x.0.now x.1.now = pair_joined (floor_plan c.args.floor) c.args.cells.now k x.0.now x.1.now c.requires.joined l e in search rules)

pub returns : goal.returns
returns c =
    decides_as
    (decides_each c.all.result
    (each_pair c.args.cells.now (Opens (floor_plan c.args.floor)) (Shuts (floor_plan c.args.floor)) c.all.result
    (cases_from_all c.all.new.self _ _ (Opens (floor_plan c.args.floor)) (Shuts (floor_plan c.args.floor)) c.all.ensures.ran
    (pairs_from c.args.cells.now c.zip.ensures.first c.iter.ensures.rest c.zip.ensures.second.0) (λ x q k. (search rules, λ d l e. grind (arith, tests))) (λ x q k d l. grind (arith, tests))))
    (λ h A. let n = c.requires.joined h.0 h.1 in A h.0 h.1 n.direction n.leads (h.2 n.direction n.leads)))
    (λ A i d m l. A i m d l) (λ A i m d l. A i d m l)
