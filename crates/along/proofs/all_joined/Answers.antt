-- `plan::toward` tells of each listed pair whether they are neighbours.
use Rattle.std.proofs.Common.{◌*◌, ◌<◌, rules, tests}
use Rattle.std.proofs.lemmas.Iterator.{cases_from_all}
use Rattle.std.proofs.lemmas.Iterator.Adapters.{serves_from_places}
use Rattle.along.proofs.PairLaws.{Beside, pairs_from, pair_first, each_pair, decides_each}
use Rattle.along.proofs.AlongLaws.{told_so, told_not}
use Rattle.along.proofs.all_joined.Goals as goal

pub all-requires-clause-callable : goal.all-requires-clause-callable
all-requires-clause-callable c =
    serves_from_places (pairs_from c.args.cells.now c.zip.ensures.first c.iter.ensures.rest c.zip.ensures.second.0) (λ x q k. search rules)
    (λ x k l e. let m : x.0.now < c.args.height * c.args.width = pair_first c.args.cells.now _ k x.0.now x.1.now c.requires.in_bounds.1 l e in search rules)

pub returns : goal.returns
returns c =
    decides_each c.all.result
    (each_pair c.args.cells.now (Beside c.args.width c.args.height) (λ x. Beside c.args.width c.args.height x → ⊥) c.all.result
    (cases_from_all c.all.new.self _ _ (Beside c.args.width c.args.height) (λ x. Beside c.args.width c.args.height x → ⊥) c.all.ensures.ran
    (pairs_from c.args.cells.now c.zip.ensures.first c.iter.ensures.rest c.zip.ensures.second.0) (λ x q k. search (rules, tests, told_so)) (λ x q k. search (rules, tests, told_not))))
    (λ h J. h.2 (J h.0 h.1))
