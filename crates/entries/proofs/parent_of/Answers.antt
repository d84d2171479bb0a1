-- The byte is a direction plus 1, and the neighbour there is the cell that it names (ParentLaws).
use Rattle.entries.proofs.ParentLaws.{linked_asks, linked_is}
use Rattle.entries.proofs.parent_of.Goals as goal

pub entered-requires-clause-width_bound : goal.entered-requires-clause-width_bound
entered-requires-clause-width_bound c = (linked_asks c.requires).1

pub returns : goal.returns
returns c = linked_is c.requires c.entered.ensures
