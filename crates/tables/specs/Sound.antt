-- Sound tables: document 01's paragraph, whole.
use Rattle.method.specs.Sound as method
use Rattle.queue.specs.Queue.{Heap}
use Rattle.plan.specs.Costs.{Obeys}
use Rattle.tables.specs.declared.Session.{Session}
use Rattle.tables.specs.Lent.{Tables, cells, floor, graph, session, core}

pub record Sound (s : Session) (t : Tables) : Type 0 where
  -- "the plan obeys the section above"
  pub plan : Obeys (floor s t.plan)
  -- the recorded cells, the hunter's rhs and parent, each other cell's rhs and parent, who is queued and under which key, the bounds: the method's record
  pub numbers : method.Sound (graph s t) (session s) (core t)
  -- "each once, and list and places agree; the list is a binary heap by (k1, k2, cell number)", since order 2 of document 02 by (k1, k2, column, row);
  -- "absent entries hold the values named above"
  pub heap : Heap s.width (cells s) s.count t.k1 t.k2 t.place t.list
