-- A plan in a frame is a graph of the method, whatever its bytes, and a byte that changes alters one move of it.
use mathlib.Core.List.{List}
use Prim.Native.Nat.{ℕ, ◌+◌, ◌*◌, ◌<◌}
use Rattle.method.specs.Graph.{GraphLaws}
use Rattle.method.specs.Change.{Altered}
use Rattle.plan.specs.Directions.{opposite}
use Rattle.plan.specs.Cells.{Size, Stays, entered}
use Rattle.plan.specs.Costs.{byte, IsByte, with_byte, Obeys}
use Rattle.plan.proofs.GridLaws.{graph_laws}
use Rattle.plan.proofs.ChangeLaws.{changed_altered}
use Rattle.tables.specs.Lent.{Frame, floor_in, graph_in}

pub graph_in_laws : (f : Frame) (plan : List ℕ) → Size f.width f.height → GraphLaws (graph_in f plan)
graph_in_laws f plan z = graph_laws (floor_in f plan) z

pub altered_in : (f : Frame) (plan : List ℕ) → Obeys (floor_in f plan) → (u d cost : ℕ) → u < f.height * f.width → d < 4 → Stays f.width f.height u d → IsByte cost
    → Altered (graph_in f plan) (graph_in f (with_byte (floor_in f plan) u d cost).bytes) (entered f.width u d) (opposite d + 1) u (byte (floor_in f plan) u d) cost
altered_in f plan O u d cost lu ld m new = changed_altered (floor_in f plan) O u d cost lu ld m new
