-- One step on the least cell u: put back, lower or raise.
use Rattle.std.specs.Prelude.{List, [], ◌∷◌, ℕ, ◌+◌}
use Rattle.std.proofs.Math.Decide.{ℕ_discrete, dec_lt}
use Rattle.decide.specs.Choose.{choose}
use Rattle.method.specs.Numbers.{infinite}
use Rattle.method.specs.Graph.{Move, Hunt}
use Rattle.method.specs.Tables.{Tables, g_at, rhs_at, parent_at, with_g, with_rhs, stored_key, calculated_key, enter, leave, set_right, found_anew}

-- Lower, one open move from u to s, where v is the new g(u): "s not the hunter, with rhs(s) > g(u) + cost: new rhs, parent u, queue entry set right".
unfoldable pub relaxed : Hunt → ℕ → Tables → Move → Tables
relaxed H v T m =
    choose (ℕ_discrete m.cell H.hunter) T
    (choose (dec_lt (v + m.cost) (rhs_at T m.cell)) (set_right H (with_rhs T m.cell (v + m.cost) m.code) m.cell) T)

unfoldable pub relaxed_all : Hunt → ℕ → Tables → List Move → Tables
relaxed_all H v T [] = T
relaxed_all H v T (m ∷ l) = relaxed_all H v (relaxed H v T m) l

-- "lower: g(u) = rhs(u), u leaves the queue; for each open move from u .."
unfoldable pub lowered : Hunt → Tables → ℕ → Tables
lowered H T u = relaxed_all H (rhs_at T u) (leave (with_g T u (rhs_at T u)) u) (H.graph.out u)

-- Raise, one open move from u to s: "s with parent u, s not the hunter, rhs, parent and entry are found anew".
unfoldable pub renewed : Hunt → Tables → Move → Tables
renewed H T m =
    choose (ℕ_discrete m.cell H.hunter) T
    (choose (ℕ_discrete (parent_at T m.cell) m.code) (found_anew H T m.cell) T)

unfoldable pub renewed_all : Hunt → Tables → List Move → Tables
renewed_all H T [] = T
renewed_all H T (m ∷ l) = renewed_all H (renewed H T m) l

-- "raise: g(u) becomes infinite; for each neighbour s with parent u ..; last, u's entry is set right"
unfoldable pub raised : Hunt → Tables → ℕ → Tables
raised H T u = set_right H (renewed_all H (with_g T u infinite) (H.graph.out u)) u

-- What a step does with its cell.
pub data Kind : Type 0 where
  put_back lower raise : Kind

-- "Stored key below calculated: put u back. Else, if g(u) > rhs(u), lower. Else raise."
unfoldable pub kind_of : Hunt → Tables → ℕ → Kind
kind_of H T u =
    choose (dec_lt (stored_key T u) (calculated_key H T u)) put_back (choose (dec_lt (rhs_at T u) (g_at T u)) lower raise)

-- What a step of each kind makes of the tables.
unfoldable pub stepped_by : Kind → Hunt → Tables → ℕ → Tables
stepped_by put_back H T u = enter H T u
stepped_by lower H T u = lowered H T u
stepped_by raise H T u = raised H T u

-- One step on u: the step of its kind.
unfoldable pub stepped : Hunt → Tables → ℕ → Tables
stepped H T u = stepped_by (kind_of H T u) H T u
