-- On sound tables, and so after every step of a search of them, the neighbours with parent u are the cells that a raise of u finds anew.
use mathlib.Core.Path.{◌≡◌, sym, ap, subst, ◌∙◌}
use mathlib.Core.Logic.{◌⊎◌, inl, inr, ◌≢◌, ◌↔◌}
use mathlib.Core.Option.{some}
use Prim.Native.Nat.{ℕ, ◌+◌}
use native.Mathlib.Omega.{arith}
use Rattle.decide.proofs.ChooseLaws.{differ}
use Rattle.method.specs.Graph.{Comes, GraphLaws, Hunt}
use Rattle.method.specs.Tables.{Tables, rhs_at, parent_at, queued_at, stored_key, LeastAt}
use Rattle.method.specs.Steps.{Kind, raise, kind_of, stepped}
use Rattle.method.specs.Loop.{next_cell}
use Rattle.method.specs.Session.{Session}
use Rattle.method.specs.Sound.{Sound}
use Rattle.method.specs.During.{During}
use Rattle.method.proofs.Notions.{ReachedAt, Kept, Renewed, Raise, Did, did_put_back, did_lower, did_raise}
use Rattle.method.proofs.Running.{did_next}
use Rattle.method.proofs.Searching.{hunt_taken, bound_taken, run_taken, during_sound, went_to}
use Rattle.plan.specs.Cells.{Size, entered}
use Rattle.plan.specs.Costs.{Plan}
use Rattle.plan.specs.Grid.{graph_of}
use Rattle.plan.proofs.GridLaws.{graph_laws, into_is}
use Rattle.plan.specs.Raise.{NeighbourWithParent, EnteredByParent, RaisedAsWritten}

-- A step whose kind is raise raises.
raise_of : {H : Hunt} {T T' : Tables} {u : ℕ} {k : Kind} → Did H T T' u k → k ≡ raise → Raise H T T' u
raise_of (did_put_back b) e = differ cc
raise_of (did_lower b) e = differ cc
raise_of (did_raise b) e = b

module _ (p : Plan) (z : Size p.width p.height) where
  -- the plan is a graph of the method
  laws : GraphLaws (graph_of p)
  laws = graph_laws p z

  -- the move with code d + 1 into s comes from the neighbour in direction d
  comes_from : (s d k w c : ℕ) → k ≡ d + 1 → Comes (graph_of p) s k w c → w ≡ entered p.width s d
  comes_from s d k w c e m = let o = into_is p z.wide s k w c m in o.from ∙ ap (entered p.width s) (omega (arith, e, o.named))

  module _ {σ : Session} {T : Tables} (S : Sound (graph_of p) σ T) (s u : ℕ) where
    -- the parent byte names a move: not of the hunter, whose parent is 0, and an open one
    to : NeighbourWithParent p T s u → EnteredByParent p T s u
    to n = at (S.least s n.stays.from_in (λ e. omega (arith, n.byte, ap (parent_at T) e, S.hunter_parent))).reached
      where
        at : ReachedAt (graph_of p) T s → EnteredByParent p T s u
        at (inl h) = absurd (omega (arith, n.byte, h.1))
        at (inr h) =
            let v = h.1 in
            let e : v.from ≡ u = comes_from s n.direction (parent_at T s) v.from v.cost n.byte v.comes ∙ n.parent in
            record { cost = v.cost; open_move = laws.goes_out s (parent_at T s) u v.cost (subst (λ w. Comes (graph_of p) s (parent_at T s) w v.cost) e v.comes) }

    -- an open move of u into s names u as the neighbour of s that its code says
    from : EnteredByParent p T s u → NeighbourWithParent p T s u
    from m =
        let o = into_is p z.wide s (parent_at T s) u m.cost (laws.comes_in s (parent_at T s) u m.cost m.open_move) in
        record { direction = o.direction; small = o.small; stays = o.stays_in; parent = sym o.from; byte = o.named }

    -- "each neighbour s with parent u" is each open move out of u that the parent code of the cell entered names.
    pub same_neighbours : NeighbourWithParent p T s u ↔ EnteredByParent p T s u
    same_neighbours = (to, from)

  -- A raise, wherever it comes in a search of sound tables, does what the paper writes.
  module _ {σ : Session} {T : Tables} (S : Sound (graph_of p) σ T) (n : ℕ) {u : ℕ}
      (next : next_cell (hunt_taken (graph_of p) σ T) (run_taken (graph_of p) σ T n).tables ≡ some u) (kind : kind_of (hunt_taken (graph_of p) σ T) (run_taken (graph_of p) σ T n).tables u ≡ raise) where
    abbrev here : Tables
    here = (run_taken (graph_of p) σ T n).tables

    abbrev then_here : Tables
    then_here = stepped (hunt_taken (graph_of p) σ T) (run_taken (graph_of p) σ T n).tables u

    D : During (hunt_taken (graph_of p) σ T) (bound_taken (graph_of p) σ T) here
    D = (went_to laws S n).during

    R : Raise (hunt_taken (graph_of p) σ T) here then_here u
    R = raise_of (did_next D next) kind

    neighbour : (s : ℕ) → NeighbourWithParent p here s u ↔ EnteredByParent p here s u
    neighbour s = same_neighbours (during_sound laws S D) s u

    pub raised_as_written : RaisedAsWritten p (hunt_taken (graph_of p) σ T) (run_taken (graph_of p) σ T n).tables (stepped (hunt_taken (graph_of p) σ T) (run_taken (graph_of p) σ T n).tables u) u
    raised_as_written = record {
      g_u = R.g_u;
      g_others = R.g;
      is_found_anew = λ s l h m. anew s h m (R.cells s l);
      kept = λ s l f. rests s f (R.cells s l);
    }
      where
        anew : (s : ℕ) → s ≢ (hunt_taken (graph_of p) σ T).hunter → NeighbourWithParent p here s u → Kept (hunt_taken (graph_of p) σ T) here then_here u s ⊎ Renewed (hunt_taken (graph_of p) σ T) here then_here u s
            → LeastAt (graph_of p) then_here s
        anew s h m (inl k) = let e = (neighbour s).0 m in absurd (k.not_parent h e.cost (laws.comes_in s (parent_at here s) u e.cost e.open_move))
        anew s h m (inr k) = k.found

        rests : (s : ℕ) → (s ≢ (hunt_taken (graph_of p) σ T).hunter → NeighbourWithParent p here s u → ⊥) → Kept (hunt_taken (graph_of p) σ T) here then_here u s ⊎ Renewed (hunt_taken (graph_of p) σ T) here then_here u s
            → (rhs_at then_here s ≡ rhs_at here s) × (parent_at then_here s ≡ parent_at here s) × (s ≢ u → (stored_key then_here s ≡ stored_key here s) × (queued_at then_here s ≡ queued_at here s))
        rests s f (inl k) = (k.rhs, k.parent, λ ne. ((k.entry ne).stored, (k.entry ne).queued))
        rests s f (inr k) = absurd (f k.not_hunter ((neighbour s).1 (record { cost = k.cost; open_move = laws.goes_out s (parent_at here s) u k.cost k.comes })))
