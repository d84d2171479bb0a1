-- What the steps rest on: tables ready at a cell, and what each asks besides.
use Rattle.std.specs.Prelude.{◌≡◌, List, ℕ, ◌<◌, get_or, Option}
use Rattle.plan.specs.declared.Spot.{Spot}
use Rattle.tables.specs.declared.Ahead.{Ahead}
use Rattle.tables.specs.Lent.{Tables, lent, core}
use Rattle.entries.specs.declared.Aim.{Aim}
use Rattle.entries.specs.declared.Asked.{Asked}
use Rattle.entries.specs.Aims.{area, hunt, most_g, most_rhs, Small, Ready, ReadyAt}
use Rattle.entries.specs.Became.{Became, obeyed}
use Rattle.choices.specs.Moves.{Fair}

-- One direction of a step on u: rhs may have grown by a cost in those before.
pub record Facing (a : Aim) (count u : ℕ) (at : Spot) (d : ℕ) (t : Tables) : Type 0 where
  pub here : ReadyAt a most_rhs count u at t
  pub direction : d < 4

-- What is asked in that direction can be done.
pub record Obeying (a : Aim) (count : ℕ) (at : Spot) (d : ℕ) (r : Option Asked) (g : List ℕ) (t : Ahead) : Type 0 where
  pub plan : List ℕ
  pub u : ℕ
  pub facing : Facing a count u at d (lent plan g t)
  pub fair : Fair a u d r

-- It was done, whatever the plan is; rhs may have grown by a cost.
pub record Obeyed (a : Aim) (r : Option Asked) (g : List ℕ) (t : Ahead) (count : ℕ) (t' : Ahead) : Type 0 where
  pub became : (plan : List ℕ) → Became a count (lent plan g t') (obeyed (hunt a plan) (core (lent plan g t)) r)
  pub small_rhs : Small most_rhs t'.rhs.now

-- Lower: rhs of u is below its g.
pub record Lowering (a : Aim) (count u : ℕ) (at : Spot) (t : Tables) : Type 0 where
  pub here : ReadyAt a most_g count u at t
  pub over : get_or t.rhs u 0 < get_or t.g u 0

-- A step on u, whose g and rhs differ.
pub record Stepping (a : Aim) (count u : ℕ) (t : Tables) : Type 0 where
  pub ready : Ready a most_g count t
  pub inside : u < area a
  pub differ : get_or t.g u 0 ≡ get_or t.rhs u 0 → ⊥
