-- What one open move asks in a step, return by return.
use mathlib.Core.Path.{◌≡◌, refl, sym, ap, ◌∙◌}
use mathlib.Core.Logic.{inr, ◌≢◌}
use mathlib.Core.List.{List, [], ◌∷◌}
use Prim.{tt}
use Rattle.std.proofs.Common.{Some, None}
use Prim.Native.Nat.{ℕ, ◌+◌, ◌≤◌, ◌<◌}
use native.Mathlib.Omega.{arith}
use native.Mathlib.Decide.{ℕ_discrete, dec_lt}
use lib.ListN.{get_or}
use Rattle.decide.proofs.ChooseLaws.{choose_yes, choose_no}
use Rattle.method.specs.Numbers.{most_cost}
use Rattle.method.specs.Graph.{Move, move, Hunt}
use Rattle.method.specs.Tables as method
use Rattle.method.specs.Steps.{relaxed, relaxed_all, renewed, renewed_all}
use Rattle.plan.specs.Grid.{out_by}
use Rattle.plan.proofs.CellLaws.{enters}
use Rattle.plan.proofs.GridLaws.{out_reach}
use Rattle.tables.specs.Lent.{graph_in}
use Rattle.entries.specs.declared.Aim.{Aim}
use Rattle.entries.specs.declared.Found.{Found}
use Rattle.entries.specs.Aims.{frame_of, floor, hunt, Findable}
use Rattle.entries.specs.Became.{found_of}
use Rattle.entries.proofs.FoundLaws.{found_small, anew_is}
use Rattle.choices.specs.Moves.{Enters, Leaving, Relaxing, Relaxes, Renewing, Renews}

-- a list of one move, or of none
relaxed_none : (H : Hunt) (v : ℕ) (T : method.Tables) {l : List Move} → [] ≡ l → relaxed_all H v T l ≡ T
unfolding relaxed_all
relaxed_none H v T e = rw (← e) refl

relaxed_one : (H : Hunt) (v : ℕ) (T : method.Tables) {m : Move} {l : List Move} → m ∷ [] ≡ l → relaxed_all H v T l ≡ relaxed H v T m
unfolding relaxed_all
relaxed_one H v T e = rw (← e) refl

renewed_none : (H : Hunt) (T : method.Tables) {l : List Move} → [] ≡ l → renewed_all H T l ≡ T
unfolding renewed_all
renewed_none H T e = rw (← e) refl

renewed_one : (H : Hunt) (T : method.Tables) {m : Move} {l : List Move} → m ∷ [] ≡ l → renewed_all H T l ≡ renewed H T m
unfolding renewed_all
renewed_one H T e = rw (← e) refl

module _ {a : Aim} {plan : List ℕ} {u d : ℕ} (L : Leaving a plan u d) where
  -- the cell that an open move enters
  pub enters_by : {k s c : ℕ} → move k s c ∷ [] ≡ out_by (floor a plan) u d → Enters a u d s × (c ≤ most_cost)
  enters_by e =
      let wide = L.aimed.obeys.size.wide in
      let o = out_reach (floor a plan) wide u d e in
      (record { stays_in = o.0; cell = o.2; inside = rw o.2 (enters wide o.0).inside }, o.1.1)

module _ {a : Aim} {plan rhs : List ℕ} {v u d : ℕ} (R : Relaxing a plan rhs v u d) where
  pub relaxes_none : [] ≡ out_by (floor a plan) u d → Relaxes a plan rhs v u d None
  relaxes_none e = record { fair = tt; is = λ T q. relaxed_none (hunt a plan) v T e }

  module _ {k s c : ℕ} (e : move k s c ∷ [] ≡ out_by (floor a plan) u d) where
    pub relaxes_hunter : s ≡ a.hunter → Relaxes a plan rhs v u d None
    unfolding relaxed
    relaxes_hunter h = record { fair = tt; is = λ T q. relaxed_one (hunt a plan) v T e ∙ choose_yes (ℕ_discrete s a.hunter) T _ h }

    pub relaxes_not : s ≢ a.hunter → get_or rhs s 0 ≤ v + c → Relaxes a plan rhs v u d None
    unfolding relaxed
    relaxes_not n h = record {
      fair = tt;
      is = λ T q.
          relaxed_one (hunt a plan) v T e
          ∙ choose_no (ℕ_discrete s a.hunter) T _ n
          ∙ choose_no (dec_lt (v + c) (get_or T.rhs s 0)) _ T (λ x. omega (arith, ap (λ r. get_or r s 0) q));
    }

    pub relaxes_to : s ≢ a.hunter → v + c < get_or rhs s 0 → Relaxes a plan rhs v u d (Some (record { cell = s; found = record { rhs = v + c; parent = k } }))
    unfolding relaxed
    relaxes_to n h = record {
      fair = let x = enters_by R.leaving e in (x.0, inr (omega (arith, x.1, R.room)));
      is = λ T q.
          relaxed_one (hunt a plan) v T e
          ∙ choose_no (ℕ_discrete s a.hunter) T _ n
          ∙ choose_yes (dec_lt (v + c) (get_or T.rhs s 0)) _ T (omega (arith, ap (λ r. get_or r s 0) q));
    }

module _ {a : Aim} {plan g parent : List ℕ} {u d : ℕ} (R : Renewing a plan g parent u d) where
  pub renews_none : [] ≡ out_by (floor a plan) u d → Renews a plan g parent u d None
  renews_none e = record { fair = tt; is = λ T _ q. renewed_none (hunt a plan) T e }

  module _ {k s c : ℕ} (e : move k s c ∷ [] ≡ out_by (floor a plan) u d) where
    pub renews_hunter : s ≡ a.hunter → Renews a plan g parent u d None
    unfolding renewed
    renews_hunter h = record { fair = tt; is = λ T _ q. renewed_one (hunt a plan) T e ∙ choose_yes (ℕ_discrete s a.hunter) T _ h }

    pub renews_not : s ≢ a.hunter → get_or parent s 0 ≢ k → Renews a plan g parent u d None
    unfolding renewed
    renews_not n h = record {
      fair = tt;
      is = λ T _ q.
          renewed_one (hunt a plan) T e
          ∙ choose_no (ℕ_discrete s a.hunter) T _ n
          ∙ choose_no (ℕ_discrete (get_or T.parent s 0) k) _ T (λ x. h (ap (λ r. get_or r s 0) (sym q) ∙ x));
    }

    -- the cell entered can be found anew
    pub child_findable : Findable a.width a.height plan g s
    child_findable = record { obeys = R.leaving.aimed.obeys; long_g = R.long_g; small_g = R.small_g; inside = (enters_by R.leaving e).0.inside }

    pub renews_at : {f : Found} → s ≢ a.hunter → get_or parent s 0 ≡ k → found_of f ≡ method.anew (graph_in (frame_of a) plan) g s → Renews a plan g parent u d (Some (record { cell = s; found = f }))
    unfolding renewed
    renews_at n h ef = record {
      fair = ((enters_by R.leaving e).0, found_small a child_findable ef);
      is = λ T eg q.
          renewed_one (hunt a plan) T e
          ∙ choose_no (ℕ_discrete s a.hunter) T _ n
          ∙ choose_yes (ℕ_discrete (get_or T.parent s 0) k) _ T (ap (λ r. get_or r s 0) q ∙ h)
          ∙ sym (anew_is a plan T s (ef ∙ ap (λ x. method.anew (graph_in (frame_of a) plan) x s) (sym eg)));
    }
