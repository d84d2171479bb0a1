-- A cell's entry set right, way by way.
use mathlib.Core.Path.{◌≡◌, refl, sym, ap, ◌∙◌}
use mathlib.Core.Bool.{Bool, true, false, true≢false, false≢true}
use mathlib.Core.Logic.{◌≢◌}
use mathlib.Core.List.{List}
use Prim.Native.Nat.{ℕ, ◌+◌, ◌<◌, min}
use native.Mathlib.Omega.{arith}
use native.Mathlib.Decide.{ℕ_discrete}
use lib.ListN.{get_or, length}
use Rattle.decide.proofs.ChooseLaws.{choose_yes, choose_no}
use Rattle.method.specs.Numbers.{infinite}
use Rattle.method.specs.Tables as method
use Rattle.method.proofs.Entries.{first_finite}
use Rattle.queue.specs.Queue.{absent, members, Changed, EntryKept}
use Rattle.queue.proofs.MemberLaws.{missing, member_at, place_member}
use Rattle.queue.proofs.QueueLaws.{heap_as, changed_nothing, absent_stays}
use Rattle.plan.specs.Reached.{between}
use Rattle.plan.specs.declared.Spot.{Spot}
use Rattle.plan.proofs.EstimateLaws.{estimate_le}
use Rattle.tables.specs.Lent.{tables, core}
use Rattle.tables.proofs.WalkLaws.{estimate_at}
use Rattle.entries.specs.declared.Aim.{Aim}
use Rattle.entries.specs.Aims.{area, hunt}
use Rattle.entries.specs.Became.{Sited, KeyFits, Entering, Entered}

-- A cell whose key is to be calculated.
module _ {a : Aim} {cell : ℕ} {at : Spot} {g rhs : List ℕ} (S : Sited a cell at g rhs) where
  -- the code's sum stays below infinite
  pub key_room : {m : ℕ} → KeyFits a g rhs cell → m ≡ min (get_or g cell 0) (get_or rhs cell 0) → m + between at a.target_at + a.km < infinite
  key_room f e = omega (arith, f, e, estimate_at {b = a.target_at} S.stands S.target_at, estimate_le S.size cell a.target S.inside S.target_in)

  -- and is the method's first number
  pub first_key_is : {m first : ℕ} → KeyFits a g rhs cell → m ≡ min (get_or g cell 0) (get_or rhs cell 0) → first ≡ m + between at a.target_at + a.km
      → (plan : List ℕ) → method.first_key (hunt a plan) cell m ≡ first
  first_key_is {m} f em ef plan = first_finite (hunt a plan) cell m (omega (arith, f, em)) ∙ omega (arith, ef, estimate_at {b = a.target_at} S.stands S.target_at)

-- The queue's tables are those that its call left.
pub record Left (k1 k2 place list k1' k2' place' list' : List ℕ) : Type 0 where
  pub k1_is : k1' ≡ k1
  pub k2_is : k2' ≡ k2
  pub place_is : place' ≡ place
  pub list_is : list' ≡ list

module _ {a : Aim} {count cell : ℕ} {at : Spot} {g rhs k1 k2 place list : List ℕ} (E : Entering a count cell at g rhs k1 k2 place list) where
  place_long : cell < length place
  place_long = omega (arith, E.sited.inside, E.heap.tables.agree.length_place)

  pub cell_listed : cell < length list
  cell_listed = omega (arith, E.sited.inside, E.heap.tables.agree.length_list)

  -- an entry set so is the method's cell set right in these tables
  abbrev Rights : ℕ → ℕ → Bool → Type 0
  Rights first second q = (plan parent : List ℕ) → method.with_entry (core (tables plan g rhs parent k1 k2 place list)) cell first second q
      ≡ method.set_right (hunt a plan) (core (tables plan g rhs parent k1 k2 place list)) cell

  -- a change of the queue, which leaves these tables
  module _ {r first second : ℕ} {q : Bool} {k1' k2' place' list' : List ℕ} where
    -- what it makes of them
    entered_by : {room : ℕ} {k1'' k2'' place'' list'' : List ℕ} → room ≡ area a → Changed a.width room r cell first second q k1 k2 place k1' k2' place' list'
        → Left k1' k2' place' list' k1'' k2'' place'' list'' → Rights first second q → Entered a cell g rhs k1 k2 place list r k1'' k2'' place'' list''
    entered_by e C L f plan parent = record {
      is = rw (L.k1_is, L.k2_is, L.place_is, C.key1, C.key2, C.membership) (f plan parent);
      heap = rw (L.k1_is, L.k2_is, L.place_is, L.list_is) (heap_as C.heap e refl);
    }

    -- a cell that is put in or taken out: its entry is not what it was
    module _ (C : Changed a.width (length list) r cell first second q k1 k2 place k1' k2' place' list') where
      was : members place' ≡ members place → get_or (members place) cell false ≡ q
      was = changed_nothing C (E.heap.tables.agree.length_place ∙ sym E.heap.tables.agree.length_list) cell_listed

      pub kept_in : {k1'' k2'' place'' list'' : List ℕ} → q ≡ true → get_or place cell 0 ≡ absent → place'' ≡ place'
          → EntryKept count k1 k2 place list r k1'' k2'' place'' list''
      kept_in y o p _ _ e = absurd (true≢false (sym (was (ap members (sym p) ∙ e) ∙ y) ∙ member_at place cell place_long ∙ missing o))

      pub kept_out : {k1'' k2'' place'' list'' : List ℕ} → q ≡ false → get_or place cell 0 ≢ absent → place'' ≡ place'
          → EntryKept count k1 k2 place list r k1'' k2'' place'' list''
      kept_out n o p _ _ e = absurd (false≢true (sym (was (ap members (sym p) ∙ e) ∙ n) ∙ place_member place cell place_long o))

  -- g and rhs equal: the cell is to be absent
  module _ (e : get_or g cell 0 ≡ get_or rhs cell 0) where
    leaves : Rights 0 0 false
    unfolding method.set_right
    leaves plan parent = sym (choose_yes (ℕ_discrete (get_or g cell 0) (get_or rhs cell 0)) _ _ e)

    pub right_absent : {k1' k2' place' list' : List ℕ} → get_or place cell 0 ≡ absent → Left k1 k2 place list k1' k2' place' list'
        → Entered a cell g rhs k1 k2 place list count k1' k2' place' list'
    right_absent o L = entered_by refl (absent_stays E.heap E.sited.inside o) L leaves

    pub right_out : {r : ℕ} {k1' k2' place' list' k1'' k2'' place'' list'' : List ℕ} → Changed a.width (length list) r cell 0 0 false k1 k2 place k1' k2' place' list'
        → Left k1' k2' place' list' k1'' k2'' place'' list'' → Entered a cell g rhs k1 k2 place list r k1'' k2'' place'' list''
    right_out C L = entered_by E.heap.tables.agree.length_list C L leaves

  -- g and rhs differ: the cell is to be queued under its key
  module _ {m first : ℕ} (n : get_or g cell 0 ≢ get_or rhs cell 0) (em : m ≡ min (get_or g cell 0) (get_or rhs cell 0)) (ef : first ≡ m + between at a.target_at + a.km) where
    first_is : (plan : List ℕ) → method.first_key (hunt a plan) cell m ≡ first
    first_is = first_key_is E.sited (E.fits n) em ef

    enters : Rights first m true
    unfolding method.set_right method.enter
    enters plan parent = rw (← first_is plan, em) (sym (choose_no (ℕ_discrete (get_or g cell 0) (get_or rhs cell 0)) _ _ n))

    pub right_in : {r : ℕ} {k1' k2' place' list' k1'' k2'' place'' list'' : List ℕ} → Changed a.width (length list) r cell first m true k1 k2 place k1' k2' place' list'
        → Left k1' k2' place' list' k1'' k2'' place'' list'' → Entered a cell g rhs k1 k2 place list r k1'' k2'' place'' list''
    right_in C L = entered_by E.heap.tables.agree.length_list C L enters
