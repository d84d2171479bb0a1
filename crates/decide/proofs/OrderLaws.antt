-- An order by one number first, and by another order where the numbers are equal, is an order (`first_order`); so is that of cells by column (`column_order`).
use mathlib.Core.Path.{◌≡◌, refl, sym, ◌∙◌}
use mathlib.Core.Logic.{◌⊎◌, inl, inr, ⊎_elim}
use mathlib.Core.Bool.{Bool, true, false}
use Prim.Native.Nat.{ℕ, ◌/◌, ◌%◌, ◌≤◌, ◌<◌}
use native.Mathlib.Nat.{div-add-mod', mul-le-mul_right, suc-mul, mod-eq_of_lt, mod-one}
use native.Mathlib.Omega.{arith}
use native.Mathlib.Decide.{dec_lt, ℕ_discrete}
use lib.Dec.{ltb}
use borrow.Author.Tests.{lt-ltb, le-ltb, eq-eqb, ne_eqb, ltb-true, ltb-false}
use Rattle.decide.specs.Order.{less_or, column_first, Order}

-- ---- cases

-- Two numbers are equal or not.
pub split {ℓ} : {A : Type ℓ} (a b : ℕ) → (a ≡ b → A) → ((a ≡ b → ⊥) → A) → A
split a b f g = elim (ℕ_discrete a b) [ yes p ↦ f p | no q ↦ g q ]

-- One number is below another or not.
pub side : (x y : ℕ) → (x < y) ⊎ (y ≤ x)
side x y = elim (dec_lt x y) [ yes p ↦ inl p | no q ↦ inr (omega arith) ]

-- ---- one number first

less_lt : (x y : ℕ) (t : Bool) → x < y → less_or x y t ≡ true
unfolding less_or
less_lt x y t h = cc (lt-ltb x y h)

pub less_eq : (x y : ℕ) (t : Bool) → x ≡ y → less_or x y t ≡ t
unfolding less_or
less_eq x y t h = cc (le-ltb x y (omega arith), eq-eqb x y h)

pub less_ne : (x y : ℕ) (t : Bool) → (x ≡ y → ⊥) → less_or x y t ≡ ltb x y
unfolding less_or
less_ne x y t h =
    ⊎_elim (λ p. cc (lt-ltb x y p)) (λ g. cc (le-ltb x y g, ne_eqb x y h)) (side x y)

less_true : (x y : ℕ) (t : Bool) → less_or x y t ≡ true → (x < y) ⊎ ((x ≡ y) × (t ≡ true))
less_true x y t h =
    split x y (λ e. inr (e, sym (less_eq x y t e) ∙ h)) (λ d. inl (ltb-true x y (sym (less_ne x y t d) ∙ h)))

less_false : (x y : ℕ) (t : Bool) → less_or x y t ≡ false → (y < x) ⊎ ((x ≡ y) × (t ≡ false))
less_false x y t h =
    split x y
    (λ e. inr (e, sym (less_eq x y t e) ∙ h))
    (λ d. let g : y ≤ x = ltb-false x y (sym (less_ne x y t d) ∙ h) in inl (⊎_elim (λ l. l) (λ m. absurd (d (omega arith))) (side y x)))

-- An order by a number of each cell first, and by another order where the numbers are equal.
pub first_order : (f : ℕ → ℕ) {rest : ℕ → ℕ → Bool} → Order rest → Order (λ a b. less_or (f a) (f b) (rest a b))
first_order f order = record {
  irreflexive = λ a. less_eq _ _ _ refl ∙ order.irreflexive a;
  transitive = λ a b c h l.
      ⊎_elim
      (λ p. ⊎_elim (λ q. less_lt (f a) (f c) _ (omega arith)) (λ q. less_lt (f a) (f c) _ (omega (arith, q.0))) (less_true _ _ _ l))
      (λ p. ⊎_elim
      (λ q. less_lt (f a) (f c) _ (omega (arith, p.0)))
      (λ q. less_eq (f a) (f c) _ (p.0 ∙ q.0) ∙ order.transitive a b c p.1 q.1)
      (less_true _ _ _ l))
      (less_true _ _ _ h);
  total = λ a b h l.
      ⊎_elim
      (λ p. absurd (⊎_elim (λ q. omega arith) (λ q. omega (arith, q.0)) (less_false _ _ _ l)))
      (λ p. ⊎_elim (λ q. absurd (omega (arith, p.0))) (λ q. order.total a b p.1 q.1) (less_false _ _ _ l))
      (less_false _ _ _ h);
}

-- ---- cells by column

number_order : Order (λ a b. ltb a b)
number_order = record {
  irreflexive = λ a. le-ltb a a (omega arith);
  transitive = λ a b c h l. lt-ltb a c (omega (arith, ltb-true a b h, ltb-true b c l));
  total = λ a b h l. omega (arith, ltb-false a b h, ltb-false b a l);
}

pub column_order : (width : ℕ) → Order (column_first width)
unfolding column_first
column_order width = first_order (λ a. a % width) number_order

-- In one column the smaller cell number is that of the smaller row.
row_number : (width a b : ℕ) → 0 < width → a % width ≡ b % width → ltb a b ≡ ltb (a / width) (b / width)
row_number width a b wide e =
    ⊎_elim
    (λ l. lt-ltb a b (omega (arith, e, div-add-mod' a width, div-add-mod' b width, mul-le-mul_right width l, suc-mul (a / width) width)) ∙ sym (lt-ltb _ _ l))
    (λ g. le-ltb a b (omega (arith, e, div-add-mod' a width, div-add-mod' b width, mul-le-mul_right width g)) ∙ sym (le-ltb _ _ g))
    (side (a / width) (b / width))

-- "The smaller column, then the smaller row."
pub column_row : (width a b : ℕ) → 0 < width → column_first width a b ≡ less_or (a % width) (b % width) (ltb (a / width) (b / width))
unfolding column_first
column_row width a b wide =
    split (a % width) (b % width)
    (λ e. less_eq _ _ _ e ∙ row_number width a b wide e ∙ sym (less_eq _ _ _ e))
    (λ d. less_ne _ _ _ d ∙ sym (less_ne _ _ _ d))

-- ---- plans of one row or one column: the order is that of the cell numbers

pub one_row : (width a b : ℕ) → a < width → b < width → column_first width a b ≡ ltb a b
unfolding column_first
one_row width a b x y =
    split (a % width) (b % width)
    (λ e. less_eq _ _ _ e)
    (λ d. less_ne _ _ _ d ∙ cc (mod-eq_of_lt x, mod-eq_of_lt y))

pub one_column : (a b : ℕ) → column_first 1 a b ≡ ltb a b
unfolding column_first
one_column a b = less_eq _ _ _ (mod-one a ∙ sym (mod-one b))
