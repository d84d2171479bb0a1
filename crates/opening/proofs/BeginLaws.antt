-- A file refused or opened: the number that is found, and what a fresh start on its plan leaves.
use mathlib.Core.Path.{◌≡◌, refl, sym, ap, subst, ◌∙◌}
use mathlib.Core.List.{List}
use Prim.Native.Nat.{ℕ, ◌*◌, ◌≤◌}
use native.Mathlib.Omega.{arith}
use lib.ListN.{length, take}
use lib.Seq.{length-take-le}
use Rattle.refusal.specs.declared.Refusal.{Refusal}
use Rattle.refusal.specs.Numbers.{number_of}
use Rattle.refusal.proofs.NumberLaws.{numbered}
use Rattle.method.specs.Session as method_session
use Rattle.tables.specs.declared.Session.{Session}
use Rattle.tables.specs.Lent.{Tables, Frame, frame_of_size, floor_in, core, Fits}
use Rattle.tables.specs.Sound.{Sound}
use Rattle.entries.specs.Begin.{Openable, Opened, begun as begun_record}
use Rattle.session.specs.Refusals.{OpenRules}
use Rattle.session.proofs.Theorems.{fresh_sound}
use Rattle.change.specs.Promise.{with_plan}
use Rattle.standing.specs.Standing.{standing, stands, opened}
use Rattle.drill_file.specs.declared.Trailer.{Trailer}
use Rattle.drill_file.specs.File.{trailer_of, trailer_in, cells, cells_in, form_number}
use Rattle.drill_file.proofs.FileLaws.{trailer_there}
use Rattle.drill.specs.declared.Played.{Played}
use Rattle.drill_file.specs.Numbers.{open_number, plan_in, file_number}
use Rattle.drill_file.proofs.NumberLaws.{form_refused, formed, file_number_is, cells_formed}
use Rattle.drill.specs.Output.{frame_in, begun}
use Rattle.drill.specs.Promises.{Starts, Begins}
use Rattle.drill.proofs.NumberLaws.{open_number_is, number_opens}

-- ---- a file of wrong form

-- The number of its form is the file's.
pub form_refuses : (file : List ℕ) (r : Refusal) → number_of r ≡ form_number file → number_of r ≡ file_number file
form_refuses file r e = e ∙ sym (form_refused file (λ z. omega (arith, numbered r, e, z)))

-- ---- a file of right form, on tables of its size

-- The frame that a trailer tells.
abbrev frame_told : Trailer → Frame
frame_told x = frame_of_size x.width x.height

module _ (file : List ℕ) {t : Tables} (fits : Fits (cells_in file) t) (formed_right : form_number file ≡ 0) where
  plan_is : length t.plan ≡ 4 * cells (trailer_of file)
  plan_is = fits.plan ∙ ap (λ n. 4 * n) (cells_formed file formed_right)

  -- It has more bytes than its plan.
  plan_in_file : length t.plan ≤ length file
  plan_in_file = let F = formed file formed_right in omega (arith, plan_is, F.offset, F.whole)

  -- Its first bytes, as many as the plan has.
  pub plan_there : length t.plan ≡ length (take (length t.plan) file)
  plan_there = sym (length-take-le (length t.plan) file plan_in_file)

  -- What was read as its trailer is its trailer.
  is_trailer : {x : Trailer} → x ≡ trailer_in file → x ≡ trailer_of file
  is_trailer e = trailer_there _ e (formed file formed_right).long

  -- The file's first bytes as the plan: the tables fit, and the plan is the file's.
  module _ {plan : List ℕ} (p : plan ≡ take (length t.plan) file) where
    fits_planned : Fits (cells (trailer_of file)) (with_plan t plan)
    fits_planned =
        let e = cells_formed file formed_right in
        record {
          plan = ap length p ∙ length-take-le (length t.plan) file plan_in_file ∙ plan_is;
          g = fits.g ∙ e;
          rhs = fits.rhs ∙ e;
          parent = fits.parent ∙ e;
          k1 = fits.k1 ∙ e;
          k2 = fits.k2 ∙ e;
          place = fits.place ∙ e;
          list = fits.list ∙ e;
        }

    planned : plan ≡ plan_in file
    planned = p ∙ ap (λ k. take k file) plan_is

    number_planned : open_number (floor_in (frame_in file) plan) (trailer_of file).hunter (trailer_of file).target ≡ file_number file
    number_planned = ap (λ y. open_number (floor_in (frame_in file) y) (trailer_of file).hunter (trailer_of file).target) planned ∙ sym (file_number_is file formed_right)

    -- The number of the first of open's rules that these bytes break is the file's.
    pub number_found : {x : Trailer} {k : ℕ} → x ≡ trailer_in file → OpenRules x.width x.height x.hunter x.target (with_plan t plan) k → k ≡ file_number file
    number_found {x} {k} e r =
        open_number_is (formed file formed_right).size fits_planned (subst (λ (y : Trailer). OpenRules y.width y.height y.hunter y.target (with_plan t plan) k) (is_trailer e) r)
        ∙ number_planned

    -- Where it is 0, a fresh start can be made on them ..
    pub openable : {x : Trailer} → x ≡ trailer_in file → file_number file ≡ 0 → Openable (frame_told x) x.hunter x.target (with_plan t plan)
    openable {x} e z =
        subst (λ (y : Trailer). Openable (frame_told y) y.hunter y.target (with_plan t plan)) (sym (is_trailer e))
        (number_opens (formed file formed_right).size fits_planned (number_planned ∙ z))

    -- .. which leaves what the definition says.
    pub starts : {x : Trailer} {s : Session} {t' : Tables} {text : List ℕ} {r : Played} → x ≡ trailer_in file → file_number file ≡ 0
        → (s ≡ begun_record (frame_told x) x.hunter x.target) × Opened (frame_told x) x.hunter x.target (with_plan t plan) t'
        → r ≡ record { session = s; at = x.offset; left = x.actions } → Starts file text r t' text 0
    starts {x} {s} {t'} {text} e z d is = subst (λ (r : Played). Starts file text r t' text 0) (sym is) (record {
      sound = subst (λ y. Sound y t') (sym d.0) (fresh_sound (openable e z) d.1);
      after = left (subst (λ (y : Trailer). (s ≡ begun_record (frame_told y) y.hunter y.target) × Opened (frame_told y) y.hunter y.target (with_plan t plan) t') (is_trailer e) d);
      place = ap (λ (y : Trailer). y.offset) (is_trailer e);
      all_left = ap (λ (y : Trailer). y.actions) (is_trailer e);
      unused = refl;
      blank = refl;
    })
      where
        hunter : ℕ
        hunter = (trailer_of file).hunter

        target : ℕ
        target = (trailer_of file).target

        left : (s ≡ begun_record (frame_in file) hunter target) × Opened (frame_in file) hunter target (with_plan t plan) t' → stands s t' ≡ begun file
        left d =
            ap (λ y. stands y t') d.0 ∙ ap (λ y. standing (frame_in file) y (method_session.opened hunter target) (core t')) d.1.plan
            ∙ ap (standing (frame_in file) plan (method_session.opened hunter target)) d.1.is ∙ ap (λ y. opened (frame_in file) y hunter target) planned

-- ---- refused or opened

pub begins_opened : {file : List ℕ} {t : Tables} {text : List ℕ} {r : Played} {t' : Tables} {text' : List ℕ} {used : ℕ} → file_number file ≡ 0 → Starts file text r t' text' used → Begins file t text r t' text' used
begins_opened z S = record { refused = λ n. absurd (n z); opened = λ _. S }
