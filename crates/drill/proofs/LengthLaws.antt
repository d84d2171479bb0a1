-- The output of a file has fewer bytes than a number of 32 bits counts, whatever the file is.
use mathlib.Core.Path.{◌≡◌, refl, ap, ◌∙◌}
use mathlib.Core.List.{List, [], ◌∷◌, ◌++◌}
use Prim.Native.Nat.{ℕ, zero, suc, ◌+◌, ◌*◌, ◌≤◌, ◌<◌, ◌^◌}
use native.Mathlib.Omega.{arith}
use native.Mathlib.Nat.{suc-mul, mul-le-mul}
use lib.ListN.{length, get_or, length-drop, length-append}
use Rattle.decide.proofs.ChooseLaws.{choose_is}
use Rattle.method.specs.Tables as method
use Rattle.method.specs.Graph.{Graph, Hunt}
use Rattle.method.specs.Loop.{run}
use Rattle.method.specs.Session as method_session
use Rattle.method.proofs.Searching.{of_search}
use Rattle.plan.specs.Costs.{cells}
use Rattle.plan.proofs.MoveLaws.{area}
use Rattle.answer.specs.Answer.{answer_of, cells_of}
use Rattle.standing.specs.Standing.{Standing, floor_at, graph_at, search_at}
use Rattle.std.specs.Prelude.{Option, Some, None}
use Rattle.drill_file.specs.declared.Action.{Action}
use Rattle.drill_file.specs.declared.Action.TheVariants.{Change, Hunter, Target, Search}
use Rattle.drill_file.specs.File.{trailer_of, actions_from, actions_of}
use Rattle.drill_file.specs.Numbers.{file_number}
use Rattle.drill_file.proofs.NumberLaws.{formed, file_formed}
use Rattle.text.specs.Text.{bytes, decimal}
use Rattle.text.proofs.DecimalLaws.{decimal_few}
use Rattle.lines.specs.Lines.{spaced, line, refused_line}
use Rattle.drill.specs.Numbers.{move_number}
use Rattle.drill.specs.Play.{Turn, turn, played}
use Rattle.drill.specs.Output.{begun, output}
use Rattle.drill.specs.Promises.{NextPiece}

-- A way has a cell more than it has links, at most one for each cell of the plan.
way_few : (H : Hunt) (parent : List ℕ) (links s : ℕ) (rest : List ℕ) → length (method_session.way_from H parent links s rest) ≤ links + 1 + length rest
unfolding method_session.way_from
way_few H parent zero s rest = omega arith
way_few H parent (suc links) s rest =
    choose_is (λ (l : List ℕ). length l ≤ suc links + 1 + length rest) _ (λ _. omega arith)
    (λ _. omega (arith, way_few H parent links (method_session.parent_cell (H.graph.into s) (get_or parent s 0)) (s ∷ rest)))

cells_few : (G : Graph) (σ : method_session.Session) (T : method.Tables) → length (cells_of (method_session.search G σ T).answer) ≤ G.cells + 1
unfolding method_session.answer_of
cells_few G σ T =
    of_search G σ T (λ o. Q o.answer) (λ _. omega arith) (λ _. choose_is Q _ (λ _. choose_is Q _ (λ _. omega arith) (λ _. way_fits)) (λ _. omega arith))
  where
    Q : method_session.Answer → Type 0
    Q a = length (cells_of a) ≤ G.cells + 1

    H : Hunt
    H = method_session.hunt_of G (method_session.taken_over G σ T).session

    way_fits : length (method_session.way_from H (run H (3 * G.cells) (method_session.taken_over G σ T).tables).tables.parent G.cells H.target []) ≤ G.cells + 1
    way_fits = omega (arith, way_few H (run H (3 * G.cells) (method_session.taken_over G σ T).tables).tables.parent G.cells H.target [])

-- A space and a number take 21 bytes at most.
spaced_few : (l : List ℕ) → length (spaced l) ≤ 21 * length l
unfolding spaced bytes
spaced_few [] = omega arith
spaced_few (s ∷ l) = omega (arith, length-append (bytes " " ++ decimal s) (spaced l), decimal_few s, spaced_few l)

-- A line has room for its words, two numbers and its cells.
refusal_few : (n : ℕ) → length (refused_line n) ≤ 74
unfolding bytes
refusal_few n = simp length-append (omega (arith, decimal_few n))

line_few : (a : method_session.Answer) → length (line (answer_of a) (cells_of a)) ≤ 53 + 21 * length (cells_of a)
unfolding bytes
line_few (method_session.caught s) = simp length-append (omega (arith, decimal_few s))
line_few (method_session.none_leads n) = simp length-append (omega (arith, decimal_few n))
line_few (method_session.way c n l) = simp length-append (omega (arith, decimal_few c, decimal_few n, spaced_few l))
line_few method_session.cut_off = simp length-append (omega (arith, decimal_few 9))

-- An action prints a line of so many bytes at most and keeps the size of the plan.
Short : ℕ → Turn → Type 0
Short n t = (length t.line ≤ 74 + 21 * n) × (cells (floor_at t.after) ≡ n)

turn_few : (S : Standing) (a : Option Action) → Short (cells (floor_at S)) (turn S a)
unfolding turn Short
turn_few S (Some (Change u d cost)) = choose_is (Short (cells (floor_at S))) _ (λ _. (omega arith, refl)) (λ _. (omega (arith, refusal_few (move_number (floor_at S) u d cost)), refl))
turn_few S (Some (Hunter s)) = choose_is (Short (cells (floor_at S))) _ (λ _. (omega arith, refl)) (λ _. (omega (arith, refusal_few 3), refl))
turn_few S (Some (Target s)) = choose_is (Short (cells (floor_at S))) _ (λ _. (omega arith, refl)) (λ _. (omega (arith, refusal_few 3), refl))
turn_few S (Some Search) = (omega (arith, line_few (search_at S).answer, cells_few (graph_at S) S.session S.tables), refl)
turn_few S None = (omega arith, refl)

played_few : (l : List (Option Action)) (S : Standing) (n : ℕ) → cells (floor_at S) ≡ n → length (played S l) ≤ length l * (74 + 21 * n)
unfolding played Short
played_few [] S n e = omega arith
played_few (a ∷ l) S n e =
    let h = turn_few S a in
    omega (arith, length-append (turn S a).line (played (turn S a).after l), played_few l (turn S a).after n (h.1 ∙ e), suc-mul (length l) (74 + 21 * n), h.0, e)

actions_count : (file : List ℕ) (at n : ℕ) → length (actions_from file at n) ≡ n
unfolding actions_from
actions_count file at zero = refl
actions_count file at (suc n) = ap suc (actions_count file (at + 5) n)

-- A file that is played has at most 13,104 actions, and 4,096 cells.
pub output_few : (file : List ℕ) → length (output file) < 2 ^ 32
unfolding output
output_few file = choose_is (λ (l : List ℕ). length l < 2 ^ 32) _ (λ z. of_played z) (λ _. omega (arith, refusal_few (file_number file)))
  where
    of_played : file_number file ≡ 0 → length (played (begun file) (actions_of file)) < 2 ^ 32
    of_played z =
        let F = formed file (file_formed file z) in
        let few : length (actions_of file) ≤ 13104 = omega (arith, actions_count file (trailer_of file).offset (trailer_of file).actions, F.whole, F.short) in
        let short : 74 + 21 * cells (floor_at (begun file)) ≤ 86090 = omega (arith, area F.size) in
        omega (arith, played_few (actions_of file) (begun file) (cells (floor_at (begun file))) refl, mul-le-mul few short)

-- So the bytes can be counted to the end of each piece.
pub piece_counted : {file : List ℕ} {printed : ℕ} {piece : List ℕ} → NextPiece file printed piece → printed + length piece < 2 ^ 32
piece_counted {file} {printed} {piece} N = omega (arith, N.within, ap length N.is, length-drop printed (output file), length-append piece N.rest, output_few file)
