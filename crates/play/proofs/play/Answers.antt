-- Before the first action nothing is played; each turn plays one more; and where it stops, none is left over or the text has no room for another line (PlayLaws of drill).
use mathlib.Core.Path.{◌≡◌, refl, ap, ◌∙◌}
use mathlib.Core.Logic.{◌⊎◌}
use mathlib.Core.List.{List}
use Prim.Native.Nat.{ℕ, ◌+◌, ◌<◌}
use lib.ListN.{length}
use Rattle.std.specs.Borrow.{Bor}
use Rattle.std.proofs.Common.{rules}
use Rattle.decide.proofs.DecideLaws.{refuted}
use Rattle.tables.specs.Lent.{cells}
use Rattle.drill_file.specs.File.{action_at}
use Rattle.lines.specs.Lines.{room}
use Rattle.drill.proofs.PlayLaws.{going_start, going_more, going_cells, going_stops, room_over}
use Rattle.play.proofs.play.Goals as goal

pub loop-reader-init : goal.loop-reader-init
loop-reader-init c = (going_start c.requires.sound, refl, search rules, refl)

pub loop-reader-preserved : goal.loop-reader-preserved
loop-reader-preserved c =
    let i = c.loop-reader.invariant in
    let read : c.next.result ≡ action_at c.args.r.file.now c.loop-reader.reader.at = c.next.ensures ∙ ap (λ (f : Bor (List ℕ)). action_at f.now c.loop-reader.reader.at) i.1 in
    let turns = rw read at c.play_action-session.ensures.turns in (
      rw c.moved-reader.ensures.1 (going_more i.0 (c.goes_on.ensures.so c.loop-reader-test.true).0 turns),
      c.moved-reader.ensures.0 ∙ i.1,
      search rules,
      c.play_action-session.ensures.same_room ∙ i.3,
    )

pub returns-clause-plays : goal.returns-clause-plays
returns-clause-plays c =
    let G = c.loop-reader.invariant.0 in
    let over : (c.loop-reader.left ≡ 0) ⊎ (length c.loop-reader.text.room.now < c.loop-reader.text.used + room (cells c.loop-reader.session)) = room_over _ _ _ _ (refuted c.goes_on.ensures c.loop-reader-test.false) in
    going_stops G (rw (G.lines.long, going_cells G) at over)
