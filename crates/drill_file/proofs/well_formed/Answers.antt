-- A badly formed action decides by itself, the reader moves past another, and where none is left all were well formed (`stops`, `goes_on` and `ends` in FileLaws).
use Rattle.std.proofs.Common.{◌≡◌, not, sym, ap, ◌∙◌, ◌+◌, ◌-◌, arith}
use Rattle.std.specs.Prelude.{is_some}
use Rattle.drill_file.specs.File.{action_at, actions_from, well_formed}
use Rattle.drill_file.proofs.FileLaws.{goes_on, stops, ends}
use Rattle.drill_file.proofs.well_formed.Goals as goal

pub returns-then-is_none : goal.returns-then-is_none
returns-then-is_none c =
    let read : c.next.result ≡ action_at c.args.file.now c.loop.reader.at = c.next.ensures ∙ ap (λ f. action_at f c.loop.reader.at) c.loop.invariant.file_stays in
    sym (c.loop.invariant.same ∙ stops _ _ _ (omega arith) (ap is_some (sym read) ∙ c.is_none.ensures ∙ ap not c.if-is_none.true))

pub loop-preserved : goal.loop-preserved
loop-preserved c =
    let read : c.next.result ≡ action_at c.args.file.now c.loop.reader.at = c.next.ensures ∙ ap (λ f. action_at f c.loop.reader.at) c.loop.invariant.file_stays in
    let left : c.args.actions - c.loop.counter - 1 ≡ c.args.actions - (c.loop.counter + 1) = omega arith in
    record {
      file_stays = cc;
      place = omega arith;
      same = c.loop.invariant.same
          ∙ goes_on _ _ _ (omega arith) (ap is_some (sym read) ∙ c.is_none.ensures ∙ ap not c.if-is_none.false)
          ∙ ap (λ n. well_formed (actions_from c.args.file.now n (c.args.actions - c.loop.counter - 1))) (sym c.moved-reader.ensures.1)
          ∙ ap (λ n. well_formed (actions_from c.args.file.now c.moved-reader.result.at n)) left;
    }

pub returns : goal.returns
returns c = sym (c.loop.invariant.same ∙ ends _ _ _ (omega arith))
