-- What was played is the next piece; once it is printed, what is left over can be played and printed in turn, and in the end all is printed or a write has failed (`PrintLaws`).
use mathlib.Core.Path.{subst, ap, ◌∙◌}
use native.Mathlib.Omega.{arith}
use Rattle.std.specs.Prelude.{length}
use Rattle.std.proofs.Common.{rules}
use Rattle.drill.specs.Output.{output}
use Rattle.printing.specs.Promises.{WrittenTo}
use Rattle.printing.proofs.PrintLaws.{goes_on, all_done, so_far_named, piece, next_so_far}
use Rattle.printing.proofs.play_all.Goals as goal

pub print_text-left-requires : goal.print_text-left-requires
print_text-left-requires g c = piece (goes_on c.loop-left.invariant.1 c.loop-left-test.true) c.play-played.ensures.plays c.loop-left-test.true

pub loop-left-preserved : goal.loop-left-preserved
loop-left-preserved g c =
    let so_far = goes_on c.loop-left.invariant.1 c.loop-left-test.true in (
      c.moved_to-r.ensures.0 ∙ c.loop-left.invariant.0,
      so_far_named
          (next_so_far so_far c.play-played.ensures.plays c.loop-left-test.true c.print_text-left.result c.print_text-left.new.count c.print_text-left.ensures c.play-played.auto.way)
          (ap (λ f. f.now) c.moved_to-r.ensures.0)
          c.moved_to-r.ensures.1,
      search rules,
      c.play-played.ensures.same_room ∙ c.loop-left.invariant.3,
    )

pub returns-clause-written : goal.returns-clause-written
returns-clause-written g c =
    subst (λ f. WrittenTo (length (output f.now)) c.loop-left.count) (c.loop-left.invariant.0 ∙ c.new-r.ensures.0)
    (all_done c.loop-left.invariant.1 (omega (arith, c.loop-left-test.false)))
