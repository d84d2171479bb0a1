-- What the fills left are blank tables; the hunter's rhs is set and its entry set right.
use Rattle.std.proofs.Common.{rules}
use Rattle.entries.proofs.FreshLaws.{blank_filled, fresh_became, fresh_count}
use Rattle.entries.proofs.fresh.Goals as goal

pub returns : goal.returns
returns c =
    let b = blank_filled
    c.requires.fits
    (c.fill.ensures.after (λ _ e. e))
    (c.fill-2.ensures.after (λ _ e. e))
    (c.fill-3.ensures.after (λ _ e. e))
    (c.fill-4.ensures.after (λ _ e. e))
    (c.fill-5.ensures.after (λ _ e. e))
    (c.fill-6.ensures.after (λ _ e. e))
    (c.fill-7.ensures.after (λ _ e. e)) in
    let entered = c.set_right_ahead.ensures.entered.became c.args.plan.now in
    record {
      became = fresh_became c.requires.aimed.0 b c.requires.aimed.1 entered;
      value = fresh_count c.requires.aimed.0 b c.requires.aimed.1 entered;
      same_tables = search rules;
    }
