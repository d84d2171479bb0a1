-- A number below ten is its one digit; the digits of another are those of its tens, one more, and the last.
use Rattle.std.proofs.Common.{refl, ap, length, arith}
use Rattle.text.proofs.PutLaws.{put_as, put_last_digit}
use Rattle.text.proofs.DecimalLaws.{decimal_one, decimal_longer}
use Rattle.text.proofs.+put_digits.Goals as goal

pub put_byte-requires : goal.put_byte-requires
put_byte-requires t c = omega (arith, ap length (decimal_one c.args.n (omega arith)))

pub returns-then-n-lt10 : goal.returns-then-n-lt10
returns-then-n-lt10 t c = put_as (decimal_one c.args.n (omega arith)) refl c.put_byte.ensures

pub put_digits-end-requires : goal.put_digits-end-requires
put_digits-end-requires t c = (omega arith, omega (arith, decimal_longer c.args.n (omega arith) (omega arith)))

pub put_byte-requires-2 : goal.put_byte-requires-2
put_byte-requires-2 t c = omega (arith, decimal_longer c.args.n (omega arith) (omega arith))

pub returns : goal.returns
returns t c = put_last_digit c.args.n (omega arith) (omega arith) c.put_digits-end.ensures c.put_byte-2.ensures
