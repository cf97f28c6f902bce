-- `put_decimal`: it calls itself with a tenth of the number, which is the measure.
use Rattle.text.proofs.+put_decimal.Given as goal

abbrev pub decreases-put_decimal : goal.decreases-put_decimal
decreases-put_decimal l = l.n
