-- The set of limits as the code writes it, `Limits::DELIVERED`, is the set of the definition. The compiler makes the bits of
-- its doubles, and each is the double that the decimal number of 01 rounds to.
use mathlib.Core.Path.{◌≡◌, refl}
use lib.Ieee.{binary64, of_bits, of_int, round, add, sub, div}
use Rattle.laws.specs.Double.{lit}
use Rattle.limits.specs.declared.Limits.{Limits}
use Rattle.limits.specs.Limits.{delivered}

abbrev pub code : Limits
code =
    record {
      cuts = 32;
      corner = of_bits binary64 0x3FFB_BAFF_826D_3356;
      least = of_bits binary64 0xBFEE_11F6_4252_2D1C;
      greatest = of_bits binary64 0x3FEF_4CFC_327A_0080;
      share = of_bits binary64 0x3FD9_9999_9999_999A;
    }

pub code_is : code ≡ delivered
unfolding lit round of_bits of_int add sub div
code_is = refl
