-- How a number is written. Definitions only.
use Rattle.std.specs.Prelude.{ℕ, ◌-◌, ◌^◌, false, List, []}
use Rattle.std.specs.Fmt.{digits, padded_integral, format_spec}

-- the hexadecimal digits of n, with zeros in front up to sixteen
abbrev pub sixteen : ℕ → List ℕ
sixteen n = padded_integral (format_spec 32 0 4 16 (2 ^ 64 - 1)) false [] (digits 16 false n)
