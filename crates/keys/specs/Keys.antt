-- 01, Node list: the key of a coordinate; and a key to look for, as the code has it. Definitions only.
use Rattle.std.specs.Prelude.{◌≡◌, ◌+◌, ◌*◌, ◌/◌, Bool, cond, not, ℤ, pos, neg_ℤ, Float}
use Rattle.std.specs.Float.{nan, inf, fin}
use Rattle.std.specs.Float.Ieee.{up, down}
use Rattle.laws.specs.Double.{nat, ◌*f◌, ◌-f◌, ◌≤f◌}
use Rattle.laws.specs.Within.{Within}
use Rattle.keys.specs.declared.SoughtKey.{SoughtKey}

-- "rounded half away from zero"
unfoldable pub rounded : Float → ℤ
rounded nan = pos 0
rounded (inf s) = pos 0
rounded (fin s m e) =
    let n = (2 * (m * up e) + down e) / (2 * down e) in
    cond s (neg_ℤ (pos n)) (pos n)

-- "Key: each coordinate × 1.0e8, rounded half away from zero (pack)": of one coordinate
unfoldable pub key : Float → ℤ
key x = rounded (x *f nat 100000000)

-- a coordinate in range whose key is looked for, and that key
abbrev pub sought_key : Float → SoughtKey
sought_key x = record { scaled = x *f nat 100000000; own = x }

abbrev pub key_of : SoughtKey → ℤ
key_of w = key w.own

pub record Sought (w : SoughtKey) : Type 0 where
  pub same : w ≡ sought_key w.own
  pub ranged : Within 1024 w.own

-- x is near a coordinate that is v when scaled: scaled, their difference has a square below 8
unfoldable pub near : Float → Float → Bool
near v x =
    let d = x *f nat 100000000 -f v in
    not (nat 8 ≤f d *f d)
