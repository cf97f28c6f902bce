-- The set of limits on delivery: 32 cuts; the bad corner of 01, Corner; the two cosines of 01, Split; the snap share of 01, Cells.
use Rattle.laws.specs.Double.{nat, lit, ◌+f◌, ◌-f◌, ◌/f◌}
use Rattle.limits.specs.declared.Limits.{Limits}

-- "2.0 - t / (1.0 + t), t = 0.36397023426620236 (160 degrees)"; "<= 0.9781476007338057 (12 degrees) and >= -0.9396926207859084 (160)"; "0.4 × the chord"
abbrev pub delivered : Limits
delivered =
    record {
      cuts = 32;
      corner = nat 2 -f lit 36397023426620236 17 /f (nat 1 +f lit 36397023426620236 17);
      least = nat 0 -f lit 9396926207859084 16;
      greatest = lit 9781476007338057 16;
      share = lit 4 1;
    }
