-- `SoughtKey::any_of_16_near`: its lanes are the squares that `near` takes.
use mathlib.Core.Path.{◌≡◌}
use mathlib.Core.List.{List, map}
use lib.ListN.{length, replicate}
use lib.Lanes.{zip2}
use lib.Ieee.{Float, of_bits, of_int}
use Rattle.std.proofs.lemmas.Simd.{zip2_splat, zip2_of_maps, splat_is_map}
use Rattle.laws.specs.Double.{nat, ◌*f◌, ◌-f◌}
use Rattle.laws.proofs.Lanes.{one-below}
use Rattle.keys.specs.Keys.{near}
use Rattle.keys.proofs.SoughtKey.any_of_16_near.Goals as goal

apart : Float → Float → Float → Float
apart m v x = x *f m -f v

steps : (m v : Float) (xs : List Float) → length xs ≡ 16
    → zip2 (λ x y. x -f y) (zip2 (λ x y. x *f y) xs (replicate 16 m)) (replicate 16 v) ≡ map (apart m v) xs
unfolding apart
steps m v xs h = zip2_of_maps (λ x y. x -f y) (λ x. x *f m) (λ _. v) xs (zip2_splat (λ x y. x *f y) xs 16 m h) (splat_is_map xs 16 v h)

squares : (m v : Float) (xs : List Float) → length xs ≡ 16
    → zip2 (λ x y. x *f y) (zip2 (λ x y. x -f y) (zip2 (λ x y. x *f y) xs (replicate 16 m)) (replicate 16 v))
    (zip2 (λ x y. x -f y) (zip2 (λ x y. x *f y) xs (replicate 16 m)) (replicate 16 v))
    ≡ map (λ x. apart m v x *f apart m v x) xs
squares m v xs h = zip2_of_maps (λ x y. x *f y) (apart m v) (apart m v) xs (steps m v xs h) (steps m v xs h)

pub returns : goal.returns
unfolding near of_bits of_int apart
returns c =
    let a = c.args in
    one-below (λ x. apart (nat 100000000) a.self.scaled x *f apart (nat 100000000) a.self.scaled x) (nat 8) a.x _ c.requires
    (squares (nat 100000000) a.self.scaled a.x c.requires)
