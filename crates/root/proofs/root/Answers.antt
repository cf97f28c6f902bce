-- `root`: each return is one case of the definition; laws in proofs/Cases.
use mathlib.Core.Path.{sym, ap, ◌∙◌, subst}
use lib.Dec.{T}
use lib.Ieee.{binary64, fits, of_bits, div}
use lib.Ieee.Bits.{of_bits-to_bits}
use Rattle.root.specs.Root.{root_of}
use Rattle.root.proofs.Cases.{pattern_pos, no_nan_bits, infinite, zeros, others, nan_is}
use Rattle.root.proofs.root.Goals as goal
use Rattle.root.proofs.root.Goals.{Start}

-- what owning an `f64` tells: the format holds it
held : (c : Start) → T (fits binary64 c.args.x)
held c = subst T (sym c.well_formed.0.1) tt

pub root_positive-requires : goal.root_positive-requires
root_positive-requires c = (pattern_pos c.args.x (held (goal.at.root_positive-requires c).Start) c.if-x.true, c.if-b-lt9218868437227405312.true)

pub float_from_bits-result : goal.float_from_bits-result
float_from_bits-result c = no_nan_bits c.root_positive.result c.root_positive.ensures.1

pub returns-then-b-lt9218868437227405312 : goal.returns-then-b-lt9218868437227405312
returns-then-b-lt9218868437227405312 c =
    c.root_positive.ensures.0 ∙ ap root_of (of_bits-to_bits binary64 c.args.x (held (goal.at.returns-then-b-lt9218868437227405312 c).Start))

pub returns-then-x : goal.returns-then-x
returns-then-x c = infinite c.args.x (held (goal.at.returns-then-x c).Start) c.if-x.true c.if-b-lt9218868437227405312.false

pub returns-then-x-2 : goal.returns-then-x-2
returns-then-x-2 c = zeros c.args.x c.if-x-2.true

pub returns : goal.returns
unfolding of_bits div
returns c = nan_is ∙ others c.args.x c.if-x.false c.if-x-2.false
