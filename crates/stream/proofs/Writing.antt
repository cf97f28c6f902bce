-- A part that was written after the first d bytes of a text: together they are its first d + r bytes.
use Rattle.std.proofs.Common.{ℕ, ◌+◌, ◌-◌, ◌≤◌, List, length, take, drop, sym, subst}
use Rattle.std.specs.declared.option.Option.{Option}
use Rattle.std.proofs.KnownBytes.{Appends-trans}
use Rattle.std.proofs.lemmas.List.{take-take}
use Rattle.std.proofs.Math.Seq.{take-add}
use Rattle.std.specs.Io.KnownBytes.{Appends}

pub more_written : (old mid new : Option (List ℕ)) (d r : ℕ) (t : List ℕ) → r ≤ length t - d → Appends old mid (take d t)
    → Appends mid new (take r (take (length t - d) (drop d t))) → Appends old new (take (d + r) t)
more_written old mid new d r t h a b =
    subst (λ (bs : List ℕ). Appends old new bs) (sym (take-add d r t))
    (Appends-trans old mid new _ _ a (subst (λ (bs : List ℕ). Appends mid new bs) (take-take r (length t - d) (drop d t) h) b))
